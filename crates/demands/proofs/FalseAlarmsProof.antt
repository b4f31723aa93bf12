-- False alarms on the last circuits.
-- Assumes nothing.
use Rattle.table.proofs.Passing.{passing, accepted}
use Rattle.model.specs.Table.{table_of}
use Rattle.model.specs.State.MachineKind.{reduced}
use Rattle.model.proofs.EmptyClassLaws.{after-can}
use Rattle.model.proofs.TruePlaceLaws.{rows-fail-alike, writes-judged-by-place}
use Rattle.demands.specs.FalseAlarms.{FalseAlarms, JudgedInEveryState}
use Rattle.demands.proofs.NeighboursProof.{start-can}

judged-in-every-state : JudgedInEveryState
judged-in-every-state ps t pass s start choices n r after =
    let A = accepted reduced t (passing reduced t pass) in
    writes-judged-by-place ps reduced (table_of t) r (after-can ps reduced (table_of t) A n s r (start-can reduced ps (table_of t) A s start).can choices after)

pub false-alarms : FalseAlarms
false-alarms = record { judged = judged-in-every-state; alike = rows-fail-alike }
