-- Procedures.
-- Assumes nothing.
use mathlib.Core.Path.{◌≡◌, refl, sym, ap, ◌∙◌}
use mathlib.Core.Bool.{Bool, true, false}
use borrow.Author.Tests.{lt-ltb}
use Rattle.std.specs.Prelude.{if◌then◌else◌}
use Rattle.table.specs.Verdict.Verdict.{Passes, Refused}
use Rattle.table.proofs.Passing.{passing, accepted}
use Rattle.model.specs.Class.{pair}
use Rattle.model.specs.Table.{table_of}
use Rattle.model.specs.State.MachineKind.{plain}
use Rattle.model.proofs.Demand3Proof.{demand-3}
use Rattle.model.proofs.PairLaws.{pair-accepted}
use Rattle.model.proofs.UsesLaws.{uses-right}
use Rattle.model.proofs.IdleLocalLaws.{idle-locals-zero}
use Rattle.model.proofs.MainEndLaws.{done-at-main-end}
use Rattle.records.specs.Record.{record_fits}
use Rattle.records.proofs.RecordLaws.{fits-can}
use Rattle.demands.specs.Procedures.{IdleAreZero, DoneWhereMainEnds, StackRight, StackRefused, callers_left, CallersMatch, Procedures}
use Rattle.demands.proofs.NeighboursProof.{start-can}

idle-are-zero : IdleAreZero
idle-are-zero m ps t pass s start choices nl n r after =
    let A = accepted m t (passing m t pass) in
    let B = start-can m ps (table_of t) A s start in
    idle-locals-zero ps m (table_of t) A s B.can B.regular choices nl n r after

done-where-main-ends : DoneWhereMainEnds
done-where-main-ends m ps t pass s start choices n r after =
    let A = accepted m t (passing m t pass) in
    let B = start-can m ps (table_of t) A s start in
    done-at-main-end ps m (table_of t) A s B.can choices n r after

stack-refused : StackRefused
stack-refused m ps t s wrong = go (record_fits m ps t s) refl
  where
    go : (b : Bool) → record_fits m ps t s ≡ b → (if b then Passes else Refused 15 0) ≡ Refused 15 0
    go true f =
        let B = fits-can m ps t s f in
        let R = B.regular in
        absurd (wrong (record { few = R.few_callers; calls = B.can.stack; started = R.callers_started; idle = R.idle }))
    go false f = refl

callers-match : CallersMatch
callers-match c1 c2 h P pass limit cells =
    let M = (demand-3 (pair c1 c2) (pair-accepted c1 c2 ∙ lt-ltb c1 c2 h) P (accepted plain P (passing plain P pass))).matched limit cells in
    ap callers_left M.reduced_is ∙ M.agree.callers ∙ sym (ap callers_left M.plain_is)

pub procedures : Procedures
procedures = record { used = uses-right; idle = idle-are-zero; done = done-where-main-ends; refused = stack-refused; matched = callers-match }
