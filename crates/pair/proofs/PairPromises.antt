-- The two lines say the same, by demand 3.
-- Assumes nothing.
use mathlib.Core.Path.{◌≡◌, ap, ◌∙◌}
use Prim.Native.Nat.{ℕ}
use native.Mathlib.Nat.{sub-zero}
use mathlib.Core.List.{List, [], append-nil}
use lib.ListN.{length}
use Rattle.table.specs.Verdict.Verdict.{Passes}
use Rattle.table.specs.Checks.{table_check, and_then}
use Rattle.table.proofs.Passing.{passing, accepted, both-pass}
use Rattle.model.specs.State.{State}
use Rattle.model.specs.State.MachineKind.{plain}
use Rattle.model.specs.Step.{End}
use Rattle.model.specs.Step.Report.{ended}
use Rattle.model.specs.Reduce.{reduce}
use Rattle.model.specs.Writer.{with_numbers}
use Rattle.model.specs.Demand3.{Demand3, choice_list, plain_run, reduced_run}
use Rattle.model.proofs.Demand3Proof.{demand-3}
use Rattle.reduction.specs.Reduction.{places_check}
use Rattle.choices.specs.Answers.{numbers_of}
use Rattle.choices.proofs.Demand3Proof.{places-accepted}
use Rattle.pair.specs.Pairs.{written_choices, lines_said, table_said}
use Rattle.pair.specs.Pairs.LineSaid.{line}
use Rattle.pair.specs.Pairs.PairSaid.{lines}
use Rattle.pair.specs.Promises.{LinesMatch}

-- two runs with one end, at one row, after as many steps, the reduced one under the list that the writer wrote
same-said : (ps : List ℕ) (limit : ℕ) (P list : List ℕ) (end : End) (steps : ℕ) (last last_reduced : State)
    → and_then (table_check plain P) (places_check ps) ≡ Passes
    → written_choices ps limit P ≡ list → plain_run P limit ≡ ended end steps last [] → reduced_run ps (reduce P) limit list ≡ ended end steps last_reduced []
    → last_reduced.here ≡ last.here → table_said ps limit P ≡ lines (line end last.here.row steps 0) (line end last.here.row steps (length list))
unfolding table_said lines_said
same-said ps limit P list end steps last last_reduced e wrote p q row = rw (e, wrote, p, q, row, sub-zero (length list))

pub lines-match : LinesMatch
lines-match ps limit P e w room =
    let both = both-pass (table_check plain P) (places_check ps) e in
    let D : Demand3 ps P = demand-3 ps (places-accepted ps both.1) P (accepted plain P (passing plain P both.0)) in
    let M = D.matched limit w in
    let list : List ℕ = choice_list ps P limit in
    let wrote : written_choices ps limit P ≡ list
    = ap numbers_of (D.fits limit 8192 room ∙ ap (with_numbers list) M.plain_is) ∙ append-nil list in
    record {
      end = M.end;
      row = M.last.here.row;
      steps = M.steps;
      said = same-said ps limit P list M.end M.steps M.last M.last_reduced e wrote M.plain_is M.reduced_is M.agree.here;
    }
