-- "Let P be any table that passes the checks, c1 and c2 any accepted pair, and Q the table that demand 2 makes of them. Whatever the step
-- limit and whatever stands in the choice list, no run of P or Q, fresh or continued from a record that is not refused, meets an operand of
-- the wrong kind or a cell outside its memory. And whatever the step limit, for each fresh run of P that does not end for want of cells there
-- is a choice list under which a fresh run of Q with that limit uses exactly that list and ends the same way, at the same row, after as many
-- steps, with both tracked circuits' cells equal; the tool writes that list whenever the room it is lent holds it, and ends with "list full"
-- exactly when the room is shorter than the list."
-- The claim about whole runs of the public functions stands in the specs of `choices`, for any accepted places; here it is of a pair. What it
-- means for the two lines of `pair_run` stands in the specs of `pair`. (rules 10.5 to 10.9.) An end by failure has its reason in it, so "the same
-- way" is the same end and reason; that it is so stands in Reasons. Proved in proofs/Demand3Proof.
use Rattle.std.specs.Prelude.{◌≡◌, ℕ, ◌<◌, List}
use Rattle.table.specs.Verdict.Verdict.{Passes}
use Rattle.table.specs.Checks.{table_check}
use Rattle.model.specs.Class.{pair}
use Rattle.model.specs.State.MachineKind.{plain}
use Rattle.choices.specs.Demand3.{Demand3 as WholeRuns}
use Rattle.pair.specs.Promises.{LinesMatch}
use Rattle.demands.specs.Reasons.{MatchingReasons}

pub record Demand3 : Type 0 where
  pub whole_runs : (c1 c2 : ℕ) → c1 < c2 → (P : List ℕ) → table_check plain P ≡ Passes → WholeRuns (pair c1 c2) P
  pub two_lines : LinesMatch
  pub reasons : MatchingReasons
