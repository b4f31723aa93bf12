-- Why a row failed (rules 2.36 to 2.38), said of the public definitions: the reasons have the numbers 1 to 5, matching ends have equal reasons,
-- and the counter's is the closing row's own. Proved in proofs/ReasonsProof.
use Rattle.std.specs.Prelude.{◌≡◌, ℕ, ◌<◌, ◌≤◌, false, List, [], ◌∷◌, map, length}
use Rattle.table.specs.Verdict.Verdict.{Passes}
use Rattle.table.specs.Checks.{table_check}
use Rattle.model.specs.Class.{pair}
use Rattle.model.specs.Work.{Reason, reason_number}
use Rattle.model.specs.Work.Reason.{sum_too_large, below_zero, without_array, past_length, counter_too_large}
use Rattle.model.specs.State.{cell_count}
use Rattle.model.specs.State.MachineKind.{plain, reduced}
use Rattle.model.specs.Step.End.{failed}
use Rattle.model.specs.Step.Report.{ended, no_end}
use Rattle.model.specs.Reduce.{reduce}
use Rattle.model.specs.Demand3.{wants_cells, plain_run, choice_list}
use Rattle.model.specs.Reasons.{ValidFailsAsOperand, NodesNeverCounter, ClosingOnlyCounter, OthersNeverCounter}
use Rattle.runs.specs.Answers.{Said, fresh_said}
use Rattle.runs.specs.Answers.Said.{refusal, reports}
use Rattle.choices.specs.Answers.{Said as WriterSaid, writer_said}
use Rattle.choices.specs.Answers.Said.{refusal as not_writing, writes}

-- a run, and the choice writer, end with a failure for this reason (rule 2.37)
abbrev pub RunFails : Reason → Said → Type 0
RunFails why (reports (ended e n s left) used) = e ≡ failed why
RunFails why (reports no_end used) = ⊥
RunFails why (refusal number place cells) = ⊥

abbrev pub WriterFails : Reason → WriterSaid → Type 0
WriterFails why (writes (ended e n s numbers) count list) = e ≡ failed why
WriterFails why (writes no_end count list) = ⊥
WriterFails why (not_writing number place cells list) = ⊥

-- Where the fresh run of P fails, the matching fresh run of Q fails for the same reason, and so does the writer with room for its list;
-- where that run of Q fails, so does the run of P, for that reason, unless it ended for want of cells (rules 10.8, 10.9)
pub record SameReason (ps P : List ℕ) (limit : ℕ) (cells reduced_cells : List ℕ) (why : Reason) : Type 0 where
  pub there : RunFails why (fresh_said plain [] P cells [] limit)
      → RunFails why (fresh_said reduced ps (reduce P) reduced_cells (choice_list ps P limit) limit)
  pub back : wants_cells (plain_run P limit) ≡ false → RunFails why (fresh_said reduced ps (reduce P) reduced_cells (choice_list ps P limit) limit)
      → RunFails why (fresh_said plain [] P cells [] limit)
  pub written : (lent : List ℕ) → length (choice_list ps P limit) ≤ length lent → RunFails why (fresh_said plain [] P cells [] limit)
      → WriterFails why (writer_said ps P cells lent limit)

-- for any table that passes, any accepted pair, and cells of the stated sizes (rule 10.6)
abbrev pub MatchingReasons : Type 0
MatchingReasons =
    (c1 c2 : ℕ) → c1 < c2 → (P : List ℕ) → table_check plain P ≡ Passes → (limit : ℕ) (cells reduced_cells : List ℕ)
    → length cells ≡ cell_count plain → length reduced_cells ≡ cell_count reduced → (why : Reason) → SameReason (pair c1 c2) P limit cells reduced_cells why

-- the reasons, by their numbers from 1 on
abbrev pub the_reasons : List Reason
the_reasons = sum_too_large ∷ below_zero ∷ without_array ∷ past_length ∷ counter_too_large ∷ []

pub record Reasons : Type 0 where
  -- the five numbers (rule 2.36)
  pub numbers : map reason_number the_reasons ≡ 1 ∷ 2 ∷ 3 ∷ 4 ∷ 5 ∷ []
  -- matching ends have equal ones, as demand 3 says (rule 10.8)
  pub matching : MatchingReasons
  -- 1 to 4 are those of nodes and of rows other than 39, whose one reason is 5; 26 and 29 have none of their own (rule 2.36)
  pub nodes : NodesNeverCounter
  pub others : OthersNeverCounter
  pub closing : ClosingOnlyCounter
  pub validity : ValidFailsAsOperand
