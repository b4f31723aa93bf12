-- The examples that are proved (rule 10.11): one list of answers of the public definitions, and what they must be (rules 8.11 to 8.14).
use Rattle.std.specs.Prelude.{◌≡◌, ℕ, List, [], ◌∷◌, length, replicate, true}
use Rattle.table.specs.Verdict.{Verdict}
use Rattle.table.specs.Verdict.Verdict.{Passes, Refused}
use Rattle.table.specs.Checks.{table_check}
use Rattle.reduction.specs.Reduction.{places_check, reduce_answer, reduce_buffer}
use Rattle.model.specs.Class.{pair}
use Rattle.model.specs.State.{MachineKind, cell_count}
use Rattle.model.specs.State.MachineKind.{plain, reduced}
use Rattle.model.specs.Step.{End}
use Rattle.model.specs.Step.End.{done, assert_false, out_of_steps, choice_not_allowed, no_choice_left}
use Rattle.model.specs.Step.Report.{ended, no_end}
use Rattle.runs.specs.Answers.{Said, fresh_said}
use Rattle.runs.specs.Answers.Said.{refusal, reports}
use Rattle.demands.specs.Neighbours.{cells_for}

-- the table T, line by line (rule 8.9)
unfoldable pub T : List ℕ
T =
    2 ∷ 1 ∷ 0 ∷ 0 ∷ 3 ∷ 1 ∷ 0 ∷ 0
    ∷ 17 ∷ 5 ∷ 0 ∷ 0 ∷ 17 ∷ 0 ∷ 0 ∷ 0 ∷ 17 ∷ 4 ∷ 0 ∷ 0 ∷ 16 ∷ 1 ∷ 0 ∷ 0 ∷ 16 ∷ 0 ∷ 0 ∷ 0 ∷ 20 ∷ 3 ∷ 4 ∷ 0 ∷ 17 ∷ 7 ∷ 0 ∷ 0 ∷ 19 ∷ 5 ∷ 0 ∷ 0 ∷ 24 ∷ 7 ∷ 6 ∷ 0
    ∷ 37 ∷ 1 ∷ 0 ∷ 0 ∷ 38 ∷ 0 ∷ 1 ∷ 2 ∷ 34 ∷ 5 ∷ 6 ∷ 0 ∷ 35 ∷ 8 ∷ 0 ∷ 0 ∷ 39 ∷ 0 ∷ 0 ∷ 0 ∷ []

-- its reduction with the pair 1, 3, in a buffer as long
abbrev pub Q : List ℕ
Q = reduce_buffer T (pair 1 3) T

-- what an example shows: end, row, steps and choices used of a run; how many cells an array takes; what a check says
pub data Shown : Type 0 where
  ran : End → ℕ → ℕ → ℕ → Shown
  no_end_shown : Shown
  cells : ℕ → Shown
  says : Verdict → Shown

abbrev pub shown : Said → Shown
shown (refusal number place after) = says (Refused number place)
shown (reports (ended e n s left) used) = ran e s.here.row n used
shown (reports no_end used) = no_end_shown

-- cells of the stated size
abbrev pub lent : MachineKind → List ℕ
lent m = replicate (cell_count m) 0

abbrev pub run_plain : List ℕ → ℕ → Shown
run_plain table limit = shown (fresh_said plain [] table (lent plain) [] limit)

abbrev pub run_reduced : List ℕ → ℕ → List ℕ → Shown
run_reduced table limit choices = shown (fresh_said reduced (pair 1 3) table (lent reduced) choices limit)

-- how many cells a reduced array of a length takes
abbrev pub takes : ℕ → ℕ → ℕ → Shown
takes c1 c2 len = cells (cells_for c1 c2 len)

unfoldable pub results : List Shown
results =
    says (table_check plain T)
    ∷ says (reduce_answer T (pair 1 3) (length T))
    ∷ says (table_check reduced Q)
    ∷ run_reduced Q 100 (0 ∷ 4 ∷ 0 ∷ 0 ∷ 9 ∷ [])
    ∷ run_reduced Q 100 (1 ∷ [])
    ∷ run_reduced Q 100 []
    ∷ run_reduced Q 0 []
    ∷ run_plain T 0
    ∷ run_plain [] 0
    ∷ run_reduced [] 0 []
    ∷ takes 1 3 0
    ∷ takes 1 3 1
    ∷ takes 1 3 2
    ∷ takes 1 3 3
    ∷ takes 1 3 5
    ∷ takes 0 2 0
    ∷ takes 0 2 1
    ∷ says (places_check (pair 1 1))
    ∷ says (places_check (pair 1 2))
    ∷ says (places_check (pair 0 2))
    ∷ []

unfoldable pub expected : List Shown
expected =
    -- T and its reduction pass
    says Passes
    ∷ says Passes
    ∷ says Passes
    -- T reduced, choices 0 4 0 0 9: an assert is false at row 3, after 4 steps and 5 choices
    ∷ ran assert_false 3 4 5
    -- choices 1: not allowed, at row 1 after 1 step; no choices: none left, there too
    ∷ ran choice_not_allowed 1 1 0
    ∷ ran no_choice_left 1 1 0
    -- limit 0: out of steps at row 0; the empty table is done. In both machines
    ∷ ran out_of_steps 0 0 0
    ∷ ran out_of_steps 0 0 0
    ∷ ran done 0 0 0
    ∷ ran done 0 0 0
    -- the pair 1, 3: arrays of length 0, 1, 2, 3, 5; the pair 0, 2: of length 0, 1
    ∷ cells 0
    ∷ cells 1
    ∷ cells 2
    ∷ cells 3
    ∷ cells 4
    ∷ cells 1
    ∷ cells 2
    -- the pair 1, 1 gets 13; the pairs 1, 2 and 0, 2 pass
    ∷ says (Refused 13 0)
    ∷ says Passes
    ∷ says Passes
    ∷ []

-- the single claim; proofs/ExampleProof proves it by computing
abbrev pub ExamplesHold : Type 0
ExamplesHold = results ≡ expected
