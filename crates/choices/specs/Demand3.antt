-- Demand 3, said of the public definitions: the checks, the reduction, both runs and the choice writer. Proved in proofs/Demand3Proof.
use Rattle.std.specs.Prelude.{◌≡◌, ◌≢◌, ℕ, ◌^◌, ◌<◌, ◌≤◌, false, List, [], ◌++◌, length, drop}
use Rattle.table.specs.Verdict.Verdict.{Passes}
use Rattle.table.specs.Checks.{table_check}
use Rattle.model.specs.Table.{table_of, most}
use Rattle.model.specs.State.{State, cell_count}
use Rattle.model.specs.State.MachineKind.{plain, reduced}
use Rattle.model.specs.Step.{Report}
use Rattle.model.specs.Reduce.{reduce}
use Rattle.model.specs.Writer.{with_numbers}
use Rattle.model.specs.Demand3.{wants_cells, plain_run, choice_list, Matched, FullAfter, Numbers}
use Rattle.reduction.specs.Reduction.{places_check, reduce_answer, reduce_buffer}
use Rattle.runs.specs.Answers.{Said, fresh_said, continued_said}
use Rattle.runs.specs.Answers.Said.{reports}
use Rattle.records.specs.RecordPromises.{CanBe}
use Rattle.runs.specs.Promises.{SaysRight}
use Rattle.choices.specs.Answers.{wrote_said, writer_said}
use Rattle.choices.specs.Answers.Said.{refusal, writes}

-- what a plain and a reduced run say: the same end (with its reason), row and steps, states that agree, and the whole list used (rule 10.8)
pub record SayMatched (ps P list : List ℕ) (plain_says reduced_says : Said) : Type 0 where
  pub plain_report : Report
  pub reduced_report : Report
  pub plain_is : plain_says ≡ reports plain_report 0
  pub reduced_is : reduced_says ≡ reports reduced_report (length list)
  pub matched : Matched ps P list plain_report reduced_report

-- list full: the report of the writer that `FullAfter` describes
pub record SaysFull (ps P : List ℕ) (limit : ℕ) (cells lent : List ℕ) : Type 0 where
  pub report : Report
  pub says : writer_said ps P cells lent limit ≡ wrote_said lent report
  pub full : FullAfter ps P limit (length lent) report

-- "Let P be any table that passes the checks, c1 and c2 any accepted pair, and Q the table that demand 2 makes of them. Whatever the step
-- limit and whatever stands in the choice list, no run of P or Q, fresh or continued from a record that is not refused, meets an operand of
-- the wrong kind or a cell outside its memory. And whatever the step limit, for each fresh run of P that does not end for want of cells there
-- is a choice list under which a fresh run of Q with that limit uses exactly that list and ends the same way, at the same row, after as many
-- steps, with both tracked circuits' cells equal; the tool writes that list whenever the room it is lent holds it, and ends with "list full"
-- exactly when the room is shorter than the list."
-- Demand 3 (rule 10.5), here of any accepted places: "both tracked circuits' cells" are those of each tracked place.
pub record Demand3 (ps P : List ℕ) : Type 0 where
  -- `reduce_table` makes Q of P in a buffer as long, and Q passes
  pub reduces : (lent : List ℕ) → length lent ≡ length P → (reduce_answer P ps (length lent) ≡ Passes) × (reduce_buffer P ps lent ≡ reduce P)
  pub passes : table_check reduced (reduce P) ≡ Passes
  -- what `run_plain`, `run_reduced`, `continue_plain` and `continue_reduced` say: 14 for cells of another size, 15 for a record that the
  -- table cannot have, and in every other case an end, never the outcome that is no end
  pub plain_fresh : (cells : List ℕ) (limit : ℕ) → SaysRight plain [] (table_of P) [] cells (Unit {0}) (fresh_said plain [] P cells [] limit)
  pub reduced_fresh : (cells choices : List ℕ) → Numbers choices → (limit : ℕ)
      → SaysRight reduced ps (table_of (reduce P)) choices cells (Unit {0}) (fresh_said reduced ps (reduce P) cells choices limit)
  pub plain_continued : (s : State) (limit : ℕ)
      → SaysRight plain [] (table_of P) [] s.cells (CanBe plain [] (table_of P) s) (continued_said plain [] P s [] limit)
  pub reduced_continued : (s : State) (choices : List ℕ) → Numbers choices → (limit : ℕ)
      → SaysRight reduced ps (table_of (reduce P)) choices s.cells (CanBe reduced ps (table_of (reduce P)) s)
      (continued_said reduced ps (reduce P) s choices limit)
  -- the fresh runs, with cells of the stated sizes
  pub matched : (limit : ℕ) (cells reduced_cells : List ℕ) → length cells ≡ cell_count plain → length reduced_cells ≡ cell_count reduced
      → wants_cells (plain_run P limit) ≡ false
      → SayMatched ps P (choice_list ps P limit) (fresh_said plain [] P cells [] limit)
      (fresh_said reduced ps (reduce P) reduced_cells (choice_list ps P limit) limit)
  -- the list is one that `run_reduced` can be lent: its numbers are of 32 bits, as P's words are
  pub numbers : Numbers P → (limit : ℕ) → Numbers (choice_list ps P limit)
  -- the count fits 64 bits, for a limit of 32 bits (rule 10.8)
  pub counted : (limit : ℕ) → limit ≤ most → length (choice_list ps P limit) < 2 ^ 64
  -- what `write_choices` says: 14 for cells of another size; with room for the list, the end of the plain run (rules 4.11, 10.9)
  pub other_size : (limit : ℕ) (cells lent : List ℕ) → length cells ≢ cell_count plain → writer_said ps P cells lent limit ≡ refusal 14 0 cells lent
  pub fits : (limit : ℕ) (cells lent : List ℕ) → length cells ≡ cell_count plain → length (choice_list ps P limit) ≤ length lent
      → writer_said ps P cells lent limit
      ≡ writes (with_numbers (choice_list ps P limit) (plain_run P limit)) (length (choice_list ps P limit))
      (choice_list ps P limit ++ drop (length (choice_list ps P limit)) lent)
  -- "ends with "list full" exactly when the room is shorter than the list" (demand 3; rules 4.8 to 4.10)
  pub full : (limit : ℕ) (cells lent : List ℕ) → length cells ≡ cell_count plain → length lent < length (choice_list ps P limit)
      → SaysFull ps P limit cells lent

-- for any table that passes and any accepted places
abbrev pub Demand3Holds : Type 0
Demand3Holds = (ps : List ℕ) → places_check ps ≡ Passes → (P : List ℕ) → table_check plain P ≡ Passes → Demand3 ps P
