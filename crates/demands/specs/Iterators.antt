-- One iterator, one loop at a time: 16 refuses a loop inside a loop that has its iterator, both in main or both in one procedure (rules 1.18, 6.2,
-- 6.21 to 6.23). Which tables it refuses and at which line, what that says of runs, who refuses them, and that their files are read; said of the
-- definitions of which those of the public promises are made. That the reduction of a table that passes still passes is in Demand2, `reduced_passes`.
-- Proved in proofs/IteratorsProof.
use Rattle.std.specs.Prelude.{◌≡◌, ℕ, ◌%◌, ◌^◌, ◌≤◌, List, map, length, drop}
use Rattle.table.specs.Verdict.Verdict.{Passes, Refused}
use Rattle.table.specs.Checks.{table_check}
use Rattle.table.specs.Iterators.{PassingSharesNone, SixteenAtInner, SharingRefused, ApartPasses}
use Rattle.loop_checks.specs.Sharing.{AllDiffer, iterators_of}
use Rattle.reduction.specs.Reduction.{reduce_answer}
use Rattle.file.specs.Written.Written.{Refused as NotWritten}
use Rattle.file.specs.Layout.{file_bytes}
use Rattle.file.specs.Writing.{write_answer}
use Rattle.file.specs.Statements.{AllBelow, ReadBack}
use Rattle.model.specs.Table.{table_of}
use Rattle.model.specs.State.{MachineKind, State, Loop}
use Rattle.model.specs.State.MachineKind.{plain}
use Rattle.model.specs.EmptyClasses.{StateAfter}
use Rattle.runs.specs.Answers.{fresh_said, continued_said}
use Rattle.runs.specs.Answers.Said.{refusal}
use Rattle.choices.specs.Answers.{writer_said}
use Rattle.choices.specs.Answers.Said.{refusal as not_writing}
use Rattle.pair.specs.Pairs.{pair_said}
use Rattle.pair.specs.Pairs.PairSaid.{refusal as not_running}
use Rattle.demands.specs.Neighbours.{Starts}

-- the rows of the loops open in what is at work (rule 2.3)
abbrev pub open_rows : State → List ℕ
open_rows s = map (λ (l : Loop). l.row) s.here.loops

-- No state of a run has, in what is at work, two loops open with one iterator, from a fresh start or a record that 15 does not refuse (rule 1.18)
abbrev pub OneLoopAtATime : Type 0
OneLoopAtATime =
    (m : MachineKind) (ps t : List ℕ) → table_check m t ≡ Passes → (s : State) → Starts m ps (table_of t) s → (choices : List ℕ)
    → (n : ℕ) (r : State) → StateAfter ps (table_of t) n s choices r → AllDiffer (iterators_of (table_of t) (open_rows r))

-- ---- What a table is refused with, each function answers that is given it, whatever the pair, the buffers and the record (rules 6.2, 6.21)
-- of the machine m: a fresh run, a continued one
pub record RunsRefuse (m : MachineKind) (t : List ℕ) (number place : ℕ) : Type 0 where
  pub fresh : (ps cells choices : List ℕ) (limit : ℕ) → fresh_said m ps t cells choices limit ≡ refusal number place cells
  pub continued : (ps : List ℕ) (s : State) (choices : List ℕ) (limit : ℕ) → continued_said m ps t s choices limit ≡ refusal number place s.cells

-- of plain tables: the file's writer, the reduction, the choice writer, the program
pub record PlainRefused (t : List ℕ) (number place : ℕ) : Type 0 where
  pub writes : (size : ℕ) → write_answer t size ≡ NotWritten number place
  pub reduces : (ps : List ℕ) (size : ℕ) → reduce_answer t ps size ≡ Refused number place
  pub writes_choices : (ps cells lent : List ℕ) (limit : ℕ) → writer_said ps t cells lent limit ≡ not_writing number place cells lent
  -- an input with a stored file of the table, where that fits a file
  pub runs_pair : AllBelow (2 ^ 32) t → length t % 4 ≡ 0 → length t ≤ 5248 → (input : List ℕ) → 12 ≤ length input → drop 12 input ≡ file_bytes t
      → pair_said input ≡ not_running number place

pub record Iterators : Type 0 where
  -- a table that 16 refuses has a loop with the iterator of a loop around it, and the place is the line of the first such, the inner one
  pub named : SixteenAtInner
  -- where the checks before it pass, 16 refuses each table that has such a loop, and no other
  pub sharing : SharingRefused
  pub apart : ApartPasses
  -- no table that passes has one, and no state of its runs has, in what is at work, two loops open with one iterator
  pub passing : PassingSharesNone
  pub one_at_a_time : OneLoopAtATime
  -- such tables, as any that is refused, are not run, and not written or reduced
  pub running : (m : MachineKind) (t : List ℕ) (number place : ℕ) → table_check m t ≡ Refused number place → RunsRefuse m t number place
  pub plain_tables : (t : List ℕ) (number place : ℕ) → table_check plain t ≡ Refused number place → PlainRefused t number place
  -- their stored files still read: any whole table that fits does, passing or not
  pub still_read : ReadBack
