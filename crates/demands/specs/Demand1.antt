-- "The answer to any file, table, pair, record or choice list is a result or one of the fifteen numbers in document 01, at the place named
-- there; a refusal writes to none of the buffers it was lent, and each run stops by its step limit."
-- (rules 10.1, 10.2.) Two numbers have come since: 16 and 17. Proved in proofs/Demand1Proof.
use Rattle.std.specs.Prelude.{◌≡◌, ℕ, ◌/◌, ◌≤◌, List, [], ◌++◌, length, drop}
use Rattle.table.specs.Verdict.{Verdict}
use Rattle.table.specs.Verdict.Verdict.{Passes, Refused}
use Rattle.table.specs.Checks.{table_check}
use Rattle.reduction.specs.Reduction.{places_check, reduce_answer, reduce_buffer}
use Rattle.file.specs.Read.{Read}
use Rattle.file.specs.Read.Read.{Lines, Refused as NotRead}
use Rattle.file.specs.Written.{Written}
use Rattle.file.specs.Written.Written.{Bytes, Refused as NotWritten}
use Rattle.file.specs.Word.{word_at}
use Rattle.file.specs.Reading.{blocks, lines_in_all, read_answer, read_buffer}
use Rattle.file.specs.Writing.{write_answer, write_buffer}
use Rattle.model.specs.State.{MachineKind, State}
use Rattle.model.specs.State.MachineKind.{plain, reduced}
use Rattle.model.specs.Step.Report.{ended, no_end}
use Rattle.runs.specs.Answers.{Said, fresh_said, continued_said}
use Rattle.runs.specs.Answers.Said.{refusal, reports}
use Rattle.choices.specs.Answers.{Said as WriterSaid, writer_said}
use Rattle.choices.specs.Answers.Said.{refusal as not_writing, writes}
use Rattle.pair.specs.Pairs.{LineSaid, PairSaid, pair_said}
use Rattle.pair.specs.Pairs.LineSaid.{line, no_line}
use Rattle.pair.specs.Pairs.PairSaid.{refusal as not_running, lines}
use Rattle.demands.specs.Refusals.{Number, file_numbers, table_numbers, pair_numbers, buffer_numbers, record_numbers, TheNumbers, OneOf}

-- the lines of a table of words
abbrev pub lines_of : List ℕ → ℕ
lines_of table = length table / 4

-- ---- a result, or a refusal that its function can give (rule 6.21); a buffer lent is then as it was (rule 6.4). A run's steps are at most its
-- limit (rule 2.28), and the outcome that is no end (rule 2.35) is no result
abbrev pub Checked : List Number → ℕ → Verdict → Type 0
Checked numbers n Passes = Unit {0}
Checked numbers n (Refused number place) = OneOf numbers 0 n number place

abbrev pub ReadRight : List ℕ → List ℕ → List ℕ → Read → Type 0
ReadRight bytes words after (Lines n) = n ≤ 1312
ReadRight bytes words after (NotRead number place) = OneOf (file_numbers ++ buffer_numbers) (blocks bytes) 0 number place × (after ≡ words)

abbrev pub WriteRight : List ℕ → List ℕ → List ℕ → Written → Type 0
WriteRight table bytes after (Bytes n) = n ≤ 22016
WriteRight table bytes after (NotWritten number place) = OneOf (table_numbers ++ buffer_numbers) 0 (lines_of table) number place × (after ≡ bytes)

abbrev pub ReduceRight : List ℕ → List ℕ → List ℕ → Verdict → Type 0
ReduceRight table lent after Passes = Unit {0}
ReduceRight table lent after (Refused number place) =
    OneOf (table_numbers ++ (pair_numbers ++ buffer_numbers)) 0 (lines_of table) number place × (after ≡ lent)

abbrev pub RunRight : List Number → List ℕ → List ℕ → List ℕ → ℕ → Said → Type 0
RunRight numbers table cells choices limit (refusal number place after) = OneOf numbers 0 (lines_of table) number place × (after ≡ cells)
RunRight numbers table cells choices limit (reports (ended e n s left) used) = (n ≤ limit) × (used ≤ length choices)
RunRight numbers table cells choices limit (reports no_end used) = ⊥

abbrev pub WriterRight : List ℕ → List ℕ → List ℕ → ℕ → WriterSaid → Type 0
WriterRight table cells lent limit (not_writing number place after list) =
    OneOf (table_numbers ++ (pair_numbers ++ buffer_numbers)) 0 (lines_of table) number place × (after ≡ cells) × (list ≡ lent)
WriterRight table cells lent limit (writes (ended e n s numbers) count list) = (n ≤ limit) × (count ≤ length lent)
WriterRight table cells lent limit (writes no_end count list) = ⊥

abbrev pub LineRight : ℕ → LineSaid → Type 0
LineRight limit (line e row n used) = n ≤ limit
LineRight limit no_line = ⊥

-- of the file in an input, and the limit there
abbrev pub PairRight : List ℕ → ℕ → PairSaid → Type 0
PairRight file limit (not_running number place) = OneOf (file_numbers ++ (table_numbers ++ pair_numbers)) (blocks file) (lines_in_all file) number place
PairRight file limit (lines first second) = LineRight limit first × LineRight limit second

-- ---- of every public function
pub record Demand1 : Type 0 where
  pub numbers : TheNumbers
  -- `read_file`, `write_file`
  pub reads : (bytes words : List ℕ) → ReadRight bytes words (read_buffer bytes words) (read_answer bytes (length words))
  pub writes_file : (table bytes : List ℕ) → WriteRight table bytes (write_buffer table bytes) (write_answer table (length bytes))
  -- `check_table`, `check_pair`, `reduce_table`
  pub checks : (m : MachineKind) (table : List ℕ) → Checked table_numbers (lines_of table) (table_check m table)
  pub checks_places : (ps : List ℕ) → Checked pair_numbers 0 (places_check ps)
  pub reduces : (table ps lent : List ℕ) → ReduceRight table lent (reduce_buffer table ps lent) (reduce_answer table ps (length lent))
  -- `run_plain`, `run_reduced`, `continue_plain`, `continue_reduced`
  pub runs_plain : (table cells : List ℕ) (limit : ℕ)
      → RunRight (table_numbers ++ buffer_numbers) table cells [] limit (fresh_said plain [] table cells [] limit)
  pub runs_reduced : (ps table cells choices : List ℕ) (limit : ℕ)
      → RunRight (table_numbers ++ (pair_numbers ++ buffer_numbers)) table cells choices limit (fresh_said reduced ps table cells choices limit)
  pub continues_plain : (table : List ℕ) (s : State) (limit : ℕ)
      → RunRight (table_numbers ++ (buffer_numbers ++ record_numbers)) table s.cells [] limit (continued_said plain [] table s [] limit)
  pub continues_reduced : (ps table : List ℕ) (s : State) (choices : List ℕ) (limit : ℕ)
      → RunRight (table_numbers ++ (pair_numbers ++ (buffer_numbers ++ record_numbers))) table s.cells choices limit
      (continued_said reduced ps table s choices limit)
  -- `write_choices`
  pub writes_choices : (ps table cells lent : List ℕ) (limit : ℕ) → WriterRight table cells lent limit (writer_said ps table cells lent limit)
  -- `pair_run`
  pub runs_pair : (input : List ℕ) → PairRight (drop 12 input) (word_at input 8) (pair_said input)
