-- What the bench program answers to an input (section 8 of the rules).
use Rattle.std.specs.Prelude.{ℕ, ◌*◌, List, [], length, take, drop, replicate, ltb, Result, Ok, Err}
use Rattle.machine.specs.View.{end_of}
use Rattle.std.specs.Prelude.{if◌then◌else◌}
use Rattle.table.specs.declared.verdict.Refusal.{Refusal}
use Rattle.table.specs.Verdict.{Verdict, check_number}
use Rattle.table.specs.Verdict.Verdict.{Passes, Refused}
use Rattle.table.specs.Checks.{table_check, and_then}
use Rattle.file.specs.Read.{Read}
use Rattle.file.specs.Read.Read.{Lines, Refused as NotRead}
use Rattle.file.specs.Word.{word_at}
use Rattle.file.specs.Reading.{read_answer, read_buffer}
use Rattle.model.specs.Class.{pair}
use Rattle.model.specs.State.MachineKind.{plain}
use Rattle.model.specs.Step.{End, Report}
use Rattle.model.specs.Step.Report.{ended, no_end}
use Rattle.model.specs.Reduce.{reduce}
use Rattle.model.specs.Demand3.{choices_used, plain_run, reduced_run, writer_run}
use Rattle.reduction.specs.Reduction.{places_check}
use Rattle.runs.specs.declared.Ran.{Ran}
use Rattle.choices.specs.Answers.{numbers_of}
use Rattle.pair.specs.declared.Line.{Line}
use Rattle.pair.specs.declared.Paired.{Paired}

-- What is said of a run: its end, row, steps and choices used. A run that was stuck would have no line, and the code has a line for each
pub data LineSaid : Type 0 where
  line : End → ℕ → ℕ → ℕ → LineSaid
  no_line : LineSaid

-- a refusal by its number and place (rule 8.2); else the plain run's line and the reduced run's (rule 8.3)
pub data PairSaid : Type 0 where
  refusal : ℕ → ℕ → PairSaid
  lines : LineSaid → LineSaid → PairSaid

-- by a verdict
abbrev pub said_by : Verdict → PairSaid → PairSaid
said_by Passes said = said
said_by (Refused number place) said = refusal number place

-- the code's line of a run that handed this back
abbrev pub line_from : Ran → Line
line_from ran = record { end = ran.end; row = ran.«record».machine.row; steps = ran.steps; used = ran.used }

-- a line and an answer of the code
abbrev pub line_of : Line → LineSaid
line_of l = line (end_of l.end) l.row l.steps l.used

abbrev pub said_of : Result Paired Refusal → PairSaid
said_of (Ok both) = lines (line_of both.plain) (line_of both.pair)
said_of (Err refused) = refusal (check_number refused.check) refused.place

-- a run's line, its choices being those of the list (rule 8.3)
abbrev pub line_said : List ℕ → Report → LineSaid
line_said list (ended e n s left) = line e s.here.row n (choices_used list (ended e n s left))
line_said list no_end = no_line

-- the choices that the writer counted, with room for 8,192 (rule 8.6)
abbrev pub written_choices : List ℕ → ℕ → List ℕ → List ℕ
written_choices ps limit P = numbers_of (writer_run ps P limit 8192)

-- the two lines, with one limit for all runs (rules 8.3, 8.6)
unfoldable pub lines_said : List ℕ → ℕ → List ℕ → PairSaid
lines_said ps limit P =
    let list = written_choices ps limit P in
    lines (line_said [] (plain_run P limit)) (line_said list (reduced_run ps (reduce P) limit list))

-- the table's checks, then the places', 13 (rules 6.2, 6.21). No other number can come out: the runs are lent buffers
-- of the stated sizes, and the reduction passes
unfoldable pub table_said : List ℕ → ℕ → List ℕ → PairSaid
table_said ps limit P = said_by (and_then (table_check plain P) (places_check ps)) (lines_said ps limit P)

-- by what the reader answers: the file's checks, 1 to 3, come first (rule 6.2); the table is the first of the words, four to a line
abbrev pub read_said : List ℕ → ℕ → Read → List ℕ → PairSaid
read_said ps limit (NotRead number place) words = refusal number place
read_said ps limit (Lines n) words = table_said ps limit (take (4 * n) words)

-- the reader is lent 5,248 words; a file above 22,016 bytes gets 1, so an input may be of any length (rule 8.1)
unfoldable pub file_said : List ℕ → ℕ → List ℕ → PairSaid
file_said ps limit file = read_said ps limit (read_answer file 5248) (read_buffer file (replicate 5248 0))

-- c1, c2 and the limit, then the file; fewer than 12 bytes get 1 (rule 8.1)
unfoldable pub pair_said : List ℕ → PairSaid
pair_said input =
    if ltb (length input) 12 then refusal 1 0
    else file_said (pair (word_at input 0) (word_at input 4)) (word_at input 8) (drop 12 input)
