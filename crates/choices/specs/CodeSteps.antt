-- The code's own words: what the loop of the choice writer is lent, and how it stops.
use Rattle.std.specs.Prelude.{◌≡◌, ℕ, ◌<◌, ◌≤◌, List, [], length, drop, set, ltb, false}
use Rattle.std.specs.Prelude.{if◌then◌else◌}
use Rattle.model.specs.Table.{marked_pointer, row_at}
use Rattle.prepared.specs.Own.{own_table}
use Rattle.line_checks.specs.Rules.{depth, most_depth}
use Rattle.model.specs.Class.{pair}
use Rattle.model.specs.Step.{Report}
use Rattle.model.specs.Writer.{writer}
use Rattle.machine.specs.declared.Record.{Record}
use Rattle.prepared.specs.declared.Frame.{Frame}
use Rattle.prepared.specs.View.{table_for}
use Rattle.machine.specs.View.{state_of}
use Rattle.runs.specs.CodeSteps.{Ready}
use Rattle.runs.specs.declared.Ran.{Ran}
use Rattle.choices.specs.Ends.{report_of}

-- a plain table that passes its checks, and a record with no arrays
pub record Begins (t : List ℕ) (f : Frame) (r : Record) (cells : List ℕ) : Type 0 where
  pub ready : Ready t f r cells
  pub plain : f.classes ≡ false
  pub shallow : (n : ℕ) → n < f.counts.nodes → depth (table_for t f) n ≤ most_depth
  pub none : r.machine.count ≡ 0

-- ---- which arrays the reduced run holds reduced (rule 4.7): what is kept of the array that a row makes, at the place of the next array
abbrev pub flag_of : List ℕ → ℕ → ℕ
flag_of own row = if marked_pointer (own_table own) (row_at (own_table own) row).a then 1 else 0

unfoldable pub held_with : List ℕ → ℕ → ℕ → List ℕ → List ℕ
held_with own count row held = if ltb count 16 then set held count (flag_of own row) else held

-- what is handed back is a report; its numbers are in the list, which is otherwise as it was lent (rule 4.10)
pub record Writes (t : List ℕ) (f : Frame) (r : Ran) (cells list lent : List ℕ) (said : Report) : Type 0 where
  pub report : report_of t f r cells list ≡ said
  pub within : r.used ≤ length list
  pub kept : drop r.used list ≡ drop r.used lent

-- ... of the writer from a record on, with a limit
abbrev pub WriterWrites : List ℕ → Frame → Record → List ℕ → List ℕ → ℕ → Ran → List ℕ → List ℕ → Type 0
WriterWrites t f r cells lent limit z cells' list =
    Writes t f z cells' list lent (writer (pair f.c1 f.c2) (table_for t f) limit 0 [] (state_of t f r cells) (length lent))
