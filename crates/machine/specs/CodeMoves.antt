-- What a row comes to, seen as the model's move, the machine and the state after a step, and what a row is lent.
use Rattle.std.specs.Prelude.{◌≡◌, ℕ, suc, ◌+◌, ◌<◌, ◌≤◌, ◌≢◌, List, [], ◌∷◌, length, get_or, drop, set, Bool, true, false}
use Rattle.std.specs.Prelude.{if◌then◌else◌}
use Rattle.model.specs.Class.{class}
use Rattle.model.specs.Table.{Table, row_at, Row, row_kind, nest_at, opening, locals_at}
use Rattle.model.specs.Table.Row.{store, reduced_store, loop, class_loop, call}
use Rattle.model.specs.Table.Nest.{opens}
use Rattle.model.specs.Work.{Out, Work, give}
use Rattle.model.specs.Work.Out.{gives, stuck}
use Rattle.model.specs.State.{Value, Caller, caller, State, position}
use Rattle.model.specs.State.Value.{Uint, Class}
use Rattle.model.specs.Step.{Move as ModelMove, cleared, past, with_var, with_loops, with_work, numbers_in, handed_over, argument, past_end, loop_at, row_rule}
use Rattle.model.specs.Step.{step}
use Rattle.model.specs.Step.Move.{to, stop}
use Rattle.prepared.specs.declared.Form.TheVariants.{Bool as FBool}
use Rattle.prepared.specs.Own.{own_words, places_of, decls_of, rows_of, own_table, own_form}
use Rattle.machine.specs.Reasons.{failed}
use Rattle.machine.specs.declared.Machine.{Machine}
use Rattle.machine.specs.declared.Move.{Move}
use Rattle.machine.specs.declared.Move.TheVariants.{Goes, Puts, Writes, Lays, Enters, Leaves, Calls, Returns}
use Rattle.machine.specs.declared.Worked.{Worked}
use Rattle.machine.specs.declared.Worked.TheVariants.{Moves, Ends, Not}
use Rattle.calls.specs.Stack.{depth_of, loops_of, callers_of}
use Rattle.calls.specs.CallAndReturn.{Procedures, CanCall, CanReturn}
use Rattle.machine.specs.View.{end_of, own_state}

-- ---- the record by its columns
abbrev pub columns : ℕ → List ℕ → List ℕ → ℕ → List ℕ → List ℕ → List ℕ → ℕ → List ℕ → List ℕ → List ℕ → Machine
columns row numbers bases loops rows starts ends count firsts lengths shapes = record {
  row = row;
  numbers = numbers;
  bases = bases;
  «open» = loops;
  loop_rows = rows;
  starts = starts;
  ends = ends;
  count = count;
  firsts = firsts;
  lengths = lengths;
  shapes = shapes;
}

-- ---- the record after a step: on the next row; with a variable's number and base; with a new array, for a pointer; with a loop entered, or left
abbrev pub passed : Machine → Machine
passed m = columns (m.row + 1) m.numbers m.bases m.«open» m.loop_rows m.starts m.ends m.count m.firsts m.lengths m.shapes

abbrev pub with_value : Machine → ℕ → ℕ → ℕ → Machine
with_value m a x base =
    columns (m.row + 1) (set m.numbers a x) (set m.bases a base) m.«open» m.loop_rows m.starts m.ends m.count m.firsts
    m.lengths m.shapes

abbrev pub with_laid : Machine → ℕ → ℕ → ℕ → Bool → Machine
with_laid m a first len reduced =
    columns (m.row + 1) (set m.numbers a 0) (set m.bases a (m.count + 1)) m.«open» m.loop_rows m.starts m.ends (m.count + 1)
    (set m.firsts m.count first) (set m.lengths m.count len) (set m.shapes m.count (if reduced then 1 else 0))

abbrev pub entered : Machine → ℕ → ℕ → ℕ → ℕ → ℕ → ℕ → Machine
entered m a x row depth from upto =
    columns (row + 1) (set m.numbers a x) m.bases (depth + 1) (set m.loop_rows depth row) (set m.starts depth from)
    (set m.ends depth upto) m.count m.firsts m.lengths m.shapes

abbrev pub exited : Machine → ℕ → ℕ → ℕ → ℕ → Machine
exited m a x depth next =
    columns next (set m.numbers a x) m.bases depth m.loop_rows m.starts m.ends m.count m.firsts m.lengths m.shapes

-- ... with a procedure begun, or the caller resumed
abbrev pub begun : Machine → List ℕ → ℕ → Machine
begun m numbers next =
    columns next numbers m.bases 0 m.loop_rows m.starts m.ends m.count m.firsts m.lengths m.shapes

abbrev pub resumed : Machine → List ℕ → List ℕ → List ℕ → List ℕ → ℕ → ℕ → Machine
resumed m numbers rows starts ends next loops =
    columns next numbers m.bases loops rows starts ends m.count m.firsts m.lengths m.shapes

-- ---- a call and a return, as the model has them where it comes to an end
abbrev pub called_by : Table → State → ℕ → ℕ → State
called_by t s k x =
    with_work s (position (suc (opening t k)) []) (caller s.here (numbers_in s.vars (locals_at t s.here.row)) ∷ s.callers)
    (handed_over s.vars (locals_at t s.here.row) (locals_at t (suc (opening t k))) (argument x))

unfoldable pub returned_by : Table → State → List Caller → ℕ → State
returned_by t s [] x = s
returned_by t s (c ∷ cs) x =
    past (with_var (with_work s c.here cs
    (handed_over s.vars (locals_at t s.here.row) (locals_at t c.here.row) (λ i. get_or c.locals i 0)))
    (row_at t c.here.row).c (Uint x))

-- ---- the state after a step: by the machine, the stack and the cells that it makes
unfoldable pub state_after : List ℕ → List ℕ → Machine → List ℕ → Move → State
state_after own stack m cells Goes = own_state own stack (passed m) cells
state_after own stack m cells (Puts a x base) = own_state own stack (with_value m a x base) cells
state_after own stack m cells (Writes i x) = own_state own stack (passed m) (set cells i x)
state_after own stack m cells (Lays a first len size reduced) = own_state own stack (with_laid m a first len reduced) (cleared first size cells)
state_after own stack m cells (Enters a x row depth from upto) = own_state own stack (entered m a x row depth from upto) cells
state_after own stack m cells (Leaves a x depth next) = own_state own stack (exited m a x depth next) cells
state_after own stack m cells (Calls k x) = called_by (own_table own) (own_state own stack m cells) k x
state_after own stack m cells (Returns x) = returned_by (own_table own) (own_state own stack m cells) (callers_of (own_table own) stack) x

-- ---- what a row came to, with a cursor into the list l
unfoldable pub move_out : List ℕ → List ℕ → Machine → List ℕ → List ℕ → Worked → Out ModelMove
move_out own stack m cells l (Moves x at) = gives (to (state_after own stack m cells x)) (drop at l)
move_out own stack m cells l (Ends e at) = gives (stop (end_of e)) (drop at l)
move_out own stack m cells l (Not why at) = failed l at why

-- ---- the bounds of a step, with so many cells lent
abbrev pub Can : List ℕ → List ℕ → Machine → ℕ → Move → Type 0
Can own stack m room Goes = Unit {0}
Can own stack m room (Puts a x base) = a < 32
Can own stack m room (Writes i x) = i < room
Can own stack m room (Lays a first len size reduced) = (a < 32) × (m.count < 16) × (first + size ≤ room)
Can own stack m room (Enters a x row depth from upto) = (a < 32) × (row < 256) × (depth < 8)
Can own stack m room (Leaves a x depth next) = (a < 32) × (next ≤ 256)
Can own stack m room (Calls k x) = CanCall own stack m.row k
Can own stack m room (Returns x) = CanReturn own stack m.row

unfoldable pub CanDo : List ℕ → List ℕ → Machine → ℕ → Worked → Type 0
CanDo own stack m room (Moves x at) = Can own stack m room x
CanDo own stack m room (Ends e at) = Unit {0}
CanDo own stack m room (Not why at) = Unit {0}

-- ---- what a row comes to is o, and its step is within its bounds
pub record Works (own stack : List ℕ) (m : Machine) (cells l : List ℕ) (r : Worked) (o : Out ModelMove) : Type 0 where
  pub said : move_out own stack m cells l r ≡ o
  pub can : CanDo own stack m (length cells) r

-- ... of a row of the kind k at which the record stands, by its operands, under the choices cs
abbrev pub RowWorks : List ℕ → List ℕ → Machine → List ℕ → List ℕ → Row → ℕ → ℕ → ℕ → List ℕ → Worked → Type 0
RowWorks own stack m cells l k a b c cs r =
    Works own stack m cells l r (row_rule (places_of own) (own_table own) (own_state own stack m cells) m.row k a b c cs)

-- ... of the row where the record stands: the model's step, read as a move
abbrev pub StepWorks : List ℕ → List ℕ → Machine → List ℕ → List ℕ → ℕ → Worked → Type 0
StepWorks own stack m cells l at r = Works own stack m cells l r (step (places_of own) (own_table own) (own_state own stack m cells) (drop at l))

-- ---- what a row is lent: a table and a record within the bounds of the checks
-- every bool of a record that a run keeps is 0 or 1 (rule 7.5)
pub record BoolsFit (own ns : List ℕ) : Type 0 where
  pub small : (i : ℕ) → i < decls_of own → own_form own i ≡ FBool → get_or ns i 0 ≤ 1

-- the record's columns are as long as its type says
pub record Sized (m : Machine) : Type 0 where
  pub numbers : length m.numbers ≡ 32
  pub bases : length m.bases ≡ 32
  pub rows : length m.loop_rows ≡ 8
  pub starts : length m.starts ≡ 8
  pub ends : length m.ends ≡ 8
  pub firsts : length m.firsts ≡ 16
  pub lengths : length m.lengths ≡ 16
  pub shapes : length m.shapes ≡ 16

-- the limits of a table, of arrays and, by 11, of open loops (rules 1.4, 1.15, 2.22); bools that 15 does not refuse
pub record Within (own : List ℕ) (m : Machine) (cells : List ℕ) : Type 0 where
  pub words : length own ≡ own_words
  pub sized : Sized m
  pub decls : decls_of own ≤ 32
  pub rows : rows_of own ≤ 256
  pub row : m.row ≤ rows_of own
  pub count : m.count ≤ 16
  pub loops : m.«open» ≤ 8
  pub inner : m.row < rows_of own → nest_at (own_table own) m.row ≡ opens → m.«open» < 8
  pub room : length cells ≤ 4294967295
  pub bools : BoolsFit own m.numbers

-- what a call or a return of the row where the record stands asks for: by 17, procedures and their locals; by 15, the callers; and a step of the
-- model that comes to an end or goes on
pub record CallsFit (own map stack : List ℕ) (m : Machine) (cells : List ℕ) : Type 0 where
  pub procedures : Procedures own map
  pub few : depth_of stack ≤ 8
  pub numbers : row_kind (row_at (own_table own) m.row).kind ≡ call → opening (own_table own) (row_at (own_table own) m.row).a < rows_of own
      → (row_at (own_table own) m.row).a < 16
  pub last : 1 ≤ depth_of stack → CanReturn own stack m.row
  pub goes : (cs : List ℕ) → step (places_of own) (own_table own) (own_state own stack m cells) cs ≢ stuck

-- ---- 34 and 40
abbrev pub store_row : Bool → Row
store_row true = reduced_store
store_row false = store

-- ---- 38, 42 and 39, with start and end worked out
abbrev pub loop_row : Bool → Row
loop_row true = class_loop
loop_row false = loop

-- what the iterator gets for a start
abbrev pub iter_of : List ℕ → Bool → ℕ → Value
iter_of ps true x = Class (class ps x)
iter_of ps false x = Uint x

-- where a loop that is not entered goes on: past the row `here` that repeats it, or past its end row
abbrev pub out_by : Bool → ℕ → Table → ℕ → Work ℕ
out_by true here t row = give (suc here)
out_by false here t row = past_end t row

-- the state with no more than the outermost loops open, so many
abbrev pub outer : List ℕ → List ℕ → Machine → List ℕ → ℕ → State
outer own stack m cells depth = with_loops (own_state own stack m cells) (loops_of depth m.loop_rows m.starts m.ends)

-- what a loop asks for: a table within the bounds, a row where the record stands and one of a loop, room for one more loop, and bools
pub record LoopFits (own ns : List ℕ) (h r d : ℕ) : Type 0 where
  pub decls : decls_of own ≤ 32
  pub rows : rows_of own ≤ 256
  pub here : h < 256
  pub row : r < 256
  pub depth : d < 8
  pub numbers : length ns ≡ 32
  pub bools : BoolsFit own ns

-- ... and row 39: so many open loops, by their columns
pub record RepeatFits (own ns rs ss es : List ℕ) (h n : ℕ) : Type 0 where
  pub words : length own ≡ own_words
  pub decls : decls_of own ≤ 32
  pub rows : rows_of own ≤ 256
  pub here : h < 256
  pub loops : n ≤ 8
  pub numbers : length ns ≡ 32
  pub loop_rows : length rs ≡ 8
  pub starts : length ss ≡ 8
  pub ends : length es ≡ 8
  pub bools : BoolsFit own ns

-- what the loop of a row comes to is the model's, whatever the rest of the record
pub record LoopWorks (own ns l : List ℕ) (here row : ℕ) (c : Bool) (x y depth : ℕ) (again : Bool) (at : ℕ) (r : Worked) : Type 0 where
  pub loops : («open» count : ℕ) (stack bs rows starts ends fs ls hs cells : List ℕ) → length rows ≡ 8 → length starts ≡ 8 → length ends ≡ 8
      → Works own stack (columns here ns bs «open» rows starts ends count fs ls hs) cells l r
      (loop_at (places_of own) (own_table own) (outer own stack (columns here ns bs «open» rows starts ends count fs ls hs) cells depth) row (loop_row c) x y
      (out_by again here (own_table own) row) (drop at l))
