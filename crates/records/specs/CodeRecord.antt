-- The code's own words, what the parts of check 15 say: the loops around a row by a walk back from it, the row of a caller, a variable by its form or
-- by its owner, an array by the place where it must start.
use Rattle.std.specs.Prelude.{◌≡◌, ℕ, zero, suc, ◌≤◌, Bool, true, false, not, ◌&&◌, ◌||◌, List, [], ◌∷◌, get_or, drop, ltb, leb, eqb}
use Rattle.model.specs.Class.{class_held, pair}
use Rattle.model.specs.Table.{Table, opening, row_at, row_kind, Nest, nested}
use Rattle.model.specs.State.{Caller, State}
use Rattle.std.specs.Prelude.{if◌then◌else◌}
use Rattle.std.specs.Prelude.{Option, Some, None}
use Rattle.prepared.specs.declared.Frame.{Frame}
use Rattle.prepared.specs.declared.Form.{Form}
use Rattle.prepared.specs.declared.Form.TheVariants.{Bool as FBool, Uint as FUint, Class as FClass, Pointer as FPointer}
use Rattle.prepared.specs.View.{vars_of}
use Rattle.machine.specs.declared.Machine.{Machine}
use Rattle.machine.specs.View.{state_by}
use Rattle.records.specs.Record.{same_numbers, is_call}

-- ---- the loops: the rows of the first n, innermost first
unfoldable pub rows_of : ℕ → List ℕ → List ℕ
rows_of zero rows = []
rows_of (suc n) rows = get_or rows n 0 ∷ rows_of n rows

-- where the walk stands: how many loops are yet to be opened, and how many of the record's are yet to be met; none, where the next is another
abbrev pub Walk : Type 0
Walk = Option (ℕ × ℕ)

-- row i opens a loop, with n of the record's left
unfoldable pub met_by : List ℕ → ℕ → ℕ → Walk
met_by rows zero i = None
met_by rows (suc n) i = if eqb (get_or rows n 0) i then Some (0, n) else None

-- before the loops os: the record has those that are not closed again
abbrev pub walk_out : List ℕ → Walk → List ℕ → Bool
walk_out rows (Some w) os = same_numbers (rows_of w.1 rows) (drop w.0 os)
walk_out rows None os = false

abbrev pub closed_in : Walk → ℕ
closed_in (Some w) = w.0
closed_in None = 0

pub record Walks (rows : List ℕ) (nest : Nest) (closed left i : ℕ) (r : Walk) : Type 0 where
  pub most : closed_in r ≤ suc closed
  pub walked : (os : List ℕ) → walk_out rows r os ≡ same_numbers (rows_of left rows) (drop closed (nested nest i os))

-- ---- a caller: row r is a 45 that calls the procedure with the first row q
unfoldable pub call_of : Table → ℕ → ℕ → Bool
call_of t r q = ltb r t.rows && (is_call (row_kind (row_at t r).kind) && eqb (suc (opening t (row_at t r).a)) q)

-- ---- the state of a machine, with any callers
abbrev pub state_in : List ℕ → Frame → List Caller → Machine → List ℕ → State
state_in t f callers m cells = state_by (vars_of t f m.numbers m.bases) callers m cells

-- ---- a variable, with so many arrays in the record
abbrev pub fits_by_form : Frame → ℕ → Form → ℕ → ℕ → Bool
fits_by_form f count FBool x base = leb x 1
fits_by_form f count FUint x base = true
fits_by_form f count FClass x base = class_held (pair f.c1 f.c2) x
fits_by_form f count FPointer x base = leb base count

-- its number, by the first row of what it is a local of, and of what is at work
abbrev pub idle_by : ℕ → ℕ → ℕ → Bool
idle_by owner q x = (eqb owner 0 || eqb owner q) || eqb x 0

-- ---- an array, which must start at `from`
abbrev pub array_fits : Frame → ℕ → ℕ → Bool → Bool
array_fits f start from reduced = eqb start from && (f.classes || not reduced)
