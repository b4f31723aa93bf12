-- What a run is told beside its table: which machine it is and its tracked places; what each variable holds, by its declaration; and the arrays.
use Rattle.std.specs.Prelude.{ℕ, List, get_or, leb, eqb}
use Rattle.std.specs.Prelude.{if◌then◌else◌}
use Rattle.lists.specs.Tab.{tab}
use Rattle.kinds.specs.Kinds.{machine_of}
use Rattle.model.specs.Class.{pair}
use Rattle.model.specs.Table.{Table, Ty, type_at}
use Rattle.model.specs.Table.Ty.{bool, uint, pointer}
use Rattle.model.specs.State.{MachineKind, Value, Array, classed, places_in}
use Rattle.model.specs.State.Value.{Truth, Uint, Class, Pointer}
use Rattle.prepared.specs.declared.Frame.{Frame}
use Rattle.prepared.specs.declared.Form.{Form}
use Rattle.prepared.specs.declared.Form.TheVariants.{Bool as FBool, Uint as FUint, Class as FClass, Pointer as FPointer}

-- ---- the frame: which machine it is, its tracked places, and the table of the words
abbrev pub kind_of : Frame → MachineKind
kind_of f = machine_of f.classes

-- the plain machine tracks no place, and the reduced one those of its pair
unfoldable pub places : Frame → List ℕ
places f = places_in (kind_of f) (pair f.c1 f.c2)

abbrev pub table_for : List ℕ → Frame → Table
table_for t f = record { words = t; decls = f.counts.decls; nodes = f.counts.nodes; rows = f.counts.rows }

-- ---- the form of value that a variable holds, by its declaration
abbrev pub form_for : Ty → Form
form_for bool = FBool
form_for uint = FUint
form_for pointer = FPointer

unfoldable pub form_in : List ℕ → Frame → ℕ → Form
form_in t f i = if classed (kind_of f) (table_for t f) i then FClass else form_for (type_at (table_for t f) i)

-- ---- the variables: each by its form, its number and its base
-- a bool is the number 0 or 1; any other number in its place is no bool, and check 15 refuses it
abbrev pub bool_or : ℕ → Value
bool_or x = if leb x 1 then Truth (eqb x 1) else Uint x

abbrev pub by_form : Form → ℕ → ℕ → Value
by_form FBool x base = bool_or x
by_form FUint x base = Uint x
by_form FClass x base = Class x
by_form FPointer x base = Pointer base x

-- so many variables, by the form of each and the columns of their numbers and bases
unfoldable pub vars_by : ℕ → (ℕ → Form) → List ℕ → List ℕ → List Value
vars_by n form numbers bases = tab n (λ i. by_form (form i) (get_or numbers i 0) (get_or bases i 0))

abbrev pub vars_of : List ℕ → Frame → List ℕ → List ℕ → List Value
vars_of t f numbers bases = vars_by f.counts.decls (form_in t f) numbers bases

-- ---- the arrays, by the columns of their first cells, lengths and shapes
abbrev pub array_in : List ℕ → List ℕ → List ℕ → ℕ → Array
array_in firsts lengths shapes i = record { start = get_or firsts i 0; len = get_or lengths i 0; reduced = eqb (get_or shapes i 0) 1 }

unfoldable pub arrays_of : ℕ → List ℕ → List ℕ → List ℕ → List Array
arrays_of count firsts lengths shapes = tab count (array_in firsts lengths shapes)
