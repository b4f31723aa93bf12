-- The run's own copy of a table: 32 declarations, what the run is told, 1,024 nodes and 256 rows, each sort at a fixed place and zeros where
-- the table has no line. It is a table in its own right; `Same` says that it runs as the table does.
use Rattle.std.specs.Prelude.{◌≡◌, ℕ, ◌+◌, ◌*◌, ◌<◌, ◌≤◌, List, [], length, get_or, eqb}
use Rattle.std.specs.Prelude.{if◌then◌else◌}
use Rattle.model.specs.Class.{pair}
use Rattle.model.specs.Table.{Table, node_at, row_at}
use Rattle.model.specs.State.{Value}
use Rattle.prepared.specs.declared.Frame.{Frame}
use Rattle.prepared.specs.declared.Form.{Form}
use Rattle.prepared.specs.declared.Form.TheVariants.{Bool as FBool, Uint as FUint, Class as FClass, Pointer as FPointer}
use Rattle.prepared.specs.View.{table_for, form_in, vars_by}

-- ---- where things stand in the copy
abbrev pub nodes_at : ℕ
nodes_at = 136

abbrev pub rows_at : ℕ
rows_at = 4232

abbrev pub own_words : ℕ
own_words = 5256

-- ---- what the run is told, in two lines of no kind: the two places, whether there are any, and how many declarations and rows the table has
unfoldable pub places_of : List ℕ → List ℕ
places_of own = if eqb (get_or own 131 0) 1 then pair (get_or own 129 0) (get_or own 130 0) else []

abbrev pub decls_of : List ℕ → ℕ
decls_of own = get_or own 133 0

abbrev pub rows_of : List ℕ → ℕ
rows_of own = get_or own 134 0

-- ---- the copy as a table: the lines before the nodes are the 32 declarations and the two that say what the run is told
abbrev pub own_table : List ℕ → Table
own_table own = record { words = own; decls = 34; nodes = 1024; rows = rows_of own }

-- ---- the form of value that a variable holds, worked out: a number in the last word of its declaration
abbrev pub form_of_number : ℕ → Form
form_of_number k = if eqb k 1 then FBool else (if eqb k 2 then FUint else (if eqb k 3 then FPointer else FClass))

abbrev pub number_of_form : Form → ℕ
number_of_form FBool = 1
number_of_form FUint = 2
number_of_form FClass = 4
number_of_form FPointer = 3

unfoldable pub own_form : List ℕ → ℕ → Form
own_form own i = form_of_number (get_or own (4 * i + 3) 0)

abbrev pub own_vars : List ℕ → List ℕ → List ℕ → List Value
own_vars own numbers bases = vars_by (decls_of own) (own_form own) numbers bases

-- ---- the copy of a table's words for a frame
abbrev pub flag_of : Frame → ℕ
flag_of f = if f.classes then 1 else 0

pub record Own (t : List ℕ) (f : Frame) (own : List ℕ) : Type 0 where
  pub size : length own ≡ own_words
  -- what the run is told, in lines of no kind
  pub headless : (get_or own 128 0 ≡ 0) × (get_or own 132 0 ≡ 0)
  pub first : get_or own 129 0 ≡ f.c1
  pub second : get_or own 130 0 ≡ f.c2
  pub classes : get_or own 131 0 ≡ flag_of f
  pub decls : decls_of own ≡ f.counts.decls
  pub rows : rows_of own ≡ f.counts.rows
  -- each declaration: its kind, its mark, and the form of value that it makes
  pub kind : (a : ℕ) → a < f.counts.decls → get_or own (4 * a) 0 ≡ get_or t (4 * a) 0
  pub mark : (a : ℕ) → a < f.counts.decls → get_or own (4 * a + 1) 0 ≡ get_or t (4 * a + 1) 0
  pub form : (a : ℕ) → a < f.counts.decls → get_or own (4 * a + 3) 0 ≡ number_of_form (form_in t f a)
  -- and no declaration past the last
  pub no_declaration : (a : ℕ) → f.counts.decls ≤ a → a < 32 → get_or own (4 * a) 0 ≡ 0
  -- each node, and no node past the last
  pub node : (n : ℕ) → n < f.counts.nodes → node_at (own_table own) n ≡ node_at (table_for t f) n
  pub no_node : (n : ℕ) → f.counts.nodes ≤ n → n < 1024 → (node_at (own_table own) n).kind ≡ 0
  -- each row, and none past the last
  pub row : (r : ℕ) → row_at (own_table own) r ≡ row_at (table_for t f) r
