-- What the code keeps in place of the model's words: counts, types of nodes as numbers, the number of open loops, and what the first checks leave.
use Rattle.std.specs.Prelude.{◌≡◌, ℕ, ◌+◌, ◌-◌, ◌*◌, ◌/◌, ◌<◌, ◌≤◌, Bool, true, false, not, ◌&&◌, List, length, Option, eqb}
use Rattle.std.specs.Prelude.{if◌then◌else◌}
use Rattle.lists.specs.First.{first}
use Rattle.model.specs.Table.{Table, line_at, is_declaration, is_node, is_row, Node, node_kind, Row, row_kind, Nest}
use Rattle.model.specs.Table.Node.{variable, uint_constant, bool_constant, cell, plus, minus, less, at_most, equal, conditional, valid, class_variable}
use Rattle.model.specs.Table.Node.{reduced_cell, reduced_valid, no_node}
use Rattle.model.specs.Table.Row.{skip, assign, store, assert, assume, array, loop, loop_end, reduced_store, reduced_array, class_loop}
use Rattle.model.specs.Table.Row.{procedure, returns, call, no_row}
use Rattle.model.specs.Table.Nest.{opens, closes, neither}
use Rattle.model.specs.Accepted.{node_there, row_there}
use Rattle.kinds.specs.declared.Counts.{Counts}
use Rattle.kinds.specs.declared.Lines.{Lines}
use Rattle.kinds.specs.Kinds.{kind_at, of_row}

abbrev pub table_by : List ℕ → Counts → Table
table_by w c = record { words = w; decls = c.decls; nodes = c.nodes; rows = c.rows }

abbrev pub table_in : Lines → Table
table_in l = table_by l.words.now l.counts

-- a check of rows, sought from row r on
abbrev pub first_row : (ℕ → Bool) → Table → ℕ → Option ℕ
first_row row t r = first (of_row row t) (t.decls + t.nodes + r) (length t.words / 4 - (t.decls + t.nodes + r))

-- open loops after a row, with so many open before it
abbrev pub open_after : Nest → ℕ → ℕ
open_after opens d = d + 1
open_after closes d = d - 1
open_after neither d = d

-- ---- types as numbers: 1 bool, 2 uint, 3 pointer (`ty_number` of the model), and any other number no type

-- what a node asks of the types of its operands, as the number of a case
abbrev pub node_typing : Node → ℕ
node_typing variable = 1
node_typing uint_constant = 1
node_typing bool_constant = 1
node_typing cell = 2
node_typing plus = 3
node_typing minus = 3
node_typing less = 4
node_typing at_most = 4
node_typing equal = 4
node_typing conditional = 5
node_typing valid = 2
node_typing class_variable = 1
node_typing reduced_cell = 2
node_typing reduced_valid = 2
node_typing no_node = 0

-- the same of a row
abbrev pub row_typing : Row → ℕ
row_typing skip = 1
row_typing assign = 6
row_typing store = 7
row_typing assert = 8
row_typing assume = 8
row_typing array = 9
row_typing loop = 10
row_typing loop_end = 1
row_typing reduced_store = 7
row_typing reduced_array = 9
row_typing class_loop = 10
-- its operands have no type; its locals are tested apart
row_typing procedure = 1
row_typing returns = 11
row_typing call = 12
row_typing no_row = 0

-- and of a line, by its kind
unfoldable pub typing : ℕ → ℕ
typing k = if is_node k then node_typing (node_kind k) else row_typing (row_kind k)

-- whether numbers are as a case asks: v and u are those of the variables a and c; a, b and c are those of the nodes
unfoldable pub typed_case : ℕ → ℕ → ℕ → ℕ → ℕ → ℕ → Bool
typed_case k v u a b c =
    if eqb k 1 then true
    else (if eqb k 2 then eqb a 3
    else (if eqb k 3 then not (eqb a 1) && eqb b 2
    else (if eqb k 4 then eqb a 2 && eqb b 2
    else (if eqb k 5 then eqb a 1 && eqb b c
    else (if eqb k 6 then eqb b v
    else (if eqb k 7 then eqb a 3 && eqb b 2
    else (if eqb k 8 then eqb a 1
    else (if eqb k 9 then eqb v 3 && eqb b 2
    else (if eqb k 10 then eqb v 2 && (eqb b 2 && eqb c 2)
    else (if eqb k 11 then eqb a 2
    else (if eqb k 12 then eqb b 2 && eqb u 2
    else false)))))))))))

-- 9, of a line by its kind and by numbers; of the numbers of types it is `typed_by`
abbrev pub typed_numbers : ℕ → ℕ → ℕ → ℕ → ℕ → ℕ → Bool
typed_numbers k v u a b c = typed_case (typing k) v u a b c

-- what type a node gives, as the number of a case
abbrev pub node_result : Node → ℕ
node_result variable = 2
node_result uint_constant = 1
node_result bool_constant = 0
node_result cell = 1
node_result plus = 3
node_result minus = 3
node_result less = 0
node_result at_most = 0
node_result equal = 0
node_result conditional = 4
node_result valid = 0
node_result class_variable = 2
node_result reduced_cell = 1
node_result reduced_valid = 0
node_result no_node = 0

-- the number that it gives, from those of the variable a (v) and of the nodes a and b; of the numbers of types it is that of `type_by`
abbrev pub result_by : ℕ → ℕ → ℕ → ℕ → ℕ
result_by k v a b = if eqb k 1 then 2 else (if eqb k 2 then v else (if eqb k 3 then a else (if eqb k 4 then b else 1)))

-- ---- what earlier checks leave

-- 4, 5 and 6: the lines of each sort stand together, and are no more than their limit
pub record InSorts (t : Table) : Type 0 where
  pub whole : length t.words ≡ 4 * (t.decls + t.nodes + t.rows)
  pub few_decls : t.decls ≤ 32
  pub few_nodes : t.nodes ≤ 1024
  pub few_rows : t.rows ≤ 256
  pub declaration : (i : ℕ) → i < t.decls → is_declaration (kind_at t i) ≡ true
  pub node : (i : ℕ) → t.decls ≤ i → i < t.decls + t.nodes → is_node (kind_at t i) ≡ true
  pub row : (i : ℕ) → t.decls + t.nodes ≤ i → i < t.decls + t.nodes + t.rows → is_row (kind_at t i) ≡ true

-- 8
pub record There (t : Table) : Type 0 where
  pub nodes : (n : ℕ) → n < t.nodes → node_there t n ≡ true
  pub rows : (r : ℕ) → r < t.rows → row_there t r ≡ true

-- 6 and 8, of line i: where it is a 43, its locals are among the variables
abbrev pub LocalsFit : List ℕ → ℕ → Type 0
LocalsFit w i = (line_at w i).kind ≡ 43 → ((line_at w i).b ≡ 0 → ⊥) → (line_at w i).a + (line_at w i).b ≤ 32
