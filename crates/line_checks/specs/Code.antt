-- What the code keeps in place of the model's words: in buffers, types (as numbers) and depths of nodes.
use Rattle.std.specs.Prelude.{◌≡◌, ℕ, ◌+◌, ◌*◌, ◌<◌, Bool, List, get_or, ltb, eqb}
use Rattle.std.specs.Prelude.{if◌then◌else◌}
use Rattle.lists.specs.Tab.{all}
use Rattle.model.specs.Table.{Table, line_at, type_of, marked, node_kind, row_kind, Role, opens_procedure}
use Rattle.model.specs.Accepted.{node_type, ty_number}
use Rattle.kinds.specs.Kinds.{suits_mark}
use Rattle.kinds.specs.Code.{typed_numbers, node_result, result_by}
use Rattle.line_checks.specs.Rules.{operand_depth, depth}

-- the number that the buffer has for node x, 0 past its end
abbrev pub kept_type : List ℕ → ℕ → ℕ
kept_type types x = get_or types x 0

-- the buffer has the numbers of the types of the first n nodes
pub record Types (t : Table) (types : List ℕ) (n : ℕ) : Type 0 where
  pub right : (j : ℕ) → j < n → get_or types j 0 ≡ ty_number (node_type t j)

-- the number of the type of an operand of node n, that of bool where it is not smaller
abbrev pub type_below : List ℕ → ℕ → ℕ → ℕ
type_below types n x = if ltb x n then kept_type types x else 1

abbrev pub variable_type : List ℕ → ℕ → ℕ
variable_type w x = ty_number (type_of (get_or w (4 * x) 0))

-- the number of the type of the node at a line, by its number
abbrev pub line_type : List ℕ → List ℕ → ℕ → ℕ → ℕ
line_type w types i n =
    result_by (node_result (node_kind (line_at w i).kind)) (variable_type w (line_at w i).a) (type_below types n (line_at w i).a)
    (type_below types n (line_at w i).b)

-- a line's operands have the types that its kind asks
abbrev pub operands_typed : List ℕ → List ℕ → ℕ → Bool
operands_typed w types i =
    typed_numbers (line_at w i).kind (variable_type w (line_at w i).a) (variable_type w (line_at w i).c) (kept_type types (line_at w i).a)
    (kept_type types (line_at w i).b) (kept_type types (line_at w i).c)

-- the locals of a 43, n of them from a on, are uints
unfoldable pub locals_uints : List ℕ → ℕ → ℕ → Bool
locals_uints w a n = all n (λ i. eqb (variable_type w (a + i)) 2)

-- a line is typed: a 43 by its locals, any other by its operands
abbrev pub line_typed : List ℕ → List ℕ → ℕ → Bool
line_typed w types i = if opens_procedure (row_kind (line_at w i).kind) then locals_uints w (line_at w i).a (line_at w i).b else operands_typed w types i

-- the mark of the variable that a line names suits its kind
abbrev pub line_suits : List ℕ → Bool → ℕ → Bool
line_suits w r i = suits_mark (line_at w i).kind r (marked w 2 (line_at w i).a) (marked w 3 (line_at w i).a)

-- what the buffer keeps is a node's depth; 0 stands where none is kept yet
pub record Kept (t : Table) (depths : List ℕ) : Type 0 where
  pub right : (j : ℕ) → j < t.nodes → (get_or depths j 0 ≡ 0 → ⊥) → get_or depths j 0 ≡ depth t j

-- the depth of an operand of node n, by its role
abbrev pub depth_under : Table → ℕ → Role → ℕ → ℕ
depth_under t n role x = operand_depth role (λ j. if ltb j n then depth t j else 0) x
