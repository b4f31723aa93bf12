-- The checks 5 to 10 and 12 of a table's line (section 6 of the rules): line i breaks the check. 11 and 16, of loops, are said with the table, 17 with
-- the procedures. What demand 3 needs of them is said in the model (specs/Accepted), and is used from there.
use Rattle.std.specs.Prelude.{ℕ, ◌+◌, ◌-◌, max, Bool, false, not, ◌&&◌, ◌||◌, ltb, leb}
use Rattle.lists.specs.Falling.{value_at}
use Rattle.model.specs.Table.{Table, Line, line_at, is_declaration, is_node, is_row, node_at, Role, Roles, node_roles, node_kind}
use Rattle.model.specs.Table.Role.{unused, flag, number, a_variable, a_node}
use Rattle.model.specs.State.{MachineKind}
use Rattle.model.specs.Accepted.{known, node_there, row_there, node_typed, row_typed, node_suits_mark, row_suits_mark}
use Rattle.kinds.specs.Kinds.{sort_number, roles_of, value_suits, kind_at, of_node_or_row}

-- 5 (rule 6.10). The first line whose sort is below that of an earlier line is one whose sort is
-- below that of the line before it; line 0 has none before it
unfoldable pub breaks5 : MachineKind → Table → ℕ → Bool
breaks5 m t i = not (known m (kind_at t i)) || ltb (sort_number (kind_at t i)) (sort_number (kind_at t (i - 1)))

-- 6 (rules 1.4, 6.11)
abbrev pub most_declarations : ℕ
most_declarations = 32

abbrev pub most_nodes : ℕ
most_nodes = 1024

abbrev pub most_rows : ℕ
most_rows = 256

unfoldable pub breaks6 : Table → ℕ → Bool
breaks6 t i =
    (is_declaration (kind_at t i) && leb most_declarations i)
    || ((is_node (kind_at t i) && leb (t.decls + most_nodes) i)
    || (is_row (kind_at t i) && leb (t.decls + t.nodes + most_rows) i))

-- 7, by the role of each operand (rules 1.6, 1.10, 6.12)
abbrev pub values_suit : Roles → Line → Bool
values_suit rs l = value_suits rs.a l.a && (value_suits rs.b l.b && value_suits rs.c l.c)

unfoldable pub breaks7 : Table → ℕ → Bool
breaks7 t i = not (values_suit (roles_of (kind_at t i)) (line_at t.words i))

-- 8 (rules 1.11, 6.13)
unfoldable pub breaks8 : Table → ℕ → Bool
breaks8 t i = of_node_or_row (λ n. not (node_there t n)) (λ r. not (row_there t r)) t i

-- 9 (rules 1.12, 6.14)
unfoldable pub breaks9 : Table → ℕ → Bool
breaks9 t i = of_node_or_row (λ n. not (node_typed t n)) (λ r. not (row_typed t r)) t i

-- the depth of a node, one more than that of its deepest operand (rule 1.13)
abbrev pub operand_depth : Role → (ℕ → ℕ) → ℕ → ℕ
operand_depth unused below x = 0
operand_depth flag below x = 0
operand_depth number below x = 0
operand_depth a_variable below x = 0
operand_depth a_node below x = below x

abbrev pub depth_by : Roles → (ℕ → ℕ) → Line → ℕ
depth_by rs below l = 1 + max (operand_depth rs.a below l.a) (max (operand_depth rs.b below l.b) (operand_depth rs.c below l.c))

unfoldable pub depth : Table → ℕ → ℕ
depth t n = value_at (λ j below. depth_by (node_roles (node_kind (node_at t j).kind)) below (node_at t j)) 0 n

-- 10 (rules 1.13, 6.15)
abbrev pub most_depth : ℕ
most_depth = 12

unfoldable pub breaks10 : Table → ℕ → Bool
breaks10 t i = of_node_or_row (λ n. ltb most_depth (depth t n)) (λ r. false) t i

-- 12 (rules 1.16, 1.17, 6.17)
unfoldable pub breaks12 : MachineKind → Table → ℕ → Bool
breaks12 m t i = of_node_or_row (λ n. not (node_suits_mark m t n)) (λ r. not (row_suits_mark m t r)) t i
