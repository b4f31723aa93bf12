-- What the rules say of a line by its kind: its sort, its roles, and checks of nodes and rows by their numbers; and how the code's enums are read.
use Rattle.std.specs.Prelude.{◌≡◌, ℕ, ◌+◌, ◌-◌, Bool, true, false, ◌||◌, leb, eqb}
use Rattle.std.specs.Prelude.{if◌then◌else◌}
use Rattle.model.specs.Table.{Table, line_at, is_declaration, is_node, Ty, type_of, Node, node_kind, Row, row_kind}
use Rattle.model.specs.Table.{Role, Roles, roles, declaration_roles, node_roles, row_roles, Nest, opens_procedure}
use Rattle.model.specs.Table.Ty.{bool, uint, pointer}
use Rattle.model.specs.Table.Node.{variable, uint_constant, bool_constant, cell, plus, minus, less, at_most, equal, conditional, valid, class_variable}
use Rattle.model.specs.Table.Node.{reduced_cell, reduced_valid, no_node}
use Rattle.model.specs.Table.Row.{skip, assign, store, assert, assume, array, loop, loop_end, reduced_store, reduced_array, class_loop}
use Rattle.model.specs.Table.Row.{procedure, returns, call, no_row}
use Rattle.model.specs.Table.Role.{unused, flag, number, a_variable, a_node}
use Rattle.model.specs.Table.Nest.{opens, closes, neither}
use Rattle.model.specs.Accepted.{typed_node, typed_row, node_suits, row_suits}
use Rattle.model.specs.State.{MachineKind}
use Rattle.model.specs.State.MachineKind.{plain, reduced}
use Rattle.kinds.specs.declared.line_kind.Ty.{Ty as TyName}
use Rattle.kinds.specs.declared.line_kind.Node.{Node as NodeName}
use Rattle.kinds.specs.declared.line_kind.Row.{Row as RowName}
use Rattle.kinds.specs.declared.line_kind.Kind.{Kind}
use Rattle.kinds.specs.declared.asks.Sort.{Sort}
use Rattle.kinds.specs.declared.asks.Role.{Role as RoleName}
use Rattle.kinds.specs.declared.asks.Roles.{Roles as RoleNames}
use Rattle.kinds.specs.declared.asks.Nest.{Nest as NestName}
use Rattle.kinds.specs.declared.line_kind.Ty.TheVariants as ty
use Rattle.kinds.specs.declared.line_kind.Node.TheVariants as node
use Rattle.kinds.specs.declared.line_kind.Row.TheVariants as row
use Rattle.kinds.specs.declared.line_kind.Kind.TheVariants as kind
use Rattle.kinds.specs.declared.asks.Sort.TheVariants as sort
use Rattle.kinds.specs.declared.asks.Role.TheVariants as role
use Rattle.kinds.specs.declared.asks.Nest.TheVariants as nest

-- whose table it is, as the code is told
abbrev pub machine_of : Bool → MachineKind
machine_of false = plain
machine_of true = reduced

-- the sort of a kind: declaration, node, row (rule 1.3)
abbrev pub sort_number : ℕ → ℕ
sort_number k = if is_declaration k then 0 else (if is_node k then 1 else 2)

-- the roles of the operands of a line (rules 1.6, 1.10)
unfoldable pub roles_of : ℕ → Roles
roles_of k = if is_declaration k then declaration_roles k else (if is_node k then node_roles (node_kind k) else row_roles (row_kind k))

-- 7, of an operand by its role (rules 1.6, 1.10, 6.12)
abbrev pub value_suits : Role → ℕ → Bool
value_suits unused x = eqb x 0
value_suits flag x = leb x 1
value_suits number x = true
value_suits a_variable x = true
value_suits a_node x = true

-- 9, of a line by the types of the variables a (v) and c (u), and of the nodes a, b and c; the locals of a 43 are tested apart
abbrev pub of_operands : Ty → Ty → Ty → ℕ → Ty
of_operands a b c i = if eqb i 0 then a else (if eqb i 1 then b else c)

abbrev pub row_fits : Row → Ty → Ty → Ty → Ty → Ty → Bool
row_fits r v u a b c = opens_procedure r || typed_row (of_operands v v u) (of_operands a b c) r 0 1 2

unfoldable pub typed_by : ℕ → Ty → Ty → Ty → Ty → Ty → Bool
typed_by k v u a b c =
    if is_declaration k then false
    else (if is_node k then typed_node (of_operands a b c) (node_kind k) 0 1 2 else row_fits (row_kind k) v u a b c)

-- 12, of a line; r: the table is reduced; u: the variable that it names is a marked uint; p: it is a marked pointer
unfoldable pub suits_mark : ℕ → Bool → Bool → Bool → Bool
suits_mark k r u p = if is_declaration k then true else (if is_node k then node_suits r (node_kind k) u else row_suits r (row_kind k) u p)

-- the kind of line i
abbrev pub kind_at : Table → ℕ → ℕ
kind_at t i = (line_at t.words i).kind

-- a check of nodes and rows, by their numbers in their sort
abbrev pub of_node_or_row : (ℕ → Bool) → (ℕ → Bool) → Table → ℕ → Bool
of_node_or_row node row t i =
    if is_declaration (kind_at t i) then false
    else (if is_node (kind_at t i) then node (i - t.decls) else row (i - (t.decls + t.nodes)))

-- a check of rows alone
abbrev pub of_row : (ℕ → Bool) → Table → ℕ → Bool
of_row row t i = of_node_or_row (λ n. false) row t i

-- ---- the code's enums

abbrev pub ty_said : TyName → Ty
ty_said ty.Bool = bool
ty_said ty.Uint = uint
ty_said ty.Pointer = pointer

abbrev pub node_said : NodeName → Node
node_said node.Variable = variable
node_said node.UintConstant = uint_constant
node_said node.BoolConstant = bool_constant
node_said node.Cell = cell
node_said node.Plus = plus
node_said node.Minus = minus
node_said node.Less = less
node_said node.AtMost = at_most
node_said node.Equal = equal
node_said node.Conditional = conditional
node_said node.Valid = valid
node_said node.ClassVariable = class_variable
node_said node.ReducedCell = reduced_cell
node_said node.ReducedValid = reduced_valid
node_said node.Unknown = no_node

abbrev pub row_said : RowName → Row
row_said row.Skip = skip
row_said row.Assign = assign
row_said row.Store = store
row_said row.Assert = assert
row_said row.Assume = assume
row_said row.Array = array
row_said row.Loop = loop
row_said row.LoopEnd = loop_end
row_said row.ReducedStore = reduced_store
row_said row.ReducedArray = reduced_array
row_said row.ClassLoop = class_loop
row_said row.Procedure = procedure
row_said row.Return = returns
row_said row.Call = call
row_said row.Unknown = no_row

-- a kind is that of a line's first word
abbrev pub HasKind : Kind → ℕ → Type 0
HasKind (kind.Declaration t) k = (is_declaration k ≡ true) × (ty_said t ≡ type_of k)
HasKind (kind.Node n) k = (is_declaration k ≡ false) × (is_node k ≡ true) × (node_said n ≡ node_kind k)
HasKind (kind.Row r) k = (is_declaration k ≡ false) × (is_node k ≡ false) × (row_said r ≡ row_kind k)

abbrev pub sort_said : Sort → ℕ
sort_said sort.Declaration = 0
sort_said sort.Node = 1
sort_said sort.Row = 2

abbrev pub role_said : RoleName → Role
role_said role.Unused = unused
role_said role.Flag = flag
role_said role.Number = number
role_said role.Variable = a_variable
role_said role.Node = a_node

abbrev pub roles_said : RoleNames → Roles
roles_said r = roles (role_said r.a) (role_said r.b) (role_said r.c)

abbrev pub nest_said : NestName → Nest
nest_said nest.Opens = opens
nest_said nest.Closes = closes
nest_said nest.Neither = neither
