-- The kinds that a machine's table has in place of a plain table's, and what the checks say of those.
-- Assumes nothing.
use mathlib.Core.Path.{◌≡◌, refl, ap, ◌∙◌, fun_ext}
use Prim.Native.Nat.{ℕ, zero, suc, ◌-◌}
use mathlib.Core.Bool.{Bool, true, false}
use Rattle.std.specs.Prelude.{if◌then◌else◌}
use Rattle.lists.specs.First.{walk}
use Rattle.model.specs.Table.{Node, Row, Table, marked_pointer, marked_uint, matching_end, nest_at, nest_of, node_at, node_kind, row_at, row_kind, scanned, type_at}
use Rattle.model.specs.Table.{at_end, counted, home, is_opening, locals_at, locals_of, opening, opens_procedure, stretch, within}
use Rattle.model.specs.Table.Node.{variable, uint_constant, bool_constant, cell, plus, minus, less, at_most, equal, conditional, valid, class_variable}
use Rattle.model.specs.Table.Node.{reduced_cell, reduced_valid, no_node}
use Rattle.model.specs.Table.Row.{skip, assign, store, assert, assume, array, loop, loop_end, reduced_store, reduced_array, class_loop}
use Rattle.model.specs.Table.Row.{procedure, returns, call, no_row}
use Rattle.model.specs.State.{MachineKind, classed}
use Rattle.model.specs.State.MachineKind.{plain, reduced}

abbrev pub cell_in : MachineKind → Node
cell_in plain = cell
cell_in reduced = reduced_cell

abbrev pub valid_in : MachineKind → Node
valid_in plain = valid
valid_in reduced = reduced_valid

abbrev pub store_in : MachineKind → Row
store_in plain = store
store_in reduced = reduced_store

-- the kind that a node becomes, if its variable holds a class (u)
abbrev pub node_in : MachineKind → Bool → Node → Node
node_in m u variable = if u then class_variable else variable
node_in m u uint_constant = uint_constant
node_in m u bool_constant = bool_constant
node_in m u cell = cell_in m
node_in m u plus = plus
node_in m u minus = minus
node_in m u less = less
node_in m u at_most = at_most
node_in m u equal = equal
node_in m u conditional = conditional
node_in m u valid = valid_in m
node_in m u class_variable = class_variable
node_in m u reduced_cell = reduced_cell
node_in m u reduced_valid = reduced_valid
node_in m u no_node = no_node

-- the kind that a row becomes, if its variable holds a class (u), or points to reduced arrays (q)
abbrev pub row_in : MachineKind → Bool → Bool → Row → Row
row_in m u q skip = skip
row_in m u q assign = assign
row_in m u q store = store_in m
row_in m u q assert = assert
row_in m u q assume = assume
row_in m u q array = if q then reduced_array else array
row_in m u q loop = if u then class_loop else loop
row_in m u q loop_end = loop_end
row_in m u q reduced_store = reduced_store
row_in m u q reduced_array = reduced_array
row_in m u q class_loop = class_loop
row_in m u q procedure = procedure
row_in m u q returns = returns
row_in m u q call = call
row_in m u q no_row = no_row

-- a kind that a plain table has
abbrev pub PlainNode : Node → Type 0
PlainNode variable = Unit {0}
PlainNode uint_constant = Unit {0}
PlainNode bool_constant = Unit {0}
PlainNode cell = Unit {0}
PlainNode plus = Unit {0}
PlainNode minus = Unit {0}
PlainNode less = Unit {0}
PlainNode at_most = Unit {0}
PlainNode equal = Unit {0}
PlainNode conditional = Unit {0}
PlainNode valid = Unit {0}
PlainNode class_variable = ⊥
PlainNode reduced_cell = ⊥
PlainNode reduced_valid = ⊥
PlainNode no_node = Unit {0}

-- ... and what the checks say of its variables: those that 33, 37 or a call sets, and locals, are no marked uints
abbrev pub PlainRow : Table → Row → ℕ → ℕ → ℕ → Type 0
PlainRow t skip a b c = Unit {0}
PlainRow t assign a b c = marked_uint t a ≡ false
PlainRow t store a b c = Unit {0}
PlainRow t assert a b c = Unit {0}
PlainRow t assume a b c = Unit {0}
PlainRow t array a b c = marked_uint t a ≡ false
PlainRow t loop a b c = Unit {0}
PlainRow t loop_end a b c = Unit {0}
PlainRow t reduced_store a b c = ⊥
PlainRow t reduced_array a b c = ⊥
PlainRow t class_loop a b c = ⊥
PlainRow t procedure a b c = (i : ℕ) → within (stretch a b) i ≡ true → marked_uint t i ≡ false
PlainRow t returns a b c = Unit {0}
PlainRow t call a b c = marked_uint t c ≡ false
PlainRow t no_row a b c = Unit {0}

pub record PlainKinds (t : Table) : Type 0 where
  pub node : (n : ℕ) → PlainNode (node_kind (node_at t n).kind)
  pub row : (n : ℕ) → PlainRow t (row_kind (row_at t n).kind) (row_at t n).a (row_at t n).b (row_at t n).c

-- u has the lines of the plain table t, with the kinds of machine m: by which variables hold classes (us), or point to reduced arrays (qs)
pub record NodesIn (m : MachineKind) (us : ℕ → Bool) (t u : Table) : Type 0 where
  pub kind : (n : ℕ) → node_kind (node_at u n).kind ≡ node_in m (us (node_at t n).a) (node_kind (node_at t n).kind)
  pub a : (n : ℕ) → (node_at u n).a ≡ (node_at t n).a
  pub b : (n : ℕ) → (node_at u n).b ≡ (node_at t n).b
  pub c : (n : ℕ) → (node_at u n).c ≡ (node_at t n).c

pub record TableIn (m : MachineKind) (us qs : ℕ → Bool) (t u : Table) : Type 0 where
  pub nodes : NodesIn m us t u
  pub rows : u.rows ≡ t.rows
  pub count : u.nodes ≡ t.nodes
  pub decls : u.decls ≡ t.decls
  pub type : (i : ℕ) → type_at u i ≡ type_at t i
  pub classes : (i : ℕ) → classed m u i ≡ us i
  pub kind : (n : ℕ) → row_kind (row_at u n).kind ≡ row_in m (us (row_at t n).a) (qs (row_at t n).a) (row_kind (row_at t n).kind)
  pub a : (n : ℕ) → (row_at u n).a ≡ (row_at t n).a
  pub b : (n : ℕ) → (row_at u n).b ≡ (row_at t n).b
  pub c : (n : ℕ) → (row_at u n).c ≡ (row_at t n).c

-- u is the plain table t reduced
abbrev pub Reduces : Table → Table → Type 0
Reduces t u = TableIn reduced (marked_uint t) (marked_pointer t) t u

node-plain : (k : Node) → k ≡ node_in plain false k
node-plain variable = refl
node-plain uint_constant = refl
node-plain bool_constant = refl
node-plain cell = refl
node-plain plus = refl
node-plain minus = refl
node-plain less = refl
node-plain at_most = refl
node-plain equal = refl
node-plain conditional = refl
node-plain valid = refl
node-plain class_variable = refl
node-plain reduced_cell = refl
node-plain reduced_valid = refl
node-plain no_node = refl

row_plain : (k : Row) → k ≡ row_in plain false false k
row_plain skip = refl
row_plain assign = refl
row_plain store = refl
row_plain assert = refl
row_plain assume = refl
row_plain array = refl
row_plain loop = refl
row_plain loop_end = refl
row_plain reduced_store = refl
row_plain reduced_array = refl
row_plain class_loop = refl
row_plain procedure = refl
row_plain returns = refl
row_plain call = refl
row_plain no_row = refl

-- the plain machine takes the plain table itself
pub table-plain : (t : Table) → TableIn plain (λ i. false) (λ i. false) t t
table-plain t = record {
  nodes = record { kind = λ n. node-plain _; a = λ n. refl; b = λ n. refl; c = λ n. refl };
  rows = refl;
  count = refl;
  decls = refl;
  type = λ i. refl;
  classes = λ i. refl;
  kind = λ n. row_plain _;
  a = λ n. refl;
  b = λ n. refl;
  c = λ n. refl;
}

-- ---- loops end at the same rows, and procedures open there

same-nest : (m : MachineKind) (u q : Bool) (k : Row) → nest_of (row_in m u q k) ≡ nest_of k
same-nest m u q skip = refl
same-nest m u q assign = refl
same-nest plain u q store = refl
same-nest reduced u q store = refl
same-nest m u q assert = refl
same-nest m u q assume = refl
same-nest m u true array = refl
same-nest m u false array = refl
same-nest m true q loop = refl
same-nest m false q loop = refl
same-nest m u q loop_end = refl
same-nest m u q reduced_store = refl
same-nest m u q reduced_array = refl
same-nest m u q class_loop = refl
same-nest m u q procedure = refl
same-nest m u q returns = refl
same-nest m u q call = refl
same-nest m u q no_row = refl

pub same-opens : (m : MachineKind) (u q : Bool) (k : Row) → opens_procedure (row_in m u q k) ≡ opens_procedure k
same-opens m u q skip = refl
same-opens m u q assign = refl
same-opens plain u q store = refl
same-opens reduced u q store = refl
same-opens m u q assert = refl
same-opens m u q assume = refl
same-opens m u true array = refl
same-opens m u false array = refl
same-opens m true q loop = refl
same-opens m false q loop = refl
same-opens m u q loop_end = refl
same-opens m u q reduced_store = refl
same-opens m u q reduced_array = refl
same-opens m u q class_loop = refl
same-opens m u q procedure = refl
same-opens m u q returns = refl
same-opens m u q call = refl
same-opens m u q no_row = refl

module _ {m : MachineKind} {us qs : ℕ → Bool} (t u : Table) (R : TableIn m us qs t u) where
  pub nest-same : (r : ℕ) → nest_at u r ≡ nest_at t r
  nest-same r = ap nest_of (R.kind r) ∙ same-nest m _ _ (row_kind (row_at t r).kind)

  pub same_end : (r : ℕ) → matching_end u r ≡ matching_end t r
  unfolding matching_end
  same_end r =
      ap (λ (k : ℕ). walk (λ i rest. scanned (nest_at u i) i rest) (λ d. k) (suc r) (k - suc r) 0) R.rows
      ∙ ap (λ (g : ℕ → (ℕ → ℕ) → ℕ → ℕ). walk g (λ d. t.rows) (suc r) (t.rows - suc r) 0)
      (fun_ext λ i. fun_ext λ rest. ap (λ k. scanned k i rest) (nest-same i))

  pub same-opening : (r : ℕ) → is_opening u r ≡ is_opening t r
  same-opening r = ap opens_procedure (R.kind r) ∙ same-opens m _ _ (row_kind (row_at t r).kind)

  pub same-at_end : (r : ℕ) → at_end u r ≡ at_end t r
  unfolding at_end
  same-at_end r = rw (R.rows, same-opening r)

  pub same_home : (r : ℕ) → home u r ≡ home t r
  unfolding home
  same_home zero = refl
  same_home (suc r) = rw (same-opening r, same_home r)

  pub same_number : (k : ℕ) → opening u k ≡ opening t k
  unfolding opening
  same_number k =
      ap (λ (n : ℕ). walk (λ i rest. counted (is_opening u i) i rest) (λ k. n) 0 n k) R.rows
      ∙ ap (λ (g : ℕ → (ℕ → ℕ) → ℕ → ℕ). walk g (λ k. t.rows) 0 t.rows k)
      (fun_ext λ i. fun_ext λ rest. ap (λ b. counted b i rest) (same-opening i))

  pub same-locals_of : (q : ℕ) → locals_of u q ≡ locals_of t q
  same-locals_of zero = refl
  same-locals_of (suc r) = ap (λ (a : ℕ). stretch a (row_at u r).b) (R.a r) ∙ ap (stretch (row_at t r).a) (R.b r)

  pub same_locals : (r : ℕ) → locals_at u r ≡ locals_at t r
  same_locals r = ap (locals_of u) (same_home r) ∙ same-locals_of (home t r)
