-- Types as numbers: of the numbers of types, what the code says of a line is what the model says of the types.
-- Assumes nothing.
use Prim.Native.Nat.{ℕ, ◌<◌}
use native.Mathlib.Omega.{arith}
use native.Mathlib.Decide.{dec_le}
use mathlib.Core.Path.{◌≡◌, refl, sym, ◌∙◌}
use mathlib.Core.Bool.{Bool, true, false}
use borrow.Author.Tests.{ltb-true, le-ltb, lt-leb, lt-ltb}
use Rattle.std.specs.Prelude.{if◌then◌else◌}
use Rattle.model.specs.Table.{Ty, is_declaration, is_node, Node, node_kind, Row, row_kind}
use Rattle.model.specs.Table.Node.{variable, uint_constant, bool_constant, cell, plus, minus, less, at_most, equal, conditional, valid, class_variable}
use Rattle.model.specs.Table.Node.{reduced_cell, reduced_valid, no_node}
use Rattle.model.specs.Table.Row.{skip, assign, store, assert, assume, array, loop, loop_end, reduced_store, reduced_array, class_loop}
use Rattle.model.specs.Table.Row.{procedure, returns, call, no_row}
use Rattle.model.specs.Accepted.{ty_number, typed_node}
use Rattle.kinds.specs.Kinds.{of_operands, row_fits, typed_by}
use Rattle.kinds.specs.Code.{node_typing, row_typing, typing, typed_case, typed_numbers}
use Rattle.kinds.proofs.KindLaws.{row_unknown}

-- no declaration is typed, whatever the numbers
pub declaration-untyped : (k v u a b c : ℕ) → is_declaration k ≡ true → false ≡ typed_numbers k v u a b c
unfolding typing typed_case
declaration-untyped k v u a b c e =
    let low : k < 16 = ltb-true k 16 e in
    rw (lt-leb 16 k low, row_unknown k (λ h. omega arith))

module _ (v u a b c : Ty) where
  node-types : (n : Node)
      → typed_case (node_typing n) (ty_number v) (ty_number u) (ty_number a) (ty_number b) (ty_number c) ≡ typed_node (of_operands a b c) n 0 1 2
  unfolding typed_case
  node-types variable = refl
  node-types uint_constant = refl
  node-types bool_constant = refl
  node-types cell = refl
  node-types plus = refl
  node-types minus = refl
  node-types less = refl
  node-types at_most = refl
  node-types equal = refl
  node-types conditional = refl
  node-types valid = refl
  node-types class_variable = refl
  node-types reduced_cell = refl
  node-types reduced_valid = refl
  node-types no_node = refl

  row-types : (r : Row) → typed_case (row_typing r) (ty_number v) (ty_number u) (ty_number a) (ty_number b) (ty_number c) ≡ row_fits r v u a b c
  unfolding typed_case
  row-types skip = refl
  row-types assign = refl
  row-types store = refl
  row-types assert = refl
  row-types assume = refl
  row-types array = refl
  row-types loop = refl
  row-types loop_end = refl
  row-types reduced_store = refl
  row-types reduced_array = refl
  row-types class_loop = refl
  row-types procedure = refl
  row-types returns = refl
  row-types call = refl
  row-types no_row = refl

  -- a line, by its kind: no declaration is typed
  pub typed-types : (k : ℕ) → typed_numbers k (ty_number v) (ty_number u) (ty_number a) (ty_number b) (ty_number c) ≡ typed_by k v u a b c
  unfolding typing typed_by
  typed-types k = elim (dec_le 16 k) [
    | yes l ↦ rw (le-ltb k 16 l) (line (is_node k))
    | no l ↦ let low : k < 16 = omega arith in
        rw (lt-ltb k 16 low)
        (sym (declaration-untyped k (ty_number v) (ty_number u) (ty_number a) (ty_number b) (ty_number c) (lt-ltb k 16 low)))
  ]
    where
      line : (n : Bool)
          → typed_case (if n then node_typing (node_kind k) else row_typing (row_kind k)) (ty_number v) (ty_number u) (ty_number a) (ty_number b) (ty_number c)
          ≡ (if n then typed_node (of_operands a b c) (node_kind k) 0 1 2 else row_fits (row_kind k) v u a b c)
      line true = node-types (node_kind k)
      line false = row-types (row_kind k)

-- the same, where the numbers are known to be those of types
pub typed-known : (k : ℕ) {v u a b c : ℕ} (tv tu ta tb tc : Ty) {x : Bool} → x ≡ typed_numbers k v u a b c
    → v ≡ ty_number tv → u ≡ ty_number tu → a ≡ ty_number ta → b ≡ ty_number tb → c ≡ ty_number tc → x ≡ typed_by k tv tu ta tb tc
typed-known k tv tu ta tb tc e pv pu pa pb pc = rw (pv, pu, pa, pb, pc) at e ∙ typed-types tv tu ta tb tc k
