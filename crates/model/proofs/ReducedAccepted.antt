-- The reduction of an accepted table is an accepted reduced table.
-- Assumes nothing.
use mathlib.Core.Path.{◌≡◌, refl, sym, ap, ◌∙◌, subst, fun_ext}
use Prim.Native.Nat.{ℕ, zero, suc, ◌+◌, ◌<◌}
use mathlib.Core.Bool.{Bool, true, false, not, ◌&&◌}
use lib.Dec.{eqb}
use Rattle.std.specs.Prelude.{if◌then◌else◌}
use Rattle.lists.specs.Tab.{all}
use Rattle.lists.specs.First.{walk}
use Rattle.lists.specs.Falling.{value_at}
use Rattle.lists.proofs.TabLaws.{all-at, all_true, same_sum}
use Rattle.model.specs.Table.{Node, Row, Table, Ty, line_at, line_count, marked_pointer, marked_uint, node_at, node_kind, node_roles, open_at, row_at, row_kind}
use Rattle.model.specs.Table.{Role, Roles, home, is_opening, locals_of, row_roles, table_of, type_at, within}
use Rattle.model.specs.Table.Ty.{bool}
use Rattle.model.specs.Table.Role.{unused, flag, number, a_variable, a_node}
use Rattle.model.specs.Table.Node.{variable, uint_constant, bool_constant, cell, plus, minus, less, at_most, equal, conditional, valid, class_variable}
use Rattle.model.specs.Table.Node.{reduced_cell, reduced_valid, no_node}
use Rattle.model.specs.Table.Row.{skip, assign, store, assert, assume, array, loop, loop_end, reduced_store, reduced_array, class_loop}
use Rattle.model.specs.Table.Row.{procedure, returns, call, no_row}
use Rattle.model.specs.State.MachineKind.{plain, reduced}
use Rattle.model.specs.Accepted.{Accepted, known, node_suits, node_suits_mark, node_there, node_type, node_typed, misnested, row_suits, row_suits_mark}
use Rattle.model.specs.Accepted.{row_there, row_typed, type_by, typed_node, typed_row}
use Rattle.model.specs.Demand3.{ReductionAccepted}
use Rattle.model.specs.Procedures.{Uses, allowed, keeps_procedures, line_uses, node_uses, opened_before, opens_rightly, operand_uses, owner, procedure_rule}
use Rattle.model.specs.Procedures.{together, uses_own}
use Rattle.model.specs.Procedures.Uses.{globals, locals_of_one}
use Rattle.model.proofs.KindsIn.{PlainNode, PlainRow, Reduces, nest-same, node_in, row_in, same_end, same_home, same-locals_of, same_number, same-opening}
use Rattle.model.proofs.KindsIn.{same-opens}
use Rattle.model.proofs.ReduceLaws.{known-reduced, length-reduce, reduce-kind, reduced_table, reduces, same-marked_pointer, same-marked_uint, table-reduce}
use Rattle.model.proofs.Typing.{plain-nodes, plain_rows}

-- a new kind has the operands of the one it replaces
pub same_roles : (u : Bool) (k : Node) → node_roles (node_in reduced u k) ≡ node_roles k
unfolding node_roles
same_roles true variable = refl
same_roles false variable = refl
same_roles u uint_constant = refl
same_roles u bool_constant = refl
same_roles u cell = refl
same_roles u plus = refl
same_roles u minus = refl
same_roles u less = refl
same_roles u at_most = refl
same_roles u equal = refl
same_roles u conditional = refl
same_roles u valid = refl
same_roles u class_variable = refl
same_roles u reduced_cell = refl
same_roles u reduced_valid = refl
same_roles u no_node = refl

pub same-row_roles : (u q : Bool) (k : Row) → row_roles (row_in reduced u q k) ≡ row_roles k
unfolding row_roles
same-row_roles u q skip = refl
same-row_roles u q assign = refl
same-row_roles u q store = refl
same-row_roles u q assert = refl
same-row_roles u q assume = refl
same-row_roles u true array = refl
same-row_roles u false array = refl
same-row_roles true q loop = refl
same-row_roles false q loop = refl
same-row_roles u q loop_end = refl
same-row_roles u q reduced_store = refl
same-row_roles u q reduced_array = refl
same-row_roles u q class_loop = refl
same-row_roles u q procedure = refl
same-row_roles u q returns = refl
same-row_roles u q call = refl
same-row_roles u q no_row = refl

-- ... and the types
same-type_by : (vars : ℕ → Ty) (u : Bool) (k : Node) (a b : ℕ) (ty : ℕ → Ty) → type_by vars (node_in reduced u k) a b ty ≡ type_by vars k a b ty
same-type_by vars true variable a b ty = refl
same-type_by vars false variable a b ty = refl
same-type_by vars u uint_constant a b ty = refl
same-type_by vars u bool_constant a b ty = refl
same-type_by vars u cell a b ty = refl
same-type_by vars u plus a b ty = refl
same-type_by vars u minus a b ty = refl
same-type_by vars u less a b ty = refl
same-type_by vars u at_most a b ty = refl
same-type_by vars u equal a b ty = refl
same-type_by vars u conditional a b ty = refl
same-type_by vars u valid a b ty = refl
same-type_by vars u class_variable a b ty = refl
same-type_by vars u reduced_cell a b ty = refl
same-type_by vars u reduced_valid a b ty = refl
same-type_by vars u no_node a b ty = refl

same_typed : (u : Bool) (ty : ℕ → Ty) (k : Node) (a b c : ℕ) → typed_node ty (node_in reduced u k) a b c ≡ typed_node ty k a b c
same_typed true ty variable a b c = refl
same_typed false ty variable a b c = refl
same_typed u ty uint_constant a b c = refl
same_typed u ty bool_constant a b c = refl
same_typed u ty cell a b c = refl
same_typed u ty plus a b c = refl
same_typed u ty minus a b c = refl
same_typed u ty less a b c = refl
same_typed u ty at_most a b c = refl
same_typed u ty equal a b c = refl
same_typed u ty conditional a b c = refl
same_typed u ty valid a b c = refl
same_typed u ty class_variable a b c = refl
same_typed u ty reduced_cell a b c = refl
same_typed u ty reduced_valid a b c = refl
same_typed u ty no_node a b c = refl

same-row_typed : (u q : Bool) (vars ty : ℕ → Ty) (k : Row) (a b c : ℕ) → typed_row vars ty (row_in reduced u q k) a b c ≡ typed_row vars ty k a b c
same-row_typed u q vars ty skip a b c = refl
same-row_typed u q vars ty assign a b c = refl
same-row_typed u q vars ty store a b c = refl
same-row_typed u q vars ty assert a b c = refl
same-row_typed u q vars ty assume a b c = refl
same-row_typed u true vars ty array a b c = refl
same-row_typed u false vars ty array a b c = refl
same-row_typed true q vars ty loop a b c = refl
same-row_typed false q vars ty loop a b c = refl
same-row_typed u q vars ty loop_end a b c = refl
same-row_typed u q vars ty reduced_store a b c = refl
same-row_typed u q vars ty reduced_array a b c = refl
same-row_typed u q vars ty class_loop a b c = refl
same-row_typed u q vars ty procedure a b c = refl
same-row_typed u q vars ty returns a b c = refl
same-row_typed u q vars ty call a b c = refl
same-row_typed u q vars ty no_row a b c = refl

-- the reduction gives each variable the kind that its mark asks for
node-suits : (u : Bool) (k : Node) → PlainNode k → node_suits true (node_in reduced u k) u ≡ true
node-suits true variable p = refl
node-suits false variable p = refl
node-suits u uint_constant p = refl
node-suits u bool_constant p = refl
node-suits u cell p = refl
node-suits u plus p = refl
node-suits u minus p = refl
node-suits u less p = refl
node-suits u at_most p = refl
node-suits u equal p = refl
node-suits u conditional p = refl
node-suits u valid p = refl
node-suits u class_variable p = absurd p
node-suits u reduced_cell p = refl
node-suits u reduced_valid p = refl
node-suits u no_node p = refl

row-suits : (t : Table) (k : Row) (a b c : ℕ) (u q : Bool) → marked_uint t a ≡ u → PlainRow t k a b c → row_suits true (row_in reduced u q k) u q ≡ true
row-suits t skip a b c u q e p = refl
row-suits t assign a b c u q e p = ap not (sym e ∙ p)
row-suits t store a b c u q e p = refl
row-suits t assert a b c u q e p = refl
row-suits t assume a b c u q e p = refl
row-suits t array a b c u true e p = refl
row-suits t array a b c u false e p = refl
row-suits t loop a b c true q e p = refl
row-suits t loop a b c false q e p = refl
row-suits t loop_end a b c u q e p = refl
row-suits t reduced_store a b c u q e p = absurd p
row-suits t reduced_array a b c u q e p = absurd p
row-suits t class_loop a b c u q e p = absurd p
row-suits t procedure a b c u q e p = refl
row-suits t returns a b c u q e p = refl
row-suits t call a b c u q e p = refl
row-suits t no_row a b c u q e p = refl

same-all : (n : ℕ) (f g : ℕ → Bool) → ((i : ℕ) → f i ≡ g i) → all n g ≡ true → all n f ≡ true
same-all n f g h e = all_true n f (λ i l. h i ∙ all-at n g e i l)

module _ (t : Table) (A : Accepted plain t) where
  abbrev u : Table
  u = reduced_table t

  pub R : Reduces t u
  R = reduces t

  vars-same : type_at u ≡ type_at t
  vars-same = fun_ext R.type

  step_same : (n : ℕ) (ty : ℕ → Ty)
      → type_by (type_at u) (node_kind (node_at u n).kind) (node_at u n).a (node_at u n).b ty
      ≡ type_by (type_at t) (node_kind (node_at t n).kind) (node_at t n).a (node_at t n).b ty
  step_same n ty =
      ap (λ (v : ℕ → Ty). type_by v (node_kind (node_at u n).kind) (node_at u n).a (node_at u n).b ty) vars-same
      ∙ rw (R.nodes.kind n, R.nodes.a n, R.nodes.b n)
      (same-type_by (type_at t) (marked_uint t (node_at t n).a) (node_kind (node_at t n).kind) (node_at t n).a (node_at t n).b ty)

  types_same : node_type u ≡ node_type t
  unfolding node_type
  types_same = ap (λ (f : ℕ → (ℕ → Ty) → Ty). value_at f bool) (fun_ext λ n. fun_ext λ ty. step_same n ty)

  pub there-same : (n : ℕ) → node_there u n ≡ node_there t n
  unfolding node_there
  there-same n = rw (R.nodes.kind n, R.nodes.a n, R.nodes.b n, R.nodes.c n, same_roles (marked_uint t (node_at t n).a) (node_kind (node_at t n).kind))

  pub row_there-same : (r : ℕ) → row_there u r ≡ row_there t r
  unfolding row_there
  row_there-same r =
      let marked : Bool = marked_uint t (row_at t r).a in
      let reducible : Bool = marked_pointer t (row_at t r).a in
      rw (
        R.kind r,
        R.a r,
        R.b r,
        R.c r,
        same-row_roles marked reducible (row_kind (row_at t r).kind),
        same-opens reduced marked reducible
            (row_kind (row_at t r).kind),
      )

  pub typed-same : (n : ℕ) → node_typed u n ≡ node_typed t n
  unfolding node_typed
  typed-same n =
      ap (λ (f : ℕ → Ty). typed_node f (node_kind (node_at u n).kind) (node_at u n).a (node_at u n).b (node_at u n).c) types_same
      ∙ rw (R.nodes.kind n, R.nodes.a n, R.nodes.b n, R.nodes.c n)
      (same_typed (marked_uint t (node_at t n).a) (node_type t) (node_kind (node_at t n).kind) (node_at t n).a (node_at t n).b (node_at t n).c)

  pub row_typed-same : (r : ℕ) → row_typed u r ≡ row_typed t r
  unfolding row_typed
  row_typed-same r =
      ap (λ (f : ℕ → Ty). typed_row f (node_type u) (row_kind (row_at u r).kind) (row_at u r).a (row_at u r).b (row_at u r).c) vars-same
      ∙ ap (λ (f : ℕ → Ty). typed_row (type_at t) f (row_kind (row_at u r).kind) (row_at u r).a (row_at u r).b (row_at u r).c) types_same
      ∙ rw (R.kind r, R.a r, R.b r, R.c r)
      (same-row_typed (marked_uint t (row_at t r).a) (marked_pointer t (row_at t r).a) (type_at t) (node_type t) (row_kind (row_at t r).kind) (row_at t r).a
      (row_at t r).b (row_at t r).c)

  pub open-same : (r : ℕ) → open_at u r ≡ open_at t r
  unfolding open_at
  open-same zero = refl
  open-same (suc r) = rw (nest-same t u R r, open-same r)

  pub nested_same : (r : ℕ) → misnested u r ≡ misnested t r
  unfolding misnested
  nested_same r = rw (nest-same t u R r, open-same r, same_end t u R r)

  pub node-suit : (n : ℕ) → node_suits_mark reduced u n ≡ true
  unfolding node_suits_mark
  node-suit n =
      rw (R.nodes.kind n, R.nodes.a n, same-marked_uint t.words (node_at t n).a)
      (node-suits (marked_uint t (node_at t n).a) (node_kind (node_at t n).kind) (plain-nodes t A n))

  pub row-suit : (r : ℕ) → row_suits_mark reduced u r ≡ true
  unfolding row_suits_mark
  row-suit r =
      rw (R.kind r, R.a r, same-marked_uint t.words (row_at t r).a, same-marked_pointer t.words (row_at t r).a)
      (row-suits t (row_kind (row_at t r).kind) (row_at t r).a (row_at t r).b (row_at t r).c (marked_uint t (row_at t r).a)
      (marked_pointer t (row_at t r).a) refl
      (plain_rows t A r))

  -- ---- 17

  owner-same : (i : ℕ) → owner u i ≡ owner t i
  unfolding owner
  owner-same i =
      ap (λ (g : ℕ → ℕ → ℕ). walk g 0 0 t.rows)
      (fun_ext λ j. fun_ext λ rest. ap (λ b. if◌then◌else◌ {A = ℕ} (b && within (locals_of u (suc j)) i) (suc j) rest) (same-opening t u R j)
      ∙ ap (λ l. if◌then◌else◌ {A = ℕ} (is_opening t j && within l i) (suc j) rest) (same-locals_of t u R (suc j)))

  operand_same : (us : ℕ → Uses) (k : Role) (x : ℕ) → operand_uses u us k x ≡ operand_uses t us k x
  operand_same us unused x = refl
  operand_same us flag x = refl
  operand_same us number x = refl
  operand_same us a_variable x = ap (λ (o : ℕ). if eqb o 0 then globals else locals_of_one o) (owner-same x)
  operand_same us a_node x = refl

  line_same : (us : ℕ → Uses) (k : Roles) (a b c : ℕ) → line_uses u us k a b c ≡ line_uses t us k a b c
  line_same us k a b c =
      ap (λ x. together x (together (operand_uses u us k.b b) (operand_uses u us k.c c))) (operand_same us k.a a)
      ∙ ap (λ x. together (operand_uses t us k.a a) (together x (operand_uses u us k.c c))) (operand_same us k.b b)
      ∙ ap (λ x. together (operand_uses t us k.a a) (together (operand_uses t us k.b b) x)) (operand_same us k.c c)

  node_uses-same : node_uses u ≡ node_uses t
  unfolding node_uses
  node_uses-same =
      ap (λ (f : ℕ → (ℕ → Uses) → Uses). value_at f globals)
      (fun_ext λ n. fun_ext λ us. rw (
        R.nodes.kind n,
        R.nodes.a n,
        R.nodes.b n,
        R.nodes.c n,
        same_roles (marked_uint t (node_at t n).a)
            (node_kind (node_at t n).kind),
      )
      (line_same us (node_roles (node_kind (node_at t n).kind)) (node_at t n).a (node_at t n).b (node_at t n).c))

  uses-same : (r : ℕ) → uses_own u r ≡ uses_own t r
  unfolding uses_own
  uses-same r =
      ap (λ (f : ℕ → Uses). allowed (home u r) (line_uses u f (row_roles (row_kind (row_at u r).kind)) (row_at u r).a (row_at u r).b (row_at u r).c))
      node_uses-same
      ∙ rw (
        same_home t u R r,
        R.kind r,
        R.a r,
        R.b r,
        R.c r,
        same-row_roles (marked_uint t (row_at t r).a) (marked_pointer t (row_at t r).a)
            (row_kind (row_at t r).kind),
      )
      (ap (allowed (home t r)) (line_same (node_uses t) (row_roles (row_kind (row_at t r).kind)) (row_at t r).a (row_at t r).b (row_at t r).c))

  rightly-same : (r a b : ℕ) → opens_rightly u r a b ≡ opens_rightly t r a b
  rightly-same r a b =
      let x : opened_before u r ≡ opened_before t r = same_sum r _ _ (λ i l. ap (λ d. if◌then◌else◌ {A = ℕ} d 1 0) (same-opening t u R i)) in
      let y : all b (λ i. not (marked_uint u (a + i))) ≡ all b (λ i. not (marked_uint t (a + i)))
      = ap (all b) (fun_ext λ i. ap not (same-marked_uint t.words (a + i))) in
      let z : all b (λ i. eqb (owner u (a + i)) (suc r)) ≡ all b (λ i. eqb (owner t (a + i)) (suc r))
      = ap (all b) (fun_ext λ i. ap (λ (o : ℕ). eqb o (suc r)) (owner-same (a + i))) in
      rw (x, open-same r, y, z)

  rule-same : (r : ℕ) (d q : Bool) (k : Row) (a b c : ℕ) → procedure_rule u r (row_in reduced d q k) a b c ≡ procedure_rule t r k a b c
  rule-same r d q skip a b c = refl
  rule-same r d q assign a b c = refl
  rule-same r d q store a b c = refl
  rule-same r d q assert a b c = refl
  rule-same r d q assume a b c = refl
  rule-same r d true array a b c = refl
  rule-same r d false array a b c = refl
  rule-same r true q loop a b c = refl
  rule-same r false q loop a b c = refl
  rule-same r d q loop_end a b c = refl
  rule-same r d q reduced_store a b c = refl
  rule-same r d q reduced_array a b c = refl
  rule-same r d q class_loop a b c = refl
  rule-same r d q procedure a b c = rightly-same r a b
  rule-same r d q returns a b c = rw (same_home t u R r)
  rule-same r d q call a b c = rw (same_number t u R a, same-marked_uint t.words c)
  rule-same r d q no_row a b c = refl

  pub procedures-same : (r : ℕ) → keeps_procedures u r ≡ keeps_procedures t r
  unfolding keeps_procedures
  procedures-same r =
      rw (
        uses-same r,
        R.kind r,
        R.a r,
        R.b r,
        R.c r,
        rule-same r (marked_uint t (row_at t r).a) (marked_pointer t (row_at t r).a)
            (row_kind (row_at t r).kind) (row_at t r).a (row_at t r).b (row_at t r).c,
      )

  pub kind-known : (i : ℕ) → i < line_count t → known reduced (line_at u.words i).kind ≡ true
  kind-known i h = rw (reduce-kind t.words i) (known-reduced _ _ _ (all-at (line_count t) (λ i. known plain (line_at t.words i).kind) A.kinds i h))

  pub accepted-reduced : Accepted reduced u
  accepted-reduced = record {
    whole = length-reduce t.words ∙ A.whole;
    kinds = all_true (line_count t) (λ i. known reduced (line_at u.words i).kind) kind-known;
    nodes_there = same-all t.nodes (node_there u) (node_there t) there-same A.nodes_there;
    rows_there = same-all t.rows (row_there u) (row_there t) row_there-same A.rows_there;
    nodes_typed = same-all t.nodes (node_typed u) (node_typed t) typed-same A.nodes_typed;
    rows_typed = same-all t.rows (row_typed u) (row_typed t) row_typed-same A.rows_typed;
    rows_nested = same-all t.rows (λ r. not (misnested u r)) (λ r. not (misnested t r)) (λ r. ap not (nested_same r)) A.rows_nested;
    nodes_suit = all_true t.nodes (node_suits_mark reduced u) (λ n l. node-suit n);
    rows_suit = all_true t.rows (row_suits_mark reduced u) (λ r l. row-suit r);
    procedures = same-all t.rows (keeps_procedures u) (keeps_procedures t) procedures-same A.procedures;
  }

pub reduction-accepted : ReductionAccepted
reduction-accepted P A = subst (Accepted reduced) (sym (table-reduce P)) (accepted-reduced (table_of P) A)
