-- Types and marks by number: what the code finds at a line is what the definition says of its node or row.
-- Assumes nothing.
use Prim.Native.Nat.{ℕ, ◌+◌, ◌-◌, ◌<◌, ◌≤◌}
use native.Mathlib.Omega.{arith}
use native.Mathlib.Decide.{dec_le}
use mathlib.Core.Path.{◌≡◌, refl, sym, ap, ◌∙◌, subst}
use mathlib.Core.Bool.{Bool, true, false, not, true≢false}
use mathlib.Core.List.{List}
use lib.ListN.{length, set}
use lib.Dec.{ltb}
use borrow.Author.Tests.{ltb-true, leb-true, le-ltb, le-leb, ne_eqb}
use Rattle.std.specs.Prelude.{if◌then◌else◌}
use Rattle.lists.proofs.BoolLaws.{and_left}
use Rattle.lists.proofs.FallingLaws.{value-is}
use Rattle.model.specs.Table.{Table, line_at, is_declaration, is_node, is_row, node_at, type_at, Ty}
use Rattle.model.specs.Table.{Node, node_kind, Row, row_kind, Role, node_roles, row_roles}
use Rattle.model.specs.Table.{opens_procedure}
use Rattle.model.specs.Table.Ty.{bool}
use Rattle.model.specs.Table.Node.{variable, uint_constant, bool_constant, cell, plus, minus, less, at_most, equal, conditional, valid, class_variable}
use Rattle.model.specs.Table.Node.{reduced_cell, reduced_valid, no_node}
use Rattle.model.specs.Table.Row.{skip, assign, store, assert, assume, array, loop, loop_end, reduced_store, reduced_array, class_loop}
use Rattle.model.specs.Table.Row.{procedure, returns, call, no_row}
use Rattle.model.specs.Table.Role.{unused, flag, number, a_variable, a_node}
use Rattle.model.specs.State.{MachineKind}
use Rattle.model.specs.Accepted.{there, all_there, locals_there, node_there, row_there, type_by, node_type, ty_number, typed_node, node_typed, typed_row}
use Rattle.model.specs.Accepted.{row_typed, is_reduced, node_suits_mark, row_suits_mark}
use Rattle.model.proofs.Homes.{opens-is}
use Rattle.model.proofs.ReduceLaws.{opens-43}
use Rattle.kinds.specs.Kinds.{kind_at, machine_of, suits_mark}
use Rattle.kinds.specs.Code.{typing, node_typing, row_typing, typed_case, node_result, result_by, InSorts, There, LocalsFit}
use Rattle.kinds.proofs.LineLaws.{at-declaration, by-line, kept_more, locals-fit, node-line, node-low, not-declaration, row_line, three}
use Rattle.line_checks.specs.Rules.{breaks9, breaks12}
use Rattle.line_checks.specs.Code.{Types, kept_type, type_below, variable_type, line_type, operands_typed, locals_uints, line_typed, line_suits}

-- ---- the type of a node

result-by : (vars : ℕ → Ty) (n : Node) (a b : ℕ) (ty : ℕ → Ty)
    → ty_number (type_by vars n a b ty) ≡ result_by (node_result n) (ty_number (vars a)) (ty_number (ty a)) (ty_number (ty b))
result-by vars variable a b ty = refl
result-by vars uint_constant a b ty = refl
result-by vars bool_constant a b ty = refl
result-by vars cell a b ty = refl
result-by vars plus a b ty = refl
result-by vars minus a b ty = refl
result-by vars less a b ty = refl
result-by vars at_most a b ty = refl
result-by vars equal a b ty = refl
result-by vars conditional a b ty = refl
result-by vars valid a b ty = refl
result-by vars class_variable a b ty = refl
result-by vars reduced_cell a b ty = refl
result-by vars reduced_valid a b ty = refl
result-by vars no_node a b ty = refl

module _ (t : Table) (types : List ℕ) (n : ℕ) (known : Types t types n) where
  below : (x : ℕ) → ty_number (if ltb x n then node_type t x else bool) ≡ type_below types n x
  below x = go (ltb x n) refl
    where
      go : (b : Bool) → ltb x n ≡ b → ty_number (if b then node_type t x else bool) ≡ (if b then kept_type types x else 1)
      go true e = sym (known.right x (ltb-true x n e))
      go false e = refl

  type-is : line_type t.words types (t.decls + n) n ≡ ty_number (node_type t n)
  unfolding node_type
  type-is = sym (
      ap ty_number (value-is (λ m ty. type_by (type_at t) (node_kind (node_at t m).kind) (node_at t m).a (node_at t m).b ty) bool n)
      ∙ result-by (type_at t) (node_kind (node_at t n).kind) (node_at t n).a (node_at t n).b (λ j. if ltb j n then node_type t j else bool)
      ∙ rw (below (node_at t n).a, below (node_at t n).b)
      )

  -- the types of the first n nodes, and that of node n put after them
  pub types_more : (v : ℕ) → n < length types → v ≡ line_type t.words types (t.decls + n) n → Types t (set types n v) (n + 1)
  types_more v h e = record { right = kept_more 0 (λ j x. x ≡ ty_number (node_type t j)) types n v h known.right (e ∙ type-is) }

-- ---- 9: an operand that names a node has a type, and the buffer has it

abbrev Given : Role → ℕ → ℕ → Type 0
Given unused p q = Unit {0}
Given flag p q = Unit {0}
Given number p q = Unit {0}
Given a_variable p q = Unit {0}
Given a_node p q = p ≡ q

given : (types : List ℕ) (f : ℕ → ℕ) (bound : ℕ) → ((j : ℕ) → j < bound → kept_type types j ≡ f j) → (r : Role) (vs x : ℕ) → there r vs bound x ≡ true
    → Given r (f x) (kept_type types x)
given types f bound h unused vs x e = tt
given types f bound h flag vs x e = tt
given types f bound h number vs x e = tt
given types f bound h a_variable vs x e = tt
given types f bound h a_node vs x e = sym (h x (ltb-true x bound e))

module _ (ty : ℕ → Ty) (a b c : ℕ) (x y z : ℕ) where
  typed-node : (v u : ℕ) (n : Node) → Given (node_roles n).a (ty_number (ty a)) x → Given (node_roles n).b (ty_number (ty b)) y
      → Given (node_roles n).c (ty_number (ty c)) z
      → typed_node ty n a b c ≡ typed_case (node_typing n) v u x y z
  unfolding node_roles typed_case
  typed-node v u variable p q r = refl
  typed-node v u uint_constant p q r = refl
  typed-node v u bool_constant p q r = refl
  typed-node v u cell p q r = rw p
  typed-node v u plus p q r = rw (p, q)
  typed-node v u minus p q r = rw (p, q)
  typed-node v u less p q r = rw (p, q)
  typed-node v u at_most p q r = rw (p, q)
  typed-node v u equal p q r = rw (p, q)
  typed-node v u conditional p q r = rw (p, q, r)
  typed-node v u valid p q r = rw p
  typed-node v u class_variable p q r = refl
  typed-node v u reduced_cell p q r = rw p
  typed-node v u reduced_valid p q r = rw p
  typed-node v u no_node p q r = refl

  typed-row : (vars : ℕ → Ty) (n : Row) → opens_procedure n ≡ false → Given (row_roles n).a (ty_number (ty a)) x → Given (row_roles n).b (ty_number (ty b)) y
      → Given (row_roles n).c (ty_number (ty c)) z
      → typed_row vars ty n a b c ≡ typed_case (row_typing n) (ty_number (vars a)) (ty_number (vars c)) x y z
  unfolding row_roles typed_case
  typed-row vars skip o p q r = refl
  typed-row vars assign o p q r = rw q
  typed-row vars store o p q r = rw (p, q)
  typed-row vars assert o p q r = rw p
  typed-row vars assume o p q r = rw p
  typed-row vars array o p q r = rw q
  typed-row vars loop o p q r = rw (q, r)
  typed-row vars loop_end o p q r = refl
  typed-row vars reduced_store o p q r = rw (p, q)
  typed-row vars reduced_array o p q r = rw q
  typed-row vars class_loop o p q r = rw (q, r)
  typed-row vars procedure o p q r = absurd (true≢false o)
  typed-row vars returns o p q r = rw p
  typed-row vars call o p q r = rw q
  typed-row vars no_row o p q r = refl

not-node : (k : ℕ) → is_row k ≡ true → (is_declaration k ≡ false) × (is_node k ≡ false)
not-node k e =
    let high : 32 ≤ k = leb-true 32 k e in
    (not-declaration k (omega arith), rw (le-leb 16 k (omega arith), le-ltb k 32 high))

module _ (t : Table) (laid : InSorts t) (i : ℕ) where
  module _ (th : There t) (types : List ℕ) (known : Types t types t.nodes) where
    operands-node : t.decls ≤ i → i < t.decls + t.nodes → node_typed t (i - t.decls) ≡ operands_typed t.words types i
    unfolding node_typed typing node_there
    operands-node l h =
        let w = line_at t.words i in
        let n = node_kind w.kind in
        let small : i - t.decls < t.nodes = omega arith in
        let named = three
        (there (node_roles n).a t.decls (i - t.decls) w.a)
        (there (node_roles n).b t.decls (i - t.decls) w.b)
        (there (node_roles n).c t.decls (i - t.decls) w.c)
        (rw (node-line t i l) at (th.nodes (i - t.decls) small)) in
        let has = given types (λ j. ty_number (node_type t j)) (i - t.decls) (λ j k. known.right j (omega arith)) in
        rw (node-line t i l, laid.node i l h) (
        typed-node (node_type t) w.a w.b w.c (kept_type types w.a) (kept_type types w.b) (kept_type types w.c)
        (variable_type t.words w.a) (variable_type t.words w.c) n
        (has (node_roles n).a t.decls w.a named.0)
        (has (node_roles n).b t.decls w.b named.1)
        (has (node_roles n).c t.decls w.c named.2)
        )

    -- no node is a 43
    line-node : t.decls ≤ i → i < t.decls + t.nodes → node_typed t (i - t.decls) ≡ line_typed t.words types i
    line-node l h =
        let low : kind_at t i < 32 = (node-low (kind_at t i) (laid.node i l h)).1 in
        rw (opens-43 (kind_at t i), ne_eqb (kind_at t i) 43 (λ e. omega arith)) (operands-node l h)

    operands-row : t.decls + t.nodes ≤ i → i < t.decls + t.nodes + t.rows → opens_procedure (row_kind (kind_at t i)) ≡ false
        → row_typed t (i - (t.decls + t.nodes)) ≡ operands_typed t.words types i
    unfolding row_typed typing row_there
    operands-row l h o =
        let w = line_at t.words i in
        let n = row_kind w.kind in
        let small : i - (t.decls + t.nodes) < t.rows = omega arith in
        let All-there = and_left (all_there (row_roles n) t.decls t.nodes w) (locals_there n t.decls w.a w.b)
        (rw (row_line t i l) at (th.rows (i - (t.decls + t.nodes)) small)) in
        let named = three
        (there (row_roles n).a t.decls t.nodes w.a)
        (there (row_roles n).b t.decls t.nodes w.b)
        (there (row_roles n).c t.decls t.nodes w.c)
        All-there in
        let has = given types (λ j. ty_number (node_type t j)) t.nodes known.right in
        rw (row_line t i l, (not-node w.kind (laid.row i l h)).1) (
        typed-row (node_type t) w.a w.b w.c (kept_type types w.a) (kept_type types w.b) (kept_type types w.c) (type_at t) n o
        (has (row_roles n).a t.decls w.a named.0)
        (has (row_roles n).b t.decls w.b named.1)
        (has (row_roles n).c t.decls w.c named.2)
        )

    locals-row : t.decls + t.nodes ≤ i → opens_procedure (row_kind (kind_at t i)) ≡ true
        → row_typed t (i - (t.decls + t.nodes)) ≡ locals_uints t.words (line_at t.words i).a (line_at t.words i).b
    unfolding row_typed locals_uints
    locals-row l o = rw (row_line t i l, opens-is (row_kind (kind_at t i)) o)

    line_row : t.decls + t.nodes ≤ i → i < t.decls + t.nodes + t.rows → row_typed t (i - (t.decls + t.nodes)) ≡ line_typed t.words types i
    line_row l h = go (opens_procedure (row_kind (kind_at t i))) refl
      where
        go : (b : Bool) → opens_procedure (row_kind (kind_at t i)) ≡ b → row_typed t (i - (t.decls + t.nodes))
            ≡ (if b then locals_uints t.words (line_at t.words i).a (line_at t.words i).b else operands_typed t.words types i)
        go true o = locals-row l o
        go false o = operands-row l h o

    -- the locals of a 43 are there, and no node is one
    pub fit_line : t.decls ≤ i → i < t.decls + t.nodes + t.rows → LocalsFit t.words i
    fit_line l h e = elim (dec_le (t.decls + t.nodes) i) [
      | yes k ↦ subst (LocalsFit t.words) (row_line t i k) (locals-fit t laid th (i - (t.decls + t.nodes)) (omega arith)) e
      | no k ↦ absurd (omega (arith, (node-low (kind_at t i) (laid.node i l (omega arith))).1))
    ]

    pub breaks-types : t.decls ≤ i → i < t.decls + t.nodes + t.rows → breaks9 t i ≡ not (line_typed t.words types i)
    unfolding breaks9
    breaks-types l h =
        by-line t laid i (λ n. not (node_typed t n)) (λ r. not (row_typed t r)) (not (line_typed t.words types i))
        (λ a b. ap not (line-node a b)) (λ a b. ap not (line_row a b)) l h

  -- ---- 12

  which : (r : Bool) → is_reduced (machine_of r) ≡ r
  which true = refl
  which false = refl

  marks-node : (r : Bool) → t.decls ≤ i → i < t.decls + t.nodes → node_suits_mark (machine_of r) t (i - t.decls) ≡ line_suits t.words r i
  unfolding node_suits_mark suits_mark
  marks-node r l h =
      let e = laid.node i l h in
      rw (node-line t i l, not-declaration (kind_at t i) (node-low (kind_at t i) e).0, e, which r)

  marks-row : (r : Bool) → t.decls + t.nodes ≤ i → i < t.decls + t.nodes + t.rows
      → row_suits_mark (machine_of r) t (i - (t.decls + t.nodes)) ≡ line_suits t.words r i
  unfolding row_suits_mark suits_mark
  marks-row r l h =
      let e = not-node (kind_at t i) (laid.row i l h) in
      rw (row_line t i l, e.0, e.1, which r)

  pub breaks-marks : (r : Bool) → t.decls ≤ i → i < t.decls + t.nodes + t.rows → breaks12 (machine_of r) t i ≡ not (line_suits t.words r i)
  unfolding breaks12
  breaks-marks r l h =
      by-line t laid i (λ n. not (node_suits_mark (machine_of r) t n)) (λ q. not (row_suits_mark (machine_of r) t q)) (not (line_suits t.words r i))
      (λ a b. ap not (marks-node r a b)) (λ a b. ap not (marks-row r a b)) l h

  -- ---- and no declaration breaks 9 or 12

  pub no-types : i < t.decls → breaks9 t i ≡ false
  unfolding breaks9
  no-types l = at-declaration t laid i (λ n. not (node_typed t n)) (λ r. not (row_typed t r)) l

  pub no-marks : (m : MachineKind) → i < t.decls → breaks12 m t i ≡ false
  unfolding breaks12
  no-marks m l = at-declaration t laid i (λ n. not (node_suits_mark m t n)) (λ r. not (row_suits_mark m t r)) l
