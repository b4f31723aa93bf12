-- What the tests of an accepted table say of each node and each row, in the form in which the theory uses it.
-- Assumes nothing.
use mathlib.Core.Path.{◌≡◌, refl, sym, ap, ◌∙◌, subst}
use Prim.Native.Nat.{ℕ, suc, ◌+◌, ◌-◌, ◌*◌, ◌≤◌, ◌<◌}
use native.Mathlib.Decide.{dec_le}
use native.Mathlib.Omega.{arith}
use mathlib.Core.Bool.{Bool, true, false, not, ◌&&◌, ◌||◌, false≢true, true≢false}
use mathlib.Core.List.{List, [], ◌∷◌}
use lib.ListN.{get_or-eq_default}
use lib.Dec.{ltb, leb, eqb}
use borrow.Author.Tests.{ltb-true, lt-ltb, leb-true, leb-false, eqb-true, not-true}
use Rattle.std.specs.Prelude.{if◌then◌else◌}
use Rattle.lists.specs.Tab.{all}
use Rattle.lists.proofs.TabLaws.{all-at}
use Rattle.lists.proofs.FallingLaws.{value-is}
use Rattle.model.specs.Table.{Nest, Node, Row, Table, Ty, decl_at, line_at, line_count, marked, marked_pointer, marked_uint, nest_at, node_at, node_kind}
use Rattle.model.specs.Table.{between, is_opening, matching_end, node_roles, none_open, open_at, opening, row_at, row_kind, row_roles, stretch}
use Rattle.model.specs.Table.{type_at, type_of, within}
use Rattle.model.specs.Table.Ty.{bool, uint, pointer}
use Rattle.model.specs.Table.Node.{variable, uint_constant, bool_constant, cell, plus, minus, less, at_most, equal, conditional, valid, class_variable}
use Rattle.model.specs.Table.Node.{reduced_cell, reduced_valid, no_node}
use Rattle.model.specs.Table.Row.{skip, assign, store, assert, assume, array, loop, loop_end, reduced_store, reduced_array, class_loop}
use Rattle.model.specs.Table.Row.{procedure, returns, call, no_row}
use Rattle.model.specs.Table.Nest.{opens, closes, neither}
use Rattle.model.specs.State.{MachineKind, classed}
use Rattle.model.specs.State.MachineKind.{plain, reduced}
use Rattle.model.specs.Accepted.{Accepted, all_there, is_reduced, known, locals_there, misnested, nest_breaks, node_suits, node_suits_mark, node_there, node_type}
use Rattle.model.specs.Accepted.{node_typed, row_suits, row_suits_mark, row_there, row_typed, same_ty, ty_number, type_by, typed_node, typed_row}
use Rattle.model.specs.Procedures.{keeps_procedures, most_procedures, opened_before, opens_rightly, owner, procedure_rule, uses_own}
use Rattle.model.proofs.Nested.{Nested}
use Rattle.model.proofs.Homes.{opens-is, place_in}
use Rattle.model.proofs.KindsIn.{PlainNode, PlainRow}
use Rattle.model.proofs.LoopsClosed.{none-open}
use Rattle.lists.proofs.BoolLaws.{and_left, and_right}
use Rattle.model.proofs.ReduceLaws.{no-node, no-row, ty-back}

-- a uint or a pointer
abbrev pub Moving : Ty → Type 0
Moving bool = ⊥
Moving uint = Unit {0}
Moving pointer = Unit {0}

-- what a kind asks of its operands, and gives, by the type of each node
abbrev pub Fits : MachineKind → Table → (ℕ → Ty) → Node → ℕ → ℕ → ℕ → ℕ → Type 0
Fits m t ty variable a b c n = (a < t.decls) × (classed m t a ≡ false) × (type_at t a ≡ ty n)
Fits m t ty uint_constant a b c n = uint ≡ ty n
Fits m t ty bool_constant a b c n = bool ≡ ty n
Fits m t ty cell a b c n = (a < n) × (ty a ≡ pointer) × (uint ≡ ty n) × (m ≡ plain)
Fits m t ty plus a b c n = (a < n) × (b < n) × (ty a ≡ ty n) × Moving (ty n) × (ty b ≡ uint)
Fits m t ty minus a b c n = (a < n) × (b < n) × (ty a ≡ ty n) × Moving (ty n) × (ty b ≡ uint)
Fits m t ty less a b c n = (a < n) × (b < n) × (ty a ≡ uint) × (ty b ≡ uint) × (bool ≡ ty n)
Fits m t ty at_most a b c n = (a < n) × (b < n) × (ty a ≡ uint) × (ty b ≡ uint) × (bool ≡ ty n)
Fits m t ty equal a b c n = (a < n) × (b < n) × (ty a ≡ uint) × (ty b ≡ uint) × (bool ≡ ty n)
Fits m t ty conditional a b c n = (a < n) × (b < n) × (c < n) × (ty a ≡ bool) × (ty b ≡ ty n) × (ty c ≡ ty n)
Fits m t ty valid a b c n = (a < n) × (ty a ≡ pointer) × (bool ≡ ty n)
Fits m t ty class_variable a b c n = (a < t.decls) × (classed m t a ≡ true) × (uint ≡ ty n) × (m ≡ reduced)
Fits m t ty reduced_cell a b c n = (a < n) × (ty a ≡ pointer) × (uint ≡ ty n) × (m ≡ reduced)
Fits m t ty reduced_valid a b c n = (a < n) × (ty a ≡ pointer) × (bool ≡ ty n)
Fits m t ty no_node a b c n = ⊥

abbrev pub RowFits : MachineKind → Table → (ℕ → Ty) → Row → ℕ → ℕ → ℕ → Type 0
RowFits m t ty skip a b c = Unit {0}
RowFits m t ty assign a b c = (a < t.decls) × (b < t.nodes) × (ty b ≡ type_at t a) × (classed m t a ≡ false)
RowFits m t ty store a b c = (a < t.nodes) × (b < t.nodes) × (ty a ≡ pointer) × (ty b ≡ uint) × (m ≡ plain)
RowFits m t ty assert a b c = (a < t.nodes) × (ty a ≡ bool)
RowFits m t ty assume a b c = (a < t.nodes) × (ty a ≡ bool)
RowFits m t ty array a b c = (a < t.decls) × (b < t.nodes) × (ty b ≡ uint) × (type_at t a ≡ pointer) × (classed m t a ≡ false)
RowFits m t ty loop a b c = (b < t.nodes) × (c < t.nodes) × (ty b ≡ uint) × (ty c ≡ uint) × (a < t.decls) × (type_at t a ≡ uint) × (classed m t a ≡ false)
RowFits m t ty loop_end a b c = Unit {0}
RowFits m t ty reduced_store a b c = (a < t.nodes) × (b < t.nodes) × (ty a ≡ pointer) × (ty b ≡ uint)
RowFits m t ty reduced_array a b c = (a < t.decls) × (b < t.nodes) × (ty b ≡ uint) × (type_at t a ≡ pointer) × (classed m t a ≡ false) × (m ≡ reduced)
RowFits m t ty class_loop a b c = (b < t.nodes) × (c < t.nodes) × (ty b ≡ uint) × (ty c ≡ uint) × (a < t.decls) × (type_at t a ≡ uint)
    × (classed m t a ≡ true) × (m ≡ reduced)
RowFits m t ty procedure a b c = (i : ℕ) → within (stretch a b) i ≡ true → (i < t.decls) × (type_at t i ≡ uint) × (marked_uint t i ≡ false)
RowFits m t ty returns a b c = (a < t.nodes) × (ty a ≡ uint)
RowFits m t ty call a b c = (b < t.nodes) × (ty b ≡ uint) × (c < t.decls) × (type_at t c ≡ uint) × (marked_uint t c ≡ false) × (opening t a < t.rows)
RowFits m t ty no_row a b c = ⊥

-- ---- from Bools

same-ty : (v w : Ty) → same_ty v w ≡ true → v ≡ w
same-ty v w e = sym (ty-back v) ∙ ap type_of (eqb-true (ty_number v) (ty_number w) e) ∙ ty-back w

is-moving : (v : Ty) → not (same_ty v bool) ≡ true → Moving v
is-moving bool e = false≢true e
is-moving uint e = tt
is-moving pointer e = tt

-- three tests in a row
three : (x y z : Bool) → (x && (y && z)) ≡ true → (x ≡ true) × (y ≡ true) × (z ≡ true)
three x y z e = (and_left x (y && z) e, and_left y z (and_right x (y && z) e), and_right y z (and_right x (y && z) e))

pub marked-uint : (t : Table) (i : ℕ) → marked_uint t i ≡ true → type_at t i ≡ uint
unfolding marked type_of
marked-uint t i h = rw (eqb-true (decl_at t i).kind 2 (and_left (eqb (decl_at t i).kind 2) (eqb (decl_at t i).a 1) h))

pub pointer-unmarked : (t : Table) (i : ℕ) → type_at t i ≡ pointer → marked_uint t i ≡ false
pointer-unmarked t i e = go (marked_uint t i) refl
  where
    go : (b : Bool) → marked_uint t i ≡ b → marked_uint t i ≡ false
    go true h = absurd (omega (arith, ap ty_number (sym e ∙ marked-uint t i h)))
    go false h = h

pub classed-none : (m : MachineKind) (t : Table) (i : ℕ) → marked_uint t i ≡ false → classed m t i ≡ false
classed-none plain t i e = refl
classed-none reduced t i e = e

-- a marked uint in a reduced table: where the test excludes it, the variable holds its value
unclassed : (m : MachineKind) (t : Table) (i : ℕ) → not (is_reduced m && marked_uint t i) ≡ true → classed m t i ≡ false
unclassed plain t i e = refl
unclassed reduced t i e = not-true (marked_uint t i) e

-- the parts of 17 at a 43
pub rightly : (t : Table) (r a b : ℕ) → opens_rightly t r a b ≡ true
    → (none_open (open_at t r) ≡ true) × (all b (λ i. not (marked_uint t (a + i))) ≡ true) × (all b (λ i. eqb (owner t (a + i)) (suc r)) ≡ true)
rightly t r a b v =
    let free : Bool = none_open (open_at t r) in
    let unmarked : Bool = all b (λ i. not (marked_uint t (a + i))) in
    let own : Bool = all b (λ i. eqb (owner t (a + i)) (suc r)) in
    let f = and_right (ltb (opened_before t r) most_procedures) (free && (between 1 4 b && (unmarked && own))) v in
    let h = and_right (between 1 4 b) (unmarked && own) (and_right free (between 1 4 b && (unmarked && own)) f) in
    (and_left free (between 1 4 b && (unmarked && own)) f, and_left unmarked own h, and_right unmarked own h)

-- ---- which kinds a machine knows

abbrev has_node : Bool → Node → Bool
has_node m variable = true
has_node m uint_constant = true
has_node m bool_constant = true
has_node m cell = not m
has_node m plus = true
has_node m minus = true
has_node m less = true
has_node m at_most = true
has_node m equal = true
has_node m conditional = true
has_node m valid = not m
has_node m class_variable = m
has_node m reduced_cell = m
has_node m reduced_valid = m
has_node m no_node = true

abbrev has_row : Bool → Row → Bool
has_row m skip = true
has_row m assign = true
has_row m store = not m
has_row m assert = true
has_row m assume = true
has_row m array = true
has_row m loop = true
has_row m loop_end = true
has_row m reduced_store = m
has_row m reduced_array = m
has_row m class_loop = m
has_row m procedure = true
has_row m returns = true
has_row m call = true
has_row m no_row = true

abbrev implies : Bool → Bool → Bool
implies b c = if b then c else true

has-nodes : (m : MachineKind) → all 46 (λ k. implies (known m k) (has_node (is_reduced m) (node_kind k))) ≡ true
unfolding all known node_kind
has-nodes plain = refl
has-nodes reduced = refl

has-rows : (m : MachineKind) → all 46 (λ k. implies (known m k) (has_row (is_reduced m) (row_kind k))) ≡ true
unfolding all known row_kind
has-rows plain = refl
has-rows reduced = refl

implied : (b c : Bool) → implies b c ≡ true → b ≡ true → c ≡ true
implied b c e h = rw h at e

has-node : (m : MachineKind) (k : ℕ) → known m k ≡ true → has_node (is_reduced m) (node_kind k) ≡ true
has-node m k h = elim (dec_le 46 k) [
  | yes l ↦ rw (no-node k l) refl
  | no l ↦ implied (known m k) (has_node (is_reduced m) (node_kind k))
      (all-at 46 (λ k. implies (known m k) (has_node (is_reduced m) (node_kind k))) (has-nodes m) k (omega arith)) h
]

has-row : (m : MachineKind) (k : ℕ) → known m k ≡ true → has_row (is_reduced m) (row_kind k) ≡ true
has-row m k h = elim (dec_le 46 k) [
  | yes l ↦ rw (no-row k l) refl
  | no l ↦ implied (known m k) (has_row (is_reduced m) (row_kind k))
      (all-at 46 (λ k. implies (known m k) (has_row (is_reduced m) (row_kind k))) (has-rows m) k (omega arith)) h
]

is_plain : (m : MachineKind) → not (is_reduced m) ≡ true → m ≡ plain
is_plain plain e = refl
is_plain reduced e = absurd (false≢true e)

is-reduced : (m : MachineKind) → is_reduced m ≡ true → m ≡ reduced
is-reduced plain e = absurd (false≢true e)
is-reduced reduced e = refl

classed-is : (m : MachineKind) (t : Table) (i : ℕ) → is_reduced m ≡ true → marked_uint t i ≡ true → classed m t i ≡ true
classed-is plain t i e h = absurd (false≢true e)
classed-is reduced t i e h = h

-- ---- from tests to facts

module _ (m : MachineKind) (t : Table) (ty : ℕ → Ty) where
  compared : (a b n : ℕ) → (ltb a n && (ltb b n && true)) ≡ true → (same_ty (ty a) uint && same_ty (ty b) uint) ≡ true → bool ≡ ty n
      → (a < n) × (b < n) × (ty a ≡ uint) × (ty b ≡ uint) × (bool ≡ ty n)
  compared a b n y z q =
      let h = three (ltb a n) (ltb b n) true y in (
        ltb-true a n h.0,
        ltb-true b n h.1,
        same-ty _ _ (and_left (same_ty (ty a) uint) (same_ty (ty b) uint) z),
        same-ty _ _
            (and_right (same_ty (ty a) uint) (same_ty (ty b) uint) z),
        q,
      )

  -- g: the types of the nodes below n
  fits : (k : Node) (a b c n : ℕ) (g : ℕ → Ty) → ((j : ℕ) → j < n → g j ≡ ty j) → type_by (type_at t) k a b g ≡ ty n
      → has_node (is_reduced m) k ≡ true → all_there (node_roles k) t.decls n (record { kind = 0; a = a; b = b; c = c }) ≡ true → typed_node ty k a b c ≡ true
      → node_suits (is_reduced m) k (marked_uint t a) ≡ true → Fits m t ty k a b c n
  unfolding node_roles
  fits variable a b c n g e q x y z u = (ltb-true a t.decls (three (ltb a t.decls) true true y).0, unclassed m t a u, q)
  fits uint_constant a b c n g e q x y z u = q
  fits bool_constant a b c n g e q x y z u = q
  fits cell a b c n g e q x y z u = (ltb-true a n (three (ltb a n) true true y).0, same-ty _ _ z, q, is_plain m x)
  fits plus a b c n g e q x y z u =
      let h = three (ltb a n) (ltb b n) true y in
      let l : a < n = ltb-true a n h.0 in
      let p : ty a ≡ ty n = sym (e a l) ∙ q in (
        l,
        ltb-true b n h.1,
        p,
        subst Moving p (is-moving (ty a) (and_left (not (same_ty (ty a) bool)) (same_ty (ty b) uint) z)),
        same-ty _ _
            (and_right (not (same_ty (ty a) bool)) (same_ty (ty b) uint) z),
      )
  fits minus a b c n g e q x y z u =
      let h = three (ltb a n) (ltb b n) true y in
      let l : a < n = ltb-true a n h.0 in
      let p : ty a ≡ ty n = sym (e a l) ∙ q in (
        l,
        ltb-true b n h.1,
        p,
        subst Moving p (is-moving (ty a) (and_left (not (same_ty (ty a) bool)) (same_ty (ty b) uint) z)),
        same-ty _ _
            (and_right (not (same_ty (ty a) bool)) (same_ty (ty b) uint) z),
      )
  fits less a b c n g e q x y z u = compared a b n y z q
  fits at_most a b c n g e q x y z u = compared a b n y z q
  fits equal a b c n g e q x y z u = compared a b n y z q
  fits conditional a b c n g e q x y z u =
      let h = three (ltb a n) (ltb b n) (ltb c n) y in
      let l : b < n = ltb-true b n h.1 in
      let p : ty b ≡ ty n = sym (e b l) ∙ q in (
        ltb-true a n h.0,
        l,
        ltb-true c n h.2,
        same-ty _ _ (and_left (same_ty (ty a) bool) (same_ty (ty b) (ty c)) z),
        p,
        sym
            (same-ty _ _ (and_right (same_ty (ty a) bool) (same_ty (ty b) (ty c)) z)) ∙ p,
      )
  fits valid a b c n g e q x y z u = (ltb-true a n (three (ltb a n) true true y).0, same-ty _ _ z, q)
  fits class_variable a b c n g e q x y z u =
      (ltb-true a t.decls (three (ltb a t.decls) true true y).0, classed-is m t a x u, sym (marked-uint t a u) ∙ q, is-reduced m x)
  fits reduced_cell a b c n g e q x y z u = (ltb-true a n (three (ltb a n) true true y).0, same-ty _ _ z, q, is-reduced m x)
  fits reduced_valid a b c n g e q x y z u = (ltb-true a n (three (ltb a n) true true y).0, same-ty _ _ z, q)
  fits no_node a b c n g e q x y z u = false≢true z

  stored : (a b : ℕ) → (ltb a t.nodes && (ltb b t.nodes && true)) ≡ true → (same_ty (ty a) pointer && same_ty (ty b) uint) ≡ true
      → (a < t.nodes) × (b < t.nodes) × (ty a ≡ pointer) × (ty b ≡ uint)
  stored a b y z =
      let h = three (ltb a t.nodes) (ltb b t.nodes) true y in (
        ltb-true a t.nodes h.0,
        ltb-true b t.nodes h.1,
        same-ty _ _ (and_left (same_ty (ty a) pointer) (same_ty (ty b) uint) z),
        same-ty _ _
            (and_right (same_ty (ty a) pointer) (same_ty (ty b) uint) z),
      )

  laid_out : (a b : ℕ) → (ltb a t.decls && (ltb b t.nodes && true)) ≡ true → (same_ty (type_at t a) pointer && same_ty (ty b) uint) ≡ true
      → (a < t.decls) × (b < t.nodes) × (ty b ≡ uint) × (type_at t a ≡ pointer) × (classed m t a ≡ false)
  laid_out a b y z =
      let h = three (ltb a t.decls) (ltb b t.nodes) true y in
      let p : type_at t a ≡ pointer = same-ty _ _ (and_left (same_ty (type_at t a) pointer) (same_ty (ty b) uint) z) in (
        ltb-true a t.decls h.0,
        ltb-true b t.nodes h.1,
        same-ty _ _
            (and_right (same_ty (type_at t a) pointer) (same_ty (ty b) uint) z),
        p,
        classed-none m t a (pointer-unmarked t a p),
      )

  looped : (a b c : ℕ) (d : Bool) → (ltb a t.decls && (ltb b t.nodes && ltb c t.nodes)) ≡ true
      → (same_ty (type_at t a) uint && (same_ty (ty b) uint && same_ty (ty c) uint)) ≡ true
      → classed m t a ≡ d → (b < t.nodes) × (c < t.nodes) × (ty b ≡ uint) × (ty c ≡ uint) × (a < t.decls) × (type_at t a ≡ uint) × (classed m t a ≡ d)
  looped a b c d y z u =
      let h = three (ltb a t.decls) (ltb b t.nodes) (ltb c t.nodes) y in
      let p = three (same_ty (type_at t a) uint) (same_ty (ty b) uint) (same_ty (ty c) uint) z in
      (ltb-true b t.nodes h.1, ltb-true c t.nodes h.2, same-ty _ _ p.1, same-ty _ _ p.2, ltb-true a t.decls h.0, same-ty _ _ p.0, u)

  -- the locals of a 43
  listed : (a b : ℕ) → (eqb b 0 || leb (a + b) t.decls) ≡ true → all b (λ i. same_ty (type_at t (a + i)) uint) ≡ true
      → all b (λ i. not (marked_uint t (a + i))) ≡ true
      → (i : ℕ) → within (stretch a b) i ≡ true → (i < t.decls) × (type_at t i ≡ uint) × (marked_uint t i ≡ false)
  listed a b y z u i w =
      let p : (a ≤ i) × (i < a + b) = place_in (stretch a b) i w in
      let j : i - a < b = omega (arith, p.0, p.1) in
      let e : a + (i - a) ≡ i = omega (arith, p.0) in (
        omega (arith, p.0, p.1, some (eqb b 0) refl y),
        subst (λ (k : ℕ). type_at t k ≡ uint) e (same-ty _ _ (all-at b (λ i. same_ty (type_at t (a + i)) uint) z (i - a) j)),
        subst (λ (k : ℕ). marked_uint t k ≡ false) e (not-true (marked_uint t (a + (i - a))) (all-at b (λ i. not (marked_uint t (a + i))) u (i - a) j)),
      )
    where
      some : (d : Bool) → eqb b 0 ≡ d → (d || leb (a + b) t.decls) ≡ true → a + b ≤ t.decls
      some true d h = let p : (a ≤ i) × (i < a + b) = place_in (stretch a b) i w in absurd (omega (arith, p.0, p.1, eqb-true b 0 d))
      some false d h = leb-true (a + b) t.decls h

  row_fits : (r : ℕ) (k : Row) (a b c : ℕ) → has_row (is_reduced m) k ≡ true
      → all_there (row_roles k) t.decls t.nodes (record { kind = 0; a = a; b = b; c = c }) ≡ true → locals_there k t.decls a b ≡ true
      → typed_row (type_at t) ty k a b c ≡ true → row_suits (is_reduced m) k (marked_uint t a) (marked_pointer t a) ≡ true
      → procedure_rule t r k a b c ≡ true → RowFits m t ty k a b c
  unfolding row_roles
  row_fits r skip a b c x y o z u v = tt
  row_fits r assign a b c x y o z u v =
      let h = three (ltb a t.decls) (ltb b t.nodes) true y in
      (ltb-true a t.decls h.0, ltb-true b t.nodes h.1, same-ty _ _ z, classed-none m t a (not-true (marked_uint t a) u))
  row_fits r store a b c x y o z u v = let s = stored a b y z in (s.0, s.1, s.2, s.3, is_plain m x)
  row_fits r assert a b c x y o z u v = (ltb-true a t.nodes (three (ltb a t.nodes) true true y).0, same-ty _ _ z)
  row_fits r assume a b c x y o z u v = (ltb-true a t.nodes (three (ltb a t.nodes) true true y).0, same-ty _ _ z)
  row_fits r array a b c x y o z u v = laid_out a b y z
  row_fits r loop a b c x y o z u v = looped a b c false y z (unclassed m t a u)
  row_fits r loop_end a b c x y o z u v = tt
  row_fits r reduced_store a b c x y o z u v = stored a b y z
  row_fits r reduced_array a b c x y o z u v = let s = laid_out a b y z in (s.0, s.1, s.2, s.3, s.4, is-reduced m x)
  row_fits r class_loop a b c x y o z u v = let s = looped a b c true y z (classed-is m t a x u) in (s.0, s.1, s.2, s.3, s.4, s.5, s.6, is-reduced m x)
  row_fits r procedure a b c x y o z u v = listed a b o z (rightly t r a b v).1
  row_fits r returns a b c x y o z u v = (ltb-true a t.nodes (three (ltb a t.nodes) true true y).0, same-ty _ _ z)
  row_fits r call a b c x y o z u v =
      let h = three true (ltb b t.nodes) (ltb c t.decls) y in (
        ltb-true b t.nodes h.1,
        same-ty _ _ (and_left (same_ty (ty b) uint) (same_ty (type_at t c) uint) z),
        ltb-true c t.decls h.2,
        same-ty _ _ (and_right (same_ty (ty b) uint) (same_ty (type_at t c) uint) z),
        not-true (marked_uint t c) (and_right (ltb (opening t a) t.rows) (not (marked_uint t c)) v),
        ltb-true _ _ (and_left (ltb (opening t a) t.rows) (not (marked_uint t c)) v),
      )
  row_fits r no_row a b c x y o z u v = false≢true z

-- ---- of an accepted table

-- 11: an end has an open loop, and a loop an end
some_is : (n : Nest) (os : List ℕ) (d : Bool) → nest_breaks n os d ≡ false → n ≡ closes → (o : ℕ) × (rest : List ℕ) × (os ≡ o ∷ rest)
some_is opens os d h e = absurd (let z : ◌≡◌ {A = ℕ} 0 1 = cc in omega arith)
some_is closes [] d h e = absurd (true≢false h)
some_is closes (o ∷ os) d h e = (o, os, refl)
some_is neither os d h e = absurd (let z : ◌≡◌ {A = ℕ} 0 1 = cc in omega arith)

closed_is : (n : Nest) (os : List ℕ) (d : Bool) → nest_breaks n os d ≡ false → n ≡ opens → d ≡ false
closed_is opens os true h e = h
closed_is opens os false h e = refl
closed_is closes os d h e = absurd (let z : ◌≡◌ {A = ℕ} 0 1 = cc in omega arith)
closed_is neither os d h e = absurd (let z : ◌≡◌ {A = ℕ} 0 1 = cc in omega arith)

none_is : (os : List ℕ) → none_open os ≡ true → os ≡ []
none_is [] e = refl
none_is (o ∷ os) e = absurd (false≢true e)

module _ (m : MachineKind) (t : Table) (A : Accepted m t) where
  -- a line past the end is no line
  pub no-line : (i : ℕ) → line_count t ≤ i → (line_at t.words i).kind ≡ 0
  no-line i h = get_or-eq_default t.words 0 {n = 4 * i} (omega (arith, A.whole))

  line_known : (i : ℕ) → i < line_count t → known m (line_at t.words i).kind ≡ true
  line_known i h = all-at (line_count t) (λ i. known m (line_at t.words i).kind) A.kinds i h

  line-node : (i : ℕ) → has_node (is_reduced m) (node_kind (line_at t.words i).kind) ≡ true
  unfolding node_kind
  line-node i = elim (dec_le (line_count t) i) [ yes h ↦ rw (no-line i h) refl | no h ↦ has-node m (line_at t.words i).kind (line_known i (omega arith)) ]

  line_row : (i : ℕ) → has_row (is_reduced m) (row_kind (line_at t.words i).kind) ≡ true
  unfolding row_kind
  line_row i = elim (dec_le (line_count t) i) [ yes h ↦ rw (no-line i h) refl | no h ↦ has-row m (line_at t.words i).kind (line_known i (omega arith)) ]

  type-is : (n : ℕ) → node_type t n ≡ type_by (type_at t) (node_kind (node_at t n).kind) (node_at t n).a (node_at t n).b
      (λ j. if ltb j n then node_type t j else bool)
  unfolding node_type
  type-is n = value-is (λ m ty. type_by (type_at t) (node_kind (node_at t m).kind) (node_at t m).a (node_at t m).b ty) bool n

  pub node-fits : (n : ℕ) → n < t.nodes → Fits m t (node_type t) (node_kind (node_at t n).kind) (node_at t n).a (node_at t n).b (node_at t n).c n
  unfolding node_there node_typed node_suits_mark
  node-fits n h =
      fits m t (node_type t) (node_kind (node_at t n).kind) (node_at t n).a (node_at t n).b (node_at t n).c n (λ j. if ltb j n then node_type t j else bool)
      (λ j l. rw (lt-ltb j n l)) (sym (type-is n)) (line-node (t.decls + n))
      (all-at t.nodes (node_there t) A.nodes_there n h) (all-at t.nodes (node_typed t) A.nodes_typed n h)
      (all-at t.nodes (node_suits_mark m t) A.nodes_suit n h)

  -- 17: what it uses, and by its kind
  keeps-17 : (r : ℕ) → r < t.rows
      → (uses_own t r ≡ true) × (procedure_rule t r (row_kind (row_at t r).kind) (row_at t r).a (row_at t r).b (row_at t r).c ≡ true)
  unfolding keeps_procedures
  keeps-17 r h =
      let rule : Bool = procedure_rule t r (row_kind (row_at t r).kind) (row_at t r).a (row_at t r).b (row_at t r).c in
      let k = all-at t.rows (keeps_procedures t) A.procedures r h in
      (and_left (uses_own t r) rule k, and_right (uses_own t r) rule k)

  pub row-uses : (r : ℕ) → r < t.rows → uses_own t r ≡ true
  row-uses r h = (keeps-17 r h).0

  pub row-rule : (r : ℕ) → r < t.rows → procedure_rule t r (row_kind (row_at t r).kind) (row_at t r).a (row_at t r).b (row_at t r).c ≡ true
  row-rule r h = (keeps-17 r h).1

  -- a row that opens a procedure
  pub opens-rightly : (r : ℕ) → r < t.rows → is_opening t r ≡ true → opens_rightly t r (row_at t r).a (row_at t r).b ≡ true
  opens-rightly r h e =
      subst (λ k. procedure_rule t r k (row_at t r).a (row_at t r).b (row_at t r).c ≡ true) (opens-is (row_kind (row_at t r).kind) e) (row-rule r h)

  pub rows_fit : (r : ℕ) → r < t.rows → RowFits m t (node_type t) (row_kind (row_at t r).kind) (row_at t r).a (row_at t r).b (row_at t r).c
  unfolding row_there row_typed row_suits_mark
  rows_fit r h =
      let y = all-at t.rows (row_there t) A.rows_there r h in
      let operands : Bool = all_there (row_roles (row_kind (row_at t r).kind)) t.decls t.nodes (row_at t r) in
      let locals : Bool = locals_there (row_kind (row_at t r).kind) t.decls (row_at t r).a (row_at t r).b in
      row_fits m t (node_type t) r (row_kind (row_at t r).kind) (row_at t r).a (row_at t r).b (row_at t r).c (line_row (t.decls + t.nodes + r))
      (and_left operands locals y) (and_right operands locals y) (all-at t.rows (row_typed t) A.rows_typed r h)
      (all-at t.rows (row_suits_mark m t) A.rows_suit r h) (row-rule r h)

  row-nested : (r : ℕ) → r < t.rows → nest_breaks (nest_at t r) (open_at t r) (leb t.rows (matching_end t r)) ≡ false
  unfolding misnested
  row-nested r h = not-true (misnested t r) (all-at t.rows (λ r. not (misnested t r)) A.rows_nested r h)

  pub is-nested : Nested t
  is-nested = record {
    closed = none-open t (λ r h e. leb-false t.rows (matching_end t r) (closed_is (nest_at t r) (open_at t r) _ (row-nested r h) e));
    some = λ r h e. some_is (nest_at t r) (open_at t r) _ (row-nested r h) e;
    apart = λ r h e. none_is (open_at t r) (rightly t r (row_at t r).a (row_at t r).b (opens-rightly r h e)).0;
  }

-- ---- of an accepted plain table, at every number

plain-node : (k : Node) → has_node false k ≡ true → PlainNode k
plain-node variable h = tt
plain-node uint_constant h = tt
plain-node bool_constant h = tt
plain-node cell h = tt
plain-node plus h = tt
plain-node minus h = tt
plain-node less h = tt
plain-node at_most h = tt
plain-node equal h = tt
plain-node conditional h = tt
plain-node valid h = tt
plain-node class_variable h = false≢true h
plain-node reduced_cell h = false≢true h
plain-node reduced_valid h = false≢true h
plain-node no_node h = tt

plain_row : (t : Table) (ty : ℕ → Ty) (k : Row) (a b c : ℕ) → has_row false k ≡ true → typed_row (type_at t) ty k a b c ≡ true
    → row_suits false k (marked_uint t a) (marked_pointer t a) ≡ true → RowFits plain t ty k a b c → PlainRow t k a b c
plain_row t ty skip a b c h z u f = tt
plain_row t ty assign a b c h z u f = not-true (marked_uint t a) u
plain_row t ty store a b c h z u f = tt
plain_row t ty assert a b c h z u f = tt
plain_row t ty assume a b c h z u f = tt
plain_row t ty array a b c h z u f = pointer-unmarked t a (same-ty _ _ (and_left (same_ty (type_at t a) pointer) (same_ty (ty b) uint) z))
plain_row t ty loop a b c h z u f = tt
plain_row t ty loop_end a b c h z u f = tt
plain_row t ty reduced_store a b c h z u f = false≢true h
plain_row t ty reduced_array a b c h z u f = false≢true h
plain_row t ty class_loop a b c h z u f = false≢true h
plain_row t ty procedure a b c h z u f = λ i w. (f i w).2
plain_row t ty returns a b c h z u f = tt
plain_row t ty call a b c h z u f = f.4
plain_row t ty no_row a b c h z u f = tt

module _ (t : Table) (A : Accepted plain t) where
  pub plain-nodes : (n : ℕ) → PlainNode (node_kind (node_at t n).kind)
  plain-nodes n = plain-node (node_kind (node_at t n).kind) (line-node plain t A (t.decls + n))

  pub plain_rows : (r : ℕ) → PlainRow t (row_kind (row_at t r).kind) (row_at t r).a (row_at t r).b (row_at t r).c
  unfolding row_typed row_suits_mark row_kind
  plain_rows r = elim (dec_le t.rows r) [
    | yes h ↦ rw (no-line plain t A (t.decls + t.nodes + r) (omega arith)) tt
    | no h ↦ plain_row t (node_type t) (row_kind (row_at t r).kind) (row_at t r).a (row_at t r).b (row_at t r).c (line_row plain t A (t.decls + t.nodes + r))
        (all-at t.rows (row_typed t) A.rows_typed r (omega arith)) (all-at t.rows (row_suits_mark plain t) A.rows_suit r (omega arith))
        (rows_fit plain t A r (omega arith))
  ]
