-- What check 17 says: a row sets no local but its own procedure's, and a local is one procedure's.
-- Assumes nothing.
use mathlib.Core.Path.{◌≡◌, refl, sym, ◌∙◌, subst}
use Prim.Native.Nat.{ℕ, zero, suc, ◌+◌, ◌-◌, ◌≤◌, ◌<◌}
use native.Mathlib.Nat.{not-suc-le-zero}
use native.Mathlib.Omega.{arith}
use mathlib.Core.Bool.{Bool, true, false, ◌||◌, false≢true, true≢false}
use mathlib.Core.List.{List}
use lib.ListN.{length, get_or}
use lib.Dec.{eqb}
use borrow.Author.Tests.{eqb-true, eq-eqb}
use Rattle.std.specs.Prelude.{if◌then◌else◌}
use Rattle.lists.proofs.TabLaws.{all-at}
use Rattle.model.specs.Table.{Row, Table, home, locals_at, locals_of, marked_uint, type_at, row_at, row_kind, row_roles, stretch, within}
use Rattle.model.specs.Table.Ty.{uint}
use Rattle.model.specs.Table.Row.{skip, assign, store, assert, assume, array, loop, loop_end, reduced_store, reduced_array, class_loop}
use Rattle.model.specs.Table.Row.{procedure, returns, call, no_row}
use Rattle.model.specs.State.{MachineKind, Value}
use Rattle.model.specs.State.Value.{Uint}
use Rattle.model.specs.Step.{handed_over, renumbered}
use Rattle.model.specs.Procedures.{Uses, allowed, line_uses, may_use, node_uses, owner, together, uses_own, variable_uses}
use Rattle.model.specs.Procedures.Uses.{globals, locals_of_one, locals_of_two}
use Rattle.model.specs.Accepted.{Accepted}
use Rattle.model.proofs.Homes.{Home, home-first, home-is, owner-within, place_in}
use Rattle.model.proofs.Homes.Home.{of_main, of_procedure}
use Rattle.model.proofs.Typing.{opens-rightly, rightly, row-uses}
use Rattle.model.proofs.Locals.{length-renumbered, locals-fit, renumbered-all}

parts : (x y : Bool) → (x || y) ≡ false → (x ≡ false) × (y ≡ false)
parts true y e = absurd (true≢false e)
parts false y e = (refl, e)

-- what is allowed together is allowed apart
pub allowed-left : (q : ℕ) (x y : Uses) → allowed q (together x y) ≡ true → allowed q x ≡ true
allowed-left q globals y e = refl
allowed-left q (locals_of_one p) globals e = e
allowed-left q (locals_of_one p) (locals_of_one r) e = go (eqb p r) e
  where
    go : (b : Bool) → allowed q (if b then locals_of_one p else locals_of_two) ≡ true → eqb p q ≡ true
    go true e = e
    go false e = absurd (false≢true e)
allowed-left q (locals_of_one p) locals_of_two e = absurd (false≢true e)
allowed-left q locals_of_two y e = e

pub allowed-right : (q : ℕ) (x y : Uses) → allowed q (together x y) ≡ true → allowed q y ≡ true
allowed-right q globals y e = e
allowed-right q (locals_of_one p) globals e = refl
allowed-right q (locals_of_one p) (locals_of_one r) e = go (eqb p r) refl e
  where
    go : (b : Bool) → eqb p r ≡ b → allowed q (if b then locals_of_one p else locals_of_two) ≡ true → eqb r q ≡ true
    go true d e = subst (λ (k : ℕ). eqb k q ≡ true) (eqb-true p r d) e
    go false d e = absurd (false≢true e)
allowed-right q (locals_of_one p) locals_of_two e = absurd (false≢true e)
allowed-right q locals_of_two y e = absurd (false≢true e)

pub allowed-variable : (t : Table) (q v : ℕ) → allowed q (variable_uses t v) ≡ true → may_use t q v ≡ true
allowed-variable t q v e = go (eqb (owner t v) 0) e
  where
    go : (b : Bool) → allowed q (if b then globals else locals_of_one (owner t v)) ≡ true → (b || eqb (owner t v) q) ≡ true
    go true e = refl
    go false e = e

-- the variable that a row sets
abbrev pub Sets : Table → ℕ → Row → ℕ → ℕ → Type 0
Sets t q skip a c = Unit {0}
Sets t q assign a c = may_use t q a ≡ true
Sets t q store a c = Unit {0}
Sets t q assert a c = Unit {0}
Sets t q assume a c = Unit {0}
Sets t q array a c = may_use t q a ≡ true
Sets t q loop a c = may_use t q a ≡ true
Sets t q loop_end a c = Unit {0}
Sets t q reduced_store a c = Unit {0}
Sets t q reduced_array a c = may_use t q a ≡ true
Sets t q class_loop a c = may_use t q a ≡ true
Sets t q procedure a c = Unit {0}
Sets t q returns a c = Unit {0}
Sets t q call a c = may_use t q c ≡ true
Sets t q no_row a c = Unit {0}

module _ (t : Table) (q : ℕ) (us : ℕ → Uses) where
  first-own : (a : ℕ) (y : Uses) → allowed q (together (variable_uses t a) y) ≡ true → may_use t q a ≡ true
  first-own a y e = allowed-variable t q a (allowed-left q (variable_uses t a) y e)

  sets-own : (k : Row) (a b c : ℕ) → allowed q (line_uses t us (row_roles k) a b c) ≡ true → Sets t q k a c
  unfolding row_roles
  sets-own skip a b c e = tt
  sets-own assign a b c e = first-own a _ e
  sets-own store a b c e = tt
  sets-own assert a b c e = tt
  sets-own assume a b c e = tt
  sets-own array a b c e = first-own a _ e
  sets-own loop a b c e = first-own a _ e
  sets-own loop_end a b c e = tt
  sets-own reduced_store a b c e = tt
  sets-own reduced_array a b c e = first-own a _ e
  sets-own class_loop a b c e = first-own a _ e
  sets-own procedure a b c e = tt
  sets-own returns a b c e = tt
  sets-own call a b c e = allowed-variable t q c (allowed-right q (us b) (variable_uses t c) e)
  sets-own no_row a b c e = tt

module _ (m : MachineKind) (t : Table) (A : Accepted m t) where
  pub row-sets : (r : ℕ) → r < t.rows → Sets t (home t r) (row_kind (row_at t r).kind) (row_at t r).a (row_at t r).c
  unfolding uses_own
  row-sets r h = sets-own t (home t r) (node_uses t) (row_kind (row_at t r).kind) (row_at t r).a (row_at t r).b (row_at t r).c (row-uses m t A r h)

  -- a local is its procedure's
  local-own : (r : ℕ) → r ≤ t.rows → (i : ℕ) → within (locals_at t r) i ≡ true → owner t i ≡ home t r
  local-own r h i = go (home t r) (home-is t r)
    where
      go : (q : ℕ) → Home t r q → within (locals_of t q) i ≡ true → owner t i ≡ q
      go q of_main w = absurd (not-suc-le-zero (place_in (stretch 0 0) i w).1)
      go q (of_procedure p l o) w =
          let z = place_in (stretch (row_at t p).a (row_at t p).b) i w in
          let j : i - (row_at t p).a < (row_at t p).b = omega (arith, z.0, z.1) in
          let e : (row_at t p).a + (i - (row_at t p).a) ≡ i = omega (arith, z.0) in
          subst (λ (k : ℕ). owner t k ≡ suc p) e
          (eqb-true (owner t ((row_at t p).a + (i - (row_at t p).a))) (suc p)
          (all-at (row_at t p).b (λ i. eqb (owner t ((row_at t p).a + i)) (suc p))
          (rightly t p (row_at t p).a (row_at t p).b (opens-rightly m t A p (omega arith) o)).2 (i - (row_at t p).a) j))

  own-local : (r i : ℕ) → owner t i ≡ home t r → eqb (owner t i) 0 ≡ false → within (locals_at t r) i ≡ true
  own-local r i = go (home t r) (home-is t r)
    where
      go : (q : ℕ) → Home t r q → owner t i ≡ q → eqb (owner t i) 0 ≡ false → within (locals_of t q) i ≡ true
      go q of_main e z = absurd (true≢false (sym (eq-eqb (owner t i) 0 e) ∙ z))
      go q (of_procedure p l o) e z = (owner-within t i p e).2

  -- a local of any procedure is an unmarked uint
  pub local_fits : (q i : ℕ) → may_use t q i ≡ false → (type_at t i ≡ uint) × (marked_uint t i ≡ false)
  local_fits q i e = go (owner t i) refl (parts (eqb (owner t i) 0) (eqb (owner t i) q) e).0
    where
      go : (o : ℕ) → owner t i ≡ o → eqb o 0 ≡ false → (type_at t i ≡ uint) × (marked_uint t i ≡ false)
      go zero h z = absurd (true≢false z)
      go (suc o) h z =
          let w = owner-within t i o h in
          let f = locals-fit m t A (suc o) w.0 i (subst (λ (q : ℕ). within (locals_of t q) i ≡ true) (sym (home-first t o w.1)) w.2) in
          (f.1, f.2)

  -- which locals are 0: all but those of the procedure q
  abbrev pub Idle : ℕ → List Value → Type 0
  Idle q vs = (i : ℕ) → i < t.decls → may_use t q i ≡ false → get_or vs i (Uint 0) ≡ Uint 0

  -- handed over, from the procedure of row q to that of row r
  pub idle-handed : (vs : List Value) → length vs ≡ t.decls → (q r : ℕ) → q ≤ t.rows → r ≤ t.rows → (f : ℕ → ℕ) → Idle (home t q) vs
      → Idle (home t r) (handed_over vs (locals_at t q) (locals_at t r) f)
  idle-handed vs n q r h k f I i l e =
      let z = parts (eqb (owner t i) 0) (eqb (owner t i) (home t r)) e in
      renumbered-all (λ i v. v ≡ Uint 0) (renumbered vs (locals_at t q) (λ i. 0)) (locals_at t r) f i
      (omega (arith, length-renumbered vs (locals_at t q) (λ i. 0)))
      (λ w. absurd (true≢false (sym (eq-eqb (owner t i) (home t r) (local-own r k i w)) ∙ z.1)))
      (λ _. renumbered-all (λ i v. v ≡ Uint 0) vs (locals_at t q) (λ i. 0) i (omega arith) (λ _. refl) (λ w. I i l (rw z.0 (not_own w z.0))))
    where
      not_own : within (locals_at t q) i ≡ false → eqb (owner t i) 0 ≡ false → eqb (owner t i) (home t q) ≡ false
      not_own w z = go (eqb (owner t i) (home t q)) refl
        where
          go : (b : Bool) → eqb (owner t i) (home t q) ≡ b → eqb (owner t i) (home t q) ≡ false
          go true d = absurd (true≢false (sym (own-local q i (eqb-true (owner t i) (home t q) d) z) ∙ w))
          go false d = d
