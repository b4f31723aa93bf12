-- Laws of the locals of a procedure: put aside, set to 0, and back.
-- Assumes nothing.
use mathlib.Core.Path.{◌≡◌, refl, sym, ◌∙◌, subst}
use Prim.Native.Nat.{ℕ, ◌+◌, ◌-◌, ◌≤◌, ◌<◌}
use native.Mathlib.Nat.{not-suc-le-zero}
use native.Mathlib.Omega.{arith}
use mathlib.Core.Bool.{Bool, true, false}
use mathlib.Core.List.{List}
use lib.ListN.{length, get_or, get_or-eq_default}
use borrow.Author.Tests.{lt-ltb}
use Rattle.std.specs.Prelude.{if◌then◌else◌}
use Rattle.lists.proofs.TabLaws.{all_true, at-tab, length-tab}
use Rattle.model.specs.Table.{Stretch, Table, Ty, home, locals_at, locals_of, marked_uint, row_at, row_kind, stretch, type_at, within}
use Rattle.model.specs.Table.Ty.{uint}
use Rattle.model.specs.State.{MachineKind, Value, classed}
use Rattle.model.specs.State.Value.{Uint}
use Rattle.model.specs.Step.{handed_over, is_uint, numbers_in, renumbered, uints_in}
use Rattle.model.specs.Accepted.{Accepted, Holds, node_type}
use Rattle.model.proofs.Memory.{split}
use Rattle.model.proofs.Homes.{Home, home-is, in_place, opens-is, place_in}
use Rattle.model.proofs.Homes.Home.{of_main, of_procedure}
use Rattle.model.proofs.Typing.{RowFits, classed-none, rows_fit}

-- ---- variables that get numbers

pub length-renumbered : (vs : List Value) (l : Stretch) (f : ℕ → ℕ) → length (renumbered vs l f) ≡ length vs
unfolding renumbered
length-renumbered vs l f = length-tab (length vs) (λ i. if within l i then Uint (f (i - l.first)) else get_or vs i (Uint 0))

pub at-renumbered : (vs : List Value) (l : Stretch) (f : ℕ → ℕ) (i : ℕ) → i < length vs
    → get_or (renumbered vs l f) i (Uint 0) ≡ (if within l i then Uint (f (i - l.first)) else get_or vs i (Uint 0))
unfolding renumbered
at-renumbered vs l f i h = at-tab (length vs) (λ i. if within l i then Uint (f (i - l.first)) else get_or vs i (Uint 0)) (Uint 0) i h

-- what holds of the numbers, and of the variables before, holds after
pub renumbered-all : (P : ℕ → Value → Type 0) (vs : List Value) (l : Stretch) (f : ℕ → ℕ) (i : ℕ) → i < length vs
    → (within l i ≡ true → P i (Uint (f (i - l.first)))) → (within l i ≡ false → P i (get_or vs i (Uint 0))) → P i (get_or (renumbered vs l f) i (Uint 0))
renumbered-all P vs l f i h x y = subst (P i) (sym (at-renumbered vs l f i h)) (go (within l i) x y)
  where
    go : (b : Bool) → (b ≡ true → P i (Uint (f (i - l.first)))) → (b ≡ false → P i (get_or vs i (Uint 0)))
        → P i (if b then Uint (f (i - l.first)) else get_or vs i (Uint 0))
    go true x y = x refl
    go false x y = y refl

-- ... also past the end
pub renumbered-any : (P : Value → Type 0) (vs : List Value) (l : Stretch) (f : ℕ → ℕ) → ((i : ℕ) → P (get_or vs i (Uint 0)))
    → ((j : ℕ) → P (Uint (f j))) → (i : ℕ) → P (get_or (renumbered vs l f) i (Uint 0))
renumbered-any P vs l f h k i =
    split (length vs) i
    (λ o. subst P
    (get_or-eq_default vs (Uint 0) {n = i} o ∙ sym (get_or-eq_default (renumbered vs l f) (Uint 0) {n = i} (omega (arith, length-renumbered vs l f))))
    (h i))
    (λ o. renumbered-all (λ i v. P v) vs l f i o (λ _. k (i - l.first)) (λ _. h i))

pub length-numbers : (vs : List Value) (l : Stretch) → length (numbers_in vs l) ≡ l.count
unfolding numbers_in
length-numbers vs l = length-tab l.count _

-- ---- in an accepted table

module _ (m : MachineKind) (t : Table) (A : Accepted m t) where
  -- the locals of a procedure are there, unmarked, and uints
  pub locals-fit : (r : ℕ) → r ≤ t.rows → (i : ℕ) → within (locals_at t r) i ≡ true → (i < t.decls) × (type_at t i ≡ uint) × (marked_uint t i ≡ false)
  locals-fit r h i = go (home t r) (home-is t r)
    where
      go : (q : ℕ) → Home t r q → within (locals_of t q) i ≡ true → (i < t.decls) × (type_at t i ≡ uint) × (marked_uint t i ≡ false)
      go q of_main w = absurd (not-suc-le-zero (place_in (stretch 0 0) i w).1)
      go q (of_procedure p l o) w =
          subst (λ k. RowFits m t (node_type t) k (row_at t p).a (row_at t p).b (row_at t p).c) (opens-is (row_kind (row_at t p).kind) o)
          (rows_fit m t A p (omega arith)) i w

  -- variables of a record that the table can have
  abbrev pub Typed : ℕ → List Value → Type 0
  Typed n vs = (length vs ≡ t.decls) × ((i : ℕ) → i < t.decls → Holds (classed m t i) n (type_at t i) (get_or vs i (Uint 0)))

  local-holds : (n r : ℕ) → r ≤ t.rows → (i : ℕ) → within (locals_at t r) i ≡ true → (v : Value) → Holds (classed m t i) n (type_at t i) v
      → is_uint v ≡ true
  local-holds n r h i w v k =
      let f = locals-fit r h i w in
      let g : Holds false n uint v = subst (λ (y : Ty). Holds false n y v) f.1 (subst (λ b. Holds b n (type_at t i) v) (classed-none m t i f.2) k) in
      rw g.1

  pub uints-in : (n : ℕ) (vs : List Value) → Typed n vs → (r : ℕ) → r ≤ t.rows → uints_in vs (locals_at t r) ≡ true
  unfolding uints_in
  uints-in n vs T r h =
      all_true (locals_at t r).count _
      (λ i l.
      let j : ℕ = (locals_at t r).first + i in
      let w : within (locals_at t r) j ≡ true = in_place (locals_at t r) j (omega arith) (omega arith) in
      let f = locals-fit r h j w in
      rw (lt-ltb j (length vs) (omega (arith, f.0, T.0)), local-holds n r h j w _ (T.1 _ f.0)))

  pub typed-renumbered : (n : ℕ) (vs : List Value) → Typed n vs → (r : ℕ) → r ≤ t.rows → (f : ℕ → ℕ) → Typed n (renumbered vs (locals_at t r) f)
  typed-renumbered n vs T r h f = (
    length-renumbered vs (locals_at t r) f ∙ T.0,
    λ i l. renumbered-all (λ i v. Holds (classed m t i) n (type_at t i) v) vs (locals_at t r) f i (omega (arith, T.0))
        (λ w. let g = locals-fit r h i w in rw (classed-none m t i g.2, g.1) (_, refl))
        (λ _. T.1 i l),
  )

  pub typed-handed : (n : ℕ) (vs : List Value) → Typed n vs → (q r : ℕ) → q ≤ t.rows → r ≤ t.rows → (f : ℕ → ℕ)
      → Typed n (handed_over vs (locals_at t q) (locals_at t r) f)
  typed-handed n vs T q r h k f = typed-renumbered n _ (typed-renumbered n vs T q h (λ i. 0)) r k f
