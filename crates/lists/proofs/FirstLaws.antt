-- Laws of a walk up the numbers: those of the loop that counts i up to n, whose invariant is that the whole walk is what is left of it.
-- Assumes nothing.
use Prim.Native.Nat.{ℕ, zero, suc, ◌+◌, ◌-◌, ◌<◌, ◌≤◌}
use native.Mathlib.Omega.{arith}
use native.Mathlib.Numerals.{add-one}
use native.Mathlib.Nat.{not-suc-le-zero, eq-or-lt_of_le}
use mathlib.Core.Path.{◌≡◌, refl}
use mathlib.Core.Logic.{⊎_elim}
use mathlib.Core.Bool.{Bool, true, false}
use Rattle.std.specs.Prelude.{Some, None}
use Rattle.lists.specs.First.{walk, found, first}

module _ {R : Type 0} (s : ℕ → R → R) (e : R) (i n : ℕ) where
  pub walk_more : i < n → walk s e i (n - i) ≡ s i (walk s e (i + 1) (n - (i + 1)))
  unfolding walk
  walk_more l = let one : n - i ≡ suc (n - (i + 1)) = omega arith in rw (one, add-one i)

  pub walk-done : n ≤ i → walk s e i (n - i) ≡ e
  unfolding walk
  walk-done l = let none : n - i ≡ 0 = omega arith in rw none

module _ (f : ℕ → Bool) (i n : ℕ) where
  pub first-hit : i < n → f i ≡ true → first f i (n - i) ≡ Some i
  first-hit l h = rw (walk_more (λ i rest. found (f i) i rest) None i n l, h)

  pub first-miss : i < n → f i ≡ false → first f i (n - i) ≡ first f (i + 1) (n - (i + 1))
  first-miss l h = rw (walk_more (λ i rest. found (f i) i rest) None i n l, h)

  pub first-none : n ≤ i → first f i (n - i) ≡ None
  first-none l = walk-done _ _ _ _ l

-- a test that holds nowhere
pub first-nowhere : (n : ℕ) (f : ℕ → Bool) (i : ℕ) → ((j : ℕ) → j < i + n → f j ≡ false) → first f i n ≡ None
unfolding walk
first-nowhere zero f i h = refl
first-nowhere (suc n) f i h = rw (h i (omega arith)) (first-nowhere n f (suc i) (λ j l. h j (omega arith)))

-- a place that was found is one of those looked at
pub first_below : (n : ℕ) (f : ℕ → Bool) (i k : ℕ) → first f i n ≡ Some k → k < i + n
unfolding walk
first_below zero f i k e = let no : ◌≡◌ {A = ℕ} 0 1 = cc in omega arith
first_below (suc n) f i k e = go (f i) e (first_below n f (suc i) k)
  where
    go : (b : Bool) → found b i (first f (suc i) n) ≡ Some k → (first f (suc i) n ≡ Some k → k < suc i + n) → k < i + suc n
    go true w later = let same : i ≡ k = cc in omega arith
    go false w later = omega (arith, later w)

-- ... and the first at which the test holds
pub first_found : (n : ℕ) (f : ℕ → Bool) (i k : ℕ) → first f i n ≡ Some k → (f k ≡ true) × ((j : ℕ) → i ≤ j → j < k → f j ≡ false)
unfolding walk
first_found zero f i k e = let no : ◌≡◌ {A = ℕ} 0 1 = cc in absurd (not-suc-le-zero {n = 0} (omega arith))
first_found (suc n) f i k e = go (f i) refl e (first_found n f (suc i) k)
  where
    go : (b : Bool) → f i ≡ b → found b i (first f (suc i) n) ≡ Some k
        → (first f (suc i) n ≡ Some k → (f k ≡ true) × ((j : ℕ) → suc i ≤ j → j < k → f j ≡ false))
        → (f k ≡ true) × ((j : ℕ) → i ≤ j → j < k → f j ≡ false)
    go true q w later = let same : i ≡ k = cc in (rw same at q, λ j l m. absurd (omega arith))
    go false q w later = let h = later w in (h.0, λ j l m. ⊎_elim (λ same. rw same at q) (λ less. h.1 j less m) (eq-or-lt_of_le l))

-- where none was found the test holds nowhere
pub first-nowhere-at : (n : ℕ) (f : ℕ → Bool) (i : ℕ) → first f i n ≡ None → (j : ℕ) → i ≤ j → j < i + n → f j ≡ false
unfolding walk
first-nowhere-at zero f i e j l m = absurd (not-suc-le-zero {n = 0} (omega arith))
first-nowhere-at (suc n) f i e j l m = go (f i) refl e (λ w less. first-nowhere-at n f (suc i) w j less (omega arith))
  where
    go : (b : Bool) → f i ≡ b → found b i (first f (suc i) n) ≡ None → (first f (suc i) n ≡ None → i < j → f j ≡ false) → f j ≡ false
    go true q w later = let no : ◌≡◌ {A = ℕ} 0 1 = cc in absurd (not-suc-le-zero {n = 0} (omega arith))
    go false q w later = ⊎_elim (λ same. rw same at q) (later w) (eq-or-lt_of_le l)
