-- How many of the numbers below a bound pass a test, where the test holds up to a number and not after it.
-- Assumes nothing.
use Prim.Native.Nat.{ℕ, zero, suc, ◌+◌, ◌<◌, ◌≤◌}
use native.Mathlib.Omega.{arith}
use native.Mathlib.Nat.{not-suc-le-zero, eq-or-lt_of_le, le_of_suc-le-suc}
use mathlib.Core.Path.{◌≡◌, refl, sym, ap, ◌∙◌}
use mathlib.Core.Logic.{⊎_elim}
use mathlib.Core.Bool.{Bool, true, false, false≢true, true≢false}
use Rattle.std.specs.Prelude.{if◌then◌else◌}
use Rattle.lists.specs.Tab.{sum}

pub sum-add : (n : ℕ) (f g : ℕ → ℕ) → sum n (λ i. f i + g i) ≡ sum n f + sum n g
unfolding sum
sum-add zero f g = refl
sum-add (suc n) f g = omega (arith, sum-add n f g)

-- of a constant 1
pub sum_ones : (n : ℕ) → sum n (λ i. 1) ≡ n
unfolding sum
sum_ones zero = refl
sum_ones (suc n) = omega (arith, sum_ones n)

abbrev pub bit : Bool → ℕ
bit b = if b then 1 else 0

pub bit-most : (b : Bool) → bit b ≤ 1
bit-most true = omega arith
bit-most false = omega arith

module _ (f : ℕ → Bool) where
  count_most : (n : ℕ) → sum n (λ i. bit (f i)) ≤ n
  unfolding sum
  count_most zero = omega arith
  count_most (suc n) = omega (arith, count_most n, bit-most (f n))

  count-full : (n : ℕ) → ((i : ℕ) → i < n → f i ≡ true) → sum n (λ i. bit (f i)) ≡ n
  unfolding sum
  count-full zero h = refl
  count-full (suc n) h = rw (h n (omega arith)) (omega (arith, count-full n (λ i l. h i (omega arith))))

  -- the numbers that pass are those below their count
  module _ (n : ℕ) (front : (i j : ℕ) → i ≤ j → j < n → f j ≡ true → f i ≡ true) where
    count-front : (m : ℕ) → m ≤ n → (i : ℕ) → i < m → (f i ≡ true → i < sum m (λ i. bit (f i))) × (f i ≡ false → sum m (λ i. bit (f i)) ≤ i)
    unfolding sum
    count-front zero l i h = absurd (not-suc-le-zero h)
    count-front (suc m) l i h = go (f m) refl (λ k. count-front m (omega arith) i k)
      where
        go : (b : Bool) → f m ≡ b → (i < m → (f i ≡ true → i < sum m (λ i. bit (f i))) × (f i ≡ false → sum m (λ i. bit (f i)) ≤ i))
            → (f i ≡ true → i < sum m (λ i. bit (f i)) + bit (f m)) × (f i ≡ false → sum m (λ i. bit (f i)) + bit (f m) ≤ i)
        go true e ih = (
          λ p. rw e (omega (arith, count-full m (λ j k. front j m (omega arith) (omega arith) e))),
          λ p. absurd (false≢true (sym p ∙ front i m (omega arith) (omega arith) e)),
        )
        go false e ih = rw e (⊎_elim (λ q. (λ p. absurd (true≢false (sym p ∙ ap f q ∙ e)), λ p. omega (arith, q, count_most m)))
            (λ k. (λ p. omega (arith, (ih k).0 p), λ p. omega (arith, (ih k).1 p))) (eq-or-lt_of_le (le_of_suc-le-suc h)))

    pub below-count : (i : ℕ) → i < n → f i ≡ true → i < sum n (λ i. bit (f i))
    below-count i h = (count-front n (omega arith) i h).0

    pub past-count : (i : ℕ) → i < n → f i ≡ false → sum n (λ i. bit (f i)) ≤ i
    past-count i h = (count-front n (omega arith) i h).1

    pub counted : (i : ℕ) → i < n → i < sum n (λ i. bit (f i)) → f i ≡ true
    counted i h l = go (f i) refl
      where
        go : (b : Bool) → f i ≡ b → f i ≡ true
        go true e = e
        go false e = absurd (omega (arith, past-count i h e))

    pub uncounted : (i : ℕ) → i < n → sum n (λ i. bit (f i)) ≤ i → f i ≡ false
    uncounted i h l = go (f i) refl
      where
        go : (b : Bool) → f i ≡ b → f i ≡ false
        go true e = absurd (omega (arith, below-count i h e))
        go false e = e
