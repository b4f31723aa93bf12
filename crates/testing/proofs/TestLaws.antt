-- The check number of a list item by item, each spelled as a word.
-- Assumes nothing.
use mathlib.Core.Path.{◌≡◌, sym, ap, ◌∙◌}
use Prim.Native.Nat.{ℕ, suc, ◌+◌, ◌≤◌, ◌<◌}
use native.Mathlib.Omega.{arith}
use mathlib.Core.List.{List, map}
use lib.ListN.{length, get_or, drop, drop_of_length-le}
use lib.Seq.{drop-cons}
use Rattle.testing.specs.Checks.{mixed_with, check_from}

module _ {A : Type 0} (word : A → ℕ) (s : List A) where
  -- one item more: the check number of what is left, from the one so far
  pub check-more : (i h r z : ℕ) (x : A) → i < length s → x ≡ get_or s i x → check_from h (map word (drop i s)) ≡ z → r ≡ mixed_with h (word x)
      → check_from r (map word (drop (i + 1) s)) ≡ z
  unfolding check_from
  check-more i h r z x l is e q =
      let next : suc i ≡ i + 1 = omega arith in
      let first : check_from (mixed_with h (word (get_or s i x))) (map word (drop (suc i) s)) ≡ z =
      sym (ap (λ (t : List A). check_from h (map word t)) (drop-cons s i x l)) ∙ e in
      rw (q, ← next) (rw (← is) at first)

  -- nothing left
  pub check-all : (i h z : ℕ) → length s ≤ i → check_from h (map word (drop i s)) ≡ z → h ≡ z
  unfolding check_from
  check-all i h z l e = sym (ap (λ (t : List A). check_from h (map word t)) (drop_of_length-le s l)) ∙ e
