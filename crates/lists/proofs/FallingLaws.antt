-- The value at a number by its equation, with no list of values in it.
-- Assumes nothing.
use Prim.Native.Nat.{ℕ, zero, suc, ◌<◌}
use native.Mathlib.Omega.{arith}
use native.Mathlib.Nat.{not-suc-le-zero, eq-or-lt_of_le, le_of_suc-le-suc}
use mathlib.Core.Path.{◌≡◌, refl, ap, ◌∙◌, fun_ext}
use mathlib.Core.Logic.{⊎_elim}
use mathlib.Core.Bool.{Bool, true, false}
use mathlib.Core.List.{[]}
use lib.ListN.{length, get_or, length-append, get_or-append, get_or-eq_default}
use lib.Seq.{get_or_at}
use lib.Dec.{ltb}
use borrow.Author.Tests.{ltb-true, ltb-false}
use Rattle.std.specs.Prelude.{if◌then◌else◌}
use Rattle.lists.specs.Falling.{values_below, value_at}

module _ {A : Type 0} (s : ℕ → (ℕ → A) → A) (d : A) where
  pub length-values : (n : ℕ) → length (values_below s d n) ≡ n
  unfolding values_below
  length-values zero = refl
  length-values (suc n) = rw length-append (rw (length-values n) (omega arith))

  pub at-values : (n j : ℕ) → j < n → get_or (values_below s d n) j d ≡ value_at s d j
  unfolding values_below value_at
  at-values zero j l = absurd (not-suc-le-zero l)
  at-values (suc n) j l =
      ⊎_elim (λ e. rw e (get_or_at (values_below s d n) _ [] d n (length-values n)))
      (λ h. get_or-append (values_below s d n) _ d j (rw (length-values n) h) ∙ at-values n j h) (eq-or-lt_of_le (le_of_suc-le-suc l))

  below : (n j : ℕ) (t : Bool) → ltb j n ≡ t → get_or (values_below s d n) j d ≡ (if t then value_at s d j else d)
  below n j true e = at-values n j (ltb-true j n e)
  below n j false e = get_or-eq_default (values_below s d n) d (rw (length-values n) (ltb-false j n e))

  -- a number that is not smaller counts as d
  pub value-is : (n : ℕ) → value_at s d n ≡ s n (λ j. if ltb j n then value_at s d j else d)
  value-is n = unfold value_at in ap (s n) (fun_ext (λ j. below n j (ltb j n) refl))
