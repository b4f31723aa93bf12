-- The choice at a cursor is the front of what is left of the list there, and the cursor after it leaves the rest.
-- Assumes nothing.
use Prim.Native.Nat.{ℕ, ◌+◌, ◌<◌, ◌≤◌}
use native.Mathlib.Omega.{arith}
use native.Mathlib.Numerals.{add-one}
use mathlib.Core.Path.{◌≡◌, refl, ap}
use mathlib.Core.Bool.{Bool, true, false}
use mathlib.Core.List.{List, [], ◌∷◌}
use mathlib.Core.Logic.{◌⊎◌, inl, inr}
use lib.Dec.{ltb}
use lib.ListN.{length, get_or, drop, drop_of_length-le}
use lib.Seq.{drop-cons}
use borrow.Author.Tests.{ltb-true, ltb-false}
use Rattle.std.specs.Prelude.{Some, None}
use Rattle.reader.specs.Choose.{choice_at}

module _ (l : List ℕ) (at : ℕ) where
  -- there is a choice at the cursor, or none is left
  abbrev One : Type 0
  One = (at < length l) × (choice_at l at ≡ Some (get_or l at 0, at + 1)) × (drop at l ≡ get_or l at 0 ∷ drop (at + 1) l)

  abbrev NoMore : Type 0
  NoMore = (length l ≤ at) × (choice_at l at ≡ None) × (drop at l ≡ [])

  either : One ⊎ NoMore
  either = go (ltb at (length l)) refl
    where
      go : (b : Bool) → ltb at (length l) ≡ b → One ⊎ NoMore
      go true t = let h = ltb-true at (length l) t in inl (h, simp t, rw (add-one at) (drop-cons l at 0 h))
      go false t = let h = ltb-false at (length l) t in inr (h, simp t, drop_of_length-le l h)

  -- from the choice: what is left, and the cursor after it
  pub choice-left : (c next : ℕ) → choice_at l at ≡ Some (c, next) → (at < length l) × (next ≡ at + 1) × (drop at l ≡ c ∷ drop next l)
  choice-left c next e = elim either [
    | inl x ↦
        let pair : (c, next) ≡ (get_or l at 0, at + 1) = cc in
        let number : c ≡ get_or l at 0 = ap (λ (p : ℕ × ℕ). p.0) pair in
        let after : next ≡ at + 1 = ap (λ (p : ℕ × ℕ). p.1) pair in (x.0, after, cc)
    | inr x ↦ let no : ◌≡◌ {A = ℕ} 0 1 = cc in (omega arith, cc, cc)
  ]

  pub none_left : choice_at l at ≡ None → (length l ≤ at) × (drop at l ≡ [])
  none_left e = elim either [ inl x ↦ let no : ◌≡◌ {A = ℕ} 0 1 = cc in (omega arith, cc) | inr x ↦ (x.0, x.2) ]
