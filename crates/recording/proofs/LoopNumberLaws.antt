-- Laws of the numbers that a loop has of its own: start x and end y, by the mark of its iterator a.
-- Assumes nothing.
use Prim.Native.Nat.{ℕ}
use mathlib.Core.Path.{◌≡◌, ap, ◌∙◌}
use mathlib.Core.Bool.{Bool, true, false}
use mathlib.Core.List.{List, [], ◌∷◌}
use Rattle.std.specs.Prelude.{if◌then◌else◌}
use Rattle.model.specs.Table.{row_at, marked}
use Rattle.prepared.specs.Own.{own_table}
use Rattle.recording.specs.CodePushes.{pushed, push, push_all}

module _ (out : List ℕ) (at : ℕ) {q : Bool} (own : List ℕ) (row x y : ℕ) {a : ℕ} (ea : a ≡ (row_at (own_table own) row).a) (g : q ≡ marked own 2 a) where
  pub bounds-marked : (mid new : List ℕ) {i n : ℕ} → q ≡ true → pushed mid i ≡ push x (pushed out at) → pushed new n ≡ push y (pushed mid i)
      → pushed new n ≡ push_all (if marked own 2 (row_at (own_table own) row).a then x ∷ y ∷ [] else []) (pushed out at)
  unfolding push_all
  bounds-marked mid new e h l = rw (← ea, ← g, e) (l ∙ ap (push y) h)

  pub bounds-unmarked : q ≡ false
      → pushed out at ≡ push_all (if marked own 2 (row_at (own_table own) row).a then x ∷ y ∷ [] else []) (pushed out at)
  unfolding push_all
  bounds-unmarked e = rw (← ea, ← g, e)
