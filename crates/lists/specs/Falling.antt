-- A function of the numbers 0, 1, 2, .. whose value at each is worked out from its values at smaller ones.
use Rattle.std.specs.Prelude.{ℕ, zero, suc, List, [], ◌∷◌, ◌++◌, get_or}

-- the values at the first n numbers: s gives the value at a number from those below it, and d stands for any other
unfoldable pub values_below : {A : Type 0} → (ℕ → (ℕ → A) → A) → A → ℕ → List A
values_below s d zero = []
values_below s d (suc n) = let vs = values_below s d n in vs ++ (s n (λ j. get_or vs j d) ∷ [])

unfoldable pub value_at : {A : Type 0} → (ℕ → (ℕ → A) → A) → A → ℕ → A
value_at s d n = s n (λ j. get_or (values_below s d n) j d)
