-- Lists given place by place, and what is gathered over the numbers below a bound.
use Rattle.std.specs.Prelude.{ℕ, zero, suc, ◌+◌, Bool, true, ◌&&◌, List, [], ◌∷◌, get_or}

-- f i, f (i + 1), .. f (i + n - 1)
unfoldable pub listed : {A : Type 0} → ℕ → ℕ → (ℕ → A) → List A
listed zero i f = []
listed (suc n) i f = f i ∷ listed n (suc i) f

-- f 0, f 1, .. f (n - 1)
unfoldable pub tab : {A : Type 0} → ℕ → (ℕ → A) → List A
unfolding listed
tab n f = listed n 0 f

-- f 0 + f 1 + .. + f (n - 1)
unfoldable pub sum : ℕ → (ℕ → ℕ) → ℕ
sum zero f = 0
sum (suc n) f = sum n f + f n

-- the test holds at 0, 1, .. n - 1
unfoldable pub all : ℕ → (ℕ → Bool) → Bool
all zero f = true
all (suc n) f = all n f && f n

-- a list at a buffer's size, the rest zero
abbrev pub padded : ℕ → List ℕ → List ℕ
padded n xs = tab n (λ j. get_or xs j 0)
