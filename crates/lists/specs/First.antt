-- A walk up the numbers, and the first at which a test holds.
use Rattle.std.specs.Prelude.{ℕ, zero, suc, Bool, true, false}
use Rattle.std.specs.Prelude.{Option}
use Rattle.std.specs.Prelude.{Some, None}

-- n numbers from i on, each told what the rest comes to; e where none is left
unfoldable pub walk : {R : Type 0} → (ℕ → R → R) → R → ℕ → ℕ → R
walk s e i zero = e
walk s e i (suc n) = let rest = walk s e (suc i) n in s i rest

abbrev pub found : Bool → ℕ → Option ℕ → Option ℕ
found true i rest = Some i
found false i rest = rest

-- the first of n numbers from i on at which the test holds
abbrev pub first : (ℕ → Bool) → ℕ → ℕ → Option ℕ
first f = walk (λ i rest. found (f i) i rest) None
