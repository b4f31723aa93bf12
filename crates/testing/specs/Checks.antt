-- Check numbers, by which a whole buffer is compared in one number.
use Rattle.std.specs.Prelude.{ℕ, ◌+◌, ◌*◌, ◌%◌, List, [], ◌∷◌}

-- a check number with one word more
abbrev pub mixed_with : ℕ → ℕ → ℕ
mixed_with h w = (h * 31 + w) % 4294967296

-- the check number of words, from h on
unfoldable pub check_from : ℕ → List ℕ → ℕ
check_from h [] = h
check_from h (w ∷ ws) = check_from (mixed_with h w) ws

-- the check number of words
abbrev pub check_number : List ℕ → ℕ
check_number = check_from 0
