-- The checks 11 and 16 of a table's line, those of loops (section 6 of the rules): line i breaks the check. 5 to 10 and 12 are said with the lines,
-- 17 with the procedures. What demand 3 needs of 11 is said in the model (specs/Accepted), and is used from there.
use Rattle.std.specs.Prelude.{ℕ, Bool, true, false, ◌&&◌, ◌||◌, List, [], ◌∷◌, leb, eqb}
use Rattle.model.specs.Table.{Table, row_at, Nest, nest_at, open_at, home}
use Rattle.model.specs.Table.Nest.{opens, closes, neither}
use Rattle.model.specs.Accepted.{misnested}
use Rattle.kinds.specs.Kinds.{of_row}

-- 11 (rules 1.14, 1.15, 6.16)
unfoldable pub breaks11 : Table → ℕ → Bool
breaks11 t i = of_row (misnested t) t i

-- the test holds of an item of the list
unfoldable pub any : (ℕ → Bool) → List ℕ → Bool
any f [] = false
any f (x ∷ xs) = f x || any f xs

-- the loop of row o was opened since row b, with the iterator v (rules 1.8, 1.18)
abbrev pub opened_with : Table → ℕ → ℕ → ℕ → Bool
opened_with t b v o = leb b o && eqb (row_at t o).a v

-- 38 and 42 (rule 1.14)
abbrev pub opens_loop : Nest → Bool
opens_loop opens = true
opens_loop closes = false
opens_loop neither = false

-- row r opens a loop whose iterator is that of a loop opened since row b and still open, the innermost or one around it (rule 1.18)
unfoldable pub shares_iterator : Table → ℕ → ℕ → Bool
shares_iterator t b r = opens_loop (nest_at t r) && any (opened_with t b (row_at t r).a) (open_at t r)

-- 16, of the loops opened since the first row of what the row belongs to: within main, or within one procedure (rules 1.18, 1.20, 6.23)
unfoldable pub breaks16 : Table → ℕ → Bool
breaks16 t i = of_row (λ r. shares_iterator t (home t r) r) t i
