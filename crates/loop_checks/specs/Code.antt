-- What the code keeps in place of the model's words: of open loops how many there are, and in a buffer their rows.
use Rattle.std.specs.Prelude.{◌≡◌, ℕ, zero, suc, ◌-◌, ◌<◌, Bool, false, ◌||◌, List, [], ◌∷◌, get_or, leb, eqb}
use Rattle.lists.specs.First.{walk}
use Rattle.model.specs.Table.{Table, Nest, nest_at, scanned}
use Rattle.model.specs.Table.Nest.{opens, closes, neither}
use Rattle.model.specs.Accepted.{most_open, misnested}

-- the scan for the end of a loop, from row i on with d loops open inside it
abbrev pub scan_from : Table → ℕ → ℕ → ℕ
scan_from t i d = walk (λ i rest. scanned (nest_at t i) i rest) (λ d. t.rows) i (t.rows - i) d

-- a row ends the scan: it closes a loop, and none is open inside
abbrev pub ends_scan : Nest → ℕ → Bool
ends_scan opens d = false
ends_scan closes d = eqb d 0
ends_scan neither d = false

-- 11, of a row: by how it nests, the count of open loops, and whether it is unclosed
abbrev pub unnested : Nest → ℕ → Bool → Bool
unnested opens n unclosed = unclosed || leb most_open n
unnested closes n unclosed = eqb n 0
unnested neither n unclosed = false

-- what 11 leaves
pub record WellNested (t : Table) : Type 0 where
  pub rows : (r : ℕ) → r < t.rows → misnested t r ≡ false

-- the rows of the open loops, the innermost first: the first n words of the buffer, the last of them first
unfoldable pub kept_rows : List ℕ → ℕ → List ℕ
kept_rows buffer zero = []
kept_rows buffer (suc n) = get_or buffer n 0 ∷ kept_rows buffer n
