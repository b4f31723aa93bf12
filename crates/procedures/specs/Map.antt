-- What a machine keeps of a table's procedures: where each opens, and to which each row belongs.
use Rattle.std.specs.Prelude.{◌≡◌, ℕ, ◌+◌, ◌<◌, ◌≤◌, List, length, get_or}
use Rattle.model.specs.Table.{Table, home, opening}
use Rattle.model.specs.Procedures.{most_procedures}

-- its words: one for each of sixteen procedures, and one for each row and the row past the last
abbrev pub map_size : ℕ
map_size = 273

-- word k is the 43 of procedure k, or the row count where there is none (rule 1.19); word 16 + r is the first row of what row r belongs to (rule 1.20)
pub record Mapped (t : Table) (map : List ℕ) : Type 0 where
  pub size : length map ≡ map_size
  pub openings : (k : ℕ) → k < most_procedures → get_or map k 0 ≡ opening t k
  pub homes : (r : ℕ) → r ≤ t.rows → get_or map (most_procedures + r) 0 ≡ home t r
