-- What check 16 is about, by where the loops of a table close and what they stand in: a loop around a row, two loops that share an iterator, the
-- first of them, and iterators that differ.
use Rattle.std.specs.Prelude.{◌≡◌, ℕ, ◌+◌, ◌<◌, ◌≤◌, false, List, [], ◌∷◌, map, eqb}
use Rattle.model.specs.Table.{Table, row_at, nest_at, matching_end, home}
use Rattle.model.specs.Table.Nest.{opens}
use Rattle.loop_checks.specs.Rules.{any}

-- the loop of row o is around row r: r stands after row o, and not past the row that closes its loop (rules 1.14, 7.3)
pub record Around (t : Table) (o r : ℕ) : Type 0 where
  pub opened : nest_at t o ≡ opens
  pub after : o < r
  pub within : r ≤ matching_end t o

-- row r opens a loop inside the loop of row o, with its iterator, and both stand in main or in one procedure (rules 1.18, 1.20)
pub record Shares (t : Table) (o r : ℕ) : Type 0 where
  pub around : Around t o r
  pub opening : nest_at t r ≡ opens
  pub together : home t o ≡ home t r
  pub iterator : (row_at t r).a ≡ (row_at t o).a

-- the first such row, the inner loop's, and its line
pub record FirstShares (t : Table) (line : ℕ) : Type 0 where
  pub outer : ℕ
  pub inner : ℕ
  pub there : inner < t.rows
  pub place : line ≡ t.decls + t.nodes + inner
  pub shares : Shares t outer inner
  pub first : (o r : ℕ) → r < inner → Shares t o r → ⊥

-- no two numbers of the list are equal
abbrev pub AllDiffer : List ℕ → Type 0
AllDiffer [] = Unit {0}
AllDiffer (x ∷ xs) = (any (eqb x) xs ≡ false) × AllDiffer xs

-- the iterators of the loops of these rows (rule 1.8)
abbrev pub iterators_of : Table → List ℕ → List ℕ
iterators_of t rows = map (λ (o : ℕ). (row_at t o).a) rows
