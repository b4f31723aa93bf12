-- `iterators::first_shared` meets its contract: what is sought from line 0 on is what is sought from a row on, with the rows of the open loops kept.
-- Assumes nothing.
use Prim.Native.Nat.{ℕ, ◌≤◌, ◌/◌}
use mathlib.Core.Path.{◌≡◌}
use mathlib.Core.Bool.{Bool}
use lib.ListN.{length}
use Rattle.lists.specs.First.{first}
use Rattle.model.specs.Table.{Table, home, open_at}
use Rattle.kinds.specs.Kinds.{of_row}
use Rattle.kinds.specs.Code.{table_in, first_row}
use Rattle.loop_checks.specs.Rules.{shares_iterator}
use Rattle.loop_checks.specs.Code.{kept_rows}
use Rattle.loop_checks.proofs.iterators.first_shared.Given as goal

-- 16, of a row
abbrev pub shared : Table → ℕ → Bool
shared t r = shares_iterator t (home t r) r

abbrev pub invariant-loop-row : goal.invariant-loop-row
invariant-loop-row l =
    (l.count ≤ 8)
    × (length l.opened ≡ 8)
    × (kept_rows l.opened l.count ≡ open_at (table_in l.lines) l.row)
    × (let t = table_in l.lines in first (of_row (shared t) t) 0 (length l.lines.words.now / 4) ≡ first_row (shared t) t l.row)
    × (l.since ≤ l.row)
    × (l.since ≡ home (table_in l.lines) l.row)
