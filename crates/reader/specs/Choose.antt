-- The list is read from its front, through one reader, which has the lent list and a cursor (rule 3.11).
use Rattle.std.specs.Prelude.{ℕ, ◌+◌, List, Option, Some, None, length, get_or, ltb}
use Rattle.std.specs.Prelude.{if◌then◌else◌}

-- the number at the cursor, and the cursor after it; or none left (rules 3.11, 3.12)
abbrev pub choice_at : List ℕ → ℕ → Option (ℕ × ℕ)
choice_at l at = if ltb at (length l) then Some (get_or l at 0, at + 1) else None

-- the cursor of the rest: after the choice, or the same where none is left
abbrev pub cursor_after : Option (ℕ × ℕ) → ℕ → ℕ
cursor_after (Some (c, next)) at = next
cursor_after None at = at

-- the number of a choice beside another cursor: what `take` gives and what `rest` gives
abbrev pub followed_by : Option (ℕ × ℕ) → ℕ → Option (ℕ × ℕ)
followed_by (Some (c, next)) at = Some (c, at)
followed_by None at = None
