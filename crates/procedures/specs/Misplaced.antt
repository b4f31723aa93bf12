-- Check 17 of a table's line (section 6 of the rules): line i breaks it.
use Rattle.std.specs.Prelude.{ℕ, Bool, not}
use Rattle.model.specs.Table.{Table}
use Rattle.model.specs.Procedures.{keeps_procedures}
use Rattle.kinds.specs.Kinds.{of_row}

-- 17 (rules 1.19, 1.20, 1.21, 1.22, 6.24)
unfoldable pub breaks17 : Table → ℕ → Bool
breaks17 t i = of_row (λ r. not (keeps_procedures t r)) t i
