-- The check of the places and the reduction with its lent table: number and place, and each word of the lent table.
use Rattle.std.specs.Prelude.{ℕ, List, length}
use Rattle.std.specs.Prelude.{if◌then◌else◌}
use Rattle.model.specs.Class.{accepted_places}
use Rattle.model.specs.State.MachineKind.{plain}
use Rattle.model.specs.Reduce.{reduce}
use Rattle.table.specs.Verdict.{Verdict}
use Rattle.table.specs.Verdict.Verdict.{Passes, Refused}
use Rattle.table.specs.Checks.{table_check, and_then, size_check}

-- 13 (rules 3.1, 6.18); the refusal's place is 0
abbrev pub places_check : List ℕ → Verdict
places_check ps = if accepted_places ps then Passes else Refused 13 0

-- the table's checks, 13, and 14 where the lent table is not as long as the table (rule 6.21)
unfoldable pub reduce_answer : List ℕ → List ℕ → ℕ → Verdict
reduce_answer w ps size = and_then (table_check plain w) (and_then (places_check ps) (size_check size (length w)))

-- the lent table at exit: the reduction, or as it was
abbrev pub reduced_or : Verdict → List ℕ → List ℕ → List ℕ
reduced_or Passes w lent = reduce w
reduced_or (Refused number place) w lent = lent

unfoldable pub reduce_buffer : List ℕ → List ℕ → List ℕ → List ℕ
reduce_buffer w ps lent = reduced_or (reduce_answer w ps (length lent)) w lent
