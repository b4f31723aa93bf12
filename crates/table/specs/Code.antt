-- What the code keeps in place of the model's words: counts.
use Rattle.std.specs.Prelude.{ℕ, ◌/◌, Bool, List, length}
use Rattle.std.specs.Prelude.{if◌then◌else◌}
use Rattle.lists.specs.Tab.{sum}
use Rattle.lists.specs.First.{first}
use Rattle.std.specs.Prelude.{Option}
use Rattle.model.specs.Table.{line_at, count, is_declaration, is_node, is_row}
use Rattle.kinds.specs.declared.Counts.{Counts}
use Rattle.kinds.specs.Kinds.{machine_of}
use Rattle.kinds.specs.Code.{table_by}
use Rattle.table.specs.Checks.{breaks}

abbrev pub counts_of : List ℕ → Counts
counts_of w = record { decls = count is_declaration w; nodes = count is_node w; rows = count is_row w }

-- 1 where line i is of the sort; the lines of a sort among the first n
abbrev pub one : (ℕ → Bool) → List ℕ → ℕ → ℕ
one sort w i = if sort (line_at w i).kind then 1 else 0

abbrev pub up_to : (ℕ → Bool) → List ℕ → ℕ → ℕ
up_to sort w n = sum n (one sort w)

-- the first line that breaks a check
abbrev pub first_of : ℕ → Bool → List ℕ → Counts → Option ℕ
first_of k reduced w c = first (breaks k (machine_of reduced) (table_by w c)) 0 (length w / 4)
