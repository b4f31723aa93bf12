-- The checks of a table as one answer: refused by the first number, in order, that a line breaks, at the first line that breaks it.
use Rattle.std.specs.Prelude.{ℕ, ◌/◌, ◌%◌, Bool, false, List, [], ◌∷◌, length, eqb}
use Rattle.std.specs.Prelude.{if◌then◌else◌}
use Rattle.lists.specs.First.{first}
use Rattle.std.specs.Prelude.{Option}
use Rattle.std.specs.Prelude.{Some, None}
use Rattle.model.specs.Table.{Table, table_of}
use Rattle.model.specs.State.{MachineKind}
use Rattle.procedures.specs.Misplaced.{breaks17}
use Rattle.table.specs.Verdict.{Verdict}
use Rattle.table.specs.Verdict.Verdict.{Passes, Refused}
use Rattle.line_checks.specs.Rules.{breaks5, breaks6, breaks7, breaks8, breaks9, breaks10, breaks12}
use Rattle.loop_checks.specs.Rules.{breaks11, breaks16}

-- the check of a number
unfoldable pub breaks : ℕ → MachineKind → Table → ℕ → Bool
breaks k m t i =
    if eqb k 5 then breaks5 m t i
    else (if eqb k 6 then breaks6 t i
    else (if eqb k 7 then breaks7 t i
    else (if eqb k 8 then breaks8 t i
    else (if eqb k 9 then breaks9 t i
    else (if eqb k 10 then breaks10 t i
    else (if eqb k 11 then breaks11 t i
    else (if eqb k 12 then breaks12 m t i
    else (if eqb k 16 then breaks16 t i
    else (if eqb k 17 then breaks17 t i
    else false)))))))))

-- the order of the checks: 16 and 17 stand after 12 (rule 6.2)
abbrev pub order : List ℕ
order = 5 ∷ 6 ∷ 7 ∷ 8 ∷ 9 ∷ 10 ∷ 11 ∷ 12 ∷ 16 ∷ 17 ∷ []

-- the first check that a line breaks, at the first such line (rules 6.2, 6.3)
abbrev pub refused_at_line : Option ℕ → ℕ → Verdict → Verdict
refused_at_line (Some line) k rest = Refused k line
refused_at_line None k rest = rest

unfoldable pub first_refusal : (ℕ → Option ℕ) → List ℕ → Verdict
first_refusal f [] = Passes
first_refusal f (k ∷ ks) = let rest = first_refusal f ks in refused_at_line (f k) k rest

-- 4, of the number of words, at place 0 (rules 6.3, 6.9); then those of a list
abbrev pub checked_by : List ℕ → MachineKind → List ℕ → Verdict
checked_by numbers m w =
    if eqb (length w % 4) 0
    then first_refusal (λ k. first (breaks k m (table_of w)) 0 (length w / 4)) numbers
    else Refused 4 0

-- the table's checks (rule 6.2)
unfoldable pub table_check : MachineKind → List ℕ → Verdict
table_check m w = checked_by order m w

-- one check after another (rule 6.2)
abbrev pub and_then : Verdict → Verdict → Verdict
and_then Passes next = next
and_then (Refused number place) next = Refused number place

-- 14: a buffer of another size, at place 0 (rules 6.3, 6.19)
abbrev pub size_check : ℕ → ℕ → Verdict
size_check size stated = if eqb size stated then Passes else Refused 14 0
