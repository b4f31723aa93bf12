-- Check 15, condition by condition (rules 7.1 to 7.12, 7.15 to 7.18), of the state that the record holds. A slot that is not in use is no part of the
-- state (rule 7.13). ps are the places that the machine tracks; the plain one has none.
use Rattle.std.specs.Prelude.{ℕ, suc, ◌+◌, Bool, true, false, not, ◌&&◌, ◌||◌, List, [], ◌∷◌, map, length, get_or, ltb, leb, eqb}
use Rattle.std.specs.Prelude.{if◌then◌else◌}
use Rattle.lists.specs.Tab.{all}
use Rattle.model.specs.Class.{class_held}
use Rattle.model.specs.Table.{Table, Ty, type_at, row_at, Row, row_kind, open_at, home, opening, locals_at}
use Rattle.model.specs.Table.Row.{skip, assign, store, assert, assume, array, loop, loop_end, reduced_store, reduced_array, class_loop}
use Rattle.model.specs.Table.Row.{procedure, returns, call, no_row}
use Rattle.model.specs.Table.Ty.{bool, uint, pointer}
use Rattle.model.specs.State.{MachineKind, most_arrays, most_callers, Value, Array, Loop, Position, Caller, State, classed}
use Rattle.model.specs.State.MachineKind.{plain, reduced}
use Rattle.model.specs.State.Value.{Truth, Uint, Class, Pointer}
use Rattle.model.specs.Eval.{size_of, cells_laid}
use Rattle.model.specs.Procedures.{may_use}

abbrev pub same_numbers : List ℕ → List ℕ → Bool
same_numbers [] [] = true
same_numbers [] (y ∷ ys) = false
same_numbers (x ∷ xs) [] = false
same_numbers (x ∷ xs) (y ∷ ys) = eqb x y && same_numbers xs ys

-- rule 7.2, of where the run stands, or a caller
abbrev pub row_within : Table → Position → Bool
row_within t p = leb p.row t.rows

-- rule 7.3 (the innermost stands first in the state)
abbrev pub loops_around : Table → Position → Bool
loops_around t p = same_numbers (map (λ (l : Loop). l.row) p.loops) (open_at t p.row)

-- rule 7.4
abbrev pub starts_within : List Loop → Bool
starts_within [] = true
starts_within (l ∷ ls) = leb l.start l.end && starts_within ls

abbrev pub stands_right : Table → Position → Bool
stands_right t p = row_within t p && (loops_around t p && starts_within p.loops)

-- a row that calls
abbrev pub is_call : Row → Bool
is_call skip = false
is_call assign = false
is_call store = false
is_call assert = false
is_call assume = false
is_call array = false
is_call loop = false
is_call loop_end = false
is_call reduced_store = false
is_call reduced_array = false
is_call class_loop = false
is_call procedure = false
is_call returns = false
is_call call = true
is_call no_row = false

-- rules 7.16 and 7.17: kept at a 45 that calls the procedure with the first row q, with the loops around it (that there are as many numbers as
-- locals is so of every record)
abbrev pub calls_right : Table → ℕ → Caller → Bool
calls_right t q c =
    ltb c.here.row t.rows
    && (is_call (row_kind (row_at t c.here.row).kind)
    && (eqb (suc (opening t (row_at t c.here.row).a)) q
    && (stands_right t c.here && eqb (length c.locals) (locals_at t c.here.row).count)))

-- rule 7.16: the last caller calls what is at work, with the first row q, each other one what the next stands in; the first stands in main, as the
-- run does where there is none
unfoldable pub callers_right : Table → ℕ → List Caller → Bool
callers_right t q [] = eqb q 0
callers_right t q (c ∷ cs) = calls_right t q c && callers_right t (home t c.here.row) cs

-- rule 7.6: some number of 32 bits has the class
abbrev pub holds_class : List ℕ → Value → Bool
holds_class ps (Truth b) = false
holds_class ps (Uint n) = false
holds_class ps (Class k) = class_held ps k
holds_class ps (Pointer r p) = false

-- rules 7.5 and 7.7 (a place may be any, rule 7.12); `count` is how many arrays the record has
abbrev pub of_the_type : ℕ → Ty → Value → Bool
of_the_type count bool (Truth b) = true
of_the_type count bool (Uint n) = false
of_the_type count bool (Class k) = false
of_the_type count bool (Pointer r p) = false
of_the_type count uint (Truth b) = false
of_the_type count uint (Uint n) = true
of_the_type count uint (Class k) = false
of_the_type count uint (Pointer r p) = false
of_the_type count pointer (Truth b) = false
of_the_type count pointer (Uint n) = false
of_the_type count pointer (Class k) = false
of_the_type count pointer (Pointer r p) = leb r count

-- variable i breaks none of these
abbrev pub variable_fits : MachineKind → List ℕ → Table → State → ℕ → Bool
variable_fits m ps t s i =
    if classed m t i
    then holds_class ps (get_or s.vars i (Uint 0))
    else of_the_type (length s.arrays) (type_at t i) (get_or s.vars i (Uint 0))

-- (that there are as many as declarations is so of every record)
abbrev pub variables_fit : MachineKind → List ℕ → Table → State → Bool
variables_fit m ps t s = eqb (length s.vars) t.decls && all t.decls (variable_fits m ps t s)

-- rule 7.9: each starts where the one before it ends. An array's cells are those that its length and kind give it (rule 7.12)
abbrev pub in_sequence : List ℕ → ℕ → List Array → Bool
in_sequence ps from [] = true
in_sequence ps from (r ∷ rs) = eqb r.start from && in_sequence ps (from + size_of ps r) rs

-- rule 7.11
abbrev pub kinds_fit : MachineKind → List Array → Bool
kinds_fit m [] = true
kinds_fit plain (r ∷ rs) = not r.reduced && kinds_fit plain rs
kinds_fit reduced (r ∷ rs) = kinds_fit reduced rs

-- rules 7.8 to 7.11 (the cells are 4,096 or 4,128, by 14)
abbrev pub arrays_fit : MachineKind → List ℕ → State → Bool
arrays_fit m ps s =
    leb (length s.arrays) most_arrays
    && (in_sequence ps 0 s.arrays
    && (leb (cells_laid ps s.arrays) (length s.cells) && kinds_fit m s.arrays))

-- rule 7.18: a local that is not of what is at work is 0
abbrev pub is_zero : Value → Bool
is_zero (Truth b) = false
is_zero (Uint n) = eqb n 0
is_zero (Class k) = false
is_zero (Pointer r p) = false

abbrev pub locals_idle : Table → State → Bool
locals_idle t s = all t.decls (λ i. may_use t (home t s.here.row) i || is_zero (get_or s.vars i (Uint 0)))

-- a state that 15 does not refuse (rule 7.15: at most eight callers)
unfoldable pub record_fits : MachineKind → List ℕ → Table → State → Bool
record_fits m ps t s =
    stands_right t s.here
    && (leb (length s.callers) most_callers
    && (callers_right t (home t s.here.row) s.callers
    && (variables_fit m ps t s && (locals_idle t s && arrays_fit m ps s))))
