-- The callers, in a stack of 241 words, the part of a record that is lent beside its machine: 30 words for each of eight, the one in main first,
-- and in the last word how many there are. What stands past those in use is no part of it (rule 7.13).
use Rattle.std.specs.Prelude.{ℕ, suc, ◌+◌, ◌-◌, ◌*◌, List, get_or}
use Rattle.lists.specs.Tab.{tab}
use Rattle.model.specs.Table.{Table, locals_at}
use Rattle.model.specs.State.{Loop, position, Caller, caller}

-- ---- open loops in columns, which have the outermost first; the model has the innermost first
abbrev pub loop_in : List ℕ → List ℕ → List ℕ → ℕ → Loop
loop_in rows starts ends i = record { row = get_or rows i 0; start = get_or starts i 0; end = get_or ends i 0 }

-- what is kept of each (rules 2.3, 2.24)
unfoldable pub loops_of : ℕ → List ℕ → List ℕ → List ℕ → List Loop
loops_of n rows starts ends = tab n (λ i. loop_in rows starts ends (n - suc i))

-- ---- the words of a caller: its row, how many loops are open, four locals, and the rows, starts and ends of eight loops
abbrev pub stack_words : ℕ
stack_words = 241

abbrev pub caller_words : ℕ
caller_words = 30

-- how many callers there are
abbrev pub depth_of : List ℕ → ℕ
depth_of stack = get_or stack 240 0

-- n words from a place on
abbrev pub part : List ℕ → ℕ → ℕ → List ℕ
part words at n = tab n (λ i. get_or words (at + i) 0)

-- the caller whose words stand from a place on, with as many locals as what it stands in has (rule 2.39)
unfoldable pub caller_at : Table → List ℕ → ℕ → Caller
caller_at t stack at =
    caller (position (get_or stack at 0)
    (loops_of (get_or stack (at + 1) 0) (part stack (at + 6) 8) (part stack (at + 14) 8) (part stack (at + 22) 8)))
    (part (part stack (at + 2) 4) 0 (locals_at t (get_or stack at 0)).count)

-- where the words of the last caller stand
abbrev pub last_at : List ℕ → ℕ
last_at stack = caller_words * (depth_of stack - 1)

-- the callers, the last one first
unfoldable pub callers_of : Table → List ℕ → List Caller
callers_of t stack = tab (depth_of stack) (λ i. caller_at t stack (caller_words * (depth_of stack - suc i)))
