-- What a call and a return ask of the words that they are lent, and what they make of them, seen as the model's variables, loops and callers.
use Rattle.std.specs.Prelude.{◌≡◌, ℕ, suc, ◌+◌, ◌<◌, ◌≤◌, List, ◌∷◌, length, get_or, set}
use Rattle.model.specs.Table.{Stretch, row_at, opening, locals_at}
use Rattle.model.specs.State.{position, Caller, caller}
use Rattle.model.specs.State.Value.{Uint}
use Rattle.model.specs.Step.{numbers_in, handed_over, argument}
use Rattle.procedures.specs.Map.{Mapped}
use Rattle.prepared.specs.declared.Form.TheVariants.{Uint as FUint}
use Rattle.prepared.specs.Own.{own_words, decls_of, rows_of, own_table, own_form, own_vars}
use Rattle.calls.specs.declared.Stood.{Stood}
use Rattle.calls.specs.Stack.{depth_of, last_at, loops_of, caller_at, callers_of}

-- at most four locals, all of them declared uints that hold no class (rule 1.21)
pub record LocalsWithin (own : List ℕ) (l : Stretch) : Type 0 where
  pub few : l.count ≤ 4
  pub there : l.first + l.count ≤ decls_of own
  pub uints : (i : ℕ) → i < l.count → own_form own (l.first + i) ≡ FUint

-- a copy of a table within its limits, its map, and locals that fit wherever a row stands
pub record Procedures (own map : List ℕ) : Type 0 where
  pub words : length own ≡ own_words
  pub decls : decls_of own ≤ 32
  pub rows : rows_of own ≤ 256
  pub mapped : Mapped (own_table own) map
  pub locals : (r : ℕ) → r ≤ rows_of own → LocalsWithin own (locals_at (own_table own) r)

-- ---- a call of procedure k from the row `here`: there is such a procedure, and no more than seven callers
pub record CanCall (own stack : List ℕ) (here k : ℕ) : Type 0 where
  pub row : here ≤ rows_of own
  pub number : k < 16
  pub there : opening (own_table own) k < rows_of own
  pub few : depth_of stack < 8

-- the numbers and the stack after it, and the row where the procedure starts (rule 2.40)
pub record Called (own ns stack : List ℕ) (here count : ℕ) (rows starts ends : List ℕ) (k x r : ℕ) (ns' stack' : List ℕ) : Type 0 where
  pub next : r ≡ suc (opening (own_table own) k)
  pub vars : (bases : List ℕ)
      → own_vars own ns' bases
      ≡ handed_over (own_vars own ns bases) (locals_at (own_table own) here) (locals_at (own_table own) (suc (opening (own_table own) k))) (argument x)
  pub callers : (bases : List ℕ)
      → callers_of (own_table own) stack'
      ≡ caller (position here (loops_of count rows starts ends)) (numbers_in (own_vars own ns bases) (locals_at (own_table own) here))
      ∷ callers_of (own_table own) stack

-- ---- a return to the last caller, whose 45 gives its number to a declared uint that holds no class
abbrev pub last_of : List ℕ → List ℕ → Caller
last_of own stack = caller_at (own_table own) stack (last_at stack)

-- the variable that gets the number
abbrev pub receiver : List ℕ → List ℕ → ℕ
receiver own stack = (row_at (own_table own) (last_of own stack).here.row).c

pub record CanReturn (own stack : List ℕ) (here : ℕ) : Type 0 where
  pub row : here ≤ rows_of own
  pub some : 1 ≤ depth_of stack
  pub few : depth_of stack ≤ 8
  pub caller : (last_of own stack).here.row ≤ rows_of own
  pub receives : receiver own stack < decls_of own
  pub uint : own_form own (receiver own stack) ≡ FUint

-- the numbers, the open loops and the stack after it, and where the run then stands (rule 2.42)
pub record Returned (own ns stack : List ℕ) (here x : ℕ) (back : Stood) (ns' rows starts ends stack' : List ℕ) : Type 0 where
  pub row : back.row ≡ suc (last_of own stack).here.row
  pub loops : loops_of back.«open» rows starts ends ≡ (last_of own stack).here.loops
  pub vars : (bases : List ℕ)
      → own_vars own ns' bases
      ≡ set (handed_over (own_vars own ns bases) (locals_at (own_table own) here) (locals_at (own_table own) (last_of own stack).here.row)
      (λ i. get_or (last_of own stack).locals i 0)) (receiver own stack) (Uint x)
  pub callers : callers_of (own_table own) stack ≡ last_of own stack ∷ callers_of (own_table own) stack'
