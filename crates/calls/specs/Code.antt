-- What the code does to the words: the locals handed over, and the words of a caller put aside and taken back.
use Rattle.std.specs.Prelude.{◌≡◌, ℕ, ◌+◌, List, length, set, drop, replicate}
use Rattle.std.proofs.Math.Seq.{paste}
use Rattle.model.specs.Table.{Stretch, locals_of}
use Rattle.prepared.specs.Own.{own_table}
use Rattle.calls.specs.Stack.{stack_words, part}

-- the locals of main or of a procedure, by its first row
abbrev pub locals_in : List ℕ → ℕ → Stretch
locals_in own q = locals_of (own_table own) q

-- numbers for a stretch of variables
abbrev pub pasted : List ℕ → Stretch → List ℕ → List ℕ
pasted ns l xs = paste ns l.first xs l.count

-- the locals of the first become 0, then those of the second get numbers
unfoldable pub handed : List ℕ → List ℕ → ℕ → ℕ → List ℕ → List ℕ
handed own ns from upon xs = pasted (pasted ns (locals_in own from) (replicate 4 0)) (locals_in own upon) xs

-- the locals are handed over, and then variable c gets x
pub record PutBack (own ns : List ℕ) (from upon : ℕ) (xs : List ℕ) (c x : ℕ) (ns' : List ℕ) : Type 0 where
  pub over : List ℕ
  pub size : length ns ≡ 32
  pub before : over ≡ handed own ns from upon xs
  pub then : ns' ≡ set over c x

-- the words of a caller from a place on, with the locals of a stretch
unfoldable pub aside : List ℕ → ℕ → ℕ → ℕ → List ℕ → ℕ → ℕ → List ℕ → List ℕ → List ℕ → List ℕ
aside stack at row n ns first count rows starts ends =
    paste (paste (paste (paste (set (set stack at row) (at + 1) n) (at + 2) (drop first ns) count) (at + 6) rows 8) (at + 14) starts 8) (at + 22) ends 8

-- how long the lists are that are lent to put a caller aside: a function that lends a list on as a slice can tell
pub record Sizes (stack ns rows starts ends : List ℕ) : Type 0 where
  pub of_stack : length stack ≡ stack_words
  pub of_numbers : length ns ≡ 32
  pub of_rows : length rows ≡ 8
  pub of_starts : length starts ≡ 8
  pub of_ends : length ends ≡ 8

-- the loops of the caller whose words stand from a place on, in columns
pub record TakenBack (stack : List ℕ) (at : ℕ) (rows starts ends : List ℕ) : Type 0 where
  pub size : length stack ≡ stack_words
  pub same_rows : rows ≡ part stack (at + 6) 8
  pub same_starts : starts ≡ part stack (at + 14) 8
  pub same_ends : ends ≡ part stack (at + 22) 8
