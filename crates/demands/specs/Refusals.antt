-- The numbers of all refusals, each with what its place counts (section 6 of the rules); and what it is that an answer refuses with one of them.
use Rattle.std.specs.Prelude.{◌≡◌, ◌⊎◌, ℕ, ◌<◌, List, [], ◌∷◌, ◌++◌, map}
use Rattle.table.specs.Checks.{order}

-- what a place counts: nothing, for it is 0; the blocks of a file; or the lines of a table (rule 6.3)
pub data Place : Type 0 where
  at_start at_block at_line : Place

pub record Number : Type 0 where
  pub number : ℕ
  pub place : Place

abbrev pub counted : Place → ℕ → Number
counted p n = record { number = n; place = p }

-- ---- the numbers, by where they are checked, in the order in which they are tested (rule 6.2)
-- a file (rules 6.5 to 6.7)
abbrev pub file_numbers : List Number
file_numbers = counted at_start 1 ∷ counted at_block 2 ∷ counted at_block 3 ∷ []

-- a table: 4, then the checks of lines in their own order, 5 to 12, 16 and 17 (rules 6.9 to 6.17, 6.23, 6.24)
abbrev pub table_numbers : List Number
table_numbers = counted at_start 4 ∷ map (counted at_line) order

-- a pair, a buffer, a record (rules 6.18 to 6.20)
abbrev pub pair_numbers : List Number
pair_numbers = counted at_start 13 ∷ []

abbrev pub buffer_numbers : List Number
buffer_numbers = counted at_start 14 ∷ []

abbrev pub record_numbers : List Number
record_numbers = counted at_start 15 ∷ []

-- all of them
abbrev pub all_numbers : List Number
all_numbers = file_numbers ++ (table_numbers ++ (pair_numbers ++ (buffer_numbers ++ record_numbers)))

-- they are seventeen: the fifteen of the demand, and 16 and 17, which are tested after 12 (rules 6.2, 9.19)
abbrev pub TheNumbers : Type 0
TheNumbers =
    map (λ (n : Number). n.number) all_numbers
    ≡ 1 ∷ 2 ∷ 3 ∷ 4 ∷ 5 ∷ 6 ∷ 7 ∷ 8 ∷ 9 ∷ 10 ∷ 11 ∷ 12 ∷ 16 ∷ 17 ∷ 13 ∷ 14 ∷ 15 ∷ []

-- how many places there are, with so many blocks and lines
abbrev pub places_of : ℕ → ℕ → Place → ℕ
places_of blocks lines at_start = 1
places_of blocks lines at_block = blocks
places_of blocks lines at_line = lines

-- a number of the list, at a place within its range
abbrev pub OneOf : List Number → ℕ → ℕ → ℕ → ℕ → Type 0
OneOf [] blocks lines number place = ⊥
OneOf (n ∷ ns) blocks lines number place = ((number ≡ n.number) × (place < places_of blocks lines n.place)) ⊎ OneOf ns blocks lines number place
