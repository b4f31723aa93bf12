-- What the reader answers for any bytes, and the words that it leaves in the buffer lent.
-- The checks come in order, each over the whole file, and name the first block that breaks them (rules 6.2, 6.3).
use Rattle.std.specs.Prelude.{ℕ, ◌+◌, ◌-◌, ◌*◌, ◌/◌, ◌%◌, Bool, not, ◌&&◌, ◌||◌, List, length, ◌==◌, nat_eq, nat_lt}
use Rattle.std.specs.Prelude.{if◌then◌else◌}
use Rattle.lists.specs.Tab.{tab, sum, all, padded}
use Rattle.lists.specs.First.{first}
use Rattle.std.specs.Prelude.{Option}
use Rattle.std.specs.Prelude.{Some, None}
use Rattle.file.specs.Read.{Read}
use Rattle.file.specs.Read.Read.{Lines, Refused}
use Rattle.file.specs.Word.{word_at}
use Rattle.file.specs.Layout.{check_of}

-- word r of block k
abbrev pub word : List ℕ → ℕ → ℕ → ℕ
word bs k r = word_at bs (512 * k + 4 * r)

-- how many blocks (rule 5.1)
abbrev pub blocks : List ℕ → ℕ
blocks bs = length bs / 512

-- the sum of all counts as they stand, in whole numbers (rules 5.5, 6.7)
abbrev pub lines_in_all : List ℕ → ℕ
lines_in_all bs = sum (blocks bs) (λ k. word bs k 125)

-- 1 (rule 6.5)
abbrev pub wrong_length : ℕ → Bool
wrong_length n = not (n % 512 == 0) || nat_lt 22016 n

-- 2 (rule 6.6)
abbrev pub wrong_check : List ℕ → ℕ → Bool
wrong_check bs k = not (check_of (word bs k) == word bs k 127)

-- a count that the block cannot have (rules 5.4, 6.7, 6.8)
abbrev pub wrong_count : ℕ → Bool → Bool
wrong_count c last = nat_lt c 1 || nat_lt 31 c || (not last && not (c == 31))

-- the words from 4 * c on, of the 124 that are lines, are 0 (rule 5.6); none if c is 31 or above
abbrev pub unused_zero : List ℕ → ℕ → ℕ → Bool
unused_zero bs k c = all (124 - 4 * c) (λ r. nat_eq (word bs k (4 * c + r)) 0)

-- 3 (rule 6.7), n being the lines in all
unfoldable pub wrong_block : List ℕ → ℕ → ℕ → Bool
wrong_block bs n k =
    not (word bs k 124 == k)
    || wrong_count (word bs k 125) (k + 1 == blocks bs)
    || not (word bs k 126 == n)
    || nat_lt 1312 n
    || not (unused_zero bs k (word bs k 125))

-- the refusal with this number at the block that was found, else what comes after
abbrev pub refused_at_block : ℕ → Option ℕ → Read → Read
refused_at_block number (Some k) rest = Refused number k
refused_at_block number None rest = rest

-- the answer, for a buffer of so many words: 1, 2, 3, then 14 (rules 6.2, 6.21), else the number of lines (rule 5.9)
unfoldable pub read_answer : List ℕ → ℕ → Read
read_answer bs room =
    if wrong_length (length bs) then Refused 1 0 else
    refused_at_block 2 (first (wrong_check bs) 0 (blocks bs))
    (refused_at_block 3 (first (wrong_block bs (lines_in_all bs)) 0 (blocks bs))
    (if nat_eq room 5248 then Lines (lines_in_all bs) else Refused 14 0))

-- the table's words: 31 lines, 124 words, in a block (rule 5.7)
abbrev pub table_word : List ℕ → ℕ → ℕ
table_word bs i = word bs (i / 124) (i % 124)

-- those of n lines
abbrev pub table_words : List ℕ → ℕ → List ℕ
table_words bs n = tab (4 * n) (table_word bs)

-- the table's words and zeros after them (rule 5.9); a refusal leaves the buffer as it was (rule 6.4)
abbrev pub buffer_after : Read → List ℕ → List ℕ → List ℕ
buffer_after (Lines n) bs buffer = padded 5248 (table_words bs n)
buffer_after (Refused number place) bs buffer = buffer

-- the words lent, after reading
unfoldable pub read_buffer : List ℕ → List ℕ → List ℕ
read_buffer bs buffer = buffer_after (read_answer bs (length buffer)) bs buffer
