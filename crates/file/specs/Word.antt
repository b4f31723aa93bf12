-- Words of four bytes, the lowest first (rule 5.2).
use Rattle.std.specs.Prelude.{ℕ, ◌+◌, ◌*◌, ◌/◌, ◌%◌, ◌^◌, List, slice_index, slice_set}

-- the word that bytes i to i + 3 spell
abbrev pub word_at : List ℕ → ℕ → ℕ
word_at bs i = slice_index bs i + 256 * slice_index bs (i + 1) + 65536 * slice_index bs (i + 2) + 16777216 * slice_index bs (i + 3)

-- byte b of a word, b below 4
abbrev pub byte_of : ℕ → ℕ → ℕ
byte_of w b = w / 256 ^ b % 256

-- the bytes with word w from place i on
abbrev pub put_word : List ℕ → ℕ → ℕ → List ℕ
put_word bs i w = slice_set (slice_set (slice_set (slice_set bs i (byte_of w 0)) (i + 1) (byte_of w 1)) (i + 2) (byte_of w 2)) (i + 3) (byte_of w 3)
