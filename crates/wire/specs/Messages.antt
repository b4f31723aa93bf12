-- The words of a message, and words as bytes (rule 8.24).
use Rattle.std.specs.Prelude.{ℕ, ◌+◌, ◌*◌, ◌/◌, ◌%◌, List, length, get_or, ltb}
use Rattle.std.specs.Prelude.{if◌then◌else◌}
use Rattle.lists.specs.Tab.{tab}
use Rattle.file.specs.Word.{word_at, byte_of}

-- the word that bytes i to i + 3 spell (rule 5.2), or 0 where they are not all there
abbrev pub word_or_zero : List ℕ → ℕ → ℕ
word_or_zero bs i = if ltb (i + 3) (length bs) then word_at bs i else 0

-- the first n words that bytes spell
abbrev pub words_of : List ℕ → ℕ → List ℕ
words_of bs n = tab n (λ i. word_or_zero bs (i * 4))

-- byte j of words, the lowest of each first (rule 5.2), 0 past their end
abbrev pub byte_at : List ℕ → ℕ → ℕ
byte_at ws j = byte_of (get_or ws (j / 4) 0) (j % 4)

-- the first n bytes of words
abbrev pub bytes_of : List ℕ → ℕ → List ℕ
bytes_of ws n = tab n (byte_at ws)
