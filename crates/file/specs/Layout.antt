-- The file of a table, by place (section 5 of the rules).
-- `ws` is a table's words, k a block, r a word of a block.
use Rattle.std.specs.Prelude.{ℕ, ◌+◌, ◌-◌, ◌*◌, ◌/◌, ◌%◌, ◌^◌, min, List, length, ◌==◌, nat_lt, slice_index_or}
use Rattle.std.specs.Prelude.{if◌then◌else◌}
use Rattle.lists.specs.Tab.{tab, sum}
use Rattle.file.specs.Word.{byte_of}

-- how many lines it has (rule 1.2)
abbrev pub lines_in : List ℕ → ℕ
lines_in ws = length ws / 4

-- how many blocks n lines take, none for none (rules 5.1, 5.4)
abbrev pub blocks_for : ℕ → ℕ
blocks_for n = (n + 30) / 31

-- the lines of block k in a file of n lines (rule 5.4)
abbrev pub lines_held : ℕ → ℕ → ℕ
lines_held n k = min 31 (n - 31 * k)

-- the check (rule 5.3)
abbrev pub check_of : (ℕ → ℕ) → ℕ
check_of f = sum 127 f % 2 ^ 32

-- the first 127 words of a block: its lines, 0 where it has none, and its three numbers (rules 5.2, 5.5, 5.6)
unfoldable pub body_word : List ℕ → ℕ → ℕ → ℕ
body_word ws k r =
    if nat_lt r 124 then slice_index_or ws (124 * k + r) 0 else
    if r == 124 then k else
    if r == 125 then lines_held (lines_in ws) k else
    lines_in ws

-- all 128
unfoldable pub file_word : List ℕ → ℕ → ℕ → ℕ
file_word ws k r = if nat_lt r 127 then body_word ws k r else check_of (body_word ws k)

-- byte j of the file (rule 5.2)
abbrev pub file_byte : List ℕ → ℕ → ℕ
file_byte ws j = byte_of (file_word ws (j / 512) (j % 512 / 4)) (j % 4)

-- the file of a table
unfoldable pub file_bytes : List ℕ → List ℕ
file_bytes ws = tab (512 * blocks_for (lines_in ws)) (file_byte ws)
