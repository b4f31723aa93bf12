-- What is proved of these definitions, of every table and every file: proofs/ReadBack, proofs/WriteAgain, proofs/RoundTrips.
use Rattle.std.specs.Prelude.{◌≡◌, ℕ, ◌*◌, ◌%◌, ◌^◌, ◌<◌, ◌≤◌, List, length, take, slice_index}
use Rattle.lists.specs.Tab.{padded}
use Rattle.file.specs.Read.Read.{Lines}
use Rattle.file.specs.Layout.{lines_in, file_bytes}
use Rattle.file.specs.Written.Written.{Bytes}
use Rattle.file.specs.Reading.{read_answer, read_buffer}
use Rattle.file.specs.Writing.{write_answer, write_buffer}
use Rattle.model.specs.State.MachineKind.{plain}
use Rattle.table.specs.Verdict.Verdict.{Passes}
use Rattle.table.specs.Checks.{table_check}

-- every number of the list is below n
abbrev pub AllBelow : ℕ → List ℕ → Type 0
AllBelow n xs = (i : ℕ) → slice_index xs i < n

-- a written file reads back as its table, in a buffer of 5,248 words (rules 5.9, 5.11)
abbrev pub ReadBack : Type 0
ReadBack =
    (ws : List ℕ) → AllBelow (2 ^ 32) ws → length ws % 4 ≡ 0 → length ws ≤ 5248 → (buffer : List ℕ) → length buffer ≡ 5248
    → (read_answer (file_bytes ws) (length buffer) ≡ Lines (lines_in ws)) × (read_buffer (file_bytes ws) buffer ≡ padded 5248 ws)

-- a file that is read, its n lines written again, is the same file, byte for byte
abbrev pub WriteAgain : Type 0
WriteAgain =
    (bs : List ℕ) → AllBelow 256 bs → (buffer : List ℕ) (n : ℕ) → read_answer bs (length buffer) ≡ Lines n
    → file_bytes (take (4 * n) (read_buffer bs buffer)) ≡ bs

-- two files that are read as one table are one file
abbrev pub OneFile : Type 0
OneFile =
    (bs cs : List ℕ) → AllBelow 256 bs → AllBelow 256 cs → (buffer : List ℕ) (n : ℕ) → read_answer bs (length buffer) ≡ Lines n
    → read_answer cs (length buffer) ≡ Lines n → read_buffer bs buffer ≡ read_buffer cs buffer → bs ≡ cs

-- demand 2, of the two public functions: "a written program file reads back as its table" (rule 5.11)
abbrev pub WrittenReadsBack : Type 0
WrittenReadsBack =
    (w : List ℕ) → AllBelow (2 ^ 32) w → (out : List ℕ) (n : ℕ) → write_answer w (length out) ≡ Bytes n → (buffer : List ℕ) → length buffer ≡ 5248
    → (read_answer (take n (write_buffer w out)) (length buffer) ≡ Lines (lines_in w)) × (read_buffer (take n (write_buffer w out)) buffer ≡ padded 5248 w)

-- demand 2: "a read file whose table passes is written again byte for byte" (rule 5.11)
abbrev pub ReadIsWrittenAgain : Type 0
ReadIsWrittenAgain =
    (bs : List ℕ) → AllBelow 256 bs → (buffer : List ℕ) (n : ℕ) → read_answer bs (length buffer) ≡ Lines n
    → table_check plain (take (4 * n) (read_buffer bs buffer)) ≡ Passes → (out : List ℕ) → length out ≡ 22016
    → (write_answer (take (4 * n) (read_buffer bs buffer)) (length out) ≡ Bytes (length bs))
    × (take (length bs) (write_buffer (take (4 * n) (read_buffer bs buffer)) out) ≡ bs)
