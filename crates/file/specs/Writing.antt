-- What the writer answers for any table, and the bytes that it leaves in the buffer lent.
-- It takes a plain table that passes (rule 5.10).
use Rattle.std.specs.Prelude.{ℕ, List, length}
use Rattle.lists.specs.Tab.{padded}
use Rattle.model.specs.State.MachineKind.{plain}
use Rattle.table.specs.Verdict.{Verdict}
use Rattle.table.specs.Verdict.Verdict.{Passes, Refused}
use Rattle.table.specs.Checks.{table_check, and_then, size_check}
use Rattle.file.specs.Written.{Written}
use Rattle.file.specs.Written.Written.{Bytes, Refused as NotWritten}
use Rattle.file.specs.Layout.{file_bytes}

-- the table's checks, then 14 (rule 6.21)
unfoldable pub write_check : List ℕ → ℕ → Verdict
write_check w size = and_then (table_check plain w) (size_check size 22016)

-- the number of bytes, or the refusal
abbrev pub written_as : Verdict → ℕ → Written
written_as Passes n = Bytes n
written_as (Refused number place) n = NotWritten number place

abbrev pub write_answer : List ℕ → ℕ → Written
write_answer w size = written_as (write_check w size) (length (file_bytes w))

-- the file and zeros after it (rule 5.10); a refusal leaves the buffer as it was (rule 6.4)
abbrev pub filled_as : Verdict → List ℕ → List ℕ → List ℕ
filled_as Passes w buffer = padded 22016 (file_bytes w)
filled_as (Refused number place) w buffer = buffer

abbrev pub write_buffer : List ℕ → List ℕ → List ℕ
write_buffer w buffer = filled_as (write_check w (length buffer)) w buffer
