-- What the writer answers, and what it leaves in the bytes lent, by the checks that it has come through.
-- Assumes nothing.
use Rattle.std.proofs.Common.{◌≡◌, ℕ, ◌≢◌, List, length, eq-eqb, ne_eqb}
use Rattle.lists.specs.Tab.{padded}
use Rattle.model.specs.State.MachineKind.{plain}
use Rattle.table.specs.Verdict.{Verdict}
use Rattle.table.specs.Verdict.Verdict.{Passes, Refused}
use Rattle.table.specs.Checks.{table_check}
use Rattle.file.specs.Written.{Written}
use Rattle.file.specs.Written.Written.{Bytes, Refused as NotWritten}
use Rattle.file.specs.Layout.{file_bytes}
use Rattle.file.specs.Writing.{write_check, write_answer, write_buffer}

module _ (w : List ℕ) (lent : List ℕ) where
  -- the answer v with the bytes lent as they are in out
  abbrev Answered : Written → List ℕ → Type 0
  Answered v out = (v ≡ write_answer w (length lent)) × (out ≡ write_buffer w lent)

  pub by-table : {v : Verdict} {n p : ℕ} → v ≡ table_check plain w → v ≡ Refused n p → Answered (NotWritten n p) lent
  unfolding write_check
  by-table e h = (rw (← e, h), rw (← e, h))

  module _ (passes : Passes ≡ table_check plain w) where
    pub by_size : length lent ≢ 22016 → Answered (NotWritten 14 0) lent
    unfolding write_check
    by_size ne = (rw (← passes, ne_eqb _ _ ne), rw (← passes, ne_eqb _ _ ne))

    pub done : length lent ≡ 22016 → (n : ℕ) (out : List ℕ) → n ≡ length (file_bytes w) → out ≡ padded 22016 (file_bytes w) → Answered (Bytes n) out
    unfolding write_check
    done same n out e f = (rw (← passes, eq-eqb _ _ same, e), rw (← passes, eq-eqb _ _ same) f)
