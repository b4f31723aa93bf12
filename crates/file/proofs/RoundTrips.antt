-- The round trips of the public reader and writer.
-- Assumes nothing.
use Rattle.std.proofs.Common.{◌≡◌, ℕ, ◌*◌, ◌%◌, ◌≤◌, List, length, take, sym, refl, ap, ◌∙◌, subst, arith, eq-eqb}
use Rattle.table.specs.Verdict.{Verdict}
use Rattle.table.specs.Verdict.Verdict.{Passes, Refused}
use Rattle.file.specs.Read.Read.{Lines}
use Rattle.file.specs.Written.Written.{Bytes}
use Rattle.lists.specs.Tab.{padded}
use Rattle.model.specs.State.MachineKind.{plain}
use Rattle.table.specs.Checks.{table_check, size_check}
use Rattle.table.proofs.Sizes.{sizes}
use Rattle.table.proofs.Passing.{Passing, passing, both-pass}
use Rattle.file.specs.Layout.{file_bytes, lines_in}
use Rattle.file.specs.Reading.{read_answer, read_buffer}
use Rattle.file.specs.Writing.{filled_as, write_answer, write_buffer, write_check, written_as}
use Rattle.file.specs.Statements.{ReadIsWrittenAgain, WrittenReadsBack}
use Rattle.file.proofs.LayoutLaws.{written-file}
use Rattle.file.proofs.ReadBack.{read_back}
use Rattle.file.proofs.WriteAgain.{write_again}

-- a table that passes is a whole number of lines, at most 1,312
pub passing-short : (w : List ℕ) → table_check plain w ≡ Passes → (length w % 4 ≡ 0) × (length w ≤ 5248)
passing-short w e =
    let P : Passing plain w = passing plain w e in
    let s = sizes plain w P.whole P.none5 P.none6 in
    (P.whole, omega (arith, P.whole, s.0, s.1, s.2, s.3))

-- an answer with bytes is that of a table that passes, and of a buffer of the stated size
wrote : (v : Verdict) (k n : ℕ) → written_as v k ≡ Bytes n → (v ≡ Passes) × (k ≡ n)
wrote Passes k n e = (refl, let z : k ≡ n = cc in z)
wrote (Refused number place) k n e = absurd (let z : ◌≡◌ {A = ℕ} 0 1 = cc in omega arith)

pub written-reads-back : WrittenReadsBack
unfolding write_check
written-reads-back w below out n e buffer f =
    let a = wrote (write_check w (length out)) (length (file_bytes w)) n e in
    let b = both-pass (table_check plain w) (size_check (length out) 22016) a.0 in
    let s = passing-short w b.0 in
    subst (λ (bs : List ℕ). (read_answer bs (length buffer) ≡ Lines (lines_in w)) × (read_buffer bs buffer ≡ padded 5248 w)) (sym (same w a.0 a.1 s.1))
    (read_back w below s.0 s.1 buffer f)
  where
    same : (w : List ℕ) → write_check w (length out) ≡ Passes → length (file_bytes w) ≡ n → length w ≤ 5248 → take n (write_buffer w out) ≡ file_bytes w
    same w p q l =
        ap (λ (v : Verdict). take n (filled_as v w out)) p
        ∙ subst (λ (k : ℕ). take k (padded 22016 (file_bytes w)) ≡ file_bytes w) q (written-file w l)

pub read-is-written-again : ReadIsWrittenAgain
unfolding write_check
read-is-written-again bs below buffer n e passes out f =
    let again : file_bytes (take (4 * n) (read_buffer bs buffer)) ≡ bs = write_again bs below buffer n e in
    done (take (4 * n) (read_buffer bs buffer)) again (rw (passes, eq-eqb (length out) 22016 f)) (passing-short (take (4 * n) (read_buffer bs buffer)) passes).1
  where
    done : (w : List ℕ) → file_bytes w ≡ bs → write_check w (length out) ≡ Passes → length w ≤ 5248
        → (write_answer w (length out) ≡ Bytes (length bs)) × (take (length bs) (write_buffer w out) ≡ bs)
    done w q p l = (
      ap (λ (v : Verdict). written_as v (length (file_bytes w))) p ∙ ap (λ (l : List ℕ). Bytes (length l)) q,
      ap (λ (v : Verdict). take (length bs) (filled_as v w out)) p
          ∙ subst (λ (k : List ℕ). take (length k) (padded 22016 (file_bytes w)) ≡ k) q (written-file w l),
    )
