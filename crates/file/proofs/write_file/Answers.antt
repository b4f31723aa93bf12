-- The table's checks, then the size of the bytes lent; after a refusal they are as they were, else the file is in them.
use Rattle.std.proofs.Common.{refl, sym, arith}
use Rattle.std.proofs.lemmas.Result.{err_from_is_err_and}
use Rattle.file.proofs.RoundTrips.{passing-short}
use Rattle.file.proofs.WritingLaws.{by-table, by_size, done}
use Rattle.file.proofs.write_file.Goals as goal

pub returns-in_err-check_table-clause-answer : goal.returns-in_err-check_table-clause-answer
returns-in_err-check_table-clause-answer c =
    let p = err_from_is_err_and c.from_residual.result c.from_residual.ensures.1 in
    rw (p.1, p.2) (by-table _ _ c.in_err-check_table.ensures refl).0

pub returns-in_err-check_table-clause-buffer : goal.returns-in_err-check_table-clause-buffer
returns-in_err-check_table-clause-buffer c = (by-table _ _ c.in_err-check_table.ensures refl).1

pub returns-then-out-ne-FILE_BYTES-clause-answer : goal.returns-then-out-ne-FILE_BYTES-clause-answer
returns-then-out-ne-FILE_BYTES-clause-answer c =
    (by_size c.args.words.now c.args.out.now c.in_ok-check_table.ensures (λ e. c.if-out-ne-FILE_BYTES.true (omega arith))).0

pub returns-then-out-ne-FILE_BYTES-clause-buffer : goal.returns-then-out-ne-FILE_BYTES-clause-buffer
returns-then-out-ne-FILE_BYTES-clause-buffer c =
    (by_size c.args.words.now c.args.out.now c.in_ok-check_table.ensures (λ e. c.if-out-ne-FILE_BYTES.true (omega arith))).1

pub write_blocks-requires : goal.write_blocks-requires
write_blocks-requires c = ((passing-short _ (sym c.in_ok-check_table.ensures)).1, omega arith)

pub returns-clause-answer : goal.returns-clause-answer
returns-clause-answer c =
    let written = c.write_blocks.ensures in
    (done c.args.words.now c.args.out.now c.in_ok-check_table.ensures (omega arith) _ _ written.0 written.1).0

pub returns-clause-buffer : goal.returns-clause-buffer
returns-clause-buffer c =
    let written = c.write_blocks.ensures in
    (done c.args.words.now c.args.out.now c.in_ok-check_table.ensures (omega arith) _ _ written.0 written.1).1
