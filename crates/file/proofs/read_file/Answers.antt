-- A refusal leaves the words untouched; an accepted file has lines that fit the words, and fills them.
use Rattle.std.proofs.Common.{sym}
use Rattle.file.specs.Reading.{read_buffer}
use Rattle.file.proofs.ReadingLaws.{accepted, lines-in-blocks, lines-most}
use Rattle.file.proofs.read_file.Goals as goal

pub returns-in_err-lines-clause-buffer : goal.returns-in_err-lines-clause-buffer
unfolding read_buffer
returns-in_err-lines-clause-buffer c = rw (← c.in_err-lines.ensures)

pub fill-requires : goal.fill-requires
fill-requires c =
    let ok = accepted _ _ _ (sym c.in_ok-lines.ensures) in
    (rw ok.counted at (lines-in-blocks _ ok.right), rw ok.counted at (lines-most _ ok.right), ok.fits)

pub returns-clause-buffer : goal.returns-clause-buffer
unfolding read_buffer
returns-clause-buffer c = rw (← c.in_ok-lines.ensures) c.fill.ensures
