-- The four bytes of the word are laid over those from place i on.
use Rattle.std.proofs.Common.{arith}
use Rattle.file.proofs.WordLaws.{laid-over}
use Rattle.file.proofs.word.put_word.Goals as goal

pub returns : goal.returns
returns c =
    let a = c.args in
    rw (c.copy_from_slice.ensures.after, c.to_le_bytes.ensures) (laid-over a.out.now a.i _ a.w (omega arith) (omega arith))
