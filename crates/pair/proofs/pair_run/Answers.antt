-- By the length of the input.
-- Assumes nothing.
use borrow.Author.Tests.{lt-ltb}
use Rattle.pair.specs.Pairs.{pair_said}
use Rattle.pair.proofs.InputLaws.{long-said}
use Rattle.pair.proofs.pair_run.Goals as goal

pub returns-then-input-lt12 : goal.returns-then-input-lt12
unfolding pair_said
returns-then-input-lt12 c = rw (lt-ltb _ _ c.if-input-lt12.true) (cc c.of_whole.ensures)

pub returns : goal.returns
returns c =
    long-said c.args.input.now c.run_file.result c.if-input-lt12.false _ _ _ c.word_at-c1.ensures c.word_at-c2.ensures c.word_at-limit.ensures c.run_file.ensures
