-- By the answer, and by how many callers there are.
-- Assumes nothing.
use Prim.Native.Nat.{◌<◌, ◌≤◌}
use native.Mathlib.Omega.{arith}
use mathlib.Core.Path.{◌∙◌}
use borrow.Author.Tests.{le-leb, lt-leb}
use Rattle.row_kinds.specs.CodeRows.{on_uint, called_of}
use Rattle.row_kinds.proofs.PutLaws.{lost-uint}
use Rattle.evaluators.proofs.OtherAnswers.{answer-no-uint}
use Rattle.row_kinds.proofs.calling.called.Goals as goal

pub returns-in_default : goal.returns-in_default
unfolding called_of
returns-in_default c = c.lost.ensures ∙ lost-uint _ _ (answer-no-uint _ c.in_default.not-Uint)

pub returns-then-depth-ge-CALLERS : goal.returns-then-depth-ge-CALLERS
unfolding on_uint called_of
returns-then-depth-ge-CALLERS c =
    let deep : 8 ≤ c.args.depth = omega (arith, c.if-depth-ge-CALLERS.true) in
    rw (c.in-Uint.is, le-leb 8 c.args.depth deep)

pub returns : goal.returns
unfolding on_uint called_of
returns c =
    let room : c.args.depth < 8 = omega (arith, c.if-depth-ge-CALLERS.false) in
    rw (c.in-Uint.is, lt-leb 8 c.args.depth room)
