-- By what the variable holds, and its mark.
-- Assumes nothing.
use native.Mathlib.Omega.{arith}
use Rattle.recording.proofs.RecordLaws.{uint-declared, variable-none, variable-pushed, variable-free}
use Rattle.evaluators.proofs.OtherAnswers.{answer-no-uint}
use Rattle.recording.proofs.leaves.record_variable.Goals as goal

pub returns-in_default : goal.returns-in_default
returns-in_default c = search (variable-none, answer-no-uint _ c.in_default.not-Uint)

pub marked_uint-requires : goal.marked_uint-requires
marked_uint-requires c = omega (arith, uint-declared _ _ _ _ c.uint_variable-x.ensures c.in-Uint.is)

pub returns-then-marked_uint : goal.returns-then-marked_uint
returns-then-marked_uint c = search variable-pushed

pub returns : goal.returns
returns c = search variable-free
