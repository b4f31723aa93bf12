-- The row, then where the caller stands.
-- Assumes nothing.
use native.Mathlib.Omega.{arith}
use Rattle.prepared.specs.View.{table_for}
use Rattle.records.proofs.CallerLaws.{calls-off, calls-on}
use Rattle.record_check.proofs.callers.calls_right.Goals as goal

pub returns-then-not-is_call_of : goal.returns-then-not-is_call_of
returns-then-not-is_call_of c =
    let g = c.args in
    calls-off (table_for g.t.now g.f) g.stack.now g.at g.q c.is_call_of.ensures c.if-not-is_call_of.true

pub returns : goal.returns
returns c =
    let g = c.args in
    calls-on (table_for g.t.now g.f) g.stack.now g.at g.q c.is_call_of.ensures
    c.if-not-is_call_of.false (omega (arith, c.requires.stack_len)) c.stands_right.ensures
