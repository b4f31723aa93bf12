-- By the change, whose bounds are what the step of each asks.
-- Assumes nothing.
use Rattle.machine.specs.CodeMoves.{state_after}
use Rattle.machine.proofs.StateLaws.{called-state, returned-state}
use Rattle.machine.proofs.Machine.step.Goals as goal

pub returns-in-Goes : goal.returns-in-Goes
unfolding state_after
returns-in-Goes c = rw (c.in-Goes.is, c.pass.ensures)

pub returns-in-Puts : goal.returns-in-Puts
unfolding state_after
returns-in-Puts c = rw (c.in-Puts.is, c.put.ensures)

pub returns-in-Writes : goal.returns-in-Writes
unfolding state_after
returns-in-Writes c = rw (c.in-Writes.is, c.pass-in-Writes.ensures)

pub returns-in-Lays : goal.returns-in-Lays
unfolding state_after
returns-in-Lays c = rw (c.in-Lays.is, c.lay.ensures, c.zero.ensures)

pub returns-in-Enters : goal.returns-in-Enters
unfolding state_after
returns-in-Enters c = rw (c.in-Enters.is, c.enter.ensures)

pub returns-in-Leaves : goal.returns-in-Leaves
unfolding state_after
returns-in-Leaves c = rw (c.in-Leaves.is, c.leave.ensures)

pub returns-in-Calls : goal.returns-in-Calls
returns-in-Calls c =
    let g = c.args in
    rw (c.in-Calls.is, c.begin.ensures) (called-state g.own.now g.stack.now g.self g.cells.now c.call-next.ensures)

pub returns-in-Returns : goal.returns-in-Returns
returns-in-Returns c =
    let g = c.args in
    rw (c.in-Returns.is, c.resume.ensures) (returned-state g.own.now g.stack.now g.self g.cells.now c.give_back-back.ensures)
