-- The record (a machine and a stack) and the cells of the code, seen as the model's state.
use Rattle.std.specs.Prelude.{ℕ, List}
use Rattle.model.specs.State.{Value, Caller, State, position}
use Rattle.model.specs.Step.{End as ModelEnd}
use Rattle.model.specs.Step.End.{done, assert_false, assume_false, failed, want_of_cells, out_of_steps, choice_not_allowed, no_choice_left, list_full, too_deep}
use Rattle.machine.specs.Reasons.{reason_of}
use Rattle.prepared.specs.declared.Frame.{Frame}
use Rattle.prepared.specs.View.{vars_of, arrays_of, table_for}
use Rattle.prepared.specs.Own.{own_vars, own_table}
use Rattle.calls.specs.Stack.{loops_of, callers_of}
use Rattle.machine.specs.declared.Machine.{Machine}
use Rattle.machine.specs.declared.Record.{Record}
use Rattle.machine.specs.declared.End.{End}
use Rattle.machine.specs.declared.End.TheVariants as Code

-- ---- the ends (rule 2.29), a failure with its reason (rule 2.37)
abbrev pub end_of : End → ModelEnd
end_of Code.Done = done
end_of Code.AssertFalse = assert_false
end_of Code.AssumeFalse = assume_false
end_of (Code.Fail reason) = failed (reason_of reason)
end_of Code.WantOfCells = want_of_cells
end_of Code.OutOfSteps = out_of_steps
end_of Code.ChoiceNotAllowed = choice_not_allowed
end_of Code.NoChoiceLeft = no_choice_left
end_of Code.ListFull = list_full
end_of Code.TooDeep = too_deep

-- ---- the machine as a state, with its callers and the cells lent beside it (rules 2.3, 2.4). Slots that are not in use are no part of it
-- (rule 7.13)
abbrev pub state_by : List Value → List Caller → Machine → List ℕ → State
state_by vs callers m cells = record {
  here = position m.row (loops_of m.«open» m.loop_rows m.starts m.ends);
  callers = callers;
  vars = vs;
  arrays = arrays_of m.count m.firsts m.lengths m.shapes;
  cells = cells;
}

-- the record as a state: the variables by the declarations of a table's words, the callers by its stack (rule 2.39)
abbrev pub state_of : List ℕ → Frame → Record → List ℕ → State
state_of t f r cells =
    state_by (vars_of t f r.machine.numbers r.machine.bases) (callers_of (table_for t f) r.stack) r.machine cells

-- ... by the run's own copy of them, with the stack lent beside the machine
abbrev pub own_state : List ℕ → List ℕ → Machine → List ℕ → State
own_state own stack m cells = state_by (own_vars own m.numbers m.bases) (callers_of (own_table own) stack) m cells
