-- What a recorded row says: what it comes to in the plain machine, and the numbers that go with it.
use Rattle.std.specs.Prelude.{◌≡◌, ℕ, List, []}
use Rattle.model.specs.Table.{Row}
use Rattle.model.specs.Writer.{row_choices, step_choices}
use Rattle.prepared.specs.Own.{own_table}
use Rattle.machine.specs.declared.Machine.{Machine}
use Rattle.machine.specs.declared.Worked.{Worked}
use Rattle.machine.specs.declared.Worked.TheVariants.{Moves, Ends, Not}
use Rattle.machine.specs.View.{own_state}
use Rattle.machine.specs.CodeMoves.{RowWorks, StepWorks}
use Rattle.recording.specs.CodePushes.{Pushed, pushed, push_all}
use Rattle.recording.specs.CodeRecords.{held_of, pair_of, ReachedBy}

-- the buffer and the place after a row's numbers are p; a row that comes to no end leaves them free
unfoldable pub ReachedMove : Worked → List ℕ → Pushed ℕ → Type 0
ReachedMove (Moves x at) out p = pushed out at ≡ p
ReachedMove (Ends e at) out p = pushed out at ≡ p
ReachedMove (Not why at) out p = ReachedBy why at out p

-- a row of the kind k at which the record stands, by its operands, with no choices and whatever the callers: its numbers were pushed onto the
-- buffer from place 0 on
pub record RowRecords (own : List ℕ) (m : Machine) (cells held : List ℕ) (k : Row) (a b c : ℕ) (r : Worked) (before after : List ℕ) : Type 0 where
  pub works : (stack : List ℕ) → RowWorks own stack m cells [] k a b c [] r
  pub numbers : (stack : List ℕ) → ReachedMove r after
      (push_all (row_choices (pair_of own) (own_table own) (held_of m.count held) (own_state own stack m cells) m.row k a b c) (pushed before 0))

-- ... the row where the record stands, with the callers of a stack
pub record StepRecords (own stack : List ℕ) (m : Machine) (cells held : List ℕ) (r : Worked) (before after : List ℕ) : Type 0 where
  pub works : StepWorks own stack m cells [] 0 r
  pub numbers : ReachedMove r after
      (push_all (step_choices (pair_of own) (own_table own) (held_of m.count held) (own_state own stack m cells) m.row) (pushed before 0))
