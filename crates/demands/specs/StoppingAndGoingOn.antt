-- Stopping a run and going on (rules 2.45, 2.46): of what the four public runs say, for either machine, from a fresh start or from a record, in any
-- cells, under any list of numbers of 32 bits. Limits are any whole numbers: those whose sum is a number of 32 bits are a case.
-- Proved in proofs/StoppingAndGoingOnProof.
use Rattle.std.specs.Prelude.{◌≡◌, ℕ, ◌+◌, Bool, true, false, List, drop}
use Rattle.model.specs.State.{MachineKind, State, places_in}
use Rattle.model.specs.Step.{End}
use Rattle.model.specs.Step.End.{out_of_steps}
use Rattle.model.specs.Step.Report.{ended, no_end}
use Rattle.model.specs.Demand3.{Numbers}
use Rattle.model.specs.RunsInParts.{is_out, TurnsAreOneRun}
use Rattle.runs.specs.Answers.{Said, fresh_said, continued_said}
use Rattle.runs.specs.Answers.Said.{refusal, reports}

-- where a run starts: fresh, in lent cells, or from a state, which is a record with the lent cells (rules 2.32, 2.33). The state that a run says it
-- ended in is its record with the cells at exit: so `from` it is the call that continues with both
pub data Start : Type 0 where
  anew : List ℕ → Start
  from : State → Start

-- what the machine says of a run of the table t under the list l: `run_plain`, `run_reduced`, or `continue_plain`, `continue_reduced`
abbrev pub said : MachineKind → List ℕ → List ℕ → Start → List ℕ → ℕ → Said
said m ps t (anew cells) l limit = fresh_said m (places_in m ps) t cells l limit
said m ps t (from s) l limit = continued_said m (places_in m ps) t s l limit

-- it says that it ended out of steps
abbrev pub says_out : Said → Bool
says_out (refusal number place cells) = false
says_out (reports (ended e k s left) used) = is_out e
says_out (reports no_end used) = false

-- A run went on after so many steps and choices; `whole` is the run of all its steps. The call that went on was not refused; both have one end, with
-- its reason, one record with its row, the same cells and the same choices left, and the whole run has the steps and the choices of both
pub record OneRun (steps used : ℕ) (went_on whole : Said) : Type 0 where
  pub end : End
  pub more : ℕ
  pub last : State
  pub left : List ℕ
  pub used_more : ℕ
  pub went_on_is : went_on ≡ reports (ended end more last left) used_more
  pub whole_is : whole ≡ reports (ended end (steps + more) last left) (used + used_more)

module _ (m : MachineKind) (ps t : List ℕ) (start : Start) (l : List ℕ) (x : ℕ) where
  -- A run of x steps that ended out of steps, at s, having used so many choices, has taken x steps. Going on takes the choices that were left, the list
  -- without those used: for y steps it makes one run of x + y, for 0 it changes nothing (rule 2.45)
  pub record Stopped (steps : ℕ) (s : State) (left : List ℕ) (used : ℕ) : Type 0 where
    pub all : steps ≡ x
    pub rest : left ≡ drop used l
    pub goes_on : (y : ℕ) → OneRun x used (said m ps t (from s) (drop used l) y) (said m ps t start l (x + y))
    pub for_none : said m ps t (from s) (drop used l) 0 ≡ reports (ended out_of_steps 0 s (drop used l)) 0

  pub record StopsRight : Type 0 where
    pub stopped : (steps : ℕ) (s : State) (left : List ℕ) (used : ℕ) → said m ps t start l x ≡ reports (ended out_of_steps steps s left) used
        → Stopped steps s left used
    -- one that ended otherwise, or was refused, says the same, whole, for x + y (rule 2.46)
    pub others : says_out (said m ps t start l x) ≡ false → (y : ℕ) → said m ps t start l (x + y) ≡ said m ps t start l x

pub record StoppingAndGoingOn : Type 0 where
  pub stops : (m : MachineKind) (ps t : List ℕ) (start : Start) (l : List ℕ) → Numbers l → (x : ℕ) → StopsRight m ps t start l x
  -- below it, of runs of the model from any state
  pub turns : TurnsAreOneRun
