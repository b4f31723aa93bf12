-- A run that is stopped and gone on with is one run, from any state and under any choices, and so is a run in turns. Proved in proofs/PartLaws.
use Rattle.std.specs.Prelude.{◌≡◌, ℕ, zero, suc, ◌+◌, ◌*◌, ◌-◌, Bool, true, false, List, leb}
use Rattle.std.specs.Prelude.{if◌then◌else◌}
use Rattle.model.specs.Table.{Table}
use Rattle.model.specs.State.{State}
use Rattle.model.specs.Step.{End, Report, run}
use Rattle.model.specs.Step.End.{done, assert_false, assume_false, failed, want_of_cells, out_of_steps, choice_not_allowed, no_choice_left, list_full, too_deep}
use Rattle.model.specs.Step.Report.{ended, no_end}

-- the one end that a run can go on from (rule 2.45)
abbrev pub is_out : End → Bool
is_out done = false
is_out assert_false = false
is_out assume_false = false
is_out (failed why) = false
is_out want_of_cells = false
is_out out_of_steps = true
is_out choice_not_allowed = false
is_out no_choice_left = false
is_out list_full = false
is_out too_deep = false

-- a report, its steps counted on from n
abbrev pub counted_from : ℕ → Report → Report
counted_from n (ended e k s left) = ended e (n + k) s left
counted_from n no_end = no_end

abbrev pub lesser : ℕ → ℕ → ℕ
lesser a b = if leb a b then a else b

module _ (ps : List ℕ) (t : Table) where
  -- a run gone on with for n steps: out of steps, it is followed by a run of its own from its last state, under the choices left, and the steps of
  -- both are counted; ended otherwise, it stays as it is (rule 2.45)
  abbrev pub go_on : ℕ → Report → Report
  go_on n (ended e k s left) = if is_out e then counted_from k (run ps t n 0 s left) else ended e k s left
  go_on n no_end = no_end

  -- the next turn of a run that has a limit in all: c steps, or as many as are left of the limit
  abbrev pub next_turn : ℕ → ℕ → Report → Report
  next_turn c limit (ended e k s left) = go_on (lesser c (limit - k)) (ended e k s left)
  next_turn c limit no_end = no_end

  -- a run after so many turns; after none it has taken no step
  abbrev pub in_turns : ℕ → ℕ → ℕ → State → List ℕ → Report
  in_turns c limit zero s choices = run ps t 0 0 s choices
  in_turns c limit (suc turns) s choices = next_turn c limit (in_turns c limit turns s choices)

-- a run of m steps, gone on with for n, is one run of m + n
abbrev pub PartsAreOneRun : Type 0
PartsAreOneRun =
    (ps : List ℕ) (t : Table) (m n : ℕ) (s : State) (choices : List ℕ) → run ps t (m + n) 0 s choices ≡ go_on ps t n (run ps t m 0 s choices)

-- turns of c steps, under a limit in all, are one run of as many steps as they may take
abbrev pub TurnsAreOneRun : Type 0
TurnsAreOneRun =
    (ps : List ℕ) (t : Table) (c limit turns : ℕ) (s : State) (choices : List ℕ)
    → in_turns ps t c limit turns s choices ≡ run ps t (lesser (turns * c) limit) 0 s choices
