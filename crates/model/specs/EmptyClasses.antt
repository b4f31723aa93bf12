-- The states of a run, and that none of them holds an empty class. Proved in proofs/EmptyClassLaws.
use Rattle.std.specs.Prelude.{◌≡◌, ℕ, zero, suc, ◌≤◌, false, List, get_or}
use Rattle.model.specs.Class.{HeldClass}
use Rattle.model.specs.Table.{Table}
use Rattle.model.specs.Work.Out.{gives}
use Rattle.model.specs.State.{MachineKind, State}
use Rattle.model.specs.State.Value.{Uint, Class}
use Rattle.model.specs.Step.{Report, finished, step, run}
use Rattle.model.specs.Step.Move.{to}
use Rattle.model.specs.Step.Report.{ended, no_end}
use Rattle.model.specs.Accepted.{Accepted, CanHave, Regular}
use Rattle.model.specs.Demand3.{Numbers}

module _ (ps : List ℕ) (t : Table) where
  -- r is the state n steps after s, under these choices: s itself after none; else s is not done, a step makes another state of it, and r is one
  -- step fewer after that one (rules 2.16, 2.28). A step that ends the run makes no state: it leaves s as it was (rule 2.30)
  abbrev pub StateAfter : ℕ → State → List ℕ → State → Type 0
  StateAfter zero s choices r = s ≡ r
  StateAfter (suc n) s choices r =
      (finished t s ≡ false) × (made : State) × (left : List ℕ) × (step ps t s choices ≡ gives (to made) left) × StateAfter n made left r

  -- these are the states of a run: the one that it hands back is one of them, after as many steps as it counts or one fewer (a step that ends the
  -- run may count, and makes no state: rules 2.29, 2.30; which ends do is in `after` of Step)
  abbrev pub HandsBackOne : State → List ℕ → Report → Type 0
  HandsBackOne s choices (ended e n r left) = (i : ℕ) × StateAfter i s choices r × (i ≤ n) × (n ≤ suc i)
  HandsBackOne s choices no_end = Unit {0}

abbrev pub RunHandsBackOne : Type 0
RunHandsBackOne = (ps : List ℕ) (t : Table) (limit : ℕ) (s : State) (choices : List ℕ) → HandsBackOne ps t s choices (run ps t limit 0 s choices)

-- every class that the state holds is some number's (rule 7.6)
abbrev pub NoEmptyClass : List ℕ → State → Type 0
NoEmptyClass ps s = (i k : ℕ) → get_or s.vars i (Uint 0) ≡ Class k → HeldClass ps k

-- No state holds an empty class (rule 3.23): none that a table can have and 15 does not refuse (`CanHave` and `Regular`), and none that a run comes to
-- from such a state, under choices of 32 bits
abbrev pub NeverHoldsEmpty : Type 0
NeverHoldsEmpty =
    (ps : List ℕ) (m : MachineKind) (t : Table) → Accepted m t → (s : State) → CanHave ps m t s → Regular ps m t s
    → (choices : List ℕ) → Numbers choices → (n : ℕ) (r : State) → StateAfter ps t n s choices r → NoEmptyClass ps r
