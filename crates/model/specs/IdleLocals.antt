-- No state of a run holds a nonzero local of a procedure that is not at work. Proved in proofs/IdleLocalLaws.
use Rattle.std.specs.Prelude.{◌≡◌, ℕ, ◌<◌, false, List, get_or}
use Rattle.model.specs.Table.{Table, home}
use Rattle.model.specs.State.{MachineKind, State}
use Rattle.model.specs.State.Value.{Uint}
use Rattle.model.specs.Procedures.{may_use}
use Rattle.model.specs.Accepted.{Accepted, CanHave, Regular}
use Rattle.model.specs.Demand3.{Numbers}
use Rattle.model.specs.EmptyClasses.{StateAfter}

-- every local that is not one of what is at work is 0 (rule 7.18)
abbrev pub IdleZero : Table → State → Type 0
IdleZero t s = (i : ℕ) → i < t.decls → may_use t (home t s.here.row) i ≡ false → get_or s.vars i (Uint 0) ≡ Uint 0

-- in each state that a run comes to from one that a table can have and 15 does not refuse, under choices of 32 bits (rules 2.40, 2.42)
abbrev pub IdleLocalsZero : Type 0
IdleLocalsZero =
    (ps : List ℕ) (m : MachineKind) (t : Table) → Accepted m t → (s : State) → CanHave ps m t s → Regular ps m t s
    → (choices : List ℕ) → Numbers choices → (n : ℕ) (r : State) → StateAfter ps t n s choices r → IdleZero t r
