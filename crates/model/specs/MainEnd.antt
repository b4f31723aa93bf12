-- A run is done at main's end, and nowhere else. Proved in proofs/MainEndLaws.
use Rattle.std.specs.Prelude.{◌≡◌, ℕ, true, List, []}
use Rattle.model.specs.Table.{Table, opening}
use Rattle.model.specs.State.{MachineKind, State}
use Rattle.model.specs.Step.{finished}
use Rattle.model.specs.Accepted.{Accepted, CanHave}
use Rattle.model.specs.EmptyClasses.{StateAfter}

-- at the 43 of procedure 0, or at the row count where there is no procedure, with no caller (rule 2.28)
pub record AtMainEnd (t : Table) (s : State) : Type 0 where
  pub row : s.here.row ≡ opening t 0
  pub callers : s.callers ≡ []

-- in each state that a run comes to from one that a table can have
abbrev pub DoneAtMainEnd : Type 0
DoneAtMainEnd =
    (ps : List ℕ) (m : MachineKind) (t : Table) → Accepted m t → (s : State) → CanHave ps m t s → (choices : List ℕ)
    → (n : ℕ) (r : State) → StateAfter ps t n s choices r → (finished t r ≡ true → AtMainEnd t r) × (AtMainEnd t r → finished t r ≡ true)
