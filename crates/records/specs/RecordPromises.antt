-- What is proved of check 15: proofs/RecordLaws.
use Rattle.std.specs.Prelude.{◌≡◌, ℕ, true, List}
use Rattle.model.specs.Class.{accepted_places}
use Rattle.model.specs.Table.{Table}
use Rattle.model.specs.State.{MachineKind, State}
use Rattle.model.specs.Accepted.{CanHave, Regular}
use Rattle.records.specs.Record.{record_fits}

-- a record that a table can have, whole: what demand 3 asks of it, and what 15 asks besides
pub record CanBe (m : MachineKind) (ps : List ℕ) (t : Table) (s : State) : Type 0 where
  pub can : CanHave ps m t s
  pub regular : Regular ps m t s

-- a state that 15 does not refuse is one that the table can have
abbrev pub FitsCan : Type 0
FitsCan = (m : MachineKind) (ps : List ℕ) (t : Table) (s : State) → record_fits m ps t s ≡ true → CanBe m ps t s

-- and the other way round, with accepted places
abbrev pub CanFits : Type 0
CanFits = (m : MachineKind) (ps : List ℕ) → accepted_places ps ≡ true → (t : Table) (s : State) → CanBe m ps t s → record_fits m ps t s ≡ true
