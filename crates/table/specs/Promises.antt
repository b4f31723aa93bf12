-- What is proved of every table that passes the checks: proofs/PromiseProofs.
use Rattle.std.specs.Prelude.{◌≡◌, ℕ, true, List}
use Rattle.model.specs.Class.{accepted_places}
use Rattle.model.specs.Table.{table_of}
use Rattle.model.specs.State.{MachineKind, State}
use Rattle.model.specs.State.MachineKind.{plain, reduced}
use Rattle.model.specs.Step.{run}
use Rattle.model.specs.Reduce.{reduce}
use Rattle.model.specs.Accepted.{Accepted, CanHave}
use Rattle.model.specs.Demand3.{Ends, Demand3}
use Rattle.table.specs.Verdict.Verdict.{Passes}
use Rattle.table.specs.Checks.{table_check}

-- passing gives what demand 3 asks of a table
abbrev pub PassesAccepted : Type 0
PassesAccepted = (m : MachineKind) (w : List ℕ) → table_check m w ≡ Passes → Accepted m (table_of w)

-- the reduction of a passing table passes the reduced checks
abbrev pub ReductionPasses : Type 0
ReductionPasses = (P : List ℕ) → table_check plain P ≡ Passes → table_check reduced (reduce P) ≡ Passes

-- demand 3, its first half: no run of a passing table is stuck, plain or reduced
abbrev pub PassingNeverStuck : Type 0
PassingNeverStuck =
    (ps : List ℕ) (m : MachineKind) (w : List ℕ) → table_check m w ≡ Passes → (s : State) → CanHave ps m (table_of w) s
    → (limit : ℕ) (choices : List ℕ) → Ends ps m (table_of w) choices (run ps (table_of w) limit 0 s choices)

-- demand 3, of every passing table and accepted places
abbrev pub PassingDemand3 : Type 0
PassingDemand3 = (ps : List ℕ) → accepted_places ps ≡ true → (P : List ℕ) → table_check plain P ≡ Passes → Demand3 ps P
