-- A run, one step at a time, and what a step keeps: the laws by which the loop of a run is proved.
-- Assumes nothing.
use mathlib.Core.Path.{◌≡◌, subst}
use Prim.Native.Nat.{ℕ, zero, suc}
use mathlib.Core.Bool.{true, false}
use mathlib.Core.List.{List}
use Rattle.model.specs.Table.{Table}
use Rattle.model.specs.Work.{Out}
use Rattle.model.specs.Work.Out.{gives, stuck}
use Rattle.model.specs.State.{MachineKind, State}
use Rattle.model.specs.Step.{Move, after, finished, run, step}
use Rattle.model.specs.Step.End.{done, out_of_steps}
use Rattle.model.specs.Step.Move.{to}
use Rattle.model.specs.Step.Report.{ended}
use Rattle.model.specs.Accepted.{Accepted, CanHave}
use Rattle.model.specs.Demand3.{Numbers}
use Rattle.records.specs.RecordPromises.{CanBe}
use Rattle.model.proofs.Safe.{Held}
use Rattle.model.proofs.SafeStep.{MoveOk, safe-step}
use Rattle.model.proofs.Kept.{Given, MoveRegular, keeps-step}

module _ (ps : List ℕ) (t : Table) (n : ℕ) (s : State) (cs : List ℕ) where
  pub run-done : (k : ℕ) → finished t s ≡ true → run ps t k n s cs ≡ ended done n s cs
  unfolding run
  run-done zero h = rw h
  run-done (suc k) h = rw h

  module _ (h : finished t s ≡ false) where
    pub run_out : run ps t 0 n s cs ≡ ended out_of_steps n s cs
    unfolding run
    run_out = rw h

    -- what the next step comes to
    module _ (k : ℕ) {o : Out Move} (e : step ps t s cs ≡ o) where
      pub run-next : run ps t (suc k) n s cs ≡ after n s cs o (run ps t k (suc n))
      unfolding run
      run-next = rw (h, e)

module _ (ps : List ℕ) (m : MachineKind) (t : Table) (A : Accepted m t) (s : State) (G : CanBe m ps t s) (h : finished t s ≡ false) (cs : List ℕ) where
  pub never : step ps t s cs ≡ stuck → ⊥
  never e = subst (Held m (MoveOk m (CanHave ps m t)) cs) e ((safe-step ps m t A s G.can h).held cs)

  -- a step that goes on keeps it
  pub going_on : Numbers cs → (s' : State) (cs' : List ℕ) → step ps t s cs ≡ gives (to s') cs' → CanBe m ps t s'
  going_on n s' cs' e = record {
    can = (subst (Held m (MoveOk m (CanHave ps m t)) cs) e ((safe-step ps m t A s G.can h).held cs)).0;
    regular = (subst (Given (MoveRegular ps m t)) e ((keeps-step ps m t A s G.can G.regular).kept cs n)).0;
  }
