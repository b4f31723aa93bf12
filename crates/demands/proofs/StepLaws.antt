-- A run takes at most as many steps as its limit, and comes to an end.
-- Assumes nothing.
use mathlib.Core.Path.{◌≡◌}
use Prim.Native.Nat.{ℕ, zero, suc, ◌+◌, ◌≤◌}
use native.Mathlib.Omega.{arith}
use mathlib.Core.Bool.{Bool, true, false}
use mathlib.Core.List.{List}
use Rattle.std.specs.Prelude.{if◌then◌else◌}
use Rattle.model.specs.Table.{Table}
use Rattle.model.specs.Work.{Out}
use Rattle.model.specs.Work.Out.{gives, fails, bad_choice, no_choice, stuck}
use Rattle.model.specs.State.{MachineKind, State}
use Rattle.model.specs.Accepted.{Accepted, CanHave}
use Rattle.model.specs.Step.{Move, Report, finished, step, after, run}
use Rattle.model.specs.Step.Move.{to, stop}
use Rattle.model.specs.Step.End.{done, out_of_steps}
use Rattle.model.specs.Step.Report.{ended, no_end}
use Rattle.model.specs.Demand3.{Ends}
use Rattle.model.proofs.SafeStep.{never_stuck}

-- at most so many steps
abbrev pub Within : ℕ → Report → Type 0
Within most (ended e n s left) = n ≤ most
Within most no_end = Unit {0}

pub run-within : (ps : List ℕ) (t : Table) (limit n : ℕ) (s : State) (cs : List ℕ) → Within (n + limit) (run ps t limit n s cs)
unfolding run
run-within ps t zero n s cs = go (finished t s)
  where
    go : (b : Bool) → Within (n + 0) (if b then ended done n s cs else ended out_of_steps n s cs)
    go true = omega arith
    go false = omega arith
run-within ps t (suc k) n s cs = go (finished t s) (step ps t s cs) (run-within ps t k (suc n))
  where
    go : (b : Bool) (o : Out Move) → ((s' : State) (cs' : List ℕ) → Within (suc n + k) (run ps t k (suc n) s' cs'))
        → Within (n + suc k) (if b then ended done n s cs else after n s cs o (run ps t k (suc n)))
    go true o h = omega arith
    go false (gives (to s') cs') h = let z : suc n + k ≡ n + suc k = omega arith in rw z at (h s' cs')
    go false (gives (stop e) cs') h = omega arith
    go false (fails why cs') h = omega arith
    go false bad_choice h = omega arith
    go false no_choice h = omega arith
    go false stuck h = tt

-- ... and has an end, from a state that its table can have
abbrev pub EndsWithin : ℕ → Report → Type 0
EndsWithin most (ended e n s left) = n ≤ most
EndsWithin most no_end = ⊥

pub ends-within : (ps : List ℕ) (m : MachineKind) (t : Table) → Accepted m t → (s : State) → CanHave ps m t s → (limit : ℕ) (cs : List ℕ)
    → EndsWithin limit (run ps t limit 0 s cs)
ends-within ps m t A s C limit cs = go (run ps t limit 0 s cs) (never_stuck ps m t A s C limit cs) (run-within ps t limit 0 s cs)
  where
    go : (r : Report) → Ends ps m t cs r → Within (0 + limit) r → EndsWithin limit r
    go (ended e n s left) h w = omega (arith, w)
    go no_end h w = h
