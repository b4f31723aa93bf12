-- Each state of a run is one that the table can have and regular; so none holds an empty class.
-- Assumes nothing.
use mathlib.Core.Path.{◌≡◌, refl, sym, ap, ◌∙◌, subst}
use Prim.Native.Nat.{ℕ, zero, suc, ◌+◌, ◌≤◌, ◌<◌}
use native.Mathlib.Omega.{arith}
use mathlib.Core.Bool.{Bool, true, false}
use mathlib.Core.List.{List}
use lib.ListN.{length, get_or, get_or-eq_default}
use Rattle.std.specs.Prelude.{if◌then◌else◌}
use Rattle.model.specs.Class.{HeldClass}
use Rattle.model.specs.Table.{Table, Ty, type_at}
use Rattle.model.specs.Table.Ty.{bool, uint, pointer}
use Rattle.model.specs.Work.{Out}
use Rattle.model.specs.Work.Out.{gives, fails, bad_choice, no_choice, stuck}
use Rattle.model.specs.State.{MachineKind, State, Value, classed, form_of}
use Rattle.model.specs.State.Value.{Truth, Uint, Class, Pointer}
use Rattle.model.specs.Step.{Move, Report, after, finished, step, run}
use Rattle.model.specs.Step.End.{done, out_of_steps}
use Rattle.model.specs.Step.Move.{to, stop}
use Rattle.model.specs.Step.Report.{ended, no_end}
use Rattle.model.specs.Accepted.{Accepted, CanHave, HasType, Holds, Regular}
use Rattle.model.specs.Demand3.{Numbers}
use Rattle.model.specs.EmptyClasses.{HandsBackOne, NeverHoldsEmpty, NoEmptyClass, RunHandsBackOne, StateAfter}
use Rattle.model.proofs.Memory.{split}
use Rattle.model.proofs.Safe.{Held}
use Rattle.model.proofs.SafeStep.{MoveOk, safe-step}
use Rattle.model.proofs.Kept.{Given, MoveRegular, keeps-step}

-- ---- the state that a run hands back

module _ (ps : List ℕ) (t : Table) where
  -- ... after m steps before it
  abbrev HandsBack : ℕ → State → List ℕ → Report → Type 0
  HandsBack m s cs (ended e n r left) = (i : ℕ) × StateAfter ps t i s cs r × (m + i ≤ n) × (n ≤ suc (m + i))
  HandsBack m s cs no_end = Unit {0}

  hands-back : (k m : ℕ) (s : State) (cs : List ℕ) → HandsBack m s cs (run ps t k m s cs)
  unfolding run
  hands-back zero m s cs = go (finished t s)
    where
      go : (b : Bool) → HandsBack m s cs (if b then ended done m s cs else ended out_of_steps m s cs)
      go false = (0, refl, omega arith, omega arith)
      go true = (0, refl, omega arith, omega arith)
  hands-back (suc k) m s cs = go (finished t s) refl (λ made left. hands-back k (suc m) made left)
    where
      onwards : finished t s ≡ false → (made : State) (left : List ℕ) → step ps t s cs ≡ gives (to made) left → (r : Report)
          → HandsBack (suc m) made left r → HandsBack m s cs r
      onwards f made left e (ended end n r rest) (i, h, low, high) = (suc i, (f, made, left, e, h), omega arith, omega arith)
      onwards f made left e no_end h = tt

      follow : finished t s ≡ false → (o : Out Move) → step ps t s cs ≡ o
          → ((made : State) (left : List ℕ) → HandsBack (suc m) made left (run ps t k (suc m) made left))
          → HandsBack m s cs (after m s cs o (run ps t k (suc m)))
      follow f (gives (to made) left) e ih = onwards f made left e (run ps t k (suc m) made left) (ih made left)
      follow f (gives (stop end) left) e ih = (0, refl, omega arith, omega arith)
      follow f (fails why left) e ih = (0, refl, omega arith, omega arith)
      follow f bad_choice e ih = (0, refl, omega arith, omega arith)
      follow f no_choice e ih = (0, refl, omega arith, omega arith)
      follow f stuck e ih = tt

      go : (b : Bool) → finished t s ≡ b
          → ((made : State) (left : List ℕ) → HandsBack (suc m) made left (run ps t k (suc m) made left))
          → HandsBack m s cs (if b then ended done m s cs else after m s cs (step ps t s cs) (run ps t k (suc m)))
      go false e ih = follow e (step ps t s cs) refl ih
      go true e ih = (0, refl, omega arith, omega arith)

  from_start : (s : State) (cs : List ℕ) (r : Report) → HandsBack 0 s cs r → HandsBackOne ps t s cs r
  from_start s cs (ended e n r left) (i, h, low, high) = (i, h, omega arith, omega arith)
  from_start s cs no_end h = tt

pub run-hands-back : RunHandsBackOne
run-hands-back ps t limit s choices = from_start ps t s choices (run ps t limit 0 s choices) (hands-back ps t limit 0 s choices)

-- ---- what a state holds

-- a value of a type is no class
typed-no-class : (n k : ℕ) (w : Ty) (v : Value) → HasType n w v → v ≡ Class k → ⊥
typed-no-class n k bool v h e = omega (arith, sym (ap form_of e) ∙ ap form_of h.1)
typed-no-class n k uint v h e = omega (arith, sym (ap form_of e) ∙ ap form_of h.1)
typed-no-class n k pointer v h e = omega (arith, sym (ap form_of e) ∙ ap form_of h.2)

abbrev class_number : Value → ℕ
class_number (Truth b) = 0
class_number (Uint n) = 0
class_number (Class k) = k
class_number (Pointer r p) = 0

module _ (ps : List ℕ) (m : MachineKind) (t : Table) where
  -- a state that the table can have, and that is regular
  pub holds-none : (s : State) → CanHave ps m t s → Regular ps m t s → NoEmptyClass ps s
  holds-none s C R i k e = split t.decls i (λ l. absurd (past l)) (λ l. go (classed m t i) refl l (C.variable i l))
    where
      past : t.decls ≤ i → ⊥
      past l = omega (arith, sym (ap form_of e) ∙ ap form_of (get_or-eq_default s.vars (Uint 0) {n = i} (omega (arith, C.variables))))

      go : (b : Bool) → classed m t i ≡ b → i < t.decls → Holds b (length s.arrays) (type_at t i) (get_or s.vars i (Uint 0)) → HeldClass ps k
      go true c l h =
          let held = R.classes i l c in
          subst (HeldClass ps) (ap class_number (sym held.1 ∙ e)) held.2
      go false c l h = absurd (typed-no-class (length s.arrays) k (type_at t i) (get_or s.vars i (Uint 0)) h e)

  -- a step leads to a state that the table can have, and so do n steps
  pub after-can : Accepted m t → (n : ℕ) (s r : State) → CanHave ps m t s → (cs : List ℕ) → StateAfter ps t n s cs r → CanHave ps m t r
  after-can A zero s r C cs e = subst (CanHave ps m t) e C
  after-can A (suc n) s r C cs (f, made, left, e, rest) =
      let h : Held m (MoveOk m (CanHave ps m t)) cs (gives (to made) left) =
      subst (Held m (MoveOk m (CanHave ps m t)) cs) e ((safe-step ps m t A s C f).held cs) in
      after-can A n made r h.0 left rest

  -- ... and a regular one, under choices of 32 bits
  pub after-regular : Accepted m t → (n : ℕ) (s r : State) → CanHave ps m t s → Regular ps m t s → (cs : List ℕ) → Numbers cs → StateAfter ps t n s cs r
      → Regular ps m t r
  after-regular A zero s r C R cs g e = subst (Regular ps m t) e R
  after-regular A (suc n) s r C R cs g (f, made, left, e, rest) =
      let h : Held m (MoveOk m (CanHave ps m t)) cs (gives (to made) left) =
      subst (Held m (MoveOk m (CanHave ps m t)) cs) e ((safe-step ps m t A s C f).held cs) in
      let k : Given (MoveRegular ps m t) (gives (to made) left) =
      subst (Given (MoveRegular ps m t)) e ((keeps-step ps m t A s C R).kept cs g) in
      after-regular A n made r h.0 k.0 left k.1 rest

pub never-holds-empty : NeverHoldsEmpty
never-holds-empty ps m t A s C R choices g n r after =
    holds-none ps m t r (after-can ps m t A n s r C choices after) (after-regular ps m t A n s r C R choices g after)
