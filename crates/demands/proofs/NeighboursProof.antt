-- Neighbours on one terminal card.
-- Assumes nothing.
use mathlib.Core.Path.{◌≡◌, refl}
use mathlib.Core.Logic.{inl, inr}
use Prim.Native.Nat.{ℕ}
use native.Mathlib.Omega.{arith}
use mathlib.Core.Bool.{Bool, true, false}
use mathlib.Core.List.{List}
use borrow.Author.Tests.{lt-ltb}
use Rattle.std.specs.Prelude.{if◌then◌else◌}
use Rattle.table.specs.Verdict.Verdict.{Passes, Refused}
use Rattle.table.proofs.Passing.{passing, accepted}
use Rattle.model.specs.Class.{class, pair}
use Rattle.model.specs.Table.{Table, table_of}
use Rattle.model.specs.State.{MachineKind, State}
use Rattle.model.specs.Accepted.{Accepted}
use Rattle.model.proofs.ClassLaws.{cell-for-each-place, class-held}
use Rattle.model.proofs.PairLaws.{empty-between}
use Rattle.model.proofs.Demand3Proof.{fresh-can}
use Rattle.model.proofs.Kept.{fresh-regular}
use Rattle.model.proofs.EmptyClassLaws.{holds-none, never-holds-empty, run-hands-back}
use Rattle.records.specs.Record.{record_fits}
use Rattle.records.specs.RecordPromises.{CanBe}
use Rattle.records.proofs.RecordLaws.{fits-can}
use Rattle.demands.specs.Neighbours.{Starts, NoStateHoldsEmpty, EmptyRefused, Neighbours, cells_for}
use Rattle.demands.proofs.RefusalLaws.{pair-checked}

-- a run starts from a state that its table can have
pub start-can : (m : MachineKind) (ps : List ℕ) (t : Table) → Accepted m t → (s : State) → Starts m ps t s → CanBe m ps t s
start-can m ps t A s (inl e) = rw e (record { can = fresh-can ps m t; regular = fresh-regular ps m t A })
start-can m ps t A s (inr e) = fits-can m ps t s e

no-state-holds-empty : NoStateHoldsEmpty
no-state-holds-empty m ps t pass s start choices nl n r after =
    let A = accepted m t (passing m t pass) in
    let B = start-can m ps (table_of t) A s start in
    never-holds-empty ps m (table_of t) A s B.can B.regular choices nl n r after

empty-refused : EmptyRefused
empty-refused m ps t s i k e empty = go (record_fits m ps t s) refl
  where
    go : (b : Bool) → record_fits m ps t s ≡ b → (if b then Passes else Refused 15 0) ≡ Refused 15 0
    go true f = let B = fits-can m ps t s f in absurd (empty (holds-none ps m t s B.can B.regular i k e))
    go false f = refl

-- 0 and 1, and a length of 1
needs-three : cells_for 0 1 1 ≡ 3
unfolding class
needs-three = refl

pub neighbours : Neighbours
neighbours = record {
  pairs = pair-checked;
  between = empty-between;
  empty = class-held;
  never = no-state-holds-empty;
  states = run-hands-back;
  refused = empty-refused;
  at_most = λ c1 c2 h len. omega (arith, cell-for-each-place (pair c1 c2) (rw (lt-ltb c1 c2 h)) len);
  may_need = (0, 1, 1, omega arith, needs-three);
  cells = refl;
  for_each_array = refl;
}
