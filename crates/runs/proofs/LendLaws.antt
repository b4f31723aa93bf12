-- What the checks of a run give: a table, places and cells for which a run is ready, from a fresh record or from one that 15 does not refuse.
-- Assumes nothing.
use mathlib.Core.Path.{◌≡◌, refl, sym, ap, ◌∙◌, subst}
use mathlib.Core.Logic.{◌≢◌}
use Prim.Native.Nat.{ℕ, ◌≤◌, ◌<◌}
use native.Mathlib.Omega.{arith as numbers}
use mathlib.Core.Bool.{Bool, true}
use mathlib.Core.List.{List}
use lib.ListN.{length, replicate, length-replicate}
use borrow.Author.Tests.{eq-eqb, ne_eqb}
use Rattle.lists.specs.Tab.{tab, listed}
use Rattle.table.specs.Verdict.{Verdict}
use Rattle.table.specs.Verdict.Verdict.{Passes, Refused}
use Rattle.kinds.specs.Kinds.{machine_of}
use Rattle.table.specs.Checks.{table_check, and_then, size_check}
use Rattle.kinds.specs.Code.{InSorts}
use Rattle.table.specs.Code.{counts_of}
use Rattle.table.proofs.Passing.{Passing, passing, accepted, few-open, both-pass, size-passes}
use Rattle.table.proofs.CheckLaws.{laid_of}
use Rattle.model.specs.Class.{accepted_places, pair}
use Rattle.model.specs.Table.{Table, nest_at, open_at, table_of}
use Rattle.model.specs.Table.Nest.{opens}
use Rattle.model.specs.State.{MachineKind, State, cell_count, fresh, places_in}
use Rattle.model.specs.State.MachineKind.{plain, reduced}
use Rattle.model.specs.Step.{run}
use Rattle.model.specs.Accepted.{Accepted, CanHave, Regular}
use Rattle.model.proofs.Demand3Proof.{fresh-can}
use Rattle.model.proofs.Kept.{fresh-regular}
use Rattle.machine.specs.declared.Record.{Record}
use Rattle.prepared.specs.declared.Frame.{Frame}
use Rattle.prepared.specs.View.{places, kind_of, table_for, arrays_of}
use Rattle.calls.specs.Stack.{loops_of, callers_of}
use Rattle.machine.specs.View.{state_of}
use Rattle.machine.specs.CodeFresh.{fresh_vars, fresh_machine, fresh_record}
use Rattle.machine.proofs.FreshLaws.{fresh-vars}
use Rattle.records.specs.Record.{record_fits}
use Rattle.runs.specs.declared.Ran.{Ran}
use Rattle.runs.specs.CodeSteps.{Ready, Reports, Lends}
use Rattle.runs.specs.Checks.{places_for, run_checks, frame_of}
use Rattle.records.proofs.RecordLaws.{fits-can}

-- what the checks of a run that pass say, one by one
pub record Parts (m : MachineKind) (t : List ℕ) (size : ℕ) : Type 0 where
  pub table : table_check m t ≡ Passes
  pub sized : size ≡ cell_count m

pub parts : (m : MachineKind) (ps t : List ℕ) (size : ℕ) → run_checks m ps t size ≡ Passes → Parts m t size
unfolding run_checks
parts m ps t size e =
    let a = both-pass (table_check m t) (and_then (places_for m ps) (size_check size (cell_count m))) e in
    let b = both-pass (places_for m ps) (size_check size (cell_count m)) a.1 in
    record { table = a.0; sized = size-passes size (cell_count m) b.1 }

-- the places of either machine pass where they are accepted
places-pass : (m : MachineKind) (ps : List ℕ) → accepted_places ps ≡ true → places_for m ps ≡ Passes
places-pass plain ps e = refl
places-pass reduced ps e = rw e

pub few-cells : (m : MachineKind) → cell_count m ≤ 4294967295
few-cells plain = omega numbers
few-cells reduced = omega numbers

module _ (t : List ℕ) (f : Frame) (cells₀ : List ℕ) (S : Lends t f cells₀) where
  checked : Parts (kind_of f) t (length cells₀)
  checked = parts (kind_of f) (places f) t (length cells₀) S.passes

  passed : Passing (kind_of f) t
  passed = passing (kind_of f) t checked.table

  whole-laid : InSorts (table_of t)
  unfolding table_of
  whole-laid = laid_of f.classes t (counts_of t) passed.whole refl passed.none5 passed.none6

  pub laid : InSorts (table_for t f)
  laid = subst InSorts (sym S.framed) whole-laid

  pub few-decls : f.counts.decls ≤ 32
  few-decls = laid.few_decls

  pub whole-accepted : Accepted (kind_of f) (table_for t f)
  whole-accepted = subst (Accepted (kind_of f)) (sym S.framed) (accepted (kind_of f) t passed)

  ready : (m : Record) (cells : List ℕ) → length cells ≡ length cells₀ → CanHave (places f) (kind_of f) (table_for t f) (state_of t f m cells)
      → Regular (places f) (kind_of f) (table_for t f) (state_of t f m cells) → Ready t f m cells
  ready m cells n C R = record {
    accepted = whole-accepted;
    laid = laid;
    few = subst (λ (T : Table). (r : ℕ) → r < T.rows → nest_at T r ≡ opens → length (open_at T r) < 8) (sym S.framed) (few-open (kind_of f) t passed);
    can = C;
    regular = R;
    room = let c = few-cells (kind_of f) in omega (numbers, n, checked.sized, c);
  }

  -- a fresh record, in cells that are all zero
  module _ (m : Record) (cells : List ℕ) (begun : m ≡ fresh_record t f) (zeros : cells ≡ replicate (length cells₀) 0) where
    begins : state_of t f (fresh_record t f) (replicate (cell_count (kind_of f)) 0) ≡ fresh (places f) (kind_of f) (table_for t f)
    unfolding loops_of callers_of arrays_of fresh fresh_vars tab listed fresh_machine
    begins = rw (fresh-vars t f few-decls)

    pub state-fresh : state_of t f m cells ≡ fresh (places f) (kind_of f) (table_for t f)
    state-fresh = rw (begun, zeros, checked.sized) begins

    pub ready-fresh : Ready t f m cells
    ready-fresh =
        ready m cells (rw zeros (length-replicate {A = ℕ} (length cells₀) 0))
        (subst (CanHave (places f) (kind_of f) (table_for t f)) (sym state-fresh) (fresh-can (places f) (kind_of f) (table_for t f)))
        (subst (Regular (places f) (kind_of f) (table_for t f)) (sym state-fresh) (fresh-regular (places f) (kind_of f) (table_for t f) whole-accepted))

    runs-fresh : (limit : ℕ) (l : List ℕ)
        → run (places f) (table_for t f) limit 0 (state_of t f m cells) l ≡ run (places f) (table_of t) limit 0 (fresh (places f) (kind_of f) (table_of t)) l
    runs-fresh limit l =
        ap (λ (s : State). run (places f) (table_for t f) limit 0 s l) state-fresh
        ∙ ap (λ (T : Table). run (places f) T limit 0 (fresh (places f) (kind_of f) T) l) S.framed

    pub reports-fresh : (limit : ℕ) (l : List ℕ) (r : Ran) (cells' : List ℕ)
        → Reports t f l r cells' (run (places f) (table_for t f) limit 0 (state_of t f m cells) l)
        → Reports t f l r cells' (run (places f) (table_of t) limit 0 (fresh (places f) (kind_of f) (table_of t)) l)
    reports-fresh limit l r cells' R = record { report = R.report ∙ runs-fresh limit l; within = R.within }

  -- a record that 15 does not refuse
  ready-continued : (m : Record) → record_fits (kind_of f) (places f) (table_for t f) (state_of t f m cells₀) ≡ true → Ready t f m cells₀
  ready-continued m e =
      let B = fits-can (kind_of f) (places f) (table_for t f) (state_of t f m cells₀) e in
      ready m cells₀ refl B.can B.regular

-- the frame of a table whose checks passed
module _ (t cells : List ℕ) (classes : Bool) (c1 c2 : ℕ) {v : Verdict}
    (q : v ≡ run_checks (machine_of classes) (places_in (machine_of classes) (pair c1 c2)) t (length cells)) (p : v ≡ Passes) {f : Frame}
    (e : f ≡ frame_of t classes c1 c2) where
  pub lends : Lends t f cells
  unfolding table_of places
  lends = subst (λ (f : Frame). Lends t f cells) (sym e) (record { framed = refl; passes = sym q ∙ p })

  pub continues : (m : Record) → record_fits (kind_of f) (places f) (table_for t f) (state_of t f m cells) ≡ true → Ready t f m cells
  continues m fits = ready-continued t f cells lends m fits

-- ---- the checks, one after the other
pub size_same : (size stated : ℕ) → size ≡ stated → Passes ≡ size_check size stated
size_same size stated e = rw (eq-eqb size stated e)

pub size-other : (size stated : ℕ) → size ≢ stated → Refused 14 0 ≡ size_check size stated
size-other size stated h = rw (ne_eqb size stated h)

module _ (m : MachineKind) (ps t : List ℕ) (size : ℕ) where
  pub run-table : {v : Verdict} {n p : ℕ} → v ≡ table_check m t → v ≡ Refused n p → v ≡ run_checks m ps t size
  unfolding run_checks
  run-table e h = rw (← e, h)

  module _ {v : Verdict} (e : v ≡ table_check m t) (h : v ≡ Passes) {w : Verdict} (d : w ≡ places_for m ps) where
    pub run-places : {n p : ℕ} → w ≡ Refused n p → w ≡ run_checks m ps t size
    unfolding run_checks
    run-places k = rw (← e, h, ← d, k)

    pub run-size : w ≡ Passes → {stated : ℕ} → stated ≡ cell_count m → {x : Verdict} → x ≡ size_check size stated → x ≡ run_checks m ps t size
    unfolding run_checks
    run-size k s g = g ∙ rw (← e, h, ← d, k, s)

  -- where the table and the places pass, the size decides
  module _ (pass : table_check m t ≡ Passes) (ok : accepted_places ps ≡ true) where
    pub passes-sized : size ≡ cell_count m → run_checks m ps t size ≡ Passes
    unfolding run_checks
    passes-sized e = rw (pass, places-pass m ps ok, eq-eqb size (cell_count m) e)

    pub refuses-sized : size ≢ cell_count m → run_checks m ps t size ≡ Refused 14 0
    unfolding run_checks
    refuses-sized h = rw (pass, places-pass m ps ok, ne_eqb size (cell_count m) h)
