-- What a run says where its table and its places pass: 14, 15, or an end of its machine with a record that 15 does not refuse.
-- Assumes nothing.
use mathlib.Core.Path.{◌≡◌, refl, sym, subst}
use Prim.Native.Nat.{ℕ}
use mathlib.Core.Bool.{Bool, true, false}
use mathlib.Core.List.{List}
use lib.ListN.{length}
use Rattle.table.specs.Verdict.{Verdict}
use Rattle.table.specs.Verdict.Verdict.{Passes, Refused}
use Rattle.table.specs.Checks.{table_check}
use Rattle.table.proofs.Passing.{passing, accepted}
use Rattle.model.specs.Table.{table_of}
use Rattle.model.specs.State.{MachineKind, State, fresh}
use Rattle.model.specs.Class.{accepted_places}
use Rattle.model.specs.Step.{Report, run}
use Rattle.model.specs.Step.Report.{ended, no_end}
use Rattle.model.specs.Demand3.{Ends, EndsRegular, Numbers}
use Rattle.model.proofs.Demand3Proof.{fresh-can}
use Rattle.model.proofs.SafeStep.{never_stuck}
use Rattle.model.proofs.Kept.{fresh-regular, stays-regular}
use Rattle.records.specs.Record.{record_fits}
use Rattle.records.specs.RecordPromises.{CanBe}
use Rattle.runs.specs.Checks.{run_checks}
use Rattle.runs.specs.Answers.{ran_said, fresh_said, continued_said}
use Rattle.runs.specs.Answers.Said.{refusal}
use Rattle.runs.specs.Promises.{SaysEnd, FreshEnds, ContinuedEnds}
use Rattle.records.proofs.RecordLaws.{fits-can, can-fits}
use Rattle.runs.proofs.LendLaws.{passes-sized, refuses-sized}

module _ (m : MachineKind) (ps : List ℕ) (ok : accepted_places ps ≡ true) (t : List ℕ) (pass : table_check m t ≡ Passes) (l : List ℕ) (nl : Numbers l)
    (limit : ℕ) where
  well : (report : Report) → Ends ps m (table_of t) l report → EndsRegular ps m (table_of t) report → SaysEnd m ps (table_of t) l (ran_said l report)
  well (ended e n s left) h r = record {
    end = h.0;
    fits = can-fits m ps ok (table_of t) s (record { can = h.1; regular = r });
    leaves = h.2;
    counted = h.2.used;
  }
  well no_end h r = h

  -- a run from a record that the table can have
  runs-well : (s : State) → CanBe m ps (table_of t) s → SaysEnd m ps (table_of t) l (ran_said l (run ps (table_of t) limit 0 s l))
  runs-well s B =
      let A = accepted m t (passing m t pass) in
      well (run ps (table_of t) limit 0 s l) (never_stuck ps m (table_of t) A s B.can limit l)
      (stays-regular ps m (table_of t) A s B.can B.regular limit l nl)

  fresh-is : (cells : List ℕ) {v : Verdict} → run_checks m ps t (length cells) ≡ v → v ≡ Passes
      → fresh_said m ps t cells l limit ≡ ran_said l (run ps (table_of t) limit 0 (fresh ps m (table_of t)) l)
  unfolding fresh_said
  fresh-is cells e p = rw (e, p)

  fresh-not : (cells : List ℕ) → run_checks m ps t (length cells) ≡ Refused 14 0 → fresh_said m ps t cells l limit ≡ refusal 14 0 cells
  unfolding fresh_said
  fresh-not cells e = rw e

  module _ (s : State) where
    continued-is : run_checks m ps t (length s.cells) ≡ Passes → record_fits m ps (table_of t) s ≡ true
        → continued_said m ps t s l limit ≡ ran_said l (run ps (table_of t) limit 0 s l)
    unfolding continued_said
    continued-is e f = rw (e, f)

    continued-size : run_checks m ps t (length s.cells) ≡ Refused 14 0 → continued_said m ps t s l limit ≡ refusal 14 0 s.cells
    unfolding continued_said
    continued-size e = rw e

    continued-record : run_checks m ps t (length s.cells) ≡ Passes → record_fits m ps (table_of t) s ≡ false
        → continued_said m ps t s l limit ≡ refusal 15 0 s.cells
    unfolding continued_said
    continued-record e f = rw (e, f)

    -- 15 refuses what the table cannot have
    refused : (CanBe m ps (table_of t) s → ⊥) → record_fits m ps (table_of t) s ≡ false
    refused h = go (record_fits m ps (table_of t) s) refl
      where
        go : (b : Bool) → record_fits m ps (table_of t) s ≡ b → record_fits m ps (table_of t) s ≡ false
        go true e = absurd (h (fits-can m ps (table_of t) s e))
        go false e = e

pub fresh-ends : FreshEnds
fresh-ends m ps ok t pass cells l nl limit = record {
  other_size = λ h. fresh-not m ps ok t pass l nl limit cells (refuses-sized m ps t (length cells) pass ok h);
  cannot = λ e h. absurd (h tt);
  ends = λ e h.
      subst (SaysEnd m ps (table_of t) l) (sym (fresh-is m ps ok t pass l nl limit cells (passes-sized m ps t (length cells) pass ok e) refl))
      (runs-well m ps ok t pass l nl limit (fresh ps m (table_of t))
      (record { can = fresh-can ps m (table_of t); regular = fresh-regular ps m (table_of t) (accepted m t (passing m t pass)) }));
}

pub continued-ends : ContinuedEnds
continued-ends m ps ok t pass s l nl limit = record {
  other_size = λ h. continued-size m ps ok t pass l nl limit s (refuses-sized m ps t (length s.cells) pass ok h);
  cannot = λ e h. continued-record m ps ok t pass l nl limit s (passes-sized m ps t (length s.cells) pass ok e) (refused m ps ok t pass l nl limit s h);
  ends = λ e B.
      subst (SaysEnd m ps (table_of t) l)
      (sym (continued-is m ps ok t pass l nl limit s (passes-sized m ps t (length s.cells) pass ok e) (can-fits m ps ok (table_of t) s B)))
      (runs-well m ps ok t pass l nl limit s B);
}
