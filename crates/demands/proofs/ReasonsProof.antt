-- Why a row failed: matching ends have equal reasons, by demand 3; which reasons there are, by the model.
-- Assumes nothing.
use mathlib.Core.Path.{◌≡◌, refl, sym, ap, ◌∙◌, subst}
use Prim.Native.Nat.{ℕ}
use native.Mathlib.Omega.{arith}
use mathlib.Core.Bool.{false}
use mathlib.Core.List.{List, [], ◌++◌}
use lib.ListN.{length, drop}
use Rattle.table.specs.Verdict.{Verdict}
use Rattle.table.specs.Verdict.Verdict.{Passes, Refused}
use Rattle.model.specs.Class.{pair}
use Rattle.model.specs.Work.{Reason}
use Rattle.model.specs.Step.{End, Report}
use Rattle.model.specs.Step.End.{failed}
use Rattle.model.specs.Step.Report.{ended, no_end}
use Rattle.model.specs.Demand3.{is_want, wants_cells, plain_run, choice_list}
use Rattle.model.specs.State.{State, cell_count}
use Rattle.model.specs.State.MachineKind.{plain, reduced}
use Rattle.model.specs.Writer.{with_numbers}
use Rattle.model.proofs.ReasonLaws.{nodes-never-counter, others-never-counter, closing-only-counter, valid-fails-as-operand}
use Rattle.runs.specs.Checks.{run_checks}
use Rattle.runs.specs.Answers.{Said, said_by, ran_said, fresh_said}
use Rattle.runs.specs.Answers.Said.{reports}
use Rattle.choices.specs.Answers.Said.{writes}
use Rattle.choices.specs.Demand3.{Demand3}
use Rattle.choices.proofs.Demand3Proof.{demand-3}
use Rattle.demands.specs.Reasons.{RunFails, WriterFails, SameReason, MatchingReasons, Reasons}
use Rattle.demands.proofs.RefusalLaws.{pair-passes}

-- a plain run that failed did not end for want of cells
no-want : (v : Verdict) (cells : List ℕ) (r : Report) (why : Reason) → RunFails why (said_by v cells (ran_said [] r)) → wants_cells r ≡ false
no-want Passes cells (ended e n s left) why h = ap is_want h
no-want Passes cells no_end why h = absurd h
no-want (Refused number place) cells r why h = absurd h

-- what was said of a run, by its report
module _ {x : Said} {r : Report} {used : ℕ} {e : End} {n : ℕ} {s : State} {left : List ℕ} (said : x ≡ reports r used) (is : r ≡ ended e n s left)
    (why : Reason) where
  whole : x ≡ reports (ended e n s left) used
  whole = said ∙ ap (λ (r : Report). reports r used) is

  end-failed : RunFails why x → e ≡ failed why
  end-failed h = subst (RunFails why) whole h

  failed-so : e ≡ failed why → RunFails why x
  failed-so h = subst (RunFails why) (sym whole) h

module _ (ps P : List ℕ) (D : Demand3 ps P) (limit : ℕ) (cells reduced_cells : List ℕ) (hp : length cells ≡ cell_count plain)
    (hr : length reduced_cells ≡ cell_count reduced) (why : Reason) where
  fails-none : RunFails why (fresh_said plain [] P cells [] limit) → wants_cells (plain_run P limit) ≡ false
  unfolding fresh_said
  fails-none h = no-want (run_checks plain [] P (length cells)) cells (plain_run P limit) why h

  -- the plain run's report, as the writer has it
  plain-report : RunFails why (fresh_said plain [] P cells [] limit) → (r : Report) → plain_run P limit ≡ r → (lent : List ℕ)
      → WriterFails why (writes (with_numbers (choice_list ps P limit) r) (length (choice_list ps P limit)) lent)
  unfolding fresh_said
  plain-report h r e lent = go (run_checks plain [] P (length cells)) (plain_run P limit) r h e
    where
      go : (v : Verdict) (q r : Report) → RunFails why (said_by v cells (ran_said [] q)) → q ≡ r
          → WriterFails why (writes (with_numbers (choice_list ps P limit) r) (length (choice_list ps P limit)) lent)
      go (Refused number place) q r h e = absurd h
      go Passes q (ended f n s left) h e = subst (λ (q : Report). RunFails why (ran_said [] q)) e h
      go Passes q no_end h e = absurd (subst (λ (q : Report). RunFails why (ran_said [] q)) e h)

  same-reason : SameReason ps P limit cells reduced_cells why
  same-reason = record {
    there = λ h.
        let M = D.matched limit cells reduced_cells hp hr (fails-none h) in
        failed-so M.reduced_is M.matched.reduced_is why (end-failed M.plain_is M.matched.plain_is why h);
    back = λ w h.
        let M = D.matched limit cells reduced_cells hp hr w in
        failed-so M.plain_is M.matched.plain_is why (end-failed M.reduced_is M.matched.reduced_is why h);
    written = λ lent room h.
        let list = choice_list ps P limit in
        subst (WriterFails why) (sym (D.fits limit cells lent hp (omega (arith, room))))
        (plain-report h (plain_run P limit) refl (list ++ drop (length list) lent));
  }

pub matching-reasons : MatchingReasons
matching-reasons c1 c2 h P pass limit cells reduced_cells hp hr why =
    same-reason (pair c1 c2) P (demand-3 (pair c1 c2) (pair-passes c1 c2 (omega (arith, h))) P pass) limit cells reduced_cells hp hr why

pub reasons : Reasons
reasons = record {
  numbers = refl;
  matching = matching-reasons;
  nodes = nodes-never-counter;
  others = others-never-counter;
  closing = closing-only-counter;
  validity = valid-fails-as-operand;
}
