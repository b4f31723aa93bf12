-- Stopping a run and going on: the law of the model's runs, and that the record and the cells handed back are not refused.
-- Assumes nothing.
use mathlib.Core.Path.{◌≡◌, refl, sym, ap, ◌∙◌, subst}
use Prim.Native.Nat.{ℕ, ◌+◌}
use native.Mathlib.Omega.{arith}
use mathlib.Core.Bool.{Bool, true, false, false≢true}
use mathlib.Core.List.{List, []}
use lib.ListN.{length, drop, length-append, length-replicate}
use lib.Seq.{drop-append_seam}
use Rattle.std.specs.Prelude.{if◌then◌else◌}
use Rattle.table.specs.Verdict.{Verdict}
use Rattle.table.specs.Verdict.Verdict.{Passes, Refused}
use Rattle.table.specs.Checks.{table_check, and_then, size_check}
use Rattle.table.proofs.Passing.{both-pass, passing, accepted}
use Rattle.model.specs.Class.{accepted_places}
use Rattle.model.specs.Table.{table_of}
use Rattle.model.specs.State.{MachineKind, State, cell_count, fresh, places_in}
use Rattle.model.specs.State.MachineKind.{plain, reduced}
use Rattle.model.specs.Step.{Report, run}
use Rattle.model.specs.Step.End.{out_of_steps}
use Rattle.model.specs.Step.Report.{ended, no_end}
use Rattle.model.specs.Accepted.{Accepted}
use Rattle.model.specs.Demand3.{Ends, EndsRegular, Leaves, Numbers, choices_used, used_of}
use Rattle.model.specs.RunsInParts.{is_out, go_on, counted_from}
use Rattle.model.proofs.SafeStep.{never_stuck}
use Rattle.model.proofs.Demand3Proof.{fresh-can}
use Rattle.model.proofs.Kept.{fresh-regular, stays-regular}
use Rattle.model.proofs.PartLaws.{HasCells, cells_stay, for-none, parts-are-one-run, took-all, turns-are-one-run}
use Rattle.records.specs.Record.{record_fits}
use Rattle.records.specs.RecordPromises.{CanBe}
use Rattle.records.proofs.RecordLaws.{fits-can, can-fits}
use Rattle.runs.specs.Checks.{places_for, run_checks, record_check}
use Rattle.runs.specs.Answers.{Said, said_by, ran_said, fresh_said, continued_said}
use Rattle.runs.specs.Answers.Said.{refusal, reports}
use Rattle.runs.proofs.LendLaws.{parts}
use Rattle.choices.proofs.Demand3Proof.{places-accepted}
use Rattle.demands.specs.StoppingAndGoingOn.{Start, said, says_out, OneRun, Stopped, StopsRight, StoppingAndGoingOn}
use Rattle.demands.specs.StoppingAndGoingOn.Start.{anew, from}

-- ---- what is said, in parts

abbrev is_report : Said → Bool
is_report (refusal number place cells) = false
is_report (reports r used) = true

abbrev report_in : Said → Report
report_in (refusal number place cells) = no_end
report_in (reports r used) = r

abbrev used_in : Said → ℕ
used_in (refusal number place cells) = 0
used_in (reports r used) = used

report-passed : (v : Verdict) (cells : List ℕ) (z : Said) → is_report (said_by v cells z) ≡ true → v ≡ Passes
report-passed Passes cells z e = refl
report-passed (Refused number place) cells z e = absurd (false≢true e)

-- a run that did not end out of steps does not go on
stays : (ps : List ℕ) (t : List ℕ) (y used : ℕ) (r : Report) → says_out (reports r used) ≡ false → go_on ps (table_of t) y r ≡ r
stays ps t y used (ended e k s left) h = rw h
stays ps t y used no_end h = refl

module _ (m : MachineKind) (ps t : List ℕ) where
  abbrev places : List ℕ
  places = places_in m ps

  -- what is checked, the state that runs, and the cells of a refusal
  abbrev verdict_of : Start → Verdict
  verdict_of (anew cells) = run_checks m places t (length cells)
  verdict_of (from s) = and_then (run_checks m places t (length s.cells)) (record_check m places (table_of t) s)

  abbrev state_at : Start → State
  state_at (anew cells) = fresh places m (table_of t)
  state_at (from s) = s

  abbrev cells_at : Start → List ℕ
  cells_at (anew cells) = cells
  cells_at (from s) = s.cells

  abbrev run_of : Start → List ℕ → ℕ → Report
  run_of start l limit = run places (table_of t) limit 0 (state_at start) l

  said-is : (start : Start) (l : List ℕ) (limit : ℕ)
      → said m ps t start l limit ≡ said_by (verdict_of start) (cells_at start) (ran_said l (run_of start l limit))
  unfolding fresh_said continued_said
  said-is (anew cells) l limit = refl
  said-is (from s) l limit = refl

  -- where it is not refused
  said-passed : (start : Start) (l : List ℕ) (limit : ℕ) → verdict_of start ≡ Passes → said m ps t start l limit ≡ ran_said l (run_of start l limit)
  said-passed start l limit e = said-is start l limit ∙ ap (λ (v : Verdict). said_by v (cells_at start) (ran_said l (run_of start l limit))) e

  -- ---- ended otherwise

  others : (start : Start) (l : List ℕ) (x : ℕ) → says_out (said m ps t start l x) ≡ false → (y : ℕ) → said m ps t start l (x + y) ≡ said m ps t start l x
  others start l x h y =
      said-is start l (x + y) ∙ go (verdict_of start) (subst (λ (z : Said). says_out z ≡ false) (said-is start l x) h) ∙ sym (said-is start l x)
    where
      go : (v : Verdict) → says_out (said_by v (cells_at start) (ran_said l (run_of start l x))) ≡ false
          → said_by v (cells_at start) (ran_said l (run_of start l (x + y))) ≡ said_by v (cells_at start) (ran_said l (run_of start l x))
      go Passes k =
          ap (ran_said l)
          (parts-are-one-run places (table_of t) x y (state_at start) l ∙ stays places t y (choices_used l (run_of start l x)) (run_of start l x) k)
      go (Refused number place) k = refl

  -- ---- a run that is not refused

  -- what its checks give
  record Begun (s : State) : Type 0 where
    accepted : Accepted m (table_of t)
    can : CanBe m places (table_of t) s
    checks : run_checks m places t (length s.cells) ≡ Passes

  fits : (s : State) → record_check m places (table_of t) s ≡ Passes → record_fits m places (table_of t) s ≡ true
  fits s e = go (record_fits m places (table_of t) s) e
    where
      go : (b : Bool) → (if b then Passes else Refused 15 0) ≡ Passes → b ≡ true
      go true e = refl
      go false e = absurd (let z : ◌≡◌ {A = ℕ} 0 1 = cc in omega arith)

  fresh_cells : length (fresh places m (table_of t)).cells ≡ cell_count m
  unfolding fresh
  fresh_cells = length-replicate (cell_count m) 0

  begun : (start : Start) → verdict_of start ≡ Passes → Begun (state_at start)
  begun (anew cells) e =
      let P = parts m places t (length cells) e in
      let A = accepted m t (passing m t P.table) in
      record {
        accepted = A;
        can = record { can = fresh-can places m (table_of t); regular = fresh-regular places m (table_of t) A };
        checks = subst (λ (n : ℕ). run_checks m places t n ≡ Passes) (P.sized ∙ sym fresh_cells) e;
      }
  begun (from s) e =
      let both = both-pass (run_checks m places t (length s.cells)) (record_check m places (table_of t) s) e in
      record {
        accepted = accepted m t (passing m t (parts m places t (length s.cells) both.0).table);
        can = fits-can m places (table_of t) s (fits s both.1);
        checks = both.0;
      }

  accepted-places : (size : ℕ) → run_checks m places t size ≡ Passes → accepted_places places ≡ true
  unfolding run_checks accepted_places
  accepted-places size e =
      let later = (both-pass (table_check m t) (and_then (places_for m places) (size_check size (cell_count m))) e).1 in
      by m ps (both-pass (places_for m places) (size_check size (cell_count m)) later).0
    where
      by : (m : MachineKind) (ps : List ℕ) → places_for m (places_in m ps) ≡ Passes → accepted_places (places_in m ps) ≡ true
      by plain ps e = refl
      by reduced ps e = places-accepted ps e

  -- ---- out of steps

  module _ (start : Start) (l : List ℕ) (nl : Numbers l) (x steps : ℕ) (s : State) (left : List ℕ) (used : ℕ)
      (e : said m ps t start l x ≡ reports (ended out_of_steps steps s left) used) where
    passed : verdict_of start ≡ Passes
    passed = report-passed (verdict_of start) (cells_at start) (ran_said l (run_of start l x)) (ap is_report (sym (said-is start l x) ∙ e))

    B : Begun (state_at start)
    B = begun start passed

    spoke : ran_said l (run_of start l x) ≡ reports (ended out_of_steps steps s left) used
    spoke = sym (said-passed start l x passed) ∙ e

    ran : run_of start l x ≡ ended out_of_steps steps s left
    ran = ap report_in spoke

    ends : Ends places m (table_of t) l (ended out_of_steps steps s left)
    ends = subst (Ends places m (table_of t) l) ran (never_stuck places m (table_of t) B.accepted (state_at start) B.can.can x l)

    regular : EndsRegular places m (table_of t) (ended out_of_steps steps s left)
    regular =
        subst (EndsRegular places m (table_of t)) ran
        (stays-regular places m (table_of t) B.accepted (state_at start) B.can.can B.can.regular x l nl)

    sized : length s.cells ≡ length (state_at start).cells
    sized = subst (HasCells places (table_of t) (length (state_at start).cells)) ran (cells_stay places (table_of t) x 0 (state_at start) l)

    -- the record and the cells handed back are not refused
    passes-again : verdict_of (from s) ≡ Passes
    passes-again =
        let checks : run_checks m places t (length s.cells) ≡ Passes = subst (λ (n : ℕ). run_checks m places t n ≡ Passes) (sym sized) B.checks in
        rw (checks, can-fits m places (accepted-places (length s.cells) checks) (table_of t) s (record { can = ends.1; regular = regular }))

    counted : used ≡ used_of l left
    counted = sym (ap used_in spoke) ∙ ap (λ (r : Report). used_in (ran_said l r)) ran

    -- the choices left
    taken : Leaves m l left
    taken = ends.2

    used-taken : used ≡ length taken.taken
    used-taken = counted ∙ taken.used

    rest : left ≡ drop used l
    rest = sym (ap (λ (n : ℕ). drop n l) used-taken ∙ ap (drop (length taken.taken)) taken.split ∙ drop-append_seam taken.taken left)

    all : steps ≡ x
    all = took-all places (table_of t) x steps (state_at start) s l left ran

    -- the run that goes on, and the whole one
    on-is : (y : ℕ) → said m ps t (from s) (drop used l) y ≡ ran_said (drop used l) (run places (table_of t) y 0 s (drop used l))
    on-is y = said-passed (from s) (drop used l) y passes-again

    whole-is : (y : ℕ) → run_of start l (x + y) ≡ counted_from x (run places (table_of t) y 0 s (drop used l))
    whole-is y =
        parts-are-one-run places (table_of t) x y (state_at start) l ∙ ap (go_on places (table_of t) y) ran
        ∙ ap (λ (n : ℕ). counted_from n (run places (table_of t) y 0 s left)) all
        ∙ ap (λ (ds : List ℕ). counted_from x (run places (table_of t) y 0 s ds)) rest

    goes-on : (y : ℕ) → OneRun x used (said m ps t (from s) (drop used l) y) (said m ps t start l (x + y))
    goes-on y =
        go (run places (table_of t) y 0 s (drop used l)) refl (never_stuck places m (table_of t) B.accepted s ends.1 y (drop used l))
      where
        go : (r : Report) → run places (table_of t) y 0 s (drop used l) ≡ r → Ends places m (table_of t) (drop used l) r
            → OneRun x used (said m ps t (from s) (drop used l) y) (said m ps t start l (x + y))
        go (ended end more last later) f h =
            let more-used = used_of (drop used l) later in
            let added : used_of l later ≡ used + more-used = omega (
              arith,
              used-taken,
              ap (length {A = ℕ}) taken.split ∙ length-append taken.taken left,
              ap (length {A = ℕ}) rest,
              ap (length {A = ℕ}) h.2.split ∙ length-append h.2.taken later,
            ) in
            record {
              end = end;
              more = more;
              last = last;
              left = later;
              used_more = more-used;
              went_on_is = on-is y ∙ ap (ran_said (drop used l)) f;
              whole_is = said-passed start l (x + y) passed ∙ ap (ran_said l) (whole-is y ∙ ap (counted_from x) f)
                  ∙ ap (reports (ended end (x + more) last later)) added;
            }
        go no_end f h = absurd h

    stays-there : run places (table_of t) 0 0 s (drop used l) ≡ ended out_of_steps 0 s (drop used l)
    stays-there =
        subst (λ (ds : List ℕ). run places (table_of t) 0 0 s ds ≡ ended out_of_steps 0 s ds) rest
        (for-none places (table_of t) x steps (state_at start) s l left ran)

    on-for-none : said m ps t (from s) (drop used l) 0 ≡ reports (ended out_of_steps 0 s (drop used l)) 0
    on-for-none =
        on-is 0 ∙ ap (ran_said (drop used l)) stays-there
        ∙ ap (reports (ended out_of_steps 0 s (drop used l))) (let z : used_of (drop used l) (drop used l) ≡ 0 = omega arith in z)

    stopped : Stopped m ps t start l x steps s left used
    stopped = record {
      all = all;
      rest = rest;
      goes_on = goes-on;
      for_none = on-for-none;
    }

pub stopping-and-going-on : StoppingAndGoingOn
stopping-and-going-on = record {
  stops = λ m ps t start l nl x. record {
    stopped = λ steps s left used e. stopped m ps t start l nl x steps s left used e;
    others = others m ps t start l x;
  };
  turns = turns-are-one-run;
}
