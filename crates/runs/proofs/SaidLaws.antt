-- What a run says: by the verdict of its checks, and by what the loop of the run hands back.
-- Assumes nothing.
use mathlib.Core.Path.{◌≡◌, sym, ap, ◌∙◌, subst}
use Prim.Native.Nat.{ℕ, ◌≤◌}
use native.Mathlib.Omega.{arith as numbers}
use mathlib.Core.Bool.{Bool, true, false}
use mathlib.Core.List.{List}
use lib.ListN.{length, length-drop}
use Rattle.runs.specs.Ends.{report_of}
use Rattle.std.specs.Prelude.{Result, Ok, Err}
use Rattle.table.specs.declared.verdict.Refusal.{Refusal}
use Rattle.table.specs.Verdict.{refused_as}
use Rattle.table.specs.Verdict.Verdict.{Passes, Refused}
use Rattle.kinds.specs.Kinds.{machine_of}
use Rattle.model.specs.Table.{table_of}
use Rattle.model.specs.Class.{pair}
use Rattle.model.specs.State.{fresh, places_in}
use Rattle.model.specs.Step.{Report, run}
use Rattle.model.specs.Demand3.{choices_used}
use Rattle.machine.specs.declared.Record.{Record}
use Rattle.prepared.specs.declared.Frame.{Frame}
use Rattle.prepared.specs.View.{places, kind_of, table_for}
use Rattle.machine.specs.View.{state_of}
use Rattle.runs.specs.declared.Ran.{Ran}
use Rattle.records.specs.Record.{record_fits}
use Rattle.runs.specs.CodeSteps.{Reports}
use Rattle.runs.specs.Checks.{frame_of, run_checks}
use Rattle.runs.specs.Answers.{said_by, said_of, ran_said, fresh_said, continued_said}
use Rattle.runs.specs.Answers.Said.{reports}

-- a report with its choices used
used-is : (t : List ℕ) (f : Frame) (l : List ℕ) (r : Ran) (cells : List ℕ) → r.used ≤ length l → r.used ≡ choices_used l (report_of t f l r cells)
used-is t f l r cells h = omega (numbers, h, length-drop r.used l)

reported : (t : List ℕ) (f : Frame) (l : List ℕ) (r : Ran) (cells : List ℕ) (report : Report) → Reports t f l r cells report
    → reports (report_of t f l r cells) r.used ≡ ran_said l report
reported t f l r cells report R =
    ap (reports (report_of t f l r cells)) (used-is t f l r cells R.within) ∙ ap (ran_said l) R.report

module _ (t : List ℕ) (classes : Bool) (c1 c2 : ℕ) (l cells : List ℕ) (limit : ℕ) where
  abbrev fr : Frame
  fr = frame_of t classes c1 c2

  abbrev ps : List ℕ
  ps = places_in (machine_of classes) (pair c1 c2)

  module _ (e : Refusal) (q : refused_as e ≡ run_checks (machine_of classes) ps t (length cells)) where
    pub fresh-refused : said_of t fr l (Err e) cells ≡ fresh_said (machine_of classes) ps t cells l limit
    unfolding fresh_said
    fresh-refused = rw (← q)

    pub continued-refused : (m : Record) → said_of t fr l (Err e) cells ≡ continued_said (machine_of classes) ps t (state_of t fr m cells) l limit
    unfolding continued_said
    continued-refused m = rw (← q)

  module _ (q : Passes ≡ run_checks (machine_of classes) ps t (length cells)) (f : Frame) (i : f ≡ fr) where
    module _ (r : Ran) (cells' : List ℕ) where
      passes : said_of t fr l (Ok r) cells' ≡ reports (report_of t f l r cells') r.used
      passes = rw i

      pub fresh-ran : Reports t f l r cells' (run (places f) (table_of t) limit 0 (fresh (places f) (kind_of f) (table_of t)) l)
          → said_of t fr l (Ok r) cells' ≡ fresh_said (machine_of classes) ps t cells l limit
      unfolding fresh_said places
      fresh-ran R = passes ∙ reported t f l r cells' _ R ∙ rw (i, ← q)

      pub continued-ran : (m : Record) → record_fits (kind_of f) (places f) (table_for t f) (state_of t f m cells) ≡ true
          → Reports t f l r cells' (run (places f) (table_for t f) limit 0 (state_of t f m cells) l)
          → said_of t fr l (Ok r) cells' ≡ continued_said (machine_of classes) ps t (state_of t fr m cells) l limit
      unfolding continued_said places table_of
      continued-ran m fits R = passes ∙ reported t f l r cells' _ R ∙ subst goal (sym i) same fits
        where
          goal : Frame → Type 0
          goal g =
              record_fits (kind_of g) (places g) (table_for t g) (state_of t g m cells) ≡ true
              → ran_said l (run (places g) (table_for t g) limit 0 (state_of t g m cells) l) ≡ continued_said (machine_of classes) ps t
              (state_of t fr m cells) l limit

          same : goal fr
          same fits = rw (← q, fits)

    pub continued-broken : (m : Record) → record_fits (kind_of f) (places f) (table_for t f) (state_of t f m cells) ≡ false
        → (e : Refusal) → refused_as e ≡ Refused 15 0
        → said_of t fr l (Err e) cells ≡ continued_said (machine_of classes) ps t (state_of t fr m cells) l limit
    unfolding continued_said places table_of
    continued-broken m broken e w =
        let broken' : record_fits (machine_of classes) ps (table_for t fr) (state_of t fr m cells) ≡ false
        = subst (λ (g : Frame). record_fits (kind_of g) (places g) (table_for t g) (state_of t g m cells) ≡ false) i broken in
        ap (λ v. said_by v cells (ran_said l (run ps (table_of t) limit 0 (state_of t fr m cells) l))) w ∙ rw (← q, broken')
