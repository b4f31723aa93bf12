-- The line of a run is its report's: every run here passes its own checks.
-- Assumes nothing.
use mathlib.Core.Path.{◌≡◌, refl, sym, ap, ◌∙◌}
use Prim.Native.Nat.{ℕ}
use native.Mathlib.Omega.{arith as numbers}
use mathlib.Core.Bool.{true, false}
use mathlib.Core.List.{List, []}
use lib.ListN.{length}
use borrow.Author.Tests.{eq-eqb}
use Rattle.machine.specs.View.{end_of}
use Rattle.runs.specs.Ends.{report_of}
use Rattle.table.specs.Verdict.{verdict_of}
use Rattle.table.specs.Verdict.Verdict.{Passes}
use Rattle.table.specs.Checks.{table_check}
use Rattle.table.proofs.Passing.{passing, passes}
use Rattle.table.proofs.ReducedPasses.{passing-reduced}
use Rattle.model.specs.Class.{pair}
use Rattle.model.specs.State.{cell_count}
use Rattle.model.specs.State.MachineKind.{plain, reduced}
use Rattle.model.specs.Step.{Report}
use Rattle.model.specs.Reduce.{reduce}
use Rattle.model.specs.Demand3.{choices_used, plain_run, reduced_run}
use Rattle.reduction.specs.Reduction.{places_check, reduce_answer, reduce_buffer}
use Rattle.prepared.specs.declared.Frame.{Frame}
use Rattle.std.specs.Prelude.{Result, Ok, Err, IsOk}
use Rattle.table.specs.declared.verdict.Refusal.{Refusal}
use Rattle.runs.specs.declared.Ran.{Ran}
use Rattle.runs.specs.Checks.{frame_of, run_checks}
use Rattle.runs.specs.Answers.{said_of, ran_said, fresh_said}
use Rattle.runs.specs.Answers.Said.{reports}
use Rattle.pair.specs.declared.Line.{Line}
use Rattle.pair.specs.Pairs.{line_from, line_of, line_said}
use Rattle.pair.specs.Pairs.LineSaid.{line}

-- what a run that reports said
reported : (got report : Report) (n m : ℕ) → reports got n ≡ reports report m → (got ≡ report) × (n ≡ m)
reported got report n m e = (cc, cc)

-- a run that reports was not refused
reports-ok : (t l cells : List ℕ) (f : Frame) (a : Result Ran Refusal) (report : Report) → said_of t f l a cells ≡ ran_said l report → IsOk a
reports-ok t l cells f (Ok ran) report e = refl
reports-ok t l cells f (Err r) report e = absurd (let z : ◌≡◌ {A = ℕ} 0 1 = cc in omega numbers)

-- an answer that passes is no refusal
passes-ok : (a : Result (Unit {0}) Refusal) → verdict_of a ≡ Passes → IsOk a
passes-ok (Ok done) e = refl
passes-ok (Err r) e = absurd (let z : ◌≡◌ {A = ℕ} 0 1 = cc in omega numbers)

-- a report has its line
line-said : (t l cells : List ℕ) (f : Frame) (ran : Ran) (report : Report) (r : Line) → r ≡ line_from ran → said_of t f l (Ok ran) cells ≡ ran_said l report
    → line_of r ≡ line_said l report
line-said t l cells f ran report r h e =
    let got : Report = report_of t f l ran cells in
    let said = reported got report ran.used (choices_used l report) e in
    ap line_of h
    ∙ ap (line (end_of ran.end) ran.«record».machine.row ran.steps) (said.1 ∙ ap (choices_used l) (sym said.0))
    ∙ ap (line_said l) said.0

-- the plain run, in cells of the stated size
plain_runs : (t cells : List ℕ) (limit : ℕ) → table_check plain t ≡ Passes → length cells ≡ 4096
    → fresh_said plain [] t cells [] limit ≡ ran_said [] (plain_run t limit)
unfolding fresh_said run_checks
plain_runs t cells limit p n = rw (p, eq-eqb (length cells) 4096 n)

module _ (t cells cells' : List ℕ) (limit : ℕ) (a : Result Ran Refusal) (p : table_check plain t ≡ Passes) (n : length cells ≡ 4096)
    (e : said_of t (frame_of t false 0 0) [] a cells' ≡ fresh_said plain [] t cells [] limit) where
  said : said_of t (frame_of t false 0 0) [] a cells' ≡ ran_said [] (plain_run t limit)
  said = e ∙ plain_runs t cells limit p n

  pub plain-ok : IsOk a
  plain-ok = reports-ok t [] cells' (frame_of t false 0 0) a (plain_run t limit) said

  pub plain-said : (ran : Ran) (r : Line) → a ≡ Ok ran → r ≡ line_from ran → line_of r ≡ line_said [] (plain_run t limit)
  plain-said ran r q h = line-said t [] cells' (frame_of t false 0 0) ran (plain_run t limit) r h (rw q at said)

-- the reduction of a table that passes
reduces : (w : List ℕ) (c1 c2 : ℕ) (lent : List ℕ) → table_check plain w ≡ Passes → places_check (pair c1 c2) ≡ Passes → length lent ≡ length w
    → reduce_buffer w (pair c1 c2) lent ≡ reduce w
unfolding reduce_answer reduce_buffer
reduces w c1 c2 lent p q n = rw (p, q, eq-eqb (length lent) (length w) n)

-- and it passes
reduction-passes : (w : List ℕ) → table_check plain w ≡ Passes → table_check reduced (reduce w) ≡ Passes
reduction-passes w p = passes reduced (reduce w) (passing-reduced w (passing plain w p))

-- the reduced run, in cells of the stated size
reduced-runs : (Q cells l : List ℕ) (c1 c2 limit : ℕ) → table_check reduced Q ≡ Passes → places_check (pair c1 c2) ≡ Passes → length cells ≡ cell_count reduced
    → fresh_said reduced (pair c1 c2) Q cells l limit ≡ ran_said l (reduced_run (pair c1 c2) Q limit l)
unfolding fresh_said run_checks
reduced-runs Q cells l c1 c2 limit p q n = rw (p, q, eq-eqb (length cells) (cell_count reduced) n)

-- the reduction is not refused
pub reduce-ok : (w : List ℕ) (c1 c2 : ℕ) (lent : List ℕ) (a : Result (Unit {0}) Refusal) → table_check plain w ≡ Passes → places_check (pair c1 c2) ≡ Passes
    → length lent ≡ length w → verdict_of a ≡ reduce_answer w (pair c1 c2) (length lent) → IsOk a
unfolding reduce_answer
reduce-ok w c1 c2 lent a p q n e = passes-ok a (e ∙ rw (p, q, eq-eqb (length lent) (length w) n))

module _ (w lent Q cells cells' l : List ℕ) (c1 c2 limit : ℕ) (a : Result Ran Refusal) (p : table_check plain w ≡ Passes)
    (q : places_check (pair c1 c2) ≡ Passes) (s : length lent ≡ length w) (b : Q ≡ reduce_buffer w (pair c1 c2) lent)
    (n : length cells ≡ cell_count reduced) (e : said_of Q (frame_of Q true c1 c2) l a cells' ≡ fresh_said reduced (pair c1 c2) Q cells l limit) where
  made : Q ≡ reduce w
  made = b ∙ reduces w c1 c2 lent p q s

  right : table_check reduced Q ≡ Passes
  right = ap (table_check reduced) made ∙ reduction-passes w p

  ran-said : said_of Q (frame_of Q true c1 c2) l a cells' ≡ ran_said l (reduced_run (pair c1 c2) Q limit l)
  ran-said = e ∙ reduced-runs Q cells l c1 c2 limit right q n

  pub reduced-ok : IsOk a
  reduced-ok = reports-ok Q l cells' (frame_of Q true c1 c2) a (reduced_run (pair c1 c2) Q limit l) ran-said

  pub reduced-said : (ran : Ran) (r : Line) → a ≡ Ok ran → r ≡ line_from ran → line_of r ≡ line_said l (reduced_run (pair c1 c2) (reduce w) limit l)
  reduced-said ran r k h =
      line-said Q l cells' (frame_of Q true c1 c2) ran (reduced_run (pair c1 c2) Q limit l) r h (rw k at ran-said)
      ∙ ap (λ (Q : List ℕ). line_said l (reduced_run (pair c1 c2) Q limit l)) made
