-- Demand 3 of the public definitions, from the model's.
-- Assumes nothing.
use mathlib.Core.Logic.{◌≢◌}
use mathlib.Core.Path.{◌≡◌, refl, ap, ◌∙◌}
use Prim.Native.Nat.{ℕ}
use native.Mathlib.Omega.{arith as numbers}
use mathlib.Core.Bool.{Bool, true, false}
use mathlib.Core.List.{List, [], ◌++◌, append-nil}
use lib.ListN.{length, drop}
use borrow.Author.Tests.{eq-eqb, ne_eqb}
use Rattle.std.specs.Prelude.{if◌then◌else◌}
use Rattle.table.specs.Verdict.Verdict.{Passes, Refused}
use Rattle.table.specs.Checks.{table_check}
use Rattle.table.proofs.Passing.{passing, node-depth}
use Rattle.table.proofs.PromiseProofs.{reduction-passes, passing-demand-3}
use Rattle.model.specs.Class.{accepted_places}
use Rattle.model.specs.Table.{table_of}
use Rattle.model.specs.State.{cell_count, fresh}
use Rattle.model.specs.State.MachineKind.{plain, reduced}
use Rattle.model.specs.Step.{Report}
use Rattle.model.specs.Step.Report.{ended, no_end}
use Rattle.model.specs.Reduce.{reduce}
use Rattle.model.specs.Writer.{with_numbers}
use Rattle.model.specs.Demand3.{Demand3 as ModelDemand3, Matched, Ends, choices_used, plain_run, reduced_run, writer_run, choice_list}
use Rattle.model.proofs.Safe.{leaves-plain}
use Rattle.reduction.specs.Reduction.{places_check, reduce_answer, reduce_buffer}
use Rattle.runs.specs.Checks.{run_checks}
use Rattle.runs.specs.Answers.{ran_said, fresh_said}
use Rattle.runs.specs.Answers.Said.{reports}
use Rattle.runs.proofs.RunPromises.{fresh-ends, continued-ends}
use Rattle.choices.specs.Checks.{writer_checks}
use Rattle.choices.specs.Answers.{wrote_said, writer_said}
use Rattle.choices.specs.Answers.Said.{refusal, writes}
use Rattle.choices.specs.Demand3.{Demand3Holds, SayMatched}
use Rattle.choices.proofs.BoundLaws.{written-most}

pub places-accepted : (ps : List ℕ) → places_check ps ≡ Passes → accepted_places ps ≡ true
places-accepted ps e = go (accepted_places ps) refl e
  where
    go : (b : Bool) → accepted_places ps ≡ b → (if b then Passes else Refused 13 0) ≡ Passes → accepted_places ps ≡ true
    go true u h = u
    go false u h = absurd (let z : ◌≡◌ {A = ℕ} 0 1 = cc in omega numbers)

-- the plain machine tracks no place, and no place is accepted
none-accepted : accepted_places [] ≡ true
unfolding accepted_places
none-accepted = refl

-- a report of the plain machine has no choices left, of none
none_left : (P : List ℕ) (report : Report) → Ends [] plain (table_of P) [] report → (xs : List ℕ) (lent : List ℕ)
    → wrote_said lent (with_numbers xs report) ≡ writes (with_numbers xs report) (length xs) (xs ++ drop (length xs) lent)
none_left P (ended e n s left) h xs lent =
    ap (λ (l : List ℕ). writes (ended e n s (xs ++ left)) (length l) (l ++ drop (length l) lent))
    (ap (λ (l : List ℕ). xs ++ l) (leaves-plain h.2) ∙ append-nil xs)
none_left P no_end h xs lent = absurd h

module _ (ps : List ℕ) (ok : places_check ps ≡ Passes) (P : List ℕ) (p : table_check plain P ≡ Passes) where
  model : ModelDemand3 ps P
  model = passing-demand-3 ps (places-accepted ps ok) P p

  plain-checks : (cells : List ℕ) → length cells ≡ cell_count plain → run_checks plain [] P (length cells) ≡ Passes
  unfolding run_checks
  plain-checks cells n = rw (p, eq-eqb (length cells) (cell_count plain) n)

  reduced-checks : (cells : List ℕ) → length cells ≡ cell_count reduced → run_checks reduced ps (reduce P) (length cells) ≡ Passes
  unfolding run_checks
  reduced-checks cells n = rw (reduction-passes P p, ok, eq-eqb (length cells) (cell_count reduced) n)

  writer-checks : (cells : List ℕ) → length cells ≡ cell_count plain → writer_checks ps P (length cells) ≡ Passes
  unfolding writer_checks
  writer-checks cells n = rw (p, ok, eq-eqb (length cells) (cell_count plain) n)

  plain-says : (cells : List ℕ) (limit : ℕ) → length cells ≡ cell_count plain → fresh_said plain [] P cells [] limit ≡ ran_said [] (plain_run P limit)
  unfolding fresh_said
  plain-says cells limit n = rw (plain-checks cells n)

  reduced-says : (cells choices : List ℕ) (limit : ℕ) → length cells ≡ cell_count reduced
      → fresh_said reduced ps (reduce P) cells choices limit ≡ ran_said choices (reduced_run ps (reduce P) limit choices)
  unfolding fresh_said
  reduced-says cells choices limit n = rw (reduced-checks cells n)

  writer-says : (cells lent : List ℕ) (limit : ℕ) → length cells ≡ cell_count plain
      → writer_said ps P cells lent limit ≡ wrote_said lent (writer_run ps P limit (length lent))
  unfolding writer_said
  writer-says cells lent limit n = rw (writer-checks cells n)

  -- 14
  writer-refuses : (cells lent : List ℕ) (limit : ℕ) → length cells ≢ cell_count plain → writer_said ps P cells lent limit ≡ refusal 14 0 cells lent
  unfolding writer_said writer_checks
  writer-refuses cells lent limit h = rw (p, ok, ne_eqb (length cells) (cell_count plain) h)

  say-matched : (limit : ℕ) (cells reduced_cells list : List ℕ) → length cells ≡ cell_count plain → length reduced_cells ≡ cell_count reduced
      → Matched ps P list (plain_run P limit) (reduced_run ps (reduce P) limit list)
      → SayMatched ps P list (fresh_said plain [] P cells [] limit) (fresh_said reduced ps (reduce P) reduced_cells list limit)
  say-matched limit cells reduced_cells list n k M = record {
    plain_report = plain_run P limit;
    reduced_report = reduced_run ps (reduce P) limit list;
    plain_is = plain-says cells limit n ∙ ap (reports (plain_run P limit)) (ap (choices_used []) M.plain_is);
    reduced_is = reduced-says reduced_cells list limit k ∙ ap (reports (reduced_run ps (reduce P) limit list)) M.all_used;
    matched = M;
  }

  pub reduction-is : (lent : List ℕ) → length lent ≡ length P → (reduce_answer P ps (length lent) ≡ Passes) × (reduce_buffer P ps lent ≡ reduce P)
  unfolding reduce_answer reduce_buffer
  reduction-is lent n = (rw (p, ok, eq-eqb (length lent) (length P) n), rw (p, ok, eq-eqb (length lent) (length P) n))

pub demand-3 : Demand3Holds
demand-3 ps ok P p =
    let M = model ps ok P p in
    record {
      reduces = reduction-is ps ok P p;
      passes = reduction-passes P p;
      plain_fresh = λ cells limit. fresh-ends plain [] none-accepted P p cells [] tt limit;
      reduced_fresh = λ cells choices n limit. fresh-ends reduced ps (places-accepted ps ok) (reduce P) (reduction-passes P p) cells choices n limit;
      plain_continued = λ s limit. continued-ends plain [] none-accepted P p s [] tt limit;
      reduced_continued = λ s choices n limit. continued-ends reduced ps (places-accepted ps ok) (reduce P) (reduction-passes P p) s choices n limit;
      matched = λ limit cells reduced_cells n k w. say-matched ps ok P p limit cells reduced_cells (choice_list ps P limit) n k (M.matched limit w);
      numbers = M.numbers;
      other_size = λ limit cells lent h. writer-refuses ps ok P p cells lent limit h;
      counted = λ limit h.
          let z = written-most ps (table_of P) (node-depth plain P (passing plain P p)) limit [] (fresh [] plain (table_of P)) in
          omega (numbers, h, z);
      fits = λ limit cells lent n h.
          writer-says ps ok P p cells lent limit n ∙ ap (wrote_said lent) (M.fits limit (length lent) h)
          ∙ none_left P (plain_run P limit) (M.plain_ends (fresh [] plain (table_of P)) M.plain_fresh limit []) (choice_list ps P limit) lent;
      full = λ limit cells lent n h. record {
        report = writer_run ps P limit (length lent);
        says = writer-says ps ok P p cells lent limit n;
        full = M.full limit (length lent) h;
      };
    }
