-- What the choice writer's answer gives to the pair: the verdict of its checks, and the numbers that it wrote.
-- Assumes nothing.
use mathlib.Core.Path.{◌≡◌, refl, sym, ap, ◌∙◌}
use mathlib.Core.Logic.{◌≢◌}
use native.Mathlib.Decide.{dec_le}
use Prim.Native.Nat.{ℕ, ◌-◌, ◌≤◌}
use native.Mathlib.Omega.{arith as numbers}
use mathlib.Core.Bool.{Bool, true, false, false≢true}
use mathlib.Core.List.{List, [], ◌∷◌, ◌++◌}
use lib.ListN.{length, take, drop, length-append}
use lib.Seq.{take_at}
use borrow.Author.Tests.{eq-eqb}
use Rattle.choices.specs.Ends.{report_of}
use Rattle.std.specs.Prelude.{Ok, Err}
use Rattle.table.specs.declared.verdict.Refusal.{Refusal}
use Rattle.table.specs.Verdict.{Verdict, check_number, refused_as}
use Rattle.table.specs.Verdict.Verdict.{Passes, Refused}
use Rattle.table.specs.Checks.{table_check, and_then}
use Rattle.table.proofs.Passing.{passing, accepted, both-pass}
use Rattle.model.specs.Class.{pair}
use Rattle.model.specs.State.MachineKind.{plain}
use Rattle.model.specs.State.{State}
use Rattle.model.specs.Step.{End, Report}
use Rattle.model.specs.Step.End.{done, assert_false, assume_false, failed, want_of_cells, out_of_steps, choice_not_allowed, no_choice_left, list_full, too_deep}
use Rattle.model.specs.Step.Report.{ended, no_end}
use Rattle.model.specs.Writer.{with_numbers}
use Rattle.model.specs.Reduce.{reduce}
use Rattle.model.specs.Demand3.{Demand3, choice_list, plain_run, reduced_run, writer_run}
use Rattle.model.proofs.Demand3Proof.{demand-3}
use types.Run.{OneOf, miss}
use denote.Enum.Declared.{tag_of}
use Rattle.machine.specs.View.{end_of, state_of}
use Rattle.evaluators.specs.Reasons.{reason_of}
use Rattle.machine.specs.declared.End.{End as CodeEnd}
use Rattle.machine.specs.declared.End.TheVariants.{Done, AssertFalse, AssumeFalse, Fail, WantOfCells, OutOfSteps}
use Rattle.machine.specs.declared.End.TheVariants.{ChoiceNotAllowed, NoChoiceLeft, ListFull, TooDeep}
use Rattle.machine.specs.contracts.End.{the_type as code-end}
use Rattle.choices.proofs.Demand3Proof.{places-accepted}
use Rattle.runs.specs.declared.Ran.{Ran}
use Rattle.reduction.specs.Reduction.{places_check}
use Rattle.runs.specs.Checks.{frame_of}
use Rattle.choices.specs.Checks.{writer_checks}
use Rattle.choices.specs.Answers as writer
use Rattle.choices.specs.Answers.Said.{writes}
use Rattle.pair.specs.declared.Line.{Line}
use Rattle.pair.specs.Pairs.{line_of, said_of, line_said, written_choices, lines_said, table_said}
use Rattle.pair.specs.Pairs.LineSaid.{line}
use Rattle.pair.specs.Pairs.PairSaid.{lines}
use Rattle.pair.specs.CodeLines.{PlainOf}

-- a last check that passes adds nothing
last-passes : (v w : Verdict) → and_then v (and_then w Passes) ≡ and_then v w
last-passes Passes Passes = refl
last-passes Passes (Refused number place) = refl
last-passes (Refused number place) w = refl

-- the writer's checks, in cells of the stated size
checks-are : (c1 c2 : ℕ) (t : List ℕ) (size : ℕ) → size ≡ 4096 → writer_checks (pair c1 c2) t size ≡ and_then (table_check plain t) (places_check (pair c1 c2))
unfolding writer_checks
checks-are c1 c2 t size n = rw (eq-eqb size 4096 n) (last-passes (table_check plain t) (places_check (pair c1 c2)))

-- what the writer wrote, having passed
wrote-is : (l l' : List ℕ) (got report : Report) (n : ℕ) → writes got n l ≡ writer.wrote_said l' report
    → (n ≡ length (writer.numbers_of report)) × (l ≡ writer.numbers_of report ++ drop (length (writer.numbers_of report)) l') × (got ≡ report)
wrote-is l l' got report n e = (cc, cc, cc)

-- what is said of a writer that was refused, or was not
refused-by : (v : Verdict) (e : Refusal) (cells cells' l l' m : List ℕ) (report : Report) (n : ℕ)
    → writer.Said.refusal (check_number e.check) e.place cells l ≡ writer.said_by v cells' l' (writes report n m) → v ≡ refused_as e
refused-by Passes e cells cells' l l' m report n h = absurd (let z : ◌≡◌ {A = ℕ} 0 1 = cc in omega numbers)
refused-by (Refused number place) e cells cells' l l' m report n h = cc

passed-by : (v : Verdict) (cells' l l' m : List ℕ) (got report : Report) (n k : ℕ)
    → writes got n l ≡ writer.said_by v cells' l' (writes report k m) → v ≡ Passes
passed-by Passes cells' l l' m got report n k h = refl
passed-by (Refused number place) cells' l l' m got report n k h = absurd (let z : ◌≡◌ {A = ℕ} 0 1 = cc in omega numbers)

-- a table and a pair that passed, and the numbers that the writer counted, which are the first of the list (rule 8.6)
pub record Passed (t : List ℕ) (c1 c2 limit : ℕ) (list : List ℕ) (ran : Ran) : Type 0 where
  pub table : table_check plain t ≡ Passes
  pub places : places_check (pair c1 c2) ≡ Passes
  pub fits : ran.used ≤ length list
  pub counted : take ran.used list ≡ written_choices (pair c1 c2) limit t
  pub wrote : (last : State) × (last.here.row ≡ ran.«record».machine.row)
      × (ended (end_of ran.end) ran.steps last (take ran.used list) ≡ writer_run (pair c1 c2) t limit 8192)

-- an answer of the writer, which was lent cells of the stated size and a list of 8,192 words
module _ (t : List ℕ) (c1 c2 limit : ℕ) (cells cells' lent list : List ℕ) (size : length cells ≡ 4096) where
  -- a refusal
  pub refused-said : (e : Refusal) → writer.said_of t (frame_of t false c1 c2) (Err e) cells' list ≡ writer.writer_said (pair c1 c2) t cells lent limit
      → said_of (Err e) ≡ table_said (pair c1 c2) limit t
  unfolding writer.writer_said table_said
  refused-said e h =
      let v = refused-by (writer_checks (pair c1 c2) t (length cells)) e cells' cells list lent _ _ _ h in
      rw (← checks-are c1 c2 t (length cells) size, v)

  module _ (ran : Ran) (e : writer.said_of t (frame_of t false c1 c2) (Ok ran) cells' list ≡ writer.writer_said (pair c1 c2) t cells lent limit)
      (room : length lent ≡ 8192) where
    abbrev written : List ℕ
    written = written_choices (pair c1 c2) limit t

    passes : writer_checks (pair c1 c2) t (length cells) ≡ Passes
    unfolding writer.writer_said
    passes = passed-by (writer_checks (pair c1 c2) t (length cells)) cells list lent _ _ _ _ _ e

    passes-said : writer.writer_said (pair c1 c2) t cells lent limit ≡ writer.wrote_said lent (writer_run (pair c1 c2) t limit 8192)
    unfolding writer.writer_said
    passes-said = rw (passes, room)

    wrote : (ran.used ≡ length written) × (list ≡ written ++ drop (length written) lent)
        × (report_of t (frame_of t false c1 c2) ran cells' list ≡ writer_run (pair c1 c2) t limit 8192)
    wrote = wrote-is list lent (report_of t (frame_of t false c1 c2) ran cells' list) (writer_run (pair c1 c2) t limit 8192) ran.used (e ∙ passes-said)

    pub passed : Passed t c1 c2 limit list ran
    passed =
        let both = both-pass (table_check plain t) (places_check (pair c1 c2)) (sym (checks-are c1 c2 t (length cells) size) ∙ passes) in
        record {
          table = both.0;
          places = both.1;
          fits = omega (numbers, wrote.0, ap length wrote.1, length-append written (drop (length written) lent));
          counted = ap (take ran.used) wrote.1 ∙ take_at written (drop (length written) lent) ran.used (sym wrote.0);
          wrote = (state_of t (frame_of t false c1 c2) ran.«record» cells', refl, wrote.2);
        }

-- ---- the plain run's line, from what the writer handed back
none-used : (n : ℕ) → 0 - n ≡ 0
none-used n = omega numbers

-- a report that is the plain run's, with numbers before its list
line-from : (e : End) (n : ℕ) (s : State) (l xs : List ℕ) (report : Report) → ended e n s l ≡ with_numbers xs report
    → line e s.here.row n 0 ≡ line_said [] report
line-from e n s l xs (ended e' n' s' l') q =
    let a : e ≡ e' = cc in
    let b : n ≡ n' = cc in
    let c : s ≡ s' = cc in
    ap (λ (e : End). line e s.here.row n 0) a
    ∙ ap (λ (s : State). line e' s.here.row n 0) c
    ∙ ap (λ (n : ℕ). line e' s'.here.row n 0) b
    ∙ ap (line e' s'.here.row n') (sym (none-used (length l')))
line-from e n s l xs no_end q = absurd (let z : ◌≡◌ {A = ℕ} 0 1 = cc in omega numbers)

-- an end is list full or it is not
abbrev is_full : End → Bool
is_full done = false
is_full assert_false = false
is_full assume_false = false
is_full (failed why) = false
is_full want_of_cells = false
is_full out_of_steps = false
is_full choice_not_allowed = false
is_full no_choice_left = false
is_full list_full = true
is_full too_deep = false

full_is : (e : End) → is_full e ≡ true → e ≡ list_full
full_is done h = absurd (false≢true h)
full_is assert_false h = absurd (false≢true h)
full_is assume_false h = absurd (false≢true h)
full_is (failed why) h = absurd (false≢true h)
full_is want_of_cells h = absurd (false≢true h)
full_is out_of_steps h = absurd (false≢true h)
full_is choice_not_allowed h = absurd (false≢true h)
full_is no_choice_left h = absurd (false≢true h)
full_is list_full h = refl
full_is too_deep h = absurd (false≢true h)

differs : (e : End) → is_full e ≡ false → e ≢ list_full
differs e h q = false≢true (sym h ∙ ap is_full q)

-- ... by the code's own end
module _ {t : List ℕ} {limit : ℕ} {ran : Ran} (r : Line) where
  pub line-full : ran.end ≡ ListFull → line_of r ≡ line_said [] (plain_run t limit) → PlainOf t limit ran r
  line-full e q = record { full = λ h. q; other = λ h. absurd (h (ap end_of e)) }

  pub line_other : OneOf (0 ∷ 1 ∷ 2 ∷ 3 ∷ 4 ∷ 5 ∷ 6 ∷ 7 ∷ 9 ∷ []) (tag_of code-end ran.end)
      → line_of r ≡ line (end_of ran.end) ran.«record».machine.row ran.steps 0 → PlainOf t limit ran r
  line_other h q = record { full = λ e. absurd (other ran.end h e); other = λ h. q }
    where
      other : (e : CodeEnd) → OneOf (0 ∷ 1 ∷ 2 ∷ 3 ∷ 4 ∷ 5 ∷ 6 ∷ 7 ∷ 9 ∷ []) (tag_of code-end e) → end_of e ≢ list_full
      other Done h e = differs done refl e
      other AssertFalse h e = differs assert_false refl e
      other AssumeFalse h e = differs assume_false refl e
      other (Fail why) h e = differs (failed (reason_of why)) refl e
      other WantOfCells h e = differs want_of_cells refl e
      other OutOfSteps h e = differs out_of_steps refl e
      other ChoiceNotAllowed h e = differs choice_not_allowed refl e
      other NoChoiceLeft h e = differs no_choice_left refl e
      other ListFull h e = miss (0 ∷ 1 ∷ 2 ∷ 3 ∷ 4 ∷ 5 ∷ 6 ∷ 7 ∷ 9 ∷ []) 8 tt h
      other TooDeep h e = differs too_deep refl e

module _ {t : List ℕ} {c1 c2 limit : ℕ} {list : List ℕ} {ran : Ran} (P : Passed t c1 c2 limit list ran) where
  abbrev ps : List ℕ
  ps = pair c1 c2

  demanded : Demand3 ps t
  demanded = demand-3 ps (places-accepted ps P.places) t (accepted plain t (passing plain t P.table))

  -- the writer's run is the plain one, unless its list was full
  writer-line : end_of ran.end ≢ list_full → line (end_of ran.end) ran.«record».machine.row ran.steps 0 ≡ line_said [] (plain_run t limit)
  writer-line h = elim (dec_le (length (choice_list ps t limit)) 8192) [
    | yes k ↦
        ap (λ (r : ℕ). line (end_of ran.end) r ran.steps 0) (sym P.wrote.1)
        ∙ line-from (end_of ran.end) ran.steps P.wrote.0 (take ran.used list) (choice_list ps t limit) (plain_run t limit)
        (P.wrote.2 ∙ demanded.fits limit 8192 k)
    | no k ↦
        let F = demanded.full limit 8192 (omega numbers) in
        let q : ended (end_of ran.end) ran.steps P.wrote.0 (take ran.used list) ≡ ended list_full F.steps F.last (choice_list ps t F.steps)
        = P.wrote.2 ∙ F.report_is in
        absurd (h (cc))
  ]

  pub plain_of : (r : Line) → PlainOf t limit ran r → line_of r ≡ line_said [] (plain_run t limit)
  plain_of r Q = go (is_full (end_of ran.end)) refl
    where
      go : (b : Bool) → is_full (end_of ran.end) ≡ b → line_of r ≡ line_said [] (plain_run t limit)
      go true h = Q.full (full_is (end_of ran.end) h)
      go false h = Q.other (differs (end_of ran.end) h) ∙ writer-line (differs (end_of ran.end) h)

-- the lines of the two runs, the reduced one under the numbers that the writer counted
pub lines-said : {t : List ℕ} {c1 c2 limit : ℕ} {list : List ℕ} {ran : Ran} → Passed t c1 c2 limit list ran
    → (first second : Line) → PlainOf t limit ran first
    → line_of second ≡ line_said (take ran.used list) (reduced_run (pair c1 c2) (reduce t) limit (take ran.used list))
    → lines (line_of first) (line_of second) ≡ table_said (pair c1 c2) limit t
unfolding table_said lines_said
lines-said P first second h k = rw (P.table, P.places) (rw (plain_of P first h, k, P.counted))
