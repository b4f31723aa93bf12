-- Demand 1: each answer by its checks, one after another; and each run by its steps.
-- Assumes nothing.
use mathlib.Core.Path.{◌≡◌, refl, sym, ap, ◌∙◌, subst}
use mathlib.Core.Logic.{inl, inr}
use Prim.Native.Nat.{ℕ, ◌+◌, ◌*◌, ◌<◌, ◌≤◌}
use native.Mathlib.Omega.{arith}
use native.Mathlib.Decide.{dec_le}
use mathlib.Core.Bool.{Bool, true, false}
use mathlib.Core.List.{List, [], ◌++◌}
use lib.ListN.{length, take, drop, replicate, length-replicate}
use lib.Dec.{eqb, ltb}
use Rattle.std.specs.Prelude.{if◌then◌else◌}
use Rattle.lists.specs.Tab.{padded}
use Rattle.lists.specs.First.{first}
use Rattle.std.specs.Prelude.{Option}
use Rattle.std.specs.Prelude.{Some, None}
use Rattle.lists.proofs.FirstLaws.{first_below}
use Rattle.lists.proofs.TabLaws.{length-tab, take-padded}
use Rattle.table.specs.Verdict.{Verdict}
use Rattle.table.specs.Verdict.Verdict.{Passes, Refused}
use Rattle.table.specs.Checks.{table_check, and_then, size_check}
use Rattle.table.proofs.Passing.{both-pass, size-passes}
use Rattle.table.proofs.PromiseProofs.{passes-accepted, reduction-passes}
use Rattle.reduction.specs.Reduction.{places_check, reduce_answer, reduced_or, reduce_buffer}
use Rattle.file.specs.Read.{Read}
use Rattle.file.specs.Read.Read.{Lines, Refused as NotRead}
use Rattle.file.specs.Word.{word_at}
use Rattle.file.specs.Layout.{file_bytes}
use Rattle.file.specs.Reading.{blocks, lines_in_all, wrong_length, wrong_check, wrong_block, refused_at_block}
use Rattle.file.specs.Reading.{read_answer, table_words, buffer_after, read_buffer}
use Rattle.file.specs.Writing.{write_check, written_as, write_answer, filled_as, write_buffer}
use Rattle.file.proofs.ReadingLaws.{accepted, lines-most}
use Rattle.file.proofs.LayoutLaws.{length-file}
use Rattle.file.proofs.RoundTrips.{passing-short}
use Rattle.model.specs.Table.{table_of}
use Rattle.model.specs.State.{MachineKind, State, fresh, cell_count}
use Rattle.model.specs.State.MachineKind.{plain, reduced}
use Rattle.model.specs.Step.{Report, run}
use Rattle.model.specs.Step.Report.{ended, no_end}
use Rattle.model.specs.Writer.{with_numbers}
use Rattle.model.specs.Class.{pair}
use Rattle.model.specs.Reduce.{reduce}
use Rattle.model.specs.Demand3.{plain_run, reduced_run, choice_list}
use Rattle.model.proofs.Demand3Proof.{fresh-can}
use Rattle.records.specs.Record.{record_fits}
use Rattle.runs.specs.Checks.{record_check}
use Rattle.runs.specs.Checks.{run_checks}
use Rattle.runs.specs.Answers.{said_by, ran_said, fresh_said, continued_said}
use Rattle.records.proofs.RecordLaws.{fits-can}
use Rattle.choices.specs.Checks.{writer_checks}
use Rattle.choices.specs.Answers.{wrote_said, writer_said}
use Rattle.choices.specs.Answers.Said.{writes}
use Rattle.pair.specs.Pairs.{said_by as pair_said_by, line_said, written_choices, lines_said, table_said, read_said, file_said, pair_said}
use Rattle.pair.specs.Pairs.PairSaid.{refusal as not_running}
use Rattle.choices.proofs.Demand3Proof.{demand-3}
use Rattle.demands.specs.Refusals.{Number, OneOf, file_numbers, table_numbers, pair_numbers, buffer_numbers, record_numbers}
use Rattle.demands.specs.Demand1.{lines_of, Checked, ReadRight, WriteRight, ReduceRight, RunRight, WriterRight, LineRight, PairRight, Demand1}
use Rattle.demands.proofs.RefusalLaws.{of-second, more-blocks, then-again, checked-then, table-checked, places-checked, size-checked, record-checked}
use Rattle.demands.proofs.StepLaws.{EndsWithin, ends-within}

-- ---- runs
module _ (numbers : List Number) (table cells choices : List ℕ) (limit : ℕ) where
  ran-right : (r : Report) → EndsWithin limit r → RunRight numbers table cells choices limit (ran_said choices r)
  ran-right (ended e n s left) h = (omega (arith, h), omega arith)
  ran-right no_end h = h

  said-right : (v : Verdict) (r : Report) → Checked numbers (lines_of table) v → (v ≡ Passes → EndsWithin limit r)
      → RunRight numbers table cells choices limit (said_by v cells (ran_said choices r))
  said-right Passes r h g = ran-right r (g refl)
  said-right (Refused number place) r h g = (h, refl)

-- a fresh run, and a run from a record
module _ (m : MachineKind) (ps table choices : List ℕ) (limit : ℕ) where
  from-right : (s : State) → table_check m table ≡ Passes → record_fits m ps (table_of table) s ≡ true
      → EndsWithin limit (run ps (table_of table) limit 0 s choices)
  from-right s e f =
      ends-within ps m (table_of table) (passes-accepted m table e) s (fits-can m ps (table_of table) s f).can limit choices

  fresh-within : table_check m table ≡ Passes → EndsWithin limit (run ps (table_of table) limit 0 (fresh ps m (table_of table)) choices)
  fresh-within e =
      ends-within ps m (table_of table) (passes-accepted m table e) (fresh ps m (table_of table)) (fresh-can ps m (table_of table)) limit choices

  fresh-right : (numbers : List Number) (cells : List ℕ) → Checked numbers (lines_of table) (run_checks m ps table (length cells))
      → RunRight numbers table cells choices limit (fresh_said m ps table cells choices limit)
  unfolding fresh_said run_checks
  fresh-right numbers cells h = said-right numbers table cells choices limit (run_checks m ps table (length cells)) _ h
      (λ e. fresh-within (both-pass (table_check m table) _ e).0)

  continued-right : (numbers : List Number) (s : State)
      → Checked numbers (lines_of table) (and_then (run_checks m ps table (length s.cells)) (record_check m ps (table_of table) s))
      → RunRight numbers table s.cells choices limit (continued_said m ps table s choices limit)
  unfolding continued_said run_checks
  continued-right numbers s h =
      said-right numbers table s.cells choices limit (and_then (run_checks m ps table (length s.cells)) (record_check m ps (table_of table) s)) _ h λ e.
      let p = both-pass (run_checks m ps table (length s.cells)) _ e in
      from-right s (both-pass (table_check m table) _ p.0).0 (fits (record_fits m ps (table_of table) s) p.1)
    where
      fits : (b : Bool) → (if b then Passes else Refused 15 0) ≡ Passes → b ≡ true
      fits true e = refl
      fits false e = absurd (let z : ◌≡◌ {A = ℕ} 0 1 = cc in omega arith)

-- ---- the checks of each function
module _ (table : List ℕ) (size : ℕ) where
  plain-checks : Checked (table_numbers ++ buffer_numbers) (lines_of table) (run_checks plain [] table size)
  unfolding run_checks
  plain-checks = checked-then table_numbers buffer_numbers (lines_of table) (table_check plain table) (size_check size (cell_count plain))
      (table-checked plain table) (size-checked size (cell_count plain) (lines_of table))

  write-checks : Checked (table_numbers ++ buffer_numbers) (lines_of table) (write_check table size)
  unfolding write_check
  write-checks = checked-then table_numbers buffer_numbers (lines_of table) (table_check plain table) (size_check size 22016)
      (table-checked plain table) (size-checked size 22016 (lines_of table))

  module _ (ps : List ℕ) where
    pair-checks : (m : MachineKind) (stated : ℕ)
        → Checked (table_numbers ++ (pair_numbers ++ buffer_numbers)) (lines_of table)
        (and_then (table_check m table) (and_then (places_check ps) (size_check size stated)))
    pair-checks m stated =
        checked-then table_numbers (pair_numbers ++ buffer_numbers) (lines_of table) (table_check m table)
        (and_then (places_check ps) (size_check size stated)) (table-checked m table)
        (checked-then pair_numbers buffer_numbers (lines_of table) (places_check ps) (size_check size stated)
        (places-checked ps (lines_of table)) (size-checked size stated (lines_of table)))

    reduced-checks : Checked (table_numbers ++ (pair_numbers ++ buffer_numbers)) (lines_of table) (run_checks reduced ps table size)
    unfolding run_checks
    reduced-checks = pair-checks reduced (cell_count reduced)

    reduce-checks : Checked (table_numbers ++ (pair_numbers ++ buffer_numbers)) (lines_of table) (reduce_answer table ps size)
    unfolding reduce_answer
    reduce-checks = pair-checks plain (length table)

    writer-checks : Checked (table_numbers ++ (pair_numbers ++ buffer_numbers)) (lines_of table) (writer_checks ps table size)
    unfolding writer_checks
    writer-checks = pair-checks plain (cell_count plain)

-- ... and of a record after them
continue-plain : (table : List ℕ) (s : State) → Checked (table_numbers ++ (buffer_numbers ++ record_numbers)) (lines_of table)
    (and_then (run_checks plain [] table (length s.cells)) (record_check plain [] (table_of table) s))
unfolding run_checks
continue-plain table s =
    let size = size_check (length s.cells) (cell_count plain) in
    let last = record_check plain [] (table_of table) s in
    let sized = size-checked (length s.cells) (cell_count plain) (lines_of table) in
    rw (then-again (table_check plain table) size last)
    (checked-then table_numbers (buffer_numbers ++ record_numbers) (lines_of table) (table_check plain table) (and_then size last)
    (table-checked plain table)
    (checked-then buffer_numbers record_numbers (lines_of table) size last sized (record-checked plain [] (table_of table) s (lines_of table))))

continue-reduced : (ps table : List ℕ) (s : State) → Checked (table_numbers ++ (pair_numbers ++ (buffer_numbers ++ record_numbers))) (lines_of table)
    (and_then (run_checks reduced ps table (length s.cells)) (record_check reduced ps (table_of table) s))
unfolding run_checks
continue-reduced ps table s =
    let size = size_check (length s.cells) (cell_count reduced) in
    let last = record_check reduced ps (table_of table) s in
    let sized = size-checked (length s.cells) (cell_count reduced) (lines_of table) in
    rw (then-again (table_check reduced table) (and_then (places_check ps) size) last, then-again (places_check ps) size last)
    (checked-then table_numbers (pair_numbers ++ (buffer_numbers ++ record_numbers)) (lines_of table) (table_check reduced table)
    (and_then (places_check ps) (and_then size last)) (table-checked reduced table)
    (checked-then pair_numbers (buffer_numbers ++ record_numbers) (lines_of table) (places_check ps) (and_then size last)
    (places-checked ps (lines_of table))
    (checked-then buffer_numbers record_numbers (lines_of table) size last sized (record-checked reduced ps (table_of table) s (lines_of table)))))

-- ---- files
abbrev Listed : List Number → List ℕ → ℕ → Read → Type 0
Listed numbers bytes n (Lines k) = Unit {0}
Listed numbers bytes n (NotRead number place) = OneOf numbers (blocks bytes) n number place

-- the file's numbers, and 14 where the room is not the stated one
read-listed : (ns : List Number) (bytes : List ℕ) (n room : ℕ) → (eqb room 5248 ≡ false → OneOf ns (blocks bytes) n 14 0)
    → Listed (file_numbers ++ ns) bytes n (read_answer bytes room)
unfolding read_answer
read-listed ns bytes n room h =
    go (wrong_length (length bytes)) (first (wrong_check bytes) 0 (blocks bytes)) (first (wrong_block bytes (lines_in_all bytes)) 0 (blocks bytes))
    (eqb room 5248)
    (first_below (blocks bytes) (wrong_check bytes) 0) (first_below (blocks bytes) (wrong_block bytes (lines_in_all bytes)) 0) h
  where
    go : (u : Bool) (c b : Option ℕ) (r : Bool) → ((k : ℕ) → c ≡ Some k → k < 0 + blocks bytes) → ((k : ℕ) → b ≡ Some k → k < 0 + blocks bytes)
        → (r ≡ false → OneOf ns (blocks bytes) n 14 0)
        → Listed (file_numbers ++ ns) bytes n
        (if u then NotRead 1 0 else refused_at_block 2 c (refused_at_block 3 b (if r then Lines (lines_in_all bytes) else NotRead 14 0)))
    go true c b r hc hb h = inl (refl, omega arith)
    go false (Some k) b r hc hb h = inr (inl (refl, let l = hc k refl in omega arith))
    go false None (Some k) r hc hb h = inr (inr (inl (refl, let l = hb k refl in omega arith)))
    go false None None true hc hb h = tt
    go false None None false hc hb h = inr (inr (inr (h refl)))

pub read_right : (bytes words : List ℕ) → ReadRight bytes words (read_buffer bytes words) (read_answer bytes (length words))
unfolding read_buffer
read_right bytes words =
    go (read_answer bytes (length words)) refl (read-listed buffer_numbers bytes 0 (length words) (λ e. inl (refl, omega arith)))
  where
    go : (r : Read) → read_answer bytes (length words) ≡ r → Listed (file_numbers ++ buffer_numbers) bytes 0 r
        → ReadRight bytes words (buffer_after r bytes words) r
    go (Lines n) e h = let a = accepted bytes (length words) n e in omega (arith, a.counted, lines-most bytes a.right)
    go (NotRead number place) e h = (h, refl)

write-right : (table bytes : List ℕ) → WriteRight table bytes (write_buffer table bytes) (write_answer table (length bytes))
unfolding write_check
write-right table bytes = go (write_check table (length bytes)) refl (write-checks table (length bytes))
  where
    go : (v : Verdict) → write_check table (length bytes) ≡ v → Checked (table_numbers ++ buffer_numbers) (lines_of table) v
        → WriteRight table bytes (filled_as v table bytes) (written_as v (length (file_bytes table)))
    go Passes e h =
        let s = passing-short table (both-pass (table_check plain table) _ e).0 in
        omega (arith, length-file table, s.1)
    go (Refused number place) e h = (h, refl)

reduce-right : (table ps lent : List ℕ) → ReduceRight table lent (reduce_buffer table ps lent) (reduce_answer table ps (length lent))
unfolding reduce_buffer
reduce-right table ps lent = go (reduce_answer table ps (length lent)) (reduce-checks table (length lent) ps)
  where
    go : (v : Verdict) → Checked (table_numbers ++ (pair_numbers ++ buffer_numbers)) (lines_of table) v → ReduceRight table lent (reduced_or v table lent) v
    go Passes h = tt
    go (Refused number place) h = (h, refl)

-- ---- the choice writer, by demand 3
module _ (ps table cells lent : List ℕ) (limit : ℕ) where
  with-numbers : (xs : List ℕ) (r : Report) (list : List ℕ) → length xs ≤ length lent → EndsWithin limit r
      → WriterRight table cells lent limit (writes (with_numbers xs r) (length xs) list)
  with-numbers xs (ended e n s left) list l h = (h, l)
  with-numbers xs no_end list l h = h

  writes-right : table_check plain table ≡ Passes → places_check ps ≡ Passes → length cells ≡ cell_count plain
      → WriterRight table cells lent limit (writer_said ps table cells lent limit)
  writes-right e p z =
      let D = demand-3 ps p table e in
      elim (dec_le (length (choice_list ps table limit)) (length lent)) [
        | yes l ↦ subst (WriterRight table cells lent limit) (sym (D.fits limit cells lent z l))
            (with-numbers (choice_list ps table limit) (plain_run table limit) (choice_list ps table limit ++ drop (length (choice_list ps table limit)) lent) l
            (fresh-within plain [] table [] limit e))
        | no l ↦ let F = D.full limit cells lent z (omega arith) in
            subst (WriterRight table cells lent limit) (sym (F.says ∙ ap (wrote_said lent) F.full.report_is))
            (omega (arith, F.full.within), F.full.fits)
      ]

  writer-right : WriterRight table cells lent limit (writer_said ps table cells lent limit)
  unfolding writer_checks writer_said
  writer-right = go (writer_checks ps table (length cells)) refl (writer-checks table (length cells) ps)
    where
      go : (v : Verdict) → writer_checks ps table (length cells) ≡ v → Checked (table_numbers ++ (pair_numbers ++ buffer_numbers)) (lines_of table) v
          → WriterRight table cells lent limit (writer_said ps table cells lent limit)
      go Passes e h =
          let a = both-pass (table_check plain table) _ e in
          let b = both-pass (places_check ps) _ a.1 in
          writes-right a.0 b.0 (size-passes _ _ b.1)
      go (Refused number place) e h = rw e (h, refl, refl)

-- ---- the pair of runs
line-right : (limit : ℕ) (list : List ℕ) (r : Report) → EndsWithin limit r → LineRight limit (line_said list r)
line-right limit list (ended e n s left) h = h
line-right limit list no_end h = h

module _ (ps : List ℕ) (limit : ℕ) (file : List ℕ) where
  lines-right : (P : List ℕ) → table_check plain P ≡ Passes → PairRight file limit (lines_said ps limit P)
  unfolding lines_said
  lines-right P e = (
    line-right limit [] (plain_run P limit) (fresh-within plain [] P [] limit e),
    line-right limit list (reduced_run ps (reduce P) limit list) (fresh-within reduced ps (reduce P) list limit (reduction-passes P e)),
  )
    where
      list : List ℕ
      list = written_choices ps limit P

  table-right : (P : List ℕ) → lines_of P ≡ lines_in_all file → PairRight file limit (table_said ps limit P)
  unfolding table_said
  table-right P same =
      go (and_then (table_check plain P) (places_check ps)) refl
      (checked-then table_numbers pair_numbers (lines_of P) (table_check plain P) (places_check ps) (table-checked plain P) (places-checked ps (lines_of P)))
    where
      go : (v : Verdict) → and_then (table_check plain P) (places_check ps) ≡ v → Checked (table_numbers ++ pair_numbers) (lines_of P) v
          → PairRight file limit (pair_said_by v (lines_said ps limit P))
      go Passes e h = lines-right P (both-pass (table_check plain P) _ e).0
      go (Refused number place) e h =
          of-second (blocks file) (lines_in_all file) number place file_numbers (table_numbers ++ pair_numbers)
          (more-blocks (blocks file) _ number place (table_numbers ++ pair_numbers) (rw same at h))

  file-right : PairRight file limit (file_said ps limit file)
  unfolding file_said read_buffer
  file-right =
      go (read_answer file 5248) refl
      (read-listed (table_numbers ++ pair_numbers) file (lines_in_all file) 5248 (λ e. absurd (let z : ◌≡◌ {A = ℕ} 0 1 = cc in omega arith)))
    where
      words : List ℕ
      words = replicate 5248 0

      go : (r : Read) → read_answer file 5248 ≡ r → Listed (file_numbers ++ (table_numbers ++ pair_numbers)) file (lines_in_all file) r
          → PairRight file limit (read_said ps limit r (buffer_after (read_answer file (length words)) file words))
      go (NotRead number place) e h = h
      go (Lines n) e h =
          let a = accepted file 5248 n e in
          let most = lines-most file a.right in
          let long : length (table_words file n) ≡ 4 * n = length-tab _ _ in
          let front : take (4 * n) (padded 5248 (table_words file n)) ≡ table_words file n
          = rw long at (take-padded (table_words file n) 5248 (omega (arith, a.counted))) in
          rw (length-replicate {A = ℕ} 5248 0, e, front) (table-right (table_words file n) (omega (arith, long, a.counted)))

pair-right : (input : List ℕ) → PairRight (drop 12 input) (word_at input 8) (pair_said input)
unfolding pair_said
pair-right input = go (ltb (length input) 12)
  where
    ps : List ℕ
    ps = pair (word_at input 0) (word_at input 4)

    go : (b : Bool) → PairRight (drop 12 input) (word_at input 8) (if b then not_running 1 0 else file_said ps (word_at input 8) (drop 12 input))
    go true = inl (refl, omega arith)
    go false = file-right ps (word_at input 8) (drop 12 input)

pub demand1 : Demand1
demand1 = record {
  numbers = refl;
  reads = read_right;
  writes_file = write-right;
  checks = table-checked;
  checks_places = λ ps. places-checked ps 0;
  reduces = reduce-right;
  runs_plain = λ table cells limit. fresh-right plain [] table [] limit (table_numbers ++ buffer_numbers) cells (plain-checks table (length cells));
  runs_reduced = λ ps table cells choices limit.
      fresh-right reduced ps table choices limit (table_numbers ++ (pair_numbers ++ buffer_numbers)) cells (reduced-checks table (length cells) ps);
  continues_plain = λ table s limit.
      continued-right plain [] table [] limit (table_numbers ++ (buffer_numbers ++ record_numbers)) s (continue-plain table s);
  continues_reduced = λ ps table s choices limit.
      continued-right reduced ps table choices limit (table_numbers ++ (pair_numbers ++ (buffer_numbers ++ record_numbers))) s (continue-reduced ps table s);
  writes_choices = writer-right;
  runs_pair = pair-right;
}
