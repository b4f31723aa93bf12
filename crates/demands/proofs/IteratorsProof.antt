-- One iterator, one loop at a time.
-- Assumes nothing.
use mathlib.Core.Path.{◌≡◌, sym, ap, ◌∙◌, subst}
use Prim.Native.Nat.{ℕ, ◌*◌, ◌%◌, ◌^◌, ◌≤◌}
use native.Mathlib.Omega.{arith}
use mathlib.Core.List.{List}
use lib.ListN.{length, take, drop, replicate, length-replicate}
use borrow.Author.Tests.{le-ltb}
use Rattle.lists.specs.Tab.{padded}
use Rattle.lists.proofs.TabLaws.{take-padded}
use Rattle.table.specs.Verdict.Verdict.{Refused}
use Rattle.table.specs.Checks.{table_check}
use Rattle.loop_checks.specs.Sharing.{AllDiffer, iterators_of}
use Rattle.table.proofs.Passing.{passing, accepted}
use Rattle.table.proofs.IteratorProofs.{apart-passes, open-differ, passing-shares-none, sharing-refused, sixteen-at-inner}
use Rattle.reduction.specs.Reduction.{reduce_answer}
use Rattle.file.specs.Read.{Read}
use Rattle.file.specs.Layout.{lines_in, file_bytes}
use Rattle.file.specs.Reading.{read_buffer}
use Rattle.file.specs.Writing.{write_check}
use Rattle.file.specs.Statements.{AllBelow}
use Rattle.file.proofs.ReadBack.{read_back}
use Rattle.model.specs.Table.{table_of}
use Rattle.model.specs.State.{MachineKind}
use Rattle.model.specs.State.MachineKind.{plain}
use Rattle.model.specs.Accepted.{CanHave}
use Rattle.model.proofs.EmptyClassLaws.{after-can}
use Rattle.runs.specs.Checks.{run_checks}
use Rattle.runs.specs.Answers.{fresh_said, continued_said}
use Rattle.choices.specs.Checks.{writer_checks}
use Rattle.choices.specs.Answers.{writer_said}
use Rattle.pair.specs.Pairs.{read_said, table_said, file_said, pair_said}
use Rattle.pair.specs.Pairs.PairSaid.{refusal as not_running}
use Rattle.demands.specs.Iterators.{OneLoopAtATime, RunsRefuse, PlainRefused, Iterators}
use Rattle.demands.proofs.NeighboursProof.{start-can}

one-loop-at-a-time : OneLoopAtATime
one-loop-at-a-time m ps t pass s start choices n r after =
    let C : CanHave ps m (table_of t) r =
    after-can ps m (table_of t) (accepted m t (passing m t pass)) n s r
    (start-can m ps (table_of t) (accepted m t (passing m t pass)) s start).can choices after in
    subst (λ (rows : List ℕ). AllDiffer (iterators_of (table_of t) rows)) (sym C.here.loops) (open-differ m t pass r.here.row C.here.row)

runs-refuse : (m : MachineKind) (t : List ℕ) (number place : ℕ) → table_check m t ≡ Refused number place → RunsRefuse m t number place
unfolding fresh_said continued_said run_checks
runs-refuse m t number place e = record { fresh = λ ps cells choices limit. rw e; continued = λ ps s choices limit. rw e }

module _ (t : List ℕ) (number place : ℕ) (e : table_check plain t ≡ Refused number place) where
  -- the table is read from its file, and then refused
  file-refused : AllBelow (2 ^ 32) t → length t % 4 ≡ 0 → length t ≤ 5248 → (ps : List ℕ) (limit : ℕ)
      → file_said ps limit (file_bytes t) ≡ not_running number place
  unfolding file_said table_said
  file-refused below whole small ps limit =
      let zeros : List ℕ = replicate 5248 0 in
      let size : length zeros ≡ 5248 = length-replicate {A = ℕ} 5248 0 in
      let b = read_back t below whole small zeros size in
      let words : take (4 * lines_in t) (padded 5248 t) ≡ t =
      subst (λ (n : ℕ). take n (padded 5248 t) ≡ t) {x = length t} {y = 4 * lines_in t} (omega arith) (take-padded t 5248 small) in
      ap (λ (r : Read). read_said ps limit r (read_buffer (file_bytes t) zeros)) (rw size at b.0)
      ∙ rw (b.1, words, e)

  input-refused : AllBelow (2 ^ 32) t → length t % 4 ≡ 0 → length t ≤ 5248 → (input : List ℕ) → 12 ≤ length input → drop 12 input ≡ file_bytes t
      → pair_said input ≡ not_running number place
  unfolding pair_said
  input-refused below whole small input l f = rw (le-ltb (length input) 12 l, f) (file-refused below whole small _ _)

  plain-refused : PlainRefused t number place
  unfolding write_check reduce_answer writer_said writer_checks
  plain-refused = record {
    writes = λ size. rw e;
    reduces = λ ps size. rw e;
    writes_choices = λ ps cells lent limit. rw e;
    runs_pair = input-refused;
  }

pub iterators : Iterators
iterators = record {
  named = sixteen-at-inner;
  sharing = sharing-refused;
  passing = passing-shares-none;
  apart = apart-passes;
  one_at_a_time = one-loop-at-a-time;
  running = runs-refuse;
  plain_tables = plain-refused;
  still_read = read_back;
}
