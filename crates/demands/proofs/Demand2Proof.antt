-- Demand 2.
-- Assumes nothing.
use mathlib.Core.Path.{◌≡◌}
use Prim.Native.Nat.{ℕ, zero, suc}
use mathlib.Core.Bool.{true}
use mathlib.Core.List.{List}
use Rattle.file.proofs.RoundTrips.{written-reads-back, read-is-written-again}
use Rattle.table.proofs.PromiseProofs.{reduction-passes}
use Rattle.model.specs.Table.{Table}
use Rattle.model.specs.State.{State}
use Rattle.model.specs.Step.{finished, run}
use Rattle.model.specs.Step.End.{done}
use Rattle.model.specs.Step.Report.{ended}
use Rattle.model.proofs.ClassLaws.{cell-for-each-place}
use Rattle.model.proofs.PairLaws.{pair-accepted, pair-class, pair-tracked, pair_held}
use Rattle.model.proofs.EvalLaws.{eval-is}
use Rattle.model.proofs.ReduceLaws.{length-reduce, reduce-kind, reduce-a, reduce-b, reduce-c}
use Rattle.records.proofs.RecordLaws.{fits-can, can-fits}
use Rattle.runs.proofs.RunPromises.{fresh-ends, continued-ends}
use Rattle.demands.specs.Demand2.{RunByRule, Demand2}

all_done : (ps : List ℕ) (t : Table) (n : ℕ) (s : State) (choices : List ℕ) → finished t s ≡ true → (limit : ℕ)
    → run ps t limit n s choices ≡ ended done n s choices
unfolding run
all_done ps t n s choices e zero = rw e
all_done ps t n s choices e (suc k) = rw e

run-by-rule : (ps : List ℕ) (t : Table) (n : ℕ) (s : State) (choices : List ℕ) → RunByRule ps t n s choices
unfolding run
run-by-rule ps t n s choices = record { is_done = all_done ps t n s choices; is_out = λ e. rw e; goes_on = λ e k. rw e }

pub demand2 : Demand2
demand2 = record {
  reads_back = written-reads-back;
  writes_again = read-is-written-again;
  reduced_length = length-reduce;
  reduced_lines = λ P i. record { kind = reduce-kind P i; a = reduce-a P i; b = reduce-b P i; c = reduce-c P i };
  reduced_passes = reduction-passes;
  pairs = pair-accepted;
  classes = pair-class;
  tracks = pair-tracked;
  holds = pair_held;
  sizes = cell-for-each-place;
  nodes = eval-is;
  runs = run-by-rule;
  fits = fits-can;
  can_fit = can-fits;
  fresh = fresh-ends;
  continued = continued-ends;
}
