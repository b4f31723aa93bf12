-- "Reduced tables, ends, counts, records and cells are those of the rules in document 01, condensed from the published definition of
-- address-based RRA; a written program file reads back as its table, and a read file whose table passes is written again byte for byte."
-- The public promises are equations with the definitions; here is what says that the definitions are the rules'. (rules 10.3,
-- 10.4.) Proved in proofs/Demand2Proof.
use Rattle.std.specs.Prelude.{◌≡◌, ℕ, suc, true, false, List, length}
use Rattle.file.specs.Statements.{WrittenReadsBack, ReadIsWrittenAgain}
use Rattle.table.specs.Promises.{ReductionPasses}
use Rattle.model.specs.Class.{CellForEachPlace}
use Rattle.model.specs.Pair.{PairAccepted, PairClasses, PairTracked, PairHeld}
use Rattle.model.specs.Table.{Table, line_at, marked}
use Rattle.model.specs.State.{State}
use Rattle.model.specs.Eval.{EvalByRule}
use Rattle.model.specs.Reduce.{reduce, reduced_kind}
use Rattle.model.specs.Step.{finished, step, after, run}
use Rattle.model.specs.Step.End.{done, out_of_steps}
use Rattle.model.specs.Step.Report.{ended}
use Rattle.runs.specs.Promises.{FreshEnds, ContinuedEnds}
use Rattle.records.specs.RecordPromises.{FitsCan, CanFits}

-- a line of the reduced table has its operands, and another kind only where the reduction says so (rules 3.3, 3.4)
pub record ReducedLine (P : List ℕ) (i : ℕ) : Type 0 where
  pub kind : (line_at (reduce P) i).kind ≡ reduced_kind (marked P 2 (line_at P i).a) (marked P 3 (line_at P i).a) (line_at P i).kind
  pub a : (line_at (reduce P) i).a ≡ (line_at P i).a
  pub b : (line_at (reduce P) i).b ≡ (line_at P i).b
  pub c : (line_at (reduce P) i).c ≡ (line_at P i).c

-- a run, after n steps at the state s: done comes before out of steps; else a step is one row, or a return at the end of a procedure, and `after`
-- says what it counts (rules 2.16, 2.28 to 2.30, 2.43)
pub record RunByRule (ps : List ℕ) (t : Table) (n : ℕ) (s : State) (choices : List ℕ) : Type 0 where
  pub is_done : finished t s ≡ true → (limit : ℕ) → run ps t limit n s choices ≡ ended done n s choices
  pub is_out : finished t s ≡ false → run ps t 0 n s choices ≡ ended out_of_steps n s choices
  pub goes_on : finished t s ≡ false → (limit : ℕ)
      → run ps t (suc limit) n s choices ≡ after n s choices (step ps t s choices) (run ps t limit (suc n))

pub record Demand2 : Type 0 where
  -- files (rule 5.11)
  pub reads_back : WrittenReadsBack
  pub writes_again : ReadIsWrittenAgain
  -- the reduced table (rules 3.3, 3.4, 6.22); classes, tracked places and sizes of reduced arrays (rules 3.1, 3.2, 3.7)
  pub reduced_length : (P : List ℕ) → length (reduce P) ≡ length P
  pub reduced_lines : (P : List ℕ) (i : ℕ) → ReducedLine P i
  pub reduced_passes : ReductionPasses
  pub pairs : PairAccepted
  pub classes : PairClasses
  pub tracks : PairTracked
  pub holds : PairHeld
  pub sizes : CellForEachPlace
  -- nodes, rows, ends and counts (section 2)
  pub nodes : EvalByRule
  pub runs : (ps : List ℕ) (t : Table) (n : ℕ) (s : State) (choices : List ℕ) → RunByRule ps t n s choices
  -- records and cells: what 15 refuses, and what a run hands back (section 7)
  pub fits : FitsCan
  pub can_fit : CanFits
  pub fresh : FreshEnds
  pub continued : ContinuedEnds
