-- Neighbours on one terminal card: a pair is any c1 below c2, next to each other or apart (rules 3.1, 3.7, 3.23, 6.18, 7.6). Which pairs pass, that
-- no state holds an empty class, and how many cells a reduced array may need; said of the definitions of which those of the public promises are made.
-- That demand 3 holds of neighbours as of any pair is in Demand3. Proved in proofs/NeighboursProof.
use Rattle.std.specs.Prelude.{◌≡◌, ◌⊎◌, ℕ, ◌+◌, ◌*◌, ◌<◌, ◌≤◌, true, List, get_or, ltb}
use Rattle.std.specs.Prelude.{if◌then◌else◌}
use Rattle.table.specs.Verdict.Verdict.{Passes, Refused}
use Rattle.table.specs.Checks.{table_check}
use Rattle.reduction.specs.Reduction.{places_check}
use Rattle.model.specs.Class.{EmptyClass, ClassHeldRight, pair}
use Rattle.model.specs.Table.{Table, table_of}
use Rattle.model.specs.Pair.{EmptyBetween}
use Rattle.model.specs.State.{MachineKind, State, most_arrays, cell_count, fresh}
use Rattle.model.specs.State.MachineKind.{plain, reduced}
use Rattle.model.specs.State.Value.{Uint, Class}
use Rattle.model.specs.Eval.{size_of}
use Rattle.model.specs.Step.{made}
use Rattle.model.specs.Demand3.{Numbers}
use Rattle.model.specs.EmptyClasses.{StateAfter, NoEmptyClass, RunHandsBackOne}
use Rattle.records.specs.Record.{record_fits}
use Rattle.runs.specs.Checks.{record_check}

-- 13 exactly where c1 is not below c2 (rule 6.18)
abbrev pub PairBelow : Type 0
PairBelow = (c1 c2 : ℕ) → places_check (pair c1 c2) ≡ (if ltb c1 c2 then Passes else Refused 13 0)

-- where a run starts: fresh, or from a record that 15 does not refuse (rules 2.32, 7.1)
abbrev pub Starts : MachineKind → List ℕ → Table → State → Type 0
Starts m ps t s = (s ≡ fresh ps m t) ⊎ (record_fits m ps t s ≡ true)

-- No state of a run holds an empty class, from such a start and under choices of 32 bits (rule 3.23). (The plain machine holds no class at all.)
abbrev pub NoStateHoldsEmpty : Type 0
NoStateHoldsEmpty =
    (m : MachineKind) (ps t : List ℕ) → table_check m t ≡ Passes → (s : State) → Starts m ps (table_of t) s → (choices : List ℕ) → Numbers choices
    → (n : ℕ) (r : State) → StateAfter ps (table_of t) n s choices r → NoEmptyClass ps r

-- 15 refuses a record that holds one (rule 7.6)
abbrev pub EmptyRefused : Type 0
EmptyRefused =
    (m : MachineKind) (ps : List ℕ) (t : Table) (s : State) (i k : ℕ) → get_or s.vars i (Uint 0) ≡ Class k → EmptyClass ps k
    → record_check m ps t s ≡ Refused 15 0

-- the cells of a reduced array, by its length (rule 3.7)
abbrev pub cells_for : ℕ → ℕ → ℕ → ℕ
cells_for c1 c2 len = size_of (pair c1 c2) (made 0 len true)

pub record Neighbours : Type 0 where
  pub pairs : PairBelow
  -- between neighbours class 2 is empty; any class is exactly where `class_held` is false, and where that is so of a pair is in Demand2, `holds`
  -- (rules 3.2, 7.6)
  pub between : EmptyBetween
  pub empty : ClassHeldRight
  -- none is held by a state of a run, or by a record that 15 does not refuse (rules 3.23, 7.6)
  pub never : NoStateHoldsEmpty
  pub states : RunHandsBackOne
  pub refused : EmptyRefused
  -- a reduced array needs at most length + 2 cells, and with some pair and length it needs them all; the reduced machine has 4,128 cells, two more for
  -- each array (rules 3.7, 9.11)
  pub at_most : (c1 c2 : ℕ) → c1 < c2 → (len : ℕ) → cells_for c1 c2 len ≤ len + 2
  pub may_need : (c1 c2 len : ℕ) × (c1 < c2) × (cells_for c1 c2 len ≡ len + 2)
  pub cells : cell_count reduced ≡ 4128
  pub for_each_array : cell_count reduced ≡ cell_count plain + most_arrays * 2
