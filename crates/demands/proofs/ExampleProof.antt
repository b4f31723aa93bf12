-- The examples hold, by computing: T passes, so its reduction does, and a run of either is the model's.
-- Assumes nothing.
use mathlib.Core.Path.{◌≡◌, refl, ap, ◌∙◌}
use Prim.Native.Nat.{ℕ}
use mathlib.Core.List.{List, [], ◌∷◌}
use lib.ListN.{length, length-replicate}
use borrow.Author.Tests.{eq-eqb}
use Rattle.lists.specs.Tab.{listed, tab, sum, all}
use Rattle.lists.specs.First.{walk}
use Rattle.lists.specs.Falling.{values_below, value_at}
use Rattle.model.specs.Class.{accepted_places, class, tracked, pair}
use Rattle.model.specs.Table.{table_of, type_of, marked, node_kind, row_kind, matching_end, declaration_roles, node_roles, row_roles, open_at}
use Rattle.model.specs.Table.{at_end, home}
use Rattle.model.specs.Procedures.{owner, node_uses, uses_own, keeps_procedures}
use Rattle.model.specs.Accepted.{known, node_there, row_there, node_type, node_typed, row_typed, misnested, node_suits_mark, row_suits_mark}
use Rattle.model.specs.State.{MachineKind, fresh, cell_count}
use Rattle.model.specs.State.MachineKind.{plain, reduced}
use Rattle.model.specs.Eval.{cells_laid, rule, eval_f, eval}
use Rattle.model.specs.Step.{finished, row_rule, step_at, step, run}
use Rattle.model.specs.Reduce.{reduced_kind, reduce}
use Rattle.table.specs.Verdict.Verdict.{Passes}
use Rattle.kinds.specs.Kinds.{roles_of}
use Rattle.line_checks.specs.Rules.{breaks5, breaks6, breaks7, breaks8, breaks9, depth, breaks10, breaks12}
use Rattle.loop_checks.specs.Rules.{breaks11, any, shares_iterator, breaks16}
use Rattle.procedures.specs.Misplaced.{breaks17}
use Rattle.table.specs.Checks.{breaks, first_refusal, table_check}
use Rattle.table.proofs.PromiseProofs.{reduction-passes}
use Rattle.reduction.specs.Reduction.{places_check, reduce_answer, reduce_buffer}
use Rattle.runs.specs.Checks.{places_for, run_checks}
use Rattle.runs.specs.Answers.{ran_said, fresh_said}
use Rattle.demands.specs.Examples.{T, Q, shown, lent, run_reduced, results, expected, ExamplesHold}

T-passes : table_check plain T ≡ Passes
unfolding listed tab sum all walk values_below value_at table_of type_of marked node_kind row_kind matching_end
    declaration_roles node_roles row_roles open_at known node_there row_there node_type node_typed row_typed misnested node_suits_mark row_suits_mark
    breaks5 breaks6 roles_of breaks7 breaks8 breaks9 depth breaks10 breaks11 breaks12 shares_iterator breaks16 breaks first_refusal table_check
    any home owner node_uses uses_own keeps_procedures breaks17 T
T-passes = refl

places-pass : places_check (pair 1 3) ≡ Passes
unfolding accepted_places
places-pass = refl

T-reduces : reduce_answer T (pair 1 3) (length T) ≡ Passes
unfolding reduce_answer T
T-reduces = rw (T-passes, places-pass) refl

Q-is : Q ≡ reduce T
unfolding reduce_buffer
Q-is = rw T-reduces refl

Q-passes : table_check reduced Q ≡ Passes
Q-passes = rw Q-is (reduction-passes T T-passes)

none_passes : (m : MachineKind) → table_check m [] ≡ Passes
unfolding walk first_refusal table_check
none_passes m = refl

-- a fresh run of a table that passes, with cells of the stated size
run_is : (m : MachineKind) (ps table choices : List ℕ) (limit : ℕ) → table_check m table ≡ Passes → places_for m ps ≡ Passes
    → fresh_said m ps table (lent m) choices limit ≡ ran_said choices (run ps (table_of table) limit 0 (fresh ps m (table_of table)) choices)
unfolding fresh_said run_checks
run_is m ps table choices limit e p = rw (e, p, length-replicate {A = ℕ} (cell_count m) 0, eq-eqb (cell_count m) (cell_count m) refl) refl

module _ (limit : ℕ) (choices : List ℕ) where
  run-Q : run_reduced Q limit choices
      ≡ shown (ran_said choices (run (pair 1 3) (table_of (reduce T)) limit 0 (fresh (pair 1 3) reduced (table_of (reduce T))) choices))
  run-Q = ap shown (run_is reduced (pair 1 3) Q choices limit Q-passes places-pass) ∙ rw Q-is refl

-- ---- the list, run by run
pub examples-hold : ExamplesHold
unfolding listed tab sum all walk class tracked accepted_places table_of type_of marked node_kind row_kind matching_end fresh cells_laid
    rule eval_f eval row_rule step_at step at_end finished run reduced_kind reduce T results expected
examples-hold =
    rw (
      T-passes,
      T-reduces,
      Q-passes,
      run-Q 100 (0 ∷ 4 ∷ 0 ∷ 0 ∷ 9 ∷ []),
      run-Q 100 (1 ∷ []),
      run-Q 100 [],
      run-Q 0 [],
      run_is plain [] T [] 0 T-passes refl,
      run_is plain [] [] [] 0 (none_passes plain) refl,
      run_is reduced (pair 1 3) [] [] 0 (none_passes reduced) places-pass,
    ) refl
