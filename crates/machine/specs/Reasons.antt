-- The reasons of the code, seen as the model's, and why there is no value.
use Rattle.std.specs.Prelude.{ℕ, List, drop}
use Rattle.model.specs.Work.{Out, Reason as ModelReason}
use Rattle.model.specs.Work.Out.{fails, bad_choice, no_choice, stuck}
use Rattle.model.specs.Work.Reason.{sum_too_large, below_zero, without_array, past_length, counter_too_large}
use Rattle.machine.specs.declared.Reason.{Reason}
use Rattle.machine.specs.declared.Reason.TheVariants as Code
use Rattle.machine.specs.declared.Failure.{Failure}
use Rattle.machine.specs.declared.Failure.TheVariants.{Fails, BadChoice, NoChoice, Stuck}

-- ---- why a row failed (rule 2.36)
abbrev pub reason_of : Reason → ModelReason
reason_of Code.SumTooLarge = sum_too_large
reason_of Code.BelowZero = below_zero
reason_of Code.WithoutArray = without_array
reason_of Code.PastLength = past_length
reason_of Code.CounterTooLarge = counter_too_large

-- ---- why there is no value, with the cursor at `at` into the list l
unfoldable pub failed : {A : Type 0} → List ℕ → ℕ → Failure → Out A
failed l at (Fails reason) = fails (reason_of reason) (drop at l)
failed l at BadChoice = bad_choice
failed l at NoChoice = no_choice
failed l at Stuck = stuck
