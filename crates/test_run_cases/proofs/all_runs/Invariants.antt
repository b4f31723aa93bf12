-- What is left of the choices is no longer than all of them; what is left of the runs gets shorter.
use Rattle.std.proofs.Common.{length, ◌≤◌}
use Rattle.test_run_cases.proofs.all_runs.Given as goal

abbrev pub invariant-loop-rest : goal.invariant-loop-rest
invariant-loop-rest g l = length l.left ≤ length l.list

abbrev pub decreases-loop-rest : goal.decreases-loop-rest
decreases-loop-rest g l = length l.rest
