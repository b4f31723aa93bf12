-- The code's own words: how many numbers a row has, and how the choice writer stops.
use Rattle.std.specs.Prelude.{ℕ, suc, List}
use Rattle.machine.specs.declared.Failure.{Failure}
use Rattle.machine.specs.declared.Failure.TheVariants.{Fails, BadChoice, NoChoice, Stuck}
use Rattle.machine.specs.declared.Machine.{Machine}
use Rattle.machine.specs.declared.Worked.{Worked}
use Rattle.machine.specs.declared.Worked.TheVariants.{Moves, Ends, Not}
use Rattle.machine.specs.declared.End.{End}
use Rattle.machine.specs.declared.End.TheVariants as Code
use Rattle.runs.specs.declared.Ran.{Ran}
use Rattle.runs.specs.CodeSteps.{ran}

-- how many numbers a row has
abbrev pub count_of : Worked → ℕ
count_of (Moves x n) = n
count_of (Ends e n) = n
count_of (Not why n) = n

-- The end of a row that failed (rule 2.37). A plain step takes no choice and is never stuck, so what stands for those is never handed back.
abbrev pub failed_end : Failure → End
failed_end (Fails reason) = Code.Fail reason
failed_end BadChoice = Code.OutOfSteps
failed_end NoChoice = Code.OutOfSteps
failed_end Stuck = Code.OutOfSteps

-- A row that does not go on, after n steps, with the numbers up to `at` written: it counts, and so do they (rule 2.29). None that goes on is
-- asked of, so what stands for it is never handed back.
abbrev pub stopped_of : Worked → ℕ → ℕ → Machine → List ℕ → Ran
stopped_of (Moves x next) n at m stack = ran Code.OutOfSteps (suc n) at m stack
stopped_of (Ends e next) n at m stack = ran e (suc n) at m stack
stopped_of (Not why next) n at m stack = ran (failed_end why) (suc n) at m stack
