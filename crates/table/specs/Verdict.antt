-- The answer of a check in the rules' words, a number and a place (rule 6.1), and what the code's answer says in them.
use Rattle.std.specs.Prelude.{ℕ, Result, Ok, Err}
use Rattle.table.specs.declared.verdict.Check.{Check}
use Rattle.table.specs.declared.verdict.Check.TheVariants.{FileLength, BlockSum, BlockLayout, WholeLines, Kinds, Limits, UnusedOperands, NamedOperands}
use Rattle.table.specs.declared.verdict.Check.TheVariants.{Types, Depths, Nesting, Marks, Pair, BufferSize, Record, Iterators, Procedures}
use Rattle.table.specs.declared.verdict.Refusal.{Refusal}

pub data Verdict : Type 0 where
  Passes : Verdict
  Refused : ℕ → ℕ → Verdict

-- the number of a check (rules 6.5 to 6.20)
abbrev pub check_number : Check → ℕ
check_number FileLength = 1
check_number BlockSum = 2
check_number BlockLayout = 3
check_number WholeLines = 4
check_number Kinds = 5
check_number Limits = 6
check_number UnusedOperands = 7
check_number NamedOperands = 8
check_number Types = 9
check_number Depths = 10
check_number Nesting = 11
check_number Marks = 12
check_number Pair = 13
check_number BufferSize = 14
check_number Record = 15
check_number Iterators = 16
check_number Procedures = 17

abbrev pub refused_as : Refusal → Verdict
refused_as r = Refused (check_number r.check) r.place

abbrev pub verdict_of : Result Unit Refusal → Verdict
verdict_of (Ok done) = Passes
verdict_of (Err r) = refused_as r
