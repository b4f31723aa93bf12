-- The reader's answer in the rules' words, and what the code's answer says in them.
use Rattle.std.specs.Prelude.{ℕ, Result, Ok, Err}
use Rattle.table.specs.declared.verdict.Refusal.{Refusal}
use Rattle.table.specs.Verdict.{check_number}

-- the number of lines, or a refusal's number and its place (rules 5.9, 6.1)
pub data Read : Type 0 where
  Lines : ℕ → Read
  Refused : ℕ → ℕ → Read

abbrev pub read_of : Result ℕ Refusal → Read
read_of (Ok lines) = Lines lines
read_of (Err r) = Refused (check_number r.check) r.place
