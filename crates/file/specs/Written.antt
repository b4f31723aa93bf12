-- The writer's answer in the rules' words, and what the code's answer says in them.
use Rattle.std.specs.Prelude.{ℕ, Result, Ok, Err}
use Rattle.table.specs.declared.verdict.Refusal.{Refusal}
use Rattle.table.specs.Verdict.{check_number}

-- the number of bytes, or a refusal's number and its place (rules 5.10, 6.1)
pub data Written : Type 0 where
  Bytes : ℕ → Written
  Refused : ℕ → ℕ → Written

abbrev pub written_of : Result ℕ Refusal → Written
written_of (Ok bytes) = Bytes bytes
written_of (Err r) = Refused (check_number r.check) r.place
