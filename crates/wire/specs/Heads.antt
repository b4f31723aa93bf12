-- The head of an answer: what a run or the choice writer came to, in eight words (rule 8.26).
use Rattle.std.specs.Prelude.{ℕ, ◌/◌, ◌%◌, ◌^◌, List, [], ◌∷◌, Result, Ok, Err}
use Rattle.model.specs.Work.{reason_number}
use Rattle.evaluators.specs.Reasons.{reason_of}
use Rattle.machine.specs.declared.End.{End}
use Rattle.table.specs.declared.verdict.Refusal.{Refusal}
use Rattle.table.specs.Verdict.{check_number}
use Rattle.runs.specs.declared.Ran.{Ran}
use Rattle.wire.specs.declared.Refused.{Refused}

-- an end by its number (rule 8.26; the ends: rule 2.29)
abbrev pub end_number : End → ℕ
end_number End.Done = 0
end_number End.AssertFalse = 1
end_number End.AssumeFalse = 2
end_number (End.Fail why) = 3
end_number End.WantOfCells = 4
end_number End.OutOfSteps = 5
end_number End.ChoiceNotAllowed = 6
end_number End.NoChoiceLeft = 7
end_number End.ListFull = 8
end_number End.TooDeep = 9

-- the reason of a failure by its number (rule 2.36), 0 of any other end
abbrev pub reason_in : End → ℕ
reason_in End.Done = 0
reason_in End.AssertFalse = 0
reason_in End.AssumeFalse = 0
reason_in (End.Fail why) = reason_number (reason_of why)
reason_in End.WantOfCells = 0
reason_in End.OutOfSteps = 0
reason_in End.ChoiceNotAllowed = 0
reason_in End.NoChoiceLeft = 0
reason_in End.ListFull = 0
reason_in End.TooDeep = 0

-- no refusal, then the end, the reason, the steps, the choices used, low and high, and the row (rules 2.31, 8.26)
abbrev pub ran_head : Ran → List ℕ
ran_head r =
    0 ∷ 0 ∷ end_number r.end ∷ reason_in r.end ∷ r.steps ∷ r.used % 2 ^ 32 ∷ r.used / 2 ^ 32 ∷ r.«record».machine.row ∷ []

-- a refusal that a check gave, by its number and its place (rule 6.1)
abbrev pub refused_as : Refusal → Refused
refused_as r = record { number = check_number r.check; place = r.place }

-- a refusal's number, whichever it is, and its place, and nothing else (rules 6.1, 8.26)
abbrev pub refused_head : Refused → List ℕ
refused_head r = r.number ∷ r.place % 2 ^ 32 ∷ 0 ∷ 0 ∷ 0 ∷ 0 ∷ 0 ∷ 0 ∷ []

-- the head of what a run or the choice writer answered, where it is known what number and place a refusal says (rule 8.26)
abbrev pub head_of : {R : Type 0} → (R → Refused) → Result Ran R → List ℕ
head_of said (Ok ran) = ran_head ran
head_of said (Err r) = refused_head (said r)
