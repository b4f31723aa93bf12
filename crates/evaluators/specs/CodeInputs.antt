-- What an operand is worked out from, as the code lends it: an answer says what the model's own evaluator gives.
use Rattle.std.specs.Prelude.{ℕ}
use Rattle.model.specs.Table.{Ty}
use Rattle.evaluators.specs.declared.answers.Answer.{Answer}
use Rattle.evaluators.specs.declared.inputs.Inputs.{Inputs}
use Rattle.evaluators.specs.CodeAnswers.{WorksOut}

-- node n, an operand of `user`, with the next choice at a place of the list
abbrev pub WorksOutFrom : (w : Ty) → Inputs → (user n at : ℕ) → Answer → Type 0
WorksOutFrom w e user n at r =
    WorksOut w e.own.now e.cells.now e.list.now e.machine.now.numbers e.machine.now.bases
    e.machine.now.firsts e.machine.now.lengths e.machine.now.shapes e.machine.now.count user n at r
