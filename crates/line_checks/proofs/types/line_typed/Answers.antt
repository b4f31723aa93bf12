-- `types::line_typed` meets its contract: the two cases of the definition.
-- Assumes nothing.
use mathlib.Core.Path.{sym, ◌∙◌}
use borrow.Author.Tests.{eqb-true}
use Rattle.model.proofs.ReduceLaws.{opens-43}
use Rattle.line_checks.proofs.types.line_typed.Goals as goal

pub locals_uints-requires : goal.locals_uints-requires
locals_uints-requires c =
    let opens = c.opens_procedure in
    c.requires.1 (eqb-true _ 43 (sym (opens-43 _) ∙ sym opens.ensures ∙ c.if-opens_procedure.true))
