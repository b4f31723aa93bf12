-- `rows::rule_kept` meets its contract: the locals of a 43 fit.
-- Assumes nothing.
use native.Mathlib.Omega.{arith}
use mathlib.Core.Path.{sym, ap, ◌∙◌}
use borrow.Author.Tests.{eqb-true}
use Rattle.model.specs.Table.{opens_procedure}
use Rattle.model.proofs.ReduceLaws.{opens-43}
use Rattle.procedures.proofs.rows.rule_kept.Goals as goal

pub opens_rightly-requires : goal.opens_rightly-requires
opens_rightly-requires c =
    let e = c.from.ensures in
    let is = rw c.in-Procedure.is at e in
    (omega arith, c.requires.2 (eqb-true _ 43 (sym (opens-43 _) ∙ ap opens_procedure (sym is))))
