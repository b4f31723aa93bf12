-- The loop has set the forms of the variables below a.
-- Assumes nothing.
use native.Mathlib.Omega.{arith}
use mathlib.Core.Path.{◌≡◌, ap, ◌∙◌}
use Rattle.prepared.specs.Own.{number_of_form}
use Rattle.prepared.proofs.FormLaws.{formed-more}
use Rattle.prepared.proofs.own.set_forms.Goals as goal

pub loop-a-preserved : goal.loop-a-preserved
loop-a-preserved c =
    let head = c.loop-a in
    let number = c.number_of.ensures ∙ ap number_of_form c.form_of.ensures in
    formed-more _ _ _ _ _ _ (omega (arith, head.invariant.size)) number head.invariant

pub returns : goal.returns
returns c =
    let head = c.loop-a in
    let stop : head.a ≡ c.args.f.counts.decls = omega arith in
    rw stop at head.invariant
