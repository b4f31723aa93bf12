-- By what the variable holds.
-- Assumes nothing.
use mathlib.Core.Path.{sym, ◌∙◌}
use Rattle.machine.proofs.FreshLaws.{start-class, start-other}
use Rattle.machine.proofs.fresh.start_number.Goals as goal

pub returns-in-Class : goal.returns-in-Class
returns-in-Class c = start-class _ _ _ (sym c.form_of-form.ensures ∙ c.in-Class.is) c.class_of.ensures

pub returns-in_default : goal.returns-in_default
returns-in_default c = start-other _ _ _ c.form_of-form.ensures c.in_default.not-Class
