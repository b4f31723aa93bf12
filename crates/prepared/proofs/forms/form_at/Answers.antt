-- By the number of the form.
-- Assumes nothing.
use Rattle.prepared.specs.Own.{own_form}
use Rattle.lists.proofs.Flags.{flags}
use Rattle.prepared.proofs.forms.form_at.Goals as goal

pub returns-in-1 : goal.returns-in-1
unfolding own_form
returns-in-1 c = rw c.in-1.is

pub returns-in-2 : goal.returns-in-2
unfolding own_form
returns-in-2 c = rw c.in-2.is

pub returns-in-3 : goal.returns-in-3
unfolding own_form
returns-in-3 c = rw c.in-3.is

pub returns-in_default : goal.returns-in_default
unfolding own_form
returns-in_default c = search flags
