-- The code's branches are those of the definition.
use mathlib.Core.Path.{sym, ◌∙◌}
use Rattle.lists.proofs.Flags.{flags}
use Rattle.model.specs.Reduce.{reduced_kind}
use Rattle.reduction.proofs.words.reduced_kind.Goals as goal

pub returns-in-16 : goal.returns-in-16
unfolding reduced_kind
returns-in-16 c = rw (c.in-16.is, sym c.if-is_marked.ensures)

pub returns-in-19 : goal.returns-in-19
unfolding reduced_kind
returns-in-19 c = rw c.in-19.is

pub returns-in-26 : goal.returns-in-26
unfolding reduced_kind
returns-in-26 c = rw c.in-26.is

pub returns-in-34 : goal.returns-in-34
unfolding reduced_kind
returns-in-34 c = rw c.in-34.is

pub returns-in-37 : goal.returns-in-37
unfolding reduced_kind
returns-in-37 c = rw (c.in-37.is, sym c.if-is_marked-2.ensures)

pub returns-in-38 : goal.returns-in-38
unfolding reduced_kind
returns-in-38 c = rw (c.in-38.is, sym c.if-is_marked-3.ensures)

pub returns-in_default : goal.returns-in_default
unfolding reduced_kind
returns-in_default c = rw (c.in-16.is, sym c.if-is_marked.ensures)

pub returns-in_default-2 : goal.returns-in_default-2
unfolding reduced_kind
returns-in_default-2 c = rw (c.in-37.is, sym c.if-is_marked-2.ensures)

pub returns-in_default-3 : goal.returns-in_default-3
unfolding reduced_kind
returns-in_default-3 c = rw (c.in-38.is, sym c.if-is_marked-3.ensures)

pub returns-in_default-4 : goal.returns-in_default-4
unfolding reduced_kind
returns-in_default-4 c = let h = c.in_default in search flags
