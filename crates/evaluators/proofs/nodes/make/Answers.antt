-- Each kind by computing; a kind that is none of them is no node.
-- Assumes nothing.
use borrow.Author.Rules.{rules}
use Rattle.model.specs.Table.{node_kind}
use Rattle.evaluators.proofs.ViewLaws.{no_kind}
use Rattle.evaluators.proofs.nodes.make.Goals as goal

pub returns-in-16 : goal.returns-in-16
unfolding node_kind
returns-in-16 c = rw c.in-16.is

pub returns-in-17 : goal.returns-in-17
unfolding node_kind
returns-in-17 c = rw c.in-17.is

pub returns-in-18 : goal.returns-in-18
unfolding node_kind
returns-in-18 c = rw c.in-18.is

pub returns-in-19 : goal.returns-in-19
unfolding node_kind
returns-in-19 c = rw c.in-19.is

pub returns-in-20 : goal.returns-in-20
unfolding node_kind
returns-in-20 c = rw c.in-20.is

pub returns-in-21 : goal.returns-in-21
unfolding node_kind
returns-in-21 c = rw c.in-21.is

pub returns-in-22 : goal.returns-in-22
unfolding node_kind
returns-in-22 c = rw c.in-22.is

pub returns-in-23 : goal.returns-in-23
unfolding node_kind
returns-in-23 c = rw c.in-23.is

pub returns-in-24 : goal.returns-in-24
unfolding node_kind
returns-in-24 c = rw c.in-24.is

pub returns-in-25 : goal.returns-in-25
unfolding node_kind
returns-in-25 c = rw c.in-25.is

pub returns-in-26 : goal.returns-in-26
unfolding node_kind
returns-in-26 c = rw c.in-26.is

pub returns-in-27 : goal.returns-in-27
unfolding node_kind
returns-in-27 c = rw c.in-27.is

pub returns-in-28 : goal.returns-in-28
unfolding node_kind
returns-in-28 c = rw c.in-28.is

pub returns-in-29 : goal.returns-in-29
unfolding node_kind
returns-in-29 c = rw c.in-29.is

pub returns-in_default : goal.returns-in_default
returns-in_default c =
    rw (no_kind c.args.kind (search rules) (search rules) (search rules) (search rules) (search rules) (search rules) (search rules)
    (search rules) (search rules) (search rules) (search rules) (search rules) (search rules) (search rules))
