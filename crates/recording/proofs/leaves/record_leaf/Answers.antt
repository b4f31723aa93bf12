-- By the kind of the node's line.
-- Assumes nothing.
use Rattle.recording.proofs.NodeLaws.{not-below, leaf-records-variable, leaf-records-constant, leaf-records-none}
use borrow.Author.Rules.{rules}
use Rattle.recording.proofs.leaves.record_leaf.Goals as goal

pub returns-then-user-node : goal.returns-then-user-node
returns-then-user-node c = record { leaf = λ count bs fs ls hs cells held. not-below _ _ _ _ _ _ _ _ c.if-user-node.true }

pub returns-in-16 : goal.returns-in-16
returns-in-16 c =
    record {
      leaf = λ count bs fs ls hs cells held. leaf-records-variable _ _ _ _ c.requires.2 _ _ _ c.if-user-node.false c.in-16.is
          c.wide.ensures c.record_variable.ensures;
    }

pub returns-in-17 : goal.returns-in-17
returns-in-17 c =
    record { leaf = λ count bs fs ls hs cells held. leaf-records-constant _ _ _ _ c.requires.2 _ _ c.if-user-node.false c.in-17.is }

pub returns-in_default : goal.returns-in_default
returns-in_default c =
    record { leaf = λ count bs fs ls hs cells held. leaf-records-none _ _ _ _ c.requires.2 _ _ _ c.if-user-node.false (search rules) (search rules) }
