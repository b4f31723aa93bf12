-- By the kind of the node's line.
-- Assumes nothing.
use mathlib.Core.Path.{refl}
use Rattle.model.specs.Table.Ty.{uint}
use Rattle.evaluators.proofs.NodeLaws.{not-below, any-variable, uint-constant, leaf-variable, leaf-constant, no-uint-leaf}
use borrow.Author.Rules.{rules}
use Rattle.evaluators.proofs.leaves.uint_leaf.Goals as goal

pub returns-then-user-node : goal.returns-then-user-node
returns-then-user-node c = record { leaf = λ count bs fs ls hs cells l. not-below _ _ _ _ _ _ c.if-user-node.true }

pub returns-in-16 : goal.returns-in-16
returns-in-16 c =
    record {
      leaf = λ count bs fs ls hs cells l. any-variable _ _ _ _ _ uint c.if-user-node.false refl
          (leaf-variable _ _ c.in-16.is c.wide.ensures) c.uint_variable.ensures;
    }

pub returns-in-17 : goal.returns-in-17
returns-in-17 c =
    record { leaf = λ count bs fs ls hs cells l. uint-constant _ _ _ _ _ c.if-user-node.false refl (leaf-constant _ _ c.in-17.is) }

pub returns-in_default : goal.returns-in_default
returns-in_default c =
    record {
      leaf = λ count bs fs ls hs cells l. no-uint-leaf _ _ _ _ _ c.if-user-node.false
          c.requires.2 (search rules) (search rules);
    }
