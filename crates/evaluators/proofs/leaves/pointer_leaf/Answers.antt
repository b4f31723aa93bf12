-- By the kind of the node's line.
-- Assumes nothing.
use mathlib.Core.Path.{refl}
use Rattle.evaluators.proofs.NodeLaws.{not-below, pointer-variable, leaf-variable, no-pointer-leaf}
use Rattle.evaluators.proofs.leaves.pointer_leaf.Goals as goal

pub returns-then-user-node : goal.returns-then-user-node
returns-then-user-node c = record { leaf = λ fs ls hs cells l. not-below _ _ _ _ _ _ c.if-user-node.true }

pub returns-then-kind-eq16 : goal.returns-then-kind-eq16
returns-then-kind-eq16 c =
    record {
      leaf = λ fs ls hs cells l. pointer-variable _ _ _ _ _ c.if-user-node.false refl
          (leaf-variable _ _ c.if-kind-eq16.true c.wide.ensures) c.pointer_variable.ensures;
    }

pub returns : goal.returns
returns c = record { leaf = λ fs ls hs cells l. no-pointer-leaf _ _ _ _ _ c.if-user-node.false c.requires.2 c.if-kind-eq16.false }
