-- `types::locals_uints` meets its contract: the locals passed are uints.
-- Assumes nothing.
use Prim.Native.Nat.{◌+◌}
use native.Mathlib.Omega.{arith}
use mathlib.Core.Path.{◌≡◌, refl, sym}
use lib.Dec.{eqb}
use borrow.Author.Tests.{eq-eqb, ne_eqb}
use Rattle.lists.specs.Tab.{all}
use Rattle.lists.proofs.TabLaws.{all_more, all-stop}
use Rattle.line_checks.specs.Code.{variable_type, locals_uints}
use Rattle.line_checks.proofs.types.locals_uints.Goals as goal

pub loop-i-init : goal.loop-i-init
unfolding all
loop-i-init c = refl

pub returns-then-variable_type-ne-UINT : goal.returns-then-variable_type-ne-UINT
unfolding locals_uints
returns-then-variable_type-ne-UINT c =
    let a = c.args in
    sym (all-stop a.count (λ j. eqb (variable_type a.words.now (a.a + j)) 2) c.loop-i.i (omega arith)
    (rw (← c.variable_type.ensures) (ne_eqb c.variable_type.result 2 c.if-variable_type-ne-UINT.true)))

pub loop-i-preserved : goal.loop-i-preserved
loop-i-preserved c =
    let a = c.args in
    all_more (λ j. eqb (variable_type a.words.now (a.a + j)) 2) c.loop-i.i c.loop-i.invariant
    (rw (← c.variable_type.ensures) (eq-eqb c.variable_type.result 2 c.if-variable_type-ne-UINT.false))

pub returns : goal.returns
unfolding locals_uints
returns c =
    let a = c.args in
    let e : c.loop-i.i ≡ a.count = omega arith in
    sym (rw e at c.loop-i.invariant)
