-- `depths::first_deep` meets its contract: what is sought from 0 on is what is sought from `i` on, and what is kept stays right.
-- Assumes nothing.
use native.Mathlib.Omega.{arith}
use native.Mathlib.Nat.{sub-zero}
use mathlib.Core.Path.{refl, sym, ◌∙◌}
use Rattle.lists.proofs.FirstLaws.{first-hit, first-miss, first-none}
use Rattle.kinds.specs.Code.{table_in}
use Rattle.line_checks.specs.Rules.{breaks10}
use Rattle.line_checks.proofs.DepthLaws.{kept-none}
use Rattle.line_checks.proofs.depths.first_deep.Goals as goal

pub loop-i-init : goal.loop-i-init
loop-i-init c = (refl, kept-none _ 1024, rw sub-zero)

pub returns-then-breaks_10 : goal.returns-then-breaks_10
returns-then-breaks_10 c =
    let head = c.loop-i in
    sym (head.invariant.2 ∙ first-hit (breaks10 (table_in c.args.lines)) _ _
    (omega arith) (sym c.breaks_10.ensures.value ∙ c.if-breaks_10.true))

pub loop-i-preserved : goal.loop-i-preserved
loop-i-preserved c =
    let head = c.loop-i in
    let call = c.breaks_10 in (
      call.ensures.depths_len_2.0,
      call.ensures.depths_len_2.1,
      head.invariant.2 ∙ first-miss (breaks10 (table_in c.args.lines)) _ _
          (omega arith) (sym call.ensures.value ∙ c.if-breaks_10.false),
    )

pub returns : goal.returns
returns c =
    sym (c.loop-i.invariant.2 ∙ first-none (breaks10 (table_in c.args.lines)) _ _ (omega arith))
