-- `sorts::counts_of` meets its contract: each count is a sum over the lines passed.
-- Assumes nothing.
use borrow.Author.Rules.{rules}
use native.Mathlib.Omega.{arith}
use mathlib.Core.Path.{refl}
use Rattle.lists.specs.Tab.{sum}
use Rattle.lists.proofs.TabLaws.{sum_more}
use Rattle.model.specs.Table.{line_at, is_declaration, is_node, is_row}
use Rattle.kinds.proofs.LineLaws.{byte-is}
use Rattle.table.specs.Code.{one}
use Rattle.table.proofs.sorts.counts_of.Goals as goal

pub loop-i-init : goal.loop-i-init
unfolding sum
loop-i-init c = (refl, refl, refl, search rules)

pub loop-i-preserved : goal.loop-i-preserved
loop-i-preserved c =
    let w = c.args.words.now in
    let i = c.loop-i.i in (
      omega (arith, c.from-decls.ensures, byte-is (is_declaration (line_at w i).kind), sum_more (one is_declaration w) i),
      omega (arith, c.from-nodes.ensures, byte-is (is_node (line_at w i).kind), sum_more (one is_node w) i),
      omega (arith, c.from-rows.ensures, byte-is (is_row (line_at w i).kind), sum_more (one is_row w) i),
      search rules,
    )
