-- `loops::matching_end` meets its contract: the end is what the rest of the scan finds.
-- Assumes nothing.
use borrow.Author.Rules.{rules}
use Prim.Native.Nat.{◌+◌}
use native.Mathlib.Omega.{arith}
use mathlib.Core.Path.{sym, ap, ◌∙◌}
use Rattle.kinds.specs.Kinds.{nest_said}
use Rattle.kinds.specs.Code.{table_by}
use Rattle.loop_checks.specs.Code.{scan_from}
use Rattle.loop_checks.proofs.LoopLaws.{scan-start, scan-done, scan-hit, scan-next}
use Rattle.loop_checks.proofs.loops.matching_end.Goals as goal

pub scan-init : goal.scan-init
scan-init c = let t = table_by c.args.words.now c.args.counts in
    (search rules, search rules, scan-start t c.args.row)

pub scan-preserved : goal.scan-preserved
scan-preserved c =
    let t = table_by c.args.words.now c.args.counts in
    let at_head = c.scan in
    let inside = c.if-counts-i.false in
    let nested = c.nest_of-nest in (
      search rules,
      omega (arith, c.open_after-inner.ensures.1),
      at_head.invariant.2
          ∙ scan-next t at_head.i at_head.inner (nest_said nested.result) inside nested.ensures (sym c.ends_scan.ensures ∙ c.if-ends_scan.false)
          ∙ sym (ap (scan_from t (at_head.i + 1)) c.open_after-inner.ensures.0),
    )

pub returns-then-counts-i : goal.returns-then-counts-i
returns-then-counts-i c =
    let t = table_by c.args.words.now c.args.counts in
    let at_head = c.scan in sym (at_head.invariant.2 ∙ scan-done t at_head.i at_head.inner c.if-counts-i.true)

pub returns-then-ends_scan : goal.returns-then-ends_scan
returns-then-ends_scan c =
    let t = table_by c.args.words.now c.args.counts in
    let at_head = c.scan in
    let inside = c.if-counts-i.false in
    let nested = c.nest_of-nest in
    let next = nest_said nested.result in
    sym (at_head.invariant.2 ∙ scan-hit t at_head.i at_head.inner next inside nested.ensures (sym c.ends_scan.ensures ∙ c.if-ends_scan.true))
