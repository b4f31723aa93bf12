-- `map_procedures` meets its contract: before each row the map is right of the procedures opened before it and of the rows above it.
-- Assumes nothing.
use borrow.Author.Rules.{rules}
use native.Mathlib.Omega.{arith}
use mathlib.Core.Path.{◌≡◌, sym}
use Rattle.kinds.specs.Code.{table_by}
use Rattle.kinds.proofs.LineLaws.{byte-is, byte-most, home-more, home-none}
use Rattle.procedures.proofs.MapLaws.{before_more, before-none, mapped-all, opened-more, opened-none}
use Rattle.procedures.proofs.map_procedures.Goals as goal

pub loop-row-init : goal.loop-row-init
loop-row-init c =
    let t = table_by c.args.words.now c.args.counts in
    (search rules, search rules, sym (home-none t), sym (opened-none t), before-none t _ c.clear_openings.ensures)

pub loop-row-preserved : goal.loop-row-preserved
loop-row-preserved c =
    let t = table_by c.args.words.now c.args.counts in
    let at_head = c.loop-row in
    let opens = c.opens_procedure-opens in (
      search rules,
      omega (arith, c.from-opened.ensures, byte-most opens.result),
      rw (c.home_after-home.ensures.0, opens.ensures, at_head.invariant.2) (sym (home-more t at_head.row)),
      rw (c.from-opened.ensures, byte-is opens.result, opens.ensures, at_head.invariant.3) (sym (opened-more t at_head.row)),
      rw c.note_opening.ensures
          (before_more t at_head.map at_head.row at_head.invariant.4 at_head.home at_head.invariant.2 (omega arith) c.loop-row-test.true
          opens.result opens.ensures at_head.opened at_head.invariant.3),
    )

pub returns : goal.returns
returns c =
    let t = table_by c.args.words.now c.args.counts in
    let at_head = c.loop-row in
    let e : at_head.row ≡ t.rows = omega arith in
    rw e at (mapped-all t at_head.map at_head.row at_head.invariant.4 at_head.home at_head.invariant.2 (omega arith) e)
