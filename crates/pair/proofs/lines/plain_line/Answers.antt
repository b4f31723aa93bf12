-- The run passes its checks, so that its line is the report's.
-- Assumes nothing.
use mathlib.Core.Path.{refl}
use Rattle.pair.proofs.LineLaws.{plain-ok, plain-said}
use Rattle.pair.proofs.lines.plain_line.Goals as goal

pub unwrap-ran-requires : goal.unwrap-ran-requires
unwrap-ran-requires c = plain-ok c.args.t.now _ _ c.args.limit c.run_plain.result c.requires refl c.run_plain.ensures

pub returns : goal.returns
returns c =
    plain-said c.args.t.now _ _ c.args.limit c.run_plain.result c.requires refl c.run_plain.ensures _ c.line_of.result c.unwrap-ran.ensures c.line_of.ensures
