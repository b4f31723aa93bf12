-- `map::clear_openings` meets its contract: the places have the row count, and the size stays.
-- Assumes nothing.
use native.Mathlib.Omega.{arith}
use mathlib.Core.Path.{◌≡◌, refl, ◌∙◌}
use mathlib.Core.List.{drop}
use lib.ListN.{length, get_or-append, length-append, length-drop}
use Rattle.std.proofs.Common.{length-take}
use Rattle.procedures.proofs.map.clear_openings.Goals as goal

pub returns : goal.returns
returns c =
    let m = c.args.map.now in
    let new = c.fill.new.self in
    let few : length new ≡ 16 = omega (arith, c.fill.ensures.len, length-take 16 m) in record {
      size = omega (arith, length-append new (drop 16 m), length-drop 16 m);
      none = λ k l. get_or-append new (drop 16 m) 0 k (omega arith) ∙ c.fill.ensures.clones k 0 (omega (arith, c.fill.ensures.len)) refl;
    }
