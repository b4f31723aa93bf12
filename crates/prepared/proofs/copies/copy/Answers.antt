-- The numbers so far are pasted.
-- Assumes nothing.
use native.Mathlib.Omega.{arith}
use native.Mathlib.Numerals.{add-one}
use Prim.Native.Nat.{ℕ, ◌+◌}
use mathlib.Core.Path.{sym, ◌∙◌, ap}
use mathlib.Core.List.{List}
use lib.ListN.{get_or, set}
use lib.Seq.{paste, paste-suc}
use Rattle.prepared.proofs.copies.copy.Goals as goal

pub loop-i-preserved : goal.loop-i-preserved
loop-i-preserved c =
    let g = c.args in
    let l = c.loop-i in
    let more = paste-suc g.list.now g.at g.numbers.now l.i 0 (omega (arith, c.requires.0)) (omega (arith, c.requires.1)) in
    ap (λ (x : List ℕ). set x (g.at + l.i) (get_or g.numbers.now l.i 0)) l.invariant ∙ more
    ∙ ap (paste g.list.now g.at g.numbers.now) (sym (add-one l.i))
