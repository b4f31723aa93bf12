-- Which kinds are left for a node of a plain table that was read for a uint, where it is not of some kinds.
-- Assumes nothing.
use Prim.Native.Nat.{ℕ}
use mathlib.Core.Path.{◌≡◌, refl}
use mathlib.Core.List.{[], ◌∷◌}
use mathlib.Core.Bool.{Bool}
use types.Run.{OneOf, hit}
use denote.Enum.Declared.{tag_of}
use Rattle.evaluators.specs.declared.nodes.Node.{Node as Taken}
use Rattle.evaluators.specs.declared.nodes.Node.TheVariants.{Variable as NVariable, Constant as NConstant, Flag as NFlag, Cell as NCell, Arith as NArith}
use Rattle.evaluators.specs.declared.nodes.Node.TheVariants.{Compare as NCompare, If as NIf, Valid as NValid, InClass as NInClass, Nothing as NNothing}
use Rattle.evaluators.specs.contracts.nodes.Node.{the_type as node}

pub node-no-plain-uint : (x : Taken) → ((a : ℕ) → x ≡ NVariable a → ⊥)
    → ((k : ℕ) → x ≡ NConstant k → ⊥)
    → ((v : Bool) (a : ℕ) → x ≡ NCell v a → ⊥)
    → ((m : Bool) (a : ℕ) (b : ℕ) → x ≡ NArith m a b → ⊥)
    → ((a : ℕ) (b : ℕ) (c : ℕ) → x ≡ NIf a b c → ⊥)
    → OneOf (2 ∷ 5 ∷ 7 ∷ 8 ∷ 9 ∷ []) (tag_of node x)
node-no-plain-uint (NVariable a) h0 h1 h2 h3 h4 = absurd (h0 a refl)
node-no-plain-uint (NConstant k) h0 h1 h2 h3 h4 = absurd (h1 k refl)
node-no-plain-uint (NFlag b) h0 h1 h2 h3 h4 = hit (2 ∷ 5 ∷ 7 ∷ 8 ∷ 9 ∷ []) 2 tt
node-no-plain-uint (NCell v a) h0 h1 h2 h3 h4 = absurd (h2 v a refl)
node-no-plain-uint (NArith m a b) h0 h1 h2 h3 h4 = absurd (h3 m a b refl)
node-no-plain-uint (NCompare k a b) h0 h1 h2 h3 h4 = hit (2 ∷ 5 ∷ 7 ∷ 8 ∷ 9 ∷ []) 5 tt
node-no-plain-uint (NIf a b c) h0 h1 h2 h3 h4 = absurd (h4 a b c refl)
node-no-plain-uint (NValid a) h0 h1 h2 h3 h4 = hit (2 ∷ 5 ∷ 7 ∷ 8 ∷ 9 ∷ []) 7 tt
node-no-plain-uint (NInClass a) h0 h1 h2 h3 h4 = hit (2 ∷ 5 ∷ 7 ∷ 8 ∷ 9 ∷ []) 8 tt
node-no-plain-uint NNothing h0 h1 h2 h3 h4 = hit (2 ∷ 5 ∷ 7 ∷ 8 ∷ 9 ∷ []) 9 tt
