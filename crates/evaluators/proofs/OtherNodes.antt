-- Which kinds are left for a node that was read, where it is not of some kinds.
-- Assumes nothing.
use Prim.Native.Nat.{ℕ}
use mathlib.Core.Path.{◌≡◌, refl}
use mathlib.Core.List.{[], ◌∷◌}
use mathlib.Core.Bool.{Bool}
use types.Run.{OneOf, hit}
use denote.Enum.Declared.{tag_of}
use Rattle.evaluators.specs.declared.nodes.Node.{Node as Taken}
use Rattle.evaluators.specs.declared.nodes.Node.TheVariants.{Variable as NVariable, Constant as NConstant, Flag as NFlag, Cell as NCell, Arith as NArith}
use Rattle.evaluators.specs.declared.nodes.Node.TheVariants.{Compare as NCompare, If as NIf, Valid as NValid, InClass as NInClass, Nothing as NNothing}
use Rattle.evaluators.specs.declared.nodes.Test.{Test}
use Rattle.evaluators.specs.contracts.nodes.Node.{the_type as node}

pub node-no-bool : (x : Taken) → ((a : ℕ) → x ≡ NVariable a → ⊥)
    → ((b : Bool) → x ≡ NFlag b → ⊥)
    → ((k : Test) (a : ℕ) (b : ℕ) → x ≡ NCompare k a b → ⊥)
    → ((a : ℕ) (b : ℕ) (c : ℕ) → x ≡ NIf a b c → ⊥)
    → ((a : ℕ) → x ≡ NValid a → ⊥)
    → OneOf (1 ∷ 3 ∷ 4 ∷ 8 ∷ 9 ∷ []) (tag_of node x)
node-no-bool (NVariable a) h0 h1 h2 h3 h4 = absurd (h0 a refl)
node-no-bool (NConstant k) h0 h1 h2 h3 h4 = hit (1 ∷ 3 ∷ 4 ∷ 8 ∷ 9 ∷ []) 1 tt
node-no-bool (NFlag b) h0 h1 h2 h3 h4 = absurd (h1 b refl)
node-no-bool (NCell v a) h0 h1 h2 h3 h4 = hit (1 ∷ 3 ∷ 4 ∷ 8 ∷ 9 ∷ []) 3 tt
node-no-bool (NArith m a b) h0 h1 h2 h3 h4 = hit (1 ∷ 3 ∷ 4 ∷ 8 ∷ 9 ∷ []) 4 tt
node-no-bool (NCompare k a b) h0 h1 h2 h3 h4 = absurd (h2 k a b refl)
node-no-bool (NIf a b c) h0 h1 h2 h3 h4 = absurd (h3 a b c refl)
node-no-bool (NValid a) h0 h1 h2 h3 h4 = absurd (h4 a refl)
node-no-bool (NInClass a) h0 h1 h2 h3 h4 = hit (1 ∷ 3 ∷ 4 ∷ 8 ∷ 9 ∷ []) 8 tt
node-no-bool NNothing h0 h1 h2 h3 h4 = hit (1 ∷ 3 ∷ 4 ∷ 8 ∷ 9 ∷ []) 9 tt

pub node-no-pointer : (x : Taken) → ((a : ℕ) → x ≡ NVariable a → ⊥)
    → ((m : Bool) (a : ℕ) (b : ℕ) → x ≡ NArith m a b → ⊥)
    → ((a : ℕ) (b : ℕ) (c : ℕ) → x ≡ NIf a b c → ⊥)
    → OneOf (1 ∷ 2 ∷ 3 ∷ 5 ∷ 7 ∷ 8 ∷ 9 ∷ []) (tag_of node x)
node-no-pointer (NVariable a) h0 h1 h2 = absurd (h0 a refl)
node-no-pointer (NConstant k) h0 h1 h2 = hit (1 ∷ 2 ∷ 3 ∷ 5 ∷ 7 ∷ 8 ∷ 9 ∷ []) 1 tt
node-no-pointer (NFlag b) h0 h1 h2 = hit (1 ∷ 2 ∷ 3 ∷ 5 ∷ 7 ∷ 8 ∷ 9 ∷ []) 2 tt
node-no-pointer (NCell v a) h0 h1 h2 = hit (1 ∷ 2 ∷ 3 ∷ 5 ∷ 7 ∷ 8 ∷ 9 ∷ []) 3 tt
node-no-pointer (NArith m a b) h0 h1 h2 = absurd (h1 m a b refl)
node-no-pointer (NCompare k a b) h0 h1 h2 = hit (1 ∷ 2 ∷ 3 ∷ 5 ∷ 7 ∷ 8 ∷ 9 ∷ []) 5 tt
node-no-pointer (NIf a b c) h0 h1 h2 = absurd (h2 a b c refl)
node-no-pointer (NValid a) h0 h1 h2 = hit (1 ∷ 2 ∷ 3 ∷ 5 ∷ 7 ∷ 8 ∷ 9 ∷ []) 7 tt
node-no-pointer (NInClass a) h0 h1 h2 = hit (1 ∷ 2 ∷ 3 ∷ 5 ∷ 7 ∷ 8 ∷ 9 ∷ []) 8 tt
node-no-pointer NNothing h0 h1 h2 = hit (1 ∷ 2 ∷ 3 ∷ 5 ∷ 7 ∷ 8 ∷ 9 ∷ []) 9 tt

pub node-no-uint : (x : Taken) → ((a : ℕ) → x ≡ NVariable a → ⊥)
    → ((k : ℕ) → x ≡ NConstant k → ⊥)
    → ((v : Bool) (a : ℕ) → x ≡ NCell v a → ⊥)
    → ((m : Bool) (a : ℕ) (b : ℕ) → x ≡ NArith m a b → ⊥)
    → ((a : ℕ) (b : ℕ) (c : ℕ) → x ≡ NIf a b c → ⊥)
    → ((a : ℕ) → x ≡ NInClass a → ⊥)
    → OneOf (2 ∷ 5 ∷ 7 ∷ 9 ∷ []) (tag_of node x)
node-no-uint (NVariable a) h0 h1 h2 h3 h4 h5 = absurd (h0 a refl)
node-no-uint (NConstant k) h0 h1 h2 h3 h4 h5 = absurd (h1 k refl)
node-no-uint (NFlag b) h0 h1 h2 h3 h4 h5 = hit (2 ∷ 5 ∷ 7 ∷ 9 ∷ []) 2 tt
node-no-uint (NCell v a) h0 h1 h2 h3 h4 h5 = absurd (h2 v a refl)
node-no-uint (NArith m a b) h0 h1 h2 h3 h4 h5 = absurd (h3 m a b refl)
node-no-uint (NCompare k a b) h0 h1 h2 h3 h4 h5 = hit (2 ∷ 5 ∷ 7 ∷ 9 ∷ []) 5 tt
node-no-uint (NIf a b c) h0 h1 h2 h3 h4 h5 = absurd (h4 a b c refl)
node-no-uint (NValid a) h0 h1 h2 h3 h4 h5 = hit (2 ∷ 5 ∷ 7 ∷ 9 ∷ []) 7 tt
node-no-uint (NInClass a) h0 h1 h2 h3 h4 h5 = absurd (h5 a refl)
node-no-uint NNothing h0 h1 h2 h3 h4 h5 = hit (2 ∷ 5 ∷ 7 ∷ 9 ∷ []) 9 tt
