-- What the rules say of two places, from what is said of any.
-- Assumes nothing.
use mathlib.Core.Path.{◌≡◌, refl, sym, ◌∙◌}
use Prim.Native.Nat.{ℕ, zero, suc, ◌<◌}
use native.Mathlib.Omega.{arith}
use mathlib.Core.Bool.{Bool, true, false, not, ◌&&◌, ◌||◌}
use lib.Dec.{leb, eqb}
use borrow.Author.Tests.{ltb-true, lt-ltb, lt-leb, le-leb, ne_eqb, eqb-true, eqb-false}
use Rattle.std.specs.Prelude.{if◌then◌else◌}
use Rattle.model.specs.Table.{most}
use Rattle.model.specs.Class.{accepted_places, candidate, class, class_held, pair, tracked}
use Rattle.model.specs.Pair.{EmptyBetween, PairAccepted, PairClass, PairClasses, PairHeld, PairTracked}
use Rattle.model.proofs.ClassLaws.{weight-after, weight-at, weight-before}
use Rattle.model.proofs.Memory.{split}

and-true : (b : Bool) → (b && true) ≡ b
and-true true = refl
and-true false = refl

pub pair-accepted : PairAccepted
unfolding accepted_places
pair-accepted c1 c2 = and-true _

pair-rises : (c1 c2 : ℕ) → accepted_places (pair c1 c2) ≡ true → c1 < c2
pair-rises c1 c2 h = ltb-true c1 c2 (sym (pair-accepted c1 c2) ∙ h)

pub pair-class : PairClasses
unfolding class
pair-class c1 c2 h v = let l : c1 < c2 = pair-rises c1 c2 h in record {
  below = λ k. omega (arith, weight-before c1 v k, weight-before c2 v (omega arith));
  at_first = λ k. rw k (omega (arith, weight-at c1, weight-before c2 c1 (omega arith)));
  between = λ k j. omega (arith, weight-after c1 v k, weight-before c2 v j);
  at_second = λ k. rw k (omega (arith, weight-at c2, weight-after c1 c2 (omega arith)));
  above = λ k. omega (arith, weight-after c1 v (omega arith), weight-after c2 v k);
}

pub empty-between : EmptyBetween
empty-between c (n, l, e) =
    split n c
    (λ h. split c n (λ k. omega (arith, e, K.at_first (omega arith))) (λ k. omega (arith, e, K.below k)))
    (λ h. split n (suc c) (λ k. omega (arith, e, K.at_second (omega arith))) (λ k. omega (arith, e, K.above k)))
  where
    K : PairClass c (suc c) n
    K = pair-class c (suc c) (pair-accepted c (suc c) ∙ lt-ltb c (suc c) (omega arith)) n

pub pair-tracked : PairTracked
unfolding tracked
pair-tracked c1 c2 v = either (eqb c1 v) (eqb c2 v)
  where
    either : (a b : Bool) → (if a then true else (if b then true else false)) ≡ (a || b)
    either true b = refl
    either false true = refl
    either false false = refl

-- the candidates are 0, c1, c1 + 1, c2 and c2 + 1
pub pair_held : PairHeld
unfolding class_held candidate
pair_held c1 c2 h l zero = first (eqb c1 0) refl
  where
    first : (b : Bool) → eqb c1 0 ≡ b → eqb (class (pair c1 c2) 0) 0 ≡ not b && true
    first true e = rw ((pair-class c1 c2 h 0).at_first (sym (eqb-true c1 0 e)))
    first false e = rw ((pair-class c1 c2 h 0).below (omega (arith, eqb-false c1 0 e)))
pair_held c1 c2 h l (suc zero) =
    let g : c1 < c2 = pair-rises c1 c2 h in
    rw (le-leb c1 most (omega arith), (pair-class c1 c2 h c1).at_first refl)
pair_held c1 c2 h l (suc (suc zero)) = rw (le-leb (suc c1) most (omega (arith, g))) (between (eqb (suc c1) c2) refl)
  where
    g : c1 < c2
    g = pair-rises c1 c2 h

    between : (b : Bool) → eqb (suc c1) c2 ≡ b → eqb (class (pair c1 c2) (suc c1)) 2 ≡ not b && true
    between true e = rw ((pair-class c1 c2 h (suc c1)).at_second (eqb-true (suc c1) c2 e))
    between false e = rw ((pair-class c1 c2 h (suc c1)).between (omega arith) (omega (arith, g, eqb-false (suc c1) c2 e)))
pair_held c1 c2 h l (suc (suc (suc zero))) = rw (le-leb c2 most l, (pair-class c1 c2 h c2).at_second refl)
pair_held c1 c2 h l (suc (suc (suc (suc zero)))) = last (eqb c2 most) refl
  where
    last : (b : Bool) → eqb c2 most ≡ b → (leb (suc c2) most && eqb (class (pair c1 c2) (suc c2)) 4) ≡ not b
    last true e = rw (lt-leb (suc c2) most (omega (arith, eqb-true c2 most e)))
    last false e = rw (le-leb (suc c2) most (omega (arith, eqb-false c2 most e)), (pair-class c1 c2 h (suc c2)).above (omega arith))
pair_held c1 c2 h l (suc (suc (suc (suc (suc k))))) =
    rw (
      (pair-class c1 c2 h (suc c2)).above (omega arith),
      ne_eqb 4 (suc (suc (suc (suc (suc k))))) (λ e. omega arith),
      lt-leb (suc (suc (suc (suc (suc k))))) 4 (omega arith),
    )
    (never (leb (suc c2) most))
  where
    never : (b : Bool) → (b && false) ≡ false
    never true = refl
    never false = refl
