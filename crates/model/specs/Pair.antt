-- What the rules say of c1 and c2: the case of two places. Proved in proofs/PairLaws.
use Rattle.std.specs.Prelude.{◌≡◌, ℕ, suc, ◌<◌, ◌≤◌, true, not, ◌&&◌, ◌||◌, ltb, leb, eqb}
use Rattle.model.specs.Table.{most}
use Rattle.model.specs.Class.{EmptyClass, accepted_places, class, class_held, pair, tracked}

-- 13: which pairs are accepted (rule 3.1)
abbrev pub PairAccepted : Type 0
PairAccepted = (c1 c2 : ℕ) → accepted_places (pair c1 c2) ≡ ltb c1 c2

-- the class of a number (rule 3.2); between neighbours there is no number, and the other classes keep their numbers
pub record PairClass (c1 c2 v : ℕ) : Type 0 where
  pub below : v < c1 → class (pair c1 c2) v ≡ 0
  pub at_first : v ≡ c1 → class (pair c1 c2) v ≡ 1
  pub between : c1 < v → v < c2 → class (pair c1 c2) v ≡ 2
  pub at_second : v ≡ c2 → class (pair c1 c2) v ≡ 3
  pub above : c2 < v → class (pair c1 c2) v ≡ 4

abbrev pub PairClasses : Type 0
PairClasses = (c1 c2 : ℕ) → accepted_places (pair c1 c2) ≡ true → (v : ℕ) → PairClass c1 c2 v

-- "both tracked circuits" of demand 3: the tracked places are c1 and c2, and no other (rule 3.1)
abbrev pub PairTracked : Type 0
PairTracked = (c1 c2 v : ℕ) → tracked (pair c1 c2) v ≡ (eqb c1 v || eqb c2 v)

-- between neighbours there is no number: class 2 is empty (rule 3.2)
abbrev pub EmptyBetween : Type 0
EmptyBetween = (c : ℕ) → EmptyClass (pair c (suc c)) 2

-- which numbers are no class, or an empty one: those above 4, 0 where c1 is 0, 2 where c2 is the number after c1, 4 where c2 is the largest number, and
-- no other (rules 3.2, 7.6)
abbrev pub PairHeld : Type 0
PairHeld =
    (c1 c2 : ℕ) → accepted_places (pair c1 c2) ≡ true → c2 ≤ most → (k : ℕ)
    → class_held (pair c1 c2) k
    ≡ (leb k 4 && (not (eqb k 0 && eqb c1 0) && (not (eqb k 2 && eqb (suc c1) c2) && not (eqb k 4 && eqb c2 most))))
