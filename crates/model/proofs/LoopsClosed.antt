-- A table in which every loop has its end, and every end a loop, has no loop open past its last row.
-- Assumes nothing.
use Prim.Native.Nat.{ℕ, zero, suc, ◌+◌, ◌-◌, ◌<◌, ◌≤◌}
use native.Mathlib.Omega.{arith}
use mathlib.Core.Path.{◌≡◌, refl, sym, ap, ◌∙◌, subst}
use mathlib.Core.List.{List, [], ◌∷◌, ◌++◌}
use lib.ListN.{length}
use Rattle.lists.specs.First.{walk}
use Rattle.model.specs.Table.{Nest, Table, matching_end, nest_at, nested, open_at, scanned}
use Rattle.model.specs.Table.Nest.{opens, closes, neither}
use Rattle.model.proofs.Nested.{Chain, chain, from}

-- every number is at least b
abbrev AllFrom : ℕ → List ℕ → Type 0
AllFrom b [] = Unit {0}
AllFrom b (x ∷ xs) = (b ≤ x) × AllFrom b xs

-- the loops open at a row, from row b on: some that were opened since, and no more than were open before
record OpenSince (b : ℕ) (before now : List ℕ) : Type 0 where
  new : List ℕ
  old : List ℕ
  is : now ≡ new ++ old
  since : AllFrom b new
  few : length old ≤ length before

module _ (t : Table) where
  open-since : (b k : ℕ) → OpenSince b (open_at t b) (open_at t (b + k))
  unfolding open_at
  open-since b zero = record { new = []; old = open_at t b; is = ap (open_at t) {x = b + 0} {y = b} (omega arith); since = tt; few = omega arith }
  open-since b (suc k) = subst (λ (r : ℕ). OpenSince b (open_at t b) (open_at t r)) {x = suc (b + k)} {y = b + suc k} (omega arith)
      (go (nest_at t (b + k)) refl (open-since b k))
    where
      close : (S : OpenSince b (open_at t b) (open_at t (b + k))) (xs : List ℕ) → S.new ≡ xs → OpenSince b (open_at t b) (nested closes (b + k) (xs ++ S.old))
      close S [] e = drop S.old S.few
        where
          drop : (ys : List ℕ) → length ys ≤ length (open_at t b) → OpenSince b (open_at t b) (nested closes (b + k) ys)
          drop [] l = record { new = []; old = []; is = refl; since = tt; few = omega arith }
          drop (y ∷ ys) l = record { new = []; old = ys; is = refl; since = tt; few = omega arith }
      close S (x ∷ xs) e = record { new = xs; old = S.old; is = refl; since = (subst (AllFrom b) e S.since).1; few = S.few }

      go : (n : Nest) → nest_at t (b + k) ≡ n → OpenSince b (open_at t b) (open_at t (b + k))
          → OpenSince b (open_at t b) (nested (nest_at t (b + k)) (b + k) (open_at t (b + k)))
      go opens e S = rw e (record { new = (b + k) ∷ S.new; old = S.old; is = ap (λ l. (b + k) ∷ l) S.is; since = (omega arith, S.since); few = S.few })
      go closes e S = rw e (subst (λ l. OpenSince b (open_at t b) (nested closes (b + k) l)) (sym S.is) (close S S.new refl))
      go neither e S = rw e S

  -- a scan that ends before the last row ends where the loops around it are open
  module _ (l : ℕ) (os : List ℕ) where
    closes_at : (f r : ℕ) (ds : List ℕ) → r + f ≡ t.rows → open_at t r ≡ ds ++ l ∷ os → from t r f (length ds) < t.rows
        → (r ≤ from t r f (length ds)) × (open_at t (suc (from t r f (length ds))) ≡ os)
    unfolding walk open_at
    closes_at zero r ds h e k = absurd (omega arith)
    closes_at (suc f) r ds h e k = go (nest_at t r) refl ds e k (λ ds'. closes_at f (suc r) ds' (omega arith))
      where
        go : (n : Nest) → nest_at t r ≡ n → (ds : List ℕ) → open_at t r ≡ ds ++ l ∷ os → scanned (nest_at t r) r (from t (suc r) f) (length ds) < t.rows
            → ((ds' : List ℕ) → nested (nest_at t r) r (open_at t r) ≡ ds' ++ l ∷ os → from t (suc r) f (length ds') < t.rows
            → (suc r ≤ from t (suc r) f (length ds')) × (open_at t (suc (from t (suc r) f (length ds'))) ≡ os))
            → (r ≤ scanned (nest_at t r) r (from t (suc r) f) (length ds)) × (open_at t (suc (scanned (nest_at t r) r (from t (suc r) f) (length ds))) ≡ os)
        go opens q ds e k ih = rw q (let s = ih (r ∷ ds) (rw (q, e)) (rw q at k) in (omega (arith, s.0), s.1))
        go closes q [] e k ih = (rw q (omega arith), simp (q, e))
        go closes q (d ∷ ds) e k ih = rw q (let s = ih ds (rw (q, e)) (rw q at k) in (omega (arith, s.0), s.1))
        go neither q ds e k ih = rw q (let s = ih ds (rw q e) (rw q at k) in (omega (arith, s.0), s.1))

  -- a loop that has its end is not open past the last row
  module _ (ended : (r : ℕ) → r < t.rows → nest_at t r ≡ opens → matching_end t r < t.rows) where
    still_open : (o : ℕ) (os : List ℕ) → open_at t t.rows ≡ o ∷ os → ⊥
    unfolding matching_end open_at
    still_open o os e =
        let c : Chain t (o ∷ os) = subst (Chain t) e (chain t t.rows (omega arith)) in
        let h : matching_end t o < t.rows = ended o c.0 c.1 in
        let s = closes_at o os (t.rows - suc o) (suc o) [] (omega (arith, c.0)) (rw (c.1, c.2)) h in
        clash (matching_end t o) h s.0 s.1
      where
        clash : (q : ℕ) → q < t.rows → suc o ≤ q → open_at t (suc q) ≡ os → ⊥
        clash q h l w = go S.new S.old (sym e ∙ ap (open_at t) {x = t.rows} {y = suc q + (t.rows - suc q)} (omega arith) ∙ S.is) S.since
            (omega (arith, S.few, ap length w))
          where
            S : OpenSince (suc q) (open_at t (suc q)) (open_at t (suc q + (t.rows - suc q)))
            S = open-since (suc q) (t.rows - suc q)

            go : (new old : List ℕ) → o ∷ os ≡ new ++ old → AllFrom (suc q) new → length old ≤ length os → ⊥
            go [] old z a b = omega (arith, ap length z)
            go (x ∷ xs) old z a b = let same : o ≡ x = cc in omega (arith, a.0)

    pub none-open : open_at t t.rows ≡ []
    none-open = go (open_at t t.rows) refl
      where
        go : (os : List ℕ) → open_at t t.rows ≡ os → open_at t t.rows ≡ []
        go [] e = e
        go (o ∷ os) e = absurd (still_open o os e)
