-- Check 16 by where loops close and what they stand in: the loops open at a row are those around it.
-- Assumes nothing.
use Prim.Native.Nat.{ℕ, zero, suc, ◌+◌, ◌-◌, ◌/◌, ◌<◌, ◌≤◌}
use native.Mathlib.Omega.{arith}
use native.Mathlib.Decide.{dec_le}
use mathlib.Core.Path.{◌≡◌, refl, sym, ap, ◌∙◌, subst}
use mathlib.Core.Bool.{Bool, true, false, ◌||◌, false≢true, true≢false}
use mathlib.Core.List.{List, [], ◌∷◌, ◌++◌}
use lib.ListN.{length}
use lib.Dec.{leb, eqb}
use borrow.Author.Tests.{eqb-true, eqb-false, eq-eqb, ne_eqb, le-leb, leb-true}
use Rattle.std.specs.Prelude.{if◌then◌else◌}
use Rattle.lists.specs.First.{walk, first}
use Rattle.std.specs.Prelude.{Some}
use Rattle.lists.proofs.BoolLaws.{and_left, and_right}
use Rattle.model.specs.Table.{Table, row_at, Nest, nest_at, nested, scanned, matching_end, open_at, is_opening, home}
use Rattle.model.specs.Table.Nest.{opens, closes, neither}
use Rattle.model.proofs.Homes.{Home, home-is}
use Rattle.model.proofs.Homes.Home.{of_main, of_procedure}
use Rattle.model.proofs.Nested.{AllIn, Chain, Nested, from, loops-in}
use Rattle.kinds.specs.Kinds.{of_row}
use Rattle.kinds.specs.Code.{InSorts}
use Rattle.kinds.proofs.LineLaws.{row-found}
use Rattle.loop_checks.specs.Rules.{any, opened_with, opens_loop, shares_iterator}
use Rattle.loop_checks.specs.Sharing.{Around, Shares, FirstShares, AllDiffer, iterators_of}
use Rattle.loop_checks.proofs.OrLaws.{or_left, or_right}

-- ---- a test of a list

record Held (f : ℕ → Bool) (xs : List ℕ) : Type 0 where
  before : List ℕ
  item : ℕ
  after : List ℕ
  is : xs ≡ before ++ item ∷ after
  holds : f item ≡ true

any_held : (f : ℕ → Bool) (xs : List ℕ) → any f xs ≡ true → Held f xs
unfolding any
any_held f [] e = absurd (false≢true e)
any_held f (x ∷ xs) e = go (f x) refl e (any_held f xs)
  where
    go : (b : Bool) → f x ≡ b → (b || any f xs) ≡ true → (any f xs ≡ true → Held f xs) → Held f (x ∷ xs)
    go true q h later = record { before = []; item = x; after = xs; is = refl; holds = q }
    go false q h later = let r = later h in
        record { before = x ∷ r.before; item = r.item; after = r.after; is = ap (λ l. x ∷ l) r.is; holds = r.holds }

any_at : (f : ℕ → Bool) (before : List ℕ) (x : ℕ) (after : List ℕ) → f x ≡ true → any f (before ++ x ∷ after) ≡ true
unfolding any
any_at f [] x after e = rw e
any_at f (b ∷ bs) x after e = go (f b) (any_at f bs x after e)
  where
    go : (c : Bool) → any f (bs ++ x ∷ after) ≡ true → (c || any f (bs ++ x ∷ after)) ≡ true
    go true h = refl
    go false h = h

-- ---- the loops open at a row are those around it

module _ (t : Table) where
  -- a scan stops where it starts or later
  from_low : (f r d : ℕ) → r + f ≡ t.rows → r ≤ from t r f d
  unfolding walk
  from_low zero r d h = omega arith
  from_low (suc f) r d h = go (nest_at t r) d (λ e. from_low f (suc r) e (omega arith))
    where
      go : (n : Nest) (d : ℕ) → ((e : ℕ) → suc r ≤ from t (suc r) f e) → r ≤ scanned n r (from t (suc r) f) d
      go opens d later = omega (arith, later (suc d))
      go closes zero later = omega arith
      go closes (suc d) later = omega (arith, later d)
      go neither d later = omega (arith, later d)

  -- the loop of row o is open at row r, with the loops of `inside` open in it: the scan for its end is there
  record OpenIn (o r : ℕ) (inside outside : List ℕ) : Type 0 where
    opened : nest_at t o ≡ opens
    after : o < r
    around : open_at t o ≡ outside
    scan : matching_end t o ≡ from t r (t.rows - r) (length inside)

  -- the scan at row r is row r's part of it and the scan from the next row
  scan-more : (r d : ℕ) → r < t.rows → from t r (t.rows - r) d ≡ scanned (nest_at t r) r (from t (suc r) (t.rows - suc r)) d
  unfolding walk
  scan-more r d l = ap (λ (f : ℕ). from t r f d) {x = t.rows - r} {y = suc (t.rows - suc r)} (omega arith)

  open_in : (r o : ℕ) (ds os : List ℕ) → r ≤ t.rows → open_at t r ≡ ds ++ o ∷ os → OpenIn o r ds os
  unfolding open_at matching_end
  open_in zero o ds os l e = absurd (none ds e)
    where
      none : (ds : List ℕ) → [] ≡ ds ++ o ∷ os → ⊥
      none [] q = omega (arith, ap length q)
      none (d ∷ ds) q = omega (arith, ap length q)
  open_in (suc r) o ds os l e = go (nest_at t r) refl ds e (λ ds'. open_in r o ds' os (omega arith))
    where
      next : (ds ds' : List ℕ) → OpenIn o r ds os
          → scanned (nest_at t r) r (from t (suc r) (t.rows - suc r)) (length ds) ≡ from t (suc r) (t.rows - suc r) (length ds') → OpenIn o (suc r) ds' os
      next ds ds' I q = record {
        opened = I.opened;
        after = omega (arith, I.after);
        around = I.around;
        scan = I.scan ∙ scan-more r (length ds) l ∙ q;
      }

      tail : (xs ds : List ℕ) → nested closes r xs ≡ ds ++ o ∷ os → (x : ℕ) × (xs ≡ x ∷ ds ++ o ∷ os)
      tail [] [] q = absurd (omega (arith, ap length q))
      tail [] (d ∷ ds) q = absurd (omega (arith, ap length q))
      tail (x ∷ xs) ds q = (x, ap (λ l. x ∷ l) q)

      go : (n : Nest) → nest_at t r ≡ n → (ds : List ℕ) → nested (nest_at t r) r (open_at t r) ≡ ds ++ o ∷ os
          → ((ds' : List ℕ) → open_at t r ≡ ds' ++ o ∷ os → OpenIn o r ds' os) → OpenIn o (suc r) ds os
      go opens q [] e ih =
          let same : r ≡ o = cc (rw q at e) in
          let rest : open_at t r ≡ os = cc (rw q at e) in
          subst (λ (x : ℕ). OpenIn x (suc r) [] os) same (record { opened = q; after = omega arith; around = rest; scan = refl })
      go opens q (d ∷ ds) e ih = let rest : open_at t r ≡ ds ++ o ∷ os = cc (rw q at e) in next ds (d ∷ ds) (ih ds rest) (rw q)
      go closes q ds e ih = let x = tail (open_at t r) ds (rw q at e) in next (x.0 ∷ ds) ds (ih (x.0 ∷ ds) x.1) (rw q)
      go neither q ds e ih = next ds ds (ih ds (rw q at e)) (rw q)

  open-around : (r o : ℕ) (ds os : List ℕ) → r ≤ t.rows → open_at t r ≡ ds ++ o ∷ os → Around t o r
  open-around r o ds os l e =
      let I = open_in r o ds os l e in
      let low : r ≤ from t r (t.rows - r) (length ds) = from_low (t.rows - r) r (length ds) (omega arith) in
      record { opened = I.opened; after = I.after; within = omega (arith, I.scan, low) }

  -- k rows past the first in its loop, and not past its closing row
  record IsOpen (o r : ℕ) : Type 0 where
    inside : List ℕ
    is : open_at t r ≡ inside ++ o ∷ open_at t o
    scan : matching_end t o ≡ from t r (t.rows - r) (length inside)

  stays_open : (o : ℕ) → nest_at t o ≡ opens → (k : ℕ) → suc o + k ≤ t.rows → suc o + k ≤ matching_end t o → IsOpen o (suc o + k)
  unfolding open_at matching_end
  stays_open o h zero l m = subst (IsOpen o) {x = suc o} {y = suc o + 0} (omega arith) (record { inside = []; is = rw h; scan = refl })
  stays_open o h (suc k) l m =
      let I = stays_open o h k (omega arith) (omega arith) in
      subst (IsOpen o) {x = suc (suc o + k)} {y = suc o + suc k} (omega arith) (go (nest_at t (suc o + k)) refl I.inside I.is I.scan)
    where
      r : ℕ
      r = suc o + k

      go : (n : Nest) → nest_at t r ≡ n → (ds : List ℕ) → open_at t r ≡ ds ++ o ∷ open_at t o → matching_end t o ≡ from t r (t.rows - r) (length ds)
          → IsOpen o (suc r)
      go opens q ds e s = record { inside = r ∷ ds; is = rw (q, e); scan = s ∙ scan-more r (length ds) (omega arith) ∙ rw q }
      go closes q [] e s = let stops : matching_end t o ≡ r = s ∙ scan-more r 0 (omega arith) ∙ rw q in absurd (omega (arith, stops))
      go closes q (d ∷ ds) e s = record { inside = ds; is = rw (q, e); scan = s ∙ scan-more r (suc (length ds)) (omega arith) ∙ rw q }
      go neither q ds e s = record { inside = ds; is = rw q e; scan = s ∙ scan-more r (length ds) (omega arith) ∙ rw q }

  -- ---- so a row breaks 16 where it opens a loop with the iterator of one around it

  opens-loop : (n : Nest) → opens_loop n ≡ true → n ≡ opens
  opens-loop opens h = refl
  opens-loop closes h = absurd (false≢true h)
  opens-loop neither h = absurd (false≢true h)

  -- a loop opened since the first row of what row r belongs to stands in that, and no other does
  home-low : (r : ℕ) → home t r ≤ r
  home-low r = go (home t r) (home-is t r)
    where
      go : (h : ℕ) → Home t r h → h ≤ r
      go h of_main = omega arith
      go h (of_procedure q l e) = l

  home-since : (r o : ℕ) → o ≤ r → home t r ≤ o → home t o ≡ home t r
  unfolding home
  home-since zero o l h = ap (home t) {x = o} {y = 0} (omega arith)
  home-since (suc r) o l h = elim (dec_le o r) [
    | yes k ↦ go (is_opening t r) h k (home-since r o k)
    | no k ↦ ap (home t) {x = o} {y = suc r} (omega arith)
  ]
    where
      go : (b : Bool) → (if b then suc r else home t r) ≤ o → o ≤ r → (home t r ≤ o → home t o ≡ home t r) → home t o ≡ (if b then suc r else home t r)
      go true h k ih = absurd (omega arith)
      go false h k ih = ih h

  abbrev pub shared : ℕ → Bool
  shared r = shares_iterator t (home t r) r

  pub shares-found : (r : ℕ) → r ≤ t.rows → shared r ≡ true → (o : ℕ) × Shares t o r
  unfolding shares_iterator
  shares-found r l e =
      let H = any_held (opened_with t (home t r) (row_at t r).a) (open_at t r) (and_right (opens_loop (nest_at t r)) _ e) in
      let o = H.item in
      let A = open-around r o H.before H.after l H.is in
      let since : home t r ≤ o = leb-true (home t r) o (and_left (leb (home t r) o) (eqb (row_at t o).a (row_at t r).a) H.holds) in (
        o,
        record {
          around = A;
          opening = opens-loop (nest_at t r) (and_left (opens_loop (nest_at t r)) _ e);
          together = home-since r o (omega (arith, A.after)) since;
          iterator = sym (eqb-true (row_at t o).a (row_at t r).a (and_right (leb (home t r) o) _ H.holds));
        },
      )

  pub shares-holds : (o r : ℕ) → r ≤ t.rows → Shares t o r → shared r ≡ true
  unfolding shares_iterator
  shares-holds o r l S =
      let A = S.around in
      let k = r - suc o in
      let at : suc o + k ≡ r = omega (arith, A.after) in
      let I : IsOpen o r = subst (IsOpen o) at (stays_open o A.opened k (omega arith) (omega (arith, A.within))) in
      rw (S.opening, I.is)
      (any_at (opened_with t (home t r) (row_at t r).a) I.inside o (open_at t o)
      (rw (le-leb (home t r) o (omega (arith, home-low o, S.together)), eq-eqb (row_at t o).a (row_at t r).a (sym S.iterator))))

-- the first row that breaks 16 is the inner of the first two loops that share an iterator
pub first-shares : (t : Table) (line : ℕ) → InSorts t → first (of_row (shared t) t) 0 (length t.words / 4) ≡ Some line → FirstShares t line
first-shares t line laid h =
    let R = row-found (shared t) t laid line h in
    let S = shares-found t R.row (omega (arith, R.there)) R.holds in
    record {
      outer = S.0;
      inner = R.row;
      there = R.there;
      place = R.place;
      shares = S.1;
      first = λ o r l P. true≢false (sym (shares-holds t o r (omega (arith, R.there)) P) ∙ R.first r l);
    }

-- ---- the iterators of the loops open at once

-- none of these loops, all in the procedure q, has the iterator
no_other : (t : Table) (q v : ℕ) (os : List ℕ) → AllIn t q os → any (opened_with t q v) os ≡ false → any (eqb v) (iterators_of t os) ≡ false
unfolding any
no_other t q v [] a e = refl
no_other t q v (o ∷ os) (in-q, rest) e =
    let since : leb q o ≡ true = le-leb q o (omega (arith, home-low t o)) in
    let here : eqb (row_at t o).a v ≡ false = rw since at (or_left (opened_with t q v o) (any (opened_with t q v) os) e) in
    rw (ne_eqb v (row_at t o).a (λ z. eqb-false (row_at t o).a v here (sym z)))
    (no_other t q v os rest (or_right (opened_with t q v o) (any (opened_with t q v) os) e))

-- the iterators of a chain of loops, each opened where those after it were open
pub chain-differs : (t : Table) → Nested t → ((r : ℕ) → r < t.rows → shares_iterator t (home t r) r ≡ false) → (os : List ℕ) → Chain t os
    → AllDiffer (iterators_of t os)
unfolding shares_iterator
chain-differs t N apart [] c = tt
chain-differs t N apart (o ∷ os) (l, h, e, rest) =
    let alone : any (opened_with t (home t o) (row_at t o).a) os ≡ false = rw (h, e) at (apart o l) in
    let near : AllIn t (home t o) os = subst (AllIn t (home t o)) e (loops-in t N o (omega arith)) in
    (no_other t (home t o) (row_at t o).a os near alone, chain-differs t N apart os rest)
