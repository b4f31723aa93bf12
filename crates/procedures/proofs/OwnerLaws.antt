-- Whose local a variable is, by the rows 43 before a row.
-- Assumes nothing.
use Prim.Native.Nat.{ℕ, zero, suc, ◌+◌, ◌<◌, ◌≤◌}
use native.Mathlib.Omega.{arith}
use native.Mathlib.Numerals.{add-one}
use mathlib.Core.Path.{◌≡◌, refl, sym, ap, ◌∙◌}
use mathlib.Core.Bool.{Bool, true, false, ◌&&◌}
use mathlib.Core.List.{List}
use lib.ListN.{get_or, replicate}
use lib.Dec.{eqb}
use borrow.Author.Tests.{ne_eqb, eqb-true}
use Rattle.std.specs.Prelude.{if◌then◌else◌}
use Rattle.lists.specs.First.{walk}
use Rattle.model.specs.Table.{Table, is_opening, locals_of, row_at, within}
use Rattle.model.specs.Procedures.{owner}
use Rattle.model.proofs.Homes.{owner-within}
use Rattle.procedures.specs.Code.{claimed, Claimed, Owners}

-- the number after the first of n numbers from i on at which a test holds, or 0; one more of them
abbrev first_after : (ℕ → Bool) → ℕ → ℕ → ℕ
first_after f i n = walk (λ i rest. if f i then suc i else rest) 0 i n

after_more : (f : ℕ → Bool) (n i : ℕ) → first_after f i (suc n) ≡ claimed (first_after f i n) (f (i + n)) (suc (i + n))
unfolding walk
after_more f zero i = let e : i ≡ i + 0 = omega arith in ap (λ (j : ℕ). if f j then suc j else 0) e
after_more f (suc n) i = go (f i) (after_more f n (suc i))
  where
    go : (b : Bool) → first_after f (suc i) (suc n) ≡ claimed (first_after f (suc i) n) (f (suc i + n)) (suc (suc i + n))
        → (if b then suc i else first_after f (suc i) (suc n)) ≡ claimed (if b then suc i else first_after f (suc i) n) (f (i + suc n)) (suc (i + suc n))
    go true ih = rw (ne_eqb (suc i) 0 (λ e. omega arith))
    go false ih = let e : suc i + n ≡ i + suc n = omega arith in ih ∙ ap (λ (j : ℕ). claimed (first_after f (suc i) n) (f j) (suc j)) e

module _ (t : Table) where
  -- a variable's number by the first r rows
  abbrev lists : ℕ → ℕ → Bool
  lists v i = is_opening t i && within (locals_of t (suc i)) v

  pub record OwnersBefore (owners : List ℕ) (r : ℕ) : Type 0 where
    pub right : (v : ℕ) → v < 32 → get_or owners v 0 ≡ first_after (lists v) 0 r

  pub owners-none : OwnersBefore (replicate 32 0) 0
  unfolding walk
  owners-none = record { right = λ v l. zero-at 32 v }
    where
      zero-at : (n j : ℕ) → ◌≡◌ {A = ℕ} (get_or (replicate n 0) j 0) 0
      zero-at zero j = refl
      zero-at (suc n) zero = refl
      zero-at (suc n) (suc j) = zero-at n j

  module _ (owners : List ℕ) (r : ℕ) (o : OwnersBefore owners r) where
    more : (v : ℕ) → v < 32 → first_after (lists v) 0 (r + 1) ≡ claimed (get_or owners v 0) (lists v r) (suc r)
    more v l =
        let e : 0 + r ≡ r = omega arith in
        rw (add-one r, o.right v l) (after_more (lists v) r 0 ∙ ap (λ (j : ℕ). claimed (first_after (lists v) 0 r) (lists v j) (suc j)) e)

    -- a row that lists none, and a 43
    pub owners-other : is_opening t r ≡ false → OwnersBefore owners (r + 1)
    owners-other e = record { right = λ v l. sym (more v l ∙ rw e (go (get_or owners v 0) (eqb (get_or owners v 0) 0) refl)) }
      where
        go : (x : ℕ) (b : Bool) → eqb x 0 ≡ b → (if b then 0 else x) ≡ x
        go x true e = sym (eqb-true x 0 e)
        go x false e = refl

    pub owners-more : (new : List ℕ) → is_opening t r ≡ true → Claimed owners new (row_at t r).a (row_at t r).b (r + 1) → OwnersBefore new (r + 1)
    owners-more new e c = record {
      right = λ v l. c.each v l ∙ sym (more v l ∙ rw e (ap (claimed (get_or owners v 0) (within (locals_of t (suc r)) v)) (sym (add-one r))));
    }

  pub owners-all : (owners : List ℕ) → OwnersBefore owners t.rows → Owners t owners
  unfolding owner
  owners-all owners o = record { right = o.right }

  -- no owner is past the rows
  pub owner-low : (v : ℕ) → owner t v ≤ t.rows
  owner-low v = go (owner t v) refl
    where
      go : (o : ℕ) → owner t v ≡ o → o ≤ t.rows
      go zero e = omega arith
      go (suc o) e = (owner-within t v o e).0
