-- Which procedure a row belongs to, where a procedure opens, and whose local a variable is.
-- Assumes nothing.
use mathlib.Core.Path.{◌≡◌, refl, sym, subst}
use Prim.Native.Nat.{ℕ, zero, suc, ◌+◌, ◌≤◌, ◌<◌}
use native.Mathlib.Omega.{arith}
use mathlib.Core.Bool.{Bool, true, false, ◌&&◌, false≢true}
use lib.Dec.{ltb, leb}
use borrow.Author.Tests.{ltb-true, leb-true, le-leb, lt-ltb}
use Rattle.std.specs.Prelude.{if◌then◌else◌}
use Rattle.lists.specs.First.{walk}
use Rattle.model.specs.Table.{Row, Stretch, Table, at_end, counted, home, is_opening, locals_of, opening, opens_procedure, within}
use Rattle.model.specs.Table.Row.{skip, assign, store, assert, assume, array, loop, loop_end, reduced_store, reduced_array, class_loop}
use Rattle.model.specs.Table.Row.{procedure, returns, call, no_row}
use Rattle.model.specs.Procedures.{owner}

pub opens-is : (k : Row) → opens_procedure k ≡ true → k ≡ procedure
opens-is skip e = absurd (false≢true e)
opens-is assign e = absurd (false≢true e)
opens-is store e = absurd (false≢true e)
opens-is assert e = absurd (false≢true e)
opens-is assume e = absurd (false≢true e)
opens-is array e = absurd (false≢true e)
opens-is loop e = absurd (false≢true e)
opens-is loop_end e = absurd (false≢true e)
opens-is reduced_store e = absurd (false≢true e)
opens-is reduced_array e = absurd (false≢true e)
opens-is class_loop e = absurd (false≢true e)
opens-is procedure e = refl
opens-is returns e = absurd (false≢true e)
opens-is call e = absurd (false≢true e)
opens-is no_row e = absurd (false≢true e)

-- a place of a stretch
pub place_in : (l : Stretch) (i : ℕ) → within l i ≡ true → (l.first ≤ i) × (i < l.first + l.count)
place_in l i e = go (leb l.first i) refl e
  where
    go : (b : Bool) → leb l.first i ≡ b → (b && ltb i (l.first + l.count)) ≡ true → (l.first ≤ i) × (i < l.first + l.count)
    go true d e = (leb-true _ _ d, ltb-true _ _ e)
    go false d e = absurd (false≢true e)

pub in_place : (l : Stretch) (i : ℕ) → l.first ≤ i → i < l.first + l.count → within l i ≡ true
in_place l i h k = rw (le-leb _ _ h, lt-ltb _ _ k)

-- main, or a procedure that opens above
pub data Home (t : Table) (r : ℕ) : ℕ → Type 0 where
  of_main : Home t r 0
  of_procedure : (q : ℕ) → q < r → is_opening t q ≡ true → Home t r (suc q)

module _ (t : Table) where
  pub home-is : (r : ℕ) → Home t r (home t r)
  unfolding home
  home-is zero = of_main
  home-is (suc r) = go (is_opening t r) refl (home t r) (home-is r)
    where
      go : (b : Bool) → is_opening t r ≡ b → (h : ℕ) → Home t r h → Home t (suc r) (if b then suc r else h)
      go true e h H = of_procedure r (omega arith) e
      go false e h of_main = of_main
      go false e h (of_procedure q l o) = of_procedure q (omega arith) o

  -- a row that opens no procedure belongs with the next
  pub home-next : (r : ℕ) → is_opening t r ≡ false → home t (suc r) ≡ home t r
  unfolding home
  home-next r e = rw e

  pub home-first : (r : ℕ) → is_opening t r ≡ true → home t (suc r) ≡ suc r
  unfolding home
  home-first r e = rw e

  -- a row at which neither main nor a procedure ends is one of the table's, and opens no procedure
  pub inside-end : (r : ℕ) → at_end t r ≡ false → (r < t.rows) × (is_opening t r ≡ false)
  unfolding at_end
  inside-end r e = go (ltb r t.rows) refl e
    where
      go : (b : Bool) → ltb r t.rows ≡ b → (if b then is_opening t r else true) ≡ false → (r < t.rows) × (is_opening t r ≡ false)
      go true d e = (ltb-true _ _ d, e)
      go false d e = absurd (false≢true (sym e))

  -- the scan for a procedure stops at one that opens
  found : (n i k : ℕ) → i + n ≡ t.rows → walk (λ i rest. counted (is_opening t i) i rest) (λ k. t.rows) i n k < t.rows
      → is_opening t (walk (λ i rest. counted (is_opening t i) i rest) (λ k. t.rows) i n k) ≡ true
  unfolding walk
  found zero i k h l = absurd (omega arith)
  found (suc n) i k h l = go (is_opening t i) refl k l (λ k. found n (suc i) k (omega arith))
    where
      rest : ℕ → ℕ
      rest = walk (λ i rest. counted (is_opening t i) i rest) (λ k. t.rows) (suc i) n

      go : (b : Bool) → is_opening t i ≡ b → (k : ℕ) → counted (is_opening t i) i rest k < t.rows
          → ((k : ℕ) → rest k < t.rows → is_opening t (rest k) ≡ true) → is_opening t (counted (is_opening t i) i rest k) ≡ true
      go true e zero l ih = rw e e
      go true e (suc k) l ih = rw e (ih k (rw e at l))
      go false e k l ih = rw e (ih k (rw e at l))

  pub opening-is : (k : ℕ) → opening t k < t.rows → is_opening t (opening t k) ≡ true
  unfolding opening
  opening-is k h = found t.rows 0 k (omega arith) h

  -- a variable that is some procedure's is among its locals
  abbrev pub Lists : ℕ → ℕ → Type 0
  Lists v o = (o < t.rows) × (is_opening t o ≡ true) × (within (locals_of t (suc o)) v ≡ true)

  owned : (n i v o : ℕ) → i + n ≡ t.rows → walk (λ i rest. if is_opening t i && within (locals_of t (suc i)) v then suc i else rest) 0 i n ≡ suc o
      → Lists v o
  unfolding walk
  owned zero i v o h e = absurd (omega arith)
  owned (suc n) i v o h e = go (is_opening t i) refl (within (locals_of t (suc i)) v) refl e (owned n (suc i) v o (omega arith))
    where
      rest : ℕ
      rest = walk (λ i rest. if is_opening t i && within (locals_of t (suc i)) v then suc i else rest) 0 (suc i) n

      go : (a : Bool) → is_opening t i ≡ a → (b : Bool) → within (locals_of t (suc i)) v ≡ b
          → (if a && b then suc i else rest) ≡ suc o
          → (rest ≡ suc o → Lists v o) → Lists v o
      go true d true w e ih = subst (Lists v) (let q : i ≡ o = omega arith in q) (omega arith, d, w)
      go true d false w e ih = ih e
      go false d b w e ih = ih e

  pub owner-within : (v o : ℕ) → owner t v ≡ suc o → Lists v o
  unfolding owner
  owner-within v o e = owned t.rows 0 v o (omega arith) e
