-- Laws of check 15 as the code makes it, of where the run or a caller stands: the walk back over the rows, the starts and ends, and both together.
-- Assumes nothing.
use Prim.Native.Nat.{ℕ, zero, suc, ◌+◌, ◌≤◌, ◌<◌}
use native.Mathlib.Omega.{arith as numbers}
use mathlib.Core.Path.{◌≡◌, refl, sym, ap, ◌∙◌, subst}
use mathlib.Core.Logic.{◌≢◌}
use mathlib.Core.Bool.{Bool, true, false, ◌&&◌}
use mathlib.Core.List.{List, [], ◌∷◌, map}
use lib.ListN.{get_or, drop}
use lib.Seq.{drop-drop}
use lib.Dec.{leb, eqb}
use borrow.Author.Tests.{le-leb, lt-leb, ne_eqb}
use Rattle.std.specs.Prelude.{if◌then◌else◌}
use Rattle.std.specs.Prelude.{Some, None}
use Rattle.std.specs.Bool.{then_some}
use Rattle.lists.specs.Tab.{listed, tab}
use Rattle.model.specs.Table.{Table, row_at, Nest, nested, nest_at, open_at}
use Rattle.model.specs.Table.Nest.{opens, closes, neither}
use Rattle.model.specs.State.{Loop, position}
use Rattle.calls.specs.Stack.{loops_of}
use Rattle.calls.proofs.StackLaws.{loops-split}
use Rattle.records.specs.Record.{same_numbers, stands_right, starts_within}
use Rattle.records.specs.CodeRecord.{rows_of, met_by, Walk, walk_out, closed_in, Walks}

-- ---- the rows of the loops
rows-of : (n : ℕ) (rs ss es : List ℕ) → rows_of n rs ≡ map (λ (l : Loop). l.row) (loops_of n rs ss es)
unfolding rows_of loops_of tab listed
rows-of zero rs ss es = refl
rows-of (suc n) rs ss es = ap (λ (l : List ℕ). get_or rs n 0 ∷ l) (rows-of n rs ss es) ∙ sym (ap (map (λ (l : Loop). l.row)) (loops-split n rs ss es))

module _ (rows : List ℕ) (left i : ℕ) where
  pub met-none : left ≡ 0 → None ≡ met_by rows left i
  unfolding met_by
  met-none e = rw e

  pub met-some : {n x : ℕ} → left ≡ suc n → x ≡ get_or rows n 0 → then_some (eqb x i) (0, n) ≡ met_by rows left i
  unfolding met_by
  met-some {n} {x} e g = rw (e, ← g) (go (eqb x i))
    where
      go : (b : Bool) → then_some {T = ℕ × ℕ} b (0, n) ≡ (if b then Some (0, n) else None)
      go true = refl
      go false = refl

-- ---- one row of the walk
-- a row that closes a loop leaves those around it
nested-closed : (i : ℕ) (os : List ℕ) → nested closes i os ≡ drop 1 os
nested-closed i [] = refl
nested-closed i (o ∷ os) = refl

module _ (rows : List ℕ) (closed left i : ℕ) where
  met-walk : (left : ℕ) (os : List ℕ) → walk_out rows (met_by rows left i) os ≡ same_numbers (rows_of left rows) (i ∷ os)
  unfolding met_by rows_of
  met-walk zero os = refl
  met-walk (suc n) os = go (eqb (get_or rows n 0) i)
    where
      go : (b : Bool) → walk_out rows (if b then Some (0, n) else None) os ≡ (b && same_numbers (rows_of n rows) os)
      go true = refl
      go false = refl

  met-closed : (left : ℕ) → (r : Walk) → r ≡ met_by rows left i → closed_in r ≤ suc closed
  unfolding met_by
  met-closed zero r e = rw e (omega numbers)
  met-closed (suc n) r e = rw e (go (eqb (get_or rows n 0) i))
    where
      go : (b : Bool) → closed_in (if b then Some (0, n) else None) ≤ suc closed
      go true = omega numbers
      go false = omega numbers

  pub walk-met : (r : Walk) → closed ≡ 0 → r ≡ met_by rows left i → Walks rows opens closed left i r
  walk-met r z h = record { most = met-closed left r h; walked = λ os. rw (z, h) (met-walk left os) }

  pub walk-inner : {k : ℕ} → closed ≡ suc k → Walks rows opens closed left i (Some (k, left))
  walk-inner {k} z = record { most = omega (numbers, z); walked = λ os. rw z }

  pub walk-closed : Walks rows closes closed left i (Some (closed + 1, left))
  walk-closed = record {
    most = omega numbers;
    walked = λ os. ap (λ (n : ℕ). same_numbers (rows_of left rows) (drop n os)) (let z : closed + 1 ≡ 1 + closed = omega numbers in z)
        ∙ ap (same_numbers (rows_of left rows)) (sym (drop-drop closed 1 os) ∙ ap (drop closed) (sym (nested-closed i os)));
  }

  pub walk-past : Walks rows neither closed left i (Some (closed, left))
  walk-past = record { most = omega numbers; walked = λ os. refl }

-- ---- the walk
before-row : (t : Table) (i : ℕ) (n : Nest) → n ≡ nest_at t i → open_at t (suc i) ≡ nested n i (open_at t i)
unfolding open_at
before-row t i n e = rw e

module _ (t : Table) (row count : ℕ) (rows : List ℕ) where
  -- what is asked: the loops that are open are those around the row
  abbrev pub around : Bool
  around = same_numbers (rows_of count rows) (open_at t row)

  -- what is left of the comparison, after the walk to row i
  abbrev pub Around : ℕ → ℕ → ℕ → Type 0
  Around closed left i = same_numbers (rows_of left rows) (drop closed (open_at t i)) ≡ around

  module _ (closed left j i : ℕ) (A : Around closed left j) (p : j ≡ suc i) (k : Nest) (e : k ≡ nest_at t i) (r : Walk)
      (W : Walks rows k closed left i r) where
    walks : walk_out rows r (open_at t i) ≡ around
    walks =
        W.walked (open_at t i)
        ∙ ap (λ (os : List ℕ). same_numbers (rows_of left rows) (drop closed os)) (sym (before-row t i k e) ∙ ap (open_at t) (sym p)) ∙ A

    pub around-most : {c n : ℕ} → r ≡ Some (c, n) → c ≤ suc closed
    around-most q = subst (λ (r : Walk). closed_in r ≤ suc closed) q W.most

    pub around-next : {c n : ℕ} → r ≡ Some (c, n) → Around c n i
    around-next q = sym (ap (λ (r : Walk). walk_out rows r (open_at t i)) q) ∙ walks

    pub around-off : r ≡ None → false ≡ around
    around-off q = sym (ap (λ (r : Walk). walk_out rows r (open_at t i)) q) ∙ walks

  pub around-done : (closed left i : ℕ) → Around closed left i → i ≡ 0 → eqb left 0 ≡ around
  unfolding open_at rows_of
  around-done closed left i A e = go closed left ∙ ap (λ (i : ℕ). same_numbers (rows_of left rows) (drop closed (open_at t i))) (sym e) ∙ A
    where
      go : (closed left : ℕ) → eqb left 0 ≡ same_numbers (rows_of left rows) (drop closed [])
      go zero zero = refl
      go zero (suc n) = ne_eqb (suc n) 0 (λ z. omega (numbers, z))
      go (suc c) zero = refl
      go (suc c) (suc n) = ne_eqb (suc n) 0 (λ z. omega (numbers, z))

-- ---- starts and ends
module _ (rs ss es : List ℕ) (n i : ℕ) (p : n ≡ suc i) {x y : ℕ} (ex : x ≡ get_or ss i 0) (ey : y ≡ get_or es i 0) where
  starts_by : starts_within (loops_of n rs ss es) ≡ (leb (get_or ss i 0) (get_or es i 0) && starts_within (loops_of i rs ss es))
  starts_by = ap (λ (n : ℕ). starts_within (loops_of n rs ss es)) p ∙ ap starts_within (loops-split i rs ss es)

  pub starts-on : x ≤ y → starts_within (loops_of i rs ss es) ≡ starts_within (loops_of n rs ss es)
  starts-on h = sym (starts_by ∙ rw (le-leb (get_or ss i 0) (get_or es i 0) (omega (numbers, ex, ey, h))))

  pub starts-off : y < x → false ≡ starts_within (loops_of n rs ss es)
  starts-off h = sym (starts_by ∙ rw (lt-leb (get_or ss i 0) (get_or es i 0) (omega (numbers, ex, ey, h))))

pub starts_none : (rs ss es : List ℕ) (n : ℕ) → n ≡ 0 → true ≡ starts_within (loops_of n rs ss es)
unfolding loops_of tab listed
starts_none rs ss es n e = rw e

-- ---- the row with its loops
module _ (t : Table) (row count : ℕ) (rs ss es : List ℕ) where
  abbrev stands : Bool
  stands = stands_right t (position row (loops_of count rs ss es))

  pub stands-past : t.rows < row → leb row t.rows ≡ stands
  stands-past h = rw (lt-leb row t.rows h)

  module _ (h : row ≤ t.rows) {a : Bool} (p : a ≡ around t row count rs) where
    stands_by : stands ≡ (a && starts_within (loops_of count rs ss es))
    stands_by = rw (le-leb row t.rows h, p, rows-of count rs ss es)

    pub stands-off : a ≡ false → false ≡ stands
    stands-off e = sym (stands_by ∙ rw e)

    pub stands_on : a ≡ true → {b : Bool} → b ≡ starts_within (loops_of count rs ss es) → b ≡ stands
    stands_on e q = q ∙ sym (stands_by ∙ rw e)
