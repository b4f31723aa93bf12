-- Which arrays the reduced run holds reduced: the column that the writer keeps of it, after a row that goes on.
-- Assumes nothing.
use mathlib.Core.Path.{◌≡◌, refl, sym, ap, ◌∙◌}
use mathlib.Core.Logic.{◌⊎◌, inl, inr, ⊎_elim}
use Prim.Native.Nat.{ℕ, suc, ◌≤◌, ◌<◌}
use native.Mathlib.Omega.{arith}
use mathlib.Core.Bool.{Bool, true, false}
use mathlib.Core.List.{List, [], ◌∷◌, ◌++◌}
use lib.ListN.{length, get_or, set, length-set}
use lib.Seq.{get_or-set_same, get_or-set_other}
use lib.Dec.{ltb, eqb}
use borrow.Author.Tests.{lt-ltb, le-ltb}
use Rattle.std.specs.Prelude.{if◌then◌else◌}
use Rattle.lists.proofs.TabLaws.{tab-snoc, same-tab}
use Rattle.model.specs.Table.{Table, Row, marked, marked_pointer, row_at, row_kind, at_end}
use Rattle.model.specs.Table.Row.{skip, assign, store, assert, assume, array, loop, loop_end, reduced_store, reduced_array, class_loop}
use Rattle.model.specs.Table.Row.{procedure, returns, call, no_row}
use Rattle.model.specs.Writer.{held_after, held_next}
use Rattle.model.proofs.KindsIn.{PlainRow}
use Rattle.model.proofs.StepSizes.{arrays_after, arrays_next}
use Rattle.prepared.specs.Own.{own_table}
use Rattle.recording.specs.CodeRecords.{held_of}
use Rattle.choices.specs.CodeSteps.{flag_of, held_with}

-- ---- the flag of a row's variable, by its mark
module _ (own : List ℕ) (row : ℕ) {a : ℕ} {b : Bool} (e : a ≡ (row_at (own_table own) row).a) (h : b ≡ marked own 3 a) where
  mark-is : marked_pointer (own_table own) (row_at (own_table own) row).a ≡ b
  mark-is = ap (marked own 3) (sym e) ∙ sym h

  pub flag-marked : b ≡ true → 1 ≡ flag_of own row
  flag-marked q = rw (mark-is, q)

  pub flag-unmarked : b ≡ false → 0 ≡ flag_of own row
  flag-unmarked q = rw (mark-is, q)

flag_is : (q : Bool) → eqb (if q then 1 else 0) 1 ≡ q
flag_is true = refl
flag_is false = refl

-- ---- a flag at the place of the next array
module _ (count : ℕ) (held : List ℕ) (flag : ℕ) where
  held-before : (i : ℕ) → i < count → eqb (get_or (set held count flag) i 0) 1 ≡ eqb (get_or held i 0) 1
  held-before i h = ap (λ (v : ℕ). eqb v 1) (get_or-set_other held count i flag 0 (λ e. omega arith))

  -- is none of an array that is there
  held_same : held_of count (set held count flag) ≡ held_of count held
  unfolding held_of
  held_same = same-tab count _ _ held-before

  -- and with one array more it is that array's
  held_more : count < length held → held_of (suc count) (set held count flag) ≡ held_of count held ++ (eqb flag 1 ∷ [])
  unfolding held_of
  held_more h =
      tab-snoc count (λ i. eqb (get_or (set held count flag) i 0) 1)
      ∙ ap (λ (l : List Bool). l ++ (eqb (get_or (set held count flag) count 0) 1 ∷ [])) held_same
      ∙ ap (λ (v : ℕ). held_of count held ++ (eqb v 1 ∷ [])) (get_or-set_same held count flag 0 h)

-- ---- a row of a plain table makes no array, or one
module _ (t : Table) (a b c : ℕ) (q : Bool) (ks : List Bool) (n : ℕ) where
  abbrev None : Row → Type 0
  None k = (held_after k q ks ≡ ks) × (arrays_after k n ≡ n)

  abbrev One : Row → Type 0
  One k = (held_after k q ks ≡ ks ++ (q ∷ [])) × (arrays_after k n ≡ suc n)

  none-or-one : (k : Row) → PlainRow t k a b c → None k ⊎ One k
  none-or-one skip p = inl (refl, refl)
  none-or-one assign p = inl (refl, refl)
  none-or-one store p = inl (refl, refl)
  none-or-one assert p = inl (refl, refl)
  none-or-one assume p = inl (refl, refl)
  none-or-one array p = inr (refl, refl)
  none-or-one loop p = inl (refl, refl)
  none-or-one loop_end p = inl (refl, refl)
  none-or-one reduced_store p = absurd p
  none-or-one reduced_array p = absurd p
  none-or-one class_loop p = absurd p
  none-or-one procedure p = inl (refl, refl)
  none-or-one returns p = inl (refl, refl)
  none-or-one call p = inl (refl, refl)
  none-or-one no_row p = inl (refl, refl)

-- ---- the column after a row
module _ (own : List ℕ) (count row : ℕ) (held : List ℕ) where
  pub held-put : count < 16 → {flag : ℕ} → flag ≡ flag_of own row → set held count flag ≡ held_with own count row held
  unfolding held_with
  held-put h e = rw (lt-ltb count 16 h, e)

  pub held_kept : 16 ≤ count → held ≡ held_with own count row held
  unfolding held_with
  held_kept h = rw (le-ltb count 16 h)

  pub held-length : length (held_with own count row held) ≡ length held
  unfolding held_with
  held-length = go (ltb count 16)
    where
      go : (b : Bool) → length (if b then set held count (flag_of own row) else held) ≡ length held
      go true = length-set held count (flag_of own row)
      go false = refl

  with_none : held_of count (held_with own count row held) ≡ held_of count held
  unfolding held_with
  with_none = go (ltb count 16)
    where
      go : (b : Bool) → held_of count (if b then set held count (flag_of own row) else held) ≡ held_of count held
      go true = held_same count held (flag_of own row)
      go false = refl

  with-one : count < 16 → length held ≡ 16
      → held_of (suc count) (held_with own count row held) ≡ held_of count held ++ (marked_pointer (own_table own) (row_at (own_table own) row).a ∷ [])
  unfolding held_with
  with-one h n =
      rw (lt-ltb count 16 h) (held_more count held (flag_of own row) (omega arith))
      ∙ ap (λ (b : Bool). held_of count held ++ (b ∷ [])) (flag_is (marked_pointer (own_table own) (row_at (own_table own) row).a))

  -- what the reduced run holds after a row that is no end
  after-row : (t : Table) (a b c : ℕ) (k : Row) → PlainRow t k a b c → (count' : ℕ) → count' ≡ arrays_after k count → count' ≤ 16 → length held ≡ 16
      → held_of count' (held_with own count row held) ≡ held_after k (marked_pointer (own_table own) (row_at (own_table own) row).a) (held_of count held)
  after-row t a b c k p count' e h n =
      ⊎_elim
      (λ z. ap (λ (c : ℕ). held_of c (held_with own count row held)) (e ∙ z.1) ∙ with_none ∙ sym z.0)
      (λ z. ap (λ (c : ℕ). held_of c (held_with own count row held)) (e ∙ z.1)
      ∙ with-one (let m : count' ≡ suc count = e ∙ z.1 in omega arith) n ∙ sym z.0)
      (none-or-one t a b c (marked_pointer (own_table own) (row_at (own_table own) row).a) (held_of count held) count k p)

  -- ... and after a step from the row, on which the record goes on with so many arrays
  pub held-next : (t : Table) (a b c : ℕ) → PlainRow t (row_kind (row_at (own_table own) row).kind) a b c → (count' : ℕ)
      → count' ≡ arrays_next (own_table own) row count → count' ≤ 16 → length held ≡ 16
      → held_of count' (held_with own count row held) ≡ held_next (own_table own) row (held_of count held)
  held-next t a b c p count' e h n = go (at_end (own_table own) row) e
    where
      k : Row
      k = row_kind (row_at (own_table own) row).kind

      go : (end : Bool) → count' ≡ (if end then count else arrays_after k count)
          → held_of count' (held_with own count row held)
          ≡ (if end then held_of count held else held_after k (marked_pointer (own_table own) (row_at (own_table own) row).a) (held_of count held))
      go true e = ap (λ (c : ℕ). held_of c (held_with own count row held)) e ∙ with_none
      go false e = after-row t a b c k p count' e h n
