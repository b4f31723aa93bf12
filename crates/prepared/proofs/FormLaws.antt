-- The form of value that a variable holds, by the kind and the mark of its declaration; and the loop that sets the forms in the copy.
-- Assumes nothing.
use Prim.Native.Nat.{ℕ, ◌+◌, ◌*◌, ◌<◌, ◌≤◌}
use native.Mathlib.Omega.{arith}
use native.Mathlib.Decide.{ℕ_discrete}
use native.Mathlib.Nat.{not-suc-le-zero, eq-or-lt_of_le}
use mathlib.Core.Path.{◌≡◌, refl, sym, ◌∙◌}
use mathlib.Core.Logic.{◌≢◌, ⊎_elim}
use mathlib.Core.Bool.{Bool, true, false}
use mathlib.Core.List.{List}
use lib.ListN.{length, get_or, set, length-set}
use lib.Seq.{get_or-set_same, get_or-set_other}
use lib.Dec.{eqb}
use borrow.Author.Tests.{ne_eqb}
use mir.Val.{bool_byte}
use Rattle.std.specs.Prelude.{if◌then◌else◌}
use Rattle.kinds.specs.Kinds.{machine_of}
use Rattle.model.specs.Table.{type_of, marked, marked_uint}
use Rattle.model.specs.Table.Ty.{bool, uint, pointer}
use Rattle.model.specs.State.{classed}
use Rattle.prepared.specs.declared.Frame.{Frame}
use Rattle.prepared.specs.declared.Form.TheVariants.{Bool as FBool, Uint as FUint, Class as FClass, Pointer as FPointer}
use Rattle.prepared.specs.View.{table_for, form_for, form_in}
use Rattle.prepared.specs.Own.{number_of_form}
use Rattle.prepared.specs.CodeOwn.{Formed}

-- ---- a flag as a number
pub flag-number : (b : Bool) → bool_byte b ≡ (if b then 1 else 0)
flag-number true = refl
flag-number false = refl

-- ---- the word of a declaration, by its type
pub bool-is : (k : ℕ) → type_of k ≡ bool → k ≡ 1
unfolding type_of
bool-is k e = elim (ℕ_discrete k 1) [
  | yes one ↦ one
  | no other ↦ go (eqb k 2) (rw (ne_eqb k 1 other) at e)
]
  where
    go : (b : Bool) → (if b then uint else pointer) ≡ bool → k ≡ 1
    go true h = absurd (let z : ◌≡◌ {A = ℕ} 0 1 = cc in omega arith)
    go false h = absurd (let z : ◌≡◌ {A = ℕ} 0 1 = cc in omega arith)

pub uint-is : (k : ℕ) → type_of k ≡ uint → k ≡ 2
unfolding type_of
uint-is k e = elim (ℕ_discrete k 2) [
  | yes two ↦ two
  | no other ↦ go (eqb k 1) (rw (ne_eqb k 2 other) at e)
]
  where
    go : (b : Bool) → (if b then bool else pointer) ≡ uint → k ≡ 2
    go true h = absurd (let z : ◌≡◌ {A = ℕ} 0 1 = cc in omega arith)
    go false h = absurd (let z : ◌≡◌ {A = ℕ} 0 1 = cc in omega arith)

pub pointer-is : (k : ℕ) → type_of k ≡ pointer → (k ≢ 1) × (k ≢ 2)
unfolding type_of
pointer-is k e = (
  λ one. let h : bool ≡ pointer = rw one at e in absurd (let z : ◌≡◌ {A = ℕ} 0 1 = cc in omega arith),
  λ two. let h : uint ≡ pointer = rw two at e in absurd (let z : ◌≡◌ {A = ℕ} 0 1 = cc in omega arith),
)

-- ---- by the declaration
module _ (t : List ℕ) (f : Frame) (a : ℕ) where
  unclassed : marked_uint (table_for t f) a ≡ false → form_in t f a ≡ form_for (type_of (get_or t (4 * a) 0))
  unfolding form_in
  unclassed e = go f.classes
    where
      go : (b : Bool) → (if classed (machine_of b) (table_for t f) a then FClass else form_for (type_of (get_or t (4 * a) 0)))
          ≡ form_for (type_of (get_or t (4 * a) 0))
      go true = rw e
      go false = refl

  pub form-bool : get_or t (4 * a) 0 ≡ 1 → FBool ≡ form_in t f a
  unfolding marked type_of
  form-bool k = sym (unclassed (rw k) ∙ rw k)

  pub form-pointer : get_or t (4 * a) 0 ≢ 1 → get_or t (4 * a) 0 ≢ 2 → FPointer ≡ form_in t f a
  unfolding marked type_of
  form-pointer h1 h2 = sym (unclassed (rw (ne_eqb _ _ h2)) ∙ rw (ne_eqb _ _ h1, ne_eqb _ _ h2))

  pub form-unmarked : get_or t (4 * a) 0 ≡ 2 → get_or t (4 * a + 1) 0 ≢ 1 → FUint ≡ form_in t f a
  unfolding marked type_of
  form-unmarked k m = sym (unclassed (rw (k, ne_eqb _ _ m)) ∙ rw k)

  pub form-plain : get_or t (4 * a) 0 ≡ 2 → f.classes ≡ false → FUint ≡ form_in t f a
  unfolding form_in type_of
  form-plain k c = rw (c, k)

  pub form-class : get_or t (4 * a) 0 ≡ 2 → f.classes ≡ true → get_or t (4 * a + 1) 0 ≡ 1 → FClass ≡ form_in t f a
  unfolding form_in marked
  form-class k c m = rw (c, k, m)

-- ---- the forms in the copy, set one after another
module _ (t : List ℕ) (f : Frame) (old : List ℕ) where
  pub formed-none : Formed t f 0 old old
  formed-none = record { size = refl; form = λ a l. absurd (not-suc-le-zero l); other = λ i h. refl }

  pub formed-more : (new : List ℕ) (a v : ℕ) → 4 * a + 3 < length new → v ≡ number_of_form (form_in t f a) → Formed t f a old new
      → Formed t f (a + 1) old (set new (4 * a + 3) v)
  formed-more new a v room e h = record { size = length-set new (4 * a + 3) v ∙ h.size; form = form; other = other }
    where
      form : (b : ℕ) → b < a + 1 → get_or (set new (4 * a + 3) v) (4 * b + 3) 0 ≡ number_of_form (form_in t f b)
      form b l =
          let inside : b ≤ a = omega arith in
          ⊎_elim (λ q. rw q (get_or-set_same new (4 * a + 3) v 0 room ∙ e))
          (λ m. get_or-set_other new (4 * a + 3) (4 * b + 3) v 0 (λ q. omega arith) ∙ h.form b m) (eq-or-lt_of_le inside)

      other : (i : ℕ) → ((b : ℕ) → b < a + 1 → i ≢ 4 * b + 3) → get_or (set new (4 * a + 3) v) i 0 ≡ get_or old i 0
      other i k = get_or-set_other new (4 * a + 3) i v 0 (k a (omega arith)) ∙ h.other i (λ b l. k b (omega arith))
