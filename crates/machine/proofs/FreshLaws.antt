-- Laws of a fresh record: what its numbers are, and that its variables are those of the model's fresh state.
-- Assumes nothing.
use Prim.Native.Nat.{ℕ, ◌+◌, ◌<◌, ◌≤◌}
use native.Mathlib.Omega.{arith}
use mathlib.Core.Path.{◌≡◌, refl, sym, ap, ◌∙◌}
use mathlib.Core.Logic.{◌≢◌}
use mathlib.Core.Bool.{Bool, true, false}
use mathlib.Core.List.{List}
use lib.ListN.{get_or, set, replicate, get_or-replicate}
use lib.Dec.{ltb}
use borrow.Author.Tests.{ltb-true, ltb-false, lt-ltb, le-ltb}
use Rattle.std.specs.Prelude.{if◌then◌else◌}
use Rattle.lists.specs.Tab.{tab}
use Rattle.lists.proofs.TabLaws.{at-tab, same-tab, set-tab}
use Rattle.model.specs.Class.{class, pair}
use Rattle.model.specs.Table.{Ty, type_at}
use Rattle.model.specs.Table.Ty.{bool, uint, pointer}
use Rattle.model.specs.State.{classed, start_of, zero_of}
use Rattle.model.specs.State.Value.{Class}
use Rattle.prepared.specs.declared.Frame.{Frame}
use Rattle.prepared.specs.declared.Form.{Form}
use Rattle.prepared.specs.declared.Form.TheVariants.{Bool as FBool, Uint as FUint, Class as FClass, Pointer as FPointer}
use Rattle.prepared.specs.View.{by_form, kind_of, places, form_for, form_in, table_for, vars_by, vars_of}
use Rattle.machine.specs.CodeFresh.{fresh_machine, fresh_vars, start_by_form, start_number}

-- ---- the number that a variable starts with, by its form
module _ (t : List ℕ) (f : Frame) (i : ℕ) where
  pub start-other : {s : Form} → s ≡ form_in t f i → s ≢ FClass → 0 ≡ start_number t f i
  unfolding start_number
  start-other {s} e h = go s h ∙ ap (start_by_form (places f)) e
    where
      go : (s : Form) → s ≢ FClass → 0 ≡ start_by_form (places f) s
      go FBool h = refl
      go FUint h = refl
      go FClass h = absurd (h refl)
      go FPointer h = refl

  -- a variable that holds a class is one of a reduced machine
  pub start-class : form_in t f i ≡ FClass → {x : ℕ} → x ≡ class (pair f.c1 f.c2) 0 → x ≡ start_number t f i
  unfolding start_number form_in places
  start-class e q = q ∙ go f.classes refl
    where
      no-class : (w : Ty) → form_for w ≡ FClass → ⊥
      no-class bool e = let z : ◌≡◌ {A = ℕ} 0 1 = cc in omega arith
      no-class uint e = let z : ◌≡◌ {A = ℕ} 0 1 = cc in omega arith
      no-class pointer e = let z : ◌≡◌ {A = ℕ} 0 1 = cc in omega arith

      go : (d : Bool) → f.classes ≡ d → class (pair f.c1 f.c2) 0 ≡ start_by_form (places f) (form_in t f i)
      go true u = rw (e, u)
      go false u = absurd (no-class (type_at (table_for t f) i) (rw u at e))

-- ---- the numbers with those of the variables below a bound, the others 0
abbrev pub started_to : List ℕ → Frame → ℕ → ℕ → ℕ
started_to t f n i = if ltb i n then start_number t f i else 0

module _ (t : List ℕ) (f : Frame) where
  pub started_none : replicate 32 0 ≡ tab 32 (started_to t f 0)
  unfolding tab
  started_none = refl

  pub started-more : (i : ℕ) {numbers : List ℕ} {x : ℕ} → i < 32 → numbers ≡ tab 32 (started_to t f i) → x ≡ start_number t f i
      → set numbers i x ≡ tab 32 (started_to t f (i + 1))
  started-more i {numbers} {x} h e q =
      ap (λ (xs : List ℕ). set xs i x) e
      ∙ sym (set-tab 0 32 i x (started_to t f i) (started_to t f (i + 1)) h (rw (lt-ltb i (i + 1) (omega arith)) (sym q)) other)
    where
      other : (j : ℕ) → j ≢ i → started_to t f (i + 1) j ≡ started_to t f i j
      other j ne = go (ltb j i) refl
        where
          go : (b : Bool) → ltb j i ≡ b → started_to t f (i + 1) j ≡ (if b then start_number t f j else 0)
          go true u = let k : j < i = ltb-true j i u in rw (lt-ltb j (i + 1) (omega arith))
          go false u = let k : i ≤ j = ltb-false j i u in rw (le-ltb j (i + 1) (omega arith))

  -- one variable, by what it holds
  start_is : (i : ℕ) → by_form (form_in t f i) (start_number t f i) 0 ≡ start_of (places f) (kind_of f) (table_for t f) i
  unfolding start_number form_in
  start_is i = go (classed (kind_of f) (table_for t f) i) (type_at (table_for t f) i)
    where
      go : (c : Bool) (w : Ty)
          → by_form (if c then FClass else form_for w) (start_by_form (places f) (if c then FClass else form_for w)) 0
          ≡ (if c then Class (class (places f) 0) else zero_of w)
      go true w = refl
      go false bool = refl
      go false uint = refl
      go false pointer = refl

  pub fresh-vars : f.counts.decls ≤ 32 → vars_of t f (fresh_machine t f).numbers (fresh_machine t f).bases ≡ fresh_vars t f
  unfolding vars_by fresh_machine fresh_vars
  fresh-vars few =
      same-tab f.counts.decls (λ i. by_form (form_in t f i) (get_or (tab 32 (started_to t f f.counts.decls)) i 0) (get_or (replicate 32 0) i 0))
      (start_of (places f) (kind_of f) (table_for t f))
      (λ i l. rw (at-tab 32 (started_to t f f.counts.decls) 0 i (omega arith), lt-ltb i f.counts.decls l, get_or-replicate {A = ℕ} 32 i 0 0 (omega arith))
      (start_is i))
