-- Laws of what an evaluator is lent: kinds, the cursor, the variables and the arrays, each as a function of the code tests it.
-- Assumes nothing.
use Prim.Native.Nat.{ℕ, zero, suc, ◌<◌, ◌≤◌, ◌-◌}
use native.Mathlib.Omega.{arith as numbers}
use native.Mathlib.Decide.{dec_le}
use native.Mathlib.Nat.{not-suc-le-zero}
use mathlib.Core.Path.{◌≡◌, refl, sym, ap, ◌∙◌}
use mathlib.Core.Logic.{◌≢◌}
use mathlib.Core.List.{List, [], ◌∷◌}
use mathlib.Core.Bool.{Bool, true, false}
use lib.ListN.{length, get_or, drop, replicate, get_or-replicate, get_or-append, get_or-eq_default}
use lib.Dec.{ltb, leb, eqb}
use borrow.Author.Tests.{lt-ltb, le-ltb, le-leb, lt-leb}
use Rattle.std.specs.Prelude.{if◌then◌else◌, Option, Some, None}
use Rattle.lists.proofs.TabLaws.{length-tab, at-tab}
use Rattle.model.specs.Class.{class}
use Rattle.model.specs.Table.{Ty, node_kind, node_kinds}
use Rattle.model.specs.Table.Ty.{bool, uint, pointer}
use Rattle.model.specs.Table.Node.{variable, uint_constant, bool_constant, cell, plus, minus, less, at_most, equal, conditional, valid, class_variable}
use Rattle.model.specs.Table.Node.{reduced_cell, reduced_valid, no_node}
use Rattle.model.specs.Work.{Out, Work, next, give, wrong, choose}
use Rattle.model.specs.Work.Out.{gives, fails, bad_choice, no_choice, stuck}
use Rattle.model.specs.State.{Array}
use Rattle.model.specs.State.Value.{Uint}
use Rattle.model.specs.Eval.{Of, of_type, as_uint, as_bool, as_pointer, as_class, variable_of, array_of, no_array, present}
use Rattle.reader.specs.Choose.{choice_at}
use Rattle.reader.proofs.ReaderLaws.{choice-left, none_left}
use Rattle.prepared.specs.declared.Form.{Form}
use Rattle.prepared.specs.declared.Form.TheVariants.{Bool as FBool, Uint as FUint, Class as FClass, Pointer as FPointer}
use Rattle.prepared.specs.View.{vars_by, by_form, array_in, arrays_of}
use Rattle.prepared.specs.Own.{decls_of, own_form, own_vars, places_of}
use Rattle.prepared.proofs.VarLaws.{value_in}
use Rattle.machine.specs.declared.Failure.TheVariants.{BadChoice, NoChoice, Stuck}
use Rattle.evaluators.specs.declared.answers.Answer.{Answer}
use Rattle.evaluators.specs.declared.answers.Answer.TheVariants.{Bool as ABool, Uint as AUint, Pointer as APointer, Not}
use Rattle.evaluators.specs.declared.arrays.Target.TheVariants.{Array as To, Missing, Unknown}
use Rattle.evaluators.specs.CodeAnswers.{failed, Answers}
use Rattle.evaluators.specs.CodeLeaves.{held_for, HoldsFor, HoldsPointer, ClassChoice, class_in, target_out, Points, stored_in, read_of, valid_in}
use Rattle.evaluators.proofs.AnswerLaws.{said-bool, said-uint, said-pointer, said-not, said-stuck, says_same}

-- ---- kinds
above : (n : ℕ) {k : ℕ} → n ≤ k → k ≢ n → suc n ≤ k
above n h e = omega numbers

pub small-kind : (k : ℕ) → k < 16 → node_kind k ≡ no_node
unfolding node_kind
small-kind k h =
    get_or-append (replicate 16 no_node)
    (variable ∷ uint_constant ∷ bool_constant ∷ cell ∷ plus ∷ minus ∷ less ∷ at_most ∷ equal ∷ conditional ∷ valid ∷ class_variable
    ∷ reduced_cell ∷ reduced_valid ∷ []) no_node k h
    ∙ get_or-replicate 16 k no_node no_node h

pub no_kind : (k : ℕ) → k ≢ 16 → k ≢ 17 → k ≢ 18 → k ≢ 19 → k ≢ 20 → k ≢ 21 → k ≢ 22 → k ≢ 23 → k ≢ 24 → k ≢ 25 → k ≢ 26 → k ≢ 27 → k ≢ 28 → k ≢ 29
    → node_kind k ≡ no_node
unfolding node_kind
no_kind k h16 h17 h18 h19 h20 h21 h22 h23 h24 h25 h26 h27 h28 h29 = elim (dec_le 16 k) [
  | yes h ↦ get_or-eq_default node_kinds no_node {n = k}
      (above 29 (above 28 (above 27 (above 26 (above 25 (above 24
      (above 23 (above 22 (above 21 (above 20 (above 19 (above 18 (above 17 (above 16 h h16) h17) h18) h19) h20) h21) h22) h23) h24) h25) h26) h27) h28) h29)
  | no h ↦ small-kind k (below-16 h)
]
  where
    below-16 : (16 ≤ k → ⊥) → k < 16
    below-16 h = omega numbers

-- ---- the cursor: x is the choice that was read
module _ (ok : ℕ → Bool) (l : List ℕ) (at : ℕ) {x : Option (ℕ × ℕ)} (read : x ≡ choice_at l at) where
  pub chosen-one : {v m : ℕ} → x ≡ Some (v, m) → ok v ≡ true → Answers uint l (AUint v m) (choose ok (drop at l))
  chosen-one {v} {m} p e = said-uint (rw ((choice-left l at v m (sym read ∙ p)).2, e))

  pub chosen-bad : {v m : ℕ} → x ≡ Some (v, m) → ok v ≡ false → Answers uint l (Not BadChoice at) (choose ok (drop at l))
  unfolding failed
  chosen-bad {v} {m} p e = said-not uint (rw ((choice-left l at v m (sym read ∙ p)).2, e))

  pub chosen_none : x ≡ None → Answers uint l (Not NoChoice at) (choose ok (drop at l))
  unfolding failed
  chosen_none p = said-not uint (rw (none_left l at (sym read ∙ p)).1)

-- ---- the variables
module _ (own ns bs : List ℕ) (a : ℕ) where
  pub var-in : a < decls_of own → (cs : List ℕ) → variable_of (own_vars own ns bs) a cs ≡ gives (value_in own ns bs a) cs
  unfolding vars_by
  var-in h cs =
      rw (length-tab (decls_of own) (value_in own ns bs), lt-ltb a (decls_of own) h, at-tab (decls_of own) (value_in own ns bs) (Uint 0) a h)

  pub var-out : decls_of own ≤ a → (cs : List ℕ) → variable_of (own_vars own ns bs) a cs ≡ stuck
  unfolding vars_by
  var-out h cs = rw (length-tab (decls_of own) (value_in own ns bs), le-ltb a (decls_of own) h)

  module _ (count : ℕ) (w : Ty) (cs : List ℕ) where
    held_out : decls_of own ≤ a → stuck ≡ held_for (own_vars own ns bs) count a w cs
    unfolding held_for
    held_out h = rw (var-out h cs)

    -- by its form
    held_in : a < decls_of own → {s : Form} → s ≡ own_form own a
        → next (of_type w (by_form s (get_or ns a 0) (get_or bs a 0)) cs) (present count w) ≡ held_for (own_vars own ns bs) count a w cs
    unfolding held_for
    held_in h e = rw (var-in h cs, ← e)

    held-stuck : a < decls_of own → {s : Form} → s ≡ own_form own a → of_type w (by_form s (get_or ns a 0) (get_or bs a 0)) cs ≡ stuck
        → stuck ≡ held_for (own_vars own ns bs) count a w cs
    held-stuck h e k = sym (ap (λ (o : Out (Of w)). next o (present count w)) k) ∙ held_in h e

-- a form that gives no value of a type
either : {A : Type 0} (b : Bool) (P : A → Type 0) {x y : A} → P x → P y → P (if b then x else y)
either true P p q = p
either false P p q = q

module _ (x base : ℕ) (cs : List ℕ) where
  no-uint : (s : Form) → s ≢ FUint → s ≢ FBool → as_uint (by_form s x base) cs ≡ stuck
  no-uint FBool h k = absurd (k refl)
  no-uint FUint h k = absurd (h refl)
  no-uint FClass h k = refl
  no-uint FPointer h k = refl

  no_bool : (s : Form) → s ≢ FBool → as_bool (by_form s x base) cs ≡ stuck
  no_bool FBool h = absurd (h refl)
  no_bool FUint h = refl
  no_bool FClass h = refl
  no_bool FPointer h = refl

  no_pointer : (s : Form) → s ≢ FPointer → as_pointer (by_form s x base) cs ≡ stuck
  no_pointer FBool h = either (leb x 1) (λ v. as_pointer v cs ≡ stuck) refl refl
  no_pointer FUint h = refl
  no_pointer FClass h = refl
  no_pointer FPointer h = absurd (h refl)

  no-class : (s : Form) → s ≢ FClass → as_class (by_form s x base) cs ≡ stuck
  no-class FBool h = either (leb x 1) (λ v. as_class v cs ≡ stuck) refl refl
  no-class FUint h = refl
  no-class FClass h = absurd (h refl)
  no-class FPointer h = refl

-- a variable's answer: s is the form that was read
module _ (own ns : List ℕ) (a at : ℕ) where
  pub holds-out : (w : Ty) → decls_of own ≤ a → HoldsFor w own ns a at (Not Stuck at)
  holds-out w h = record { held = λ bs count l. said-stuck w (held_out own ns bs a count w (drop at l) h) }

  module _ (h : a < decls_of own) {s : Form} (e : s ≡ own_form own a) where
    pub holds-uint : s ≡ FUint → HoldsFor uint own ns a at (AUint (get_or ns a 0) at)
    holds-uint f = record { held = λ bs count l. said-uint (held_in own ns bs a count uint (drop at l) h (sym f ∙ e)) }

    -- a number that is no bool
    pub holds-other : s ≡ FBool → 1 < get_or ns a 0 → HoldsFor uint own ns a at (AUint (get_or ns a 0) at)
    holds-other f k = record { held = λ bs count l. said-uint (rw (lt-leb (get_or ns a 0) 1 k) at (held_in own ns bs a count uint (drop at l) h (sym f ∙ e))) }

    pub holds-no-uint : s ≡ FBool → get_or ns a 0 ≤ 1 → HoldsFor uint own ns a at (Not Stuck at)
    holds-no-uint f k =
        record { held = λ bs count l. said-stuck uint (held-stuck own ns bs a count uint (drop at l) h (sym f ∙ e) (rw (le-leb (get_or ns a 0) 1 k))) }

    pub holds-none-uint : s ≢ FUint → s ≢ FBool → HoldsFor uint own ns a at (Not Stuck at)
    holds-none-uint k k₁ =
        record {
          held = λ bs count l. said-stuck uint
              (held-stuck own ns bs a count uint (drop at l) h e (no-uint (get_or ns a 0) (get_or bs a 0) (drop at l) s k k₁));
        }

    pub holds-bool : s ≡ FBool → get_or ns a 0 ≤ 1 → HoldsFor bool own ns a at (ABool (eqb (get_or ns a 0) 1) at)
    holds-bool f k = record { held = λ bs count l. said-bool (rw (le-leb (get_or ns a 0) 1 k) at (held_in own ns bs a count bool (drop at l) h (sym f ∙ e))) }

    pub holds-no-bool : s ≡ FBool → 1 < get_or ns a 0 → HoldsFor bool own ns a at (Not Stuck at)
    holds-no-bool f k =
        record { held = λ bs count l. said-stuck bool (held-stuck own ns bs a count bool (drop at l) h (sym f ∙ e) (rw (lt-leb (get_or ns a 0) 1 k))) }

    pub holds-none-bool : s ≢ FBool → HoldsFor bool own ns a at (Not Stuck at)
    holds-none-bool k =
        record {
          held = λ bs count l. said-stuck bool
              (held-stuck own ns bs a count bool (drop at l) h e (no_bool (get_or ns a 0) (get_or bs a 0) (drop at l) s k));
        }

  module _ (bs : List ℕ) (count : ℕ) where
    pub pointer_out : decls_of own ≤ a → HoldsPointer own ns bs count a at (Not Stuck at)
    pointer_out h = record { held = λ l. said-stuck pointer (held_out own ns bs a count pointer (drop at l) h) }

    module _ (h : a < decls_of own) {s : Form} (e : s ≡ own_form own a) where
      pub holds-pointer : s ≡ FPointer → get_or bs a 0 ≤ count → HoldsPointer own ns bs count a at (APointer (get_or bs a 0) (get_or ns a 0) at)
      holds-pointer f k =
          record { held = λ l. said-pointer (rw (le-leb (get_or bs a 0) count k) at (held_in own ns bs a count pointer (drop at l) h (sym f ∙ e))) }

      pub holds-lacking : s ≡ FPointer → count < get_or bs a 0 → HoldsPointer own ns bs count a at (Not Stuck at)
      holds-lacking f k =
          record { held = λ l. said-stuck pointer (rw (lt-leb (get_or bs a 0) count k) at (held_in own ns bs a count pointer (drop at l) h (sym f ∙ e))) }

      pub holds-none-pointer : s ≢ FPointer → HoldsPointer own ns bs count a at (Not Stuck at)
      holds-none-pointer k =
          record {
            held = λ l. said-stuck pointer
                (held-stuck own ns bs a count pointer (drop at l) h e (no_pointer (get_or ns a 0) (get_or bs a 0) (drop at l) s k));
          }

  -- 27
  module _ (l : List ℕ) where
    pub class-out : decls_of own ≤ a → ClassChoice own ns a l at (Not Stuck at)
    unfolding class_in
    class-out h = record { chosen = λ bs. said-stuck uint (rw (var-out own ns bs a h (drop at l))) }

    module _ (h : a < decls_of own) {s : Form} (e : s ≡ own_form own a) where
      pub class-none : s ≢ FClass → ClassChoice own ns a l at (Not Stuck at)
      unfolding class_in
      class-none k =
          record {
            chosen = λ bs. said-stuck uint
                (rw (var-in own ns bs a h (drop at l), ← e, no-class (get_or ns a 0) (get_or bs a 0) (drop at l) s k));
          }

      pub class-held : s ≡ FClass → {x : Answer} → Answers uint l x (choose (λ v. eqb (class (places_of own) v) (get_or ns a 0)) (drop at l))
          → ClassChoice own ns a l at x
      unfolding class_in
      class-held f p = record { chosen = λ bs. says_same p (rw (var-in own ns bs a h (drop at l), ← e, f)) }

-- ---- the arrays
module _ (count : ℕ) (fs ls hs : List ℕ) where
  pub count-arrays : length (arrays_of count fs ls hs) ≡ count
  unfolding arrays_of
  count-arrays = length-tab count (array_in fs ls hs)

  array_at : (i : ℕ) → i < count → get_or (arrays_of count fs ls hs) i no_array ≡ array_in fs ls hs i
  unfolding arrays_of
  array_at i h = at-tab count (array_in fs ls hs) no_array i h

  pub points_none : (to : ℕ) → to ≡ 0 → Points Missing (array_of (arrays_of count fs ls hs) to)
  unfolding target_out
  points_none to e = record { found = λ cs. rw e }

  pub points-lacking : (to : ℕ) → count < to → Points Unknown (array_of (arrays_of count fs ls hs) to)
  unfolding target_out
  points-lacking zero h = absurd (not-suc-le-zero h)
  points-lacking (suc i) h = record { found = λ cs. rw (count-arrays, le-ltb i count (omega numbers)) }

  pub points_to : (to : ℕ) → to ≢ 0 → to ≤ count
      → Points (To (get_or fs (to - 1) 0) (get_or ls (to - 1) 0) (eqb (get_or hs (to - 1) 0) 1)) (array_of (arrays_of count fs ls hs) to)
  unfolding target_out
  points_to zero ne h = absurd (ne refl)
  points_to (suc i) ne h =
      let e : suc i - 1 ≡ i = omega numbers in
      rw e (record { found = λ cs. rw (count-arrays, lt-ltb i count h) (ap (λ r. gives r cs) (sym (array_at i h))) })

-- ---- 26 and 29, by what the pointer's array comes to: with none it is false
abbrev pub valid_by : ℕ → Out Array → Out Bool
valid_by p (gives r cs) = gives (ltb p r.len) cs
valid_by p (fails why cs) = gives false cs
valid_by p bad_choice = bad_choice
valid_by p no_choice = no_choice
valid_by p stuck = stuck

pub valid-by : (rs : List Array) (to p : ℕ) (cs : List ℕ) → valid_in rs to p cs ≡ valid_by p (array_of rs to cs)
unfolding valid_in
valid-by rs zero p cs = refl
valid-by rs (suc i) p cs = go (ltb i (length rs)) (get_or rs i no_array)
  where
    go : (b : Bool) (r : Array) → next ((if◌then◌else◌ {A = Work Array} b (give r) wrong) cs) (λ r. give (ltb p r.len))
        ≡ valid_by p ((if◌then◌else◌ {A = Work Array} b (give r) wrong) cs)
    go true r = refl
    go false r = refl

pub read_plain : (m : Bool) (ps cells : List ℕ) (start len p : ℕ) → read_of m ps cells start len false p ≡ stored_in cells start len p
unfolding read_of stored_in
read_plain true ps cells start len p = refl
read_plain false ps cells start len p = refl
