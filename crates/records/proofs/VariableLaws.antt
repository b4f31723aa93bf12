-- Laws of check 15 as the code makes it, of the variables: the classes of a pair, each variable by its form, and each by its owner.
-- Assumes nothing.
use Prim.Native.Nat.{ℕ, zero, suc, ◌+◌, ◌≤◌, ◌<◌}
use native.Mathlib.Omega.{arith as numbers}
use mathlib.Core.Path.{◌≡◌, refl, sym, ap, ◌∙◌}
use mathlib.Core.Bool.{Bool, true, false, ◌||◌, false≢true}
use mathlib.Core.List.{List, []}
use lib.ListN.{length, get_or}
use lib.Dec.{leb, eqb}
use borrow.Author.Tests.{le-leb, lt-leb, eq-eqb}
use Rattle.std.specs.Prelude.{if◌then◌else◌}
use Rattle.lists.specs.Tab.{all}
use Rattle.lists.proofs.TabLaws.{length-tab, at-tab, all_more, all-stop}
use Rattle.model.specs.Class.{candidate, class, class_held, pair}
use Rattle.model.specs.Table.{Ty, home, most, type_at}
use Rattle.model.specs.Table.Ty.{bool, uint, pointer}
use Rattle.model.specs.State.{State, classed, places_in}
use Rattle.model.specs.State.Value.{Truth, Uint}
use Rattle.model.specs.Procedures.{may_use, owner}
use Rattle.model.specs.Accepted.{Accepted}
use Rattle.model.proofs.Own.{local_fits}
use Rattle.model.proofs.Typing.{classed-none}
use Rattle.kinds.specs.Kinds.{machine_of}
use Rattle.prepared.specs.declared.Frame.{Frame}
use Rattle.prepared.specs.declared.Form.{Form}
use Rattle.prepared.specs.View.{places, kind_of, table_for, form_for, form_in, by_form, bool_or, vars_of, vars_by}
use Rattle.evaluators.proofs.ViewLaws.{count-arrays}
use Rattle.machine.specs.declared.Machine.{Machine}
use Rattle.records.specs.Record.{holds_class, is_zero, locals_idle, of_the_type, variable_fits, variables_fit}
use Rattle.records.specs.CodeRecord.{state_in, fits_by_form, idle_by}

-- ---- the classes of a pair

-- the class between the places, and a class past those of both
pub after_first : (c1 c2 k : ℕ) → k ≡ 2 → c1 + 1 ≡ candidate 0 (pair c1 c2) k
unfolding candidate
after_first c1 c2 k e = rw e (omega numbers)

pub past-both : (c1 c2 k : ℕ) → 4 ≤ k → c2 + 1 ≡ candidate 0 (pair c1 c2) k
unfolding candidate
past-both c1 c2 zero h = absurd (omega numbers)
past-both c1 c2 (suc zero) h = absurd (omega numbers)
past-both c1 c2 (suc (suc zero)) h = absurd (omega numbers)
past-both c1 c2 (suc (suc (suc zero))) h = absurd (omega numbers)
past-both c1 c2 (suc (suc (suc (suc k)))) h = omega numbers

module _ (c1 c2 k : ℕ) {n : ℕ} (e : n ≡ candidate 0 (pair c1 c2) k) where
  pub held-not : most < n → false ≡ class_held (pair c1 c2) k
  unfolding class_held
  held-not h = rw (← e, lt-leb n most h)

  pub held-is : n ≤ most → {q : ℕ} → q ≡ class (pair c1 c2) n → eqb q k ≡ class_held (pair c1 c2) k
  unfolding class_held
  held-is h d = rw (← e, le-leb n most h, ← d)

-- ---- a test of each variable, by a loop: those below i pass it
module _ (n : ℕ) (test : ℕ → Bool) {whole : Bool} (is : whole ≡ all n test) where
  pub tests-off : (i : ℕ) → i < n → test i ≡ false → false ≡ whole
  tests-off i h g = sym (is ∙ all-stop n test i h g)

  pub tests-done : (i : ℕ) → all i test ≡ true → i ≡ n → true ≡ whole
  tests-done i T e = sym (is ∙ ap (λ (n : ℕ). all n test) (sym e) ∙ T)

-- ---- the variables, whatever the callers and the cells are
module _ (t : List ℕ) (f : Frame) (m : Machine) where
  abbrev held : State
  held = state_in t f [] m []

  var-at : (i : ℕ) → i < f.counts.decls → get_or held.vars i (Uint 0) ≡ by_form (form_in t f i) (get_or m.numbers i 0) (get_or m.bases i 0)
  unfolding vars_by
  var-at i h = at-tab f.counts.decls (λ i. by_form (form_in t f i) (get_or m.numbers i 0) (get_or m.bases i 0)) (Uint 0) i h

  -- by their forms
  abbrev fitting : ℕ → Bool
  fitting i = variable_fits (kind_of f) (places f) (table_for t f) held i

  bool_by : (count x : ℕ) → of_the_type count bool (bool_or x) ≡ leb x 1
  bool_by count x = go (leb x 1)
    where
      go : (b : Bool) → of_the_type count bool (if b then Truth (eqb x 1) else Uint x) ≡ b
      go true = refl
      go false = refl

  by-form : (b : Bool) (w : Ty) (x base : ℕ)
      → (b ≡ true → places f ≡ pair f.c1 f.c2)
      → (if b then holds_class (places f) (by_form (if b then Form.Class else form_for w) x base)
      else of_the_type m.count w (by_form (if b then Form.Class else form_for w) x base))
      ≡ fits_by_form f m.count (if b then Form.Class else form_for w) x base
  by-form true w x base e = rw (e refl)
  by-form false bool x base e = bool_by m.count x
  by-form false uint x base e = refl
  by-form false pointer x base e = refl

  -- only the reduced machine has classes
  classed-places : (i : ℕ) → classed (kind_of f) (table_for t f) i ≡ true → places f ≡ pair f.c1 f.c2
  unfolding places
  classed-places i e = go f.classes e
    where
      go : (b : Bool) → classed (machine_of b) (table_for t f) i ≡ true → places_in (machine_of b) (pair f.c1 f.c2) ≡ pair f.c1 f.c2
      go true h = refl
      go false h = absurd (false≢true h)

  fits-is : (i : ℕ) → i < f.counts.decls → fitting i ≡ fits_by_form f m.count (form_in t f i) (get_or m.numbers i 0) (get_or m.bases i 0)
  unfolding form_in
  fits-is i h =
      rw (var-at i h, count-arrays m.count m.firsts m.lengths m.shapes)
      (by-form (classed (kind_of f) (table_for t f) i) (type_at (table_for t f) i) (get_or m.numbers i 0) (get_or m.bases i 0) (classed-places i))

  vars-by : variables_fit (kind_of f) (places f) (table_for t f) held ≡ all f.counts.decls fitting
  unfolding vars_by
  vars-by = rw (eq-eqb (length (vars_of t f m.numbers m.bases)) f.counts.decls
      (length-tab f.counts.decls (λ i. by_form (form_in t f i) (get_or m.numbers i 0) (get_or m.bases i 0))))

  abbrev pub Fits : ℕ → Type 0
  Fits i = all i fitting ≡ true

  pub vars-none : Fits 0
  unfolding all
  vars-none = refl

  module _ (i : ℕ) (h : i < f.counts.decls) {form : Form} (e : form ≡ form_in t f i) where
    pub vars-next : Fits i → fits_by_form f m.count form (get_or m.numbers i 0) (get_or m.bases i 0) ≡ true → Fits (i + 1)
    vars-next F g = all_more fitting i F (fits-is i h ∙ rw (← e, g))

    pub vars-off : fits_by_form f m.count form (get_or m.numbers i 0) (get_or m.bases i 0) ≡ false
        → false ≡ variables_fit (kind_of f) (places f) (table_for t f) held
    vars-off g = tests-off f.counts.decls fitting vars-by i h (fits-is i h ∙ rw (← e, g))

  pub vars-done : (i : ℕ) → Fits i → i ≡ f.counts.decls → true ≡ variables_fit (kind_of f) (places f) (table_for t f) held
  vars-done = tests-done f.counts.decls fitting vars-by

  -- by their owners
  abbrev idling : ℕ → Bool
  idling i = may_use (table_for t f) (home (table_for t f) m.row) i || is_zero (get_or held.vars i (Uint 0))

  abbrev pub Idles : ℕ → Type 0
  Idles i = all i idling ≡ true

  pub idle-none : Idles 0
  unfolding all
  idle-none = refl

  pub idle-done : (i : ℕ) → Idles i → i ≡ f.counts.decls → true ≡ locals_idle (table_for t f) held
  idle-done = tests-done f.counts.decls idling refl

  module _ (A : Accepted (kind_of f) (table_for t f)) {q : ℕ} (w : q ≡ home (table_for t f) m.row) (i : ℕ) (h : i < f.counts.decls) {o : ℕ}
      (e : o ≡ owner (table_for t f) i) where
    -- a local is an unmarked uint
    uint-form : may_use (table_for t f) (home (table_for t f) m.row) i ≡ false → form_in t f i ≡ Form.Uint
    unfolding form_in
    uint-form u =
        let l = local_fits (kind_of f) (table_for t f) A (home (table_for t f) m.row) i u in
        rw (classed-none (kind_of f) (table_for t f) i l.1, l.0)

    idle-is : idling i ≡ idle_by o q (get_or m.numbers i 0)
    idle-is = rw (e, w, var-at i h) (go (may_use (table_for t f) (home (table_for t f) m.row) i) refl)
      where
        go : (b : Bool) → may_use (table_for t f) (home (table_for t f) m.row) i ≡ b
            → (b || is_zero (by_form (form_in t f i) (get_or m.numbers i 0) (get_or m.bases i 0))) ≡ (b || eqb (get_or m.numbers i 0) 0)
        go true u = refl
        go false u = rw (uint-form u)

    pub idle-next : Idles i → idle_by o q (get_or m.numbers i 0) ≡ true → Idles (i + 1)
    idle-next I g = all_more idling i I (idle-is ∙ g)

    pub idle-off : idle_by o q (get_or m.numbers i 0) ≡ false → false ≡ locals_idle (table_for t f) held
    idle-off g = tests-off f.counts.decls idling refl i h (idle-is ∙ g)
