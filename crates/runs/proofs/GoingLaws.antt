-- What a record that 15 does not refuse keeps within bounds: its open loops, its arrays and its bools.
-- Assumes nothing.
use mathlib.Core.Path.{◌≡◌, refl, sym, ap, ◌∙◌, subst}
use Prim.Native.Nat.{ℕ, zero, suc, ◌-◌, ◌≤◌, ◌<◌}
use native.Mathlib.Decide.{dec_le}
use native.Mathlib.Omega.{arith as numbers}
use mathlib.Core.Bool.{Bool, true, false}
use mathlib.Core.List.{List, [], ◌∷◌}
use lib.ListN.{length, get_or, length-map}
use borrow.Author.Tests.{lt-leb}
use Rattle.machine.specs.declared.Machine.{Machine}
use Rattle.prepared.specs.declared.Frame.{Frame}
use Rattle.prepared.specs.declared.Form.{Form}
use Rattle.std.specs.Prelude.{if◌then◌else◌}
use Rattle.lists.proofs.TabLaws.{at-tab, length-tab}
use Rattle.model.specs.Table.{Nest, Table, Ty, nest_at, nested, open_at, type_at}
use Rattle.model.specs.Table.Ty.{bool, uint, pointer}
use Rattle.model.specs.Table.Nest.{opens, closes, neither}
use Rattle.model.specs.State.{Loop, MachineKind, classed, form_of}
use Rattle.model.specs.State.Value.{Truth, Uint}
use Rattle.model.specs.Accepted.{CanHave, Holds, Regular}
use Rattle.model.proofs.ReducedAccepted.{R}
use Rattle.prepared.specs.View.{bool_or, by_form, kind_of, form_for, form_in, table_for, vars_of, vars_by, array_in, arrays_of}
use Rattle.calls.specs.Stack.{loop_in, loops_of}
use Rattle.machine.specs.View.{state_of}
use Rattle.runs.specs.CodeSteps.{kept}

-- ---- at most eight loops are open

module _ (t : Table) (few : (r : ℕ) → r < t.rows → nest_at t r ≡ opens → length (open_at t r) < 8) where
  tail-few : (os : List ℕ) (r : ℕ) → length os ≤ 8 → length (nested closes r os) ≤ 8
  tail-few [] r h = h
  tail-few (o ∷ os) r h = omega numbers

  pub open-most : (r : ℕ) → r ≤ t.rows → length (open_at t r) ≤ 8
  unfolding open_at
  open-most zero h = omega numbers
  open-most (suc r) h = go (nest_at t r) refl (open-most r (omega numbers))
    where
      go : (n : Nest) → nest_at t r ≡ n → length (open_at t r) ≤ 8 → length (nested (nest_at t r) r (open_at t r)) ≤ 8
      go opens e l = rw e (omega (numbers, few r h e))
      go closes e l = rw e (tail-few (open_at t r) r l)
      go neither e l = rw e l

-- ---- of a record

abbrev form_code : Form → ℕ
form_code Form.Bool = 1
form_code Form.Uint = 2
form_code Form.Class = 4
form_code Form.Pointer = 3

bool_small : (x : ℕ) (b : Bool) → bool_or x ≡ Truth b → x ≤ 1
bool_small x b e = elim (dec_le x 1) [ yes h ↦ h | no h ↦ absurd (omega (numbers, ap form_of (rw (lt-leb x 1 (omega numbers)) at e))) ]

module _ (t : List ℕ) (f : Frame) (m : Machine) (stack cells ps : List ℕ) (k : MachineKind)
    (C : CanHave ps k (table_for t f) (state_of t f (kept m stack) cells)) where
  open_is : m.«open» ≡ length (open_at (table_for t f) m.row)
  unfolding loops_of
  open_is =
      sym (length-tab m.«open» (λ i. loop_in m.loop_rows m.starts m.ends (m.«open» - suc i)))
      ∙ sym (length-map (loops_of m.«open» m.loop_rows m.starts m.ends) (λ (l : Loop). l.row))
      ∙ ap length C.here.loops

  -- so at most eight, and fewer where a loop opens
  module _ (few : (r : ℕ) → r < f.counts.rows → nest_at (table_for t f) r ≡ opens → length (open_at (table_for t f) r) < 8) where
    pub loops-most : m.«open» ≤ 8
    loops-most = omega (numbers, open_is, open-most (table_for t f) few m.row C.here.row)

    pub loops-room : m.row < f.counts.rows → nest_at (table_for t f) m.row ≡ opens → m.«open» < 8
    loops-room h e = omega (numbers, open_is, few m.row h e)

  pub arrays-most : Regular ps k (table_for t f) (state_of t f (kept m stack) cells) → m.count ≤ 16
  unfolding arrays_of
  arrays-most R = omega (numbers, R.few, length-tab m.count (array_in m.firsts m.lengths m.shapes))

  -- a bool's slot holds 0 or 1
  var-is : (i : ℕ) → i < f.counts.decls
      → get_or (vars_of t f m.numbers m.bases) i (Uint 0) ≡ by_form (form_in t f i) (get_or m.numbers i 0) (get_or m.bases i 0)
  unfolding vars_by
  var-is i h = at-tab f.counts.decls (λ i. by_form (form_in t f i) (get_or m.numbers i 0) (get_or m.bases i 0)) (Uint 0) i h

  pub bools-small : k ≡ kind_of f → (i : ℕ) → i < f.counts.decls → form_in t f i ≡ Form.Bool → get_or m.numbers i 0 ≤ 1
  unfolding form_in
  bools-small q i h e =
      go (classed (kind_of f) (table_for t f) i) refl (type_at (table_for t f) i) refl e
      (subst (λ (k : MachineKind). Holds (classed k (table_for t f) i) (length (state_of t f (kept m stack) cells).arrays) (type_at (table_for t f) i)
      (get_or (vars_of t f m.numbers m.bases) i (Uint 0))) q (C.variable i h))
    where
      go : (b : Bool) → classed (kind_of f) (table_for t f) i ≡ b → (w : Ty) → type_at (table_for t f) i ≡ w
          → (if b then Form.Class else form_for w) ≡ Form.Bool
          → Holds (classed (kind_of f) (table_for t f) i) (length (state_of t f (kept m stack) cells).arrays) (type_at (table_for t f) i)
          (get_or (vars_of t f m.numbers m.bases) i (Uint 0)) → get_or m.numbers i 0 ≤ 1
      go true u w v z g = absurd (omega (numbers, ap form_code z))
      go false u bool v z g =
          let g' : Holds false (length (state_of t f (kept m stack) cells).arrays) bool (get_or (vars_of t f m.numbers m.bases) i (Uint 0)) =
          rw (u, v) at g in
          bool_small (get_or m.numbers i 0) g'.0
          (ap (λ (x : Form). by_form x (get_or m.numbers i 0) (get_or m.bases i 0)) (sym e) ∙ sym (var-is i h) ∙ g'.1)
      go false u uint v z g = absurd (omega (numbers, ap form_code z))
      go false u pointer v z g = absurd (omega (numbers, ap form_code z))
