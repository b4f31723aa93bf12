-- Laws of check 15 as the code makes it, of the arrays.
-- Assumes nothing.
use Prim.Native.Nat.{ℕ, suc, ◌+◌, ◌-◌, ◌≤◌, ◌<◌}
use native.Mathlib.Omega.{arith as numbers}
use native.Mathlib.Numerals.{add-one}
use mathlib.Core.Path.{◌≡◌, refl, sym, ap, ◌∙◌}
use mathlib.Core.Bool.{Bool, true, false, not, ◌&&◌, ◌||◌}
use mathlib.Core.List.{List, [], ◌∷◌}
use lib.ListN.{length}
use lib.Dec.{leb, eqb}
use borrow.Author.Tests.{le-leb, lt-leb}
use Rattle.lists.specs.Tab.{listed, tab}
use Rattle.model.specs.State.{Array}
use Rattle.model.specs.Eval.{size_of, cells_laid}
use Rattle.kinds.specs.Kinds.{machine_of}
use Rattle.prepared.specs.declared.Frame.{Frame}
use Rattle.prepared.specs.View.{places, kind_of, array_in, arrays_of}
use Rattle.evaluators.proofs.ViewLaws.{count-arrays}
use Rattle.machine.specs.declared.Machine.{Machine}
use Rattle.machine.specs.View.{state_by}
use Rattle.row_kinds.specs.CodeRows.{size_at}
use Rattle.records.specs.Record.{in_sequence, kinds_fit, arrays_fit}
use Rattle.records.specs.CodeRecord.{array_fits}

-- whatever the variables and the callers are
module _ (cells : List ℕ) (f : Frame) (m : Machine) where
  abbrev arrays-from : ℕ → ℕ → List Array
  arrays-from i n = listed n i (array_in m.firsts m.lengths m.shapes)

  abbrev part : ℕ → List Array → Bool
  part from rs =
      in_sequence (places f) from rs
      && (leb (from + cells_laid (places f) rs) (length cells) && kinds_fit (kind_of f) rs)

  abbrev whole : Bool
  whole = arrays_fit (kind_of f) (places f) (state_by [] [] m cells)

  -- what is left, from array i on, which must start at `from`
  abbrev pub Laying : ℕ → ℕ → Type 0
  Laying from i = part from (arrays-from i (m.count - i)) ≡ whole

  pub laying-many : 16 < m.count → false ≡ whole
  laying-many h = rw (count-arrays m.count m.firsts m.lengths m.shapes, lt-leb m.count 16 h)

  pub laying-all : m.count ≤ 16 → Laying 0 0
  unfolding arrays_of tab
  laying-all h =
      let c : length (arrays-from 0 m.count) ≡ m.count = count-arrays m.count m.firsts m.lengths m.shapes in
      let z : m.count - 0 ≡ m.count = omega numbers in
      let w : 0 + cells_laid (places f) (arrays-from 0 m.count) ≡ cells_laid (places f) (arrays-from 0 m.count) = omega numbers in
      rw (z, w, c, le-leb m.count 16 h)

  kinds-by : (b : Bool) (r : Array) (rs : List Array) → kinds_fit (machine_of b) (r ∷ rs) ≡ ((b || not r.reduced) && kinds_fit (machine_of b) rs)
  kinds-by true r rs = refl
  kinds-by false r rs = refl

  one-array : (e k : Bool) (x y z : Bool) → (e && x) && (y && (k && z)) ≡ ((e && k) && (x && (y && z)))
  one-array true true x y z = refl
  one-array true false true true z = refl
  one-array true false true false z = refl
  one-array true false false y z = refl
  one-array false k x y z = refl

  part_by : (from : ℕ) (r : Array) (rs : List Array)
      → part from (r ∷ rs) ≡ (array_fits f r.start from r.reduced && part (from + size_of (places f) r) rs)
  unfolding cells_laid
  part_by from r rs =
      let ps = places f in
      let s : from + (size_of ps r + cells_laid ps rs) ≡ from + size_of ps r + cells_laid ps rs = omega numbers in
      rw (s, kinds-by f.classes r rs)
      (one-array (eqb r.start from) (f.classes || not r.reduced) (in_sequence ps (from + size_of ps r) rs)
      (leb (from + size_of ps r + cells_laid ps rs) (length cells)) (kinds_fit (kind_of f) rs))

  module _ (from i : ℕ) (L : Laying from i) (h : i < m.count) where
    abbrev it : Array
    it = array_in m.firsts m.lengths m.shapes i

    next-part : (array_fits f it.start from it.reduced && part (from + size_of (places f) it) (arrays-from (suc i) (m.count - suc i))) ≡ whole
    unfolding listed
    next-part =
        let n : m.count - i ≡ suc (m.count - suc i) = omega (numbers, h) in
        sym (part_by from it (arrays-from (suc i) (m.count - suc i))) ∙ ap (λ (n : ℕ). part from (arrays-from i n)) (sym n) ∙ L

    pub laying-next : {s : ℕ} → s ≡ size_at (places f) m.lengths m.shapes i → array_fits f it.start from it.reduced ≡ true → Laying (from + s) (i + 1)
    laying-next e g = rw (e, add-one i)
        (sym (ap (λ (b : Bool). b && part (from + size_of (places f) it) (arrays-from (suc i) (m.count - suc i))) g) ∙ next-part)

    pub laying-off : array_fits f it.start from it.reduced ≡ false → false ≡ whole
    laying-off g = sym (ap (λ (b : Bool). b && part (from + size_of (places f) it) (arrays-from (suc i) (m.count - suc i))) g) ∙ next-part

  pub laying-done : (from i : ℕ) → Laying from i → i ≡ m.count → leb from (length cells) ≡ whole
  unfolding listed cells_laid
  laying-done from i L e =
      let z : m.count - i ≡ 0 = omega (numbers, e) in
      let w : from ≡ from + 0 = omega numbers in
      go (leb from (length cells)) refl w ∙ ap (λ (n : ℕ). part from (arrays-from i n)) (sym z) ∙ L
    where
      go : (b : Bool) → leb from (length cells) ≡ b → from ≡ from + 0 → leb from (length cells) ≡ part from []
      go true u w = rw (← w, u)
      go false u w = rw (← w, u)
