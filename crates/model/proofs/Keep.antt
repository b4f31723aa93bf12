-- Agreement is kept: a variable set, a cell written, an array added.
-- Assumes nothing.
use mathlib.Core.Path.{◌≡◌, refl, sym, ap, ◌∙◌, subst}
use mathlib.Core.Logic.{◌≢◌}
use Prim.Native.Nat.{ℕ, zero, suc, ◌+◌, ◌*◌, ◌-◌, ◌≤◌, ◌<◌}
use native.Mathlib.Nat.{mul-suc}
use native.Mathlib.Decide.{ℕ_discrete}
use native.Mathlib.Omega.{arith}
use mathlib.Core.Bool.{Bool, true, false, true≢false}
use mathlib.Core.List.{List, [], ◌∷◌, ◌++◌}
use lib.ListN.{length, get_or, set, length-set}
use lib.Seq.{get_or-set_same, get_or-set_other}
use Rattle.std.specs.Prelude.{if◌then◌else◌}
use Rattle.model.specs.Class.{class, tracked}
use Rattle.model.specs.State.{Array, MachineKind, Value, places_in}
use Rattle.model.specs.State.MachineKind.{plain, reduced}
use Rattle.model.specs.State.Value.{Uint}
use Rattle.model.specs.Eval.{index_of, keeps, no_array, size_of, cells_laid}
use Rattle.model.specs.Step.{cleared, made}
use Rattle.model.specs.Agree.{SameVariable, array_at}
use Rattle.model.specs.Accepted.{is_reduced}
use Rattle.model.proofs.ClassLaws.{class-above, class-own}
use Rattle.model.proofs.Memory.{cleared-after, cleared-before, cleared-in, cleared-length, inside, inside-used, laid-set, laid-snoc, same-cell}
use Rattle.model.proofs.Memory.{split, snoc-length, snoc_new, snoc_old, used-snoc}
use Rattle.model.proofs.Linked.{AlsoMarked, Extra, LinkedMemory, LinkedVars}

pub vars-set : (ps : List ℕ) (only : ℕ → Bool) {pv rv : List Value} → LinkedVars ps only pv rv → (a : ℕ) (v w : Value) → SameVariable ps (only a) v w
    → LinkedVars ps only (set pv a v) (set rv a w)
vars-set ps only {pv} {rv} A a v w s = record {
  number = simp length-set A.number;
  variable = λ i h. elim (ℕ_discrete i a) [
    | yes e ↦ let k : a < length pv = omega (arith, length-set pv a v) in rw
        (e, get_or-set_same pv a v (Uint 0) k, get_or-set_same rv a w (Uint 0) (omega (arith, A.number))) s
    | no e ↦ rw (get_or-set_other pv a i v (Uint 0) e, get_or-set_other rv a i w (Uint 0) e) (A.variable i (omega (arith, length-set pv a v)))
  ];
}

-- a property of every value, and of every number
pub set-fits : {A : Type 0} (P : A → Type 0) (l : List A) (a : ℕ) (v d : A) → ((i : ℕ) → P (get_or l i d)) → P v → (i : ℕ) → P (get_or (set l a v) i d)
set-fits P [] a v d h k i = h i
set-fits P (x ∷ l) zero v d h k zero = k
set-fits P (x ∷ l) zero v d h k (suc i) = h (suc i)
set-fits P (x ∷ l) (suc a) v d h k zero = h 0
set-fits P (x ∷ l) (suc a) v d h k (suc i) = set-fits P l a v d (λ j. h (suc j)) k i

pub cleared-fits : (F : ℕ → Type 0) → F 0 → (s n : ℕ) (cs : List ℕ) → s + n ≤ length cs → ((i : ℕ) → F (get_or cs i 0)) → (i : ℕ)
    → F (get_or (cleared s n cs) i 0)
cleared-fits F z s n cs h k i =
    split s i (λ l. split (s + n) i (λ o. subst F (sym (cleared-after s n cs h i o)) (k i))
    (λ o. subst F (sym (ap (λ (j : ℕ). get_or (cleared s n cs) j 0) (omega arith) ∙ cleared-in s n cs h (i - s) (omega arith))) z))
    (λ l. subst F (sym (cleared-before s n cs h i l)) (k i))

-- a place that is kept has its cell among the array's own, and no other place has that
pub index_in : (ps : List ℕ) (b : Bool) (l q : ℕ) → q < l → if b then tracked ps q else true ≡ true
    → (if b then class ps q else q) < (if b then class ps l else l)
index_in ps true l q h k = class-above ps k h
index_in ps false l q h k = h

index-own : (ps : List ℕ) (b : Bool) (m q : ℕ) → if b then tracked ps q else true ≡ true → (if b then class ps m else m) ≡ (if b then class ps q else q) → m ≡ q
index-own ps true m q k e = class-own ps k e
index-own ps false m q k e = e

-- the first keeps what the second keeps
pub kept-also : (m : MachineKind) (ps : List ℕ) (b c : Bool) (j : ℕ) → AlsoMarked m b c → if c then tracked ps j else true ≡ true
    → if b then tracked (places_in m ps) j else true ≡ true
kept-also m ps false c j h k = refl
kept-also plain ps true c j h k = absurd (true≢false (ap is_reduced (sym (h refl).0)))
kept-also reduced ps true c j h k = rw (h refl).1 at k

-- the second's array has at most so many cells more
pub size-also : (m : MachineKind) (ps : List ℕ) (b c : Bool) (n k : ℕ) → AlsoMarked m b c → class ps n ≤ n + k
    → (if c then class ps n else n) ≤ (if b then class (places_in m ps) n else n) + k
size-also m ps false true n k h s = s
size-also m ps false false n k h s = omega arith
size-also plain ps true c n k h s = absurd (true≢false (ap is_reduced (sym (h refl).0)))
size-also reduced ps true c n k h s = rw (h refl).1 (omega arith)

module _ {m : MachineKind} {ps : List ℕ} {extra : Extra} {ks : List Bool} {pa : List Array} {pc : List ℕ} {ra : List Array} {rc : List ℕ}
    (A : LinkedMemory m ps extra ks pa pc ra rc) where
  abbrev qs : List ℕ
  qs = places_in m ps

  first-keeps : (i j : ℕ) → i < length pa → keeps ps (array_at ra i) j ≡ true → keeps qs (array_at pa i) j ≡ true
  first-keeps i j h g = kept-also m ps (array_at pa i).reduced (array_at ra i).reduced j (A.also i h) g

  first-in : (i j : ℕ) → i < length pa → j < (array_at pa i).len → keeps qs (array_at pa i) j ≡ true
      → index_of qs (array_at pa i) j < size_of qs (array_at pa i)
  first-in i j h k g = index_in qs (array_at pa i).reduced _ j k g

  second-in : (i j : ℕ) → i < length pa → j < (array_at pa i).len → keeps ps (array_at ra i) j ≡ true
      → index_of ps (array_at ra i) j < size_of ps (array_at ra i)
  second-in i j h k g = index_in ps (array_at ra i).reduced _ j (rw (A.len i h) k) g

  -- one cell of two places is that of one array and place
  first-same : (i j i' j' : ℕ) → i < length pa → j < (array_at pa i).len → keeps qs (array_at pa i) j ≡ true → i' < length pa → j' < (array_at pa i').len
      → keeps qs (array_at pa i') j' ≡ true
      → (array_at pa i').start + index_of qs (array_at pa i') j' ≡ (array_at pa i).start + index_of qs (array_at pa i) j → (i' ≡ i) × (j' ≡ j)
  first-same i j i' j' h k g h' k' g' e = go (same-cell qs A.laid_first i' i h' h _ _ (first-in i' j' h' k' g') (first-in i j h k g) e)
    where
      go : (i' ≡ i) × (index_of qs (array_at pa i') j' ≡ index_of qs (array_at pa i) j) → (i' ≡ i) × (j' ≡ j)
      go u = (u.0, index-own qs (array_at pa i).reduced j' j g (rw u.0 at u.1))

  second-same : (i j i' j' : ℕ) → i < length pa → j < (array_at pa i).len → keeps ps (array_at ra i) j ≡ true → i' < length pa → j' < (array_at pa i').len
      → keeps ps (array_at ra i') j' ≡ true
      → (array_at ra i').start + index_of ps (array_at ra i') j' ≡ (array_at ra i).start + index_of ps (array_at ra i) j → (i' ≡ i) × (j' ≡ j)
  second-same i j i' j' h k g h' k' g' e =
      go (same-cell ps A.laid_second i' i (omega (arith, A.number)) (omega (arith, A.number)) _ _ (second-in i' j' h' k' g') (second-in i j h k g) e)
    where
      go : (i' ≡ i) × (index_of ps (array_at ra i') j' ≡ index_of ps (array_at ra i) j) → (i' ≡ i) × (j' ≡ j)
      go u = (u.0, index-own ps (array_at ra i).reduced j' j g (rw u.0 at u.1))

  module _ (i j : ℕ) (h : i < length pa) (k : j < (array_at pa i).len) (x : ℕ) where
    -- a place that the second keeps
    pub memory-write : keeps ps (array_at ra i) j ≡ true
        → LinkedMemory m ps extra ks pa (set pc ((array_at pa i).start + index_of qs (array_at pa i) j) x) ra
        (set rc ((array_at ra i).start + index_of ps (array_at ra i) j) x)
    memory-write g = record {
      number = A.number;
      flags = A.flags;
      flag = A.flag;
      also = A.also;
      len = A.len;
      equal = λ i' h' j' k' g'. elim
          (ℕ_discrete ((array_at pa i').start + index_of qs (array_at pa i') j') ((array_at pa i).start + index_of qs (array_at pa i) j)) [
            | yes e ↦ same (first-same i j i' j' h k (first-keeps i j h g) h' k' (first-keeps i' j' h' g') e)
            | no e ↦ let ne : (array_at ra i').start + index_of ps (array_at ra i') j' ≢ (array_at ra i).start + index_of ps (array_at ra i) j =
                λ q. e (both-same (second-same i j i' j' h k g h' k' g' q)) in
                rw (get_or-set_other pc _ _ x 0 e, get_or-set_other rc _ _ x 0 ne) (A.equal i' h' j' k' g')
          ];
      laid_first = laid-set qs A.laid_first _ x;
      laid_second = laid-set ps A.laid_second _ x;
      fewer = A.fewer;
      room = simp length-set A.room;
    }
      where
        same : {i' j' : ℕ} → (i' ≡ i) × (j' ≡ j)
            → get_or (set rc ((array_at ra i).start + index_of ps (array_at ra i) j) x) ((array_at ra i').start + index_of ps (array_at ra i') j') 0
            ≡ get_or (set pc ((array_at pa i).start + index_of qs (array_at pa i) j) x) ((array_at pa i').start + index_of qs (array_at pa i') j') 0
        same u =
            rw (
              u.0,
              u.1,
              get_or-set_same pc _ x 0 (inside qs A.laid_first i h _ (first-in i j h k (first-keeps i j h g))),
              get_or-set_same rc _ x 0 (inside ps A.laid_second i (omega (arith, A.number)) _ (second-in i j h k g)),
            )

        both-same : {i' j' : ℕ} → (i' ≡ i) × (j' ≡ j)
            → (array_at pa i').start + index_of qs (array_at pa i') j' ≡ (array_at pa i).start + index_of qs (array_at pa i) j
        both-same u = rw (u.0, u.1)

    -- a place that only the first keeps
    pub memory-drop : keeps qs (array_at pa i) j ≡ true → keeps ps (array_at ra i) j ≡ false
        → LinkedMemory m ps extra ks pa (set pc ((array_at pa i).start + index_of qs (array_at pa i) j) x) ra rc
    memory-drop f g = record {
      number = A.number;
      flags = A.flags;
      flag = A.flag;
      also = A.also;
      len = A.len;
      equal = λ i' h' j' k' g'.
          let ne : (array_at pa i').start + index_of qs (array_at pa i') j' ≢ (array_at pa i).start + index_of qs (array_at pa i) j =
          λ q. dropped i' j' g' (first-same i j i' j' h k f h' k' (first-keeps i' j' h' g') q) in
          rw (get_or-set_other pc _ _ x 0 ne) (A.equal i' h' j' k' g');
      laid_first = laid-set qs A.laid_first _ x;
      laid_second = A.laid_second;
      fewer = A.fewer;
      room = simp length-set A.room;
    }
      where
        dropped : (i' j' : ℕ) → keeps ps (array_at ra i') j' ≡ true → (i' ≡ i) × (j' ≡ j) → ⊥
        dropped i' j' g' u = true≢false (sym g' ∙ rw (u.0, u.1) g)

  -- one more array: the first makes it reduced, or not (b), and so does the second (c)
  module _ (n : ℕ) (b c : Bool) (also : AlsoMarked m b c) (small : class ps n ≤ n + extra.per_array)
      (first_fits : cells_laid qs pa + (if b then class qs n else n) ≤ length pc)
      (second_fits : cells_laid ps ra + (if c then class ps n else n) ≤ length rc) where
    abbrev new_first : Array
    new_first = made (cells_laid qs pa) n b

    abbrev new_second : Array
    new_second = made (cells_laid ps ra) n c

    -- what holds of the old arrays and of the new one holds of all
    all_hold : (P : ℕ → Type 0) → ((i : ℕ) → i < length pa → P i) → P (length pa) → (i : ℕ) → i < length (pa ++ new_first ∷ []) → P i
    all_hold P old new i h = elim (ℕ_discrete i (length pa)) [ yes e ↦ subst P (sym e) new | no e ↦ old i (omega (arith, snoc-length pa new_first)) ]

    old-first : (i : ℕ) → i < length pa → array_at (pa ++ new_first ∷ []) i ≡ array_at pa i
    old-first i h = snoc_old pa _ no_array i h

    old-second : (i : ℕ) → i < length pa → array_at (ra ++ new_second ∷ []) i ≡ array_at ra i
    old-second i h = snoc_old ra _ no_array i (omega (arith, A.number))

    new-first : array_at (pa ++ new_first ∷ []) (length pa) ≡ new_first
    new-first = snoc_new pa _ no_array

    new-second : array_at (ra ++ new_second ∷ []) (length pa) ≡ new_second
    new-second = rw (← A.number) (snoc_new ra _ no_array)

    old-equal : (i : ℕ) → i < length pa → (j : ℕ) → j < (array_at pa i).len → keeps ps (array_at ra i) j ≡ true
        → get_or (cleared (cells_laid ps ra) (if c then class ps n else n) rc) ((array_at ra i).start + index_of ps (array_at ra i) j) 0
        ≡ get_or (cleared (cells_laid qs pa) (if b then class qs n else n) pc) ((array_at pa i).start + index_of qs (array_at pa i) j) 0
    old-equal i h j k g =
        cleared-before _ _ rc second_fits _ (inside-used ps A.laid_second i (omega (arith, A.number)) _ (second-in i j h k g))
        ∙ A.equal i h j k g
        ∙ sym (cleared-before _ _ pc first_fits _ (inside-used qs A.laid_first i h _ (first-in i j h k (first-keeps i j h g))))

    new-equal : (j : ℕ) → j < n → if c then tracked ps j else true ≡ true
        → get_or (cleared (cells_laid ps ra) (if c then class ps n else n) rc) (cells_laid ps ra + (if c then class ps j else j)) 0
        ≡ get_or (cleared (cells_laid qs pa) (if b then class qs n else n) pc) (cells_laid qs pa + (if b then class qs j else j)) 0
    new-equal j k g = cleared-in _ _ rc second_fits _ (index_in ps c n j k g)
        ∙ sym (cleared-in _ _ pc first_fits _ (index_in qs b n j k (kept-also m ps b c j also g)))

    pub memory-new : LinkedMemory m ps extra (ks ++ c ∷ []) (pa ++ new_first ∷ []) (cleared (cells_laid qs pa) (if b then class qs n else n) pc)
        (ra ++ new_second ∷ []) (cleared (cells_laid ps ra) (if c then class ps n else n) rc)
    memory-new = record {
      number = simp snoc-length (ap suc A.number);
      flags = simp snoc-length (ap suc A.flags);
      flag = all_hold _ (λ i h. rw (snoc_old ks c false i (omega (arith, A.flags)), old-second i h) (A.flag i h))
          (rw new-second (rw (← A.flags) (snoc_new ks c false)));
      also = all_hold _ (λ i h. rw (old-first i h, old-second i h) (A.also i h)) (rw (new-first, new-second) also);
      len = all_hold _ (λ i h. rw (old-first i h, old-second i h) (A.len i h)) (rw (new-first, new-second));
      equal = all_hold _ (λ i h. rw (old-first i h, old-second i h) (old-equal i h)) (rw (new-first, new-second) new-equal);
      laid_first = laid-snoc qs A.laid_first new_first refl first_fits;
      laid_second = laid-snoc ps A.laid_second new_second refl second_fits;
      fewer = omega (
        arith,
        A.fewer,
        used-snoc qs pa new_first,
        used-snoc ps ra new_second,
        ap (λ (k : ℕ). extra.per_array * k) (snoc-length pa new_first)
            ∙ mul-suc extra.per_array (length pa),
        size-also m ps b c n extra.per_array also small,
      );
      room = omega (
        arith,
        A.room,
        cleared-length (cells_laid qs pa) (if b then class qs n else n) pc first_fits,
        cleared-length (cells_laid ps ra)
            (if c then class ps n else n) rc second_fits,
      );
    }
