-- Laws of arrays laid one after the other.
-- Assumes nothing.
use mathlib.Core.Path.{◌≡◌, sym, ap, ◌∙◌}
use mathlib.Core.Logic.{◌≢◌}
use Prim.Native.Nat.{ℕ, zero, suc, ◌+◌, ◌-◌, ◌≤◌, ◌<◌}
use native.Mathlib.Nat.{le_of_suc-le-suc, not-suc-le-zero}
use native.Mathlib.Decide.{dec_le, ℕ_discrete}
use native.Mathlib.Omega.{arith}
use mathlib.Core.List.{List, [], ◌∷◌, ◌++◌}
use lib.ListN.{length, get_or, set, take, drop, replicate, length-append, length-set, length-drop, length-replicate, get_or-replicate}
use lib.ListN.{get_or-append}
use lib.Seq.{get_or-take, get_or-append-add, length-take-le, get_or-append_seam, get_or-drop}
use Rattle.model.specs.State.{Array}
use Rattle.model.specs.Eval.{size_of, cells_laid}
use Rattle.model.specs.Step.{cleared}
use Rattle.model.specs.Agree.{array_at}
use Rattle.model.specs.Accepted.{InSequence, Laid}

pub split {ℓ} : {X : Type ℓ} (a b : ℕ) → (a ≤ b → X) → (b < a → X) → X
split a b f g = elim (dec_le a b) [ yes h ↦ f h | no h ↦ g (omega arith) ]

-- n cells from s on set to a number x
module _ (x s n : ℕ) (cs : List ℕ) (h : s + n ≤ length cs) where
  abbrev filled : List ℕ
  filled = take s cs ++ (replicate n x ++ drop (s + n) cs)

  filled-length : length filled ≡ length cs
  filled-length = simp (length-append, length-take-le s cs (omega arith), length-replicate, length-drop) (omega arith)

  filled-before : (i : ℕ) → i < s → get_or filled i 0 ≡ get_or cs i 0
  filled-before i k =
      get_or-append (take s cs) (replicate n x ++ drop (s + n) cs) 0 i (omega (arith, length-take-le s cs (omega arith))) ∙ get_or-take s cs i 0 k

  filled_in : (i : ℕ) → i < n → get_or filled (s + i) 0 ≡ x
  filled_in i k =
      ap (λ (j : ℕ). get_or filled (j + i) 0) (sym (length-take-le s cs (omega arith)))
      ∙ get_or-append-add (take s cs) (replicate n x ++ drop (s + n) cs) i 0
      ∙ get_or-append (replicate n x) (drop (s + n) cs) 0 i (omega (arith, length-replicate {A = ℕ} n x))
      ∙ get_or-replicate n i x 0 k

  filled-after : (i : ℕ) → s + n ≤ i → get_or filled i 0 ≡ get_or cs i 0
  filled-after i k =
      ap (λ (j : ℕ). get_or filled j 0) (omega (arith, length-take-le s cs (omega arith)))
      ∙ get_or-append-add (take s cs) (replicate n x ++ drop (s + n) cs) (i - s) 0
      ∙ ap (λ (j : ℕ). get_or (replicate n x ++ drop (s + n) cs) j 0) (omega (arith, length-replicate {A = ℕ} n x))
      ∙ get_or-append-add (replicate n x) (drop (s + n) cs) (i - (s + n)) 0
      ∙ get_or-drop (s + n) cs (i - (s + n)) 0
      ∙ ap (λ (j : ℕ). get_or cs j 0) (omega arith)

-- the cells of a new array are 0 (rule 2.23)
pub cleared-length : (s n : ℕ) (cs : List ℕ) → s + n ≤ length cs → length (cleared s n cs) ≡ length cs
cleared-length s n cs h = filled-length _ s n cs h

pub cleared-before : (s n : ℕ) (cs : List ℕ) → s + n ≤ length cs → (i : ℕ) → i < s → get_or (cleared s n cs) i 0 ≡ get_or cs i 0
cleared-before s n cs h = filled-before _ s n cs h

pub cleared-in : (s n : ℕ) (cs : List ℕ) → s + n ≤ length cs → (i : ℕ) → i < n → get_or (cleared s n cs) (s + i) 0 ≡ 0
cleared-in s n cs h = filled_in _ s n cs h

pub cleared-after : (s n : ℕ) (cs : List ℕ) → s + n ≤ length cs → (i : ℕ) → s + n ≤ i → get_or (cleared s n cs) i 0 ≡ get_or cs i 0
cleared-after s n cs h = filled-after _ s n cs h

-- the elements of a list with one more
pub snoc_old : {X : Type 0} (rs : List X) (a d : X) (i : ℕ) → i < length rs → get_or (rs ++ a ∷ []) i d ≡ get_or rs i d
snoc_old rs a d i h = get_or-append rs (a ∷ []) d i h

pub snoc_new : {X : Type 0} (rs : List X) (a d : X) → get_or (rs ++ a ∷ []) (length rs) d ≡ a
snoc_new rs a d = get_or-append_seam rs a [] d

pub snoc-length : {X : Type 0} (rs : List X) (a : X) → length (rs ++ a ∷ []) ≡ suc (length rs)
snoc-length rs a = simp length-append (omega arith)

module _ (ps : List ℕ) where
  -- an array ends where those laid end, or before
  ends-within : (rs : List Array) (b i : ℕ) → InSequence ps b rs → i < length rs → (array_at rs i).start + size_of ps (array_at rs i) ≤ b + cells_laid ps rs
  unfolding cells_laid
  ends-within [] b i s h = absurd (not-suc-le-zero h)
  ends-within (a ∷ rs) b zero s h = omega (arith, s.0)
  ends-within (a ∷ rs) b (suc i) s h = omega (arith, ends-within rs (b + size_of ps a) i s.1 (le_of_suc-le-suc h))

  starts-after : (rs : List Array) (b i : ℕ) → InSequence ps b rs → i < length rs → b ≤ (array_at rs i).start
  starts-after [] b i s h = absurd (not-suc-le-zero h)
  starts-after (a ∷ rs) b zero s h = omega (arith, s.0)
  starts-after (a ∷ rs) b (suc i) s h = omega (arith, starts-after rs (b + size_of ps a) i s.1 (le_of_suc-le-suc h))

  -- an earlier array ends before a later one starts
  before : (rs : List Array) (b i j : ℕ) → InSequence ps b rs → i < j → j < length rs
      → (array_at rs i).start + size_of ps (array_at rs i) ≤ (array_at rs j).start
  before [] b i j s h k = absurd (not-suc-le-zero k)
  before (a ∷ rs) b i zero s h k = absurd (not-suc-le-zero h)
  before (a ∷ rs) b zero (suc j) s h k = omega (arith, s.0, starts-after rs (b + size_of ps a) j s.1 (le_of_suc-le-suc k))
  before (a ∷ rs) b (suc i) (suc j) s h k = before rs (b + size_of ps a) i j s.1 (le_of_suc-le-suc h) (le_of_suc-le-suc k)

  pub inside : {rs : List Array} {cs : List ℕ} → Laid ps rs cs → (i : ℕ) → i < length rs → (x : ℕ) → x < size_of ps (array_at rs i)
      → (array_at rs i).start + x < length cs
  inside {rs} L i h x k = omega (arith, ends-within rs 0 i L.sequence h, L.room)

  pub inside-used : {rs : List Array} {cs : List ℕ} → Laid ps rs cs → (i : ℕ) → i < length rs → (x : ℕ) → x < size_of ps (array_at rs i)
      → (array_at rs i).start + x < cells_laid ps rs
  inside-used {rs} L i h x k = omega (arith, ends-within rs 0 i L.sequence h)

  -- two arrays have no cell in common
  pub apart : {rs : List Array} {cs : List ℕ} → Laid ps rs cs → (i j : ℕ) → i < length rs → j < length rs → i ≢ j
      → (x y : ℕ) → x < size_of ps (array_at rs i) → y < size_of ps (array_at rs j) → (array_at rs i).start + x ≢ (array_at rs j).start + y
  apart {rs} L i j h k ne x y hx hy =
      split i j (λ l. λ e. omega (arith, before rs 0 i j L.sequence (omega arith) k))
      (λ l. λ e. omega (arith, before rs 0 j i L.sequence l h))

  pub laid-set : {rs : List Array} {cs : List ℕ} → Laid ps rs cs → (i x : ℕ) → Laid ps rs (set cs i x)
  laid-set {cs} L i x = record { sequence = L.sequence; room = omega (arith, L.room, length-set cs i x) }

  -- one more array
  pub used-snoc : (rs : List Array) (a : Array) → cells_laid ps (rs ++ a ∷ []) ≡ cells_laid ps rs + size_of ps a
  unfolding cells_laid
  used-snoc [] a = omega arith
  used-snoc (b ∷ rs) a = omega (arith, used-snoc rs a)

  sequence-snoc : (rs : List Array) (b : ℕ) (a : Array) → InSequence ps b rs → a.start ≡ b + cells_laid ps rs → InSequence ps b (rs ++ a ∷ [])
  unfolding cells_laid
  sequence-snoc [] b a s e = (omega arith, tt)
  sequence-snoc (x ∷ rs) b a s e = (s.0, sequence-snoc rs (b + size_of ps x) a s.1 (omega arith))

  pub same-cell : {rs : List Array} {cs : List ℕ} → Laid ps rs cs → (i j : ℕ) → i < length rs → j < length rs
      → (x y : ℕ) → x < size_of ps (array_at rs i) → y < size_of ps (array_at rs j) → (array_at rs i).start + x ≡ (array_at rs j).start + y → (i ≡ j) × (x ≡ y)
  same-cell {rs} L i j h k x y hx hy e =
      elim (ℕ_discrete i j) [
        | yes q ↦ (q, omega (arith, ap (λ (n : ℕ). (array_at rs n).start) q))
        | no q ↦ absurd (apart L i j h k q x y hx hy e)
      ]

  -- ... its cells set to 0
  pub laid-snoc : {rs : List Array} {cs : List ℕ} → Laid ps rs cs → (a : Array) → a.start ≡ cells_laid ps rs → cells_laid ps rs + size_of ps a ≤ length cs
      → Laid ps (rs ++ a ∷ []) (cleared a.start (size_of ps a) cs)
  laid-snoc {rs} {cs} L a e h = record {
    sequence = sequence-snoc rs 0 a L.sequence (omega arith);
    room = omega (arith, used-snoc rs a, cleared-length a.start (size_of ps a) cs (omega arith));
  }
