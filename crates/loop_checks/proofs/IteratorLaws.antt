-- Check 16 by the rows that the code keeps of the open loops.
-- Assumes nothing.
use Prim.Native.Nat.{ℕ, zero, suc, ◌+◌, ◌-◌, ◌<◌, ◌≤◌}
use native.Mathlib.Omega.{arith}
use native.Mathlib.Numerals.{add-one}
use mathlib.Core.Path.{◌≡◌, refl, sym, ap, ◌∙◌}
use mathlib.Core.Bool.{Bool, true, false, ◌&&◌}
use mathlib.Core.List.{List, ◌∷◌}
use lib.ListN.{length, get_or, take, set}
use Rattle.std.proofs.lemmas.List.{get_or-take, length-take}
use lib.Seq.{get_or-set_same, get_or-set_other}
use Rattle.model.specs.Table.{Table, row_at, Nest, nest_at, nested, open_at}
use Rattle.model.specs.Table.Nest.{opens, closes, neither}
use Rattle.model.specs.Accepted.{misnested, most_open}
use Rattle.kinds.specs.declared.asks.Nest.{Nest as NestName}
use Rattle.kinds.specs.declared.asks.Nest.TheVariants as name
use Rattle.kinds.specs.Kinds.{nest_said}
use Rattle.kinds.specs.Code.{open_after}
use Rattle.loop_checks.specs.Rules.{any, opened_with, opens_loop, shares_iterator}
use Rattle.loop_checks.specs.Code.{kept_rows}
use Rattle.loop_checks.proofs.LoopLaws.{few-open}

-- ---- the rows kept

kept-length : (b : List ℕ) (n : ℕ) → length (kept_rows b n) ≡ n
unfolding kept_rows
kept-length b zero = refl
kept-length b (suc n) = ap suc (kept-length b n)

-- what is written past them is none of them
kept_set : (b : List ℕ) (v i n : ℕ) → n ≤ i → kept_rows (set b i v) n ≡ kept_rows b n
unfolding kept_rows
kept_set b v i zero l = refl
kept_set b v i (suc n) l = rw (get_or-set_other b i n v 0 (λ e. omega arith), kept_set b v i n (omega arith))

-- they are those of a slice
kept-first : (b : List ℕ) (n m : ℕ) → n ≤ m → kept_rows (take m b) n ≡ kept_rows b n
unfolding kept_rows
kept-first b zero m l = refl
kept-first b (suc n) m l = rw (get_or-take m b n 0 (omega arith), kept-first b n m (omega arith))

pub kept-slice : (b : List ℕ) (n : ℕ) → n ≤ length b → kept_rows (take n b) (length (take n b)) ≡ kept_rows b n
kept-slice b n l =
    let e : length (take n b) ≡ n = omega (arith, length-take n b) in
    rw e (kept-first b n n (omega arith))

-- a test of the rows that a slice of the buffer has, where its length is the number of open loops
pub any-slice : (f : ℕ → Bool) {x : Bool} {m : ℕ} (b : List ℕ) (n : ℕ) → x ≡ any f (kept_rows (take m b) (length (take m b))) → m ≡ n → n ≤ length b
    → x ≡ any f (kept_rows b n)
any-slice f b n e q l = rw q at e ∙ ap (any f) (kept-slice b n l)

-- one more, and one fewer
kept_more : (b : List ℕ) (n v : ℕ) → n < length b → kept_rows (set b n v) (n + 1) ≡ v ∷ kept_rows b n
unfolding kept_rows
kept_more b n v l = rw (add-one n, get_or-set_same b n v 0 l, kept_set b v n n (omega arith))

kept-fewer : (b : List ℕ) (r n : ℕ) → kept_rows b (n - 1) ≡ nested closes r (kept_rows b n)
unfolding kept_rows
kept-fewer b r zero = refl
kept-fewer b r (suc n) = ap (kept_rows b) {x = suc n - 1} {y = n} (omega arith)

-- a test of them, the last first
pub kept-none : (f : ℕ → Bool) (b : List ℕ) (n : ℕ) → n ≤ 0 → any f (kept_rows b n) ≡ false
unfolding any kept_rows
kept-none f b n l = ap (λ (k : ℕ). any f (kept_rows b k)) {x = n} {y = 0} (omega arith)

module _ (f : ℕ → Bool) (b : List ℕ) (n : ℕ) (some : 0 < n) where
  one : kept_rows b n ≡ get_or b (n - 1) 0 ∷ kept_rows b (n - 1)
  unfolding kept_rows
  one = ap (kept_rows b) {x = n} {y = suc (n - 1)} (omega arith)

  pub kept-hit : f (get_or b (n - 1) 0) ≡ true → any f (kept_rows b n) ≡ true
  unfolding any
  kept-hit h = rw (one, h)

  pub kept-miss : f (get_or b (n - 1) 0) ≡ false → any f (kept_rows b n) ≡ any f (kept_rows b (n - 1))
  unfolding any
  kept-miss h = rw one (rw h)

-- how the code's word for nesting reads
pub said-opens : (n : NestName) → nest_said n ≡ opens → n ≡ name.Opens
said-opens name.Opens e = refl
said-opens name.Closes e = cc
said-opens name.Neither e = cc

-- no more are open after a row that opens none
pub few-after : (q : Nest) (n most : ℕ) {m : ℕ} → (q ≡ opens → ⊥) → m ≡ open_after q n → n ≤ most → m ≤ most
few-after opens n most h e l = absurd (h refl)
few-after closes n most h e l = omega arith
few-after neither n most h e l = omega arith

-- ---- a row, with the rows of the loops open before it kept

module _ (t : Table) (r : ℕ) (q : Nest) (e : q ≡ nest_at t r) where
  pub at-opening : q ≡ opens → nest_at t r ≡ opens
  at-opening h = sym e ∙ h

  module _ (b : List ℕ) (n : ℕ) (k : kept_rows b n ≡ open_at t r) where
    -- 11 leaves room for one more
    pub few-kept : misnested t r ≡ false → q ≡ opens → n < most_open
    few-kept h o = omega (arith, few-open t r h (at-opening o), sym (kept-length b n) ∙ ap length k)

    -- whether it breaks 16, since a row
    pub shares-by : (since : ℕ) → q ≡ opens → shares_iterator t since r ≡ any (opened_with t since (row_at t r).a) (kept_rows b n)
    unfolding shares_iterator
    shares-by since h = rw (at-opening h, k)

    pub shares-none : (since : ℕ) → (q ≡ opens → ⊥) → shares_iterator t since r ≡ false
    unfolding shares_iterator
    shares-none since h = go (nest_at t r) (λ w. h (e ∙ w))
      where
        go : (m : Nest) → (m ≡ opens → ⊥) → (opens_loop m && any (opened_with t since (row_at t r).a) (open_at t r)) ≡ false
        go opens h = absurd (h refl)
        go closes h = refl
        go neither h = refl

    -- the rows to be kept after it
    pub kept-opening : q ≡ opens → n < length b → kept_rows (set b n r) (open_after q n) ≡ open_at t (r + 1)
    unfolding open_at
    kept-opening h l = rw (h, add-one r, at-opening h, sym k) (kept_more b n r l)

    pub kept-other : (q ≡ opens → ⊥) → kept_rows b (open_after q n) ≡ open_at t (r + 1)
    unfolding open_at
    kept-other h = rw (e, add-one r, sym k) (go (nest_at t r) (λ w. h (e ∙ w)))
      where
        go : (m : Nest) → (m ≡ opens → ⊥) → kept_rows b (open_after m n) ≡ nested m r (kept_rows b n)
        go opens h = absurd (h refl)
        go closes h = kept-fewer b r n
        go neither h = refl
