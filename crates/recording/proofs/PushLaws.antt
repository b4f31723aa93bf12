-- Laws of pushes: one list after another, the length that is kept, and what stands in the buffer where there was room.
-- Assumes nothing.
use Prim.Native.Nat.{ℕ, suc, ◌+◌, ◌≤◌, ◌<◌}
use native.Mathlib.Omega.{arith}
use native.Mathlib.Numerals.{add-one}
use mathlib.Core.Path.{◌≡◌, refl, sym, ap, ◌∙◌}
use mathlib.Core.Bool.{Bool, true, false}
use mathlib.Core.List.{List, [], ◌∷◌, ◌++◌}
use lib.ListN.{length, set, take, drop, length-set}
use lib.Seq.{sets, sets-eq}
use lib.Dec.{ltb}
use borrow.Author.Tests.{lt-ltb, le-ltb}
use Rattle.std.specs.Prelude.{if◌then◌else◌}
use Rattle.recording.specs.CodePushes.{Pushed, pushed, push, push_all}

-- one number, where there is a place for it and where there is none
pub push-in : {A : Type 0} (b : List A) (i : ℕ) (v : A) → i < length b → pushed (set b i v) (i + 1) ≡ push v (pushed b i)
unfolding push
push-in b i v h = rw (lt-ltb i (length b) h)

pub push-out : {A : Type 0} (b : List A) (i : ℕ) (v : A) → length b ≤ i → pushed b i ≡ push v (pushed b i)
unfolding push
push-out b i v h = rw (le-ltb i (length b) h)

pub push-one : (v : ℕ) (p : Pushed ℕ) → push_all (v ∷ []) p ≡ push v p
unfolding push_all
push-one v p = refl

pub push-none : (p : Pushed ℕ) → push_all [] p ≡ p
unfolding push_all
push-none p = refl

-- one list after another
pub push-append : (xs ys : List ℕ) (p : Pushed ℕ) → push_all (xs ++ ys) p ≡ push_all ys (push_all xs p)
unfolding push_all
push-append [] ys p = refl
push-append (x ∷ xs) ys p = push-append xs ys (push x p)

-- the buffer keeps its length
push-length : (v : ℕ) (p : Pushed ℕ) → length (push v p).buffer ≡ length p.buffer
unfolding push
push-length v p = go (ltb p.at (length p.buffer))
  where
    go : (b : Bool) → length (if b then pushed (set p.buffer p.at v) (p.at + 1) else p).buffer ≡ length p.buffer
    go true = length-set p.buffer p.at v
    go false = refl

pub length-kept : (xs : List ℕ) (p : Pushed ℕ) → length (push_all xs p).buffer ≡ length p.buffer
unfolding push_all
length-kept [] p = refl
length-kept (x ∷ xs) p = length-kept xs (push x p) ∙ push-length x p

-- where there is room, each number stands at its place
sets-all : (xs b : List ℕ) (i : ℕ) → i + length xs ≤ length b → push_all xs (pushed b i) ≡ pushed (sets b i xs) (i + length xs)
unfolding push_all
sets-all [] b i h = ap (pushed b) (omega arith)
sets-all (x ∷ xs) b i h =
    ap (push_all xs) (sym (push-in b i x (omega arith)))
    ∙ ap (λ (k : ℕ). push_all xs (pushed (set b i x) k)) (add-one i)
    ∙ sets-all xs (set b i x) (suc i) (rw (length-set b i x) (omega arith))
    ∙ ap (pushed (sets (set b i x) (suc i) xs)) (omega arith)

pub push-fits : (xs b : List ℕ) (i : ℕ) → i + length xs ≤ length b
    → push_all xs (pushed b i) ≡ pushed (take i b ++ xs ++ drop (i + length xs) b) (i + length xs)
push-fits xs b i h = sets-all xs b i h ∙ ap (λ (l : List ℕ). pushed l (i + length xs)) (sets-eq xs b i h)
