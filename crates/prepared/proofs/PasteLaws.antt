-- Numbers pasted into a list: what stands before them, among them and after them; and what a list has from a place on.
-- Assumes nothing.
use Prim.Native.Nat.{ℕ, ◌+◌, ◌-◌, ◌<◌, ◌≤◌}
use native.Mathlib.Omega.{arith}
use mathlib.Core.Path.{◌≡◌, sym, ap, ◌∙◌}
use mathlib.Core.List.{List, ◌++◌}
use lib.ListN.{length, get_or, take, drop, length-drop, get_or-append}
use lib.Seq.{paste, length_paste_head, drop-paste, length-take-le, take_all, get_or-take, get_or-drop, get_or-append-add}

module _ (l : List ℕ) (at : ℕ) (s : List ℕ) (n : ℕ) (fits : at + n ≤ length l) (has : n ≤ length s) where
  short : at ≤ length l
  short = omega arith

  pub paste-before : (i : ℕ) → i < at → get_or (paste l at s n) i 0 ≡ get_or l i 0
  paste-before i h =
      let small : i < length (take at l ++ take n s) = rw (length_paste_head l at s n short has) (omega arith) in
      let inside : i < length (take at l) = rw (length-take-le at l short) h in
      get_or-append (take at l ++ take n s) (drop (at + n) l) 0 i small ∙ get_or-append (take at l) (take n s) 0 i inside ∙ get_or-take at l i 0 h

  pub paste-in : (j : ℕ) → j < n → get_or (paste l at s n) (at + j) 0 ≡ get_or s j 0
  paste-in j h =
      let small : at + j < length (take at l ++ take n s) = rw (length_paste_head l at s n short has) (omega arith) in
      get_or-append (take at l ++ take n s) (drop (at + n) l) 0 (at + j) small
      ∙ ap (λ (k : ℕ). get_or (take at l ++ take n s) (k + j) 0) (sym (length-take-le at l short))
      ∙ get_or-append-add (take at l) (take n s) j 0 ∙ get_or-take n s j 0 h

  pub paste-after : (i : ℕ) → at + n ≤ i → get_or (paste l at s n) i 0 ≡ get_or l i 0
  paste-after i h =
      let split : i ≡ at + n + (i - (at + n)) = omega arith in
      ap (λ (k : ℕ). get_or (paste l at s n) k 0) split ∙ sym (get_or-drop (at + n) (paste l at s n) (i - (at + n)) 0)
      ∙ ap (λ (x : List ℕ). get_or x (i - (at + n)) 0) (drop-paste l at s n short has)
      ∙ get_or-drop (at + n) l (i - (at + n)) 0 ∙ ap (λ (k : ℕ). get_or l k 0) (sym split)

-- ---- all that a list has from a place on
pub take_rest : (t : List ℕ) (k : ℕ) → take (length t - k) (drop k t) ≡ drop k t
take_rest t k = let all : length (drop k t) ≤ length t - k = simp length-drop (omega arith) in take_all (length t - k) (drop k t) all
