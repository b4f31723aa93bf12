-- What the library's methods leave and answer, in the words of the layers below: a filled slice, a test at each number of a range.
-- Assumes nothing.
use Rattle.std.proofs.Common.{◌≡◌, ℕ, zero, suc, ◌+◌, ◌-◌, ◌<◌, ◌≤◌, Bool, true, false, ◌&&◌, ltb, List, [], ◌++◌, length, get_or, take, drop, replicate}
use Rattle.std.proofs.Common.{refl, sym, ap, ◌∙◌, arith, ext_get_or, ltb-true, ltb-false}
use borrow.Rule.Slice.PartMut.{put_mid}
use lib.ListN.{drop_of_length-le, get_or-eq_default}
use Rattle.std.proofs.lemmas.List.{append-nil, drop-drop, length-append, length-replicate, get_or-replicate, get_or_append_left, get_or-append_right}
use Rattle.std.specs.List.{range_with_len, list_all}
use Rattle.lists.specs.Tab.{tab, all, padded}
use Rattle.lists.proofs.TabLaws.{length-tab, at-tab}

module _ (f : ℕ → ℕ) (n k size : ℕ) (sum : n + k ≡ size) where
  with-zeros : tab n f ++ replicate k 0 ≡ padded size (tab n f)
  with-zeros =
      let long : length (tab n f) ≡ n = length-tab n f in
      let whole : length (tab n f ++ replicate k 0) ≡ size = simp (length-append, length-replicate) (omega (arith, long)) in
      ext_get_or 0 _ _ (whole ∙ sym (length-tab size (λ j. get_or (tab n f) j 0)))
      (λ i l. let m : i < size = rw whole at l in at i m (ltb i n) refl ∙ sym (at-tab size _ 0 i m))
    where
      at : (i : ℕ) → i < size → (t : Bool) → ltb i n ≡ t → get_or (tab n f ++ replicate k 0) i 0 ≡ get_or (tab n f) i 0
      at i m true e = get_or_append_left (tab n f) (replicate k 0) 0 i (rw (length-tab n f) (ltb-true i n e))
      at i m false e =
          let past : n ≤ i = ltb-false i n e in
          let short : length (tab n f) ≤ i = rw (length-tab n f) past in
          get_or-append_right (tab n f) (replicate k 0) n i 0 (length-tab n f) past ∙ get_or-replicate k (i - n) 0 0 (omega arith)
          ∙ sym (get_or-eq_default (tab n f) 0 short)

  -- a list that is made zero from place n on
  pub zero-filled : (xs zs : List ℕ) → length xs ≡ size → zs ≡ replicate k 0 → take n xs ≡ tab n f → put_mid n k xs zs ≡ padded size (tab n f)
  zero-filled xs zs long zeros front =
      let past : drop k (drop n xs) ≡ [] = drop-drop k n xs ∙ drop_of_length-le xs (omega arith) in
      rw (past, front, zeros, append-nil) with-zeros

-- a test of all before the last is one of the first and all after it
all-front : (f : ℕ → Bool) (n : ℕ) → all (suc n) f ≡ (f 0 && all n (λ i. f (suc i)))
unfolding all
all-front f zero = by (f 0)
  where
    by : (b : Bool) → (true && b) ≡ (b && true)
    by true = refl
    by false = refl
all-front f (suc n) = rw (all-front f n) (by (f 0) _ _)
  where
    by : (b d e : Bool) → ((b && d) && e) ≡ (b && (d && e))
    by true d e = refl
    by false d e = refl

-- a test at each of n numbers from a on
pub all-of-range : (test : ℕ → Bool) (a n : ℕ) (f : ℕ → Bool) → ((r : ℕ) → f r ≡ test (a + r)) → list_all test (range_with_len a n) ≡ all n f
unfolding all
all-of-range test a zero f h = refl
all-of-range test a (suc n) f h =
    let here : test a ≡ f 0 = ap test (omega arith) ∙ sym (h 0) in
    rw (all-of-range test (a + 1) n (λ r. f (suc r)) (λ r. h (suc r) ∙ ap test (omega arith)), here) (sym (all-front f n))
