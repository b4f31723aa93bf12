-- Laws of lists given place by place, of sums and of tests at every number below a bound.
-- Assumes nothing.
use Prim.Native.Nat.{ℕ, zero, suc, ◌+◌, ◌-◌, ◌<◌, ◌≤◌}
use native.Mathlib.Omega.{arith}
use native.Mathlib.Numerals.{add-one}
use native.Mathlib.Decide.{ℕ_discrete}
use native.Mathlib.Nat.{not-suc-le-zero, eq-or-lt_of_le, le_of_suc-le-suc}
use mathlib.Core.Path.{◌≡◌, refl, sym, ap, ◌∙◌}
use mathlib.Core.Logic.{⊎_elim, ◌≢◌}
use mathlib.Core.Bool.{Bool, true, false, ◌&&◌, false≢true}
use mathlib.Core.List.{List, [], ◌∷◌, ◌++◌}
use lib.ListN.{length, get_or, take, set, length-take, length-set, get_or-eq_default}
use lib.Seq.{take-suc-set, take_all, ext_get_or, get_or-take, get_or-set_same, get_or-set_other}
use Rattle.lists.specs.Tab.{listed, tab, sum, all, padded}

length-listed : {A : Type 0} (n i : ℕ) (f : ℕ → A) → length (listed n i f) ≡ n
unfolding listed
length-listed zero i f = refl
length-listed (suc n) i f = ap suc (length-listed n (suc i) f)

at_listed : {A : Type 0} (n i : ℕ) (f : ℕ → A) (d : A) (j : ℕ) → j < n → get_or (listed n i f) j d ≡ f (i + j)
unfolding listed
at_listed zero i f d j l = absurd (not-suc-le-zero l)
at_listed (suc n) i f d zero l = ap f (omega arith)
at_listed (suc n) i f d (suc j) l = at_listed n (suc i) f d j (le_of_suc-le-suc l) ∙ ap f (omega arith)

listed-snoc : {A : Type 0} (n i : ℕ) (f : ℕ → A) → listed (suc n) i f ≡ listed n i f ++ (f (i + n) ∷ [])
unfolding listed
listed-snoc zero i f = ap (λ (k : ℕ). f k ∷ []) (omega arith)
listed-snoc (suc n) i f = ap (λ l. f i ∷ l) (listed-snoc n (suc i) f ∙ ap (λ (k : ℕ). listed n (suc i) f ++ (f k ∷ [])) (omega arith))

pub length-tab : {A : Type 0} (n : ℕ) (f : ℕ → A) → length (tab n f) ≡ n
unfolding tab
length-tab n f = length-listed n 0 f

pub at-tab : {A : Type 0} (n : ℕ) (f : ℕ → A) (d : A) (i : ℕ) → i < n → get_or (tab n f) i d ≡ f i
unfolding tab
at-tab n f d i l = at_listed n 0 f d i l ∙ ap f (omega arith)

pub tab-snoc : {A : Type 0} (n : ℕ) (f : ℕ → A) → tab (suc n) f ≡ tab n f ++ (f n ∷ [])
unfolding tab
tab-snoc n f = listed-snoc n 0 f ∙ ap (λ (k : ℕ). listed n 0 f ++ (f k ∷ [])) (omega arith)

-- two functions that agree below n
pub same-tab : {A : Type 0} (n : ℕ) (f g : ℕ → A) → ((i : ℕ) → i < n → f i ≡ g i) → tab n f ≡ tab n g
unfolding tab
same-tab zero f g h = refl
same-tab (suc n) f g h = rw (tab-snoc n f, tab-snoc n g, same-tab n f g (λ i l. h i (omega arith)), h n (omega arith))

pub same_sum : (n : ℕ) (f g : ℕ → ℕ) → ((i : ℕ) → i < n → f i ≡ g i) → sum n f ≡ sum n g
unfolding sum
same_sum zero f g h = refl
same_sum (suc n) f g h = rw (same_sum n f g (λ i l. h i (omega arith)), h n (omega arith))

pub all_true : (n : ℕ) (f : ℕ → Bool) → ((i : ℕ) → i < n → f i ≡ true) → all n f ≡ true
unfolding all
all_true zero f h = refl
all_true (suc n) f h = rw (all_true n f (λ i l. h i (omega arith)), h n (omega arith))

-- a test that holds at every number holds at one
pub all-at : (n : ℕ) (f : ℕ → Bool) → all n f ≡ true → (i : ℕ) → i < n → f i ≡ true
unfolding all
all-at zero f e i l = absurd (not-suc-le-zero l)
all-at (suc n) f e i l = go (all n f) (f n) refl refl e (λ u h. all-at n f u i h)
  where
    go : (b d : Bool) → all n f ≡ b → f n ≡ d → (b && d) ≡ true → (all n f ≡ true → i < n → f i ≡ true) → f i ≡ true
    go true true u v w ih = ⊎_elim (λ q. rw q v) (λ h. ih u h) (eq-or-lt_of_le (le_of_suc-le-suc l))
    go true false u v w ih = absurd (false≢true w)
    go false d u v w ih = absurd (false≢true w)

-- one place at which it fails
pub all-stop : (n : ℕ) (f : ℕ → Bool) (i : ℕ) → i < n → f i ≡ false → all n f ≡ false
unfolding all
all-stop zero f i l h = absurd (not-suc-le-zero l)
all-stop (suc n) f i l h = ⊎_elim (λ q. at-end (all n f) (rw q at h)) (λ m. rw (all-stop n f i m h)) (eq-or-lt_of_le (le_of_suc-le-suc l))
  where
    at-end : (b : Bool) → f n ≡ false → (b && f n) ≡ false
    at-end true e = e
    at-end false e = refl

-- a list is given by its own places
pub tab-itself : (xs : List ℕ) (n : ℕ) → length xs ≡ n → tab n (λ j. get_or xs j 0) ≡ xs
tab-itself xs n e =
    ext_get_or 0 _ xs (length-tab n _ ∙ sym e) (λ i l. at-tab n _ 0 i (rw (length-tab n (λ j. get_or xs j 0)) at l))

-- ---- the loops that make a list or a sum, one place a turn

pub tab-none : {A : Type 0} (f : ℕ → A) (l : List A) → take 0 l ≡ tab 0 f
unfolding tab
tab-none f l = refl

-- the first i places are right, and what is put at i is
pub tab-more : {A : Type 0} (f : ℕ → A) (l : List A) (i : ℕ) (v : A) → i < length l → take i l ≡ tab i f → v ≡ f i → take (i + 1) (set l i v) ≡ tab (i + 1) f
tab-more f l i v h e w = rw (add-one i, take-suc-set l i v h, tab-snoc i f, e, w)

-- all places are
pub tab-all : {A : Type 0} (f : ℕ → A) (l : List A) (n : ℕ) → length l ≡ n → take n l ≡ tab n f → l ≡ tab n f
tab-all f l n h e = let long : length l ≤ n = omega arith in sym (take_all n l long) ∙ e

-- a test that held below i, and at i
pub all_more : (f : ℕ → Bool) (i : ℕ) → all i f ≡ true → f i ≡ true → all (i + 1) f ≡ true
unfolding all
all_more f i e h = rw (add-one i, e, h)

pub sum_more : (f : ℕ → ℕ) (n : ℕ) → sum (n + 1) f ≡ sum n f + f n
unfolding sum
sum_more f n = rw (add-one n)

-- a list at a buffer's size starts with the list
pub take-padded : (xs : List ℕ) (n : ℕ) → length xs ≤ n → take (length xs) (padded n xs) ≡ xs
take-padded xs n l =
    let long : length (take (length xs) (padded n xs)) ≡ length xs = simp (length-take, length-tab) (omega arith) in
    ext_get_or 0 _ xs long
    (λ i h. let m : i < length xs = rw long at h in get_or-take (length xs) (padded n xs) i 0 m ∙ at-tab n _ 0 i (omega arith))

-- ---- the loop that makes a list zero from a place on

module _ (l : List ℕ) (from : ℕ) where
  pub zero-none : from ≤ length l → take from l ≡ tab from (λ j. get_or (take from l) j 0)
  zero-none h = sym (tab-itself (take from l) from (simp length-take (omega arith)))

  pub zero_more : (m : List ℕ) (i : ℕ) → i < length m → from ≤ i → take i m ≡ tab i (λ j. get_or (take from l) j 0)
      → take (i + 1) (set m i 0) ≡ tab (i + 1) (λ j. get_or (take from l) j 0)
  zero_more m i h past e =
      let short : length (take from l) ≤ i = simp length-take (omega arith) in
      tab-more _ m i 0 h e (sym (get_or-eq_default (take from l) 0 short))

-- ---- one place replaced
pub set-tab : {A : Type 0} (d : A) (n a : ℕ) (v : A) (old new : ℕ → A) → a < n → new a ≡ v → ((i : ℕ) → i ≢ a → new i ≡ old i)
    → tab n new ≡ set (tab n old) a v
set-tab d n a v old new h there other = ext_get_or d (tab n new) (set (tab n old) a v) same-long at
  where
    same-long : length (tab n new) ≡ length (set (tab n old) a v)
    same-long = length-tab n new ∙ sym (length-set (tab n old) a v ∙ length-tab n old)

    at : (i : ℕ) → i < length (tab n new) → get_or (tab n new) i d ≡ get_or (set (tab n old) a v) i d
    at i l =
        let k : i < n = rw (length-tab n new) at l in
        at-tab n new d i k ∙ elim (ℕ_discrete i a) [
          | yes e ↦ rw e (there ∙ sym (get_or-set_same (tab n old) a v d (rw (length-tab n old) h)))
          | no e ↦ other i e ∙ sym (get_or-set_other (tab n old) a i v d e ∙ at-tab n old d i k)
        ]

-- ---- the first place before the others
listed-later : {A : Type 0} (n i : ℕ) (f : ℕ → A) → listed n (suc i) f ≡ listed n i (λ j. f (suc j))
unfolding listed
listed-later zero i f = refl
listed-later (suc n) i f = ap (λ l. f (suc i) ∷ l) (listed-later n (suc i) f)

tab-cons : {A : Type 0} (n : ℕ) (f : ℕ → A) → tab (suc n) f ≡ f 0 ∷ tab n (λ i. f (suc i))
unfolding tab listed
tab-cons n f = ap (λ l. f 0 ∷ l) (listed-later n 0 f)

-- ... and the last place before the others, where the last is the first of the list
pub tab-last : {A : Type 0} (n : ℕ) (f : ℕ → A) → tab (suc n) (λ i. f (suc n - suc i)) ≡ f n ∷ tab n (λ i. f (n - suc i))
tab-last n f =
    let top : suc n - suc 0 ≡ n = omega arith in
    tab-cons n (λ i. f (suc n - suc i)) ∙ rw top (ap (λ l. f n ∷ l) (same-tab n _ _ (λ i h. ap f (omega arith))))
