-- What it says of a file that the reader accepts it.
-- Assumes nothing.
use Rattle.std.proofs.Common.{◌≡◌, ◌≢◌, ℕ, zero, suc, ◌+◌, ◌-◌, ◌*◌, ◌%◌, ◌<◌, ◌≤◌, Bool, true, false, not, ◌&&◌, ◌||◌, eqb, ltb, List, length, refl, sym}
use Rattle.std.proofs.Common.{◌∙◌, true≢false, arith, ltb-false, ltb-true, eq-eqb, ne_eqb, eqb-true}
use borrow.Author.Tests.{not-false}
use Rattle.std.specs.Prelude.{if◌then◌else◌}
use Rattle.lists.specs.Tab.{sum}
use Rattle.lists.specs.First.{first}
use Rattle.std.specs.Prelude.{Option}
use Rattle.std.specs.Prelude.{Some, None, Err}
use Rattle.lists.proofs.TabLaws.{all-at}
use Rattle.lists.proofs.FirstLaws.{first-nowhere-at}
use Rattle.table.specs.declared.verdict.Refusal.{Refusal}
use Rattle.table.specs.Verdict.{refused_as}
use Rattle.table.specs.Verdict.Verdict.{Passes}
use Rattle.table.specs.Checks.{refused_at_line}
use Rattle.table.proofs.CheckLaws.{clean}
use Rattle.file.specs.Read.{Read, read_of}
use Rattle.file.specs.Read.Read.{Lines, Refused}
use Rattle.file.specs.Layout.{check_of}
use Rattle.file.specs.Reading.{word, blocks, lines_in_all, wrong_length, wrong_check, wrong_count, unused_zero, wrong_block, refused_at_block, read_answer}

none-of-three : (a b c : Bool) → (a || b || c) ≡ false → (a ≡ false) × (b ≡ false) × (c ≡ false)
none-of-three true b c e = absurd (true≢false e)
none-of-three false true c e = absurd (true≢false e)
none-of-three false false true e = absurd (true≢false e)
none-of-three false false false e = (refl, refl, refl)

none-of-five : (a b c d f : Bool) → (a || b || c || d || f) ≡ false → (a ≡ false) × (b ≡ false) × (c ≡ false) × (d ≡ false) × (f ≡ false)
none-of-five true b c d f e = absurd (true≢false e)
none-of-five false true c d f e = absurd (true≢false e)
none-of-five false false c d f e = let rest = none-of-three c d f e in (refl, refl, rest.0, rest.1, rest.2)

-- a length that check 1 passes
pub length-fits : (n : ℕ) → wrong_length n ≡ false → n ≤ 22016
length-fits n e = ltb-false _ _ (none-of-three false (not (eqb (n % 512) 0)) (ltb 22016 n) e).2

-- a block that check 3 passes, in a file of n lines
pub record RightBlock (bs : List ℕ) (n k : ℕ) : Type 0 where
  pub number : word bs k 124 ≡ k
  pub some : 1 ≤ word bs k 125
  pub few : word bs k 125 ≤ 31
  pub full : k + 1 < blocks bs → word bs k 125 ≡ 31
  pub total : word bs k 126 ≡ n
  pub most : n ≤ 1312
  pub zeros : (r : ℕ) → 4 * word bs k 125 ≤ r → r < 124 → word bs k r ≡ 0

pub right-block : (bs : List ℕ) (n k : ℕ) → wrong_block bs n k ≡ false → RightBlock bs n k
unfolding wrong_block
right-block bs n k e =
    let c = word bs k 125 in
    let right = none-of-five (not (eqb (word bs k 124) k)) (wrong_count c (eqb (k + 1) (blocks bs))) (not (eqb (word bs k 126) n)) (ltb 1312 n)
    (not (unused_zero bs k c)) e in
    let count = none-of-three (ltb c 1) (ltb 31 c) (not (eqb (k + 1) (blocks bs)) && not (eqb c 31)) right.1 in
    record {
      number = eqb-true _ _ (not-false _ right.0);
      some = ltb-false _ _ count.0;
      few = ltb-false _ _ count.1;
      full = λ l. let more : eqb (k + 1) (blocks bs)
          ≡ false = ne_eqb (k + 1) (blocks bs) (λ q. omega arith) in eqb-true c 31 (not-false _ (rw more at count.2));
      total = eqb-true _ _ (not-false _ right.2);
      most = ltb-false _ _ right.3;
      zeros = λ r l m.
          let at : 4 * c + (r - 4 * c) ≡ r = omega arith in
          rw at at (eqb-true (word bs k (4 * c + (r - 4 * c))) 0
          (all-at (124 - 4 * c) (λ r. eqb (word bs k (4 * c + r)) 0) (not-false _ right.4) (r - 4 * c) (omega arith)));
    }

-- a file that the reader accepts, into so many words, as one of n lines
pub record Accepted (bs : List ℕ) (room n : ℕ) : Type 0 where
  pub whole : length bs % 512 ≡ 0
  pub short : length bs ≤ 22016
  pub checked : (k : ℕ) → k < blocks bs → check_of (word bs k) ≡ word bs k 127
  pub right : (k : ℕ) → k < blocks bs → RightBlock bs (lines_in_all bs) k
  pub fits : room ≡ 5248
  pub counted : lines_in_all bs ≡ n

right-all : (bs : List ℕ) → first (wrong_block bs (lines_in_all bs)) 0 (blocks bs) ≡ None → (k : ℕ) → k < blocks bs → RightBlock bs (lines_in_all bs) k
right-all bs e k l = right-block bs (lines_in_all bs) k (first-nowhere-at (blocks bs) (wrong_block bs (lines_in_all bs)) 0 e k (omega arith) (omega arith))

pub accepted : (bs : List ℕ) (room n : ℕ) → read_answer bs room ≡ Lines n → Accepted bs room n
unfolding read_answer
accepted bs room n e =
    go (not (eqb (length bs % 512) 0)) (ltb 22016 (length bs)) (first (wrong_check bs) 0 (blocks bs)) (first (wrong_block bs (lines_in_all bs)) 0 (blocks bs))
    (eqb room 5248)
    refl refl refl refl refl e
  where
    never : (a b : ℕ) → Refused a b ≡ Lines n → ⊥
    never a b h = let no : ◌≡◌ {A = ℕ} 0 1 = cc in omega arith

    go : (u v : Bool) (c b : Option ℕ) (r : Bool)
        → not (eqb (length bs % 512) 0) ≡ u → ltb 22016 (length bs) ≡ v → first (wrong_check bs) 0 (blocks bs) ≡ c
        → first (wrong_block bs (lines_in_all bs)) 0 (blocks bs) ≡ b → eqb room 5248 ≡ r
        → (if u || v then Refused 1 0 else refused_at_block 2 c (refused_at_block 3 b (if r then Lines (lines_in_all bs) else Refused 14 0))) ≡ Lines n
        → Accepted bs room n
    go true v c b r eu ev ec eb er h = absurd (never _ _ h)
    go false true c b r eu ev ec eb er h = absurd (never _ _ h)
    go false false (Some k) b r eu ev ec eb er h = absurd (never _ _ h)
    go false false None (Some k) r eu ev ec eb er h = absurd (never _ _ h)
    go false false None None false eu ev ec eb er h = absurd (never _ _ h)
    go false false None None true eu ev ec eb er h =
        record {
          whole = eqb-true _ 0 (not-false _ eu);
          short = ltb-false _ _ ev;
          checked = λ k l. eqb-true _ _ (not-false _ (first-nowhere-at (blocks bs) (wrong_check bs) 0 ec k (omega arith) (omega arith)));
          right = right-all bs eb;
          fits = eqb-true _ _ er;
          counted = cc;
        }

-- the lines of blocks that hold at most 31 each, and of blocks that hold 31 each
pub sum-few : (f : ℕ → ℕ) (m : ℕ) → ((k : ℕ) → k < m → f k ≤ 31) → sum m f ≤ 31 * m
unfolding sum
sum-few f zero h = omega arith
sum-few f (suc m) h = let most = h m (omega arith) in omega (arith, sum-few f m (λ k l. h k (omega arith)))

pub sum-full : (f : ℕ → ℕ) (m : ℕ) → ((k : ℕ) → k < m → f k ≡ 31) → sum m f ≡ 31 * m
unfolding sum
sum-full f zero h = refl
sum-full f (suc m) h = let most = h m (omega arith) in omega (arith, sum-full f m (λ k l. h k (omega arith)))

module _ (bs : List ℕ) (right : (k : ℕ) → k < blocks bs → RightBlock bs (lines_in_all bs) k) where
  pub lines-in-blocks : lines_in_all bs ≤ 31 * blocks bs
  lines-in-blocks = sum-few _ _ (λ k l. (right k l).few)

  -- at most 1,312, also where there is no block
  pub lines-most : lines_in_all bs ≤ 1312
  lines-most = by (ltb 0 (blocks bs)) refl
    where
      by : (t : Bool) → ltb 0 (blocks bs) ≡ t → lines_in_all bs ≤ 1312
      by true e = (right 0 (ltb-true _ _ e)).most
      by false e = let none : blocks bs ≤ 0 = ltb-false _ _ e in omega (arith, lines-in-blocks)

-- the same from what the search for a wrong block found
pub lines_fit : (bs : List ℕ) → first (wrong_block bs (lines_in_all bs)) 0 (blocks bs) ≡ None → lines_in_all bs ≤ 1312
lines_fit bs e = lines-most bs (right-all bs e)

-- a check of all blocks refuses: what the code's answer says of it is the answer
refuses : (found : Option ℕ) (number : ℕ) (e : Refusal) (rest : Read) → refused_as e ≡ refused_at_line found number Passes
    → read_of (Err e) ≡ refused_at_block number found rest
refuses (Some k) number e rest q = cc
refuses None number e rest q = absurd (let no : ◌≡◌ {A = ℕ} 0 1 = cc in omega arith)

-- the answer, by what the code's answers say of the checks in turn
module _ (bs : List ℕ) (room : ℕ) where
  pub wrong-in-length : wrong_length (length bs) ≡ true → Refused 1 0 ≡ read_answer bs room
  unfolding read_answer
  wrong-in-length e = rw e

  module _ (long : wrong_length (length bs) ≡ false) where
    pub wrong-in-check : (found : Option ℕ) (e : Refusal) → found ≡ first (wrong_check bs) 0 (blocks bs) → refused_as e ≡ refused_at_line found 2 Passes
        → read_of (Err e) ≡ read_answer bs room
    unfolding read_answer
    wrong-in-check found e is q = rw (long, ← is) (refuses found 2 e _ q)

    module _ (sum : Option ℕ) (sum-is : sum ≡ first (wrong_check bs) 0 (blocks bs)) (sums-pass : Passes ≡ refused_at_line sum 2 Passes) where
      checked : first (wrong_check bs) 0 (blocks bs) ≡ None
      checked = sym sum-is ∙ clean (λ _. sum) 2 sums-pass

      pub wrong-in-block : (n : ℕ) (found : Option ℕ) (e : Refusal) → n ≡ lines_in_all bs → found ≡ first (wrong_block bs n) 0 (blocks bs)
          → refused_as e ≡ refused_at_line found 3 Passes → read_of (Err e) ≡ read_answer bs room
      unfolding read_answer
      wrong-in-block n found e all is q = rw (long, checked, ← all, ← is) (refuses found 3 e _ q)

      module _ (n : ℕ) (block : Option ℕ) (all : n ≡ lines_in_all bs) (block-is : block ≡ first (wrong_block bs n) 0 (blocks bs))
          (blocks-pass : Passes ≡ refused_at_line block 3 Passes) where
        laid : first (wrong_block bs (lines_in_all bs)) 0 (blocks bs) ≡ None
        laid = rw all at (sym block-is ∙ clean (λ _. block) 3 blocks-pass)

        pub total_fits : n ≤ 1312
        total_fits = rw all (lines_fit bs laid)

        pub wrong_in_room : room ≢ 5248 → Refused 14 0 ≡ read_answer bs room
        unfolding read_answer
        wrong_in_room e = rw (long, checked, laid, ne_eqb room 5248 e)

        pub accepts : room ≡ 5248 → Lines n ≡ read_answer bs room
        unfolding read_answer
        accepts e = rw (long, checked, laid, eq-eqb room 5248 e, all)
