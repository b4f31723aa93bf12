-- Laws of words and their bytes.
-- Assumes nothing.
use Rattle.std.proofs.Common.{◌≡◌, ℕ, zero, suc, ◌+◌, ◌*◌, ◌/◌, ◌%◌, ◌^◌, ◌<◌, List, length, get_or, take, set, refl, sym, ◌∙◌, arith, length-set, w32}
use Rattle.lists.specs.Tab.{tab}
use Rattle.lists.proofs.TabLaws.{tab-more}
use Rattle.std.specs.Int.{to_le_bytes}
use Rattle.std.proofs.lemmas.List.{append_assoc, drop-drop}
use Rattle.std.proofs.lemmas.List.Edits.{sets-eq}
use borrow.Rule.Slice.PartMut.{put_mid}
use Rattle.file.specs.Word.{word_at, byte_of, put_word}

digits : (w : ℕ) → w < 2 ^ 32 → w % 256 + 256 * (w / 256 % 256) + 65536 * (w / 65536 % 256) + 16777216 * (w / 16777216) ≡ w
digits w h = omega arith

-- the bytes of a word spell it
pub word_bytes : (w : ℕ) → w < 2 ^ 32 → byte_of w 0 + 256 * byte_of w 1 + 65536 * byte_of w 2 + 16777216 * byte_of w 3 ≡ w
word_bytes w h =
    let low : byte_of w 0 ≡ w % 256 = omega arith in
    let top : byte_of w 3 ≡ w / 16777216 = omega arith in
    rw (low, top) (digits w h)

-- the bytes of the word that four bytes spell are those
pub bytes_word : (bs : List ℕ) → ((j : ℕ) → get_or bs j 0 < 256) → (i b : ℕ) → b < 4 → byte_of (word_at bs i) b ≡ get_or bs (i + b) 0
bytes_word bs h i b l = by b l (h i) (h (i + 1)) (h (i + 2)) (h (i + 3))
  where
    by : (b : ℕ) → b < 4 → get_or bs i 0 < 256 → get_or bs (i + 1) 0 < 256 → get_or bs (i + 2) 0 < 256 → get_or bs (i + 3) 0 < 256
        → byte_of (word_at bs i) b ≡ get_or bs (i + b) 0
    by zero l p q r s = let same : i + 0 ≡ i = omega arith in rw same (omega arith)
    by (suc zero) l p q r s = omega arith
    by (suc (suc zero)) l p q r s = omega arith
    by (suc (suc (suc zero))) l p q r s = omega arith
    by (suc (suc (suc (suc b)))) l p q r s = absurd (omega arith)

-- the first i bytes are right, and the four of a word that is put there are
pub put-more : (f : ℕ → ℕ) (bs : List ℕ) (i w : ℕ) → i + 3 < length bs → take i bs ≡ tab i f
    → ((b : ℕ) → b < 4 → byte_of w b ≡ f (i + b)) → take (i + 4) (put_word bs i w) ≡ tab (i + 4) f
put-more f bs i w l e h =
    let at : i + 0 ≡ i = omega arith in
    let s1 : i + 1 + 1 ≡ i + 2 = omega arith in
    let s2 : i + 2 + 1 ≡ i + 3 = omega arith in
    let s3 : i + 3 + 1 ≡ i + 4 = omega arith in
    let b1 : List ℕ = set bs i (byte_of w 0) in
    let b2 : List ℕ = set b1 (i + 1) (byte_of w 1) in
    let b3 : List ℕ = set b2 (i + 2) (byte_of w 2) in
    let t1 = tab-more f bs i (byte_of w 0) (omega arith) e (rw at at (h 0 (omega arith))) in
    let t2 = tab-more f b1 (i + 1) (byte_of w 1) (simp length-set (omega arith)) t1 (h 1 (omega arith)) in
    let t3 = tab-more f b2 (i + 2) (byte_of w 2) (simp length-set (omega arith)) (rw s1 at t2) (h 2 (omega arith)) in
    let t4 = tab-more f b3 (i + 3) (byte_of w 3) (simp length-set (omega arith)) (rw s2 at t3) (h 3 (omega arith)) in
    rw s3 at t4

-- the bytes of a word, laid over four bytes
pub laid-over : (bs : List ℕ) (i k w : ℕ) → k ≡ 4 → i + 3 < length bs → put_mid i k bs (to_le_bytes w32 w) ≡ put_word bs i w
laid-over bs i k w four room =
    let s1 : suc i ≡ i + 1 = omega arith in
    let s2 : suc (suc i) ≡ i + 2 = omega arith in
    let s3 : suc (suc (suc i)) ≡ i + 3 = omega arith in
    let low : w % 256 ≡ byte_of w 0 = omega arith in
    rw (four, drop-drop) (rw append_assoc at (sym (sets-eq (to_le_bytes w32 w) bs i (omega arith))) ∙ rw (s3, s2, s1, low) refl)
