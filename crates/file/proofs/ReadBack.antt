-- A written file reads back as its table.
-- Assumes nothing.
use Rattle.std.proofs.Common.{◌≡◌, ℕ, zero, suc, ◌+◌, ◌-◌, ◌*◌, ◌/◌, ◌%◌, ◌^◌, ◌<◌, ◌≤◌, min, Bool, true, false, eqb, ltb, List, length, get_or, refl, ◌∙◌}
use Rattle.std.proofs.Common.{arith, ext_get_or, le-ltb, lt-ltb, eq-eqb}
use borrow.Author.Tests.{eqb-false}
use lib.ListN.{get_or-eq_default}
use Rattle.std.specs.Prelude.{if◌then◌else◌}
use Rattle.lists.specs.Tab.{sum}
use Rattle.lists.proofs.TabLaws.{length-tab, at-tab, same_sum, all_true}
use Rattle.lists.proofs.FirstLaws.{first-nowhere}
use Rattle.file.specs.Read.Read.{Lines}
use Rattle.file.specs.Word.{byte_of}
use Rattle.file.specs.Layout.{lines_in, blocks_for, lines_held, check_of, body_word, file_word, file_bytes}
use Rattle.file.specs.Reading.{word, blocks, lines_in_all, wrong_length, wrong_check, wrong_count, wrong_block, read_answer, table_word, table_words}
use Rattle.file.specs.Reading.{read_buffer}
use Rattle.file.specs.Statements.{AllBelow, ReadBack}
use Rattle.file.proofs.WordLaws.{word_bytes}
use Rattle.file.proofs.LayoutLaws.{length-file, word-plain, word-check, file-byte}

either : (t : Bool) (a b m : ℕ) → a < m → b < m → (if t then a else b) < m
either true a b m p q = p
either false a b m p q = q

-- the lines of the first m blocks
sum-used : (n m : ℕ) → sum m (lines_held n) ≡ min n (31 * m)
unfolding sum
sum-used n zero = omega arith
sum-used n (suc m) = omega (arith, sum-used n m)

module _ (ws : List ℕ) (fit : AllBelow (2 ^ 32) ws) (whole : length ws % 4 ≡ 0) (small : length ws ≤ 5248) where
  blocks-file : blocks (file_bytes ws) ≡ blocks_for (lines_in ws)
  blocks-file = rw (length-file ws) (omega arith)

  plain_fits : (k r : ℕ) → k < 43 → body_word ws k r < 2 ^ 32
  unfolding body_word
  plain_fits k r l =
      either (ltb r 124) _ _ _ (fit _) (either (eqb r 124) _ _ _ (omega arith) (either (eqb r 125) _ _ _ (omega arith) (omega arith)))

  word_fits : (k r : ℕ) → k < 43 → file_word ws k r < 2 ^ 32
  unfolding file_word
  word_fits k r l = either (ltb r 127) _ _ _ (plain_fits k r l) (omega arith)

  module _ (k : ℕ) (in-file : k < blocks_for (lines_in ws)) where
    byte-at : (r b : ℕ) → r < 128 → b < 4 → get_or (file_bytes ws) (512 * k + 4 * r + b) 0 ≡ byte_of (file_word ws k r) b
    unfolding file_bytes
    byte-at r b l m = at-tab _ _ 0 _ (omega arith) ∙ file-byte ws k r b l m

    word-at : (r : ℕ) → r < 128 → word (file_bytes ws) k r ≡ file_word ws k r
    word-at r l =
        let here : 512 * k + 4 * r + 0 ≡ 512 * k + 4 * r = omega arith in
        let low : get_or (file_bytes ws) (512 * k + 4 * r) 0 ≡ byte_of (file_word ws k r) 0 = rw here at (byte-at r 0 l (omega arith)) in
        rw (low, byte-at r 1 l (omega arith), byte-at r 2 l (omega arith), byte-at r 3 l (omega arith)) (word_bytes _ (word_fits k r (omega arith)))

    plain_at : (r : ℕ) → r < 127 → word (file_bytes ws) k r ≡ body_word ws k r
    plain_at r l = word-at r (omega arith) ∙ word-plain ws k r l

    right-check : wrong_check (file_bytes ws) k ≡ false
    right-check =
        rw (
          word-at 127 (omega arith),
          word-check ws k,
          same_sum 127 (word (file_bytes ws) k) (body_word ws k) plain_at,
          eq-eqb (check_of (body_word ws k)) (check_of (body_word ws k)) refl,
        )

    number : word (file_bytes ws) k 124 ≡ k
    unfolding body_word
    number = plain_at 124 (omega arith)

    held : word (file_bytes ws) k 125 ≡ lines_held (lines_in ws) k
    unfolding body_word
    held = plain_at 125 (omega arith)

    in-all : word (file_bytes ws) k 126 ≡ lines_in ws
    unfolding body_word
    in-all = plain_at 126 (omega arith)

    past-end : (r : ℕ) → r < 124 - 4 * lines_held (lines_in ws) k → word (file_bytes ws) k (4 * lines_held (lines_in ws) k + r) ≡ 0
    unfolding body_word
    past-end r l =
        plain_at (4 * lines_held (lines_in ws) k + r) (omega arith)
        ∙ rw (lt-ltb (4 * lines_held (lines_in ws) k + r) 124 (omega arith)) (get_or-eq_default ws 0 (omega arith))

  total : lines_in_all (file_bytes ws) ≡ lines_in ws
  total =
      rw blocks-file
      (same_sum (blocks_for (lines_in ws)) (λ k. word (file_bytes ws) k 125) (lines_held (lines_in ws)) held ∙ sum-used (lines_in ws) (blocks_for (lines_in ws))
      ∙ omega arith)

  -- block k holds 31 lines if another follows, else 1 to 31
  right-count : (k : ℕ) → k < blocks_for (lines_in ws) → (t : Bool) → eqb (k + 1) (blocks_for (lines_in ws)) ≡ t
      → wrong_count (lines_held (lines_in ws) k) t ≡ false
  right-count k l true e = rw (le-ltb (lines_held (lines_in ws) k) 1 (omega arith), le-ltb 31 (lines_held (lines_in ws) k) (omega arith))
  right-count k l false e =
      let more : k + 1 < blocks_for (lines_in ws) = omega (arith, eqb-false (k + 1) (blocks_for (lines_in ws)) e) in
      rw (
        le-ltb (lines_held (lines_in ws) k) 1 (omega arith),
        le-ltb 31 (lines_held (lines_in ws) k) (omega arith),
        eq-eqb (lines_held (lines_in ws) k) 31
            (omega arith),
      )

  right-block : (k : ℕ) → k < blocks_for (lines_in ws) → wrong_block (file_bytes ws) (lines_in_all (file_bytes ws)) k ≡ false
  unfolding wrong_block
  right-block k l =
      rw (
        total,
        number k l,
        eq-eqb k k refl,
        held k l,
        blocks-file,
        right-count k l _ refl,
        in-all k l,
        eq-eqb (lines_in ws) (lines_in ws) refl,
        le-ltb 1312 (lines_in ws) (omega arith),
        all_true (124 - 4 * lines_held (lines_in ws) k) (λ r. eqb (word (file_bytes ws) k (4 * lines_held (lines_in ws) k + r)) 0)
            (λ r m. eq-eqb _ _ (past-end k l r m)),
      )

  right-length : wrong_length (length (file_bytes ws)) ≡ false
  right-length =
      let n = length (file_bytes ws) in
      rw (eq-eqb (n % 512) 0 (omega (arith, length-file ws)), le-ltb 22016 n (omega (arith, length-file ws)))

  read-back-answer : read_answer (file_bytes ws) 5248 ≡ Lines (lines_in ws)
  unfolding read_answer
  read-back-answer =
      rw (
        right-length,
        first-nowhere (blocks (file_bytes ws)) (wrong_check (file_bytes ws)) 0 (λ k l. right-check k (omega (arith, blocks-file))),
        first-nowhere (blocks (file_bytes ws)) (wrong_block (file_bytes ws) (lines_in_all (file_bytes ws))) 0
            (λ k l. right-block k (omega (arith, blocks-file))),
        total,
      )

  entry : (i : ℕ) → i < 4 * lines_in ws → table_word (file_bytes ws) i ≡ get_or ws i 0
  unfolding body_word
  entry i l =
      let back : 124 * (i / 124) + i % 124 ≡ i = omega arith in
      plain_at (i / 124) (omega arith) (i % 124) (omega arith) ∙ rw (lt-ltb (i % 124) 124 (omega arith), back)

  read-back-words : table_words (file_bytes ws) (lines_in ws) ≡ ws
  read-back-words =
      let long : length (table_words (file_bytes ws) (lines_in ws)) ≡ 4 * lines_in ws = length-tab _ _ in
      ext_get_or 0 _ ws (long ∙ omega arith) (λ i l. let m : i < 4 * lines_in ws = rw long at l in at-tab _ _ 0 i m ∙ entry i m)

pub read_back : ReadBack
unfolding read_buffer
read_back ws fit whole small buffer h =
    let answer = read-back-answer ws fit whole small in
    (rw h answer, rw (h, answer, read-back-words ws fit whole small))
