-- A file that was read, written again, is the same file byte for byte; so a table has one file.
-- Assumes nothing.
use Rattle.std.proofs.Common.{◌≡◌, ℕ, zero, suc, ◌+◌, ◌*◌, ◌/◌, ◌%◌, ◌<◌, ◌≤◌, Bool, true, false, eqb, ltb, List, length, get_or, take, sym, refl, ◌∙◌, arith}
use Rattle.std.proofs.Common.{ext_get_or, ltb-false, ltb-true, eqb-true}
use borrow.Author.Tests.{eqb-false}
use lib.ListN.{get_or-eq_default}
use Rattle.std.specs.Prelude.{if◌then◌else◌}
use Rattle.lists.specs.Tab.{sum, padded}
use Rattle.lists.proofs.TabLaws.{length-tab, at-tab, same_sum, sum_more, take-padded}
use Rattle.file.specs.Layout.{lines_in, blocks_for, lines_held, body_word, file_word, file_byte, file_bytes}
use Rattle.file.specs.Reading.{word, blocks, lines_in_all, table_word, table_words, read_buffer}
use Rattle.file.specs.Statements.{AllBelow, WriteAgain, OneFile}
use Rattle.file.proofs.WordLaws.{bytes_word}
use Rattle.file.proofs.LayoutLaws.{length-file, word-plain, word-check}
use Rattle.file.proofs.ReadingLaws.{RightBlock, Accepted, accepted, sum-full, lines-in-blocks, lines-most}

module _ (bs : List ℕ) (bytes : AllBelow 256 bs) (n : ℕ) (ok : Accepted bs 5248 n) where
  right : (k : ℕ) → k < blocks bs → RightBlock bs n k
  right k l = rw ok.counted at (ok.right k l)

  lines-table : lines_in (table_words bs n) ≡ n
  lines-table = rw (length-tab (4 * n) (table_word bs)) (omega arith)

  -- all blocks before the last are full
  total : (m : ℕ) → blocks bs ≡ m + 1 → n ≡ 31 * m + word bs m 125
  total m e =
      let f : ℕ → ℕ = λ k. word bs k 125 in
      let all : lines_in_all bs ≡ sum (m + 1) f = rw e in
      omega (arith, ok.counted, sum_more f m, sum-full f m (λ k l. (right k (omega arith)).full (omega arith)))

  blocks-table : blocks_for n ≡ blocks bs
  blocks-table = by (blocks bs) refl
    where
      by : (m : ℕ) → blocks bs ≡ m → blocks_for n ≡ blocks bs
      by zero e = omega (arith, lines-in-blocks bs ok.right, ok.counted)
      by (suc m) e = let last = right m (omega arith) in omega (arith, total m (omega arith), last.some, last.few)

  used-table : (k : ℕ) → k < blocks bs → lines_held n k ≡ word bs k 125
  used-table k l = by (ltb (k + 1) (blocks bs)) refl
    where
      by : (t : Bool) → ltb (k + 1) (blocks bs) ≡ t → lines_held n k ≡ word bs k 125
      by true e = let more : k + 1 < blocks bs = ltb-true _ _ e in omega (arith, (right k l).full more, blocks-table)
      by false e = let none : blocks bs ≤ k + 1 = ltb-false _ _ e in let here = right k l in omega (arith, total k (omega arith), here.few)

  -- the table's words are those of the blocks, which past the last line are zero
  line-again : (k r : ℕ) → k < blocks bs → r < 124 → get_or (table_words bs n) (124 * k + r) 0 ≡ word bs k r
  line-again k r l h = by (ltb (124 * k + r) (4 * n)) refl
    where
      by : (t : Bool) → ltb (124 * k + r) (4 * n) ≡ t → get_or (table_words bs n) (124 * k + r) 0 ≡ word bs k r
      by true e =
          let block : (124 * k + r) / 124 ≡ k = omega arith in
          let place : (124 * k + r) % 124 ≡ r = omega arith in
          at-tab (4 * n) (table_word bs) 0 _ (ltb-true _ _ e) ∙ rw (block, place)
      by false e =
          let past : 4 * n ≤ 124 * k + r = ltb-false _ _ e in
          let short : length (table_words bs n) ≤ 124 * k + r = rw (length-tab (4 * n) (table_word bs)) past in
          get_or-eq_default (table_words bs n) 0 short ∙ sym ((right k l).zeros r (omega (arith, used-table k l)) h)

  plain-again : (k r : ℕ) → k < blocks bs → r < 127 → body_word (table_words bs n) k r ≡ word bs k r
  unfolding body_word
  plain-again k r l h = by (ltb r 124) (eqb r 124) (eqb r 125) refl refl refl
    where
      by : (t u v : Bool) → ltb r 124 ≡ t → eqb r 124 ≡ u → eqb r 125 ≡ v
          → (if t then get_or (table_words bs n) (124 * k + r) 0 else if u then k else if v then lines_held (lines_in (table_words bs n)) k
          else lines_in (table_words bs n)) ≡ word bs k r
      by true u v e f g = line-again k r l (ltb-true _ _ e)
      by false true v e f g = let here : r ≡ 124 = eqb-true _ _ f in rw here (sym (right k l).number)
      by false false true e f g = let here : r ≡ 125 = eqb-true _ _ g in rw (here, lines-table) (used-table k l)
      by false false false e f g =
          let last : r ≡ 126 = omega (arith, ltb-false r 124 e, eqb-false r 124 f, eqb-false r 125 g) in
          rw (last, lines-table) (sym (right k l).total)

  word-again : (k r : ℕ) → k < blocks bs → r < 128 → file_word (table_words bs n) k r ≡ word bs k r
  word-again k r l h = by (ltb r 127) refl
    where
      by : (t : Bool) → ltb r 127 ≡ t → file_word (table_words bs n) k r ≡ word bs k r
      by true e = let low : r < 127 = ltb-true _ _ e in word-plain (table_words bs n) k r low ∙ plain-again k r l low
      by false e =
          let last : r ≡ 127 = omega (arith, ltb-false r 127 e) in
          rw (last, word-check (table_words bs n) k, same_sum 127 (body_word (table_words bs n) k) (word bs k) (λ r m. plain-again k r l m)) (ok.checked k l)

  byte-again : (j : ℕ) → j < 512 * blocks bs → file_byte (table_words bs n) j ≡ get_or bs j 0
  byte-again j l =
      let here : 512 * (j / 512) + 4 * (j % 512 / 4) + j % 4 ≡ j = omega arith in
      rw (word-again (j / 512) (j % 512 / 4) (omega arith) (omega arith))
      (bytes_word bs bytes (512 * (j / 512) + 4 * (j % 512 / 4)) (j % 4) (omega arith) ∙ rw here)

  -- the file of the words read is the file
  pub table-again : file_bytes (table_words bs n) ≡ bs
  unfolding file_bytes
  table-again =
      let long : length (file_bytes (table_words bs n)) ≡ 512 * blocks bs = rw (length-file (table_words bs n), lines-table, blocks-table) in
      let size : 512 * blocks bs ≡ length bs = omega (arith, ok.whole) in
      ext_get_or 0 _ bs (long ∙ size)
      (λ j l. let m : j < 512 * blocks bs = rw long at l in at-tab _ (file_byte (table_words bs n)) 0 j (rw (lines-table, blocks-table) m) ∙ byte-again j m)

pub write_again : WriteAgain
unfolding read_buffer
write_again bs bytes buffer n e =
    let ok : Accepted bs 5248 n = (let a = accepted bs (length buffer) n e in rw a.fits at a) in
    let long : length (table_words bs n) ≡ 4 * n = length-tab _ _ in
    let few : length (table_words bs n) ≤ 5248 = omega (arith, ok.counted, lines-most bs ok.right) in
    let front : take (4 * n) (padded 5248 (table_words bs n)) ≡ table_words bs n = rw long at (take-padded (table_words bs n) 5248 few) in
    rw (e, front) (table-again bs bytes n ok)

pub one-file : OneFile
one-file bs cs p q buffer n e f same = sym (write_again bs p buffer n e) ∙ rw same (write_again cs q buffer n f)
