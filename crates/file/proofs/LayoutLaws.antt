-- The file of a table, place by place.
-- Assumes nothing.
use Rattle.std.proofs.Common.{◌≡◌, ℕ, ◌+◌, ◌*◌, ◌/◌, ◌%◌, ◌<◌, ◌≤◌, List, length, take, sym, refl, arith, lt-ltb}
use Rattle.lists.specs.Tab.{tab, padded}
use Rattle.lists.proofs.TabLaws.{length-tab, take-padded}
use Rattle.file.specs.Word.{byte_of, put_word}
use Rattle.file.specs.Layout.{lines_in, blocks_for, check_of, body_word, file_word, file_byte, file_bytes}
use Rattle.file.proofs.WordLaws.{put-more}

pub length-file : (ws : List ℕ) → length (file_bytes ws) ≡ 512 * blocks_for (lines_in ws)
unfolding file_bytes
length-file ws = length-tab _ _

-- what the writer leaves in its buffer starts with the file
pub written-file : (ws : List ℕ) → length ws ≤ 5248 → take (length (file_bytes ws)) (padded 22016 (file_bytes ws)) ≡ file_bytes ws
written-file ws small = take-padded (file_bytes ws) 22016 (omega (arith, length-file ws))

module _ (ws : List ℕ) (k : ℕ) where
  pub word-plain : (r : ℕ) → r < 127 → file_word ws k r ≡ body_word ws k r
  unfolding file_word
  word-plain r l = rw (lt-ltb r 127 l)

  pub word-check : file_word ws k 127 ≡ check_of (body_word ws k)
  unfolding file_word
  word-check = refl

  -- byte b of word r of block k
  pub file-byte : (r b : ℕ) → r < 128 → b < 4 → file_byte ws (512 * k + 4 * r + b) ≡ byte_of (file_word ws k r) b
  file-byte r b l m =
      let block : (512 * k + 4 * r + b) / 512 ≡ k = omega arith in
      let place : (512 * k + 4 * r + b) % 512 / 4 ≡ r = omega arith in
      let byte : (512 * k + 4 * r + b) % 4 ≡ b = omega arith in
      rw (block, place, byte)

  -- the bytes before a word are right, and the word that is put there is
  pub put-file : (r w : ℕ) (out : List ℕ) → r < 128 → 512 * k + 4 * r + 3 < length out → take (512 * k + 4 * r) out ≡ tab (512 * k + 4 * r) (file_byte ws)
      → w ≡ file_word ws k r → take (512 * k + 4 * (r + 1)) (put_word out (512 * k + 4 * r) w) ≡ tab (512 * k + 4 * (r + 1)) (file_byte ws)
  put-file r w out l room e v =
      let next : 512 * k + 4 * r + 4 ≡ 512 * k + 4 * (r + 1) = omega arith in
      rw next at (put-more (file_byte ws) out (512 * k + 4 * r) w room e (λ b m. rw v (sym (file-byte r b l m))))
