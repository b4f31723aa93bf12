-- What is said of an input: by its length, and by what the reader answers to its file.
-- Assumes nothing.
use mathlib.Core.Path.{◌≡◌, sym, ap, ◌∙◌}
use Prim.Native.Nat.{ℕ, ◌-◌, ◌*◌, ◌≤◌}
use native.Mathlib.Omega.{arith}
use mathlib.Core.List.{List}
use lib.ListN.{length, take, drop, replicate, length-drop}
use lib.Seq.{take_all}
use borrow.Author.Tests.{le-ltb}
use Rattle.lists.proofs.TabLaws.{length-tab}
use Rattle.std.specs.Prelude.{Result, Err}
use Rattle.table.specs.declared.verdict.Refusal.{Refusal}
use Rattle.table.specs.Verdict.{check_number}
use Rattle.file.specs.Read.Read.{Lines, Refused as NotRead}
use Rattle.file.specs.Word.{word_at}
use Rattle.file.specs.Reading.{read_answer, read_buffer}
use Rattle.file.proofs.ReadingLaws.{accepted, lines-most}
use Rattle.model.specs.Class.{pair}
use Rattle.pair.specs.declared.Paired.{Paired}
use Rattle.pair.specs.Pairs.{said_of, table_said, file_said, pair_said}

-- a file that was read into zeroed words of the stated size
module _ (bs words : List ℕ) (b : words ≡ read_buffer bs (replicate 5248 0)) (ps : List ℕ) (limit : ℕ) where
  pub file-refused : (e : Refusal) → NotRead (check_number e.check) e.place ≡ read_answer bs 5248 → said_of (Err e) ≡ file_said ps limit bs
  unfolding file_said
  file-refused e h = rw (← h)

  pub file-read : (n : ℕ) → Lines n ≡ read_answer bs 5248 → (r : Result Paired Refusal)
      → said_of r ≡ table_said ps limit (take (4 * n) words) → said_of r ≡ file_said ps limit bs
  unfolding file_said
  file-read n h r k = k ∙ rw (← h, b)

-- its lines fit the words
pub lines_fit : (bs words : List ℕ) (n : ℕ) → Lines n ≡ read_answer bs 5248 → words ≡ read_buffer bs (replicate 5248 0)
    → (4 * n ≤ 5248) × (length words ≡ 5248)
unfolding read_buffer
lines_fit bs words n h b =
    let said = sym h in
    let ok = accepted bs 5248 n said in
    (omega (arith, lines-most bs ok.right, ok.counted), ap length b ∙ rw said (length-tab 5248 _))

-- 12 bytes and a file
module _ (input : List ℕ) (r : Result Paired Refusal) where
  pub long-said : 12 ≤ length input → (c1 c2 limit : ℕ) → c1 ≡ word_at input 0 → c2 ≡ word_at input 4 → limit ≡ word_at input 8
      → said_of r ≡ file_said (pair c1 c2) limit (take (length input - 12) (drop 12 input)) → said_of r ≡ pair_said input
  unfolding pair_said
  long-said l c1 c2 limit h i j e =
      let rest : length (drop 12 input) ≤ length input - 12 = omega (arith, length-drop 12 input) in
      e ∙ rw (le-ltb (length input) 12 l, take_all (length input - 12) (drop 12 input) rest, h, i, j)
