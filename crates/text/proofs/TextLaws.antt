-- Laws of the printed text: numbers in decimal, digit by digit; words put one after another; and how long a text can be.
-- Assumes nothing.
use mathlib.Core.Path.{◌≡◌, refl, sym, ap, ◌∙◌}
use Prim.Native.Nat.{ℕ, zero, suc, ◌+◌, ◌/◌, ◌%◌, ◌^◌, ◌≤◌, ◌<◌}
use Prim.Native.String.{String, len}
use native.Mathlib.Omega.{arith}
use native.Mathlib.Decide.{dec_lt}
use native.Mathlib.Numerals.{add-one}
use mathlib.Core.List.{List, [], ◌∷◌, ◌++◌}
use lib.ListN.{length, get_or, take, drop, length-append}
use lib.Seq.{take-suc}
use borrow.Author.Tests.{lt-ltb, le-ltb}
use Rattle.lists.proofs.TabLaws.{length-tab}
use Rattle.lists.proofs.FallingLaws.{value-is}
use Rattle.model.specs.Work.{Reason, reason_number}
use Rattle.model.specs.Work.Reason.{sum_too_large, below_zero, without_array, past_length, counter_too_large}
use Rattle.model.specs.Step.{End}
use Rattle.model.specs.Step.End.{done, assert_false, assume_false, failed, want_of_cells, out_of_steps, choice_not_allowed, no_choice_left, list_full, too_deep}
use Rattle.machine.specs.View.{end_of}
use Rattle.pair.specs.declared.Line.{Line}
use Rattle.pair.specs.Pairs.{line_of}
use Rattle.pair.specs.Pairs.PairSaid.{refusal, lines}
use Rattle.recording.specs.CodePushes.{Pushed, pushed, push, push_all}
use Rattle.recording.proofs.PushLaws.{push-one, push-append, push-fits}
use Rattle.text.specs.Text.{bytes, digit, decimal_by, decimal, end_text, part, run_text, pair_text}
use Rattle.text.specs.CodePuts.{Puts}

-- ---- decimals
module _ (n : ℕ) where
  pub decimal-small : n < 10 → decimal n ≡ digit n ∷ []
  unfolding decimal
  decimal-small h = value-is decimal_by [] n ∙ rw (lt-ltb n 10 h)

  pub decimal-large : 10 ≤ n → decimal n ≡ decimal (n / 10) ++ (digit (n % 10) ∷ [])
  unfolding decimal
  decimal-large h = value-is decimal_by [] n ∙ rw (le-ltb n 10 h, lt-ltb (n / 10) n (omega arith))

-- a number below 10 to the k has at most k digits
pub decimal-length : (k n : ℕ) → n < 10 ^ suc k → length (decimal n) ≤ suc k
decimal-length zero n h = rw (decimal-small n (omega arith)) (omega arith)
decimal-length (suc k) n h = elim (dec_lt n 10) [
  | yes l ↦ rw (decimal-small n l) (omega arith)
  | no l ↦ let e = decimal-length k (n / 10) (omega arith) in
      rw (decimal-large n (omega arith), length-append (decimal (n / 10)) (digit (n % 10) ∷ [])) (omega arith)
]

-- ---- words
-- one byte more of a word
pub word_more : (word : List ℕ) (i : ℕ) {b c out : List ℕ} {at j next : ℕ} → i < length word → Puts (take i word) b at c j
    → pushed out next ≡ push (get_or word i 0) (pushed c j) → Puts (take (i + 1) word) b at out next
word_more word i {b} {at = at} l h e =
    let p = pushed b at in
    record {
      put = e ∙ ap (push (get_or word i 0)) h.put ∙ sym (push-one (get_or word i 0) (push_all (take i word) p))
          ∙ sym (push-append (take i word) (get_or word i 0 ∷ []) p)
          ∙ ap (λ (xs : List ℕ). push_all xs p) (sym (take-suc word i 0 l)) ∙ ap (λ (k : ℕ). push_all (take k word) p) (sym (add-one i));
    }

pub word_none : (b : List ℕ) (at : ℕ) → Puts [] b at b at
unfolding push_all
word_none b at = record { put = refl }

-- a digit put by itself, and after the digits before it
module _ {b c : List ℕ} {at i n d : ℕ} where
  pub number_small : pushed c i ≡ push d (pushed b at) → d ≡ digit n → n < 10 → Puts (decimal n) b at c i
  number_small e h l = record {
    put = e ∙ ap (λ (x : ℕ). push x (pushed b at)) h ∙ sym (push-one (digit n) (pushed b at))
        ∙ ap (λ (xs : List ℕ). push_all xs (pushed b at)) (sym (decimal-small n l));
  }

  pub number-large : {out : List ℕ} {next : ℕ} → Puts (decimal (n / 10)) b at c i → pushed out next ≡ push d (pushed c i) → d ≡ digit (n % 10) → 10 ≤ n
      → Puts (decimal n) b at out next
  number-large h e f l = record {
    put = e ∙ ap (λ (x : ℕ). push x (pushed c i)) f ∙ ap (push (digit (n % 10))) h.put
        ∙ sym (push-one (digit (n % 10)) (push_all (decimal (n / 10)) (pushed b at)))
        ∙ sym (push-append (decimal (n / 10)) (digit (n % 10) ∷ []) (pushed b at))
        ∙ ap (λ (xs : List ℕ). push_all xs (pushed b at)) (sym (decimal-large n l));
  }

-- one word after another
pub then-put : {xs ys b c d : List ℕ} {at i j : ℕ} → Puts xs b at c i → Puts ys c i d j → Puts (xs ++ ys) b at d j
then-put {xs} {ys} {b} {at = at} h g = record { put = g.put ∙ ap (push_all ys) h.put ∙ sym (push-append xs ys (pushed b at)) }

-- ---- how long a text is
length-bytes : (s : String) → length (bytes s) ≡ len s
unfolding bytes
length-bytes s = length-tab (len s) _

-- ... of a reason, one digit
reason-most : (why : Reason) → length (part "fail reason " (reason_number why)) ≤ 13
reason-most why =
    let h = decimal-length 0 (reason_number why) (small why) in
    rw (length-append (bytes "fail reason ") (decimal (reason_number why)), length-bytes "fail reason ") (omega arith)
  where
    small : (why : Reason) → reason_number why < 10
    small sum_too_large = omega arith
    small below_zero = omega arith
    small without_array = omega arith
    small past_length = omega arith
    small counter_too_large = omega arith

end-most : (e : End) → length (end_text e) ≤ 13
end-most done = rw (length-bytes "done") (omega arith)
end-most assert_false = rw (length-bytes "assert") (omega arith)
end-most assume_false = rw (length-bytes "assume") (omega arith)
end-most (failed why) = reason-most why
end-most want_of_cells = rw (length-bytes "room") (omega arith)
end-most out_of_steps = rw (length-bytes "steps") (omega arith)
end-most choice_not_allowed = rw (length-bytes "badchoice") (omega arith)
end-most no_choice_left = rw (length-bytes "nochoice") (omega arith)
end-most list_full = rw (length-bytes "full") (omega arith)
end-most too_deep = rw (length-bytes "deep") (omega arith)

part-most : (name : String) (n : ℕ) → length (decimal n) ≤ 20 → length (part name n) ≤ len name + 20
part-most name n h = rw (length-append (bytes name) (decimal n), length-bytes name) (omega arith)

pub run-most : (l : Line) → length (decimal l.row) ≤ 20 → length (decimal l.steps) ≤ 20 → length (run_text (line_of l)) ≤ 65
run-most l h g =
    let a = end-most (end_of l.end) in
    let b : length (part " row " l.row) ≤ 25 = part-most " row " l.row h in
    let c : length (part " steps " l.steps) ≤ 27 = part-most " steps " l.steps g in
    rw (
      length-append (end_text (end_of l.end)) (part " row " l.row ++ part " steps " l.steps),
      length-append (part " row " l.row) (part " steps " l.steps),
    ) (omega arith)

pub refusal-most : (number place : ℕ) → length (decimal number) ≤ 20 → length (decimal place) ≤ 20 → length (pair_text (refusal number place)) ≤ 256
unfolding pair_text
refusal-most number place h g =
    let a : length (part "refused " number) ≤ 28 = part-most "refused " number h in
    let b : length (part " line " place) ≤ 26 = part-most " line " place g in
    let c : length (bytes "\n") ≡ 1 = length-bytes "\n" in
    rw (length-append (part "refused " number) (part " line " place ++ bytes "\n"), length-append (part " line " place) (bytes "\n")) (omega arith)

pub runs-most : (first second : Line) → length (run_text (line_of first)) ≤ 65 → length (run_text (line_of second)) ≤ 65
    → length (decimal second.used) ≤ 20 → length (pair_text (lines (line_of first) (line_of second))) ≤ 256
unfolding pair_text
runs-most first second h g l =
    let plain = run_text (line_of first) in
    let pair = run_text (line_of second) in
    let choices = part " choices " second.used in
    let a : length (bytes "plain ") ≡ 6 = length-bytes "plain " in
    let b : length (bytes "\npair ") ≡ 6 = length-bytes "\npair " in
    let c : length choices ≤ 29 = part-most " choices " second.used l in
    let d : length (bytes "\n") ≡ 1 = length-bytes "\n" in
    rw (
      length-append (bytes "plain ") (plain ++ (bytes "\npair " ++ (pair ++ (choices ++ bytes "\n")))),
      length-append plain (bytes "\npair " ++ (pair ++ (choices ++ bytes "\n"))),
      length-append (bytes "\npair ") (pair ++ (choices ++ bytes "\n")),
      length-append pair (choices ++ bytes "\n"),
      length-append choices (bytes "\n"),
    ) (omega arith)

-- ---- a text that fits was put whole, and the rest of the buffer is kept
pub put_whole : {xs b c : List ℕ} {i : ℕ} → Puts xs b 0 c i → length xs ≤ length b → (i ≡ length xs) × (c ≡ xs ++ drop i b)
put_whole {xs} {b} {c} {i} h l =
    let e : pushed c i ≡ pushed (xs ++ drop (0 + length xs) b) (0 + length xs) = h.put ∙ push-fits xs b 0 (omega arith) in
    let n : i ≡ length xs = ap (λ (p : Pushed ℕ). p.at) e ∙ (let z : 0 + length xs ≡ length xs = omega arith in z) in
    (n, ap (λ (p : Pushed ℕ). p.buffer) e ∙ ap (λ (k : ℕ). xs ++ drop k b) ((let z : 0 + length xs ≡ length xs = omega arith in z) ∙ sym n))
