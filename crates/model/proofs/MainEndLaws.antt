-- Where main ends: a row of main is at its end exactly where it is the 43 of procedure 0, or the row count where there is none; and
-- a run is done there.
-- Assumes nothing.
use Prim.Native.Nat.{ℕ, zero, suc, ◌+◌, ◌<◌, ◌≤◌}
use native.Mathlib.Omega.{arith}
use native.Mathlib.Decide.{dec_le}
use mathlib.Core.Path.{◌≡◌, refl, sym, ap, ◌∙◌}
use mathlib.Core.Bool.{Bool, true, false, ◌&&◌, true≢false}
use mathlib.Core.List.{List, [], ◌∷◌}
use lib.ListN.{length}
use lib.Dec.{ltb}
use borrow.Author.Tests.{lt-ltb, ltb-true}
use Rattle.std.specs.Prelude.{if◌then◌else◌}
use Rattle.lists.specs.First.{walk}
use Rattle.lists.proofs.BoolLaws.{and_left, and_right}
use Rattle.model.specs.Table.{Table, is_opening, at_end, home, counted, opening}
use Rattle.model.specs.State.{Caller, State}
use Rattle.model.specs.Step.{no_callers, finished}
use Rattle.model.specs.Accepted.{Stacked}
use Rattle.model.specs.MainEnd.{AtMainEnd, DoneAtMainEnd}
use Rattle.model.proofs.Homes.{opening-is}
use Rattle.model.proofs.EmptyClassLaws.{after-can}

module _ (t : Table) where
  -- the scan for the first 43, from row i on
  abbrev scan : ℕ → ℕ → ℕ
  scan i n = walk (λ i rest. counted (is_opening t i) i rest) (λ k. t.rows) i n 0

  none_before : (n i j : ℕ) → i + n ≡ t.rows → i ≤ j → j < scan i n → (j < t.rows) × (is_opening t j ≡ false)
  unfolding walk
  none_before zero i j e low h = (h, absurd (omega arith))
  none_before (suc n) i j e low h = go (is_opening t i) refl h (λ k l. none_before n (suc i) j (omega arith) k l)
    where
      go : (b : Bool) → is_opening t i ≡ b → j < counted b i (walk (λ i rest. counted (is_opening t i) i rest) (λ k. t.rows) (suc i) n) 0
          → (suc i ≤ j → j < scan (suc i) n → (j < t.rows) × (is_opening t j ≡ false)) → (j < t.rows) × (is_opening t j ≡ false)
      go true o l ih = absurd (omega arith)
      go false o l ih = elim (dec_le (suc i) j) [
        | yes k ↦ ih k l
        | no k ↦ let same : i ≡ j = omega arith in (omega arith, ap (is_opening t) (sym same) ∙ o)
      ]

  -- before it main goes on
  inside-main : (r : ℕ) → r < opening t 0 → at_end t r ≡ false
  unfolding opening at_end
  inside-main r h =
      let k = none_before t.rows 0 r (omega arith) (omega arith) h in
      rw (lt-ltb r t.rows k.0) k.1

  -- past a 43 no row is main's
  past-opening : (q r : ℕ) → is_opening t q ≡ true → q < r → 0 < home t r
  unfolding home
  past-opening q zero o h = absurd (omega arith)
  past-opening q (suc r) o h = go (is_opening t r) refl (past-opening q r o)
    where
      go : (b : Bool) → is_opening t r ≡ b → (q < r → 0 < home t r) → 0 < (if b then suc r else home t r)
      go true e ih = omega arith
      go false e ih = elim (dec_le (suc q) r) [
        | yes k ↦ ih k
        | no k ↦ let same : q ≡ r = omega arith in absurd (true≢false (sym o ∙ ap (is_opening t) same ∙ e))
      ]

  main-ends : (r : ℕ) → r ≤ t.rows → home t r ≡ 0 → opening t 0 ≤ r → at_end t r ≡ true
  unfolding at_end
  main-ends r h e k = go (ltb r t.rows) refl
    where
      go : (b : Bool) → ltb r t.rows ≡ b → (if b then is_opening t r else true) ≡ true
      go false d = refl
      go true d =
          let low : r < t.rows = ltb-true _ _ d in
          let first = opening-is t 0 (omega arith) in
          elim (dec_le (suc (opening t 0)) r) [
            | yes past ↦ let p = past-opening (opening t 0) r first past in absurd (omega arith)
            | no here ↦ let same : opening t 0 ≡ r = omega arith in ap (is_opening t) (sym same) ∙ first
          ]

-- a run is done exactly where it has no caller and is not before the 43 of procedure 0
module _ (t : Table) (s : State) (low : s.here.row ≤ t.rows) (stack : Stacked t (home t s.here.row) s.callers) where
  pub goes-in-main : s.here.row < opening t 0 → finished t s ≡ false
  unfolding finished
  goes-in-main h = rw (inside-main t s.here.row h)

  pub goes-with-callers : 0 < length s.callers → finished t s ≡ false
  unfolding finished
  goes-with-callers h = by s.callers h
    where
      by : (cs : List Caller) → 0 < length cs → (at_end t s.here.row && no_callers cs) ≡ false
      by [] h = absurd (omega arith)
      by (c ∷ cs) h = none (at_end t s.here.row)
        where
          none : (b : Bool) → (b && false) ≡ false
          none true = refl
          none false = refl

  pub done-there : opening t 0 ≤ s.here.row → length s.callers ≡ 0 → finished t s ≡ true
  unfolding finished
  done-there h n = by s.callers n stack
    where
      by : (cs : List Caller) → length cs ≡ 0 → Stacked t (home t s.here.row) cs → (at_end t s.here.row && no_callers cs) ≡ true
      by [] e k = rw (main-ends t s.here.row low k h)
      by (c ∷ cs) e k = absurd (omega arith)

  -- where it is done
  pub done-only-there : finished t s ≡ true → AtMainEnd t s
  unfolding finished
  done-only-there d = by s.callers refl stack d
    where
      at-opening : home t s.here.row ≡ 0 → at_end t s.here.row ≡ true → s.here.row ≡ opening t 0
      at-opening e k = elim (dec_le (suc s.here.row) (opening t 0)) [
        | yes before ↦ absurd (true≢false (sym k ∙ inside-main t s.here.row before))
        | no there ↦ elim (dec_le (suc (opening t 0)) s.here.row) [
          | yes past ↦ let p = past-opening t (opening t 0) s.here.row (opening-is t 0 (omega arith)) past in absurd (omega arith)
          | no here ↦ omega arith
        ]
      ]

      by : (cs : List Caller) → s.callers ≡ cs → Stacked t (home t s.here.row) cs → (at_end t s.here.row && no_callers cs) ≡ true → AtMainEnd t s
      by [] e k d = record { row = at-opening k (and_left (at_end t s.here.row) true d); callers = e }
      by (c ∷ cs) e k d = absurd (true≢false (sym (and_right (at_end t s.here.row) false d)))

pub done-at-main-end : DoneAtMainEnd
done-at-main-end ps m t A s C choices n r after =
    let K = after-can ps m t A n s r C choices after in (
      done-only-there t r K.here.row K.stack,
      λ e. done-there t r K.here.row K.stack (omega (arith, e.row)) (ap length e.callers),
    )
