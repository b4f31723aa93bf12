-- What check 16 says of a table, from what it says of two loops that share an iterator (`SharingLaws` of `loop_checks`).
-- Assumes nothing.
use Prim.Native.Nat.{ℕ, ◌/◌, ◌%◌, ◌≤◌}
use native.Mathlib.Omega.{arith}
use mathlib.Core.Path.{◌≡◌, refl, sym, ap, ◌∙◌, subst}
use mathlib.Core.Bool.{Bool, true, false, true≢false}
use mathlib.Core.List.{List, [], ◌∷◌, ◌++◌}
use lib.ListN.{length}
use lib.Dec.{eqb}
use borrow.Author.Tests.{eqb-true}
use Rattle.std.specs.Prelude.{if◌then◌else◌}
use Rattle.lists.specs.First.{first}
use Rattle.std.specs.Prelude.{Option}
use Rattle.std.specs.Prelude.{Some, None}
use Rattle.model.specs.Table.{Table, table_of, open_at}
use Rattle.model.specs.State.{MachineKind}
use Rattle.model.proofs.Nested.{chain}
use Rattle.model.proofs.Typing.{is-nested}
use Rattle.kinds.specs.Code.{InSorts}
use Rattle.kinds.proofs.LineLaws.{no-row, rows_none}
use Rattle.loop_checks.specs.Rules.{breaks16}
use Rattle.loop_checks.specs.Sharing.{Shares, FirstShares}
use Rattle.loop_checks.proofs.SharingLaws.{shared, shares-found, shares-holds, first-shares, chain-differs}
use Rattle.table.specs.Verdict.Verdict.{Passes, Refused}
use Rattle.table.specs.Checks.{breaks, first_refusal, refused_at_line, order, checked_by, table_check}
use Rattle.table.specs.Iterators.{PassingSharesNone, SixteenAtInner, before16, SharingRefused, ApartPasses, OpenDiffer}
use Rattle.table.proofs.CheckLaws.{laid, none as none_left, pass, passed, stop, then-more}
use Rattle.table.proofs.Passing.{accepted, passing, row_apart}

-- ---- what passing says

pub passing-shares-none : PassingSharesNone
passing-shares-none m w e o r l S =
    true≢false (sym (shares-holds (table_of w) o r (omega arith) S) ∙ row_apart m w (passing m w e) r l)

pub open-differ : OpenDiffer
open-differ m w e r l =
    let t = table_of w in
    let P = passing m w e in
    chain-differs t (is-nested m t (accepted m w P)) (row_apart m w P) (open_at t r) (chain t r l)

-- ---- what 16 says

-- a refusal with a number is that of its check
refused-by : (f : ℕ → Option ℕ) (ks : List ℕ) (k i : ℕ) → first_refusal f ks ≡ Refused k i → f k ≡ Some i
unfolding first_refusal
refused-by f [] k i e = absurd (let z : ◌≡◌ {A = ℕ} 0 1 = cc in omega arith)
refused-by f (x ∷ xs) k i e = go (f x) refl e (refused-by f xs k i)
  where
    go : (o : Option ℕ) → f x ≡ o → refused_at_line o x (first_refusal f xs) ≡ Refused k i → (first_refusal f xs ≡ Refused k i → f k ≡ Some i) → f k ≡ Some i
    go (Some j) q h later =
        let number : x ≡ k = cc in
        let place : j ≡ i = cc in
        subst (λ (n : ℕ). f n ≡ Some i) number (q ∙ ap Some place)
    go None q h later = later h

-- and the checks before it are passed
passed_first : (f : ℕ → Option ℕ) (x : ℕ) (xs : List ℕ) (k i : ℕ) → (x ≡ k → ⊥) → first_refusal f (x ∷ xs) ≡ Refused k i
    → (f x ≡ None) × (first_refusal f xs ≡ Refused k i)
unfolding first_refusal
passed_first f x xs k i other e = go (f x) refl e
  where
    go : (o : Option ℕ) → f x ≡ o → refused_at_line o x (first_refusal f xs) ≡ Refused k i → (f x ≡ None) × (first_refusal f xs ≡ Refused k i)
    go (Some j) q h = let number : x ≡ k = cc in absurd (other number)
    go None q h = (q, h)

pub sixteen-at-inner : SixteenAtInner
unfolding table_check breaks breaks16 table_of
sixteen-at-inner m w line e = go (eqb (length w % 4) 0) refl e
  where
    t : Table
    t = table_of w

    find : ℕ → Option ℕ
    find k = first (breaks k m t) 0 (length w / 4)

    go : (b : Bool) → eqb (length w % 4) 0 ≡ b → (if b then first_refusal find order else Refused 4 0) ≡ Refused 16 line → FirstShares t line
    go true u h =
        let p5 = passed_first find 5 _ 16 line (λ q. omega arith) h in
        let p6 = passed_first find 6 _ 16 line (λ q. omega arith) p5.1 in
        first-shares t line (laid m w (eqb-true (length w % 4) 0 u) p5.0 p6.0) (refused-by find order 16 line h)
    go false u h = absurd (let z : ◌≡◌ {A = ℕ} 4 16 = cc in omega arith)

-- ---- and back

module _ (m : MachineKind) (w : List ℕ) (p : checked_by before16 m w ≡ Passes) where
  abbrev table : Table
  table = table_of w

  -- no row breaks 16 that opens no loop inside one with its iterator
  apart : (r : ℕ) → r ≤ table.rows → ((o : ℕ) → Shares table o r → ⊥) → shared table r ≡ false
  apart r l none = go (shared table r) refl
    where
      go : (b : Bool) → shared table r ≡ b → b ≡ false
      go true e = let S = shares-found table r l e in absurd (none S.0 S.1)
      go false e = refl

  -- with the checks before 16 passed, the lines are in their sorts, and what is left is 16, with what comes after it
  record Left : Type 0 where
    laid_out : InSorts table
    rest : (ks : List ℕ) → checked_by (before16 ++ ks) m w ≡ first_refusal (λ k. first (breaks k m table) 0 (length w / 4)) ks

  left : Left
  left = go (eqb (length w % 4) 0) refl p
    where
      find : ℕ → Option ℕ
      find k = first (breaks k m table) 0 (length w / 4)

      go : (b : Bool) → eqb (length w % 4) 0 ≡ b → (if b then first_refusal find before16 else Refused 4 0) ≡ Passes → Left
      go true u h =
          let p5 = passed find 5 _ h in
          let p6 = passed find 6 _ p5.1 in
          record {
            laid_out = laid m w (eqb-true (length w % 4) 0 u) p5.0 p6.0;
            rest = λ ks. rw u (then-more find before16 ks h);
          }
      go false u h = absurd (let z : ◌≡◌ {A = ℕ} 0 1 = cc in omega arith)

pub sharing-refused : SharingRefused
unfolding table_check breaks breaks16 table_of
sharing-refused m w p o r l S = go (find 16) refl
  where
    find : ℕ → Option ℕ
    find k = first (breaks k m (table_of w)) 0 (length w / 4)

    go : (f : Option ℕ) → find 16 ≡ f → (line : ℕ) × (table_check m w ≡ Refused 16 line)
    go (Some line) e = (line, (left m w p).rest (16 ∷ 17 ∷ []) ∙ stop find 16 (17 ∷ []) line e)
    go None e =
        let none = no-row (shared (table_of w)) (table_of w) (left m w p).laid_out e r l in
        absurd (true≢false (sym (shares-holds (table_of w) o r (omega arith) S) ∙ none))

pub apart-passes : ApartPasses
unfolding breaks breaks16 table_of
apart-passes m w p none =
    let L = left m w p in
    L.rest (16 ∷ [])
    ∙ pass _ 16 [] (rows_none (shared (table_of w)) (table_of w) L.laid_out (λ r l. apart m w p r (omega arith) (λ o S. none o r l S)))
    ∙ none_left _
