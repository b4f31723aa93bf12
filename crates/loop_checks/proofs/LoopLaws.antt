-- The nesting of loops, with the open ones counted: the scan for an end, and check 11.
-- Assumes nothing.
use Prim.Native.Nat.{ℕ, zero, suc, ◌+◌, ◌-◌, ◌<◌, ◌≤◌}
use native.Mathlib.Omega.{arith}
use native.Mathlib.Numerals.{add-one}
use mathlib.Core.Path.{◌≡◌, refl, sym, ap, ◌∙◌, subst}
use mathlib.Core.Bool.{Bool, true, false, false≢true, true≢false}
use mathlib.Core.List.{List}
use lib.ListN.{length}
use lib.Dec.{leb}
use borrow.Author.Tests.{leb-false}
use Rattle.lists.specs.First.{walk}
use Rattle.lists.proofs.FirstLaws.{walk_more, walk-done}
use Rattle.model.specs.Table.{Table, Nest, nest_at, scanned, matching_end, open_at}
use Rattle.model.specs.Table.Nest.{opens, closes, neither}
use Rattle.model.specs.Accepted.{misnested, most_open, nest_breaks}
use Rattle.kinds.specs.Code.{open_after}
use Rattle.kinds.proofs.LineLaws.{none-open, some}
use Rattle.loop_checks.specs.Code.{scan_from, ends_scan, unnested}
use Rattle.loop_checks.proofs.OrLaws.{or_right}

scanned-ends : (n : Nest) (i : ℕ) (rest : ℕ → ℕ) (d : ℕ) → ends_scan n d ≡ true → scanned n i rest d ≡ i
scanned-ends opens i rest d h = absurd (false≢true h)
scanned-ends closes i rest zero h = refl
scanned-ends closes i rest (suc d) h = absurd (false≢true (sym (some d) ∙ h))
scanned-ends neither i rest d h = absurd (false≢true h)

scanned-on : (n : Nest) (i : ℕ) (rest : ℕ → ℕ) (d : ℕ) → ends_scan n d ≡ false → scanned n i rest d ≡ rest (open_after n d)
scanned-on opens i rest d h = rw (add-one d)
scanned-on closes i rest zero h = absurd (true≢false h)
scanned-on closes i rest (suc d) h = ap rest (omega arith)
scanned-on neither i rest d h = refl

-- ---- the loop that scans: the end is what the rest of the scan finds

module _ (t : Table) where
  pub scan-start : (r : ℕ) → matching_end t r ≡ scan_from t (r + 1) 0
  unfolding matching_end
  scan-start r = rw (add-one r)

  pub scan-done : (i d : ℕ) → t.rows ≤ i → scan_from t i d ≡ t.rows
  scan-done i d l = ap (λ (f : ℕ → ℕ). f d) (walk-done (λ i rest. scanned (nest_at t i) i rest) (λ d. t.rows) i t.rows l)

  module _ (i d : ℕ) (q : Nest) (l : i < t.rows) (e : q ≡ nest_at t i) where
    more : scan_from t i d ≡ scanned (nest_at t i) i (walk (λ i rest. scanned (nest_at t i) i rest) (λ d. t.rows) (i + 1) (t.rows - (i + 1))) d
    more = ap (λ (f : ℕ → ℕ). f d) (walk_more (λ i rest. scanned (nest_at t i) i rest) (λ d. t.rows) i t.rows l)

    pub scan-hit : ends_scan q d ≡ true → scan_from t i d ≡ i
    scan-hit h = more ∙ scanned-ends (nest_at t i) i _ d (rw e at h)

    pub scan-next : ends_scan q d ≡ false → scan_from t i d ≡ scan_from t (i + 1) (open_after q d)
    scan-next h = more ∙ scanned-on (nest_at t i) i _ d (rw e at h) ∙ rw e

-- ---- 11

unnested-by : (n : Nest) (os : List ℕ) (u : Bool) → nest_breaks n os u ≡ unnested n (length os) u
unnested-by opens os u = refl
unnested-by closes os u = none-open os
unnested-by neither os u = refl

pub row_by : (t : Table) (r : ℕ) (q : Nest) (n : ℕ) → q ≡ nest_at t r → n ≡ length (open_at t r) → misnested t r ≡ unnested q n (leb t.rows (matching_end t r))
unfolding misnested
row_by t r q n e h = rw (e, h) (unnested-by (nest_at t r) (open_at t r) (leb t.rows (matching_end t r)))

-- what 11 leaves: room for one more loop inside those open at a row that opens one
pub few-open : (t : Table) (r : ℕ) → misnested t r ≡ false → nest_at t r ≡ opens → length (open_at t r) < most_open
unfolding misnested
few-open t r h e =
    let unclosed = leb t.rows (matching_end t r) in
    leb-false most_open (length (open_at t r))
    (or_right unclosed (leb most_open (length (open_at t r))) (subst (λ (n : Nest). nest_breaks n (open_at t r) unclosed ≡ false) e h))
