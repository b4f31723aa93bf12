-- The locals of what a row belongs to; and the variables, where a stretch of them gets numbers.
-- Assumes nothing.
use Prim.Native.Nat.{ℕ, zero, suc, ◌+◌, ◌-◌, ◌*◌, ◌<◌, ◌≤◌}
use native.Mathlib.Omega.{arith}
use mathlib.Core.Path.{◌≡◌, refl, sym, ap, ◌∙◌}
use mathlib.Core.Logic.{◌≢◌}
use mathlib.Core.Bool.{Bool, true, false, ◌&&◌}
use mathlib.Core.List.{List, [], ◌∷◌}
use lib.ListN.{length, get_or, replicate, get_or-replicate}
use lib.Seq.{length-paste}
use lib.Dec.{ltb, leb}
use borrow.Author.Tests.{ltb-true, ltb-false, leb-true, leb-false, ne_eqb}
use Rattle.std.specs.Prelude.{if◌then◌else◌}
use Rattle.lists.specs.Tab.{tab}
use Rattle.lists.proofs.TabLaws.{length-tab, at-tab, same-tab}
use Rattle.model.specs.Table.{Stretch, stretch, within, locals_at}
use Rattle.model.specs.State.{Value}
use Rattle.model.specs.State.Value.{Uint}
use Rattle.model.specs.Step.{numbers_in, renumbered, handed_over, argument}
use Rattle.prepared.specs.View.{vars_by}
use Rattle.prepared.specs.Own.{decls_of, rows_of, own_table, own_vars}
use Rattle.prepared.proofs.VarLaws.{value_in}
use Rattle.prepared.proofs.PasteLaws.{paste-before, paste-in, paste-after}
use Rattle.calls.specs.CallAndReturn.{LocalsWithin, Procedures}
use Rattle.calls.specs.Code.{locals_in, pasted, handed}

-- ---- the locals, by the first row of a procedure: the row before it is its 43
pub locals-listed : (own : List ℕ) (q : ℕ) → q ≢ 0
    → locals_in own q ≡ stretch (get_or own (4 * (34 + 1024 + (q - 1)) + 1) 0) (get_or own (4 * (34 + 1024 + (q - 1)) + 2) 0)
locals-listed own zero some = absurd (some refl)
locals-listed own (suc r) some = let e : suc r - 1 ≡ r = omega arith in rw e

-- by a row, whose word of the map is that first row
module _ (own map : List ℕ) (P : Procedures own map) (r : ℕ) {q : ℕ} (there : r ≤ rows_of own) (home : q ≡ get_or map (16 + r) 0) where
  pub locals-at : locals_in own q ≡ locals_at (own_table own) r
  locals-at = ap (locals_in own) (home ∙ P.mapped.homes r there)

  pub locals-fit : LocalsWithin own (locals_in own q)
  locals-fit = rw locals-at (P.locals r there)

-- ---- a stretch of declared uints
module _ (own : List ℕ) (few : decls_of own ≤ 32) (l : Stretch) (fit : LocalsWithin own l) (ns : List ℕ) (long : length ns ≡ 32) where
  module _ (bs : List ℕ) where
    at-vars : (i : ℕ) → i < decls_of own → get_or (own_vars own ns bs) i (Uint 0) ≡ value_in own ns bs i
    unfolding vars_by
    at-vars i h = at-tab (decls_of own) (value_in own ns bs) (Uint 0) i h

    -- their numbers
    pub numbers-in : numbers_in (own_vars own ns bs) l ≡ tab l.count (λ i. get_or ns (l.first + i) 0)
    unfolding numbers_in
    numbers-in = same-tab l.count _ _ (λ i h. rw (at-vars (l.first + i) (omega (arith, fit.there)), fit.uints i h))

  -- they get numbers
  module _ (xs : List ℕ) (has : l.count ≤ length xs) where
    room : l.first + l.count ≤ length ns
    room = omega (arith, fit.there)

    pub length-pasted : length (pasted ns l xs) ≡ 32
    length-pasted = length-paste ns l.first xs l.count room has ∙ long

    pub vars-pasted : (bs : List ℕ) (f : ℕ → ℕ) → ((i : ℕ) → i < l.count → get_or xs i 0 ≡ f i)
        → own_vars own (pasted ns l xs) bs ≡ renumbered (own_vars own ns bs) l f
    unfolding vars_by renumbered
    vars-pasted bs f same = rw (length-tab (decls_of own) (value_in own ns bs)) (same-tab (decls_of own) _ _ at)
      where
        at : (i : ℕ) → i < decls_of own
            → value_in own (pasted ns l xs) bs i ≡ (if within l i then Uint (f (i - l.first)) else get_or (own_vars own ns bs) i (Uint 0))
        at i h = go (leb l.first i) refl (ltb i (l.first + l.count)) refl
          where
            inside : (j : ℕ) → j < l.count → i ≡ l.first + j → value_in own (pasted ns l xs) bs i ≡ Uint (f j)
            inside j m e = rw (e, fit.uints j m, paste-in ns l.first xs l.count room has j m, same j m)

            go : (a : Bool) → leb l.first i ≡ a → (b : Bool) → ltb i (l.first + l.count) ≡ b
                → value_in own (pasted ns l xs) bs i ≡ (if a && b then Uint (f (i - l.first)) else get_or (own_vars own ns bs) i (Uint 0))
            go true p true q =
                let from : l.first ≤ i = leb-true l.first i p in
                let upto : i < l.first + l.count = ltb-true i (l.first + l.count) q in
                inside (i - l.first) (omega arith) (omega arith)
            go true p false q = rw (paste-after ns l.first xs l.count room has i (ltb-false i (l.first + l.count) q)) (sym (at-vars bs i h))
            go false p b q = rw (paste-before ns l.first xs l.count room has i (leb-false l.first i p)) (sym (at-vars bs i h))

-- ---- from one procedure at work to another
module _ (own : List ℕ) (few : decls_of own ≤ 32) (from upon : ℕ) (left : LocalsWithin own (locals_in own from)) (next : LocalsWithin own (locals_in own upon))
    (ns : List ℕ) (long : length ns ≡ 32) (xs : List ℕ) (four : length xs ≡ 4) where
  abbrev cleared : List ℕ
  cleared = pasted ns (locals_in own from) (replicate 4 0)

  length-cleared : length cleared ≡ 32
  length-cleared = length-pasted own few (locals_in own from) left ns long (replicate 4 0) left.few

  has : (locals_in own upon).count ≤ length xs
  has = omega (arith, next.few)

  pub length-handed : length (handed own ns from upon xs) ≡ 32
  unfolding handed
  length-handed = length-pasted own few (locals_in own upon) next cleared length-cleared xs has

  pub vars-handed : (bs : List ℕ) (f : ℕ → ℕ) → ((i : ℕ) → i < (locals_in own upon).count → get_or xs i 0 ≡ f i)
      → own_vars own (handed own ns from upon xs) bs ≡ handed_over (own_vars own ns bs) (locals_in own from) (locals_in own upon) f
  unfolding handed
  vars-handed bs f same =
      vars-pasted own few (locals_in own upon) next cleared length-cleared xs has bs f same
      ∙ ap (λ (vs : List Value). renumbered vs (locals_in own upon) f)
      (vars-pasted own few (locals_in own from) left ns long (replicate 4 0) left.few bs (λ i. 0)
      (λ i h. get_or-replicate 4 i 0 0 (omega (arith, left.few))))

-- the number of a call, for the first local
pub at-argument : (x i : ℕ) → i < 4 → get_or (x ∷ 0 ∷ 0 ∷ 0 ∷ []) i 0 ≡ argument x i
at-argument x zero h = refl
at-argument x (suc i) h = get_or-replicate 3 i 0 0 (omega arith) ∙ rw (ne_eqb (suc i) 0 (λ e. omega arith))
