-- The checks in their order, one after the other, and what those that pass leave for the next.
-- Assumes nothing.
use Prim.Native.Nat.{ℕ, ◌+◌, ◌-◌, ◌/◌, ◌%◌, ◌<◌}
use native.Mathlib.Omega.{arith}
use mathlib.Core.Path.{◌≡◌, refl, sym, ap, ◌∙◌, subst}
use mathlib.Core.Bool.{Bool, false, not}
use mathlib.Core.List.{List, [], ◌∷◌, ◌++◌}
use lib.ListN.{length}
use borrow.Author.Tests.{eq-eqb, not-false}
use Rattle.std.specs.Prelude.{Option}
use Rattle.std.specs.Prelude.{Some, None}
use Rattle.lists.specs.First.{first}
use Rattle.lists.proofs.FirstLaws.{first-nowhere-at}
use Rattle.model.specs.Table.{Table, table_of}
use Rattle.model.specs.State.{MachineKind}
use Rattle.model.specs.Accepted.{node_there, row_there, misnested}
use Rattle.kinds.specs.declared.Counts.{Counts}
use Rattle.kinds.specs.Kinds.{machine_of}
use Rattle.kinds.specs.Code.{table_by, InSorts, There}
use Rattle.kinds.proofs.LineLaws.{at-node, at_row, no-row}
use Rattle.procedures.specs.Misplaced.{breaks17}
use Rattle.table.specs.Verdict.{Verdict, refused_as}
use Rattle.table.specs.Verdict.Verdict.{Passes, Refused}
use Rattle.table.specs.declared.verdict.Refusal.{Refusal}
use Rattle.line_checks.specs.Rules.{breaks8, breaks10}
use Rattle.loop_checks.specs.Rules.{breaks11, breaks16}
use Rattle.table.specs.Checks.{breaks, refused_at_line, first_refusal, table_check}
use Rattle.loop_checks.specs.Code.{WellNested}
use Rattle.table.specs.Code.{counts_of, first_of}
use Rattle.table.proofs.Sizes.{all_lines, declaration-at, node_at, row_at, sizes}

module _ (f : ℕ → Option ℕ) where
  pub none : first_refusal f [] ≡ Passes
  unfolding first_refusal
  none = refl

  pub pass : (k : ℕ) (ks : List ℕ) → f k ≡ None → first_refusal f (k ∷ ks) ≡ first_refusal f ks
  unfolding first_refusal
  pass k ks e = rw e

  pub stop : (k : ℕ) (ks : List ℕ) (i : ℕ) → f k ≡ Some i → first_refusal f (k ∷ ks) ≡ Refused k i
  unfolding first_refusal
  stop k ks i e = rw e

  -- checks that refuse nothing, one by one
  pub passed : (k : ℕ) (ks : List ℕ) → first_refusal f (k ∷ ks) ≡ Passes → (f k ≡ None) × (first_refusal f ks ≡ Passes)
  passed k ks e = go (f k) refl
    where
      go : (r : Option ℕ) → f k ≡ r → (f k ≡ None) × (first_refusal f ks ≡ Passes)
      go (Some i) q = absurd (let z : ◌≡◌ {A = ℕ} 0 1 = cc (stop k ks i q) in omega arith)
      go None q = (q, sym (pass k ks q) ∙ e)

  -- more checks after them
  pub then-more : (xs ys : List ℕ) → first_refusal f xs ≡ Passes → first_refusal f (xs ++ ys) ≡ first_refusal f ys
  then-more [] ys e = refl
  then-more (x ∷ xs) ys e = let p = passed x xs e in pass x (xs ++ ys) p.0 ∙ then-more xs ys p.1

  -- and none after a refusal
  pub no_more : (xs ys : List ℕ) (k i : ℕ) → first_refusal f xs ≡ Refused k i → first_refusal f (xs ++ ys) ≡ Refused k i
  no_more [] ys k i e = absurd (let z : ◌≡◌ {A = ℕ} 0 1 = cc none in omega arith)
  no_more (x ∷ xs) ys k i e = go (f x) refl (λ h. no_more xs ys k i h)
    where
      go : (r : Option ℕ) → f x ≡ r → (first_refusal f xs ≡ Refused k i → first_refusal f (xs ++ ys) ≡ Refused k i)
          → first_refusal f (x ∷ (xs ++ ys)) ≡ Refused k i
      go (Some j) q more = stop x (xs ++ ys) j q ∙ sym (stop x xs j q) ∙ e
      go None q more = pass x (xs ++ ys) q ∙ more (sym (pass x xs q) ∙ e)

  -- one check after another, by what the code's answer says of each
  pub stops : (k : ℕ) (ks : List ℕ) (e : Refusal) → refused_as e ≡ refused_at_line (f k) k Passes → refused_as e ≡ first_refusal f (k ∷ ks)
  unfolding first_refusal
  stops k ks e h = go (f k) h
    where
      go : (x : Option ℕ) → refused_as e ≡ refused_at_line x k Passes → refused_as e ≡ refused_at_line x k (first_refusal f ks)
      go (Some i) q = q
      go None q = absurd (let z : ◌≡◌ {A = ℕ} 0 1 = cc in omega arith)

  pub clean : (k : ℕ) → Passes ≡ refused_at_line (f k) k Passes → f k ≡ None
  clean k h = go (f k) h
    where
      go : (x : Option ℕ) → Passes ≡ refused_at_line x k Passes → x ≡ None
      go (Some i) q = absurd (let z : ◌≡◌ {A = ℕ} 0 1 = cc in omega arith)
      go None q = refl

  pub goes : (k : ℕ) (ks : List ℕ) → Passes ≡ refused_at_line (f k) k Passes → first_refusal f ks ≡ first_refusal f (k ∷ ks)
  goes k ks h = sym (pass k ks (clean k h))

  pub last : (k : ℕ) (v : Verdict) → v ≡ refused_at_line (f k) k Passes → v ≡ first_refusal f (k ∷ [])
  unfolding first_refusal
  last k v h = h

-- what is said of the line that was found, said of the check's first line
pub at_line : {x y z : Option ℕ} {v : Verdict} (k : ℕ) → x ≡ y → z ≡ y → v ≡ refused_at_line x k Passes → v ≡ refused_at_line z k Passes
at_line k p q h = h ∙ ap (λ o. refused_at_line o k Passes) (p ∙ sym q)

-- 10, 11, 16 and 17 are the same of plain and reduced tables
pub ten : (r : Bool) (w : List ℕ) (c : Counts) → first_of 10 r w c ≡ first (breaks10 (table_by w c)) 0 (length w / 4)
unfolding breaks
ten r w c = refl

pub eleven : (r : Bool) (w : List ℕ) (c : Counts) → first_of 11 r w c ≡ first (breaks11 (table_by w c)) 0 (length w / 4)
unfolding breaks
eleven r w c = refl

pub sixteen : (r : Bool) (w : List ℕ) (c : Counts) → first_of 16 r w c ≡ first (breaks16 (table_by w c)) 0 (length w / 4)
unfolding breaks
sixteen r w c = refl

pub seventeen : (r : Bool) (w : List ℕ) (c : Counts) → first_of 17 r w c ≡ first (breaks17 (table_by w c)) 0 (length w / 4)
unfolding breaks
seventeen r w c = refl

-- ---- what 4, 5 and 6 leave

pub laid : (m : MachineKind) (w : List ℕ) → length w % 4 ≡ 0 → first (breaks 5 m (table_of w)) 0 (length w / 4) ≡ None
    → first (breaks 6 m (table_of w)) 0 (length w / 4) ≡ None → InSorts (table_of w)
unfolding table_of
laid m w e n5 n6 =
    let few = sizes m w e n5 n6 in
    let whole : length w / 4 ≡ (table_of w).decls + (table_of w).nodes + (table_of w).rows = sym (all_lines m w n5) in
    record {
      whole = omega (arith, whole);
      few_decls = few.0;
      few_nodes = few.1;
      few_rows = few.2;
      declaration = λ i l. declaration-at m w n5 i (omega (arith, whole)) l;
      node = λ i l h. node_at m w n5 i (omega (arith, whole)) l h;
      row = λ i l h. row_at m w n5 i (omega (arith, whole)) l;
    }

pub laid_of : (r : Bool) (w : List ℕ) (c : Counts) → length w % 4 ≡ 0 → c ≡ counts_of w → first_of 5 r w c ≡ None → first_of 6 r w c ≡ None
    → InSorts (table_by w c)
unfolding table_of
laid_of r w c e q =
    subst (λ c. first_of 5 r w c ≡ None → first_of 6 r w c ≡ None → InSorts (table_by w c)) (sym q) (laid (machine_of r) w e)

-- ---- what 8 leaves

pub there-of : (r : Bool) (w : List ℕ) (c : Counts) → InSorts (table_by w c) → first_of 8 r w c ≡ None → There (table_by w c)
unfolding breaks breaks8
there-of r w c la n8 = record {
  nodes = λ n l.
      let i = t.decls + n in
      let back : i - t.decls ≡ n = omega arith in
      not-false (node_there t n)
      (ap (λ (m : ℕ). not (node_there t m)) (sym back) ∙ sym (at-node t la i node row (omega arith) (omega arith)) ∙ unbroken i (omega (arith, la.whole)));
  rows = λ n l.
      let i = t.decls + t.nodes + n in
      let back : i - (t.decls + t.nodes) ≡ n = omega arith in
      not-false (row_there t n)
      (ap (λ (m : ℕ). not (row_there t m)) (sym back) ∙ sym (at_row t la i node row (omega arith) (omega arith)) ∙ unbroken i (omega (arith, la.whole)));
}
  where
    t : Table
    t = table_by w c

    node : ℕ → Bool
    node n = not (node_there t n)

    row : ℕ → Bool
    row n = not (row_there t n)

    unbroken : (i : ℕ) → i < length w / 4 → breaks8 t i ≡ false
    unbroken i l = first-nowhere-at (length w / 4) (breaks 8 (machine_of r) t) 0 n8 i (omega arith) (omega arith)

-- ---- what 11 leaves

pub nested-of : (w : List ℕ) (c : Counts) → InSorts (table_by w c) → first (breaks11 (table_by w c)) 0 (length w / 4) ≡ None → WellNested (table_by w c)
unfolding breaks11
nested-of w c la e = let t = table_by w c in record { rows = no-row (misnested t) t la e }

-- ---- the whole check

abbrev pub early : List ℕ
early = 5 ∷ 6 ∷ 7 ∷ 8 ∷ []

abbrev pub late : List ℕ
late = 9 ∷ 10 ∷ 11 ∷ 12 ∷ 16 ∷ 17 ∷ []

pub whole-check : (r : Bool) (w : List ℕ) (c : Counts) → length w % 4 ≡ 0 → c ≡ counts_of w
    → table_check (machine_of r) w ≡ first_refusal (λ k. first_of k r w c) (early ++ late)
unfolding table_check table_of
whole-check r w c e q = rw (eq-eqb (length w % 4) 0 e) (ap (λ c. first_refusal (λ k. first_of k r w c) (early ++ late)) (sym q))
