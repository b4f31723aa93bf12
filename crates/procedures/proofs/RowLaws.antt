-- Check 17 of a row by what was met before it: its locals, its kind, and the row as a whole.
-- Assumes nothing.
use Prim.Native.Nat.{ℕ, zero, suc, ◌+◌, ◌<◌, ◌≤◌}
use native.Mathlib.Omega.{arith}
use native.Mathlib.Numerals.{add-one}
use mathlib.Core.Path.{◌≡◌, refl, sym, ap, ◌∙◌}
use mathlib.Core.Bool.{Bool, true, false, not, ◌&&◌, ◌||◌, false≢true, true≢false}
use mathlib.Core.List.{List}
use lib.ListN.{get_or}
use lib.Dec.{ltb, leb, eqb}
use borrow.Author.Tests.{eqb-true, leb-true}
use Rattle.lists.proofs.BoolLaws.{and_left}
use Rattle.lists.specs.Tab.{all}
use Rattle.lists.proofs.TabLaws.{all_more, all-stop}
use Rattle.model.specs.Table.{Table, Row, between, row_kind, row_at, home, opening, open_at, opens_procedure, marked, marked_uint}
use Rattle.model.specs.Table.Row.{skip, assign, store, assert, assume, array, loop, loop_end, reduced_store, reduced_array, class_loop}
use Rattle.model.specs.Table.Row.{procedure, returns, call, no_row}
use Rattle.model.specs.Procedures.{opened_before, owner, allowed, opens_rightly, procedure_rule, keeps_procedures}
use Rattle.model.proofs.ReduceLaws.{opens-43}
use Rattle.model.proofs.UsesLaws.{uses-right}
use Rattle.kinds.specs.Code.{InSorts, There}
use Rattle.kinds.proofs.LineLaws.{home-more, home-none, locals-fit, none-open, open_more, three}
use Rattle.procedures.specs.declared.rows.Met.{Met}
use Rattle.procedures.specs.declared.uses.Uses.{Uses as UsesName}
use Rattle.procedures.specs.Code.{line_by, locals_free, opens_by, rule_for, rule_by, Owners, Summaries, MetBefore, met_after}
use Rattle.procedures.proofs.MapLaws.{opened-more, opened-none}
use Rattle.procedures.proofs.SummaryLaws.{uses-own}

-- ---- the locals of a 43, one by one

module _ (w owners : List ℕ) (a n q : ℕ) where
  abbrev unmarked : ℕ → Bool
  unmarked i = not (marked w 2 (a + i))

  abbrev owned : ℕ → Bool
  owned i = eqb (get_or owners (a + i) 0) q

  pub record FreeUpTo (i : ℕ) : Type 0 where
    pub marks : all i unmarked ≡ true
    pub own : all i owned ≡ true

  pub free-none : FreeUpTo 0
  unfolding all
  free-none = record { marks = refl; own = refl }

  pub free-stop : (i : ℕ) → i < n → (marked w 2 (a + i) || not (owned i)) ≡ true → locals_free w owners a n q ≡ false
  unfolding locals_free
  free-stop i l e = go (marked w 2 (a + i)) (owned i) refl refl e
    where
      none_right : (b : Bool) → (b && false) ≡ false
      none_right true = refl
      none_right false = refl

      go : (b c : Bool) → marked w 2 (a + i) ≡ b → owned i ≡ c → (b || not c) ≡ true → (all n unmarked && all n owned) ≡ false
      go true c d f e = rw (all-stop n unmarked i l (ap not d))
      go false true d f e = absurd (false≢true e)
      go false false d f e = rw (all-stop n owned i l f) (none_right (all n unmarked))

  pub free_more : (i : ℕ) → FreeUpTo i → (marked w 2 (a + i) || not (owned i)) ≡ false → FreeUpTo (i + 1)
  free_more i f e = go (marked w 2 (a + i)) (owned i) refl refl e
    where
      go : (b c : Bool) → marked w 2 (a + i) ≡ b → owned i ≡ c → (b || not c) ≡ false → FreeUpTo (i + 1)
      go true c d o e = absurd (true≢false e)
      go false true d o e = record { marks = all_more unmarked i f.marks (ap not d); own = all_more owned i f.own o }
      go false false d o e = absurd (true≢false e)

  pub free_all : (i : ℕ) → i ≡ n → FreeUpTo i → locals_free w owners a n q ≡ true
  unfolding locals_free
  free_all i e f = rw (rw e at f.marks, rw e at f.own)

-- ---- a 43

pub opens-then : (a b c l : Bool) → (a && (b && c)) ≡ true → l ≡ (a && (b && (c && l)))
opens-then true true true l e = refl
opens-then true true false l e = absurd (false≢true e)
opens-then true false c l e = absurd (false≢true e)
opens-then false b c l e = absurd (false≢true e)

pub opens-else : (a b c l : Bool) → (a && (b && c)) ≡ false → false ≡ (a && (b && (c && l)))
opens-else true true true l e = absurd (true≢false e)
opens-else true true false l e = refl
opens-else true false c l e = refl
opens-else false b c l e = refl

-- a 43 whose count of locals is in order lists some
pub some-locals : (a b : Bool) (n : ℕ) → (a && (b && between 1 4 n)) ≡ true → n ≡ 0 → ⊥
some-locals a b n e z =
    let p = three a b (between 1 4 n) e in
    omega (arith, leb-true 1 n (and_left (leb 1 n) (leb n 4) p.2))

same-all : (n : ℕ) (f g : ℕ → Bool) → ((i : ℕ) → i < n → f i ≡ g i) → all n f ≡ all n g
unfolding all
same-all zero f g h = refl
same-all (suc n) f g h = rw (same-all n f g (λ i l. h i (omega arith)), h n (omega arith))

-- ---- a row's rule by its kind; u: what the code finds of a 43

rule-is : (t : Table) (r : ℕ) (k : Row) (a b c : ℕ) (u : Bool) → (k ≡ procedure → opens_rightly t r a b ≡ u)
    → procedure_rule t r k a b c ≡ rule_for k u (not (eqb (home t r) 0)) (ltb (opening t a) t.rows && not (marked_uint t c))
rule-is t r skip a b c u h = refl
rule-is t r assign a b c u h = refl
rule-is t r store a b c u h = refl
rule-is t r assert a b c u h = refl
rule-is t r assume a b c u h = refl
rule-is t r array a b c u h = refl
rule-is t r loop a b c u h = refl
rule-is t r loop_end a b c u h = refl
rule-is t r reduced_store a b c u h = refl
rule-is t r reduced_array a b c u h = refl
rule-is t r class_loop a b c u h = refl
rule-is t r procedure a b c u h = h refl
rule-is t r returns a b c u h = refl
rule-is t r call a b c u h = refl
rule-is t r no_row a b c u h = refl

-- ---- what was met, from row to row

module _ (t : Table) where
  pub met-none : MetBefore t (record { home = 0; opened = 0; loops = 0 }) 0
  unfolding open_at
  met-none = record {
    home = sym (home-none t);
    opened = sym (opened-none t);
    loops = refl;
    low_home = omega arith;
    low_opened = omega arith;
    low_loops = omega arith;
  }

  module _ (met : Met) (r : ℕ) (m : MetBefore t met r) where
    pub met-more : (next : Met) → next ≡ met_after met (row_at t r).kind r → next.home ≤ r + 1 → next.opened ≤ r + 1 → next.loops ≤ r + 1
        → MetBefore t next (r + 1)
    met-more next e h o l = record {
      home = ap (λ (n : Met). n.home) e ∙ rw m.home (sym (home-more t r));
      opened = ap (λ (n : Met). n.opened) e ∙ rw m.opened (sym (opened-more t r));
      loops = ap (λ (n : Met). n.loops) e ∙ rw m.loops (sym (open_more t r));
      low_home = h;
      low_opened = o;
      low_loops = l;
    }

    -- ---- row r

    module _ (laid : InSorts t) (th : There t) (owners : List ℕ) (uses : List UsesName) (o : Owners t owners)
        (s : Summaries t uses t.nodes) (inside : r < t.rows) where
      abbrev line : ℕ
      line = t.decls + t.nodes + r

      opens-is : (row_at t r).kind ≡ 43 → opens_rightly t r (row_at t r).a (row_at t r).b ≡ opens_by t.words owners met r (row_at t r).a (row_at t r).b
      unfolding opens_by locals_free
      opens-is e =
          let a = (row_at t r).a in
          let n = (row_at t r).b in
          let own = same-all n (λ i. eqb (owner t (a + i)) (suc r)) (λ i. eqb (get_or owners (a + i) 0) (r + 1))
          (λ i l. rw (o.right (a + i) (omega (arith, locals-fit t laid th r inside e (λ z. omega arith))), add-one r)) in
          rw (m.opened, m.loops, own, none-open (open_at t r))

      rule-by : (total : ℕ) → total ≡ opened_before t t.rows
          → procedure_rule t r (row_kind (row_at t r).kind) (row_at t r).a (row_at t r).b (row_at t r).c ≡ rule_by t.words owners met total r line
      unfolding rule_by
      rule-by total e =
          let l = row_at t r in
          let is : row_kind l.kind ≡ procedure → l.kind ≡ 43 = λ q. eqb-true l.kind 43 (sym (opens-43 l.kind) ∙ ap opens_procedure q) in
          rule-is t r (row_kind l.kind) l.a l.b l.c (opens_by t.words owners met r l.a l.b) (λ q. opens-is (is q))
          ∙ rw ((uses-right t).called l.a, e, m.home)

      -- it breaks 17 as the code finds it
      pub misplaced-by : (total : ℕ) → total ≡ opened_before t t.rows
          → keeps_procedures t r ≡ (allowed met.home (line_by t.words owners uses line) && rule_by t.words owners met total r line)
      unfolding keeps_procedures
      misplaced-by total e = rw (uses-own t laid th owners uses o r inside s, rule-by total e, m.home)
