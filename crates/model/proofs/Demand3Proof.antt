-- Demand 3: fresh states, the matching of whole runs and the writer's room, put together.
-- Assumes nothing.
use mathlib.Core.Path.{◌≡◌, refl, sym, ap, ◌∙◌, subst}
use Prim.Native.Nat.{ℕ, zero, suc, ◌+◌, ◌*◌, ◌≤◌}
use native.Mathlib.Nat.{not-suc-le-zero}
use native.Mathlib.Omega.{arith}
use mathlib.Core.Bool.{Bool, true, false, true≢false, false≢true}
use mathlib.Core.List.{List, [], ◌∷◌, ◌++◌, append-nil}
use lib.ListN.{length, get_or}
use Rattle.std.specs.Prelude.{if◌then◌else◌}
use Rattle.lists.proofs.TabLaws.{at-tab, length-tab}
use Rattle.model.specs.Class.{accepted_places, class, tracked}
use Rattle.model.specs.Table.{most, Table, Ty, home, open_at, table_of, type_at}
use Rattle.model.specs.Table.Ty.{bool, uint, pointer}
use Rattle.model.specs.State.{MachineKind, State, classed, fresh, most_arrays, start_of, zero_of}
use Rattle.model.specs.State.MachineKind.{plain, reduced}
use Rattle.model.specs.State.Value.{Uint, Class}
use Rattle.model.specs.Eval.{cells_laid}
use Rattle.model.specs.Step.{End, Report, run}
use Rattle.model.specs.Step.End.{out_of_steps, list_full}
use Rattle.model.specs.Step.Report.{ended}
use Rattle.model.specs.Reduce.{reduce}
use Rattle.model.specs.Agree.{Agree, array_at}
use Rattle.model.specs.Accepted.{Accepted, CanHave, HasType, Holds}
use Rattle.model.specs.Demand3.{Demand3Holds, Ends, FullAfter, Matched, Numbers, choice_list, choices_used, plain_run, reduced_run, wants_cells}
use Rattle.model.proofs.ClassLaws.{cell-for-each-place, places-few, places-rise}
use Rattle.model.proofs.Match.{All}
use Rattle.model.proofs.Safe.{leaves-plain}
use Rattle.model.proofs.KindsIn.{table-plain}
use Rattle.model.proofs.Linked.{Closed, Extra, Related}
use Rattle.model.proofs.MatchEval.{unreduced}
use Rattle.model.proofs.MatchRun.{AlikeRuns, HandedRun, LinkedNow, fresh-runs}
use Rattle.model.proofs.MatchRun.AlikeRuns.{end-alike, stop-alike, first-lacks, second-lacks, stuck-alike}
use Rattle.model.proofs.WriterLaws.{FullFrom, write-fits, write-full}
use Rattle.model.proofs.ReduceLaws.{reduced_table, reduces, table-reduce}
use Rattle.model.proofs.Typing.{plain-nodes, plain_rows}
use Rattle.model.proofs.SafeStep.{never_stuck}
use Rattle.model.proofs.ReducedAccepted.{reduction-accepted}

-- ---- fresh states

zero-typed : (w : Ty) → HasType 0 w (zero_of w)
zero-typed bool = (false, refl)
zero-typed uint = (0, refl)
zero-typed pointer = (0, 0, refl, omega arith)

start-holds : (ps : List ℕ) (b : Bool) (w : Ty) → Holds b 0 w (if b then Class (class ps 0) else zero_of w)
start-holds ps true w = (class ps 0, refl)
start-holds ps false w = zero-typed w

-- a table can have its fresh state
pub fresh-can : (ps : List ℕ) (m : MachineKind) (t : Table) → CanHave ps m t (fresh ps m t)
unfolding fresh open_at home cells_laid
fresh-can ps m t = record {
  here = record { row = omega arith; loops = refl };
  stack = refl;
  variables = length-tab t.decls (start_of ps m t);
  variable = λ i h. rw (at-tab t.decls (start_of ps m t) (Uint 0) i h) (start-holds ps (classed m t i) (type_at t i));
  laid = record { sequence = tt; room = omega arith };
  plain_arrays = λ e i h. absurd (not-suc-le-zero h);
}

-- numbers of 32 bits: what the machine works out from them is one too
pub numbers-at : (l : List ℕ) (i : ℕ) → Numbers l → get_or l i 0 ≤ most
numbers-at [] i h = omega arith
numbers-at (x ∷ l) zero h = h.0
numbers-at (x ∷ l) (suc i) h = numbers-at l i h.1

pub closed-any : (t : Table) → Closed (λ n. Unit {0}) t
closed-any t = record { none = tt; sum = λ x y h. tt; difference = λ x y h. tt; constant = λ n. tt }

pub closed-numbers : (t : Table) → Numbers t.words → Closed (λ n. n ≤ most) t
closed-numbers t h = record {
  none = omega arith;
  sum = λ x y k. k;
  difference = λ x y k. omega arith;
  constant = λ n. numbers-at t.words (4 * (t.decls + n) + 1) h;
}

module _ (t : Table) (A : Accepted plain t) {F : ℕ → Type 0} (C : Closed F t) where
  -- the plain machine on the table, and the reduced one on its reduction
  pub plain-related : Related plain F (λ i. false) (λ i. false) t t (reduced_table t)
  plain-related = record {
    kinds = record { node = plain-nodes t A; row = plain_rows t A };
    first = table-plain t;
    second = reduces t;
    closed = C;
    itself = λ h. refl;
    uints = λ i e. absurd (false≢true e);
    pointers = λ i e. absurd (false≢true e);
  }

  -- linked states agree
  pub linked-agree : (ps : List ℕ) (extra : Extra) {p r : State} → LinkedNow ps extra plain-related p r → Agree ps t p r
  linked-agree ps extra {p} {r} (ks, N, L) = record {
    here = L.here;
    callers = L.callers;
    variables = L.vars.number;
    variable = L.vars.variable;
    arrays = L.memory.number;
    len = L.memory.len;
    cells = λ i h j k g.
        simp (unreduced (array_at p.arrays i).reduced (array_at r.arrays i).reduced (L.memory.also i h) refl) at (L.memory.equal i h j k g);
  }

pub keeps-tracked : (b c : Bool) → c ≡ true → (if b then c else true) ≡ true
keeps-tracked true c e = e
keeps-tracked false c e = refl

-- a reduced array takes at most one cell more for each place, and there are as many more for each array
abbrev pub for_each_place : List ℕ → Extra
for_each_place ps = record { per_array = length ps; in_all = length ps * most_arrays }

-- the run of a reduction
pub reduced-run : (ps P : List ℕ) (limit : ℕ) (cs : List ℕ)
    → reduced_run ps (reduce P) limit cs ≡ run ps (reduced_table (table_of P)) limit 0 (fresh ps reduced (reduced_table (table_of P))) cs
reduced-run ps P limit cs = ap (λ (t : Table). run ps t limit 0 (fresh ps reduced t) cs) (table-reduce P)

module _ (ps : List ℕ) (h : accepted_places ps ≡ true) (P : List ℕ) (A : Accepted plain (table_of P)) where
  abbrev second : ℕ → List ℕ → Report
  second limit ds = run ps (reduced_table (table_of P)) limit 0 (fresh ps reduced (reduced_table (table_of P))) ds

  ends : (limit : ℕ) {r : Report} → plain_run P limit ≡ r → Ends [] plain (table_of P) [] r
  ends limit f = subst (Ends [] plain (table_of P) []) f
      (never_stuck [] plain (table_of P) A (fresh [] plain (table_of P)) (fresh-can [] plain (table_of P)) limit [])

  module _ {F : ℕ → Type 0} (C : Closed F (table_of P)) where
    abbrev R : Related plain F (λ i. false) (λ i. false) (table_of P) (table_of P) (reduced_table (table_of P))
    R = plain-related (table_of P) A C

    abbrev S : State → State → Type 0
    S = LinkedNow ps (for_each_place ps) R

    -- the choice list hands the second run what it takes
    handed : (limit : ℕ) → HandedRun plain F (for_each_place ps) S (plain_run P) second limit [] (choice_list ps P limit)
    handed limit = fresh-runs ps (for_each_place ps) R (omega (arith, places-few ps h)) (cell-for-each-place ps (places-rise ps h)) limit [] tt

    -- the two runs, where the plain one does not end for want of cells
    pub record PlainAlike (limit : ℕ) (list : List ℕ) : Type 0 where
      pub end : End
      pub steps : ℕ
      pub last : State
      pub last_reduced : State
      pub linked : S last last_reduced
      pub plain_is : plain_run P limit ≡ ended end steps last []
      pub reduced_is : (ds : List ℕ) → second limit (list ++ ds) ≡ ended end steps last_reduced ds

    pub plain-alike : (limit : ℕ) → wants_cells (plain_run P limit) ≡ false → PlainAlike limit (choice_list ps P limit)
    plain-alike limit w = subst (PlainAlike limit) ((handed limit).written (λ l. omega arith) refl) (go (handed limit).alike)
      where
        go : {l : List ℕ} → AlikeRuns (for_each_place ps) S (plain_run P) second limit l → PlainAlike limit l
        go (end-alike e n p r cs L f g) = record {
          end = e;
          steps = n;
          last = p;
          last_reduced = r;
          linked = L;
          plain_is = f ∙ ap (ended e n p) (leaves-plain (ends limit f).2);
          reduced_is = g;
        }
        go (stop-alike e x n p r cs ls L f g) = absurd (x (ends limit f).0)
        go (first-lacks n p cs f) = absurd (true≢false (sym (ap wants_cells f) ∙ w))
        go (second-lacks m j n p r cs ls k L f g q) = absurd (omega arith)
        go (stuck-alike f g) = absurd (ends limit f)

    -- the list's numbers fit
    list-fits : (limit : ℕ) → All F (choice_list ps P limit)
    list-fits limit = subst (All F) ((handed limit).written (λ l. omega arith) refl) ((handed limit).fitting (λ f. ends limit f))

  numbers-are : (l : List ℕ) → All (λ n. n ≤ most) l → Numbers l
  numbers-are [] k = tt
  numbers-are (x ∷ l) k = (k.0, numbers-are l k.1)

  from-alike : (limit : ℕ) (l : List ℕ) → PlainAlike (closed-any (table_of P)) limit l → Matched ps P l (plain_run P limit) (second limit l)
  from-alike limit l B =
      let G : Agree ps (table_of P) B.last B.last_reduced = linked-agree (table_of P) A (closed-any (table_of P)) ps (for_each_place ps) B.linked in
      let q : second limit l ≡ ended B.end B.steps B.last_reduced [] = ap (second limit) (sym (append-nil l)) ∙ B.reduced_is [] in
      record {
        end = B.end;
        steps = B.steps;
        last = B.last;
        last_reduced = B.last_reduced;
        plain_is = B.plain_is;
        reduced_is = q;
        all_used = ap (choices_used l) q ∙ omega arith;
        agree = G;
        tracked_cells = λ c e i j k. G.cells i j c k (keeps-tracked (array_at B.last_reduced.arrays i).reduced (tracked ps c) e);
      }

  full-after : (limit room : ℕ) {w : Report} → FullFrom ps (table_of P) limit 0 [] (fresh [] plain (table_of P)) room w → FullAfter ps P limit room w
  full-after limit room F = record {
    steps = F.steps;
    last = F.last;
    report_is = F.report_is ∙ ap (λ (n : ℕ). ended list_full n F.last (choice_list ps P F.steps)) (omega arith);
    plain_is = F.plain_is ∙ ap (λ (n : ℕ). ended out_of_steps n F.last []) (omega arith);
    within = F.within;
    fits = F.fits;
    next = F.more;
  }

  words_are : Numbers P → Numbers (table_of P).words
  unfolding table_of
  words_are k = k

pub demand-3 : Demand3Holds
demand-3 ps h P A = record {
  plain_ends = never_stuck [] plain (table_of P) A;
  reduced_ends = never_stuck ps reduced (table_of (reduce P)) (reduction-accepted P A);
  plain_fresh = fresh-can [] plain (table_of P);
  reduced_fresh = fresh-can ps reduced (table_of (reduce P));
  matched = λ limit w.
      subst (Matched ps P (choice_list ps P limit) (plain_run P limit)) (sym (reduced-run ps P limit (choice_list ps P limit)))
      (from-alike ps h P A limit (choice_list ps P limit) (plain-alike ps h P A (closed-any (table_of P)) limit w));
  numbers = λ k limit.
      numbers-are ps h P A (choice_list ps P limit) (list-fits ps h P A (closed-numbers (table_of P) (words_are ps h P A k)) limit);
  fits = λ limit room l. write-fits ps (table_of P) A limit 0 [] (fresh [] plain (table_of P)) (fresh-can [] plain (table_of P)) room l;
  full = λ limit room l.
      full-after ps h P A limit room (write-full ps (table_of P) A limit 0 [] (fresh [] plain (table_of P)) (fresh-can [] plain (table_of P)) room l);
}
