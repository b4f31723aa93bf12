-- What the choice writer says: by the verdict of its checks, and by what its loop hands back.
-- Assumes nothing.
use mathlib.Core.Path.{◌≡◌, refl, sym, ap, ◌∙◌, subst}
use Prim.Native.Nat.{ℕ, ◌≤◌, ◌<◌}
use mathlib.Core.Bool.{false}
use mathlib.Core.List.{List, [], ◌++◌}
use lib.ListN.{length, take, drop, replicate, take-append-drop}
use lib.Seq.{length-take-le}
use Rattle.choices.specs.Ends.{report_of}
use Rattle.runs.specs.CodeSteps.{Lends}
use Rattle.std.specs.Prelude.{Ok, Err}
use Rattle.table.specs.declared.verdict.Refusal.{Refusal}
use Rattle.table.specs.Verdict.{Verdict, refused_as}
use Rattle.table.specs.Verdict.Verdict.{Passes, Refused}
use Rattle.table.specs.Checks.{table_check, and_then, size_check}
use Rattle.line_checks.specs.Rules.{depth, most_depth}
use Rattle.table.proofs.Passing.{passing, both-pass, node-depth}
use Rattle.model.specs.Table.{Table, table_of}
use Rattle.model.specs.Class.{pair}
use Rattle.model.specs.State.{State, cell_count, fresh}
use Rattle.model.specs.State.MachineKind.{plain}
use Rattle.model.specs.Step.{Report}
use Rattle.model.specs.Writer.{writer}
use Rattle.model.specs.Demand3.{writer_run}
use Rattle.reduction.specs.Reduction.{places_check}
use Rattle.machine.specs.declared.Record.{Record}
use Rattle.prepared.specs.declared.Frame.{Frame}
use Rattle.prepared.specs.View.{places, kind_of, table_for}
use Rattle.machine.specs.View.{state_of}
use Rattle.machine.specs.CodeFresh.{fresh_machine, fresh_record}
use Rattle.runs.specs.Checks.{frame_of, run_checks}
use Rattle.runs.proofs.LendLaws.{lends, ready-fresh, state-fresh}
use Rattle.runs.specs.declared.Ran.{Ran}
use Rattle.choices.specs.CodeSteps.{Begins, Writes, WriterWrites}
use Rattle.choices.specs.Checks.{writer_checks}
use Rattle.choices.specs.Answers.{said_of, wrote_said, writer_said}
use Rattle.choices.specs.Answers.Said.{writes}

-- ---- the checks, one after the other
module _ (ps t : List ℕ) (size : ℕ) where
  pub writer-table : {v : Verdict} {n p : ℕ} → v ≡ table_check plain t → v ≡ Refused n p → v ≡ writer_checks ps t size
  unfolding writer_checks
  writer-table e h = rw (← e, h)

  module _ {v : Verdict} (e : v ≡ table_check plain t) (h : v ≡ Passes) {w : Verdict} (d : w ≡ places_check ps) where
    pub writer-places : {n p : ℕ} → w ≡ Refused n p → w ≡ writer_checks ps t size
    unfolding writer_checks
    writer-places k = rw (← e, h, ← d, k)

    pub writer-size : w ≡ Passes → {x : Verdict} → x ≡ size_check size 4096 → x ≡ writer_checks ps t size
    unfolding writer_checks
    writer-size k g = g ∙ rw (← e, h, ← d, k)

  table-passes : writer_checks ps t size ≡ Passes → table_check plain t ≡ Passes
  unfolding writer_checks
  table-passes e = (both-pass (table_check plain t) (and_then (places_check ps) (size_check size (cell_count plain))) e).0

  -- what passes for the writer passes for the plain machine
  plain_passes : writer_checks ps t size ≡ Passes → run_checks plain [] t size ≡ Passes
  unfolding writer_checks run_checks
  plain_passes e =
      let a = both-pass (table_check plain t) (and_then (places_check ps) (size_check size (cell_count plain))) e in
      let b = both-pass (places_check ps) (size_check size (cell_count plain)) a.1 in
      rw (a.0, b.1)

-- ---- a report, its numbers and the rest of the list
written-said : (t : List ℕ) (f : Frame) (r : Ran) (cells list lent : List ℕ) (report : Report) → Writes t f r cells list lent report
    → writes (report_of t f r cells list) r.used list ≡ wrote_said lent report
written-said t f r cells list lent report W =
    let n : length (take r.used list) ≡ r.used = length-take-le r.used list W.within in
    let l : list ≡ take r.used list ++ drop (length (take r.used list)) lent
    = sym (take-append-drop r.used list) ∙ ap (λ (x : List ℕ). take r.used list ++ x) W.kept
    ∙ ap (λ (k : ℕ). take r.used list ++ drop k lent) (sym n) in
    ap (λ (k : ℕ). writes (report_of t f r cells list) k list) (sym n)
    ∙ ap (writes (report_of t f r cells list) (length (take r.used list))) l
    ∙ ap (wrote_said lent) W.report

-- ---- the start
module _ (t cells₀ : List ℕ) (c1 c2 : ℕ) {v : Verdict} (q : v ≡ writer_checks (pair c1 c2) t (length cells₀)) (p : v ≡ Passes) {f : Frame}
    (i : f ≡ frame_of t false c1 c2) where
  passed : run_checks plain [] t (length cells₀) ≡ Passes
  passed = plain_passes (pair c1 c2) t (length cells₀) (sym q ∙ p)

  pub lent : Lends t f cells₀
  lent = lends t cells₀ false c1 c2 (sym passed) refl i

  shallow : (n : ℕ) → n < f.counts.nodes → depth (table_for t f) n ≤ most_depth
  shallow =
      subst (λ (T : Table). (n : ℕ) → n < T.nodes → depth T n ≤ most_depth) (sym lent.framed)
      (node-depth plain t (passing plain t (table-passes (pair c1 c2) t (length cells₀) (sym q ∙ p))))

  -- a fresh record, in cells that are all zero
  module _ {m : Record} {cells : List ℕ} (begun : m ≡ fresh_record t f) (zeros : cells ≡ replicate (length cells₀) 0) where
    pub begins : Begins t f m cells
    unfolding fresh_machine
    begins = record {
      ready = ready-fresh t f cells₀ lent m cells begun zeros;
      plain = ap (λ (f : Frame). f.classes) i;
      shallow = shallow;
      none = ap (λ (m : Record). m.machine.count) begun;
    }

    fresh-is : state_of t f m cells ≡ fresh [] plain (table_of t)
    unfolding places
    fresh-is =
        state-fresh t f cells₀ lent m cells begun zeros
        ∙ subst (λ (g : Frame). fresh (places g) (kind_of g) (table_for t f) ≡ fresh [] plain (table_for t f)) (sym i) refl
        ∙ ap (λ (T : Table). fresh [] plain T) lent.framed

    writer-is : (limit room : ℕ) → writer (pair f.c1 f.c2) (table_for t f) limit 0 [] (state_of t f m cells) room ≡ writer_run (pair c1 c2) t limit room
    writer-is limit room =
        ap (λ (s : State). writer (pair f.c1 f.c2) (table_for t f) limit 0 [] s room) fresh-is
        ∙ ap (λ (T : Table). writer (pair f.c1 f.c2) T limit 0 [] (fresh [] plain (table_of t)) room) lent.framed
        ∙ ap (λ (g : Frame). writer (pair g.c1 g.c2) (table_of t) limit 0 [] (fresh [] plain (table_of t)) room) i

    -- what the loop handed back
    pub said-writes : (list₀ : List ℕ) (limit : ℕ) {list cells' : List ℕ} {r : Ran} → WriterWrites t f m cells list₀ limit r cells' list
        → said_of t (frame_of t false c1 c2) (Ok r) cells' list ≡ writer_said (pair c1 c2) t cells₀ list₀ limit
    unfolding writer_said
    said-writes list₀ limit {list} {cells'} {r} W =
        let here : said_of t (frame_of t false c1 c2) (Ok r) cells' list ≡ writes (report_of t f r cells' list) r.used list = rw i in
        here ∙ written-said t f r cells' list list₀ _ W ∙ ap (wrote_said list₀) (writer-is limit (length list₀)) ∙ rw (← q, p)

pub said-refused : (t cells list : List ℕ) (c1 c2 limit : ℕ) (e : Refusal) → refused_as e ≡ writer_checks (pair c1 c2) t (length cells)
    → said_of t (frame_of t false c1 c2) (Err e) cells list ≡ writer_said (pair c1 c2) t cells list limit
unfolding writer_said
said-refused t cells list c1 c2 limit e q = rw (← q)
