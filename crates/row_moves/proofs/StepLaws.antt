-- Laws of a step: the row where the record stands, by its kind.
-- Assumes nothing.
use Prim.Native.Nat.{ℕ, suc, ◌<◌, ◌≤◌, ◌+◌, ◌*◌}
use native.Mathlib.Omega.{arith}
use native.Mathlib.Decide.{dec_le}
use mathlib.Core.Path.{◌≡◌, refl, sym, ap, ◌∙◌}
use mathlib.Core.Logic.{◌≢◌}
use mathlib.Core.List.{List, [], ◌∷◌}
use mathlib.Core.Bool.{Bool, true, false}
use lib.ListN.{get_or, drop, replicate, get_or-replicate, get_or-append, get_or-eq_default}
use borrow.Author.Tests.{lt-ltb, le-ltb}
use Rattle.model.specs.Table.{Row, row_at, row_kind, row_kinds, nest_of, opens_procedure, at_end}
use Rattle.model.specs.Table.Ty.{uint}
use Rattle.model.specs.Table.Row.{skip, assign, store, assert, assume, array, loop, loop_end, reduced_store, reduced_array, class_loop}
use Rattle.model.specs.Table.Row.{procedure, returns, call, no_row}
use Rattle.model.specs.Table.Nest.{opens}
use Rattle.model.specs.Work.{Out}
use Rattle.model.specs.Step.{Move, give_back, row_rule, step_at, step}
use Rattle.prepared.specs.Own.{places_of, rows_of, own_table}
use Rattle.machine.specs.declared.Failure.TheVariants.{Stuck}
use Rattle.evaluators.specs.declared.answers.Answer.{Answer}
use Rattle.evaluators.specs.CodeAnswers.{Answers, operand}
use Rattle.calls.specs.Stack.{depth_of, callers_of}
use Rattle.machine.specs.declared.Machine.{Machine}
use Rattle.machine.specs.declared.Move.TheVariants.{Goes, Returns}
use Rattle.machine.specs.declared.Worked.{Worked}
use Rattle.machine.specs.declared.Worked.TheVariants.{Moves, Not}
use Rattle.machine.specs.View.{own_state}
use Rattle.machine.specs.CodeMoves.{RowWorks, StepWorks, Within, CallsFit, loop_row, LoopFits, RepeatFits}
use Rattle.row_kinds.specs.CodeRows.{called_of, returned_of}
use Rattle.row_kinds.proofs.PutLaws.{works-same, works-stuck, lends}
use Rattle.row_kinds.proofs.WriteLaws.{works-goes}
use Rattle.row_kinds.proofs.LoopLaws.{kind-read}
use Rattle.row_kinds.proofs.CallingLaws.{back-works, returns-works, calls-works}

-- what stands before a row ends there where it is a 43
pub ends_by : (own : List ℕ) (r : ℕ) {k : ℕ} → r < rows_of own → k ≡ get_or own (4 * (34 + 1024 + r) + 0) 0
    → at_end (own_table own) r ≡ opens_procedure (row_kind k)
unfolding at_end
ends_by own r here ek = rw (lt-ltb r (rows_of own) here) (ap (λ (j : ℕ). opens_procedure (row_kind j)) (sym (kind-read own r ek)))

-- ---- the row, which is there: k, a, b and c are its words, as the code reads them
module _ (own stack : List ℕ) (m : Machine) (cells l : List ℕ) (at : ℕ) (here : m.row < rows_of own) {k a b c : ℕ}
    (ek : k ≡ get_or own (4 * (34 + 1024 + m.row) + 0) 0)
    (ea : a ≡ (row_at (own_table own) m.row).a) (eb : b ≡ (row_at (own_table own) m.row).b) (ec : c ≡ (row_at (own_table own) m.row).c) where
  abbrev ruled : Row → ℕ → ℕ → ℕ → Out Move
  ruled r a b c = row_rule (places_of own) (own_table own) (own_state own stack m cells) m.row r a b c (drop at l)

  abbrev stepped : Out Move
  stepped = step (places_of own) (own_table own) (own_state own stack m cells) (drop at l)

  pub by_kind : (r : Row) → row_kind k ≡ r → opens_procedure r ≡ false → ruled r a b c ≡ stepped
  unfolding step step_at
  by_kind r e o = rw (ends_by own m.row here ek ∙ ap opens_procedure e ∙ o) (rw (← e, kind-read own m.row ek, ea, eb, ec))

  by_end : (r : Row) → row_kind k ≡ r → opens_procedure r ≡ true
      → give_back (own_table own) (own_state own stack m cells) (callers_of (own_table own) stack) 0 (drop at l) ≡ stepped
  unfolding step
  by_end r e o = rw (ends_by own m.row here ek ∙ ap opens_procedure e ∙ o)

  -- a row that goes by its own rule
  pub step_of : (r : Row) {z : Worked} → row_kind k ≡ r → opens_procedure r ≡ false → RowWorks own stack m cells l r a b c (drop at l) z
      → StepWorks own stack m cells l at z
  step_of r e o h = works-same h (by_kind r e o)

  pub step_skip : row_kind k ≡ skip → StepWorks own stack m cells l at (Moves Goes at)
  unfolding row_rule
  step_skip e = step_of skip e refl (works-goes refl)

  pub step-none : row_kind k ≡ no_row → StepWorks own stack m cells l at (Not Stuck at)
  unfolding row_rule
  step-none e = works-same (works-stuck refl) (by_kind no_row e refl)

  -- 43, 44 and 45
  module _ (map : List ℕ) (calling : CallsFit own map stack m cells) where
    pub step-ends : row_kind k ≡ procedure → StepWorks own stack m cells l at (Moves (Returns 0) at)
    step-ends e =
        let q = by_end procedure e refl in
        works-same (back-works own map stack m cells l calling 0 at (λ z. calling.goes (drop at l) (sym q ∙ z))) q

    pub step-returns : row_kind k ≡ returns → (x : Answer) → Answers uint l x (operand (lends own m cells) uint 1024 a (drop at l))
        → StepWorks own stack m cells l at (returned_of x)
    step-returns e x p =
        let q = by_kind returns e refl in
        works-same (returns-works own map stack m cells l calling a b c at x p (λ z. calling.goes (drop at l) (sym q ∙ z))) q

    pub step-calls : row_kind k ≡ call → Within own m cells → (depth j : ℕ) → depth ≡ depth_of stack → j ≡ a → (x : Answer)
        → Answers uint l x (operand (lends own m cells) uint 1024 b (drop at l)) → StepWorks own stack m cells l at (called_of depth j x)
    step-calls e fits depth j ed ej x p =
        let q = by_kind call e refl in
        let kind = ap row_kind (sym (kind-read own m.row ek)) ∙ e in
        rw ej (works-same (calls-works own map stack m cells l calling kind fits depth a b c at ed ea x p (λ z. calling.goes (drop at l) (sym q ∙ z))) q)

  -- what rows 38 and 42 ask for
  pub step-opens : (class : Bool) → row_kind k ≡ loop_row class → Within own m cells → LoopFits own m.numbers m.row m.row m.«open»
  step-opens class e w = record {
    decls = w.decls;
    rows = w.rows;
    here = omega arith;
    row = omega arith;
    depth = w.inner here (ap (λ (j : ℕ). nest_of (row_kind j)) (sym (kind-read own m.row ek)) ∙ ap nest_of e ∙ go class);
    numbers = w.sized.numbers;
    bools = w.bools;
  }
    where
      go : (d : Bool) → nest_of (loop_row d) ≡ opens
      go true = refl
      go false = refl

-- past the last row
pub step_past : (own map stack : List ℕ) (m : Machine) (cells l : List ℕ) (at : ℕ) → CallsFit own map stack m cells → rows_of own ≤ m.row
    → StepWorks own stack m cells l at (Moves (Returns 0) at)
unfolding step at_end
step_past own map stack m cells l at calling h =
    let q : give_back (own_table own) (own_state own stack m cells) (callers_of (own_table own) stack) 0 (drop at l)
    ≡ step (places_of own) (own_table own) (own_state own stack m cells) (drop at l) = rw (le-ltb m.row (rows_of own) h) in
    works-same (back-works own map stack m cells l calling 0 at (λ z. calling.goes (drop at l) (sym q ∙ z))) q

-- what row 39 asks for
pub step-closes : (own : List ℕ) (m : Machine) (cells : List ℕ) → m.row < rows_of own → Within own m cells
    → RepeatFits own m.numbers m.loop_rows m.starts m.ends m.row m.«open»
step-closes own m cells low w = record {
  words = w.words;
  decls = w.decls;
  rows = w.rows;
  here = omega arith;
  loops = w.loops;
  numbers = w.sized.numbers;
  loop_rows = w.sized.rows;
  starts = w.sized.starts;
  ends = w.sized.ends;
  bools = w.bools;
}
