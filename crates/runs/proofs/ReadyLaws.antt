-- The loop of a run: what is left of the run is all of it, from where the record stands.
-- Assumes nothing.
use mathlib.Core.Path.{◌≡◌, refl, sym, ap, ◌∙◌, subst, fun_ext}
use Prim.Native.Nat.{ℕ, zero, suc, ◌+◌, ◌-◌, ◌*◌, ◌^◌, ◌≤◌, ◌<◌}
use native.Mathlib.Omega.{arith as numbers}
use mathlib.Core.Bool.{true, false}
use mathlib.Core.List.{List, [], ◌∷◌}
use lib.ListN.{length, drop, get_or}
use lib.Dec.{ltb}
use Rattle.model.specs.Work.{Out}
use Rattle.model.specs.Work.Out.{gives}
use Rattle.lists.specs.Tab.{tab}
use Rattle.std.specs.Prelude.{if◌then◌else◌}
use Rattle.model.specs.Table.{Line, Stretch, row_kind, opens_procedure, at_end, locals_at}
use Rattle.model.specs.State.{State, Value, Caller, caller, position}
use Rattle.model.specs.Step.{Move as ModelMove, Report, after, finished, run, step}
use Rattle.model.specs.Step.Move.{to}
use Rattle.model.specs.Step.End.{done}
use Rattle.model.specs.Step.Report.{ended}
use Rattle.model.specs.Demand3.{Numbers}
use Rattle.prepared.specs.declared.Frame.{Frame}
use Rattle.prepared.specs.View.{places, kind_of, table_for, vars_of}
use Rattle.prepared.specs.Own.{Own, own_table, places_of}
use Rattle.prepared.specs.Same.{Same}
use Rattle.prepared.proofs.SameLaws.{own_same, own-limits, own-nest, same-form}
use Rattle.calls.specs.Stack.{loops_of, caller_words, depth_of, part, caller_at, callers_of}
use Rattle.evaluators.specs.CodeAnswers.{failed}
use Rattle.machine.specs.declared.Failure.TheVariants.{Fails, BadChoice, NoChoice, Stuck}
use Rattle.machine.specs.declared.Machine.{Machine}
use Rattle.machine.specs.declared.Move.{Move}
use Rattle.machine.specs.declared.End.TheVariants as Code
use Rattle.machine.specs.declared.Worked.{Worked}
use Rattle.machine.specs.declared.Worked.TheVariants.{Moves, Ends, Not}
use Rattle.machine.specs.View.{end_of, state_by, state_of, own_state}
use Rattle.machine.specs.CodeMoves.{state_after, move_out, Can, CanDo, StepWorks, Sized, Within}
use Rattle.runs.specs.declared.Ran.{Ran}
use Rattle.runs.specs.Ends.{report_of}
use Rattle.runs.specs.CodeSteps.{Ready, kept, ran, stopped_of, Reports}
use Rattle.records.specs.RecordPromises.{CanBe}
use Rattle.runs.proofs.RunLaws.{going_on, never, run-done, run_out, run-next}
use Rattle.runs.proofs.GoingLaws.{arrays-most, bools-small, loops-most, loops-room}

-- a list each of whose words is one of 32 bits, from place k on
pub numbers-left : (k : ℕ) (l : List ℕ) → ((i : ℕ) → get_or l i 0 < 2 ^ 32) → Numbers (drop k l)
numbers-left zero [] h = tt
numbers-left zero (x ∷ l) h = (omega (numbers, h 0), numbers-left zero l (λ i. h (suc i)))
numbers-left (suc k) [] h = tt
numbers-left (suc k) (x ∷ l) h = numbers-left k l (λ i. h (suc i))

-- a caller, by the locals of each row
abbrev caller_by : (ℕ → Stretch) → List ℕ → ℕ → Caller
caller_by locals_at stack at =
    caller (position (get_or stack at 0)
    (loops_of (get_or stack (at + 1) 0) (part stack (at + 6) 8) (part stack (at + 14) 8) (part stack (at + 22) 8)))
    (part (part stack (at + 2) 4) 0 (locals_at (get_or stack at 0)).count)

-- past its end a list has nothing left
pub drop_past : (l : List ℕ) (i : ℕ) → length l ≤ i → drop i l ≡ []
drop_past [] zero h = refl
drop_past [] (suc i) h = refl
drop_past (x ∷ l) zero h = absurd (omega numbers)
drop_past (x ∷ l) (suc i) h = drop_past l i (omega numbers)

-- ---- the run's own copy of the table, for a frame and a record from which it is ready to go on
module _ (t : List ℕ) (f : Frame) (own : List ℕ) (O : Own t f own) (m : Machine) (stack cells : List ℕ) (R : Ready t f (kept m stack) cells) where
  pub same : Same t f own
  same = own_same t f own R.laid (kind_of f) R.accepted O

  -- the bounds of a row
  pub within : Sized m → Within own m cells
  within sized =
      let limits = own-limits t f own R.laid O in
      record {
        words = O.size;
        sized = sized;
        decls = limits.0;
        rows = limits.1;
        row = omega (numbers, R.can.here.row, O.rows);
        count = arrays-most t f m stack cells (places f) (kind_of f) R.can R.regular;
        loops = loops-most t f m stack cells (places f) (kind_of f) R.can R.few;
        inner = λ low e. loops-room t f m stack cells (places f) (kind_of f) R.can R.few (omega (numbers, low, O.rows))
            (sym (own-nest t f own R.laid O m.row) ∙ e);
        room = R.room;
        bools = record {
          small = λ i h e.
              let h' : i < f.counts.decls = omega (numbers, h, O.decls) in
              bools-small t f m stack cells (places f) (kind_of f) R.can refl i h' (sym (same-form t f own R.laid O i h') ∙ e);
        };
      }

  pub caller-same : (stack' : List ℕ) (at : ℕ) → caller_at (own_table own) stack' at ≡ caller_at (table_for t f) stack' at
  unfolding caller_at
  caller-same stack' at = ap (λ (l : ℕ → Stretch). caller_by l stack' at) (fun_ext same.locals)

  callers-same : (stack' : List ℕ) → callers_of (own_table own) stack' ≡ callers_of (table_for t f) stack'
  unfolding callers_of
  callers-same stack' = ap (λ (c : ℕ → Caller). tab (depth_of stack') (λ i. c (caller_words * (depth_of stack' - suc i)))) (fun_ext (caller-same stack'))

  pub state-same : (m' : Machine) (stack' cells' : List ℕ) → own_state own stack' m' cells' ≡ state_of t f (kept m' stack') cells'
  state-same m' stack' cells' =
      ap (λ (vs : List Value). state_by vs (callers_of (own_table own) stack') m' cells') (same.vars m'.numbers m'.bases)
      ∙ ap (λ (cs : List Caller). state_by (vars_of t f m'.numbers m'.bases) cs m' cells') (callers-same stack')

  pub step_same : (cs : List ℕ)
      → step (places_of own) (own_table own) (own_state own stack m cells) cs ≡ step (places f) (table_for t f) (state_of t f (kept m stack) cells) cs
  step_same cs =
      ap (λ (ps : List ℕ). step ps (own_table own) (own_state own stack m cells) cs) same.places
      ∙ ap (λ (s : State). step (places f) (own_table own) s cs) (state-same m stack cells)
      ∙ same.step (places f) (state_of t f (kept m stack) cells) cs

  -- ---- where a run is done, and a whole run
  end_same : (r : ℕ) → at_end (own_table own) r ≡ at_end (table_for t f) r
  unfolding at_end
  end_same r = rw O.rows (ap (λ (l : Line). if ltb r f.counts.rows then opens_procedure (row_kind l.kind) else true) (O.row r))

  pub finished-same : (s : State) → finished (own_table own) s ≡ finished (table_for t f) s
  unfolding finished
  finished-same s = rw (end_same s.here.row)

  run-same : (k n : ℕ) (s : State) (cs : List ℕ) → run (places f) (own_table own) k n s cs ≡ run (places f) (table_for t f) k n s cs
  unfolding run
  run-same zero n s cs = rw (finished-same s)
  run-same (suc k) n s cs =
      rw (finished-same s, same.step (places f) s cs)
      (ap (λ (go : State → List ℕ → Report). if finished (table_for t f) s then ended done n s cs else after n s cs (step (places f) (table_for t f) s cs) go)
      (fun_ext λ s'. fun_ext λ cs'. run-same k (suc n) s' cs'))

  pub whole_same : (limit : ℕ) (l : List ℕ)
      → run (places_of own) (own_table own) limit 0 (own_state own stack m cells) l ≡ run (places f) (table_for t f) limit 0
      (state_of t f (kept m stack) cells) l
  whole_same limit l =
      ap (λ (ps : List ℕ). run ps (own_table own) limit 0 (own_state own stack m cells) l) same.places
      ∙ ap (λ (s : State). run (places f) (own_table own) limit 0 s l) (state-same m stack cells)
      ∙ run-same limit 0 (state_of t f (kept m stack) cells) l

  -- ---- what the row comes to is within its bounds
  pub step-bounds : (l : List ℕ) (at : ℕ) {w : Worked} {x : Move} {nx : ℕ} → StepWorks own stack m cells l at w → w ≡ Moves x nx
      → (m.row ≤ 256) × Can own stack m (length cells) x
  unfolding CanDo
  step-bounds l at S q =
      let limits = own-limits t f own R.laid O in
      (omega (numbers, R.can.here.row, limits.1, O.rows), subst (CanDo own stack m (length cells)) q S.can)

-- ---- where a run on the copy stands after some steps, of the run of limit steps from m₀, stack₀ and cells₀. The frame is that of the copy
pub record Left (t own l : List ℕ) (limit : ℕ) (m₀ : Machine) (stack₀ cells₀ : List ℕ) (m : Machine) (stack cells : List ℕ) (at steps : ℕ) : Type 0 where
  pub frame : Frame
  pub copied : Own t frame own
  pub ready : Ready t frame (kept m stack) cells
  pub sized : Sized m
  pub upto : steps ≤ limit
  pub same : run (places_of own) (own_table own) (limit - steps) steps (own_state own stack m cells) (drop at l)
      ≡ run (places_of own) (own_table own) limit 0 (own_state own stack₀ m₀ cells₀) l

module _ (t own l : List ℕ) (limit : ℕ) where
  pub left-all : (f : Frame) (m : Machine) (stack cells : List ℕ) → Own t f own → Ready t f (kept m stack) cells → Sized m
      → Left t own l limit m stack cells m stack cells 0 0
  left-all f m stack cells O R Z = record {
    frame = f;
    copied = O;
    ready = R;
    sized = Z;
    upto = omega numbers;
    same = ap (λ (k : ℕ). run (places_of own) (own_table own) k 0 (own_state own stack m cells) l) (omega numbers);
  }

  module _ (m₀ : Machine) (stack₀ cells₀ : List ℕ) (m : Machine) (stack cells : List ℕ) (at steps : ℕ)
      (L : Left t own l limit m₀ stack₀ cells₀ m stack cells at steps) where
    abbrev here : State
    here = own_state own stack m cells

    abbrev all-of-it : Report
    all-of-it = run (places_of own) (own_table own) limit 0 (own_state own stack₀ m₀ cells₀) l

    -- what is handed back, on the copy
    abbrev handed : Ran → Report
    handed r = ended (end_of r.end) r.steps (own_state own r.«record».stack r.«record».machine cells) (drop r.used l)

    pub left-done : finished (own_table own) here ≡ true → (r : Ran) → r ≡ ran Code.Done steps at m stack → handed r ≡ all-of-it
    left-done h r q = ap handed q ∙ sym (run-done (places_of own) (own_table own) steps here (drop at l) (limit - steps) h) ∙ L.same

    module _ (going : finished (own_table own) here ≡ false) where
      pub left_out : steps ≡ limit → (r : Ran) → r ≡ ran Code.OutOfSteps steps at m stack → handed r ≡ all-of-it
      left_out e r q =
          ap handed q ∙ sym (run_out (places_of own) (own_table own) steps here (drop at l) going)
          ∙ ap (λ (k : ℕ). run (places_of own) (own_table own) k steps here (drop at l)) (let z : 0 ≡ limit - steps = omega (numbers, e) in z) ∙ L.same

      module _ (u : steps < limit) {w : Worked} (S : StepWorks own stack m cells l at w) where
        by-step : {o : Out ModelMove} → step (places_of own) (own_table own) here (drop at l) ≡ o
            → after steps here (drop at l) o (run (places_of own) (own_table own) (limit - suc steps) (suc steps)) ≡ all-of-it
        by-step e =
            sym (run-next (places_of own) (own_table own) steps here (drop at l) going (limit - suc steps) e)
            ∙ ap (λ (k : ℕ). run (places_of own) (own_table own) k steps here (drop at l))
            (let z : suc (limit - suc steps) ≡ limit - steps = omega (numbers, u) in z) ∙ L.same

        can-be : CanBe (kind_of L.frame) (places L.frame) (table_for t L.frame) (state_of t L.frame (kept m stack) cells)
        can-be = record { can = L.ready.can; regular = L.ready.regular }

        going-table : finished (table_for t L.frame) (state_of t L.frame (kept m stack) cells) ≡ false
        going-table =
            sym (finished-same t L.frame own L.copied m stack cells L.ready (state_of t L.frame (kept m stack) cells))
            ∙ ap (finished (own_table own)) (sym (state-same t L.frame own L.copied m stack cells L.ready m stack cells)) ∙ going

        pub left-again : Numbers (drop at l) → {x : Move} {nx : ℕ} → w ≡ Moves x nx → (m' : Machine) (stack' cells' : List ℕ)
            → own_state own stack' m' cells' ≡ state_after own stack m cells x → Sized m' → length cells' ≡ length cells
            → Left t own l limit m₀ stack₀ cells₀ m' stack' cells' nx (steps + 1)
        unfolding move_out
        left-again nl {x} {nx} q m' stack' cells' e Z n =
            let f = L.frame in
            let O = L.copied in
            let to-there : step (places_of own) (own_table own) here (drop at l) ≡ gives (to (own_state own stack' m' cells')) (drop nx l) =
            sym S.said ∙ ap (move_out own stack m cells l) q ∙ ap (λ (s : State). gives (to s) (drop nx l)) (sym e) in
            let there = sym (step_same t f own O m stack cells L.ready (drop at l)) ∙ to-there
            ∙ ap (λ (s : State). gives (to s) (drop nx l)) (state-same t f own O m stack cells L.ready m' stack' cells') in
            let G = going_on (places f) (kind_of f) (table_for t f) L.ready.accepted (state_of t f (kept m stack) cells) can-be going-table (drop at l) nl
            (state_of t f (kept m' stack') cells') (drop nx l) there in
            let s : suc steps ≡ steps + 1 = omega numbers in
            record {
              frame = f;
              copied = O;
              ready = record {
                accepted = L.ready.accepted;
                laid = L.ready.laid;
                few = L.ready.few;
                can = G.can;
                regular = G.regular;
                room = omega (numbers, n, L.ready.room);
              };
              sized = Z;
              upto = omega (numbers, u);
              same = subst (λ (n : ℕ). run (places_of own) (own_table own) (limit - n) n (own_state own stack' m' cells') (drop nx l) ≡ all-of-it) s
                  (by-step to-there);
            }

        pub left-stop : ((x : Move) (nx : ℕ) → w ≡ Moves x nx → ⊥) → (r : Ran) → r ≡ stopped_of w steps at m stack → handed r ≡ all-of-it
        unfolding move_out failed
        left-stop h r q = ap handed q ∙ go w h (sym S.said)
          where
            go : (w : Worked) → ((x : Move) (nx : ℕ) → w ≡ Moves x nx → ⊥)
                → step (places_of own) (own_table own) here (drop at l) ≡ move_out own stack m cells l w
                → handed (stopped_of w steps at m stack) ≡ all-of-it
            go (Moves x nx) h e = absurd (h x nx refl)
            go (Ends end nx) h e = by-step e
            go (Not (Fails why) nx) h e = by-step e
            go (Not BadChoice nx) h e = by-step e
            go (Not NoChoice nx) h e = by-step e
            go (Not Stuck nx) h e =
                absurd (never (places L.frame) (kind_of L.frame) (table_for t L.frame) L.ready.accepted
                (state_of t L.frame (kept m stack) cells) can-be going-table (drop at l)
                (sym (step_same t L.frame own L.copied m stack cells L.ready (drop at l)) ∙ e))

-- what is handed back on the copy is what the table's run reports
pub reports-own : (t : List ℕ) (f : Frame) (own : List ℕ) (O : Own t f own) (m₀ : Machine) (stack₀ cells₀ : List ℕ) (R : Ready t f (kept m₀ stack₀) cells₀)
    (l : List ℕ) (limit : ℕ) (r : Ran) (cells : List ℕ)
    → ended (end_of r.end) r.steps (own_state own r.«record».stack r.«record».machine cells) (drop r.used l)
    ≡ run (places_of own) (own_table own) limit 0 (own_state own stack₀ m₀ cells₀) l
    → report_of t f l r cells ≡ run (places f) (table_for t f) limit 0 (state_of t f (kept m₀ stack₀) cells₀) l
reports-own t f own O m₀ stack₀ cells₀ R l limit r cells e =
    ap (λ (s : State). ended (end_of r.end) r.steps s (drop r.used l))
    (sym (state-same t f own O m₀ stack₀ cells₀ R r.«record».machine r.«record».stack cells))
    ∙ e ∙ whole_same t f own O m₀ stack₀ cells₀ R limit l

-- the choices used are counted within the list
pub counted : (t : List ℕ) (f : Frame) (l : List ℕ) (r : Ran) (cells : List ℕ) {report : Report} → report_of t f l r cells ≡ report
    → (u : ℕ) → (u ≤ length l) × (drop u l ≡ drop r.used l)
    → Reports t f l (ran r.end r.steps u r.«record».machine r.«record».stack) cells report
counted t f l r cells e u h =
    record { report = ap (ended (end_of r.end) r.steps (state_of t f r.«record» cells)) h.1 ∙ e; within = h.0 }
