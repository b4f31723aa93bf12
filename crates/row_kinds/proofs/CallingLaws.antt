-- Laws of rows 44 and 45, and of a return at the end of a procedure: where the model's step is not stuck it is the call, or the return.
-- Assumes nothing.
use Prim.Native.Nat.{ℕ, zero, suc, ◌<◌, ◌≤◌}
use native.Mathlib.Omega.{arith}
use mathlib.Core.Path.{◌≡◌, refl, sym, ap, ◌∙◌}
use mathlib.Core.Logic.{◌≢◌}
use mathlib.Core.List.{List, [], ◌∷◌}
use mathlib.Core.Bool.{Bool, true, false, ◌&&◌}
use lib.ListN.{length, get_or, drop}
use lib.Dec.{ltb, leb, eqb}
use borrow.Author.Tests.{ltb-true, leb-false}
use Rattle.std.specs.Prelude.{if◌then◌else◌}
use Rattle.lists.specs.Tab.{tab, listed}
use Rattle.lists.proofs.TabLaws.{length-tab}
use Rattle.model.specs.Table.{Table, row_at, row_kind, opening, locals_at}
use Rattle.model.specs.Table.Row.{returns, call}
use Rattle.model.specs.Table.Ty.{uint}
use Rattle.model.specs.Work.{Out, Work, next, give, wrong}
use Rattle.model.specs.Work.Out.{gives, stuck}
use Rattle.model.specs.State.{Value, position, Caller, caller, State, form_of}
use Rattle.model.specs.State.Value.{Uint}
use Rattle.model.specs.Step.{Move, uints_in, numbers_in, handed_over, hand_over, with_work, argument, call_procedure, give_back}
use Rattle.model.specs.Step.{past, set_var, with_var, row_rule}
use Rattle.model.specs.Step.Move.{to}
use Rattle.prepared.specs.Own.{places_of, own_table}
use Rattle.evaluators.specs.declared.answers.Answer.{Answer}
use Rattle.evaluators.specs.declared.answers.Answer.TheVariants.{Bool as ABool, Uint as AUint, Pointer as APointer, Not as NoValue}
use Rattle.evaluators.specs.CodeAnswers.{out_of, OfType, Answers, operand}
use Rattle.calls.specs.Stack.{depth_of, callers_of}
use Rattle.machine.specs.declared.Machine.{Machine}
use Rattle.machine.specs.declared.Move.TheVariants.{Calls, Returns}
use Rattle.machine.specs.declared.End.TheVariants.{TooDeep}
use Rattle.machine.specs.declared.Worked.{Worked}
use Rattle.machine.specs.declared.Worked.TheVariants.{Moves, Ends}
use Rattle.machine.specs.View.{own_state}
use Rattle.machine.specs.CodeMoves.{called_by, returned_by, state_after, move_out, CanDo, Works, RowWorks, Within, CallsFit}
use Rattle.row_kinds.specs.CodeRows.{on_uint, called_of, returned_of}
use Rattle.row_kinds.proofs.PutLaws.{works-same, lost-not, lends}

-- as many callers as the stack says
pub depth-length : (t : Table) (stack : List ℕ) → length (callers_of t stack) ≡ depth_of stack
unfolding callers_of
depth-length t stack = length-tab (depth_of stack) _

-- ---- what is not stuck passes its test, and goes on
test-goes : {A B : Type 0} (b : Bool) (v : A) (k : A → Work B) (cs : List ℕ) → next ((if◌then◌else◌ {A = Work A} b (give v) wrong) cs) k ≢ stuck
    → (b ≡ true) × (next ((if◌then◌else◌ {A = Work A} b (give v) wrong) cs) k ≡ k v cs)
test-goes true v k cs h = (refl, refl)
test-goes false v k cs h = absurd (h refl)

-- the number goes to a variable that holds a uint
abbrev onward : State → Work Move
onward s = give (to (past s))

set-goes : (z : State) (a x : ℕ) (cs : List ℕ) → next (set_var z a (Uint x) cs) onward ≢ stuck
    → next (set_var z a (Uint x) cs) onward ≡ gives (to (past (with_var z a (Uint x)))) cs
set-goes z a x cs h = go (ltb a (length z.vars)) h
  where
    old : Value
    old = get_or z.vars a (Uint 0)

    tested : Value → Work State
    tested v = if eqb 2 (form_of v) then give (with_var z a (Uint x)) else wrong

    go : (b : Bool) → next (next ((if◌then◌else◌ {A = Work Value} b (give old) wrong) cs) tested) onward ≢ stuck
        → next (next ((if◌then◌else◌ {A = Work Value} b (give old) wrong) cs) tested) onward ≡ gives (to (past (with_var z a (Uint x)))) cs
    go true k = (test-goes (eqb 2 (form_of old)) (with_var z a (Uint x)) onward cs k).1
    go false k = absurd (k refl)

-- ---- a return
return-goes : (t : Table) (s : State) (callers : List Caller) (x : ℕ) (cs : List ℕ) → give_back t s callers x cs ≢ stuck
    → give_back t s callers x cs ≡ gives (to (returned_by t s callers x)) cs
unfolding returned_by
return-goes t s [] x cs h = absurd (h refl)
return-goes t s (c ∷ rest) x cs h =
    let from = locals_at t s.here.row in
    let upon = locals_at t c.here.row in
    let vs = handed_over s.vars from upon (λ i. get_or c.locals i 0) in
    let z = with_work s c.here rest vs in
    let first = test-goes (uints_in s.vars from && uints_in s.vars upon) vs
    (λ vs cs. next (set_var (with_work s c.here rest vs) (row_at t c.here.row).c (Uint x) cs) onward) cs h in
    first.1 ∙ set-goes z (row_at t c.here.row).c x cs (λ e. h (first.1 ∙ e))

-- ---- a call, with fewer than eight callers
call-goes : (t : Table) (s : State) (k x : ℕ) (cs : List ℕ) → leb 8 (length s.callers) ≡ false → call_procedure t s k x cs ≢ stuck
    → (opening t k < t.rows) × (call_procedure t s k x cs ≡ gives (to (called_by t s k x)) cs)
call-goes t s k x cs few h =
    let started = rw few at h in
    let q = suc (opening t k) in
    let vs = handed_over s.vars (locals_at t s.here.row) (locals_at t q) (argument x) in
    let first = test-goes (ltb (opening t k) t.rows) q handing cs started in
    let second = test-goes (uints_in s.vars (locals_at t s.here.row) && uints_in s.vars (locals_at t q)) vs (begun q) cs (λ e. started (first.1 ∙ e)) in
    (ltb-true _ _ first.0, rw few (first.1 ∙ second.1))
  where
    begun : ℕ → List Value → Work Move
    begun q vs = give (to (with_work s (position q []) (caller s.here (numbers_in s.vars (locals_at t s.here.row)) ∷ s.callers) vs))

    handing : ℕ → Work Move
    handing q cs = next (hand_over s.vars (locals_at t s.here.row) (locals_at t q) (argument x) cs) (begun q)

-- ---- the rows: x is what the operand gave, o what it gives by definition, k how the code goes on and j how the row does
going-uint : {own stack : List ℕ} {m : Machine} {cells l : List ℕ} (x : Answer) {o : Out ℕ} (k : ℕ → ℕ → Worked) (j : ℕ → Work Move)
    → Answers uint l x o → next o j ≢ stuck → ((v at : ℕ) → j v (drop at l) ≢ stuck → Works own stack m cells l (k v at) (j v (drop at l)))
    → Works own stack m cells l (on_uint k x) (next o j)
unfolding out_of OfType on_uint
going-uint (ABool b at) k j p h w = absurd p.typed
going-uint (AUint v at) k j p h w =
    let e = ap (λ (o : Out ℕ). next o j) p.said in
    works-same (w v at (λ q. h (sym e ∙ q))) e
going-uint (APointer r v at) k j p h w = absurd p.typed
going-uint (NoValue why at) k j p h w = lost-not uint why at j p

module _ (own map stack : List ℕ) (m : Machine) (cells l : List ℕ) (calling : CallsFit own map stack m cells) where
  abbrev t : Table
  t = own_table own

  abbrev s : State
  s = own_state own stack m cells

  none_kept : depth_of stack ≡ 0 → s.callers ≡ []
  unfolding callers_of tab listed
  none_kept e = rw e

  -- a return, where it is not stuck
  pub back-works : (x at : ℕ) → give_back t s s.callers x (drop at l) ≢ stuck
      → Works own stack m cells l (Moves (Returns x) at) (give_back t s s.callers x (drop at l))
  unfolding move_out state_after CanDo
  back-works x at h = record {
    said = sym (return-goes t s s.callers x (drop at l) h);
    can = calling.last (some (depth_of stack) refl);
  }
    where
      some : (d : ℕ) → depth_of stack ≡ d → 1 ≤ depth_of stack
      some zero e = absurd (h (ap (λ (cs : List Caller). give_back t s cs x (drop at l)) (none_kept e)))
      some (suc d) e = omega arith

  pub returns-works : (a b c at : ℕ) (x : Answer) → Answers uint l x (operand (lends own m cells) uint 1024 a (drop at l))
      → row_rule (places_of own) t s m.row returns a b c (drop at l) ≢ stuck → RowWorks own stack m cells l returns a b c (drop at l) (returned_of x)
  unfolding row_rule operand returned_of
  returns-works a b c at x p h = going-uint x (λ v at. Moves (Returns v) at) (give_back t s s.callers) p h back-works

  -- a call
  call-works : (kind : row_kind (row_at t m.row).kind ≡ call) (fits : Within own m cells) (depth k : ℕ) → depth ≡ depth_of stack
      → k ≡ (row_at t m.row).a → (x at : ℕ) → call_procedure t s k x (drop at l) ≢ stuck
      → Works own stack m cells l (if leb 8 depth then Ends TooDeep at else Moves (Calls k x) at) (call_procedure t s k x (drop at l))
  unfolding move_out state_after CanDo
  call-works kind fits depth k ed ek x at h = by (leb 8 depth) refl
    where
      many : leb 8 (length s.callers) ≡ leb 8 depth
      many = ap (leb 8) (depth-length t stack ∙ sym ed)

      by : (b : Bool) → leb 8 depth ≡ b
          → Works own stack m cells l (if b then Ends TooDeep at else Moves (Calls k x) at) (call_procedure t s k x (drop at l))
      by true e = record { said = rw (many ∙ e); can = tt }
      by false e =
          let goes = call-goes t s k x (drop at l) (many ∙ e) h in
          record {
            said = sym goes.1;
            can = record {
              row = fits.row;
              number = rw ek (calling.numbers kind (rw ek at goes.0));
              there = goes.0;
              few = omega (arith, leb-false 8 depth e, ed);
            };
          }

  pub calls-works : (kind : row_kind (row_at t m.row).kind ≡ call) (fits : Within own m cells) (depth k b c at : ℕ) → depth ≡ depth_of stack
      → k ≡ (row_at t m.row).a → (x : Answer) → Answers uint l x (operand (lends own m cells) uint 1024 b (drop at l))
      → row_rule (places_of own) t s m.row call k b c (drop at l) ≢ stuck
      → RowWorks own stack m cells l call k b c (drop at l) (called_of depth k x)
  unfolding row_rule operand called_of
  calls-works kind fits depth k b c at ed ek x p h =
      going-uint x (λ v at. if leb 8 depth then Ends TooDeep at else Moves (Calls k v) at) (call_procedure t s k) p h (call-works kind fits depth k ed ek)
