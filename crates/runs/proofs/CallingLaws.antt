-- What a call or a return of the row where a run stands asks for: from a table that passes and a record that 15 does not refuse.
-- Assumes nothing.
use mathlib.Core.Path.{◌≡◌, refl, sym, ap, ◌∙◌, subst}
use Prim.Native.Nat.{ℕ, suc, ◌+◌, ◌-◌, ◌*◌, ◌<◌, ◌≤◌}
use native.Mathlib.Omega.{arith as numbers}
use mathlib.Core.Bool.{Bool, true, false, ◌||◌, true≢false}
use mathlib.Core.List.{List, ◌∷◌}
use lib.ListN.{get_or}
use lib.Dec.{ltb}
use borrow.Author.Tests.{ltb-true, ltb-false}
use Rattle.lists.specs.Tab.{tab}
use Rattle.lists.proofs.TabLaws.{tab-last}
use Rattle.model.specs.Table.{Line, Table, row_at, type_at, marked_uint, home, opening, locals_at}
use Rattle.model.specs.Table.Ty.{uint}
use Rattle.model.specs.State.{Caller}
use Rattle.model.specs.Step.{finished}
use Rattle.model.specs.Accepted.{Calls, Stacked, node_type}
use Rattle.model.proofs.Typing.{RowFits, rows_fit, classed-none}
use Rattle.prepared.specs.declared.Frame.{Frame}
use Rattle.prepared.specs.declared.Form.TheVariants.{Uint as FUint}
use Rattle.prepared.specs.View.{places, kind_of, table_for, form_for, form_in}
use Rattle.prepared.specs.Own.{Own, decls_of, own_table, own_form}
use Rattle.prepared.specs.Same.{Same}
use Rattle.prepared.proofs.SameLaws.{own_same, own-limits, same-form}
use Rattle.procedures.specs.Map.{Mapped}
use Rattle.calls.specs.Stack.{caller_words, depth_of, last_at, caller_at, callers_of}
use Rattle.calls.specs.CallAndReturn.{LocalsWithin, Procedures, CanReturn, last_of, receiver}
use Rattle.machine.specs.declared.Machine.{Machine}
use Rattle.machine.specs.View.{state_of, own_state}
use Rattle.machine.specs.CodeMoves.{CallsFit}
use Rattle.row_kinds.proofs.CallingLaws.{depth-length}
use Rattle.records.proofs.ProcedureLaws.{few-procedures, locals-right}
use Rattle.runs.specs.CodeSteps.{Ready, kept}
use Rattle.runs.proofs.RunLaws.{never}
use Rattle.model.proofs.MainEndLaws.{goes-in-main, goes-with-callers, done-there}
use Rattle.runs.proofs.ReadyLaws.{step_same, caller-same, state-same, finished-same}

-- the last caller, and those before it
pub callers-last : (t : Table) (stack : List ℕ) (d : ℕ) → depth_of stack ≡ suc d
    → callers_of t stack ≡ caller_at t stack (last_at stack) ∷ tab d (λ i. caller_at t stack (caller_words * (d - suc i)))
unfolding callers_of
callers-last t stack d e =
    ap (λ (n : ℕ). tab n (λ i. caller_at t stack (caller_words * (n - suc i)))) e
    ∙ tab-last d (λ i. caller_at t stack (caller_words * i))
    ∙ ap (λ (i : ℕ). caller_at t stack i ∷ tab d (λ i. caller_at t stack (caller_words * (d - suc i))))
    (let z : caller_words * d ≡ last_at stack = omega (numbers, e) in z)

module _ (t : List ℕ) (f : Frame) (own : List ℕ) (O : Own t f own) (m : Machine) (stack cells : List ℕ) (R : Ready t f (kept m stack) cells) where
  abbrev table : Table
  table = table_for t f

  same : Same t f own
  same = own_same t f own R.laid (kind_of f) R.accepted O

  -- a declared uint that is not marked holds a uint in either machine
  uint-form : (i : ℕ) → i < f.counts.decls → type_at table i ≡ uint → marked_uint table i ≡ false → own_form own i ≡ FUint
  unfolding form_in
  uint-form i h e u = same-form t f own R.laid O i h ∙ rw (classed-none (kind_of f) table i u) (ap form_for e)

  pub procedures-own : (map : List ℕ) → Mapped (own_table own) map → Procedures own map
  procedures-own map M =
      let limits = own-limits t f own R.laid O in
      record {
        words = O.size;
        decls = limits.0;
        rows = limits.1;
        mapped = M;
        locals = λ r h. subst (LocalsWithin own) (sym (same.locals r)) (fit r (omega (numbers, h, O.rows)));
      }
    where
      fit : (r : ℕ) → r ≤ f.counts.rows → LocalsWithin own (locals_at table r)
      fit r h =
          let L = locals-right (kind_of f) table R.accepted r h in
          record {
            few = L.few;
            there = omega (numbers, L.there, O.decls);
            uints = λ i k. let u = L.uints i k in uint-form ((locals_at table r).first + i) (omega (numbers, k, L.there)) u.0 u.1;
          }

  pub depth-few : depth_of stack ≤ 8
  depth-few = omega (numbers, R.regular.few_callers, depth-length table stack)

  -- ---- the last caller
  last-same : last_of own stack ≡ caller_at table stack (last_at stack)
  last-same = caller-same t f own O m stack cells R stack (last_at stack)

  last-calls : (d : ℕ) → depth_of stack ≡ suc d → Calls table (home table m.row) (caller_at table stack (last_at stack))
  last-calls d e = (subst (Stacked table (home table m.row)) (callers-last table stack d e) R.can.stack).0

  -- the variable of its 45 is a declared uint that is not marked
  receives : (d : ℕ) → depth_of stack ≡ suc d → (receiver own stack < decls_of own) × (own_form own (receiver own stack) ≡ FUint)
  receives d e =
      let C = last-calls d e in
      let row = (caller_at table stack (last_at stack)).here.row in
      let fits = subst (λ k. RowFits (kind_of f) table (node_type table) k (row_at table row).a (row_at table row).b (row_at table row).c) C.is_call
      (rows_fit (kind_of f) table R.accepted row C.inside) in
      let into : receiver own stack ≡ (row_at table row).c =
      ap (λ (c : Caller). (row_at (own_table own) c.here.row).c) last-same ∙ ap (λ (l : Line). l.c) (O.row row) in
      (omega (numbers, into, fits.2, O.decls), ap (own_form own) into ∙ uint-form (row_at table row).c fits.2 fits.3 fits.4)

  can-return : 1 ≤ depth_of stack → CanReturn own stack m.row
  can-return h =
      let d = depth_of stack - 1 in
      let e : depth_of stack ≡ suc d = omega (numbers, h) in
      let C = last-calls d e in
      let r = receives d e in
      let same_row : (last_of own stack).here.row ≡ (caller_at table stack (last_at stack)).here.row = ap (λ (c : Caller). c.here.row) last-same in
      record {
        row = omega (numbers, R.can.here.row, O.rows);
        some = h;
        few = depth-few;
        caller = omega (numbers, same_row, C.inside, O.rows);
        receives = r.0;
        uint = r.1;
      }

  pub calls-fit : (map : List ℕ) → Mapped (own_table own) map → finished table (state_of t f (kept m stack) cells) ≡ false → CallsFit own map stack m cells
  calls-fit map M going = record {
    procedures = procedures-own map M;
    few = depth-few;
    numbers = λ e h. few-procedures (kind_of f) table R.accepted (row_at (own_table own) m.row).a
        (omega (numbers, h, same.opening (row_at (own_table own) m.row).a, O.rows));
    last = can-return;
    goes = λ cs e. never (places f) (kind_of f) table R.accepted (state_of t f (kept m stack) cells)
        (record { can = R.can; regular = R.regular }) going cs (sym (step_same t f own O m stack cells R cs) ∙ e);
  }

-- a run that goes on on the copy does so on the table
pub table-going : (t : List ℕ) (f : Frame) (own : List ℕ) (O : Own t f own) (m : Machine) (stack cells : List ℕ) (R : Ready t f (kept m stack) cells)
    → finished (own_table own) (own_state own stack m cells) ≡ false → finished (table_for t f) (state_of t f (kept m stack) cells) ≡ false
table-going t f own O m stack cells R e =
    sym (finished-same t f own O m stack cells R (state_of t f (kept m stack) cells))
    ∙ ap (finished (own_table own)) (sym (state-same t f own O m stack cells R m stack cells)) ∙ e

-- ---- where the loop of a run goes on, and where it is done, by the first 43
module _ (t : List ℕ) (f : Frame) (own : List ℕ) (O : Own t f own) (m : Machine) (stack cells : List ℕ) (R : Ready t f (kept m stack) cells)
    (map : List ℕ) (M : Mapped (own_table own) map) where
  -- the 43 of procedure 0, as the map has it
  first-is : get_or map 0 0 ≡ opening (table_for t f) 0
  first-is = M.openings 0 (omega numbers) ∙ (own_same t f own R.laid (kind_of f) R.accepted O).opening 0

  -- on the copy as on the table
  to-copy : {b : Bool} → finished (table_for t f) (state_of t f (kept m stack) cells) ≡ b → finished (own_table own) (own_state own stack m cells) ≡ b
  to-copy e =
      ap (finished (own_table own)) (state-same t f own O m stack cells R m stack cells)
      ∙ finished-same t f own O m stack cells R (state_of t f (kept m stack) cells) ∙ e

  pub going-on-copy : (ltb m.row (get_or map 0 0) || ltb 0 (depth_of stack)) ≡ true → finished (own_table own) (own_state own stack m cells) ≡ false
  going-on-copy h = go (ltb m.row (get_or map 0 0)) refl
    where
      go : (b : Bool) → ltb m.row (get_or map 0 0) ≡ b → finished (own_table own) (own_state own stack m cells) ≡ false
      go true e = to-copy (goes-in-main (table_for t f) (state_of t f (kept m stack) cells) R.can.here.row R.can.stack
          (omega (numbers, ltb-true m.row (get_or map 0 0) e, first-is)))
      go false e =
          let some = ltb-true 0 (depth_of stack) (rw e at h) in
          to-copy (goes-with-callers (table_for t f) (state_of t f (kept m stack) cells) R.can.here.row R.can.stack
          (omega (numbers, some, depth-length (table_for t f) stack)))

  pub done-on-copy : (ltb m.row (get_or map 0 0) || ltb 0 (depth_of stack)) ≡ false → finished (own_table own) (own_state own stack m cells) ≡ true
  done-on-copy h = go (ltb m.row (get_or map 0 0)) refl
    where
      go : (b : Bool) → ltb m.row (get_or map 0 0) ≡ b → finished (own_table own) (own_state own stack m cells) ≡ true
      go true e = absurd (true≢false (rw e at h))
      go false e =
          let none = ltb-false 0 (depth_of stack) (rw e at h) in
          to-copy (done-there (table_for t f) (state_of t f (kept m stack) cells) R.can.here.row R.can.stack
          (omega (numbers, ltb-false m.row (get_or map 0 0) e, first-is)) (omega (numbers, none, depth-length (table_for t f) stack)))
