-- By what is left of the writer on the copy, from where the machine stands.
-- Assumes nothing.
use Prim.Native.Nat.{ℕ, ◌+◌, ◌≤◌}
use native.Mathlib.Omega.{arith}
use mathlib.Core.Path.{◌≡◌, refl, ap, ◌∙◌}
use mathlib.Core.List.{List}
use lib.ListN.{length, set, length-set}
use borrow.Author.Rules.{rules}
use Rattle.model.specs.State.{State}
use Rattle.model.proofs.Memory.{cleared-length}
use Rattle.machine.specs.declared.Machine.{Machine}
use Rattle.machine.specs.declared.Move.{Move}
use Rattle.machine.specs.declared.Worked.TheVariants.{Moves}
use Rattle.machine.specs.View.{own_state}
use Rattle.machine.specs.CodeMoves.{state_after, Sized, Can}
use Rattle.runs.proofs.ReadyLaws.{within}
use Rattle.runs.proofs.CallingLaws.{calls-fit, procedures-own, table-going, going-on-copy, done-on-copy}
use Rattle.choices.proofs.CopyLaws.{copy-plain}
use Rattle.choices.proofs.WriteLaws.{Left, Recorded, writes-own, left-all, left-done, left_out, bounds, few-numbers, inside-list}
use Rattle.choices.proofs.WriteLaws.{left-full, left-stop, left-again}
use Rattle.choices.proofs.steps.write_steps.Goals as goal
use Rattle.choices.proofs.steps.write_steps.Goals.{After-recorded_move-w, After-hold}

-- a state made from another machine and other cells, which are the same
made-by : (own stack : List ℕ) {m m' : Machine} {cells cells' : List ℕ} {s : State} → m ≡ m' → cells ≡ cells'
    → own_state own stack m' cells' ≡ s → own_state own stack m cells ≡ s
made-by own stack em ec made = rw (em, ec) made

-- what is recorded of the row
recorded : (c : After-recorded_move-w) → let g = c.args in let h = c.loop-m in
    Recorded g.t.now c.lay_out.new.own g.list.now g.limit g.m g.stack g.cells.now h.m h.stack h.cells h.list h.held h.at h.steps
    h.numbers c.recorded_move-w.result c.recorded_move-w.new.out
recorded c =
    let h = c.loop-m in
    let L = h.invariant.0 in
    let going = going-on-copy _ L.frame _ L.copied h.m h.stack h.cells L.ready _ c.map_own.ensures c.loop-m-test.true in
    record {
      left = L;
      going = going;
      more = omega (arith, L.upto, c.if-steps-limit.false);
      sized = h.invariant.2;
      kept = c.recorded_move-w.auto.out ∙ h.invariant.2;
      row = c.recorded_move-w.ensures _ h.stack refl (calls-fit _ L.frame _ L.copied h.m h.stack h.cells L.ready _ c.map_own.ensures
          (table-going _ L.frame _ L.copied h.m h.stack h.cells L.ready going));
    }

-- what the row's change asks for
can : (c : After-hold) {x : Move} → let g = c.args in let h = c.loop-m in
    Recorded g.t.now c.lay_out.new.own g.list.now g.limit g.m g.stack g.cells.now h.m h.stack h.cells h.list h.held h.at h.steps
    h.numbers c.recorded_move-w.result c.recorded_move-w.new.out
    → c.in-Moves.change ≡ x → (h.m.row ≤ 256) × Can c.lay_out.new.own h.stack h.m (length h.cells) x
can c row is = bounds row (c.in-Moves.is ∙ ap (λ (x : Move). Moves x c.in-Moves.field-1) is)

-- what is left, once the change is made
again : (c : After-hold) {x : Move} → let g = c.args in let h = c.loop-m in
    Recorded g.t.now c.lay_out.new.own g.list.now g.limit g.m g.stack g.cells.now h.m h.stack h.cells h.list h.held h.at h.steps
    h.numbers c.recorded_move-w.result c.recorded_move-w.new.out
    → c.in-Moves.change ≡ x → (m' : Machine) (stack' cells' : List ℕ)
    → own_state c.lay_out.new.own stack' m' cells' ≡ state_after c.lay_out.new.own h.stack h.m h.cells x → length cells' ≡ length h.cells → Sized m'
    → Left g.t.now c.lay_out.new.own g.list.now g.limit g.m g.stack g.cells.now m' stack' cells' c.write_numbers-at.new.list c.hold.new.held
    c.write_numbers-at.result (h.steps + 1)
    × (length cells' ≡ length g.cells.now) × (length c.recorded_move-w.new.out ≡ 8192)
again c row is m' stack' cells' made same sized =
    let written = c.write_numbers-at.ensures in
    let moves = c.in-Moves.is ∙ ap (λ (x : Move). Moves x c.in-Moves.field-1) is in (
      left-again row c.count_of-n.ensures c.if-list-at.false _ written.1 moves m' stack' cells' made same _ c.hold.ensures sized written.0,
      same ∙ c.loop-m.invariant.1,
      row.kept,
    )

pub loop-m-init : goal.loop-m-init
loop-m-init c =
    let g = c.args in
    let sized : Sized g.m = search rules in
    (left-all g.t.now _ g.list.now g.limit g.f g.m g.stack g.cells.now _ c.lay_out.ensures c.requires sized refl, refl, refl)

pub returns-then-steps-limit : goal.returns-then-steps-limit
returns-then-steps-limit c =
    let g = c.args in
    let h = c.loop-m in
    let L = h.invariant.0 in
    let going =
    going-on-copy _ L.frame _ L.copied h.m h.stack h.cells L.ready _ c.map_own.ensures c.loop-m-test.true in
    writes-own g.t.now g.f _ c.lay_out.ensures g.m g.stack g.cells.now c.requires g.list.now g.limit _ h.cells _
    (left_out L going c.if-steps-limit.true _ c.at_end.ensures)

pub recorded_move-w-requires-clause-within : goal.recorded_move-w-requires-clause-within
recorded_move-w-requires-clause-within c =
    let h = c.loop-m in
    let L = h.invariant.0 in
    within _ L.frame _ L.copied h.m h.stack h.cells L.ready L.sized

pub recorded_move-w-requires-clause-plain : goal.recorded_move-w-requires-clause-plain
recorded_move-w-requires-clause-plain c =
    let h = c.loop-m in
    let L = h.invariant.0 in
    copy-plain _ L.frame _ L.copied h.m h.stack h.cells L.ready L.plain

pub returns-then-list-at : goal.returns-then-list-at
returns-then-list-at c =
    let g = c.args in
    writes-own g.t.now g.f _ c.lay_out.ensures g.m g.stack g.cells.now c.requires g.list.now g.limit _ c.loop-m.cells _
    (left-full (recorded (goal.at.returns-then-list-at c).After-recorded_move-w) c.count_of-n.ensures c.if-list-at.true _ c.at_end-then-list-at.ensures)

pub write_numbers-at-requires : goal.write_numbers-at-requires
write_numbers-at-requires c =
    let row = recorded (goal.at.write_numbers-at-requires c).After-recorded_move-w in
    (inside-list row c.count_of-n.ensures c.if-list-at.false, few-numbers row c.count_of-n.ensures)

pub returns-in_default : goal.returns-in_default
returns-in_default c =
    let g = c.args in
    let row = recorded (goal.at.returns-in_default c).After-recorded_move-w in
    let written = c.write_numbers-at.ensures in
    writes-own g.t.now g.f _ c.lay_out.ensures g.m g.stack g.cells.now c.requires g.list.now g.limit _ c.loop-m.cells _
    (left-stop row c.count_of-n.ensures c.if-list-at.false _ written.1 c.in_default.not-Moves _ (rw written.0 at c.stopped.ensures))

pub loop-m-preserved-in-Goes : goal.loop-m-preserved-in-Goes
unfolding state_after
loop-m-preserved-in-Goes c =
    let p = goal.at.loop-m-preserved-in-Goes c in
    let row = recorded p.After-recorded_move-w in
    again p.After-hold row c.in-Goes.is c.pass-m.result c.loop-m.stack c.loop-m.cells
    (made-by _ _ c.pass-m.ensures refl refl) refl (search rules)

pub put-m-requires : goal.put-m-requires
put-m-requires c =
    let p = goal.at.put-m-requires c in
    let fits = can p.After-hold (recorded p.After-recorded_move-w) c.in-Puts.is in
    fits

pub loop-m-preserved-in-Puts : goal.loop-m-preserved-in-Puts
unfolding state_after
loop-m-preserved-in-Puts c =
    let p = goal.at.loop-m-preserved-in-Puts c in
    let row = recorded p.After-recorded_move-w in
    again p.After-hold row c.in-Puts.is c.put-m.result c.loop-m.stack c.loop-m.cells
    (made-by _ _ c.put-m.ensures refl refl) refl (search rules)

pub offset_bounds-cells-i : goal.offset_bounds-cells-i
offset_bounds-cells-i c =
    let p = goal.at.offset_bounds-cells-i c in
    let fits = can p.After-hold (recorded p.After-recorded_move-w) c.in-Writes.is in
    omega (arith, fits.1, c.loop-m.invariant.0.ready.room)

pub bounds-cells-i : goal.bounds-cells-i
bounds-cells-i c =
    let p = goal.at.bounds-cells-i c in
    let fits = can p.After-hold (recorded p.After-recorded_move-w) c.in-Writes.is in
    fits.1

pub loop-m-preserved-in-Writes : goal.loop-m-preserved-in-Writes
unfolding state_after
loop-m-preserved-in-Writes c =
    let p = goal.at.loop-m-preserved-in-Writes c in
    let row = recorded p.After-recorded_move-w in
    again p.After-hold row c.in-Writes.is c.pass-m-in-Writes.result c.loop-m.stack (set c.loop-m.cells c.in-Writes.i c.in-Writes.v)
    (made-by _ _ c.pass-m-in-Writes.ensures refl refl) (length-set c.loop-m.cells c.in-Writes.i c.in-Writes.v) (search rules)

pub zero-requires : goal.zero-requires
zero-requires c =
    let p = goal.at.zero-requires c in
    let fits = can p.After-hold (recorded p.After-recorded_move-w) c.in-Lays.is in
    fits.1.2

pub lay-m-requires : goal.lay-m-requires
lay-m-requires c =
    let p = goal.at.lay-m-requires c in
    let fits = can p.After-hold (recorded p.After-recorded_move-w) c.in-Lays.is in
    (fits.0, fits.1.0, fits.1.1)

pub loop-m-preserved-in-Lays : goal.loop-m-preserved-in-Lays
unfolding state_after
loop-m-preserved-in-Lays c =
    let p = goal.at.loop-m-preserved-in-Lays c in
    let row = recorded p.After-recorded_move-w in
    let fits = can p.After-hold row c.in-Lays.is in
    again p.After-hold row c.in-Lays.is c.lay-m.result c.loop-m.stack c.zero.new.cells
    (made-by _ _ c.lay-m.ensures c.zero.ensures refl) (ap length c.zero.ensures ∙ cleared-length _ _ _ fits.1.2) (search rules)

pub enter-m-requires : goal.enter-m-requires
enter-m-requires c =
    let p = goal.at.enter-m-requires c in
    let fits = can p.After-hold (recorded p.After-recorded_move-w) c.in-Enters.is in
    fits.1

pub loop-m-preserved-in-Enters : goal.loop-m-preserved-in-Enters
unfolding state_after
loop-m-preserved-in-Enters c =
    let p = goal.at.loop-m-preserved-in-Enters c in
    let row = recorded p.After-recorded_move-w in
    again p.After-hold row c.in-Enters.is c.enter-m.result c.loop-m.stack c.loop-m.cells
    (made-by _ _ c.enter-m.ensures refl refl) refl (search rules)

pub leave-m-requires : goal.leave-m-requires
leave-m-requires c =
    let p = goal.at.leave-m-requires c in
    let fits = can p.After-hold (recorded p.After-recorded_move-w) c.in-Leaves.is in
    fits.1.0

pub loop-m-preserved-in-Leaves : goal.loop-m-preserved-in-Leaves
unfolding state_after
loop-m-preserved-in-Leaves c =
    let p = goal.at.loop-m-preserved-in-Leaves c in
    let row = recorded p.After-recorded_move-w in
    again p.After-hold row c.in-Leaves.is c.leave-m.result c.loop-m.stack c.loop-m.cells
    (made-by _ _ c.leave-m.ensures refl refl) refl (search rules)

pub after_call-m-requires : goal.after_call-m-requires
after_call-m-requires c =
    let h = c.loop-m in
    let L = h.invariant.0 in
    let p = goal.at.after_call-m-requires c in
    let fits = can p.After-hold (recorded p.After-recorded_move-w) c.in-Calls.is in
    (procedures-own _ L.frame _ L.copied h.m h.stack h.cells L.ready _ c.map_own.ensures, fits.1)

pub loop-m-preserved-in-Calls : goal.loop-m-preserved-in-Calls
unfolding state_after
loop-m-preserved-in-Calls c =
    let p = goal.at.loop-m-preserved-in-Calls c in
    let row = recorded p.After-recorded_move-w in
    again p.After-hold row c.in-Calls.is c.after_call-m.result c.after_call-m.new.stack c.loop-m.cells
    (made-by _ _ refl refl (c.after_call-m.ensures _)) refl (search rules)

pub after_return-m-requires : goal.after_return-m-requires
after_return-m-requires c =
    let h = c.loop-m in
    let L = h.invariant.0 in
    let p = goal.at.after_return-m-requires c in
    let fits = can p.After-hold (recorded p.After-recorded_move-w) c.in-Returns.is in
    (procedures-own _ L.frame _ L.copied h.m h.stack h.cells L.ready _ c.map_own.ensures, fits.1)

pub loop-m-preserved : goal.loop-m-preserved
unfolding state_after
loop-m-preserved c =
    let p = goal.at.loop-m-preserved c in
    let row = recorded p.After-recorded_move-w in
    again p.After-hold row c.in-Returns.is c.after_return-m.result c.after_return-m.new.stack c.loop-m.cells
    (made-by _ _ refl refl (c.after_return-m.ensures _)) refl (search rules)

pub returns : goal.returns
returns c =
    let g = c.args in
    let h = c.loop-m in
    let L = h.invariant.0 in
    writes-own g.t.now g.f _ c.lay_out.ensures g.m g.stack g.cells.now c.requires g.list.now g.limit _ h.cells _
    (left-done L (done-on-copy _ L.frame _ L.copied h.m h.stack h.cells L.ready _ c.map_own.ensures c.loop-m-test.false) _ c.at_end-2.ensures)
