-- The row is the table's, it is a 45, and the map says where the procedure opens that it names.
-- Assumes nothing.
use native.Mathlib.Omega.{arith}
use Prim.Native.Nat.{◌<◌}
use mathlib.Core.Path.{◌≡◌}
use Rattle.model.specs.Table.{row_at}
use Rattle.model.specs.Procedures.{most_procedures}
use Rattle.prepared.specs.View.{kind_of, table_for}
use Rattle.records.proofs.CallerLaws.{call-past, call-other, call-named, call-number, opens-below, next-is}
use Rattle.record_check.proofs.callers.is_call_of.Goals as goal
use Rattle.record_check.proofs.callers.is_call_of.Goals.{Else-kind-ne-CALL}

-- past the tests the row is a 45, and calls one of the procedures
is-45 : (c : Else-kind-ne-CALL) → (row_at (table_for c.args.t.now c.args.f) c.args.row).kind ≡ 45
is-45 c = omega (arith, c.if-kind-ne-CALL.false)

names : (c : Else-kind-ne-CALL) → (row_at (table_for c.args.t.now c.args.f) c.args.row).a < most_procedures
names c =
    let g = c.args in
    call-number (kind_of g.f) (table_for g.t.now g.f) c.requires.1 g.row (omega (arith, c.if-f-r.false)) (is-45 c)

pub returns-then-f-r : goal.returns-then-f-r
returns-then-f-r c = let g = c.args in call-past (table_for g.t.now g.f) g.row g.q (omega (arith, c.if-f-r.true))

pub returns-then-kind-ne-CALL : goal.returns-then-kind-ne-CALL
returns-then-kind-ne-CALL c =
    let g = c.args in
    call-other (table_for g.t.now g.f) g.row g.q (omega (arith, c.if-f-r.false)) (λ e. omega (arith, e, c.if-kind-ne-CALL.true))

pub overflow_add-result : goal.overflow_add-result
overflow_add-result c =
    let g = c.args in
    let e = is-45 (goal.at.overflow_add-result c).Else-kind-ne-CALL in
    let h = opens-below (kind_of g.f) (table_for g.t.now g.f) c.requires.1 g.row (omega (arith, c.if-f-r.false)) e g.map.now c.requires.2 in
    omega (arith, c.requires.0.few_rows, h)

pub returns : goal.returns
returns c =
    let g = c.args in
    let t = table_for g.t.now g.f in
    let e = is-45 (goal.at.returns c).Else-kind-ne-CALL in
    let h : g.row < t.rows = omega (arith, c.if-f-r.false) in
    call-named t g.row g.q h e (next-is (kind_of g.f) t c.requires.1 g.row h e g.map.now c.requires.2)

pub overflow_add-k : goal.overflow_add-k
overflow_add-k c = omega (arith, names (goal.at.overflow_add-k c).Else-kind-ne-CALL)

pub offset_bounds-map-k : goal.offset_bounds-map-k
offset_bounds-map-k c = omega (arith, names (goal.at.offset_bounds-map-k c).Else-kind-ne-CALL)

pub bounds-map-k : goal.bounds-map-k
bounds-map-k c = omega (arith, names (goal.at.bounds-map-k c).Else-kind-ne-CALL)
