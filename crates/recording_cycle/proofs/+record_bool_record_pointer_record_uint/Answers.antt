-- The three recording evaluators: what each gives and pushes is the rule of the node that it read, by `search records`. Where an operand came by one of
-- two ways, as a leaf or from the cycle, a lemma of its own says what it gave and left.
-- Assumes nothing.
use Prim.Native.Nat.{ℕ}
use Rattle.model.specs.Table.Ty.{uint, pointer}
use Rattle.evaluators.proofs.NodeLaws.{told}
use Rattle.evaluators.proofs.OtherAnswers.{answer-no-bool, answer-no-pointer, answer-no-uint}
use Rattle.evaluators.proofs.OtherNodes.{node-no-bool, node-no-pointer}
use Rattle.recording.specs.CodeRecords.{RecordsFrom}
use Rattle.recording.proofs.RecordLaws.{same-record}
use Rattle.recording.proofs.NodeLaws.{records}
use Rattle.recording.proofs.InputLaws.{uint-recorded, pointer-recorded}
use Rattle.recording_cycle.proofs.OtherNodes.{node-no-plain-uint}
use Rattle.recording_cycle.proofs.+record_bool_record_pointer_record_uint.Goals as goal
use Rattle.recording_cycle.proofs.+record_bool_record_pointer_record_uint.Goals.{record_bool-Joined-is_leaf, record_bool-then-is_leaf}
use Rattle.recording_cycle.proofs.+record_bool_record_pointer_record_uint.Goals.{record_bool-else-is_leaf, record_bool-Joined-is_leaf-2}
use Rattle.recording_cycle.proofs.+record_bool_record_pointer_record_uint.Goals.{record_bool-then-is_leaf-2, record_bool-else-is_leaf-2}
use Rattle.recording_cycle.proofs.+record_bool_record_pointer_record_uint.Goals.{record_bool-Joined-is_leaf-3, record_bool-then-is_leaf-3}
use Rattle.recording_cycle.proofs.+record_bool_record_pointer_record_uint.Goals.{record_bool-else-is_leaf-3}
use Rattle.recording_cycle.proofs.+record_bool_record_pointer_record_uint.Goals.{record_pointer-Joined-is_leaf, record_pointer-then-is_leaf}
use Rattle.recording_cycle.proofs.+record_bool_record_pointer_record_uint.Goals.{record_pointer-else-is_leaf, record_pointer-Joined-is_leaf-2}
use Rattle.recording_cycle.proofs.+record_bool_record_pointer_record_uint.Goals.{record_pointer-then-is_leaf-2, record_pointer-else-is_leaf-2}
use Rattle.recording_cycle.proofs.+record_bool_record_pointer_record_uint.Goals.{record_pointer-Joined-is_leaf-3, record_pointer-then-is_leaf-3}
use Rattle.recording_cycle.proofs.+record_bool_record_pointer_record_uint.Goals.{record_pointer-else-is_leaf-3}
use Rattle.recording_cycle.proofs.+record_bool_record_pointer_record_uint.Goals.{record_uint-Joined-is_leaf, record_uint-then-is_leaf}
use Rattle.recording_cycle.proofs.+record_bool_record_pointer_record_uint.Goals.{record_uint-else-is_leaf, record_uint-Joined-is_leaf-2}
use Rattle.recording_cycle.proofs.+record_bool_record_pointer_record_uint.Goals.{record_uint-then-is_leaf-2, record_uint-else-is_leaf-2}
use Rattle.recording_cycle.proofs.+record_bool_record_pointer_record_uint.Goals.{record_uint-Joined-is_leaf-3, record_uint-then-is_leaf-3}
use Rattle.recording_cycle.proofs.+record_bool_record_pointer_record_uint.Goals.{record_uint-else-is_leaf-3, record_uint-Joined-is_leaf-4}
use Rattle.recording_cycle.proofs.+record_bool_record_pointer_record_uint.Goals.{record_uint-then-is_leaf-4, record_uint-else-is_leaf-4}

-- ---- operands that came by one of two ways
compare-left : (t : ℕ) (c : record_bool-Joined-is_leaf t) → let g = c.args in
    RecordsFrom uint g.inputs.now g.held.now g.node c.in-Compare.a g.at
    c.if-is_leaf.x g.out.now c.if-is_leaf.out
compare-left t c = let g = c.args in elim c.if-is_leaf.branch [
  | record_bool-then-is_leaf w ↦
      uint-recorded g.inputs.now g.held.now w.record_leaf-x.ensures w.out-is w.x-is
  | record_bool-else-is_leaf w ↦ same-record w.record_uint-x.ensures w.out-is w.x-is
]

compare-right : (t : ℕ) (c : record_bool-Joined-is_leaf-2 t) → let g = c.args in
    RecordsFrom uint g.inputs.now g.held.now g.node c.in-Compare.b c.in-Uint.next
    c.if-is_leaf-2.y c.if-is_leaf.out c.if-is_leaf-2.out
compare-right t c = let g = c.args in elim c.if-is_leaf-2.branch [
  | record_bool-then-is_leaf-2 w ↦
      uint-recorded g.inputs.now g.held.now w.record_leaf-y.ensures w.out-is w.y-is
  | record_bool-else-is_leaf-2 w ↦ same-record w.record_uint-y.ensures w.out-is w.y-is
]

valid-pointer : (t : ℕ) (c : record_bool-Joined-is_leaf-3 t) → let g = c.args in
    RecordsFrom pointer g.inputs.now g.held.now g.node c.in-Valid.a g.at
    c.if-is_leaf-3.x g.out.now c.if-is_leaf-3.out
valid-pointer t c = let g = c.args in elim c.if-is_leaf-3.branch [
  | record_bool-then-is_leaf-3 w ↦
      pointer-recorded g.inputs.now g.held.now (told c.is_leaf-in-Valid.ensures w.if-is_leaf-3.true)
      w.pointer_leaf-x.ensures w.out-is w.x-is
  | record_bool-else-is_leaf-3 w ↦ same-record w.record_pointer-x.ensures w.out-is w.x-is
]

shift-pointer : (t : ℕ) (c : record_pointer-Joined-is_leaf t) → let g = c.args in
    RecordsFrom pointer g.inputs.now g.held.now g.node c.in-Arith.a g.at
    c.if-is_leaf.x g.out.now c.if-is_leaf.out
shift-pointer t c = let g = c.args in elim c.if-is_leaf.branch [
  | record_pointer-then-is_leaf w ↦
      pointer-recorded g.inputs.now g.held.now (told c.is_leaf.ensures w.if-is_leaf.true)
      w.pointer_leaf-x.ensures w.out-is w.x-is
  | record_pointer-else-is_leaf w ↦ same-record w.record_pointer-x.ensures w.out-is w.x-is
]

shift-by : (t : ℕ) (c : record_pointer-Joined-is_leaf-2 t) → let g = c.args in
    RecordsFrom uint g.inputs.now g.held.now g.node c.in-Arith.b c.in-Pointer.next
    c.if-is_leaf-2.y c.if-is_leaf.out c.if-is_leaf-2.out
shift-by t c = let g = c.args in elim c.if-is_leaf-2.branch [
  | record_pointer-then-is_leaf-2 w ↦
      uint-recorded g.inputs.now g.held.now w.record_leaf-y.ensures w.out-is w.y-is
  | record_pointer-else-is_leaf-2 w ↦ same-record w.record_uint-y.ensures w.out-is w.y-is
]

pointer-branch : (t : ℕ) (c : record_pointer-Joined-is_leaf-3 t) → let g = c.args in
    RecordsFrom pointer g.inputs.now g.held.now g.node c.branch_of-j.result c.in-Bool.next
    c.if-is_leaf-3.y c.record_bool-x.new.out c.if-is_leaf-3.out
pointer-branch t c = let g = c.args in elim c.if-is_leaf-3.branch [
  | record_pointer-then-is_leaf-3 w ↦
      pointer-recorded g.inputs.now g.held.now (told c.is_leaf-in-If.ensures w.if-is_leaf-3.true)
      w.pointer_leaf-y.ensures w.out-is w.y-is
  | record_pointer-else-is_leaf-3 w ↦ same-record w.record_pointer-y.ensures w.out-is w.y-is
]

cell-pointer : (t : ℕ) (c : record_uint-Joined-is_leaf t) → let g = c.args in
    RecordsFrom pointer g.inputs.now g.held.now g.node c.in-Cell.a g.at
    c.if-is_leaf.x g.out.now c.if-is_leaf.out
cell-pointer t c = let g = c.args in elim c.if-is_leaf.branch [
  | record_uint-then-is_leaf w ↦
      pointer-recorded g.inputs.now g.held.now (told c.is_leaf.ensures w.if-is_leaf.true)
      w.pointer_leaf-x.ensures w.out-is w.x-is
  | record_uint-else-is_leaf w ↦ same-record w.record_pointer-x.ensures w.out-is w.x-is
]

arith-left : (t : ℕ) (c : record_uint-Joined-is_leaf-2 t) → let g = c.args in
    RecordsFrom uint g.inputs.now g.held.now g.node c.in-Arith.a g.at
    c.if-is_leaf-2.x g.out.now c.if-is_leaf-2.out
arith-left t c = let g = c.args in elim c.if-is_leaf-2.branch [
  | record_uint-then-is_leaf-2 w ↦
      uint-recorded g.inputs.now g.held.now w.record_leaf-x.ensures w.out-is w.x-is
  | record_uint-else-is_leaf-2 w ↦ same-record w.record_uint-x.ensures w.out-is w.x-is
]

arith-right : (t : ℕ) (c : record_uint-Joined-is_leaf-3 t) → let g = c.args in
    RecordsFrom uint g.inputs.now g.held.now g.node c.in-Arith.b c.in-Uint.next
    c.if-is_leaf-3.y c.if-is_leaf-2.out c.if-is_leaf-3.out
arith-right t c = let g = c.args in elim c.if-is_leaf-3.branch [
  | record_uint-then-is_leaf-3 w ↦
      uint-recorded g.inputs.now g.held.now w.record_leaf-y.ensures w.out-is w.y-is
  | record_uint-else-is_leaf-3 w ↦ same-record w.record_uint-y.ensures w.out-is w.y-is
]

uint-branch : (t : ℕ) (c : record_uint-Joined-is_leaf-4 t) → let g = c.args in
    RecordsFrom uint g.inputs.now g.held.now g.node c.branch_of-j.result c.in-Bool.next
    c.if-is_leaf-4.y c.record_bool-x.new.out c.if-is_leaf-4.out
uint-branch t c = let g = c.args in elim c.if-is_leaf-4.branch [
  | record_uint-then-is_leaf-4 w ↦
      uint-recorded g.inputs.now g.held.now w.record_leaf-y-then-is_leaf-4.ensures w.out-is w.y-is
  | record_uint-else-is_leaf-4 w ↦ same-record w.record_uint-y-else-is_leaf-4.ensures w.out-is w.y-is
]

-- ---- the returns
pub record_bool-returns-then-user-node : goal.record_bool-returns-then-user-node
record_bool-returns-then-user-node t c = search records

pub record_bool-returns-in_default-x : goal.record_bool-returns-in_default-x
record_bool-returns-in_default-x t c = search (
  records,
  answer-no-uint _ c.in_default-x.not-Uint,
  compare-left t (goal.at.record_bool-returns-in_default-x t c).Joined-is_leaf,
)

pub record_bool-returns-in_default-y : goal.record_bool-returns-in_default-y
record_bool-returns-in_default-y t c = search (
  records,
  answer-no-uint _ c.in_default-y.not-Uint,
  compare-left t (goal.at.record_bool-returns-in_default-y t c).Joined-is_leaf,
  compare-right t (goal.at.record_bool-returns-in_default-y t c).Joined-is_leaf-2,
)

pub record_bool-returns-in_default-x-2 : goal.record_bool-returns-in_default-x-2
record_bool-returns-in_default-x-2 t c = search (records, answer-no-bool _ c.in_default-x-2.not-Bool)

pub record_bool-returns-in_default-y-2 : goal.record_bool-returns-in_default-y-2
record_bool-returns-in_default-y-2 t c = search records

pub record_bool-returns-in_default-x-3 : goal.record_bool-returns-in_default-x-3
record_bool-returns-in_default-x-3 t c = search (
  records,
  answer-no-pointer _ c.in_default-x-3.not-Pointer,
  valid-pointer t (goal.at.record_bool-returns-in_default-x-3 t c).Joined-is_leaf-3,
)

pub record_bool-returns-in-Variable : goal.record_bool-returns-in-Variable
record_bool-returns-in-Variable t c = search records

pub record_bool-returns-in-Flag : goal.record_bool-returns-in-Flag
record_bool-returns-in-Flag t c = search records

pub record_bool-returns-in-Uint-y : goal.record_bool-returns-in-Uint-y
record_bool-returns-in-Uint-y t c = search (
  records,
  compare-left t (goal.at.record_bool-returns-in-Uint-y t c).Joined-is_leaf,
  compare-right t (goal.at.record_bool-returns-in-Uint-y t c).Joined-is_leaf-2,
)

pub record_bool-returns-in-Bool-y : goal.record_bool-returns-in-Bool-y
record_bool-returns-in-Bool-y t c = search records

pub record_bool-returns-in-Pointer : goal.record_bool-returns-in-Pointer
record_bool-returns-in-Pointer t c = search (records, valid-pointer t (goal.at.record_bool-returns-in-Pointer t c).Joined-is_leaf-3)

pub record_bool-returns-in_default : goal.record_bool-returns-in_default
record_bool-returns-in_default t c = search (
  records,
  node-no-bool _ c.in_default.not-Variable c.in_default.not-Flag c.in_default.not-Compare c.in_default.not-If c.in_default.not-Valid,
)

pub record_pointer-returns-then-user-node : goal.record_pointer-returns-then-user-node
record_pointer-returns-then-user-node t c = search records

pub record_pointer-returns-in_default-x : goal.record_pointer-returns-in_default-x
record_pointer-returns-in_default-x t c = search (
  records,
  answer-no-pointer _ c.in_default-x.not-Pointer,
  shift-pointer t (goal.at.record_pointer-returns-in_default-x t c).Joined-is_leaf,
)

pub record_pointer-returns-in_default-y : goal.record_pointer-returns-in_default-y
record_pointer-returns-in_default-y t c = search (
  records,
  answer-no-uint _ c.in_default-y.not-Uint,
  shift-pointer t (goal.at.record_pointer-returns-in_default-y t c).Joined-is_leaf,
  shift-by t (goal.at.record_pointer-returns-in_default-y t c).Joined-is_leaf-2,
)

pub record_pointer-returns-in_default-x-2 : goal.record_pointer-returns-in_default-x-2
record_pointer-returns-in_default-x-2 t c = search (records, answer-no-bool _ c.in_default-x-2.not-Bool)

pub record_pointer-returns-in_default-y-2 : goal.record_pointer-returns-in_default-y-2
record_pointer-returns-in_default-y-2 t c = search (records, pointer-branch t (goal.at.record_pointer-returns-in_default-y-2 t c).Joined-is_leaf-3)

pub record_pointer-returns-in-Variable : goal.record_pointer-returns-in-Variable
record_pointer-returns-in-Variable t c = search records

pub record_pointer-returns-in-Uint : goal.record_pointer-returns-in-Uint
record_pointer-returns-in-Uint t c = search (
  records,
  shift-pointer t (goal.at.record_pointer-returns-in-Uint t c).Joined-is_leaf,
  shift-by t (goal.at.record_pointer-returns-in-Uint t c).Joined-is_leaf-2,
)

pub record_pointer-returns-in-Pointer-y : goal.record_pointer-returns-in-Pointer-y
record_pointer-returns-in-Pointer-y t c = search (records, pointer-branch t (goal.at.record_pointer-returns-in-Pointer-y t c).Joined-is_leaf-3)

pub record_pointer-returns-in_default : goal.record_pointer-returns-in_default
record_pointer-returns-in_default t c = search (records, node-no-pointer _ c.in_default.not-Variable c.in_default.not-Arith c.in_default.not-If)

pub record_uint-returns-then-user-node : goal.record_uint-returns-then-user-node
record_uint-returns-then-user-node t c = search records

pub record_uint-returns-in_default-x : goal.record_uint-returns-in_default-x
record_uint-returns-in_default-x t c = search (
  records,
  answer-no-pointer _ c.in_default-x.not-Pointer,
  cell-pointer t (goal.at.record_uint-returns-in_default-x t c).Joined-is_leaf,
)

pub record_uint-returns-in_default-x-2 : goal.record_uint-returns-in_default-x-2
record_uint-returns-in_default-x-2 t c = search (
  records,
  answer-no-uint _ c.in_default-x-2.not-Uint,
  arith-left t (goal.at.record_uint-returns-in_default-x-2 t c).Joined-is_leaf-2,
)

pub record_uint-returns-in_default-y : goal.record_uint-returns-in_default-y
record_uint-returns-in_default-y t c = search (
  records,
  answer-no-uint _ c.in_default-y.not-Uint,
  arith-left t (goal.at.record_uint-returns-in_default-y t c).Joined-is_leaf-2,
  arith-right t (goal.at.record_uint-returns-in_default-y t c).Joined-is_leaf-3,
)

pub record_uint-returns-in_default-x-3 : goal.record_uint-returns-in_default-x-3
record_uint-returns-in_default-x-3 t c = search (records, answer-no-bool _ c.in_default-x-3.not-Bool)

pub record_uint-returns-in_default-y-2 : goal.record_uint-returns-in_default-y-2
record_uint-returns-in_default-y-2 t c = search (records, uint-branch t (goal.at.record_uint-returns-in_default-y-2 t c).Joined-is_leaf-4)

pub record_uint-returns-in-Variable : goal.record_uint-returns-in-Variable
record_uint-returns-in-Variable t c = search records

pub record_uint-returns-in-Constant : goal.record_uint-returns-in-Constant
record_uint-returns-in-Constant t c = search records

pub record_uint-returns-in-Pointer : goal.record_uint-returns-in-Pointer
record_uint-returns-in-Pointer t c = search (records, cell-pointer t (goal.at.record_uint-returns-in-Pointer t c).Joined-is_leaf)

pub record_uint-returns-in-Uint-y : goal.record_uint-returns-in-Uint-y
record_uint-returns-in-Uint-y t c = search (
  records,
  arith-left t (goal.at.record_uint-returns-in-Uint-y t c).Joined-is_leaf-2,
  arith-right t (goal.at.record_uint-returns-in-Uint-y t c).Joined-is_leaf-3,
)

pub record_uint-returns-in-Uint-y-2 : goal.record_uint-returns-in-Uint-y-2
record_uint-returns-in-Uint-y-2 t c = search (records, uint-branch t (goal.at.record_uint-returns-in-Uint-y-2 t c).Joined-is_leaf-4)

pub record_uint-returns-in_default : goal.record_uint-returns-in_default
record_uint-returns-in_default t c = search (
  records,
  node-no-plain-uint _ c.in_default.not-Variable c.in_default.not-Constant c.in_default.not-Cell c.in_default.not-Arith c.in_default.not-If,
)
