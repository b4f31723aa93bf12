-- The three evaluators: what each gives is the rule of the node that it read, by `search answers`. Where an operand came by one of two ways, as a
-- leaf or from the cycle, each of them says the same of it.
-- Assumes nothing.
use Rattle.model.specs.Table.Ty.{uint, pointer}
use Rattle.evaluators.specs.CodeInputs.{WorksOutFrom}
use Rattle.evaluators.proofs.InputLaws.{uint-worked, pointer-worked, cycle-worked}
use Rattle.evaluators.proofs.OtherAnswers.{answer-no-bool, answer-no-pointer, answer-no-uint}
use Rattle.evaluators.proofs.OtherNodes.{node-no-bool, node-no-pointer, node-no-uint}
use Rattle.evaluators.proofs.NodeLaws.{answers}
use Rattle.node_cycle.proofs.+bool_at_pointer_at_uint_at.Goals as goal
use Rattle.node_cycle.proofs.+bool_at_pointer_at_uint_at.Goals.{bool_at-then-is_leaf, bool_at-then-is_leaf-2, bool_at-then-is_leaf-3}
use Rattle.node_cycle.proofs.+bool_at_pointer_at_uint_at.Goals.{bool_at-else-is_leaf, bool_at-else-is_leaf-2, bool_at-else-is_leaf-3}
use Rattle.node_cycle.proofs.+bool_at_pointer_at_uint_at.Goals.{pointer_at-then-is_leaf, pointer_at-then-is_leaf-2, pointer_at-then-is_leaf-3}
use Rattle.node_cycle.proofs.+bool_at_pointer_at_uint_at.Goals.{pointer_at-else-is_leaf, pointer_at-else-is_leaf-2, pointer_at-else-is_leaf-3}
use Rattle.node_cycle.proofs.+bool_at_pointer_at_uint_at.Goals.{uint_at-then-is_leaf, uint_at-then-is_leaf-2, uint_at-then-is_leaf-3, uint_at-then-is_leaf-4}
use Rattle.node_cycle.proofs.+bool_at_pointer_at_uint_at.Goals.{uint_at-else-is_leaf, uint_at-else-is_leaf-2, uint_at-else-is_leaf-3, uint_at-else-is_leaf-4}

pub bool_at-returns-then-user-node : goal.bool_at-returns-then-user-node
bool_at-returns-then-user-node t c = search answers

pub bool_at-returns-in_default-x : goal.bool_at-returns-in_default-x
bool_at-returns-in_default-x t c =
    let e = c.args.inputs.now in
    let first : WorksOutFrom uint e c.args.node _ _ c.if-is_leaf.x = elim c.if-is_leaf.branch [
      | bool_at-then-is_leaf w ↦ uint-worked e w.uint_leaf-x.ensures w.x-is
      | bool_at-else-is_leaf w ↦ cycle-worked e uint _ _ _ w.uint_at-x.ensures w.x-is
    ] in
    search (answers, answer-no-uint _ c.in_default-x.not-Uint, first)

pub bool_at-returns-in_default-y : goal.bool_at-returns-in_default-y
bool_at-returns-in_default-y t c =
    let e = c.args.inputs.now in
    let first : WorksOutFrom uint e c.args.node _ _ c.if-is_leaf.x = elim c.if-is_leaf.branch [
      | bool_at-then-is_leaf w ↦ uint-worked e w.uint_leaf-x.ensures w.x-is
      | bool_at-else-is_leaf w ↦ cycle-worked e uint _ _ _ w.uint_at-x.ensures w.x-is
    ] in
    let second : WorksOutFrom uint e c.args.node _ _ c.if-is_leaf-2.y = elim c.if-is_leaf-2.branch [
      | bool_at-then-is_leaf-2 w ↦ uint-worked e w.uint_leaf-y.ensures w.y-is
      | bool_at-else-is_leaf-2 w ↦ cycle-worked e uint _ _ _ w.uint_at-y.ensures w.y-is
    ] in
    search (answers, answer-no-uint _ c.in_default-y.not-Uint, first, second)

pub bool_at-returns-in_default-x-2 : goal.bool_at-returns-in_default-x-2
bool_at-returns-in_default-x-2 t c = search (answers, answer-no-bool _ c.in_default-x-2.not-Bool)

pub bool_at-returns-in_default-y-2 : goal.bool_at-returns-in_default-y-2
bool_at-returns-in_default-y-2 t c = search answers

pub bool_at-returns-in_default-x-3 : goal.bool_at-returns-in_default-x-3
bool_at-returns-in_default-x-3 t c =
    let e = c.args.inputs.now in
    let first : WorksOutFrom pointer e c.args.node _ _ c.if-is_leaf-3.x = elim c.if-is_leaf-3.branch [
      | bool_at-then-is_leaf-3 w ↦ pointer-worked e w.pointer_leaf-x.ensures w.x-is
      | bool_at-else-is_leaf-3 w ↦ cycle-worked e pointer _ _ _ w.pointer_at-x.ensures w.x-is
    ] in
    search (answers, answer-no-pointer _ c.in_default-x-3.not-Pointer, first)

pub bool_at-returns-in-Variable : goal.bool_at-returns-in-Variable
bool_at-returns-in-Variable t c = search answers

pub bool_at-returns-in-Flag : goal.bool_at-returns-in-Flag
bool_at-returns-in-Flag t c = search answers

pub bool_at-returns-in-Uint-y : goal.bool_at-returns-in-Uint-y
bool_at-returns-in-Uint-y t c =
    let e = c.args.inputs.now in
    let first : WorksOutFrom uint e c.args.node _ _ c.if-is_leaf.x = elim c.if-is_leaf.branch [
      | bool_at-then-is_leaf w ↦ uint-worked e w.uint_leaf-x.ensures w.x-is
      | bool_at-else-is_leaf w ↦ cycle-worked e uint _ _ _ w.uint_at-x.ensures w.x-is
    ] in
    let second : WorksOutFrom uint e c.args.node _ _ c.if-is_leaf-2.y = elim c.if-is_leaf-2.branch [
      | bool_at-then-is_leaf-2 w ↦ uint-worked e w.uint_leaf-y.ensures w.y-is
      | bool_at-else-is_leaf-2 w ↦ cycle-worked e uint _ _ _ w.uint_at-y.ensures w.y-is
    ] in
    search (answers, first, second)

pub bool_at-returns-in-Bool-y : goal.bool_at-returns-in-Bool-y
bool_at-returns-in-Bool-y t c = search answers

pub bool_at-returns-in-Pointer : goal.bool_at-returns-in-Pointer
bool_at-returns-in-Pointer t c =
    let e = c.args.inputs.now in
    let first : WorksOutFrom pointer e c.args.node _ _ c.if-is_leaf-3.x = elim c.if-is_leaf-3.branch [
      | bool_at-then-is_leaf-3 w ↦ pointer-worked e w.pointer_leaf-x.ensures w.x-is
      | bool_at-else-is_leaf-3 w ↦ cycle-worked e pointer _ _ _ w.pointer_at-x.ensures w.x-is
    ] in
    search (answers, first)

pub bool_at-returns-in_default : goal.bool_at-returns-in_default
bool_at-returns-in_default t c = search (answers, node-no-bool _ c.in_default.not-Variable c.in_default.not-Flag c.in_default.not-Compare c.in_default.not-If c.in_default.not-Valid)

pub pointer_at-returns-then-user-node : goal.pointer_at-returns-then-user-node
pointer_at-returns-then-user-node t c = search answers

pub pointer_at-returns-in_default-x : goal.pointer_at-returns-in_default-x
pointer_at-returns-in_default-x t c =
    let e = c.args.inputs.now in
    let first : WorksOutFrom pointer e c.args.node _ _ c.if-is_leaf.x = elim c.if-is_leaf.branch [
      | pointer_at-then-is_leaf w ↦ pointer-worked e w.pointer_leaf-x.ensures w.x-is
      | pointer_at-else-is_leaf w ↦ cycle-worked e pointer _ _ _ w.pointer_at-x.ensures w.x-is
    ] in
    search (answers, answer-no-pointer _ c.in_default-x.not-Pointer, first)

pub pointer_at-returns-in_default-y : goal.pointer_at-returns-in_default-y
pointer_at-returns-in_default-y t c =
    let e = c.args.inputs.now in
    let first : WorksOutFrom pointer e c.args.node _ _ c.if-is_leaf.x = elim c.if-is_leaf.branch [
      | pointer_at-then-is_leaf w ↦ pointer-worked e w.pointer_leaf-x.ensures w.x-is
      | pointer_at-else-is_leaf w ↦ cycle-worked e pointer _ _ _ w.pointer_at-x.ensures w.x-is
    ] in
    let second : WorksOutFrom uint e c.args.node _ _ c.if-is_leaf-2.y = elim c.if-is_leaf-2.branch [
      | pointer_at-then-is_leaf-2 w ↦ uint-worked e w.uint_leaf-y.ensures w.y-is
      | pointer_at-else-is_leaf-2 w ↦ cycle-worked e uint _ _ _ w.uint_at-y.ensures w.y-is
    ] in
    search (answers, answer-no-uint _ c.in_default-y.not-Uint, first, second)

pub pointer_at-returns-in_default-x-2 : goal.pointer_at-returns-in_default-x-2
pointer_at-returns-in_default-x-2 t c = search (answers, answer-no-bool _ c.in_default-x-2.not-Bool)

pub pointer_at-returns-in_default-y-2 : goal.pointer_at-returns-in_default-y-2
pointer_at-returns-in_default-y-2 t c =
    let e = c.args.inputs.now in
    let taken : WorksOutFrom pointer e c.args.node _ _ c.if-is_leaf-3.y = elim c.if-is_leaf-3.branch [
      | pointer_at-then-is_leaf-3 w ↦ pointer-worked e w.pointer_leaf-y.ensures w.y-is
      | pointer_at-else-is_leaf-3 w ↦ cycle-worked e pointer _ _ _ w.pointer_at-y.ensures w.y-is
    ] in
    search (answers, taken)

pub pointer_at-returns-in-Variable : goal.pointer_at-returns-in-Variable
pointer_at-returns-in-Variable t c = search answers

pub pointer_at-returns-in-Uint : goal.pointer_at-returns-in-Uint
pointer_at-returns-in-Uint t c =
    let e = c.args.inputs.now in
    let first : WorksOutFrom pointer e c.args.node _ _ c.if-is_leaf.x = elim c.if-is_leaf.branch [
      | pointer_at-then-is_leaf w ↦ pointer-worked e w.pointer_leaf-x.ensures w.x-is
      | pointer_at-else-is_leaf w ↦ cycle-worked e pointer _ _ _ w.pointer_at-x.ensures w.x-is
    ] in
    let second : WorksOutFrom uint e c.args.node _ _ c.if-is_leaf-2.y = elim c.if-is_leaf-2.branch [
      | pointer_at-then-is_leaf-2 w ↦ uint-worked e w.uint_leaf-y.ensures w.y-is
      | pointer_at-else-is_leaf-2 w ↦ cycle-worked e uint _ _ _ w.uint_at-y.ensures w.y-is
    ] in
    search (answers, first, second)

pub pointer_at-returns-in-Pointer-y : goal.pointer_at-returns-in-Pointer-y
pointer_at-returns-in-Pointer-y t c =
    let e = c.args.inputs.now in
    let taken : WorksOutFrom pointer e c.args.node _ _ c.if-is_leaf-3.y = elim c.if-is_leaf-3.branch [
      | pointer_at-then-is_leaf-3 w ↦ pointer-worked e w.pointer_leaf-y.ensures w.y-is
      | pointer_at-else-is_leaf-3 w ↦ cycle-worked e pointer _ _ _ w.pointer_at-y.ensures w.y-is
    ] in
    search (answers, taken)

pub pointer_at-returns-in_default : goal.pointer_at-returns-in_default
pointer_at-returns-in_default t c = search (answers, node-no-pointer _ c.in_default.not-Variable c.in_default.not-Arith c.in_default.not-If)

pub uint_at-returns-then-user-node : goal.uint_at-returns-then-user-node
uint_at-returns-then-user-node t c = search answers

pub uint_at-returns-in_default-x : goal.uint_at-returns-in_default-x
uint_at-returns-in_default-x t c =
    let e = c.args.inputs.now in
    let first : WorksOutFrom pointer e c.args.node _ _ c.if-is_leaf.x = elim c.if-is_leaf.branch [
      | uint_at-then-is_leaf w ↦ pointer-worked e w.pointer_leaf-x.ensures w.x-is
      | uint_at-else-is_leaf w ↦ cycle-worked e pointer _ _ _ w.pointer_at-x.ensures w.x-is
    ] in
    search (answers, answer-no-pointer _ c.in_default-x.not-Pointer, first)

pub uint_at-returns-in_default-x-2 : goal.uint_at-returns-in_default-x-2
uint_at-returns-in_default-x-2 t c =
    let e = c.args.inputs.now in
    let first : WorksOutFrom uint e c.args.node _ _ c.if-is_leaf-2.x = elim c.if-is_leaf-2.branch [
      | uint_at-then-is_leaf-2 w ↦ uint-worked e w.uint_leaf-x.ensures w.x-is
      | uint_at-else-is_leaf-2 w ↦ cycle-worked e uint _ _ _ w.uint_at-x.ensures w.x-is
    ] in
    search (answers, answer-no-uint _ c.in_default-x-2.not-Uint, first)

pub uint_at-returns-in_default-y : goal.uint_at-returns-in_default-y
uint_at-returns-in_default-y t c =
    let e = c.args.inputs.now in
    let first : WorksOutFrom uint e c.args.node _ _ c.if-is_leaf-2.x = elim c.if-is_leaf-2.branch [
      | uint_at-then-is_leaf-2 w ↦ uint-worked e w.uint_leaf-x.ensures w.x-is
      | uint_at-else-is_leaf-2 w ↦ cycle-worked e uint _ _ _ w.uint_at-x.ensures w.x-is
    ] in
    let second : WorksOutFrom uint e c.args.node _ _ c.if-is_leaf-3.y = elim c.if-is_leaf-3.branch [
      | uint_at-then-is_leaf-3 w ↦ uint-worked e w.uint_leaf-y.ensures w.y-is
      | uint_at-else-is_leaf-3 w ↦ cycle-worked e uint _ _ _ w.uint_at-y.ensures w.y-is
    ] in
    search (answers, answer-no-uint _ c.in_default-y.not-Uint, first, second)

pub uint_at-returns-in_default-x-3 : goal.uint_at-returns-in_default-x-3
uint_at-returns-in_default-x-3 t c = search (answers, answer-no-bool _ c.in_default-x-3.not-Bool)

pub uint_at-returns-in_default-y-2 : goal.uint_at-returns-in_default-y-2
uint_at-returns-in_default-y-2 t c =
    let e = c.args.inputs.now in
    let taken : WorksOutFrom uint e c.args.node _ _ c.if-is_leaf-4.y = elim c.if-is_leaf-4.branch [
      | uint_at-then-is_leaf-4 w ↦ uint-worked e w.uint_leaf-y-then-is_leaf-4.ensures w.y-is
      | uint_at-else-is_leaf-4 w ↦ cycle-worked e uint _ _ _ w.uint_at-y-else-is_leaf-4.ensures w.y-is
    ] in
    search (answers, taken)

pub uint_at-returns-in-Variable : goal.uint_at-returns-in-Variable
uint_at-returns-in-Variable t c = search answers

pub uint_at-returns-in-Constant : goal.uint_at-returns-in-Constant
uint_at-returns-in-Constant t c = search answers

pub uint_at-returns-in-Pointer : goal.uint_at-returns-in-Pointer
uint_at-returns-in-Pointer t c =
    let e = c.args.inputs.now in
    let first : WorksOutFrom pointer e c.args.node _ _ c.if-is_leaf.x = elim c.if-is_leaf.branch [
      | uint_at-then-is_leaf w ↦ pointer-worked e w.pointer_leaf-x.ensures w.x-is
      | uint_at-else-is_leaf w ↦ cycle-worked e pointer _ _ _ w.pointer_at-x.ensures w.x-is
    ] in
    search (answers, first)

pub uint_at-returns-in-Uint-y : goal.uint_at-returns-in-Uint-y
uint_at-returns-in-Uint-y t c =
    let e = c.args.inputs.now in
    let first : WorksOutFrom uint e c.args.node _ _ c.if-is_leaf-2.x = elim c.if-is_leaf-2.branch [
      | uint_at-then-is_leaf-2 w ↦ uint-worked e w.uint_leaf-x.ensures w.x-is
      | uint_at-else-is_leaf-2 w ↦ cycle-worked e uint _ _ _ w.uint_at-x.ensures w.x-is
    ] in
    let second : WorksOutFrom uint e c.args.node _ _ c.if-is_leaf-3.y = elim c.if-is_leaf-3.branch [
      | uint_at-then-is_leaf-3 w ↦ uint-worked e w.uint_leaf-y.ensures w.y-is
      | uint_at-else-is_leaf-3 w ↦ cycle-worked e uint _ _ _ w.uint_at-y.ensures w.y-is
    ] in
    search (answers, first, second)

pub uint_at-returns-in-Uint-y-2 : goal.uint_at-returns-in-Uint-y-2
uint_at-returns-in-Uint-y-2 t c =
    let e = c.args.inputs.now in
    let taken : WorksOutFrom uint e c.args.node _ _ c.if-is_leaf-4.y = elim c.if-is_leaf-4.branch [
      | uint_at-then-is_leaf-4 w ↦ uint-worked e w.uint_leaf-y-then-is_leaf-4.ensures w.y-is
      | uint_at-else-is_leaf-4 w ↦ cycle-worked e uint _ _ _ w.uint_at-y-else-is_leaf-4.ensures w.y-is
    ] in
    search (answers, taken)

pub uint_at-returns-in-InClass : goal.uint_at-returns-in-InClass
uint_at-returns-in-InClass t c = search answers

pub uint_at-returns-in_default : goal.uint_at-returns-in_default
uint_at-returns-in_default t c = search (answers, node-no-uint _ c.in_default.not-Variable c.in_default.not-Constant c.in_default.not-Cell c.in_default.not-Arith c.in_default.not-If c.in_default.not-InClass)
