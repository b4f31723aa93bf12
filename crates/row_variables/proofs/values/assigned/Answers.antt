-- By the type of the variable.
-- Assumes nothing.
use mathlib.Core.Path.{ap, sym, ◌∙◌}
use Rattle.model.specs.Table.{type_of}
use Rattle.row_kinds.proofs.PutLaws.{puts-bool, puts-uint, puts-pointer}
use Rattle.row_variables.proofs.values.assigned.Goals as goal

pub returns-in-Bool : goal.returns-in-Bool
returns-in-Bool c =
    let a = c.args in
    let e = a.inputs.now in
    λ row opened d stack rows starts ends. rw c.put_bool.ensures
    (puts-bool e.own.now stack _ e.cells.now e.list.now c.requires.own_bound.0 c.requires.ns_len.0 c.requires.ns_len.1 a.a a.b d _ _
    (ap type_of (sym c.word_or_zero-kind.ensures) ∙ sym c.in-Bool.ensures) c.bool_at.ensures)

pub returns-in-Uint : goal.returns-in-Uint
returns-in-Uint c =
    let a = c.args in
    let e = a.inputs.now in
    λ row opened d stack rows starts ends. rw c.put_uint.ensures
    (puts-uint e.own.now stack _ e.cells.now e.list.now c.requires.own_bound.0 c.requires.ns_len.0 c.requires.ns_len.1 a.a a.b d _ _ c.requires.own_bound.3
    (ap type_of (sym c.word_or_zero-kind.ensures) ∙ sym c.in-Uint.ensures) c.uint_at.ensures)

pub returns-in-Pointer : goal.returns-in-Pointer
returns-in-Pointer c =
    let a = c.args in
    let e = a.inputs.now in
    λ row opened d stack rows starts ends. rw c.put_pointer.ensures
    (puts-pointer e.own.now stack _ e.cells.now e.list.now c.requires.own_bound.0 c.requires.ns_len.0 c.requires.ns_len.1 a.a a.b d _ _
    (ap type_of (sym c.word_or_zero-kind.ensures) ∙ sym c.in-Pointer.ensures) c.pointer_at.ensures)
