-- By the type of the variable.
-- Assumes nothing.
use mathlib.Core.Path.{ap, sym, ◌∙◌}
use Rattle.model.specs.Table.{type_of}
use Rattle.recording_rows.proofs.RowLaws.{records-bool, records-uint, records-pointer}
use Rattle.recording_rows.proofs.record_assign.Goals as goal

pub returns-in-Bool : goal.returns-in-Bool
returns-in-Bool c =
    let a = c.args in
    let e = a.inputs.now in
    λ d. records-bool e.own.now e.machine.now e.cells.now a.held.now a.out.now _ a.a a.b d _
    c.requires.own_bound.0 c.requires.ns_len.0 c.requires.ns_len.1 (ap type_of (sym c.word_or_zero-kind.ensures) ∙ sym c.in-Bool.ensures) c.record_bool.ensures
    c.put_bool.ensures

pub returns-in-Uint : goal.returns-in-Uint
returns-in-Uint c =
    let a = c.args in
    let e = a.inputs.now in
    λ d. records-uint e.own.now e.machine.now e.cells.now a.held.now a.out.now _ a.a a.b d _
    c.requires.own_bound.0 c.requires.ns_len.0 c.requires.ns_len.1 c.requires.own_bound.3 (ap type_of (sym c.word_or_zero-kind.ensures) ∙ sym c.in-Uint.ensures)
    c.record_uint.ensures c.put_uint.ensures

pub returns-in-Pointer : goal.returns-in-Pointer
returns-in-Pointer c =
    let a = c.args in
    let e = a.inputs.now in
    λ d. records-pointer e.own.now e.machine.now e.cells.now a.held.now a.out.now _ a.a a.b d _
    c.requires.own_bound.0 c.requires.ns_len.0 c.requires.ns_len.1
    (ap type_of (sym c.word_or_zero-kind.ensures) ∙ sym c.in-Pointer.ensures)
    c.record_pointer.ensures c.put_pointer.ensures
