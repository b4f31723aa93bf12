-- By the type, the machine and the mark.
-- Assumes nothing.
use mathlib.Core.Path.{ap, sym, ◌∙◌}
use Rattle.model.specs.Table.{type_of}
use Rattle.prepared.proofs.FormLaws.{bool-is, uint-is, pointer-is, form-bool, form-pointer, form-unmarked, form-plain, form-class}
use Rattle.prepared.proofs.forms.form_of.Goals as goal

pub returns-in-Bool : goal.returns-in-Bool
returns-in-Bool c = form-bool _ _ _ (bool-is _ (ap type_of (sym c.word_or_zero-kind.ensures) ∙ sym c.in-Bool.ensures))

pub returns-in-Uint : goal.returns-in-Uint
returns-in-Uint c =
    form-class _ _ _ (uint-is _ (ap type_of (sym c.word_or_zero-kind.ensures) ∙ sym c.in-Uint.ensures)) c.if-f.true
    (sym c.word_or_zero-mark.ensures ∙ c.if-mark-eq1.true)

pub returns-in-Uint-2 : goal.returns-in-Uint-2
returns-in-Uint-2 c =
    form-unmarked _ _ _ (uint-is _ (ap type_of (sym c.word_or_zero-kind.ensures) ∙ sym c.in-Uint.ensures))
    (λ e. c.if-mark-eq1.false (c.word_or_zero-mark.ensures ∙ e))

pub returns-in-Uint-2-2 : goal.returns-in-Uint-2-2
returns-in-Uint-2-2 c = form-plain _ _ _ (uint-is _ (ap type_of (sym c.word_or_zero-kind.ensures) ∙ sym c.in-Uint.ensures)) c.if-f.false

pub returns-in-Pointer : goal.returns-in-Pointer
returns-in-Pointer c =
    let e = ap type_of (sym c.word_or_zero-kind.ensures) ∙ sym c.in-Pointer.ensures in
    form-pointer _ _ _ (pointer-is _ e).0 (pointer-is _ e).1
