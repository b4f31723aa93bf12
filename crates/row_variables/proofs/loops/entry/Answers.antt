-- By whether the iterator takes the start, whether the loop is entered, and the way out.
-- Assumes nothing.
use borrow.Author.Tests.{le-leb, lt-leb}
use Rattle.row_kinds.specs.CodeRows.{entry_of}
use Rattle.row_kinds.proofs.LoopLaws.{way-near}
use borrow.Author.Rules.{rules}
use Rattle.row_variables.proofs.loops.entry.Goals as goal

pub returns-then-from-upto : goal.returns-then-from-upto
unfolding entry_of
returns-then-from-upto c =
    rw (
      ← c.row_word-a.ensures,
      ← c.iterator_form.ensures,
      ← c.number_of.ensures,
      ← c.iterator_number-v.ensures,
      ← c.fits.ensures,
      c.if-fits.true,
      le-leb _ _ c.if-from-upto.true,
    )

pub returns-in_default : goal.returns-in_default
unfolding entry_of
returns-in_default c =
    rw (
      ← c.row_word-a.ensures,
      ← c.iterator_form.ensures,
      ← c.number_of.ensures,
      ← c.fits.ensures,
      c.if-fits.true,
      lt-leb _ _ c.if-from-upto.false,
      ← c.way_out-x.ensures,
      c.in_default.is,
    )

pub overflow_cast-result : goal.overflow_cast-result
overflow_cast-result c =
    let h = way-near c.args.inputs.now.own.now c.args.inputs.now.machine.now.row c.args.row c.args.again c.requires.1 c.requires.2 c.way_out-x.ensures
    c.in-Some.is in
    search rules

pub returns-then-fits : goal.returns-then-fits
unfolding entry_of
returns-then-fits c =
    rw (
      ← c.row_word-a.ensures,
      ← c.iterator_form.ensures,
      ← c.number_of.ensures,
      ← c.iterator_number-v.ensures,
      ← c.fits.ensures,
      c.if-fits.true,
      lt-leb _ _ c.if-from-upto.false,
      ← c.way_out-x.ensures,
      c.in-Some.is,
    )

pub returns : goal.returns
unfolding entry_of
returns c =
    rw (← c.row_word-a.ensures, ← c.iterator_form.ensures, ← c.number_of.ensures, ← c.fits.ensures, c.if-fits.false)
