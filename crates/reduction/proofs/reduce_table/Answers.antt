-- The checks are made in the definition's order, and the lent table is written only after all of them.
-- Assumes nothing.
use mathlib.Core.Path.{refl, ◌∙◌}
use Rattle.std.proofs.lemmas.Result.{err_from_is_err_and}
use Rattle.reduction.proofs.ReductionLaws.{by-table, by-pair, by_size, reduced}
use Rattle.reduction.proofs.reduce_table.Goals as goal

pub returns-in_err-check_table-clause-answer : goal.returns-in_err-check_table-clause-answer
returns-in_err-check_table-clause-answer c =
    let p = err_from_is_err_and c.from_residual.result c.from_residual.ensures.1 in
    rw (p.1, p.2) (by-table _ _ _ _ c.in_err-check_table.ensures refl).0

pub returns-in_err-check_table-clause-buffer : goal.returns-in_err-check_table-clause-buffer
returns-in_err-check_table-clause-buffer c = (by-table _ _ _ _ c.in_err-check_table.ensures refl).1

pub returns-in_err-check_pair-clause-answer : goal.returns-in_err-check_pair-clause-answer
returns-in_err-check_pair-clause-answer c =
    let residual = c.from_residual-in_err-check_pair in
    let p = err_from_is_err_and residual.result residual.ensures.1 in
    rw (p.1, p.2) (by-pair _ _ _ c.in_ok-check_table.ensures refl _ c.in_err-check_pair.ensures refl).0

pub returns-in_err-check_pair-clause-buffer : goal.returns-in_err-check_pair-clause-buffer
returns-in_err-check_pair-clause-buffer c = (by-pair _ _ _ c.in_ok-check_table.ensures refl _ c.in_err-check_pair.ensures refl).1

pub returns-then-lent-words-clause-answer : goal.returns-then-lent-words-clause-answer
returns-then-lent-words-clause-answer c =
    c.of_whole.ensures ∙ (by_size _ _ _ c.in_ok-check_table.ensures refl c.in_ok-check_pair.ensures refl c.if-lent-words.true).0

pub returns-then-lent-words-clause-buffer : goal.returns-then-lent-words-clause-buffer
returns-then-lent-words-clause-buffer c = (by_size _ _ _ c.in_ok-check_table.ensures refl c.in_ok-check_pair.ensures refl c.if-lent-words.true).1

pub returns-clause-answer : goal.returns-clause-answer
returns-clause-answer c =
    (reduced _ _ _ c.in_ok-check_table.ensures refl c.in_ok-check_pair.ensures refl c.if-lent-words.false _ c.reduce_words.ensures).0

pub returns-clause-buffer : goal.returns-clause-buffer
returns-clause-buffer c =
    (reduced _ _ _ c.in_ok-check_table.ensures refl c.in_ok-check_pair.ensures refl c.if-lent-words.false _ c.reduce_words.ensures).1
