-- `check_table` meets its contract: 4, then the checks in two parts.
-- Assumes nothing.
use Prim.Native.Nat.{ℕ}
use mathlib.Core.Path.{sym, ◌∙◌}
use mathlib.Core.List.{[], ◌∷◌}
use borrow.Author.Tests.{ne_eqb}
use Rattle.std.proofs.lemmas.Result.{err_from_is_err_and}
use Rattle.std.specs.Prelude.{Option}
use Rattle.table.specs.Checks.{table_check}
use Rattle.table.specs.Code.{first_of}
use Rattle.table.proofs.CheckLaws.{early, late, laid_of, no_more, passed, then-more, there-of, whole-check}
use Rattle.table.proofs.check_table.Goals as goal

pub returns-then-words-ne0 : goal.returns-then-words-ne0
unfolding table_check
returns-then-words-ne0 c = rw (ne_eqb _ _ c.if-words-ne0.true) c.of_whole.ensures

pub returns-in_err-check_lines : goal.returns-in_err-check_lines
returns-in_err-check_lines c =
    let r = c.args.reduced in
    let w = c.args.words.now in
    let n = c.counts_of-counts.result in
    let f : ℕ → Option ℕ = λ k. first_of k r w n in
    let whole = whole-check r w n c.if-words-ne0.false c.counts_of-counts.ensures.value in
    let p = err_from_is_err_and c.from_residual.result c.from_residual.ensures.1 in
    rw (p.1, p.2)
    (sym (whole ∙ no_more f early late _ _ (sym c.in_err-check_lines.ensures)))

pub check_senses-requires : goal.check_senses-requires
check_senses-requires c =
    let r = c.args.reduced in
    let w = c.args.words.now in
    let n = c.counts_of-counts.result in
    let f : ℕ → Option ℕ = λ k. first_of k r w n in
    let p5 = passed f 5 (6 ∷ 7 ∷ 8 ∷ []) (sym c.in_ok-check_lines.ensures) in
    let p6 = passed f 6 (7 ∷ 8 ∷ []) p5.1 in
    let p8 = passed f 8 [] (passed f 7 (8 ∷ []) p6.1).1 in
    let laid = laid_of r w n c.if-words-ne0.false c.counts_of-counts.ensures.value p5.0 p6.0 in
    (laid, there-of r w n laid p8.0)

pub returns : goal.returns
returns c =
    let r = c.args.reduced in
    let w = c.args.words.now in
    let n = c.counts_of-counts.result in
    let f : ℕ → Option ℕ = λ k. first_of k r w n in
    let whole = whole-check r w n c.if-words-ne0.false c.counts_of-counts.ensures.value in
    c.check_senses.ensures ∙ sym (whole ∙ then-more f early late (sym c.in_ok-check_lines.ensures))
