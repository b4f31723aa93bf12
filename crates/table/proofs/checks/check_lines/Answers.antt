-- `checks::check_lines` meets its contract: each check in turn.
-- Assumes nothing.
use Prim.Native.Nat.{ℕ}
use mathlib.Core.Path.{◌∙◌}
use mathlib.Core.List.{[], ◌∷◌}
use Rattle.std.proofs.Common.{rules}
use Rattle.std.proofs.iter.Serving.{serving}
use Rattle.std.proofs.lemmas.Result.{err_from_is_err_and}
use Rattle.std.specs.Prelude.{Option}
use Rattle.kinds.specs.Kinds.{machine_of}
use Rattle.kinds.specs.Code.{table_in}
use Rattle.table.specs.Checks.{breaks}
use Rattle.table.specs.Code.{first_of}
use Rattle.table.proofs.CheckLaws.{clean, goes, laid_of, last, stops}
use Rattle.table.proofs.checks.check_lines.Goals as goal

pub returns-in_err-over_lines : goal.returns-in_err-over_lines
unfolding breaks
returns-in_err-over_lines c =
    let a = c.args in
    let m = machine_of a.reduced in
    let t = table_in a.lines in
    let f : ℕ → Option ℕ = λ k. first_of k a.reduced a.lines.words.now a.lines.counts in
    let p = err_from_is_err_and c.from_residual.result c.from_residual.ensures.1 in
    rw (p.1, p.2)
    (stops f 5 (6 ∷ 7 ∷ 8 ∷ []) _ (c.in_err-over_lines.ensures (breaks 5 m t) (search rules)))

pub returns-in_err-over_lines-2 : goal.returns-in_err-over_lines-2
unfolding breaks
returns-in_err-over_lines-2 c =
    let a = c.args in
    let m = machine_of a.reduced in
    let t = table_in a.lines in
    let f : ℕ → Option ℕ = λ k. first_of k a.reduced a.lines.words.now a.lines.counts in
    let p = err_from_is_err_and c.from_residual-in_err-over_lines-2.result c.from_residual-in_err-over_lines-2.ensures.1 in
    rw (p.1, p.2)
    (stops f 6 (7 ∷ 8 ∷ []) _ (c.in_err-over_lines-2.ensures (breaks 6 m t) (search rules))
    ∙ goes f 5 (6 ∷ 7 ∷ 8 ∷ []) (c.in_ok-over_lines.ensures (breaks 5 m t) (search rules)))

pub returns-in_err-over_lines-3 : goal.returns-in_err-over_lines-3
unfolding breaks
returns-in_err-over_lines-3 c =
    let a = c.args in
    let m = machine_of a.reduced in
    let t = table_in a.lines in
    let f : ℕ → Option ℕ = λ k. first_of k a.reduced a.lines.words.now a.lines.counts in
    let p = err_from_is_err_and c.from_residual-in_err-over_lines-3.result c.from_residual-in_err-over_lines-3.ensures.1 in
    rw (p.1, p.2)
    (stops f 7 (8 ∷ []) _ (c.in_err-over_lines-3.ensures (breaks 7 m t) (search rules))
    ∙ goes f 6 (7 ∷ 8 ∷ []) (c.in_ok-over_lines-2.ensures (breaks 6 m t) (search rules))
    ∙ goes f 5 (6 ∷ 7 ∷ 8 ∷ []) (c.in_ok-over_lines.ensures (breaks 5 m t) (search rules)))

pub returns : goal.returns
unfolding breaks
returns c =
    let a = c.args in
    let m = machine_of a.reduced in
    let t = table_in a.lines in
    let f : ℕ → Option ℕ = λ k. first_of k a.reduced a.lines.words.now a.lines.counts in
    last f 8 _ (c.over_lines-4.ensures (breaks 8 m t) (search rules))
    ∙ goes f 7 (8 ∷ []) (c.in_ok-over_lines-3.ensures (breaks 7 m t) (search rules))
    ∙ goes f 6 (7 ∷ 8 ∷ []) (c.in_ok-over_lines-2.ensures (breaks 6 m t) (search rules))
    ∙ goes f 5 (6 ∷ 7 ∷ 8 ∷ []) (c.in_ok-over_lines.ensures (breaks 5 m t) (search rules))

pub over_lines-requires-4 : goal.over_lines-requires-4
unfolding breaks
over_lines-requires-4 c =
    let a = c.args in
    let m = machine_of a.reduced in
    let t = table_in a.lines in
    let f : ℕ → Option ℕ = λ k. first_of k a.reduced a.lines.words.now a.lines.counts in
    let n5 = clean f 5 (c.in_ok-over_lines.ensures (breaks 5 m t) (search rules)) in
    let n6 = clean f 6 (c.in_ok-over_lines-2.ensures (breaks 6 m t) (search rules)) in
    let laid = laid_of a.reduced a.lines.words.now a.lines.counts c.requires.words_len.0 c.requires.words_len.1 n5 n6 in
    grind serving
