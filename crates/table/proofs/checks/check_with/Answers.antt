-- `checks::check_with` meets its contract: each check in turn.
-- Assumes nothing.
use Prim.Native.Nat.{ℕ}
use mathlib.Core.Path.{sym, ◌∙◌}
use mathlib.Core.List.{[], ◌∷◌}
use Rattle.std.proofs.Common.{rules}
use Rattle.std.proofs.lemmas.Result.{err_from_is_err_and}
use Rattle.std.specs.Prelude.{Option}
use Rattle.kinds.specs.Kinds.{machine_of}
use Rattle.kinds.specs.Code.{table_in}
use Rattle.table.specs.Checks.{breaks}
use Rattle.table.specs.Code.{first_of}
use Rattle.table.proofs.CheckLaws.{at_line, clean, eleven, goes, last, nested-of, seventeen, sixteen, stops, ten}
use Rattle.table.proofs.checks.check_with.Goals as goal

pub returns-in_err-over_lines : goal.returns-in_err-over_lines
unfolding breaks
returns-in_err-over_lines c =
    let a = c.args in
    let m = machine_of a.reduced in
    let t = table_in a.lines in
    let f : ℕ → Option ℕ = λ k. first_of k a.reduced a.lines.words.now a.lines.counts in
    let p = err_from_is_err_and c.from_residual.result c.from_residual.ensures.1 in
    rw (p.1, p.2)
    (stops f 9 (10 ∷ 11 ∷ 12 ∷ 16 ∷ 17 ∷ []) _ (c.in_err-over_lines.ensures (breaks 9 m t) (search rules)))

pub returns-in_err-broken_at : goal.returns-in_err-broken_at
unfolding breaks
returns-in_err-broken_at c =
    let a = c.args in
    let m = machine_of a.reduced in
    let t = table_in a.lines in
    let f : ℕ → Option ℕ = λ k. first_of k a.reduced a.lines.words.now a.lines.counts in
    let p = err_from_is_err_and c.from_residual-in_err-broken_at.result c.from_residual-in_err-broken_at.ensures.1 in
    rw (p.1, p.2)
    (stops f 10 (11 ∷ 12 ∷ 16 ∷ 17 ∷ []) _ (at_line 10 c.first_deep.ensures (ten a.reduced a.lines.words.now a.lines.counts) c.in_err-broken_at.ensures)
    ∙ goes f 9 (10 ∷ 11 ∷ 12 ∷ 16 ∷ 17 ∷ []) (c.in_ok-over_lines.ensures (breaks 9 m t) (search rules)))

pub returns-in_err-broken_at-2 : goal.returns-in_err-broken_at-2
unfolding breaks
returns-in_err-broken_at-2 c =
    let a = c.args in
    let m = machine_of a.reduced in
    let t = table_in a.lines in
    let f : ℕ → Option ℕ = λ k. first_of k a.reduced a.lines.words.now a.lines.counts in
    let p = err_from_is_err_and c.from_residual-in_err-broken_at-2.result c.from_residual-in_err-broken_at-2.ensures.1 in
    rw (p.1, p.2)
    (stops f 11 (12 ∷ 16 ∷ 17 ∷ []) _ (at_line 11 c.first_unnested.ensures (eleven a.reduced a.lines.words.now a.lines.counts) c.in_err-broken_at-2.ensures)
    ∙ goes f 10 (11 ∷ 12 ∷ 16 ∷ 17 ∷ []) (at_line 10 c.first_deep.ensures (ten a.reduced a.lines.words.now a.lines.counts) c.in_ok-broken_at.ensures)
    ∙ goes f 9 (10 ∷ 11 ∷ 12 ∷ 16 ∷ 17 ∷ []) (c.in_ok-over_lines.ensures (breaks 9 m t) (search rules)))

pub returns-in_err-over_lines-2 : goal.returns-in_err-over_lines-2
unfolding breaks
returns-in_err-over_lines-2 c =
    let a = c.args in
    let m = machine_of a.reduced in
    let t = table_in a.lines in
    let f : ℕ → Option ℕ = λ k. first_of k a.reduced a.lines.words.now a.lines.counts in
    let p = err_from_is_err_and c.from_residual-in_err-over_lines-2.result c.from_residual-in_err-over_lines-2.ensures.1 in
    rw (p.1, p.2)
    (stops f 12 (16 ∷ 17 ∷ []) _ (c.in_err-over_lines-2.ensures (breaks 12 m t) (search rules))
    ∙ goes f 11 (12 ∷ 16 ∷ 17 ∷ []) (at_line 11 c.first_unnested.ensures (eleven a.reduced a.lines.words.now a.lines.counts) c.in_ok-broken_at-2.ensures)
    ∙ goes f 10 (11 ∷ 12 ∷ 16 ∷ 17 ∷ []) (at_line 10 c.first_deep.ensures (ten a.reduced a.lines.words.now a.lines.counts) c.in_ok-broken_at.ensures)
    ∙ goes f 9 (10 ∷ 11 ∷ 12 ∷ 16 ∷ 17 ∷ []) (c.in_ok-over_lines.ensures (breaks 9 m t) (search rules)))

pub returns-in_err-broken_at-3 : goal.returns-in_err-broken_at-3
unfolding breaks
returns-in_err-broken_at-3 c =
    let a = c.args in
    let m = machine_of a.reduced in
    let t = table_in a.lines in
    let f : ℕ → Option ℕ = λ k. first_of k a.reduced a.lines.words.now a.lines.counts in
    let p = err_from_is_err_and c.from_residual-in_err-broken_at-3.result c.from_residual-in_err-broken_at-3.ensures.1 in
    rw (p.1, p.2)
    (stops f 16 (17 ∷ []) _ (at_line 16 c.first_shared.ensures (sixteen a.reduced a.lines.words.now a.lines.counts) c.in_err-broken_at-3.ensures)
    ∙ goes f 12 (16 ∷ 17 ∷ []) (c.in_ok-over_lines-2.ensures (breaks 12 m t) (search rules))
    ∙ goes f 11 (12 ∷ 16 ∷ 17 ∷ []) (at_line 11 c.first_unnested.ensures (eleven a.reduced a.lines.words.now a.lines.counts) c.in_ok-broken_at-2.ensures)
    ∙ goes f 10 (11 ∷ 12 ∷ 16 ∷ 17 ∷ []) (at_line 10 c.first_deep.ensures (ten a.reduced a.lines.words.now a.lines.counts) c.in_ok-broken_at.ensures)
    ∙ goes f 9 (10 ∷ 11 ∷ 12 ∷ 16 ∷ 17 ∷ []) (c.in_ok-over_lines.ensures (breaks 9 m t) (search rules)))

pub returns : goal.returns
unfolding breaks
returns c =
    let a = c.args in
    let m = machine_of a.reduced in
    let t = table_in a.lines in
    let f : ℕ → Option ℕ = λ k. first_of k a.reduced a.lines.words.now a.lines.counts in
    last f 17 _ (at_line 17 c.first_misplaced.ensures (seventeen a.reduced a.lines.words.now a.lines.counts) c.broken_at-4.ensures)
    ∙ goes f 16 (17 ∷ []) (at_line 16 c.first_shared.ensures (sixteen a.reduced a.lines.words.now a.lines.counts) c.in_ok-broken_at-3.ensures)
    ∙ goes f 12 (16 ∷ 17 ∷ []) (c.in_ok-over_lines-2.ensures (breaks 12 m t) (search rules))
    ∙ goes f 11 (12 ∷ 16 ∷ 17 ∷ []) (at_line 11 c.first_unnested.ensures (eleven a.reduced a.lines.words.now a.lines.counts) c.in_ok-broken_at-2.ensures)
    ∙ goes f 10 (11 ∷ 12 ∷ 16 ∷ 17 ∷ []) (at_line 10 c.first_deep.ensures (ten a.reduced a.lines.words.now a.lines.counts) c.in_ok-broken_at.ensures)
    ∙ goes f 9 (10 ∷ 11 ∷ 12 ∷ 16 ∷ 17 ∷ []) (c.in_ok-over_lines.ensures (breaks 9 m t) (search rules))

pub first_shared-requires : goal.first_shared-requires
first_shared-requires c =
    let a = c.args in
    let laid = c.requires.in_sorts.0 in
    let f : ℕ → Option ℕ = λ k. first_of k a.reduced a.lines.words.now a.lines.counts in
    let none = clean f 11 (at_line 11 c.first_unnested.ensures (eleven a.reduced a.lines.words.now a.lines.counts) c.in_ok-broken_at-2.ensures) in
    (laid, nested-of a.lines.words.now a.lines.counts laid (sym (eleven a.reduced a.lines.words.now a.lines.counts) ∙ none))
