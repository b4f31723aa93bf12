-- Each answer is the branch of the definition that its checks choose.
use Rattle.std.proofs.Common.{arith, sym, ◌∙◌, rules}
use Rattle.std.proofs.lemmas.Result.{err_from_is_err_and}
use Rattle.file.specs.Reading.{wrong_check, wrong_block}
use Rattle.file.proofs.ReadingLaws.{wrong-in-length, wrong-in-check, wrong-in-block, wrong_in_room, accepts, total_fits}
use Rattle.file.proofs.checks.answer.Goals as goal

pub returns-then-wrong_length : goal.returns-then-wrong_length
returns-then-wrong_length c = wrong-in-length _ _ (sym c.wrong_length.ensures ∙ c.if-wrong_length.true)

pub returns-in_err-broken_at : goal.returns-in_err-broken_at
returns-in_err-broken_at c =
    let bs = c.args.bytes.now in
    let long = sym c.wrong_length.ensures ∙ c.if-wrong_length.false in
    let sums = c.first_where.ensures (wrong_check bs) (λ i b l q. search rules) in
    let p = err_from_is_err_and c.from_residual.result c.from_residual.ensures.1 in
    rw (p.1, p.2) (wrong-in-check bs _ long _ _ sums c.in_err-broken_at.ensures)

pub returns-in_err-broken_at-2 : goal.returns-in_err-broken_at-2
returns-in_err-broken_at-2 c =
    let bs = c.args.bytes.now in
    let n = c.lines_in_all-n.result in
    let long = sym c.wrong_length.ensures ∙ c.if-wrong_length.false in
    let sums = c.first_where.ensures (wrong_check bs) (λ i b l q. search rules) in
    let layout = c.first_where-2.ensures (wrong_block bs n) (λ i b l q. search rules) in
    let p = err_from_is_err_and c.from_residual-in_err-broken_at-2.result c.from_residual-in_err-broken_at-2.ensures.1 in
    rw (p.1, p.2) (wrong-in-block bs _ long _ sums c.in_ok-broken_at.ensures n _ _ c.lines_in_all-n.ensures layout c.in_err-broken_at-2.ensures)

pub returns-then-room-ne-TABLE_WORDS : goal.returns-then-room-ne-TABLE_WORDS
returns-then-room-ne-TABLE_WORDS c =
    let bs = c.args.bytes.now in
    let n = c.lines_in_all-n.result in
    let long = sym c.wrong_length.ensures ∙ c.if-wrong_length.false in
    let sums = c.first_where.ensures (wrong_check bs) (λ i b l q. search rules) in
    let layout = c.first_where-2.ensures (wrong_block bs n) (λ i b l q. search rules) in
    wrong_in_room bs c.args.room long _ sums c.in_ok-broken_at.ensures n _ c.lines_in_all-n.ensures layout c.in_ok-broken_at-2.ensures
    (λ e. c.if-room-ne-TABLE_WORDS.true (omega arith))

pub overflow_cast-result : goal.overflow_cast-result
overflow_cast-result c =
    let bs = c.args.bytes.now in
    let n = c.lines_in_all-n.result in
    let long = sym c.wrong_length.ensures ∙ c.if-wrong_length.false in
    let sums = c.first_where.ensures (wrong_check bs) (λ i b l q. search rules) in
    let layout = c.first_where-2.ensures (wrong_block bs n) (λ i b l q. search rules) in
    omega (arith, total_fits bs c.args.room long _ sums c.in_ok-broken_at.ensures n _ c.lines_in_all-n.ensures layout c.in_ok-broken_at-2.ensures)

pub returns : goal.returns
returns c =
    let bs = c.args.bytes.now in
    let n = c.lines_in_all-n.result in
    let long = sym c.wrong_length.ensures ∙ c.if-wrong_length.false in
    let sums = c.first_where.ensures (wrong_check bs) (λ i b l q. search rules) in
    let layout = c.first_where-2.ensures (wrong_block bs n) (λ i b l q. search rules) in
    accepts bs c.args.room long _ sums c.in_ok-broken_at.ensures n _ c.lines_in_all-n.ensures layout c.in_ok-broken_at-2.ensures (omega arith)
