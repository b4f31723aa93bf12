-- The end, then the two parts.
-- Assumes nothing.
use mathlib.Core.Path.{◌≡◌}
use native.Mathlib.Omega.{arith}
use Rattle.lists.specs.Tab.{tab, listed}
use Rattle.text.specs.Text.{bytes}
use Rattle.text.proofs.TextLaws.{then-put, run-most}
use Rattle.text.proofs.put_run.Goals as goal

pub returns-clause-puts : goal.returns-clause-puts
unfolding bytes tab listed
returns-clause-puts c =
    let row : c.from.result ≡ c.args.line.row = omega (arith, c.from.ensures) in
    let steps : c.from-2.result ≡ c.args.line.steps = omega (arith, c.from-2.ensures) in
    rw (← row, ← steps)
    (then-put c.put_end-a.ensures (then-put c.put_part-b.ensures.puts c.put_part.ensures.puts))

pub returns-clause-line_len_bound : goal.returns-clause-line_len_bound
unfolding bytes tab listed
returns-clause-line_len_bound c =
    run-most c.args.line (rw c.from.ensures at c.put_part-b.ensures.n_len_bound) (rw c.from-2.ensures at c.put_part.ensures.n_len_bound)
