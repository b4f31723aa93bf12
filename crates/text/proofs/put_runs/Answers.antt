-- Each run after its name, the choices, then the end of the line.
-- Assumes nothing.
use Rattle.lists.specs.Tab.{tab, listed}
use Rattle.text.specs.Text.{bytes, pair_text}
use Rattle.text.proofs.TextLaws.{then-put, runs-most}
use Rattle.text.proofs.put_runs.Goals as goal

pub returns-clause-puts : goal.returns-clause-puts
unfolding bytes tab listed pair_text
returns-clause-puts c =
    let g = c.args in then-put c.put_word-a.ensures
    (then-put c.put_run-b.ensures.puts
    (then-put c.put_word-c.ensures
    (then-put c.put_run-d.ensures.puts
    (then-put c.put_part-e.ensures.puts c.put_word.ensures))))

pub returns-clause-pair_len_bound : goal.returns-clause-pair_len_bound
unfolding bytes tab listed pair_text
returns-clause-pair_len_bound c =
    let g = c.args in runs-most g.plain g.pair c.put_run-b.ensures.line_len_bound c.put_run-d.ensures.line_len_bound c.put_part-e.ensures.n_len_bound
