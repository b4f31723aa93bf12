-- The two parts, then the end of the line.
-- Assumes nothing.
use Rattle.lists.specs.Tab.{tab, listed}
use Rattle.text.specs.Text.{bytes, pair_text}
use Rattle.text.proofs.TextLaws.{then-put, refusal-most}
use Rattle.text.proofs.put_refusal.Goals as goal

pub returns-clause-len_bound : goal.returns-clause-len_bound
unfolding bytes tab listed pair_text
returns-clause-len_bound c =
    rw (← c.number.ensures, ← c.from.ensures)
    (refusal-most _ _ c.put_part-a.ensures.n_len_bound c.put_part-b.ensures.n_len_bound)

pub returns-clause-puts : goal.returns-clause-puts
unfolding bytes tab listed pair_text
returns-clause-puts c =
    rw (← c.number.ensures, ← c.from.ensures)
    (then-put c.put_part-a.ensures.puts (then-put c.put_part-b.ensures.puts c.put_word.ensures))
