-- The name, then the number.
-- Assumes nothing.
use native.Mathlib.Omega.{arith}
use Rattle.text.proofs.TextLaws.{decimal-length, then-put}
use Rattle.text.proofs.put_part.Goals as goal

pub returns-clause-n_len_bound : goal.returns-clause-n_len_bound
returns-clause-n_len_bound c =
    decimal-length 19 c.args.n (omega (arith, c.ranges))

pub returns-clause-puts : goal.returns-clause-puts
returns-clause-puts c =
    then-put c.put_word-next.ensures c.put_number.ensures
