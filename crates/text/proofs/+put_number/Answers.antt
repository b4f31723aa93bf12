-- By the digits.
-- Assumes nothing.
use Rattle.text.proofs.TextLaws.{number_small, number-large}
use Rattle.text.proofs.+put_number.Goals as goal

pub returns-then-n-lt10 : goal.returns-then-n-lt10
returns-then-n-lt10 t c = number_small c.push.ensures c.digit_of.ensures c.if-n-lt10.true

pub returns : goal.returns
returns t c = number-large c.put_number-next.ensures c.push-2.ensures c.digit_of-2.ensures c.if-n-lt10.false
