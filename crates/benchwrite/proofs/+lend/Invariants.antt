-- The tier falls.
use Rattle.benchwrite.proofs.+lend.Given as goal

abbrev pub decreases-lend : goal.decreases-lend
decreases-lend g l = l.tier
