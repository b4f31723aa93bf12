-- Each item is its own word.
-- Assumes nothing.
use Rattle.std.proofs.Common.{◌∙◌, ap}
use Rattle.std.proofs.lemmas.List.{map-id}
use Rattle.testing.specs.Checks.{check_number}
use Rattle.testing.proofs.check_of_bytes.Goals as goal

pub returns : goal.returns
returns c = c.check_of.ensures (λ x. x) (λ x w e. e) ∙ ap check_number (map-id c.args.s.now)
