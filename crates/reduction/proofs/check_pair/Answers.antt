-- The code tests what the definition tests.
use mathlib.Core.Path.{◌≡◌}
use Rattle.lists.proofs.Flags.{flags}
use Rattle.model.specs.Class.{accepted_places, pair}
use Rattle.table.specs.Verdict.Verdict.{Refused}
use Rattle.reduction.specs.Reduction.{places_check}
use Rattle.reduction.proofs.check_pair.Goals as goal

pub returns-then-c1-c2 : goal.returns-then-c1-c2
unfolding accepted_places
returns-then-c1-c2 c = search flags

pub returns : goal.returns
unfolding accepted_places
returns c =
    let refused : Refused 13 0 ≡ places_check (pair c.args.c1 c.args.c2) = search flags in
    cc (c.of_whole.ensures, refused)
