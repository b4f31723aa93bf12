-- By whether the buffer has the place.
-- Assumes nothing.
use Rattle.recording.proofs.PushLaws.{push-in, push-out}
use Rattle.recording.proofs.pushes.push.Goals as goal

pub returns-then-at-out : goal.returns-then-at-out
returns-then-at-out g c = search push-in

pub returns : goal.returns
returns g c = search push-out
