-- The bytes below i are put.
use Rattle.std.proofs.Common.{take, ◌≡◌}
use Rattle.lists.specs.Tab.{tab}
use Rattle.wire.specs.Messages.{byte_at}
use Rattle.wire.proofs.put_bytes.Given as goal

abbrev pub invariant-loop-i : goal.invariant-loop-i
invariant-loop-i l = take l.i l.out ≡ tab l.i (byte_at l.words)
