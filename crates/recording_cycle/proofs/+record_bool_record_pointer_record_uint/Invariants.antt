-- The user's number falls from a node to its operands.
-- Assumes nothing.
use Rattle.recording_cycle.proofs.+record_bool_record_pointer_record_uint.Given as goal

abbrev pub decreases-record_bool : goal.decreases-record_bool
decreases-record_bool l = l.user

abbrev pub decreases-record_pointer : goal.decreases-record_pointer
decreases-record_pointer l = l.user

abbrev pub decreases-record_uint : goal.decreases-record_uint
decreases-record_uint l = l.user
