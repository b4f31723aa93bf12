-- Never stuck and demand 3, of every table that passes the checks.
-- Assumes nothing.
use Rattle.model.specs.Table.{table_of}
use Rattle.model.specs.State.MachineKind.{plain, reduced}
use Rattle.model.specs.Reduce.{reduce}
use Rattle.model.proofs.SafeStep.{never_stuck}
use Rattle.model.proofs.Demand3Proof.{demand-3}
use Rattle.table.specs.Promises.{PassesAccepted, PassingDemand3, PassingNeverStuck, ReductionPasses}
use Rattle.table.proofs.Passing.{accepted, passes, passing}
use Rattle.table.proofs.ReducedPasses.{passing-reduced}

pub passes-accepted : PassesAccepted
passes-accepted m w e = accepted m w (passing m w e)

pub reduction-passes : ReductionPasses
reduction-passes P e = passes reduced (reduce P) (passing-reduced P (passing plain P e))

pub passing-never-stuck : PassingNeverStuck
passing-never-stuck ps m w e = never_stuck ps m (table_of w) (passes-accepted m w e)

pub passing-demand-3 : PassingDemand3
passing-demand-3 ps h P e = demand-3 ps h P (passes-accepted plain P e)
