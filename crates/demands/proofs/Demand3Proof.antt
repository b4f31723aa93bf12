-- Demand 3.
-- Assumes nothing.
use native.Mathlib.Omega.{arith}
use Rattle.model.specs.Class.{pair}
use Rattle.choices.proofs.Demand3Proof.{demand-3}
use Rattle.pair.proofs.PairPromises.{lines-match}
use Rattle.demands.specs.Demand3.{Demand3}
use Rattle.demands.proofs.RefusalLaws.{pair-passes}
use Rattle.demands.proofs.ReasonsProof.{matching-reasons}

pub demand3 : Demand3
demand3 = record {
  whole_runs = λ c1 c2 h. demand-3 (pair c1 c2) (pair-passes c1 c2 (omega (arith, h)));
  two_lines = lines-match;
  reasons = matching-reasons;
}
