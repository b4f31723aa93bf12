-- An operand's answer r under another name x, worked out from what the code lends: it came as a leaf, or from the cycle of the evaluators.
-- Assumes nothing.
use Prim.Native.Nat.{ℕ}
use mathlib.Core.Path.{◌≡◌, sym}
use Rattle.model.specs.Table.{Ty}
use Rattle.model.specs.Table.Ty.{uint, pointer}
use Rattle.evaluators.specs.declared.answers.Answer.{Answer}
use Rattle.evaluators.specs.declared.inputs.Inputs.{Inputs}
use Rattle.evaluators.specs.CodeInputs.{WorksOutFrom}
use Rattle.evaluators.specs.CodeLeaves.{UintLeaf, PointerLeaf}
use Rattle.evaluators.proofs.AnswerLaws.{is_same}

-- from the cycle
pub cycle-worked : (e : Inputs) (w : Ty) (user n at : ℕ) {r x : Answer} → WorksOutFrom w e user n at r → x ≡ r → WorksOutFrom w e user n at x
cycle-worked e w user n at h q = is_same h (sym q)

-- as a leaf
module _ (e : Inputs) {user n at : ℕ} {r x : Answer} where
  pub uint-worked : UintLeaf e.own.now e.machine.now.numbers user n at r → x ≡ r → WorksOutFrom uint e user n at x
  uint-worked h q =
      is_same (h.leaf e.machine.now.count e.machine.now.bases e.machine.now.firsts e.machine.now.lengths
      e.machine.now.shapes e.cells.now e.list.now) (sym q)

  pub pointer-worked : PointerLeaf e.own.now e.machine.now.numbers e.machine.now.bases e.machine.now.count user n at r → x ≡ r
      → WorksOutFrom pointer e user n at x
  pointer-worked h q = is_same (h.leaf e.machine.now.firsts e.machine.now.lengths e.machine.now.shapes e.cells.now e.list.now) (sym q)
