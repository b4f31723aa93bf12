-- The record of an operand that came as a leaf, worked out from what the code lends: x is the name of what was worked out, r, and new that of
-- the buffer that it left.
-- Assumes nothing.
use Prim.Native.Nat.{ℕ}
use mathlib.Core.Path.{◌≡◌}
use mathlib.Core.Bool.{true}
use mathlib.Core.List.{List}
use Rattle.model.specs.Table.Ty.{uint, pointer}
use Rattle.evaluators.specs.declared.answers.Answer.{Answer}
use Rattle.evaluators.specs.declared.inputs.Inputs.{Inputs}
use Rattle.evaluators.specs.CodeAnswers.{lent}
use Rattle.evaluators.specs.CodeLeaves.{leaf_at, PointerLeaf}
use Rattle.recording.specs.CodePushes.{pushed}
use Rattle.recording.specs.CodeRecords.{LeafRecords, RecordsFrom}
use Rattle.recording.proofs.RecordLaws.{same-record}
use Rattle.recording.proofs.NodeLaws.{pointer-leaf-records}

module _ (e : Inputs) (held : List ℕ) {user n at : ℕ} {r x : Answer} {before new : List ℕ} where
  pub uint-recorded : {mid : List ℕ} → LeafRecords e.own.now e.machine.now.numbers user n r mid (pushed before at) → new ≡ mid → x ≡ r
      → RecordsFrom uint e held user n at x before new
  uint-recorded h = same-record
      (h.leaf e.machine.now.count e.machine.now.bases e.machine.now.firsts e.machine.now.lengths e.machine.now.shapes e.cells.now held)

  pub pointer-recorded : leaf_at e.own.now user n ≡ true
      → PointerLeaf e.own.now e.machine.now.numbers e.machine.now.bases e.machine.now.count user n at r → new ≡ before → x ≡ r
      → RecordsFrom pointer e held user n at x before new
  pointer-recorded leaf h = same-record (pointer-leaf-records (lent e.own.now e.machine.now.count e.machine.now.numbers e.machine.now.bases
      e.machine.now.firsts e.machine.now.lengths e.machine.now.shapes e.cells.now) held n user leaf at r before h)
