-- Laws of a step: cells that are zeroed, and the state after a call and after a return.
-- Assumes nothing.
use Prim.Native.Nat.{ℕ, ◌+◌, ◌≤◌}
use native.Mathlib.Omega.{arith}
use mathlib.Core.Path.{◌≡◌, sym, ap}
use mathlib.Core.List.{List, ◌++◌}
use lib.ListN.{length, take, drop, replicate, length-drop}
use lib.Seq.{length-take-le, drop-drop}
use Rattle.lists.specs.Tab.{tab, listed}
use Rattle.model.specs.State.{Caller}
use Rattle.model.specs.Step.{cleared}
use Rattle.prepared.specs.Own.{own_table}
use Rattle.calls.specs.declared.Stood.{Stood}
use Rattle.calls.specs.Stack.{loops_of}
use Rattle.calls.specs.CallAndReturn.{Called, Returned}
use Rattle.machine.specs.declared.Machine.{Machine}
use Rattle.machine.specs.declared.Move.TheVariants.{Calls, Returns}
use Rattle.machine.specs.View.{own_state}
use Rattle.machine.specs.CodeMoves.{begun, resumed, returned_by, state_after}

-- ---- the part of the cells that was lent to be zeroed
pub zero-part : (cs : List ℕ) (from n : ℕ) → from + n ≤ length cs
    → take from cs ++ (replicate (length (take n (drop from cs))) 0 ++ drop n (drop from cs)) ≡ cleared from n cs
zero-part cs from n h =
    let k : n ≤ length (drop from cs) = simp length-drop (omega arith) in
    rw (length-take-le, drop-drop n from cs)

-- ---- the machine and the stack after a call, and after a return
module _ (own stack : List ℕ) (m : Machine) (cells : List ℕ) {ns' stack' : List ℕ} where
  pub called-state : {k x r : ℕ} → Called own m.numbers stack m.row m.«open» m.loop_rows m.starts m.ends k x r ns' stack'
      → own_state own stack' (begun m ns' r) cells ≡ state_after own stack m cells (Calls k x)
  unfolding state_after loops_of tab listed
  called-state h = rw (h.next, h.vars m.bases, h.callers m.bases)

  pub returned-state : {x : ℕ} {back : Stood} {rows starts ends : List ℕ} → Returned own m.numbers stack m.row x back ns' rows starts ends stack'
      → own_state own stack' (resumed m ns' rows starts ends back.row back.«open») cells ≡ state_after own stack m cells (Returns x)
  unfolding state_after returned_by
  returned-state {x = x} h =
      rw (h.row, h.loops, h.vars m.bases)
      (sym (ap (λ (cs : List Caller). returned_by (own_table own) (own_state own stack m cells) cs x) h.callers))
