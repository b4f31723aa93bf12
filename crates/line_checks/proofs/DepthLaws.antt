-- The depth of a node from those of its operands, and what the buffer keeps of them.
-- Assumes nothing.
use Prim.Native.Nat.{ℕ, zero, suc, ◌+◌, ◌<◌, ◌≤◌, max}
use native.Mathlib.Decide.{ℕ_discrete}
use native.Mathlib.Omega.{arith}
use mathlib.Core.Path.{◌≡◌, refl, sym, ◌∙◌}
use mathlib.Core.Bool.{Bool, true, false}
use mathlib.Core.List.{List}
use lib.ListN.{length, get_or, replicate, set}
use lib.Seq.{get_or-set_same, get_or-set_other}
use lib.Dec.{ltb}
use borrow.Author.Tests.{ltb-true}
use Rattle.std.specs.Prelude.{if◌then◌else◌}
use Rattle.lists.proofs.FallingLaws.{value-is}
use Rattle.model.specs.Table.{Table, node_at, node_kind, Role, Roles, node_roles}
use Rattle.model.specs.Table.Role.{unused, flag, number, a_variable, a_node}
use Rattle.kinds.specs.Kinds.{roles_of}
use Rattle.kinds.specs.Code.{InSorts}
use Rattle.kinds.proofs.LineLaws.{roles-node}
use Rattle.line_checks.specs.Rules.{operand_depth, depth_by, depth}
use Rattle.line_checks.specs.Code.{Kept, depth_under}

module _ (t : Table) where
  -- a node's depth by those of its operands
  by-operands : (n : ℕ) → depth t n
      ≡ 1 + max (operand_depth (node_roles (node_kind (node_at t n).kind)).a (λ j. if ltb j n then depth t j else 0) (node_at t n).a)
      (max (operand_depth (node_roles (node_kind (node_at t n).kind)).b (λ j. if ltb j n then depth t j else 0) (node_at t n).b)
      (operand_depth (node_roles (node_kind (node_at t n).kind)).c (λ j. if ltb j n then depth t j else 0) (node_at t n).c))
  unfolding depth
  by-operands n = value-is (λ j below. depth_by (node_roles (node_kind (node_at t j).kind)) below (node_at t j)) 0 n

  -- it is no more than its number and one
  under-most : (n : ℕ) → ((j : ℕ) → j < n → depth t j ≤ j + 1) → (r : Role) (x : ℕ) → operand_depth r (λ j. if ltb j n then depth t j else 0) x ≤ n
  under-most n ih unused x = omega arith
  under-most n ih flag x = omega arith
  under-most n ih number x = omega arith
  under-most n ih a_variable x = omega arith
  under-most n ih a_node x = go (ltb x n) refl
    where
      go : (b : Bool) → ltb x n ≡ b → (if b then depth t x else 0) ≤ n
      go true e = omega (arith, ih x (ltb-true x n e), ltb-true x n e)
      go false e = omega arith

  all_most : (k n : ℕ) → n < k → depth t n ≤ n + 1
  all_most zero n h = absurd (omega arith)
  all_most (suc k) n h =
      let ih : (j : ℕ) → j < n → depth t j ≤ j + 1 = λ j l. all_most k j (omega arith) in
      let rs = node_roles (node_kind (node_at t n).kind) in
      omega (arith, by-operands n, under-most n ih rs.a (node_at t n).a, under-most n ih rs.b (node_at t n).b, under-most n ih rs.c (node_at t n).c)

  pub depth-most : (n : ℕ) → depth t n ≤ n + 1
  depth-most n = all_most (suc n) n (omega arith)

  -- as the code works it out
  pub depth_is : InSorts t → (n : ℕ) → n < t.nodes → (rs : Roles) → rs ≡ roles_of (node_at t n).kind
      → 1 + max (depth_under t n rs.a (node_at t n).a) (max (depth_under t n rs.b (node_at t n).b) (depth_under t n rs.c (node_at t n).c)) ≡ depth t n
  depth_is sorts n l rs q =
      rw (q, roles-node (node_at t n).kind (sorts.node (t.decls + n) (omega arith) (omega arith))) (sym (by-operands n))

  -- nothing is kept at first, and a depth may be put where it belongs
  pub kept-none : (n : ℕ) → Kept t (replicate n 0)
  kept-none n = record { right = λ j l h. absurd (h (zero-at n j)) }
    where
      zero-at : (n j : ℕ) → ◌≡◌ {A = ℕ} (get_or (replicate n 0) j 0) 0
      zero-at zero j = refl
      zero-at (suc n) zero = refl
      zero-at (suc n) (suc j) = zero-at n j

  pub kept_set : {depths : List ℕ} → Kept t depths → (n v : ℕ) → n < length depths → v ≡ depth t n → Kept t (set depths n v)
  kept_set {depths} K n v h e = record {
    right = λ j l z. elim (ℕ_discrete j n) [
      | yes q ↦ rw (q, get_or-set_same depths n v 0 h) e
      | no q ↦ rw (get_or-set_other depths n j v 0 q) (K.right j l (λ y. z (get_or-set_other depths n j v 0 q ∙ y)))
    ];
  }
