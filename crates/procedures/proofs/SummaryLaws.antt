-- Whose locals a line uses: what the code finds is what the definition says of its node or row.
-- Assumes nothing.
use Prim.Native.Nat.{ℕ, ◌+◌, ◌<◌, ◌≤◌}
use native.Mathlib.Omega.{arith}
use mathlib.Core.Path.{◌≡◌, refl, ◌∙◌}
use mathlib.Core.Bool.{true}
use mathlib.Core.List.{List}
use lib.ListN.{length, set}
use lib.Dec.{ltb}
use borrow.Author.Tests.{lt-ltb, ltb-true}
use Rattle.std.specs.Prelude.{if◌then◌else◌}
use Rattle.lists.proofs.FallingLaws.{value-is}
use Rattle.lists.proofs.BoolLaws.{and_left}
use Rattle.model.specs.Table.{Table, Line, Role, Roles, home, node_at, row_at, node_kind, row_kind, node_roles, row_roles}
use Rattle.model.specs.Table.Role.{unused, flag, number, a_variable, a_node}
use Rattle.model.specs.Accepted.{there, all_there, node_there, row_there, locals_there}
use Rattle.model.specs.Procedures.{Uses, together, operand_uses, line_uses, node_uses, allowed, uses_own}
use Rattle.model.specs.Procedures.Uses.{globals}
use Rattle.kinds.specs.Code.{InSorts, There}
use Rattle.kinds.proofs.LineLaws.{kept_more, roles-node, roles-row, three}
use Rattle.procedures.specs.declared.uses.Uses.{Uses as UsesName}
use Rattle.procedures.specs.declared.uses.Uses.TheVariants as name
use Rattle.procedures.specs.Code.{uses_said, kept_uses, operand_by, line_by, Owners, Summaries}

module _ (t : Table) where
  -- ---- an operand, a line

  module _ (us : ℕ → Uses) (owners : List ℕ) (uses : List UsesName) (o : Owners t owners) (decls : t.decls ≤ 32) (bound : ℕ)
      (kept : (j : ℕ) → j < bound → kept_uses uses j ≡ us j) where
    operand-is : (r : Role) (x : ℕ) → there r t.decls bound x ≡ true → operand_by owners uses r x ≡ operand_uses t us r x
    operand-is unused x h = refl
    operand-is flag x h = refl
    operand-is number x h = refl
    operand-is a_variable x h = rw (o.right x (omega (arith, ltb-true x t.decls h)))
    operand-is a_node x h = kept x (ltb-true x bound h)

    line-is : (rs : Roles) (l : Line) → all_there rs t.decls bound l ≡ true
        → together (operand_by owners uses rs.a l.a) (together (operand_by owners uses rs.b l.b) (operand_by owners uses rs.c l.c))
        ≡ line_uses t us rs l.a l.b l.c
    line-is rs l h =
        let named = three (there rs.a t.decls bound l.a) (there rs.b t.decls bound l.b) (there rs.c t.decls bound l.c) h in
        rw (operand-is rs.a l.a named.0, operand-is rs.b l.b named.1, operand-is rs.c l.c named.2)

  -- ---- a node, by those below it

  abbrev below : ℕ → ℕ → Uses
  below n j = if ltb j n then node_uses t j else globals

  uses-is : (n : ℕ) → node_uses t n ≡ line_uses t (below n) (node_roles (node_kind (node_at t n).kind)) (node_at t n).a (node_at t n).b (node_at t n).c
  unfolding node_uses
  uses-is n = value-is (λ m us. line_uses t us (node_roles (node_kind (node_at t m).kind)) (node_at t m).a (node_at t m).b (node_at t m).c) globals n

  module _ (laid : InSorts t) (th : There t) (owners : List ℕ) (uses : List UsesName) (o : Owners t owners) where
    -- what the first n nodes use, and what node n does put after them
    module _ (n : ℕ) (inside : n < t.nodes) (s : Summaries t uses n) where
      node-is : line_by t.words owners uses (t.decls + n) ≡ node_uses t n
      unfolding node_there
      node-is =
          let l = node_at t n in
          let kept : (j : ℕ) → j < n → kept_uses uses j ≡ below n j = λ j h. rw (lt-ltb j n h) (s.right j h) in
          rw (roles-node l.kind (laid.node (t.decls + n) (omega arith) (omega arith)), uses-is n)
          (line-is (below n) owners uses o laid.few_decls n kept (node_roles (node_kind l.kind)) l (th.nodes n inside))

      pub summaries-more : (v : UsesName) → n < length uses → uses_said v ≡ line_by t.words owners uses (t.decls + n) → Summaries t (set uses n v) (n + 1)
      summaries-more v h e = record { right = kept_more name.Globals (λ j x. uses_said x ≡ node_uses t j) uses n v h s.right (e ∙ node-is) }

    -- a row, with what all nodes use: whether it uses none but its own
    pub uses-own : (r : ℕ) → r < t.rows → Summaries t uses t.nodes → uses_own t r ≡ allowed (home t r) (line_by t.words owners uses (t.decls + t.nodes + r))
    unfolding uses_own row_there
    uses-own r inside s =
        let l = row_at t r in
        let rs = row_roles (row_kind l.kind) in
        let fit = and_left (all_there rs t.decls t.nodes l) (locals_there (row_kind l.kind) t.decls l.a l.b) (th.rows r inside) in
        rw (
          roles-row l.kind (laid.row (t.decls + t.nodes + r) (omega arith) (omega arith)),
          line-is (node_uses t) owners uses o laid.few_decls t.nodes s.right rs l fit,
        )
