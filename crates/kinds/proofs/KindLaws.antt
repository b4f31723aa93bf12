-- Numbers that name no kind, and the code's table of roles: it is the model's, place by place, and past its end a line names nothing.
-- Assumes nothing.
use Prim.Native.Nat.{ℕ, ◌<◌, ◌≤◌}
use native.Mathlib.Omega.{arith}
use native.Mathlib.Decide.{dec_le}
use mathlib.Core.Path.{◌≡◌, refl, sym, ap, ◌∙◌}
use mathlib.Core.List.{drop, map}
use lib.ListN.{replicate, get_or, get_or-append, get_or-eq_default}
use borrow.Author.Tests.{le-leb, le-ltb}
use Rattle.std.proofs.lemmas.List.{get_or-replicate, get_or-map}
use Rattle.lists.specs.Tab.{listed, tab}
use Rattle.lists.proofs.TabLaws.{at-tab}
use Rattle.model.specs.Table.{node_kinds, node_kind, row_kinds, row_kind, Roles, roles, node_roles, row_roles, declaration_roles, type_of}
use Rattle.model.specs.Table.Node.{no_node}
use Rattle.model.specs.Table.Row.{no_row}
use Rattle.model.specs.Table.Role.{unused}
use Rattle.kinds.specs.declared.asks.Role.{Role}
use Rattle.kinds.specs.declared.asks.TheConstants.{ROLES}
use Rattle.kinds.specs.Kinds.{roles_of, role_said}

pub node_unknown : (k : ℕ) → (16 ≤ k → 30 ≤ k) → node_kind k ≡ no_node
unfolding node_kind
node_unknown k h = elim (dec_le 16 k) [
  | yes l ↦ get_or-eq_default node_kinds no_node {n = k} (h l)
  | no l ↦ get_or-append (replicate 16 no_node) (drop 16 node_kinds) no_node k (omega arith) ∙ get_or-replicate 16 k no_node no_node (omega arith)
]

pub row_unknown : (k : ℕ) → (32 ≤ k → 46 ≤ k) → row_kind k ≡ no_row
unfolding row_kind
row_unknown k h = elim (dec_le 32 k) [
  | yes l ↦ get_or-eq_default row_kinds no_row {n = k} (h l)
  | no l ↦ get_or-append (replicate 32 no_row) (drop 32 row_kinds) no_row k (omega arith) ∙ get_or-replicate 32 k no_row no_row (omega arith)
]

-- ---- the table of roles

-- the roles at a place of it
abbrev three_said : Role × Role × Role → Roles
three_said r = roles (role_said r.0) (role_said r.1) (role_said r.2)

-- its places, one by one
same-roles : map three_said ROLES ≡ tab 46 roles_of
unfolding tab listed roles_of node_kind row_kind node_roles row_roles declaration_roles type_of
same-roles = refl

pub roles-at : (k : ℕ) (d : Role × Role × Role) → k < 46 → three_said (get_or ROLES k d) ≡ roles_of k
roles-at k d l = sym (get_or-map three_said ROLES k d (roles_of 0) l) ∙ ap (λ rs. get_or rs k (roles_of 0)) same-roles ∙ at-tab 46 roles_of (roles_of 0) k l

-- past its end there is no kind
pub roles-past : (k : ℕ) → 46 ≤ k → roles unused unused unused ≡ roles_of k
unfolding roles_of row_roles
roles-past k l = rw (le-ltb k 16 (omega arith), le-leb 16 k (omega arith), le-ltb k 32 (omega arith), row_unknown k (λ h. l)) refl
