-- Laws of the numbers that the code keeps in place of the model's words: roles, and check 8.
-- Assumes nothing.
use Prim.Native.Nat.{ℕ, ◌+◌, ◌-◌, ◌<◌, ◌≤◌}
use mathlib.Core.Path.{◌≡◌}
use mathlib.Core.Bool.{◌&&◌}
use Rattle.model.specs.Table.{Table, line_at, row_kind}
use Rattle.model.specs.Accepted.{all_there, node_there, locals_there, row_there}
use Rattle.kinds.specs.Kinds.{kind_at, roles_of}
use Rattle.kinds.specs.Code.{InSorts}
use Rattle.kinds.proofs.LineLaws.{node-line, roles-node, roles-row, row_line}

-- ---- 8

module _ (t : Table) (laid : InSorts t) (i : ℕ) where
  pub node-there : t.decls ≤ i → i < t.decls + t.nodes
      → node_there t (i - t.decls) ≡ all_there (roles_of (kind_at t i)) t.decls (i - t.decls) (line_at t.words i)
  unfolding node_there
  node-there l h = rw (node-line t i l, roles-node (kind_at t i) (laid.node i l h))

  pub row-there : t.decls + t.nodes ≤ i → i < t.decls + t.nodes + t.rows
      → row_there t (i - (t.decls + t.nodes))
      ≡ (all_there (roles_of (kind_at t i)) t.decls t.nodes (line_at t.words i)
      && locals_there (row_kind (kind_at t i)) t.decls (line_at t.words i).a (line_at t.words i).b)
  unfolding row_there
  row-there l h = rw (row_line t i l, roles-row (kind_at t i) (laid.row i l h))
