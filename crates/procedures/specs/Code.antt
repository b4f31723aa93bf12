-- What the code keeps of procedures in place of the model's words: the map on the way, and numbers for owners, uses and rows.
use Rattle.std.specs.Prelude.{◌≡◌, ℕ, ◌+◌, ◌<◌, ◌≤◌, Bool, true, not, ◌&&◌, List, length, get_or, set, ltb, eqb}
use Rattle.std.specs.Prelude.{if◌then◌else◌}
use Rattle.lists.specs.Tab.{all}
use Rattle.model.specs.Table.{Table, line_at, marked, Row, row_kind, Role, nest_of, between, opens_procedure, open_at, home, stretch, within}
use Rattle.model.specs.Table.Row.{procedure, returns, call}
use Rattle.model.specs.Table.Role.{unused, flag, number, a_variable, a_node}
use Rattle.model.specs.Procedures.{most_procedures, opened_before, owner, Uses, together, node_uses}
use Rattle.model.specs.Procedures.Uses.{globals, locals_of_one, locals_of_two}
use Rattle.kinds.specs.Kinds.{roles_of}
use Rattle.kinds.specs.Code.{open_after}
use Rattle.procedures.specs.declared.rows.Met.{Met}
use Rattle.procedures.specs.declared.uses.Uses.{Uses as UsesName}
use Rattle.procedures.specs.declared.uses.Uses.TheVariants as name
use Rattle.procedures.specs.Map.{map_size}

-- ---- the map

-- with no procedure yet: each place has the row count
pub record Cleared (map : List ℕ) (rows : ℕ) : Type 0 where
  pub size : length map ≡ map_size
  pub none : (k : ℕ) → k < most_procedures → get_or map k 0 ≡ rows

-- with the row of a 43 noted, if it is one of the first sixteen
abbrev pub noted : List ℕ → Bool → ℕ → ℕ → List ℕ
noted map opens opened row = if opens then (if ltb opened most_procedures then set map opened row else map) else map

-- ---- owners

-- a variable's number after a 43 with the first row q, which lists it or not: an earlier one's stays
abbrev pub claimed : ℕ → Bool → ℕ → ℕ
claimed kept listed q = if eqb kept 0 then (if listed then q else 0) else kept

-- the numbers before and after a 43 with n locals from a on
pub record Claimed (old new : List ℕ) (a n q : ℕ) : Type 0 where
  pub size : length new ≡ 32
  pub each : (v : ℕ) → v < 32 → get_or new v 0 ≡ claimed (get_or old v 0) (within (stretch a n) v) q

-- each variable's owner
pub record Owners (t : Table) (owners : List ℕ) : Type 0 where
  pub right : (v : ℕ) → v < 32 → get_or owners v 0 ≡ owner t v

-- ---- uses

-- whose locals are used, as the model says it
abbrev pub uses_said : UsesName → Uses
uses_said name.Globals = globals
uses_said (name.LocalsOfOne q) = locals_of_one q
uses_said name.LocalsOfTwo = locals_of_two

-- what the buffer has for node x, globals past its end
abbrev pub kept_uses : List UsesName → ℕ → Uses
kept_uses uses x = uses_said (get_or uses x name.Globals)

-- an operand, by its role, and a line
abbrev pub operand_by : List ℕ → List UsesName → Role → ℕ → Uses
operand_by owners uses unused x = globals
operand_by owners uses flag x = globals
operand_by owners uses number x = globals
operand_by owners uses a_variable x = if eqb (get_or owners x 0) 0 then globals else locals_of_one (get_or owners x 0)
operand_by owners uses a_node x = kept_uses uses x

abbrev pub line_by : List ℕ → List ℕ → List UsesName → ℕ → Uses
line_by w owners uses i =
    let l = line_at w i in
    let rs = roles_of l.kind in
    together (operand_by owners uses rs.a l.a) (together (operand_by owners uses rs.b l.b) (operand_by owners uses rs.c l.c))

-- what the first n nodes use
pub record Summaries (t : Table) (uses : List UsesName) (n : ℕ) : Type 0 where
  pub right : (j : ℕ) → j < n → kept_uses uses j ≡ node_uses t j

-- ---- rows

-- what was met before row r
pub record MetBefore (t : Table) (met : Met) (r : ℕ) : Type 0 where
  pub home : met.home ≡ home t r
  pub opened : met.opened ≡ opened_before t r
  pub loops : met.loops ≡ length (open_at t r)
  pub low_home : met.home ≤ r
  pub low_opened : met.opened ≤ r
  pub low_loops : met.loops ≤ r

-- and before the next, by the kind of row r
abbrev pub met_after : Met → ℕ → ℕ → Met
met_after met k r = record {
  home = if opens_procedure (row_kind k) then r + 1 else met.home;
  opened = met.opened + (if opens_procedure (row_kind k) then 1 else 0);
  loops = open_after (nest_of (row_kind k)) met.loops;
}

-- 17, of the n locals of a 43 from a on, and of a 43
unfoldable pub locals_free : List ℕ → List ℕ → ℕ → ℕ → ℕ → Bool
locals_free w owners a n q = all n (λ i. not (marked w 2 (a + i))) && all n (λ i. eqb (get_or owners (a + i) 0) q)

unfoldable pub opens_by : List ℕ → List ℕ → Met → ℕ → ℕ → ℕ → Bool
opens_by w owners met r a n = ltb met.opened most_procedures && (eqb met.loops 0 && (between 1 4 n && locals_free w owners a n (r + 1)))

-- 17, of a row by its kind: of a 43, of a 44 and of a 45
abbrev pub rule_for : Row → Bool → Bool → Bool → Bool
rule_for procedure opening returning calling = opening
rule_for returns opening returning calling = returning
rule_for call opening returning calling = calling
rule_for k opening returning calling = true

-- 17, of row r, which is line i
unfoldable pub rule_by : List ℕ → List ℕ → Met → ℕ → ℕ → ℕ → Bool
rule_by w owners met total r i =
    let l = line_at w i in
    rule_for (row_kind l.kind) (opens_by w owners met r l.a l.b) (not (eqb met.home 0)) (ltb l.a total && not (marked w 2 l.c))
