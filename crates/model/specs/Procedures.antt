-- Check 17: whose local a variable is, what a row uses, and which rows break a rule of procedures.
use Rattle.std.specs.Prelude.{◌≡◌, ℕ, suc, ◌+◌, ◌<◌, Bool, true, false, not, ◌&&◌, ◌||◌, ltb, eqb}
use Rattle.std.specs.Prelude.{if◌then◌else◌}
use Rattle.lists.specs.Tab.{sum, all}
use Rattle.lists.specs.First.{walk}
use Rattle.lists.specs.Falling.{value_at}
use Rattle.model.specs.Table.{Table, Line, node_at, row_at, between, none_open, marked_uint, node_kind, Row, row_kind, Role, Roles, node_roles, row_roles}
use Rattle.model.specs.Table.{open_at, is_opening, home, opening, within, locals_of}
use Rattle.model.specs.Table.Row.{skip, assign, store, assert, assume, array, loop, loop_end, reduced_store, reduced_array, class_loop}
use Rattle.model.specs.Table.Row.{procedure, returns, call, no_row}
use Rattle.model.specs.Table.Role.{unused, flag, number, a_variable, a_node}

-- the first row of the procedure whose local a variable is, by the first 43 that lists it; 0 for a global, which none lists (rule 1.21)
unfoldable pub owner : Table → ℕ → ℕ
owner t v = walk (λ i rest. if is_opening t i && within (locals_of t (suc i)) v then suc i else rest) 0 0 t.rows

-- may the procedure with the first row q, or main (0), use it: a global, or a local of its own (rule 1.22)
abbrev pub may_use : Table → ℕ → ℕ → Bool
may_use t q v = eqb (owner t v) 0 || eqb (owner t v) q

-- whose locals are used: nobody's, those of one procedure, or those of two
pub data Uses : Type 0 where
  globals : Uses
  locals_of_one : ℕ → Uses
  locals_of_two : Uses

abbrev pub together : Uses → Uses → Uses
together globals y = y
together (locals_of_one p) globals = locals_of_one p
together (locals_of_one p) (locals_of_one q) = if eqb p q then locals_of_one p else locals_of_two
together (locals_of_one p) locals_of_two = locals_of_two
together locals_of_two y = locals_of_two

abbrev pub variable_uses : Table → ℕ → Uses
variable_uses t v = if eqb (owner t v) 0 then globals else locals_of_one (owner t v)

-- what an operand uses, by its role: a variable, or a node, of which us tells
abbrev pub operand_uses : Table → (ℕ → Uses) → Role → ℕ → Uses
operand_uses t us unused x = globals
operand_uses t us flag x = globals
operand_uses t us number x = globals
operand_uses t us a_variable x = variable_uses t x
operand_uses t us a_node x = us x

abbrev pub line_uses : Table → (ℕ → Uses) → Roles → ℕ → ℕ → ℕ → Uses
line_uses t us rs a b c = together (operand_uses t us rs.a a) (together (operand_uses t us rs.b b) (operand_uses t us rs.c c))

-- of a node: every variable that it reads or a node under it, at any depth, in both branches of 25 (rule 1.22)
unfoldable pub node_uses : Table → ℕ → Uses
node_uses t n = value_at (λ m us. line_uses t us (node_roles (node_kind (node_at t m).kind)) (node_at t m).a (node_at t m).b (node_at t m).c) globals n

abbrev pub allowed : ℕ → Uses → Bool
allowed q globals = true
allowed q (locals_of_one p) = eqb p q
allowed q locals_of_two = false

-- row r uses no local of a procedure in which it does not stand (a 43 names its locals and uses none)
unfoldable pub uses_own : Table → ℕ → Bool
uses_own t r = allowed (home t r) (line_uses t (node_uses t) (row_roles (row_kind (row_at t r).kind)) (row_at t r).a (row_at t r).b (row_at t r).c)

-- how many procedures open before row r, and how many a table has at most (rule 1.20)
abbrev pub opened_before : Table → ℕ → ℕ
opened_before t r = sum r (λ i. if is_opening t i then 1 else 0)

abbrev pub most_procedures : ℕ
most_procedures = 16

-- 17, of a 43 with n locals from a on: not one too many, no loop open around it, one to four locals, none of them marked or an earlier 43's
abbrev pub opens_rightly : Table → ℕ → ℕ → ℕ → Bool
opens_rightly t r a n =
    ltb (opened_before t r) most_procedures
    && (none_open (open_at t r)
    && (between 1 4 n
    && (all n (λ i. not (marked_uint t (a + i))) && all n (λ i. eqb (owner t (a + i)) (suc r)))))

-- 17, by the row's kind: a 44 stands in a procedure; a 45 names a procedure that there is, and a variable that is not marked (rule 6.24)
abbrev pub procedure_rule : Table → ℕ → Row → ℕ → ℕ → ℕ → Bool
procedure_rule t r skip a b c = true
procedure_rule t r assign a b c = true
procedure_rule t r store a b c = true
procedure_rule t r assert a b c = true
procedure_rule t r assume a b c = true
procedure_rule t r array a b c = true
procedure_rule t r loop a b c = true
procedure_rule t r loop_end a b c = true
procedure_rule t r reduced_store a b c = true
procedure_rule t r reduced_array a b c = true
procedure_rule t r class_loop a b c = true
procedure_rule t r procedure a b c = opens_rightly t r a b
procedure_rule t r returns a b c = not (eqb (home t r) 0)
procedure_rule t r call a b c = ltb (opening t a) t.rows && not (marked_uint t c)
procedure_rule t r no_row a b c = true

-- row r does not break 17 (rule 6.24)
unfoldable pub keeps_procedures : Table → ℕ → Bool
keeps_procedures t r = uses_own t r && procedure_rule t r (row_kind (row_at t r).kind) (row_at t r).a (row_at t r).b (row_at t r).c

-- ---- what `uses_own` and `opening` say, without summaries and scans: proofs/UsesLaws shows it

-- a line with these roles has the operand x, as k
pub data Has (rs : Roles) (l : Line) (k : Role) (x : ℕ) : Type 0 where
  has_a : rs.a ≡ k → l.a ≡ x → Has rs l k x
  has_b : rs.b ≡ k → l.b ≡ x → Has rs l k x
  has_c : rs.c ≡ k → l.c ≡ x → Has rs l k x

-- node n reads the variable v, itself or in a node under it (rule 1.22)
pub data Reads (t : Table) (v : ℕ) : ℕ → Type 0 where
  itself : (n : ℕ) → Has (node_roles (node_kind (node_at t n).kind)) (node_at t n) a_variable v → Reads t v n
  under : (n o : ℕ) → Has (node_roles (node_kind (node_at t n).kind)) (node_at t n) a_node o → o < n → Reads t v o → Reads t v n

-- row r uses it: it names it, or a node of the row reads it (rule 1.22)
pub data RowUses (t : Table) (r v : ℕ) : Type 0 where
  names : Has (row_roles (row_kind (row_at t r).kind)) (row_at t r) a_variable v → RowUses t r v
  reads : (n : ℕ) → Has (row_roles (row_kind (row_at t r).kind)) (row_at t r) a_node n → Reads t v n → RowUses t r v

-- `uses_own` fails of a row exactly where that uses a local of a procedure in which it does not stand; a call names a procedure exactly where its number
-- is below the count of rows 43 (rules 1.19, 1.20, 1.22, 6.24)
pub record UsesRight (t : Table) : Type 0 where
  pub only_own : (r : ℕ) → uses_own t r ≡ true → (v : ℕ) → RowUses t r v → may_use t (home t r) v ≡ true
  pub where_own : (r : ℕ) → ((v : ℕ) → RowUses t r v → may_use t (home t r) v ≡ true) → uses_own t r ≡ true
  pub called : (k : ℕ) → ltb (opening t k) t.rows ≡ ltb k (opened_before t t.rows)

abbrev pub UsesRightHolds : Type 0
UsesRightHolds = (t : Table) → UsesRight t
