-- The reduced write is judged by its true place (rules 3.17, 3.18): what row 40 comes to, and that it fails exactly where row 34 does.
-- proofs/TruePlaceLaws shows it.
use Rattle.std.specs.Prelude.{◌≡◌, ℕ, suc, ◌+◌, ◌<◌, ◌≤◌, List, [], length}
use Rattle.std.specs.Prelude.{if◌then◌else◌}
use Rattle.model.specs.Table.{Table, table_of, row_at, row_kind}
use Rattle.model.specs.Table.Ty.{uint, pointer}
use Rattle.model.specs.Table.Row.{store, reduced_store}
use Rattle.model.specs.Work.{Reason}
use Rattle.model.specs.Work.Reason.{without_array, past_length}
use Rattle.model.specs.Work.Out.{gives, fails}
use Rattle.model.specs.State.{MachineKind, State}
use Rattle.model.specs.Eval.{Ptr, ptr, keeps, index_of}
use Rattle.model.specs.Step.{past, with_cell, node, step_at}
use Rattle.model.specs.Step.Move.{to}
use Rattle.model.specs.Reduce.{reduce}
use Rattle.model.specs.Agree.{array_at, Agree}
use Rattle.model.specs.Accepted.{CanHave}

-- the operands of row n, its pointer and then its number, worked out under the choices cs, and what they leave of these (rules 2.8, 3.14)
pub record Operands (ps : List ℕ) (t : Table) (s : State) (n : ℕ) (cs : List ℕ) (at : Ptr) (x : ℕ) (left : List ℕ) : Type 0 where
  pub between : List ℕ
  pub first : node ps t s pointer (row_at t n).a cs ≡ gives at between
  pub second : node ps t s uint (row_at t n).b between ≡ gives x left

-- the state with x at place q of array i: in its cell where the array has one for it, a tracked place of a reduced array in that of its class;
-- else the write is dropped (rules 3.10, 3.18, 3.19)
abbrev pub with_place : List ℕ → State → ℕ → ℕ → ℕ → State
with_place ps s i q x =
    if keeps ps (array_at s.arrays i) q then with_cell s ((array_at s.arrays i).start + index_of ps (array_at s.arrays i) q) x else s

-- what row n, a 40 whose operands come to a pointer and the number x, comes to: it leaves the choices that they left, and so takes none (rule 3.17)
pub record JudgedByPlace (ps : List ℕ) (t : Table) (s : State) (n x : ℕ) (cs left : List ℕ) : Type 0 where
  -- it fails with no array, and where the place is not below the true length (rules 2.36, 3.17)
  pub none : (q : ℕ) → Operands ps t s n cs (ptr 0 q) x left → step_at ps t s n cs ≡ fails without_array left
  pub beyond : (i q : ℕ) → Operands ps t s n cs (ptr (suc i) q) x left → i < length s.arrays → (array_at s.arrays i).len ≤ q
      → step_at ps t s n cs ≡ fails past_length left
  -- and nowhere else: a good write goes on (rule 3.18)
  pub good : (i q : ℕ) → Operands ps t s n cs (ptr (suc i) q) x left → i < length s.arrays → q < (array_at s.arrays i).len
      → step_at ps t s n cs ≡ gives (to (past (with_place ps s i q x))) left

-- ... of every 40, in every state that the table can have (rules 3.17, 3.18)
abbrev pub WritesJudgedByPlace : Type 0
WritesJudgedByPlace =
    (ps : List ℕ) (m : MachineKind) (t : Table) (s : State) → CanHave ps m t s → (n : ℕ) → row_kind (row_at t n).kind ≡ reduced_store
    → (x : ℕ) (cs left : List ℕ) → JudgedByPlace ps t s n x cs left

-- Row 40 of the reduction fails exactly where row 34 does, and for the same reason, in states that agree and where its operands come to the same
-- (rules 2.19, 2.36, 3.17, 4.1)
abbrev pub RowsFailAlike : Type 0
RowsFailAlike =
    (ps P : List ℕ) (p r : State) → Agree ps (table_of P) p r → (n : ℕ) → row_kind (row_at (table_of P) n).kind ≡ store
    → (at : Ptr) (x : ℕ) (cs left : List ℕ) → Operands [] (table_of P) p n [] at x [] → Operands ps (table_of (reduce P)) r n cs at x left → (why : Reason)
    → (step_at [] (table_of P) p n [] ≡ fails why [] → step_at ps (table_of (reduce P)) r n cs ≡ fails why left)
    × ((rest : List ℕ) → step_at ps (table_of (reduce P)) r n cs ≡ fails why rest → step_at [] (table_of P) p n [] ≡ fails why [])
