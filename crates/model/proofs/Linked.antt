-- What holds all along two runs between a first state, of the machine m, and a second, of the reduced machine with at least its marks.
-- Assumes nothing.
use mathlib.Core.Path.{◌≡◌}
use Prim.Native.Nat.{ℕ, ◌+◌, ◌*◌, ◌-◌, ◌≤◌, ◌<◌}
use mathlib.Core.Bool.{Bool, true, false}
use mathlib.Core.List.{List, [], ◌∷◌}
use lib.ListN.{length, get_or}
use Rattle.std.specs.Prelude.{if◌then◌else◌}
use Rattle.model.specs.State.{Array, Caller, Loop, MachineKind, State, Value, most_arrays, places_in}
use Rattle.model.specs.State.MachineKind.{reduced}
use Rattle.model.specs.State.Value.{Truth, Uint, Class, Pointer}
use Rattle.model.specs.Eval.{Of, index_of, keeps, cells_laid}
use Rattle.model.specs.Agree.{SameVariable, array_at}
use Rattle.model.specs.Accepted.{Laid}
use Rattle.model.specs.Table.{Table, Ty, marked_pointer, marked_uint, node_at, row_at, row_kind, most}
use Rattle.model.specs.Table.Row.{call}
use Rattle.model.specs.Table.Ty.{bool, uint, pointer}
use Rattle.model.proofs.KindsIn.{PlainKinds, Reduces, TableIn}
use Rattle.model.proofs.Match.{Plainly}

-- what the first has marked (b), which the plain machine has not, the second has marked too (c)
abbrev pub AlsoMarked : MachineKind → Bool → Bool → Type 0
AlsoMarked m b c = b ≡ true → (m ≡ reduced) × (c ≡ true)

-- the values whose numbers fit
abbrev pub FitValue : (ℕ → Type 0) → Value → Type 0
FitValue F (Truth b) = Unit {0}
FitValue F (Uint n) = F n
FitValue F (Class k) = Unit {0}
FitValue F (Pointer r p) = F p

abbrev pub FitOf : (ℕ → Type 0) → (w : Ty) → Of w → Type 0
FitOf F bool b = Unit {0}
FitOf F uint n = F n
FitOf F pointer p = F p.place

abbrev pub FitLoops : (ℕ → Type 0) → List Loop → Type 0
FitLoops F [] = Unit {0}
FitLoops F (l ∷ ls) = F l.start × F l.end × FitLoops F ls

-- callers whose numbers fit, each kept at a 45
abbrev pub FitCallers : (ℕ → Type 0) → Table → List Caller → Type 0
FitCallers F t [] = Unit {0}
FitCallers F t (c ∷ cs) =
    FitLoops F c.here.loops × ((i : ℕ) → F (get_or c.locals i 0)) × (row_kind (row_at t c.here.row).kind ≡ call) × FitCallers F t cs

-- what is worked out from numbers that fit fits, as does every constant
pub record Closed (F : ℕ → Type 0) (t : Table) : Type 0 where
  pub none : F 0
  pub sum : (x y : ℕ) → x + y ≤ most → F (x + y)
  pub difference : (x y : ℕ) → F x → F (x - y)
  pub constant : (n : ℕ) → F (node_at t n).a

-- two tables with the lines of the plain table t: v, which the machine m takes, has the marks us of uints and bs of pointers; u has those of t
pub record Related (m : MachineKind) (F : ℕ → Type 0) (us bs : ℕ → Bool) (t v u : Table) : Type 0 where
  pub kinds : PlainKinds t
  pub first : TableIn m us bs t v
  pub second : Reduces t u
  pub closed : Closed F t
  pub itself : Plainly m [] → v ≡ t
  pub uints : (i : ℕ) → AlsoMarked m (us i) (marked_uint t i)
  pub pointers : (i : ℕ) → AlsoMarked m (bs i) (marked_pointer t i)

-- the variables that only the second holds as classes: of those it has marked (cs), those that the first has not (bs)
abbrev pub only_second : (ℕ → Bool) → (ℕ → Bool) → ℕ → Bool
only_second bs cs i = if bs i then false else cs i

pub record LinkedVars (ps : List ℕ) (only : ℕ → Bool) (pv rv : List Value) : Type 0 where
  pub number : length rv ≡ length pv
  pub variable : (i : ℕ) → i < length pv → SameVariable ps (only i) (get_or pv i (Uint 0)) (get_or rv i (Uint 0))

-- how many cells a reduced array takes more than a plain one, at most; and how many the second has more than the first, at least
pub record Extra : Type 0 where
  pub per_array : ℕ
  pub in_all : ℕ

-- the second may lack cells where the first does not
abbrev pub Tight : Extra → Type 0
Tight extra = extra.in_all < extra.per_array * most_arrays

-- ks says which arrays the second holds reduced
pub record LinkedMemory (m : MachineKind) (ps : List ℕ) (extra : Extra) (ks : List Bool) (pa : List Array) (pc : List ℕ) (ra : List Array)
    (rc : List ℕ) : Type 0 where
  pub number : length ra ≡ length pa
  pub flags : length ks ≡ length pa
  pub flag : (i : ℕ) → i < length pa → get_or ks i false ≡ (array_at ra i).reduced
  pub also : (i : ℕ) → i < length pa → AlsoMarked m (array_at pa i).reduced (array_at ra i).reduced
  pub len : (i : ℕ) → i < length pa → (array_at ra i).len ≡ (array_at pa i).len
  pub equal : (i : ℕ) → i < length pa → (j : ℕ) → j < (array_at pa i).len → keeps ps (array_at ra i) j ≡ true
      → get_or rc ((array_at ra i).start + index_of ps (array_at ra i) j) 0 ≡ get_or pc ((array_at pa i).start + index_of (places_in m ps) (array_at pa i) j) 0
  pub laid_first : Laid (places_in m ps) pa pc
  pub laid_second : Laid ps ra rc
  pub fewer : cells_laid ps ra ≤ cells_laid (places_in m ps) pa + extra.per_array * length pa
  pub room : length pc + extra.in_all ≤ length rc

pub record Linked (m : MachineKind) (F : ℕ → Type 0) (ps : List ℕ) (extra : Extra) (t : Table) (only : ℕ → Bool) (ks : List Bool) (p r : State)
    : Type 0 where
  pub here : r.here ≡ p.here
  pub callers : r.callers ≡ p.callers
  pub vars : LinkedVars ps only p.vars r.vars
  pub memory : LinkedMemory m ps extra ks p.arrays p.cells r.arrays r.cells
  pub fit_vars : (i : ℕ) → FitValue F (get_or p.vars i (Uint 0))
  pub fit_cells : (i : ℕ) → F (get_or p.cells i 0)
  pub fit_loops : FitLoops F p.here.loops
  pub fit_callers : FitCallers F t p.callers
