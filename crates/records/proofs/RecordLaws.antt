-- A record that 15 does not refuse holds a state that demand 3 speaks of, and a regular one; and the other way round.
-- Assumes nothing.
use Prim.Native.Nat.{ℕ, zero, suc, ◌+◌, ◌<◌}
use native.Mathlib.Nat.{not-suc-le-zero, le_of_suc-le-suc}
use native.Mathlib.Omega.{arith}
use mathlib.Core.Path.{◌≡◌, refl, ap, ◌∙◌, subst}
use mathlib.Core.Bool.{Bool, true, false, not, ◌||◌, false≢true}
use mathlib.Core.List.{List, [], ◌∷◌, map}
use lib.ListN.{length, get_or}
use lib.Dec.{ltb, leb, eqb}
use borrow.Author.Tests.{ltb-true, lt-ltb, leb-true, le-leb, eqb-true, eq-eqb, not-true}
use Rattle.lists.specs.Tab.{all}
use Rattle.lists.proofs.TabLaws.{all-at, all_true}
use Rattle.lists.proofs.BoolLaws.{and_left, and_right}
use Rattle.model.specs.Class.{HeldClass, accepted_places, candidate, class, class_held}
use Rattle.model.specs.Table.{Row, Table, Ty, home, locals_at, most, open_at, opening, row_at, row_kind, type_at}
use Rattle.model.specs.Table.Row.{skip, assign, store, assert, assume, array, loop, loop_end, reduced_store, reduced_array, class_loop}
use Rattle.model.specs.Table.Row.{procedure, returns, call, no_row}
use Rattle.model.specs.Table.Ty.{bool, uint, pointer}
use Rattle.model.specs.State.{Array, Caller, Loop, MachineKind, Position, State, Value, classed, most_arrays, most_callers}
use Rattle.model.specs.State.MachineKind.{plain, reduced}
use Rattle.model.specs.State.Value.{Truth, Uint, Class, Pointer}
use Rattle.model.specs.Eval.{size_of, cells_laid}
use Rattle.model.specs.Agree.{array_at}
use Rattle.model.specs.Procedures.{may_use}
use Rattle.model.specs.Accepted.{CallersStarted, Calls, CanHave, HasType, Holds, InSequence, Regular, Stacked, Stands, Started}
use Rattle.model.proofs.ClassLaws.{class-held, places-rise}
use Rattle.records.specs.RecordPromises.{CanFits, FitsCan}
use Rattle.records.specs.Record.{arrays_fit, callers_right, calls_right, holds_class, in_sequence, is_call, is_zero, kinds_fit, locals_idle, loops_around}
use Rattle.records.specs.Record.{of_the_type, record_fits, row_within, same_numbers, stands_right, starts_within, variable_fits, variables_fit}

-- ---- lists

same-numbers : (xs ys : List ℕ) → same_numbers xs ys ≡ true → xs ≡ ys
same-numbers [] [] e = refl
same-numbers [] (y ∷ ys) e = absurd (false≢true e)
same-numbers (x ∷ xs) [] e = absurd (false≢true e)
same-numbers (x ∷ xs) (y ∷ ys) e =
    ap (λ (k : ℕ). k ∷ xs) (eqb-true x y (and_left (eqb x y) (same_numbers xs ys) e))
    ∙ ap (λ l. y ∷ l) (same-numbers xs ys (and_right (eqb x y) (same_numbers xs ys) e))

same-itself : (xs : List ℕ) → same_numbers xs xs ≡ true
same-itself [] = refl
same-itself (x ∷ xs) = rw (eq-eqb x x refl) (same-itself xs)

starts-within : (ls : List Loop) → starts_within ls ≡ true → Started ls
starts-within [] e = tt
starts-within (l ∷ ls) e = (
  leb-true l.start l.end (and_left (leb l.start l.end) (starts_within ls) e),
  starts-within ls
      (and_right (leb l.start l.end) (starts_within ls) e),
)

starts-all : (ls : List Loop) → Started ls → starts_within ls ≡ true
starts-all [] h = refl
starts-all (l ∷ ls) h = rw (le-leb l.start l.end h.0) (starts-all ls h.1)

in-sequence : (ps : List ℕ) (from : ℕ) (rs : List Array) → in_sequence ps from rs ≡ true → InSequence ps from rs
in-sequence ps from [] e = tt
in-sequence ps from (r ∷ rs) e = (
  eqb-true r.start from (and_left (eqb r.start from) (in_sequence ps (from + size_of ps r) rs) e),
  in-sequence ps (from + size_of ps r) rs
      (and_right (eqb r.start from) (in_sequence ps (from + size_of ps r) rs) e),
)

sequence-all : (ps : List ℕ) (from : ℕ) (rs : List Array) → InSequence ps from rs → in_sequence ps from rs ≡ true
sequence-all ps from [] h = refl
sequence-all ps from (r ∷ rs) h = rw (eq-eqb r.start from h.0) (sequence-all ps (from + size_of ps r) rs h.1)

kinds-fit : (rs : List Array) → kinds_fit plain rs ≡ true → (i : ℕ) → i < length rs → (array_at rs i).reduced ≡ false
kinds-fit [] e i h = absurd (not-suc-le-zero h)
kinds-fit (r ∷ rs) e zero h = not-true r.reduced (and_left (not r.reduced) (kinds_fit plain rs) e)
kinds-fit (r ∷ rs) e (suc i) h = kinds-fit rs (and_right (not r.reduced) (kinds_fit plain rs) e) i (le_of_suc-le-suc h)

kinds-all : (m : MachineKind) (rs : List Array) → (m ≡ plain → (i : ℕ) → i < length rs → (array_at rs i).reduced ≡ false) → kinds_fit m rs ≡ true
kinds-all plain [] h = refl
kinds-all reduced [] h = refl
kinds-all plain (r ∷ rs) h = rw (h refl 0 (omega arith)) (kinds-all plain rs (λ e i k. h e (suc i) (omega arith)))
kinds-all reduced (r ∷ rs) h = kinds-all reduced rs (λ e i k. h e (suc i) (omega arith))

-- ---- where the run or a caller stands

module _ (t : Table) (p : Position) where
  stands : stands_right t p ≡ true → Stands t p × Started p.loops
  stands e =
      let loops = and_right (row_within t p) _ e in (
        record {
          row = leb-true p.row t.rows (and_left (row_within t p) _ e);
          loops = same-numbers (map (λ (l : Loop). l.row) p.loops) (open_at t p.row) (and_left (loops_around t p) (starts_within p.loops) loops);
        },
        starts-within p.loops (and_right (loops_around t p) (starts_within p.loops) loops),
      )

  stands-all : Stands t p → Started p.loops → stands_right t p ≡ true
  stands-all S h =
      let around : loops_around t p ≡ true =
      subst (λ (l : List ℕ). same_numbers (map (λ (l : Loop). l.row) p.loops) l ≡ true) S.loops
      (same-itself (map (λ (l : Loop). l.row) p.loops)) in
      rw (le-leb p.row t.rows S.row, around) (starts-all p.loops h)

-- ---- callers

is-call : (k : Row) → is_call k ≡ true → k ≡ call
is-call skip e = absurd (false≢true e)
is-call assign e = absurd (false≢true e)
is-call store e = absurd (false≢true e)
is-call assert e = absurd (false≢true e)
is-call assume e = absurd (false≢true e)
is-call array e = absurd (false≢true e)
is-call loop e = absurd (false≢true e)
is-call loop_end e = absurd (false≢true e)
is-call reduced_store e = absurd (false≢true e)
is-call reduced_array e = absurd (false≢true e)
is-call class_loop e = absurd (false≢true e)
is-call procedure e = absurd (false≢true e)
is-call returns e = absurd (false≢true e)
is-call call e = refl
is-call no_row e = absurd (false≢true e)

module _ (t : Table) where
  calls : (q : ℕ) (c : Caller) → calls_right t q c ≡ true → Calls t q c × Started c.here.loops
  calls q c e =
      let r = c.here.row in
      let inside : Bool = ltb r t.rows in
      let kind : Bool = is_call (row_kind (row_at t r).kind) in
      let named : Bool = eqb (suc (opening t (row_at t r).a)) q in
      let e1 = and_right inside _ e in
      let e2 = and_right kind _ e1 in
      let e3 = and_right named _ e2 in
      let S = stands t c.here (and_left (stands_right t c.here) _ e3) in (
        record {
          here = S.0;
          inside = ltb-true r t.rows (and_left inside _ e);
          is_call = is-call (row_kind (row_at t r).kind) (and_left kind _ e1);
          names = eqb-true (suc (opening t (row_at t r).a)) q (and_left named _ e2);
          locals = eqb-true (length c.locals) (locals_at t r).count (and_right (stands_right t c.here) _ e3);
        },
        S.1,
      )

  calls-all : (q : ℕ) (c : Caller) → Calls t q c → Started c.here.loops → calls_right t q c ≡ true
  calls-all q c C h =
      let r = c.here.row in
      rw (lt-ltb r t.rows C.inside, C.is_call, eq-eqb (suc (opening t (row_at t r).a)) q C.names, stands-all t c.here C.here h)
      (eq-eqb (length c.locals) (locals_at t r).count C.locals)

  stacked : (q : ℕ) (cs : List Caller) → callers_right t q cs ≡ true → Stacked t q cs × CallersStarted cs
  unfolding callers_right
  stacked q [] e = (eqb-true q 0 e, tt)
  stacked q (c ∷ cs) e =
      let C = calls q c (and_left (calls_right t q c) _ e) in
      let R = stacked (home t c.here.row) cs (and_right (calls_right t q c) _ e) in
      ((C.0, R.0), (C.1, R.1))

  stacked-all : (q : ℕ) (cs : List Caller) → Stacked t q cs → CallersStarted cs → callers_right t q cs ≡ true
  unfolding callers_right
  stacked-all q [] h s = eq-eqb q 0 h
  stacked-all q (c ∷ cs) h s = rw (calls-all q c h.0 s.0) (stacked-all (home t c.here.row) cs h.1 s.1)

-- ---- variables

type-holds : (n : ℕ) (w : Ty) (v : Value) → of_the_type n w v ≡ true → HasType n w v
type-holds n bool (Truth b) e = (b, refl)
type-holds n bool (Uint x) e = absurd (false≢true e)
type-holds n bool (Class k) e = absurd (false≢true e)
type-holds n bool (Pointer r p) e = absurd (false≢true e)
type-holds n uint (Truth b) e = absurd (false≢true e)
type-holds n uint (Uint x) e = (x, refl)
type-holds n uint (Class k) e = absurd (false≢true e)
type-holds n uint (Pointer r p) e = absurd (false≢true e)
type-holds n pointer (Truth b) e = absurd (false≢true e)
type-holds n pointer (Uint x) e = absurd (false≢true e)
type-holds n pointer (Class k) e = absurd (false≢true e)
type-holds n pointer (Pointer r p) e = (r, p, refl, leb-true r n e)

holds-type : (n : ℕ) (w : Ty) (v : Value) → HasType n w v → of_the_type n w v ≡ true
holds-type n bool v h = rw h.1
holds-type n uint v h = rw h.1
holds-type n pointer v h = rw h.2 (le-leb h.0 n h.3)

class-value : (ps : List ℕ) (v : Value) → holds_class ps v ≡ true → (k : ℕ) × (v ≡ Class k) × (class_held ps k ≡ true)
class-value ps (Truth b) e = absurd (false≢true e)
class-value ps (Uint x) e = absurd (false≢true e)
class-value ps (Class k) e = (k, refl, e)
class-value ps (Pointer r p) e = absurd (false≢true e)

zero-value : (v : Value) → is_zero v ≡ true → v ≡ Uint 0
zero-value (Truth b) e = absurd (false≢true e)
zero-value (Uint x) e = ap Uint (eqb-true x 0 e)
zero-value (Class k) e = absurd (false≢true e)
zero-value (Pointer r p) e = absurd (false≢true e)

-- ---- the whole record

-- the tests of record_fits, one by one
record Parts (m : MachineKind) (ps : List ℕ) (t : Table) (s : State) : Type 0 where
  here : stands_right t s.here ≡ true
  few_callers : leb (length s.callers) most_callers ≡ true
  callers : callers_right t (home t s.here.row) s.callers ≡ true
  number : eqb (length s.vars) t.decls ≡ true
  variables : all t.decls (variable_fits m ps t s) ≡ true
  idle : locals_idle t s ≡ true
  few : leb (length s.arrays) most_arrays ≡ true
  sequence : in_sequence ps 0 s.arrays ≡ true
  room : leb (cells_laid ps s.arrays) (length s.cells) ≡ true
  kinds : kinds_fit m s.arrays ≡ true

module _ (m : MachineKind) (ps : List ℕ) (t : Table) (s : State) where
  parts : record_fits m ps t s ≡ true → Parts m ps t s
  unfolding record_fits
  parts e =
      let e1 = and_right (stands_right t s.here) _ e in
      let e2 = and_right (leb (length s.callers) most_callers) _ e1 in
      let e3 = and_right (callers_right t (home t s.here.row) s.callers) _ e2 in
      let e4 = and_right (variables_fit m ps t s) _ e3 in
      let v = and_left (variables_fit m ps t s) _ e3 in
      let a = and_right (locals_idle t s) (arrays_fit m ps s) e4 in
      let a1 = and_right (leb (length s.arrays) most_arrays) _ a in
      let a2 = and_right (in_sequence ps 0 s.arrays) _ a1 in
      record {
        here = and_left (stands_right t s.here) _ e;
        few_callers = and_left (leb (length s.callers) most_callers) _ e1;
        callers = and_left (callers_right t (home t s.here.row) s.callers) _ e2;
        number = and_left (eqb (length s.vars) t.decls) (all t.decls (variable_fits m ps t s)) v;
        variables = and_right (eqb (length s.vars) t.decls) (all t.decls (variable_fits m ps t s)) v;
        idle = and_left (locals_idle t s) (arrays_fit m ps s) e4;
        few = and_left (leb (length s.arrays) most_arrays) _ a;
        sequence = and_left (in_sequence ps 0 s.arrays) _ a1;
        room = and_left (leb (cells_laid ps s.arrays) (length s.cells)) (kinds_fit m s.arrays) a2;
        kinds = and_right (leb (cells_laid ps s.arrays) (length s.cells)) (kinds_fit m s.arrays) a2;
      }

  whole : Parts m ps t s → record_fits m ps t s ≡ true
  unfolding record_fits
  whole P = rw (P.here, P.few_callers, P.callers, P.number, P.variables, P.idle, P.few, P.sequence, P.room, P.kinds)

  holds : Parts m ps t s → (i : ℕ) → i < t.decls → (b : Bool) → classed m t i ≡ b
      → Holds b (length s.arrays) (type_at t i) (get_or s.vars i (Uint 0))
  holds P i h true e =
      let c = class-value ps (get_or s.vars i (Uint 0)) (rw e at (all-at t.decls (variable_fits m ps t s) P.variables i h)) in
      (c.0, c.1)
  holds P i h false e =
      type-holds (length s.arrays) (type_at t i) (get_or s.vars i (Uint 0)) (rw e at (all-at t.decls (variable_fits m ps t s) P.variables i h))

  kind-plain : Parts m ps t s → m ≡ plain → (i : ℕ) → i < length s.arrays → (array_at s.arrays i).reduced ≡ false
  kind-plain P e = kinds-fit s.arrays (subst (λ (k : MachineKind). kinds_fit k s.arrays ≡ true) e P.kinds)

  -- 15 passing gives what demand 3 asks
  can-have : Parts m ps t s → CanHave ps m t s
  can-have P = record {
    here = (stands t s.here P.here).0;
    stack = (stacked t (home t s.here.row) s.callers P.callers).0;
    variables = eqb-true (length s.vars) t.decls P.number;
    variable = λ i h. holds P i h (classed m t i) refl;
    laid = record {
      sequence = in-sequence ps 0 s.arrays P.sequence;
      room = leb-true (cells_laid ps s.arrays) (length s.cells) P.room;
    };
    plain_arrays = kind-plain P;
  }

  -- a class in the record is held by its candidate
  class-number : Parts m ps t s → (i : ℕ) → i < t.decls → classed m t i ≡ true
      → (k : ℕ) × (get_or s.vars i (Uint 0) ≡ Class k) × HeldClass ps k
  unfolding class_held
  class-number P i h e =
      let c = class-value ps (get_or s.vars i (Uint 0)) (rw e at (all-at t.decls (variable_fits m ps t s) P.variables i h)) in
      let n = candidate 0 ps c.0 in
      (c.0, c.1, (n, leb-true n most (and_left (leb n most) _ c.2), eqb-true (class ps n) c.0 (and_right (leb n most) _ c.2)))

  -- whether what is at work may use variable i, or it is 0
  abbrev idle_at : ℕ → Bool
  idle_at i = may_use t (home t s.here.row) i || is_zero (get_or s.vars i (Uint 0))

  is-idle : Parts m ps t s → (i : ℕ) → i < t.decls → may_use t (home t s.here.row) i ≡ false → get_or s.vars i (Uint 0) ≡ Uint 0
  is-idle P i h e = zero-value (get_or s.vars i (Uint 0)) (rw e at (all-at t.decls idle_at P.idle i h))

  is-regular : Parts m ps t s → Regular ps m t s
  is-regular P = record {
    started = (stands t s.here P.here).1;
    callers_started = (stacked t (home t s.here.row) s.callers P.callers).1;
    classes = class-number P;
    few = leb-true (length s.arrays) most_arrays P.few;
    few_callers = leb-true (length s.callers) most_callers P.few_callers;
    idle = is-idle P;
  }

  module _ (ok : accepted_places ps ≡ true) (C : CanHave ps m t s) (R : Regular ps m t s) where
    fits-variable : (i : ℕ) → i < t.decls → variable_fits m ps t s i ≡ true
    fits-variable i h = go (classed m t i) refl (C.variable i h) (R.classes i h)
      where
        go : (b : Bool) → classed m t i ≡ b → Holds (classed m t i) (length s.arrays) (type_at t i) (get_or s.vars i (Uint 0))
            → (classed m t i ≡ true → (k : ℕ) × (get_or s.vars i (Uint 0) ≡ Class k) × HeldClass ps k) → variable_fits m ps t s i ≡ true
        go true e v r = let k = r e in rw (e, k.1) ((class-held ps (places-rise ps ok) k.0).1 k.2)
        go false e v r = rw e (holds-type (length s.arrays) (type_at t i) (get_or s.vars i (Uint 0)) (rw e at v))

    idle-all : (i : ℕ) → i < t.decls → idle_at i ≡ true
    idle-all i h = go (may_use t (home t s.here.row) i) refl
      where
        go : (b : Bool) → may_use t (home t s.here.row) i ≡ b → idle_at i ≡ true
        go true e = rw e
        go false e = rw (e, R.idle i h e)

    all-fits : record_fits m ps t s ≡ true
    all-fits = whole (record {
      here = stands-all t s.here C.here R.started;
      few_callers = le-leb (length s.callers) most_callers R.few_callers;
      callers = stacked-all t (home t s.here.row) s.callers C.stack R.callers_started;
      number = eq-eqb (length s.vars) t.decls C.variables;
      variables = all_true t.decls (variable_fits m ps t s) fits-variable;
      idle = all_true t.decls idle_at idle-all;
      few = le-leb (length s.arrays) most_arrays R.few;
      sequence = sequence-all ps 0 s.arrays C.laid.sequence;
      room = le-leb (cells_laid ps s.arrays) (length s.cells) C.laid.room;
      kinds = kinds-all m s.arrays C.plain_arrays;
    })

pub fits-can : FitsCan
fits-can m ps t s e = let P = parts m ps t s e in record { can = can-have m ps t s P; regular = is-regular m ps t s P }

pub can-fits : CanFits
can-fits m ps ok t s B = all-fits m ps t s ok B.can B.regular
