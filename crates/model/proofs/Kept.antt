-- A run keeps its state regular: loops start no later than they end, classes are held by numbers, arrays are at most 16, callers at most eight,
-- and a local of a procedure that is not at work is 0.
-- Assumes nothing.
use mathlib.Core.Path.{◌≡◌, refl, sym, ap, ◌∙◌, subst}
use Prim.Native.Nat.{ℕ, zero, suc, ◌+◌, ◌≤◌, ◌<◌}
use native.Mathlib.Decide.{ℕ_discrete}
use native.Mathlib.Omega.{arith}
use mathlib.Core.Bool.{Bool, true, false, ◌&&◌, true≢false}
use mathlib.Core.List.{List, [], ◌∷◌}
use lib.ListN.{length, get_or, set}
use lib.Seq.{get_or-set_same, get_or-set_other}
use lib.Dec.{ltb, leb, eqb}
use borrow.Author.Tests.{ltb-true, leb-true, leb-false}
use Rattle.std.specs.Prelude.{if◌then◌else◌}
use Rattle.lists.proofs.TabLaws.{at-tab}
use Rattle.model.specs.Class.{HeldClass, class}
use Rattle.model.specs.Table.{Node, Row, Table, Ty, at_end, home, is_opening, locals_at, matching_end, nest_at, nest_of, node_at, node_kind, open_at, opening}
use Rattle.model.specs.Table.{opens_procedure, row_at, row_kind, type_at, most}
use Rattle.model.specs.Table.Nest.{opens}
use Rattle.model.specs.Table.Ty.{bool, uint, pointer}
use Rattle.model.specs.Table.Node.{variable, uint_constant, bool_constant, cell, plus, minus, less, at_most, equal, conditional, valid, class_variable}
use Rattle.model.specs.Table.Node.{reduced_cell, reduced_valid, no_node}
use Rattle.model.specs.Table.Row.{skip, assign, store, assert, assume, array, loop, loop_end, reduced_store, reduced_array, class_loop}
use Rattle.model.specs.Table.Row.{procedure, returns, call, no_row}
use Rattle.model.specs.Work.{Reason, Out, Work, ◌>>=◌, choose, fail, give, next, wrong}
use Rattle.model.specs.Work.Out.{gives, fails, bad_choice, no_choice, stuck}
use Rattle.model.specs.State.{Array, Caller, Loop, MachineKind, Position, State, Value, classed, form_of, fresh, most_arrays, most_callers, position}
use Rattle.model.specs.State.{start_of}
use Rattle.model.specs.State.Value.{Truth, Uint, Class, Pointer}
use Rattle.model.specs.Eval.{Of, Ptr, Contents, add, sum_or, array_of, as_class, bools, cell_of, compare, eval, eval_f, is_valid, keeps, load, of_type}
use Rattle.model.specs.Eval.{present, reduced_load, rule, size_of, contents_of, subtract, sum_or_difference, uints, cells_laid, value, variable_of}
use Rattle.model.specs.Step.{End, Move, add_array, after, enter, laid_next, loop_at, new_array, node, past, past_end, put, reduced_write}
use Rattle.model.specs.Step.{argument, call_procedure, finished, give_back, go_to, hand_over, handed_over, renumbered, repeat_loop, row_rule, run, set_var}
use Rattle.model.specs.Step.{step, step_at, uints_in, with_array, with_here, with_loops, with_memory, with_var, with_work, write}
use Rattle.model.specs.Step.End.{done, want_of_cells, out_of_steps}
use Rattle.model.specs.Step.Move.{to, stop}
use Rattle.model.specs.Step.Report.{ended}
use Rattle.model.specs.Procedures.{may_use}
use Rattle.model.specs.Accepted.{Accepted, CallersStarted, CanHave, Regular, Stacked, Started, node_type}
use Rattle.model.specs.Demand3.{EndsRegular, FreshRegular, Numbers, StaysRegular}
use Rattle.model.proofs.Memory.{snoc-length}
use Rattle.model.proofs.Homes.{home-next, inside-end}
use Rattle.model.proofs.Nested.{AllIn, Chain, chain, loops-in, matching-end, opens-none}
use Rattle.model.proofs.Typing.{RowFits, classed-none, is-nested, rows_fit}
use Rattle.model.proofs.Locals.{length-renumbered, locals-fit, renumbered-all}
use Rattle.model.proofs.Own.{Sets, idle-handed, local_fits, row-sets}
use Rattle.model.proofs.Safe.{Held}
use Rattle.model.proofs.SafeStep.{MoveOk, loop_rows, safe-step}

-- a value that is given has the property, and the choices left are numbers
abbrev pub Given : {A : Type 0} → (A → Type 0) → Out A → Type 0
Given P (gives a left) = P a × Numbers left
Given P (fails why left) = Unit {0}
Given P bad_choice = Unit {0}
Given P no_choice = Unit {0}
Given P stuck = Unit {0}

pub record Keeps {A : Type 0} (P : A → Type 0) (w : Work A) : Type 0 where
  pub kept : (cs : List ℕ) → Numbers cs → Given P (w cs)

keeps-give : {A : Type 0} {P : A → Type 0} {a : A} → P a → Keeps P (give a)
keeps-give h = record { kept = λ cs n. (h, n) }

keeps-fail : {A : Type 0} {P : A → Type 0} {why : Reason} → Keeps P (fail {A = A} why)
keeps-fail = record { kept = λ cs n. tt }

keeps-wrong : {A : Type 0} {P : A → Type 0} → Keeps P (wrong {A = A})
keeps-wrong = record { kept = λ cs n. tt }

keeps-if : {A : Type 0} {P : A → Type 0} (b : Bool) {v w : Work A} → (b ≡ true → Keeps P v) → (b ≡ false → Keeps P w) → Keeps P (if b then v else w)
keeps-if true x y = x refl
keeps-if false x y = y refl

keeps-bind : {A B : Type 0} {P : A → Type 0} {Q : B → Type 0} {w : Work A} {k : A → Work B} → Keeps P w → ((a : A) → P a → Keeps Q (k a)) → Keeps Q (w >>= k)
keeps-bind {A} {B} {P} {Q} {w} {k} x y = record { kept = λ cs n. go (w cs) (x.kept cs n) }
  where
    go : (o : Out A) → Given P o → Given Q (next o k)
    go (gives a left) h = (y a h.0).kept left h.1
    go (fails why left) h = tt
    go bad_choice h = tt
    go no_choice h = tt
    go stuck h = tt

keeps-choose : (ok : ℕ → Bool) → Keeps (λ v. v ≤ most) (choose ok)
keeps-choose ok = record { kept = go }
  where
    pick : (b : Bool) (c : ℕ) (cs : List ℕ) → c ≤ most → Numbers cs → Given (λ v. v ≤ most) (if b then gives c cs else bad_choice)
    pick true c cs h n = (h, n)
    pick false c cs h n = tt

    go : (cs : List ℕ) → Numbers cs → Given (λ v. v ≤ most) (choose ok cs)
    go [] n = tt
    go (c ∷ cs) n = pick (ok c) c cs n.0 n.1

abbrev Any : {A : Type 0} → A → Type 0
Any a = Unit {0}

-- ---- operands: nothing is asked of the value

any-bind : {A B : Type 0} {P : A → Type 0} {w : Work A} {k : A → Work B} → Keeps P w → ((a : A) → Keeps Any (k a)) → Keeps Any (w >>= k)
any-bind x y = keeps-bind x (λ a _. y a)

keeps-any : {A : Type 0} {P : A → Type 0} {w : Work A} → Keeps P w → Keeps Any w
keeps-any {A} {P} {w} x = record { kept = λ cs n. go (w cs) (x.kept cs n) }
  where
    go : (o : Out A) → Given P o → Given Any o
    go (gives a left) h = (tt, h.1)
    go (fails why left) h = tt
    go bad_choice h = tt
    go no_choice h = tt
    go stuck h = tt

any-choose : (ok : ℕ → Bool) → Keeps Any (choose ok)
any-choose ok = keeps-any (keeps-choose ok)

any-variable : (vs : List Value) (a : ℕ) → Keeps Any (variable_of vs a)
any-variable vs a = keeps-if (ltb a (length vs)) (λ _. keeps-give tt) (λ _. keeps-wrong)

any-of_type : (w : Ty) (v : Value) → Keeps Any (of_type w v)
any-of_type bool (Truth b) = keeps-give tt
any-of_type bool (Uint n) = keeps-wrong
any-of_type bool (Class k) = keeps-wrong
any-of_type bool (Pointer r p) = keeps-wrong
any-of_type uint (Truth b) = keeps-wrong
any-of_type uint (Uint n) = keeps-give tt
any-of_type uint (Class k) = keeps-wrong
any-of_type uint (Pointer r p) = keeps-wrong
any-of_type pointer (Truth b) = keeps-wrong
any-of_type pointer (Uint n) = keeps-wrong
any-of_type pointer (Class k) = keeps-wrong
any-of_type pointer (Pointer r p) = keeps-give tt

any-as_class : (v : Value) → Keeps Any (as_class v)
any-as_class (Truth b) = keeps-wrong
any-as_class (Uint n) = keeps-wrong
any-as_class (Class k) = keeps-give tt
any-as_class (Pointer r p) = keeps-wrong

any-uints : (w : Ty) {x : Work ℕ} → Keeps Any x → Keeps Any (uints w x)
any-uints bool x = keeps-wrong
any-uints uint x = x
any-uints pointer x = keeps-wrong

any-bools : (w : Ty) {x : Work Bool} → Keeps Any x → Keeps Any (bools w x)
any-bools bool x = x
any-bools uint x = keeps-wrong
any-bools pointer x = keeps-wrong

any-sum_or : (why : Reason) (x y : ℕ) → Keeps Any (sum_or why x y)
any-sum_or why x y = keeps-if (leb (x + y) most) (λ _. keeps-give tt) (λ _. keeps-fail)

any-subtract : (x y : ℕ) → Keeps Any (subtract x y)
any-subtract x y = keeps-if (leb y x) (λ _. keeps-give tt) (λ _. keeps-fail)

any_sum : (op : ℕ → ℕ → Work ℕ) → ((x y : ℕ) → Keeps Any (op x y)) → (w : Ty) {x : Work (Of w)} {y : Work ℕ} → Keeps Any x → Keeps Any y
    → Keeps Any (sum_or_difference op w x y)
any_sum op h bool x y = keeps-wrong
any_sum op h uint x y = any-bind x (λ a. any-bind y (λ b. h a b))
any_sum op h pointer x y = any-bind x (λ p. any-bind y (λ b. any-bind (h p.place b) (λ z. keeps-give tt)))

any-compare : (test : ℕ → ℕ → Bool) {x y : Work ℕ} → Keeps Any x → Keeps Any y → Keeps Any (compare test x y)
any-compare test x y = any-bind x (λ a. any-bind y (λ b. keeps-give tt))

any_array : (rs : List Array) (i : ℕ) → Keeps Any (array_of rs i)
any_array rs zero = keeps-fail
any_array rs (suc i) = keeps-if (ltb i (length rs)) (λ _. keeps-give tt) (λ _. keeps-wrong)

any-cell : (ps cells : List ℕ) (r : Array) (i : ℕ) → Keeps Any (cell_of ps cells r i)
any-cell ps cells r i = keeps-if (ltb i (size_of ps r)) (λ _. keeps-if (ltb (r.start + i) (length cells)) (λ _. keeps-give tt) (λ _. keeps-wrong))
    (λ _. keeps-wrong)

any-load : (ps : List ℕ) (rs : List Array) (cells : List ℕ) (p : Ptr) → Keeps Any (load ps rs cells p)
any-load ps rs cells p = any-bind (any_array rs p.array) (λ r. keeps-if (ltb p.place r.len) (λ _. any-cell ps cells r p.place) (λ _. keeps-fail))

any-reduced_load : (ps : List ℕ) (rs : List Array) (cells : List ℕ) (p : Ptr) → Keeps Any (reduced_load ps rs cells p)
any-reduced_load ps rs cells p =
    any-bind (any_array rs p.array)
    (λ r. keeps-if (ltb p.place r.len) (λ _. keeps-if (keeps ps r p.place) (λ _. any-cell ps cells r _) (λ _. any-choose (λ v. true))) (λ _. keeps-fail))

any-valid : (rs : List Array) (i q : ℕ) → Keeps Any (is_valid rs i q)
any-valid rs zero q = keeps-give tt
any-valid rs (suc i) q = any-bind (any_array rs (suc i)) (λ r. keeps-give tt)

any-present : (n : ℕ) (w : Ty) (x : Of w) → Keeps Any (present n w x)
any-present n bool x = keeps-give tt
any-present n uint x = keeps-give tt
any-present n pointer x = keeps-if (leb x.array n) (λ _. keeps-give tt) (λ _. keeps-wrong)

module _ (ps : List ℕ) (s : Contents) where
  any-rule : (w : Ty) (k : Node) (a b c : ℕ) {ev : (v : Ty) → ℕ → Work (Of v)} → ((v : Ty) (m : ℕ) → Keeps Any (ev v m)) → Keeps Any (rule ps s w k a b c ev)
  unfolding rule
  any-rule w variable a b c ih = any-bind (any-variable s.vars a) (any-of_type w)
  any-rule w uint_constant a b c ih = any-uints w (keeps-give tt)
  any-rule w bool_constant a b c ih = any-bools w (keeps-give tt)
  any-rule w cell a b c ih = any-uints w (any-bind (ih pointer a) (any-load ps s.arrays s.cells))
  any-rule w plus a b c ih = any_sum add (any-sum_or _) w (ih w a) (ih uint b)
  any-rule w minus a b c ih = any_sum subtract any-subtract w (ih w a) (ih uint b)
  any-rule w less a b c ih = any-bools w (any-compare ltb (ih uint a) (ih uint b))
  any-rule w at_most a b c ih = any-bools w (any-compare leb (ih uint a) (ih uint b))
  any-rule w equal a b c ih = any-bools w (any-compare eqb (ih uint a) (ih uint b))
  any-rule w conditional a b c ih = any-bind (ih bool a) (λ x. keeps-if x (λ _. ih w b) (λ _. ih w c))
  any-rule w valid a b c ih = any-bools w (any-bind (ih pointer a) (λ p. any-valid s.arrays p.array p.place))
  any-rule w class_variable a b c ih = any-uints w (any-bind (any-bind (any-variable s.vars a) any-as_class) (λ k. any-choose _))
  any-rule w reduced_cell a b c ih = any-uints w (any-bind (ih pointer a) (any-reduced_load ps s.arrays s.cells))
  any-rule w reduced_valid a b c ih = any-bools w (any-bind (ih pointer a) (λ p. any-valid s.arrays p.array p.place))
  any-rule w no_node a b c ih = keeps-wrong

  any-eval_f : (t : Table) (f : ℕ) (w : Ty) (n : ℕ) → Keeps Any (eval_f ps s t f w n)
  unfolding eval_f
  any-eval_f t zero w n = keeps-wrong
  any-eval_f t (suc f) w n =
      any-bind (any-rule w (node_kind (node_at t n).kind) (node_at t n).a (node_at t n).b (node_at t n).c
      (λ v m. keeps-if (ltb m n) (λ _. any-eval_f t f v m) (λ _. keeps-wrong)))
      (any-present (length s.arrays) w)

any-node : (ps : List ℕ) (t : Table) (s : State) (w : Ty) (n : ℕ) → Keeps Any (node ps t s w n)
unfolding eval
any-node ps t s w n = keeps-if (ltb n t.nodes) (λ _. any-eval_f ps (contents_of s) t (suc n) w n) (λ _. keeps-wrong)

-- ---- rows

module _ (ps : List ℕ) (m : MachineKind) (t : Table) where
  abbrev pub MoveRegular : Move → Type 0
  MoveRegular (to s) = Regular ps m t s
  MoveRegular (stop e) = Unit {0}

  -- a value that variable a may be set to
  abbrev Settable : ℕ → Value → Type 0
  Settable a v = classed m t a ≡ true → (k : ℕ) × (v ≡ Class k) × HeldClass ps k

  unclassed-settable : (a : ℕ) (v : Value) → classed m t a ≡ false → Settable a v
  unclassed-settable a v e h = absurd (true≢false (sym h ∙ e))

  -- the state with a variable set that may be used where the run stands
  regular-set : (s : State) → Regular ps m t s → (a : ℕ) (v : Value) → a < length s.vars → may_use t (home t s.here.row) a ≡ true → Settable a v
      → Regular ps m t (with_var s a v)
  regular-set s R a v l u h = record {
    started = R.started;
    callers_started = R.callers_started;
    classes = λ i k e. elim (ℕ_discrete i a) [
      | yes q ↦ let g = h (subst (λ (j : ℕ). classed m t j ≡ true) q e) in
          (g.0, ap (λ (j : ℕ). get_or (set s.vars a v) j (Uint 0)) q ∙ get_or-set_same s.vars a v (Uint 0) l ∙ g.1, g.2)
      | no q ↦ let g = R.classes i k e in (g.0, get_or-set_other s.vars a i v (Uint 0) q ∙ g.1, g.2)
    ];
    few = R.few;
    few_callers = R.few_callers;
    idle = λ i k e. elim (ℕ_discrete i a) [
      | yes q ↦ absurd (true≢false (sym (subst (λ (j : ℕ). may_use t (home t s.here.row) j ≡ true) (sym q) u) ∙ e))
      | no q ↦ get_or-set_other s.vars a i v (Uint 0) q ∙ R.idle i k e
    ];
  }

  -- a regular state that stands where s does
  abbrev SetHere : State → State → Type 0
  SetHere s s' = Regular ps m t s' × (s'.here ≡ s.here)

  keeps-set : (s : State) → Regular ps m t s → (a : ℕ) (v : Value) → may_use t (home t s.here.row) a ≡ true → Settable a v
      → Keeps (SetHere s) (set_var s a v)
  keeps-set s R a v u h = record { kept = λ cs n. go cs n (ltb a (length s.vars)) refl }
    where
      go : (cs : List ℕ) → Numbers cs → (b : Bool) → ltb a (length s.vars) ≡ b → Given (SetHere s) (set_var s a v cs)
      go cs n true e = rw e ((keeps-if {P = SetHere s} (eqb (form_of v) (form_of (get_or s.vars a (Uint 0))))
          (λ _. keeps-give (regular-set s R a v (ltb-true a _ e) u h, refl)) (λ _. keeps-wrong)).kept cs n)
      go cs n false e = rw e tt

  -- another row of the procedure at work, other cells and arrays
  regular-at : (s : State) → Regular ps m t s → (r : ℕ) → home t r ≡ home t s.here.row → (rs : List Array) (cs : List ℕ) → length rs ≤ most_arrays
      → Regular ps m t (go_to (with_memory s rs cs) r)
  regular-at s R r e rs cs h = record {
    started = R.started;
    callers_started = R.callers_started;
    classes = R.classes;
    few = h;
    few_callers = R.few_callers;
    idle = rw e R.idle;
  }

  regular-here : (s : State) → Regular ps m t s → (p : Position) → home t p.row ≡ home t s.here.row → Started p.loops
      → Regular ps m t (with_here s p)
  regular-here s R p e h = record {
    started = h;
    callers_started = R.callers_started;
    classes = R.classes;
    few = R.few;
    few_callers = R.few_callers;
    idle = rw e R.idle;
  }

  -- the next row belongs to the same procedure
  abbrev Onwards : State → Type 0
  Onwards s = home t (suc s.here.row) ≡ home t s.here.row

  keeps-put : (s : State) → Regular ps m t s → Onwards s → (r : Array) (i x : ℕ) → Keeps MoveRegular (put ps s r i x)
  keeps-put s R n r i x =
      keeps-if (ltb i (size_of ps r))
      (λ _. keeps-if (ltb (r.start + i) (length s.cells)) (λ _. keeps-give (regular-at s R _ n s.arrays _ R.few)) (λ _. keeps-wrong))
      (λ _. keeps-wrong)

  keeps-write : (s : State) → Regular ps m t s → Onwards s → (p : Ptr) (x : ℕ) → Keeps MoveRegular (write ps s p x)
  keeps-write s R n p x = keeps-bind (any_array s.arrays p.array)
      (λ r _. keeps-if (ltb p.place r.len) (λ _. keeps-put s R n r p.place x) (λ _. keeps-fail))

  keeps-reduced_write : (s : State) → Regular ps m t s → Onwards s → (p : Ptr) (x : ℕ) → Keeps MoveRegular (reduced_write ps s p x)
  keeps-reduced_write s R n p x =
      keeps-bind (any_array s.arrays p.array)
      (λ r _. keeps-if (ltb p.place r.len)
      (λ _. keeps-if (keeps ps r p.place) (λ _. keeps-put s R n r _ x) (λ _. keeps-give (regular-at s R _ n s.arrays _ R.few)))
      (λ _. keeps-fail))

  regular-added : (s : State) → Regular ps m t s → Onwards s → (n : ℕ) (f : Bool) → MoveRegular (add_array ps s n f)
  regular-added s R o n f = go (leb most_arrays (length s.arrays)) refl (leb (cells_laid ps s.arrays + size_of ps (laid_next ps s n f)) (length s.cells))
    where
      go : (b : Bool) → leb most_arrays (length s.arrays) ≡ b → (d : Bool)
          → MoveRegular (if b then stop want_of_cells else (if d then to (past (with_array ps s n f)) else stop want_of_cells))
      go true e d = tt
      go false e true = regular-at s R _ o _ _ (omega (arith, leb-false most_arrays (length s.arrays) e, snoc-length s.arrays (laid_next ps s n f)))
      go false e false = tt

  keeps-enter : (s : State) → Regular ps m t s → (n : ℕ) → home t n ≡ home t s.here.row → nest_at t n ≡ opens → may_use t (home t n) (row_at t n).a ≡ true
      → (v : Value) → Settable (row_at t n).a v → (x y : ℕ) {out : Work ℕ} → Keeps (λ q. home t q ≡ home t n) out
      → Keeps MoveRegular (enter t s n v x y out)
  keeps-enter s R n e k u v h x y {out} o =
      keeps-bind (keeps-set s R (row_at t n).a v (rw (← e) u) h)
      (λ s' R'. keeps-if (leb x y)
      (λ z. keeps-give (regular-here s' R'.0 _ (home-next t n (opens-none (row_kind (row_at t n).kind) k) ∙ same s' R'.1)
      (leb-true x y z, R'.0.started)))
      (λ _. keeps-bind o (λ q z. keeps-give (regular-here s' R'.0 _ (z ∙ same s' R'.1) R'.0.started))))
    where
      same : (s' : State) → s'.here ≡ s.here → home t n ≡ home t s'.here.row
      same s' z = e ∙ ap (λ (w : Position). home t w.row) (sym z)

  keeps-loop : (s : State) → Regular ps m t s → (n : ℕ) → home t n ≡ home t s.here.row → nest_at t n ≡ opens
      → (k : Row) → Sets t (home t n) k (row_at t n).a (row_at t n).c → RowFits m t (node_type t) k (row_at t n).a (row_at t n).b (row_at t n).c
      → (x y : ℕ) {out : Work ℕ} → Keeps (λ q. home t q ≡ home t n) out → Keeps MoveRegular (loop_at ps t s n k x y out)
  keeps-loop s R n e g skip u f x y o = keeps-wrong
  keeps-loop s R n e g assign u f x y o = keeps-wrong
  keeps-loop s R n e g store u f x y o = keeps-wrong
  keeps-loop s R n e g assert u f x y o = keeps-wrong
  keeps-loop s R n e g assume u f x y o = keeps-wrong
  keeps-loop s R n e g array u f x y o = keeps-wrong
  keeps-loop s R n e g loop u f x y o = keeps-enter s R n e g u (Uint x) (unclassed-settable _ _ f.6) x y o
  keeps-loop s R n e g loop_end u f x y o = keeps-wrong
  keeps-loop s R n e g reduced_store u f x y o = keeps-wrong
  keeps-loop s R n e g reduced_array u f x y o = keeps-wrong
  keeps-loop s R n e g class_loop u f x y o =
      keeps-bind (keeps-choose _) (λ v h. keeps-bind (keeps-choose _) (λ w _. keeps-enter s R n e g u (Class (class ps v))
      (λ e. (class ps v, refl, (v, h, refl))) v w o))
  keeps-loop s R n e g procedure u f x y o = keeps-wrong
  keeps-loop s R n e g returns u f x y o = keeps-wrong
  keeps-loop s R n e g call u f x y o = keeps-wrong
  keeps-loop s R n e g no_row u f x y o = keeps-wrong

  keeps-out : Accepted m t → (r : ℕ) → r < t.rows → nest_at t r ≡ opens → Keeps (λ q. home t q ≡ home t r) (past_end t r)
  keeps-out A r h q =
      keeps-if (ltb (matching_end t r) t.rows) (λ _. keeps-give (matching-end t (is-nested m t A) r (open_at t r) refl h q).2) (λ _. keeps-wrong)

  -- ---- calls and returns

  module _ (A : Accepted m t) (s : State) (C : CanHave ps m t s) (R : Regular ps m t s) where
    keeps-handed : (r : ℕ) (f : ℕ → ℕ)
        → Keeps (λ vs. vs ≡ handed_over s.vars (locals_at t s.here.row) (locals_at t r) f) (hand_over s.vars (locals_at t s.here.row) (locals_at t r) f)
    keeps-handed r f =
        keeps-if (uints_in s.vars (locals_at t s.here.row) && uints_in s.vars (locals_at t r)) (λ _. keeps-give refl) (λ _. keeps-wrong)

    -- locals hold no classes
    classes-renumbered : (vs : List Value) → length vs ≡ t.decls → ((i : ℕ) → i < t.decls → Settable i (get_or vs i (Uint 0)))
        → (r : ℕ) → r ≤ t.rows → (f : ℕ → ℕ) → (i : ℕ) → i < t.decls → Settable i (get_or (renumbered vs (locals_at t r) f) i (Uint 0))
    classes-renumbered vs n h r k f i l =
        renumbered-all Settable vs (locals_at t r) f i (omega arith) (λ w. unclassed-settable i _ (classed-none m t i (locals-fit m t A r k i w).2))
        (λ _. h i l)

    regular-handed : (p : Position) → p.row ≤ t.rows → Started p.loops → (cs : List Caller) → CallersStarted cs → length cs ≤ most_callers → (f : ℕ → ℕ)
        → Regular ps m t (with_work s p cs (handed_over s.vars (locals_at t s.here.row) (locals_at t p.row) f))
    regular-handed p h st cs sts few f = record {
      started = st;
      callers_started = sts;
      classes = classes-renumbered (renumbered s.vars (locals_at t s.here.row) (λ i. 0))
          (length-renumbered s.vars (locals_at t s.here.row) (λ i. 0) ∙ C.variables)
          (classes-renumbered s.vars C.variables R.classes s.here.row C.here.row (λ i. 0)) p.row h f;
      few = R.few;
      few_callers = few;
      idle = idle-handed m t A s.vars C.variables s.here.row p.row C.here.row h f R.idle;
    }

    keeps-back : (cs : List Caller) → Stacked t (home t s.here.row) cs → CallersStarted cs → length cs ≤ most_callers → (x : ℕ)
        → Keeps MoveRegular (give_back t s cs x)
    keeps-back [] K st few x = keeps-wrong
    keeps-back (c ∷ cs) K st few x =
        keeps-bind (keeps-handed at (λ i. get_or c.locals i 0))
        (λ vs e. rw e (keeps-bind (keeps-set _ (regular-handed c.here K.0.here.row st.0 cs st.1 (omega arith) (λ i. get_or c.locals i 0))
        (row_at t at).c (Uint x) own (unclassed-settable _ (Uint x) (classed-none m t _ fits.4)))
        (λ s' z. keeps-give (regular-at s' z.0 (suc s'.here.row)
        (subst (λ (w : Position). home t (suc w.row) ≡ home t w.row) (sym z.1) (home-next t at (ap opens_procedure K.0.is_call)))
        s'.arrays s'.cells z.0.few))))
      where
        at : ℕ
        at = c.here.row

        fits : RowFits m t (node_type t) call (row_at t at).a (row_at t at).b (row_at t at).c
        fits = subst (λ k. RowFits m t (node_type t) k (row_at t at).a (row_at t at).b (row_at t at).c) K.0.is_call (rows_fit m t A at K.0.inside)

        own : may_use t (home t at) (row_at t at).c ≡ true
        own = subst (λ k. Sets t (home t at) k (row_at t at).a (row_at t at).c) K.0.is_call (row-sets m t A at K.0.inside)

    keeps-call : (k x : ℕ) → Keeps MoveRegular (call_procedure t s k x)
    keeps-call k x =
        keeps-if (leb most_callers (length s.callers)) (λ _. keeps-give tt)
        (λ z. keeps-bind (first-row (ltb (opening t k) t.rows) refl)
        (λ q h. keeps-bind (keeps-handed q (argument x))
        (λ vs e. rw e (keeps-give
        (regular-handed (position q []) h tt _ (R.started, R.callers_started) (leb-false most_callers (length s.callers) z) (argument x))))))
      where
        first-row : (b : Bool) → ltb (opening t k) t.rows ≡ b → Keeps (λ q. q ≤ t.rows) (if b then give (suc (opening t k)) else wrong)
        first-row true e = keeps-give (ltb-true _ _ e)
        first-row false e = keeps-wrong

  -- ---- rows and steps

  module _ (A : Accepted m t) (s : State) (C : CanHave ps m t s) (R : Regular ps m t s) (h : s.here.row < t.rows)
      (d : is_opening t s.here.row ≡ false) where
    n : Onwards s
    n = home-next t s.here.row d

    keeps-repeat : (ls : List Loop) → loop_rows ls ≡ open_at t s.here.row → Started ls → Keeps MoveRegular (repeat_loop ps t s ls)
    keeps-repeat [] e g = keeps-wrong
    keeps-repeat (l ∷ ls) e g =
        let c : Chain t (l.row ∷ loop_rows ls) = subst (Chain t) (sym e) (chain t s.here.row (omega arith)) in
        let i : AllIn t (home t s.here.row) (l.row ∷ loop_rows ls)
        = subst (AllIn t (home t s.here.row)) (sym e) (loops-in t (is-nested m t A) s.here.row (omega arith)) in
        keeps-bind (any-sum_or _ l.start 1)
        (λ x _. keeps-loop (with_loops s ls) (regular-here s R (position _ ls) refl g.1) l.row i.0 c.1 (row_kind (row_at t l.row).kind)
        (row-sets m t A l.row c.0) (rows_fit m t A l.row c.0) x l.end (keeps-give (n ∙ sym i.0)))

    on : Regular ps m t (past s)
    on = regular-at s R _ n s.arrays _ R.few

    moved : (s' : State) → s'.here ≡ s.here → Onwards s'
    moved s' e = subst (λ (w : Position). home t (suc w.row) ≡ home t w.row) (sym e) n

    tested : (x : Bool) (e : End) → MoveRegular (if x then to (past s) else stop e)
    tested true e = on
    tested false e = tt

    keeps-new : (a k : ℕ) (f : Bool) → may_use t (home t s.here.row) a ≡ true → classed m t a ≡ false → Keeps MoveRegular (new_array ps s a k f)
    keeps-new a k f u e =
        keeps-bind (keeps-set s R a (Pointer (suc (length s.arrays)) 0) u (unclassed-settable a (Pointer (suc (length s.arrays)) 0) e))
        (λ s' R'. keeps-give (regular-added s' R'.0 (moved s' R'.1) k f))

    keeps-assign : (a : ℕ) (v : Value) → may_use t (home t s.here.row) a ≡ true → classed m t a ≡ false
        → Keeps MoveRegular (set_var s a v >>= λ s'. give (to (past s')))
    keeps-assign a v u e = keeps-bind (keeps-set s R a v u (unclassed-settable a v e))
        (λ s' R'. keeps-give (regular-at s' R'.0 (suc s'.here.row) (moved s' R'.1) s'.arrays s'.cells R'.0.few))

    keeps-row : (k : Row) → nest_of k ≡ nest_at t s.here.row → Sets t (home t s.here.row) k (row_at t s.here.row).a (row_at t s.here.row).c
        → RowFits m t (node_type t) k (row_at t s.here.row).a (row_at t s.here.row).b (row_at t s.here.row).c
        → Keeps MoveRegular (row_rule ps t s s.here.row k (row_at t s.here.row).a (row_at t s.here.row).b (row_at t s.here.row).c)
    unfolding row_rule
    keeps-row skip q u f = keeps-give on
    keeps-row assign q u f = keeps-bind (any-node ps t s (type_at t (row_at t s.here.row).a) (row_at t s.here.row).b)
        (λ x _. keeps-assign (row_at t s.here.row).a (value (type_at t (row_at t s.here.row).a) x) u f.3)
    keeps-row store q u f = keeps-bind (any-node ps t s pointer _) (λ p _. keeps-bind (any-node ps t s uint _) (λ x _. keeps-write s R n p x))
    keeps-row assert q u f = keeps-bind (any-node ps t s bool _) (λ x _. keeps-give (tested x _))
    keeps-row assume q u f = keeps-bind (any-node ps t s bool _) (λ x _. keeps-give (tested x _))
    keeps-row array q u f = keeps-bind (any-node ps t s uint _) (λ l _. keeps-new _ l false u f.4)
    keeps-row loop q u f = keeps-bind (any-node ps t s uint _)
        (λ x _. keeps-bind (any-node ps t s uint _) (λ y _. keeps-loop s R s.here.row refl (sym q) loop u f x y
        (keeps-out A s.here.row h (sym q))))
    keeps-row loop_end q u f = keeps-repeat s.here.loops C.here.loops R.started
    keeps-row reduced_store q u f = keeps-bind (any-node ps t s pointer _) (λ p _. keeps-bind (any-node ps t s uint _) (λ x _. keeps-reduced_write s R n p x))
    keeps-row reduced_array q u f = keeps-bind (any-node ps t s uint _) (λ l _. keeps-new _ l true u f.4)
    keeps-row class_loop q u f = keeps-bind (any-node ps t s uint _)
        (λ x _. keeps-bind (any-node ps t s uint _) (λ y _. keeps-loop s R s.here.row refl (sym q) class_loop u f x y
        (keeps-out A s.here.row h (sym q))))
    keeps-row procedure q u f = keeps-wrong
    keeps-row returns q u f =
        keeps-bind (any-node ps t s uint _) (λ x _. keeps-back A s C R s.callers C.stack R.callers_started R.few_callers x)
    keeps-row call q u f = keeps-bind (any-node ps t s uint _) (λ x _. keeps-call A s C R _ x)
    keeps-row no_row q u f = keeps-wrong

    keeps-step_at : Keeps MoveRegular (step_at ps t s s.here.row)
    unfolding step_at
    keeps-step_at = keeps-row (row_kind (row_at t s.here.row).kind) refl (row-sets m t A s.here.row h) (rows_fit m t A s.here.row h)

  -- a row, or at the end of a procedure a return of 0
  pub keeps-step : Accepted m t → (s : State) → CanHave ps m t s → Regular ps m t s → Keeps MoveRegular (step ps t s)
  unfolding step
  keeps-step A s C R =
      keeps-if (at_end t s.here.row) (λ _. keeps-back A s C R s.callers C.stack R.callers_started R.few_callers 0)
      (λ e. let i = inside-end t s.here.row e in keeps-step_at A s C R i.0 i.1)

  run-regular : Accepted m t → (k n : ℕ) (s : State) → CanHave ps m t s → Regular ps m t s → (cs : List ℕ) → Numbers cs → EndsRegular ps m t (run ps t k n s cs)
  unfolding run
  run-regular A zero n s C R cs g = go (finished t s)
    where
      go : (b : Bool) → EndsRegular ps m t (if b then ended done n s cs else ended out_of_steps n s cs)
      go false = R
      go true = R
  run-regular A (suc k) n s C R cs g = go (finished t s) refl (λ s' C' R' cs' g'. run-regular A k (suc n) s' C' R' cs' g')
    where
      follow : (o : Out Move) → Held m (MoveOk m (CanHave ps m t)) cs o → Given MoveRegular o
          → ((s' : State) → CanHave ps m t s' → Regular ps m t s' → (cs' : List ℕ) → Numbers cs' → EndsRegular ps m t (run ps t k (suc n) s' cs'))
          → EndsRegular ps m t (after n s cs o (run ps t k (suc n)))
      follow (gives (to s') cs') u v ih = ih s' u.0 v.0 cs' v.1
      follow (gives (stop e) cs') u v ih = R
      follow (fails why cs') u v ih = R
      follow bad_choice u v ih = R
      follow no_choice u v ih = R
      follow stuck u v ih = tt

      go : (b : Bool) → finished t s ≡ b
          → ((s' : State) → CanHave ps m t s' → Regular ps m t s' → (cs' : List ℕ) → Numbers cs' → EndsRegular ps m t (run ps t k (suc n) s' cs'))
          → EndsRegular ps m t (if b then ended done n s cs else after n s cs (step ps t s cs) (run ps t k (suc n)))
      go false e ih = follow (step ps t s cs) ((safe-step ps m t A s C e).held cs) ((keeps-step A s C R).kept cs g) ih
      go true e ih = R

pub stays-regular : StaysRegular
stays-regular ps m t A s C R limit choices g = run-regular ps m t A limit 0 s C R choices g

pub fresh-regular : FreshRegular
unfolding fresh
fresh-regular ps m t A = record {
  started = tt;
  callers_started = tt;
  classes = λ i h e. (class ps 0, at-tab t.decls (start_of ps m t) (Uint 0) i h ∙ rw e, (0, omega arith, refl));
  few = omega arith;
  few_callers = omega arith;
  idle = λ i h e.
      let f = local_fits m t A (home t 0) i e in
      at-tab t.decls (start_of ps m t) (Uint 0) i h ∙ rw (classed-none m t i f.1, f.0);
}
