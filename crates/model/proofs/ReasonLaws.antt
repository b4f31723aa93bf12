-- Which reasons a node and a row can have: parts that never fail do so for a reason with any property.
-- Assumes nothing.
use mathlib.Core.Path.{◌≡◌, refl, sym, ap, ◌∙◌, subst}
use mathlib.Core.Logic.{◌≢◌, ⊎_elim}
use Prim.Native.Nat.{ℕ, zero, suc, ◌+◌}
use native.Mathlib.Omega.{arith}
use mathlib.Core.Bool.{Bool, true, false, ◌&&◌}
use mathlib.Core.List.{List, [], ◌∷◌}
use lib.ListN.{length}
use lib.Dec.{ltb, leb, eqb}
use Rattle.std.specs.Prelude.{if◌then◌else◌}
use Rattle.model.specs.Class.{class}
use Rattle.model.specs.Table.{Table, Ty, Node, node_at, node_kind, type_at, row_at, Row, row_kind, matching_end, at_end, opening, Stretch, most}
use Rattle.model.specs.Table.Ty.{bool, uint, pointer}
use Rattle.model.specs.Table.Node.{variable, uint_constant, bool_constant, cell, plus, minus, less, at_most, equal, conditional, valid, class_variable}
use Rattle.model.specs.Table.Node.{reduced_cell, reduced_valid, no_node}
use Rattle.model.specs.Table.Row.{skip, assign, store, assert, assume, array, loop, loop_end, reduced_store, reduced_array, class_loop}
use Rattle.model.specs.Table.Row.{procedure, returns, call, no_row}
use Rattle.model.specs.Work.{Reason, reason_number, Out, Work, ◌>>=◌, next, give, fail, wrong, choose}
use Rattle.model.specs.Work.Out.{gives, fails, bad_choice, no_choice, stuck}
use Rattle.model.specs.Work.Reason.{past_length, counter_too_large}
use Rattle.model.specs.State.{Value, form_of, Array, Caller, Loop, State, most_callers}
use Rattle.model.specs.State.Value.{Truth, Uint, Class, Pointer}
use Rattle.model.specs.Eval.{Contents, contents_of, Of, Ptr, add, array_of, as_class, below, bools, cell_of, compare, eval, eval_f, index_of}
use Rattle.model.specs.Eval.{is_valid, keeps, load, of_type, present, reduced_load, rule, size_of, subtract, sum_or_difference, uints, value, variable_of}
use Rattle.model.specs.Step.{add_array, enter, loop_at, new_array, node, past_end, put, reduced_write, repeat_loop, row_rule, set_var, step, step_at}
use Rattle.model.specs.Step.{call_procedure, give_back, hand_over, past, uints_in, with_loops, with_work, write}
use Rattle.model.specs.Step.Move.{to}
use Rattle.model.proofs.EvalLaws.{eval-is}
use Rattle.model.specs.Reasons.{FailsFor, ValidFailsAsOperand, NodesNeverCounter, kind_here, ClosingOnlyCounter, OthersNeverCounter}

-- whatever the choices, what fails does so for a reason with the property
pub record For {A : Type 0} (P : Reason → Type 0) (w : Work A) : Type 0 where
  pub fails_for : (cs : List ℕ) → FailsFor P (w cs)

-- ---- how work is put together
module _ {P : Reason → Type 0} {A : Type 0} where
  pub give-for : {a : A} → For P (give a)
  give-for = record { fails_for = λ cs. tt }

  wrong-for : For P (wrong {A = A})
  wrong-for = record { fails_for = λ cs. tt }

  fail-for : {why : Reason} → P why → For P (fail {A = A} why)
  fail-for h = record { fails_for = λ cs. h }

  pub if-for : (b : Bool) {v w : Work A} → For P v → For P w → For P (if b then v else w)
  if-for true x y = x
  if-for false x y = y

  then-for : {B : Type 0} {w : Work A} {k : A → Work B} → For P w → ((a : A) → For P (k a)) → For P (w >>= k)
  then-for {B} {w} {k} x y = record { fails_for = λ cs. go (w cs) (x.fails_for cs) }
    where
      go : (o : Out A) → FailsFor P o → FailsFor P (next o k)
      go (gives a left) h = (y a).fails_for left
      go (fails why left) h = h
      go bad_choice h = tt
      go no_choice h = tt
      go stuck h = tt

choose-for : {P : Reason → Type 0} (ok : ℕ → Bool) → For P (choose ok)
choose-for {P} ok = record { fails_for = go }
  where
    pick : (b : Bool) (c : ℕ) (cs : List ℕ) → FailsFor P (if b then gives c cs else bad_choice)
    pick true c cs = tt
    pick false c cs = tt

    go : (cs : List ℕ) → FailsFor P (choose ok cs)
    go [] = tt
    go (c ∷ cs) = pick (ok c) c cs

-- ---- what never fails
module _ {P : Reason → Type 0} where
  variable-for : (vs : List Value) (a : ℕ) → For P (variable_of vs a)
  variable-for vs a = if-for (ltb a (length vs)) give-for wrong-for

  type-for : (w : Ty) (v : Value) → For P (of_type w v)
  type-for bool (Truth b) = give-for
  type-for bool (Uint n) = wrong-for
  type-for bool (Class k) = wrong-for
  type-for bool (Pointer r p) = wrong-for
  type-for uint (Truth b) = wrong-for
  type-for uint (Uint n) = give-for
  type-for uint (Class k) = wrong-for
  type-for uint (Pointer r p) = wrong-for
  type-for pointer (Truth b) = wrong-for
  type-for pointer (Uint n) = wrong-for
  type-for pointer (Class k) = wrong-for
  type-for pointer (Pointer r p) = give-for

  class-for : (v : Value) → For P (as_class v)
  class-for (Truth b) = wrong-for
  class-for (Uint n) = wrong-for
  class-for (Class k) = give-for
  class-for (Pointer r p) = wrong-for

  uints-for : (w : Ty) {x : Work ℕ} → For P x → For P (uints w x)
  uints-for bool x = wrong-for
  uints-for uint x = x
  uints-for pointer x = wrong-for

  bools-for : (w : Ty) {x : Work Bool} → For P x → For P (bools w x)
  bools-for bool x = x
  bools-for uint x = wrong-for
  bools-for pointer x = wrong-for

  present-for : (n : ℕ) (w : Ty) (x : Of w) → For P (present n w x)
  present-for n bool x = give-for
  present-for n uint x = give-for
  present-for n pointer x = if-for (leb x.array n) give-for wrong-for

  cell-for : (ps cells : List ℕ) (r : Array) (i : ℕ) → For P (cell_of ps cells r i)
  cell-for ps cells r i = if-for (ltb i (size_of ps r)) (if-for (ltb (r.start + i) (length cells)) give-for wrong-for) wrong-for

  valid-for : (rs : List Array) (r p : ℕ) → For P (is_valid rs r p)
  valid-for rs zero p = give-for
  valid-for rs (suc i) p = then-for (if-for (ltb i (length rs)) give-for wrong-for) (λ r. give-for)

  set-for : (s : State) (a : ℕ) (v : Value) → For P (set_var s a v)
  set-for s a v = then-for (variable-for s.vars a) (λ old. if-for (eqb (form_of v) (form_of old)) give-for wrong-for)

  pub put-for : (ps : List ℕ) (s : State) (r : Array) (i x : ℕ) → For P (put ps s r i x)
  put-for ps s r i x = if-for (ltb i (size_of ps r)) (if-for (ltb (r.start + i) (length s.cells)) give-for wrong-for) wrong-for

  new-for : (ps : List ℕ) (s : State) (a n : ℕ) (f : Bool) → For P (new_array ps s a n f)
  new-for ps s a n f = then-for (set-for s a (Pointer (suc (length s.arrays)) 0)) (λ s'. give-for {a = add_array ps s' n f})

  enter-for : (t : Table) (s : State) (r : ℕ) (v : Value) (x y : ℕ) {out : Work ℕ} → For P out → For P (enter t s r v x y out)
  enter-for t s r v x y o = then-for (set-for s _ v) (λ s'. if-for (leb x y) give-for (then-for o (λ q. give-for)))

  loop-for : (ps : List ℕ) (t : Table) (s : State) (r : ℕ) (k : Row) (x y : ℕ) {out : Work ℕ} → For P out → For P (loop_at ps t s r k x y out)
  loop-for ps t s r skip x y o = wrong-for
  loop-for ps t s r assign x y o = wrong-for
  loop-for ps t s r store x y o = wrong-for
  loop-for ps t s r assert x y o = wrong-for
  loop-for ps t s r assume x y o = wrong-for
  loop-for ps t s r array x y o = wrong-for
  loop-for ps t s r loop x y o = enter-for t s r (Uint x) x y o
  loop-for ps t s r loop_end x y o = wrong-for
  loop-for ps t s r reduced_store x y o = wrong-for
  loop-for ps t s r reduced_array x y o = wrong-for
  loop-for ps t s r class_loop x y o = then-for (choose-for _) (λ v. then-for (choose-for _) (λ w. enter-for t s r (Class (class ps v)) v w o))
  loop-for ps t s r procedure x y o = wrong-for
  loop-for ps t s r returns x y o = wrong-for
  loop-for ps t s r call x y o = wrong-for
  loop-for ps t s r no_row x y o = wrong-for

  end-for : (t : Table) (r : ℕ) → For P (past_end t r)
  end-for t r = if-for (ltb (matching_end t r) t.rows) give-for wrong-for

  hand-for : (vs : List Value) (from upon : Stretch) (f : ℕ → ℕ) → For P (hand_over vs from upon f)
  hand-for vs from upon f = if-for (uints_in vs from && uints_in vs upon) give-for wrong-for

  call-for : (t : Table) (s : State) (k x : ℕ) → For P (call_procedure t s k x)
  call-for t s k x =
      if-for (leb most_callers (length s.callers)) give-for
      (then-for (if-for (ltb (opening t k) t.rows) give-for wrong-for) (λ q. then-for (hand-for s.vars _ _ _) (λ vs. give-for)))

  back-for : (t : Table) (s : State) (cs : List Caller) (x : ℕ) → For P (give_back t s cs x)
  back-for t s [] x = wrong-for
  back-for t s (c ∷ cs) x =
      then-for (hand-for s.vars _ _ _)
      (λ vs. then-for (set-for (with_work s c.here cs vs) (row_at t c.here.row).c (Uint x)) (λ s'. give-for {a = to (past s')}))

-- a failure, as one of a pointer
abbrev failure : Out Bool → Out Ptr
failure (gives b cs) = stuck
failure (fails why cs) = fails why cs
failure bad_choice = bad_choice
failure no_choice = no_choice
failure stuck = stuck

-- 26 or 29, of what its operand came to
module _ (rs : List Array) (why : Reason) (left : List ℕ) where
  as-operand : (o : Out Ptr) → next (next o (λ p. is_valid rs p.array p.place)) (present (length rs) bool) ≡ fails why left → o ≡ fails why left
  as-operand (gives p cs) e =
      absurd (subst (FailsFor (λ why. ⊥)) e ((then-for (valid-for rs p.array p.place) (present-for (length rs) bool)).fails_for cs))
  as-operand (fails why' cs) e = ap failure e
  as-operand bad_choice e = ap failure e
  as-operand no_choice e = ap failure e
  as-operand stuck e = ap failure e

pub valid-fails-as-operand : ValidFailsAsOperand
unfolding rule
valid-fails-as-operand ps s t n k why cs left e = as-operand s.arrays why left _ (⊎_elim (λ h. by h refl) (λ h. by h refl) k)
  where
    operands : (v : Ty) → ℕ → Work (Of v)
    operands = below n (eval ps s t)

    ruled_by : Node → Out Bool
    ruled_by k = next (rule ps s bool k (node_at t n).a (node_at t n).b (node_at t n).c operands cs) (present (length s.arrays) bool)

    by : {k : Node} {o : Out Bool} → node_kind (node_at t n).kind ≡ k → ruled_by k ≡ o → o ≡ fails why left
    by h q = sym q ∙ ap ruled_by (sym h) ∙ sym (ap (λ (f : Work Bool). f cs) (eval-is ps s t bool n)) ∙ e

-- ---- what fails for another reason than the counter's
abbrev Other : Reason → Type 0
Other why = why ≢ counter_too_large

other-than : (why : Reason) → reason_number why ≢ 5 → Other why
other-than why h e = h (let z : reason_number why ≡ 5 = cc in z)

sum-for : (x y : ℕ) → For Other (add x y)
sum-for x y = if-for (leb (x + y) most) give-for (fail-for (other-than _ (λ e. omega arith)))

difference-for : (x y : ℕ) → For Other (subtract x y)
difference-for x y = if-for (leb y x) give-for (fail-for (other-than _ (λ e. omega arith)))

array-for : (rs : List Array) (r : ℕ) → For Other (array_of rs r)
array-for rs zero = fail-for (other-than _ (λ e. omega arith))
array-for rs (suc i) = if-for (ltb i (length rs)) give-for wrong-for

past-for : {A : Type 0} → For Other (fail {A = A} past_length)
past-for = fail-for (other-than past_length (λ e. omega arith))

moved-for : (op : ℕ → ℕ → Work ℕ) → ((x y : ℕ) → For Other (op x y)) → (w : Ty) {x : Work (Of w)} {y : Work ℕ} → For Other x → For Other y
    → For Other (sum_or_difference op w x y)
moved-for op h bool x y = wrong-for
moved-for op h uint x y = then-for x (λ a. then-for y (λ b. h a b))
moved-for op h pointer x y = then-for x (λ p. then-for y (λ b. then-for (h p.place b) (λ z. give-for)))

compare-for : (test : ℕ → ℕ → Bool) {x y : Work ℕ} → For Other x → For Other y → For Other (compare test x y)
compare-for test x y = then-for x (λ a. then-for y (λ b. give-for))

module _ (ps : List ℕ) where
  load-for : (rs : List Array) (cells : List ℕ) (p : Ptr) → For Other (load ps rs cells p)
  load-for rs cells p = then-for (array-for rs p.array) (λ r. if-for (ltb p.place r.len) (cell-for ps cells r p.place) past-for)

  reduced-for : (rs : List Array) (cells : List ℕ) (p : Ptr) → For Other (reduced_load ps rs cells p)
  reduced-for rs cells p = then-for (array-for rs p.array)
      (λ r. if-for (ltb p.place r.len) (if-for (keeps ps r p.place) (cell-for ps cells r _) (choose-for (λ v. true))) past-for)

  module _ (s : Contents) where
    rule-for : (w : Ty) (k : Node) (a b c : ℕ) {ev : (v : Ty) → ℕ → Work (Of v)} → ((v : Ty) (n : ℕ) → For Other (ev v n)) → For Other (rule ps s w k a b c ev)
    unfolding rule
    rule-for w variable a b c ih = then-for (variable-for s.vars a) (type-for w)
    rule-for w uint_constant a b c ih = uints-for w give-for
    rule-for w bool_constant a b c ih = bools-for w give-for
    rule-for w cell a b c ih = uints-for w (then-for (ih pointer a) (load-for s.arrays s.cells))
    rule-for w plus a b c ih = moved-for add sum-for w (ih w a) (ih uint b)
    rule-for w minus a b c ih = moved-for subtract difference-for w (ih w a) (ih uint b)
    rule-for w less a b c ih = bools-for w (compare-for ltb (ih uint a) (ih uint b))
    rule-for w at_most a b c ih = bools-for w (compare-for leb (ih uint a) (ih uint b))
    rule-for w equal a b c ih = bools-for w (compare-for eqb (ih uint a) (ih uint b))
    rule-for w conditional a b c ih = then-for (ih bool a) (λ x. if-for x (ih w b) (ih w c))
    rule-for w valid a b c ih = bools-for w (then-for (ih pointer a) (λ p. valid-for s.arrays p.array p.place))
    rule-for w class_variable a b c ih = uints-for w (then-for (then-for (variable-for s.vars a) class-for) (λ k. choose-for _))
    rule-for w reduced_cell a b c ih = uints-for w (then-for (ih pointer a) (reduced-for s.arrays s.cells))
    rule-for w reduced_valid a b c ih = bools-for w (then-for (ih pointer a) (λ p. valid-for s.arrays p.array p.place))
    rule-for w no_node a b c ih = wrong-for

    below-for : (n : ℕ) {ev : (v : Ty) → ℕ → Work (Of v)} → ((v : Ty) (j : ℕ) → For Other (ev v j)) → (w : Ty) (j : ℕ) → For Other (below n ev w j)
    below-for n ih w j = if-for (ltb j n) (ih w j) wrong-for

    eval_f-for : (t : Table) (f : ℕ) (w : Ty) (n : ℕ) → For Other (eval_f ps s t f w n)
    unfolding eval_f
    eval_f-for t zero w n = wrong-for
    eval_f-for t (suc f) w n =
        then-for (rule-for w (node_kind (node_at t n).kind) (node_at t n).a (node_at t n).b (node_at t n).c (below-for n (eval_f-for t f)))
        (present-for (length s.arrays) w)

    eval-for : (t : Table) (w : Ty) (n : ℕ) → For Other (eval ps s t w n)
    unfolding eval
    eval-for t w n = eval_f-for t (suc n) w n

pub nodes-never-counter : NodesNeverCounter
nodes-never-counter ps s t w n cs = (eval-for ps s t w n).fails_for cs

-- ---- rows
module _ (ps : List ℕ) (t : Table) (s : State) where
  write-for : (p : Ptr) (x : ℕ) → For Other (write ps s p x)
  write-for p x = then-for (array-for s.arrays p.array) (λ r. if-for (ltb p.place r.len) (put-for ps s r p.place x) past-for)

  reduced_write-for : (p : Ptr) (x : ℕ) → For Other (reduced_write ps s p x)
  reduced_write-for p x = then-for (array-for s.arrays p.array)
      (λ r. if-for (ltb p.place r.len) (if-for (keeps ps r p.place) (put-for ps s r (index_of ps r p.place) x) give-for) past-for)

  node-for : (w : Ty) (n : ℕ) → For Other (node ps t s w n)
  node-for w n = below-for ps (contents_of s) t.nodes (eval-for ps (contents_of s) t) w n

  row-for : (n : ℕ) (k : Row) (a b c : ℕ) → k ≢ loop_end → For Other (row_rule ps t s n k a b c)
  unfolding row_rule
  row-for n skip a b c h = give-for
  row-for n assign a b c h = then-for (node-for (type_at t a) b) (λ x. then-for (set-for s a (value (type_at t a) x)) (λ s'. give-for {a = to (past s')}))
  row-for n store a b c h = then-for (node-for pointer a) (λ p. then-for (node-for uint b) (write-for p))
  row-for n assert a b c h = then-for (node-for bool a) (λ x. give-for)
  row-for n assume a b c h = then-for (node-for bool a) (λ x. give-for)
  row-for n array a b c h = then-for (node-for uint b) (λ l. new-for ps s a l false)
  row-for n loop a b c h = then-for (node-for uint b) (λ x. then-for (node-for uint c) (λ y. loop-for ps t s n loop x y (end-for t n)))
  row-for n loop_end a b c h = absurd (h refl)
  row-for n reduced_store a b c h = then-for (node-for pointer a) (λ p. then-for (node-for uint b) (reduced_write-for p))
  row-for n reduced_array a b c h = then-for (node-for uint b) (λ l. new-for ps s a l true)
  row-for n class_loop a b c h = then-for (node-for uint b) (λ x. then-for (node-for uint c) (λ y. loop-for ps t s n class_loop x y (end-for t n)))
  row-for n procedure a b c h = wrong-for
  row-for n returns a b c h = then-for (node-for uint a) (back-for t s s.callers)
  row-for n call a b c h = then-for (node-for uint b) (call-for t s a)
  row-for n no_row a b c h = wrong-for

  repeat-for : (ls : List Loop) → For (λ why. why ≡ counter_too_large) (repeat_loop ps t s ls)
  repeat-for [] = wrong-for
  repeat-for (l ∷ ls) =
      then-for (if-for (leb (l.start + 1) most) give-for (fail-for refl))
      (λ x. loop-for ps t (with_loops s ls) l.row (row_kind (row_at t l.row).kind) x l.end give-for)

  closing-for : (n : ℕ) (k : Row) (a b c : ℕ) → k ≡ loop_end → For (λ why. why ≡ counter_too_large) (row_rule ps t s n k a b c)
  unfolding row_rule
  closing-for n k a b c e =
      subst (λ (k : Row). For (λ why. why ≡ counter_too_large) (row_rule ps t s n k a b c)) (sym e) (repeat-for s.here.loops)

pub others-never-counter : OthersNeverCounter
unfolding step step_at
others-never-counter ps t s cs h =
    (if-for (at_end t s.here.row) (back-for t s s.callers 0) (row-for ps t s s.here.row (kind_here t s) _ _ _ h)).fails_for cs

pub closing-only-counter : ClosingOnlyCounter
unfolding step step_at
closing-only-counter ps t s cs h =
    (if-for (at_end t s.here.row) (back-for t s s.callers 0) (closing-for ps t s s.here.row (kind_here t s) _ _ _ h)).fails_for cs
