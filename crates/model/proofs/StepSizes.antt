-- How many arrays and cells there are after a step: one array more exactly if its row is 37 or 41, none at the end of a procedure, and always as
-- many cells. And no step ends the run as out of steps.
-- Assumes nothing.
use mathlib.Core.Path.{◌≡◌, refl, ◌∙◌, subst}
use Prim.Native.Nat.{ℕ, suc, ◌+◌}
use native.Mathlib.Omega.{arith as numbers}
use mathlib.Core.Bool.{Bool, true, false}
use mathlib.Core.List.{List, [], ◌∷◌}
use lib.ListN.{length, get_or, length-set}
use lib.Dec.{ltb, leb, eqb}
use borrow.Author.Tests.{leb-true}
use Rattle.std.specs.Prelude.{if◌then◌else◌}
use Rattle.model.specs.Class.{class}
use Rattle.model.specs.Table.{Table, type_at, row_at, Row, row_kind, at_end, locals_at}
use Rattle.model.specs.Table.Ty.{bool, uint, pointer}
use Rattle.model.specs.Table.Row.{skip, assign, store, assert, assume, array, loop, loop_end, reduced_store, reduced_array, class_loop}
use Rattle.model.specs.Table.Row.{procedure, returns, call, no_row}
use Rattle.model.specs.Work.{Out, Reason, Work, ◌>>=◌, next, give, fail, wrong, choose}
use Rattle.model.specs.Work.Out.{gives, fails, bad_choice, no_choice, stuck}
use Rattle.model.specs.State.{Value, Array, Loop, Caller, State, form_of, most_arrays, most_callers}
use Rattle.model.specs.State.Value.{Uint, Class, Pointer}
use Rattle.model.specs.Eval.{Ptr, array_of, variable_of, value, keeps, index_of, size_of, cells_laid, next_start}
use Rattle.model.specs.Step.{End, Move, past, node, set_var, with_var, with_array, with_loops, enter, put, write, reduced_write, laid_next, add_array}
use Rattle.model.specs.Step.{new_array, loop_at, repeat_loop, row_rule, step_at, step, past_end, first_row, hand_over, argument, with_work, call_procedure}
use Rattle.model.specs.Step.{give_back}
use Rattle.model.specs.Step.End.{assert_false, assume_false, want_of_cells}
use Rattle.model.specs.Step.Move.{to, stop}
use Rattle.model.specs.RunsInParts.{is_out}
use Rattle.model.proofs.Memory.{cleared-length, snoc-length}

-- how many arrays there are after a row of a kind
abbrev pub arrays_after : Row → ℕ → ℕ
arrays_after skip n = n
arrays_after assign n = n
arrays_after store n = n
arrays_after assert n = n
arrays_after assume n = n
arrays_after array n = suc n
arrays_after loop n = n
arrays_after loop_end n = n
arrays_after reduced_store n = n
arrays_after reduced_array n = suc n
arrays_after class_loop n = n
arrays_after procedure n = n
arrays_after returns n = n
arrays_after call n = n
arrays_after no_row n = n

-- ... and after a step from row r
abbrev pub arrays_next : Table → ℕ → ℕ → ℕ
arrays_next t r n = if at_end t r then n else arrays_after (row_kind (row_at t r).kind) n

-- where it goes on there are n arrays and c cells; where it stops it is not out of steps
abbrev Sized : ℕ → ℕ → Out Move → Type 0
Sized n c (gives (to s) cs) = (length s.arrays ≡ n) × (length s.cells ≡ c)
Sized n c (gives (stop e) cs) = is_out e ≡ false
Sized n c (fails why cs) = Unit {0}
Sized n c bad_choice = Unit {0}
Sized n c no_choice = Unit {0}
Sized n c stuck = Unit {0}

-- ... whatever the choices
record Leaves (n c : ℕ) (w : Work Move) : Type 0 where
  sized : (cs : List ℕ) → Sized n c (w cs)

-- ---- how work is put together
module _ {n c : ℕ} where
  to-leaves : {s : State} → length s.arrays ≡ n → length s.cells ≡ c → Leaves n c (give (to s))
  to-leaves e d = record { sized = λ cs. (e, d) }

  wrong-leaves : Leaves n c wrong
  wrong-leaves = record { sized = λ cs. tt }

  fail-leaves : {why : Reason} → Leaves n c (fail why)
  fail-leaves = record { sized = λ cs. tt }

  if-leaves : (b : Bool) {v w : Work Move} → Leaves n c v → Leaves n c w → Leaves n c (if b then v else w)
  if-leaves true x y = x
  if-leaves false x y = y

  then-leaves : {A : Type 0} (w : Work A) {k : A → Work Move} → ((a : A) → Leaves n c (k a)) → Leaves n c (w >>= k)
  then-leaves {A} w {k} h = record { sized = λ cs. go (w cs) }
    where
      go : (o : Out A) → Sized n c (next o k)
      go (gives a cs) = (h a).sized cs
      go (fails why cs) = tt
      go bad_choice = tt
      go no_choice = tt
      go stuck = tt

  -- a variable set: nothing else changes
  set-leaves : (s : State) (a : ℕ) (v : Value) {k : State → Work Move}
      → ((s' : State) → length s'.arrays ≡ length s.arrays → length s'.cells ≡ length s.cells → Leaves n c (k s'))
      → Leaves n c (set_var s a v >>= k)
  set-leaves s a v {k} h = record { sized = λ cs. go (variable_of s.vars a cs) }
    where
      one : (b : Bool) (cs : List ℕ) → Sized n c (next ((if b then give (with_var s a v) else wrong) cs) k)
      one true cs = (h (with_var s a v) refl refl).sized cs
      one false cs = tt

      go : (o : Out Value) → Sized n c (next (next o (λ old. if eqb (form_of v) (form_of old) then give (with_var s a v) else wrong)) k)
      go (gives old cs) = one (eqb (form_of v) (form_of old)) cs
      go (fails why cs) = tt
      go bad_choice = tt
      go no_choice = tt
      go stuck = tt

-- ---- rows
module _ (ps : List ℕ) (t : Table) (s : State) where
  abbrev arrays : ℕ
  arrays = length s.arrays

  abbrev cells : ℕ
  cells = length s.cells

  put-leaves : (r : Array) (i x : ℕ) → Leaves arrays cells (put ps s r i x)
  put-leaves r i x =
      if-leaves (ltb i (size_of ps r)) (if-leaves (ltb (r.start + i) cells) (to-leaves refl (length-set s.cells (r.start + i) x)) wrong-leaves)
      wrong-leaves

  write-leaves : (p : Ptr) (x : ℕ) → Leaves arrays cells (write ps s p x)
  write-leaves p x = then-leaves (array_of s.arrays p.array) (λ r. if-leaves (ltb p.place r.len) (put-leaves r p.place x) fail-leaves)

  reduced-leaves : (p : Ptr) (x : ℕ) → Leaves arrays cells (reduced_write ps s p x)
  reduced-leaves p x =
      then-leaves (array_of s.arrays p.array)
      (λ r. if-leaves (ltb p.place r.len)
      (if-leaves (keeps ps r p.place) (put-leaves r (index_of ps r p.place) x) (to-leaves refl refl)) fail-leaves)

  enter-leaves : (s' : State) → length s'.arrays ≡ arrays → length s'.cells ≡ cells → (r : ℕ) (v : Value) (from upto : ℕ) (out : Work ℕ)
      → Leaves arrays cells (enter t s' r v from upto out)
  enter-leaves s' e d r v from upto out =
      set-leaves s' (row_at t r).a v
      (λ s'' e' d'. if-leaves (leb from upto) (to-leaves (e' ∙ e) (d' ∙ d)) (then-leaves out (λ q. to-leaves (e' ∙ e) (d' ∙ d))))

  loop-leaves : (s' : State) → length s'.arrays ≡ arrays → length s'.cells ≡ cells → (r : ℕ) (k : Row) (x y : ℕ) (out : Work ℕ)
      → Leaves arrays cells (loop_at ps t s' r k x y out)
  loop-leaves s' e d r skip x y out = wrong-leaves
  loop-leaves s' e d r assign x y out = wrong-leaves
  loop-leaves s' e d r store x y out = wrong-leaves
  loop-leaves s' e d r assert x y out = wrong-leaves
  loop-leaves s' e d r assume x y out = wrong-leaves
  loop-leaves s' e d r array x y out = wrong-leaves
  loop-leaves s' e d r loop x y out = enter-leaves s' e d r (Uint x) x y out
  loop-leaves s' e d r loop_end x y out = wrong-leaves
  loop-leaves s' e d r reduced_store x y out = wrong-leaves
  loop-leaves s' e d r reduced_array x y out = wrong-leaves
  loop-leaves s' e d r class_loop x y out =
      then-leaves (choose (λ v. eqb (class ps v) (class ps x)))
      (λ v. then-leaves (choose (λ w. eqb (class ps w) (class ps y))) (λ w. enter-leaves s' e d r (Class (class ps v)) v w out))
  loop-leaves s' e d r procedure x y out = wrong-leaves
  loop-leaves s' e d r returns x y out = wrong-leaves
  loop-leaves s' e d r call x y out = wrong-leaves
  loop-leaves s' e d r no_row x y out = wrong-leaves

  repeat-leaves : (ls : List Loop) → Leaves arrays cells (repeat_loop ps t s ls)
  repeat-leaves [] = wrong-leaves
  repeat-leaves (l ∷ ls) =
      then-leaves (next_start l.start)
      (λ x. loop-leaves (with_loops s ls) refl refl l.row (row_kind (row_at t l.row).kind) x l.end (give (suc s.here.row)))

  added-leaves : (s' : State) → length s'.arrays ≡ arrays → length s'.cells ≡ cells → (n : ℕ) (f : Bool)
      → Leaves (suc arrays) cells (give (add_array ps s' n f))
  added-leaves s' e d n f =
      let first = cells_laid ps s'.arrays in
      let size = size_of ps (laid_next ps s' n f) in
      record { sized = λ cs. go cs (leb most_arrays (length s'.arrays)) (leb (first + size) (length s'.cells)) refl }
    where
      go : (cs : List ℕ) (b fits : Bool) → leb (cells_laid ps s'.arrays + size_of ps (laid_next ps s' n f)) (length s'.cells) ≡ fits
          → Sized (suc arrays) cells (gives (if b then stop want_of_cells else (if fits then to (past (with_array ps s' n f)) else stop want_of_cells)) cs)
      go cs true fits h = refl
      go cs false true h = (
        omega (numbers, e, snoc-length s'.arrays (laid_next ps s' n f)),
        omega (numbers, d, cleared-length (cells_laid ps s'.arrays) (size_of ps (laid_next ps s' n f)) s'.cells (leb-true _ _ h)),
      )
      go cs false false h = refl

  new-leaves : (a n : ℕ) (f : Bool) → Leaves (suc arrays) cells (new_array ps s a n f)
  new-leaves a n f = set-leaves s a (Pointer (suc arrays) 0) (λ s' e d. added-leaves s' e d n f)

  test-leaves : (b : Bool) (e : End) → is_out e ≡ false → Leaves arrays cells (give (if b then to (past s) else stop e))
  test-leaves true e h = to-leaves refl refl
  test-leaves false e h = record { sized = λ cs. h }

  call-leaves : (k x : ℕ) → Leaves arrays cells (call_procedure t s k x)
  call-leaves k x =
      if-leaves (leb most_callers (length s.callers)) (record { sized = λ cs. refl })
      (then-leaves (first_row t k)
      (λ q. then-leaves (hand_over s.vars (locals_at t s.here.row) (locals_at t q) (argument x)) (λ vs. to-leaves refl refl)))

  back-leaves : (callers : List Caller) (x : ℕ) → Leaves arrays cells (give_back t s callers x)
  back-leaves [] x = wrong-leaves
  back-leaves (c ∷ rest) x =
      then-leaves (hand_over s.vars (locals_at t s.here.row) (locals_at t c.here.row) (λ i. get_or c.locals i 0))
      (λ vs. set-leaves (with_work s c.here rest vs) (row_at t c.here.row).c (Uint x) (λ s' e d. to-leaves e d))

  row-leaves : (n : ℕ) (k : Row) (a b c : ℕ) → Leaves (arrays_after k arrays) cells (row_rule ps t s n k a b c)
  unfolding row_rule
  row-leaves n skip a b c = to-leaves refl refl
  row-leaves n assign a b c = then-leaves (node ps t s (type_at t a) b) (λ x. set-leaves s a (value (type_at t a) x) (λ s' e d. to-leaves e d))
  row-leaves n store a b c = then-leaves (node ps t s pointer a) (λ p. then-leaves (node ps t s uint b) (write-leaves p))
  row-leaves n assert a b c = then-leaves (node ps t s bool a) (λ x. test-leaves x assert_false refl)
  row-leaves n assume a b c = then-leaves (node ps t s bool a) (λ x. test-leaves x assume_false refl)
  row-leaves n array a b c = then-leaves (node ps t s uint b) (λ l. new-leaves a l false)
  row-leaves n loop a b c =
      then-leaves (node ps t s uint b) (λ x. then-leaves (node ps t s uint c) (λ y. loop-leaves s refl refl n loop x y (past_end t n)))
  row-leaves n loop_end a b c = repeat-leaves s.here.loops
  row-leaves n reduced_store a b c = then-leaves (node ps t s pointer a) (λ p. then-leaves (node ps t s uint b) (reduced-leaves p))
  row-leaves n reduced_array a b c = then-leaves (node ps t s uint b) (λ l. new-leaves a l true)
  row-leaves n class_loop a b c =
      then-leaves (node ps t s uint b) (λ x. then-leaves (node ps t s uint c) (λ y. loop-leaves s refl refl n class_loop x y (past_end t n)))
  row-leaves n procedure a b c = wrong-leaves
  row-leaves n returns a b c = then-leaves (node ps t s uint a) (back-leaves s.callers)
  row-leaves n call a b c = then-leaves (node ps t s uint b) (call-leaves a)
  row-leaves n no_row a b c = wrong-leaves

  step-leaves : Leaves (arrays_next t s.here.row arrays) cells (step ps t s)
  unfolding step step_at
  step-leaves = go (at_end t s.here.row)
    where
      r : ℕ
      r = s.here.row

      go : (b : Bool) → Leaves (if b then arrays else arrays_after (row_kind (row_at t r).kind) arrays) cells
          (if b then give_back t s s.callers 0 else row_rule ps t s r (row_kind (row_at t r).kind) (row_at t r).a (row_at t r).b (row_at t r).c)
      go true = back-leaves s.callers 0
      go false = row-leaves r (row_kind (row_at t r).kind) (row_at t r).a (row_at t r).b (row_at t r).c

  -- what the step came to
  came-to : (cs : List ℕ) {o : Out Move} → step ps t s cs ≡ o → Sized (arrays_next t s.here.row arrays) cells o
  came-to cs e = subst (Sized (arrays_next t s.here.row arrays) cells) e (step-leaves.sized cs)

  pub step-arrays : (cs : List ℕ) {cs' : List ℕ} {s' : State} → step ps t s cs ≡ gives (to s') cs' → length s'.arrays ≡ arrays_next t s.here.row arrays
  step-arrays cs e = (came-to cs e).0

  pub step-cells : (cs : List ℕ) {cs' : List ℕ} {s' : State} → step ps t s cs ≡ gives (to s') cs' → length s'.cells ≡ cells
  step-cells cs e = (came-to cs e).1

  pub step-stops : (cs : List ℕ) {cs' : List ℕ} {end : End} → step ps t s cs ≡ gives (stop end) cs' → is_out end ≡ false
  step-stops cs e = came-to cs e
