-- How many numbers a step hands to the reduced run, by the depth of its nodes: at most 8,192, and at most so many times the steps in a run.
-- Assumes nothing.
use mathlib.Core.Path.{◌≡◌, refl, sym, ap, subst}
use Prim.Native.Nat.{ℕ, zero, suc, ◌+◌, ◌-◌, ◌*◌, ◌≤◌, ◌<◌, max}
use native.Mathlib.Omega.{arith as numbers}
use mathlib.Core.Bool.{Bool, true, false}
use mathlib.Core.List.{List, [], ◌∷◌, ◌++◌}
use lib.ListN.{length, length-append}
use lib.Dec.{ltb}
use borrow.Author.Tests.{ltb-true}
use Rattle.std.specs.Prelude.{if◌then◌else◌}
use Rattle.lists.proofs.FallingLaws.{value-is}
use Rattle.line_checks.specs.Rules.{depth, depth_by}
use Rattle.model.specs.Table.{Table, Ty, Node, node_kind, node_at, node_roles, type_at, row_at, Row, row_kind, at_end, marked_uint}
use Rattle.model.specs.Table.Ty.{bool, uint, pointer}
use Rattle.model.specs.Table.Node.{variable, uint_constant, bool_constant, cell, plus, minus, less, at_most, equal, conditional, valid, class_variable}
use Rattle.model.specs.Table.Node.{reduced_cell, reduced_valid, no_node}
use Rattle.model.specs.Table.Row.{skip, assign, store, assert, assume, array, loop, loop_end, reduced_store, reduced_array, class_loop}
use Rattle.model.specs.Table.Row.{procedure, returns, call, no_row}
use Rattle.model.specs.Work.{Out, Work}
use Rattle.model.specs.Work.Out.{gives, fails, bad_choice, no_choice, stuck}
use Rattle.model.specs.State.{Value, Loop, State}
use Rattle.model.specs.State.Value.{Truth, Uint, Class, Pointer}
use Rattle.model.specs.Eval.{Of, Ptr, below, eval_f, contents_of, load, variable_of, next_start}
use Rattle.model.specs.Step.{Move, finished, node, step}
use Rattle.model.specs.Step.Move.{to, stop}
use Rattle.model.specs.Writer.{given, number_of, kept, load_choices, loop_choices, repeat_choices, choices_rule, choices_f}
use Rattle.model.specs.Writer.{node_choices, row_choices, step_choices, held_next, onward, written}

-- ---- powers of two
abbrev two : ℕ → ℕ
two zero = 1
two (suc k) = two k + two k

two-some : (k : ℕ) → 1 ≤ two k
two-some zero = omega numbers
two-some (suc k) = omega (numbers, two-some k)

two-more : (k d : ℕ) → two k ≤ two (d + k)
two-more k zero = subst (λ (n : ℕ). two k ≤ two n) (let z : k ≡ 0 + k = omega numbers in z) (omega numbers)
two-more k (suc d) =
    subst (λ (n : ℕ). two k ≤ two n) (let z : suc (d + k) ≡ suc d + k = omega numbers in z) (let h = two-more k d in omega (numbers, h))

two_up : (k m : ℕ) → k ≤ m → two k ≤ two m
two_up k m h = subst (λ (n : ℕ). two k ≤ two n) (let z : (m - k) + k ≡ m = omega (numbers, h) in z) (two-more k (m - k))

two-next : (m : ℕ) → two (1 + m) ≡ two m + two m
two-next m = ap two (let z : 1 + m ≡ suc m = omega numbers in z)

-- ---- lists with fewer numbers than a bound
-- fewer than so many
abbrev Fewer : List ℕ → ℕ → Type 0
Fewer xs n = length xs + 1 ≤ n

fewer-none : (m : ℕ) → Fewer [] (two m)
fewer-none m = omega (numbers, two-some m)

fewer-up : (xs : List ℕ) (k m : ℕ) → Fewer xs (two k) → k ≤ m → Fewer xs (two m)
fewer-up xs k m h l = let u = two_up k m l in omega (numbers, h, u)

fewer-both : (xs ys : List ℕ) (m : ℕ) → Fewer xs (two m) → Fewer ys (two m) → Fewer (xs ++ ys) (two (1 + m))
fewer-both xs ys m h g = let e = two-next m in let l = length-append xs ys in omega (numbers, h, g, e, l)

fewer-next : (xs : List ℕ) (m : ℕ) → length xs ≤ 1 → Fewer xs (two (1 + m))
fewer-next xs m h = let e = two-next m in let o = two-some m in omega (numbers, h, e, o)

given-fewer : {A : Type 0} (o : Out A) (k : A → List ℕ) (m : ℕ) → ((a : A) → Fewer (k a) (two m)) → Fewer (given o k) (two m)
given-fewer (gives a cs) k m h = h a
given-fewer (fails why cs) k m h = fewer-none m
given-fewer bad_choice k m h = fewer-none m
given-fewer no_choice k m h = fewer-none m
given-fewer stuck k m h = fewer-none m

given-one : {A : Type 0} (o : Out A) (k : A → List ℕ) → ((a : A) → length (k a) ≤ 1) → length (given o k) ≤ 1
given-one (gives a cs) k h = h a
given-one (fails why cs) k h = omega numbers
given-one bad_choice k h = omega numbers
given-one no_choice k h = omega numbers
given-one stuck k h = omega numbers

number-one : (v : Value) → length (number_of v) ≤ 1
number-one (Truth b) = omega numbers
number-one (Uint n) = omega numbers
number-one (Class k) = omega numbers
number-one (Pointer r p) = omega numbers

if-one : (b : Bool) (xs ys : List ℕ) → length xs ≤ 1 → length ys ≤ 1 → length (if b then xs else ys) ≤ 1
if-one true xs ys h g = h
if-one false xs ys h g = g

module _ (ps : List ℕ) (t : Table) (ks : List Bool) (s : State) where
  load_one : (p : Ptr) → length (load_choices ps t ks s p) ≤ 1
  load_one p = if-one (kept ps t ks s p) [] _ (omega numbers) (given-one (load [] s.arrays s.cells p []) (λ n. n ∷ []) (λ n. omega numbers))

  -- a node, by bounds of its operands' numbers
  module _ (w : Ty) (a b c : ℕ) (ev : (v : Ty) → ℕ → Work (Of v)) (ch : Ty → ℕ → List ℕ) (low : ℕ → ℕ)
      (h : (v : Ty) (x : ℕ) → Fewer (ch v x) (two (low x))) where
    up : (v : Ty) (x m : ℕ) → low x ≤ m → Fewer (ch v x) (two m)
    up v x m l = fewer-up (ch v x) (low x) m (h v x) l

    -- one operand, and at most one number after it; one operand, and then another
    by_one : (v : Ty) (xs : List ℕ) (m : ℕ) → low a ≤ m → length xs ≤ 1 → Fewer (ch v a ++ xs) (two (1 + m))
    by_one v xs m g l = let u = up v a m g in let o = two-some m in let e = two-next m in let z = length-append (ch v a) xs in omega (numbers, u, l, o, e, z)

    by_two : (v : Ty) {A : Type 0} (o : Out A) (k : A → List ℕ) (m : ℕ) → low a ≤ m → ((x : A) → Fewer (k x) (two m))
        → Fewer (ch v a ++ given o k) (two (1 + m))
    by_two v o k m g l = fewer-both (ch v a) (given o k) m (up v a m g) (given-fewer o k m l)

    by_both : (v : Ty) (o : Out (Of v)) → Fewer (ch v a ++ given o (λ x. ch uint b)) (two (1 + max (low a) (max (low b) 0)))
    by_both v o = by_two v o (λ x. ch uint b) (max (low a) (max (low b) 0)) (omega numbers) (λ x. up uint b (max (low a) (max (low b) 0)) (omega numbers))

    branches : (m : ℕ) → low b ≤ m → low c ≤ m → (x : Bool) → Fewer (if x then ch w b else ch w c) (two m)
    branches m g l true = up w b m g
    branches m g l false = up w c m l

    rule-fewer : (k : Node) → Fewer (choices_rule ps t ks s w k a b c ev ch) (two (depth_by (node_roles k) low (record { kind = 0; a = a; b = b; c = c })))
    unfolding choices_rule node_roles
    rule-fewer variable =
        let xs = given (variable_of s.vars a []) number_of in
        fewer-next (if marked_uint t a then xs else []) 0
        (if-one (marked_uint t a) xs [] (given-one (variable_of s.vars a []) number_of number-one) (omega numbers))
    rule-fewer uint_constant = fewer-none 1
    rule-fewer bool_constant = fewer-none 1
    rule-fewer cell = by_one pointer (given (ev pointer a []) (load_choices ps t ks s)) (max (low a) 0) (omega numbers)
        (given-one (ev pointer a []) (load_choices ps t ks s) load_one)
    rule-fewer plus = by_both w (ev w a [])
    rule-fewer minus = by_both w (ev w a [])
    rule-fewer less = by_both uint (ev uint a [])
    rule-fewer at_most = by_both uint (ev uint a [])
    rule-fewer equal = by_both uint (ev uint a [])
    rule-fewer conditional =
        let m = max (low a) (max (low b) (low c)) in
        by_two bool (ev bool a []) (λ x. if x then ch w b else ch w c) m (omega numbers) (branches m (omega numbers) (omega numbers))
    rule-fewer valid = up pointer a (1 + max (low a) 0) (omega numbers)
    rule-fewer class_variable = fewer-none 1
    rule-fewer reduced_cell = fewer-none (1 + max (low a) 0)
    rule-fewer reduced_valid = fewer-none (1 + max (low a) 0)
    rule-fewer no_node = fewer-none 1

  -- the depth of an operand, which must be below the node
  abbrev lowered : ℕ → ℕ → ℕ
  lowered n j = if ltb j n then depth t j else 0

  depth-by : (n : ℕ) → depth t n ≡ depth_by (node_roles (node_kind (node_at t n).kind)) (lowered n) (node_at t n)
  unfolding depth
  depth-by n = value-is (λ m below. depth_by (node_roles (node_kind (node_at t m).kind)) below (node_at t m)) 0 n

  operand-fewer : (xs : List ℕ) (d : ℕ) (b : Bool) → Fewer xs (two d) → Fewer (if b then xs else []) (two (if b then d else 0))
  operand-fewer xs d true h = h
  operand-fewer xs d false h = fewer-none 0

  node-fewer : (f : ℕ) (w : Ty) (n : ℕ) → Fewer (choices_f ps t ks s f w n) (two (depth t n))
  unfolding choices_f
  node-fewer zero w n = fewer-none (depth t n)
  node-fewer (suc f) w n =
      subst (λ (d : ℕ). Fewer (choices_f ps t ks s (suc f) w n) (two d)) (sym (depth-by n))
      (rule-fewer w (node_at t n).a (node_at t n).b (node_at t n).c (below n (eval_f [] (contents_of s) t f))
      (λ v m. if ltb m n then choices_f ps t ks s f v m else []) (lowered n)
      (λ v x. operand-fewer (choices_f ps t ks s f v x) (depth t x) (ltb x n) (node-fewer f v x)) (node_kind (node_at t n).kind))

  -- ---- a row, of nodes that are at most 12 deep
  module _ (shallow : (n : ℕ) → n < t.nodes → depth t n ≤ 12) where
    node-most : (w : Ty) (n : ℕ) → length (node_choices ps t ks s w n) ≤ 4095
    unfolding node_choices
    node-most w n = go (ltb n t.nodes) refl
      where
        go : (b : Bool) → ltb n t.nodes ≡ b → length (if b then choices_f ps t ks s (suc n) w n else []) ≤ 4095
        go true e =
            let d : two 12 ≡ 4096 = refl in
            let h = fewer-up (choices_f ps t ks s (suc n) w n) (depth t n) 12 (node-fewer (suc n) w n) (shallow n (ltb-true n t.nodes e)) in
            omega (numbers, h, d)
        go false e = omega numbers

    given-most : {A : Type 0} (o : Out A) (k : A → List ℕ) (m : ℕ) → ((x : A) → length (k x) ≤ m) → length (given o k) ≤ m
    given-most (gives a cs) k m h = h a
    given-most (fails why cs) k m h = omega numbers
    given-most bad_choice k m h = omega numbers
    given-most no_choice k m h = omega numbers
    given-most stuck k m h = omega numbers

    if-most : (b : Bool) (xs : List ℕ) (m : ℕ) → length xs ≤ m → length (if b then xs else []) ≤ m
    if-most true xs m h = h
    if-most false xs m h = omega numbers

    -- two nodes, and at most two numbers after them
    two-nodes : (v : Ty) (a : ℕ) {A : Type 0} (o : Out A) (k : A → List ℕ) → ((x : A) → length (k x) ≤ 4097)
        → length (node_choices ps t ks s v a ++ given o k) ≤ 8192
    two-nodes v a o k h =
        let z = length-append (node_choices ps t ks s v a) (given o k) in
        let x = node-most v a in
        let y = given-most o k 4097 h in
        omega (numbers, x, y, z)

    then-few : (w : Ty) (b : ℕ) {A : Type 0} (o : Out A) (k : A → List ℕ) → ((x : A) → length (k x) ≤ 2)
        → length (node_choices ps t ks s w b ++ given o k) ≤ 4097
    then-few w b o k h =
        let z = length-append (node_choices ps t ks s w b) (given o k) in
        let x = node-most w b in
        let y = given-most o k 2 h in
        omega (numbers, x, y, z)

    loop-most : (r x y : ℕ) → length (loop_choices ps t ks s r x y) ≤ 2
    loop-most r x y = if-most (marked_uint t (row_at t r).a) (x ∷ y ∷ []) 2 (omega numbers)

    repeat-most : (ls : List Loop) → length (repeat_choices ps t ks s ls) ≤ 8192
    repeat-most [] = omega numbers
    repeat-most (l ∷ ls) = let h = given-most (next_start l.start []) (λ x. loop_choices ps t ks s l.row x l.end) 2
        (λ x. loop-most l.row x l.end) in omega (numbers, h)

    row-most : (n : ℕ) (k : Row) (a b c : ℕ) → length (row_choices ps t ks s n k a b c) ≤ 8192
    unfolding row_choices
    row-most n skip a b c = omega numbers
    row-most n assign a b c = let h = node-most (type_at t a) b in omega (numbers, h)
    row-most n store a b c = two-nodes pointer a (node [] t s pointer a []) _ (λ p. let h = node-most uint b in omega (numbers, h))
    row-most n assert a b c = let h = node-most bool a in omega (numbers, h)
    row-most n assume a b c = let h = node-most bool a in omega (numbers, h)
    row-most n array a b c = let h = node-most uint b in omega (numbers, h)
    row-most n loop a b c = two-nodes uint b (node [] t s uint b []) _
        (λ x. then-few uint c (node [] t s uint c []) (λ y. loop_choices ps t ks s n x y) (λ y. loop-most n x y))
    row-most n loop_end a b c = repeat-most s.here.loops
    row-most n reduced_store a b c = omega numbers
    row-most n reduced_array a b c = omega numbers
    row-most n class_loop a b c = omega numbers
    row-most n procedure a b c = omega numbers
    row-most n returns a b c = let h = node-most uint a in omega (numbers, h)
    row-most n call a b c = let h = node-most uint b in omega (numbers, h)
    row-most n no_row a b c = omega numbers

    pub step-most : (n : ℕ) → length (step_choices ps t ks s n) ≤ 8192
    unfolding step_choices
    step-most n = go (at_end t n)
      where
        go : (b : Bool) → length (if b then [] else row_choices ps t ks s n (row_kind (row_at t n).kind) (row_at t n).a (row_at t n).b (row_at t n).c) ≤ 8192
        go true = omega numbers
        go false = row-most n (row_kind (row_at t n).kind) (row_at t n).a (row_at t n).b (row_at t n).c

-- ---- a run of k steps
module _ (ps : List ℕ) (t : Table) (shallow : (n : ℕ) → n < t.nodes → depth t n ≤ 12) where
  onward-most : (o : Out Move) (go : State → List ℕ) (m : ℕ) → ((s : State) → length (go s) ≤ m) → length (onward o go) ≤ m
  onward-most (gives (to s) cs) go m h = h s
  onward-most (gives (stop e) cs) go m h = omega numbers
  onward-most (fails why cs) go m h = omega numbers
  onward-most bad_choice go m h = omega numbers
  onward-most no_choice go m h = omega numbers
  onward-most stuck go m h = omega numbers

  steps-most : (ks : List Bool) (s : State) (rest : List ℕ) (k : ℕ) (b : Bool) → length rest ≤ k * 8192
      → length (if b then [] else step_choices ps t ks s s.here.row ++ rest) ≤ suc k * 8192
  steps-most ks s rest k false h =
      let z = length-append (step_choices ps t ks s s.here.row) rest in
      let x = step-most ps t ks s shallow s.here.row in
      omega (numbers, x, h, z)
  steps-most ks s rest k true h = omega numbers

  pub written-most : (k : ℕ) (ks : List Bool) (s : State) → length (written ps t k ks s) ≤ k * 8192
  unfolding written
  written-most zero ks s = omega numbers
  written-most (suc k) ks s =
      steps-most ks s (onward (step [] t s []) (written ps t k (held_next t s.here.row ks))) k (finished t s)
      (onward-most (step [] t s []) (written ps t k (held_next t s.here.row ks)) (k * 8192) (λ s'. written-most k (held_next t s.here.row ks) s'))
