-- A run's own copy of a table runs as the table does (specs/Same).
-- Assumes nothing.
use Prim.Native.Nat.{ℕ, zero, suc, ◌+◌, ◌-◌, ◌*◌, ◌<◌, ◌≤◌}
use native.Mathlib.Omega.{arith}
use native.Mathlib.Decide.{dec_le}
use mathlib.Core.Path.{◌≡◌, refl, sym, ap, ◌∙◌, fun_ext}
use mathlib.Core.Bool.{Bool, true, false}
use mathlib.Core.List.{List, [], ◌∷◌}
use lib.ListN.{length, get_or, get_or-eq_default}
use lib.Dec.{ltb, leb, eqb}
use borrow.Author.Tests.{ltb-true, leb-true, lt-ltb, le-ltb, ne_eqb}
use Rattle.std.specs.Prelude.{if◌then◌else◌}
use Rattle.lists.specs.First.{walk}
use Rattle.lists.proofs.TabLaws.{same-tab, all-at}
use Rattle.lists.proofs.BoolLaws.{and_left}
use Rattle.kinds.specs.Code.{InSorts}
use Rattle.kinds.specs.Kinds.{machine_of}
use Rattle.model.specs.Class.{pair}
use Rattle.model.specs.Table.{Table, Line, Ty, Node, Row, Nest, node_at, row_at, type_of, type_at, marked, marked_uint, marked_pointer, node_kind, row_kind}
use Rattle.model.specs.Table.{row_roles, nest_of, nest_at, scanned, matching_end, is_opening, opens_procedure, at_end, home, counted, opening, Stretch, stretch}
use Rattle.model.specs.Table.{locals_of, locals_at}
use Rattle.model.specs.Table.Ty.{bool, uint, pointer}
use Rattle.model.specs.Table.Node.{variable, uint_constant, bool_constant, cell, plus, minus, less, at_most, equal, conditional, valid, class_variable}
use Rattle.model.specs.Table.Node.{reduced_cell, reduced_valid, no_node}
use Rattle.model.specs.Table.Row.{skip, assign, store, assert, assume, array, loop, loop_end, reduced_store, reduced_array, class_loop}
use Rattle.model.specs.Table.Row.{procedure, returns, call, no_row}
use Rattle.model.specs.Work.{Work, ◌>>=◌, give, wrong}
use Rattle.model.specs.State.{MachineKind, Loop, position, Caller, caller, most_callers, State, places_in}
use Rattle.model.specs.Eval.{Contents, contents_of, Of, next_start, below, rule, present, eval_f, eval}
use Rattle.model.specs.Step.{Move, with_loops, numbers_in, hand_over, with_work, argument, call_procedure, give_back}
use Rattle.model.specs.Step.{loop_at, repeat_loop, row_rule, step_at, step}
use Rattle.model.specs.Step.Move.{to, stop}
use Rattle.model.specs.Step.End.{too_deep}
use Rattle.model.specs.Writer.{given, choices_rule, choices_f, node_choices, loop_choices, repeat_choices, row_choices, step_choices}
use Rattle.model.specs.Accepted.{Accepted, all_there, row_there}
use Rattle.prepared.specs.declared.Frame.{Frame}
use Rattle.prepared.specs.declared.Form.{Form}
use Rattle.prepared.specs.declared.Form.TheVariants.{Bool as FBool, Uint as FUint, Class as FClass, Pointer as FPointer}
use Rattle.prepared.specs.View.{places, table_for, form_in, by_form, vars_by, vars_of}
use Rattle.prepared.specs.Own.{Own, places_of, decls_of, rows_of, own_table, form_of_number, number_of_form, own_form, own_vars}
use Rattle.prepared.specs.Same.{Same, OwnSame}

-- ---- what is no kind of a declaration: 0, and 16 or more
abbrev NoDeclaration : ℕ → Type 0
NoDeclaration k = 0 < k → 16 ≤ k

none : {k : ℕ} → k ≡ 0 → NoDeclaration k
none e h = omega arith

as-other : {k m : ℕ} → k ≡ m → NoDeclaration m → NoDeclaration k
as-other e h p = let q = h (omega arith) in omega arith

unmarked : (w : List ℕ) (k i : ℕ) → 1 ≤ k → k < 16 → NoDeclaration (get_or w (4 * i) 0) → marked w k i ≡ false
unfolding marked
unmarked w k i low high h = rw (ne_eqb (get_or w (4 * i) 0) k (λ e. apart e))
  where
    apart : get_or w (4 * i) 0 ≡ k → ⊥
    apart e = let q = h (omega arith) in omega arith

not-below : {a b : ℕ} → (a ≤ b → ⊥) → b < a
not-below h = omega arith

form-back : (w : Form) → form_of_number (number_of_form w) ≡ w
form-back FBool = refl
form-back FUint = refl
form-back FClass = refl
form-back FPointer = refl

-- asked only below n, and something else above; two functions that agree below n
abbrev under : {A : Ty → Type 0} → ((w : Ty) → A w) → ℕ → ((w : Ty) → ℕ → A w) → (w : Ty) → ℕ → A w
under other n e w m = if ltb m n then e w m else other w

under_same : {A : Ty → Type 0} (other : (w : Ty) → A w) (n : ℕ) (e g : (w : Ty) → ℕ → A w) → ((w : Ty) (m : ℕ) → m < n → e w m ≡ g w m)
    → under {A = A} other n e ≡ under {A = A} other n g
under_same {A} other n e g h = fun_ext λ w. fun_ext λ m. go w m (ltb m n) refl
  where
    go : (w : Ty) (m : ℕ) (b : Bool) → ltb m n ≡ b → under {A = A} other n e w m ≡ under {A = A} other n g w m
    go w m true q = rw q (h w m (ltb-true m n q))
    go w m false q = rw q

-- a call, by the locals of each row, the 43 of the procedure and the row count
abbrev calling : (ℕ → Stretch) → ℕ → ℕ → State → ℕ → Work Move
calling locals_at o n s x =
    if leb most_callers (length s.callers)
    then give (stop too_deep)
    else (do
      q ← if ltb o n then give (suc o) else wrong
      vs ← hand_over s.vars (locals_at s.here.row) (locals_at q) (argument x)
      give (to (with_work s (position q []) (caller s.here (numbers_in s.vars (locals_at s.here.row)) ∷ s.callers) vs)))

module _ (t : List ℕ) (f : Frame) (own : List ℕ) (S : InSorts (table_for t f)) (O : Own t f own) where
  abbrev table : Table
  table = table_for t f

  abbrev copy : Table
  copy = own_table own

  abbrev decls : ℕ
  decls = f.counts.decls

  abbrev nodes : ℕ
  nodes = f.counts.nodes

  -- ---- limits, places and variables
  pub own-limits : (decls_of own ≤ 32) × (rows_of own ≤ 256) × (length own ≡ 5256)
  own-limits = (rw O.decls S.few_decls, rw O.rows S.few_rows, O.size)

  same-places : places_of own ≡ places f
  unfolding places_of places
  same-places = rw (O.classes, O.first, O.second) (go f.classes)
    where
      go : (b : Bool) → (if eqb (if b then 1 else 0) 1 then pair f.c1 f.c2 else []) ≡ places_in (machine_of b) (pair f.c1 f.c2)
      go true = refl
      go false = refl

  pub same-form : (a : ℕ) → a < decls → own_form own a ≡ form_in t f a
  unfolding own_form
  same-form a h = ap form_of_number (O.form a h) ∙ form-back (form_in t f a)

  same-vars : (numbers bases : List ℕ) → own_vars own numbers bases ≡ vars_of t f numbers bases
  unfolding vars_by
  same-vars numbers bases =
      rw O.decls
      (same-tab decls _ _ (λ i h. ap (λ (w : Form). by_form w (get_or numbers i 0) (get_or bases i 0)) (same-form i h)))

  -- ---- kinds and marks
  table-past : (i : ℕ) → decls ≤ i → NoDeclaration (get_or t (4 * i) 0)
  table-past i h p = elim (dec_le (decls + nodes) i) [
    | no k ↦ leb-true _ _ (and_left _ _ (S.node i h (not-below k)))
    | yes k ↦ elim (dec_le (decls + nodes + f.counts.rows) i) [
      | no m ↦ row (leb-true _ _ (S.row i k (not-below m)))
      | yes m ↦ none (get_or-eq_default t 0 {n = 4 * i} (omega (arith, S.whole))) p
    ]
  ]
    where
      row : 32 ≤ get_or t (4 * i) 0 → 16 ≤ get_or t (4 * i) 0
      row m = omega arith

  -- a line of the copy, by its number among the nodes or the rows
  node-kind : (i : ℕ) → 34 ≤ i → get_or own (4 * i) 0 ≡ (node_at copy (i - 34)).kind
  node-kind i h = let e : i ≡ 34 + (i - 34) = omega arith in ap (λ (k : ℕ). get_or own (4 * k) 0) e

  row-kind : (i : ℕ) → 1058 ≤ i → get_or own (4 * i) 0 ≡ (row_at copy (i - 1058)).kind
  row-kind i h = let e : i ≡ 1058 + (i - 1058) = omega arith in ap (λ (k : ℕ). get_or own (4 * k) 0) e

  copy-node : (n : ℕ) → n < 1024 → NoDeclaration (node_at copy n).kind
  copy-node n h = elim (dec_le nodes n) [
    | yes k ↦ none (O.no_node n k h)
    | no k ↦ as-other (ap (λ (l : Line). l.kind) (O.node n (not-below k))) (table-past (decls + n) (omega arith))
  ]

  copy-past : (i : ℕ) → decls ≤ i → NoDeclaration (get_or own (4 * i) 0)
  copy-past i h = elim (dec_le 32 i) [
    | no k ↦ none (O.no_declaration i h (not-below k))
    | yes k ↦ elim (dec_le 34 i) [
      | no m ↦ head k (not-below m)
      | yes m ↦ elim (dec_le 1058 i) [
        | no n ↦ as-other (node-kind i m) (copy-node (i - 34) (omega (arith, not-below n)))
        | yes n ↦ as-other (row-kind i n ∙ ap (λ (l : Line). l.kind) (O.row (i - 1058)))
            (table-past (decls + nodes + (i - 1058)) (omega arith))
      ]
    ]
  ]
    where
      head : 32 ≤ i → i < 34 → NoDeclaration (get_or own (4 * i) 0)
      head k m = elim (dec_le 33 i) [
        | yes n ↦ let e : 4 * i ≡ 132 = omega arith in none (rw e O.headless.1)
        | no n ↦ let q = not-below n in let e : 4 * i ≡ 128 = omega arith in none (rw e O.headless.0)
      ]

  same-marked : (k i : ℕ) → 1 ≤ k → k < 16 → marked own k i ≡ marked t k i
  unfolding marked
  same-marked k i low high = elim (dec_le decls i) [
    | yes h ↦ unmarked own k i low high (copy-past i h) ∙ sym (unmarked t k i low high (table-past i h))
    | no h ↦ rw (O.kind i (not-below h), O.mark i (not-below h))
  ]

  same-uint : (i : ℕ) → marked_uint copy i ≡ marked_uint table i
  same-uint i = same-marked 2 i (omega arith) (omega arith)

  same-pointer : (i : ℕ) → marked_pointer copy i ≡ marked_pointer table i
  same-pointer i = same-marked 3 i (omega arith) (omega arith)

  same-type : (a : ℕ) → a < decls → type_at copy a ≡ type_at table a
  same-type a h = ap type_of (O.kind a h)

  -- ---- rows: how they nest, and where a loop ends
  same_line : (r : ℕ) → row_at copy r ≡ row_at table r
  same_line = O.row

  same-variable : (r : ℕ) → (row_at copy r).a ≡ (row_at table r).a
  same-variable r = ap (λ (l : Line). l.a) (same_line r)

  pub own-nest : (r : ℕ) → nest_at copy r ≡ nest_at table r
  own-nest r = ap (λ (l : Line). nest_of (row_kind l.kind)) (same_line r)

  same_end : (r : ℕ) → matching_end copy r ≡ matching_end table r
  unfolding matching_end
  same_end r =
      ap (λ (m : ℕ → Nest). walk (λ i rest. scanned (m i) i rest) (λ d. rows_of own) (suc r) (rows_of own - suc r) 0) (fun_ext own-nest)
      ∙ ap (λ (n : ℕ). walk (λ i rest. scanned (nest_at table i) i rest) (λ d. n) (suc r) (n - suc r) 0) O.rows

  -- ---- procedures: where a row belongs, with its locals, and where each opens
  same-opens : (r : ℕ) → is_opening copy r ≡ is_opening table r
  same-opens r = ap (λ (l : Line). opens_procedure (row_kind l.kind)) (same_line r)

  same-at-end : (r : ℕ) → at_end copy r ≡ at_end table r
  unfolding at_end
  same-at-end r = rw (O.rows, same-opens r)

  same_home : (r : ℕ) → home copy r ≡ home table r
  unfolding home
  same_home zero = refl
  same_home (suc r) = rw (same-opens r, same_home r)

  same-opening : (k : ℕ) → opening copy k ≡ opening table k
  unfolding opening
  same-opening k =
      ap (λ (m : ℕ → Bool). walk (λ i rest. counted (m i) i rest) (λ k. rows_of own) 0 (rows_of own) k) (fun_ext same-opens)
      ∙ ap (λ (n : ℕ). walk (λ i rest. counted (is_opening table i) i rest) (λ k. n) 0 n k) O.rows

  same-locals-of : (q : ℕ) → locals_of copy q ≡ locals_of table q
  same-locals-of zero = refl
  same-locals-of (suc r) = ap (λ (l : Line). stretch l.a l.b) (same_line r)

  same_locals : (r : ℕ) → locals_at copy r ≡ locals_at table r
  same_locals r = same-locals-of (home copy r) ∙ ap (locals_of table) (same_home r)

  same-call : (s : State) (k x : ℕ) → call_procedure copy s k x ≡ call_procedure table s k x
  same-call s k x =
      ap (λ (l : ℕ → Stretch). calling l (opening copy k) (rows_of own) s x) (fun_ext same_locals)
      ∙ ap (λ (o : ℕ). calling (locals_at table) o (rows_of own) s x) (same-opening k)
      ∙ ap (λ (n : ℕ). calling (locals_at table) (opening table k) n s x) O.rows

  same_back : (s : State) (cs : List Caller) (x : ℕ) → give_back copy s cs x ≡ give_back table s cs x
  same_back s [] x = refl
  same_back s (c ∷ cs) x =
      rw (same_locals s.here.row, same_locals c.here.row) (rw (ap (λ (l : Line). l.c) (same_line c.here.row)))

  -- ---- nodes worked out
  module _ (ps : List ℕ) (s : Contents) where
    same-eval : (fuel : ℕ) (w : Ty) (n : ℕ) → n < nodes → eval_f ps s copy fuel w n ≡ eval_f ps s table fuel w n
    unfolding eval_f
    same-eval zero w n h = refl
    same-eval (suc g) w n h =
        ap (λ (l : Line). rule ps s w (node_kind l.kind) l.a l.b l.c (below n (eval_f ps s copy g)) >>= present (length s.arrays) w) (O.node n h)
        ∙ ap (λ ev. rule ps s w (node_kind (node_at table n).kind) (node_at table n).a (node_at table n).b (node_at table n).c ev
        >>= present (length s.arrays) w)
        (under_same {A = λ w. Work (Of w)} (λ w. wrong) n (eval_f ps s copy g) (eval_f ps s table g) (λ v m k. same-eval g v m (omega arith)))

    no-eval : (w : Ty) (n : ℕ) → nodes ≤ n → n < 1024 → eval ps s copy w n ≡ wrong
    unfolding eval rule node_kind
    no-eval w n h k =
        ap (λ (x : ℕ). rule ps s w (node_kind x) (node_at copy n).a (node_at copy n).b (node_at copy n).c (below n (eval_f ps s copy n))
        >>= present (length s.arrays) w)
        (O.no_node n h k)

    same-node : (w : Ty) (n : ℕ) → below 1024 (eval ps s copy) w n ≡ below nodes (eval ps s table) w n
    unfolding eval
    same-node w n = elim (dec_le nodes n) [
      | no h ↦ inside (not-below h)
      | yes h ↦ elim (dec_le 1024 n) [
        | yes k ↦ rw (le-ltb n 1024 k, le-ltb n nodes h)
        | no k ↦ rw (lt-ltb n 1024 (not-below k), le-ltb n nodes h) (no-eval w n h (not-below k))
      ]
    ]
      where
        inside : n < nodes → below 1024 (eval ps s copy) w n ≡ below nodes (eval ps s table) w n
        inside h = rw (lt-ltb n 1024 (omega (arith, S.few_nodes)), lt-ltb n nodes h) (same-eval (suc n) w n h)

  -- ---- the choices of a node
  module _ (ps : List ℕ) (ks : List Bool) (s : State) where
    same-choice : (w : Ty) (k : Node) (a b c : ℕ) (ev : (v : Ty) → ℕ → Work (Of v)) (rest : Ty → ℕ → List ℕ)
        → choices_rule ps copy ks s w k a b c ev rest ≡ choices_rule ps table ks s w k a b c ev rest
    unfolding choices_rule
    same-choice w variable a b c ev rest = rw (same-uint a)
    same-choice w uint_constant a b c ev rest = refl
    same-choice w bool_constant a b c ev rest = refl
    same-choice w cell a b c ev rest = refl
    same-choice w plus a b c ev rest = refl
    same-choice w minus a b c ev rest = refl
    same-choice w less a b c ev rest = refl
    same-choice w at_most a b c ev rest = refl
    same-choice w equal a b c ev rest = refl
    same-choice w conditional a b c ev rest = refl
    same-choice w valid a b c ev rest = refl
    same-choice w class_variable a b c ev rest = refl
    same-choice w reduced_cell a b c ev rest = refl
    same-choice w reduced_valid a b c ev rest = refl
    same-choice w no_node a b c ev rest = refl

    same-choices_f : (fuel : ℕ) (w : Ty) (n : ℕ) → n < nodes → choices_f ps copy ks s fuel w n ≡ choices_f ps table ks s fuel w n
    unfolding choices_f
    same-choices_f zero w n h = refl
    same-choices_f (suc g) w n h =
        ap (λ (l : Line). choices_rule ps copy ks s w (node_kind l.kind) l.a l.b l.c (below n (eval_f [] (contents_of s) copy g))
        (λ v j. if ltb j n then choices_f ps copy ks s g v j else [])) (O.node n h)
        ∙ same-choice w (node_kind (node_at table n).kind) (node_at table n).a (node_at table n).b (node_at table n).c
        (below n (eval_f [] (contents_of s) copy g)) (λ v j. if ltb j n then choices_f ps copy ks s g v j else [])
        ∙ ap (λ ev. choices_rule ps table ks s w (node_kind (node_at table n).kind) (node_at table n).a (node_at table n).b (node_at table n).c ev
        (λ v j. if ltb j n then choices_f ps copy ks s g v j else []))
        (under_same {A = λ w. Work (Of w)} (λ w. wrong) n (eval_f [] (contents_of s) copy g) (eval_f [] (contents_of s) table g)
        (λ v m k. same-eval [] (contents_of s) g v m (omega arith)))
        ∙ ap (λ rest. choices_rule ps table ks s w (node_kind (node_at table n).kind) (node_at table n).a (node_at table n).b (node_at table n).c
        (below n (eval_f [] (contents_of s) table g)) rest)
        (under_same {A = λ w. List ℕ} (λ w. []) n (choices_f ps copy ks s g) (choices_f ps table ks s g) (λ v m k. same-choices_f g v m (omega arith)))

    no-choices : (w : Ty) (n : ℕ) → nodes ≤ n → n < 1024 → choices_f ps copy ks s (suc n) w n ≡ []
    unfolding choices_f choices_rule node_kind
    no-choices w n h k =
        ap (λ (x : ℕ). choices_rule ps copy ks s w (node_kind x) (node_at copy n).a (node_at copy n).b (node_at copy n).c
        (below n (eval_f [] (contents_of s) copy n)) (λ v j. if ltb j n then choices_f ps copy ks s n v j else [])) (O.no_node n h k)

    same-node-choices : (w : Ty) (n : ℕ) → node_choices ps copy ks s w n ≡ node_choices ps table ks s w n
    unfolding node_choices
    same-node-choices w n = elim (dec_le nodes n) [
      | no h ↦ inside (not-below h)
      | yes h ↦ elim (dec_le 1024 n) [
        | yes k ↦ rw (le-ltb n 1024 k, le-ltb n nodes h)
        | no k ↦ rw (lt-ltb n 1024 (not-below k), le-ltb n nodes h) (no-choices w n h (not-below k))
      ]
    ]
      where
        inside : n < nodes → node_choices ps copy ks s w n ≡ node_choices ps table ks s w n
        inside h = rw (lt-ltb n 1024 (omega (arith, S.few_nodes)), lt-ltb n nodes h) (same-choices_f (suc n) w n h)

    -- ---- the choices of a row
    same-loop-choices : (r x y : ℕ) → loop_choices ps copy ks s r x y ≡ loop_choices ps table ks s r x y
    same-loop-choices r x y = rw (same-uint (row_at copy r).a) (ap (λ (l : Line). if marked_uint table l.a then x ∷ y ∷ [] else []) (same_line r))

    same-repeat-choices : (ls : List Loop) → repeat_choices ps copy ks s ls ≡ repeat_choices ps table ks s ls
    same-repeat-choices [] = refl
    same-repeat-choices (l ∷ ls) = ap (given (next_start l.start [])) (fun_ext λ x. same-loop-choices l.row x l.end)

    same-row-choices : (n : ℕ) (k : Row) (l : Line) → all_there (row_roles k) decls nodes l ≡ true
        → row_choices ps copy ks s n k l.a l.b l.c ≡ row_choices ps table ks s n k l.a l.b l.c
    unfolding row_choices row_roles
    same-row-choices n skip l h = refl
    same-row-choices n assign l h = rw (same-type l.a (ltb-true _ _ (and_left _ _ h))) (same-node-choices (type_at table l.a) l.b)
    same-row-choices n store l h =
        rw (same-node-choices pointer l.a, same-node-choices uint l.b) (rw (same-node [] (contents_of s) pointer l.a))
    same-row-choices n assert l h = same-node-choices bool l.a
    same-row-choices n assume l h = same-node-choices bool l.a
    same-row-choices n array l h = same-node-choices uint l.b
    same-row-choices n loop l h =
        rw (same-node-choices uint l.b, same-node-choices uint l.c, same-uint (row_at copy n).a, same-variable n)
        (rw (same-node [] (contents_of s) uint l.b, same-node [] (contents_of s) uint l.c))
    same-row-choices n loop_end l h = same-repeat-choices s.here.loops
    same-row-choices n reduced_store l h = refl
    same-row-choices n reduced_array l h = refl
    same-row-choices n class_loop l h = refl
    same-row-choices n procedure l h = refl
    same-row-choices n returns l h = same-node-choices uint l.a
    same-row-choices n call l h = same-node-choices uint l.b
    same-row-choices n no_row l h = refl

  -- ---- a row's rule
  module _ (ps : List ℕ) (s : State) where
    same-loop : (z : State) (r : ℕ) (k : Row) (x y : ℕ) (out : Work ℕ) → loop_at ps copy z r k x y out ≡ loop_at ps table z r k x y out
    same-loop z r skip x y out = refl
    same-loop z r assign x y out = refl
    same-loop z r store x y out = refl
    same-loop z r assert x y out = refl
    same-loop z r assume x y out = refl
    same-loop z r array x y out = refl
    same-loop z r loop x y out = rw (same-variable r)
    same-loop z r loop_end x y out = refl
    same-loop z r reduced_store x y out = refl
    same-loop z r reduced_array x y out = refl
    same-loop z r class_loop x y out = rw (same-variable r)
    same-loop z r procedure x y out = refl
    same-loop z r returns x y out = refl
    same-loop z r call x y out = refl
    same-loop z r no_row x y out = refl

    same-repeat : (ls : List Loop) → repeat_loop ps copy s ls ≡ repeat_loop ps table s ls
    same-repeat [] = refl
    same-repeat (l ∷ ls) =
        let z = with_loops s ls in
        let out = give (suc s.here.row) in
        ap (λ k. next_start l.start >>= k)
        (fun_ext λ x. ap (λ (m : Line). loop_at ps copy z l.row (row_kind m.kind) x l.end out) (same_line l.row)
        ∙ same-loop z l.row (row_kind (row_at table l.row).kind) x l.end out)

    same-rule : (n : ℕ) (k : Row) (l : Line) → all_there (row_roles k) decls nodes l ≡ true
        → row_rule ps copy s n k l.a l.b l.c ≡ row_rule ps table s n k l.a l.b l.c
    unfolding row_rule row_roles
    same-rule n skip l h = refl
    same-rule n assign l h = rw (same-type l.a (ltb-true _ _ (and_left _ _ h)), same-node ps (contents_of s) (type_at table l.a) l.b)
    same-rule n store l h = rw (same-node ps (contents_of s) pointer l.a, same-node ps (contents_of s) uint l.b)
    same-rule n assert l h = rw (same-node ps (contents_of s) bool l.a)
    same-rule n assume l h = rw (same-node ps (contents_of s) bool l.a)
    same-rule n array l h = rw (same-node ps (contents_of s) uint l.b)
    same-rule n loop l h = rw (same-node ps (contents_of s) uint l.b, same-node ps (contents_of s) uint l.c, same_end n, O.rows, same-variable n)
    same-rule n loop_end l h = same-repeat s.here.loops
    same-rule n reduced_store l h = rw (same-node ps (contents_of s) pointer l.a, same-node ps (contents_of s) uint l.b)
    same-rule n reduced_array l h = rw (same-node ps (contents_of s) uint l.b)
    same-rule n class_loop l h = rw (same-node ps (contents_of s) uint l.b, same-node ps (contents_of s) uint l.c, same_end n, O.rows, same-variable n)
    same-rule n procedure l h = refl
    same-rule n returns l h = rw (same-node ps (contents_of s) uint l.a) (ap (λ k. below nodes (eval ps (contents_of s) table) uint l.a >>= k)
        (fun_ext λ x. same_back s s.callers x))
    same-rule n call l h = rw (same-node ps (contents_of s) uint l.b) (ap (λ k. below nodes (eval ps (contents_of s) table) uint l.b >>= k)
        (fun_ext λ x. same-call s l.a x))
    same-rule n no_row l h = refl

  -- ---- a step
  module _ (m : MachineKind) (A : Accepted m (table_for t f)) where
    row-there : (r : ℕ) → r < f.counts.rows → all_there (row_roles (row_kind (row_at table r).kind)) decls nodes (row_at table r) ≡ true
    unfolding row_there
    row-there r h = and_left _ _ (all-at f.counts.rows (row_there table) A.rows_there r h)

    -- past an end a step is a return, and else its row is there
    same_step : (ps : List ℕ) (s : State) (cs : List ℕ) → step ps copy s cs ≡ step ps table s cs
    unfolding step step_at at_end
    same_step ps s cs = rw (same-at-end s.here.row) (go (ltb s.here.row f.counts.rows) refl)
      where
        ruled : Table → Line → Work Move
        ruled t l = row_rule ps t s s.here.row (row_kind l.kind) l.a l.b l.c

        go : (b : Bool) → ltb s.here.row f.counts.rows ≡ b
            → (if at_end table s.here.row then give_back copy s s.callers 0 else ruled copy (row_at copy s.here.row)) cs
            ≡ (if at_end table s.here.row then give_back table s s.callers 0 else ruled table (row_at table s.here.row)) cs
        go true e =
            ap (λ (w : Work Move). (if at_end table s.here.row then w else ruled copy (row_at copy s.here.row)) cs) (same_back s s.callers 0)
            ∙ ap (λ (w : Work Move). (if at_end table s.here.row then give_back table s s.callers 0 else w) cs)
            (ap (ruled copy) (same_line s.here.row)
            ∙ same-rule ps s s.here.row (row_kind (row_at table s.here.row).kind) (row_at table s.here.row)
            (row-there s.here.row (ltb-true _ _ e)))
        go false e = rw (e, same_back s s.callers 0)

    same-step-choices : (ps : List ℕ) (ks : List Bool) (s : State) → step_choices ps copy ks s s.here.row ≡ step_choices ps table ks s s.here.row
    unfolding step_choices at_end
    same-step-choices ps ks s = rw (same-at-end s.here.row) (go (ltb s.here.row f.counts.rows) refl)
      where
        ruled : Table → Line → List ℕ
        ruled t l = row_choices ps t ks s s.here.row (row_kind l.kind) l.a l.b l.c

        go : (b : Bool) → ltb s.here.row f.counts.rows ≡ b
            → (if at_end table s.here.row then [] else ruled copy (row_at copy s.here.row))
            ≡ (if at_end table s.here.row then [] else ruled table (row_at table s.here.row))
        go true e =
            ap (λ (xs : List ℕ). if at_end table s.here.row then [] else xs)
            (ap (ruled copy) (same_line s.here.row)
            ∙ same-row-choices ps ks s s.here.row (row_kind (row_at table s.here.row).kind) (row_at table s.here.row)
            (row-there s.here.row (ltb-true _ _ e)))
        go false e = rw e

    own-same-table : Same t f own
    own-same-table = record {
      places = same-places;
      vars = same-vars;
      home = same_home;
      locals = same_locals;
      opening = same-opening;
      step = same_step;
      choices = same-step-choices;
      held_next = λ r h. same-pointer (row_at copy r).a ∙ ap (marked_pointer table) (same-variable r);
    }

pub own_same : OwnSame
own_same t f own S m A O = own-same-table t f own S O m A
