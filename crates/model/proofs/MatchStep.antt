-- The second run takes a step as the first does, if it is handed the numbers that only it takes as choices, and the first's choices.
-- Assumes nothing.
use mathlib.Core.Path.{◌≡◌, refl, sym, ap, ◌∙◌, fun_ext, subst}
use Prim.Native.Nat.{ℕ, zero, suc, ◌+◌, ◌-◌, ◌≤◌, ◌<◌}
use native.Mathlib.Nat.{mul-le-mul_left, mul-suc, not-suc-le-zero}
use native.Mathlib.Omega.{arith}
use mathlib.Core.Bool.{Bool, true, false, ◌&&◌, false≢true}
use mathlib.Core.List.{List, [], ◌∷◌, ◌++◌}
use lib.ListN.{length, get_or, get_or-eq_default}
use lib.Dec.{ltb, leb, eqb}
use borrow.Author.Tests.{ltb-true, leb-true, leb-false, lt-ltb, eq-eqb}
use Rattle.std.specs.Prelude.{if◌then◌else◌}
use Rattle.lists.specs.Tab.{all}
use Rattle.lists.proofs.TabLaws.{at-tab, same-tab}
use Rattle.model.specs.Class.{class}
use Rattle.model.specs.Table.{Row, Stretch, Table, Ty, at_end, home, locals_at, locals_of, marked_pointer, marked_uint, matching_end, opening, row_at}
use Rattle.model.specs.Table.{row_kind, stretch, type_at, within}
use Rattle.model.specs.Table.Ty.{bool, uint, pointer}
use Rattle.model.specs.Table.Row.{skip, assign, store, assert, assume, array, loop, loop_end, reduced_store, reduced_array, class_loop}
use Rattle.model.specs.Table.Row.{procedure, returns, call, no_row}
use Rattle.model.specs.Work.{Work, ◌>>=◌, fail, give, wrong}
use Rattle.model.specs.Work.Reason.{past_length}
use Rattle.model.specs.Work.Out.{gives}
use Rattle.model.specs.State.{Array, Caller, Loop, MachineKind, Position, State, Value, position, most_arrays, most_callers, form_of, places_in}
use Rattle.model.specs.State.MachineKind.{plain, reduced}
use Rattle.model.specs.State.Value.{Truth, Uint, Class, Pointer}
use Rattle.model.specs.Eval.{Of, Ptr, eval, index_of, keeps, ptr, size_of, contents_of, cells_laid, value}
use Rattle.model.specs.Step.{End, Move, add_array, enter, loop_at, new_array, node, past, past_end, put, reduced_write, repeat_loop, row_rule, set_var, step}
use Rattle.model.specs.Step.{argument, call_procedure, first_row, give_back, hand_over, numbers_in, renumbered, uint_in, uints_in, with_work}
use Rattle.model.specs.Step.{opened, step_at, with_cell, with_here, with_memory, with_var, write}
use Rattle.model.specs.Step.End.{assert_false, assume_false, want_of_cells}
use Rattle.model.specs.Step.Move.{to, stop}
use Rattle.model.specs.Agree.{SameVariable, array_at}
use Rattle.model.specs.Writer.{given, held_after, held_next, loop_choices, node_choices, repeat_choices, row_choices, step_choices}
use Rattle.model.proofs.Match.{Match, Matches, Plainly, listed, match-bind, match-choose, match-give, match-last, match-told, matches-are}
use Rattle.model.proofs.Match.{matches-as, matches-either, matches-fail, matches-give, matches-if, matches-with, matches-wrong}
use Rattle.model.proofs.Memory.{inside, split}
use Rattle.model.proofs.KindsIn.{PlainRow, TableIn, row_in, same-at_end, same_end, same_locals, same_number, store_in}
use Rattle.model.proofs.Homes.{Home, home-is, in_place, opens-is, place_in}
use Rattle.model.proofs.Homes.Home.{of_main, of_procedure}
use Rattle.model.proofs.Locals.{at-renumbered, length-numbers, length-renumbered, renumbered-any}
use Rattle.model.proofs.Linked.{AlsoMarked, Extra, FitCallers, FitLoops, FitOf, FitValue, Linked, LinkedMemory, LinkedVars, Related, Tight, only_second}
use Rattle.model.proofs.Keep.{cleared-fits, index_in, kept-also, memory-drop, memory-new, memory-write, set-fits, size-also, vars-set}
use Rattle.model.proofs.MatchEval.{Flat, first_flat, match-sum_or, match-eval_f, never-plain, no-places, same-places}

-- two moves: to states that are related, or to one end. A first run that ends for want of cells is not compared; a second may end so, unless
-- it has enough for each array
pub data Moves (extra : Extra) (S : State → State → Type 0) : Move → Move → Type 0 where
  both_to : {p r : State} → S p r → Moves extra S (to p) (to r)
  both-stop : {e : End} → Moves extra S (stop e) (stop e)
  first-wants : {a : Move} → Moves extra S (stop want_of_cells) a
  second-wants : {a : Move} → Tight extra → Moves extra S a (stop want_of_cells)

-- ---- one machine

-- a write inside
put_in : (ps : List ℕ) (s : State) (a : Array) (j x : ℕ) → j < size_of ps a → a.start + j < length s.cells → (cs : List ℕ)
    → put ps s a j x cs ≡ gives (to (past (with_cell s (a.start + j) x))) cs
put_in ps s a j x h k cs = simp (lt-ltb _ _ h, lt-ltb _ _ k)

flat-write : (ps : List ℕ) (s : State) → Flat s.arrays → write ps s ≡ reduced_write ps s
flat-write ps s flat = fun_ext λ p. fun_ext λ x. fun_ext λ cs. at p.array p.place x cs
  where
    at : (i q x : ℕ) (cs : List ℕ) → write ps s (ptr i q) x cs ≡ reduced_write ps s (ptr i q) x cs
    at zero q x cs = refl
    at (suc i) q x cs = go (ltb i (length s.arrays)) refl
      where
        go : (d : Bool) → ltb i (length s.arrays) ≡ d → write ps s (ptr (suc i) q) x cs ≡ reduced_write ps s (ptr (suc i) q) x cs
        go true d = simp (d, flat i (ltb-true i _ d))
        go false d = simp d

store-acts : (ps : List ℕ) (t : Table) (s : State) (n a b c : ℕ) (m : MachineKind) → (m ≡ plain → Flat s.arrays)
    → row_rule ps t s n (store_in m) a b c ≡ row_rule ps t s n reduced_store a b c
unfolding row_rule
store-acts ps t s n a b c plain h = ap (λ (w : Ptr → ℕ → Work Move). node ps t s pointer a >>= λ p. node ps t s uint b >>= λ x. w p x)
    (flat-write ps s (h refl))
store-acts ps t s n a b c reduced h = refl

-- a write, once its array is known
abbrev stored : List ℕ → State → Array → ℕ → ℕ → Work Move
stored ps s a x v = if ltb v a.len then (if keeps ps a v then put ps s a (index_of ps a v) x else give (to (past s))) else fail past_length

-- a row that is no loop
no_store : (ps : List ℕ) (t : Table) (s : State) (n x y : ℕ) (out : Work ℕ) (m : MachineKind) → loop_at ps t s n (store_in m) x y out ≡ wrong
no_store ps t s n x y out plain = refl
no_store ps t s n x y out reduced = refl

no-array : (ps : List ℕ) (t : Table) (s : State) (n x y : ℕ) (out : Work ℕ) (b : Bool) → loop_at ps t s n (if b then reduced_array else array) x y out ≡ wrong
no-array ps t s n x y out true = refl
no-array ps t s n x y out false = refl

loop-row : (ps : List ℕ) (t : Table) (s : State) (n a b c : ℕ) (f : Bool)
    → row_rule ps t s n (if f then class_loop else loop) a b c
    ≡ (node ps t s uint b >>= λ x. node ps t s uint c >>= λ y. loop_at ps t s n (if f then class_loop else loop) x y (past_end t n))
unfolding row_rule
loop-row ps t s n a b c true = refl
loop-row ps t s n a b c false = refl

array_row : (ps : List ℕ) (t : Table) (s : State) (n a b c : ℕ) (f : Bool)
    → row_rule ps t s n (if f then reduced_array else array) a b c ≡ (node ps t s uint b >>= λ l. new_array ps s a l f)
unfolding row_rule
array_row ps t s n a b c true = refl
array_row ps t s n a b c false = refl

same_out : {m : MachineKind} {us bs : ℕ → Bool} {t u : Table} → TableIn m us bs t u → (r : ℕ) → past_end u r ≡ past_end t r
same_out {t = t} {u = u} R r =
    ap (λ (k : ℕ). if◌then◌else◌ {A = Work ℕ} (ltb (matching_end u r) k) (give (suc (matching_end u r))) wrong) R.rows
    ∙ ap (λ (e : ℕ). if◌then◌else◌ {A = Work ℕ} (ltb e t.rows) (give (suc e)) wrong) (same_end t u R r)

same_first : {m : MachineKind} {us bs : ℕ → Bool} {t u : Table} → TableIn m us bs t u → (k : ℕ) → first_row u k ≡ first_row t k
same_first {t = t} {u = u} R k =
    ap (λ (n : ℕ). if◌then◌else◌ {A = Work ℕ} (ltb (opening u k) n) (give (suc (opening u k))) wrong) R.rows
    ∙ ap (λ (o : ℕ). if◌then◌else◌ {A = Work ℕ} (ltb o t.rows) (give (suc o)) wrong) (same_number t u R k)

all_same : (n : ℕ) (f g : ℕ → Bool) → ((i : ℕ) → i < n → f i ≡ g i) → all n f ≡ all n g
unfolding all
all_same zero f g h = refl
all_same (suc n) f g h = rw (all_same n f g (λ i l. h i (omega arith)), h n (omega arith))

-- two classes, or a value and itself, have one form
form-seen : (ps : List ℕ) (b : Bool) (v w o q : Value) → SameVariable ps b v w → SameVariable ps b o q
    → eqb (form_of w) (form_of q) ≡ eqb (form_of v) (form_of o)
form-seen ps false v w o q x y = rw (x, y)
form-seen ps true v w o q x y = rw (ap form_of x.1, ap form_of x.2, ap form_of y.1, ap form_of y.2)

only_none : (b c : Bool) → c ≡ false → (if b then false else c) ≡ false
only_none true c e = refl
only_none false c e = e

-- ---- two machines

module _ {m : MachineKind} {F : ℕ → Type 0} (ps : List ℕ) (extra : Extra) {us bs : ℕ → Bool} {t v u : Table} (R : Related m F us bs t v u) where
  abbrev fs : List ℕ
  fs = places_in m ps

  abbrev only : ℕ → Bool
  only = only_second us (marked_uint t)

  abbrev L : List Bool → State → State → Type 0
  L ks p r = Linked m F ps extra t only ks p r

  module _ (ks : List Bool) where
    -- a variable set
    match-set : {p r : State} → L ks p r → (a : ℕ) (x y : Value) → SameVariable ps (only a) x y → FitValue F x
        → Matches m F (L ks) (set_var p a x) (set_var r a y) []
    match-set {p} {r} A a x y s k = go (ltb a (length p.vars)) refl (eqb (form_of x) (form_of (get_or p.vars a (Uint 0)))) refl
      where
        linked : L ks (with_var p a x) (with_var r a y)
        linked = record {
          here = A.here;
          callers = A.callers;
          vars = vars-set ps only A.vars a x y s;
          memory = A.memory;
          fit_vars = set-fits (FitValue F) p.vars a x (Uint 0) A.fit_vars k;
          fit_cells = A.fit_cells;
          fit_loops = A.fit_loops;
          fit_callers = A.fit_callers;
        }

        same : ltb a (length p.vars) ≡ true → eqb (form_of y) (form_of (get_or r.vars a (Uint 0))) ≡ eqb (form_of x) (form_of (get_or p.vars a (Uint 0)))
        same d = form-seen ps (only a) x y (get_or p.vars a (Uint 0)) (get_or r.vars a (Uint 0)) s (A.vars.variable a (ltb-true a _ d))

        go : (d : Bool) → ltb a (length p.vars) ≡ d → (e : Bool) → eqb (form_of x) (form_of (get_or p.vars a (Uint 0))) ≡ e
            → Matches m F (L ks) (set_var p a x) (set_var r a y) []
        go false d e e' = matches-as (λ cs. simp d) (λ cs. simp (A.vars.number, d)) matches-wrong
        go true d true e = matches-as (λ cs. simp (d, e)) (λ cs. simp (A.vars.number, d, same d ∙ e)) (matches-give linked)
        go true d false e = matches-as (λ cs. simp (d, e)) (λ cs. simp (A.vars.number, d, same d ∙ e)) matches-wrong

    -- both go on at one place
    linked-here : {p r : State} → L ks p r → {h k : Position} → k ≡ h → FitLoops F h.loops → L ks (with_here p h) (with_here r k)
    linked-here A e f = record {
      here = e;
      callers = A.callers;
      vars = A.vars;
      memory = A.memory;
      fit_vars = A.fit_vars;
      fit_cells = A.fit_cells;
      fit_loops = f;
      fit_callers = A.fit_callers;
    }

    linked-past : {p r : State} → L ks p r → L ks (past p) (past r)
    linked-past A = linked-here A (ap (λ (h : Position). position (suc h.row) h.loops) A.here) A.fit_loops

    -- other arrays and cells, on the next row; hs says which arrays the second holds reduced then
    linked-memory : {p r : State} → L ks p r → (hs : List Bool) {pa ra : List Array} {pc rc : List ℕ} → LinkedMemory m ps extra hs pa pc ra rc
        → ((i : ℕ) → F (get_or pc i 0)) → L hs (past (with_memory p pa pc)) (past (with_memory r ra rc))
    linked-memory A hs M k =
        let B = linked-past A in
        record {
          here = B.here;
          callers = B.callers;
          vars = B.vars;
          memory = M;
          fit_vars = B.fit_vars;
          fit_cells = k;
          fit_loops = B.fit_loops;
          fit_callers = B.fit_callers;
        }

    match-enter : {p r : State} → L ks p r → (n : ℕ) (a b : Value) → SameVariable ps (only (row_at t n).a) a b → FitValue F a → (x y : ℕ) → F x → F y
        → {out out' : Work ℕ} → Match m F (λ q. Unit {0}) out out' [] → Matches m F (Moves extra (L ks)) (enter v p n a x y out) (enter u r n b x y out') []
    match-enter {p} {r} A n a b s k x y fx fy {out} {out'} o = rw (R.first.a n, R.second.a n)
        (matches-with (match-set A (row_at t n).a a b s k) (λ p' r' A'. matches-either (leb x y)
        (matches-give (both_to (linked-here A' (ap (λ (h : Position). position (suc n) (opened n x y ∷ h.loops)) A'.here) (fx, fy, A'.fit_loops))))
        (match-last o (λ q _. matches-give (both_to (linked-here A' (ap (λ (h : Position). position q h.loops) A'.here) A'.fit_loops))))))

    match-loop : {p r : State} → L ks p r → (n : ℕ) (k : Row) → PlainRow t k (row_at t n).a (row_at t n).b (row_at t n).c → (x y : ℕ) → F x → F y
        → {out out' : Work ℕ}
        → Match m F (λ q. Unit {0}) out out' []
        → Matches m F (Moves extra (L ks)) (loop_at fs v p n (row_in m (us (row_at t n).a) (bs (row_at t n).a) k) x y out)
        (loop_at ps u r n (row_in reduced (marked_uint t (row_at t n).a) (marked_pointer t (row_at t n).a) k) x y out') (loop_choices ps t ks p n x y)
    match-loop A n skip h x y fx fy o = matches-wrong
    match-loop A n assign h x y fx fy o = matches-wrong
    match-loop {p} A n store h x y fx fy {out} o = matches-are (no_store fs v p n x y out m) refl matches-wrong
    match-loop A n assert h x y fx fy o = matches-wrong
    match-loop A n assume h x y fx fy o = matches-wrong
    match-loop {p} {r} A n array h x y fx fy {out} {out'} o =
        matches-are (no-array fs v p n x y out (bs (row_at t n).a)) (no-array ps u r n x y out' (marked_pointer t (row_at t n).a)) matches-wrong
    match-loop {p} {r} A n loop h x y fx fy {out} {out'} o = go (us (row_at t n).a) refl (marked_uint t (row_at t n).a) refl
      where
        told : only (row_at t n).a ≡ true
            → Matches m F (Moves extra (L ks)) (give x >>= λ a. give y >>= λ b. enter v p n (Uint a) a b out) (loop_at ps u r n class_loop x y out')
            (x ∷ y ∷ [])
        told s =
            match-bind (match-told (λ w. eqb (class ps w) (class ps x)) x (eq-eqb (class ps x) (class ps x) refl) fx)
            (λ a fa. match-bind (match-told (λ w. eqb (class ps w) (class ps y)) y (eq-eqb (class ps y) (class ps y) refl) fy)
            (λ b fb. match-enter A n (Uint a) (Class (class ps a)) (rw s (a, refl, refl)) fa a b fa fb o))

        both : m ≡ reduced → only (row_at t n).a ≡ false
            → Matches m F (Moves extra (L ks)) (loop_at ps v p n class_loop x y out) (loop_at ps u r n class_loop x y out') []
        both e s =
            match-last (match-choose (never-plain e) (λ w. eqb (class ps w) (class ps x)))
            (λ a fa. match-last (match-choose (never-plain e) (λ w. eqb (class ps w) (class ps y)))
            (λ b fb. match-enter A n (Class (class ps a)) (Class (class ps a)) (rw s refl) tt a b fa fb o))

        go : (f : Bool) → us (row_at t n).a ≡ f → (g : Bool) → marked_uint t (row_at t n).a ≡ g
            → Matches m F (Moves extra (L ks)) (loop_at fs v p n (if f then class_loop else loop) x y out)
            (loop_at ps u r n (if g then class_loop else loop) x y out') (if g then x ∷ y ∷ [] else [])
        go false f false g = match-enter A n (Uint x) (Uint x) (simp (f, g) refl) fx x y fx fy o
        go false f true g = told (simp (f, g))
        go true f false g = absurd (false≢true (sym g ∙ (R.uints (row_at t n).a f).1))
        go true f true g =
            let e : m ≡ reduced = (R.uints (row_at t n).a f).0 in
            listed (λ h. absurd (never-plain e h))
            (subst (λ qs. Matches m F (Moves extra (L ks)) (loop_at qs v p n class_loop x y out) (loop_at ps u r n class_loop x y out') [])
            (sym (same-places e ps)) (both e (simp f)))
    match-loop A n loop_end h x y fx fy o = matches-wrong
    match-loop A n reduced_store h x y fx fy o = absurd h
    match-loop A n reduced_array h x y fx fy o = absurd h
    match-loop A n class_loop h x y fx fy o = absurd h
    match-loop A n procedure h x y fx fy o = matches-wrong
    match-loop A n returns h x y fx fy o = matches-wrong
    match-loop A n call h x y fx fy o = matches-wrong
    match-loop A n no_row h x y fx fy o = matches-wrong

    match-repeat : {p r : State} → L ks p r → (ls : List Loop) → FitLoops F ls
        → Matches m F (Moves extra (L ks)) (repeat_loop fs v p ls) (repeat_loop ps u r ls) (repeat_choices ps t ks p ls)
    match-repeat A [] k = matches-wrong
    match-repeat {p} {r} A (l ∷ ls) k =
        match-bind (match-sum_or R.closed _ l.start 1)
        (λ x fx. rw (R.first.kind l.row, R.second.kind l.row)
        (match-loop (linked-here A (ap (λ (h : Position). position h.row ls) A.here) k.2) l.row (row_kind (row_at t l.row).kind)
        (R.kinds.row l.row) x l.end fx k.1
        (matches-give (ap (λ (h : Position). suc h.row) A.here, tt))))

    match-stored : {p r : State} → L ks p r → (i : ℕ) → i < length p.arrays → (y : ℕ) → F y → (q : ℕ)
        → Matches m F (Moves extra (L ks)) (stored fs p (array_at p.arrays i) y q) (stored ps r (array_at r.arrays i) y q) []
    match-stored {p} {r} A i h y fy q = go (ltb q (array_at p.arrays i).len) refl (keeps fs (array_at p.arrays i) q) refl
        (keeps ps (array_at r.arrays i) q) refl
      where
        M : LinkedMemory m ps extra ks p.arrays p.cells r.arrays r.cells
        M = A.memory

        inside-second : ltb q (array_at p.arrays i).len ≡ true → ltb q (array_at r.arrays i).len ≡ true
        inside-second e = rw (M.len i h) e

        first-put : q < (array_at p.arrays i).len → keeps fs (array_at p.arrays i) q ≡ true → (cs : List ℕ)
            → put fs p (array_at p.arrays i) (index_of fs (array_at p.arrays i) q) y cs
            ≡ gives (to (past (with_cell p ((array_at p.arrays i).start + index_of fs (array_at p.arrays i) q) y))) cs
        first-put k f =
            let l = index_in fs (array_at p.arrays i).reduced _ q k f in
            put_in fs p (array_at p.arrays i) _ y l (inside fs M.laid_first i h _ l)

        second-put : q < (array_at p.arrays i).len → keeps ps (array_at r.arrays i) q ≡ true → (cs : List ℕ)
            → put ps r (array_at r.arrays i) (index_of ps (array_at r.arrays i) q) y cs
            ≡ gives (to (past (with_cell r ((array_at r.arrays i).start + index_of ps (array_at r.arrays i) q) y))) cs
        second-put k g =
            let k' : q < (array_at r.arrays i).len = rw (M.len i h) k in
            let l = index_in ps (array_at r.arrays i).reduced _ q k' g in
            put_in ps r (array_at r.arrays i) _ y l (inside ps M.laid_second i (omega (arith, M.number)) _ l)

        go : (e : Bool) → ltb q (array_at p.arrays i).len ≡ e → (f : Bool) → keeps fs (array_at p.arrays i) q ≡ f → (g : Bool)
            → keeps ps (array_at r.arrays i) q ≡ g
            → Matches m F (Moves extra (L ks)) (stored fs p (array_at p.arrays i) y q) (stored ps r (array_at r.arrays i) y q) []
        go false e f f' g g' = matches-as (λ cs. simp e) (λ cs. simp (M.len i h, e)) (matches-fail {why = past_length})
        go true e true f true g =
            matches-as (λ cs. simp (e, f) (first-put (ltb-true q _ e) f cs)) (λ cs. simp (inside-second e, g) (second-put (ltb-true q _ e) g cs))
            (matches-give (both_to (linked-memory A ks (memory-write M i q h (ltb-true q _ e) y g) (set-fits F p.cells _ y 0 A.fit_cells fy))))
        go true e true f false g =
            matches-as (λ cs. simp (e, f) (first-put (ltb-true q _ e) f cs)) (λ cs. simp (inside-second e, g))
            (matches-give (both_to (linked-memory {r = r} A ks (memory-drop M i q h (ltb-true q _ e) y f g) (set-fits F p.cells _ y 0 A.fit_cells fy))))
        go true e false f true g =
            absurd (false≢true (sym f ∙ kept-also m ps (array_at p.arrays i).reduced (array_at r.arrays i).reduced q (M.also i h) g))
        go true e false f false g = matches-as (λ cs. simp (e, f)) (λ cs. simp (inside-second e, g)) (matches-give (both_to (linked-past A)))

    match-write : {p r : State} → L ks p r → (i q y : ℕ) → F y
        → Matches m F (Moves extra (L ks)) (reduced_write fs p (ptr i q) y) (reduced_write ps r (ptr i q) y) []
    match-write A zero q y fy = matches-fail
    match-write {p} {r} A (suc i) q y fy = go (ltb i (length p.arrays)) refl
      where
        go : (d : Bool) → ltb i (length p.arrays) ≡ d
            → Matches m F (Moves extra (L ks)) (reduced_write fs p (ptr (suc i) q) y) (reduced_write ps r (ptr (suc i) q) y) []
        go false d = matches-as (λ cs. simp d) (λ cs. simp (A.memory.number, d)) matches-wrong
        go true d = matches-as (λ cs. simp d) (λ cs. simp (A.memory.number, d)) (match-stored A i (ltb-true i _ d) y fy q)

    match-array : ((n : ℕ) → class ps n ≤ n + extra.per_array) → {p r : State} → L ks p r → (n : ℕ) (b c : Bool) → AlsoMarked m b c
        → Moves extra (L (ks ++ c ∷ [])) (add_array fs p n b) (add_array ps r n c)
    match-array small {p} {r} A n b c also =
        go (leb most_arrays (length p.arrays)) refl (leb (cells_laid fs p.arrays + (if b then class fs n else n)) (length p.cells)) refl
        (leb (cells_laid ps r.arrays + (if c then class ps n else n)) (length r.cells)) refl
      where
        M : LinkedMemory m ps extra ks p.arrays p.cells r.arrays r.cells
        M = A.memory

        go : (d : Bool) → leb most_arrays (length p.arrays) ≡ d → (e : Bool)
            → leb (cells_laid fs p.arrays + (if b then class fs n else n)) (length p.cells) ≡ e
            → (f : Bool) → leb (cells_laid ps r.arrays + (if c then class ps n else n)) (length r.cells) ≡ f
            → Moves extra (L (ks ++ c ∷ [])) (add_array fs p n b) (add_array ps r n c)
        go true d e e' f f' = rw d first-wants
        go false d false e f f' = rw (d, e) first-wants
        go false d true e true f =
            let d' : leb most_arrays (length r.arrays) ≡ false = rw M.number d in
            rw (d, e, d', f)
            (both_to (linked-memory A (ks ++ c ∷ []) (memory-new M n b c also (small n) (leb-true _ _ e) (leb-true _ _ f))
            (cleared-fits F R.closed.none (cells_laid fs p.arrays) (if b then class fs n else n) p.cells (leb-true _ _ e) A.fit_cells)))
        go false d true e false f =
            let d' : leb most_arrays (length r.arrays) ≡ false = rw M.number d in
            let few : length p.arrays < most_arrays = leb-false most_arrays _ d in
            let fits : cells_laid fs p.arrays + (if b then class fs n else n) ≤ length p.cells = leb-true _ _ e in
            let lacks : length r.cells < cells_laid ps r.arrays + (if c then class ps n else n) = leb-false _ _ f in
            rw (d, e, d', f)
            (second-wants (omega (
              arith,
              M.fewer,
              M.room,
              mul-suc extra.per_array (length p.arrays),
              mul-le-mul_left
                  extra.per_array few,
              size-also m ps b c n extra.per_array also (small n),
            )))

    match-new : ((n : ℕ) → class ps n ≤ n + extra.per_array) → {p r : State} → L ks p r → (a n : ℕ) → marked_uint t a ≡ false → (b c : Bool) → AlsoMarked m b c
        → Matches m F (Moves extra (L (ks ++ c ∷ []))) (new_array fs p a n b) (new_array ps r a n c) []
    match-new small {p} {r} A a n h b c also =
        matches-with (match-set A a (Pointer (suc (length p.arrays)) 0) (Pointer (suc (length r.arrays)) 0)
        (rw (only_none (us a) (marked_uint t a) h) (ap (λ (k : ℕ). Pointer (suc k) 0) A.memory.number)) R.closed.none)
        (λ p' r' A'. matches-give (match-array small A' n b c also))

    -- ---- calls and returns

    unmarked-local : (q i : ℕ) → within (locals_at t q) i ≡ true → marked_uint t i ≡ false
    unmarked-local q i = go (home t q) (home-is t q)
      where
        go : (h : ℕ) → Home t q h → within (locals_of t h) i ≡ true → marked_uint t i ≡ false
        go h of_main w = absurd (not-suc-le-zero (place_in (stretch 0 0) i w).1)
        go h (of_procedure o l e) w =
            subst (λ k. PlainRow t k (row_at t o).a (row_at t o).b (row_at t o).c) (opens-is (row_kind (row_at t o).kind) e) (R.kinds.row o) i w

    -- a local is the same in both
    same-local : {p r : State} → L ks p r → (q j : ℕ) → j < (locals_at t q).count
        → get_or r.vars ((locals_at t q).first + j) (Uint 0) ≡ get_or p.vars ((locals_at t q).first + j) (Uint 0)
    same-local {p} {r} A q j h =
        let i : ℕ = (locals_at t q).first + j in
        split (length p.vars) i
        (λ l. get_or-eq_default r.vars (Uint 0) {n = i} (omega (arith, A.vars.number)) ∙ sym (get_or-eq_default p.vars (Uint 0) {n = i} l))
        (λ l. rw (only_none (us i) (marked_uint t i) (unmarked-local q i (in_place (locals_at t q) i (omega arith) (omega arith)))) at (A.vars.variable i l))

    same-uints : {p r : State} → L ks p r → (q : ℕ) → uints_in r.vars (locals_at t q) ≡ uints_in p.vars (locals_at t q)
    unfolding uints_in
    same-uints {p} {r} A q = all_same (locals_at t q).count _ _ (λ j h. rw (A.vars.number, same-local A q j h))

    same-numbers : {p r : State} → L ks p r → (q : ℕ) → numbers_in r.vars (locals_at t q) ≡ numbers_in p.vars (locals_at t q)
    unfolding numbers_in
    same-numbers {p} {r} A q = same-tab (locals_at t q).count _ _ (λ j h. ap uint_in (same-local A q j h))

    fit-number : (x : Value) → FitValue F x → F (uint_in x)
    fit-number (Truth b) h = R.closed.none
    fit-number (Uint n) h = h
    fit-number (Class k) h = R.closed.none
    fit-number (Pointer a b) h = R.closed.none

    fit-numbers : {p r : State} → L ks p r → (l : Stretch) (i : ℕ) → F (get_or (numbers_in p.vars l) i 0)
    unfolding numbers_in
    fit-numbers {p} A l i = split l.count i
        (λ h. subst F (sym (get_or-eq_default (numbers_in p.vars l) 0 {n = i} (omega (arith, length-numbers p.vars l)))) R.closed.none)
        (λ h. subst F (sym (at-tab l.count (λ i. uint_in (get_or p.vars (l.first + i) (Uint 0))) 0 i h))
        (fit-number (get_or p.vars (l.first + i) (Uint 0)) (A.fit_vars (l.first + i))))

    -- numbers for the locals
    linked-renumbered : {pv rv : List Value} → LinkedVars ps only pv rv → (q : ℕ) (f : ℕ → ℕ)
        → LinkedVars ps only (renumbered pv (locals_at t q) f) (renumbered rv (locals_at t q) f)
    linked-renumbered {pv} {rv} W q f = record {
      number = length-renumbered rv (locals_at t q) f ∙ W.number ∙ sym (length-renumbered pv (locals_at t q) f);
      variable = λ i h.
          let k : i < length pv = omega (arith, length-renumbered pv (locals_at t q) f) in
          rw (at-renumbered pv (locals_at t q) f i k, at-renumbered rv (locals_at t q) f i (omega (arith, W.number)))
          (go i k (within (locals_at t q) i) refl);
    }
      where
        go : (i : ℕ) → i < length pv → (b : Bool) → within (locals_at t q) i ≡ b
            → SameVariable ps (only i) (if b then Uint (f (i - (locals_at t q).first)) else get_or pv i (Uint 0))
            (if b then Uint (f (i - (locals_at t q).first)) else get_or rv i (Uint 0))
        go i k true w = rw (only_none (us i) (marked_uint t i) (unmarked-local q i w)) refl
        go i k false w = W.variable i k

    abbrev LinkedFit : List Value → List Value → Type 0
    LinkedFit pv rv = LinkedVars ps only pv rv × ((i : ℕ) → FitValue F (get_or pv i (Uint 0)))

    fit-renumbered : (pv : List Value) → ((i : ℕ) → FitValue F (get_or pv i (Uint 0))) → (q : ℕ) (f : ℕ → ℕ) → ((j : ℕ) → F (f j)) → (i : ℕ)
        → FitValue F (get_or (renumbered pv (locals_at t q) f) i (Uint 0))
    fit-renumbered pv h q f k = renumbered-any (FitValue F) pv (locals_at t q) f h k

    match-handed : {p r : State} → L ks p r → (q n : ℕ) (f : ℕ → ℕ) → ((j : ℕ) → F (f j))
        → Matches m F LinkedFit (hand_over p.vars (locals_at v q) (locals_at v n) f) (hand_over r.vars (locals_at u q) (locals_at u n) f) []
    match-handed {p} {r} A q n f k =
        rw (same_locals t v R.first q, same_locals t v R.first n, same_locals t u R.second q, same_locals t u R.second n)
        (rw (same-uints A q, same-uints A n)
        (matches-either (uints_in p.vars (locals_at t q) && uints_in p.vars (locals_at t n))
        (matches-give (
          linked-renumbered (linked-renumbered A.vars q (λ i. 0)) n f,
          fit-renumbered (renumbered p.vars (locals_at t q) (λ i. 0)) (fit-renumbered p.vars A.fit_vars q (λ i. 0) (λ j. R.closed.none)) n f k,
        ))
        matches-wrong))

    -- another procedure at work, with its locals
    linked-work : {p r : State} → L ks p r → (w : Position) → FitLoops F w.loops → (cs : List Caller) → FitCallers F t cs → {pv rv : List Value}
        → LinkedFit pv rv → L ks (with_work p w cs pv) (with_work r w cs rv)
    linked-work A w fl cs fc W = record {
      here = refl;
      callers = refl;
      vars = W.0;
      memory = A.memory;
      fit_vars = W.1;
      fit_cells = A.fit_cells;
      fit_loops = fl;
      fit_callers = fc;
    }

    match_back : {p r : State} → L ks p r → (cs : List Caller) → FitCallers F t cs → (x : ℕ) → F x
        → Matches m F (Moves extra (L ks)) (give_back v p cs x) (give_back u r cs x) []
    match_back A [] k x fx = matches-wrong
    match_back {p} {r} A (c ∷ cs) k x fx =
        subst (λ (w : Position). Matches m F (Moves extra (L ks)) (give_back v p (c ∷ cs) x)
        (hand_over r.vars (locals_at u w.row) (locals_at u c.here.row) (λ i. get_or c.locals i 0)
        >>= λ vs. set_var (with_work r c.here cs vs) (row_at u c.here.row).c (Uint x) >>= λ s'. give (to (past s'))) []) (sym A.here)
        (rw (R.first.c c.here.row, R.second.c c.here.row)
        (matches-with (match-handed A p.here.row c.here.row (λ i. get_or c.locals i 0) k.1)
        (λ pv rv W. matches-with (match-set (linked-work A c.here k.0 cs k.3 W) receiver (Uint x) (Uint x)
        (rw (only_none (us receiver) (marked_uint t receiver) unmarked) refl) fx)
        (λ p' r' A'. matches-give (both_to (linked-past A'))))))
      where
        receiver : ℕ
        receiver = (row_at t c.here.row).c

        unmarked : marked_uint t receiver ≡ false
        unmarked = subst (λ g. PlainRow t g (row_at t c.here.row).a (row_at t c.here.row).b receiver) k.2 (R.kinds.row c.here.row)

    match-first : (k : ℕ) → Match m F (λ q. Unit {0}) (first_row v k) (first_row u k) []
    match-first k =
        matches-are (same_first R.first k) (same_first R.second k) (matches-either (ltb (opening t k) t.rows) (match-give tt) matches-wrong)

    match-call : {p r : State} → L ks p r → row_kind (row_at t p.here.row).kind ≡ call → (k x : ℕ) → F x
        → Matches m F (Moves extra (L ks)) (call_procedure v p k x) (call_procedure u r k x) []
    match-call {p} {r} A e k x fx =
        subst (λ cs. Matches m F (Moves extra (L ks)) (call_procedure v p k x) (call_procedure u (with_work r r.here cs r.vars) k x) []) (sym A.callers)
        (subst (λ w. Matches m F (Moves extra (L ks)) (call_procedure v p k x) (call_procedure u (with_work r w p.callers r.vars) k x) []) (sym A.here)
        (matches-either (leb most_callers (length p.callers)) (matches-give both-stop)
        (match-last (match-first k)
        (λ q _. matches-with (match-handed A p.here.row q (argument x) fit-argument)
        (λ pv rv W. rw (same_locals t v R.first p.here.row, same_locals t u R.second p.here.row, same-numbers A p.here.row)
        (matches-give (both_to
        (linked-work A (position q []) tt _ (A.fit_loops, fit-numbers A (locals_at t p.here.row), e, A.fit_callers) W))))))))
      where
        fit-argument : (j : ℕ) → F (argument x j)
        fit-argument j = go (eqb j 0)
          where
            go : (b : Bool) → F (if b then x else 0)
            go true = fx
            go false = R.closed.none

    -- ---- rows and steps

    match-node : {p r : State} → L ks p r → (w : Ty) (n : ℕ) → Match m F (FitOf F w) (node fs v p w n) (node ps u r w n) (node_choices ps t ks p w n)
    unfolding eval node_choices
    match-node {p} {r} A w n =
        subst (λ (k : ℕ). Match m F (FitOf F w) (if ltb n k then eval fs (contents_of p) v w n else wrong) (node ps u r w n) (node_choices ps t ks p w n))
        (sym R.first.count)
        (subst (λ (k : ℕ). Match m F (FitOf F w) (if ltb n t.nodes then eval fs (contents_of p) v w n else wrong)
        (if ltb n k then eval ps (contents_of r) u w n else wrong) (node_choices ps t ks p w n)) (sym R.second.count)
        (matches-if (ltb n t.nodes) (match-eval_f R A (suc n) w n) matches-wrong))

    match-out : (n : ℕ) → Match m F (λ q. Unit {0}) (past_end v n) (past_end u n) []
    match-out n =
        matches-are (same_out R.first n) (same_out R.second n) (matches-either (ltb (matching_end t n) t.rows) (match-give tt) matches-wrong)

    plain-node : (p : State) → Plainly m [] → node fs v p ≡ node [] t p
    plain-node p h = ap (λ qs. node qs v p) (no-places m ps h) ∙ ap (λ s. node [] s p) (R.itself h)

    fit-value : (w : Ty) (x : Of w) → FitOf F w x → FitValue F (value w x)
    fit-value bool x h = h
    fit-value uint x h = h
    fit-value pointer x h = h

    tested : {p r : State} → L ks p r → (x : Bool) (e : End) → Moves extra (L ks) (if x then to (past p) else stop e) (if x then to (past r) else stop e)
    tested A true e = both_to (linked-past A)
    tested A false e = both-stop

  module _ (small : (n : ℕ) → class ps n ≤ n + extra.per_array) (ks : List Bool) where
    match-row : {p r : State} → L ks p r → (n : ℕ) (k : Row) → k ≡ row_kind (row_at t p.here.row).kind
        → PlainRow t k (row_at t n).a (row_at t n).b (row_at t n).c → (b c : ℕ)
        → Matches m F (Moves extra (L (held_after k (marked_pointer t (row_at t n).a) ks)))
        (row_rule fs v p n (row_in m (us (row_at t n).a) (bs (row_at t n).a) k) (row_at t n).a b c)
        (row_rule ps u r n (row_in reduced (marked_uint t (row_at t n).a) (marked_pointer t (row_at t n).a) k) (row_at t n).a b c)
        (row_choices ps t ks p n k (row_at t n).a b c)
    unfolding row_rule row_choices
    match-row A n skip z h b c = matches-give (both_to (linked-past ks A))
    match-row {p} {r} A n assign z h b c =
        rw (R.first.type (row_at t n).a, R.second.type (row_at t n).a)
        (match-last (match-node ks A (type_at t (row_at t n).a) b)
        (λ x fx. matches-with (match-set ks A (row_at t n).a (value (type_at t (row_at t n).a) x) (value (type_at t (row_at t n).a) x)
        (rw (only_none (us (row_at t n).a) (marked_uint t (row_at t n).a) h) refl) (fit-value ks (type_at t (row_at t n).a) x fx))
        (λ p' r' A'. matches-give (both_to (linked-past ks A')))))
    match-row {p} {r} A n store z h b c =
        matches-are (store-acts fs v p n (row_at t n).a b c m (first_flat R.closed R.uints A)) refl
        (listed (λ h. ap (λ (nd : (w : Ty) → ℕ → Work (Of w)). node_choices ps t ks p pointer (row_at t n).a
        ++ given (nd pointer (row_at t n).a []) (λ x. node_choices ps t ks p uint b)) (plain-node ks p h))
        (match-bind (match-node ks A pointer _) (λ x _. match-last (match-node ks A uint b) (λ y fy. match-write ks A x.array x.place y fy))))
    match-row A n assert z h b c = match-last (match-node ks A bool _) (λ x _. matches-give (tested ks A x assert_false))
    match-row A n assume z h b c = match-last (match-node ks A bool _) (λ x _. matches-give (tested ks A x assume_false))
    match-row {p} {r} A n array z h b c =
        matches-are (array_row fs v p n (row_at t n).a b c (bs (row_at t n).a)) (array_row ps u r n (row_at t n).a b c (marked_pointer t (row_at t n).a))
        (match-last (match-node ks A uint b)
        (λ l _. match-new ks small A _ l h (bs (row_at t n).a) (marked_pointer t (row_at t n).a) (R.pointers (row_at t n).a)))
    match-row {p} {r} A n loop z h b c =
        matches-are (loop-row fs v p n (row_at t n).a b c (us (row_at t n).a)) (loop-row ps u r n (row_at t n).a b c (marked_uint t (row_at t n).a))
        (listed (λ h. ap (λ (nd : (w : Ty) → ℕ → Work (Of w)). node_choices ps t ks p uint b
        ++ given (nd uint b []) (λ x. node_choices ps t ks p uint c ++ given (nd uint c []) (λ y. loop_choices ps t ks p n x y))) (plain-node ks p h))
        (match-bind (match-node ks A uint b) (λ x fx. match-bind (match-node ks A uint c) (λ y fy. match-loop ks A n loop h x y fx fy (match-out ks n)))))
    match-row {p} {r} A n loop_end z h b c =
        subst (λ (h : Position). Matches m F (Moves extra (L ks)) (repeat_loop fs v p p.here.loops) (repeat_loop ps u r h.loops)
        (repeat_choices ps t ks p p.here.loops))
        (sym A.here) (match-repeat ks A p.here.loops A.fit_loops)
    match-row A n reduced_store z h b c = absurd h
    match-row A n reduced_array z h b c = absurd h
    match-row A n class_loop z h b c = absurd h
    match-row A n procedure z h b c = matches-wrong
    match-row {p} {r} A n returns z h b c =
        match-last (match-node ks A uint _)
        (λ x fx. subst (λ cs. Matches m F (Moves extra (L ks)) (give_back v p p.callers x) (give_back u r cs x) []) (sym A.callers)
        (match_back ks A p.callers A.fit_callers x fx))
    match-row A n call z h b c = match-last (match-node ks A uint b) (λ x fx. match-call ks A (sym z) (row_at t n).a x fx)
    match-row A n no_row z h b c = matches-wrong

    -- a row, or at the end of a procedure a return of 0
    match-step_at : {p r : State} → L ks p r
        → Matches m F (Moves extra (L (held_after (row_kind (row_at t p.here.row).kind) (marked_pointer t (row_at t p.here.row).a) ks)))
        (step_at fs v p p.here.row) (step_at ps u r p.here.row)
        (row_choices ps t ks p p.here.row (row_kind (row_at t p.here.row).kind) (row_at t p.here.row).a (row_at t p.here.row).b
        (row_at t p.here.row).c)
    unfolding step_at
    match-step_at {p} {r} A =
        rw (R.first.kind here, R.first.a here, R.first.b here, R.first.c here)
        (rw (R.second.kind here, R.second.a here, R.second.b here, R.second.c here)
        (match-row A here (row_kind (row_at t here).kind) refl (R.kinds.row here) (row_at t here).b (row_at t here).c))
      where
        here : ℕ
        here = p.here.row

    match-ended : {p r : State} → L ks p r → (b : Bool)
        → Matches m F (Moves extra
        (L (if b then ks else held_after (row_kind (row_at t p.here.row).kind) (marked_pointer t (row_at t p.here.row).a) ks)))
        (if b then give_back v p p.callers 0 else step_at fs v p p.here.row) (if b then give_back u r p.callers 0 else step_at ps u r p.here.row)
        (if b then [] else row_choices ps t ks p p.here.row (row_kind (row_at t p.here.row).kind) (row_at t p.here.row).a (row_at t p.here.row).b
        (row_at t p.here.row).c)
    match-ended {p} {r} A true = match_back ks A p.callers A.fit_callers 0 R.closed.none
    match-ended A false = match-step_at A

    pub match-step : {p r : State} → L ks p r
        → Matches m F (Moves extra (L (held_next t p.here.row ks))) (step fs v p) (step ps u r) (step_choices ps t ks p p.here.row)
    unfolding step step_choices
    match-step {p} {r} A =
        subst (λ (w : Position). Matches m F (Moves extra (L (held_next t p.here.row ks))) (step fs v p)
        (if at_end u w.row then give_back u r r.callers 0 else step_at ps u r w.row) (step_choices ps t ks p p.here.row)) (sym A.here)
        (subst (λ cs. Matches m F (Moves extra (L (held_next t p.here.row ks))) (step fs v p)
        (if at_end u p.here.row then give_back u r cs 0 else step_at ps u r p.here.row) (step_choices ps t ks p p.here.row)) (sym A.callers)
        (rw (same-at_end t v R.first p.here.row, same-at_end t u R.second p.here.row) (match-ended A (at_end t p.here.row))))
