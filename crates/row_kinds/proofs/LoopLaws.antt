-- Laws of rows 38, 42 and 39: the open loops, the way out, loop entry, and the loop of a row.
-- Assumes nothing.
use Prim.Native.Nat.{ℕ, suc, ◌<◌, ◌≤◌, ◌+◌, ◌*◌, ◌-◌}
use native.Mathlib.Omega.{arith as numbers}
use native.Mathlib.Decide.{dec_le}
use native.Mathlib.Numerals.{add-one}
use mathlib.Core.Path.{◌≡◌, refl, sym, ap, ◌∙◌, subst}
use mathlib.Core.Logic.{◌≢◌}
use mathlib.Core.List.{List, [], ◌∷◌}
use mathlib.Core.Bool.{Bool, true, false, not, ◌||◌, false≢true}
use lib.ListN.{length, get_or, set, drop, get_or-eq_default}
use lib.Seq.{get_or-set_same, get_or-set_other}
use lib.Dec.{ltb, leb, eqb}
use borrow.Author.Tests.{ltb-true, lt-ltb, le-ltb, ne_eqb}
use types.Run.{OneOf}
use denote.Enum.Declared.{tag_of}
use Rattle.std.specs.Prelude.{if◌then◌else◌}
use Rattle.lists.specs.Tab.{tab, listed, all}
use Rattle.lists.specs.First.{walk}
use Rattle.std.specs.Prelude.{Option}
use Rattle.std.specs.Prelude.{Some, None}
use Rattle.lists.proofs.TabLaws.{same-tab, all-at}
use Rattle.model.specs.Class.{class}
use Rattle.model.specs.Table.{Table, Row, row_at, row_kind, row_kinds, matching_end}
use Rattle.kinds.specs.declared.line_kind.Row.{Row as RowName}
use Rattle.kinds.specs.declared.line_kind.Row.TheVariants as row_name
use Rattle.kinds.specs.Kinds.{row_said}
use Rattle.model.specs.Table.Ty.{uint}
use Rattle.model.specs.Table.Row.{skip, assign, store, assert, assume, array, loop, loop_end, reduced_store, reduced_array, class_loop}
use Rattle.model.specs.Table.Row.{procedure, returns, call, no_row}
use Rattle.model.specs.Work.{Out, Work, next, give, wrong, choose}
use Rattle.model.specs.Work.Out.{gives, stuck}
use Rattle.model.specs.State.{Value, Loop, State, form_of, position}
use Rattle.model.specs.State.Value.{Uint, Class}
use Rattle.model.specs.Eval.{next_start}
use Rattle.model.specs.Step.{Move, go_to, opened, with_here, with_var, enter, loop_at, repeat_loop, past_end, row_rule}
use Rattle.model.specs.Step.Move.{to}
use Rattle.prepared.specs.Own.{places_of, rows_of, own_table, own_vars}
use Rattle.evaluators.specs.contracts.answers.Answer.{the_type as answer}
use Rattle.machine.specs.declared.Failure.TheVariants.{Stuck}
use Rattle.evaluators.specs.declared.answers.Answer.{Answer}
use Rattle.evaluators.specs.declared.answers.Answer.TheVariants.{Uint as AUint}
use Rattle.evaluators.specs.CodeAnswers.{Answers, Says, operand}
use Rattle.machine.specs.declared.Machine.{Machine}
use Rattle.machine.specs.declared.Move.TheVariants.{Enters, Leaves}
use Rattle.machine.specs.declared.Worked.{Worked}
use Rattle.machine.specs.declared.Worked.TheVariants.{Moves, Not}
use Rattle.calls.specs.Stack.{loop_in, loops_of}
use Rattle.calls.proofs.StackLaws.{loops-split}
use Rattle.machine.specs.View.{own_state}
use Rattle.machine.specs.CodeMoves.{columns, entered, exited, state_after, move_out, CanDo, Works, RowWorks, RepeatFits, LoopFits, loop_row}
use Rattle.machine.specs.CodeMoves.{loop_row, iter_of, out_by, outer, LoopFits, LoopWorks}
use Rattle.row_kinds.specs.CodeRows.{lost_of, fits_in, iter_form, iter_number, way_out, leave_of, entry_of}
use Rattle.row_kinds.proofs.PutLaws.{works-same, works-stuck, fits_below, vars-iterator, set_to, set-off, lends}
use Rattle.row_kinds.proofs.WriteLaws.{works-by, row-uint, row-lost}

-- ---- the open loops
pub loops-push : (d r x y : ℕ) (rs ss es : List ℕ) → d < length rs → d < length ss → d < length es
    → loops_of (suc d) (set rs d r) (set ss d x) (set es d y) ≡ opened r x y ∷ loops_of d rs ss es
unfolding loops_of
loops-push d r x y rs ss es hr hs he =
    loops-split d (set rs d r) (set ss d x) (set es d y)
    ∙ ap (λ (q : Loop). q ∷ loops_of d (set rs d r) (set ss d x) (set es d y)) head
    ∙ ap (λ (qs : List Loop). opened r x y ∷ qs)
    (same-tab d (λ i. loop_in (set rs d r) (set ss d x) (set es d y) (d - suc i)) (λ i. loop_in rs ss es (d - suc i)) below)
  where
    head : loop_in (set rs d r) (set ss d x) (set es d y) d ≡ opened r x y
    head = rw (get_or-set_same rs d r 0 hr, get_or-set_same ss d x 0 hs, get_or-set_same es d y 0 he)

    below : (i : ℕ) → i < d → loop_in (set rs d r) (set ss d x) (set es d y) (d - suc i) ≡ loop_in rs ss es (d - suc i)
    below i h =
        let ne : d - suc i ≢ d = λ e. omega numbers in
        rw (get_or-set_other rs d (d - suc i) r 0 ne, get_or-set_other ss d (d - suc i) x 0 ne, get_or-set_other es d (d - suc i) y 0 ne)

-- ---- the way out
no-end : (own : List ℕ) (row : ℕ) → rows_of own ≤ row → matching_end (own_table own) row ≡ rows_of own
unfolding matching_end walk
no-end own row h = let z : rows_of own - suc row ≡ 0 = omega numbers in rw z

module _ (own : List ℕ) (here row : ℕ) {again : Bool} where
  pub way-again : again ≡ true → Some (here + 1) ≡ way_out own here row again
  unfolding way_out
  way-again e = rw (e, add-one here)

  pub way-past : again ≡ false → rows_of own ≤ row → None ≡ way_out own here row again
  unfolding way_out
  way-past e h = rw (e, no-end own row h, le-ltb (rows_of own) (rows_of own) (omega numbers))

  pub way-found : {q : ℕ} → again ≡ false → q ≡ matching_end (own_table own) row → q < rows_of own → Some (q + 1) ≡ way_out own here row again
  unfolding way_out
  way-found {q} e eq h = rw (e, ← eq, lt-ltb q (rows_of own) h, add-one q)

  pub way-lost : {q : ℕ} → again ≡ false → q ≡ matching_end (own_table own) row → rows_of own ≤ q → None ≡ way_out own here row again
  unfolding way_out
  way-lost {q} e eq h = rw (e, ← eq, le-ltb q (rows_of own) h)

abbrev Near : Option ℕ → Type 0
Near (Some q) = q ≤ 256
Near None = Unit {0}

module _ (own : List ℕ) (here row : ℕ) (again : Bool) (few : rows_of own ≤ 256) (low : here < 256) where
  near : Near (way_out own here row again)
  unfolding way_out
  near = by again
    where
      past : (b : Bool) → ltb (matching_end (own_table own) row) (rows_of own) ≡ b
          → Near (if b then Some (suc (matching_end (own_table own) row)) else None)
      past true e = let h : matching_end (own_table own) row < rows_of own = ltb-true _ _ e in omega numbers
      past false e = tt

      by : (g : Bool) → Near (way_out own here row g)
      by true = omega numbers
      by false = past (ltb (matching_end (own_table own) row) (rows_of own)) refl

  pub way-near : {x : Option ℕ} {q : ℕ} → x ≡ way_out own here row again → x ≡ Some q → q ≤ 256
  way-near e f = subst Near (sym e ∙ f) near

-- ---- loop entry
module _ (own stack : List ℕ) (m : Machine) (cells l : List ℕ) (row : ℕ) (c : Bool) (from upto depth : ℕ) (again : Bool) (at : ℕ)
    (fits : LoopFits own m.numbers m.row row depth) (hr : length m.loop_rows ≡ 8) (hs : length m.starts ≡ 8) (he : length m.ends ≡ 8) where
  abbrev a : ℕ
  a = (row_at (own_table own) row).a

  -- the iterator's number, and what the iterator gets
  abbrev v : ℕ
  v = iter_number (places_of own) c from

  abbrev iter : Value
  iter = iter_of (places_of own) c from

  -- the record with no more loops open than those around this one
  abbrev around : Machine
  around =
      columns m.row m.numbers m.bases depth m.loop_rows m.starts m.ends m.count m.firsts m.lengths m.shapes

  abbrev inside : State
  inside = with_var (own_state own stack around cells) a iter

  abbrev out : Work ℕ
  out = out_by again m.row (own_table own) row

  iter-form : form_of iter ≡ iter_form c
  iter-form = go c
    where
      go : (c : Bool) → form_of (iter_of (places_of own) c from) ≡ iter_form c
      go true = refl
      go false = refl

  module _ (e : fits_in own m.numbers a (iter_form c) ≡ true) where
    a-below : a < 32
    a-below = fits_below own m.numbers a (iter_form c) fits.decls e

    vars : own_vars own (set m.numbers a v) m.bases ≡ set (own_vars own m.numbers m.bases) a iter
    vars =
        let h : a < 32 = a-below in
        let k = fits.numbers in
        vars-iterator own m.numbers m.bases a v c e (omega numbers)
        ∙ ap (λ (x : Value). set (own_vars own m.numbers m.bases) a x) (go c)
      where
        go : (c : Bool) → (if c then Class (iter_number (places_of own) c from) else Uint (iter_number (places_of own) c from)) ≡ iter_of (places_of own) c from
        go true = refl
        go false = refl

    entered-state : own_state own stack (entered m a v row depth from upto) cells
        ≡ with_here inside (position (suc row) (opened row from upto ∷ inside.here.loops))
    entered-state =
        let d = fits.depth in
        rw (
          vars,
          add-one row,
          add-one depth,
          loops-push depth row from upto m.loop_rows m.starts m.ends (omega numbers) (omega numbers)
              (omega numbers),
        )

    exited-state : (q : ℕ) → own_state own stack (exited m a v depth q) cells ≡ go_to inside q
    exited-state q = rw vars

    leaves : Works own stack m cells l (leave_of (way_out own m.row row again) a v depth at) (next (out (drop at l)) (λ q. give (to (go_to inside q))))
    unfolding way_out move_out state_after CanDo
    leaves = by again
      where
        by_way : (q : ℕ) → q ≤ 256 → Works own stack m cells l (Moves (Leaves a v depth q) at) (gives (to (go_to inside q)) (drop at l))
        by_way q h = record { said = ap (λ (s : State). gives (to s) (drop at l)) (exited-state q); can = (a-below, h) }

        past : (b : Bool) → ltb (matching_end (own_table own) row) (rows_of own) ≡ b
            → Works own stack m cells l (leave_of (if b then Some (suc (matching_end (own_table own) row)) else None) a v depth at)
            (next ((if◌then◌else◌ {A = Work ℕ} b (give (suc (matching_end (own_table own) row))) wrong) (drop at l)) (λ q. give (to (go_to inside q))))
        past true u =
            let h : matching_end (own_table own) row < rows_of own = ltb-true _ _ u in
            let k = fits.rows in
            by_way (suc (matching_end (own_table own) row)) (omega numbers)
        past false u = works-stuck refl

        by : (g : Bool) → Works own stack m cells l (leave_of (way_out own m.row row g) a v depth at)
            (next (out_by g m.row (own_table own) row (drop at l)) (λ q. give (to (go_to inside q))))
        by true = by_way (suc m.row) fits.here
        by false = past (ltb (matching_end (own_table own) row) (rows_of own)) refl

  abbrev after : State → Work Move
  after s = if leb from upto then give (to (with_here s (position (suc row) (opened row from upto ∷ s.here.loops))))
      else (λ cs. next (out cs) (λ q. give (to (go_to s q))))

  abbrev entering : Out Move
  entering = enter (own_table own) (outer own stack m cells depth) row iter from upto out (drop at l)

  goes : fits_in own m.numbers a (iter_form c) ≡ true → (b : Bool)
      → Works own stack m cells l (if b then Moves (Enters a v row depth from upto) at else leave_of (way_out own m.row row again) a v depth at)
      ((if◌then◌else◌ {A = Work Move} b (give (to (with_here inside (position (suc row) (opened row from upto ∷ inside.here.loops)))))
      (λ cs. next (out cs) (λ q. give (to (go_to inside q))))) (drop at l))
  unfolding move_out state_after CanDo
  goes e true = record { said = ap (λ (s : State). gives (to s) (drop at l)) (entered-state e); can = (a-below e, fits.row, fits.depth) }
  goes e false = leaves e

  pub entry-works : Works own stack m cells l (entry_of own m.numbers m.row row c from upto depth again at) entering
  unfolding entry_of
  entry-works = by (fits_in own m.numbers a (iter_form c)) refl
    where
      by : (b : Bool) → fits_in own m.numbers a (iter_form c) ≡ b
          → Works own stack m cells l (if b then
          (if leb from upto then Moves (Enters a v row depth from upto) at else leave_of (way_out own m.row row again) a v depth at) else Not Stuck at)
          entering
      by true e = works-same (goes e (leb from upto)) (ap (λ (o : Out State). next o after)
          (sym (set_to own stack around cells a iter (drop at l) (λ q. fits.bools) (ap (fits_in own m.numbers a) iter-form ∙ e))))
      by false e = works-stuck (ap (λ (o : Out State). next o after)
          (sym (set-off own stack around cells a iter (drop at l) (λ q. fits.bools) (ap (fits_in own m.numbers a) iter-form ∙ e))))

-- with no choice taken, it is the loop of a row 38
pub entry-loops : (own stack : List ℕ) (m : Machine) (cells l : List ℕ) (row x y depth : ℕ) (again : Bool) (at : ℕ)
    → LoopFits own m.numbers m.row row depth → length m.loop_rows ≡ 8 → length m.starts ≡ 8 → length m.ends ≡ 8
    → Works own stack m cells l (entry_of own m.numbers m.row row false x y depth again at)
    (loop_at (places_of own) (own_table own) (outer own stack m cells depth) row loop x y (out_by again m.row (own_table own) row) (drop at l))
entry-loops own stack m cells l row x y depth again at fits hr hs he = entry-works own stack m cells l row false x y depth again at fits hr hs he

-- ---- the loop of a row: z is what it came to
module _ (own ns l : List ℕ) (here row x y depth : ℕ) (again : Bool) (at : ℕ) (fits : LoopFits own ns here row depth) where
  abbrev ps : List ℕ
  ps = places_of own

  pub loop-plain : {c : Bool} {z : Worked} → c ≡ false → z ≡ entry_of own ns here row false x y depth again at
      → LoopWorks own ns l here row c x y depth again at z
  loop-plain ec e = rw ec (record {
    loops = λ n count stack bs rows ss es fs ls hs cells hr hs' he.
        works-by (entry-loops own stack (columns here ns bs n rows ss es count fs ls hs) cells l row x y depth again at fits hr hs' he) e;
  })

  -- p is the choice in the class of the start, q the one in the class of the end
  module _ {c : Bool} (ec : c ≡ true) {k : ℕ} (ek : k ≡ class ps x) (p : Answer) (pp : Answers uint l p (choose (λ v. eqb (class ps v) k) (drop at l))) where
    abbrev on_end : State → ℕ → ℕ → Work Move
    on_end s v w = enter (own_table own) s row (Class (class ps v)) v w (out_by again here (own_table own) row)

    abbrev on_start : State → ℕ → Work Move
    on_start s v cs = next (choose (λ w. eqb (class ps w) (class ps y)) cs) (on_end s v)

    first-from : Answers uint l p (choose (λ v. eqb (class ps v) (class ps x)) (drop at l))
    first-from = rw ek at pp

    pub loop-first : {z : Worked} → OneOf (0 ∷ 2 ∷ 3 ∷ []) (tag_of answer p) → z ≡ lost_of p → LoopWorks own ns l here row c x y depth again at z
    loop-first h e = rw ec (record {
      loops = λ n count stack bs rows ss es fs ls hs cells hr hs' he.
          row-lost uint p (on_start (outer own stack (columns here ns bs n rows ss es count fs ls hs) cells depth)) first-from h e;
    })

    module _ {v nx : ℕ} (ep : p ≡ AUint v nx) {j : ℕ} (ej : j ≡ class ps y) (q : Answer)
        (pq : Answers uint l q (choose (λ w. eqb (class ps w) j) (drop nx l))) where
      second_from : Answers uint l q (choose (λ w. eqb (class ps w) (class ps y)) (drop nx l))
      second_from = rw ej at pq

      pub loop-second : {z : Worked} → OneOf (0 ∷ 2 ∷ 3 ∷ []) (tag_of answer q) → z ≡ lost_of q → LoopWorks own ns l here row c x y depth again at z
      loop-second h e = rw ec (record {
        loops = λ n count stack bs rows ss es fs ls hs cells hr hs' he.
            let s = outer own stack (columns here ns bs n rows ss es count fs ls hs) cells depth in
            row-uint p (on_start s) first-from ep (row-lost uint q (on_end s v) second_from h e);
      })

      pub loop-chosen : {z : Worked} {w last : ℕ} → q ≡ AUint w last → z ≡ entry_of own ns here row true v w depth again last
          → LoopWorks own ns l here row c x y depth again at z
      loop-chosen {w = w} {last} eq e = rw ec (record {
        loops = λ n count stack bs rows ss es fs ls hs cells hr hs' he.
            let m = columns here ns bs n rows ss es count fs ls hs in
            let s = outer own stack m cells depth in
            row-uint p (on_start s) first-from ep (row-uint q (on_end s v) second_from eq
            (works-by (entry-works own stack m cells l row true v w depth again last fits hr hs' he) e));
      })

-- ---- 38 and 42: x and y are what the operands gave
module _ (own stack l : List ℕ) (m : Machine) (cells : List ℕ) (class : Bool) (a b c at : ℕ) where
  abbrev on_both : Bool → ℕ → ℕ → Work Move
  on_both d v w = loop_at (places_of own) (own_table own) (own_state own stack m cells) m.row (loop_row d) v w (past_end (own_table own) m.row)

  abbrev on_first : Bool → ℕ → Work Move
  on_first d v cs = next (operand (lends own m cells) uint 1024 c cs) (on_both d v)

  by-open : (d : Bool) → next (operand (lends own m cells) uint 1024 b (drop at l)) (on_first d)
      ≡ row_rule (places_of own) (own_table own) (own_state own stack m cells) m.row (loop_row d) a b c (drop at l)
  unfolding row_rule operand
  by-open true = refl
  by-open false = refl

  module _ (x : Answer) (px : Answers uint l x (operand (lends own m cells) uint 1024 b (drop at l))) where
    pub open-first : {z : Worked} → OneOf (0 ∷ 2 ∷ 3 ∷ []) (tag_of answer x) → z ≡ lost_of x → RowWorks own stack m cells l (loop_row class) a b c (drop at l) z
    open-first h e = works-same (row-lost uint x (on_first class) px h e) (by-open class)

    module _ {v nx : ℕ} (ex : x ≡ AUint v nx) (y : Answer) (py : Answers uint l y (operand (lends own m cells) uint 1024 c (drop nx l))) where
      pub open-second : {z : Worked} → OneOf (0 ∷ 2 ∷ 3 ∷ []) (tag_of answer y) → z ≡ lost_of y
          → RowWorks own stack m cells l (loop_row class) a b c (drop at l) z
      open-second h e = works-same (row-uint x (on_first class) px ex (row-lost uint y (on_both class v) py h e)) (by-open class)

      pub open-both : {z : Worked} {w last : ℕ} → y ≡ AUint w last → Works own stack m cells l z (on_both class v w (drop last l))
          → RowWorks own stack m cells l (loop_row class) a b c (drop at l) z
      open-both ey h = works-same (row-uint x (on_first class) px ex (row-uint y (on_both class v) py ey h)) (by-open class)

-- ---- 39
abbrev pub is_loop : Row → Bool
is_loop skip = false
is_loop assign = false
is_loop store = false
is_loop assert = false
is_loop assume = false
is_loop array = false
is_loop loop = true
is_loop loop_end = false
is_loop reduced_store = false
is_loop reduced_array = false
is_loop class_loop = true
is_loop procedure = false
is_loop returns = false
is_loop call = false
is_loop no_row = false

-- a row that the code reads as no loop
pub no-loop : (r : RowName) (k : ℕ) → (r ≡ row_name.Loop → ⊥) → (r ≡ row_name.ClassLoop → ⊥) → row_said r ≡ row_kind k → is_loop (row_kind k) ≡ false
no-loop row_name.Skip k h g e = ap is_loop (sym e)
no-loop row_name.Assign k h g e = ap is_loop (sym e)
no-loop row_name.Store k h g e = ap is_loop (sym e)
no-loop row_name.Assert k h g e = ap is_loop (sym e)
no-loop row_name.Assume k h g e = ap is_loop (sym e)
no-loop row_name.Array k h g e = ap is_loop (sym e)
no-loop row_name.Loop k h g e = absurd (h refl)
no-loop row_name.LoopEnd k h g e = ap is_loop (sym e)
no-loop row_name.ReducedStore k h g e = ap is_loop (sym e)
no-loop row_name.ReducedArray k h g e = ap is_loop (sym e)
no-loop row_name.ClassLoop k h g e = absurd (g refl)
no-loop row_name.Procedure k h g e = ap is_loop (sym e)
no-loop row_name.Return k h g e = ap is_loop (sym e)
no-loop row_name.Call k h g e = ap is_loop (sym e)
no-loop row_name.Unknown k h g e = ap is_loop (sym e)

-- a loop's kind is not 0
pub loop-above : (class : Bool) {k : ℕ} → row_kind k ≡ loop_row class → k ≢ 0
unfolding row_kind
loop-above false e z = let q : no_row ≡ loop = rw z at e in absurd (let w : ◌≡◌ {A = ℕ} 0 1 = cc in omega numbers)
loop-above true e z = let q : no_row ≡ class_loop = rw z at e in absurd (let w : ◌≡◌ {A = ℕ} 0 1 = cc in omega numbers)

-- s is a state, and cs the choices left
module _ (ps : List ℕ) (t : Table) (s : State) (r x y : ℕ) (out : Work ℕ) (cs : List ℕ) where
  loop-none : (k : Row) → is_loop k ≡ false → stuck ≡ loop_at ps t s r k x y out cs
  loop-none skip h = refl
  loop-none assign h = refl
  loop-none store h = refl
  loop-none assert h = refl
  loop-none assume h = refl
  loop-none array h = refl
  loop-none loop h = absurd (false≢true (sym h))
  loop-none loop_end h = refl
  loop-none reduced_store h = refl
  loop-none reduced_array h = refl
  loop-none class_loop h = absurd (false≢true (sym h))
  loop-none procedure h = refl
  loop-none returns h = refl
  loop-none call h = refl
  loop-none no_row h = refl

-- the kind of a row, as the code reads it
pub kind-read : (own : List ℕ) (r : ℕ) {k : ℕ} → k ≡ get_or own (4 * (34 + 1024 + r) + 0) 0 → k ≡ (row_at (own_table own) r).kind
kind-read own r e = let q : 4 * (34 + 1024 + r) + 0 ≡ 4 * (34 + 1024 + r) = omega numbers in e ∙ ap (λ (i : ℕ). get_or own i 0) q

-- a row of a kind above 0 is one of the copy's
pub row-there : (own : List ℕ) (r : ℕ) {k : ℕ} → length own ≡ 5256 → k ≡ (row_at (own_table own) r).kind → 0 < k → r < 256
row-there own r long e h = elim (dec_le (length own) (4 * (34 + 1024 + r))) [
  | yes past ↦ let z : (row_at (own_table own) r).kind ≡ 0 = get_or-eq_default own 0 {n = 4 * (34 + 1024 + r)} past in absurd (omega (numbers, z, e, h))
  | no before ↦ omega numbers
]

-- what a further round of the innermost loop asks for
pub repeat-fits : (own : List ℕ) (m : Machine) → RepeatFits own m.numbers m.loop_rows m.starts m.ends m.row m.«open» → m.«open» ≢ 0 → {k : ℕ}
    → k ≡ get_or own (4 * (34 + 1024 + get_or m.loop_rows (m.«open» - 1) 0) + 0) 0 → (class : Bool) → row_kind k ≡ loop_row class
    → LoopFits own m.numbers m.row (get_or m.loop_rows (m.«open» - 1) 0) (m.«open» - 1)
repeat-fits own m fits some {k} read class is =
    let row : ℕ = get_or m.loop_rows (m.«open» - 1) 0 in
    let above = loop-above class is in
    record {
      decls = fits.decls;
      rows = fits.rows;
      here = fits.here;
      row = row-there own row fits.words (kind-read own row read) (omega (numbers, above));
      depth = omega (numbers, fits.loops, some);
      numbers = fits.numbers;
      bools = fits.bools;
    }

module _ (own stack l : List ℕ) (m : Machine) (cells : List ℕ) (a b c at : ℕ) where
  abbrev repeating : ℕ → Out Move
  repeating d = repeat_loop (places_of own) (own_table own) (own_state own stack m cells) (loops_of d m.loop_rows m.starts m.ends) (drop at l)

  by-repeat : repeating m.«open» ≡ row_rule (places_of own) (own_table own) (own_state own stack m cells) m.row loop_end a b c (drop at l)
  unfolding row_rule
  by-repeat = refl

  pub repeat-none : m.«open» ≡ 0 → RowWorks own stack m cells l loop_end a b c (drop at l) (Not Stuck at)
  unfolding loops_of tab listed
  repeat-none e = works-stuck (ap repeating (sym e) ∙ by-repeat)

  module _ (d : ℕ) (ed : m.«open» ≡ suc d) where
    abbrev row : ℕ
    row = get_or m.loop_rows d 0

    abbrev on_next : Row → ℕ → Work Move
    on_next k x = loop_at (places_of own) (own_table own) (outer own stack m cells d) row k x (get_or m.ends d 0) (give (suc m.row))

    abbrev kind : Row
    kind = row_kind (row_at (own_table own) row).kind

    by-split : next (next_start (get_or m.starts d 0) (drop at l)) (on_next kind)
        ≡ row_rule (places_of own) (own_table own) (own_state own stack m cells) m.row loop_end a b c (drop at l)
    by-split = sym (ap (λ (ls : List Loop). repeat_loop (places_of own) (own_table own) (own_state own stack m cells) ls (drop at l))
        (loops-split d m.loop_rows m.starts m.ends)) ∙ ap repeating (sym ed) ∙ by-repeat

    module _ (x : Answer) (px : Says uint at x (next_start (get_or m.starts d 0))) where
      added : Answers uint l x (next_start (get_or m.starts d 0) (drop at l))
      added = px.says l

      pub repeat-ends : {z : Worked} → OneOf (0 ∷ 2 ∷ 3 ∷ []) (tag_of answer x) → z ≡ lost_of x → RowWorks own stack m cells l loop_end a b c (drop at l) z
      repeat-ends h e = works-same (row-lost uint x (on_next kind) added h e) by-split

      module _ {v nx : ℕ} (ex : x ≡ AUint v nx) {k : ℕ} (ek : k ≡ get_or own (4 * (34 + 1024 + row) + 0) 0) where
        kind-is : row_kind k ≡ kind
        kind-is = ap row_kind (kind-read own row ek)

        pub repeat-loop : (class : Bool) {z : Worked} → row_kind k ≡ loop_row class → Works own stack m cells l z (on_next (loop_row class) v (drop nx l))
            → RowWorks own stack m cells l loop_end a b c (drop at l) z
        repeat-loop class e h =
            works-same (row-uint x (on_next kind) added ex (works-same h (ap (λ (u : Row). on_next u v (drop nx l)) (sym e ∙ kind-is)))) by-split

        pub repeat-other : is_loop (row_kind k) ≡ false → RowWorks own stack m cells l loop_end a b c (drop at l) (Not Stuck at)
        repeat-other h =
            works-same (row-uint x (on_next kind) added ex (works-stuck
            (loop-none (places_of own) (own_table own) (outer own stack m cells d) row v (get_or m.ends d 0) (give (suc m.row)) (drop nx l) kind
            (ap is_loop (sym kind-is) ∙ h)))) by-split
