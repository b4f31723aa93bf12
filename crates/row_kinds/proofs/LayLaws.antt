-- Laws of rows 37 and 41: the cells in use, the columns with one more array, and what the row comes to.
-- Assumes nothing.
use Prim.Native.Nat.{ℕ, zero, suc, ◌+◌, ◌<◌, ◌≤◌}
use native.Mathlib.Omega.{arith}
use native.Mathlib.Numerals.{add-one}
use mathlib.Core.Path.{◌≡◌, refl, sym, ap, ◌∙◌}
use mathlib.Core.Logic.{◌≢◌}
use mathlib.Core.List.{List, [], ◌∷◌, ◌++◌}
use mathlib.Core.Bool.{Bool, true, false, ◌||◌, true≢false}
use lib.ListN.{length, get_or, set, drop}
use lib.Seq.{get_or-set_same, get_or-set_other}
use lib.Dec.{ltb, leb, eqb}
use borrow.Author.Tests.{ltb-true, ltb-false, leb-false, le-leb, lt-leb}
use Rattle.std.specs.Prelude.{if◌then◌else◌}
use Rattle.lists.specs.Tab.{tab, sum}
use Rattle.lists.proofs.TabLaws.{tab-snoc, same-tab, tab-none, sum_more}
use Rattle.model.specs.Table.Ty.{uint}
use Rattle.model.specs.Table.Row.{array, reduced_array}
use Rattle.model.specs.Work.{Out, Work, next, give}
use Rattle.model.specs.Work.Out.{gives}
use Rattle.model.specs.State.{Value, Array, State}
use Rattle.model.specs.State.Value.{Pointer}
use Rattle.model.specs.Eval.{size_of, cells_laid}
use Rattle.model.specs.Step.{Move, cleared, made, past, with_var, with_array, add_array, new_array, row_rule}
use Rattle.model.specs.Step.End.{want_of_cells}
use Rattle.model.specs.Step.Move.{to, stop}
use Rattle.prepared.specs.View.{by_form, array_in, arrays_of}
use Rattle.prepared.specs.Own.{places_of, decls_of, own_form}
use Rattle.prepared.proofs.VarLaws.{vars-value}
use Rattle.machine.specs.declared.Failure.TheVariants.{Stuck}
use Rattle.evaluators.specs.declared.answers.Answer.{Answer}
use Rattle.evaluators.specs.CodeAnswers.{Answers, operand}
use Rattle.evaluators.proofs.ViewLaws.{count-arrays}
use Rattle.machine.specs.declared.Machine.{Machine}
use Rattle.machine.specs.declared.Move.TheVariants.{Lays}
use Rattle.machine.specs.declared.End.TheVariants.{WantOfCells}
use Rattle.machine.specs.declared.Worked.TheVariants.{Moves, Ends, Not}
use Rattle.machine.specs.View.{own_state}
use Rattle.machine.specs.CodeMoves.{with_laid, state_after, move_out, CanDo, Works, RowWorks}
use Rattle.row_kinds.specs.CodeRows.{fits_in, size_for, size_at, used_in, lacks_room, lay_of, laid_of}
use Rattle.row_kinds.proofs.PutLaws.{works-same, works-stuck, works-uint, fits_both, fits_below, held_pointer, set_to, set-off, lends}

-- ---- the cells in use
used-snoc : (ps : List ℕ) (rs : List Array) (r : Array) → cells_laid ps (rs ++ (r ∷ [])) ≡ cells_laid ps rs + size_of ps r
unfolding cells_laid
used-snoc ps [] r = omega arith
used-snoc ps (q ∷ rs) r = let e = used-snoc ps rs r in omega (arith, e)

pub used-is : (ps : List ℕ) (n : ℕ) (fs ls hs : List ℕ) → cells_laid ps (arrays_of n fs ls hs) ≡ used_in ps n ls hs
unfolding cells_laid used_in arrays_of sum
used-is ps zero fs ls hs = ap (cells_laid ps) (sym (tab-none (array_in fs ls hs) []))
used-is ps (suc n) fs ls hs =
    ap (cells_laid ps) (tab-snoc n (array_in fs ls hs)) ∙ used-snoc ps (tab n (array_in fs ls hs)) (array_in fs ls hs n)
    ∙ ap (λ (u : ℕ). u + size_at ps ls hs n) (used-is ps n fs ls hs)

pub used-none : (ps ls hs : List ℕ) → 0 ≡ used_in ps 0 ls hs
unfolding used_in sum
used-none ps ls hs = refl

pub used-more : (ps ls hs : List ℕ) (i : ℕ) {u s : ℕ} → u ≡ used_in ps i ls hs → s ≡ size_at ps ls hs i → u + s ≡ used_in ps (i + 1) ls hs
unfolding used_in
used-more ps ls hs i e q = rw (sum_more (size_at ps ls hs) i, e, q)

-- ---- room for one more array
module _ (count u size n : ℕ) where
  pub room-both : lacks_room count u size n ≡ false → (count < 16) × (u + size ≤ n)
  room-both h = go (leb 16 count) refl (ltb n (u + size)) refl h
    where
      go : (b : Bool) → leb 16 count ≡ b → (d : Bool) → ltb n (u + size) ≡ d → (b || d) ≡ false → (count < 16) × (u + size ≤ n)
      go true p d q h = absurd (true≢false h)
      go false p true q h = absurd (true≢false h)
      go false p false q h = (leb-false 16 count p, ltb-false n (u + size) q)

  -- the model's test
  room-is : (x y : Move) → (if leb 16 count then x else (if leb (u + size) n then y else x)) ≡ (if lacks_room count u size n then x else y)
  room-is x y = go (leb 16 count) (ltb n (u + size)) refl
    where
      go : (b d : Bool) → ltb n (u + size) ≡ d → (if b then x else (if leb (u + size) n then y else x)) ≡ (if b || d then x else y)
      go true d e = refl
      go false true e = rw (lt-leb (u + size) n (ltb-true n (u + size) e))
      go false false e = rw (le-leb (u + size) n (ltb-false n (u + size) e))

-- ---- one more array
module _ (n u len : ℕ) (fs ls hs : List ℕ) where
  arrays-push : (h : ℕ) → n < length fs → n < length ls → n < length hs
      → arrays_of (suc n) (set fs n u) (set ls n len) (set hs n h) ≡ arrays_of n fs ls hs ++ (made u len (eqb h 1) ∷ [])
  unfolding arrays_of
  arrays-push h hf hl hh =
      tab-snoc n (array_in (set fs n u) (set ls n len) (set hs n h))
      ∙ ap (λ (rs : List Array). rs ++ (array_in (set fs n u) (set ls n len) (set hs n h) n ∷ []))
      (same-tab n (array_in (set fs n u) (set ls n len) (set hs n h)) (array_in fs ls hs) below)
      ∙ ap (λ (r : Array). tab n (array_in fs ls hs) ++ (r ∷ [])) last
    where
      below : (i : ℕ) → i < n → array_in (set fs n u) (set ls n len) (set hs n h) i ≡ array_in fs ls hs i
      below i k =
          let ne : i ≢ n = λ e. omega arith in
          rw (get_or-set_other fs n i u 0 ne, get_or-set_other ls n i len 0 ne, get_or-set_other hs n i h 0 ne)

      last : array_in (set fs n u) (set ls n len) (set hs n h) n ≡ made u len (eqb h 1)
      last = rw (get_or-set_same fs n u 0 hf, get_or-set_same ls n len 0 hl, get_or-set_same hs n h 0 hh)

  -- ... of a shape
  arrays-more : (reduced : Bool) → n < length fs → n < length ls → n < length hs
      → arrays_of (n + 1) (set fs n u) (set ls n len) (set hs n (if reduced then 1 else 0)) ≡ arrays_of n fs ls hs ++ (made u len reduced ∷ [])
  arrays-more true hf hl hh = rw (add-one n) (arrays-push 1 hf hl hh)
  arrays-more false hf hl hh = rw (add-one n) (arrays-push 0 hf hl hh)

-- ---- what the row comes to, for columns of their lengths
module _ (own stack : List ℕ) (m : Machine) (cells l : List ℕ) (few : decls_of own ≤ 32) (long : length m.numbers ≡ 32) (wide : length m.bases ≡ 32)
    (firsts : length m.firsts ≡ 16) (lengths : length m.lengths ≡ 16) (shapes : length m.shapes ≡ 16) (reduced : Bool) (a : ℕ) where
  abbrev arrays : List Array
  arrays = arrays_of m.count m.firsts m.lengths m.shapes

  abbrev used : ℕ
  used = used_in (places_of own) m.count m.lengths m.shapes

  abbrev start : Value
  start = Pointer (suc (length arrays)) 0

  -- the state with the pointer set
  abbrev pointing : State
  pointing = with_var (own_state own stack m cells) a start

  module _ (len at : ℕ) where
    abbrev size : ℕ
    size = size_for (places_of own) len reduced

    abbrev lacking : Bool
    lacking = lacks_room m.count used size (length cells)

    added : add_array (places_of own) pointing len reduced
        ≡ (if lacking then stop want_of_cells else to (past (with_array (places_of own) pointing len reduced)))
    added =
        room-is (length arrays) (cells_laid (places_of own) arrays) size (length cells) (stop want_of_cells) on
        ∙ ap (λ (n : ℕ). if lacks_room n (cells_laid (places_of own) arrays) size (length cells) then stop want_of_cells else on)
        (count-arrays m.count m.firsts m.lengths m.shapes)
        ∙ ap (λ (u : ℕ). if lacks_room m.count u size (length cells) then stop want_of_cells else on)
        (used-is (places_of own) m.count m.firsts m.lengths m.shapes)
      where
        on : Move
        on = to (past (with_array (places_of own) pointing len reduced))

    module _ (e : fits_in own m.numbers a 3 ≡ true) where
      pointed : by_form (own_form own a) 0 (m.count + 1) ≡ start
      pointed =
          rw (
            held_pointer (own_form own a) (get_or m.numbers a 0) (fits_both own m.numbers a 3 e).1,
            count-arrays m.count m.firsts m.lengths m.shapes,
            add-one m.count,
          )

      state-laid : m.count < 16
          → own_state own stack (with_laid m a used len reduced) (cleared used size cells) ≡ past (with_array (places_of own) pointing len reduced)
      state-laid few' =
          let below : a < decls_of own = (fits_both own m.numbers a 3 e).0 in
          rw (
            add-one m.row,
            vars-value own m.numbers m.bases a start below 0 (m.count + 1) (omega arith) (omega arith) pointed,
            arrays-more m.count used len m.firsts m.lengths m.shapes reduced (omega arith) (omega arith) (omega arith),
            used-is (places_of own) m.count m.firsts m.lengths m.shapes,
          )

      room-works : (d : Bool) → lacking ≡ d
          → Works own stack m cells l (if d then Ends WantOfCells at else Moves (Lays a used len size reduced) at)
          (gives (if d then stop want_of_cells else to (past (with_array (places_of own) pointing len reduced))) (drop at l))
      unfolding move_out CanDo state_after
      room-works true q = record { said = refl; can = tt }
      room-works false q =
          let b = room-both m.count used size (length cells) q in
          record { said = ap (λ (s : State). gives (to s) (drop at l)) (state-laid b.0); can = (fits_below own m.numbers a 3 few e, b.0, b.1) }

    abbrev on_array : State → Work Move
    on_array s = give (add_array (places_of own) s len reduced)

    lay-works : Works own stack m cells l (lay_of own m.numbers m.lengths m.shapes m.count (length cells) reduced a len at)
        (new_array (places_of own) (own_state own stack m cells) a len reduced (drop at l))
    unfolding lay_of
    lay-works = go (fits_in own m.numbers a 3) refl
      where
        go : (b : Bool) → fits_in own m.numbers a 3 ≡ b
            → Works own stack m cells l (if b then (if lacking then Ends WantOfCells at else Moves (Lays a used len size reduced) at) else Not Stuck at)
            (new_array (places_of own) (own_state own stack m cells) a len reduced (drop at l))
        go true e =
            works-same (room-works e lacking refl)
            (ap (λ (o : Move). gives o (drop at l)) (sym added)
            ∙ sym (ap (λ (o : Out State). next o on_array) (set_to own stack m cells a start (drop at l) (λ q. absurd (omega arith)) e)))
        go false e =
            works-stuck (sym (ap (λ (o : Out State). next o on_array) (set-off own stack m cells a start (drop at l) (λ q. absurd (omega arith)) e)))

-- ---- 37 and 41
module _ (own stack : List ℕ) (m : Machine) (cells l : List ℕ) (few : decls_of own ≤ 32) (long : length m.numbers ≡ 32) (wide : length m.bases ≡ 32)
    (firsts : length m.firsts ≡ 16) (lengths : length m.lengths ≡ 16) (shapes : length m.shapes ≡ 16) (a b c : ℕ) (cs : List ℕ) (x : Answer)
    (p : Answers uint l x (operand (lends own m cells) uint 1024 b cs)) where
  laid-works : (reduced : Bool)
      → Works own stack m cells l (laid_of own m.numbers m.lengths m.shapes m.count (length cells) reduced a x)
      (next (operand (lends own m cells) uint 1024 b cs) (λ len. new_array (places_of own) (own_state own stack m cells) a len reduced))
  laid-works reduced = works-uint x _ _ p (lay-works own stack m cells l few long wide firsts lengths shapes reduced a)

  pub lays-plain : RowWorks own stack m cells l array a b c cs (laid_of own m.numbers m.lengths m.shapes m.count (length cells) false a x)
  unfolding row_rule operand
  lays-plain = laid-works false

  pub lays-reduced : RowWorks own stack m cells l reduced_array a b c cs (laid_of own m.numbers m.lengths m.shapes m.count (length cells) true a x)
  unfolding row_rule operand
  lays-reduced = laid-works true
