-- Laws of recorded rows 34, 38 and 39: the numbers of a row's operands one after the other, then those of its own, and the place that the last
-- part of a row keeps.
-- Assumes nothing.
use Prim.Native.Nat.{ℕ, suc, ◌-◌, ◌+◌, ◌*◌}
use native.Mathlib.Omega.{arith as numbers}
use mathlib.Core.Path.{◌≡◌, refl, sym, ap, subst, ◌∙◌}
use mathlib.Core.Logic.{◌≢◌}
use mathlib.Core.Bool.{Bool, true, false, true≢false}
use mathlib.Core.List.{List, [], ◌∷◌, ◌++◌, append-nil}
use lib.ListN.{length, get_or, drop}
use lib.Seq.{drop-nil}
use lib.Dec.{ltb, leb}
use types.Run.{OneOf}
use denote.Enum.Declared.{tag_of}
use Rattle.std.specs.Prelude.{if◌then◌else◌}
use Rattle.std.specs.Prelude.{Option}
use Rattle.std.specs.Prelude.{Some, None}
use Rattle.model.specs.Table.{Table, Ty, row_at, row_kind, marked}
use Rattle.model.specs.Table.Ty.{uint, pointer}
use Rattle.model.specs.Table.Row.{store, loop, loop_end, class_loop}
use Rattle.kinds.specs.declared.line_kind.Row.{Row as RowName}
use Rattle.kinds.specs.declared.line_kind.Row.TheVariants as row_name
use Rattle.kinds.specs.Kinds.{row_said}
use Rattle.model.specs.Work.{Out, Work, give}
use Rattle.model.specs.State.{State}
use Rattle.model.specs.Eval.{Of, Ptr, ptr, next_start, array_of}
use Rattle.model.specs.Step.{Move, loop_at, past_end, node}
use Rattle.model.specs.Writer.{given, node_choices, repeat_choices, row_choices}
use Rattle.prepared.specs.Own.{places_of, own_table}
use Rattle.evaluators.specs.contracts.answers.Answer.{the_type as answer}
use Rattle.machine.specs.declared.Failure.TheVariants.{Fails, Stuck}
use Rattle.machine.specs.declared.Reason.TheVariants.{PastLength}
use Rattle.evaluators.specs.declared.answers.Answer.{Answer}
use Rattle.evaluators.specs.declared.answers.Answer.TheVariants.{Uint as AUint, Pointer as APointer}
use Rattle.evaluators.specs.declared.arrays.Target.{Target}
use Rattle.evaluators.specs.declared.arrays.Target.TheVariants.{Array as To, Missing, Unknown}
use Rattle.evaluators.specs.CodeAnswers.{Answers, Says, operand}
use Rattle.prepared.specs.View.{arrays_of}
use Rattle.evaluators.specs.CodeLeaves.{Points}
use Rattle.machine.specs.declared.Machine.{Machine}
use Rattle.machine.specs.declared.Move.TheVariants.{Writes, Enters}
use Rattle.machine.specs.declared.Worked.{Worked}
use Rattle.machine.specs.declared.Worked.TheVariants.{Moves, Not}
use Rattle.calls.specs.Stack.{loops_of}
use Rattle.machine.specs.View.{own_state}
use Rattle.machine.specs.CodeMoves.{outer, LoopFits, RepeatFits, Works}
use Rattle.row_kinds.specs.CodeRows.{lost_of, fits_in, size_for, cell_gets, place_gets, target_gets, iter_form, iter_number, way_out, leave_of, entry_of}
use Rattle.row_kinds.proofs.PutLaws.{lends, works-same}
use Rattle.row_kinds.proofs.WriteLaws.{works-by, store-first, store-second, store_both}
use Rattle.calls.proofs.StackLaws.{loops-split}
use Rattle.row_kinds.proofs.LoopLaws.{entry-loops, open-first, open-second, open-both, kind-read, no-loop}
use Rattle.row_kinds.proofs.LoopLaws.{repeat-fits, repeat-none, repeat-ends, repeat-loop, repeat-other}
use Rattle.recording.specs.CodePushes.{Pushed, pushed, push_all}
use Rattle.recording.specs.CodeRecords.{Plain, held_of, pair_of, ReachedBy, Records, Recorded}
use Rattle.recording_rows.specs.CodeMoves.{ReachedMove, RowRecords}
use Rattle.recording.proofs.PushLaws.{push-append}
use Rattle.recording_rows.proofs.RowLaws.{is_reduced, not-reduced}
use Rattle.recording.proofs.RecordLaws.{Gave, Lost, gave-uint, gave-pointer, lost-uint, lost-pointer, lost-given, says-next}
use Rattle.recording.proofs.NumberLaws.{row-numbers, row-operand}

-- ---- the last part of a row keeps the place
module _ (out : List ℕ) (at : ℕ) {p : Pushed ℕ} (h : pushed out at ≡ p) where
  cell-kept : (room start size i x : ℕ) → ReachedMove (cell_gets room start size i x at) out p
  unfolding cell_gets ReachedMove ReachedBy
  cell-kept room start size i x = go (ltb i size) (ltb (start + i) room)
    where
      go : (b d : Bool) → ReachedMove (if b then (if d then Moves (Writes (start + i) x) at else Not Stuck at) else Not Stuck at) out p
      go true true = h
      go true false = tt
      go false d = tt

  target-kept : (own : List ℕ) (room : ℕ) (t : Target) (i x : ℕ) → ReachedMove (target_gets false own room t i x at) out p
  unfolding place_gets ReachedMove ReachedBy
  target-kept own room (To start len reduced) i x = go (ltb i len)
    where
      go : (b : Bool) → ReachedMove (if b then cell_gets room start (size_for (places_of own) len reduced) i x at else Not (Fails PastLength) at) out p
      go true = cell-kept room start (size_for (places_of own) len reduced) i x
      go false = h
  target-kept own room Missing i x = h
  target-kept own room Unknown i x = tt

  leave-kept : (f : Option ℕ) (a v depth : ℕ) → ReachedMove (leave_of f a v depth at) out p
  unfolding ReachedMove ReachedBy
  leave-kept (Some next) a v depth = h
  leave-kept None a v depth = tt

  entry_kept : (own ns : List ℕ) (here row : ℕ) (c : Bool) (from upto depth : ℕ) (again : Bool)
      → ReachedMove (entry_of own ns here row c from upto depth again at) out p
  unfolding entry_of ReachedMove ReachedBy
  entry_kept own ns here row c from upto depth again = go (fits_in own ns a (iter_form c)) (leb from upto)
    where
      a : ℕ
      a = (row_at (own_table own) row).a

      v : ℕ
      v = iter_number (places_of own) c from

      go : (b d : Bool) → ReachedMove (if b then (if d then Moves (Enters a v row depth from upto) at else leave_of (way_out own here row again) a v depth at)
          else Not Stuck at) out p
      go true true = h
      go true false = leave-kept (way_out own here row again) a v depth
      go false d = tt

-- ---- the numbers xs of an operand that comes to o, then those that go with its value
lost-last : {A : Type 0} {o : Out A} {xs mid : List ℕ} {p : Pushed ℕ} {x : Answer} {z : Worked} → Lost o xs x mid p → z ≡ lost_of x
    → ReachedMove z mid (push_all xs p)
unfolding ReachedMove
lost-last h e = rw (e, h.is) h.reached

module _ {A : Type 0} {o : Out A} {xs mid : List ℕ} {p : Pushed ℕ} (g : A → List ℕ) where
  lost-move : {x : Answer} {z : Worked} → Lost o xs x mid p → z ≡ lost_of x → ReachedMove z mid (push_all (xs ++ given o g) p)
  lost-move h e = rw (lost-given h g, append-nil xs) (lost-last h e)

  gave-move : {a : A} {i : ℕ} (z : Worked) (new : List ℕ) → Gave o a xs mid i p → ReachedMove z new (push_all (g a) (pushed mid i))
      → ReachedMove z new (push_all (xs ++ given o g) p)
  gave-move {a} z new h r = subst (λ (y : Out A). ReachedMove z new (push_all (xs ++ given y g) p)) (sym h.gave)
      (subst (ReachedMove z new) (ap (push_all (g a)) h.reached ∙ sym (push-append xs (g a) p)) r)

-- with no choices, any place leaves none
any_place : {w : Ty} {x : Answer} (k : Work (Of w)) (i : ℕ) → Answers w [] x (k []) → Answers w [] x (k (drop i []))
any_place k i h = rw (drop-nil i) h

works-anywhere : {own stack : List ℕ} {m : Machine} {cells : List ℕ} {z : Worked} (k : Work Move) (i j : ℕ) → Works own stack m cells [] z (k (drop i []))
    → Works own stack m cells [] z (k (drop j []))
works-anywhere k i j h = works-same h (ap k (drop-nil i ∙ sym (drop-nil j)))

module _ (own : List ℕ) (m : Machine) (cells held : List ℕ) (plain : Plain own) (a b c : ℕ) (before : List ℕ) where
  abbrev T : Table
  T = own_table own

  abbrev S : List ℕ → State
  S stack = own_state own stack m cells

  abbrev ks : List Bool
  ks = held_of m.count held

  -- an operand, as the model says it
  as-node : (stack : List ℕ) (w : Ty) (n : ℕ) {x : Answer} {out : List ℕ} {p : Pushed ℕ} → Recorded w (lends own m cells) held 1024 n x out p
      → Records w (node [] T (S stack) w n []) (node_choices (pair_of own) T ks (S stack) w n) x out p
  as-node stack w n {x} {out} {p} h =
      subst (λ (k : Work (Of w)). Records w (k []) (node_choices (pair_of own) T ks (S stack) w n) x out p)
      (row-operand (lends own m cells) held (S stack) refl refl refl w n plain)
      (rw (row-numbers (lends own m cells) held (S stack) refl refl refl w n) at h)

  -- ---- row 34: x is what the pointer gave, y what the value gave
  abbrev on_pointer : List ℕ → Ptr → List ℕ
  on_pointer stack q = node_choices (pair_of own) T ks (S stack) uint b

  module _ (x : Answer) (mid : List ℕ) (hx : Recorded pointer (lends own m cells) held 1024 a x mid (pushed before 0)) where
    pub store-no-place : {z : Worked} → OneOf (0 ∷ 1 ∷ 3 ∷ []) (tag_of answer x) → z ≡ lost_of x → RowRecords own m cells held store a b c z before mid
    unfolding row_choices
    store-no-place t e = record {
      works = λ stack. store-first own stack [] m cells false a b c 0 x hx.value t e;
      numbers = λ stack. lost-move (on_pointer stack) (lost-pointer x mid (pushed before 0) (as-node stack pointer a hx) t) e;
    }

    module _ {to place i : ℕ} (ex : x ≡ APointer to place i) (y : Answer) (new : List ℕ)
        (hy : Recorded uint (lends own m cells) held 1024 b y new (pushed mid i)) where
      said : Answers uint [] y (operand (lends own m cells) uint 1024 b (drop i []))
      said = any_place (operand (lends own m cells) uint 1024 b) i hy.value

      pointed-at : (stack : List ℕ) → Gave (node [] T (S stack) pointer a []) (ptr to place) (node_choices (pair_of own) T ks (S stack) pointer a) mid i
          (pushed before 0)
      pointed-at stack = gave-pointer x mid (pushed before 0) (as-node stack pointer a hx) ex

      pub store-no-value : {z : Worked} → OneOf (0 ∷ 2 ∷ 3 ∷ []) (tag_of answer y) → z ≡ lost_of y → RowRecords own m cells held store a b c z before new
      unfolding row_choices
      store-no-value {z} t e = record {
        works = λ stack. store-second own stack [] m cells false a b c 0 x hx.value ex y said t e;
        numbers = λ stack. gave-move (on_pointer stack) z new (pointed-at stack) (lost-last (lost-uint y new (pushed mid i) (as-node stack uint b hy) t) e);
      }

      -- t is what the pointer points to
      pub store-recorded : (room : ℕ) (t : Target) {z : Worked} {v j : ℕ} → length cells ≡ room → y ≡ AUint v j
          → Points t (array_of (arrays_of m.count m.firsts m.lengths m.shapes) to) → z ≡ target_gets false own room t place v j
          → RowRecords own m cells held store a b c z before new
      unfolding row_choices
      store-recorded room t {z} {v} {j} fits ey pt e = record {
        works = λ stack. store_both own stack [] m cells false a b c 0 x hx.value ex y said t fits ey pt e;
        numbers = λ stack. gave-move (on_pointer stack) z new (pointed-at stack)
            (rw e (target-kept new j (gave-uint y new (pushed mid i) (as-node stack uint b hy) ey).reached own room t place v));
      }

  -- ---- row 38: x is what the start gave, y what the end gave
  abbrev bounds : ℕ → ℕ → ℕ → List ℕ
  bounds r v w = if marked own 2 (row_at T r).a then v ∷ w ∷ [] else []

  abbrev on_start : List ℕ → ℕ → List ℕ
  on_start stack v = node_choices (pair_of own) T ks (S stack) uint c ++ given (node [] T (S stack) uint c []) (bounds m.row v)

  module _ (x : Answer) (mid : List ℕ) (hx : Recorded uint (lends own m cells) held 1024 b x mid (pushed before 0)) where
    pub loop-no-start : {z : Worked} → OneOf (0 ∷ 2 ∷ 3 ∷ []) (tag_of answer x) → z ≡ lost_of x → RowRecords own m cells held loop a b c z before mid
    unfolding row_choices
    loop-no-start t e = record {
      works = λ stack. open-first own stack [] m cells false a b c 0 x hx.value t e;
      numbers = λ stack. lost-move (on_start stack) (lost-uint x mid (pushed before 0) (as-node stack uint b hx) t) e;
    }

    module _ {from i : ℕ} (ex : x ≡ AUint from i) (y : Answer) (new : List ℕ)
        (hy : Recorded uint (lends own m cells) held 1024 c y new (pushed mid i)) where
      end-said : Answers uint [] y (operand (lends own m cells) uint 1024 c (drop i []))
      end-said = any_place (operand (lends own m cells) uint 1024 c) i hy.value

      started : (stack : List ℕ) → Gave (node [] T (S stack) uint b []) from (node_choices (pair_of own) T ks (S stack) uint b) mid i (pushed before 0)
      started stack = gave-uint x mid (pushed before 0) (as-node stack uint b hx) ex

      pub loop-no-end : {z : Worked} → OneOf (0 ∷ 2 ∷ 3 ∷ []) (tag_of answer y) → z ≡ lost_of y → RowRecords own m cells held loop a b c z before new
      unfolding row_choices
      loop-no-end {z} t e = record {
        works = λ stack. open-second own stack [] m cells false a b c 0 x hx.value ex y end-said t e;
        numbers = λ stack. gave-move (on_start stack) z new (started stack)
            (lost-move (bounds m.row from) (lost-uint y new (pushed mid i) (as-node stack uint c hy) t) e);
      }

      pub loop-recorded : (last : List ℕ) (n : ℕ) {z : Worked} {upto j : ℕ} → LoopFits own m.numbers m.row m.row m.«open»
          → length m.loop_rows ≡ 8 → length m.starts ≡ 8 → length m.ends ≡ 8 → y ≡ AUint upto j
          → pushed last n ≡ push_all (bounds m.row from upto) (pushed new j)
          → z ≡ entry_of own m.numbers m.row m.row false from upto m.«open» false n
          → RowRecords own m cells held loop a b c z before last
      unfolding row_choices
      loop-recorded last n {z} {upto} {j} fits hr hs he ey h e = record {
        works = λ stack. open-both own stack [] m cells false a b c 0 x hx.value ex y end-said ey
            (works-by (works-anywhere (loop_at (places_of own) T (S stack) m.row loop from upto (past_end T m.row)) n j
            (entry-loops own stack m cells [] m.row from upto m.«open» false n fits hr hs he)) e);
        numbers = λ stack. gave-move (on_start stack) z last (started stack)
            (gave-move (bounds m.row from) z last (gave-uint y new (pushed mid i) (as-node stack uint c hy) ey)
            (rw e (entry_kept last n h own m.numbers m.row m.row false from upto m.«open» false)));
      }

  -- ---- row 39
  -- no loop is open
  pub repeat-nothing : m.«open» ≡ 0 → RowRecords own m cells held loop_end a b c (Not Stuck 0) before before
  unfolding ReachedMove ReachedBy
  repeat-nothing e = record { works = λ stack. repeat-none own stack [] m cells a b c 0 e; numbers = λ stack. tt }

  -- d loops are open around the innermost, and x is what its start and 1 came to
  module _ (d : ℕ) (ed : m.«open» ≡ suc d) (x : Answer) (px : Says uint 0 x (next_start (get_or m.starts d 0))) where
    abbrev row : ℕ
    row = get_or m.loop_rows d 0

    abbrev end : ℕ
    end = get_or m.ends d 0

    abbrev on_next : ℕ → List ℕ
    on_next v = bounds row v end

    next-start : Records uint (next_start (get_or m.starts d 0) []) [] x before (pushed before 0)
    next-start = says-next x 0 before (get_or m.starts d 0) px

    innermost : (stack : List ℕ)
        → given (next_start (get_or m.starts d 0) []) on_next ≡ row_choices (pair_of own) T ks (S stack) m.row loop_end a b c
    unfolding row_choices
    innermost stack = ap (repeat_choices (pair_of own) T ks (S stack)) (sym (loops-split d m.loop_rows m.starts m.ends))
        ∙ ap (λ (n : ℕ). repeat_choices (pair_of own) T ks (S stack) (loops_of n m.loop_rows m.starts m.ends)) (sym ed)

    pub repeat-no-start : {z : Worked} → OneOf (0 ∷ 2 ∷ 3 ∷ []) (tag_of answer x) → z ≡ lost_of x → RowRecords own m cells held loop_end a b c z before before
    repeat-no-start t e = record {
      works = λ stack. repeat-ends own stack [] m cells a b c 0 d ed x px t e;
      numbers = λ stack. rw (← innermost stack) (lost-move on_next (lost-uint x before (pushed before 0) next-start t) e);
    }

    module _ {from i : ℕ} (ex : x ≡ AUint from i) {k : ℕ} (ek : k ≡ get_or own (4 * (34 + 1024 + row) + 0) 0) where
      -- what entering it again asks for
      inner-fits : RepeatFits own m.numbers m.loop_rows m.starts m.ends m.row m.«open» → row_kind k ≡ loop → LoopFits own m.numbers m.row row d
      inner-fits f is =
          let back : m.«open» - 1 ≡ d = omega (numbers, ed) in
          let read : k ≡ get_or own (4 * (34 + 1024 + get_or m.loop_rows (m.«open» - 1) 0) + 0) 0
          = subst (λ (j : ℕ). k ≡ get_or own (4 * (34 + 1024 + get_or m.loop_rows j 0) + 0) 0) (sym back) ek in
          subst (λ (j : ℕ). LoopFits own m.numbers m.row (get_or m.loop_rows j 0) j) back
          (repeat-fits own m f (λ z. omega (numbers, ed, z)) read false is)

      pub repeat-recorded : (last : List ℕ) (n : ℕ) {z : Worked} → RepeatFits own m.numbers m.loop_rows m.starts m.ends m.row m.«open»
          → row_kind k ≡ loop → pushed last n ≡ push_all (on_next from) (pushed before 0)
          → z ≡ entry_of own m.numbers m.row row false from end d true n → RowRecords own m cells held loop_end a b c z before last
      repeat-recorded last n {z} f is h e = record {
        works = λ stack. repeat-loop own stack [] m cells a b c 0 d ed x px ex ek false is
            (works-by (works-anywhere (loop_at (places_of own) T (outer own stack m cells d) row loop from end (give (suc m.row))) n i
            (entry-loops own stack m cells [] row from end d true n
            (inner-fits f is) f.loop_rows f.starts f.ends)) e);
        numbers = λ stack. rw (← innermost stack, (gave-uint x before (pushed before 0) next-start ex).gave, e)
            (entry_kept last n h own m.numbers m.row row false from end d true);
      }

      -- its row opens no loop
      pub repeat-no-loop : (r : RowName) → row_said r ≡ row_kind k → r ≢ row_name.Loop → RowRecords own m cells held loop_end a b c (Not Stuck 0) before before
      unfolding ReachedMove ReachedBy
      repeat-no-loop r is h = record {
        works = λ stack. repeat-other own stack [] m cells a b c 0 d ed x px ex ek (no-loop r k h class is);
        numbers = λ stack. tt;
      }
        where
          class : r ≢ row_name.ClassLoop
          class i =
              let e : class_loop ≡ row_kind k = ap row_said (sym i) ∙ is in
              let q = kind-read own row ek in
              true≢false (ap is_reduced e ∙ not-reduced k (λ h. omega (numbers, plain.rows row (omega (numbers, q, h)), q)))
