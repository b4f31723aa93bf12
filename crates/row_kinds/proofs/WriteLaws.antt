-- Laws of rows 34 and 40, and of how a row goes on from an operand that gave a value, and ends with one that did not.
-- Assumes nothing.
use Prim.Native.Nat.{ℕ, ◌+◌}
use mathlib.Core.Path.{◌≡◌, refl, sym, ap, ◌∙◌}
use mathlib.Core.List.{List, [], ◌∷◌}
use mathlib.Core.Bool.{Bool, true, false}
use lib.ListN.{length, drop, set}
use lib.Dec.{ltb}
use borrow.Author.Tests.{ltb-true}
use types.Run.{OneOf}
use denote.Enum.Declared.{tag_of}
use Rattle.std.specs.Prelude.{if◌then◌else◌}
use Rattle.model.specs.Class.{class, tracked}
use Rattle.model.specs.Table.{Ty}
use Rattle.model.specs.Table.Ty.{uint, pointer}
use Rattle.model.specs.Work.{Out, Work, next, give, wrong, fail}
use Rattle.model.specs.Work.Out.{gives, fails}
use Rattle.model.specs.State.{Array, State}
use Rattle.model.specs.Eval.{Of, Ptr, ptr, array_of, size_of, keeps, index_of}
use Rattle.model.specs.Step.{Move, made, past, with_cell, put, row_rule}
use Rattle.model.specs.Step.Move.{to}
use Rattle.prepared.specs.Own.{places_of, own_table}
use Rattle.evaluators.specs.contracts.answers.Answer.{the_type as answer}
use Rattle.model.specs.Work.Reason.{past_length}
use Rattle.evaluators.specs.Reasons.{reason_of}
use Rattle.machine.specs.declared.Reason.{Reason}
use Rattle.machine.specs.declared.Failure.TheVariants.{Fails, Stuck}
use Rattle.evaluators.specs.declared.answers.Answer.{Answer}
use Rattle.evaluators.specs.declared.answers.Answer.TheVariants.{Uint as AUint, Pointer as APointer}
use Rattle.evaluators.specs.declared.arrays.Target.{Target}
use Rattle.evaluators.specs.declared.arrays.Target.TheVariants.{Array as To, Missing, Unknown}
use Rattle.evaluators.specs.CodeAnswers.{failed, out_of, Answers, operand}
use Rattle.prepared.specs.View.{arrays_of}
use Rattle.evaluators.specs.CodeLeaves.{target_out, Points}
use Rattle.machine.specs.declared.Machine.{Machine}
use Rattle.machine.specs.declared.Move.TheVariants.{Goes, Writes}
use Rattle.machine.specs.declared.Worked.{Worked}
use Rattle.machine.specs.declared.Worked.TheVariants.{Moves, Not}
use Rattle.machine.specs.View.{own_state}
use Rattle.machine.specs.CodeMoves.{state_after, move_out, CanDo, Works, RowWorks, store_row}
use Rattle.row_kinds.specs.CodeRows.{lost_of, cell_gets, place_gets, tracked_gets, target_gets}
use Rattle.row_kinds.proofs.PutLaws.{others_of, works-same, works-stuck, lost-works, state-passed, lends}

-- what the model's `reduced_write` (40) and `write` (34) do with the array r
abbrev store_in : Bool → List ℕ → State → ℕ → ℕ → Array → Work Move
store_in true ps s p x r = if ltb p r.len then (if keeps ps r p then put ps s r (index_of ps r p) x else give (to (past s))) else fail past_length
store_in false ps s p x r = if ltb p r.len then put ps s r p x else fail past_length

-- ---- what a row comes to
module _ {own stack : List ℕ} {m : Machine} {cells l : List ℕ} where
  pub works-fails : (why : Reason) {at : ℕ} {o : Out Move} → fails (reason_of why) (drop at l) ≡ o → Works own stack m cells l (Not (Fails why) at) o
  unfolding move_out CanDo failed
  works-fails why e = record { said = e; can = tt }

  -- it changes nothing but the row
  pub works-goes : {at : ℕ} {o : Out Move} → gives (to (past (own_state own stack m cells))) (drop at l) ≡ o → Works own stack m cells l (Moves Goes at) o
  unfolding move_out state_after CanDo
  works-goes {at} e = record { said = ap (λ (s : State). gives (to s) (drop at l)) (state-passed own stack m cells) ∙ e; can = tt }

  -- the same, said of what is equal
  pub works-by : {z y : Worked} {o : Out Move} → Works own stack m cells l z o → y ≡ z → Works own stack m cells l y o
  works-by h e = rw (sym e) at h

  -- one of two, by a test
  works-if : (b : Bool) {y z : Worked} (u w : Work Move) (cs : List ℕ) → Works own stack m cells l y (u cs) → Works own stack m cells l z (w cs)
      → Works own stack m cells l (if b then y else z) ((if b then u else w) cs)
  works-if true u w cs h g = h
  works-if false u w cs h g = g

  -- x is what an operand gave, o what it gives by definition, and z what its row comes to
  pub row-uint : (x : Answer) {o : Out ℕ} {v n : ℕ} {z : Worked} (k : ℕ → Work Move) → Answers uint l x o → x ≡ AUint v n
      → Works own stack m cells l z (k v (drop n l)) → Works own stack m cells l z (next o k)
  unfolding out_of
  row-uint x k p q h = works-same h (ap (λ (o : Out ℕ). next o k) (sym (ap (out_of uint l) q) ∙ p.said))

  row-pointer : (x : Answer) {o : Out Ptr} {r p n : ℕ} {z : Worked} (k : Ptr → Work Move) → Answers pointer l x o → x ≡ APointer r p n
      → Works own stack m cells l z (k (ptr r p) (drop n l)) → Works own stack m cells l z (next o k)
  unfolding out_of
  row-pointer x k p q h = works-same h (ap (λ (o : Out Ptr). next o k) (sym (ap (out_of pointer l) q) ∙ p.said))

  pub row-lost : (w : Ty) (x : Answer) {o : Out (Of w)} {z : Worked} (k : Of w → Work Move) → Answers w l x o
      → OneOf (others_of w) (tag_of answer x) → z ≡ lost_of x → Works own stack m cells l z (next o k)
  row-lost w x k p h e = works-by (lost-works w x k p h) e

-- ---- the write, in so many cells
module _ (own stack : List ℕ) (m : Machine) (cells l : List ℕ) {room : ℕ} (fits : length cells ≡ room) where
  abbrev state : State
  state = own_state own stack m cells

  cell-works : (r : Array) (i x at : ℕ)
      → Works own stack m cells l (cell_gets room r.start (size_of (places_of own) r) i x at) (put (places_of own) state r i x (drop at l))
  unfolding cell_gets move_out state_after CanDo
  cell-works r i x at = rw (← fits) (go (ltb i (size_of (places_of own) r)) (ltb (r.start + i) (length cells)) refl)
    where
      there : ℕ
      there = r.start + i

      go : (b d : Bool) → ltb there (length cells) ≡ d
          → Works own stack m cells l (if b then (if d then Moves (Writes there x) at else Not Stuck at) else Not Stuck at)
          ((if◌then◌else◌ {A = Work Move} b (if d then give (to (past (with_cell state there x))) else wrong) wrong) (drop at l))
      go true true e = record {
        said = ap (λ (s : State). gives (to s) (drop at l)) (state-passed own stack m (set cells there x));
        can = ltb-true there (length cells) e;
      }
      go true false e = works-stuck refl
      go false d e = works-stuck refl

  -- place p of an array gets x, by 40 or by 34
  place-works : (tracking : Bool) (start len : ℕ) (reduced : Bool) (p x at : ℕ)
      → Works own stack m cells l (place_gets tracking own room start len reduced p x at)
      (store_in tracking (places_of own) state p x (made start len reduced) (drop at l))
  unfolding place_gets tracked_gets
  place-works true start len true p x at = works-if (ltb p len) _ _ _
      (works-if (tracked (places_of own) p) _ _ _ (cell-works (made start len true) (class (places_of own) p) x at) (works-goes refl)) (works-fails _ refl)
  place-works true start len false p x at = works-if (ltb p len) _ _ _ (cell-works (made start len false) p x at) (works-fails _ refl)
  place-works false start len reduced p x at = works-if (ltb p len) _ _ _ (cell-works (made start len reduced) p x at) (works-fails _ refl)

  target-works : (tracking : Bool) (t : Target) (p x at : ℕ)
      → Works own stack m cells l (target_gets tracking own room t p x at) (next (target_out t (drop at l)) (store_in tracking (places_of own) state p x))
  unfolding target_out
  target-works tracking (To start len reduced) p x at = place-works tracking start len reduced p x at
  target-works tracking Missing p x at = works-fails _ refl
  target-works tracking Unknown p x at = works-stuck refl

  -- t is what a pointer to place p points to
  target_writes : (tracking : Bool) (t : Target) (r p x at : ℕ) → Points t (array_of (arrays_of m.count m.firsts m.lengths m.shapes) r)
      → Works own stack m cells l (target_gets tracking own room t p x at)
      (next (array_of (arrays_of m.count m.firsts m.lengths m.shapes) r (drop at l)) (store_in tracking (places_of own) state p x))
  target_writes tracking t r p x at e =
      works-same (target-works tracking t p x at) (ap (λ (o : Out Array). next o (store_in tracking (places_of own) state p x)) (e.found (drop at l)))

-- ---- the row: y and z are what its operands gave, w what it came to
module _ (own stack l : List ℕ) (m : Machine) (cells : List ℕ) (tracking : Bool) (a b c at : ℕ) where
  abbrev on_both : Bool → Ptr → ℕ → Work Move
  on_both d p x cs = next (array_of (arrays_of m.count m.firsts m.lengths m.shapes) p.array cs)
      (store_in d (places_of own) (own_state own stack m cells) p.place x)

  abbrev on_place : Bool → Ptr → Work Move
  on_place d p cs = next (operand (lends own m cells) uint 1024 b cs) (on_both d p)

  by-store : (d : Bool) → next (operand (lends own m cells) pointer 1024 a (drop at l)) (on_place d)
      ≡ row_rule (places_of own) (own_table own) (own_state own stack m cells) m.row (store_row d) a b c (drop at l)
  unfolding row_rule operand
  by-store true = refl
  by-store false = refl

  module _ (y : Answer) (py : Answers pointer l y (operand (lends own m cells) pointer 1024 a (drop at l))) where
    pub store-first : {w : Worked} → OneOf (0 ∷ 1 ∷ 3 ∷ []) (tag_of answer y) → w ≡ lost_of y
        → RowWorks own stack m cells l (store_row tracking) a b c (drop at l) w
    store-first h e = works-same (row-lost pointer y (on_place tracking) py h e) (by-store tracking)

    module _ {r p nx : ℕ} (ey : y ≡ APointer r p nx) (z : Answer) (pz : Answers uint l z (operand (lends own m cells) uint 1024 b (drop nx l))) where
      pub store-second : {w : Worked} → OneOf (0 ∷ 2 ∷ 3 ∷ []) (tag_of answer z) → w ≡ lost_of z
          → RowWorks own stack m cells l (store_row tracking) a b c (drop at l) w
      store-second h e = works-same (row-pointer y (on_place tracking) py ey (row-lost uint z (on_both tracking (ptr r p)) pz h e)) (by-store tracking)

      -- t is what the pointer points to
      pub store_both : {w : Worked} {x last room : ℕ} (t : Target) → length cells ≡ room → z ≡ AUint x last
          → Points t (array_of (arrays_of m.count m.firsts m.lengths m.shapes) r) → w ≡ target_gets tracking own room t p x last
          → RowWorks own stack m cells l (store_row tracking) a b c (drop at l) w
      store_both t fits ez pt e =
          works-same (row-pointer y (on_place tracking) py ey (row-uint z (on_both tracking (ptr r p)) pz ez
          (works-by (target_writes own stack m cells l fits tracking t r p _ _ pt) e))) (by-store tracking)
