-- Laws of what a row comes to by its operand's answer, of a variable that gets a value, and of rows 33, 35 and 36.
-- Assumes nothing.
use Prim.Native.Nat.{ℕ, ◌<◌, ◌≤◌}
use native.Mathlib.Omega.{arith}
use native.Mathlib.Numerals.{add-one}
use mathlib.Core.Path.{◌≡◌, refl, sym, ap, ◌∙◌, subst}
use mathlib.Core.Logic.{◌≢◌}
use mathlib.Core.List.{List, [], ◌∷◌}
use mathlib.Core.Bool.{Bool, true, false, ◌&&◌, false≢true}
use lib.ListN.{length, get_or, set, drop}
use lib.Dec.{ltb, leb, eqb}
use borrow.Author.Tests.{ltb-true, ltb-false, leb-false, lt-ltb, le-ltb, eqb-true, ne_eqb}
use types.Run.{OneOf, miss}
use denote.Enum.Declared.{tag_of}
use Rattle.std.specs.Prelude.{if◌then◌else◌}
use Rattle.model.specs.Table.{Ty, type_of, type_at}
use Rattle.model.specs.Table.Ty.{bool, uint, pointer}
use Rattle.model.specs.Table.Row.{assign, assert, assume}
use Rattle.model.specs.Work.{Out, Work, next, give}
use Rattle.model.specs.Work.Out.{gives, stuck}
use Rattle.model.specs.State.{Value, State, form_of}
use Rattle.model.specs.State.Value.{Truth, Uint, Class, Pointer}
use Rattle.model.specs.Eval.{Of, Ptr, ptr, value}
use Rattle.model.specs.Step.{Move, past, with_var, set_var, row_rule}
use Rattle.model.specs.Step.End.{assert_false, assume_false}
use Rattle.model.specs.Step.Move.{to, stop}
use Rattle.prepared.specs.declared.Form.{Form}
use Rattle.prepared.specs.declared.Form.TheVariants.{Bool as FBool, Uint as FUint, Class as FClass, Pointer as FPointer}
use Rattle.prepared.specs.View.{by_form}
use Rattle.prepared.specs.Own.{places_of, decls_of, own_form, own_table, own_vars}
use Rattle.prepared.proofs.VarLaws.{vars-value, vars-number}
use Rattle.evaluators.specs.contracts.answers.Answer.{the_type as answer}
use Rattle.machine.specs.declared.Failure.{Failure}
use Rattle.machine.specs.declared.Failure.TheVariants.{Stuck}
use Rattle.evaluators.specs.declared.answers.Answer.{Answer}
use Rattle.evaluators.specs.declared.answers.Answer.TheVariants.{Bool as ABool, Uint as AUint, Pointer as APointer, Not as NoValue}
use Rattle.evaluators.specs.CodeAnswers.{failed, out_of, OfType, Answers, Lent, lent, operand}
use Rattle.evaluators.proofs.AnswerLaws.{failed-next}
use Rattle.evaluators.proofs.ViewLaws.{var-in, var-out}
use Rattle.machine.specs.declared.Machine.{Machine}
use Rattle.machine.specs.declared.Move.TheVariants.{Goes, Puts}
use Rattle.machine.specs.declared.End.TheVariants.{AssertFalse, AssumeFalse}
use Rattle.machine.specs.declared.Worked.{Worked}
use Rattle.machine.specs.declared.Worked.TheVariants.{Moves, Ends, Not}
use Rattle.machine.specs.View.{own_state}
use Rattle.machine.specs.CodeMoves.{with_value, passed, state_after, move_out, CanDo, Works, RowWorks, BoolsFit}
use Rattle.row_kinds.specs.CodeRows.{lost_of, on_bool, on_uint, on_pointer, held_form, fits_in, put_of, put_bool, put_uint, put_pointer, tested_of}
use Rattle.row_kinds.specs.CodeRows.{iter_form}

-- ---- answers by their tags: a value of the type that a row takes, or a row that loses its operand
pub lost-value : (x : Answer) → OneOf (0 ∷ 1 ∷ 2 ∷ []) (tag_of answer x) → Not Stuck 0 ≡ lost_of x
lost-value (ABool b at) h = refl
lost-value (AUint x at) h = refl
lost-value (APointer r p at) h = refl
lost-value (NoValue why at) h = absurd (miss (0 ∷ 1 ∷ 2 ∷ []) 3 tt h)

pub lost-bool : (k : Bool → ℕ → Worked) (x : Answer) → OneOf (1 ∷ 2 ∷ 3 ∷ []) (tag_of answer x) → lost_of x ≡ on_bool k x
unfolding on_bool
lost-bool k (ABool b at) h = absurd (miss (1 ∷ 2 ∷ 3 ∷ []) 0 tt h)
lost-bool k (AUint x at) h = refl
lost-bool k (APointer r p at) h = refl
lost-bool k (NoValue why at) h = refl

pub lost-uint : (k : ℕ → ℕ → Worked) (x : Answer) → OneOf (0 ∷ 2 ∷ 3 ∷ []) (tag_of answer x) → lost_of x ≡ on_uint k x
unfolding on_uint
lost-uint k (ABool b at) h = refl
lost-uint k (AUint x at) h = absurd (miss (0 ∷ 2 ∷ 3 ∷ []) 1 tt h)
lost-uint k (APointer r p at) h = refl
lost-uint k (NoValue why at) h = refl

pub lost-pointer : (k : ℕ → ℕ → ℕ → Worked) (x : Answer) → OneOf (0 ∷ 1 ∷ 3 ∷ []) (tag_of answer x) → lost_of x ≡ on_pointer k x
unfolding on_pointer
lost-pointer k (ABool b at) h = refl
lost-pointer k (AUint x at) h = refl
lost-pointer k (APointer r p at) h = absurd (miss (0 ∷ 1 ∷ 3 ∷ []) 2 tt h)
lost-pointer k (NoValue why at) h = refl

-- the tags of the answers that give no value of a type
abbrev pub others_of : Ty → List ℕ
others_of bool = 1 ∷ 2 ∷ 3 ∷ []
others_of uint = 0 ∷ 2 ∷ 3 ∷ []
others_of pointer = 0 ∷ 1 ∷ 3 ∷ []

-- ---- what a row comes to
module _ {own stack : List ℕ} {m : Machine} {cells l : List ℕ} where
  pub works-same : {r : Worked} {o p : Out Move} → Works own stack m cells l r o → o ≡ p → Works own stack m cells l r p
  works-same h e = record { said = h.said ∙ e; can = h.can }

  pub works-stuck : {at : ℕ} {o : Out Move} → stuck ≡ o → Works own stack m cells l (Not Stuck at) o
  unfolding move_out CanDo failed
  works-stuck e = record { said = e; can = tt }

  pub lost-not : (w : Ty) (why : Failure) (at : ℕ) {o : Out (Of w)} (j : Of w → Work Move) → Answers w l (NoValue why at) o
      → Works own stack m cells l (Not why at) (next o j)
  unfolding move_out CanDo out_of
  lost-not w why at j p = record { said = failed-next l at why j ∙ ap (λ (o : Out (Of w)). next o j) p.said; can = tt }

  -- x is what the operand gave, o what it gives by definition, and j how the row goes on by definition
  pub lost-works : (w : Ty) (x : Answer) {o : Out (Of w)} (j : Of w → Work Move) → Answers w l x o → OneOf (others_of w) (tag_of answer x)
      → Works own stack m cells l (lost_of x) (next o j)
  unfolding OfType
  lost-works w (NoValue why at) j p h = lost-not w why at j p
  lost-works bool (ABool b at) j p h = absurd (miss (others_of bool) 0 tt h)
  lost-works bool (AUint v at) j p h = absurd p.typed
  lost-works bool (APointer r v at) j p h = absurd p.typed
  lost-works uint (ABool b at) j p h = absurd p.typed
  lost-works uint (AUint v at) j p h = absurd (miss (others_of uint) 1 tt h)
  lost-works uint (APointer r v at) j p h = absurd p.typed
  lost-works pointer (ABool b at) j p h = absurd p.typed
  lost-works pointer (AUint v at) j p h = absurd p.typed
  lost-works pointer (APointer r v at) j p h = absurd (miss (others_of pointer) 2 tt h)

  -- ... and k how the code goes on
  pub works-bool : (x : Answer) {o : Out Bool} (k : Bool → ℕ → Worked) (j : Bool → Work Move) → Answers bool l x o
      → ((b : Bool) (at : ℕ) → Works own stack m cells l (k b at) (j b (drop at l))) → Works own stack m cells l (on_bool k x) (next o j)
  unfolding out_of OfType on_bool
  works-bool (ABool b at) k j p h = works-same (h b at) (ap (λ (o : Out Bool). next o j) p.said)
  works-bool (AUint v at) k j p h = absurd p.typed
  works-bool (APointer r v at) k j p h = absurd p.typed
  works-bool (NoValue why at) k j p h = lost-not bool why at j p

  pub works-uint : (x : Answer) {o : Out ℕ} (k : ℕ → ℕ → Worked) (j : ℕ → Work Move) → Answers uint l x o
      → ((v at : ℕ) → Works own stack m cells l (k v at) (j v (drop at l))) → Works own stack m cells l (on_uint k x) (next o j)
  unfolding out_of OfType on_uint
  works-uint (ABool b at) k j p h = absurd p.typed
  works-uint (AUint v at) k j p h = works-same (h v at) (ap (λ (o : Out ℕ). next o j) p.said)
  works-uint (APointer r v at) k j p h = absurd p.typed
  works-uint (NoValue why at) k j p h = lost-not uint why at j p

  pub works-pointer : (x : Answer) {o : Out Ptr} (k : ℕ → ℕ → ℕ → Worked) (j : Ptr → Work Move) → Answers pointer l x o
      → ((r v at : ℕ) → Works own stack m cells l (k r v at) (j (ptr r v) (drop at l))) → Works own stack m cells l (on_pointer k x) (next o j)
  unfolding out_of OfType on_pointer
  works-pointer (ABool b at) k j p h = absurd p.typed
  works-pointer (AUint v at) k j p h = absurd p.typed
  works-pointer (APointer r v at) k j p h = works-same (h r v at) (ap (λ (o : Out Ptr). next o j) p.said)
  works-pointer (NoValue why at) k j p h = lost-not pointer why at j p

-- ---- what a variable that takes a value of the form k is
module _ (own ns : List ℕ) (a k : ℕ) where
  pub fits_both : fits_in own ns a k ≡ true → (a < decls_of own) × (held_form (own_form own a) (get_or ns a 0) ≡ k)
  unfolding fits_in
  fits_both e = go (ltb a (decls_of own)) refl (eqb (held_form (own_form own a) (get_or ns a 0)) k) refl e
    where
      go : (b : Bool) → ltb a (decls_of own) ≡ b → (d : Bool) → eqb (held_form (own_form own a) (get_or ns a 0)) k ≡ d → (b && d) ≡ true
          → (a < decls_of own) × (held_form (own_form own a) (get_or ns a 0) ≡ k)
      go true u true v e = (ltb-true a (decls_of own) u, eqb-true (held_form (own_form own a) (get_or ns a 0)) k v)
      go true u false v e = absurd (false≢true e)
      go false u d v e = absurd (false≢true e)

  pub fits_below : decls_of own ≤ 32 → fits_in own ns a k ≡ true → a < 32
  fits_below few e = let b : a < decls_of own = (fits_both e).0 in omega arith

  pub fits_out : decls_of own ≤ a → false ≡ fits_in own ns a k
  unfolding fits_in
  fits_out h = rw (le-ltb a (decls_of own) h)

  pub fits-there : a < decls_of own → {s : Form} {x : ℕ} → s ≡ own_form own a → x ≡ held_form s (get_or ns a 0) → eqb x k ≡ fits_in own ns a k
  unfolding fits_in
  fits-there h e q = rw (lt-ltb a (decls_of own) h, q, e)

flag_small : (b : Bool) → (if b then 1 else 0) ≤ 1
flag_small true = omega arith
flag_small false = omega arith

held-bool : (s : Form) (x : ℕ) → held_form s x ≡ 1 → s ≡ FBool
held-bool FBool x e = refl
held-bool FUint x e = absurd (omega arith)
held-bool FClass x e = absurd (omega arith)
held-bool FPointer x e = absurd (omega arith)

pub held-uint : (s : Form) (x : ℕ) → held_form s x ≡ 2 → s ≡ FUint
held-uint FBool x e = let h : held_form FBool x ≤ 1 = flag_small (leb x 1) in absurd (omega arith)
held-uint FUint x e = refl
held-uint FClass x e = absurd (omega arith)
held-uint FPointer x e = absurd (omega arith)

pub held_pointer : (s : Form) (x : ℕ) → held_form s x ≡ 3 → s ≡ FPointer
held_pointer FBool x e = let h : held_form FBool x ≤ 1 = flag_small (leb x 1) in absurd (omega arith)
held_pointer FUint x e = absurd (omega arith)
held_pointer FClass x e = absurd (omega arith)
held_pointer FPointer x e = refl

pub held-class : (s : Form) (x : ℕ) → held_form s x ≡ 4 → s ≡ FClass
held-class FBool x e = let h : held_form FBool x ≤ 1 = flag_small (leb x 1) in absurd (omega arith)
held-class FUint x e = absurd (omega arith)
held-class FClass x e = refl
held-class FPointer x e = absurd (omega arith)

-- ---- an iterator, which keeps its base
pub vars-iterator : (own ns bs : List ℕ) (a x : ℕ) (c : Bool) → fits_in own ns a (iter_form c) ≡ true → a < length ns
    → own_vars own (set ns a x) bs ≡ set (own_vars own ns bs) a (if c then Class x else Uint x)
vars-iterator own ns bs a x true e h =
    let b = fits_both own ns a 4 e in
    vars-number own ns bs a (Class x) b.0 x h (rw (held-class (own_form own a) (get_or ns a 0) b.1))
vars-iterator own ns bs a x false e h =
    let b = fits_both own ns a 2 e in
    vars-number own ns bs a (Uint x) b.0 x h (rw (held-uint (own_form own a) (get_or ns a 0) b.1))

-- ---- a variable gets a value of the form that it holds, and no other
same-form : (s : Form) (x y : ℕ) (v : Value) → (form_of v ≡ 2 → s ≡ FBool → x ≤ 1) → eqb (form_of v) (form_of (by_form s x y)) ≡ eqb (held_form s x) (form_of v)
same-form FBool x y v small = go (leb x 1) refl v small
  where
    go : (b : Bool) → leb x 1 ≡ b → (v : Value) → (form_of v ≡ 2 → FBool ≡ FBool → x ≤ 1)
        → eqb (form_of v) (form_of (if b then Truth (eqb x 1) else Uint x)) ≡ eqb (if b then 1 else 0) (form_of v)
    go true e (Truth d) small = refl
    go true e (Uint k) small = refl
    go true e (Class k) small = refl
    go true e (Pointer r p) small = refl
    go false e (Truth d) small = refl
    go false e (Uint k) small = let u : x ≤ 1 = small refl refl in let g : 1 < x = leb-false x 1 e in absurd (omega arith)
    go false e (Class k) small = refl
    go false e (Pointer r p) small = refl
same-form FUint x y (Truth d) small = refl
same-form FUint x y (Uint k) small = refl
same-form FUint x y (Class k) small = refl
same-form FUint x y (Pointer r p) small = refl
same-form FClass x y (Truth d) small = refl
same-form FClass x y (Uint k) small = refl
same-form FClass x y (Class k) small = refl
same-form FClass x y (Pointer r p) small = refl
same-form FPointer x y (Truth d) small = refl
same-form FPointer x y (Uint k) small = refl
same-form FPointer x y (Class k) small = refl
same-form FPointer x y (Pointer r p) small = refl

module _ (own stack : List ℕ) (m : Machine) (cells : List ℕ) (a : ℕ) (v : Value) (cs : List ℕ) (bools : form_of v ≡ 2 → BoolsFit own m.numbers) where
  set_is : set_var (own_state own stack m cells) a v cs
      ≡ (if fits_in own m.numbers a (form_of v) then gives (with_var (own_state own stack m cells) a v) cs else stuck)
  unfolding fits_in
  set_is = go (ltb a (decls_of own)) refl
    where
      held : ℕ
      held = held_form (own_form own a) (get_or m.numbers a 0)

      choice : (b : Bool) → (if◌then◌else◌ {A = Work State} b (give (with_var (own_state own stack m cells) a v)) (λ cs. stuck)) cs
          ≡ (if b then gives (with_var (own_state own stack m cells) a v) cs else stuck)
      choice true = refl
      choice false = refl

      go : (b : Bool) → ltb a (decls_of own) ≡ b
          → set_var (own_state own stack m cells) a v cs ≡ (if b && eqb held (form_of v) then gives (with_var (own_state own stack m cells) a v) cs else stuck)
      go true u =
          let below : a < decls_of own = ltb-true a (decls_of own) u in
          rw (
            var-in own m.numbers m.bases a below cs,
            same-form (own_form own a) (get_or m.numbers a 0) (get_or m.bases a 0) v (λ q s. (bools q).small a below s),
          ) (choice (eqb held (form_of v)))
      go false u = rw (var-out own m.numbers m.bases a (ltb-false a (decls_of own) u) cs)

  pub set_to : fits_in own m.numbers a (form_of v) ≡ true → set_var (own_state own stack m cells) a v cs ≡ gives (with_var (own_state own stack m cells) a v) cs
  set_to e = set_is ∙ rw e

  pub set-off : fits_in own m.numbers a (form_of v) ≡ false → set_var (own_state own stack m cells) a v cs ≡ stuck
  set-off e = set_is ∙ rw e

-- ---- the record as it goes on
module _ (own stack : List ℕ) (m : Machine) (cells : List ℕ) where
  pub state-passed : own_state own stack (passed m) cells ≡ past (own_state own stack m cells)
  state-passed = rw add-one

  pub state-value : (a x base : ℕ) (v : Value) → a < decls_of own → a < length m.numbers → a < length m.bases → by_form (own_form own a) x base ≡ v
      → own_state own stack (with_value m a x base) cells ≡ past (with_var (own_state own stack m cells) a v)
  state-value a x base v h hn hb e = rw (add-one, vars-value own m.numbers m.bases a v h x base hn hb e)

-- what a row's operands are worked out from
abbrev pub lends : List ℕ → Machine → List ℕ → Lent
lends own m cells = lent own m.count m.numbers m.bases m.firsts m.lengths m.shapes cells

-- ---- 33
-- the type of a declaration, by its kind
module _ (own stack : List ℕ) (m : Machine) (cells l : List ℕ) (few : decls_of own ≤ 32) (long : length m.numbers ≡ 32) (wide : length m.bases ≡ 32)
    (a b c : ℕ) (cs : List ℕ) (x : Answer) where
  -- variable a gets v, and the row goes on
  abbrev settled : Value → Work Move
  settled v cs = next (set_var (own_state own stack m cells) a v cs) (λ s'. give (to (past s')))

  put-works : (v : Value) (n base at : ℕ) → (fits_in own m.numbers a (form_of v) ≡ true → by_form (own_form own a) n base ≡ v)
      → (form_of v ≡ 2 → BoolsFit own m.numbers) → Works own stack m cells l (put_of own m.numbers a (form_of v) n base at) (settled v (drop at l))
  unfolding put_of move_out CanDo state_after
  put-works v n base at is bools = go (fits_in own m.numbers a (form_of v)) refl
    where
      go : (b : Bool) → fits_in own m.numbers a (form_of v) ≡ b
          → Works own stack m cells l (if b then Moves (Puts a n base) at else Not Stuck at) (settled v (drop at l))
      go true e =
          let below : a < decls_of own = (fits_both own m.numbers a (form_of v) e).0 in
          record {
            said = ap (λ (s : State). gives (to s) (drop at l)) (state-value own stack m cells a n base v below (omega arith) (omega arith) (is e))
                ∙ sym (ap (λ (o : Out State). next o (λ s'. give (to (past s')))) (set_to own stack m cells a v (drop at l) bools e));
            can = fits_below own m.numbers a (form_of v) few e;
          }
      go false e = works-stuck (sym (ap (λ (o : Out State). next o (λ s'. give (to (past s')))) (set-off own stack m cells a v (drop at l) bools e)))

  abbrev ruled : Out Move
  ruled = row_rule (places_of own) (own_table own) (own_state own stack m cells) m.row assign a b c cs

  by-type : (w : Ty) → type_at (own_table own) a ≡ w → next (operand (lends own m cells) w 1024 b cs) (λ y. settled (value w y)) ≡ ruled
  unfolding row_rule operand
  by-type w e = subst (λ (w : Ty). next (operand (lends own m cells) w 1024 b cs) (λ y. settled (value w y)) ≡ ruled) e refl

  held_by : (k : ℕ) → fits_in own m.numbers a k ≡ true → held_form (own_form own a) (get_or m.numbers a 0) ≡ k
  held_by k e = (fits_both own m.numbers a k e).1

  pub puts-bool : type_at (own_table own) a ≡ bool → Answers bool l x (operand (lends own m cells) bool 1024 b cs)
      → RowWorks own stack m cells l assign a b c cs (put_bool own m.numbers a x)
  puts-bool e p = works-same (works-bool x _ (λ y. settled (Truth y)) p each) (by-type bool e)
    where
      truth : (y : Bool) → by_form FBool (if y then 1 else 0) 0 ≡ Truth y
      truth true = refl
      truth false = refl

      each : (y : Bool) (at : ℕ) → Works own stack m cells l (put_of own m.numbers a 1 (if y then 1 else 0) 0 at) (settled (Truth y) (drop at l))
      each y at = put-works (Truth y) (if y then 1 else 0) 0 at
          (λ q. rw (held-bool (own_form own a) (get_or m.numbers a 0) (held_by 1 q)) (truth y)) (λ q. absurd (omega arith))

  pub puts-uint : BoolsFit own m.numbers → type_at (own_table own) a ≡ uint → Answers uint l x (operand (lends own m cells) uint 1024 b cs)
      → RowWorks own stack m cells l assign a b c cs (put_uint own m.numbers a x)
  puts-uint bools e p = works-same (works-uint x _ (λ y. settled (Uint y)) p each) (by-type uint e)
    where
      each : (y at : ℕ) → Works own stack m cells l (put_of own m.numbers a 2 y 0 at) (settled (Uint y) (drop at l))
      each y at = put-works (Uint y) y 0 at (λ q. rw (held-uint (own_form own a) (get_or m.numbers a 0) (held_by 2 q))) (λ q. bools)

  pub puts-pointer : type_at (own_table own) a ≡ pointer → Answers pointer l x (operand (lends own m cells) pointer 1024 b cs)
      → RowWorks own stack m cells l assign a b c cs (put_pointer own m.numbers a x)
  puts-pointer e p = works-same (works-pointer x _ (λ y. settled (Pointer y.array y.place)) p each) (by-type pointer e)
    where
      each : (r y at : ℕ) → Works own stack m cells l (put_of own m.numbers a 3 y r at) (settled (Pointer r y) (drop at l))
      each r y at = put-works (Pointer r y) y r at (λ q. rw (held_pointer (own_form own a) (get_or m.numbers a 0) (held_by 3 q))) (λ q. absurd (omega arith))

-- ---- 35 and 36
module _ (own stack : List ℕ) (m : Machine) (cells l : List ℕ) (a b c : ℕ) (cs : List ℕ) (x : Answer)
    (p : Answers bool l x (operand (lends own m cells) bool 1024 a cs)) where
  abbrev on_test : Bool → Bool → Work Move
  on_test assuming y = give (if y then to (past (own_state own stack m cells)) else stop (if assuming then assume_false else assert_false))

  test-works : (assuming : Bool) → Works own stack m cells l (tested_of assuming x) (next (operand (lends own m cells) bool 1024 a cs) (on_test assuming))
  unfolding move_out CanDo state_after
  test-works assuming = works-bool x _ (on_test assuming) p (each assuming)
    where
      each : (assuming y : Bool) (at : ℕ)
          → Works own stack m cells l (if y then Moves Goes at else Ends (if assuming then AssumeFalse else AssertFalse) at) (on_test assuming y (drop at l))
      each assuming true at = record { said = ap (λ (s : State). gives (to s) (drop at l)) (state-passed own stack m cells); can = tt }
      each true false at = record { said = refl; can = tt }
      each false false at = record { said = refl; can = tt }

  pub asserts : RowWorks own stack m cells l assert a b c cs (tested_of false x)
  unfolding row_rule operand
  asserts = test-works false

  pub assumes : RowWorks own stack m cells l assume a b c cs (tested_of true x)
  unfolding row_rule operand
  assumes = test-works true
