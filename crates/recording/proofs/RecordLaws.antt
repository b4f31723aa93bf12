-- Laws of records: what a variable and a cell record, how a user goes on from an operand that gave a value, and from one that did not.
-- Assumes nothing.
use Prim.Native.Nat.{ℕ, zero, suc, ◌<◌}
use native.Mathlib.Omega.{arith as numbers}
use native.Mathlib.Decide.{dec_lt}
use mathlib.Core.Path.{◌≡◌, refl, sym, ap, subst, ◌∙◌}
use mathlib.Core.Logic.{◌≢◌, ◌⊎◌, inl, inr, ⊎_elim}
use mathlib.Core.Bool.{Bool, true, false}
use mathlib.Core.List.{List, [], ◌∷◌, ◌++◌, append-nil}
use lib.ListN.{length, get_or, drop, get_or-eq_default}
use lib.Seq.{drop-nil}
use lib.Dec.{ltb, eqb}
use types.Run.{OneOf, miss}
use denote.Enum.Declared.{tag_of}
use Rattle.std.specs.Prelude.{if◌then◌else◌}
use Rattle.lists.specs.Tab.{tab}
use Rattle.lists.proofs.TabLaws.{length-tab, at-tab}
use Rattle.model.specs.Class.{tracked}
use Rattle.model.specs.Table.{Ty, marked}
use Rattle.model.specs.Table.Ty.{bool, uint, pointer}
use Rattle.model.specs.Work.{Reason, Out, Work, next, give, wrong}
use Rattle.model.specs.Work.Out.{gives, fails, bad_choice, no_choice, stuck}
use Rattle.model.specs.State.{Value, Array}
use Rattle.model.specs.State.Value.{Truth, Uint, Class, Pointer}
use Rattle.model.specs.Eval.{Of, Ptr, ptr, variable_of, of_type, as_uint, next_start, present}
use Rattle.model.specs.Writer.{given, number_of, held_reduced}
use Rattle.prepared.specs.Own.{decls_of, own_vars, places_of}
use Rattle.evaluators.specs.CodeAnswers.{failed, out_of, OfType, Answers, Says, Lent, operand}
use Rattle.evaluators.specs.Reasons.{reason_of}
use Rattle.evaluators.specs.CodeLeaves.{held_for, HoldsFor, load_of, arith, moved_by, valid_in, test_of}
use Rattle.evaluators.proofs.AnswerLaws.{said-uint, said-not, failed-next, followed, branch, tested}
use Rattle.evaluators.proofs.ViewLaws.{var-out}
use Rattle.evaluators.specs.contracts.answers.Answer.{the_type as answer}
use Rattle.machine.specs.declared.Failure.{Failure}
use Rattle.machine.specs.declared.Failure.TheVariants.{Fails, BadChoice, NoChoice, Stuck}
use Rattle.evaluators.specs.declared.nodes.Test.{Test}
use Rattle.evaluators.specs.declared.answers.Answer.{Answer}
use Rattle.evaluators.specs.declared.answers.Answer.TheVariants.{Bool as ABool, Uint as AUint, Pointer as APointer, Not}
use Rattle.recording.specs.CodePushes.{Pushed, pushed, push, push_all}
use Rattle.recording.specs.CodeRecords.{held_of, pair_of, operand_numbers, variable_numbers, cell_numbers, placed_at}
use Rattle.recording.specs.CodeRecords.{ReachedBy, Reached, Records, VariableRecords}
use Rattle.recording.proofs.PushLaws.{push-one, push-none, push-append}
use Rattle.recording.proofs.PlaceLaws.{still-arith, still-next, still-moved, still-valid, still-tested, still-held, still-load, still-records, said-anywhere}

-- ---- what decides whether a number is recorded
pub held_none : (count : ℕ) (held : List ℕ) (to : ℕ) → count < to → false ≡ held_reduced (held_of count held) to
unfolding held_of
held_none count held zero h = absurd (omega numbers)
held_none count held (suc i) h =
    sym (get_or-eq_default (tab count (λ i. eqb (get_or held i 0) 1)) false {n = i} (rw (length-tab count (λ i. eqb (get_or held i 0) 1)) (omega numbers)))

pub held-zero : (count : ℕ) (held : List ℕ) (to : ℕ) → to ≡ 0 → false ≡ held_reduced (held_of count held) to
held-zero count held to e = rw e

pub held-some : (count : ℕ) (held : List ℕ) (to : ℕ) {i : ℕ} → to ≡ suc i → i < count → eqb (get_or held i 0) 1 ≡ held_reduced (held_of count held) to
unfolding held_of
held-some count held to {i} e h = rw e (sym (at-tab count (λ i. eqb (get_or held i 0) 1) false i h))

-- ---- what is stuck leaves the buffer free
pub nowhere : (at : ℕ) (out : List ℕ) (p : Pushed ℕ) → Reached (Not Stuck at) out p
unfolding Reached ReachedBy
nowhere at out p = tt

unstuck : {A : Type 0} {a : A} {cs : List ℕ} → gives a cs ≡ stuck → ⊥
unstuck e = let z : ◌≡◌ {A = ℕ} 0 1 = cc in omega numbers

stuck-place : (w : Ty) (z : Answer) (out : List ℕ) (p : Pushed ℕ) → Answers w [] z stuck → Reached z out p
unfolding Reached ReachedBy out_of OfType failed
stuck-place bool (ABool b i) out p h = absurd (unstuck h.said)
stuck-place bool (AUint v i) out p h = absurd h.typed
stuck-place bool (APointer r v i) out p h = absurd h.typed
stuck-place uint (ABool b i) out p h = absurd h.typed
stuck-place uint (AUint v i) out p h = absurd (unstuck h.said)
stuck-place uint (APointer r v i) out p h = absurd h.typed
stuck-place pointer (ABool b i) out p h = absurd h.typed
stuck-place pointer (AUint v i) out p h = absurd h.typed
stuck-place pointer (APointer r v i) out p h = absurd (unstuck h.said)
stuck-place w (Not (Fails why) i) out p h = let z : ◌≡◌ {A = ℕ} 0 1 = cc h.said in absurd (omega numbers)
stuck-place w (Not BadChoice i) out p h = tt
stuck-place w (Not NoChoice i) out p h = tt
stuck-place w (Not Stuck i) out p h = tt

pub stuck-records : (w : Ty) (z : Answer) (out : List ℕ) (p : Pushed ℕ) (xs : List ℕ) {o : Out (Of w)} → stuck ≡ o → Answers w [] z o
    → Records w o xs z out p
stuck-records w z out p xs e h = record { value = h; numbers = stuck-place w z out (push_all xs p) (rw (sym e) at h) }

-- ---- a variable, to a user that takes no uint: what it gives has no number
no_number : (w : Ty) (count : ℕ) (o : Out Value) → w ≢ uint → (given o number_of ≡ []) ⊎ (stuck ≡ next (next o (of_type w)) (present count w))
no_number w count (gives (Truth b) cs) ne = inl refl
no_number bool count (gives (Uint n) cs) ne = inr refl
no_number uint count (gives (Uint n) cs) ne = absurd (ne refl)
no_number pointer count (gives (Uint n) cs) ne = inr refl
no_number w count (gives (Class k) cs) ne = inl refl
no_number w count (gives (Pointer r p) cs) ne = inl refl
no_number w count (fails why cs) ne = inl refl
no_number w count bad_choice ne = inl refl
no_number w count no_choice ne = inl refl
no_number w count stuck ne = inl refl

either-empty : (b : Bool) {xs : List ℕ} → xs ≡ [] → (if b then xs else []) ≡ []
either-empty true e = e
either-empty false e = refl

pub quiet-variable : (w : Ty) (own : List ℕ) (vs : List Value) (count a at : ℕ) (z : Answer) (out : List ℕ) → w ≢ uint
    → ((l : List ℕ) → Answers w l z (held_for vs count a w (drop at l)))
    → Records w (held_for vs count a w []) (variable_numbers own vs a) z out (pushed out at)
unfolding variable_numbers held_for
quiet-variable w own vs count a at z out ne h = ⊎_elim
    (λ e. subst (λ (xs : List ℕ). Records w (held_for vs count a w []) xs z out (pushed out at)) (sym (either-empty (marked own 2 a) e)) silent)
    (λ e. stuck-records w z out (pushed out at) _ e silent.value)
    (no_number w count (variable_of vs a []) ne)
  where
    silent : Records w (held_for vs count a w []) [] z out (pushed out at)
    silent = still-records w (held_for vs count a w) at (still-held vs count a w) z h out

pub no-pointer-uint : pointer ≢ uint
no-pointer-uint e = let z : ◌≡◌ {A = ℕ} 0 1 = cc in omega numbers

pub no-bool-uint : bool ≢ uint
no-bool-uint e = let z : ◌≡◌ {A = ℕ} 0 1 = cc in omega numbers

-- ---- a variable, to a user that takes a uint
number_is : (count : ℕ) (o : Out Value) {v : ℕ} {cs : List ℕ} → gives v cs ≡ next (next o as_uint) (present count uint) → given o number_of ≡ v ∷ []
number_is count (gives (Truth b) ds) e = absurd (unstuck e)
number_is count (gives (Uint n) ds) {v} {cs} e = let q : n ≡ v = cc in ap (λ (k : ℕ). k ∷ []) q
number_is count (gives (Class k) ds) e = absurd (unstuck e)
number_is count (gives (Pointer r p) ds) e = absurd (unstuck e)
number_is count (fails why ds) e = let z : ◌≡◌ {A = ℕ} 0 1 = cc in absurd (omega numbers)
number_is count bad_choice e = let z : ◌≡◌ {A = ℕ} 0 1 = cc in absurd (omega numbers)
number_is count no_choice e = let z : ◌≡◌ {A = ℕ} 0 1 = cc in absurd (omega numbers)
number_is count stuck e = absurd (unstuck e)

-- it does not fail
never-fails : (vs : List Value) (count a : ℕ) {why : Reason} {cs : List ℕ} → fails why cs ≡ held_for vs count a uint [] → ⊥
unfolding held_for
never-fails vs count a {why} {cs} = go (ltb a (length vs)) (get_or vs a (Uint 0))
  where
    go : (b : Bool) (x : Value) → fails why cs ≡ next (next ((if◌then◌else◌ {A = Work Value} b (give x) wrong) []) as_uint) (present count uint) → ⊥
    go true (Truth b) e = let z : ◌≡◌ {A = ℕ} 0 1 = cc in omega numbers
    go true (Uint n) e = let z : ◌≡◌ {A = ℕ} 0 1 = cc in omega numbers
    go true (Class k) e = let z : ◌≡◌ {A = ℕ} 0 1 = cc in omega numbers
    go true (Pointer r p) e = let z : ◌≡◌ {A = ℕ} 0 1 = cc in omega numbers
    go false x e = let z : ◌≡◌ {A = ℕ} 0 1 = cc in omega numbers

-- x is what the variable holds
module _ (own ns : List ℕ) (a at : ℕ) {x : Answer} (s : HoldsFor uint own ns a at x) where
  abbrev said-none : (bs : List ℕ) (count : ℕ) → Answers uint [] x (held_for (own_vars own ns bs) count a uint [])
  said-none bs count = subst (λ (cs : List ℕ). Answers uint [] x (held_for (own_vars own ns bs) count a uint cs)) (drop-nil at) (s.held bs count [])

  -- a variable that gives a uint is declared
  pub uint-declared : {v i : ℕ} → x ≡ AUint v i → a < decls_of own
  unfolding out_of held_for
  uint-declared {v} {i} e = elim (dec_lt a (decls_of own)) [
    | yes h ↦ h
    | no h ↦ absurd (unstuck (sym (ap (out_of uint []) e) ∙ (said-none [] 0).said
        ∙ rw (var-out own ns [] a (omega numbers) [])))
  ]

  pub variable-none : (out : List ℕ) (p : Pushed ℕ) → OneOf (0 ∷ 2 ∷ 3 ∷ []) (tag_of answer x) → VariableRecords own ns a x out p
  unfolding Reached ReachedBy out_of OfType failed
  variable-none out p h = record { held = λ bs count. record { value = said-none bs count; numbers = go bs count x (said-none bs count) h } }
    where
      go : (bs : List ℕ) (count : ℕ) (y : Answer) → Answers uint [] y (held_for (own_vars own ns bs) count a uint []) → OneOf (0 ∷ 2 ∷ 3 ∷ []) (tag_of answer y)
          → Reached y out (push_all (variable_numbers own (own_vars own ns bs) a) p)
      go bs count (ABool b i) q h = absurd q.typed
      go bs count (AUint v i) q h = absurd (miss (0 ∷ 2 ∷ 3 ∷ []) 1 tt h)
      go bs count (APointer r v i) q h = absurd q.typed
      go bs count (Not (Fails why) i) q h = absurd (never-fails (own_vars own ns bs) count a q.said)
      go bs count (Not BadChoice i) q h = tt
      go bs count (Not NoChoice i) q h = tt
      go bs count (Not Stuck i) q h = tt

  -- it gives v
  module _ {v i : ℕ} (e : x ≡ AUint v i) where
    gives-it : (bs : List ℕ) (count j : ℕ) → Answers uint [] (AUint v j) (held_for (own_vars own ns bs) count a uint [])
    unfolding out_of
    gives-it bs count j = said-uint (ap (gives v) (drop-nil j ∙ sym (drop-nil i)) ∙ sym (ap (out_of uint []) e) ∙ (said-none bs count).said)

    pub variable-pushed : (out new : List ℕ) (m : ℕ) {y : Bool} → y ≡ marked own 2 a → y ≡ true → pushed new m ≡ push v (pushed out at)
        → VariableRecords own ns a (AUint v m) new (pushed out at)
    unfolding Reached out_of variable_numbers held_for
    variable-pushed out new m g t q =
        record { held = λ bs count. record { value = gives-it bs count m; numbers = q ∙ sym (listed bs count) } }
      where
        listed : (bs : List ℕ) (count : ℕ) → push_all (variable_numbers own (own_vars own ns bs) a) (pushed out at) ≡ push v (pushed out at)
        listed bs count = rw (← g, t, number_is count (variable_of (own_vars own ns bs) a []) (gives-it bs count 0).said) (push-one v (pushed out at))

    pub variable-free : (out : List ℕ) {y : Bool} → y ≡ marked own 2 a → y ≡ false → VariableRecords own ns a (AUint v at) out (pushed out at)
    unfolding Reached variable_numbers
    variable-free out g t = record { held = λ bs count. record { value = gives-it bs count at; numbers = rw (← g, t) (sym (push-none (pushed out at))) } }

-- ---- an answer with a value is not placed anew
pub placed-value : (x : Answer) (at : ℕ) → OneOf (0 ∷ 1 ∷ 2 ∷ []) (tag_of answer x) → x ≡ placed_at x at
placed-value (ABool b i) at h = refl
placed-value (AUint v i) at h = refl
placed-value (APointer r v i) at h = refl
placed-value (Not f i) at h = absurd (miss (0 ∷ 1 ∷ 2 ∷ []) 3 tt h)

-- ---- a cell: x is the load's answer
module _ (own : List ℕ) (rs : List Array) (cells : List ℕ) (ks : List Bool) (p : Ptr) (at : ℕ) {l : List ℕ} {x : Answer}
    (said : Answers uint l x (load_of false (places_of own) rs cells p (drop at l))) where
  abbrev ps : List ℕ
  ps = pair_of own

  abbrev o : Out ℕ
  o = load_of false (places_of own) rs cells p []

  s : Answers uint [] x o
  s = said-anywhere (load_of false (places_of own) rs cells p) at (still-load (places_of own) rs cells p) said

  module _ {v i : ℕ} (e : x ≡ AUint v i) where
    loads-it : (j : ℕ) → Answers uint [] (AUint v j) o
    unfolding out_of
    loads-it j = said-uint (ap (gives v) (drop-nil j ∙ sym (drop-nil i)) ∙ sym (ap (out_of uint []) e) ∙ s.said)

    cell-silent : (out : List ℕ) → cell_numbers ps ks p o ≡ [] → Records uint o (cell_numbers ps ks p o) (AUint v at) out (pushed out at)
    unfolding Reached
    cell-silent out q = record { value = loads-it at; numbers = rw q (sym (push-none (pushed out at))) }

    pub cell_free : (out : List ℕ) {y : Bool} → y ≡ held_reduced ks p.array → y ≡ false
        → Records uint o (cell_numbers ps ks p o) (AUint v at) out (pushed out at)
    unfolding cell_numbers
    cell_free out g t = cell-silent out (rw (← g, t))

    pub cell-kept : (out : List ℕ) {y u : Bool} → y ≡ held_reduced ks p.array → y ≡ true → u ≡ tracked ps p.place → u ≡ true
        → Records uint o (cell_numbers ps ks p o) (AUint v at) out (pushed out at)
    unfolding cell_numbers
    cell-kept out g t j k = cell-silent out (rw (← g, t, ← j, k))

    pub cell-pushed : (out new : List ℕ) (last : ℕ) {y u : Bool} → y ≡ held_reduced ks p.array → y ≡ true → u ≡ tracked ps p.place → u ≡ false
        → pushed new last ≡ push v (pushed out at) → Records uint o (cell_numbers ps ks p o) (AUint v last) new (pushed out at)
    unfolding cell_numbers Reached out_of
    cell-pushed out new last g t j k h = record { value = loads-it last; numbers = h ∙ sym listed }
      where
        listed : push_all (cell_numbers ps ks p o) (pushed out at) ≡ push v (pushed out at)
        listed = rw (← g, t, ← j, k, ← (loads-it 0).said) (push-one v (pushed out at))

  -- a load with no value
  cell-lost : (f : Failure) (i : ℕ) (out : List ℕ) → x ≡ Not f i → Records uint o (cell_numbers ps ks p o) (Not f at) out (pushed out at)
  unfolding cell_numbers out_of failed Reached ReachedBy
  cell-lost f i out e = record {
    value = said-not uint (again f ∙ r);
    numbers = subst (λ (xs : List ℕ). Reached (Not f at) out (push_all xs (pushed out at))) (sym empty) (placed-there f);
  }
    where
      r : failed [] i f ≡ o
      r = sym (ap (out_of uint []) e) ∙ s.said

      again : (f : Failure) → failed {A = ℕ} [] at f ≡ failed [] i f
      again (Fails why) = ap (fails (reason_of why)) (drop-nil at ∙ sym (drop-nil i))
      again BadChoice = refl
      again NoChoice = refl
      again Stuck = refl

      either : (b : Bool) → (if◌then◌else◌ {A = List ℕ} b [] []) ≡ []
      either true = refl
      either false = refl

      keeps : Bool
      keeps = if held_reduced ks p.array then tracked ps p.place else true

      none : (f : Failure) → cell_numbers ps ks p (failed [] i f) ≡ []
      none (Fails why) = either keeps
      none BadChoice = either keeps
      none NoChoice = either keeps
      none Stuck = either keeps

      empty : cell_numbers ps ks p o ≡ []
      empty = ap (cell_numbers ps ks p) (sym r) ∙ none f

      placed-there : (f : Failure) → Reached (Not f at) out (push_all [] (pushed out at))
      placed-there (Fails why) = sym (push-none (pushed out at))
      placed-there BadChoice = tt
      placed-there NoChoice = tt
      placed-there Stuck = tt

  pub cell-none : (out : List ℕ) {z : Answer} → OneOf (0 ∷ 2 ∷ 3 ∷ []) (tag_of answer x) → z ≡ placed_at x at
      → Records uint o (cell_numbers ps ks p o) z out (pushed out at)
  unfolding OfType
  cell-none out {z} h q = rw q (go x refl)
    where
      go : (y : Answer) → x ≡ y → Records uint o (cell_numbers ps ks p o) (placed_at x at) out (pushed out at)
      go (ABool b i) e = absurd (rw e at s.typed)
      go (AUint v i) e = absurd (miss (0 ∷ 2 ∷ 3 ∷ []) 1 tt (rw e at h))
      go (APointer r v i) e = absurd (rw e at s.typed)
      go (Not f i) e = rw e (cell-lost f i out e)

-- ---- how a user goes on: what the operand's answer x, with the numbers xs up to the buffer mid, says of what it comes to, o
-- it gave a
pub record Gave {A : Type 0} (o : Out A) (a : A) (xs : List ℕ) (mid : List ℕ) (m : ℕ) (p : Pushed ℕ) : Type 0 where
  pub gave : o ≡ gives a []
  pub reached : pushed mid m ≡ push_all xs p

-- it gave no value, and its user fails as it did
pub record Lost {A : Type 0} (o : Out A) (xs : List ℕ) (x : Answer) (mid : List ℕ) (p : Pushed ℕ) : Type 0 where
  pub why : Failure
  pub place : ℕ
  pub is : x ≡ Not why place
  pub lost : failed [] place why ≡ o
  pub reached : ReachedBy why place mid (push_all xs p)

module _ (x : Answer) (mid : List ℕ) (p : Pushed ℕ) {xs : List ℕ} where
  pub gave-uint : {o : Out ℕ} {v m : ℕ} → Records uint o xs x mid p → x ≡ AUint v m → Gave o v xs mid m p
  unfolding out_of Reached
  gave-uint {o} {v} {m} h q = record {
    gave = sym h.value.said ∙ ap (out_of uint []) q ∙ ap (gives v) (drop-nil m);
    reached = subst (λ (y : Answer). Reached y mid (push_all xs p)) q h.numbers;
  }

  pub gave-pointer : {o : Out Ptr} {r v m : ℕ} → Records pointer o xs x mid p → x ≡ APointer r v m → Gave o (ptr r v) xs mid m p
  unfolding out_of Reached
  gave-pointer {o} {r} {v} {m} h q = record {
    gave = sym h.value.said ∙ ap (out_of pointer []) q ∙ ap (gives (ptr r v)) (drop-nil m);
    reached = subst (λ (y : Answer). Reached y mid (push_all xs p)) q h.numbers;
  }

  pub gave-bool : {o : Out Bool} {v : Bool} {m : ℕ} → Records bool o xs x mid p → x ≡ ABool v m → Gave o v xs mid m p
  unfolding out_of Reached
  gave-bool {o} {v} {m} h q = record {
    gave = sym h.value.said ∙ ap (out_of bool []) q ∙ ap (gives v) (drop-nil m);
    reached = subst (λ (y : Answer). Reached y mid (push_all xs p)) q h.numbers;
  }

none-given : {A : Type 0} (f : Failure) (i : ℕ) (g : A → List ℕ) → given (failed [] i f) g ≡ []
unfolding failed
none-given (Fails why) i g = refl
none-given BadChoice i g = refl
none-given NoChoice i g = refl
none-given Stuck i g = refl

module _ {A : Type 0} {o : Out A} {xs : List ℕ} {x : Answer} {mid : List ℕ} {p : Pushed ℕ} (h : Lost o xs x mid p) where
  pub lost-next : {B : Type 0} (k : A → Work B) → next o k ≡ failed [] h.place h.why
  lost-next k = ap (λ (y : Out A). next y k) (sym h.lost) ∙ sym (failed-next [] h.place h.why k)

  pub lost-given : (g : A → List ℕ) → given o g ≡ []
  lost-given g = ap (λ (y : Out A). given y g) (sym h.lost) ∙ none-given h.why h.place g

lost-not : (w : Ty) (f : Failure) (i : ℕ) (mid : List ℕ) (p : Pushed ℕ) {xs : List ℕ} {o : Out (Of w)} → Records w o xs (Not f i) mid p
    → Lost o xs (Not f i) mid p
unfolding out_of Reached
lost-not w f i mid p {xs} {o} h = record {
  why = f;
  place = i;
  is = refl;
  lost = h.value.said;
  reached = h.numbers;
}

pub lost-uint : (x : Answer) (mid : List ℕ) (p : Pushed ℕ) {xs : List ℕ} {o : Out ℕ} → Records uint o xs x mid p
    → OneOf (0 ∷ 2 ∷ 3 ∷ []) (tag_of answer x) → Lost o xs x mid p
unfolding OfType
lost-uint (ABool b i) mid p h t = absurd h.value.typed
lost-uint (AUint v i) mid p h t = absurd (miss (0 ∷ 2 ∷ 3 ∷ []) 1 tt t)
lost-uint (APointer r v i) mid p h t = absurd h.value.typed
lost-uint (Not f i) mid p h t = lost-not uint f i mid p h

pub lost-pointer : (x : Answer) (mid : List ℕ) (p : Pushed ℕ) {xs : List ℕ} {o : Out Ptr} → Records pointer o xs x mid p
    → OneOf (0 ∷ 1 ∷ 3 ∷ []) (tag_of answer x) → Lost o xs x mid p
unfolding OfType
lost-pointer (ABool b i) mid p h t = absurd h.value.typed
lost-pointer (AUint v i) mid p h t = absurd h.value.typed
lost-pointer (APointer r v i) mid p h t = absurd (miss (0 ∷ 1 ∷ 3 ∷ []) 2 tt t)
lost-pointer (Not f i) mid p h t = lost-not pointer f i mid p h

pub lost-bool : (x : Answer) (mid : List ℕ) (p : Pushed ℕ) {xs : List ℕ} {o : Out Bool} → Records bool o xs x mid p
    → OneOf (1 ∷ 2 ∷ 3 ∷ []) (tag_of answer x) → Lost o xs x mid p
unfolding OfType
lost-bool (ABool b i) mid p h t = absurd (miss (1 ∷ 2 ∷ 3 ∷ []) 0 tt t)
lost-bool (AUint v i) mid p h t = absurd h.value.typed
lost-bool (APointer r v i) mid p h t = absurd h.value.typed
lost-bool (Not f i) mid p h t = lost-not bool f i mid p h

-- ---- one after the other
-- numbers, and those that go with a value if there is one, as a name that laws fit by
unfoldable pub and_then : {A : Type 0} → List ℕ → Out A → (A → List ℕ) → List ℕ
and_then xs o g = xs ++ given o g

-- the numbers of the branch of 25 that a bool takes
unfoldable pub branch_numbers : Lent → List ℕ → Ty → ℕ → ℕ → ℕ → Bool → List ℕ
branch_numbers e held w n b c y = operand_numbers e held w n (if y then b else c)

-- x is what the operand gave, o what it gives by definition, and z what its user gives
module _ (v w : Ty) (z : Answer) (mid new : List ℕ) (p : Pushed ℕ) {o : Out (Of v)} {xs : List ℕ} (k : Of v → Work (Of w)) (g : Of v → List ℕ) where
  then-any : {a : Of v} {m : ℕ} → Gave o a xs mid m p → Records w (k a []) (g a) z new (pushed mid m)
      → Records w (followed w o k) (and_then xs o g) z new p
  unfolding followed and_then
  then-any {a} {m} h r = subst (λ (y : Out (Of v)). Records w (followed w y k) (and_then xs y g) z new p) (sym h.gave) (record {
    value = r.value;
    numbers = subst (Reached z new) (ap (push_all (g a)) h.reached ∙ sym (push-append xs (g a) p)) r.numbers;
  })

module _ (w : Ty) (x : Answer) (new : List ℕ) (p : Pushed ℕ) {A : Type 0} {o : Out A} {xs : List ℕ} (k : A → Work (Of w)) (g : A → List ℕ) where
  else-any : Lost o xs x new p → Records w (followed w o k) (and_then xs o g) x new p
  unfolding followed and_then Reached
  else-any h = rw (h.is, lost-given h g, append-nil xs) (record { value = said-not w (sym (lost-next h k)); numbers = h.reached })

module _ (w : Ty) (x z : Answer) (mid new : List ℕ) (p : Pushed ℕ) {o : Out ℕ} {xs : List ℕ} (k : ℕ → Work (Of w)) (g : ℕ → List ℕ) where
  pub then-uint : {v m : ℕ} → Records uint o xs x mid p → x ≡ AUint v m → Records w (k v []) (g v) z new (pushed mid m)
      → Records w (followed w o k) (and_then xs o g) z new p
  then-uint h q s = then-any uint w z mid new p k g (gave-uint x mid p h q) s

module _ (w : Ty) (x z : Answer) (mid new : List ℕ) (p : Pushed ℕ) {o : Out Ptr} {xs : List ℕ} (k : Ptr → Work (Of w)) (g : Ptr → List ℕ) where
  pub then-pointer : {r v m : ℕ} → Records pointer o xs x mid p → x ≡ APointer r v m → Records w (k (ptr r v) []) (g (ptr r v)) z new (pushed mid m)
      → Records w (followed w o k) (and_then xs o g) z new p
  then-pointer h q s = then-any pointer w z mid new p k g (gave-pointer x mid p h q) s

module _ (w : Ty) (x z : Answer) (mid new : List ℕ) (p : Pushed ℕ) {o : Out Bool} {xs : List ℕ} (k : Bool → Work (Of w)) (g : Bool → List ℕ) where
  pub then-bool : {v : Bool} {m : ℕ} → Records bool o xs x mid p → x ≡ ABool v m → Records w (k v []) (g v) z new (pushed mid m)
      → Records w (followed w o k) (and_then xs o g) z new p
  then-bool h q s = then-any bool w z mid new p k g (gave-bool x mid p h q) s

-- an answer with no value is handed on
module _ (w : Ty) (x : Answer) (new : List ℕ) (p : Pushed ℕ) {xs : List ℕ} where
  pub else-uint : {o : Out ℕ} (k : ℕ → Work (Of w)) (g : ℕ → List ℕ) → Records uint o xs x new p → OneOf (0 ∷ 2 ∷ 3 ∷ []) (tag_of answer x)
      → Records w (followed w o k) (and_then xs o g) x new p
  else-uint k g h t = else-any w x new p k g (lost-uint x new p h t)

  pub else-pointer : {o : Out Ptr} (k : Ptr → Work (Of w)) (g : Ptr → List ℕ) → Records pointer o xs x new p → OneOf (0 ∷ 1 ∷ 3 ∷ []) (tag_of answer x)
      → Records w (followed w o k) (and_then xs o g) x new p
  else-pointer k g h t = else-any w x new p k g (lost-pointer x new p h t)

  pub else-bool : {o : Out Bool} (k : Bool → Work (Of w)) (g : Bool → List ℕ) → Records bool o xs x new p → OneOf (1 ∷ 2 ∷ 3 ∷ []) (tag_of answer x)
      → Records w (followed w o k) (and_then xs o g) x new p
  else-bool k g h t = else-any w x new p k g (lost-bool x new p h t)

-- ---- the same record, where the answer and the buffer are the same
pub same-record : {w : Ty} {o : Out (Of w)} {xs : List ℕ} {x y : Answer} {mid new : List ℕ} {p : Pushed ℕ} → Records w o xs x mid p → new ≡ mid → y ≡ x
    → Records w o xs y new p
same-record h e q = rw (q, e) h

-- ---- the branch that was taken, node j, and its answer x, handed on or made anew
module _ (e : Lent) (held : List ℕ) (w : Ty) (n b c j : ℕ) (y : Bool) (x : Answer) (new : List ℕ) (p : Pushed ℕ) where
  pub branch-handed : j ≡ (if y then b else c) → Records w (operand e w n j []) (operand_numbers e held w n j) x new p
      → Records w (branch e w n b c y []) (branch_numbers e held w n b c y) x new p
  unfolding branch branch_numbers
  branch-handed h r = subst (λ (i : ℕ). Records w (operand e w n i []) (operand_numbers e held w n i) x new p) h r

  pub branch-anew : {z : Answer} → j ≡ (if y then b else c) → Records w (operand e w n j []) (operand_numbers e held w n j) x new p → x ≡ z
      → Records w (branch e w n b c y []) (branch_numbers e held w n b c y) z new p
  branch-anew h r q = same-record (branch-handed h r) refl (sym q)

-- ---- what a leaf says: nothing is recorded
module _ (z : Answer) (at : ℕ) (out : List ℕ) where
  pub says-arith : (m : Bool) (v y : ℕ) → Says uint at z (arith m v y) → Records uint (arith m v y []) [] z out (pushed out at)
  says-arith m v y s = still-records uint (arith m v y) at (still-arith m v y) z s.says out

  pub says-next : (v : ℕ) → Says uint at z (next_start v) → Records uint (next_start v []) [] z out (pushed out at)
  says-next v s = still-records uint (next_start v) at (still-next v) z s.says out

  pub says-moved : (m : Bool) (r v y : ℕ) → Says pointer at z (moved_by m r v y) → Records pointer (moved_by m r v y []) [] z out (pushed out at)
  says-moved m r v y s = still-records pointer (moved_by m r v y) at (still-moved m r v y) z s.says out

  pub says-valid : (rs : List Array) (r v : ℕ) → Says bool at z (valid_in rs r v) → Records bool (valid_in rs r v []) [] z out (pushed out at)
  says-valid rs r v s = still-records bool (valid_in rs r v) at (still-valid rs r v) z s.says out

  pub says-tested : (k : Test) (v y : ℕ) → Says bool at z (give (test_of k v y)) → Records bool (tested k v y []) [] z out (pushed out at)
  unfolding tested
  says-tested k v y s = still-records bool (tested k v y) at (still-tested k v y) z s.says out
