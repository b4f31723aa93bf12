-- Laws of places: what is worked out without a choice leaves the choices as they are, so that an answer that says it of every list has the
-- place that it was given.
-- Assumes nothing.
use Prim.Native.Nat.{ℕ, zero, suc, ◌+◌, ◌-◌}
use native.Mathlib.Omega.{arith as numbers}
use mathlib.Core.Path.{◌≡◌, refl, sym, ap, subst, ◌∙◌}
use mathlib.Core.Bool.{Bool, true, false}
use mathlib.Core.List.{List, []}
use lib.ListN.{length, drop, replicate, length-drop, length-replicate}
use lib.Seq.{drop-nil}
use lib.Dec.{ltb, leb}
use Rattle.std.specs.Prelude.{if◌then◌else◌}
use Rattle.model.specs.Table.{Ty}
use Rattle.model.specs.Table.Ty.{bool, uint, pointer}
use Rattle.model.specs.Work.{Reason, Out, Work, next, ◌>>=◌, give, fail, wrong}
use Rattle.model.specs.Work.Reason.{sum_too_large, below_zero, counter_too_large, without_array, past_length}
use Rattle.model.specs.Work.Out.{gives, fails, bad_choice, no_choice, stuck}
use Rattle.model.specs.State.{Value, Array}
use Rattle.model.specs.State.Value.{Truth, Uint, Class, Pointer}
use Rattle.model.specs.Eval.{Of, Ptr, ptr, variable_of, of_type, present, array_of, size_of, cell_of, next_start}
use Rattle.evaluators.specs.CodeAnswers.{failed, out_of, OfType, Answers}
use Rattle.evaluators.specs.CodeLeaves.{held_for, arith, moved_by, valid_in, read_of, load_of}
use Rattle.machine.specs.Reasons.{reason_of}
use Rattle.evaluators.proofs.AnswerLaws.{tested}
use Rattle.machine.specs.declared.Failure.TheVariants.{Fails, BadChoice, NoChoice, Stuck}
use Rattle.evaluators.specs.declared.nodes.Test.{Test}
use Rattle.evaluators.specs.declared.answers.Answer.{Answer}
use Rattle.evaluators.specs.declared.answers.Answer.TheVariants.{Bool as ABool, Uint as AUint, Pointer as APointer, Not}
use Rattle.recording.specs.CodePushes.{pushed}
use Rattle.recording.specs.CodeRecords.{ReachedBy, Reached, Records}
use Rattle.recording.proofs.PushLaws.{push-none}

-- ---- the choices that are left; cs where nothing says it
abbrev left_by : {A : Type 0} → List ℕ → Out A → List ℕ
left_by cs (gives a ds) = ds
left_by cs (fails why ds) = ds
left_by cs bad_choice = cs
left_by cs no_choice = cs
left_by cs stuck = cs

-- the same, with the choices ds left
abbrev over : {A : Type 0} → List ℕ → Out A → Out A
over ds (gives a cs) = gives a ds
over ds (fails why cs) = fails why ds
over ds bad_choice = bad_choice
over ds no_choice = no_choice
over ds stuck = stuck

-- no choice is taken: it comes to the same under all choices, and leaves them
pub record Still {A : Type 0} (m : Work A) : Type 0 where
  pub same : (cs ds : List ℕ) → m ds ≡ over ds (m cs)

pub still-left : {A : Type 0} {m : Work A} → Still m → (cs : List ℕ) → left_by cs (m cs) ≡ cs
still-left {A} {m} h cs = ap (left_by cs) (h.same cs cs) ∙ go (m cs)
  where
    go : (o : Out A) → left_by cs (over cs o) ≡ cs
    go (gives a ds) = refl
    go (fails why ds) = refl
    go bad_choice = refl
    go no_choice = refl
    go stuck = refl

still-by : {A : Type 0} (b : Bool) (m k : Work A) → Still m → Still k → Still (if b then m else k)
still-by true m k h g = h
still-by false m k h g = g

still-give : {A : Type 0} (a : A) → Still (give a)
still-give a = record { same = λ cs ds. refl }

still-fail : {A : Type 0} (why : Reason) → Still {A = A} (fail why)
still-fail why = record { same = λ cs ds. refl }

still-wrong : {A : Type 0} → Still {A = A} wrong
still-wrong = record { same = λ cs ds. refl }

still-then : {A B : Type 0} (m : Work A) (k : A → Work B) → Still m → ((a : A) → Still (k a)) → Still (m >>= k)
still-then {A} {B} m k h g = record { same = λ cs ds. ap (λ (o : Out A). next o k) (h.same cs ds) ∙ go ds (m cs) }
  where
    go : (ds : List ℕ) (o : Out A) → next (over ds o) k ≡ over ds (next o k)
    go ds (gives a cs) = (g a).same cs ds
    go ds (fails why cs) = refl
    go ds bad_choice = refl
    go ds no_choice = refl
    go ds stuck = refl

-- ---- what the leaves say
pub still-arith : (m : Bool) (x y : ℕ) → Still (arith m x y)
unfolding arith
still-arith false x y = still-by (leb (x + y) 4294967295) _ _ (still-give (x + y)) (still-fail sum_too_large)
still-arith true x y = still-by (leb y x) _ _ (still-give (x - y)) (still-fail below_zero)

pub still-next : (x : ℕ) → Still (next_start x)
still-next x = still-by (leb (x + 1) 4294967295) _ _ (still-give (x + 1)) (still-fail counter_too_large)

pub still-moved : (m : Bool) (r p y : ℕ) → Still (moved_by m r p y)
unfolding moved_by
still-moved m r p y = still-then (arith m p y) (λ z. give (ptr r z)) (still-arith m p y) (λ z. still-give (ptr r z))

still-array : (rs : List Array) (n : ℕ) → Still (array_of rs n)
still-array rs zero = still-fail without_array
still-array rs (suc i) = still-by (ltb i (length rs)) _ _ (still-give _) still-wrong

pub still-valid : (rs : List Array) (r p : ℕ) → Still (valid_in rs r p)
unfolding valid_in
still-valid rs zero p = still-give false
still-valid rs (suc i) p = still-then (array_of rs (suc i)) (λ r. give (ltb p r.len)) (still-array rs (suc i)) (λ r. still-give (ltb p r.len))

pub still-tested : (k : Test) (x y : ℕ) → Still (tested k x y)
unfolding tested
still-tested k x y = still-give _

still-type : (w : Ty) (v : Value) → Still (of_type w v)
still-type bool (Truth b) = still-give b
still-type bool (Uint n) = still-wrong
still-type bool (Class k) = still-wrong
still-type bool (Pointer r p) = still-wrong
still-type uint (Truth b) = still-wrong
still-type uint (Uint n) = still-give n
still-type uint (Class k) = still-wrong
still-type uint (Pointer r p) = still-wrong
still-type pointer (Truth b) = still-wrong
still-type pointer (Uint n) = still-wrong
still-type pointer (Class k) = still-wrong
still-type pointer (Pointer r p) = still-give (ptr r p)

still-present : (count : ℕ) (w : Ty) (x : Of w) → Still (present count w x)
still-present count bool b = still-give b
still-present count uint n = still-give n
still-present count pointer p = still-by (leb p.array count) _ _ (still-give p) still-wrong

pub still-held : (vs : List Value) (count a : ℕ) (w : Ty) → Still (held_for vs count a w)
unfolding held_for
still-held vs count a w = still-then (variable_of vs a >>= of_type w) (present count w)
    (still-then (variable_of vs a) (of_type w) (still-by (ltb a (length vs)) _ _ (still-give _) still-wrong) (still-type w)) (still-present count w)

-- ---- a load by 19
still-cell : (ps cells : List ℕ) (r : Array) (i : ℕ) → Still (cell_of ps cells r i)
still-cell ps cells r i =
    still-by (ltb i (size_of ps r)) _ _ (still-by (ltb (r.start + i) (length cells)) _ _ (still-give _) still-wrong) still-wrong

pub still-load : (ps : List ℕ) (rs : List Array) (cells : List ℕ) (p : Ptr) → Still (load_of false ps rs cells p)
unfolding load_of read_of
still-load ps rs cells p = still-then (array_of rs p.array)
    (λ r. if ltb p.place r.len then read_of false ps cells r.start r.len r.reduced p.place else fail past_length) (still-array rs p.array)
    (λ r. still-by (ltb p.place r.len) _ _ (still-cell ps cells (record { start = r.start; len = r.len; reduced = r.reduced }) p.place)
    (still-fail past_length))

-- what an answer says of any list, it says of none
pub said-anywhere : (m : Work ℕ) (at : ℕ) {l : List ℕ} {x : Answer} → Still m → Answers uint l x (m (drop at l)) → Answers uint [] x (m [])
unfolding out_of OfType failed
said-anywhere m at {l} {x} still h = record {
  said = go x h.typed ∙ ap (over []) h.said ∙ sym (still.same (drop at l) []);
  typed = h.typed;
}
  where
    go : (y : Answer) → OfType uint y → out_of uint [] y ≡ over [] (out_of uint l y)
    go (ABool b i) t = absurd t
    go (AUint v i) t = ap (gives v) (drop-nil i)
    go (APointer r v i) t = absurd t
    go (Not (Fails why) i) t = ap (fails (reason_of why)) (drop-nil i)
    go (Not BadChoice i) t = refl
    go (Not NoChoice i) t = refl
    go (Not Stuck i) t = refl

-- ---- two places that leave the same of every list are the same
same_place : (i j : ℕ) → ((l : List ℕ) → drop i l ≡ drop j l) → i ≡ j
same_place i j h = omega (numbers, simp (length-drop, length-replicate) at (ap length (h (replicate (i + j) 0))))

left-same : (w : Ty) (m : Work (Of w)) (at : ℕ) → Still m → (z : Answer) → ((l : List ℕ) → Answers w l z (m (drop at l))) → (l : List ℕ)
    → left_by (drop at l) (out_of w l z) ≡ drop at l
left-same w m at still z h l = ap (left_by (drop at l)) (h l).said ∙ still-left still (drop at l)

-- ---- an answer z that says it of every list has the place at
pub still-place : (w : Ty) (m : Work (Of w)) (at : ℕ) → Still m → (z : Answer) → ((l : List ℕ) → Answers w l z (m (drop at l)))
    → (out : List ℕ) → Reached z out (pushed out at)
unfolding Reached ReachedBy out_of OfType failed
still-place bool m at still (ABool b i) h out = ap (pushed out) (same_place i at (left-same bool m at still (ABool b i) h))
still-place bool m at still (AUint v i) h out = absurd (h []).typed
still-place bool m at still (APointer r v i) h out = absurd (h []).typed
still-place uint m at still (ABool b i) h out = absurd (h []).typed
still-place uint m at still (AUint v i) h out = ap (pushed out) (same_place i at (left-same uint m at still (AUint v i) h))
still-place uint m at still (APointer r v i) h out = absurd (h []).typed
still-place pointer m at still (ABool b i) h out = absurd (h []).typed
still-place pointer m at still (AUint v i) h out = absurd (h []).typed
still-place pointer m at still (APointer r v i) h out = ap (pushed out) (same_place i at (left-same pointer m at still (APointer r v i) h))
still-place w m at still (Not (Fails why) i) h out = ap (pushed out) (same_place i at (left-same w m at still (Not (Fails why) i) h))
still-place w m at still (Not BadChoice i) h out = tt
still-place w m at still (Not NoChoice i) h out = tt
still-place w m at still (Not Stuck i) h out = tt

-- ... and records nothing
pub still-records : (w : Ty) (m : Work (Of w)) (at : ℕ) → Still m → (z : Answer) → ((l : List ℕ) → Answers w l z (m (drop at l)))
    → (out : List ℕ) → Records w (m []) [] z out (pushed out at)
still-records w m at still z h out = record {
  value = subst (λ (cs : List ℕ). Answers w [] z (m cs)) (drop-nil at) (h []);
  numbers = subst (Reached z out) (sym (push-none (pushed out at))) (still-place w m at still z h out);
}
