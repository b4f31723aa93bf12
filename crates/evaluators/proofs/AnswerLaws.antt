-- Laws of answers: how one is made, and how a user goes on from an operand that gave a value of its type, and from one that did not.
-- Assumes nothing.
use Prim.Native.Nat.{ℕ}
use mathlib.Core.Path.{◌≡◌, refl, sym, ap, ◌∙◌}
use mathlib.Core.Logic.{◌⊎◌, ⊎_elim}
use mathlib.Core.List.{List, [], ◌∷◌}
use mathlib.Core.Bool.{Bool}
use lib.ListN.{drop}
use types.Run.{OneOf, miss}
use denote.Enum.Declared.{tag_of}
use Rattle.std.specs.Prelude.{if◌then◌else◌}
use Rattle.model.specs.Table.{Ty}
use Rattle.model.specs.Table.Ty.{bool, uint, pointer}
use Rattle.model.specs.Work.{Out, Work, next, give}
use Rattle.model.specs.Work.Out.{gives, fails, bad_choice, no_choice, stuck}
use Rattle.model.specs.State.{Array}
use Rattle.model.specs.Eval.{Of, Ptr, ptr}
use Rattle.evaluators.specs.CodeAnswers.{failed, out_of, OfType, Answers, Says, Lent, operand}
use Rattle.evaluators.specs.CodeLeaves.{arith, moved_by, valid_in, test_of}
use Rattle.evaluators.specs.declared.nodes.Test.{Test}
use Rattle.evaluators.specs.Reasons.{reason_of}
use Rattle.machine.specs.declared.Reason.{Reason}
use Rattle.evaluators.specs.contracts.answers.Answer.{the_type as answer}
use Rattle.machine.specs.declared.Failure.{Failure}
use Rattle.machine.specs.declared.Failure.TheVariants.{Fails, BadChoice, NoChoice, Stuck}
use Rattle.evaluators.specs.declared.answers.Answer.{Answer}
use Rattle.evaluators.specs.declared.answers.Answer.TheVariants.{Bool as ABool, Uint as AUint, Pointer as APointer, Not}

-- ---- an answer made here
pub said-bool : {l : List ℕ} {b : Bool} {at : ℕ} {o : Out Bool} → gives b (drop at l) ≡ o → Answers bool l (ABool b at) o
unfolding out_of OfType
said-bool e = record { said = e; typed = tt }

pub said-uint : {l : List ℕ} {v at : ℕ} {o : Out ℕ} → gives v (drop at l) ≡ o → Answers uint l (AUint v at) o
unfolding out_of OfType
said-uint e = record { said = e; typed = tt }

pub said-pointer : {l : List ℕ} {r p at : ℕ} {o : Out Ptr} → gives (ptr r p) (drop at l) ≡ o → Answers pointer l (APointer r p at) o
unfolding out_of OfType
said-pointer e = record { said = e; typed = tt }

not-typed : (w : Ty) (f : Failure) (at : ℕ) → OfType w (Not f at)
unfolding OfType
not-typed bool f at = tt
not-typed uint f at = tt
not-typed pointer f at = tt

pub said-not : (w : Ty) {l : List ℕ} {at : ℕ} {f : Failure} {o : Out (Of w)} → failed l at f ≡ o → Answers w l (Not f at) o
unfolding out_of
said-not w {at = at} {f = f} e = record { said = e; typed = not-typed w f at }

pub said-fails : (w : Ty) (why : Reason) {l : List ℕ} {at : ℕ} {o : Out (Of w)} → fails (reason_of why) (drop at l) ≡ o → Answers w l (Not (Fails why) at) o
unfolding failed
said-fails w why e = said-not w e

pub said-stuck : (w : Ty) {l : List ℕ} {at : ℕ} {o : Out (Of w)} → stuck ≡ o → Answers w l (Not Stuck at) o
unfolding failed
said-stuck w e = said-not w e

-- ---- the same answer, where what it says or the answer itself is the same
pub says_same : {w : Ty} {l : List ℕ} {x : Answer} {o p : Out (Of w)} → Answers w l x o → o ≡ p → Answers w l x p
says_same h e = record { said = h.said ∙ e; typed = h.typed }

pub is_same : {w : Ty} {l : List ℕ} {x z : Answer} {o : Out (Of w)} → Answers w l x o → x ≡ z → Answers w l z o
is_same h e = rw e at h

-- x is what one of two ways gave, each of which says o
pub joined : {A A' : Type 0} {B : A → Type 0} {B' : A' → Type 0} {f : (a : A) → B a → Answer} {g : (a : A') → B' a → Answer} {w : Ty} {x : Answer}
    {l : List ℕ} {o : Out (Of w)} → ((a : A) × (b : B a) × (x ≡ f a b)) ⊎ ((a : A') × (b : B' a) × (x ≡ g a b))
    → ((a : A') (b : B' a) → Answers w l (g a b) o) → ((a : A) (b : B a) → Answers w l (f a b) o) → Answers w l x o
joined came second first = ⊎_elim (λ c. is_same (first c.0 c.1) (sym c.2)) (λ c. is_same (second c.0 c.1) (sym c.2)) came

-- ---- one after the other, as a name that laws fit by
unfoldable pub followed : {A : Type 0} (w : Ty) → Out A → (A → Work (Of w)) → Out (Of w)
followed w o k = next o k

pub right-id : {A : Type 0} (o : Out A) → next o give ≡ o
right-id (gives a cs) = refl
right-id (fails why cs) = refl
right-id bad_choice = refl
right-id no_choice = refl
right-id stuck = refl

pub failed-next : {A B : Type 0} (l : List ℕ) (at : ℕ) (f : Failure) (k : A → Work B) → failed l at f ≡ next (failed l at f) k
unfolding failed
failed-next l at (Fails why) k = refl
failed-next l at BadChoice k = refl
failed-next l at NoChoice k = refl
failed-next l at Stuck k = refl

-- what has no value is handed on
handed : (v w : Ty) (l : List ℕ) (f : Failure) (at : ℕ) {o : Out (Of v)} (k : Of v → Work (Of w)) → Answers v l (Not f at) o
    → Answers w l (Not f at) (followed w o k)
unfolding out_of followed
handed v w l f at k p = said-not w (failed-next l at f k ∙ ap (λ (o : Out (Of v)). next o k) p.said)

-- x is what the operand gave, o what it gives by definition, and z what its user gives
module _ (w : Ty) (l : List ℕ) where
  pub then-uint : (x z : Answer) {o : Out ℕ} {v m : ℕ} (k : ℕ → Work (Of w)) → Answers uint l x o → x ≡ AUint v m → Answers w l z (k v (drop m l))
      → Answers w l z (followed w o k)
  unfolding out_of followed
  then-uint x z k p q h = says_same h (ap (λ (o : Out ℕ). followed w o k) (sym (ap (out_of uint l) q) ∙ p.said))

  pub then-pointer : (x z : Answer) {o : Out Ptr} {r p m : ℕ} (k : Ptr → Work (Of w)) → Answers pointer l x o → x ≡ APointer r p m
      → Answers w l z (k (ptr r p) (drop m l)) → Answers w l z (followed w o k)
  unfolding out_of followed
  then-pointer x z k p q h = says_same h (ap (λ (o : Out Ptr). followed w o k) (sym (ap (out_of pointer l) q) ∙ p.said))

  pub then-bool : (x z : Answer) {o : Out Bool} {b : Bool} {m : ℕ} (k : Bool → Work (Of w)) → Answers bool l x o → x ≡ ABool b m
      → Answers w l z (k b (drop m l)) → Answers w l z (followed w o k)
  unfolding out_of followed
  then-bool x z k p q h = says_same h (ap (λ (o : Out Bool). followed w o k) (sym (ap (out_of bool l) q) ∙ p.said))

  pub else-uint : (x : Answer) {o : Out ℕ} (k : ℕ → Work (Of w)) → Answers uint l x o → OneOf (0 ∷ 2 ∷ 3 ∷ []) (tag_of answer x)
      → Answers w l x (followed w o k)
  unfolding OfType
  else-uint (ABool b at) k p h = absurd p.typed
  else-uint (AUint v at) k p h = absurd (miss (0 ∷ 2 ∷ 3 ∷ []) 1 tt h)
  else-uint (APointer a v at) k p h = absurd p.typed
  else-uint (Not f at) k p h = handed uint w l f at k p

  pub else-pointer : (x : Answer) {o : Out Ptr} (k : Ptr → Work (Of w)) → Answers pointer l x o → OneOf (0 ∷ 1 ∷ 3 ∷ []) (tag_of answer x)
      → Answers w l x (followed w o k)
  unfolding OfType
  else-pointer (ABool b at) k p h = absurd p.typed
  else-pointer (AUint v at) k p h = absurd p.typed
  else-pointer (APointer a v at) k p h = absurd (miss (0 ∷ 1 ∷ 3 ∷ []) 2 tt h)
  else-pointer (Not f at) k p h = handed pointer w l f at k p

  pub else-bool : (x : Answer) {o : Out Bool} (k : Bool → Work (Of w)) → Answers bool l x o → OneOf (1 ∷ 2 ∷ 3 ∷ []) (tag_of answer x)
      → Answers w l x (followed w o k)
  unfolding OfType
  else-bool (ABool b at) k p h = absurd (miss (1 ∷ 2 ∷ 3 ∷ []) 0 tt h)
  else-bool (AUint v at) k p h = absurd p.typed
  else-bool (APointer a v at) k p h = absurd p.typed
  else-bool (Not f at) k p h = handed bool w l f at k p

-- ---- the branch of 25 that a bool takes, as an operand of node n
unfoldable pub branch : Lent → (w : Ty) → ℕ → ℕ → ℕ → Bool → Work (Of w)
branch e w n b c y = operand e w n (if y then b else c)

-- the branch that was taken, node j, and its answer x, handed on or made anew
module _ (e : Lent) (l cs : List ℕ) (n b c j : ℕ) (y : Bool) (x : Answer) (w : Ty) where
  pub branch-handed : j ≡ (if y then b else c) → Answers w l x (operand e w n j cs) → Answers w l x (branch e w n b c y cs)
  unfolding branch
  branch-handed h p = says_same p (ap (λ (k : ℕ). operand e w n k cs) h)

  pub branch-anew : {z : Answer} → j ≡ (if y then b else c) → Answers w l x (operand e w n j cs) → x ≡ z → Answers w l z (branch e w n b c y cs)
  branch-anew h p q = is_same (branch-handed h p) q

-- ---- what a leaf says, of this list
pub says-arith : (l : List ℕ) (z : Answer) (at : ℕ) (m : Bool) (v y : ℕ) → Says uint at z (arith m v y) → Answers uint l z (arith m v y (drop at l))
says-arith l z at m v y h = h.says l

pub says-moved : (l : List ℕ) (z : Answer) (at : ℕ) (m : Bool) (r v y : ℕ) → Says pointer at z (moved_by m r v y)
    → Answers pointer l z (moved_by m r v y (drop at l))
says-moved l z at m r v y h = h.says l

pub says-valid : (l : List ℕ) (z : Answer) (at : ℕ) (rs : List Array) (r v : ℕ) → Says bool at z (valid_in rs r v)
    → Answers bool l z (valid_in rs r v (drop at l))
says-valid l z at rs r v h = h.says l

unfoldable pub tested : Test → ℕ → ℕ → Work Bool
tested k x y = give (test_of k x y)

pub says-tested : (l : List ℕ) (z : Answer) (at : ℕ) (k : Test) (x y : ℕ) → Says bool at z (give (test_of k x y)) → Answers bool l z (tested k x y (drop at l))
unfolding tested
says-tested l z at k x y h = h.says l

-- ---- a shifted pointer
module _ (at : ℕ) (m : Bool) (to v y : ℕ) {x : Answer} (s : Says uint at x (arith m v y)) where
  pub moved_then : {z last : ℕ} → x ≡ AUint z last → Says pointer at (APointer to z last) (moved_by m to v y)
  unfolding moved_by followed
  moved_then {z} {last} e =
      record { says = λ l. then-uint pointer l x (APointer to z last) (λ q. give (ptr to q)) (s.says l) e (said-pointer refl) }

  pub moved-else : OneOf (0 ∷ 2 ∷ 3 ∷ []) (tag_of answer x) → Says pointer at x (moved_by m to v y)
  unfolding moved_by followed
  moved-else h = record { says = λ l. else-uint pointer l x (λ q. give (ptr to q)) (s.says l) h }
