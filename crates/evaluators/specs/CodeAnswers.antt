-- What an answer of an evaluator says, and what an evaluator is lent.
use Rattle.std.specs.Prelude.{◌≡◌, ℕ, List, drop}
use Rattle.model.specs.Table.{Ty}
use Rattle.model.specs.Table.Ty.{bool, uint, pointer}
use Rattle.model.specs.Work.{Out, Work, give, wrong}
use Rattle.model.specs.State.{Value, Array}
use Rattle.model.specs.Eval.{Contents, Of, Ptr, ptr, bools, uints, below, eval}
use Rattle.prepared.specs.View.{arrays_of}
use Rattle.prepared.specs.Own.{own_table, own_vars, places_of}
unfoldable pub use Rattle.machine.specs.Reasons.{failed}
use Rattle.evaluators.specs.declared.answers.Answer.{Answer}
use Rattle.evaluators.specs.declared.answers.Answer.TheVariants.{Bool as ABool, Uint as AUint, Pointer as APointer, Not}

-- ---- answers
abbrev pub pointers : (w : Ty) → Work Ptr → Work (Of w)
pointers bool m = wrong
pointers uint m = wrong
pointers pointer m = m

-- what an answer with a cursor into the list l says to a user of the type w: a value of another type is no end
unfoldable pub out_of : (w : Ty) → List ℕ → Answer → Out (Of w)
out_of w l (ABool b at) = bools w (give b) (drop at l)
out_of w l (AUint x at) = uints w (give x) (drop at l)
out_of w l (APointer r p at) = pointers w (give (ptr r p)) (drop at l)
out_of w l (Not f at) = failed l at f

-- a value is of the type w
unfoldable pub OfType : Ty → Answer → Type 0
OfType bool (ABool b at) = Unit {0}
OfType bool (AUint x at) = ⊥
OfType bool (APointer r p at) = ⊥
OfType uint (ABool b at) = ⊥
OfType uint (AUint x at) = Unit {0}
OfType uint (APointer r p at) = ⊥
OfType pointer (ABool b at) = ⊥
OfType pointer (AUint x at) = ⊥
OfType pointer (APointer r p at) = Unit {0}
OfType w (Not f at) = Unit {0}

-- an answer to a user of the type w says what o is, with a value of that type if there is one
pub record Answers (w : Ty) (l : List ℕ) (r : Answer) (o : Out (Of w)) : Type 0 where
  pub said : out_of w l r ≡ o
  pub typed : OfType w r

-- ... with the cursor at `at`, whatever the list
pub record Says (w : Ty) (at : ℕ) (r : Answer) (m : Work (Of w)) : Type 0 where
  pub says : (l : List ℕ) → Answers w l r (m (drop at l))

-- ---- what an evaluator is lent: the run's own copy, the record's columns and the cells
pub record Lent : Type 0 where
  pub own : List ℕ
  pub count : ℕ
  pub numbers : List ℕ
  pub bases : List ℕ
  pub firsts : List ℕ
  pub lengths : List ℕ
  pub shapes : List ℕ
  pub cells : List ℕ

abbrev pub lent : List ℕ → ℕ → List ℕ → List ℕ → List ℕ → List ℕ → List ℕ → List ℕ → Lent
lent own n numbers bases firsts lengths shapes cells =
    record { own = own; count = n; numbers = numbers; bases = bases; firsts = firsts; lengths = lengths; shapes = shapes; cells = cells }

abbrev pub vars_in : Lent → List Value
vars_in e = own_vars e.own e.numbers e.bases

abbrev pub arrays_in : Lent → List Array
arrays_in e = arrays_of e.count e.firsts e.lengths e.shapes

abbrev pub contents_in : Lent → Contents
contents_in e = record { vars = vars_in e; arrays = arrays_in e; cells = e.cells }

-- node n, which must be below `user`, for the type w: the model's own
unfoldable pub operand : Lent → (w : Ty) → ℕ → ℕ → Work (Of w)
operand e w user n = below user (eval (places_of e.own) (contents_in e) (own_table e.own)) w n

-- ... which the answer r says, with the cursor into `list` at `at`
abbrev pub WorksOut : (w : Ty) (own cells list ns bs fs ls hs : List ℕ) (count user n at : ℕ) → Answer → Type 0
WorksOut w own cells list ns bs fs ls hs count user n at r =
    Answers w list r (operand (lent own count ns bs fs ls hs cells) w user n (drop at list))
