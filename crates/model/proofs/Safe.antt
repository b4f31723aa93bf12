-- A node of an accepted table is never stuck, in either machine, whatever the choices.
-- Assumes nothing.
use mathlib.Core.Path.{◌≡◌, refl, sym, ap, ◌∙◌, subst}
use Prim.Native.Nat.{ℕ, zero, suc, ◌+◌, ◌≤◌, ◌<◌}
use native.Mathlib.Nat.{not-suc-le-zero}
use native.Mathlib.Omega.{arith}
use mathlib.Core.Bool.{Bool, true, false}
use mathlib.Core.List.{List, [], ◌∷◌, ◌++◌, append_assoc}
use lib.ListN.{length, get_or, length-append}
use lib.Dec.{ltb, leb, eqb}
use borrow.Author.Tests.{ltb-true, lt-ltb, le-leb}
use Rattle.std.specs.Prelude.{if◌then◌else◌}
use Rattle.model.specs.Table.{Node, Table, Ty, node_at, node_kind, type_at, most}
use Rattle.model.specs.Table.Ty.{bool, uint, pointer}
use Rattle.model.specs.Table.Node.{variable, uint_constant, bool_constant, cell, plus, minus, less, at_most, equal, conditional, valid, class_variable}
use Rattle.model.specs.Table.Node.{reduced_cell, reduced_valid, no_node}
use Rattle.model.specs.Work.{Reason, Out, Work, ◌>>=◌, choose, fail, give, next}
use Rattle.model.specs.Work.Out.{gives, fails, bad_choice, no_choice, stuck}
use Rattle.model.specs.State.{MachineKind, State, Value, classed}
use Rattle.model.specs.State.MachineKind.{plain, reduced}
use Rattle.model.specs.State.Value.{Uint}
use Rattle.model.specs.Eval.{Of, Ptr, add, sum_or, array_of, as_class, below, bools, cell_of, compare, eval, eval_f, is_valid, keeps, load, of_type, present}
use Rattle.model.specs.Eval.{reduced_load, rule, size_of, contents_of, subtract, sum_or_difference, uints, value, variable_of}
use Rattle.model.specs.Agree.{array_at}
use Rattle.model.specs.Accepted.{Accepted, HasType, Holds, Laid, node_type, ty_number}
use Rattle.model.specs.Demand3.{Leaves, TakesChoices, used_of}
use Rattle.model.proofs.Memory.{inside}
use Rattle.model.proofs.Keep.{index_in}
use Rattle.model.proofs.Typing.{Fits, Moving, node-fits}

-- ---- choices taken and left

taken-used : (cs xs ds : List ℕ) → cs ≡ xs ++ ds → used_of cs ds ≡ length xs
taken-used cs xs ds e = omega (arith, simp length-append at (ap length e))

taking : {m : MachineKind} {cs ds : List ℕ} (xs : List ℕ) → cs ≡ xs ++ ds → (m ≡ plain → xs ≡ []) → Leaves m cs ds
taking {cs = cs} {ds = ds} xs e none = record { taken = xs; split = e; used = taken-used cs xs ds e; plain_none = none }

pub leaves_all : (m : MachineKind) (cs : List ℕ) → Leaves m cs cs
leaves_all m cs = taking [] refl (λ e. refl)

pub leaves-then : (m : MachineKind) (cs ds es : List ℕ) → Leaves m cs ds → Leaves m ds es → Leaves m cs es
leaves-then m cs ds es x y =
    taking (x.taken ++ y.taken) (x.split ∙ ap (λ l. x.taken ++ l) y.split ∙ sym (append_assoc x.taken y.taken es))
    (λ e. rw (x.plain_none e, y.plain_none e))

-- one is taken
leaves-tail : (c : ℕ) (cs : List ℕ) → Leaves reduced (c ∷ cs) cs
leaves-tail c cs = taking (c ∷ []) refl (λ e. absurd (let z : ◌≡◌ {A = ℕ} 0 1 = cc in omega arith))

-- the plain machine leaves every choice
pub leaves-plain : {cs left : List ℕ} → Leaves plain cs left → left ≡ cs
leaves-plain {left = left} x = sym (x.split ∙ ap (λ l. l ++ left) (x.plain_none refl))

-- not stuck, the plain machine taking no choice, and a value that it gives has the property
abbrev pub Held : {A : Type 0} → MachineKind → (A → Type 0) → List ℕ → Out A → Type 0
Held m P cs (gives a left) = P a × Leaves m cs left
Held m P cs (fails why left) = Leaves m cs left
Held m P cs bad_choice = TakesChoices m
Held m P cs no_choice = TakesChoices m
Held m P cs stuck = ⊥

pub record Safe {A : Type 0} (m : MachineKind) (P : A → Type 0) (w : Work A) : Type 0 where
  pub held : (cs : List ℕ) → Held m P cs (w cs)

pub safe-give : {m : MachineKind} {A : Type 0} {P : A → Type 0} {a : A} → P a → Safe m P (give a)
safe-give {m} h = record { held = λ cs. (h, leaves_all m cs) }

pub safe-fail : {m : MachineKind} {A : Type 0} {P : A → Type 0} {why : Reason} → Safe m P (fail {A = A} why)
safe-fail {m} = record { held = λ cs. leaves_all m cs }

pub safe-if : {m : MachineKind} {A : Type 0} {P : A → Type 0} (b : Bool) {v w : Work A} → (b ≡ true → Safe m P v) → (b ≡ false → Safe m P w)
    → Safe m P (if b then v else w)
safe-if true x y = x refl
safe-if false x y = y refl

pub safe-bind : {m : MachineKind} {A B : Type 0} {P : A → Type 0} {Q : B → Type 0} {w : Work A} {k : A → Work B} → Safe m P w
    → ((a : A) → P a → Safe m Q (k a)) → Safe m Q (w >>= k)
safe-bind {m} {A} {B} {P} {Q} {w} {k} x y = record { held = λ cs. go cs (w cs) (x.held cs) }
  where
    then-held : (cs left : List ℕ) → Leaves m cs left → (o : Out B) → Held m Q left o → Held m Q cs o
    then-held cs left l (gives b ds) h = (h.0, leaves-then m cs left ds l h.1)
    then-held cs left l (fails why ds) h = leaves-then m cs left ds l h
    then-held cs left l bad_choice h = h
    then-held cs left l no_choice h = h
    then-held cs left l stuck h = h

    go : (cs : List ℕ) (o : Out A) → Held m P cs o → Held m Q cs (next o k)
    go cs (gives a left) h = then-held cs left h.1 (k a left) ((y a h.0).held left)
    go cs (fails why left) h = h
    go cs bad_choice h = h
    go cs no_choice h = h
    go cs stuck h = h

pub safe-any : {m : MachineKind} {A : Type 0} {P : A → Type 0} {w : Work A} → Safe m P w → Safe m (λ a. Unit {0}) w
safe-any {m} {A} {P} {w} x = record { held = λ cs. go cs (w cs) (x.held cs) }
  where
    go : (cs : List ℕ) (o : Out A) → Held m P cs o → Held m (λ a. Unit {0}) cs o
    go cs (gives a left) h = (tt, h.1)
    go cs (fails why left) h = h
    go cs bad_choice h = h
    go cs no_choice h = h
    go cs stuck h = h

pub safe-choose : {m : MachineKind} → m ≡ reduced → (ok : ℕ → Bool) → Safe m (λ v. ok v ≡ true) (choose ok)
safe-choose {m} e ok = subst (λ m. Safe m (λ v. ok v ≡ true) (choose ok)) (sym e) (record { held = go })
  where
    pick : (b : Bool) (c : ℕ) (cs : List ℕ) → ok c ≡ b → Held reduced (λ v. ok v ≡ true) (c ∷ cs) (if b then gives c cs else bad_choice)
    pick true c cs e = (e, leaves-tail c cs)
    pick false c cs e = tt

    go : (cs : List ℕ) → Held reduced (λ v. ok v ≡ true) cs (choose ok cs)
    go [] = tt
    go (c ∷ cs) = pick (ok c) c cs refl

-- a state that a table can have, as far as its nodes go
pub record Sound (ps : List ℕ) (m : MachineKind) (t : Table) (s : State) : Type 0 where
  pub number : length s.vars ≡ t.decls
  pub variable : (i : ℕ) → i < t.decls → Holds (classed m t i) (length s.arrays) (type_at t i) (get_or s.vars i (Uint 0))
  pub laid : Laid ps s.arrays s.cells
  pub plain : m ≡ plain → (i : ℕ) → i < length s.arrays → (array_at s.arrays i).reduced ≡ false

-- a pointer among N arrays; anything else is good
abbrev pub Good : ℕ → (w : Ty) → Of w → Type 0
Good N bool x = Unit {0}
Good N uint x = Unit {0}
Good N pointer x = x.array ≤ N

pub value-typed : (N : ℕ) (w : Ty) (x : Of w) → Good N w x → HasType N w (value w x)
value-typed N bool x g = (x, refl)
value-typed N uint x g = (x, refl)
value-typed N pointer x g = (x.array, x.place, refl, g)

module _ {m : MachineKind} (N : ℕ) where
  safe-of_type : (w : Ty) (v : Value) → HasType N w v → Safe m (Good N w) (of_type w v)
  safe-of_type bool v h = rw h.1 (safe-give tt)
  safe-of_type uint v h = rw h.1 (safe-give tt)
  safe-of_type pointer v h = rw h.2 (safe-give h.3)

  safe-as_class : (v : Value) → Holds true N uint v → Safe m (λ x. Unit {0}) (as_class v)
  safe-as_class v h = rw h.1 (safe-give tt)

  safe-uints : (w : Ty) {x : Work ℕ} → uint ≡ w → Safe m (λ x. Unit {0}) x → Safe m (Good N w) (uints w x)
  safe-uints bool e x = absurd (omega (arith, ap ty_number e))
  safe-uints uint e x = x
  safe-uints pointer e x = absurd (omega (arith, ap ty_number e))

  safe-bools : (w : Ty) {x : Work Bool} → bool ≡ w → Safe m (λ x. Unit {0}) x → Safe m (Good N w) (bools w x)
  safe-bools bool e x = x
  safe-bools uint e x = absurd (omega (arith, ap ty_number e))
  safe-bools pointer e x = absurd (omega (arith, ap ty_number e))

  safe-sum : (op : ℕ → ℕ → Work ℕ) → ((x y : ℕ) → Safe m (λ z. Unit {0}) (op x y)) → (w : Ty) → Moving w → {x : Work (Of w)} {y : Work ℕ}
      → Safe m (Good N w) x → Safe m (λ x. Unit {0}) y → Safe m (Good N w) (sum_or_difference op w x y)
  safe-sum op h bool g x y = absurd g
  safe-sum op h uint g x y = safe-bind x (λ a _. safe-bind y (λ b _. h a b))
  safe-sum op h pointer g x y = safe-bind x (λ p k. safe-bind y (λ b _. safe-bind (h p.place b) (λ z _. safe-give k)))

module _ {m : MachineKind} where
  safe-compare : (test : ℕ → ℕ → Bool) {x y : Work ℕ} → Safe m (λ x. Unit {0}) x → Safe m (λ x. Unit {0}) y → Safe m (λ x. Unit {0}) (compare test x y)
  safe-compare test x y = safe-bind x (λ a _. safe-bind y (λ b _. safe-give tt))

  pub safe-sum_or : (why : Reason) (x y : ℕ) → Safe m (λ z. Unit {0}) (sum_or why x y)
  safe-sum_or why x y = safe-if (leb (x + y) most) (λ e. safe-give tt) (λ e. safe-fail)

  safe-subtract : (x y : ℕ) → Safe m (λ z. Unit {0}) (subtract x y)
  safe-subtract x y = safe-if (leb y x) (λ e. safe-give tt) (λ e. safe-fail)

module _ (ps : List ℕ) (m : MachineKind) (t : Table) (s : State) (S : Sound ps m t s) where
  safe-variable : (a : ℕ) → a < t.decls → (b : Bool) → classed m t a ≡ b → Safe m (Holds b (length s.arrays) (type_at t a)) (variable_of s.vars a)
  safe-variable a h b e = rw (lt-ltb a (length s.vars) (omega (arith, S.number))) (safe-give (rw e at (S.variable a h)))

  -- a pointer's array, if there is one
  pub safe-array : (i : ℕ) → i ≤ length s.arrays → Safe m (λ r. (k : ℕ) × (k < length s.arrays) × (array_at s.arrays k ≡ r)) (array_of s.arrays i)
  safe-array zero h = safe-fail
  safe-array (suc i) h = rw (lt-ltb i (length s.arrays) h) (safe-give (i, h, refl))

  safe-cell : (k j : ℕ) → k < length s.arrays → j < size_of ps (array_at s.arrays k)
      → Safe m (λ x. Unit {0}) (cell_of ps s.cells (array_at s.arrays k) j)
  safe-cell k j h l = rw (lt-ltb _ _ l, lt-ltb _ _ (inside ps S.laid k h j l)) (safe-give tt)

  safe-load : m ≡ plain → (x : Ptr) → x.array ≤ length s.arrays → Safe m (λ x. Unit {0}) (load ps s.arrays s.cells x)
  safe-load e x h =
      safe-bind (safe-array x.array h)
      (λ r k. rw (← k.2) (safe-if (ltb x.place (array_at s.arrays k.0).len)
      (λ d. safe-cell k.0 x.place k.1 (rw (S.plain e k.0 k.1) (ltb-true _ _ d)))
      (λ d. safe-fail)))

  safe-reduced_load : m ≡ reduced → (x : Ptr) → x.array ≤ length s.arrays → Safe m (λ x. Unit {0}) (reduced_load ps s.arrays s.cells x)
  safe-reduced_load e x h =
      safe-bind (safe-array x.array h)
      (λ r k. rw (← k.2) (safe-if (ltb x.place (array_at s.arrays k.0).len)
      (λ d. safe-if (keeps ps (array_at s.arrays k.0) x.place)
      (λ g. safe-cell k.0 _ k.1 (index_in ps (array_at s.arrays k.0).reduced _ x.place (ltb-true _ _ d) g))
      (λ g. safe-any (safe-choose e (λ v. true))))
      (λ d. safe-fail)))

  safe-valid : (i q : ℕ) → i ≤ length s.arrays → Safe m (λ x. Unit {0}) (is_valid s.arrays i q)
  safe-valid zero q h = safe-give tt
  safe-valid (suc i) q h = safe-bind (safe-array (suc i) h) (λ r k. safe-give tt)

  module _ (ty : ℕ → Ty) where
    safe-rule : (w : Ty) (k : Node) (a b c n : ℕ) → Fits m t ty k a b c n → ty n ≡ w → (ev : (v : Ty) → ℕ → Work (Of v))
        → ((v : Ty) (o : ℕ) → o < n → ty o ≡ v → Safe m (Good (length s.arrays) v) (ev v o))
        → Safe m (Good (length s.arrays) w) (rule ps (contents_of s) w k a b c ev)
    unfolding rule
    safe-rule w variable a b c n f e ev ih = safe-bind (safe-variable a f.0 false f.1) (λ v h. safe-of_type _ w v (rw (f.2 ∙ e) at h))
    safe-rule w uint_constant a b c n f e ev ih = safe-uints _ w (f ∙ e) (safe-give tt)
    safe-rule w bool_constant a b c n f e ev ih = safe-bools _ w (f ∙ e) (safe-give tt)
    safe-rule w cell a b c n f e ev ih = safe-uints _ w (f.2 ∙ e) (safe-bind (ih pointer a f.0 f.1) (safe-load f.3))
    safe-rule w plus a b c n f e ev ih = safe-sum _ add (safe-sum_or _) w (subst Moving e f.3) (ih w a f.0 (f.2 ∙ e)) (ih uint b f.1 f.4)
    safe-rule w minus a b c n f e ev ih = safe-sum _ subtract safe-subtract w (subst Moving e f.3) (ih w a f.0 (f.2 ∙ e)) (ih uint b f.1 f.4)
    safe-rule w less a b c n f e ev ih = safe-bools _ w (f.4 ∙ e) (safe-compare ltb (ih uint a f.0 f.2) (ih uint b f.1 f.3))
    safe-rule w at_most a b c n f e ev ih = safe-bools _ w (f.4 ∙ e) (safe-compare leb (ih uint a f.0 f.2) (ih uint b f.1 f.3))
    safe-rule w equal a b c n f e ev ih = safe-bools _ w (f.4 ∙ e) (safe-compare eqb (ih uint a f.0 f.2) (ih uint b f.1 f.3))
    safe-rule w conditional a b c n f e ev ih = safe-bind (ih bool a f.0 f.3)
        (λ x _. safe-if x (λ _. ih w b f.1 (f.4 ∙ e)) (λ _. ih w c f.2 (f.5 ∙ e)))
    safe-rule w valid a b c n f e ev ih = safe-bools _ w (f.2 ∙ e) (safe-bind (ih pointer a f.0 f.1) (λ x. safe-valid x.array x.place))
    safe-rule w class_variable a b c n f e ev ih =
        safe-uints _ w (f.2 ∙ e)
        (safe-bind (safe-bind (safe-variable a f.0 true f.1) (safe-as_class (length s.arrays))) (λ k _. safe-any (safe-choose f.3 _)))
    safe-rule w reduced_cell a b c n f e ev ih = safe-uints _ w (f.2 ∙ e) (safe-bind (ih pointer a f.0 f.1) (safe-reduced_load f.3))
    safe-rule w reduced_valid a b c n f e ev ih = safe-bools _ w (f.2 ∙ e) (safe-bind (ih pointer a f.0 f.1) (λ x. safe-valid x.array x.place))
    safe-rule w no_node a b c n f e ev ih = absurd f

    safe-present : (w : Ty) (x : Of w) → Good (length s.arrays) w x → Safe m (Good (length s.arrays) w) (present (length s.arrays) w x)
    safe-present bool x g = safe-give tt
    safe-present uint x g = safe-give tt
    safe-present pointer x g = rw (le-leb x.array (length s.arrays) g) (safe-give g)

    safe-eval_f : ((n : ℕ) → n < t.nodes → Fits m t ty (node_kind (node_at t n).kind) (node_at t n).a (node_at t n).b (node_at t n).c n)
        → (f : ℕ) (w : Ty) (n : ℕ) → n < f → n < t.nodes → ty n ≡ w → Safe m (Good (length s.arrays) w) (eval_f ps (contents_of s) t f w n)
    unfolding eval_f
    safe-eval_f F zero w n h k e = absurd (not-suc-le-zero h)
    safe-eval_f F (suc f) w n h k e =
        safe-bind
        (safe-rule w (node_kind (node_at t n).kind) (node_at t n).a (node_at t n).b (node_at t n).c n (F n k) e (below n (eval_f ps (contents_of s) t f))
        (λ v o l q. rw (lt-ltb o n l) (safe-eval_f F f v o (omega arith) (omega arith) q))) (safe-present w)

  -- a node that has the type its user takes
  pub safe-eval : Accepted m t → (w : Ty) (n : ℕ) → n < t.nodes → node_type t n ≡ w → Safe m (Good (length s.arrays) w) (eval ps (contents_of s) t w n)
  unfolding eval
  safe-eval A w n k e = safe-eval_f (node_type t) (node-fits m t A) (suc n) w n (omega arith) k e
