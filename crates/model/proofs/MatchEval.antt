-- The second run works a node out as the first does, if it is handed the numbers that only it takes as choices, and the first's choices.
-- Assumes nothing.
use mathlib.Core.Path.{◌≡◌, refl, sym, ap, ◌∙◌, fun_ext, subst}
use Prim.Native.Nat.{ℕ, zero, suc, ◌+◌, ◌<◌}
use mathlib.Core.Bool.{Bool, true, false, false≢true, true≢false}
use mathlib.Core.List.{List, [], ◌++◌}
use lib.ListN.{length, get_or}
use lib.Dec.{ltb, leb, eqb}
use borrow.Author.Tests.{leb-true, ltb-true, lt-ltb, eq-eqb}
use Rattle.std.specs.Prelude.{if◌then◌else◌}
use Rattle.model.specs.Class.{class, tracked}
use Rattle.model.specs.Table.{Node, Table, Ty, marked_uint, node_at, node_kind, most}
use Rattle.model.specs.Table.Ty.{bool, uint, pointer}
use Rattle.model.specs.Table.Node.{variable, uint_constant, bool_constant, cell, plus, minus, less, at_most, equal, conditional, valid, class_variable}
use Rattle.model.specs.Table.Node.{reduced_cell, reduced_valid, no_node}
use Rattle.model.specs.Work.{Reason, Work, ◌>>=◌, choose, fail, give}
use Rattle.model.specs.Work.Reason.{past_length}
use Rattle.model.specs.State.{Array, MachineKind, State, Value, places_in}
use Rattle.model.specs.State.MachineKind.{plain, reduced}
use Rattle.model.specs.State.Value.{Truth, Uint, Class, Pointer}
use Rattle.model.specs.Eval.{Of, Ptr, Contents, as_bool, as_class, as_pointer, as_uint, below, bools, compare, eval_f, in_class, index_of, is_valid, keeps}
use Rattle.model.specs.Eval.{load, of_type, present, ptr, reduced_load, rule, contents_of, add, subtract, sum_or, sum_or_difference, uints, variable_of}
use Rattle.model.specs.Agree.{SameVariable, array_at}
use Rattle.model.specs.Accepted.{Laid, is_reduced}
use Rattle.model.specs.Writer.{choices_f, choices_rule, given, load_choices, number_of}
use Rattle.model.proofs.Match.{Match, Plainly, listed, match-bind, match-choose, match-give, match-last, match-told, matches-are, matches-as}
use Rattle.model.proofs.Match.{matches-either, matches-fail, matches-give, matches-if, matches-wrong}
use Rattle.model.proofs.Memory.{inside}
use Rattle.model.proofs.KindsIn.{PlainNode, cell_in, node_in, valid_in}
use Rattle.model.proofs.Linked.{AlsoMarked, Closed, Extra, FitOf, FitValue, Linked, Related, only_second}
use Rattle.model.proofs.Keep.{index_in, kept-also}

-- ---- what the plain machine has, and the reduced one

pub never-plain : {m : MachineKind} → m ≡ reduced → Plainly m [] → ⊥
never-plain e h = subst (λ m. Plainly m []) e h

pub same-places : {m : MachineKind} → m ≡ reduced → (ps : List ℕ) → places_in m ps ≡ ps
same-places e ps = ap (λ m. places_in m ps) e

pub no-places : (m : MachineKind) (ps : List ℕ) → Plainly m [] → places_in m ps ≡ []
no-places plain ps h = refl
no-places reduced ps h = absurd h

pub is_plain : (m : MachineKind) → Plainly m [] → m ≡ plain
is_plain plain h = refl
is_plain reduced h = absurd h

pub unreduced : {m : MachineKind} (b c : Bool) → AlsoMarked m b c → m ≡ plain → b ≡ false
unreduced true c h e = absurd (false≢true (ap is_reduced (sym e ∙ (h refl).0)))
unreduced false c h e = refl

-- all arrays plain: 28 is 19 then, and 40 is 34 (rule 3.19)
abbrev pub Flat : List Array → Type 0
Flat rs = (i : ℕ) → i < length rs → (array_at rs i).reduced ≡ false

flat-load : (ps : List ℕ) (rs : List Array) (cells : List ℕ) → Flat rs → load ps rs cells ≡ reduced_load ps rs cells
flat-load ps rs cells flat = fun_ext λ p. fun_ext λ cs. at p.array p.place cs
  where
    at : (i q : ℕ) (cs : List ℕ) → load ps rs cells (ptr i q) cs ≡ reduced_load ps rs cells (ptr i q) cs
    at zero q cs = refl
    at (suc i) q cs = go (ltb i (length rs)) refl
      where
        go : (d : Bool) → ltb i (length rs) ≡ d → load ps rs cells (ptr (suc i) q) cs ≡ reduced_load ps rs cells (ptr (suc i) q) cs
        go true d = simp (d, flat i (ltb-true i _ d))
        go false d = simp d

module _ (ps : List ℕ) (s : Contents) (w : Ty) (a b c : ℕ) (ev : (v : Ty) → ℕ → Work (Of v)) where
  cell-acts : (m : MachineKind) → (m ≡ plain → Flat s.arrays) → rule ps s w (cell_in m) a b c ev ≡ rule ps s w reduced_cell a b c ev
  unfolding rule
  cell-acts plain h = ap (λ (l : Ptr → Work ℕ). uints w (ev pointer a >>= l)) (flat-load ps s.arrays s.cells (h refl))
  cell-acts reduced h = refl

  valid-acts : (m : MachineKind) → rule ps s w (valid_in m) a b c ev ≡ rule ps s w reduced_valid a b c ev
  unfolding rule
  valid-acts plain = refl
  valid-acts reduced = refl

-- ---- what is alike on both sides

module _ {m : MachineKind} {F : ℕ → Type 0} where
  match-as_uint : (v : Value) → FitValue F v → Match m F F (as_uint v) (as_uint v) []
  match-as_uint (Truth b) h = matches-wrong
  match-as_uint (Uint n) h = match-give h
  match-as_uint (Class k) h = matches-wrong
  match-as_uint (Pointer r p) h = matches-wrong

  match-as_bool : (v : Value) → FitValue F v → Match m F (λ b. Unit {0}) (as_bool v) (as_bool v) []
  match-as_bool (Truth b) h = match-give h
  match-as_bool (Uint n) h = matches-wrong
  match-as_bool (Class k) h = matches-wrong
  match-as_bool (Pointer r p) h = matches-wrong

  match-as_pointer : (v : Value) → FitValue F v → Match m F (λ p. F p.place) (as_pointer v) (as_pointer v) []
  match-as_pointer (Truth b) h = matches-wrong
  match-as_pointer (Uint n) h = matches-wrong
  match-as_pointer (Class k) h = matches-wrong
  match-as_pointer (Pointer r p) h = match-give h

  match-as_class : (v : Value) → FitValue F v → Match m F (λ k. Unit {0}) (as_class v) (as_class v) []
  match-as_class (Truth b) h = matches-wrong
  match-as_class (Uint n) h = matches-wrong
  match-as_class (Class k) h = match-give h
  match-as_class (Pointer r p) h = matches-wrong

  match-of_type : (w : Ty) (v : Value) → FitValue F v → Match m F (FitOf F w) (of_type w v) (of_type w v) []
  match-of_type bool v h = match-as_bool v h
  match-of_type uint v h = match-as_uint v h
  match-of_type pointer v h = match-as_pointer v h

  pub match-sum_or : {t : Table} → Closed F t → (why : Reason) (x y : ℕ) → Match m F F (sum_or why x y) (sum_or why x y) []
  match-sum_or C why x y = go (leb (x + y) most) refl
    where
      go : (b : Bool) → leb (x + y) most ≡ b → Match m F F (if b then give (x + y) else fail why) (if b then give (x + y) else fail why) []
      go true e = match-give (C.sum x y (leb-true (x + y) most e))
      go false e = matches-fail

  match-subtract : {t : Table} → Closed F t → (x y : ℕ) → F x → Match m F F (subtract x y) (subtract x y) []
  match-subtract C x y h = matches-either (leb y x) (match-give (C.difference x y h)) matches-fail

  -- to a user of the type, or of another
  match-uints : (w : Ty) {f r : Work ℕ} {xs : List ℕ} → Match m F F f r xs → Match m F (FitOf F w) (uints w f) (uints w r) xs
  match-uints bool x = matches-wrong
  match-uints uint x = x
  match-uints pointer x = matches-wrong

  match-bools : (w : Ty) {f r : Work Bool} {xs : List ℕ} → Match m F (λ b. Unit {0}) f r xs → Match m F (FitOf F w) (bools w f) (bools w r) xs
  match-bools bool x = x
  match-bools uint x = matches-wrong
  match-bools pointer x = matches-wrong

  match-sum_or_difference : (op : ℕ → ℕ → Work ℕ) → ((x y : ℕ) → F x → Match m F F (op x y) (op x y) [])
      → (w : Ty) {f r : Work (Of w)} {g q : Work ℕ} {xs ys : List ℕ} → Match m F (FitOf F w) f r xs → Match m F F g q ys
      → Match m F (FitOf F w) (sum_or_difference op w f g) (sum_or_difference op w r q) (xs ++ given (f []) (λ x. ys))
  match-sum_or_difference op h bool x y = matches-wrong
  match-sum_or_difference op h uint x y = match-bind x (λ a k. match-last y (λ b _. h a b k))
  match-sum_or_difference op h pointer x y = match-bind x (λ p k. match-last y (λ b _. match-last (h p.place b k) (λ z l. match-give l)))

  match-compare : (test : ℕ → ℕ → Bool) {f r g q : Work ℕ} {xs ys : List ℕ} → Match m F F f r xs → Match m F F g q ys
      → Match m F (λ b. Unit {0}) (compare test f g) (compare test r q) (xs ++ given (f []) (λ x. ys))
  match-compare test x y = match-bind x (λ a _. match-last y (λ b _. match-give tt))

-- ---- variables and cells

-- a cell of an array that is there, at a place below its length
load-in : (ps : List ℕ) {rs : List Array} {cells : List ℕ} → Laid ps rs cells → (i q : ℕ) → ltb i (length rs) ≡ true → ltb q (array_at rs i).len ≡ true
    → (cs : List ℕ)
    → reduced_load ps rs cells (ptr (suc i) q) cs
    ≡ (if◌then◌else◌ {A = Work ℕ} (keeps ps (array_at rs i) q) (give (get_or cells ((array_at rs i).start + index_of ps (array_at rs i) q) 0))
    (choose (λ v. true))) cs
load-in ps {rs} {cells} L i q d e cs = go (keeps ps (array_at rs i) q) refl
  where
    go : (g : Bool) → keeps ps (array_at rs i) q ≡ g
        → reduced_load ps rs cells (ptr (suc i) q) cs
        ≡ (if◌then◌else◌ {A = Work ℕ} g (give (get_or cells ((array_at rs i).start + index_of ps (array_at rs i) q) 0)) (choose (λ v. true))) cs
    go true g =
        let l = index_in ps (array_at rs i).reduced _ q (ltb-true q _ e) g in
        simp (d, e, g, lt-ltb _ _ l, lt-ltb _ _ (inside ps L i (ltb-true i _ d) _ l))
    go false g = simp (d, e, g)

if-same : {A : Type 0} (b : Bool) {x : A} → x ≡ (if b then x else x)
if-same true = refl
if-same false = refl

module _ {m : MachineKind} {F : ℕ → Type 0} {ps : List ℕ} {extra : Extra} {us : ℕ → Bool} {t : Table} {ks : List Bool} {p r : State}
    (C : Closed F t) (uints-also : (i : ℕ) → AlsoMarked m (us i) (marked_uint t i)) (A : Linked m F ps extra t (only_second us (marked_uint t)) ks p r) where
  abbrev fs : List ℕ
  fs = places_in m ps

  same-variable : (a : ℕ) → only_second us (marked_uint t) a ≡ false → Match m F (FitValue F) (variable_of p.vars a) (variable_of r.vars a) []
  same-variable a o = go (ltb a (length p.vars)) refl
    where
      go : (d : Bool) → ltb a (length p.vars) ≡ d → Match m F (FitValue F) (variable_of p.vars a) (variable_of r.vars a) []
      go true d = matches-as (λ cs. simp d) (λ cs. simp (A.vars.number, d)) (matches-give (rw o at (A.vars.variable a (ltb-true a _ d)), A.fit_vars a))
      go false d = matches-as (λ cs. simp d) (λ cs. simp (A.vars.number, d)) matches-wrong

  match-variable : (w : Ty) (a b c : ℕ) (ev ev' : (v : Ty) → ℕ → Work (Of v))
      → Match m F (FitOf F w) (rule fs (contents_of p) w (if us a then class_variable else variable) a b c ev)
      (rule ps (contents_of r) w (if marked_uint t a then class_variable else variable) a b c ev')
      (if marked_uint t a then given (variable_of p.vars a []) number_of else [])
  unfolding rule
  match-variable w a b c ev ev' = go (us a) refl (marked_uint t a) refl
    where
      told : (w : Ty) (n : ℕ) → F n → ltb a (length p.vars) ≡ true → get_or p.vars a (Uint 0) ≡ Uint n → get_or r.vars a (Uint 0) ≡ Class (class ps n)
          → Match m F (FitOf F w) (variable_of p.vars a >>= of_type w) (uints w (in_class ps r.vars a)) (given (variable_of p.vars a []) number_of)
      told bool n k d v u = matches-as (λ cs. simp (d, v)) (λ cs. refl) matches-wrong
      told uint n k d v u =
          matches-as (λ cs. simp (d, v)) (λ cs. simp (A.vars.number, d, u))
          (listed (λ h. simp (d, v)) (match-told (λ x. eqb (class ps x) (class ps n)) n (eq-eqb (class ps n) (class ps n) refl) k))
      told pointer n k d v u = matches-as (λ cs. simp (d, v)) (λ cs. refl) matches-wrong

      missing : (w : Ty) → ltb a (length p.vars) ≡ false
          → Match m F (FitOf F w) (variable_of p.vars a >>= of_type w) (uints w (in_class ps r.vars a)) (given (variable_of p.vars a []) number_of)
      missing bool d = matches-as (λ cs. simp d) (λ cs. refl) matches-wrong
      missing uint d = matches-as (λ cs. simp d) (λ cs. simp (A.vars.number, d)) matches-wrong
      missing pointer d = matches-as (λ cs. simp d) (λ cs. refl) matches-wrong

      only-second : (w : Ty) (d : Bool) → ltb a (length p.vars) ≡ d → only_second us (marked_uint t) a ≡ true
          → Match m F (FitOf F w) (variable_of p.vars a >>= of_type w) (uints w (in_class ps r.vars a)) (given (variable_of p.vars a []) number_of)
      only-second w true d o =
          let s : SameVariable ps true (get_or p.vars a (Uint 0)) (get_or r.vars a (Uint 0)) = rw o at (A.vars.variable a (ltb-true a _ d)) in
          told w s.0 (subst (FitValue F) s.1 (A.fit_vars a)) d s.1 s.2
      only-second w false d o = missing w d

      both : m ≡ reduced → only_second us (marked_uint t) a ≡ false
          → Match m F (FitOf F w) (uints w (in_class fs p.vars a)) (uints w (in_class ps r.vars a)) (given (variable_of p.vars a []) number_of)
      both e o =
          match-uints w
          (listed (λ h. absurd (never-plain e h))
          (match-bind (match-last (same-variable a o) match-as_class)
          (λ k _. subst (λ qs. Match m F F (choose (λ x. eqb (class qs x) k)) (choose (λ x. eqb (class ps x) k)) []) (sym (same-places e ps))
          (match-choose (never-plain e) (λ x. eqb (class ps x) k)))))

      go : (f : Bool) → us a ≡ f → (g : Bool) → marked_uint t a ≡ g
          → Match m F (FitOf F w) (rule fs (contents_of p) w (if f then class_variable else variable) a b c ev)
          (rule ps (contents_of r) w (if g then class_variable else variable) a b c ev')
          (if g then given (variable_of p.vars a []) number_of else [])
      go false f false g = match-last (same-variable a (simp (f, g))) (match-of_type w)
      go false f true g = only-second w (ltb a (length p.vars)) refl (simp (f, g))
      go true f false g = absurd (false≢true (sym g ∙ (uints-also a f).1))
      go true f true g = both (uints-also a f).0 (simp f)

  pub first_flat : m ≡ plain → Flat p.arrays
  first_flat e i h = unreduced (array_at p.arrays i).reduced (array_at r.arrays i).reduced (A.memory.also i h) e

  match-load' : (i q : ℕ)
      → Match m F F (reduced_load fs p.arrays p.cells (ptr i q)) (reduced_load ps r.arrays r.cells (ptr i q)) (load_choices ps t ks p (ptr i q))
  match-load' zero q = matches-fail
  match-load' (suc i) q = go (ltb i (length p.arrays)) refl (ltb q (array_at p.arrays i).len) refl
    where
      x : ℕ
      x = get_or p.cells ((array_at p.arrays i).start + index_of fs (array_at p.arrays i) q) 0

      not-kept : m ≡ plain → keeps fs (array_at p.arrays i) q ≡ false → i < length p.arrays → ⊥
      not-kept e f h = true≢false (simp (first_flat e i h) at f)

      read : i < length p.arrays → q < (array_at p.arrays i).len → (f : Bool) → keeps fs (array_at p.arrays i) q ≡ f → (g : Bool)
          → keeps ps (array_at r.arrays i) q ≡ g
          → (Plainly m [] → load [] p.arrays p.cells (ptr (suc i) q) [] ≡ (if◌then◌else◌ {A = Work ℕ} f (give x) (choose (λ v. true))) [])
          → Match m F F (if f then give x else choose (λ v. true))
          (if g then give (get_or r.cells ((array_at r.arrays i).start + index_of ps (array_at r.arrays i) q) 0) else choose (λ v. true))
          (load_choices ps t ks p (ptr (suc i) q))
      read h k true f true g w = listed (λ _. simp (A.memory.flag i h, g)) (matches-give (A.memory.equal i h q k g, A.fit_cells _))
      read h k true f false g w = listed (λ z. simp (A.memory.flag i h, g, w z)) (match-told (λ v. true) x refl (A.fit_cells _))
      read h k false f true g w =
          absurd (false≢true (sym f ∙ kept-also m ps (array_at p.arrays i).reduced (array_at r.arrays i).reduced q (A.memory.also i h) g))
      read h k false f false g w = match-choose (λ z. not-kept (is_plain m z) f h) (λ v. true)

      go : (d : Bool) → ltb i (length p.arrays) ≡ d → (e : Bool) → ltb q (array_at p.arrays i).len ≡ e
          → Match m F F (reduced_load fs p.arrays p.cells (ptr (suc i) q)) (reduced_load ps r.arrays r.cells (ptr (suc i) q))
          (load_choices ps t ks p (ptr (suc i) q))
      go false d e e' = matches-as (λ cs. simp d) (λ cs. simp (A.memory.number, d)) matches-wrong
      go true d false e =
          matches-as (λ cs. simp (d, e)) (λ cs. simp (A.memory.number, d, A.memory.len i (ltb-true i _ d), e))
          (listed (λ h. simp (d, e) (if-same (if get_or ks i false then tracked ps q else true))) (matches-fail {why = past_length}))
      go true d true e =
          matches-as (load-in fs A.memory.laid_first i q d e)
          (load-in ps A.memory.laid_second i q (rw A.memory.number d) (rw (A.memory.len i (ltb-true i _ d)) e))
          (read (ltb-true i _ d) (ltb-true q _ e) (keeps fs (array_at p.arrays i) q) refl (keeps ps (array_at r.arrays i) q) refl
          (λ z. ap (λ (l : Ptr → Work ℕ). l (ptr (suc i) q) []) (flat-load [] p.arrays p.cells (first_flat (is_plain m z)))
          ∙ ap (λ (qs : List ℕ). reduced_load qs p.arrays p.cells (ptr (suc i) q) []) (sym (no-places m ps z))
          ∙ load-in fs A.memory.laid_first i q d e []))

  match-load : (x : Ptr) → F x.place
      → Match m F F (reduced_load fs p.arrays p.cells x) (reduced_load ps r.arrays r.cells x) (load_choices ps t ks p x)
  match-load x _ = match-load' x.array x.place

  match-valid : (i q : ℕ) → Match m F (λ b. Unit {0}) (is_valid p.arrays i q) (is_valid r.arrays i q) []
  match-valid zero q = match-give tt
  match-valid (suc i) q = go (ltb i (length p.arrays)) refl
    where
      go : (d : Bool) → ltb i (length p.arrays) ≡ d → Match m F (λ b. Unit {0}) (is_valid p.arrays (suc i) q) (is_valid r.arrays (suc i) q) []
      go true d = matches-as (λ cs. simp d) (λ cs. simp (A.memory.number, d, A.memory.len i (ltb-true i _ d)))
          (match-give {a = ltb q (array_at p.arrays i).len} tt)
      go false d = matches-as (λ cs. simp d) (λ cs. simp (A.memory.number, d)) matches-wrong

  match-present : (w : Ty) (v : Of w) → FitOf F w v → Match m F (FitOf F w) (present (length p.arrays) w v) (present (length r.arrays) w v) []
  match-present bool v h = match-give h
  match-present uint v h = match-give h
  match-present pointer v h = rw A.memory.number (matches-either (leb v.array (length p.arrays)) (match-give h) matches-wrong)

  match-rule : (w : Ty) (k : Node) → PlainNode k → (a b c : ℕ) → F a → {ev ev' : (v : Ty) → ℕ → Work (Of v)} {choices_of : Ty → ℕ → List ℕ}
      → ((v : Ty) (n : ℕ) → Match m F (FitOf F v) (ev v n) (ev' v n) (choices_of v n))
      → Match m F (FitOf F w) (rule fs (contents_of p) w (node_in m (us a) k) a b c ev)
      (rule ps (contents_of r) w (node_in reduced (marked_uint t a) k) a b c ev')
      (choices_rule ps t ks p w k a b c ev choices_of)
  unfolding rule choices_rule
  match-rule w variable h a b c k ih = match-variable w a b c _ _
  match-rule w uint_constant h a b c k ih = match-uints w (match-give k)
  match-rule w bool_constant h a b c k ih = match-bools w (match-give tt)
  match-rule w cell h a b c k {ev} ih =
      matches-are (cell-acts fs (contents_of p) w a b c ev m first_flat) refl (match-uints w (match-bind (ih pointer a) match-load))
  match-rule w plus h a b c k ih = match-sum_or_difference add (λ x y _. match-sum_or C _ x y) w (ih w a) (ih uint b)
  match-rule w minus h a b c k ih = match-sum_or_difference subtract (match-subtract C) w (ih w a) (ih uint b)
  match-rule w less h a b c k ih = match-bools w (match-compare ltb (ih uint a) (ih uint b))
  match-rule w at_most h a b c k ih = match-bools w (match-compare leb (ih uint a) (ih uint b))
  match-rule w equal h a b c k ih = match-bools w (match-compare eqb (ih uint a) (ih uint b))
  match-rule w conditional h a b c k ih = match-bind (ih bool a) (λ x _. matches-if x (ih w b) (ih w c))
  match-rule w valid h a b c k {ev} ih =
      matches-are (valid-acts fs (contents_of p) w a b c ev m) refl (match-bools w (match-last (ih pointer a) (λ x _. match-valid x.array x.place)))
  match-rule w class_variable h a b c k ih = absurd h
  match-rule w reduced_cell h a b c k ih = absurd h
  match-rule w reduced_valid h a b c k ih = absurd h
  match-rule w no_node h a b c k ih = matches-wrong

module _ {m : MachineKind} {F : ℕ → Type 0} {ps : List ℕ} {extra : Extra} {us bs : ℕ → Bool} {t v u : Table}
    (R : Related m F us bs t v u) {ks : List Bool} {p r : State} (A : Linked m F ps extra t (only_second us (marked_uint t)) ks p r) where
  plain-eval : (f : ℕ) → Plainly m [] → eval_f (places_in m ps) (contents_of p) v f ≡ eval_f [] (contents_of p) t f
  plain-eval f h = ap (λ qs. eval_f qs (contents_of p) v f) (no-places m ps h) ∙ ap (λ s. eval_f [] (contents_of p) s f) (R.itself h)

  -- a node by its rule, if its operands match
  match-ruled : (w : Ty) (n : ℕ) (ev ev' : (v : Ty) → ℕ → Work (Of v)) (choices_of : Ty → ℕ → List ℕ)
      → ((v : Ty) (n : ℕ) → Match m F (FitOf F v) (ev v n) (ev' v n) (choices_of v n))
      → Match m F (FitOf F w)
      (rule (places_in m ps) (contents_of p) w (node_kind (node_at v n).kind) (node_at v n).a (node_at v n).b (node_at v n).c ev
      >>= present (length p.arrays) w)
      (rule ps (contents_of r) w (node_kind (node_at u n).kind) (node_at u n).a (node_at u n).b (node_at u n).c ev'
      >>= present (length r.arrays) w)
      (choices_rule ps t ks p w (node_kind (node_at t n).kind) (node_at t n).a (node_at t n).b (node_at t n).c ev choices_of)
  match-ruled w n ev ev' choices_of ih =
      rw (R.first.nodes.kind n, R.first.nodes.a n, R.first.nodes.b n, R.first.nodes.c n)
      (rw (R.second.nodes.kind n, R.second.nodes.a n, R.second.nodes.b n, R.second.nodes.c n)
      (match-last (match-rule R.closed R.uints A w (node_kind (node_at t n).kind) (R.kinds.node n) (node_at t n).a (node_at t n).b (node_at t n).c
      (R.closed.constant n) ih)
      (match-present R.closed R.uints A w)))

  pub match-eval_f : (f : ℕ) (w : Ty) (n : ℕ)
      → Match m F (FitOf F w) (eval_f (places_in m ps) (contents_of p) v f w n) (eval_f ps (contents_of r) u f w n) (choices_f ps t ks p f w n)
  unfolding eval_f choices_f
  match-eval_f zero w n = matches-wrong
  match-eval_f (suc f) w n =
      listed (λ h. ap (λ ev. choices_rule ps t ks p w (node_kind (node_at t n).kind) (node_at t n).a (node_at t n).b (node_at t n).c (below n ev)
      (λ v m. if ltb m n then choices_f ps t ks p f v m else [])) (plain-eval f h))
      (match-ruled w n (below n (eval_f (places_in m ps) (contents_of p) v f)) (below n (eval_f ps (contents_of r) u f))
      (λ v m. if ltb m n then choices_f ps t ks p f v m else [])
      (λ v m. matches-if (ltb m n) (match-eval_f f v m) matches-wrong))
