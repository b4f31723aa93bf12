-- Laws of a node's numbers: by the rule of its kind, whatever bounds the nesting; by the node as the code takes it apart; and as a row has them.
-- Assumes nothing.
use Prim.Native.Nat.{ℕ, zero, suc, ◌<◌, ◌≤◌}
use native.Mathlib.Nat.{not-suc-le-zero}
use native.Mathlib.Omega.{arith as numbers}
use mathlib.Core.Path.{◌≡◌, refl, sym, ap, ◌∙◌, fun_ext}
use mathlib.Core.Bool.{Bool, true, false, false≢true}
use mathlib.Core.List.{List, [], ◌++◌}
use lib.ListN.{length}
use lib.Dec.{ltb}
use borrow.Author.Tests.{ltb-true, lt-ltb}
use Rattle.std.specs.Prelude.{if◌then◌else◌}
use Rattle.lists.specs.Tab.{all}
use Rattle.lists.proofs.TabLaws.{all-at}
use Rattle.model.specs.Table.{Table, Ty, node_at, Node, node_kind}
use Rattle.model.specs.Table.Ty.{bool, uint, pointer}
use Rattle.model.specs.Table.Node.{variable, uint_constant, bool_constant, cell, plus, minus, less, at_most, equal, conditional, valid, class_variable}
use Rattle.model.specs.Table.Node.{reduced_cell, reduced_valid, no_node}
use Rattle.model.specs.Work.{Out, Work, ◌>>=◌}
use Rattle.model.specs.State.{Position, Caller, State}
use Rattle.model.specs.Step.{with_work, node}
use Rattle.model.specs.Eval.{Of, Ptr, contents_of, rule, present, below, eval_f, eval}
use Rattle.model.specs.Writer.{given, choices_rule, choices_f, node_choices}
use Rattle.model.proofs.EvalLaws.{eval-is}
use Rattle.prepared.specs.Own.{own_table, places_of}
use Rattle.evaluators.specs.CodeAnswers.{Lent, vars_in, arrays_in, contents_in, operand}
use Rattle.evaluators.specs.CodeLeaves.{load_of, read_of, decoded, node_in}
use Rattle.evaluators.specs.declared.nodes.Node.{Node as Taken}
use Rattle.evaluators.specs.declared.nodes.Node.TheVariants.{Variable, Constant, Flag, Cell, Arith, Compare, If, Valid, InClass, Nothing}
use Rattle.recording.specs.CodeRecords.{Plain, held_of, pair_of, state_in, operand_numbers, variable_numbers, cell_numbers}

-- one of two by a test, where only the first is asked for
under : {A : Type 0} (m n : ℕ) (x y z : A) → (m < n → x ≡ y) → (if ltb m n then x else z) ≡ (if ltb m n then y else z)
under {A} m n x y z h = go (ltb m n) refl
  where
    go : (b : Bool) → ltb m n ≡ b → (if b then x else z) ≡ (if b then y else z)
    go true e = h (ltb-true m n e)
    go false e = refl

-- ---- any bound of the nesting above the node's number gives the same
module _ (ps : List ℕ) (t : Table) (ks : List Bool) (s : State) where
  abbrev eval_at : (w : Ty) → ℕ → Work (Of w)
  eval_at = eval [] (contents_of s) t

  abbrev rules : (w : Ty) → ℕ → ((v : Ty) → ℕ → Work (Of v)) → Work (Of w)
  rules w n ev = rule [] (contents_of s) w (node_kind (node_at t n).kind) (node_at t n).a (node_at t n).b (node_at t n).c ev >>= present (length s.arrays) w

  value-fuel : (f : ℕ) (w : Ty) (n : ℕ) → n < f → eval_f [] (contents_of s) t f w n ≡ eval_at w n
  unfolding eval_f
  value-fuel zero w n h = absurd (not-suc-le-zero h)
  value-fuel (suc f) w n h =
      ap (rules w n) (fun_ext λ v. fun_ext λ m. under m n (eval_f [] (contents_of s) t f v m) (eval_at v m) _ (λ l. value-fuel f v m (omega numbers)))
      ∙ sym (eval-is [] (contents_of s) t w n)

  below-fuel : (f n : ℕ) → n ≤ f → below n (eval_f [] (contents_of s) t f) ≡ below n eval_at
  below-fuel f n h = fun_ext λ v. fun_ext λ m. under m n (eval_f [] (contents_of s) t f v m) (eval_at v m) _ (λ l. value-fuel f v m (omega numbers))

  abbrev listed : (w : Ty) → ℕ → ((v : Ty) → ℕ → Work (Of v)) → (Ty → ℕ → List ℕ) → List ℕ
  listed w n = choices_rule ps t ks s w (node_kind (node_at t n).kind) (node_at t n).a (node_at t n).b (node_at t n).c

  -- the numbers of an operand of node n
  abbrev choices_under : ℕ → Ty → ℕ → List ℕ
  choices_under n v m = if ltb m n then choices_f ps t ks s (suc m) v m else []

  same-choices : (f g : ℕ) (w : Ty) (n : ℕ) → n < f → n < g → choices_f ps t ks s f w n ≡ choices_f ps t ks s g w n
  unfolding choices_f
  same-choices zero g w n h k = absurd (not-suc-le-zero h)
  same-choices (suc f) zero w n h k = absurd (not-suc-le-zero k)
  same-choices (suc f) (suc g) w n h k =
      ap (λ ev. listed w n ev (λ v m. if ltb m n then choices_f ps t ks s f v m else []))
      (below-fuel f n (omega numbers) ∙ sym (below-fuel g n (omega numbers)))
      ∙ ap (listed w n (below n (eval_f [] (contents_of s) t g)))
      (fun_ext λ v. fun_ext λ m. under m n (choices_f ps t ks s f v m) (choices_f ps t ks s g v m) []
      (λ l. same-choices f g v m (omega numbers) (omega numbers)))

  choices-are : (w : Ty) (n : ℕ) → choices_f ps t ks s (suc n) w n ≡ listed w n (below n eval_at) (choices_under n)
  unfolding choices_f
  choices-are w n =
      ap (λ ev. listed w n ev (λ v m. if ltb m n then choices_f ps t ks s n v m else [])) (below-fuel n n (omega numbers))
      ∙ ap (listed w n (below n eval_at))
      (fun_ext λ v. fun_ext λ m. under m n (choices_f ps t ks s n v m) (choices_f ps t ks s (suc m) v m) []
      (λ l. same-choices n (suc m) v m l (omega numbers)))

-- where a state stands, and who its callers are, does not matter to them
module _ (ps : List ℕ) (t : Table) (ks : List Bool) (s : State) (here : Position) (callers : List Caller) where
  abbrev moved : State
  moved = with_work s here callers s.vars

  same-rule : (w : Ty) (k : Node) (a b c : ℕ) (ev : (v : Ty) → ℕ → Work (Of v)) (f : Ty → ℕ → List ℕ)
      → choices_rule ps t ks s w k a b c ev f ≡ choices_rule ps t ks moved w k a b c ev f
  unfolding choices_rule
  same-rule w variable a b c ev f = refl
  same-rule w uint_constant a b c ev f = refl
  same-rule w bool_constant a b c ev f = refl
  same-rule w cell a b c ev f = refl
  same-rule w plus a b c ev f = refl
  same-rule w minus a b c ev f = refl
  same-rule w less a b c ev f = refl
  same-rule w at_most a b c ev f = refl
  same-rule w equal a b c ev f = refl
  same-rule w conditional a b c ev f = refl
  same-rule w valid a b c ev f = refl
  same-rule w class_variable a b c ev f = refl
  same-rule w reduced_cell a b c ev f = refl
  same-rule w reduced_valid a b c ev f = refl
  same-rule w no_node a b c ev f = refl

  pub same-state : (f : ℕ) (w : Ty) (n : ℕ) → choices_f ps t ks s f w n ≡ choices_f ps t ks moved f w n
  unfolding choices_f
  same-state zero w n = refl
  same-state (suc f) w n =
      same-rule w (node_kind (node_at t n).kind) (node_at t n).a (node_at t n).b (node_at t n).c (below n (eval_f [] (contents_of s) t f))
      (λ v m. if ltb m n then choices_f ps t ks s f v m else [])
      ∙ ap (listed ps t ks moved w n (below n (eval_f [] (contents_of s) t f)))
      (fun_ext λ v. fun_ext λ m. ap (λ (xs : List ℕ). if ltb m n then xs else []) (same-state f v m))

-- ---- the kinds of a plain table
abbrev plain_kind : Node → Bool
plain_kind variable = true
plain_kind uint_constant = true
plain_kind bool_constant = true
plain_kind cell = true
plain_kind plus = true
plain_kind minus = true
plain_kind less = true
plain_kind at_most = true
plain_kind equal = true
plain_kind conditional = true
plain_kind valid = true
plain_kind class_variable = false
plain_kind reduced_cell = false
plain_kind reduced_valid = false
plain_kind no_node = true

kind-plain : (k : ℕ) → k ≤ 26 → plain_kind (node_kind k) ≡ true
unfolding node_kind all
kind-plain k h = all-at 27 (λ i. plain_kind (node_kind i)) refl k (omega numbers)

-- ... and its nodes, as the code takes them apart
abbrev pub plain_node : Taken → Bool
plain_node (Variable a) = true
plain_node (Constant k) = true
plain_node (Flag b) = true
plain_node (Cell true a) = false
plain_node (Cell false a) = true
plain_node (Arith m a b) = true
plain_node (Compare k a b) = true
plain_node (If a b c) = true
plain_node (Valid a) = true
plain_node (InClass a) = false
plain_node Nothing = true

decoded-plain : (k : Node) (x a b c : ℕ) → plain_kind k ≡ true → plain_node (decoded k x a b c) ≡ true
decoded-plain variable x a b c h = refl
decoded-plain uint_constant x a b c h = refl
decoded-plain bool_constant x a b c h = refl
decoded-plain cell x a b c h = refl
decoded-plain plus x a b c h = refl
decoded-plain minus x a b c h = refl
decoded-plain less x a b c h = refl
decoded-plain at_most x a b c h = refl
decoded-plain equal x a b c h = refl
decoded-plain conditional x a b c h = refl
decoded-plain valid x a b c h = refl
decoded-plain class_variable x a b c h = absurd (false≢true h)
decoded-plain reduced_cell x a b c h = absurd (false≢true h)
decoded-plain reduced_valid x a b c h = absurd (false≢true h)
decoded-plain no_node x a b c h = refl

pub node-plain : (own : List ℕ) (n : ℕ) → Plain own → n < 1024 → plain_node (node_in own n) ≡ true
unfolding node_in
node-plain own n plain h =
    let k = node_at (own_table own) n in
    decoded-plain (node_kind k.kind) k.a k.a k.b k.c (kind-plain k.kind (plain.nodes n h))

-- ---- the numbers of node n as the code takes it apart: ev is how an operand is worked out, and ps are the places that the machine tracks
module _ (e : Lent) (held : List ℕ) where
  abbrev nums : Ty → ℕ → ℕ → List ℕ
  nums w n m = operand_numbers e held w n m

  abbrev loaded : List ℕ → Ptr → Out ℕ
  loaded ps p = load_of false ps (arrays_in e) e.cells p []

  abbrev pub numbers_of : ((v : Ty) → ℕ → Work (Of v)) → List ℕ → Ty → ℕ → Taken → List ℕ
  numbers_of ev ps w n (Variable a) = variable_numbers e.own (vars_in e) a
  numbers_of ev ps w n (Constant k) = []
  numbers_of ev ps w n (Flag b) = []
  numbers_of ev ps w n (Cell m a) = nums pointer n a
      ++ given (ev pointer a []) (λ p. cell_numbers (pair_of e.own) (held_of e.count held) p (loaded ps p))
  numbers_of ev ps w n (Arith m a b) = nums w n a ++ given (ev w a []) (λ x. nums uint n b)
  numbers_of ev ps w n (Compare k a b) = nums uint n a ++ given (ev uint a []) (λ x. nums uint n b)
  numbers_of ev ps w n (If a b c) = nums bool n a ++ given (ev bool a []) (λ x. if x then nums w n b else nums w n c)
  numbers_of ev ps w n (Valid a) = nums pointer n a
  numbers_of ev ps w n (InClass a) = []
  numbers_of ev ps w n Nothing = []

  rule-taken : (ev : (v : Ty) → ℕ → Work (Of v)) (w : Ty) (n : ℕ) (k : Node) (a b c : ℕ) → plain_kind k ≡ true
      → choices_rule (pair_of e.own) (own_table e.own) (held_of e.count held) (state_in e) w k a b c ev (λ v m. nums v n m)
      ≡ numbers_of ev [] w n (decoded k a a b c)
  unfolding choices_rule variable_numbers cell_numbers load_of read_of
  rule-taken ev w n variable a b c h = refl
  rule-taken ev w n uint_constant a b c h = refl
  rule-taken ev w n bool_constant a b c h = refl
  rule-taken ev w n cell a b c h = refl
  rule-taken ev w n plus a b c h = refl
  rule-taken ev w n minus a b c h = refl
  rule-taken ev w n less a b c h = refl
  rule-taken ev w n at_most a b c h = refl
  rule-taken ev w n equal a b c h = refl
  rule-taken ev w n conditional a b c h = refl
  rule-taken ev w n valid a b c h = refl
  rule-taken ev w n class_variable a b c h = absurd (false≢true h)
  rule-taken ev w n reduced_cell a b c h = absurd (false≢true h)
  rule-taken ev w n reduced_valid a b c h = absurd (false≢true h)
  rule-taken ev w n no_node a b c h = refl

  abbrev works : List ℕ → ℕ → (v : Ty) → ℕ → Work (Of v)
  works ps n = below n (eval ps (contents_in e) (own_table e.own))

  pub numbers-are : (w : Ty) (n user : ℕ) {x : Taken} → (node_at (own_table e.own) n).kind ≤ 26 → n < user → node_in e.own n ≡ x
      → operand_numbers e held w user n ≡ numbers_of (works [] n) [] w n x
  unfolding operand_numbers node_in
  numbers-are w n user {x} k h read =
      let l = node_at (own_table e.own) n in
      ap (λ (b : Bool). if b then choices_f (pair_of e.own) (own_table e.own) (held_of e.count held) (state_in e) (suc n) w n else []) (lt-ltb n user h)
      ∙ choices-are (pair_of e.own) (own_table e.own) (held_of e.count held) (state_in e) w n
      ∙ rule-taken (works [] n) w n (node_kind l.kind) l.a l.b l.c (kind-plain l.kind k)
      ∙ ap (numbers_of (works [] n) [] w n) read

  pub numbers-plain : (w : Ty) (n user : ℕ) {r x : Taken} → Plain e.own → user ≤ 1024 → n < user → r ≡ node_in e.own n → r ≡ x
      → operand_numbers e held w user n ≡ numbers_of (λ v m. operand e v n m) (places_of e.own) w n x
  unfolding operand
  numbers-plain w n user {r} {x} plain most h read p =
      numbers-are w n user (plain.nodes n (omega numbers)) h (sym read ∙ p)
      ∙ ap (λ (ps : List ℕ). numbers_of (works ps n) ps w n x) (sym plain.untracked)

-- ---- a row's operand, at any state that has what is lent
module _ (e : Lent) (held : List ℕ) (s : State) (vars : s.vars ≡ vars_in e) (arrays : s.arrays ≡ arrays_in e) (cells : s.cells ≡ e.cells) where
  abbrev standing : State
  standing = record { here = s.here; callers = s.callers; vars = vars_in e; arrays = arrays_in e; cells = e.cells }

  state-is : standing ≡ s
  state-is = rw (← vars, ← arrays, ← cells)

  pub row-numbers : (w : Ty) (n : ℕ) → operand_numbers e held w 1024 n ≡ node_choices (pair_of e.own) (own_table e.own) (held_of e.count held) s w n
  unfolding operand_numbers node_choices
  row-numbers w n =
      ap (λ (xs : List ℕ). if ltb n 1024 then xs else [])
      (same-state (pair_of e.own) (own_table e.own) (held_of e.count held) (state_in e) s.here s.callers (suc n) w n)
      ∙ ap (λ (t : State). node_choices (pair_of e.own) (own_table e.own) (held_of e.count held) t w n) state-is

  pub row-operand : (w : Ty) (n : ℕ) → Plain e.own → operand e w 1024 n ≡ node [] (own_table e.own) s w n
  unfolding operand
  row-operand w n plain =
      ap (λ (ps : List ℕ). node ps (own_table e.own) standing w n) plain.untracked ∙ ap (λ (t : State). node [] (own_table e.own) t w n) state-is
