-- Laws of nodes: what an evaluator gives by the node that it read, in the form in which `search answers` takes them.
-- Assumes nothing.
use Prim.Native.Nat.{ℕ, ◌+◌, ◌*◌, ◌<◌, ◌≤◌}
use native.Mathlib.Omega.{arith as numbers}
use native.Mathlib.Decide.{dec_le}
use mathlib.Core.Path.{◌≡◌, refl, sym, ap, subst, ◌∙◌}
use mathlib.Core.Logic.{◌≢◌}
use mathlib.Core.List.{List, [], ◌∷◌}
use mathlib.Core.Bool.{Bool, true, false}
use lib.ListN.{length, get_or, drop}
use lib.Dec.{ltb, leb}
use borrow.Author.Tests.{lt-ltb, le-ltb, le-leb, lt-leb, leb-true}
use types.Run.{OneOf, miss}
use denote.Enum.Declared.{tag_of}
use Rattle.std.specs.Prelude.{if◌then◌else◌}
use Rattle.model.specs.Table.{Ty, Line, node_at, Node, node_kind}
use Rattle.model.specs.Table.Ty.{bool, uint, pointer}
use Rattle.model.specs.Table.Node.{variable, uint_constant, bool_constant, cell, plus, minus, less, at_most, equal, conditional, valid, class_variable}
use Rattle.model.specs.Table.Node.{reduced_cell, reduced_valid, no_node}
use Rattle.model.specs.Work.{Out, Work, next, ◌>>=◌, give, wrong}
use Rattle.model.specs.Work.Out.{gives, fails, bad_choice, no_choice, stuck}
use Rattle.model.specs.Eval.{Of, Ptr, ptr, sum_or_difference, compare, of_type, bools, uints, variable_of, present, below, rule, eval}
use Rattle.model.proofs.EvalLaws.{eval-is}
use Rattle.prepared.specs.Own.{own_table, places_of}
use Rattle.evaluators.specs.contracts.nodes.Node.{the_type as node}
use Rattle.evaluators.specs.declared.nodes.Node.{Node as Taken}
use Rattle.evaluators.specs.declared.nodes.Node.TheVariants.{Variable, Constant, Flag, Cell, Arith, Compare, If, Valid, InClass, Nothing}
use Rattle.evaluators.specs.declared.nodes.Test.{Test}
use Rattle.machine.specs.declared.Failure.TheVariants.{Stuck}
use Rattle.evaluators.specs.declared.answers.Answer.{Answer}
use Rattle.evaluators.specs.declared.answers.Answer.TheVariants.{Bool as ABool, Uint as AUint, Not}
use Rattle.evaluators.specs.CodeAnswers.{Answers, Lent, vars_in, arrays_in, contents_in, operand}
use Rattle.evaluators.specs.CodeLeaves.{held_for, HoldsFor, HoldsPointer, ClassChoice, class_in, load_of, read_of, arith, moved_by, valid_in, test_of}
use Rattle.evaluators.specs.CodeLeaves.{decoded, node_in, leaf_at}
use Rattle.evaluators.proofs.ViewLaws.{small-kind, count-arrays}
use Rattle.evaluators.proofs.AnswerLaws.{said-bool, said-uint, said-stuck, says_same, right-id, followed, branch, branch-handed, branch-anew, tested}
use Rattle.evaluators.proofs.AnswerLaws.{then-uint, then-pointer, then-bool, else-uint, else-pointer, else-bool}
use Rattle.evaluators.proofs.AnswerLaws.{says-arith, says-moved, says-valid, says-tested}

-- a value is present once, and then again
module _ (N : ℕ) where
  abbrev Kept : (w : Ty) → Work (Of w) → Type 0
  Kept w m = (cs : List ℕ) → next (m cs) (present N w) ≡ m cs

  twice : (w : Ty) (o : Out (Of w)) → next (next o (present N w)) (present N w) ≡ next o (present N w)
  twice bool o = right-id (next o give)
  twice uint o = right-id (next o give)
  twice pointer (gives p cs) = go (leb p.array N) refl
    where
      go : (b : Bool) → leb p.array N ≡ b
          → next ((if◌then◌else◌ {A = Work Ptr} b (give p) wrong) cs) (present N pointer) ≡ (if◌then◌else◌ {A = Work Ptr} b (give p) wrong) cs
      go true e = rw e
      go false e = refl
  twice pointer (fails why cs) = refl
  twice pointer bad_choice = refl
  twice pointer no_choice = refl
  twice pointer stuck = refl

  moved-kept : (op : ℕ → ℕ → Work ℕ) (o : Out Ptr) (y : Work ℕ) → next o (present N pointer) ≡ o
      → next (next o (λ p. y >>= λ b. op p.place b >>= λ z. give (ptr p.array z))) (present N pointer)
      ≡ next o (λ p. y >>= λ b. op p.place b >>= λ z. give (ptr p.array z))
  moved-kept op (gives p cs) y h = go (leb p.array N) refl (rest (y cs))
    where
      third : leb p.array N ≡ true → (o : Out ℕ) → next (next o (λ z. give (ptr p.array z))) (present N pointer) ≡ next o (λ z. give (ptr p.array z))
      third e (gives z ds) = rw e
      third e (fails why ds) = refl
      third e bad_choice = refl
      third e no_choice = refl
      third e stuck = refl

      rest : (o : Out ℕ) → leb p.array N ≡ true
          → next (next o (λ b. op p.place b >>= λ z. give (ptr p.array z))) (present N pointer)
          ≡ next o (λ b. op p.place b >>= λ z. give (ptr p.array z))
      rest (gives b ds) e = third e (op p.place b ds)
      rest (fails why ds) e = refl
      rest bad_choice e = refl
      rest no_choice e = refl
      rest stuck e = refl

      go : (b : Bool) → leb p.array N ≡ b → {X : Type 0} → (leb p.array N ≡ true → X) → X
      go true e k = k e
      go false e k = absurd (let q : ◌≡◌ {A = Out Ptr} stuck (gives p cs) = rw e at h in let z : ◌≡◌ {A = ℕ} 0 1 = cc in omega numbers)
  moved-kept op (fails why cs) y h = refl
  moved-kept op bad_choice y h = refl
  moved-kept op no_choice y h = refl
  moved-kept op stuck y h = refl

-- a node's line, and what it comes to
abbrev line_of : Lent → ℕ → Line
line_of e n = node_at (own_table e.own) n

abbrev eval_in : Lent → (w : Ty) → ℕ → Work (Of w)
eval_in e w n = eval (places_of e.own) (contents_in e) (own_table e.own) w n

-- the rule of a node taken apart
abbrev rule_of : Lent → (w : Ty) → Taken → ((v : Ty) → ℕ → Work (Of v)) → Work (Of w)
rule_of e w (Variable a) ev = variable_of (vars_in e) a >>= of_type w
rule_of e w (Constant k) ev = uints w (give k)
rule_of e w (Flag b) ev = bools w (give b)
rule_of e w (Cell m a) ev = uints w (ev pointer a >>= load_of m (places_of e.own) (arrays_in e) e.cells)
rule_of e w (Arith m a b) ev = sum_or_difference (arith m) w (ev w a) (ev uint b)
rule_of e w (Compare k a b) ev = bools w (compare (test_of k) (ev uint a) (ev uint b))
rule_of e w (If a b c) ev = ev bool a >>= λ x. if x then ev w b else ev w c
rule_of e w (Valid a) ev = bools w (ev pointer a >>= λ p. valid_in (arrays_in e) p.array p.place)
rule_of e w (InClass a) ev = uints w (class_in (places_of e.own) (vars_in e) a)
rule_of e w Nothing ev = wrong

module _ (e : Lent) where
  rule-decoded : (w : Ty) (k : Node) (a b c : ℕ) (ev : (v : Ty) → ℕ → Work (Of v))
      → rule (places_of e.own) (contents_in e) w k a b c ev ≡ rule_of e w (decoded k a a b c) ev
  unfolding rule arith load_of read_of valid_in class_in
  rule-decoded w variable a b c ev = refl
  rule-decoded w uint_constant a b c ev = refl
  rule-decoded w bool_constant a b c ev = refl
  rule-decoded w cell a b c ev = refl
  rule-decoded w plus a b c ev = refl
  rule-decoded w minus a b c ev = refl
  rule-decoded w less a b c ev = refl
  rule-decoded w at_most a b c ev = refl
  rule-decoded w equal a b c ev = refl
  rule-decoded w conditional a b c ev = refl
  rule-decoded w valid a b c ev = refl
  rule-decoded w class_variable a b c ev = refl
  rule-decoded w reduced_cell a b c ev = refl
  rule-decoded w reduced_valid a b c ev = refl
  rule-decoded w no_node a b c ev = refl

  -- an operand is present
  operand-kept : (w : Ty) (n a : ℕ) → Kept (length (arrays_in e)) w (operand e w n a)
  unfolding operand
  operand-kept w n a cs = go (ltb a n)
    where
      known : next (eval_in e w a cs) (present (length (arrays_in e)) w) ≡ eval_in e w a cs
      known = subst (λ (m : Work (Of w)). next (m cs) (present (length (arrays_in e)) w) ≡ m cs)
          (sym (eval-is (places_of e.own) (contents_in e) (own_table e.own) w a))
          (twice (length (arrays_in e)) w
          (rule (places_of e.own) (contents_in e) w (node_kind (line_of e a).kind) (line_of e a).a (line_of e a).b
          (line_of e a).c (below a (eval (places_of e.own) (contents_in e) (own_table e.own))) cs))

      go : (b : Bool) → next ((if◌then◌else◌ {A = Work (Of w)} b (eval_in e w a) wrong) cs)
          (present (length (arrays_in e)) w) ≡ (if◌then◌else◌ {A = Work (Of w)} b (eval_in e w a) wrong) cs
      go true = known
      go false = refl

  if_kept : (w : Ty) (n b c : ℕ) (o : Out Bool)
      → next (next o (λ x. if x then operand e w n b else operand e w n c)) (present (length (arrays_in e)) w) ≡ followed w o (branch e w n b c)
  unfolding followed branch
  if_kept w n b c (gives true cs) = operand-kept w n b cs
  if_kept w n b c (gives false cs) = operand-kept w n c cs
  if_kept w n b c (fails why cs) = refl
  if_kept w n b c bad_choice = refl
  if_kept w n b c no_choice = refl
  if_kept w n b c stuck = refl

  module _ (n user : ℕ) (h : n < user) (cs : List ℕ) where
    abbrev ops : (v : Ty) → ℕ → Work (Of v)
    ops v m = operand e v n m

    unrolled : (w : Ty) → next (rule_of e w (node_in e.own n) ops cs) (present (length (arrays_in e)) w) ≡ operand e w user n cs
    unfolding operand node_in
    unrolled w =
        ap (λ (m : Work (Of w)). next (m cs) (present (length (arrays_in e)) w))
        (sym (rule-decoded w (node_kind (line_of e n).kind) (line_of e n).a (line_of e n).b (line_of e n).c ops))
        ∙ ap (λ (m : Work (Of w)). m cs) (sym (eval-is (places_of e.own) (contents_in e) (own_table e.own) w n))
        ∙ sym (ap (λ (b : Bool). (if◌then◌else◌ {A = Work (Of w)} b (eval_in e w n) wrong) cs) (lt-ltb n user h))

    at-node : (w : Ty) {r x : Taken} → r ≡ node_in e.own n → r ≡ x
        → next (rule_of e w x ops cs) (present (length (arrays_in e)) w) ≡ operand e w user n cs
    at-node w read p = ap (λ (y : Taken). next (rule_of e w y ops cs) (present (length (arrays_in e)) w)) (sym p ∙ read) ∙ unrolled w

    at-uint : {r x : Taken} → r ≡ node_in e.own n → r ≡ x → rule_of e uint x ops cs ≡ operand e uint user n cs
    at-uint {x = x} read p = sym (right-id (rule_of e uint x ops cs)) ∙ at-node uint read p

    at-bool : {r x : Taken} → r ≡ node_in e.own n → r ≡ x → rule_of e bool x ops cs ≡ operand e bool user n cs
    at-bool {x = x} read p = sym (right-id (rule_of e bool x ops cs)) ∙ at-node bool read p

-- a node that is no operand of its user
pub not-below : (e : Lent) (w : Ty) (l : List ℕ) (n user : ℕ) (cs : List ℕ) {at : ℕ} → user ≤ n → Answers w l (Not Stuck at) (operand e w user n cs)
unfolding operand
not-below e w l n user cs h = said-stuck w (sym
    (ap (λ (b : Bool). (if◌then◌else◌ {A = Work (Of w)} b (eval_in e w n) wrong) cs) (le-ltb n user h)))

-- nodes that give no value of a type
pointer-stuck : (e : Lent) (f : (v : Ty) → ℕ → Work (Of v)) (cs : List ℕ) (x : Taken) → OneOf (1 ∷ 2 ∷ 3 ∷ 5 ∷ 7 ∷ 8 ∷ 9 ∷ []) (tag_of node x)
    → rule_of e pointer x f cs ≡ stuck
pointer-stuck e f cs (Variable a) h = absurd (miss (1 ∷ 2 ∷ 3 ∷ 5 ∷ 7 ∷ 8 ∷ 9 ∷ []) 0 tt h)
pointer-stuck e f cs (Constant k) h = refl
pointer-stuck e f cs (Flag b) h = refl
pointer-stuck e f cs (Cell m a) h = refl
pointer-stuck e f cs (Arith k a b) h = absurd (miss (1 ∷ 2 ∷ 3 ∷ 5 ∷ 7 ∷ 8 ∷ 9 ∷ []) 4 tt h)
pointer-stuck e f cs (Compare k a b) h = refl
pointer-stuck e f cs (If a b c) h = absurd (miss (1 ∷ 2 ∷ 3 ∷ 5 ∷ 7 ∷ 8 ∷ 9 ∷ []) 6 tt h)
pointer-stuck e f cs (Valid a) h = refl
pointer-stuck e f cs (InClass a) h = refl
pointer-stuck e f cs Nothing h = refl

uint-stuck : (e : Lent) (f : (v : Ty) → ℕ → Work (Of v)) (cs : List ℕ) (x : Taken) → OneOf (2 ∷ 5 ∷ 7 ∷ 9 ∷ []) (tag_of node x) → rule_of e uint x f cs ≡ stuck
uint-stuck e f cs (Variable a) h = absurd (miss (2 ∷ 5 ∷ 7 ∷ 9 ∷ []) 0 tt h)
uint-stuck e f cs (Constant k) h = absurd (miss (2 ∷ 5 ∷ 7 ∷ 9 ∷ []) 1 tt h)
uint-stuck e f cs (Flag b) h = refl
uint-stuck e f cs (Cell m a) h = absurd (miss (2 ∷ 5 ∷ 7 ∷ 9 ∷ []) 3 tt h)
uint-stuck e f cs (Arith k a b) h = absurd (miss (2 ∷ 5 ∷ 7 ∷ 9 ∷ []) 4 tt h)
uint-stuck e f cs (Compare k a b) h = refl
uint-stuck e f cs (If a b c) h = absurd (miss (2 ∷ 5 ∷ 7 ∷ 9 ∷ []) 6 tt h)
uint-stuck e f cs (Valid a) h = refl
uint-stuck e f cs (InClass a) h = absurd (miss (2 ∷ 5 ∷ 7 ∷ 9 ∷ []) 8 tt h)
uint-stuck e f cs Nothing h = refl

bool_stuck : (e : Lent) (f : (v : Ty) → ℕ → Work (Of v)) (cs : List ℕ) (x : Taken) → OneOf (1 ∷ 3 ∷ 4 ∷ 8 ∷ 9 ∷ []) (tag_of node x)
    → rule_of e bool x f cs ≡ stuck
bool_stuck e f cs (Variable a) h = absurd (miss (1 ∷ 3 ∷ 4 ∷ 8 ∷ 9 ∷ []) 0 tt h)
bool_stuck e f cs (Constant k) h = refl
bool_stuck e f cs (Flag b) h = absurd (miss (1 ∷ 3 ∷ 4 ∷ 8 ∷ 9 ∷ []) 2 tt h)
bool_stuck e f cs (Cell m a) h = refl
bool_stuck e f cs (Arith k a b) h = refl
bool_stuck e f cs (Compare k a b) h = absurd (miss (1 ∷ 3 ∷ 4 ∷ 8 ∷ 9 ∷ []) 5 tt h)
bool_stuck e f cs (If a b c) h = absurd (miss (1 ∷ 3 ∷ 4 ∷ 8 ∷ 9 ∷ []) 6 tt h)
bool_stuck e f cs (Valid a) h = absurd (miss (1 ∷ 3 ∷ 4 ∷ 8 ∷ 9 ∷ []) 7 tt h)
bool_stuck e f cs (InClass a) h = refl
bool_stuck e f cs Nothing h = refl

-- a node's answer z, by the node r that was read at its number
module _ (e : Lent) (l : List ℕ) (n user : ℕ) {r : Taken} where
  -- a variable's node is what the variable holds
  pub variable-is : (w : Ty) (cs : List ℕ) {a : ℕ} → n < user → r ≡ node_in e.own n → r ≡ Variable a
      → held_for (vars_in e) e.count a w cs ≡ operand e w user n cs
  unfolding held_for
  variable-is w cs {a = a} h read p =
      ap (λ (k : ℕ). next ((variable_of (vars_in e) a >>= of_type w) cs) (present k w)) (sym (count-arrays e.count e.firsts e.lengths e.shapes))
      ∙ at-node e n user h cs w read p

  module _ (at : ℕ) where
    pub any-variable : (w : Ty) {z : Answer} {a : ℕ} → n < user → r ≡ node_in e.own n → r ≡ Variable a
        → HoldsFor w e.own e.numbers a at z → Answers w l z (operand e w user n (drop at l))
    any-variable w h read p s = says_same (s.held e.bases e.count l) (variable-is w (drop at l) h read p)

    pub pointer-variable : {z : Answer} {a : ℕ} → n < user → r ≡ node_in e.own n → r ≡ Variable a
        → HoldsPointer e.own e.numbers e.bases e.count a at z → Answers pointer l z (operand e pointer user n (drop at l))
    pointer-variable h read p s = says_same (s.held l) (variable-is pointer (drop at l) h read p)

    pub uint-choice : {z : Answer} {a : ℕ} → n < user → r ≡ node_in e.own n → r ≡ InClass a
        → ClassChoice e.own e.numbers a l at z → Answers uint l z (operand e uint user n (drop at l))
    unfolding class_in
    uint-choice h read p s = says_same (s.chosen e.bases) (at-uint e n user h (drop at l) read p)

    pub uint-constant : {k : ℕ} → n < user → r ≡ node_in e.own n → r ≡ Constant k → Answers uint l (AUint k at) (operand e uint user n (drop at l))
    uint-constant h read p = said-uint (at-uint e n user h (drop at l) read p)

    pub bool-constant : {b : Bool} → n < user → r ≡ node_in e.own n → r ≡ Flag b → Answers bool l (ABool b at) (operand e bool user n (drop at l))
    bool-constant h read p = said-bool (at-bool e n user h (drop at l) read p)

  module _ (z : Answer) (cs : List ℕ) where
    pub any-if : {a b c : ℕ} (w : Ty) → n < user → r ≡ node_in e.own n → r ≡ If a b c
        → Answers w l z (followed w (operand e bool n a cs) (branch e w n b c)) → Answers w l z (operand e w user n cs)
    any-if {a = a} {b = b} {c = c} w h read p q =
        says_same q (sym (if_kept e w n b c (operand e bool n a cs)) ∙ at-node e n user h cs w read p)

    pub pointer-arith : {m : Bool} {a b : ℕ} → n < user → r ≡ node_in e.own n → r ≡ Arith m a b
        → Answers pointer l z (followed pointer (operand e pointer n a cs)
        (λ p ds. followed pointer (operand e uint n b ds) (moved_by m p.array p.place))) → Answers pointer l z (operand e pointer user n cs)
    unfolding followed moved_by
    pointer-arith {m = m} {a = a} {b = b} h read p q =
        says_same q (sym (moved-kept (length (arrays_in e)) (arith m) (operand e pointer n a cs) (operand e uint n b) (operand-kept e pointer n a cs))
        ∙ at-node e n user h cs pointer read p)

    pub uint-cell : {m : Bool} {a : ℕ} → n < user → r ≡ node_in e.own n → r ≡ Cell m a
        → Answers uint l z (followed uint (operand e pointer n a cs) (load_of m (places_of e.own) (arrays_in e) e.cells))
        → Answers uint l z (operand e uint user n cs)
    unfolding followed
    uint-cell h read p q = says_same q (at-uint e n user h cs read p)

    pub uint-arith : {m : Bool} {a b : ℕ} → n < user → r ≡ node_in e.own n → r ≡ Arith m a b
        → Answers uint l z (followed uint (operand e uint n a cs) (λ x ds. followed uint (operand e uint n b ds) (arith m x)))
        → Answers uint l z (operand e uint user n cs)
    unfolding followed
    uint-arith h read p q = says_same q (at-uint e n user h cs read p)

    pub bool-valid : {a : ℕ} → n < user → r ≡ node_in e.own n → r ≡ Valid a
        → Answers bool l z (followed bool (operand e pointer n a cs) (λ p. valid_in (arrays_in e) p.array p.place))
        → Answers bool l z (operand e bool user n cs)
    unfolding followed
    bool-valid h read p q = says_same q (at-bool e n user h cs read p)

    pub bool-compare : {k : Test} {a b : ℕ} → n < user → r ≡ node_in e.own n → r ≡ Compare k a b
        → Answers bool l z (followed bool (operand e uint n a cs) (λ x ds. followed bool (operand e uint n b ds) (tested k x)))
        → Answers bool l z (operand e bool user n cs)
    unfolding followed tested
    bool-compare h read p q = says_same q (at-bool e n user h cs read p)

  module _ (cs : List ℕ) where
    pub pointer-other : {at : ℕ} → n < user → r ≡ node_in e.own n → OneOf (1 ∷ 2 ∷ 3 ∷ 5 ∷ 7 ∷ 8 ∷ 9 ∷ []) (tag_of node r)
        → Answers pointer l (Not Stuck at) (operand e pointer user n cs)
    pointer-other h read k =
        said-stuck pointer (ap (λ (o : Out Ptr). next o (present (length (arrays_in e)) pointer)) (sym (pointer-stuck e (λ v m. operand e v n m) cs r k))
        ∙ at-node e n user h cs pointer read refl)

    pub uint-other : {at : ℕ} → n < user → r ≡ node_in e.own n → OneOf (2 ∷ 5 ∷ 7 ∷ 9 ∷ []) (tag_of node r)
        → Answers uint l (Not Stuck at) (operand e uint user n cs)
    uint-other h read k = said-stuck uint (sym (uint-stuck e (λ v m. operand e v n m) cs r k) ∙ at-uint e n user h cs read refl)

    pub bool-other : {at : ℕ} → n < user → r ≡ node_in e.own n → OneOf (1 ∷ 3 ∷ 4 ∷ 8 ∷ 9 ∷ []) (tag_of node r)
        → Answers bool l (Not Stuck at) (operand e bool user n cs)
    bool-other h read k = said-stuck bool (sym (bool_stuck e (λ v m. operand e v n m) cs r k) ∙ at-bool e n user h cs read refl)

-- ---- the leaves, by the words of the node's line
module _ (own : List ℕ) (n : ℕ) where
  node-words : node_in own n
      ≡ decoded (node_kind (get_or own (136 + 4 * n) 0)) (get_or own (136 + 4 * n + 1) 0) (get_or own (136 + 4 * n + 1) 0) (get_or own (136 + 4 * n + 2) 0)
      (get_or own (136 + 4 * n + 3) 0)
  unfolding node_in
  node-words =
      ap (λ (i : ℕ). decoded (node_kind (get_or own i 0)) (get_or own (i + 1) 0) (get_or own (i + 1) 0) (get_or own (i + 2) 0)
      (get_or own (i + 3) 0)) (omega numbers)

  pub node-read : {a b c : ℕ} {r : Taken} → r ≡ decoded (node_kind (get_or own (136 + 4 * n) 0)) (get_or own (136 + 4 * n + 1) 0) a b c
      → a ≡ get_or own (136 + 4 * n + 1) 0 → b ≡ get_or own (136 + 4 * n + 2) 0 → c ≡ get_or own (136 + 4 * n + 3) 0 → r ≡ node_in own n
  node-read p e f g = p ∙ rw (e, f, g) (sym node-words)

  pub leaf-variable : {a : ℕ} → get_or own (136 + 4 * n) 0 ≡ 16 → a ≡ get_or own (136 + 4 * n + 1) 0 → node_in own n ≡ Variable a
  unfolding node_kind
  leaf-variable e f = node-words ∙ rw (e, f)

  pub leaf-constant : get_or own (136 + 4 * n) 0 ≡ 17 → node_in own n ≡ Constant (get_or own (136 + 4 * n + 1) 0)
  unfolding node_kind
  leaf-constant e = node-words ∙ rw e

  leaf-nothing : get_or own (136 + 4 * n) 0 < 16 → node_in own n ≡ Nothing
  leaf-nothing h = node-words ∙ rw (small-kind (get_or own (136 + 4 * n) 0) h)

  module _ (user : ℕ) where
    pub leaf-past : user ≤ n → true ≡ leaf_at own user n
    unfolding leaf_at
    leaf-past h = rw (le-leb user n h)

    pub leaf-is : n < user → leb (get_or own (136 + 4 * n) 0) 17 ≡ leaf_at own user n
    unfolding leaf_at
    leaf-is h = rw (lt-leb user n h) (ap (λ (i : ℕ). leb (get_or own i 0) 17) (omega numbers))

    pub leaf-kind : n < user → leaf_at own user n ≡ true → get_or own (136 + 4 * n) 0 ≤ 17
    leaf-kind h e = leb-true (get_or own (136 + 4 * n) 0) 17 (leaf-is h ∙ e)

-- a leaf that gives no value
module _ (e : Lent) (l : List ℕ) (n user : ℕ) (cs : List ℕ) (h : n < user) (leaf : leaf_at e.own user n ≡ true) where
  nothing : (w : Ty) {at : ℕ} → get_or e.own (136 + 4 * n) 0 < 16 → Answers w l (Not Stuck at) (operand e w user n cs)
  nothing w k = said-stuck w (at-node e n user h cs w refl (leaf-nothing e.own n k))

  pub no-uint-leaf : {at : ℕ} → get_or e.own (136 + 4 * n) 0 ≢ 16 → get_or e.own (136 + 4 * n) 0 ≢ 17
      → Answers uint l (Not Stuck at) (operand e uint user n cs)
  no-uint-leaf a b = nothing uint (omega (numbers, leaf-kind e.own n user h leaf))

  pub no-pointer-leaf : {at : ℕ} → get_or e.own (136 + 4 * n) 0 ≢ 16 → Answers pointer l (Not Stuck at) (operand e pointer user n cs)
  no-pointer-leaf a = elim (dec_le 17 (get_or e.own (136 + 4 * n) 0)) [
    | yes k ↦ said-stuck pointer (at-node e n user h cs pointer refl (leaf-constant e.own n (omega (numbers, leaf-kind e.own n user h leaf))))
    | no k ↦ nothing pointer (omega numbers)
  ]

-- ---- what proves each return of an evaluator: how it goes on from an operand, what a leaf says, and each node
pub ruleset onward = (then-uint, then-pointer, then-bool, else-uint, else-pointer, else-bool, branch-handed, branch-anew)

pub ruleset saying = (says-arith, says-moved, says-valid, says-tested, any-variable, pointer-variable, uint-choice, uint-constant, bool-constant)

pub ruleset ruling = (any-if, pointer-arith, pointer-other, uint-cell, uint-arith, uint-other, bool-compare, bool-valid, bool-other)

pub ruleset answers = (not-below, onward, saying, ruling)

-- what was tested of a leaf
pub told : {r b : Bool} → r ≡ b → r ≡ true → b ≡ true
told p q = sym p ∙ q
