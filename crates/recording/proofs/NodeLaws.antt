-- Laws of nodes: what a recording evaluator gives by the node that it read, in the form in which `search records` takes them; and what a
-- leaf records.
-- Assumes nothing.
use Prim.Native.Nat.{ℕ, ◌+◌, ◌*◌, ◌<◌, ◌≤◌}
use native.Mathlib.Omega.{arith as numbers}
use native.Mathlib.Decide.{dec_lt}
use mathlib.Core.Path.{◌≡◌, refl, sym, ap, subst, ◌∙◌, fun_ext}
use mathlib.Core.Logic.{◌≢◌}
use mathlib.Core.Bool.{Bool, true, false, false≢true}
use mathlib.Core.List.{List, [], ◌∷◌, ◌++◌, append-nil}
use lib.ListN.{get_or, drop}
use lib.Seq.{drop-nil}
use lib.Dec.{eqb}
use borrow.Author.Tests.{eqb-true, eqb-false}
use types.Run.{OneOf, hit, miss}
use denote.Enum.Declared.{tag_of}
use Rattle.std.specs.Prelude.{if◌then◌else◌}
use Rattle.model.specs.Table.{Ty, node_at}
use Rattle.model.specs.Table.Ty.{bool, uint, pointer}
use Rattle.model.specs.Work.{Out}
use Rattle.model.specs.Work.Out.{gives, fails, bad_choice, no_choice, stuck}
use Rattle.model.specs.Eval.{Of}
use Rattle.model.specs.Writer.{given}
use Rattle.prepared.specs.Own.{own_table, places_of}
use Rattle.evaluators.specs.contracts.nodes.Node.{the_type as node}
use Rattle.evaluators.specs.declared.nodes.Test.{Test}
use Rattle.evaluators.specs.declared.nodes.Node.{Node as Taken}
use Rattle.evaluators.specs.declared.nodes.Node.TheVariants.{Variable, Constant, Flag, Cell, Arith, Compare, If, Valid, InClass, Nothing}
use Rattle.machine.specs.declared.Failure.TheVariants.{Stuck}
use Rattle.evaluators.specs.declared.answers.Answer.{Answer}
use Rattle.evaluators.specs.declared.answers.Answer.TheVariants.{Bool as ABool, Uint as AUint, Not}
use Rattle.evaluators.specs.CodeAnswers.{failed, out_of, Answers, Lent, vars_in, arrays_in, operand}
use Rattle.evaluators.specs.CodeLeaves.{held_for, HoldsFor, HoldsPointer, load_of, arith, moved_by, valid_in, node_in, leaf_at, PointerLeaf}
use Rattle.evaluators.proofs.AnswerLaws.{says_same, followed, branch, tested}
use Rattle.evaluators.proofs.NodeLaws as values
use Rattle.evaluators.proofs.NodeLaws.{leaf-variable, leaf-constant, leaf-kind}
use Rattle.recording.specs.CodePushes.{Pushed, pushed, push_all}
use Rattle.recording.specs.CodeRecords.{Plain, held_of, pair_of, operand_numbers, variable_numbers, cell_numbers, Reached, Records, Recorded}
use Rattle.recording.specs.CodeRecords.{VariableRecords}
use Rattle.recording.proofs.PushLaws.{push-none}
use Rattle.recording.proofs.NumberLaws.{plain_node, node-plain, numbers_of, numbers-are, numbers-plain}
use Rattle.recording.proofs.RecordLaws.{nowhere, stuck-records, quiet-variable, no-pointer-uint, no-bool-uint, and_then, branch_numbers}
use Rattle.recording.proofs.RecordLaws.{then-uint, then-pointer, then-bool, else-uint, else-pointer, else-bool, branch-handed, branch-anew}
use Rattle.recording.proofs.RecordLaws.{says-arith, says-moved, says-valid, says-tested}

-- nothing goes with a value
nothing-more : {A : Type 0} (xs : List ℕ) (o : Out A) → and_then xs o (λ a. []) ≡ xs
unfolding and_then
nothing-more xs (gives a cs) = append-nil xs
nothing-more xs (fails why cs) = append-nil xs
nothing-more xs bad_choice = append-nil xs
nothing-more xs no_choice = append-nil xs
nothing-more xs stuck = append-nil xs

-- nothing is recorded after the second operand
last-operand : (e : Lent) (held : List ℕ) (n : ℕ) (w : Ty) (a b : ℕ)
    → and_then (operand_numbers e held w n a) (operand e w n a []) (λ x. and_then (operand_numbers e held uint n b) (operand e uint n b []) (λ y. []))
    ≡ operand_numbers e held w n a ++ given (operand e w n a []) (λ x. operand_numbers e held uint n b)
unfolding and_then
last-operand e held n w a b = ap (λ (ys : List ℕ). operand_numbers e held w n a ++ given (operand e w n a []) (λ x. ys))
    (nothing-more (operand_numbers e held uint n b) (operand e uint n b []))

-- what is stuck
stuck-is : (w : Ty) {at : ℕ} {o : Out (Of w)} → Answers w [] (Not Stuck at) o → stuck ≡ o
unfolding out_of failed
stuck-is w h = h.said

-- a node that is no operand of its user
pub not-below : (e : Lent) (held : List ℕ) (w : Ty) (n user at : ℕ) (out : List ℕ) (p : Pushed ℕ) → user ≤ n → Recorded w e held user n (Not Stuck at) out p
not-below e held w n user at out p h = record { value = values.not-below e w [] n user [] h; numbers = nowhere at out _ }

-- ---- a variable's node, to a user that takes no uint: nothing is recorded
quiet : (e : Lent) (held : List ℕ) (n user : ℕ) (w : Ty) (at : ℕ) (z : Answer) (out : List ℕ) {a : ℕ} → (node_at (own_table e.own) n).kind ≤ 26
    → n < user → node_in e.own n ≡ Variable a → w ≢ uint → ((l : List ℕ) → Answers w l z (operand e w user n (drop at l)))
    → Recorded w e held user n z out (pushed out at)
quiet e held n user w at z out {a} k h read ne says = record {
  value = says_same r.value (is []);
  numbers = subst (λ (xs : List ℕ). Reached z out (push_all xs (pushed out at))) (sym (numbers-are e held w n user k h read)) r.numbers;
}
  where
    is : (cs : List ℕ) → held_for (vars_in e) e.count a w cs ≡ operand e w user n cs
    is cs = values.variable-is e [] n user w cs h refl read

    r : Records w (held_for (vars_in e) e.count a w []) (variable_numbers e.own (vars_in e) a) z out (pushed out at)
    r = quiet-variable w e.own (vars_in e) e.count a at z out ne (λ l. says_same (says l) (sym (is (drop at l))))

-- ---- leaves, whose numbers need no plain table
module _ (e : Lent) (held : List ℕ) (n user : ℕ) (leaf : leaf_at e.own user n ≡ true) where
  abbrev word : ℕ
  word = get_or e.own (136 + 4 * n) 0

  leaf-small : n < user → (node_at (own_table e.own) n).kind ≤ 26
  leaf-small h =
      let i : 136 + 4 * n ≡ 4 * (34 + n) = omega numbers in
      subst (λ (i : ℕ). get_or e.own i 0 ≤ 26) i (omega (numbers, leaf-kind e.own n user h leaf))

  pub leaf-records-variable : {a : ℕ} (z : Answer) (out : List ℕ) (p : Pushed ℕ) → n < user → word ≡ 16 → a ≡ get_or e.own (136 + 4 * n + 1) 0
      → VariableRecords e.own e.numbers a z out p → Recorded uint e held user n z out p
  leaf-records-variable {a} z out p h k f s = record {
    value = says_same r.value (values.variable-is e [] n user uint [] h refl (leaf-variable e.own n k f));
    numbers = subst (λ (xs : List ℕ). Reached z out (push_all xs p))
        (sym (numbers-are e held uint n user (leaf-small h) h (leaf-variable e.own n k f))) r.numbers;
  }
    where
      r : Records uint (held_for (vars_in e) e.count a uint []) (variable_numbers e.own (vars_in e) a) z out p
      r = s.held e.bases e.count

  pub leaf-records-constant : (out : List ℕ) (at : ℕ) → n < user → word ≡ 17
      → Recorded uint e held user n (AUint (get_or e.own (136 + 4 * n + 1) 0) at) out (pushed out at)
  unfolding Reached
  leaf-records-constant out at h k = record {
    value = says_same (values.uint-constant e [] n user at h refl (leaf-constant e.own n k)) (ap (operand e uint user n) (drop-nil at));
    numbers = sym (ap (λ (xs : List ℕ). push_all xs (pushed out at)) (numbers-are e held uint n user (leaf-small h) h (leaf-constant e.own n k))
        ∙ push-none (pushed out at));
  }

  pub leaf-records-none : (out : List ℕ) (at : ℕ) (p : Pushed ℕ) → n < user → word ≢ 16 → word ≢ 17 → Recorded uint e held user n (Not Stuck at) out p
  leaf-records-none out at p h a b = record { value = values.no-uint-leaf e [] n user [] h leaf a b; numbers = nowhere at out _ }

  -- to a user that takes a pointer
  pub pointer-leaf-records : (at : ℕ) (z : Answer) (out : List ℕ) → PointerLeaf e.own e.numbers e.bases e.count user n at z
      → Recorded pointer e held user n z out (pushed out at)
  pointer-leaf-records at z out s = elim (dec_lt n user) [
    | yes h ↦ go h (eqb word 16) refl
    | no h ↦ none (stuck-is pointer {at = at} (values.not-below e pointer [] n user [] (omega numbers)))
  ]
    where
      says : (l : List ℕ) → Answers pointer l z (operand e pointer user n (drop at l))
      says l = s.leaf e.firsts e.lengths e.shapes e.cells l

      none : stuck ≡ operand e pointer user n [] → Recorded pointer e held user n z out (pushed out at)
      none q = stuck-records pointer z out (pushed out at) (operand_numbers e held pointer user n) q
          (says_same (says []) (ap (operand e pointer user n) (drop-nil at)))

      go : n < user → (b : Bool) → eqb word 16 ≡ b → Recorded pointer e held user n z out (pushed out at)
      go h true k = quiet e held n user pointer at z out (leaf-small h) h (leaf-variable e.own n (eqb-true word 16 k) refl) no-pointer-uint says
      go h false k = none (stuck-is pointer {at = at} (values.no-pointer-leaf e [] n user [] h leaf (eqb-false word 16 k)))

-- ---- a node's record, by the node r that was read at its number
module _ (e : Lent) (held : List ℕ) (n user : ℕ) {r : Taken} where
  -- its numbers are xs, as the node's kind has them
  by-numbers : (w : Ty) (z : Answer) (out : List ℕ) (p : Pushed ℕ) {x : Taken} {xs : List ℕ} → Plain e.own → user ≤ 1024 → n < user
      → r ≡ node_in e.own n → r ≡ x → Answers w [] z (operand e w user n []) → Reached z out (push_all xs p)
      → xs ≡ numbers_of e held (λ v m. operand e v n m) (places_of e.own) w n x → Recorded w e held user n z out p
  by-numbers w z out p plain most h read q v s k = record {
    value = v;
    numbers = subst (λ (ys : List ℕ). Reached z out (push_all ys p)) (k ∙ sym (numbers-plain e held w n user plain most h read q)) s;
  }

  -- it is a plain table's node
  is_plain : Plain e.own → user ≤ 1024 → n < user → r ≡ node_in e.own n → {x : Taken} → r ≡ x → plain_node x ≡ true
  is_plain plain most h read q = sym (ap plain_node (sym read ∙ q)) ∙ node-plain e.own n plain (omega numbers)

  pub uint-variable : (z : Answer) (out : List ℕ) (p : Pushed ℕ) {a : ℕ} → Plain e.own → user ≤ 1024 → n < user → r ≡ node_in e.own n → r ≡ Variable a
      → VariableRecords e.own e.numbers a z out p → Recorded uint e held user n z out p
  uint-variable z out p plain most h read q s = by-numbers uint z out p plain most h read q
      (says_same (s.held e.bases e.count).value (values.variable-is e [] n user uint [] h read q)) (s.held e.bases e.count).numbers refl

  module _ (z : Answer) (out : List ℕ) (at : ℕ) {a : ℕ} (plain : Plain e.own) (most : user ≤ 1024) (h : n < user) (read : r ≡ node_in e.own n)
      (q : r ≡ Variable a) where
    pub pointer-variable : HoldsPointer e.own e.numbers e.bases e.count a at z → Recorded pointer e held user n z out (pushed out at)
    pointer-variable s = quiet e held n user pointer at z out (plain.nodes n (omega numbers)) h (sym read ∙ q) no-pointer-uint
        (λ l. values.pointer-variable e l n user at h read q s)

    pub bool-variable : HoldsFor bool e.own e.numbers a at z → Recorded bool e held user n z out (pushed out at)
    bool-variable s = quiet e held n user bool at z out (plain.nodes n (omega numbers)) h (sym read ∙ q) no-bool-uint
        (λ l. values.any-variable e l n user at bool h read q s)

  pub any-if : (w : Ty) (z : Answer) (out : List ℕ) (p : Pushed ℕ) {a b c : ℕ} → Plain e.own → user ≤ 1024 → n < user → r ≡ node_in e.own n
      → r ≡ If a b c
      → Records w (followed w (operand e bool n a []) (branch e w n b c))
      (and_then (operand_numbers e held bool n a) (operand e bool n a []) (branch_numbers e held w n b c)) z out p
      → Recorded w e held user n z out p
  unfolding and_then branch_numbers
  any-if w z out p {a = a} {b = b} {c = c} plain most h read q s = by-numbers w z out p plain most h read q
      (values.any-if e [] n user z [] w h read q s.value) s.numbers
      (ap (λ (g : Bool → List ℕ). operand_numbers e held bool n a ++ given (operand e bool n a []) g) (fun_ext go))
    where
      go : (x : Bool) → operand_numbers e held w n (if x then b else c) ≡ (if x then operand_numbers e held w n b else operand_numbers e held w n c)
      go true = refl
      go false = refl

  module _ (z : Answer) (out : List ℕ) (p : Pushed ℕ) where
    pub pointer-arith : {m : Bool} {a b : ℕ} → Plain e.own → user ≤ 1024 → n < user → r ≡ node_in e.own n → r ≡ Arith m a b
        → Records pointer (followed pointer (operand e pointer n a [])
        (λ p ds. followed pointer (operand e uint n b ds) (moved_by m p.array p.place)))
        (and_then (operand_numbers e held pointer n a) (operand e pointer n a [])
        (λ p. and_then (operand_numbers e held uint n b) (operand e uint n b []) (λ y. []))) z out p
        → Recorded pointer e held user n z out p
    pointer-arith {a = a} {b = b} plain most h read q s = by-numbers pointer z out p plain most h read q
        (values.pointer-arith e [] n user z [] h read q s.value) s.numbers (last-operand e held n pointer a b)

    pub uint-arith : {m : Bool} {a b : ℕ} → Plain e.own → user ≤ 1024 → n < user → r ≡ node_in e.own n → r ≡ Arith m a b
        → Records uint (followed uint (operand e uint n a []) (λ x ds. followed uint (operand e uint n b ds) (arith m x)))
        (and_then (operand_numbers e held uint n a) (operand e uint n a [])
        (λ x. and_then (operand_numbers e held uint n b) (operand e uint n b []) (λ y. []))) z out p
        → Recorded uint e held user n z out p
    uint-arith {a = a} {b = b} plain most h read q s = by-numbers uint z out p plain most h read q
        (values.uint-arith e [] n user z [] h read q s.value) s.numbers (last-operand e held n uint a b)

    pub bool-compare : {k : Test} {a b : ℕ} → Plain e.own → user ≤ 1024 → n < user → r ≡ node_in e.own n → r ≡ Compare k a b
        → Records bool (followed bool (operand e uint n a []) (λ x ds. followed bool (operand e uint n b ds) (tested k x)))
        (and_then (operand_numbers e held uint n a) (operand e uint n a [])
        (λ x. and_then (operand_numbers e held uint n b) (operand e uint n b []) (λ y. []))) z out p
        → Recorded bool e held user n z out p
    bool-compare {a = a} {b = b} plain most h read q s = by-numbers bool z out p plain most h read q
        (values.bool-compare e [] n user z [] h read q s.value) s.numbers (last-operand e held n uint a b)

    -- 19
    pub uint-cell : {m : Bool} {a : ℕ} → Plain e.own → user ≤ 1024 → n < user → r ≡ node_in e.own n → r ≡ Cell m a
        → Records uint (followed uint (operand e pointer n a []) (load_of false (places_of e.own) (arrays_in e) e.cells))
        (and_then (operand_numbers e held pointer n a) (operand e pointer n a [])
        (λ p. cell_numbers (pair_of e.own) (held_of e.count held) p (load_of false (places_of e.own) (arrays_in e) e.cells p []))) z out p
        → Recorded uint e held user n z out p
    unfolding and_then
    uint-cell {m = true} plain most h read q s = absurd (false≢true (is_plain plain most h read q))
    uint-cell {m = false} plain most h read q s = by-numbers uint z out p plain most h read q (values.uint-cell e [] n user z [] h read q s.value)
        s.numbers refl

    -- 26
    pub bool-valid : {a : ℕ} → Plain e.own → user ≤ 1024 → n < user → r ≡ node_in e.own n → r ≡ Valid a
        → Records bool (followed bool (operand e pointer n a []) (λ p. valid_in (arrays_in e) p.array p.place))
        (and_then (operand_numbers e held pointer n a) (operand e pointer n a []) (λ p. [])) z out p
        → Recorded bool e held user n z out p
    bool-valid {a = a} plain most h read q s = by-numbers bool z out p plain most h read q (values.bool-valid e [] n user z [] h read q s.value)
        s.numbers (nothing-more _ (operand e pointer n a []))

  module _ (out : List ℕ) (at : ℕ) where
    pub uint-constant : {k : ℕ} → Plain e.own → user ≤ 1024 → n < user → r ≡ node_in e.own n → r ≡ Constant k
        → Recorded uint e held user n (AUint k at) out (pushed out at)
    unfolding Reached
    uint-constant plain most h read q = by-numbers uint (AUint _ at) out (pushed out at) plain most h read q
        (says_same (values.uint-constant e [] n user at h read q) (ap (operand e uint user n) (drop-nil at))) (sym (push-none (pushed out at))) refl

    pub bool-constant : {b : Bool} → Plain e.own → user ≤ 1024 → n < user → r ≡ node_in e.own n → r ≡ Flag b
        → Recorded bool e held user n (ABool b at) out (pushed out at)
    unfolding Reached
    bool-constant plain most h read q = by-numbers bool (ABool _ at) out (pushed out at) plain most h read q
        (says_same (values.bool-constant e [] n user at h read q) (ap (operand e bool user n) (drop-nil at))) (sym (push-none (pushed out at))) refl

  -- nodes that give no value of a type
  module _ (out : List ℕ) (at : ℕ) (p : Pushed ℕ) where
    pub pointer-other : n < user → r ≡ node_in e.own n → OneOf (1 ∷ 2 ∷ 3 ∷ 5 ∷ 7 ∷ 8 ∷ 9 ∷ []) (tag_of node r)
        → Recorded pointer e held user n (Not Stuck at) out p
    pointer-other h read k = record { value = values.pointer-other e [] n user [] h read k; numbers = nowhere at out _ }

    pub bool-other : n < user → r ≡ node_in e.own n → OneOf (1 ∷ 3 ∷ 4 ∷ 8 ∷ 9 ∷ []) (tag_of node r)
        → Recorded bool e held user n (Not Stuck at) out p
    bool-other h read k = record { value = values.bool-other e [] n user [] h read k; numbers = nowhere at out _ }

-- ... 27, which is no node of a plain table, is among those of a uint
not-class : (x : Taken) → plain_node x ≡ true → OneOf (2 ∷ 5 ∷ 7 ∷ 8 ∷ 9 ∷ []) (tag_of node x) → OneOf (2 ∷ 5 ∷ 7 ∷ 9 ∷ []) (tag_of node x)
not-class (Variable a) h k = absurd (miss (2 ∷ 5 ∷ 7 ∷ 8 ∷ 9 ∷ []) 0 tt k)
not-class (Constant c) h k = absurd (miss (2 ∷ 5 ∷ 7 ∷ 8 ∷ 9 ∷ []) 1 tt k)
not-class (Flag b) h k = hit (2 ∷ 5 ∷ 7 ∷ 9 ∷ []) 2 tt
not-class (Cell m a) h k = absurd (miss (2 ∷ 5 ∷ 7 ∷ 8 ∷ 9 ∷ []) 3 tt k)
not-class (Arith m a b) h k = absurd (miss (2 ∷ 5 ∷ 7 ∷ 8 ∷ 9 ∷ []) 4 tt k)
not-class (Compare c a b) h k = hit (2 ∷ 5 ∷ 7 ∷ 9 ∷ []) 5 tt
not-class (If a b c) h k = absurd (miss (2 ∷ 5 ∷ 7 ∷ 8 ∷ 9 ∷ []) 6 tt k)
not-class (Valid a) h k = hit (2 ∷ 5 ∷ 7 ∷ 9 ∷ []) 7 tt
not-class (InClass a) h k = absurd (false≢true h)
not-class Nothing h k = hit (2 ∷ 5 ∷ 7 ∷ 9 ∷ []) 9 tt

pub uint-other : (e : Lent) (held : List ℕ) (n user : ℕ) {r : Taken} (out : List ℕ) (at : ℕ) (p : Pushed ℕ) → Plain e.own → user ≤ 1024 → n < user
    → r ≡ node_in e.own n → OneOf (2 ∷ 5 ∷ 7 ∷ 8 ∷ 9 ∷ []) (tag_of node r) → Recorded uint e held user n (Not Stuck at) out p
uint-other e held n user {r} out at p plain most h read k = record {
  value = values.uint-other e [] n user [] h read (not-class r (is_plain e held n user plain most h read refl) k);
  numbers = nowhere at out _;
}

-- ---- what proves each return of a recording evaluator: how it goes on from an operand, what a leaf says, and each node
pub ruleset onward = (then-uint, then-pointer, then-bool, else-uint, else-pointer, else-bool, branch-handed, branch-anew)

pub ruleset saying = (says-arith, says-moved, says-valid, says-tested, uint-variable, pointer-variable, bool-variable, uint-constant, bool-constant)

pub ruleset ruling = (any-if, pointer-arith, pointer-other, uint-cell, uint-arith, uint-other, bool-compare, bool-valid, bool-other)

pub ruleset records = (not-below, onward, saying, ruling)
