-- Check 17 goes by summaries: they say exactly whose locals a row uses. And a call names a procedure exactly if its number is below their count.
-- Assumes nothing.
use mathlib.Core.Path.{◌≡◌, refl, sym, ap, ◌∙◌, subst}
use Prim.Native.Nat.{ℕ, zero, suc, ◌+◌, ◌≤◌, ◌<◌}
use native.Mathlib.Nat.{not-suc-le-zero}
use native.Mathlib.Omega.{arith}
use mathlib.Core.Bool.{Bool, true, false, ◌||◌}
use lib.Dec.{ltb, eqb}
use borrow.Author.Tests.{ltb-true, lt-ltb, le-ltb, eqb-true, eq-eqb}
use Rattle.std.specs.Prelude.{if◌then◌else◌}
use Rattle.lists.specs.Tab.{sum}
use Rattle.lists.specs.First.{walk}
use Rattle.lists.proofs.FallingLaws.{value-is}
use Rattle.model.specs.Table.{Line, Role, Roles, Table, counted, home, is_opening, node_at, node_kind, node_roles, opening, row_at, row_kind, row_roles}
use Rattle.model.specs.Table.Role.{unused, flag, number, a_variable, a_node}
use Rattle.model.specs.Procedures.{Has, Reads, RowUses, Uses, UsesRightHolds, allowed, line_uses, may_use, node_uses, opened_before, operand_uses}
use Rattle.model.specs.Procedures.{owner, together, uses_own, variable_uses}
use Rattle.model.specs.Procedures.Uses.{globals, locals_of_one, locals_of_two}
use Rattle.model.specs.Procedures.Has.{has_a, has_b, has_c}
use Rattle.model.specs.Procedures.Reads.{itself, under}
use Rattle.model.specs.Procedures.RowUses.{names, reads}
use Rattle.model.proofs.Own.{allowed-left, allowed-right, allowed-variable}

-- ---- summaries

allowed-both : (q : ℕ) (x y : Uses) → allowed q x ≡ true → allowed q y ≡ true → allowed q (together x y) ≡ true
allowed-both q globals y e f = f
allowed-both q (locals_of_one p) globals e f = e
allowed-both q (locals_of_one p) (locals_of_one r) e f = rw (eq-eqb p r (eqb-true p q e ∙ sym (eqb-true r q f))) e
allowed-both q (locals_of_one p) locals_of_two e f = f
allowed-both q locals_of_two y e f = e

variable-allowed : (t : Table) (q v : ℕ) → may_use t q v ≡ true → allowed q (variable_uses t v) ≡ true
variable-allowed t q v e = go (eqb (owner t v) 0) e
  where
    go : (b : Bool) → (b || eqb (owner t v) q) ≡ true → allowed q (if b then globals else locals_of_one (owner t v)) ≡ true
    go true e = refl
    go false e = e

module _ (t : Table) (q : ℕ) (us : ℕ → Uses) where
  -- of a line, each operand is allowed
  operand-allowed : (rs : Roles) (l : Line) → allowed q (line_uses t us rs l.a l.b l.c) ≡ true → (k : Role) (x : ℕ) → Has rs l k x
      → allowed q (operand_uses t us k x) ≡ true
  operand-allowed rs l e k x (has_a r y) =
      rw (← r, ← y)
      (allowed-left q (operand_uses t us rs.a l.a) (together (operand_uses t us rs.b l.b) (operand_uses t us rs.c l.c)) e)
  operand-allowed rs l e k x (has_b r y) =
      rw (← r, ← y)
      (allowed-left q (operand_uses t us rs.b l.b) (operand_uses t us rs.c l.c)
      (allowed-right q (operand_uses t us rs.a l.a) (together (operand_uses t us rs.b l.b) (operand_uses t us rs.c l.c)) e))
  operand-allowed rs l e k x (has_c r y) =
      rw (← r, ← y)
      (allowed-right q (operand_uses t us rs.b l.b) (operand_uses t us rs.c l.c)
      (allowed-right q (operand_uses t us rs.a l.a) (together (operand_uses t us rs.b l.b) (operand_uses t us rs.c l.c)) e))

  -- ... and if each is, the line is
  line-allowed : (rs : Roles) (l : Line) → ((x : ℕ) → Has rs l a_variable x → may_use t q x ≡ true)
      → ((x : ℕ) → Has rs l a_node x → allowed q (us x) ≡ true) → allowed q (line_uses t us rs l.a l.b l.c) ≡ true
  line-allowed rs l v n =
      allowed-both q (operand_uses t us rs.a l.a) _ (one rs.a l.a (λ e. v _ (has_a e refl)) (λ e. n _ (has_a e refl)))
      (allowed-both q (operand_uses t us rs.b l.b) _ (one rs.b l.b (λ e. v _ (has_b e refl)) (λ e. n _ (has_b e refl)))
      (one rs.c l.c (λ e. v _ (has_c e refl)) (λ e. n _ (has_c e refl))))
    where
      one : (k : Role) (x : ℕ) → (k ≡ a_variable → may_use t q x ≡ true) → (k ≡ a_node → allowed q (us x) ≡ true) → allowed q (operand_uses t us k x) ≡ true
      one unused x v n = refl
      one flag x v n = refl
      one number x v n = refl
      one a_variable x v n = variable-allowed t q x (v refl)
      one a_node x v n = n refl

module _ (t : Table) (q : ℕ) where
  -- the summaries of the nodes below n
  abbrev sofar : ℕ → ℕ → Uses
  sofar n j = if ltb j n then node_uses t j else globals

  uses-is : (n : ℕ) → node_uses t n ≡ line_uses t (sofar n) (node_roles (node_kind (node_at t n).kind)) (node_at t n).a (node_at t n).b (node_at t n).c
  unfolding node_uses
  uses-is n = value-is (λ m us. line_uses t us (node_roles (node_kind (node_at t m).kind)) (node_at t m).a (node_at t m).b (node_at t m).c) globals n

  node-has : (n : ℕ) → allowed q (node_uses t n) ≡ true → (k : Role) (x : ℕ) → Has (node_roles (node_kind (node_at t n).kind)) (node_at t n) k x
      → allowed q (operand_uses t (sofar n) k x) ≡ true
  node-has n e = operand-allowed t q (sofar n) (node_roles (node_kind (node_at t n).kind)) (node_at t n) (subst (λ u. allowed q u ≡ true) (uses-is n) e)

  node-reads : (v n : ℕ) → Reads t v n → allowed q (node_uses t n) ≡ true → may_use t q v ≡ true
  node-reads v n (itself m h) e = allowed-variable t q v (node-has n e a_variable v h)
  node-reads v n (under m o h l r) e = node-reads v o r (rw (lt-ltb o n l) at (node-has n e a_node o h))

  node-allowed : (f n : ℕ) → n < f → ((v : ℕ) → Reads t v n → may_use t q v ≡ true) → allowed q (node_uses t n) ≡ true
  node-allowed zero n l h = absurd (not-suc-le-zero l)
  node-allowed (suc f) n l h =
      subst (λ u. allowed q u ≡ true) (sym (uses-is n))
      (line-allowed t q (sofar n) (node_roles (node_kind (node_at t n).kind)) (node_at t n) (λ x k. h x (itself n k))
      (λ x k. one x k (ltb x n) refl (λ d. node-allowed f x (omega (arith, ltb-true x n d)) (λ v r. h v (under n x k (ltb-true x n d) r)))))
    where
      one : (x : ℕ) → Has (node_roles (node_kind (node_at t n).kind)) (node_at t n) a_node x → (b : Bool) → ltb x n ≡ b
          → (ltb x n ≡ true → allowed q (node_uses t x) ≡ true) → allowed q (sofar n x) ≡ true
      one x k true d ih = rw d (ih d)
      one x k false d ih = rw d refl

-- ---- how many procedures there are

module _ (t : Table) where
  abbrev opens : ℕ → ℕ
  opens i = if is_opening t i then 1 else 0

  next-count : (i : ℕ) → sum (suc i) opens ≡ sum i opens + opens i
  unfolding sum
  next-count i = refl

  none_yet : sum 0 opens ≡ 0
  unfolding sum
  none_yet = refl

  grows : (n i : ℕ) → sum i opens ≤ sum (i + n) opens
  grows zero i = subst (λ (j : ℕ). sum i opens ≤ sum j opens) (let e : i ≡ i + 0 = omega arith in e) (omega arith)
  grows (suc n) i =
      subst (λ (j : ℕ). sum i opens ≤ sum j opens) (let e : suc (i + n) ≡ i + suc n = omega arith in e) (omega (arith, grows n i, next-count (i + n)))

  abbrev scan : ℕ → ℕ → ℕ → ℕ
  scan i n k = walk (λ i rest. counted (is_opening t i) i rest) (λ k. t.rows) i n k

  scan-finds : (n i k : ℕ) → i + n ≡ t.rows → ltb (scan i n k) t.rows ≡ ltb (sum i opens + k) (sum t.rows opens)
  unfolding walk
  scan-finds zero i k h =
      let e : i ≡ t.rows = omega arith in
      le-ltb t.rows t.rows (omega arith)
      ∙ sym (le-ltb (sum i opens + k) (sum t.rows opens) (subst (λ (j : ℕ). sum t.rows opens ≤ sum j opens + k) (sym e) (omega arith)))
  scan-finds (suc n) i k h = go (is_opening t i) refl k (λ k. scan-finds n (suc i) k (omega arith))
    where
      more : sum (suc i) opens ≤ sum t.rows opens
      more = subst (λ (j : ℕ). sum (suc i) opens ≤ sum j opens) (let e : suc i + n ≡ t.rows = omega arith in e) (grows n (suc i))

      go : (b : Bool) → is_opening t i ≡ b → (k : ℕ)
          → ((k : ℕ) → ltb (scan (suc i) n k) t.rows ≡ ltb (sum (suc i) opens + k) (sum t.rows opens))
          → ltb (counted (is_opening t i) i (scan (suc i) n) k) t.rows ≡ ltb (sum i opens + k) (sum t.rows opens)
      go true e zero ih =
          let c : sum (suc i) opens ≡ sum i opens + 1 = next-count i ∙ rw e in
          rw e (lt-ltb i t.rows (omega arith) ∙ sym (lt-ltb (sum i opens + 0) (sum t.rows opens) (omega (arith, more))))
      go true e (suc k) ih =
          let c : sum (suc i) opens ≡ sum i opens + 1 = next-count i ∙ rw e in
          rw e (ih k ∙ ap (λ (j : ℕ). ltb j (sum t.rows opens)) (omega arith))
      go false e k ih =
          let c : sum (suc i) opens ≡ sum i opens + 0 = next-count i ∙ rw e in
          rw e (ih k ∙ ap (λ (j : ℕ). ltb j (sum t.rows opens)) (omega arith))

  is-called : (k : ℕ) → ltb (opening t k) t.rows ≡ ltb k (opened_before t t.rows)
  unfolding opening
  is-called k =
      scan-finds t.rows 0 k (omega arith)
      ∙ ap (λ (j : ℕ). ltb j (sum t.rows opens)) (let e : sum 0 opens + k ≡ k = omega (arith, none_yet) in e)

pub uses-right : UsesRightHolds
unfolding uses_own
uses-right t = record {
  only_own = λ r e v h. named r e v h;
  where_own = λ r h. line-allowed t (home t r) (node_uses t) (row_roles (row_kind (row_at t r).kind)) (row_at t r) (λ x k. h x (names k))
      (λ x k. node-allowed t (home t r) (suc x) x (omega arith) (λ v z. h v (reads x k z)));
  called = is-called t;
}
  where
    named : (r : ℕ) → allowed (home t r)
        (line_uses t (node_uses t) (row_roles (row_kind (row_at t r).kind)) (row_at t r).a (row_at t r).b (row_at t r).c) ≡ true
        → (v : ℕ) → RowUses t r v → may_use t (home t r) v ≡ true
    named r e v (names h) =
        allowed-variable t (home t r) v (operand-allowed t (home t r) (node_uses t) (row_roles (row_kind (row_at t r).kind)) (row_at t r) e a_variable v h)
    named r e v (reads n h z) =
        node-reads t (home t r) v n z (operand-allowed t (home t r) (node_uses t) (row_roles (row_kind (row_at t r).kind)) (row_at t r) e a_node n h)
