-- The reduction changes the kinds as the reduced machine expects, and nothing else.
-- Assumes nothing.
use mathlib.Core.Path.{◌≡◌, refl, sym, ap, ◌∙◌, subst}
use Prim.Native.Nat.{ℕ, ◌+◌, ◌*◌, ◌%◌, ◌/◌, ◌≤◌, ◌<◌}
use native.Mathlib.Decide.{dec_le}
use native.Mathlib.Omega.{arith}
use mathlib.Core.Bool.{Bool, true, false, ◌&&◌}
use mathlib.Core.List.{List}
use lib.ListN.{length, get_or, get_or-eq_default}
use lib.Dec.{eqb}
use borrow.Author.Tests.{le-leb, lt-leb, eq-eqb, ne_eqb, eqb-true, ltb-true}
use Rattle.std.specs.Prelude.{if◌then◌else◌}
use Rattle.lists.specs.Tab.{all}
use Rattle.lists.proofs.BoolLaws.{and_left, and_right}
use Rattle.lists.proofs.TabLaws.{all-at, at-tab, length-tab, same_sum}
use Rattle.lists.proofs.CountLaws.{bit}
use Rattle.model.specs.Table.{Node, Row, Table, Ty, count, is_declaration, is_node, is_row, line_at, marked, node_kind, node_kinds, row_kind, row_kinds}
use Rattle.model.specs.Table.{opens_procedure, table_of, type_of}
use Rattle.model.specs.Table.Ty.{bool, uint, pointer}
use Rattle.model.specs.Table.Node.{variable, uint_constant, bool_constant, cell, plus, minus, less, at_most, equal, conditional, valid, class_variable}
use Rattle.model.specs.Table.Node.{reduced_cell, reduced_valid, no_node}
use Rattle.model.specs.Table.Row.{skip, assign, store, assert, assume, array, loop, loop_end, reduced_store, reduced_array, class_loop}
use Rattle.model.specs.Table.Row.{procedure, returns, call, no_row}
use Rattle.model.specs.State.MachineKind.{plain, reduced}
use Rattle.model.specs.Reduce.{reduce, reduced_kind, reduced_word}
use Rattle.model.specs.Accepted.{known, ty_number}
use Rattle.model.proofs.KindsIn.{Reduces, node_in, row_in}

-- a kind's number
unfoldable pub node_number : Node → ℕ
node_number variable = 16
node_number uint_constant = 17
node_number bool_constant = 18
node_number cell = 19
node_number plus = 20
node_number minus = 21
node_number less = 22
node_number at_most = 23
node_number equal = 24
node_number conditional = 25
node_number valid = 26
node_number class_variable = 27
node_number reduced_cell = 28
node_number reduced_valid = 29
node_number no_node = 0

node-back : (k : Node) → node_kind (node_number k) ≡ k
unfolding node_number node_kind
node-back variable = refl
node-back uint_constant = refl
node-back bool_constant = refl
node-back cell = refl
node-back plus = refl
node-back minus = refl
node-back less = refl
node-back at_most = refl
node-back equal = refl
node-back conditional = refl
node-back valid = refl
node-back class_variable = refl
node-back reduced_cell = refl
node-back reduced_valid = refl
node-back no_node = refl

unfoldable pub row_number : Row → ℕ
row_number skip = 32
row_number assign = 33
row_number store = 34
row_number assert = 35
row_number assume = 36
row_number array = 37
row_number loop = 38
row_number loop_end = 39
row_number reduced_store = 40
row_number reduced_array = 41
row_number class_loop = 42
row_number procedure = 43
row_number returns = 44
row_number call = 45
row_number no_row = 0

row_back : (k : Row) → row_kind (row_number k) ≡ k
unfolding row_number row_kind
row_back skip = refl
row_back assign = refl
row_back store = refl
row_back assert = refl
row_back assume = refl
row_back array = refl
row_back loop = refl
row_back loop_end = refl
row_back reduced_store = refl
row_back reduced_array = refl
row_back class_loop = refl
row_back procedure = refl
row_back returns = refl
row_back call = refl
row_back no_row = refl

pub ty-back : (w : Ty) → type_of (ty_number w) ≡ w
unfolding type_of
ty-back bool = refl
ty-back uint = refl
ty-back pointer = refl

-- ---- facts of every kind, by computing those below 46

-- a number above all kinds is no kind, and stays
stays : (u q : Bool) (k : ℕ) → 46 ≤ k → reduced_kind u q k ≡ k
unfolding reduced_kind
stays u q k h =
    simp (
      ne_eqb k 16 (λ e. omega arith),
      ne_eqb k 19 (λ e. omega arith),
      ne_eqb k 26 (λ e. omega arith),
      ne_eqb k 34 (λ e. omega arith),
      ne_eqb k 37
          (λ e. omega arith),
      ne_eqb k 38 (λ e. omega arith),
    )

-- so does a declaration's kind
pub declaration-stays : (u q : Bool) (k : ℕ) → is_declaration k ≡ true → reduced_kind u q k ≡ k
unfolding reduced_kind
declaration-stays u q k e =
    let h : k < 16 = ltb-true k 16 e in
    simp (
      ne_eqb k 16 (λ e. omega arith),
      ne_eqb k 19 (λ e. omega arith),
      ne_eqb k 26 (λ e. omega arith),
      ne_eqb k 34 (λ e. omega arith),
      ne_eqb k 37
          (λ e. omega arith),
      ne_eqb k 38 (λ e. omega arith),
    )

pub no-node : (k : ℕ) → 46 ≤ k → node_kind k ≡ no_node
unfolding node_kind
no-node k h = get_or-eq_default node_kinds no_node {n = k} (omega arith)

pub no-row : (k : ℕ) → 46 ≤ k → row_kind k ≡ no_row
unfolding row_kind
no-row k h = get_or-eq_default row_kinds no_row {n = k} (omega arith)

-- two functions of a kind and of what its operand is: computed to agree below 46
abbrev agree : (Bool → Bool → ℕ → ℕ) → (Bool → Bool → ℕ → ℕ) → Bool → Bool → Bool
agree f g u q = all 46 (λ k. eqb (f u q k) (g u q k))

abbrev agree_all : (Bool → Bool → ℕ → ℕ) → (Bool → Bool → ℕ → ℕ) → Bool
agree_all f g = (agree f g true true && agree f g true false) && (agree f g false true && agree f g false false)

-- ... agree, if they do so above
by-kinds : (f g : Bool → Bool → ℕ → ℕ) → agree_all f g ≡ true → ((u q : Bool) (k : ℕ) → 46 ≤ k → f u q k ≡ g u q k) → (u q : Bool) (k : ℕ) → f u q k ≡ g u q k
by-kinds f g e h u q k = elim (dec_le 46 k) [
  | yes l ↦ h u q k l
  | no l ↦ eqb-true (f u q k) (g u q k) (all-at 46 (λ i. eqb (f u q i) (g u q i)) (case u q) k (omega arith))
]
  where
    left : (agree f g true true && agree f g true false) ≡ true
    left = and_left (agree f g true true && agree f g true false) (agree f g false true && agree f g false false) e

    right : (agree f g false true && agree f g false false) ≡ true
    right = and_right (agree f g true true && agree f g true false) (agree f g false true && agree f g false false) e

    case : (u q : Bool) → agree f g u q ≡ true
    case true true = and_left (agree f g true true) (agree f g true false) left
    case true false = and_right (agree f g true true) (agree f g true false) left
    case false true = and_left (agree f g false true) (agree f g false false) right
    case false false = and_right (agree f g false true) (agree f g false false) right

bit-back : (b c : Bool) → bit b ≡ bit c → b ≡ c
bit-back true true e = refl
bit-back true false e = absurd (omega arith)
bit-back false true e = absurd (omega arith)
bit-back false false e = refl

node-numbers : (u q : Bool) (k : ℕ) → node_number (node_kind (reduced_kind u q k)) ≡ node_number (node_in reduced u (node_kind k))
unfolding all node_number node_kind reduced_kind
node-numbers = by-kinds (λ u q k. node_number (node_kind (reduced_kind u q k))) (λ u q k. node_number (node_in reduced u (node_kind k))) refl
    (λ u q k h. rw (stays u q k h, no-node k h))

row-numbers : (u q : Bool) (k : ℕ) → row_number (row_kind (reduced_kind u q k)) ≡ row_number (row_in reduced u q (row_kind k))
unfolding all row_number row_kind reduced_kind
row-numbers = by-kinds (λ u q k. row_number (row_kind (reduced_kind u q k))) (λ u q k. row_number (row_in reduced u q (row_kind k))) refl
    (λ u q k h. rw (stays u q k h, no-row k h))

type-numbers : (u q : Bool) (k : ℕ) → ty_number (type_of (reduced_kind u q k)) ≡ ty_number (type_of k)
unfolding all type_of reduced_kind
type-numbers = by-kinds (λ u q k. ty_number (type_of (reduced_kind u q k))) (λ u q k. ty_number (type_of k)) refl (λ u q k h. rw (stays u q k h))

pub new-node : (u q : Bool) (k : ℕ) → node_kind (reduced_kind u q k) ≡ node_in reduced u (node_kind k)
new-node u q k = sym (node-back _) ∙ ap node_kind (node-numbers u q k) ∙ node-back _

pub new_row : (u q : Bool) (k : ℕ) → row_kind (reduced_kind u q k) ≡ row_in reduced u q (row_kind k)
new_row u q k = sym (row_back _) ∙ ap row_kind (row-numbers u q k) ∙ row_back _

new-type : (u q : Bool) (k : ℕ) → type_of (reduced_kind u q k) ≡ type_of k
new-type u q k = sym (ty-back _) ∙ ap type_of (type-numbers u q k) ∙ ty-back _

-- a line keeps its sort, and a declaration its kind
new-declaration : (u q : Bool) (k : ℕ) → bit (is_declaration (reduced_kind u q k)) ≡ bit (is_declaration k)
unfolding all reduced_kind
new-declaration = by-kinds (λ u q k. bit (is_declaration (reduced_kind u q k))) (λ u q k. bit (is_declaration k)) refl (λ u q k h. rw (stays u q k h))

new-is_node : (u q : Bool) (k : ℕ) → bit (is_node (reduced_kind u q k)) ≡ bit (is_node k)
unfolding all reduced_kind
new-is_node = by-kinds (λ u q k. bit (is_node (reduced_kind u q k))) (λ u q k. bit (is_node k)) refl (λ u q k h. rw (stays u q k h))

new-is_row : (u q : Bool) (k : ℕ) → bit (is_row (reduced_kind u q k)) ≡ bit (is_row k)
unfolding all reduced_kind
new-is_row = by-kinds (λ u q k. bit (is_row (reduced_kind u q k))) (λ u q k. bit (is_row k)) refl (λ u q k h. rw (stays u q k h))

uint-numbers : (u q : Bool) (k : ℕ) → bit (eqb (reduced_kind u q k) 2) ≡ bit (eqb k 2)
unfolding all reduced_kind
uint-numbers = by-kinds (λ u q k. bit (eqb (reduced_kind u q k) 2)) (λ u q k. bit (eqb k 2)) refl (λ u q k h. rw (stays u q k h))

new-uint : (u q : Bool) (k : ℕ) → eqb (reduced_kind u q k) 2 ≡ eqb k 2
new-uint u q k = bit-back _ _ (uint-numbers u q k)

pointer-numbers : (u q : Bool) (k : ℕ) → bit (eqb (reduced_kind u q k) 3) ≡ bit (eqb k 3)
unfolding all reduced_kind
pointer-numbers = by-kinds (λ u q k. bit (eqb (reduced_kind u q k) 3)) (λ u q k. bit (eqb k 3)) refl (λ u q k h. rw (stays u q k h))

new-pointer : (u q : Bool) (k : ℕ) → eqb (reduced_kind u q k) 3 ≡ eqb k 3
new-pointer u q k = bit-back _ _ (pointer-numbers u q k)

-- 43 opens a procedure, and no other kind does
opening-numbers : (u q : Bool) (k : ℕ) → bit (opens_procedure (row_kind k)) ≡ bit (eqb k 43)
unfolding all row_kind
opening-numbers = by-kinds (λ u q k. bit (opens_procedure (row_kind k))) (λ u q k. bit (eqb k 43)) refl
    (λ u q k h. rw (no-row k h, ne_eqb k 43 (λ e. omega arith)))

pub opens-43 : (k : ℕ) → opens_procedure (row_kind k) ≡ eqb k 43
opens-43 k = bit-back _ _ (opening-numbers true true k)

-- a plain kind becomes a kind that the reduced machine knows
abbrev implies : Bool → Bool → Bool
implies b c = if b then c else true

new-known : (u q : Bool) (k : ℕ) → bit (implies (known plain k) (known reduced (reduced_kind u q k))) ≡ 1
unfolding all known reduced_kind
new-known = by-kinds (λ u q k. bit (implies (known plain k) (known reduced (reduced_kind u q k)))) (λ u q k. 1) refl
    (λ u q k h. rw (
      lt-leb k 45 (omega arith),
      lt-leb k 39 (omega arith),
      lt-leb k 26 (omega arith),
      lt-leb k 3 (omega arith),
      le-leb 1 k
          (omega arith),
      le-leb 16 k (omega arith),
      le-leb 32 k (omega arith),
      le-leb 43 k (omega arith),
    ))

pub known-reduced : (u q : Bool) (k : ℕ) → known plain k ≡ true → known reduced (reduced_kind u q k) ≡ true
known-reduced u q k h = bit-back _ true (subst (λ b. bit (implies b (known reduced (reduced_kind u q k))) ≡ 1) h (new-known u q k))

-- ---- word by word, and line by line

module _ (w : List ℕ) where
  pub length-reduce : length (reduce w) ≡ length w
  unfolding reduce
  length-reduce = length-tab (length w) (reduced_word w)

  nothing-there : (i : ℕ) → length w ≤ i → reduced_word w i ≡ 0
  unfolding reduced_kind
  nothing-there i h = rw (get_or-eq_default w 0 {n = i} h) (go (eqb (i % 4) 0))
    where
      go : (b : Bool) → ◌≡◌ {A = ℕ} (if b then 0 else 0) 0
      go true = refl
      go false = refl

  -- past the end too
  pub reduced-at : (i : ℕ) → get_or (reduce w) i 0 ≡ reduced_word w i
  unfolding reduce
  reduced-at i = elim (dec_le (length w) i) [
    | yes h ↦ get_or-eq_default (reduce w) 0 {n = i} (omega (arith, length-reduce)) ∙ sym (nothing-there i h)
    | no h ↦ at-tab (length w) (reduced_word w) 0 i (omega arith)
  ]

  module _ (i : ℕ) where
    pub reduce-kind : (line_at (reduce w) i).kind ≡ reduced_kind (marked w 2 (line_at w i).a) (marked w 3 (line_at w i).a) (line_at w i).kind
    reduce-kind = reduced-at (4 * i) ∙ rw (eq-eqb ((4 * i) % 4) 0 (omega arith))

    pub reduce-a : (line_at (reduce w) i).a ≡ (line_at w i).a
    reduce-a = reduced-at (4 * i + 1) ∙ rw (ne_eqb ((4 * i + 1) % 4) 0 (omega arith))

    pub reduce-b : (line_at (reduce w) i).b ≡ (line_at w i).b
    reduce-b = reduced-at (4 * i + 2) ∙ rw (ne_eqb ((4 * i + 2) % 4) 0 (omega arith))

    pub reduce-c : (line_at (reduce w) i).c ≡ (line_at w i).c
    reduce-c = reduced-at (4 * i + 3) ∙ rw (ne_eqb ((4 * i + 3) % 4) 0 (omega arith))

    -- the sort of a line
    pub same-declaration : is_declaration (line_at (reduce w) i).kind ≡ is_declaration (line_at w i).kind
    same-declaration = ap is_declaration reduce-kind ∙ bit-back _ _ (new-declaration _ _ _)

    pub same-is_node : is_node (line_at (reduce w) i).kind ≡ is_node (line_at w i).kind
    same-is_node = ap is_node reduce-kind ∙ bit-back _ _ (new-is_node _ _ _)

    pub same-is_row : is_row (line_at (reduce w) i).kind ≡ is_row (line_at w i).kind
    same-is_row = ap is_row reduce-kind ∙ bit-back _ _ (new-is_row _ _ _)

    pub same-marked_uint : marked (reduce w) 2 i ≡ marked w 2 i
    unfolding marked
    same-marked_uint = rw (reduce-kind, reduce-a, new-uint (marked w 2 (line_at w i).a) (marked w 3 (line_at w i).a) (line_at w i).kind)

    pub same-marked_pointer : marked (reduce w) 3 i ≡ marked w 3 i
    unfolding marked
    same-marked_pointer = rw (reduce-kind, reduce-a, new-pointer (marked w 2 (line_at w i).a) (marked w 3 (line_at w i).a) (line_at w i).kind)

  same_count : (sort : ℕ → Bool) → ((u q : Bool) (k : ℕ) → bit (sort (reduced_kind u q k)) ≡ bit (sort k)) → count sort (reduce w) ≡ count sort w
  same_count sort h = rw length-reduce
      (same_sum (length w / 4) (λ i. bit (sort (line_at (reduce w) i).kind)) (λ i. bit (sort (line_at w i).kind))
      (λ i l. ap (λ (k : ℕ). bit (sort k)) (reduce-kind i) ∙ h _ _ _))

-- the reduction, as a table
abbrev pub reduced_table : Table → Table
reduced_table t = record { words = reduce t.words; decls = t.decls; nodes = t.nodes; rows = t.rows }

pub table-reduce : (w : List ℕ) → table_of (reduce w) ≡ reduced_table (table_of w)
unfolding table_of
table-reduce w = rw (same_count w is_declaration new-declaration, same_count w is_node new-is_node, same_count w is_row new-is_row)

pub reduces : (t : Table) → Reduces t (reduced_table t)
reduces t = record {
  nodes = record {
    kind = λ n. ap node_kind (reduce-kind t.words (t.decls + n)) ∙ new-node _ _ _;
    a = λ n. reduce-a t.words (t.decls + n);
    b = λ n. reduce-b t.words (t.decls + n);
    c = λ n. reduce-c t.words (t.decls + n);
  };
  rows = refl;
  count = refl;
  decls = refl;
  type = λ i. ap type_of (reduce-kind t.words i) ∙ new-type _ _ _;
  classes = same-marked_uint t.words;
  kind = λ n. ap row_kind (reduce-kind t.words (t.decls + t.nodes + n)) ∙ new_row _ _ _;
  a = λ n. reduce-a t.words (t.decls + t.nodes + n);
  b = λ n. reduce-b t.words (t.decls + t.nodes + n);
  c = λ n. reduce-c t.words (t.decls + t.nodes + n);
}
