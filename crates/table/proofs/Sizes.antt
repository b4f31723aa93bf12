-- Where the lines of each sort stand in a table that breaks neither 5 nor 6, and how many there are.
-- Assumes nothing.
use Prim.Native.Nat.{ℕ, zero, suc, ◌+◌, ◌-◌, ◌/◌, ◌%◌, ◌<◌, ◌≤◌}
use native.Mathlib.Omega.{arith}
use native.Mathlib.Decide.{dec_le}
use mathlib.Core.Path.{◌≡◌, refl, sym, ap, ◌∙◌, subst}
use mathlib.Core.Bool.{Bool, true, false, not, ◌&&◌, false≢true, true≢false}
use mathlib.Core.List.{List}
use lib.ListN.{length}
use lib.Dec.{ltb, leb}
use borrow.Author.Tests.{ltb-false, leb-true, leb-false, lt-ltb, le-ltb, le-leb, lt-leb}
use Rattle.std.specs.Prelude.{None}
use Rattle.std.specs.Prelude.{if◌then◌else◌}
use Rattle.lists.specs.Tab.{sum}
use Rattle.lists.specs.First.{first}
use Rattle.lists.proofs.TabLaws.{same_sum}
use Rattle.lists.proofs.FirstLaws.{first-nowhere-at}
use Rattle.lists.proofs.CountLaws.{bit, counted, sum-add, sum_ones, uncounted}
use Rattle.model.specs.Table.{is_declaration, is_node, is_row, line_at, line_count, table_of}
use Rattle.model.specs.State.{MachineKind}
use Rattle.model.specs.Accepted.{known}
use Rattle.kinds.specs.Kinds.{sort_number}
use Rattle.loop_checks.proofs.OrLaws.{or_left, or_right}
use Rattle.line_checks.specs.Rules.{breaks5, breaks6, most_declarations, most_nodes, most_rows}
use Rattle.table.specs.Checks.{breaks}

-- ---- Bools

pub not-false : (b : Bool) → not b ≡ false → b ≡ true
not-false true e = refl
not-false false e = absurd (true≢false e)

-- ---- the sort of a kind

-- a declaration, a node or a row, and only one of them
one-sort : (k : ℕ) → bit (is_declaration k) + bit (is_node k) + bit (is_row k) ≡ 1
one-sort k = elim (dec_le 16 k) [
  | yes h ↦ elim (dec_le 32 k) [
    | yes l ↦ rw (le-ltb k 16 h, le-leb 16 k h, le-ltb k 32 l, le-leb 32 k l)
    | no l ↦ rw (le-ltb k 16 h, le-leb 16 k h, lt-ltb k 32 (omega arith), lt-leb 32 k (omega arith))
  ]
  | no h ↦ rw (lt-ltb k 16 (omega arith), lt-leb 16 k (omega arith), lt-leb 32 k (omega arith))
]

row-not : (k : ℕ) → bit (not (is_row k)) ≡ bit (is_declaration k) + bit (is_node k)
row-not k = go (is_row k) refl (one-sort k)
  where
    go : (b : Bool) → is_row k ≡ b → bit (is_declaration k) + bit (is_node k) + bit b ≡ 1 → bit (not b) ≡ bit (is_declaration k) + bit (is_node k)
    go true e h = omega arith
    go false e h = omega arith

sort-declaration : (k : ℕ) → is_declaration k ≡ true → sort_number k ≡ 0
sort-declaration k e = rw e

sort-some : (k : ℕ) → is_declaration k ≡ false → 1 ≤ sort_number k
sort-some k e = rw e (go (is_node k))
  where
    go : (b : Bool) → 1 ≤ (if b then 1 else 2)
    go true = omega arith
    go false = omega arith

-- a row is neither a declaration nor a node
sort-row : (k : ℕ) → is_row k ≡ true → sort_number k ≡ 2
sort-row k e = rw (le-ltb k 16 (omega (arith, leb-true 32 k e)), le-ltb k 32 (leb-true 32 k e), le-leb 16 k (omega (arith, leb-true 32 k e)))

sort-before : (k : ℕ) → is_row k ≡ false → sort_number k ≤ 1
sort-before k e = elim (dec_le 16 k) [
  | yes h ↦ rw (le-ltb k 16 h, le-leb 16 k h, lt-ltb k 32 (omega (arith, leb-false 32 k e))) (omega arith)
  | no h ↦ rw (lt-ltb k 16 (omega arith)) (omega arith)
]

-- ---- a table that does not break 5

module _ (m : MachineKind) (w : List ℕ) (none : first (breaks 5 m (table_of w)) 0 (length w / 4) ≡ None) where
  abbrev n : ℕ
  n = length w / 4

  abbrev kind : ℕ → ℕ
  kind i = (line_at w i).kind

  unbroken5 : (i : ℕ) → i < n → breaks5 m (table_of w) i ≡ false
  unfolding breaks
  unbroken5 i h = first-nowhere-at n (breaks 5 m (table_of w)) 0 none i (omega arith) (omega arith)

  pub line_known : (i : ℕ) → i < n → known m (kind i) ≡ true
  unfolding breaks5 table_of
  line_known i h = not-false (known m (kind i)) (or_left (not (known m (kind i))) (ltb (sort_number (kind i)) (sort_number (kind (i - 1)))) (unbroken5 i h))

  rises : (i : ℕ) → suc i < n → sort_number (kind i) ≤ sort_number (kind (suc i))
  unfolding breaks5 table_of
  rises i h =
      subst (λ (j : ℕ). sort_number (kind j) ≤ sort_number (kind (suc i))) {x = suc i - 1} {y = i} (omega arith)
      (ltb-false (sort_number (kind (suc i))) (sort_number (kind (suc i - 1)))
      (or_right (not (known m (kind (suc i)))) (ltb (sort_number (kind (suc i))) (sort_number (kind (suc i - 1)))) (unbroken5 (suc i) h)))

  sorted : (i k : ℕ) → i + k < n → sort_number (kind i) ≤ sort_number (kind (i + k))
  sorted i zero h = subst (λ (j : ℕ). sort_number (kind i) ≤ sort_number (kind j)) {x = i} {y = i + 0} (omega arith) (omega arith)
  sorted i (suc k) h =
      subst (λ (j : ℕ). sort_number (kind i) ≤ sort_number (kind j)) {x = suc (i + k)} {y = i + suc k} (omega arith)
      (omega (arith, sorted i k (omega arith), rises (i + k) (omega arith)))

  sorted-to : (i j : ℕ) → i ≤ j → j < n → sort_number (kind i) ≤ sort_number (kind j)
  sorted-to i j l h = subst (λ (k : ℕ). sort_number (kind i) ≤ sort_number (kind k)) {x = i + (j - i)} {y = j} (omega arith) (sorted i (j - i) (omega arith))

  front-declarations : (i j : ℕ) → i ≤ j → j < n → is_declaration (kind j) ≡ true → is_declaration (kind i) ≡ true
  front-declarations i j l h e = go (is_declaration (kind i)) refl
    where
      go : (b : Bool) → is_declaration (kind i) ≡ b → is_declaration (kind i) ≡ true
      go true u = u
      go false u = absurd (omega (arith, sorted-to i j l h, sort-declaration (kind j) e, sort-some (kind i) u))

  front-nodes : (i j : ℕ) → i ≤ j → j < n → not (is_row (kind j)) ≡ true → not (is_row (kind i)) ≡ true
  front-nodes i j l h e = go (is_row (kind i)) refl
    where
      no-row-at : is_row (kind j) ≡ false
      no-row-at = flip (is_row (kind j)) e
        where
          flip : (b : Bool) → not b ≡ true → b ≡ false
          flip true q = absurd (false≢true q)
          flip false q = refl

      go : (b : Bool) → is_row (kind i) ≡ b → not b ≡ true
      go true u = absurd (omega (arith, sorted-to i j l h, sort-row (kind i) u, sort-before (kind j) no-row-at))
      go false u = refl

  abbrev d : ℕ
  d = (table_of w).decls

  abbrev dn : ℕ
  dn = (table_of w).decls + (table_of w).nodes

  -- declarations and nodes together
  count-before : sum n (λ i. bit (not (is_row (kind i)))) ≡ dn
  unfolding table_of
  count-before = same_sum n (λ i. bit (not (is_row (kind i)))) (λ i. bit (is_declaration (kind i)) + bit (is_node (kind i))) (λ i l. row-not (kind i))
      ∙ sum-add n (λ i. bit (is_declaration (kind i))) (λ i. bit (is_node (kind i)))

  -- every line is of one sort
  pub all_lines : line_count (table_of w) ≡ n
  unfolding table_of
  all_lines =
      sym (sum-add n (λ i. bit (is_declaration (kind i)) + bit (is_node (kind i))) (λ i. bit (is_row (kind i)))
      ∙ ap (λ (k : ℕ). k + sum n (λ i. bit (is_row (kind i)))) (sum-add n (λ i. bit (is_declaration (kind i))) (λ i. bit (is_node (kind i)))))
      ∙ same_sum n (λ i. bit (is_declaration (kind i)) + bit (is_node (kind i)) + bit (is_row (kind i))) (λ i. 1) (λ i l. one-sort (kind i))
      ∙ sum_ones n

  -- ---- where the lines of each sort stand

  pub declaration-at : (i : ℕ) → i < n → i < d → is_declaration (kind i) ≡ true
  unfolding table_of
  declaration-at i h l = counted (λ i. is_declaration (kind i)) n front-declarations i h l

  pub no-declaration : (i : ℕ) → i < n → d ≤ i → is_declaration (kind i) ≡ false
  unfolding table_of
  no-declaration i h l = uncounted (λ i. is_declaration (kind i)) n front-declarations i h l

  not-row : (i : ℕ) → i < n → i < dn → is_row (kind i) ≡ false
  not-row i h l = flip (is_row (kind i)) (counted (λ i. not (is_row (kind i))) n front-nodes i h (omega (arith, count-before)))
    where
      flip : (b : Bool) → not b ≡ true → b ≡ false
      flip true q = absurd (false≢true q)
      flip false q = refl

  pub row_at : (i : ℕ) → i < n → dn ≤ i → is_row (kind i) ≡ true
  row_at i h l = not-false (is_row (kind i)) (uncounted (λ i. not (is_row (kind i))) n front-nodes i h (omega (arith, count-before)))

  bit-one : (b : Bool) → bit b ≡ 1 → b ≡ true
  bit-one true e = refl
  bit-one false e = absurd (omega arith)

  pub node_at : (i : ℕ) → i < n → d ≤ i → i < dn → is_node (kind i) ≡ true
  node_at i h l k =
      let x : bit (is_declaration (kind i)) ≡ 0 = ap bit (no-declaration i h l) in
      let y : bit (is_row (kind i)) ≡ 0 = ap bit (not-row i h k) in
      bit-one (is_node (kind i)) (omega (arith, one-sort (kind i)))

  pub no-node-at : (i : ℕ) → i < n → dn ≤ i → is_node (kind i) ≡ false
  no-node-at i h l = rw (le-ltb (kind i) 32 (leb-true 32 (kind i) (row_at i h l))) (none-and (leb 16 (kind i)))
    where
      none-and : (b : Bool) → (b && false) ≡ false
      none-and true = refl
      none-and false = refl

  -- ---- and how many there are, where 6 is not broken

  module _ (none6 : first (breaks 6 m (table_of w)) 0 (length w / 4) ≡ None) where
    unbroken6 : (i : ℕ) → i < n → breaks6 (table_of w) i ≡ false
    unfolding breaks
    unbroken6 i h = first-nowhere-at n (breaks 6 m (table_of w)) 0 none6 i (omega arith) (omega arith)

    -- line i, of a sort, is within the sort's limit b
    within : (i b : ℕ) (s : Bool) → (s && leb b i) ≡ false → s ≡ true → i < b
    within i b s e h = leb-false b i (subst (λ (x : Bool). (x && leb b i) ≡ false) h e)

    few-declarations : d ≤ most_declarations
    unfolding breaks6 table_of
    few-declarations = elim (dec_le d most_declarations) [
      | yes h ↦ h
      | no h ↦ absurd (omega (
        arith,
        within most_declarations most_declarations (is_declaration (kind most_declarations))
            (or_left _ _ (unbroken6 most_declarations (omega (arith, all_lines)))) (declaration-at most_declarations (omega (arith, all_lines)) (omega arith)),
      ))
    ]

    few-nodes : (table_of w).nodes ≤ most_nodes
    unfolding breaks6 table_of
    few-nodes = elim (dec_le (table_of w).nodes most_nodes) [
      | yes h ↦ h
      | no h ↦ absurd (omega (
        arith,
        within (d + most_nodes) (d + most_nodes) (is_node (kind (d + most_nodes)))
            (or_left _ _ (or_right (is_declaration (kind (d + most_nodes)) && leb most_declarations (d + most_nodes)) _
            (unbroken6 (d + most_nodes) (omega (arith, all_lines)))))
            (node_at (d + most_nodes) (omega (arith, all_lines)) (omega arith) (omega arith)),
      ))
    ]

    few-rows : (table_of w).rows ≤ most_rows
    unfolding breaks6 table_of
    few-rows = elim (dec_le (table_of w).rows most_rows) [
      | yes h ↦ h
      | no h ↦ absurd (omega (
        arith,
        within (dn + most_rows) (dn + most_rows) (is_row (kind (dn + most_rows)))
            (or_right (is_node (kind (dn + most_rows)) && leb (d + most_nodes) (dn + most_rows)) _
            (or_right (is_declaration (kind (dn + most_rows)) && leb most_declarations (dn + most_rows)) _
            (unbroken6 (dn + most_rows) (omega (arith, all_lines)))))
            (row_at (dn + most_rows) (omega (arith, all_lines)) (omega arith)),
      ))
    ]

-- at most 32 declarations, 1,024 nodes and 256 rows, and no other line
pub sizes : (m : MachineKind) (w : List ℕ) → length w % 4 ≡ 0 → first (breaks 5 m (table_of w)) 0 (length w / 4) ≡ None
    → first (breaks 6 m (table_of w)) 0 (length w / 4) ≡ None
    → ((table_of w).decls ≤ 32) × ((table_of w).nodes ≤ 1024) × ((table_of w).rows ≤ 256) ×
    ((table_of w).decls + (table_of w).nodes + (table_of w).rows ≡ length w / 4)
sizes m w e a b = (few-declarations m w a b, few-nodes m w a b, few-rows m w a b, all_lines m w a)
