-- The lines of a table by the counts of its sorts; a check of rows by a loop over them; a buffer that is filled in rising order; what is
-- counted from row to row.
-- Assumes nothing.
use Prim.Native.Nat.{ℕ, zero, suc, ◌+◌, ◌-◌, ◌/◌, ◌<◌, ◌≤◌}
use native.Mathlib.Omega.{arith}
use native.Mathlib.Nat.{eq-or-lt_of_le, sub-zero}
use native.Mathlib.Numerals.{add-one}
use native.Mathlib.Decide.{dec_le}
use mathlib.Core.Path.{◌≡◌, refl, sym, ap, ◌∙◌, subst}
use mathlib.Core.Bool.{Bool, true, false, ◌&&◌, false≢true}
use mathlib.Core.Logic.{⊎_elim}
use mathlib.Core.List.{List, [], ◌∷◌}
use mir.Val.{bool_byte}
use lib.ListN.{length, get_or, set}
use lib.Seq.{get_or-set_same, get_or-set_other}
use lib.Dec.{ltb, leb, eqb}
use borrow.Author.Tests.{ltb-true, leb-true, le-ltb, le-leb, eq-eqb, ne_eqb}
use Rattle.std.specs.Prelude.{if◌then◌else◌}
use Rattle.std.specs.Prelude.{Some, None}
use Rattle.lists.specs.First.{first}
use Rattle.lists.proofs.BoolLaws.{and_right}
use Rattle.lists.proofs.FirstLaws.{first_below, first_found, first-hit, first-miss, first-none, first-nowhere-at}
use Rattle.model.specs.Table.{Table, is_declaration, is_node, is_row, node_kind, row_kind, node_roles, row_roles, row_at}
use Rattle.model.specs.Table.{Nest, nest_at, nested, open_at, none_open}
use Rattle.model.specs.Table.{opens_procedure, is_opening, home}
use Rattle.model.specs.Table.Nest.{opens, closes, neither}
use Rattle.model.specs.Accepted.{all_there, locals_there, row_there}
use Rattle.model.proofs.ReduceLaws.{opens-43}
use Rattle.kinds.specs.Kinds.{roles_of, kind_at, of_node_or_row, of_row}
use Rattle.kinds.specs.Code.{open_after, first_row, InSorts, There, LocalsFit}

-- ---- the lines of each sort

pub not-declaration : (k : ℕ) → 16 ≤ k → is_declaration k ≡ false
not-declaration k h = le-ltb k 16 h

pub node-low : (k : ℕ) → is_node k ≡ true → (16 ≤ k) × (k < 32)
node-low k e = go (leb 16 k) (ltb k 32) refl refl e
  where
    go : (a b : Bool) → leb 16 k ≡ a → ltb k 32 ≡ b → (a && b) ≡ true → (16 ≤ k) × (k < 32)
    go true true u v w = (leb-true 16 k u, ltb-true k 32 v)
    go true false u v w = absurd (false≢true w)
    go false b u v w = absurd (false≢true w)

-- the roles of a kind that is known to be a node's, or a row's
pub roles-node : (k : ℕ) → is_node k ≡ true → roles_of k ≡ node_roles (node_kind k)
unfolding roles_of
roles-node k e = rw (not-declaration k (node-low k e).0, e)

pub roles-row : (k : ℕ) → is_row k ≡ true → roles_of k ≡ row_roles (row_kind k)
unfolding roles_of
roles-row k e =
    let high : 32 ≤ k = leb-true 32 k e in
    rw (not-declaration k (omega arith), le-leb 16 k (omega arith), le-ltb k 32 high)

module _ (t : Table) (laid : InSorts t) (i : ℕ) (f g : ℕ → Bool) where
  pub at-declaration : i < t.decls → of_node_or_row f g t i ≡ false
  at-declaration l = rw (laid.declaration i l)

  pub at-node : t.decls ≤ i → i < t.decls + t.nodes → of_node_or_row f g t i ≡ f (i - t.decls)
  at-node l h = let e = laid.node i l h in rw (not-declaration (kind_at t i) (node-low (kind_at t i) e).0, e)

  pub at_row : t.decls + t.nodes ≤ i → i < t.decls + t.nodes + t.rows → of_node_or_row f g t i ≡ g (i - (t.decls + t.nodes))
  at_row l h =
      let high : 32 ≤ kind_at t i = leb-true 32 (kind_at t i) (laid.row i l h) in
      rw (not-declaration (kind_at t i) (omega arith), le-leb 16 (kind_at t i) (omega arith), le-ltb (kind_at t i) 32 high)

  pub by-line : (b : Bool) → (t.decls ≤ i → i < t.decls + t.nodes → f (i - t.decls) ≡ b)
      → (t.decls + t.nodes ≤ i → i < t.decls + t.nodes + t.rows → g (i - (t.decls + t.nodes)) ≡ b)
      → t.decls ≤ i → i < t.decls + t.nodes + t.rows → of_node_or_row f g t i ≡ b
  by-line b node row l h = elim (dec_le (t.decls + t.nodes) i) [
    | yes k ↦ at_row k h ∙ row k h
    | no k ↦ let low : i < t.decls + t.nodes = omega arith in at-node l low ∙ node l low
  ]

-- a check of rows breaks at no other line
pub before-rows : (t : Table) → InSorts t → (i : ℕ) (g : ℕ → Bool) → i < t.decls + t.nodes → of_node_or_row (λ n. false) g t i ≡ false
before-rows t laid i g h = elim (dec_le t.decls i) [
  | yes l ↦ at-node t laid i (λ n. false) g l h
  | no l ↦ at-declaration t laid i (λ n. false) g (omega arith)
]

-- line i by its number in its sort
pub node-line : (t : Table) (i : ℕ) → t.decls ≤ i → t.decls + (i - t.decls) ≡ i
node-line t i l = omega arith

pub row_line : (t : Table) (i : ℕ) → t.decls + t.nodes ≤ i → t.decls + t.nodes + (i - (t.decls + t.nodes)) ≡ i
row_line t i l = omega arith

-- ---- the loop over the rows: what is sought from line 0 on is what is sought from a row on

-- a test that holds at none of the first k numbers
first-skip : (f : ℕ → Bool) (k n : ℕ) → k ≤ n → ((j : ℕ) → j < k → f j ≡ false) → first f 0 n ≡ first f k (n - k)
first-skip f zero n l h = rw sub-zero
first-skip f (suc k) n l h =
    first-skip f k n (omega arith) (λ j b. h j (omega arith)) ∙ first-miss f k n (omega arith) (h k (omega arith)) ∙ rw (add-one k)

module _ (g : ℕ → Bool) (t : Table) (laid : InSorts t) where
  at : (r : ℕ) → r < t.rows → of_row g t (t.decls + t.nodes + r) ≡ g r
  at r l =
      let back : t.decls + t.nodes + r - (t.decls + t.nodes) ≡ r = omega arith in
      at_row t laid (t.decls + t.nodes + r) (λ n. false) g (omega arith) (omega arith) ∙ ap g back

  pub rows_start : first (of_row g t) 0 (length t.words / 4) ≡ first_row g t 0
  rows_start =
      let e : t.decls + t.nodes + 0 ≡ t.decls + t.nodes = omega arith in
      rw e (first-skip (of_row g t) (t.decls + t.nodes) (length t.words / 4) (omega (arith, laid.whole)) (λ j l. before-rows t laid j g l))

  pub row-hit : (r : ℕ) → r < t.rows → g r ≡ true → first_row g t r ≡ Some (t.decls + t.nodes + r)
  row-hit r l h = first-hit (of_row g t) (t.decls + t.nodes + r) (length t.words / 4) (omega (arith, laid.whole)) (at r l ∙ h)

  pub row-miss : (r : ℕ) → r < t.rows → g r ≡ false → first_row g t r ≡ first_row g t (r + 1)
  row-miss r l h =
      let e : t.decls + t.nodes + r + 1 ≡ t.decls + t.nodes + (r + 1) = omega arith in
      first-miss (of_row g t) (t.decls + t.nodes + r) (length t.words / 4) (omega (arith, laid.whole)) (at r l ∙ h)
      ∙ ap (λ (i : ℕ). first (of_row g t) i (length t.words / 4 - i)) e

  pub row-none : (r : ℕ) → t.rows ≤ r → first_row g t r ≡ None
  row-none r l = first-none (of_row g t) (t.decls + t.nodes + r) (length t.words / 4) (omega (arith, laid.whole))

  -- what is sought, past rows that do not break it, and past all
  rows-past : (k : ℕ) → k ≤ t.rows → ((r : ℕ) → r < k → g r ≡ false) → first (of_row g t) 0 (length t.words / 4) ≡ first_row g t k
  rows-past zero l h = rows_start
  rows-past (suc k) l h = rows-past k (omega arith) (λ r b. h r (omega arith)) ∙ row-miss k l (h k (omega arith)) ∙ ap (first_row g t) (add-one k)

  pub rows_none : ((r : ℕ) → r < t.rows → g r ≡ false) → first (of_row g t) 0 (length t.words / 4) ≡ None
  rows_none h = rows-past t.rows (omega arith) h ∙ row-none t.rows (omega arith)

  -- a check that no row breaks
  pub no-row : first (of_row g t) 0 (length t.words / 4) ≡ None → (r : ℕ) → r < t.rows → g r ≡ false
  no-row e r l =
      sym (at r l) ∙ first-nowhere-at (length t.words / 4) (of_row g t) 0 e (t.decls + t.nodes + r) (omega arith) (omega (arith, laid.whole))

  -- the first row that breaks it, by the line that is found
  pub record RowFound (line : ℕ) : Type 0 where
    pub row : ℕ
    pub there : row < t.rows
    pub place : line ≡ t.decls + t.nodes + row
    pub holds : g row ≡ true
    pub first : (r : ℕ) → r < row → g r ≡ false

  pub row-found : (line : ℕ) → first (of_row g t) 0 (length t.words / 4) ≡ Some line → RowFound line
  row-found line e =
      let F = first_found (length t.words / 4) (of_row g t) 0 line e in
      let below : line < length t.words / 4 = omega (arith, first_below (length t.words / 4) (of_row g t) 0 line e) in
      let rows : t.decls + t.nodes ≤ line = after line F.0 in
      let r = line - (t.decls + t.nodes) in
      let is : line ≡ t.decls + t.nodes + r = omega arith in
      let there : r < t.rows = omega (arith, laid.whole) in
      record {
        row = r;
        there = there;
        place = is;
        holds = sym (at r there) ∙ ap (of_row g t) (sym is) ∙ F.0;
        first = λ q l. sym (at q (omega arith)) ∙ F.1 (t.decls + t.nodes + q) (omega arith) (omega arith);
      }
    where
      after : (i : ℕ) → of_row g t i ≡ true → t.decls + t.nodes ≤ i
      after i h = elim (dec_le (t.decls + t.nodes) i) [
        | yes l ↦ l
        | no l ↦ absurd (false≢true (sym (before-rows t laid i g (omega arith)) ∙ h))
      ]

-- ---- the locals of a 43 are variables that there are

pub locals-fit : (t : Table) → InSorts t → There t → (r : ℕ) → r < t.rows → LocalsFit t.words (t.decls + t.nodes + r)
unfolding row_there
locals-fit t laid th r inside e n =
    let l = row_at t r in
    let k = row_kind l.kind in
    let there = and_right (all_there (row_roles k) t.decls t.nodes l) (locals_there k t.decls l.a l.b) (th.rows r inside) in
    let opens : opens_procedure k ≡ true = opens-43 l.kind ∙ eq-eqb l.kind 43 e in
    let fit : leb (l.a + l.b) t.decls ≡ true = rw (opens, ne_eqb l.b 0 n) at there in
    omega (arith, leb-true (l.a + l.b) t.decls fit, laid.few_decls)

-- ---- a buffer that is filled in rising order

-- what holds of the places below n, and of what is put at n
pub kept_more : {A : Type 0} (d : A) (P : ℕ → A → Type 0) (l : List A) (n : ℕ) (v : A) → n < length l → ((j : ℕ) → j < n → P j (get_or l j d)) → P n v
    → (j : ℕ) → j < n + 1 → P j (get_or (set l n v) j d)
kept_more d P l n v h e w j k =
    let most : j ≤ n = omega arith in
    ⊎_elim (λ q. subst (λ x. P x (get_or (set l n v) x d)) (sym q) (rw (get_or-set_same l n v d h) w))
    (λ b. rw (get_or-set_other l n j v d (λ q. omega arith)) (e j b)) (eq-or-lt_of_le most)

pub three : (p q r : Bool) → (p && (q && r)) ≡ true → (p ≡ true) × (q ≡ true) × (r ≡ true)
three true true true e = (refl, refl, refl)
three true true false e = absurd (false≢true e)
three true false r e = absurd (false≢true e)
three false q r e = absurd (false≢true e)

-- ---- open loops, counted

open-nested : (n : Nest) (r : ℕ) (os : List ℕ) → length (nested n r os) ≡ open_after n (length os)
open-nested opens r os = omega arith
open-nested closes r [] = refl
open-nested closes r (o ∷ os) = omega arith
open-nested neither r os = refl

pub open_more : (t : Table) (i : ℕ) → length (open_at t (i + 1)) ≡ open_after (nest_at t i) (length (open_at t i))
unfolding open_at
open_more t i = rw (add-one i) (open-nested (nest_at t i) i (open_at t i))

-- a test as a number of one bit, for a count
pub byte-is : (b : Bool) → bool_byte b ≡ (if b then 1 else 0)
byte-is true = refl
byte-is false = refl

pub byte-most : (b : Bool) → bool_byte b ≤ 1
byte-most true = omega arith
byte-most false = omega arith

pub some : (d : ℕ) → eqb (suc d) 0 ≡ false
some d = ne_eqb (suc d) 0 (λ e. omega arith)

pub none-open : (os : List ℕ) → none_open os ≡ eqb (length os) 0
none-open [] = refl
none-open (o ∷ os) = sym (some (length os))

-- ---- what a row belongs to, from row to row

module _ (t : Table) where
  pub home-none : home t 0 ≡ 0
  unfolding home
  home-none = refl

  pub home-more : (r : ℕ) → home t (r + 1) ≡ (if is_opening t r then r + 1 else home t r)
  unfolding home
  home-more r = rw (add-one r)
