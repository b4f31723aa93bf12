-- A table that passes the checks is accepted, in the sense in which demand 3 asks it.
-- Assumes nothing.
use Prim.Native.Nat.{ℕ, ◌+◌, ◌-◌, ◌/◌, ◌%◌, ◌<◌, ◌≤◌}
use native.Mathlib.Omega.{arith}
use mathlib.Core.Path.{◌≡◌, refl, ap, subst}
use mathlib.Core.Bool.{Bool, true, false, not}
use mathlib.Core.List.{List}
use lib.ListN.{length}
use lib.Dec.{ltb, eqb}
use borrow.Author.Tests.{eqb-true, ltb-false}
use Rattle.std.specs.Prelude.{Option}
use Rattle.std.specs.Prelude.{None}
use Rattle.std.specs.Prelude.{if◌then◌else◌}
use Rattle.lists.specs.First.{first}
use Rattle.lists.proofs.TabLaws.{all_true}
use Rattle.lists.proofs.FirstLaws.{first-nowhere-at}
use Rattle.model.specs.Table.{Table, line_at, line_count, nest_at, open_at, home, table_of}
use Rattle.model.specs.Table.Nest.{opens}
use Rattle.model.specs.State.{MachineKind}
use Rattle.model.specs.Step.{node}
use Rattle.model.specs.Procedures.{keeps_procedures}
use Rattle.model.specs.Accepted.{Accepted, known, misnested, most_open, node_suits_mark, node_there, node_typed, row_suits_mark, row_there, row_typed}
use Rattle.kinds.specs.Kinds.{of_node_or_row}
use Rattle.procedures.specs.Misplaced.{breaks17}
use Rattle.table.specs.Verdict.{Verdict}
use Rattle.table.specs.Verdict.Verdict.{Passes, Refused}
use Rattle.line_checks.specs.Rules.{breaks10, breaks12, breaks8, breaks9, depth, most_depth}
use Rattle.loop_checks.specs.Rules.{breaks11, breaks16, shares_iterator}
use Rattle.table.specs.Checks.{and_then, breaks, first_refusal, order, size_check, table_check}
use Rattle.table.proofs.Sizes.{all_lines, line_known, no-declaration, no-node-at, node_at, not-false}
use Rattle.loop_checks.proofs.LoopLaws.{few-open as few-open-at}
use Rattle.table.proofs.CheckLaws.{passed}

-- both parts of a check pass
pub both-pass : (a b : Verdict) → and_then a b ≡ Passes → (a ≡ Passes) × (b ≡ Passes)
both-pass Passes b e = (refl, e)
both-pass (Refused number place) b e = absurd (let z : ◌≡◌ {A = ℕ} 0 1 = cc in omega arith)

pub size-passes : (size stated : ℕ) → size_check size stated ≡ Passes → size ≡ stated
size-passes size stated e = go (eqb size stated) refl e
  where
    go : (b : Bool) → eqb size stated ≡ b → (if b then Passes else Refused 14 0) ≡ Passes → size ≡ stated
    go true u h = eqb-true size stated u
    go false u h = absurd (let z : ◌≡◌ {A = ℕ} 0 1 = cc in omega arith)

-- no line breaks the check of the number
abbrev pub Unbroken : ℕ → MachineKind → List ℕ → Type 0
Unbroken k m w = first (breaks k m (table_of w)) 0 (length w / 4) ≡ None

-- what passing says, number by number
pub record Passing (m : MachineKind) (w : List ℕ) : Type 0 where
  pub whole : length w % 4 ≡ 0
  pub none5 : Unbroken 5 m w
  pub none6 : Unbroken 6 m w
  pub none7 : Unbroken 7 m w
  pub none8 : Unbroken 8 m w
  pub none9 : Unbroken 9 m w
  pub none10 : Unbroken 10 m w
  pub none11 : Unbroken 11 m w
  pub none12 : Unbroken 12 m w
  pub none16 : Unbroken 16 m w
  pub none17 : Unbroken 17 m w

module _ (m : MachineKind) (w : List ℕ) where
  abbrev find : ℕ → Option ℕ
  find k = first (breaks k m (table_of w)) 0 (length w / 4)

  pub passing : table_check m w ≡ Passes → Passing m w
  unfolding table_check
  passing e = go (eqb (length w % 4) 0) refl e
    where
      go : (b : Bool) → eqb (length w % 4) 0 ≡ b → (if b then first_refusal find order else Refused 4 0) ≡ Passes → Passing m w
      go true u h =
          let p5 = passed find 5 _ h in
          let p6 = passed find 6 _ p5.1 in
          let p7 = passed find 7 _ p6.1 in
          let p8 = passed find 8 _ p7.1 in
          let p9 = passed find 9 _ p8.1 in
          let p10 = passed find 10 _ p9.1 in
          let p11 = passed find 11 _ p10.1 in
          let p12 = passed find 12 _ p11.1 in
          let p16 = passed find 16 _ p12.1 in
          let p17 = passed find 17 _ p16.1 in
          record {
            whole = eqb-true (length w % 4) 0 u;
            none5 = p5.0;
            none6 = p6.0;
            none7 = p7.0;
            none8 = p8.0;
            none9 = p9.0;
            none10 = p10.0;
            none11 = p11.0;
            none12 = p12.0;
            none16 = p16.0;
            none17 = p17.0;
          }
      go false u h = absurd (let z : ◌≡◌ {A = ℕ} 0 1 = cc in omega arith)

  -- and back
  pub passes : Passing m w → table_check m w ≡ Passes
  unfolding table_check first_refusal
  passes P = rw (P.whole, P.none5, P.none6, P.none7, P.none8, P.none9, P.none10, P.none11, P.none12, P.none16, P.none17)

  module _ (P : Passing m w) where
    abbrev t : Table
    t = table_of w

    pub total : line_count t ≡ length w / 4
    total = all_lines m w P.none5

    -- line i does not break the check of the number
    pub unbroken : (k : ℕ) → Unbroken k m w → (i : ℕ) → i < line_count t → breaks k m t i ≡ false
    unbroken k h i l = first-nowhere-at (length w / 4) (breaks k m t) 0 h i (omega arith) (omega (arith, total))

    -- a check of nodes, at a node; a check of rows, at a row
    of_node : (node row : ℕ → Bool) (n : ℕ) → n < t.nodes → of_node_or_row node row t (t.decls + n) ≡ false → node n ≡ false
    unfolding table_of
    of_node node row n h e =
        subst (λ (k : ℕ). node k ≡ false) {x = t.decls + n - t.decls} {y = n} (omega arith)
        (rw (
          no-declaration m w P.none5 (t.decls + n) (omega (arith, total)) (omega arith),
          node_at m w P.none5 (t.decls + n)
              (omega (arith, total)) (omega arith) (omega arith),
        ) at e)

    of-row : (node row : ℕ → Bool) (r : ℕ) → r < t.rows → of_node_or_row node row t (t.decls + t.nodes + r) ≡ false → row r ≡ false
    unfolding table_of
    of-row node row r h e =
        subst (λ (k : ℕ). row k ≡ false) {x = t.decls + t.nodes + r - (t.decls + t.nodes)} {y = r} (omega arith)
        (rw (
          no-declaration m w P.none5 (t.decls + t.nodes + r) (omega (arith, total)) (omega arith),
          no-node-at m w P.none5
              (t.decls + t.nodes + r) (omega (arith, total)) (omega arith),
        ) at e)

    node-there : (n : ℕ) → n < t.nodes → node_there t n ≡ true
    unfolding breaks breaks8
    node-there n h = not-false (node_there t n)
        (of_node (λ n. not (node_there t n)) (λ r. not (row_there t r)) n h (unbroken 8 P.none8 (t.decls + n) (omega arith)))

    row-there : (r : ℕ) → r < t.rows → row_there t r ≡ true
    unfolding breaks breaks8
    row-there r h = not-false (row_there t r)
        (of-row (λ n. not (node_there t n)) (λ r. not (row_there t r)) r h (unbroken 8 P.none8 (t.decls + t.nodes + r) (omega arith)))

    node-typed : (n : ℕ) → n < t.nodes → node_typed t n ≡ true
    unfolding breaks breaks9
    node-typed n h = not-false (node_typed t n)
        (of_node (λ n. not (node_typed t n)) (λ r. not (row_typed t r)) n h (unbroken 9 P.none9 (t.decls + n) (omega arith)))

    row-typed : (r : ℕ) → r < t.rows → row_typed t r ≡ true
    unfolding breaks breaks9
    row-typed r h = not-false (row_typed t r)
        (of-row (λ n. not (node_typed t n)) (λ r. not (row_typed t r)) r h (unbroken 9 P.none9 (t.decls + t.nodes + r) (omega arith)))

    -- 10, for those above who count on it
    pub node-depth : (n : ℕ) → n < t.nodes → depth t n ≤ most_depth
    unfolding breaks breaks10
    node-depth n h = ltb-false most_depth (depth t n)
        (of_node (λ n. ltb most_depth (depth t n)) (λ r. false) n h (unbroken 10 P.none10 (t.decls + n) (omega arith)))

    row-nested : (r : ℕ) → r < t.rows → misnested t r ≡ false
    unfolding breaks breaks11
    row-nested r h = of-row (λ n. false) (misnested t) r h (unbroken 11 P.none11 (t.decls + t.nodes + r) (omega arith))

    -- 11's bound of eight (rule 1.15), for those above who count on it
    pub few-open : (r : ℕ) → r < t.rows → nest_at t r ≡ opens → length (open_at t r) < most_open
    few-open r h e = few-open-at t r (row-nested r h) e

    -- 16, for those above who count on it
    pub row_apart : (r : ℕ) → r < t.rows → shares_iterator t (home t r) r ≡ false
    unfolding breaks breaks16
    row_apart r h = of-row (λ n. false) (λ r. shares_iterator t (home t r) r) r h (unbroken 16 P.none16 (t.decls + t.nodes + r) (omega arith))

    row-placed : (r : ℕ) → r < t.rows → keeps_procedures t r ≡ true
    unfolding breaks breaks17
    row-placed r h = not-false (keeps_procedures t r)
        (of-row (λ n. false) (λ r. not (keeps_procedures t r)) r h (unbroken 17 P.none17 (t.decls + t.nodes + r) (omega arith)))

    node-suits-mark : (n : ℕ) → n < t.nodes → node_suits_mark m t n ≡ true
    unfolding breaks breaks12
    node-suits-mark n h = not-false (node_suits_mark m t n)
        (of_node (λ n. not (node_suits_mark m t n)) (λ r. not (row_suits_mark m t r)) n h (unbroken 12 P.none12 (t.decls + n) (omega arith)))

    row-suits-mark : (r : ℕ) → r < t.rows → row_suits_mark m t r ≡ true
    unfolding breaks breaks12
    row-suits-mark r h = not-false (row_suits_mark m t r)
        (of-row (λ n. not (node_suits_mark m t n)) (λ r. not (row_suits_mark m t r)) r h (unbroken 12 P.none12 (t.decls + t.nodes + r) (omega arith)))

    pub accepted : Accepted m t
    unfolding table_of
    accepted = record {
      whole = omega (arith, total, P.whole);
      kinds = all_true (line_count t) (λ i. known m (line_at t.words i).kind) (λ i l. line_known m w P.none5 i (omega (arith, total)));
      nodes_there = all_true t.nodes (node_there t) node-there;
      rows_there = all_true t.rows (row_there t) row-there;
      nodes_typed = all_true t.nodes (node_typed t) node-typed;
      rows_typed = all_true t.rows (row_typed t) row-typed;
      rows_nested = all_true t.rows (λ r. not (misnested t r)) (λ r h. ap not (row-nested r h));
      nodes_suit = all_true t.nodes (node_suits_mark m t) node-suits-mark;
      rows_suit = all_true t.rows (row_suits_mark m t) row-suits-mark;
      procedures = all_true t.rows (keeps_procedures t) row-placed;
    }
