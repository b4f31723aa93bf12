-- The reduction of a table that passes the plain checks passes the reduced ones.
-- Assumes nothing.
use Prim.Native.Nat.{ℕ, ◌+◌, ◌-◌, ◌/◌, ◌%◌, ◌<◌}
use native.Mathlib.Omega.{arith}
use mathlib.Core.Path.{◌≡◌, refl, sym, ap, ◌∙◌, subst, fun_ext}
use mathlib.Core.Bool.{Bool, true, false, not, ◌&&◌}
use mathlib.Core.List.{List}
use lib.ListN.{length}
use lib.Dec.{ltb, leb, eqb}
use Rattle.std.specs.Prelude.{None}
use Rattle.std.specs.Prelude.{if◌then◌else◌}
use Rattle.lists.specs.First.{first}
use Rattle.lists.specs.Falling.{value_at}
use Rattle.lists.proofs.FirstLaws.{first-nowhere}
use Rattle.model.specs.Table.{Table, is_declaration, is_node, line_at, line_count, marked, marked_uint, nest_at, node_at, node_kind, node_roles, open_at, row_at}
use Rattle.model.specs.Table.{row_kind, row_roles, home, table_of}
use Rattle.model.specs.State.MachineKind.{plain, reduced}
use Rattle.model.specs.Eval.{below}
use Rattle.model.specs.Step.{node}
use Rattle.model.specs.Reduce.{reduce, reduced_kind}
use Rattle.model.specs.Procedures.{keeps_procedures}
use Rattle.model.specs.Accepted.{Accepted, known, misnested, node_suits_mark, node_there, node_typed, row_suits_mark, row_there, row_typed}
use Rattle.model.proofs.KindsIn.{nest-same, same_home}
use Rattle.model.proofs.ReduceLaws.{declaration-stays, length-reduce, new-node, new_row, reduce-a, reduce-b, reduce-c, reduce-kind, reduced_table}
use Rattle.model.proofs.ReduceLaws.{same-declaration, same-is_node, same-is_row, table-reduce}
use Rattle.model.proofs.ReducedAccepted.{R, kind-known, nested_same, node-suit, row-suit, row_there-same, row_typed-same, same_roles, same-row_roles}
use Rattle.model.proofs.ReducedAccepted.{open-same, procedures-same, there-same, typed-same}
use Rattle.kinds.specs.Kinds.{roles_of, sort_number, kind_at, of_node_or_row}
use Rattle.procedures.specs.Misplaced.{breaks17}
use Rattle.line_checks.specs.Rules.{breaks10, breaks12, breaks5, breaks6, breaks7, breaks8, breaks9, depth, depth_by, most_depth}
use Rattle.loop_checks.specs.Rules.{breaks11, breaks16, any, opens_loop, shares_iterator}
use Rattle.table.specs.Checks.{breaks}
use Rattle.loop_checks.proofs.OrLaws.{or_right}
use Rattle.table.proofs.Passing.{Passing, Unbroken, accepted, total, unbroken}

-- the roles of a reduced kind are those of the kind
same-roles_of : (x q : Bool) (k : ℕ) → is_declaration (reduced_kind x q k) ≡ is_declaration k → is_node (reduced_kind x q k) ≡ is_node k
    → roles_of (reduced_kind x q k) ≡ roles_of k
unfolding roles_of
same-roles_of x q k e f = go (is_declaration k) refl (is_node k) refl
  where
    go : (b : Bool) → is_declaration k ≡ b → (c : Bool) → is_node k ≡ c → roles_of (reduced_kind x q k) ≡ roles_of k
    go true h c h' = ap roles_of (declaration-stays x q k h)
    go false h true h' = rw (e, f, h, h') (ap node_roles (new-node x q k) ∙ same_roles x (node_kind k))
    go false h false h' = rw (e, f, h, h') (ap row_roles (new_row x q k) ∙ same-row_roles x q (row_kind k))

-- a check that no node and no row breaks
none-breaks : (t : Table) (i : ℕ) (node row : ℕ → Bool) → ((n : ℕ) → node n ≡ false) → ((r : ℕ) → row r ≡ false) → of_node_or_row node row t i ≡ false
none-breaks t i node row f g = go (is_declaration (kind_at t i)) (is_node (kind_at t i))
  where
    go : (b c : Bool) → (if b then false else (if c then node (i - t.decls) else row (i - (t.decls + t.nodes)))) ≡ false
    go true c = refl
    go false true = f (i - t.decls)
    go false false = g (i - (t.decls + t.nodes))

module _ (w : List ℕ) (P : Passing plain w) where
  abbrev t : Table
  t = table_of w

  abbrev u : Table
  u = reduced_table t

  A : Accepted plain t
  A = accepted plain w P

  -- a check that nodes and rows of both tables break alike
  same_of : (f f' g g' : ℕ → Bool) → ((n : ℕ) → f n ≡ f' n) → ((r : ℕ) → g r ≡ g' r) → (i : ℕ) → of_node_or_row f g u i ≡ of_node_or_row f' g' t i
  unfolding table_of
  same_of f f' g g' e h i = rw (same-declaration w i, same-is_node w i, e (i - t.decls), h (i - (t.decls + t.nodes)))

  depth_same : depth u ≡ depth t
  unfolding depth
  depth_same = ap (λ (f : ℕ → (ℕ → ℕ) → ℕ). value_at f 0) (fun_ext λ n. fun_ext λ below. go n below)
    where
      go : (n : ℕ) (below : ℕ → ℕ)
          → depth_by (node_roles (node_kind (node_at u n).kind)) below (node_at u n) ≡ depth_by (node_roles (node_kind (node_at t n).kind)) below (node_at t n)
      go n below =
          rw (
            (R t A).nodes.kind n,
            (R t A).nodes.a n,
            (R t A).nodes.b n,
            (R t A).nodes.c n,
            same_roles (marked_uint t (node_at t n).a)
                (node_kind (node_at t n).kind),
          )

  -- the reduction keeps which rows open loops, and their iterators
  shares-same : (r : ℕ) → shares_iterator u (home u r) r ≡ shares_iterator t (home t r) r
  unfolding shares_iterator
  shares-same r =
      let iterators : ◌≡◌ {A = ℕ → ℕ} (λ o. (row_at u o).a) (λ o. (row_at t o).a) = fun_ext (R t A).a in
      rw (same_home t u (R t A) r, nest-same t u (R t A) r, open-same t A r)
      (ap (λ (f : ℕ → ℕ). opens_loop (nest_at t r) && any (λ o. leb (home t r) o && eqb (f o) (f r)) (open_at t r)) iterators)

  module _ (i : ℕ) (l : i < line_count t) where
    same5 : breaks 5 reduced u i ≡ false
    unfolding breaks breaks5 table_of
    same5 =
        rw (kind-known t A i l, same-declaration w i, same-is_node w i, same-declaration w (i - 1), same-is_node w (i - 1))
        (or_right (not (known plain (kind_at t i))) (ltb (sort_number (kind_at t i)) (sort_number (kind_at t (i - 1)))) (unbroken plain w P 5 P.none5 i l))

    same6 : breaks 6 reduced u i ≡ false
    unfolding breaks breaks6 table_of
    same6 = rw (same-declaration w i, same-is_node w i, same-is_row w i) (unbroken plain w P 6 P.none6 i l)

    same7 : breaks 7 reduced u i ≡ false
    unfolding breaks breaks7 table_of
    same7 =
        rw (roles-here, reduce-a w i, reduce-b w i, reduce-c w i) (unbroken plain w P 7 P.none7 i l)
      where
        roles-here : roles_of (line_at (reduce w) i).kind ≡ roles_of (line_at w i).kind
        roles-here =
            ap roles_of (reduce-kind w i)
            ∙ same-roles_of (marked w 2 (line_at w i).a) (marked w 3 (line_at w i).a) (line_at w i).kind
            (ap is_declaration (sym (reduce-kind w i)) ∙ same-declaration w i) (ap is_node (sym (reduce-kind w i)) ∙ same-is_node w i)

    same8 : breaks 8 reduced u i ≡ false
    unfolding breaks breaks8
    same8 =
        same_of (λ n. not (node_there u n)) (λ n. not (node_there t n)) (λ r. not (row_there u r)) (λ r. not (row_there t r)) (λ n. ap not (there-same t A n))
        (λ r. ap not (row_there-same t A r)) i
        ∙ unbroken plain w P 8 P.none8 i l

    same9 : breaks 9 reduced u i ≡ false
    unfolding breaks breaks9
    same9 =
        same_of (λ n. not (node_typed u n)) (λ n. not (node_typed t n)) (λ r. not (row_typed u r)) (λ r. not (row_typed t r)) (λ n. ap not (typed-same t A n))
        (λ r. ap not (row_typed-same t A r)) i
        ∙ unbroken plain w P 9 P.none9 i l

    same10 : breaks 10 reduced u i ≡ false
    unfolding breaks breaks10
    same10 =
        same_of (λ n. ltb most_depth (depth u n)) (λ n. ltb most_depth (depth t n)) (λ r. false) (λ r. false)
        (λ n. ap (λ (f : ℕ → ℕ). ltb most_depth (f n)) depth_same) (λ r. refl) i
        ∙ unbroken plain w P 10 P.none10 i l

    same11 : breaks 11 reduced u i ≡ false
    unfolding breaks breaks11
    same11 =
        same_of (λ n. false) (λ n. false) (misnested u) (misnested t) (λ n. refl) (nested_same t A) i ∙ unbroken plain w P 11 P.none11 i l

    same16 : breaks 16 reduced u i ≡ false
    unfolding breaks breaks16
    same16 =
        same_of (λ n. false) (λ n. false) (λ r. shares_iterator u (home u r) r) (λ r. shares_iterator t (home t r) r) (λ n. refl) shares-same i
        ∙ unbroken plain w P 16 P.none16 i l

    same17 : breaks 17 reduced u i ≡ false
    unfolding breaks breaks17
    same17 =
        same_of (λ n. false) (λ n. false) (λ r. not (keeps_procedures u r)) (λ r. not (keeps_procedures t r)) (λ n. refl)
        (λ r. ap not (procedures-same t A r)) i
        ∙ unbroken plain w P 17 P.none17 i l

    same12 : breaks 12 reduced u i ≡ false
    unfolding breaks breaks12
    same12 = none-breaks u i (λ n. not (node_suits_mark reduced u n)) (λ r. not (row_suits_mark reduced u r)) (λ n. ap not (node-suit t A n))
        (λ r. ap not (row-suit t A r))

  unbroken-reduced : (k : ℕ) → ((i : ℕ) → i < line_count t → breaks k reduced u i ≡ false) → Unbroken k reduced (reduce w)
  unbroken-reduced k h =
      subst (λ (q : Table). first (breaks k reduced q) 0 (length (reduce w) / 4) ≡ None) (sym (table-reduce w))
      (subst (λ (n : ℕ). first (breaks k reduced u) 0 (n / 4) ≡ None) (sym (length-reduce w))
      (first-nowhere (length w / 4) (breaks k reduced u) 0 (λ i l. h i (omega (arith, total plain w P)))))

  pub passing-reduced : Passing reduced (reduce w)
  passing-reduced = record {
    whole = ap (λ (n : ℕ). n % 4) (length-reduce w) ∙ P.whole;
    none5 = unbroken-reduced 5 same5;
    none6 = unbroken-reduced 6 same6;
    none7 = unbroken-reduced 7 same7;
    none8 = unbroken-reduced 8 same8;
    none9 = unbroken-reduced 9 same9;
    none10 = unbroken-reduced 10 same10;
    none11 = unbroken-reduced 11 same11;
    none12 = unbroken-reduced 12 same12;
    none16 = unbroken-reduced 16 same16;
    none17 = unbroken-reduced 17 same17;
  }
