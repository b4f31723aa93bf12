-- The copy of a plain table is plain; a row recorded on it fails, if it comes to nothing, and has its numbers; and the writer on it is the
-- table's.
-- Assumes nothing.
use mathlib.Core.Path.{◌≡◌, refl, sym, ap, ◌∙◌, subst, fun_ext}
use Prim.Native.Nat.{ℕ, zero, suc, ◌+◌, ◌-◌, ◌*◌, ◌≤◌, ◌<◌}
use native.Mathlib.Omega.{arith}
use native.Mathlib.Decide.{dec_le}
use mathlib.Core.Bool.{Bool, true, false, false≢true}
use mathlib.Core.List.{List, []}
use lib.ListN.{length, get_or-eq_default}
use lib.Dec.{ltb, leb}
use borrow.Author.Tests.{ltb-true, le-leb, lt-leb}
use Rattle.std.specs.Prelude.{if◌then◌else◌}
use Rattle.lists.proofs.TabLaws.{all-at}
use Rattle.lists.proofs.BoolLaws.{and_right}
use Rattle.kinds.specs.Kinds.{machine_of}
use Rattle.model.specs.Class.{pair}
use Rattle.model.specs.Table.{Table, Line, is_node, line_count, line_at, node_at, row_at, row_kind, opens_procedure, at_end, marked_pointer}
use Rattle.model.specs.State.{MachineKind, State}
use Rattle.model.specs.State.MachineKind.{plain}
use Rattle.model.specs.Step.{Report, finished, step}
use Rattle.model.specs.Step.End.{done, list_full}
use Rattle.model.specs.Step.Report.{ended}
use Rattle.model.specs.Accepted.{Accepted, CanHave, known}
use Rattle.model.specs.Demand3.{TakesChoices}
use Rattle.model.specs.Writer.{held_after, held_next, step_choices, writer, writes}
use Rattle.model.proofs.KindsIn.{PlainRow}
use Rattle.model.proofs.Typing.{plain_rows}
use Rattle.model.proofs.Safe.{Held}
use Rattle.model.proofs.SafeStep.{MoveOk, safe-step}
use Rattle.prepared.specs.declared.Frame.{Frame}
use Rattle.prepared.specs.View.{places, kind_of, table_for}
use Rattle.prepared.specs.Own.{Own, own_table, places_of}
use Rattle.prepared.specs.Same.{Same}
use Rattle.prepared.proofs.SameLaws.{own_same}
use Rattle.evaluators.specs.CodeAnswers.{failed}
use Rattle.machine.specs.declared.Failure.{Failure}
use Rattle.machine.specs.declared.Failure.TheVariants.{Fails, BadChoice, NoChoice, Stuck}
use Rattle.machine.specs.declared.Machine.{Machine}
use Rattle.machine.specs.declared.Worked.{Worked}
use Rattle.machine.specs.declared.Worked.TheVariants.{Moves, Ends, Not}
use Rattle.machine.specs.View.{state_of, own_state}
use Rattle.machine.specs.CodeMoves.{move_out}
use Rattle.recording.specs.CodePushes.{Pushed, pushed}
use Rattle.recording.specs.CodeRecords.{Plain, ReachedBy, pair_of}
use Rattle.recording_rows.specs.CodeMoves.{ReachedMove}
use Rattle.runs.specs.CodeSteps.{Ready, kept}
use Rattle.runs.proofs.ReadyLaws.{state-same, step_same, finished-same}
use Rattle.runs.proofs.CallingLaws.{table-going}
use Rattle.writing.specs.CodeWriting.{count_of}

-- it failed, and has a reason
abbrev pub HasReason : Failure → Type 0
HasReason (Fails why) = Unit {0}
HasReason BadChoice = ⊥
HasReason NoChoice = ⊥
HasReason Stuck = ⊥

-- the kinds that the plain machine takes
module _ (k : ℕ) (e : known plain k ≡ true) where
  row-kind : 40 ≤ k → 43 ≤ k
  unfolding known
  row-kind h = elim (dec_le 43 k) [ yes l ↦ l | no l ↦ absurd (between (omega arith)) ]
    where
      between : k < 43 → ⊥
      between l = false≢true (rw (
        le-leb 1 k (omega arith),
        lt-leb k 3 (omega arith),
        le-leb 16 k (omega arith),
        lt-leb k 26 (omega arith),
        le-leb 32 k (omega arith),
        lt-leb k 39 (omega arith),
        lt-leb 43 k l,
      ) at e)

  node-kind : is_node k ≡ true → k ≤ 26
  unfolding known
  node-kind h = elim (dec_le k 26) [ yes l ↦ l | no l ↦ absurd (large (omega arith) (ltb-true k 32 (and_right (leb 16 k) (ltb k 32) h))) ]
    where
      large : 26 < k → k < 32 → ⊥
      large l u = false≢true (rw (
        le-leb 1 k (omega arith),
        lt-leb k 3 (omega arith),
        le-leb 16 k (omega arith),
        lt-leb k 26 l,
        lt-leb 32 k u,
        lt-leb 43 k (omega arith),
      ) at e)

module _ (t : List ℕ) (f : Frame) (own : List ℕ) (O : Own t f own) (m : Machine) (stack cells : List ℕ) (R : Ready t f (kept m stack) cells) where
  abbrev table : Table
  table = table_for t f

  pub same : Same t f own
  same = own_same t f own R.laid (kind_of f) R.accepted O

  -- ---- a plain table
  module _ (p : f.classes ≡ false) where
    kind-plain : kind_of f ≡ plain
    kind-plain = ap machine_of p

    no-places : places f ≡ []
    unfolding places
    no-places = rw kind-plain

    accepted-plain : Accepted plain table
    accepted-plain = subst (λ (k : MachineKind). Accepted k table) kind-plain R.accepted

    line_known : (i : ℕ) → i < line_count table → known plain (line_at t i).kind ≡ true
    line_known = all-at (line_count table) (λ i. known plain (line_at t i).kind) accepted-plain.kinds

    node-small : (n : ℕ) → n < f.counts.nodes → (node_at table n).kind ≤ 26
    node-small n h =
        let i = f.counts.decls + n in node-kind (line_at t i).kind (line_known i (omega arith)) (R.laid.node i (omega arith) (omega arith))

    row_plain : (r : ℕ) → 40 ≤ (row_at table r).kind → 43 ≤ (row_at table r).kind
    row_plain r = elim (dec_le f.counts.rows r) [
      | no h ↦ row-kind (row_at table r).kind (line_known (f.counts.decls + f.counts.nodes + r) (omega arith))
      | yes h ↦ λ l.
          let z = get_or-eq_default t 0 {n = 4 * (f.counts.decls + f.counts.nodes + r)} (omega (arith, R.laid.whole)) in absurd (omega arith)
    ]

    pub copy-plain : Plain own
    copy-plain = record {
      untracked = same.places ∙ no-places;
      nodes = λ n h. elim (dec_le f.counts.nodes n) [
        | yes k ↦ let z = O.no_node n k h in omega arith
        | no k ↦ let l : n < f.counts.nodes = omega arith in let z = ap (λ (l : Line). l.kind) (O.node n l) in let s = node-small n l in omega arith
      ];
      rows = λ r h. let z = ap (λ (l : Line). l.kind) (O.row r) in let s = row_plain r (omega (arith, h, z)) in omega (arith, s, z);
    }

    pub copy-row : (r : ℕ) → PlainRow table (row_kind (row_at (own_table own) r).kind) (row_at table r).a (row_at table r).b (row_at table r).c
    copy-row r =
        subst (λ (l : Line). PlainRow table (row_kind l.kind) (row_at table r).a (row_at table r).b (row_at table r).c) (sym (O.row r))
        (plain_rows table accepted-plain r)

    -- a plain step takes no choice, and is never stuck: if it comes to nothing it has failed
    module _ (going : finished (own_table own) (own_state own stack m cells) ≡ false) where
      held : (why : Failure) (n : ℕ) → step (places_of own) (own_table own) (own_state own stack m cells) [] ≡ move_out own stack m cells [] (Not why n)
          → Held (kind_of f) (MoveOk (kind_of f) (CanHave (places f) (kind_of f) table)) [] (move_out own stack m cells [] (Not why n))
      held why n e =
          subst (Held (kind_of f) (MoveOk (kind_of f) (CanHave (places f) (kind_of f) table)) [])
          (sym (step_same t f own O m stack cells R []) ∙ e)
          ((safe-step (places f) (kind_of f) table R.accepted (state_of t f (kept m stack) cells) R.can
          (table-going t f own O m stack cells R going)).held [])

      pub only-fails : (why : Failure) (n : ℕ)
          → step (places_of own) (own_table own) (own_state own stack m cells) [] ≡ move_out own stack m cells [] (Not why n) → HasReason why
      unfolding move_out failed
      only-fails (Fails why) n e = tt
      only-fails BadChoice n e = absurd (subst TakesChoices kind-plain (held BadChoice n e))
      only-fails NoChoice n e = absurd (subst TakesChoices kind-plain (held NoChoice n e))
      only-fails Stuck n e = absurd (held Stuck n e)

      pub reached : (w : Worked) {out : List ℕ} {p : Pushed ℕ}
          → step (places_of own) (own_table own) (own_state own stack m cells) [] ≡ move_out own stack m cells [] w → ReachedMove w out p
          → pushed out (count_of w) ≡ p
      unfolding ReachedMove ReachedBy
      reached (Moves x n) e r = r
      reached (Ends end n) e r = r
      reached (Not (Fails why) n) e r = r
      reached (Not BadChoice n) e r = absurd (only-fails BadChoice n e)
      reached (Not NoChoice n) e r = absurd (only-fails NoChoice n e)
      reached (Not Stuck n) e r = absurd (only-fails Stuck n e)

  -- ---- the writer
  end_same : (r : ℕ) → at_end (own_table own) r ≡ at_end table r
  unfolding at_end
  end_same r = rw O.rows (ap (λ (l : Line). if ltb r f.counts.rows then opens_procedure (row_kind l.kind) else true) (O.row r))

  held_same : (r : ℕ) (ks : List Bool) → held_next (own_table own) r ks ≡ held_next table r ks
  unfolding at_end
  held_same r ks = rw (end_same r) (go (ltb r f.counts.rows) refl)
    where
      go : (b : Bool) → ltb r f.counts.rows ≡ b
          → (if (if b then opens_procedure (row_kind (row_at table r).kind) else true) then ks
          else held_after (row_kind (row_at (own_table own) r).kind) (marked_pointer (own_table own) (row_at (own_table own) r).a) ks)
          ≡ (if (if b then opens_procedure (row_kind (row_at table r).kind) else true) then ks
          else held_after (row_kind (row_at table r).kind) (marked_pointer table (row_at table r).a) ks)
      go true e =
          ap (λ (ls : List Bool). if opens_procedure (row_kind (row_at table r).kind) then ks else ls)
          (ap (λ (l : Line). held_after (row_kind l.kind) (marked_pointer (own_table own) (row_at (own_table own) r).a) ks) (O.row r)
          ∙ ap (λ (q : Bool). held_after (row_kind (row_at table r).kind) q ks) (same.held_next r (ltb-true _ _ e)))
      go false e = refl

  writer-same : (ps : List ℕ) (k n : ℕ) (ks : List Bool) (s : State) (room : ℕ) → writer ps (own_table own) k n ks s room ≡ writer ps table k n ks s room
  unfolding writer
  writer-same ps zero n ks s room = rw (finished-same t f own O m stack cells R s)
  writer-same ps (suc k) n ks s room =
      rw (finished-same t f own O m stack cells R s, same.choices ps ks s, same.step [] s [], held_same s.here.row ks)
      (ap (λ (go : State → Report). if finished table s then ended done n s []
      else (if leb (length xs) room then writes n s xs (step [] table s []) go else ended list_full n s []))
      (fun_ext λ s'. writer-same ps k (suc n) (held_next table s.here.row ks) s' (room - length xs)))
    where
      xs : List ℕ
      xs = step_choices ps table ks s s.here.row

  -- on the copy the writer is the table's
  pub writer-own : (limit room : ℕ) → writer (pair_of own) (own_table own) limit 0 [] (own_state own stack m cells) room
      ≡ writer (pair f.c1 f.c2) table limit 0 [] (state_of t f (kept m stack) cells) room
  writer-own limit room =
      ap (λ (s : State). writer (pair_of own) (own_table own) limit 0 [] s room) (state-same t f own O m stack cells R m stack cells)
      ∙ writer-same (pair_of own) limit 0 [] (state_of t f (kept m stack) cells) room
      ∙ rw (O.first, O.second)
