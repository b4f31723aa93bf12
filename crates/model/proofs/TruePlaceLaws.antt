-- Row 40 is judged by its true place, and fails exactly where row 34 does.
-- Assumes nothing.
use mathlib.Core.Path.{◌≡◌, refl, ap, ◌∙◌, subst}
use Prim.Native.Nat.{ℕ, zero, suc, ◌<◌}
use mathlib.Core.Bool.{Bool, true, false}
use mathlib.Core.List.{List, []}
use lib.ListN.{length}
use lib.Dec.{ltb}
use borrow.Author.Tests.{lt-ltb, le-ltb, ltb-true}
use Rattle.std.specs.Prelude.{if◌then◌else◌}
use Rattle.model.specs.Table.{Table, row_at, row_kind, table_of}
use Rattle.model.specs.Table.Row.{store, reduced_store}
use Rattle.model.specs.Work.{Reason, Out, give}
use Rattle.model.specs.Work.Reason.{without_array, past_length}
use Rattle.model.specs.Work.Out.{gives, fails}
use Rattle.model.specs.State.{Array, State}
use Rattle.model.specs.State.MachineKind.{reduced}
use Rattle.model.specs.Eval.{Ptr, ptr, keeps, index_of}
use Rattle.model.specs.Step.{Move, past, put, reduced_write, row_rule, step_at, write}
use Rattle.model.specs.Step.Move.{to}
use Rattle.model.specs.Reduce.{reduce}
use Rattle.model.specs.Agree.{Agree, array_at}
use Rattle.model.specs.Accepted.{Laid}
use Rattle.model.specs.Reasons.{FailsFor}
use Rattle.model.specs.TruePlace.{Operands, RowsFailAlike, WritesJudgedByPlace, with_place}
use Rattle.model.proofs.Memory.{inside}
use Rattle.model.proofs.Keep.{index_in}
use Rattle.model.proofs.KindsIn.{row_in}
use Rattle.model.proofs.ReduceLaws.{reduces, table-reduce}
use Rattle.model.proofs.ReasonLaws.{For, give-for, if-for, put-for}

-- ---- a row whose operands are worked out is the write
module _ (ps : List ℕ) (t : Table) (s : State) (n : ℕ) (cs : List ℕ) (at : Ptr) (x : ℕ) (left : List ℕ) (o : Operands ps t s n cs at x left) where
  row-34 : row_kind (row_at t n).kind ≡ store → step_at ps t s n cs ≡ write ps s at x left
  unfolding step_at row_rule
  row-34 e = rw (e, o.first) (rw o.second refl)

  row-40 : row_kind (row_at t n).kind ≡ reduced_store → step_at ps t s n cs ≡ reduced_write ps s at x left
  unfolding step_at row_rule
  row-40 e = rw (e, o.first) (rw o.second refl)

-- ---- what a 40 comes to
good-write : (ps : List ℕ) (s : State) → Laid ps s.arrays s.cells → (x : ℕ) (cs : List ℕ) (i q : ℕ) → i < length s.arrays
    → q < (array_at s.arrays i).len → reduced_write ps s (ptr (suc i) q) x cs ≡ gives (to (past (with_place ps s i q x))) cs
good-write ps s L x cs i q h k = go (keeps ps (array_at s.arrays i) q) refl
  where
    go : (b : Bool) → keeps ps (array_at s.arrays i) q ≡ b → reduced_write ps s (ptr (suc i) q) x cs ≡ gives (to (past (with_place ps s i q x))) cs
    go true e =
        let l = index_in ps (array_at s.arrays i).reduced _ q k e in
        simp (lt-ltb _ _ h, lt-ltb _ _ k, e, lt-ltb _ _ l, lt-ltb _ _ (inside ps L i h _ l))
    go false e = simp (lt-ltb _ _ h, lt-ltb _ _ k, e)

pub writes-judged-by-place : WritesJudgedByPlace
writes-judged-by-place ps m t s C n e x cs left = record {
  none = λ q o. row-40 ps t s n cs (ptr 0 q) x left o e;
  beyond = λ i q o h k. row-40 ps t s n cs (ptr (suc i) q) x left o e ∙ simp (lt-ltb _ _ h, le-ltb _ _ k);
  good = λ i q o h k. row-40 ps t s n cs (ptr (suc i) q) x left o e ∙ good-write ps s C.laid x left i q h k;
}

-- ---- 40 beside 34
-- what never fails does not fail for any reason
never : {o : Out Move} {left : List ℕ} {why : Reason} → FailsFor (λ why. ⊥) o → o ≡ fails why left → ⊥
never h e = subst (FailsFor (λ why. ⊥)) e h

-- with both operands worked out, each under choices of its own
module _ (ps : List ℕ) (t : Table) (p r : State) (A : Agree ps t p r) (x : ℕ) (cs ds : List ℕ) (why : Reason) where
  abbrev Alike : Out Move → Out Move → Type 0
  Alike v w = (v ≡ fails why cs → w ≡ fails why ds) × ((rest : List ℕ) → w ≡ fails why rest → v ≡ fails why cs)

  -- two failures for one reason
  both-fail : (reason : Reason) → Alike (fails reason cs) (fails reason ds)
  both-fail reason = (
    λ e. ap (λ y. fails y ds) (subst (FailsFor (λ y. reason ≡ y)) e refl),
    λ rest e. ap (λ y. fails y cs) (subst (FailsFor (λ y. reason ≡ y)) e refl),
  )

  write-alike : (i q : ℕ) → Alike (write [] p (ptr i q) x cs) (reduced_write ps r (ptr i q) x ds)
  write-alike zero q = both-fail without_array
  write-alike (suc i) q = there (ltb i (length p.arrays)) refl (ltb q (array_at p.arrays i).len) refl
    where
      b : Array
      b = array_at r.arrays i

      kept_for : For (λ why. ⊥) (if keeps ps b q then put ps r b (index_of ps b q) x else give (to (past r)))
      kept_for = if-for (keeps ps b q) (put-for ps r b (index_of ps b q) x) give-for

      there : (d : Bool) → ltb i (length p.arrays) ≡ d → (e : Bool) → ltb q (array_at p.arrays i).len ≡ e
          → Alike (write [] p (ptr (suc i) q) x cs) (reduced_write ps r (ptr (suc i) q) x ds)
      there false d e f = simp (d, A.arrays) (λ z. absurd (never tt z), λ rest z. absurd (never tt z))
      there true d false f = simp (d, f, A.arrays, A.len i (ltb-true i _ d)) (both-fail past_length)
      there true d true f =
          let g : ltb q b.len ≡ true = rw (A.len i (ltb-true i _ d)) f in
          simp (d, f, A.arrays, g)
          (λ z. absurd (never ((put-for [] p (array_at p.arrays i) q x).fails_for cs) z), λ rest z. absurd (never (kept_for.fails_for ds) z))

pub rows-fail-alike : RowsFailAlike
rows-fail-alike ps P p r A n e at x cs left v w why =
    rw (row-34 [] (table_of P) p n [] at x [] v e, row-40 ps (table_of (reduce P)) r n cs at x left w new-kind)
    (write-alike ps (table_of P) p r A x [] left why at.array at.place)
  where
    new-kind : row_kind (row_at (table_of (reduce P)) n).kind ≡ reduced_store
    new-kind = ap (λ (u : Table). row_kind (row_at u n).kind) (table-reduce P) ∙ (reduces (table_of P)).kind n ∙ ap (row_in reduced _ _) e
