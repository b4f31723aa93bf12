-- What check 17 gives of the procedures of an accepted table: there are at most sixteen, a call names one of them, and the locals of each are at
-- most four declared uints that are not marked.
-- Assumes nothing.
use Prim.Native.Nat.{ℕ, zero, suc, ◌+◌, ◌-◌, ◌<◌, ◌≤◌}
use native.Mathlib.Nat.{not-suc-le-zero}
use native.Mathlib.Omega.{arith}
use mathlib.Core.Path.{◌≡◌, refl, sym, ◌∙◌, subst}
use mathlib.Core.Bool.{Bool, true, false}
use lib.Dec.{ltb, leb}
use borrow.Author.Tests.{ltb-true, lt-ltb, leb-true}
use Rattle.std.specs.Prelude.{if◌then◌else◌}
use Rattle.lists.specs.Tab.{sum}
use Rattle.lists.proofs.BoolLaws.{and_left, and_right}
use Rattle.model.specs.Table.{Stretch, Table, between, home, is_opening, locals_at, locals_of, marked_uint}
use Rattle.model.specs.Table.{none_open, open_at, opening, row_at, row_kind, type_at}
use Rattle.model.specs.Table.{within}
use Rattle.model.specs.Table.Ty.{uint}
use Rattle.model.specs.Table.Row.{call}
use Rattle.model.specs.State.{MachineKind}
use Rattle.model.specs.Procedures.{most_procedures, opened_before, opens_rightly}
use Rattle.model.specs.Accepted.{Accepted, node_type}
use Rattle.model.proofs.Homes.{Home, home-is, in_place}
use Rattle.model.proofs.Homes.Home.{of_main, of_procedure}
use Rattle.model.proofs.Typing.{RowFits, opens-rightly, rows_fit}
use Rattle.model.proofs.Locals.{locals-fit}
use Rattle.model.proofs.UsesLaws.{uses-right}

-- a stretch of variables as the locals of a procedure are (rule 1.21)
pub record LocalsRight (t : Table) (l : Stretch) : Type 0 where
  pub few : l.count ≤ 4
  pub there : l.first + l.count ≤ t.decls
  pub uints : (i : ℕ) → i < l.count → (type_at t (l.first + i) ≡ uint) × (marked_uint t (l.first + i) ≡ false)

-- a 43 that does not break 17: not one too many, with one to four locals
opens-few : (t : Table) (r a n : ℕ) → opens_rightly t r a n ≡ true → (opened_before t r < most_procedures) × (1 ≤ n) × (n ≤ 4)
opens-few t r a n e =
    let f = and_right (none_open (open_at t r)) _ (and_right (ltb (opened_before t r) most_procedures) _ e) in
    let b = and_left (between 1 4 n) _ f in (
      ltb-true (opened_before t r) most_procedures (and_left (ltb (opened_before t r) most_procedures) _ e),
      leb-true 1 n (and_left (leb 1 n) (leb n 4) b),
      leb-true n 4 (and_right (leb 1 n) (leb n 4) b),
    )

module _ (m : MachineKind) (t : Table) (A : Accepted m t) where
  opened-few : (r : ℕ) → r ≤ t.rows → opened_before t r ≤ most_procedures
  unfolding sum
  opened-few zero h = omega arith
  opened-few (suc r) h = go (is_opening t r) refl (opened-few r (omega arith))
    where
      go : (b : Bool) → is_opening t r ≡ b → opened_before t r ≤ most_procedures → opened_before t r + (if is_opening t r then 1 else 0) ≤ most_procedures
      go true e few = rw e (omega (arith, (opens-few t r (row_at t r).a (row_at t r).b (opens-rightly m t A r (omega arith) e)).0))
      go false e few = rw e (omega arith)

  -- a procedure that there is has a number below sixteen
  pub few-procedures : (k : ℕ) → opening t k < t.rows → k < most_procedures
  few-procedures k h =
      let below : k < opened_before t t.rows = ltb-true k (opened_before t t.rows) (sym ((uses-right t).called k) ∙ lt-ltb (opening t k) t.rows h) in
      omega (arith, opened-few t.rows (omega arith))

  -- a 45 names a procedure that there is (rule 6.24)
  pub call-names : (r : ℕ) → r < t.rows → row_kind (row_at t r).kind ≡ call → opening t (row_at t r).a < t.rows
  call-names r h e = (subst (λ k. RowFits m t (node_type t) k (row_at t r).a (row_at t r).b (row_at t r).c) e (rows_fit m t A r h)).5

  -- the locals of what a row belongs to; main has none
  pub locals-right : (r : ℕ) → r ≤ t.rows → LocalsRight t (locals_at t r)
  locals-right r h = go (home t r) (home-is t r) (locals-fit m t A r h)
    where
      go : (q : ℕ) → Home t r q → ((i : ℕ) → within (locals_of t q) i ≡ true → (i < t.decls) × (type_at t i ≡ uint) × (marked_uint t i ≡ false))
          → LocalsRight t (locals_of t q)
      go q of_main fit = record { few = omega arith; there = omega arith; uints = λ i l. absurd (not-suc-le-zero l) }
      go q (of_procedure p l o) fit =
          let a = (row_at t p).a in
          let n = (row_at t p).b in
          let some = opens-few t p a n (opens-rightly m t A p (omega arith) o) in
          let in-locals : (i : ℕ) → i < n → within (locals_of t (suc p)) (a + i) ≡ true =
          λ i k. in_place (locals_of t (suc p)) (a + i) (omega arith) (omega arith) in
          record {
            few = some.2;
            there = omega (arith, (fit (a + (n - 1)) (in-locals (n - 1) (omega (arith, some.1)))).0, some.1);
            uints = λ i k. let f = fit (a + i) (in-locals i k) in (f.1, f.2);
          }
