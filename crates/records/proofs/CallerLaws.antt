-- Laws of check 15 as the code makes it, of the callers: one of them by the words of the stack, and all of them from the last one down.
-- Assumes nothing.
use Prim.Native.Nat.{ℕ, suc, ◌+◌, ◌-◌, ◌*◌, ◌<◌, ◌≤◌}
use native.Mathlib.Decide.{dec_le}
use native.Mathlib.Numerals.{add-one}
use native.Mathlib.Omega.{arith}
use mathlib.Core.Path.{◌≡◌, refl, sym, ap, ◌∙◌}
use mathlib.Core.Logic.{◌≢◌}
use mathlib.Core.Bool.{Bool, true, false, not, ◌&&◌, ◌||◌}
use mathlib.Core.List.{List}
use lib.ListN.{length, get_or, take, drop, length-drop}
use lib.Seq.{length-take-le, get_or-take, get_or-drop}
use lib.Dec.{ltb, leb, eqb}
use borrow.Author.Tests.{ltb-true, lt-ltb, le-ltb, le-leb, lt-leb, eq-eqb, ne_eqb, not-true}
use Rattle.lists.specs.Tab.{all, listed, tab}
use Rattle.lists.proofs.TabLaws.{all-at, length-tab, same-tab, tab-itself, tab-last}
use Rattle.lists.proofs.BoolLaws.{and_left}
use Rattle.model.specs.Table.{Table, home, locals_at, opening, row_at, row_kind}
use Rattle.model.specs.Table.Row.{call}
use Rattle.model.specs.State.{Caller, MachineKind, Position, most_callers, position}
use Rattle.model.specs.Procedures.{most_procedures}
use Rattle.model.specs.Accepted.{Accepted}
use Rattle.model.proofs.ReduceLaws.{no-row}
use Rattle.procedures.specs.Map.{Mapped}
use Rattle.calls.specs.Stack.{caller_at, callers_of, depth_of, loops_of, part}
use Rattle.records.specs.Record.{callers_right, calls_right, is_call, stands_right}
use Rattle.records.specs.CodeRecord.{call_of}
use Rattle.records.proofs.ProcedureLaws.{call-names, few-procedures}

-- ---- the kind of a call
pub kind-45 : {k : ℕ} → k ≡ 45 → row_kind k ≡ call
unfolding row_kind
kind-45 e = rw e

other-kind : (k : ℕ) → k ≢ 45 → is_call (row_kind k) ≡ false
unfolding all row_kind
other-kind k h = elim (dec_le 46 k) [
  | yes l ↦ rw (no-row k l)
  | no l ↦ not-true (is_call (row_kind k)) (rw (ne_eqb k 45 h) at (all-at 46 (λ k. eqb k 45 || not (is_call (row_kind k))) refl k (omega arith)))
]

-- ---- the row of a caller
module _ (t : Table) (r q : ℕ) where
  pub call-past : t.rows ≤ r → false ≡ call_of t r q
  unfolding call_of
  call-past h = rw (le-ltb r t.rows h)

  pub call-there : call_of t r q ≡ true → r < t.rows
  unfolding call_of
  call-there e = ltb-true r t.rows (and_left (ltb r t.rows) _ e)

  module _ (h : r < t.rows) where
    pub call-other : (row_at t r).kind ≢ 45 → false ≡ call_of t r q
    unfolding call_of
    call-other e = rw (lt-ltb r t.rows h, other-kind (row_at t r).kind e)

    pub call-named : (row_at t r).kind ≡ 45 → {x : ℕ} → x ≡ suc (opening t (row_at t r).a) → eqb x q ≡ call_of t r q
    unfolding call_of
    call-named e p = rw (lt-ltb r t.rows h, kind-45 e, p)

-- where the procedure that a 45 calls opens, by the map of procedures
module _ (m : MachineKind) (t : Table) (A : Accepted m t) (r : ℕ) (h : r < t.rows) (e : (row_at t r).kind ≡ 45) where
  opens-there : opening t (row_at t r).a < t.rows
  opens-there = call-names m t A r h (kind-45 e)

  pub call-number : (row_at t r).a < most_procedures
  call-number = few-procedures m t A (row_at t r).a opens-there

  module _ (map : List ℕ) (M : Mapped t map) where
    pub opens-below : get_or map (row_at t r).a 0 < t.rows
    opens-below = rw (M.openings (row_at t r).a call-number) opens-there

    pub next-is : get_or map (row_at t r).a 0 + 1 ≡ suc (opening t (row_at t r).a)
    next-is = add-one (get_or map (row_at t r).a 0) ∙ ap suc (M.openings (row_at t r).a call-number)

-- ---- one caller, by its words from a place on
module _ (t : Table) (stack : List ℕ) (at q : ℕ) where
  abbrev row : ℕ
  row = get_or stack at 0

  abbrev stood : Position
  stood = position row (loops_of (get_or stack (at + 1) 0) (part stack (at + 6) 8) (part stack (at + 14) 8) (part stack (at + 22) 8))

  -- eight of its words, as a slice of the stack
  abbrev pub taken : ℕ → List ℕ
  taken k = take (at + (k + 8) - (at + k)) (drop (at + k) stack)

  part-taken : (k : ℕ) → at + (k + 8) ≤ length stack → taken k ≡ part stack (at + k) 8
  part-taken k room =
      let n : at + (k + 8) - (at + k) ≡ 8 = omega arith in
      rw n (sym (tab-itself (take 8 (drop (at + k) stack)) 8 (length-take-le 8 (drop (at + k) stack) (simp length-drop (omega arith))))
      ∙ same-tab 8 _ _ (λ i h. get_or-take 8 (drop (at + k) stack) i 0 h ∙ get_or-drop (at + k) stack i 0))

  abbrev calls : Bool
  calls = calls_right t q (caller_at t stack at)

  -- it has as many numbers as locals
  calls_by : calls ≡ (call_of t row q && stands_right t stood)
  unfolding call_of caller_at
  calls_by =
      rw (eq-eqb (length (part (part stack (at + 2) 4) 0 (locals_at t row).count)) (locals_at t row).count (length-tab (locals_at t row).count _))
      (go (ltb row t.rows) (is_call (row_kind (row_at t row).kind)) (eqb (suc (opening t (row_at t row).a)) q) (stands_right t stood))
    where
      go : (a b c d : Bool) → (a && (b && (c && (d && true)))) ≡ ((a && (b && c)) && d)
      go true true true true = refl
      go true true true false = refl
      go true true false d = refl
      go true false c d = refl
      go false b c d = refl

  module _ {a : Bool} (p : a ≡ call_of t row q) where
    pub calls-off : a ≡ false → false ≡ calls
    calls-off e = sym (calls_by ∙ rw (← p, e))

    pub calls-on : a ≡ true → at + 30 ≤ length stack → {b : Bool}
        → b ≡ stands_right t (position row (loops_of (get_or stack (at + 1) 0) (taken 6) (taken 14) (taken 22))) → b ≡ calls
    calls-on e room s =
        s ∙ rw (part-taken 6 (omega arith), part-taken 14 (omega arith), part-taken 22 (omega arith)) (sym (calls_by ∙ rw (← p, e)))

  pub calls-there : calls ≡ true → row < t.rows
  calls-there e = call-there t row q (and_left (call_of t row q) (stands_right t stood) (sym calls_by ∙ e))

-- ---- all callers
module _ (t : Table) (stack : List ℕ) (q : ℕ) where
  abbrev whole : Bool
  whole = leb (length (callers_of t stack)) most_callers && callers_right t q (callers_of t stack)

  -- the first n, the last of these first
  abbrev below : ℕ → List Caller
  below n = tab n (λ i. caller_at t stack (30 * (n - suc i)))

  -- what is left, where the last of these calls what has the first row p
  abbrev pub Left : ℕ → ℕ → Type 0
  Left p n = callers_right t p (below n) ≡ whole

  count-callers : length (callers_of t stack) ≡ depth_of stack
  unfolding callers_of
  count-callers = length-tab (depth_of stack) _

  pub callers-many : most_callers < depth_of stack → false ≡ whole
  callers-many h = rw (count-callers, lt-leb (depth_of stack) most_callers h)

  pub callers-all : depth_of stack ≤ most_callers → Left q (depth_of stack)
  unfolding callers_of
  callers-all h = rw (length-tab (depth_of stack) (λ i. caller_at t stack (30 * (depth_of stack - suc i))), le-leb (depth_of stack) most_callers h)

  module _ (p j n : ℕ) (L : Left p j) (e : j ≡ suc n) where
    next-caller : (calls_right t p (caller_at t stack (30 * n)) && callers_right t (home t (get_or stack (30 * n) 0)) (below n)) ≡ whole
    unfolding callers_right caller_at
    next-caller = sym (ap (callers_right t p) (ap below e ∙ tab-last n (λ i. caller_at t stack (30 * i)))) ∙ L

    pub callers-next : calls_right t p (caller_at t stack (30 * n)) ≡ true → Left (home t (get_or stack (30 * n) 0)) n
    callers-next g = sym (ap (λ (b : Bool). b && callers_right t (home t (get_or stack (30 * n) 0)) (below n)) g) ∙ next-caller

    pub callers-off : calls_right t p (caller_at t stack (30 * n)) ≡ false → false ≡ whole
    callers-off g = sym (ap (λ (b : Bool). b && callers_right t (home t (get_or stack (30 * n) 0)) (below n)) g) ∙ next-caller

  pub callers-done : (p n : ℕ) → Left p n → n ≡ 0 → eqb p 0 ≡ whole
  unfolding callers_right tab listed
  callers-done p n L e = ap (λ (n : ℕ). callers_right t p (below n)) (sym e) ∙ L
