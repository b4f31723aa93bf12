-- Laws of recorded rows: what a row comes to has the place of its operand's answer, so that a row with one operand records that operand's
-- numbers (33, 35, 36, 37, 44 and 45); and the row where a record stands, by its kind, or the end of a procedure, which has none.
-- Assumes nothing.
use Prim.Native.Nat.{ℕ, ◌<◌, ◌≤◌, ◌+◌, ◌*◌}
use native.Mathlib.Omega.{arith}
use native.Mathlib.Decide.{dec_le}
use mathlib.Core.Path.{◌≡◌, refl, sym, ap, subst, ◌∙◌}
use mathlib.Core.Logic.{◌≢◌}
use mathlib.Core.Bool.{Bool, true, false, not, ◌&&◌, ◌||◌, true≢false, false≢true}
use mathlib.Core.List.{List, []}
use lib.ListN.{length, get_or, get_or-eq_default}
use lib.Dec.{leb, ltb}
use borrow.Author.Tests.{le-ltb, leb-true, ltb-true}
use Rattle.lists.specs.Tab.{all}
use Rattle.lists.proofs.TabLaws.{all-at}
use Rattle.std.specs.Prelude.{if◌then◌else◌}
use Rattle.model.specs.Table.{Ty, Row, type_at, row_at, row_kind, row_kinds, opens_procedure, at_end}
use Rattle.model.specs.Table.Ty.{bool, uint, pointer}
use Rattle.model.specs.Table.Row.{skip, assign, store, assert, assume, array, loop, loop_end, reduced_store, reduced_array, class_loop}
use Rattle.model.specs.Table.Row.{procedure, returns, call, no_row}
use Rattle.kinds.specs.declared.line_kind.Row.{Row as RowName}
use Rattle.kinds.specs.declared.line_kind.Row.TheVariants as row_name
use Rattle.kinds.specs.Kinds.{row_said}
use Rattle.model.specs.Step.{row_rule}
use Rattle.model.specs.Writer.{node_choices, row_choices, step_choices}
use Rattle.prepared.specs.Own.{places_of, decls_of, rows_of, own_table}
use Rattle.machine.specs.declared.Failure.TheVariants.{Stuck}
use Rattle.evaluators.specs.declared.answers.Answer.{Answer}
use Rattle.evaluators.specs.declared.answers.Answer.TheVariants.{Bool as ABool, Uint as AUint, Pointer as APointer, Not as NoValue}
use Rattle.calls.specs.Stack.{depth_of}
use Rattle.machine.specs.declared.Machine.{Machine}
use Rattle.machine.specs.declared.Move.TheVariants.{Goes, Returns}
use Rattle.machine.specs.declared.Worked.{Worked}
use Rattle.machine.specs.declared.Worked.TheVariants.{Moves, Not}
use Rattle.machine.specs.View.{own_state}
use Rattle.row_kinds.specs.CodeRows.{on_bool, on_uint, on_pointer, fits_in, put_of, put_bool, put_uint, put_pointer, tested_of, lacks_room, used_in, size_for}
use Rattle.row_kinds.specs.CodeRows.{lay_of, laid_of}
use Rattle.row_kinds.specs.CodeRows.{called_of, returned_of}
use Rattle.machine.specs.CodeMoves.{BoolsFit, Sized, Within, CallsFit}
use Rattle.row_kinds.proofs.PutLaws.{lends, puts-bool, puts-uint, puts-pointer, asserts, assumes}
use Rattle.row_kinds.proofs.LayLaws.{lays-plain}
use Rattle.row_kinds.proofs.LoopLaws.{kind-read}
use Rattle.row_moves.proofs.StepLaws.{ends_by, step_of, step-none, step-ends, step-returns, step-calls, step_past}
use Rattle.row_kinds.proofs.WriteLaws.{works-goes}
use Rattle.recording.specs.CodePushes.{Pushed, pushed, push_all}
use Rattle.recording.specs.CodeRecords.{Plain, held_of, pair_of, ReachedBy, Reached, Recorded, operand_numbers}
use Rattle.recording_rows.specs.CodeMoves.{ReachedMove, RowRecords, StepRecords}
use Rattle.recording.proofs.NumberLaws.{row-numbers}
use Rattle.recording.proofs.PushLaws.{push-none}

-- ---- a row has its operand's place, if it has the place of each value that the operand may give
module _ (out : List ℕ) (p : Pushed ℕ) where
  pub on-bool : (k : Bool → ℕ → Worked) (x : Answer) → ((b : Bool) (at : ℕ) → pushed out at ≡ p → ReachedMove (k b at) out p)
      → Reached x out p → ReachedMove (on_bool k x) out p
  unfolding on_bool Reached ReachedMove ReachedBy
  on-bool k (ABool b at) each h = each b at h
  on-bool k (AUint x at) each h = tt
  on-bool k (APointer r v at) each h = tt
  on-bool k (NoValue why at) each h = h

  pub on-uint : (k : ℕ → ℕ → Worked) (x : Answer) → ((v at : ℕ) → pushed out at ≡ p → ReachedMove (k v at) out p)
      → Reached x out p → ReachedMove (on_uint k x) out p
  unfolding on_uint Reached ReachedMove ReachedBy
  on-uint k (ABool b at) each h = tt
  on-uint k (AUint x at) each h = each x at h
  on-uint k (APointer r v at) each h = tt
  on-uint k (NoValue why at) each h = h

  pub on-pointer : (k : ℕ → ℕ → ℕ → Worked) (x : Answer) → ((r v at : ℕ) → pushed out at ≡ p → ReachedMove (k r v at) out p)
      → Reached x out p → ReachedMove (on_pointer k x) out p
  unfolding on_pointer Reached ReachedMove ReachedBy
  on-pointer k (ABool b at) each h = tt
  on-pointer k (AUint x at) each h = tt
  on-pointer k (APointer r v at) each h = each r v at h
  on-pointer k (NoValue why at) each h = h

  -- ... which the ends of rows 33, of 35 and 36, of 37, of 44 and of 45 have: one of two by a test
  pub either : (b : Bool) (y z : Worked) → ReachedMove y out p → ReachedMove z out p → ReachedMove (if b then y else z) out p
  either true y z h g = h
  either false y z h g = g

  put-reached : (own ns : List ℕ) (a k x base at : ℕ) → pushed out at ≡ p → ReachedMove (put_of own ns a k x base at) out p
  unfolding put_of ReachedMove ReachedBy
  put-reached own ns a k x base at h = either (fits_in own ns a k) _ _ h tt

  test-reached : (assuming : Bool) (x : Answer) → Reached x out p → ReachedMove (tested_of assuming x) out p
  unfolding ReachedMove
  test-reached assuming x = on-bool _ x λ b at h. either b _ _ h h

  lay-reached : (own ns ls hs : List ℕ) (count room : ℕ) (reduced : Bool) (a len at : ℕ) → pushed out at ≡ p
      → ReachedMove (lay_of own ns ls hs count room reduced a len at) out p
  unfolding lay_of ReachedMove ReachedBy
  lay-reached own ns ls hs count room reduced a len at h =
      either (fits_in own ns a 3) _ _
      (either (lacks_room count (used_in (places_of own) count ls hs) (size_for (places_of own) len reduced) room) _ _ h h) tt

  return-reached : (x : Answer) → Reached x out p → ReachedMove (returned_of x) out p
  unfolding returned_of ReachedMove
  return-reached x = on-uint _ x λ v at h. h

  call-reached : (depth k : ℕ) (x : Answer) → Reached x out p → ReachedMove (called_of depth k x) out p
  unfolding called_of ReachedMove
  call-reached depth k x = on-uint _ x λ v at h. either (leb 8 depth) _ _ h h

-- ---- the numbers of an operand and of a row, as the model has them at the record's state
module _ (own stack : List ℕ) (m : Machine) (cells held : List ℕ) where
  abbrev operand_at : Ty → ℕ → List ℕ
  operand_at w n = node_choices (pair_of own) (own_table own) (held_of m.count held) (own_state own stack m cells) w n

  abbrev numbers_at : Row → ℕ → ℕ → ℕ → List ℕ
  numbers_at k a b c = row_choices (pair_of own) (own_table own) (held_of m.count held) (own_state own stack m cells) m.row k a b c

  listed : (w : Ty) (n : ℕ) → operand_numbers (lends own m cells) held w 1024 n ≡ operand_at w n
  listed w n = row-numbers (lends own m cells) held (own_state own stack m cells) refl refl refl w n

-- ---- rows with one operand: x is its answer
module _ (own : List ℕ) (m : Machine) (cells held before after : List ℕ) where
  module _ (a b c : ℕ) (x : Answer) where
    -- 33, by the type of its variable
    assign-reached : (w : Ty) (z : Worked) → type_at (own_table own) a ≡ w
        → ReachedMove z after (push_all (operand_numbers (lends own m cells) held w 1024 b) (pushed before 0))
        → (stack : List ℕ) → ReachedMove z after (push_all (numbers_at own stack m cells held assign a b c) (pushed before 0))
    unfolding row_choices
    assign-reached w z e h stack =
        subst (λ (xs : List ℕ). ReachedMove z after (push_all xs (pushed before 0)))
        (listed own stack m cells held w b ∙ ap (λ (v : Ty). operand_at own stack m cells held v b) (sym e)) h

    module _ (few : decls_of own ≤ 32) (long : length m.numbers ≡ 32) (wide : length m.bases ≡ 32) where
      pub records-bool : {z : Worked} → type_at (own_table own) a ≡ bool → Recorded bool (lends own m cells) held 1024 b x after (pushed before 0)
          → z ≡ put_bool own m.numbers a x → RowRecords own m cells held assign a b c z before after
      records-bool e h q = rw q (record {
        works = λ stack. puts-bool own stack m cells [] few long wide a b c [] x e h.value;
        numbers = assign-reached bool _ e (on-bool after _ _ x (λ y at. put-reached after _ own m.numbers a 1 (if y then 1 else 0) 0 at) h.numbers);
      })

      pub records-uint : {z : Worked} → BoolsFit own m.numbers → type_at (own_table own) a ≡ uint
          → Recorded uint (lends own m cells) held 1024 b x after (pushed before 0)
          → z ≡ put_uint own m.numbers a x → RowRecords own m cells held assign a b c z before after
      records-uint bools e h q = rw q (record {
        works = λ stack. puts-uint own stack m cells [] few long wide a b c [] x bools e h.value;
        numbers = assign-reached uint _ e (on-uint after _ _ x (λ y at. put-reached after _ own m.numbers a 2 y 0 at) h.numbers);
      })

      pub records-pointer : {z : Worked} → type_at (own_table own) a ≡ pointer
          → Recorded pointer (lends own m cells) held 1024 b x after (pushed before 0)
          → z ≡ put_pointer own m.numbers a x → RowRecords own m cells held assign a b c z before after
      records-pointer e h q = rw q (record {
        works = λ stack. puts-pointer own stack m cells [] few long wide a b c [] x e h.value;
        numbers = assign-reached pointer _ e (on-pointer after _ _ x (λ r y at. put-reached after _ own m.numbers a 3 y r at) h.numbers);
      })

    -- 35, and 36
    module _ (h : Recorded bool (lends own m cells) held 1024 a x after (pushed before 0)) where
      tested-reached : (assuming : Bool) (stack : List ℕ)
          → ReachedMove (tested_of assuming x) after (push_all (operand_at own stack m cells held bool a) (pushed before 0))
      tested-reached assuming stack = rw (listed own stack m cells held bool a) at (test-reached after _ assuming x h.numbers)

      pub records-assert : {z : Worked} → z ≡ tested_of false x → RowRecords own m cells held assert a b c z before after
      unfolding row_choices
      records-assert q = rw q (record { works = λ stack. asserts own stack m cells [] a b c [] x h.value; numbers = tested-reached false })

      pub records-assume : {z : Worked} → z ≡ tested_of true x → RowRecords own m cells held assume a b c z before after
      unfolding row_choices
      records-assume q = rw q (record { works = λ stack. assumes own stack m cells [] a b c [] x h.value; numbers = tested-reached true })

    -- 37
    pub records-array : {z : Worked} → decls_of own ≤ 32 → Sized m → Recorded uint (lends own m cells) held 1024 b x after (pushed before 0)
        → z ≡ laid_of own m.numbers m.lengths m.shapes m.count (length cells) false a x
        → RowRecords own m cells held array a b c z before after
    unfolding row_choices
    records-array few s h q = rw q (record {
      works = λ stack. lays-plain own stack m cells [] few s.numbers s.bases s.firsts s.lengths s.shapes a b c [] x h.value;
      numbers = λ stack. rw (listed own stack m cells held uint b) at
          (on-uint after _ _ x (lay-reached after _ own m.numbers m.lengths m.shapes m.count (length cells) false a) h.numbers);
    })

-- ---- the rows that only a reduced table has
abbrev pub is_reduced : Row → Bool
is_reduced skip = false
is_reduced assign = false
is_reduced store = false
is_reduced assert = false
is_reduced assume = false
is_reduced array = false
is_reduced loop = false
is_reduced loop_end = false
is_reduced reduced_store = true
is_reduced reduced_array = true
is_reduced class_loop = true
is_reduced procedure = false
is_reduced returns = false
is_reduced call = false
is_reduced no_row = false

reduced-kinds : all 46 (λ k. not (is_reduced (row_kind k)) || (leb 40 k && ltb k 43)) ≡ true
unfolding all row_kind
reduced-kinds = refl

pub not-reduced : (k : ℕ) → (40 ≤ k → 43 ≤ k) → is_reduced (row_kind k) ≡ false
unfolding row_kind
not-reduced k h = elim (dec_le 46 k) [
  | yes past ↦ ap is_reduced (get_or-eq_default row_kinds no_row {n = k} past)
  | no below ↦ go (is_reduced (row_kind k)) (leb 40 k) (ltb k 43) refl refl
      (all-at 46 (λ k. not (is_reduced (row_kind k)) || (leb 40 k && ltb k 43)) reduced-kinds k (omega arith))
]
  where
    go : (b p q : Bool) → leb 40 k ≡ p → ltb k 43 ≡ q → (not b || (p && q)) ≡ true → b ≡ false
    go false p q e f g = refl
    go true true true e f g = let l = leb-true 40 k e in let u = ltb-true k 43 f in let m = h l in absurd (omega (arith, u, m))
    go true true false e f g = absurd (false≢true g)
    go true false q e f g = absurd (false≢true g)

-- ---- the row where the record stands, which is there: k, a, b and c are its words, as the code reads them
module _ (own stack : List ℕ) (m : Machine) (cells held before : List ℕ) (here : m.row < rows_of own) {k a b c : ℕ}
    (ek : k ≡ get_or own (4 * (34 + 1024 + m.row) + 0) 0)
    (ea : a ≡ (row_at (own_table own) m.row).a) (eb : b ≡ (row_at (own_table own) m.row).b) (ec : c ≡ (row_at (own_table own) m.row).c) where
  -- the numbers of the step are those of the row
  numbers-of : (r : Row) → row_kind k ≡ r → opens_procedure r ≡ false
      → numbers_at own stack m cells held r a b c
      ≡ step_choices (pair_of own) (own_table own) (held_of m.count held) (own_state own stack m cells) m.row
  unfolding step_choices
  numbers-of r e o = rw (ends_by own m.row here ek ∙ ap opens_procedure e ∙ o) (rw (← e, kind-read own m.row ek, ea, eb, ec))

  -- 43 has none
  pub records-ends : (map : List ℕ) → CallsFit own map stack m cells → row_kind k ≡ procedure
      → StepRecords own stack m cells held (Moves (Returns 0) 0) before before
  unfolding step_choices ReachedMove
  records-ends map calling e = record {
    works = step-ends own stack m cells [] 0 here ek ea eb ec map calling e;
    numbers = rw (ends_by own m.row here ek ∙ ap opens_procedure e) (sym (push-none (pushed before 0)));
  }

  module _ (after : List ℕ) where
    -- a row that goes by its own rule
    pub records-step : (r : Row) {z : Worked} → row_kind k ≡ r → opens_procedure r ≡ false
        → RowRecords own m cells held r a b c z before after → StepRecords own stack m cells held z before after
    records-step r e o h = record {
      works = step_of own stack m cells [] 0 here ek ea eb ec r e o (h.works stack);
      numbers = rw (numbers-of r e o) at (h.numbers stack);
    }

    -- the code reads none of the rows that a plain table may have
    pub records-none : Plain own → (r : RowName) → row_said r ≡ row_kind k → r ≢ row_name.Skip → r ≢ row_name.Assign → r ≢ row_name.Store
        → r ≢ row_name.Assert → r ≢ row_name.Assume → r ≢ row_name.Array → r ≢ row_name.Loop → r ≢ row_name.LoopEnd → r ≢ row_name.Procedure
        → r ≢ row_name.Return → r ≢ row_name.Call → StepRecords own stack m cells held (Not Stuck 0) before after
    unfolding ReachedMove ReachedBy
    records-none plain r e skips assigns stores asserts assumes arrays loops ends procedures gives calls = go r e refl
      where
        reduced : is_reduced (row_kind k) ≡ false
        reduced = not-reduced k (λ h. let q = kind-read own m.row ek in omega (arith, plain.rows m.row (omega (arith, q, h)), q))

        none : row_kind k ≡ no_row → StepRecords own stack m cells held (Not Stuck 0) before after
        none h = record { works = step-none own stack m cells [] 0 here ek ea eb ec h; numbers = tt }

        go : (q : RowName) → row_said q ≡ row_kind k → r ≡ q → StepRecords own stack m cells held (Not Stuck 0) before after
        go row_name.Skip h i = absurd (skips i)
        go row_name.Assign h i = absurd (assigns i)
        go row_name.Store h i = absurd (stores i)
        go row_name.Assert h i = absurd (asserts i)
        go row_name.Assume h i = absurd (assumes i)
        go row_name.Array h i = absurd (arrays i)
        go row_name.Loop h i = absurd (loops i)
        go row_name.LoopEnd h i = absurd (ends i)
        go row_name.ReducedStore h i = absurd (true≢false (ap is_reduced h ∙ reduced))
        go row_name.ReducedArray h i = absurd (true≢false (ap is_reduced h ∙ reduced))
        go row_name.ClassLoop h i = absurd (true≢false (ap is_reduced h ∙ reduced))
        go row_name.Procedure h i = absurd (procedures i)
        go row_name.Return h i = absurd (gives i)
        go row_name.Call h i = absurd (calls i)
        go row_name.Unknown h i = none (sym h)

    -- 44 and 45: x is the operand's answer
    module _ (map : List ℕ) (calling : CallsFit own map stack m cells) (x : Answer) where
      pub records-returns : {z : Worked} → row_kind k ≡ returns → Recorded uint (lends own m cells) held 1024 a x after (pushed before 0) → z ≡ returned_of x
          → StepRecords own stack m cells held z before after
      unfolding row_choices
      records-returns e h q = rw q (record {
        works = step-returns own stack m cells [] 0 here ek ea eb ec map calling e x h.value;
        numbers = rw (listed own stack m cells held uint a ∙ numbers-of returns e refl) at (return-reached after _ x h.numbers);
      })

      pub records-calls : {z : Worked} → row_kind k ≡ call → Within own m cells → (depth j : ℕ) → depth ≡ depth_of stack → j ≡ a
          → Recorded uint (lends own m cells) held 1024 b x after (pushed before 0) → z ≡ called_of depth j x
          → StepRecords own stack m cells held z before after
      unfolding row_choices
      records-calls e fits depth j ed ej h q = rw q (record {
        works = step-calls own stack m cells [] 0 here ek ea eb ec map calling e fits depth j ed ej x h.value;
        numbers = rw (listed own stack m cells held uint b ∙ numbers-of call e refl) at (call-reached after _ depth j x h.numbers);
      })

-- past the last row a return of 0 has no numbers
pub records-past : (own map stack : List ℕ) (m : Machine) (cells held before : List ℕ) → CallsFit own map stack m cells → rows_of own ≤ m.row
    → StepRecords own stack m cells held (Moves (Returns 0) 0) before before
unfolding step_choices at_end ReachedMove
records-past own map stack m cells held before calling h = record {
  works = step_past own map stack m cells [] 0 calling h;
  numbers = rw (le-ltb m.row (rows_of own) h) (sym (push-none (pushed before 0)));
}

-- 32 has no numbers
pub records-skip : (own : List ℕ) (m : Machine) (cells held before : List ℕ) (a b c : ℕ)
    → RowRecords own m cells held skip a b c (Moves Goes 0) before before
unfolding row_rule row_choices ReachedMove
records-skip own m cells held before a b c = record { works = λ stack. works-goes refl; numbers = λ stack. sym (push-none (pushed before 0)) }
