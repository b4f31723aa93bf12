-- A return, by what its parts do to the words (rule 2.42).
-- Assumes nothing.
use Prim.Native.Nat.{ℕ, zero, suc, ◌+◌, ◌-◌, ◌*◌, ◌<◌, ◌≤◌}
use native.Mathlib.Omega.{arith}
use native.Mathlib.Numerals.{add-one}
use mathlib.Core.Path.{◌≡◌, refl, sym, ap, ◌∙◌}
use mathlib.Core.List.{List, [], ◌∷◌}
use lib.ListN.{length, get_or, set}
use lib.Seq.{get_or-set_same, get_or-set_other}
use Rattle.lists.proofs.TabLaws.{at-tab}
use Rattle.model.specs.Table.{locals_at}
use Rattle.model.specs.State.{Value}
use Rattle.model.specs.State.Value.{Uint}
use Rattle.model.specs.Step.{handed_over}
use Rattle.prepared.specs.declared.Form.TheVariants.{Uint as FUint}
use Rattle.prepared.specs.Own.{decls_of, rows_of, own_table, own_form, own_vars}
use Rattle.prepared.proofs.VarLaws.{vars-number}
use Rattle.calls.specs.Stack.{depth_of, part, caller_at, last_at, callers_of}
use Rattle.calls.specs.CallAndReturn.{LocalsWithin, Procedures, last_of, CanReturn, Returned}
use Rattle.calls.specs.Code.{locals_in, handed, PutBack, TakenBack}
use Rattle.calls.proofs.VarLaws.{locals-at, locals-fit, length-handed, vars-handed}
use Rattle.calls.proofs.StackLaws.{local-word, callers-split}

module _ (own map : List ℕ) (P : Procedures own map) (stack : List ℕ) (here : ℕ) (C : CanReturn own stack here) where
  -- where the caller's words stand, its row, and the variable of its 45
  abbrev at : ℕ
  at = last_at stack

  abbrev back : ℕ
  back = get_or stack at 0

  abbrev into : ℕ
  into = get_or own (4 * (34 + 1024 + back) + 3) 0

  pub back-there : back ≤ rows_of own
  unfolding caller_at
  back-there = C.caller

  pub receives : into < decls_of own
  unfolding caller_at
  receives = C.receives

  uint : own_form own into ≡ FUint
  unfolding caller_at
  uint = C.uint

  -- the locals that come back
  abbrev words : List ℕ
  words = get_or stack (at + 2) 0 ∷ get_or stack (at + 3) 0 ∷ get_or stack (at + 4) 0 ∷ get_or stack (at + 5) 0 ∷ []

  at_words : (i : ℕ) → i < 4 → get_or words i 0 ≡ get_or stack (at + 2 + i) 0
  at_words zero h = ap (λ (j : ℕ). get_or stack j 0) (omega arith)
  at_words (suc zero) h = ap (λ (j : ℕ). get_or stack j 0) (omega arith)
  at_words (suc (suc zero)) h = ap (λ (j : ℕ). get_or stack j 0) (omega arith)
  at_words (suc (suc (suc zero))) h = ap (λ (j : ℕ). get_or stack j 0) (omega arith)
  at_words (suc (suc (suc (suc i)))) h = absurd (omega arith)

  at_local : (i : ℕ) → i < (locals_at (own_table own) back).count → (locals_at (own_table own) back).count ≤ 4
      → get_or words i 0 ≡ get_or (last_of own stack).locals i 0
  unfolding caller_at
  at_local i h few =
      at_words i (omega arith)
      ∙ sym (at-tab (locals_at (own_table own) back).count (λ j. get_or (part stack (at + 2) 4) (0 + j) 0) 0 i h ∙ local-word stack (at + 2) i (omega arith))

  -- the callers that stay
  callers-back : length stack ≡ 241 → callers_of (own_table own) stack ≡ last_of own stack ∷ callers_of (own_table own) (set stack 240 (depth_of stack - 1))
  callers-back long =
      callers-split (own_table own) stack (set stack 240 (depth_of stack - 1)) (depth_of stack - 1) (omega (arith, C.some))
      (get_or-set_same stack 240 (depth_of stack - 1) 0 (omega arith))
      (λ i h. sym (get_or-set_other stack 240 i (depth_of stack - 1) 0 (λ e. omega (arith, C.few))))

  -- ---- the whole of it
  module _ (ns : List ℕ) (x : ℕ) {from upon c : ℕ} {ns' : List ℕ} (home : from ≡ get_or map (16 + here) 0)
      (target : upon ≡ get_or map (16 + back) 0) (moved : PutBack own ns from upon words c x ns') (variable : c ≡ into) where
    same-held : locals_in own from ≡ locals_at (own_table own) here
    same-held = locals-at own map P here C.row home

    same-given : locals_in own upon ≡ locals_at (own_table own) back
    same-given = locals-at own map P back back-there target

    left : LocalsWithin own (locals_in own from)
    left = locals-fit own map P here C.row home

    next : LocalsWithin own (locals_in own upon)
    next = locals-fit own map P back back-there target

    vars : (bases : List ℕ)
        → own_vars own ns' bases
        ≡ set (handed_over (own_vars own ns bases) (locals_at (own_table own) here) (locals_at (own_table own) back)
        (λ i. get_or (last_of own stack).locals i 0)) into (Uint x)
    vars bases =
        let size = length-handed own P.decls from upon left next ns moved.size words refl in
        rw (moved.then, moved.before, variable, ← same-held, ← same-given)
        (vars-number own (handed own ns from upon words) bases into (Uint x) receives x (omega (arith, size, receives, P.decls)) (rw uint)
        ∙ ap (λ (vs : List Value). set vs into (Uint x))
        (vars-handed own P.decls from upon left next ns moved.size words refl bases (λ i. get_or (last_of own stack).locals i 0)
        (λ i h. at_local i (rw same-given at h) (rw same-given at next.few))))

    pub returned : {rows starts ends : List ℕ} → TakenBack stack at rows starts ends
        → Returned own ns stack here x (record { row = back + 1; «open» = get_or stack (at + 1) 0 }) ns' rows starts ends
        (set stack 240 (depth_of stack - 1))
    unfolding caller_at
    returned T = record {
      row = add-one back;
      loops = rw (T.same_rows, T.same_starts, T.same_ends);
      vars = vars;
      callers = callers-back T.size;
    }
