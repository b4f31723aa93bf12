-- A call, by what its parts do to the words (rule 2.40).
-- Assumes nothing.
use Prim.Native.Nat.{ℕ, suc, ◌+◌, ◌*◌, ◌≤◌}
use native.Mathlib.Omega.{arith}
use native.Mathlib.Numerals.{add-one}
use mathlib.Core.Path.{◌≡◌, refl, ap, ◌∙◌}
use mathlib.Core.List.{List, [], ◌∷◌}
use lib.ListN.{get_or, set}
use Rattle.model.specs.Table.{Stretch, opening, locals_at}
use Rattle.model.specs.State.{position, caller}
use Rattle.model.specs.Step.{numbers_in, handed_over, argument}
use Rattle.prepared.specs.Own.{rows_of, own_table, own_vars}
use Rattle.calls.specs.Stack.{loops_of, depth_of, callers_of}
use Rattle.calls.specs.CallAndReturn.{LocalsWithin, Procedures, CanCall, Called}
use Rattle.calls.specs.Code.{locals_in, handed, Sizes, aside}
use Rattle.calls.proofs.VarLaws.{locals-at, locals-fit, numbers-in, vars-handed, at-argument}
use Rattle.calls.proofs.StackLaws.{callers-aside}

module _ (own map : List ℕ) (P : Procedures own map) (stack : List ℕ) (here k : ℕ) (C : CanCall own stack here k) where
  -- the row where the procedure starts
  next-is : get_or map k 0 + 1 ≡ suc (opening (own_table own) k)
  next-is = add-one (get_or map k 0) ∙ ap suc (P.mapped.openings k C.number)

  pub next-there : get_or map k 0 + 1 ≤ rows_of own
  next-there = omega (arith, next-is, C.there)

  module _ (n : ℕ) (ns rows starts ends : List ℕ) (x : ℕ) (S : Sizes stack ns rows starts ends) where
    -- the locals of the caller and of the procedure
    abbrev held : Stretch
    held = locals_at (own_table own) here

    abbrev given : Stretch
    given = locals_at (own_table own) (suc (opening (own_table own) k))

    fit : LocalsWithin own held
    fit = P.locals here C.row

    -- the caller before the others
    callers : (bases : List ℕ) {put : List ℕ}
        → put ≡ aside stack (30 * depth_of stack) here n ns held.first held.count rows starts ends
        → callers_of (own_table own) (set put 240 (depth_of stack + 1))
        ≡ caller (position here (loops_of n rows starts ends)) (numbers_in (own_vars own ns bases) held) ∷ callers_of (own_table own) stack
    callers bases e =
        rw (e, numbers-in own P.decls held fit ns S.of_numbers bases)
        (callers-aside stack (30 * depth_of stack) here n ns held.first held.count rows starts ends S (omega (arith, C.few))
        (omega (arith, fit.there, P.decls)) fit.few (own_table own) refl refl)

    -- ---- the whole of it
    module _ {from upon first count : ℕ} (home : from ≡ get_or map (16 + here) 0) (target : upon ≡ get_or map (16 + (get_or map k 0 + 1)) 0)
        (first_is : first ≡ (locals_in own from).first) (count_is : count ≡ (locals_in own from).count) where
      same-held : locals_in own from ≡ held
      same-held = locals-at own map P here C.row home

      same-given : locals_in own upon ≡ given
      same-given = locals-at own map P (get_or map k 0 + 1) next-there target ∙ ap (locals_at (own_table own)) next-is

      vars : (bases : List ℕ) {ns' : List ℕ} → ns' ≡ handed own ns from upon (x ∷ 0 ∷ 0 ∷ 0 ∷ [])
          → own_vars own ns' bases ≡ handed_over (own_vars own ns bases) held given (argument x)
      vars bases e =
          let next = locals-fit own map P (get_or map k 0 + 1) next-there target in
          rw (e, ← same-held, ← same-given)
          (vars-handed own P.decls from upon (locals-fit own map P here C.row home) next ns S.of_numbers (x ∷ 0 ∷ 0 ∷ 0 ∷ []) refl bases (argument x)
          (λ i h. at-argument x i (omega (arith, next.few))))

      pub called : {ns' put : List ℕ} → put ≡ aside stack (30 * depth_of stack) here n ns first count rows starts ends
          → ns' ≡ handed own ns from upon (x ∷ 0 ∷ 0 ∷ 0 ∷ [])
          → Called own ns stack here n rows starts ends k x (get_or map k 0 + 1) ns' (set put 240 (depth_of stack + 1))
      called e f = record {
        next = next-is;
        vars = λ bases. vars bases f;
        callers = λ bases. callers bases (e ∙ rw (first_is, count_is, same-held));
      }
