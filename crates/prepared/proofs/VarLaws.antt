-- The variables of a copy: what each holds, and the list of them where one gets another number, or another number and base.
-- Assumes nothing.
use Prim.Native.Nat.{ℕ, ◌<◌}
use mathlib.Core.Path.{◌≡◌}
use mathlib.Core.Logic.{◌≢◌}
use mathlib.Core.List.{List}
use lib.ListN.{length, get_or, set}
use lib.Seq.{get_or-set_same, get_or-set_other}
use Rattle.lists.proofs.TabLaws.{set-tab}
use Rattle.model.specs.State.{Value}
use Rattle.model.specs.State.Value.{Uint}
use Rattle.prepared.specs.View.{by_form, vars_by}
use Rattle.prepared.specs.Own.{decls_of, own_form, own_vars}

abbrev pub value_in : List ℕ → List ℕ → List ℕ → ℕ → Value
value_in own ns bs a = by_form (own_form own a) (get_or ns a 0) (get_or bs a 0)

module _ (own ns bs : List ℕ) (a : ℕ) (v : Value) (h : a < decls_of own) where
  vars-set : (ns' bs' : List ℕ) → value_in own ns' bs' a ≡ v → ((i : ℕ) → i ≢ a → value_in own ns' bs' i ≡ value_in own ns bs i)
      → own_vars own ns' bs' ≡ set (own_vars own ns bs) a v
  unfolding vars_by
  vars-set ns' bs' there other = set-tab (Uint 0) (decls_of own) a v (value_in own ns bs) (value_in own ns' bs') h there other

  -- with its number and its base
  pub vars-value : (x y : ℕ) → a < length ns → a < length bs → by_form (own_form own a) x y ≡ v
      → own_vars own (set ns a x) (set bs a y) ≡ set (own_vars own ns bs) a v
  vars-value x y hn hb e =
      vars-set (set ns a x) (set bs a y) (rw (get_or-set_same ns a x 0 hn, get_or-set_same bs a y 0 hb) e)
      (λ i ne. rw (get_or-set_other ns a i x 0 ne, get_or-set_other bs a i y 0 ne))

  -- with its number alone
  pub vars-number : (x : ℕ) → a < length ns → by_form (own_form own a) x (get_or bs a 0) ≡ v → own_vars own (set ns a x) bs ≡ set (own_vars own ns bs) a v
  vars-number x hn e = vars-set (set ns a x) bs (rw (get_or-set_same ns a x 0 hn) e) (λ i ne. rw (get_or-set_other ns a i x 0 ne))
