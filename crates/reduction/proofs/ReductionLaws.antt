-- What the reduction answers, and what it leaves in the lent table, by the checks that it has come through.
-- Assumes nothing.
use mathlib.Core.Path.{◌≡◌}
use mathlib.Core.Logic.{◌≢◌}
use Prim.Native.Nat.{ℕ}
use mathlib.Core.List.{List}
use lib.ListN.{length}
use borrow.Author.Tests.{eq-eqb, ne_eqb}
use Rattle.model.specs.State.MachineKind.{plain}
use Rattle.model.specs.Reduce.{reduce}
use Rattle.table.specs.Verdict.{Verdict}
use Rattle.table.specs.Verdict.Verdict.{Passes, Refused}
use Rattle.table.specs.Checks.{table_check}
use Rattle.reduction.specs.Reduction.{places_check, reduce_answer, reduce_buffer}

module _ (w ps lent : List ℕ) where
  -- the answer v with the lent table as it is in out
  abbrev Answered : Verdict → List ℕ → Type 0
  Answered v out = (v ≡ reduce_answer w ps (length lent)) × (out ≡ reduce_buffer w ps lent)

  pub by-table : (t : Verdict) {n p : ℕ} → t ≡ table_check plain w → t ≡ Refused n p → Answered t lent
  unfolding reduce_answer reduce_buffer
  by-table t e h = (rw (← e, h), rw (← e, h))

  module _ {t : Verdict} (e : t ≡ table_check plain w) (h : t ≡ Passes) where
    pub by-pair : (q : Verdict) {n p : ℕ} → q ≡ places_check ps → q ≡ Refused n p → Answered q lent
    unfolding reduce_answer reduce_buffer
    by-pair q d k = (rw (← e, h, ← d, k), rw (← e, h, ← d, k))

    module _ {q : Verdict} (d : q ≡ places_check ps) (k : q ≡ Passes) where
      pub by_size : length lent ≢ length w → Answered (Refused 14 0) lent
      unfolding reduce_answer reduce_buffer
      by_size ne = (rw (← e, h, ← d, k, ne_eqb _ _ ne), rw (← e, h, ← d, k, ne_eqb _ _ ne))

      pub reduced : length lent ≡ length w → (out : List ℕ) → out ≡ reduce w → Answered Passes out
      unfolding reduce_answer reduce_buffer
      reduced same out r = (rw (← e, h, ← d, k, eq-eqb _ _ same), rw (← e, h, ← d, k, eq-eqb _ _ same) r)
