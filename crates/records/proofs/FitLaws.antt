-- The conditions of check 15 together, in the definition's order, as the code tests them one after another.
-- Assumes nothing.
use Prim.Native.Nat.{ℕ, ◌≤◌}
use mathlib.Core.Path.{◌≡◌, refl, sym, ◌∙◌}
use mathlib.Core.Bool.{Bool, true, false, ◌&&◌, false≢true}
use mathlib.Core.List.{List}
use lib.ListN.{length}
use lib.Dec.{leb}
use borrow.Author.Tests.{leb-true}
use Rattle.lists.proofs.BoolLaws.{and_left}
use Rattle.model.specs.Table.{Table, home}
use Rattle.model.specs.State.{MachineKind, State, most_callers}
use Rattle.records.specs.Record.{arrays_fit, callers_right, locals_idle, record_fits, row_within, stands_right, variables_fit}

-- at most eight callers, all of them right, where what is at work has the first row q
abbrev pub callers_fit : Table → State → ℕ → Bool
callers_fit t s q = leb (length s.callers) most_callers && callers_right t q s.callers

-- ---- a chain of tests, each made only where those before it hold
pub and_then : {a b r : Bool} → a ≡ true → r ≡ b → r ≡ (a && b)
and_then e h = rw e h

pub and-else : {a r : Bool} (b : Bool) → a ≡ false → r ≡ false → r ≡ (a && b)
and-else b e h = rw e h

chain-last : (a b c d : Bool) → ((a && b) && c) ≡ true → d ≡ (a && (b && (c && d)))
chain-last true true true d e = refl
chain-last true true false d e = absurd (false≢true e)
chain-last true false c d e = absurd (false≢true e)
chain-last false b c d e = absurd (false≢true e)

chain-off : (a b c d : Bool) → ((a && b) && c) ≡ false → false ≡ (a && (b && (c && d)))
chain-off true true true d e = absurd (false≢true (sym e))
chain-off true true false d e = refl
chain-off true false c d e = refl
chain-off false b c d e = refl

module _ (k : MachineKind) (ps : List ℕ) (t : Table) (s : State) where
  abbrev fits : Bool
  fits = record_fits k ps t s

  abbrev callers_now : Bool
  callers_now = callers_fit t s (home t s.here.row)

  fits_by : fits ≡ (stands_right t s.here && (callers_now && (variables_fit k ps t s && (locals_idle t s && arrays_fit k ps s))))
  unfolding record_fits
  fits_by = go (stands_right t s.here) (leb (length s.callers) most_callers) (callers_right t (home t s.here.row) s.callers) _
    where
      go : (a b c d : Bool) → (a && (b && (c && d))) ≡ (a && ((b && c) && d))
      go true true true d = refl
      go true true false d = refl
      go true false c d = refl
      go false b c d = refl

  module _ {a : Bool} (p : a ≡ stands_right t s.here) where
    pub fits-here : a ≡ false → false ≡ fits
    fits-here e = sym (fits_by ∙ rw (← p, e))

    pub here-row : a ≡ true → s.here.row ≤ t.rows
    here-row e = leb-true s.here.row t.rows (and_left (row_within t s.here) _ (sym p ∙ e))

    -- v is what the tests before the last came to
    module _ (e : a ≡ true) {v : Bool} (h : v ≡ ((callers_now && variables_fit k ps t s) && locals_idle t s)) where
      fits-now : fits ≡ (callers_now && (variables_fit k ps t s && (locals_idle t s && arrays_fit k ps s)))
      fits-now = fits_by ∙ rw (← p, e)

      pub fits-arrays : v ≡ true → {x : Bool} → x ≡ arrays_fit k ps s → x ≡ fits
      fits-arrays i g =
          g ∙ chain-last callers_now (variables_fit k ps t s) (locals_idle t s) (arrays_fit k ps s) (sym h ∙ i) ∙ sym fits-now

      pub fits-off : v ≡ false → v ≡ fits
      fits-off i =
          i ∙ chain-off callers_now (variables_fit k ps t s) (locals_idle t s) (arrays_fit k ps s) (sym h ∙ i) ∙ sym fits-now
