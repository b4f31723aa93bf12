-- Laws of refusals: a check refuses with a number of its own list, and one check after another with one of both lists.
-- Assumes nothing.
use mathlib.Core.Path.{◌≡◌, refl, ◌∙◌}
use mathlib.Core.Logic.{inl, inr}
use Prim.Native.Nat.{ℕ, ◌/◌, ◌%◌, ◌<◌}
use native.Mathlib.Omega.{arith}
use mathlib.Core.Bool.{Bool, true, false}
use mathlib.Core.List.{List, [], ◌∷◌, ◌++◌, map}
use lib.ListN.{length}
use lib.Dec.{ltb, eqb}
use borrow.Author.Tests.{lt-ltb}
use Rattle.std.specs.Prelude.{if◌then◌else◌}
use Rattle.lists.specs.First.{first}
use Rattle.std.specs.Prelude.{Option}
use Rattle.std.specs.Prelude.{Some, None}
use Rattle.lists.proofs.FirstLaws.{first_below}
use Rattle.table.specs.Verdict.{Verdict}
use Rattle.table.specs.Verdict.Verdict.{Passes, Refused}
use Rattle.table.specs.Checks.{breaks, order, refused_at_line, first_refusal, table_check, and_then, size_check}
use Rattle.reduction.specs.Reduction.{places_check}
use Rattle.model.specs.Class.{accepted_places, pair}
use Rattle.model.proofs.PairLaws.{pair-accepted}
use Rattle.model.specs.Table.{Table, table_of}
use Rattle.model.specs.State.{MachineKind, State}
use Rattle.records.specs.Record.{record_fits}
use Rattle.runs.specs.Checks.{record_check}
use Rattle.demands.specs.Refusals.{Place, Number, counted, places_of, table_numbers, pair_numbers, buffer_numbers, record_numbers, OneOf}
use Rattle.demands.specs.Refusals.Place.{at_start, at_block, at_line}
use Rattle.demands.specs.Demand1.{lines_of, Checked}

-- ---- one of a longer list
module _ (blocks lines number place : ℕ) where
  pub of-first : (ns ms : List Number) → OneOf ns blocks lines number place → OneOf (ns ++ ms) blocks lines number place
  of-first [] ms h = absurd h
  of-first (n ∷ ns) ms (inl h) = inl h
  of-first (n ∷ ns) ms (inr h) = inr (of-first ns ms h)

  pub of-second : (ns ms : List Number) → OneOf ms blocks lines number place → OneOf (ns ++ ms) blocks lines number place
  of-second [] ms h = h
  of-second (n ∷ ns) ms h = inr (of-second ns ms h)

-- ... and of a file with more blocks
pub more-blocks : (blocks lines number place : ℕ) (ns : List Number) → OneOf ns 0 lines number place → OneOf ns blocks lines number place
more-blocks blocks lines number place [] h = h
more-blocks blocks lines number place (n ∷ ns) (inl h) = inl (h.0, wider n.place h.1)
  where
    wider : (p : Place) → place < places_of 0 lines p → place < places_of blocks lines p
    wider at_start l = omega (arith, l)
    wider at_block l = omega (arith, l)
    wider at_line l = omega (arith, l)
more-blocks blocks lines number place (n ∷ ns) (inr h) = inr (more-blocks blocks lines number place ns h)

-- ---- one check after another
pub then-again : (u v w : Verdict) → and_then (and_then u v) w ≡ and_then u (and_then v w)
then-again Passes v w = refl
then-again (Refused number place) v w = refl

pub checked-then : (ns ms : List Number) (n : ℕ) (v w : Verdict) → Checked ns n v → Checked ms n w → Checked (ns ++ ms) n (and_then v w)
checked-then ns ms n Passes Passes h g = tt
checked-then ns ms n Passes (Refused k p) h g = of-second 0 n k p ns ms g
checked-then ns ms n (Refused k p) w h g = of-first 0 n k p ns ms h

checked-more : (x : Number) (ns : List Number) (n : ℕ) (v : Verdict) → Checked ns n v → Checked (x ∷ ns) n v
checked-more x ns n Passes h = tt
checked-more x ns n (Refused k p) h = inr h

-- ---- each check by itself
-- those of lines, by the order in which they stand in a list
lines-checked : (f : ℕ → Option ℕ) (n : ℕ) → ((k i : ℕ) → f k ≡ Some i → i < n) → (ks : List ℕ) → Checked (map (counted at_line) ks) n (first_refusal f ks)
unfolding first_refusal
lines-checked f n within [] = tt
lines-checked f n within (k ∷ ks) = go (f k) refl (lines-checked f n within ks)
  where
    go : (r : Option ℕ) → f k ≡ r → Checked (map (counted at_line) ks) n (first_refusal f ks)
        → Checked (map (counted at_line) (k ∷ ks)) n (refused_at_line r k (first_refusal f ks))
    go (Some i) e h = inl (refl, within k i e)
    go None e h = checked-more (counted at_line k) (map (counted at_line) ks) n (first_refusal f ks) h

pub table-checked : (m : MachineKind) (w : List ℕ) → Checked table_numbers (lines_of w) (table_check m w)
unfolding table_check
table-checked m w = go (eqb (length w % 4) 0)
  where
    found : ℕ → Option ℕ
    found k = first (breaks k m (table_of w)) 0 (length w / 4)

    go : (b : Bool) → Checked table_numbers (length w / 4) (if b then first_refusal found order else Refused 4 0)
    go true =
        checked-more (counted at_start 4) (map (counted at_line) order) (length w / 4) (first_refusal found order)
        (lines-checked found (length w / 4) (λ k i e. let h = first_below (length w / 4) (breaks k m (table_of w)) 0 i e in omega arith) order)
    go false = inl (refl, omega arith)

pub places-checked : (ps : List ℕ) (n : ℕ) → Checked pair_numbers n (places_check ps)
places-checked ps n = go (accepted_places ps)
  where
    go : (b : Bool) → Checked pair_numbers n (if b then Passes else Refused 13 0)
    go true = tt
    go false = inl (refl, omega arith)

pub size-checked : (size stated n : ℕ) → Checked buffer_numbers n (size_check size stated)
size-checked size stated n = go (eqb size stated)
  where
    go : (b : Bool) → Checked buffer_numbers n (if b then Passes else Refused 14 0)
    go true = tt
    go false = inl (refl, omega arith)

pub record-checked : (m : MachineKind) (ps : List ℕ) (t : Table) (s : State) (n : ℕ) → Checked record_numbers n (record_check m ps t s)
record-checked m ps t s n = go (record_fits m ps t s)
  where
    go : (b : Bool) → Checked record_numbers n (if b then Passes else Refused 15 0)
    go true = tt
    go false = inl (refl, omega arith)

-- ---- the check of a pair is that the first place is below the second
pub pair-checked : (c1 c2 : ℕ) → places_check (pair c1 c2) ≡ (if ltb c1 c2 then Passes else Refused 13 0)
pair-checked c1 c2 = rw (pair-accepted c1 c2)

pub pair-passes : (c1 c2 : ℕ) → c1 < c2 → places_check (pair c1 c2) ≡ Passes
pair-passes c1 c2 h = pair-checked c1 c2 ∙ rw (lt-ltb c1 c2 h)
