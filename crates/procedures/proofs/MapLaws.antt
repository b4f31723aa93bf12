-- Where procedures open, by their count on the way; and the map of procedures as it stands before each row.
-- Assumes nothing.
use Prim.Native.Nat.{ℕ, zero, suc, ◌+◌, ◌-◌, ◌<◌, ◌≤◌}
use native.Mathlib.Omega.{arith}
use native.Mathlib.Nat.{sub-zero}
use native.Mathlib.Numerals.{add-one}
use native.Mathlib.Decide.{ℕ_discrete, dec_le}
use mathlib.Core.Path.{◌≡◌, refl, sym, ap, ◌∙◌, subst}
use mathlib.Core.Bool.{Bool, true, false}
use mathlib.Core.List.{List}
use lib.ListN.{length, get_or, set, length-set}
use lib.Seq.{get_or-set_same, get_or-set_other}
use borrow.Author.Tests.{lt-ltb, le-ltb}
use Rattle.std.specs.Prelude.{if◌then◌else◌}
use Rattle.lists.specs.Tab.{sum}
use Rattle.lists.specs.First.{walk}
use Rattle.lists.proofs.FirstLaws.{walk_more, walk-done}
use Rattle.model.specs.Table.{Table, is_opening, counted, home, opening}
use Rattle.model.specs.Procedures.{opened_before, most_procedures}
use Rattle.procedures.specs.Map.{Mapped, map_size}
use Rattle.procedures.specs.Code.{Cleared, noted}

module _ (t : Table) where
  -- ---- from row to row

  pub opened-none : opened_before t 0 ≡ 0
  unfolding sum
  opened-none = refl

  opened-next : (r : ℕ) → opened_before t (suc r) ≡ opened_before t r + (if is_opening t r then 1 else 0)
  unfolding sum
  opened-next r = refl

  pub opened-more : (r : ℕ) → opened_before t (r + 1) ≡ opened_before t r + (if is_opening t r then 1 else 0)
  opened-more r = rw (add-one r) (opened-next r)

  -- ---- where procedures open

  -- the scan for procedure k from row i on
  abbrev opening_from : ℕ → ℕ → ℕ
  opening_from i k = walk (λ i rest. counted (is_opening t i) i rest) (λ k. t.rows) i (t.rows - i) k

  from_row : (i k : ℕ) → i < t.rows
      → opening_from i k ≡ counted (is_opening t i) i (walk (λ i rest. counted (is_opening t i) i rest) (λ k. t.rows) (suc i) (t.rows - suc i)) k
  from_row i k l = ap (λ (f : ℕ → ℕ). f k) (rw add-one at (walk_more (λ i rest. counted (is_opening t i) i rest) (λ k. t.rows) i t.rows l))

  -- past row i the procedures opened before it are counted off
  past_row : (i k : ℕ) → i ≤ t.rows → opening t (opened_before t i + k) ≡ opening_from i k
  unfolding opening
  past_row zero k l =
      let e : 0 + k ≡ k = omega arith in
      rw (opened-none, sub-zero) (ap (λ (j : ℕ). walk (λ i rest. counted (is_opening t i) i rest) (λ k. t.rows) 0 t.rows j) e)
  past_row (suc i) k l = go (is_opening t i) refl (λ k. past_row i k (omega arith))
    where
      go : (b : Bool) → is_opening t i ≡ b → ((k : ℕ) → opening t (opened_before t i + k) ≡ opening_from i k)
          → opening t (opened_before t (suc i) + k) ≡ opening_from (suc i) k
      go true e ih =
          let c : opened_before t (suc i) + k ≡ opened_before t i + suc k = omega (arith, rw e at (opened-next i)) in
          ap (opening t) c ∙ ih (suc k) ∙ from_row i (suc k) l ∙ rw e
      go false e ih =
          let c : opened_before t (suc i) + k ≡ opened_before t i + k = omega (arith, rw e at (opened-next i)) in
          ap (opening t) c ∙ ih k ∙ from_row i k l ∙ rw e

  opening-at : (r : ℕ) → r < t.rows → is_opening t r ≡ true → opening t (opened_before t r) ≡ r
  opening-at r l e = ap (opening t) (let z : opened_before t r ≡ opened_before t r + 0 = omega arith in z) ∙ past_row r 0 (omega arith) ∙ from_row r 0 l ∙ rw e

  opening-none : (k : ℕ) → opened_before t t.rows ≤ k → opening t k ≡ t.rows
  opening-none k l =
      let n = opened_before t t.rows in
      ap (opening t) (let z : k ≡ n + (k - n) = omega arith in z) ∙ past_row t.rows (k - n) (omega arith)
      ∙ ap (λ (f : ℕ → ℕ). f (k - n)) (walk-done (λ i rest. counted (is_opening t i) i rest) (λ k. t.rows) t.rows t.rows (omega arith))

  -- ---- the map before row r: the procedures opened before it, and the rows above it

  pub record MappedBefore (map : List ℕ) (r : ℕ) : Type 0 where
    pub size : length map ≡ map_size
    pub openings : (k : ℕ) → k < most_procedures → k < opened_before t r → get_or map k 0 ≡ opening t k
    pub none : (k : ℕ) → k < most_procedures → opened_before t r ≤ k → get_or map k 0 ≡ t.rows
    pub homes : (j : ℕ) → j < r → get_or map (most_procedures + j) 0 ≡ home t j

  pub before-none : (map : List ℕ) → Cleared map t.rows → MappedBefore map 0
  before-none map c = record {
    size = c.size;
    openings = λ k l h. absurd (omega (arith, opened-none));
    none = λ k l h. c.none k l;
    homes = λ j l. absurd (omega arith);
  }

  module _ (map : List ℕ) (r : ℕ) (m : MappedBefore map r) where
    -- the word of row r
    module _ (h : ℕ) (e : h ≡ home t r) (room : r ≤ 256) where
      abbrev homed : List ℕ
      homed = set map (most_procedures + r) h

      pub homed-size : length homed ≡ map_size
      homed-size = simp length-set m.size

      homed-opening : (k : ℕ) → k < most_procedures → get_or homed k 0 ≡ get_or map k 0
      homed-opening k l = get_or-set_other map (most_procedures + r) k h 0 (λ q. omega arith)

      homed-home : (j : ℕ) → j ≤ r → get_or homed (most_procedures + j) 0 ≡ home t j
      homed-home j l = elim (ℕ_discrete j r) [
        | yes q ↦ subst (λ (j : ℕ). get_or homed (most_procedures + j) 0 ≡ home t j) (sym q)
            (get_or-set_same map (most_procedures + r) h 0 (omega (arith, m.size)) ∙ e)
        | no q ↦ get_or-set_other map (most_procedures + r) (most_procedures + j) h 0 (λ w. q (omega arith)) ∙ m.homes j (omega arith)
      ]

      -- and past the last
      pub mapped-all : r ≡ t.rows → Mapped t homed
      mapped-all q = record {
        size = homed-size;
        openings = λ k l. homed-opening k l ∙ elim (dec_le (opened_before t r) k) [
          | yes w ↦ m.none k l w ∙ sym (opening-none k (subst (λ (j : ℕ). opened_before t j ≤ k) q w))
          | no w ↦ m.openings k l (omega arith)
        ];
        homes = λ j l. homed-home j (omega arith);
      }

      -- and where it opens a procedure, the word of that
      module _ (inside : r < t.rows) (b : Bool) (is : b ≡ is_opening t r) (n : ℕ) (count : n ≡ opened_before t r) where
        after : opened_before t (r + 1) ≡ n + (if b then 1 else 0)
        after = rw (is, count) (opened-more r)

        pub before_more : MappedBefore (noted homed b n r) (r + 1)
        before_more = go b (sym is) after
          where
            go : (b : Bool) → is_opening t r ≡ b → opened_before t (r + 1) ≡ n + (if b then 1 else 0) → MappedBefore (noted homed b n r) (r + 1)
            go false w a = record {
              size = homed-size;
              openings = λ k l h. homed-opening k l ∙ m.openings k l (omega arith);
              none = λ k l h. homed-opening k l ∙ m.none k l (omega arith);
              homes = λ j l. homed-home j (omega arith);
            }
            go true w a = elim (dec_le most_procedures n) [
              | yes big ↦ rw (le-ltb n most_procedures big) (record {
                size = homed-size;
                openings = λ k l h. homed-opening k l ∙ m.openings k l (omega arith);
                none = λ k l h. absurd (omega arith);
                homes = λ j l. homed-home j (omega arith);
              })
              | no big ↦ rw (lt-ltb n most_procedures (omega arith)) (record {
                size = simp length-set m.size;
                openings = λ k l h. elim (ℕ_discrete k n) [
                  | yes q ↦ subst (λ (k : ℕ). get_or (set homed n r) k 0 ≡ opening t k) (sym q)
                      (get_or-set_same homed n r 0 (omega (arith, homed-size)) ∙ sym (ap (opening t) count ∙ opening-at r inside w))
                  | no q ↦ get_or-set_other homed n k r 0 q ∙ homed-opening k l ∙ m.openings k l (omega arith)
                ];
                none = λ k l h. get_or-set_other homed n k r 0 (λ q. omega arith) ∙ homed-opening k l ∙ m.none k l (omega arith);
                homes = λ j l. get_or-set_other homed n (most_procedures + j) r 0 (λ q. omega arith) ∙ homed-home j (omega arith);
              })
            ]
