-- What check 16 says of a table, by where its loops close and what they stand in, and of the loops that are open at once: proofs/IteratorProofs.
use Rattle.std.specs.Prelude.{◌≡◌, ℕ, ◌<◌, ◌≤◌, List, [], ◌∷◌}
use Rattle.model.specs.Table.{table_of, open_at}
use Rattle.model.specs.State.{MachineKind}
use Rattle.loop_checks.specs.Sharing.{Shares, FirstShares, AllDiffer, iterators_of}
use Rattle.table.specs.Verdict.Verdict.{Passes, Refused}
use Rattle.table.specs.Checks.{checked_by, table_check}

-- no table that passes has a loop that shares the iterator of one around it (rule 1.18)
abbrev pub PassingSharesNone : Type 0
PassingSharesNone = (m : MachineKind) (w : List ℕ) → table_check m w ≡ Passes → (o r : ℕ) → r < (table_of w).rows → Shares (table_of w) o r → ⊥

-- one that 16 refuses has it: the place is the line of the first such row, the inner loop's (rule 6.23)
abbrev pub SixteenAtInner : Type 0
SixteenAtInner = (m : MachineKind) (w : List ℕ) (line : ℕ) → table_check m w ≡ Refused 16 line → FirstShares (table_of w) line

-- the checks of lines that come before 16 (rule 6.2)
abbrev pub before16 : List ℕ
before16 = 5 ∷ 6 ∷ 7 ∷ 8 ∷ 9 ∷ 10 ∷ 11 ∷ 12 ∷ []

-- and back, of a table that 4 and these pass: where it has such a row it is refused with 16 (rule 6.23)
abbrev pub SharingRefused : Type 0
SharingRefused =
    (m : MachineKind) (w : List ℕ) → checked_by before16 m w ≡ Passes → (o r : ℕ) → r < (table_of w).rows → Shares (table_of w) o r
    → (line : ℕ) × (table_check m w ≡ Refused 16 line)

-- with 16 after them
abbrev pub up_to16 : List ℕ
up_to16 = 5 ∷ 6 ∷ 7 ∷ 8 ∷ 9 ∷ 10 ∷ 11 ∷ 12 ∷ 16 ∷ []

-- and where it has none it passes 16: a later loop may have the iterator again, and so may a loop of another procedure (rule 1.18)
abbrev pub ApartPasses : Type 0
ApartPasses =
    (m : MachineKind) (w : List ℕ) → checked_by before16 m w ≡ Passes → ((o r : ℕ) → r < (table_of w).rows → Shares (table_of w) o r → ⊥)
    → checked_by up_to16 m w ≡ Passes

-- in a table that passes, the loops open at any row, and past the last, have different iterators: 17 leaves none open where a procedure opens
-- (rules 1.18, 1.20)
abbrev pub OpenDiffer : Type 0
OpenDiffer = (m : MachineKind) (w : List ℕ) → table_check m w ≡ Passes → (r : ℕ) → r ≤ (table_of w).rows
    → AllDiffer (iterators_of (table_of w) (open_at (table_of w) r))
