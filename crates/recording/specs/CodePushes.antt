-- A lent buffer with a place in it, onto which numbers or bytes are pushed in order.
use Rattle.std.specs.Prelude.{ℕ, ◌+◌, List, [], ◌∷◌, length, set, ltb}
use Rattle.std.specs.Prelude.{if◌then◌else◌}

-- the buffer, and the place of the next one
pub record Pushed (A : Type 0) : Type 0 where
  pub buffer : List A
  pub at : ℕ

abbrev pub pushed : {A : Type 0} → List A → ℕ → Pushed A
pushed b i = record { buffer = b; at = i }

-- one more: the others stay, and past the end nothing is written
unfoldable pub push : {A : Type 0} → A → Pushed A → Pushed A
push v p = if ltb p.at (length p.buffer) then pushed (set p.buffer p.at v) (p.at + 1) else p

-- one after another, from the left
unfoldable pub push_all : {A : Type 0} → List A → Pushed A → Pushed A
push_all [] p = p
push_all (x ∷ xs) p = push_all xs (push x p)
