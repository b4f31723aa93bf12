-- The code's own words: bytes put into a buffer.
use Rattle.std.specs.Prelude.{◌≡◌, ℕ, List}
use Rattle.recording.specs.CodePushes.{pushed, push_all}

-- the bytes xs were put from a place on, as far as there was room; the next byte goes to the place `next`
pub record Puts (xs before : List ℕ) (at : ℕ) (after : List ℕ) (next : ℕ) : Type 0 where
  pub put : pushed after next ≡ push_all xs (pushed before at)
