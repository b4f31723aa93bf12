-- Which kinds are left for an answer that is not of one kind.
-- Assumes nothing.
use Prim.Native.Nat.{ℕ}
use mathlib.Core.Path.{◌≡◌, refl}
use mathlib.Core.List.{[], ◌∷◌}
use mathlib.Core.Bool.{Bool}
use types.Run.{OneOf, hit}
use denote.Enum.Declared.{tag_of}
use Rattle.machine.specs.declared.Failure.{Failure}
use Rattle.evaluators.specs.declared.answers.Answer.{Answer}
use Rattle.evaluators.specs.declared.answers.Answer.TheVariants.{Bool as ABool, Uint as AUint, Pointer as APointer, Not}
use Rattle.evaluators.specs.contracts.answers.Answer.{the_type as answer}

pub answer-no-bool : (x : Answer) → ((b : Bool) (at : ℕ) → x ≡ ABool b at → ⊥) → OneOf (1 ∷ 2 ∷ 3 ∷ []) (tag_of answer x)
answer-no-bool (ABool b at) h = absurd (h b at refl)
answer-no-bool (AUint v at) h = hit (1 ∷ 2 ∷ 3 ∷ []) 1 tt
answer-no-bool (APointer r p at) h = hit (1 ∷ 2 ∷ 3 ∷ []) 2 tt
answer-no-bool (Not f at) h = hit (1 ∷ 2 ∷ 3 ∷ []) 3 tt

pub answer-no-uint : (x : Answer) → ((v at : ℕ) → x ≡ AUint v at → ⊥) → OneOf (0 ∷ 2 ∷ 3 ∷ []) (tag_of answer x)
answer-no-uint (ABool b at) h = hit (0 ∷ 2 ∷ 3 ∷ []) 0 tt
answer-no-uint (AUint v at) h = absurd (h v at refl)
answer-no-uint (APointer r p at) h = hit (0 ∷ 2 ∷ 3 ∷ []) 2 tt
answer-no-uint (Not f at) h = hit (0 ∷ 2 ∷ 3 ∷ []) 3 tt

pub answer-no-pointer : (x : Answer) → ((r p at : ℕ) → x ≡ APointer r p at → ⊥) → OneOf (0 ∷ 1 ∷ 3 ∷ []) (tag_of answer x)
answer-no-pointer (ABool b at) h = hit (0 ∷ 1 ∷ 3 ∷ []) 0 tt
answer-no-pointer (AUint v at) h = hit (0 ∷ 1 ∷ 3 ∷ []) 1 tt
answer-no-pointer (APointer r p at) h = absurd (h r p at refl)
answer-no-pointer (Not f at) h = hit (0 ∷ 1 ∷ 3 ∷ []) 3 tt

pub answer-no-failure : (x : Answer) → ((f : Failure) (at : ℕ) → x ≡ Not f at → ⊥) → OneOf (0 ∷ 1 ∷ 2 ∷ []) (tag_of answer x)
answer-no-failure (ABool b at) h = hit (0 ∷ 1 ∷ 2 ∷ []) 0 tt
answer-no-failure (AUint v at) h = hit (0 ∷ 1 ∷ 2 ∷ []) 1 tt
answer-no-failure (APointer r p at) h = hit (0 ∷ 1 ∷ 2 ∷ []) 2 tt
answer-no-failure (Not f at) h = absurd (h f at refl)
