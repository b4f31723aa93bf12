-- A choice that every number passes.
-- Assumes nothing.
use mathlib.Core.Path.{refl}
use mathlib.Core.Bool.{true}
use Rattle.evaluators.proofs.ViewLaws.{chosen-one, chosen_none}
use Rattle.evaluators.proofs.answers.any_choice.Goals as goal

pub returns-in_default : goal.returns-in_default
returns-in_default c = chosen_none (λ v. true) _ _ c.take_choice-x.ensures c.in_default.is

pub returns : goal.returns
returns c = chosen-one (λ v. true) _ _ c.take_choice-x.ensures c.in-Some.is refl
