-- A choice is allowed if its class is k.
-- Assumes nothing.
use mathlib.Core.Path.{sym, ◌∙◌}
use lib.Dec.{eqb}
use borrow.Author.Tests.{eq-eqb, ne_eqb}
use Rattle.model.specs.Class.{class}
use Rattle.prepared.specs.Own.{places_of}
use Rattle.evaluators.proofs.ViewLaws.{chosen-one, chosen-bad, chosen_none}
use Rattle.evaluators.proofs.answers.choice_in.Goals as goal

pub returns-in_default : goal.returns-in_default
returns-in_default c =
    chosen_none (λ v. eqb (class (places_of c.args.own.now) v) c.args.k) _ _ c.take_choice-x.ensures c.in_default.is

pub returns-then-class_in-k : goal.returns-then-class_in-k
returns-then-class_in-k c =
    chosen-one (λ v. eqb (class (places_of c.args.own.now) v) c.args.k) _ _ c.take_choice-x.ensures c.in-Some.is
    (eq-eqb _ _ (sym c.class_in.ensures ∙ c.if-class_in-k.true))

pub returns : goal.returns
returns c =
    chosen-bad (λ v. eqb (class (places_of c.args.own.now) v) c.args.k) _ _ c.take_choice-x.ensures c.in-Some.is
    (ne_eqb _ _ (λ e. c.if-class_in-k.false (c.class_in.ensures ∙ e)))
