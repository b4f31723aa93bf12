-- The range goes over the words of the block past its lines, and each is tested.
use Rattle.std.proofs.Common.{◌*◌, ◌-◌, nat_eq, ◌∙◌, refl, rules, tests}
use Rattle.std.proofs.lemmas.Iterator.{YieldsList-from_range}
use Rattle.std.proofs.lemmas.Iterator.Search.{all_from_yields_List}
use Rattle.file.specs.Reading.{word}
use Rattle.file.proofs.MethodLaws.{all-of-range}
use Rattle.file.proofs.checks.unused_zero.Goals as goal

pub returns : goal.returns
returns c =
    let a = c.args in
    all_from_yields_List (λ r. nat_eq (word a.bytes.now a.k r) 0) _ _ _ c.all.ensures.ran (YieldsList-from_range (4 * a.c) 124 (124 - 4 * a.c) refl refl)
    (λ x b q k. search (rules, tests))
    ∙ all-of-range _ (4 * a.c) (124 - 4 * a.c) _ (λ r. refl)
