-- The loop has filled k blocks, or all n words.
use Rattle.std.proofs.Common.{◌≡◌, ◌*◌, min, take}
use Rattle.lists.specs.Tab.{tab}
use Rattle.file.specs.Reading.{table_word}
use Rattle.file.proofs.fill.fill_words.Given as goal

abbrev pub invariant-loop-k : goal.invariant-loop-k
invariant-loop-k l =
    let filled = min l.n (124 * l.k) in take filled l.words ≡ tab filled (table_word l.bytes)
