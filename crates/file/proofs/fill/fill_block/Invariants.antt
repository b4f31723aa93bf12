-- The loop has filled the words below i.
use Rattle.std.proofs.Common.{◌≡◌, take}
use Rattle.lists.specs.Tab.{tab}
use Rattle.file.specs.Reading.{table_word}
use Rattle.file.proofs.fill.fill_block.Given as goal

abbrev pub invariant-loop-i : goal.invariant-loop-i
invariant-loop-i l = take l.i l.words ≡ tab l.i (table_word l.bytes)
