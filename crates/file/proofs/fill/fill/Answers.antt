-- The words from the table's end on are filled with zeros.
use Rattle.std.proofs.Common.{◌*◌, arith, rules}
use Rattle.file.specs.Reading.{table_word}
use Rattle.file.proofs.MethodLaws.{zero-filled}
use Rattle.file.proofs.fill.fill.Goals as goal

pub returns : goal.returns
returns c =
    let a = c.args in
    zero-filled (table_word a.bytes.now) (4 * a.n) _ 5248 (omega arith) _ _ (omega arith) (search rules) c.fill_words.ensures.1
