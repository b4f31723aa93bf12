-- The loop has written k blocks; the bytes after the last are filled with zeros.
use Rattle.std.proofs.Common.{◌≡◌, ◌*◌, arith, rules}
use Rattle.lists.proofs.TabLaws.{tab-none}
use Rattle.file.specs.Layout.{blocks_for, lines_in, file_byte, file_bytes}
use Rattle.file.proofs.LayoutLaws.{length-file}
use Rattle.file.proofs.MethodLaws.{zero-filled}
use Rattle.file.proofs.write_blocks.Goals as goal

pub loop-k-init : goal.loop-k-init
loop-k-init c = (c.requires.1, search tab-none)

pub returns : goal.returns
unfolding file_bytes
returns c =
    let head = c.loop-k in
    let ws = c.args.ws.now in
    let n = c.div_ceil-n.result in
    let blocks : n ≡ blocks_for (lines_in ws) = omega arith in
    let end : head.k ≡ n = omega arith in
    let written = rw end at head.invariant.1 in
    (rw (length-file ws, blocks), rw (← blocks) (zero-filled (file_byte ws) (512 * n) _ 22016 (omega arith) _ _ head.invariant.0 (search rules) written))
