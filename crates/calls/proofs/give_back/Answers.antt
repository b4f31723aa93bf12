-- The locals are put back, then the variable of the 45 gets the number; the loops come back, and the last word says that there is one caller less.
-- Assumes nothing.
use native.Mathlib.Omega.{arith}
use Rattle.calls.proofs.VarLaws.{locals-fit}
use Rattle.calls.proofs.ReturnLaws.{back-there, receives, returned}
use Rattle.calls.proofs.give_back.Goals as goal

pub home_at-requires-2 : goal.home_at-requires-2
home_at-requires-2 c =
    omega (arith, back-there _ _ c.requires.0 _ _ c.requires.1, c.requires.0.rows)

pub put_back-requires-clause-own_bound : goal.put_back-requires-clause-own_bound
put_back-requires-clause-own_bound c =
    let back = back-there _ _ c.requires.0 _ _ c.requires.1 in (
      c.requires.0.decls,
      locals-fit _ _ c.requires.0 _ c.requires.1.row c.home_at.ensures,
      locals-fit _ _ c.requires.0 _ back c.home_at-2.ensures,
    )

pub put_back-requires-clause-c_bound : goal.put_back-requires-clause-c_bound
put_back-requires-clause-c_bound c =
    let back = back-there _ _ c.requires.0 _ _ c.requires.1 in
    omega (arith, receives _ _ c.requires.0 _ _ c.requires.1, c.requires.0.decls, c.row_word-c.ensures)

pub overflow_add-next : goal.overflow_add-next
overflow_add-next c =
    omega (arith, back-there _ _ c.requires.0 _ _ c.requires.1, c.requires.0.rows)

pub returns : goal.returns
returns c =
    let home = c.home_at.ensures in
    let target = c.home_at-2.ensures in
    returned _ _ c.requires.0 _ _ c.requires.1 _ _ home target c.put_back.ensures c.row_word-c.ensures c.take_back.ensures
