-- `asks::is_typed` meets its contract: the case of the kind, by numbers and by the types whose numbers they are.
-- Assumes nothing.
use mathlib.Core.Path.{sym}
use Rattle.kinds.specs.Code.{typing}
use Rattle.kinds.proofs.TypeNumbers.{declaration-untyped, typed-known}
use Rattle.kinds.proofs.asks.is_typed.Goals as goal

pub returns-in-Declaration-clause-numbers : goal.returns-in-Declaration-clause-numbers
returns-in-Declaration-clause-numbers c = let a = c.args in declaration-untyped a.kind a.v a.u a.a a.b a.c c.in-Declaration.ensures.0

pub returns-in-Declaration-clause-types : goal.returns-in-Declaration-clause-types
returns-in-Declaration-clause-types c tv tu ta tb tc =
    let a = c.args in
    typed-known a.kind tv tu ta tb tc (declaration-untyped a.kind a.v a.u a.a a.b a.c c.in-Declaration.ensures.0)

pub returns-in-Node-clause-numbers : goal.returns-in-Node-clause-numbers
unfolding typing
returns-in-Node-clause-numbers c = let a = c.args in rw (c.in-Node.ensures.1, sym c.in-Node.ensures.2) (c.node_fits.ensures a.v a.u)

pub returns-in-Node-clause-types : goal.returns-in-Node-clause-types
returns-in-Node-clause-types c tv tu ta tb tc = typed-known c.args.kind tv tu ta tb tc (returns-in-Node-clause-numbers c)

pub returns-in-Row-clause-numbers : goal.returns-in-Row-clause-numbers
unfolding typing
returns-in-Row-clause-numbers c = rw (c.in-Row.ensures.1, sym c.in-Row.ensures.2) c.row_fits.ensures

pub returns-in-Row-clause-types : goal.returns-in-Row-clause-types
returns-in-Row-clause-types c tv tu ta tb tc = typed-known c.args.kind tv tu ta tb tc (returns-in-Row-clause-numbers c)
