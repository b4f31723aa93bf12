-- `iterators::first_shared` meets its contract: what is sought from line 0 on is what is sought from a row on, with the rows of the open loops kept.
-- Assumes nothing.
use borrow.Author.Rules.{rules}
use Prim.Native.Nat.{ℕ, ◌+◌, ◌<◌}
use native.Mathlib.Omega.{arith}
use mathlib.Core.Path.{◌≡◌, refl, sym, ap, ◌∙◌}
use lib.ListN.{set, length-set}
use Rattle.model.specs.Table.{home, is_opening, open_at, opens_procedure, row_kind, nest_of}
use Rattle.model.specs.Table.Nest.{opens}
use Rattle.kinds.specs.Kinds.{nest_said}
use Rattle.kinds.specs.Code.{table_in}
use Rattle.kinds.proofs.LineLaws.{home-more, home-none, row-hit, row-miss, row-none, rows_start}
use Rattle.loop_checks.specs.Rules.{breaks16}
use Rattle.loop_checks.specs.Code.{kept_rows}
use Rattle.loop_checks.proofs.IteratorLaws.{any-slice, few-after, few-kept, kept-opening, kept-other, said-opens, shares-by, shares-none}
use Rattle.loop_checks.proofs.iterators.first_shared.Invariants.{shared}
use Rattle.loop_checks.proofs.iterators.first_shared.Goals as goal
use Rattle.loop_checks.proofs.iterators.first_shared.Goals.{in-Opens+else-opened_with, in_default}

pub loop-row-init : goal.loop-row-init
unfolding open_at kept_rows
loop-row-init c =
    let t = table_in c.args.lines in
    (search rules, refl, refl, rows_start (shared t) t c.requires.0, search rules, sym (home-none t))

pub returns-then-opened_with : goal.returns-then-opened_with
unfolding breaks16
returns-then-opened_with c =
    let t = table_in c.args.lines in
    let at_head = c.loop-row in
    let inside = c.loop-row-test.true in
    let nested = c.nest_of-nest in
    let nests = nested.ensures ∙ ap (λ k. nest_of (row_kind k)) c.kind_of_row-kind.ensures in
    let opening = ap nest_said c.in-Opens.is in
    let found = any-slice _ at_head.opened at_head.count c.opened_with.ensures (omega arith) (omega arith) in
    let shares = shares-by t at_head.row (nest_said nested.result) nests at_head.opened at_head.count at_head.invariant.2
    (home t at_head.row) opening in
    sym (at_head.invariant.3 ∙ row-hit (shared t) t c.requires.0 at_head.row inside
    (shares ∙ rw (sym at_head.invariant.5, sym c.iterator_of-iterator.ensures) (sym found ∙ c.if-opened_with.true)))

pub bounds-opened-count : goal.bounds-opened-count
bounds-opened-count c =
    let t = table_in c.args.lines in
    let at_head = c.loop-row in
    let inside = c.loop-row-test.true in
    let nested = c.nest_of-nest in
    let nests = nested.ensures ∙ ap (λ k. nest_of (row_kind k)) c.kind_of_row-kind.ensures in
    let opening = ap nest_said c.in-Opens.is in
    few-kept t at_head.row (nest_said nested.result) nests at_head.opened at_head.count at_head.invariant.2
    (c.requires.1.rows at_head.row inside) opening

pub loop-row-preserved : goal.loop-row-preserved
loop-row-preserved c =
    let counted = c.open_after-count in
    let t = table_in c.args.lines in
    let at_head = c.loop-row in
    let inside = c.loop-row-test.true in
    let nested = c.nest_of-nest in
    let nests = nested.ensures ∙ ap (λ k. nest_of (row_kind k)) c.kind_of_row-kind.ensures in
    let opened_here : c.opens_procedure.result ≡ is_opening t at_head.row =
    c.opens_procedure.ensures ∙ ap (λ (k : ℕ). opens_procedure (row_kind k)) (omega (arith, c.kind_of_row-kind.ensures)) in
    let next : c.home_after-since.result ≡ home t (at_head.row + 1) =
    rw (c.home_after-since.ensures.0, opened_here, at_head.invariant.5) (sym (home-more t at_head.row)) in
    let r = at_head.row in
    let b = at_head.opened in
    let n = at_head.count in
    let kept = at_head.invariant.2 in
    elim c.match-nest.branch [
      | in-Opens+else-opened_with w ↦
          let opening = ap nest_said w.in-Opens.is in
          let few : n < 8 = few-kept t r (nest_said nested.result) nests b n kept (c.requires.1.rows r inside) opening in
          let is : c.match-nest.opened ≡ set b n r = w.opened-is in
          let found = any-slice _ b n w.opened_with.ensures (omega arith) (omega arith) in
          let shares = shares-by t r (nest_said nested.result) nests b n kept (home t r) opening in (
            omega (arith, counted.ensures.1),
            rw (is, length-set b n r) at_head.invariant.1,
            rw (is, counted.ensures.0) (kept-opening t r (nest_said nested.result) nests b n kept opening (omega (arith, at_head.invariant.1))),
            at_head.invariant.3
                ∙ row-miss (shared t) t c.requires.0 r inside
                (shares ∙ rw (sym at_head.invariant.5, sym w.iterator_of-iterator.ensures) (sym found ∙ w.if-opened_with.false)),
            search rules,
            next,
          )
      | in_default w ↦
          let other : nest_said nested.result ≡ opens → ⊥ = λ e. w.in_default.not-Opens (said-opens nested.result e) in
          let is : c.match-nest.opened ≡ b = w.opened-is in (
            few-after (nest_said nested.result) n 8 other counted.ensures.0 at_head.invariant.0,
            rw is at_head.invariant.1,
            rw (is, counted.ensures.0) (kept-other t r (nest_said nested.result) nests b n kept other),
            at_head.invariant.3
                ∙ row-miss (shared t) t c.requires.0 r inside (shares-none t r (nest_said nested.result) nests b n kept (home t r) other),
            search rules,
            next,
          )
    ]

pub returns : goal.returns
unfolding breaks16
returns c =
    let t = table_in c.args.lines in
    let at_head = c.loop-row in
    sym (at_head.invariant.3 ∙ row-none (shared t) t c.requires.0 at_head.row c.loop-row-test.false)
