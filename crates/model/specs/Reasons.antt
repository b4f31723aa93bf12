-- Which reasons a node and a row can have, in either machine (rules 2.36 to 2.38). proofs/ReasonLaws shows it.
use Rattle.std.specs.Prelude.{◌≡◌, ◌≢◌, ◌⊎◌, ℕ, List}
use Rattle.model.specs.Table.{Table, Ty, node_at, node_kind, row_at, Row, row_kind}
use Rattle.model.specs.Table.Ty.{bool, pointer}
use Rattle.model.specs.Table.Node.{valid, reduced_valid}
use Rattle.model.specs.Table.Row.{loop_end}
use Rattle.model.specs.Work.{Reason, Out}
use Rattle.model.specs.Work.Out.{gives, fails, bad_choice, no_choice, stuck}
use Rattle.model.specs.Work.Reason.{counter_too_large}
use Rattle.model.specs.State.{State}
use Rattle.model.specs.Eval.{Contents, below, eval}
use Rattle.model.specs.Step.{step}

-- what fails does so for a reason with the property
abbrev pub FailsFor : {A : Type 0} → (Reason → Type 0) → Out A → Type 0
FailsFor P (gives a cs) = Unit {0}
FailsFor P (fails why cs) = P why
FailsFor P bad_choice = Unit {0}
FailsFor P no_choice = Unit {0}
FailsFor P stuck = Unit {0}

-- 26 and 29 fail only where their operand does, and for its reason: they have none of their own (rules 2.15, 2.36, 3.16)
abbrev pub ValidFailsAsOperand : Type 0
ValidFailsAsOperand =
    (ps : List ℕ) (s : Contents) (t : Table) (n : ℕ) → (node_kind (node_at t n).kind ≡ valid) ⊎ (node_kind (node_at t n).kind ≡ reduced_valid)
    → (why : Reason) (cs left : List ℕ) → eval ps s t bool n cs ≡ fails why left → below n (eval ps s t) pointer (node_at t n).a cs ≡ fails why left

-- no node has the counter's reason (rule 2.36)
abbrev pub NodesNeverCounter : Type 0
NodesNeverCounter = (ps : List ℕ) (s : Contents) (t : Table) (w : Ty) (n : ℕ) (cs : List ℕ) → FailsFor (λ why. why ≢ counter_too_large) (eval ps s t w n cs)

-- the kind of the row at which a state stands
abbrev pub kind_here : Table → State → Row
kind_here t s = row_kind (row_at t s.here.row).kind

-- a row 39 has that reason and no other (rules 2.26, 2.36)
abbrev pub ClosingOnlyCounter : Type 0
ClosingOnlyCounter = (ps : List ℕ) (t : Table) (s : State) (cs : List ℕ) → kind_here t s ≡ loop_end → FailsFor (λ why. why ≡ counter_too_large) (step ps t s cs)

-- and no other row has it (rule 2.36)
abbrev pub OthersNeverCounter : Type 0
OthersNeverCounter = (ps : List ℕ) (t : Table) (s : State) (cs : List ℕ) → kind_here t s ≢ loop_end → FailsFor (λ why. why ≢ counter_too_large) (step ps t s cs)
