-- What is proved of a run's own copy of a table: its procedures, a step of it, and the choices that a plain step hands over, are the table's.
-- proofs/SameLaws shows it.
use Rattle.std.specs.Prelude.{◌≡◌, ℕ, ◌<◌, Bool, List}
use Rattle.model.specs.Table.{marked_pointer, row_at, home, locals_at, opening}
use Rattle.model.specs.State.{MachineKind, State}
use Rattle.model.specs.Step.{step}
use Rattle.model.specs.Writer.{step_choices}
use Rattle.model.specs.Accepted.{Accepted}
use Rattle.kinds.specs.Code.{InSorts}
use Rattle.prepared.specs.declared.Frame.{Frame}
use Rattle.prepared.specs.View.{places, table_for, vars_of}
use Rattle.prepared.specs.Own.{Own, own_table, own_vars, places_of}

pub record Same (t : List ℕ) (f : Frame) (own : List ℕ) : Type 0 where
  pub places : places_of own ≡ places f
  pub vars : (numbers bases : List ℕ) → own_vars own numbers bases ≡ vars_of t f numbers bases
  -- the procedures: where a row belongs, with its locals, and where each opens (rules 1.19 to 1.21)
  pub home : (r : ℕ) → home (own_table own) r ≡ home (table_for t f) r
  pub locals : (r : ℕ) → locals_at (own_table own) r ≡ locals_at (table_for t f) r
  pub opening : (k : ℕ) → opening (own_table own) k ≡ opening (table_for t f) k
  pub step : (ps : List ℕ) (s : State) (cs : List ℕ) → step ps (own_table own) s cs ≡ step ps (table_for t f) s cs
  pub choices : (ps : List ℕ) (ks : List Bool) (s : State)
      → step_choices ps (own_table own) ks s s.here.row ≡ step_choices ps (table_for t f) ks s s.here.row
  pub held_next : (r : ℕ) → r < f.counts.rows
      → marked_pointer (own_table own) (row_at (own_table own) r).a ≡ marked_pointer (table_for t f) (row_at (table_for t f) r).a

-- of a table that passes its checks
abbrev pub OwnSame : Type 0
OwnSame =
    (t : List ℕ) (f : Frame) (own : List ℕ) → InSorts (table_for t f) → (m : MachineKind) → Accepted m (table_for t f) → Own t f own
    → Same t f own
