-- The record of a fresh run.
use Rattle.std.specs.Prelude.{ℕ, List, replicate, ltb}
use Rattle.std.specs.Prelude.{if◌then◌else◌}
use Rattle.lists.specs.Tab.{tab}
use Rattle.model.specs.Class.{class}
use Rattle.model.specs.State.{Value, start_of}
use Rattle.prepared.specs.declared.Frame.{Frame}
use Rattle.prepared.specs.declared.Form.{Form}
use Rattle.prepared.specs.declared.Form.TheVariants.{Bool, Uint, Class, Pointer}
use Rattle.prepared.specs.View.{kind_of, places, table_for, form_in}
use Rattle.machine.specs.declared.Machine.{Machine}
use Rattle.machine.specs.declared.Record.{Record}
use Rattle.machine.specs.CodeMoves.{columns}

-- what a variable holds at first, by its form (rules 2.5, 3.6)
abbrev pub start_by_form : List ℕ → Form → ℕ
start_by_form ps Bool = 0
start_by_form ps Uint = 0
start_by_form ps Class = class ps 0
start_by_form ps Pointer = 0

unfoldable pub start_number : List ℕ → Frame → ℕ → ℕ
start_number t f i = start_by_form (places f) (form_in t f i)

-- the variables of the model's fresh state
unfoldable pub fresh_vars : List ℕ → Frame → List Value
fresh_vars t f = tab f.counts.decls (start_of (places f) (kind_of f) (table_for t f))

-- a machine with nothing in it
abbrev pub blank_machine : Machine
blank_machine =
    columns 0 (replicate 32 0) (replicate 32 0) 0 (replicate 8 0) (replicate 8 0) (replicate 8 0) 0 (replicate 16 0) (replicate 16 0) (replicate 16 0)

-- the machine of a fresh run: a blank one with the numbers that its variables start with
abbrev pub fresh_number : List ℕ → Frame → ℕ → ℕ
fresh_number t f i = if ltb i f.counts.decls then start_number t f i else 0

unfoldable pub fresh_machine : List ℕ → Frame → Machine
fresh_machine t f =
    columns 0 (tab 32 (fresh_number t f)) (replicate 32 0) 0 (replicate 8 0) (replicate 8 0) (replicate 8 0) 0 (replicate 16 0) (replicate 16 0)
    (replicate 16 0)

-- a record with nothing in it, and that of a fresh run: its stack has no caller (rules 2.5, 2.39)
abbrev pub blank_record : Record
blank_record = record { machine = blank_machine; stack = replicate 241 0 }

abbrev pub fresh_record : List ℕ → Frame → Record
fresh_record t f = record { machine = fresh_machine t f; stack = replicate 241 0 }
