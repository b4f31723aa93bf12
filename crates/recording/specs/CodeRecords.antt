-- What a recording evaluator says: the value of a node in the plain machine, and the numbers that go with it.
use Rattle.std.specs.Prelude.{◌≡◌, ℕ, suc, ◌<◌, ◌≤◌, Bool, true, false, List, [], ◌∷◌, get_or, ltb, eqb}
use Rattle.std.specs.Prelude.{if◌then◌else◌}
use Rattle.lists.specs.Tab.{tab}
use Rattle.model.specs.Class.{pair, tracked}
use Rattle.model.specs.Table.{Ty, node_at, row_at, marked_uint}
use Rattle.model.specs.Table.Ty.{uint}
use Rattle.model.specs.Work.{Out}
use Rattle.model.specs.State.{Value, Array, State, position}
use Rattle.model.specs.Eval.{Of, Ptr, variable_of}
use Rattle.model.specs.Writer.{given, number_of, held_reduced, choices_f}
use Rattle.prepared.specs.Own.{own_table, own_vars, places_of}
use Rattle.evaluators.specs.CodeAnswers.{Answers, Lent, lent, vars_in, arrays_in, operand}
use Rattle.evaluators.specs.CodeLeaves.{held_for, load_of}
use Rattle.machine.specs.declared.Failure.{Failure}
use Rattle.machine.specs.declared.Failure.TheVariants.{Fails, BadChoice, NoChoice, Stuck}
use Rattle.evaluators.specs.declared.answers.Answer.{Answer}
use Rattle.evaluators.specs.declared.answers.Answer.TheVariants.{Bool as ABool, Uint as AUint, Pointer as APointer, Not}
use Rattle.evaluators.specs.declared.inputs.Inputs.{Inputs}
use Rattle.recording.specs.CodePushes.{Pushed, pushed, push_all}

-- which of so many arrays the reduced run holds reduced: a 1 in the column says it (rule 4.7)
unfoldable pub held_of : ℕ → List ℕ → List Bool
held_of count held = tab count (λ i. eqb (get_or held i 0) 1)

-- the copy of a plain table: the plain machine tracks no place, and no node or row is of a kind that only reduced tables have (27 to 29, 40 to 42)
pub record Plain (own : List ℕ) : Type 0 where
  pub untracked : places_of own ≡ []
  pub nodes : (n : ℕ) → n < 1024 → (node_at (own_table own) n).kind ≤ 26
  pub rows : (r : ℕ) → 40 ≤ (row_at (own_table own) r).kind → 43 ≤ (row_at (own_table own) r).kind

-- the places that the reduced run tracks; the plain machine tracks none, so that the copy's two numbers are free for them
abbrev pub pair_of : List ℕ → List ℕ
pair_of own = pair (get_or own 129 0) (get_or own 130 0)

-- the state that a node is worked out at: neither the row nor the loops nor the callers matter to it
abbrev pub state_in : Lent → State
state_in e = record { here = position 0 []; callers = []; vars = vars_in e; arrays = arrays_in e; cells = e.cells }

-- the numbers (rule 4.6) of node n, which must be below `user`, for the type w
unfoldable pub operand_numbers : Lent → List ℕ → Ty → ℕ → ℕ → List ℕ
operand_numbers e held w user n =
    if ltb n user then choices_f (pair_of e.own) (own_table e.own) (held_of e.count held) (state_in e) (suc n) w n else []

-- ... of a variable, at 27
unfoldable pub variable_numbers : List ℕ → List Value → ℕ → List ℕ
variable_numbers own vs a = if marked_uint (own_table own) a then given (variable_of vs a []) number_of else []

-- ... and of a cell, at 28: o is what the load came to
unfoldable pub cell_numbers : List ℕ → List Bool → Ptr → Out ℕ → List ℕ
cell_numbers ps ks p o = if (if held_reduced ks p.array then tracked ps p.place else true) then [] else given o (λ n. n ∷ [])

-- an answer that has no value, with another place
abbrev pub placed_at : Answer → ℕ → Answer
placed_at (ABool b i) at = ABool b i
placed_at (AUint x i) at = AUint x i
placed_at (APointer r v i) at = APointer r v i
placed_at (Not why i) at = Not why at

-- the buffer and the place after the numbers are p; a row that comes to no end leaves them free
unfoldable pub ReachedBy : Failure → ℕ → List ℕ → Pushed ℕ → Type 0
ReachedBy (Fails reason) at out p = pushed out at ≡ p
ReachedBy BadChoice at out p = Unit {0}
ReachedBy NoChoice at out p = Unit {0}
ReachedBy Stuck at out p = Unit {0}

unfoldable pub Reached : Answer → List ℕ → Pushed ℕ → Type 0
Reached (ABool b at) out p = pushed out at ≡ p
Reached (AUint x at) out p = pushed out at ≡ p
Reached (APointer r v at) out p = pushed out at ≡ p
Reached (Not why at) out p = ReachedBy why at out p

-- an answer r says what o is to a user of the type w, with no choices; and the numbers xs were pushed onto p, up to the answer's place
pub record Records (w : Ty) (o : Out (Of w)) (xs : List ℕ) (r : Answer) (out : List ℕ) (p : Pushed ℕ) : Type 0 where
  pub value : Answers w [] r o
  pub numbers : Reached r out (push_all xs p)

-- ... of node n, which must be below `user`
abbrev pub Recorded : (w : Ty) → Lent → List ℕ → ℕ → ℕ → Answer → List ℕ → Pushed ℕ → Type 0
Recorded w e held user n r out p = Records w (operand e w user n []) (operand_numbers e held w user n) r out p

-- ... of 19 with its pointer worked out
abbrev pub CellRecords : List ℕ → List Array → List ℕ → List Bool → Ptr → Answer → List ℕ → Pushed ℕ → Type 0
CellRecords own rs cells ks p r out q =
    Records uint (load_of false (places_of own) rs cells p []) (cell_numbers (pair_of own) ks p (load_of false (places_of own) rs cells p [])) r out q

-- ... of a variable, to a user that takes a uint, whatever the bases
pub record VariableRecords (own ns : List ℕ) (a : ℕ) (r : Answer) (out : List ℕ) (p : Pushed ℕ) : Type 0 where
  pub held : (bs : List ℕ) (count : ℕ) → Records uint (held_for (own_vars own ns bs) count a uint []) (variable_numbers own (own_vars own ns bs) a) r out p

-- ... of a node that answers by itself, to a user that takes a uint, whatever is lent besides
pub record LeafRecords (own ns : List ℕ) (user n : ℕ) (r : Answer) (out : List ℕ) (p : Pushed ℕ) : Type 0 where
  pub leaf : (count : ℕ) (bs fs ls hs cells held : List ℕ) → Recorded uint (lent own count ns bs fs ls hs cells) held user n r out p

-- ... of a node, by what an evaluator is lent, with the buffer before and after
abbrev pub NodeRecords : (w : Ty) (own cells ns bs fs ls hs held : List ℕ) (count user n at : ℕ) → Answer → List ℕ → List ℕ → Type 0
NodeRecords w own cells ns bs fs ls hs held count user n at r before after =
    Recorded w (lent own count ns bs fs ls hs cells) held user n r after (pushed before at)

-- ... by what the code lends
abbrev pub RecordsFrom : (w : Ty) → Inputs → List ℕ → (user n at : ℕ) → Answer → List ℕ → List ℕ → Type 0
RecordsFrom w e held user n at r before after =
    NodeRecords w e.own.now e.cells.now e.machine.now.numbers e.machine.now.bases e.machine.now.firsts e.machine.now.lengths
    e.machine.now.shapes held e.machine.now.count user n at r before after
