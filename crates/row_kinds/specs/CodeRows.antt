-- What the parts of the rows say, as the code groups them: each is an equation, so that the choice writer's rows use them too.
use Rattle.std.specs.Prelude.{ℕ, suc, ◌+◌, Bool, ◌&&◌, ◌||◌, List, get_or, ltb, leb, eqb}
use Rattle.std.specs.Prelude.{if◌then◌else◌}
use Rattle.lists.specs.Tab.{sum}
use Rattle.std.specs.Prelude.{Option}
use Rattle.std.specs.Prelude.{Some, None}
use Rattle.model.specs.Class.{class, tracked}
use Rattle.model.specs.Table.{row_at, matching_end}
use Rattle.prepared.specs.declared.Form.{Form}
use Rattle.prepared.specs.declared.Form.TheVariants.{Bool as FBool, Uint as FUint, Class as FClass, Pointer as FPointer}
use Rattle.prepared.specs.Own.{places_of, decls_of, rows_of, own_table, own_form}
use Rattle.evaluators.specs.declared.arrays.Target.{Target}
use Rattle.evaluators.specs.declared.arrays.Target.TheVariants.{Array as To, Missing, Unknown}
use Rattle.machine.specs.declared.Failure.TheVariants.{Fails, Stuck}
use Rattle.machine.specs.declared.Reason.TheVariants.{WithoutArray, PastLength}
use Rattle.evaluators.specs.declared.answers.Answer.{Answer}
use Rattle.evaluators.specs.declared.answers.Answer.TheVariants.{Bool as ABool, Uint as AUint, Pointer as APointer, Not as NoValue}
use Rattle.machine.specs.declared.End.TheVariants.{AssertFalse, AssumeFalse, WantOfCells, TooDeep}
use Rattle.machine.specs.declared.Move.TheVariants.{Goes, Puts, Writes, Lays, Enters, Leaves, Calls, Returns}
use Rattle.machine.specs.declared.Worked.{Worked}
use Rattle.machine.specs.declared.Worked.TheVariants.{Moves, Ends, Not}

-- the row's failing end where an operand gave no value of the type that the row takes
abbrev pub lost_of : Answer → Worked
lost_of (ABool b at) = Not Stuck 0
lost_of (AUint x at) = Not Stuck 0
lost_of (APointer r p at) = Not Stuck 0
lost_of (NoValue why at) = Not why at

-- a row that goes on by k with its operand's value, where that is of the type that the row takes
unfoldable pub on_bool : (Bool → ℕ → Worked) → Answer → Worked
on_bool k (ABool b at) = k b at
on_bool k (AUint x at) = lost_of (AUint x at)
on_bool k (APointer r p at) = lost_of (APointer r p at)
on_bool k (NoValue why at) = lost_of (NoValue why at)

unfoldable pub on_uint : (ℕ → ℕ → Worked) → Answer → Worked
on_uint k (ABool b at) = lost_of (ABool b at)
on_uint k (AUint x at) = k x at
on_uint k (APointer r p at) = lost_of (APointer r p at)
on_uint k (NoValue why at) = lost_of (NoValue why at)

unfoldable pub on_pointer : (ℕ → ℕ → ℕ → Worked) → Answer → Worked
on_pointer k (ABool b at) = lost_of (ABool b at)
on_pointer k (AUint x at) = lost_of (AUint x at)
on_pointer k (APointer r p at) = k r p at
on_pointer k (NoValue why at) = lost_of (NoValue why at)

-- ---- 33
-- the form of value that a variable holds, as a number; 0 for a bool with another number than 0 and 1
abbrev pub held_form : Form → ℕ → ℕ
held_form FBool x = if leb x 1 then 1 else 0
held_form FUint x = 2
held_form FClass x = 4
held_form FPointer x = 3

-- variable a is there and holds a value of the form k
unfoldable pub fits_in : List ℕ → List ℕ → ℕ → ℕ → Bool
fits_in own ns a k = ltb a (decls_of own) && eqb (held_form (own_form own a) (get_or ns a 0)) k

unfoldable pub put_of : List ℕ → List ℕ → ℕ → ℕ → ℕ → ℕ → ℕ → Worked
put_of own ns a k x base at = if fits_in own ns a k then Moves (Puts a x base) at else Not Stuck at

abbrev pub put_bool : List ℕ → List ℕ → ℕ → Answer → Worked
put_bool own ns a = on_bool (λ b at. put_of own ns a 1 (if b then 1 else 0) 0 at)

abbrev pub put_uint : List ℕ → List ℕ → ℕ → Answer → Worked
put_uint own ns a = on_uint (λ x at. put_of own ns a 2 x 0 at)

abbrev pub put_pointer : List ℕ → List ℕ → ℕ → Answer → Worked
put_pointer own ns a = on_pointer (λ r p at. put_of own ns a 3 p r at)

-- ---- 35, or 36
abbrev pub tested_of : Bool → Answer → Worked
tested_of assume = on_bool (λ b at. if b then Moves Goes at else Ends (if assume then AssumeFalse else AssertFalse) at)

-- ---- 37, or 41
-- the cells of an array, by its length and whether it is reduced (rules 2.21, 3.7)
abbrev pub size_for : List ℕ → ℕ → Bool → ℕ
size_for ps len reduced = if reduced then class ps len else len

-- the cells of the arrays, by the columns of their lengths and shapes
abbrev pub size_at : List ℕ → List ℕ → List ℕ → ℕ → ℕ
size_at ps ls hs i = size_for ps (get_or ls i 0) (eqb (get_or hs i 0) 1)

unfoldable pub used_in : List ℕ → ℕ → List ℕ → List ℕ → ℕ
used_in ps n ls hs = sum n (size_at ps ls hs)

-- want of cells (rule 2.22)
abbrev pub lacks_room : ℕ → ℕ → ℕ → ℕ → Bool
lacks_room count used size cells = leb 16 count || ltb cells (used + size)

unfoldable pub lay_of : List ℕ → List ℕ → List ℕ → List ℕ → ℕ → ℕ → Bool → ℕ → ℕ → ℕ → Worked
lay_of own ns ls hs count cells reduced a len at =
    if fits_in own ns a 3
    then (if lacks_room count (used_in (places_of own) count ls hs) (size_for (places_of own) len reduced) cells
    then Ends WantOfCells at
    else Moves (Lays a (used_in (places_of own) count ls hs) len (size_for (places_of own) len reduced) reduced) at)
    else Not Stuck at

abbrev pub laid_of : List ℕ → List ℕ → List ℕ → List ℕ → ℕ → ℕ → Bool → ℕ → Answer → Worked
laid_of own ns ls hs count cells reduced a = on_uint (lay_of own ns ls hs count cells reduced a)

-- ---- 34, and 40
-- cell i of so many, laid from start on, gets x: it must be one of those lent
unfoldable pub cell_gets : ℕ → ℕ → ℕ → ℕ → ℕ → ℕ → Worked
cell_gets room start size i x at =
    if ltb i size then (if ltb (start + i) room then Moves (Writes (start + i) x) at else Not Stuck at) else Not Stuck at

-- place p of a reduced array, below the length, gets x by 40 (rule 3.18)
unfoldable pub tracked_gets : List ℕ → ℕ → ℕ → ℕ → ℕ → ℕ → ℕ → Worked
tracked_gets own room start len p x at =
    if tracked (places_of own) p then cell_gets room start (class (places_of own) len) (class (places_of own) p) x at else Moves Goes at

-- place p of an array gets x, by 40 or by 34 (rules 2.19, 3.17)
unfoldable pub place_gets : Bool → List ℕ → ℕ → ℕ → ℕ → Bool → ℕ → ℕ → ℕ → Worked
place_gets tracking own room start len reduced p x at =
    if ltb p len
    then (if tracking && reduced then tracked_gets own room start len p x at else cell_gets room start (size_for (places_of own) len reduced) p x at)
    else Not (Fails PastLength) at

-- ... of the array that a pointer points to
abbrev pub target_gets : Bool → List ℕ → ℕ → Target → ℕ → ℕ → ℕ → Worked
target_gets tracking own room (To start len reduced) p x at = place_gets tracking own room start len reduced p x at
target_gets tracking own room Missing p x at = Not (Fails WithoutArray) at
target_gets tracking own room Unknown p x at = Not Stuck at

-- ---- 38, 42 and 39
abbrev pub iter_form : Bool → ℕ
iter_form c = if c then 4 else 2

abbrev pub iter_number : List ℕ → Bool → ℕ → ℕ
iter_number ps c x = if c then class ps x else x

-- the row to go to where the loop of a row is not entered: past the row `here` that repeats it, or past its end row; none where no row closes it
unfoldable pub way_out : List ℕ → ℕ → ℕ → Bool → Option ℕ
way_out own here row again =
    if again then Some (suc here)
    else (if ltb (matching_end (own_table own) row) (rows_of own) then Some (suc (matching_end (own_table own) row)) else None)

-- the loop is left by that way
abbrev pub leave_of : Option ℕ → ℕ → ℕ → ℕ → ℕ → Worked
leave_of (Some next) a v depth at = Moves (Leaves a v depth next) at
leave_of None a v depth at = Not Stuck at

-- the loop of a row from a start to an end, inside `depth` open loops
unfoldable pub entry_of : List ℕ → List ℕ → ℕ → ℕ → Bool → ℕ → ℕ → ℕ → Bool → ℕ → Worked
entry_of own ns here row c from upto depth again at =
    if fits_in own ns (row_at (own_table own) row).a (iter_form c)
    then (if leb from upto
    then Moves (Enters (row_at (own_table own) row).a (iter_number (places_of own) c from) row depth from upto) at
    else leave_of (way_out own here row again) (row_at (own_table own) row).a (iter_number (places_of own) c from) depth at)
    else Not Stuck at

-- ---- 44 and 45 (rules 2.40 to 2.42)
unfoldable pub called_of : ℕ → ℕ → Answer → Worked
called_of depth k x = on_uint (λ v at. if leb 8 depth then Ends TooDeep at else Moves (Calls k v) at) x

unfoldable pub returned_of : Answer → Worked
returned_of x = on_uint (λ v at. Moves (Returns v) at) x
