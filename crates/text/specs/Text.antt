-- What the bench program prints for an input, byte by byte (section 8 of the rules).
use Rattle.std.specs.Prelude.{ℕ, ◌+◌, ◌/◌, ◌%◌, List, [], ◌∷◌, ◌++◌, ltb}
use Prim.Native.Char.{code}
use Prim.Native.String.{String, len, char_at}
use Rattle.std.specs.Prelude.{if◌then◌else◌}
use Rattle.lists.specs.Tab.{tab}
use Rattle.lists.specs.Falling.{value_at}
use Rattle.model.specs.Work.{reason_number}
use Rattle.model.specs.Step.{End}
use Rattle.model.specs.Step.End.{done, assert_false, assume_false, failed, want_of_cells, out_of_steps, choice_not_allowed, no_choice_left, list_full, too_deep}
use Rattle.pair.specs.Pairs.{LineSaid, PairSaid, pair_said}
use Rattle.pair.specs.Pairs.LineSaid.{line, no_line}
use Rattle.pair.specs.Pairs.PairSaid.{refusal, lines}

-- the bytes of a text of ASCII characters
unfoldable pub bytes : String → List ℕ
bytes s = tab (len s) (λ i. code (char_at s i))

-- a number in decimal, with no zero in front (rule 8.5)
abbrev pub digit : ℕ → ℕ
digit d = 48 + d

abbrev pub decimal_by : ℕ → (ℕ → List ℕ) → List ℕ
decimal_by n below = if ltb n 10 then digit n ∷ [] else below (n / 10) ++ (digit (n % 10) ∷ [])

unfoldable pub decimal : ℕ → List ℕ
decimal = value_at decimal_by []

-- a part of a line, by its name: a number
abbrev pub part : String → ℕ → List ℕ
part name n = bytes name ++ decimal n

-- an end by its word (rule 8.4, of a ninth call 8.23), a failure with its reason (rule 8.17); no run of a machine ends with `full`
abbrev pub end_text : End → List ℕ
end_text done = bytes "done"
end_text assert_false = bytes "assert"
end_text assume_false = bytes "assume"
end_text (failed why) = part "fail reason " (reason_number why)
end_text want_of_cells = bytes "room"
end_text out_of_steps = bytes "steps"
end_text choice_not_allowed = bytes "badchoice"
end_text no_choice_left = bytes "nochoice"
end_text list_full = bytes "full"
end_text too_deep = bytes "deep"

-- a run: its end, the row where it stands and the steps taken (rule 8.3). There is no run without an end (Demand1 of `demands`)
abbrev pub run_text : LineSaid → List ℕ
run_text (line e row steps used) = end_text e ++ (part " row " row ++ part " steps " steps)
run_text no_line = []

-- the choices used
abbrev pub choices_text : LineSaid → List ℕ
choices_text (line e row steps used) = part " choices " used
choices_text no_line = []

-- a refusal with its number and place (rule 8.2); or the plain run, and the reduced run with its choices, each on a line (rule 8.3)
unfoldable pub pair_text : PairSaid → List ℕ
pair_text (refusal number place) = part "refused " number ++ (part " line " place ++ bytes "\n")
pair_text (lines plain pair) = bytes "plain " ++ (run_text plain ++ (bytes "\npair " ++ (run_text pair ++ (choices_text pair ++ bytes "\n"))))

-- the bytes for any input
abbrev pub printed : List ℕ → List ℕ
printed input = pair_text (pair_said input)
