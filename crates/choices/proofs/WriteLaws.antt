-- The loop of the choice writer, on the copy of its table: what is left of the writer is all of it, from where the record stands, after the
-- numbers written so far.
-- Assumes nothing.
use mathlib.Core.Path.{◌≡◌, refl, sym, ap, ◌∙◌, subst}
use Prim.Native.Nat.{ℕ, zero, suc, ◌+◌, ◌-◌, ◌≤◌, ◌<◌}
use native.Mathlib.Omega.{arith}
use native.Mathlib.Numerals.{add-one}
use mathlib.Core.Bool.{Bool, true, false}
use mathlib.Core.List.{List, [], ◌++◌, append_assoc, append-nil}
use lib.ListN.{length, take, drop}
use lib.Seq.{paste, take-paste, drop-paste, length-paste, take-append_seam, drop-drop}
use borrow.Author.Tests.{le-leb, lt-leb}
use Rattle.lists.specs.Tab.{tab, listed}
use Rattle.model.specs.Table.{Table, row_at}
use Rattle.model.specs.Work.{Out}
use Rattle.model.specs.Work.Out.{gives}
use Rattle.model.specs.State.{State}
use Rattle.model.specs.Step.{Move as ModelMove, Report, finished, step}
use Rattle.model.specs.Step.End.{done, out_of_steps, list_full}
use Rattle.model.specs.Step.Move.{to}
use Rattle.model.specs.Step.Report.{ended, no_end}
use Rattle.model.specs.Writer.{held_next, step_choices, with_numbers, writer, writes}
use Rattle.model.proofs.StepSizes.{arrays_next, step-arrays}
use Rattle.line_checks.specs.Rules.{depth, most_depth}
use Rattle.prepared.specs.declared.Frame.{Frame}
use Rattle.prepared.specs.View.{places, kind_of, table_for}
use Rattle.prepared.specs.Own.{Own, own_table, places_of}
use Rattle.evaluators.specs.CodeAnswers.{failed}
use Rattle.machine.specs.declared.Failure.{Failure}
use Rattle.machine.specs.declared.Failure.TheVariants.{Fails, BadChoice, NoChoice, Stuck}
use Rattle.evaluators.proofs.ViewLaws.{count-arrays}
use Rattle.machine.specs.declared.Machine.{Machine}
use Rattle.machine.specs.declared.Move.{Move}
use Rattle.machine.specs.declared.End.{End}
use Rattle.machine.specs.declared.End.TheVariants as Code
use Rattle.machine.specs.declared.Worked.{Worked}
use Rattle.machine.specs.declared.Worked.TheVariants.{Moves, Ends, Not}
use Rattle.machine.specs.View.{end_of, state_of, own_state}
use Rattle.machine.specs.CodeMoves.{state_after, move_out, Can, Sized}
use Rattle.recording.specs.CodePushes.{Pushed, pushed}
use Rattle.recording.specs.CodeRecords.{held_of, pair_of}
use Rattle.recording_rows.specs.CodeMoves.{StepRecords}
use Rattle.recording.proofs.PushLaws.{push-fits}
use Rattle.records.specs.RecordPromises.{CanBe}
use Rattle.runs.specs.declared.Ran.{Ran}
use Rattle.runs.specs.CodeSteps.{Ready, kept, ran}
use Rattle.runs.proofs.RunLaws.{going_on}
use Rattle.runs.proofs.GoingLaws.{arrays-most}
use Rattle.runs.proofs.ReadyLaws.{state-same, step_same, step-bounds}
use Rattle.runs.proofs.CallingLaws.{table-going}
use Rattle.writing.specs.CodeWriting.{count_of, stopped_of}
use Rattle.choices.specs.CodeSteps.{Begins, held_with, WriterWrites}
use Rattle.choices.proofs.BoundLaws.{step-most}
use Rattle.choices.proofs.HeldLaws.{held-next, held-length}
use Rattle.choices.proofs.CopyLaws.{HasReason, same, copy-plain, copy-row, only-fails, reached, writer-own}

-- ---- reports with numbers
numbers-none : (r : Report) → with_numbers [] r ≡ r
numbers-none (ended e n s l) = refl
numbers-none no_end = refl

numbers-twice : (xs ys : List ℕ) (r : Report) → with_numbers xs (with_numbers ys r) ≡ with_numbers (xs ++ ys) r
numbers-twice xs ys (ended e n s l) = ap (ended e n s) (sym (append_assoc xs ys l))
numbers-twice xs ys no_end = refl

-- ---- the writer, one step at a time
module _ (ps : List ℕ) (t : Table) (n : ℕ) (ks : List Bool) (s : State) (room : ℕ) where
  write_done : (k : ℕ) → finished t s ≡ true → writer ps t k n ks s room ≡ ended done n s []
  unfolding writer
  write_done zero h = rw h
  write_done (suc k) h = rw h

  module _ (h : finished t s ≡ false) where
    write-out : writer ps t 0 n ks s room ≡ ended out_of_steps n s []
    unfolding writer
    write-out = rw h

    module _ (k : ℕ) where
      write-full : room < length (step_choices ps t ks s s.here.row) → writer ps t (suc k) n ks s room ≡ ended list_full n s []
      unfolding writer
      write-full g = rw (h, lt-leb (length (step_choices ps t ks s s.here.row)) room g)

      write-next : {o : Out ModelMove} → length (step_choices ps t ks s s.here.row) ≤ room → step [] t s [] ≡ o
          → writer ps t (suc k) n ks s room
          ≡ writes n s (step_choices ps t ks s s.here.row) o
          (λ s'. writer ps t k (suc n) (held_next t s.here.row ks) s' (room - length (step_choices ps t ks s s.here.row)))
      unfolding writer
      write-next g e = rw (h, le-leb (length (step_choices ps t ks s s.here.row)) room g, e)

-- ---- where the writer stands
abbrev whole : List ℕ → ℕ → ℕ → List Bool → Machine → List ℕ → List ℕ → ℕ → Report
whole own k n ks m stack cells room = writer (pair_of own) (own_table own) k n ks (own_state own stack m cells) room

-- after some steps of the writer from m₀, stack₀ and cs₀: the numbers up to `at` are written, and the rest of the list is as it was lent. The
-- frame is that of the copy
pub record Left (t own lent : List ℕ) (limit : ℕ) (m₀ : Machine) (stack₀ cs₀ : List ℕ) (m : Machine) (stack cells list held : List ℕ) (at steps : ℕ) :
    Type 0 where
  pub frame : Frame
  pub copied : Own t frame own
  pub plain : frame.classes ≡ false
  pub shallow : (n : ℕ) → n < frame.counts.nodes → depth (table_for t frame) n ≤ most_depth
  pub ready : Ready t frame (kept m stack) cells
  pub sized : Sized m
  pub upto : steps ≤ limit
  pub within : at ≤ length list
  pub size : length list ≡ length lent
  pub rest : drop at list ≡ drop at lent
  pub column : length held ≡ 16
  pub same : with_numbers (take at list) (whole own (limit - steps) steps (held_of m.count held) m stack cells (length lent - at))
      ≡ whole own limit 0 [] m₀ stack₀ cs₀ (length lent)

-- what is handed back, on the copy
pub record Handed (own lent : List ℕ) (limit : ℕ) (m₀ : Machine) (stack₀ cs₀ : List ℕ) (r : Ran) (cells list : List ℕ) : Type 0 where
  pub report : ended (end_of r.end) r.steps (own_state own r.«record».stack r.«record».machine cells) (take r.used list)
      ≡ whole own limit 0 [] m₀ stack₀ cs₀ (length lent)
  pub within : r.used ≤ length list
  pub rest : drop r.used list ≡ drop r.used lent

-- ... is what the table's writer writes
pub writes-own : (t : List ℕ) (f : Frame) (own : List ℕ) → Own t f own → (m₀ : Machine) (stack₀ cs₀ : List ℕ) → Begins t f (kept m₀ stack₀) cs₀
    → (lent : List ℕ) (limit : ℕ) (r : Ran) (cells list : List ℕ) → Handed own lent limit m₀ stack₀ cs₀ r cells list
    → WriterWrites t f (kept m₀ stack₀) cs₀ lent limit r cells list
writes-own t f own O m₀ stack₀ cs₀ B lent limit r cells list H = record {
  report =
      ap (λ (s : State). ended (end_of r.end) r.steps s (take r.used list))
      (sym (state-same t f own O m₀ stack₀ cs₀ B.ready r.«record».machine r.«record».stack cells))
      ∙ H.report ∙ writer-own t f own O m₀ stack₀ cs₀ B.ready limit (length lent);
  within = H.within;
  kept = H.rest;
}

-- before the first step
pub left-all : (t own lent : List ℕ) (limit : ℕ) (f : Frame) (m : Machine) (stack cells held : List ℕ) → Own t f own → Begins t f (kept m stack) cells
    → Sized m → length held ≡ 16 → Left t own lent limit m stack cells m stack cells lent held 0 0
unfolding held_of tab listed
left-all t own lent limit f m stack cells held O B Z h = record {
  frame = f;
  copied = O;
  plain = B.plain;
  shallow = B.shallow;
  ready = B.ready;
  sized = Z;
  upto = omega arith;
  within = omega arith;
  size = refl;
  rest = refl;
  column = h;
  same =
      numbers-none (whole own (limit - 0) 0 (held_of m.count held) m stack cells (length lent - 0))
      ∙ ap (λ (n : ℕ). whole own (limit - 0) 0 (held_of n held) m stack cells (length lent - 0)) B.none
      ∙ ap (λ (k : ℕ). whole own k 0 [] m stack cells (length lent - 0)) (let z : limit - 0 ≡ limit = omega arith in z)
      ∙ ap (λ (k : ℕ). whole own limit 0 [] m stack cells k) (let z : length lent - 0 ≡ length lent = omega arith in z);
}

module _ {t own lent : List ℕ} {limit : ℕ} {m₀ : Machine} {stack₀ cs₀ : List ℕ} {m : Machine} {stack cells list held : List ℕ} {at steps : ℕ}
    (L : Left t own lent limit m₀ stack₀ cs₀ m stack cells list held at steps) where
  -- an end before the next step
  hands : (e : End) (r : Ran) → r ≡ ran e steps at m stack
      → whole own (limit - steps) steps (held_of m.count held) m stack cells (length lent - at) ≡ ended (end_of e) steps (own_state own stack m cells) []
      → Handed own lent limit m₀ stack₀ cs₀ r cells list
  hands e r q h = subst (λ (r : Ran). Handed own lent limit m₀ stack₀ cs₀ r cells list) (sym q) (record {
    report =
        ap (ended (end_of e) steps (own_state own stack m cells)) (sym (append-nil (take at list))) ∙ ap (with_numbers (take at list)) (sym h) ∙ L.same;
    within = L.within;
    rest = L.rest;
  })

  pub left-done : finished (own_table own) (own_state own stack m cells) ≡ true → (r : Ran) → r ≡ ran Code.Done steps at m stack
      → Handed own lent limit m₀ stack₀ cs₀ r cells list
  left-done h r q =
      hands Code.Done r q
      (write_done (pair_of own) (own_table own) steps (held_of m.count held) (own_state own stack m cells) (length lent - at) (limit - steps) h)

  pub left_out : finished (own_table own) (own_state own stack m cells) ≡ false → steps ≡ limit → (r : Ran) → r ≡ ran Code.OutOfSteps steps at m stack
      → Handed own lent limit m₀ stack₀ cs₀ r cells list
  left_out going e r q =
      hands Code.OutOfSteps r q
      (ap (λ (k : ℕ). whole own k steps (held_of m.count held) m stack cells (length lent - at)) (let z : limit - steps ≡ 0 = omega arith in z)
      ∙ write-out (pair_of own) (own_table own) steps (held_of m.count held) (own_state own stack m cells) (length lent - at) going)

-- ---- a row was recorded there
pub record Recorded (t own lent : List ℕ) (limit : ℕ) (m₀ : Machine) (stack₀ cs₀ : List ℕ) (m : Machine) (stack cells list held : List ℕ)
    (at steps : ℕ) (buffer : List ℕ) (w : Worked) (numbers : List ℕ) : Type 0 where
  pub left : Left t own lent limit m₀ stack₀ cs₀ m stack cells list held at steps
  pub going : finished (own_table own) (own_state own stack m cells) ≡ false
  pub more : steps < limit
  pub sized : length buffer ≡ 8192
  pub kept : length numbers ≡ 8192
  pub row : StepRecords own stack m cells held w buffer numbers

module _ {t own lent : List ℕ} {limit : ℕ} {m₀ : Machine} {stack₀ cs₀ : List ℕ} {m : Machine} {stack cells list held : List ℕ} {at steps : ℕ}
    {buffer : List ℕ} {w : Worked} {numbers : List ℕ}
    (K : Recorded t own lent limit m₀ stack₀ cs₀ m stack cells list held at steps buffer w numbers) where
  abbrev table : Table
  table = own_table own

  abbrev ps : List ℕ
  ps = pair_of own

  abbrev ks : List Bool
  ks = held_of m.count held

  abbrev here : State
  here = own_state own stack m cells

  abbrev xs : List ℕ
  xs = step_choices ps table ks here m.row

  abbrev L : Left t own lent limit m₀ stack₀ cs₀ m stack cells list held at steps
  L = K.left

  abbrev f : Frame
  f = K.left.frame

  -- the plain machine tracks no place
  plainly : places_of own ≡ []
  plainly = (copy-plain t f own L.copied m stack cells L.ready L.plain).untracked

  row_is : step (places_of own) table here [] ≡ move_out own stack m cells [] w
  row_is = sym K.row.works.said

  -- if it comes to nothing it has failed
  fails-here : (why : Failure) (n : ℕ) → step (places_of own) table here [] ≡ move_out own stack m cells [] (Not why n) → HasReason why
  fails-here = only-fails t f own L.copied m stack cells L.ready L.plain K.going

  one_left : limit - steps ≡ suc (limit - suc steps)
  one_left = let u = K.more in omega arith

  -- its step is within its bounds
  pub bounds : {x : Move} {next : ℕ} → w ≡ Moves x next → (m.row ≤ 256) × Can own stack m (length cells) x
  bounds q = step-bounds t f own L.copied m stack cells L.ready [] 0 K.row.works q

  -- ---- its numbers, of which there are n
  module _ {n : ℕ} (q : n ≡ count_of w) where
    few : length xs ≤ 8192
    few =
        subst (λ (l : List ℕ). length l ≤ 8192) (sym ((same t f own L.copied m stack cells L.ready).choices ps ks here))
        (step-most ps (table_for t f) ks here L.shallow m.row)

    exact : pushed numbers n ≡ pushed (xs ++ drop (0 + length xs) buffer) (0 + length xs)
    exact =
        ap (pushed numbers) q ∙ reached t f own L.copied m stack cells L.ready L.plain K.going w row_is K.row.numbers
        ∙ push-fits xs buffer 0 (let h = few in let s = K.sized in omega arith)

    count-is : n ≡ length xs
    count-is = ap (λ (p : Pushed ℕ). p.at) exact ∙ (let z : 0 + length xs ≡ length xs = omega arith in z)

    taken : take n numbers ≡ xs
    taken =
        ap (λ (k : ℕ). take k numbers) count-is ∙ ap (λ (p : Pushed ℕ). take (length xs) p.buffer) exact
        ∙ take-append_seam xs (drop (0 + length xs) buffer)

    pub few-numbers : n ≤ length numbers
    few-numbers = let h = few in let e = count-is in let s = K.kept in omega arith

    pub left-full : length list - at < n → (r : Ran) → r ≡ ran Code.ListFull steps at m stack → Handed own lent limit m₀ stack₀ cs₀ r cells list
    left-full h r e =
        hands L Code.ListFull r e
        (ap (λ (k : ℕ). whole own k steps ks m stack cells (length lent - at)) one_left
        ∙ write-full ps table steps ks here (length lent - at) K.going (limit - suc steps) (let c = count-is in let z = L.size in omega arith))

    -- ---- ... which fit
    module _ (fits : n ≤ length list - at) where
      pub inside-list : at + n ≤ length list
      inside-list = let h = L.within in omega arith

      by-step : {o : Out ModelMove} → step (places_of own) table here [] ≡ o
          → with_numbers (take at list)
          (writes steps here xs o
          (λ s'. writer ps table (limit - suc steps) (suc steps) (held_next table m.row ks) s' (length lent - at - length xs)))
          ≡ whole own limit 0 [] m₀ stack₀ cs₀ (length lent)
      by-step e =
          ap (with_numbers (take at list))
          (sym (write-next ps table steps ks here (length lent - at) K.going (limit - suc steps)
          (let c = count-is in let z = L.size in omega arith) (ap (λ (qs : List ℕ). step qs table here []) (sym plainly) ∙ e)))
          ∙ ap (λ (k : ℕ). with_numbers (take at list) (whole own k steps ks m stack cells (length lent - at))) (sym one_left) ∙ L.same

      -- ---- ... and are copied into the list
      module _ (list' : List ℕ) (pasted : list' ≡ paste list at numbers n) where
        numbers-written : take (at + n) list' ≡ take at list ++ xs
        numbers-written =
            ap (take (at + n)) pasted ∙ take-paste list at numbers n L.within few-numbers ∙ ap (λ (l : List ℕ). take at list ++ l) taken

        rest-kept : drop (at + n) list' ≡ drop (at + n) lent
        rest-kept =
            ap (drop (at + n)) pasted ∙ drop-paste list at numbers n L.within few-numbers
            ∙ sym (drop-drop n at list) ∙ ap (drop n) L.rest ∙ drop-drop n at lent

        same_size : length list' ≡ length list
        same_size = ap length pasted ∙ length-paste list at numbers n inside-list few-numbers

        still-within : at + n ≤ length list'
        still-within = let i = inside-list in let s = same_size in omega arith

        -- the row ends the run
        pub left-stop : ((x : Move) (next : ℕ) → w ≡ Moves x next → ⊥) → (r : Ran) → r ≡ stopped_of w steps (at + n) m stack
            → Handed own lent limit m₀ stack₀ cs₀ r cells list'
        unfolding move_out failed
        left-stop h r e = subst (λ (r : Ran). Handed own lent limit m₀ stack₀ cs₀ r cells list') (sym e) (go w row_is h)
          where
            stop-at : (c : End) → ended (end_of c) (suc steps) here (take at list ++ xs) ≡ whole own limit 0 [] m₀ stack₀ cs₀ (length lent)
                → Handed own lent limit m₀ stack₀ cs₀ (ran c (suc steps) (at + n) m stack) cells list'
            stop-at c z = record {
              report = ap (ended (end_of c) (suc steps) here) numbers-written ∙ z;
              within = still-within;
              rest = rest-kept;
            }

            go : (w : Worked) → step (places_of own) table here [] ≡ move_out own stack m cells [] w → ((x : Move) (next : ℕ) → w ≡ Moves x next → ⊥)
                → Handed own lent limit m₀ stack₀ cs₀ (stopped_of w steps (at + n) m stack) cells list'
            go (Moves x next) e h = absurd (h x next refl)
            go (Ends c next) e h = stop-at c (by-step e)
            go (Not (Fails why) next) e h = stop-at (Code.Fail why) (by-step e)
            go (Not BadChoice next) e h = absurd (fails-here BadChoice next e)
            go (Not NoChoice next) e h = absurd (fails-here NoChoice next e)
            go (Not Stuck next) e h = absurd (fails-here Stuck next e)

        -- the run goes on
        module _ {x : Move} {next : ℕ} (moves : w ≡ Moves x next) (m' : Machine) (stack' cells' : List ℕ)
            (made : own_state own stack' m' cells' ≡ state_after own stack m cells x) (n' : length cells' ≡ length cells) where
          goes_to : step (places_of own) table here [] ≡ gives (to (own_state own stack' m' cells')) (drop next [])
          unfolding move_out
          goes_to = row_is ∙ ap (move_out own stack m cells []) moves ∙ ap (λ (s : State). gives (to s) (drop next [])) (sym made)

          next-ready : Ready t f (kept m' stack') cells'
          next-ready =
              let O = L.copied in
              let R = L.ready in
              let g : CanBe (kind_of f) (places f) (table_for t f) (state_of t f (kept m stack) cells) = record { can = R.can; regular = R.regular } in
              let e = sym (step_same t f own O m stack cells R []) ∙ goes_to
              ∙ ap (λ (s : State). gives (to s) (drop next [])) (state-same t f own O m stack cells R m' stack' cells') in
              let G = going_on (places f) (kind_of f) (table_for t f) R.accepted (state_of t f (kept m stack) cells) g
              (table-going t f own O m stack cells R K.going) [] tt (state_of t f (kept m' stack') cells') (drop next []) e in
              record {
                accepted = R.accepted;
                laid = R.laid;
                few = R.few;
                can = G.can;
                regular = G.regular;
                room = omega (arith, n', R.room);
              }

          count_next : m'.count ≡ arrays_next table m.row m.count
          count_next =
              sym (count-arrays m'.count m'.firsts m'.lengths m'.shapes) ∙ step-arrays (places_of own) table here [] goes_to
              ∙ ap (arrays_next table m.row) (count-arrays m.count m.firsts m.lengths m.shapes)

          module _ (held' : List ℕ) (eh : held' ≡ held_with own m.count m.row held) where
            held-is : held_of m'.count held' ≡ held_next table m.row ks
            held-is =
                ap (held_of m'.count) eh
                ∙ held-next own m.count m.row held (table_for t f) (row_at (table_for t f) m.row).a (row_at (table_for t f) m.row).b
                (row_at (table_for t f) m.row).c (copy-row t f own L.copied m stack cells L.ready L.plain m.row) m'.count count_next
                (arrays-most t f m' stack' cells' (places f) (kind_of f) next-ready.can next-ready.regular) L.column

            pub left-again : Sized m' → {at' : ℕ} → at' ≡ at + n → Left t own lent limit m₀ stack₀ cs₀ m' stack' cells' list' held' at' (steps + 1)
            left-again Z ea = subst (λ (k : ℕ). Left t own lent limit m₀ stack₀ cs₀ m' stack' cells' list' held' k (steps + 1)) (sym ea) (record {
              frame = f;
              copied = L.copied;
              plain = L.plain;
              shallow = L.shallow;
              ready = next-ready;
              sized = Z;
              upto = let u = K.more in omega arith;
              within = still-within;
              size = same_size ∙ L.size;
              rest = rest-kept;
              column = ap length eh ∙ held-length own m.count m.row held ∙ L.column;
              same =
                  ap (λ (l : List ℕ). with_numbers l (from (steps + 1) (held_of m'.count held') (length lent - (at + n)))) numbers-written
                  ∙ sym (numbers-twice (take at list) xs (from (steps + 1) (held_of m'.count held') (length lent - (at + n))))
                  ∙ ap (λ (l : List Bool). with_numbers (take at list) (with_numbers xs (from (steps + 1) l (length lent - (at + n))))) held-is
                  ∙ ap (λ (k : ℕ). with_numbers (take at list) (with_numbers xs (from (steps + 1) (held_next table m.row ks) k)))
                  (let c = count-is in let z : length lent - (at + n) ≡ length lent - at - length xs = omega arith in z)
                  ∙ ap (λ (k : ℕ). with_numbers (take at list) (with_numbers xs (from k (held_next table m.row ks) (length lent - at - length xs))))
                  (add-one steps)
                  ∙ by-step goes_to;
            })
              where
                from : ℕ → List Bool → ℕ → Report
                from n ks room = whole own (limit - n) n ks m' stack' cells' room
