-- The choice writer ends as the plain run does and writes the list, if there is room for it; and else its list is full.
-- Assumes nothing.
use mathlib.Core.Path.{◌≡◌, refl, sym, ap, ◌∙◌, subst}
use Prim.Native.Nat.{ℕ, zero, suc, ◌+◌, ◌-◌, ◌≤◌, ◌<◌}
use native.Mathlib.Omega.{arith}
use mathlib.Core.Bool.{Bool, true, false}
use mathlib.Core.List.{List, [], ◌++◌, append_assoc, append-nil}
use lib.ListN.{length, length-append}
use lib.Dec.{leb}
use borrow.Author.Tests.{leb-true, leb-false, le-leb}
use Rattle.model.specs.Table.{Table}
use Rattle.model.specs.Work.{Reason, Out}
use Rattle.model.specs.Work.Out.{gives, fails, bad_choice, no_choice, stuck}
use Rattle.model.specs.State.{State}
use Rattle.model.specs.State.MachineKind.{plain}
use Rattle.model.specs.Step.{End, Move, Report, finished, run, step}
use Rattle.model.specs.Step.End.{out_of_steps, list_full}
use Rattle.model.specs.Step.Move.{to, stop}
use Rattle.model.specs.Step.Report.{ended, no_end}
use Rattle.model.specs.Writer.{held_next, step_choices, with_numbers, writer, written}
use Rattle.model.specs.Accepted.{Accepted, CanHave}
use Rattle.model.proofs.Safe.{Held, leaves-plain}
use Rattle.model.proofs.SafeStep.{MoveOk, safe-step}

numbers-twice : (xs ys : List ℕ) (r : Report) → with_numbers xs (with_numbers ys r) ≡ with_numbers (xs ++ ys) r
numbers-twice xs ys (ended e n s l) = ap (ended e n s) (sym (append_assoc xs ys l))
numbers-twice xs ys no_end = refl

-- the last step's numbers
numbers-last : (e : End) (n : ℕ) (s : State) (xs : List ℕ) → ended e n s xs ≡ with_numbers (xs ++ []) (ended e n s [])
numbers-last e n s xs = ap (ended e n s) (sym (append-nil (xs ++ []) ∙ append-nil xs))

-- what a plain step comes to: no choice is taken
data Plain (t : Table) : Out Move → Type 0 where
  goes : {s : State} → CanHave [] plain t s → Plain t (gives (to s) [])
  stops : {e : End} → Plain t (gives (stop e) [])
  failed : {why : Reason} → Plain t (fails why [])

plain_out : (t : Table) (o : Out Move) → Held plain (MoveOk plain (CanHave [] plain t)) [] o → Plain t o
plain_out t (gives (to s) cs) h = subst (λ cs. Plain t (gives (to s) cs)) (sym (leaves-plain h.1)) (goes h.0)
plain_out t (gives (stop e) cs) h = subst (λ cs. Plain t (gives (stop e) cs)) (sym (leaves-plain h.1)) stops
plain_out t (fails why cs) h = subst (λ cs. Plain t (fails why cs)) (sym (leaves-plain h)) failed
plain_out t bad_choice h = absurd h
plain_out t no_choice h = absurd h
plain_out t stuck h = absurd h

-- list full, after so many whole steps from the state p, at which n steps had been taken
pub record FullFrom (ps : List ℕ) (t : Table) (k n : ℕ) (ks : List Bool) (p : State) (room : ℕ) (report : Report) : Type 0 where
  pub steps : ℕ
  pub last : State
  pub report_is : report ≡ ended list_full (n + steps) last (written ps t steps ks p)
  pub plain_is : run [] t steps n p [] ≡ ended out_of_steps (n + steps) last []
  pub within : steps < k
  pub fits : length (written ps t steps ks p) ≤ room
  pub more : room < length (written ps t (suc steps) ks p)

module _ (ps : List ℕ) (t : Table) (A : Accepted plain t) where
  plain_step : (p : State) → CanHave [] plain t p → finished t p ≡ false → Plain t (step [] t p [])
  plain_step p C e = plain_out t (step [] t p []) ((safe-step [] plain t A p C e).held [])

  pub write-fits : (k n : ℕ) (ks : List Bool) (p : State) → CanHave [] plain t p → (room : ℕ) → length (written ps t k ks p) ≤ room
      → writer ps t k n ks p room ≡ with_numbers (written ps t k ks p) (run [] t k n p [])
  unfolding run written writer
  write-fits zero n ks p C room h = go (finished t p) refl
    where
      go : (b : Bool) → finished t p ≡ b → writer ps t zero n ks p room ≡ with_numbers [] (run [] t zero n p [])
      go false e = rw e
      go true e = rw e
  write-fits (suc k) n ks p C room h = go (finished t p) refl (λ p' C'. write-fits k (suc n) (held_next t p.here.row ks) p' C') h
    where
      ks' : List Bool
      ks' = held_next t p.here.row ks

      xs : List ℕ
      xs = step_choices ps t ks p p.here.row

      follow : finished t p ≡ false → (o : Out Move) → step [] t p [] ≡ o → Plain t o
          → ((p' : State) → CanHave [] plain t p' → (room' : ℕ) → length (written ps t k ks' p') ≤ room'
          → writer ps t k (suc n) ks' p' room' ≡ with_numbers (written ps t k ks' p') (run [] t k (suc n) p' []))
          → length (written ps t (suc k) ks p) ≤ room
          → writer ps t (suc k) n ks p room ≡ with_numbers (written ps t (suc k) ks p) (run [] t (suc k) n p [])
      follow e o f (goes {s = p'} C') ih h =
          let h' : length xs + length (written ps t k ks' p') ≤ room = rw (e, f, length-append) at h in
          rw (e, f, le-leb (length xs) room (omega arith), ih p' C' (room - length xs) (omega arith))
          (numbers-twice xs (written ps t k ks' p') (run [] t k (suc n) p' []))
      follow e o f stops ih h =
          let h' : length xs + 0 ≤ room = rw (e, f, length-append) at h in
          rw (e, f, le-leb (length xs) room (omega arith)) (numbers-last _ (suc n) p xs)
      follow e o f failed ih h =
          let h' : length xs + 0 ≤ room = rw (e, f, length-append) at h in
          rw (e, f, le-leb (length xs) room (omega arith)) (numbers-last _ (suc n) p xs)

      go : (b : Bool) → finished t p ≡ b
          → ((p' : State) → CanHave [] plain t p' → (room' : ℕ) → length (written ps t k ks' p') ≤ room'
          → writer ps t k (suc n) ks' p' room' ≡ with_numbers (written ps t k ks' p') (run [] t k (suc n) p' []))
          → length (written ps t (suc k) ks p) ≤ room
          → writer ps t (suc k) n ks p room ≡ with_numbers (written ps t (suc k) ks p) (run [] t (suc k) n p [])
      go true e ih h = rw e
      go false e ih h = follow e (step [] t p []) refl (plain_step p C e) ih h

  pub write-full : (k n : ℕ) (ks : List Bool) (p : State) → CanHave [] plain t p → (room : ℕ) → room < length (written ps t k ks p)
      → FullFrom ps t k n ks p room (writer ps t k n ks p room)
  unfolding run written writer
  write-full zero n ks p C room h = absurd (omega arith)
  write-full (suc k) n ks p C room h =
      go (finished t p) refl (leb (length (step_choices ps t ks p p.here.row)) room) refl
      (λ p' C'. write-full k (suc n) (held_next t p.here.row ks) p' C') h
    where
      ks' : List Bool
      ks' = held_next t p.here.row ks

      xs : List ℕ
      xs = step_choices ps t ks p p.here.row

      later : (p' : State) → finished t p ≡ false → leb (length xs) room ≡ true → step [] t p [] ≡ gives (to p') []
          → FullFrom ps t k (suc n) ks' p' (room - length xs) (writer ps t k (suc n) ks' p' (room - length xs))
          → FullFrom ps t (suc k) n ks p room (writer ps t (suc k) n ks p room)
      later p' e g f F =
          let l : length xs ≤ room = leb-true (length xs) room g in
          record {
            steps = suc F.steps;
            last = F.last;
            report_is = rw (e, g, f, F.report_is) (ap (λ (m : ℕ). ended list_full m F.last (xs ++ written ps t F.steps ks' p')) (omega arith));
            plain_is = rw (e, f) (F.plain_is ∙ ap (λ (m : ℕ). ended out_of_steps m F.last []) (omega arith));
            within = omega (arith, F.within);
            fits = rw (e, f, length-append) (omega (arith, F.fits));
            more = rw (e, f, length-append) (omega (arith, F.more));
          }

      follow : finished t p ≡ false → leb (length xs) room ≡ true → (o : Out Move) → step [] t p [] ≡ o → Plain t o
          → ((p' : State) → CanHave [] plain t p' → (room' : ℕ) → room' < length (written ps t k ks' p')
          → FullFrom ps t k (suc n) ks' p' room' (writer ps t k (suc n) ks' p' room'))
          → room < length (written ps t (suc k) ks p) → FullFrom ps t (suc k) n ks p room (writer ps t (suc k) n ks p room)
      follow e g o f (goes {s = p'} C') ih h =
          let l : length xs ≤ room = leb-true (length xs) room g in
          let h' : room < length xs + length (written ps t k ks' p') = rw (e, f, length-append) at h in
          later p' e g f (ih p' C' (room - length xs) (omega arith))
      follow e g o f stops ih h =
          let h' : room < length xs + 0 = rw (e, f, length-append) at h in
          absurd (omega (arith, leb-true (length xs) room g))
      follow e g o f failed ih h =
          let h' : room < length xs + 0 = rw (e, f, length-append) at h in
          absurd (omega (arith, leb-true (length xs) room g))

      go : (b : Bool) → finished t p ≡ b → (d : Bool) → leb (length xs) room ≡ d
          → ((p' : State) → CanHave [] plain t p' → (room' : ℕ) → room' < length (written ps t k ks' p')
          → FullFrom ps t k (suc n) ks' p' room' (writer ps t k (suc n) ks' p' room'))
          → room < length (written ps t (suc k) ks p) → FullFrom ps t (suc k) n ks p room (writer ps t (suc k) n ks p room)
      go true e d g ih h = absurd (omega (arith, rw e at h))
      go false e false g ih h = record {
        steps = 0;
        last = p;
        report_is = rw (e, g) (ap (λ (m : ℕ). ended list_full m p []) (omega arith));
        plain_is = rw e (ap (λ (m : ℕ). ended out_of_steps m p []) (omega arith));
        within = omega arith;
        fits = omega arith;
        more = rw (e, length-append) (omega (arith, leb-false (length xs) room g));
      }
      go false e true g ih h = follow e g (step [] t p []) refl (plain_step p C e) ih h
