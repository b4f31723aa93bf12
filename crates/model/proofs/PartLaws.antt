-- A run in parts, or in turns, is one run; a run out of steps took them all; and no run changes how many cells there are.
-- Assumes nothing.
use mathlib.Core.Path.{◌≡◌, refl, sym, ap, ◌∙◌, subst}
use Prim.Native.Nat.{ℕ, zero, suc, ◌+◌, ◌*◌, ◌-◌, ◌≤◌, ◌<◌}
use native.Mathlib.Nat.{suc-add, suc-mul, zero-add}
use native.Mathlib.Omega.{arith}
use mathlib.Core.Bool.{Bool, true, false, false≢true}
use mathlib.Core.List.{List}
use lib.ListN.{length}
use lib.Dec.{leb}
use borrow.Author.Tests.{leb-true, leb-false}
use Rattle.std.specs.Prelude.{if◌then◌else◌}
use Rattle.model.specs.Table.{Table}
use Rattle.model.specs.Work.{Out}
use Rattle.model.specs.Work.Out.{gives, fails, bad_choice, no_choice, stuck}
use Rattle.model.specs.State.{State}
use Rattle.model.specs.Step.{Move, Report, after, finished, step, run}
use Rattle.model.specs.Step.End.{done, failed, out_of_steps}
use Rattle.model.specs.Step.Move.{to, stop}
use Rattle.model.specs.Step.Report.{ended, no_end}
use Rattle.model.specs.RunsInParts.{is_out, counted_from, lesser, go_on, next_turn, PartsAreOneRun, TurnsAreOneRun}
use Rattle.model.proofs.Memory.{split}
use Rattle.model.proofs.StepSizes.{step-cells, step-stops}

module _ (ps : List ℕ) (t : Table) where
  -- ---- a run counts its steps on from those before it

  counts-from : (k j n : ℕ) (s : State) (cs : List ℕ) → run ps t k (j + n) s cs ≡ counted_from j (run ps t k n s cs)
  unfolding run
  counts-from zero j n s cs = go (finished t s)
    where
      go : (b : Bool) → (if b then ended done (j + n) s cs else ended out_of_steps (j + n) s cs)
          ≡ counted_from j (if b then ended done n s cs else ended out_of_steps n s cs)
      go true = refl
      go false = refl
  counts-from (suc k) j n s cs = go (finished t s) (step ps t s cs) (counts-from k j (suc n))
    where
      later : suc (j + n) ≡ j + suc n
      later = omega arith

      go : (b : Bool) (o : Out Move) → ((s' : State) (cs' : List ℕ) → run ps t k (j + suc n) s' cs' ≡ counted_from j (run ps t k (suc n) s' cs'))
          → (if b then ended done (j + n) s cs else after (j + n) s cs o (run ps t k (suc (j + n))))
          ≡ counted_from j (if b then ended done n s cs else after n s cs o (run ps t k (suc n)))
      go true o ih = refl
      go false (gives (to s') cs') ih = ap (λ (i : ℕ). run ps t k i s' cs') later ∙ ih s' cs'
      go false (gives (stop e) cs') ih = ap (λ (i : ℕ). ended e i s cs') later
      go false (fails why cs') ih = ap (λ (i : ℕ). ended (failed why) i s cs') later
      go false bad_choice ih = refl
      go false no_choice ih = refl
      go false stuck ih = refl

  -- ---- one run after another

  -- the run that follows, counting on
  abbrev followed : ℕ → Report → Report
  followed n (ended e k s left) = if is_out e then run ps t n k s left else ended e k s left
  followed n no_end = no_end

  followed-goes : (n : ℕ) (r : Report) → followed n r ≡ go_on ps t n r
  followed-goes n (ended e k s left) = go (is_out e)
    where
      go : (b : Bool) → (if b then run ps t n k s left else ended e k s left) ≡ (if b then counted_from k (run ps t n 0 s left) else ended e k s left)
      go true = ap (λ (i : ℕ). run ps t n i s left) (let z : k ≡ k + 0 = omega arith in z) ∙ counts-from n k 0 s left
      go false = refl
  followed-goes n no_end = refl

  -- a run that is done is done whatever its limit
  done-at-once : (n j : ℕ) (s : State) (cs : List ℕ) → finished t s ≡ true → run ps t n j s cs ≡ ended done j s cs
  unfolding run
  done-at-once zero j s cs e = rw e
  done-at-once (suc n) j s cs e = rw e

  joins : (m n j : ℕ) (s : State) (cs : List ℕ) → run ps t (m + n) j s cs ≡ followed n (run ps t m j s cs)
  unfolding run
  joins zero n j s cs = ap (λ (i : ℕ). run ps t i j s cs) (zero-add n) ∙ go (finished t s) refl
    where
      go : (b : Bool) → finished t s ≡ b → run ps t n j s cs ≡ followed n (if b then ended done j s cs else ended out_of_steps j s cs)
      go true e = done-at-once n j s cs e
      go false e = refl
  joins (suc m) n j s cs = ap (λ (i : ℕ). run ps t i j s cs) (suc-add m n) ∙ go (finished t s) (step ps t s cs) refl (joins m n (suc j))
    where
      go : (b : Bool) (o : Out Move) → step ps t s cs ≡ o
          → ((s' : State) (cs' : List ℕ) → run ps t (m + n) (suc j) s' cs' ≡ followed n (run ps t m (suc j) s' cs'))
          → (if b then ended done j s cs else after j s cs o (run ps t (m + n) (suc j)))
          ≡ followed n (if b then ended done j s cs else after j s cs o (run ps t m (suc j)))
      go true o e ih = refl
      go false (gives (to s') cs') e ih = ih s' cs'
      go false (gives (stop end) cs') e ih = rw (step-stops ps t s cs e)
      go false (fails why cs') e ih = refl
      go false bad_choice e ih = refl
      go false no_choice e ih = refl
      go false stuck e ih = refl

  -- ---- out of steps

  -- n steps are all that it may take, and it is not done
  abbrev OutAfter : ℕ → Report → Type 0
  OutAfter n (ended e k s left) = is_out e ≡ true → (k ≡ n) × (finished t s ≡ false)
  OutAfter n no_end = Unit {0}

  out-after : (m j : ℕ) (s : State) (cs : List ℕ) → OutAfter (j + m) (run ps t m j s cs)
  unfolding run
  out-after zero j s cs = go (finished t s) refl
    where
      go : (b : Bool) → finished t s ≡ b → OutAfter (j + 0) (if b then ended done j s cs else ended out_of_steps j s cs)
      go true f = λ h. absurd (false≢true h)
      go false f = λ h. (omega arith, f)
  out-after (suc m) j s cs = go (finished t s) (step ps t s cs) refl (out-after m (suc j))
    where
      go : (b : Bool) (o : Out Move) → step ps t s cs ≡ o → ((s' : State) (cs' : List ℕ) → OutAfter (suc j + m) (run ps t m (suc j) s' cs'))
          → OutAfter (j + suc m) (if b then ended done j s cs else after j s cs o (run ps t m (suc j)))
      go true o e ih = λ h. absurd (false≢true h)
      go false (gives (to s') cs') e ih = let z : suc j + m ≡ j + suc m = omega arith in rw z at (ih s' cs')
      go false (gives (stop end) cs') e ih = λ h. absurd (false≢true (sym (step-stops ps t s cs e) ∙ h))
      go false (fails why cs') e ih = λ h. absurd (false≢true h)
      go false bad_choice e ih = λ h. absurd (false≢true h)
      go false no_choice e ih = λ h. absurd (false≢true h)
      go false stuck e ih = tt

  out-in-all : (m : ℕ) (s : State) (cs : List ℕ) → OutAfter m (run ps t m 0 s cs)
  out-in-all m s cs = subst (λ (n : ℕ). OutAfter n (run ps t m 0 s cs)) (zero-add m) (out-after m 0 s cs)

  -- ---- the number of cells

  abbrev pub HasCells : ℕ → Report → Type 0
  HasCells c (ended e k s left) = length s.cells ≡ c
  HasCells c no_end = Unit {0}

  pub cells_stay : (m j : ℕ) (s : State) (cs : List ℕ) → HasCells (length s.cells) (run ps t m j s cs)
  unfolding run
  cells_stay zero j s cs = go (finished t s)
    where
      go : (b : Bool) → HasCells (length s.cells) (if b then ended done j s cs else ended out_of_steps j s cs)
      go true = refl
      go false = refl
  cells_stay (suc m) j s cs = go (finished t s) (step ps t s cs) refl (cells_stay m (suc j))
    where
      go : (b : Bool) (o : Out Move) → step ps t s cs ≡ o → ((s' : State) (cs' : List ℕ) → HasCells (length s'.cells) (run ps t m (suc j) s' cs'))
          → HasCells (length s.cells) (if b then ended done j s cs else after j s cs o (run ps t m (suc j)))
      go true o e ih = refl
      go false (gives (to s') cs') e ih = subst (λ (c : ℕ). HasCells c (run ps t m (suc j) s' cs')) (step-cells ps t s cs e) (ih s' cs')
      go false (gives (stop end) cs') e ih = refl
      go false (fails why cs') e ih = refl
      go false bad_choice e ih = refl
      go false no_choice e ih = refl
      go false stuck e ih = tt

pub parts-are-one-run : PartsAreOneRun
parts-are-one-run ps t m n s cs = joins ps t m n 0 s cs ∙ followed-goes ps t n (run ps t m 0 s cs)

-- a run that ended out of steps: it took all of them, and for 0 more it stays as it is
module _ (ps : List ℕ) (t : Table) (limit steps : ℕ) (start last : State) (choices left : List ℕ)
    (e : run ps t limit 0 start choices ≡ ended out_of_steps steps last left) where
  out : (steps ≡ limit) × (finished t last ≡ false)
  out = subst (OutAfter ps t limit) e (out-in-all ps t limit start choices) refl

  pub took-all : steps ≡ limit
  took-all = out.0

  pub for-none : run ps t 0 0 last left ≡ ended out_of_steps 0 last left
  unfolding run
  for-none = rw out.1

-- ---- turns

lesser-first : (a b : ℕ) → a ≤ b → lesser a b ≡ a
lesser-first a b h = go (leb a b) refl
  where
    go : (x : Bool) → leb a b ≡ x → (if x then a else b) ≡ a
    go true e = refl
    go false e = absurd (omega (arith, leb-false a b e))

lesser-second : (a b : ℕ) → b ≤ a → lesser a b ≡ b
lesser-second a b h = go (leb a b) refl
  where
    go : (x : Bool) → leb a b ≡ x → (if x then a else b) ≡ b
    go true e = omega (arith, leb-true a b e)
    go false e = refl

-- c more of a limit
lesser-more : (a c limit : ℕ) → lesser a limit + lesser c (limit - lesser a limit) ≡ lesser (a + c) limit
lesser-more a c limit = split a limit within beyond
  where
    within : a ≤ limit → lesser a limit + lesser c (limit - lesser a limit) ≡ lesser (a + c) limit
    within h =
        rw (lesser-first a limit h)
        (split (a + c) limit (λ k. omega (arith, lesser-first c (limit - a) (omega arith), lesser-first (a + c) limit k))
        (λ k. omega (arith, lesser-second c (limit - a) (omega arith), lesser-second (a + c) limit (omega arith))))

    beyond : limit < a → lesser a limit + lesser c (limit - lesser a limit) ≡ lesser (a + c) limit
    beyond h =
        rw (lesser-second a limit (omega arith))
        (omega (arith, lesser-second c (limit - limit) (omega arith), lesser-second (a + c) limit (omega arith)))

module _ (ps : List ℕ) (t : Table) (c limit : ℕ) where
  -- the next turn of a run of m steps
  turn-goes : (m : ℕ) (r : Report) → OutAfter ps t m r → next_turn ps t c limit r ≡ go_on ps t (lesser c (limit - m)) r
  turn-goes m (ended e k s left) h = go (is_out e) h
    where
      go : (b : Bool) → (b ≡ true → (k ≡ m) × (finished t s ≡ false))
          → (if b then counted_from k (run ps t (lesser c (limit - k)) 0 s left) else ended e k s left)
          ≡ (if b then counted_from k (run ps t (lesser c (limit - m)) 0 s left) else ended e k s left)
      go true h = ap (λ (i : ℕ). counted_from k (run ps t (lesser c (limit - i)) 0 s left)) (h refl).0
      go false h = refl
  turn-goes m no_end h = refl

pub turns-are-one-run : TurnsAreOneRun
turns-are-one-run ps t c limit zero s cs =
    let none : 0 ≡ lesser (0 * c) limit = omega (arith, lesser-first (0 * c) limit (omega arith)) in
    ap (λ (n : ℕ). run ps t n 0 s cs) none
turns-are-one-run ps t c limit (suc turns) s cs =
    let m = lesser (turns * c) limit in
    ap (next_turn ps t c limit) (turns-are-one-run ps t c limit turns s cs)
    ∙ turn-goes ps t c limit m (run ps t m 0 s cs) (out-in-all ps t m s cs)
    ∙ sym (parts-are-one-run ps t m (lesser c (limit - m)) s cs)
    ∙ ap (λ (n : ℕ). run ps t n 0 s cs) (lesser-more (turns * c) c limit ∙ ap (λ (n : ℕ). lesser n limit) (sym (suc-mul turns c)))
