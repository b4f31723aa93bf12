-- The second run, handed the right numbers, is the first run.
-- Assumes nothing.
use mathlib.Core.Path.{◌≡◌, refl, sym, ap, ◌∙◌, subst}
use Prim.Native.Nat.{ℕ, zero, suc, ◌+◌, ◌≤◌, ◌<◌}
use native.Mathlib.Omega.{arith}
use native.Mathlib.Nat.{not-suc-le-zero}
use mathlib.Core.Bool.{Bool, true, false, false≢true}
use mathlib.Core.List.{List, [], ◌∷◌, ◌++◌, append_assoc, append-nil}
use lib.ListN.{get_or, replicate, length-replicate, get_or-replicate, get_or-eq_default}
use Rattle.std.specs.Prelude.{if◌then◌else◌}
use Rattle.lists.specs.Tab.{tab}
use Rattle.lists.proofs.TabLaws.{at-tab, length-tab}
use Rattle.model.specs.Class.{class}
use Rattle.model.specs.Table.{Row, Table, Ty, at_end, marked_pointer, marked_uint, row_at, row_kind, type_at}
use Rattle.model.specs.Table.Ty.{bool, uint, pointer}
use Rattle.model.specs.Table.Row.{skip, assign, store, assert, assume, array, loop, loop_end, reduced_store, reduced_array, class_loop}
use Rattle.model.specs.Table.Row.{procedure, returns, call, no_row}
use Rattle.model.specs.Work.{Out}
use Rattle.model.specs.State.{MachineKind, State, cell_count, classed, fresh, start_of, zero_of, places_in}
use Rattle.model.specs.State.MachineKind.{plain, reduced}
use Rattle.model.specs.State.Value.{Uint, Class}
use Rattle.model.specs.Eval.{cells_laid}
use Rattle.model.specs.Agree.{SameVariable}
use Rattle.model.specs.Step.{End, Move, Report, finished, run, step}
use Rattle.model.specs.Step.End.{done, failed, want_of_cells, out_of_steps, choice_not_allowed, no_choice_left}
use Rattle.model.specs.Step.Report.{ended, no_end}
use Rattle.model.specs.Writer.{held_after, held_next, onward, step_choices, written}
use Rattle.model.specs.Demand3.{MachineEnd}
use Rattle.model.proofs.Match.{Alike, All, Fitting, Plainly, all_append, at_none, left, plainly}
use Rattle.model.proofs.Match.Alike.{both-give, both-fail, both-bad, both-none, both-stuck}
use Rattle.model.proofs.Memory.{split}
use Rattle.model.proofs.KindsIn.{same-at_end}
use Rattle.model.proofs.Linked.{AlsoMarked, Extra, FitValue, Linked, Related, Tight, only_second}
use Rattle.model.proofs.MatchEval.{no-places, same-places}
use Rattle.model.proofs.MatchStep.{Moves, match-step}
use Rattle.model.proofs.Typing.{marked-uint}
use Rattle.model.proofs.MatchStep.Moves.{both_to, both-stop, first-wants, second-wants}

-- the choices that a report says are left
abbrev left_in : Report → List ℕ
left_in (ended e n s cs) = cs
left_in no_end = []

-- two runs by their limit, the second also by its choices: of k steps they end alike, the second leaving what stands after the numbers xs; or a
-- choice stops both, if the second has no more than xs; or one ends for want of cells, the second after j steps alike
pub data AlikeRuns (extra : Extra) (S : State → State → Type 0) (first : ℕ → Report) (second : ℕ → List ℕ → Report) (k : ℕ) (xs : List ℕ) : Type 0 where
  end-alike : (e : End) (n : ℕ) (p r : State) (cs : List ℕ) → S p r → first k ≡ ended e n p cs → ((ds : List ℕ) → second k (xs ++ ds) ≡ ended e n r ds)
      → AlikeRuns extra S first second k xs
  stop-alike : (e : End) → (MachineEnd plain e → ⊥) → (n : ℕ) (p r : State) (cs ls : List ℕ) → S p r → first k ≡ ended e n p cs
      → second k xs ≡ ended e n r ls → AlikeRuns extra S first second k xs
  first-lacks : (n : ℕ) (p : State) (cs : List ℕ) → first k ≡ ended want_of_cells n p cs → AlikeRuns extra S first second k xs
  second-lacks : Tight extra → (j n : ℕ) (p r : State) (cs ls : List ℕ) → j < k → S p r → first j ≡ ended out_of_steps n p cs
      → second j xs ≡ ended out_of_steps n r ls
      → second k xs ≡ ended want_of_cells (suc n) r [] → AlikeRuns extra S first second k xs
  stuck-alike : first k ≡ no_end → ((ds : List ℕ) → second k (xs ++ ds) ≡ no_end) → AlikeRuns extra S first second k xs

-- a step before
earlier : {extra : Extra} {S : State → State → Type 0} {first first' : ℕ → Report} {second second' : ℕ → List ℕ → Report} (k : ℕ) (xs ys : List ℕ)
    → ((j : ℕ) → first (suc j) ≡ first' j) → ((j : ℕ) (ds : List ℕ) → second (suc j) (xs ++ ds) ≡ second' j ds)
    → AlikeRuns extra S first' second' k ys → AlikeRuns extra S first second (suc k) (xs ++ ys)
earlier k xs ys f g (end-alike e n p r cs s a b) = end-alike e n p r cs s (f k ∙ a) (λ ds. rw append_assoc (g k (ys ++ ds) ∙ b ds))
earlier k xs ys f g (stop-alike e c n p r cs ls s a b) = stop-alike e c n p r cs ls s (f k ∙ a) (g k ys ∙ b)
earlier k xs ys f g (first-lacks n p cs a) = first-lacks n p cs (f k ∙ a)
earlier k xs ys f g (second-lacks l j n p r cs ls h s a b c) = second-lacks l (suc j) n p r cs ls (omega arith) s (f j ∙ a) (g j ys ∙ b) (g k ys ∙ c)
earlier k xs ys f g (stuck-alike a b) = stuck-alike (f k ∙ a) (λ ds. rw append_assoc (g k (ys ++ ds) ∙ b ds))

-- there are numbers to hand to the second; for the plain machine, where the second cannot lack cells, they are the list ys
pub record HandedRun (m : MachineKind) (F : ℕ → Type 0) (extra : Extra) (S : State → State → Type 0) (first : ℕ → Report) (second : ℕ → List ℕ → Report)
    (k : ℕ) (cs ys : List ℕ) : Type 0 where
  pub numbers : List ℕ
  pub alike : AlikeRuns extra S first second k numbers
  pub written : (Tight extra → ⊥) → Plainly m cs → numbers ≡ ys
  pub fitting : (first k ≡ no_end → ⊥) → All F numbers

-- no array is held reduced, as long as no pointer is marked
abbrev pub NoneHeld : List Bool → Type 0
NoneHeld ks = (i : ℕ) → get_or ks i false ≡ false

abbrev pub NoPointer : Table → Type 0
NoPointer t = (a : ℕ) → marked_pointer t a ≡ false

pub none-next : (t : Table) → NoPointer t → (n : ℕ) (ks : List Bool) → NoneHeld ks → NoneHeld (held_next t n ks)
none-next t none n ks h = either (at_end t n)
  where
    one_more : (ks : List Bool) → NoneHeld ks → NoneHeld (ks ++ false ∷ [])
    one_more [] h zero = refl
    one_more [] h (suc i) = refl
    one_more (k ∷ ks) h zero = h 0
    one_more (k ∷ ks) h (suc i) = one_more ks (λ j. h (suc j)) i

    go : (k : Row) → NoneHeld (held_after k (marked_pointer t (row_at t n).a) ks)
    go skip = h
    go assign = h
    go store = h
    go assert = h
    go assume = h
    go array = rw (none (row_at t n).a) (one_more ks h)
    go loop = h
    go loop_end = h
    go reduced_store = h
    go reduced_array = h
    go class_loop = h
    go procedure = h
    go returns = h
    go call = h
    go no_row = h

    either : (b : Bool) → NoneHeld (if b then ks else held_after (row_kind (row_at t n).kind) (marked_pointer t (row_at t n).a) ks)
    either true = h
    either false = go (row_kind (row_at t n).kind)

-- linked, for some arrays that the second holds reduced: none, where no pointer is marked
abbrev pub LinkedNow : {m : MachineKind} {F : ℕ → Type 0} {us bs : ℕ → Bool} {t v u : Table} → List ℕ → Extra → Related m F us bs t v u → State → State → Type 0
LinkedNow {m} {F} {us} {bs} {t} ps extra R p r = (ks : List Bool) × (NoPointer t → NoneHeld ks) × Linked m F ps extra t (only_second us (marked_uint t)) ks p r

module _ {m : MachineKind} {F : ℕ → Type 0} (ps : List ℕ) (extra : Extra) {us bs : ℕ → Bool} {t v u : Table} (R : Related m F us bs t v u)
    (small : (n : ℕ) → class ps n ≤ n + extra.per_array) where
  abbrev L : List Bool → State → State → Type 0
  L ks p r = Linked m F ps extra t (only_second us (marked_uint t)) ks p r

  inside-first : (p : State) (b : Bool) → finished t p ≡ b → finished v p ≡ b
  unfolding finished
  inside-first p b e = rw (same-at_end t v R.first p.here.row) e

  inside-second : {ks : List Bool} {p r : State} → L ks p r → (b : Bool) → finished t p ≡ b → finished u r ≡ b
  unfolding finished
  inside-second A b e = rw (A.here, A.callers, same-at_end t u R.second _) e

  plain_step : (p : State) (cs : List ℕ) → Plainly m cs → step [] t p [] ≡ step (places_in m ps) v p cs
  plain_step p cs h =
      sym (at_none m (step (places_in m ps) v p) cs h ∙ ap (λ qs. step qs v p []) (no-places m ps (plainly m cs h))
      ∙ ap (λ s. step [] s p []) (R.itself (plainly m cs h)))

  abbrev Runs : ℕ → ℕ → List Bool → State → State → List ℕ → Type 0
  Runs k n ks p r cs = HandedRun m F extra (LinkedNow ps extra R) (λ j. run (places_in m ps) v j n p cs) (λ j ds. run ps u j n r ds) k cs (written ps t k ks p)

  pub match-run : (k n : ℕ) (ks : List Bool) → (NoPointer t → NoneHeld ks) → {p r : State} → L ks p r → (cs : List ℕ) → All F cs → Runs k n ks p r cs
  unfolding run written
  match-run zero n ks N {p} {r} A cs q = go (finished t p) refl
    where
      go : (b : Bool) → finished t p ≡ b → Runs zero n ks p r cs
      go false e = record {
        numbers = [];
        alike = end-alike out_of_steps n p r cs (ks, N, A) (rw (inside-first p false e)) (λ ds. rw (inside-second A false e));
        written = λ l h. refl;
        fitting = λ z. tt;
      }
      go true e = record {
        numbers = [];
        alike = end-alike done n p r cs (ks, N, A) (rw (inside-first p true e)) (λ ds. rw (inside-second A true e));
        written = λ l h. refl;
        fitting = λ z. tt;
      }
  match-run (suc k) n ks N {p} {r} A cs q = go (finished t p) refl
      (λ p' r' A' cs' q'. match-run k (suc n) (held_next t p.here.row ks) (λ h. none-next t h p.here.row ks (N h)) A' cs' q')
    where
      ks' : List Bool
      ks' = held_next t p.here.row ks

      first_run : ℕ → Report
      first_run j = run (places_in m ps) v j n p cs

      second_run : ℕ → List ℕ → Report
      second_run j ds = run ps u j n r ds

      -- the numbers and nothing after them
      whole : {o : Out Move} (xs : List ℕ) → step ps u r (xs ++ []) ≡ o → step ps u r xs ≡ o
      whole xs e = ap (step ps u r) (sym (append-nil xs)) ∙ e

      -- what the first's step comes to, and the list
      stopped : (o : Out Move) → step (places_in m ps) v p cs ≡ o → finished t p ≡ false → onward o (written ps t k ks') ≡ [] → (xs : List ℕ)
          → (Plainly m cs → (xs ≡ step_choices ps t ks p p.here.row) × Plainly m (left o)) → (Tight extra → ⊥) → Plainly m cs
          → xs ≡ written ps t (suc k) ks p
      stopped o f e q xs w l h = (w h).0 ∙ rw (e, plain_step p cs h, f, q) (sym (append-nil (step_choices ps t ks p p.here.row)))

      follow : finished t p ≡ false → (o : Out Move) → step (places_in m ps) v p cs ≡ o → (xs : List ℕ) → Alike (Moves extra (L ks')) (step ps u r) xs o
          → (Plainly m cs → (xs ≡ step_choices ps t ks p p.here.row) × Plainly m (left o)) → Fitting F xs o
          → ((p' r' : State) → L ks' p' r' → (cs' : List ℕ) → All F cs' → Runs k (suc n) ks' p' r' cs') → Runs (suc k) n ks p r cs
      follow e o f xs (both-give {cs = cs'} (both_to {p = p'} {r = r'} A') g) w y ih =
          let H = ih p' r' A' cs' y.1 in
          let back : run (places_in m ps) v (suc k) n p cs ≡ run (places_in m ps) v k (suc n) p' cs' = rw (inside-first p false e, f) in
          record {
            numbers = xs ++ H.numbers;
            alike = earlier k xs H.numbers (λ j. rw (inside-first p false e, f)) (λ j ds. rw (inside-second A false e, g ds)) H.alike;
            written = λ l h. rw (e, plain_step p cs h, f, (w h).0, H.written l (w h).1);
            fitting = λ z. all_append F xs H.numbers y.0 (H.fitting (λ d. z (back ∙ d)));
          }
      follow e o f xs (both-give {cs = cs'} (both-stop {e = z}) g) w y ih = record {
        numbers = xs;
        alike = end-alike z (suc n) p r cs' (ks, N, A) (rw (inside-first p false e, f)) (λ ds. rw (inside-second A false e, g ds));
        written = stopped o f e refl xs w;
        fitting = λ z. y.0;
      }
      follow e o f xs (both-give {cs = cs'} first-wants g) w y ih = record {
        numbers = xs;
        alike = first-lacks (suc n) p cs' (rw (inside-first p false e, f));
        written = stopped o f e refl xs w;
        fitting = λ z. y.0;
      }
      follow e o f xs (both-give {cs = cs'} (second-wants l) g) w y ih = record {
        numbers = xs;
        alike = second-lacks l 0 n p r cs xs (omega arith) (ks, N, A) (rw (inside-first p false e)) (rw (inside-second A false e))
            (rw (inside-second A false e, whole xs (g [])));
        written = λ h. absurd (h l);
        fitting = λ z. y.0;
      }
      follow e o f xs (both-fail {why = why} {cs = cs'} g) w y ih = record {
        numbers = xs;
        alike = end-alike (failed why) (suc n) p r cs' (ks, N, A) (rw (inside-first p false e, f)) (λ ds. rw (inside-second A false e, g ds));
        written = stopped o f e refl xs w;
        fitting = λ z. y;
      }
      follow e o f xs (both-bad g) w y ih = record {
        numbers = xs;
        alike = stop-alike choice_not_allowed (λ h. h) n p r (left_in (first_run (suc k))) (left_in (second_run (suc k) xs)) (ks, N, A)
            (rw (inside-first p false e, f)) (rw (inside-second A false e, whole xs (g [])));
        written = stopped o f e refl xs w;
        fitting = λ z. y;
      }
      follow e o f xs (both-none g) w y ih = record {
        numbers = xs;
        alike = stop-alike no_choice_left (λ h. h) n p r (left_in (first_run (suc k))) (left_in (second_run (suc k) xs)) (ks, N, A)
            (rw (inside-first p false e, f)) (rw (inside-second A false e, g));
        written = stopped o f e refl xs w;
        fitting = λ z. y;
      }
      follow e o f xs (both-stuck g) w y ih = record {
        numbers = xs;
        alike = stuck-alike (rw (inside-first p false e, f)) (λ ds. rw (inside-second A false e, g ds));
        written = stopped o f e refl xs w;
        fitting = λ z. absurd (z (rw (inside-first p false e, f)));
      }

      go : (b : Bool) → finished t p ≡ b → ((p' r' : State) → L ks' p' r' → (cs' : List ℕ) → All F cs' → Runs k (suc n) ks' p' r' cs')
          → Runs (suc k) n ks p r cs
      go false e ih = let H = (match-step ps extra R small ks A).each cs q in follow e (step (places_in m ps) v p cs) refl H.numbers H.alike
          H.written H.fitting ih
      go true e ih = record {
        numbers = [];
        alike = end-alike done n p r cs (ks, N, A) (rw (inside-first p true e)) (λ ds. rw (inside-second A true e));
        written = λ l h. rw e;
        fitting = λ z. tt;
      }

-- ---- from fresh states

module _ {m : MachineKind} {F : ℕ → Type 0} (ps : List ℕ) (extra : Extra) {us bs : ℕ → Bool} {t v u : Table} (R : Related m F us bs t v u)
    (h : cell_count m + extra.in_all ≤ cell_count reduced) where
  -- a variable that only the second holds as a class is 0 in the first
  fresh-variable : (i : ℕ) → SameVariable ps (only_second us (marked_uint t) i) (start_of (places_in m ps) m v i) (start_of ps reduced u i)
  fresh-variable i = rw (R.first.classes i, R.second.classes i, R.first.type i, R.second.type i)
      (go (us i) (marked_uint t i) (R.uints i) (marked-uint t i))
    where
      go : (b c : Bool) → AlsoMarked m b c → (c ≡ true → type_at t i ≡ uint)
          → SameVariable ps (if b then false else c) (if b then Class (class (places_in m ps) 0) else zero_of (type_at t i))
          (if c then Class (class ps 0) else zero_of (type_at t i))
      go false false a w = refl
      go false true a w = (0, ap zero_of (w refl), refl)
      go true false a w = absurd (false≢true (a refl).1)
      go true true a w = ap (λ qs. Class (class qs 0)) (sym (same-places (a refl).0 ps))

  fresh-fits : (b : Bool) (w : Ty) → FitValue F (if b then Class (class (places_in m ps) 0) else zero_of w)
  fresh-fits true w = tt
  fresh-fits false bool = tt
  fresh-fits false uint = R.closed.none
  fresh-fits false pointer = R.closed.none

  pub fresh-linked : Linked m F ps extra t (only_second us (marked_uint t)) [] (fresh (places_in m ps) m v) (fresh ps reduced u)
  unfolding fresh cells_laid
  fresh-linked = record {
    here = refl;
    callers = refl;
    vars = record {
      number = length-tab u.decls (start_of ps reduced u) ∙ R.second.decls ∙ sym (length-tab v.decls (start_of (places_in m ps) m v) ∙ R.first.decls);
      variable = λ i l.
          let k : i < v.decls = omega (arith, length-tab v.decls (start_of (places_in m ps) m v)) in
          let k' : i < u.decls = omega (arith, R.first.decls, R.second.decls) in
          rw (at-tab v.decls (start_of (places_in m ps) m v) (Uint 0) i k, at-tab u.decls (start_of ps reduced u) (Uint 0) i k') (fresh-variable i);
    };
    memory = record {
      number = refl;
      flags = refl;
      flag = λ i l. absurd (not-suc-le-zero l);
      also = λ i l. absurd (not-suc-le-zero l);
      len = λ i l. absurd (not-suc-le-zero l);
      equal = λ i l. absurd (not-suc-le-zero l);
      laid_first = record { sequence = tt; room = omega arith };
      laid_second = record { sequence = tt; room = omega arith };
      fewer = omega arith;
      room = simp length-replicate h;
    };
    fit_vars = λ i. split v.decls i
        (λ l. subst (FitValue F)
        (sym (get_or-eq_default (tab v.decls (start_of (places_in m ps) m v)) (Uint 0) {n = i}
        (omega (arith, length-tab v.decls (start_of (places_in m ps) m v))))) R.closed.none)
        (λ l. subst (FitValue F) (sym (at-tab v.decls (start_of (places_in m ps) m v) (Uint 0) i l)) (fresh-fits (classed m v i) (type_at v i)));
    fit_cells = λ i. split (cell_count m) i
        (λ l. subst F (sym (get_or-eq_default (replicate (cell_count m) 0) 0 {n = i} (omega (arith, length-replicate {A = ℕ} (cell_count m) 0))))
        R.closed.none)
        (λ l. subst F (sym (get_or-replicate (cell_count m) i 0 0 l)) R.closed.none);
    fit_loops = tt;
    fit_callers = tt;
  }

  pub fresh-runs : ((n : ℕ) → class ps n ≤ n + extra.per_array) → (limit : ℕ) (cs : List ℕ) → All F cs
      → HandedRun m F extra (LinkedNow ps extra R) (λ j. run (places_in m ps) v j 0 (fresh (places_in m ps) m v) cs)
      (λ j ds. run ps u j 0 (fresh ps reduced u) ds) limit cs
      (written ps t limit [] (fresh (places_in m ps) m v))
  fresh-runs small limit cs q = match-run ps extra R small limit 0 [] (λ h i. refl) fresh-linked cs q
