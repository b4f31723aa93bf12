-- Two ways of working something out match: the second, handed certain numbers, comes to what the first comes to with its own choices.
-- Assumes nothing.
use mathlib.Core.Path.{◌≡◌, refl, sym, ap, ◌∙◌, subst, fun_ext}
use Prim.Native.Nat.{ℕ}
use mathlib.Core.Bool.{Bool, true, false}
use mathlib.Core.List.{List, [], ◌∷◌, ◌++◌, append_assoc, append-nil}
use Rattle.std.specs.Prelude.{if◌then◌else◌}
use Rattle.model.specs.Work.{Reason, Out, Work, ◌>>=◌, choose, fail, give, next, wrong}
use Rattle.model.specs.Work.Out.{gives, fails, bad_choice, no_choice, stuck}
use Rattle.model.specs.State.{MachineKind}
use Rattle.model.specs.State.MachineKind.{plain, reduced}
use Rattle.model.specs.Writer.{given}

-- the first comes to o; the second, r, handed the numbers xs, comes to the like, a failure with the same reason, and leaves what stands
-- after them. Where the first has no choice left, the second has none if it is handed no more
pub data Alike {A B : Type 0} (S : A → B → Type 0) (r : Work B) (xs : List ℕ) : Out A → Type 0 where
  both-give : {a : A} {b : B} {cs : List ℕ} → S a b → ((ds : List ℕ) → r (xs ++ ds) ≡ gives b ds) → Alike S r xs (gives a cs)
  both-fail : {why : Reason} {cs : List ℕ} → ((ds : List ℕ) → r (xs ++ ds) ≡ fails why ds) → Alike S r xs (fails why cs)
  both-bad : ((ds : List ℕ) → r (xs ++ ds) ≡ bad_choice) → Alike S r xs bad_choice
  both-none : r xs ≡ no_choice → Alike S r xs no_choice
  both-stuck : ((ds : List ℕ) → r (xs ++ ds) ≡ stuck) → Alike S r xs stuck

-- the first is the plain machine, which takes no choice, and has none
abbrev pub Plainly : MachineKind → List ℕ → Type 0
Plainly plain cs = cs ≡ []
Plainly reduced cs = ⊥

abbrev pub left : {A : Type 0} → Out A → List ℕ
left (gives a cs) = cs
left (fails why cs) = []
left bad_choice = []
left no_choice = []
left stuck = []

-- every number of a list fits
abbrev pub All : (ℕ → Type 0) → List ℕ → Type 0
All F [] = Unit {0}
All F (c ∷ cs) = F c × All F cs

pub all_append : (F : ℕ → Type 0) (xs ys : List ℕ) → All F xs → All F ys → All F (xs ++ ys)
all_append F [] ys h k = k
all_append F (x ∷ xs) ys h k = (h.0, all_append F xs ys h.1 k)

-- the numbers handed over fit, and so do the choices left to the first
abbrev pub Fitting : {A : Type 0} → (ℕ → Type 0) → List ℕ → Out A → Type 0
Fitting F xs (gives a cs) = All F xs × All F cs
Fitting F xs (fails why cs) = All F xs
Fitting F xs bad_choice = All F xs
Fitting F xs no_choice = All F xs
Fitting F xs stuck = Unit {0}

-- from the choices cs the first comes to o; there are numbers to hand to the second, and for the plain machine they are the list ys
pub record Handed {A B : Type 0} (m : MachineKind) (F : ℕ → Type 0) (S : A → B → Type 0) (r : Work B) (ys cs : List ℕ) (o : Out A) : Type 0 where
  pub numbers : List ℕ
  pub alike : Alike S r numbers o
  pub written : Plainly m cs → (numbers ≡ ys) × Plainly m (left o)
  pub fitting : Fitting F numbers o

-- ... whatever the first's choices, of numbers that fit
pub record Matches {A B : Type 0} (m : MachineKind) (F : ℕ → Type 0) (S : A → B → Type 0) (f : Work A) (r : Work B) (ys : List ℕ) : Type 0 where
  pub each : (cs : List ℕ) → All F cs → Handed m F S r ys cs (f cs)

-- ... with equal values, of which P holds
abbrev pub Match : {A : Type 0} → MachineKind → (ℕ → Type 0) → (A → Type 0) → Work A → Work A → List ℕ → Type 0
Match m F P f r ys = Matches m F (λ a b. (b ≡ a) × P a) f r ys

pub plainly : (m : MachineKind) (cs : List ℕ) → Plainly m cs → Plainly m []
plainly plain cs h = refl
plainly reduced cs h = h

-- the plain machine gives its answer from no choice at all
pub at_none : {A : Type 0} (m : MachineKind) (f : Work A) (cs : List ℕ) → Plainly m cs → f cs ≡ f []
at_none plain f cs h = ap f h
at_none reduced f cs h = absurd h

-- another list, which is the same for the plain machine
pub listed : {m : MachineKind} {F : ℕ → Type 0} {A B : Type 0} {S : A → B → Type 0} {f : Work A} {r : Work B} {ys zs : List ℕ} → (Plainly m [] → ys ≡ zs)
    → Matches m F S f r ys → Matches m F S f r zs
listed {m} e x = record {
  each = λ cs q. record {
    numbers = (x.each cs q).numbers;
    alike = (x.each cs q).alike;
    written = λ h. (((x.each cs q).written h).0 ∙ e (plainly m cs h), ((x.each cs q).written h).1);
    fitting = (x.each cs q).fitting;
  };
}

-- by what the two are, or do
module _ {m : MachineKind} {F : ℕ → Type 0} {A B : Type 0} {S : A → B → Type 0} {f f' : Work A} {r r' : Work B} {ys : List ℕ} where
  pub matches-are : f ≡ f' → r ≡ r' → Matches m F S f' r' ys → Matches m F S f r ys
  matches-are e g x = subst (λ f. Matches m F S f r ys) (sym e) (subst (λ r. Matches m F S f' r ys) (sym g) x)

  pub matches-as : ((cs : List ℕ) → f cs ≡ f' cs) → ((cs : List ℕ) → r cs ≡ r' cs) → Matches m F S f' r' ys → Matches m F S f r ys
  matches-as e g x = matches-are (fun_ext e) (fun_ext g) x

-- ---- what takes no choice

module _ {m : MachineKind} {F : ℕ → Type 0} {A B : Type 0} {S : A → B → Type 0} where
  pub matches-give : {a : A} {b : B} → S a b → Matches m F S (give a) (give b) []
  matches-give s = record { each = λ cs q. record { numbers = []; alike = both-give s (λ ds. refl); written = λ h. (refl, h); fitting = (tt, q) } }

  -- with one reason
  pub matches-fail : {why : Reason} → Matches m F S (fail {A = A} why) (fail {A = B} why) []
  matches-fail = record { each = λ cs q. record { numbers = []; alike = both-fail (λ ds. refl); written = λ h. (refl, plainly m cs h); fitting = tt } }

  -- no end on both sides, whatever the choices
  pub matches-wrong : {xs : List ℕ} → Matches m F S (wrong {A = A}) (wrong {A = B}) xs
  matches-wrong {xs} = record { each = λ cs q. record { numbers = xs; alike = both-stuck (λ ds. refl); written = λ h. (refl, plainly m cs h); fitting = tt } }

  pub matches-if : (b : Bool) {f f' : Work A} {r r' : Work B} {xs ys : List ℕ} → Matches m F S f r xs → Matches m F S f' r' ys
      → Matches m F S (if b then f else f') (if b then r else r') (if b then xs else ys)
  matches-if true x y = x
  matches-if false x y = y

  pub matches-either : (b : Bool) {f f' : Work A} {r r' : Work B} → Matches m F S f r [] → Matches m F S f' r' []
      → Matches m F S (if b then f else f') (if b then r else r') []
  matches-either true x y = x
  matches-either false x y = y

pub match-give : {m : MachineKind} {F : ℕ → Type 0} {A : Type 0} {P : A → Type 0} {a : A} → P a → Match m F P (give a) (give a) []
match-give h = matches-give (refl, h)

-- ---- a choice

-- both take one, of the same numbers: so the first is no plain machine
pub match-choose : {m : MachineKind} {F : ℕ → Type 0} {ys : List ℕ} → (Plainly m [] → ⊥) → (ok : ℕ → Bool) → Match m F F (choose ok) (choose ok) ys
match-choose {m} {F} {ys} never ok = record { each = go }
  where
    pick : (b : Bool) (c : ℕ) (cs : List ℕ) → ok c ≡ b → All F (c ∷ cs)
        → Handed m F (λ a b. (b ≡ a) × F a) (choose ok) ys (c ∷ cs) (if b then gives c cs else bad_choice)
    pick true c cs e q = record {
      numbers = c ∷ [];
      alike = both-give {a = c} {b = c} (refl, q.0) (λ ds. rw e);
      written = λ h. absurd (never (plainly m (c ∷ cs) h));
      fitting = ((q.0, tt), q.1);
    }
    pick false c cs e q = record {
      numbers = c ∷ [];
      alike = both-bad (λ ds. rw e);
      written = λ h. absurd (never (plainly m (c ∷ cs) h));
      fitting = (q.0, tt);
    }

    go : (cs : List ℕ) → All F cs → Handed m F (λ a b. (b ≡ a) × F a) (choose ok) ys cs (choose ok cs)
    go [] q = record { numbers = []; alike = both-none refl; written = λ h. absurd (never h); fitting = tt }
    go (c ∷ cs) q = pick (ok c) c cs refl q

-- only the second does: it is handed the first's number
pub match-told : {m : MachineKind} {F : ℕ → Type 0} (ok : ℕ → Bool) (n : ℕ) → ok n ≡ true → F n → Match m F F (give n) (choose ok) (n ∷ [])
match-told ok n e k = record {
  each = λ cs q. record {
    numbers = n ∷ [];
    alike = both-give {a = n} {b = n} (refl, k) (λ ds. rw e);
    written = λ h. (refl, h);
    fitting = ((k, tt), q);
  };
}

-- ---- one after the other

after-numbers : {A B : Type 0} {S : A → B → Type 0} {r l : Work B} (xs : List ℕ) {ys : List ℕ} {o : Out A} → ((ds : List ℕ) → r (xs ++ ds) ≡ l ds)
    → Alike S l ys o → Alike S r (xs ++ ys) o
after-numbers xs {ys} e (both-give s f) = both-give s (λ ds. rw append_assoc (e (ys ++ ds) ∙ f ds))
after-numbers xs {ys} e (both-fail {why = why} f) = both-fail {why = why} (λ ds. rw append_assoc (e (ys ++ ds) ∙ f ds))
after-numbers xs {ys} e (both-bad f) = both-bad (λ ds. rw append_assoc (e (ys ++ ds) ∙ f ds))
after-numbers xs {ys} e (both-none f) = both-none (e ys ∙ f)
after-numbers xs {ys} e (both-stuck f) = both-stuck (λ ds. rw append_assoc (e (ys ++ ds) ∙ f ds))

after-fitting : {A : Type 0} (F : ℕ → Type 0) (xs ys : List ℕ) (o : Out A) → All F xs → Fitting F ys o → Fitting F (xs ++ ys) o
after-fitting F xs ys (gives a cs) h k = (all_append F xs ys h k.0, k.1)
after-fitting F xs ys (fails why cs) h k = all_append F xs ys h k
after-fitting F xs ys bad_choice h k = all_append F xs ys h k
after-fitting F xs ys no_choice h k = all_append F xs ys h k
after-fitting F xs ys stuck h k = tt

pub given-none : {A : Type 0} (o : Out A) (k : A → List ℕ) → ((a : A) → k a ≡ []) → given o k ≡ []
given-none (gives a cs) k h = h a
given-none (fails why cs) k h = refl
given-none bad_choice k h = refl
given-none no_choice k h = refl
given-none stuck k h = refl

module _ {m : MachineKind} {F : ℕ → Type 0} {A B C D : Type 0} {S : A → B → Type 0} {U : C → D → Type 0}
    {f : Work A} {r : Work B} {k : A → Work C} {l : B → Work D} {ys : List ℕ} where
  -- the numbers of the first part, and then, if it gives a value, those of the second
  pub matches-bind : {zs : A → List ℕ} → Matches m F S f r ys → ((a : A) (b : B) → S a b → Matches m F U (k a) (l b) (zs a))
      → Matches m F U (f >>= k) (r >>= l) (ys ++ given (f []) zs)
  matches-bind {zs} x y = record {
    each = λ cs q.
        let H = x.each cs q in
        go cs (f cs) H.numbers H.alike (λ h. (at_none m f cs h, (H.written h).0, (H.written h).1)) H.fitting;
  }
    where
      ends : (cs xs : List ℕ) (o : Out C) → Alike U (r >>= l) xs o → (Plainly m cs → (xs ≡ ys) × (given (f []) zs ≡ []) × Plainly m (left o))
          → Fitting F xs o → Handed m F U (r >>= l) (ys ++ given (f []) zs) cs o
      ends cs xs o a w q = record {
        numbers = xs;
        alike = a;
        written = λ h. ((w h).0 ∙ sym (append-nil ys) ∙ ap (λ zs. ys ++ zs) (sym (w h).1), (w h).2);
        fitting = q;
      }

      go : (cs : List ℕ) (o : Out A) (xs : List ℕ) → Alike S r xs o → (Plainly m cs → (o ≡ f []) × (xs ≡ ys) × Plainly m (left o)) → Fitting F xs o
          → Handed m F U (r >>= l) (ys ++ given (f []) zs) cs (next o k)
      go cs o xs (both-give {a = a} {b = b} {cs = cs'} s e) w q =
          let H = (y a b s).each cs' q.1 in
          record {
            numbers = xs ++ H.numbers;
            alike = after-numbers xs (λ ds. ap (λ o. next o l) (e ds)) H.alike;
            written = λ h. (rw ((w h).1, (H.written (w h).2).0, ← (w h).0), (H.written (w h).2).1);
            fitting = after-fitting F xs H.numbers (k a cs') q.0 H.fitting;
          }
      go cs o xs (both-fail e) w q = ends cs xs _ (both-fail (λ ds. ap (λ o. next o l) (e ds))) (λ h. ((w h).1, ap (λ o. given o zs) (sym (w h).0), (w h).2)) q
      go cs o xs (both-bad e) w q = ends cs xs _ (both-bad (λ ds. ap (λ o. next o l) (e ds))) (λ h. ((w h).1, ap (λ o. given o zs) (sym (w h).0), (w h).2)) q
      go cs o xs (both-none e) w q = ends cs xs _ (both-none (ap (λ o. next o l) e)) (λ h. ((w h).1, ap (λ o. given o zs) (sym (w h).0), (w h).2)) q
      go cs o xs (both-stuck e) w q = ends cs xs _ (both-stuck (λ ds. ap (λ o. next o l) (e ds)))
          (λ h. ((w h).1, ap (λ o. given o zs) (sym (w h).0), (w h).2)) q

  -- where the second part is handed nothing
  pub matches-with : Matches m F S f r ys → ((a : A) (b : B) → S a b → Matches m F U (k a) (l b) []) → Matches m F U (f >>= k) (r >>= l) ys
  matches-with x y = listed (λ h. rw (given-none (f []) (λ a. []) (λ a. refl)) (append-nil ys)) (matches-bind x y)

module _ {m : MachineKind} {F : ℕ → Type 0} {A C D : Type 0} {P : A → Type 0} {U : C → D → Type 0}
    {f r : Work A} {k : A → Work C} {l : A → Work D} {ys : List ℕ} where
  pub match-bind : {zs : A → List ℕ} → Match m F P f r ys → ((a : A) → P a → Matches m F U (k a) (l a) (zs a))
      → Matches m F U (f >>= k) (r >>= l) (ys ++ given (f []) zs)
  match-bind {zs} x y = matches-bind x (λ a b e. subst (λ b. Matches m F U (k a) (l b) (zs a)) (sym e.0) (y a e.1))

  pub match-last : Match m F P f r ys → ((a : A) → P a → Matches m F U (k a) (l a) []) → Matches m F U (f >>= k) (r >>= l) ys
  match-last x y = matches-with x (λ a b e. subst (λ b. Matches m F U (k a) (l b) []) (sym e.0) (y a e.1))
