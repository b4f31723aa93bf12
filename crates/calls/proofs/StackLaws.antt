-- The words of the stack: what stands at each after a caller is put aside, and which callers they then are.
-- Assumes nothing.
use Prim.Native.Nat.{ℕ, suc, ◌+◌, ◌-◌, ◌*◌, ◌<◌, ◌≤◌}
use native.Mathlib.Omega.{arith}
use native.Mathlib.Numerals.{add-one}
use mathlib.Core.Path.{◌≡◌, refl, sym, ap, ◌∙◌}
use mathlib.Core.List.{List, ◌∷◌}
use lib.ListN.{length, get_or, set, drop, length-set, length-drop}
use lib.Seq.{paste, length-paste, get_or-drop, get_or-set_same, get_or-set_other}
use Rattle.lists.specs.Tab.{tab}
use Rattle.lists.proofs.TabLaws.{at-tab, same-tab, tab-itself, tab-last}
use Rattle.model.specs.Table.{Table, locals_at}
use Rattle.model.specs.State.{position, Caller, caller}
use Rattle.prepared.proofs.PasteLaws.{paste-before, paste-in}
use Rattle.calls.specs.Stack.{loop_in, loops_of, depth_of, part, caller_at, callers_of}
use Rattle.calls.specs.Code.{Sizes, aside}

-- ---- the innermost of the open loops, before the others
pub loops-split : (d : ℕ) (rs ss es : List ℕ) → loops_of (suc d) rs ss es ≡ loop_in rs ss es d ∷ loops_of d rs ss es
unfolding loops_of
loops-split d rs ss es = tab-last d (loop_in rs ss es)

-- ---- eight words copied into a list of eight
pub part-copied : (xs words : List ℕ) (from : ℕ) → length xs ≡ 8 → from + 8 ≤ length words → {ys : List ℕ} → ys ≡ paste xs 0 (drop from words) 8
    → ys ≡ part words from 8
part-copied xs words from eight has e = e ∙ sym (tab-itself _ 8 long) ∙ same-tab 8 _ _ at
  where
    room : 8 ≤ length (drop from words)
    room = simp length-drop (omega arith)

    long : length (paste xs 0 (drop from words) 8) ≡ 8
    long = length-paste xs 0 (drop from words) 8 (omega arith) room ∙ eight

    at : (i : ℕ) → i < 8 → get_or (paste xs 0 (drop from words) 8) i 0 ≡ get_or words (from + i) 0
    at i h =
        ap (λ (j : ℕ). get_or (paste xs 0 (drop from words) 8) j 0) {x = i} {y = 0 + i} (omega arith)
        ∙ paste-in xs 0 (drop from words) 8 (omega arith) room i h ∙ get_or-drop from words i 0

-- ---- a local of a caller, among the four words that it has for them
pub local-word : (u : List ℕ) (at i : ℕ) → i < 4 → get_or (part u at 4) (0 + i) 0 ≡ get_or u (at + i) 0
local-word u at i h = let z : 0 + i ≡ i = omega arith in rw z (at-tab 4 (λ j. get_or u (at + j) 0) 0 i h)

-- ---- the callers
-- by what stands at each place
abbrev caller_by : Table → ℕ → ℕ → List ℕ → List ℕ → List ℕ → List ℕ → Caller
caller_by t r n ls rows starts ends = caller (position r (loops_of n rows starts ends)) (part ls 0 (locals_at t r).count)

caller-by : (t : Table) (u : List ℕ) (at : ℕ) {r n : ℕ} {ls rows starts ends : List ℕ} → get_or u at 0 ≡ r → get_or u (at + 1) 0 ≡ n
    → part u (at + 2) 4 ≡ ls → part u (at + 6) 8 ≡ rows → part u (at + 14) 8 ≡ starts → part u (at + 22) 8 ≡ ends
    → caller_at t u at ≡ caller_by t r n ls rows starts ends
unfolding caller_at
caller-by t u at e0 e1 e2 e6 e14 e22 = rw (e6, e14, e22, e2, e1, e0)

-- two stacks with the same words there
same-caller : (t : Table) (u v : List ℕ) (at : ℕ) → ((i : ℕ) → i < at + 30 → get_or u i 0 ≡ get_or v i 0) → caller_at t u at ≡ caller_at t v at
same-caller t u v at same =
    caller-by t u at (same at (omega arith)) (same (at + 1) (omega arith)) (parts 2 4 (omega arith)) (parts 6 8 (omega arith))
    (parts 14 8 (omega arith)) (parts 22 8 (omega arith))
    ∙ sym (caller-by t v at refl refl refl refl refl refl)
  where
    parts : (k n : ℕ) → k + n ≤ 30 → part u (at + k) n ≡ part v (at + k) n
    parts k n h = same-tab n _ _ (λ i l. same (at + k + i) (omega arith))

-- the last caller before those that stay
pub callers-split : (t : Table) (u v : List ℕ) (d : ℕ) → depth_of u ≡ suc d → depth_of v ≡ d → ((i : ℕ) → i < 30 * d → get_or u i 0 ≡ get_or v i 0)
    → callers_of t u ≡ caller_at t u (30 * d) ∷ callers_of t v
unfolding callers_of
callers-split t u v d e f same =
    rw (e, f)
    (tab-last d (λ i. caller_at t u (30 * i))
    ∙ ap (λ (cs : List Caller). caller_at t u (30 * d) ∷ cs)
    (same-tab d _ _ (λ i h. same-caller t u v (30 * (d - suc i)) (λ j l. same j (omega arith)))))

-- ---- the words of a caller that is put aside
module _ (stack : List ℕ) (at r n : ℕ) (ns : List ℕ) (first count : ℕ) (rows starts ends : List ℕ) (S : Sizes stack ns rows starts ends)
    (room : at + 30 ≤ 240) (inside : first + count ≤ 32) (few : count ≤ 4) where
  abbrev one : List ℕ
  one = set (set stack at r) (at + 1) n

  abbrev two : List ℕ
  two = paste one (at + 2) (drop first ns) count

  abbrev three : List ℕ
  three = paste two (at + 6) rows 8

  abbrev four : List ℕ
  four = paste three (at + 14) starts 8

  abbrev all : List ℕ
  all = aside stack at r n ns first count rows starts ends

  has : count ≤ length (drop first ns)
  has = simp length-drop (omega arith)

  long1 : length one ≡ 241
  long1 = simp length-set S.of_stack

  long2 : length two ≡ 241
  long2 = length-paste one (at + 2) (drop first ns) count (omega (arith, long1)) has ∙ long1

  long3 : length three ≡ 241
  long3 = length-paste two (at + 6) rows 8 (omega (arith, long2)) (omega arith) ∙ long2

  long4 : length four ≡ 241
  long4 = length-paste three (at + 14) starts 8 (omega (arith, long3)) (omega arith) ∙ long3

  length-aside : length all ≡ 241
  unfolding aside
  length-aside = length-paste four (at + 22) ends 8 (omega (arith, long4)) (omega arith) ∙ long4

  -- what each copy leaves
  but-ends : (i : ℕ) → i < at + 22 → get_or all i 0 ≡ get_or four i 0
  unfolding aside
  but-ends i h = paste-before four (at + 22) ends 8 (omega (arith, long4)) (omega arith) i h

  but-starts : (i : ℕ) → i < at + 14 → get_or all i 0 ≡ get_or three i 0
  but-starts i h = but-ends i (omega arith) ∙ paste-before three (at + 14) starts 8 (omega (arith, long3)) (omega arith) i h

  but-rows : (i : ℕ) → i < at + 6 → get_or all i 0 ≡ get_or two i 0
  but-rows i h = but-starts i (omega arith) ∙ paste-before two (at + 6) rows 8 (omega (arith, long2)) (omega arith) i h

  but-locals : (i : ℕ) → i < at + 2 → get_or all i 0 ≡ get_or one i 0
  but-locals i h = but-rows i (omega arith) ∙ paste-before one (at + 2) (drop first ns) count (omega (arith, long1)) has i h

  -- the words of the callers before, and of this one
  aside-before : (i : ℕ) → i < at → get_or all i 0 ≡ get_or stack i 0
  aside-before i h =
      but-locals i (omega arith) ∙ get_or-set_other (set stack at r) (at + 1) i n 0 (λ e. omega arith) ∙ get_or-set_other stack at i r 0 (λ e. omega arith)

  aside-row : get_or all at 0 ≡ r
  aside-row =
      but-locals at (omega arith) ∙ get_or-set_other (set stack at r) (at + 1) at n 0 (λ e. omega arith) ∙ get_or-set_same stack at r 0 (omega arith)

  aside-open : get_or all (at + 1) 0 ≡ n
  aside-open = but-locals (at + 1) (omega arith) ∙ get_or-set_same (set stack at r) (at + 1) n 0 (simp length-set (omega arith))

  aside-local : (i : ℕ) → i < count → get_or all (at + 2 + i) 0 ≡ get_or ns (first + i) 0
  aside-local i h =
      but-rows (at + 2 + i) (omega arith) ∙ paste-in one (at + 2) (drop first ns) count (omega (arith, long1)) has i h ∙ get_or-drop first ns i 0

  aside-loop-row : (i : ℕ) → i < 8 → get_or all (at + 6 + i) 0 ≡ get_or rows i 0
  aside-loop-row i h = but-starts (at + 6 + i) (omega arith) ∙ paste-in two (at + 6) rows 8 (omega (arith, long2)) (omega arith) i h

  aside-start : (i : ℕ) → i < 8 → get_or all (at + 14 + i) 0 ≡ get_or starts i 0
  aside-start i h = but-ends (at + 14 + i) (omega arith) ∙ paste-in three (at + 14) starts 8 (omega (arith, long3)) (omega arith) i h

  aside_end : (i : ℕ) → i < 8 → get_or all (at + 22 + i) 0 ≡ get_or ends i 0
  unfolding aside
  aside_end i h = paste-in four (at + 22) ends 8 (omega (arith, long4)) (omega arith) i h

  -- ---- the callers, once the last word says that there is one more
  module _ (t : Table) (top : at ≡ 30 * depth_of stack) (held : (locals_at t r).count ≡ count) where
    abbrev more : List ℕ
    more = set all 240 (depth_of stack + 1)

    words : (i : ℕ) → i < 240 → get_or more i 0 ≡ get_or all i 0
    words i h = get_or-set_other all 240 i (depth_of stack + 1) 0 (λ e. omega arith)

    deeper : depth_of more ≡ suc (depth_of stack)
    deeper = get_or-set_same all 240 (depth_of stack + 1) 0 (omega (arith, length-aside)) ∙ add-one (depth_of stack)

    column : (k : ℕ) (xs : List ℕ) → k + 8 ≤ 30 → length xs ≡ 8 → ((i : ℕ) → i < 8 → get_or all (at + k + i) 0 ≡ get_or xs i 0) → part more (at + k) 8 ≡ xs
    column k xs fits eight there = same-tab 8 _ _ (λ i h. words (at + k + i) (omega arith) ∙ there i h) ∙ tab-itself xs 8 eight

    local : (i : ℕ) → i < count → get_or (part more (at + 2) 4) (0 + i) 0 ≡ get_or ns (first + i) 0
    local i h = local-word more (at + 2) i (omega arith) ∙ words (at + 2 + i) (omega arith) ∙ aside-local i h

    last : caller_at t more at ≡ caller (position r (loops_of n rows starts ends)) (tab (locals_at t r).count (λ i. get_or ns (first + i) 0))
    last =
        caller-by t more at (words at (omega arith) ∙ aside-row) (words (at + 1) (omega arith) ∙ aside-open) refl
        (column 6 rows (omega arith) S.of_rows aside-loop-row) (column 14 starts (omega arith) S.of_starts aside-start)
        (column 22 ends (omega arith) S.of_ends aside_end)
        ∙ ap (caller (position r (loops_of n rows starts ends))) (same-tab (locals_at t r).count _ _ (λ i h. local i (omega arith)))

    pub callers-aside : callers_of t more
        ≡ caller (position r (loops_of n rows starts ends)) (tab (locals_at t r).count (λ i. get_or ns (first + i) 0)) ∷ callers_of t stack
    callers-aside =
        callers-split t more stack (depth_of stack) deeper refl (λ i h. words i (omega arith) ∙ aside-before i (omega arith))
        ∙ ap (λ (c : Caller). c ∷ callers_of t stack) (ap (caller_at t more) (sym top) ∙ last)
