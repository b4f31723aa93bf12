-- The code of the copy makes it: what stands at each word after the lines are copied, after what the run is told is set, and at the end.
-- Assumes nothing.
use Prim.Native.Nat.{ℕ, zero, suc, ◌+◌, ◌-◌, ◌*◌, ◌<◌, ◌≤◌}
use native.Mathlib.Omega.{arith}
use native.Mathlib.Decide.{dec_le}
use mathlib.Core.Path.{◌≡◌, refl, sym, ap, ◌∙◌}
use mathlib.Core.Logic.{◌≢◌}
use mathlib.Core.List.{List}
use lib.ListN.{length, get_or, set, take, drop, replicate, length-set, length-drop, length-replicate, get_or-eq_default}
use lib.Seq.{paste, length-paste, get_or-drop, get_or-set_same, get_or-set_other}
use Rattle.kinds.specs.Code.{InSorts}
use Rattle.model.specs.Table.{line_at}
use Rattle.prepared.specs.declared.Frame.{Frame}
use Rattle.prepared.specs.View.{table_for}
use Rattle.prepared.specs.Own.{Own, nodes_at, rows_at, own_words, flag_of}
use Rattle.prepared.specs.CodeOwn.{copied, told, Formed}
use Rattle.prepared.proofs.PasteLaws.{paste-before, paste-in, paste-after, take_rest}

-- ---- the copies, one after another
pub copies-made : (t : List ℕ) (f : Frame) (own : List ℕ) {one two three : List ℕ} → one ≡ paste own 0 t (4 * f.counts.decls)
    → two ≡ paste one nodes_at (take (length t - 4 * f.counts.decls) (drop (4 * f.counts.decls) t)) (4 * f.counts.nodes)
    → three ≡ paste two rows_at
    (take (length t - 4 * (f.counts.decls + f.counts.nodes)) (drop (4 * (f.counts.decls + f.counts.nodes)) t)) (4 * f.counts.rows)
    → three ≡ copied t f own
unfolding copied
copies-made t f own e1 e2 e3 = rw (e3, e2, e1) (simp take_rest)

-- ---- what stands at each word of the lines copied: d declarations, n nodes and r rows
record Lines (t : List ℕ) (d n r : ℕ) (l : List ℕ) : Type 0 where
  size : length l ≡ own_words
  declaration : (i : ℕ) → i < 4 * d → get_or l i 0 ≡ get_or t i 0
  no_declaration : (i : ℕ) → 4 * d ≤ i → i < 136 → get_or l i 0 ≡ 0
  node : (j : ℕ) → j < 4 * n → get_or l (136 + j) 0 ≡ get_or t (4 * d + j) 0
  no_node : (j : ℕ) → 4 * n ≤ j → j < 4096 → get_or l (136 + j) 0 ≡ 0
  row : (j : ℕ) → get_or l (4232 + j) 0 ≡ get_or t (4 * (d + n) + j) 0

module _ (t : List ℕ) (d n r : ℕ) (whole : length t ≡ 4 * (d + n + r)) (few_d : d ≤ 32) (few_n : n ≤ 1024) (few_r : r ≤ 256)
    (blank : List ℕ) (long : length blank ≡ 5256) (zeros : (i : ℕ) → get_or blank i 0 ≡ 0)
    (one two three : List ℕ) (first : one ≡ paste blank 0 t (4 * d)) (second : two ≡ paste one 136 (drop (4 * d) t) (4 * n))
    (third : three ≡ paste two 4232 (drop (4 * (d + n)) t) (4 * r)) where
  has1 : 4 * d ≤ length t
  has1 = omega arith

  has2 : 4 * n ≤ length (drop (4 * d) t)
  has2 = simp length-drop (omega arith)

  has3 : 4 * r ≤ length (drop (4 * (d + n)) t)
  has3 = simp length-drop (omega arith)

  long1 : length one ≡ 5256
  long1 = ap length first ∙ length-paste blank 0 t (4 * d) (omega arith) has1 ∙ long

  long2 : length two ≡ 5256
  long2 = ap length second ∙ length-paste one 136 (drop (4 * d) t) (4 * n) (omega (arith, long1)) has2 ∙ long1

  long3 : length three ≡ 5256
  long3 = ap length third ∙ length-paste two 4232 (drop (4 * (d + n)) t) (4 * r) (omega (arith, long2)) has3 ∙ long2

  -- what is untouched by a copy
  after1 : (i : ℕ) → 4 * d ≤ i → get_or one i 0 ≡ 0
  after1 i h = rw first (paste-after blank 0 t (4 * d) (omega arith) has1 i (omega arith) ∙ zeros i)

  before2 : (i : ℕ) → i < 136 → get_or two i 0 ≡ get_or one i 0
  before2 i h = rw second (paste-before one 136 (drop (4 * d) t) (4 * n) (omega (arith, long1)) has2 i h)

  after2 : (i : ℕ) → 136 + 4 * n ≤ i → get_or two i 0 ≡ 0
  after2 i h = rw second (paste-after one 136 (drop (4 * d) t) (4 * n) (omega (arith, long1)) has2 i h ∙ after1 i (omega arith))

  before3 : (i : ℕ) → i < 4232 → get_or three i 0 ≡ get_or two i 0
  before3 i h = rw third (paste-before two 4232 (drop (4 * (d + n)) t) (4 * r) (omega (arith, long2)) has3 i h)

  -- each sort
  in1 : (i : ℕ) → i < 4 * d → get_or three i 0 ≡ get_or t i 0
  in1 i h =
      before3 i (omega arith) ∙ before2 i (omega arith) ∙ ap (λ (l : List ℕ). get_or l i 0) first
      ∙ ap (λ (k : ℕ). get_or (paste blank 0 t (4 * d)) k 0) {x = i} {y = 0 + i} (omega arith) ∙ paste-in blank 0 t (4 * d) (omega arith) has1 i h

  in2 : (j : ℕ) → j < 4 * n → get_or three (136 + j) 0 ≡ get_or t (4 * d + j) 0
  in2 j h =
      before3 (136 + j) (omega arith)
      ∙ rw second (paste-in one 136 (drop (4 * d) t) (4 * n) (omega (arith, long1)) has2 j h ∙ get_or-drop (4 * d) t j 0)

  in3 : (j : ℕ) → get_or three (4232 + j) 0 ≡ get_or t (4 * (d + n) + j) 0
  in3 j = elim (dec_le (4 * r) j) [
    | yes h ↦ past h
    | no h ↦ rw third (paste-in two 4232 (drop (4 * (d + n)) t) (4 * r) (omega (arith, long2)) has3 j (less h) ∙ get_or-drop (4 * (d + n)) t j 0)
  ]
    where
      less : (4 * r ≤ j → ⊥) → j < 4 * r
      less h = omega arith

      past : 4 * r ≤ j → get_or three (4232 + j) 0 ≡ get_or t (4 * (d + n) + j) 0
      past h =
          rw third (paste-after two 4232 (drop (4 * (d + n)) t) (4 * r) (omega (arith, long2)) has3 (4232 + j) (omega arith))
          ∙ after2 (4232 + j) (omega arith) ∙ sym (get_or-eq_default t 0 {n = 4 * (d + n) + j} (omega arith))

  lines_at : Lines t d n r three
  lines_at = record {
    size = long3;
    declaration = in1;
    no_declaration = λ i h k. before3 i (omega arith) ∙ before2 i k ∙ after1 i h;
    node = in2;
    no_node = λ j h k. before3 (136 + j) (omega arith) ∙ after2 (136 + j) (omega arith);
    row = in3;
  }

-- ---- what the run is told
module _ (f : Frame) (l : List ℕ) where
  abbrev one : List ℕ
  one = set l 129 f.c1

  abbrev two : List ℕ
  two = set one 130 f.c2

  abbrev three : List ℕ
  three = set two 131 (flag_of f)

  abbrev four : List ℕ
  four = set three 133 f.counts.decls

  pub length-told : length (told f l) ≡ length l
  unfolding told
  length-told = simp length-set

  -- what each word that is set leaves
  but-rows : (i : ℕ) → i ≢ 134 → get_or (told f l) i 0 ≡ get_or four i 0
  unfolding told
  but-rows i h = get_or-set_other four 134 i f.counts.rows 0 h

  but-decls : (i : ℕ) → i ≢ 133 → i ≢ 134 → get_or (told f l) i 0 ≡ get_or three i 0
  but-decls i h k = but-rows i k ∙ get_or-set_other three 133 i f.counts.decls 0 h

  but-flag : (i : ℕ) → i ≢ 131 → i ≢ 133 → i ≢ 134 → get_or (told f l) i 0 ≡ get_or two i 0
  but-flag i h k m = but-decls i k m ∙ get_or-set_other two 131 i (flag_of f) 0 h

  but-second : (i : ℕ) → i ≢ 130 → i ≢ 131 → i ≢ 133 → i ≢ 134 → get_or (told f l) i 0 ≡ get_or one i 0
  but-second i h k m n = but-flag i k m n ∙ get_or-set_other one 130 i f.c2 0 h

  -- where nothing is told
  told-other : (i : ℕ) → (129 ≤ i → i < 135 → i ≡ 132) → get_or (told f l) i 0 ≡ get_or l i 0
  told-other i h =
      but-second i (away 130 (omega arith) (omega arith) (λ e. omega arith)) (away 131 (omega arith) (omega arith) (λ e. omega arith))
      (away 133 (omega arith) (omega arith) (λ e. omega arith)) (away 134 (omega arith) (omega arith) (λ e. omega arith))
      ∙ get_or-set_other l 129 i f.c1 0 (away 129 (omega arith) (omega arith) (λ e. omega arith))
    where
      away : (k : ℕ) → 129 ≤ k → k < 135 → k ≢ 132 → i ≢ k
      away k from upto apart e = apart (sym e ∙ h (omega arith) (omega arith))

  module _ (long : length l ≡ 5256) where
    told-first : get_or (told f l) 129 0 ≡ f.c1
    told-first =
        but-second 129 (λ e. omega arith) (λ e. omega arith) (λ e. omega arith) (λ e. omega arith)
        ∙ get_or-set_same l 129 f.c1 0 (omega arith)

    told-second : get_or (told f l) 130 0 ≡ f.c2
    told-second =
        but-flag 130 (λ e. omega arith) (λ e. omega arith) (λ e. omega arith) ∙ get_or-set_same one 130 f.c2 0 (simp length-set (omega arith))

    told-flag : get_or (told f l) 131 0 ≡ flag_of f
    told-flag = but-decls 131 (λ e. omega arith) (λ e. omega arith) ∙ get_or-set_same two 131 (flag_of f) 0 (simp length-set (omega arith))

    told-decls : get_or (told f l) 133 0 ≡ f.counts.decls
    told-decls = but-rows 133 (λ e. omega arith) ∙ get_or-set_same three 133 f.counts.decls 0 (simp length-set (omega arith))

    told-rows : get_or (told f l) 134 0 ≡ f.counts.rows
    unfolding told
    told-rows = get_or-set_same four 134 f.counts.rows 0 (simp length-set (omega arith))

-- ---- the whole copy
line_same : (u v : List ℕ) (i j x y : ℕ) → 4 * i ≡ x → 4 * j ≡ y → ((k : ℕ) → k < 4 → get_or u (x + k) 0 ≡ get_or v (y + k) 0) → line_at u i ≡ line_at v j
line_same u v i j x y p q h =
    let w0 : get_or u (4 * i) 0 ≡ get_or v (4 * j) 0 =
    ap (λ (k : ℕ). get_or u k 0) {x = 4 * i} {y = x + 0} (omega arith) ∙ h 0 (omega arith)
    ∙ ap (λ (k : ℕ). get_or v k 0) {x = y + 0} {y = 4 * j} (omega arith) in
    let w1 : get_or u (4 * i + 1) 0 ≡ get_or v (4 * j + 1) 0 = rw (p, q) (h 1 (omega arith)) in
    let w2 : get_or u (4 * i + 2) 0 ≡ get_or v (4 * j + 2) 0 = rw (p, q) (h 2 (omega arith)) in
    let w3 : get_or u (4 * i + 3) 0 ≡ get_or v (4 * j + 3) 0 = rw (p, q) (h 3 (omega arith)) in
    rw (w0, w1, w2, w3)

module _ (t : List ℕ) (f : Frame) (few : f.counts.decls ≤ 32) (l own : List ℕ) (L : Lines t f.counts.decls f.counts.nodes f.counts.rows l)
    (F : Formed t f f.counts.decls (told f l) own) where
  kept : (i : ℕ) → ((a : ℕ) → a < f.counts.decls → i ≢ 4 * a + 3) → (129 ≤ i → i < 135 → i ≡ 132) → get_or own i 0 ≡ get_or l i 0
  kept i h k = F.other i h ∙ told-other f l i k

  head : (i : ℕ) → 128 ≤ i → get_or own i 0 ≡ get_or (told f l) i 0
  head i h = F.other i (λ a b e. omega arith)

  past : (i : ℕ) → 135 ≤ i → get_or own i 0 ≡ get_or l i 0
  past i h = kept i (λ a b e. omega arith) (λ a b. omega arith)

  kind_at : (a : ℕ) → a < 34 → get_or own (4 * a) 0 ≡ get_or l (4 * a) 0
  kind_at a h = kept (4 * a) (λ b m e. omega arith) (λ m n. omega arith)

  mark-at : (a : ℕ) → a < 32 → get_or own (4 * a + 1) 0 ≡ get_or l (4 * a + 1) 0
  mark-at a h = kept (4 * a + 1) (λ b m e. omega arith) (λ m n. omega arith)

  no_kind : (a : ℕ) → f.counts.decls ≤ a → a < 34 → get_or own (4 * a) 0 ≡ 0
  no_kind a h s = kind_at a s ∙ L.no_declaration (4 * a) (omega arith) (omega arith)

  node-word : (n : ℕ) → n < f.counts.nodes → (k : ℕ) → k < 4
      → get_or own (136 + 4 * n + k) 0 ≡ get_or t (4 * f.counts.decls + 4 * n + k) 0
  node-word n h k s =
      past (136 + 4 * n + k) (omega arith)
      ∙ ap (λ (i : ℕ). get_or l i 0) {x = 136 + 4 * n + k} {y = 136 + (4 * n + k)} (omega arith) ∙ L.node (4 * n + k) (omega arith)
      ∙ ap (λ (i : ℕ). get_or t i 0) {x = 4 * f.counts.decls + (4 * n + k)} {y = 4 * f.counts.decls + 4 * n + k} (omega arith)

  row_word : (r k : ℕ) → get_or own (4232 + 4 * r + k) 0 ≡ get_or t (4 * (f.counts.decls + f.counts.nodes) + 4 * r + k) 0
  row_word r k =
      past (4232 + 4 * r + k) (omega arith)
      ∙ ap (λ (i : ℕ). get_or l i 0) {x = 4232 + 4 * r + k} {y = 4232 + (4 * r + k)} (omega arith) ∙ L.row (4 * r + k)
      ∙ ap (λ (i : ℕ). get_or t i 0) {x = 4 * (f.counts.decls + f.counts.nodes) + (4 * r + k)}
      {y = 4 * (f.counts.decls + f.counts.nodes) + 4 * r + k} (omega arith)

  own-made : Own t f own
  own-made = record {
    size = F.size ∙ length-told f l ∙ L.size;
    headless = (no_kind 32 few (omega arith), no_kind 33 (omega arith) (omega arith));
    first = head 129 (omega arith) ∙ told-first f l L.size;
    second = head 130 (omega arith) ∙ told-second f l L.size;
    classes = head 131 (omega arith) ∙ told-flag f l L.size;
    decls = head 133 (omega arith) ∙ told-decls f l L.size;
    rows = head 134 (omega arith) ∙ told-rows f l L.size;
    kind = λ a h. kind_at a (omega arith) ∙ L.declaration (4 * a) (omega arith);
    mark = λ a h. mark-at a (omega arith) ∙ L.declaration (4 * a + 1) (omega arith);
    form = F.form;
    no_declaration = λ a h s. no_kind a h (omega arith);
    node = λ n h. line_same own t (34 + n) (f.counts.decls + n) (136 + 4 * n) (4 * f.counts.decls + 4 * n) (omega arith) (omega arith) (node-word n h);
    no_node = λ n h s.
        past (4 * (34 + n)) (omega arith) ∙ ap (λ (i : ℕ). get_or l i 0) {x = 4 * (34 + n)} {y = 136 + 4 * n} (omega arith)
        ∙ L.no_node (4 * n) (omega arith) (omega arith);
    row = λ r.
        line_same own t (1058 + r) (f.counts.decls + f.counts.nodes + r) (4232 + 4 * r) (4 * (f.counts.decls + f.counts.nodes) + 4 * r)
        (omega arith) (omega arith) (λ k s. row_word r k);
  }

-- ---- the code's steps
zeros-at : (n i : ℕ) → get_or {A = ℕ} (replicate n 0) i 0 ≡ 0
zeros-at zero i = refl
zeros-at (suc n) zero = refl
zeros-at (suc n) (suc i) = zeros-at n i

module _ (t : List ℕ) (f : Frame) (S : InSorts (table_for t f)) {blank : List ℕ} (e : blank ≡ replicate 5256 0) where
  pub long-blank : length blank ≡ 5256
  long-blank = ap length e ∙ length-replicate {A = ℕ} 5256 0

  lines_copied : Lines t f.counts.decls f.counts.nodes f.counts.rows (copied t f blank)
  unfolding copied
  lines_copied =
      lines_at t f.counts.decls f.counts.nodes f.counts.rows S.whole S.few_decls S.few_nodes S.few_rows blank long-blank
      (λ i. ap (λ (l : List ℕ). get_or l i 0) e ∙ zeros-at 5256 i) _ _ _ refl refl refl

  pub length-copied : {own : List ℕ} → own ≡ copied t f blank → length own ≡ 5256
  length-copied h = ap length h ∙ lines_copied.size

  pub laid_out : {lines head own : List ℕ} → lines ≡ copied t f blank → head ≡ told f lines → Formed t f f.counts.decls head own → Own t f own
  laid_out {own = own} p q F = own-made t f S.few_decls (copied t f blank) own lines_copied (rw (q, p) at F)
