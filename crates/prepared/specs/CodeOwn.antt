-- What the code does to the words of a run's own copy: the lines are copied, what the run is told is set, and the form of each variable.
use Rattle.std.specs.Prelude.{◌≡◌, ℕ, ◌+◌, ◌*◌, ◌<◌, ◌≢◌, List, length, get_or, set, drop}
use Rattle.std.proofs.Math.Seq.{paste}
use Rattle.prepared.specs.declared.Frame.{Frame}
use Rattle.prepared.specs.View.{form_in}
use Rattle.prepared.specs.Own.{nodes_at, rows_at, number_of_form, flag_of}

-- the lines of each sort at their place
unfoldable pub copied : List ℕ → Frame → List ℕ → List ℕ
copied t f own =
    paste (paste (paste own 0 t (4 * f.counts.decls)) nodes_at (drop (4 * f.counts.decls) t) (4 * f.counts.nodes))
    rows_at (drop (4 * (f.counts.decls + f.counts.nodes)) t) (4 * f.counts.rows)

-- what the run is told
unfoldable pub told : Frame → List ℕ → List ℕ
told f own = set (set (set (set (set own 129 f.c1) 130 f.c2) 131 (flag_of f)) 133 f.counts.decls) 134 f.counts.rows

-- the forms of the first n variables are set, and nothing else
pub record Formed (t : List ℕ) (f : Frame) (n : ℕ) (old new : List ℕ) : Type 0 where
  pub size : length new ≡ length old
  pub form : (a : ℕ) → a < n → get_or new (4 * a + 3) 0 ≡ number_of_form (form_in t f a)
  pub other : (i : ℕ) → ((a : ℕ) → a < n → i ≢ 4 * a + 3) → get_or new i 0 ≡ get_or old i 0
