-- What the parts of the evaluators say: the model's own definitions, as the code groups them.
use Rattle.std.specs.Prelude.{◌≡◌, ℕ, ◌+◌, Bool, true, false, ◌||◌, List, length, get_or, drop, ltb, leb, eqb}
use Rattle.std.specs.Prelude.{if◌then◌else◌}
use Rattle.model.specs.Class.{class, tracked}
use Rattle.model.specs.Table.{Ty, Line, node_at, Node, node_kind}
use Rattle.model.specs.Table.Node.{variable, uint_constant, bool_constant, cell, plus, minus, less, at_most, equal, conditional, valid, class_variable}
use Rattle.model.specs.Table.Node.{reduced_cell, reduced_valid, no_node}
use Rattle.model.specs.Table.Ty.{uint, pointer}
use Rattle.model.specs.Work.{Out, Work, ◌>>=◌, give, fail, wrong, choose}
use Rattle.model.specs.Work.Out.{gives, fails, stuck}
use Rattle.model.specs.Work.Reason.{without_array, past_length}
use Rattle.model.specs.State.{Value, Array}
use Rattle.model.specs.Eval.{Of, Ptr, ptr, add, subtract, array_of, cell_of, keeps, index_of, variable_of, of_type, is_valid, in_class, present}
use Rattle.prepared.specs.Own.{own_table, own_vars, places_of}
use Rattle.evaluators.specs.declared.answers.Answer.{Answer}
use Rattle.evaluators.specs.CodeAnswers.{WorksOut, Answers}
use Rattle.evaluators.specs.declared.nodes.Node.{Node as Taken}
use Rattle.evaluators.specs.declared.nodes.Node.TheVariants.{Variable, Constant, Flag, Cell, Arith, Compare, If, Valid, InClass, Nothing}
use Rattle.evaluators.specs.declared.nodes.Test.{Test}
use Rattle.evaluators.specs.declared.nodes.Test.TheVariants.{Less, AtMost, Equal}
use Rattle.evaluators.specs.declared.arrays.Target.{Target}
use Rattle.evaluators.specs.declared.arrays.Target.TheVariants.{Array as To, Missing, Unknown}

-- a variable for a user of the type w, with so many arrays in the record
unfoldable pub held_for : List Value → ℕ → ℕ → (w : Ty) → Work (Of w)
held_for vs count a w = (variable_of vs a >>= of_type w) >>= present count w

-- ... which the answer says to a user of the type w, whatever the bases
pub record HoldsFor (w : Ty) (own ns : List ℕ) (a at : ℕ) (r : Answer) : Type 0 where
  pub held : (bs : List ℕ) (count : ℕ) (l : List ℕ) → Answers w l r (held_for (own_vars own ns bs) count a w (drop at l))

-- ... of a pointer
pub record HoldsPointer (own ns bs : List ℕ) (count a at : ℕ) (r : Answer) : Type 0 where
  pub held : (l : List ℕ) → Answers pointer l r (held_for (own_vars own ns bs) count a pointer (drop at l))

-- 27 (rule 3.13)
unfoldable pub class_in : List ℕ → List Value → ℕ → Work ℕ
class_in ps vs a = in_class ps vs a

pub record ClassChoice (own ns : List ℕ) (a : ℕ) (l : List ℕ) (at : ℕ) (r : Answer) : Type 0 where
  pub chosen : (bs : List ℕ) → Answers uint l r (class_in (places_of own) (own_vars own ns bs) a (drop at l))

-- ---- the array that a pointer points to, or why there is none
unfoldable pub target_out : Target → List ℕ → Out Array
target_out (To start len reduced) cs = gives (record { start = start; len = len; reduced = reduced }) cs
target_out Missing cs = fails without_array cs
target_out Unknown cs = stuck

pub record Points (r : Target) (m : Work Array) : Type 0 where
  pub found : (cs : List ℕ) → target_out r cs ≡ m cs

-- cell i of so many, laid from start on
unfoldable pub stored_in : List ℕ → ℕ → ℕ → ℕ → Work ℕ
stored_in cells start size i =
    if ltb i size then (if ltb (start + i) (length cells) then give (get_or cells (start + i) 0) else wrong) else wrong

-- 28, of a reduced array (rule 3.15)
unfoldable pub tracked_in : List ℕ → List ℕ → ℕ → ℕ → ℕ → Work ℕ
tracked_in ps cells start len p = if tracked ps p then stored_in cells start (class ps len) (class ps p) else choose (λ v. true)

-- a place that is below the length, by 28 or by 19
unfoldable pub read_of : Bool → List ℕ → List ℕ → ℕ → ℕ → Bool → ℕ → Work ℕ
read_of true ps cells start len reduced p =
    let r : Array = record { start = start; len = len; reduced = reduced } in
    if keeps ps r p then cell_of ps cells r (index_of ps r p) else choose (λ v. true)
read_of false ps cells start len reduced p = cell_of ps cells (record { start = start; len = len; reduced = reduced }) p

-- 28, or 19
unfoldable pub load_of : Bool → List ℕ → List Array → List ℕ → Ptr → Work ℕ
load_of m ps rs cells p = do
  r ← array_of rs p.array
  if ltb p.place r.len then read_of m ps cells r.start r.len r.reduced p.place else fail past_length

-- 26 and 29 (rules 2.15, 3.16)
unfoldable pub valid_in : List Array → ℕ → ℕ → Work Bool
valid_in rs r p = is_valid rs r p

-- ---- 21, or 20
unfoldable pub arith : Bool → ℕ → ℕ → Work ℕ
arith false x y = add x y
arith true x y = subtract x y

-- ... of a pointer
unfoldable pub moved_by : Bool → ℕ → ℕ → ℕ → Work Ptr
moved_by m r p y = arith m p y >>= λ z. give (ptr r z)

-- 22, 23 and 24
abbrev pub test_of : Test → ℕ → ℕ → Bool
test_of Less x y = ltb x y
test_of AtMost x y = leb x y
test_of Equal x y = eqb x y

-- ---- the nodes, taken apart: k is the first operand as a number
abbrev pub decoded : Node → ℕ → ℕ → ℕ → ℕ → Taken
decoded variable k a b c = Variable a
decoded uint_constant k a b c = Constant k
decoded bool_constant k a b c = Flag (eqb k 1)
decoded cell k a b c = Cell false a
decoded plus k a b c = Arith false a b
decoded minus k a b c = Arith true a b
decoded less k a b c = Compare Less a b
decoded at_most k a b c = Compare AtMost a b
decoded equal k a b c = Compare Equal a b
decoded conditional k a b c = If a b c
decoded valid k a b c = Valid a
decoded class_variable k a b c = InClass a
decoded reduced_cell k a b c = Cell true a
decoded reduced_valid k a b c = Valid a
decoded no_node k a b c = Nothing

abbrev pub taken_apart : Line → Taken
taken_apart n = decoded (node_kind n.kind) n.a n.a n.b n.c

unfoldable pub node_in : List ℕ → ℕ → Taken
node_in own n = taken_apart (node_at (own_table own) n)

-- ---- the nodes that answer by themselves: variables and constants, and a node that is no operand of its user
unfoldable pub leaf_at : List ℕ → ℕ → ℕ → Bool
leaf_at own user n = leb user n || leb (node_at (own_table own) n).kind 17

pub record UintLeaf (own ns : List ℕ) (user n at : ℕ) (r : Answer) : Type 0 where
  pub leaf : (count : ℕ) (bs fs ls hs cells l : List ℕ) → WorksOut uint own cells l ns bs fs ls hs count user n at r

pub record PointerLeaf (own ns bs : List ℕ) (count user n at : ℕ) (r : Answer) : Type 0 where
  pub leaf : (fs ls hs cells l : List ℕ) → WorksOut pointer own cells l ns bs fs ls hs count user n at r
