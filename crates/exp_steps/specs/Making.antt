-- What the steps of expressions are.
use Rattle.std.specs.Prelude.{◌≡◌, ℕ, suc, List, map}
use Rattle.ir_plain.specs.Tree as te
use Rattle.ir_poly.specs.Prog as t
use Rattle.ir_poly.specs.Tests.{Tests, poly}
use Rattle.match_compile.specs.Compile.{making, making_all, making_tuple, value_at, past_fields, past_tuple, past_built, field_row, tuple_atoms, weighed, beginning, put}
use Rattle.plain_tree.specs.TreeOf.{row_of, atoms_of}
use Rattle.plain_tree.specs.declared.tree.Field.{Field}
use Rattle.plain_tree.specs.declared.tree.Step.{Step}
use Rattle.prog_tree.specs.TreeOf.{Reading}
use Rattle.match_steps.specs.of_match_types.Views.{View, reading, Sees, Keeps, value_type}
use Rattle.match_steps.specs.of_match_types.declared.work.ValueType.{ValueType}
use Rattle.match_steps.specs.of_match_types.declared.work.Work.{Work}
use Rattle.match_steps.specs.Steps.{Puts}
use Rattle.exp_steps.specs.Ways.{built_of}
use Rattle.exp_steps.specs.declared.ways.Built.{Built}

-- the steps of e were put behind those before, and its value is in the variable a, the last new one
pub record Makes (old new : Work) (before after : List Step) (e : Reading → t.Exp) (a : ℕ) : Type 0 where
  pub keeps : Keeps old new
  pub is : (v : View) → Sees new v → value_at (e v.source) old.next ≡ a
  pub next : new.next ≡ suc a
  pub puts : Puts new before after (λ v rest. making v.scope v.names (e v.source) old.next rest)

-- a new variable n of type t with the value of an operation
abbrev pub putting : ValueType → (n : ℕ) → (View → te.Op poly) → View → Tests → Tests
putting t n g v rest = put v.scope n (value_type v t) (g v) rest

-- so many further nodes of the source
abbrev pub counting : (k : ℕ) → View → Tests → Tests
counting k v rest = te.counted k rest

-- how an operation reads is known wherever the work is seen
abbrev pub Reads : {A : Type 0} → Work → (View → A) → (View → A) → Type 0
Reads w f g = (v : View) → Sees w v → f v ≡ g v

-- the value of an operation was put into the new variable n of type t
pub record Pushed (old new : Work) (before after : List Step) (t : ValueType) (g : View → te.Op poly) (n : ℕ) : Type 0 where
  pub keeps : Keeps old new
  pub is : n ≡ old.next
  pub next : new.next ≡ suc old.next
  pub puts : Puts new before after (putting t old.next g)

-- the values of fields were made one after the other, and are in these atoms
pub record MakesAll (old new : Work) (before after : List Step) (fs : Reading → t.Fields) (made : List Field) : Type 0 where
  pub keeps : Keeps old new
  pub next : (v : View) → Sees new v → new.next ≡ past_fields (fs v.source) old.next
  pub row : (v : View) → Sees new v → row_of (reading v) made ≡ field_row (fs v.source) old.next
  pub puts : Puts new before after (λ v rest. making_all v.scope v.names (fs v.source) old.next rest)

abbrev pub atoms_in : List Field → List ℕ
atoms_in fs = map (λ f. f.atom) fs

-- the parts of a tuple that is written
pub record MakesTuple (old new : Work) (before after : List Step) (e : Reading → t.Exp) (made : List Field) : Type 0 where
  pub keeps : Keeps old new
  pub next : (v : View) → Sees new v → new.next ≡ past_tuple (e v.source) old.next
  pub atoms : (v : View) → Sees new v → atoms_of (reading v) (atoms_in made) ≡ tuple_atoms (e v.source) old.next
  pub puts : Puts new before after (λ v rest. making_tuple v.scope v.names (e v.source) old.next rest)

-- the weights of a function that isn't made itself
pub record Weighs (old new : Work) (before after : List Step) (f : Reading → t.Exp) : Type 0 where
  pub keeps : Keeps old new
  pub next : new.next ≡ old.next
  pub puts : Puts new before after (λ v rest. weighed (f v.source) rest)

-- what a construction begins with: the name of its exception, and the weights of its function
pub record Begun (old new : Work) (before after : List Step) (f : Reading → t.Exp) (b : Built) (name : ℕ) : Type 0 where
  pub keeps : Keeps old new
  pub is : name ≡ old.next
  pub next : (v : View) → new.next ≡ past_built (built_of b v.source) old.next
  pub puts : Puts new before after (λ v rest. beginning v.names (built_of b v.source) old.next (weighed (f v.source) rest))
