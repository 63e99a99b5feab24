-- What is claimed of values: all that is done with related values, kind by kind, agrees.
use Rattle.std.specs.Prelude.{◌≡◌, ℕ, List, Option}
use Rattle.mlc_runs.specs.Agreement.{AllRelated, BothOrNeither, SameWorlds, Agree}
use Rattle.mlc_runs.specs.Run.{World, Answer}
use Rattle.mlc_runs.specs.of_mlc_names.declared.label.Label.{Label}
use Rattle.mlc_base.specs.declared.place.Place.{Place}
use Rattle.mlc_prims.specs.LitOf.{Literal}
use Rattle.mlc_prims.specs.declared.basis.BasisPrimitive.{BasisPrimitive}
use Rattle.ir_values.specs.Tags.{Tagging}
use Rattle.ir_values.specs.Values.{Value, closure, Fields, Env, field_in}
use Rattle.ir_values.specs.Match.{Matched, against_literal, against_exn, under_exn, against_con, under_con, under_record, under_ref}
use Rattle.ir_values.specs.Equality.{same_at}
use Rattle.ir_values.specs.Primitives.{perform, raise_value, make_reference, content_of, enter}
use Rattle.ir_values.specs.Related.{IsByKind, SameFields, SameMatched}

-- the values of two forms, and a relation of them and of environments
pub record Forms : Type 1 where
  pub tagging : Tagging
  pub B : Type 0
  pub C : Type 0
  pub D : Type 0
  pub E : Type 0
  pub related : Value B C tagging.Tag → Value D E tagging.Tag → Type 0
  pub same_env : Env B C tagging.Tag → Env D E tagging.Tag → Type 0
  pub by_kind : IsByKind related

abbrev pub V : Forms → Type 0
V f = Value f.B f.C f.tagging.Tag

abbrev pub W : Forms → Type 0
W f = Value f.D f.E f.tagging.Tag

abbrev pub Ends : (f : Forms) → Answer (V f) (V f) → Answer (W f) (W f) → Type 0
Ends f = Agree f.related f.related

abbrev pub Worlds : (f : Forms) → World (V f) → World (W f) → Type 0
Worlds f = SameWorlds f.related

-- one answer to whether they are equal
abbrev pub EqualityAgrees : Forms → Type 0
EqualityAgrees f = (g : f.tagging.Tag) (v u : V f) (w z : W f) → f.related v w → f.related u z → same_at f.tagging g w z ≡ same_at f.tagging g v u

abbrev pub PrimitivesAgree : Forms → Type 0
PrimitivesAgree f =
    (g : f.tagging.Tag) (p : BasisPrimitive) (vs : List (V f)) (zs : List (W f)) (w : World (V f)) (u : World (W f)) → AllRelated f.related vs zs
    → Worlds f w u → Ends f (perform f.tagging g p vs w) (perform f.tagging g p zs u)

-- calls, where those of related closures agree
abbrev pub CallsAgree : Forms → Type 0
CallsAgree f =
    (go : f.C → Env f.B f.C f.tagging.Tag → V f → World (V f) → Answer (V f) (V f)) (go' : f.E → Env f.D f.E f.tagging.Tag → W f → World (W f)
    → Answer (W f) (W f)) (place : Place)
    (h v : V f) (h' z : W f) (w : World (V f)) (u : World (W f)) → f.related h h' → f.related v z → Worlds f w u
    → ((c : f.C) (c' : f.E) (e : Env f.B f.C f.tagging.Tag) (e' : Env f.D f.E f.tagging.Tag) → f.related (closure c e) (closure c' e')
    → (w' : World (V f)) (u' : World (W f)) → Worlds f w' u' → Ends f (go c e v w') (go' c' e' z u'))
    → Ends f (enter f.tagging go place h v w) (enter f.tagging go' place h' z u)

-- a reference that is made, its content, and a packet that is raised
abbrev pub ReferencesAgree : Forms → Type 0
ReferencesAgree f =
    (g : f.tagging.Tag) (v : V f) (z : W f) (w : World (V f)) (u : World (W f)) → f.related v z → Worlds f w u
    → Ends f (make_reference f.tagging g v w) (make_reference f.tagging g z u) × Ends f (content_of f.tagging g w v) (content_of f.tagging g u z)
    × Ends f (raise_value v w) (raise_value z u)

abbrev pub FieldsAgree : Forms → Type 0
FieldsAgree f =
    (l : Label) (fs : Fields f.B f.C f.tagging.Tag) (gs : Fields f.D f.E f.tagging.Tag) → SameFields f.related fs gs
    → BothOrNeither f.related (field_in l fs) (field_in l gs)

-- what goes on with related parts
abbrev pub GoesOn : (f : Forms) → (V f → Matched f.B f.C f.tagging.Tag) → (W f → Matched f.D f.E f.tagging.Tag) → Type 0
GoesOn f go go' = (x : V f) (y : W f) → f.related x y → SameMatched f.same_env (go x) (go' y)

-- each test of a pattern
pub record TestsAgree (f : Forms) : Type 0 where
  pub literals : (l : Literal) (v : V f) (z : W f) (m : Matched f.B f.C f.tagging.Tag) (n : Matched f.D f.E f.tagging.Tag) → f.related v z
      → SameMatched f.same_env m n → SameMatched f.same_env (against_literal l v m) (against_literal l z n)
  pub con : (g : f.tagging.Tag) (c : ℕ) (v : V f) (z : W f) (m : Matched f.B f.C f.tagging.Tag) (n : Matched f.D f.E f.tagging.Tag) → f.related v z
      → SameMatched f.same_env m n → SameMatched f.same_env (against_con f.tagging g c v m) (against_con f.tagging g c z n)
  pub con_of : (g : f.tagging.Tag) (c : ℕ) (v : V f) (z : W f) (go : V f → Matched f.B f.C f.tagging.Tag) (go' : W f → Matched f.D f.E f.tagging.Tag)
      → f.related v z → GoesOn f go go' → SameMatched f.same_env (under_con f.tagging g c v go) (under_con f.tagging g c z go')
  pub exn : (o : Option (V f)) (q : Option (W f)) (v : V f) (z : W f) (m : Matched f.B f.C f.tagging.Tag) (n : Matched f.D f.E f.tagging.Tag)
      → BothOrNeither f.related o q → f.related v z → SameMatched f.same_env m n → SameMatched f.same_env (against_exn o v m) (against_exn q z n)
  pub exn_of : (g : f.tagging.Tag) (o : Option (V f)) (q : Option (W f)) (v : V f) (z : W f) (go : V f → Matched f.B f.C f.tagging.Tag) (go' : W f
      → Matched f.D f.E f.tagging.Tag) → BothOrNeither f.related o q → f.related v z → GoesOn f go go'
      → SameMatched f.same_env (under_exn f.tagging g o v go) (under_exn f.tagging g q z go')
  pub record_of : (g : f.tagging.Tag) (size : Option ℕ) (v : V f) (z : W f) (go : Fields f.B f.C f.tagging.Tag
      → Matched f.B f.C f.tagging.Tag) (go' : Fields f.D f.E f.tagging.Tag → Matched f.D f.E f.tagging.Tag) → f.related v z
      → ((fs : Fields f.B f.C f.tagging.Tag) (gs : Fields f.D f.E f.tagging.Tag) → SameFields f.related fs gs → SameMatched f.same_env (go fs) (go' gs))
      → SameMatched f.same_env (under_record f.tagging g size v go) (under_record f.tagging g size z go')
  pub ref : (g : f.tagging.Tag) (vs : List (V f)) (zs : List (W f)) (v : V f) (z : W f) (go : V f → Matched f.B f.C f.tagging.Tag) (go' : W f
      → Matched f.D f.E f.tagging.Tag) → AllRelated f.related vs zs → f.related v z → GoesOn f go go'
      → SameMatched f.same_env (under_ref f.tagging g vs v go) (under_ref f.tagging g zs z go')
