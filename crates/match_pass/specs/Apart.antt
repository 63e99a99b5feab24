-- Parts of an expression that are made apart from each other.
use Rattle.std.specs.Prelude.{◌≡◌, ℕ, List, [], ◌∷◌, Option, Some, None, slice_index_or, Vec}
use Rattle.std.specs.Global.{Global}
use Rattle.ir_poly.specs.Prog as t
use Rattle.match_compile.specs.Compile.{Way, way, by_call, by_building, by_performing}
use Rattle.plain_tree.specs.declared.tree.Function as member
use Rattle.plain_tree.specs.declared.tree.Step.{Step}
use Rattle.prog_tree.specs.TreeOf.{Reading}
use Rattle.prog_tree.specs.declared.tree.Exp.{Exp}
use Rattle.prog_tree.specs.declared.tree.Function.{Function}
use Rattle.prog_tree.specs.declared.tree.Join.{Join}
use Rattle.general_bindings.specs.of_match_types.declared.work.Work.{Work}
use Rattle.general_bindings.specs.of_exp_steps.Making.{Makes, Weighs, Begun}
use Rattle.general_bindings.specs.of_exp_steps.Joining.{Opens}
use Rattle.general_bindings.specs.of_exp_steps.Ways.{built_of, type_or_unit}
use Rattle.general_bindings.specs.of_exp_steps.declared.joins.Opening.{Opening}
use Rattle.general_bindings.specs.of_exp_steps.declared.joins.Opening.TheVariants as openings
use Rattle.match_pass.specs.Reading.{expression}
use Rattle.match_pass.specs.Declaring.{MemberMade}

-- how an application goes that begins so
abbrev pub going : Opening → Reading → Way
going (openings.Call x) R = by_call
going (openings.Building b name) R = by_building (built_of b R)
going (openings.Performing p k) R = by_performing p (type_or_unit k R)

-- what stands before the argument of f was put behind the steps before
abbrev pub Begins : (old new : Work) (before after : List Step) → (Reading → t.Exp) → Opening → Type 0
Begins old new before after f (openings.Call x) = Makes old new before after f x
Begins old new before after f (openings.Building b name) = Begun old new before after f b name
Begins old new before after f (openings.Performing p k) = Weighs old new before after f

-- the application of f to the first of these arguments goes as it begins
abbrev pub GoesOn : Exp → List (ℕ × Exp) → Opening → Type 0
GoesOn f as_ o = (R : Reading) (a : ℕ × Exp) → a ≡ slice_index_or as_ 0 a → way (expression f R) (expression a.1 R) ≡ going o R

-- the first operator of a chain is open, where there is one
pub data FirstOpen (old new : Work) (before after : List Step) : List (Join × Exp × Exp) → Option Opening → Type 0 where
  none : new ≡ old → after ≡ before → FirstOpen old new before after [] None
  some : {js : List (Join × Exp × Exp)} (j : Join × Exp × Exp) (o : Opening) → Opens old new before after (expression j.1) o → FirstOpen old new before after (j ∷ js) (Some o)

-- one function more of a group was made, whatever its names
abbrev pub OneMade : (old new : Work) (ty : ℕ) → Function → (c : ℕ) (made more : List member.Function) → Type 0
OneMade old new ty f c made more = (vs : Vec ℕ Global) → MemberMade old new (vs, ty, f) c made more
