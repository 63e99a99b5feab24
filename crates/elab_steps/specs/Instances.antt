-- Instances of schemes. [Definition 4.5]
use Rattle.std.specs.Prelude.{◌≡◌, ◌<◌, ℕ, Bool, true, false, List, length}
use Rattle.std.specs.List.{AllByRecursion}
use Rattle.ty_core.specs.Types.{Typ, var, con, arrow, labels, name, typs_of}
use Rattle.ty_core.specs.Marks.{is_inhabited}
use Rattle.ty_core.specs.Statics.{replace}
use Rattle.ty_core.specs.declared.mark.Mark.{Mark}
use Rattle.ty_table.specs.TypeAt.{type_at}
use Rattle.elab_types.specs.of_ty_solve.Substitution.{is_below}
use Rattle.elab_types.specs.of_ty_solve.declared.limit.Limit.{Limit}
use Rattle.elab_types.specs.of_core_rules.Objects.{AllAllowed, AllOver}
use Rattle.elab_state.specs.of_ir_poly.Types.{nth_type, all_over}
use Rattle.elab_state.specs.States.{types_in, dead_level}
use Rattle.elab_state.specs.declared.state.State.{State}
use Rattle.elab_steps.specs.World.{World}

-- a type is one of functions
abbrev pub begins_as_function : Typ → Bool
begins_as_function (var v) = false
begins_as_function (con arrow ts) = true
begins_as_function (con (labels ls) ts) = false
begins_as_function (con (name n) ts) = false

-- the body of a scheme is a type of the table, and its variables are the parameters, one a mark
pub record IsScheme (S : State) (marks : List Mark) (body : ℕ) : Type 0 where
  pub held : body < length (types_in S)
  pub closed : is_below (length marks) (type_at (types_in S) body) ≡ true
  pub inhabited : AllByRecursion (λ m. is_inhabited m ≡ true) marks

-- t is the body with types for its parameters: such as the marks ask for, over so many names, and over the parameters in scope at a level
pub record IsInstance (W : World) (limit : Limit) (marks : List Mark) (body t : Typ) : Type 0 where
  pub images : List Typ
  pub count : length images ≡ length marks
  pub allowed : AllAllowed W.admits (nth_type images) 0 marks
  pub names : AllOver limit.names (typs_of images)
  pub parameters : limit.level < dead_level → all_over (W.parameters limit.level) (typs_of images) ≡ true
  pub is : t ≡ replace (nth_type images) body
