-- Expressions whose types may be generalised, wherever a context tells of what is around. [Definition 4.7]
use Rattle.std.specs.Prelude.{◌≡◌, ◌&&◌, ℕ, Bool, true, false, not, nat_eq, List, [], ◌∷◌, Option, Some, None, slice_get}
use Rattle.ty_table.specs.TypeAt.{type_at}
use Rattle.ty_basis.specs.Types.{ref_name}
use Rattle.sml_tree.specs.BareTree as bare
use Rattle.sml_tree.specs.Derived.{short}
use Rattle.sml_tree.specs.TreeOf.{exp_of}
use Rattle.sml_tree.specs.declared.ident.Vid.{Vid}
use Rattle.sml_tree.specs.declared.tree.Exp.{Exp}
use Rattle.sml_tree.specs.declared.tree.ExpField.{ExpField}
use Rattle.sml_tree.specs.declared.tree.Joint.{Joint}
use Rattle.sml_tree.specs.declared.tree.Joint.TheVariants as joint
use Rattle.sml_tree.specs.declared.tree.Part.{Part}
use Rattle.core_rules.specs.Objects.{Env, long_value_in}
use Rattle.core_rules.specs.Typing.{is_conexp, is_conexp_in, is_non_expansive}
use Rattle.ir_poly.specs.Prog.{is_value}
use Rattle.prog_tree.specs.TreeOf.{Reading, tree_of}
use Rattle.prog_tree.specs.declared.tree.Exp.{Exp as ProgramExp}
use Rattle.elab_typed.specs.Contexts.{Around, generic}
use Rattle.elab_state.specs.States.{types_in}
use Rattle.elab_state.specs.declared.state.State.{State}
use Rattle.elab_steps.specs.Instances.{begins_as_function}
use Rattle.elab_steps.specs.World.{World, Comes}
use Rattle.elab_context.specs.Telling.{Tells}
use Rattle.elab_context.specs.declared.context.Context.{Context}
use Rattle.elab_context.specs.declared.entry.Entry.{Entry}
use Rattle.elab_context.specs.declared.entry.Entry.TheVariants.{Constructor, Reference, Initial, Primitive, Raised, Single, Own, General}
use Rattle.elab_context.specs.declared.entry.Scheme as code

-- an answer is right in each environment of which the context tells
abbrev pub IsRight : State → Context → (Env → Bool) → Bool → Type 0
IsRight S C f b = (W : World) → Comes S W → (A : Around) → Tells C W A → b ≡ f (generic A).env

abbrev pub IsConexpAs : State → Context → bare.Exp → Bool → Type 0
IsConexpAs S C e = IsRight S C (λ E. is_conexp E e)

abbrev pub IsNonExpansiveAs : State → Context → bare.Exp → Bool → Type 0
IsNonExpansiveAs S C e = IsRight S C (λ E. is_non_expansive E e)

-- it is non-expansive, and the program's expression is a value
pub record IsGeneralised (S : State) (C : Context) (e : bare.Exp) (x : ProgramExp) : Type 0 where
  pub source : IsNonExpansiveAs S C e true
  pub program : (R : Reading) → is_value (tree_of R x) ≡ true

-- identifiers that make what they are applied to, and no reference

abbrev pub body_of : Option code.Scheme → ℕ
body_of None = 0
body_of (Some s) = s.body

abbrev pub makes : State → Context → Entry → Bool
makes S C (Constructor s n y) = not (nat_eq y.stamp ref_name.stamp && begins_as_function (type_at (types_in S) (body_of (slice_get C.schemes.items s))))
makes S C (Reference s) = false
makes S C (Initial s n) = true
makes S C (Primitive s q) = false
makes S C (Raised n a) = true
makes S C (Single t n) = false
makes S C (Own t n) = false
makes S C (General l t n o) = false

abbrev pub makes_if : State → Context → Option Entry → Bool
makes_if S C None = false
makes_if S C (Some e) = makes S C e

-- parts

abbrev pub is_nil : {A : Type 0} → List A → Bool
is_nil [] = true
is_nil (x ∷ xs) = false

module _ (E : Env) where
  abbrev pub exp_is : Exp → Bool
  exp_is e = is_non_expansive E (exp_of e)

  abbrev pub field_is : ExpField → Bool
  field_is f = exp_is f.exp

  abbrev pub vid_makes : Vid → Bool
  vid_makes v = is_conexp_in (long_value_in E (short v))

  abbrev pub joint_makes : Joint → Bool
  joint_makes joint.AndAlso = false
  joint_makes joint.OrElse = false
  joint_makes (joint.Infix q v) = vid_makes v

  abbrev pub part_is : Part → Bool
  part_is o = joint_makes o.joint && exp_is o.exp

  -- an application to these operands, of a function that is non-expansive alone, or makes what it is applied to
  abbrev pub applied_is : Bool → Bool → List Exp → Bool
  applied_is alone made [] = alone
  applied_is alone made (a ∷ []) = made && exp_is a
  applied_is alone made (a ∷ b ∷ as_) = false
