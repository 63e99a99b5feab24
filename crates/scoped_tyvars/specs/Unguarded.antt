-- The type variables that occur unguarded in the phrases of the code's tree, each as often as it does, in the order of the bare tree.
use Rattle.std.specs.Prelude.{Bool, true, false, if◌then◌else◌, List, [], ◌∷◌, ◌++◌, flat_map, Option, Some, None}
use Rattle.sml_tree.specs.BareTree as bare
use Rattle.sml_tree.specs.Phrases.{has_scope, in_dec, in_exp, in_pat, in_ty}
use Rattle.sml_tree.specs.TreeOf.{dec_of, exp_of, pat_of, ty_of}
use Rattle.sml_tree.specs.declared.ident.Tyvar.{Tyvar}
use Rattle.sml_tree.specs.declared.tree.Bind.{Bind}
use Rattle.sml_tree.specs.declared.tree.Clause.{Clause}
use Rattle.sml_tree.specs.declared.tree.Dec.{Dec}
use Rattle.sml_tree.specs.declared.tree.ExBind.{ExBind}
use Rattle.sml_tree.specs.declared.tree.ExBind.TheVariants as exn
use Rattle.sml_tree.specs.declared.tree.Exp.{Exp}
use Rattle.sml_tree.specs.declared.tree.ExpField.{ExpField}
use Rattle.sml_tree.specs.declared.tree.Function.{Function, out-Function}
use Rattle.sml_tree.specs.declared.tree.Joint.{Joint}
use Rattle.sml_tree.specs.declared.tree.Joint.TheVariants as joint
use Rattle.sml_tree.specs.declared.tree.Part.{Part}
use Rattle.sml_tree.specs.declared.tree.Pat.{Pat}
use Rattle.sml_tree.specs.declared.tree.PatField.{PatField}
use Rattle.sml_tree.specs.declared.tree.PatPart.{PatPart}
use Rattle.sml_tree.specs.declared.tree.Rule.{Rule}
use Rattle.sml_tree.specs.declared.tree.Ty.{Ty}
use Rattle.sml_tree.specs.declared.tree.TyField.{TyField}
use Rattle.sml_tree.specs.declared.tree.TyPart.{TyPart}
use Rattle.core_rules.specs.Scoping.{tyvars_in}

-- types

abbrev pub in_bare_ty : bare.Ty → List Tyvar
in_bare_ty t = tyvars_in (in_ty has_scope t)

abbrev pub ty_tyvars : Ty → List Tyvar
ty_tyvars t = in_bare_ty (ty_of t)

abbrev pub field_ty_tyvars : TyField → List Tyvar
field_ty_tyvars f = ty_tyvars f.ty

abbrev pub ty_part_tyvars : TyPart → List Tyvar
ty_part_tyvars p = ty_tyvars p.ty

abbrev pub some_tyvars : Option Ty → List Tyvar
some_tyvars None = []
some_tyvars (Some t) = ty_tyvars t

-- patterns

abbrev pub in_bare_pat : bare.Pat → List Tyvar
in_bare_pat a = tyvars_in (in_pat has_scope a)

abbrev pub pat_tyvars : Pat → List Tyvar
pat_tyvars a = in_bare_pat (pat_of a)

abbrev pub field_pat_tyvars : PatField → List Tyvar
field_pat_tyvars f = pat_tyvars f.pat

abbrev pub pat_part_tyvars : PatPart → List Tyvar
pat_part_tyvars p = pat_tyvars p.pat

-- expressions and declarations

abbrev pub in_bare_exp : bare.Exp → List Tyvar
in_bare_exp e = tyvars_in (in_exp has_scope e)

abbrev pub exp_tyvars : Exp → List Tyvar
exp_tyvars e = in_bare_exp (exp_of e)

abbrev pub dec_tyvars : Dec → List Tyvar
dec_tyvars d = tyvars_in (in_dec has_scope (dec_of d))

abbrev pub field_tyvars : ExpField → List Tyvar
field_tyvars f = exp_tyvars f.exp

abbrev pub rule_tyvars : Rule → List Tyvar
rule_tyvars r = pat_tyvars r.pat ++ exp_tyvars r.exp

abbrev pub bind_tyvars : Bind → List Tyvar
bind_tyvars b = pat_tyvars b.pat ++ exp_tyvars b.exp

abbrev pub clause_tyvars : Clause → List Tyvar
clause_tyvars c = flat_map pat_tyvars c.pats.items ++ exp_tyvars c.exp

abbrev pub function_tyvars : Function → List Tyvar
function_tyvars g = flat_map clause_tyvars (out-Function g).clauses.items

abbrev pub exn_tyvars : ExBind → List Tyvar
exn_tyvars (exn.New p v t) = some_tyvars t
exn_tyvars (exn.Same p v q x) = []

-- from the last to the first
abbrev pub back : {A B : Type 0} → (A → List B) → List A → List B
back f [] = []
back f (x ∷ xs) = back f xs ++ f x

-- Chains. What stands before `andalso` or `orelse` comes behind what stands after it.

abbrev pub is_logical : Joint → Bool
is_logical joint.AndAlso = true
is_logical joint.OrElse = true
is_logical (joint.Infix q v) = false

-- such a joint comes first
abbrev pub begins_logical : List Part → Bool
begins_logical [] = false
begins_logical (o ∷ os) = is_logical o.joint

-- the joint that turns an operand: the one before it where operands are joined to the left, and the one behind it where to the right
abbrev pub is_turned : Bool → Part → List Part → Bool
is_turned false o os = is_logical o.joint
is_turned true o os = begins_logical os

-- operands that stay in their order, and those that are turned, the last first
abbrev pub plain : Bool → List Part → List Tyvar
plain r [] = []
plain r (o ∷ os) = (if is_turned r o os then [] else exp_tyvars o.exp) ++ plain r os

abbrev pub turned : Bool → List Part → List Tyvar
turned r [] = []
turned r (o ∷ os) = turned r os ++ (if is_turned r o os then exp_tyvars o.exp else [])
