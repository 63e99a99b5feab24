-- The parts of nodes of the code's tree, with what is in scope there, and what declarations bring.
use Rattle.std.specs.Prelude.{List, [], ◌∷◌, ◌++◌, ◌⊎◌, map, flat_map, Option, Some, None, option_map, unwrap_or}
use Rattle.std.specs.List.{Contains}
use Rattle.sml_tree.specs.BareTree as bare
use Rattle.sml_tree.specs.Derived.{expand_bind, short}
use Rattle.sml_tree.specs.Phrases.{Phrase, data_bind, ty}
use Rattle.sml_tree.specs.TreeOf.{data_bind_of, dec_of, decs_of, ty_of, type_bind_of}
use Rattle.sml_tree.specs.declared.tree.DataBind.{DataBind}
use Rattle.sml_tree.specs.declared.tree.Dec.{Dec}
use Rattle.sml_tree.specs.declared.tree.Joint.{Joint}
use Rattle.sml_tree.specs.declared.tree.Joint.TheVariants.{AndAlso, OrElse, Infix}
use Rattle.sml_tree.specs.declared.tree.Part.{Part}
use Rattle.sml_tree.specs.declared.tree.PatPart.{PatPart}
use Rattle.sml_tree.specs.declared.tree.Ty.{Ty}
use Rattle.sml_tree.specs.declared.tree.TypeBind.{TypeBind}
use Rattle.core_rules.specs.Eval.{datatypes_env, long_structure_in, long_tycon_in}
use Rattle.core_rules.specs.Unbound.{Unbound, value_at, tycon_at, structure_at, unless_bound, Scoped, all_in, tycons_names}
use Rattle.core_rules.specs.Values.{Env, long_value_in, nothing, plus, tycon}
use Rattle.name_scopes.specs.Nodes.{exp_phrase, pat_phrase, type_phrase}
use Rattle.name_scopes.specs.Placed.{At, FoundAt}
use Rattle.name_scopes.specs.declared.sought.Sought.{Sought}

abbrev pub some_ty_phrases : Option Ty → List Phrase
some_ty_phrases None = []
some_ty_phrases (Some t) = ty (ty_of t) ∷ []

-- what joins operands, where it is an identifier that isn't bound
abbrev pub joint_unbound : Env → Joint → List Unbound
joint_unbound e (Infix q v) = unless_bound (long_value_in e (short v)) (value_at q (short v))
joint_unbound e AndAlso = []
joint_unbound e OrElse = []

-- in one of the parts of a chain: what joins it, or its operand
pub record InParts (s : Sought) (e : Env) (os : List Part) : Type 0 where
  pub part : Part
  pub is : Contains os part
  pub at : At s (joint_unbound e part.joint) ⊎ FoundAt s e (exp_phrase part.exp)

pub record InPatParts (s : Sought) (e : Env) (os : List PatPart) : Type 0 where
  pub part : PatPart
  pub is : Contains os part
  pub at : At s (unless_bound (long_value_in e (short part.vid)) (value_at part.vid_place (short part.vid))) ⊎ FoundAt s e (pat_phrase part.pat)

abbrev pub run_of : List Dec → bare.Decs
run_of ds = decs_of (map dec_of ds)

-- datatypes with abbreviations written out
abbrev pub expanded : List bare.TypeBind → List DataBind → List bare.DataBind
expanded bs ds = map (expand_bind bs) (map data_bind_of ds)

abbrev pub datatype_scopes : List bare.TypeBind → Env → List DataBind → List Scoped
datatype_scopes bs e ds = all_in (plus e (tycons_names (expanded bs ds))) (map data_bind (expanded bs ds))

abbrev pub withtype_scopes : Env → List DataBind → List TypeBind → List Scoped
withtype_scopes e ds bs =
    datatype_scopes (map type_bind_of bs) e ds
    ++ all_in (plus e (datatypes_env (expanded (map type_bind_of bs) ds))) (map type_phrase bs)

abbrev pub replica_unbound : Env → bare.LongIdAt → List Unbound
replica_unbound e y = unless_bound (long_tycon_in e y) (tycon_at y.place y.long)

abbrev pub replica_names : Env → Rattle.std.specs.Prelude.ℕ → bare.LongIdAt → Env
replica_names e x y = unwrap_or (option_map (λ d. tycon x d d) (long_tycon_in e y)) nothing

abbrev pub structures_unbound : Env → List bare.LongIdAt → List Unbound
structures_unbound e xs = flat_map (λ y. unless_bound (long_structure_in e y) (structure_at y.place y.long)) xs
