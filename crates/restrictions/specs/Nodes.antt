-- What is broken in the phrases of the code's tree: what is broken in its bare tree.
use Rattle.std.specs.Prelude.{ℕ, Bool, true, false, not, ◌&&◌, nat_eq, List, [], ◌∷◌, ◌++◌, flat_map, map, Option, Some, None}
use Rattle.std.specs.List.{list_all}
use Rattle.mlc_base.specs.declared.place.Place.{Place}
use Rattle.mlc_names.specs.declared.label.Label.{Label}
use Rattle.sml_tree.specs.BareTree as bare
use Rattle.sml_tree.specs.BareTree.{no_binds}
use Rattle.sml_tree.specs.Derived.{function_binds, withtype_of}
use Rattle.sml_tree.specs.Phrases.{bind}
use Rattle.sml_tree.specs.TreeOf.{bind_of, binds_of, data_bind_of, dec_of, ex_bind_of, exp_of, function_of, pat_of, ty_of, type_bind_of}
use Rattle.sml_tree.specs.declared.ident.Tyvar.{Tyvar}
use Rattle.sml_tree.specs.declared.tree.Bind.{Bind}
use Rattle.sml_tree.specs.declared.tree.Clause.{Clause}
use Rattle.sml_tree.specs.declared.tree.DataBind.{DataBind}
use Rattle.sml_tree.specs.declared.tree.Dec.{Dec}
use Rattle.sml_tree.specs.declared.tree.ExBind.{ExBind}
use Rattle.sml_tree.specs.declared.tree.Exp.{Exp}
use Rattle.sml_tree.specs.declared.tree.ExpField.{ExpField}
use Rattle.sml_tree.specs.declared.tree.Function.{Function, out-Function}
use Rattle.sml_tree.specs.declared.tree.Part.{Part}
use Rattle.sml_tree.specs.declared.tree.Pat.{Pat}
use Rattle.sml_tree.specs.declared.tree.PatField.{PatField}
use Rattle.sml_tree.specs.declared.tree.PatPart.{PatPart}
use Rattle.sml_tree.specs.declared.tree.Rule.{Rule}
use Rattle.sml_tree.specs.declared.tree.Ty.{Ty}
use Rattle.sml_tree.specs.declared.tree.TyField.{TyField}
use Rattle.sml_tree.specs.declared.tree.TyPart.{TyPart}
use Rattle.sml_tree.specs.declared.tree.TypeBind.{TypeBind}
use Rattle.sml_tree.specs.declared.tree.TyvarSeq.{TyvarSeq}
use Rattle.core_rules.specs.Restrictions.{distinct, exn_vids, no_repetition, tycons_of, unless, unless_fn}
use Rattle.core_rules.specs.Words.{is_in, same_label, same_vid}
use Rattle.restrictions.specs.Breaks.{dec_breaks, ex_bind_breaks, exp_breaks, pat_breaks, scope_in, ty_breaks, type_bind_breaks}

-- a label twice
abbrev pub unless_once : List Label → Place → List Place
unless_once ls p = unless (distinct same_label ls) p

-- types

abbrev pub ty_places : Ty → List Place
ty_places t = ty_breaks (ty_of t)

abbrev pub field_ty_places : TyField → List Place
field_ty_places f = ty_places f.ty

abbrev pub ty_part_places : TyPart → List Place
ty_part_places p = ty_places p.ty

abbrev pub some_places : Option Ty → List Place
some_places None = []
some_places (Some t) = ty_places t

-- patterns

abbrev pub pat_places : Pat → List Place
pat_places a = pat_breaks (pat_of a)

abbrev pub field_pat_places : PatField → List Place
field_pat_places f = pat_places f.pat

abbrev pub pat_part_places : PatPart → List Place
pat_part_places p = pat_places p.pat

-- expressions and declarations, with the type variables that are scoped round them

abbrev pub exp_places : List ℕ → Exp → List Place
exp_places s e = exp_breaks s (exp_of e)

abbrev pub dec_places : List ℕ → Dec → List Place
dec_places s d = dec_breaks s (dec_of d)

abbrev pub field_places : List ℕ → ExpField → List Place
field_places s f = exp_places s f.exp

abbrev pub part_places : List ℕ → Part → List Place
part_places s o = exp_places s o.exp

abbrev pub rule_places : List ℕ → Rule → List Place
rule_places s r = pat_places r.pat ++ exp_places s r.exp

abbrev pub bind_places : List ℕ → Bind → List Place
bind_places s b = pat_places b.pat ++ exp_places s b.exp

-- what is bound behind `rec` is a `fn`
abbrev pub unless_function : Bind → List Place
unless_function b = unless_fn (bind b.place (pat_of b.pat) (exp_of b.exp))

abbrev pub rec_places : List ℕ → Bind → List Place
rec_places s b = bind_places s b ++ unless_function b

abbrev pub clause_places : List ℕ → Clause → List Place
clause_places s c = flat_map pat_places c.pats.items ++ exp_places s c.exp

-- a first clause with a pattern: what `fun` makes is a `fn`
abbrev pub takes : List Clause → Bool
takes [] = false
takes (c ∷ cs) = elim c.pats.items [ [] ↦ false | a ∷ as_ ↦ true ]

abbrev pub function_places : List ℕ → Function → List Place
function_places s g = flat_map (clause_places s) (out-Function g).clauses.items ++ unless (takes (out-Function g).clauses.items) (out-Function g).place

-- no variable of a sequence is there twice, or scoped already
abbrev pub are_new : List ℕ → List Tyvar → Bool
are_new s as_ = no_repetition as_ && list_all (λ a. not (is_in nat_eq a.name s)) as_

abbrev pub val_places : List ℕ → TyvarSeq → List Bind → List Bind → List Place
val_places s q bs rs =
    (flat_map (bind_places (scope_in s q.tyvars.items (binds_of (map bind_of bs)) (binds_of (map bind_of rs)))) bs
    ++ flat_map (rec_places (scope_in s q.tyvars.items (binds_of (map bind_of bs)) (binds_of (map bind_of rs)))) rs)
    ++ unless (are_new s q.tyvars.items) q.place

abbrev pub fun_places : List ℕ → TyvarSeq → List Function → List Place
fun_places s q gs =
    flat_map (function_places (scope_in s q.tyvars.items no_binds (function_binds (map function_of gs)))) gs ++ unless (are_new s q.tyvars.items) q.place

-- bindings of types, and declarations of them

abbrev pub type_bind_places : TypeBind → List Place
type_bind_places b = type_bind_breaks (type_bind_of b)

abbrev pub ex_bind_places : ExBind → List Place
ex_bind_places b = ex_bind_breaks (ex_bind_of b)

abbrev pub type_places : Place → List TypeBind → List Place
type_places p bs = flat_map type_bind_places bs ++ unless (distinct nat_eq (map (λ b. b.tycon) bs)) p

abbrev pub exception_places : Place → List ExBind → List Place
exception_places p bs = flat_map ex_bind_places bs ++ unless (distinct same_vid (exn_vids (map ex_bind_of bs))) p

abbrev pub datatype_places : Place → List DataBind → List Place
datatype_places p bs = dec_breaks [] (bare.datatype_dec p (map data_bind_of bs))

abbrev pub withtype_places : Place → List DataBind → List TypeBind → List Place
withtype_places p ds bs = dec_breaks [] (withtype_of p (map data_bind_of ds) (map type_bind_of bs))

-- the type constructors of declarations in a sequence
abbrev pub named_types : Dec → List ℕ
named_types d = tycons_of (dec_of d)
