-- The phrases of the bare tree that nodes of the code's tree stand for.
use Rattle.std.specs.Prelude.{ℕ, suc, List, [], ◌∷◌, map}
use Rattle.mlc_base.specs.declared.place.Place.{Place}
use Rattle.sml_tree.specs.BareTree as bare
use Rattle.sml_tree.specs.Derived.{fresh_pat, fun_of, one_or_tuple_pat, short}
use Rattle.sml_tree.specs.Phrases.{Phrase, exp, pat, ty, dec, rule, bind, type_bind, data_bind, ex_bind}
use Rattle.sml_tree.specs.TreeOf.{clause_of, data_bind_of, dec_of, ex_bind_of, exp_of, pat_of, ty_of, type_bind_of}
use Rattle.sml_tree.specs.declared.tree.Bind.{Bind}
use Rattle.sml_tree.specs.declared.tree.Clause.{Clause}
use Rattle.sml_tree.specs.declared.tree.DataBind.{DataBind}
use Rattle.sml_tree.specs.declared.tree.Dec.{Dec}
use Rattle.sml_tree.specs.declared.tree.ExBind.{ExBind}
use Rattle.sml_tree.specs.declared.tree.Exp.{Exp}
use Rattle.sml_tree.specs.declared.tree.Function.{Function, out-Function}
use Rattle.sml_tree.specs.declared.tree.Pat.{Pat}
use Rattle.sml_tree.specs.declared.tree.Rule.{Rule}
use Rattle.sml_tree.specs.declared.tree.Ty.{Ty}
use Rattle.sml_tree.specs.declared.tree.TypeBind.{TypeBind}
use Rattle.core_rules.specs.Unbound.{pat_names}
use Rattle.core_rules.specs.Values.{Env, plus}

abbrev pub ty_phrase : Ty → Phrase
ty_phrase t = ty (ty_of t)

abbrev pub pat_phrase : Pat → Phrase
pat_phrase a = pat (pat_of a)

abbrev pub exp_phrase : Exp → Phrase
exp_phrase e = exp (exp_of e)

abbrev pub dec_phrase : Dec → Phrase
dec_phrase d = dec (dec_of d)

abbrev pub rule_phrase : Rule → Phrase
rule_phrase r = rule r.place (pat_of r.pat) (exp_of r.exp)

abbrev pub bind_phrase : Bind → Phrase
bind_phrase b = bind b.place (pat_of b.pat) (exp_of b.exp)

-- a clause of `fun` is a rule over its patterns, as one
abbrev pub clause_phrase : Clause → Phrase
clause_phrase c = rule c.place (one_or_tuple_pat c.place (map pat_of c.pats.items)) (exp_of c.exp)

abbrev pub function_phrase : Function → Phrase
function_phrase g =
    bind (out-Function g).place (bare.vid_pat (out-Function g).vid_place (short (out-Function g).vid))
    (fun_of (out-Function g).place (map clause_of (out-Function g).clauses.items))

abbrev pub type_phrase : TypeBind → Phrase
type_phrase b = type_bind (type_bind_of b)

abbrev pub data_phrase : DataBind → Phrase
data_phrase b = data_bind (data_bind_of b)

abbrev pub exn_phrase : ExBind → Phrase
exn_phrase b = ex_bind (ex_bind_of b)

-- what is in scope where the clauses of a function stand: the variables that stand for its arguments, of which there are as many as these patterns
abbrev pub fresh_onto : Place → ℕ → List bare.Pat → Env → Env
fresh_onto p k [] e = e
fresh_onto p k (a ∷ as_) e = fresh_onto p (suc k) as_ (plus e (pat_names e (fresh_pat p k)))
