-- datatype t = A | B of t  val B x = B A: what it elaborates to.
use Rattle.std.proofs.Common.{◌≡◌, ℕ, ◌≤◌, Bool, true, false, List, [], ◌∷◌, ◌++◌, None, Some, refl, arith}
use Rattle.mlc_base.specs.declared.place.Place.{Place}
use Rattle.ty_core.specs.Types.{Typ, con, name, none}
use Rattle.ty_core.specs.declared.name.TyName.{TyName}
use Rattle.ty_core.specs.declared.name.Equality.TheVariants.{ByArguments}
use Rattle.core_elab.specs.of_ty_basis.Types.{function_type}
use Rattle.core_elab.specs.of_sml_tree.Derived.{short}
use Rattle.core_elab.specs.of_sml_tree.declared.ident.Vid.TheVariants.{Named}
use Rattle.core_elab.specs.of_sml_tree.BareTree.{DataBind, no_tys}
use Rattle.core_elab.specs.of_sml_tree.BareTree as bare
use Rattle.core_elab.specs.of_core_rules.Choices.{Choices}
use Rattle.core_elab.specs.of_core_rules.Elaborated.{AllBelow}
use Rattle.core_elab.specs.of_ir_poly.Prog as prog
use Rattle.core_elab.specs.of_ir_poly.Types.{Constructor, constructor_of, initial_constructors}
use Rattle.core_elab.specs.of_ir_poly.TestsChecked.{Knowns, HasConstructor}
use Rattle.core_elab.specs.Scopes.{Scope}
use Rattle.core_elab.specs.Resolves.{called_vid, no_heads_to, a_con_to, no_cons_to, a_datatype_to, no_datatypes_to}
use Rattle.elab_typed.specs.Contexts.{KeptEnv}
use Rattle.elab_typed.specs.Instances.{use_constructor, before_constructor}
use Rattle.elab_typed.specs.Elaborates.{variable_elab, con_elab, vid_elab, app_elab, DecsElab, no_decs_elab, a_dec_elab, val_elab, datatype_elab, no_binds_elab, plain_elab, no_funs_elab}
use Rattle.elab_typed.proofs.Example.{p, around, named, bound, val, le}

-- identifiers: t 300, A 301, B 302, x 303

abbrev y : TyName
y = record { stamp = 8; arity = 0; equality = ByArguments }

abbrev t : Typ
t = con (name y) none

abbrev binding : DataBind
binding = record {
  place = p;
  tyvars = [];
  tycon = 300;
  cons = record { place = p; vid = Named 301; of_ty = None }
      ∷ record { place = p; vid = Named 302; of_ty = Some (bare.con p no_tys p (record { qualifiers = []; id = 300 })) } ∷ [];
}

abbrev source : bare.Decs
source = bare.dec (bare.datatype_dec p (binding ∷ []))
    (bare.dec (val (bare.con_pat p p (short (Named 302)) (bound 303)) (bare.app p (named 302) (named 301))) bare.no_decs)

abbrev program : prog.Decs
program = prog.val_dec [] (prog.a_bind p false (prog.con_of_pat 302 t (prog.variable_pat 0)) t
    (prog.app_exp p t (prog.con_exp 302 y [] (function_type t t)) (prog.con_exp 301 y [] t)) prog.no_binds) prog.no_funs prog.no_decs

abbrev table : List Constructor
table = initial_constructors ++ constructor_of y 301 None ∷ constructor_of y 302 (Some t) ∷ []

-- nothing is above
all-below : (qs : List Bool) → AllBelow qs (true ∷ [])
all-below [] = tt
all-below (q ∷ []) = (λ e. refl, tt)
all-below (q ∷ r ∷ qs) = (λ e. refl, tt)

elaborates : (d : KeptEnv) × (r : Scope) × (G : Knowns) × (c : Choices) × (j : ℕ) × DecsElab table around 0 source program 1 (λ k. k) d r G c j
elaborates = (
  _,
  _,
  _,
  _,
  _,
  a_dec_elab
      (datatype_elab p (true ∷ []) (λ k. k) refl refl refl (λ qs ts l d e. all-below qs) (λ k h. refl) (λ k h. refl)
      (a_datatype_to _ (a_con_to _ refl (a_con_to _ refl no_cons_to)) no_datatypes_to))
      (a_dec_elab
      (val_elab p p [] [] refl (λ s s' h. refl) refl refl refl no_heads_to no_funs_elab
      (plain_elab p p {t = t} (con_elab p p {u = t} refl refl
      (before_constructor 302 [] y none {u = t} refl (record { allowed = tt; over = (tt, ((refl, tt), ((refl, tt), tt))); is = λ s. refl; chosen = refl })
      (record { datatype = y; arguments = []; row = constructor_of y 302 (Some t); found = refl; same = refl; type = refl; argument = refl }) refl)
      (variable_elab p (Named 303) 0 le (record { unmatched = refl; unkept = refl; free = refl; over = (refl, tt) })))
      (app_elab p {t = t} {u = t} (called_vid _ _)
      (vid_elab p refl refl (use_constructor 302 [] y [] (record { allowed = tt; over = (tt, ((refl, tt), ((refl, tt), tt))); is = λ s. refl; chosen = refl })
      (record { row = constructor_of y 302 (Some t); found = refl; same = refl; over = refl; is = refl })))
      (vid_elab p refl refl (use_constructor 301 [] y [] (record { allowed = tt; over = (refl, tt); is = λ s. refl; chosen = refl })
      (record { row = constructor_of y 301 None; found = refl; same = refl; over = refl; is = refl })))) refl refl no_binds_elab))
      no_decs_elab),
)
