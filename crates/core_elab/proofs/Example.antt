-- Declarations with every difficulty of the relation, and a program that resolves them; by computation both do the same.
use Rattle.std.proofs.Common.{◌≡◌, ℕ, ◌≤◌, true, false, [], ◌∷◌, None, refl, arith}
use Rattle.std.specs.Prelude.{pos, suc}
use Rattle.mlc_names.specs.StandardWords.{word_quot}
use Rattle.mlc_runs.specs.Outcome.{Outcome, uncaught, going}
use Rattle.mlc_names.specs.declared.label.Label.TheVariants.{Number}
use Rattle.mlc_base.specs.declared.place.Place.{Place}
use Rattle.mlc_prims.specs.declared.basis.BasisPrimitive.TheVariants.{Quotient}
use Rattle.mlc_prims.specs.LitOf.{int}
use Rattle.ty_core.specs.Types.{Typ, var}
use Rattle.ty_core.specs.declared.name.TyName.{TyName}
use Rattle.ty_core.specs.declared.name.Equality.TheVariants.{Always}
use Rattle.core_rules.specs.of_sml_tree.Terminal as term
use Rattle.core_rules.specs.of_sml_tree.Derived.{short, and_of}
use Rattle.core_rules.specs.of_sml_tree.declared.ident.Vid.TheVariants.{Named}
use Rattle.core_rules.specs.of_sml_tree.declared.ident.BuiltIn.TheVariants.{True, False}
use Rattle.core_rules.specs.of_sml_tree.BareTree.{new_exn, same_exn, LongIdAt}
use Rattle.core_rules.specs.of_sml_tree.BareTree as bare
use Rattle.core_rules.specs.Initial.{word_Int}
use Rattle.core_rules.specs.Meaning.{meaning}
use Rattle.ir_poly.specs.Prog.{held}
use Rattle.ir_poly.specs.Prog as prog
use Rattle.ir_poly.specs.ProgMeaning.{run}
use Rattle.core_elab.specs.Scopes.{Scope, initial_scope}
use Rattle.core_elab.specs.Resolves.{use_variable, use_own, use_constructor, use_exception, use_primitive, alone_constructor, alone_exception, wild_to, variable_to, alone_to, fields_to, as_to, no_pats_to, pat_field_to, variable_parameter, head_variable, no_exns_to, new_exn_to, same_exn_to, no_cons_to, a_con_to, no_datatypes_to, a_datatype_to, called_vid, called_app, constant_exp_to, vid_to, built_exp_to, fields_exp_to, app_to, chain_to, handle_to, raise_to, no_fields_to, field_to, only_to, and_to, no_rules_to, rule_to, by_rules_to, last_to, more_to, DecsTo, no_decs_to, dec_to, val_to, datatype_to, replicate_to, exception_to, local_to, open_to, no_binds_to, bind_to, no_funs_to, fun_to, no_heads_to, heads_to}
use Rattle.core_elab.specs.Laws.{initial_identifiers}

abbrev at : ℕ → Place
at n = record { file = 0; byte = n }

abbrev p : Place
p = at 0

-- identifiers: A, B, E, G, f, y, x, z, g, a, b, w; and those of the types t and u

abbrev named : ℕ → bare.Exp
named x = bare.vid_exp p (short (Named x))

abbrev bound : ℕ → bare.Pat
bound x = bare.vid_pat p (short (Named x))

abbrev one : bare.Exp
one = bare.constant_exp p (term.int (pos 1))

abbrev val : bare.Pat → bare.Exp → bare.Dec
val a e = bare.val_dec p p [] (bare.bind p a e bare.no_binds) bare.no_binds

abbrev fun : ℕ → bare.Rules → bare.Dec
fun x rs = bare.val_dec p p [] bare.no_binds (bare.bind p (bound x) (bare.fn p rs) bare.no_binds)

abbrev rule : bare.Pat → bare.Exp → bare.Rules → bare.Rules
rule a e rs = bare.rule p a e rs

abbrev pair : bare.Exp → bare.Exp → bare.Exp
pair e d = bare.fields_exp p (bare.exp_field (Number 1) e (bare.exp_field (Number 2) d bare.no_exp_fields))

abbrev long : ℕ → LongIdAt
long x = record { place = p; long = record { qualifiers = []; id = x } }

-- datatype t = A | B; datatype u = datatype t; local exception E in exception G = E end; val rec f = fn A => f B | y => raise G
-- val x = f A handle G => 1; open Int; val z as {1 = y, ...} = (quot (1, 1), x); val rec g = fn a => fn b => a; val w = g true false andalso false
-- val _ = raise G
abbrev source : bare.Decs
source =
    bare.dec (bare.datatype_dec p (record {
      place = p;
      tyvars = [];
      tycon = 200;
      cons = record { place = p; vid = Named 201; of_ty = None } ∷ record
          { place = p; vid = Named 202; of_ty = None } ∷ [];
    } ∷ []))
    (bare.dec (bare.replicate_dec p 203 (long 200))
    (bare.dec (bare.local_dec p (bare.dec (bare.exception_dec p (new_exn p (Named 204) None ∷ [])) bare.no_decs)
    (bare.dec (bare.exception_dec p (same_exn p (Named 205) p (short (Named 204)) ∷ [])) bare.no_decs))
    (bare.dec (fun 206 (rule (bound 201) (bare.app (at 1) (named 206) (named 202)) (rule (bound 207) (bare.raise p (named 205)) bare.no_rules)))
    (bare.dec (val (bound 208) (bare.handle p (bare.app (at 2) (named 206) (named 201)) (rule (bound 205) one bare.no_rules)))
    (bare.dec (bare.open_dec p (long word_Int ∷ []))
    (bare.dec (val (bare.as_pat p (Named 212) None (bare.fields_pat p (bare.pat_field (Number 1) (bound 207) bare.no_pat_fields) true))
    (pair (bare.app (at 3) (named word_quot) (pair one one)) (named 208)))
    (bare.dec (fun 209 (rule (bound 210) (bare.fn p (rule (bound 211) (named 210) bare.no_rules)) bare.no_rules))
    (bare.dec (val (bound 213) (and_of p (bare.app (at 5) (bare.app (at 4) (named 209) (bare.built_exp p True)) (bare.built_exp p False))
    (bare.built_exp p False)))
    (bare.dec (val (bare.wild_pat p) (bare.raise p (named 205))) bare.no_decs)))))))))

-- Types are not looked at.

abbrev t : Typ
t = var 0

abbrev y : TyName
y = record { stamp = 9; arity = 0; equality = Always }

abbrev pair_to : prog.Exp → prog.Exp → prog.Exp
pair_to e d = prog.fields_exp t (prog.a_field (Number 1) e (prog.a_field (Number 2) d prog.no_fields))

abbrev one_to : prog.Exp
one_to = prog.constant_exp (int (pos 1)) t

abbrev val_of : prog.Pat → prog.Exp → prog.Decs → prog.Decs
val_of a e ds = prog.val_dec [] (prog.a_bind p false a t e prog.no_binds) prog.no_funs ds

abbrev fun_of : ℕ → prog.Fun → prog.Decs → prog.Decs
fun_of n f ds = prog.val_dec [] prog.no_binds (prog.a_fun (n ∷ []) t f prog.no_funs) ds

abbrev program : prog.Decs
program =
    prog.exception_dec 0 204 None
    (fun_of 1 (prog.by_rules p t t (prog.a_rule (prog.con_pat 201) (prog.app_exp (at 1) t (prog.own_exp 1 t) (prog.con_exp 202 y [] t))
    (prog.a_rule (prog.variable_pat 2) (prog.raise_exp t (prog.exn_exp (held 0) t)) prog.no_rules)))
    (val_of (prog.variable_pat 3) (prog.handle_exp t (prog.app_exp (at 2) t (prog.variable_exp 1 [] t) (prog.con_exp 201 y [] t))
    (prog.a_rule (prog.exn_pat (held 0)) one_to prog.no_rules))
    (val_of (prog.as_pat 4 (prog.fields_pat true (prog.a_pat (Number 1) t (prog.variable_pat 5) prog.no_pats)))
    (pair_to (prog.app_exp (at 3) t (prog.prim_exp Quotient [] t) (pair_to one_to one_to)) (prog.variable_exp 3 [] t))
    (fun_of 6 (prog.more 7 t (prog.last 8 t (prog.variable_exp 7 [] t)))
    (val_of (prog.variable_pat 9) (prog.chain_exp true t (prog.link
    (prog.app_exp (at 5) t (prog.app_exp (at 4) t (prog.variable_exp 6 [] t) (prog.con_exp 11 y [] t)) (prog.con_exp 12 y [] t))
    (prog.only (prog.con_exp 12 y [] t))))
    (val_of prog.any_pat (prog.raise_exp t (prog.exn_exp (held 0) t)) prog.no_decs))))))

-- The program resolves the declarations.

le : {n : ℕ} → n ≤ n
le = omega arith

next : {n : ℕ} → n ≤ suc n
next = omega arith

resolves : (r : Scope) × DecsTo initial_scope 0 source program r 10
resolves = (
  _,
  dec_to (datatype_to p (a_datatype_to _ (a_con_to _ refl (a_con_to _ refl no_cons_to)) no_datatypes_to))
      (dec_to (replicate_to p 203 refl)
      (dec_to (local_to p (dec_to (exception_to p (new_exn_to p (Named 204) 0 None le no_exns_to)) no_decs_to)
      (dec_to (exception_to p (same_exn_to p (Named 205) p refl no_exns_to)) no_decs_to))
      (dec_to (val_to p p [] (heads_to p p _ t _ no_heads_to (head_variable p (short (Named 206)) 1 le))
      (fun_to p p _ _ t (by_rules_to p t t (rule_to p (alone_to p refl (alone_constructor 201))
      (app_to (at 1) t (called_vid _ _) (vid_to p refl (use_own 1 t)) (vid_to p refl (use_constructor 202 y [] t)))
      (rule_to p (variable_to p (Named 207) 2 le refl) (raise_to p t (vid_to p refl (use_exception (held 0) t))) no_rules_to))) no_funs_to) no_binds_to)
      (dec_to (val_to p p [] no_heads_to no_funs_to (bind_to p p false t (variable_to p (Named 208) 3 next refl)
      (handle_to p t (app_to (at 2) t (called_vid _ _) (vid_to p refl (use_variable 1 [] t)) (vid_to p refl (use_constructor 201 y [] t)))
      (rule_to p (alone_to p refl (alone_exception (held 0))) (constant_exp_to p _ t) no_rules_to)) no_binds_to))
      (dec_to (open_to p refl)
      (dec_to (val_to p p [] no_heads_to no_funs_to (bind_to p p false t
      (as_to p (Named 212) 4 le refl (fields_to p true (pat_field_to (Number 1) t (variable_to p (Named 207) 5 le refl) no_pats_to)))
      (fields_exp_to p t (field_to (Number 1) (app_to (at 3) t (called_vid _ _) (vid_to p refl (use_primitive Quotient [] t))
      (fields_exp_to p t (field_to (Number 1) (constant_exp_to p _ t) (field_to (Number 2) (constant_exp_to p _ t) no_fields_to))))
      (field_to (Number 2) (vid_to p refl (use_variable 3 [] t)) no_fields_to))) no_binds_to))
      (dec_to (val_to p p [] (heads_to p p _ t _ no_heads_to (head_variable p (short (Named 209)) 6 le))
      (fun_to p p _ _ t (more_to p p 7 t le (variable_parameter p (Named 210) refl)
      (last_to p 8 t le (variable_parameter p (Named 211) refl) (vid_to p refl (use_variable 7 [] t)))) no_funs_to) no_binds_to)
      (dec_to (val_to p p [] no_heads_to no_funs_to (bind_to p p false t (variable_to p (Named 213) 9 (omega arith) refl)
      (chain_to true t (and_to p (app_to (at 5) t (called_app _ _ _)
      (app_to (at 4) t (called_vid _ _) (vid_to p refl (use_variable 6 [] t)) (built_exp_to p True y [] t)) (built_exp_to p False y [] t))
      (only_to true (built_exp_to p False y [] t)))) no_binds_to))
      (dec_to (val_to p p [] no_heads_to no_funs_to (bind_to p p false t (wild_to p) (raise_to p t (vid_to p refl (use_exception (held 0) t))) no_binds_to))
      no_decs_to))))))))),
)

-- The packet of G has the identifier of E, and each application took its turn.

abbrev outcome : Outcome
outcome = record { output = []; end = uncaught 204; turns = at 2 ∷ at 1 ∷ at 3 ∷ at 4 ∷ at 5 ∷ [] }

source-does : meaning source 9 ≡ outcome
source-does = refl

program-does : run initial_identifiers program 9 ≡ outcome
program-does = refl

-- with too few turns both go on at the same place
source-goes-on : meaning source 3 ≡ record { output = []; end = going; turns = at 2 ∷ at 1 ∷ at 3 ∷ [] }
source-goes-on = refl

program-goes-on : run initial_identifiers program 3 ≡ record { output = []; end = going; turns = at 2 ∷ at 1 ∷ at 3 ∷ [] }
program-goes-on = refl
