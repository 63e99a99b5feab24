-- val id = fn x => x  val y = id 3: what it elaborates to, with id at all types and used at one.
use Rattle.std.proofs.Common.{◌≡◌, ℕ, ◌≤◌, true, false, [], ◌∷◌, None, Some, refl, arith}
use Rattle.std.specs.Prelude.{pos, suc}
use Rattle.mlc_base.specs.declared.place.Place.{Place}
use Rattle.mlc_prims.specs.LitOf.{int}
use Rattle.ty_core.specs.Types.{Typ, var}
use Rattle.ty_core.specs.declared.mark.Mark.TheVariants.{Any}
use Rattle.ty_core.specs.declared.scheme.Quantified.{Quantified}
use Rattle.core_elab.specs.of_ty_basis.Types.{function_type, int_type, name_count}
use Rattle.core_elab.specs.of_sml_tree.Terminal as term
use Rattle.core_elab.specs.of_sml_tree.Derived.{short}
use Rattle.core_elab.specs.of_sml_tree.declared.ident.Vid.TheVariants.{Named}
use Rattle.core_elab.specs.of_sml_tree.BareTree as bare
use Rattle.core_elab.specs.of_core_rules.Choices.{Choices}
use Rattle.core_elab.specs.of_ir_poly.Prog as prog
use Rattle.core_elab.specs.of_ir_poly.Types.{initial_constructors}
use Rattle.core_elab.specs.of_ir_poly.TestsChecked.{Knowns}
use Rattle.core_elab.specs.Scopes.{Scope, empty}
use Rattle.core_elab.specs.Resolves.{called_vid, no_heads_to}
use Rattle.elab_typed.specs.Contexts.{KeptEnv, kept_values, Around}
use Rattle.elab_typed.specs.Instances.{use_general, use_single}
use Rattle.elab_typed.specs.Elaborates.{variable_elab, named_elab, constant_exp_elab, vid_elab, app_elab, fn_elab, last_elab, DecsElab, no_decs_elab, a_dec_elab, val_elab, no_binds_elab, general_elab, plain_elab, no_funs_elab}

abbrev pub p : Place
p = record { file = 0; byte = 0 }

-- nothing is in scope but the initial type names
abbrev pub around : Around
around = record { names = name_count; number = λ k. k; tyvars = []; env = kept_values []; scope = empty; known = []; parameters = [] }

abbrev pub named : ℕ → bare.Exp
named x = bare.vid_exp p (short (Named x))

abbrev pub bound : ℕ → bare.Pat
bound x = bare.vid_pat p (short (Named x))

abbrev pub val : bare.Pat → bare.Exp → bare.Dec
val a e = bare.val_dec p p [] (bare.bind p a e bare.no_binds) bare.no_binds

-- identifiers: id 200, x 201, y 202
abbrev source : bare.Decs
source = bare.dec (val (bound 200) (bare.fn p (bare.rule p (bound 201) (named 201) bare.no_rules)))
    (bare.dec (val (bound 202) (bare.app p (named 200) (bare.constant_exp p (term.int (pos 3))))) bare.no_decs)

abbrev q : Quantified
q = record { variable = 0; mark = Any }

abbrev program : prog.Decs
program =
    prog.val_dec (q ∷ []) (prog.a_bind p true (prog.variable_pat 0) (function_type (var 0) (var 0))
    (prog.fn_exp (function_type (var 0) (var 0)) (prog.last 1 (var 0) (prog.variable_exp 1 [] (var 0)))) prog.no_binds) prog.no_funs
    (prog.val_dec [] (prog.a_bind p false (prog.variable_pat 2) int_type
    (prog.app_exp p int_type (prog.variable_exp 0 (int_type ∷ []) (function_type int_type int_type)) (prog.constant_exp (int (pos 3)) int_type)) prog.no_binds)
    prog.no_funs prog.no_decs)

pub le : {n : ℕ} → n ≤ n
le = omega arith

above : {n : ℕ} → n ≤ suc n
above = omega arith

elaborates : (d : KeptEnv) × (r : Scope) × (G : Knowns) × (c : Choices) × (j : ℕ) × DecsElab initial_constructors around 0 source program 0 (λ k. k) d r G c j
elaborates = (
  _,
  _,
  _,
  _,
  _,
  a_dec_elab
      (val_elab p p (q ∷ []) (Any ∷ []) refl (λ s s' h. refl) refl refl refl no_heads_to no_funs_elab
      (general_elab p p {t = function_type (var 0) (var 0)} (variable_elab p (Named 200) 0 le (record { unmatched = refl; unkept = refl; free = refl; over = (tt, (tt, (tt, tt))) }))
      (fn_elab p {t = var 0} {u = var 0} (last_elab p 1 above refl (named_elab p (Named 201) (record { unmatched = refl; unkept = refl; free = refl; over = tt }))
      (vid_elab p refl refl (use_single 1 refl tt)))) refl refl refl no_binds_elab))
      (a_dec_elab
      (val_elab p p [] [] refl (λ s s' h. refl) refl refl refl no_heads_to no_funs_elab
      (plain_elab p p {t = int_type} (variable_elab p (Named 202) 2 above (record { unmatched = refl; unkept = refl; free = refl; over = (refl, tt) }))
      (app_elab p {t = int_type} {u = int_type} (called_vid _ _)
      (vid_elab p refl refl (use_general 0 (int_type ∷ []) refl refl (record { marks = refl; allowed = (tt, tt); over = (tt, ((refl, tt), ((refl, tt), tt))); body = refl; is = refl })))
      (constant_exp_elab p (term.int (pos 3)))) refl refl no_binds_elab))
      no_decs_elab),
)
