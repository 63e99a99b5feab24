-- val y = let exception E in raise E handle E => 3 end: what it elaborates to.
use Rattle.std.proofs.Common.{◌≡◌, ℕ, ◌≤◌, true, false, List, [], ◌∷◌, None, Some, refl, arith}
use Rattle.std.specs.Prelude.{pos, suc}
use Rattle.mlc_prims.specs.LitOf.{int}
use Rattle.core_elab.specs.of_ty_basis.Types.{int_type, exn_type}
use Rattle.core_elab.specs.of_sml_tree.Terminal as term
use Rattle.core_elab.specs.of_sml_tree.declared.ident.Vid.TheVariants.{Named}
use Rattle.core_elab.specs.of_sml_tree.BareTree.{new_exn}
use Rattle.core_elab.specs.of_sml_tree.BareTree as bare
use Rattle.core_elab.specs.of_core_rules.Choices.{Choices}
use Rattle.core_elab.specs.of_ir_poly.Prog.{held}
use Rattle.core_elab.specs.of_ir_poly.Prog as prog
use Rattle.core_elab.specs.of_ir_poly.Types.{initial_constructors}
use Rattle.core_elab.specs.of_ir_poly.TestsChecked.{Knowns}
use Rattle.core_elab.specs.of_ir_poly.ProgChecked.{held_checked}
use Rattle.core_elab.specs.Scopes.{Scope}
use Rattle.core_elab.specs.Resolves.{no_heads_to}
use Rattle.elab_typed.specs.Contexts.{KeptEnv}
use Rattle.elab_typed.specs.Instances.{use_exception, alone_exception}
use Rattle.elab_typed.specs.Elaborates.{variable_elab, alone_elab, no_exns_elab, new_exn_elab, constant_exp_elab, vid_elab, let_elab, handle_elab, raise_elab, no_rules_elab, a_rule_elab, DecsElab, no_decs_elab, a_dec_elab, val_elab, exception_elab, no_binds_elab, plain_elab, no_funs_elab}
use Rattle.elab_typed.proofs.Example.{p, around, named, bound, val, le}

-- identifiers: E 400, y 401
abbrev source : bare.Decs
source = bare.dec (val (bound 401) (bare.let_in p (bare.dec (bare.exception_dec p (new_exn p (Named 400) None ∷ [])) bare.no_decs)
    (bare.handle p (bare.raise p (named 400)) (bare.rule p (bound 400) (bare.constant_exp p (term.int (pos 3))) bare.no_rules)))) bare.no_decs

abbrev program : prog.Decs
program = prog.val_dec [] (prog.a_bind p false (prog.variable_pat 1) int_type
    (prog.let_exp int_type (prog.exception_dec 0 400 None prog.no_decs)
    (prog.handle_exp int_type (prog.raise_exp int_type (prog.exn_exp (held 0) exn_type))
    (prog.a_rule (prog.exn_pat (held 0)) (prog.constant_exp (int (pos 3)) int_type) prog.no_rules))) prog.no_binds) prog.no_funs prog.no_decs

above : {n : ℕ} → n ≤ suc n
above = omega arith

elaborates : (d : KeptEnv) × (r : Scope) × (G : Knowns) × (c : Choices) × (j : ℕ) × DecsElab initial_constructors around 0 source program 0 (λ k. k) d r G c j
elaborates = (
  _,
  _,
  _,
  _,
  _,
  a_dec_elab
      (val_elab p p [] [] refl (λ s s' h. refl) refl refl refl no_heads_to no_funs_elab
      (plain_elab p p {t = int_type} (variable_elab p (Named 401) 1 above (record { unmatched = refl; unkept = refl; free = refl; over = (refl, tt) }))
      (let_elab p {t = int_type} (a_dec_elab (exception_elab p (new_exn_elab p (Named 400) 0 None le (λ s. refl) (λ u e. absurd (cc)) no_exns_elab)) no_decs_elab)
      (handle_elab p {t = int_type} (raise_elab p {t = int_type} (vid_elab p refl refl (use_exception (held 0) (held_checked refl) (refl, tt))) (refl, tt))
      (a_rule_elab p (alone_elab p refl refl (alone_exception (held 0) (held_checked refl) (refl, tt))) refl (constant_exp_elab p (term.int (pos 3))) no_rules_elab))
      (refl, tt)) refl refl no_binds_elab))
      no_decs_elab,
)
