use Rattle.std.proofs.Common.{length, sym, ap, subst, ◌∙◌}
use Rattle.std.proofs.lemmas.List.{length-map}
use Rattle.sml_tree.specs.TreeOf.{pat_of}
use Rattle.elab_context.specs.Telling.{IsContext}
use Rattle.elab_context.specs.declared.context.Context.{Context}
use Rattle.pat_elab.specs.Elaborated.{IsPat}
use Rattle.general_decs.proofs.Stepping.{context_outside}
use Rattle.elab_exps.proofs.inside.outer_pat.Goals as goal

pub elab_pat-requires : goal.elab_pat-requires
elab_pat-requires c =
    subst (IsContext c.args.state.now) (sym c.in_ok-stepped.ensures.outside) (context_outside c.args.state.now c.args.context.now c.args.begun.tyvars c.requires.context)

pub step_in-requires : goal.step_in-requires
step_in-requires c = ap length c.in_ok-stepped.ensures.types ∙ length-map _ _

pub returns-clause-context : goal.returns-clause-context
returns-clause-context c =
    c.in_ok-step_in.ensures c.args.context.now c.args.begun.tyvars c.in_ok-stepped.ensures.outside c.in_ok-stepped.ensures.level c.in_ok-stepped.ensures.types c.requires.within.named

pub returns-clause-is : goal.returns-clause-is
returns-clause-is c =
    subst (λ (z : Context). IsPat c.args.state.now z (pat_of c.args.pat.now) c.elab_pat.new.state c.args.bound.now.items c.elab_pat.new.bound.items c.in_ok-made.made)
    c.in_ok-stepped.ensures.outside c.in_ok-made.ensures
