use Rattle.std.proofs.Common.{[], subst, sym}
use Rattle.sml_tree.specs.TreeOf.{pat_of}
use Rattle.pat_elab.proofs.of_elab_context.Reading.{context_later}
use Rattle.pat_elab.proofs.of_elab_steps.Growing.{type_later}
use Rattle.pat_elab.specs.Elaborated.{IsPat}
use Rattle.exp_forms.proofs.steps.begin_rule.Goals as goal

pub enter-requires-clause-context : goal.enter-requires-clause-context
enter-requires-clause-context c = context_later c.args.state.now c.elab_pat.new.state c.args.context.now c.in_ok-pat.ensures.grows c.requires.context

pub enter-requires-clause-domain : goal.enter-requires-clause-domain
enter-requires-clause-domain c = type_later c.args.state.now c.elab_pat.new.state c.args.domain c.in_ok-pat.ensures.grows c.requires.domain

pub returns : goal.returns
returns c = record {
  begun = record {
    middle = c.elab_pat.new.state;
    bound = c.deref.result.now;
    pat = subst (λ l. IsPat c.args.state.now c.args.context.now (pat_of c.args.pat.now) c.elab_pat.new.state [] l c.in_ok-pat.pat) (sym c.deref.ensures.value)
        (subst (λ l. IsPat c.args.state.now c.args.context.now (pat_of c.args.pat.now) c.elab_pat.new.state l c.elab_pat.new.bound.items c.in_ok-pat.pat) c.new-bound.ensures.items c.in_ok-pat.ensures);
    entered = c.in_ok-enter.ensures.entered;
    within = c.in_ok-enter.ensures.within;
    context = c.in_ok-enter.ensures.context;
    mark = λ i. record { named = c.mark-mark.ensures.named i; fresh = c.mark-mark.ensures.fresh i; equals = c.mark-mark.ensures.equals i };
  };
}
