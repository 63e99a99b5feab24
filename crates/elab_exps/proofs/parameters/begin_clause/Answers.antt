use Rattle.std.proofs.Common.{[], map, subst, sym}
use Rattle.sml_tree.specs.Derived.{one_or_tuple_pat}
use Rattle.sml_tree.specs.TreeOf.{pat_of}
use Rattle.elab_context.proofs.Reading.{context_later}
use Rattle.elab_steps.proofs.Growing.{type_later}
use Rattle.pat_elab.specs.Elaborated.{IsPat}
use Rattle.elab_exps.proofs.Heading.{mark_is}
use Rattle.elab_exps.proofs.parameters.begin_clause.Goals as goal

pub enter-requires-clause-context : goal.enter-requires-clause-context
enter-requires-clause-context c = context_later c.args.state.now c.clause_pat.new.state c.args.context.now c.in_ok-pat.ensures.grows c.requires.context

pub enter-requires-clause-domain : goal.enter-requires-clause-domain
enter-requires-clause-domain c = type_later c.args.state.now c.clause_pat.new.state c.args.domain c.in_ok-pat.ensures.grows c.requires.domain

pub returns : goal.returns
returns c =
    let a = one_or_tuple_pat c.args.place (map pat_of c.args.pats.now) in
    record {
      middle = c.clause_pat.new.state;
      bound = c.deref.result.now;
      pat = subst (λ l. IsPat c.args.state.now c.args.context.now a c.clause_pat.new.state [] l c.in_ok-pat.pat) (sym c.deref.ensures.value)
          (subst (λ l. IsPat c.args.state.now c.args.context.now a c.clause_pat.new.state l c.clause_pat.new.bound.items c.in_ok-pat.pat) c.new-bound.ensures.items c.in_ok-pat.ensures);
      entered = c.in_ok-enter.ensures.entered;
      within = c.in_ok-enter.ensures.within;
      context = c.in_ok-enter.ensures.context;
      mark = mark_is c.args.context.now.values c.mark-mark.result c.mark-mark.ensures.named c.mark-mark.ensures.fresh c.mark-mark.ensures.equals;
    }
