use Rattle.std.proofs.Common.{◌∙◌}
use Rattle.pat_elab.proofs.of_elab_steps.Growing.{grows_on, type_later, comes_before}
use Rattle.exp_forms.proofs.series.make_truth.Goals as goal

pub unify-requires-clause-a : goal.unify-requires-clause-a
unify-requires-clause-a c = type_later c.args.state.now c.truths.new.state c.args.ty c.in_ok-truth.ensures.grows c.requires

pub returns-clause-grows : goal.returns-clause-grows
returns-clause-grows c = grows_on c.args.state.now c.truths.new.state c.unify.new.state c.in_ok-truth.ensures.grows c.in_ok-unify.ensures.grows

pub returns-clause-has : goal.returns-clause-has
returns-clause-has c W w = c.in_ok-unify.ensures.equal W w ∙ c.in_ok-truth.ensures.has W (comes_before c.truths.new.state c.unify.new.state W c.in_ok-unify.ensures.grows w)
