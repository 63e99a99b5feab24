use Rattle.ty_basis.specs.Types.{bool_type}
use Rattle.exp_forms.proofs.Joining.{more_are_of}
use Rattle.exp_forms.proofs.series.add_operand.Goals as goal

pub returns-clause-added : goal.returns-clause-added
returns-clause-added c S M C es e h i = more_are_of S M c.args.state.now c.make_truth.new.state C es e c.args.before.now.items c.push.new.self.items bool_type c.args.one h i
    c.in_ok-make_truth.ensures.grows c.in_ok-make_truth.ensures.has c.in_ok-push.ensures.items
