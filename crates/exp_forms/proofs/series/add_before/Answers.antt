use Rattle.exp_forms.proofs.Joining.{more_are}
use Rattle.exp_forms.proofs.series.add_before.Goals as goal

pub returns : goal.returns
returns c S M T C es e types h i = more_are S M T C es e c.args.before.now.items c.push.new.self.items types c.args.one h i c.in_ok-push.ensures.items
