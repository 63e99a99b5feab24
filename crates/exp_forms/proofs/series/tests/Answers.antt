use Rattle.std.proofs.Common.{refl}
use Rattle.exp_forms.proofs.Turns.{tests_done}
use Rattle.exp_forms.proofs.series.tests.Goals as goal

pub returns : goal.returns
returns c S M es e h i = tests_done S M c.args.state.now c.make_truth.new.state c.write.new.state c.args.context.now c.args.all es e c.args.before c.args.last _ c.in_ok-written.written
    c.in_ok-exp.exp c.requires.context h i c.in_ok-make_truth.ensures.grows c.in_ok-make_truth.ensures.has c.in_ok-written.ensures.grows c.in_ok-written.ensures.is c.in_ok-exp.ensures refl refl
