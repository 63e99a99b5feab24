use Rattle.std.proofs.Common.{refl}
use Rattle.exp_forms.proofs.Turns.{sequence_done}
use Rattle.exp_forms.proofs.series.sequence.Goals as goal

pub returns : goal.returns
returns c S M p es e ks h i = sequence_done S M c.args.state.now c.write.new.state c.args.context.now c.args.place p es e c.args.before ks c.args.last _ c.in_ok-written.written
    c.in_ok-exp.exp h i c.in_ok-written.ensures.grows c.in_ok-written.ensures.is c.in_ok-exp.ensures refl refl
