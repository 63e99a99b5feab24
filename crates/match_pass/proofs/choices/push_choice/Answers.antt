use Rattle.general_bindings.specs.of_exp_blocks.Giving.{otherwise_of}
use Rattle.match_pass.proofs.Choosing.{choice-made}
use Rattle.match_pass.proofs.choices.push_choice.Goals as goal

pub returns : goal.returns
returns c =
    let o = c.in_ok-last.ensures in
    choice-made c.args.u c.args.t c.args.matched (otherwise_of c.args.other) c.args.inner.items c.args.value c.in_ok-made.made c.in_ok-last.last c.in_ok-all.all o.keeps o.next o.gives c.in_ok-made.ensures c.in_ok-all.ensures c.in_ok-a.ensures
