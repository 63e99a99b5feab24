use Rattle.std.proofs.Common.{sym, ◌∙◌}
use Rattle.pat_elab.proofs.Matching.{constructor_alone_is}
use Rattle.pat_elab.proofs.matched.constructor_alone.Goals as goal

pub returns : goal.returns
returns c = record {
  is = constructor_alone_is c.args.state.now c.instance_at.new.state c.args.context.now c.args.scheme c.in_ok-instance_at.field-0 c.at.result.now
      c.at.ensures c.requires.context
      c.in_ok-instance_at.ensures.grows c.in_ok-instance_at.ensures.is c.in_ok-instance_at.ensures.next c.in_ok-instance_at.ensures.instance
      (sym c.is_function.ensures ∙ c.if-is_function.false);
}
