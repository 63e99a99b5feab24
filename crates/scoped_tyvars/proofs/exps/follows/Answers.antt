use Rattle.scoped_tyvars.proofs.Chains.{none-follows, one-follows}
use Rattle.scoped_tyvars.proofs.exps.follows.Goals as goal

pub returns-then-index-parts : goal.returns-then-index-parts
returns-then-index-parts c = none-follows c.args.parts.now c.args.index c.if-index-parts.true

pub returns : goal.returns
returns c = one-follows c.args.parts.now c.args.index c.index-parts-index.result c.is_logical.result c.if-index-parts.false c.index-parts-index.is c.is_logical.ensures
