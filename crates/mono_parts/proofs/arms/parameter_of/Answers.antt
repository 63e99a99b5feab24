use Rattle.std.proofs.Common.{ap, ◌∙◌, []}
use Rattle.mono_state.proofs.Growing.{sooner}
use Rattle.mono_state.proofs.Going.{goes-then}
use Rattle.ty_core.specs.Statics.{replace}
use Rattle.ty_table.specs.TypeAt.{type_at}
use Rattle.mono_close.specs.Closing.{standing}
use Rattle.mono_parts.proofs.arms.parameter_of.Goals as goal

pub type_of-requires-clause-is_open : goal.type_of-requires-clause-is_open
type_of-requires-clause-is_open c = (c.in_ok-variable.ensures.goes []).open_

pub type_of-requires-clause-right : goal.type_of-requires-clause-right
type_of-requires-clause-right c = (c.in_ok-variable.ensures.goes c.args.tables.now.types).right c.requires.right

pub returns-clause-goes : goal.returns-clause-goes
returns-clause-goes c =
    goes-then c.args.tables.now.types c.args.copier.now c.alone.new.copier c.type_of.new.copier (c.in_ok-variable.ensures.goes c.args.tables.now.types) c.in_ok-ty.ensures.goes

pub returns-clause-stays : goal.returns-clause-stays
returns-clause-stays c = λ ss H. c.in_ok-ty.ensures.stays ss H ∙ c.in_ok-variable.ensures.stays ss H

pub returns-clause-is : goal.returns-clause-is
returns-clause-is c = λ H l. record {
  variable = c.in_ok-variable.ensures.is H (sooner c.in_ok-ty.ensures.goes.longer l);
  type = c.in_ok-ty.ensures.is H l ∙ ap (λ z. replace (standing H.types z) (type_at c.args.tables.now.types c.args.parameter.ty)) (c.in_ok-variable.ensures.goes []).slots;
}
