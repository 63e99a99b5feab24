use Rattle.elab_steps.proofs.Bounding.{limited-later}
use Rattle.elab_steps.proofs.Growing.{grows_on, type_later}
use Rattle.elab_steps.proofs.rows.bounded.Goals as goal

pub unify-requires-clause-b : goal.unify-requires-clause-b
unify-requires-clause-b c = type_later c.args.state.now c.fresh_type.new.state c.args.ty c.in_ok-own.ensures.grows c.requires.part

pub returns-clause-grows : goal.returns-clause-grows
returns-clause-grows c = grows_on c.args.state.now c.fresh_type.new.state c.unify.new.state c.in_ok-own.ensures.grows c.in_ok-unify.ensures.grows

pub returns-clause-is : goal.returns-clause-is
returns-clause-is c = type_later c.fresh_type.new.state c.unify.new.state c.in_ok-own.own c.in_ok-unify.ensures.grows c.in_ok-own.ensures.is

pub returns-clause-limited : goal.returns-clause-limited
returns-clause-limited c = limited-later c.fresh_type.new.state c.unify.new.state c.args.limit c.in_ok-own.own c.in_ok-unify.ensures.grows c.in_ok-own.ensures.is c.in_ok-own.ensures.limited
