use Rattle.std.proofs.Common.{refl}
use Rattle.dec_forms.specs.Binds.{plain_entries}
use Rattle.dec_forms.proofs.Declaring.{context_declared, declared_is}
use Rattle.dec_forms.proofs.declare_values.declare.Goals as goal

pub returns-clause-context : goal.returns-clause-context
returns-clause-context c =
    context_declared c.args.state.now c.no_parameters.new.state c.args.context.now c.bind_plain.new.context c.in_ok-list.list c.args.bound.now c.in_ok-list.ensures.grows c.requires.context
    c.requires.have c.in_ok-list.ensures.is c.in_ok-bind_plain.ensures

pub returns-clause-values : goal.returns-clause-values
returns-clause-values c = record { entries = plain_entries c.in_ok-list.list c.args.bound.now; is = c.in_ok-bind_plain.ensures }

pub returns-clause-declared : goal.returns-clause-declared
returns-clause-declared c S p q rs ic h =
    declared_is S c.args.state.now c.no_parameters.new.state c.args.context.now c.bind_plain.new.context c.in_ok-list.list c.args.bound.now c.args.binds _ _ p q rs ic h
    c.in_ok-check_once.ensures.once c.in_ok-list.ensures.grows c.in_ok-list.ensures.next c.in_ok-list.ensures.is c.in_ok-bind_plain.ensures c.new.ensures.items refl
