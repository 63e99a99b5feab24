use Rattle.restrictions.proofs.Firsts.{found-in, if-none, if-some}
use Rattle.restrictions.proofs.first.broken_in_dec.Goals as goal

pub returns-clause-none : goal.returns-clause-none
returns-clause-none c =
    if-none c.first_of.result (found-in _ c.of_dec.new.walk c.args.declaration.now c.deref.result.now c.new.ensures c.new-2.ensures.items c.in_ok-of_dec.ensures c.deref.ensures.value).none
    c.first_of.ensures.none

pub returns-clause-some : goal.returns-clause-some
returns-clause-some c =
    if-some c.first_of.result (found-in _ c.of_dec.new.walk c.args.declaration.now c.deref.result.now c.new.ensures c.new-2.ensures.items c.in_ok-of_dec.ensures c.deref.ensures.value).some
    c.first_of.ensures.some
