use Rattle.first_form.proofs.ScopedLemmas.{well-formed}
use Rattle.first_form.proofs.form.is_well_formed.Goals as goal

pub returns : goal.returns
returns c =
    well-formed c.args.program.now c.in_ok-arities.arities.items c.deref-4.result.now c.deref-7.result.now c.deref.result.now c.deref-6.result.now c.deref-8.result.now c.are_tables-tables.result
    c.starts-main.result c.in_ok-scoped.scoped c.are_whole-whole.result c.both-3.result c.both.result c.both-2.result c.in_ok-arities.ensures c.deref.ensures.value c.deref-4.ensures.value
    c.deref-6.ensures.value c.deref-7.ensures.value c.deref-8.ensures.value c.are_tables-tables.ensures c.starts-main.ensures c.in_ok-scoped.ensures c.are_whole-whole.ensures c.both.ensures
    c.both-2.ensures c.both-3.ensures
