use Rattle.ssa_form.proofs.ScopedLemmas.{well-formed}
use Rattle.ssa_form.proofs.form.is_well_formed.Goals as goal

pub returns : goal.returns
returns c =
    well-formed c.args.program.now c.in_ok-arities.arities.items c.deref-4.result.now c.deref-7.result.now c.deref.result.now c.deref-6.result.now c.are_tables-tables.result
    c.starts-main.result c.in_ok-scoped.scoped c.both-2.result c.both.result c.in_ok-arities.ensures c.deref.ensures.value c.deref-4.ensures.value
    c.deref-6.ensures.value c.deref-7.ensures.value c.are_tables-tables.ensures c.starts-main.ensures c.in_ok-scoped.ensures c.both.ensures c.both-2.ensures
