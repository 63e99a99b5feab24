use Rattle.std.proofs.Common.{[], map, sym, subst}
use Rattle.sml_tree.specs.TreeOf.{long_id_at_of}
use Rattle.scope_decs.specs.Opening.{AreOpened, none_opened}
use Rattle.scope_decs.proofs.Opening.{opened_next}
use Rattle.scope_decs.specs.Refusals.{IsOpenRefused}
use Rattle.scope_decs.proofs.Refusing.{open_refused, passed}
use Rattle.scope_decs.proofs.structures.all_members.Goals as goal

pub loop-i-init : goal.loop-i-init
loop-i-init c = subst (AreOpened c.args.context.now []) (sym c.new-values.ensures.items) none_opened

pub returns-in_err-number-clause-refused : goal.returns-in_err-number-clause-refused
returns-in_err-number-clause-refused c =
    passed (IsOpenRefused c.args.context.now (map long_id_at_of c.args.structures.now)) c.from_residual.result c.in_err-number.field-0.0 c.from_residual.ensures.1
    (open_refused c.args.context.now c.args.structures.now c.loop-i.i c.index-structures-i.result c.in_err-number.field-0.0 c.loop-i-test.true c.index-structures-i.is
    c.in_err-number.ensures.place c.in_err-number.ensures.unbound)

pub loop-i-preserved : goal.loop-i-preserved
loop-i-preserved c =
    opened_next c.args.context.now c.args.structures.now c.loop-i.i c.index-structures-i.result c.in_ok-number.number c.loop-i.values.items _ c.loop-i-test.true c.index-structures-i.is
    c.loop-i.invariant c.in_ok-number.ensures.short c.in_ok-number.ensures.bound c.in_ok-add_members.ensures
