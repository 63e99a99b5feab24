use Rattle.std.proofs.Common.{None, get_or, sym, take}
use Rattle.std.proofs.lemmas.List.{append-nil}
use Rattle.datatype_forms.proofs.Best.{argument_next}
use Rattle.datatype_forms.proofs.InNames.{take-at}
use Rattle.datatype_forms.proofs.marks.push_arguments.Goals as goal

pub loop-i-init : goal.loop-i-init
loop-i-init c = sym (append-nil c.args.arguments.now.items)

pub loop-i-preserved : goal.loop-i-preserved
loop-i-preserved c =
    argument_next c.args.datatype c.args.arguments.now.items c.loop-i.arguments.items c.push_argument.new.arguments.items (take c.loop-i.i c.args.row.now) _ (get_or c.args.row.now c.loop-i.i None) c.loop-i.invariant
    c.in_ok-push_argument.ensures (take-at c.args.row.now c.loop-i.i None c.loop-i-test.true)
