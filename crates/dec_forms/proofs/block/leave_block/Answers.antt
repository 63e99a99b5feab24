use Rattle.std.proofs.Common.{refl}
use Rattle.dec_forms.proofs.Ending.{block_left}
use Rattle.dec_forms.proofs.block.leave_block.Goals as goal

pub returns : goal.returns
returns c C es ts e a =
    block_left C c.args.context.now _ es ts c.args.mark c.leave.new.self c.leave-2.new.self c.truncate.new.self c.truncate-2.new.self e a c.leave.ensures.undone c.leave-2.ensures.tyvars c.leave-2.ensures.types
    c.truncate.ensures c.truncate-2.ensures refl
