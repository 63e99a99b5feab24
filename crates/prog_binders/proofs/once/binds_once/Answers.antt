use Rattle.ir_poly.specs.ProgOnce.{decs_times}
use Rattle.prog_tree.specs.TreeOf.{body_of}
use Rattle.prog_binders.proofs.Tally.{once-by}
use Rattle.prog_binders.proofs.once.binds_once.Goals as goal

pub returns : goal.returns
returns c = λ R. once-by (λ R h. decs_times h (body_of R c.args.declarations.now)) R c.new-found.result.items c.push_binders.new.found.items c.deref.result.now c.in_ok-once.once c.new-found.ensures.items c.in_ok-push_binders.ensures
    c.deref.ensures.value c.in_ok-once.ensures
