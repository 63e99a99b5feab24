use Rattle.std.specs.Prelude.{sum_by}
use Rattle.ir_poly.specs.ProgOnce.{decs_times}
use Rattle.prog_tree.specs.TreeOf.{body_of}
use Rattle.prog_binders.specs.Adding.{dec_times}
use Rattle.prog_binders.proofs.Counting.{as-sum, decs-times}
use Rattle.prog_binders.proofs.exps.push_binders.Goals as goal

pub returns : goal.returns
returns c = as-sum (λ R h. sum_by (dec_times R h) c.args.declarations.now) (λ R h. decs_times h (body_of R c.args.declarations.now)) c.args.found.now.items c.push_decs.new.found.items
    (λ R h. decs-times R h c.args.declarations.now) c.in_ok-push_decs.ensures
