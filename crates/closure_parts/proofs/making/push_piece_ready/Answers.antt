use Rattle.closure_parts.proofs.Operating.{if-ok}
use Rattle.closure_parts.proofs.Closures.{piece-alone, piece-those}
use Rattle.closure_parts.proofs.making.push_piece_ready.Goals as goal

pub returns-in-Alone : goal.returns-in-Alone
returns-in-Alone c = if-ok _ _ c.push_ready.result (λ u p n t. piece-alone n c.args.scope.now c.args.piece c.in-Alone.variable c.args.steps.now.items c.push_ready.new.steps.items c.in-Alone.is (p n t)) c.push_ready.ensures

pub returns-in-Those : goal.returns-in-Those
returns-in-Those c = λ n t. piece-those n c.args.scope.now c.args.piece _ _ c.args.steps.now.items c.in-Those.is
