use Rattle.std.proofs.Common.{Some, cond, nat_eq, ap, ◌∙◌}
use Rattle.indexmap.specs.IndexMap.{get}
use Rattle.ty_solve.proofs.Noting.{noted-more}
use Rattle.ty_solve.proofs.places.note.Goals as goal

pub returns : goal.returns
returns c = λ ls h lt e. noted-more ls c.args.at c.args.label _ _ lt e (λ q. c.in_ok-insert.ensures.updates.0 q ∙ ap (λ k. cond (nat_eq k q) (Some c.args.at) (get nat_eq c.args.places.now q)) c.key.ensures) h
