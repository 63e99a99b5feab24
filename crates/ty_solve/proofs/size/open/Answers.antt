use Rattle.std.proofs.Common.{◌++◌, map, ap, ◌∙◌}
use Rattle.ty_solve.specs.declared.size.Tally.TheVariants.{Visit}
use Rattle.ty_solve.specs.SlotsOf.{seen}
use Rattle.ty_solve.proofs.Counting.{visited-ground, visited-opens}
use Rattle.ty_solve.proofs.size.open.Goals as goal

pub returns-then-is_ground : goal.returns-then-is_ground
returns-then-is_ground c = visited-ground c.args.s.now.types _ (seen c.args.s.now.types c.args.s.now.slots.items) _ c.args.t c.find-found.result c.args.count c.size.result _ c.find-found.ensures.reads (c.is_ground.ensures.0 c.if-is_ground.true) c.size.ensures

pub returns : goal.returns
returns c = visited-opens c.args.s.now.types _ (seen c.args.s.now.types c.args.s.now.slots.items) c.args.s.now.acyclic c.args.t c.find-found.result c.args.count _ _ _ _ _ c.find-found.ensures.reads c.new-parts.ensures.items c.in_ok-look_in.ensures c.in_ok-push.ensures.items (c.in_ok-visit_all.ensures ∙ ap (λ l. c.push.new.self.items ++ map Visit l) c.deref.ensures.value)
