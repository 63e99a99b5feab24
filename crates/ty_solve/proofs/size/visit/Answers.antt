use Rattle.std.proofs.Common.{nat_eq, sym}
use Rattle.indexmap.specs.IndexMap.{get}
use Rattle.ty_solve.specs.SlotsOf.{seen}
use Rattle.ty_solve.proofs.Counting.{visited-known}
use Rattle.ty_solve.proofs.size.visit.Goals as goal

pub returns-in-Some : goal.returns-in-Some
returns-in-Some c = visited-known c.args.s.now.types (seen c.args.s.now.types c.args.s.now.slots.items) _ c.args.t c.args.count c.in-Some.size.now (get nat_eq c.args.sizes.now) _ c.requires.sizes (sym c.in-Some.ensures.value)
