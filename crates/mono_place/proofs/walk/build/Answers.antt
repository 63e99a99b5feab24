use Rattle.std.proofs.Common.{nat_eq}
use Rattle.indexmap.specs.IndexMap.{get}
use Rattle.ty_core.specs.TypesOf.{head_of}
use Rattle.mono_place.proofs.Going.{built, not-built}
use Rattle.mono_place.proofs.walk.build.Goals as goal

pub returns-in-Var : goal.returns-in-Var
returns-in-Var c = λ h parts is below. not-built c.args.sources.now c.args.k c.in-Var.field-0 h parts c.in-Var.ensures is

pub returns-in_ok-n-in-Apply : goal.returns-in_ok-n-in-Apply
returns-in_ok-n-in-Apply c = built c.args.sources.now (get nat_eq c.args.known.now) c.args.types.now c.place_node.new.types c.args.k c.in_ok-n-in-Apply.n (head_of c.in-Apply.head.now) c.in-Apply.parts.now c.in_ok-numbers-in-Apply.numbers.items
    c.len-len.ensures.one_to_one c.in-Apply.ensures c.in_ok-numbers-in-Apply.ensures c.in_ok-n-in-Apply.ensures.ok
