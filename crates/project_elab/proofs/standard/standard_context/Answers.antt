use Rattle.std.proofs.Common.{map, arith}
use Rattle.sml_tree.specs.TreeOf.{dec_of}
use Rattle.project_elab.proofs.Standing.{standard_made}
use Rattle.project_elab.proofs.standard.standard_context.Goals as goal

pub decs_from-requires : goal.decs_from-requires
decs_from-requires c =
    let le = c.in_ok-context.ensures.is.level in
    let same = c.in_ok-context.ensures.grows.level in
    let none = c.requires.level in
    record { context = c.in_ok-context.ensures.is; level = omega (arith, le, same, none) }

pub returns : goal.returns
returns c =
    standard_made c.args.state.now c.prelude_context.new.state c.decs_from.new.state c.in_ok-context.context c.decs_from.new.context c.hide_prim.new.context (map dec_of c.args.prelude.now)
    c.args.made.now.items c.decs_from.new.made.items c.new-brought.result c.decs_from.new.brought c.in_ok-context.ensures.grows c.in_ok-context.ensures.tells c.in_ok-context.ensures.is
    c.in_ok-context.ensures.without_prim c.in_ok-context.ensures.tells_without c.in_ok-decs_from.ensures c.hide_prim.ensures
