use Rattle.std.proofs.Common.{nat_eq, ap, ◌∙◌, arith}
use Rattle.std.specs.Map.{lookup}
use Rattle.sml_tree.specs.TreeOf.{long_id_of}
use Rattle.restrictions.proofs.Lists.{no-qualifier, some-qualifier}
use Rattle.restrictions.proofs.written.number_of.Goals as goal

pub returns-then-len-eq0 : goal.returns-then-len-eq0
returns-then-len-eq0 c =
    let n = c.args.tycon.now.qualifiers.ok.0 in
    let m = c.len.ensures in
    let z = c.if-len-eq0.true in
    c.find.ensures ∙ ap (λ k. lookup (nat_eq k) c.args.within.now.index) c.number.ensures ∙ no-qualifier c.args.within.now (long_id_of c.args.tycon.now) (omega (arith, n, m, z))

pub returns-else-len-eq0 : goal.returns-else-len-eq0
returns-else-len-eq0 c =
    let n = c.args.tycon.now.qualifiers.ok.0 in
    let m = c.len.ensures in
    let z = c.if-len-eq0.false in
    some-qualifier c.args.within.now (long_id_of c.args.tycon.now) (omega (arith, n, m, z))
