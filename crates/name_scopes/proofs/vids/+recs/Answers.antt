use Rattle.std.proofs.Common.{[], sym, arith}
use Rattle.name_scopes.proofs.BindVids.{each-Chain-more, each-List}
use Rattle.name_scopes.proofs.Pushing.{added-for, added-none}
use Rattle.name_scopes.proofs.vids.+recs.Goals as goal

pub returns-else-len-eq0 : goal.returns-else-len-eq0
returns-else-len-eq0 t c =
    added-for c.args.vids.now.items c.args.vids.now.items [] _
    (sym (each-Chain-more c.args.pat.now c.in-Chain.field-0 c.in-Chain.field-1 c.in-Chain.first c.in-Chain.parts c.in-Chain.is (λ z. c.if-len-eq0.false (omega (arith, c.len.ensures, c.in-Chain.parts.ok.0, z)))))
    (added-none c.args.vids.now.items)

pub returns-in-List : goal.returns-in-List
returns-in-List t c =
    added-for c.args.vids.now.items c.args.vids.now.items [] _ (sym (each-List c.args.pat.now c.in-List.field-0 c.in-List.field-1 c.in-List.is)) (added-none c.args.vids.now.items)
