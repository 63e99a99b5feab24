use Rattle.std.proofs.Common.{ap, sym, ◌∙◌, arith}
use Rattle.sml_tree.specs.TreeOf.{pat_of}
use Rattle.name_scopes.specs.Twice.{pat_place}
use Rattle.name_scopes.proofs.TwiceNodes.{chain-alone, chain-place, list-place}
use Rattle.name_scopes.proofs.twice.+places.Goals as goal

pub returns-in-List : goal.returns-in-List
returns-in-List t c = sym (list-place c.args.pat.now c.in-List.at c.in-List.field-1 c.in-List.is)

pub returns-then-len-eq0 : goal.returns-then-len-eq0
returns-then-len-eq0 t c =
    c.pat_place.ensures ∙ ap (λ z. pat_place (pat_of z)) c.deref.ensures
    ∙ sym (chain-alone c.args.pat.now c.in-Chain.at c.in-Chain.field-1 c.in-Chain.first c.in-Chain.parts c.in-Chain.is (omega (arith, c.if-len-eq0.true, c.len.ensures, c.in-Chain.parts.ok.0)))

pub returns-else-len-eq0 : goal.returns-else-len-eq0
returns-else-len-eq0 t c =
    sym (chain-place c.args.pat.now c.in-Chain.at c.in-Chain.field-1 c.in-Chain.first c.in-Chain.parts c.in-Chain.is (λ z. c.if-len-eq0.false (omega (arith, c.len.ensures, c.in-Chain.parts.ok.0, z))))
