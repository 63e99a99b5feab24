use Rattle.std.proofs.Common.{◌++◌, ◌∷◌, [], map, take, sym, ap, subst, ◌∙◌, arith}
use Rattle.sml_tree.specs.TreeOf.{dec_of, decs_of}
use Rattle.elab_types.proofs.Lists.{all-map, next-map-at}
use Rattle.mlb_reader.specs.PartOf.{part_of}
use Rattle.mlc_driver.specs.Parts.{HasParts}
use Rattle.mlc_driver.proofs.Joining.{no-ok}
use Rattle.mlc_driver.proofs.elaborate.elaborate_parts.Goals as goal

pub returns-in_err-elaborate_part : goal.returns-in_err-elaborate_part
returns-in_err-elaborate_part c = no-ok _ _ c.from_residual-in_err-elaborate_part.result c.from_residual-in_err-elaborate_part.ensures.1

pub loop-i-preserved : goal.loop-i-preserved
loop-i-preserved c =
    let prelude = decs_of (map dec_of c.args.prelude.now) in
    subst (λ l. HasParts prelude l c.elaborate_part.new.elaborating)
    (sym (next-map-at part_of c.args.parts.now c.loop-i.i c.index-parts-i.result c.loop-i-test.true
    ∙ ap (λ p. map part_of (take c.loop-i.i c.args.parts.now) ++ part_of p ∷ []) (sym c.index-parts-i.is)))
    (c.in_ok-elaborate_part.ensures prelude (map part_of (take c.loop-i.i c.args.parts.now)) c.loop-i.invariant)

pub returns : goal.returns
returns c =
    subst (λ l. HasParts (decs_of (map dec_of c.args.prelude.now)) l c.loop-i.elaborating) (all-map part_of c.args.parts.now c.loop-i.i (omega arith)) c.loop-i.invariant
