use Rattle.std.proofs.Common.{◌≤◌, length, ap, ◌∙◌, arith}
use Rattle.elab_types.specs.Building.{parts_of}
use Rattle.elab_types.proofs.Lists.{all-map}
use Rattle.elab_types.proofs.Parts.{sorted-held}
use Rattle.elab_types.proofs.build.record_type.Goals as goal

pub apply-requires : goal.apply-requires
apply-requires c =
    let le : length c.in_ok-fields.fields.items ≤ c.loop-i.i = omega (arith, c.loop-i-test.false, c.len-i-end.ensures, c.in_ok-fields.fields.ok.0) in
    sorted-held _ c.args.fields.now c.deref.result.now c.requires
    (c.deref.ensures.value ∙ c.loop-i.invariant.1 ∙ all-map (λ d. d.part) c.in_ok-fields.fields.items c.loop-i.i le ∙ ap parts_of c.in_ok-fields.ensures)
