use Rattle.std.proofs.Common.{map, sym, ap, subst, ◌∙◌}
use Rattle.sml_tree.specs.TreeOf.{dec_of, decs_of}
use Rattle.mlb_reader.specs.PartOf.{part_of}
use Rattle.core_rules.specs.Unbound.{decs_names}
use Rattle.refusal_causes.specs.Causes.{Holds, in_cut, in_source}
use Rattle.refusal_causes.proofs.Reaching.{found-if, found-in, going-on, reached-none}
use Rattle.refusal_causes.proofs.certain.in_parts.Goals as goal

pub loop-i-init : goal.loop-i-init
loop-i-init c = λ prelude e k. reached-none prelude c.args.parts.now e c.args.scope.now k

pub returns-in-Cut : goal.returns-in-Cut
returns-in-Cut c =
    let run = decs_of (map dec_of c.deref.result.now) in
    found-if (λ e. decs_names e run) c.in_decs.result c.args.parts.now c.loop-i.i c.index-parts-i.result run c.args.sought.now c.args.scope.now c.loop-i.scope _ c.loop-i-test.true c.index-parts-i.is
    (subst (λ q. Holds q run) (sym (ap part_of c.in-Cut.is)) (subst (λ l. Holds (part_of (Rattle.mlb_reader.specs.declared.project.Part.TheVariants.Cut c.in-Cut.decs c.in-Cut.field-1)) (decs_of (map dec_of l))) (sym c.deref.ensures.value) (in_cut (decs_of (map dec_of c.in-Cut.decs.items)) c.in-Cut.field-1)))
    c.loop-i.invariant c.in_decs.ensures

pub returns-then-branch : goal.returns-then-branch
returns-then-branch c h prelude before e f k =
    let run = decs_of (map dec_of c.deref-in-Source.result.now) in
    found-in c.args.parts.now c.loop-i.i c.index-parts-i.result run c.args.sought.now _ c.args.scope.now c.loop-i.scope _ c.loop-i-test.true c.index-parts-i.is
    (subst (λ q. Holds q run) (sym (ap part_of c.in-Source.is)) (subst (λ l. Holds (part_of (Rattle.mlb_reader.specs.declared.project.Part.TheVariants.Source c.in-Source.decs)) (decs_of (map dec_of l))) (sym c.deref-in-Source.ensures.value) (in_source (decs_of (map dec_of c.in-Source.decs.items)))))
    c.loop-i.invariant c.in_ok-in_decs-in-Source.ensures c.if-branch.true prelude before e f k

pub loop-i-preserved : goal.loop-i-preserved
loop-i-preserved c =
    going-on c.args.parts.now c.loop-i.i c.index-parts-i.result (decs_of (map dec_of c.deref-in-Source.result.now)) _ c.args.scope.now c.loop-i.scope _ c.loop-i-test.true c.index-parts-i.is
    (ap part_of c.in-Source.is ∙ ap (λ l. Rattle.mlb_reader.specs.Parts.source (decs_of (map dec_of l))) (sym c.deref-in-Source.ensures.value)) c.if-branch.false c.loop-i.invariant c.in_ok-in_decs-in-Source.ensures
