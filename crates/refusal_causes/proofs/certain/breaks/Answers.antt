use Rattle.std.proofs.Common.{map, sym, ap, subst, ◌∙◌}
use Rattle.sml_tree.specs.TreeOf.{dec_of, decs_of}
use Rattle.core_rules.specs.Project as core
use Rattle.mlb_reader.specs.PartOf.{part_of}
use Rattle.mlb_reader.specs.declared.project.Part.TheVariants as read
use Rattle.refusal_causes.specs.Causes.{Holds, in_cut, in_source}
use Rattle.refusal_causes.proofs.Reaching.{broken-if, broken-there, passed-next, passed-none}
use Rattle.refusal_causes.proofs.certain.breaks.Goals as goal
use Rattle.refusal_causes.proofs.certain.breaks.Goals.{in-StandardBasis, in-Source+in_ok-breaks_first-in-Source+else-branch}

pub loop-i-init : goal.loop-i-init
loop-i-init c = passed-none c.args.parts.now

pub returns-in-Cut : goal.returns-in-Cut
returns-in-Cut c =
    let run = decs_of (map dec_of c.deref.result.now) in
    broken-if c.breaks_first.result c.args.parts.now c.loop-i.i c.index-parts-i.result run c.args.place c.loop-i-test.true c.index-parts-i.is
    (subst (λ q. Holds q run) (sym (ap part_of c.in-Cut.is)) (subst (λ l. Holds (part_of (read.Cut c.in-Cut.decs c.in-Cut.field-1)) (decs_of (map dec_of l))) (sym c.deref.ensures.value) (in_cut (decs_of (map dec_of c.in-Cut.decs.items)) c.in-Cut.field-1)))
    c.loop-i.invariant c.breaks_first.ensures

pub returns-then-branch : goal.returns-then-branch
returns-then-branch c h =
    let run = decs_of (map dec_of c.deref-in-Source.result.now) in
    broken-there c.args.parts.now c.loop-i.i c.index-parts-i.result run c.args.place c.loop-i-test.true c.index-parts-i.is
    (subst (λ q. Holds q run) (sym (ap part_of c.in-Source.is)) (subst (λ l. Holds (part_of (read.Source c.in-Source.decs)) (decs_of (map dec_of l))) (sym c.deref-in-Source.ensures.value) (in_source (decs_of (map dec_of c.in-Source.decs.items)))))
    c.loop-i.invariant (c.in_ok-breaks_first-in-Source.ensures c.if-branch.true)

pub loop-i-preserved : goal.loop-i-preserved
loop-i-preserved c = elim c.match-parts-i.branch [
  | in-StandardBasis w ↦ passed-next c.args.parts.now c.loop-i.i c.index-parts-i.result core.standard_basis c.loop-i-test.true c.index-parts-i.is (ap part_of w.in-StandardBasis.is) c.loop-i.invariant
  | in-Source+in_ok-breaks_first-in-Source+else-branch w ↦
      passed-next c.args.parts.now c.loop-i.i c.index-parts-i.result (core.source (decs_of (map dec_of w.deref-in-Source.result.now))) c.loop-i-test.true c.index-parts-i.is
      (ap part_of w.in-Source.is ∙ ap (λ l. Rattle.mlb_reader.specs.Parts.source (decs_of (map dec_of l))) (sym w.deref-in-Source.ensures.value)) c.loop-i.invariant
]
