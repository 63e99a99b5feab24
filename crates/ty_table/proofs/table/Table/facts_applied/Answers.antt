use Rattle.std.proofs.Common.{add-one, ap, ap₂, ◌&&◌, sym, ◌∙◌, arith}
use Rattle.ty_core.specs.Types.{no_variable}
use Rattle.ty_table.specs.TypeAt.{every_variable}
use Rattle.ty_table.specs.Nodes.{types_of}
use Rattle.ty_table.specs.Variables.{with_few}
use Rattle.ty_table.specs.declared.variables.Few.TheVariants.{Empty}
use Rattle.ty_table.proofs.Viewing.{below-at, next-nodes, next-tops, next-admits, next-few}
use Rattle.ty_table.proofs.table.Table.facts_applied.Goals as goal

pub facts-facts-requires : goal.facts-facts-requires
facts-facts-requires c = below-at _ c.args.parts.now c.loop-part.part-index c.requires.below c.loop-part-test.true

pub loop-part-preserved : goal.loop-part-preserved
loop-part-preserved c = rw add-one (record {
  size =
      let p = next-nodes (types_of c.args.self.now) c.args.parts.now c.loop-part.part-index c.loop-part-test.true in
      let q = c.saturating_add-size.ensures in
      let r = ap (λ f. f.size) c.facts-facts.ensures in
      let s = c.loop-part.invariant.size in omega arith;
  equality =
      c.both-equality.ensures ∙ ap₂ (λ x y. x && y) c.loop-part.invariant.equality (ap (λ f. f.equality) c.facts-facts.ensures)
      ∙ sym (next-admits no_variable (types_of c.args.self.now) c.args.parts.now c.loop-part.part-index c.loop-part-test.true);
  everywhere =
      c.both-everywhere.ensures ∙ ap₂ (λ x y. x && y) c.loop-part.invariant.everywhere (ap (λ f. f.everywhere) c.facts-facts.ensures)
      ∙ sym (next-admits every_variable (types_of c.args.self.now) c.args.parts.now c.loop-part.part-index c.loop-part-test.true);
  top =
      let p = next-tops (types_of c.args.self.now) c.args.parts.now c.loop-part.part-index c.loop-part-test.true in
      let q = c.max-top.ensures in
      let r = ap (λ f. f.top) c.facts-facts.ensures in
      let s = c.loop-part.invariant.top in omega arith;
  few = c.with_few-few.ensures ∙ ap₂ with_few c.loop-part.invariant.few (ap (λ f. f.few) c.facts-facts.ensures)
      ∙ sym (next-few (types_of c.args.self.now) Empty c.args.parts.now c.loop-part.part-index c.loop-part-test.true);
})
