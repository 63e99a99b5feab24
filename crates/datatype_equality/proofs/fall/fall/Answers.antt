use Rattle.std.proofs.Common.{rules, ◌<◌, ℕ, List, map, sym, ap₂, ◌∙◌, subst, arith}
use Rattle.std.proofs.lemmas.List.{length-map}
use Rattle.datatype_equality.proofs.Falls.{work, begins, passes, falls, ends, less-fallen, unmarked, marked, beyond, none-fallen, stays}
use Rattle.std.proofs.Common.{Vec, Global}
use Rattle.datatype_equality.proofs.fall.fall.Goals as goal
use Rattle.datatype_equality.proofs.fall.fall.Goals.{else-v-len-via-then-v-len+else-not-index, else-v-len-via-else-v-len}

abbrev items_of : Vec ℕ Global → List ℕ
items_of r = r.items

pub loop-v-init : goal.loop-v-init
loop-v-init c = begins (map items_of c.args.rests.items) c.args.start.items c.in_ok-marks.marks.items
    (let m = length-map c.args.rests.items items_of in omega (arith, m, c.in_ok-marks.ensures.len, c.len.ensures, c.args.rests.ok.0)) (none-fallen c.in_ok-marks.marks.items c.len.result (search rules))

pub fell-requires-clause-same : goal.fell-requires-clause-same
fell-requires-clause-same c = sym (length-map c.loop-v.rests.items items_of) ∙ c.loop-v.invariant.kept ∙ sym c.loop-v.invariant.same

pub loop-v-smaller-then-not-index : goal.loop-v-smaller-then-not-index
loop-v-smaller-then-not-index c = subst (λ n. n < work (map items_of c.loop-v.rests.items) c.loop-v.pending.items)
    (sym (ap₂ work c.in_ok-fell.ensures.rests c.in_ok-fell.ensures.pending))
    (less-fallen (map items_of c.loop-v.rests.items) c.loop-v.pending.items c.pop.new.self.items c.in-Some.v c.in-Some.ensures.items)

pub loop-v-preserved-then-not-index : goal.loop-v-preserved-then-not-index
loop-v-preserved-then-not-index c = stays c.in_ok-fell.ensures.marks c.in_ok-fell.ensures.rests c.in_ok-fell.ensures.pending
    (falls (map items_of c.args.rests.items) c.args.start.items c.loop-v.marks.items (map items_of c.loop-v.rests.items) c.loop-v.pending.items c.pop.new.self.items c.in-Some.v c.in-Some.ensures.items
    (unmarked c.loop-v.marks.items c.in-Some.v c.index.result.now c.index.ensures (search rules) c.if-not-index.true) c.loop-v.invariant (search rules))

pub loop-v-preserved : goal.loop-v-preserved
loop-v-preserved c = passes (map items_of c.args.rests.items) c.args.start.items c.loop-v.marks.items (map items_of c.loop-v.rests.items) c.loop-v.pending.items c.pop.new.self.items c.in-Some.v c.in-Some.ensures.items
    (elim c.else-v-len.branch [
      | else-v-len-via-then-v-len+else-not-index w ↦ marked c.loop-v.marks.items c.in-Some.v w.index.result.now w.index.ensures (search rules) w.if-not-index.false
      | else-v-len-via-else-v-len w ↦ beyond c.loop-v.marks.items c.in-Some.v (search rules)
    ]) c.loop-v.invariant

pub returns : goal.returns
returns c = record {
  size = c.loop-v.invariant.same;
  all = ends (map items_of c.args.rests.items) c.args.start.items c.loop-v.marks.items (map items_of c.loop-v.rests.items) c.loop-v.pending.items (search rules) c.loop-v.invariant;
  least = c.loop-v.invariant.least;
}
