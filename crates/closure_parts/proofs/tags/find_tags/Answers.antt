use Rattle.std.proofs.Common.{◌≡◌, ℕ, List, ◌-◌, ◌&&◌, ◌∷◌, Bool, drop, ap, sym, ◌∙◌, arith}
use Rattle.std.specs.List.{concat}
use Rattle.flow_types.specs.Kinds.{items_of}
use Rattle.flow_types.specs.of_closure_whole.Tags.{stand_once}
use Rattle.closure_parts.specs.Tagged.{placed}
use Rattle.closure_parts.proofs.Tagging.{sets-left, tags-all}
use Rattle.closure_parts.proofs.tags.find_tags.Goals.{then-new, else-new}
use Rattle.closure_parts.proofs.tags.find_tags.Goals as goal

pub loop-left-preserved : goal.loop-left-preserved
loop-left-preserved c =
    let w = c.loop-left.invariant.within in
    let q = c.loop-left-test.true in
    let later : List (List ℕ) = items_of (drop c.loop-left.left c.args.sets.now) in
    let all : c.deref.result.now ∷ later ≡ items_of (drop (c.loop-left.left - 1) c.args.sets.now) =
    sets-left c.args.sets.now c.loop-left.left (c.loop-left.left - 1) c.index-sets-left.result c.index-sets-left.result c.deref.result.now (omega (arith, q)) (omega (arith, w, q)) c.index-sets-left.is c.deref.ensures.value in
    let both : c.if-new.once ≡ (c.in_ok-new.new && c.loop-left.once) =
    elim c.if-new.branch
    [ then-new v ↦ v.once-is ∙ sym (ap (λ (b : Bool). b && c.loop-left.once) v.if-new.true) | else-new v ↦ v.once-is ∙ v.if-new.false ∙ sym (ap (λ (b : Bool). b && c.loop-left.once) v.if-new.false) ] in
    record {
      within = omega (arith, w);
      placed = λ k. c.in_ok-new.ensures.places later c.loop-left.invariant.placed k ∙ ap (λ l. placed l k) all;
      once = both ∙ ap (λ (b : Bool). c.in_ok-new.new && b) c.loop-left.invariant.once ∙ c.in_ok-new.ensures.once later c.loop-left.invariant.placed ∙ ap (λ l. stand_once (concat l)) all;
    }

pub returns : goal.returns
returns c =
    let q = c.loop-left-test.false in
    let z : c.loop-left.left ≡ 0 = omega (arith, q) in
    tags-all (record { places = c.loop-left.places; once = c.loop-left.once }) (items_of (drop c.loop-left.left c.args.sets.now)) (items_of c.args.sets.now) (ap (λ j. items_of (drop j c.args.sets.now)) z)
    c.loop-left.invariant.placed c.loop-left.invariant.once
