use Rattle.std.proofs.Common.{◌≡◌, ◌<◌, ◌-◌, ◌+◌, ℕ, zero, suc, List, [], ◌∷◌, length, drop, get_or, refl, subst, ap, ◌∙◌, arith}
use Rattle.plain_tree.specs.declared.tree.Field.{Field}
use Rattle.mono_state.specs.of_mono_words.Words.{field_sign}
use Rattle.mono_state.specs.of_mono_words.Seen.{with_sign}
use Rattle.mono_state.specs.Seen.{seen, name_in}
use Rattle.std.proofs.lemmas.List.{drop_all}
use Rattle.mono_parts.proofs.Lists.{FieldsPut, fields-none, fields-more}
use Rattle.mono_parts.proofs.Putting.{dropped-at}
use Rattle.mono_parts.proofs.operations.put_fields.Goals as goal

-- what is read there is the same, whatever would stand past the end
read-same : (xs : List Field) (m : ℕ) (d e : Field) → m < length xs → get_or xs m d ≡ get_or xs m e
read-same [] m d e lt = absurd (omega (arith, lt))
read-same (x ∷ xs) zero d e lt = refl
read-same (x ∷ xs) (suc m) d e lt = read-same xs m d e (omega (arith, lt))

pub loop-left-init : goal.loop-left-init
loop-left-init c = record {
  within = omega arith;
  put = fields-none c.args.copier.now c.put.new.self (drop (length c.args.fields.now) c.args.fields.now) (drop_all (length c.args.fields.now) c.args.fields.now (omega arith)) c.in_ok-put.ensures.goes c.in_ok-put.ensures.put;
}

pub atom-requires : goal.atom-requires
atom-requires c = (c.loop-left.invariant.put.goes []).open_

pub put-requires-in-loop-left : goal.put-requires-in-loop-left
put-requires-in-loop-left c = (c.in_ok-k.ensures.goes []).open_

pub loop-left-preserved : goal.loop-left-preserved
loop-left-preserved c =
    let w = c.loop-left.invariant.within in
    let q = c.loop-left-test.true in
    let m : c.loop-left.left ≡ (c.loop-left.left - 1) + 1 = omega (arith, q) in
    let lt : c.loop-left.left - 1 < length c.args.fields.now = omega (arith, w, q) in
    record {
      within = omega (arith, w);
      put = fields-more c.args.copier.now c.loop-left.copier c.atom.new.copier c.put-in-loop-left.new.self (drop c.loop-left.left c.args.fields.now) (drop (c.loop-left.left - 1) c.args.fields.now) _ c.in_ok-k.k
          (dropped-at c.args.fields.now _ (c.loop-left.left - 1) c.loop-left.left m lt) c.loop-left.invariant.put c.in_ok-k.ensures.goes c.in_ok-k.ensures.noted c.in_ok-k.ensures.is c.in_ok-put-2.ensures.goes
          (λ ss H. c.in_ok-put-2.ensures.put ss H ∙ ap (λ (z : Field). with_sign (field_sign z.label (name_in H c.in_ok-k.k)) (seen ss H c.atom.new.copier))
          (read-same c.args.fields.now (c.loop-left.left - 1) c.index-fields-left.result c.index-fields-left-in-loop-left.result lt));
    }

pub returns-clause-goes : goal.returns-clause-goes
returns-clause-goes c = c.loop-left.invariant.put.goes

pub returns-clause-made : goal.returns-clause-made
returns-clause-made c =
    let z : c.loop-left.left ≡ 0 = (let q = c.loop-left-test.false in omega (arith, q)) in
    (subst (λ k. FieldsPut c.args.copier.now c.loop-left.copier (drop k c.args.fields.now)) z c.loop-left.invariant.put).put
