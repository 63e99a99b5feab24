use Rattle.std.proofs.Common.{◌≡◌, ◌<◌, ◌+◌, ◌-◌, ℕ, List, [], ◌∷◌, length, map, true, false, refl, ap, ◌∙◌, sym, subst, arith}
use Rattle.std.proofs.lemmas.Result.{err_from_is_err_and}
use Rattle.mlc_names.specs.declared.token.Reserved.TheVariants as res
use Rattle.sml_tree.specs.Terminal.{Terminal}
use Rattle.sml_tree.specs.ReadTree as read_tree
use Rattle.sml_tree.specs.Bare.{ty_list, ty_at_list}
use Rattle.sml_tree.specs.Depth.{depth_tys, depth_ty_fields}
use Rattle.sml_tree.specs.TreeOf.{ty_of, ty_part_of, ty_field_of}
use Rattle.sml_tree.specs.declared.tree.Ty.{Ty}
use Rattle.sml_tree.specs.declared.tree.TyPart.{TyPart}
use Rattle.sml_tree.specs.declared.tree.TyField.{TyField}
use Rattle.sml_grammar.specs.Answer.{Read, ok}
use Rattle.sml_grammar.specs.Terminals.{as_label, no_state}
use Rattle.sml_grammar.specs.Types.{read_ty, arrow_rest, arrow_turn, ty_field_turn}
use Rattle.phrase_base.specs.declared.got.Got.{Got}
use Rattle.phrase_base.specs.Gives.{Gives}
use Rattle.phrase_base.specs.Left.{left}
use Rattle.sml_phrases.specs.TypesRead.{IsTy, separator_turn}
use Rattle.phrase_base.proofs.Loop.{fails-bad}
use Rattle.phrase_base.proofs.Listing.{listing-start, listing-at}
use Rattle.sml_phrases.proofs.Rolls.{ty_field-of, ty_part-of}
use Rattle.sml_phrases.proofs.TypeForms.{gives-by, separator-shorter, plain-start, read-zero, atom-fails, applied-fails, product-fails, after-product, arguments-done, con-of, plain-gives}
use Rattle.phrase_base.proofs.Shorter.{word-shorter, first-shorter}
use Rattle.sml_phrases.proofs.TypeLists.{ty_field_list, tys-more, tys-last, tys-fails, parts-more, parts-last, parts-fails, fields-more, fields-last, fields-fail, fields-no_label, fields-no_colon, is_tys-at, is_parts-at, is_fields-at}
use Rattle.sml_phrases.proofs.types.+types.Goals as goal

pub read_ty-returns-then-begins_ty : goal.read_ty-returns-then-begins_ty
read_ty-returns-then-begins_ty t c = record { gives = read-zero c.args.n c.args.level _ true c.if-n-eq0.true (sym c.begins_ty.ensures ∙ c.if-begins_ty.true) }

pub read_ty-returns-then-n-eq0 : goal.read_ty-returns-then-n-eq0
read_ty-returns-then-n-eq0 t c = record { gives = read-zero c.args.n c.args.level _ false c.if-n-eq0.true (sym c.begins_ty.ensures ∙ c.if-begins_ty.false) }

pub read_ty-returns-in_err-atom : goal.read_ty-returns-in_err-atom
read_ty-returns-in_err-atom t c =
    let p = err_from_is_err_and c.from_residual.result c.from_residual.ensures.1 in
    record { gives = rw (p.1, p.2) (atom-fails c.args.n c.args.level (left c.args.source.now c.args.tokens.now) (omega arith) c.in_err-atom.field-0.0 c.in_err-atom.ensures.gives) }

pub read_ty-returns-in_err-applied : goal.read_ty-returns-in_err-applied
read_ty-returns-in_err-applied t c =
    let p = err_from_is_err_and c.from_residual-in_err-applied.result c.from_residual-in_err-applied.ensures.1 in
    let a = c.in_ok-atom.ensures.gives in
    record {
      gives = rw (p.1, p.2) (applied-fails c.args.n c.args.level (left c.args.source.now c.args.tokens.now) (omega arith) a.got a.is c.in_err-applied.field-0.0
          (c.in_err-applied.ensures.gives (left c.args.source.now c.args.tokens.now) a.got c.place_at-place.ensures a.same));
    }

pub read_ty-returns-in_err-product : goal.read_ty-returns-in_err-product
read_ty-returns-in_err-product t c =
    let p = err_from_is_err_and c.from_residual-in_err-product.result c.from_residual-in_err-product.ensures.1 in
    let a = c.in_ok-atom.ensures.gives in
    let b = c.in_ok-applied.ensures.gives (left c.args.source.now c.args.tokens.now) a.got c.place_at-place.ensures a.same in
    record {
      gives = rw (p.1, p.2) (product-fails c.args.n c.args.level (left c.args.source.now c.args.tokens.now) (omega arith) a.got a.is b.got b.is c.in_err-product.field-0.0
          (c.in_err-product.ensures.gives (left c.args.source.now c.args.tokens.now) b.got c.place_at-place.ensures b.same));
    }

pub read_ty-returns : goal.read_ty-returns
read_ty-returns t c =
    let i = left c.args.source.now c.args.tokens.now in
    let a = c.in_ok-atom.ensures.gives in
    let b = c.in_ok-applied.ensures.gives i a.got c.place_at-place.ensures a.same in
    let p = c.in_ok-product.ensures.gives i b.got c.place_at-place.ensures b.same in
    let n : c.args.n - 1 + 1 ≡ c.args.n = omega arith in
    let h = c.function_ty.ensures.gives i p.got c.place_at-place.ensures p.same in
    let total = arrow_rest (read_ty (c.args.n - 1)) (c.args.n - 1) c.args.level p.got.tree p.got.rest in
    let h2 : Gives (λ (x : Got Ty) (r : Read read_tree.Ty). IsTy c.args.source.now c.args.n i x.it x.depth x.rest.now r) c.function_ty.result total =
    subst (λ (k : ℕ). Gives (λ (x : Got Ty) (r : Read read_tree.Ty). IsTy c.args.source.now k i x.it x.depth x.rest.now r) c.function_ty.result total) n h in
    record { gives = gives-by (λ (x : Got Ty) (r : Read read_tree.Ty). IsTy c.args.source.now c.args.n i x.it x.depth x.rest.now r) c.function_ty.result (read_ty c.args.n c.args.level i) total (after-product c.args.n c.args.level i (omega arith) a.got a.is b.got b.is p.got p.is) h2 }

pub ty_fields-fields-init : goal.ty_fields-fields-init
ty_fields-fields-init t c = record {
  going = listing-at (ty_field_turn (read_ty c.args.n)) (ty_field_list c.args.source.now.file) depth_ty_fields c.args.n [] 0 (ap (map ty_field_of) c.new-all.ensures.items) refl
      (listing-start (ty_field_turn (read_ty c.args.n)) (ty_field_list c.args.source.now.file) depth_ty_fields c.args.n [] 0 no_state (left c.args.source.now c.args.tokens.now) (omega arith));
  short = omega arith;
}

pub ty_fields-returns-in_default : goal.ty_fields-returns-in_default
ty_fields-returns-in_default t c = record { gives = fields-no_label c.args.source.now c.args.n c.fields.all.items c.fields.deepest (left c.args.source.now c.fields.rest.now) _ 0 c.in_default.ensures c.fields.invariant.going }

pub ty_fields-returns-in_err-others : goal.ty_fields-returns-in_err-others
ty_fields-returns-in_err-others t c =
    let p = err_from_is_err_and c.from_residual.result c.from_residual.ensures.1 in
    record { gives = rw (p.1, p.2) (fails-bad c.in_err-others.field-0.0 _ _ (rw c.in_err-others.ensures.second at c.past.ensures.stop) (fields-no_colon c.args.source.now c.args.n c.fields.all.items c.fields.deepest (left c.args.source.now c.fields.rest.now) _ 0 _ _ c.in-Some.ensures (rw c.in_err-others.ensures.second at c.past.ensures.word) c.fields.invariant.going)) }

pub ty_fields-returns-in_err-start : goal.ty_fields-returns-in_err-start
ty_fields-returns-in_err-start t c =
    let p = err_from_is_err_and c.from_residual-in_err-start.result c.from_residual-in_err-start.ensures.1 in
    record { gives = rw (p.1, p.2) (fields-fail c.args.source.now c.args.n c.fields.all.items c.fields.deepest (left c.args.source.now c.fields.rest.now) _ _ _ _ c.in_err-start.field-0.0 c.in-Some.ensures (rw c.in_ok-others.ensures.second at c.past.ensures.word) (rw c.in_err-start.ensures.second at c.read_ty.ensures.gives) c.fields.invariant.going) }

pub ty_fields-returns-in_default-after_word : goal.ty_fields-returns-in_default-after_word
ty_fields-returns-in_default-after_word t c =
    let s = c.args.source.now in
    let i = left s c.args.tokens.now in
    let p : TyField = record { label = c.in-Some.label; ty = c.in_ok-start.ty.it } in
    let h = (rw c.in_ok-start.ensures.second at c.read_ty.ensures.gives) in
    let s1 = first-shorter as_label (left s c.fields.rest.now) _ (left s c.in-Some.after_label.now) c.in-Some.ensures in
    let s2 = word-shorter res.Colon (left s c.in-Some.after_label.now) (left s c.in_ok-others.after_colon.now) (rw c.in_ok-others.ensures.second at c.past.ensures.word) in
    let g = fields-last s c.args.n c.fields.all.items c.fields.deepest (left s c.fields.rest.now) _ p c.in_ok-start.ty.depth (left s c.in-Some.after_label.now) (left s c.in_ok-others.after_colon.now) c.in_ok-start.ty.rest.now h.got {j = i} (ty_field-of c.in-Some.label c.in_ok-start.ty.it) c.in-Some.ensures (rw c.in_ok-others.ensures.second at c.past.ensures.word) h.is h.same c.in_default-after_word.ensures (omega arith) c.fields.invariant.going in
    record { gives = record { got = g.got; is = g.is; same = is_fields-at s c.args.n i _ c.max-deepest.result c.in_ok-start.ty.rest.now _ c.in_ok-all.all.items g.got (rw (c.in_ok-start.ensures.first, c.in_ok-others.ensures.first) at c.in_ok-all.ensures) c.max-deepest.ensures g.same } }

pub ty_fields-fields-preserved : goal.ty_fields-fields-preserved
ty_fields-fields-preserved t c =
    let s = c.args.source.now in
    let p : TyField = record { label = c.in-Some.label; ty = c.in_ok-start.ty.it } in
    let h = (rw c.in_ok-start.ensures.second at c.read_ty.ensures.gives) in
    let s1 = first-shorter as_label (left s c.fields.rest.now) _ (left s c.in-Some.after_label.now) c.in-Some.ensures in
    let s2 = word-shorter res.Colon (left s c.in-Some.after_label.now) (left s c.in_ok-others.after_colon.now) (rw c.in_ok-others.ensures.second at c.past.ensures.word) in
    let s3 = word-shorter res.Comma (left s c.in_ok-start.ty.rest.now) (left s c.in-Some-after_word.next.now) c.in-Some-after_word.ensures in
    let s4 = h.same.shorter in
    let s5 = ap (λ (z : List Terminal). length z) h.same.rest in
    let lt : length (left s c.in-Some-after_word.next.now) < length (left s c.fields.rest.now) = omega arith in
    let g = fields-more s c.args.n c.fields.all.items c.fields.deepest (left s c.fields.rest.now) _ p c.in_ok-start.ty.depth (left s c.in-Some.after_label.now) (left s c.in_ok-others.after_colon.now) c.in_ok-start.ty.rest.now h.got (ty_field-of c.in-Some.label c.in_ok-start.ty.it) c.in-Some.ensures (rw c.in_ok-others.ensures.second at c.past.ensures.word) h.is h.same c.in-Some-after_word.ensures lt c.fields.invariant.going in
    record {
      going = listing-at (ty_field_turn (read_ty c.args.n)) (ty_field_list s.file) depth_ty_fields c.args.n [] 0 (ap (map ty_field_of) (rw (c.in_ok-start.ensures.first, c.in_ok-others.ensures.first) at c.in_ok-all.ensures)) c.max-deepest.ensures g;
      short = omega (arith, c.fields.invariant.short);
    }

pub ty_parts-parts-init : goal.ty_parts-parts-init
ty_parts-parts-init t c = record {
  going = listing-at (arrow_turn (read_ty c.args.n)) (ty_at_list c.args.source.now.file) depth_tys c.args.n [] 0 (ap (map ty_part_of) c.new-all.ensures.items) refl
      (listing-start (arrow_turn (read_ty c.args.n)) (ty_at_list c.args.source.now.file) depth_tys c.args.n [] 0 no_state (left c.args.source.now c.args.tokens.now) (omega arith));
  short = omega arith;
}

pub ty_parts-returns-in_err-front : goal.ty_parts-returns-in_err-front
ty_parts-returns-in_err-front t c =
    let p = err_from_is_err_and c.from_residual.result c.from_residual.ensures.1 in
    record { gives = rw (p.1, p.2) (parts-fails c.args.source.now c.args.n c.parts.all.items c.parts.deepest (left c.args.source.now c.parts.rest.now) _ c.in_err-front.field-0.0 (rw c.in_err-front.ensures.second at c.read_ty.ensures.gives) c.parts.invariant.going) }

pub ty_parts-returns-in_default : goal.ty_parts-returns-in_default
ty_parts-returns-in_default t c =
    let s = c.args.source.now in
    let p : TyPart = record { place = c.place_at-place.result; ty = c.in_ok-front.ty.it } in
    let h = (rw c.in_ok-front.ensures.second at c.read_ty.ensures.gives) in
    let g = parts-last s c.args.n c.parts.all.items c.parts.deepest (left s c.parts.rest.now) _ p c.in_ok-front.ty.depth c.in_ok-front.ty.rest.now h.got {j = left s c.args.tokens.now} (ty_part-of c.place_at-place.result c.in_ok-front.ty.it) c.place_at-place.ensures h.is h.same c.in_default.ensures c.parts.invariant.short c.parts.invariant.going in
    record { gives = record { got = g.got; is = g.is; same = is_parts-at s c.args.n (left s c.args.tokens.now) _ c.max-deepest.result c.in_ok-front.ty.rest.now _ c.in_ok-all.all.items g.got (rw c.in_ok-front.ensures.first at c.in_ok-all.ensures) c.max-deepest.ensures g.same } }

pub ty_parts-parts-preserved : goal.ty_parts-parts-preserved
ty_parts-parts-preserved t c =
    let s = c.args.source.now in
    let p : TyPart = record { place = c.place_at-place.result; ty = c.in_ok-front.ty.it } in
    let h = (rw c.in_ok-front.ensures.second at c.read_ty.ensures.gives) in
    let s3 = word-shorter res.Arrow (left s c.in_ok-front.ty.rest.now) (left s c.in-Some.next.now) c.in-Some.ensures in
    let s4 = h.same.shorter in
    let s5 = ap (λ (z : List Terminal). length z) h.same.rest in
    let lt : length (left s c.in-Some.next.now) < length (left s c.parts.rest.now) = omega arith in
    let g = parts-more s c.args.n c.parts.all.items c.parts.deepest (left s c.parts.rest.now) _ p c.in_ok-front.ty.depth c.in_ok-front.ty.rest.now h.got (ty_part-of c.place_at-place.result c.in_ok-front.ty.it) c.place_at-place.ensures h.is h.same c.in-Some.ensures lt c.parts.invariant.going in
    record {
      going = listing-at (arrow_turn (read_ty c.args.n)) (ty_at_list s.file) depth_tys c.args.n [] 0 (ap (map ty_part_of) (rw c.in_ok-front.ensures.first at c.in_ok-all.ensures)) c.max-deepest.ensures g;
      short = omega (arith, c.parts.invariant.short);
    }

pub types_after-types-init : goal.types_after-types-init
types_after-types-init t c =
    let e : c.in_ok-all.all.items ≡ c.args.first ∷ [] = c.in_ok-all.ensures in
    record {
      going = listing-at (separator_turn c.args.separator (read_ty c.args.n)) (ty_list c.args.source.now.file) depth_tys c.args.n (ty_of c.args.first ∷ []) c.args.depth (ap (map ty_of) e) refl
          (listing-start (separator_turn c.args.separator (read_ty c.args.n)) (ty_list c.args.source.now.file) depth_tys c.args.n (ty_of c.args.first ∷ []) c.args.depth no_state (left c.args.source.now c.args.tokens.now) c.requires.fits);
      short = omega arith;
    }

pub types_after-returns-in_err-front : goal.types_after-returns-in_err-front
types_after-returns-in_err-front t c =
    let p = err_from_is_err_and c.from_residual-in_err-front.result c.from_residual-in_err-front.ensures.1 in
    record { gives = rw (p.1, p.2) (tys-fails c.args.source.now c.args.n c.args.separator (c.args.first ∷ []) c.args.depth c.types.all.items c.types.deepest (left c.args.source.now c.types.rest.now) _ c.in_err-front.field-0.0 (rw c.separator_level.ensures at (rw c.in_err-front.ensures.second at c.read_ty.ensures.gives)) c.types.invariant.going) }

pub types_after-returns-in_default : goal.types_after-returns-in_default
types_after-returns-in_default t c =
    let s = c.args.source.now in
    let h = (rw c.in_ok-front.ensures.second at c.read_ty.ensures.gives) in
    let g = tys-last s c.args.n c.args.separator (c.args.first ∷ []) c.args.depth c.types.all.items c.types.deepest (left s c.types.rest.now) _ c.in_ok-front.ty.it c.in_ok-front.ty.depth c.in_ok-front.ty.rest.now h.got {j = left s c.args.tokens.now} (subst (λ (k : ℕ). read_ty c.args.n k (left s c.types.rest.now) ≡ ok h.got) c.separator_level.ensures h.is) h.same c.in_default.ensures c.types.invariant.short c.types.invariant.going in
    record { gives = record { got = g.got; is = g.is; same = is_tys-at s c.args.n (left s c.args.tokens.now) _ c.max-deepest.result c.in_ok-front.ty.rest.now (c.args.first ∷ []) _ c.in_ok-all-2.all.items c.args.depth g.got (rw c.in_ok-front.ensures.first at c.in_ok-all-2.ensures) c.max-deepest.ensures g.same } }

pub types_after-types-preserved : goal.types_after-types-preserved
types_after-types-preserved t c =
    let s = c.args.source.now in
    let h = (rw c.in_ok-front.ensures.second at c.read_ty.ensures.gives) in
    let s3 = separator-shorter c.args.separator (left s c.in_ok-front.ty.rest.now) (left s c.in-Some.next.now) c.in-Some.ensures in
    let s4 = h.same.shorter in
    let s5 = ap (λ (z : List Terminal). length z) h.same.rest in
    let lt : length (left s c.in-Some.next.now) < length (left s c.types.rest.now) = omega arith in
    let g = tys-more s c.args.n c.args.separator (c.args.first ∷ []) c.args.depth c.types.all.items c.types.deepest (left s c.types.rest.now) _ c.in_ok-front.ty.it c.in_ok-front.ty.depth c.in_ok-front.ty.rest.now h.got (subst (λ (k : ℕ). read_ty c.args.n k (left s c.types.rest.now) ≡ ok h.got) c.separator_level.ensures h.is) h.same c.in-Some.ensures lt c.types.invariant.going in
    record {
      going = listing-at (separator_turn c.args.separator (read_ty c.args.n)) (ty_list s.file) depth_tys c.args.n (ty_of c.args.first ∷ []) c.args.depth (ap (map ty_of) (rw c.in_ok-front.ensures.first at c.in_ok-all-2.ensures)) c.max-deepest.ensures g;
      short = omega (arith, c.types.invariant.short);
    }

pub atomic_ty-returns : goal.atomic_ty-returns
atomic_ty-returns t c =
    let i = left c.args.source.now c.args.tokens.now in
    record { gives = plain-gives c.args.source.now c.args.n i c.plain_ty.result (read_ty c.args.n) (plain-start i c.in_default.ensures c.in_default-after_word.ensures) (c.plain_ty.ensures.gives (read_ty c.args.n)) }

pub applied_to-returns-in-Some : goal.applied_to-returns-in-Some
applied_to-returns-in-Some t c =
    let s = c.args.source.now in
    let h = c.in_ok-it.ensures.gives in
    let same = c.in_ok-all.ensures.first ∙ c.in_ok-arguments.ensures.first in
    record {
      gives = λ i a pl b d lt.
          let x = arguments-done s c.args.n i (left s c.args.tokens.now) a (c.args.first ∷ []) c.in_ok-it.field-0.it.items c.args.depth c.in_ok-it.field-0.depth c.in_ok-it.field-0.rest.now h.got h.is h.same c.in_ok-arguments.closed.now c.in-Some.rest.now _ _ (rw c.in_ok-arguments.ensures.second at c.past.ensures.word) (rw c.in-Some.is at (rw c.in_ok-all.ensures.second at c.long_tycon_at.ensures)) (ap (λ z. z ∷ []) b) d c.requires.fits lt
          (con-of s i c.args.place c.place_at.result _ c.in_ok-all.all c.in-Some.long c.in_ok-it.field-0.it.items pl c.place_at.ensures (rw same refl)) in
          record { got = x.got; is = x.is; same = x.same };
    }
