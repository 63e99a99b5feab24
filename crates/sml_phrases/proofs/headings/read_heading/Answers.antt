use Rattle.std.proofs.Common.{Vec, Global, ◌≡◌, ◌∙◌, refl, subst, ap, List, length}
use Rattle.std.proofs.lemmas.Result.{err_from_is_err_and}
use Rattle.mlc_names.specs.declared.token.Reserved.TheVariants as res
use Rattle.sml_tree.specs.Terminal.{Terminal}
use Rattle.sml_tree.specs.declared.tree.Pat.{Pat}
use Rattle.sml_grammar.specs.Answer.{ok}
use Rattle.sml_grammar.specs.Terminals.{after_word}
use Rattle.sml_grammar.specs.Types.{maybe_ty}
use Rattle.phrase_base.specs.Gives.{Fails}
use Rattle.phrase_base.specs.Left.{left}
use Rattle.sml_phrases.specs.DeclarationsRead.{shape_from}
use Rattle.phrase_base.proofs.Loop.{fails-bad}
use Rattle.sml_phrases.proofs.HeadingForms.{heading-disagrees, heading-fails, heading-done}
use Rattle.sml_phrases.proofs.headings.read_heading.Goals as goal

pub returns-in_err-agreed : goal.returns-in_err-agreed
returns-in_err-agreed c =
    let s = c.args.source.now in
    let h = c.in_ok-place.ensures.gives in
    let p = err_from_is_err_and c.from_residual-in_err-agreed.result c.from_residual-in_err-agreed.ensures.1 in
    let count = ap (λ (z : List Pat). length z) c.as_slice-count.ensures.value ∙ h.same.count in
    let no = rw c.in_err-agreed.ensures.second at (c.agreeing.ensures.agrees h.got.tree h.same.vid count) in
    record { gives = rw (p.1, p.2) (fails-bad c.in_err-agreed.field-0.0 _ _ (rw c.in_err-agreed.ensures.second at c.agreeing.ensures.stop) (heading-disagrees c.args.n c.args.fix.now (shape_from c.args.shape) (left s c.args.tokens.now) h.got h.is no)) }

pub returns-in_err-pats : goal.returns-in_err-pats
returns-in_err-pats c =
    let s = c.args.source.now in
    let h = c.in_ok-place.ensures.gives in
    let p = err_from_is_err_and c.from_residual-in_err-pats.result c.from_residual-in_err-pats.ensures.1 in
    let count = ap (λ (z : List Pat). length z) c.as_slice-count.ensures.value ∙ h.same.count in
    let yes = rw c.in_ok-agreed.ensures.second at (c.agreeing.ensures.agrees h.got.tree h.same.vid count) in
    let x = subst (λ (z : List Terminal). Fails c.in_err-pats.field-0.0 (maybe_ty c.args.n (after_word res.Colon z) z)) h.same.rest (rw c.in_err-pats.ensures.second at c.maybe_ty.ensures.gives) in
    record { gives = rw (p.1, p.2) (heading-fails c.args.n c.args.fix.now (shape_from c.args.shape) (left s c.args.tokens.now) h.got h.is c.in_err-pats.field-0.0 yes x) }

pub returns : goal.returns
returns c =
    let s = c.args.source.now in
    let h = c.in_ok-place.ensures.gives in
    let t = (rw c.in_ok-pats.ensures.second at c.maybe_ty.ensures.gives) in
    let count = ap (λ (z : List Pat). length z) c.as_slice-count.ensures.value ∙ h.same.count in
    let yes = rw c.in_ok-agreed.ensures.second at (c.agreeing.ensures.agrees h.got.tree h.same.vid count) in
    let by = subst (λ (z : List Terminal). maybe_ty c.args.n (after_word res.Colon z) z ≡ ok t.got) h.same.rest t.is in
    let g = heading-done c.args.n c.args.fix.now (shape_from c.args.shape) (left s c.args.tokens.now) h.got h.is s c.args.shape
    (record { shape = record { place = c.in_ok-place.field-0.it.place; vid_place = c.in_ok-place.field-0.it.vid_place; vid = c.in_ok-place.field-0.it.vid; count = length c.as_slice-count.result.now }; pats = c.in_ok-pats.pats; ty = c.in_ok-pats.ty.it })
    c.in_ok-place.field-0.it c.in_ok-place.field-0.depth c.in_ok-place.field-0.rest.now c.in_ok-pats.ty.depth c.max.result c.in_ok-pats.ty.rest.now t.got refl yes h.same refl refl refl (ap (λ (z : Vec Pat Global). z.items) (c.in_ok-pats.ensures.first ∙ c.in_ok-agreed.ensures.first)) count by t.same c.max.ensures in
    record { gives = record { got = g.got; is = g.is; same = g.same } }
