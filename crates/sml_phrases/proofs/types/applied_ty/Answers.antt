use Rattle.std.proofs.Common.{refl, ◌∙◌}
use Rattle.std.proofs.lemmas.Result.{err_from_is_err_and}
use Rattle.phrase_base.proofs.Loop.{fails-deep}
use Rattle.sml_phrases.proofs.TypeForms.{applying-last, applying-deep, applying-more}
use Rattle.sml_phrases.proofs.types.applied_ty.Goals as goal

pub returns-in_default : goal.returns-in_default
returns-in_default c = record {
  gives = λ i a pl is.
      let x = applying-last c.args.source.now c.args.n i c.constructors.ty c.constructors.deep c.constructors.rest.now _ (c.constructors.invariant i a pl is) (rw c.in_default.is at (rw c.in_ok-argument.ensures.second at c.long_tycon_at.ensures)) in
      record { got = x.got; is = x.is; same = rw c.in_ok-argument.ensures.first x.same };
}

pub returns-in_err-parts : goal.returns-in_err-parts
returns-in_err-parts c =
    let p = err_from_is_err_and c.from_residual-in_err-parts.result c.from_residual-in_err-parts.ensures.1 in
    record {
      gives = λ i a pl is.
          rw (p.1, p.2) (fails-deep c.in_err-parts.field-0.0 _ _ (rw c.in_err-parts.ensures.second at c.room.ensures.stop)
          (applying-deep c.args.source.now c.args.n i c.constructors.ty c.constructors.deep c.constructors.rest.now _ (c.constructors.invariant i a pl is) 0 _ _ (rw c.in-Some.is at (rw c.in_ok-argument.ensures.second at c.long_tycon_at.ensures)) (rw c.in_err-parts.ensures.second at c.room.ensures.fits)));
    }

pub constructors-preserved : goal.constructors-preserved
constructors-preserved c = λ i a pl is.
    let made = rw (c.in_ok-parts.ensures.first, c.in_ok-argument.ensures.first) at c.in_ok-ty.ensures in
    applying-more c.args.source.now c.args.n i c.constructors.ty c.constructors.deep c.constructors.rest.now _ (c.constructors.invariant i a pl is) _ _ c.in-Some.next.now (rw c.in-Some.is at (rw c.in_ok-argument.ensures.second at c.long_tycon_at.ensures)) (rw c.in_ok-parts.ensures.second at c.room.ensures.fits)
    (made ∙ rw (pl, c.place_at.ensures) refl)
