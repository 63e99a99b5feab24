use Rattle.std.proofs.Common.{subst}
use Rattle.name_scopes.specs.Placed.{FoundAt}
use Rattle.name_scopes.specs.Written.{written_phrase}
use Rattle.name_scopes.proofs.Among.{any-at, any-same, none-by, unbound-at}
use Rattle.name_scopes.proofs.TyNodes.{written-Arrow-first, written-Arrow-parts, written-Con, written-Con-own, written-Product, written-Record}
use Rattle.name_scopes.proofs.tys.+tys.Goals as goal

pub in_fields-returns-then-in_written : goal.in_fields-returns-then-in_written
in_fields-returns-then-in_written t c u bs e n k =
    any-at c.args.sought.now e (λ f. written_phrase bs f.ty) c.args.fields.now c.loop-i.i c.index-fields-i.result c.loop-i-test.true c.index-fields-i.is
    (c.if-in_written.ensures u bs e n k)

pub in_parts-returns-then-in_written : goal.in_parts-returns-then-in_written
in_parts-returns-then-in_written t c u bs e n k =
    any-at c.args.sought.now e (λ o. written_phrase bs o.ty) c.args.parts.now c.loop-i.i c.index-parts-i.result c.loop-i-test.true c.index-parts-i.is
    (c.if-in_written.ensures u bs e n k)

pub in_tys-returns-then-in_written : goal.in_tys-returns-then-in_written
in_tys-returns-then-in_written t c u bs e n k =
    any-at c.args.sought.now e (written_phrase bs) c.args.tys.now c.loop-i.i c.index-tys-i.result c.loop-i-test.true c.index-tys-i.is (c.if-in_written.ensures u bs e n k)

pub in_written-returns-in-Record : goal.in_written-returns-in-Record
in_written-returns-in-Record t c u bs e n k =
    written-Record bs c.args.sought.now e c.args.ty.now c.in-Record.field-0 c.in-Record.fields c.in-Record.is
    (any-same c.args.sought.now e (λ f. written_phrase bs f.ty) _ _ c.deref.ensures.value (c.in_fields.ensures u bs e n k))

pub in_written-returns-then-is_unbound_tycon : goal.in_written-returns-then-is_unbound_tycon
in_written-returns-then-is_unbound_tycon t c u bs e n k =
    written-Con-own bs c.args.sought.now e c.args.ty.now c.in-Con.field-0 c.in-Con.arguments c.in-Con.at c.in-Con.tycon c.in-Con.is
    (none-by _ _ (c.is_abbreviation.ensures bs n) c.if-is_abbreviation.false)
    (unbound-at c.args.sought.now _ _ (c.if-is_unbound_tycon.ensures u e k) (c.if-is_at.ensures u))

pub in_written-returns-else-is_at : goal.in_written-returns-else-is_at
in_written-returns-else-is_at t c u bs e n k =
    written-Con bs c.args.sought.now e c.args.ty.now c.in-Con.field-0 c.in-Con.arguments c.in-Con.at c.in-Con.tycon c.in-Con.is
    (none-by _ _ (c.is_abbreviation.ensures bs n) c.if-is_abbreviation.false)
    (any-same c.args.sought.now e (written_phrase bs) _ _ c.deref-in-Con.ensures.value (c.in_tys.ensures u bs e n k))

pub in_written-returns-in-Product : goal.in_written-returns-in-Product
in_written-returns-in-Product t c u bs e n k =
    written-Product bs c.args.sought.now e c.args.ty.now c.in-Product.field-0 c.in-Product.parts c.in-Product.is
    (any-same c.args.sought.now e (written_phrase bs) _ _ c.deref-in-Product.ensures.value (c.in_tys-in-Product.ensures u bs e n k))

pub in_written-returns-then-in_written : goal.in_written-returns-then-in_written
in_written-returns-then-in_written t c u bs e n k =
    written-Arrow-first bs c.args.sought.now e c.args.ty.now c.in-Arrow.field-0 c.in-Arrow.first c.in-Arrow.parts c.in-Arrow.is
    (subst (λ z. FoundAt c.args.sought.now e (written_phrase bs z)) c.deref-in-Arrow.ensures (c.in_written.ensures u bs e n k))

pub in_written-returns-else-in_written : goal.in_written-returns-else-in_written
in_written-returns-else-in_written t c u bs e n k =
    written-Arrow-parts bs c.args.sought.now e c.args.ty.now c.in-Arrow.field-0 c.in-Arrow.first c.in-Arrow.parts c.in-Arrow.is
    (any-same c.args.sought.now e (λ o. written_phrase bs o.ty) _ _ c.deref-else-in_written.ensures.value (c.in_parts.ensures u bs e n k))
