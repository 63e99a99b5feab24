use Rattle.std.proofs.Common.{◌≡◌, ◌<◌, slice_get, Some, refl, sym, subst, ◌∙◌}
use Rattle.ty_core.specs.Statics.{replace}
use Rattle.ty_table.specs.TypeAt.{type_at}
use Rattle.ty_instance.specs.Images.{image_at}
use Rattle.match_types.proofs.Images.{instance-stands}
use Rattle.match_types.proofs.Seeing.{keeps-by, keeps-equal, stands-on, held-within}
use Rattle.match_types.proofs.Standing.{over-stands}
use Rattle.match_types.specs.Views.{source_at, in_view}
use Rattle.match_types.specs.declared.work.ValueType.TheVariants.{Source}
use Rattle.match_types.proofs.types.scoped_source.Goals as goal

pub returns-then-over-clause-is : goal.returns-then-over-clause-is
returns-then-over-clause-is c =
    let w = c.source_type.new.work in
    stands-on w _ c.in_ok-k.k (in_view (Source c.args.t)) (keeps-equal w _ refl refl refl refl refl refl refl refl)
    (over-stands w c.in_ok-k.k c.args.t c.in_ok-k.ensures.is c.in_ok-k.ensures.held (c.in_ok-over.ensures.0 c.if-over.true))

pub returns-clause-is : goal.returns-clause-is
returns-clause-is c =
    let e = c.in_ok-images.ensures in
    let w = c.source_type.new.work in
    instance-stands _ c.images.new.work _ c.in_ok-k.k c.args.t c.in_ok-r.r c.in_ok-images.images.items e.keeps
    (keeps-by c.images.new.work _ c.in_ok-r.ensures.earlier_stay refl refl refl refl refl refl refl)
    (stands-on w _ c.in_ok-k.k (source_at c.args.t) (keeps-equal w _ refl refl refl refl refl refl refl refl) c.in_ok-k.ensures.is) c.in_ok-k.ensures.held (e.len ∙ c.top-count.ensures)
    (λ v lt. e.is v (subst (λ n. v < n) (sym c.top-count.ensures) lt))
    (subst (λ l. slice_get c.instantiate.new.types c.in_ok-r.r ≡ Some (replace (image_at c.images.new.work.tables.types l) (type_at c.images.new.work.tables.types c.in_ok-k.k))) c.deref.ensures.value c.in_ok-r.ensures.is)

pub returns-clause-held : goal.returns-clause-held
returns-clause-held c = held-within _ _ _ c.in_ok-r.ensures.is
