use Rattle.std.proofs.Common.{refl, sym, ap, ap₂, ◌++◌, ◌∙◌}
use Rattle.std.specs.Prelude.{flat_map}
use Rattle.scoped_tyvars.specs.Unguarded.{dec_tyvars, exn_tyvars}
use Rattle.scoped_tyvars.proofs.Listing.{both-parts, if-ok, list-ends, list-next, nothing-found}
use Rattle.scoped_tyvars.proofs.Nodes.{dec-Abbreviation, dec-Datatype, dec-Declarations, dec-Exception, dec-Fun, dec-Local, dec-Open, dec-Replicate, dec-Val, dec-Withtype}
use Rattle.scoped_tyvars.proofs.exps.+decs.Goals as goal

pub of_decs-loop-i-init : goal.of_decs-loop-i-init
of_decs-loop-i-init t c = refl

pub of_decs-loop-i-preserved : goal.of_decs-loop-i-preserved
of_decs-loop-i-preserved t c =
    list-next dec_tyvars c.args.decs.now c.loop-i.i c.index-decs-i.result c.loop-i.found.items _ _ c.loop-i-test.true c.index-decs-i.is c.loop-i.invariant c.in_ok-of_dec.ensures

pub of_decs-returns : goal.of_decs-returns
of_decs-returns t c = list-ends dec_tyvars c.args.decs.now c.loop-i.i c.loop-i.found.items _ c.loop-i-test.false c.loop-i.invariant

pub of_dec-returns-in-Val : goal.of_dec-returns-in-Val
of_dec-returns-in-Val t c = nothing-found c.args.found.now.items _ (dec-Val c.args.dec.now c.in-Val.field-0 c.in-Val.field-1 c.in-Val.field-2 c.in-Val.field-3 c.in-Val.is)

pub of_dec-returns-in-Fun : goal.of_dec-returns-in-Fun
of_dec-returns-in-Fun t c = nothing-found c.args.found.now.items _ (dec-Fun c.args.dec.now c.in-Fun.field-0 c.in-Fun.field-1 c.in-Fun.field-2 c.in-Fun.is)

pub of_dec-returns-in-Abbreviation : goal.of_dec-returns-in-Abbreviation
of_dec-returns-in-Abbreviation t c = nothing-found c.args.found.now.items _ (dec-Abbreviation c.args.dec.now c.in-Abbreviation.field-0 c.in-Abbreviation.field-1 c.in-Abbreviation.is)

pub of_dec-returns-in-Datatype : goal.of_dec-returns-in-Datatype
of_dec-returns-in-Datatype t c = nothing-found c.args.found.now.items _ (dec-Datatype c.args.dec.now c.in-Datatype.field-0 c.in-Datatype.field-1 c.in-Datatype.is)

pub of_dec-returns-in-Withtype : goal.of_dec-returns-in-Withtype
of_dec-returns-in-Withtype t c = nothing-found c.args.found.now.items _ (dec-Withtype c.args.dec.now c.in-Withtype.field-0 c.in-Withtype.field-1 c.in-Withtype.field-2 c.in-Withtype.is)

pub of_dec-returns-in-Replicate : goal.of_dec-returns-in-Replicate
of_dec-returns-in-Replicate t c = nothing-found c.args.found.now.items _ (dec-Replicate c.args.dec.now c.in-Replicate.field-0 c.in-Replicate.field-1 c.in-Replicate.field-2 c.in-Replicate.is)

pub of_dec-returns-in-Open : goal.of_dec-returns-in-Open
of_dec-returns-in-Open t c = nothing-found c.args.found.now.items _ (dec-Open c.args.dec.now c.in-Open.field-0 c.in-Open.field-1 c.in-Open.is)

pub of_dec-returns-in-Exception : goal.of_dec-returns-in-Exception
of_dec-returns-in-Exception t c = if-ok c.of_exceptions.result (λ u k. k ∙ ap (λ l. c.args.found.now.items ++ l) (ap (flat_map exn_tyvars) c.deref.ensures.value ∙ sym (dec-Exception c.args.dec.now c.in-Exception.field-0 c.in-Exception.binds c.in-Exception.is))) c.of_exceptions.ensures

pub of_dec-returns-in_ok-of_decs-in-Local : goal.of_dec-returns-in_ok-of_decs-in-Local
of_dec-returns-in_ok-of_decs-in-Local t c = if-ok c.of_decs-in-Local.result (λ u k. both-parts c.args.found.now.items _ _ _ _ _ c.in_ok-of_decs-in-Local.ensures k (ap₂ (λ a b. a ++ b) (ap (flat_map dec_tyvars) c.deref-in-Local.ensures.value) (ap (flat_map dec_tyvars) c.deref-in-Local-2.ensures.value) ∙ sym (dec-Local c.args.dec.now c.in-Local.field-0 c.in-Local.decs c.in-Local.shown c.in-Local.is))) c.of_decs-in-Local.ensures

pub of_dec-returns-in-Declarations : goal.of_dec-returns-in-Declarations
of_dec-returns-in-Declarations t c = if-ok c.of_decs-in-Declarations.result (λ u k. k ∙ ap (λ l. c.args.found.now.items ++ l) (ap (flat_map dec_tyvars) c.deref-in-Declarations.ensures.value ∙ sym (dec-Declarations c.args.dec.now c.in-Declarations.field-0 c.in-Declarations.decs c.in-Declarations.is))) c.of_decs-in-Declarations.ensures
