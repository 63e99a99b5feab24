use Rattle.std.proofs.Common.{◌≡◌, length, refl, sym, subst, ◌∙◌, arith, add-one}
use Rattle.std.proofs.lemmas.Bool.{false≢true}
use Rattle.ty_solve.proofs.Arms.{take-full}
use Rattle.ty_solve.proofs.FieldLists.{no}
use Rattle.ty_solve.proofs.Knowing.{AreKnown, known-at, known-next}
use Rattle.ty_solve.proofs.known.are_known.Goals as goal

pub returns-then-not-is_known : goal.returns-then-not-is_known
returns-then-not-is_known c =
    let s = c.args.s.now in
    no (λ h. false≢true (sym c.if-not-is_known.true ∙ c.is_known.ensures.1 (known-at s.types (length s.types) (length s.slots.items) c.args.types.now c.loop-i.i c.loop-i-test.true h)))

pub loop-i-preserved : goal.loop-i-preserved
loop-i-preserved c =
    let s = c.args.s.now in
    rw add-one (known-next s.types (length s.types) (length s.slots.items) c.args.types.now c.loop-i.i c.loop-i-test.true c.loop-i.invariant (c.is_known.ensures.0 c.if-not-is_known.false))

pub returns : goal.returns
returns c =
    let s = c.args.s.now in
    let e : c.loop-i.i ≡ length c.args.types.now = omega (arith, c.loop-i-test.false, c.loop-i.auto.i-end) in
    (λ i. subst (AreKnown s.types (length s.types) (length s.slots.items)) (take-full c.args.types.now c.loop-i.i e) c.loop-i.invariant, λ h. refl)
