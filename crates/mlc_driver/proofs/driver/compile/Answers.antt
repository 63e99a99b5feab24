use Rattle.std.proofs.Common.{◌≡◌, ◌<◌, refl, sym, subst, arith}
use Rattle.mlc_faults.specs.declared.refused.Refused.{Refused}
use Rattle.mlc_driver.specs.Checked.{Outgrows, too_large, too_long}
use Rattle.mlc_driver.specs.Fault.{OnFault}
use Rattle.mlc_driver.proofs.Running.{same_as}
use Rattle.mlc_driver.proofs.driver.compile.Goals as goal

pub compile-requires : goal.compile-requires
compile-requires c =
    let held = c.if-not-is_named.ensures refl in
    record { named = λ k d lt. (let a = held k d lt in let b = c.requires.known in omega (arith, a, b)) }

pub returns-in-Ok-clause-same : goal.returns-in-Ok-clause-same
returns-in-Ok-clause-same c = same_as c.args.names.now c.args.checked.program c.in-Ok.image c.requires.well_typed c.in-Ok.ensures.short (c.in-Ok.ensures.runs c.requires.well_typed)

pub returns-in-Err-TooLarge-clause-refused : goal.returns-in-Err-TooLarge-clause-refused
returns-in-Err-TooLarge-clause-refused c =
    subst (λ (r : Refused). OnFault r (λ f. Outgrows c.args.names.now c.args.checked.program f)) (sym c.outgrown.ensures) (too_large (c.in-Err-TooLarge.ensures.expansion c.in-Err-TooLarge.field-0-is))

pub returns-in-Err-TooLarge-clause-place : goal.returns-in-Err-TooLarge-clause-place
returns-in-Err-TooLarge-clause-place c = subst (λ (r : Refused). OnFault r (λ f. f.place ≡ record { file = 0; byte = 0 })) (sym c.outgrown.ensures) refl

pub returns-in-Err-TooLarge-clause-unnamed : goal.returns-in-Err-TooLarge-clause-unnamed
returns-in-Err-TooLarge-clause-unnamed c = subst (λ (r : Refused). OnFault r (λ f. f.name ≡ Rattle.std.proofs.Common.None)) (sym c.outgrown.ensures) refl

pub returns-in-Err-TooLong-clause-refused : goal.returns-in-Err-TooLong-clause-refused
returns-in-Err-TooLong-clause-refused c =
    subst (λ (r : Refused). OnFault r (λ f. Outgrows c.args.names.now c.args.checked.program f)) (sym c.outgrown-in-Err-TooLong.ensures) (too_long (c.in-Err-TooLong.ensures.too_long c.in-Err-TooLong.field-0-is))

pub returns-in-Err-TooLong-clause-place : goal.returns-in-Err-TooLong-clause-place
returns-in-Err-TooLong-clause-place c = subst (λ (r : Refused). OnFault r (λ f. f.place ≡ record { file = 0; byte = 0 })) (sym c.outgrown-in-Err-TooLong.ensures) refl

pub returns-in-Err-TooLong-clause-unnamed : goal.returns-in-Err-TooLong-clause-unnamed
returns-in-Err-TooLong-clause-unnamed c = subst (λ (r : Refused). OnFault r (λ f. f.name ≡ Rattle.std.proofs.Common.None)) (sym c.outgrown-in-Err-TooLong.ensures) refl
