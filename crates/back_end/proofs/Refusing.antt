-- Refusals of passes that are passed on.
use Rattle.std.proofs.Common.{◌≡◌, ◌≢◌, Result, Ok, Err, IfErr, refl, sym, subst}
use Rattle.std.specs.Result.{IsErrAnd}
use Rattle.mlc_runs.specs.declared.pass.PassFault.{PassFault}
use Rattle.mlc_runs.specs.declared.pass.PassFault.TheVariants as fault
use Rattle.machine_emit.specs.declared.refused.EmitRefused.{EmitRefused}
use Rattle.machine_emit.specs.declared.refused.EmitRefused.TheVariants as emit
use Rattle.back_end.specs.Refusals.{of_pass, of_emit}
use Rattle.back_end.specs.declared.refused.CompileRefused.{CompileRefused}
use Rattle.back_end.specs.declared.refused.CompileRefused.TheVariants.{TooLarge, TooLong}

module _ {T : Type 0} where
  pub passed-on : (r : Result T CompileRefused) (e : CompileRefused) → IsErrAnd r (λ x. x ≡ e) → (P : CompileRefused → Type 0) → P e → IfErr r P
  passed-on (Ok x) e g P h = absurd g
  passed-on (Err x) e g P h = subst P (sym g) h

  pub large-by-pass : (r : Result T CompileRefused) (e : PassFault) → IsErrAnd r (λ x. x ≡ of_pass e) → (Q : Type 0) → (e ≡ fault.Expansion → Q) → IfErr r (λ x. x ≡ TooLarge → Q)
  large-by-pass (Ok x) e g Q h = absurd g
  large-by-pass (Err x) fault.Expansion g Q h = λ b. h refl
  large-by-pass (Err x) fault.Memory g Q h = λ b. absurd (cc)

  -- one that is want of memory
  pub not-large : (r : Result T CompileRefused) (e : PassFault) → IsErrAnd r (λ x. x ≡ of_pass e) → e ≡ fault.Memory → (Q : Type 0) → IfErr r (λ x. x ≡ TooLarge → Q)
  not-large r e g m Q = large-by-pass r e g Q (λ b. absurd (cc))

  pub not-long : (r : Result T CompileRefused) (e : PassFault) → IsErrAnd r (λ x. x ≡ of_pass e) → IfErr r (λ x. x ≢ TooLong)
  not-long (Ok x) e g = absurd g
  not-long (Err x) fault.Expansion g = λ b. absurd (cc)
  not-long (Err x) fault.Memory g = λ b. absurd (cc)

  pub long-by-emit : (r : Result T CompileRefused) (e : EmitRefused) → IsErrAnd r (λ x. x ≡ of_emit e) → (Q : Type 0) → (e ≡ emit.TooLong → Q) → IfErr r (λ x. x ≡ TooLong → Q)
  long-by-emit (Ok x) e g Q h = absurd g
  long-by-emit (Err x) emit.TooLong g Q h = λ b. h refl
  long-by-emit (Err x) emit.Memory g Q h = λ b. absurd (cc)

  pub not-large-by-emit : (r : Result T CompileRefused) (e : EmitRefused) → IsErrAnd r (λ x. x ≡ of_emit e) → (Q : Type 0) → IfErr r (λ x. x ≡ TooLarge → Q)
  not-large-by-emit (Ok x) e g Q = absurd g
  not-large-by-emit (Err x) emit.TooLong g Q = λ b. absurd (cc)
  not-large-by-emit (Err x) emit.Memory g Q = λ b. absurd (cc)
