-- Copies of a well formed program in simple types are well formed, and do the same.
use Rattle.std.proofs.Common.{◌≡◌, ℕ, false, [], length, nat_eq, refl, sym, ap, subst, ◌∙◌}
use Rattle.std.proofs.lemmas.Bool.{eq-eqb}
use Rattle.mlc_runs.specs.Outcome.{wrong}
use Rattle.ty_core.specs.Statics.{replace}
use Rattle.ir_mono.specs.of_ir_plain.Once.{IsOnce}
use Rattle.ir_mono.specs.of_ir_plain.Meaning.{run}
use Rattle.ir_mono.specs.of_ir_poly.Tests.{Tests}
use Rattle.ir_mono.specs.of_ir_poly.TestsTyped.{Typed}
use Rattle.ir_mono.specs.of_ir_poly.WellFormed as tests
use Rattle.ir_mono.specs.of_ir_poly.WellFormed.{table_of, meaning_of_tests, IsTests}
use Rattle.ir_mono.proofs.of_ir_poly.TypedLemmas.{typed-read, reads_none}
use Rattle.ir_mono.specs.Mono.{Program, meaning}
use Rattle.ir_mono.specs.Typing as mt
use Rattle.ir_mono.specs.WellFormed.{IsWellFormed}
use Rattle.ir_mono.proofs.Sound.{run-never-wrong}
use Rattle.monomorphise.specs.Simple.{simple}
use Rattle.monomorphise.specs.Laws.{IsCopied}
use Rattle.monomorphise.proofs.Keeps.{run-refines}
use Rattle.monomorphise.proofs.Typing.{run-copied}
use Rattle.monomorphise.proofs.Locals.{copies-local}

pub number-same : (k : ℕ) → nat_eq k k ≡ Rattle.std.specs.Prelude.true
number-same k = eq-eqb k k refl

module _ (p : tests.Program Tests) (q : Program) (well : IsTests p) (copied : IsCopied p q) where
  at-types : Typed (table_of p) false copied.standing [] p.body (replace copied.standing well.type)
  at-types = typed-read well.typed copied.standing (λ v k. absurd (cc)) reads_none

  copies-typed : (n : ℕ) × mt.Typed q.types false [] q.body n
  copies-typed = run-copied (table_of p) q.types copied.table copied.copies at-types

  same-length : length q.initial ≡ 7
  same-length = ap length copied.initial ∙ well.initial

  pub copies-well-formed : IsOnce (λ x. x) q.body → IsWellFormed q
  copies-well-formed once = record { table = copied.table.sound; initial = same-length; type = copies-typed.0; typed = copies-typed.1; once = once; local = copies-local (simple q.types) number-same copied.copies well.local }

  never : (m : ℕ) → (meaning q m).end ≡ wrong → ⊥
  never m = run-never-wrong q.types copied.table.sound q.initial q.body m same-length copies-typed.1

  pub copies-same : (m : ℕ) → meaning q m ≡ meaning_of_tests p m
  copies-same m = sym (subst (λ is. run is p.body m ≡ run q.initial q.body m) copied.initial (run-refines (simple q.types) number-same q.initial m copied.copies (never m)))

  pub source-never : (m : ℕ) → (meaning_of_tests p m).end ≡ wrong → ⊥
  source-never m e = never m (ap (λ o. o.end) (copies-same m) ∙ e)
