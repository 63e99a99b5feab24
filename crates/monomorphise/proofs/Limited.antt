-- The whole function gives what it makes with the program's count, or there is more than the limit.
use Rattle.std.proofs.Common.{◌≡◌, ◌≤◌, ℕ, Option, Some, None, option_map, refl, subst}
use Rattle.ir_mono.specs.of_ir_poly.Tests.{Tests}
use Rattle.ir_mono.specs.of_ir_poly.WellFormed as tests
use Rattle.ir_mono.specs.of_ir_poly.WellFormed.{table_of}
use Rattle.ir_mono.specs.Mono.{Program}
use Rattle.monomorphise.specs.Counting.{expansion_within, greatest_expansion, Passes}
use Rattle.monomorphise.specs.Expansion.{Expands}
use Rattle.monomorphise.specs.Laws.{monomorphised, monomorphise}
use Rattle.monomorphise.specs.Monomorphise.{copies}
use Rattle.monomorphise.proofs.Counted.{Counted, counts, passes, counted-right}

some-is : {A : Type 0} {a b : A} → Some a ≡ Some b → a ≡ b
some-is e = cc

module _ (p : tests.Program Tests) where
  counted : Counted (table_of p) greatest_expansion (copies p.body) (expansion_within greatest_expansion (table_of p) (copies p.body))
  counted = counted-right (table_of p) greatest_expansion (copies p.body)

  made-of : (o : Option ℕ) (q : Program) → option_map (monomorphised p) o ≡ Some q → q ≡ monomorphised p q.expansion
  made-of None q e = absurd (cc)
  made-of (Some n) q e = subst (λ z. z ≡ monomorphised p z.expansion) (some-is e) refl

  pub is-made : (q : Program) → monomorphise p ≡ Some q → q ≡ monomorphised p q.expansion
  is-made q e = made-of (expansion_within greatest_expansion (table_of p) (copies p.body)) q e

  counted-of : {o : Option ℕ} (q : Program) → Counted (table_of p) greatest_expansion (copies p.body) o → option_map (monomorphised p) o ≡ Some q → Expands (table_of p) (copies p.body) q.expansion × (q.expansion ≤ greatest_expansion)
  counted-of q (counts x le) e = subst (λ z. Expands (table_of p) (copies p.body) z.expansion × (z.expansion ≤ greatest_expansion)) (some-is e) (x, le)
  counted-of q (passes h) e = absurd (cc)

  pub is-counted : (q : Program) → monomorphise p ≡ Some q → Expands (table_of p) (copies p.body) q.expansion × (q.expansion ≤ greatest_expansion)
  is-counted q e = counted-of q counted e

  refused-of : {o : Option ℕ} → Counted (table_of p) greatest_expansion (copies p.body) o → option_map (monomorphised p) o ≡ None → Passes greatest_expansion (table_of p) (copies p.body)
  refused-of (counts x le) e = absurd (cc)
  refused-of (passes h) e = h

  pub is-refused : monomorphise p ≡ None → Passes greatest_expansion (table_of p) (copies p.body)
  is-refused e = refused-of counted e
