-- The function makes a well formed program in simple types, which does the same.
use Rattle.std.proofs.Common.{◌≡◌, ℕ, false, List, [], refl}
use Rattle.std.specs.List.{AllByRecursion}
use Rattle.mlc_runs.specs.Outcome.{wrong}
use Rattle.ty_core.specs.Statics.{replace}
use Rattle.ir_mono.proofs.of_ir_plain.UniqueLemmas.{once-unique}
use Rattle.ir_mono.specs.of_ir_poly.Tests.{Tests}
use Rattle.ir_mono.specs.of_ir_poly.TestsTyped.{Typed}
use Rattle.ir_mono.specs.of_ir_poly.WellFormed as tests
use Rattle.ir_mono.specs.of_ir_poly.WellFormed.{table_of, meaning_of_tests, IsTests}
use Rattle.ir_mono.proofs.of_ir_poly.TypedLemmas.{typed-read, reads_none}
use Rattle.ir_mono.specs.Mono.{meaning}
use Rattle.ir_mono.specs.WellFormed.{IsWellFormed}
use Rattle.ir_mono.proofs.Sound.{well-formed-never-wrong}
use Rattle.monomorphise.specs.Copies.{no_copies, Copy}
use Rattle.monomorphise.specs.Laws.{IsCopied, types_of, monomorphised}
use Rattle.monomorphise.specs.Monomorphise.{nowhere, named, copies}
use Rattle.monomorphise.specs.Number.{AllKnown}
use Rattle.monomorphise.specs.Table.{number_in, wanted, first_types}
use Rattle.monomorphise.proofs.Constructed.{exp-has}
use Rattle.monomorphise.proofs.Entered.{AreListable}
use Rattle.monomorphise.proofs.Filled.{Every, all-entered, all-known, first-exact, table-listable}
use Rattle.monomorphise.proofs.Inhabited.{exp-inhabited}
use Rattle.monomorphise.proofs.Kept.{copies-well-formed, copies-same}
use Rattle.monomorphise.proofs.Made.{copies-made}
use Rattle.monomorphise.proofs.Numbered.{numbered-copies}
use Rattle.monomorphise.proofs.NumberedOnce.{numbered-once}

module _ (p : tests.Program Tests) (well : IsTests p) where
  nowhere-typed : Typed (table_of p) false nowhere [] p.body (replace nowhere well.type)
  nowhere-typed = typed-read well.typed nowhere (λ v e. absurd (cc)) reads_none

  made : Copy (named (table_of p)) no_copies nowhere p.body (copies p.body)
  made = copies-made (table_of p) nowhere-typed (once-unique (λ x. x) p.body well.once) (exp-inhabited well.typed)

  listable : AreListable (table_of p)
  listable = table-listable p.constructors well.table

  filled : Every (table_of p) listable first_types (types_of p) (wanted (copies p.body))
  filled = all-entered (table_of p) listable first_types (first-exact p.constructors) (wanted (copies p.body)) (exp-has (table_of p) made)

  pub ready : AllKnown (types_of p) (number_in (types_of p)) (copies p.body)
  ready = all-known (types_of p) filled.exact.of.sound (copies p.body) filled.got

  module _ (n : ℕ) where
    pub makes-copies : IsCopied p (monomorphised p n)
    makes-copies = record {
      initial = refl;
      table = filled.exact.of;
      standing = nowhere;
      copies = numbered-copies (table_of p) (types_of p) (number_in (types_of p)) made ready;
    }

    pub makes-well-formed : IsWellFormed (monomorphised p n)
    makes-well-formed = copies-well-formed p (monomorphised p n) well makes-copies (numbered-once (types_of p) (number_in (types_of p)) (copies p.body))

    pub makes-same : (m : ℕ) → meaning (monomorphised p n) m ≡ meaning_of_tests p m
    makes-same m = copies-same p (monomorphised p n) well makes-copies m

    pub makes-never-wrong : (m : ℕ) → (meaning (monomorphised p n) m).end ≡ wrong → ⊥
    makes-never-wrong m = well-formed-never-wrong (monomorphised p n) makes-well-formed m
