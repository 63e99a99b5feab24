-- What a program that was made keeps.
use Rattle.std.proofs.Common.{◌≡◌, ◌<◌, ℕ, suc, false, [], ◌++◌, Some, None, option_map, unwrap_or, refl, sym, ap, ◌∙◌, subst, arith}
use Rattle.std.specs.Prelude.{Contains}
use Rattle.std.proofs.lemmas.List.Elements.{All-weaker, Contains-append_left}
use Rattle.mlc_runs.specs.Passes.{BringsNone, initial_exceptions}
use Rattle.mlc_runs.specs.Outcome.{wrong}
use Rattle.ty_core.specs.Types.{name}
use Rattle.ty_core.specs.Statics.{replace}
use Rattle.ir_plain.proofs.UniqueLemmas.{once-unique}
use Rattle.ir_poly.specs.Tests.{Tests}
use Rattle.ir_poly.specs.TestsTyped.{Typed}
use Rattle.ir_poly.specs.Types.{exn_name}
use Rattle.ir_poly.specs.WellFormed as tests
use Rattle.ir_poly.specs.WellFormed.{table_of, meaning_of_tests, IsTests}
use Rattle.ir_poly.proofs.TypedLemmas.{typed-read, reads_none}
use Rattle.ir_mono.specs.Mono.{Program, meaning}
use Rattle.ir_mono.specs.Types.{IsExn, node}
use Rattle.ir_mono.specs.WellFormed.{IsWellFormed}
use Rattle.match_compile.specs.Exceptions.{tests_made}
use Rattle.monomorphise.specs.Copies.{no_copies, Copy}
use Rattle.monomorphise.specs.Counting.{expansion_within, greatest_expansion}
use Rattle.monomorphise.specs.Laws.{monomorphise, monomorphised, types_of, MakesWellFormed, KeepsTheMeaning, IsNeverWrong}
use Rattle.monomorphise.specs.Monomorphise.{nowhere, named, copies}
use Rattle.monomorphise.specs.Table.{wanted, first_types}
use Rattle.monomorphise.proofs.Constructed.{exp-has}
use Rattle.monomorphise.proofs.Filled.{Every, all-entered, first-exact, table-listable}
use Rattle.monomorphise.proofs.Inhabited.{exp-inhabited}
use Rattle.monomorphise.proofs.Made.{copies-made}
use Rattle.mono_exceptions.specs.Laws.{MakesNoMore}
use Rattle.mono_form.specs.of_mono_tree.Programs.{exceptions_of}

-- the type of exceptions has its number
module _ (p : tests.Program Tests) (well : IsTests p) where
  nowhere-typed : Typed (table_of p) false nowhere [] p.body (replace nowhere well.type)
  nowhere-typed = typed-read well.typed nowhere (λ v e. absurd (cc)) reads_none

  copied : Copy (named (table_of p)) no_copies nowhere p.body (copies p.body)
  copied = copies-made (table_of p) nowhere-typed (once-unique (λ x. x) p.body well.once) (exp-inhabited well.typed)

  filled : Every (table_of p) (table-listable p.constructors well.table) first_types (types_of p) (wanted (copies p.body))
  filled = all-entered (table_of p) (table-listable p.constructors well.table) first_types (first-exact p.constructors) (wanted (copies p.body)) (exp-has (table_of p) copied)

  pub exn-there : IsExn (types_of p) 2
  exn-there = filled.keeps.nodes 2 (node (name exn_name) []) refl

module _ (p : tests.Program Tests) (q : Program) (n : ℕ) (same : q ≡ monomorphised p n) where
  pub kept-formed : MakesWellFormed → IsTests p → IsWellFormed q
  kept-formed h w = subst IsWellFormed (sym same) (h p n w)

  pub kept-meaning : KeepsTheMeaning → IsTests p → (turns : ℕ) → meaning q turns ≡ meaning_of_tests p turns
  kept-meaning h w turns = ap (λ r. meaning r turns) same ∙ h p n w turns

  pub kept-right : IsNeverWrong → IsTests p → (turns : ℕ) → (meaning q turns).end ≡ wrong → ⊥
  kept-right h w turns = subst (λ r. (meaning r turns).end ≡ wrong → ⊥) (sym same) (h p n w turns)

  pub kept-exceptions : MakesNoMore → BringsNone (tests_made p.body []) (exceptions_of q)
  kept-exceptions h =
      subst (λ r. BringsNone (tests_made p.body []) (exceptions_of r)) (sym same)
      (All-weaker (Contains (tests_made p.body [])) (Contains (tests_made p.body [] ++ initial_exceptions)) (λ x c. Contains-append_left (tests_made p.body []) initial_exceptions x c) (exceptions_of (monomorphised p n)) (h p n))

-- how many nodes there are, and that there are too many

pub size-is : (p : tests.Program Tests) (n : ℕ) → expansion_within greatest_expansion (table_of p) (copies p.body) ≡ Some n → n ≡ unwrap_or (expansion_within greatest_expansion (table_of p) (copies p.body)) (suc greatest_expansion)
size-is p n e = sym (ap (λ o. unwrap_or o (suc greatest_expansion)) e)

pub none-made : (p : tests.Program Tests) → expansion_within greatest_expansion (table_of p) (copies p.body) ≡ None → monomorphise p ≡ None
none-made p e = ap (option_map (monomorphised p)) e

pub past-limit : (p : tests.Program Tests) → expansion_within greatest_expansion (table_of p) (copies p.body) ≡ None → greatest_expansion < unwrap_or (expansion_within greatest_expansion (table_of p) (copies p.body)) (suc greatest_expansion)
past-limit p e = let o = ap (λ o. unwrap_or o (suc greatest_expansion)) e in omega (arith, o)
