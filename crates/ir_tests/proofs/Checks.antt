-- When a program is well formed, from what is asked of its tables and of its body.
use Rattle.std.proofs.Common.{◌≡◌, ◌↔◌, ℕ, Bool, true, false, List, [], length, IsTrue, refl, sym, ap, subst}
use Rattle.std.specs.List.{AllByRecursion}
use Rattle.mlc_runs.specs.Passes.{initial_exceptions}
use Rattle.ty_core.specs.Types.{Typ}
use Rattle.ty_core.specs.declared.mark.Mark.{Mark}
use Rattle.ty_table.specs.TypeAt.{type_at}
use Rattle.ir_plain.specs.Once.{IsOnce}
use Rattle.ir_plain.proofs.UniqueLemmas.{once-unique}
use Rattle.ir_poly.specs.Tests.{poly}
use Rattle.ir_poly.specs.Types.{IsConstructor}
use Rattle.ir_poly.specs.TestsChecked.{exn_type}
use Rattle.ir_poly.specs.WellFormed.{table_of}
use Rattle.ir_tables.specs.Tables.{initial_of, constructors_of}
use Rattle.ir_known.specs.Knows.{marks_of}
use Rattle.tests_check.specs.Fits.{ExpFits}
use Rattle.tests_check.specs.Walk.{Names, HasType, HasNone}
use Rattle.tests_check.specs.Walk as walk
use Rattle.ir_tests.specs.declared.program.Program.{Program}
use Rattle.ir_tests.specs.Programs.{IsTyped, IsWellFormed, body_of, tests_of}
use Rattle.ir_tests.proofs.Right.{fits-is-right}

not-yes : {b : Bool} → b ≡ false → b ≡ true → ⊥
not-yes e f = cc

module _ (p : Program) where
  -- at nothing in scope
  pub some-typed : (rows : List (ℕ × Mark)) (s : Names) (k : ℕ) → rows ≡ [] → s ≡ ([], []) → HasType p.tables (marks_of rows) s p.body k → IsTrue true ↔ IsTyped p
  some-typed rows s k r e h = (
    (λ _. (
      type_at p.tables.types k,
      subst (λ s. ExpFits (walk.table_of p.tables) false [] (walk.all p.tables s) (walk.local p.tables s) (body_of p) (type_at p.tables.types k)) e
          (subst (λ rows. ExpFits (walk.table_of p.tables) false (marks_of rows) (walk.all p.tables s) (walk.local p.tables s) (body_of p) (type_at p.tables.types k)) r h.fits),
    )),
    (λ _. refl),
  )

  pub none-typed : (rows : List (ℕ × Mark)) (s : Names) → rows ≡ [] → s ≡ ([], []) → HasNone p.tables (marks_of rows) s p.body → IsTrue false ↔ IsTyped p
  none-typed rows s r e h = (
    (λ f. absurd (cc)),
    (λ t. absurd (h.never t.0
        (subst (λ rows. ExpFits (walk.table_of p.tables) false (marks_of rows) (walk.all p.tables s) (walk.local p.tables s) (body_of p) t.0) (sym r)
        (subst (λ s. ExpFits (walk.table_of p.tables) false [] (walk.all p.tables s) (walk.local p.tables s) (body_of p) t.0) (sym e) t.1)))),
  )

  -- each part that fails
  abbrev HasBasis : Type 0
  HasBasis = (initial_of p.tables ≡ initial_exceptions) × (type_at p.tables.types p.exn ≡ exn_type)

  pub no-basis : (b : Bool) → IsTrue b ↔ HasBasis → b ≡ false → IsTrue false ↔ IsWellFormed p
  no-basis b w f = ((λ g. absurd (cc)), (λ i. absurd (not-yes f (w.1 (i.initial, i.exn)))))

  pub no-table : (b : Bool) → IsTrue b ↔ AllByRecursion IsConstructor (constructors_of p.tables) → b ≡ false → IsTrue false ↔ IsWellFormed p
  no-table b w f = ((λ g. absurd (cc)), (λ i. absurd (not-yes f (w.1 i.tests.table))))

  pub not-once : (b : Bool) → IsTrue b ↔ IsOnce {F = poly} (λ x. x) (body_of p) → b ≡ false → IsTrue false ↔ IsWellFormed p
  not-once b w f = ((λ g. absurd (cc)), (λ i. absurd (not-yes f (w.1 i.tests.once))))

  pub well-formed : (b c d answer : Bool) → IsTrue b ↔ HasBasis → b ≡ true → IsTrue c ↔ AllByRecursion IsConstructor (constructors_of p.tables) → c ≡ true → IsTrue d ↔ IsOnce {F = poly} (λ x. x) (body_of p) → d ≡ true
      → IsTrue answer ↔ IsTyped p → IsTrue answer ↔ IsWellFormed p
  well-formed b c d answer wb eb wc ec wd ed w = (
    (λ y. let t = w.0 y in let r = (fits-is-right (table_of (tests_of p)) false (body_of p) t.0).0 t.1 in record {
      initial = (wb.0 eb).0;
      tests = record { initial = ap length (wb.0 eb).0; table = wc.0 ec; type = t.0; typed = r.typed; once = wd.0 ed; local = r.local };
      exn = (wb.0 eb).1;
    }),
    (λ i. w.1 (
      i.tests.type,
      (fits-is-right (table_of (tests_of p)) false (body_of p) i.tests.type).1 (record { typed = i.tests.typed; local = i.tests.local; unique = once-unique {F = poly} (λ x. x) (body_of p) i.tests.once }),
    )),
  )
