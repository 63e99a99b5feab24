-- What a program that was compiled keeps.
use Rattle.std.proofs.Common.{◌≡◌, ◌<◌, ℕ, zero, suc, Bool, true, false, List, [], ◌∷◌, length, unwrap_or, take, sym, ap, ap₂, subst, ◌∙◌, arith}
use Rattle.std.proofs.lemmas.Bool.{false≢true}
use Rattle.mlc_runs.specs.Passes.{BringsNone, greatest_expansion}
use Rattle.ty_core.specs.Types.{Typ, var, con}
use Rattle.ty_table.specs.TypeAt.{type_at}
use Rattle.ir_plain.specs.Once.{IsOnce}
use Rattle.ir_poly.specs.Prog.{Decs}
use Rattle.ir_poly.specs.Tests.{Tests, poly}
use Rattle.ir_poly.specs.TestsChecked.{exn_type}
use Rattle.ir_poly.specs.Types.{unit_type}
use Rattle.ir_poly.specs.WellFormed as clean
use Rattle.ir_poly.specs.WellFormed.{meaning_of_tests, IsTests, table_of}
use Rattle.ir_tables.specs.Tables.{program_of, initial_of, constructors_of}
use Rattle.ir_tables.specs.declared.tables.Tables.{Tables}
use Rattle.match_compile.specs.Compile.{compile, compiled}
use Rattle.match_compile.specs.Laws.{KeepsTyping, MakesLocal, SameMeaning, BringsNoException, BindsOnce}
use Rattle.match_compile.specs.Exceptions.{tests_made}
use Rattle.general_bindings.proofs.of_match_types.Seeing.{earlier-stays}
use Rattle.monomorphise.specs.Counting.{expansion_within}
use Rattle.monomorphise.specs.Monomorphise.{copies}
use Rattle.match_pass.specs.Typed.{IsWellTyped}
use Rattle.ir_prog.specs.Programs as source
use Rattle.ir_prog.specs.declared.program.Program as from
use Rattle.ir_tests.specs.Programs as target
use Rattle.ir_tests.specs.declared.program.Program as to

pub program-is : (t : Tables) (b : Tests) (p : clean.Program Decs) → initial_of t ≡ p.initial → constructors_of t ≡ p.constructors → b ≡ compile p.body → program_of t b ≡ compiled p
program-is t b p i c e =
    ap₂ (λ x y. record { initial = x; constructors = y; body = b }) i c ∙ ap (λ x. record { initial = p.initial; constructors = p.constructors; body = x }) e

abbrev is_variable : Typ → Bool
is_variable (var n) = true
is_variable (con s ts) = false

-- the type of exceptions has a number of the source
exn-held : (ts : List Typ) (k : ℕ) → type_at ts k ≡ exn_type → k < length ts
exn-held [] zero is = absurd (false≢true (sym (ap is_variable is)))
exn-held [] (suc k) is = absurd (false≢true (sym (ap is_variable is)))
exn-held (t ∷ ts) zero is = omega arith
exn-held (t ∷ ts) (suc k) is = (let lt = exn-held ts k is in omega (arith, lt))

pub exn-stays : (old new : List Typ) (k : ℕ) → take (length old) new ≡ old → type_at old k ≡ exn_type → type_at new k ≡ exn_type
exn-stays old new k grown is = earlier-stays old new k grown (exn-held old k is) ∙ is

module _ (p : from.Program) (q : to.Program) (built : target.tests_of q ≡ source.tests_in p) where
  pub same-outcome : SameMeaning (source.prog_of p) → (turns : ℕ) → target.meaning q turns ≡ source.meaning p turns
  same-outcome h turns = ap (λ x. meaning_of_tests x turns) built ∙ h turns

  pub bound-once : BindsOnce (source.body_in p) → IsOnce {F = poly} (λ x. x) (target.body_of q)
  bound-once h = subst (λ x. IsOnce {F = poly} (λ y. y) x.body) (sym built) h

  pub formed : take (length p.tables.types) q.tables.types ≡ p.tables.types → q.exn ≡ p.exn → KeepsTyping (source.body_in p) → BindsOnce (source.body_in p)
      → MakesLocal (source.body_in p) → IsWellTyped p → target.IsWellFormed q
  formed grown same keeps once local w = record {
    tests = subst IsTests (sym built) (record {
      initial = w.seven;
      table = w.table;
      type = unit_type;
      typed = keeps (source.prog_of p).constructors w.after w.typed;
      once = once;
      local = local;
    });
    initial = ap (λ x. x.initial) built ∙ w.initial;
    exn = ap (type_at q.tables.types) same ∙ exn-stays p.tables.types q.tables.types p.exn grown w.exn;
  }

  pub no-exception : BringsNoException (source.prog_of p) → BringsNone (source.exceptions p) (target.exceptions q)
  no-exception h = subst (λ x. BringsNone (source.exceptions p) (tests_made x.body [])) (sym built) h

  pub same-size : target.expansion q ≡ source.expansion p
  same-size = ap (λ x. unwrap_or (expansion_within greatest_expansion (table_of x) (copies x.body)) (suc greatest_expansion)) built
