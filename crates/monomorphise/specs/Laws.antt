-- What the pass keeps.
use Rattle.std.specs.Prelude.{◌≡◌, ◌≤◌, ℕ, true, List, Option, Some, None, option_map}
use Rattle.mlc_runs.specs.Outcome.{wrong}
use Rattle.ty_core.specs.Types.{Typ}
use Rattle.ir_mono.specs.of_ir_plain.Meaning.{run}
use Rattle.ir_mono.specs.of_ir_plain.Once.{IsOnce}
use Rattle.ir_mono.specs.of_ir_plain.Tree.{Exp}
use Rattle.ir_mono.specs.of_ir_poly.Tests.{Tests}
use Rattle.ir_mono.specs.of_ir_poly.WellFormed as tests
use Rattle.ir_mono.specs.of_ir_poly.WellFormed.{table_of, meaning_of_tests, IsTests}
use Rattle.ir_mono.specs.Mono.{Program, meaning}
use Rattle.ir_mono.specs.WellFormed.{IsWellFormed}
use Rattle.monomorphise.specs.Copies.{Target, kind_of, no_copies, Copy}
use Rattle.ir_mono.specs.Types.{Row}
use Rattle.ir_mono.specs.of_ir_plain.Weight.{weight}
use Rattle.monomorphise.specs.Monomorphise.{copies}
use Rattle.monomorphise.specs.Number.{none_given, number, Rises}
use Rattle.monomorphise.specs.Table.{number_in, types_for}
use Rattle.monomorphise.specs.Expansion.{Expands}
use Rattle.monomorphise.specs.Counting.{expansion_within, greatest_expansion, Passes}
use Rattle.monomorphise.specs.Simple.{simple, IsTableOf}

-- a program does what any copies of it do, unless they go wrong
abbrev pub CopiesDoTheSame : Target → Type 0
CopiesDoTheSame T =
    ((k : T.Name) → T.same k k ≡ true) → (initial : List ℕ) (e : Tests) (e' : Exp (kind_of T)) (s : ℕ → Typ) → Copy T no_copies s e e'
    → (m : ℕ) → ((run initial e' m).end ≡ wrong → ⊥) → run initial e m ≡ run initial e' m

-- q has copies of what p does, at types of p's constructors
pub record IsCopied (p : tests.Program Tests) (q : Program) : Type 0 where
  pub initial : q.initial ≡ p.initial
  pub table : IsTableOf (table_of p) q.types
  pub standing : ℕ → Typ
  pub copies : Copy (simple q.types) no_copies standing p.body q.body

-- copies of a well formed program, in which each variable is bound once, are a well formed program
abbrev pub CopiesAreWellFormed : Type 0
CopiesAreWellFormed =
    (p : tests.Program Tests) (q : Program) → IsTests p → IsCopied p q → IsOnce (λ x. x) q.body → IsWellFormed q

-- they go wrong at no number of turns, and neither does the program; both do the same
abbrev pub CopiesKeepTheMeaning : Type 0
CopiesKeepTheMeaning =
    (p : tests.Program Tests) (q : Program) → IsTests p → IsCopied p q → (m : ℕ) → meaning q m ≡ meaning_of_tests p m

abbrev pub NeitherGoesWrong : Type 0
NeitherGoesWrong =
    (p : tests.Program Tests) (q : Program) → IsTests p → IsCopied p q → (m : ℕ) → (meaning_of_tests p m).end ≡ wrong → ⊥

-- What the function makes: copies, with numbers for names, and for types those of the table that it makes of them.

abbrev pub types_of : tests.Program Tests → List Row
types_of p = types_for (table_of p) (copies p.body)

-- n says how many nodes it has, written out
abbrev pub monomorphised : tests.Program Tests → ℕ → Program
monomorphised p n = record {
  initial = p.initial;
  types = types_of p;
  expansion = n;
  body = number (types_of p) (number_in (types_of p)) none_given 0 (copies p.body);
}

abbrev pub MakesCopies : Type 0
MakesCopies = (p : tests.Program Tests) (n : ℕ) → IsTests p → IsCopied p (monomorphised p n)

abbrev pub MakesWellFormed : Type 0
MakesWellFormed = (p : tests.Program Tests) (n : ℕ) → IsTests p → IsWellFormed (monomorphised p n)

abbrev pub KeepsTheMeaning : Type 0
KeepsTheMeaning = (p : tests.Program Tests) (n : ℕ) → IsTests p → (m : ℕ) → meaning (monomorphised p n) m ≡ meaning_of_tests p m

abbrev pub IsNeverWrong : Type 0
IsNeverWrong = (p : tests.Program Tests) (n : ℕ) → IsTests p → (m : ℕ) → (meaning (monomorphised p n) m).end ≡ wrong → ⊥

-- whatever the program: a variable has a greater number than those in scope where it is bound, and numbers change no count
abbrev pub NumbersRise : Type 0
NumbersRise = (p : tests.Program Tests) (n : ℕ) → Rises (types_of p) (number_in (types_of p)) 0 (monomorphised p n).body

abbrev pub NumbersWeigh : Type 0
NumbersWeigh = (p : tests.Program Tests) (n : ℕ) → weight (monomorphised p n).body ≡ weight (copies p.body)

-- The whole function gives no program where the count passes the limit.
abbrev pub monomorphise : tests.Program Tests → Option Program
monomorphise p = option_map (monomorphised p) (expansion_within greatest_expansion (table_of p) (copies p.body))

abbrev pub IsMade : Type 0
IsMade = (p : tests.Program Tests) (q : Program) → monomorphise p ≡ Some q → q ≡ monomorphised p q.expansion

-- its count is the program's, and at most the limit
abbrev pub IsCounted : Type 0
IsCounted =
    (p : tests.Program Tests) (q : Program) → monomorphise p ≡ Some q
    → Expands (table_of p) (copies p.body) q.expansion × (q.expansion ≤ greatest_expansion)

-- it is refused where there is more than the limit, and as soon as there is
abbrev pub IsRefused : Type 0
IsRefused = (p : tests.Program Tests) → monomorphise p ≡ None → Passes greatest_expansion (table_of p) (copies p.body)
