-- What is claimed of the size of copies.
use Rattle.std.specs.Prelude.{◌≡◌, ◌<◌, ◌≤◌, ℕ, List, Some, None}
use Rattle.ir_plain.specs.Tree.{Exp}
use Rattle.ir_poly.specs.Tests.{Tests}
use Rattle.ir_poly.specs.Types.{Constructor}
use Rattle.ir_poly.specs.WellFormed as tests
use Rattle.ir_poly.specs.WellFormed.{table_of}
use Rattle.ir_mono.specs.Mono.{Program}
use Rattle.monomorphise.specs.Monomorphise.{Named, copies}
use Rattle.monomorphise.specs.Expansion.{Expands}
use Rattle.monomorphise.specs.Counting.{greatest_expansion}
use Rattle.monomorphise.specs.Laws.{monomorphise}

-- copies have one size at most
abbrev pub OneSize : Type 0
OneSize = (constructors : List Constructor) (e : Exp Named) (m n : ℕ) → Expands constructors e m → Expands constructors e n → m ≡ n

-- where the pass gives no program, its copies have no size within the limit
abbrev pub IsTooLarge : Type 0
IsTooLarge = (p : tests.Program Tests) → monomorphise p ≡ None → (n : ℕ) → Expands (table_of p) (copies p.body) n → greatest_expansion < n

-- where they have one within it, the pass gives a program of this size
abbrev pub IsFound : Type 0
IsFound =
    (p : tests.Program Tests) (n : ℕ) → Expands (table_of p) (copies p.body) n → n ≤ greatest_expansion
    → (q : Program) × (monomorphise p ≡ Some q) × (q.expansion ≡ n)
