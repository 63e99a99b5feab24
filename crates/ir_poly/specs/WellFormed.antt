-- Programs, and which of them are well formed: typed, each variable bound once, the basis' seven exceptions named. The tables stand beside the body.
use Rattle.std.specs.Prelude.{◌≡◌, ℕ, false, List, [], ◌++◌, length}
use Rattle.std.specs.List.{AllByRecursion}
use Rattle.ir_plain.specs.of_mlc_runs.Outcome.{Outcome}
use Rattle.ty_basis.specs.of_ty_core.Types.{Typ}
use Rattle.ir_plain.specs.Once as plain
use Rattle.ir_plain.specs.Scoped.{IsLocal}
use Rattle.ir_poly.specs.Prog.{Decs}
use Rattle.ir_poly.specs.ProgMeaning as prog
use Rattle.ir_poly.specs.ProgOnce as prog_once
use Rattle.ir_poly.specs.ProgChecked.{DecsChecked}
use Rattle.ir_poly.specs.Tests.{poly, Tests}
use Rattle.ir_poly.specs.Tests as tests
use Rattle.ir_poly.specs.TestsChecked.{Knowns, Checked}
use Rattle.ir_poly.specs.Types.{Constructor, IsConstructor, initial_constructors}

-- the identifiers of the exceptions of the initial basis, the constructors of the program's datatypes, and its body
pub record Program (Body : Type 0) : Type 0 where
  pub initial : List ℕ
  pub constructors : List Constructor
  pub body : Body

module _ {Body : Type 0} where
  abbrev pub table_of : Program Body → List Constructor
  table_of p = initial_constructors ++ p.constructors

  abbrev pub IsTable : Program Body → Type 0
  IsTable p = AllByRecursion IsConstructor p.constructors

abbrev pub meaning_of_prog : Program Decs → ℕ → Outcome
meaning_of_prog p m = prog.run p.initial p.body m

abbrev pub meaning_of_tests : Program Tests → ℕ → Outcome
meaning_of_tests p m = tests.run p.initial p.body m

pub record IsProg (p : Program Decs) : Type 0 where
  pub initial : length p.initial ≡ 7
  pub table : IsTable p
  pub after : Knowns
  pub typed : DecsChecked (table_of p) [] [] p.body after
  pub once : prog_once.IsOnce p.body

-- no miss gets out, and only a use and an exception's name that is brought in reach into functions around
pub record IsTests (p : Program Tests) : Type 0 where
  pub initial : length p.initial ≡ 7
  pub table : IsTable p
  pub type : Typ
  pub typed : Checked (table_of p) false [] [] p.body type
  pub once : plain.IsOnce (λ x. x) p.body
  pub local : IsLocal poly [] p.body
