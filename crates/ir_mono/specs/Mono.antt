-- The plain-order tree with simple types: a variable is a number, a type its number in the program's table, and values keep the numbers of their types.
use Rattle.std.specs.Prelude.{ℕ, List, nat_eq, ⊤}
use Rattle.ir_poly.specs.of_mlc_runs.Outcome.{Outcome}
use Rattle.ir_poly.specs.of_ir_plain.Kind.{Kind}
use Rattle.ir_poly.specs.of_ir_plain.Tree.{Exp}
use Rattle.ir_poly.specs.of_ir_plain.Meaning as plain
use Rattle.ir_mono.specs.Types.{Row, by_number}

abbrev pub mono : List Row → Kind
mono types = record { Binder = ℕ; Use = ℕ; Type_of = ℕ; Params_of = ⊤; is_of = nat_eq; tags = by_number types; tag_of = λ n. n }

abbrev pub Mono : List Row → Type 0
Mono types = Exp (mono types)

-- beside the tree: the identifiers of the exceptions of the initial basis, the table of types, and how many nodes the program has, written out
pub record Program : Type 0 where
  pub initial : List ℕ
  pub types : List Row
  pub expansion : ℕ
  pub body : Mono types

abbrev pub meaning : Program → ℕ → Outcome
meaning p m = plain.run p.initial p.body m
