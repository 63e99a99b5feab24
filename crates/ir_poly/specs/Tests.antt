-- Tests: the plain-order tree with explicit instances. A use is a variable at the types of its parameters; values keep nothing of types.
use Rattle.std.specs.Prelude.{ℕ, Bool, nat_eq, List}
use Rattle.ir_plain.specs.of_mlc_runs.Outcome.{Outcome}
use Rattle.ty_basis.specs.of_ty_core.Types.{Typ}
use Rattle.ty_basis.specs.of_ty_core.declared.scheme.Quantified.{Quantified}
use Rattle.ir_plain.specs.of_ir_values.Tags.{untagged}
use Rattle.ir_plain.specs.Kind.{Kind}
use Rattle.ir_plain.specs.Tree.{Exp}
use Rattle.ir_plain.specs.Meaning as plain

pub data Use : Type 0 where
  inst : ℕ → List Typ → Use

abbrev pub is_inst_of : Use → ℕ → Bool
is_inst_of (inst x ts) y = nat_eq x y

abbrev pub poly : Kind
poly = record { Binder = ℕ; Use = Use; Type_of = Typ; Params_of = List Quantified; is_of = is_inst_of; tags = untagged; tag_of = λ t. tt }

abbrev pub Tests : Type 0
Tests = Exp poly

abbrev pub run : List ℕ → Tests → ℕ → Outcome
run = plain.run
