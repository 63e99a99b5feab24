-- What is known of variables, in the words of the typing.
use Rattle.std.specs.Prelude.{ℕ, List, map}
use Rattle.std.specs.Option.{option_map}
use Rattle.ir_tables.specs.of_ty_core.Types.{Typ, var}
use Rattle.ir_tables.specs.of_ty_core.declared.mark.Mark.{Mark}
use Rattle.ir_tables.specs.of_ty_core.declared.scheme.Quantified.{Quantified}
use Rattle.ir_tables.specs.of_ty_table.TypeAt.{type_at}
use Rattle.ir_tables.specs.Tables.{parameters_at}
use Rattle.ir_tables.specs.of_ir_poly.TestsChecked as clean
use Rattle.ir_known.specs.declared.known.Known.{Known}
use Rattle.ir_known.specs.declared.known.Known.TheVariants as known

module _ (types : List Typ) (parameters : List (List Quantified)) where
  abbrev pub known_of : Known → clean.Known
  known_of (known.OfType t) = clean.of_type (type_at types t)
  known_of (known.General ps t) = clean.general (parameters_at parameters ps) var (type_at types t)
  known_of (known.Own t) = clean.own (type_at types t)
  known_of (known.Exception a) = clean.exception (option_map (type_at types) a)

  abbrev pub knowns_of : List (ℕ × Known) → clean.Knowns
  knowns_of = map (λ k. (k.0, known_of k.1))

-- parameters in scope, from their variables with marks
abbrev pub marks_of : List (ℕ × Mark) → List Quantified
marks_of = map (λ q. record { variable = q.0; mark = q.1 })
