-- Types of parts that are numbers of a table.
use Rattle.std.specs.Prelude.{ℕ, suc, List, [], ◌∷◌, map}
use Rattle.mlc_names.specs.declared.label.Label.{Label}
use Rattle.mlc_names.specs.declared.label.Label.TheVariants.{Number}
use Rattle.ty_core.specs.Types.{Typ}
use Rattle.ty_basis.specs.Types.{function_type}
use Rattle.label_rows.specs.declared.sort.Field.{Field}

abbrev pub labels_of : List Field → List Label
labels_of = map (λ f. f.label)

abbrev pub parts_of : List Field → List ℕ
parts_of = map (λ f. f.part)

-- parts with the labels k, k + 1, ..
abbrev pub numbered_from : ℕ → List ℕ → List Field
numbered_from k [] = []
numbered_from k (p ∷ ps) = record { label = Number k; part = p } ∷ numbered_from (suc k) ps

-- t1 -> .. -> tn
abbrev pub functions : Typ → List Typ → Typ
functions t [] = t
functions t (u ∷ us) = function_type t (functions u us)
