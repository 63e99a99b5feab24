-- What rows and schemes of the code stand for.
use Rattle.std.specs.Prelude.{ℕ, List, [], ◌∷◌, map, Option, Some, None}
use Rattle.ty_core.specs.Types.{Typ, var}
use Rattle.ty_core.specs.declared.mark.Mark.{Mark}
use Rattle.ty_core.specs.declared.mark.Mark.TheVariants.{Any}
use Rattle.ty_basis.specs.Types.{bool_type, exn_type, ref_type, list_type, pair_type, function_type}
use Rattle.ty_basis.specs.Primitives.{prim_type, primitive_type}
use Rattle.ty_table.specs.TypeAt.{type_at}
use Rattle.core_rules.specs.Objects.{Scheme as Schema}
use Rattle.core_rules.specs.Initial.{Entry}
use Rattle.initial_types.specs.declared.row.Scheme.{Scheme}
use Rattle.initial_types.specs.declared.row.Row.{Row}
use Rattle.initial_types.specs.declared.row.Row.TheVariants.{Reference, Truth, Nil, Cons, Exception, General, Plain}

abbrev pub marks_of : Option Mark → List Mark
marks_of None = []
marks_of (Some m) = m ∷ []

-- a scheme of the code, where ts are the types of a table
abbrev pub scheme_of : List Typ → Scheme → Schema
scheme_of ts s = record { marks = marks_of s.mark; body = type_at ts s.body }

abbrev pub schemes_of : List Typ → List Scheme → List Schema
schemes_of ts = map (scheme_of ts)

abbrev pub bodies_of : List Scheme → List ℕ
bodies_of = map (λ s. s.body)

-- the mark and the body of a row
abbrev pub row_mark : Row → Option Mark
row_mark Reference = Some Any
row_mark Truth = None
row_mark Nil = Some Any
row_mark Cons = Some Any
row_mark Exception = None
row_mark (General q) = Some (prim_type q).mark
row_mark (Plain q) = None

abbrev pub row_body : Row → Typ
row_body Reference = function_type (var 0) (ref_type (var 0))
row_body Truth = bool_type
row_body Nil = list_type (var 0)
row_body Cons = function_type (pair_type (var 0) (list_type (var 0))) (list_type (var 0))
row_body Exception = exn_type
row_body (General q) = primitive_type q
row_body (Plain q) = primitive_type q

abbrev pub row_scheme : Row → Schema
row_scheme r = record { marks = marks_of (row_mark r); body = row_body r }

abbrev pub row_schemes : List Row → List Schema
row_schemes = map row_scheme

-- the schemes of rows of the initial basis
abbrev pub schemes_in : List Entry → List Schema
schemes_in = map (λ r. r.scheme)
