-- How applications go, as the code's values say it.
use Rattle.std.specs.Prelude.{ℕ, suc, Bool, true, ◌&&◌, List, [], ◌∷◌, Option, Some, None, nat_lt}
use Rattle.mlc_names.specs.declared.label.Label.{Label}
use Rattle.mlc_names.specs.declared.label.Label.TheVariants.{Number}
use Rattle.ty_core.specs.Types.{Typ}
use Rattle.ir_poly.specs.Prog as t
use Rattle.ir_poly.specs.Types.{unit_type}
use Rattle.ir_values.specs.Values.{same_label}
use Rattle.prog_tree.specs.declared.tree.Exp.{Exp}
use Rattle.match_compile.specs.Compile as clean
use Rattle.prog_tree.specs.TreeOf.{Reading, exc_of}
use Rattle.exp_steps.specs.declared.ways.Built.{Built}
use Rattle.exp_steps.specs.declared.ways.Built.TheVariants as built
use Rattle.exp_steps.specs.declared.ways.Way.{Way}
use Rattle.exp_steps.specs.declared.ways.Way.TheVariants as ways
use Rattle.exp_steps.specs.declared.ways.Heading.{Heading}
use Rattle.exp_steps.specs.declared.ways.Heading.TheVariants as headings

abbrev pub built_of : Built → Reading → clean.Built
built_of (built.Constructor k) R = clean.a_con k
built_of (built.Reference held) R = clean.a_ref (R.type held)
built_of (built.Exception x) R = clean.an_exn (exc_of x)

-- the type that a construction of type t from a value of type u is made at
abbrev pub made_at : clean.Built → (t u : Typ) → Typ
made_at (clean.a_con k) t u = t
made_at (clean.a_ref w) t u = w
made_at (clean.an_exn x) t u = u

abbrev pub type_or_unit : Option ℕ → Reading → Typ
type_or_unit (Some k) R = R.type k
type_or_unit None R = unit_type

abbrev pub way_of : Way → Reading → clean.Way
way_of ways.Call R = clean.by_call
way_of (ways.Building b) R = clean.by_building (built_of b R)
way_of (ways.Performing p k) R = clean.by_performing p (type_or_unit k R)

-- what an application begins with says how it goes; of a primitive, with whether so many parts are written
abbrev pub headed : Heading → (tuple : ℕ → Bool) → Reading → clean.Way
headed headings.Other tuple R = clean.by_call
headed (headings.Value b) tuple R = clean.by_building (built_of b R)
headed (headings.Primitive p k) tuple R = clean.performed (nat_lt 1 (clean.arity p) && tuple (clean.arity p)) p (type_or_unit k R)

-- two operands as the argument of an operator
abbrev pub operands : Typ → (d e : t.Exp) → t.Exp
operands u d e = t.fields_exp u (t.a_field (Number 1) d (t.a_field (Number 2) e t.no_fields))

-- whether the labels are l, l + 1, ..
abbrev pub labels_from : (l : ℕ) → List (Label × Exp) → Bool
labels_from l [] = true
labels_from l (f ∷ fs) = same_label (Number l) f.0 && labels_from (suc l) fs
