-- Expressions of one node, and what is made of parts.
use Rattle.std.specs.Prelude.{ℕ, List}
use Rattle.mlc_names.specs.declared.label.Label.{Label}
use Rattle.mlc_base.specs.declared.place.Place.{Place}
use Rattle.ir_poly.specs.Prog as t
use Rattle.prog_tree.specs.TreeOf.{Reading, atom_of, use_of}
use Rattle.prog_tree.specs.declared.tree.Atom.{Atom}
use Rattle.prog_tree.specs.declared.tree.Used.{Used}

abbrev pub atomic : Atom → (u : ℕ) → Reading → t.Exp
atomic a u R = atom_of R a (R.type u)

abbrev pub used : Used → List ℕ → (u : ℕ) → Reading → t.Exp
used x ts u R = use_of R x ts (R.type u)

abbrev pub raised : (u : ℕ) → (Reading → t.Exp) → Reading → t.Exp
raised u e R = t.raise_exp (R.type u) (e R)

abbrev pub applied : Place → (u : ℕ) → (f d : Reading → t.Exp) → Reading → t.Exp
applied place u f d R = t.app_exp place (R.type u) (f R) (d R)

abbrev pub recorded : (u : ℕ) → (Reading → t.Fields) → Reading → t.Exp
recorded u fs R = t.fields_exp (R.type u) (fs R)

abbrev pub counted : (k u : ℕ) → (Reading → t.Exp) → Reading → t.Exp
counted k u e R = t.counted_exp k (R.type u) (e R)

-- an expression whose value is dropped, and then another
abbrev pub in_turn : Place → (u : ℕ) → (d e : Reading → t.Exp) → Reading → t.Exp
in_turn place u d e R = t.case_exp place (R.type u) (d R) (t.a_rule t.any_pat (e R) t.no_rules)

-- a field behind others
abbrev pub with_field : t.Fields → Label → t.Exp → t.Fields
with_field t.no_fields l e = t.a_field l e t.no_fields
with_field (t.a_field k d fs) l e = t.a_field k d (with_field fs l e)

abbrev pub one_more : (Reading → t.Fields) → Label → (Reading → t.Exp) → Reading → t.Fields
one_more fs l e R = with_field (fs R) l (e R)
