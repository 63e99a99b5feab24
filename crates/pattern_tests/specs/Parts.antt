-- What is to be done with parts of patterns.
use Rattle.std.specs.Prelude.{ℕ, suc, Bool, false, List, [], ◌∷◌, map, reverse}
use Rattle.mlc_names.specs.declared.label.Label.{Label}
use Rattle.mlc_names.specs.declared.label.Label.TheVariants.{Number}
use Rattle.ir_poly.specs.Prog as t
use Rattle.ir_tables.specs.Tables.{literal_at}
use Rattle.ir_tables.specs.declared.tables.Constant.{Constant}
use Rattle.match_compile.specs.Compile.{past_pat, past_pats, spots, field_spots, tests, field_tests}
use Rattle.prog_tree.specs.TreeOf.{Reading, exc_of, pat_field_of, pat_part_of, fields_of, before, right_pats, left_pats, chain_pats}
use Rattle.prog_tree.specs.declared.tree.Exception.{Exception}
use Rattle.prog_tree.specs.declared.tree.Head.{Head}
use Rattle.prog_tree.specs.declared.tree.Pair.{Pair}
use Rattle.prog_tree.specs.declared.tree.PatField.{PatField}
use Rattle.prog_tree.specs.declared.tree.PatPart.{PatPart}
use Rattle.prog_tree.specs.declared.tree.Side.{Side}
use Rattle.match_steps.specs.of_match_types.Views.{value_type}
use Rattle.match_steps.specs.of_match_types.declared.work.ValueType.{ValueType}
use Rattle.match_steps.specs.of_match_types.declared.work.ValueType.TheVariants.{Source}
use Rattle.match_steps.specs.Made.{selecting}
use Rattle.pattern_tests.specs.declared.patterns.Pairs.{Pairs}
use Rattle.pattern_tests.specs.declared.patterns.Pairs.TheVariants as pairing
use Rattle.pattern_tests.specs.Tasks.{Task, finished, both, pattern}

-- the fields of the record a of the source's type u
abbrev pub fields_task : (Reading → t.PatFields) → (u : ValueType) (a : ℕ) → Task
fields_task fs u a = record {
  past = λ v n. past_pats (fs v.source) n;
  found = λ v n us. field_spots (fs v.source) n us;
  made = λ v n rest. field_tests v.scope v.names (fs v.source) (value_type v u) n a rest;
}

abbrev pub field_patterns : List PatField → Reading → t.PatFields
field_patterns fs R = fields_of (map (pat_field_of R) fs)

abbrev pub field_first : Label → (w : ℕ) → (Reading → t.Pat) → (Reading → t.PatFields) → Reading → t.PatFields
field_first l w p fs R = t.a_pat l (R.type w) (p R) (fs R)

-- a pattern behind what stands before it, and a record of all its fields
abbrev pub behind : Head → (w : ℕ) → (Reading → t.Pat) → Reading → t.Pat
behind h w p R = before h (R.type w) (p R)

abbrev pub record_pattern : Bool → (Reading → t.PatFields) → Reading → t.Pat
record_pattern further fs R = t.fields_pat further (fs R)

-- two patterns joined
abbrev pub pair_fields : Pair → (p q : Reading → t.Pat) → Reading → t.PatFields
pair_fields w p q R = t.a_pat (Number 1) (R.type w.left) (p R) (t.a_pat (Number 2) (R.type w.right) (q R) t.no_pats)

abbrev pub pair_pattern : Pair → (p q : Reading → t.Pat) → Reading → t.Pat
pair_pattern w p q R = t.fields_pat false (pair_fields w p q R)

abbrev pub joined : Head → Pair → (p q : Reading → t.Pat) → Reading → t.Pat
joined h w p q = behind h w.ty (pair_pattern w p q)

-- a field of the record a, and then a pattern for it
abbrev pub component : Label → (u : ValueType) (a w : ℕ) → (Reading → t.Pat) → Task
component l u a w p = record {
  past = λ v n. past_pat (p v.source) (suc n);
  found = λ v n us. spots (p v.source) (v.source.type w) (suc n) n us;
  made = λ v n rest. selecting u a l (Source w) n v (tests v.scope v.names (p v.source) (v.source.type w) (suc n) n rest);
}

abbrev pub first : Pair → (a : ℕ) → (Reading → t.Pat) → Task
first w a p = component (Number 1) (Source w.ty) a w.left p

abbrev pub second : Pair → (a : ℕ) → (Reading → t.Pat) → Task
second w a q = component (Number 2) (Source w.ty) a w.right q

abbrev pub opened : Pair → (a : ℕ) → (p q : Reading → t.Pat) → Task
opened w a p q = both (first w a p) (second w a q)

-- a chain to the right from its first operand on, and what is left of it once its first pair a is open
abbrev pub right_chain : (Reading → t.Pat) → List PatPart → Reading → t.Pat
right_chain p js R = right_pats (p R) (map (pat_part_of R) js)

abbrev pub right_rest : List PatPart → (a : ℕ) → Task
right_rest [] a = finished
right_rest (j ∷ js) a = second j.pair a (right_chain (pattern j.pat) js)

abbrev pub left_chain : (Reading → t.Pat) → List PatPart → Reading → t.Pat
left_chain p js R = left_pats (p R) (map (pat_part_of R) js)

-- the second operands of pairs that are open, the innermost first
abbrev pub left_rest : List PatPart → (pairs : List ℕ) → Task
left_rest [] as_ = finished
left_rest (j ∷ js) [] = finished
left_rest (j ∷ js) (a ∷ as_) = both (second j.pair a (pattern j.pat)) (left_rest js as_)

-- what is left of a chain once the pairs around its first operand are open
abbrev pub pairs_rest : List PatPart → Pairs → Task
pairs_rest js (pairing.Right a) = right_rest js a
pairs_rest js (pairing.Left as_) = left_rest js (reverse as_.items)

abbrev pub chained : Side → (Reading → t.Pat) → List PatPart → Reading → t.Pat
chained s p js R = chain_pats s (p R) (map (pat_part_of R) js)

-- patterns of one node
abbrev pub variable_pattern : ℕ → Reading → t.Pat
variable_pattern x R = t.variable_pat x

abbrev pub as_pattern : ℕ → (Reading → t.Pat) → Reading → t.Pat
as_pattern x p R = t.as_pat x (p R)

abbrev pub constant_pattern : Constant → Reading → t.Pat
constant_pattern c R = t.constant_pat (literal_at R.strings c)

abbrev pub con_pattern : ℕ → Reading → t.Pat
con_pattern c R = t.con_pat c

abbrev pub exn_pattern : Exception → Reading → t.Pat
exn_pattern x R = t.exn_pat (exc_of x)
