-- How many nodes the bare tree of each expression has, without those that have counts of their own.
use Rattle.std.proofs.Common.{◌≡◌, ℕ, suc, ◌+◌, ◌*◌, Bool, true, false, List, [], ◌∷◌, length, map, Vec, Box, Global, refl, sym, ap, ◌∙◌, arith}
use Rattle.std.proofs.lemmas.List.Sums.{sum_by-cons}
use Rattle.std.specs.Prelude.{sum_by}
use Rattle.mlc_base.specs.declared.place.Place.{Place}
use Rattle.sml_tree.specs.BareTree as bare
use Rattle.sml_tree.specs.Derived.{Operand, app_of, chain_of, join, left_chain, list_of, numbered, right_chain, sequence_of}
use Rattle.sml_tree.specs.Derived as derived
use Rattle.sml_tree.specs.TreeOf.{ExpFieldOf, RuleOf, dec_of, decs_of, exp_fields_of, node_bind, node_clause, node_exp_field, node_function, node_part, node_rule}
use Rattle.sml_tree.specs.declared.tree.Dec.{Dec}
use Rattle.sml_tree.specs.declared.tree.Exp.{Exp, Exp-F, fold-roll-Exp}
use Rattle.sml_tree.specs.declared.tree.Exp.TheVariants as exps
use Rattle.sml_tree.specs.declared.tree.ExpField.{ExpField, fold-ExpField, fold_out-ExpField}
use Rattle.sml_tree.specs.declared.tree.Joint.{Joint}
use Rattle.sml_tree.specs.declared.tree.Joint.TheVariants.{AndAlso, OrElse, Infix}
use Rattle.sml_tree.specs.declared.tree.Part.{Part, fold-Part, fold_out-Part}
use Rattle.exp_weights.specs.Nodes.{exp_count, exp_fields_count, outer_count}
use Rattle.exp_weights.specs.Own.{node_own_dec, node_own_exp, own_of}
use Rattle.exp_weights.specs.Sums.{exp_field_nodes, exp_nodes, joint_nodes, part_nodes}
use Rattle.exp_weights.proofs.OwnDecs.{decs-own}

-- the parts of lists

abbrev field_of : ExpField → ExpFieldOf
field_of = fold-ExpField bare.Dec bare.Exp RuleOf derived.Clause ExpFieldOf derived.Function (Operand Joint bare.Exp) RuleOf node_own_dec node_own_exp node_bind node_clause node_exp_field node_function node_part node_rule

abbrev part_of : Part → Operand Joint bare.Exp
part_of = fold-Part bare.Dec bare.Exp RuleOf derived.Clause ExpFieldOf derived.Function (Operand Joint bare.Exp) RuleOf node_own_dec node_own_exp node_bind node_clause node_exp_field node_function node_part node_rule

field-is : (f : ExpField) → (field_of f).exp ≡ own_of f.exp
field-is f = ap (λ (x : ExpFieldOf). x.exp) (fold_out-ExpField bare.Dec bare.Exp RuleOf derived.Clause ExpFieldOf derived.Function (Operand Joint bare.Exp) RuleOf node_own_dec node_own_exp node_bind node_clause node_exp_field node_function node_part node_rule f)

part-is : (o : Part) → (part_of o).operand ≡ own_of o.exp
part-is o = ap (λ (x : Operand Joint bare.Exp). x.operand) (fold_out-Part bare.Dec bare.Exp RuleOf derived.Clause ExpFieldOf derived.Function (Operand Joint bare.Exp) RuleOf node_own_dec node_own_exp node_bind node_clause node_exp_field node_function node_part node_rule o)

part-joint : (o : Part) → (part_of o).joint ≡ o.joint
part-joint o = ap (λ (x : Operand Joint bare.Exp). x.joint) (fold_out-Part bare.Dec bare.Exp RuleOf derived.Clause ExpFieldOf derived.Function (Operand Joint bare.Exp) RuleOf node_own_dec node_own_exp node_bind node_clause node_exp_field node_function node_part node_rule o)

fields-count : (fs : List ExpField) → exp_fields_count (exp_fields_of (map field_of fs)) ≡ sum_by exp_field_nodes fs
fields-count [] = refl
fields-count (f ∷ fs) = let c = sum_by-cons exp_field_nodes f fs in let h = fields-count fs in let e = ap exp_count (field-is f) in omega (arith, c, h, e)

numbered-count : (k : ℕ) (es : List Exp) → exp_fields_count (numbered k (map own_of es)) ≡ sum_by exp_nodes es
numbered-count k [] = refl
numbered-count k (e ∷ es) = let c = sum_by-cons exp_nodes e es in let h = numbered-count (suc k) es in omega (arith, c, h)

elements-count : (p : Place) (es : List Exp) → exp_count (list_of p (map own_of es)) ≡ sum_by exp_nodes es + length es * 3 + 1
elements-count p [] = refl
elements-count p (e ∷ es) = let c = sum_by-cons exp_nodes e es in let h = elements-count p es in omega (arith, c, h)

series-count : (p : Place) (e : bare.Exp) (es : List Exp) → exp_count (sequence_of p e (map own_of es)) ≡ exp_count e + sum_by exp_nodes es + length es * 4
series-count p e [] = omega arith
series-count p e (f ∷ fs) = let c = sum_by-cons exp_nodes f fs in let h = series-count p (own_of f) fs in omega (arith, c, h)

arguments-count : (p : Place) (e : bare.Exp) (es : List Exp) → exp_count (app_of p e (map own_of es)) ≡ exp_count e + sum_by exp_nodes es + length es
arguments-count p e [] = omega arith
arguments-count p e (a ∷ as_) = let c = sum_by-cons exp_nodes a as_ in let h = arguments-count p (bare.app p e (own_of a)) as_ in omega (arith, c, h)

pub join-count : (j : Joint) (p : Place) (a b : bare.Exp) → exp_count (join j p a b) ≡ exp_count a + (exp_count b + joint_nodes j)
join-count AndAlso p a b = omega arith
join-count OrElse p a b = omega arith
join-count (Infix q v) p a b = omega arith

operand-count : (o : Part) (p : Place) (a : bare.Exp) → exp_count (join (part_of o).joint p a (part_of o).operand) ≡ exp_count a + part_nodes o
operand-count o p a =
    let h = join-count (part_of o).joint p a (part_of o).operand in let e = ap exp_count (part-is o) in let j = ap joint_nodes (part-joint o) in omega (arith, h, e, j)

left-count : (p : Place) (a : bare.Exp) (os : List Part) → exp_count (left_chain join p a (map part_of os)) ≡ exp_count a + sum_by part_nodes os
left-count p a [] = omega arith
left-count p a (o ∷ os) =
    let c = sum_by-cons part_nodes o os in let e = operand-count o p a in
    let h = left-count p (join (part_of o).joint p a (part_of o).operand) os in omega (arith, c, h, e)

right-count : (p : Place) (a : bare.Exp) (os : List Part) → exp_count (right_chain join p a (map part_of os)) ≡ exp_count a + sum_by part_nodes os
right-count p a [] = omega arith
right-count p a (o ∷ os) =
    let c = sum_by-cons part_nodes o os in let e = ap exp_count (part-is o) in let j = ap joint_nodes (part-joint o) in
    let b = right_chain join (part_of o).place (part_of o).operand (map part_of os) in let k = join-count (part_of o).joint p a b in
    let h = right-count (part_of o).place (part_of o).operand os in omega (arith, c, h, e, j, k)

chain-count : (r : Bool) (p : Place) (a : bare.Exp) (os : List Part) → exp_count (chain_of join r p a (map part_of os)) ≡ exp_count a + sum_by part_nodes os
chain-count true p a os = right-count p a os
chain-count false p a os = left-count p a os

-- the nodes

pub record-nodes : (p : Place) (fs : Vec ExpField Global) → exp_nodes (exps.Record p fs) ≡ sum_by exp_field_nodes fs.items + 1
record-nodes p fs =
    let e = ap exp_nodes (sym (exps.rolls-Record p fs)) ∙ ap exp_count (fold-roll-Exp bare.Dec bare.Exp RuleOf derived.Clause ExpFieldOf derived.Function (Operand Joint bare.Exp) RuleOf node_own_dec node_own_exp node_bind node_clause node_exp_field node_function node_part node_rule (Exp-F.Record p fs)) in
    let h = fields-count fs.items in omega (arith, e, h)

pub tuple-nodes : (p : Place) (es : Vec Exp Global) → exp_nodes (exps.Tuple p es) ≡ sum_by exp_nodes es.items + 1
tuple-nodes p es =
    let e = ap exp_nodes (sym (exps.rolls-Tuple p es)) ∙ ap exp_count (fold-roll-Exp bare.Dec bare.Exp RuleOf derived.Clause ExpFieldOf derived.Function (Operand Joint bare.Exp) RuleOf node_own_dec node_own_exp node_bind node_clause node_exp_field node_function node_part node_rule (Exp-F.Tuple p es)) in
    let h = numbered-count 1 es.items in omega (arith, e, h)

pub list-nodes : (p : Place) (es : Vec Exp Global) → exp_nodes (exps.List p es) ≡ sum_by exp_nodes es.items + length es.items * 3 + 1
list-nodes p es = ap exp_nodes (sym (exps.rolls-List p es)) ∙ (ap exp_count (fold-roll-Exp bare.Dec bare.Exp RuleOf derived.Clause ExpFieldOf derived.Function (Operand Joint bare.Exp) RuleOf node_own_dec node_own_exp node_bind node_clause node_exp_field node_function node_part node_rule (Exp-F.List p es)) ∙ elements-count p es.items)

pub sequence-nodes : (p : Place) (e : Box Exp Global) (es : Vec Exp Global) → exp_nodes (exps.Sequence p e es) ≡ exp_nodes e.value + sum_by exp_nodes es.items + length es.items * 4
sequence-nodes p e es =
    ap exp_nodes (sym (exps.rolls-Sequence p e es)) ∙ (ap exp_count (fold-roll-Exp bare.Dec bare.Exp RuleOf derived.Clause ExpFieldOf derived.Function (Operand Joint bare.Exp) RuleOf node_own_dec node_own_exp node_bind node_clause node_exp_field node_function node_part node_rule (Exp-F.Sequence p e es)) ∙ series-count p (own_of e.value) es.items)

pub let-nodes : (p : Place) (ds : Vec Dec Global) (e : Box Exp Global) → exp_nodes (exps.Let p ds e) ≡ outer_count (decs_of (map dec_of ds.items)) + exp_nodes e.value + 1
let-nodes p ds b =
    let e = ap exp_nodes (sym (exps.rolls-Let p ds b)) ∙ ap exp_count (fold-roll-Exp bare.Dec bare.Exp RuleOf derived.Clause ExpFieldOf derived.Function (Operand Joint bare.Exp) RuleOf node_own_dec node_own_exp node_bind node_clause node_exp_field node_function node_part node_rule (Exp-F.Let p ds b)) in
    let h = decs-own ds.items in omega (arith, e, h)

pub apply-nodes : (p : Place) (e : Box Exp Global) (es : Vec Exp Global) → exp_nodes (exps.Apply p e es) ≡ exp_nodes e.value + sum_by exp_nodes es.items + length es.items
apply-nodes p e es =
    ap exp_nodes (sym (exps.rolls-Apply p e es)) ∙ (ap exp_count (fold-roll-Exp bare.Dec bare.Exp RuleOf derived.Clause ExpFieldOf derived.Function (Operand Joint bare.Exp) RuleOf node_own_dec node_own_exp node_bind node_clause node_exp_field node_function node_part node_rule (Exp-F.Apply p e es)) ∙ arguments-count p (own_of e.value) es.items)

pub chain-nodes : (p : Place) (r : Bool) (e : Box Exp Global) (os : Vec Part Global) → exp_nodes (exps.Chain p r e os) ≡ exp_nodes e.value + sum_by part_nodes os.items
chain-nodes p r e os =
    ap exp_nodes (sym (exps.rolls-Chain p r e os)) ∙ (ap exp_count (fold-roll-Exp bare.Dec bare.Exp RuleOf derived.Clause ExpFieldOf derived.Function (Operand Joint bare.Exp) RuleOf node_own_dec node_own_exp node_bind node_clause node_exp_field node_function node_part node_rule (Exp-F.Chain p r e os)) ∙ chain-count r p (own_of e.value) os.items)
