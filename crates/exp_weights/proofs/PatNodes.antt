-- How many nodes the bare tree of each pattern has.
use Rattle.std.proofs.Common.{◌≡◌, ℕ, suc, ◌+◌, ◌*◌, Bool, true, false, List, [], ◌∷◌, length, map, Vec, Box, Global, refl, sym, ap, ◌∙◌, arith}
use Rattle.std.proofs.lemmas.List.Sums.{sum_by-cons}
use Rattle.std.specs.Prelude.{sum_by}
use Rattle.mlc_base.specs.declared.place.Place.{Place}
use Rattle.sml_tree.specs.BareTree as bare
use Rattle.sml_tree.specs.Derived.{Operand, VidAt, join_pats, numbered_pats, list_pat_of, left_chain, right_chain, chain_of}
use Rattle.sml_tree.specs.TreeOf.{PatFieldOf, node_pat, node_pat_field, node_pat_part, pat_of, pat_field_of, pat_part_of, pat_fields_of}
use Rattle.sml_tree.specs.declared.tree.Pat.{Pat, Pat-F, fold-roll-Pat}
use Rattle.sml_tree.specs.declared.tree.Pat.TheVariants as pats
use Rattle.sml_tree.specs.declared.tree.PatField.{PatField, fold_out-PatField}
use Rattle.sml_tree.specs.declared.tree.PatPart.{PatPart, fold_out-PatPart}
use Rattle.exp_weights.specs.Nodes.{pat_count, pat_fields_count}
use Rattle.exp_weights.specs.Sums.{pat_field_nodes, pat_nodes, pat_part_nodes}

-- the parts of lists

field-is : (f : PatField) → (pat_field_of f).pat ≡ pat_of f.pat
field-is f = ap (λ (x : PatFieldOf). x.pat) (fold_out-PatField bare.Pat PatFieldOf (Operand VidAt bare.Pat) node_pat node_pat_field node_pat_part f)

part-is : (o : PatPart) → (pat_part_of o).operand ≡ pat_of o.pat
part-is o = ap (λ (x : Operand VidAt bare.Pat). x.operand) (fold_out-PatPart bare.Pat PatFieldOf (Operand VidAt bare.Pat) node_pat node_pat_field node_pat_part o)

fields-count : (fs : List PatField) → pat_fields_count (pat_fields_of (map pat_field_of fs)) ≡ sum_by pat_field_nodes fs
fields-count [] = refl
fields-count (f ∷ fs) = let c = sum_by-cons pat_field_nodes f fs in let h = fields-count fs in let e = ap pat_count (field-is f) in omega (arith, c, h, e)

pub numbered-count : (k : ℕ) (as_ : List Pat) → pat_fields_count (numbered_pats k (map pat_of as_)) ≡ sum_by pat_nodes as_
numbered-count k [] = refl
numbered-count k (a ∷ as_) = let c = sum_by-cons pat_nodes a as_ in let h = numbered-count (suc k) as_ in omega (arith, c, h)

elements-count : (p : Place) (as_ : List Pat) → pat_count (list_pat_of p (map pat_of as_)) ≡ sum_by pat_nodes as_ + length as_ * 2 + 1
elements-count p [] = refl
elements-count p (a ∷ as_) = let c = sum_by-cons pat_nodes a as_ in let h = elements-count p as_ in omega (arith, c, h)

left-count : (p : Place) (a : bare.Pat) (os : List PatPart) → pat_count (left_chain join_pats p a (map pat_part_of os)) ≡ pat_count a + sum_by pat_part_nodes os
left-count p a [] = omega arith
left-count p a (o ∷ os) =
    let c = sum_by-cons pat_part_nodes o os in let e = ap pat_count (part-is o) in
    let h = left-count p (join_pats (pat_part_of o).joint p a (pat_part_of o).operand) os in omega (arith, c, h, e)

right-count : (p : Place) (a : bare.Pat) (os : List PatPart) → pat_count (right_chain join_pats p a (map pat_part_of os)) ≡ pat_count a + sum_by pat_part_nodes os
right-count p a [] = omega arith
right-count p a (o ∷ os) =
    let c = sum_by-cons pat_part_nodes o os in let e = ap pat_count (part-is o) in
    let h = right-count (pat_part_of o).place (pat_part_of o).operand os in omega (arith, c, h, e)

chain-count : (r : Bool) (p : Place) (a : bare.Pat) (os : List PatPart) → pat_count (chain_of join_pats r p a (map pat_part_of os)) ≡ pat_count a + sum_by pat_part_nodes os
chain-count true p a os = right-count p a os
chain-count false p a os = left-count p a os

-- the nodes

abbrev parts : Type 0
parts = Operand VidAt bare.Pat

pub record-nodes : (p : Place) (fs : Vec PatField Global) (b : Bool) → pat_nodes (pats.Record p fs b) ≡ sum_by pat_field_nodes fs.items + 1
record-nodes p fs b =
    let e = ap pat_nodes (sym (pats.rolls-Record p fs b)) ∙ ap pat_count (fold-roll-Pat bare.Pat PatFieldOf parts node_pat node_pat_field node_pat_part (Pat-F.Record p fs b)) in
    let h = fields-count fs.items in omega (arith, e, h)

pub tuple-nodes : (p : Place) (as_ : Vec Pat Global) → pat_nodes (pats.Tuple p as_) ≡ sum_by pat_nodes as_.items + 1
tuple-nodes p as_ =
    let e = ap pat_nodes (sym (pats.rolls-Tuple p as_)) ∙ ap pat_count (fold-roll-Pat bare.Pat PatFieldOf parts node_pat node_pat_field node_pat_part (Pat-F.Tuple p as_)) in
    let h = numbered-count 1 as_.items in omega (arith, e, h)

pub list-nodes : (p : Place) (as_ : Vec Pat Global) → pat_nodes (pats.List p as_) ≡ sum_by pat_nodes as_.items + length as_.items * 2 + 1
list-nodes p as_ =
    ap pat_nodes (sym (pats.rolls-List p as_)) ∙ (ap pat_count (fold-roll-Pat bare.Pat PatFieldOf parts node_pat node_pat_field node_pat_part (Pat-F.List p as_))
    ∙ elements-count p as_.items)

pub chain-nodes : (p : Place) (r : Bool) (a : Box Pat Global) (os : Vec PatPart Global) → pat_nodes (pats.Chain p r a os) ≡ pat_nodes a.value + sum_by pat_part_nodes os.items
chain-nodes p r a os =
    ap pat_nodes (sym (pats.rolls-Chain p r a os)) ∙ (ap pat_count (fold-roll-Pat bare.Pat PatFieldOf parts node_pat node_pat_field node_pat_part (Pat-F.Chain p r a os))
    ∙ chain-count r p (pat_of a.value) os.items)
