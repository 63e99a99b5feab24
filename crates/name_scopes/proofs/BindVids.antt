-- The identifiers that the code's bindings and functions bind.
use Rattle.std.proofs.Common.{◌≡◌, Bool, true, false, List, [], ◌∷◌, ◌++◌, length, map, Vec, Box, Global, refl, ap, ap₂, ◌∙◌}
use Rattle.std.specs.Prelude.{flat_map}
use Rattle.mlc_base.specs.declared.place.Place.{Place}
use Rattle.sml_tree.specs.BareTree as bare
use Rattle.sml_tree.specs.Derived.{Operand, chain_of, function_binds, join_pats, left_chain, list_pat_of, VidAt}
use Rattle.sml_tree.specs.Derived as derived
use Rattle.sml_tree.specs.TreeOf.{ExpFieldOf, RuleOf, bind_of, binds_of, clause_of, exp_of, function_of, pat_of, pat_part_of}
use Rattle.sml_tree.specs.TreeOf.{node_bind, node_clause, node_dec, node_exp, node_exp_field, node_function, node_part, node_rule}
use Rattle.sml_tree.specs.declared.ident.Vid.{Vid}
use Rattle.sml_tree.specs.declared.tree.Bind.{Bind, fold_out-Bind}
use Rattle.sml_tree.specs.declared.tree.Function.{Function, fold_out-Function, out-Function}
use Rattle.sml_tree.specs.declared.tree.Joint.{Joint}
use Rattle.sml_tree.specs.declared.tree.Pat.{Pat}
use Rattle.sml_tree.specs.declared.tree.Pat.TheVariants as pats
use Rattle.sml_tree.specs.declared.tree.PatPart.{PatPart}
use Rattle.core_rules.specs.Values.{Env}
use Rattle.name_scopes.specs.Patterns.{binds_vids, chain_vids, each_vids, pat_vids, rec_vids}
use Rattle.name_scopes.proofs.PatForms.{chain-is, list-is}

pub bind-is : (b : Bind) → bind_of b ≡ record { place = b.place; pat = pat_of b.pat; exp = exp_of b.exp }
bind-is b =
    fold_out-Bind bare.Dec bare.Exp RuleOf derived.Clause ExpFieldOf derived.Function (Operand Joint bare.Exp) RuleOf
    node_dec node_exp node_bind node_clause node_exp_field node_function node_part node_rule b

pub function-is : (g : Function) → function_of g ≡ record {
  place = (out-Function g).place;
  vid_place = (out-Function g).vid_place;
  vid = (out-Function g).vid;
  clauses = map clause_of (out-Function g).clauses.items;
}
function-is g =
    fold_out-Function bare.Dec bare.Exp RuleOf derived.Clause ExpFieldOf derived.Function (Operand Joint bare.Exp) RuleOf
    node_dec node_exp node_bind node_clause node_exp_field node_function node_part node_rule g

pub binds-have : (e : Env) (bs : List Bind) → binds_vids e (binds_of (map bind_of bs)) ≡ flat_map (λ b. pat_vids e (pat_of b.pat)) bs
binds-have e [] = refl
binds-have e (b ∷ bs) = ap₂ (λ x y. x ++ y) (ap (λ (r : RuleOf). pat_vids e r.pat) (bind-is b)) (binds-have e bs)

pub recs-have : (bs : List Bind) → rec_vids (binds_of (map bind_of bs)) ≡ flat_map (λ b. each_vids (pat_of b.pat)) bs
recs-have [] = refl
recs-have (b ∷ bs) = ap₂ (λ x y. x ++ y) (ap (λ (r : RuleOf). each_vids r.pat) (bind-is b)) (recs-have bs)

pub functions-have : (gs : List Function) → rec_vids (function_binds (map function_of gs)) ≡ map (λ g. (out-Function g).vid) gs
functions-have [] = refl
functions-have (g ∷ gs) = ap₂ (λ x y. x ∷ y) (ap (λ (r : derived.Function). r.vid) (function-is g)) (functions-have gs)

-- what each node of a recursive binding's pattern binds

list-none : (q : Place) (as_ : List bare.Pat) → each_vids (list_pat_of q as_) ≡ []
list-none q [] = refl
list-none q (a ∷ as_) = refl

pub each-List : (x : Pat) (q : Place) (as_ : Vec Pat Global) → x ≡ pats.List q as_ → each_vids (pat_of x) ≡ []
each-List x q as_ s = ap each_vids (list-is x q as_ s) ∙ list-none q (map pat_of as_.items)

left-none : (q : Place) (a : bare.Pat) (bs : List (Operand VidAt bare.Pat)) → each_vids a ≡ [] → each_vids (left_chain join_pats q a bs) ≡ []
left-none q a [] h = h
left-none q a (b ∷ bs) h = left-none q (join_pats b.joint q a b.operand) bs refl

chain-each : (r : Bool) (q : Place) (a : bare.Pat) (os : List PatPart) → each_vids (chain_of join_pats r q a (map pat_part_of os)) ≡ chain_vids (each_vids a) os
chain-each true q a [] = refl
chain-each true q a (o ∷ os) = refl
chain-each false q a [] = refl
chain-each false q a (o ∷ os) = left-none q (join_pats (pat_part_of o).joint q a (pat_part_of o).operand) (map pat_part_of os) refl

pub each-Chain : (x : Pat) (q : Place) (r : Bool) (a : Box Pat Global) (os : Vec PatPart Global) → x ≡ pats.Chain q r a os
    → each_vids (pat_of x) ≡ chain_vids (each_vids (pat_of a.value)) os.items
each-Chain x q r a os s = ap each_vids (chain-is x q r a os s) ∙ chain-each r q (pat_of a.value) os.items

-- one of more operands
pub each-Chain-more : (x : Pat) (q : Place) (r : Bool) (a : Box Pat Global) (os : Vec PatPart Global) → x ≡ pats.Chain q r a os
    → (length os.items ≡ 0 → ⊥) → each_vids (pat_of x) ≡ []
each-Chain-more x q r a os s n = each-Chain x q r a os s ∙ more (each_vids (pat_of a.value)) os.items n
  where
    more : (vs : List Vid) (os : List PatPart) → (length os ≡ 0 → ⊥) → chain_vids vs os ≡ []
    more vs [] n = absurd (n refl)
    more vs (o ∷ os) n = refl
