-- How many nodes the bare tree of each declaration has, without its bindings, of the head of a function, and of a clause.
use Rattle.std.proofs.Common.{◌≡◌, ◌≢◌, ℕ, suc, ◌+◌, ◌*◌, List, [], ◌∷◌, length, map, Vec, Global, refl, sym, ap, ◌∙◌, arith}
use Rattle.std.proofs.lemmas.List.Sums.{sum_by-cons}
use Rattle.std.specs.Prelude.{sum_by}
use Rattle.mlc_base.specs.declared.place.Place.{Place}
use Rattle.sml_tree.specs.BareTree as bare
use Rattle.sml_tree.specs.Derived.{Operand, clause_rules, first_pats, fn_for, fresh_for, numbered, one_or_tuple}
use Rattle.sml_tree.specs.Derived as derived
use Rattle.sml_tree.specs.TreeOf.{ExpFieldOf, RuleOf, clause_of, dec_of, decs_of, function_of, pat_of}
use Rattle.sml_tree.specs.TreeOf.{node_dec, node_exp, node_bind, node_clause, node_exp_field, node_function, node_part, node_rule}
use Rattle.sml_tree.specs.declared.tree.Dec.{Dec, Dec-F, fold-roll-Dec}
use Rattle.sml_tree.specs.declared.tree.Dec.TheVariants as decs
use Rattle.sml_tree.specs.declared.tree.Function.{Function, fold_out-Function, out-Function}
use Rattle.sml_tree.specs.declared.tree.Joint.{Joint}
use Rattle.sml_tree.specs.declared.tree.Pat.{Pat}
use Rattle.exp_weights.specs.Nodes.{exp_count, exp_fields_count, outer_count, outer_dec_count, rules_count}
use Rattle.exp_weights.specs.Own.{head_count}
use Rattle.exp_weights.specs.Sums.{dec_nodes, pat_nodes}
use Rattle.exp_weights.proofs.PatNodes.{numbered-count}

-- the heads of functions

function-is : (g : Function) → function_of g ≡ record { place = (out-Function g).place; vid_place = (out-Function g).vid_place; vid = (out-Function g).vid; clauses = map clause_of (out-Function g).clauses.items }
function-is = fold_out-Function bare.Dec bare.Exp RuleOf derived.Clause ExpFieldOf derived.Function (Operand Joint bare.Exp) RuleOf node_dec node_exp node_bind node_clause node_exp_field node_function node_part node_rule

pub parameters-count : (p : Place) (k : ℕ) (as_ : List bare.Pat) (e : bare.Exp) → exp_count (fn_for p k as_ e) ≡ length as_ * 3 + exp_count e
parameters-count p k [] e = omega arith
parameters-count p k (a ∷ as_) e = let h = parameters-count p (suc k) as_ e in omega (arith, h)

fresh-count : (p : Place) (j k : ℕ) (as_ : List bare.Pat) → exp_fields_count (numbered j (fresh_for p k as_)) ≡ length as_
fresh-count p j k [] = refl
fresh-count p j k (a ∷ as_) = let h = fresh-count p (suc j) (suc k) as_ in omega (arith, h)

taken-one : (p : Place) (as_ : List bare.Pat) → length as_ ≡ 1 → exp_count (one_or_tuple p (fresh_for p 1 as_)) ≡ 1
taken-one p [] l = absurd (omega (arith, l))
taken-one p (a ∷ []) l = refl
taken-one p (a ∷ b ∷ as_) l = absurd (omega (arith, l))

taken-many : (p : Place) (as_ : List bare.Pat) → length as_ ≢ 1 → exp_count (one_or_tuple p (fresh_for p 1 as_)) ≡ 1 + length as_
taken-many p [] l = refl
taken-many p (a ∷ []) l = absurd (l refl)
taken-many p (a ∷ b ∷ as_) l = let h = fresh-count p 1 1 (a ∷ b ∷ as_) in omega (arith, h)

pub head-is : (g : derived.Function) → head_count g ≡ 4 + length (first_pats g.clauses) * 3 + exp_count (one_or_tuple g.place (fresh_for g.place 1 (first_pats g.clauses)))
head-is g =
    let on = one_or_tuple g.place (fresh_for g.place 1 (first_pats g.clauses)) in
    let h = parameters-count g.place 1 (first_pats g.clauses) (derived.case_of g.place on bare.no_rules) in omega (arith, h)

count-is : (g : Function) → length (first_pats (function_of g).clauses) ≡ length (first_pats (map clause_of (out-Function g).clauses.items))
count-is g = ap (λ (x : derived.Function). length (first_pats x.clauses)) (function-is g)

pub head-one : (g : Function) → length (first_pats (map clause_of (out-Function g).clauses.items)) ≡ 1 → head_count (function_of g) ≡ 8
head-one g l =
    let n = count-is g ∙ l in let h = head-is (function_of g) in
    let t = taken-one (function_of g).place (first_pats (function_of g).clauses) n in omega (arith, n, h, t)

pub head-many : (g : Function) (n : ℕ) → n ≡ length (first_pats (map clause_of (out-Function g).clauses.items)) → n ≢ 1 → head_count (function_of g) ≡ n * 4 + 5
head-many g n is l =
    let e = count-is g in let h = head-is (function_of g) in
    let t = taken-many (function_of g).place (first_pats (function_of g).clauses) (λ q. l (is ∙ (sym e ∙ q))) in omega (arith, is, e, h, t)

-- declarations

pub outer-sum : (ds : List Dec) → outer_count (decs_of (map dec_of ds)) ≡ sum_by dec_nodes ds
outer-sum [] = refl
outer-sum (d ∷ ds) = let c = sum_by-cons dec_nodes d ds in let h = outer-sum ds in omega (arith, c, h)

pub local-nodes : (p : Place) (ds es : Vec Dec Global) → dec_nodes (decs.Local p ds es) ≡ 1 + (outer_count (decs_of (map dec_of ds.items)) + outer_count (decs_of (map dec_of es.items)))
local-nodes p ds es =
    ap dec_nodes (sym (decs.rolls-Local p ds es)) ∙ ap outer_dec_count (fold-roll-Dec bare.Dec bare.Exp RuleOf derived.Clause ExpFieldOf derived.Function (Operand Joint bare.Exp) RuleOf node_dec node_exp node_bind node_clause node_exp_field node_function node_part node_rule (Dec-F.Local p ds es))

pub declarations-nodes : (p : Place) (ds : Vec Dec Global) → dec_nodes (decs.Declarations p ds) ≡ 1 + outer_count (decs_of (map dec_of ds.items))
declarations-nodes p ds =
    ap dec_nodes (sym (decs.rolls-Declarations p ds)) ∙ ap outer_dec_count (fold-roll-Dec bare.Dec bare.Exp RuleOf derived.Clause ExpFieldOf derived.Function (Operand Joint bare.Exp) RuleOf node_dec node_exp node_bind node_clause node_exp_field node_function node_part node_rule (Dec-F.Declarations p ds))

-- a clause

pub clause-one : (p : Place) (as_ : List Pat) (e : bare.Exp) → length as_ ≡ 1
    → rules_count (clause_rules (record { place = p; pats = map pat_of as_; body = e } ∷ [])) ≡ 1 + (sum_by pat_nodes as_ + exp_count e)
clause-one p [] e l = absurd (omega (arith, l))
clause-one p (a ∷ []) e l = let c = sum_by-cons pat_nodes a [] in omega (arith, c)
clause-one p (a ∷ b ∷ as_) e l = absurd (omega (arith, l))

pub clause-many : (p : Place) (as_ : List Pat) (e : bare.Exp) → length as_ ≢ 1
    → rules_count (clause_rules (record { place = p; pats = map pat_of as_; body = e } ∷ [])) ≡ 2 + (sum_by pat_nodes as_ + exp_count e)
clause-many p [] e l = omega arith
clause-many p (a ∷ []) e l = absurd (l refl)
clause-many p (a ∷ b ∷ as_) e l = let h = numbered-count 1 (a ∷ b ∷ as_) in omega (arith, h)
