-- A declaration's own nodes are those of declarations alone.
use Rattle.std.proofs.Common.{◌≡◌, ◌+◌, List, [], ◌∷◌, map, refl, sym, ap, ap₂, subst, ◌∙◌}
use Rattle.std.specs.Prelude.{⊤}
use Rattle.sml_tree.specs.BareTree as bare
use Rattle.sml_tree.specs.Derived.{Operand}
use Rattle.sml_tree.specs.Derived as derived
use Rattle.sml_tree.specs.TreeOf.{ExpFieldOf, RuleOf, bind_of, clause_of, dec_of, decs_of, exp_field_of, exp_of, function_of, part_of, rule_of}
use Rattle.sml_tree.specs.TreeOf.{node_dec, node_exp, node_bind, node_clause, node_exp_field, node_function, node_part, node_rule}
use Rattle.sml_tree.specs.declared.tree.Bind.{Bind, fold-Bind}
use Rattle.sml_tree.specs.declared.tree.Clause.{Clause, fold-Clause}
use Rattle.sml_tree.specs.declared.tree.Dec.{Dec, Dec-F, fold-roll-Dec}
use Rattle.sml_tree.specs.declared.tree.Dec.TheFolds.{map-Dec, ind-Dec}
use Rattle.sml_tree.specs.declared.tree.Dec.TheViews.{roll-Dec}
use Rattle.sml_tree.specs.declared.tree.Exp.{Exp}
use Rattle.sml_tree.specs.declared.tree.ExpField.{ExpField, fold-ExpField}
use Rattle.sml_tree.specs.declared.tree.Function.{Function, fold-Function}
use Rattle.sml_tree.specs.declared.tree.Joint.{Joint}
use Rattle.sml_tree.specs.declared.tree.Part.{Part, fold-Part}
use Rattle.sml_tree.specs.declared.tree.Rule.{Rule, fold-Rule}
use Rattle.exp_weights.specs.Nodes.{dec_count, decs_count, outer_count, outer_dec_count}
use Rattle.exp_weights.specs.Own.{node_own_dec, node_own_exp, own_dec_of, own_of}

abbrev IsOuter : Dec → Type 0
IsOuter d = dec_count (own_dec_of d) ≡ outer_dec_count (dec_of d)

abbrev D : Type 0
D = (d : Dec) × IsOuter d

abbrev Any : Type 0 → Type 0
Any A = A × ⊤

abbrev Layer : Type 0
Layer = Dec-F D (Any Exp) (Any Bind) (Any Clause) (Any ExpField) (Any Function) (Any Part) (Any Rule)

abbrev down : Layer → Dec-F Dec Exp Bind Clause ExpField Function Part Rule
down y =
    map-Dec D (Any Exp) (Any Bind) (Any Clause) (Any ExpField) (Any Function) (Any Part) (Any Rule) Dec Exp Bind Clause ExpField Function Part Rule
    (λ x. x.0) (λ x. x.0) (λ x. x.0) (λ x. x.0) (λ x. x.0) (λ x. x.0) (λ x. x.0) (λ x. x.0) y

all-outer : (ds : List D) → decs_count (decs_of (map own_dec_of (map (λ d. d.0) ds))) ≡ outer_count (decs_of (map dec_of (map (λ d. d.0) ds)))
all-outer [] = refl
all-outer ((d, h) ∷ ds) = ap₂ (λ n m. n + m) h (all-outer ds)

abbrev own-layer : Dec-F Dec Exp Bind Clause ExpField Function Part Rule → Dec-F bare.Dec bare.Exp RuleOf derived.Clause ExpFieldOf derived.Function (Operand Joint bare.Exp) RuleOf
own-layer =
    map-Dec Dec Exp Bind Clause ExpField Function Part Rule bare.Dec bare.Exp RuleOf derived.Clause ExpFieldOf derived.Function (Operand Joint bare.Exp) RuleOf own_dec_of own_of
    (fold-Bind bare.Dec bare.Exp RuleOf derived.Clause ExpFieldOf derived.Function (Operand Joint bare.Exp) RuleOf node_own_dec node_own_exp node_bind node_clause node_exp_field node_function node_part node_rule)
    (fold-Clause bare.Dec bare.Exp RuleOf derived.Clause ExpFieldOf derived.Function (Operand Joint bare.Exp) RuleOf node_own_dec node_own_exp node_bind node_clause node_exp_field node_function node_part node_rule)
    (fold-ExpField bare.Dec bare.Exp RuleOf derived.Clause ExpFieldOf derived.Function (Operand Joint bare.Exp) RuleOf node_own_dec node_own_exp node_bind node_clause node_exp_field node_function node_part node_rule)
    (fold-Function bare.Dec bare.Exp RuleOf derived.Clause ExpFieldOf derived.Function (Operand Joint bare.Exp) RuleOf node_own_dec node_own_exp node_bind node_clause node_exp_field node_function node_part node_rule)
    (fold-Part bare.Dec bare.Exp RuleOf derived.Clause ExpFieldOf derived.Function (Operand Joint bare.Exp) RuleOf node_own_dec node_own_exp node_bind node_clause node_exp_field node_function node_part node_rule)
    (fold-Rule bare.Dec bare.Exp RuleOf derived.Clause ExpFieldOf derived.Function (Operand Joint bare.Exp) RuleOf node_own_dec node_own_exp node_bind node_clause node_exp_field node_function node_part node_rule)

abbrev layer : Dec-F Dec Exp Bind Clause ExpField Function Part Rule → Dec-F bare.Dec bare.Exp RuleOf derived.Clause ExpFieldOf derived.Function (Operand Joint bare.Exp) RuleOf
layer = map-Dec Dec Exp Bind Clause ExpField Function Part Rule bare.Dec bare.Exp RuleOf derived.Clause ExpFieldOf derived.Function (Operand Joint bare.Exp) RuleOf dec_of exp_of bind_of clause_of exp_field_of function_of part_of rule_of

-- what a layer has in the one tree and in the other, where they have the same
both-roll : (y : Dec-F Dec Exp Bind Clause ExpField Function Part Rule) → dec_count (node_own_dec (own-layer y)) ≡ outer_dec_count (node_dec (layer y)) → IsOuter (roll-Dec y)
both-roll y e =
    ap dec_count (fold-roll-Dec bare.Dec bare.Exp RuleOf derived.Clause ExpFieldOf derived.Function (Operand Joint bare.Exp) RuleOf node_own_dec node_own_exp node_bind node_clause node_exp_field node_function node_part node_rule y)
    ∙ e ∙ sym (ap outer_dec_count (fold-roll-Dec bare.Dec bare.Exp RuleOf derived.Clause ExpFieldOf derived.Function (Operand Joint bare.Exp) RuleOf node_dec node_exp node_bind node_clause node_exp_field node_function node_part node_rule y))

dec-case : (y : Layer) → IsOuter (roll-Dec (down y))
dec-case (Dec-F.Val p as_ bs cs) = both-roll (down (Dec-F.Val p as_ bs cs)) refl
dec-case (Dec-F.Fun p as_ gs) = both-roll (down (Dec-F.Fun p as_ gs)) refl
dec-case (Dec-F.Abbreviation p bs) = both-roll (down (Dec-F.Abbreviation p bs)) refl
dec-case (Dec-F.Datatype p bs) = both-roll (down (Dec-F.Datatype p bs)) refl
dec-case (Dec-F.Withtype p ds bs) = both-roll (down (Dec-F.Withtype p ds bs)) refl
dec-case (Dec-F.Replicate p x c) = both-roll (down (Dec-F.Replicate p x c)) refl
dec-case (Dec-F.Exception p bs) = both-roll (down (Dec-F.Exception p bs)) refl
dec-case (Dec-F.Local p ds es) =
    both-roll (down (Dec-F.Local p ds es)) (ap₂ (λ n m. 1 + (n + m)) (all-outer ds.items) (all-outer es.items))
dec-case (Dec-F.Open p xs) = both-roll (down (Dec-F.Open p xs)) refl
dec-case (Dec-F.Declarations p ds) =
    both-roll (down (Dec-F.Declarations p ds)) (ap (λ n. 1 + n) (all-outer ds.items))

pub own-is-outer : (d : Dec) → dec_count (own_dec_of d) ≡ outer_dec_count (dec_of d)
own-is-outer =
    ind-Dec IsOuter (λ e. ⊤) (λ b. ⊤) (λ c. ⊤) (λ f. ⊤) (λ g. ⊤) (λ o. ⊤) (λ r. ⊤)
    (λ x y is. subst (λ x. IsOuter (roll-Dec x)) is (dec-case y))
    (λ x y is. tt) (λ x y is. tt) (λ x y is. tt) (λ x y is. tt) (λ x y is. tt) (λ x y is. tt) (λ x y is. tt)

pub decs-own : (ds : List Dec) → decs_count (decs_of (map own_dec_of ds)) ≡ outer_count (decs_of (map dec_of ds))
decs-own [] = refl
decs-own (d ∷ ds) = ap₂ (λ n m. n + m) (own-is-outer d) (decs-own ds)
