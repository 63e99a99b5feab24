-- All nodes of a phrase are its own and those that have counts inside it.
use Rattle.std.proofs.Common.{◌≡◌, ℕ, suc, ◌+◌, Bool, true, false, List, [], ◌∷◌, length, map, sum, refl, sym, ap, ap₂, subst, ◌∙◌, arith}
use Rattle.std.proofs.lemmas.List.Sums.{sum_by-cons}
use Rattle.mlc_base.specs.declared.place.Place.{Place}
use Rattle.sml_tree.specs.BareTree as bare
use Rattle.sml_tree.specs.Derived.{Operand, app_of, chain_of, clause_rules, first_pats, fresh_for, fun_of, function_binds, join, left_chain, list_of, numbered, one_or_tuple, right_chain, sequence_of}
use Rattle.sml_tree.specs.Derived as derived
use Rattle.sml_tree.specs.TreeOf.{ExpFieldOf, RuleOf, bind_of, binds_of, clause_of, dec_of, decs_of, exp_field_of, exp_fields_of, exp_of, function_of, part_of, rule_of, rules_of, ty_of}
use Rattle.sml_tree.specs.TreeOf.{node_dec, node_exp, node_bind, node_clause, node_exp_field, node_function, node_part, node_rule}
use Rattle.sml_tree.specs.declared.tree.Dec.{Dec, Dec-F, fold-roll-Dec}
use Rattle.sml_tree.specs.declared.tree.Exp.{Exp, Exp-F, fold-roll-Exp}
use Rattle.sml_tree.specs.declared.tree.Bind.{Bind, Bind-F, fold-Bind, fold-roll-Bind}
use Rattle.sml_tree.specs.declared.tree.Clause.{Clause, Clause-F, fold-Clause, fold-roll-Clause}
use Rattle.sml_tree.specs.declared.tree.ExpField.{ExpField, ExpField-F, fold-ExpField, fold-roll-ExpField}
use Rattle.sml_tree.specs.declared.tree.Function.{Function, Function-F, fold-Function, fold-roll-Function}
use Rattle.sml_tree.specs.declared.tree.Part.{Part, Part-F, fold-Part, fold-roll-Part}
use Rattle.sml_tree.specs.declared.tree.Rule.{Rule, Rule-F, fold-Rule, fold-roll-Rule}
use Rattle.sml_tree.specs.declared.tree.Dec.TheFolds.{map-Dec, map-Exp, map-Bind, map-Clause, map-ExpField, map-Function, map-Part, map-Rule, ind-Dec, ind-Exp}
use Rattle.sml_tree.specs.declared.tree.Dec.TheViews.{roll-Dec, roll-Exp, roll-Bind, roll-Clause, roll-ExpField, roll-Function, roll-Part, roll-Rule}
use Rattle.sml_tree.specs.declared.tree.Joint.{Joint}
use Rattle.exp_weights.specs.Nodes.{binds_count, bound_count, dec_count, decs_count, exp_count, exp_fields_count, rules_count}
use Rattle.exp_weights.specs.Own.{node_own_dec, node_own_exp, own_dec_of, own_of}
use Rattle.exp_weights.specs.Sums.{joint_nodes}
use Rattle.exp_weights.specs.Whole.{Within, CountsAreWhole, owned, total, insides, bound_counts, clause_counts, function_counts, headed, within, dec_within}
use Rattle.exp_weights.specs.Whole.{node_within_dec, node_within_exp, node_within_bind, node_within_clause, node_within_exp_field, node_within_function, node_within_part, node_within_rule}
use Rattle.exp_weights.proofs.DecNodes.{head-is, parameters-count}
use Rattle.exp_weights.proofs.ExpNodes.{join-count}
use Rattle.exp_weights.proofs.OwnDecs.{own-is-outer}

-- the trees of each kind of phrase

abbrev own_bind : Bind → RuleOf
own_bind = fold-Bind bare.Dec bare.Exp RuleOf derived.Clause ExpFieldOf derived.Function (Operand Joint bare.Exp) RuleOf node_own_dec node_own_exp node_bind node_clause node_exp_field node_function node_part node_rule

abbrev bind_within : Bind → Within RuleOf
bind_within = fold-Bind (Within bare.Dec) (Within bare.Exp) (Within RuleOf) (Within derived.Clause) (Within ExpFieldOf) (Within derived.Function) (Within (Operand Joint bare.Exp)) (Within RuleOf) node_within_dec node_within_exp node_within_bind node_within_clause node_within_exp_field node_within_function node_within_part node_within_rule

abbrev own_clause : Clause → derived.Clause
own_clause = fold-Clause bare.Dec bare.Exp RuleOf derived.Clause ExpFieldOf derived.Function (Operand Joint bare.Exp) RuleOf node_own_dec node_own_exp node_bind node_clause node_exp_field node_function node_part node_rule

abbrev clause_within : Clause → Within derived.Clause
clause_within = fold-Clause (Within bare.Dec) (Within bare.Exp) (Within RuleOf) (Within derived.Clause) (Within ExpFieldOf) (Within derived.Function) (Within (Operand Joint bare.Exp)) (Within RuleOf) node_within_dec node_within_exp node_within_bind node_within_clause node_within_exp_field node_within_function node_within_part node_within_rule

abbrev own_field : ExpField → ExpFieldOf
own_field = fold-ExpField bare.Dec bare.Exp RuleOf derived.Clause ExpFieldOf derived.Function (Operand Joint bare.Exp) RuleOf node_own_dec node_own_exp node_bind node_clause node_exp_field node_function node_part node_rule

abbrev field_within : ExpField → Within ExpFieldOf
field_within = fold-ExpField (Within bare.Dec) (Within bare.Exp) (Within RuleOf) (Within derived.Clause) (Within ExpFieldOf) (Within derived.Function) (Within (Operand Joint bare.Exp)) (Within RuleOf) node_within_dec node_within_exp node_within_bind node_within_clause node_within_exp_field node_within_function node_within_part node_within_rule

abbrev own_function : Function → derived.Function
own_function = fold-Function bare.Dec bare.Exp RuleOf derived.Clause ExpFieldOf derived.Function (Operand Joint bare.Exp) RuleOf node_own_dec node_own_exp node_bind node_clause node_exp_field node_function node_part node_rule

abbrev function_within : Function → Within derived.Function
function_within = fold-Function (Within bare.Dec) (Within bare.Exp) (Within RuleOf) (Within derived.Clause) (Within ExpFieldOf) (Within derived.Function) (Within (Operand Joint bare.Exp)) (Within RuleOf) node_within_dec node_within_exp node_within_bind node_within_clause node_within_exp_field node_within_function node_within_part node_within_rule

abbrev own_part : Part → (Operand Joint bare.Exp)
own_part = fold-Part bare.Dec bare.Exp RuleOf derived.Clause ExpFieldOf derived.Function (Operand Joint bare.Exp) RuleOf node_own_dec node_own_exp node_bind node_clause node_exp_field node_function node_part node_rule

abbrev part_within : Part → Within (Operand Joint bare.Exp)
part_within = fold-Part (Within bare.Dec) (Within bare.Exp) (Within RuleOf) (Within derived.Clause) (Within ExpFieldOf) (Within derived.Function) (Within (Operand Joint bare.Exp)) (Within RuleOf) node_within_dec node_within_exp node_within_bind node_within_clause node_within_exp_field node_within_function node_within_part node_within_rule

abbrev own_rule : Rule → RuleOf
own_rule = fold-Rule bare.Dec bare.Exp RuleOf derived.Clause ExpFieldOf derived.Function (Operand Joint bare.Exp) RuleOf node_own_dec node_own_exp node_bind node_clause node_exp_field node_function node_part node_rule

abbrev rule_within : Rule → Within RuleOf
rule_within = fold-Rule (Within bare.Dec) (Within bare.Exp) (Within RuleOf) (Within derived.Clause) (Within ExpFieldOf) (Within derived.Function) (Within (Operand Joint bare.Exp)) (Within RuleOf) node_within_dec node_within_exp node_within_bind node_within_clause node_within_exp_field node_within_function node_within_part node_within_rule

-- what is shown of each

record WholeExp (full : bare.Exp) (w : Within bare.Exp) (own : bare.Exp) : Type 0 where
  same : w.own ≡ own
  law : exp_count full ≡ exp_count w.own + w.inside

record WholeDec (full : bare.Dec) (w : Within bare.Dec) (own : bare.Dec) : Type 0 where
  same : w.own ≡ own
  law : dec_count full ≡ dec_count w.own + w.inside

record WholeField (full : ExpFieldOf) (w : Within ExpFieldOf) (own : ExpFieldOf) : Type 0 where
  same : w.own ≡ own
  law : exp_count full.exp ≡ exp_count w.own.exp + w.inside

record WholePart (full : Operand Joint bare.Exp) (w : Within (Operand Joint bare.Exp)) (own : Operand Joint bare.Exp) : Type 0 where
  same : w.own ≡ own
  joint : full.joint ≡ w.own.joint
  law : exp_count full.operand ≡ exp_count w.own.operand + w.inside

abbrev WholeRule : RuleOf → Within RuleOf → RuleOf → Type 0
WholeRule full w own = bound_count full.pat full.exp ≡ bound_counts w

record WholeClause (full : derived.Clause) (w : Within derived.Clause) (own : derived.Clause) : Type 0 where
  pats : full.pats ≡ w.own.pats
  law : rules_count (clause_rules (full ∷ [])) ≡ clause_counts w

abbrev WholeFunction : derived.Function → Within derived.Function → derived.Function → Type 0
WholeFunction full w own = bound_count (bare.vid_pat full.vid_place (derived.short full.vid)) (fun_of full.place full.clauses) ≡ function_counts w

move : {A B C : Type 0} (P : A → B → C → Type 0) (f f' : A) (w w' : B) (o o' : C) → f ≡ f' → w ≡ w' → o ≡ o' → P f' w' o' → P f w o
move P f f' w w' o o' e g h p = subst (λ x. P x w o) (sym e) (subst (λ x. P f' x o) (sym g) (subst (λ x. P f' w' x) (sym h) p))

abbrev IsDec : Dec → Type 0
IsDec x = WholeDec (dec_of x) (dec_within x) (own_dec_of x)

abbrev D : Type 0
D = (x : Dec) × IsDec x

abbrev IsExp : Exp → Type 0
IsExp x = WholeExp (exp_of x) (within x) (own_of x)

abbrev E : Type 0
E = (x : Exp) × IsExp x

abbrev IsBind : Bind → Type 0
IsBind x = WholeRule (bind_of x) (bind_within x) (own_bind x)

abbrev B : Type 0
B = (x : Bind) × IsBind x

abbrev IsClause : Clause → Type 0
IsClause x = WholeClause (clause_of x) (clause_within x) (own_clause x)

abbrev C : Type 0
C = (x : Clause) × IsClause x

abbrev IsExpField : ExpField → Type 0
IsExpField x = WholeField (exp_field_of x) (field_within x) (own_field x)

abbrev L : Type 0
L = (x : ExpField) × IsExpField x

abbrev IsFunction : Function → Type 0
IsFunction x = WholeFunction (function_of x) (function_within x) (own_function x)

abbrev G : Type 0
G = (x : Function) × IsFunction x

abbrev IsPart : Part → Type 0
IsPart x = WholePart (part_of x) (part_within x) (own_part x)

abbrev O : Type 0
O = (x : Part) × IsPart x

abbrev IsRule : Rule → Type 0
IsRule x = WholeRule (rule_of x) (rule_within x) (own_rule x)

abbrev U : Type 0
U = (x : Rule) × IsRule x

abbrev firsts : {A : Type 0} {P : A → Type 0} → List ((x : A) × P x) → List A
firsts ps = map (λ p. p.0) ps

sames : {A B : Type 0} {P : A → Type 0} (w : A → Within B) (o : A → B) → ((x : A) → P x → (w x).own ≡ o x) → (ps : List ((x : A) × P x))
    → map owned (map w (firsts ps)) ≡ map o (firsts ps)
sames w o h [] = refl
sames w o h ((x, p) ∷ ps) = ap₂ (λ a as_. a ∷ as_) (h x p) (sames w o h ps)

exps-same : (es : List E) → map owned (map within (firsts es)) ≡ map own_of (firsts es)
exps-same = sames within own_of (λ x p. p.same)

decs-same : (ds : List D) → map owned (map dec_within (firsts ds)) ≡ map own_dec_of (firsts ds)
decs-same = sames dec_within own_dec_of (λ x p. p.same)

fields-same : (fs : List L) → map owned (map field_within (firsts fs)) ≡ map own_field (firsts fs)
fields-same = sames field_within own_field (λ x p. p.same)

parts-same : (os : List O) → map owned (map part_within (firsts os)) ≡ map own_part (firsts os)
parts-same = sames part_within own_part (λ x p. p.same)

-- lists

abbrev owns : List E → List bare.Exp
owns es = map owned (map within (firsts es))

abbrev inner : List E → ℕ
inner es = insides (map within (firsts es))

fields-law : (fs : List L) → exp_fields_count (exp_fields_of (map exp_field_of (firsts fs)))
    ≡ exp_fields_count (exp_fields_of (map owned (map field_within (firsts fs)))) + insides (map field_within (firsts fs))
fields-law [] = refl
fields-law ((f, h) ∷ fs) = let r = fields-law fs in let l = h.law in omega (arith, r, l)

numbered-law : (k : ℕ) (es : List E) → exp_fields_count (numbered k (map exp_of (firsts es))) ≡ exp_fields_count (numbered k (owns es)) + inner es
numbered-law k [] = refl
numbered-law k ((e, h) ∷ es) = let r = numbered-law (suc k) es in let l = h.law in omega (arith, r, l)

list-law : (p : Place) (es : List E) → exp_count (list_of p (map exp_of (firsts es))) ≡ exp_count (list_of p (owns es)) + inner es
list-law p [] = refl
list-law p ((e, h) ∷ es) = let r = list-law p es in let l = h.law in omega (arith, r, l)

sequence-law : (p : Place) (e o : bare.Exp) (n : ℕ) → exp_count e ≡ exp_count o + n → (es : List E)
    → exp_count (sequence_of p e (map exp_of (firsts es))) ≡ exp_count (sequence_of p o (owns es)) + (n + inner es)
sequence-law p e o n q [] = omega (arith, q)
sequence-law p e o n q ((f, h) ∷ es) = let r = sequence-law p (exp_of f) (owned (within f)) (within f).inside h.law es in omega (arith, r, q)

apply-law : (p : Place) (e o : bare.Exp) (n : ℕ) → exp_count e ≡ exp_count o + n → (es : List E)
    → exp_count (app_of p e (map exp_of (firsts es))) ≡ exp_count (app_of p o (owns es)) + (n + inner es)
apply-law p e o n q [] = omega (arith, q)
apply-law p e o n q ((a, h) ∷ es) =
    let l = h.law in
    let r = apply-law p (bare.app p e (exp_of a)) (bare.app p o (owned (within a))) (n + (within a).inside) (omega (arith, q, l)) es in omega (arith, r)

joins-law : (j i : Joint) (p q : Place) (a b c d : bare.Exp) (n m : ℕ) → j ≡ i → exp_count a ≡ exp_count c + n → exp_count b ≡ exp_count d + m
    → exp_count (join j p a b) ≡ exp_count (join i q c d) + (n + m)
joins-law j i p q a b c d n m e g h = let x = join-count j p a b in let y = join-count i q c d in let z = ap joint_nodes e in omega (arith, g, h, x, y, z)

left-law : (p q : Place) (e o : bare.Exp) (n : ℕ) → exp_count e ≡ exp_count o + n → (os : List O)
    → exp_count (left_chain join p e (map part_of (firsts os)))
    ≡ exp_count (left_chain join q o (map owned (map part_within (firsts os)))) + (n + insides (map part_within (firsts os)))
left-law p q e o n g [] = omega (arith, g)
left-law p q e o n g ((x, h) ∷ os) =
    let j = joins-law (part_of x).joint (part_within x).own.joint p q e (part_of x).operand o (part_within x).own.operand n (part_within x).inside h.joint g h.law in
    let r = left-law p q (join (part_of x).joint p e (part_of x).operand) (join (part_within x).own.joint q o (part_within x).own.operand) (n + (part_within x).inside) j os in
    omega (arith, r)

right-law : (p q : Place) (e o : bare.Exp) (n : ℕ) → exp_count e ≡ exp_count o + n → (os : List O)
    → exp_count (right_chain join p e (map part_of (firsts os)))
    ≡ exp_count (right_chain join q o (map owned (map part_within (firsts os)))) + (n + insides (map part_within (firsts os)))
right-law p q e o n g [] = omega (arith, g)
right-law p q e o n g ((x, h) ∷ os) =
    let r = right-law (part_of x).place (part_within x).own.place (part_of x).operand (part_within x).own.operand (part_within x).inside h.law os in
    joins-law (part_of x).joint (part_within x).own.joint p q e _ o _ n ((part_within x).inside + insides (map part_within (firsts os))) h.joint g r

chain-law : (b : Bool) (p : Place) (e o : bare.Exp) (n : ℕ) → exp_count e ≡ exp_count o + n → (os : List O)
    → exp_count (chain_of join b p e (map part_of (firsts os)))
    ≡ exp_count (chain_of join b p o (map owned (map part_within (firsts os)))) + (n + insides (map part_within (firsts os)))
chain-law true p e o n g os = right-law p p e o n g os
chain-law false p e o n g os = left-law p p e o n g os

decs-law : (ds : List D) → decs_count (decs_of (map dec_of (firsts ds)))
    ≡ decs_count (decs_of (map owned (map dec_within (firsts ds)))) + insides (map dec_within (firsts ds))
decs-law [] = refl
decs-law ((d, h) ∷ ds) = let r = decs-law ds in let l = h.law in omega (arith, r, l)

rules-law : (rs : List U) → rules_count (rules_of (map rule_of (firsts rs))) ≡ total bound_counts (map rule_within (firsts rs))
rules-law [] = refl
rules-law ((r, h) ∷ rs) = ap₂ (λ n m. n + m) h (rules-law rs)

binds-law : (bs : List B) → binds_count (binds_of (map bind_of (firsts bs))) ≡ total bound_counts (map bind_within (firsts bs))
binds-law [] = refl
binds-law ((b, h) ∷ bs) = ap₂ (λ n m. n + m) h (binds-law bs)

clauses-law : (cs : List C) → rules_count (clause_rules (map clause_of (firsts cs))) ≡ total clause_counts (map clause_within (firsts cs))
clauses-law [] = refl
clauses-law ((c, h) ∷ cs) = let r = clauses-law cs in let l = h.law in omega (arith, r, l)

first-same : (cs : List C) → first_pats (map clause_of (firsts cs)) ≡ first_pats (map owned (map clause_within (firsts cs)))
first-same [] = refl
first-same ((c, h) ∷ cs) = h.pats

functions-law : (gs : List G) → binds_count (function_binds (map function_of (firsts gs))) ≡ total function_counts (map function_within (firsts gs))
functions-law [] = refl
functions-law ((g, h) ∷ gs) = ap₂ (λ n m. n + m) h (functions-law gs)

-- layers

abbrev down-dec : Dec-F D E B C L G O U → Dec-F Dec Exp Bind Clause ExpField Function Part Rule
down-dec y = map-Dec D E B C L G O U Dec Exp Bind Clause ExpField Function Part Rule (λ x. x.0) (λ x. x.0) (λ x. x.0) (λ x. x.0) (λ x. x.0) (λ x. x.0) (λ x. x.0) (λ x. x.0) y

abbrev down-exp : Exp-F D E B C L G O U → Exp-F Dec Exp Bind Clause ExpField Function Part Rule
down-exp y = map-Exp D E B C L G O U Dec Exp Bind Clause ExpField Function Part Rule (λ x. x.0) (λ x. x.0) (λ x. x.0) (λ x. x.0) (λ x. x.0) (λ x. x.0) (λ x. x.0) (λ x. x.0) y

abbrev down-bind : Bind-F D E B C L G O U → Bind-F Dec Exp Bind Clause ExpField Function Part Rule
down-bind y = map-Bind D E B C L G O U Dec Exp Bind Clause ExpField Function Part Rule (λ x. x.0) (λ x. x.0) (λ x. x.0) (λ x. x.0) (λ x. x.0) (λ x. x.0) (λ x. x.0) (λ x. x.0) y

abbrev down-clause : Clause-F D E B C L G O U → Clause-F Dec Exp Bind Clause ExpField Function Part Rule
down-clause y = map-Clause D E B C L G O U Dec Exp Bind Clause ExpField Function Part Rule (λ x. x.0) (λ x. x.0) (λ x. x.0) (λ x. x.0) (λ x. x.0) (λ x. x.0) (λ x. x.0) (λ x. x.0) y

abbrev down-exp_field : ExpField-F D E B C L G O U → ExpField-F Dec Exp Bind Clause ExpField Function Part Rule
down-exp_field y = map-ExpField D E B C L G O U Dec Exp Bind Clause ExpField Function Part Rule (λ x. x.0) (λ x. x.0) (λ x. x.0) (λ x. x.0) (λ x. x.0) (λ x. x.0) (λ x. x.0) (λ x. x.0) y

abbrev down-function : Function-F D E B C L G O U → Function-F Dec Exp Bind Clause ExpField Function Part Rule
down-function y = map-Function D E B C L G O U Dec Exp Bind Clause ExpField Function Part Rule (λ x. x.0) (λ x. x.0) (λ x. x.0) (λ x. x.0) (λ x. x.0) (λ x. x.0) (λ x. x.0) (λ x. x.0) y

abbrev down-part : Part-F D E B C L G O U → Part-F Dec Exp Bind Clause ExpField Function Part Rule
down-part y = map-Part D E B C L G O U Dec Exp Bind Clause ExpField Function Part Rule (λ x. x.0) (λ x. x.0) (λ x. x.0) (λ x. x.0) (λ x. x.0) (λ x. x.0) (λ x. x.0) (λ x. x.0) y

abbrev down-rule : Rule-F D E B C L G O U → Rule-F Dec Exp Bind Clause ExpField Function Part Rule
down-rule y = map-Rule D E B C L G O U Dec Exp Bind Clause ExpField Function Part Rule (λ x. x.0) (λ x. x.0) (λ x. x.0) (λ x. x.0) (λ x. x.0) (λ x. x.0) (λ x. x.0) (λ x. x.0) y

abbrev LayerDec : Dec-F D E B C L G O U → Type 0
LayerDec y = WholeDec
    (node_dec (map-Dec Dec Exp Bind Clause ExpField Function Part Rule bare.Dec bare.Exp RuleOf derived.Clause ExpFieldOf derived.Function (Operand Joint bare.Exp) RuleOf dec_of exp_of bind_of clause_of exp_field_of function_of part_of rule_of (down-dec y)))
    (node_within_dec (map-Dec Dec Exp Bind Clause ExpField Function Part Rule (Within bare.Dec) (Within bare.Exp) (Within RuleOf) (Within derived.Clause) (Within ExpFieldOf) (Within derived.Function) (Within (Operand Joint bare.Exp)) (Within RuleOf) dec_within within bind_within clause_within field_within function_within part_within rule_within (down-dec y)))
    (node_own_dec (map-Dec Dec Exp Bind Clause ExpField Function Part Rule bare.Dec bare.Exp RuleOf derived.Clause ExpFieldOf derived.Function (Operand Joint bare.Exp) RuleOf own_dec_of own_of own_bind own_clause own_field own_function own_part own_rule (down-dec y)))

rolled-dec : (y : Dec-F D E B C L G O U) → LayerDec y → IsDec (roll-Dec (down-dec y))
rolled-dec y l =
    move WholeDec _ _ _ _ _ _
    (fold-roll-Dec bare.Dec bare.Exp RuleOf derived.Clause ExpFieldOf derived.Function (Operand Joint bare.Exp) RuleOf node_dec node_exp node_bind node_clause node_exp_field node_function node_part node_rule (down-dec y))
    (fold-roll-Dec (Within bare.Dec) (Within bare.Exp) (Within RuleOf) (Within derived.Clause) (Within ExpFieldOf) (Within derived.Function) (Within (Operand Joint bare.Exp)) (Within RuleOf) node_within_dec node_within_exp node_within_bind node_within_clause node_within_exp_field node_within_function node_within_part node_within_rule (down-dec y))
    (fold-roll-Dec bare.Dec bare.Exp RuleOf derived.Clause ExpFieldOf derived.Function (Operand Joint bare.Exp) RuleOf node_own_dec node_own_exp node_bind node_clause node_exp_field node_function node_part node_rule (down-dec y)) l

abbrev LayerExp : Exp-F D E B C L G O U → Type 0
LayerExp y = WholeExp
    (node_exp (map-Exp Dec Exp Bind Clause ExpField Function Part Rule bare.Dec bare.Exp RuleOf derived.Clause ExpFieldOf derived.Function (Operand Joint bare.Exp) RuleOf dec_of exp_of bind_of clause_of exp_field_of function_of part_of rule_of (down-exp y)))
    (node_within_exp (map-Exp Dec Exp Bind Clause ExpField Function Part Rule (Within bare.Dec) (Within bare.Exp) (Within RuleOf) (Within derived.Clause) (Within ExpFieldOf) (Within derived.Function) (Within (Operand Joint bare.Exp)) (Within RuleOf) dec_within within bind_within clause_within field_within function_within part_within rule_within (down-exp y)))
    (node_own_exp (map-Exp Dec Exp Bind Clause ExpField Function Part Rule bare.Dec bare.Exp RuleOf derived.Clause ExpFieldOf derived.Function (Operand Joint bare.Exp) RuleOf own_dec_of own_of own_bind own_clause own_field own_function own_part own_rule (down-exp y)))

rolled-exp : (y : Exp-F D E B C L G O U) → LayerExp y → IsExp (roll-Exp (down-exp y))
rolled-exp y l =
    move WholeExp _ _ _ _ _ _
    (fold-roll-Exp bare.Dec bare.Exp RuleOf derived.Clause ExpFieldOf derived.Function (Operand Joint bare.Exp) RuleOf node_dec node_exp node_bind node_clause node_exp_field node_function node_part node_rule (down-exp y))
    (fold-roll-Exp (Within bare.Dec) (Within bare.Exp) (Within RuleOf) (Within derived.Clause) (Within ExpFieldOf) (Within derived.Function) (Within (Operand Joint bare.Exp)) (Within RuleOf) node_within_dec node_within_exp node_within_bind node_within_clause node_within_exp_field node_within_function node_within_part node_within_rule (down-exp y))
    (fold-roll-Exp bare.Dec bare.Exp RuleOf derived.Clause ExpFieldOf derived.Function (Operand Joint bare.Exp) RuleOf node_own_dec node_own_exp node_bind node_clause node_exp_field node_function node_part node_rule (down-exp y)) l

abbrev LayerBind : Bind-F D E B C L G O U → Type 0
LayerBind y = WholeRule
    (node_bind (map-Bind Dec Exp Bind Clause ExpField Function Part Rule bare.Dec bare.Exp RuleOf derived.Clause ExpFieldOf derived.Function (Operand Joint bare.Exp) RuleOf dec_of exp_of bind_of clause_of exp_field_of function_of part_of rule_of (down-bind y)))
    (node_within_bind (map-Bind Dec Exp Bind Clause ExpField Function Part Rule (Within bare.Dec) (Within bare.Exp) (Within RuleOf) (Within derived.Clause) (Within ExpFieldOf) (Within derived.Function) (Within (Operand Joint bare.Exp)) (Within RuleOf) dec_within within bind_within clause_within field_within function_within part_within rule_within (down-bind y)))
    (node_bind (map-Bind Dec Exp Bind Clause ExpField Function Part Rule bare.Dec bare.Exp RuleOf derived.Clause ExpFieldOf derived.Function (Operand Joint bare.Exp) RuleOf own_dec_of own_of own_bind own_clause own_field own_function own_part own_rule (down-bind y)))

rolled-bind : (y : Bind-F D E B C L G O U) → LayerBind y → IsBind (roll-Bind (down-bind y))
rolled-bind y l =
    move WholeRule _ _ _ _ _ _
    (fold-roll-Bind bare.Dec bare.Exp RuleOf derived.Clause ExpFieldOf derived.Function (Operand Joint bare.Exp) RuleOf node_dec node_exp node_bind node_clause node_exp_field node_function node_part node_rule (down-bind y))
    (fold-roll-Bind (Within bare.Dec) (Within bare.Exp) (Within RuleOf) (Within derived.Clause) (Within ExpFieldOf) (Within derived.Function) (Within (Operand Joint bare.Exp)) (Within RuleOf) node_within_dec node_within_exp node_within_bind node_within_clause node_within_exp_field node_within_function node_within_part node_within_rule (down-bind y))
    (fold-roll-Bind bare.Dec bare.Exp RuleOf derived.Clause ExpFieldOf derived.Function (Operand Joint bare.Exp) RuleOf node_own_dec node_own_exp node_bind node_clause node_exp_field node_function node_part node_rule (down-bind y)) l

abbrev LayerClause : Clause-F D E B C L G O U → Type 0
LayerClause y = WholeClause
    (node_clause (map-Clause Dec Exp Bind Clause ExpField Function Part Rule bare.Dec bare.Exp RuleOf derived.Clause ExpFieldOf derived.Function (Operand Joint bare.Exp) RuleOf dec_of exp_of bind_of clause_of exp_field_of function_of part_of rule_of (down-clause y)))
    (node_within_clause (map-Clause Dec Exp Bind Clause ExpField Function Part Rule (Within bare.Dec) (Within bare.Exp) (Within RuleOf) (Within derived.Clause) (Within ExpFieldOf) (Within derived.Function) (Within (Operand Joint bare.Exp)) (Within RuleOf) dec_within within bind_within clause_within field_within function_within part_within rule_within (down-clause y)))
    (node_clause (map-Clause Dec Exp Bind Clause ExpField Function Part Rule bare.Dec bare.Exp RuleOf derived.Clause ExpFieldOf derived.Function (Operand Joint bare.Exp) RuleOf own_dec_of own_of own_bind own_clause own_field own_function own_part own_rule (down-clause y)))

rolled-clause : (y : Clause-F D E B C L G O U) → LayerClause y → IsClause (roll-Clause (down-clause y))
rolled-clause y l =
    move WholeClause _ _ _ _ _ _
    (fold-roll-Clause bare.Dec bare.Exp RuleOf derived.Clause ExpFieldOf derived.Function (Operand Joint bare.Exp) RuleOf node_dec node_exp node_bind node_clause node_exp_field node_function node_part node_rule (down-clause y))
    (fold-roll-Clause (Within bare.Dec) (Within bare.Exp) (Within RuleOf) (Within derived.Clause) (Within ExpFieldOf) (Within derived.Function) (Within (Operand Joint bare.Exp)) (Within RuleOf) node_within_dec node_within_exp node_within_bind node_within_clause node_within_exp_field node_within_function node_within_part node_within_rule (down-clause y))
    (fold-roll-Clause bare.Dec bare.Exp RuleOf derived.Clause ExpFieldOf derived.Function (Operand Joint bare.Exp) RuleOf node_own_dec node_own_exp node_bind node_clause node_exp_field node_function node_part node_rule (down-clause y)) l

abbrev LayerExpField : ExpField-F D E B C L G O U → Type 0
LayerExpField y = WholeField
    (node_exp_field (map-ExpField Dec Exp Bind Clause ExpField Function Part Rule bare.Dec bare.Exp RuleOf derived.Clause ExpFieldOf derived.Function (Operand Joint bare.Exp) RuleOf dec_of exp_of bind_of clause_of exp_field_of function_of part_of rule_of (down-exp_field y)))
    (node_within_exp_field (map-ExpField Dec Exp Bind Clause ExpField Function Part Rule (Within bare.Dec) (Within bare.Exp) (Within RuleOf) (Within derived.Clause) (Within ExpFieldOf) (Within derived.Function) (Within (Operand Joint bare.Exp)) (Within RuleOf) dec_within within bind_within clause_within field_within function_within part_within rule_within (down-exp_field y)))
    (node_exp_field (map-ExpField Dec Exp Bind Clause ExpField Function Part Rule bare.Dec bare.Exp RuleOf derived.Clause ExpFieldOf derived.Function (Operand Joint bare.Exp) RuleOf own_dec_of own_of own_bind own_clause own_field own_function own_part own_rule (down-exp_field y)))

rolled-exp_field : (y : ExpField-F D E B C L G O U) → LayerExpField y → IsExpField (roll-ExpField (down-exp_field y))
rolled-exp_field y l =
    move WholeField _ _ _ _ _ _
    (fold-roll-ExpField bare.Dec bare.Exp RuleOf derived.Clause ExpFieldOf derived.Function (Operand Joint bare.Exp) RuleOf node_dec node_exp node_bind node_clause node_exp_field node_function node_part node_rule (down-exp_field y))
    (fold-roll-ExpField (Within bare.Dec) (Within bare.Exp) (Within RuleOf) (Within derived.Clause) (Within ExpFieldOf) (Within derived.Function) (Within (Operand Joint bare.Exp)) (Within RuleOf) node_within_dec node_within_exp node_within_bind node_within_clause node_within_exp_field node_within_function node_within_part node_within_rule (down-exp_field y))
    (fold-roll-ExpField bare.Dec bare.Exp RuleOf derived.Clause ExpFieldOf derived.Function (Operand Joint bare.Exp) RuleOf node_own_dec node_own_exp node_bind node_clause node_exp_field node_function node_part node_rule (down-exp_field y)) l

abbrev LayerFunction : Function-F D E B C L G O U → Type 0
LayerFunction y = WholeFunction
    (node_function (map-Function Dec Exp Bind Clause ExpField Function Part Rule bare.Dec bare.Exp RuleOf derived.Clause ExpFieldOf derived.Function (Operand Joint bare.Exp) RuleOf dec_of exp_of bind_of clause_of exp_field_of function_of part_of rule_of (down-function y)))
    (node_within_function (map-Function Dec Exp Bind Clause ExpField Function Part Rule (Within bare.Dec) (Within bare.Exp) (Within RuleOf) (Within derived.Clause) (Within ExpFieldOf) (Within derived.Function) (Within (Operand Joint bare.Exp)) (Within RuleOf) dec_within within bind_within clause_within field_within function_within part_within rule_within (down-function y)))
    (node_function (map-Function Dec Exp Bind Clause ExpField Function Part Rule bare.Dec bare.Exp RuleOf derived.Clause ExpFieldOf derived.Function (Operand Joint bare.Exp) RuleOf own_dec_of own_of own_bind own_clause own_field own_function own_part own_rule (down-function y)))

rolled-function : (y : Function-F D E B C L G O U) → LayerFunction y → IsFunction (roll-Function (down-function y))
rolled-function y l =
    move WholeFunction _ _ _ _ _ _
    (fold-roll-Function bare.Dec bare.Exp RuleOf derived.Clause ExpFieldOf derived.Function (Operand Joint bare.Exp) RuleOf node_dec node_exp node_bind node_clause node_exp_field node_function node_part node_rule (down-function y))
    (fold-roll-Function (Within bare.Dec) (Within bare.Exp) (Within RuleOf) (Within derived.Clause) (Within ExpFieldOf) (Within derived.Function) (Within (Operand Joint bare.Exp)) (Within RuleOf) node_within_dec node_within_exp node_within_bind node_within_clause node_within_exp_field node_within_function node_within_part node_within_rule (down-function y))
    (fold-roll-Function bare.Dec bare.Exp RuleOf derived.Clause ExpFieldOf derived.Function (Operand Joint bare.Exp) RuleOf node_own_dec node_own_exp node_bind node_clause node_exp_field node_function node_part node_rule (down-function y)) l

abbrev LayerPart : Part-F D E B C L G O U → Type 0
LayerPart y = WholePart
    (node_part (map-Part Dec Exp Bind Clause ExpField Function Part Rule bare.Dec bare.Exp RuleOf derived.Clause ExpFieldOf derived.Function (Operand Joint bare.Exp) RuleOf dec_of exp_of bind_of clause_of exp_field_of function_of part_of rule_of (down-part y)))
    (node_within_part (map-Part Dec Exp Bind Clause ExpField Function Part Rule (Within bare.Dec) (Within bare.Exp) (Within RuleOf) (Within derived.Clause) (Within ExpFieldOf) (Within derived.Function) (Within (Operand Joint bare.Exp)) (Within RuleOf) dec_within within bind_within clause_within field_within function_within part_within rule_within (down-part y)))
    (node_part (map-Part Dec Exp Bind Clause ExpField Function Part Rule bare.Dec bare.Exp RuleOf derived.Clause ExpFieldOf derived.Function (Operand Joint bare.Exp) RuleOf own_dec_of own_of own_bind own_clause own_field own_function own_part own_rule (down-part y)))

rolled-part : (y : Part-F D E B C L G O U) → LayerPart y → IsPart (roll-Part (down-part y))
rolled-part y l =
    move WholePart _ _ _ _ _ _
    (fold-roll-Part bare.Dec bare.Exp RuleOf derived.Clause ExpFieldOf derived.Function (Operand Joint bare.Exp) RuleOf node_dec node_exp node_bind node_clause node_exp_field node_function node_part node_rule (down-part y))
    (fold-roll-Part (Within bare.Dec) (Within bare.Exp) (Within RuleOf) (Within derived.Clause) (Within ExpFieldOf) (Within derived.Function) (Within (Operand Joint bare.Exp)) (Within RuleOf) node_within_dec node_within_exp node_within_bind node_within_clause node_within_exp_field node_within_function node_within_part node_within_rule (down-part y))
    (fold-roll-Part bare.Dec bare.Exp RuleOf derived.Clause ExpFieldOf derived.Function (Operand Joint bare.Exp) RuleOf node_own_dec node_own_exp node_bind node_clause node_exp_field node_function node_part node_rule (down-part y)) l

abbrev LayerRule : Rule-F D E B C L G O U → Type 0
LayerRule y = WholeRule
    (node_rule (map-Rule Dec Exp Bind Clause ExpField Function Part Rule bare.Dec bare.Exp RuleOf derived.Clause ExpFieldOf derived.Function (Operand Joint bare.Exp) RuleOf dec_of exp_of bind_of clause_of exp_field_of function_of part_of rule_of (down-rule y)))
    (node_within_rule (map-Rule Dec Exp Bind Clause ExpField Function Part Rule (Within bare.Dec) (Within bare.Exp) (Within RuleOf) (Within derived.Clause) (Within ExpFieldOf) (Within derived.Function) (Within (Operand Joint bare.Exp)) (Within RuleOf) dec_within within bind_within clause_within field_within function_within part_within rule_within (down-rule y)))
    (node_rule (map-Rule Dec Exp Bind Clause ExpField Function Part Rule bare.Dec bare.Exp RuleOf derived.Clause ExpFieldOf derived.Function (Operand Joint bare.Exp) RuleOf own_dec_of own_of own_bind own_clause own_field own_function own_part own_rule (down-rule y)))

rolled-rule : (y : Rule-F D E B C L G O U) → LayerRule y → IsRule (roll-Rule (down-rule y))
rolled-rule y l =
    move WholeRule _ _ _ _ _ _
    (fold-roll-Rule bare.Dec bare.Exp RuleOf derived.Clause ExpFieldOf derived.Function (Operand Joint bare.Exp) RuleOf node_dec node_exp node_bind node_clause node_exp_field node_function node_part node_rule (down-rule y))
    (fold-roll-Rule (Within bare.Dec) (Within bare.Exp) (Within RuleOf) (Within derived.Clause) (Within ExpFieldOf) (Within derived.Function) (Within (Operand Joint bare.Exp)) (Within RuleOf) node_within_dec node_within_exp node_within_bind node_within_clause node_within_exp_field node_within_function node_within_part node_within_rule (down-rule y))
    (fold-roll-Rule bare.Dec bare.Exp RuleOf derived.Clause ExpFieldOf derived.Function (Operand Joint bare.Exp) RuleOf node_own_dec node_own_exp node_bind node_clause node_exp_field node_function node_part node_rule (down-rule y)) l

exp-layer : (y : Exp-F D E B C L G O U) → LayerExp y
exp-layer (Exp-F.Constant p c) = record { same = refl; law = omega arith }
exp-layer (Exp-F.Vid p x) = record { same = refl; law = refl }
exp-layer (Exp-F.BuiltIn p b) = record { same = refl; law = refl }
exp-layer (Exp-F.Record p fs) = record { same = ap (λ l. bare.fields_exp p (exp_fields_of l)) (fields-same fs.items); law = let h = fields-law fs.items in omega (arith, h) }
exp-layer (Exp-F.Tuple p es) = record { same = ap (derived.tuple p) (exps-same es.items); law = let h = numbered-law 1 es.items in omega (arith, h) }
exp-layer (Exp-F.List p es) = record { same = ap (list_of p) (exps-same es.items); law = list-law p es.items }
exp-layer (Exp-F.Sequence p e es) = record {
  same = ap₂ (sequence_of p) e.value.1.same (exps-same es.items);
  law = sequence-law p (exp_of e.value.0) (owned (within e.value.0)) (within e.value.0).inside e.value.1.law es.items;
}
exp-layer (Exp-F.Let p ds e) = record {
  same = ap₂ (λ l x. bare.let_in p (decs_of l) x) (decs-same ds.items) e.value.1.same;
  law = let h = decs-law ds.items in let l = e.value.1.law in omega (arith, h, l);
}
exp-layer (Exp-F.Apply p e es) = record {
  same = ap₂ (app_of p) e.value.1.same (exps-same es.items);
  law = apply-law p (exp_of e.value.0) (owned (within e.value.0)) (within e.value.0).inside e.value.1.law es.items;
}
exp-layer (Exp-F.Chain p r e os) = record {
  same = ap₂ (chain_of join r p) e.value.1.same (parts-same os.items);
  law = chain-law r p (exp_of e.value.0) (owned (within e.value.0)) (within e.value.0).inside e.value.1.law os.items;
}
exp-layer (Exp-F.Typed p e t) = record { same = ap (λ x. bare.typed p x (ty_of t)) e.value.1.same; law = let l = e.value.1.law in omega (arith, l) }
exp-layer (Exp-F.Handle p e rs) = record {
  same = ap (λ x. bare.handle p x bare.no_rules) e.value.1.same;
  law = let h = rules-law rs.items in let l = e.value.1.law in omega (arith, h, l);
}
exp-layer (Exp-F.Raise p e) = record { same = ap (bare.raise p) e.value.1.same; law = let l = e.value.1.law in omega (arith, l) }
exp-layer (Exp-F.Fn p rs) = record { same = refl; law = let h = rules-law rs.items in omega (arith, h) }

dec-layer : (y : Dec-F D E B C L G O U) → LayerDec y
dec-layer (Dec-F.Val p as_ bs cs) = record { same = refl; law = let h = binds-law bs.items in let k = binds-law cs.items in omega (arith, h, k) }
dec-layer (Dec-F.Fun p as_ gs) = record { same = refl; law = let h = functions-law gs.items in omega (arith, h) }
dec-layer (Dec-F.Abbreviation p bs) = record { same = refl; law = refl }
dec-layer (Dec-F.Datatype p bs) = record { same = refl; law = refl }
dec-layer (Dec-F.Withtype p ds bs) = record { same = refl; law = refl }
dec-layer (Dec-F.Replicate p x c) = record { same = refl; law = refl }
dec-layer (Dec-F.Exception p bs) = record { same = refl; law = refl }
dec-layer (Dec-F.Local p ds es) = record {
  same = ap₂ (λ l m. bare.local_dec p (decs_of l) (decs_of m)) (decs-same ds.items) (decs-same es.items);
  law = let h = decs-law ds.items in let k = decs-law es.items in omega (arith, h, k);
}
dec-layer (Dec-F.Open p xs) = record { same = refl; law = refl }
dec-layer (Dec-F.Declarations p ds) = record { same = ap (λ l. bare.sequence_dec p (decs_of l)) (decs-same ds.items); law = let h = decs-law ds.items in omega (arith, h) }

bind-layer : (y : Bind-F D E B C L G O U) → LayerBind y
bind-layer y = let l = y.exp.1.law in omega (arith, l)

clause-layer : (y : Clause-F D E B C L G O U) → LayerClause y
clause-layer y = record { pats = refl; law = let l = y.exp.1.law in omega (arith, l) }

field-layer : (y : ExpField-F D E B C L G O U) → LayerExpField y
field-layer y = record { same = ap (λ x. record { label = y.label; exp = x }) y.exp.1.same; law = y.exp.1.law }

function-layer : (y : Function-F D E B C L G O U) → LayerFunction y
function-layer y =
    let full = map clause_of (firsts y.clauses.items) in
    let own = map owned (map clause_within (firsts y.clauses.items)) in
    let same = first-same y.clauses.items in
    let n = ap length same in
    let t = ap (λ as_. exp_count (one_or_tuple y.place (fresh_for y.place 1 as_))) same in
    let f = parameters-count y.place 1 (first_pats full) (derived.case_of y.place (one_or_tuple y.place (fresh_for y.place 1 (first_pats full))) (clause_rules full)) in
    let g = head-is (record { place = y.place; vid_place = y.vid_place; vid = y.vid; clauses = own }) in
    let c = clauses-law y.clauses.items in omega (arith, n, t, f, g, c)

part-layer : (y : Part-F D E B C L G O U) → LayerPart y
part-layer y = record { same = ap (λ x. record { joint = y.joint; place = y.place; operand = x }) y.exp.1.same; joint = refl; law = y.exp.1.law }

rule-layer : (y : Rule-F D E B C L G O U) → LayerRule y
rule-layer y = let l = y.exp.1.law in omega (arith, l)

exps-whole : (e : Exp) → IsExp e
exps-whole =
    ind-Exp IsDec IsExp IsBind IsClause IsExpField IsFunction IsPart IsRule
    (λ x y is. subst (λ x. IsDec (roll-Dec x)) is (rolled-dec y (dec-layer y)))
    (λ x y is. subst (λ x. IsExp (roll-Exp x)) is (rolled-exp y (exp-layer y)))
    (λ x y is. subst (λ x. IsBind (roll-Bind x)) is (rolled-bind y (bind-layer y)))
    (λ x y is. subst (λ x. IsClause (roll-Clause x)) is (rolled-clause y (clause-layer y)))
    (λ x y is. subst (λ x. IsExpField (roll-ExpField x)) is (rolled-exp_field y (field-layer y)))
    (λ x y is. subst (λ x. IsFunction (roll-Function x)) is (rolled-function y (function-layer y)))
    (λ x y is. subst (λ x. IsPart (roll-Part x)) is (rolled-part y (part-layer y)))
    (λ x y is. subst (λ x. IsRule (roll-Rule x)) is (rolled-rule y (rule-layer y)))

decs-whole : (d : Dec) → IsDec d
decs-whole =
    ind-Dec IsDec IsExp IsBind IsClause IsExpField IsFunction IsPart IsRule
    (λ x y is. subst (λ x. IsDec (roll-Dec x)) is (rolled-dec y (dec-layer y)))
    (λ x y is. subst (λ x. IsExp (roll-Exp x)) is (rolled-exp y (exp-layer y)))
    (λ x y is. subst (λ x. IsBind (roll-Bind x)) is (rolled-bind y (bind-layer y)))
    (λ x y is. subst (λ x. IsClause (roll-Clause x)) is (rolled-clause y (clause-layer y)))
    (λ x y is. subst (λ x. IsExpField (roll-ExpField x)) is (rolled-exp_field y (field-layer y)))
    (λ x y is. subst (λ x. IsFunction (roll-Function x)) is (rolled-function y (function-layer y)))
    (λ x y is. subst (λ x. IsPart (roll-Part x)) is (rolled-part y (part-layer y)))
    (λ x y is. subst (λ x. IsRule (roll-Rule x)) is (rolled-rule y (rule-layer y)))

headed-behind : (head at : ℕ) (ns : List ℕ) → headed head (suc at) ns ≡ sum ns
headed-behind head at [] = refl
headed-behind head at (n ∷ ns) = let c = sum_by-cons (λ x. x) n ns in let h = headed-behind head (suc at) ns in omega (arith, c, h)

pub counts_are_whole : CountsAreWhole
counts_are_whole = record {
  own = λ e. (exps-whole e).same;
  exps = λ e. (exps-whole e).law ∙ ap (λ x. exp_count x + (within e).inside) (exps-whole e).same;
  decs = λ d. (decs-whole d).law ∙ ap (λ x. dec_count x + (dec_within d).inside) (decs-whole d).same ∙ ap (λ n. n + (dec_within d).inside) (own-is-outer d);
  heads = λ head n ns. let c = sum_by-cons (λ x. x) n ns in let h = headed-behind head 0 ns in omega (arith, c, h);
}
