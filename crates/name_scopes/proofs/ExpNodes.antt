-- What is looked for, from the parts of each node of expressions to the node.
use Rattle.std.proofs.Common.{◌≡◌, ℕ, suc, Bool, true, false, List, [], ◌∷◌, map, Vec, Box, Global, ◌⊎◌, inl, inr, refl, sym, ap, ap₂, subst, ◌∙◌}
use Rattle.std.specs.List.{Contains}
use Rattle.mlc_base.specs.declared.place.Place.{Place}
use Rattle.sml_tree.specs.BareTree as bare
use Rattle.sml_tree.specs.Derived.{Operand, app_of, case_of, join, left_chain, list_of, numbered, one_or_tuple_pat, right_chain, sequence_of, short, tuple}
use Rattle.sml_tree.specs.Derived as derived
use Rattle.sml_tree.specs.Phrases.{Phrase, exp, exp_field_list, pat, rule, rule_list, ty}
use Rattle.sml_tree.specs.TreeOf.{ExpFieldOf, RuleOf, dec_of, decs_of, exp_field_of, exp_fields_of, exp_of, long_vid_of, part_of, pat_of, rule_of, rules_of, ty_of}
use Rattle.sml_tree.specs.TreeOf.{node_bind, node_clause, node_dec, node_exp, node_exp_field, node_function, node_part, node_rule}
use Rattle.sml_tree.specs.declared.ident.LongVid.{LongVid}
use Rattle.sml_tree.specs.declared.ident.Vid.{Vid}
use Rattle.sml_tree.specs.declared.tree.Bind.{Bind}
use Rattle.sml_tree.specs.declared.tree.Clause.{Clause}
use Rattle.sml_tree.specs.declared.tree.Dec.{Dec}
use Rattle.sml_tree.specs.declared.tree.Exp.{Exp, Exp-F, fold-roll-Exp}
use Rattle.sml_tree.specs.declared.tree.Exp.TheVariants as exps
use Rattle.sml_tree.specs.declared.tree.ExpField.{ExpField, fold_out-ExpField}
use Rattle.sml_tree.specs.declared.tree.Joint.{Joint}
use Rattle.sml_tree.specs.declared.tree.Joint.TheVariants as joint
use Rattle.sml_tree.specs.declared.tree.Part.{Part, fold_out-Part}
use Rattle.sml_tree.specs.declared.tree.Rule.{Rule, fold_out-Rule}
use Rattle.sml_tree.specs.declared.tree.Ty.{Ty}
use Rattle.core_rules.specs.Unbound.{Scoped, all_in, decs_in, decs_names, own_unbound, pat_names, unless_bound, value_at}
use Rattle.core_rules.specs.Values.{Env, long_value_in, plus}
use Rattle.name_scopes.specs.Nodes.{bind_phrase, clause_phrase, exp_phrase, rule_phrase}
use Rattle.name_scopes.specs.Placed.{AnyAt, At, FoundAt}
use Rattle.name_scopes.specs.declared.sought.Sought.{Sought}
use Rattle.name_scopes.proofs.Placing.{any-left, any-right, first-in, first-or-rest, none-in, own-at, parts-at, rest-in}

-- one of some phrases

pub any-none : (p : Sought) → AnyAt p [] → ⊥
any-none p h = none-in h.scoped h.is

pub any-here : (p : Sought) (s : Scoped) (ss : List Scoped) → FoundAt p s.scope s.phrase → AnyAt p (s ∷ ss)
any-here p s ss h = record { scoped = s; is = first-in s ss; at = h }

pub any-there : (p : Sought) (s : Scoped) (ss : List Scoped) → AnyAt p ss → AnyAt p (s ∷ ss)
any-there p s ss h = record { scoped = h.scoped; is = rest-in s ss h.is; at = h.at }

pub any-cases : (p : Sought) (s : Scoped) (ss : List Scoped) → AnyAt p (s ∷ ss) → FoundAt p s.scope s.phrase ⊎ AnyAt p ss
any-cases p s ss h = elim (first-or-rest s ss h.is) [
  | inl q ↦ inl (subst (λ (z : Scoped). FoundAt p z.scope z.phrase) (sym q) h.at)
  | inr k ↦ inr (record { scoped = h.scoped; is = k; at = h.at })
]

-- the same phrases
pub any-are : (p : Sought) (e : Env) (xs ys : List Phrase) → ys ≡ xs → AnyAt p (all_in e xs) → AnyAt p (all_in e ys)
any-are p e xs ys q h = subst (λ l. AnyAt p (all_in e l)) (sym q) h

-- the same expression
exp-are : (p : Sought) (e : Env) (x : Exp) (b : bare.Exp) → exp_of x ≡ b → FoundAt p e (exp b) → FoundAt p e (exp_phrase x)
exp-are p e x b q h = subst (λ z. FoundAt p e (exp z)) (sym q) h

-- bare expressions

function-at : (p : Sought) (e : Env) (q : Place) (f a : bare.Exp) → FoundAt p e (exp f) → FoundAt p e (exp (bare.app q f a))
function-at p e q f a h = parts-at p e (exp (bare.app q f a)) (any-here p _ _ h)

argument-at : (p : Sought) (e : Env) (q : Place) (f a : bare.Exp) → FoundAt p e (exp a) → FoundAt p e (exp (bare.app q f a))
argument-at p e q f a h = parts-at p e (exp (bare.app q f a)) (any-there p _ _ (any-here p _ [] h))

two-first : (p : Sought) (e : Env) (q : Place) (a b : bare.Exp) → FoundAt p e (exp a) → FoundAt p e (exp (tuple q (a ∷ b ∷ [])))
two-first p e q a b h = parts-at p e (exp (tuple q (a ∷ b ∷ []))) (any-here p _ _ h)

two-second : (p : Sought) (e : Env) (q : Place) (a b : bare.Exp) → FoundAt p e (exp b) → FoundAt p e (exp (tuple q (a ∷ b ∷ [])))
two-second p e q a b h = parts-at p e (exp (tuple q (a ∷ b ∷ []))) (any-there p _ _ (any-here p _ [] h))

pub rule-pat : (p : Sought) (e : Env) (q : Place) (a : bare.Pat) (b : bare.Exp) → FoundAt p e (pat a) → FoundAt p e (rule q a b)
rule-pat p e q a b h = parts-at p e (rule q a b) (any-here p _ _ h)

pub rule-exp : (p : Sought) (e : Env) (q : Place) (a : bare.Pat) (b : bare.Exp) → FoundAt p (plus e (pat_names e a)) (exp b) → FoundAt p e (rule q a b)
rule-exp p e q a b h = parts-at p e (rule q a b) (any-there p _ _ (any-here p _ [] h))

pub case-rules : (p : Sought) (e : Env) (q : Place) (a : bare.Exp) (rs : bare.Rules) → AnyAt p (all_in e (rule_list rs)) → FoundAt p e (exp (case_of q a rs))
case-rules p e q a rs h = function-at p e q (bare.fn q rs) a (parts-at p e (exp (bare.fn q rs)) h)

-- the parts of the forms

exp-field : (f : ExpField) → exp_field_of f ≡ record { label = f.label; exp = exp_of f.exp }
exp-field f = fold_out-ExpField bare.Dec bare.Exp RuleOf derived.Clause ExpFieldOf derived.Function (Operand Joint bare.Exp) RuleOf node_dec node_exp node_bind node_clause node_exp_field node_function node_part node_rule f

exp-fields : (fs : List ExpField) → exp_field_list (exp_fields_of (map exp_field_of fs)) ≡ map (λ f. exp_phrase f.exp) fs
exp-fields [] = refl
exp-fields (f ∷ fs) = ap₂ (λ a b. a ∷ b) (ap (λ (r : ExpFieldOf). exp r.exp) (exp-field f)) (exp-fields fs)

exp-numbered : (k : ℕ) (es : List Exp) → exp_field_list (numbered k (map exp_of es)) ≡ map exp_phrase es
exp-numbered k [] = refl
exp-numbered k (x ∷ es) = ap (λ l. exp_phrase x ∷ l) (exp-numbered (suc k) es)

rule-is : (r : Rule) → rule_of r ≡ record { place = r.place; pat = pat_of r.pat; exp = exp_of r.exp }
rule-is = fold_out-Rule bare.Dec bare.Exp RuleOf derived.Clause ExpFieldOf derived.Function (Operand Joint bare.Exp) RuleOf node_dec node_exp node_bind node_clause node_exp_field node_function node_part node_rule

exp-rules : (rs : List Rule) → rule_list (rules_of (map rule_of rs)) ≡ map rule_phrase rs
exp-rules [] = refl
exp-rules (r ∷ rs) = ap₂ (λ a b. a ∷ b) (ap (λ (z : RuleOf). rule z.place z.pat z.exp) (rule-is r)) (exp-rules rs)

exp-list : (p : Sought) (e : Env) (q : Place) (es : List Exp) → AnyAt p (all_in e (map exp_phrase es)) → FoundAt p e (exp (list_of q (map exp_of es)))
exp-list p e q [] h = absurd (any-none p h)
exp-list p e q (x ∷ es) h = elim (any-cases p _ _ h) [
  | inl k ↦ argument-at p e q _ _ (two-first p e q (exp_of x) (list_of q (map exp_of es)) k)
  | inr k ↦ argument-at p e q _ _ (two-second p e q (exp_of x) (list_of q (map exp_of es)) (exp-list p e q es k))
]

sequence-first : (p : Sought) (e : Env) (q : Place) (a : bare.Exp) (es : List Exp) → FoundAt p e (exp a) → FoundAt p e (exp (sequence_of q a (map exp_of es)))
sequence-first p e q a [] h = h
sequence-first p e q a (x ∷ es) h = argument-at p e q _ a h

sequence-rest : (p : Sought) (e : Env) (q : Place) (a : bare.Exp) (es : List Exp) → AnyAt p (all_in e (map exp_phrase es)) → FoundAt p e (exp (sequence_of q a (map exp_of es)))
sequence-rest p e q a [] h = absurd (any-none p h)
sequence-rest p e q a (x ∷ es) h =
    let inner : FoundAt p e (exp (sequence_of q (exp_of x) (map exp_of es))) = elim (any-cases p _ _ h) [
      | inl k ↦ sequence-first p e q (exp_of x) es k
      | inr k ↦ sequence-rest p e q (exp_of x) es k
    ] in
    case-rules p e q a (bare.rule q (bare.wild_pat q) (sequence_of q (exp_of x) (map exp_of es)) bare.no_rules)
    (any-here p _ [] (rule-exp p e q (bare.wild_pat q) (sequence_of q (exp_of x) (map exp_of es)) inner))

calls-first : (p : Sought) (e : Env) (q : Place) (f : bare.Exp) (es : List Exp) → FoundAt p e (exp f) → FoundAt p e (exp (app_of q f (map exp_of es)))
calls-first p e q f [] h = h
calls-first p e q f (x ∷ es) h = calls-first p e q (bare.app q f (exp_of x)) es (function-at p e q f (exp_of x) h)

calls-rest : (p : Sought) (e : Env) (q : Place) (f : bare.Exp) (es : List Exp) → AnyAt p (all_in e (map exp_phrase es)) → FoundAt p e (exp (app_of q f (map exp_of es)))
calls-rest p e q f [] h = absurd (any-none p h)
calls-rest p e q f (x ∷ es) h = elim (any-cases p _ _ h) [
  | inl k ↦ calls-first p e q (bare.app q f (exp_of x)) es (argument-at p e q f (exp_of x) k)
  | inr k ↦ calls-rest p e q (bare.app q f (exp_of x)) es k
]

-- chains

join-left : (p : Sought) (e : Env) (j : Joint) (q : Place) (a b : bare.Exp) → FoundAt p e (exp a) → FoundAt p e (exp (join j q a b))
join-left p e joint.AndAlso q a b h = argument-at p e q _ a h
join-left p e joint.OrElse q a b h = argument-at p e q _ a h
join-left p e (joint.Infix r v) q a b h = argument-at p e q _ _ (two-first p e q a b h)

join-right : (p : Sought) (e : Env) (j : Joint) (q : Place) (a b : bare.Exp) → FoundAt p e (exp b) → FoundAt p e (exp (join j q a b))
join-right p e joint.AndAlso q a b h = case-rules p e q a _ (any-here p _ _ (rule-exp p e q _ b h))
join-right p e joint.OrElse q a b h = case-rules p e q a _ (any-there p _ _ (any-here p _ [] (rule-exp p e q _ b h)))
join-right p e (joint.Infix r v) q a b h = argument-at p e q _ _ (two-second p e q a b h)

join-vid : (p : Sought) (e : Env) (j : Joint) (r : Place) (v : Vid) (q : Place) (a b : bare.Exp) → j ≡ joint.Infix r v
    → At p (unless_bound (long_value_in e (short v)) (value_at r (short v))) → FoundAt p e (exp (join j q a b))
join-vid p e j r v q a b is h =
    subst (λ z. FoundAt p e (exp (join z q a b))) (sym is)
    (function-at p e q (bare.vid_exp r (short v)) (tuple q (a ∷ b ∷ [])) (own-at p e (exp (bare.vid_exp r (short v))) h))

part-is : (o : Part) → part_of o ≡ record { joint = o.joint; place = o.place; operand = exp_of o.exp }
part-is = fold_out-Part bare.Dec bare.Exp RuleOf derived.Clause ExpFieldOf derived.Function (Operand Joint bare.Exp) RuleOf node_dec node_exp node_bind node_clause node_exp_field node_function node_part node_rule

part-exp : (p : Sought) (e : Env) (o : Part) → FoundAt p e (exp_phrase o.exp) → FoundAt p e (exp (part_of o).operand)
part-exp p e o h = subst (λ (z : Operand Joint bare.Exp). FoundAt p e (exp z.operand)) (sym (part-is o)) h

part-joint : (o : Part) (j : Joint) → o.joint ≡ j → (part_of o).joint ≡ j
part-joint o j is = ap (λ (z : Operand Joint bare.Exp). z.joint) (part-is o) ∙ is

left-first : (p : Sought) (e : Env) (q : Place) (a : bare.Exp) (os : List Part) → FoundAt p e (exp a) → FoundAt p e (exp (left_chain join q a (map part_of os)))
left-first p e q a [] h = h
left-first p e q a (o ∷ os) h = left-first p e q (join (part_of o).joint q a (part_of o).operand) os (join-left p e (part_of o).joint q a (part_of o).operand h)

left-rest : (p : Sought) (e : Env) (q : Place) (a : bare.Exp) (os : List Part) → AnyAt p (all_in e (map (λ o. exp_phrase o.exp) os))
    → FoundAt p e (exp (left_chain join q a (map part_of os)))
left-rest p e q a [] h = absurd (any-none p h)
left-rest p e q a (o ∷ os) h = elim (any-cases p _ _ h) [
  | inl k ↦ left-first p e q (join (part_of o).joint q a (part_of o).operand) os (join-right p e (part_of o).joint q a (part_of o).operand (part-exp p e o k))
  | inr k ↦ left-rest p e q (join (part_of o).joint q a (part_of o).operand) os k
]

left-vid : (p : Sought) (e : Env) (q : Place) (a : bare.Exp) (os : List Part) (o : Part) (r : Place) (v : Vid) → Contains os o → o.joint ≡ joint.Infix r v
    → At p (unless_bound (long_value_in e (short v)) (value_at r (short v))) → FoundAt p e (exp (left_chain join q a (map part_of os)))
left-vid p e q a [] o r v has is h = absurd (none-in o has)
left-vid p e q a (b ∷ os) o r v has is h = elim (first-or-rest b os has) [
  | inl same ↦ left-first p e q (join (part_of b).joint q a (part_of b).operand) os
      (join-vid p e (part_of b).joint r v q a (part_of b).operand (part-joint b (joint.Infix r v) (ap (λ (z : Part). z.joint) same ∙ is)) h)
  | inr k ↦ left-vid p e q (join (part_of b).joint q a (part_of b).operand) os o r v k is h
]

right-first : (p : Sought) (e : Env) (q : Place) (a : bare.Exp) (os : List Part) → FoundAt p e (exp a) → FoundAt p e (exp (right_chain join q a (map part_of os)))
right-first p e q a [] h = h
right-first p e q a (o ∷ os) h = join-left p e (part_of o).joint q a _ h

right-rest : (p : Sought) (e : Env) (q : Place) (a : bare.Exp) (os : List Part) → AnyAt p (all_in e (map (λ o. exp_phrase o.exp) os))
    → FoundAt p e (exp (right_chain join q a (map part_of os)))
right-rest p e q a [] h = absurd (any-none p h)
right-rest p e q a (o ∷ os) h = join-right p e (part_of o).joint q a _ (elim (any-cases p _ _ h) [
  | inl k ↦ right-first p e (part_of o).place (part_of o).operand os (part-exp p e o k)
  | inr k ↦ right-rest p e (part_of o).place (part_of o).operand os k
])

right-vid : (p : Sought) (e : Env) (q : Place) (a : bare.Exp) (os : List Part) (o : Part) (r : Place) (v : Vid) → Contains os o → o.joint ≡ joint.Infix r v
    → At p (unless_bound (long_value_in e (short v)) (value_at r (short v))) → FoundAt p e (exp (right_chain join q a (map part_of os)))
right-vid p e q a [] o r v has is h = absurd (none-in o has)
right-vid p e q a (b ∷ os) o r v has is h = elim (first-or-rest b os has) [
  | inl same ↦ join-vid p e (part_of b).joint r v q a _ (part-joint b (joint.Infix r v) (ap (λ (z : Part). z.joint) same ∙ is)) h
  | inr k ↦ join-right p e (part_of b).joint q a _ (right-vid p e (part_of b).place (part_of b).operand os o r v k is h)
]

chain-first : (p : Sought) (e : Env) (right : Bool) (q : Place) (a : bare.Exp) (os : List Part) → FoundAt p e (exp a)
    → FoundAt p e (exp (derived.chain_of join right q a (map part_of os)))
chain-first p e true q a os h = right-first p e q a os h
chain-first p e false q a os h = left-first p e q a os h

chain-rest : (p : Sought) (e : Env) (right : Bool) (q : Place) (a : bare.Exp) (os : List Part) → AnyAt p (all_in e (map (λ o. exp_phrase o.exp) os))
    → FoundAt p e (exp (derived.chain_of join right q a (map part_of os)))
chain-rest p e true q a os h = right-rest p e q a os h
chain-rest p e false q a os h = left-rest p e q a os h

chain-vid : (p : Sought) (e : Env) (right : Bool) (q : Place) (a : bare.Exp) (os : List Part) (o : Part) (r : Place) (v : Vid) → Contains os o → o.joint ≡ joint.Infix r v
    → At p (unless_bound (long_value_in e (short v)) (value_at r (short v))) → FoundAt p e (exp (derived.chain_of join right q a (map part_of os)))
chain-vid p e true q a os o r v has is h = right-vid p e q a os o r v has is h
chain-vid p e false q a os o r v has is h = left-vid p e q a os o r v has is h

-- rules, bindings and clauses

pub rule-in-pat : (p : Sought) (e : Env) (r : Rule) → FoundAt p e (pat (pat_of r.pat)) → FoundAt p e (rule_phrase r)
rule-in-pat p e r h = rule-pat p e r.place (pat_of r.pat) (exp_of r.exp) h

pub rule-in-exp : (p : Sought) (e : Env) (r : Rule) → FoundAt p (plus e (pat_names e (pat_of r.pat))) (exp_phrase r.exp) → FoundAt p e (rule_phrase r)
rule-in-exp p e r h = rule-exp p e r.place (pat_of r.pat) (exp_of r.exp) h

pub bind-in-pat : (p : Sought) (e : Env) (b : Bind) → FoundAt p e (pat (pat_of b.pat)) → FoundAt p e (bind_phrase b)
bind-in-pat p e b h = parts-at p e (bind_phrase b) (any-here p _ _ h)

pub bind-in-exp : (p : Sought) (e : Env) (b : Bind) → FoundAt p e (exp_phrase b.exp) → FoundAt p e (bind_phrase b)
bind-in-exp p e b h = parts-at p e (bind_phrase b) (any-there p _ _ (any-here p _ [] h))

pub clause-in-pats : (p : Sought) (e : Env) (c : Clause) → FoundAt p e (pat (one_or_tuple_pat c.place (map pat_of c.pats.items))) → FoundAt p e (clause_phrase c)
clause-in-pats p e c h = rule-pat p e c.place (one_or_tuple_pat c.place (map pat_of c.pats.items)) (exp_of c.exp) h

pub clause-in-exp : (p : Sought) (e : Env) (c : Clause) → FoundAt p (plus e (pat_names e (one_or_tuple_pat c.place (map pat_of c.pats.items)))) (exp_phrase c.exp)
    → FoundAt p e (clause_phrase c)
clause-in-exp p e c h = rule-exp p e c.place (one_or_tuple_pat c.place (map pat_of c.pats.items)) (exp_of c.exp) h

-- the nodes

is-Vid : (x : Exp) (q : Place) (v : LongVid) → x ≡ exps.Vid q v → exp_of x ≡ bare.vid_exp q (long_vid_of v)
is-Vid x q v is = ap exp_of is ∙ ap exp_of (sym (exps.rolls-Vid q v)) ∙ fold-roll-Exp bare.Dec bare.Exp RuleOf derived.Clause ExpFieldOf derived.Function (Operand Joint bare.Exp) RuleOf node_dec node_exp node_bind node_clause node_exp_field node_function node_part node_rule (Exp-F.Vid q v)

is-Record : (x : Exp) (q : Place) (fs : Vec ExpField Global) → x ≡ exps.Record q fs → exp_of x ≡ bare.fields_exp q (exp_fields_of (map exp_field_of fs.items))
is-Record x q fs is = ap exp_of is ∙ ap exp_of (sym (exps.rolls-Record q fs)) ∙ fold-roll-Exp bare.Dec bare.Exp RuleOf derived.Clause ExpFieldOf derived.Function (Operand Joint bare.Exp) RuleOf node_dec node_exp node_bind node_clause node_exp_field node_function node_part node_rule (Exp-F.Record q fs)

is-Tuple : (x : Exp) (q : Place) (es : Vec Exp Global) → x ≡ exps.Tuple q es → exp_of x ≡ tuple q (map exp_of es.items)
is-Tuple x q es is = ap exp_of is ∙ ap exp_of (sym (exps.rolls-Tuple q es)) ∙ fold-roll-Exp bare.Dec bare.Exp RuleOf derived.Clause ExpFieldOf derived.Function (Operand Joint bare.Exp) RuleOf node_dec node_exp node_bind node_clause node_exp_field node_function node_part node_rule (Exp-F.Tuple q es)

is-List : (x : Exp) (q : Place) (es : Vec Exp Global) → x ≡ exps.List q es → exp_of x ≡ list_of q (map exp_of es.items)
is-List x q es is = ap exp_of is ∙ ap exp_of (sym (exps.rolls-List q es)) ∙ fold-roll-Exp bare.Dec bare.Exp RuleOf derived.Clause ExpFieldOf derived.Function (Operand Joint bare.Exp) RuleOf node_dec node_exp node_bind node_clause node_exp_field node_function node_part node_rule (Exp-F.List q es)

is-Sequence : (x : Exp) (q : Place) (first : Box Exp Global) (rest : Vec Exp Global) → x ≡ exps.Sequence q first rest → exp_of x ≡ sequence_of q (exp_of first.value) (map exp_of rest.items)
is-Sequence x q first rest is = ap exp_of is ∙ ap exp_of (sym (exps.rolls-Sequence q first rest)) ∙ fold-roll-Exp bare.Dec bare.Exp RuleOf derived.Clause ExpFieldOf derived.Function (Operand Joint bare.Exp) RuleOf node_dec node_exp node_bind node_clause node_exp_field node_function node_part node_rule (Exp-F.Sequence q first rest)

is-Let : (x : Exp) (q : Place) (ds : Vec Dec Global) (body : Box Exp Global) → x ≡ exps.Let q ds body → exp_of x ≡ bare.let_in q (decs_of (map dec_of ds.items)) (exp_of body.value)
is-Let x q ds body is = ap exp_of is ∙ ap exp_of (sym (exps.rolls-Let q ds body)) ∙ fold-roll-Exp bare.Dec bare.Exp RuleOf derived.Clause ExpFieldOf derived.Function (Operand Joint bare.Exp) RuleOf node_dec node_exp node_bind node_clause node_exp_field node_function node_part node_rule (Exp-F.Let q ds body)

is-Apply : (x : Exp) (q : Place) (first : Box Exp Global) (rest : Vec Exp Global) → x ≡ exps.Apply q first rest → exp_of x ≡ app_of q (exp_of first.value) (map exp_of rest.items)
is-Apply x q first rest is = ap exp_of is ∙ ap exp_of (sym (exps.rolls-Apply q first rest)) ∙ fold-roll-Exp bare.Dec bare.Exp RuleOf derived.Clause ExpFieldOf derived.Function (Operand Joint bare.Exp) RuleOf node_dec node_exp node_bind node_clause node_exp_field node_function node_part node_rule (Exp-F.Apply q first rest)

is-Chain : (x : Exp) (q : Place) (right : Bool) (first : Box Exp Global) (parts : Vec Part Global) → x ≡ exps.Chain q right first parts
    → exp_of x ≡ derived.chain_of join right q (exp_of first.value) (map part_of parts.items)
is-Chain x q right first parts is = ap exp_of is ∙ ap exp_of (sym (exps.rolls-Chain q right first parts)) ∙ fold-roll-Exp bare.Dec bare.Exp RuleOf derived.Clause ExpFieldOf derived.Function (Operand Joint bare.Exp) RuleOf node_dec node_exp node_bind node_clause node_exp_field node_function node_part node_rule (Exp-F.Chain q right first parts)

is-Typed : (x : Exp) (q : Place) (body : Box Exp Global) (t : Ty) → x ≡ exps.Typed q body t → exp_of x ≡ bare.typed q (exp_of body.value) (ty_of t)
is-Typed x q body t is = ap exp_of is ∙ ap exp_of (sym (exps.rolls-Typed q body t)) ∙ fold-roll-Exp bare.Dec bare.Exp RuleOf derived.Clause ExpFieldOf derived.Function (Operand Joint bare.Exp) RuleOf node_dec node_exp node_bind node_clause node_exp_field node_function node_part node_rule (Exp-F.Typed q body t)

is-Handle : (x : Exp) (q : Place) (body : Box Exp Global) (rs : Vec Rule Global) → x ≡ exps.Handle q body rs → exp_of x ≡ bare.handle q (exp_of body.value) (rules_of (map rule_of rs.items))
is-Handle x q body rs is = ap exp_of is ∙ ap exp_of (sym (exps.rolls-Handle q body rs)) ∙ fold-roll-Exp bare.Dec bare.Exp RuleOf derived.Clause ExpFieldOf derived.Function (Operand Joint bare.Exp) RuleOf node_dec node_exp node_bind node_clause node_exp_field node_function node_part node_rule (Exp-F.Handle q body rs)

is-Raise : (x : Exp) (q : Place) (body : Box Exp Global) → x ≡ exps.Raise q body → exp_of x ≡ bare.raise q (exp_of body.value)
is-Raise x q body is = ap exp_of is ∙ ap exp_of (sym (exps.rolls-Raise q body)) ∙ fold-roll-Exp bare.Dec bare.Exp RuleOf derived.Clause ExpFieldOf derived.Function (Operand Joint bare.Exp) RuleOf node_dec node_exp node_bind node_clause node_exp_field node_function node_part node_rule (Exp-F.Raise q body)

is-Fn : (x : Exp) (q : Place) (rs : Vec Rule Global) → x ≡ exps.Fn q rs → exp_of x ≡ bare.fn q (rules_of (map rule_of rs.items))
is-Fn x q rs is = ap exp_of is ∙ ap exp_of (sym (exps.rolls-Fn q rs)) ∙ fold-roll-Exp bare.Dec bare.Exp RuleOf derived.Clause ExpFieldOf derived.Function (Operand Joint bare.Exp) RuleOf node_dec node_exp node_bind node_clause node_exp_field node_function node_part node_rule (Exp-F.Fn q rs)

pub exp-Vid : (p : Sought) (e : Env) (x : Exp) (q : Place) (v : LongVid) → x ≡ exps.Vid q v → At p (own_unbound e (exp (bare.vid_exp q (long_vid_of v)))) → FoundAt p e (exp_phrase x)
exp-Vid p e x q v is h = exp-are p e x _ (is-Vid x q v is) (own-at p e (exp (bare.vid_exp q (long_vid_of v))) h)

pub exp-Record : (p : Sought) (e : Env) (x : Exp) (q : Place) (fs : Vec ExpField Global) → x ≡ exps.Record q fs → AnyAt p (all_in e (map (λ f. exp_phrase f.exp) fs.items)) → FoundAt p e (exp_phrase x)
exp-Record p e x q fs is h =
    exp-are p e x _ (is-Record x q fs is) (parts-at p e (exp (bare.fields_exp q (exp_fields_of (map exp_field_of fs.items)))) (any-are p e _ _ (exp-fields fs.items) h))

pub exp-Tuple : (p : Sought) (e : Env) (x : Exp) (q : Place) (es : Vec Exp Global) → x ≡ exps.Tuple q es → AnyAt p (all_in e (map exp_phrase es.items)) → FoundAt p e (exp_phrase x)
exp-Tuple p e x q es is h = exp-are p e x _ (is-Tuple x q es is) (parts-at p e (exp (tuple q (map exp_of es.items))) (any-are p e _ _ (exp-numbered 1 es.items) h))

pub exp-List : (p : Sought) (e : Env) (x : Exp) (q : Place) (es : Vec Exp Global) → x ≡ exps.List q es → AnyAt p (all_in e (map exp_phrase es.items)) → FoundAt p e (exp_phrase x)
exp-List p e x q es is h = exp-are p e x _ (is-List x q es is) (exp-list p e q es.items h)

pub exp-Sequence-first : (p : Sought) (e : Env) (x : Exp) (q : Place) (first : Box Exp Global) (rest : Vec Exp Global) → x ≡ exps.Sequence q first rest
    → FoundAt p e (exp_phrase first.value) → FoundAt p e (exp_phrase x)
exp-Sequence-first p e x q first rest is h = exp-are p e x _ (is-Sequence x q first rest is) (sequence-first p e q (exp_of first.value) rest.items h)

pub exp-Sequence-rest : (p : Sought) (e : Env) (x : Exp) (q : Place) (first : Box Exp Global) (rest : Vec Exp Global) → x ≡ exps.Sequence q first rest
    → AnyAt p (all_in e (map exp_phrase rest.items)) → FoundAt p e (exp_phrase x)
exp-Sequence-rest p e x q first rest is h = exp-are p e x _ (is-Sequence x q first rest is) (sequence-rest p e q (exp_of first.value) rest.items h)

pub exp-Let-decs : (p : Sought) (e : Env) (x : Exp) (q : Place) (ds : Vec Dec Global) (body : Box Exp Global) → x ≡ exps.Let q ds body
    → AnyAt p (decs_in e (decs_of (map dec_of ds.items))) → FoundAt p e (exp_phrase x)
exp-Let-decs p e x q ds body is h =
    exp-are p e x _ (is-Let x q ds body is) (parts-at p e (exp (bare.let_in q (decs_of (map dec_of ds.items)) (exp_of body.value))) (any-left p _ _ h))

pub exp-Let-body : (p : Sought) (e : Env) (x : Exp) (q : Place) (ds : Vec Dec Global) (body : Box Exp Global) → x ≡ exps.Let q ds body
    → FoundAt p (plus e (decs_names e (decs_of (map dec_of ds.items)))) (exp_phrase body.value) → FoundAt p e (exp_phrase x)
exp-Let-body p e x q ds body is h =
    exp-are p e x _ (is-Let x q ds body is)
    (parts-at p e (exp (bare.let_in q (decs_of (map dec_of ds.items)) (exp_of body.value))) (any-right p (decs_in e (decs_of (map dec_of ds.items))) _ (any-here p _ [] h)))

pub exp-Apply-first : (p : Sought) (e : Env) (x : Exp) (q : Place) (first : Box Exp Global) (rest : Vec Exp Global) → x ≡ exps.Apply q first rest
    → FoundAt p e (exp_phrase first.value) → FoundAt p e (exp_phrase x)
exp-Apply-first p e x q first rest is h = exp-are p e x _ (is-Apply x q first rest is) (calls-first p e q (exp_of first.value) rest.items h)

pub exp-Apply-rest : (p : Sought) (e : Env) (x : Exp) (q : Place) (first : Box Exp Global) (rest : Vec Exp Global) → x ≡ exps.Apply q first rest
    → AnyAt p (all_in e (map exp_phrase rest.items)) → FoundAt p e (exp_phrase x)
exp-Apply-rest p e x q first rest is h = exp-are p e x _ (is-Apply x q first rest is) (calls-rest p e q (exp_of first.value) rest.items h)

pub exp-Chain-first : (p : Sought) (e : Env) (x : Exp) (q : Place) (right : Bool) (first : Box Exp Global) (parts : Vec Part Global) → x ≡ exps.Chain q right first parts
    → FoundAt p e (exp_phrase first.value) → FoundAt p e (exp_phrase x)
exp-Chain-first p e x q right first parts is h = exp-are p e x _ (is-Chain x q right first parts is) (chain-first p e right q (exp_of first.value) parts.items h)

pub exp-Chain-rest : (p : Sought) (e : Env) (x : Exp) (q : Place) (right : Bool) (first : Box Exp Global) (parts : Vec Part Global) → x ≡ exps.Chain q right first parts
    → AnyAt p (all_in e (map (λ o. exp_phrase o.exp) parts.items)) → FoundAt p e (exp_phrase x)
exp-Chain-rest p e x q right first parts is h = exp-are p e x _ (is-Chain x q right first parts is) (chain-rest p e right q (exp_of first.value) parts.items h)

-- an infix identifier
pub exp-Chain-vid : (p : Sought) (e : Env) (x : Exp) (q : Place) (right : Bool) (first : Box Exp Global) (parts : Vec Part Global) → x ≡ exps.Chain q right first parts
    → (o : Part) (r : Place) (v : Vid) → Contains parts.items o → o.joint ≡ joint.Infix r v → At p (unless_bound (long_value_in e (short v)) (value_at r (short v)))
    → FoundAt p e (exp_phrase x)
exp-Chain-vid p e x q right first parts is o r v has by h = exp-are p e x _ (is-Chain x q right first parts is) (chain-vid p e right q (exp_of first.value) parts.items o r v has by h)

pub exp-Typed-body : (p : Sought) (e : Env) (x : Exp) (q : Place) (body : Box Exp Global) (t : Ty) → x ≡ exps.Typed q body t → FoundAt p e (exp_phrase body.value) → FoundAt p e (exp_phrase x)
exp-Typed-body p e x q body t is h = exp-are p e x _ (is-Typed x q body t is) (parts-at p e (exp (bare.typed q (exp_of body.value) (ty_of t))) (any-here p _ _ h))

pub exp-Typed-ty : (p : Sought) (e : Env) (x : Exp) (q : Place) (body : Box Exp Global) (t : Ty) → x ≡ exps.Typed q body t → FoundAt p e (ty (ty_of t)) → FoundAt p e (exp_phrase x)
exp-Typed-ty p e x q body t is h = exp-are p e x _ (is-Typed x q body t is) (parts-at p e (exp (bare.typed q (exp_of body.value) (ty_of t))) (any-there p _ _ (any-here p _ [] h)))

pub exp-Handle-body : (p : Sought) (e : Env) (x : Exp) (q : Place) (body : Box Exp Global) (rs : Vec Rule Global) → x ≡ exps.Handle q body rs
    → FoundAt p e (exp_phrase body.value) → FoundAt p e (exp_phrase x)
exp-Handle-body p e x q body rs is h = exp-are p e x _ (is-Handle x q body rs is) (parts-at p e (exp (bare.handle q (exp_of body.value) (rules_of (map rule_of rs.items)))) (any-here p _ _ h))

pub exp-Handle-rules : (p : Sought) (e : Env) (x : Exp) (q : Place) (body : Box Exp Global) (rs : Vec Rule Global) → x ≡ exps.Handle q body rs
    → AnyAt p (all_in e (map rule_phrase rs.items)) → FoundAt p e (exp_phrase x)
exp-Handle-rules p e x q body rs is h =
    exp-are p e x _ (is-Handle x q body rs is)
    (parts-at p e (exp (bare.handle q (exp_of body.value) (rules_of (map rule_of rs.items)))) (any-there p _ _ (any-are p e _ _ (exp-rules rs.items) h)))

pub exp-Raise : (p : Sought) (e : Env) (x : Exp) (q : Place) (body : Box Exp Global) → x ≡ exps.Raise q body → FoundAt p e (exp_phrase body.value) → FoundAt p e (exp_phrase x)
exp-Raise p e x q body is h = exp-are p e x _ (is-Raise x q body is) (parts-at p e (exp (bare.raise q (exp_of body.value))) (any-here p _ [] h))

pub exp-Fn : (p : Sought) (e : Env) (x : Exp) (q : Place) (rs : Vec Rule Global) → x ≡ exps.Fn q rs → AnyAt p (all_in e (map rule_phrase rs.items)) → FoundAt p e (exp_phrase x)
exp-Fn p e x q rs is h = exp-are p e x _ (is-Fn x q rs is) (parts-at p e (exp (bare.fn q (rules_of (map rule_of rs.items)))) (any-are p e _ _ (exp-rules rs.items) h))
