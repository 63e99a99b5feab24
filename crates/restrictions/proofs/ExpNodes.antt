-- What is broken in each node of expressions.
use Rattle.std.proofs.Common.{◌≡◌, ℕ, suc, Bool, true, false, List, [], ◌∷◌, ◌++◌, map, Vec, Box, Global, refl, sym, ap, ap₂, subst, ◌∙◌, append_assoc}
use Rattle.std.specs.Prelude.{flat_map}
use Rattle.std.proofs.lemmas.List.{append-nil}
use Rattle.mlc_base.specs.declared.place.Place.{Place}
use Rattle.mlc_names.specs.declared.label.Label.TheVariants.{Number}
use Rattle.sml_tree.specs.BareTree as bare
use Rattle.sml_tree.specs.Derived.{Operand, app_of, join, left_chain, list_of, numbered, right_chain, sequence_of, tuple}
use Rattle.sml_tree.specs.Derived as derived
use Rattle.sml_tree.specs.TreeOf.{ExpFieldOf, RuleOf, dec_of, decs_of, exp_field_of, exp_fields_of, exp_of, part_of, rule_of, rules_of}
use Rattle.sml_tree.specs.TreeOf.{node_bind, node_clause, node_dec, node_exp, node_exp_field, node_function, node_part, node_rule}
use Rattle.sml_tree.specs.declared.ident.BuiltIn.{BuiltIn as Built}
use Rattle.sml_tree.specs.declared.ident.Constant.{Constant as SourceConstant}
use Rattle.sml_tree.specs.declared.ident.LongVid.{LongVid}
use Rattle.sml_tree.specs.declared.tree.Dec.{Dec}
use Rattle.sml_tree.specs.declared.tree.Exp.{Exp, Exp-F, fold-roll-Exp}
use Rattle.sml_tree.specs.declared.tree.Exp.TheVariants as exps
use Rattle.sml_tree.specs.declared.tree.ExpField.{ExpField, fold_out-ExpField}
use Rattle.sml_tree.specs.declared.tree.Joint.{Joint}
use Rattle.sml_tree.specs.declared.tree.Joint.TheVariants as joint
use Rattle.sml_tree.specs.declared.tree.Part.{Part, fold_out-Part}
use Rattle.sml_tree.specs.declared.tree.Rule.{Rule, fold_out-Rule}
use Rattle.sml_tree.specs.declared.tree.Ty.{Ty}
use Rattle.core_rules.specs.Restrictions.{distinct, exp_labels}
use Rattle.core_rules.specs.Words.{same_label}
use Rattle.restrictions.specs.Breaks.{decs_breaks, exp_breaks, exp_fields_breaks, pat_breaks, rules_breaks}
use Rattle.restrictions.specs.Found.{StandFor}
use Rattle.restrictions.specs.Nodes.{dec_places, exp_places, field_places, part_places, rule_places, ty_places, unless_once}
use Rattle.restrictions.proofs.ByKeys.{counted, counted-once}
use Rattle.restrictions.proofs.Standing.{stand-are, stand-both, stand-same, stand-swap, stand-then}
use Rattle.restrictions.proofs.TyNodes.{once-none}

exp-field : (f : ExpField) → exp_field_of f ≡ record { label = f.label; exp = exp_of f.exp }
exp-field f = fold_out-ExpField bare.Dec bare.Exp RuleOf derived.Clause ExpFieldOf derived.Function (Operand Joint bare.Exp) RuleOf node_dec node_exp node_bind node_clause node_exp_field node_function node_part node_rule f

exp-fields : (s : List ℕ) (fs : List ExpField) → exp_fields_breaks s (exp_fields_of (map exp_field_of fs)) ≡ flat_map (field_places s) fs
exp-fields s [] = refl
exp-fields s (f ∷ fs) = ap₂ (λ a b. a ++ b) (ap (λ (r : ExpFieldOf). exp_breaks s r.exp) (exp-field f)) (exp-fields s fs)

exp-field-labels : (fs : List ExpField) → exp_labels (exp_fields_of (map exp_field_of fs)) ≡ map (λ f. f.label) fs
exp-field-labels [] = refl
exp-field-labels (f ∷ fs) = ap₂ (λ a b. a ∷ b) (ap (λ (r : ExpFieldOf). r.label) (exp-field f)) (exp-field-labels fs)

exp-numbered : (s : List ℕ) (k : ℕ) (es : List Exp) → exp_fields_breaks s (numbered k (map exp_of es)) ≡ flat_map (exp_places s) es
exp-numbered s k [] = refl
exp-numbered s k (e ∷ es) = ap (λ l. exp_places s e ++ l) (exp-numbered s (suc k) es)

exp-counted : (k : ℕ) (es : List bare.Exp) → exp_labels (numbered k es) ≡ counted k es
exp-counted k [] = refl
exp-counted k (e ∷ es) = ap (λ l. Number k ∷ l) (exp-counted (suc k) es)

-- a tuple breaks nothing itself
pub exp-tuple : (s : List ℕ) (p : Place) (es : List bare.Exp) → exp_breaks s (tuple p es) ≡ exp_fields_breaks s (numbered 1 es)
exp-tuple s p es = once-none (exp_labels (numbered 1 es)) p (exp_fields_breaks s (numbered 1 es)) (ap (distinct same_label) (exp-counted 1 es) ∙ counted-once 1 es)

exp-two : (s : List ℕ) (p : Place) (a b : bare.Exp) → exp_breaks s (tuple p (a ∷ b ∷ [])) ≡ exp_breaks s a ++ exp_breaks s b
exp-two s p a b = exp-tuple s p (a ∷ b ∷ []) ∙ ap (λ l. exp_breaks s a ++ l) (append-nil (exp_breaks s b))

exp-list : (s : List ℕ) (p : Place) (es : List Exp) → exp_breaks s (list_of p (map exp_of es)) ≡ flat_map (exp_places s) es
exp-list s p [] = refl
exp-list s p (e ∷ es) = exp-two s p (exp_of e) (list_of p (map exp_of es)) ∙ ap (λ l. exp_places s e ++ l) (exp-list s p es)

-- what is tried stands before the rules in the text, and behind them in the bare tree

exp-sequence : (s : List ℕ) (p : Place) (e : bare.Exp) (es : List Exp) → StandFor (exp_breaks s e ++ flat_map (exp_places s) es) (exp_breaks s (sequence_of p e (map exp_of es)))
exp-sequence s p e [] = stand-are _ _ (append-nil (exp_breaks s e))
exp-sequence s p e (f ∷ es) =
    let rest = flat_map (exp_places s) (f ∷ es) in
    let inner = exp_breaks s (sequence_of p (exp_of f) (map exp_of es)) in
    stand-then _ (rest ++ exp_breaks s e) _ (stand-swap (exp_breaks s e) rest)
    (stand-both rest (exp_breaks s e) (inner ++ []) (exp_breaks s e) (stand-then rest inner _ (exp-sequence s p (exp_of f) es) (stand-are _ _ (sym (append-nil inner)))) (stand-same (exp_breaks s e)))

exp-calls : (s : List ℕ) (p : Place) (f : bare.Exp) (es : List Exp) → exp_breaks s (app_of p f (map exp_of es)) ≡ exp_breaks s f ++ flat_map (exp_places s) es
exp-calls s p f [] = sym (append-nil (exp_breaks s f))
exp-calls s p f (e ∷ es) = exp-calls s p (bare.app p f (exp_of e)) es ∙ append_assoc (exp_breaks s f) (exp_places s e) (flat_map (exp_places s) es)

rule-is : (s : List ℕ) (r : Rule) → pat_breaks (rule_of r).pat ++ exp_breaks s (rule_of r).exp ≡ rule_places s r
rule-is s r = ap (λ (z : RuleOf). pat_breaks z.pat ++ exp_breaks s z.exp) (fold_out-Rule bare.Dec bare.Exp RuleOf derived.Clause ExpFieldOf derived.Function (Operand Joint bare.Exp) RuleOf node_dec node_exp node_bind node_clause node_exp_field node_function node_part node_rule r)

exp-rules : (s : List ℕ) (rs : List Rule) → rules_breaks s (rules_of (map rule_of rs)) ≡ flat_map (rule_places s) rs
exp-rules s [] = refl
exp-rules s (r ∷ rs) = ap₂ (λ a b. a ++ b) (rule-is s r) (exp-rules s rs)

pub exp-decs : (s : List ℕ) (ds : List Dec) → decs_breaks s (decs_of (map dec_of ds)) ≡ flat_map (dec_places s) ds
exp-decs s [] = refl
exp-decs s (d ∷ ds) = ap (λ l. dec_places s d ++ l) (exp-decs s ds)

-- chains

part-is : (o : Part) → part_of o ≡ record { joint = o.joint; place = o.place; operand = exp_of o.exp }
part-is = fold_out-Part bare.Dec bare.Exp RuleOf derived.Clause ExpFieldOf derived.Function (Operand Joint bare.Exp) RuleOf node_dec node_exp node_bind node_clause node_exp_field node_function node_part node_rule

joined : (s : List ℕ) (j : Joint) (p : Place) (a b : bare.Exp) → StandFor (exp_breaks s a ++ exp_breaks s b) (exp_breaks s (join j p a b))
joined s joint.AndAlso p a b =
    stand-then _ (exp_breaks s b ++ exp_breaks s a) _ (stand-swap (exp_breaks s a) (exp_breaks s b)) (stand-are _ _ (ap (λ l. l ++ exp_breaks s a) (sym (append-nil (exp_breaks s b)))))
joined s joint.OrElse p a b =
    stand-then _ (exp_breaks s b ++ exp_breaks s a) _ (stand-swap (exp_breaks s a) (exp_breaks s b)) (stand-are _ _ (ap (λ l. l ++ exp_breaks s a) (sym (append-nil (exp_breaks s b)))))
joined s (joint.Infix q v) p a b = stand-are _ _ (sym (exp-two s p a b))

left-are : (s : List ℕ) (p : Place) (a : bare.Exp) (os : List Part) → StandFor (exp_breaks s a ++ flat_map (part_places s) os) (exp_breaks s (left_chain join p a (map part_of os)))
left-are s p a [] = stand-are _ _ (append-nil (exp_breaks s a))
left-are s p a (o ∷ os) =
    let A = exp_breaks s a in
    let B = part_places s o in
    let R = flat_map (part_places s) os in
    let J = join o.joint p a (exp_of o.exp) in
    stand-then _ ((A ++ B) ++ R) _ (stand-are _ _ (sym (append_assoc A B R)))
    (stand-then _ (exp_breaks s J ++ R) _ (stand-both (A ++ B) R (exp_breaks s J) R (joined s o.joint p a (exp_of o.exp)) (stand-same R))
    (subst (λ (z : Operand Joint bare.Exp). StandFor (exp_breaks s J ++ R) (exp_breaks s (left_chain join p (join z.joint p a z.operand) (map part_of os)))) (sym (part-is o)) (left-are s p J os)))

right-are : (s : List ℕ) (p : Place) (a : bare.Exp) (os : List Part) → StandFor (exp_breaks s a ++ flat_map (part_places s) os) (exp_breaks s (right_chain join p a (map part_of os)))
right-are s p a [] = stand-are _ _ (append-nil (exp_breaks s a))
right-are s p a (o ∷ os) =
    let A = exp_breaks s a in
    let B = part_places s o in
    let R = flat_map (part_places s) os in
    let C = right_chain join o.place (exp_of o.exp) (map part_of os) in
    stand-then _ (A ++ exp_breaks s C) _ (stand-both A (B ++ R) A (exp_breaks s C) (stand-same A) (right-are s o.place (exp_of o.exp) os))
    (subst (λ (z : Operand Joint bare.Exp). StandFor (A ++ exp_breaks s C) (exp_breaks s (join z.joint p a (right_chain join z.place z.operand (map part_of os))))) (sym (part-is o))
    (joined s o.joint p a C))

chain-are : (s : List ℕ) (r : Bool) (p : Place) (a : bare.Exp) (os : List Part) → StandFor (exp_breaks s a ++ flat_map (part_places s) os) (exp_breaks s (derived.chain_of join r p a (map part_of os)))
chain-are s true p a os = right-are s p a os
chain-are s false p a os = left-are s p a os

pub exp-Constant : (s : List ℕ) (x : Exp) (p : Place) (c : SourceConstant) → x ≡ exps.Constant p c → exp_places s x ≡ []
exp-Constant s x p c q = ap (exp_places s) q ∙ ap (exp_places s) (sym (exps.rolls-Constant p c)) ∙ ap (exp_breaks s) (fold-roll-Exp bare.Dec bare.Exp RuleOf derived.Clause ExpFieldOf derived.Function (Operand Joint bare.Exp) RuleOf node_dec node_exp node_bind node_clause node_exp_field node_function node_part node_rule (Exp-F.Constant p c))

pub exp-Vid : (s : List ℕ) (x : Exp) (p : Place) (v : LongVid) → x ≡ exps.Vid p v → exp_places s x ≡ []
exp-Vid s x p v q = ap (exp_places s) q ∙ ap (exp_places s) (sym (exps.rolls-Vid p v)) ∙ ap (exp_breaks s) (fold-roll-Exp bare.Dec bare.Exp RuleOf derived.Clause ExpFieldOf derived.Function (Operand Joint bare.Exp) RuleOf node_dec node_exp node_bind node_clause node_exp_field node_function node_part node_rule (Exp-F.Vid p v))

pub exp-BuiltIn : (s : List ℕ) (x : Exp) (p : Place) (b : Built) → x ≡ exps.BuiltIn p b → exp_places s x ≡ []
exp-BuiltIn s x p b q = ap (exp_places s) q ∙ ap (exp_places s) (sym (exps.rolls-BuiltIn p b)) ∙ ap (exp_breaks s) (fold-roll-Exp bare.Dec bare.Exp RuleOf derived.Clause ExpFieldOf derived.Function (Operand Joint bare.Exp) RuleOf node_dec node_exp node_bind node_clause node_exp_field node_function node_part node_rule (Exp-F.BuiltIn p b))

pub exp-Record : (s : List ℕ) (x : Exp) (p : Place) (fs : Vec ExpField Global) → x ≡ exps.Record p fs → flat_map (field_places s) fs.items ++ unless_once (map (λ f. f.label) fs.items) p ≡ exp_places s x
exp-Record s x p fs q =
    sym (ap (exp_places s) q ∙ ap (exp_places s) (sym (exps.rolls-Record p fs)) ∙ ap (exp_breaks s) (fold-roll-Exp bare.Dec bare.Exp RuleOf derived.Clause ExpFieldOf derived.Function (Operand Joint bare.Exp) RuleOf node_dec node_exp node_bind node_clause node_exp_field node_function node_part node_rule (Exp-F.Record p fs)) ∙ ap₂ (λ a ls. a ++ unless_once ls p) (exp-fields s fs.items) (exp-field-labels fs.items))

pub exp-Tuple : (s : List ℕ) (x : Exp) (p : Place) (es : Vec Exp Global) → x ≡ exps.Tuple p es → flat_map (exp_places s) es.items ≡ exp_places s x
exp-Tuple s x p es q =
    sym (ap (exp_places s) q ∙ ap (exp_places s) (sym (exps.rolls-Tuple p es)) ∙ ap (exp_breaks s) (fold-roll-Exp bare.Dec bare.Exp RuleOf derived.Clause ExpFieldOf derived.Function (Operand Joint bare.Exp) RuleOf node_dec node_exp node_bind node_clause node_exp_field node_function node_part node_rule (Exp-F.Tuple p es)) ∙ exp-tuple s p (map exp_of es.items) ∙ exp-numbered s 1 es.items)

pub exp-List : (s : List ℕ) (x : Exp) (p : Place) (es : Vec Exp Global) → x ≡ exps.List p es → flat_map (exp_places s) es.items ≡ exp_places s x
exp-List s x p es q =
    sym (ap (exp_places s) q ∙ ap (exp_places s) (sym (exps.rolls-List p es)) ∙ ap (exp_breaks s) (fold-roll-Exp bare.Dec bare.Exp RuleOf derived.Clause ExpFieldOf derived.Function (Operand Joint bare.Exp) RuleOf node_dec node_exp node_bind node_clause node_exp_field node_function node_part node_rule (Exp-F.List p es)) ∙ exp-list s p es.items)

pub exp-Sequence : (s : List ℕ) (x : Exp) (p : Place) (e : Box Exp Global) (es : Vec Exp Global) → x ≡ exps.Sequence p e es → StandFor (exp_places s e.value ++ flat_map (exp_places s) es.items) (exp_places s x)
exp-Sequence s x p e es q =
    subst (StandFor (exp_places s e.value ++ flat_map (exp_places s) es.items)) (sym (ap (exp_places s) q ∙ ap (exp_places s) (sym (exps.rolls-Sequence p e es)) ∙ ap (exp_breaks s) (fold-roll-Exp bare.Dec bare.Exp RuleOf derived.Clause ExpFieldOf derived.Function (Operand Joint bare.Exp) RuleOf node_dec node_exp node_bind node_clause node_exp_field node_function node_part node_rule (Exp-F.Sequence p e es)))) (exp-sequence s p (exp_of e.value) es.items)

pub exp-Let : (s : List ℕ) (x : Exp) (p : Place) (ds : Vec Dec Global) (e : Box Exp Global) → x ≡ exps.Let p ds e → flat_map (dec_places s) ds.items ++ exp_places s e.value ≡ exp_places s x
exp-Let s x p ds e q =
    sym (ap (exp_places s) q ∙ ap (exp_places s) (sym (exps.rolls-Let p ds e)) ∙ ap (exp_breaks s) (fold-roll-Exp bare.Dec bare.Exp RuleOf derived.Clause ExpFieldOf derived.Function (Operand Joint bare.Exp) RuleOf node_dec node_exp node_bind node_clause node_exp_field node_function node_part node_rule (Exp-F.Let p ds e)) ∙ ap (λ l. l ++ exp_places s e.value) (exp-decs s ds.items))

pub exp-Apply : (s : List ℕ) (x : Exp) (p : Place) (e : Box Exp Global) (es : Vec Exp Global) → x ≡ exps.Apply p e es → exp_places s e.value ++ flat_map (exp_places s) es.items ≡ exp_places s x
exp-Apply s x p e es q =
    sym (ap (exp_places s) q ∙ ap (exp_places s) (sym (exps.rolls-Apply p e es)) ∙ ap (exp_breaks s) (fold-roll-Exp bare.Dec bare.Exp RuleOf derived.Clause ExpFieldOf derived.Function (Operand Joint bare.Exp) RuleOf node_dec node_exp node_bind node_clause node_exp_field node_function node_part node_rule (Exp-F.Apply p e es)) ∙ exp-calls s p (exp_of e.value) es.items)

pub exp-Chain : (s : List ℕ) (x : Exp) (p : Place) (r : Bool) (e : Box Exp Global) (os : Vec Part Global) → x ≡ exps.Chain p r e os → StandFor (exp_places s e.value ++ flat_map (part_places s) os.items) (exp_places s x)
exp-Chain s x p r e os q =
    subst (StandFor (exp_places s e.value ++ flat_map (part_places s) os.items)) (sym (ap (exp_places s) q ∙ ap (exp_places s) (sym (exps.rolls-Chain p r e os)) ∙ ap (exp_breaks s) (fold-roll-Exp bare.Dec bare.Exp RuleOf derived.Clause ExpFieldOf derived.Function (Operand Joint bare.Exp) RuleOf node_dec node_exp node_bind node_clause node_exp_field node_function node_part node_rule (Exp-F.Chain p r e os)))) (chain-are s r p (exp_of e.value) os.items)

pub exp-Typed : (s : List ℕ) (x : Exp) (p : Place) (e : Box Exp Global) (t : Ty) → x ≡ exps.Typed p e t → exp_places s e.value ++ ty_places t ≡ exp_places s x
exp-Typed s x p e t q =
    sym (ap (exp_places s) q ∙ ap (exp_places s) (sym (exps.rolls-Typed p e t)) ∙ ap (exp_breaks s) (fold-roll-Exp bare.Dec bare.Exp RuleOf derived.Clause ExpFieldOf derived.Function (Operand Joint bare.Exp) RuleOf node_dec node_exp node_bind node_clause node_exp_field node_function node_part node_rule (Exp-F.Typed p e t)))

pub exp-Handle : (s : List ℕ) (x : Exp) (p : Place) (e : Box Exp Global) (rs : Vec Rule Global) → x ≡ exps.Handle p e rs → exp_places s e.value ++ flat_map (rule_places s) rs.items ≡ exp_places s x
exp-Handle s x p e rs q =
    sym (ap (exp_places s) q ∙ ap (exp_places s) (sym (exps.rolls-Handle p e rs)) ∙ ap (exp_breaks s) (fold-roll-Exp bare.Dec bare.Exp RuleOf derived.Clause ExpFieldOf derived.Function (Operand Joint bare.Exp) RuleOf node_dec node_exp node_bind node_clause node_exp_field node_function node_part node_rule (Exp-F.Handle p e rs)) ∙ ap (λ l. exp_places s e.value ++ l) (exp-rules s rs.items))

pub exp-Raise : (s : List ℕ) (x : Exp) (p : Place) (e : Box Exp Global) → x ≡ exps.Raise p e → exp_places s e.value ≡ exp_places s x
exp-Raise s x p e q =
    sym (ap (exp_places s) q ∙ ap (exp_places s) (sym (exps.rolls-Raise p e)) ∙ ap (exp_breaks s) (fold-roll-Exp bare.Dec bare.Exp RuleOf derived.Clause ExpFieldOf derived.Function (Operand Joint bare.Exp) RuleOf node_dec node_exp node_bind node_clause node_exp_field node_function node_part node_rule (Exp-F.Raise p e)))

pub exp-Fn : (s : List ℕ) (x : Exp) (p : Place) (rs : Vec Rule Global) → x ≡ exps.Fn p rs → flat_map (rule_places s) rs.items ≡ exp_places s x
exp-Fn s x p rs q =
    sym (ap (exp_places s) q ∙ ap (exp_places s) (sym (exps.rolls-Fn p rs)) ∙ ap (exp_breaks s) (fold-roll-Exp bare.Dec bare.Exp RuleOf derived.Clause ExpFieldOf derived.Function (Operand Joint bare.Exp) RuleOf node_dec node_exp node_bind node_clause node_exp_field node_function node_part node_rule (Exp-F.Fn p rs)) ∙ exp-rules s rs.items)
