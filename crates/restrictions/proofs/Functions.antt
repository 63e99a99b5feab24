-- Which nodes of expressions are a `fn`.
use Rattle.std.proofs.Common.{◌≡◌, ◌<◌, ℕ, Bool, true, false, List, [], ◌∷◌, map, length, get_or, nat_lt, Vec, Box, Global, refl, sym, ap, ◌∙◌, arith}
use Rattle.std.proofs.lemmas.Bool.{lt-ltb}
use Rattle.mlc_base.specs.declared.place.Place.{Place}
use Rattle.sml_tree.specs.BareTree as bare
use Rattle.sml_tree.specs.Derived.{Operand, app_of, chain_of, join, left_chain, list_of, right_chain, sequence_of}
use Rattle.sml_tree.specs.Derived as derived
use Rattle.sml_tree.specs.Phrases.{bind}
use Rattle.sml_tree.specs.TreeOf.{ExpFieldOf, RuleOf, exp_of, part_of}
use Rattle.sml_tree.specs.TreeOf.{node_bind, node_clause, node_dec, node_exp, node_exp_field, node_function, node_part, node_rule}
use Rattle.sml_tree.specs.declared.ident.BuiltIn.{BuiltIn as Built}
use Rattle.sml_tree.specs.declared.ident.Constant.{Constant as SourceConstant}
use Rattle.sml_tree.specs.declared.ident.LongVid.{LongVid}
use Rattle.sml_tree.specs.declared.tree.Clause.{Clause}
use Rattle.sml_tree.specs.declared.tree.Dec.{Dec}
use Rattle.sml_tree.specs.declared.tree.Exp.{Exp, Exp-F, fold-roll-Exp}
use Rattle.sml_tree.specs.declared.tree.Exp.TheVariants as exps
use Rattle.sml_tree.specs.declared.tree.ExpField.{ExpField}
use Rattle.sml_tree.specs.declared.tree.Joint.{Joint}
use Rattle.sml_tree.specs.declared.tree.Joint.TheVariants as joint
use Rattle.sml_tree.specs.declared.tree.Part.{Part}
use Rattle.sml_tree.specs.declared.tree.Pat.{Pat}
use Rattle.sml_tree.specs.declared.tree.Rule.{Rule}
use Rattle.sml_tree.specs.declared.tree.Ty.{Ty}
use Rattle.core_rules.specs.Restrictions.{unless_fn}
use Rattle.restrictions.specs.Nodes.{takes}

abbrev other : Place → bare.Pat → bare.Exp → List Place
other r a e = unless_fn (bind r a e)

none-of : {A : Type 0} (xs : List A) → length xs ≡ 0 → xs ≡ []
none-of [] e = refl
none-of (x ∷ xs) e = absurd (omega (arith, e))

list-begins : (r p : Place) (a : bare.Pat) (es : List bare.Exp) → other r a (list_of p es) ≡ p ∷ []
list-begins r p a [] = refl
list-begins r p a (e ∷ es) = refl

sequence-begins : (r p : Place) (a : bare.Pat) (e : bare.Exp) (es : List Exp) → 0 < length es → other r a (sequence_of p e (map exp_of es)) ≡ p ∷ []
sequence-begins r p a e [] lt = absurd (omega (arith, lt))
sequence-begins r p a e (f ∷ es) lt = refl

calls-begin : (r p : Place) (a : bare.Pat) (f e : bare.Exp) (es : List bare.Exp) → other r a (app_of p (bare.app p f e) es) ≡ p ∷ []
calls-begin r p a f e [] = refl
calls-begin r p a f e (g ∷ es) = calls-begin r p a (bare.app p f e) g es

call-begins : (r p : Place) (a : bare.Pat) (f : bare.Exp) (es : List Exp) → 0 < length es → other r a (app_of p f (map exp_of es)) ≡ p ∷ []
call-begins r p a f [] lt = absurd (omega (arith, lt))
call-begins r p a f (e ∷ es) lt = calls-begin r p a f (exp_of e) (map exp_of es)

joined-begins : (r p : Place) (a : bare.Pat) (j : Joint) (e f : bare.Exp) → other r a (join j p e f) ≡ p ∷ []
joined-begins r p a joint.AndAlso e f = refl
joined-begins r p a joint.OrElse e f = refl
joined-begins r p a (joint.Infix q v) e f = refl

left-begins : (r p : Place) (a : bare.Pat) (e : bare.Exp) (os : List (Operand Joint bare.Exp)) → other r a e ≡ p ∷ [] → other r a (left_chain join p e os) ≡ p ∷ []
left-begins r p a e [] h = h
left-begins r p a e (o ∷ os) h = left-begins r p a (join o.joint p e o.operand) os (joined-begins r p a o.joint e o.operand)

chain-begins : (r p : Place) (a : bare.Pat) (b : Bool) (e : bare.Exp) (os : List Part) → 0 < length os → other r a (chain_of join b p e (map part_of os)) ≡ p ∷ []
chain-begins r p a b e [] lt = absurd (omega (arith, lt))
chain-begins r p a true e (o ∷ os) lt = joined-begins r p a (part_of o).joint e (right_chain join (part_of o).place (part_of o).operand (map part_of os))
chain-begins r p a false e (o ∷ os) lt =
    left-begins r p a (join (part_of o).joint p e (part_of o).operand) (map part_of os) (joined-begins r p a (part_of o).joint e (part_of o).operand)

chain-alone : (b : Bool) (p : Place) (e : bare.Exp) → chain_of join b p e [] ≡ e
chain-alone true p e = refl
chain-alone false p e = refl

pub fn-Constant : (r : Place) (a : bare.Pat) (x : Exp) (p : Place) (c : SourceConstant) → x ≡ exps.Constant p c → p ∷ [] ≡ unless_fn (bind r a (exp_of x))
fn-Constant r a x p c q =
    sym (ap (λ z. other r a (exp_of z)) (q ∙ sym (exps.rolls-Constant p c)) ∙ ap (other r a) (fold-roll-Exp bare.Dec bare.Exp RuleOf derived.Clause ExpFieldOf derived.Function (Operand Joint bare.Exp) RuleOf node_dec node_exp node_bind node_clause node_exp_field node_function node_part node_rule (Exp-F.Constant p c)))

pub fn-Vid : (r : Place) (a : bare.Pat) (x : Exp) (p : Place) (v : LongVid) → x ≡ exps.Vid p v → p ∷ [] ≡ unless_fn (bind r a (exp_of x))
fn-Vid r a x p v q =
    sym (ap (λ z. other r a (exp_of z)) (q ∙ sym (exps.rolls-Vid p v)) ∙ ap (other r a) (fold-roll-Exp bare.Dec bare.Exp RuleOf derived.Clause ExpFieldOf derived.Function (Operand Joint bare.Exp) RuleOf node_dec node_exp node_bind node_clause node_exp_field node_function node_part node_rule (Exp-F.Vid p v)))

pub fn-BuiltIn : (r : Place) (a : bare.Pat) (x : Exp) (p : Place) (b : Built) → x ≡ exps.BuiltIn p b → p ∷ [] ≡ unless_fn (bind r a (exp_of x))
fn-BuiltIn r a x p b q =
    sym (ap (λ z. other r a (exp_of z)) (q ∙ sym (exps.rolls-BuiltIn p b)) ∙ ap (other r a) (fold-roll-Exp bare.Dec bare.Exp RuleOf derived.Clause ExpFieldOf derived.Function (Operand Joint bare.Exp) RuleOf node_dec node_exp node_bind node_clause node_exp_field node_function node_part node_rule (Exp-F.BuiltIn p b)))

pub fn-Record : (r : Place) (a : bare.Pat) (x : Exp) (p : Place) (fs : Vec ExpField Global) → x ≡ exps.Record p fs → p ∷ [] ≡ unless_fn (bind r a (exp_of x))
fn-Record r a x p fs q =
    sym (ap (λ z. other r a (exp_of z)) (q ∙ sym (exps.rolls-Record p fs)) ∙ ap (other r a) (fold-roll-Exp bare.Dec bare.Exp RuleOf derived.Clause ExpFieldOf derived.Function (Operand Joint bare.Exp) RuleOf node_dec node_exp node_bind node_clause node_exp_field node_function node_part node_rule (Exp-F.Record p fs)))

pub fn-Tuple : (r : Place) (a : bare.Pat) (x : Exp) (p : Place) (es : Vec Exp Global) → x ≡ exps.Tuple p es → p ∷ [] ≡ unless_fn (bind r a (exp_of x))
fn-Tuple r a x p es q =
    sym (ap (λ z. other r a (exp_of z)) (q ∙ sym (exps.rolls-Tuple p es)) ∙ ap (other r a) (fold-roll-Exp bare.Dec bare.Exp RuleOf derived.Clause ExpFieldOf derived.Function (Operand Joint bare.Exp) RuleOf node_dec node_exp node_bind node_clause node_exp_field node_function node_part node_rule (Exp-F.Tuple p es)))

pub fn-Let : (r : Place) (a : bare.Pat) (x : Exp) (p : Place) (ds : Vec Dec Global) (e : Box Exp Global) → x ≡ exps.Let p ds e → p ∷ [] ≡ unless_fn (bind r a (exp_of x))
fn-Let r a x p ds e q =
    sym (ap (λ z. other r a (exp_of z)) (q ∙ sym (exps.rolls-Let p ds e)) ∙ ap (other r a) (fold-roll-Exp bare.Dec bare.Exp RuleOf derived.Clause ExpFieldOf derived.Function (Operand Joint bare.Exp) RuleOf node_dec node_exp node_bind node_clause node_exp_field node_function node_part node_rule (Exp-F.Let p ds e)))

pub fn-Typed : (r : Place) (a : bare.Pat) (x : Exp) (p : Place) (e : Box Exp Global) (t : Ty) → x ≡ exps.Typed p e t → p ∷ [] ≡ unless_fn (bind r a (exp_of x))
fn-Typed r a x p e t q =
    sym (ap (λ z. other r a (exp_of z)) (q ∙ sym (exps.rolls-Typed p e t)) ∙ ap (other r a) (fold-roll-Exp bare.Dec bare.Exp RuleOf derived.Clause ExpFieldOf derived.Function (Operand Joint bare.Exp) RuleOf node_dec node_exp node_bind node_clause node_exp_field node_function node_part node_rule (Exp-F.Typed p e t)))

pub fn-Handle : (r : Place) (a : bare.Pat) (x : Exp) (p : Place) (e : Box Exp Global) (rs : Vec Rule Global) → x ≡ exps.Handle p e rs → p ∷ [] ≡ unless_fn (bind r a (exp_of x))
fn-Handle r a x p e rs q =
    sym (ap (λ z. other r a (exp_of z)) (q ∙ sym (exps.rolls-Handle p e rs)) ∙ ap (other r a) (fold-roll-Exp bare.Dec bare.Exp RuleOf derived.Clause ExpFieldOf derived.Function (Operand Joint bare.Exp) RuleOf node_dec node_exp node_bind node_clause node_exp_field node_function node_part node_rule (Exp-F.Handle p e rs)))

pub fn-Raise : (r : Place) (a : bare.Pat) (x : Exp) (p : Place) (e : Box Exp Global) → x ≡ exps.Raise p e → p ∷ [] ≡ unless_fn (bind r a (exp_of x))
fn-Raise r a x p e q =
    sym (ap (λ z. other r a (exp_of z)) (q ∙ sym (exps.rolls-Raise p e)) ∙ ap (other r a) (fold-roll-Exp bare.Dec bare.Exp RuleOf derived.Clause ExpFieldOf derived.Function (Operand Joint bare.Exp) RuleOf node_dec node_exp node_bind node_clause node_exp_field node_function node_part node_rule (Exp-F.Raise p e)))

pub fn-List : (r : Place) (a : bare.Pat) (x : Exp) (p : Place) (es : Vec Exp Global) → x ≡ exps.List p es → p ∷ [] ≡ unless_fn (bind r a (exp_of x))
fn-List r a x p es q =
    sym (ap (λ z. other r a (exp_of z)) (q ∙ sym (exps.rolls-List p es)) ∙ ap (other r a) (fold-roll-Exp bare.Dec bare.Exp RuleOf derived.Clause ExpFieldOf derived.Function (Operand Joint bare.Exp) RuleOf node_dec node_exp node_bind node_clause node_exp_field node_function node_part node_rule (Exp-F.List p es)) ∙ list-begins r p a (map exp_of es.items))

pub fn-Fn : (r : Place) (a : bare.Pat) (x : Exp) (p : Place) (rs : Vec Rule Global) → x ≡ exps.Fn p rs → [] ≡ unless_fn (bind r a (exp_of x))
fn-Fn r a x p rs q =
    sym (ap (λ z. other r a (exp_of z)) (q ∙ sym (exps.rolls-Fn p rs)) ∙ ap (other r a) (fold-roll-Exp bare.Dec bare.Exp RuleOf derived.Clause ExpFieldOf derived.Function (Operand Joint bare.Exp) RuleOf node_dec node_exp node_bind node_clause node_exp_field node_function node_part node_rule (Exp-F.Fn p rs)))

pub fn-Sequence-alone : (r : Place) (a : bare.Pat) (x : Exp) (p : Place) (e : Box Exp Global) (es : Vec Exp Global) → x ≡ exps.Sequence p e es → length es.items ≡ 0 → unless_fn (bind r a (exp_of e.value)) ≡ unless_fn (bind r a (exp_of x))
fn-Sequence-alone r a x p e es q h =
    sym (ap (λ z. other r a (exp_of z)) (q ∙ sym (exps.rolls-Sequence p e es)) ∙ ap (other r a) (fold-roll-Exp bare.Dec bare.Exp RuleOf derived.Clause ExpFieldOf derived.Function (Operand Joint bare.Exp) RuleOf node_dec node_exp node_bind node_clause node_exp_field node_function node_part node_rule (Exp-F.Sequence p e es)) ∙ ap (λ l. other r a (sequence_of p (exp_of e.value) (map exp_of l))) (none-of es.items h))

pub fn-Sequence : (r : Place) (a : bare.Pat) (x : Exp) (p : Place) (e : Box Exp Global) (es : Vec Exp Global) → x ≡ exps.Sequence p e es → 0 < length es.items → p ∷ [] ≡ unless_fn (bind r a (exp_of x))
fn-Sequence r a x p e es q h =
    sym (ap (λ z. other r a (exp_of z)) (q ∙ sym (exps.rolls-Sequence p e es)) ∙ ap (other r a) (fold-roll-Exp bare.Dec bare.Exp RuleOf derived.Clause ExpFieldOf derived.Function (Operand Joint bare.Exp) RuleOf node_dec node_exp node_bind node_clause node_exp_field node_function node_part node_rule (Exp-F.Sequence p e es)) ∙ sequence-begins r p a (exp_of e.value) es.items h)

pub fn-Apply-alone : (r : Place) (a : bare.Pat) (x : Exp) (p : Place) (e : Box Exp Global) (es : Vec Exp Global) → x ≡ exps.Apply p e es → length es.items ≡ 0 → unless_fn (bind r a (exp_of e.value)) ≡ unless_fn (bind r a (exp_of x))
fn-Apply-alone r a x p e es q h =
    sym (ap (λ z. other r a (exp_of z)) (q ∙ sym (exps.rolls-Apply p e es)) ∙ ap (other r a) (fold-roll-Exp bare.Dec bare.Exp RuleOf derived.Clause ExpFieldOf derived.Function (Operand Joint bare.Exp) RuleOf node_dec node_exp node_bind node_clause node_exp_field node_function node_part node_rule (Exp-F.Apply p e es)) ∙ ap (λ l. other r a (app_of p (exp_of e.value) (map exp_of l))) (none-of es.items h))

pub fn-Apply : (r : Place) (a : bare.Pat) (x : Exp) (p : Place) (e : Box Exp Global) (es : Vec Exp Global) → x ≡ exps.Apply p e es → 0 < length es.items → p ∷ [] ≡ unless_fn (bind r a (exp_of x))
fn-Apply r a x p e es q h =
    sym (ap (λ z. other r a (exp_of z)) (q ∙ sym (exps.rolls-Apply p e es)) ∙ ap (other r a) (fold-roll-Exp bare.Dec bare.Exp RuleOf derived.Clause ExpFieldOf derived.Function (Operand Joint bare.Exp) RuleOf node_dec node_exp node_bind node_clause node_exp_field node_function node_part node_rule (Exp-F.Apply p e es)) ∙ call-begins r p a (exp_of e.value) es.items h)

pub fn-Chain-alone : (r : Place) (a : bare.Pat) (x : Exp) (p : Place) (b : Bool) (e : Box Exp Global) (os : Vec Part Global) → x ≡ exps.Chain p b e os → length os.items ≡ 0 → unless_fn (bind r a (exp_of e.value)) ≡ unless_fn (bind r a (exp_of x))
fn-Chain-alone r a x p b e os q h =
    sym (ap (λ z. other r a (exp_of z)) (q ∙ sym (exps.rolls-Chain p b e os)) ∙ ap (other r a) (fold-roll-Exp bare.Dec bare.Exp RuleOf derived.Clause ExpFieldOf derived.Function (Operand Joint bare.Exp) RuleOf node_dec node_exp node_bind node_clause node_exp_field node_function node_part node_rule (Exp-F.Chain p b e os)) ∙ ap (λ l. other r a (chain_of join b p (exp_of e.value) (map part_of l))) (none-of os.items h) ∙ ap (other r a) (chain-alone b p (exp_of e.value)))

pub fn-Chain : (r : Place) (a : bare.Pat) (x : Exp) (p : Place) (b : Bool) (e : Box Exp Global) (os : Vec Part Global) → x ≡ exps.Chain p b e os → 0 < length os.items → p ∷ [] ≡ unless_fn (bind r a (exp_of x))
fn-Chain r a x p b e os q h =
    sym (ap (λ z. other r a (exp_of z)) (q ∙ sym (exps.rolls-Chain p b e os)) ∙ ap (other r a) (fold-roll-Exp bare.Dec bare.Exp RuleOf derived.Clause ExpFieldOf derived.Function (Operand Joint bare.Exp) RuleOf node_dec node_exp node_bind node_clause node_exp_field node_function node_part node_rule (Exp-F.Chain p b e os)) ∙ chain-begins r p a b (exp_of e.value) os.items h)

-- the first clause of a function

at-first : (xs : List Clause) (x : Clause) → x ≡ get_or xs 0 x → (length xs ≡ 0 → ⊥) → (c : Clause) × (cs : List Clause) × (xs ≡ c ∷ cs) × (x ≡ c)
at-first [] x e f = absurd (f refl)
at-first (c ∷ cs) x e f = (c, cs, refl, e)

pub first-takes : (xs : List Clause) (x : Clause) (n : ℕ) → (length xs ≡ 0 → ⊥) → x ≡ get_or xs 0 x → n ≡ length x.pats.items → nat_lt 0 n ≡ takes xs
first-takes xs x n f e q =
    let (c, cs, p, s) = at-first xs x e f in
    ap (nat_lt 0) (q ∙ ap (λ (z : Clause). length z.pats.items) s) ∙ by c.pats.items ∙ ap takes (sym p)
  where
    by : (as_ : List Pat) → nat_lt 0 (length as_) ≡ elim as_ [ [] ↦ false | a ∷ bs ↦ true ]
    by [] = refl
    by (a ∷ as_) = lt-ltb 0 (length (a ∷ as_)) (omega arith)
