-- Chains of expressions: operands that stay in their order, and operands that are turned.
use Rattle.std.proofs.Common.{◌≡◌, ◌<◌, ◌≤◌, ◌+◌, ◌-◌, ℕ, Bool, true, false, not, cond, List, [], ◌∷◌, ◌++◌, map, length, drop, get_or, Vec, Box, Global, refl, sym, ap, ap₂, ◌∙◌, append_assoc, arith}
use Rattle.mlc_base.specs.declared.place.Place.{Place}
use Rattle.sml_tree.specs.BareTree as bare
use Rattle.sml_tree.specs.Derived.{Operand, and_of, chain_of, infix_app, join, left_chain, or_of, right_chain}
use Rattle.sml_tree.specs.Derived as derived
use Rattle.sml_tree.specs.Phrases.{has_scope, in_exp, in_rules}
use Rattle.sml_tree.specs.TreeOf.{ExpFieldOf, RuleOf, exp_of, part_of}
use Rattle.sml_tree.specs.TreeOf.{node_bind, node_clause, node_dec, node_exp, node_exp_field, node_function, node_part, node_rule}
use Rattle.sml_tree.specs.declared.ident.BuiltIn.{BuiltIn}
use Rattle.sml_tree.specs.declared.ident.Tyvar.{Tyvar}
use Rattle.sml_tree.specs.declared.tree.Exp.{Exp, Exp-F, fold-roll-Exp}
use Rattle.sml_tree.specs.declared.tree.Exp.TheVariants as exps
use Rattle.sml_tree.specs.declared.tree.Joint.{Joint}
use Rattle.sml_tree.specs.declared.tree.Joint.TheVariants as joint
use Rattle.sml_tree.specs.declared.tree.Part.{Part, fold_out-Part}
use Rattle.core_rules.specs.Scoping.{tyvars_in}
use Rattle.scoped_tyvars.specs.Unguarded.{begins_logical, exp_tyvars, in_bare_exp, is_logical, is_turned, plain, turned}
use Rattle.scoped_tyvars.proofs.Listing.{append-nil, drop-all, drop-at, in-front}
use Rattle.scoped_tyvars.proofs.Nodes.{exp-two, split}

part-is : (o : Part) → part_of o ≡ record { joint = o.joint; place = o.place; operand = exp_of o.exp }
part-is = fold_out-Part bare.Dec bare.Exp RuleOf derived.Clause ExpFieldOf derived.Function (Operand Joint bare.Exp) RuleOf node_dec node_exp node_bind node_clause node_exp_field node_function node_part node_rule

-- the operands of one joint
joined : (j : Joint) (p : Place) (a b : bare.Exp) → in_bare_exp (join j p a b) ≡ cond (is_logical j) (in_bare_exp b ++ in_bare_exp a) (in_bare_exp a ++ in_bare_exp b)
joined joint.AndAlso p a b =
    let other = bare.rule p (bare.built_pat p BuiltIn.False) (bare.built_exp p BuiltIn.False) bare.no_rules in
    split (in_rules has_scope (bare.rule p (bare.built_pat p BuiltIn.True) b other)) (in_exp has_scope a)
    ∙ ap (λ l. l ++ in_bare_exp a) (split (in_exp has_scope b) (in_rules has_scope other) ∙ append-nil (in_bare_exp b))
joined joint.OrElse p a b =
    split (in_exp has_scope b ++ []) (in_exp has_scope a) ∙ ap (λ l. tyvars_in l ++ in_bare_exp a) (append-nil (in_exp has_scope b))
joined (joint.Infix q v) p a b = exp-two a b

left-are : (p : Place) (a : bare.Exp) (os : List Part) → in_bare_exp (left_chain join p a (map part_of os)) ≡ turned false os ++ (in_bare_exp a ++ plain false os)
left-are p a [] = sym (append-nil (in_bare_exp a))
left-are p a (o ∷ os) =
    ap (λ (z : Operand Joint bare.Exp). in_bare_exp (left_chain join p (join z.joint p a z.operand) (map part_of os))) (part-is o)
    ∙ left-are p (join o.joint p a (exp_of o.exp)) os
    ∙ ap (λ l. turned false os ++ (l ++ plain false os)) (joined o.joint p a (exp_of o.exp))
    ∙ by (is_logical o.joint) (turned false os) (in_bare_exp a) (exp_tyvars o.exp) (plain false os)
  where
    by : {A : Type 0} (b : Bool) (t a e r : List A) → t ++ (cond b (e ++ a) (a ++ e) ++ r) ≡ (t ++ cond b e []) ++ (a ++ (cond b [] e ++ r))
    by true t a e r = ap (λ l. t ++ l) (append_assoc e a r) ∙ sym (append_assoc t e (a ++ r))
    by false t a e r = ap (λ l. t ++ l) (append_assoc a e r) ∙ ap (λ l. l ++ (a ++ (e ++ r))) (sym (append-nil t))

-- to the right: the first operand goes with the joint behind it
right-are : (p : Place) (a : bare.Exp) (os : List Part) → in_bare_exp (right_chain join p a (map part_of os))
    ≡ cond (begins_logical os) [] (in_bare_exp a) ++ (plain true os ++ (turned true os ++ cond (begins_logical os) (in_bare_exp a) []))
right-are p a [] = sym (append-nil (in_bare_exp a))
right-are p a (o ∷ os) =
    ap (λ (z : Operand Joint bare.Exp). in_bare_exp (join z.joint p a (right_chain join z.place z.operand (map part_of os)))) (part-is o)
    ∙ joined o.joint p a (right_chain join o.place (exp_of o.exp) (map part_of os))
    ∙ ap (λ l. cond (is_logical o.joint) (l ++ in_bare_exp a) (in_bare_exp a ++ l)) (right-are o.place (exp_of o.exp) os)
    ∙ by (is_logical o.joint) (in_bare_exp a) (cond (begins_logical os) [] (exp_tyvars o.exp)) (plain true os) (turned true os) (cond (begins_logical os) (exp_tyvars o.exp) [])
  where
    by : {A : Type 0} (b : Bool) (a n r t m : List A) → cond b ((n ++ (r ++ (t ++ m))) ++ a) (a ++ (n ++ (r ++ (t ++ m))))
        ≡ cond b [] a ++ ((n ++ r) ++ ((t ++ m) ++ cond b a []))
    by true a n r t m =
        append_assoc n (r ++ (t ++ m)) a ∙ ap (λ l. n ++ l) (append_assoc r (t ++ m) a) ∙ sym (append_assoc n r ((t ++ m) ++ a))
    by false a n r t m =
        ap (λ l. a ++ l) (sym (append_assoc n r (t ++ m)) ∙ ap (λ l. (n ++ r) ++ l) (sym (append-nil (t ++ m))))

chain-source : (x : Exp) (p : Place) (r : Bool) (e : Box Exp Global) (os : Vec Part Global) → x ≡ exps.Chain p r e os
    → exp_tyvars x ≡ in_bare_exp (chain_of join r p (exp_of e.value) (map part_of os.items))
chain-source x p r e os q =
    ap exp_tyvars q ∙ ap (λ z. in_bare_exp (exp_of z)) (sym (exps.rolls-Chain p r e os))
    ∙ ap in_bare_exp (fold-roll-Exp bare.Dec bare.Exp RuleOf derived.Clause ExpFieldOf derived.Function (Operand Joint bare.Exp) RuleOf node_dec node_exp node_bind node_clause node_exp_field node_function node_part node_rule (Exp-F.Chain p r e os))

pub left-chain : (x : Exp) (p : Place) (r : Bool) (e : Box Exp Global) (os : Vec Part Global) → x ≡ exps.Chain p r e os → r ≡ false
    → exp_tyvars x ≡ turned false os.items ++ (exp_tyvars e.value ++ plain false os.items)
left-chain x p r e os q f =
    chain-source x p r e os q ∙ ap (λ b. in_bare_exp (chain_of join b p (exp_of e.value) (map part_of os.items))) f ∙ left-are p (exp_of e.value) os.items

pub right-chain : (x : Exp) (p : Place) (r : Bool) (e : Box Exp Global) (os : Vec Part Global) → x ≡ exps.Chain p r e os → r ≡ true
    → exp_tyvars x ≡ cond (begins_logical os.items) [] (exp_tyvars e.value) ++ (plain true os.items ++ (turned true os.items ++ cond (begins_logical os.items) (exp_tyvars e.value) []))
right-chain x p r e os q f =
    chain-source x p r e os q ∙ ap (λ b. in_bare_exp (chain_of join b p (exp_of e.value) (map part_of os.items))) f ∙ right-are p (exp_of e.value) os.items

-- what is found in a chain, one part after the other

pub right-found : (x : Exp) (p : Place) (r : Bool) (e : Box Exp Global) (os : Vec Part Global) → x ≡ exps.Chain p r e os → r ≡ true → (old a b d new : List Tyvar) (f : Bool)
    (ps qs ts : List Part) (v w : Exp) → ps ≡ os.items → qs ≡ os.items → ts ≡ os.items → v ≡ e.value → w ≡ e.value → f ≡ begins_logical ps
    → a ≡ old ++ cond (not f) (exp_tyvars v) [] → b ≡ a ++ plain true qs → d ≡ b ++ turned true ts → new ≡ d ++ cond f (exp_tyvars w) [] → new ≡ old ++ exp_tyvars x
right-found x p r e os is rt old a b d new f ps qs ts v w ep eq et ev ew ef ea eb ed en =
    let E = exp_tyvars e.value in
    let P = plain true os.items in
    let T = turned true os.items in
    let N = cond (not f) E [] in
    let M = cond f E [] in
    en
    ∙ ap₂ (λ l z. l ++ cond f (exp_tyvars z) []) (ed ∙ ap₂ (λ l z. l ++ turned true z) (eb ∙ ap₂ (λ l z. l ++ plain true z) (ea ∙ ap (λ z. old ++ cond (not f) (exp_tyvars z) []) ev) eq) et) ew
    ∙ append_assoc ((old ++ N) ++ P) T M ∙ append_assoc (old ++ N) P (T ++ M) ∙ append_assoc old N (P ++ (T ++ M)) ∙ ap (λ l. old ++ (l ++ (P ++ (T ++ M)))) (other f E)
    ∙ ap (λ g. old ++ (cond g [] E ++ (P ++ (T ++ cond g E [])))) (ef ∙ ap begins_logical ep) ∙ ap (λ l. old ++ l) (sym (right-chain x p r e os is rt))
  where
    other : (b : Bool) (l : List Tyvar) → cond (not b) l [] ≡ cond b [] l
    other true l = refl
    other false l = refl

pub left-found : (x : Exp) (p : Place) (r : Bool) (e : Box Exp Global) (os : Vec Part Global) → x ≡ exps.Chain p r e os → r ≡ false → (old a b new : List Tyvar) (ts ps : List Part) (v : Exp)
    → ts ≡ os.items → ps ≡ os.items → v ≡ e.value → a ≡ old ++ turned false ts → b ≡ a ++ exp_tyvars v → new ≡ b ++ plain false ps → new ≡ old ++ exp_tyvars x
left-found x p r e os is rf old a b new ts ps v et ep ev ea eb en =
    let E = exp_tyvars e.value in
    let P = plain false os.items in
    let T = turned false os.items in
    en ∙ ap₂ (λ l z. l ++ plain false z) (eb ∙ ap₂ (λ l z. l ++ exp_tyvars z) (ea ∙ ap (λ z. old ++ turned false z) et) ev) ep ∙ append_assoc (old ++ T) E P ∙ append_assoc old T (E ++ P)
    ∙ ap (λ l. old ++ l) (sym (left-chain x p r e os is rf))

-- the operands of a chain, one after the other

pub plain-next : (r : Bool) (os : List Part) (i : ℕ) (o : Part) (b : Bool) (now new all : List Tyvar) → i < length os → o ≡ get_or os i o → now ++ plain r (drop i os) ≡ all
    → ((x : Part) (xs : List Part) → drop i os ≡ x ∷ xs → b ≡ is_turned r x xs) → new ≡ now ++ cond (not b) (exp_tyvars o.exp) [] → new ++ plain r (drop (i + 1) os) ≡ all
plain-next r os i o b now new all lt e h t q =
    let d = drop-at os i o lt e in
    in-front now new (cond (is_turned r o (drop (i + 1) os)) [] (exp_tyvars o.exp)) (plain r (drop (i + 1) os)) all (ap (λ l. now ++ plain r l) (sym d) ∙ h)
    (q ∙ ap (λ l. now ++ l) (other b (exp_tyvars o.exp)) ∙ ap (λ z. now ++ cond z [] (exp_tyvars o.exp)) (t o (drop (i + 1) os) d))
  where
    other : (b : Bool) (l : List Tyvar) → cond (not b) l [] ≡ cond b [] l
    other true l = refl
    other false l = refl

pub plain-ends : (r : Bool) (os : List Part) (i : ℕ) (now all : List Tyvar) → length os ≤ i → now ++ plain r (drop i os) ≡ all → now ≡ all
plain-ends r os i now all le h = sym (append-nil now) ∙ ap (λ l. now ++ plain r l) (sym (drop-all os i le)) ∙ h

pub record TurnedSoFar (r : Bool) (os : List Part) (i : ℕ) (old now : List Tyvar) : Type 0 where
  pub most : i ≤ length os
  pub found : now ≡ old ++ turned r (drop i os)

pub turned-begins : (r : Bool) (os : List Part) (i : ℕ) (old : List Tyvar) → i ≡ length os → TurnedSoFar r os i old old
turned-begins r os i old e = record { most = omega (arith, e); found = sym (ap (λ l. old ++ turned r l) (drop-all os i (omega (arith, e))) ∙ append-nil old) }

pub turned-goes : (r : Bool) (os : List Part) (i : ℕ) (o : Part) (b : Bool) (old now new : List Tyvar) → TurnedSoFar r os i old now → 0 < i → o ≡ get_or os (i - 1) o
    → ((x : Part) (xs : List Part) → drop (i - 1) os ≡ x ∷ xs → b ≡ is_turned r x xs) → new ≡ now ++ cond b (exp_tyvars o.exp) [] → TurnedSoFar r os (i - 1) old new
turned-goes r os i o b old now new h pos e t q =
    let m = h.most in
    let up : i ≡ (i - 1) + 1 = omega (arith, pos) in
    let lt : i - 1 < length os = omega (arith, m, pos) in
    let rest = drop ((i - 1) + 1) os in
    let d : drop (i - 1) os ≡ o ∷ rest = drop-at os (i - 1) o lt e in
    record {
      most = omega (arith, m);
      found =
          q ∙ ap₂ (λ l z. l ++ cond z (exp_tyvars o.exp) []) (h.found ∙ ap (λ n. old ++ turned r (drop n os)) up) (t o rest d)
          ∙ append_assoc old (turned r rest) (cond (is_turned r o rest) (exp_tyvars o.exp) []) ∙ ap (λ l. old ++ turned r l) (sym d);
    }

pub turned-ends : (r : Bool) (os : List Part) (i : ℕ) (old now : List Tyvar) → i ≤ 0 → TurnedSoFar r os i old now → now ≡ old ++ turned r os
turned-ends r os i old now le h = let z : i ≡ 0 = omega (arith, le) in h.found ∙ ap (λ n. old ++ turned r (drop n os)) z

-- the joint at a place

pub none-follows : (os : List Part) (i : ℕ) → length os ≤ i → false ≡ begins_logical (drop i os)
none-follows os i le = ap begins_logical (sym (drop-all os i le))

pub one-follows : (os : List Part) (i : ℕ) (o : Part) (b : Bool) → i < length os → o ≡ get_or os i o → b ≡ is_logical o.joint → b ≡ begins_logical (drop i os)
one-follows os i o b lt e q = q ∙ ap begins_logical (sym (drop-at os i o lt e))

pub turned-right : (os : List Part) (i : ℕ) (b : Bool) (x : Part) (xs : List Part) → b ≡ begins_logical (drop (i + 1) os) → drop i os ≡ x ∷ xs → b ≡ is_turned true x xs
turned-right os i b x xs q e = q ∙ ap begins_logical (next os i x xs e)
  where
    next : (os : List Part) (i : ℕ) (x : Part) (xs : List Part) → drop i os ≡ x ∷ xs → drop (i + 1) os ≡ xs
    next os i x xs e = let s : i + 1 ≡ ℕ.suc i = omega arith in ap (λ n. drop n os) s ∙ go os i e
      where
        go : (os : List Part) (i : ℕ) → drop i os ≡ x ∷ xs → drop (ℕ.suc i) os ≡ xs
        go [] ℕ.zero e = cc
        go [] (ℕ.suc i) e = cc
        go (o ∷ os) ℕ.zero e = cc
        go (o ∷ os) (ℕ.suc i) e = go os i e

pub turned-left : (os : List Part) (i : ℕ) (b : Bool) (x : Part) (xs : List Part) → b ≡ begins_logical (drop i os) → drop i os ≡ x ∷ xs → b ≡ is_turned false x xs
turned-left os i b x xs q e = q ∙ ap begins_logical e
