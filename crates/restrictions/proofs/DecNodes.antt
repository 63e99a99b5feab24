-- What is broken in each node of declarations.
use Rattle.std.proofs.Common.{◌≡◌, ℕ, suc, true, false, List, [], ◌∷◌, ◌++◌, map, nat_eq, Vec, Global, refl, sym, ap, ap₂, ◌∙◌}
use Rattle.std.specs.Prelude.{flat_map}
use Rattle.std.proofs.lemmas.List.{append-nil}
use Rattle.std.proofs.lemmas.List.Folds.{flat_map-map}
use Rattle.mlc_base.specs.declared.place.Place.{Place}
use Rattle.sml_tree.specs.BareTree as bare
use Rattle.sml_tree.specs.Derived.{Operand, case_of, clause_rules, fn_for, fresh_for, fun_of, function_binds, numbered, one_or_tuple, one_or_tuple_pat, short}
use Rattle.sml_tree.specs.Derived as derived
use Rattle.sml_tree.specs.Phrases.{bind}
use Rattle.sml_tree.specs.TreeOf.{ExpFieldOf, RuleOf, bind_of, binds_of, clause_of, data_bind_of, dec_of, decs_of, ex_bind_of, function_of, pat_of, type_bind_of}
use Rattle.sml_tree.specs.TreeOf.{node_bind, node_clause, node_dec, node_exp, node_exp_field, node_function, node_part, node_rule}
use Rattle.sml_tree.specs.declared.tree.Bind.{Bind, fold_out-Bind}
use Rattle.sml_tree.specs.declared.tree.Clause.{Clause, fold_out-Clause}
use Rattle.sml_tree.specs.declared.tree.DataBind.{DataBind}
use Rattle.sml_tree.specs.declared.tree.Dec.{Dec, Dec-F, fold-roll-Dec}
use Rattle.sml_tree.specs.declared.tree.Dec.TheVariants as decs
use Rattle.sml_tree.specs.declared.tree.ExBind.{ExBind}
use Rattle.sml_tree.specs.declared.tree.Function.{Function, fold_out-Function, out-Function}
use Rattle.sml_tree.specs.declared.tree.Joint.{Joint}
use Rattle.sml_tree.specs.declared.tree.LongIdAt.{LongIdAt}
use Rattle.sml_tree.specs.declared.tree.Pat.{Pat}
use Rattle.sml_tree.specs.declared.tree.TypeBind.{TypeBind}
use Rattle.sml_tree.specs.declared.tree.TyvarSeq.{TyvarSeq}
use Rattle.core_rules.specs.Restrictions.{distinct, tycons_in, tycons_of, unless, unless_fn}
use Rattle.restrictions.specs.Breaks.{binds_breaks, dec_breaks, ex_bind_breaks, exp_breaks, exp_fields_breaks, pat_breaks, recs_breaks, rules_breaks, scope_in, type_bind_breaks}
use Rattle.restrictions.specs.Nodes.{are_new, bind_places, clause_places, datatype_places, dec_places, exception_places, exp_places, fun_places, function_places, named_types, pat_places, rec_places, takes, type_places, val_places, withtype_places}
use Rattle.restrictions.proofs.ExpNodes.{exp-decs, exp-tuple}
use Rattle.restrictions.proofs.TyNodes.{pat-parts}

-- bindings

-- whether a right side is a `fn` doesn't depend on what is bound
pub fn-alone : (p q : Place) (a b : bare.Pat) (e : bare.Exp) → unless_fn (bind p a e) ≡ unless_fn (bind q b e)
fn-alone p q a b (bare.constant_exp r c) = refl
fn-alone p q a b (bare.vid_exp r x) = refl
fn-alone p q a b (bare.built_exp r x) = refl
fn-alone p q a b (bare.fields_exp r fs) = refl
fn-alone p q a b (bare.let_in r ds e) = refl
fn-alone p q a b (bare.app r f e) = refl
fn-alone p q a b (bare.typed r e t) = refl
fn-alone p q a b (bare.handle r e rs) = refl
fn-alone p q a b (bare.raise r e) = refl
fn-alone p q a b (bare.fn r rs) = refl

bind-is : (b : Bind) → bind_of b ≡ record { place = b.place; pat = pat_of b.pat; exp = Rattle.sml_tree.specs.TreeOf.exp_of b.exp }
bind-is b = fold_out-Bind bare.Dec bare.Exp RuleOf derived.Clause ExpFieldOf derived.Function (Operand Joint bare.Exp) RuleOf node_dec node_exp node_bind node_clause node_exp_field node_function node_part node_rule b

binds-are : (s : List ℕ) (bs : List Bind) → binds_breaks s (binds_of (map bind_of bs)) ≡ flat_map (bind_places s) bs
binds-are s [] = refl
binds-are s (b ∷ bs) = ap₂ (λ x y. x ++ y) (ap (λ (z : RuleOf). pat_breaks z.pat ++ exp_breaks s z.exp) (bind-is b)) (binds-are s bs)

recs-are : (s : List ℕ) (bs : List Bind) → recs_breaks s (binds_of (map bind_of bs)) ≡ flat_map (rec_places s) bs
recs-are s [] = refl
recs-are s (b ∷ bs) =
    ap₂ (λ x y. x ++ y) (ap (λ (z : RuleOf). (pat_breaks z.pat ++ exp_breaks s z.exp) ++ unless_fn (bind z.place z.pat z.exp)) (bind-is b)) (recs-are s bs)

-- the functions of `fun`

one-or-tuple-pat : (p : Place) (as_ : List Pat) → pat_breaks (one_or_tuple_pat p (map pat_of as_)) ≡ flat_map pat_places as_
one-or-tuple-pat p [] = refl
one-or-tuple-pat p (a ∷ []) = sym (append-nil (pat_places a))
one-or-tuple-pat p (a ∷ b ∷ as_) = pat-parts p (a ∷ b ∷ as_)

clause-is : (c : Clause) → clause_of c ≡ record { place = c.place; pats = map pat_of c.pats.items; body = Rattle.sml_tree.specs.TreeOf.exp_of c.exp }
clause-is c = fold_out-Clause bare.Dec bare.Exp RuleOf derived.Clause ExpFieldOf derived.Function (Operand Joint bare.Exp) RuleOf node_dec node_exp node_bind node_clause node_exp_field node_function node_part node_rule c

clause-one : (s : List ℕ) (c : Clause) → pat_breaks (one_or_tuple_pat (clause_of c).place (clause_of c).pats) ++ exp_breaks s (clause_of c).body ≡ clause_places s c
clause-one s c =
    ap (λ (z : derived.Clause). pat_breaks (one_or_tuple_pat z.place z.pats) ++ exp_breaks s z.body) (clause-is c)
    ∙ ap (λ l. l ++ exp_places s c.exp) (one-or-tuple-pat c.place c.pats.items)

clauses-are : (s : List ℕ) (cs : List Clause) → rules_breaks s (clause_rules (map clause_of cs)) ≡ flat_map (clause_places s) cs
clauses-are s [] = refl
clauses-are s (c ∷ cs) = ap₂ (λ x y. x ++ y) (clause-one s c) (clauses-are s cs)

-- fresh identifiers break nothing
fresh-none : (s : List ℕ) (p : Place) (k i : ℕ) (as_ : List bare.Pat) → exp_fields_breaks s (numbered i (fresh_for p k as_)) ≡ []
fresh-none s p k i [] = refl
fresh-none s p k i (a ∷ as_) = fresh-none s p (suc k) (suc i) as_

taken-none : (s : List ℕ) (p : Place) (as_ : List bare.Pat) → exp_breaks s (one_or_tuple p (fresh_for p 1 as_)) ≡ []
taken-none s p [] = refl
taken-none s p (a ∷ []) = refl
taken-none s p (a ∷ b ∷ as_) = exp-tuple s p (fresh_for p 1 (a ∷ b ∷ as_)) ∙ fresh-none s p 1 1 (a ∷ b ∷ as_)

fn-for : (s : List ℕ) (p : Place) (k : ℕ) (as_ : List bare.Pat) (e : bare.Exp) → exp_breaks s (fn_for p k as_ e) ≡ exp_breaks s e
fn-for s p k [] e = refl
fn-for s p k (a ∷ as_) e = append-nil (exp_breaks s (fn_for p (suc k) as_ e)) ∙ fn-for s p (suc k) as_ e

function-one : (s : List ℕ) (p : Place) (cs : List Clause) → exp_breaks s (fun_of p (map clause_of cs)) ≡ flat_map (clause_places s) cs
function-one s p cs =
    let as_ = derived.first_pats (map clause_of cs) in
    fn-for s p 1 as_ (case_of p (one_or_tuple p (fresh_for p 1 as_)) (clause_rules (map clause_of cs)))
    ∙ ap₂ (λ x y. x ++ y) (clauses-are s cs) (taken-none s p as_) ∙ append-nil (flat_map (clause_places s) cs)

-- a function that takes nothing is no `fn`
takes-fn : (p q : Place) (b : bare.Pat) (as_ : List Pat) (e f : bare.Exp) → unless_fn (bind q b (fn_for p 1 (map pat_of as_) (bare.app p f e)))
    ≡ unless (elim as_ [ [] ↦ false | a ∷ bs ↦ true ]) p
takes-fn p q b [] e f = refl
takes-fn p q b (a ∷ as_) e f = refl

first-takes : (p q : Place) (b : bare.Pat) (cs : List Clause) → unless_fn (bind q b (fun_of p (map clause_of cs))) ≡ unless (takes cs) p
first-takes p q b [] = refl
first-takes p q b (c ∷ cs) =
    ap (λ (as_ : List bare.Pat). unless_fn (bind q b (fn_for p 1 as_ (case_of p (one_or_tuple p (fresh_for p 1 as_)) (clause_rules (map clause_of (c ∷ cs)))))))
    (ap (λ (z : derived.Clause). z.pats) (clause-is c)) ∙ takes-fn p q b c.pats.items _ _

function-is : (g : Function) → function_of g ≡ record { place = (out-Function g).place; vid_place = (out-Function g).vid_place; vid = (out-Function g).vid; clauses = map clause_of (out-Function g).clauses.items }
function-is g = fold_out-Function bare.Dec bare.Exp RuleOf derived.Clause ExpFieldOf derived.Function (Operand Joint bare.Exp) RuleOf node_dec node_exp node_bind node_clause node_exp_field node_function node_part node_rule g

functions-are : (s : List ℕ) (gs : List Function) → recs_breaks s (function_binds (map function_of gs)) ≡ flat_map (function_places s) gs
functions-are s [] = refl
functions-are s (g ∷ gs) =
    let p = (out-Function g).place in
    let cs = (out-Function g).clauses.items in
    let a = bare.vid_pat (out-Function g).vid_place (short (out-Function g).vid) in
    ap₂ (λ x y. x ++ y)
    (ap (λ (z : derived.Function). exp_breaks s (fun_of z.place z.clauses) ++ unless_fn (bind z.place (bare.vid_pat z.vid_place (short z.vid)) (fun_of z.place z.clauses))) (function-is g)
    ∙ ap₂ (λ x y. x ++ y) (function-one s p cs) (first-takes p p a cs))
    (functions-are s gs)

-- the type constructors of a sequence
tycons-are : (ds : List Dec) → tycons_in (decs_of (map dec_of ds)) ≡ flat_map named_types ds
tycons-are [] = refl
tycons-are (d ∷ ds) = ap (λ l. named_types d ++ l) (tycons-are ds)

pub tycons-of-types : (bs : List TypeBind) → map (λ (b : bare.TypeBind). b.tycon) (map type_bind_of bs) ≡ map (λ b. b.tycon) bs
tycons-of-types [] = refl
tycons-of-types (b ∷ bs) = ap (λ l. b.tycon ∷ l) (tycons-of-types bs)

pub tycons-of-datas : (bs : List DataBind) → map (λ (b : bare.DataBind). b.tycon) (map data_bind_of bs) ≡ map (λ b. b.tycon) bs
tycons-of-datas [] = refl
tycons-of-datas (b ∷ bs) = ap (λ l. b.tycon ∷ l) (tycons-of-datas bs)

pub dec-Val : (s : List ℕ) (x : Dec) (p : Place) (as_ : TyvarSeq) (bs : Vec Bind Global) (cs : Vec Bind Global) → x ≡ decs.Val p as_ bs cs → val_places s as_ bs.items cs.items ≡ dec_places s x
dec-Val s x p as_ bs cs q =
    sym (ap (dec_places s) q ∙ ap (dec_places s) (sym (decs.rolls-Val p as_ bs cs)) ∙ ap (dec_breaks s) (fold-roll-Dec bare.Dec bare.Exp RuleOf derived.Clause ExpFieldOf derived.Function (Operand Joint bare.Exp) RuleOf node_dec node_exp node_bind node_clause node_exp_field node_function node_part node_rule (Dec-F.Val p as_ bs cs)) ∙ ap₂ (λ x y. (x ++ y) ++ unless (are_new s as_.tyvars.items) as_.place) (binds-are (scope_in s as_.tyvars.items (binds_of (map bind_of bs.items)) (binds_of (map bind_of cs.items))) bs.items)
    (recs-are (scope_in s as_.tyvars.items (binds_of (map bind_of bs.items)) (binds_of (map bind_of cs.items))) cs.items))

pub dec-Fun : (s : List ℕ) (x : Dec) (p : Place) (as_ : TyvarSeq) (gs : Vec Function Global) → x ≡ decs.Fun p as_ gs → fun_places s as_ gs.items ≡ dec_places s x
dec-Fun s x p as_ gs q =
    sym (ap (dec_places s) q ∙ ap (dec_places s) (sym (decs.rolls-Fun p as_ gs)) ∙ ap (dec_breaks s) (fold-roll-Dec bare.Dec bare.Exp RuleOf derived.Clause ExpFieldOf derived.Function (Operand Joint bare.Exp) RuleOf node_dec node_exp node_bind node_clause node_exp_field node_function node_part node_rule (Dec-F.Fun p as_ gs)) ∙ ap (λ x. x ++ unless (are_new s as_.tyvars.items) as_.place) (functions-are (scope_in s as_.tyvars.items bare.no_binds (function_binds (map function_of gs.items))) gs.items))

pub dec-Abbreviation : (s : List ℕ) (x : Dec) (p : Place) (bs : Vec TypeBind Global) → x ≡ decs.Abbreviation p bs → type_places p bs.items ≡ dec_places s x
dec-Abbreviation s x p bs q =
    sym (ap (dec_places s) q ∙ ap (dec_places s) (sym (decs.rolls-Abbreviation p bs)) ∙ ap (dec_breaks s) (fold-roll-Dec bare.Dec bare.Exp RuleOf derived.Clause ExpFieldOf derived.Function (Operand Joint bare.Exp) RuleOf node_dec node_exp node_bind node_clause node_exp_field node_function node_part node_rule (Dec-F.Abbreviation p bs)) ∙ ap₂ (λ x y. x ++ unless (distinct nat_eq y) p) (flat_map-map type_bind_breaks type_bind_of bs.items) (tycons-of-types bs.items))

pub dec-Datatype : (s : List ℕ) (x : Dec) (p : Place) (bs : Vec DataBind Global) → x ≡ decs.Datatype p bs → datatype_places p bs.items ≡ dec_places s x
dec-Datatype s x p bs q =
    sym (ap (dec_places s) q ∙ ap (dec_places s) (sym (decs.rolls-Datatype p bs)) ∙ ap (dec_breaks s) (fold-roll-Dec bare.Dec bare.Exp RuleOf derived.Clause ExpFieldOf derived.Function (Operand Joint bare.Exp) RuleOf node_dec node_exp node_bind node_clause node_exp_field node_function node_part node_rule (Dec-F.Datatype p bs)))

pub dec-Withtype : (s : List ℕ) (x : Dec) (p : Place) (ds : Vec DataBind Global) (bs : Vec TypeBind Global) → x ≡ decs.Withtype p ds bs → withtype_places p ds.items bs.items ≡ dec_places s x
dec-Withtype s x p ds bs q =
    sym (ap (dec_places s) q ∙ ap (dec_places s) (sym (decs.rolls-Withtype p ds bs)) ∙ ap (dec_breaks s) (fold-roll-Dec bare.Dec bare.Exp RuleOf derived.Clause ExpFieldOf derived.Function (Operand Joint bare.Exp) RuleOf node_dec node_exp node_bind node_clause node_exp_field node_function node_part node_rule (Dec-F.Withtype p ds bs)))

pub dec-Replicate : (s : List ℕ) (x : Dec) (p : Place) (n : ℕ) (c : LongIdAt) → x ≡ decs.Replicate p n c → dec_places s x ≡ []
dec-Replicate s x p n c q = ap (dec_places s) q ∙ ap (dec_places s) (sym (decs.rolls-Replicate p n c)) ∙ ap (dec_breaks s) (fold-roll-Dec bare.Dec bare.Exp RuleOf derived.Clause ExpFieldOf derived.Function (Operand Joint bare.Exp) RuleOf node_dec node_exp node_bind node_clause node_exp_field node_function node_part node_rule (Dec-F.Replicate p n c))

pub dec-Exception : (s : List ℕ) (x : Dec) (p : Place) (bs : Vec ExBind Global) → x ≡ decs.Exception p bs → exception_places p bs.items ≡ dec_places s x
dec-Exception s x p bs q =
    sym (ap (dec_places s) q ∙ ap (dec_places s) (sym (decs.rolls-Exception p bs)) ∙ ap (dec_breaks s) (fold-roll-Dec bare.Dec bare.Exp RuleOf derived.Clause ExpFieldOf derived.Function (Operand Joint bare.Exp) RuleOf node_dec node_exp node_bind node_clause node_exp_field node_function node_part node_rule (Dec-F.Exception p bs)) ∙ ap (λ x. x ++ Rattle.core_rules.specs.Restrictions.broken_by_dec [] (bare.exception_dec p (map ex_bind_of bs.items))) (flat_map-map ex_bind_breaks ex_bind_of bs.items))

pub dec-Local : (s : List ℕ) (x : Dec) (p : Place) (ds : Vec Dec Global) (es : Vec Dec Global) → x ≡ decs.Local p ds es → flat_map (dec_places s) ds.items ++ flat_map (dec_places s) es.items ≡ dec_places s x
dec-Local s x p ds es q =
    sym (ap (dec_places s) q ∙ ap (dec_places s) (sym (decs.rolls-Local p ds es)) ∙ ap (dec_breaks s) (fold-roll-Dec bare.Dec bare.Exp RuleOf derived.Clause ExpFieldOf derived.Function (Operand Joint bare.Exp) RuleOf node_dec node_exp node_bind node_clause node_exp_field node_function node_part node_rule (Dec-F.Local p ds es)) ∙ ap₂ (λ x y. x ++ y) (exp-decs s ds.items) (exp-decs s es.items))

pub dec-Open : (s : List ℕ) (x : Dec) (p : Place) (xs : Vec LongIdAt Global) → x ≡ decs.Open p xs → dec_places s x ≡ []
dec-Open s x p xs q = ap (dec_places s) q ∙ ap (dec_places s) (sym (decs.rolls-Open p xs)) ∙ ap (dec_breaks s) (fold-roll-Dec bare.Dec bare.Exp RuleOf derived.Clause ExpFieldOf derived.Function (Operand Joint bare.Exp) RuleOf node_dec node_exp node_bind node_clause node_exp_field node_function node_part node_rule (Dec-F.Open p xs))

pub dec-Declarations : (s : List ℕ) (x : Dec) (p : Place) (ds : Vec Dec Global) → x ≡ decs.Declarations p ds → flat_map (dec_places s) ds.items ++ unless (distinct nat_eq (flat_map named_types ds.items)) p ≡ dec_places s x
dec-Declarations s x p ds q =
    sym (ap (dec_places s) q ∙ ap (dec_places s) (sym (decs.rolls-Declarations p ds)) ∙ ap (dec_breaks s) (fold-roll-Dec bare.Dec bare.Exp RuleOf derived.Clause ExpFieldOf derived.Function (Operand Joint bare.Exp) RuleOf node_dec node_exp node_bind node_clause node_exp_field node_function node_part node_rule (Dec-F.Declarations p ds)) ∙ ap₂ (λ x y. x ++ unless (distinct nat_eq y) p) (exp-decs s ds.items) (tycons-are ds.items))

pub named-Abbreviation : (x : Dec) (p : Place) (bs : Vec TypeBind Global) → x ≡ decs.Abbreviation p bs → map (λ b. b.tycon) bs.items ≡ named_types x
named-Abbreviation x p bs q =
    sym (ap named_types q ∙ ap named_types (sym (decs.rolls-Abbreviation p bs)) ∙ ap tycons_of (fold-roll-Dec bare.Dec bare.Exp RuleOf derived.Clause ExpFieldOf derived.Function (Operand Joint bare.Exp) RuleOf node_dec node_exp node_bind node_clause node_exp_field node_function node_part node_rule (Dec-F.Abbreviation p bs)) ∙ tycons-of-types bs.items)

pub named-Datatype : (x : Dec) (p : Place) (bs : Vec DataBind Global) → x ≡ decs.Datatype p bs → map (λ b. b.tycon) bs.items ≡ named_types x
named-Datatype x p bs q =
    sym (ap named_types q ∙ ap named_types (sym (decs.rolls-Datatype p bs)) ∙ ap tycons_of (fold-roll-Dec bare.Dec bare.Exp RuleOf derived.Clause ExpFieldOf derived.Function (Operand Joint bare.Exp) RuleOf node_dec node_exp node_bind node_clause node_exp_field node_function node_part node_rule (Dec-F.Datatype p bs)) ∙ tycons-of-datas bs.items)
