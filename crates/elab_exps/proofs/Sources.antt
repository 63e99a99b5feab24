-- The bare tree of each declaration, and what its parts count.
use Rattle.std.proofs.Common.{◌≡◌, ◌<◌, ◌≤◌, ◌-◌, ℕ, List, [], ◌∷◌, map, take, drop, length, get_or, Vec, Global, refl, sym, ap, ◌∙◌, arith}
use denote.Param.Weighed.{most, at_most}
use Rattle.mlc_base.specs.declared.place.Place.{Place}
use Rattle.sml_tree.specs.BareTree as bare
use Rattle.sml_tree.specs.Derived.{Operand, clause_rules, fun_dec_of, fun_of, function_binds, one_or_tuple_pat, short}
use Rattle.sml_tree.specs.Derived as derived
use Rattle.sml_tree.specs.TreeOf.{ExpFieldOf, RuleOf, binds_of, clause_of, data_bind_of, dec_of, decs_of, ex_bind_of, exp_of, function_of, long_id_at_of, pat_of, rules_of, type_bind_of}
use Rattle.sml_tree.specs.TreeOf.{node_bind, node_clause, node_dec, node_exp, node_exp_field, node_function, node_part, node_rule}
use Rattle.sml_tree.specs.declared.tree.Bind.{Bind, size-Bind, size_is-Bind}
use Rattle.sml_tree.specs.declared.tree.Clause.{Clause, fold_out-Clause, size-Clause, size_is-Clause}
use Rattle.sml_tree.specs.declared.tree.DataBind.{DataBind}
use Rattle.sml_tree.specs.declared.tree.Dec.{Dec, Dec-F, fold-roll-Dec, size-Dec}
use Rattle.sml_tree.specs.declared.tree.Dec.TheVariants as decs
use Rattle.sml_tree.specs.declared.tree.Dec.TheViews.{sized-Declarations, sized-Fn, sized-Fun, sized-Local, sized-Val}
use Rattle.sml_tree.specs.declared.tree.ExBind.{ExBind}
use Rattle.sml_tree.specs.declared.tree.Exp.{Exp, size-Exp}
use Rattle.sml_tree.specs.declared.tree.Exp.TheVariants as exps
use Rattle.sml_tree.specs.declared.tree.Function.{Function, fold_out-Function, out-Function, size-Function, size_is-Function}
use Rattle.sml_tree.specs.declared.tree.Joint.{Joint}
use Rattle.sml_tree.specs.declared.tree.LongIdAt.{LongIdAt}
use Rattle.sml_tree.specs.declared.tree.Rule.{Rule, size-Rule}
use Rattle.sml_tree.specs.declared.tree.TypeBind.{TypeBind}
use Rattle.sml_tree.specs.declared.tree.TyvarSeq.{TyvarSeq}
use Rattle.scope_decs.specs.of_exp_forms.Clauses as clauses
use Rattle.scope_decs.proofs.of_exp_forms.Clausing.{clause_rules-are}
use Rattle.elab_exps.specs.Groups.{clause_rule, function_bind}

pub source-Abbreviation : (p : Place) (bs : Vec TypeBind Global) → dec_of (decs.Abbreviation p bs) ≡ bare.type_dec p (map type_bind_of bs.items)
source-Abbreviation p bs =
    ap dec_of (sym (decs.rolls-Abbreviation p bs))
    ∙ fold-roll-Dec bare.Dec bare.Exp RuleOf derived.Clause ExpFieldOf derived.Function (Operand Joint bare.Exp) RuleOf node_dec node_exp node_bind node_clause node_exp_field node_function node_part node_rule (Dec-F.Abbreviation p bs)

pub source-Datatype : (p : Place) (bs : Vec DataBind Global) → dec_of (decs.Datatype p bs) ≡ bare.datatype_dec p (map data_bind_of bs.items)
source-Datatype p bs =
    ap dec_of (sym (decs.rolls-Datatype p bs))
    ∙ fold-roll-Dec bare.Dec bare.Exp RuleOf derived.Clause ExpFieldOf derived.Function (Operand Joint bare.Exp) RuleOf node_dec node_exp node_bind node_clause node_exp_field node_function node_part node_rule (Dec-F.Datatype p bs)

pub source-Withtype : (p : Place) (bs : Vec DataBind Global) (ts : Vec TypeBind Global)
    → dec_of (decs.Withtype p bs ts) ≡ derived.withtype_of p (map data_bind_of bs.items) (map type_bind_of ts.items)
source-Withtype p bs ts =
    ap dec_of (sym (decs.rolls-Withtype p bs ts))
    ∙ fold-roll-Dec bare.Dec bare.Exp RuleOf derived.Clause ExpFieldOf derived.Function (Operand Joint bare.Exp) RuleOf node_dec node_exp node_bind node_clause node_exp_field node_function node_part node_rule (Dec-F.Withtype p bs ts)

pub source-Exception : (p : Place) (bs : Vec ExBind Global) → dec_of (decs.Exception p bs) ≡ bare.exception_dec p (map ex_bind_of bs.items)
source-Exception p bs =
    ap dec_of (sym (decs.rolls-Exception p bs))
    ∙ fold-roll-Dec bare.Dec bare.Exp RuleOf derived.Clause ExpFieldOf derived.Function (Operand Joint bare.Exp) RuleOf node_dec node_exp node_bind node_clause node_exp_field node_function node_part node_rule (Dec-F.Exception p bs)

pub source-Replicate : (p : Place) (x : ℕ) (y : LongIdAt) → dec_of (decs.Replicate p x y) ≡ bare.replicate_dec p x (long_id_at_of y)
source-Replicate p x y =
    ap dec_of (sym (decs.rolls-Replicate p x y))
    ∙ fold-roll-Dec bare.Dec bare.Exp RuleOf derived.Clause ExpFieldOf derived.Function (Operand Joint bare.Exp) RuleOf node_dec node_exp node_bind node_clause node_exp_field node_function node_part node_rule (Dec-F.Replicate p x y)

pub source-Open : (p : Place) (xs : Vec LongIdAt Global) → dec_of (decs.Open p xs) ≡ bare.open_dec p (map long_id_at_of xs.items)
source-Open p xs =
    ap dec_of (sym (decs.rolls-Open p xs))
    ∙ fold-roll-Dec bare.Dec bare.Exp RuleOf derived.Clause ExpFieldOf derived.Function (Operand Joint bare.Exp) RuleOf node_dec node_exp node_bind node_clause node_exp_field node_function node_part node_rule (Dec-F.Open p xs)

pub source-Local : (p : Place) (ds es : Vec Dec Global) → dec_of (decs.Local p ds es) ≡ bare.local_dec p (decs_of (map dec_of ds.items)) (decs_of (map dec_of es.items))
source-Local p ds es =
    ap dec_of (sym (decs.rolls-Local p ds es))
    ∙ fold-roll-Dec bare.Dec bare.Exp RuleOf derived.Clause ExpFieldOf derived.Function (Operand Joint bare.Exp) RuleOf node_dec node_exp node_bind node_clause node_exp_field node_function node_part node_rule (Dec-F.Local p ds es)

pub source-Declarations : (p : Place) (ds : Vec Dec Global) → dec_of (decs.Declarations p ds) ≡ bare.sequence_dec p (decs_of (map dec_of ds.items))
source-Declarations p ds =
    ap dec_of (sym (decs.rolls-Declarations p ds))
    ∙ fold-roll-Dec bare.Dec bare.Exp RuleOf derived.Clause ExpFieldOf derived.Function (Operand Joint bare.Exp) RuleOf node_dec node_exp node_bind node_clause node_exp_field node_function node_part node_rule (Dec-F.Declarations p ds)

pub source-Fun : (p : Place) (as_ : TyvarSeq) (gs : Vec Function Global) → dec_of (decs.Fun p as_ gs) ≡ fun_dec_of p as_.place as_.tyvars.items (map function_of gs.items)
source-Fun p as_ gs =
    ap dec_of (sym (decs.rolls-Fun p as_ gs))
    ∙ fold-roll-Dec bare.Dec bare.Exp RuleOf derived.Clause ExpFieldOf derived.Function (Operand Joint bare.Exp) RuleOf node_dec node_exp node_bind node_clause node_exp_field node_function node_part node_rule (Dec-F.Fun p as_ gs)

-- functions of `fun`

function-is : (g : Function) → function_of g ≡ record { place = (out-Function g).place; vid_place = (out-Function g).vid_place; vid = (out-Function g).vid; clauses = map clause_of (out-Function g).clauses.items }
function-is = fold_out-Function bare.Dec bare.Exp RuleOf derived.Clause ExpFieldOf derived.Function (Operand Joint bare.Exp) RuleOf node_dec node_exp node_bind node_clause node_exp_field node_function node_part node_rule

pub clause-is : (c : Clause) → clause_of c ≡ record { place = c.place; pats = map pat_of c.pats.items; body = exp_of c.exp }
clause-is = fold_out-Clause bare.Dec bare.Exp RuleOf derived.Clause ExpFieldOf derived.Function (Operand Joint bare.Exp) RuleOf node_dec node_exp node_bind node_clause node_exp_field node_function node_part node_rule

pub function-pat : (g : Function) → (function_bind g).pat ≡ bare.vid_pat (out-Function g).vid_place (short (out-Function g).vid)
function-pat g = ap (λ (f : derived.Function). bare.vid_pat f.vid_place (short f.vid)) (function-is g)

pub function-exp : (g : Function) → (function_bind g).exp ≡ fun_of (out-Function g).place (map clause_of (out-Function g).clauses.items)
function-exp g = ap (λ (f : derived.Function). fun_of f.place f.clauses) (function-is g)

pub clause-is-rule : (c : Clause) → clause_rule c ≡ record { place = c.place; pat = one_or_tuple_pat c.place (map pat_of c.pats.items); exp = exp_of c.exp }
clause-is-rule c = ap clauses.rule_of (clause-is c)

pub rules-of-clauses : (cs : List Clause) → clause_rules (map clause_of cs) ≡ rules_of (map clause_rule cs)
rules-of-clauses cs = clause_rules-are (map clause_of cs) ∙ ap rules_of (twice cs)
  where
    twice : (cs : List Clause) → map clauses.rule_of (map clause_of cs) ≡ map clause_rule cs
    twice [] = refl
    twice (c ∷ cs) = ap (λ l. clause_rule c ∷ l) (twice cs)

pub binds-of-functions : (gs : List Function) → function_binds (map function_of gs) ≡ binds_of (map function_bind gs)
binds-of-functions [] = refl
binds-of-functions (g ∷ gs) = ap (λ bs. bare.bind (function_bind g).place (function_bind g).pat (function_bind g).exp bs) (binds-of-functions gs)

-- parts of a declaration are less deep than it

pub first-part-size : (d : Dec) (q : Place) (ds es : Vec Dec Global) (xs : List Dec) → d ≡ decs.Local q ds es → xs ≡ ds.items → most size-Dec xs < size-Dec d
first-part-size d q ds es xs is x = omega (arith, sized-Local q ds es, ap size-Dec is, ap (most size-Dec) x)

pub second-part-size : (d : Dec) (q : Place) (ds es : Vec Dec Global) (xs : List Dec) → d ≡ decs.Local q ds es → xs ≡ es.items → most size-Dec xs < size-Dec d
second-part-size d q ds es xs is x = omega (arith, sized-Local q ds es, ap size-Dec is, ap (most size-Dec) x)

pub declarations-size : (d : Dec) (q : Place) (ds : Vec Dec Global) (xs : List Dec) → d ≡ decs.Declarations q ds → xs ≡ ds.items → most size-Dec xs < size-Dec d
declarations-size d q ds xs is x = omega (arith, sized-Declarations q ds, ap size-Dec is, ap (most size-Dec) x)

pub recs-size : (d : Dec) (q : Place) (as_ : TyvarSeq) (bs cs : Vec Bind Global) (xs : List Bind) → d ≡ decs.Val q as_ bs cs → xs ≡ cs.items → most size-Bind xs < size-Dec d
recs-size d q as_ bs cs xs is x = omega (arith, sized-Val q as_ bs cs, ap size-Dec is, ap (most size-Bind) x)

pub functions-size : (d : Dec) (q : Place) (as_ : TyvarSeq) (gs : Vec Function Global) (xs : List Function) → d ≡ decs.Fun q as_ gs → xs ≡ gs.items → most size-Function xs < size-Dec d
functions-size d q as_ gs xs is x = omega (arith, sized-Fun q as_ gs, ap size-Dec is, ap (most size-Function) x)

-- parts of bindings, functions and clauses

pub bind-most : (bs : List Bind) (i : ℕ) (b : Bind) → i < length bs → b ≡ get_or bs i b → size-Bind b ≤ most size-Bind bs
bind-most bs i b lt e = omega (arith, at_most size-Bind bs i b lt, ap size-Bind e)

pub function-most : (gs : List Function) (i : ℕ) (g : Function) → i < length gs → g ≡ get_or gs i g → size-Function g ≤ most size-Function gs
function-most gs i g lt e = omega (arith, at_most size-Function gs i g lt, ap size-Function e)

pub match-size : (b : Bind) (e : Exp) (q : Place) (rs : Vec Rule Global) (xs : List Rule) → e ≡ b.exp → e ≡ exps.Fn q rs → xs ≡ rs.items → most size-Rule xs < size-Bind b
match-size b e q rs xs eb is x = omega (arith, sized-Fn q rs, ap size-Exp is, ap size-Exp eb, ap (most size-Rule) x, size_is-Bind b)

pub clauses-size : (g : Function) (xs : List Clause) → xs ≡ (out-Function g).clauses.items → most size-Clause xs < size-Function g
clauses-size g xs x = omega (arith, ap (most size-Clause) x, size_is-Function g)

pub clause-size : (cs : List Clause) (i : ℕ) (d : Clause) → i < length cs → size-Exp (get_or cs i d).exp ≤ most size-Clause cs
clause-size cs i d lt = omega (arith, at_most size-Clause cs i d lt, size_is-Clause (get_or cs i d))

pub rest-most : (es xs : List Exp) → xs ≡ drop 1 es → most size-Exp xs ≤ most size-Exp es
rest-most [] xs e = omega (arith, ap (most size-Exp) e)
rest-most (x ∷ es) xs e = let m = ap (most size-Exp) e in omega (arith, m)

-- the elements behind the first

take-whole : {A : Type 0} (xs : List A) → take (length xs) xs ≡ xs
take-whole [] = refl
take-whole (x ∷ xs) = ap (λ l. x ∷ l) (take-whole xs)

pub rest-all : {A : Type 0} (xs : List A) → take (length xs - 1) (drop 1 xs) ≡ drop 1 xs
rest-all [] = refl
rest-all (x ∷ xs) = let e : length (x ∷ xs) - 1 ≡ length xs = omega arith in ap (λ n. take n xs) e ∙ take-whole xs
