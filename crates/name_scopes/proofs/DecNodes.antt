-- What is looked for, from the parts of each node of declarations to the node; and the names that it brings.
use Rattle.std.proofs.Common.{◌≡◌, ℕ, suc, List, [], ◌∷◌, ◌++◌, map, Vec, Global, inl, inr, refl, sym, ap, ap₂, subst, ◌∙◌}
use Rattle.std.specs.Prelude.{flat_map, option_map, unwrap_or}
use Rattle.std.specs.List.{Contains}
use Rattle.mlc_base.specs.declared.place.Place.{Place}
use Rattle.sml_tree.specs.BareTree as bare
use Rattle.sml_tree.specs.Derived.{Operand, case_of, clause_rules, expand_bind, expand_con, first_pats, fn_for, fresh_for, fresh_pat, fun_of, function_binds, one_or_tuple, one_or_tuple_pat, short, withtype_of}
use Rattle.sml_tree.specs.Derived as derived
use Rattle.sml_tree.specs.Phrases.{bind, bind_list, data_bind, dec, ex_bind, exp, rule, rule_list, ty, type_bind}
use Rattle.sml_tree.specs.TreeOf.{ExpFieldOf, RuleOf, bind_of, binds_of, clause_of, data_bind_of, dec_of, decs_of, ex_bind_of, exp_of, function_of, long_id_at_of, long_vid_of, pat_of, ty_of, type_bind_of}
use Rattle.sml_tree.specs.TreeOf.{node_bind, node_clause, node_dec, node_exp, node_exp_field, node_function, node_part, node_rule}
use Rattle.sml_tree.specs.declared.ident.LongVid.{LongVid}
use Rattle.sml_tree.specs.declared.ident.Vid.{Vid}
use Rattle.sml_tree.specs.declared.tree.Bind.{Bind, fold_out-Bind}
use Rattle.sml_tree.specs.declared.tree.Clause.{Clause, fold_out-Clause}
use Rattle.sml_tree.specs.declared.tree.DataBind.{DataBind}
use Rattle.sml_tree.specs.declared.tree.Dec.{Dec, Dec-F, fold-roll-Dec}
use Rattle.sml_tree.specs.declared.tree.Dec.TheVariants as decs
use Rattle.sml_tree.specs.declared.tree.ExBind.{ExBind}
use Rattle.sml_tree.specs.declared.tree.ExBind.TheVariants as exn
use Rattle.sml_tree.specs.declared.tree.Function.{Function, fold_out-Function, out-Function}
use Rattle.sml_tree.specs.declared.tree.Joint.{Joint}
use Rattle.sml_tree.specs.declared.tree.LongIdAt.{LongIdAt}
use Rattle.sml_tree.specs.declared.tree.TypeBind.{TypeBind}
use Rattle.sml_tree.specs.declared.tree.TyvarSeq.{TyvarSeq}
use Rattle.core_rules.specs.Eval.{cons_env, datatypes_env, long_structure_in, long_tycon_in, opened, types_env}
use Rattle.core_rules.specs.Unbound.{all_in, binds_names, dec_names, decs_in, decs_names, exns_names, pat_names, rec_names, structure_at, tycon_at, tycons_names, unless_bound, value_at}
use Rattle.core_rules.specs.Values.{Env, con, declared, long_value_in, nothing, plus, structure, tycon, value}
use Rattle.ty_basis.specs.of_ty_core.declared.env.Status.TheVariants.{Constructor}
use Rattle.name_scopes.specs.Bindings.{fun_phrase, val_phrase}
use Rattle.name_scopes.specs.Nodes.{bind_phrase, clause_phrase, data_phrase, dec_phrase, exn_phrase, fresh_onto, function_phrase, type_phrase}
use Rattle.name_scopes.specs.Placed.{AnyAt, At, FoundAt}
use Rattle.name_scopes.specs.declared.sought.Sought.{Sought}
use Rattle.name_scopes.proofs.ExpNodes.{any-are, any-cases, any-here, any-none, any-there, case-rules, rule-exp}
use Rattle.name_scopes.proofs.Placing.{any-left, any-right, in-flat, in-map, own-at, parts-at}

-- environments

pub plus-assoc : (a b c : Env) → plus (plus a b) c ≡ plus a (plus b c)
plus-assoc a b nothing = refl
plus-assoc a b (value x s v c) = ap (value x s v) (plus-assoc a b c)
plus-assoc a b (tycon x t c) = ap (tycon x t) (plus-assoc a b c)
plus-assoc a b (structure x t c) = ap (structure x t) (plus-assoc a b c)

pub nothing-plus : (d : Env) → plus nothing d ≡ d
nothing-plus nothing = refl
nothing-plus (value x s v d) = ap (value x s v) (nothing-plus d)
nothing-plus (tycon x t d) = ap (tycon x t) (nothing-plus d)
nothing-plus (structure x t d) = ap (structure x t) (nothing-plus d)

-- lists

map-twice : {A B C : Type 0} (g : B → C) (f : A → B) (xs : List A) → map g (map f xs) ≡ map (λ x. g (f x)) xs
map-twice g f [] = refl
map-twice g f (x ∷ xs) = ap (λ l. g (f x) ∷ l) (map-twice g f xs)

-- bindings

bind-is : (b : Bind) → bind_of b ≡ record { place = b.place; pat = pat_of b.pat; exp = exp_of b.exp }
bind-is = fold_out-Bind bare.Dec bare.Exp RuleOf derived.Clause ExpFieldOf derived.Function (Operand Joint bare.Exp) RuleOf node_dec node_exp node_bind node_clause node_exp_field node_function node_part node_rule

binds-are : (bs : List Bind) → bind_list (binds_of (map bind_of bs)) ≡ map bind_phrase bs
binds-are [] = refl
binds-are (b ∷ bs) = ap₂ (λ x y. x ∷ y) (ap (λ (z : RuleOf). bind z.place z.pat z.exp) (bind-is b)) (binds-are bs)

-- the functions of `fun`

clause-is : (c : Clause) → clause_of c ≡ record { place = c.place; pats = map pat_of c.pats.items; body = exp_of c.exp }
clause-is = fold_out-Clause bare.Dec bare.Exp RuleOf derived.Clause ExpFieldOf derived.Function (Operand Joint bare.Exp) RuleOf node_dec node_exp node_bind node_clause node_exp_field node_function node_part node_rule

clauses-are : (cs : List Clause) → rule_list (clause_rules (map clause_of cs)) ≡ map clause_phrase cs
clauses-are [] = refl
clauses-are (c ∷ cs) = ap₂ (λ x y. x ∷ y) (ap (λ (z : derived.Clause). rule z.place (one_or_tuple_pat z.place z.pats) z.body) (clause-is c)) (clauses-are cs)

function-is : (g : Function) → function_of g ≡ record { place = (out-Function g).place; vid_place = (out-Function g).vid_place; vid = (out-Function g).vid; clauses = map clause_of (out-Function g).clauses.items }
function-is = fold_out-Function bare.Dec bare.Exp RuleOf derived.Clause ExpFieldOf derived.Function (Operand Joint bare.Exp) RuleOf node_dec node_exp node_bind node_clause node_exp_field node_function node_part node_rule

functions-are : (gs : List Function) → bind_list (function_binds (map function_of gs)) ≡ map function_phrase gs
functions-are [] = refl
functions-are (g ∷ gs) =
    ap₂ (λ x y. x ∷ y) (ap (λ (z : derived.Function). bind z.place (bare.vid_pat z.vid_place (short z.vid)) (fun_of z.place z.clauses)) (function-is g)) (functions-are gs)

fn-at : (p : Sought) (e : Env) (q : Place) (k : ℕ) (as_ : List bare.Pat) (b : bare.Exp) → FoundAt p (fresh_onto q k as_ e) (exp b) → FoundAt p e (exp (fn_for q k as_ b))
fn-at p e q k [] b h = h
fn-at p e q k (a ∷ as_) b h =
    let inner = fn-at p (plus e (pat_names e (fresh_pat q k))) q (suc k) as_ b h in
    parts-at p e (exp (fn_for q k (a ∷ as_) b)) (any-here p _ [] (rule-exp p e q (fresh_pat q k) (fn_for q (suc k) as_ b) inner))

pub function-in-clauses : (p : Sought) (e : Env) (g : Function)
    → AnyAt p (all_in (fresh_onto (out-Function g).place 1 (first_pats (map clause_of (out-Function g).clauses.items)) e) (map clause_phrase (out-Function g).clauses.items))
    → FoundAt p e (function_phrase g)
function-in-clauses p e g h =
    let q = (out-Function g).place in
    let cs = (out-Function g).clauses.items in
    let as_ = first_pats (map clause_of cs) in
    let body = case_of q (one_or_tuple q (fresh_for q 1 as_)) (clause_rules (map clause_of cs)) in
    let scope = fresh_onto q 1 as_ e in
    parts-at p e (function_phrase g)
    (any-there p _ _ (any-here p _ []
    (fn-at p e q 1 as_ body (case-rules p scope q (one_or_tuple q (fresh_for q 1 as_)) (clause_rules (map clause_of cs)) (any-are p scope _ _ (clauses-are cs) h)))))

-- bindings of types and exceptions

pub type-bind-at : (p : Sought) (e : Env) (b : TypeBind) → FoundAt p e (ty (ty_of b.ty)) → FoundAt p e (type_phrase b)
type-bind-at p e b h = parts-at p e (type_phrase b) (any-here p _ [] h)

pub ex-bind-Same : (p : Sought) (e : Env) (b : ExBind) (q : Place) (v : Vid) (r : Place) (y : LongVid) → b ≡ exn.Same q v r y
    → At p (unless_bound (long_value_in e (long_vid_of y)) (value_at r (long_vid_of y))) → FoundAt p e (exn_phrase b)
ex-bind-Same p e b q v r y is h =
    subst (λ z. FoundAt p e (ex_bind z)) (sym (ap ex_bind_of is)) (own-at p e (ex_bind (bare.same_exn q v r (long_vid_of y))) h)

-- abbreviations that are written out leave the names

cons-expanded : (bs : List bare.TypeBind) (cs : List bare.ConBind) → cons_env (map (expand_con bs) cs) ≡ cons_env cs
cons-expanded bs [] = refl
cons-expanded bs (c ∷ cs) = ap (value c.vid Constructor (con (declared c.vid))) (cons-expanded bs cs)

pub datatypes-expanded : (bs : List bare.TypeBind) (ds : List bare.DataBind) → datatypes_env (map (expand_bind bs) ds) ≡ datatypes_env ds
datatypes-expanded bs [] = refl
datatypes-expanded bs (d ∷ ds) = ap₂ plus (datatypes-expanded bs ds) (ap (λ k. tycon d.tycon k k) (cons-expanded bs d.cons))

pub tycons-expanded : (bs : List bare.TypeBind) (ds : List bare.DataBind) → tycons_names (map (expand_bind bs) ds) ≡ tycons_names ds
tycons-expanded bs [] = refl
tycons-expanded bs (d ∷ ds) = ap (tycon d.tycon nothing) (tycons-expanded bs ds)

-- one of the structures of `open`
pub opened-at : (p : Sought) (e : Env) (xs : List LongIdAt) (y : LongIdAt) → Contains xs y
    → At p (unless_bound (long_structure_in e (long_id_at_of y)) (structure_at (long_id_at_of y).place (long_id_at_of y).long))
    → At p (flat_map (λ y. unless_bound (long_structure_in e y) (structure_at y.place y.long)) (map long_id_at_of xs))
opened-at p e xs y has h = record {
  unbound = h.unbound;
  is = in-flat (λ y. unless_bound (long_structure_in e y) (structure_at y.place y.long)) (map long_id_at_of xs) (long_id_at_of y) h.unbound (in-map long_id_at_of xs y has) h.is;
  place = h.place;
  what = h.what;
}

-- declarations behind others

pub decs-before : (p : Sought) (e : Env) (ds : List Dec) (d : Dec) → AnyAt p (decs_in e (decs_of (map dec_of ds))) → AnyAt p (decs_in e (decs_of (map dec_of (ds ++ d ∷ []))))
decs-before p e [] d h = absurd (any-none p h)
decs-before p e (c ∷ ds) d h = elim (any-cases p _ _ h) [
  | inl k ↦ any-here p _ _ k
  | inr k ↦ any-there p _ _ (decs-before p (plus e (dec_names e (dec_of c))) ds d k)
]

pub decs-last : (p : Sought) (e : Env) (ds : List Dec) (d : Dec) → FoundAt p (plus e (decs_names e (decs_of (map dec_of ds)))) (dec_phrase d)
    → AnyAt p (decs_in e (decs_of (map dec_of (ds ++ d ∷ []))))
decs-last p e [] d h = any-here p _ [] h
decs-last p e (c ∷ ds) d h =
    let first = dec_names e (dec_of c) in
    let rest = decs_names (plus e first) (decs_of (map dec_of ds)) in
    any-there p _ _ (decs-last p (plus e first) ds d (subst (λ z. FoundAt p z (dec_phrase d)) (sym (plus-assoc e first rest)) h))

pub names-longer : (e : Env) (ds : List Dec) (d : Dec) → decs_names e (decs_of (map dec_of (ds ++ d ∷ [])))
    ≡ plus (decs_names e (decs_of (map dec_of ds))) (dec_names (plus e (decs_names e (decs_of (map dec_of ds)))) (dec_of d))
names-longer e [] d = sym (nothing-plus (dec_names e (dec_of d)))
names-longer e (c ∷ ds) d =
    let first = dec_names e (dec_of c) in
    let rest = decs_names (plus e first) (decs_of (map dec_of ds)) in
    ap (plus first) (names-longer (plus e first) ds d)
    ∙ ap (λ z. plus first (plus rest (dec_names z (dec_of d)))) (plus-assoc e first rest)
    ∙ sym (plus-assoc first rest (dec_names (plus e (plus first rest)) (dec_of d)))

-- the nodes

dec-are : (p : Sought) (e : Env) (d : Dec) (b : bare.Dec) → dec_of d ≡ b → FoundAt p e (dec b) → FoundAt p e (dec_phrase d)
dec-are p e d b q h = subst (λ z. FoundAt p e (dec z)) (sym q) h

is-Val : (d : Dec) (q : Place) (as_ : TyvarSeq) (bs rs : Vec Bind Global) → d ≡ decs.Val q as_ bs rs → dec_of d ≡ bare.val_dec q as_.place as_.tyvars.items (binds_of (map bind_of bs.items)) (binds_of (map bind_of rs.items))
is-Val d q as_ bs rs is = ap dec_of is ∙ ap dec_of (sym (decs.rolls-Val q as_ bs rs)) ∙ fold-roll-Dec bare.Dec bare.Exp RuleOf derived.Clause ExpFieldOf derived.Function (Operand Joint bare.Exp) RuleOf node_dec node_exp node_bind node_clause node_exp_field node_function node_part node_rule (Dec-F.Val q as_ bs rs)

is-Fun : (d : Dec) (q : Place) (as_ : TyvarSeq) (gs : Vec Function Global) → d ≡ decs.Fun q as_ gs → dec_of d ≡ bare.val_dec q as_.place as_.tyvars.items bare.no_binds (function_binds (map function_of gs.items))
is-Fun d q as_ gs is = ap dec_of is ∙ ap dec_of (sym (decs.rolls-Fun q as_ gs)) ∙ fold-roll-Dec bare.Dec bare.Exp RuleOf derived.Clause ExpFieldOf derived.Function (Operand Joint bare.Exp) RuleOf node_dec node_exp node_bind node_clause node_exp_field node_function node_part node_rule (Dec-F.Fun q as_ gs)

is-Abbreviation : (d : Dec) (q : Place) (bs : Vec TypeBind Global) → d ≡ decs.Abbreviation q bs → dec_of d ≡ bare.type_dec q (map type_bind_of bs.items)
is-Abbreviation d q bs is = ap dec_of is ∙ ap dec_of (sym (decs.rolls-Abbreviation q bs)) ∙ fold-roll-Dec bare.Dec bare.Exp RuleOf derived.Clause ExpFieldOf derived.Function (Operand Joint bare.Exp) RuleOf node_dec node_exp node_bind node_clause node_exp_field node_function node_part node_rule (Dec-F.Abbreviation q bs)

is-Datatype : (d : Dec) (q : Place) (bs : Vec DataBind Global) → d ≡ decs.Datatype q bs → dec_of d ≡ bare.datatype_dec q (map data_bind_of bs.items)
is-Datatype d q bs is = ap dec_of is ∙ ap dec_of (sym (decs.rolls-Datatype q bs)) ∙ fold-roll-Dec bare.Dec bare.Exp RuleOf derived.Clause ExpFieldOf derived.Function (Operand Joint bare.Exp) RuleOf node_dec node_exp node_bind node_clause node_exp_field node_function node_part node_rule (Dec-F.Datatype q bs)

is-Withtype : (d : Dec) (q : Place) (ds : Vec DataBind Global) (bs : Vec TypeBind Global) → d ≡ decs.Withtype q ds bs → dec_of d ≡ withtype_of q (map data_bind_of ds.items) (map type_bind_of bs.items)
is-Withtype d q ds bs is = ap dec_of is ∙ ap dec_of (sym (decs.rolls-Withtype q ds bs)) ∙ fold-roll-Dec bare.Dec bare.Exp RuleOf derived.Clause ExpFieldOf derived.Function (Operand Joint bare.Exp) RuleOf node_dec node_exp node_bind node_clause node_exp_field node_function node_part node_rule (Dec-F.Withtype q ds bs)

is-Replicate : (d : Dec) (q : Place) (n : ℕ) (y : LongIdAt) → d ≡ decs.Replicate q n y → dec_of d ≡ bare.replicate_dec q n (long_id_at_of y)
is-Replicate d q n y is = ap dec_of is ∙ ap dec_of (sym (decs.rolls-Replicate q n y)) ∙ fold-roll-Dec bare.Dec bare.Exp RuleOf derived.Clause ExpFieldOf derived.Function (Operand Joint bare.Exp) RuleOf node_dec node_exp node_bind node_clause node_exp_field node_function node_part node_rule (Dec-F.Replicate q n y)

is-Exception : (d : Dec) (q : Place) (bs : Vec ExBind Global) → d ≡ decs.Exception q bs → dec_of d ≡ bare.exception_dec q (map ex_bind_of bs.items)
is-Exception d q bs is = ap dec_of is ∙ ap dec_of (sym (decs.rolls-Exception q bs)) ∙ fold-roll-Dec bare.Dec bare.Exp RuleOf derived.Clause ExpFieldOf derived.Function (Operand Joint bare.Exp) RuleOf node_dec node_exp node_bind node_clause node_exp_field node_function node_part node_rule (Dec-F.Exception q bs)

is-Local : (d : Dec) (q : Place) (ds es : Vec Dec Global) → d ≡ decs.Local q ds es → dec_of d ≡ bare.local_dec q (decs_of (map dec_of ds.items)) (decs_of (map dec_of es.items))
is-Local d q ds es is = ap dec_of is ∙ ap dec_of (sym (decs.rolls-Local q ds es)) ∙ fold-roll-Dec bare.Dec bare.Exp RuleOf derived.Clause ExpFieldOf derived.Function (Operand Joint bare.Exp) RuleOf node_dec node_exp node_bind node_clause node_exp_field node_function node_part node_rule (Dec-F.Local q ds es)

is-Open : (d : Dec) (q : Place) (xs : Vec LongIdAt Global) → d ≡ decs.Open q xs → dec_of d ≡ bare.open_dec q (map long_id_at_of xs.items)
is-Open d q xs is = ap dec_of is ∙ ap dec_of (sym (decs.rolls-Open q xs)) ∙ fold-roll-Dec bare.Dec bare.Exp RuleOf derived.Clause ExpFieldOf derived.Function (Operand Joint bare.Exp) RuleOf node_dec node_exp node_bind node_clause node_exp_field node_function node_part node_rule (Dec-F.Open q xs)

is-Declarations : (d : Dec) (q : Place) (ds : Vec Dec Global) → d ≡ decs.Declarations q ds → dec_of d ≡ bare.sequence_dec q (decs_of (map dec_of ds.items))
is-Declarations d q ds is = ap dec_of is ∙ ap dec_of (sym (decs.rolls-Declarations q ds)) ∙ fold-roll-Dec bare.Dec bare.Exp RuleOf derived.Clause ExpFieldOf derived.Function (Operand Joint bare.Exp) RuleOf node_dec node_exp node_bind node_clause node_exp_field node_function node_part node_rule (Dec-F.Declarations q ds)

-- the parts of each node

pub dec-Val-binds : (p : Sought) (e : Env) (d : Dec) (q : Place) (as_ : TyvarSeq) (bs rs : Vec Bind Global) → d ≡ decs.Val q as_ bs rs
    → AnyAt p (all_in e (map bind_phrase bs.items)) → FoundAt p e (dec_phrase d)
dec-Val-binds p e d q as_ bs rs is h =
    dec-are p e d _ (is-Val d q as_ bs rs is)
    (parts-at p e (dec (bare.val_dec q as_.place as_.tyvars.items (binds_of (map bind_of bs.items)) (binds_of (map bind_of rs.items)))) (any-left p _ _
    (any-are p e _ _ (binds-are bs.items) h)))

pub dec-Val-recs : (p : Sought) (e : Env) (d : Dec) (q : Place) (as_ : TyvarSeq) (bs rs : Vec Bind Global) → d ≡ decs.Val q as_ bs rs
    → AnyAt p (all_in (plus e (rec_names (binds_of (map bind_of rs.items)))) (map bind_phrase rs.items)) → FoundAt p e (dec_phrase d)
dec-Val-recs p e d q as_ bs rs is h =
    dec-are p e d _ (is-Val d q as_ bs rs is)
    (parts-at p e (dec (bare.val_dec q as_.place as_.tyvars.items (binds_of (map bind_of bs.items)) (binds_of (map bind_of rs.items))))
    (any-right p (all_in e (bind_list (binds_of (map bind_of bs.items)))) _ (any-are p (plus e (rec_names (binds_of (map bind_of rs.items)))) _ _ (binds-are rs.items) h)))

-- the declaration itself
pub dec-Val-own : (p : Sought) (e : Env) (d : Dec) (q : Place) (as_ : TyvarSeq) (bs rs : Vec Bind Global) → d ≡ decs.Val q as_ bs rs
    → FoundAt p e (val_phrase q as_.place as_.tyvars.items bs.items rs.items) → FoundAt p e (dec_phrase d)
dec-Val-own p e d q as_ bs rs is h = dec-are p e d _ (is-Val d q as_ bs rs is) h

pub dec-Fun-own : (p : Sought) (e : Env) (d : Dec) (q : Place) (as_ : TyvarSeq) (gs : Vec Function Global) → d ≡ decs.Fun q as_ gs
    → FoundAt p e (fun_phrase q as_.place as_.tyvars.items gs.items) → FoundAt p e (dec_phrase d)
dec-Fun-own p e d q as_ gs is h = dec-are p e d _ (is-Fun d q as_ gs is) h

pub dec-Fun : (p : Sought) (e : Env) (d : Dec) (q : Place) (as_ : TyvarSeq) (gs : Vec Function Global) → d ≡ decs.Fun q as_ gs
    → AnyAt p (all_in (plus e (rec_names (function_binds (map function_of gs.items)))) (map function_phrase gs.items)) → FoundAt p e (dec_phrase d)
dec-Fun p e d q as_ gs is h =
    dec-are p e d _ (is-Fun d q as_ gs is)
    (parts-at p e (dec (bare.val_dec q as_.place as_.tyvars.items bare.no_binds (function_binds (map function_of gs.items))))
    (any-are p (plus e (rec_names (function_binds (map function_of gs.items)))) _ _ (functions-are gs.items) h))

pub dec-Abbreviation : (p : Sought) (e : Env) (d : Dec) (q : Place) (bs : Vec TypeBind Global) → d ≡ decs.Abbreviation q bs
    → AnyAt p (all_in e (map type_phrase bs.items)) → FoundAt p e (dec_phrase d)
dec-Abbreviation p e d q bs is h =
    dec-are p e d _ (is-Abbreviation d q bs is)
    (parts-at p e (dec (bare.type_dec q (map type_bind_of bs.items))) (any-are p e _ _ (map-twice type_bind type_bind_of bs.items) h))

pub dec-Datatype : (p : Sought) (e : Env) (d : Dec) (q : Place) (bs : Vec DataBind Global) → d ≡ decs.Datatype q bs
    → AnyAt p (all_in (plus e (tycons_names (map data_bind_of bs.items))) (map data_phrase bs.items)) → FoundAt p e (dec_phrase d)
dec-Datatype p e d q bs is h =
    dec-are p e d _ (is-Datatype d q bs is)
    (parts-at p e (dec (bare.datatype_dec q (map data_bind_of bs.items))) (any-are p (plus e (tycons_names (map data_bind_of bs.items))) _ _ (map-twice data_bind data_bind_of bs.items) h))

pub dec-Withtype-datas : (p : Sought) (e : Env) (d : Dec) (q : Place) (ds : Vec DataBind Global) (bs : Vec TypeBind Global) → d ≡ decs.Withtype q ds bs
    → AnyAt p (all_in (plus e (tycons_names (map (expand_bind (map type_bind_of bs.items)) (map data_bind_of ds.items)))) (map data_bind (map (expand_bind (map type_bind_of bs.items)) (map data_bind_of ds.items))))
    → FoundAt p e (dec_phrase d)
dec-Withtype-datas p e d q ds bs is h =
    dec-are p e d _ (is-Withtype d q ds bs is)
    (parts-at p e (dec (withtype_of q (map data_bind_of ds.items) (map type_bind_of bs.items)))
    (any-here p _ _ (parts-at p e (dec (bare.datatype_dec q (map (expand_bind (map type_bind_of bs.items)) (map data_bind_of ds.items)))) h)))

pub dec-Withtype-types : (p : Sought) (e : Env) (d : Dec) (q : Place) (ds : Vec DataBind Global) (bs : Vec TypeBind Global) → d ≡ decs.Withtype q ds bs
    → AnyAt p (all_in (plus e (datatypes_env (map (expand_bind (map type_bind_of bs.items)) (map data_bind_of ds.items)))) (map type_phrase bs.items)) → FoundAt p e (dec_phrase d)
dec-Withtype-types p e d q ds bs is h =
    dec-are p e d _ (is-Withtype d q ds bs is)
    (parts-at p e (dec (withtype_of q (map data_bind_of ds.items) (map type_bind_of bs.items)))
    (any-there p _ _ (any-here p _ []
    (parts-at p (plus e (datatypes_env (map (expand_bind (map type_bind_of bs.items)) (map data_bind_of ds.items)))) (dec (bare.type_dec q (map type_bind_of bs.items)))
    (any-are p (plus e (datatypes_env (map (expand_bind (map type_bind_of bs.items)) (map data_bind_of ds.items)))) _ _ (map-twice type_bind type_bind_of bs.items) h)))))

pub dec-Replicate : (p : Sought) (e : Env) (d : Dec) (q : Place) (n : ℕ) (y : LongIdAt) → d ≡ decs.Replicate q n y
    → At p (unless_bound (long_tycon_in e (long_id_at_of y)) (tycon_at (long_id_at_of y).place (long_id_at_of y).long)) → FoundAt p e (dec_phrase d)
dec-Replicate p e d q n y is h =
    dec-are p e d _ (is-Replicate d q n y is)
    (own-at p e (dec (bare.replicate_dec q n (long_id_at_of y))) h)

pub dec-Exception : (p : Sought) (e : Env) (d : Dec) (q : Place) (bs : Vec ExBind Global) → d ≡ decs.Exception q bs
    → AnyAt p (all_in e (map exn_phrase bs.items)) → FoundAt p e (dec_phrase d)
dec-Exception p e d q bs is h =
    dec-are p e d _ (is-Exception d q bs is)
    (parts-at p e (dec (bare.exception_dec q (map ex_bind_of bs.items))) (any-are p e _ _ (map-twice ex_bind ex_bind_of bs.items) h))

pub dec-Local-decs : (p : Sought) (e : Env) (d : Dec) (q : Place) (ds es : Vec Dec Global) → d ≡ decs.Local q ds es
    → AnyAt p (decs_in e (decs_of (map dec_of ds.items))) → FoundAt p e (dec_phrase d)
dec-Local-decs p e d q ds es is h =
    dec-are p e d _ (is-Local d q ds es is)
    (parts-at p e (dec (bare.local_dec q (decs_of (map dec_of ds.items)) (decs_of (map dec_of es.items)))) (any-left p _ _ h))

pub dec-Local-shown : (p : Sought) (e : Env) (d : Dec) (q : Place) (ds es : Vec Dec Global) → d ≡ decs.Local q ds es
    → AnyAt p (decs_in (plus e (decs_names e (decs_of (map dec_of ds.items)))) (decs_of (map dec_of es.items))) → FoundAt p e (dec_phrase d)
dec-Local-shown p e d q ds es is h =
    dec-are p e d _ (is-Local d q ds es is)
    (parts-at p e (dec (bare.local_dec q (decs_of (map dec_of ds.items)) (decs_of (map dec_of es.items)))) (any-right p (decs_in e (decs_of (map dec_of ds.items))) _ h))

-- one of its structures, whichever it is
pub dec-Open-own : (p : Sought) (e : Env) (d : Dec) (q : Place) (xs : Vec LongIdAt Global) → d ≡ decs.Open q xs
    → At p (flat_map (λ y. unless_bound (long_structure_in e y) (structure_at y.place y.long)) (map long_id_at_of xs.items)) → FoundAt p e (dec_phrase d)
dec-Open-own p e d q xs is h = dec-are p e d _ (is-Open d q xs is) (own-at p e (dec (bare.open_dec q (map long_id_at_of xs.items))) h)

pub dec-Declarations : (p : Sought) (e : Env) (d : Dec) (q : Place) (ds : Vec Dec Global) → d ≡ decs.Declarations q ds
    → AnyAt p (decs_in e (decs_of (map dec_of ds.items))) → FoundAt p e (dec_phrase d)
dec-Declarations p e d q ds is h =
    dec-are p e d _ (is-Declarations d q ds is)
    (parts-at p e (dec (bare.sequence_dec q (decs_of (map dec_of ds.items)))) h)

-- the names that each node brings

pub names-Val : (e : Env) (d : Dec) (q : Place) (as_ : TyvarSeq) (bs rs : Vec Bind Global) → d ≡ decs.Val q as_ bs rs
    → dec_names e (dec_of d) ≡ plus (binds_names e (binds_of (map bind_of bs.items))) (rec_names (binds_of (map bind_of rs.items)))
names-Val e d q as_ bs rs is = ap (dec_names e) (is-Val d q as_ bs rs is)

pub names-Fun : (e : Env) (d : Dec) (q : Place) (as_ : TyvarSeq) (gs : Vec Function Global) → d ≡ decs.Fun q as_ gs
    → dec_names e (dec_of d) ≡ plus nothing (rec_names (function_binds (map function_of gs.items)))
names-Fun e d q as_ gs is = ap (dec_names e) (is-Fun d q as_ gs is)

pub names-Abbreviation : (e : Env) (d : Dec) (q : Place) (bs : Vec TypeBind Global) → d ≡ decs.Abbreviation q bs
    → dec_names e (dec_of d) ≡ types_env (map type_bind_of bs.items)
names-Abbreviation e d q bs is = ap (dec_names e) (is-Abbreviation d q bs is)

pub names-Datatype : (e : Env) (d : Dec) (q : Place) (bs : Vec DataBind Global) → d ≡ decs.Datatype q bs
    → dec_names e (dec_of d) ≡ datatypes_env (map data_bind_of bs.items)
names-Datatype e d q bs is = ap (dec_names e) (is-Datatype d q bs is)

pub names-Withtype : (e : Env) (d : Dec) (q : Place) (ds : Vec DataBind Global) (bs : Vec TypeBind Global) → d ≡ decs.Withtype q ds bs
    → dec_names e (dec_of d) ≡ plus (datatypes_env (map (expand_bind (map type_bind_of bs.items)) (map data_bind_of ds.items))) (types_env (map type_bind_of bs.items))
names-Withtype e d q ds bs is = ap (dec_names e) (is-Withtype d q ds bs is)

pub names-Replicate : (e : Env) (d : Dec) (q : Place) (n : ℕ) (y : LongIdAt) → d ≡ decs.Replicate q n y
    → dec_names e (dec_of d) ≡ unwrap_or (option_map (λ t. tycon n t t) (long_tycon_in e (long_id_at_of y))) nothing
names-Replicate e d q n y is = ap (dec_names e) (is-Replicate d q n y is)

pub names-Exception : (e : Env) (d : Dec) (q : Place) (bs : Vec ExBind Global) → d ≡ decs.Exception q bs
    → dec_names e (dec_of d) ≡ exns_names (map ex_bind_of bs.items)
names-Exception e d q bs is = ap (dec_names e) (is-Exception d q bs is)

pub names-Local : (e : Env) (d : Dec) (q : Place) (ds es : Vec Dec Global) → d ≡ decs.Local q ds es
    → dec_names e (dec_of d) ≡ decs_names (plus e (decs_names e (decs_of (map dec_of ds.items)))) (decs_of (map dec_of es.items))
names-Local e d q ds es is = ap (dec_names e) (is-Local d q ds es is)

pub names-Open : (e : Env) (d : Dec) (q : Place) (xs : Vec LongIdAt Global) → d ≡ decs.Open q xs
    → dec_names e (dec_of d) ≡ unwrap_or (opened e (map long_id_at_of xs.items)) nothing
names-Open e d q xs is = ap (dec_names e) (is-Open d q xs is)

pub names-Declarations : (e : Env) (d : Dec) (q : Place) (ds : Vec Dec Global) → d ≡ decs.Declarations q ds
    → dec_names e (dec_of d) ≡ decs_names e (decs_of (map dec_of ds.items))
names-Declarations e d q ds is = ap (dec_names e) (is-Declarations d q ds is)
