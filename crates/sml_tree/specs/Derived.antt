-- The derived forms (the Definition, Appendix A), one function a form: what each stands for. Each phrase that a form makes has the place of the form.
use Rattle.std.specs.Prelude.{ℕ, suc, Bool, true, false, List, [], ◌∷◌, map, Option, Some, None, nat_eq, if◌then◌else◌}
use Rattle.mlc_names.specs.declared.label.Label.{Label}
use Rattle.mlc_names.specs.declared.label.Label.TheVariants.{Number}
use Rattle.mlc_base.specs.declared.place.Place.{Place}
use Rattle.sml_tree.specs.Terminal.{LongVid, LongId}
use Rattle.sml_tree.specs.declared.ident.Tyvar.{Tyvar}
use Rattle.sml_tree.specs.declared.ident.Vid.{Vid}
use Rattle.sml_tree.specs.declared.ident.Vid.TheVariants.{Named, Fresh}
use Rattle.sml_tree.specs.declared.ident.BuiltIn.TheVariants.{True, False, Nil, Cons}
use Rattle.sml_tree.specs.declared.tree.Joint.{Joint}
use Rattle.sml_tree.specs.declared.tree.Joint.TheVariants.{AndAlso, OrElse, Infix}
use Rattle.sml_tree.specs.BareTree.{Ty, var, fields, con, arrow, ill, Tys, no_tys, ty, TyFields, no_ty_fields, ty_field, Pat, wild_pat, vid_pat, built_pat, fields_pat, con_pat, built_con_pat, typed_pat, PatFields, no_pat_fields, pat_field, TypeBind, ConBind, DataBind, Exp, vid_exp, built_exp, fields_exp, let_in, app, typed, fn, ExpFields, no_exp_fields, exp_field, Rules, no_rules, rule, Decs, no_decs, dec, Dec, val_dec, type_dec, datatype_dec, sequence_dec, Binds, no_binds, bind}

-- an identifier with no qualifier
abbrev pub short : Vid → LongVid
short v = record { qualifiers = []; vid = v }

abbrev pub fresh_exp : Place → ℕ → Exp
fresh_exp p k = vid_exp p (short (Fresh k))

abbrev pub fresh_pat : Place → ℕ → Pat
fresh_pat p k = vid_pat p (short (Fresh k))

-- fields whose labels are the numbers from k on
abbrev pub numbered : ℕ → List Exp → ExpFields
numbered k [] = no_exp_fields
numbered k (e ∷ es) = exp_field (Number k) e (numbered (suc k) es)

abbrev pub numbered_pats : ℕ → List Pat → PatFields
numbered_pats k [] = no_pat_fields
numbered_pats k (a ∷ as_) = pat_field (Number k) a (numbered_pats (suc k) as_)

abbrev pub numbered_tys : ℕ → List Ty → TyFields
numbered_tys k [] = no_ty_fields
numbered_tys k (t ∷ ts) = ty_field (Number k) t (numbered_tys (suc k) ts)

-- () and (e1, .., en): {} and {1 = e1, .., n = en}, in patterns too; t1 * .. * tn: {1 : t1, .., n : tn}
abbrev pub tuple : Place → List Exp → Exp
tuple p es = fields_exp p (numbered 1 es)

abbrev pub tuple_pat : Place → List Pat → Pat
tuple_pat p as_ = fields_pat p (numbered_pats 1 as_) false

abbrev pub product : Place → List Ty → Ty
product p ts = fields p (numbered_tys 1 ts)

abbrev pub unit : Place → Exp
unit p = tuple p []

-- a v b: op v (a, b), in patterns too; q is the place of v
abbrev pub infix_app : Place → Place → Vid → Exp → Exp → Exp
infix_app p q v a b = app p (vid_exp q (short v)) (tuple p (a ∷ b ∷ []))

abbrev pub infix_con : Place → Place → Vid → Pat → Pat → Pat
infix_con p q v a b = con_pat p q (short v) (tuple_pat p (a ∷ b ∷ []))

-- e e1 .. en: applications to the left, all at one place
abbrev pub app_of : Place → Exp → List Exp → Exp
app_of p e [] = e
app_of p e (a ∷ as_) = app_of p (app p e a) as_

-- Operands of a chain: what joins one to what is before it, the place where it begins, and the operand.
pub record Operand (J A : Type 0) : Type 0 where
  pub joint : J
  pub place : Place
  pub operand : A

-- a j1 b1 j2 .. to the left, all at the place of a
abbrev pub left_chain : {J A : Type 0} → (J → Place → A → A → A) → Place → A → List (Operand J A) → A
left_chain join p a [] = a
left_chain join p a (b ∷ bs) = left_chain join p (join b.joint p a b.operand) bs

-- a j1 (b1 j2 ..) to the right, each at the place of its first operand
abbrev pub right_chain : {J A : Type 0} → (J → Place → A → A → A) → Place → A → List (Operand J A) → A
right_chain join p a [] = a
right_chain join p a (b ∷ bs) = join b.joint p a (right_chain join b.place b.operand bs)

abbrev pub chain_of : {J A : Type 0} → (J → Place → A → A → A) → Bool → Place → A → List (Operand J A) → A
chain_of join true p a bs = right_chain join p a bs
chain_of join false p a bs = left_chain join p a bs

-- an infix identifier between patterns, and its place
pub record VidAt : Type 0 where
  pub place : Place
  pub vid : Vid

abbrev pub join_pats : VidAt → Place → Pat → Pat → Pat
join_pats v p a b = infix_con p v.place v.vid a b

-- t1 -> (t2 -> ..), each at the place of its first part
pub record TyAt : Type 0 where
  pub place : Place
  pub ty : Ty

abbrev pub arrows : Place → Ty → List TyAt → Ty
arrows p t [] = t
arrows p t (u ∷ us) = arrow p t (arrows u.place u.ty us)

-- #lab: fn {lab = v, ...} => v
abbrev pub select : Place → Label → Exp
select p l = fn p (rule p (fields_pat p (pat_field l (fresh_pat p 0) no_pat_fields) true) (fresh_exp p 0) no_rules)

-- case e of m: (fn m) e
abbrev pub case_of : Place → Exp → Rules → Exp
case_of p e rs = app p (fn p rs) e

-- if a then b else c: case a of true => b | false => c
abbrev pub if_of : Place → Exp → Exp → Exp → Exp
if_of p a b c = case_of p a (rule p (built_pat p True) b (rule p (built_pat p False) c no_rules))

-- a andalso b: if a then b else false
abbrev pub and_of : Place → Exp → Exp → Exp
and_of p a b = if_of p a b (built_exp p False)

-- a orelse b: if a then true else b
abbrev pub or_of : Place → Exp → Exp → Exp
or_of p a b = if_of p a (built_exp p True) b

-- what a joint makes of the two expressions beside it
abbrev pub join : Joint → Place → Exp → Exp → Exp
join AndAlso p a b = and_of p a b
join OrElse p a b = or_of p a b
join (Infix q v) p a b = infix_app p q v a b

-- (e1; ..; en; e): case e1 of _ => .. case en of _ => e. The first expression is given apart.
abbrev pub sequence_of : Place → Exp → List Exp → Exp
sequence_of p e [] = e
sequence_of p e (f ∷ fs) = case_of p e (rule p (wild_pat p) (sequence_of p f fs) no_rules)

-- let d in e1; ..; en end: let d in (e1; ..; en) end
abbrev pub let_of : Place → Decs → Exp → List Exp → Exp
let_of p ds e es = let_in p ds (sequence_of p e es)

-- while a do b: let val rec v = fn () => if a then (b; v ()) else () in v () end
abbrev pub while_of : Place → Exp → Exp → Exp
while_of p a b =
    let_in p
    (dec (val_dec p p [] no_binds (bind p (fresh_pat p 0)
    (fn p (rule p (tuple_pat p []) (if_of p a (sequence_of p b (app p (fresh_exp p 0) (unit p) ∷ [])) (unit p)) no_rules)) no_binds)) no_decs)
    (app p (fresh_exp p 0) (unit p))

-- [e1, .., en]: e1 :: .. :: en :: nil, in patterns too
abbrev pub list_of : Place → List Exp → Exp
list_of p [] = built_exp p Nil
list_of p (e ∷ es) = app p (built_exp p Cons) (tuple p (e ∷ list_of p es ∷ []))

abbrev pub list_pat_of : Place → List Pat → Pat
list_pat_of p [] = built_pat p Nil
list_pat_of p (a ∷ as_) = built_con_pat p Cons (tuple_pat p (a ∷ list_pat_of p as_ ∷ []))

-- One clause of `fun`: its place, its patterns and its right side.
pub record Clause : Type 0 where
  pub place : Place
  pub pats : List Pat
  pub body : Exp

-- p1 alone, or (p1, .., pn)
abbrev pub one_or_tuple_pat : Place → List Pat → Pat
one_or_tuple_pat p (a ∷ []) = a
one_or_tuple_pat p as_ = tuple_pat p as_

abbrev pub one_or_tuple : Place → List Exp → Exp
one_or_tuple p (e ∷ []) = e
one_or_tuple p es = tuple p es

abbrev pub clause_rules : List Clause → Rules
clause_rules [] = no_rules
clause_rules (c ∷ cs) = rule c.place (one_or_tuple_pat c.place c.pats) c.body (clause_rules cs)

-- one fresh variable for each pattern, numbered from k on
abbrev pub fresh_for : Place → ℕ → List Pat → List Exp
fresh_for p k [] = []
fresh_for p k (a ∷ as_) = fresh_exp p k ∷ fresh_for p (suc k) as_

-- fn vk => .. fn vn => e
abbrev pub fn_for : Place → ℕ → List Pat → Exp → Exp
fn_for p k [] e = e
fn_for p k (a ∷ as_) e = fn p (rule p (fresh_pat p k) (fn_for p (suc k) as_ e) no_rules)

-- the patterns of the first clause, as many as those of each
abbrev pub first_pats : List Clause → List Pat
first_pats [] = []
first_pats (c ∷ cs) = c.pats

-- f p1 .. pn = e | ..: f = fn v1 => .. fn vn => case (v1, .., vn) of (p1, .., pn) => e | .., and case v1 of p1 => .. for n = 1
abbrev pub fun_of : Place → List Clause → Exp
fun_of p cs = fn_for p 1 (first_pats cs) (case_of p (one_or_tuple p (fresh_for p 1 (first_pats cs))) (clause_rules cs))

-- One function of `fun`: its place, its name with the name's own place, and its clauses.
pub record Function : Type 0 where
  pub place : Place
  pub vid_place : Place
  pub vid : Vid
  pub clauses : List Clause

abbrev pub function_binds : List Function → Binds
function_binds [] = no_binds
function_binds (g ∷ gs) = bind g.place (vid_pat g.vid_place (short g.vid)) (fun_of g.place g.clauses) (function_binds gs)

-- fun tyvarseq f .. and g ..: val tyvarseq rec f = .. and g = ..; q is the place of the sequence
abbrev pub fun_dec_of : Place → Place → List Tyvar → List Function → Dec
fun_dec_of p q as_ gs = val_dec p q as_ no_binds (function_binds gs)

-- [: t] = e: = [e : t], at the place of e
abbrev pub with_result : Place → Exp → Option Ty → Exp
with_result p e None = e
with_result p e (Some t) = typed p e t

-- The pattern of a field x [: t] [as p]: the field is x = x [: t] [as p].
abbrev pub pun : Place → ℕ → Option Ty → Pat
pun p x None = vid_pat p (short (Named x))
pun p x (Some t) = typed_pat p (vid_pat p (short (Named x))) t

-- Abbreviations written out.

abbrev pub tys_list : Tys → List Ty
tys_list no_tys = []
tys_list (ty t ts) = t ∷ tys_list ts

abbrev pub tys_of : List Ty → Tys
tys_of [] = no_tys
tys_of (t ∷ ts) = ty t (tys_of ts)

-- the argument of a parameter, if there is one: the parameters and the arguments are as many
abbrev pub argument : List Tyvar → List Ty → Place → Tyvar → Ty
argument (b ∷ bs) (t ∷ ts) p a = if nat_eq a.name b.name then t else argument bs ts p a
argument _ _ p a = var p a

-- a type with arguments put for parameters
abbrev mutual
  pub put_ty : List Tyvar → List Ty → Ty → Ty
  put_ty as_ ts (var p a) = argument as_ ts p a
  put_ty as_ ts (fields p fs) = fields p (put_ty_fields as_ ts fs)
  put_ty as_ ts (con p us q c) = con p (put_tys as_ ts us) q c
  put_ty as_ ts (arrow p t u) = arrow p (put_ty as_ ts t) (put_ty as_ ts u)
  put_ty as_ ts (ill p) = ill p

  pub put_tys : List Tyvar → List Ty → Tys → Tys
  put_tys as_ ts no_tys = no_tys
  put_tys as_ ts (ty u us) = ty (put_ty as_ ts u) (put_tys as_ ts us)

  pub put_ty_fields : List Tyvar → List Ty → TyFields → TyFields
  put_ty_fields as_ ts no_ty_fields = no_ty_fields
  put_ty_fields as_ ts (ty_field l u fs) = ty_field l (put_ty as_ ts u) (put_ty_fields as_ ts fs)

abbrev pub same_length : List Tyvar → List Ty → Bool
same_length [] [] = true
same_length (a ∷ as_) (t ∷ ts) = same_length as_ ts
same_length _ _ = false

abbrev pub binding_of : ℕ → List TypeBind → Option TypeBind
binding_of x [] = None
binding_of x (b ∷ bs) = if nat_eq x b.tycon then Some b else binding_of x bs

-- what `tys c` stands for: the right side of c's abbreviation, if it has one
abbrev pub written_out : Place → Tys → Place → LongId → Option TypeBind → Ty
written_out p ts q c None = con p ts q c
written_out p ts q c (Some b) = if same_length b.tyvars (tys_list ts) then put_ty b.tyvars (tys_list ts) b.ty else ill p

-- the abbreviation of a type constructor that is written with no qualifier
abbrev pub unqualified : List TypeBind → List ℕ → ℕ → Option TypeBind
unqualified bs [] x = binding_of x bs
unqualified bs (q ∷ qs) x = None

abbrev pub abbreviation : List TypeBind → LongId → Option TypeBind
abbreviation bs c = unqualified bs c.qualifiers c.id

abbrev mutual
  pub expand_ty : List TypeBind → Ty → Ty
  expand_ty bs (var p a) = var p a
  expand_ty bs (fields p fs) = fields p (expand_ty_fields bs fs)
  expand_ty bs (con p ts q c) = written_out p (expand_tys bs ts) q c (abbreviation bs c)
  expand_ty bs (arrow p t u) = arrow p (expand_ty bs t) (expand_ty bs u)
  expand_ty bs (ill p) = ill p

  pub expand_tys : List TypeBind → Tys → Tys
  expand_tys bs no_tys = no_tys
  expand_tys bs (ty t ts) = ty (expand_ty bs t) (expand_tys bs ts)

  pub expand_ty_fields : List TypeBind → TyFields → TyFields
  expand_ty_fields bs no_ty_fields = no_ty_fields
  expand_ty_fields bs (ty_field l t fs) = ty_field l (expand_ty bs t) (expand_ty_fields bs fs)

abbrev pub expand_some : List TypeBind → Option Ty → Option Ty
expand_some bs None = None
expand_some bs (Some t) = Some (expand_ty bs t)

abbrev pub expand_con : List TypeBind → ConBind → ConBind
expand_con bs c = record { place = c.place; vid = c.vid; of_ty = expand_some bs c.of_ty }

abbrev pub expand_bind : List TypeBind → DataBind → DataBind
expand_bind bs d = record { place = d.place; tyvars = d.tyvars; tycon = d.tycon; cons = map (expand_con bs) d.cons }

-- datatype d withtype b: datatype d'; type b, where d' is d with the abbreviations of b written out
abbrev pub withtype_of : Place → List DataBind → List TypeBind → Dec
withtype_of p ds bs = sequence_dec p (dec (datatype_dec p (map (expand_bind bs) ds)) (dec (type_dec p bs) no_decs))
