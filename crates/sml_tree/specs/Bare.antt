-- The bare tree of a tree that was read from a file: brackets are gone, and each derived form is what it stands for.
use Rattle.std.specs.Prelude.{ℕ, Bool, true, false, List, [], ◌∷◌, map, Option, Some, None, if◌then◌else◌}
use Rattle.mlc_names.specs.declared.label.Label.TheVariants.{Word}
use Rattle.mlc_base.specs.declared.place.Place.{Place}
use Rattle.sml_tree.specs.Terminal.{LongId}
use Rattle.sml_tree.specs.declared.ident.Vid.{Vid}
use Rattle.sml_tree.specs.declared.ident.Vid.TheVariants.{Named}
use Rattle.sml_tree.specs.BareTree as bare
use Rattle.sml_tree.specs.declared.tree.Joint as tree
use Rattle.sml_tree.specs.declared.tree.Joint.TheVariants.{AndAlso, OrElse, Infix}
use Rattle.sml_tree.specs.Derived.{tuple, tuple_pat, product, unit, app_of, Operand, chain_of, VidAt, join, join_pats, TyAt, arrows, select, case_of, if_of, sequence_of, while_of, list_of, list_pat_of, Clause, Function, fun_dec_of, with_result, pun, withtype_of}
use Rattle.sml_tree.specs.ReadTree.{Placed, Ty, var_ty, record_ty, con_ty, product_ty, arrow_ty, paren_ty, Tys, no_tys, ty, TyFields, no_ty_fields, ty_field, ty_place, Pat, wild_pat, constant_pat, vid_pat, record_pat, unit_pat, list_pat, paren_pat, con_pat, chain_pat, typed_pat, as_pat, Pats, no_pats, pat, PatFields, no_pat_fields, pat_field, PatField, labelled, punned, punned_as, PatParts, last_pat_part, pat_part, pat_place, Joint, and_also, or_else, infixed, Head, prefix_head, infix_head, bracket_head, head_vid, head_vid_place, head_place, TypeBind, ConBind, DataBind, ExBind, new_exn, same_exn, Exp, constant_exp, vid_exp, record_exp, selector, unit_exp, tuple_exp, list_exp, sequence, paren_exp, let_in, app, chain, typed, handle, raise, if_then, while, case, fn, Exps, no_exps, exp, ExpFields, no_exp_fields, exp_field, Parts, last_part, part, Rules, last_rule, rule, Decs, no_decs, dec, Dec, val_dec, fun_dec, type_dec, datatype_dec, withtype_dec, replicate_dec, exception_dec, local_dec, open_dec, fixity_dec, Binds, last_bind, bind, rec_binds, Funs, last_fun, fun_and, Clauses, last_clause, clause, exp_place}
use Rattle.sml_tree.specs.ReadTree as read

abbrev pub at : ℕ → ℕ → Place
at file p = record { file = file; byte = p }

-- Types.

abbrev mutual
  pub bare_ty : ℕ → Ty → bare.Ty
  bare_ty f (var_ty p a) = bare.var (at f p) a
  bare_ty f (record_ty p fs) = bare.fields (at f p) (bare_ty_fields f fs)
  bare_ty f (con_ty p ts c) = bare.con (at f p) (bare_tys f ts) (at f c.place) c.it
  bare_ty f (product_ty t ts) = product (at f (ty_place t)) (bare_ty f t ∷ ty_list f ts)
  bare_ty f (arrow_ty t ts) = arrows (at f (ty_place t)) (bare_ty f t) (ty_at_list f ts)
  bare_ty f (paren_ty p t) = bare_ty f t

  pub bare_tys : ℕ → Tys → bare.Tys
  bare_tys f no_tys = bare.no_tys
  bare_tys f (ty t ts) = bare.ty (bare_ty f t) (bare_tys f ts)

  pub ty_list : ℕ → Tys → List bare.Ty
  ty_list f no_tys = []
  ty_list f (ty t ts) = bare_ty f t ∷ ty_list f ts

  pub ty_at_list : ℕ → Tys → List TyAt
  ty_at_list f no_tys = []
  ty_at_list f (ty t ts) = record { place = at f (ty_place t); ty = bare_ty f t } ∷ ty_at_list f ts

  pub bare_ty_fields : ℕ → TyFields → bare.TyFields
  bare_ty_fields f no_ty_fields = bare.no_ty_fields
  bare_ty_fields f (ty_field l t fs) = bare.ty_field l (bare_ty f t) (bare_ty_fields f fs)

abbrev pub bare_some : ℕ → Option Ty → Option bare.Ty
bare_some f None = None
bare_some f (Some t) = Some (bare_ty f t)

-- Patterns.

abbrev pub vid_at : ℕ → Placed ℕ → VidAt
vid_at f x = record { place = at f x.place; vid = Named x.it }

abbrev mutual
  pub bare_pat : ℕ → Pat → bare.Pat
  bare_pat f (wild_pat p) = bare.wild_pat (at f p)
  bare_pat f (constant_pat p c) = bare.constant_pat (at f p) c
  bare_pat f (vid_pat p x) = bare.vid_pat (at f x.place) x.it
  bare_pat f (record_pat p fs b) = bare.fields_pat (at f p) (bare_pat_fields f fs) b
  bare_pat f (unit_pat p) = tuple_pat (at f p) []
  bare_pat f (read.tuple_pat p as_) = tuple_pat (at f p) (pat_list f as_)
  bare_pat f (list_pat p as_) = list_pat_of (at f p) (pat_list f as_)
  bare_pat f (paren_pat p a) = bare_pat f a
  bare_pat f (con_pat p x a) = bare.con_pat (at f p) (at f x.place) x.it (bare_pat f a)
  bare_pat f (chain_pat r a ps) = chain_of join_pats r (at f (pat_place a)) (bare_pat f a) (pat_operands f ps)
  bare_pat f (typed_pat a t) = bare.typed_pat (at f (pat_place a)) (bare_pat f a) (bare_ty f t)
  bare_pat f (as_pat p v t a) = bare.as_pat (at f v.place) v.it (bare_some f t) (bare_pat f a)

  pub pat_list : ℕ → Pats → List bare.Pat
  pat_list f no_pats = []
  pat_list f (pat a as_) = bare_pat f a ∷ pat_list f as_

  pub bare_pat_fields : ℕ → PatFields → bare.PatFields
  bare_pat_fields f no_pat_fields = bare.no_pat_fields
  bare_pat_fields f (pat_field (labelled l a) fs) = bare.pat_field l (bare_pat f a) (bare_pat_fields f fs)
  bare_pat_fields f (pat_field (punned p x t) fs) = bare.pat_field (Word x) (pun (at f p) x (bare_some f t)) (bare_pat_fields f fs)
  bare_pat_fields f (pat_field (punned_as p x t a) fs) = bare.pat_field (Word x) (bare.as_pat (at f p) (Named x) (bare_some f t) (bare_pat f a))
      (bare_pat_fields f fs)

  pub pat_operands : ℕ → PatParts → List (Operand VidAt bare.Pat)
  pat_operands f (last_pat_part x a) = record { joint = vid_at f x; place = at f (pat_place a); operand = bare_pat f a } ∷ []
  pat_operands f (pat_part x a ps) = record { joint = vid_at f x; place = at f (pat_place a); operand = bare_pat f a } ∷ pat_operands f ps

-- The patterns of a clause: an infix head's first one is the pair of its two.
abbrev pub head_pats : ℕ → Head → List bare.Pat
head_pats f (prefix_head p v a as_) = bare_pat f a ∷ pat_list f as_
head_pats f (infix_head a x b) = tuple_pat (at f (pat_place a)) (bare_pat f a ∷ bare_pat f b ∷ []) ∷ []
head_pats f (bracket_head p a x b as_) = tuple_pat (at f p) (bare_pat f a ∷ bare_pat f b ∷ []) ∷ pat_list f as_

-- Bindings of types and exceptions.

abbrev pub bare_type_bind : ℕ → TypeBind → bare.TypeBind
bare_type_bind f b = record { place = at f b.place; tyvars = b.tyvars; tycon = b.tycon; ty = bare_ty f b.ty }

abbrev pub bare_con : ℕ → ConBind → bare.ConBind
bare_con f c = record { place = at f c.place; vid = c.vid; of_ty = bare_some f c.of_ty }

abbrev pub bare_data_bind : ℕ → DataBind → bare.DataBind
bare_data_bind f b = record { place = at f b.place; tyvars = b.tyvars; tycon = b.tycon; cons = map (bare_con f) b.cons }

abbrev pub bare_ex_bind : ℕ → ExBind → bare.ExBind
bare_ex_bind f (new_exn p v t) = bare.new_exn (at f p) v (bare_some f t)
bare_ex_bind f (same_exn p v x) = bare.same_exn (at f p) v (at f x.place) x.it

abbrev pub bare_long : ℕ → Placed LongId → bare.LongIdAt
bare_long f x = record { place = at f x.place; long = x.it }

-- Expressions and declarations.

abbrev pub joint_of : ℕ → Joint → tree.Joint
joint_of f and_also = AndAlso
joint_of f or_else = OrElse
joint_of f (infixed v) = Infix (at f v.place) v.it

-- the place of a function, its name and the place of the name are those of its first clause
abbrev pub clauses_place : Clauses → ℕ
clauses_place (last_clause h t e) = head_place h
clauses_place (clause h t e cs) = head_place h

abbrev pub clauses_vid : Clauses → Vid
clauses_vid (last_clause h t e) = head_vid h
clauses_vid (clause h t e cs) = head_vid h

abbrev pub clauses_vid_place : Clauses → ℕ
clauses_vid_place (last_clause h t e) = head_vid_place h
clauses_vid_place (clause h t e cs) = head_vid_place h

abbrev pub is_directive : Dec → Bool
is_directive (fixity_dec p s xs) = true
is_directive d = false

abbrev mutual
  pub bare_exp : ℕ → Exp → bare.Exp
  bare_exp f (constant_exp p c) = bare.constant_exp (at f p) c
  bare_exp f (vid_exp p x) = bare.vid_exp (at f x.place) x.it
  bare_exp f (record_exp p fs) = bare.fields_exp (at f p) (bare_exp_fields f fs)
  bare_exp f (selector p l) = select (at f p) l
  bare_exp f (unit_exp p) = unit (at f p)
  bare_exp f (tuple_exp p es) = tuple (at f p) (exp_list f es)
  bare_exp f (list_exp p es) = list_of (at f p) (exp_list f es)
  bare_exp f (sequence p es) = bare_sequence f p es
  bare_exp f (paren_exp p e) = bare_exp f e
  bare_exp f (let_in p ds es) = bare.let_in (at f p) (bare_decs f ds) (bare_sequence f p es)
  bare_exp f (app e a es) = app_of (at f (exp_place e)) (bare_exp f e) (bare_exp f a ∷ exp_list f es)
  bare_exp f (chain r a ps) = chain_of join r (at f (exp_place a)) (bare_exp f a) (operands f ps)
  bare_exp f (typed e t) = bare.typed (at f (exp_place e)) (bare_exp f e) (bare_ty f t)
  bare_exp f (handle e rs) = bare.handle (at f (exp_place e)) (bare_exp f e) (bare_rules f rs)
  bare_exp f (raise p e) = bare.raise (at f p) (bare_exp f e)
  bare_exp f (if_then p a b c) = if_of (at f p) (bare_exp f a) (bare_exp f b) (bare_exp f c)
  bare_exp f (while p a b) = while_of (at f p) (bare_exp f a) (bare_exp f b)
  bare_exp f (case p e rs) = case_of (at f p) (bare_exp f e) (bare_rules f rs)
  bare_exp f (fn p rs) = bare.fn (at f p) (bare_rules f rs)

  -- (e1; ..; en) at the place p; no reading gives an empty one
  pub bare_sequence : ℕ → ℕ → Exps → bare.Exp
  bare_sequence f p no_exps = unit (at f p)
  bare_sequence f p (exp e es) = sequence_of (at f p) (bare_exp f e) (exp_list f es)

  pub exp_list : ℕ → Exps → List bare.Exp
  exp_list f no_exps = []
  exp_list f (exp e es) = bare_exp f e ∷ exp_list f es

  pub bare_exp_fields : ℕ → ExpFields → bare.ExpFields
  bare_exp_fields f no_exp_fields = bare.no_exp_fields
  bare_exp_fields f (exp_field l e fs) = bare.exp_field l (bare_exp f e) (bare_exp_fields f fs)

  pub operands : ℕ → Parts → List (Operand tree.Joint bare.Exp)
  operands f (last_part j e) = record { joint = joint_of f j; place = at f (exp_place e); operand = bare_exp f e } ∷ []
  operands f (part j e ps) = record { joint = joint_of f j; place = at f (exp_place e); operand = bare_exp f e } ∷ operands f ps

  pub bare_rules : ℕ → Rules → bare.Rules
  bare_rules f (last_rule a e) = bare.rule (at f (pat_place a)) (bare_pat f a) (bare_exp f e) bare.no_rules
  bare_rules f (rule a e rs) = bare.rule (at f (pat_place a)) (bare_pat f a) (bare_exp f e) (bare_rules f rs)

  -- directives leave nothing
  pub bare_decs : ℕ → Decs → bare.Decs
  bare_decs f no_decs = bare.no_decs
  bare_decs f (dec d ds) = if is_directive d then bare_decs f ds else bare.dec (bare_dec f d) (bare_decs f ds)

  pub bare_dec : ℕ → Dec → bare.Dec
  bare_dec f (val_dec p q as_ bs) = bare.val_dec (at f p) (at f q) as_ (plain_binds f bs) (recursive_binds f bs)
  bare_dec f (fun_dec p q as_ fs) = fun_dec_of (at f p) (at f q) as_ (functions f fs)
  bare_dec f (type_dec p bs) = bare.type_dec (at f p) (map (bare_type_bind f) bs)
  bare_dec f (datatype_dec p bs) = bare.datatype_dec (at f p) (map (bare_data_bind f) bs)
  bare_dec f (withtype_dec p bs cs) = withtype_of (at f p) (map (bare_data_bind f) bs) (map (bare_type_bind f) cs)
  bare_dec f (replicate_dec p x c) = bare.replicate_dec (at f p) x.it (bare_long f c)
  bare_dec f (exception_dec p bs) = bare.exception_dec (at f p) (map (bare_ex_bind f) bs)
  bare_dec f (local_dec p ds es) = bare.local_dec (at f p) (bare_decs f ds) (bare_decs f es)
  bare_dec f (open_dec p xs) = bare.open_dec (at f p) (map (bare_long f) xs)
  bare_dec f (fixity_dec p s xs) = bare.sequence_dec (at f p) bare.no_decs

  -- the bindings before `rec`, and all after it
  pub plain_binds : ℕ → Binds → bare.Binds
  plain_binds f (last_bind a e) = bare.bind (at f (pat_place a)) (bare_pat f a) (bare_exp f e) bare.no_binds
  plain_binds f (bind a e bs) = bare.bind (at f (pat_place a)) (bare_pat f a) (bare_exp f e) (plain_binds f bs)
  plain_binds f (rec_binds bs) = bare.no_binds

  pub recursive_binds : ℕ → Binds → bare.Binds
  recursive_binds f (last_bind a e) = bare.no_binds
  recursive_binds f (bind a e bs) = recursive_binds f bs
  recursive_binds f (rec_binds bs) = all_binds f bs

  pub all_binds : ℕ → Binds → bare.Binds
  all_binds f (last_bind a e) = bare.bind (at f (pat_place a)) (bare_pat f a) (bare_exp f e) bare.no_binds
  all_binds f (bind a e bs) = bare.bind (at f (pat_place a)) (bare_pat f a) (bare_exp f e) (all_binds f bs)
  all_binds f (rec_binds bs) = all_binds f bs

  pub functions : ℕ → Funs → List Function
  functions f (last_fun cs) =
      record { place = at f (clauses_place cs); vid_place = at f (clauses_vid_place cs); vid = clauses_vid cs; clauses = clause_list f cs } ∷ []
  functions f (fun_and cs fs) =
      record { place = at f (clauses_place cs); vid_place = at f (clauses_vid_place cs); vid = clauses_vid cs; clauses = clause_list f cs }
      ∷ functions f fs

  pub clause_list : ℕ → Clauses → List Clause
  clause_list f (last_clause h t e) =
      record { place = at f (head_place h); pats = head_pats f h; body = with_result (at f (exp_place e)) (bare_exp f e) (bare_some f t) } ∷ []
  clause_list f (clause h t e cs) =
      record { place = at f (head_place h); pats = head_pats f h; body = with_result (at f (exp_place e)) (bare_exp f e) (bare_some f t) }
      ∷ clause_list f cs
