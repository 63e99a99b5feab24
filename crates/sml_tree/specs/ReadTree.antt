-- The tree that is read: one constructor per production of the core (the Definition, sections 2.8 and 2.9 and Appendix B), with brackets and
-- derived forms (Appendix A) kept. A number that comes first is the place of the phrase's first byte; the others have it from their first part.
-- An identifier that may stand after `op` has a place of its own, that of its own first byte.
use Rattle.std.specs.Prelude.{ℕ, suc, Bool, List, Option}
use Rattle.mlc_names.specs.declared.label.Label.{Label}
use Rattle.sml_tree.specs.Terminal.{Constant, LongVid, LongId}
use Rattle.sml_tree.specs.declared.ident.Tyvar.{Tyvar}
use Rattle.sml_tree.specs.declared.ident.Vid.{Vid}
use Rattle.sml_tree.specs.declared.ident.Vid.TheVariants.{Named}
use Rattle.sml_tree.specs.declared.fixity.Infix.{Infix}

pub record Placed (A : Type 0) : Type 0 where
  pub place : ℕ
  pub it : A

-- Types.
mutual
  pub data Ty : Type 0 where
    var_ty : ℕ → Tyvar → Ty
    record_ty : ℕ → TyFields → Ty
    -- a type constructor after its arguments
    con_ty : ℕ → Tys → Placed LongId → Ty
    -- t1 * .. * tn
    product_ty : Ty → Tys → Ty
    -- t1 -> .. -> tn
    arrow_ty : Ty → Tys → Ty
    paren_ty : ℕ → Ty → Ty

  pub data Tys : Type 0 where
    no_tys : Tys
    ty : Ty → Tys → Tys

  pub data TyFields : Type 0 where
    no_ty_fields : TyFields
    ty_field : Label → Ty → TyFields → TyFields

-- Patterns.
mutual
  pub data Pat : Type 0 where
    wild_pat : ℕ → Pat
    constant_pat : ℕ → Constant → Pat
    vid_pat : ℕ → Placed LongVid → Pat
    -- whether `...` ends it
    record_pat : ℕ → PatFields → Bool → Pat
    unit_pat : ℕ → Pat
    tuple_pat : ℕ → Pats → Pat
    list_pat : ℕ → Pats → Pat
    paren_pat : ℕ → Pat → Pat
    con_pat : ℕ → Placed LongVid → Pat → Pat
    -- operands joined by infix identifiers of one precedence, and whether these associate to the right
    chain_pat : Bool → Pat → PatParts → Pat
    typed_pat : Pat → Ty → Pat
    as_pat : ℕ → Placed Vid → Option Ty → Pat → Pat

  pub data Pats : Type 0 where
    no_pats : Pats
    pat : Pat → Pats → Pats

  pub data PatFields : Type 0 where
    no_pat_fields : PatFields
    pat_field : PatField → PatFields → PatFields

  pub data PatField : Type 0 where
    -- lab = pat
    labelled : Label → Pat → PatField
    -- vid [: ty] and vid [: ty] as pat, where the identifier is the label too
    punned : ℕ → ℕ → Option Ty → PatField
    punned_as : ℕ → ℕ → Option Ty → Pat → PatField

  pub data PatParts : Type 0 where
    last_pat_part : Placed ℕ → Pat → PatParts
    pat_part : Placed ℕ → Pat → PatParts → PatParts

-- what joins two expressions
pub data Joint : Type 0 where
  and_also : Joint
  or_else : Joint
  infixed : Placed Vid → Joint

-- The head of a clause: [op] vid atpat .. atpat, atpat vid atpat, or (atpat vid atpat) atpat .. atpat.
pub data Head : Type 0 where
  prefix_head : ℕ → Placed Vid → Pat → Pats → Head
  infix_head : Pat → Placed ℕ → Pat → Head
  bracket_head : ℕ → Pat → Placed ℕ → Pat → Pats → Head

-- The place of a binding of a type is that of its sequence of type variables too, where this isn't empty.
pub record TypeBind : Type 0 where
  pub place : ℕ
  pub tyvars : List Tyvar
  pub tycon : ℕ
  pub ty : Ty

-- the place of a constructor, and of an exception, is that of its identifier
pub record ConBind : Type 0 where
  pub place : ℕ
  pub vid : Vid
  pub of_ty : Option Ty

pub record DataBind : Type 0 where
  pub place : ℕ
  pub tyvars : List Tyvar
  pub tycon : ℕ
  pub cons : List ConBind

pub data ExBind : Type 0 where
  new_exn : ℕ → Vid → Option Ty → ExBind
  same_exn : ℕ → Vid → Placed LongVid → ExBind

-- Expressions and declarations.
mutual
  pub data Exp : Type 0 where
    constant_exp : ℕ → Constant → Exp
    vid_exp : ℕ → Placed LongVid → Exp
    record_exp : ℕ → ExpFields → Exp
    selector : ℕ → Label → Exp
    unit_exp : ℕ → Exp
    tuple_exp : ℕ → Exps → Exp
    list_exp : ℕ → Exps → Exp
    -- (e1; ..; en)
    sequence : ℕ → Exps → Exp
    paren_exp : ℕ → Exp → Exp
    let_in : ℕ → Decs → Exps → Exp
    app : Exp → Exp → Exps → Exp
    -- operands joined by joints of one level, and whether these associate to the right
    chain : Bool → Exp → Parts → Exp
    typed : Exp → Ty → Exp
    handle : Exp → Rules → Exp
    raise : ℕ → Exp → Exp
    if_then : ℕ → Exp → Exp → Exp → Exp
    while : ℕ → Exp → Exp → Exp
    case : ℕ → Exp → Rules → Exp
    fn : ℕ → Rules → Exp

  pub data Exps : Type 0 where
    no_exps : Exps
    exp : Exp → Exps → Exps

  pub data ExpFields : Type 0 where
    no_exp_fields : ExpFields
    exp_field : Label → Exp → ExpFields → ExpFields

  pub data Parts : Type 0 where
    last_part : Joint → Exp → Parts
    part : Joint → Exp → Parts → Parts

  pub data Rules : Type 0 where
    last_rule : Pat → Exp → Rules
    rule : Pat → Exp → Rules → Rules

  pub data Decs : Type 0 where
    no_decs : Decs
    dec : Dec → Decs → Decs

  pub data Dec : Type 0 where
    -- a sequence of type variables has a place, that of its first byte; an empty one has that of the declaration
    val_dec : ℕ → ℕ → List Tyvar → Binds → Dec
    fun_dec : ℕ → ℕ → List Tyvar → Funs → Dec
    type_dec : ℕ → List TypeBind → Dec
    datatype_dec : ℕ → List DataBind → Dec
    withtype_dec : ℕ → List DataBind → List TypeBind → Dec
    -- datatype tycon = datatype longtycon
    replicate_dec : ℕ → Placed ℕ → Placed LongId → Dec
    exception_dec : ℕ → List ExBind → Dec
    local_dec : ℕ → Decs → Decs → Dec
    open_dec : ℕ → List (Placed LongId) → Dec
    -- infix, infixr, and nonfix where there is no status
    fixity_dec : ℕ → Option Infix → List ℕ → Dec

  pub data Binds : Type 0 where
    last_bind : Pat → Exp → Binds
    bind : Pat → Exp → Binds → Binds
    rec_binds : Binds → Binds

  pub data Funs : Type 0 where
    last_fun : Clauses → Funs
    fun_and : Clauses → Funs → Funs

  pub data Clauses : Type 0 where
    last_clause : Head → Option Ty → Exp → Clauses
    clause : Head → Option Ty → Exp → Clauses → Clauses

-- The places of first bytes.

abbrev pub ty_place : Ty → ℕ
ty_place (var_ty p a) = p
ty_place (record_ty p fs) = p
ty_place (con_ty p ts c) = p
ty_place (product_ty t ts) = ty_place t
ty_place (arrow_ty t ts) = ty_place t
ty_place (paren_ty p t) = p

abbrev pub pat_place : Pat → ℕ
pat_place (wild_pat p) = p
pat_place (constant_pat p c) = p
pat_place (vid_pat p x) = p
pat_place (record_pat p fs b) = p
pat_place (unit_pat p) = p
pat_place (tuple_pat p ps) = p
pat_place (list_pat p ps) = p
pat_place (paren_pat p a) = p
pat_place (con_pat p x a) = p
pat_place (chain_pat r a ps) = pat_place a
pat_place (typed_pat a t) = pat_place a
pat_place (as_pat p v t a) = p

abbrev pub exp_place : Exp → ℕ
exp_place (constant_exp p c) = p
exp_place (vid_exp p x) = p
exp_place (record_exp p fs) = p
exp_place (selector p l) = p
exp_place (unit_exp p) = p
exp_place (tuple_exp p es) = p
exp_place (list_exp p es) = p
exp_place (sequence p es) = p
exp_place (paren_exp p e) = p
exp_place (let_in p ds es) = p
exp_place (app e a es) = exp_place e
exp_place (chain r e ps) = exp_place e
exp_place (typed e t) = exp_place e
exp_place (handle e rs) = exp_place e
exp_place (raise p e) = p
exp_place (if_then p a b c) = p
exp_place (while p a b) = p
exp_place (case p e rs) = p
exp_place (fn p rs) = p

abbrev pub head_place : Head → ℕ
head_place (prefix_head p v a as_) = p
head_place (infix_head a x b) = pat_place a
head_place (bracket_head p a x b as_) = p

-- The name of a clause, its place, and the number of the clause's patterns.

abbrev pub head_vid : Head → Vid
head_vid (prefix_head p v a as_) = v.it
head_vid (infix_head a x b) = Named x.it
head_vid (bracket_head p a x b as_) = Named x.it

abbrev pub head_vid_place : Head → ℕ
head_vid_place (prefix_head p v a as_) = v.place
head_vid_place (infix_head a x b) = x.place
head_vid_place (bracket_head p a x b as_) = x.place

abbrev pub count_pats : Pats → ℕ
count_pats no_pats = 0
count_pats (pat a as_) = suc (count_pats as_)

abbrev pub head_count : Head → ℕ
head_count (prefix_head p v a as_) = suc (count_pats as_)
head_count (infix_head a x b) = 1
head_count (bracket_head p a x b as_) = suc (count_pats as_)
