-- The bare tree of the core (the Definition, sections 2.8 and 2.9, figures of the bare language): what every later definition speaks of.
-- Each phrase carries the place of its first byte; an identifier after `op` that of its own first byte. The constructors that derived forms name are apart
-- from identifiers.
use Rattle.std.specs.Prelude.{ℕ, Bool, List, Option}
use Rattle.mlc_names.specs.declared.label.Label.{Label}
use Rattle.mlc_base.specs.declared.place.Place.{Place}
use Rattle.sml_tree.specs.Terminal.{Constant, LongVid, LongId}
use Rattle.sml_tree.specs.declared.ident.Tyvar.{Tyvar}
use Rattle.sml_tree.specs.declared.ident.Vid.{Vid}
use Rattle.sml_tree.specs.declared.ident.BuiltIn.{BuiltIn}

mutual
  pub data Ty : Type 0 where
    var : Place → Tyvar → Ty
    fields : Place → TyFields → Ty
    -- a type constructor, after its arguments, and the place of its identifier
    con : Place → Tys → Place → LongId → Ty
    arrow : Place → Ty → Ty → Ty
    -- what an abbreviation stands for where it has a wrong number of arguments: no type at all
    ill : Place → Ty

  pub data Tys : Type 0 where
    no_tys : Tys
    ty : Ty → Tys → Tys

  pub data TyFields : Type 0 where
    no_ty_fields : TyFields
    ty_field : Label → Ty → TyFields → TyFields

mutual
  pub data Pat : Type 0 where
    wild_pat : Place → Pat
    constant_pat : Place → Constant → Pat
    vid_pat : Place → LongVid → Pat
    built_pat : Place → BuiltIn → Pat
    -- whether `...` ends it
    fields_pat : Place → PatFields → Bool → Pat
    -- a constructor, with the place of its identifier, before its argument
    con_pat : Place → Place → LongVid → Pat → Pat
    built_con_pat : Place → BuiltIn → Pat → Pat
    typed_pat : Place → Pat → Ty → Pat
    -- the place is the identifier's
    as_pat : Place → Vid → Option Ty → Pat → Pat

  pub data PatFields : Type 0 where
    no_pat_fields : PatFields
    pat_field : Label → Pat → PatFields → PatFields

-- The place of a binding of a type is that of its sequence of type variables too, where this isn't empty.
pub record TypeBind : Type 0 where
  pub place : Place
  pub tyvars : List Tyvar
  pub tycon : ℕ
  pub ty : Ty

-- the place of a constructor, and of an exception, is that of its identifier
pub record ConBind : Type 0 where
  pub place : Place
  pub vid : Vid
  pub of_ty : Option Ty

pub record DataBind : Type 0 where
  pub place : Place
  pub tyvars : List Tyvar
  pub tycon : ℕ
  pub cons : List ConBind

pub data ExBind : Type 0 where
  new_exn : Place → Vid → Option Ty → ExBind
  same_exn : Place → Vid → Place → LongVid → ExBind

-- a long identifier and its place
pub record LongIdAt : Type 0 where
  pub place : Place
  pub long : LongId

mutual
  pub data Exp : Type 0 where
    constant_exp : Place → Constant → Exp
    vid_exp : Place → LongVid → Exp
    built_exp : Place → BuiltIn → Exp
    fields_exp : Place → ExpFields → Exp
    let_in : Place → Decs → Exp → Exp
    app : Place → Exp → Exp → Exp
    typed : Place → Exp → Ty → Exp
    handle : Place → Exp → Rules → Exp
    raise : Place → Exp → Exp
    fn : Place → Rules → Exp

  pub data ExpFields : Type 0 where
    no_exp_fields : ExpFields
    exp_field : Label → Exp → ExpFields → ExpFields

  pub data Rules : Type 0 where
    no_rules : Rules
    rule : Place → Pat → Exp → Rules → Rules

  pub data Decs : Type 0 where
    no_decs : Decs
    dec : Dec → Decs → Decs

  pub data Dec : Type 0 where
    -- the place of the type variables, which is that of the declaration where there are none; bindings before `rec`, and those after it
    val_dec : Place → Place → List Tyvar → Binds → Binds → Dec
    type_dec : Place → List TypeBind → Dec
    datatype_dec : Place → List DataBind → Dec
    -- datatype tycon = datatype longtycon
    replicate_dec : Place → ℕ → LongIdAt → Dec
    exception_dec : Place → List ExBind → Dec
    local_dec : Place → Decs → Decs → Dec
    open_dec : Place → List LongIdAt → Dec
    sequence_dec : Place → Decs → Dec

  pub data Binds : Type 0 where
    no_binds : Binds
    bind : Place → Pat → Exp → Binds → Binds
