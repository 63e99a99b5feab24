-- The bare tree of a program with modules (the Definition, section 3.4, figures of the bare language): what the rules of modules speak of.
-- Lists are written out: in a list of specifications `sharing type` is of all that stand before it there, as `spec sharing type ..` has it.
use Rattle.std.specs.Prelude.{ℕ, List, Option}
use Rattle.mlc_base.specs.declared.place.Place.{Place}
use Rattle.sml_tree.specs.declared.ident.Tyvar.{Tyvar}
use Rattle.sml_tree.specs.BareTree.{Ty, LongIdAt, Dec}
use Rattle.module_tree.specs.ReadModules.{Seal}

-- an identifier of a structure, signature, functor or type, and its place
pub record IdAt : Type 0 where
  pub place : Place
  pub id : ℕ

pub record TypeDesc : Type 0 where
  pub place : Place
  pub tyvars : List Tyvar
  pub tycon : ℕ

pub record ConDesc : Type 0 where
  pub place : Place
  pub vid : ℕ
  pub of_ty : Option Ty

pub record DataDesc : Type 0 where
  pub place : Place
  pub tyvars : List Tyvar
  pub tycon : ℕ
  pub cons : List ConDesc

pub record ValDesc : Type 0 where
  pub place : Place
  pub vid : ℕ
  pub ty : Ty

mutual
  pub data SigExp : Type 0 where
    sig_end : Place → Specs → SigExp
    sig_id : IdAt → SigExp
    -- sigexp where type tyvarseq longtycon = ty: the place of `type`, and that of the type variables, which is the same where there are none
    where_type : SigExp → Place → Place → List Tyvar → LongIdAt → Ty → SigExp

  pub data Specs : Type 0 where
    no_specs : Specs
    spec : Spec → Specs → Specs

  pub data Spec : Type 0 where
    val_spec : Place → List ValDesc → Spec
    type_spec : Place → List TypeDesc → Spec
    eqtype_spec : Place → List TypeDesc → Spec
    datatype_spec : Place → List DataDesc → Spec
    replication_spec : Place → IdAt → LongIdAt → Spec
    exception_spec : Place → List ConDesc → Spec
    structure_spec : Place → StrDescs → Spec
    include_spec : Place → SigExp → Spec
    sharing_spec : Place → List LongIdAt → Spec

  pub data StrDescs : Type 0 where
    no_descs : StrDescs
    desc : IdAt → SigExp → StrDescs → StrDescs

mutual
  pub data StrExp : Type 0 where
    struct_end : Place → StrDecs → StrExp
    str_id : LongIdAt → StrExp
    -- strexp : sigexp and strexp :> sigexp
    constrained : Place → StrExp → Seal → SigExp → StrExp
    applied : IdAt → StrExp → StrExp
    let_str : Place → StrDecs → StrExp → StrExp

  pub data StrDecs : Type 0 where
    no_str_decs : StrDecs
    str_dec : StrDec → StrDecs → StrDecs

  pub data StrDec : Type 0 where
    core_dec : Dec → StrDec
    structure_dec : Place → StrBinds → StrDec
    local_str : Place → StrDecs → StrDecs → StrDec

  pub data StrBinds : Type 0 where
    no_binds : StrBinds
    str_bind : IdAt → StrExp → StrBinds → StrBinds

-- What a functor takes. `functor F (spec) = e` is `functor F (v : sig spec end) = let open v in e end` with an identifier v that no source has: such a
-- parameter has no identifier, and what it specifies is opened in the body.
pub data Parameter : Type 0 where
  named : IdAt → SigExp → Parameter
  opened : SigExp → Parameter

pub record FunBind : Type 0 where
  pub funid : IdAt
  pub parameter : Parameter
  pub body : StrExp

pub record SigBind : Type 0 where
  pub sigid : IdAt
  pub sigexp : SigExp

-- the declarations of a source's top
pub data Top : Type 0 where
  str_top : StrDec → Top
  signature_top : Place → List SigBind → Top
  functor_top : Place → List FunBind → Top
