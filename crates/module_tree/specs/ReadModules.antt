-- The tree that is read of a program with modules: one constructor per production (the Definition, sections 3.4 and 8, and Appendix A), with derived
-- forms kept. A number that comes first is the place of the phrase's first byte; the others have it from their first part.
use Rattle.std.specs.Prelude.{ℕ, List, Option}
use Rattle.sml_tree.specs.Terminal.{LongId}
use Rattle.sml_tree.specs.declared.ident.Tyvar.{Tyvar}
use Rattle.sml_tree.specs.ReadTree.{Placed, Ty, TypeBind, Exp, Dec}

-- a type that is specified: the place is that of its sequence of type variables, where this isn't empty
pub record TypeDesc : Type 0 where
  pub place : ℕ
  pub tyvars : List Tyvar
  pub tycon : ℕ

-- an identifier that is specified, with the type of its argument where it has one
pub record ConDesc : Type 0 where
  pub place : ℕ
  pub vid : ℕ
  pub of_ty : Option Ty

pub record DataDesc : Type 0 where
  pub place : ℕ
  pub tyvars : List Tyvar
  pub tycon : ℕ
  pub cons : List ConDesc

-- a value that is specified
pub record ValDesc : Type 0 where
  pub place : ℕ
  pub vid : ℕ
  pub ty : Ty

-- tyvarseq longtycon = ty, after `where type`: the place of `type`, and that of the type variables, which is the same where there are none
pub record WhereType : Type 0 where
  pub place : ℕ
  pub tyvars_place : ℕ
  pub tyvars : List Tyvar
  pub tycon : Placed LongId
  pub ty : Ty

-- how a signature is put on a structure: `:` or `:>`
pub data Seal : Type 0 where
  transparent : Seal
  opaque : Seal

-- Signatures and specifications.
mutual
  pub data SigExp : Type 0 where
    -- sig spec end
    sig_end : ℕ → Specs → SigExp
    sig_id : ℕ → ℕ → SigExp
    -- sigexp where type .. and type ..
    where_type : SigExp → List WhereType → SigExp

  pub data Specs : Type 0 where
    no_specs : Specs
    spec : Spec → Specs → Specs

  pub data Spec : Type 0 where
    val_spec : ℕ → List ValDesc → Spec
    type_spec : ℕ → List TypeDesc → Spec
    -- type tyvarseq tycon = ty and ..
    abbreviation_spec : ℕ → List TypeBind → Spec
    eqtype_spec : ℕ → List TypeDesc → Spec
    datatype_spec : ℕ → List DataDesc → Spec
    -- datatype tycon = datatype longtycon
    replication_spec : ℕ → Placed ℕ → Placed LongId → Spec
    exception_spec : ℕ → List ConDesc → Spec
    structure_spec : ℕ → StrDescs → Spec
    include_spec : ℕ → SigExp → Spec
    -- include sigid .. sigid, two or more
    include_ids : ℕ → List (Placed ℕ) → Spec
    -- sharing type longtycon = .. = longtycon, of all specifications before it in its list
    sharing_spec : ℕ → List (Placed LongId) → Spec

  pub data StrDescs : Type 0 where
    -- the identifier and its place
    last_desc : Placed ℕ → SigExp → StrDescs
    desc_and : Placed ℕ → SigExp → StrDescs → StrDescs

-- [: sigexp | :> sigexp]
pub data MaybeSig : Type 0 where
  no_sig : MaybeSig
  sealed : Seal → SigExp → MaybeSig

-- Structures and their declarations.
mutual
  pub data StrExp : Type 0 where
    -- struct strdec end
    struct_end : ℕ → StrDecs → StrExp
    str_id : Placed LongId → StrExp
    -- strexp : sigexp and strexp :> sigexp
    constrained : StrExp → Seal → SigExp → StrExp
    -- funid (strexp) and funid (strdec), the functor's identifier with its place
    applied : Placed ℕ → StrExp → StrExp
    applied_to_decs : Placed ℕ → StrDecs → StrExp
    -- let strdec in strexp end
    let_str : ℕ → StrDecs → StrExp → StrExp

  pub data StrDecs : Type 0 where
    no_str_decs : StrDecs
    str_dec : StrDec → StrDecs → StrDecs

  pub data StrDec : Type 0 where
    -- a declaration of the core; a `local` whose parts hold declarations of the core alone is one too
    core_dec : Dec → StrDec
    structure_dec : ℕ → StrBinds → StrDec
    -- any other `local`
    local_str : ℕ → StrDecs → StrDecs → StrDec

  pub data StrBinds : Type 0 where
    last_str : StrBind → StrBinds
    str_and : StrBind → StrBinds → StrBinds

  -- strid [: sigexp] = strexp
  pub data StrBind : Type 0 where
    str_bind : Placed ℕ → MaybeSig → StrExp → StrBind

-- what a functor takes: strid : sigexp, or spec
pub data Parameter : Type 0 where
  structure_parameter : Placed ℕ → SigExp → Parameter
  -- the place of the bracket before it
  spec_parameter : ℕ → Specs → Parameter

-- funid (..) [: sigexp] = strexp
pub record FunBind : Type 0 where
  pub funid : Placed ℕ
  pub parameter : Parameter
  pub result : MaybeSig
  pub body : StrExp

-- sigid = sigexp
pub record SigBind : Type 0 where
  pub sigid : Placed ℕ
  pub sigexp : SigExp

-- What a source holds at its top: declarations of structures, signatures and functors, and expressions.
pub data Top : Type 0 where
  str_top : StrDec → Top
  signature_top : ℕ → List SigBind → Top
  functor_top : ℕ → List FunBind → Top
  -- exp ;
  exp_top : Exp → Top

-- The places of first bytes.

abbrev pub sig_place : SigExp → ℕ
sig_place (sig_end p ss) = p
sig_place (sig_id p x) = p
sig_place (where_type g ws) = sig_place g

abbrev pub str_place : StrExp → ℕ
str_place (struct_end p ds) = p
str_place (str_id x) = x.place
str_place (constrained s k g) = str_place s
str_place (applied x s) = x.place
str_place (applied_to_decs x ds) = x.place
str_place (let_str p ds s) = p
