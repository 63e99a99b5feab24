-- The bare tree that a tree of the code stands for.
use Rattle.std.specs.Prelude.{List, [], ◌∷◌, map}
use Rattle.sml_tree.specs.BareTree as core
use Rattle.sml_tree.specs.TreeOf.{ty_of, some_ty_of, type_bind_of, long_id_of, long_id_at_of}
use Rattle.module_tree.specs.BareModules as bare
use Rattle.module_tree.specs.ReadModules as read
use Rattle.module_code.specs.declared.signatures.IdAt.{IdAt}
use Rattle.module_code.specs.declared.signatures.ValDesc.{ValDesc}
use Rattle.module_code.specs.declared.signatures.TypeDesc.{TypeDesc}
use Rattle.module_code.specs.declared.signatures.ConDesc.{ConDesc}
use Rattle.module_code.specs.declared.signatures.DataDesc.{DataDesc}
use Rattle.module_code.specs.declared.signatures.WhereType.{WhereType}
use Rattle.module_code.specs.declared.signatures.SigExp.{SigExp, SigExp-F, fold-SigExp}
use Rattle.module_code.specs.declared.signatures.Spec.{Spec, Spec-F, fold-Spec}
use Rattle.module_code.specs.declared.signatures.StrDesc.{StrDesc, StrDesc-F, fold-StrDesc}
use Rattle.module_code.specs.declared.structures.Seal.{Seal}
use Rattle.module_code.specs.declared.structures.Seal.TheVariants as seal
use Rattle.module_code.specs.declared.structures.StrExp.{StrExp, StrExp-F, fold-StrExp}
use Rattle.module_code.specs.declared.structures.StrDec.{StrDec, StrDec-F, fold-StrDec}
use Rattle.module_code.specs.declared.structures.StrBind.{StrBind, StrBind-F, fold-StrBind}
use Rattle.module_code.specs.declared.sources.SigBind.{SigBind}
use Rattle.module_code.specs.declared.sources.Parameter.{Parameter}
use Rattle.module_code.specs.declared.sources.Parameter.TheVariants as parameter
use Rattle.module_code.specs.declared.sources.FunBind.{FunBind}
use Rattle.module_code.specs.declared.sources.Top.{Top}
use Rattle.module_code.specs.declared.sources.Top.TheVariants as top

abbrev pub id_at_of : IdAt → bare.IdAt
id_at_of x = record { place = x.place; id = x.id }

abbrev pub val_desc_of : ValDesc → bare.ValDesc
val_desc_of v = record { place = v.place; vid = v.vid; ty = ty_of v.ty }

abbrev pub type_desc_of : TypeDesc → bare.TypeDesc
type_desc_of d = record { place = d.place; tyvars = d.tyvars.items; tycon = d.tycon }

abbrev pub con_desc_of : ConDesc → bare.ConDesc
con_desc_of c = record { place = c.place; vid = c.vid; of_ty = some_ty_of c.of_ty }

abbrev pub data_desc_of : DataDesc → bare.DataDesc
data_desc_of d = record { place = d.place; tyvars = d.tyvars.items; tycon = d.tycon; cons = map con_desc_of d.cons.items }

-- a specification on top of others
abbrev pub specs_onto : List bare.Spec → bare.Specs → bare.Specs
specs_onto [] ss = ss
specs_onto (x ∷ xs) ss = bare.spec x (specs_onto xs ss)

-- those that each of some stands for
abbrev pub specs_of : List (List bare.Spec) → bare.Specs
specs_of [] = bare.no_specs
specs_of (xs ∷ xss) = specs_onto xs (specs_of xss)

-- type tyvarseq tycon = ty
abbrev pub abbreviation_of : core.TypeBind → bare.Spec
abbreviation_of b = bare.include_spec b.place (bare.where_type
    (bare.sig_end b.place (bare.spec (bare.type_spec b.place (record { place = b.place; tyvars = b.tyvars; tycon = b.tycon } ∷ [])) bare.no_specs))
    b.place b.place b.tyvars (record { place = b.place; long = record { qualifiers = []; id = b.tycon } }) b.ty)

-- a signature with `where type` put on it
abbrev pub where_onto : bare.SigExp → List WhereType → bare.SigExp
where_onto g [] = g
where_onto g (w ∷ ws) =
    where_onto (bare.where_type g w.place w.tyvars_place w.tyvars.items (record { place = w.tycon_place; long = long_id_of w.tycon }) (ty_of w.ty)) ws

-- an identifier, and what is specified of it, or bound to it
pub record DescOf : Type 0 where
  pub id : bare.IdAt
  pub sig : bare.SigExp

pub record BindOf : Type 0 where
  pub id : bare.IdAt
  pub body : bare.StrExp

abbrev pub descs_of : List DescOf → bare.StrDescs
descs_of [] = bare.no_descs
descs_of (d ∷ ds) = bare.desc d.id d.sig (descs_of ds)

abbrev pub node_sig : SigExp-F bare.SigExp (List bare.Spec) DescOf → bare.SigExp
node_sig (SigExp-F.Sig p ss) = bare.sig_end p (specs_of ss.items)
node_sig (SigExp-F.Id x) = bare.sig_id (id_at_of x)
node_sig (SigExp-F.Where g ws) = where_onto g.value ws.items

abbrev pub node_spec : Spec-F bare.SigExp (List bare.Spec) DescOf → List bare.Spec
node_spec (Spec-F.Val p vs) = bare.val_spec p (map val_desc_of vs.items) ∷ []
node_spec (Spec-F.Type p ds) = bare.type_spec p (map type_desc_of ds.items) ∷ []
node_spec (Spec-F.Abbreviation bs) = map (λ b. abbreviation_of (type_bind_of b)) bs.items
node_spec (Spec-F.EqType p ds) = bare.eqtype_spec p (map type_desc_of ds.items) ∷ []
node_spec (Spec-F.Datatype p ds) = bare.datatype_spec p (map data_desc_of ds.items) ∷ []
node_spec (Spec-F.Replicate p x c) = bare.replication_spec p (id_at_of x) (long_id_at_of c) ∷ []
node_spec (Spec-F.Exception p cs) = bare.exception_spec p (map con_desc_of cs.items) ∷ []
node_spec (Spec-F.Structure p ds) = bare.structure_spec p (descs_of ds.items) ∷ []
node_spec (Spec-F.Include p g) = bare.include_spec p g.value ∷ []
node_spec (Spec-F.IncludeIds p xs) = map (λ x. bare.include_spec p (bare.sig_id (id_at_of x))) xs.items
node_spec (Spec-F.Sharing p cs) = bare.sharing_spec p (map long_id_at_of cs.items) ∷ []

abbrev pub node_desc : StrDesc-F bare.SigExp (List bare.Spec) DescOf → DescOf
node_desc d = record { id = id_at_of d.strid; sig = d.sig }

abbrev pub sig_of : SigExp → bare.SigExp
sig_of = fold-SigExp bare.SigExp (List bare.Spec) DescOf node_sig node_spec node_desc

-- the specifications that one stands for
abbrev pub spec_of : Spec → List bare.Spec
spec_of = fold-Spec bare.SigExp (List bare.Spec) DescOf node_sig node_spec node_desc

abbrev pub desc_of : StrDesc → DescOf
desc_of = fold-StrDesc bare.SigExp (List bare.Spec) DescOf node_sig node_spec node_desc

-- Structures, where the declarations of the core stand for those that `dec_of` says.

abbrev pub seal_of : Seal → read.Seal
seal_of seal.Transparent = read.transparent
seal_of seal.Opaque = read.opaque

abbrev pub decs_of : List bare.StrDec → bare.StrDecs
decs_of [] = bare.no_str_decs
decs_of (d ∷ ds) = bare.str_dec d (decs_of ds)

abbrev pub binds_of : List BindOf → bare.StrBinds
binds_of [] = bare.no_binds
binds_of (b ∷ bs) = bare.str_bind b.id b.body (binds_of bs)

abbrev pub parameter_of : Parameter → bare.Parameter
parameter_of (parameter.Named x g) = bare.named (id_at_of x) (sig_of g)
parameter_of (parameter.Opened g) = bare.opened (sig_of g)

abbrev pub sig_bind_of : SigBind → bare.SigBind
sig_bind_of b = record { sigid = id_at_of b.sigid; sigexp = sig_of b.sig }

module _ {D : Type 0} (dec_of : D → core.Dec) where
  abbrev pub node_str_dec : StrDec-F D bare.StrDec bare.StrExp BindOf → bare.StrDec
  node_str_dec (StrDec-F.Core d) = bare.core_dec (dec_of d)
  node_str_dec (StrDec-F.Structure p bs) = bare.structure_dec p (binds_of bs.items)
  node_str_dec (StrDec-F.Local p ds es) = bare.local_str p (decs_of ds.items) (decs_of es.items)

  abbrev pub node_str : StrExp-F D bare.StrDec bare.StrExp BindOf → bare.StrExp
  node_str (StrExp-F.Struct p ds) = bare.struct_end p (decs_of ds.items)
  node_str (StrExp-F.Id x) = bare.str_id (long_id_at_of x)
  node_str (StrExp-F.Constrained p s k g) = bare.constrained p s.value (seal_of k) (sig_of g)
  node_str (StrExp-F.Apply x s) = bare.applied (id_at_of x) s.value
  node_str (StrExp-F.Let p ds s) = bare.let_str p (decs_of ds.items) s.value

  abbrev pub node_bind : StrBind-F D bare.StrDec bare.StrExp BindOf → BindOf
  node_bind b = record { id = id_at_of b.strid; body = b.body }

  abbrev pub str_dec_of : StrDec D → bare.StrDec
  str_dec_of = fold-StrDec D bare.StrDec bare.StrExp BindOf node_str_dec node_str node_bind

  abbrev pub str_of : StrExp D → bare.StrExp
  str_of = fold-StrExp D bare.StrDec bare.StrExp BindOf node_str_dec node_str node_bind

  abbrev pub bind_of : StrBind D → BindOf
  bind_of = fold-StrBind D bare.StrDec bare.StrExp BindOf node_str_dec node_str node_bind

  abbrev pub fun_bind_of : FunBind D → bare.FunBind
  fun_bind_of b = record { funid = id_at_of b.funid; parameter = parameter_of b.parameter; body = str_of b.body }

  abbrev pub top_of : Top D → bare.Top
  top_of (top.Dec d) = bare.str_top (str_dec_of d)
  top_of (top.Signature p bs) = bare.signature_top p (map sig_bind_of bs.items)
  top_of (top.Functor p bs) = bare.functor_top p (map fun_bind_of bs.items)
