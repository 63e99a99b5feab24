-- The grammar of programs with modules (the Definition, sections 3.4 and 8, and Appendix A). `ReadsStr f i t o`: under the fixities f the terminals i
-- begin with the tree t, and o are the terminals after it. Each constructor is one production, which its comment names.
use Rattle.std.specs.Prelude.{ℕ, ◌≡◌, Bool, true, false, List, [], ◌∷◌, Option, ◌&&◌}
use Rattle.mlc_names.specs.declared.token.Reserved.TheVariants as res
use Rattle.sml_tree.specs.Terminal.{LongId, Terminal, reserved, alpha, IsVid, IsTycon, IsLongTycon, IsLongStrid}
use Rattle.sml_tree.specs.declared.ident.Tyvar.{Tyvar}
use Rattle.sml_tree.specs.Fixity.{Fixity}
use Rattle.sml_tree.specs.ReadTree.{Placed, Ty, TypeBind, Exp, Dec}
use Rattle.sml_tree.specs.Grammar.{ReadsTy, BeginsAt, TyvarsPlace, Tyvars, TypeBinds, MaybeOf, Reads, Declare}
use Rattle.module_tree.specs.ReadModules.{TypeDesc, ConDesc, DataDesc, ValDesc, WhereType, Seal, transparent, opaque, SigExp, sig_end, sig_id, where_type, Specs, no_specs, spec, Spec, val_spec, type_spec, abbreviation_spec, eqtype_spec, datatype_spec, replication_spec, exception_spec, structure_spec, include_spec, include_ids, sharing_spec, StrDescs, last_desc, desc_and, MaybeSig, no_sig, sealed, StrExp, struct_end, str_id, constrained, applied, applied_to_decs, let_str, StrDecs, no_str_decs, str_dec, StrDec, core_dec, structure_dec, local_str, StrBinds, last_str, str_and, StrBind, str_bind, Parameter, structure_parameter, spec_parameter, FunBind, SigBind, Top, str_top, signature_top, functor_top, exp_top}
use Rattle.module_tree.specs.Scope.{are_core_decs, after_decs, after_str_dec, after_top}

-- strid, sigid and funid are alphanumeric (section 2.4)
pub data IsModuleId : Terminal → Placed ℕ → Type 0 where
  module_id : (p x : ℕ) → IsModuleId (alpha p x) (record { place = p; it = x })

-- valdesc ::= vid : ty [and valdesc]; `op` isn't written
pub data ValDescs : List Terminal → List ValDesc → List Terminal → Type 0 where
  last_val : {t : Terminal} {i o : List Terminal} {p x : ℕ} {a : Ty} (q : ℕ) → IsVid t p x → ReadsTy i a o
      → ValDescs (t ∷ reserved q res.Colon ∷ i) (record { place = p; vid = x; ty = a } ∷ []) o
  more_vals : {t : Terminal} {i m o : List Terminal} {p x : ℕ} {a : Ty} {vs : List ValDesc} (q r : ℕ) → IsVid t p x → ReadsTy i a (reserved r res.And ∷ m)
      → ValDescs m vs o → ValDescs (t ∷ reserved q res.Colon ∷ i) (record { place = p; vid = x; ty = a } ∷ vs) o

-- typdesc ::= tyvarseq tycon [and typdesc]
pub data OneTypeDesc : List Terminal → TypeDesc → List Terminal → Type 0 where
  type_desc : {i o : List Terminal} {t : Terminal} {as_ : List Tyvar} {p q x : ℕ} → BeginsAt i p → Tyvars i as_ (t ∷ o) → IsTycon t q x
      → OneTypeDesc i (record { place = p; tyvars = as_; tycon = x }) o

pub data TypeDescs : List Terminal → List TypeDesc → List Terminal → Type 0 where
  last_type : {i o : List Terminal} {d : TypeDesc} → OneTypeDesc i d o → TypeDescs i (d ∷ []) o
  more_types : {i m o : List Terminal} {d : TypeDesc} {ds : List TypeDesc} (p : ℕ) → OneTypeDesc i d (reserved p res.And ∷ m) → TypeDescs m ds o
      → TypeDescs i (d ∷ ds) o

-- condesc ::= vid [of ty] [| condesc]
pub data ConDescs : List Terminal → List ConDesc → List Terminal → Type 0 where
  last_con : {t : Terminal} {m o : List Terminal} {p x : ℕ} {s : Option Ty} → IsVid t p x → MaybeOf m s o
      → ConDescs (t ∷ m) (record { place = p; vid = x; of_ty = s } ∷ []) o
  more_cons : {t : Terminal} {m n o : List Terminal} {p x : ℕ} {s : Option Ty} {cs : List ConDesc} (q : ℕ) → IsVid t p x
      → MaybeOf m s (reserved q res.Bar ∷ n) → ConDescs n cs o → ConDescs (t ∷ m) (record { place = p; vid = x; of_ty = s } ∷ cs) o

-- datdesc ::= tyvarseq tycon = condesc [and datdesc]
pub data OneDataDesc : List Terminal → DataDesc → List Terminal → Type 0 where
  data_desc : {i m o : List Terminal} {t : Terminal} {as_ : List Tyvar} {p q x : ℕ} {cs : List ConDesc} (r : ℕ) → BeginsAt i p
      → Tyvars i as_ (t ∷ reserved r res.Equals ∷ m) → IsTycon t q x → ConDescs m cs o
      → OneDataDesc i (record { place = p; tyvars = as_; tycon = x; cons = cs }) o

pub data DataDescs : List Terminal → List DataDesc → List Terminal → Type 0 where
  last_data : {i o : List Terminal} {d : DataDesc} → OneDataDesc i d o → DataDescs i (d ∷ []) o
  more_data : {i m o : List Terminal} {d : DataDesc} {ds : List DataDesc} (p : ℕ) → OneDataDesc i d (reserved p res.And ∷ m) → DataDescs m ds o
      → DataDescs i (d ∷ ds) o

-- exdesc ::= vid [of ty] [and exdesc]
pub data ExDescs : List Terminal → List ConDesc → List Terminal → Type 0 where
  last_ex : {t : Terminal} {m o : List Terminal} {p x : ℕ} {s : Option Ty} → IsVid t p x → MaybeOf m s o
      → ExDescs (t ∷ m) (record { place = p; vid = x; of_ty = s } ∷ []) o
  more_exs : {t : Terminal} {m n o : List Terminal} {p x : ℕ} {s : Option Ty} {cs : List ConDesc} (q : ℕ) → IsVid t p x
      → MaybeOf m s (reserved q res.And ∷ n) → ExDescs n cs o → ExDescs (t ∷ m) (record { place = p; vid = x; of_ty = s } ∷ cs) o

-- type tyvarseq longtycon = ty [and type ..], after `where`
pub data OneWhere : List Terminal → WhereType → List Terminal → Type 0 where
  one_where : {i m o : List Terminal} {t : Terminal} {as_ : List Tyvar} {q u : ℕ} {c : LongId} {a : Ty} (p r : ℕ)
      → Tyvars i as_ (t ∷ reserved r res.Equals ∷ m) → TyvarsPlace p i as_ u → IsLongTycon t q c → ReadsTy m a o
      → OneWhere (reserved p res.TypeWord ∷ i) (record { place = p; tyvars_place = u; tyvars = as_; tycon = record { place = q; it = c }; ty = a }) o

pub data WhereTypes : List Terminal → List WhereType → List Terminal → Type 0 where
  last_where : {i o : List Terminal} {w : WhereType} → OneWhere i w o → WhereTypes i (w ∷ []) o
  more_wheres : {i m o : List Terminal} {w : WhereType} {ws : List WhereType} (p : ℕ) → OneWhere i w (reserved p res.And ∷ m) → WhereTypes m ws o
      → WhereTypes i (w ∷ ws) o

-- sigid .. sigid, one or more
pub data SigIds : List Terminal → List (Placed ℕ) → List Terminal → Type 0 where
  last_sig_id : {t : Terminal} {o : List Terminal} {x : Placed ℕ} → IsModuleId t x → SigIds (t ∷ o) (x ∷ []) o
  more_sig_ids : {t : Terminal} {i o : List Terminal} {x : Placed ℕ} {xs : List (Placed ℕ)} → IsModuleId t x → SigIds i xs o → SigIds (t ∷ i) (x ∷ xs) o

-- longtycon = .. = longtycon, one or more
pub data LongTycons : List Terminal → List (Placed LongId) → List Terminal → Type 0 where
  last_tycon : {t : Terminal} {o : List Terminal} {p : ℕ} {c : LongId} → IsLongTycon t p c → LongTycons (t ∷ o) (record { place = p; it = c } ∷ []) o
  more_tycons : {t : Terminal} {i o : List Terminal} {p : ℕ} {c : LongId} {cs : List (Placed LongId)} (q : ℕ) → IsLongTycon t p c → LongTycons i cs o
      → LongTycons (t ∷ reserved q res.Equals ∷ i) (record { place = p; it = c } ∷ cs) o

-- Signatures and specifications.
mutual
  pub data ReadsSig : List Terminal → SigExp → List Terminal → Type 0 where
    -- sigexp ::= sig spec end
    of_sig : {i o : List Terminal} {ss : Specs} (p q : ℕ) → ReadsSpecs i ss (reserved q res.End ∷ o) → ReadsSig (reserved p res.Sig ∷ i) (sig_end p ss) o
    -- sigexp ::= sigid
    of_sig_id : {t : Terminal} {o : List Terminal} {x : Placed ℕ} → IsModuleId t x → ReadsSig (t ∷ o) (sig_id x.place x.it) o
    -- sigexp ::= sigexp where type tyvarseq longtycon = ty [and type ..]
    of_where : {i m o : List Terminal} {g : SigExp} {ws : List WhereType} (p : ℕ) → ReadsSig i g (reserved p res.Where ∷ m) → WhereTypes m ws o
        → ReadsSig i (where_type g ws) o

  -- spec ::= empty | spec [;] spec: a `;` may stand first, last and several times in a row, and leaves nothing in the tree
  pub data ReadsSpecs : List Terminal → Specs → List Terminal → Type 0 where
    no_more_specs : {o : List Terminal} → ReadsSpecs o no_specs o
    spec_semicolon : {i o : List Terminal} {ss : Specs} (p : ℕ) → ReadsSpecs i ss o → ReadsSpecs (reserved p res.Semicolon ∷ i) ss o
    of_spec : {i m o : List Terminal} {s : Spec} {ss : Specs} → ReadsSpec i s m → ReadsSpecs m ss o → ReadsSpecs i (spec s ss) o

  pub data ReadsSpec : List Terminal → Spec → List Terminal → Type 0 where
    -- spec ::= val valdesc
    of_val_spec : {i o : List Terminal} {vs : List ValDesc} (p : ℕ) → ValDescs i vs o → ReadsSpec (reserved p res.Val ∷ i) (val_spec p vs) o
    -- spec ::= type typdesc
    of_type_spec : {i o : List Terminal} {ts : List TypeDesc} (p : ℕ) → TypeDescs i ts o → ReadsSpec (reserved p res.TypeWord ∷ i) (type_spec p ts) o
    -- spec ::= type tyvarseq tycon = ty and ..
    of_abbreviation_spec : {i o : List Terminal} {bs : List TypeBind} (p : ℕ) → TypeBinds i bs o
        → ReadsSpec (reserved p res.TypeWord ∷ i) (abbreviation_spec p bs) o
    -- spec ::= eqtype typdesc
    of_eqtype_spec : {i o : List Terminal} {ts : List TypeDesc} (p : ℕ) → TypeDescs i ts o → ReadsSpec (reserved p res.Eqtype ∷ i) (eqtype_spec p ts) o
    -- spec ::= datatype datdesc
    of_datatype_spec : {i o : List Terminal} {ds : List DataDesc} (p : ℕ) → DataDescs i ds o
        → ReadsSpec (reserved p res.Datatype ∷ i) (datatype_spec p ds) o
    -- spec ::= datatype tycon = datatype longtycon
    of_replication_spec : {t u : Terminal} {o : List Terminal} {x : Placed ℕ} {c : Placed LongId} (p q r : ℕ) → IsTycon t x.place x.it
        → IsLongTycon u c.place c.it
        → ReadsSpec (reserved p res.Datatype ∷ t ∷ reserved q res.Equals ∷ reserved r res.Datatype ∷ u ∷ o) (replication_spec p x c) o
    -- spec ::= exception exdesc
    of_exception_spec : {i o : List Terminal} {cs : List ConDesc} (p : ℕ) → ExDescs i cs o → ReadsSpec (reserved p res.Exception ∷ i) (exception_spec p cs) o
    -- spec ::= structure strdesc
    of_structure_spec : {i o : List Terminal} {ds : StrDescs} (p : ℕ) → ReadsStrDescs i ds o
        → ReadsSpec (reserved p res.Structure ∷ i) (structure_spec p ds) o
    -- spec ::= include sigexp; one identifier is read so
    of_include : {i o : List Terminal} {g : SigExp} (p : ℕ) → ReadsSig i g o → ReadsSpec (reserved p res.Include ∷ i) (include_spec p g) o
    -- spec ::= include sigid sigid .. sigid
    of_include_ids : {t : Terminal} {i o : List Terminal} {x : Placed ℕ} {xs : List (Placed ℕ)} (p : ℕ) → IsModuleId t x → SigIds i xs o
        → ReadsSpec (reserved p res.Include ∷ t ∷ i) (include_ids p (x ∷ xs)) o
    -- spec ::= spec sharing type longtycon = longtycon = .. = longtycon, two or more
    of_sharing : {t : Terminal} {i o : List Terminal} {c : Placed LongId} {cs : List (Placed LongId)} (p q r : ℕ) → IsLongTycon t c.place c.it
        → LongTycons i cs o
        → ReadsSpec (reserved p res.Sharing ∷ reserved q res.TypeWord ∷ t ∷ reserved r res.Equals ∷ i) (sharing_spec p (c ∷ cs)) o

  -- strdesc ::= strid : sigexp [and strdesc]
  pub data ReadsStrDescs : List Terminal → StrDescs → List Terminal → Type 0 where
    of_last_desc : {t : Terminal} {i o : List Terminal} {x : Placed ℕ} {g : SigExp} (p : ℕ) → IsModuleId t x → ReadsSig i g o
        → ReadsStrDescs (t ∷ reserved p res.Colon ∷ i) (last_desc x g) o
    of_desc_and : {t : Terminal} {i m o : List Terminal} {x : Placed ℕ} {g : SigExp} {ds : StrDescs} (p q : ℕ) → IsModuleId t x
        → ReadsSig i g (reserved q res.And ∷ m) → ReadsStrDescs m ds o → ReadsStrDescs (t ∷ reserved p res.Colon ∷ i) (desc_and x g ds) o

-- the token before a signature
pub data IsSeal : Terminal → Seal → Type 0 where
  is_colon : (p : ℕ) → IsSeal (reserved p res.Colon) transparent
  is_opaque : (p : ℕ) → IsSeal (reserved p res.ColonGreater) opaque

-- [: sigexp | :> sigexp]
pub data ReadsMaybeSig : List Terminal → MaybeSig → List Terminal → Type 0 where
  without_sig : {o : List Terminal} → ReadsMaybeSig o no_sig o
  with_sig : {t : Terminal} {i o : List Terminal} {k : Seal} {g : SigExp} → IsSeal t k → ReadsSig i g o → ReadsMaybeSig (t ∷ i) (sealed k g) o

-- Structures and their declarations.
mutual
  pub data ReadsStr : Fixity → List Terminal → StrExp → List Terminal → Type 0 where
    -- strexp ::= struct strdec end
    of_struct : {f : Fixity} {i o : List Terminal} {ds : StrDecs} (p q : ℕ) → ReadsStrDecs f i ds (reserved q res.End ∷ o)
        → ReadsStr f (reserved p res.Struct ∷ i) (struct_end p ds) o
    -- strexp ::= longstrid
    of_str_id : {f : Fixity} {t : Terminal} {o : List Terminal} {x : Placed LongId} → IsLongStrid t x.place x.it → ReadsStr f (t ∷ o) (str_id x) o
    -- strexp ::= strexp : sigexp | strexp :> sigexp
    of_constrained : {f : Fixity} {t : Terminal} {i m o : List Terminal} {s : StrExp} {k : Seal} {g : SigExp} → ReadsStr f i s (t ∷ m) → IsSeal t k
        → ReadsSig m g o → ReadsStr f i (constrained s k g) o
    -- strexp ::= funid (strexp)
    of_applied : {f : Fixity} {t : Terminal} {i o : List Terminal} {x : Placed ℕ} {s : StrExp} (p q : ℕ) → IsModuleId t x
        → ReadsStr f i s (reserved q res.RightParen ∷ o) → ReadsStr f (t ∷ reserved p res.LeftParen ∷ i) (applied x s) o
    -- strexp ::= funid (strdec)
    of_applied_to_decs : {f : Fixity} {t : Terminal} {i o : List Terminal} {x : Placed ℕ} {ds : StrDecs} (p q : ℕ) → IsModuleId t x
        → ReadsStrDecs f i ds (reserved q res.RightParen ∷ o) → ReadsStr f (t ∷ reserved p res.LeftParen ∷ i) (applied_to_decs x ds) o
    -- strexp ::= let strdec in strexp end
    of_let_str : {f : Fixity} {i m o : List Terminal} {ds : StrDecs} {s : StrExp} (p q r : ℕ) → ReadsStrDecs f i ds (reserved q res.In ∷ m)
        → ReadsStr (after_decs f ds) m s (reserved r res.End ∷ o) → ReadsStr f (reserved p res.Let ∷ i) (let_str p ds s) o

  -- strdec ::= empty | strdec [;] strdec: as in the core, a `;` leaves nothing in the tree
  pub data ReadsStrDecs : Fixity → List Terminal → StrDecs → List Terminal → Type 0 where
    no_more_decs : {f : Fixity} {o : List Terminal} → ReadsStrDecs f o no_str_decs o
    dec_semicolon : {f : Fixity} {i o : List Terminal} {ds : StrDecs} (p : ℕ) → ReadsStrDecs f i ds o → ReadsStrDecs f (reserved p res.Semicolon ∷ i) ds o
    of_str_dec : {f : Fixity} {i m o : List Terminal} {d : StrDec} {ds : StrDecs} → ReadsStrDec f i d m → ReadsStrDecs (after_str_dec f d) m ds o
        → ReadsStrDecs f i (str_dec d ds) o

  pub data ReadsStrDec : Fixity → List Terminal → StrDec → List Terminal → Type 0 where
    -- strdec ::= dec
    of_core_dec : {f : Fixity} {i o : List Terminal} {d : Dec} → Declare f i d o → ReadsStrDec f i (core_dec d) o
    -- strdec ::= structure strbind
    of_structure : {f : Fixity} {i o : List Terminal} {bs : StrBinds} (p : ℕ) → ReadsStrBinds f i bs o
        → ReadsStrDec f (reserved p res.Structure ∷ i) (structure_dec p bs) o
    -- strdec ::= local strdec in strdec end, where a part holds more than declarations of the core
    of_local_str : {f : Fixity} {i m o : List Terminal} {ds es : StrDecs} (p q r : ℕ) → ReadsStrDecs f i ds (reserved q res.In ∷ m)
        → ReadsStrDecs (after_decs f ds) m es (reserved r res.End ∷ o) → (are_core_decs ds && are_core_decs es) ≡ false
        → ReadsStrDec f (reserved p res.Local ∷ i) (local_str p ds es) o

  -- strbind ::= strid [: sigexp] = strexp [and strbind]
  pub data ReadsStrBinds : Fixity → List Terminal → StrBinds → List Terminal → Type 0 where
    of_last_str : {f : Fixity} {i o : List Terminal} {b : StrBind} → ReadsStrBind f i b o → ReadsStrBinds f i (last_str b) o
    of_str_and : {f : Fixity} {i m o : List Terminal} {b : StrBind} {bs : StrBinds} (p : ℕ) → ReadsStrBind f i b (reserved p res.And ∷ m)
        → ReadsStrBinds f m bs o → ReadsStrBinds f i (str_and b bs) o

  pub data ReadsStrBind : Fixity → List Terminal → StrBind → List Terminal → Type 0 where
    of_str_bind : {f : Fixity} {t : Terminal} {i m o : List Terminal} {x : Placed ℕ} {g : MaybeSig} {s : StrExp} (p : ℕ) → IsModuleId t x
        → ReadsMaybeSig i g (reserved p res.Equals ∷ m) → ReadsStr f m s o → ReadsStrBind f (t ∷ i) (str_bind x g s) o

-- Signatures and functors at the top.

-- sigbind ::= sigid = sigexp [and sigbind]
pub data SigBinds : List Terminal → List SigBind → List Terminal → Type 0 where
  last_sig_bind : {t : Terminal} {i o : List Terminal} {x : Placed ℕ} {g : SigExp} (p : ℕ) → IsModuleId t x → ReadsSig i g o
      → SigBinds (t ∷ reserved p res.Equals ∷ i) (record { sigid = x; sigexp = g } ∷ []) o
  more_sig_binds : {t : Terminal} {i m o : List Terminal} {x : Placed ℕ} {g : SigExp} {bs : List SigBind} (p q : ℕ) → IsModuleId t x
      → ReadsSig i g (reserved q res.And ∷ m) → SigBinds m bs o → SigBinds (t ∷ reserved p res.Equals ∷ i) (record { sigid = x; sigexp = g } ∷ bs) o

-- what a functor takes, after the bracket at this place
pub data ReadsParameter (b : ℕ) : List Terminal → Parameter → List Terminal → Type 0 where
  -- strid : sigexp
  of_structure_parameter : {t : Terminal} {i o : List Terminal} {x : Placed ℕ} {g : SigExp} (p : ℕ) → IsModuleId t x → ReadsSig i g o
      → ReadsParameter b (t ∷ reserved p res.Colon ∷ i) (structure_parameter x g) o
  -- spec
  of_spec_parameter : {i o : List Terminal} {ss : Specs} → ReadsSpecs i ss o → ReadsParameter b i (spec_parameter b ss) o

-- funbind ::= funid (strid : sigexp) [: sigexp] = strexp [and funbind], and the same with spec in the brackets
pub data OneFunBind (f : Fixity) : List Terminal → FunBind → List Terminal → Type 0 where
  fun_bind : {t : Terminal} {i m n o : List Terminal} {x : Placed ℕ} {a : Parameter} {g : MaybeSig} {s : StrExp} (p q r : ℕ) → IsModuleId t x
      → ReadsParameter p i a (reserved q res.RightParen ∷ m) → ReadsMaybeSig m g (reserved r res.Equals ∷ n) → ReadsStr f n s o
      → OneFunBind f (t ∷ reserved p res.LeftParen ∷ i) (record { funid = x; parameter = a; result = g; body = s }) o

pub data FunBinds (f : Fixity) : List Terminal → List FunBind → List Terminal → Type 0 where
  last_fun_bind : {i o : List Terminal} {b : FunBind} → OneFunBind f i b o → FunBinds f i (b ∷ []) o
  more_fun_binds : {i m o : List Terminal} {b : FunBind} {bs : List FunBind} (p : ℕ) → OneFunBind f i b (reserved p res.And ∷ m) → FunBinds f m bs o
      → FunBinds f i (b ∷ bs) o

-- A phrase of a source's top. An expression stands at the source's start or after a `;`, which `fresh` says, and ends with one.
pub data ReadsTop : Fixity → Bool → List Terminal → Top → List Terminal → Type 0 where
  -- topdec ::= strdec
  of_str_top : {f : Fixity} {fresh : Bool} {i o : List Terminal} {d : StrDec} → ReadsStrDec f i d o → ReadsTop f fresh i (str_top d) o
  -- topdec ::= signature sigbind
  of_signature : {f : Fixity} {fresh : Bool} {i o : List Terminal} {bs : List SigBind} (p : ℕ) → SigBinds i bs o
      → ReadsTop f fresh (reserved p res.Signature ∷ i) (signature_top p bs) o
  -- topdec ::= functor funbind
  of_functor : {f : Fixity} {fresh : Bool} {i o : List Terminal} {bs : List FunBind} (p : ℕ) → FunBinds f i bs o
      → ReadsTop f fresh (reserved p res.Functor ∷ i) (functor_top p bs) o
  -- exp ;
  of_exp_top : {f : Fixity} {i o : List Terminal} {e : Exp} (p : ℕ) → Reads f i e (reserved p res.Semicolon ∷ o) → ReadsTop f true i (exp_top e) o

-- whether a `;` has just been read after this phrase
abbrev pub ends_in_semicolon : Top → Bool
ends_in_semicolon (str_top d) = false
ends_in_semicolon (signature_top p bs) = false
ends_in_semicolon (functor_top p bs) = false
ends_in_semicolon (exp_top e) = true

-- source: topdecs and expressions, in any order
pub data ReadsTops : Fixity → Bool → List Terminal → List Top → Type 0 where
  no_more_tops : {f : Fixity} {fresh : Bool} → ReadsTops f fresh [] []
  top_semicolon : {f : Fixity} {fresh : Bool} {i : List Terminal} {ts : List Top} (p : ℕ) → ReadsTops f true i ts
      → ReadsTops f fresh (reserved p res.Semicolon ∷ i) ts
  of_top : {f : Fixity} {fresh : Bool} {i m : List Terminal} {t : Top} {ts : List Top} → ReadsTop f fresh i t m
      → ReadsTops (after_top f t) (ends_in_semicolon t) m ts → ReadsTops f fresh i (t ∷ ts)

-- all terminals of a source
abbrev pub IsSource : Fixity → List Terminal → List Top → Type 0
IsSource f i ts = ReadsTops f true i ts
