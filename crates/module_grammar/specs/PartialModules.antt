-- Partial structures and sources: `OpensTops f fresh i d` where some front of the terminals i is a source, cut off at its right edge, that is at least d
-- deep. Each phrase of a path along the cut edge is entered by a terminal of its own, or by a complete left part.
use Rattle.std.specs.Prelude.{ℕ, suc, ◌≤◌, ◌≡◌, Bool, true, false, List, ◌∷◌}
use Rattle.mlc_names.specs.declared.token.Reserved.TheVariants as res
use Rattle.sml_tree.specs.Terminal.{LongId, Terminal, reserved, IsLongStrid}
use Rattle.sml_tree.specs.Fixity.{Fixity}
use Rattle.sml_tree.specs.ReadTree.{Placed}
use Rattle.sml_grammar.specs.Partial.{Opens, OpensDec}
use Rattle.module_tree.specs.ReadModules.{Seal, SigExp, MaybeSig, StrExp, StrDecs, StrDec, StrBind, Parameter, FunBind, Top}
use Rattle.module_tree.specs.Scope.{after_decs, after_str_dec, after_top}
use Rattle.module_tree.specs.ModuleDepth.{depth_str}
use Rattle.module_tree.specs.ModuleGrammar.{IsModuleId, ReadsSig, IsSeal, ReadsMaybeSig, ReadsStr, ReadsStrDecs, ReadsStrDec, ReadsStrBind, ReadsParameter, OneFunBind, ReadsTop, ends_in_semicolon}
use Rattle.module_grammar.specs.PartialSignatures.{OpensSig, OpensSpecs}

-- a structure expression: `struct`, `let`, or an identifier of a structure or functor
pub data BeginsStr : List Terminal → Type 0 where
  with_struct : {o : List Terminal} (p : ℕ) → BeginsStr (reserved p res.Struct ∷ o)
  with_let : {o : List Terminal} (p : ℕ) → BeginsStr (reserved p res.Let ∷ o)
  with_str_id : {t : Terminal} {o : List Terminal} {p : ℕ} {c : LongId} → IsLongStrid t p c → BeginsStr (t ∷ o)

abbrev pub begins_local : List Terminal → Bool
begins_local (reserved p res.Local ∷ i) = true
begins_local _ = false

mutual
  pub data OpensStr : Fixity → List Terminal → ℕ → Type 0 where
    -- what begins it
    begun_str : {f : Fixity} {i : List Terminal} → BeginsStr i → OpensStr f i 1
    -- struct strdec end
    in_struct : {f : Fixity} {i : List Terminal} {d : ℕ} (p : ℕ) → OpensStrDecs f i d → OpensStr f (reserved p res.Struct ∷ i) (suc d)
    -- strexp : sigexp and strexp :> sigexp, cut off after the sign, or in the signature
    signed : {f : Fixity} {t : Terminal} {i m : List Terminal} {s : StrExp} {k : Seal} {d : ℕ} → ReadsStr f i s (t ∷ m) → IsSeal t k → d ≤ depth_str s
        → OpensStr f i (suc d)
    in_signature : {f : Fixity} {t : Terminal} {i m : List Terminal} {s : StrExp} {k : Seal} {d : ℕ} → ReadsStr f i s (t ∷ m) → IsSeal t k → OpensSig m d
        → OpensStr f i (suc d)
    -- funid (strexp) and funid (strdec)
    in_argument : {f : Fixity} {t : Terminal} {i : List Terminal} {x : Placed ℕ} {d : ℕ} (p : ℕ) → IsModuleId t x → OpensStr f i d
        → OpensStr f (t ∷ reserved p res.LeftParen ∷ i) (suc d)
    in_argument_decs : {f : Fixity} {t : Terminal} {i : List Terminal} {x : Placed ℕ} {d : ℕ} (p : ℕ) → IsModuleId t x → OpensStrDecs f i d
        → OpensStr f (t ∷ reserved p res.LeftParen ∷ i) (suc d)
    -- let strdec in strexp end
    in_let : {f : Fixity} {i : List Terminal} {d : ℕ} (p : ℕ) → OpensStrDecs f i d → OpensStr f (reserved p res.Let ∷ i) (suc d)
    in_let_body : {f : Fixity} {i m : List Terminal} {ds : StrDecs} {d : ℕ} (p q : ℕ) → ReadsStrDecs f i ds (reserved q res.In ∷ m)
        → OpensStr (after_decs f ds) m d → OpensStr f (reserved p res.Let ∷ i) (suc d)

  -- strdec ::= empty | strdec [;] strdec
  pub data OpensStrDecs : Fixity → List Terminal → ℕ → Type 0 where
    past_no_dec : {f : Fixity} {i : List Terminal} {d : ℕ} (p : ℕ) → OpensStrDecs f i d → OpensStrDecs f (reserved p res.Semicolon ∷ i) d
    in_str_dec : {f : Fixity} {i : List Terminal} {d : ℕ} → OpensStrDec f i d → OpensStrDecs f i d
    past_str_dec : {f : Fixity} {i m : List Terminal} {x : StrDec} {d : ℕ} → ReadsStrDec f i x m → OpensStrDecs (after_str_dec f x) m d → OpensStrDecs f i d

  pub data OpensStrDec : Fixity → List Terminal → ℕ → Type 0 where
    -- a declaration of the core that isn't `local`
    in_core_dec : {f : Fixity} {i : List Terminal} {d : ℕ} → begins_local i ≡ false → OpensDec f i d → OpensStrDec f i d
    -- local strdec in strdec end, which counts as one
    begun_local_str : {f : Fixity} {i : List Terminal} (p : ℕ) → OpensStrDec f (reserved p res.Local ∷ i) 1
    in_local_str : {f : Fixity} {i : List Terminal} {d : ℕ} (p : ℕ) → OpensStrDecs f i d → OpensStrDec f (reserved p res.Local ∷ i) (suc d)
    in_local_str_body : {f : Fixity} {i m : List Terminal} {ds : StrDecs} {d : ℕ} (p q : ℕ) → ReadsStrDecs f i ds (reserved q res.In ∷ m)
        → OpensStrDecs (after_decs f ds) m d → OpensStrDec f (reserved p res.Local ∷ i) (suc d)
    -- structure strbind
    in_structure : {f : Fixity} {i : List Terminal} {d : ℕ} (p : ℕ) → OpensStrBinds f i d → OpensStrDec f (reserved p res.Structure ∷ i) d

  -- strbind ::= strid [: sigexp] = strexp [and strbind]
  pub data OpensStrBinds : Fixity → List Terminal → ℕ → Type 0 where
    in_str_sig : {f : Fixity} {t u : Terminal} {i : List Terminal} {x : Placed ℕ} {k : Seal} {d : ℕ} → IsModuleId t x → IsSeal u k → OpensSig i d
        → OpensStrBinds f (t ∷ u ∷ i) d
    in_str_body : {f : Fixity} {t : Terminal} {i m : List Terminal} {x : Placed ℕ} {g : MaybeSig} {d : ℕ} (p : ℕ) → IsModuleId t x
        → ReadsMaybeSig i g (reserved p res.Equals ∷ m) → OpensStr f m d → OpensStrBinds f (t ∷ i) d
    past_str_bind : {f : Fixity} {i m : List Terminal} {b : StrBind} {d : ℕ} (p : ℕ) → ReadsStrBind f i b (reserved p res.And ∷ m) → OpensStrBinds f m d
        → OpensStrBinds f i d

-- sigbind ::= sigid = sigexp [and sigbind]
pub data OpensSigBinds : List Terminal → ℕ → Type 0 where
  in_sig_bind : {t : Terminal} {i : List Terminal} {x : Placed ℕ} {d : ℕ} (p : ℕ) → IsModuleId t x → OpensSig i d
      → OpensSigBinds (t ∷ reserved p res.Equals ∷ i) d
  past_sig_bind : {t : Terminal} {i m : List Terminal} {x : Placed ℕ} {g : SigExp} {d : ℕ} (p q : ℕ) → IsModuleId t x
      → ReadsSig i g (reserved q res.And ∷ m) → OpensSigBinds m d → OpensSigBinds (t ∷ reserved p res.Equals ∷ i) d

-- what a functor takes
pub data OpensParameter : List Terminal → ℕ → Type 0 where
  in_structure_parameter : {t : Terminal} {i : List Terminal} {x : Placed ℕ} {d : ℕ} (p : ℕ) → IsModuleId t x → OpensSig i d
      → OpensParameter (t ∷ reserved p res.Colon ∷ i) d
  in_spec_parameter : {i : List Terminal} {d : ℕ} → OpensSpecs i d → OpensParameter i d

-- funbind ::= funid (..) [: sigexp] = strexp [and funbind]
pub data OpensFunBinds (f : Fixity) : List Terminal → ℕ → Type 0 where
  in_parameter : {t : Terminal} {i : List Terminal} {x : Placed ℕ} {d : ℕ} (p : ℕ) → IsModuleId t x → OpensParameter i d
      → OpensFunBinds f (t ∷ reserved p res.LeftParen ∷ i) d
  in_result : {t u : Terminal} {i m : List Terminal} {x : Placed ℕ} {a : Parameter} {k : Seal} {d : ℕ} (p q : ℕ) → IsModuleId t x
      → ReadsParameter p i a (reserved q res.RightParen ∷ u ∷ m) → IsSeal u k → OpensSig m d → OpensFunBinds f (t ∷ reserved p res.LeftParen ∷ i) d
  in_fun_body : {t : Terminal} {i m n : List Terminal} {x : Placed ℕ} {a : Parameter} {g : MaybeSig} {d : ℕ} (p q r : ℕ) → IsModuleId t x
      → ReadsParameter p i a (reserved q res.RightParen ∷ m) → ReadsMaybeSig m g (reserved r res.Equals ∷ n) → OpensStr f n d
      → OpensFunBinds f (t ∷ reserved p res.LeftParen ∷ i) d
  past_fun_bind : {i m : List Terminal} {b : FunBind} {d : ℕ} (p : ℕ) → OneFunBind f i b (reserved p res.And ∷ m) → OpensFunBinds f m d
      → OpensFunBinds f i d

pub data OpensTop : Fixity → Bool → List Terminal → ℕ → Type 0 where
  in_declaration : {f : Fixity} {fresh : Bool} {i : List Terminal} {d : ℕ} → OpensStrDec f i d → OpensTop f fresh i d
  in_signatures : {f : Fixity} {fresh : Bool} {i : List Terminal} {d : ℕ} (p : ℕ) → OpensSigBinds i d → OpensTop f fresh (reserved p res.Signature ∷ i) d
  in_functors : {f : Fixity} {fresh : Bool} {i : List Terminal} {d : ℕ} (p : ℕ) → OpensFunBinds f i d → OpensTop f fresh (reserved p res.Functor ∷ i) d
  in_expression : {f : Fixity} {i : List Terminal} {d : ℕ} → Opens f 0 i d → OpensTop f true i d

pub data OpensTops : Fixity → Bool → List Terminal → ℕ → Type 0 where
  past_no_top : {f : Fixity} {fresh : Bool} {i : List Terminal} {d : ℕ} (p : ℕ) → OpensTops f true i d → OpensTops f fresh (reserved p res.Semicolon ∷ i) d
  in_top : {f : Fixity} {fresh : Bool} {i : List Terminal} {d : ℕ} → OpensTop f fresh i d → OpensTops f fresh i d
  past_top : {f : Fixity} {fresh : Bool} {i m : List Terminal} {t : Top} {d : ℕ} → ReadsTop f fresh i t m
      → OpensTops (after_top f t) (ends_in_semicolon t) m d → OpensTops f fresh i d
