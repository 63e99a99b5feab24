-- Partial signatures and specifications: `OpensSig i d` where some front of the terminals i is a signature, cut off at its right edge, that is at
-- least d deep. Each phrase of a path along the cut edge is entered by a terminal of its own, or by a complete left part.
use Rattle.std.specs.Prelude.{ℕ, suc, ◌≤◌, List, ◌∷◌, Option}
use Rattle.mlc_names.specs.declared.token.Reserved.TheVariants as res
use Rattle.sml_tree.specs.Terminal.{LongId, Terminal, reserved, IsVid, IsTycon, IsLongTycon}
use Rattle.sml_tree.specs.declared.ident.Tyvar.{Tyvar}
use Rattle.sml_tree.specs.ReadTree.{Placed, Ty}
use Rattle.sml_tree.specs.Grammar.{ReadsTy, MaybeOf, Tyvars}
use Rattle.sml_grammar.specs.PartialTypes.{OpensTy}
use Rattle.sml_grammar.specs.PartialBindings.{OpensTypeBinds}
use Rattle.module_tree.specs.ReadModules.{DataDesc, WhereType, SigExp, Spec}
use Rattle.module_tree.specs.ModuleDepth.{depth_sig}
use Rattle.module_tree.specs.ModuleGrammar.{IsModuleId, OneDataDesc, OneWhere, ReadsSig, ReadsSpec}

-- a signature: `sig` or an identifier
pub data BeginsSig : List Terminal → Type 0 where
  with_sig_word : {o : List Terminal} (p : ℕ) → BeginsSig (reserved p res.Sig ∷ o)
  with_sig_id : {t : Terminal} {o : List Terminal} {x : Placed ℕ} → IsModuleId t x → BeginsSig (t ∷ o)

-- valdesc ::= vid : ty [and valdesc]
pub data OpensVals : List Terminal → ℕ → Type 0 where
  in_val_desc : {t : Terminal} {i : List Terminal} {p x d : ℕ} (q : ℕ) → IsVid t p x → OpensTy 0 i d → OpensVals (t ∷ reserved q res.Colon ∷ i) d
  past_val_desc : {t : Terminal} {i m : List Terminal} {p x : ℕ} {a : Ty} {d : ℕ} (q r : ℕ) → IsVid t p x → ReadsTy i a (reserved r res.And ∷ m)
      → OpensVals m d → OpensVals (t ∷ reserved q res.Colon ∷ i) d

-- condesc ::= vid [of ty] [| condesc]
pub data OpensConDescs : List Terminal → ℕ → Type 0 where
  in_con_desc : {t : Terminal} {m : List Terminal} {p x d : ℕ} (q : ℕ) → IsVid t p x → OpensTy 0 m d → OpensConDescs (t ∷ reserved q res.Of ∷ m) d
  past_con_desc : {t : Terminal} {m n : List Terminal} {p x : ℕ} {s : Option Ty} {d : ℕ} (q : ℕ) → IsVid t p x → MaybeOf m s (reserved q res.Bar ∷ n)
      → OpensConDescs n d → OpensConDescs (t ∷ m) d

-- datdesc ::= tyvarseq tycon = condesc [and datdesc]
pub data OpensDataDescs : List Terminal → ℕ → Type 0 where
  in_data_desc : {i m : List Terminal} {t : Terminal} {as_ : List Tyvar} {q x d : ℕ} (r : ℕ) → Tyvars i as_ (t ∷ reserved r res.Equals ∷ m) → IsTycon t q x
      → OpensConDescs m d → OpensDataDescs i d
  past_data_desc : {i m : List Terminal} {b : DataDesc} {d : ℕ} (p : ℕ) → OneDataDesc i b (reserved p res.And ∷ m) → OpensDataDescs m d → OpensDataDescs i d

-- exdesc ::= vid [of ty] [and exdesc]
pub data OpensExDescs : List Terminal → ℕ → Type 0 where
  in_ex_desc : {t : Terminal} {m : List Terminal} {p x d : ℕ} (q : ℕ) → IsVid t p x → OpensTy 0 m d → OpensExDescs (t ∷ reserved q res.Of ∷ m) d
  past_ex_desc : {t : Terminal} {m n : List Terminal} {p x : ℕ} {s : Option Ty} {d : ℕ} (q : ℕ) → IsVid t p x → MaybeOf m s (reserved q res.And ∷ n)
      → OpensExDescs n d → OpensExDescs (t ∷ m) d

-- type tyvarseq longtycon = ty [and type ..]
pub data OpensWheres : List Terminal → ℕ → Type 0 where
  in_where : {i m : List Terminal} {t : Terminal} {as_ : List Tyvar} {q : ℕ} {c : LongId} {d : ℕ} (p r : ℕ) → Tyvars i as_ (t ∷ reserved r res.Equals ∷ m)
      → IsLongTycon t q c → OpensTy 0 m d → OpensWheres (reserved p res.TypeWord ∷ i) d
  past_where : {i m : List Terminal} {w : WhereType} {d : ℕ} (p : ℕ) → OneWhere i w (reserved p res.And ∷ m) → OpensWheres m d → OpensWheres i d

mutual
  pub data OpensSig : List Terminal → ℕ → Type 0 where
    -- what begins it
    begun_sig : {i : List Terminal} → BeginsSig i → OpensSig i 1
    -- sig spec end
    in_sig : {i : List Terminal} {d : ℕ} (p : ℕ) → OpensSpecs i d → OpensSig (reserved p res.Sig ∷ i) (suc d)
    -- sigexp where type .., cut off after `where`, or in what is bound
    extended : {i m : List Terminal} {g : SigExp} {d : ℕ} (p : ℕ) → ReadsSig i g (reserved p res.Where ∷ m) → d ≤ depth_sig g → OpensSig i (suc d)
    in_wheres : {i m : List Terminal} {g : SigExp} {d : ℕ} (p : ℕ) → ReadsSig i g (reserved p res.Where ∷ m) → OpensWheres m d → OpensSig i (suc d)

  -- spec ::= empty | spec [;] spec
  pub data OpensSpecs : List Terminal → ℕ → Type 0 where
    past_no_spec : {i : List Terminal} {d : ℕ} (p : ℕ) → OpensSpecs i d → OpensSpecs (reserved p res.Semicolon ∷ i) d
    in_spec : {i : List Terminal} {d : ℕ} → OpensSpec i d → OpensSpecs i d
    past_spec : {i m : List Terminal} {s : Spec} {d : ℕ} → ReadsSpec i s m → OpensSpecs m d → OpensSpecs i d

  -- a specification isn't counted itself
  pub data OpensSpec : List Terminal → ℕ → Type 0 where
    in_vals : {i : List Terminal} {d : ℕ} (p : ℕ) → OpensVals i d → OpensSpec (reserved p res.Val ∷ i) d
    in_abbreviations : {i : List Terminal} {d : ℕ} (p : ℕ) → OpensTypeBinds i d → OpensSpec (reserved p res.TypeWord ∷ i) d
    in_data : {i : List Terminal} {d : ℕ} (p : ℕ) → OpensDataDescs i d → OpensSpec (reserved p res.Datatype ∷ i) d
    in_exceptions : {i : List Terminal} {d : ℕ} (p : ℕ) → OpensExDescs i d → OpensSpec (reserved p res.Exception ∷ i) d
    in_structures : {i : List Terminal} {d : ℕ} (p : ℕ) → OpensStrDescs i d → OpensSpec (reserved p res.Structure ∷ i) d
    -- one identifier begins a signature, and a list of identifiers
    in_include : {i : List Terminal} {d : ℕ} (p : ℕ) → OpensSig i d → OpensSpec (reserved p res.Include ∷ i) d

  -- strdesc ::= strid : sigexp [and strdesc]
  pub data OpensStrDescs : List Terminal → ℕ → Type 0 where
    in_str_desc : {t : Terminal} {i : List Terminal} {x : Placed ℕ} {d : ℕ} (p : ℕ) → IsModuleId t x → OpensSig i d
        → OpensStrDescs (t ∷ reserved p res.Colon ∷ i) d
    past_str_desc : {t : Terminal} {i m : List Terminal} {x : Placed ℕ} {g : SigExp} {d : ℕ} (p q : ℕ) → IsModuleId t x
        → ReadsSig i g (reserved q res.And ∷ m) → OpensStrDescs m d → OpensStrDescs (t ∷ reserved p res.Colon ∷ i) d
