-- What was read of descriptions, against the reading function's answer.
use Rattle.std.specs.Prelude.{ℕ, ◌≡◌, ◌≤◌, ◌<◌, List, length, map, Option}
use Rattle.mlc_names.specs.declared.token.Reserved.TheVariants as res
use Rattle.mlc_names.specs.declared.token.Token.{Token}
use Rattle.sml_tree.specs.Terminal.{Terminal}
use Rattle.sml_tree.specs.ReadTree as tree_core
use Rattle.sml_tree.specs.Bare.{bare_some}
use Rattle.sml_tree.specs.TreeOf.{some_ty_of}
use Rattle.sml_tree.specs.declared.ident.Tyvar.{Tyvar}
use Rattle.sml_tree.specs.declared.tree.Ty.{Ty}
use Rattle.sml_tree.specs.Depth.{depth_ty, depth_some}
use Rattle.sml_grammar.specs.Answer.{Read, Answer, read, then_read, whole}
use Rattle.sml_grammar.specs.Terminals.{place_at, first_as, as_vid, as_tycon, after_word, then_taken, word_then, no_state}
use Rattle.sml_grammar.specs.Types.{read_ty, maybe_ty}
use Rattle.sml_grammar.specs.Bindings.{read_tyvars, bound_tycon}
use Rattle.module_tree.specs.ReadModules as tree
use Rattle.module_tree.specs.ModuleBare.{bare_val_desc, bare_type_desc, bare_con_desc, bare_data_desc}
use Rattle.module_tree.specs.ModuleDepth.{depth_val_descs, depth_con_descs, depth_data_descs}
use Rattle.module_grammar.specs.Signatures.{val_desc_turn, type_desc_turn, read_con_descs, data_desc_turn}
use Rattle.module_code.specs.TreeOf.{val_desc_of, type_desc_of, con_desc_of, data_desc_of}
use Rattle.module_code.specs.declared.signatures.ValDesc.{ValDesc}
use Rattle.module_code.specs.declared.signatures.TypeDesc.{TypeDesc}
use Rattle.module_code.specs.declared.signatures.ConDesc.{ConDesc}
use Rattle.module_code.specs.declared.signatures.DataDesc.{DataDesc}
use Rattle.phrase_base.specs.declared.source.Source.{Source}
use Rattle.phrase_base.specs.Left.{left}
use Rattle.phrase_base.specs.TypesRead.{IsOne}

-- vid : ty
abbrev pub read_val_desc : ℕ → List Terminal → Answer tree.ValDesc
read_val_desc n i =
    then_taken (first_as as_vid i) (λ x m. word_then res.Colon (λ k. then_read (read_ty n 0 k) (λ a o.
    read (record { place = x.place; vid = x.it; ty = a }) o)) m)

abbrev pub IsValDesc : Source → ℕ → List Terminal → ValDesc → ℕ → List Token → Read tree.ValDesc → Type 0
IsValDesc s n i v d o got = IsOne val_desc_of (bare_val_desc s.file) (λ v. depth_ty v.ty) s n i v d o got

abbrev pub read_val_descs : ℕ → List Terminal → Answer (List tree.ValDesc)
read_val_descs n i = whole (val_desc_turn n) no_state i

abbrev pub IsValDescs : Source → ℕ → List Terminal → List ValDesc → ℕ → List Token → Read (List tree.ValDesc) → Type 0
IsValDescs s n i vs d o got = IsOne (map val_desc_of) (map (bare_val_desc s.file)) depth_val_descs s n i vs d o got

-- tyvarseq tycon
abbrev pub read_type_desc : List Terminal → Answer tree.TypeDesc
read_type_desc i =
    then_read (read_tyvars i) (λ as_ m. then_taken (first_as as_tycon m) (λ t o. read (record { place = place_at i; tyvars = as_; tycon = t.it }) o))

abbrev pub IsTypeDesc : Source → List Terminal → TypeDesc → ℕ → List Token → Read tree.TypeDesc → Type 0
IsTypeDesc s i t d o got = IsOne type_desc_of (bare_type_desc s.file) (λ t. 0) s 0 i t d o got

abbrev pub read_type_descs : List Terminal → Answer (List tree.TypeDesc)
read_type_descs i = whole type_desc_turn no_state i

abbrev pub IsTypeDescs : Source → List Terminal → List TypeDesc → ℕ → List Token → Read (List tree.TypeDesc) → Type 0
IsTypeDescs s i ts d o got = IsOne (map type_desc_of) (map (bare_type_desc s.file)) (λ ts. 0) s 0 i ts d o got

-- [of ty]
abbrev pub read_of : ℕ → List Terminal → Answer (Option tree_core.Ty)
read_of n i = maybe_ty n (after_word res.Of i) i

pub record IsOf (s : Source) (n : ℕ) (i : List Terminal) (t : Option Ty) (d : ℕ) (o : List Token) (got : Read (Option tree_core.Ty)) : Type 0 where
  pub rest : left s o ≡ got.rest
  pub same : some_ty_of t ≡ bare_some s.file got.tree
  pub depth : d ≡ depth_some got.tree
  pub fits : depth_some got.tree ≤ n
  pub shorter : length got.rest ≤ length i

-- vid [of ty]
abbrev pub read_con_desc : ℕ → List Terminal → Answer tree.ConDesc
read_con_desc n i = then_taken (first_as as_vid i) (λ x m. then_read (read_of n m) (λ t o. read (record { place = x.place; vid = x.it; of_ty = t }) o))

abbrev pub IsConDesc : Source → ℕ → List Terminal → ConDesc → ℕ → List Token → Read tree.ConDesc → Type 0
IsConDesc s n i c d o got = IsOne con_desc_of (bare_con_desc s.file) (λ c. depth_some c.of_ty) s n i c d o got

abbrev pub IsConDescs : Source → ℕ → List Terminal → List ConDesc → ℕ → List Token → Read (List tree.ConDesc) → Type 0
IsConDescs s n i cs d o got = IsOne (map con_desc_of) (map (bare_con_desc s.file)) depth_con_descs s n i cs d o got

-- tyvarseq tycon =
pub record TyconHead : Type 0 where
  pub tyvars : List Tyvar
  pub tycon : ℕ

abbrev pub read_tycon_head : List Terminal → Answer TyconHead
read_tycon_head i = bound_tycon (λ as_ t k. read (record { tyvars = as_; tycon = t }) k) i

pub record IsTyconHead (s : Source) (i : List Terminal) (as_ : List Tyvar) (t : ℕ) (o : List Token) (got : Read TyconHead) : Type 0 where
  pub rest : left s o ≡ got.rest
  pub tyvars : as_ ≡ got.tree.tyvars
  pub tycon : t ≡ got.tree.tycon
  pub shorter : length got.rest < length i

-- tyvarseq tycon = condesc | ..
abbrev pub read_data_desc : ℕ → List Terminal → Answer tree.DataDesc
read_data_desc n i =
    bound_tycon (λ as_ t k. then_read (read_con_descs n res.Bar k) (λ cs o. read (record { place = place_at i; tyvars = as_; tycon = t; cons = cs }) o)) i

abbrev pub IsDataDesc : Source → ℕ → List Terminal → DataDesc → ℕ → List Token → Read tree.DataDesc → Type 0
IsDataDesc s n i b d o got = IsOne data_desc_of (bare_data_desc s.file) (λ b. depth_con_descs b.cons) s n i b d o got

abbrev pub read_data_descs : ℕ → List Terminal → Answer (List tree.DataDesc)
read_data_descs n i = whole (data_desc_turn n) no_state i

abbrev pub IsDataDescs : Source → ℕ → List Terminal → List DataDesc → ℕ → List Token → Read (List tree.DataDesc) → Type 0
IsDataDescs s n i bs d o got = IsOne (map data_desc_of) (map (bare_data_desc s.file)) depth_data_descs s n i bs d o got
