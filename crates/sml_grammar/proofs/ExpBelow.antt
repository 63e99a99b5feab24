-- What expressions and declarations ask of the phrases below them: types, patterns, heads of clauses and bindings.
use Rattle.std.proofs.Common.{◌≡◌, ℕ, suc, ◌≤◌, List, Option}
use Rattle.mlc_names.specs.declared.token.Reserved.TheVariants as res
use Rattle.sml_tree.specs.Terminal.{LongId, Terminal}
use Rattle.sml_tree.specs.declared.ident.Tyvar.{Tyvar}
use Rattle.sml_tree.specs.Fixity.{Fixity}
use Rattle.sml_tree.specs.ReadTree.{Placed, Ty, Pat, Head, TypeBind, DataBind, ExBind}
use Rattle.sml_tree.specs.Depth.{depth_ty, depth_some, depth_pat, depth_head, depth_type_binds, depth_data_binds, depth_ex_binds}
use Rattle.sml_tree.specs.Grammar.{ReadsTy, MaybeTy, Pattern, ReadsHead, Tyvars, TypeBinds, DataBinds, ExBinds, Strids, DirectiveVids}
use Rattle.sml_grammar.specs.Answer.{Read, ok, deep}
use Rattle.sml_grammar.specs.Terminals.{after_word}
use Rattle.sml_grammar.specs.Types.{read_ty, maybe_ty}
use Rattle.sml_grammar.specs.Patterns.{read_pat, read_head}
use Rattle.sml_grammar.specs.Bindings.{read_tyvars, read_type_binds, read_data_binds, read_ex_binds, read_strids, read_vids}
use Rattle.sml_grammar.specs.PartialTypes.{OpensTy}
use Rattle.sml_grammar.specs.PartialPatterns.{OpensPat, OpensHead}
use Rattle.sml_grammar.specs.PartialBindings.{OpensTypeBinds, OpensDataBinds, OpensExBinds}

-- read, and at most n deep
pub record Within {B : Type 0} (R : List Terminal → B → List Terminal → Type 0) (depth_of : B → ℕ) (n : ℕ) (i : List Terminal) (b : B) (o : List Terminal) : Type 0 where
  pub reads : R i b o
  pub fits : depth_of b ≤ n

-- what is read below is in the grammar
pub record Below (n : ℕ) : Type 0 where
  pub tys : (i : List Terminal) (y : Read Ty) → read_ty n 0 i ≡ ok y → Within ReadsTy depth_ty n i y.tree y.rest
  pub maybe_tys : (i : List Terminal) (y : Read (Option Ty)) → maybe_ty n (after_word res.Colon i) i ≡ ok y → Within MaybeTy depth_some n i y.tree y.rest
  pub pats : (f : Fixity) (i : List Terminal) (y : Read Pat) → read_pat n f i ≡ ok y → Within (Pattern f) depth_pat n i y.tree y.rest
  pub heads : (f : Fixity) (i : List Terminal) (y : Read Head) → read_head n f i ≡ ok y → Within (ReadsHead f) depth_head n i y.tree y.rest
  pub tyvars : (i : List Terminal) (y : Read (List Tyvar)) → read_tyvars i ≡ ok y → Tyvars i y.tree y.rest
  pub type_binds : (i : List Terminal) (y : Read (List TypeBind)) → read_type_binds n i ≡ ok y → Within TypeBinds depth_type_binds n i y.tree y.rest
  pub data_binds : (f : Fixity) (i : List Terminal) (y : Read (List DataBind)) → read_data_binds n f i ≡ ok y → Within (DataBinds f) depth_data_binds n i y.tree y.rest
  pub ex_binds : (f : Fixity) (i : List Terminal) (y : Read (List ExBind)) → read_ex_binds n f i ≡ ok y → Within (ExBinds f) depth_ex_binds n i y.tree y.rest
  pub strids : (i : List Terminal) (y : Read (List (Placed LongId))) → read_strids i ≡ ok y → Strids i y.tree y.rest
  pub vids : (i : List Terminal) (y : Read (List ℕ)) → read_vids i ≡ ok y → DirectiveVids i y.tree y.rest

-- where too deep a phrase is found below, a partial one is there
pub record FarBelow (n : ℕ) : Type 0 where
  pub tys : (i : List Terminal) → read_ty n 0 i ≡ deep → OpensTy 0 i (suc n)
  pub pats : (f : Fixity) (i : List Terminal) → read_pat n f i ≡ deep → OpensPat f 0 i (suc n)
  pub heads : (f : Fixity) (i : List Terminal) → read_head n f i ≡ deep → OpensHead f i (suc n)
  pub tyvars : (i : List Terminal) → read_tyvars i ≡ deep → ⊥
  pub type_binds : (i : List Terminal) → read_type_binds n i ≡ deep → OpensTypeBinds i (suc n)
  pub data_binds : (f : Fixity) (i : List Terminal) → read_data_binds n f i ≡ deep → OpensDataBinds f i (suc n)
  pub ex_binds : (f : Fixity) (i : List Terminal) → read_ex_binds n f i ≡ deep → OpensExBinds f i (suc n)
  pub strids : (i : List Terminal) → read_strids i ≡ deep → ⊥
  pub vids : (i : List Terminal) → read_vids i ≡ deep → ⊥
