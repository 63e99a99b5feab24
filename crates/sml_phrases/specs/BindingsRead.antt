-- What was read of type variables and of bindings of types and exceptions, against the reading function's answer.
use Rattle.std.specs.Prelude.{ℕ, ◌≡◌, ◌≤◌, ◌<◌, List, length, map}
use Rattle.mlc_names.specs.declared.token.Token.{Token}
use Rattle.mlc_names.specs.declared.token.Reserved.TheVariants as res
use Rattle.sml_tree.specs.Terminal.{Terminal, LongId}
use Rattle.sml_tree.specs.Fixity.{Fixity}
use Rattle.sml_tree.specs.ReadTree as read_tree
use Rattle.sml_tree.specs.ReadTree.{Placed, new_exn, same_exn}
use Rattle.sml_tree.specs.Bare.{bare_type_bind, bare_con, bare_data_bind, bare_ex_bind, bare_long}
use Rattle.sml_tree.specs.Depth.{depth_ty, depth_some, depth_type_binds, depth_cons, depth_data_binds, depth_ex_binds}
use Rattle.sml_tree.specs.TreeOf.{type_bind_of, con_bind_of, data_bind_of, ex_bind_of, long_id_at_of}
use Rattle.sml_tree.specs.declared.ident.Tyvar.{Tyvar}
use Rattle.sml_tree.specs.declared.tree.TypeBind.{TypeBind}
use Rattle.sml_tree.specs.declared.tree.ConBind.{ConBind}
use Rattle.sml_tree.specs.declared.tree.DataBind.{DataBind}
use Rattle.sml_tree.specs.declared.tree.ExBind.{ExBind}
use Rattle.sml_tree.specs.declared.tree.LongIdAt.{LongIdAt}
use Rattle.sml_grammar.specs.Answer.{Read, Answer, read, then_read}
use Rattle.sml_grammar.specs.Terminals.{place_at, after_word, then_taken, binds_vid}
use Rattle.sml_grammar.specs.Types.{read_ty, maybe_ty}
use Rattle.sml_grammar.specs.Bindings.{bound_tycon, read_cons, ex_bind_rest}
use Rattle.phrase_base.specs.declared.source.Source.{Source}
use Rattle.phrase_base.specs.Left.{left}

-- type variables: none, or some
pub record IsTyvars (s : Source) (i : List Terminal) (tyvars : List Tyvar) (d : ℕ) (o : List Token) (got : Read (List Tyvar)) : Type 0 where
  pub rest : left s o ≡ got.rest
  pub same : tyvars ≡ got.tree
  pub depth : d ≡ 0
  pub shorter : length got.rest ≤ length i

-- identifiers of structures, one or more
pub record IsStrids (s : Source) (i : List Terminal) (strids : List LongIdAt) (d : ℕ) (o : List Token) (got : Read (List (Placed LongId))) : Type 0 where
  pub rest : left s o ≡ got.rest
  pub bare : map long_id_at_of strids ≡ map (bare_long s.file) got.tree
  pub depth : d ≡ 0
  pub shorter : length got.rest < length i

-- a directive's identifiers, one or more
pub record IsVids (s : Source) (i : List Terminal) (vids : List ℕ) (d : ℕ) (o : List Token) (got : Read (List ℕ)) : Type 0 where
  pub rest : left s o ≡ got.rest
  pub same : vids ≡ got.tree
  pub depth : d ≡ 0
  pub shorter : length got.rest < length i

-- what a binding of a type begins with, up to its `=`
pub record TyconHead : Type 0 where
  pub tyvars : List Tyvar
  pub tycon : ℕ

abbrev pub read_tycon_head : List Terminal → Answer TyconHead
read_tycon_head i = bound_tycon (λ as_ t k. read (record { tyvars = as_; tycon = t }) k) i

pub record IsTyconHead (s : Source) (i : List Terminal) (as_ : List Tyvar) (t d : ℕ) (o : List Token) (got : Read TyconHead) : Type 0 where
  pub rest : left s o ≡ got.rest
  pub tyvars : as_ ≡ got.tree.tyvars
  pub tycon : t ≡ got.tree.tycon
  pub depth : d ≡ 0
  pub shorter : length got.rest < length i

-- one binding of a type
abbrev pub read_type_bind : ℕ → List Terminal → Answer read_tree.TypeBind
read_type_bind n i = bound_tycon (λ as_ t k. then_read (read_ty n 0 k) (λ a o. read (record { place = place_at i; tyvars = as_; tycon = t; ty = a }) o)) i

pub record IsTypeBind (s : Source) (n : ℕ) (i : List Terminal) (bind : TypeBind) (d : ℕ) (o : List Token) (got : Read read_tree.TypeBind) : Type 0 where
  pub rest : left s o ≡ got.rest
  pub bare : type_bind_of bind ≡ bare_type_bind s.file got.tree
  pub depth : d ≡ depth_ty got.tree.ty
  pub fits : depth_ty got.tree.ty ≤ n
  pub shorter : length got.rest < length i

pub record IsTypeBinds (s : Source) (n : ℕ) (i : List Terminal) (binds : List TypeBind) (d : ℕ) (o : List Token)
    (got : Read (List read_tree.TypeBind)) : Type 0 where
  pub rest : left s o ≡ got.rest
  pub bare : map type_bind_of binds ≡ map (bare_type_bind s.file) got.tree
  pub depth : d ≡ depth_type_binds got.tree
  pub fits : depth_type_binds got.tree ≤ n
  pub shorter : length got.rest < length i

-- one constructor
abbrev pub read_con : ℕ → Fixity → List Terminal → Answer read_tree.ConBind
read_con n f i = then_taken (binds_vid f i)
    (λ v m. then_read (maybe_ty n (after_word res.Of m) m) (λ t o. read (record { place = v.place; vid = v.it; of_ty = t }) o))

pub record IsCon (s : Source) (n : ℕ) (i : List Terminal) (con : ConBind) (d : ℕ) (o : List Token) (got : Read read_tree.ConBind) : Type 0 where
  pub rest : left s o ≡ got.rest
  pub bare : con_bind_of con ≡ bare_con s.file got.tree
  pub depth : d ≡ depth_some got.tree.of_ty
  pub fits : depth_some got.tree.of_ty ≤ n
  pub shorter : length got.rest < length i

pub record IsCons (s : Source) (n : ℕ) (i : List Terminal) (cons : List ConBind) (d : ℕ) (o : List Token) (got : Read (List read_tree.ConBind)) : Type 0 where
  pub rest : left s o ≡ got.rest
  pub bare : map con_bind_of cons ≡ map (bare_con s.file) got.tree
  pub depth : d ≡ depth_cons got.tree
  pub fits : depth_cons got.tree ≤ n
  pub shorter : length got.rest < length i

-- one binding of a datatype
abbrev pub read_data_bind : ℕ → Fixity → List Terminal → Answer read_tree.DataBind
read_data_bind n f i = bound_tycon
    (λ as_ t k. then_read (read_cons n f k) (λ cs o. read (record { place = place_at i; tyvars = as_; tycon = t; cons = cs }) o)) i

pub record IsDataBind (s : Source) (n : ℕ) (i : List Terminal) (bind : DataBind) (d : ℕ) (o : List Token) (got : Read read_tree.DataBind) : Type 0 where
  pub rest : left s o ≡ got.rest
  pub bare : data_bind_of bind ≡ bare_data_bind s.file got.tree
  pub depth : d ≡ depth_cons got.tree.cons
  pub fits : depth_cons got.tree.cons ≤ n
  pub shorter : length got.rest < length i

pub record IsDataBinds (s : Source) (n : ℕ) (i : List Terminal) (binds : List DataBind) (d : ℕ) (o : List Token)
    (got : Read (List read_tree.DataBind)) : Type 0 where
  pub rest : left s o ≡ got.rest
  pub bare : map data_bind_of binds ≡ map (bare_data_bind s.file) got.tree
  pub depth : d ≡ depth_data_binds got.tree
  pub fits : depth_data_binds got.tree ≤ n
  pub shorter : length got.rest < length i

-- one binding of an exception
abbrev pub depth_ex_bind : read_tree.ExBind → ℕ
depth_ex_bind (new_exn p v t) = depth_some t
depth_ex_bind (same_exn p v x) = 0

abbrev pub read_ex_bind : ℕ → Fixity → List Terminal → Answer read_tree.ExBind
read_ex_bind n f i = then_taken (binds_vid f i) (λ v m. ex_bind_rest n f v m)

pub record IsExBind (s : Source) (n : ℕ) (i : List Terminal) (bind : ExBind) (d : ℕ) (o : List Token) (got : Read read_tree.ExBind) : Type 0 where
  pub rest : left s o ≡ got.rest
  pub bare : ex_bind_of bind ≡ bare_ex_bind s.file got.tree
  pub depth : d ≡ depth_ex_bind got.tree
  pub fits : depth_ex_bind got.tree ≤ n
  pub shorter : length got.rest < length i

pub record IsExBinds (s : Source) (n : ℕ) (i : List Terminal) (binds : List ExBind) (d : ℕ) (o : List Token) (got : Read (List read_tree.ExBind)) : Type 0 where
  pub rest : left s o ≡ got.rest
  pub bare : map ex_bind_of binds ≡ map (bare_ex_bind s.file) got.tree
  pub depth : d ≡ depth_ex_binds got.tree
  pub fits : depth_ex_binds got.tree ≤ n
  pub shorter : length got.rest < length i
