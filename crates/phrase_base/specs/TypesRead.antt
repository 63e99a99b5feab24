-- What was read of types, type variables and bindings of types, against the reading function's answer.
use Rattle.std.specs.Prelude.{ℕ, ◌≡◌, ◌≤◌, ◌<◌, List, length, map}
use Rattle.mlc_names.specs.declared.token.Token.{Token}
use Rattle.sml_tree.specs.Terminal.{Terminal}
use Rattle.sml_tree.specs.ReadTree as read
use Rattle.sml_tree.specs.Bare.{bare_ty, bare_type_bind}
use Rattle.sml_tree.specs.Depth.{depth_ty, depth_type_binds}
use Rattle.sml_tree.specs.TreeOf.{ty_of, type_bind_of}
use Rattle.sml_tree.specs.declared.ident.Tyvar.{Tyvar}
use Rattle.sml_tree.specs.declared.tree.Ty.{Ty}
use Rattle.sml_tree.specs.declared.tree.TypeBind.{TypeBind}
use Rattle.sml_grammar.specs.Answer.{Read}
use Rattle.phrase_base.specs.declared.source.Source.{Source}
use Rattle.phrase_base.specs.Left.{left}

-- a phrase that begins at i, at most n deep, and stands for what was read
pub record IsOne {X A V : Type 0} (of : X → V) (view : A → V) (dep : A → ℕ) (s : Source) (n : ℕ) (i : List Terminal) (x : X) (d : ℕ) (o : List Token)
    (got : Read A) : Type 0 where
  pub rest : left s o ≡ got.rest
  pub same : of x ≡ view got.tree
  pub depth : d ≡ dep got.tree
  pub fits : dep got.tree ≤ n
  pub shorter : length got.rest < length i

abbrev pub IsTy : Source → ℕ → List Terminal → Ty → ℕ → List Token → Read read.Ty → Type 0
IsTy s n i t d o got = IsOne ty_of (bare_ty s.file) depth_ty s n i t d o got

abbrev pub IsTypeBinds : Source → ℕ → List Terminal → List TypeBind → ℕ → List Token → Read (List read.TypeBind) → Type 0
IsTypeBinds s n i bs d o got = IsOne (map type_bind_of) (map (bare_type_bind s.file)) depth_type_binds s n i bs d o got

-- type variables: none, or some
pub record IsTyvars (s : Source) (i : List Terminal) (tyvars : List Tyvar) (o : List Token) (got : Read (List Tyvar)) : Type 0 where
  pub rest : left s o ≡ got.rest
  pub same : tyvars ≡ got.tree
  pub shorter : length got.rest ≤ length i
