-- Partial bindings of types and exceptions.
use Rattle.std.specs.Prelude.{ℕ, List, ◌∷◌, Option}
use Rattle.mlc_names.specs.declared.token.Reserved.TheVariants as res
use Rattle.sml_tree.specs.Terminal.{Terminal, reserved, IsTycon}
use Rattle.sml_tree.specs.declared.ident.Tyvar.{Tyvar}
use Rattle.sml_tree.specs.declared.ident.Vid.{Vid}
use Rattle.sml_tree.specs.Fixity.{Fixity}
use Rattle.sml_tree.specs.ReadTree.{Placed, Ty, TypeBind, DataBind, ExBind}
use Rattle.sml_tree.specs.Grammar.{BindsVid, Tyvars, OneTypeBind, MaybeOf, OneDataBind, OneExBind}
use Rattle.sml_grammar.specs.PartialTypes.{OpensTy}

-- typbind ::= tyvarseq tycon = ty [and typbind]
pub data OpensTypeBinds : List Terminal → ℕ → Type 0 where
  in_type_bind : {i m : List Terminal} {t : Terminal} {as_ : List Tyvar} {q x d : ℕ} (r : ℕ) → Tyvars i as_ (t ∷ reserved r res.Equals ∷ m) → IsTycon t q x
      → OpensTy 0 m d → OpensTypeBinds i d
  past_type_bind : {i m : List Terminal} {b : TypeBind} {d : ℕ} (p : ℕ) → OneTypeBind i b (reserved p res.And ∷ m) → OpensTypeBinds m d → OpensTypeBinds i d

-- conbind ::= [op] vid [of ty] [| conbind]
pub data OpensCons : Fixity → List Terminal → ℕ → Type 0 where
  in_con : {f : Fixity} {i m : List Terminal} {p : ℕ} {v : Placed Vid} {d : ℕ} (q : ℕ) → BindsVid f i p v (reserved q res.Of ∷ m) → OpensTy 0 m d
      → OpensCons f i d
  past_con : {f : Fixity} {i m n : List Terminal} {p : ℕ} {v : Placed Vid} {s : Option Ty} {d : ℕ} (q : ℕ) → BindsVid f i p v m
      → MaybeOf m s (reserved q res.Bar ∷ n) → OpensCons f n d → OpensCons f i d

-- datbind ::= tyvarseq tycon = conbind [and datbind]
pub data OpensDataBinds : Fixity → List Terminal → ℕ → Type 0 where
  in_data_bind : {f : Fixity} {i m : List Terminal} {t : Terminal} {as_ : List Tyvar} {q x d : ℕ} (r : ℕ) → Tyvars i as_ (t ∷ reserved r res.Equals ∷ m)
      → IsTycon t q x → OpensCons f m d → OpensDataBinds f i d
  past_data_bind : {f : Fixity} {i m : List Terminal} {b : DataBind} {d : ℕ} (p : ℕ) → OneDataBind f i b (reserved p res.And ∷ m) → OpensDataBinds f m d
      → OpensDataBinds f i d

-- exbind ::= [op] vid [of ty] [and exbind]
pub data OpensExBinds : Fixity → List Terminal → ℕ → Type 0 where
  in_exn : {f : Fixity} {i m : List Terminal} {p : ℕ} {v : Placed Vid} {d : ℕ} (q : ℕ) → BindsVid f i p v (reserved q res.Of ∷ m) → OpensTy 0 m d
      → OpensExBinds f i d
  past_exn : {f : Fixity} {i m : List Terminal} {b : ExBind} {d : ℕ} (p : ℕ) → OneExBind f i b (reserved p res.And ∷ m) → OpensExBinds f m d
      → OpensExBinds f i d
