-- What holds of all terminals holds of those after a type, a sequence of type variables, and what is in a directive.
use Rattle.std.proofs.Common.{ℕ, List, Option}
use Rattle.std.specs.List.{AllByRecursion}
use Rattle.sml_tree.specs.declared.ident.Tyvar.{Tyvar}
use Rattle.sml_tree.specs.Terminal.{Terminal}
use Rattle.sml_tree.specs.ReadTree.{Ty, Tys, TyFields}
use Rattle.sml_tree.specs.Grammar.{ReadsTy, of_tyvar, of_no_ty_row, of_ty_row, of_tycon, of_tycon_1, of_tycon_n, of_product, of_arrow, of_paren_ty, TyRow, last_ty_row, more_ty_row, TyCommas, last_ty, more_tys, Stars, last_star, more_stars, Arrows, last_arrow, more_arrows, MaybeTy, without_ty, with_ty, TyvarCommas, last_tyvar, more_tyvars, Tyvars, no_tyvars, one_tyvar, tyvars_in_brackets, MaybeOf, without_of, with_of, DirectiveVids, last_vid, more_vids, ReadsPrecedence, no_precedence, a_precedence}

module _ (Q : Terminal → Type 0) where
  abbrev pub Each : List Terminal → Type 0
  Each = AllByRecursion Q

  mutual
    pub ty-rest : {i o : List Terminal} {a : Ty} → ReadsTy i a o → Each i → Each o
    ty-rest (of_tyvar p a) g = g.1
    ty-rest (of_no_ty_row p q) g = g.1.1
    ty-rest (of_ty_row p q d) g = (ty_row-rest d g.1).1
    ty-rest (of_tycon c) g = g.1
    ty-rest (of_tycon_1 lv d c e) g = (ty-rest d g).1
    ty-rest (of_tycon_n p r s d ds c) g = (ty_commas-rest ds (ty-rest d g.1).1).1.1
    ty-rest (of_product lv d ds) g = stars-rest ds (ty-rest d g)
    ty-rest (of_arrow lv d ds) g = arrows-rest ds (ty-rest d g)
    ty-rest (of_paren_ty p q d) g = (ty-rest d g.1).1

    ty_row-rest : {i o : List Terminal} {fs : TyFields} → TyRow i fs o → Each i → Each o
    ty_row-rest (last_ty_row p l d) g = ty-rest d g.1.1
    ty_row-rest (more_ty_row p q l d ds) g = ty_row-rest ds (ty-rest d g.1.1).1

    ty_commas-rest : {i o : List Terminal} {ts : Tys} → TyCommas i ts o → Each i → Each o
    ty_commas-rest (last_ty d) g = ty-rest d g
    ty_commas-rest (more_tys p d ds) g = ty_commas-rest ds (ty-rest d g).1

    stars-rest : {i o : List Terminal} {ts : Tys} → Stars i ts o → Each i → Each o
    stars-rest (last_star p x lv d) g = ty-rest d g.1
    stars-rest (more_stars p x lv d ds) g = stars-rest ds (ty-rest d g.1)

    arrows-rest : {i o : List Terminal} {ts : Tys} → Arrows i ts o → Each i → Each o
    arrows-rest (last_arrow p lv d) g = ty-rest d g.1
    arrows-rest (more_arrows p lv d ds) g = arrows-rest ds (ty-rest d g.1)

  pub maybe_ty-rest : {i o : List Terminal} {a : Option Ty} → MaybeTy i a o → Each i → Each o
  maybe_ty-rest without_ty g = g
  maybe_ty-rest (with_ty p d) g = ty-rest d g.1

  pub maybe_of-rest : {i o : List Terminal} {a : Option Ty} → MaybeOf i a o → Each i → Each o
  maybe_of-rest without_of g = g
  maybe_of-rest (with_of p d) g = ty-rest d g.1

  tyvar_commas-rest : {i o : List Terminal} {as_ : List Tyvar} → TyvarCommas i as_ o → Each i → Each o
  tyvar_commas-rest (last_tyvar p q a) g = g.1.1
  tyvar_commas-rest (more_tyvars p q a d) g = tyvar_commas-rest d g.1.1

  pub tyvars-rest : {i o : List Terminal} {as_ : List Tyvar} → Tyvars i as_ o → Each i → Each o
  tyvars-rest no_tyvars g = g
  tyvars-rest (one_tyvar p a) g = g.1
  tyvars-rest (tyvars_in_brackets p d) g = tyvar_commas-rest d g.1

  pub directive-rest : {i o : List Terminal} {xs : List ℕ} → DirectiveVids i xs o → Each i → Each o
  directive-rest (last_vid v) g = g.1
  directive-rest (more_vids v d) g = directive-rest d g.1

  pub precedence-rest : {i o : List Terminal} {d : ℕ} → ReadsPrecedence i d o → Each i → Each o
  precedence-rest no_precedence g = g
  precedence-rest (a_precedence p d le) g = g.1
