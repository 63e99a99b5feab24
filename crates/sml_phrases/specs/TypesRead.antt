-- What was read of types, against the reading function's answer.
use Rattle.std.specs.Prelude.{ℕ, ◌≡◌, ◌≤◌, ◌<◌, List, length, map, max, ◌++◌, ◌∷◌, Option}
use Rattle.mlc_names.specs.declared.token.Reserved.TheVariants as res
use Rattle.sml_tree.specs.Terminal.{Terminal, type_var}
use Rattle.sml_tree.specs.ReadTree as read
use Rattle.sml_tree.specs.ReadTree.{Tys, no_tys, ty, TyFields, ty_place}
use Rattle.sml_tree.specs.Bare.{bare_ty, bare_some, ty_list, ty_at_list, bare_ty_fields}
use Rattle.sml_tree.specs.Depth.{depth_ty, depth_tys, depth_ty_fields, depth_some}
use Rattle.sml_tree.specs.TreeOf.{ty_of, ty_field_of, ty_part_of, ty_fields_of, some_ty_of}
use Rattle.sml_tree.specs.declared.tree.Ty.{Ty}
use Rattle.sml_tree.specs.declared.tree.TyField.{TyField}
use Rattle.sml_tree.specs.declared.tree.TyPart.{TyPart}
use Rattle.mlc_names.specs.declared.token.Token.{Token}
use Rattle.sml_grammar.specs.Answer.{Read, Answer, then_read, Turn}
use Rattle.sml_grammar.specs.Terminals.{place_at, NoState, first_as, as_long_tycon, after_word, after_star, separated}
use Rattle.sml_grammar.specs.Types.{TyReader, TyStart, var_start, con_if}
use Rattle.phrase_base.specs.declared.source.Source.{Source}
use Rattle.sml_phrases.specs.declared.types.Separator.{Separator}
use Rattle.sml_phrases.specs.declared.types.Separator.TheVariants.{Comma, Star}
use Rattle.phrase_base.specs.Left.{left}

-- a type that begins at i, at most n deep
pub record IsTy (s : Source) (n : ℕ) (i : List Terminal) (ty : Ty) (d : ℕ) (o : List Token) (got : Read read.Ty) : Type 0 where
  pub rest : left s o ≡ got.rest
  pub bare : ty_of ty ≡ bare_ty s.file got.tree
  pub depth : d ≡ depth_ty got.tree
  pub place : ty_place got.tree ≡ place_at i
  pub fits : depth_ty got.tree ≤ n
  pub shorter : length got.rest < length i

-- further types after those of `front`, the deepest of which is d0 deep
pub record IsTys (s : Source) (n : ℕ) (i : List Terminal) (front : List Ty) (d0 : ℕ) (tys : List Ty) (d : ℕ) (o : List Token) (got : Read Tys) : Type 0 where
  pub rest : left s o ≡ got.rest
  pub bare : map ty_of tys ≡ map ty_of front ++ ty_list s.file got.tree
  pub depth : d ≡ max d0 (depth_tys got.tree)
  pub fits : depth_tys got.tree ≤ n
  pub shorter : length got.rest < length i

-- further operands of a function type
pub record IsTyParts (s : Source) (n : ℕ) (i : List Terminal) (tys : List TyPart) (d : ℕ) (o : List Token) (got : Read Tys) : Type 0 where
  pub rest : left s o ≡ got.rest
  pub bare : map ty_part_of tys ≡ ty_at_list s.file got.tree
  pub depth : d ≡ depth_tys got.tree
  pub fits : depth_tys got.tree ≤ n
  pub shorter : length got.rest < length i

-- the fields of a record type
pub record IsTyFields (s : Source) (n : ℕ) (i : List Terminal) (fields : List TyField) (d : ℕ) (o : List Token) (got : Read TyFields) : Type 0 where
  pub rest : left s o ≡ got.rest
  pub bare : ty_fields_of (map ty_field_of fields) ≡ bare_ty_fields s.file got.tree
  pub depth : d ≡ depth_ty_fields got.tree
  pub fits : depth_ty_fields got.tree ≤ n
  pub shorter : length got.rest < length i

-- [: ty] and [of ty]
pub record IsMaybeTy (s : Source) (n : ℕ) (i : List Terminal) (ty : Option Ty) (d : ℕ) (o : List Token) (got : Read (Option read.Ty)) : Type 0 where
  pub rest : left s o ≡ got.rest
  pub bare : some_ty_of ty ≡ bare_some s.file got.tree
  pub depth : d ≡ depth_some got.tree
  pub fits : depth_some got.tree ≤ n
  pub shorter : length got.rest ≤ length i

-- what a type begins with that no bracket begins
abbrev pub plain_start : List Terminal → TyStart
plain_start (type_var p a ∷ o) = var_start p a o
plain_start i = con_if (first_as as_long_tycon i)

-- types parted by commas or by stars
abbrev pub separator_level : Separator → ℕ
separator_level Comma = 0
separator_level Star = 2

abbrev pub after_separator : Separator → List Terminal → Option (List Terminal)
after_separator Comma i = after_word res.Comma i
after_separator Star i = after_star i

abbrev pub separator_turn : Separator → TyReader → NoState → List Terminal → Answer (Turn Tys NoState)
separator_turn x self s i = then_read (self (separator_level x) i) (λ t o. separated (after_separator x o) (ty t) (ty t no_tys) s o)
