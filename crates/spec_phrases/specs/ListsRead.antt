-- What was read of identifiers, and of what `where type` binds, against the reading function's answer.
use Rattle.std.specs.Prelude.{ℕ, List, map, Option}
use Rattle.mlc_base.specs.declared.place.Place.{Place}
use Rattle.mlc_names.specs.declared.token.Reserved.TheVariants as res
use Rattle.mlc_names.specs.declared.token.Token.{Token}
use Rattle.sml_tree.specs.Terminal.{Terminal, LongId}
use Rattle.sml_tree.specs.BareTree as core
use Rattle.sml_tree.specs.Bare.{at, bare_ty, bare_long}
use Rattle.sml_tree.specs.TreeOf.{ty_of, long_id_of, long_id_at_of}
use Rattle.sml_tree.specs.ReadTree.{Placed}
use Rattle.sml_tree.specs.Depth.{depth_ty}
use Rattle.sml_tree.specs.declared.ident.Tyvar.{Tyvar}
use Rattle.sml_tree.specs.declared.tree.LongIdAt.{LongIdAt}
use Rattle.sml_grammar.specs.Answer.{Read, Answer, read, then_read, whole}
use Rattle.sml_grammar.specs.Terminals.{place_at, first_as, as_long_tycon, after_word, then_taken, word_then, no_state}
use Rattle.sml_grammar.specs.Types.{read_ty}
use Rattle.sml_grammar.specs.Bindings.{read_tyvars, tyvars_place, put_more}
use Rattle.module_tree.specs.ReadModules as tree
use Rattle.module_tree.specs.ModuleBare.{id_at}
use Rattle.module_tree.specs.ModuleDepth.{depth_where_types}
use Rattle.module_grammar.specs.Signatures.{as_module_id, tycon_turn, sig_id_turn, and_type, where_turn}
use Rattle.module_code.specs.TreeOf.{id_at_of}
use Rattle.module_code.specs.declared.signatures.IdAt.{IdAt}
use Rattle.module_code.specs.declared.signatures.WhereType.{WhereType}
use Rattle.phrase_base.specs.declared.source.Source.{Source}
use Rattle.phrase_base.specs.TypesRead.{IsOne}

-- longtycon
abbrev pub read_tycon : List Terminal → Answer (Placed LongId)
read_tycon i = then_taken (first_as as_long_tycon i) (λ c o. read c o)

abbrev pub IsTycon : Source → List Terminal → LongIdAt → ℕ → List Token → Read (Placed LongId) → Type 0
IsTycon s i x d o got = IsOne long_id_at_of (bare_long s.file) (λ c. 0) s 0 i x d o got

abbrev pub read_tycons : List Terminal → Answer (List (Placed LongId))
read_tycons i = whole tycon_turn no_state i

abbrev pub IsTycons : Source → List Terminal → List LongIdAt → ℕ → List Token → Read (List (Placed LongId)) → Type 0
IsTycons s i xs d o got = IsOne (map long_id_at_of) (map (bare_long s.file)) (λ cs. 0) s 0 i xs d o got

-- an identifier of a structure, signature or functor
abbrev pub read_id : List Terminal → Answer (Placed ℕ)
read_id i = then_taken (first_as as_module_id i) (λ x o. read x o)

abbrev pub IsId : Source → List Terminal → IdAt → ℕ → List Token → Read (Placed ℕ) → Type 0
IsId s i x d o got = IsOne id_at_of (id_at s.file) (λ x. 0) s 0 i x d o got

abbrev pub read_ids : List Terminal → Answer (List (Placed ℕ))
read_ids i = whole sig_id_turn no_state i

abbrev pub IsIds : Source → List Terminal → List IdAt → ℕ → List Token → Read (List (Placed ℕ)) → Type 0
IsIds s i xs d o got = IsOne (map id_at_of) (map (id_at s.file)) (λ xs. 0) s 0 i xs d o got

-- the terminals where an identifier stands first
abbrev pub id_follows : List Terminal → Option (List Terminal)
id_follows o = put_more (first_as as_module_id o) o

-- what `where type` binds, without derived forms
pub record WhereOf : Type 0 where
  pub place : Place
  pub tyvars_place : Place
  pub tyvars : List Tyvar
  pub tycon : core.LongIdAt
  pub ty : core.Ty

abbrev pub where_of : WhereType → WhereOf
where_of w = record {
  place = w.place;
  tyvars_place = w.tyvars_place;
  tyvars = w.tyvars.items;
  tycon = record { place = w.tycon_place; long = long_id_of w.tycon };
  ty = ty_of w.ty;
}

abbrev pub bare_where : ℕ → tree.WhereType → WhereOf
bare_where f w = record {
  place = at f w.place;
  tyvars_place = at f w.tyvars_place;
  tyvars = w.tyvars;
  tycon = bare_long f w.tycon;
  ty = bare_ty f w.ty;
}

-- type tyvarseq longtycon = ty
abbrev pub read_where : ℕ → List Terminal → Answer tree.WhereType
read_where n i =
    word_then res.TypeWord (λ j. then_read (read_tyvars j) (λ as_ m. then_taken (first_as as_long_tycon m) (λ c k. word_then res.Equals (λ l.
    then_read (read_ty n 0 l) (λ a o.
    read (record { place = place_at i; tyvars_place = tyvars_place (place_at i) j as_; tyvars = as_; tycon = c; ty = a }) o)) k))) i

abbrev pub IsWhere : Source → ℕ → List Terminal → WhereType → ℕ → List Token → Read tree.WhereType → Type 0
IsWhere s n i w d o got = IsOne where_of (bare_where s.file) (λ w. depth_ty w.ty) s n i w d o got

abbrev pub read_wheres : ℕ → List Terminal → Answer (List tree.WhereType)
read_wheres n i = whole (where_turn n) no_state i

abbrev pub IsWheres : Source → ℕ → List Terminal → List WhereType → ℕ → List Token → Read (List tree.WhereType) → Type 0
IsWheres s n i ws d o got = IsOne (map where_of) (map (bare_where s.file)) depth_where_types s n i ws d o got

-- what follows `and` before `type`
abbrev pub after_and_type : List Terminal → Option (List Terminal)
after_and_type i = and_type (after_word res.And i)
