-- What the core's readers say, as readers of modules ask for it.
use Rattle.std.proofs.Common.{◌≡◌, ℕ, zero, suc, List, [], ◌∷◌, Option, Some, None, Result, Ok, Err, refl, sym, ap, ◌∙◌}
use Rattle.mlc_base.specs.declared.place.Place.{Place}
use Rattle.sml_tree.specs.Terminal.{Terminal}
use Rattle.sml_tree.specs.BareTree as bare
use Rattle.sml_tree.specs.Bare.{at, bare_exp}
use Rattle.sml_tree.specs.Fixity.{Fixity}
use Rattle.sml_tree.specs.ReadTree as read
use Rattle.sml_tree.specs.ReadTree.{exp_place}
use Rattle.sml_tree.specs.Depth.{depth}
use Rattle.sml_tree.specs.TreeOf.{dec_of, exp_of}
use Rattle.sml_tree.specs.declared.ident.Vid.TheVariants.{Named}
use Rattle.sml_tree.specs.declared.ident.Tyvar.{Tyvar}
use Rattle.sml_tree.specs.declared.tree.Dec.{Dec}
use Rattle.sml_tree.specs.declared.tree.Exp.{Exp}
use Rattle.sml_tree.specs.declared.tree.Ty.{Ty}
use Rattle.sml_tree.specs.declared.tree.TypeBind.{TypeBind}
use Rattle.sml_grammar.specs.Answer.{Read, Answer, ok}
use Rattle.sml_grammar.specs.Terminals.{place_at}
use Rattle.sml_grammar.specs.Expressions.{DecStart, readers, dec_by}
use Rattle.mlc_names.specs.declared.token.Token.{Token}
use Rattle.module_tree.specs.ModuleBare.{bare_it}
use Rattle.phrase_base.specs.declared.source.Source.{Source}
use Rattle.phrase_base.specs.declared.stop.Stop.{Stop}
use Rattle.phrase_base.specs.Gives.{Gave, Gives}
use Rattle.phrase_base.specs.TypesRead as asked
use Rattle.sml_phrases.specs.TypesRead as types
use Rattle.sml_phrases.specs.BindingsRead as binds
use Rattle.sml_phrases.specs.ExpressionsRead.{IsExp}
use Rattle.sml_phrases.specs.DeclarationsRead as decs
use Rattle.str_phrases.specs.CoreRead.{IsCoreDec, IsIt, core_item, inner_core}

pub gives-as : {X A : Type 0} (Is As : X → Read A → Type 0) → ((x : X) (g : Read A) → Is x g → As x g) → (r : Result X Stop) (a : Answer A) → Gives Is r a → Gives As r a
gives-as Is As f (Ok x) a h = record { got = h.got; is = h.is; same = f x h.got h.same }
gives-as Is As f (Err e) a h = h

pub ty-as : (s : Source) (n : ℕ) (i : List Terminal) (t : Ty) (d : ℕ) (o : List Token) (g : Read read.Ty) → types.IsTy s n i t d o g → asked.IsTy s n i t d o g
ty-as s n i t d o g h = record { rest = h.rest; same = h.bare; depth = h.depth; fits = h.fits; shorter = h.shorter }

pub tyvars-as : (s : Source) (i : List Terminal) (as_ : List Tyvar) (d : ℕ) (o : List Token) (g : Read (List Tyvar)) → binds.IsTyvars s i as_ d o g → asked.IsTyvars s i as_ o g
tyvars-as s i as_ d o g h = record { rest = h.rest; same = h.same; shorter = h.shorter }

pub binds-as : (s : Source) (n : ℕ) (i : List Terminal) (bs : List TypeBind) (d : ℕ) (o : List Token) (g : Read (List read.TypeBind)) → binds.IsTypeBinds s n i bs d o g → asked.IsTypeBinds s n i bs d o g
binds-as s n i bs d o g h = record { rest = h.rest; same = h.bare; depth = h.depth; fits = h.fits; shorter = h.shorter }

item-as : (d : Option Dec) → decs.item_of d ≡ core_item dec_of d
item-as None = refl
item-as (Some d) = refl

pub dec-as : (f f' : Fixity) (s : Source) (n : ℕ) (i : List Terminal) (d : Option Dec) (e : ℕ) (o : List Token) (g : Read read.Dec) → decs.IsDec f f' s n i d e o g → IsCoreDec dec_of f f' s n i d e o g
dec-as f f' s n i d e o g h = record { rest = h.rest; same = sym (item-as d) ∙ h.same; depth = h.deep; fits = h.fits; shorter = h.shorter; force = h.force }

-- the two names of the reader of the declarations in a `local`
pub inner-as : (n : ℕ) (f : Fixity) (st : DecStart) → dec_by n (readers n).exp (decs.inner_decs n) f st ≡ dec_by n (readers n).exp (inner_core n) f st
inner-as zero f st = refl
inner-as (suc n) f st = refl

pub it-as : (it : ℕ) (s : Source) (n : ℕ) (i : List Terminal) (x : Exp) (e : ℕ) (o : List Token) (g : Read read.Exp) (p : Place) (d : Dec) → IsExp s n i x e o g → p ≡ at s.file (place_at i) →
    dec_of d ≡ bare.val_dec p p [] (bare.bind p (bare.vid_pat p (record { qualifiers = []; vid = Named it })) (exp_of x) bare.no_binds) bare.no_binds → IsIt dec_of it s n i d e o g
it-as it s n i x e o g p d h at1 made =
    let b = h.bare in let q = h.place in
    record { rest = h.rest; same = made ∙ rw (at1, b, q) refl; depth = h.deep; fits = h.fits; shorter = h.shorter }
