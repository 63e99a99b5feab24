-- Bindings of exceptions.
use Rattle.std.proofs.Common.{◌≡◌, ℕ, List, Option, Some, None, refl, arith}
use Rattle.mlc_base.specs.declared.place.Place.{Place}
use Rattle.mlc_names.specs.declared.token.Token.{Token}
use Rattle.mlc_names.specs.declared.token.Reserved.TheVariants as res
use Rattle.sml_tree.specs.Terminal.{Terminal}
use Rattle.sml_tree.specs.Fixity.{Fixity}
use Rattle.sml_tree.specs.Bare.{at}
use Rattle.sml_tree.specs.ReadTree as read_tree
use Rattle.sml_tree.specs.ReadTree.{new_exn, same_exn}
use Rattle.sml_grammar.specs.Answer.{Read, ok}
use Rattle.sml_tree.specs.TreeOf.{long_vid_of}
use Rattle.sml_tree.specs.declared.ident.Vid.{Vid}
use Rattle.sml_tree.specs.declared.ident.LongVid.{LongVid}
use Rattle.sml_tree.specs.declared.tree.Ty.{Ty}
use Rattle.sml_tree.specs.declared.tree.ExBind.{ExBind}
use Rattle.sml_tree.specs.declared.tree.ExBind.TheVariants.{New, Same}
use Rattle.sml_grammar.specs.Terminals.{taken, after_word, binds_vid, names_vid}
use Rattle.sml_grammar.specs.Types.{maybe_ty}
use Rattle.sml_grammar.proofs.Vids.{binds-is, binds-shorter, names-is, names-shorter}
use Rattle.phrase_base.specs.declared.source.Source.{Source}
use Rattle.phrase_base.specs.Gives.{Gave}
use Rattle.phrase_base.specs.Left.{left}
use Rattle.sml_phrases.specs.VidPlace.{vid_place}
use Rattle.sml_phrases.specs.TypesRead.{IsMaybeTy}
use Rattle.sml_phrases.specs.BindingsRead.{IsExBind, read_ex_bind}
use Rattle.phrase_base.proofs.Shorter.{word-shorter}

module _ (s : Source) (n : ℕ) (f : Fixity) (i m : List Terminal) (p : Place) (v : Vid) where
  pub ex-same : (k : List Terminal) (q : Place) (x : LongVid) (o : List Token) → binds_vid f i ≡ taken (record { place = vid_place i; it = v }) m → after_word res.Equals m ≡ Some k →
      names_vid f k ≡ taken (record { place = vid_place k; it = long_vid_of x }) (left s o) → p ≡ at s.file (vid_place i) → q ≡ at s.file (vid_place k) → Gave (λ (b : ExBind) r. IsExBind s n i b 0 o r) (Same p v q x) (read_ex_bind n f i)
  ex-same k q x o h h2 h3 e e2 =
      let a = binds-shorter (binds-is f i (record { place = vid_place i; it = v }) m h) in
      let b = word-shorter res.Equals m k h2 in
      let c = names-shorter (names-is f k (record { place = vid_place k; it = long_vid_of x }) (left s o) h3) in
      record {
        got = record { tree = same_exn (vid_place i) v (record { place = vid_place k; it = long_vid_of x }); rest = left s o };
        is = rw (h, h2, h3) refl;
        same = record { rest = refl; bare = rw (e, e2) refl; depth = refl; fits = omega arith; shorter = omega arith };
      }

  pub ex-new : (t : Option Ty) (d : ℕ) (o : List Token) → binds_vid f i ≡ taken (record { place = vid_place i; it = v }) m → after_word res.Equals m ≡ None → p ≡ at s.file (vid_place i) →
      (got : Read (Option read_tree.Ty)) → maybe_ty n (after_word res.Of m) m ≡ ok got → IsMaybeTy s n m t d o got → Gave (λ (b : ExBind) r. IsExBind s n i b d o r) (New p v t) (read_ex_bind n f i)
  ex-new t d o h h2 e got h3 is =
      let a = binds-shorter (binds-is f i (record { place = vid_place i; it = v }) m h) in
      let b = is.shorter in let w = is.bare in
      record {
        got = record { tree = new_exn (vid_place i) v got.tree; rest = got.rest };
        is = rw (h, h2, h3) refl;
        same = record { rest = is.rest; bare = rw (e, w) refl; depth = is.depth; fits = is.fits; shorter = omega arith };
      }
