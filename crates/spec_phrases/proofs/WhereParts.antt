-- What one `where type` binds, from its parts.
use Rattle.std.proofs.Common.{◌≡◌, ℕ, List, length, Some, refl, sym, ap, ◌∙◌, subst, arith}
use Rattle.mlc_names.specs.declared.token.Reserved.TheVariants as res
use Rattle.mlc_names.specs.declared.token.Token.{Token}
use Rattle.sml_tree.specs.Terminal.{Terminal, LongId}
use Rattle.sml_tree.specs.Bare.{at}
use Rattle.sml_tree.specs.ReadTree as read_tree
use Rattle.sml_tree.specs.ReadTree.{Placed}
use Rattle.sml_tree.specs.declared.ident.Tyvar.{Tyvar}
use Rattle.sml_tree.specs.declared.tree.Ty.{Ty}
use Rattle.sml_tree.specs.declared.tree.LongIdAt.{LongIdAt}
use Rattle.sml_tree.specs.TreeOf.{ty_of, long_id_at_of}
use Rattle.sml_grammar.specs.Answer.{Read, ok}
use Rattle.sml_grammar.specs.Terminals.{place_at, first_as, as_long_tycon, after_word}
use Rattle.sml_grammar.specs.Types.{read_ty}
use Rattle.sml_grammar.specs.Bindings.{read_tyvars, tyvars_place}
use Rattle.sml_grammar.proofs.Answers.{then_taken-ok, got}
use Rattle.module_code.specs.declared.signatures.WhereType.{WhereType}
use Rattle.phrase_base.specs.declared.source.Source.{Source}
use Rattle.phrase_base.specs.Gives.{Gave}
use Rattle.phrase_base.specs.Left.{left}
use Rattle.phrase_base.specs.TypesRead.{IsTy, IsTyvars}
use Rattle.phrase_base.proofs.Shorter.{word-shorter}
use Rattle.spec_phrases.specs.ListsRead.{read_tycon, IsTycon, where_of, read_where, IsWhere}

module _ (s : Source) (n : ℕ) (i j l : List Terminal) (o1 o2 o : List Token) (w1 : after_word res.TypeWord i ≡ Some j) (vs : List Tyvar) (gv : Read (List Tyvar)) (hv : read_tyvars j ≡ ok gv) (iv : IsTyvars s j vs o1 gv)
    (c : LongIdAt) (dc : ℕ) (gc : Read (Placed LongId)) (hc : read_tycon (left s o1) ≡ ok gc) (ic : IsTycon s (left s o1) c dc o2 gc) (w2 : after_word res.Equals (left s o2) ≡ Some l)
    (t : Ty) (d : ℕ) (gt : Read read_tree.Ty) (ht : read_ty n 0 l ≡ ok gt) (it : IsTy s n l t d o gt) where
  pub where-one : (w : WhereType) → where_of w ≡ record { place = at s.file (place_at i); tyvars_place = at s.file (tyvars_place (place_at i) j vs); tyvars = vs; tycon = long_id_at_of c; ty = ty_of t } →
      Gave (λ (x : WhereType) r. IsWhere s n i x d o r) w (read_where n i)
  where-one w made =
      let a = then_taken-ok (first_as as_long_tycon (left s o1)) _ gc hc in
      let b : record { tree = a.0; rest = a.1 } ≡ gc = got a.3 in
      let e : first_as as_long_tycon gv.rest ≡ _ = ap (first_as as_long_tycon) (sym iv.rest) ∙ a.2 in
      let k : a.1 ≡ left s o2 = ap (λ (z : Read (Placed LongId)). z.rest) b ∙ sym ic.rest in
      let x : a.0 ≡ gc.tree = ap (λ (z : Read (Placed LongId)). z.tree) b in
      let u : after_word res.Equals a.1 ≡ Some l = subst (λ (z : List Terminal). after_word res.Equals z ≡ Some l) (sym k) w2 in
      let l1 = word-shorter res.TypeWord i j w1 in let l2 = word-shorter res.Equals (left s o2) l w2 in
      let l3 = iv.shorter in let l4 = ic.shorter in let l5 = it.shorter in
      let l6 = ap (λ (z : List Terminal). length z) iv.rest in let l7 = ap (λ (z : List Terminal). length z) ic.rest in
      let p1 = iv.same in let p2 = ic.same in let p3 = it.same in
      record {
        got = record { tree = record { place = place_at i; tyvars_place = tyvars_place (place_at i) j gv.tree; tyvars = gv.tree; tycon = a.0; ty = gt.tree }; rest = gt.rest };
        is = rw (w1, hv, e, u, ht) refl;
        same = record { rest = it.rest; same = made ∙ rw (p1, p2, p3, x) refl; depth = it.depth; fits = it.fits; shorter = omega arith };
      }
