-- Headings of clauses: what the parts' answers are for the whole.
use Rattle.std.proofs.Common.{◌≡◌, ℕ, true, false, List, length, map, max, Option, refl, sym, ap, ◌∙◌, subst, arith}
use Rattle.mlc_names.specs.declared.token.Token.{Token}
use Rattle.mlc_names.specs.declared.token.Reserved.TheVariants as res
use Rattle.sml_tree.specs.Terminal.{Terminal}
use Rattle.sml_tree.specs.Fixity.{Fixity}
use Rattle.sml_tree.specs.ReadTree as read_tree
use Rattle.sml_tree.specs.ReadTree.{Head, head_count}
use Rattle.sml_tree.specs.TreeOf.{pat_of}
use Rattle.sml_grammar.specs.Answer.{Read, Answer, ok, bad, read, then_read}
use Rattle.sml_grammar.specs.Terminals.{after_word}
use Rattle.sml_grammar.specs.Types.{maybe_ty}
use Rattle.sml_grammar.specs.Patterns.{read_head}
use Rattle.sml_grammar.specs.Expressions.{Shape, agrees}
use Rattle.sml_phrases.specs.declared.headings.Shape as headings
use Rattle.sml_phrases.specs.declared.headings.Heading as code
use Rattle.phrase_base.specs.declared.source.Source.{Source}
use Rattle.phrase_base.specs.declared.stop.Stop.{Stop}
use Rattle.phrase_base.specs.Gives.{Fails, Gave}
use Rattle.phrase_base.specs.Left.{left}
use Rattle.sml_phrases.specs.TypesRead.{IsMaybeTy}
use Rattle.sml_phrases.specs.HeadsRead.{IsHead}
use Rattle.sml_phrases.specs.declared.heads.Head as heads
use Rattle.sml_phrases.specs.DeclarationsRead.{HeadingRead, read_heading, shape_from, IsHeading}
use Rattle.phrase_base.proofs.Loop.{fails-then}

module _ (n : ℕ) (f : Fixity) (s : Option Shape) (i : List Terminal) (h : Read Head) (by : read_head n f i ≡ ok h) where
  pub heading-disagrees : agrees s h.tree ≡ false → read_heading n f s i ≡ bad
  heading-disagrees a = rw (by, a) refl

  agreed : agrees s h.tree ≡ true → read_heading n f s i ≡ then_read (maybe_ty n (after_word res.Colon h.rest) h.rest) (λ t o. read (record { head = h.tree; ty = t }) o)
  agreed a = rw (by, a) refl

  pub heading-fails : (e : Stop) → agrees s h.tree ≡ true → Fails e (maybe_ty n (after_word res.Colon h.rest) h.rest) → Fails e (read_heading n f s i)
  heading-fails e a x = subst (λ (z : Answer HeadingRead). Fails e z) (sym (agreed a)) (fails-then e (maybe_ty n (after_word res.Colon h.rest) h.rest) (λ t o. read (record { head = h.tree; ty = t }) o) x)

  pub heading-done : (src : Source) (shape : Option headings.Shape) (x : code.Heading) (head : heads.Head) (hd : ℕ) (ho : List Token) (d d' : ℕ) (o : List Token) (t : Read (Option read_tree.Ty)) → s ≡ shape_from shape → agrees s h.tree ≡ true →
      IsHead src n i head hd ho h → x.shape.place ≡ head.place → x.shape.vid_place ≡ head.vid_place → x.shape.vid ≡ head.vid → x.pats.items ≡ head.pats.items → x.shape.count ≡ head_count h.tree → maybe_ty n (after_word res.Colon h.rest) h.rest ≡ ok t → IsMaybeTy src n (left src ho) x.ty d o t → d' ≡ max hd d →
      Gave (λ (_ : Unit {0}) r. IsHeading shape src n i x d' o r) tt (read_heading n f s i)
  heading-done src shape x head hd ho d d' o t e a is1 p1 p4 p2 p3 count by2 is2 deeper =
      let d1 = is1.depth in let d2 = is2.depth in let f1 = is1.fits in let f2 = is2.fits in
      let l1 = is1.shorter in let l2 = is2.shorter in let l3 = ap (λ (z : List Terminal). length z) is1.rest in
      record {
        got = record { tree = record { head = h.tree; ty = t.tree }; rest = t.rest };
        is = agreed a ∙ rw by2 refl;
        same = record {
          rest = is2.rest;
          place = p1 ∙ is1.place;
          vid_place = p4 ∙ is1.vid_place;
          vid = p2 ∙ is1.vid;
          count = count;
          pats = ap (map pat_of) p3 ∙ is1.bare;
          ty = is2.bare;
          deep = omega (arith, deeper);
          fits = omega arith;
          shorter = omega arith;
          agrees = subst (λ (z : Option Shape). agrees z h.tree ≡ true) e a;
        };
      }
