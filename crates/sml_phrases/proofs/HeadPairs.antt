-- The pair in the brackets of a head, once its patterns were read.
use Rattle.std.proofs.Common.{◌≡◌, ℕ, ◌-◌, ◌≤◌, List, Option, Some, None, refl, sym, subst}
use Rattle.std.specs.Prelude.{MatchOption}
use Rattle.mlc_names.specs.declared.token.Reserved.TheVariants.{LeftParen, RightParen}
use Rattle.mlc_base.specs.declared.place.Place.{Place}
use Rattle.mlc_names.specs.declared.token.Token.{Token}
use Rattle.sml_tree.specs.Terminal.{Terminal}
use Rattle.sml_tree.specs.ReadTree as read_tree
use Rattle.sml_tree.specs.ReadTree.{Placed}
use Rattle.sml_tree.specs.Fixity.{Fixity}
use Rattle.sml_tree.specs.Bare.{at, bare_pat}
use Rattle.sml_tree.specs.Depth.{depth_pat}
use Rattle.sml_tree.specs.TreeOf.{pat_of}
use Rattle.sml_tree.specs.declared.tree.Pat.{Pat}
use Rattle.sml_grammar.specs.Answer.{Read, ok}
use Rattle.sml_grammar.specs.Terminals.{place_at, after_word, infix_vid, taken}
use Rattle.sml_grammar.specs.Patterns.{read_atpat, Bracketed, bracketed}
use Rattle.phrase_base.specs.declared.source.Source.{Source}
use Rattle.sml_phrases.specs.declared.heads.Pair.{Pair}
use Rattle.phrase_base.specs.Left.{left}
use Rattle.sml_phrases.specs.HeadsRead.{IsPair}
use Rattle.sml_phrases.proofs.HeadForms.{again-some, none-close}

module _ (s : Source) (n : ℕ) (f : Fixity) (i m k : List Terminal) (y one : Read read_tree.Pat) (x : Placed ℕ) (first : Pat) (vp : Place) (placed : vp ≡ at s.file x.place) where
  -- what was found, or that no pair is there
  abbrev pub Found : Option Pair → Type 0
  Found r = MatchOption r (bracketed y.tree ≡ None) (λ pair. (b : Bracketed) × (bracketed y.tree ≡ Some b) × IsPair s pair i (depth_pat y.tree) b)

  pub pair-from : (second : Pat) (out : List Token) (two : Read read_tree.Pat) (r : Option Pair) → 2 ≤ n → read_atpat n f i ≡ ok y → after_word LeftParen i ≡ Some m → read_atpat (n - 2) f m ≡ ok one → pat_of first ≡ bare_pat s.file one.tree → infix_vid f one.rest ≡ taken x k →
      read_atpat (n - 2) f k ≡ ok two → pat_of second ≡ bare_pat s.file two.tree → left s out ≡ two.rest →
      MatchOption (after_word RightParen (left s out)) (r ≡ None) (λ (o : List Terminal). r ≡ Some (record { left = first; vid_place = vp; vid = x.it; right = second })) → Found r
  pair-from second out two r le h opens is bare joint is2 bare2 rest2 e = go (after_word RightParen (left s out)) refl e
    where
      go : (v : Option (List Terminal)) → after_word RightParen (left s out) ≡ v → MatchOption v (r ≡ None) (λ (o : List Terminal). r ≡ Some (record { left = first; vid_place = vp; vid = x.it; right = second })) → Found r
      go None q e = subst Found (sym e) (none-close n f i y h m opens one is x k joint two is2 (subst (λ (z : List Terminal). after_word RightParen z ≡ None) rest2 q))
      go (Some o) q e =
          let w = again-some n f i m k o y one two x le h opens is joint is2 (subst (λ (z : List Terminal). after_word RightParen z ≡ Some o) rest2 q) in
          subst Found (sym e) (record { place = place_at i; left = one.tree; vid = x; right = two.tree }, w.is, record { left_is = bare; right_is = bare2; vid_place = placed; vid = refl; place = refl; depth = w.depth })
