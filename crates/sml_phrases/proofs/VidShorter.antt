-- An identifier takes a terminal or more.
use Rattle.std.proofs.Common.{◌≡◌, ℕ, ◌<◌, List, [], length, Option, Some, None, refl, sym, ap, ◌∙◌, arith}
use Rattle.mlc_names.specs.declared.token.Reserved.TheVariants as res
use Rattle.sml_tree.specs.Terminal.{Terminal, LongVid}
use Rattle.sml_tree.specs.Fixity.{Fixity, fix_of}
use Rattle.sml_tree.specs.ReadTree.{Placed}
use Rattle.sml_tree.specs.declared.fixity.Infix.{Infix}
use Rattle.sml_tree.specs.declared.ident.Vid.{Vid}
use Rattle.sml_tree.specs.declared.ident.Vid.TheVariants.{Named}
use Rattle.sml_grammar.specs.Terminals.{Taken, taken, first_as, as_any_vid, as_any_long, as_qualified, as_vid, long_named_if, named_if, after_word, binds_vid, names_vid, plain_vid, plain_from, plain_if, infix_vid, infix_from, infix_if}
use Rattle.phrase_base.proofs.Shorter.{first-shorter, word-shorter}
use Rattle.sml_phrases.proofs.VidForms.{binds-op, binds-plain, names-op, names-plain}

rest_of : {B : Type 0} → Option (Taken B) → List Terminal
rest_of (Some x) = x.rest
rest_of None = []

module _ {B : Type 0} where
  pub same-rest : {x y : B} {m o : List Terminal} → taken x m ≡ taken y o → m ≡ o
  unfolding rest_of
  same-rest h = ap rest_of h

pub plain-shorter : (f : Fixity) (i : List Terminal) (x : Placed ℕ) (o : List Terminal) → plain_vid f i ≡ taken x o → length o < length i
plain-shorter f i x o h = go (first_as as_vid i) refl h
  where
    then : (t : Taken (Placed ℕ)) (d : Option Infix) → first_as as_vid i ≡ Some t → plain_if t.it t.rest d ≡ taken x o → length o < length i
    then t None q e = let r : t.rest ≡ o = same-rest e in let r2 = ap length r in let k = first-shorter as_vid i t.it t.rest q in omega arith
    then t (Some d) q e = absurd (cc)

    go : (y : Option (Taken (Placed ℕ))) → first_as as_vid i ≡ y → plain_from f y ≡ taken x o → length o < length i
    go (Some t) q e = then t (fix_of (Named t.it.it) f) q e
    go None q e = absurd (cc)

pub infix-shorter : (f : Fixity) (i : List Terminal) (x : Placed ℕ) (o : List Terminal) → infix_vid f i ≡ taken x o → length o < length i
infix-shorter f i x o h = go (first_as as_vid i) refl h
  where
    then : (t : Taken (Placed ℕ)) (d : Option Infix) → first_as as_vid i ≡ Some t → infix_if t.it t.rest d ≡ taken x o → length o < length i
    then t (Some d) q e = let r : t.rest ≡ o = same-rest e in let r2 = ap length r in let k = first-shorter as_vid i t.it t.rest q in omega arith
    then t None q e = absurd (cc)

    go : (y : Option (Taken (Placed ℕ))) → first_as as_vid i ≡ y → infix_from f y ≡ taken x o → length o < length i
    go (Some t) q e = then t (fix_of (Named t.it.it) f) q e
    go None q e = absurd (cc)

pub binds-shorter : (f : Fixity) (i : List Terminal) (x : Placed Vid) (o : List Terminal) → binds_vid f i ≡ taken x o → length o < length i
binds-shorter f i x o h = go (after_word res.Op i) refl
  where
    plain : (y : Option (Taken (Placed ℕ))) → plain_vid f i ≡ y → named_if y ≡ taken x o → length o < length i
    plain (Some t) q e = let r : t.rest ≡ o = same-rest e in let r2 = ap length r in let k = plain-shorter f i t.it t.rest q in omega arith
    plain None q e = absurd (cc)

    go : (y : Option (List Terminal)) → after_word res.Op i ≡ y → length o < length i
    go (Some m) q = let a = word-shorter res.Op i m q in let b = first-shorter as_any_vid m x o (sym (binds-op f i m q) ∙ h) in omega arith
    go None q = plain (plain_vid f i) refl (sym (binds-plain f i q) ∙ h)

pub names-shorter : (f : Fixity) (i : List Terminal) (x : Placed LongVid) (o : List Terminal) → names_vid f i ≡ taken x o → length o < length i
names-shorter f i x o h = go (after_word res.Op i) refl
  where
    plain : (y : Option (Taken (Placed ℕ))) → plain_vid f i ≡ y → long_named_if (first_as as_qualified i) y ≡ taken x o → length o < length i
    plain (Some t) q e = let r : t.rest ≡ o = same-rest e in let r2 = ap length r in let k = plain-shorter f i t.it t.rest q in omega arith
    plain None q e = first-shorter as_qualified i x o e

    go : (y : Option (List Terminal)) → after_word res.Op i ≡ y → length o < length i
    go (Some m) q = let a = word-shorter res.Op i m q in let b = first-shorter as_any_long m x o (sym (names-op f i m q) ∙ h) in omega arith
    go None q = plain (plain_vid f i) refl (sym (names-plain f i q) ∙ h)
