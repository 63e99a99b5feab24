-- Specifications that are lists of identifiers, or of type constructors.
use Rattle.std.proofs.Common.{◌≡◌, ℕ, ◌<◌, List, [], ◌∷◌, map, Some, true, nat_le, refl, sym, ap, ◌∙◌, arith}
use Rattle.std.proofs.lemmas.Bool.{le-leb}
use Rattle.mlc_base.specs.declared.place.Place.{Place}
use Rattle.mlc_names.specs.declared.token.Reserved.TheVariants as res
use Rattle.mlc_names.specs.declared.token.Token.{Token}
use Rattle.sml_tree.specs.Bare.{at}
use Rattle.sml_tree.specs.ReadTree.{Placed}
use Rattle.sml_tree.specs.Terminal.{Terminal, LongId}
use Rattle.sml_tree.specs.TreeOf.{long_id_at_of}
use Rattle.sml_tree.specs.declared.tree.LongIdAt.{LongIdAt}
use Rattle.sml_grammar.specs.Answer.{Read, ok}
use Rattle.sml_grammar.specs.Terminals.{taken, first_as, as_long_tycon, after_word, place_at}
use Rattle.module_tree.specs.BareModules as bare
use Rattle.module_tree.specs.ReadModules.{include_ids, sharing_spec}
use Rattle.module_tree.specs.ModuleBare.{id_at}
use Rattle.module_code.specs.TreeOf.{id_at_of, spec_of}
use Rattle.module_code.specs.declared.signatures.IdAt.{IdAt}
use Rattle.module_code.specs.declared.signatures.Spec.{Spec}
use Rattle.module_grammar.specs.Signatures.{as_module_id, sharing_form}
use Rattle.phrase_base.specs.declared.source.Source.{Source}
use Rattle.phrase_base.specs.Gives.{Gave}
use Rattle.phrase_base.proofs.Shorter.{first-shorter, word-shorter}
use Rattle.spec_phrases.specs.FormsRead.{IsSpec}
use Rattle.spec_phrases.specs.ListsRead.{read_ids, IsIds, read_tycons, IsTycons}
use Rattle.sig_phrases.specs.SigsRead.{ids_form}

map-map : {A B C : Type 0} (f : A → B) (g : B → C) (xs : List A) → map g (map f xs) ≡ map (λ x. g (f x)) xs
map-map f g [] = refl
map-map {C} f g (x ∷ xs) = ap (λ (z : List C). g (f x) ∷ z) (map-map f g xs)

abbrev included : Place → bare.IdAt → bare.Spec
included p x = bare.include_spec p (bare.sig_id x)

pub ids-done : (s : Source) (n p : ℕ) (i m : List Terminal) (x : ℕ) (q place : Place) (xs : List IdAt) (d : ℕ) (o : List Token) (got : Read (List (Placed ℕ))) (t : Spec) → 0 < n → first_as as_module_id i ≡ taken (record { place = place_at i; it = x }) m →
    read_ids m ≡ ok got → IsIds s m xs d o got → q ≡ at s.file (place_at i) → place ≡ at s.file p → spec_of t ≡ map (λ y. bare.include_spec place (bare.sig_id (id_at_of y))) (record { place = q; id = x } ∷ xs) →
    Gave (λ (y : Spec) r. IsSpec s n i y 1 o r) t (ids_form n p i)
ids-done s n p i m x q place xs d o got t pos h by is at1 at2 made =
    let w : nat_le 1 n ≡ true = le-leb 1 n (omega arith) in
    let l1 = first-shorter as_module_id i (record { place = place_at i; it = x }) m h in let l2 = is.shorter in
    let same : map (λ y. bare.include_spec place (bare.sig_id (id_at_of y))) xs ≡ map (λ y. bare.include_spec place (bare.sig_id (id_at s.file y))) got.tree =
    sym (map-map id_at_of (included place) xs) ∙ ap (map (included place)) is.same ∙ map-map (id_at s.file) (included place) got.tree in
    record {
      got = record { tree = include_ids p (record { place = place_at i; it = x } ∷ got.tree); rest = got.rest };
      is = rw (w, h, by) refl;
      same = record { rest = is.rest; same = made ∙ rw (same, at1, at2) refl; depth = refl; fits = omega arith; shorter = omega arith };
    }

pub sharing-done : (s : Source) (n p : ℕ) (i m k j : List Terminal) (c : LongId) (x : LongIdAt) (place : Place) (xs : List LongIdAt) (d : ℕ) (o : List Token) (got : Read (List (Placed LongId))) (t : Spec) → after_word res.TypeWord i ≡ Some m →
    first_as as_long_tycon m ≡ taken (record { place = place_at m; it = c }) k → after_word res.Equals k ≡ Some j → read_tycons j ≡ ok got → IsTycons s j xs d o got → long_id_at_of x ≡ record { place = at s.file (place_at m); long = c } → place ≡ at s.file p →
    spec_of t ≡ bare.sharing_spec place (map long_id_at_of (x ∷ xs)) ∷ [] → Gave (λ (y : Spec) r. IsSpec s n i y 0 o r) t (sharing_form p i)
sharing-done s n p i m k j c x place xs d o got t w1 h w2 by is at1 at2 made =
    let l0 = word-shorter res.TypeWord i m w1 in
    let l1 = first-shorter as_long_tycon m (record { place = place_at m; it = c }) k h in let l2 = word-shorter res.Equals k j w2 in let l3 = is.shorter in
    let e = is.same in
    record {
      got = record { tree = sharing_spec p (record { place = place_at m; it = c } ∷ got.tree); rest = got.rest };
      is = rw (w1, h, w2, by) refl;
      same = record { rest = is.rest; same = made ∙ rw (e, at1, at2) refl; depth = refl; fits = omega arith; shorter = omega arith };
    }
