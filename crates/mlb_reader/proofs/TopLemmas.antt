-- Declarations of the core at a source's top, before the first other one.
use Rattle.std.proofs.Common.{◌≡◌, ◌+◌, ◌<◌, List, [], ◌∷◌, ◌++◌, length, map, take, drop, get_or, Option, Some, None, refl, ap, sym, ◌∙◌}
use Rattle.std.proofs.lemmas.List.{append-nil, drop_more, map-append, map-id, map_push, take-append-drop}
use Rattle.mlc_base.specs.declared.place.Place.{Place}
use Rattle.sml_tree.specs.BareTree.{Decs, no_decs, dec, Dec}
use Rattle.sml_tree.specs.TreeOf.{decs_of}
use Rattle.module_tree.specs.BareModules as bare
use Rattle.module_tree.specs.BareModules.{str_top, signature_top, functor_top, core_dec, structure_dec, local_str}
use Rattle.module_code.specs.TreeOf.{top_of}
use Rattle.module_code.specs.declared.sources.Top.{Top}
use Rattle.mlb_reader.specs.Parts.{Part}
use Rattle.mlb_reader.specs.Tops.{core_before, first_other, part_from, part_of_tops}

abbrev core_top : Dec → bare.Top
core_top d = str_top (core_dec d)

-- tops that are these declarations of the core, whatever those stand for
abbrev pub AreCores : {D : Type 0} → List (Top D) → List D → Type 0
AreCores {D} tops decs = (of : D → Dec) → map (top_of of) tops ≡ map core_top (map of decs)

-- what a front and a place say of tops
abbrev pub IsFront : List Dec → Option Place → List bare.Top → Type 0
IsFront ds other ts = (core_before ts ≡ decs_of ds) × (first_other ts ≡ other)

cores-decs : (ds : List Dec) (ts : List bare.Top) → core_before ts ≡ no_decs → core_before (map core_top ds ++ ts) ≡ decs_of ds
cores-decs [] ts e = e
cores-decs (d ∷ ds) ts e = ap (dec d) (cores-decs ds ts e)

cores-other : (ds : List Dec) (ts : List bare.Top) → first_other (map core_top ds ++ ts) ≡ first_other ts
cores-other [] ts = refl
cores-other (d ∷ ds) ts = cores-other ds ts

cores-front : (ds : List Dec) (ts all : List bare.Top) (other : Option Place) → all ≡ map core_top ds ++ ts → core_before ts ≡ no_decs → first_other ts ≡ other → IsFront ds other all
cores-front ds ts all other e none there = (ap core_before e ∙ cores-decs ds ts none, ap first_other e ∙ cores-other ds ts ∙ there)

-- a top that isn't of the core stands before all others
none-before : (t : bare.Top) (ts : List bare.Top) (p : Place) → first_other (t ∷ []) ≡ Some p → core_before (t ∷ ts) ≡ no_decs
none-before (str_top (core_dec d)) ts p e = absurd (let no : None ≡ Some p = e in cc)
none-before (str_top (structure_dec q bs)) ts p e = refl
none-before (str_top (local_str q ds es)) ts p e = refl
none-before (signature_top q bs) ts p e = refl
none-before (functor_top q bs) ts p e = refl

other-there : (t : bare.Top) (ts : List bare.Top) (p : Place) → first_other (t ∷ []) ≡ Some p → first_other (t ∷ ts) ≡ Some p
other-there (str_top (core_dec d)) ts p e = absurd (let no : None ≡ Some p = e in cc)
other-there (str_top (structure_dec q bs)) ts p e = e
other-there (str_top (local_str q ds es)) ts p e = e
other-there (signature_top q bs) ts p e = e
other-there (functor_top q bs) ts p e = e

pub front-part : (ds : Decs) (other : Option Place) (ts : List bare.Top) (part : Part) → core_before ts ≡ ds → first_other ts ≡ other → part ≡ part_from ds other → part ≡ part_of_tops ts
front-part ds other ts part d o e = e ∙ sym (ap (λ x. part_from x (first_other ts)) d ∙ ap (part_from ds) o)

module _ {D : Type 0} (of : D → Dec) (tops : List (Top D)) (decs : List D) (are : map (top_of of) tops ≡ map core_top (map of decs)) where
  -- one more of them
  pub cores-more : (top : Top D) (decs' : List D) (d : D) → decs' ≡ decs ++ d ∷ [] → top_of of top ≡ core_top (of d) → map (top_of of) (tops ++ top ∷ []) ≡ map core_top (map of decs')
  cores-more top decs' d more is =
      map_push (top_of of) tops top ∙ ap (λ z. map (top_of of) tops ++ z ∷ []) is ∙ ap (λ zs. zs ++ core_top (of d) ∷ []) are
      ∙ sym (ap (λ zs. map core_top (map of zs)) more ∙ ap (map core_top) (map_push of decs d) ∙ map_push core_top (map of decs) (of d))

  -- all tops are so
  pub front-end : (all : List (Top D)) → map (λ (t : Top D). t) tops ≡ all → IsFront (map of decs) None (map (top_of of) all)
  front-end all is =
      let whole : map (top_of of) all ≡ map core_top (map of decs) ++ [] = ap (map (top_of of)) (sym is ∙ map-id tops) ∙ are ∙ sym (append-nil (map core_top (map of decs))) in
      cores-front (map of decs) [] (map (top_of of) all) None whole refl refl

  -- the next one isn't
  pub front-cut : (all : List (Top D)) (top : Top D) (p : Place) → map (λ (t : Top D). t) tops ≡ take (length tops) all → length tops < length all → top ≡ get_or all (length tops) top → first_other (top_of of top ∷ []) ≡ Some p → IsFront (map of decs) (Some p) (map (top_of of) all)
  front-cut all top p front within at other =
      let n = length tops in
      let rest = drop (n + 1) all in
      let split : all ≡ tops ++ top ∷ rest = sym (take-append-drop n all) ∙ ap (λ zs. zs ++ drop n all) (sym front ∙ map-id tops) ∙ ap (λ zs. tops ++ zs) (drop_more all n top within ∙ ap (λ z. z ∷ rest) (sym at)) in
      let whole : map (top_of of) all ≡ map core_top (map of decs) ++ top_of of top ∷ map (top_of of) rest = ap (map (top_of of)) split ∙ map-append (top_of of) tops (top ∷ rest) ∙ ap (λ zs. zs ++ top_of of top ∷ map (top_of of) rest) are in
      cores-front (map of decs) (top_of of top ∷ map (top_of of) rest) (map (top_of of) all) (Some p) whole (none-before (top_of of top) (map (top_of of) rest) p other) (other-there (top_of of top) (map (top_of of) rest) p other)
