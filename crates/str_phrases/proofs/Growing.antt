-- Lists of what two functions say of other lists, one element longer.
use Rattle.std.proofs.Common.{◌≡◌, List, [], ◌∷◌, ◌++◌, map, sym, ap, ◌∙◌}
use Rattle.std.proofs.lemmas.List.{map_push}
use Rattle.sml_tree.specs.BareTree.{Dec}
use Rattle.module_tree.specs.BareModules as bare
use Rattle.module_code.specs.TreeOf.{str_dec_of}
use Rattle.module_code.specs.declared.structures.StrDec.{StrDec}

module _ {A C : Type 0} (f : A → C) (xs xs2 : List A) (x : A) (p : xs2 ≡ xs ++ x ∷ []) where
  pub longer-map : (y : C) → f x ≡ y → map f xs2 ≡ map f xs ++ y ∷ []
  longer-map y e = ap (map f) p ∙ map_push f xs x ∙ ap (λ (z : C). map f xs ++ z ∷ []) e

  pub longer-maps : {B : Type 0} (g : B → C) (ys : List B) (y : B) → map f xs ≡ map g ys → f x ≡ g y → map f xs2 ≡ map g (ys ++ y ∷ [])
  longer-maps g ys y h e = longer-map (g y) e ∙ ap (λ (z : List C). z ++ g y ∷ []) h ∙ sym (map_push g ys y)

-- declarations of structures that stand for these declarations of the core, whatever those stand for
abbrev pub Cores : {D : Type 0} → List (StrDec D) → List D → Type 0
Cores {D} made decs = (of : D → Dec) → map (str_dec_of of) made ≡ map (λ d. bare.core_dec (of d)) decs
