-- Lists with more behind them.
use Rattle.std.proofs.Common.{◌≡◌, ◌<◌, ℕ, zero, suc, List, [], ◌∷◌, ◌++◌, map, length, take, drop, get_or, Some, refl, sym, ap, ap₂, subst, ◌∙◌, arith}
use Rattle.std.specs.Prelude.{slice_get}
use Rattle.std.proofs.lemmas.List.{take-append-drop}
use Rattle.std.proofs.Math.Seq.{take-append_seam}
use Rattle.elab_state.specs.Steps.{Begins}

module _ {A : Type 0} where
  pub begins-push : (l new more : List A) → new ≡ l ++ more → Begins l new
  begins-push l new more e = subst (Begins l) (sym e) (take-append_seam l more)

  pub begins-split : (l m : List A) → Begins l m → m ≡ l ++ drop (length l) m
  begins-split l m e = sym (take-append-drop (length l) m) ∙ ap (λ k. k ++ drop (length l) m) e

  pub begins-get : (l m : List A) (k : ℕ) (x : A) → Begins l m → slice_get l k ≡ Some x → slice_get m k ≡ Some x
  begins-get [] m k x e h = cc
  begins-get (y ∷ l) [] k x e h = cc
  begins-get (y ∷ l) (z ∷ m) zero x e h = let a : z ≡ y = cc in ap Some a ∙ h
  begins-get (y ∷ l) (z ∷ m) (suc k) x e h = begins-get l m k x (let a : take (length l) m ≡ l = cc in a) h

  pub begins-index : (l m : List A) (k : ℕ) (d : A) → Begins l m → k < length l → get_or m k d ≡ get_or l k d
  begins-index [] m k d e h = absurd (omega arith)
  begins-index (y ∷ l) [] k d e h = cc
  begins-index (y ∷ l) (z ∷ m) zero d e h = cc
  begins-index (y ∷ l) (z ∷ m) (suc k) d e h = begins-index l m k d (let a : take (length l) m ≡ l = cc in a) (omega arith)

pub begins-map : {A B : Type 0} (f : A → B) (l m : List A) → Begins l m → Begins (map f l) (map f m)
begins-map f [] m e = refl
begins-map f (y ∷ l) [] e = cc
begins-map f (y ∷ l) (z ∷ m) e =
    let a : z ≡ y = cc in
    let b : take (length l) m ≡ l = cc in
    ap₂ (λ x k. x ∷ k) (ap f a) (begins-map f l m b)
