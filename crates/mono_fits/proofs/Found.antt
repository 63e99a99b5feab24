-- The type that a checker finds.
use Rattle.std.proofs.Common.{◌≡◌, ◌↔◌, ℕ, Bool, true, false, ◌&&◌, List, [], ◌∷◌, Option, Some, None, option_and_then, nat_eq, cond, refl, sym, ap, ◌∙◌, subst}
use Rattle.std.proofs.lemmas.Bool.{eqb-true, and_parts, and_from}
use Rattle.ir_plain.specs.Tree.{Exp, ret, let_in, exception_in, name_in, rec_in, switch, first, miss, counted}
use Rattle.ir_mono.specs.Types.{Row}
use Rattle.ir_mono.specs.Mono.{mono}
use Rattle.ir_mono.specs.Typing.{of_type, exception, Sorts, group_sorts}
use Rattle.prog_check.proofs.SameLemmas.{same-number}
use Rattle.mono_fits.specs.Fits.{type_of, is_atom, is_new, name_argument, are_new, exp_fits, op_fits, funs_fit, if_so, with_found, type_found}
use Rattle.mono_fits.specs.Laws.{TypeIsRight}
use Rattle.mono_fits.proofs.Deciding.{some-is, given-sound, given-since, then-sound, if-true}

module _ (types : List Row) (exn : ℕ) where
  record IsSo (b : Bool) (o : Option ℕ) (t : ℕ) : Type 0 where
    so : b ≡ true
    is : o ≡ Some t

  if-so : (b : Bool) (o : Option ℕ) (t : ℕ) → if_so types exn b o ≡ Some t → IsSo b o t
  if-so true o t e = record { so = refl; is = e }
  if-so false o t e = absurd (cc)

  so-if : (b : Bool) (o : Option ℕ) (t : ℕ) → b ≡ true → o ≡ Some t → if_so types exn b o ≡ Some t
  so-if b o t e i = if-true b o None e ∙ i

  with-found : (f : ℕ → Bool) (o : Option ℕ) (t : ℕ) → with_found types exn f o ≡ Some t → IsSo (f t) o t
  with-found f None t e = absurd (cc)
  with-found f (Some u) t e = let s = if-so (f u) (Some u) t e in let same : u ≡ t = some-is s.is in record { so = subst (λ u. f u ≡ true) same s.so; is = s.is }

  found-with : (f : ℕ → Bool) (o : Option ℕ) (t : ℕ) → f t ≡ true → o ≡ Some t → with_found types exn f o ≡ Some t
  found-with f o t s i = ap (with_found types exn f) i ∙ so-if (f t) (Some t) t s refl

  found-fits : (G L : Sorts) (e : Exp (mono types)) (t : ℕ) → type_found types exn G L e ≡ Some t → exp_fits types exn false G L e t ≡ true
  found-fits G L (ret x) t p = given-since (type_of L x) (nat_eq t) t p (same-number t)
  found-fits G L (let_in x ps a o e) t p =
      let s = if-so (op_fits types exn G L o a && is_new G x) _ t p in
      let b = and_parts (op_fits types exn G L o a) _ s.so in
      and_from (op_fits types exn G L o a) _ b.0 (and_from (is_new G x) _ b.1 (found-fits ((x, of_type a) ∷ G) ((x, of_type a) ∷ L) e t s.is))
  found-fits G L (exception_in x i a e) t p = let s = if-so (is_new G x) _ t p in and_from (is_new G x) _ s.so (found-fits ((x, exception a) ∷ G) ((x, exception a) ∷ L) e t s.is)
  found-fits G L (name_in x y e) t p =
      let g = then-sound (name_argument types exn G y) (λ a. if_so types exn (is_new G x) (type_found types exn ((x, exception a) ∷ G) ((x, exception a) ∷ L) e)) t p in
      let s = if-so (is_new G x) _ t g.gives in
      given-since (name_argument types exn G y) (λ a. is_new G x && exp_fits types exn false ((x, exception a) ∷ G) ((x, exception a) ∷ L) e t) g.value g.is
      (and_from (is_new G x) _ s.so (found-fits ((x, exception g.value) ∷ G) ((x, exception g.value) ∷ L) e t s.is))
  found-fits G L (rec_in ps fs e) t p =
      let s = if-so (are_new types exn G fs && funs_fit types exn (group_sorts types fs G) fs) _ t p in
      let b = and_parts (are_new types exn G fs) _ s.so in
      and_from (are_new types exn G fs) _ b.0 (and_from (funs_fit types exn (group_sorts types fs G) fs) _ b.1 (found-fits (group_sorts types fs G) (group_sorts types fs L) e t s.is))
  found-fits G L (switch x u arms) t p = absurd (cc)
  found-fits G L (first e d) t p = let s = with-found (exp_fits types exn true G L e) _ t p in and_from (exp_fits types exn true G L e t) _ s.so (found-fits G L d t s.is)
  found-fits G L miss t p = absurd (cc)
  found-fits G L (counted k e) t p = found-fits G L e t p

  fits-found : (G L : Sorts) (e : Exp (mono types)) (t : ℕ) → exp_fits types exn false G L e t ≡ true → type_found types exn G L e ≡ Some t
  fits-found G L (ret x) t p = let g = given-sound (type_of L x) (nat_eq t) p in g.is ∙ ap Some (sym (eqb-true t g.value g.so))
  fits-found G L (let_in x ps a o e) t p =
      let b = and_parts (op_fits types exn G L o a) _ p in
      let d = and_parts (is_new G x) _ b.1 in
      so-if (op_fits types exn G L o a && is_new G x) _ t (and_from (op_fits types exn G L o a) _ b.0 d.0) (fits-found ((x, of_type a) ∷ G) ((x, of_type a) ∷ L) e t d.1)
  fits-found G L (exception_in x i a e) t p = let d = and_parts (is_new G x) _ p in so-if (is_new G x) _ t d.0 (fits-found ((x, exception a) ∷ G) ((x, exception a) ∷ L) e t d.1)
  fits-found G L (name_in x y e) t p =
      let g = given-sound (name_argument types exn G y) (λ a. is_new G x && exp_fits types exn false ((x, exception a) ∷ G) ((x, exception a) ∷ L) e t) p in
      let d = and_parts (is_new G x) _ g.so in
      ap (option_and_then (λ a. if_so types exn (is_new G x) (type_found types exn ((x, exception a) ∷ G) ((x, exception a) ∷ L) e))) g.is
      ∙ so-if (is_new G x) _ t d.0 (fits-found ((x, exception g.value) ∷ G) ((x, exception g.value) ∷ L) e t d.1)
  fits-found G L (rec_in ps fs e) t p =
      let b = and_parts (are_new types exn G fs) _ p in
      let d = and_parts (funs_fit types exn (group_sorts types fs G) fs) _ b.1 in
      so-if (are_new types exn G fs && funs_fit types exn (group_sorts types fs G) fs) _ t (and_from (are_new types exn G fs) _ b.0 d.0) (fits-found (group_sorts types fs G) (group_sorts types fs L) e t d.1)
  fits-found G L (switch x u arms) t p = absurd (cc)
  fits-found G L (first e d) t p = let b = and_parts (exp_fits types exn true G L e t) _ p in found-with (exp_fits types exn true G L e) _ t b.0 (fits-found G L d t b.1)
  fits-found G L miss t p = absurd (cc)
  fits-found G L (counted k e) t p = fits-found G L e t p

pub type-is-right : TypeIsRight
type-is-right types exn e t = (found-fits types exn [] [] e t, fits-found types exn [] [] e t)
