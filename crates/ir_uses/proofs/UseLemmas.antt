-- Uses, by what is known.
use Rattle.std.proofs.Common.{◌≡◌, ◌↔◌, ℕ, Bool, true, false, ◌&&◌, List, [], ◌∷◌, Option, Some, None, IsTrue, refl, sym, ap, ◌∙◌, subst}
use Rattle.std.proofs.lemmas.Bool.{and_parts, and_from}
use Rattle.std.specs.Option.{option_map}
use Rattle.ty_core.specs.Types.{Typ, var, typs_of}
use Rattle.ty_core.specs.Statics.{replace}
use Rattle.ty_core.specs.declared.scheme.Quantified.{Quantified}
use Rattle.ty_table.specs.TypeAt.{type_at}
use Rattle.ir_known.specs.of_ir_poly.Types.{all_over, admits_in, changed}
use Rattle.ir_known.specs.of_ir_poly.TestsChecked as clean
use Rattle.ir_known.specs.of_ir_tables.Tables.{parameters_at}
use Rattle.ir_known.specs.declared.known.Known.{Known}
use Rattle.ir_known.specs.declared.known.Known.TheVariants as known
use Rattle.ir_known.specs.Knows.{known_of}
use Rattle.prog_check.specs.Same.{same_type}
use Rattle.prog_check.specs.Deciding.{are_allowed, is_nil, is_own, is_use}
use Rattle.prog_check.proofs.SameLemmas.{type-same, same-since}
use Rattle.prog_check.proofs.DecidingLemmas.{are-allowed-sound, are-allowed-complete}
use Rattle.ir_uses.specs.Uses.{IsInstance, UseFits, has_type}
use Rattle.ir_uses.proofs.Deciding.{as-decided}

pub use-general : (D qs : List Quantified) (b : Typ) (ts : List Typ) (t : Typ) (answer : Bool) → IsTrue answer ↔ IsInstance D qs b ts t → IsTrue answer ↔ UseFits D (Some (clean.general qs var b)) ts t
use-general D qs b ts t answer w = ((λ y. let i = w.0 y in (refl, i.0, i.1, i.2)), (λ u. w.1 (u.1, u.2, u.3)))

nil-is : (ts : List Typ) → is_nil ts ≡ true → ts ≡ []
nil-is [] e = refl
nil-is (t ∷ ts) e = absurd (cc)

module _ (D : List Quantified) (types : List Typ) (ps : List (List Quantified)) (ts : List Typ) (t : Typ) where
  pub use-decided : (k : Option Known) (answer : Bool) → has_type (option_map (known_of types ps) k) ≡ true → IsTrue answer ↔ UseFits D (option_map (known_of types ps) k) ts t
      → answer ≡ is_use D ts t (option_map (known_of types ps) k)
  use-decided None answer h w = absurd (cc)
  use-decided (Some (known.OfType u)) answer h w = as-decided answer (is_nil ts && same_type t (type_at types u)) w
      (λ e. let a = and_parts (is_nil ts) _ e in (nil-is ts a.0, sym (type-same t (type_at types u) a.1)))
      (λ p. and_from _ _ (ap is_nil p.0) (same-since (sym p.1)))
  use-decided (Some (known.Own u)) answer h w = absurd (cc)
  use-decided (Some (known.Exception a)) answer h w = absurd (cc)
  use-decided (Some (known.General q u)) answer h w = as-decided answer (are_allowed (admits_in D) qs ts && (all_over D (typs_of ts) && same_type t (replace (changed qs ts var) (type_at types u)))) w
      (λ e. let a = and_parts (are_allowed (admits_in D) qs ts) _ e in let b = and_parts (all_over D (typs_of ts)) _ a.1 in
      (refl, are-allowed-sound (admits_in D) qs ts a.0, b.0, type-same t (replace (changed qs ts var) (type_at types u)) b.1))
      (λ p. and_from _ _ (are-allowed-complete (admits_in D) qs ts p.1) (and_from _ _ p.2 (same-since p.3)))
    where
      qs : List Quantified
      qs = parameters_at ps q

  pub no-use : (k : Option Known) → has_type (option_map (known_of types ps) k) ≡ false → false ≡ is_use D ts t (option_map (known_of types ps) k)
  no-use None h = refl
  no-use (Some (known.OfType u)) h = absurd (cc)
  no-use (Some (known.Own u)) h = refl
  no-use (Some (known.Exception a)) h = refl
  no-use (Some (known.General q u)) h = absurd (cc)

pub use-known : (types : List Typ) (ps : List (List Quantified)) (D : List Quantified) (k : Known) (q u : ℕ) (ts : List Typ) (t : Typ) (answer : Bool) → k ≡ known.General q u
    → IsTrue answer ↔ IsInstance D (parameters_at ps q) (type_at types u) ts t → IsTrue answer ↔ UseFits D (Some (known_of types ps k)) ts t
use-known types ps D k q u ts t answer e w = subst (λ z. IsTrue answer ↔ UseFits D (Some (known_of types ps z)) ts t) (sym e) (use-general D (parameters_at ps q) (type_at types u) ts t answer w)

pub own-decided : (types : List Typ) (ps : List (List Quantified)) (k : Option Known) (found : Known) (u : ℕ) (t : Typ) (answer : Bool) → k ≡ Some found → found ≡ known.Own u → IsTrue answer ↔ (t ≡ type_at types u)
    → answer ≡ is_own t (option_map (known_of types ps) k)
own-decided types ps k found u t answer e i w = as-decided answer (same_type t (type_at types u)) w (type-same t (type_at types u)) same-since ∙ sym (ap (λ o. is_own t (option_map (known_of types ps) o)) (e ∙ ap Some i))
