-- What is known of an exception.
use Rattle.std.proofs.Common.{◌≡◌, ◌↔◌, ℕ, Bool, false, List, Option, Some, None, IsTrue, sym, ap, ◌∙◌}
use Rattle.std.specs.Option.{option_map}
use Rattle.ty_core.specs.Types.{Typ}
use Rattle.ty_core.specs.declared.scheme.Quantified.{Quantified}
use Rattle.ty_table.specs.TypeAt.{type_at}
use Rattle.ir_known.specs.of_ir_poly.TestsChecked as clean
use Rattle.ir_known.specs.declared.known.Known.{Known}
use Rattle.ir_known.specs.Knows.{known_of}
use Rattle.prog_check.specs.Deciding.{known_argument}

argument-known : (o : Option clean.Known) (a : Option Typ) → known_argument o ≡ Some a → o ≡ Some (clean.exception a)
argument-known None a e = absurd (cc)
argument-known (Some (clean.of_type t)) a e = absurd (cc)
argument-known (Some (clean.general qs s t)) a e = absurd (cc)
argument-known (Some (clean.own t)) a e = absurd (cc)
argument-known (Some (clean.exception b)) a e = let same : b ≡ a = cc in ap (λ x. Some (clean.exception x)) same

some-is : {a b : Option Typ} → Some a ≡ Some b → a ≡ b
some-is e = cc

module _ (ts : List Typ) (ps : List (List Quantified)) (known : Option Known) (r : Option (Option ℕ)) where
  pub exception-known : (found argument : Option ℕ) (b : Bool) → known_argument (option_map (known_of ts ps) known) ≡ option_map (option_map (type_at ts)) r → r ≡ Some found
      → IsTrue b ↔ (option_map (type_at ts) found ≡ option_map (type_at ts) argument) → IsTrue b ↔ (option_map (known_of ts ps) known ≡ Some (clean.exception (option_map (type_at ts) argument)))
  exception-known found argument b e i w =
      let k : known_argument (option_map (known_of ts ps) known) ≡ Some (option_map (type_at ts) found) = e ∙ ap (option_map (option_map (type_at ts))) i in
      ((λ y. argument-known (option_map (known_of ts ps) known) (option_map (type_at ts) argument) (k ∙ ap Some (w.0 y))), (λ y. w.1 (some-is (sym k ∙ ap known_argument y))))

  pub exception-unknown : (argument : Option ℕ) → known_argument (option_map (known_of ts ps) known) ≡ option_map (option_map (type_at ts)) r → r ≡ None
      → IsTrue false ↔ (option_map (known_of ts ps) known ≡ Some (clean.exception (option_map (type_at ts) argument)))
  exception-unknown argument e i =
      let k : known_argument (option_map (known_of ts ps) known) ≡ None = e ∙ ap (option_map (option_map (type_at ts))) i in
      ((λ f. absurd (cc)), (λ y. absurd (let n : None ≡ Some (option_map (type_at ts) argument) = sym k ∙ ap known_argument y in cc)))
