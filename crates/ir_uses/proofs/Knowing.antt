-- What is known of a variable, by number and in the words of the typing.
use Rattle.std.proofs.Common.{◌≡◌, ℕ, Bool, true, false, List, [], ◌∷◌, Some, nat_eq, cond, refl}
use Rattle.std.specs.Option.{option_map}
use Rattle.std.specs.Map.{lookup}
use Rattle.ty_core.specs.Types.{Typ}
use Rattle.ty_core.specs.declared.scheme.Quantified.{Quantified}
use Rattle.ir_known.specs.of_ir_poly.TestsChecked as clean
use Rattle.ir_known.specs.declared.known.Known.{Known}
use Rattle.ir_known.specs.Knows.{known_of, knowns_of}

pub at-knowns : (ts : List Typ) (ps : List (List Quantified)) (rows : List (ℕ × Known)) (x : ℕ) → clean.at (knowns_of ts ps rows) x ≡ option_map (known_of ts ps) (lookup (nat_eq x) rows)
at-knowns ts ps [] x = refl
at-knowns ts ps (r ∷ rows) x = by (nat_eq x r.0) (at-knowns ts ps rows x)
  where
    by : (b : Bool) → clean.at (knowns_of ts ps rows) x ≡ option_map (known_of ts ps) (lookup (nat_eq x) rows)
        → cond b (Some (known_of ts ps r.1)) (clean.at (knowns_of ts ps rows) x) ≡ option_map (known_of ts ps) (cond b (Some r.1) (lookup (nat_eq x) rows))
    by true e = refl
    by false e = e
