-- Names that are bound for a while, and what is made meanwhile.
use Rattle.std.proofs.Common.{◌≡◌, ◌-◌, ℕ, List, [], ◌∷◌, length, drop, ap, ◌∙◌}
use Rattle.match_compile.specs.Compile.{Spots, spot, spots_named, named, Names}
use Rattle.match_names.specs.Bindings.{names_of}
use Rattle.general_bindings.specs.of_match_types.Views.{View, value_type}
use Rattle.general_bindings.specs.of_pattern_tests.Spots.{spots_onto, names_onto}
use Rattle.general_bindings.specs.of_pattern_tests.declared.spots.Spot.{Spot}
use Rattle.general_bindings.specs.of_exp_blocks.Giving.{Ends}
use Rattle.general_bindings.proofs.of_exp_blocks.Growing.{ends-more}

-- what was bound is taken back
pub names-back : (old now back : List (ℕ × ℕ)) (len : ℕ) → len ≡ length old → Ends old now → back ≡ drop (length now - len) now → back ≡ old
names-back old now back len e p b = b ∙ ap (λ n. drop (length now - n) now) e ∙ p.ends

-- the variables of spots
pub spots-bound : (v : View) (ss : List Spot) (us : Spots) (N : Names) (l : List (ℕ × ℕ)) → names_of l ≡ spots_named us N → names_of (names_onto ss l) ≡ spots_named (spots_onto v ss us) N
spots-bound v [] us N l e = e
spots-bound v (s ∷ ss) us N l e = spots-bound v ss (spot s.variable s.number (value_type v s.ty) us) N ((s.variable, s.number) ∷ l) (ap (named s.variable s.number) e)

pub spots-end : (ss : List Spot) (old l : List (ℕ × ℕ)) → Ends old l → Ends old (names_onto ss l)
spots-end [] old l e = e
spots-end (s ∷ ss) old l e = spots-end ss old ((s.variable, s.number) ∷ l) (ends-more (s.variable, s.number) old l e)
