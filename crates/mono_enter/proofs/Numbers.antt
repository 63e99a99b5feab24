-- Types that are known have the numbers that are looked up.
use Rattle.std.proofs.Common.{◌≡◌, ℕ, List, [], ◌∷◌, Option, refl, ap, ap₂, ◌∙◌}
use Rattle.ty_core.specs.Types.{Typ, var, con, Typs, none, more}
use Rattle.ty_table.specs.TypeAt.{type_at}
use Rattle.ir_mono.specs.Types.{Row, node}
use Rattle.monomorphise.specs.Simple.{nth_part}
use Rattle.monomorphise.specs.Table.{or_unit, position, number_in, numbers_in}
use Rattle.mono_place.specs.Placing.{IsPlaced, placed_var, placed_con, ArePlaced, placed_none, placed_more}
use Rattle.mono_enter.specs.Entering.{Knows, HaveNumbers}

module _ (types : List Row) where
  mutual
    type-number : (t : Typ) (n : ℕ) → IsPlaced (nth_part []) types t n → number_in types t ≡ n
    type-number (var v) n placed_var = refl
    type-number (con h ts) n (placed_con {ns = ns} ps e) = ap (λ l. or_unit (position (node h l) types)) (type-numbers ts ns ps) ∙ ap or_unit e

    type-numbers : (ts : Typs) (ns : List ℕ) → ArePlaced (nth_part []) types ts ns → numbers_in types ts ≡ ns
    type-numbers none [] placed_none = refl
    type-numbers none (n ∷ ns) p = elim p [ ]
    type-numbers (more t ts) [] p = elim p [ ]
    type-numbers (more t ts) (n ∷ ns) (placed_more p ps) = ap₂ (λ m ms. m ∷ ms) (type-number t n p) (type-numbers ts ns ps)

pub known-number : (closed : List Typ) (known : ℕ → Option ℕ) (types : List Row) → Knows closed known types → HaveNumbers closed known types
known-number closed known types h k n e = type-number types (type_at closed k) n (h k n e)
