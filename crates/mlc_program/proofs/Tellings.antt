-- Lines sent in parts.
use Rattle.std.proofs.Common.{◌≡◌, ℕ, zero, suc, ◌+◌, ◌≤◌, List, [], ◌∷◌, ◌++◌, take, length, Option, None, Some, refl, ap, sym, ◌∙◌, arith, append_assoc}
use Rattle.std.proofs.Math.Seq.{take-append-add}
use Rattle.mlc_outside.specs.Faults.{Rose}
use Rattle.mlc_outside.specs.Sink.{adds, TookAll, TookPart, WasPut}
use Rattle.mlc_outside.specs.declared.sink.Put.{Put}
use Rattle.mlc_outside.specs.declared.sink.Put.TheVariants.{Done, Failed}
use Rattle.mlc_program.specs.Statuses.{Told}

adds-adds : (o : Option (List ℕ)) (a b : List ℕ) → adds (adds o a) b ≡ adds o (a ++ b)
adds-adds None a b = refl
adds-adds (Some w) a b = ap Some (append_assoc w a b)

rose-after : (a b c : ℕ) → a ≤ b → Rose b c → Rose a c
rose-after a b c le rose = grind arith

front-take : (k : ℕ) (a b : List ℕ) → (m : ℕ) × (take k a ≡ take m (a ++ b))
front-take zero a b = (0, refl)
front-take (suc k) [] b = (0, refl)
front-take (suc k) (x ∷ a) b = let r = front-take k a b in (suc r.0, ap (λ t. x ∷ t) r.1)

-- the first part was cut off
pub told_first : (a b : List ℕ) (old new : Option (List ℕ)) (before after : ℕ) → TookPart a old new before after → Told (a ++ b) old new before after
told_first a b old new before after t =
    let m = front-take t.taken a b in
    (Failed, record { taken = m.0; wrote = t.wrote ∙ ap (adds old) m.1; rose = t.rose; kept = t.kept })

-- the first part was taken, and of the second what its answer says
pub told_both : (a b : List ℕ) (old mid new : Option (List ℕ)) (before between after : ℕ) (put : Put) → TookAll a old mid before between → WasPut put b mid new between after → Told (a ++ b) old new before after
told_both a b old mid new before between after Done first second =
    (Done, record { wrote = second.wrote ∙ ap (λ o. adds o b) first.wrote ∙ adds-adds old a b; kept = omega (arith, first.kept, second.kept) })
told_both a b old mid new before between after Failed first second =
    (Failed, record { taken = length a + second.taken; wrote = second.wrote ∙ ap (λ o. adds o (take second.taken b)) first.wrote ∙ adds-adds old a (take second.taken b) ∙ ap (adds old) (sym (take-append-add a b second.taken)); rose = rose-after before between after first.kept second.rose; kept = omega (arith, first.kept, second.kept) })
