-- A substitution says no more than it says.
use Rattle.std.proofs.Common.{◌≡◌, refl, ap, ◌∙◌}
use mathlib.Core.Logic.{inl}
use Rattle.ty_solve.specs.Substitution.{Entry, free, bound, row}
use Rattle.ty_solve.specs.Forces.{Problem, Forces, Has, Records, Asks, Strict, ForcedAt, IsForced}

pub starts-forced : (p : Problem) → IsForced p p.before
starts-forced p v = (go (p.before v) refl, inl refl)
  where
    go : (e : Entry) → p.before v ≡ e → ForcedAt p v e
    go (free k) h = Asks.marked v k h
    go (bound t) h = Forces.stands v t h
    go (row e ks us) h = record {
      is_record = Records.known v e ks us h;
      has = λ l u a. Has.known v e ks us l u h a;
      strict = λ i. Strict.known v ks us (h ∙ ap (λ y. row y ks us) i);
    }
