-- What a refusal tells of its cause.
use Rattle.std.proofs.Common.{◌≡◌, ◌∙◌, Some, ap, inl, inr, subst, sym}
use Rattle.std.specs.Prelude.{◌⊎◌}
use Rattle.std.specs.Bool.{⊤}
use Rattle.mlc_base.specs.declared.place.Place.{Place}
use Rattle.mlc_faults.specs.declared.code.Code.{Code}
use Rattle.mlc_faults.specs.declared.code.Code.TheVariants.{NoTyping, Restriction, Unbound}
use Rattle.mlc_faults.specs.declared.fault.Fault.{Fault}
use Rattle.elab_types.specs.declared.refused.Refused.TheVariants as cause
use Rattle.pat_elab.specs.declared.stopped.Stopped.{Stopped}
use Rattle.pat_elab.specs.declared.stopped.Stopped.TheVariants.{Refuses}
use Rattle.mlc_driver.specs.Fault.{IsThere, Tells, code_of}

abbrev is_unbound : Code → Type 0
is_unbound Unbound = ⊤
is_unbound _ = ⊥

abbrev is_restriction : Code → Type 0
is_restriction Restriction = ⊤
is_restriction _ = ⊥

-- a fault of another code tells neither
neither : (s : Stopped) (f : Fault) → ¬ (is_unbound f.code) → ¬ (is_restriction f.code) → Tells s f
neither s f u r = record { unbound = λ e. absurd (u (subst is_unbound (sym e) tt)); broken = λ e. absurd (r (subst is_restriction (sym e) tt)) }

untyped : (s : Stopped) (f : Fault) → f.code ≡ NoTyping → Tells s f
untyped s f e = neither s f (λ h. subst is_unbound e h) (λ h. subst is_restriction e h)

pub tells-unbound : (s : Stopped) (p : Place) (f : Fault) → s ≡ Refuses (cause.Unbound p) → IsThere Unbound p f → Tells s f
tells-unbound s p f e (inl h) = record { unbound = λ u. e ∙ ap (λ q. Refuses (cause.Unbound q)) (sym h.1); broken = λ r. absurd (subst is_unbound (sym h.0 ∙ r) tt) }
tells-unbound s p f e (inr n) = untyped s f n

pub tells-broken : (s : Stopped) (p : Place) (f : Fault) → s ≡ Refuses (cause.Broken p) → IsThere Restriction p f → Tells s f
tells-broken s p f e (inl h) = record { unbound = λ u. absurd (subst is_restriction (sym h.0 ∙ u) tt); broken = λ r. e ∙ ap (λ q. Refuses (cause.Broken q)) (sym h.1) }
tells-broken s p f e (inr n) = untyped s f n

-- the code is that of what elaboration answered

pub coded : (s : Stopped) (c : Code) (f : Fault) → code_of s ≡ Some c → f.code ≡ c → (code_of s ≡ Some f.code) ⊎ (f.code ≡ NoTyping)
coded s c f e h = inl (e ∙ ap Some (sym h))

pub coded-there : (s : Stopped) (c : Code) (p : Place) (f : Fault) → code_of s ≡ Some c → IsThere c p f → (code_of s ≡ Some f.code) ⊎ (f.code ≡ NoTyping)
coded-there s c p f e (inl h) = inl (e ∙ ap Some (sym h.0))
coded-there s c p f e (inr n) = inr n
