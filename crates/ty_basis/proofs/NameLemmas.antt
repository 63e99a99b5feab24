-- The names, one by one.
use Rattle.std.proofs.Common.{ℕ, suc, zero, refl, ap, sym, subst, Option, Some, None}
use Rattle.ty_core.specs.declared.name.TyName.{TyName}
use Rattle.ty_basis.specs.Laws.{NamesAreNumbered, OverloadedComeFirst}

abbrev stamp_in : Option TyName → ℕ
stamp_in None = 0
stamp_in (Some n) = n.stamp

abbrev IsThere : Option TyName → Type 0
IsThere None = ⊥
IsThere (Some n) = Unit {0}

pub names-are-numbered : NamesAreNumbered
names-are-numbered zero n e = sym (ap stamp_in e)
names-are-numbered (suc zero) n e = sym (ap stamp_in e)
names-are-numbered (suc (suc zero)) n e = sym (ap stamp_in e)
names-are-numbered (suc (suc (suc zero))) n e = sym (ap stamp_in e)
names-are-numbered (suc (suc (suc (suc zero)))) n e = sym (ap stamp_in e)
names-are-numbered (suc (suc (suc (suc (suc zero))))) n e = sym (ap stamp_in e)
names-are-numbered (suc (suc (suc (suc (suc (suc zero)))))) n e = sym (ap stamp_in e)
names-are-numbered (suc (suc (suc (suc (suc (suc (suc zero))))))) n e = sym (ap stamp_in e)
names-are-numbered (suc (suc (suc (suc (suc (suc (suc (suc k)))))))) n e = absurd (subst IsThere (sym e) tt)

pub overloaded-come-first : OverloadedComeFirst
overloaded-come-first = (refl, (refl, (refl, refl)))
