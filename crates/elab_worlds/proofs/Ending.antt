-- States at the end of elaboration.
use Rattle.std.proofs.Common.{◌≡◌, ◌<◌, [], ℕ, sym, subst, arith}
use Rattle.std.specs.List.{AllByRecursion}
use Rattle.ir_poly.specs.Types.{IsConstructor}
use Rattle.elab_state.specs.States.{made, general_in, table_in, dead_level}
use Rattle.elab_state.specs.declared.state.State.{State}
use Rattle.elab_steps.specs.Growing.{Grows}
use Rattle.elab_steps.specs.Tidy.{AreConstructors, IsTidy}
use Rattle.elab_steps.proofs.Keeping.{new-tidy}
use Rattle.elab_worlds.specs.Final.{MayEnd}

pub later-may-end : (S T : State) → IsTidy S S.level → AreConstructors S → Grows S T → MayEnd T
later-may-end S T t k g = record { last = record { tidy = g.tidy t; parameters = (g.tidy t).parameters }; constructors = g.constructors k }

pub runs-may-end : (S T : State) → made S ≡ 0 → general_in S ≡ [] → table_in S ≡ [] → S.level ≡ 0 → Grows S T → MayEnd T
runs-may-end S T none-made none-general none-declared outside g =
    later-may-end S T (new-tidy S S.level (low S.level outside) none-made none-general) (subst (AllByRecursion IsConstructor) (sym none-declared) tt) g
  where
    low : (l : ℕ) → l ≡ 0 → l < dead_level
    low l e = omega (arith, e)
