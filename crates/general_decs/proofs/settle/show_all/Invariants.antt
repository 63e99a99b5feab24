use Rattle.std.proofs.Common.{◌≡◌, ℕ, take}
use Rattle.elab_steps.specs.Growing.{Grows}
use Rattle.elab_steps.specs.Tidy.{IsTidy}
use Rattle.general_vals.specs.Settling.{KeepsVariables}
use Rattle.general_decs.specs.Entries.{AreShown}
use Rattle.general_decs.proofs.settle.show_all.Given as goal

abbrev pub invariant-loop-i : goal.invariant-loop-i
invariant-loop-i l = record {
  grows : Grows l.fn.state l.state;
  keeps : KeepsVariables l.fn.state l.state;
  next : l.state.next ≡ l.fn.state.next;
  tidy : (m : ℕ) → IsTidy l.fn.state m → IsTidy l.state m;
  shown : (m : ℕ) → IsTidy l.fn.state m → AreShown l.fn.state l.state m l.list l.some (take l.i l.bound) (take l.i l.flags) l.values.items;
}
