-- Worlds in which what a state says comes true.
use Rattle.std.proofs.Common.{◌≡◌, ℕ, true, List, refl, sym}
use Rattle.ty_core.specs.Types.{Typ}
use Rattle.ty_core.specs.declared.scheme.Quantified.{Quantified}
use Rattle.ty_table.specs.TypeAt.{type_at}
use Rattle.elab_state.specs.States.{types_in, numbers_in, reading_in, table_in}
use Rattle.elab_state.specs.Generic.{IsGeneric}
use Rattle.elab_state.specs.Steps.{Grows}
use Rattle.elab_state.specs.declared.state.State.{State}
use Rattle.elab_steps.specs.Ordered.{is_ordered}
use Rattle.elab_steps.specs.World.{World, Comes}

-- the world that a later state tells, where g says what variables stand for
abbrev pub world_of : (S later : State) (D : ℕ → List Quantified) (g : ℕ → Typ) → IsGeneric S D g → ((v : ℕ) → is_ordered (g v) ≡ true) → World
world_of S later D g h ordered = record {
  raw = type_at (types_in later);
  value = g;
  naming = numbers_in later;
  reading = reading_in later g;
  table = table_in later;
  parameters = D;
  admits = h.equality;
  initial = λ x. refl;
  nested = h.nested;
  admitted = λ l v i. sym (h.admitted l v i);
  ordered = ordered;
}

abbrev pub ComesOf : Type 0
ComesOf = (S later : State) → Grows S later → (D : ℕ → List Quantified) (g : ℕ → Typ) (h : IsGeneric S D g) (ordered : (v : ℕ) → is_ordered (g v) ≡ true)
    → Comes S (world_of S later D g h ordered)
