-- The most general substitution, and why there is none.
use Rattle.std.specs.Prelude.{◌≡◌, ◌↔◌, ◌<◌, ◌≤◌, ℕ, Bool, List, [], ◌∷◌, slice_set}
use Rattle.ty_table.specs.of_ty_core.Types.{Typ, nodes}
use Rattle.ty_solve.specs.Substitution.{Entry, sub, Solves, Resolves}
use Rattle.ty_solve.specs.Forces.{Problem, Clashes, Loops, LeftAt}
use Rattle.ty_solve.specs.declared.refused.UnifyRefused.{UnifyRefused}
use Rattle.ty_solve.specs.declared.refused.UnifyRefused.TheVariants.{Clash, Circular, Large, Memory}
use Rattle.ty_solve.specs.declared.trail.Kept.{Kept}
use Rattle.ty_solve.specs.declared.subst.Slot.{Slot}

-- the least change that makes a and b equal: what solves the new substitution is what solves the old one and makes them equal
abbrev pub IsMostGeneral : (ℕ → Entry) → (ℕ → Entry) → Typ → Typ → Type 0
IsMostGeneral old new a b = (m : ℕ → Bool) (f : ℕ → Typ) → Solves m f new ↔ (Solves m f old × (sub f a ≡ sub f b))

abbrev pub IsSolvable : (ℕ → Entry) → Type 0
IsSolvable s = (m : ℕ → Bool) × (f : ℕ → Typ) × Solves m f s

abbrev pub problem : (ℕ → Entry) → Typ → Typ → Problem
problem s a b = record { before = s; left = a; right = b }

-- only open variables that are met in a or b change, and they come to stand only for what is met there
abbrev pub LeavesRest : (ℕ → Entry) → (ℕ → Entry) → Typ → Typ → Type 0
LeavesRest old new a b = (v : ℕ) → LeftAt (problem old a b) v (new v)

-- nothing that solves the substitution makes a and b equal
abbrev pub NoneMakesEqual : (ℕ → Entry) → Typ → Typ → Type 0
NoneMakesEqual s a b = (m : ℕ → Bool) (f : ℕ → Typ) → Solves m f s → sub f a ≡ sub f b → ⊥

-- the nodes that a type may have
abbrev pub node_limit : ℕ
node_limit = 65536

-- the type that a stands for under s has at most that many nodes, written out as a tree; a row is the record of its known fields
abbrev pub IsSmall : (ℕ → Entry) → Typ → Type 0
IsSmall s a = (f : ℕ → Typ) → Resolves f s → nodes (sub f a) ≤ node_limit

-- a most general substitution exists, and a is too large under it
pub record IsLarge (s : ℕ → Entry) (a b : Typ) : Type 0 where
  pub after : ℕ → Entry
  pub general : IsMostGeneral s after a b
  pub solvable : IsSolvable after
  pub large : (f : ℕ → Typ) → Resolves f after → node_limit < nodes (sub f a)

-- when each refusal comes
abbrev pub IsCause : (ℕ → Entry) → Typ → Typ → UnifyRefused → Type 0
IsCause s a b Clash = NoneMakesEqual s a b × Clashes (problem s a b)
IsCause s a b Circular = NoneMakesEqual s a b × Loops (problem s a b)
IsCause s a b Large = IsLarge s a b
IsCause s a b Memory = Unit {0}

-- the same before sizes are looked at
abbrev pub IsEarlyCause : (ℕ → Entry) → Typ → Typ → UnifyRefused → Type 0
IsEarlyCause s a b Clash = NoneMakesEqual s a b × Clashes (problem s a b)
IsEarlyCause s a b Circular = NoneMakesEqual s a b × Loops (problem s a b)
IsEarlyCause s a b Large = ⊥
IsEarlyCause s a b Memory = Unit {0}

-- what was kept is put back, the last first
abbrev pub undo : List Kept → List Slot → List Slot
undo [] l = l
undo (k ∷ d) l = slice_set (undo d l) k.variable k.slot
