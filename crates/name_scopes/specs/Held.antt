-- What is held under a number, as what was looked for.
use Rattle.std.specs.Prelude.{ℕ, Bool, Option, Some, None}
use Rattle.name_scopes.specs.declared.bound.Bound.TheVariants.{Value, Tycon, Structure}
use Rattle.name_scopes.specs.declared.bound.Members.{Members}
use Rattle.name_scopes.specs.declared.held.Held.{Held}

abbrev pub value_held : Option Held → Option Bool
value_held None = None
value_held (Some h) = elim h.bound [ Value y v ↦ Some v | Tycon y n ↦ None | Structure y s ↦ None ]

-- how many constructors, and how much was bound before the type constructor
abbrev pub tycon_held : Option Held → Option (ℕ × ℕ)
tycon_held None = None
tycon_held (Some h) = elim h.bound [ Value y v ↦ None | Tycon y n ↦ Some (n, h.before) | Structure y s ↦ None ]

abbrev pub structure_held : Option Held → Option Members
structure_held None = None
structure_held (Some h) = elim h.bound [ Value y v ↦ None | Tycon y n ↦ None | Structure y s ↦ Some s ]
