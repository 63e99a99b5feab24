-- Numbers of the variables that are in scope.
use Rattle.std.specs.Prelude.{◌≡◌, ◌<◌, ℕ, List, Option, Some, None}
use Rattle.sml_tree.specs.declared.ident.Vid.{Vid}
use Rattle.elab_context.specs.Entries.{entry_in}
use Rattle.elab_context.specs.declared.context.Context.{Context}
use Rattle.elab_context.specs.declared.entry.Entry.{Entry}
use Rattle.elab_context.specs.declared.entry.Entry.TheVariants.{Constructor, Reference, Initial, Primitive, Raised, Single, Own, General}

-- the program's variable of an identifier, if it has one
abbrev pub number_of : Entry → Option ℕ
number_of (Constructor s n y) = None
number_of (Reference s) = None
number_of (Initial s n) = None
number_of (Primitive s q) = None
number_of (Raised n a) = Some n
number_of (Single t n) = Some n
number_of (Own t n) = Some n
number_of (General l t n o) = Some n

-- it is below k
abbrev pub IsBelowIf : ℕ → Entry → Type 0
IsBelowIf k e = (n : ℕ) → number_of e ≡ Some n → n < k

-- whatever is in scope
abbrev pub IsNumbered : ℕ → Context → Type 0
IsNumbered k C = (qs : List ℕ) (x : Vid) (e : Entry) → entry_in C qs x ≡ Some e → IsBelowIf k e
