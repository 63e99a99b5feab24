-- What a walk that copies has made, and where it stands: words and compared types, the last one that was put first; scopes, the innermost first; and how many
-- nodes there are.
use Rattle.std.specs.Prelude.{ℕ, ◌+◌, List, [], ◌∷◌, ◌++◌, drop}
use Rattle.ty_core.specs.Types.{Typ}
use Rattle.mono_strip.specs.of_monomorphise.Monomorphise.{Name}
use Rattle.mono_scopes.specs.Scopes.{Scope, variable, binding, Scopes, noting}
use Rattle.mono_words.specs.Words.{Sign}

pub record Seen : Type 0 where
  pub signs : List Sign
  pub scopes : Scopes
  pub compared : List Typ
  pub nodes : ℕ

abbrev pub with_sign : Sign → Seen → Seen
with_sign w s = record { signs = w ∷ s.signs; scopes = s.scopes; compared = s.compared; nodes = s.nodes }

-- these names are needed
abbrev pub with_needs : List Name → Seen → Seen
with_needs w s = record { signs = s.signs; scopes = noting w s.scopes; compared = s.compared; nodes = s.nodes }

abbrev pub with_compared : List Typ → Seen → Seen
with_compared ts s = record { signs = s.signs; scopes = s.scopes; compared = ts ++ s.compared; nodes = s.nodes }

abbrev pub within : Scope → Seen → Seen
within o s = record { signs = s.signs; scopes = o ∷ s.scopes; compared = s.compared; nodes = s.nodes }

-- the innermost scope is left
abbrev pub out : Seen → Seen
out s = record { signs = s.signs; scopes = drop 1 s.scopes; compared = s.compared; nodes = s.nodes }

-- the types at which the innermost scope was needed
abbrev pub needed_types : Scopes → List (List Typ)
needed_types [] = []
needed_types (variable x ∷ l) = []
needed_types (binding vs u ts ∷ l) = ts

-- a part of a tree is put: its words in front, what it needs noted, the types that it compares in front, and its nodes counted
abbrev pub made : (List Sign → List Sign) → List Name → List Typ → ℕ → Seen → Seen
made f w ts n s = record { signs = f s.signs; scopes = noting w s.scopes; compared = ts ++ s.compared; nodes = s.nodes + n }
