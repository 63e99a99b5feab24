-- What `open` finds in a context.
use Rattle.std.specs.Prelude.{◌≡◌, ◌++◌, ◌∷◌, [], ℕ, List, Option, None, Some, nat_eq}
use Rattle.std.specs.Map.{lookup}
use Rattle.sml_tree.specs.BareTree.{LongIdAt}
use Rattle.sml_tree.specs.declared.ident.Vid.{Vid}
use Rattle.elab_context.specs.Entries.{contents_at, member_in}
use Rattle.elab_context.specs.declared.context.Context.{Context}
use Rattle.elab_context.specs.declared.entry.Entry.{Entry}

-- identifiers that something finds, each as it is found
abbrev pub found_by : (Vid → Option Entry) → List (Vid × Entry) → List (Vid × Entry)
found_by f [] = []
found_by f (e ∷ es) = elim (f e.0) [ None ↦ found_by f es | Some d ↦ (e.0, d) ∷ found_by f es ]

-- what the structure of a number has, in order
abbrev pub members_of : Context → ℕ → List (Vid × Entry)
members_of C k = found_by (member_in C.members.items k) (contents_at C k)

-- what a structure has that is bound; no structure has structures
pub record IsOpened (C : Context) (y : LongIdAt) (es : List (Vid × Entry)) : Type 0 where
  pub number : ℕ
  pub short : y.long.qualifiers ≡ []
  pub bound : lookup (nat_eq y.long.id) C.structures ≡ Some number
  pub is : es ≡ members_of C number

-- what several have, one after the other
pub data AreOpened (C : Context) : List LongIdAt → List (Vid × Entry) → Type 0 where
  none_opened : AreOpened C [] []
  one_opened : {y : LongIdAt} {ys : List LongIdAt} {es fs : List (Vid × Entry)} → IsOpened C y es → AreOpened C ys fs → AreOpened C (y ∷ ys) (es ++ fs)
