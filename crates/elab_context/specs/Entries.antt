-- What a context has, by identifier.
use Rattle.std.specs.Prelude.{ℕ, suc, Bool, true, false, List, [], ◌∷◌, take, drop, Option, Some, None, option_and_then, unwrap_or, nat_eq, slice_get, if◌then◌else◌}
use Rattle.std.specs.Option.{option_or}
use Rattle.std.specs.Map.{lookup}
use Rattle.mlc_names.specs.StandardWords.{word_ref}
use Rattle.sml_tree.specs.declared.ident.Vid.{Vid}
use Rattle.sml_tree.specs.declared.ident.Vid.TheVariants.{Named}
use Rattle.vid_scope.specs.of_core_rules.Words.{same_vid}
use Rattle.ty_solve.specs.declared.limit.Limit.{Limit}
use Rattle.vid_scope.specs.Entries.{entry_of}
use Rattle.vid_scope.specs.declared.vids.VidScope.{VidScope}
use Rattle.elab_steps.specs.of_elab_types.declared.scope.TypeEntry.{TypeEntry}
use Rattle.elab_context.specs.declared.context.Context.{Context}
use Rattle.elab_context.specs.declared.entry.Scheme.{Scheme}
use Rattle.elab_context.specs.declared.entry.Built.TheVariants.{Ref, Declared}
use Rattle.elab_context.specs.declared.entry.Built.{Built}
use Rattle.elab_context.specs.declared.entry.Entry.{Entry}
use Rattle.elab_context.specs.declared.entry.Entry.TheVariants.{Constructor, Reference, Initial, Primitive, Raised, Single, Own, General}

abbrev pub limit_of : Context → Limit
limit_of C = record { names = C.names; level = C.level }

-- the number of a type name in the program, as the code finds it
abbrev pub number_in : Context → ℕ → ℕ
number_in C x = unwrap_or (lookup (nat_eq x) C.numbers) x

-- what the structure of a number has
abbrev pub member_in : List (VidScope Entry) → ℕ → Vid → Option Entry
member_in ms k v = option_and_then (λ s. entry_of s v) (slice_get ms k)

-- a long identifier; no structure has structures
abbrev pub entry_in : Context → List ℕ → Vid → Option Entry
entry_in C [] v = entry_of C.values v
entry_in C (q ∷ []) v = option_and_then (λ k. member_in C.members.items k v) (lookup (nat_eq q) C.structures)
entry_in C (q ∷ r ∷ qs) v = None

-- a constructor by its identifier, with the scheme of a number
abbrev pub constructor_entry : ℕ → Built → Vid × Entry
constructor_entry k Ref = (Named word_ref, Reference k)
constructor_entry k (Declared x y) = (Named x, Constructor k x y)

-- the constructors that have these schemes, the first of which is the k-th
abbrev pub constructors_in : ℕ → List Scheme → List (Vid × Entry)
constructors_in k [] = []
constructors_in k (s ∷ ss) = elim s.constructor [ None ↦ constructors_in (suc k) ss | Some c ↦ constructor_entry k c ∷ constructors_in (suc k) ss ]

-- those of a type constructor
abbrev pub constructors_of : Context → TypeEntry → List (Vid × Entry)
constructors_of C e = constructors_in e.constructors.first (take e.constructors.count (drop e.constructors.first C.schemes.items))

-- what a structure has, in order
abbrev pub contents_at : Context → ℕ → List (Vid × Entry)
contents_at C k = elim (slice_get C.contents.items k) [ None ↦ [] | Some es ↦ es.items ]

-- the last of an identifier
abbrev pub last_of : List (Vid × Entry) → Vid → Option Entry
last_of [] x = None
last_of (e ∷ es) x = option_or (last_of es x) (if same_vid x e.0 then Some e.1 else None)

-- a pattern binds the identifier, and doesn't match it
abbrev pub is_free : Option Entry → Bool
is_free None = true
is_free (Some (Constructor s n y)) = false
is_free (Some (Reference s)) = false
is_free (Some (Initial s n)) = false
is_free (Some (Primitive s q)) = true
is_free (Some (Raised n a)) = false
is_free (Some (Single t n)) = true
is_free (Some (Own t n)) = true
is_free (Some (General l t n o)) = true
