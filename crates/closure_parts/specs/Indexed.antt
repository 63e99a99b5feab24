-- Places that are found by number: those of constructors and of labels in their types, and of strings.
use Rattle.std.specs.Prelude.{◌≡◌, ℕ, ◌+◌, Bool, List, [], ◌∷◌, ◌++◌, map, length, unwrap_or, nat_eq, Option, None, Some, slice_get, slice_index_or, Vec}
use Rattle.std.specs.Global.{Global}
use Rattle.std.specs.Str.{bytes_eq}
use Rattle.std.specs.Map.{lookup}
use Rattle.mlc_names.specs.declared.label.Label.{Label}
use Rattle.mlc_names.specs.declared.label.Label.TheVariants.{Number, Word}
use Rattle.ty_core.specs.Types.{Symbol, arrow, labels, name}
use Rattle.ir_mono.specs.Types as table
use Rattle.ir_mono.specs.Types.{node_at}
use Rattle.closure_convert.specs.Scope.{index_of}
use Rattle.closure_meaning.specs.Convert.{constructors_in, labels_in}
use Rattle.flow_types.specs.of_closure_whole.Converted.{text_index}
use Rattle.ir_tables.specs.Tables.{string_at}
use Rattle.closure_parts.specs.declared.places.Index.{Index}
use Rattle.closure_parts.specs.declared.places.Places.{Places}

abbrev pub place_in : Index → ℕ → ℕ
place_in index k = unwrap_or (lookup (nat_eq k) index.places.entries) index.count

-- it finds the first of each of these, and their count for what isn't there
abbrev pub Finds : Index → List ℕ → Type 0
Finds index ks = (k : ℕ) → place_in index k ≡ index_of k ks

-- with one more, if there is one
abbrev pub number_next : List ℕ → Option ℕ → List ℕ
number_next ks None = ks
number_next ks (Some k) = ks ++ k ∷ []

-- the numbers of a type's constructors
abbrev pub constructor_numbers : List table.Row → ℕ → List ℕ
constructor_numbers types t = map (λ k. k.0) (constructors_in (slice_get types t))

-- no two labels have one
abbrev pub label_key : Label → ℕ
label_key (Number n) = n + n
label_key (Word w) = w + w + 1

abbrev pub keys_by : Symbol → List ℕ
keys_by arrow = []
keys_by (labels ls) = map label_key ls
keys_by (name y) = []

abbrev pub label_keys : List table.Row → ℕ → List ℕ
label_keys types t = map label_key (labels_in (node_at types t))

-- for each number below their length it finds these
pub record AreFound (found : List Index) (count : ℕ) (keys : ℕ → List ℕ) : Type 0 where
  pub long : length found ≡ count
  pub each : (t : ℕ) (x : Index) → slice_get found t ≡ Some x → Finds x (keys t)

pub record ArePlaces (places : Places) (types : List table.Row) : Type 0 where
  pub tags : AreFound places.tags.items (length types) (constructor_numbers types)
  pub labels : AreFound places.labels.items (length types) (label_keys types)

abbrev pub Kept : Type 0
Kept = Vec ℕ Global

abbrev pub texts_of : List Kept → List (List ℕ)
texts_of = map (λ t. t.items)

abbrev pub is_text : List ℕ → Kept → Bool
is_text s kept = bytes_eq s kept.items

-- each of these strings has the place of the first that is equal
abbrev pub FindsTexts : List (Kept × ℕ) → List (List ℕ) → Type 0
FindsTexts found strings = (s : List ℕ) → unwrap_or (lookup (is_text s) found) (length strings) ≡ text_index s strings

abbrev pub text_in : Places → ℕ → ℕ
text_in places i = slice_index_or places.texts.items i places.empty

-- each string has the place of the first that is equal, and what has no number is the empty one
abbrev pub AreTexts : Places → List (List ℕ) → Type 0
AreTexts places strings = (i : ℕ) → text_in places i ≡ text_index (string_at strings i) strings
