-- A type that is new, as the table keeps it.
use Rattle.std.proofs.Common.{◌≡◌, ◌≢◌, ℕ, Bool, false, List, [], ◌∷◌, ◌++◌, Option, map, length, Vec, Global, refl, sym, ap, ◌∙◌}
use Rattle.std.specs.List.{list_any, IsDistinct}
use Rattle.indexmap.specs.IndexSet.{insert_key}
use Rattle.mlc_names.proofs.NamesLemmas.{Kept as Code, is_text, same_text, one_to_one}
use Rattle.ty_core.specs.TypesOf.{head_of}
use Rattle.ty_core.specs.declared.ty.Head.{Head}
use Rattle.ty_table.proofs.Keeping.{nodes_in, new-keys, map-snoc, length-map}
use Rattle.ir_mono.specs.Types.{node}
use Rattle.mono_types.specs.Codes.{node_code}
use Rattle.mono_types.specs.Rows.{row_of, rows_of, IsStored}
use Rattle.mono_types.specs.declared.types.Kept.{Kept}
use Rattle.mono_types.proofs.Keeping.{IsPlacedNew, placed-new}

abbrev kept : Head → Code → List (ℕ × Option ℕ) → Bool → Kept
kept h ps cs b = record { head = h; parts = ps; constructors = cs; equality = b }

pub placed-fresh : (rows more : List Kept) (keys keys' : List Code) (h : Head) (ps : Code) (b : Bool) (n : ℕ) (x : Code) (r : List ℕ) (cs : List (ℕ × Option ℕ)) → IsStored (rows_of rows) (nodes_in keys)
    → x.items ≡ node_code (node (head_of h) ps.items) → cs ≡ [] → more ≡ rows ++ kept h ps cs b ∷ [] → r ≡ x.items → list_any (is_text r) keys ≡ false → keys' ≡ insert_key same_text keys x → IsDistinct same_text keys' → n ≡ length keys
    → IsPlacedNew (rows_of rows) (node (head_of h) ps.items) b n (rows_of more) (nodes_in keys')
placed-fresh rows more keys keys' h ps b n x r cs s e none pushed q absent inserted once m =
    placed-new (rows_of rows) (rows_of more) (nodes_in keys) (nodes_in keys') (node (head_of h) ps.items) b n x.items s e
    (ap rows_of pushed ∙ map-snoc row_of rows (kept h ps cs b) ∙ ap (λ l. rows_of rows ++ row_of (kept h ps l b) ∷ []) none)
    (new-keys keys keys' x r q absent inserted) (one_to_one keys' once) (m ∙ sym (length-map (λ (k : Code). k.items) keys))
