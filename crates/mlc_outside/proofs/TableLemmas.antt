-- A map of std, seen as files.
use Rattle.std.proofs.Common.{◌≡◌, ℕ, Bool, true, false, cond, List, [], ◌∷◌, map, Option, Some, option_map, refl, ap, sym, ◌∙◌, String, Global, Vec}
use Rattle.std.specs.BTreeMap.{BTreeMap, get_by_text, is_at}
use Rattle.std.specs.BTreeMap as tree
use Rattle.std.specs.Cmp.Lexicographic.{slice_cmp}
use Rattle.std.specs.FinMap.{find, get, insert, get-from_entries, get-insert, same_map, nat_cmp-IsAntisymmetric, slice_cmp-IsAntisymmetric}
use Rattle.std.specs.Map.{lookup, update}
use Rattle.std.specs.Ordering.{nat_cmp, eq_by_cmp}
use Rattle.std.specs.Str.{bytes_eq}
use Rattle.std.specs.String.{string_bytes, string_cmp}
use Rattle.std.proofs.lemmas.Cmp.{nat_list_cmp_total, eq_by_cmp_equiv}
use Rattle.std.proofs.lemmas.Map.Text.{btree_map_updates_text, is_eq-slice_cmp}
use Rattle.mlc_outside.specs.Table.{files_of}

abbrev pub Table : Type 0
Table = BTreeMap (String Global) (Vec ℕ Global)

abbrev file : String Global × Vec ℕ Global → List ℕ × List ℕ
file e = (string_bytes e.0, e.1.items)

cond-option_map : {A B : Type 0} (f : A → B) (b : Bool) (x y : Option A) → cond b (option_map f x) (option_map f y) ≡ option_map f (cond b x y)
cond-option_map f true x y = refl
cond-option_map f false x y = refl

find-files : (q : List ℕ) (es : List (String Global × Vec ℕ Global)) → find (slice_cmp nat_cmp) q (map file es) ≡ option_map (λ v. v.items) (lookup (is_at (λ k. slice_cmp nat_cmp q (string_bytes k))) es)
find-files q [] = refl
find-files q (e ∷ es) =
    ap (cond (eq_by_cmp (slice_cmp nat_cmp) q (string_bytes e.0)) (Some e.1.items)) (find-files q es)
    ∙ cond-option_map (λ v. v.items) (eq_by_cmp (slice_cmp nat_cmp) q (string_bytes e.0)) (Some e.1) (lookup (is_at (λ k. slice_cmp nat_cmp q (string_bytes k))) es)

-- the file at a path
pub get-files_of : (table : Table) (q : List ℕ) → get (files_of table) q ≡ option_map (λ v. v.items) (get_by_text table q)
get-files_of table q = get-from_entries nat_list_cmp_total (map file table.entries) q ∙ find-files q table.entries

turned : (path q : List ℕ) → bytes_eq path q ≡ eq_by_cmp (slice_cmp nat_cmp) q path
turned path q = sym (is_eq-slice_cmp path q) ∙ (eq_by_cmp_equiv nat_list_cmp_total).symm path q

-- a file more, or another one
pub insert-files_of : (old new : Table) (path bytes : List ℕ) (v : Vec ℕ Global) → v.items ≡ bytes → ((q : List ℕ) → get_by_text new q ≡ update bytes_eq (get_by_text old) path (Some v) q) → files_of new ≡ insert (files_of old) path bytes
insert-files_of old new path bytes v e updates =
    same_map nat_list_cmp_total (slice_cmp-IsAntisymmetric nat_cmp-IsAntisymmetric) (files_of new) (insert (files_of old) path bytes) (λ q.
    get-files_of new q
    ∙ ap (option_map (λ v. v.items)) (updates q)
    ∙ sym (cond-option_map (λ v. v.items) (bytes_eq path q) (Some v) (get_by_text old q))
    ∙ ap (λ b. cond b (Some v.items) (option_map (λ v. v.items) (get_by_text old q))) (turned path q)
    ∙ ap (λ b. cond (eq_by_cmp (slice_cmp nat_cmp) q path) (Some b) (option_map (λ v. v.items) (get_by_text old q))) e
    ∙ ap (cond (eq_by_cmp (slice_cmp nat_cmp) q path) (Some bytes)) (sym (get-files_of old q))
    ∙ sym (get-insert nat_list_cmp_total (files_of old) path bytes q))

-- the same, from what the map's insert says
pub insert-updates : (old new : Table) (path bytes : List ℕ) (v : Vec ℕ Global) → v.items ≡ bytes → tree.UpdatesBy string_cmp (λ k. slice_cmp nat_cmp path (string_bytes k)) old new (Some v) → files_of new ≡ insert (files_of old) path bytes
insert-updates old new path bytes v e updates = insert-files_of old new path bytes v e (btree_map_updates_text path old new (Some v) updates)
