-- The scope of the initial basis: how it is bound, and what it covers.
use Rattle.std.proofs.Common.{◌≡◌, ◌≤◌, ℕ, Bool, true, false, ◌||◌, cond, List, [], ◌∷◌, ◌++◌, map, length, drop, take, nat_eq, is_some, Option, Some, None, option_map, refl, sym, ap, ap₂, subst, ◌∙◌, append_assoc}
use Rattle.std.specs.Prelude.{flat_map}
use Rattle.std.specs.List.{AllByRecursion}
use Rattle.std.proofs.Math.Seq.{take-append_seam}
use Rattle.std.proofs.lemmas.List.{length-map}
use Rattle.mlc_names.specs.StandardWords.{word_Prim}
use Rattle.sml_tree.specs.declared.ident.Vid.{Vid}
use Rattle.core_rules.specs.Initial.{Entry, TypeEntry, dynamic_structures, dynamic_types, dynamic_values, entries, exceptions, hidden, initial_env, initial_members, integers, prelude_env, primitives, type_rows, word_Int}
use Rattle.core_rules.specs.Match.{is_variable}
use Rattle.core_rules.specs.Values.{Env, plus, structure_in, tycon_in, value_in}
use Rattle.core_rules.specs.Words.{same_vid}
use Rattle.name_scopes.specs.Basis.{bound_of, entry_bound, initial_bounds, type_bounds}
use Rattle.name_scopes.specs.Covering.{AreListed, Covers, IsValue, StructureFits, TyconFits, variable_in}
use Rattle.name_scopes.specs.Scopes.{structure_found, tycon_found, value_found}
use Rattle.name_scopes.specs.declared.bound.Bound.{Bound}
use Rattle.name_scopes.specs.declared.bound.Bound.TheVariants.{Structure}
use Rattle.name_scopes.specs.declared.bound.Members.TheVariants.{Integers, Hidden}
use Rattle.name_scopes.specs.declared.rows.Row.{Row}
use Rattle.name_scopes.proofs.Covering.{tycon-past}

-- rows are bound from the last on

pub record BoundFrom (rs : List Row) (i : ℕ) (old now : List Bound) : Type 0 where
  pub is : now ≡ map bound_of (drop i rs) ++ old
  pub within : i ≤ length rs

-- rows are looked through from the first on: it is found among the first so many, or those behind have it if any does
abbrev pub FoundOrBehind : List Row → ℕ → Vid → Bool → Type 0
FoundOrBehind rs i x found = is_some (value_found (map bound_of rs) x) ≡ (found || is_some (value_found (map bound_of (drop i rs)) x))

-- what the table covers

pub entries-found : (rs : List Entry) (x : Vid) → value_found (map entry_bound rs) x ≡ variable_in (dynamic_values rs) x
entries-found [] x = refl
entries-found (r ∷ rs) x = by (same_vid x r.vid) (entries-found rs x)
  where
    by : (b : Bool) → value_found (map entry_bound rs) x ≡ variable_in (dynamic_values rs) x
        → cond b (Some (is_variable r.status)) (value_found (map entry_bound rs) x) ≡ option_map (λ f. is_variable f.status) (cond b (Some (record { status = r.status; value = r.value })) (value_in (dynamic_values rs) x))
    by true h = refl
    by false h = h

pub entries-listed : (rs : List Entry) → AreListed (map entry_bound rs) (dynamic_values rs)
entries-listed rs = record { values = λ x w. entries-found rs x; plain = plain rs; only = record { tycons = tycons rs; structures = structures rs } }
  where
    plain : (rs : List Entry) → AllByRecursion IsValue (map entry_bound rs)
    plain [] = tt
    plain (r ∷ rs) = (tt, plain rs)

    tycons : (rs : List Entry) (x : ℕ) → tycon_in (dynamic_values rs) x ≡ None
    tycons [] x = refl
    tycons (r ∷ rs) x = tycons rs x

    structures : (rs : List Entry) (x : ℕ) → structure_in (dynamic_values rs) x ≡ None
    structures [] x = refl
    structures (r ∷ rs) x = structures rs x

type-front : (b : Bool) (cs : List Bound) (o : Option (List Bound)) (d : Env) (p : Option Env) → AreListed cs d → TyconFits o p → TyconFits (cond b (Some cs) o) (cond b (Some d) p)
type-front true cs o d p l h = l
type-front false cs o d p l h = h

-- types with their constructors, one after the other
pub types-found : (ts : List TypeEntry) (bs : List Bound) (e : Env) (x : ℕ) → TyconFits (tycon_found bs x) (tycon_in e x)
    → TyconFits (tycon_found (flat_map type_bounds ts ++ bs) x) (tycon_in (plus e (dynamic_types ts)) x)
types-found [] bs e x h = h
types-found (t ∷ ts) bs e x h =
    let cs = map entry_bound t.constructors in
    let rest = flat_map type_bounds ts in
    let a : (cs ++ rest) ++ bs ≡ cs ++ (rest ++ bs) = append_assoc cs rest bs in
    let n : length t.constructors ≡ length cs = sym (length-map t.constructors entry_bound) in
    let taken : take (length t.constructors) ((cs ++ rest) ++ bs) ≡ cs = ap₂ (λ k l. take k l) n a ∙ take-append_seam cs (rest ++ bs) in
    let past : tycon_found ((cs ++ rest) ++ bs) x ≡ tycon_found (rest ++ bs) x = ap (λ l. tycon_found l x) a ∙ tycon-past cs (rest ++ bs) x (entries-listed t.constructors).plain in
    subst (λ l. TyconFits (cond (nat_eq x t.tycon) (Some l) (tycon_found ((cs ++ rest) ++ bs) x)) (cond (nat_eq x t.tycon) (Some (dynamic_values t.constructors)) (tycon_in (plus e (dynamic_types ts)) x))) (sym taken)
    (subst (λ o. TyconFits (cond (nat_eq x t.tycon) (Some cs) o) (cond (nat_eq x t.tycon) (Some (dynamic_values t.constructors)) (tycon_in (plus e (dynamic_types ts)) x))) (sym past)
    (type-front (nat_eq x t.tycon) cs (tycon_found (rest ++ bs) x) (dynamic_values t.constructors) (tycon_in (plus e (dynamic_types ts)) x) (entries-listed t.constructors) (types-found ts bs e x h)))

pub initially-covers : Covers initial_bounds initial_env
initially-covers = record {
  values = λ x w. entries-found entries x;
  tycons = λ x. types-found type_rows (map entry_bound (exceptions ++ primitives) ++ (Structure word_Int Integers ∷ [])) (dynamic_structures initial_members) x tt;
  structures = λ x. by (nat_eq x word_Int);
}
  where
    by : (b : Bool) → StructureFits (cond b (Some Integers) None) (cond b (Some (dynamic_values integers)) None)
    by true = refl
    by false = tt

pub prelude-covers : (bs : List Bound) → Covers bs initial_env → Covers (Structure word_Prim Hidden ∷ bs) prelude_env
prelude-covers bs c = record { values = c.values; tycons = c.tycons; structures = λ x. by x (nat_eq x word_Prim) (c.structures x) }
  where
    by : (x : ℕ) (b : Bool) → StructureFits (structure_found bs x) (structure_in initial_env x)
        → StructureFits (cond b (Some Hidden) (structure_found bs x)) (cond b (Some (dynamic_values hidden)) (structure_in initial_env x))
    by x true h = refl
    by x false h = h
