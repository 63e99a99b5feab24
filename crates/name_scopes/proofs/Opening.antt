-- What `open` brings.
use Rattle.std.proofs.Common.{◌≡◌, ◌<◌, ◌≤◌, ◌+◌, ℕ, true, List, [], ◌∷◌, ◌++◌, get_or, length, map, take, Option, Some, None, refl, sym, ap, ap₂, subst, ◌∙◌, append_assoc, arith}
use Rattle.std.specs.Prelude.{is_some, option_and_then, option_map, unwrap_or}
use Rattle.std.specs.Option.{option_or}
use Rattle.std.proofs.lemmas.List.{map_more, take_all}
use Rattle.sml_tree.specs.BareTree as bare
use Rattle.sml_tree.specs.TreeOf.{long_id_at_of}
use Rattle.sml_tree.specs.declared.tree.LongIdAt.{LongIdAt}
use Rattle.core_rules.specs.Eval.{long_structure_in, opened}
use Rattle.core_rules.specs.Values.{Env, along, nothing, plus, structure_in}
use Rattle.core_rules.proofs.LookUps.{structure-plus}
use Rattle.name_scopes.specs.Covering.{Brings, Covers, StructureFits}
use Rattle.name_scopes.specs.Entries.{member_entries}
use Rattle.name_scopes.specs.Placed.{Brought}
use Rattle.name_scopes.specs.Scopes.{structure_found}
use Rattle.name_scopes.specs.declared.bound.Bound.{Bound}
use Rattle.name_scopes.specs.declared.bound.Members.{Members}
use Rattle.name_scopes.proofs.Covering.{both-bring, members-bring, nothing-plus, plus-assoc}
use Rattle.name_scopes.proofs.Qualified.{long-structure-none, structure-plain}

-- a structure that isn't bound has nothing
abbrev pub one_opened : Env → bare.LongIdAt → Env
one_opened e x = unwrap_or (long_structure_in e x) nothing

abbrev pub each_opened : Env → List bare.LongIdAt → Env
each_opened e [] = nothing
each_opened e (x ∷ xs) = plus (one_opened e x) (each_opened e xs)

-- where all are bound
pub opened-are : (e : Env) (xs : List bare.LongIdAt) → is_some (opened e xs) ≡ true → unwrap_or (opened e xs) nothing ≡ each_opened e xs
opened-are e [] h = refl
opened-are e (x ∷ xs) h = by (long_structure_in e x) (opened e xs) (opened-are e xs) h
  where
    by : (o p : Option Env) → (is_some p ≡ true → unwrap_or p nothing ≡ each_opened e xs) → is_some (option_and_then (λ d. option_map (plus d) p) o) ≡ true
        → unwrap_or (option_and_then (λ d. option_map (plus d) p) o) nothing ≡ plus (unwrap_or o nothing) (each_opened e xs)
    by None p k h = absurd (cc)
    by (Some d) None k h = absurd (cc)
    by (Some d) (Some c) k h = ap (plus d) (k refl)

opened-more : (e : Env) (xs : List bare.LongIdAt) (x : bare.LongIdAt) → each_opened e (xs ++ x ∷ []) ≡ plus (each_opened e xs) (one_opened e x)
opened-more e [] x = sym (nothing-plus (one_opened e x))
opened-more e (y ∷ xs) x = ap (plus (one_opened e y)) (opened-more e xs x) ∙ sym (plus-assoc (one_opened e y) (each_opened e xs) (one_opened e x))

-- structures have no structures

long-plain : (bs : List Bound) (e : Env) (qs : List ℕ) (x : ℕ) → Covers bs e → (z : ℕ) → structure_in (unwrap_or (option_and_then (λ d. structure_in d x) (along e qs)) nothing) z ≡ None
long-plain bs e [] x c z = by (structure_found bs x) (structure_in e x) (c.structures x)
  where
    by : (o : Option Members) (p : Option Env) → StructureFits o p → structure_in (unwrap_or p nothing) z ≡ None
    by o None h = refl
    by o (Some d) h = let k = structure-plain o d h in k.structures z
long-plain bs e (q ∷ qs) x c z = ap (λ p. structure_in (unwrap_or p nothing) z) (long-structure-none bs e (q ∷ qs) x c (omega arith))

each-plain : (bs : List Bound) (e : Env) (xs : List bare.LongIdAt) → Covers bs e → (z : ℕ) → structure_in (each_opened e xs) z ≡ None
each-plain bs e [] c z = refl
each-plain bs e (x ∷ xs) c z =
    structure-plus (one_opened e x) (each_opened e xs) z
    ∙ ap₂ option_or (each-plain bs e xs c z) (long-plain bs e x.long.qualifiers x.long.id c z)

-- so opening them leaves what the others are
same-structure : (e d : Env) → ((z : ℕ) → structure_in d z ≡ None) → (x : bare.LongIdAt) → long_structure_in (plus e d) x ≡ long_structure_in e x
same-structure e d h x = by x.long.qualifiers
  where
    one : (z : ℕ) → structure_in (plus e d) z ≡ structure_in e z
    one z = structure-plus e d z ∙ ap (λ o. option_or o (structure_in e z)) (h z)

    by : (qs : List ℕ) → option_and_then (λ d. structure_in d x.long.id) (along (plus e d) qs) ≡ option_and_then (λ d. structure_in d x.long.id) (along e qs)
    by [] = one x.long.id
    by (q ∷ qs) = ap (λ o. option_and_then (λ d. structure_in d x.long.id) (option_and_then (λ d. along d qs) o)) (one q)

-- what a structure has
pub structure-brings : (s : Members) (p : Option Env) → StructureFits (Some s) p → Brings (member_entries s) (unwrap_or p nothing)
structure-brings s None h = absurd h
structure-brings s (Some d) h = subst (Brings (member_entries s)) (sym h) (members-bring s)

-- one after the other

pub opens-next : (old now new : List Bound) (xs : List LongIdAt) (i : ℕ) (x : LongIdAt) → i < length xs → x ≡ get_or xs i x
    → Brought old now (λ e. each_opened e (map long_id_at_of (take i xs))) → Brought now new (λ e. one_opened e (long_id_at_of x))
    → Brought old new (λ e. each_opened e (map long_id_at_of (take (i + 1) xs)))
opens-next old now new xs i x lt at h k = record {
  more = k.more ++ h.more;
  is = k.is ∙ ap (λ l. k.more ++ l) h.is ∙ sym (append_assoc k.more h.more old);
  brings = λ e c.
      let d = each_opened e (map long_id_at_of (take i xs)) in
      let inner : Covers now (plus e d) = subst (λ l. Covers l (plus e d)) (sym h.is) (h.brings e c old e c) in
      let one : Brings k.more (one_opened e (long_id_at_of x)) =
      subst (λ o. Brings k.more (unwrap_or o nothing)) (same-structure e d (each-plain old e (map long_id_at_of (take i xs)) c) (long_id_at_of x)) (k.brings (plus e d) inner) in
      let all : each_opened e (map long_id_at_of (take (i + 1) xs)) ≡ plus d (one_opened e (long_id_at_of x)) =
      ap (each_opened e) (map_more long_id_at_of xs i x lt ∙ ap (λ y. map long_id_at_of (take i xs) ++ long_id_at_of y ∷ []) (sym at)) ∙ opened-more e (map long_id_at_of (take i xs)) (long_id_at_of x) in
      subst (Brings (k.more ++ h.more)) (sym all) (both-bring h.more k.more d (one_opened e (long_id_at_of x)) (h.brings e c) one);
}

-- all of them, where all are bound
pub opens-last : (old now : List Bound) (xs : List LongIdAt) (i : ℕ) → length xs ≤ i → ((e : Env) → Covers old e → true ≡ is_some (opened e (map long_id_at_of xs)))
    → Brought old now (λ e. each_opened e (map long_id_at_of (take i xs))) → Brought old now (λ e. unwrap_or (opened e (map long_id_at_of xs)) nothing)
opens-last old now xs i le bound h = record {
  more = h.more;
  is = h.is;
  brings = λ e c.
      subst (Brings h.more) (ap (λ l. each_opened e (map long_id_at_of l)) (take_all i xs le) ∙ sym (opened-are e (map long_id_at_of xs) (sym (bound e c)))) (h.brings e c);
}
