-- Identifiers that are added to a list, as far as a program can name them.
use Rattle.std.proofs.Common.{◌≡◌, ◌<◌, ◌≤◌, ◌+◌, ℕ, suc, List, [], ◌∷◌, ◌++◌, length, get_or, reverse, take, sym, ap, subst, ◌∙◌, append_assoc, arith}
use Rattle.std.specs.Prelude.{filter, flat_map, IfOk, Result, Ok, Err}
use Rattle.std.proofs.Math.Seq.{take-suc}
use Rattle.std.proofs.lemmas.Grind.{flat_map-append}
use Rattle.std.proofs.lemmas.List.{append-nil, take_all}
use Rattle.std.proofs.lemmas.List.Elements.{filter-append}
use Rattle.sml_tree.specs.declared.ident.Vid.{Vid}
use Rattle.core_rules.specs.Values.{Env}
use Rattle.name_scopes.specs.Covering.{Covers, is_written}
use Rattle.name_scopes.specs.Entries.{variable_entries}
use Rattle.name_scopes.specs.Patterns.{AreVariables}
use Rattle.name_scopes.specs.Placed.{Brought}
use Rattle.name_scopes.specs.declared.bound.Bound.{Bound}
use Rattle.name_scopes.proofs.Covering.{variables-bring-turned}

pub if-ok : {A E : Type 0} {P Q : A → Type 0} (r : Result A E) → ((x : A) → P x → Q x) → IfOk r P → IfOk r Q
if-ok (Ok x) f h = f x h
if-ok (Err e) f h = h

abbrev pub Added : List Vid → List Vid → List Vid → Type 0
Added old new xs = new ≡ old ++ filter is_written xs

pub added-none : (old : List Vid) → Added old old []
added-none old = sym (append-nil old)

pub added-for : (old new xs ys : List Vid) → xs ≡ ys → Added old new xs → Added old new ys
added-for old new xs ys s h = h ∙ ap (λ l. old ++ filter is_written l) s

pub added-both : (old now new xs ys : List Vid) → Added old now xs → Added now new ys → Added old new (xs ++ ys)
added-both old now new xs ys h k =
    k ∙ ap (λ l. l ++ filter is_written ys) h ∙ append_assoc old (filter is_written xs) (filter is_written ys) ∙ ap (λ l. old ++ l) (sym (filter-append is_written xs ys))

-- along a list

take-next : {A : Type 0} (xs : List A) (i : ℕ) (x : A) → i < length xs → x ≡ get_or xs i x → take (i + 1) xs ≡ take i xs ++ (x ∷ [])
take-next xs i x lt e = let s : i + 1 ≡ suc i = omega arith in ap (λ n. take n xs) s ∙ take-suc xs i x lt ∙ ap (λ y. take i xs ++ (y ∷ [])) (sym e)

module _ {A : Type 0} (g : A → List Vid) where
  flat-next : (xs : List A) (i : ℕ) (x : A) → i < length xs → x ≡ get_or xs i x → flat_map g (take i xs) ++ g x ≡ flat_map g (take (i + 1) xs)
  flat-next xs i x lt e =
      ap (λ l. flat_map g (take i xs) ++ l) (sym (append-nil (g x))) ∙ sym (flat_map-append g (take i xs) (x ∷ [])) ∙ ap (flat_map g) (sym (take-next xs i x lt e))

  pub added-next : (xs : List A) (i : ℕ) (x : A) (old now new : List Vid) → i < length xs → x ≡ get_or xs i x
      → Added old now (flat_map g (take i xs)) → Added now new (g x) → Added old new (flat_map g (take (i + 1) xs))
  added-next xs i x old now new lt e h k = added-for old new _ _ (flat-next xs i x lt e) (added-both old now new (flat_map g (take i xs)) (g x) h k)

  pub added-last : (xs : List A) (i : ℕ) (old now : List Vid) → length xs ≤ i → Added old now (flat_map g (take i xs)) → Added old now (flat_map g xs)
  added-last xs i old now le h = added-for old now _ _ (ap (flat_map g) (take_all i xs le)) h

-- what came into scope with them: they were added to a list with nothing in it
pub variables-brought : (old new : List Bound) (none got vs : List Vid) (has : Env → List Vid) (names : Env → Env) → none ≡ [] → vs ≡ got
    → ((e : Env) → Covers old e → Added none got (has e)) → ((e : Env) → AreVariables (filter is_written (has e)) (names e))
    → new ≡ variable_entries (reverse vs) ++ old → Brought old new names
variables-brought old new none got vs has names n s h a b = record {
  more = variable_entries (reverse vs);
  is = b;
  brings = λ e c. variables-bring-turned vs (names e) (subst (λ (l : List Vid). AreVariables l (names e)) (sym (s ∙ h e c ∙ ap (λ l. l ++ filter is_written (has e)) n)) (a e));
}
