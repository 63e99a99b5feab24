-- A number above those of all variables.
use Rattle.std.proofs.Common.{◌≡◌, ℕ, zero, suc, ◌+◌, ◌<◌, ◌≤◌, List, [], ◌∷◌, ◌++◌, map, drop, length, get_or, sym, ap, ◌∙◌, arith}
use Rattle.std.proofs.lemmas.List.{drop_more}
use Rattle.ir_mono.specs.Types as table
use Rattle.plain_tree.specs.declared.tree.Exp.{Exp}
use Rattle.flow_sets.specs.ByType.{bound}
use Rattle.mono_bound.specs.declared.bound.Bound.{Bound}
use Rattle.mono_bound.specs.Bound.{bound_of, exp_bound}
use Rattle.mono_bound.specs.Reads.{mono_of}
use Rattle.closure_bodies.specs.of_closure_whole.Rising.{larger, above}

pub above-next : (xs : List Bound) (n i : ℕ) (x d : Bound) (now new : ℕ) → n ≡ i + 1 → i < length xs → x ≡ get_or xs i d → new ≡ larger x.variable now → now ≡ above (map bound_of (drop n xs))
    → new ≡ above (map bound_of (drop i xs))
above-next xs n i x d now new k lt is h inv =
    h ∙ ap (larger x.variable) (inv ∙ ap (λ j. above (map bound_of (drop j xs))) k)
    ∙ ap (λ l. above (map bound_of l)) (sym (drop_more xs i d lt ∙ ap (λ y. y ∷ drop (i + 1) xs) (sym is)))

pub above-done : (xs : List Bound) (n now : ℕ) → n ≤ 0 → now ≡ above (map bound_of (drop n xs)) → now ≡ above (map bound_of xs)
above-done xs zero now le inv = inv
above-done xs (suc n) now le inv = absurd (omega (arith, le))

pub above-is : (types : List table.Row) (strings : List (List ℕ)) (e : Exp) (none found taken : List Bound) (n : ℕ) → none ≡ [] → found ≡ none ++ exp_bound types e → taken ≡ found → n ≡ above (map bound_of taken)
    → map bound_of (exp_bound types e) ≡ bound types (mono_of types strings e) → n ≡ above (bound types (mono_of types strings e))
above-is types strings e none found taken n z f t h b =
    h ∙ ap (λ l. above (map bound_of l)) (t ∙ f ∙ ap (λ l. l ++ exp_bound types e) z) ∙ ap above b
