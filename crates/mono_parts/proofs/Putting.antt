-- What is seen behind a call, from what was seen before it.
use Rattle.std.proofs.Common.{◌≡◌, ◌+◌, ◌<◌, ℕ, suc, List, [], ◌∷◌, ◌++◌, length, drop, get_or, Option, None, Some, sym, ap, ap₂, ◌∙◌, arith}
use Rattle.std.proofs.Math.Seq.{drop-cons}
use Rattle.std.specs.Option.{option_map}
use Rattle.ty_core.specs.Types.{Typ}
use Rattle.ty_core.specs.Statics.{replace}
use Rattle.ir_plain.specs.Tree as clean
use Rattle.ir_tables.specs.declared.tables.Tables.{Tables}
use Rattle.plain_tree.specs.declared.tree.Case.{Case}
use Rattle.plain_tree.specs.declared.tree.Case.TheVariants as case
use Rattle.plain_tree.specs.declared.tree.Exception.{Exception}
use Rattle.plain_tree.specs.declared.tree.Parameter.{Parameter}
use Rattle.plain_tree.specs.TreeOf as tree
use Rattle.tests_check.specs.Reads.{reading}
use Rattle.ty_table.specs.TypeAt.{type_at}
use Rattle.monomorphise.specs.Monomorphise.{Name, Named, copy_of, copy_case, case_needs, copy_argument, name_needs}
use Rattle.mono_scopes.proofs.Noting.{parts-noted}
use Rattle.mono_state.specs.of_mono_words.Words.{Sign}
use Rattle.mono_state.specs.of_mono_words.Seen.{Seen, with_sign, with_needs}
use Rattle.mono_state.specs.Seen.{Held, name_in}
use Rattle.mono_parts.specs.Arms.{ParameterIs}

-- a word, in front of what was seen
pub sign-put : (n₀ n₁ n₂ : Seen) (w v : Sign) → n₂ ≡ with_sign w n₁ → w ≡ v → n₁ ≡ n₀ → n₂ ≡ with_sign v n₀
sign-put n₀ n₁ n₂ w v p q r = p ∙ ap₂ with_sign q r

pub needs-put : (n₀ n₁ n₂ : Seen) (w v : List Name) → n₂ ≡ with_needs w n₁ → w ≡ v → n₁ ≡ n₀ → n₂ ≡ with_needs v n₀
needs-put n₀ n₁ n₂ w v p q r = p ∙ ap₂ with_needs q r

-- names that are needed, and others
pub needs-both : (w v : List Name) (n : Seen) → with_needs w (with_needs v n) ≡ with_needs (w ++ v) n
needs-both w v n = let p = sym (parts-noted w v n.scopes) in λ i. record { signs = n.signs; scopes = p i; compared = n.compared; nodes = n.nodes }

-- a list from a place on
pub dropped : {A : Type 0} (xs : List A) (x : A) (m n : ℕ) → n ≡ m + 1 → m < length xs → x ≡ get_or xs m x → drop m xs ≡ x ∷ drop n xs
dropped xs x m n e lt h =
    let s : suc m ≡ n = omega (arith, e) in
    drop-cons xs m x lt ∙ ap₂ (λ y k. y ∷ drop k xs) (sym h) s

-- the same of elements that are copied
pub dropped-at : {A : Type 0} (xs : List A) (d : A) (m n : ℕ) → n ≡ m + 1 → m < length xs → drop m xs ≡ get_or xs m d ∷ drop n xs
dropped-at xs d m n e lt =
    let s : suc m ≡ n = omega (arith, e) in
    drop-cons xs m d lt ∙ ap (λ k. get_or xs m d ∷ drop k xs) s

-- what an arm wants
pub case-noted : (t : Tables) (c shape : Case) (n₀ n₁ : Seen) → c ≡ shape → n₁ ≡ with_needs (case_needs (tree.case_of (reading t) shape)) n₀
    → n₁ ≡ with_needs (case_needs (tree.case_of (reading t) c)) n₀
case-noted t c shape n₀ n₁ e p = p ∙ ap (λ k. with_needs (case_needs (tree.case_of (reading t) k)) n₀) (sym e)

abbrev with-parameter : Name → Name → Typ → clean.Case Named
with-parameter j x u = clean.is_exn_of j x u

pub exception-of-is : (H : Held) (s : ℕ → Typ) (t : Tables) (c : Case) (x : ℕ) (y made : Parameter) (k : ℕ) → c ≡ case.ExceptionOf x y → name_in H k ≡ copy_of x [] → ParameterIs H s t.types y made
    → with-parameter (name_in H k) (name_in H made.variable) (type_at H.types made.ty) ≡ copy_case s (tree.case_of (reading t) c)
exception-of-is H s t c x y made k e p q =
    ap (λ j. with-parameter j (name_in H made.variable) (type_at H.types made.ty)) p
    ∙ ap₂ (with-parameter (copy_of x [])) q.variable q.type
    ∙ ap (λ v. copy_case s (tree.case_of (reading t) v)) (sym e)

pub exception-noted : (t : Tables) (x shape : Exception) (n₀ n₁ : Seen) → x ≡ shape → n₁ ≡ with_needs (name_needs (tree.exception_of (reading t) shape)) n₀
    → n₁ ≡ with_needs (name_needs (tree.exception_of (reading t) x)) n₀
exception-noted t x shape n₀ n₁ e p = p ∙ ap (λ k. with_needs (name_needs (tree.exception_of (reading t) k)) n₀) (sym e)

-- the type of an argument, if there is one
pub argument-is : (H : Held) (s : ℕ → Typ) (t : Tables) (argument : Option ℕ) (u n : ℕ) → argument ≡ Some u → type_at H.types n ≡ replace s (type_at t.types u)
    → option_map (type_at H.types) (Some n) ≡ copy_argument s (option_map (type_at t.types) argument)
argument-is H s t argument u n e p =
    let first : option_map (type_at H.types) (Some n) ≡ copy_argument s (option_map (type_at t.types) (Some u)) = ap Some p in
    first ∙ ap (λ o. copy_argument s (option_map (type_at t.types) o)) (sym e)

pub argument-none : (H : Held) (s : ℕ → Typ) (t : Tables) (argument : Option ℕ) → argument ≡ None → option_map (type_at H.types) None ≡ copy_argument s (option_map (type_at t.types) argument)
argument-none H s t argument e = ap (λ o. copy_argument s (option_map (type_at t.types) o)) (sym e)
