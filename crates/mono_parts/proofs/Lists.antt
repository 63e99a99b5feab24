-- Lists that are put from the last part to the first, and parameters.
use Rattle.std.proofs.lemmas.List.{take_more, take_all}
use Rattle.std.proofs.Common.{◌≡◌, ◌≤◌, ◌<◌, ◌+◌, ℕ, List, [], ◌∷◌, ◌++◌, take, length, get_or, refl, sym, ap, ap₂, subst, ◌∙◌}
use Rattle.ty_core.specs.Types.{Typ}
use Rattle.ty_core.specs.Statics.{replace}
use Rattle.ty_table.specs.TypeAt.{type_at}
use Rattle.ir_poly.specs.Tests.{poly}
use Rattle.ir_tables.specs.declared.tables.Tables.{Tables}
use Rattle.plain_tree.specs.declared.tree.Field.{Field}
use Rattle.plain_tree.specs.declared.tree.Function.{Function}
use Rattle.plain_tree.specs.declared.tree.Parameter.{Parameter}
use Rattle.plain_tree.specs.TreeOf.{atoms_of, row_of, FunctionTree}
use Rattle.tests_check.specs.Reads.{reading}
use Rattle.tests_check.proofs.Rolls.{function-parts}
use Rattle.monomorphise.specs.Monomorphise.{copy_of, copy_atoms, copy_row, atoms_needs, row_needs, fun_vars, funs_copy}
use Rattle.mono_close.specs.Closing.{standing}
use Rattle.mono_scopes.specs.Scopes.{variable}
use Rattle.mono_state.specs.of_mono_words.Words.{argument_sign, field_sign, function_sign, parameter_sign, end_sign, spell_atoms, spell_row, spell_heads}
use Rattle.mono_state.specs.of_mono_words.Seen.{Seen, with_sign, with_needs, within, out, made}
use Rattle.mono_state.proofs.of_mono_words.Making.{only-signs}
use Rattle.mono_state.specs.Seen.{Held, held_of, Later, types_in, name_in, seen}
use Rattle.mono_state.specs.Going.{Goes}
use Rattle.mono_state.specs.declared.copier.Copier.{Copier}
use Rattle.mono_state.proofs.Growing.{sooner}
use Rattle.mono_state.proofs.Going.{goes-then}
use Rattle.mono_parts.specs.Arms.{ParameterIs}
use Rattle.mono_parts.specs.Steps.{functions_in, parameters_entered, parameters_left}

-- arguments

pub record ArgumentsPut (old new : Copier) (xs : List ℕ) : Type 0 where
  pub goes : (sources : List Typ) → Goes sources old new
  pub put : (t : Tables) (ss : List (List ℕ)) (H : Held) → Later (held_of new) H
      → seen ss H new ≡ made (spell_atoms (copy_atoms (atoms_of (reading t) xs))) (atoms_needs (atoms_of (reading t) xs)) [] 0 (seen ss H old)

pub arguments-none : (old new : Copier) (xs : List ℕ) → xs ≡ [] → ((sources : List Typ) → Goes sources old new)
    → ((ss : List (List ℕ)) (H : Held) → seen ss H new ≡ with_sign end_sign (seen ss H old)) → ArgumentsPut old new xs
arguments-none old new xs e g p =
    let none : ArgumentsPut old new [] = record { goes = g; put = λ t ss H l. p ss H ∙ only-signs (λ ws. end_sign ∷ ws) (seen ss H old) } in
    subst (ArgumentsPut old new) (sym e) none

argument-put : (t : Tables) (x : ℕ) (xs : List ℕ) (n : Seen)
    → with_sign (argument_sign (copy_of x [])) (with_needs (copy_of x [] ∷ []) (made (spell_atoms (copy_atoms (atoms_of (reading t) xs))) (atoms_needs (atoms_of (reading t) xs)) [] 0 n))
    ≡ made (spell_atoms (copy_atoms (atoms_of (reading t) (x ∷ xs)))) (atoms_needs (atoms_of (reading t) (x ∷ xs))) [] 0 n
argument-put t x xs n = refl

pub arguments-more : (old now mid new : Copier) (xs all : List ℕ) (x k : ℕ) → all ≡ x ∷ xs → ArgumentsPut old now xs → ((sources : List Typ) → Goes sources now mid)
    → ((ss : List (List ℕ)) (H : Held) → Later (held_of mid) H → seen ss H mid ≡ with_needs (copy_of x [] ∷ []) (seen ss H now))
    → ((H : Held) → Later (held_of mid) H → name_in H k ≡ copy_of x [])
    → ((sources : List Typ) → Goes sources mid new) → ((ss : List (List ℕ)) (H : Held) → seen ss H new ≡ with_sign (argument_sign (name_in H k)) (seen ss H mid)) → ArgumentsPut old new all
arguments-more old now mid new xs all x k e a g noted is h p =
    let one : ArgumentsPut old new (x ∷ xs) = record {
      goes = λ sources. goes-then sources old now new (a.goes sources) (goes-then sources now mid new (g sources) (h sources));
      put = λ t ss H l.
          let m = sooner (h []).longer l in
          p ss H ∙ ap₂ (λ y z. with_sign (argument_sign y) z) (is H m) (noted ss H m ∙ ap (with_needs (copy_of x [] ∷ [])) (a.put t ss H (sooner (g []).longer m)))
          ∙ argument-put t x xs (seen ss H old);
    } in
    subst (ArgumentsPut old new) (sym e) one

-- fields

pub record FieldsPut (old new : Copier) (xs : List Field) : Type 0 where
  pub goes : (sources : List Typ) → Goes sources old new
  pub put : (t : Tables) (ss : List (List ℕ)) (H : Held) → Later (held_of new) H
      → seen ss H new ≡ made (spell_row (copy_row (row_of (reading t) xs))) (row_needs (row_of (reading t) xs)) [] 0 (seen ss H old)

pub fields-none : (old new : Copier) (xs : List Field) → xs ≡ [] → ((sources : List Typ) → Goes sources old new)
    → ((ss : List (List ℕ)) (H : Held) → seen ss H new ≡ with_sign end_sign (seen ss H old)) → FieldsPut old new xs
fields-none old new xs e g p =
    let none : FieldsPut old new [] = record { goes = g; put = λ t ss H l. p ss H ∙ only-signs (λ ws. end_sign ∷ ws) (seen ss H old) } in
    subst (FieldsPut old new) (sym e) none

field-put : (t : Tables) (x : Field) (xs : List Field) (n : Seen)
    → with_sign (field_sign x.label (copy_of x.atom [])) (with_needs (copy_of x.atom [] ∷ []) (made (spell_row (copy_row (row_of (reading t) xs))) (row_needs (row_of (reading t) xs)) [] 0 n))
    ≡ made (spell_row (copy_row (row_of (reading t) (x ∷ xs)))) (row_needs (row_of (reading t) (x ∷ xs))) [] 0 n
field-put t x xs n = refl

pub fields-more : (old now mid new : Copier) (xs all : List Field) (x : Field) (k : ℕ) → all ≡ x ∷ xs → FieldsPut old now xs → ((sources : List Typ) → Goes sources now mid)
    → ((ss : List (List ℕ)) (H : Held) → Later (held_of mid) H → seen ss H mid ≡ with_needs (copy_of x.atom [] ∷ []) (seen ss H now))
    → ((H : Held) → Later (held_of mid) H → name_in H k ≡ copy_of x.atom [])
    → ((sources : List Typ) → Goes sources mid new) → ((ss : List (List ℕ)) (H : Held) → seen ss H new ≡ with_sign (field_sign x.label (name_in H k)) (seen ss H mid)) → FieldsPut old new all
fields-more old now mid new xs all x k e a g noted is h p =
    let one : FieldsPut old new (x ∷ xs) = record {
      goes = λ sources. goes-then sources old now new (a.goes sources) (goes-then sources now mid new (g sources) (h sources));
      put = λ t ss H l.
          let m = sooner (h []).longer l in
          p ss H ∙ ap₂ (λ y z. with_sign (field_sign x.label y) z) (is H m) (noted ss H m ∙ ap (with_needs (copy_of x.atom [] ∷ [])) (a.put t ss H (sooner (g []).longer m)))
          ∙ field-put t x xs (seen ss H old);
    } in
    subst (FieldsPut old new) (sym e) one

-- names and types of functions

pub vars-more : (t : Tables) (f : Function) (fs : List Function) → fun_vars (functions_in t (f ∷ fs)) ≡ f.variable ∷ fun_vars (functions_in t fs)
vars-more t f fs = ap (λ (x : FunctionTree poly). x.variable ∷ fun_vars (functions_in t fs)) (function-parts (reading t) f)

pub record HeadsPut (t : Tables) (old new : Copier) (list : ℕ) (fs : List Function) : Type 0 where
  pub goes : Goes t.types old new
  pub put : (ss : List (List ℕ)) (H : Held) → Later (held_of new) H
      → seen ss H new ≡ made (spell_heads (funs_copy (types_in H list) [] (standing H.types old.slots) (functions_in t fs))) [] [] 0 (seen ss H old)

pub heads-none : (t : Tables) (old new : Copier) (list : ℕ) (fs : List Function) → fs ≡ [] → Goes t.types old new
    → ((ss : List (List ℕ)) (H : Held) → seen ss H new ≡ with_sign end_sign (seen ss H old)) → HeadsPut t old new list fs
heads-none t old new list fs e g p =
    let none : HeadsPut t old new list [] = record { goes = g; put = λ ss H l. p ss H ∙ only-signs (λ ws. end_sign ∷ ws) (seen ss H old) } in
    subst (HeadsPut t old new list) (sym e) none

head-put : (t : Tables) (a : List Typ) (s : ℕ → Typ) (f : Function) (fs : List Function) (n : Seen)
    → with_sign (function_sign (copy_of f.variable a) (replace s (type_at t.types f.ty))) (made (spell_heads (funs_copy a [] s (functions_in t fs))) [] [] 0 n)
    ≡ made (spell_heads (funs_copy a [] s (functions_in t (f ∷ fs)))) [] [] 0 n
head-put t a s f fs n =
    sym (ap (λ (x : FunctionTree poly). with_sign (function_sign (copy_of x.variable a) (replace s x.type)) (made (spell_heads (funs_copy a [] s (functions_in t fs))) [] [] 0 n)) (function-parts (reading t) f))

pub heads-more : (t : Tables) (old now mid last new : Copier) (list : ℕ) (fs all : List Function) (f : Function) (u k : ℕ) → all ≡ f ∷ fs → HeadsPut t old now list fs
    → Goes t.types now mid → ((ss : List (List ℕ)) (H : Held) → seen ss H mid ≡ seen ss H now)
    → ((H : Held) → Later (held_of mid) H → type_at H.types u ≡ replace (standing H.types now.slots) (type_at t.types f.ty))
    → Goes t.types mid last → ((ss : List (List ℕ)) (H : Held) → seen ss H last ≡ seen ss H mid) → ((H : Held) → Later (held_of last) H → name_in H k ≡ copy_of f.variable (types_in H list))
    → Goes t.types last new → ((ss : List (List ℕ)) (H : Held) → seen ss H new ≡ with_sign (function_sign (name_in H k) (type_at H.types u)) (seen ss H last)) → HeadsPut t old new list all
heads-more t old now mid last new list fs all f u k e a g same is h stays names p put =
    let one : HeadsPut t old new list (f ∷ fs) = record {
      goes = goes-then t.types old now new a.goes (goes-then t.types now mid new g (goes-then t.types mid last new h p));
      put = λ ss H l.
          let m = sooner p.longer l in
          let n = sooner h.longer m in
          put ss H
          ∙ (λ i. with_sign (function_sign (names H m i) ((is H n ∙ ap (λ z. replace (standing H.types z) (type_at t.types f.ty)) a.goes.slots) i)) ((stays ss H ∙ same ss H ∙ a.put ss H (sooner g.longer n)) i))
          ∙ head-put t (types_in H list) (standing H.types old.slots) f fs (seen ss H old);
    } in
    subst (HeadsPut t old new list) (sym e) one

-- parameters

pub entered-end : (xs : List Parameter) (x : Parameter) (n : Seen) → parameters_entered (xs ++ x ∷ []) n ≡ within (variable x.variable) (parameters_entered xs n)
entered-end [] x n = refl
entered-end (y ∷ xs) x n = entered-end xs x (within (variable y.variable) n)

pub entered-next : (xs : List Parameter) (i : ℕ) (d : Parameter) (n₀ n₁ n₂ : Seen) → i < length xs → n₁ ≡ parameters_entered (take i xs) n₀ → n₂ ≡ within (variable (get_or xs i d).variable) n₁
    → n₂ ≡ parameters_entered (take (i + 1) xs) n₀
entered-next xs i d n₀ n₁ n₂ lt p q =
    q ∙ ap (within (variable (get_or xs i d).variable)) p ∙ sym (entered-end (take i xs) (get_or xs i d) n₀) ∙ ap (λ l. parameters_entered l n₀) (sym (take_more xs i d lt))

pub entered-all : (xs : List Parameter) (i : ℕ) (n₀ n₁ : Seen) → length xs ≤ i → n₁ ≡ parameters_entered (take i xs) n₀ → n₁ ≡ parameters_entered xs n₀
entered-all xs i n₀ n₁ le p = p ∙ ap (λ l. parameters_entered l n₀) (take_all i xs le)

pub record ParametersLeft (t : Tables) (old new : Copier) (xs : List Parameter) : Type 0 where
  pub goes : Goes t.types old new
  pub left : (ss : List (List ℕ)) (H : Held) → Later (held_of new) H → seen ss H new ≡ parameters_left (standing H.types old.slots) t.types xs (seen ss H old)

pub left-none : (t : Tables) (old : Copier) (xs : List Parameter) → xs ≡ [] → Goes t.types old old → ParametersLeft t old old xs
left-none t old xs e g =
    let none : ParametersLeft t old old [] = record { goes = g; left = λ ss H l. refl } in
    subst (ParametersLeft t old old) (sym e) none

pub left-more : (t : Tables) (old now mid last new : Copier) (xs all : List Parameter) (x y : Parameter) → all ≡ x ∷ xs → ParametersLeft t old now xs
    → Goes t.types now mid → ((ss : List (List ℕ)) (H : Held) → seen ss H mid ≡ out (seen ss H now))
    → Goes t.types mid last → ((ss : List (List ℕ)) (H : Held) → seen ss H last ≡ seen ss H mid) → ((H : Held) → Later (held_of last) H → ParameterIs H (standing H.types mid.slots) t.types x y)
    → Goes t.types last new → ((ss : List (List ℕ)) (H : Held) → seen ss H new ≡ with_sign (parameter_sign (name_in H y.variable) (type_at H.types y.ty)) (seen ss H last)) → ParametersLeft t old new all
left-more t old now mid last new xs all x y e a g leaves h same is p put =
    let one : ParametersLeft t old new (x ∷ xs) = record {
      goes = goes-then t.types old now new a.goes (goes-then t.types now mid new g (goes-then t.types mid last new h p));
      left = λ ss H l.
          let m = sooner p.longer l in
          put ss H
          ∙ (λ i. with_sign (parameter_sign ((is H m).variable i) (((is H m).type ∙ ap (λ z. replace (standing H.types z) (type_at t.types x.ty)) (g.slots ∙ a.goes.slots)) i))
          ((same ss H ∙ leaves ss H ∙ ap out (a.left ss H (sooner g.longer (sooner h.longer m)))) i));
    } in
    subst (ParametersLeft t old new) (sym e) one
