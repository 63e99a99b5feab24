-- The context where a `local` ends.
use Rattle.std.proofs.Common.{◌≡◌, ◌-◌, ℕ, List, [], ◌∷◌, ◌++◌, length, drop, take, refl, sym, ap, ◌∙◌, arith}
use Rattle.std.proofs.lemmas.List.{append_assoc, length-append}
use Rattle.vid_scope.specs.Entries.{Undoes, with_entries}
use Rattle.vid_scope.specs.declared.vids.VidScope.{VidScope}
use Rattle.sml_tree.specs.declared.ident.Vid.{Vid}
use Rattle.elab_types.specs.Reading.{left_at}
use Rattle.elab_types.specs.declared.scope.TypeEntry.{TypeEntry}
use Rattle.elab_types.specs.declared.scope.TypeScope.{TypeScope}
use Rattle.exp_forms.specs.of_elab_context.Schemes.{SchemeList}
use Rattle.exp_forms.specs.of_elab_context.declared.context.Context.{Context}
use Rattle.exp_forms.specs.of_elab_context.declared.entry.Entry.{Entry}
use Rattle.dec_forms.specs.Telling.{with_all}
use Rattle.dec_forms.specs.Entries.{Adds, type_scope, types_onto, with_types}
use Rattle.dec_forms.specs.declared.brought.Brought.{Brought}
use Rattle.dec_forms.specs.Local.{block_mark_in, mark_in, shown_in}
use Rattle.dec_forms.specs.declared.block.BlockMark.{BlockMark}
use Rattle.dec_forms.specs.declared.local.LocalMark.{LocalMark}

-- a list with others in front of it

record Front (s : List (ℕ × TypeEntry)) (l : List (ℕ × TypeEntry)) : Type 0 where
  front : List (ℕ × TypeEntry)
  is : l ≡ front ++ s

onto-front : (s ts : List (ℕ × TypeEntry)) → Front s (types_onto s ts)
onto-front s [] = record { front = []; is = refl }
onto-front s (t ∷ ts) =
    let f = onto-front (t ∷ s) ts in
    record { front = f.front ++ t ∷ []; is = f.is ∙ sym (append_assoc f.front (t ∷ []) s) }

drop-front : {A : Type 0} (xs ys : List A) → drop (length (xs ++ ys) - length ys) (xs ++ ys) ≡ ys
drop-front xs ys =
    let e : length (xs ++ ys) - length ys ≡ length xs = let l = length-append xs ys in omega (arith, l) in
    ap (λ n. drop n (xs ++ ys)) e ∙ past xs ys
  where
    past : {A : Type 0} (xs ys : List A) → drop (length xs) (xs ++ ys) ≡ ys
    past [] ys = refl
    past (x ∷ xs) ys = past xs ys

types-left : (s ts l : List (ℕ × TypeEntry)) → l ≡ types_onto s ts → left_at (length s) l ≡ s
types-left s ts l e =
    let f = onto-front s ts in ap (left_at (length s)) (e ∙ f.is) ∙ drop-front f.front s

tyvars-left : (s l : List (ℕ × ℕ)) → l ≡ s → left_at (length s) l ≡ s
tyvars-left s l e = ap (left_at (length s)) e ∙ drop-front [] s

-- left, and with what is shown
pub ended : (C E F : Context) (es : List (Vid × Entry)) (ts : List (ℕ × TypeEntry)) (m : LocalMark) (vs : VidScope Entry) (us : TypeScope) (K L : Context) (b : Brought) → m ≡ mark_in C
    → Adds C E es ts → Undoes E.values m.values vs → us.tyvars ≡ left_at m.types.tyvars E.types.tyvars → us.types ≡ left_at m.types.types E.types.types
    → K ≡ record E { values = vs; types = us } → L ≡ with_all K b.values.items → F ≡ with_types L b.types.items → F ≡ shown_in C E b
ended C E F es ts m vs us K L b e a u tv ty k l f =
    let v : vs ≡ C.values = u C.values es (ap (λ (z : LocalMark). z.values) e) a.values in
    let x : us.tyvars ≡ C.types.tyvars = tv ∙ ap (λ (z : LocalMark). left_at z.types.tyvars E.types.tyvars) e ∙ tyvars-left C.types.tyvars E.types.tyvars a.tyvars in
    let y : us.types ≡ C.types.types = ty ∙ ap (λ (z : LocalMark). left_at z.types.types E.types.types) e ∙ types-left C.types.types ts E.types.types a.types in
    f ∙ ap (λ (z : Context). with_types z b.types.items) (l ∙ ap (λ (z : Context). with_all z b.values.items) k)
    ∙ λ i. record E { values = with_entries (v i) b.values.items; types = type_scope (x i) (types_onto (y i) b.types.items) }

-- left, with all that a `let` brought
pub block_left : (C E N : Context) (es : List (Vid × Entry)) (ts : List (ℕ × TypeEntry)) (m : BlockMark) (vs : VidScope Entry) (us : TypeScope) (ns : List (ℕ × ℕ)) (ss : SchemeList)
    → m ≡ block_mark_in C → Adds C E es ts → Undoes E.values m.local.values vs → us.tyvars ≡ left_at m.local.types.tyvars E.types.tyvars
    → us.types ≡ left_at m.local.types.types E.types.types → ns ≡ drop (length E.numbers - m.numbers) E.numbers
    → ss.items ≡ take m.schemes E.schemes.items → N ≡ record E { values = vs; types = us; names = m.names; naming = m.naming; numbers = ns; schemes = ss } → N ≡ C
block_left C E N es ts m vs us ns ss e a u tv ty nu sc is =
    let v : vs ≡ C.values = u C.values es (ap (λ (z : BlockMark). z.local.values) e) a.values in
    let x : us.tyvars ≡ C.types.tyvars = tv ∙ ap (λ (z : BlockMark). left_at z.local.types.tyvars E.types.tyvars) e ∙ tyvars-left C.types.tyvars E.types.tyvars a.tyvars in
    let y : us.types ≡ C.types.types = ty ∙ ap (λ (z : BlockMark). left_at z.local.types.types E.types.types) e ∙ types-left C.types.types ts E.types.types a.types in
    let n : ns ≡ C.numbers =
    nu ∙ ap (λ (z : BlockMark). drop (length E.numbers - z.numbers) E.numbers) e ∙ ap (λ l. drop (length l - length C.numbers) l) a.numbers.is
    ∙ drop-front a.numbers.own C.numbers in
    let s : ss.items ≡ C.schemes.items = sc ∙ ap (λ (z : BlockMark). take z.schemes E.schemes.items) e ∙ a.schemes in
    let c : m.names ≡ C.names = ap (λ (z : BlockMark). z.names) e in
    let g : m.naming ≡ C.naming = ap (λ (z : BlockMark). z.naming) e in
    is ∙ ap (λ (z : Context). record z { values = vs; types = us; names = m.names; naming = m.naming; numbers = ns; schemes = ss }) a.rest
    ∙ λ i. record C { values = v i; types = type_scope (x i) (y i); schemes = record { items = s i }; names = c i; naming = g i; numbers = n i }
