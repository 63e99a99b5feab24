-- Reading a long identifier.
use Rattle.std.proofs.Common.{◌≡◌, ℕ, zero, suc, ◌+◌, ◌<◌, ◌==◌, Bool, true, false, List, [], ◌∷◌, ◌++◌, inl, inr, length, get_or, map, take, drop, if◌then◌else◌, refl, arith, sym, ap, ◌∙◌, eq-eqb}
use Rattle.std.specs.Prelude.{All}
use Rattle.std.proofs.lemmas.Bool.{cases_lt}
use Rattle.std.proofs.lemmas.List.{at_drop_more, drop_all, drop-drop, get_or_past, map-append}
use Rattle.sml_lexer.specs.declared.identifiers.Part.TheVariants.{Letters, Symbols, Nothing}
use Rattle.sml_lexer.specs.Lexeme.{long_symbol, text_of}
use Rattle.sml_lexer.specs.NameTable.{Keeps}
use Rattle.sml_lexer.proofs.NameLemmas.{text_stays, texts_stay}
use Rattle.sml_lexer.specs.Item.{found}
use Rattle.sml_lexer.specs.Identifiers.{by_part, named, next_part, qualified}

-- bytes that belong to the identifier before are skipped
pub skip : (n : ℕ) (qs : List (List ℕ)) (name text : List ℕ) → qualified n qs name text ≡ qualified 0 qs name (drop n text)
skip zero qs name text = refl
skip (suc n) qs name [] = refl
skip (suc n) qs name (c ∷ text) = skip n qs name text

-- at a byte of the text
at_byte : (qs : List (List ℕ)) (name text : List ℕ) (at : ℕ) → at < length text → qualified 0 qs name (drop at text) ≡ (if get_or text at 0 == 46 then by_part (λ len. qualified len (qs ++ name ∷ []) (take len (drop (at + 1) text)) (drop (at + 1) text)) (λ len. found (long_symbol (qs ++ name ∷ []) (take len (drop (at + 1) text))) (drop len (drop (at + 1) text))) (found (named qs name) (drop at text)) (next_part (drop (at + 1) text)) else found (named qs name) (drop at text))
at_byte qs name text at h =
    at_drop_more (qualified 0 qs name) text at 0 h ∙ rw (at_drop_more (λ r. found (named qs name) r) text at 0 h) refl

pub goes_on : (qs : List (List ℕ)) (name text : List ℕ) (at len : ℕ) → at < length text → (get_or text at 0 == 46) ≡ true → next_part (drop (at + 1) text) ≡ Letters len → qualified 0 qs name (drop at text) ≡ qualified 0 (qs ++ name ∷ []) (take len (drop (at + 1) text)) (drop (at + (1 + len)) text)
goes_on qs name text at len h e f =
    let place : at + 1 + len ≡ at + (1 + len) = omega arith in
    let longer = qs ++ name ∷ [] in
    let next = take len (drop (at + 1) text) in
    at_byte qs name text at h ∙ rw (e, f) (skip len longer next (drop (at + 1) text)) ∙ ap (qualified 0 longer next) (drop-drop len (at + 1) text ∙ ap (λ k. drop k text) place)

pub ends_in_symbol : (qs : List (List ℕ)) (name text : List ℕ) (at len : ℕ) → at < length text → (get_or text at 0 == 46) ≡ true → next_part (drop (at + 1) text) ≡ Symbols len → qualified 0 qs name (drop at text) ≡ found (long_symbol (qs ++ name ∷ []) (take len (drop (at + 1) text))) (drop (at + 1 + len) text)
ends_in_symbol qs name text at len h e f =
    let next = take len (drop (at + 1) text) in
    at_byte qs name text at h ∙ rw (e, f) (ap (found (long_symbol (qs ++ name ∷ []) next)) (drop-drop len (at + 1) text))

either : {A : Type 0} {x : A} (b : Bool) → (if b then x else x) ≡ x
either true = refl
either false = refl

pub ends_at_dot : (qs : List (List ℕ)) (name text : List ℕ) (at : ℕ) → at < length text → next_part (drop (at + 1) text) ≡ Nothing → qualified 0 qs name (drop at text) ≡ found (named qs name) (drop at text)
ends_at_dot qs name text at h f = at_byte qs name text at h ∙ rw f (either (get_or text at 0 == 46))

-- no dot follows
pub ends : (qs : List (List ℕ)) (name text : List ℕ) (at : ℕ) → (get_or text at 0 == 46) ≡ false → qualified 0 qs name (drop at text) ≡ found (named qs name) (drop at text)
ends qs name text at e =
    elim (cases_lt at (length text)) as (λ _. qualified 0 qs name (drop at text) ≡ found (named qs name) (drop at text)) [
      | inl h ↦ at_byte qs name text at h ∙ rw e refl
      | inr h ↦ rw (drop_all at text h) refl
    ]

-- a dot lies within the text
pub dot_within : (text : List ℕ) (at : ℕ) → get_or text at 0 ≡ 46 → at < length text
dot_within text at e =
    elim (cases_lt at (length text)) as (λ _. at < length text) [
      | inl h ↦ h
      | inr h ↦ absurd (omega (arith, get_or_past text at 0 h))
    ]

-- one structure identifier more
pub pushed : (a b : List (List ℕ)) (qs : List ℕ) (name : ℕ) → Keeps a b → All (λ q. q < length a) qs → name < length a → map (text_of b) (qs ++ name ∷ []) ≡ map (text_of a) qs ++ text_of a name ∷ []
pushed a b qs name k held h =
    let last = text_stays a b name k h in
    let others = texts_stay a b qs k held in
    map-append (text_of b) qs (name ∷ []) ∙ ap (λ ts. ts ++ text_of b name ∷ []) others ∙ ap (λ t. map (text_of a) qs ++ t ∷ []) last

-- one identifier more, of which the names after hold the text
pub reads_letters : (a b : List (List ℕ)) (qs qs' : List ℕ) (name next : ℕ) (text : List ℕ) (at len : ℕ) → Keeps a b → All (λ q. q < length a) qs → name < length a → qs' ≡ qs ++ name ∷ [] → text_of b next ≡ take len (drop (at + 1) text) → get_or text at 0 ≡ 46 → next_part (drop (at + 1) text) ≡ Letters len → qualified 0 (map (text_of a) qs) (text_of a name) (drop at text) ≡ qualified 0 (map (text_of b) qs') (text_of b next) (drop (at + (1 + len)) text)
reads_letters a b qs qs' name next text at len k held h e t dot part =
    let lt = dot_within text at dot in
    let longer : map (text_of b) qs' ≡ map (text_of a) qs ++ text_of a name ∷ [] = ap (map (text_of b)) e ∙ pushed a b qs name k held h in
    let step = goes_on (map (text_of a) qs) (text_of a name) text at len lt (eq-eqb _ _ dot) part in
    step ∙ ap (λ ts. qualified 0 ts (take len (drop (at + 1) text)) (drop (at + (1 + len)) text)) (sym longer) ∙ ap (λ t. qualified 0 (map (text_of b) qs') t (drop (at + (1 + len)) text)) (sym t)

pub reads_symbols : (a b : List (List ℕ)) (qs qs' : List ℕ) (name next : ℕ) (text : List ℕ) (at len : ℕ) → Keeps a b → All (λ q. q < length a) qs → name < length a → qs' ≡ qs ++ name ∷ [] → text_of b next ≡ take len (drop (at + 1) text) → get_or text at 0 ≡ 46 → next_part (drop (at + 1) text) ≡ Symbols len → found (long_symbol (map (text_of b) qs') (text_of b next)) (drop (at + 1 + len) text) ≡ qualified 0 (map (text_of a) qs) (text_of a name) (drop at text)
reads_symbols a b qs qs' name next text at len k held h e t dot part =
    let lt = dot_within text at dot in
    let longer : map (text_of b) qs' ≡ map (text_of a) qs ++ text_of a name ∷ [] = ap (map (text_of b)) e ∙ pushed a b qs name k held h in
    let step = ends_in_symbol (map (text_of a) qs) (text_of a name) text at len lt (eq-eqb _ _ dot) part in
    sym (step ∙ ap (λ ts. found (long_symbol ts (take len (drop (at + 1) text))) (drop (at + 1 + len) text)) (sym longer) ∙ ap (λ t. found (long_symbol (map (text_of b) qs') t) (drop (at + 1 + len) text)) (sym t))
