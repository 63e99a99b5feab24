-- Names that stay held.
use Rattle.std.proofs.Common.{◌≡◌, ℕ, ◌<◌, ◌≤◌, List, [], ◌∷◌, length, get_or, take, map, refl, arith, sym, ap, ◌∙◌, length-take}
use Rattle.std.specs.Prelude.{All}
use Rattle.std.proofs.lemmas.List.{get_or-take, take-take, take_all}
use Rattle.std.proofs.lemmas.List.Elements.{All-head, All-tail, All-weaker}
use Rattle.sml_lexer.specs.Lexeme.{text_of}
use Rattle.sml_lexer.specs.NameTable.{Keeps}

pub keeps_same : (a : List (List ℕ)) → Keeps a a
keeps_same a = record { held = take_all (length a) a (omega arith); apart = λ h. h }

pub keeps_no_fewer : (a b : List (List ℕ)) → Keeps a b → length a ≤ length b
keeps_no_fewer a b h = omega (arith, ap length h.held, length-take (length a) b)

pub keeps_on : (a b c : List (List ℕ)) → Keeps a b → Keeps b c → Keeps a c
keeps_on a b c h k =
    let no_fewer = keeps_no_fewer a b h in
    record { held = sym (take-take (length a) (length b) c no_fewer) ∙ ap (take (length a)) k.held ∙ h.held; apart = λ x. k.apart (h.apart x) }

pub held_stays : (a b : List (List ℕ)) (name : ℕ) → Keeps a b → name < length a → name < length b
held_stays a b name h n = omega (arith, keeps_no_fewer a b h)

pub text_stays : (a b : List (List ℕ)) (name : ℕ) → Keeps a b → name < length a → text_of b name ≡ text_of a name
text_stays a b name h n = sym (get_or-take (length a) b name [] n) ∙ ap (λ l. get_or l name []) h.held

pub texts_stay : (a b : List (List ℕ)) (qs : List ℕ) → Keeps a b → All (λ q. q < length a) qs → map (text_of b) qs ≡ map (text_of a) qs
texts_stay a b [] h n = refl
texts_stay a b (q ∷ qs) h n =
    let first = text_stays a b q h (All-head (λ x. x < length a) q qs n) in
    let others = texts_stay a b qs h (All-tail (λ x. x < length a) q qs n) in
    ap (λ t. t ∷ map (text_of b) qs) first ∙ ap (λ ts. text_of a q ∷ ts) others

pub all_held_stay : (a b : List (List ℕ)) (qs : List ℕ) → Keeps a b → All (λ q. q < length a) qs → All (λ q. q < length b) qs
all_held_stay a b qs h n = All-weaker (λ q. q < length a) (λ q. q < length b) (λ q k. held_stays a b q h k) qs n
