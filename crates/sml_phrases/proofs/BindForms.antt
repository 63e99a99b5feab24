-- Bindings, part by part.
use Rattle.std.proofs.Common.{◌≡◌, ℕ, List, [], ◌∷◌, Option, Some, None, refl}
use Rattle.mlc_names.specs.declared.token.Reserved.{Reserved}
use Rattle.mlc_names.specs.declared.token.Reserved.TheVariants as res
use Rattle.sml_tree.specs.Terminal.{Terminal}
use Rattle.sml_tree.specs.Fixity.{Fixity}
use Rattle.sml_tree.specs.declared.ident.Tyvar.{Tyvar}
use Rattle.sml_tree.specs.declared.ident.Vid.{Vid}
use Rattle.sml_tree.specs.ReadTree.{Placed, Ty, ConBind}
use Rattle.sml_grammar.specs.Answer.{Answer, ok, bad, deep, read, then_read, Turn}
use Rattle.sml_grammar.specs.Terminals.{Taken, first_as, as_tycon, after_word, on_some, on_taken, then_taken, word_then, separated, NoState, no_state, binds_vid}
use Rattle.sml_grammar.specs.Types.{read_ty, maybe_ty}
use Rattle.sml_grammar.specs.Bindings.{read_tyvars, bound_tycon, type_bind_turn, con_turn, data_bind_turn, ex_bind_turn, ex_bind_rest, read_cons, precedence_then, as_digit}
use Rattle.sml_phrases.specs.BindingsRead.{read_type_bind, read_con, read_data_bind, read_ex_bind}
use Rattle.phrase_base.proofs.Elements.{Turns}

pub then-then : {A B C : Type 0} (x : Answer A) (f : A → B) (g : B → List Terminal → Answer C) → then_read x (λ a o. g (f a) o) ≡ then_read (then_read x (λ a o. read (f a) o)) g
then-then (ok r) f g = refl
then-then bad f g = refl
then-then deep f g = refl

bound-then : {A B : Type 0} (f : List Tyvar → ℕ → List Terminal → Answer A) (g : A → List Terminal → Answer B) (h : List Tyvar → ℕ → List Terminal → Answer B) → ((as_ : List Tyvar) (t : ℕ) (k : List Terminal) → h as_ t k ≡ then_read (f as_ t k) g) →
    (i : List Terminal) → bound_tycon h i ≡ then_read (bound_tycon f i) g
bound-then {A} {B} f g h is i = go (read_tyvars i)
  where
    equals : (as_ : List Tyvar) (t : ℕ) (x : Option (List Terminal)) → on_some x (h as_ t) bad ≡ then_read (on_some x (f as_ t) bad) g
    equals as_ t (Some k) = is as_ t k
    equals as_ t None = refl

    tycon : (as_ : List Tyvar) (x : Option (Taken (Placed ℕ))) → then_taken x (λ t k. word_then res.Equals (h as_ t.it) k) ≡ then_read (then_taken x (λ t k. word_then res.Equals (f as_ t.it) k)) g
    tycon as_ (Some x) = equals as_ x.it.it (after_word res.Equals x.rest)
    tycon as_ None = refl

    go : (x : Answer (List Tyvar)) → then_read x (λ as_ m. then_taken (first_as as_tycon m) (λ t k. word_then res.Equals (h as_ t.it) k)) ≡ then_read (then_read x (λ as_ m. then_taken (first_as as_tycon m) (λ t k. word_then res.Equals (f as_ t.it) k))) g
    go (ok r) = tycon r.tree (first_as as_tycon r.rest)
    go bad = refl
    go deep = refl

-- each turn reads one element

abbrev put_after : {A : Type 0} → Reserved → A → List Terminal → Answer (Turn (List A) NoState)
put_after w b o = separated (after_word w o) (λ bs. b ∷ bs) (b ∷ []) no_state o

pub type-turns : (n : ℕ) → Turns (type_bind_turn n) (read_type_bind n) res.And
type-turns n i = bound-then _ (λ b o. put_after res.And b o) _ (λ as_ t k. then-then (read_ty n 0 k) _ _) i

pub data-turns : (n : ℕ) (f : Fixity) → Turns (data_bind_turn n f) (read_data_bind n f) res.And
data-turns n f i = bound-then _ (λ b o. put_after res.And b o) _ (λ as_ t k. then-then (read_cons n f k) _ _) i

abbrev con_of : Placed Vid → Option Ty → ConBind
con_of v t = record { place = v.place; vid = v.it; of_ty = t }

pub con-turns : (n : ℕ) (f : Fixity) → Turns (con_turn n f) (read_con n f) res.Bar
con-turns n f i = go (binds_vid f i)
  where
    go : (x : Option (Taken (Placed Vid))) → then_taken x (λ v m. then_read (maybe_ty n (after_word res.Of m) m) (λ t o.
        put_after res.Bar (con_of v t) o)) ≡
        then_read (then_taken x (λ v m. then_read (maybe_ty n (after_word res.Of m) m) (λ t o. read (con_of v t) o))) (put_after res.Bar)
    go (Some x) = then-then (maybe_ty n (after_word res.Of x.rest) x.rest) _ _
    go None = refl

pub ex-turns : (n : ℕ) (f : Fixity) → Turns (ex_bind_turn n f) (read_ex_bind n f) res.And
ex-turns n f i = go (binds_vid f i)
  where
    go : (x : Option (Taken (Placed Vid))) → then_taken x (λ v m. then_read (ex_bind_rest n f v m) (put_after res.And)) ≡ then_read (then_taken x (ex_bind_rest n f)) (put_after res.And)
    go (Some x) = refl
    go None = refl
