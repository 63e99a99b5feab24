-- Sequences of type variables, and what stands before the `=` of a binding of a type.
use Rattle.std.proofs.Common.{◌≡◌, ℕ, zero, suc, ◌≤◌, ◌<◌, List, [], ◌∷◌, length, inl, inr, refl, sym, ap, ◌∙◌, subst, arith}
use Rattle.mlc_names.specs.declared.token.Reserved.TheVariants as res
use Rattle.sml_tree.specs.Terminal.{Terminal, reserved, type_var, IsTycon, alpha_tycon, symbol_tycon}
use Rattle.sml_tree.specs.declared.ident.Tyvar.{Tyvar}
use Rattle.sml_tree.specs.ReadTree.{Placed}
use Rattle.sml_tree.specs.Grammar.{TyvarCommas, last_tyvar, more_tyvars, Tyvars, no_tyvars, one_tyvar, tyvars_in_brackets, BeginsAt, at_tyvar, at_bracket, at_tycon, TyvarsPlace, at_declaration, at_sequence}
use Rattle.sml_grammar.specs.Begins.{BeginTyvars, with_one_tyvar, with_tyvar_paren}
use Rattle.sml_grammar.specs.Partial.{TyvarSeq, no_tyvar_here, some_tyvars}
use Rattle.sml_grammar.specs.Answer.{Read, Answer, ok, deep, read, then_read, Turn, last, more, many, whole}
use Rattle.sml_grammar.specs.Terminals.{place_at, first_as, as_tyvar, as_tycon, after_word, on_some, then_taken, word_then, NoState, no_state}
use Rattle.sml_grammar.specs.Bindings.{tyvar_turn, bracketed_tyvars, read_tyvars, tyvars_place, bound_tycon}
use Rattle.sml_grammar.proofs.Words.{WordAt, at_word, word-at}
use Rattle.sml_grammar.proofs.Answers.{got, then_ok, then_deep, not_deep, on_some-split, on_taken-split, then_taken-ok, then_taken-deep, word_then-ok, word_then-deep, GoodTurn, many-ok, many-far, many-last, many-more}
use Rattle.sml_grammar.proofs.Terminals.{Front, front, IsTyvar, is_tyvar, tyvar-is, tycon-is, tycon-found}

abbrev Commas : NoState → List Terminal → List Tyvar → List Terminal → Type 0
Commas s i as_ o = TyvarCommas i as_ o

abbrev after_tyvar : NoState → Tyvar → List Terminal → Answer (Turn (List Tyvar) NoState)
after_tyvar s a m = on_some (after_word res.Comma m) (λ o. read (more (λ as_. a ∷ as_) s) o) (word_then res.RightParen (λ o. read (last (a ∷ [])) o) m)

after_tyvar-ok : (s : NoState) (p : ℕ) (a : Tyvar) (m : List Terminal) (y : Read (Turn (List Tyvar) NoState)) → after_tyvar s a m ≡ ok y → GoodTurn Commas s (type_var p a ∷ m) y.tree y.rest
after_tyvar-ok s p a m y h =
    elim (on_some-split (after_word res.Comma m) (λ o. read (more (λ as_. a ∷ as_) s) o) (word_then res.RightParen (λ o. read (last (a ∷ [])) o) m) h) [
      | inl u ↦ subst (λ (z : Read (Turn (List Tyvar) NoState)). GoodTurn Commas s (type_var p a ∷ m) z.tree z.rest) (got u.2) (comma (word-at res.Comma m u.0 u.1))
      | inr u ↦ close (word_then-ok res.RightParen (λ o. read (last (a ∷ [])) o) m y u.1)
    ]
  where
    comma : {m o : List Terminal} → WordAt res.Comma m o → (as_ : List Tyvar) (k : List Terminal) → TyvarCommas o as_ k → TyvarCommas (type_var p a ∷ m) (a ∷ as_) k
    comma (at_word q) as_ k d = more_tyvars p q a d

    paren : {m o : List Terminal} → WordAt res.RightParen m o → TyvarCommas (type_var p a ∷ m) (a ∷ []) o
    paren (at_word q) = last_tyvar p q a

    close : (o : List Terminal) × WordAt res.RightParen m o × (read (last (a ∷ [])) o ≡ ok y) → GoodTurn Commas s (type_var p a ∷ m) y.tree y.rest
    close u = subst (λ (z : Read (Turn (List Tyvar) NoState)). GoodTurn Commas s (type_var p a ∷ m) z.tree z.rest) (got u.2) (paren u.1)

tyvar-turn-ok : (s : NoState) (i : List Terminal) (y : Read (Turn (List Tyvar) NoState)) → tyvar_turn s i ≡ ok y → GoodTurn Commas s i y.tree y.rest
tyvar-turn-ok s i y h = let t = then_taken-ok (first_as as_tyvar i) (λ a m. after_tyvar s a.it m) y h in go (tyvar-is i t.0 t.1 t.2) t.3
  where
    go : {i : List Terminal} {a : Placed Tyvar} {m : List Terminal} → Front IsTyvar i a m → after_tyvar s a.it m ≡ ok y → GoodTurn Commas s i y.tree y.rest
    go (front {o = m} (is_tyvar p a)) h = after_tyvar-ok s p a m y h

tyvar-turn-deep : {A : Type 0} (s : NoState) (i : List Terminal) → tyvar_turn s i ≡ deep → A
tyvar-turn-deep {A} s i h =
    let t = then_taken-deep (first_as as_tyvar i) (λ a m. after_tyvar s a.it m) h in
    elim (on_some-split (after_word res.Comma t.1) (λ o. read (more (λ as_. t.0.it ∷ as_) s) o) (word_then res.RightParen (λ o. read (last (t.0.it ∷ [])) o) t.1) t.3) [
      | inl u ↦ not_deep u.2
      | inr u ↦ let v = word_then-deep res.RightParen (λ o. read (last (t.0.it ∷ [])) o) t.1 u.1 in not_deep v.2
    ]

brackets-ok : {i o : List Terminal} → WordAt res.LeftParen i o → (y : Read (List Tyvar)) → bracketed_tyvars i o ≡ ok y → Tyvars i y.tree y.rest
brackets-ok {o} (at_word p) y h =
    elim (on_taken-split (first_as as_tyvar o) (λ a k. whole tyvar_turn no_state o) (read [] (reserved p res.LeftParen ∷ o)) h) [
      | inl u ↦ tyvars_in_brackets p (many-ok tyvar_turn Commas tyvar-turn-ok (suc (length o)) no_state o y u.3)
      | inr u ↦ subst (λ (z : Read (List Tyvar)). Tyvars (reserved p res.LeftParen ∷ o) z.tree z.rest) (got u.1) no_tyvars
    ]

pub tyvars-sound : (i : List Terminal) (y : Read (List Tyvar)) → read_tyvars i ≡ ok y → Tyvars i y.tree y.rest
tyvars-sound i y h =
    elim (on_taken-split (first_as as_tyvar i) (λ a o. read (a.it ∷ []) o) (on_some (after_word res.LeftParen i) (bracketed_tyvars i) (read [] i)) h) [
      | inl t ↦ subst (λ (z : Read (List Tyvar)). Tyvars i z.tree z.rest) (got t.3) (one (tyvar-is i t.0 t.1 t.2))
      | inr t ↦ elim (on_some-split (after_word res.LeftParen i) (bracketed_tyvars i) (read [] i) t.1) [
        | inl u ↦ brackets-ok (word-at res.LeftParen i u.0 u.1) y u.2
        | inr u ↦ subst (λ (z : Read (List Tyvar)). Tyvars i z.tree z.rest) (got u.1) no_tyvars
      ]
    ]
  where
    one : {i : List Terminal} {a : Placed Tyvar} {m : List Terminal} → Front IsTyvar i a m → Tyvars i (a.it ∷ []) m
    one (front (is_tyvar p a)) = one_tyvar p a

pub tyvars-never-deep : {A : Type 0} (i : List Terminal) → read_tyvars i ≡ deep → A
tyvars-never-deep {A} i h =
    elim (on_taken-split (first_as as_tyvar i) (λ a o. read (a.it ∷ []) o) (on_some (after_word res.LeftParen i) (bracketed_tyvars i) (read [] i)) h) [
      | inl t ↦ not_deep t.3
      | inr t ↦ elim (on_some-split (after_word res.LeftParen i) (bracketed_tyvars i) (read [] i) t.1) [ inl u ↦ inner u.0 u.2 | inr u ↦ not_deep u.1 ]
    ]
  where
    inner : (m : List Terminal) → bracketed_tyvars i m ≡ deep → A
    inner m h =
        elim (on_taken-split (first_as as_tyvar m) (λ a o. whole tyvar_turn no_state m) (read [] i) h) [
          | inl u ↦ many-far tyvar_turn (λ s m. A) (λ s k e. tyvar-turn-deep s k e) (λ s k put t o e a. a) (suc (length m)) no_state m u.3
          | inr u ↦ not_deep u.1
        ]

commas-complete : {i o : List Terminal} {as_ : List Tyvar} → TyvarCommas i as_ o → (k : ℕ) → length i < k → many tyvar_turn k no_state i ≡ read as_ o
commas-complete d zero lt = absurd (omega arith)
commas-complete (last_tyvar p q a) (suc k) lt = many-last tyvar_turn k refl
commas-complete (more_tyvars p q a d) (suc k) lt = many-more tyvar_turn k refl (commas-complete d k (omega arith))

brackets-complete : (p : ℕ) {i o : List Terminal} {as_ : List Tyvar} → TyvarCommas i as_ o → read_tyvars (reserved p res.LeftParen ∷ i) ≡ read as_ o
brackets-complete p (last_tyvar {o} q r a) = commas-complete (last_tyvar {o = o} q r a) (suc (length (type_var q a ∷ reserved r res.RightParen ∷ o))) (omega arith)
brackets-complete p (more_tyvars {i} q r a d) = commas-complete (more_tyvars q r a d) (suc (length (type_var q a ∷ reserved r res.Comma ∷ i))) (omega arith)

pub tyvars-complete : {i m : List Terminal} {as_ : List Tyvar} → Tyvars i as_ m → read_tyvars m ≡ read [] m → read_tyvars i ≡ read as_ m
tyvars-complete no_tyvars e = e
tyvars-complete (one_tyvar p a) e = refl
tyvars-complete (tyvars_in_brackets p d) e = brackets-complete p d

-- the sequence that is read where no bracket and no type variable are left over

not-commas : {A : Type 0} {i o : List Terminal} → TyvarCommas i [] o → A
not-commas {A} d = go d refl
  where
    go : {i o : List Terminal} {as_ : List Tyvar} → TyvarCommas i as_ o → as_ ≡ [] → A
    go (last_tyvar p q a) e = absurd (cc)
    go (more_tyvars p q a d) e = absurd (cc)

empty-rest : {i m : List Terminal} {as_ : List Tyvar} → Tyvars i as_ m → as_ ≡ [] → m ≡ i
empty-rest no_tyvars e = refl
empty-rest (one_tyvar p a) e = absurd (cc)
empty-rest (tyvars_in_brackets {i} {o} p d) e = not-commas (subst (λ (z : List Tyvar). TyvarCommas i z o) e d)

begin-some : {i m : List Terminal} → BeginTyvars i → read_tyvars i ≡ read [] m → ⊥
begin-some (with_one_tyvar p a) h = let e : (a ∷ []) ≡ [] = ap (λ z. z.tree) (got h) in absurd (cc)
begin-some {m} (with_tyvar_paren {o} p q a) h =
    not-commas (many-ok tyvar_turn Commas tyvar-turn-ok (suc (length (type_var q a ∷ o))) no_state (type_var q a ∷ o) (record { tree = []; rest = m }) h)

pub tyvars-here : {i m : List Terminal} {as_ : List Tyvar} → read_tyvars i ≡ read as_ m → TyvarSeq i as_ m
tyvars-here {i} {m} {as_} h = go as_ h
  where
    go : (xs : List Tyvar) → read_tyvars i ≡ read xs m → TyvarSeq i xs m
    go [] e =
        let s : m ≡ i = empty-rest (tyvars-sound i (record { tree = []; rest = m }) e) refl in
        subst (λ (z : List Terminal). TyvarSeq z [] m) s (no_tyvar_here (subst (λ (z : List Terminal). BeginTyvars z → ⊥) (sym s) (λ b. begin-some b e)))
    go (a ∷ xs) e = some_tyvars (tyvars-sound i (record { tree = a ∷ xs; rest = m }) e)

none-begin : (i : List Terminal) → (BeginTyvars i → ⊥) → read_tyvars i ≡ read [] i
none-begin (type_var p a ∷ o) none = absurd (none (with_one_tyvar p a))
none-begin (reserved p res.LeftParen ∷ type_var q a ∷ o) none = absurd (none (with_tyvar_paren p q a))
none-begin _ none = refl

pub tyvars-found : {i m : List Terminal} {as_ : List Tyvar} → TyvarSeq i as_ m → read_tyvars i ≡ read as_ m
tyvars-found (no_tyvar_here {o} none) = none-begin o none
tyvars-found (some_tyvars {a} {as_} d) = go d refl
  where
    go : {i o : List Terminal} {xs : List Tyvar} → Tyvars i xs o → xs ≡ a ∷ as_ → read_tyvars i ≡ read xs o
    go no_tyvars e = absurd (cc)
    go (one_tyvar p b) e = refl
    go (tyvars_in_brackets p d) e = brackets-complete p d

commas-shorter : {i o : List Terminal} {as_ : List Tyvar} → TyvarCommas i as_ o → length o < length i
commas-shorter (last_tyvar p q a) = omega arith
commas-shorter (more_tyvars p q a d) = let s = commas-shorter d in omega arith

pub tyvars-shorter : {i o : List Terminal} {as_ : List Tyvar} → Tyvars i as_ o → length o ≤ length i
tyvars-shorter no_tyvars = omega arith
tyvars-shorter (one_tyvar p a) = omega arith
tyvars-shorter (tyvars_in_brackets p d) = let s = commas-shorter d in omega arith

-- the place of the first byte

pub begins-place : {i : List Terminal} {p : ℕ} → BeginsAt i p → place_at i ≡ p
begins-place (at_tyvar p a) = refl
begins-place (at_bracket p) = refl
begins-place (at_tycon (alpha_tycon p x)) = refl
begins-place (at_tycon (symbol_tycon p x)) = refl

-- the place of a sequence

pub place-is : (p : ℕ) {i m : List Terminal} {as_ : List Tyvar} → Tyvars i as_ m → TyvarsPlace p i as_ (tyvars_place p i as_)
place-is p no_tyvars = at_declaration
place-is p (one_tyvar q a) = at_sequence (at_tyvar q a)
place-is p (tyvars_in_brackets q (last_tyvar r s a)) = at_sequence (at_bracket q)
place-is p (tyvars_in_brackets q (more_tyvars r s a d)) = at_sequence (at_bracket q)

pub place-found : {p : ℕ} {i : List Terminal} {as_ : List Tyvar} {q : ℕ} → TyvarsPlace p i as_ q → tyvars_place p i as_ ≡ q
place-found at_declaration = refl
place-found (at_sequence b) = begins-place b

-- type variables, a type constructor and `=`, and the terminals after them
pub data Bound : List Terminal → List Tyvar → ℕ → List Terminal → Type 0 where
  bound : {i m : List Terminal} {t : Terminal} {as_ : List Tyvar} {q x : ℕ} (r : ℕ) → Tyvars i as_ (t ∷ reserved r res.Equals ∷ m) → IsTycon t q x → Bound i as_ x m

pub bound-begins : {i m : List Terminal} {as_ : List Tyvar} {x : ℕ} → Bound i as_ x m → BeginsAt i (place_at i)
bound-begins (bound r no_tyvars (alpha_tycon p x)) = at_tycon (alpha_tycon p x)
bound-begins (bound r no_tyvars (symbol_tycon p x)) = at_tycon (symbol_tycon p x)
bound-begins (bound r (one_tyvar p a) c) = at_tyvar p a
bound-begins (bound r (tyvars_in_brackets p d) c) = at_bracket p

pub bound-shorter : {i m : List Terminal} {as_ : List Tyvar} {x : ℕ} → Bound i as_ x m → length m < length i
bound-shorter (bound r d c) = let s = tyvars-shorter d in omega arith

abbrev after_bound : {A : Type 0} → (List Tyvar → ℕ → List Terminal → Answer A) → List Tyvar → List Terminal → Answer A
after_bound g as_ m = then_taken (first_as as_tycon m) (λ t k. word_then res.Equals (g as_ t.it) k)

-- what is read after the `=`, and from where
abbrev pub BoundThen : {A : Type 0} → (List Tyvar → ℕ → List Terminal → Answer A) → List Terminal → Answer A → Type 0
BoundThen g i z = (as_ : List Tyvar) × (x : ℕ) × (m : List Terminal) × Bound i as_ x m × (g as_ x m ≡ z)

bound-end : {i k m : List Terminal} {as_ : List Tyvar} {t : Placed ℕ} {o : List Terminal} → Tyvars i as_ k → Front IsTycon k t o → WordAt res.Equals o m → Bound i as_ t.it m
bound-end d (front c) (at_word r) = bound r d c

pub bound-ok : {A : Type 0} (g : List Tyvar → ℕ → List Terminal → Answer A) (i : List Terminal) (y : Read A) → bound_tycon g i ≡ ok y → BoundThen g i (ok y)
bound-ok g i y h =
    let t = then_ok (read_tyvars i) (after_bound g) y h in
    let c = then_taken-ok (first_as as_tycon t.0.rest) (λ c k. word_then res.Equals (g t.0.tree c.it) k) y t.2 in
    let w = word_then-ok res.Equals (g t.0.tree c.0.it) c.1 y c.3 in
    (t.0.tree, c.0.it, w.0, bound-end (tyvars-sound i t.0 t.1) (tycon-is t.0.rest c.0 c.1 c.2) w.1, w.2)

pub bound-deep : {A : Type 0} (g : List Tyvar → ℕ → List Terminal → Answer A) (i : List Terminal) → bound_tycon g i ≡ deep → BoundThen g i deep
bound-deep g i h =
    elim (then_deep (read_tyvars i) (after_bound g) h) [
      | inl e ↦ tyvars-never-deep i e
      | inr t ↦
          let c = then_taken-deep (first_as as_tycon t.0.rest) (λ c k. word_then res.Equals (g t.0.tree c.it) k) t.2 in
          let w = word_then-deep res.Equals (g t.0.tree c.0.it) c.1 c.3 in
          (t.0.tree, c.0.it, w.0, bound-end (tyvars-sound i t.0 t.1) (tycon-is t.0.rest c.0 c.1 c.2) w.1, w.2)
    ]

tycon-tyvars : {t : Terminal} {q x : ℕ} → IsTycon t q x → (o : List Terminal) → read_tyvars (t ∷ o) ≡ read [] (t ∷ o)
tycon-tyvars (alpha_tycon p x) o = refl
tycon-tyvars (symbol_tycon p x) o = refl

pub bound-step : {A : Type 0} (g : List Tyvar → ℕ → List Terminal → Answer A) {i m : List Terminal} {as_ : List Tyvar} {x : ℕ} → Bound i as_ x m → bound_tycon g i ≡ g as_ x m
bound-step g {m} {as_} (bound {t} r d c) =
    let e = tyvars-complete d (tycon-tyvars c (reserved r res.Equals ∷ m)) in
    ap (λ z. then_read z (after_bound g)) e ∙ ap (λ z. then_taken z (λ c k. word_then res.Equals (g as_ c.it) k)) (tycon-found c (reserved r res.Equals ∷ m))
