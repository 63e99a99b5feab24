-- What patterns begin with, and what may follow them.
use Rattle.std.proofs.Common.{◌≡◌, ℕ, suc, ◌≤◌, ◌<◌, List, [], ◌∷◌, Option, Some, None, Bool, true, false, refl, sym, ap, ◌∙◌, arith, nat_le}
use Rattle.std.proofs.lemmas.Bool.{leb-false, lt-leb}
use Rattle.mlc_names.specs.declared.token.Reserved.{Reserved}
use Rattle.mlc_names.specs.declared.token.Reserved.TheVariants as res
use Rattle.sml_tree.specs.declared.ident.Vid.{Vid}
use Rattle.sml_tree.specs.declared.ident.Vid.TheVariants.{Named}
use Rattle.sml_tree.specs.declared.fixity.Infix.{Infix}
use Rattle.sml_tree.specs.Fixity.{Fixity, fix_of}
use Rattle.sml_tree.specs.Terminal.{Constant, LongVid, Terminal, reserved, number, constant, IsConstant, is_number, is_constant, IsVid, alpha_vid, symbol_vid, star_vid, long_alpha_vid, long_symbol_vid, long_star_vid}
use Rattle.sml_tree.specs.ReadTree.{Placed}
use Rattle.sml_tree.specs.Levels.{infix_level, vid_level}
use Rattle.sml_tree.specs.Grammar.{NamesVid, plain_long, qualified, op_long, IsInfixVid}
use Rattle.sml_grammar.specs.Terminals.{Taken, place_at, after_word, on_taken, infix_vid, names_vid}
use Rattle.sml_grammar.specs.Types.{ty_could_go_on}
use Rattle.sml_grammar.specs.Patterns.{PatStart, wild_start, constant_start, vid_start, brace_start, paren_start, bracket_start, no_start, vid_if, pat_start, is_pat_start, begins_pat}
use Rattle.sml_grammar.specs.Begins.{BeginsPat, with_wild, with_pat_constant, with_pat_vid, with_pat_brace, with_pat_paren, with_pat_bracket}
use Rattle.sml_grammar.proofs.Answers.{not_true}
use Rattle.sml_grammar.proofs.Words.{WordAt, at_word, word-at, AfterWord, found, absent, after-is}
use Rattle.sml_grammar.proofs.Terminals.{not-word, vid-word}
use Rattle.sml_grammar.proofs.Vids.{InfixAt, infix_at, infix-is, infix-found, infix-no_names, names-is, names-found}

-- what holds of terminals that begin with a word
pub with-word : (R : List Terminal → Type 0) (w : Reserved) (i o : List Terminal) → after_word w i ≡ Some o → R i → (p : ℕ) × R (reserved p w ∷ o)
with-word R w i o e r = go (word-at w i o e) r
  where
    go : {i : List Terminal} → WordAt w i o → R i → (p : ℕ) × R (reserved p w ∷ o)
    go (at_word p) r = (p, r)

-- `pat_start f i` by what stands at the head
pub data PatStartIs (f : Fixity) : List Terminal → PatStart → Type 0 where
  is_wild : {o : List Terminal} (p : ℕ) → PatStartIs f (reserved p res.Underscore ∷ o) (wild_start p o)
  is_brace : {o : List Terminal} (p : ℕ) → PatStartIs f (reserved p res.LeftBrace ∷ o) (brace_start p o)
  is_paren : {o : List Terminal} (p : ℕ) → PatStartIs f (reserved p res.LeftParen ∷ o) (paren_start p o)
  is_bracket : {o : List Terminal} (p : ℕ) → PatStartIs f (reserved p res.LeftBracket ∷ o) (bracket_start p o)
  is_scon : {t : Terminal} {o : List Terminal} {p : ℕ} {c : Constant} → IsConstant t p c → PatStartIs f (t ∷ o) (constant_start p c o)
  is_name : {i o : List Terminal} {p : ℕ} {x : Placed LongVid} → NamesVid f i p x o → PatStartIs f i (vid_start p x o)
  is_none : {i : List Terminal} → PatStartIs f i no_start

named-start : (f : Fixity) (i : List Terminal) → PatStartIs f i (vid_if (place_at i) (names_vid f i))
named-start f i = go (names_vid f i) refl
  where
    go : (v : Option (Taken (Placed LongVid))) → names_vid f i ≡ v → PatStartIs f i (vid_if (place_at i) v)
    go None e = is_none
    go (Some x) e = is_name (names-is f i x.it x.rest e)

pub pat-start-is : (f : Fixity) (i : List Terminal) → PatStartIs f i (pat_start f i)
pat-start-is f (reserved p res.Underscore ∷ o) = is_wild p
pat-start-is f (reserved p res.LeftBrace ∷ o) = is_brace p
pat-start-is f (reserved p res.LeftParen ∷ o) = is_paren p
pat-start-is f (reserved p res.LeftBracket ∷ o) = is_bracket p
pat-start-is f (number p n plain ∷ o) = is_scon (is_number p n plain)
pat-start-is f (constant p c ∷ o) = is_scon (is_constant p c)
pat-start-is f i = named-start f i

-- a name starts a pattern
pub names-start : {f : Fixity} {i : List Terminal} {p : ℕ} {x : Placed LongVid} {o : List Terminal} → NamesVid f i p x o → pat_start f i ≡ vid_start p x o
names-start {f} (plain_long (alpha_vid p x) e) = ap (vid_if p) (names-found {f = f} (plain_long (alpha_vid p x) e))
names-start {f} (plain_long (symbol_vid p x) e) = ap (vid_if p) (names-found {f = f} (plain_long (symbol_vid p x) e))
names-start {f} (plain_long (star_vid p x) e) = ap (vid_if p) (names-found {f = f} (plain_long (star_vid p x) e))
names-start (qualified (long_alpha_vid p qs x)) = refl
names-start (qualified (long_symbol_vid p qs x)) = refl
names-start (qualified (long_star_vid p qs x)) = refl
names-start {f} (op_long p v) = ap (vid_if p) (names-found {f = f} (op_long p v))

pub names-begin : {f : Fixity} {i : List Terminal} {p : ℕ} {x : Placed LongVid} {o : List Terminal} → NamesVid f i p x o → begins_pat f i ≡ true
names-begin n = ap is_pat_start (names-start n)

pub constant-start : (f : Fixity) {t : Terminal} {p : ℕ} {c : Constant} → IsConstant t p c → (o : List Terminal) → pat_start f (t ∷ o) ≡ constant_start p c o
constant-start f (is_number p n plain) o = refl
constant-start f (is_constant p c) o = refl

-- what begins a pattern, and the function that looks

pub begins_pat-found : {f : Fixity} {i : List Terminal} → BeginsPat f i → begins_pat f i ≡ true
begins_pat-found (with_wild p) = refl
begins_pat-found {f} (with_pat_constant {o} c) = ap is_pat_start (constant-start f c o)
begins_pat-found (with_pat_vid n) = names-begin n
begins_pat-found (with_pat_brace p) = refl
begins_pat-found (with_pat_paren p) = refl
begins_pat-found (with_pat_bracket p) = refl

pub begins_pat-is : {f : Fixity} {i : List Terminal} → begins_pat f i ≡ true → BeginsPat f i
begins_pat-is {f} {i} h = go (pat-start-is f i) h
  where
    go : {i : List Terminal} {s : PatStart} → PatStartIs f i s → is_pat_start s ≡ true → BeginsPat f i
    go (is_wild p) h = with_wild p
    go (is_brace p) h = with_pat_brace p
    go (is_paren p) h = with_pat_paren p
    go (is_bracket p) h = with_pat_bracket p
    go (is_scon c) h = with_pat_constant c
    go (is_name n) h = with_pat_vid n
    go is_none h = not_true h

-- an infix identifier begins no pattern
pub infix-no_pat : {f : Fixity} {t : Terminal} {x : Placed ℕ} → IsInfixVid f t x → (o : List Terminal) → begins_pat f (t ∷ o) ≡ false
infix-no_pat {f} {t} {x} v o = go v.is (infix-no_names v o)
  where
    go : {t : Terminal} {p y : ℕ} → IsVid t p y → names_vid f (t ∷ o) ≡ None → begins_pat f (t ∷ o) ≡ false
    go (alpha_vid p x) e = ap (λ z. is_pat_start (vid_if p z)) e
    go (symbol_vid p x) e = ap (λ z. is_pat_start (vid_if p z)) e
    go (star_vid p x) e = ap (λ z. is_pat_start (vid_if p z)) e

pub begins-no_infix : (f : Fixity) (i : List Terminal) → begins_pat f i ≡ true → infix_vid f i ≡ None
begins-no_infix f i b = go (infix_vid f i) refl
  where
    at : {i : List Terminal} {x : Placed ℕ} {o : List Terminal} {A : Type 0} → InfixAt f i x o → begins_pat f i ≡ true → A
    at (infix_at {o} v) b = not_true (sym (infix-no_pat v o) ∙ b)

    go : (v : Option (Taken (Placed ℕ))) → infix_vid f i ≡ v → v ≡ None
    go None e = refl
    go (Some x) e = at (infix-is f i x.it x.rest e) b

-- a word that begins no pattern isn't at the head of one
pub begins-no_word : (f : Fixity) (w : Reserved) (i : List Terminal) → ((p : ℕ) (o : List Terminal) → begins_pat f (reserved p w ∷ o) ≡ false) → begins_pat f i ≡ true → after_word w i ≡ None
begins-no_word f w i apart b = go (after-is w i) b
  where
    go : {i : List Terminal} {v : Option (List Terminal)} → AfterWord w i v → begins_pat f i ≡ true → v ≡ None
    go (found {o} p) b = not_true (sym (apart p o) ∙ b)
    go (absent e) b = refl

-- Levels.

pub level-high : (f : Fixity) (v : Vid) → 8 ≤ vid_level f v
level-high f v = go (fix_of v f)
  where
    go : (m : Option Infix) → 8 ≤ infix_level m
    go None = omega arith
    go (Some d) = omega arith

pub level-low : (f : Fixity) (v : Vid) → suc (vid_level f v) ≤ 1000
level-low f v = go (fix_of v f)
  where
    go : (m : Option Infix) → suc (infix_level m) ≤ 1000
    go None = omega arith
    go (Some d) = omega arith

-- What may follow a pattern that has to have a level of at least l.

-- an infix identifier would tie it at its level
abbrev pub infix_ties : Fixity → ℕ → List Terminal → Bool
infix_ties f l o = on_taken (infix_vid f o) (λ x m. nat_le l (vid_level f (Named x.it))) false

pub record PatStops (f : Fixity) (l : ℕ) (o : List Terminal) : Type 0 where
  pub no_pat : begins_pat f o ≡ false
  pub no_infix : infix_ties f l o ≡ false
  pub no_mark : l ≤ 5 → after_word res.Colon o ≡ None
  pub no_as : l ≤ 0 → after_word res.As o ≡ None
  pub no_ty : l ≤ 5 → ty_could_go_on 0 o ≡ false

-- the words that patterns stand before
abbrev pub ends_pat : Reserved → Bool
ends_pat res.Comma = true
ends_pat res.RightParen = true
ends_pat res.RightBracket = true
ends_pat res.RightBrace = true
ends_pat res.Equals = true
ends_pat res.DoubleArrow = true
ends_pat res.Bar = true
ends_pat _ = false

pub pat-stops-word : (w : Reserved) → ends_pat w ≡ true → (f : Fixity) (l p : ℕ) (o : List Terminal) → PatStops f l (reserved p w ∷ o)
pat-stops-word res.Comma e f l p o = record { no_pat = refl; no_infix = refl; no_mark = λ h. refl; no_as = λ h. refl; no_ty = λ h. refl }
pat-stops-word res.RightParen e f l p o = record { no_pat = refl; no_infix = refl; no_mark = λ h. refl; no_as = λ h. refl; no_ty = λ h. refl }
pat-stops-word res.RightBracket e f l p o = record { no_pat = refl; no_infix = refl; no_mark = λ h. refl; no_as = λ h. refl; no_ty = λ h. refl }
pat-stops-word res.RightBrace e f l p o = record { no_pat = refl; no_infix = refl; no_mark = λ h. refl; no_as = λ h. refl; no_ty = λ h. refl }
pat-stops-word res.Equals e f l p o = record { no_pat = refl; no_infix = refl; no_mark = λ h. refl; no_as = λ h. refl; no_ty = λ h. refl }
pat-stops-word res.DoubleArrow e f l p o = record { no_pat = refl; no_infix = refl; no_mark = λ h. refl; no_as = λ h. refl; no_ty = λ h. refl }
pat-stops-word res.Bar e f l p o = record { no_pat = refl; no_infix = refl; no_mark = λ h. refl; no_as = λ h. refl; no_ty = λ h. refl }
pat-stops-word _ e f l p o = not_true e

pub infix_ties-more : (f : Fixity) (k l : ℕ) (o : List Terminal) → k ≤ l → infix_ties f k o ≡ false → infix_ties f l o ≡ false
infix_ties-more f k l o le e = go (infix_vid f o) e
  where
    go : (v : Option (Taken (Placed ℕ))) → on_taken v (λ x m. nat_le k (vid_level f (Named x.it))) false ≡ false → on_taken v (λ x m. nat_le l (vid_level f (Named x.it))) false ≡ false
    go None e = refl
    go (Some x) e = let lt = leb-false k (vid_level f (Named x.it.it)) e in lt-leb l (vid_level f (Named x.it.it)) (omega arith)

pub stops-higher : {f : Fixity} {k l : ℕ} {o : List Terminal} → k ≤ l → PatStops f k o → PatStops f l o
stops-higher {f} {k} {l} {o} le s = record {
  no_pat = s.no_pat;
  no_infix = infix_ties-more f k l o le s.no_infix;
  no_mark = λ h. s.no_mark (omega arith);
  no_as = λ h. s.no_as (omega arith);
  no_ty = λ h. s.no_ty (omega arith);
}

pub infix-tie : {f : Fixity} {t : Terminal} {x : Placed ℕ} → IsInfixVid f t x → (l : ℕ) (o : List Terminal) → vid_level f (Named x.it) < l → infix_ties f l (t ∷ o) ≡ false
infix-tie {f} {x} v l o lt = ap (λ z. on_taken z (λ y m. nat_le l (vid_level f (Named y.it))) false) (infix-found v o) ∙ lt-leb l (vid_level f (Named x.it)) lt

pub infix-no_word : {f : Fixity} {t : Terminal} {x : Placed ℕ} → IsInfixVid f t x → (w : Reserved) (o : List Terminal) → after_word w (t ∷ o) ≡ None
infix-no_word {t} v w o = not-word w t o (vid-word v.is)

-- an infix identifier of a lower level
pub infix-stops : {f : Fixity} {t : Terminal} {x : Placed ℕ} → IsInfixVid f t x → (l : ℕ) (o : List Terminal) → vid_level f (Named x.it) < l → PatStops f l (t ∷ o)
infix-stops {f} {x} v l o lt = let hi = level-high f (Named x.it) in record {
  no_pat = infix-no_pat v o;
  no_infix = infix-tie v l o lt;
  no_mark = λ h. infix-no_word v res.Colon o;
  no_as = λ h. infix-no_word v res.As o;
  no_ty = λ (h : l ≤ 5). absurd (omega arith);
}
