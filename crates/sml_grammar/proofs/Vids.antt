-- Identifiers of values under fixities.
use Rattle.std.proofs.Common.{◌≡◌, ℕ, List, [], ◌∷◌, length, ◌<◌, arith, Option, Some, None, refl, subst}
use Rattle.mlc_names.specs.declared.token.Reserved.TheVariants as res
use Rattle.sml_tree.specs.declared.ident.Vid.{Vid}
use Rattle.sml_tree.specs.declared.ident.Vid.TheVariants.{Named}
use Rattle.sml_tree.specs.declared.fixity.Infix.{Infix}
use Rattle.sml_tree.specs.Fixity.{Fixity, fix_of}
use Rattle.sml_tree.specs.ReadTree.{Placed}
use Rattle.sml_tree.specs.Terminal.{Constant, LongVid, Terminal, reserved, IsConstant, is_number, is_constant, IsVid, alpha_vid, symbol_vid, star_vid, IsQualifiedVid, long_alpha_vid, long_symbol_vid, long_star_vid, IsAnyVid, IsAnyLongVid}
use Rattle.sml_tree.specs.Grammar.{BindsVid, op_vid, NamesVid, plain_long, qualified, op_long, IsInfixVid}
use Rattle.sml_tree.specs.Grammar as grammar
use Rattle.sml_grammar.specs.Terminals.{Taken, taken, place_at, as_vid, as_qualified, first_as, plain_if, infix_if, plain_from, plain_vid, infix_from, infix_vid, short, named_if, binds_vid, long_named_if, names_vid}
use Rattle.sml_grammar.specs.PartialPatterns.{NoVid}
use Rattle.sml_grammar.proofs.Answers.{got_some, not_some}
use Rattle.sml_grammar.proofs.Terminals.{Front, front, any_vid-is, any_long-is, vid-is, qualified-is, vid-found, any_vid-found, any_long-found}

pub data IsPlain (f : Fixity) (t : Terminal) (p : ℕ) (x : ℕ) : Type 0 where
  is_plain : IsVid t p x → fix_of (Named x) f ≡ None → IsPlain f t p x

-- an infix identifier, and the terminals after it
pub data InfixAt (f : Fixity) : List Terminal → Placed ℕ → List Terminal → Type 0 where
  infix_at : {t : Terminal} {x : Placed ℕ} {o : List Terminal} → IsInfixVid f t x → InfixAt f (t ∷ o) x o

plain-front : (f : Fixity) (i : List Terminal) (v : Option (Taken (Placed ℕ))) → first_as as_vid i ≡ v → (x : Placed ℕ) (o : List Terminal) → plain_from f v ≡ taken x o → Front (IsPlain f) i x o
plain-front f i None e x o h = not_some h
plain-front f i (Some v) e x o h = go (vid-is i v.it v.rest e) (fix_of (Named v.it.it) f) refl h
  where
    go : {i : List Terminal} {y : Placed ℕ} {m : List Terminal} → Front IsVid i y m → (w : Option Infix) → fix_of (Named y.it) f ≡ w → plain_if y m w ≡ taken x o → Front (IsPlain f) i x o
    go {i} (front v) None s h = subst (λ (z : Taken (Placed ℕ)). Front (IsPlain f) i z.it z.rest) (got_some h) (front (is_plain v s))
    go (front v) (Some d) s h = not_some h

pub plain-is : (f : Fixity) (i : List Terminal) (x : Placed ℕ) (o : List Terminal) → plain_vid f i ≡ taken x o → Front (IsPlain f) i x o
plain-is f i x o h = plain-front f i (first_as as_vid i) refl x o h

infix-front : (f : Fixity) (i : List Terminal) (v : Option (Taken (Placed ℕ))) → first_as as_vid i ≡ v → (x : Placed ℕ) (o : List Terminal) → infix_from f v ≡ taken x o → InfixAt f i x o
infix-front f i None e x o h = not_some h
infix-front f i (Some v) e x o h = go (vid-is i v.it v.rest e) (fix_of (Named v.it.it) f) refl h
  where
    go : {i : List Terminal} {y : Placed ℕ} {m : List Terminal} → Front IsVid i y m → (w : Option Infix) → fix_of (Named y.it) f ≡ w → infix_if y m w ≡ taken x o → InfixAt f i x o
    go (front v) None s h = not_some h
    go {i} (front v) (Some d) s h = subst (λ (z : Taken (Placed ℕ)). InfixAt f i z.it z.rest) (got_some h) (infix_at (record { is = v; fix = d; status = s }))

pub infix-is : (f : Fixity) (i : List Terminal) (x : Placed ℕ) (o : List Terminal) → infix_vid f i ≡ taken x o → InfixAt f i x o
infix-is f i x o h = infix-front f i (first_as as_vid i) refl x o h

pub plain-found : (f : Fixity) {t : Terminal} {p x : ℕ} → IsVid t p x → fix_of (Named x) f ≡ None → (o : List Terminal) → plain_vid f (t ∷ o) ≡ taken (record { place = p; it = x }) o
plain-found f v e o = let h = vid-found v o in rw (h, e) refl

pub infix-found : {f : Fixity} {t : Terminal} {x : Placed ℕ} → IsInfixVid f t x → (o : List Terminal) → infix_vid f (t ∷ o) ≡ taken x o
infix-found v o = let h = vid-found v.is o in let e = v.status in rw (h, e) refl

-- [op] vid

-- where `op` isn't first, only a plain identifier may be
plain-binds : (f : Fixity) (i : List Terminal) (x : Placed Vid) (o : List Terminal) → named_if (plain_vid f i) ≡ taken x o → BindsVid f i (place_at i) x o
plain-binds f i x o h = go (plain_vid f i) refl h
  where
    named : {i : List Terminal} {y : Placed ℕ} {m : List Terminal} → Front (IsPlain f) i y m → BindsVid f i (place_at i) (record { place = y.place; it = Named y.it }) m
    named (front (is_plain (alpha_vid p x) e)) = grammar.plain_vid (alpha_vid p x) e
    named (front (is_plain (symbol_vid p x) e)) = grammar.plain_vid (symbol_vid p x) e
    named (front (is_plain (star_vid p x) e)) = grammar.plain_vid (star_vid p x) e

    go : (v : Option (Taken (Placed ℕ))) → plain_vid f i ≡ v → named_if v ≡ taken x o → BindsVid f i (place_at i) x o
    go None e h = not_some h
    go (Some v) e h = subst (λ (z : Taken (Placed Vid)). BindsVid f i (place_at i) z.it z.rest) (got_some h) (named (plain-is f i v.it v.rest e))

op-binds : (f : Fixity) (p : ℕ) {i : List Terminal} {x : Placed Vid} {o : List Terminal} → Front IsAnyVid i x o → BindsVid f (reserved p res.Op ∷ i) p x o
op-binds f p (front v) = op_vid p v

pub binds-is : (f : Fixity) (i : List Terminal) (x : Placed Vid) (o : List Terminal) → binds_vid f i ≡ taken x o → BindsVid f i (place_at i) x o
binds-is f [] x o h = not_some h
binds-is f (reserved p res.Op ∷ i) x o h = op-binds f p (any_vid-is i x o h)
binds-is f (t ∷ i) x o h = plain-binds f (t ∷ i) x o h

pub binds-found : {f : Fixity} {i : List Terminal} {p : ℕ} {v : Placed Vid} {o : List Terminal} → BindsVid f i p v o → binds_vid f i ≡ taken v o
binds-found {f} (grammar.plain_vid {o} (alpha_vid p x) e) = let h = plain-found f (alpha_vid p x) e o in rw h refl
binds-found {f} (grammar.plain_vid {o} (symbol_vid p x) e) = let h = plain-found f (symbol_vid p x) e o in rw h refl
binds-found {f} (grammar.plain_vid {o} (star_vid p x) e) = let h = plain-found f (star_vid p x) e o in rw h refl
binds-found (op_vid {o} p v) = any_vid-found v o

-- the place where it begins
pub binds-place : {f : Fixity} {i : List Terminal} {p : ℕ} {v : Placed Vid} {o : List Terminal} → BindsVid f i p v o → place_at i ≡ p
binds-place (grammar.plain_vid (alpha_vid p x) e) = refl
binds-place (grammar.plain_vid (symbol_vid p x) e) = refl
binds-place (grammar.plain_vid (star_vid p x) e) = refl
binds-place (op_vid p v) = refl

pub binds-shorter : {f : Fixity} {i : List Terminal} {p : ℕ} {v : Placed Vid} {o : List Terminal} → BindsVid f i p v o → length o < length i
binds-shorter (grammar.plain_vid v e) = omega arith
binds-shorter (op_vid p v) = omega arith

-- no identifier is here, and the function that looks

pub no-binds : {f : Fixity} {i : List Terminal} → NoVid f i → binds_vid f i ≡ None
no-binds {f} {i} none = go (binds_vid f i) refl
  where
    go : (v : Option (Taken (Placed Vid))) → binds_vid f i ≡ v → v ≡ None
    go None e = refl
    go (Some x) e = absurd (none (place_at i) x.it x.rest (binds-is f i x.it x.rest e))

pub binds-none : {f : Fixity} {i : List Terminal} → binds_vid f i ≡ None → NoVid f i
binds-none e p v m b = let h = binds-found b in absurd (cc)

-- [op] longvid

plain-names : (f : Fixity) (i : List Terminal) (x : Placed LongVid) (o : List Terminal) → long_named_if (first_as as_qualified i) (plain_vid f i) ≡ taken x o → NamesVid f i (place_at i) x o
plain-names f i x o h = go (plain_vid f i) refl h
  where
    named : {i : List Terminal} {y : Placed ℕ} {m : List Terminal} → Front (IsPlain f) i y m → NamesVid f i (place_at i) (record { place = y.place; it = short (Named y.it) }) m
    named (front (is_plain (alpha_vid p x) e)) = plain_long (alpha_vid p x) e
    named (front (is_plain (symbol_vid p x) e)) = plain_long (symbol_vid p x) e
    named (front (is_plain (star_vid p x) e)) = plain_long (star_vid p x) e

    long : {i : List Terminal} {y : Placed LongVid} {m : List Terminal} → Front IsQualifiedVid i y m → NamesVid f i (place_at i) y m
    long (front (long_alpha_vid p qs x)) = qualified (long_alpha_vid p qs x)
    long (front (long_symbol_vid p qs x)) = qualified (long_symbol_vid p qs x)
    long (front (long_star_vid p qs x)) = qualified (long_star_vid p qs x)

    go : (v : Option (Taken (Placed ℕ))) → plain_vid f i ≡ v → long_named_if (first_as as_qualified i) v ≡ taken x o → NamesVid f i (place_at i) x o
    go None e h = long (qualified-is i x o h)
    go (Some v) e h = subst (λ (z : Taken (Placed LongVid)). NamesVid f i (place_at i) z.it z.rest) (got_some h) (named (plain-is f i v.it v.rest e))

op-names : (f : Fixity) (p : ℕ) {i : List Terminal} {x : Placed LongVid} {o : List Terminal} → Front IsAnyLongVid i x o → NamesVid f (reserved p res.Op ∷ i) p x o
op-names f p (front v) = op_long p v

pub names-is : (f : Fixity) (i : List Terminal) (x : Placed LongVid) (o : List Terminal) → names_vid f i ≡ taken x o → NamesVid f i (place_at i) x o
names-is f [] x o h = not_some h
names-is f (reserved p res.Op ∷ i) x o h = op-names f p (any_long-is i x o h)
names-is f (t ∷ i) x o h = plain-names f (t ∷ i) x o h

pub names-found : {f : Fixity} {i : List Terminal} {p : ℕ} {x : Placed LongVid} {o : List Terminal} → NamesVid f i p x o → names_vid f i ≡ taken x o
names-found {f} (plain_long {o} (alpha_vid p x) e) = let h = plain-found f (alpha_vid p x) e o in rw h refl
names-found {f} (plain_long {o} (symbol_vid p x) e) = let h = plain-found f (symbol_vid p x) e o in rw h refl
names-found {f} (plain_long {o} (star_vid p x) e) = let h = plain-found f (star_vid p x) e o in rw h refl
names-found (qualified (long_alpha_vid p qs x)) = refl
names-found (qualified (long_symbol_vid p qs x)) = refl
names-found (qualified (long_star_vid p qs x)) = refl
names-found (op_long {o} p v) = any_long-found v o

-- the place where it begins
pub names-place : {f : Fixity} {i : List Terminal} {p : ℕ} {x : Placed LongVid} {o : List Terminal} → NamesVid f i p x o → place_at i ≡ p
names-place (plain_long (alpha_vid p x) e) = refl
names-place (plain_long (symbol_vid p x) e) = refl
names-place (plain_long (star_vid p x) e) = refl
names-place (qualified (long_alpha_vid p qs x)) = refl
names-place (qualified (long_symbol_vid p qs x)) = refl
names-place (qualified (long_star_vid p qs x)) = refl
names-place (op_long p v) = refl

pub names-shorter : {f : Fixity} {i : List Terminal} {p : ℕ} {x : Placed LongVid} {o : List Terminal} → NamesVid f i p x o → length o < length i
names-shorter (plain_long v e) = omega arith
names-shorter (qualified v) = omega arith
names-shorter (op_long p v) = omega arith

-- Infix identifiers stand alone.

pub infix-no_names : {f : Fixity} {t : Terminal} {x : Placed ℕ} → IsInfixVid f t x → (o : List Terminal) → names_vid f (t ∷ o) ≡ None
infix-no_names {f} {t} {x} v o = go v.is v.status
  where
    go : {t : Terminal} {p y : ℕ} → IsVid t p y → fix_of (Named y) f ≡ Some v.fix → names_vid f (t ∷ o) ≡ None
    go (alpha_vid p x) e = rw e refl
    go (symbol_vid p x) e = rw e refl
    go (star_vid p x) e = rw e refl

pub constant-no_names : (f : Fixity) {t : Terminal} {p : ℕ} {c : Constant} → IsConstant t p c → (o : List Terminal) → names_vid f (t ∷ o) ≡ None
constant-no_names f (is_number p n plain) o = refl
constant-no_names f (is_constant p c) o = refl

pub constant-no_binds : (f : Fixity) {t : Terminal} {p : ℕ} {c : Constant} → IsConstant t p c → (o : List Terminal) → binds_vid f (t ∷ o) ≡ None
constant-no_binds f (is_number p n plain) o = refl
constant-no_binds f (is_constant p c) o = refl
