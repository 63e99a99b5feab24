-- What stands at the head of the terminals: the grammar's relations against the functions that look.
use Rattle.std.proofs.Common.{◌≡◌, ℕ, suc, ℤ, pos, List, [], ◌∷◌, Option, Some, None, Bool, true, refl, subst}
use Rattle.mlc_names.specs.declared.label.Label.{Label}
use Rattle.mlc_names.specs.declared.token.Reserved.{Reserved}
use Rattle.mlc_names.specs.declared.token.Reserved.TheVariants as res
use Rattle.sml_tree.specs.declared.ident.Tyvar.{Tyvar}
use Rattle.sml_tree.specs.declared.ident.Vid.{Vid}
use Rattle.sml_tree.specs.ReadTree.{Placed}
use Rattle.sml_tree.specs.Terminal.{Constant, LongVid, LongId, Terminal, reserved, number, constant, alpha, symbol, star, long_alpha, long_symbol, long_star, type_var, IsConstant, is_number, is_constant, IsVid, alpha_vid, symbol_vid, star_vid, IsQualifiedVid, long_alpha_vid, long_symbol_vid, long_star_vid, IsAnyVid, any_named, any_equals, IsAnyLongVid, any_short, any_long, IsTycon, alpha_tycon, symbol_tycon, IsLongTycon, short_tycon, long_alpha_tycon, long_symbol_tycon, IsLongStrid, short_strid, long_strid, IsLabel, word_label}
use Rattle.sml_tree.specs.Terminal as grammar
use Rattle.sml_grammar.specs.Terminals.{Taken, taken, place_of, word_of, as_vid, as_qualified, as_any_vid, as_constant, as_tycon, as_long_tycon, as_long_strid, number_label, as_label, as_tyvar, as_any_long, placed_if, first_as, after_word, after_star}
use Rattle.sml_grammar.proofs.Answers.{got_some, not_some}

-- what is there, if anything, is of P
pub data Holds {B : Type 0} (P : B → Type 0) : Option B → Type 0 where
  holds : {b : B} → P b → Holds P (Some b)
  nothing : Holds P None

-- a terminal of R, with its place and what it stands for, and the terminals after it
pub data Front {B : Type 0} (R : Terminal → ℕ → B → Type 0) : List Terminal → Placed B → List Terminal → Type 0 where
  front : {t : Terminal} {p : ℕ} {b : B} {o : List Terminal} → R t p b → Front R (t ∷ o) (record { place = p; it = b }) o

pub front-is : {B : Type 0} (g : Terminal → Option B) (R : Terminal → ℕ → B → Type 0) → ((t : Terminal) → Holds (R t (place_of t)) (g t)) →
    (i : List Terminal) (x : Placed B) (o : List Terminal) → first_as g i ≡ taken x o → Front R i x o
front-is g R is [] x o h = not_some h
front-is {B} g R is (t ∷ m) x o h = go (is t) h
  where
    go : {v : Option B} → Holds (R t (place_of t)) v → placed_if (place_of t) v m ≡ taken x o → Front R (t ∷ m) x o
    go (holds r) e = subst (λ (z : Taken (Placed B)). Front R (t ∷ m) z.it z.rest) (got_some e) (front r)
    go nothing e = not_some e

-- From the function to the relation.

pub vid-holds : (t : Terminal) → Holds (IsVid t (place_of t)) (as_vid t)
vid-holds (alpha p x) = holds (alpha_vid p x)
vid-holds (symbol p x) = holds (symbol_vid p x)
vid-holds (star p x) = holds (star_vid p x)
vid-holds _ = nothing

pub qualified-holds : (t : Terminal) → Holds (IsQualifiedVid t (place_of t)) (as_qualified t)
qualified-holds (long_alpha p qs x) = holds (long_alpha_vid p qs x)
qualified-holds (long_symbol p qs x) = holds (long_symbol_vid p qs x)
qualified-holds (long_star p qs x) = holds (long_star_vid p qs x)
qualified-holds _ = nothing

pub any_vid-holds : (t : Terminal) → Holds (IsAnyVid t (place_of t)) (as_any_vid t)
any_vid-holds (alpha p x) = holds (any_named (alpha_vid p x))
any_vid-holds (symbol p x) = holds (any_named (symbol_vid p x))
any_vid-holds (star p x) = holds (any_named (star_vid p x))
any_vid-holds (reserved p res.Equals) = holds (any_equals p)
any_vid-holds _ = nothing

pub any_long-holds : (t : Terminal) → Holds (IsAnyLongVid t (place_of t)) (as_any_long t)
any_long-holds (alpha p x) = holds (any_short (any_named (alpha_vid p x)))
any_long-holds (symbol p x) = holds (any_short (any_named (symbol_vid p x)))
any_long-holds (star p x) = holds (any_short (any_named (star_vid p x)))
any_long-holds (reserved p res.Equals) = holds (any_short (any_equals p))
any_long-holds (long_alpha p qs x) = holds (any_long (long_alpha_vid p qs x))
any_long-holds (long_symbol p qs x) = holds (any_long (long_symbol_vid p qs x))
any_long-holds (long_star p qs x) = holds (any_long (long_star_vid p qs x))
any_long-holds _ = nothing

pub tycon-holds : (t : Terminal) → Holds (IsTycon t (place_of t)) (as_tycon t)
tycon-holds (alpha p x) = holds (alpha_tycon p x)
tycon-holds (symbol p x) = holds (symbol_tycon p x)
tycon-holds _ = nothing

pub long_tycon-holds : (t : Terminal) → Holds (IsLongTycon t (place_of t)) (as_long_tycon t)
long_tycon-holds (alpha p x) = holds (short_tycon (alpha_tycon p x))
long_tycon-holds (symbol p x) = holds (short_tycon (symbol_tycon p x))
long_tycon-holds (long_alpha p qs x) = holds (long_alpha_tycon p qs x)
long_tycon-holds (long_symbol p qs x) = holds (long_symbol_tycon p qs x)
long_tycon-holds _ = nothing

pub long_strid-holds : (t : Terminal) → Holds (IsLongStrid t (place_of t)) (as_long_strid t)
long_strid-holds (alpha p x) = holds (short_strid p x)
long_strid-holds (long_alpha p qs x) = holds (long_strid p qs x)
long_strid-holds _ = nothing

number-holds : (p : ℕ) (n : ℤ) (plain : Bool) → Holds (IsLabel (number p n plain)) (number_label n plain)
number-holds p (pos (suc n)) true = holds (grammar.number_label p n)
number-holds p _ _ = nothing

pub label-holds : (t : Terminal) → Holds (IsLabel t) (as_label t)
label-holds (number p n plain) = number-holds p n plain
label-holds (alpha p x) = holds (word_label (alpha_vid p x))
label-holds (symbol p x) = holds (word_label (symbol_vid p x))
label-holds (star p x) = holds (word_label (star_vid p x))
label-holds _ = nothing

-- the grammar has no relation for type variables
pub data IsTyvar : Terminal → ℕ → Tyvar → Type 0 where
  is_tyvar : (p : ℕ) (a : Tyvar) → IsTyvar (type_var p a) p a

pub tyvar-holds : (t : Terminal) → Holds (IsTyvar t (place_of t)) (as_tyvar t)
tyvar-holds (type_var p a) = holds (is_tyvar p a)
tyvar-holds _ = nothing

pub vid-is : (i : List Terminal) (x : Placed ℕ) (o : List Terminal) → first_as as_vid i ≡ taken x o → Front IsVid i x o
vid-is = front-is as_vid IsVid vid-holds

pub qualified-is : (i : List Terminal) (x : Placed LongVid) (o : List Terminal) → first_as as_qualified i ≡ taken x o → Front IsQualifiedVid i x o
qualified-is = front-is as_qualified IsQualifiedVid qualified-holds

pub any_vid-is : (i : List Terminal) (x : Placed Vid) (o : List Terminal) → first_as as_any_vid i ≡ taken x o → Front IsAnyVid i x o
any_vid-is = front-is as_any_vid IsAnyVid any_vid-holds

pub any_long-is : (i : List Terminal) (x : Placed LongVid) (o : List Terminal) → first_as as_any_long i ≡ taken x o → Front IsAnyLongVid i x o
any_long-is = front-is as_any_long IsAnyLongVid any_long-holds

pub tycon-is : (i : List Terminal) (x : Placed ℕ) (o : List Terminal) → first_as as_tycon i ≡ taken x o → Front IsTycon i x o
tycon-is = front-is as_tycon IsTycon tycon-holds

pub long_tycon-is : (i : List Terminal) (x : Placed LongId) (o : List Terminal) → first_as as_long_tycon i ≡ taken x o → Front IsLongTycon i x o
long_tycon-is = front-is as_long_tycon IsLongTycon long_tycon-holds

pub long_strid-is : (i : List Terminal) (x : Placed LongId) (o : List Terminal) → first_as as_long_strid i ≡ taken x o → Front IsLongStrid i x o
long_strid-is = front-is as_long_strid IsLongStrid long_strid-holds

pub tyvar-is : (i : List Terminal) (x : Placed Tyvar) (o : List Terminal) → first_as as_tyvar i ≡ taken x o → Front IsTyvar i x o
tyvar-is = front-is as_tyvar IsTyvar tyvar-holds

pub label-is : (i : List Terminal) (x : Placed Label) (o : List Terminal) → first_as as_label i ≡ taken x o → Front (λ t p l. IsLabel t l) i x o
label-is = front-is as_label (λ t p l. IsLabel t l) label-holds

-- From the relation to the function.

pub vid-found : {t : Terminal} {p x : ℕ} → IsVid t p x → (o : List Terminal) → first_as as_vid (t ∷ o) ≡ taken (record { place = p; it = x }) o
vid-found (alpha_vid p x) o = refl
vid-found (symbol_vid p x) o = refl
vid-found (star_vid p x) o = refl

pub any_vid-found : {t : Terminal} {p : ℕ} {v : Vid} → IsAnyVid t p v → (o : List Terminal) → first_as as_any_vid (t ∷ o) ≡ taken (record { place = p; it = v }) o
any_vid-found (any_named (alpha_vid p x)) o = refl
any_vid-found (any_named (symbol_vid p x)) o = refl
any_vid-found (any_named (star_vid p x)) o = refl
any_vid-found (any_equals p) o = refl

pub any_long-found : {t : Terminal} {p : ℕ} {x : LongVid} → IsAnyLongVid t p x → (o : List Terminal) → first_as as_any_long (t ∷ o) ≡ taken (record { place = p; it = x }) o
any_long-found (any_short (any_named (alpha_vid p x))) o = refl
any_long-found (any_short (any_named (symbol_vid p x))) o = refl
any_long-found (any_short (any_named (star_vid p x))) o = refl
any_long-found (any_short (any_equals p)) o = refl
any_long-found (any_long (long_alpha_vid p qs x)) o = refl
any_long-found (any_long (long_symbol_vid p qs x)) o = refl
any_long-found (any_long (long_star_vid p qs x)) o = refl

pub tycon-found : {t : Terminal} {p x : ℕ} → IsTycon t p x → (o : List Terminal) → first_as as_tycon (t ∷ o) ≡ taken (record { place = p; it = x }) o
tycon-found (alpha_tycon p x) o = refl
tycon-found (symbol_tycon p x) o = refl

pub long_tycon-found : {t : Terminal} {p : ℕ} {c : LongId} → IsLongTycon t p c → (o : List Terminal) → first_as as_long_tycon (t ∷ o) ≡ taken (record { place = p; it = c }) o
long_tycon-found (short_tycon (alpha_tycon p x)) o = refl
long_tycon-found (short_tycon (symbol_tycon p x)) o = refl
long_tycon-found (long_alpha_tycon p qs x) o = refl
long_tycon-found (long_symbol_tycon p qs x) o = refl

pub long_strid-found : {t : Terminal} {p : ℕ} {c : LongId} → IsLongStrid t p c → (o : List Terminal) → first_as as_long_strid (t ∷ o) ≡ taken (record { place = p; it = c }) o
long_strid-found (short_strid p x) o = refl
long_strid-found (long_strid p qs x) o = refl

pub label-found : {t : Terminal} {l : Label} → IsLabel t l → (o : List Terminal) → first_as as_label (t ∷ o) ≡ taken (record { place = place_of t; it = l }) o
label-found (grammar.number_label p n) o = refl
label-found (word_label (alpha_vid p x)) o = refl
label-found (word_label (symbol_vid p x)) o = refl
label-found (word_label (star_vid p x)) o = refl

-- Which terminals are apart. A reserved word is no identifier and no constant, by computation.

-- what is no reserved word
pub not-word : (w : Reserved) (t : Terminal) (o : List Terminal) → word_of t ≡ None → after_word w (t ∷ o) ≡ None
not-word w t o e = rw e refl

pub vid-word : {t : Terminal} {p x : ℕ} → IsVid t p x → word_of t ≡ None
vid-word (alpha_vid p x) = refl
vid-word (symbol_vid p x) = refl
vid-word (star_vid p x) = refl

pub label-word : {t : Terminal} {l : Label} → IsLabel t l → word_of t ≡ None
label-word (grammar.number_label p n) = refl
label-word (word_label v) = vid-word v
