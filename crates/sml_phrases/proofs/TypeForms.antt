-- How types are read, form by form.
use Rattle.std.proofs.Common.{◌≡◌, ℕ, zero, suc, ◌<◌, ◌≤◌, ◌+◌, ◌-◌, List, [], ◌∷◌, ◌++◌, length, map, Some, None, Option, Bool, true, false, nat_le, refl, sym, ap, ◌∙◌, subst, arith, Result, if◌then◌else◌, Vec, Global, Ok, Err}
use Rattle.std.proofs.lemmas.Bool.{le-leb, lt-leb}
use Rattle.mlc_names.specs.declared.token.Token.{Token}
use Rattle.mlc_names.specs.declared.token.Reserved.{Reserved}
use Rattle.mlc_names.specs.declared.token.Reserved.TheVariants as res
use Rattle.sml_tree.specs.Terminal.{Terminal, LongId, reserved}
use Rattle.sml_tree.specs.BareTree as tree
use Rattle.sml_tree.specs.ReadTree as read_tree
use Rattle.sml_tree.specs.ReadTree.{Tys, no_tys, ty, TyFields, no_ty_fields, ty_field, Placed, record_ty, con_ty, paren_ty, product_ty, arrow_ty, ty_place}
use Rattle.sml_tree.specs.Bare.{ty_list, bare_ty, bare_tys, at}
use Rattle.sml_tree.specs.Depth.{depth_ty}
use Rattle.sml_tree.specs.Derived.{tys_of}
use Rattle.sml_tree.specs.TreeOf.{ty_of, long_id_of}
use Rattle.sml_tree.specs.declared.tree.Ty.{Ty}
use Rattle.sml_tree.specs.declared.tree.Ty.TheVariants.{Con}
use Rattle.sml_tree.specs.declared.ident.LongId as code
use Rattle.sml_tree.proofs.TyLemmas.{ty_of-Con}
use Rattle.mlc_base.specs.declared.place.Place.{Place}
use Rattle.sml_grammar.specs.Answer.{Read, Answer, ok, bad, deep, deep_if, read, then_read, last, more, whole}
use Rattle.sml_grammar.specs.Terminals.{no_state, place_at, place_of, first_as, placed_if, as_long_tycon, after_word, after_star, word_of, is_word, star_of, Taken, taken, then_taken, word_then}
use Rattle.sml_grammar.specs.Types.{TyReader, brace_start, paren_start, begins_ty, ty_start, read_ty, ty_from, ty_atom, arguments, postfix_turn, product_rest, arrow_rest, ty_commas_turn}
use Rattle.phrase_base.specs.declared.source.Source.{Source}
use Rattle.phrase_base.specs.declared.stop.Stop.{Stop}
use Rattle.phrase_base.specs.declared.stop.Stop.TheVariants as stop
use Rattle.phrase_base.specs.declared.got.Got.{Got}
use Rattle.sml_phrases.specs.declared.types.Separator.{Separator}
use Rattle.sml_phrases.specs.declared.types.Separator.TheVariants.{Comma, Star}
use Rattle.phrase_base.specs.Gives.{Fails, Gives}
use Rattle.phrase_base.specs.Left.{left}
use Rattle.sml_phrases.specs.TypesRead.{IsTy, IsTys, plain_start, separator_turn, after_separator}
use Rattle.phrase_base.proofs.Shorter.{first-shorter, word-shorter, star-shorter}
use Rattle.phrase_base.proofs.Loop.{fails-then, fails-by, Going, going-start, going-more, going-last, going-fails}

-- the answer has what is said of it
pub record Said {A : Type 0} (P : Read A → Type 0) (a : Answer A) : Type 0 where
  pub got : Read A
  pub is : a ≡ ok got
  pub same : P got

pub gives-by : {X A : Type 0} (Is : X → Read A → Type 0) (r : Result X Stop) (a b : Answer A) → a ≡ b → Gives Is r b → Gives Is r a
gives-by {X} {A} Is r a b p h = subst (λ (z : Answer A). Gives Is r z) (sym p) h

-- What a type begins with.

pub brace-start : (i o : List Terminal) → after_word res.LeftBrace i ≡ Some o → ty_start i ≡ brace_start (place_at i) o
brace-start [] o h = absurd (cc)
brace-start (reserved p res.LeftBrace ∷ m) o h = let q : m ≡ o = cc in ap (brace_start p) q
brace-start (reserved p w ∷ m) o h = absurd (cc)
brace-start (t ∷ m) o h = absurd (cc)

pub paren-start : (i o : List Terminal) → after_word res.LeftParen i ≡ Some o → ty_start i ≡ paren_start (place_at i) o
paren-start [] o h = absurd (cc)
paren-start (reserved p res.LeftParen ∷ m) o h = let q : m ≡ o = cc in ap (paren_start p) q
paren-start (reserved p w ∷ m) o h = absurd (cc)
paren-start (t ∷ m) o h = absurd (cc)

pub plain-start : (i : List Terminal) → after_word res.LeftBrace i ≡ None → after_word res.LeftParen i ≡ None → ty_start i ≡ plain_start i
plain-start (reserved p res.LeftBrace ∷ m) g h = absurd (cc)
plain-start (reserved p res.LeftParen ∷ m) g h = absurd (cc)
plain-start _ g h = refl

-- A type, by its parts.

pub read-zero : (n l : ℕ) (i : List Terminal) (b : Bool) → n ≡ 0 → begins_ty i ≡ b → read_ty n l i ≡ deep_if b
unfolding read_ty
read-zero n l i b e h = rw (e, h) refl

pub read-one : (n l : ℕ) (i : List Terminal) → 0 < n → read_ty n l i ≡ ty_from (read_ty (n - 1)) (n - 1) l i
unfolding read_ty
read-one zero l i h = absurd (omega arith)
read-one (suc n) l i h = let e : suc n - 1 ≡ n = omega arith in rw e refl

module _ (n l : ℕ) (i : List Terminal) (pos : 0 < n) where
  pub atom-fails : (e : Stop) → Fails e (ty_atom (read_ty (n - 1)) (ty_start i)) → Fails e (read_ty n l i)
  atom-fails e h = fails-by e (read_ty n l i) _ (read-one n l i pos) (fails-then e (ty_atom (read_ty (n - 1)) (ty_start i)) _ h)

  module _ (a : Read read_tree.Ty) (is : ty_atom (read_ty (n - 1)) (ty_start i) ≡ ok a) where
    after-atom : read_ty n l i ≡ then_read (whole (postfix_turn (n - 1)) a.tree a.rest) (λ b k. then_read (product_rest (read_ty (n - 1)) (n - 1) l b k) (arrow_rest (read_ty (n - 1)) (n - 1) l))
    after-atom = read-one n l i pos ∙ rw is refl

    pub applied-fails : (e : Stop) → Fails e (whole (postfix_turn (n - 1)) a.tree a.rest) → Fails e (read_ty n l i)
    applied-fails e h = fails-by e (read_ty n l i) _ after-atom (fails-then e (whole (postfix_turn (n - 1)) a.tree a.rest) _ h)

    module _ (b : Read read_tree.Ty) (is2 : whole (postfix_turn (n - 1)) a.tree a.rest ≡ ok b) where
      after-applied : read_ty n l i ≡ then_read (product_rest (read_ty (n - 1)) (n - 1) l b.tree b.rest) (arrow_rest (read_ty (n - 1)) (n - 1) l)
      after-applied = after-atom ∙ ap (λ (z : Answer read_tree.Ty). then_read z (λ b k. then_read (product_rest (read_ty (n - 1)) (n - 1) l b k) (arrow_rest (read_ty (n - 1)) (n - 1) l))) is2

      pub product-fails : (e : Stop) → Fails e (product_rest (read_ty (n - 1)) (n - 1) l b.tree b.rest) → Fails e (read_ty n l i)
      product-fails e h = fails-by e (read_ty n l i) _ after-applied (fails-then e (product_rest (read_ty (n - 1)) (n - 1) l b.tree b.rest) _ h)

      pub after-product : (p : Read read_tree.Ty) → product_rest (read_ty (n - 1)) (n - 1) l b.tree b.rest ≡ ok p → read_ty n l i ≡ arrow_rest (read_ty (n - 1)) (n - 1) l p.tree p.rest
      after-product p h = after-applied ∙ ap (λ (z : Answer read_tree.Ty). then_read z (arrow_rest (read_ty (n - 1)) (n - 1) l)) h

-- Type constructors after an argument.

pub con-of : (s : Source) (i : List Terminal) (p q r : Place) (v : Vec Ty Global) (c : code.LongId) (ts : List Ty) → p ≡ at s.file (place_at i) → q ≡ r → v.items ≡ ts → ty_of (Con p v q c) ≡ tree.con (at s.file (place_at i)) (tys_of (map ty_of ts)) r (long_id_of c)
con-of s i p q r v c ts e1 e2 e3 = ty_of-Con p v q c ∙ rw (e1, e2, e3) refl

pub record Applying (s : Source) (n : ℕ) (i : List Terminal) (t : Ty) (d : ℕ) (o : List Token) (total : Answer read_tree.Ty) : Type 0 where
  pub it : Read read_tree.Ty
  pub is : IsTy s (n + 1) i t d o it
  pub going : Going (postfix_turn n) it.tree it.rest (λ b. b) total

module _ (s : Source) (n : ℕ) (i : List Terminal) (t : Ty) (d : ℕ) (o : List Token) where
  module _ (total : Answer read_tree.Ty) (g : Applying s n i t d o total) where
    turn-from : first_as as_long_tycon (left s o) ≡ first_as as_long_tycon g.it.rest
    turn-from = ap (first_as as_long_tycon) g.is.rest

    pub applying-last : first_as as_long_tycon (left s o) ≡ None → Said (IsTy s (n + 1) i t d o) total
    applying-last h =
        let q : first_as as_long_tycon g.it.rest ≡ None = sym turn-from ∙ h in
        let one : postfix_turn n g.it.tree g.it.rest ≡ read (last g.it.tree) g.it.rest = rw q refl in
        record { got = g.it; is = going-last (postfix_turn n) one g.going; same = g.is }

    pub applying-deep : (b : ℕ) (c : Placed LongId) (m : List Terminal) → first_as as_long_tycon (left s o) ≡ taken c m → n < d → total ≡ deep
    applying-deep b c m h lt =
        let q : first_as as_long_tycon g.it.rest ≡ taken c m = sym turn-from ∙ h in
        let e = g.is.depth in
        let w : nat_le (depth_ty g.it.tree) n ≡ false = lt-leb (depth_ty g.it.tree) n (omega arith) in
        let one : postfix_turn n g.it.tree g.it.rest ≡ deep = rw (q, w) refl in
        going-fails (postfix_turn n) (stop.Deep b) one g.going

    pub applying-more : (u : Ty) (c : Placed LongId) (o2 : List Token) → first_as as_long_tycon (left s o) ≡ taken c (left s o2) → d ≤ n → ty_of u ≡ tree.con (at s.file (place_at i)) (tys_of (ty_of t ∷ [])) (at s.file c.place) c.it → Applying s n i u (d + 1) o2 total
    applying-more u c o2 h le is =
        let q : first_as as_long_tycon g.it.rest ≡ taken c (left s o2) = sym turn-from ∙ h in
        let e = g.is.depth in
        let w : nat_le (depth_ty g.it.tree) n ≡ true = le-leb (depth_ty g.it.tree) n (omega arith) in
        let one : postfix_turn n g.it.tree g.it.rest ≡ read (more (λ b. b) (con_ty (ty_place g.it.tree) (ty g.it.tree no_tys) c)) (left s o2) = rw (q, w) refl in
        let lt : length (left s o2) < length g.it.rest = first-shorter as_long_tycon g.it.rest c (left s o2) q in
        let p = g.is.place in let b = g.is.bare in let sh = g.is.shorter in
        record {
          it = record { tree = con_ty (ty_place g.it.tree) (ty g.it.tree no_tys) c; rest = left s o2 };
          is = record { rest = refl; bare = is ∙ rw (b, p) refl; depth = omega arith; place = p; fits = omega arith; shorter = omega arith };
          going = going-more (postfix_turn n) one lt g.going;
        }

-- A type constructor after its arguments.

bare_tys-list : (f : ℕ) (ts : Tys) → bare_tys f ts ≡ tys_of (ty_list f ts)
bare_tys-list f no_tys = refl
bare_tys-list f (ty t ts) = ap (tree.ty (bare_ty f t)) (bare_tys-list f ts)

module _ (s : Source) (n : ℕ) (i k : List Terminal) (t : read_tree.Ty) where
  module _ (front ts : List Ty) (d0 d : ℕ) (o : List Token) (a : Read Tys) (w : whole (separator_turn Comma (read_ty n)) no_state k ≡ ok a) (is : IsTys s n k front d0 ts d o a) where
    pub arguments-open : after_word res.RightParen (left s o) ≡ None → arguments (read_ty n) (place_at i) t k ≡ bad
    arguments-open q = let q' : after_word res.RightParen a.rest ≡ None = subst (λ (z : List Terminal). after_word res.RightParen z ≡ None) is.rest q in rw (w, q') refl

    pub arguments-alone : (o2 : List Token) → after_word res.RightParen (left s o) ≡ Some (left s o2) → first_as as_long_tycon (left s o2) ≡ None → arguments (read_ty n) (place_at i) t k ≡ bad
    arguments-alone o2 q c = let q' : after_word res.RightParen a.rest ≡ Some (left s o2) = subst (λ (z : List Terminal). after_word res.RightParen z ≡ Some (left s o2)) is.rest q in rw (w, q', c) refl

    pub arguments-done : (o2 o3 : List Token) (c : Placed LongId) (u : Ty) → after_word res.RightParen (left s o) ≡ Some (left s o2) → first_as as_long_tycon (left s o2) ≡ taken c (left s o3) → map ty_of front ≡ bare_ty s.file t ∷ [] → d0 ≡ depth_ty t → d0 ≤ n → length k < length i →
        ty_of u ≡ tree.con (at s.file (place_at i)) (tys_of (map ty_of ts)) (at s.file c.place) c.it → Said (IsTy s (n + 1) i u (d + 1) o3) (arguments (read_ty n) (place_at i) t k)
    arguments-done o2 o3 c u q cc2 fr dd le lt b =
        let q' : after_word res.RightParen a.rest ≡ Some (left s o2) = subst (λ (z : List Terminal). after_word res.RightParen z ≡ Some (left s o2)) is.rest q in
        let one : arguments (read_ty n) (place_at i) t k ≡ read (con_ty (place_at i) (ty t a.tree) c) (left s o3) = rw (w, q', cc2) refl in
        let sh = word-shorter res.RightParen a.rest (left s o2) q' in let sh1 = first-shorter as_long_tycon (left s o2) c (left s o3) cc2 in let sh2 = is.shorter in let e = is.depth in let f = is.fits in
        let m : tys_of (map ty_of ts) ≡ bare_tys s.file (ty t a.tree) = ap tys_of (is.bare ∙ ap (λ (z : List tree.Ty). z ++ ty_list s.file a.tree) fr) ∙ sym (bare_tys-list s.file (ty t a.tree)) in
        record {
          got = record { tree = con_ty (place_at i) (ty t a.tree) c; rest = left s o3 };
          is = one;
          same = record { rest = refl; bare = b ∙ ap (λ (z : tree.Tys). tree.con (at s.file (place_at i)) z (at s.file c.place) c.it) m; depth = omega arith; place = refl; fits = omega arith; shorter = omega arith };
        }

pub separator-shorter : (x : Separator) (i o : List Terminal) → after_separator x i ≡ Some o → length o < length i
separator-shorter Comma i o h = word-shorter res.Comma i o h
separator-shorter Star i o h = star-shorter i o h

pub plain-gives : (s : Source) (n : ℕ) (i : List Terminal) (r : Result (Got Ty) Stop) (self : TyReader) → ty_start i ≡ plain_start i → Gives (λ (x : Got Ty) (r : Read read_tree.Ty). IsTy s 1 i x.it x.depth x.rest.now r) r (ty_atom self (plain_start i)) → Gives (λ (x : Got Ty) (r : Read read_tree.Ty). IsTy s (n + 1) i x.it x.depth x.rest.now r) r (ty_atom self (ty_start i))
plain-gives s n i (Ok x) self e g =
    let h = g.same in let f = h.fits in
    record { got = g.got; is = ap (ty_atom self) e ∙ g.is; same = record { rest = h.rest; bare = h.bare; depth = h.depth; place = h.place; fits = omega arith; shorter = h.shorter } }
plain-gives s n i (Err e) self p f = fails-by e (ty_atom self (ty_start i)) (ty_atom self (plain_start i)) (ap (ty_atom self) p) f
