-- A type of the grammar is read where it isn't too deep, and else the answer is that it is.
use Rattle.std.proofs.Common.{◌≡◌, ℕ, zero, suc, ◌≤◌, ◌<◌, List, ◌∷◌, length, None, Bool, true, false, inl, inr, refl, ◌∙◌, subst, arith, nat_le}
use Rattle.std.proofs.lemmas.Bool.{leb-true, le-leb, lt-leb}
use Rattle.mlc_names.specs.declared.label.Label.{Label}
use Rattle.mlc_names.specs.declared.token.Reserved.TheVariants as res
use Rattle.sml_tree.specs.Terminal.{LongId, Terminal, reserved, IsLongTycon, IsLabel}
use Rattle.sml_tree.specs.ReadTree.{Ty, record_ty, con_ty, product_ty, arrow_ty, paren_ty, Tys, no_tys, ty, TyFields, no_ty_fields, ty_field, ty_place}
use Rattle.sml_tree.specs.Depth.{depth_ty, depth_tys, depth_ty_fields}
use Rattle.sml_tree.specs.Levels.{ty_level}
use Rattle.sml_tree.specs.Grammar.{ReadsTy, of_tyvar, of_no_ty_row, of_ty_row, of_tycon, of_tycon_1, of_tycon_n, of_product, of_arrow, of_paren_ty, TyRow, last_ty_row, more_ty_row, TyCommas, last_ty, more_tys, Stars, last_star, more_stars, Arrows, last_arrow, more_arrows}
use Rattle.sml_grammar.specs.Answer.{Answer, ok, bad, deep, read, then_read, last, more, many, whole}
use Rattle.sml_grammar.specs.Terminals.{first_as, as_long_tycon, after_word, after_star, NoState, no_state, tail}
use Rattle.sml_grammar.specs.Types.{paren_start, ty_start, TyReader, ty_field_turn, ty_commas_turn, star_turn, arrow_turn, brace_ty, ty_atom, postfix_turn, product_rest, arrow_rest, ty_from, read_ty, ty_could_go_on}
use Rattle.sml_grammar.proofs.Answers.{Settled, fits, over, settled-by, settled-fits, le_or, then_in, many-pass, many-last, many-more, many-deep, many-stop}
use Rattle.sml_grammar.proofs.Words.{WordAt, at_word, word-found, StarAt, at_star, star-found}
use Rattle.sml_grammar.proofs.Terminals.{label-found, long_tycon-found}
use Rattle.sml_grammar.proofs.TypeShapes.{ty-shorter, stars-shorter, arrows-shorter, ty-pos, ty-begins, start-con, stops-con, stops-star, stops-arrow, stops-all, stars-at, arrows-at, star-no_con, arrow-no_con, arrow-no_star, row-no_brace, TyShape, simple, product, function, shape}

abbrev pub SettlesTy : ℕ → TyReader → Type 0
SettlesTy n self = (l : ℕ) (i o : List Terminal) (t : Ty) → ReadsTy i t o → l ≤ ty_level t → ty_could_go_on l o ≡ false → Settled (self l i) n (depth_ty t) t o

then-three : {A B C D : Type 0} (m : Answer A) (f : A → List Terminal → Answer B) (g : B → List Terminal → Answer C) (h : C → List Terminal → Answer D) →
    then_read m (λ a o. then_read (f a o) (λ b k. then_read (g b k) h)) ≡ then_read (then_read (then_read m f) g) h
then-three (ok x) f g h = then_in (f x.tree x.rest) g h
then-three bad f g h = refl
then-three deep f g h = refl

pub star-length : {i o : List Terminal} → StarAt i o → length i ≤ suc (length o)
star-length (at_star p x) = omega arith

pub arrow-length : {i o : List Terminal} → WordAt res.Arrow i o → length i ≤ suc (length o)
arrow-length (at_word p) = omega arith

module _ (n : ℕ) (self : TyReader) (settles : SettlesTy n self) where
  -- one turn of each list

  row-last : {t : Terminal} {l : Label} (s : NoState) (p : ℕ) {i o : List Terminal} {a : Ty} → IsLabel t l → self 0 i ≡ read a o → after_word res.Comma o ≡ None →
      ty_field_turn self s (t ∷ reserved p res.Colon ∷ i) ≡ read (last (ty_field l a no_ty_fields)) o
  row-last s p {i} l h c = let f = label-found l (reserved p res.Colon ∷ i) in rw (f, h, c) refl

  pub row-turns : {t : Terminal} {l : Label} (s : NoState) (p q : ℕ) {i o : List Terminal} {a : Ty} → IsLabel t l → self 0 i ≡ read a (reserved q res.Comma ∷ o) →
      ty_field_turn self s (t ∷ reserved p res.Colon ∷ i) ≡ read (more (ty_field l a) s) o
  row-turns s p q {i} l h = let f = label-found l (reserved p res.Colon ∷ i) in rw (f, h) refl

  pub row-deep : {t : Terminal} {l : Label} (s : NoState) (p : ℕ) {i : List Terminal} → IsLabel t l → self 0 i ≡ deep → ty_field_turn self s (t ∷ reserved p res.Colon ∷ i) ≡ deep
  row-deep s p {i} l h = let f = label-found l (reserved p res.Colon ∷ i) in rw (f, h) refl

  pub row-settled : {i o : List Terminal} {fs : TyFields} (s : NoState) → TyRow i fs o → after_word res.Comma o ≡ None → ty_could_go_on 0 o ≡ false → (k : ℕ) → length i < k →
      Settled (many (ty_field_turn self) k s i) n (depth_ty_fields fs) fs o
  row-settled s d c st zero lt = absurd (omega arith)
  row-settled s (last_ty_row {i} {o} {a} p l d) c st (suc k) lt =
      elim (settles 0 _ _ _ d (omega arith) st) [
        | fits le h ↦ fits (omega arith) (many-last (ty_field_turn self) k (row-last s p l h c))
        | over g h ↦ over (omega arith) (many-stop (ty_field_turn self) k (row-deep s p l h))
      ]
  row-settled s (more_ty_row p q l d ds) c st (suc k) lt =
      let sh = ty-shorter d in
      elim (settles 0 _ _ _ d (omega arith) refl) [
        | fits le h ↦ elim (row-settled s ds c st k (omega arith)) [
          | fits lf r ↦ fits (omega arith) (many-more (ty_field_turn self) k (row-turns s p q l h) r)
          | over g r ↦ over (omega arith) (many-deep (ty_field_turn self) k (row-turns s p q l h) r)
        ]
        | over g h ↦ over (omega arith) (many-stop (ty_field_turn self) k (row-deep s p l h))
      ]

  commas-last : (s : NoState) {i o : List Terminal} {a : Ty} → self 0 i ≡ read a o → after_word res.Comma o ≡ None → ty_commas_turn self s i ≡ read (last (ty a no_tys)) o
  commas-last s h c = rw (h, c) refl

  pub commas-turns : (s : NoState) (q : ℕ) {i o : List Terminal} {a : Ty} → self 0 i ≡ read a (reserved q res.Comma ∷ o) → ty_commas_turn self s i ≡ read (more (ty a) s) o
  commas-turns s q h = rw h refl

  pub commas-deep : (s : NoState) {i : List Terminal} → self 0 i ≡ deep → ty_commas_turn self s i ≡ deep
  commas-deep s h = rw h refl

  pub commas-settled : {i o : List Terminal} {ts : Tys} (s : NoState) → TyCommas i ts o → after_word res.Comma o ≡ None → ty_could_go_on 0 o ≡ false → (k : ℕ) → length i < k →
      Settled (many (ty_commas_turn self) k s i) n (depth_tys ts) ts o
  commas-settled s d c st zero lt = absurd (omega arith)
  commas-settled s (last_ty d) c st (suc k) lt =
      elim (settles 0 _ _ _ d (omega arith) st) [
        | fits le h ↦ fits (omega arith) (many-last (ty_commas_turn self) k (commas-last s h c))
        | over g h ↦ over (omega arith) (many-stop (ty_commas_turn self) k (commas-deep s h))
      ]
  commas-settled s (more_tys q d ds) c st (suc k) lt =
      let sh = ty-shorter d in
      elim (settles 0 _ _ _ d (omega arith) refl) [
        | fits le h ↦ elim (commas-settled s ds c st k (omega arith)) [
          | fits lf r ↦ fits (omega arith) (many-more (ty_commas_turn self) k (commas-turns s q h) r)
          | over g r ↦ over (omega arith) (many-deep (ty_commas_turn self) k (commas-turns s q h) r)
        ]
        | over g h ↦ over (omega arith) (many-stop (ty_commas_turn self) k (commas-deep s h))
      ]

  stars-last : (s : NoState) {i o : List Terminal} {a : Ty} → self 2 i ≡ read a o → after_star o ≡ None → star_turn self s i ≡ read (last (ty a no_tys)) o
  stars-last s h c = rw (h, c) refl

  pub stars-turns : (s : NoState) {i m o : List Terminal} {a : Ty} → self 2 i ≡ read a m → StarAt m o → star_turn self s i ≡ read (more (ty a) s) o
  stars-turns s h w = let e = star-found w in rw (h, e) refl

  pub stars-deep : (s : NoState) {i : List Terminal} → self 2 i ≡ deep → star_turn self s i ≡ deep
  stars-deep s h = rw h refl

  -- an operand of a product, before what ends it
  pub operand : {i o : List Terminal} {a : Ty} → 2 ≤ ty_level a → ReadsTy i a o → first_as as_long_tycon o ≡ None → Settled (self 2 i) n (depth_ty a) a o
  operand {o} lv d c = settles 2 _ _ _ d lv (stops-all 2 o c (λ e. absurd (omega arith)) (λ e. absurd (omega arith)))

  pub stars-settled : {i o : List Terminal} {ts : Tys} (s : NoState) → Stars i ts o → first_as as_long_tycon o ≡ None → after_star o ≡ None → (k : ℕ) → length i ≤ k →
      Settled (many (star_turn self) k s (tail i)) n (depth_tys ts) ts o
  stars-settled s d c st zero lt = let sh = stars-shorter d in absurd (omega arith)
  stars-settled s (last_star p x lv d) c st (suc k) lt =
      elim (operand lv d c) [
        | fits le h ↦ fits (omega arith) (many-last (star_turn self) k (stars-last s h st))
        | over g h ↦ over (omega arith) (many-stop (star_turn self) k (stars-deep s h))
      ]
  stars-settled s (more_stars p x lv d ds) c st (suc k) lt =
      let sh = ty-shorter d in
      let w = stars-at ds in
      elim (operand lv d (star-no_con w)) [
        | fits le h ↦ elim (stars-settled s ds c st k (omega arith)) [
          | fits lf r ↦ fits (omega arith) (many-more (star_turn self) k (stars-turns s h w) r)
          | over g r ↦ over (omega arith) (many-deep (star_turn self) k (stars-turns s h w) r)
        ]
        | over g h ↦ over (omega arith) (many-stop (star_turn self) k (stars-deep s h))
      ]

  arrows-last : (s : NoState) {i o : List Terminal} {a : Ty} → self 1 i ≡ read a o → after_word res.Arrow o ≡ None → arrow_turn self s i ≡ read (last (ty a no_tys)) o
  arrows-last s h c = rw (h, c) refl

  pub arrows-turns : (s : NoState) {i m o : List Terminal} {a : Ty} → self 1 i ≡ read a m → WordAt res.Arrow m o → arrow_turn self s i ≡ read (more (ty a) s) o
  arrows-turns s h w = let e = word-found w in rw (h, e) refl

  pub arrows-deep : (s : NoState) {i : List Terminal} → self 1 i ≡ deep → arrow_turn self s i ≡ deep
  arrows-deep s h = rw h refl

  pub domain : {i o : List Terminal} {a : Ty} → 1 ≤ ty_level a → ReadsTy i a o → first_as as_long_tycon o ≡ None → after_star o ≡ None → Settled (self 1 i) n (depth_ty a) a o
  domain {o} lv d c st = settles 1 _ _ _ d lv (stops-all 1 o c (λ e. st) (λ e. absurd (omega arith)))

  pub arrows-settled : {i o : List Terminal} {ts : Tys} (s : NoState) → Arrows i ts o → first_as as_long_tycon o ≡ None → after_star o ≡ None → after_word res.Arrow o ≡ None → (k : ℕ) → length i ≤ k →
      Settled (many (arrow_turn self) k s (tail i)) n (depth_tys ts) ts o
  arrows-settled s d c st ar zero lt = let sh = arrows-shorter d in absurd (omega arith)
  arrows-settled s (last_arrow p lv d) c st ar (suc k) lt =
      elim (domain lv d c st) [
        | fits le h ↦ fits (omega arith) (many-last (arrow_turn self) k (arrows-last s h ar))
        | over g h ↦ over (omega arith) (many-stop (arrow_turn self) k (arrows-deep s h))
      ]
  arrows-settled s (more_arrows p lv d ds) c st ar (suc k) lt =
      let sh = ty-shorter d in
      let w = arrows-at ds in
      elim (domain lv d (arrow-no_con w) (arrow-no_star w)) [
        | fits le h ↦ elim (arrows-settled s ds c st ar k (omega arith)) [
          | fits lf r ↦ fits (omega arith) (many-more (arrow_turn self) k (arrows-turns s h w) r)
          | over g r ↦ over (omega arith) (many-deep (arrow_turn self) k (arrows-turns s h w) r)
        ]
        | over g h ↦ over (omega arith) (many-stop (arrow_turn self) k (arrows-deep s h))
      ]

  -- types of the highest level

  abbrev pub simple_ty : List Terminal → Answer Ty
  simple_ty i = then_read (ty_atom self (ty_start i)) (whole (postfix_turn n))

  -- The function has come as far as to look for a type constructor after t; or there is no room for t.
  pub data Comes (i : List Terminal) (t : Ty) (o : List Terminal) : Type 0 where
    comes : depth_ty t ≤ suc n → (k : ℕ) → length o < k → simple_ty i ≡ many (postfix_turn n) k t o → Comes i t o
    sinks : suc n < depth_ty t → simple_ty i ≡ deep → Comes i t o

  atom-comes : {i o : List Terminal} {t : Ty} → Settled (ty_atom self (ty_start i)) (suc n) (depth_ty t) t o → Comes i t o
  atom-comes {o} (fits le h) = comes le (suc (length o)) (omega arith) (rw h refl)
  atom-comes (over lt h) = sinks lt (rw h refl)

  pub postfix-deep : (a : Ty) {t : Terminal} {p : ℕ} {c : LongId} (o : List Terminal) → n < depth_ty a → IsLongTycon t p c → postfix_turn n a (t ∷ o) ≡ deep
  postfix-deep a o lt c = let f = long_tycon-found c o in let e = lt-leb (depth_ty a) n lt in rw (f, e) refl

  postfix-more : (a : Ty) {t : Terminal} {p : ℕ} {c : LongId} (o : List Terminal) → depth_ty a ≤ n → IsLongTycon t p c →
      postfix_turn n a (t ∷ o) ≡ read (more (λ b. b) (con_ty (ty_place a) (ty a no_tys) (record { place = p; it = c }))) o
  postfix-more a o le c = let f = long_tycon-found c o in let e = le-leb (depth_ty a) n le in rw (f, e) refl

  postfix-last : (a : Ty) {o : List Terminal} → first_as as_long_tycon o ≡ None → postfix_turn n a o ≡ read (last a) o
  postfix-last a c = rw c refl

  -- `{` and `(`

  brace-settled : {i o : List Terminal} {fs : TyFields} (p q : ℕ) → TyRow i fs (reserved q res.RightBrace ∷ o) → Settled (brace_ty self p i) (suc n) (depth_ty (record_ty p fs)) (record_ty p fs) o
  brace-settled {i} p q d =
      let e = row-no_brace d in
      elim (row-settled no_state d refl refl (suc (length i)) (omega arith)) [
        | fits le h ↦ fits (omega arith) (rw (e, h) refl)
        | over lt h ↦ over (omega arith) (rw (e, h) refl)
      ]

  paren-settled : {i o : List Terminal} {a : Ty} (p q : ℕ) → ReadsTy i a (reserved q res.RightParen ∷ o) → Settled (ty_atom self (paren_start p i)) (suc n) (depth_ty (paren_ty p a)) (paren_ty p a) o
  paren-settled p q d =
      elim (settles 0 _ _ _ d (omega arith) refl) [
        | fits le h ↦ fits (omega arith) (rw h refl)
        | over lt h ↦ over (omega arith) (rw h refl)
      ]

  arguments-settled : {i m o : List Terminal} {t : Terminal} {q : ℕ} {c : LongId} {a : Ty} {ts : Tys} (p r s : ℕ) → ReadsTy i a (reserved r res.Comma ∷ m) → TyCommas m ts (reserved s res.RightParen ∷ t ∷ o) → IsLongTycon t q c →
      Settled (ty_atom self (paren_start p i)) (suc n) (depth_ty (con_ty p (ty a ts) (record { place = q; it = c }))) (con_ty p (ty a ts) (record { place = q; it = c })) o
  arguments-settled {m} {o} p r s d ds c =
      let f = long_tycon-found c o in
      elim (settles 0 _ _ _ d (omega arith) refl) [
        | fits le h ↦ elim (commas-settled no_state ds refl refl (suc (length m)) (omega arith)) [
          | fits lf g ↦ fits (omega arith) (rw (h, g, f) refl)
          | over lt g ↦ over (omega arith) (rw (h, g) refl)
        ]
        | over lt h ↦ over (omega arith) (rw h refl)
      ]

  after-comes : {i o : List Terminal} {t : Terminal} {q : ℕ} {c : LongId} {a : Ty} → Comes i a (t ∷ o) → IsLongTycon t q c → Comes i (con_ty (ty_place a) (ty a no_tys) (record { place = q; it = c })) o
  after-comes (sinks lt h) c = sinks (omega arith) h
  after-comes (comes le zero lt h) c = absurd (omega arith)
  after-comes {o} {a} (comes le (suc k) lt h) c =
      elim (le_or (depth_ty a) n) [
        | inl p ↦ comes (omega arith) k (omega arith) (h ∙ many-pass (postfix_turn n) k (postfix-more a o p c))
        | inr p ↦ sinks (omega arith) (h ∙ many-stop (postfix_turn n) k (postfix-deep a o p c))
      ]

  pub simple-comes : {i o : List Terminal} {t : Ty} → 2 ≤ ty_level t → ReadsTy i t o → Comes i t o
  simple-comes lv (of_tyvar p a) = atom-comes (fits (omega arith) refl)
  simple-comes lv (of_no_ty_row p q) = atom-comes (fits (omega arith) refl)
  simple-comes lv (of_ty_row p q d) = atom-comes (brace-settled p q d)
  simple-comes lv (of_tycon {o} c) = let e = start-con c o in atom-comes (fits (omega arith) (rw e refl))
  simple-comes lv (of_tycon_1 {i} {o} {q} {c} {a} high d at e) =
      subst (λ (z : ℕ). Comes i (con_ty z (ty a no_tys) (record { place = q; it = c })) o) e (after-comes (simple-comes high d) at)
  simple-comes lv (of_tycon_n p r s d ds c) = atom-comes (arguments-settled p r s d ds c)
  simple-comes lv (of_product high d ds) = absurd (omega arith)
  simple-comes lv (of_arrow high d ds) = absurd (omega arith)
  simple-comes lv (of_paren_ty p q d) = atom-comes (paren-settled p q d)

  pub simple-settled : {i o : List Terminal} {t : Ty} → 2 ≤ ty_level t → ReadsTy i t o → first_as as_long_tycon o ≡ None → Settled (simple_ty i) (suc n) (depth_ty t) t o
  simple-settled {i} {o} {t} lv d c = go (simple-comes lv d)
    where
      go : Comes i t o → Settled (simple_ty i) (suc n) (depth_ty t) t o
      go (comes le zero lt h) = absurd (omega arith)
      go (comes le (suc k) lt h) = fits le (h ∙ many-last (postfix_turn n) k (postfix-last t c))
      go (sinks lt h) = over lt h

  -- products

  abbrev pub products : ℕ → List Terminal → Answer Ty
  products l i = then_read (simple_ty i) (product_rest self n l)

  product-none : (l : ℕ) (a : Ty) {o : List Terminal} → (l ≤ 1 → after_star o ≡ None) → product_rest self n l a o ≡ read a o
  product-none l a {o} st = go (nat_le l 1) refl
    where
      go : (b : Bool) → nat_le l 1 ≡ b → product_rest self n l a o ≡ read a o
      go true e = let f = st (leb-true l 1 e) in rw (e, f) refl
      go false e = rw e refl

  pub product-deep : (l : ℕ) (a : Ty) {m k : List Terminal} → l ≤ 1 → StarAt m k → n < depth_ty a → product_rest self n l a m ≡ deep
  product-deep l a le w lt = let e = le-leb l 1 le in let f = star-found w in let g = lt-leb (depth_ty a) n lt in rw (e, f, g) refl

  pub product-goes : (l : ℕ) (a : Ty) {m k : List Terminal} → l ≤ 1 → StarAt m k → depth_ty a ≤ n → product_rest self n l a m ≡ then_read (whole (star_turn self) no_state k) (λ ts o. read (product_ty a ts) o)
  product-goes l a le w lt = let e = le-leb l 1 le in let f = star-found w in let g = le-leb (depth_ty a) n lt in rw (e, f, g) refl

  product-settled : (l : ℕ) {i m o : List Terminal} {a : Ty} {ts : Tys} → l ≤ 1 → 2 ≤ ty_level a → ReadsTy i a m → Stars m ts o → first_as as_long_tycon o ≡ None → after_star o ≡ None →
      Settled (products l i) (suc n) (depth_ty (product_ty a ts)) (product_ty a ts) o
  product-settled l {m} {a} low lv d ds c st =
      let w = stars-at ds in
      elim (simple-settled lv d (star-no_con w)) [
        | fits le h ↦ elim (le_or (depth_ty a) n) [
          | inl p ↦ elim (stars-settled no_state ds c st (suc (length (tail m))) (star-length w)) [
            | fits lf r ↦ fits (omega arith) (let e = product-goes l a low w p in rw (h, e, r) refl)
            | over lt r ↦ over (omega arith) (let e = product-goes l a low w p in rw (h, e, r) refl)
          ]
          | inr p ↦ over (omega arith) (let e = product-deep l a low w p in rw (h, e) refl)
        ]
        | over lt h ↦ over (omega arith) (rw h refl)
      ]

  pub products-settled : (l : ℕ) {i o : List Terminal} {t : Ty} → ReadsTy i t o → 1 ≤ ty_level t → l ≤ ty_level t → first_as as_long_tycon o ≡ None → (l ≤ 1 → after_star o ≡ None) →
      Settled (products l i) (suc n) (depth_ty t) t o
  products-settled l d one high c st = go (shape d) one high c st
    where
      go : {i o : List Terminal} {t : Ty} → TyShape i t o → 1 ≤ ty_level t → l ≤ ty_level t → first_as as_long_tycon o ≡ None → (l ≤ 1 → after_star o ≡ None) → Settled (products l i) (suc n) (depth_ty t) t o
      go {t} (simple lv d) one high c st =
          let e = product-none l t st in
          elim (simple-settled lv d c) [ fits le h ↦ fits le (rw (h, e) refl) | over lt h ↦ over lt (rw h refl) ]
      go (product lv d ds) one high c st = product-settled l high lv d ds c (st high)
      go (function lv d ds) one high c st = absurd (omega arith)

  -- function types

  abbrev pub arrows : ℕ → List Terminal → Answer Ty
  arrows l i = then_read (products l i) (arrow_rest self n l)

  pub from-arrows : (l : ℕ) (i : List Terminal) → ty_from self n l i ≡ arrows l i
  from-arrows l i = then-three (ty_atom self (ty_start i)) (whole (postfix_turn n)) (product_rest self n l) (arrow_rest self n l)

  arrow-none : (l : ℕ) (a : Ty) {o : List Terminal} → (l ≤ 0 → after_word res.Arrow o ≡ None) → arrow_rest self n l a o ≡ read a o
  arrow-none l a {o} st = go (nat_le l 0) refl
    where
      go : (b : Bool) → nat_le l 0 ≡ b → arrow_rest self n l a o ≡ read a o
      go true e = let f = st (leb-true l 0 e) in rw (e, f) refl
      go false e = rw e refl

  pub arrow-deep : (l : ℕ) (a : Ty) {m k : List Terminal} → l ≤ 0 → WordAt res.Arrow m k → n < depth_ty a → arrow_rest self n l a m ≡ deep
  arrow-deep l a le w lt = let e = le-leb l 0 le in let f = word-found w in let g = lt-leb (depth_ty a) n lt in rw (e, f, g) refl

  pub arrow-goes : (l : ℕ) (a : Ty) {m k : List Terminal} → l ≤ 0 → WordAt res.Arrow m k → depth_ty a ≤ n → arrow_rest self n l a m ≡ then_read (whole (arrow_turn self) no_state k) (λ ts o. read (arrow_ty a ts) o)
  arrow-goes l a le w lt = let e = le-leb l 0 le in let f = word-found w in let g = le-leb (depth_ty a) n lt in rw (e, f, g) refl

  arrow-settled : (l : ℕ) {i m o : List Terminal} {a : Ty} {ts : Tys} → l ≤ 0 → 1 ≤ ty_level a → ReadsTy i a m → Arrows m ts o → ty_could_go_on 0 o ≡ false →
      Settled (arrows l i) (suc n) (depth_ty (arrow_ty a ts)) (arrow_ty a ts) o
  arrow-settled l {m} {o} {a} low lv d ds st =
      let w = arrows-at ds in
      elim (products-settled l d lv (omega arith) (arrow-no_con w) (λ e. arrow-no_star w)) [
        | fits le h ↦ elim (le_or (depth_ty a) n) [
          | inl p ↦ elim (arrows-settled no_state ds (stops-con 0 o st) (stops-star 0 o st (omega arith)) (stops-arrow 0 o st (omega arith)) (suc (length (tail m))) (arrow-length w)) [
            | fits lf r ↦ fits (omega arith) (let e = arrow-goes l a low w p in rw (h, e, r) refl)
            | over lt r ↦ over (omega arith) (let e = arrow-goes l a low w p in rw (h, e, r) refl)
          ]
          | inr p ↦ over (omega arith) (let e = arrow-deep l a low w p in rw (h, e) refl)
        ]
        | over lt h ↦ over (omega arith) (rw h refl)
      ]

  arrows-of : (l : ℕ) {i o : List Terminal} {t : Ty} → ReadsTy i t o → 1 ≤ ty_level t → l ≤ ty_level t → ty_could_go_on l o ≡ false → Settled (arrows l i) (suc n) (depth_ty t) t o
  arrows-of l {o} {t} d one high st =
      let e = arrow-none l t {o = o} (stops-arrow l o st) in
      elim (products-settled l d one high (stops-con l o st) (stops-star l o st)) [ fits le h ↦ fits le (rw (h, e) refl) | over lt h ↦ over lt (rw h refl) ]

  pub from-settled : (l : ℕ) (i o : List Terminal) (t : Ty) → ReadsTy i t o → l ≤ ty_level t → ty_could_go_on l o ≡ false → Settled (ty_from self n l i) (suc n) (depth_ty t) t o
  from-settled l i o t d high st = settled-by (from-arrows l i) (go (shape d) high st)
    where
      go : {i o : List Terminal} {t : Ty} → TyShape i t o → l ≤ ty_level t → ty_could_go_on l o ≡ false → Settled (arrows l i) (suc n) (depth_ty t) t o
      go (simple lv d) high st = arrows-of l d (omega arith) high st
      go (product lv d ds) high st = arrows-of l (of_product lv d ds) (omega arith) high st
      go {o} (function lv d ds) high st = arrow-settled l high lv d ds (let z : l ≡ 0 = omega arith in subst (λ (k : ℕ). ty_could_go_on k o ≡ false) z st)

pub ty-settled : (n : ℕ) → SettlesTy n (read_ty n)
unfolding read_ty
ty-settled zero l i o t d high st = let e = ty-begins d in over (ty-pos t) (rw e refl)
ty-settled (suc n) l i o t d high st = from-settled n (read_ty n) (ty-settled n) l i o t d high st

pub ty-complete : (n l : ℕ) {i o : List Terminal} {t : Ty} → ReadsTy i t o → depth_ty t ≤ n → l ≤ ty_level t → ty_could_go_on l o ≡ false → read_ty n l i ≡ read t o
ty-complete n l {i} {o} {t} d le high st = settled-fits (ty-settled n l i o t d high st) le
