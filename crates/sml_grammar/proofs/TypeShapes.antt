-- Facts about types that are read.
use Rattle.std.proofs.Common.{◌≡◌, ℕ, ◌≤◌, ◌<◌, List, ◌∷◌, length, Option, Some, None, Bool, true, false, refl, ap, arith, nat_le}
use Rattle.std.proofs.lemmas.Bool.{leb-true, leb-false, le-leb}
use Rattle.mlc_names.specs.declared.token.Reserved.TheVariants as res
use Rattle.sml_tree.specs.Terminal.{LongId, Terminal, reserved, type_var, alpha_tycon, symbol_tycon, IsLongTycon, short_tycon, long_alpha_tycon, long_symbol_tycon}
use Rattle.sml_tree.specs.declared.ident.Tyvar.{Tyvar}
use Rattle.sml_tree.specs.ReadTree.{Placed, Ty, var_ty, record_ty, con_ty, product_ty, arrow_ty, paren_ty, Tys, TyFields}
use Rattle.sml_tree.specs.Depth.{depth_ty}
use Rattle.sml_tree.specs.Levels.{ty_level}
use Rattle.sml_tree.specs.Grammar.{ReadsTy, of_tyvar, of_no_ty_row, of_ty_row, of_tycon, of_tycon_1, of_tycon_n, of_product, of_arrow, of_paren_ty, TyRow, last_ty_row, more_ty_row, TyCommas, last_ty, more_tys, Stars, last_star, more_stars, Arrows, last_arrow, more_arrows}
use Rattle.sml_grammar.specs.Terminals.{Taken, first_as, as_long_tycon, after_word, after_star, on_some, on_taken, tail}
use Rattle.sml_grammar.specs.Types.{TyStart, var_start, con_start, brace_start, paren_start, no_start, con_if, ty_start, is_ty_start, begins_ty, ty_could_go_on}
use Rattle.sml_grammar.proofs.Words.{WordAt, at_word, StarAt, at_star}
use Rattle.sml_grammar.specs.Begins.{BeginsTy, with_tyvar, with_tycon, with_ty_brace, with_ty_paren}
use Rattle.sml_grammar.proofs.Answers.{not_true}
use Rattle.sml_grammar.proofs.Terminals.{Front, front, long_tycon-is, label-word, not-word}

-- a type has terminals
mutual
  pub ty-shorter : {i o : List Terminal} {t : Ty} → ReadsTy i t o → length o < length i
  ty-shorter (of_tyvar p a) = omega arith
  ty-shorter (of_no_ty_row p q) = omega arith
  ty-shorter (of_ty_row p q d) = let h = row-shorter d in omega arith
  ty-shorter (of_tycon c) = omega arith
  ty-shorter (of_tycon_1 lv d c e) = let h = ty-shorter d in omega arith
  ty-shorter (of_tycon_n p r s d ds c) = let h = ty-shorter d in let g = commas-shorter ds in omega arith
  ty-shorter (of_product lv d ds) = let h = ty-shorter d in let g = stars-shorter ds in omega arith
  ty-shorter (of_arrow lv d ds) = let h = ty-shorter d in let g = arrows-shorter ds in omega arith
  ty-shorter (of_paren_ty p q d) = let h = ty-shorter d in omega arith

  pub row-shorter : {i o : List Terminal} {fs : TyFields} → TyRow i fs o → length o < length i
  row-shorter (last_ty_row p l d) = let h = ty-shorter d in omega arith
  row-shorter (more_ty_row p q l d ds) = let h = ty-shorter d in let g = row-shorter ds in omega arith

  pub commas-shorter : {i o : List Terminal} {ts : Tys} → TyCommas i ts o → length o < length i
  commas-shorter (last_ty d) = ty-shorter d
  commas-shorter (more_tys p d ds) = let h = ty-shorter d in let g = commas-shorter ds in omega arith

  pub stars-shorter : {i o : List Terminal} {ts : Tys} → Stars i ts o → length o < length i
  stars-shorter (last_star p x lv d) = let h = ty-shorter d in omega arith
  stars-shorter (more_stars p x lv d ds) = let h = ty-shorter d in let g = stars-shorter ds in omega arith

  pub arrows-shorter : {i o : List Terminal} {ts : Tys} → Arrows i ts o → length o < length i
  arrows-shorter (last_arrow p lv d) = let h = ty-shorter d in omega arith
  arrows-shorter (more_arrows p lv d ds) = let h = ty-shorter d in let g = arrows-shorter ds in omega arith

pub ty-pos : (t : Ty) → 0 < depth_ty t
ty-pos (var_ty p a) = omega arith
ty-pos (record_ty p fs) = omega arith
ty-pos (con_ty p ts c) = omega arith
ty-pos (product_ty t ts) = omega arith
ty-pos (arrow_ty t ts) = omega arith
ty-pos (paren_ty p t) = omega arith

pub start-con : {t : Terminal} {p : ℕ} {c : LongId} → IsLongTycon t p c → (o : List Terminal) → ty_start (t ∷ o) ≡ con_start (record { place = p; it = c }) o
start-con (short_tycon (alpha_tycon p x)) o = refl
start-con (short_tycon (symbol_tycon p x)) o = refl
start-con (long_alpha_tycon p qs x) o = refl
start-con (long_symbol_tycon p qs x) o = refl

pub ty-begins : {i o : List Terminal} {t : Ty} → ReadsTy i t o → begins_ty i ≡ true
ty-begins (of_tyvar p a) = refl
ty-begins (of_no_ty_row p q) = refl
ty-begins (of_ty_row p q d) = refl
ty-begins (of_tycon {o} c) = ap is_ty_start (start-con c o)
ty-begins (of_tycon_1 lv d c e) = ty-begins d
ty-begins (of_tycon_n p r s d ds c) = refl
ty-begins (of_product lv d ds) = ty-begins d
ty-begins (of_arrow lv d ds) = ty-begins d
ty-begins (of_paren_ty p q d) = refl

-- what a type begins with
pub data StartIs : List Terminal → TyStart → Type 0 where
  is_var : {o : List Terminal} (p : ℕ) (a : Tyvar) → StartIs (type_var p a ∷ o) (var_start p a o)
  is_con : {i o : List Terminal} {c : Placed LongId} → Front IsLongTycon i c o → StartIs i (con_start c o)
  is_brace : {o : List Terminal} (p : ℕ) → StartIs (reserved p res.LeftBrace ∷ o) (brace_start p o)
  is_paren : {o : List Terminal} (p : ℕ) → StartIs (reserved p res.LeftParen ∷ o) (paren_start p o)
  is_none : {i : List Terminal} → StartIs i no_start

con-start : (i : List Terminal) (v : Option (Taken (Placed LongId))) → first_as as_long_tycon i ≡ v → StartIs i (con_if v)
con-start i None e = is_none
con-start i (Some x) e = is_con (long_tycon-is i x.it x.rest e)

pub start-is : (i : List Terminal) → StartIs i (ty_start i)
start-is (type_var p a ∷ o) = is_var p a
start-is (reserved p res.LeftBrace ∷ o) = is_brace p
start-is (reserved p res.LeftParen ∷ o) = is_paren p
start-is i = con-start i (first_as as_long_tycon i) refl

-- what begins a type, and the function that looks

pub begins_ty-found : {i : List Terminal} → BeginsTy i → begins_ty i ≡ true
begins_ty-found (with_tyvar p a) = refl
begins_ty-found (with_tycon {o} c) = ap is_ty_start (start-con c o)
begins_ty-found (with_ty_brace p) = refl
begins_ty-found (with_ty_paren p) = refl

pub begins_ty-is : {i : List Terminal} → begins_ty i ≡ true → BeginsTy i
begins_ty-is {i} h = go (start-is i) h
  where
    go : {i : List Terminal} {s : TyStart} → StartIs i s → is_ty_start s ≡ true → BeginsTy i
    go (is_var p a) h = with_tyvar p a
    go (is_con (front c)) h = with_tycon c
    go (is_brace p) h = with_ty_brace p
    go (is_paren p) h = with_ty_paren p
    go is_none h = not_true h

-- what doesn't go on with these terminals

pub stops-con : (l : ℕ) (i : List Terminal) → ty_could_go_on l i ≡ false → first_as as_long_tycon i ≡ None
stops-con l i h = go (first_as as_long_tycon i) h
  where
    go : (v : Option (Taken (Placed LongId))) → on_taken v (λ c o. true) (on_some (after_star i) (λ o. nat_le l 1) (on_some (after_word res.Arrow i) (λ o. nat_le l 0) false)) ≡ false → v ≡ None
    go (Some x) h = absurd (cc)
    go None h = refl

stops-rest : (l : ℕ) (v w : Option (List Terminal)) → on_some v (λ o. nat_le l 1) (on_some w (λ o. nat_le l 0) false) ≡ false → l ≤ 1 → v ≡ None
stops-rest l None w h le = refl
stops-rest l (Some x) w h le = let e = le-leb l 1 le in absurd (cc)

stops-last : (l : ℕ) (v w : Option (List Terminal)) → on_some v (λ o. nat_le l 1) (on_some w (λ o. nat_le l 0) false) ≡ false → l ≤ 0 → w ≡ None
stops-last l (Some x) w h le = let lt : 1 < l = leb-false l 1 h in absurd (omega arith)
stops-last l None None h le = refl
stops-last l None (Some x) h le = let lt : 0 < l = leb-false l 0 h in absurd (omega arith)

stops-both : (l : ℕ) (i : List Terminal) → ty_could_go_on l i ≡ false → on_some (after_star i) (λ o. nat_le l 1) (on_some (after_word res.Arrow i) (λ o. nat_le l 0) false) ≡ false
stops-both l i h = let e = stops-con l i h in rw e at h

pub stops-star : (l : ℕ) (i : List Terminal) → ty_could_go_on l i ≡ false → l ≤ 1 → after_star i ≡ None
stops-star l i h le = stops-rest l (after_star i) (after_word res.Arrow i) (stops-both l i h) le

pub stops-arrow : (l : ℕ) (i : List Terminal) → ty_could_go_on l i ≡ false → l ≤ 0 → after_word res.Arrow i ≡ None
stops-arrow l i h le = stops-last l (after_star i) (after_word res.Arrow i) (stops-both l i h) le

pub stops-all : (l : ℕ) (i : List Terminal) → first_as as_long_tycon i ≡ None → (l ≤ 1 → after_star i ≡ None) → (l ≤ 0 → after_word res.Arrow i ≡ None) → ty_could_go_on l i ≡ false
stops-all l i c s a = rw c (star-part (nat_le l 1) refl)
  where
    arrow-part : (b : Bool) → nat_le l 0 ≡ b → on_some (after_word res.Arrow i) (λ o. b) false ≡ false
    arrow-part true e = let h = a (leb-true l 0 e) in rw h refl
    arrow-part false e = const (after_word res.Arrow i)
      where
        const : (v : Option (List Terminal)) → on_some v (λ o. false) false ≡ false
        const None = refl
        const (Some x) = refl

    star-part : (b : Bool) → nat_le l 1 ≡ b → on_some (after_star i) (λ o. b) (on_some (after_word res.Arrow i) (λ o. nat_le l 0) false) ≡ false
    star-part true e = let h = s (leb-true l 1 e) in rw h (arrow-part (nat_le l 0) refl)
    star-part false e = const (after_star i)
      where
        const : (v : Option (List Terminal)) → on_some v (λ o. false) (on_some (after_word res.Arrow i) (λ o. nat_le l 0) false) ≡ false
        const None = arrow-part (nat_le l 0) refl
        const (Some x) = refl

pub stops-more : (k l : ℕ) (i : List Terminal) → k ≤ l → ty_could_go_on k i ≡ false → ty_could_go_on l i ≡ false
stops-more k l i le h = stops-all l i (stops-con k i h) (λ g. stops-star k i h (omega arith)) (λ g. stops-arrow k i h (omega arith))

-- what the further operands begin with
pub stars-at : {i o : List Terminal} {ts : Tys} → Stars i ts o → StarAt i (tail i)
stars-at (last_star p x lv d) = at_star p x
stars-at (more_stars p x lv d ds) = at_star p x

pub arrows-at : {i o : List Terminal} {ts : Tys} → Arrows i ts o → WordAt res.Arrow i (tail i)
arrows-at (last_arrow p lv d) = at_word p
arrows-at (more_arrows p lv d ds) = at_word p

pub star-no_con : {i o : List Terminal} → StarAt i o → first_as as_long_tycon i ≡ None
star-no_con (at_star p x) = refl

pub arrow-no_con : {i o : List Terminal} → WordAt res.Arrow i o → first_as as_long_tycon i ≡ None
arrow-no_con (at_word p) = refl

pub arrow-no_star : {i o : List Terminal} → WordAt res.Arrow i o → after_star i ≡ None
arrow-no_star (at_word p) = refl

pub row-no_brace : {i o : List Terminal} {fs : TyFields} → TyRow i fs o → after_word res.RightBrace i ≡ None
row-no_brace (last_ty_row {t} {i} p l d) = not-word res.RightBrace t (reserved p res.Colon ∷ i) (label-word l)
row-no_brace (more_ty_row {t} {i} p q l d ds) = not-word res.RightBrace t (reserved p res.Colon ∷ i) (label-word l)

-- a type by its level
pub data TyShape : List Terminal → Ty → List Terminal → Type 0 where
  simple : {i o : List Terminal} {t : Ty} → 2 ≤ ty_level t → ReadsTy i t o → TyShape i t o
  product : {i m o : List Terminal} {a : Ty} {as_ : Tys} → 2 ≤ ty_level a → ReadsTy i a m → Stars m as_ o → TyShape i (product_ty a as_) o
  function : {i m o : List Terminal} {a : Ty} {as_ : Tys} → 1 ≤ ty_level a → ReadsTy i a m → Arrows m as_ o → TyShape i (arrow_ty a as_) o

pub shape : {i o : List Terminal} {t : Ty} → ReadsTy i t o → TyShape i t o
shape (of_tyvar p a) = simple (omega arith) (of_tyvar p a)
shape (of_no_ty_row p q) = simple (omega arith) (of_no_ty_row p q)
shape (of_ty_row p q d) = simple (omega arith) (of_ty_row p q d)
shape (of_tycon c) = simple (omega arith) (of_tycon c)
shape (of_tycon_1 lv d c e) = simple (omega arith) (of_tycon_1 lv d c e)
shape (of_tycon_n p r s d ds c) = simple (omega arith) (of_tycon_n p r s d ds c)
shape (of_product lv d ds) = product lv d ds
shape (of_arrow lv d ds) = function lv d ds
shape (of_paren_ty p q d) = simple (omega arith) (of_paren_ty p q d)
