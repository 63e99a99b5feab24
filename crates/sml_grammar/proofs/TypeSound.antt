-- What is read as a type is one.
use Rattle.std.proofs.Common.{◌≡◌, ℕ, zero, suc, ◌≤◌, ◌<◌, List, ◌∷◌, length, None, false, inl, inr, refl, subst, arith, nat_le, if◌then◌else◌}
use Rattle.std.proofs.lemmas.Bool.{leb-true, leb-false}
use Rattle.mlc_names.specs.declared.label.Label.{Label}
use Rattle.mlc_names.specs.declared.token.Reserved.TheVariants as res
use Rattle.sml_tree.specs.Terminal.{LongId, Terminal, reserved, type_var, IsLongTycon, IsLabel, star}
use Rattle.sml_tree.specs.ReadTree.{Placed, Ty, record_ty, con_ty, product_ty, arrow_ty, paren_ty, Tys, no_tys, ty, TyFields, no_ty_fields, ty_field, ty_place}
use Rattle.sml_tree.specs.Depth.{depth_ty, depth_tys, depth_ty_fields}
use Rattle.sml_tree.specs.Levels.{ty_level}
use Rattle.sml_tree.specs.Grammar.{ReadsTy, of_tyvar, of_no_ty_row, of_ty_row, of_tycon, of_tycon_1, of_tycon_n, of_product, of_arrow, of_paren_ty, TyRow, last_ty_row, more_ty_row, TyCommas, last_ty, more_tys, Stars, last_star, more_stars, Arrows, last_arrow, more_arrows}
use Rattle.sml_grammar.specs.Answer.{Read, ok, deep, read, then_read, Turn, last, more, whole}
use Rattle.sml_grammar.specs.Terminals.{first_as, as_label, as_long_tycon, after_word, after_star, on_some, then_taken, word_then, separated, NoState, no_state}
use Rattle.sml_grammar.specs.Types.{TyStart, ty_start, begins_ty, TyReader, ty_field_turn, ty_commas_turn, star_turn, arrow_turn, brace_ty, arguments, paren_rest, ty_atom, postfix_turn, product_rest, arrow_rest, ty_from, read_ty, ty_could_go_on}
use Rattle.sml_grammar.proofs.Answers.{chosen, got, then_ok, deep_ok, bad_ok, deep_if-ok, on_some-split, on_taken-split, then_taken-ok, word_then-ok, separated-ok, GoodTurn, many-ok}
use Rattle.sml_grammar.proofs.Words.{WordAt, at_word, word-at, StarAt, at_star, star-at}
use Rattle.sml_grammar.proofs.Terminals.{Front, front, long_tycon-is, label-is}
use Rattle.sml_grammar.proofs.TypeShapes.{StartIs, is_var, is_con, is_brace, is_paren, is_none, start-is, stops-con, stops-star, stops-all}

pub record GoodTy (n l : ℕ) (i : List Terminal) (y : Read Ty) : Type 0 where
  pub reads : ReadsTy i y.tree y.rest
  pub high : l ≤ ty_level y.tree
  pub stops : ty_could_go_on l y.rest ≡ false
  pub fits : depth_ty y.tree ≤ n

abbrev pub SoundTy : ℕ → TyReader → Type 0
SoundTy n self = (l : ℕ) (i : List Terminal) (y : Read Ty) → l ≤ 2 → self l i ≡ ok y → GoodTy n l i y

-- the grammar's rules over what was found

abbrev pub LabelAt : List Terminal → Placed Label → List Terminal → Type 0
LabelAt = Front (λ t p l. IsLabel t l)

pub row-last : {i m k o : List Terminal} {x : Placed Label} {a : Ty} → LabelAt i x m → WordAt res.Colon m k → ReadsTy k a o → TyRow i (ty_field x.it a no_ty_fields) o
row-last (front l) (at_word p) d = last_ty_row p l d

pub row-more : {i m k o n q : List Terminal} {x : Placed Label} {a : Ty} {fs : TyFields} → LabelAt i x m → WordAt res.Colon m k → ReadsTy k a o → WordAt res.Comma o n → TyRow n fs q → TyRow i (ty_field x.it a fs) q
row-more (front l) (at_word p) d (at_word q) ds = more_ty_row p q l d ds

pub commas-more : {i o n q : List Terminal} {a : Ty} {ts : Tys} → ReadsTy i a o → WordAt res.Comma o n → TyCommas n ts q → TyCommas i (ty a ts) q
commas-more d (at_word p) ds = more_tys p d ds

pub stars-more : {i o n q : List Terminal} {a : Ty} {ts : Tys} (p x : ℕ) → 2 ≤ ty_level a → ReadsTy i a o → StarAt o n → ((p x : ℕ) → Stars (star p x ∷ n) ts q) → Stars (star p x ∷ i) (ty a ts) q
stars-more p x lv d (at_star r y) ds = more_stars p x lv d (ds r y)

pub arrows-more : {i o n q : List Terminal} {a : Ty} {ts : Tys} (p : ℕ) → 1 ≤ ty_level a → ReadsTy i a o → WordAt res.Arrow o n → ((p : ℕ) → Arrows (reserved p res.Arrow ∷ n) ts q) → Arrows (reserved p res.Arrow ∷ i) (ty a ts) q
arrows-more p lv d (at_word r) ds = more_arrows p lv d (ds r)

pub con-ty : {i o : List Terminal} {c : Placed LongId} → Front IsLongTycon i c o → ReadsTy i (con_ty c.place no_tys c) o
con-ty (front c) = of_tycon c

pub con-after : {i m o : List Terminal} {a : Ty} {c : Placed LongId} → 2 ≤ ty_level a → ReadsTy i a m → Front IsLongTycon m c o → ReadsTy i (con_ty (ty_place a) (ty a no_tys) c) o
con-after lv d (front c) = of_tycon_1 lv d c refl

pub arguments-ty : {i j m n k o : List Terminal} {a : Ty} {ts : Tys} {c : Placed LongId} (p : ℕ) → ReadsTy i a m → WordAt res.Comma m n → TyCommas n ts k → WordAt res.RightParen k j → Front IsLongTycon j c o →
    ReadsTy (reserved p res.LeftParen ∷ i) (con_ty p (ty a ts) c) o
arguments-ty p d (at_word r) ds (at_word s) (front c) = of_tycon_n p r s d ds c

pub paren-ty : {i m o : List Terminal} {a : Ty} (p : ℕ) → ReadsTy i a m → WordAt res.RightParen m o → ReadsTy (reserved p res.LeftParen ∷ i) (paren_ty p a) o
paren-ty p d (at_word q) = of_paren_ty p q d

pub empty-ty : {i o : List Terminal} (p : ℕ) → WordAt res.RightBrace i o → ReadsTy (reserved p res.LeftBrace ∷ i) (record_ty p no_ty_fields) o
empty-ty p (at_word q) = of_no_ty_row p q

pub fields-ty : {i m o : List Terminal} {fs : TyFields} (p : ℕ) → TyRow i fs m → WordAt res.RightBrace m o → ReadsTy (reserved p res.LeftBrace ∷ i) (record_ty p fs) o
fields-ty p d (at_word q) = of_ty_row p q d

pub product-ty : {i m k o : List Terminal} {a : Ty} {ts : Tys} → 2 ≤ ty_level a → ReadsTy i a m → StarAt m k → ((p x : ℕ) → Stars (star p x ∷ k) ts o) → ReadsTy i (product_ty a ts) o
product-ty lv d (at_star p x) ds = of_product lv d (ds p x)

pub arrow-ty : {i m k o : List Terminal} {a : Ty} {ts : Tys} → 1 ≤ ty_level a → ReadsTy i a m → WordAt res.Arrow m k → ((p : ℕ) → Arrows (reserved p res.Arrow ∷ k) ts o) → ReadsTy i (arrow_ty a ts) o
arrow-ty lv d (at_word p) ds = of_arrow lv d (ds p)

module _ (n : ℕ) (self : TyReader) (sound : SoundTy n self) where
  -- lists

  pub record GoodRow (s : NoState) (i : List Terminal) (fs : TyFields) (o : List Terminal) : Type 0 where
    pub reads : TyRow i fs o
    pub fits : depth_ty_fields fs ≤ n

  row-end : {i m k : List Terminal} {x : Placed Label} (s : NoState) (a : Read Ty) (y : Read (Turn TyFields NoState)) → LabelAt i x m → WordAt res.Colon m k → GoodTy n 0 k a →
      separated (after_word res.Comma a.rest) (ty_field x.it a.tree) (ty_field x.it a.tree no_ty_fields) s a.rest ≡ ok y → GoodTurn GoodRow s i y.tree y.rest
  row-end {i} {x} s a y l w g h =
      elim (separated-ok (after_word res.Comma a.rest) (ty_field x.it a.tree) (ty_field x.it a.tree no_ty_fields) s a.rest h) [
        | inl p ↦ subst (λ (z : Read (Turn TyFields NoState)). GoodTurn GoodRow s i z.tree z.rest) p.1 (record { reads = row-last l w g.reads; fits = omega (arith, g.fits) })
        | inr p ↦ subst (λ (z : Read (Turn TyFields NoState)). GoodTurn GoodRow s i z.tree z.rest) p.2
            (λ fs o d. record { reads = row-more l w g.reads (word-at res.Comma a.rest p.0 p.1) d.reads; fits = omega (arith, g.fits, d.fits) })
      ]

  row-turn : (s : NoState) (i : List Terminal) (y : Read (Turn TyFields NoState)) → ty_field_turn self s i ≡ ok y → GoodTurn GoodRow s i y.tree y.rest
  row-turn s i y h =
      let a = then_taken-ok (first_as as_label i) (λ l m. word_then res.Colon (λ k. then_read (self 0 k) (λ t o. separated (after_word res.Comma o) (ty_field l.it t) (ty_field l.it t no_ty_fields) s o)) m) y h in
      let b = word_then-ok res.Colon (λ k. then_read (self 0 k) (λ t o. separated (after_word res.Comma o) (ty_field a.0.it t) (ty_field a.0.it t no_ty_fields) s o)) a.1 y a.3 in
      let c = then_ok (self 0 b.0) (λ t o. separated (after_word res.Comma o) (ty_field a.0.it t) (ty_field a.0.it t no_ty_fields) s o) y b.2 in
      row-end s c.0 y (label-is i a.0 a.1 a.2) b.1 (sound 0 b.0 c.0 (omega arith) c.1) c.2

  pub row-sound : (i : List Terminal) (y : Read TyFields) → whole (ty_field_turn self) no_state i ≡ ok y → GoodRow no_state i y.tree y.rest
  row-sound i y h = many-ok (ty_field_turn self) GoodRow row-turn (suc (length i)) no_state i y h

  pub record GoodCommas (s : NoState) (i : List Terminal) (ts : Tys) (o : List Terminal) : Type 0 where
    pub reads : TyCommas i ts o
    pub fits : depth_tys ts ≤ n

  commas-turn : (s : NoState) (i : List Terminal) (y : Read (Turn Tys NoState)) → ty_commas_turn self s i ≡ ok y → GoodTurn GoodCommas s i y.tree y.rest
  commas-turn s i y h =
      let c = then_ok (self 0 i) (λ t o. separated (after_word res.Comma o) (ty t) (ty t no_tys) s o) y h in
      let g = sound 0 i c.0 (omega arith) c.1 in
      elim (separated-ok (after_word res.Comma c.0.rest) (ty c.0.tree) (ty c.0.tree no_tys) s c.0.rest c.2) [
        | inl p ↦ subst (λ (z : Read (Turn Tys NoState)). GoodTurn GoodCommas s i z.tree z.rest) p.1 (record { reads = last_ty g.reads; fits = omega (arith, g.fits) })
        | inr p ↦ subst (λ (z : Read (Turn Tys NoState)). GoodTurn GoodCommas s i z.tree z.rest) p.2
            (λ ts o d. record { reads = commas-more g.reads (word-at res.Comma c.0.rest p.0 p.1) d.reads; fits = omega (arith, g.fits, d.fits) })
      ]

  pub commas-sound : (i : List Terminal) (y : Read Tys) → whole (ty_commas_turn self) no_state i ≡ ok y → GoodCommas no_state i y.tree y.rest
  commas-sound i y h = many-ok (ty_commas_turn self) GoodCommas commas-turn (suc (length i)) no_state i y h

  pub record GoodStars (s : NoState) (i : List Terminal) (ts : Tys) (o : List Terminal) : Type 0 where
    pub reads : (p x : ℕ) → Stars (star p x ∷ i) ts o
    pub no_con : first_as as_long_tycon o ≡ None
    pub no_star : after_star o ≡ None
    pub fits : depth_tys ts ≤ n

  stars-turn : (s : NoState) (i : List Terminal) (y : Read (Turn Tys NoState)) → star_turn self s i ≡ ok y → GoodTurn GoodStars s i y.tree y.rest
  stars-turn s i y h =
      let c = then_ok (self 2 i) (λ t o. separated (after_star o) (ty t) (ty t no_tys) s o) y h in
      let g = sound 2 i c.0 (omega arith) c.1 in
      elim (separated-ok (after_star c.0.rest) (ty c.0.tree) (ty c.0.tree no_tys) s c.0.rest c.2) [
        | inl p ↦ subst (λ (z : Read (Turn Tys NoState)). GoodTurn GoodStars s i z.tree z.rest) p.1
            (record { reads = λ q x. last_star q x g.high g.reads; no_con = stops-con 2 c.0.rest g.stops; no_star = p.0; fits = omega (arith, g.fits) })
        | inr p ↦ subst (λ (z : Read (Turn Tys NoState)). GoodTurn GoodStars s i z.tree z.rest) p.2
            (λ ts o d. record { reads = λ q x. stars-more q x g.high g.reads (star-at c.0.rest p.0 p.1) d.reads; no_con = d.no_con; no_star = d.no_star; fits = omega (arith, g.fits, d.fits) })
      ]

  pub stars-sound : (i : List Terminal) (y : Read Tys) → whole (star_turn self) no_state i ≡ ok y → GoodStars no_state i y.tree y.rest
  stars-sound i y h = many-ok (star_turn self) GoodStars stars-turn (suc (length i)) no_state i y h

  pub record GoodArrows (s : NoState) (i : List Terminal) (ts : Tys) (o : List Terminal) : Type 0 where
    pub reads : (p : ℕ) → Arrows (reserved p res.Arrow ∷ i) ts o
    pub stops : ty_could_go_on 1 o ≡ false
    pub no_arrow : after_word res.Arrow o ≡ None
    pub fits : depth_tys ts ≤ n

  arrows-turn : (s : NoState) (i : List Terminal) (y : Read (Turn Tys NoState)) → arrow_turn self s i ≡ ok y → GoodTurn GoodArrows s i y.tree y.rest
  arrows-turn s i y h =
      let c = then_ok (self 1 i) (λ t o. separated (after_word res.Arrow o) (ty t) (ty t no_tys) s o) y h in
      let g = sound 1 i c.0 (omega arith) c.1 in
      elim (separated-ok (after_word res.Arrow c.0.rest) (ty c.0.tree) (ty c.0.tree no_tys) s c.0.rest c.2) [
        | inl p ↦ subst (λ (z : Read (Turn Tys NoState)). GoodTurn GoodArrows s i z.tree z.rest) p.1
            (record { reads = λ q. last_arrow q g.high g.reads; stops = g.stops; no_arrow = p.0; fits = omega (arith, g.fits) })
        | inr p ↦ subst (λ (z : Read (Turn Tys NoState)). GoodTurn GoodArrows s i z.tree z.rest) p.2
            (λ ts o d. record { reads = λ q. arrows-more q g.high g.reads (word-at res.Arrow c.0.rest p.0 p.1) d.reads; stops = d.stops; no_arrow = d.no_arrow; fits = omega (arith, g.fits, d.fits) })
      ]

  pub arrows-sound : (i : List Terminal) (y : Read Tys) → whole (arrow_turn self) no_state i ≡ ok y → GoodArrows no_state i y.tree y.rest
  arrows-sound i y h = many-ok (arrow_turn self) GoodArrows arrows-turn (suc (length i)) no_state i y h

  -- types of the highest level

  pub record GoodSimple (i : List Terminal) (t : Ty) (o : List Terminal) : Type 0 where
    pub reads : ReadsTy i t o
    pub high : 2 ≤ ty_level t
    pub fits : depth_ty t ≤ suc n

  brace-sound : (p : ℕ) (i : List Terminal) (y : Read Ty) → brace_ty self p i ≡ ok y → GoodSimple (reserved p res.LeftBrace ∷ i) y.tree y.rest
  brace-sound p i y h =
      elim (on_some-split (after_word res.RightBrace i) (λ o. read (record_ty p no_ty_fields) o) (then_read (whole (ty_field_turn self) no_state i) (λ fs m. word_then res.RightBrace (λ o. read (record_ty p fs) o) m)) h) [
        | inl q ↦ subst (λ (z : Read Ty). GoodSimple (reserved p res.LeftBrace ∷ i) z.tree z.rest) (got q.2)
            (record { reads = empty-ty p (word-at res.RightBrace i q.0 q.1); high = omega arith; fits = omega arith })
        | inr q ↦
            let c = then_ok (whole (ty_field_turn self) no_state i) (λ fs m. word_then res.RightBrace (λ o. read (record_ty p fs) o) m) y q.1 in
            let g = row-sound i c.0 c.1 in
            let w = word_then-ok res.RightBrace (λ o. read (record_ty p c.0.tree) o) c.0.rest y c.2 in
            subst (λ (z : Read Ty). GoodSimple (reserved p res.LeftBrace ∷ i) z.tree z.rest) (got w.2)
            (record { reads = fields-ty p g.reads w.1; high = omega arith; fits = omega (arith, g.fits) })
      ]

  arguments-end : {i m k : List Terminal} {a : Ty} {ts : Tys} (p : ℕ) (o : List Terminal) (y : Read Ty) → ReadsTy i a m → WordAt res.Comma m k → depth_ty a ≤ n → GoodCommas no_state k ts o →
      word_then res.RightParen (λ j. then_taken (first_as as_long_tycon j) (λ c q. read (con_ty p (ty a ts) c) q)) o ≡ ok y → GoodSimple (reserved p res.LeftParen ∷ i) y.tree y.rest
  arguments-end {i} {a} {ts} p o y d at le g h =
      let w = word_then-ok res.RightParen (λ j. then_taken (first_as as_long_tycon j) (λ c q. read (con_ty p (ty a ts) c) q)) o y h in
      let t = then_taken-ok (first_as as_long_tycon w.0) (λ c q. read (con_ty p (ty a ts) c) q) y w.2 in
      subst (λ (z : Read Ty). GoodSimple (reserved p res.LeftParen ∷ i) z.tree z.rest) (got t.3)
      (record { reads = arguments-ty p d at g.reads w.1 (long_tycon-is w.0 t.0 t.1 t.2); high = omega arith; fits = omega (arith, g.fits) })

  arguments-sound : (p : ℕ) (i : List Terminal) (a : Ty) (m k : List Terminal) (y : Read Ty) → ReadsTy i a m → WordAt res.Comma m k → depth_ty a ≤ n → arguments self p a k ≡ ok y →
      GoodSimple (reserved p res.LeftParen ∷ i) y.tree y.rest
  arguments-sound p i a m k y d at le h =
      let c = then_ok (whole (ty_commas_turn self) no_state k) (λ ts m. word_then res.RightParen (λ k. then_taken (first_as as_long_tycon k) (λ c o. read (con_ty p (ty a ts) c) o)) m) y h in
      arguments-end p c.0.rest y d at le (commas-sound k c.0 c.1) c.2

  paren-sound : (p : ℕ) (i : List Terminal) (a : Ty) (m : List Terminal) (y : Read Ty) → ReadsTy i a m → depth_ty a ≤ n → paren_rest self p a m ≡ ok y → GoodSimple (reserved p res.LeftParen ∷ i) y.tree y.rest
  paren-sound p i a m y d le h =
      elim (on_some-split (after_word res.Comma m) (arguments self p a) (word_then res.RightParen (λ o. read (paren_ty p a) o) m) h) [
        | inl q ↦ arguments-sound p i a m q.0 y d (word-at res.Comma m q.0 q.1) le q.2
        | inr q ↦
            let w = word_then-ok res.RightParen (λ o. read (paren_ty p a) o) m y q.1 in
            subst (λ (z : Read Ty). GoodSimple (reserved p res.LeftParen ∷ i) z.tree z.rest) (got w.2)
            (record { reads = paren-ty p d w.1; high = omega arith; fits = omega arith })
      ]

  pub atom-sound : {i : List Terminal} {s : TyStart} (y : Read Ty) → StartIs i s → ty_atom self s ≡ ok y → GoodSimple i y.tree y.rest
  atom-sound y (is_var {o} p a) h =
      subst (λ (z : Read Ty). GoodSimple (type_var p a ∷ o) z.tree z.rest) (got h) (record { reads = of_tyvar p a; high = omega arith; fits = omega arith })
  atom-sound {i} y (is_con c) h = subst (λ (z : Read Ty). GoodSimple i z.tree z.rest) (got h) (record { reads = con-ty c; high = omega arith; fits = omega arith })
  atom-sound y (is_brace {o} p) h = brace-sound p o y h
  atom-sound y (is_paren {o} p) h =
      let c = then_ok (self 0 o) (paren_rest self p) y h in
      let g = sound 0 o c.0 (omega arith) c.1 in
      paren-sound p o c.0.tree c.0.rest y g.reads g.fits c.2
  atom-sound y is_none h = bad_ok h

  -- from i on, a was read before the terminals m
  abbrev Postfixed : List Terminal → Ty → List Terminal → Ty → List Terminal → Type 0
  Postfixed i a m b o = GoodSimple i a m → GoodSimple i b o × (first_as as_long_tycon o ≡ None)

  postfix-sound : (i : List Terminal) (a : Ty) (m : List Terminal) (y : Read (Turn Ty Ty)) → postfix_turn n a m ≡ ok y → GoodTurn (Postfixed i) a m y.tree y.rest
  postfix-sound i a m y h =
      elim (on_taken-split (first_as as_long_tycon m) (λ c o. if nat_le (depth_ty a) n then read (more (λ b. b) (con_ty (ty_place a) (ty a no_tys) c)) o else deep) (read (last a) m) h) [
        | inl p ↦ elim (chosen (nat_le (depth_ty a) n) (read (more (λ b. b) (con_ty (ty_place a) (ty a no_tys) p.0)) p.1) deep p.3) [
          | inl q ↦ let le = leb-true (depth_ty a) n q.0 in subst (λ (z : Read (Turn Ty Ty)). GoodTurn (Postfixed i) a m z.tree z.rest) (got q.1)
              (λ b o goes g. goes (record { reads = con-after g.high g.reads (long_tycon-is m p.0 p.1 p.2); high = omega arith; fits = omega arith }))
          | inr q ↦ deep_ok q.1
        ]
        | inr p ↦ subst (λ (z : Read (Turn Ty Ty)). GoodTurn (Postfixed i) a m z.tree z.rest) (got p.1) (λ g. (g, p.0))
      ]

  pub simple-sound : (i : List Terminal) (a : Ty) (m : List Terminal) (y : Read Ty) → GoodSimple i a m → whole (postfix_turn n) a m ≡ ok y → GoodSimple i y.tree y.rest × (first_as as_long_tycon y.rest ≡ None)
  simple-sound i a m y g h = many-ok (postfix_turn n) (Postfixed i) (postfix-sound i) (suc (length m)) a m y h g

  -- types but function types

  pub record GoodProduct (l : ℕ) (i : List Terminal) (t : Ty) (o : List Terminal) : Type 0 where
    pub reads : ReadsTy i t o
    pub high : l ≤ ty_level t
    pub one : 1 ≤ ty_level t
    pub no_con : first_as as_long_tycon o ≡ None
    pub no_star : l ≤ 1 → after_star o ≡ None
    pub fits : depth_ty t ≤ suc n

  pub product-sound : (l : ℕ) (i : List Terminal) (a : Ty) (m : List Terminal) (y : Read Ty) → l ≤ 2 → GoodSimple i a m → first_as as_long_tycon m ≡ None → product_rest self n l a m ≡ ok y →
      GoodProduct l i y.tree y.rest
  product-sound l i a m y low g bare h =
      elim (chosen (nat_le l 1) (on_some (after_star m) (λ k. if nat_le (depth_ty a) n then then_read (whole (star_turn self) no_state k) (λ ts o. read (product_ty a ts) o) else deep) (read a m)) (read a m) h) [
        | inl p ↦ elim (on_some-split (after_star m) (λ k. if nat_le (depth_ty a) n then then_read (whole (star_turn self) no_state k) (λ ts o. read (product_ty a ts) o) else deep) (read a m) p.1) [
          | inl q ↦ elim (chosen (nat_le (depth_ty a) n) (then_read (whole (star_turn self) no_state q.0) (λ ts o. read (product_ty a ts) o)) deep q.2) [
            | inl r ↦
                let le = leb-true (depth_ty a) n r.0 in
                let c = then_ok (whole (star_turn self) no_state q.0) (λ ts o. read (product_ty a ts) o) y r.1 in
                let s = stars-sound q.0 c.0 c.1 in
                subst (λ (z : Read Ty). GoodProduct l i z.tree z.rest) (got c.2)
                (record { reads = product-ty g.high g.reads (star-at m q.0 q.1) s.reads; high = leb-true l 1 p.0; one = omega arith; no_con = s.no_con; no_star = λ e. s.no_star; fits = omega (arith, s.fits) })
            | inr r ↦ deep_ok r.1
          ]
          | inr q ↦ subst (λ (z : Read Ty). GoodProduct l i z.tree z.rest) (got q.1)
              (record { reads = g.reads; high = omega (arith, g.high); one = omega (arith, g.high); no_con = bare; no_star = λ e. q.0; fits = g.fits })
        ]
        | inr p ↦ let lt : 1 < l = leb-false l 1 p.0 in subst (λ (z : Read Ty). GoodProduct l i z.tree z.rest) (got p.1)
            (record { reads = g.reads; high = omega (arith, g.high); one = omega (arith, g.high); no_con = bare; no_star = λ e. absurd (omega arith); fits = g.fits })
      ]

  pub arrow-sound : (l : ℕ) (i : List Terminal) (a : Ty) (m : List Terminal) (y : Read Ty) → GoodProduct l i a m → arrow_rest self n l a m ≡ ok y → GoodTy (suc n) l i y
  arrow-sound l i a m y g h =
      elim (chosen (nat_le l 0) (on_some (after_word res.Arrow m) (λ k. if nat_le (depth_ty a) n then then_read (whole (arrow_turn self) no_state k) (λ ts o. read (arrow_ty a ts) o) else deep) (read a m)) (read a m) h) [
        | inl p ↦ elim (on_some-split (after_word res.Arrow m) (λ k. if nat_le (depth_ty a) n then then_read (whole (arrow_turn self) no_state k) (λ ts o. read (arrow_ty a ts) o) else deep) (read a m) p.1) [
          | inl q ↦ elim (chosen (nat_le (depth_ty a) n) (then_read (whole (arrow_turn self) no_state q.0) (λ ts o. read (arrow_ty a ts) o)) deep q.2) [
            | inl r ↦
                let le = leb-true (depth_ty a) n r.0 in
                let c = then_ok (whole (arrow_turn self) no_state q.0) (λ ts o. read (arrow_ty a ts) o) y r.1 in
                let s = arrows-sound q.0 c.0 c.1 in
                subst (λ (z : Read Ty). GoodTy (suc n) l i z) (got c.2) (record {
                  reads = arrow-ty g.one g.reads (word-at res.Arrow m q.0 q.1) s.reads;
                  high = leb-true l 0 p.0;
                  stops = stops-all l c.0.rest (stops-con 1 c.0.rest s.stops) (λ e. stops-star 1 c.0.rest s.stops (omega arith)) (λ e. s.no_arrow);
                  fits = omega (arith, s.fits);
                })
            | inr r ↦ deep_ok r.1
          ]
          | inr q ↦ subst (λ (z : Read Ty). GoodTy (suc n) l i z) (got q.1) (record { reads = g.reads; high = g.high; stops = stops-all l m g.no_con g.no_star (λ e. q.0); fits = g.fits })
        ]
        | inr p ↦ let lt : 0 < l = leb-false l 0 p.0 in subst (λ (z : Read Ty). GoodTy (suc n) l i z) (got p.1)
            (record { reads = g.reads; high = g.high; stops = stops-all l m g.no_con g.no_star (λ e. absurd (omega arith)); fits = g.fits })
      ]

  from-sound : (l : ℕ) (i : List Terminal) (y : Read Ty) → l ≤ 2 → ty_from self n l i ≡ ok y → GoodTy (suc n) l i y
  from-sound l i y low h =
      let a = then_ok (ty_atom self (ty_start i)) (λ a m. then_read (whole (postfix_turn n) a m) (λ b k. then_read (product_rest self n l b k) (arrow_rest self n l))) y h in
      let b = then_ok (whole (postfix_turn n) a.0.tree a.0.rest) (λ b k. then_read (product_rest self n l b k) (arrow_rest self n l)) y a.2 in
      let c = then_ok (product_rest self n l b.0.tree b.0.rest) (arrow_rest self n l) y b.2 in
      let g = simple-sound i a.0.tree a.0.rest b.0 (atom-sound a.0 (start-is i) a.1) b.1 in
      arrow-sound l i c.0.tree c.0.rest y (product-sound l i b.0.tree b.0.rest c.0 low g.0 g.1 c.1) c.2

pub ty-sound : (n l : ℕ) (i : List Terminal) (y : Read Ty) → l ≤ 2 → read_ty n l i ≡ ok y → GoodTy n l i y
unfolding read_ty
ty-sound zero l i y low h = deep_if-ok (begins_ty i) y h
ty-sound (suc n) l i y low h = from-sound n (read_ty n) (ty-sound n) l i y low h
