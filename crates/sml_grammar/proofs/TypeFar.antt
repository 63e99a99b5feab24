-- Where the answer is that a type is too deep, there is a partial type that is.
use Rattle.std.proofs.Common.{◌≡◌, ℕ, zero, suc, ◌≤◌, ◌<◌, List, ◌∷◌, length, inl, inr, subst, arith, nat_le, if◌then◌else◌}
use Rattle.std.proofs.lemmas.Bool.{leb-true, leb-false}
use Rattle.mlc_names.specs.declared.label.Label.{Label}
use Rattle.mlc_names.specs.declared.token.Reserved.TheVariants as res
use Rattle.sml_tree.specs.Terminal.{LongId, Terminal, reserved, IsLongTycon, star}
use Rattle.sml_tree.specs.ReadTree.{Placed, Ty, record_ty, con_ty, product_ty, arrow_ty, paren_ty, Tys, no_tys, ty, TyFields, no_ty_fields, ty_field, ty_place}
use Rattle.sml_tree.specs.Depth.{depth_ty}
use Rattle.sml_tree.specs.Levels.{ty_level}
use Rattle.sml_tree.specs.Grammar.{ReadsTy}
use Rattle.sml_grammar.specs.Answer.{Read, ok, deep, read, then_read, Turn, last, more, whole}
use Rattle.sml_grammar.specs.Terminals.{first_as, as_label, as_long_tycon, after_word, after_star, on_some, then_taken, word_then, separated, NoState, no_state}
use Rattle.sml_grammar.specs.Types.{TyStart, ty_start, begins_ty, TyReader, ty_field_turn, ty_commas_turn, star_turn, arrow_turn, brace_ty, arguments, paren_rest, ty_atom, postfix_turn, product_rest, arrow_rest, ty_from, read_ty}
use Rattle.sml_grammar.specs.PartialTypes.{OpensTy, begun_ty, in_paren_ty, in_arguments, in_ty_row, applied_ty, starred, in_product, arrowed, in_function, OpensTys, in_ty, past_ty, OpensTyRow, in_ty_field, past_ty_field, OpensStars, in_star, past_star, OpensArrows, in_arrow, past_arrow}
use Rattle.sml_grammar.proofs.Answers.{chosen, got, then_ok, then_deep, not_deep, bad_deep, if-deep, deep_ok, on_some-split, on_taken-split, then_taken-ok, then_taken-deep, word_then-ok, word_then-deep, separated-ok, separated-deep, FarTurn, many-reach}
use Rattle.sml_grammar.proofs.Words.{WordAt, at_word, word-at, StarAt, at_star, star-at}
use Rattle.sml_grammar.proofs.Terminals.{Front, front, long_tycon-is, label-is}
use Rattle.sml_grammar.proofs.TypeShapes.{StartIs, is_var, is_con, is_brace, is_paren, is_none, start-is, begins_ty-is}
use Rattle.sml_grammar.proofs.TypeSound.{GoodTy, SoundTy, LabelAt, con-after, GoodSimple, atom-sound, simple-sound, GoodProduct, product-sound, ty-sound}

abbrev pub FarTy : ℕ → TyReader → Type 0
FarTy n self = (l : ℕ) (i : List Terminal) → l ≤ 2 → self l i ≡ deep → OpensTy l i (suc n)

-- the rules of partial types over what was found

row-in : {i m k : List Terminal} {x : Placed Label} {d : ℕ} → LabelAt i x m → WordAt res.Colon m k → OpensTy 0 k d → OpensTyRow i d
row-in (front l) (at_word p) o = in_ty_field p l o

row-past : {i m k o q : List Terminal} {x : Placed Label} {a : Ty} {d : ℕ} → LabelAt i x m → WordAt res.Colon m k → ReadsTy k a o → WordAt res.Comma o q → OpensTyRow q d → OpensTyRow i d
row-past (front l) (at_word p) d (at_word q) o = past_ty_field p q l d o

commas-past : {i o q : List Terminal} {a : Ty} {d : ℕ} → ReadsTy i a o → WordAt res.Comma o q → OpensTys q d → OpensTys i d
commas-past d (at_word q) o = past_ty q d o

stars-past : {i o q : List Terminal} {a : Ty} {d : ℕ} (p x : ℕ) → 2 ≤ ty_level a → ReadsTy i a o → StarAt o q → ((p x : ℕ) → OpensStars (star p x ∷ q) d) → OpensStars (star p x ∷ i) d
stars-past p x lv d (at_star r y) o = past_star p x lv d (o r y)

arrows-past : {i o q : List Terminal} {a : Ty} {d : ℕ} (p : ℕ) → 1 ≤ ty_level a → ReadsTy i a o → WordAt res.Arrow o q → ((p : ℕ) → OpensArrows (reserved p res.Arrow ∷ q) d) → OpensArrows (reserved p res.Arrow ∷ i) d
arrows-past p lv d (at_word r) o = past_arrow p lv d (o r)

arguments-in : {l : ℕ} {i m k : List Terminal} {a : Ty} {d : ℕ} (p : ℕ) → ReadsTy i a m → WordAt res.Comma m k → OpensTys k d → OpensTy l (reserved p res.LeftParen ∷ i) (suc d)
arguments-in p d (at_word q) o = in_arguments p q d o

applied-far : {l : ℕ} {i m o : List Terminal} {a : Ty} {c : Placed LongId} {d : ℕ} → 2 ≤ ty_level a → ReadsTy i a m → Front IsLongTycon m c o → d ≤ depth_ty a → OpensTy l i (suc d)
applied-far lv d (front c) le = applied_ty lv d c le

starred-far : {l : ℕ} {i m k : List Terminal} {a : Ty} {d : ℕ} → l ≤ 1 → 2 ≤ ty_level a → ReadsTy i a m → StarAt m k → d ≤ depth_ty a → OpensTy l i (suc d)
starred-far low lv d (at_star p x) le = starred p x low lv d le

product-in : {l : ℕ} {i m k : List Terminal} {a : Ty} {d : ℕ} → l ≤ 1 → 2 ≤ ty_level a → ReadsTy i a m → StarAt m k → ((p x : ℕ) → OpensStars (star p x ∷ k) d) → OpensTy l i (suc d)
product-in low lv d (at_star p x) o = in_product low lv d (o p x)

arrowed-far : {l : ℕ} {i m k : List Terminal} {a : Ty} {d : ℕ} → l ≤ 0 → 1 ≤ ty_level a → ReadsTy i a m → WordAt res.Arrow m k → d ≤ depth_ty a → OpensTy l i (suc d)
arrowed-far low lv d (at_word p) le = arrowed p low lv d le

function-in : {l : ℕ} {i m k : List Terminal} {a : Ty} {d : ℕ} → l ≤ 0 → 1 ≤ ty_level a → ReadsTy i a m → WordAt res.Arrow m k → ((p : ℕ) → OpensArrows (reserved p res.Arrow ∷ k) d) → OpensTy l i (suc d)
function-in low lv d (at_word p) o = in_function low lv d (o p)

module _ (n : ℕ) (self : TyReader) (sound : SoundTy n self) (far : FarTy n self) where
  -- lists

  abbrev FarRow : NoState → List Terminal → Type 0
  FarRow s i = OpensTyRow i (suc n)

  row-end : {i m k : List Terminal} {x : Placed Label} (s : NoState) (a : Read Ty) (y : Read (Turn TyFields NoState)) → LabelAt i x m → WordAt res.Colon m k → GoodTy n 0 k a →
      separated (after_word res.Comma a.rest) (ty_field x.it a.tree) (ty_field x.it a.tree no_ty_fields) s a.rest ≡ ok y → FarTurn FarRow s i y.tree y.rest
  row-end {i} {x} s a y l w g h =
      elim (separated-ok (after_word res.Comma a.rest) (ty_field x.it a.tree) (ty_field x.it a.tree no_ty_fields) s a.rest h) [
        | inl p ↦ subst (λ (z : Read (Turn TyFields NoState)). FarTurn FarRow s i z.tree z.rest) p.1 tt
        | inr p ↦ subst (λ (z : Read (Turn TyFields NoState)). FarTurn FarRow s i z.tree z.rest) p.2 (λ o. row-past l w g.reads (word-at res.Comma a.rest p.0 p.1) o)
      ]

  row-goes : (s : NoState) (i : List Terminal) (y : Read (Turn TyFields NoState)) → ty_field_turn self s i ≡ ok y → FarTurn FarRow s i y.tree y.rest
  row-goes s i y h =
      let a = then_taken-ok (first_as as_label i) (λ l m. word_then res.Colon (λ k. then_read (self 0 k) (λ t o. separated (after_word res.Comma o) (ty_field l.it t) (ty_field l.it t no_ty_fields) s o)) m) y h in
      let b = word_then-ok res.Colon (λ k. then_read (self 0 k) (λ t o. separated (after_word res.Comma o) (ty_field a.0.it t) (ty_field a.0.it t no_ty_fields) s o)) a.1 y a.3 in
      let c = then_ok (self 0 b.0) (λ t o. separated (after_word res.Comma o) (ty_field a.0.it t) (ty_field a.0.it t no_ty_fields) s o) y b.2 in
      row-end s c.0 y (label-is i a.0 a.1 a.2) b.1 (sound 0 b.0 c.0 (omega arith) c.1) c.2

  row-stops : (s : NoState) (i : List Terminal) → ty_field_turn self s i ≡ deep → FarRow s i
  row-stops s i h =
      let a = then_taken-deep (first_as as_label i) (λ l m. word_then res.Colon (λ k. then_read (self 0 k) (λ t o. separated (after_word res.Comma o) (ty_field l.it t) (ty_field l.it t no_ty_fields) s o)) m) h in
      let b = word_then-deep res.Colon (λ k. then_read (self 0 k) (λ t o. separated (after_word res.Comma o) (ty_field a.0.it t) (ty_field a.0.it t no_ty_fields) s o)) a.1 a.3 in
      elim (then_deep (self 0 b.0) (λ t o. separated (after_word res.Comma o) (ty_field a.0.it t) (ty_field a.0.it t no_ty_fields) s o) b.2) [
        | inl e ↦ row-in (label-is i a.0 a.1 a.2) b.1 (far 0 b.0 (omega arith) e)
        | inr c ↦ separated-deep (after_word res.Comma c.0.rest) (ty_field a.0.it c.0.tree) (ty_field a.0.it c.0.tree no_ty_fields) s c.0.rest c.2
      ]

  row-far : (i : List Terminal) → whole (ty_field_turn self) no_state i ≡ deep → OpensTyRow i (suc n)
  row-far i h = many-reach (ty_field_turn self) FarRow row-stops row-goes (suc (length i)) no_state i h

  abbrev FarCommas : NoState → List Terminal → Type 0
  FarCommas s i = OpensTys i (suc n)

  commas-goes : (s : NoState) (i : List Terminal) (y : Read (Turn Tys NoState)) → ty_commas_turn self s i ≡ ok y → FarTurn FarCommas s i y.tree y.rest
  commas-goes s i y h =
      let c = then_ok (self 0 i) (λ t o. separated (after_word res.Comma o) (ty t) (ty t no_tys) s o) y h in
      let g = sound 0 i c.0 (omega arith) c.1 in
      elim (separated-ok (after_word res.Comma c.0.rest) (ty c.0.tree) (ty c.0.tree no_tys) s c.0.rest c.2) [
        | inl p ↦ subst (λ (z : Read (Turn Tys NoState)). FarTurn FarCommas s i z.tree z.rest) p.1 tt
        | inr p ↦ subst (λ (z : Read (Turn Tys NoState)). FarTurn FarCommas s i z.tree z.rest) p.2 (λ o. commas-past g.reads (word-at res.Comma c.0.rest p.0 p.1) o)
      ]

  commas-stops : (s : NoState) (i : List Terminal) → ty_commas_turn self s i ≡ deep → FarCommas s i
  commas-stops s i h =
      elim (then_deep (self 0 i) (λ t o. separated (after_word res.Comma o) (ty t) (ty t no_tys) s o) h) [
        | inl e ↦ in_ty (far 0 i (omega arith) e)
        | inr c ↦ separated-deep (after_word res.Comma c.0.rest) (ty c.0.tree) (ty c.0.tree no_tys) s c.0.rest c.2
      ]

  commas-far : (i : List Terminal) → whole (ty_commas_turn self) no_state i ≡ deep → OpensTys i (suc n)
  commas-far i h = many-reach (ty_commas_turn self) FarCommas commas-stops commas-goes (suc (length i)) no_state i h

  abbrev FarStars : NoState → List Terminal → Type 0
  FarStars s i = (p x : ℕ) → OpensStars (star p x ∷ i) (suc n)

  stars-goes : (s : NoState) (i : List Terminal) (y : Read (Turn Tys NoState)) → star_turn self s i ≡ ok y → FarTurn FarStars s i y.tree y.rest
  stars-goes s i y h =
      let c = then_ok (self 2 i) (λ t o. separated (after_star o) (ty t) (ty t no_tys) s o) y h in
      let g = sound 2 i c.0 (omega arith) c.1 in
      elim (separated-ok (after_star c.0.rest) (ty c.0.tree) (ty c.0.tree no_tys) s c.0.rest c.2) [
        | inl p ↦ subst (λ (z : Read (Turn Tys NoState)). FarTurn FarStars s i z.tree z.rest) p.1 tt
        | inr p ↦ subst (λ (z : Read (Turn Tys NoState)). FarTurn FarStars s i z.tree z.rest) p.2 (λ o q x. stars-past q x g.high g.reads (star-at c.0.rest p.0 p.1) o)
      ]

  stars-stops : (s : NoState) (i : List Terminal) → star_turn self s i ≡ deep → FarStars s i
  stars-stops s i h q x =
      elim (then_deep (self 2 i) (λ t o. separated (after_star o) (ty t) (ty t no_tys) s o) h) [
        | inl e ↦ in_star q x (far 2 i (omega arith) e)
        | inr c ↦ separated-deep (after_star c.0.rest) (ty c.0.tree) (ty c.0.tree no_tys) s c.0.rest c.2
      ]

  stars-far : (i : List Terminal) → whole (star_turn self) no_state i ≡ deep → (p x : ℕ) → OpensStars (star p x ∷ i) (suc n)
  stars-far i h = many-reach (star_turn self) FarStars stars-stops stars-goes (suc (length i)) no_state i h

  abbrev FarArrows : NoState → List Terminal → Type 0
  FarArrows s i = (p : ℕ) → OpensArrows (reserved p res.Arrow ∷ i) (suc n)

  arrows-goes : (s : NoState) (i : List Terminal) (y : Read (Turn Tys NoState)) → arrow_turn self s i ≡ ok y → FarTurn FarArrows s i y.tree y.rest
  arrows-goes s i y h =
      let c = then_ok (self 1 i) (λ t o. separated (after_word res.Arrow o) (ty t) (ty t no_tys) s o) y h in
      let g = sound 1 i c.0 (omega arith) c.1 in
      elim (separated-ok (after_word res.Arrow c.0.rest) (ty c.0.tree) (ty c.0.tree no_tys) s c.0.rest c.2) [
        | inl p ↦ subst (λ (z : Read (Turn Tys NoState)). FarTurn FarArrows s i z.tree z.rest) p.1 tt
        | inr p ↦ subst (λ (z : Read (Turn Tys NoState)). FarTurn FarArrows s i z.tree z.rest) p.2 (λ o q. arrows-past q g.high g.reads (word-at res.Arrow c.0.rest p.0 p.1) o)
      ]

  arrows-stops : (s : NoState) (i : List Terminal) → arrow_turn self s i ≡ deep → FarArrows s i
  arrows-stops s i h q =
      elim (then_deep (self 1 i) (λ t o. separated (after_word res.Arrow o) (ty t) (ty t no_tys) s o) h) [
        | inl e ↦ in_arrow q (far 1 i (omega arith) e)
        | inr c ↦ separated-deep (after_word res.Arrow c.0.rest) (ty c.0.tree) (ty c.0.tree no_tys) s c.0.rest c.2
      ]

  arrows-far : (i : List Terminal) → whole (arrow_turn self) no_state i ≡ deep → (p : ℕ) → OpensArrows (reserved p res.Arrow ∷ i) (suc n)
  arrows-far i h = many-reach (arrow_turn self) FarArrows arrows-stops arrows-goes (suc (length i)) no_state i h

  module _ (l : ℕ) where
    -- types of the highest level

    brace-far : (p : ℕ) (i : List Terminal) → brace_ty self p i ≡ deep → OpensTy l (reserved p res.LeftBrace ∷ i) (suc (suc n))
    brace-far p i h =
        elim (on_some-split (after_word res.RightBrace i) (λ o. read (record_ty p no_ty_fields) o) (then_read (whole (ty_field_turn self) no_state i) (λ fs m. word_then res.RightBrace (λ o. read (record_ty p fs) o) m)) h) [
          | inl q ↦ not_deep q.2
          | inr q ↦ elim (then_deep (whole (ty_field_turn self) no_state i) (λ fs m. word_then res.RightBrace (λ o. read (record_ty p fs) o) m) q.1) [
            | inl e ↦ in_ty_row p (row-far i e)
            | inr c ↦ not_deep (word_then-deep res.RightBrace (λ o. read (record_ty p c.0.tree) o) c.0.rest c.2).2
          ]
        ]

    close-far : {A : Type 0} (p : ℕ) (a : Ty) (ts : Tys) (m : List Terminal) → word_then res.RightParen (λ k. then_taken (first_as as_long_tycon k) (λ c o. read (con_ty p (ty a ts) c) o)) m ≡ deep → A
    close-far p a ts m h =
        let w = word_then-deep res.RightParen (λ k. then_taken (first_as as_long_tycon k) (λ c o. read (con_ty p (ty a ts) c) o)) m h in
        not_deep (then_taken-deep (first_as as_long_tycon w.0) (λ c o. read (con_ty p (ty a ts) c) o) w.2).3

    paren-far : (p : ℕ) (i : List Terminal) (a : Ty) (m : List Terminal) → ReadsTy i a m → paren_rest self p a m ≡ deep → OpensTy l (reserved p res.LeftParen ∷ i) (suc (suc n))
    paren-far p i a m d h =
        elim (on_some-split (after_word res.Comma m) (arguments self p a) (word_then res.RightParen (λ o. read (paren_ty p a) o) m) h) [
          | inl q ↦ elim (then_deep (whole (ty_commas_turn self) no_state q.0) (λ ts m. word_then res.RightParen (λ k. then_taken (first_as as_long_tycon k) (λ c o. read (con_ty p (ty a ts) c) o)) m) q.2) [
            | inl e ↦ arguments-in p d (word-at res.Comma m q.0 q.1) (commas-far q.0 e)
            | inr c ↦ close-far p a c.0.tree c.0.rest c.2
          ]
          | inr q ↦ not_deep (word_then-deep res.RightParen (λ o. read (paren_ty p a) o) m q.1).2
        ]

    atom-far : {i : List Terminal} {s : TyStart} → StartIs i s → ty_atom self s ≡ deep → OpensTy l i (suc (suc n))
    atom-far (is_var p a) h = not_deep h
    atom-far (is_con c) h = not_deep h
    atom-far (is_brace {o} p) h = brace-far p o h
    atom-far (is_paren {o} p) h =
        elim (then_deep (self 0 o) (paren_rest self p) h) [
          | inl e ↦ in_paren_ty p (far 0 o (omega arith) e)
          | inr c ↦ paren-far p o c.0.tree c.0.rest (sound 0 o c.0 (omega arith) c.1).reads c.2
        ]
    atom-far is_none h = bad_deep {A = Ty} h

    -- from i on, a was read before the terminals m
    abbrev Applied : List Terminal → Ty → List Terminal → Type 0
    Applied i a m = GoodSimple n self sound i a m → OpensTy l i (suc (suc n))

    postfix-goes : (i : List Terminal) (a : Ty) (m : List Terminal) (y : Read (Turn Ty Ty)) → postfix_turn n a m ≡ ok y → FarTurn (Applied i) a m y.tree y.rest
    postfix-goes i a m y h =
        elim (on_taken-split (first_as as_long_tycon m) (λ c o. if nat_le (depth_ty a) n then read (more (λ b. b) (con_ty (ty_place a) (ty a no_tys) c)) o else deep) (read (last a) m) h) [
          | inl p ↦ elim (chosen (nat_le (depth_ty a) n) (read (more (λ b. b) (con_ty (ty_place a) (ty a no_tys) p.0)) p.1) deep p.3) [
            | inl q ↦ let le = leb-true (depth_ty a) n q.0 in subst (λ (z : Read (Turn Ty Ty)). FarTurn (Applied i) a m z.tree z.rest) (got q.1)
                (λ goes g. goes (record { reads = con-after g.high g.reads (long_tycon-is m p.0 p.1 p.2); high = omega arith; fits = omega arith }))
            | inr q ↦ deep_ok q.1
          ]
          | inr p ↦ subst (λ (z : Read (Turn Ty Ty)). FarTurn (Applied i) a m z.tree z.rest) (got p.1) tt
        ]

    postfix-stops : (i : List Terminal) (a : Ty) (m : List Terminal) → postfix_turn n a m ≡ deep → Applied i a m
    postfix-stops i a m h g =
        elim (on_taken-split (first_as as_long_tycon m) (λ c o. if nat_le (depth_ty a) n then read (more (λ b. b) (con_ty (ty_place a) (ty a no_tys) c)) o else deep) (read (last a) m) h) [
          | inl p ↦ elim (chosen (nat_le (depth_ty a) n) (read (more (λ b. b) (con_ty (ty_place a) (ty a no_tys) p.0)) p.1) deep p.3) [
            | inl q ↦ not_deep q.1
            | inr q ↦ let lt : n < depth_ty a = leb-false (depth_ty a) n q.0 in applied-far g.high g.reads (long_tycon-is m p.0 p.1 p.2) (omega arith)
          ]
          | inr p ↦ not_deep p.1
        ]

    simple-far : (i : List Terminal) (a : Ty) (m : List Terminal) → GoodSimple n self sound i a m → whole (postfix_turn n) a m ≡ deep → OpensTy l i (suc (suc n))
    simple-far i a m g h = many-reach (postfix_turn n) (Applied i) (postfix-stops i) (postfix-goes i) (suc (length m)) a m h g

    product-far : (i : List Terminal) (a : Ty) (m : List Terminal) → GoodSimple n self sound i a m → product_rest self n l a m ≡ deep → OpensTy l i (suc (suc n))
    product-far i a m g h =
        elim (chosen (nat_le l 1) (on_some (after_star m) (λ k. if nat_le (depth_ty a) n then then_read (whole (star_turn self) no_state k) (λ ts o. read (product_ty a ts) o) else deep) (read a m)) (read a m) h) [
          | inl p ↦ elim (on_some-split (after_star m) (λ k. if nat_le (depth_ty a) n then then_read (whole (star_turn self) no_state k) (λ ts o. read (product_ty a ts) o) else deep) (read a m) p.1) [
            | inl q ↦ elim (chosen (nat_le (depth_ty a) n) (then_read (whole (star_turn self) no_state q.0) (λ ts o. read (product_ty a ts) o)) deep q.2) [
              | inl r ↦ elim (then_deep (whole (star_turn self) no_state q.0) (λ ts o. read (product_ty a ts) o) r.1) [
                | inl e ↦ product-in (leb-true l 1 p.0) g.high g.reads (star-at m q.0 q.1) (stars-far q.0 e)
                | inr c ↦ not_deep c.2
              ]
              | inr r ↦ let lt : n < depth_ty a = leb-false (depth_ty a) n r.0 in starred-far (leb-true l 1 p.0) g.high g.reads (star-at m q.0 q.1) (omega arith)
            ]
            | inr q ↦ not_deep q.1
          ]
          | inr p ↦ not_deep p.1
        ]

    arrow-far : (i : List Terminal) (a : Ty) (m : List Terminal) → GoodProduct n self sound l i a m → arrow_rest self n l a m ≡ deep → OpensTy l i (suc (suc n))
    arrow-far i a m g h =
        elim (chosen (nat_le l 0) (on_some (after_word res.Arrow m) (λ k. if nat_le (depth_ty a) n then then_read (whole (arrow_turn self) no_state k) (λ ts o. read (arrow_ty a ts) o) else deep) (read a m)) (read a m) h) [
          | inl p ↦ elim (on_some-split (after_word res.Arrow m) (λ k. if nat_le (depth_ty a) n then then_read (whole (arrow_turn self) no_state k) (λ ts o. read (arrow_ty a ts) o) else deep) (read a m) p.1) [
            | inl q ↦ elim (chosen (nat_le (depth_ty a) n) (then_read (whole (arrow_turn self) no_state q.0) (λ ts o. read (arrow_ty a ts) o)) deep q.2) [
              | inl r ↦ elim (then_deep (whole (arrow_turn self) no_state q.0) (λ ts o. read (arrow_ty a ts) o) r.1) [
                | inl e ↦ function-in (leb-true l 0 p.0) g.one g.reads (word-at res.Arrow m q.0 q.1) (arrows-far q.0 e)
                | inr c ↦ not_deep c.2
              ]
              | inr r ↦ let lt : n < depth_ty a = leb-false (depth_ty a) n r.0 in arrowed-far (leb-true l 0 p.0) g.one g.reads (word-at res.Arrow m q.0 q.1) (omega arith)
            ]
            | inr q ↦ not_deep q.1
          ]
          | inr p ↦ not_deep p.1
        ]

    from-far : (i : List Terminal) → l ≤ 2 → ty_from self n l i ≡ deep → OpensTy l i (suc (suc n))
    from-far i low h =
        elim (then_deep (ty_atom self (ty_start i)) (λ a m. then_read (whole (postfix_turn n) a m) (λ b k. then_read (product_rest self n l b k) (arrow_rest self n l))) h) [
          | inl e ↦ atom-far (start-is i) e
          | inr a ↦ let ga = atom-sound n self sound a.0 (start-is i) a.1 in elim (then_deep (whole (postfix_turn n) a.0.tree a.0.rest) (λ b k. then_read (product_rest self n l b k) (arrow_rest self n l)) a.2) [
            | inl e ↦ simple-far i a.0.tree a.0.rest ga e
            | inr b ↦ let gb = simple-sound n self sound i a.0.tree a.0.rest b.0 ga b.1 in elim (then_deep (product_rest self n l b.0.tree b.0.rest) (arrow_rest self n l) b.2) [
              | inl e ↦ product-far i b.0.tree b.0.rest gb.0 e
              | inr c ↦ arrow-far i c.0.tree c.0.rest (product-sound n self sound l i b.0.tree b.0.rest c.0 low gb.0 gb.1 c.1) c.2
            ]
          ]
        ]

pub ty-far : (n l : ℕ) (i : List Terminal) → l ≤ 2 → read_ty n l i ≡ deep → OpensTy l i (suc n)
unfolding read_ty
ty-far zero l i low h = begun_ty (begins_ty-is (if-deep {A = Ty} (begins_ty i) h))
ty-far (suc n) l i low h = from-far n (read_ty n) (ty-sound n) (ty-far n) l i low h
