-- Heads of clauses: what is read is in the grammar, and what is in the grammar and not too deep is read.
use Rattle.std.proofs.Common.{◌≡◌, ℕ, zero, suc, ◌≤◌, ◌<◌, List, ◌∷◌, length, Option, Some, None, Bool, true, false, ◌&&◌, inl, inr, refl, sym, ap, ◌∙◌, subst, arith, nat_le, max, if◌then◌else◌}
use Rattle.std.proofs.lemmas.Bool.{leb-true, le-leb}
use Rattle.mlc_names.specs.declared.token.Reserved.TheVariants as res
use Rattle.sml_tree.specs.declared.ident.Vid.{Vid}
use Rattle.sml_tree.specs.declared.ident.Vid.TheVariants.{Named}
use Rattle.sml_tree.specs.Fixity.{Fixity}
use Rattle.sml_tree.specs.Terminal.{Terminal, reserved}
use Rattle.sml_tree.specs.ReadTree.{Placed, Pat, vid_pat, paren_pat, chain_pat, Pats, no_pats, pat, PatParts, last_pat_part, Head, prefix_head, infix_head, bracket_head}
use Rattle.sml_tree.specs.Depth.{depth_pat, depth_pats, depth_head}
use Rattle.sml_tree.specs.Levels.{vid_level, vid_right}
use Rattle.sml_tree.specs.Grammar.{BindsVid, IsInfixVid, AtPat, of_wild, of_pat_constant, of_pat_vid, of_no_pat_row, of_pat_row, of_unit_pat, of_tuple_pat, of_nil_pat, of_list_pat, of_paren_pat, Pattern, of_atpat, of_con_pat, of_chain_pat, of_typed_pat, of_as_pat, PatFollows, of_last_pat_part, of_pat_part, AtPats, no_atpats, more_atpats, ReadsHead, of_prefix_head, of_infix_head, of_bracket_head}
use Rattle.sml_grammar.specs.Answer.{Read, ok, deep, read, then_read, Turn, last, more, many}
use Rattle.sml_grammar.specs.Terminals.{Taken, NoState, no_state, place_at, infix_vid, binds_vid}
use Rattle.sml_grammar.specs.Patterns.{short_at, begins_pat, read_atpat, atpats_turn, read_atpats, infix_rest, prefix_rest, vid_head, Bracketed, is_atpat, bracketed_parts, bracketed_chain, bracketed, bracket_rest, pat_head, read_head}
use Rattle.sml_grammar.proofs.Answers.{chosen, got, got_some, not_some, not_true, then_ok, bad_ok, deep_ok, on_taken-split, GoodTurn, many-ok, many-last, many-more}
use Rattle.sml_grammar.proofs.Vids.{InfixAt, infix_at, infix-is, infix-found, binds-is, binds-found, binds-place, binds-shorter}
use Rattle.sml_grammar.proofs.PatStarts.{begins-no_infix, level-low}
use Rattle.sml_grammar.proofs.PatShapes.{atpat-shorter, atpats-shorter, pat-pos, binds-names, atpat-high, atpat-begins}
use Rattle.sml_grammar.proofs.PatSound.{atpat-sound}
use Rattle.sml_grammar.proofs.PatComplete.{atpat-complete}

pub record GoodHead (n : ℕ) (f : Fixity) (i : List Terminal) (y : Read Head) : Type 0 where
  pub reads : ReadsHead f i y.tree y.rest
  pub fits : depth_head y.tree ≤ n

pub record GoodAtPats (n : ℕ) (f : Fixity) (i : List Terminal) (as_ : Pats) (o : List Terminal) : Type 0 where
  pub reads : AtPats f i as_ o
  pub fits : depth_pats as_ ≤ n

and-both : (a b : Bool) → (a && b) ≡ true → (a ≡ true) × (b ≡ true)
and-both true b e = (refl, e)
and-both false b e = not_true e

pub is-atpat : {f : Fixity} {i o : List Terminal} {a : Pat} → AtPat f i a o → is_atpat a ≡ true
is-atpat (of_wild p) = refl
is-atpat (of_pat_constant c) = refl
is-atpat (of_pat_vid x) = refl
is-atpat (of_no_pat_row p q) = refl
is-atpat (of_pat_row p q r) = refl
is-atpat (of_unit_pat p q) = refl
is-atpat (of_tuple_pat p q r d ds) = refl
is-atpat (of_nil_pat p q) = refl
is-atpat (of_list_pat p q ds) = refl
is-atpat (of_paren_pat p q d) = refl

pub of-is_atpat : {f : Fixity} {i o : List Terminal} {a : Pat} → Pattern f i a o → is_atpat a ≡ true → AtPat f i a o
of-is_atpat (of_atpat d) e = d
of-is_atpat (of_con_pat x d) e = not_true e
of-is_atpat (of_chain_pat l r lt d fs) e = not_true e
of-is_atpat (of_typed_pat p five d t) e = not_true e
of-is_atpat (of_as_pat q b s d) e = not_true e

-- an atomic pattern is no chain
atom-no_chain : {f : Fixity} {i o : List Terminal} {a : Pat} (p : ℕ) → AtPat f i a o → bracketed_chain p a ≡ None
atom-no_chain p (of_wild q) = refl
atom-no_chain p (of_pat_constant c) = refl
atom-no_chain p (of_pat_vid x) = refl
atom-no_chain p (of_no_pat_row q r) = refl
atom-no_chain p (of_pat_row q r d) = refl
atom-no_chain p (of_unit_pat q r) = refl
atom-no_chain p (of_tuple_pat q r s d ds) = refl
atom-no_chain p (of_nil_pat q r) = refl
atom-no_chain p (of_list_pat q r ds) = refl
atom-no_chain p (of_paren_pat q r d) = refl

-- `(a x b)` in a clause's head
pub data BracketAt (f : Fixity) : List Terminal → Bracketed → List Terminal → Type 0 where
  bracket_at : {i m n : List Terminal} {t : Terminal} {x : Placed ℕ} {a b : Pat} (p q : ℕ) → AtPat f i a (t ∷ m) → IsInfixVid f t x → AtPat f m b (reserved q res.RightParen ∷ n) →
      BracketAt f (reserved p res.LeftParen ∷ i) (record { place = p; left = a; vid = x; right = b }) n

bracket-last : {f : Fixity} (p q l : ℕ) (r : Bool) {i m o : List Terminal} {a : Pat} {ps : PatParts} (x : Bracketed) → Pattern f i a m → PatFollows f l r m ps (reserved q res.RightParen ∷ o) → bracketed_parts p a ps ≡ Some x →
    BracketAt f (reserved p res.LeftParen ∷ i) x o
bracket-last {f} p q l r {i} {o} {a} x d (of_last_pat_part {x = y} {b} fit lt e) h =
    elim (chosen (is_atpat a && is_atpat b) (Some (record { place = p; left = a; vid = y; right = b })) None h) [
      | inl c ↦
          let w = and-both (is_atpat a) (is_atpat b) c.0 in
          subst (λ (z : Bracketed). BracketAt f (reserved p res.LeftParen ∷ i) z o) (got_some c.1) (bracket_at p q (of-is_atpat d w.0) fit.is (of-is_atpat e w.1))
      | inr c ↦ not_some c.1
    ]
bracket-last p q l r x d (of_pat_part fit lt e fs) h = not_some h

bracket-chain : {f : Fixity} (p q : ℕ) {i o : List Terminal} {a : Pat} (x : Bracketed) → Pattern f i a (reserved q res.RightParen ∷ o) → bracketed_chain p a ≡ Some x → BracketAt f (reserved p res.LeftParen ∷ i) x o
bracket-chain p q x (of_atpat d) h = not_some (sym (atom-no_chain p d) ∙ h)
bracket-chain p q x (of_con_pat y d) h = not_some h
bracket-chain p q x (of_chain_pat l r lt d fs) h = bracket-last p q l r x d fs h
bracket-chain p q x (of_typed_pat y five d t) h = not_some h
bracket-chain p q x (of_as_pat y b s d) h = not_some h

pub bracket-is : {f : Fixity} {i o : List Terminal} {a : Pat} (x : Bracketed) → AtPat f i a o → bracketed a ≡ Some x → BracketAt f i x o
bracket-is x (of_wild p) h = not_some h
bracket-is x (of_pat_constant c) h = not_some h
bracket-is x (of_pat_vid y) h = not_some h
bracket-is x (of_no_pat_row p q) h = not_some h
bracket-is x (of_pat_row p q r) h = not_some h
bracket-is x (of_unit_pat p q) h = not_some h
bracket-is x (of_tuple_pat p q r d ds) h = not_some h
bracket-is x (of_nil_pat p q) h = not_some h
bracket-is x (of_list_pat p q ds) h = not_some h
bracket-is x (of_paren_pat p q d) h = bracket-chain p q x d h

bracket-reads : {f : Fixity} {i m o : List Terminal} {x : Bracketed} {as_ : Pats} → BracketAt f i x m → AtPats f m as_ o → ReadsHead f i (bracket_head x.place x.left x.vid x.right as_) o
bracket-reads (bracket_at p q d v e) ds = of_bracket_head p q d v e ds

-- the bracket is no deeper than the pattern that it is
bracket-depth : (a : Pat) (x : Bracketed) → bracketed a ≡ Some x → suc (suc (max (depth_pat x.left) (depth_pat x.right))) ≤ depth_pat a
bracket-depth (paren_pat p (chain_pat r a (last_pat_part y b))) x h =
    elim (chosen (is_atpat a && is_atpat b) (Some (record { place = p; left = a; vid = y; right = b })) None h) [
      | inl c ↦ subst (λ (z : Bracketed). suc (suc (max (depth_pat z.left) (depth_pat z.right))) ≤ suc (suc (max (depth_pat a) (depth_pat b)))) (got_some c.1) (omega arith)
      | inr c ↦ not_some c.1
    ]
bracket-depth _ x h = not_some h

module _ (n : ℕ) (f : Fixity) where
  atpats-turn : (s : NoState) (i : List Terminal) (y : Read (Turn Pats NoState)) → atpats_turn n f s i ≡ ok y → GoodTurn (λ s i as_ o. GoodAtPats n f i as_ o) s i y.tree y.rest
  atpats-turn s i y h =
      let P : Read (Turn Pats NoState) → Type 0 = λ z. GoodTurn (λ s i as_ o. GoodAtPats n f i as_ o) s i z.tree z.rest in
      elim (chosen (begins_pat f i) (then_read (read_atpat n f i) (λ a o. read (more (pat a) s) o)) (read (last no_pats) i) h) [
        | inl p ↦
            let t = then_ok (read_atpat n f i) (λ a o. read (more (pat a) s) o) y p.1 in
            let g = atpat-sound n f i t.0 t.1 in
            subst P (got t.2) (λ b o (q : GoodAtPats n f t.0.rest b o). record { reads = more_atpats g.reads q.reads; fits = omega (arith, g.fits, q.fits) })
        | inr p ↦ subst P (got p.1) (record { reads = no_atpats; fits = omega arith })
      ]

  pub atpats-sound : (i : List Terminal) (y : Read Pats) → read_atpats n f i ≡ ok y → GoodAtPats n f i y.tree y.rest
  atpats-sound i y h = many-ok (atpats_turn n f) (λ s i as_ o. GoodAtPats n f i as_ o) atpats-turn (suc (length i)) no_state i y h

  infix-sound : (i : List Terminal) {m k : List Terminal} {a : Pat} {x : Placed ℕ} (y : Read Head) → AtPat f i a m → depth_pat a ≤ n → InfixAt f m x k → infix_rest n f a x k ≡ ok y → GoodHead n f i y
  infix-sound i {k} {a} {x} y d le (infix_at v) h =
      let t = then_ok (read_atpat n f k) (λ b o. read (infix_head a x b) o) y h in
      let g = atpat-sound n f k t.0 t.1 in
      subst (GoodHead n f i) (got t.2) (record { reads = of_infix_head d v g.reads; fits = omega (arith, g.fits) })

  prefix-sound : (i : List Terminal) (v : Placed Vid) (m : List Terminal) (y : Read Head) → BindsVid f i (place_at i) v m → prefix_rest n f (place_at i) v m ≡ ok y → GoodHead n f i y
  prefix-sound i v m y b h =
      let t = then_ok (read_atpat n f m) (λ a k. then_read (read_atpats n f k) (λ as_ o. read (prefix_head (place_at i) v a as_) o)) y h in
      let u = then_ok (read_atpats n f t.0.rest) (λ as_ o. read (prefix_head (place_at i) v t.0.tree as_) o) y t.2 in
      let g = atpat-sound n f m t.0 t.1 in
      let w = atpats-sound t.0.rest u.0 u.1 in
      subst (GoodHead n f i) (got u.2) (record { reads = of_prefix_head b g.reads w.reads; fits = omega (arith, g.fits, w.fits) })

  vid-sound : (i : List Terminal) (v : Placed Vid) (m : List Terminal) (y : Read Head) → BindsVid f i (place_at i) v m → vid_head n f (place_at i) v m ≡ ok y → GoodHead n f i y
  vid-sound i v m y b h =
      elim (on_taken-split (infix_vid f m) (λ x k. if nat_le 1 n then infix_rest n f (vid_pat (place_at i) (short_at v)) x k else deep) (prefix_rest n f (place_at i) v m) h) [
        | inl t ↦ elim (chosen (nat_le 1 n) (infix_rest n f (vid_pat (place_at i) (short_at v)) t.0 t.1) deep t.3) [
          | inl p ↦ infix-sound i y (of_pat_vid (binds-names b)) (leb-true 1 n p.0) (infix-is f m t.0 t.1 t.2) p.1
          | inr p ↦ deep_ok p.1
        ]
        | inr p ↦ prefix-sound i v m y b p.1
      ]

  rest-sound : (i m : List Terminal) (a : Pat) (y : Read Head) → AtPat f i a m → depth_pat a ≤ n → (v : Option Bracketed) → bracketed a ≡ v → bracket_rest n f m v ≡ ok y → GoodHead n f i y
  rest-sound i m a y d le None e h = bad_ok h
  rest-sound i m a y d le (Some x) e h =
      let t = then_ok (read_atpats n f m) (λ as_ o. read (bracket_head x.place x.left x.vid x.right as_) o) y h in
      let g = atpats-sound m t.0 t.1 in
      let dp = bracket-depth a x e in
      subst (GoodHead n f i) (got t.2) (record { reads = bracket-reads (bracket-is x d e) g.reads; fits = omega (arith, g.fits) })

  pub head-sound : (i : List Terminal) (y : Read Head) → read_head n f i ≡ ok y → GoodHead n f i y
  head-sound i y h = elim (on_taken-split (binds_vid f i) (vid_head n f (place_at i)) (then_read (read_atpat n f i) (pat_head n f)) h) [
    | inl t ↦ vid-sound i t.0 t.1 y (binds-is f i t.0 t.1 t.2) t.3
    | inr p ↦
        let u = then_ok (read_atpat n f i) (pat_head n f) y p.1 in
        let a = u.0.tree in let m = u.0.rest in
        let g = atpat-sound n f i u.0 u.1 in
        elim (on_taken-split (infix_vid f m) (infix_rest n f a) (bracket_rest n f m (bracketed a)) u.2) [
          | inl t ↦ infix-sound i y g.reads g.fits (infix-is f m t.0 t.1 t.2) t.3
          | inr q ↦ rest-sound i m a y g.reads g.fits (bracketed a) refl q.1
        ]
  ]

  atpats-complete : {i o : List Terminal} {as_ : Pats} → AtPats f i as_ o → depth_pats as_ ≤ n → begins_pat f o ≡ false → (k : ℕ) → length i < k → many (atpats_turn n f) k no_state i ≡ read as_ o
  atpats-complete ds le b zero lt = absurd (omega arith)
  atpats-complete no_atpats le b (suc k) lt = many-last (atpats_turn n f) k (rw b refl)
  atpats-complete (more_atpats {i} {m} {o} {a} d ds) le b (suc k) lt =
      let e = atpat-begins d in
      let h : read_atpat n f i ≡ read a m = atpat-complete n f d (omega arith) in
      let sh = atpat-shorter d in
      many-more (atpats_turn n f) k {put = pat a} (rw (e, h) refl) (atpats-complete ds (omega arith) b k (omega arith))

  pub atpats-whole : {i o : List Terminal} {as_ : Pats} → AtPats f i as_ o → depth_pats as_ ≤ n → begins_pat f o ≡ false → read_atpats n f i ≡ read as_ o
  atpats-whole {i} ds le b = atpats-complete ds le b (suc (length i)) (omega arith)

pub atpats-no_infix : {f : Fixity} {i o : List Terminal} {as_ : Pats} → AtPats f i as_ o → infix_vid f o ≡ None → infix_vid f i ≡ None
atpats-no_infix no_atpats e = e
atpats-no_infix {f} {i} (more_atpats d ds) e = begins-no_infix f i (atpat-begins d)

-- an atomic pattern that begins with an identifier is that identifier
pub bound-atom : {f : Fixity} {i o m : List Terminal} {a : Pat} {p : ℕ} {v : Placed Vid} → AtPat f i a o → BindsVid f i p v m → (a ≡ vid_pat p (short_at v)) × (o ≡ m)
bound-atom {f} {i} {o} {m} {a} {p} {v} d b =
    let n = suc (depth_pat a) in
    let h : read_atpat n f i ≡ read a o = atpat-complete n f d (omega arith) in
    let g : read_atpat n f i ≡ read (vid_pat p (short_at v)) m = atpat-complete n f (of_pat_vid (binds-names b)) (omega arith) in
    let e = got (sym h ∙ g) in
    (ap (λ (z : Read Pat). z.tree) e, ap (λ (z : Read Pat). z.rest) e)

bracket-found : (p : ℕ) (r : Bool) (x : Placed ℕ) (a b : Pat) → is_atpat a ≡ true → is_atpat b ≡ true → bracketed (paren_pat p (chain_pat r a (last_pat_part x b))) ≡ Some (record { place = p; left = a; vid = x; right = b })
bracket-found p r x a b c d = rw (c, d) refl

-- the bracket of a head, as a pattern
pub bracket-pattern : {f : Fixity} {i m n : List Terminal} {t : Terminal} {x : Placed ℕ} {a b : Pat} (p q : ℕ) → AtPat f i a (t ∷ m) → IsInfixVid f t x → AtPat f m b (reserved q res.RightParen ∷ n) →
    AtPat f (reserved p res.LeftParen ∷ i) (paren_pat p (chain_pat (vid_right f (Named x.it)) a (last_pat_part x b))) n
bracket-pattern {f} {x} {a} {b} p q d v e =
    let ha = atpat-high d in
    let hb = atpat-high e in
    let lo = level-low f (Named x.it) in
    of_paren_pat p q (of_chain_pat (vid_level f (Named x.it)) (vid_right f (Named x.it)) (omega arith) (of_atpat d)
    (of_last_pat_part (record { is = v; level = refl; right = refl }) (omega arith) (of_atpat e)))

vid-infix : (n : ℕ) (f : Fixity) {i m k o : List Terminal} {t : Terminal} {x : Placed ℕ} {p : ℕ} {v : Placed Vid} {b : Pat} → BindsVid f i p v k → k ≡ t ∷ m → IsInfixVid f t x → read_atpat n f m ≡ read b o → 1 ≤ n →
    read_head n f i ≡ read (infix_head (vid_pat p (short_at v)) x b) o
vid-infix n f {m} w e v h le =
    let g = binds-found w in let s = binds-place w in
    let u = infix-found v m in
    let c = le-leb 1 n le in
    rw (g, s, e, u, c, h) refl

pub head-complete : (n : ℕ) (f : Fixity) {i o : List Terminal} {h : Head} → ReadsHead f i h o → depth_head h ≤ n → begins_pat f o ≡ false → infix_vid f o ≡ None → read_head n f i ≡ read h o
head-complete n f (of_prefix_head {m} {n = k} {o} {a} {as_} b d ds) le np ni =
    let g = binds-found b in let s = binds-place b in
    let u = begins-no_infix f m (atpat-begins d) in
    let h : read_atpat n f m ≡ read a k = atpat-complete n f d (omega arith) in
    let j : read_atpats n f k ≡ read as_ o = atpats-whole n f ds (omega arith) np in
    rw (g, s, u, h, j) refl
head-complete n f (of_infix_head {i} {m} {o} {t} {x} {a} {b} d v e) le np ni = go (binds_vid f i) refl
  where
    go : (w : Option (Taken (Placed Vid))) → binds_vid f i ≡ w → read_head n f i ≡ read (infix_head a x b) o
    go None w =
        let h : read_atpat n f i ≡ read a (t ∷ m) = atpat-complete n f d (omega arith) in
        let u = infix-found v m in
        let j : read_atpat n f m ≡ read b o = atpat-complete n f e (omega arith) in
        rw (w, h, u, j) refl
    go (Some y) w =
        let c = binds-is f i y.it y.rest w in
        let s = bound-atom d c in
        let pos = pat-pos a in
        subst (λ (z : Pat). read_head n f i ≡ read (infix_head z x b) o) (sym s.0) (vid-infix n f c (sym s.1) v (atpat-complete n f e (omega arith)) (omega arith))
head-complete n f (of_bracket_head {i} {m} {n = k} {o} {t} {x} {a} {b} {as_} p q d v e ds) le np ni =
    let r = vid_right f (Named x.it) in
    let h : read_atpat n f (reserved p res.LeftParen ∷ i) ≡ read (paren_pat p (chain_pat r a (last_pat_part x b))) k = atpat-complete n f (bracket-pattern p q d v e) (omega arith) in
    let u = atpats-no_infix ds ni in
    let w = bracket-found p r x a b (is-atpat d) (is-atpat e) in
    let j : read_atpats n f k ≡ read as_ o = atpats-whole n f ds (omega arith) np in
    rw (h, u, w, j) refl

pub head-shorter : {f : Fixity} {i o : List Terminal} {h : Head} → ReadsHead f i h o → length o < length i
head-shorter (of_prefix_head b d ds) = let x = binds-shorter b in let y = atpat-shorter d in let z = atpats-shorter ds in omega arith
head-shorter (of_infix_head d v e) = let x = atpat-shorter d in let y = atpat-shorter e in omega arith
head-shorter (of_bracket_head p q d v e ds) = let x = atpat-shorter d in let y = atpat-shorter e in let z = atpats-shorter ds in omega arith
