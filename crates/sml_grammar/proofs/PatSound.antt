-- What is read of patterns is in the grammar.
use Rattle.std.proofs.Common.{◌≡◌, ℕ, zero, suc, ◌≤◌, ◌<◌, List, ◌∷◌, length, Option, Some, None, Bool, true, false, inl, inr, refl, sym, subst, arith, nat_le, nat_eq, if◌then◌else◌}
use Rattle.std.proofs.lemmas.Bool.{leb-true, eqb-true}
use Rattle.mlc_names.specs.declared.token.Reserved.TheVariants as res
use Rattle.sml_tree.specs.declared.ident.Vid.{Vid}
use Rattle.sml_tree.specs.declared.ident.Vid.TheVariants.{Named}
use Rattle.sml_tree.specs.Fixity.{Fixity}
use Rattle.sml_tree.specs.Terminal.{Terminal, reserved}
use Rattle.sml_tree.specs.ReadTree.{Placed, Ty, Pat, vid_pat, con_pat, chain_pat, typed_pat, as_pat, PatParts, last_pat_part, pat_part}
use Rattle.sml_tree.specs.Depth.{depth_some, depth_pat, depth_pat_parts}
use Rattle.sml_tree.specs.Levels.{vid_level, vid_right, pat_level, pat_parts_level}
use Rattle.sml_tree.specs.Grammar.{ReadsTy, MaybeTy, without_ty, with_ty, BindsVid, IsInfixVid, PatFits, of_pat_vid, Pattern, of_atpat, of_con_pat, of_chain_pat, of_typed_pat, of_as_pat, PatFollows, of_last_pat_part, of_pat_part}
use Rattle.sml_grammar.specs.Answer.{Read, Answer, ok, bad, deep, read, then_read, Turn, last, more}
use Rattle.sml_grammar.specs.Terminals.{Taken, place_at, after_word, on_some, infix_vid, binds_vid, names_vid}
use Rattle.sml_grammar.specs.Types.{read_ty}
use Rattle.sml_grammar.specs.Patterns.{short_at, pat_start, begins_pat, PatReader, PatReaders, at_pat, same, pat_part_next, pat_part_turn, whole_pat_parts, pat_suffix_mark, pat_suffix_joint, pat_suffix_turn, pat_suffix, pat_first, plain_form, typed_or_as, typed_form, vid_form, pat_form, read_pats}
use Rattle.sml_grammar.proofs.Answers.{chosen, got, not_true, then_ok, bad_ok, deep_ok, deep_if-ok, on_some-split, on_taken-split, GoodTurn, many-ok}
use Rattle.sml_grammar.proofs.Words.{AfterWord, found, absent, after-is}
use Rattle.sml_grammar.proofs.Vids.{InfixAt, infix_at, infix-is, binds-is, names-is}
use Rattle.sml_grammar.proofs.TypeSound.{ty-sound}
use Rattle.sml_grammar.proofs.PatStarts.{with-word, pat-start-is, level-low}
use Rattle.sml_grammar.proofs.PatShapes.{binds-names, atpat-high}
use Rattle.sml_grammar.proofs.PatAtSound.{GoodPat, SoundPat, SoundAtPat, at-sound}

pub same-is : (a b : Bool) → same a b ≡ true → a ≡ b
same-is true true e = refl
same-is true false e = not_true e
same-is false true e = not_true e
same-is false false e = refl

pub record GoodParts (n : ℕ) (f : Fixity) (l : ℕ) (r : Bool) (i : List Terminal) (ps : PatParts) (o : List Terminal) : Type 0 where
  pub reads : PatFollows f l r i ps o
  pub level : pat_parts_level f ps ≡ l
  pub fits : depth_pat_parts ps ≤ n

module _ (n : ℕ) (self : PatReader) (sound : SoundPat n self) (f : Fixity) where
  -- the operands after the joint x
  abbrev IsParts : ℕ → Bool → Placed ℕ → List Terminal → PatParts → List Terminal → Type 0
  IsParts l r x i ps o = (t : Terminal) → PatFits f l r t x → GoodParts n f l r (t ∷ i) ps o

  part-more : (l : ℕ) (r : Bool) (x z : Placed ℕ) (i : List Terminal) (b : Pat) {o m : List Terminal} → l < pat_level f b → depth_pat b ≤ n → Pattern f i b o → InfixAt f o z m →
      vid_level f (Named z.it) ≡ l → vid_right f (Named z.it) ≡ r → (ps : PatParts) (k : List Terminal) → IsParts l r z m ps k → IsParts l r x i (pat_part x b ps) k
  part-more l r x z i b lt le d (infix_at {t = u} v) lv rt ps k q t fit =
      let w = q u (record { is = v; level = lv; right = rt }) in
      record { reads = of_pat_part fit lt d w.reads; level = fit.level; fits = omega (arith, w.fits) }

  part-turn : (l : ℕ) (r : Bool) → suc l ≤ 1000 → (x : Placed ℕ) (i : List Terminal) (y : Read (Turn PatParts (Placed ℕ))) → pat_part_turn self f l r x i ≡ ok y → GoodTurn (IsParts l r) x i y.tree y.rest
  part-turn l r low x i y h =
      let t = then_ok (self f (suc l) i) (λ b o. pat_part_next f l r x b o (infix_vid f o)) y h in
      go t.0 (sound f (suc l) i t.0 low t.1) (infix_vid f t.0.rest) refl t.2
    where
      P : Read (Turn PatParts (Placed ℕ)) → Type 0
      P z = GoodTurn (IsParts l r) x i z.tree z.rest

      end : (u : Read Pat) → GoodPat n f (suc l) i u → read (last (last_pat_part x u.tree)) u.rest ≡ ok y → P y
      end u g h = subst P (got h) (λ t fit. record { reads = of_last_pat_part fit g.high g.reads; level = fit.level; fits = g.fits })

      go : (u : Read Pat) → GoodPat n f (suc l) i u → (v : Option (Taken (Placed ℕ))) → infix_vid f u.rest ≡ v → pat_part_next f l r x u.tree u.rest v ≡ ok y → P y
      go u g None e h = end u g h
      go u g (Some z) e h = elim (chosen (nat_eq (vid_level f (Named z.it.it)) l) (if same (vid_right f (Named z.it.it)) r then read (more (pat_part x u.tree) z.it) z.rest else bad) (read (last (last_pat_part x u.tree)) u.rest) h) [
        | inl p ↦ elim (chosen (same (vid_right f (Named z.it.it)) r) (read (more (pat_part x u.tree) z.it) z.rest) bad p.1) [
          | inl q ↦ subst P (got q.1) (part-more l r x z.it i u.tree g.high g.fits g.reads (infix-is f u.rest z.it z.rest e)
              (eqb-true (vid_level f (Named z.it.it)) l p.0) (same-is (vid_right f (Named z.it.it)) r q.0))
          | inr q ↦ bad_ok q.1
        ]
        | inr p ↦ end u g p.1
      ]

  pub parts-sound : (x : Placed ℕ) (t : Terminal) (m : List Terminal) (y : Read PatParts) → IsInfixVid f t x → whole_pat_parts self f x m ≡ ok y →
      GoodParts n f (vid_level f (Named x.it)) (vid_right f (Named x.it)) (t ∷ m) y.tree y.rest
  parts-sound x t m y v h =
      let l = vid_level f (Named x.it) in let r = vid_right f (Named x.it) in
      many-ok (pat_part_turn self f l r) (IsParts l r) (part-turn l r (level-low f (Named x.it))) (suc (length m)) x m y h t (record { is = v; level = refl; right = refl })

  module _ (l : ℕ) (i : List Terminal) where
    -- a pattern so far, and what it goes on to
    abbrev pub Going : Pat → List Terminal → Pat → List Terminal → Type 0
    Going a m b o = Pattern f i a m → l ≤ pat_level f a → depth_pat a ≤ suc n → GoodPat (suc n) f l i (record { tree = b; rest = o })

    abbrev Turned : Pat → List Terminal → Read (Turn Pat Pat) → Type 0
    Turned a m z = GoodTurn Going a m z.tree z.rest

    stop-turn : (a : Pat) (m : List Terminal) (y : Read (Turn Pat Pat)) → read (last a) m ≡ ok y → Turned a m y
    stop-turn a m y h = subst (Turned a m) (got h) (λ d lo dp. record { reads = d; high = lo; fits = dp })

    joint-turn : (a : Pat) {m k : List Terminal} {x : Placed ℕ} (y : Read (Turn Pat Pat)) → InfixAt f m x k → pat_suffix_joint self n f l a m x k ≡ ok y → Turned a m y
    joint-turn a {m} {k} {x} y (infix_at {t} v) h =
        let lv = vid_level f (Named x.it) in let rt = vid_right f (Named x.it) in
        let g : List Terminal → PatParts → Answer (Turn Pat Pat) = λ o ps. read (more (λ b. b) (chain_pat rt a ps)) o in
        elim (chosen (nat_le l lv) (if nat_le (suc lv) (pat_level f a) then (if nat_le (depth_pat a) n then then_read (whole_pat_parts self f x k) (λ ps o. g o ps) else deep) else bad) (read (last a) m) h) [
          | inl p ↦ elim (chosen (nat_le (suc lv) (pat_level f a)) (if nat_le (depth_pat a) n then then_read (whole_pat_parts self f x k) (λ ps o. g o ps) else deep) bad p.1) [
            | inl q ↦ elim (chosen (nat_le (depth_pat a) n) (then_read (whole_pat_parts self f x k) (λ ps o. g o ps)) deep q.1) [
              | inl w ↦
                  let u = then_ok (whole_pat_parts self f x k) (λ ps o. g o ps) y w.1 in
                  let s = parts-sound x t k u.0 v u.1 in
                  let la = leb-true l lv p.0 in
                  let lb = leb-true (suc lv) (pat_level f a) q.0 in
                  let lc = leb-true (depth_pat a) n w.0 in
                  subst (Turned a m) (got u.2) (λ b o (again : Going (chain_pat rt a u.0.tree) u.0.rest b o) (d : Pattern f i a m) lo dp.
                  again (of_chain_pat lv rt (omega arith) d s.reads) (subst (λ (z : ℕ). l ≤ z) (sym s.level) la) (omega (arith, s.fits)))
              | inr w ↦ deep_ok w.1
            ]
            | inr q ↦ bad_ok q.1
          ]
          | inr p ↦ stop-turn a m y p.1
        ]

    mark-turn : (a : Pat) {m : List Terminal} {v : Option (List Terminal)} (y : Read (Turn Pat Pat)) → AfterWord res.Colon m v → pat_suffix_mark n f l a m v ≡ ok y → Turned a m y
    mark-turn a {m} y (found {o = k} p) h =
        let g : Ty → List Terminal → Answer (Turn Pat Pat) = λ t o. read (more (λ b. b) (typed_pat a t)) o in
        elim (chosen (nat_le l 5) (if nat_le 5 (pat_level f a) then (if nat_le (depth_pat a) n then then_read (read_ty n 0 k) g else deep) else bad) (read (last a) m) h) [
          | inl q ↦ elim (chosen (nat_le 5 (pat_level f a)) (if nat_le (depth_pat a) n then then_read (read_ty n 0 k) g else deep) bad q.1) [
            | inl w ↦ elim (chosen (nat_le (depth_pat a) n) (then_read (read_ty n 0 k) g) deep w.1) [
              | inl x ↦
                  let u = then_ok (read_ty n 0 k) g y x.1 in
                  let s = ty-sound n 0 k u.0 (omega arith) u.1 in
                  let la = leb-true l 5 q.0 in
                  let lb = leb-true 5 (pat_level f a) w.0 in
                  let lc = leb-true (depth_pat a) n x.0 in
                  subst (Turned a m) (got u.2) (λ b o (again : Going (typed_pat a u.0.tree) u.0.rest b o) (d : Pattern f i a m) lo dp. again (of_typed_pat p lb d s.reads) la (omega (arith, s.fits)))
              | inr x ↦ deep_ok x.1
            ]
            | inr w ↦ bad_ok w.1
          ]
          | inr q ↦ stop-turn a m y q.1
        ]
    mark-turn a {m} y (absent e) h = stop-turn a m y h

    suffix-turn : (a : Pat) (m : List Terminal) (y : Read (Turn Pat Pat)) → pat_suffix_turn self n f l a m ≡ ok y → Turned a m y
    suffix-turn a m y h = elim (on_taken-split (infix_vid f m) (pat_suffix_joint self n f l a m) (pat_suffix_mark n f l a m (after_word res.Colon m)) h) [
      | inl t ↦ joint-turn a y (infix-is f m t.0 t.1 t.2) t.3
      | inr p ↦ mark-turn a y (after-is res.Colon m) p.1
    ]

    pub suffix-sound : (a : Pat) (m : List Terminal) (y : Read Pat) → pat_suffix self n f l a m ≡ ok y → Going a m y.tree y.rest
    suffix-sound a m y h = many-ok (pat_suffix_turn self n f l) Going suffix-turn (suc (length m)) a m y h

module _ (n : ℕ) (self : PatReaders) (sound : SoundPat n self.pat) (sound_at : SoundAtPat n self.atpat) (f : Fixity) where
  pub record GoodFirst (i : List Terminal) (y : Read Pat) : Type 0 where
    pub reads : Pattern f i y.tree y.rest
    pub high : pat_level f y.tree ≡ 1000
    pub fits : depth_pat y.tree ≤ suc n

  pub first-sound : (i : List Terminal) (y : Read Pat) → pat_first self n f i ≡ ok y → GoodFirst i y
  first-sound i y h =
      elim (on_taken-split (names_vid f i) (λ x m. if begins_pat f m then then_read (self.atpat f m) (λ a o. read (con_pat (place_at i) x a) o) else read (vid_pat (place_at i) x) m) (at_pat n self.pat f (pat_start f i)) h) [
        | inl t ↦ elim (chosen (begins_pat f t.1) (then_read (self.atpat f t.1) (λ a o. read (con_pat (place_at i) t.0 a) o)) (read (vid_pat (place_at i) t.0) t.1) t.3) [
          | inl p ↦
              let u = then_ok (self.atpat f t.1) (λ a o. read (con_pat (place_at i) t.0 a) o) y p.1 in
              let g = sound_at f t.1 u.0 u.1 in
              subst (GoodFirst i) (got u.2) (record { reads = of_con_pat (names-is f i t.0 t.1 t.2) g.reads; high = refl; fits = omega (arith, g.fits) })
          | inr p ↦ subst (GoodFirst i) (got p.1) (record { reads = of_atpat (of_pat_vid (names-is f i t.0 t.1 t.2)); high = refl; fits = omega arith })
        ]
        | inr p ↦ let g = at-sound n self.pat sound f y (pat-start-is f i) p.1 in record { reads = of_atpat g.reads; high = atpat-high g.reads; fits = g.fits }
      ]

  plain-sound : (l : ℕ) (i : List Terminal) (y : Read Pat) → l ≤ 1000 → plain_form self n f l i ≡ ok y → GoodPat (suc n) f l i y
  plain-sound l i y low h =
      let u = then_ok (pat_first self n f i) (pat_suffix self.pat n f l) y h in
      let g = first-sound i u.0 u.1 in
      suffix-sound n self.pat sound f l i u.0.tree u.0.rest y u.2 g.reads (subst (λ (w : ℕ). l ≤ w) (sym g.high) low) g.fits

  as-sound : (i : List Terminal) (v : Placed Vid) (s : Option Ty) {m k : List Terminal} (q : ℕ) (y : Read Pat) → BindsVid f i (place_at i) v m → MaybeTy m s (reserved q res.As ∷ k) → depth_some s ≤ n →
      then_read (self.pat f 0 k) (λ a o. read (as_pat (place_at i) v s a) o) ≡ ok y → GoodPat (suc n) f 0 i y
  as-sound i v s {k} q y b d le h =
      let u = then_ok (self.pat f 0 k) (λ a o. read (as_pat (place_at i) v s a) o) y h in
      let g = sound f 0 k u.0 (omega arith) u.1 in
      subst (GoodPat (suc n) f 0 i) (got u.2) (record { reads = of_as_pat q b d g.reads; high = omega arith; fits = omega (arith, g.fits) })

  typed-sound : (i : List Terminal) (v : Placed Vid) (p : ℕ) (m : List Terminal) (y : Read Pat) → BindsVid f i (place_at i) v (reserved p res.Colon ∷ m) → typed_form self n f (place_at i) v m ≡ ok y → GoodPat (suc n) f 0 i y
  typed-sound i v p m y b h =
      elim (chosen (nat_le 1 n) (then_read (read_ty n 0 m) (typed_or_as self n f (place_at i) v)) deep h) [
        | inl c ↦
            let u = then_ok (read_ty n 0 m) (typed_or_as self n f (place_at i) v) y c.1 in
            let t = u.0.tree in let o = u.0.rest in
            let g = ty-sound n 0 m u.0 (omega arith) u.1 in
            elim (on_some-split (after_word res.As o) (λ k. then_read (self.pat f 0 k) (λ a o. read (as_pat (place_at i) v (Some t) a) o)) (pat_suffix self.pat n f 0 (typed_pat (vid_pat (place_at i) (short_at v)) t) o) u.2) [
              | inl q ↦
                  let w = with-word (λ z. ReadsTy m t z) res.As o q.0 q.1 g.reads in
                  as-sound i v (Some t) w.0 y b (with_ty p w.1) g.fits q.2
              | inr q ↦
                  let one = leb-true 1 n c.0 in
                  suffix-sound n self.pat sound f 0 i (typed_pat (vid_pat (place_at i) (short_at v)) t) o y q.1
                  (of_typed_pat p (omega arith) (of_atpat (of_pat_vid (binds-names b))) g.reads) (omega arith) (omega (arith, g.fits))
            ]
        | inr c ↦ deep_ok c.1
      ]

  vid-sound : (i : List Terminal) (v : Placed Vid) (m : List Terminal) (y : Read Pat) → BindsVid f i (place_at i) v m → vid_form self n f i v m ≡ ok y → GoodPat (suc n) f 0 i y
  vid-sound i v m y b h =
      elim (on_some-split (after_word res.As m) (λ k. then_read (self.pat f 0 k) (λ a o. read (as_pat (place_at i) v None a) o)) (on_some (after_word res.Colon m) (typed_form self n f (place_at i) v) (plain_form self n f 0 i)) h) [
        | inl q ↦ let w = with-word (λ z. BindsVid f i (place_at i) v z) res.As m q.0 q.1 b in as-sound i v None w.0 y w.1 without_ty (omega arith) q.2
        | inr q ↦ elim (on_some-split (after_word res.Colon m) (typed_form self n f (place_at i) v) (plain_form self n f 0 i) q.1) [
          | inl c ↦ let w = with-word (λ z. BindsVid f i (place_at i) v z) res.Colon m c.0 c.1 b in typed-sound i v w.0 c.0 y w.1 c.2
          | inr c ↦ plain-sound 0 i y (omega arith) c.1
        ]
      ]

  pub form-sound : (l : ℕ) (i : List Terminal) (y : Read Pat) → l ≤ 1000 → pat_form self n f l i ≡ ok y → GoodPat (suc n) f l i y
  form-sound zero i y low h = elim (on_taken-split (binds_vid f i) (vid_form self n f i) (plain_form self n f 0 i) h) [
    | inl t ↦ vid-sound i t.0 t.1 y (binds-is f i t.0 t.1 t.2) t.3
    | inr p ↦ plain-sound 0 i y low p.1
  ]
  form-sound (suc l) i y low h = plain-sound (suc l) i y low h

mutual
  unfolding read_pats

  pub pat-sound : (n : ℕ) → SoundPat n (read_pats n).pat
  pat-sound zero f l i y low h = deep_if-ok (begins_pat f i) y h
  pat-sound (suc n) f l i y low h = form-sound n (read_pats n) (pat-sound n) (atpat-sound n) f l i y low h

  pub atpat-sound : (n : ℕ) → SoundAtPat n (read_pats n).atpat
  atpat-sound zero f i y h = deep_if-ok (begins_pat f i) y h
  atpat-sound (suc n) f i y h = at-sound n (read_pats n).pat (pat-sound n) f y (pat-start-is f i) h
