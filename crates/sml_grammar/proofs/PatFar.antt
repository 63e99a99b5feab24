-- Where the answer is that a pattern is too deep, there is a partial pattern that is.
use Rattle.std.proofs.Common.{◌≡◌, ℕ, zero, suc, ◌≤◌, ◌<◌, List, ◌∷◌, length, Option, Some, None, Bool, false, inl, inr, refl, sym, subst, arith, nat_le, nat_eq, if◌then◌else◌}
use Rattle.std.proofs.lemmas.Bool.{leb-true, leb-false, eqb-true}
use Rattle.mlc_names.specs.declared.token.Reserved.TheVariants as res
use Rattle.sml_tree.specs.declared.ident.Vid.{Vid}
use Rattle.sml_tree.specs.declared.ident.Vid.TheVariants.{Named}
use Rattle.sml_tree.specs.Fixity.{Fixity}
use Rattle.sml_tree.specs.Terminal.{Terminal, reserved}
use Rattle.sml_tree.specs.ReadTree.{Placed, Ty, Pat, vid_pat, con_pat, chain_pat, typed_pat, as_pat, PatParts, last_pat_part, pat_part}
use Rattle.sml_tree.specs.Depth.{depth_pat}
use Rattle.sml_tree.specs.Levels.{vid_level, vid_right, pat_level}
use Rattle.sml_tree.specs.Grammar.{ReadsTy, MaybeTy, without_ty, with_ty, BindsVid, IsInfixVid, PatFits, of_pat_vid, Pattern, of_atpat, of_chain_pat, of_typed_pat}
use Rattle.sml_grammar.specs.Answer.{Read, Answer, ok, bad, deep, read, then_read, Turn, last, more}
use Rattle.sml_grammar.specs.Terminals.{Taken, place_at, after_word, on_some, infix_vid, binds_vid, names_vid}
use Rattle.sml_grammar.specs.Types.{read_ty}
use Rattle.sml_grammar.specs.Patterns.{short_at, pat_start, begins_pat, PatReader, PatReaders, at_pat, same, pat_part_next, pat_part_turn, whole_pat_parts, pat_suffix_mark, pat_suffix_joint, pat_suffix_turn, pat_suffix, pat_first, plain_form, typed_or_as, typed_form, vid_form, pat_form, read_pats}
use Rattle.sml_grammar.proofs.Answers.{chosen, got, then_ok, then_deep, not_deep, bad_deep, bad_ok, deep_ok, if-deep, on_some-split, on_taken-split, FarTurn, many-reach}
use Rattle.sml_grammar.proofs.Words.{AfterWord, found, absent, after-is}
use Rattle.sml_grammar.proofs.Vids.{InfixAt, infix_at, infix-is, binds-is, names-is}
use Rattle.sml_grammar.proofs.TypeSound.{ty-sound}
use Rattle.sml_grammar.proofs.TypeFar.{ty-far}
use Rattle.sml_grammar.proofs.PatStarts.{with-word, pat-start-is, level-low, begins_pat-is}
use Rattle.sml_grammar.proofs.PatAtSound.{GoodPat, SoundPat, SoundAtPat}
use Rattle.sml_grammar.proofs.PatShapes.{binds-names}
use Rattle.sml_grammar.specs.PartialPatterns.{OpensPat, begun_pat, in_atpat, in_con_pat, joined_pat, in_pat_chain, marked_pat, in_pat_ty, in_as, begun_atpat, OpensPatPart, in_pat_part, past_pat_part}
use Rattle.sml_grammar.proofs.PatSound.{same-is, parts-sound, first-sound, pat-sound, atpat-sound}
use Rattle.sml_grammar.proofs.PatAtFar.{FarPat, FarAtPat, at-far}

over-it : (n m : ℕ) → nat_le m n ≡ false → suc n ≤ m
over-it n m h = let lt = leb-false m n h in omega arith

module _ (n : ℕ) (self : PatReader) (sound : SoundPat n self) (far : FarPat n self) (f : Fixity) where
  -- the operands after the joint x
  abbrev FarParts : ℕ → Bool → Placed ℕ → List Terminal → Type 0
  FarParts l r x i = (t : Terminal) → PatFits f l r t x → OpensPatPart f l r (t ∷ i) (suc n)

  part-stop : (l : ℕ) (r : Bool) → suc l ≤ 1000 → (x : Placed ℕ) (i : List Terminal) → pat_part_turn self f l r x i ≡ deep → FarParts l r x i
  part-stop l r low x i h t fit = elim (then_deep (self f (suc l) i) (λ b o. pat_part_next f l r x b o (infix_vid f o)) h) [
    | inl e ↦ in_pat_part fit (far f (suc l) i low e)
    | inr u ↦ go u.0 (infix_vid f u.0.rest) u.2
  ]
    where
      go : (u : Read Pat) (v : Option (Taken (Placed ℕ))) → pat_part_next f l r x u.tree u.rest v ≡ deep → OpensPatPart f l r (t ∷ i) (suc n)
      go u None h = not_deep h
      go u (Some z) h = elim (chosen (nat_eq (vid_level f (Named z.it.it)) l) (if same (vid_right f (Named z.it.it)) r then read (more (pat_part x u.tree) z.it) z.rest else bad) (read (last (last_pat_part x u.tree)) u.rest) h) [
        | inl p ↦ elim (chosen (same (vid_right f (Named z.it.it)) r) (read (more (pat_part x u.tree) z.it) z.rest) bad p.1) [ inl q ↦ not_deep q.1 | inr q ↦ bad_deep {A = Turn PatParts (Placed ℕ)} q.1 ]
        | inr p ↦ not_deep p.1
      ]

  part-past : (l : ℕ) (r : Bool) (x z : Placed ℕ) (i : List Terminal) (b : Pat) {o m : List Terminal} → l < pat_level f b → Pattern f i b o → InfixAt f o z m → vid_level f (Named z.it) ≡ l → vid_right f (Named z.it) ≡ r →
      FarParts l r z m → FarParts l r x i
  part-past l r x z i b lt d (infix_at {t = u} v) lv rt q t fit = past_pat_part fit lt d (q u (record { is = v; level = lv; right = rt }))

  part-turn : (l : ℕ) (r : Bool) → suc l ≤ 1000 → (x : Placed ℕ) (i : List Terminal) (y : Read (Turn PatParts (Placed ℕ))) → pat_part_turn self f l r x i ≡ ok y → FarTurn (FarParts l r) x i y.tree y.rest
  part-turn l r low x i y h =
      let t = then_ok (self f (suc l) i) (λ b o. pat_part_next f l r x b o (infix_vid f o)) y h in
      go t.0 (sound f (suc l) i t.0 low t.1) (infix_vid f t.0.rest) refl t.2
    where
      P : Read (Turn PatParts (Placed ℕ)) → Type 0
      P z = FarTurn (FarParts l r) x i z.tree z.rest

      go : (u : Read Pat) → GoodPat n f (suc l) i u → (v : Option (Taken (Placed ℕ))) → infix_vid f u.rest ≡ v → pat_part_next f l r x u.tree u.rest v ≡ ok y → P y
      go u g None e h = subst P (got h) tt
      go u g (Some z) e h = elim (chosen (nat_eq (vid_level f (Named z.it.it)) l) (if same (vid_right f (Named z.it.it)) r then read (more (pat_part x u.tree) z.it) z.rest else bad) (read (last (last_pat_part x u.tree)) u.rest) h) [
        | inl p ↦ elim (chosen (same (vid_right f (Named z.it.it)) r) (read (more (pat_part x u.tree) z.it) z.rest) bad p.1) [
          | inl q ↦ subst P (got q.1) (part-past l r x z.it i u.tree g.high g.reads (infix-is f u.rest z.it z.rest e)
              (eqb-true (vid_level f (Named z.it.it)) l p.0) (same-is (vid_right f (Named z.it.it)) r q.0))
          | inr q ↦ bad_ok q.1
        ]
        | inr p ↦ subst P (got p.1) tt
      ]

  parts-far : (x : Placed ℕ) (t : Terminal) (m : List Terminal) → IsInfixVid f t x → whole_pat_parts self f x m ≡ deep → OpensPatPart f (vid_level f (Named x.it)) (vid_right f (Named x.it)) (t ∷ m) (suc n)
  parts-far x t m v h =
      let l = vid_level f (Named x.it) in let r = vid_right f (Named x.it) in let low = level-low f (Named x.it) in
      many-reach (pat_part_turn self f l r) (FarParts l r) (part-stop l r low) (part-turn l r low) (suc (length m)) x m h t (record { is = v; level = refl; right = refl })

  module _ (l : ℕ) (i : List Terminal) where
    -- a pattern so far
    abbrev pub Goes : Pat → List Terminal → Type 0
    Goes a m = Pattern f i a m → l ≤ pat_level f a → OpensPat f l i (suc (suc n))

    joint-stop : (a : Pat) {m k : List Terminal} {x : Placed ℕ} → InfixAt f m x k → pat_suffix_joint self n f l a m x k ≡ deep → Goes a m
    joint-stop a {m} {k} {x} (infix_at {t} v) h d lo =
        let lv = vid_level f (Named x.it) in let rt = vid_right f (Named x.it) in
        let g : PatParts → List Terminal → Answer (Turn Pat Pat) = λ ps o. read (more (λ b. b) (chain_pat rt a ps)) o in
        elim (chosen (nat_le l lv) (if nat_le (suc lv) (pat_level f a) then (if nat_le (depth_pat a) n then then_read (whole_pat_parts self f x k) g else deep) else bad) (read (last a) m) h) [
          | inl p ↦ elim (chosen (nat_le (suc lv) (pat_level f a)) (if nat_le (depth_pat a) n then then_read (whole_pat_parts self f x k) g else deep) bad p.1) [
            | inl q ↦
                let la = leb-true l lv p.0 in
                let lb = leb-true (suc lv) (pat_level f a) q.0 in
                elim (chosen (nat_le (depth_pat a) n) (then_read (whole_pat_parts self f x k) g) deep q.1) [
                  | inl w ↦ elim (then_deep (whole_pat_parts self f x k) g w.1) [
                    | inl e ↦ in_pat_chain la (omega arith) d (parts-far x t k v e)
                    | inr u ↦ not_deep u.2
                  ]
                  | inr w ↦ joined_pat la (omega arith) d (record { is = v; level = refl; right = refl }) (over-it n (depth_pat a) w.0)
                ]
            | inr q ↦ bad_deep {A = Turn Pat Pat} q.1
          ]
          | inr p ↦ not_deep p.1
        ]

    mark-stop : (a : Pat) {m : List Terminal} {v : Option (List Terminal)} → AfterWord res.Colon m v → pat_suffix_mark n f l a m v ≡ deep → Goes a m
    mark-stop a {m} (found {o = k} p) h d lo =
        let g : Ty → List Terminal → Answer (Turn Pat Pat) = λ t o. read (more (λ b. b) (typed_pat a t)) o in
        elim (chosen (nat_le l 5) (if nat_le 5 (pat_level f a) then (if nat_le (depth_pat a) n then then_read (read_ty n 0 k) g else deep) else bad) (read (last a) m) h) [
          | inl q ↦ elim (chosen (nat_le 5 (pat_level f a)) (if nat_le (depth_pat a) n then then_read (read_ty n 0 k) g else deep) bad q.1) [
            | inl w ↦
                let la = leb-true l 5 q.0 in
                let lb = leb-true 5 (pat_level f a) w.0 in
                elim (chosen (nat_le (depth_pat a) n) (then_read (read_ty n 0 k) g) deep w.1) [
                  | inl x ↦ elim (then_deep (read_ty n 0 k) g x.1) [
                    | inl e ↦ in_pat_ty p la lb d (ty-far n 0 k (omega arith) e)
                    | inr u ↦ not_deep u.2
                  ]
                  | inr x ↦ marked_pat p la lb d (over-it n (depth_pat a) x.0)
                ]
            | inr w ↦ bad_deep {A = Turn Pat Pat} w.1
          ]
          | inr q ↦ not_deep q.1
        ]
    mark-stop a (absent e) h d lo = not_deep h

    suffix-stop : (a : Pat) (m : List Terminal) → pat_suffix_turn self n f l a m ≡ deep → Goes a m
    suffix-stop a m h = elim (on_taken-split (infix_vid f m) (pat_suffix_joint self n f l a m) (pat_suffix_mark n f l a m (after_word res.Colon m)) h) [
      | inl t ↦ joint-stop a (infix-is f m t.0 t.1 t.2) t.3
      | inr p ↦ mark-stop a (after-is res.Colon m) p.1
    ]

    abbrev Turned : Pat → List Terminal → Read (Turn Pat Pat) → Type 0
    Turned a m z = FarTurn Goes a m z.tree z.rest

    joint-turn : (a : Pat) {m k : List Terminal} {x : Placed ℕ} (y : Read (Turn Pat Pat)) → InfixAt f m x k → pat_suffix_joint self n f l a m x k ≡ ok y → Turned a m y
    joint-turn a {m} {k} {x} y (infix_at {t} v) h =
        let lv = vid_level f (Named x.it) in let rt = vid_right f (Named x.it) in
        let g : PatParts → List Terminal → Answer (Turn Pat Pat) = λ ps o. read (more (λ b. b) (chain_pat rt a ps)) o in
        elim (chosen (nat_le l lv) (if nat_le (suc lv) (pat_level f a) then (if nat_le (depth_pat a) n then then_read (whole_pat_parts self f x k) g else deep) else bad) (read (last a) m) h) [
          | inl p ↦ elim (chosen (nat_le (suc lv) (pat_level f a)) (if nat_le (depth_pat a) n then then_read (whole_pat_parts self f x k) g else deep) bad p.1) [
            | inl q ↦ elim (chosen (nat_le (depth_pat a) n) (then_read (whole_pat_parts self f x k) g) deep q.1) [
              | inl w ↦
                  let u = then_ok (whole_pat_parts self f x k) g y w.1 in
                  let s = parts-sound n self sound f x t k u.0 v u.1 in
                  let la = leb-true l lv p.0 in
                  let lb = leb-true (suc lv) (pat_level f a) q.0 in
                  subst (Turned a m) (got u.2) (λ (again : Goes (chain_pat rt a u.0.tree) u.0.rest) (d : Pattern f i a m) lo.
                  again (of_chain_pat lv rt (omega arith) d s.reads) (subst (λ (z : ℕ). l ≤ z) (sym s.level) la))
              | inr w ↦ deep_ok w.1
            ]
            | inr q ↦ bad_ok q.1
          ]
          | inr p ↦ subst (Turned a m) (got p.1) tt
        ]

    mark-turn : (a : Pat) {m : List Terminal} {v : Option (List Terminal)} (y : Read (Turn Pat Pat)) → AfterWord res.Colon m v → pat_suffix_mark n f l a m v ≡ ok y → Turned a m y
    mark-turn a {m} y (found {o = k} p) h =
        let g : Ty → List Terminal → Answer (Turn Pat Pat) = λ t o. read (more (λ b. b) (typed_pat a t)) o in
        elim (chosen (nat_le l 5) (if nat_le 5 (pat_level f a) then (if nat_le (depth_pat a) n then then_read (read_ty n 0 k) g else deep) else bad) (read (last a) m) h) [
          | inl q ↦ elim (chosen (nat_le 5 (pat_level f a)) (if nat_le (depth_pat a) n then then_read (read_ty n 0 k) g else deep) bad q.1) [
            | inl w ↦ elim (chosen (nat_le (depth_pat a) n) (then_read (read_ty n 0 k) g) deep w.1) [
              | inl x ↦
                  let u = then_ok (read_ty n 0 k) g y x.1 in
                  let s = ty-sound n 0 k u.0 (omega arith) u.1 in
                  let la = leb-true l 5 q.0 in
                  let lb = leb-true 5 (pat_level f a) w.0 in
                  subst (Turned a m) (got u.2) (λ (again : Goes (typed_pat a u.0.tree) u.0.rest) (d : Pattern f i a m) lo. again (of_typed_pat p lb d s.reads) la)
              | inr x ↦ deep_ok x.1
            ]
            | inr w ↦ bad_ok w.1
          ]
          | inr q ↦ subst (Turned a m) (got q.1) tt
        ]
    mark-turn a {m} y (absent e) h = subst (Turned a m) (got h) tt

    suffix-turn : (a : Pat) (m : List Terminal) (y : Read (Turn Pat Pat)) → pat_suffix_turn self n f l a m ≡ ok y → Turned a m y
    suffix-turn a m y h = elim (on_taken-split (infix_vid f m) (pat_suffix_joint self n f l a m) (pat_suffix_mark n f l a m (after_word res.Colon m)) h) [
      | inl t ↦ joint-turn a y (infix-is f m t.0 t.1 t.2) t.3
      | inr p ↦ mark-turn a y (after-is res.Colon m) p.1
    ]

    pub suffix-far : (a : Pat) (m : List Terminal) → pat_suffix self n f l a m ≡ deep → Goes a m
    suffix-far a m h = many-reach (pat_suffix_turn self n f l) Goes suffix-stop suffix-turn (suc (length m)) a m h

module _ (n : ℕ) (self : PatReaders) (sound : SoundPat n self.pat) (sound_at : SoundAtPat n self.atpat) (far : FarPat n self.pat) (far_at : FarAtPat n self.atpat) (f : Fixity) where
  first-far : (l : ℕ) (i : List Terminal) → pat_first self n f i ≡ deep → OpensPat f l i (suc (suc n))
  first-far l i h =
      elim (on_taken-split (names_vid f i) (λ x m. if begins_pat f m then then_read (self.atpat f m) (λ a o. read (con_pat (place_at i) x a) o) else read (vid_pat (place_at i) x) m) (at_pat n self.pat f (pat_start f i)) h) [
        | inl t ↦ elim (chosen (begins_pat f t.1) (then_read (self.atpat f t.1) (λ a o. read (con_pat (place_at i) t.0 a) o)) (read (vid_pat (place_at i) t.0) t.1) t.3) [
          | inl p ↦ elim (then_deep (self.atpat f t.1) (λ a o. read (con_pat (place_at i) t.0 a) o) p.1) [
            | inl e ↦ in_con_pat (names-is f i t.0 t.1 t.2) (far_at f t.1 e)
            | inr u ↦ not_deep u.2
          ]
          | inr p ↦ not_deep p.1
        ]
        | inr p ↦ in_atpat (at-far n self.pat sound far f (pat-start-is f i) p.1)
      ]

  plain-far : (l : ℕ) (i : List Terminal) → l ≤ 1000 → plain_form self n f l i ≡ deep → OpensPat f l i (suc (suc n))
  plain-far l i low h = elim (then_deep (pat_first self n f i) (pat_suffix self.pat n f l) h) [
    | inl e ↦ first-far l i e
    | inr u ↦
        let g = first-sound n self sound sound_at f i u.0 u.1 in
        suffix-far n self.pat sound far f l i u.0.tree u.0.rest u.2 g.reads (subst (λ (w : ℕ). l ≤ w) (sym g.high) low)
  ]

  as-far : (i : List Terminal) (v : Placed Vid) (s : Option Ty) {m k : List Terminal} (q : ℕ) → BindsVid f i (place_at i) v m → MaybeTy m s (reserved q res.As ∷ k) →
      then_read (self.pat f 0 k) (λ a o. read (as_pat (place_at i) v s a) o) ≡ deep → OpensPat f 0 i (suc (suc n))
  as-far i v s {k} q b d h = elim (then_deep (self.pat f 0 k) (λ a o. read (as_pat (place_at i) v s a) o) h) [
    | inl e ↦ in_as q (omega arith) b d (far f 0 k (omega arith) e)
    | inr u ↦ not_deep u.2
  ]

  typed-far : (i : List Terminal) (v : Placed Vid) (p : ℕ) (m : List Terminal) → BindsVid f i (place_at i) v (reserved p res.Colon ∷ m) → typed_form self n f (place_at i) v m ≡ deep → OpensPat f 0 i (suc (suc n))
  typed-far i v p m b h =
      let left : Pattern f i (vid_pat (place_at i) (short_at v)) (reserved p res.Colon ∷ m) = of_atpat (of_pat_vid (binds-names b)) in
      elim (chosen (nat_le 1 n) (then_read (read_ty n 0 m) (typed_or_as self n f (place_at i) v)) deep h) [
        | inl c ↦ elim (then_deep (read_ty n 0 m) (typed_or_as self n f (place_at i) v) c.1) [
          | inl e ↦ in_pat_ty p (omega arith) (omega arith) left (ty-far n 0 m (omega arith) e)
          | inr u ↦
              let t = u.0.tree in let o = u.0.rest in
              let g = ty-sound n 0 m u.0 (omega arith) u.1 in
              elim (on_some-split (after_word res.As o) (λ k. then_read (self.pat f 0 k) (λ a o. read (as_pat (place_at i) v (Some t) a) o)) (pat_suffix self.pat n f 0 (typed_pat (vid_pat (place_at i) (short_at v)) t) o) u.2) [
                | inl q ↦ let w = with-word (λ z. ReadsTy m t z) res.As o q.0 q.1 g.reads in as-far i v (Some t) w.0 b (with_ty p w.1) q.2
                | inr q ↦ suffix-far n self.pat sound far f 0 i (typed_pat (vid_pat (place_at i) (short_at v)) t) o q.1 (of_typed_pat p (omega arith) left g.reads) (omega arith)
              ]
        ]
        | inr c ↦ marked_pat p (omega arith) (omega arith) left (over-it n 1 c.0)
      ]

  vid-far : (i : List Terminal) (v : Placed Vid) (m : List Terminal) → BindsVid f i (place_at i) v m → vid_form self n f i v m ≡ deep → OpensPat f 0 i (suc (suc n))
  vid-far i v m b h =
      elim (on_some-split (after_word res.As m) (λ k. then_read (self.pat f 0 k) (λ a o. read (as_pat (place_at i) v None a) o)) (on_some (after_word res.Colon m) (typed_form self n f (place_at i) v) (plain_form self n f 0 i)) h) [
        | inl q ↦ let w = with-word (λ z. BindsVid f i (place_at i) v z) res.As m q.0 q.1 b in as-far i v None w.0 w.1 without_ty q.2
        | inr q ↦ elim (on_some-split (after_word res.Colon m) (typed_form self n f (place_at i) v) (plain_form self n f 0 i) q.1) [
          | inl c ↦ let w = with-word (λ z. BindsVid f i (place_at i) v z) res.Colon m c.0 c.1 b in typed-far i v w.0 c.0 w.1 c.2
          | inr c ↦ plain-far 0 i (omega arith) c.1
        ]
      ]

  pub form-far : (l : ℕ) (i : List Terminal) → l ≤ 1000 → pat_form self n f l i ≡ deep → OpensPat f l i (suc (suc n))
  form-far zero i low h = elim (on_taken-split (binds_vid f i) (vid_form self n f i) (plain_form self n f 0 i) h) [
    | inl t ↦ vid-far i t.0 t.1 (binds-is f i t.0 t.1 t.2) t.3
    | inr p ↦ plain-far 0 i low p.1
  ]
  form-far (suc l) i low h = plain-far (suc l) i low h

mutual
  unfolding read_pats

  pub pats-far : (n : ℕ) → FarPat n (read_pats n).pat
  pats-far zero f l i low h = begun_pat (begins_pat-is (if-deep {A = Pat} (begins_pat f i) h))
  pats-far (suc n) f l i low h = form-far n (read_pats n) (pat-sound n) (atpat-sound n) (pats-far n) (atpat-far n) f l i low h

  pub atpat-far : (n : ℕ) → FarAtPat n (read_pats n).atpat
  atpat-far zero f i h = begun_atpat (begins_pat-is (if-deep {A = Pat} (begins_pat f i) h))
  atpat-far (suc n) f i h = at-far n (read_pats n).pat (pat-sound n) (pats-far n) f (pat-start-is f i) h

pub pat-far : (n : ℕ) (f : Fixity) (l : ℕ) (i : List Terminal) → (read_pats n).pat f l i ≡ deep → l ≤ 1000 → OpensPat f l i (suc n)
pat-far n f l i h low = pats-far n f l i low h
