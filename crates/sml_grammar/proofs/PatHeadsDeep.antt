-- Heads of clauses that are too deep: they are told to be, and what is told to be is.
use Rattle.std.proofs.Common.{◌≡◌, ℕ, zero, suc, ◌≤◌, ◌<◌, List, ◌∷◌, length, Option, Some, None, true, false, inl, inr, refl, sym, subst, arith, nat_le, max, if◌then◌else◌}
use Rattle.std.proofs.lemmas.Bool.{leb-false, le-leb, lt-leb}
use Rattle.mlc_names.specs.declared.token.Reserved.TheVariants as res
use Rattle.sml_tree.specs.declared.ident.Vid.{Vid}
use Rattle.sml_tree.specs.declared.ident.Vid.TheVariants.{Named}
use Rattle.sml_tree.specs.Fixity.{Fixity}
use Rattle.sml_tree.specs.Terminal.{Terminal, reserved}
use Rattle.sml_tree.specs.ReadTree.{Placed, Pat, vid_pat, paren_pat, chain_pat, Pats, no_pats, pat, last_pat_part, Head, prefix_head, infix_head, bracket_head}
use Rattle.sml_tree.specs.Depth.{depth_pat, depth_pats, depth_head}
use Rattle.sml_tree.specs.Levels.{vid_right}
use Rattle.sml_tree.specs.Grammar.{BindsVid, IsInfixVid, AtPat, of_pat_vid, AtPats, no_atpats, more_atpats, ReadsHead, of_prefix_head, of_infix_head, of_bracket_head}
use Rattle.sml_grammar.specs.Answer.{Read, ok, deep, read, then_read, Turn, last, more, many}
use Rattle.sml_grammar.specs.Terminals.{Taken, NoState, no_state, place_at, infix_vid, binds_vid}
use Rattle.sml_grammar.specs.Patterns.{short_at, begins_pat, read_atpat, atpats_turn, read_atpats, infix_rest, prefix_rest, vid_head, Bracketed, bracketed, bracket_rest, pat_head, read_head}
use Rattle.sml_grammar.proofs.Answers.{chosen, got, then_ok, then_deep, not_deep, bad_deep, on_taken-split, many-deep, many-stop, FarTurn, many-reach, le_or, le_max}
use Rattle.sml_grammar.proofs.Vids.{InfixAt, infix_at, infix-is, infix-found, binds-is, binds-found, binds-place, no-binds, binds-none}
use Rattle.sml_grammar.proofs.PatStarts.{begins-no_infix}
use Rattle.sml_grammar.proofs.PatShapes.{atpat-shorter, binds-names, atpat-begins}
use Rattle.sml_grammar.specs.PartialPatterns.{OpensAtPats, in_one_atpat, past_atpat, OpensHead, in_first, first_is_vid, in_second, in_prefix, in_bracketed}
use Rattle.sml_grammar.proofs.PatOpens.{atpat-opens, opens_atpat-begins}
use Rattle.sml_grammar.proofs.PatSound.{atpat-sound}
use Rattle.sml_grammar.proofs.PatComplete.{atpat-complete}
use Rattle.sml_grammar.proofs.PatOver.{atpat-over}
use Rattle.sml_grammar.proofs.PatFar.{atpat-far}
use Rattle.sml_grammar.proofs.PatHeads.{BracketAt, bracket_at, bracket-is, bracket-pattern, bound-atom, is-atpat}

-- A head has a partial one of each depth up to its own.

pub atpats-opens : {f : Fixity} {i o : List Terminal} {as_ : Pats} → AtPats f i as_ o → (k : ℕ) → 0 < k → k ≤ depth_pats as_ → OpensAtPats f i k
atpats-opens no_atpats k pos le = absurd (omega arith)
atpats-opens (more_atpats {a} {as_} d ds) k pos le =
    elim (le_max k (depth_pat a) (depth_pats as_) le) [
      | inl p ↦ in_one_atpat (atpat-opens d k pos p)
      | inr p ↦ past_atpat d (atpats-opens ds k pos p)
    ]

prefix-opens : {f : Fixity} {i m n o : List Terminal} {p : ℕ} {v : Placed Vid} {a : Pat} {as_ : Pats} → BindsVid f i p v m → AtPat f m a n → AtPats f n as_ o → (k : ℕ) → 0 < k → k ≤ max (depth_pat a) (depth_pats as_) → OpensHead f i k
prefix-opens {a} {as_} b d ds k pos le = elim (le_max k (depth_pat a) (depth_pats as_) le) [
  | inl p ↦ in_prefix b (in_one_atpat (atpat-opens d k pos p))
  | inr p ↦ in_prefix b (past_atpat d (atpats-opens ds k pos p))
]

-- the first operand
first-opens : {f : Fixity} {i m : List Terminal} {t : Terminal} {x : Placed ℕ} {a : Pat} → AtPat f i a (t ∷ m) → IsInfixVid f t x → (k : ℕ) → 0 < k → k ≤ depth_pat a → OpensHead f i k
first-opens {f} {i} {m} {t} {x} {a} d v k pos le = go (binds_vid f i) refl
  where
    -- an identifier is one deep
    one : (j : ℕ) → j ≡ k → j ≤ 1 → (w : List Terminal) → w ≡ t ∷ m → {p : ℕ} {u : Placed Vid} → BindsVid f i p u w → OpensHead f i k
    one zero e h w s b = absurd (omega arith)
    one (suc zero) e h w s {p} {u} b = subst (λ (z : ℕ). OpensHead f i z) e (first_is_vid (subst (λ (z : List Terminal). BindsVid f i p u z) s b) v)
    one (suc (suc j)) e h w s b = absurd (omega arith)

    go : (w : Option (Taken (Placed Vid))) → binds_vid f i ≡ w → OpensHead f i k
    go None e = in_first (binds-none e) (atpat-opens d k pos le)
    go (Some y) e =
        let b = binds-is f i y.it y.rest e in
        let s = bound-atom d b in
        one k refl (subst (λ (z : Pat). k ≤ depth_pat z) s.0 le) y.rest (sym s.1) b

pub head-opens : {f : Fixity} {i o : List Terminal} {h : Head} → ReadsHead f i h o → (k : ℕ) → 0 < k → k ≤ depth_head h → OpensHead f i k
head-opens (of_prefix_head b d ds) k pos le = prefix-opens b d ds k pos le
head-opens (of_infix_head {a} {b} d v e) k pos le = elim (le_max k (depth_pat a) (depth_pat b) le) [
  | inl p ↦ first-opens d v k pos p
  | inr p ↦ in_second d v (atpat-opens e k pos p)
]
head-opens (of_bracket_head {a} {b} {as_} p q d v e ds) k pos le = elim (le_max k (suc (suc (max (depth_pat a) (depth_pat b)))) (depth_pats as_) le) [
  | inl h ↦ in_first (binds-none refl) (atpat-opens (bracket-pattern p q d v e) k pos h)
  | inr h ↦ in_bracketed p q d v e (atpats-opens ds k pos h)
]

pub opens_atpats-begin : {f : Fixity} {i : List Terminal} {d : ℕ} → OpensAtPats f i d → begins_pat f i ≡ true
opens_atpats-begin (in_one_atpat o) = opens_atpat-begins o
opens_atpats-begin (past_atpat d o) = atpat-begins d

module _ (n : ℕ) (f : Fixity) where
  -- Too deep.

  too : {i o : List Terminal} {a : Pat} → AtPat f i a o → n < depth_pat a → read_atpat n f i ≡ deep
  too {a} d lt = atpat-over n f (atpat-opens d (depth_pat a) (omega arith) (omega arith)) lt

  atpats-over : {i : List Terminal} {d : ℕ} → OpensAtPats f i d → n < d → (k : ℕ) → length i < k → many (atpats_turn n f) k no_state i ≡ deep
  atpats-over o lt zero le = absurd (omega arith)
  atpats-over (in_one_atpat {i} o) lt (suc k) le =
      let b = opens_atpat-begins o in
      let h : read_atpat n f i ≡ deep = atpat-over n f o lt in
      many-stop (atpats_turn n f) k (rw (b, h) refl)
  atpats-over (past_atpat {i} {m} {a} d o) lt (suc k) le =
      let b = atpat-begins d in
      elim (le_or (depth_pat a) n) [
        | inl p ↦
            let h : read_atpat n f i ≡ read a m = atpat-complete n f d p in
            let sh = atpat-shorter d in
            many-deep (atpats_turn n f) k {put = pat a} (rw (b, h) refl) (atpats-over o lt k (omega arith))
        | inr p ↦ let h : read_atpat n f i ≡ deep = too d p in many-stop (atpats_turn n f) k (rw (b, h) refl)
      ]

  atpats-deep : {i : List Terminal} {d : ℕ} → OpensAtPats f i d → n < d → read_atpats n f i ≡ deep
  atpats-deep {i} o lt = atpats-over o lt (suc (length i)) (omega arith)

  prefix-over : {m : List Terminal} {d : ℕ} (p : ℕ) (v : Placed Vid) → OpensAtPats f m d → n < d → prefix_rest n f p v m ≡ deep
  prefix-over p v (in_one_atpat {i = m} o) lt = let h : read_atpat n f m ≡ deep = atpat-over n f o lt in rw h refl
  prefix-over p v (past_atpat {i = m} {m = k} {a} d o) lt =
      let j = atpats-deep o lt in
      elim (le_or (depth_pat a) n) [
        | inl p ↦ let h : read_atpat n f m ≡ read a k = atpat-complete n f d p in rw (h, j) refl
        | inr p ↦ let h : read_atpat n f m ≡ deep = too d p in rw h refl
      ]

  first-over : (i : List Terminal) → binds_vid f i ≡ None → read_atpat n f i ≡ deep → read_head n f i ≡ deep
  first-over i e h = rw (e, h) refl

  -- after an identifier
  vid-over : {i m k : List Terminal} {t : Terminal} {x : Placed ℕ} {p : ℕ} {v : Placed Vid} → BindsVid f i p v k → k ≡ t ∷ m → IsInfixVid f t x → (1 ≤ n → read_atpat n f m ≡ deep) → read_head n f i ≡ deep
  vid-over {m} w e v h =
      let g = binds-found w in
      let u = infix-found v m in
      elim (le_or 1 n) [
        | inl p ↦ let c = le-leb 1 n p in let j = h p in rw (g, e, u, c, j) refl
        | inr p ↦ let c : nat_le 1 n ≡ false = lt-leb 1 n p in rw (g, e, u, c) refl
      ]

  second-over : {i m : List Terminal} {t : Terminal} {x : Placed ℕ} {a : Pat} → AtPat f i a (t ∷ m) → IsInfixVid f t x → read_atpat n f m ≡ deep → read_head n f i ≡ deep
  second-over {i} {m} {t} {x} {a} d v h = go (binds_vid f i) refl
    where
      go : (w : Option (Taken (Placed Vid))) → binds_vid f i ≡ w → read_head n f i ≡ deep
      go None w = elim (le_or (depth_pat a) n) [
        | inl p ↦ let j : read_atpat n f i ≡ read a (t ∷ m) = atpat-complete n f d p in let u = infix-found v m in rw (w, j, u, h) refl
        | inr p ↦ first-over i w (too d p)
      ]
      go (Some y) w = let b = binds-is f i y.it y.rest w in vid-over b (sym (bound-atom d b).1) v (λ (p : 1 ≤ n). h)

  pub head-over : {i : List Terminal} {d : ℕ} → OpensHead f i d → n < d → read_head n f i ≡ deep
  head-over {i} (in_first none o) lt = first-over i (no-binds none) (atpat-over n f o lt)
  head-over (first_is_vid b v) lt = vid-over b refl v (λ (p : 1 ≤ n). absurd (omega arith))
  head-over (in_second d v o) lt = second-over d v (atpat-over n f o lt)
  head-over (in_prefix {m} {p} {v} b o) lt =
      let g = binds-found b in
      let u = begins-no_infix f m (opens_atpats-begin o) in
      let s = binds-place b in
      let h = prefix-over p v o lt in
      rw (g, s, u, h) refl
  head-over (in_bracketed {i} {n = k} {x} {a} {b} p q d v e o) lt =
      let w = bracket-pattern p q d v e in
      let r = vid_right f (Named x.it) in
      elim (le_or (suc (suc (max (depth_pat a) (depth_pat b)))) n) [
        | inl le ↦
            let h : read_atpat n f (reserved p res.LeftParen ∷ i) ≡ read (paren_pat p (chain_pat r a (last_pat_part x b))) k = atpat-complete n f w le in
            let u = begins-no_infix f k (opens_atpats-begin o) in
            let ca = is-atpat d in let cb = is-atpat e in
            let j = atpats-deep o lt in
            rw (h, u, ca, cb, j) refl
        | inr le ↦ first-over (reserved p res.LeftParen ∷ i) refl (too w le)
      ]

  -- What is told to be too deep.

  abbrev FarAtPats : NoState → List Terminal → Type 0
  FarAtPats s i = OpensAtPats f i (suc n)

  atpats-stop : (s : NoState) (i : List Terminal) → atpats_turn n f s i ≡ deep → FarAtPats s i
  atpats-stop s i h = elim (chosen (begins_pat f i) (then_read (read_atpat n f i) (λ a o. read (more (pat a) s) o)) (read (last no_pats) i) h) [
    | inl p ↦ elim (then_deep (read_atpat n f i) (λ a o. read (more (pat a) s) o) p.1) [ inl e ↦ in_one_atpat (atpat-far n f i e) | inr u ↦ not_deep u.2 ]
    | inr p ↦ not_deep p.1
  ]

  atpats-turn : (s : NoState) (i : List Terminal) (y : Read (Turn Pats NoState)) → atpats_turn n f s i ≡ ok y → FarTurn FarAtPats s i y.tree y.rest
  atpats-turn s i y h =
      let P : Read (Turn Pats NoState) → Type 0 = λ z. FarTurn FarAtPats s i z.tree z.rest in
      elim (chosen (begins_pat f i) (then_read (read_atpat n f i) (λ a o. read (more (pat a) s) o)) (read (last no_pats) i) h) [
        | inl p ↦
            let t = then_ok (read_atpat n f i) (λ a o. read (more (pat a) s) o) y p.1 in
            let g = atpat-sound n f i t.0 t.1 in
            subst P (got t.2) (λ (q : OpensAtPats f t.0.rest (suc n)). past_atpat g.reads q)
        | inr p ↦ subst P (got p.1) tt
      ]

  atpats-far : (i : List Terminal) → read_atpats n f i ≡ deep → OpensAtPats f i (suc n)
  atpats-far i h = many-reach (atpats_turn n f) FarAtPats atpats-stop atpats-turn (suc (length i)) no_state i h

  infix-far : {i m k : List Terminal} {a : Pat} {x : Placed ℕ} → AtPat f i a m → InfixAt f m x k → infix_rest n f a x k ≡ deep → OpensHead f i (suc n)
  infix-far {k} {a} {x} d (infix_at v) h = elim (then_deep (read_atpat n f k) (λ b o. read (infix_head a x b) o) h) [
    | inl e ↦ in_second d v (atpat-far n f k e)
    | inr u ↦ not_deep u.2
  ]

  prefix-far : (i : List Terminal) (v : Placed Vid) (m : List Terminal) → BindsVid f i (place_at i) v m → prefix_rest n f (place_at i) v m ≡ deep → OpensHead f i (suc n)
  prefix-far i v m b h = elim (then_deep (read_atpat n f m) (λ a k. then_read (read_atpats n f k) (λ as_ o. read (prefix_head (place_at i) v a as_) o)) h) [
    | inl e ↦ in_prefix b (in_one_atpat (atpat-far n f m e))
    | inr t ↦ elim (then_deep (read_atpats n f t.0.rest) (λ as_ o. read (prefix_head (place_at i) v t.0.tree as_) o) t.2) [
      | inl e ↦ in_prefix b (past_atpat (atpat-sound n f m t.0 t.1).reads (atpats-far t.0.rest e))
      | inr u ↦ not_deep u.2
    ]
  ]

  bracket-in : {i m : List Terminal} {x : Bracketed} {d : ℕ} → BracketAt f i x m → OpensAtPats f m d → OpensHead f i d
  bracket-in (bracket_at p q d v e) o = in_bracketed p q d v e o

  rest-far : {i : List Terminal} (m : List Terminal) (a : Pat) → AtPat f i a m → (v : Option Bracketed) → bracketed a ≡ v → bracket_rest n f m v ≡ deep → OpensHead f i (suc n)
  rest-far m a d None e h = bad_deep {A = Head} h
  rest-far m a d (Some x) e h = elim (then_deep (read_atpats n f m) (λ as_ o. read (bracket_head x.place x.left x.vid x.right as_) o) h) [
    | inl q ↦ bracket-in (bracket-is x d e) (atpats-far m q)
    | inr u ↦ not_deep u.2
  ]

  -- an identifier before an infix one, where there is room for nothing
  no-room : {i m k : List Terminal} {x : Placed ℕ} {p : ℕ} {v : Placed Vid} → BindsVid f i p v m → InfixAt f m x k → n < 1 → OpensHead f i (suc n)
  no-room {i} b (infix_at v) lt = let e : 1 ≡ suc n = omega arith in subst (λ (z : ℕ). OpensHead f i z) e (first_is_vid b v)

  vid-far : (i : List Terminal) (v : Placed Vid) (m : List Terminal) → BindsVid f i (place_at i) v m → vid_head n f (place_at i) v m ≡ deep → OpensHead f i (suc n)
  vid-far i v m b h =
      elim (on_taken-split (infix_vid f m) (λ x k. if nat_le 1 n then infix_rest n f (vid_pat (place_at i) (short_at v)) x k else deep) (prefix_rest n f (place_at i) v m) h) [
        | inl t ↦ elim (chosen (nat_le 1 n) (infix_rest n f (vid_pat (place_at i) (short_at v)) t.0 t.1) deep t.3) [
          | inl p ↦ infix-far (of_pat_vid (binds-names b)) (infix-is f m t.0 t.1 t.2) p.1
          | inr p ↦ no-room b (infix-is f m t.0 t.1 t.2) (leb-false 1 n p.0)
        ]
        | inr p ↦ prefix-far i v m b p.1
      ]

  pub head-far : (i : List Terminal) → read_head n f i ≡ deep → OpensHead f i (suc n)
  head-far i h = elim (on_taken-split (binds_vid f i) (vid_head n f (place_at i)) (then_read (read_atpat n f i) (pat_head n f)) h) [
    | inl t ↦ vid-far i t.0 t.1 (binds-is f i t.0 t.1 t.2) t.3
    | inr p ↦ elim (then_deep (read_atpat n f i) (pat_head n f) p.1) [
      | inl e ↦ in_first (binds-none p.0) (atpat-far n f i e)
      | inr u ↦
          let a = u.0.tree in let m = u.0.rest in
          let g = atpat-sound n f i u.0 u.1 in
          elim (on_taken-split (infix_vid f m) (infix_rest n f a) (bracket_rest n f m (bracketed a)) u.2) [
            | inl t ↦ infix-far g.reads (infix-is f m t.0 t.1 t.2) t.3
            | inr q ↦ rest-far m a g.reads (bracketed a) refl q.1
          ]
    ]
  ]
