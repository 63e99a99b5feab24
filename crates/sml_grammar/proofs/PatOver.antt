-- Patterns that are too deep are told to be.
use Rattle.std.proofs.Common.{◌≡◌, ℕ, zero, suc, ◌≤◌, ◌<◌, List, ◌∷◌, length, Option, None, Bool, true, false, inl, inr, refl, sym, ◌∙◌, subst, arith, nat_le}
use Rattle.std.proofs.lemmas.Bool.{le-leb, lt-leb}
use Rattle.mlc_names.specs.declared.token.Reserved.TheVariants as res
use Rattle.sml_tree.specs.declared.ident.Vid.{Vid}
use Rattle.sml_tree.specs.declared.ident.Vid.TheVariants.{Named}
use Rattle.sml_tree.specs.Fixity.{Fixity}
use Rattle.sml_tree.specs.Terminal.{LongVid, Terminal, reserved}
use Rattle.sml_tree.specs.ReadTree.{Placed, Ty, Pat, pat_part}
use Rattle.sml_tree.specs.Depth.{depth_ty, depth_some, depth_pat, depth_pat_parts}
use Rattle.sml_tree.specs.Levels.{vid_level, vid_right, pat_level}
use Rattle.sml_tree.specs.Grammar.{MaybeTy, without_ty, with_ty, BindsVid, NamesVid, Pattern, of_atpat, of_con_pat, of_chain_pat, of_typed_pat, of_as_pat}
use Rattle.sml_grammar.specs.Answer.{deep, read, many}
use Rattle.sml_grammar.specs.Terminals.{tail, binds_vid, names_vid}
use Rattle.sml_grammar.specs.Types.{read_ty}
use Rattle.sml_grammar.specs.Patterns.{pat_start, PatReader, PatReaders, at_pat, pat_part_turn, whole_pat_parts, pat_suffix_turn, pat_first, plain_form, pat_form, read_pats}
use Rattle.sml_grammar.proofs.Answers.{many-deep, many-stop, le_or}
use Rattle.sml_grammar.proofs.Vids.{binds-found, names-found}
use Rattle.sml_grammar.proofs.TypeShapes.{ty-pos}
use Rattle.sml_grammar.proofs.TypeComplete.{ty-complete}
use Rattle.sml_grammar.proofs.TypePaths.{ty-opens}
use Rattle.sml_grammar.proofs.TypeOver.{ty-over}
use Rattle.sml_grammar.proofs.PatStarts.{begins-no_word, level-high}
use Rattle.sml_grammar.proofs.PatShapes.{pat-shorter, PartHead, fits-head, part-head, follows-level, head-stops, ends-mark, ends-joint}
use Rattle.sml_grammar.proofs.PatAtComplete.{CompletePat, CompleteAtPat}
use Rattle.sml_grammar.specs.PartialTypes.{OpensTy}
use Rattle.sml_grammar.specs.PartialPatterns.{OpensPat, begun_pat, in_atpat, in_con_pat, joined_pat, in_pat_chain, marked_pat, in_pat_ty, in_as, OpensAtPat, begun_atpat, in_paren_pat, in_tuple_pat, in_list_pat, in_record_pat, OpensPatPart, in_pat_part, past_pat_part}
use Rattle.sml_grammar.proofs.PatOpens.{atpat-opens, follows-opens, opens_pat-begins, opens_atpat-begins}
use Rattle.sml_grammar.proofs.PatComplete.{part-next, Reaches, Reached, alone, along, plain-unbound, plain-named, settle, reached, pat-reads, atpat-reads}
use Rattle.sml_grammar.proofs.PatAtOver.{OverPat, OverAtPat, too, at-over}

module _ (n : ℕ) (self : PatReader) (complete : CompletePat n self) (over : OverPat n self) (f : Fixity) where
  -- a chain's further operands, one of them too deep
  pub record OverPart (l : ℕ) (r : Bool) (i : List Terminal) : Type 0 where
    pub first : Placed ℕ
    pub head : PartHead f l r i first
    pub runs : (k : ℕ) → length i ≤ k → many (pat_part_turn self f l r) k first (tail i) ≡ deep

  pub part-over : {l : ℕ} {r : Bool} {i : List Terminal} {d : ℕ} → OpensPatPart f l r i d → n < d → OverPart l r i
  part-over {l} {r} (in_pat_part {t} {x} {m} {d} fit o) lt = record { first = x; head = fits-head m fit; runs = λ k le. go k le }
    where
      go : (k : ℕ) → suc (length m) ≤ k → many (pat_part_turn self f l r) k x m ≡ deep
      go zero le = absurd (omega arith)
      go (suc k) le = let h : self f (suc l) m ≡ deep = over f (suc l) m d o lt in many-stop (pat_part_turn self f l r) k (rw h refl)
  part-over {l} {r} (past_pat_part {t} {x} {m} {n = p} {b} {d} fit high db o) lt = record { first = x; head = fits-head m fit; runs = λ k le. go (part-over o lt) k le }
    where
      go : OverPart l r p → (k : ℕ) → suc (length m) ≤ k → many (pat_part_turn self f l r) k x m ≡ deep
      go w zero le = absurd (omega arith)
      go w (suc k) le =
          elim (le_or (depth_pat b) n) [
            | inl q ↦
                let sh = pat-shorter db in
                let h : self f (suc l) m ≡ read b p = complete f (suc l) m p b db q high (head-stops w.head (suc l) (omega arith)) in
                let e = part-next n self complete f x b w.head in
                many-deep (pat_part_turn self f l r) k {put = pat_part x b} (rw h e) (w.runs k (omega arith))
            | inr q ↦ let h : self f (suc l) m ≡ deep = too n self complete over f (suc l) m b p db high q in many-stop (pat_part_turn self f l r) k (rw h refl)
          ]

  -- the turns that tell so
  pub joint-over : (l : ℕ) (a : Pat) {k : ℕ} {r : Bool} {i : List Terminal} {x : Placed ℕ} → PartHead f k r i x → l ≤ k → k < pat_level f a → n < depth_pat a → pat_suffix_turn self n f l a i ≡ deep
  joint-over l a {x} w low high lt =
      let nx = w.next in let lv = w.level in
      let c1 : nat_le l (vid_level f (Named x.it)) ≡ true = le-leb l (vid_level f (Named x.it)) (omega arith) in
      let c2 : nat_le (suc (vid_level f (Named x.it))) (pat_level f a) ≡ true = le-leb (suc (vid_level f (Named x.it))) (pat_level f a) (omega arith) in
      let c3 : nat_le (depth_pat a) n ≡ false = lt-leb (depth_pat a) n lt in
      rw (nx, c1, c2, c3) refl

  pub parts-over : (l0 : ℕ) (a : Pat) {l : ℕ} {r : Bool} {i : List Terminal} → OverPart l r i → l0 ≤ l → l < pat_level f a → pat_suffix_turn self n f l0 a i ≡ deep
  parts-over l0 a {l} {r} {i} w low high =
      let x = w.first in let u = w.head in
      let nx = u.next in let lv = u.level in let sz = u.size in
      let c1 : nat_le l0 (vid_level f (Named x.it)) ≡ true = le-leb l0 (vid_level f (Named x.it)) (omega arith) in
      let c2 : nat_le (suc (vid_level f (Named x.it))) (pat_level f a) ≡ true = le-leb (suc (vid_level f (Named x.it))) (pat_level f a) (omega arith) in
      elim (le_or (depth_pat a) n) [
        | inl p ↦
            let c3 = le-leb (depth_pat a) n p in
            let k = suc (length (tail i)) in
            let q : whole_pat_parts self f x (tail i) ≡ deep =
            subst (λ (z : ℕ). many (pat_part_turn self f z (vid_right f (Named x.it))) k x (tail i) ≡ deep) (sym u.level)
            (subst (λ (z : Bool). many (pat_part_turn self f l z) k x (tail i) ≡ deep) (sym u.right) (w.runs k sz)) in
            rw (nx, c1, c2, c3, q) refl
        | inr p ↦ joint-over l0 a u low high p
      ]

  pub mark-over : (l : ℕ) (a : Pat) (p : ℕ) (m : List Terminal) → l ≤ 5 → 5 ≤ pat_level f a → n < depth_pat a → pat_suffix_turn self n f l a (reserved p res.Colon ∷ m) ≡ deep
  mark-over l a p m low five lt =
      let c1 = le-leb l 5 low in let c2 = le-leb 5 (pat_level f a) five in let c3 : nat_le (depth_pat a) n ≡ false = lt-leb (depth_pat a) n lt in rw (c1, c2, c3) refl

  pub type-over : (l : ℕ) (a : Pat) (p : ℕ) (m : List Terminal) {d : ℕ} → l ≤ 5 → 5 ≤ pat_level f a → OpensTy 0 m d → n < d → pat_suffix_turn self n f l a (reserved p res.Colon ∷ m) ≡ deep
  type-over l a p m low five o lt =
      elim (le_or (depth_pat a) n) [
        | inl q ↦
            let c1 = le-leb l 5 low in let c2 = le-leb 5 (pat_level f a) five in let c3 = le-leb (depth_pat a) n q in
            let h : read_ty n 0 m ≡ deep = ty-over n 0 o lt in
            rw (c1, c2, c3, h) refl
        | inr q ↦ mark-over l a p m low five q
      ]

module _ (n : ℕ) (self : PatReaders) (complete : CompletePat n self.pat) (complete_at : CompleteAtPat n self.atpat) (over : OverPat n self.pat) (over_at : OverAtPat n self.atpat) (f : Fixity) where
  abbrev IsDeep : ℕ → List Terminal → Type 0
  IsDeep l i = pat_form self n f l i ≡ deep

  abbrev Came : ℕ → List Terminal → Pat → List Terminal → Type 0
  Came l i a m = Reached n self complete complete_at f l i a m

  plain-deep : (l : ℕ) (i : List Terminal) → pat_form self n f l i ≡ plain_form self n f l i → pat_first self n f i ≡ deep → IsDeep l i
  plain-deep l i e h = e ∙ rw h refl

  atom-deep : (l : ℕ) (i : List Terminal) → binds_vid f i ≡ None → names_vid f i ≡ None → at_pat n self.pat f (pat_start f i) ≡ deep → IsDeep l i
  atom-deep l i eb en h = plain-deep l i (plain-unbound n self complete complete_at f l i eb) (rw (en, h) refl)

  atpat-deep : (l : ℕ) {i : List Terminal} {d : ℕ} → OpensAtPat f i d → suc n < d → IsDeep l i
  atpat-deep l (begun_atpat e) lt = absurd (omega arith)
  atpat-deep l (in_paren_pat {i} p o) lt = atom-deep l (reserved p res.LeftParen ∷ i) refl refl (at-over n self.pat complete over f (in_paren_pat p o) lt)
  atpat-deep l (in_tuple_pat {i} p q d o) lt = atom-deep l (reserved p res.LeftParen ∷ i) refl refl (at-over n self.pat complete over f (in_tuple_pat p q d o) lt)
  atpat-deep l (in_list_pat {i} p o) lt = atom-deep l (reserved p res.LeftBracket ∷ i) refl refl (at-over n self.pat complete over f (in_list_pat p o) lt)
  atpat-deep l (in_record_pat {i} p o) lt = atom-deep l (reserved p res.LeftBrace ∷ i) refl refl (at-over n self.pat complete over f (in_record_pat p o) lt)

  con-deep : (l : ℕ) {i m : List Terminal} {p : ℕ} {x : Placed LongVid} {d : ℕ} → NamesVid f i p x m → OpensAtPat f m d → n < d → IsDeep l i
  con-deep l {i} {m} {d} x o lt =
      let h = names-found x in
      let b = opens_atpat-begins o in
      let g : self.atpat f m ≡ deep = over_at f m d o lt in
      plain-deep l i (plain-named n self complete complete_at f l x (begins-no_word f res.As m (λ p o. refl) b) (begins-no_word f res.Colon m (λ p o. refl) b)) (rw (h, b, g) refl)

  -- what comes after a left operand
  after-left : (l : ℕ) (i m : List Terminal) (a : Pat) → Reaches n self complete complete_at f l i a m → pat_suffix_turn self.pat n f l a m ≡ deep → IsDeep l i
  after-left l i m a (zero, le, e) step = absurd (omega arith)
  after-left l i m a (suc k, le, e) step = e ∙ many-stop (pat_suffix_turn self.pat n f l) k step

  after-joint : (l : ℕ) {k : ℕ} {r : Bool} {i m : List Terminal} {x : Placed ℕ} (a : Pat) → Pattern f i a m → depth_pat a ≤ suc n → PartHead f k r m x → l ≤ k → k < pat_level f a → pat_suffix_turn self.pat n f l a m ≡ deep → IsDeep l i
  after-joint l {k} {i} {m} {x} a d le w low high step =
      let hi = level-high f (Named x.it) in let lv = w.level in
      after-left l i m a (settle n self complete complete_at f (reached n self complete complete_at f l d le (omega arith) (omega arith) w.no_pat (ends-joint f a k w high) (λ h. w.no_word res.As)) w.no_pat (λ h. w.no_word res.As) (λ h. w.no_word res.Colon)) step

  -- an identifier and `:`
  alone-mark : {i m : List Terminal} (q : ℕ) {p : ℕ} {v : Placed Vid} → BindsVid f i p v (reserved q res.Colon ∷ m) → n < 1 → IsDeep 0 i
  alone-mark q b lt = let h = binds-found b in let c : nat_le 1 n ≡ false = lt-leb 1 n lt in rw (h, c) refl

  alone-type : {i m : List Terminal} (q : ℕ) {p : ℕ} {v : Placed Vid} {d : ℕ} → BindsVid f i p v (reserved q res.Colon ∷ m) → OpensTy 0 m d → n < d → IsDeep 0 i
  alone-type {m} q b o lt = elim (le_or 1 n) [
    | inl p ↦ let h = binds-found b in let c = le-leb 1 n p in let t : read_ty n 0 m ≡ deep = ty-over n 0 o lt in rw (h, c, t) refl
    | inr p ↦ alone-mark q b p
  ]

  came-mark : {l : ℕ} {i m : List Terminal} {a : Pat} (q : ℕ) → Came l i a (reserved q res.Colon ∷ m) → l ≤ 5 → 5 ≤ pat_level f a → n < depth_pat a → IsDeep l i
  came-mark q (alone b) low five lt = alone-mark q b lt
  came-mark {l} {i} {m} {a} q (along r) low five lt = after-left l i (reserved q res.Colon ∷ m) a r (mark-over n self.pat complete over f l a q m low five lt)

  came-type : {l : ℕ} {i m : List Terminal} {a : Pat} {d : ℕ} (q : ℕ) → Came l i a (reserved q res.Colon ∷ m) → l ≤ 5 → 5 ≤ pat_level f a → OpensTy 0 m d → n < d → IsDeep l i
  came-type q (alone b) low five o lt = alone-type q b o lt
  came-type {l} {i} {m} {a} q (along r) low five o lt = after-left l i (reserved q res.Colon ∷ m) a r (type-over n self.pat complete over f l a q m low five o lt)

  before-mark : (l : ℕ) {i m : List Terminal} {a : Pat} (q : ℕ) → Pattern f i a (reserved q res.Colon ∷ m) → depth_pat a ≤ suc n → l ≤ 5 → 5 ≤ pat_level f a → Came l i a (reserved q res.Colon ∷ m)
  before-mark l {m} {a} q d le low five = reached n self complete complete_at f l d le (omega arith) five refl (ends-mark f a q m) (λ h. refl)

  -- `as` and a pattern that is too deep, or a type before it that is
  as-deep : {i m k : List Terminal} {p : ℕ} {v : Placed Vid} {s : Option Ty} (q : ℕ) → BindsVid f i p v m → MaybeTy m s (reserved q res.As ∷ k) → depth_some s ≤ n → self.pat f 0 k ≡ deep → IsDeep 0 i
  as-deep q b without_ty ls g = let h = binds-found b in rw (h, g) refl
  as-deep {k} q b (with_ty {i = m} {a = s} p t) ls g =
      let h = binds-found b in
      let pos = ty-pos s in
      let c : nat_le 1 n ≡ true = le-leb 1 n (omega arith) in
      let j : read_ty n 0 m ≡ read s (reserved q res.As ∷ k) = ty-complete n 0 t ls (omega arith) refl in
      rw (h, c, j, g) refl

  as-type : {i m k : List Terminal} {p : ℕ} {v : Placed Vid} {s : Option Ty} → BindsVid f i p v m → MaybeTy m s k → n < depth_some s → IsDeep 0 i
  as-type b without_ty lt = absurd (omega arith)
  as-type b (with_ty {a = s} q t) lt = alone-type q b (ty-opens t (omega arith) (depth_ty s) (omega arith) (omega arith)) lt

  as-over : (l : ℕ) {i m k : List Terminal} {p : ℕ} {v : Placed Vid} {s : Option Ty} (q : ℕ) → l ≤ 0 → BindsVid f i p v m → MaybeTy m s (reserved q res.As ∷ k) → self.pat f 0 k ≡ deep → IsDeep l i
  as-over (suc l) q low b t g = absurd (omega arith)
  as-over zero {s} q low b t g = elim (le_or (depth_some s) n) [ inl p ↦ as-deep q b t p g | inr p ↦ as-type b t p ]

  -- a whole pattern that is too deep
  pattern-deep : (l : ℕ) {i o : List Terminal} {a : Pat} → Pattern f i a o → l ≤ pat_level f a → suc n < depth_pat a → IsDeep l i
  pattern-deep l {a} (of_atpat d) high lt = atpat-deep l (atpat-opens d (depth_pat a) (omega arith) (omega arith)) lt
  pattern-deep l (of_con_pat {a} x d) high lt = con-deep l x (atpat-opens d (depth_pat a) (omega arith) (omega arith)) (omega arith)
  pattern-deep l (of_chain_pat {i} {m} {a} {ps} l' r high' d fs) high lt =
      let w = part-head fs in
      let low : l ≤ l' = subst (λ (z : ℕ). l ≤ z) (follows-level fs) high in
      elim (le_or (depth_pat a) (suc n)) [
        | inl p ↦ elim (le_or (depth_pat a) n) [
          | inl q ↦
              let u = part-over n self.pat complete over f (follows-opens fs (depth_pat_parts ps) (omega arith) (omega arith)) (omega arith) in
              after-joint l a d p w low high' (parts-over n self.pat complete over f l a u low high')
          | inr q ↦ after-joint l a d p w low high' (joint-over n self.pat complete over f l a w low high' q)
        ]
        | inr p ↦ pattern-deep l d (omega arith) p
      ]
  pattern-deep l (of_typed_pat {i} {m} {a} {s} q five d t) high lt =
      elim (le_or (depth_pat a) (suc n)) [
        | inl p ↦
            let c = before-mark l q d p high five in
            elim (le_or (depth_pat a) n) [
              | inl x ↦ came-type q c high five (ty-opens t (omega arith) (depth_ty s) (omega arith) (omega arith)) (omega arith)
              | inr x ↦ came-mark q c high five x
            ]
        | inr p ↦ pattern-deep l d (omega arith) p
      ]
  pattern-deep (suc l) (of_as_pat q b t d) high lt = absurd (omega arith)
  pattern-deep zero (of_as_pat {n = k} {o} {s} {a} q b t d) high lt =
      elim (le_or (depth_some s) n) [
        | inl p ↦ as-deep q b t p (too n self.pat complete over f 0 k a o d (omega arith) (omega arith))
        | inr p ↦ as-type b t p
      ]

  pub opens-deep : {l : ℕ} {i : List Terminal} {d : ℕ} → OpensPat f l i d → suc n < d → IsDeep l i
  opens-deep (begun_pat e) lt = absurd (omega arith)
  opens-deep {l} (in_atpat o) lt = atpat-deep l o lt
  opens-deep {l} (in_con_pat x o) lt = con-deep l x o (omega arith)
  opens-deep {l} (joined_pat {m} {a} low high d fit h) lt =
      let w = fits-head m fit in
      elim (le_or (depth_pat a) (suc n)) [
        | inl p ↦ after-joint l a d p w low high (joint-over n self.pat complete over f l a w low high (omega arith))
        | inr p ↦ pattern-deep l d (omega arith) p
      ]
  opens-deep {l} (in_pat_chain {a} low high d o) lt =
      let u = part-over n self.pat complete over f o (omega arith) in
      elim (le_or (depth_pat a) (suc n)) [
        | inl p ↦ after-joint l a d p u.head low high (parts-over n self.pat complete over f l a u low high)
        | inr p ↦ pattern-deep l d (omega arith) p
      ]
  opens-deep {l} (marked_pat {a} q low five d h) lt =
      elim (le_or (depth_pat a) (suc n)) [
        | inl p ↦ came-mark q (before-mark l q d p low five) low five (omega arith)
        | inr p ↦ pattern-deep l d (omega arith) p
      ]
  opens-deep {l} (in_pat_ty {a} q low five d o) lt =
      elim (le_or (depth_pat a) (suc n)) [
        | inl p ↦ came-type q (before-mark l q d p low five) low five o (omega arith)
        | inr p ↦ pattern-deep l d (omega arith) p
      ]
  opens-deep {l} (in_as {n = k} {d} q low b t o) lt = as-over l q low b t (over f 0 k d o (omega arith))

mutual
  unfolding read_pats

  pub pats-over : (n : ℕ) → OverPat n (read_pats n).pat
  pats-over zero f l i d o lt = let b = opens_pat-begins o in rw b refl
  pats-over (suc n) f l i d o lt = opens-deep n (read_pats n) (pat-reads n) (atpat-reads n) (pats-over n) (atpats-over n) f o lt

  pub atpats-over : (n : ℕ) → OverAtPat n (read_pats n).atpat
  atpats-over zero f i d o lt = let b = opens_atpat-begins o in rw b refl
  atpats-over (suc n) f i d o lt = at-over n (read_pats n).pat (pat-reads n) (pats-over n) f o lt

pub pat-over : (n : ℕ) (f : Fixity) (l : ℕ) {i : List Terminal} {d : ℕ} → OpensPat f l i d → n < d → (read_pats n).pat f l i ≡ deep
pat-over n f l {i} {d} o lt = pats-over n f l i d o lt

pub atpat-over : (n : ℕ) (f : Fixity) {i : List Terminal} {d : ℕ} → OpensAtPat f i d → n < d → (read_pats n).atpat f i ≡ deep
atpat-over n f {i} {d} o lt = atpats-over n f i d o lt
