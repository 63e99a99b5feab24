-- Patterns that are in the grammar and not too deep are read.
use Rattle.std.proofs.Common.{◌≡◌, ℕ, zero, suc, ◌≤◌, ◌<◌, List, ◌∷◌, length, Option, Some, None, Bool, true, false, inl, inr, refl, sym, ap, ◌∙◌, subst, arith, nat_le, nat_eq}
use Rattle.std.proofs.lemmas.Bool.{leb-false, le-leb, lt-leb, eq-eqb, ne_eqb}
use Rattle.mlc_names.specs.declared.token.Reserved.{Reserved}
use Rattle.mlc_names.specs.declared.token.Reserved.TheVariants as res
use Rattle.sml_tree.specs.declared.ident.Vid.{Vid}
use Rattle.sml_tree.specs.declared.ident.Vid.TheVariants.{Named}
use Rattle.sml_tree.specs.Fixity.{Fixity}
use Rattle.sml_tree.specs.Terminal.{LongVid, Terminal, reserved, IsQualifiedVid, long_alpha_vid, long_symbol_vid, long_star_vid, any_short, any_long}
use Rattle.sml_tree.specs.ReadTree.{Placed, Ty, Pat, vid_pat, con_pat, chain_pat, typed_pat, as_pat, PatParts, last_pat_part, pat_part}
use Rattle.sml_tree.specs.Depth.{depth_ty, depth_some, depth_pat, depth_pat_parts}
use Rattle.sml_tree.specs.Levels.{vid_level, vid_right, pat_level}
use Rattle.sml_tree.specs.Grammar.{ReadsTy, MaybeTy, without_ty, with_ty, BindsVid, op_vid, NamesVid, plain_long, qualified, op_long, IsInfixVid, PatFits, AtPat, of_wild, of_pat_constant, of_pat_vid, of_no_pat_row, of_pat_row, of_unit_pat, of_tuple_pat, of_nil_pat, of_list_pat, of_paren_pat, PatRow, row_dots, last_row, more_row, Field, of_labelled, of_punned, of_punned_as, PatCommas, last_pat, more_pats, Pattern, of_atpat, of_con_pat, of_chain_pat, of_typed_pat, of_as_pat, PatFollows, of_last_pat_part, of_pat_part, AtPats, no_atpats, more_atpats, ReadsHead, of_prefix_head, of_infix_head, of_bracket_head}
use Rattle.sml_tree.specs.Grammar as grammar
use Rattle.sml_grammar.specs.Answer.{read, last, more, many}
use Rattle.sml_grammar.specs.Terminals.{Taken, after_word, tail, on_taken, infix_vid, binds_vid, names_vid}
use Rattle.sml_grammar.specs.Types.{read_ty, ty_could_go_on}
use Rattle.sml_grammar.specs.Patterns.{short_at, pat_start, begins_pat, PatReader, PatReaders, at_pat, same, pat_part_next, pat_part_turn, whole_pat_parts, pat_suffix_mark, pat_suffix_joint, pat_suffix_turn, pat_first, plain_form, pat_form, read_pats, read_pat}
use Rattle.sml_grammar.proofs.Answers.{not_none, many-last, many-more, many-pass, le_or}
use Rattle.sml_grammar.proofs.Words.{AfterWord, found, absent, after-is}
use Rattle.sml_grammar.proofs.Vids.{binds-found, binds-place, names-found, names-place, constant-no_names, constant-no_binds}
use Rattle.sml_grammar.proofs.TypeShapes.{ty-shorter, ty-pos}
use Rattle.sml_grammar.proofs.TypeComplete.{ty-complete}
use Rattle.sml_grammar.proofs.PatStarts.{begins-no_word, infix_ties, PatStops, ends_pat, pat-stops-word, stops-higher}
use Rattle.sml_grammar.proofs.PatShapes.{pat-shorter, follows-shorter, pat-pos, binds-names, atpat-high, atpat-begins, first_vid, PartHead, part-head, follows-level, head-stops, parts-high, pat_goes_on, ends-mark, ends-joint, ends-stop}
use Rattle.sml_grammar.proofs.PatAtComplete.{CompletePat, CompleteAtPat, at-complete}

same-self : (a : Bool) → same a a ≡ true
same-self true = refl
same-self false = refl

module _ (n : ℕ) (self : PatReader) (complete : CompletePat n self) (f : Fixity) where
  -- the last operand of a chain
  last-next : (l : ℕ) (r : Bool) (x : Placed ℕ) (b : Pat) (o : List Terminal) → infix_ties f l o ≡ false → pat_part_next f l r x b o (infix_vid f o) ≡ read (last (last_pat_part x b)) o
  last-next l r x b o e = go (infix_vid f o) e
    where
      go : (v : Option (Taken (Placed ℕ))) → on_taken v (λ y m. nat_le l (vid_level f (Named y.it))) false ≡ false → pat_part_next f l r x b o v ≡ read (last (last_pat_part x b)) o
      go None e = refl
      go (Some y) e =
          let lt = leb-false l (vid_level f (Named y.it.it)) e in
          let ne : nat_eq (vid_level f (Named y.it.it)) l ≡ false = ne_eqb (vid_level f (Named y.it.it)) l (λ (q : vid_level f (Named y.it.it) ≡ l). omega arith) in
          rw ne refl

  pub part-next : {l : ℕ} {r : Bool} {o : List Terminal} {y : Placed ℕ} (x : Placed ℕ) (b : Pat) → PartHead f l r o y → pat_part_next f l r x b o (infix_vid f o) ≡ read (more (pat_part x b) y) (tail o)
  part-next {l} {r} {y} x b w =
      let nx = w.next in
      let ne : nat_eq (vid_level f (Named y.it)) l ≡ true = eq-eqb (vid_level f (Named y.it)) l w.level in
      let sa : same (vid_right f (Named y.it)) r ≡ true = ap (λ (z : Bool). same z r) w.right ∙ same-self r in
      rw (nx, ne, sa) refl

  pub parts-complete : {l : ℕ} {r : Bool} {i o : List Terminal} {ps : PatParts} → PatFollows f l r i ps o → depth_pat_parts ps ≤ n → PatStops f l o → (k : ℕ) → length i ≤ k →
      many (pat_part_turn self f l r) k (first_vid ps) (tail i) ≡ read ps o
  parts-complete d le s zero lt = let h = follows-shorter d in absurd (omega arith)
  parts-complete {l} {r} (of_last_pat_part {m} {o} {x} {b} fit high d) le s (suc k) lt =
      let h : self f (suc l) m ≡ read b o = complete f (suc l) m o b d le high (stops-higher (omega arith) s) in
      let e = last-next l r x b o s.no_infix in
      many-last (pat_part_turn self f l r) k (rw h e)
  parts-complete {l} {r} (of_pat_part {m} {n = p} {o} {x} {b} {ps} fit high d fs) le s (suc k) lt =
      let w = part-head fs in
      let h : self f (suc l) m ≡ read b p = complete f (suc l) m p b d (omega arith) high (head-stops w (suc l) (omega arith)) in
      let e = part-next x b w in
      let sh = pat-shorter d in
      many-more (pat_part_turn self f l r) k {put = pat_part x b} (rw h e) (parts-complete fs (omega arith) s k (omega arith))

  parts-whole : {l : ℕ} {r : Bool} {i o : List Terminal} {ps : PatParts} → PatFollows f l r i ps o → depth_pat_parts ps ≤ n → PatStops f l o → whole_pat_parts self f (first_vid ps) (tail i) ≡ read ps o
  parts-whole {l} {r} {i} {o} {ps} d le s =
      let w = part-head d in let sz = w.size in
      let x = first_vid ps in let k = suc (length (tail i)) in
      let q : many (pat_part_turn self f l r) k x (tail i) ≡ read ps o = parts-complete d le s k sz in
      subst (λ (z : ℕ). many (pat_part_turn self f z (vid_right f (Named x.it))) k x (tail i) ≡ read ps o) (sym w.level)
      (subst (λ (z : Bool). many (pat_part_turn self f l z) k x (tail i) ≡ read ps o) (sym w.right) q)

  -- the turns after a pattern
  pub stop-step : {l : ℕ} {o : List Terminal} (a : Pat) → PatStops f l o → pat_suffix_turn self n f l a o ≡ read (last a) o
  stop-step {l} {o} a s = go (infix_vid f o) s.no_infix
    where
      mark : {m : List Terminal} {v : Option (List Terminal)} → AfterWord res.Colon m v → (l ≤ 5 → v ≡ None) → pat_suffix_mark n f l a m v ≡ read (last a) m
      mark (found p) h = elim (le_or l 5) [ inl q ↦ not_none (h q) | inr q ↦ let e : nat_le l 5 ≡ false = lt-leb l 5 q in rw e refl ]
      mark (absent e) h = refl

      go : (v : Option (Taken (Placed ℕ))) → on_taken v (λ x m. nat_le l (vid_level f (Named x.it))) false ≡ false →
          on_taken v (pat_suffix_joint self n f l a o) (pat_suffix_mark n f l a o (after_word res.Colon o)) ≡ read (last a) o
      go None e = mark (after-is res.Colon o) s.no_mark
      go (Some x) e = rw e refl

  pub chain-step : (l0 : ℕ) (a : Pat) {l : ℕ} {r : Bool} {i o : List Terminal} {ps : PatParts} → PatFollows f l r i ps o → l0 ≤ l → l < pat_level f a → depth_pat a ≤ n → depth_pat_parts ps ≤ n → PatStops f l o →
      pat_suffix_turn self n f l0 a i ≡ read (more (λ b. b) (chain_pat r a ps)) o
  chain-step l0 a {l} {r} {i} {o} {ps} d low high la lp s =
      let w = part-head d in let nx = w.next in let lv = w.level in let rt = w.right in
      let x = first_vid ps in
      let q : whole_pat_parts self f x (tail i) ≡ read ps o = parts-whole d lp s in
      let c1 : nat_le l0 (vid_level f (Named x.it)) ≡ true = le-leb l0 (vid_level f (Named x.it)) (omega arith) in
      let c2 : nat_le (suc (vid_level f (Named x.it))) (pat_level f a) ≡ true = le-leb (suc (vid_level f (Named x.it))) (pat_level f a) (omega arith) in
      let c3 = le-leb (depth_pat a) n la in
      rw (nx, c1, c2, c3, q, rt) refl

  pub mark-step : (l : ℕ) (a : Pat) (p : ℕ) {m o : List Terminal} {s : Ty} → l ≤ 5 → 5 ≤ pat_level f a → depth_pat a ≤ n → ReadsTy m s o → depth_ty s ≤ n → ty_could_go_on 0 o ≡ false →
      pat_suffix_turn self n f l a (reserved p res.Colon ∷ m) ≡ read (more (λ b. b) (typed_pat a s)) o
  mark-step l a p {m} {o} {s} low five la d ls g =
      let h : read_ty n 0 m ≡ read s o = ty-complete n 0 d ls (omega arith) g in
      let c1 = le-leb l 5 low in let c2 = le-leb 5 (pat_level f a) five in let c3 = le-leb (depth_pat a) n la in
      rw (c1, c2, c3, h) refl

module _ (n : ℕ) (self : PatReaders) (complete : CompletePat n self.pat) (complete_at : CompleteAtPat n self.atpat) (f : Fixity) where
  -- The function has come as far as to look for what follows the pattern a.
  abbrev pub Reaches : ℕ → List Terminal → Pat → List Terminal → Type 0
  Reaches l i a m = (k : ℕ) × (length m < k) × (pat_form self n f l i ≡ many (pat_suffix_turn self.pat n f l) k a m)

  -- At level 0 an identifier alone waits for what follows it.
  pub data Reached : ℕ → List Terminal → Pat → List Terminal → Type 0 where
    alone : {i m : List Terminal} {p : ℕ} {v : Placed Vid} → BindsVid f i p v m → Reached 0 i (vid_pat p (short_at v)) m
    along : {l : ℕ} {i m : List Terminal} {a : Pat} → Reaches l i a m → Reached l i a m

  pub plain-unbound : (l : ℕ) (i : List Terminal) → binds_vid f i ≡ None → pat_form self n f l i ≡ plain_form self n f l i
  plain-unbound zero i e = rw e refl
  plain-unbound (suc l) i e = refl

  pub plain-bound : (l : ℕ) {i m : List Terminal} {p : ℕ} {v : Placed Vid} → BindsVid f i p v m → after_word res.As m ≡ None → after_word res.Colon m ≡ None → pat_form self n f l i ≡ plain_form self n f l i
  plain-bound zero b ea ec = let h = binds-found b in rw (h, ea, ec) refl
  plain-bound (suc l) b ea ec = refl

  qualified-unbound : {t : Terminal} {p : ℕ} {x : LongVid} (o : List Terminal) → IsQualifiedVid t p x → binds_vid f (t ∷ o) ≡ None
  qualified-unbound o (long_alpha_vid p qs x) = refl
  qualified-unbound o (long_symbol_vid p qs x) = refl
  qualified-unbound o (long_star_vid p qs x) = refl

  op-unbound : {t : Terminal} {p : ℕ} {x : LongVid} (q : ℕ) (o : List Terminal) → IsQualifiedVid t p x → binds_vid f (reserved q res.Op ∷ t ∷ o) ≡ None
  op-unbound q o (long_alpha_vid p qs x) = refl
  op-unbound q o (long_symbol_vid p qs x) = refl
  op-unbound q o (long_star_vid p qs x) = refl

  pub plain-named : (l : ℕ) {i m : List Terminal} {p : ℕ} {x : Placed LongVid} → NamesVid f i p x m → after_word res.As m ≡ None → after_word res.Colon m ≡ None → pat_form self n f l i ≡ plain_form self n f l i
  plain-named l (plain_long v e) ea ec = plain-bound l (grammar.plain_vid v e) ea ec
  plain-named l {i} (qualified {o} v) ea ec = plain-unbound l i (qualified-unbound o v)
  plain-named l (op_long p (any_short a)) ea ec = plain-bound l (op_vid p a) ea ec
  plain-named l {i} (op_long {o} p (any_long v)) ea ec = plain-unbound l i (op-unbound p o v)

  plain-reaches : (l : ℕ) (i : List Terminal) (a : Pat) (m : List Terminal) → pat_form self n f l i ≡ plain_form self n f l i → pat_first self n f i ≡ read a m → Reaches l i a m
  plain-reaches l i a m e h = (suc (length m), omega arith, e ∙ rw h refl)

  -- an identifier, where no argument follows it
  first-vid : {i m : List Terminal} {p : ℕ} {x : Placed LongVid} → NamesVid f i p x m → begins_pat f m ≡ false → pat_first self n f i ≡ read (vid_pat p x) m
  first-vid x b = let h = names-found x in let e = names-place x in rw (h, e, b) refl

  pub first-atom : (i : List Terminal) {m : List Terminal} {a : Pat} → names_vid f i ≡ None → at_pat n self.pat f (pat_start f i) ≡ read a m → pat_first self n f i ≡ read a m
  first-atom i e h = rw (e, h) refl

  first-con : {i m o : List Terminal} {p : ℕ} {x : Placed LongVid} {a : Pat} → NamesVid f i p x m → AtPat f m a o → depth_pat a ≤ n → pat_first self n f i ≡ read (con_pat p x a) o
  first-con {m} {o} {a} x d le =
      let h = names-found x in let e = names-place x in
      let b = atpat-begins d in
      let g : self.atpat f m ≡ read a o = complete_at f m o a d le in
      rw (h, e, b, g) refl

  pub settle : {l : ℕ} {i m : List Terminal} {a : Pat} → Reached l i a m → begins_pat f m ≡ false → (l ≤ 0 → after_word res.As m ≡ None) → (l ≤ 0 → after_word res.Colon m ≡ None) → Reaches l i a m
  settle (along r) b ea ec = r
  settle {i} {m} {a} (alone v) b ea ec = plain-reaches 0 i a m (plain-bound 0 v (ea (omega arith)) (ec (omega arith))) (first-vid (binds-names v) b)

  -- one turn more
  reaches-more : (l : ℕ) (i : List Terminal) (a b : Pat) (m o : List Terminal) → length o < length m → pat_suffix_turn self.pat n f l a m ≡ read (more (λ b. b) b) o → Reaches l i a m → Reaches l i b o
  reaches-more l i a b m o lt step (zero, le, e) = absurd (omega arith)
  reaches-more l i a b m o lt step (suc k, le, e) = (k, omega arith, e ∙ many-pass (pat_suffix_turn self.pat n f l) k step)

  at-reached : (l : ℕ) {i o : List Terminal} {a : Pat} → binds_vid f i ≡ None → names_vid f i ≡ None → AtPat f i a o → depth_pat a ≤ suc n → Reached l i a o
  at-reached l {i} {o} {a} eb en d le = along (plain-reaches l i a o (plain-unbound l i eb) (first-atom i en (at-complete n self.pat complete f d le)))

  vid-reached : (l : ℕ) {i o : List Terminal} {p : ℕ} {x : Placed LongVid} → NamesVid f i p x o → begins_pat f o ≡ false → Reached l i (vid_pat p x) o
  vid-reached (suc l) {i} {o} {p} {x} d b = along (plain-reaches (suc l) i (vid_pat p x) o refl (first-vid d b))
  vid-reached zero (plain_long v e) b = alone (grammar.plain_vid v e)
  vid-reached zero {i} {o} {p} {x} (qualified v) b = along (plain-reaches 0 i (vid_pat p x) o (plain-unbound 0 i (qualified-unbound o v)) (first-vid (qualified v) b))
  vid-reached zero (op_long p (any_short a)) b = alone (op_vid p a)
  vid-reached zero {i} {o} {x} (op_long p (any_long v)) b = along (plain-reaches 0 i (vid_pat p x) o (plain-unbound 0 i (op-unbound p o v)) (first-vid (op_long p (any_long v)) b))

  atpat-reached : (l : ℕ) {i o : List Terminal} {a : Pat} → AtPat f i a o → depth_pat a ≤ suc n → begins_pat f o ≡ false → Reached l i a o
  atpat-reached l (of_wild p) le b = at-reached l refl refl (of_wild p) le
  atpat-reached l (of_pat_constant {o} c) le b = at-reached l (constant-no_binds f c o) (constant-no_names f c o) (of_pat_constant c) le
  atpat-reached l (of_pat_vid x) le b = vid-reached l x b
  atpat-reached l (of_no_pat_row p q) le b = at-reached l refl refl (of_no_pat_row p q) le
  atpat-reached l (of_pat_row p q r) le b = at-reached l refl refl (of_pat_row p q r) le
  atpat-reached l (of_unit_pat p q) le b = at-reached l refl refl (of_unit_pat p q) le
  atpat-reached l (of_tuple_pat p q r d ds) le b = at-reached l refl refl (of_tuple_pat p q r d ds) le
  atpat-reached l (of_nil_pat p q) le b = at-reached l refl refl (of_nil_pat p q) le
  atpat-reached l (of_list_pat p q ds) le b = at-reached l refl refl (of_list_pat p q ds) le
  atpat-reached l (of_paren_pat p q d) le b = at-reached l refl refl (of_paren_pat p q d) le

  con-reaches : (l : ℕ) {i m o : List Terminal} {p : ℕ} {x : Placed LongVid} {a : Pat} → NamesVid f i p x m → AtPat f m a o → depth_pat a ≤ n → Reaches l i (con_pat p x a) o
  con-reaches l {i} {m} {o} {p} {x} {a} d da le =
      let b = atpat-begins da in
      plain-reaches l i (con_pat p x a) o (plain-named l d (begins-no_word f res.As m (λ p o. refl) b) (begins-no_word f res.Colon m (λ p o. refl) b)) (first-con d da le)

  -- a type after what was reached
  typed-reaches : {l : ℕ} (p : ℕ) {i m o : List Terminal} {a : Pat} {s : Ty} → Reached l i a (reserved p res.Colon ∷ m) → l ≤ 5 → 5 ≤ pat_level f a → depth_pat a ≤ n → ReadsTy m s o → depth_ty s ≤ n →
      ty_could_go_on 0 o ≡ false → (l ≤ 0 → after_word res.As o ≡ None) → Reaches l i (typed_pat a s) o
  typed-reaches {l} p {i} {m} {o} {a} {s} (along r) low five la d ls g ea =
      let sh = ty-shorter d in
      reaches-more l i a (typed_pat a s) (reserved p res.Colon ∷ m) o (omega arith) (mark-step n self.pat complete f l a p low five la d ls g) r
  typed-reaches p {i} {m} {o} {a} {s} (alone {v} b) low five la d ls g ea =
      let h = binds-found b in let e = binds-place b in
      let t : read_ty n 0 m ≡ read s o = ty-complete n 0 d ls (omega arith) g in
      let c : nat_le 1 n ≡ true = le-leb 1 n la in
      let na : after_word res.As o ≡ None = ea (omega arith) in
      (suc (length o), omega arith, rw (h, e, c, t, na) refl)

  pub reached : (l : ℕ) {i o : List Terminal} {a : Pat} → Pattern f i a o → depth_pat a ≤ suc n → l ≤ pat_level f a → 5 ≤ pat_level f a → begins_pat f o ≡ false → pat_goes_on f a o ≡ false → (l ≤ 0 → after_word res.As o ≡ None) → Reached l i a o
  reached l (of_atpat d) le high five b ends ea = atpat-reached l d le b
  reached l (of_con_pat x d) le high five b ends ea = along (con-reaches l x d (omega arith))
  reached l (of_chain_pat {i} {m} {o} {a} {ps} l' r lt d fs) le high five b ends ea =
      let w = part-head fs in
      let lv = follows-level fs in
      let hi = parts-high f ps in
      let st : PatStops f l' o = record {
        no_pat = b;
        no_infix = subst (λ (z : ℕ). infix_ties f z o ≡ false) lv ends;
        no_mark = λ (h : l' ≤ 5). absurd (omega arith);
        no_as = λ (h : l' ≤ 0). absurd (omega arith);
        no_ty = λ (h : l' ≤ 5). absurd (omega arith);
      } in
      let low : l ≤ l' = subst (λ (z : ℕ). l ≤ z) lv high in
      let sh = follows-shorter fs in
      let left = settle (reached l d (omega arith) (omega arith) (omega arith) w.no_pat (ends-joint f a l' w lt) (λ h. w.no_word res.As)) w.no_pat (λ h. w.no_word res.As) (λ h. w.no_word res.Colon) in
      along (reaches-more l i a (chain_pat r a ps) m o sh (chain-step n self.pat complete f l a fs low lt (omega arith) (omega arith) st) left)
  reached l (of_typed_pat {i} {m} {o} {a} {s} p five' d ty) le high five b ends ea =
      along (typed-reaches p (reached l d (omega arith) (omega arith) five' refl (ends-mark f a p m) (λ h. refl)) high five' (omega arith) ty (omega arith) ends ea)
  reached l (of_as_pat q v s d) le high five b ends ea = absurd (omega arith)

  pub ends-here : {l : ℕ} {i o : List Terminal} (a : Pat) → PatStops f l o → Reached l i a o → pat_form self n f l i ≡ read a o
  ends-here {l} {i} {o} a s r = go (settle r s.no_pat s.no_as (λ (h : l ≤ 0). s.no_mark (omega arith)))
    where
      go : Reaches l i a o → pat_form self n f l i ≡ read a o
      go (zero, le, e) = absurd (omega arith)
      go (suc k, le, e) = e ∙ many-last (pat_suffix_turn self.pat n f l) k (stop-step n self.pat complete f a s)

  as-complete : {i m k o : List Terminal} {p : ℕ} {v : Placed Vid} {s : Option Ty} {a : Pat} (q : ℕ) → BindsVid f i p v m → MaybeTy m s (reserved q res.As ∷ k) → Pattern f k a o → depth_some s ≤ n → depth_pat a ≤ n → PatStops f 0 o →
      pat_form self n f 0 i ≡ read (as_pat p v s a) o
  as-complete {k} {o} {a} q b without_ty d ls le st =
      let h = binds-found b in let e = binds-place b in
      let g : self.pat f 0 k ≡ read a o = complete f 0 k o a d le (omega arith) st in
      rw (h, e, g) refl
  as-complete {k} {o} {a} q b (with_ty {i = m} {a = s} p t) d ls le st =
      let h = binds-found b in let e = binds-place b in
      let pos = ty-pos s in
      let c : nat_le 1 n ≡ true = le-leb 1 n (omega arith) in
      let j : read_ty n 0 m ≡ read s (reserved q res.As ∷ k) = ty-complete n 0 t ls (omega arith) refl in
      let g : self.pat f 0 k ≡ read a o = complete f 0 k o a d le (omega arith) st in
      rw (h, e, c, j, g) refl

  pub form-complete : (l : ℕ) {i o : List Terminal} {a : Pat} → Pattern f i a o → depth_pat a ≤ suc n → l ≤ pat_level f a → PatStops f l o → pat_form self n f l i ≡ read a o
  form-complete zero (of_as_pat q b s d) le high st = as-complete q b s d (omega arith) (omega arith) st
  form-complete (suc l) (of_as_pat q b s d) le high st = absurd (omega arith)
  form-complete l {a} (of_atpat d) le high st = let hi = atpat-high d in ends-here a st (reached l (of_atpat d) le high (omega arith) st.no_pat (ends-stop a st high) st.no_as)
  form-complete l {a} (of_con_pat x d) le high st = ends-here a st (reached l (of_con_pat x d) le high (omega arith) st.no_pat (ends-stop a st high) st.no_as)
  form-complete l {a} (of_chain_pat {ps} k r lt d fs) le high st = let hi = parts-high f ps in ends-here a st (reached l (of_chain_pat k r lt d fs) le high (omega arith) st.no_pat (ends-stop a st high) st.no_as)
  form-complete l {a} (of_typed_pat p five d t) le high st = ends-here a st (reached l (of_typed_pat p five d t) le high (omega arith) st.no_pat (ends-stop a st high) st.no_as)

mutual
  unfolding read_pats

  pub pat-reads : (n : ℕ) → CompletePat n (read_pats n).pat
  pat-reads zero f l i o a d le high st = let h = pat-pos a in absurd (omega arith)
  pat-reads (suc n) f l i o a d le high st = form-complete n (read_pats n) (pat-reads n) (atpat-reads n) f l d le high st

  pub atpat-reads : (n : ℕ) → CompleteAtPat n (read_pats n).atpat
  atpat-reads zero f i o a d le = let h = pat-pos a in absurd (omega arith)
  atpat-reads (suc n) f i o a d le = at-complete n (read_pats n).pat (pat-reads n) f d le

pub pat-complete : (n : ℕ) (f : Fixity) (l : ℕ) {i o : List Terminal} {a : Pat} → Pattern f i a o → depth_pat a ≤ n → l ≤ pat_level f a → PatStops f l o → (read_pats n).pat f l i ≡ read a o
pat-complete n f l {i} {o} {a} d le high st = pat-reads n f l i o a d le high st

pub atpat-complete : (n : ℕ) (f : Fixity) {i o : List Terminal} {a : Pat} → AtPat f i a o → depth_pat a ≤ n → (read_pats n).atpat f i ≡ read a o
atpat-complete n f {i} {o} {a} d le = atpat-reads n f i o a d le
