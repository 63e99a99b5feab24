-- Atomic patterns, and the lists in them, that are in the grammar and not too deep are read.
use Rattle.std.proofs.Common.{◌≡◌, ℕ, zero, suc, ◌≤◌, ◌<◌, List, ◌∷◌, length, Option, Some, None, Bool, true, false, refl, arith}
use Rattle.mlc_names.specs.declared.label.Label.{Label}
use Rattle.mlc_names.specs.declared.token.Reserved.{Reserved}
use Rattle.mlc_names.specs.declared.token.Reserved.TheVariants as res
use Rattle.sml_tree.specs.Fixity.{Fixity}
use Rattle.sml_tree.specs.Terminal.{Terminal, reserved, IsVid, IsLabel, word_label}
use Rattle.sml_tree.specs.ReadTree.{Ty, Pat, Pats, pat, PatFields, PatField}
use Rattle.sml_tree.specs.Depth.{depth_some, depth_pat, depth_pats, depth_pat_fields, depth_pat_field}
use Rattle.sml_tree.specs.Levels.{pat_level}
use Rattle.sml_tree.specs.Grammar.{MaybeTy, without_ty, with_ty, AtPat, of_wild, of_pat_constant, of_pat_vid, of_no_pat_row, of_pat_row, of_unit_pat, of_tuple_pat, of_nil_pat, of_list_pat, of_paren_pat, PatRow, row_dots, last_row, more_row, Field, of_labelled, of_punned, of_punned_as, PatCommas, last_pat, more_pats, Pattern}
use Rattle.sml_grammar.specs.Answer.{read, many, whole}
use Rattle.sml_grammar.specs.Terminals.{taken, after_word, no_state}
use Rattle.sml_grammar.specs.Types.{maybe_ty, ty_could_go_on}
use Rattle.sml_grammar.specs.Patterns.{pat_start, PatReader, AtPatReader, pat_commas_turn, label_equals, field, put_field, only_field, only_dots, pat_row_turn, at_pat}
use Rattle.sml_grammar.proofs.Answers.{many-last, many-more}
use Rattle.sml_grammar.proofs.Terminals.{label-found}
use Rattle.sml_grammar.proofs.Vids.{plain-found}
use Rattle.sml_grammar.proofs.MaybeTypes.{MaybeStops, colon-complete}
use Rattle.sml_grammar.proofs.PatStarts.{names-start, constant-start, begins-no_word, PatStops, ends_pat, pat-stops-word}
use Rattle.sml_grammar.proofs.PatShapes.{field-shorter, pat-shorter, pat-begins, commas-begin, field-no_word, row-no_brace}

abbrev pub CompletePat : ℕ → PatReader → Type 0
CompletePat n self = (f : Fixity) (l : ℕ) (i o : List Terminal) (a : Pat) → Pattern f i a o → depth_pat a ≤ n → l ≤ pat_level f a → PatStops f l o → self f l i ≡ read a o

abbrev pub CompleteAtPat : ℕ → AtPatReader → Type 0
CompleteAtPat n self = (f : Fixity) (i o : List Terminal) (a : Pat) → AtPat f i a o → depth_pat a ≤ n → self f i ≡ read a o

-- what ends a field
pub data FieldEnds : List Terminal → Type 0 where
  before_comma : {o : List Terminal} (p : ℕ) → FieldEnds (reserved p res.Comma ∷ o)
  before_brace : {o : List Terminal} (p : ℕ) → FieldEnds (reserved p res.RightBrace ∷ o)

pub ends-stops : {f : Fixity} {o : List Terminal} → FieldEnds o → PatStops f 0 o
ends-stops {f} (before_comma {o} p) = pat-stops-word res.Comma refl f 0 p o
ends-stops {f} (before_brace {o} p) = pat-stops-word res.RightBrace refl f 0 p o

pub ends-no_equals : {o : List Terminal} → FieldEnds o → after_word res.Equals o ≡ None
ends-no_equals (before_comma p) = refl
ends-no_equals (before_brace p) = refl

pub maybe-no_equals : {i o : List Terminal} {s : Option Ty} → MaybeTy i s o → after_word res.Equals o ≡ None → after_word res.Equals i ≡ None
maybe-no_equals without_ty e = e
maybe-no_equals (with_ty p d) e = refl

maybe-stops : (s : Option Ty) (o : List Terminal) → after_word res.Colon o ≡ None → ty_could_go_on 0 o ≡ false → MaybeStops res.Colon s o
maybe-stops None o c g = c
maybe-stops (Some t) o c g = g

pub colon-reads : (n : ℕ) {i o : List Terminal} {s : Option Ty} → MaybeTy i s o → depth_some s ≤ n → after_word res.Colon o ≡ None → ty_could_go_on 0 o ≡ false → maybe_ty n (after_word res.Colon i) i ≡ read s o
colon-reads n {o} {s} d le c g = colon-complete n d le (maybe-stops s o c g)

pub label_equals-found : {t : Terminal} {l : Label} (p : ℕ) (i : List Terminal) → IsLabel t l → label_equals (t ∷ reserved p res.Equals ∷ i) ≡ taken l i
label_equals-found p i r = let h = label-found r (reserved p res.Equals ∷ i) in rw h refl

pub vid-no_label : {t : Terminal} {p x : ℕ} (i : List Terminal) → IsVid t p x → after_word res.Equals i ≡ None → label_equals (t ∷ i) ≡ None
vid-no_label i v e = let h = label-found (word_label v) i in rw (h, e) refl

module _ (n : ℕ) (self : PatReader) (complete : CompletePat n self) (f : Fixity) where
  -- before a word that ends patterns
  pub before : {i : List Terminal} {a : Pat} (w : Reserved) → ends_pat w ≡ true → (p : ℕ) (o : List Terminal) → Pattern f i a (reserved p w ∷ o) → depth_pat a ≤ n → self f 0 i ≡ read a (reserved p w ∷ o)
  before {i} {a} w e p o d le = complete f 0 i (reserved p w ∷ o) a d le (omega arith) (pat-stops-word w e f 0 p o)

  commas-complete : {i o : List Terminal} {as_ : Pats} → PatCommas f i as_ o → depth_pats as_ ≤ n → PatStops f 0 o → after_word res.Comma o ≡ None → (k : ℕ) → length i < k → many (pat_commas_turn self f) k no_state i ≡ read as_ o
  commas-complete ds le s c zero lt = absurd (omega arith)
  commas-complete (last_pat {i} {o} {a} d) le s c (suc k) lt =
      let h : self f 0 i ≡ read a o = complete f 0 i o a d (omega arith) (omega arith) s in
      many-last (pat_commas_turn self f) k (rw (h, c) refl)
  commas-complete (more_pats {i} {m} {o} {a} p d ds) le s c (suc k) lt =
      let h = before res.Comma refl p m d (omega arith) in
      let sh = pat-shorter d in
      many-more (pat_commas_turn self f) k {put = pat a} (rw h refl) (commas-complete ds (omega arith) s c k (omega arith))

  pub commas-whole : {i : List Terminal} {as_ : Pats} (w : Reserved) → ends_pat w ≡ true → (p : ℕ) (o : List Terminal) → after_word res.Comma (reserved p w ∷ o) ≡ None → PatCommas f i as_ (reserved p w ∷ o) → depth_pats as_ ≤ n →
      whole (pat_commas_turn self f) no_state i ≡ read as_ (reserved p w ∷ o)
  commas-whole {i} w e p o c ds le = commas-complete ds le (pat-stops-word w e f 0 p o) c (suc (length i)) (omega arith)

  pub field-complete : {i o : List Terminal} {a : PatField} → Field f i a o → depth_pat_field a ≤ n → FieldEnds o → field n self f i ≡ read a o
  field-complete (of_labelled {i} {o} {a} p l d) le e =
      let g = label_equals-found p i l in
      let h : self f 0 i ≡ read a o = complete f 0 i o a d le (omega arith) (ends-stops e) in
      rw (g, h) refl
  field-complete (of_punned {t} {i} {o} {p} {x} {s} v fix mt) le e =
      let st : PatStops f 0 o = ends-stops e in
      let g = vid-no_label i v (maybe-no_equals mt (ends-no_equals e)) in
      let q = plain-found f v fix i in
      let h : maybe_ty n (after_word res.Colon i) i ≡ read s o = colon-reads n mt le (st.no_mark (omega arith)) (st.no_ty (omega arith)) in
      let na : after_word res.As o ≡ None = st.no_as (omega arith) in
      rw (g, q, h, na) refl
  field-complete (of_punned_as {t} {i} {m} {o} {p} {x} {s} {a} q v fix mt d) le e =
      let g = vid-no_label i v (maybe-no_equals mt refl) in
      let u = plain-found f v fix i in
      let h : maybe_ty n (after_word res.Colon i) i ≡ read s (reserved q res.As ∷ m) = colon-reads n mt (omega arith) refl refl in
      let j : self f 0 m ≡ read a o = complete f 0 m o a d (omega arith) (omega arith) (ends-stops e) in
      rw (g, u, h, j) refl

  row-complete : {i o : List Terminal} {fs : PatFields} {b : Bool} (q : ℕ) → PatRow f i fs b (reserved q res.RightBrace ∷ o) → depth_pat_fields fs ≤ n → (k : ℕ) → length i < k →
      many (pat_row_turn n self f) k no_state i ≡ read (record { fields = fs; dots = b }) (reserved q res.RightBrace ∷ o)
  row-complete q r le zero lt = absurd (omega arith)
  row-complete q (row_dots p) le (suc k) lt = many-last (pat_row_turn n self f) k {b = only_dots} refl
  row-complete {o} q (last_row {i} {a} d) le (suc k) lt =
      let w = field-no_word res.Dots d in
      let h : field n self f i ≡ read a (reserved q res.RightBrace ∷ o) = field-complete d (omega arith) (before_brace q) in
      many-last (pat_row_turn n self f) k {b = only_field a} (rw (w, h) refl)
  row-complete q (more_row {i} {m} {a} {fs} {b} p d r) le (suc k) lt =
      let w = field-no_word res.Dots d in
      let h : field n self f i ≡ read a (reserved p res.Comma ∷ m) = field-complete d (omega arith) (before_comma p) in
      let sh = field-shorter d in
      many-more (pat_row_turn n self f) k {put = put_field a} {b = record { fields = fs; dots = b }} (rw (w, h) refl) (row-complete q r (omega arith) k (omega arith))

  pub row-whole : {i o : List Terminal} {fs : PatFields} {b : Bool} (q : ℕ) → PatRow f i fs b (reserved q res.RightBrace ∷ o) → depth_pat_fields fs ≤ n →
      whole (pat_row_turn n self f) no_state i ≡ read (record { fields = fs; dots = b }) (reserved q res.RightBrace ∷ o)
  row-whole {i} q r le = row-complete q r le (suc (length i)) (omega arith)

  pub at-complete : {i o : List Terminal} {a : Pat} → AtPat f i a o → depth_pat a ≤ suc n → at_pat n self f (pat_start f i) ≡ read a o
  at-complete (of_wild p) le = refl
  at-complete (of_pat_constant {o} c) le = let h = constant-start f c o in rw h refl
  at-complete (of_pat_vid x) le = let h = names-start x in rw h refl
  at-complete (of_no_pat_row p q) le = refl
  at-complete (of_pat_row {i} {o} p q r) le = let w = row-no_brace r in let h = row-whole q r (omega arith) in rw (w, h) refl
  at-complete (of_unit_pat p q) le = refl
  at-complete (of_tuple_pat {i} {m} {o} p q r d ds) le =
      let w = begins-no_word f res.RightParen i (λ p o. refl) (pat-begins d) in
      let h = before res.Comma refl q m d (omega arith) in
      let g = commas-whole res.RightParen refl r o refl ds (omega arith) in
      rw (w, h, g) refl
  at-complete (of_nil_pat p q) le = refl
  at-complete (of_list_pat {i} {o} p q ds) le =
      let w = begins-no_word f res.RightBracket i (λ p o. refl) (commas-begin ds) in
      let g = commas-whole res.RightBracket refl q o refl ds (omega arith) in
      rw (w, g) refl
  at-complete (of_paren_pat {i} {o} p q d) le =
      let w = begins-no_word f res.RightParen i (λ p o. refl) (pat-begins d) in
      let h = before res.RightParen refl q o d (omega arith) in
      rw (w, h) refl
