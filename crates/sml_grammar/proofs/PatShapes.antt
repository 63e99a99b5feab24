-- Facts about readings of patterns alone.
use Rattle.std.proofs.Common.{◌≡◌, ℕ, suc, ◌≤◌, ◌<◌, List, ◌∷◌, length, None, Bool, true, false, refl, ap, arith}
use Rattle.mlc_names.specs.declared.token.Reserved.{Reserved}
use Rattle.mlc_names.specs.declared.token.Reserved.TheVariants as res
use Rattle.sml_tree.specs.declared.ident.Vid.{Vid}
use Rattle.sml_tree.specs.declared.ident.Vid.TheVariants.{Named}
use Rattle.sml_tree.specs.Fixity.{Fixity}
use Rattle.sml_tree.specs.Terminal.{Terminal, reserved, any_short}
use Rattle.sml_tree.specs.ReadTree.{Placed, Pat, wild_pat, constant_pat, vid_pat, record_pat, unit_pat, tuple_pat, list_pat, paren_pat, con_pat, chain_pat, typed_pat, as_pat, Pats, PatFields, PatField, PatParts, last_pat_part, pat_part}
use Rattle.sml_tree.specs.Depth.{depth_pat}
use Rattle.sml_tree.specs.Levels.{vid_level, vid_right, pat_level, pat_parts_level}
use Rattle.sml_tree.specs.Grammar.{ReadsTy, MaybeTy, without_ty, with_ty, BindsVid, op_vid, NamesVid, plain_long, qualified, op_long, IsInfixVid, PatFits, AtPat, of_wild, of_pat_constant, of_pat_vid, of_no_pat_row, of_pat_row, of_unit_pat, of_tuple_pat, of_nil_pat, of_list_pat, of_paren_pat, PatRow, row_dots, last_row, more_row, Field, of_labelled, of_punned, of_punned_as, PatCommas, last_pat, more_pats, Pattern, of_atpat, of_con_pat, of_chain_pat, of_typed_pat, of_as_pat, PatFollows, of_last_pat_part, of_pat_part, AtPats, no_atpats, more_atpats, ReadsHead, of_prefix_head, of_infix_head, of_bracket_head}
use Rattle.sml_tree.specs.Grammar as grammar
use Rattle.sml_grammar.specs.Terminals.{taken, after_word, tail, infix_vid}
use Rattle.sml_grammar.specs.Types.{ty_could_go_on}
use Rattle.sml_grammar.specs.Patterns.{short_at, is_pat_start, begins_pat}
use Rattle.sml_grammar.proofs.Terminals.{not-word, vid-word, label-word}
use Rattle.sml_grammar.proofs.Vids.{infix-found, binds-shorter, names-shorter}
use Rattle.sml_grammar.proofs.TypeShapes.{ty-shorter}
use Rattle.sml_grammar.proofs.MaybeTypes.{colon-shorter}
use Rattle.sml_grammar.proofs.PatStarts.{names-begin, constant-start, infix-no_pat, level-high, infix_ties, PatStops, infix_ties-more, infix-tie, infix-no_word}

-- a pattern has terminals
mutual
  pub atpat-shorter : {f : Fixity} {i o : List Terminal} {a : Pat} → AtPat f i a o → length o < length i
  atpat-shorter (of_wild p) = omega arith
  atpat-shorter (of_pat_constant c) = omega arith
  atpat-shorter (of_pat_vid x) = names-shorter x
  atpat-shorter (of_no_pat_row p q) = omega arith
  atpat-shorter (of_pat_row p q r) = let h = row-shorter r in omega arith
  atpat-shorter (of_unit_pat p q) = omega arith
  atpat-shorter (of_tuple_pat p q r d ds) = let h = pat-shorter d in let k = commas-shorter ds in omega arith
  atpat-shorter (of_nil_pat p q) = omega arith
  atpat-shorter (of_list_pat p q ds) = let h = commas-shorter ds in omega arith
  atpat-shorter (of_paren_pat p q d) = let h = pat-shorter d in omega arith

  pub row-shorter : {f : Fixity} {i o : List Terminal} {fs : PatFields} {b : Bool} → PatRow f i fs b o → length o < length i
  row-shorter (row_dots p) = omega arith
  row-shorter (last_row d) = field-shorter d
  row-shorter (more_row p d r) = let h = field-shorter d in let k = row-shorter r in omega arith

  pub field-shorter : {f : Fixity} {i o : List Terminal} {a : PatField} → Field f i a o → length o < length i
  field-shorter (of_labelled p l d) = let h = pat-shorter d in omega arith
  field-shorter (of_punned v e s) = let h = colon-shorter s in omega arith
  field-shorter (of_punned_as q v e s d) = let h = colon-shorter s in let k = pat-shorter d in omega arith

  pub commas-shorter : {f : Fixity} {i o : List Terminal} {as_ : Pats} → PatCommas f i as_ o → length o < length i
  commas-shorter (last_pat d) = pat-shorter d
  commas-shorter (more_pats p d ds) = let h = pat-shorter d in let k = commas-shorter ds in omega arith

  pub pat-shorter : {f : Fixity} {i o : List Terminal} {a : Pat} → Pattern f i a o → length o < length i
  pat-shorter (of_atpat d) = atpat-shorter d
  pat-shorter (of_con_pat x d) = let h = names-shorter x in let k = atpat-shorter d in omega arith
  pat-shorter (of_chain_pat l r lt d fs) = let h = pat-shorter d in let k = follows-shorter fs in omega arith
  pat-shorter (of_typed_pat p five d s) = let h = pat-shorter d in let k = ty-shorter s in omega arith
  pat-shorter (of_as_pat q b s d) = let h = binds-shorter b in let k = colon-shorter s in let j = pat-shorter d in omega arith

  pub follows-shorter : {f : Fixity} {l : ℕ} {r : Bool} {i o : List Terminal} {ps : PatParts} → PatFollows f l r i ps o → length o < length i
  follows-shorter (of_last_pat_part fit lt d) = let h = pat-shorter d in omega arith
  follows-shorter (of_pat_part fit lt d fs) = let h = pat-shorter d in let k = follows-shorter fs in omega arith

pub atpats-shorter : {f : Fixity} {i o : List Terminal} {as_ : Pats} → AtPats f i as_ o → length o ≤ length i
atpats-shorter no_atpats = omega arith
atpats-shorter (more_atpats d ds) = let h = atpat-shorter d in let k = atpats-shorter ds in omega arith

pub pat-pos : (a : Pat) → 0 < depth_pat a
pat-pos (wild_pat p) = omega arith
pat-pos (constant_pat p c) = omega arith
pat-pos (vid_pat p x) = omega arith
pat-pos (record_pat p fs b) = omega arith
pat-pos (unit_pat p) = omega arith
pat-pos (tuple_pat p as_) = omega arith
pat-pos (list_pat p as_) = omega arith
pat-pos (paren_pat p a) = omega arith
pat-pos (con_pat p x a) = omega arith
pat-pos (chain_pat r a ps) = omega arith
pat-pos (typed_pat a t) = omega arith
pat-pos (as_pat p v t a) = omega arith

pub atpat-high : {f : Fixity} {i o : List Terminal} {a : Pat} → AtPat f i a o → pat_level f a ≡ 1000
atpat-high (of_wild p) = refl
atpat-high (of_pat_constant c) = refl
atpat-high (of_pat_vid x) = refl
atpat-high (of_no_pat_row p q) = refl
atpat-high (of_pat_row p q r) = refl
atpat-high (of_unit_pat p q) = refl
atpat-high (of_tuple_pat p q r d ds) = refl
atpat-high (of_nil_pat p q) = refl
atpat-high (of_list_pat p q ds) = refl
atpat-high (of_paren_pat p q d) = refl

pub binds-names : {f : Fixity} {i o : List Terminal} {p : ℕ} {v : Placed Vid} → BindsVid f i p v o → NamesVid f i p (short_at v) o
binds-names (grammar.plain_vid v e) = plain_long v e
binds-names (op_vid p a) = op_long p (any_short a)

-- what a reading begins with

pub atpat-begins : {f : Fixity} {i o : List Terminal} {a : Pat} → AtPat f i a o → begins_pat f i ≡ true
atpat-begins (of_wild p) = refl
atpat-begins {f} (of_pat_constant {o} c) = ap is_pat_start (constant-start f c o)
atpat-begins (of_pat_vid x) = names-begin x
atpat-begins (of_no_pat_row p q) = refl
atpat-begins (of_pat_row p q r) = refl
atpat-begins (of_unit_pat p q) = refl
atpat-begins (of_tuple_pat p q r d ds) = refl
atpat-begins (of_nil_pat p q) = refl
atpat-begins (of_list_pat p q ds) = refl
atpat-begins (of_paren_pat p q d) = refl

pub pat-begins : {f : Fixity} {i o : List Terminal} {a : Pat} → Pattern f i a o → begins_pat f i ≡ true
pat-begins (of_atpat d) = atpat-begins d
pat-begins (of_con_pat x d) = names-begin x
pat-begins (of_chain_pat l r lt d fs) = pat-begins d
pat-begins (of_typed_pat p five d s) = pat-begins d
pat-begins (of_as_pat q b s d) = names-begin (binds-names b)

pub commas-begin : {f : Fixity} {i o : List Terminal} {as_ : Pats} → PatCommas f i as_ o → begins_pat f i ≡ true
commas-begin (last_pat d) = pat-begins d
commas-begin (more_pats p d ds) = pat-begins d

pub field-no_word : {f : Fixity} {i o : List Terminal} {a : PatField} (w : Reserved) → Field f i a o → after_word w i ≡ None
field-no_word w (of_labelled {t} {i} p l d) = not-word w t (reserved p res.Equals ∷ i) (label-word l)
field-no_word w (of_punned {t} {i} v e s) = not-word w t i (vid-word v)
field-no_word w (of_punned_as {t} {i} q v e s d) = not-word w t i (vid-word v)

pub row-no_brace : {f : Fixity} {i o : List Terminal} {fs : PatFields} {b : Bool} → PatRow f i fs b o → after_word res.RightBrace i ≡ None
row-no_brace (row_dots p) = refl
row-no_brace (last_row d) = field-no_word res.RightBrace d
row-no_brace (more_row p d r) = field-no_word res.RightBrace d

abbrev pub first_vid : PatParts → Placed ℕ
first_vid (last_pat_part x a) = x
first_vid (pat_part x a ps) = x

-- what a chain's further operands begin with
pub record PartHead (f : Fixity) (l : ℕ) (r : Bool) (i : List Terminal) (x : Placed ℕ) : Type 0 where
  pub next : infix_vid f i ≡ taken x (tail i)
  pub level : vid_level f (Named x.it) ≡ l
  pub right : vid_right f (Named x.it) ≡ r
  pub no_pat : begins_pat f i ≡ false
  pub no_word : (w : Reserved) → after_word w i ≡ None
  pub ties : (k : ℕ) → l < k → infix_ties f k i ≡ false
  pub size : length i ≤ suc (length (tail i))

pub fits-head : {f : Fixity} {l : ℕ} {r : Bool} {t : Terminal} {x : Placed ℕ} (m : List Terminal) → PatFits f l r t x → PartHead f l r (t ∷ m) x
fits-head {f} {x} m fit = record {
  next = infix-found fit.is m;
  level = fit.level;
  right = fit.right;
  no_pat = infix-no_pat fit.is m;
  no_word = λ w. infix-no_word fit.is w m;
  ties = λ k lt. let e = fit.level in infix-tie fit.is k m (omega arith);
  size = omega arith;
}

pub part-head : {f : Fixity} {l : ℕ} {r : Bool} {i o : List Terminal} {ps : PatParts} → PatFollows f l r i ps o → PartHead f l r i (first_vid ps)
part-head (of_last_pat_part {m} fit lt d) = fits-head m fit
part-head (of_pat_part {m} fit lt d fs) = fits-head m fit

pub follows-level : {f : Fixity} {l : ℕ} {r : Bool} {i o : List Terminal} {ps : PatParts} → PatFollows f l r i ps o → pat_parts_level f ps ≡ l
follows-level (of_last_pat_part fit lt d) = fit.level
follows-level (of_pat_part fit lt d fs) = fit.level

pub head-stops : {f : Fixity} {l : ℕ} {r : Bool} {i : List Terminal} {x : Placed ℕ} → PartHead f l r i x → (k : ℕ) → l < k → PatStops f k i
head-stops {f} {x} w k lt = let hi = level-high f (Named x.it) in let lv = w.level in record {
  no_pat = w.no_pat;
  no_infix = w.ties k lt;
  no_mark = λ h. w.no_word res.Colon;
  no_as = λ h. w.no_word res.As;
  no_ty = λ (h : k ≤ 5). absurd (omega arith);
}

pub parts-high : (f : Fixity) (ps : PatParts) → 8 ≤ pat_parts_level f ps
parts-high f (last_pat_part x a) = level-high f (Named x.it)
parts-high f (pat_part x a ps) = level-high f (Named x.it)

-- what ends the left operand of `:`, or of a joint
abbrev pub pat_goes_on : Fixity → Pat → List Terminal → Bool
pat_goes_on f (chain_pat r a ps) m = infix_ties f (pat_parts_level f ps) m
pat_goes_on f (typed_pat a t) m = ty_could_go_on 0 m
pat_goes_on f _ m = false

pub ends-mark : (f : Fixity) (a : Pat) (p : ℕ) (m : List Terminal) → pat_goes_on f a (reserved p res.Colon ∷ m) ≡ false
ends-mark f (chain_pat r a ps) p m = refl
ends-mark f (typed_pat a t) p m = refl
ends-mark f _ p m = refl

pub ends-joint : (f : Fixity) (a : Pat) (l : ℕ) {r : Bool} {i : List Terminal} {x : Placed ℕ} → PartHead f l r i x → l < pat_level f a → pat_goes_on f a i ≡ false
ends-joint f (chain_pat r a ps) l w lt = w.ties (pat_parts_level f ps) lt
ends-joint f (typed_pat a t) l {x} w lt = let hi = level-high f (Named x.it) in let lv = w.level in absurd (omega arith)
ends-joint f _ l w lt = refl

pub ends-stop : {f : Fixity} {l : ℕ} {o : List Terminal} (a : Pat) → PatStops f l o → l ≤ pat_level f a → pat_goes_on f a o ≡ false
ends-stop {f} {l} {o} (chain_pat r a ps) s le = infix_ties-more f l (pat_parts_level f ps) o le s.no_infix
ends-stop (typed_pat a t) s le = s.no_ty le
ends-stop _ s le = refl
