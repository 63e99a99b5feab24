-- A pattern has a partial one of each depth up to its own.
use Rattle.std.proofs.Common.{◌≡◌, ℕ, zero, suc, ◌≤◌, ◌<◌, List, ◌∷◌, Option, None, Bool, true, inl, inr, refl, subst, arith}
use Rattle.mlc_names.specs.declared.token.Reserved.{Reserved}
use Rattle.mlc_names.specs.declared.token.Reserved.TheVariants as res
use Rattle.sml_tree.specs.declared.ident.Vid.{Vid}
use Rattle.sml_tree.specs.declared.ident.Vid.TheVariants.{Named}
use Rattle.sml_tree.specs.Fixity.{Fixity, fix_of}
use Rattle.sml_tree.specs.Terminal.{Terminal, reserved, IsVid}
use Rattle.sml_tree.specs.ReadTree.{Placed, Ty, Pat, Pats, PatFields, PatField, PatParts}
use Rattle.sml_tree.specs.Depth.{depth_ty, depth_some, depth_pat, depth_pats, depth_pat_fields, depth_pat_field, depth_pat_parts}
use Rattle.sml_tree.specs.Levels.{pat_level}
use Rattle.sml_tree.specs.Grammar.{MaybeTy, without_ty, with_ty, BindsVid, AtPat, of_wild, of_pat_constant, of_pat_vid, of_no_pat_row, of_pat_row, of_unit_pat, of_tuple_pat, of_nil_pat, of_list_pat, of_paren_pat, PatRow, row_dots, last_row, more_row, Field, of_labelled, of_punned, of_punned_as, PatCommas, last_pat, more_pats, Pattern, of_atpat, of_con_pat, of_chain_pat, of_typed_pat, of_as_pat, PatFollows, of_last_pat_part, of_pat_part}
use Rattle.sml_grammar.specs.Terminals.{after_word}
use Rattle.sml_grammar.specs.Patterns.{begins_pat}
use Rattle.sml_grammar.proofs.Answers.{le_max}
use Rattle.sml_grammar.proofs.Terminals.{not-word, vid-word, label-word}
use Rattle.sml_grammar.proofs.TypePaths.{ty-opens}
use Rattle.sml_grammar.proofs.PatStarts.{names-begin, begins_pat-found, begins_pat-is}
use Rattle.sml_grammar.proofs.PatShapes.{binds-names, atpat-begins, pat-begins, field-no_word, follows-level}
use Rattle.sml_grammar.specs.PartialPatterns.{OpensPat, begun_pat, in_atpat, in_con_pat, joined_pat, in_pat_chain, marked_pat, in_pat_ty, in_as, OpensAtPat, begun_atpat, in_paren_pat, in_tuple_pat, in_list_pat, in_record_pat, OpensPats, in_pat, past_pat, OpensPatRow, in_pat_field, past_pat_field, OpensField, in_labelled, in_punned_ty, in_punned_as, OpensPatPart, in_pat_part, past_pat_part}

joined-opens : {f : Fixity} {l l' : ℕ} {r : Bool} {i m o : List Terminal} {a : Pat} {ps : PatParts} {k : ℕ} → l ≤ l' → l' < pat_level f a → Pattern f i a m → PatFollows f l' r m ps o → k ≤ depth_pat a → OpensPat f l i (suc k)
joined-opens low lt d (of_last_pat_part fit h b) p = joined_pat low lt d fit p
joined-opens low lt d (of_pat_part fit h b fs) p = joined_pat low lt d fit p

maybe-field : {f : Fixity} {t : Terminal} {i o : List Terminal} {p x : ℕ} {s : Option Ty} → IsVid t p x → fix_of (Named x) f ≡ None → MaybeTy i s o → (k : ℕ) → 0 < k → k ≤ depth_some s → OpensField f (t ∷ i) k
maybe-field v e without_ty k pos le = absurd (omega arith)
maybe-field v e (with_ty q d) k pos le = in_punned_ty q v e (ty-opens d (omega arith) k pos le)

pub as-opens : {f : Fixity} {i m o : List Terminal} {p : ℕ} {v : Placed Vid} {s : Option Ty} (l : ℕ) → BindsVid f i p v m → MaybeTy m s o → (k : ℕ) → 0 < k → k ≤ depth_some s → l ≤ 5 → OpensPat f l i (suc k)
as-opens l b without_ty k pos le low = absurd (omega arith)
as-opens l b (with_ty p d) k pos le low = in_pat_ty p low (omega arith) (of_atpat (of_pat_vid (binds-names b))) (ty-opens d (omega arith) k pos le)

mutual
  pub atpat-opens : {f : Fixity} {i o : List Terminal} {a : Pat} → AtPat f i a o → (k : ℕ) → 0 < k → k ≤ depth_pat a → OpensAtPat f i k
  atpat-opens d zero pos le = absurd (omega arith)
  atpat-opens d (suc zero) pos le = begun_atpat (begins_pat-is (atpat-begins d))
  atpat-opens (of_wild p) (suc (suc k)) pos le = absurd (omega arith)
  atpat-opens (of_pat_constant c) (suc (suc k)) pos le = absurd (omega arith)
  atpat-opens (of_pat_vid x) (suc (suc k)) pos le = absurd (omega arith)
  atpat-opens (of_no_pat_row p q) (suc (suc k)) pos le = absurd (omega arith)
  atpat-opens (of_pat_row p q r) (suc (suc k)) pos le = in_record_pat p (row-opens r (suc k) (omega arith) (omega arith))
  atpat-opens (of_unit_pat p q) (suc (suc k)) pos le = absurd (omega arith)
  atpat-opens (of_tuple_pat {a} {as_} p q r d ds) (suc (suc k)) pos le =
      elim (le_max (suc k) (depth_pat a) (depth_pats as_) (omega arith)) [
        | inl h ↦ in_paren_pat p (pat-opens 0 d (omega arith) (suc k) (omega arith) h)
        | inr h ↦ in_tuple_pat p q d (commas-opens ds (suc k) (omega arith) h)
      ]
  atpat-opens (of_nil_pat p q) (suc (suc k)) pos le = absurd (omega arith)
  atpat-opens (of_list_pat p q ds) (suc (suc k)) pos le = in_list_pat p (commas-opens ds (suc k) (omega arith) (omega arith))
  atpat-opens (of_paren_pat p q d) (suc (suc k)) pos le = in_paren_pat p (pat-opens 0 d (omega arith) (suc k) (omega arith) (omega arith))

  pub row-opens : {f : Fixity} {i o : List Terminal} {fs : PatFields} {b : Bool} → PatRow f i fs b o → (k : ℕ) → 0 < k → k ≤ depth_pat_fields fs → OpensPatRow f i k
  row-opens (row_dots p) k pos le = absurd (omega arith)
  row-opens (last_row d) k pos le = in_pat_field (field-opens d k pos (omega arith))
  row-opens (more_row {a} {fs} p d r) k pos le =
      elim (le_max k (depth_pat_field a) (depth_pat_fields fs) le) [
        | inl h ↦ in_pat_field (field-opens d k pos h)
        | inr h ↦ past_pat_field p d (row-opens r k pos h)
      ]

  pub field-opens : {f : Fixity} {i o : List Terminal} {a : PatField} → Field f i a o → (k : ℕ) → 0 < k → k ≤ depth_pat_field a → OpensField f i k
  field-opens (of_labelled p l d) k pos le = in_labelled p l (pat-opens 0 d (omega arith) k pos le)
  field-opens (of_punned v e s) k pos le = maybe-field v e s k pos le
  field-opens (of_punned_as {s} {a} q v e m d) k pos le =
      elim (le_max k (depth_some s) (depth_pat a) le) [
        | inl h ↦ maybe-field v e m k pos h
        | inr h ↦ in_punned_as q v e m (pat-opens 0 d (omega arith) k pos h)
      ]

  pub commas-opens : {f : Fixity} {i o : List Terminal} {as_ : Pats} → PatCommas f i as_ o → (k : ℕ) → 0 < k → k ≤ depth_pats as_ → OpensPats f i k
  commas-opens (last_pat d) k pos le = in_pat (pat-opens 0 d (omega arith) k pos (omega arith))
  commas-opens (more_pats {a} {as_} p d ds) k pos le =
      elim (le_max k (depth_pat a) (depth_pats as_) le) [
        | inl h ↦ in_pat (pat-opens 0 d (omega arith) k pos h)
        | inr h ↦ past_pat p d (commas-opens ds k pos h)
      ]

  pub pat-opens : {f : Fixity} {i o : List Terminal} {a : Pat} (l : ℕ) → Pattern f i a o → l ≤ pat_level f a → (k : ℕ) → 0 < k → k ≤ depth_pat a → OpensPat f l i k
  pat-opens l d high zero pos le = absurd (omega arith)
  pat-opens l d high (suc zero) pos le = begun_pat (begins_pat-is (pat-begins d))
  pat-opens l (of_atpat d) high (suc (suc k)) pos le = in_atpat (atpat-opens d (suc (suc k)) pos le)
  pat-opens l (of_con_pat x d) high (suc (suc k)) pos le = in_con_pat x (atpat-opens d (suc k) (omega arith) (omega arith))
  pat-opens l (of_chain_pat {a} {ps} l' r lt d fs) high (suc (suc k)) pos le =
      let low : l ≤ l' = subst (λ (z : ℕ). l ≤ z) (follows-level fs) high in
      elim (le_max (suc k) (depth_pat a) (depth_pat_parts ps) (omega arith)) [
        | inl h ↦ joined-opens low lt d fs h
        | inr h ↦ in_pat_chain low lt d (follows-opens fs (suc k) (omega arith) h)
      ]
  pat-opens l (of_typed_pat {a} {s} p five d t) high (suc (suc k)) pos le =
      elim (le_max (suc k) (depth_pat a) (depth_ty s) (omega arith)) [
        | inl h ↦ marked_pat p high five d h
        | inr h ↦ in_pat_ty p high five d (ty-opens t (omega arith) (suc k) (omega arith) h)
      ]
  pat-opens l (of_as_pat {s} {a} q b m d) high (suc (suc k)) pos le =
      elim (le_max (suc k) (depth_some s) (depth_pat a) (omega arith)) [
        | inl h ↦ as-opens l b m (suc k) (omega arith) h (omega arith)
        | inr h ↦ in_as q high b m (pat-opens 0 d (omega arith) (suc k) (omega arith) h)
      ]

  pub follows-opens : {f : Fixity} {l : ℕ} {r : Bool} {i o : List Terminal} {ps : PatParts} → PatFollows f l r i ps o → (k : ℕ) → 0 < k → k ≤ depth_pat_parts ps → OpensPatPart f l r i k
  follows-opens {l} (of_last_pat_part fit h d) k pos le = in_pat_part fit (pat-opens (suc l) d h k pos le)
  follows-opens {l} (of_pat_part {b} {ps} fit h d fs) k pos le =
      elim (le_max k (depth_pat b) (depth_pat_parts ps) le) [
        | inl p ↦ in_pat_part fit (pat-opens (suc l) d h k pos p)
        | inr p ↦ past_pat_part fit h d (follows-opens fs k pos p)
      ]

-- what a partial pattern begins with

pub opens_pat-begins : {f : Fixity} {l : ℕ} {i : List Terminal} {d : ℕ} → OpensPat f l i d → begins_pat f i ≡ true
opens_pat-begins (begun_pat b) = begins_pat-found b
opens_pat-begins (in_atpat (begun_atpat b)) = begins_pat-found b
opens_pat-begins (in_atpat (in_paren_pat p o)) = refl
opens_pat-begins (in_atpat (in_tuple_pat p q d o)) = refl
opens_pat-begins (in_atpat (in_list_pat p o)) = refl
opens_pat-begins (in_atpat (in_record_pat p o)) = refl
opens_pat-begins (in_con_pat x o) = names-begin x
opens_pat-begins (joined_pat low lt d fit h) = pat-begins d
opens_pat-begins (in_pat_chain low lt d o) = pat-begins d
opens_pat-begins (marked_pat p low five d h) = pat-begins d
opens_pat-begins (in_pat_ty p low five d o) = pat-begins d
opens_pat-begins (in_as q low b s o) = names-begin (binds-names b)

pub opens_atpat-begins : {f : Fixity} {i : List Terminal} {d : ℕ} → OpensAtPat f i d → begins_pat f i ≡ true
opens_atpat-begins (begun_atpat b) = begins_pat-found b
opens_atpat-begins (in_paren_pat p o) = refl
opens_atpat-begins (in_tuple_pat p q d o) = refl
opens_atpat-begins (in_list_pat p o) = refl
opens_atpat-begins (in_record_pat p o) = refl

pub opens_pats-begin : {f : Fixity} {i : List Terminal} {d : ℕ} → OpensPats f i d → begins_pat f i ≡ true
opens_pats-begin (in_pat o) = opens_pat-begins o
opens_pats-begin (past_pat q d o) = pat-begins d

pub opens_field-no_word : {f : Fixity} {i : List Terminal} {d : ℕ} (w : Reserved) → OpensField f i d → after_word w i ≡ None
opens_field-no_word w (in_labelled {t} {i} p l o) = not-word w t (reserved p res.Equals ∷ i) (label-word l)
opens_field-no_word w (in_punned_ty {t} {i} q v e o) = not-word w t (reserved q res.Colon ∷ i) (vid-word v)
opens_field-no_word w (in_punned_as {t} {i} q v e s o) = not-word w t i (vid-word v)

pub opens_row-no_word : {f : Fixity} {i : List Terminal} {d : ℕ} (w : Reserved) → OpensPatRow f i d → after_word w i ≡ None
opens_row-no_word w (in_pat_field o) = opens_field-no_word w o
opens_row-no_word w (past_pat_field q d o) = field-no_word w d
