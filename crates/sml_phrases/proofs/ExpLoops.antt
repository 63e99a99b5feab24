-- What the loops that read expressions have read, turn by turn.
use Rattle.std.proofs.Common.{◌≡◌, ℕ, suc, max, ◌+◌, ◌<◌, ◌≤◌, List, [], ◌∷◌, ◌++◌, length, Bool, true, false, Some, None, refl, sym, ap, ◌∙◌, subst, arith}
use Rattle.mlc_names.specs.declared.token.Reserved.{Reserved}
use Rattle.mlc_names.specs.declared.token.Reserved.TheVariants as res
use Rattle.mlc_names.specs.declared.token.Token.{Token}
use Rattle.mlc_names.specs.declared.label.Label.{Label}
use Rattle.sml_tree.specs.Terminal.{Terminal}
use Rattle.sml_tree.specs.Fixity.{Fixity}
use Rattle.sml_tree.specs.BareTree as bare
use Rattle.sml_tree.specs.Bare.{bare_exp, bare_pat, at, exp_list, operands, joint_of}
use Rattle.sml_tree.specs.Derived.{Operand}
use Rattle.sml_tree.specs.TreeOf.{exp_of, pat_of, RuleOf, ExpFieldOf}
use Rattle.sml_tree.specs.declared.tree.Exp.{Exp}
use Rattle.sml_tree.specs.declared.tree.Pat.{Pat}
use Rattle.sml_tree.specs.declared.tree.Joint as tree
use Rattle.sml_tree.specs.ReadTree as read
use Rattle.sml_tree.specs.ReadTree.{Placed, Exps, exp, no_exps, ExpFields, exp_field, no_exp_fields, Rules, rule, last_rule, Parts, part, last_part, exp_place, pat_place}
use Rattle.sml_tree.specs.Depth.{depth, depth_exps, depth_exp_fields, depth_rules, depth_parts, depth_pat}
use Rattle.sml_grammar.specs.Answer.{Read, Answer, ok, read, then_read, more, whole, bad}
use Rattle.sml_grammar.specs.Terminals.{taken, first_as, as_label, after_word, word_then, separated, no_state, place_at, tail}
use Rattle.sml_grammar.specs.Expressions.{Reader, AtomReader, begins_atom, row_turn, atoms_turn, part_turn, part_next, next_of, rule_turn, read_match}
use Rattle.sml_grammar.specs.Patterns.{read_pat}
use Rattle.phrase_base.specs.declared.source.Source.{Source}
use Rattle.phrase_base.specs.declared.stop.Stop.{Stop}
use Rattle.phrase_base.specs.declared.stop.Stop.TheVariants as stop
use Rattle.phrase_base.specs.Gives.{Gave, Fails}
use Rattle.phrase_base.proofs.Loop.{fails-then, fails-by}
use Rattle.phrase_base.specs.Left.{left}
use Rattle.sml_phrases.specs.Ties.{joint_from, PartGoes, PartEnds, PartFails}
use Rattle.sml_phrases.specs.PatternsRead.{IsPat}
use Rattle.sml_phrases.specs.ExpressionsRead.{IsExp, IsList, exps_turn, closed_exps, closed_rows, field_list, rule_list}
use Rattle.sml_phrases.proofs.Collect.{Collects, collects-more, collects-last, collects-end, collects-fails}
use Rattle.sml_phrases.proofs.ExpLemmas.{after-shorter, tail-short, label-shorter}
use Rattle.sml_phrases.proofs.ExpSteps.{sep-more, sep-last, after-ok, row-as, row-none, rule-as, atoms-as, atoms-none}

-- expressions parted by a word
module _ (src : Source) (n : ℕ) (w : Reserved) (self : Reader) (f : Fixity) {i : List Terminal} {front : List bare.Exp} {d : ℕ} {total : Answer Exps} {x : Exp} {h : ℕ} {o : List Token} (r : Read read.Exp) where
  pub exps-more : {m : List Terminal} → self f 0 i ≡ ok r → IsExp src n i x h o r → after_word w (left src o) ≡ Some m → Collects (exp_list src.file) depth_exps (exps_turn w self f) no_state i front d total →
      Collects (exp_list src.file) depth_exps (exps_turn w self f) no_state m (front ++ exp_of x ∷ []) (max h d) total
  exps-more {m} e is at g =
      let q = subst (λ z. after_word w z ≡ Some m) is.rest at in
      collects-more (exp_list src.file) depth_exps (exps_turn w self f) (exp r.tree) (exp_of x) h
      (after-ok _ e ∙ sep-more (exp r.tree) (exp r.tree no_exps) no_state r.rest q) (omega (arith, after-shorter w r.rest m q, is.shorter))
      (λ b. ap (λ z. z ∷ exp_list src.file b) (sym is.bare)) (λ b. ap (λ z. max z (depth_exps b)) (sym is.deep)) refl refl g

  pub exps-last : {start : List Terminal} → self f 0 i ≡ ok r → IsExp src n i x h o r → after_word w (left src o) ≡ None → length i ≤ length start → d ≤ n →
      Collects (exp_list src.file) depth_exps (exps_turn w self f) no_state i front d total →
      Gave (λ (y : Unit {0}) a. IsList (exp_list src.file) depth_exps src n start (front ++ exp_of x ∷ []) (max h d) o a) tt total
  exps-last {start} e is at le fits g =
      let q = subst (λ z. after_word w z ≡ None) is.rest at in
      collects-last (exp_list src.file) depth_exps (exps_turn w self f) (exp r.tree no_exps) (exp_of x) h
      (after-ok _ e ∙ sep-last (exp r.tree) (exp r.tree no_exps) no_state r.rest q)
      (ap (λ z. z ∷ []) (sym is.bare)) (ap (λ z. max z 0) (sym is.deep) ∙ omega arith) refl refl is.rest (omega (arith, is.shorter)) (subst (λ z. z ≤ n) (sym is.deep) is.fits) fits g

-- rows
module _ (src : Source) (n : ℕ) (self : Reader) (f : Fixity) {i k : List Terminal} {front : List ExpFieldOf} {d : ℕ} {total : Answer ExpFields} {l : Placed Label} {x : Exp} {h : ℕ} {o : List Token} (r : Read read.Exp) where
  pub rows-more : {m : List Terminal} → first_as as_label i ≡ taken l k → word_then res.Equals (self f 0) k ≡ ok r → IsExp src n (tail k) x h o r → after_word res.Comma (left src o) ≡ Some m →
      Collects (field_list src.file) depth_exp_fields (row_turn self f) no_state i front d total →
      Collects (field_list src.file) depth_exp_fields (row_turn self f) no_state m (front ++ record { label = l.it; exp = exp_of x } ∷ []) (max h d) total
  rows-more {m} fl e is at g =
      let q = subst (λ z. after_word res.Comma z ≡ Some m) is.rest at in
      collects-more (field_list src.file) depth_exp_fields (row_turn self f) (exp_field l.it r.tree) (record { label = l.it; exp = exp_of x }) h
      (row-as self f no_state i l k fl ∙ after-ok _ e ∙ sep-more (exp_field l.it r.tree) (exp_field l.it r.tree no_exp_fields) no_state r.rest q)
      (omega (arith, after-shorter res.Comma r.rest m q, is.shorter, tail-short k, label-shorter i l k fl))
      (λ b. ap (λ z. record { label = l.it; exp = z } ∷ field_list src.file b) (sym is.bare)) (λ b. ap (λ z. max z (depth_exp_fields b)) (sym is.deep)) refl refl g

  pub rows-last : {start : List Terminal} → first_as as_label i ≡ taken l k → word_then res.Equals (self f 0) k ≡ ok r → IsExp src n (tail k) x h o r → after_word res.Comma (left src o) ≡ None → length i ≤ length start → d ≤ n →
      Collects (field_list src.file) depth_exp_fields (row_turn self f) no_state i front d total →
      Gave (λ (y : Unit {0}) a. IsList (field_list src.file) depth_exp_fields src n start (front ++ record { label = l.it; exp = exp_of x } ∷ []) (max h d) o a) tt total
  rows-last {start} fl e is at le fits g =
      let q = subst (λ z. after_word res.Comma z ≡ None) is.rest at in
      collects-last (field_list src.file) depth_exp_fields (row_turn self f) (exp_field l.it r.tree no_exp_fields) (record { label = l.it; exp = exp_of x }) h
      (row-as self f no_state i l k fl ∙ after-ok _ e ∙ sep-last (exp_field l.it r.tree) (exp_field l.it r.tree no_exp_fields) no_state r.rest q)
      (ap (λ z. record { label = l.it; exp = z } ∷ []) (sym is.bare)) (ap (λ z. max z 0) (sym is.deep) ∙ omega arith) refl refl is.rest
      (omega (arith, is.shorter, tail-short k, label-shorter i l k fl)) (subst (λ z. z ≤ n) (sym is.deep) is.fits) fits g

-- rules
abbrev rule_read : Source → Pat → Exp → ℕ → RuleOf
rule_read src p x place = record { place = at src.file place; pat = pat_of p; exp = exp_of x }

elements : (src : Source) (n : ℕ) {i : List Terminal} {p : Pat} {hp : ℕ} {op : List Token} (a : Read read.Pat) {x : Exp} {h : ℕ} {o : List Token} (r : Read read.Exp) → IsPat src n i p hp op a → IsExp src n (tail a.rest) x h o r →
    rule_read src p x (place_at i) ≡ record { place = at src.file (pat_place a.tree); pat = bare_pat src.file a.tree; exp = bare_exp src.file r.tree }
elements src n {p} a {x} r ip is = ap (λ z. record { place = at src.file z; pat = pat_of p; exp = exp_of x }) (sym ip.place) ∙ ap (λ z. record { place = at src.file (pat_place a.tree); pat = z; exp = exp_of x }) ip.bare
    ∙ ap (λ z. record { place = at src.file (pat_place a.tree); pat = bare_pat src.file a.tree; exp = z }) is.bare

module _ (src : Source) (n : ℕ) (self : Reader) (f : Fixity) {i : List Terminal} {front : List RuleOf} {d : ℕ} {total : Answer Rules} {p : Pat} {hp : ℕ} {op : List Token} (a : Read read.Pat) {x : Exp} {h : ℕ} {o : List Token} (r : Read read.Exp) where
  pub rules-more : {m : List Terminal} → read_pat n f i ≡ ok a → IsPat src n i p hp op a → word_then res.DoubleArrow (self f 0) a.rest ≡ ok r → IsExp src n (tail a.rest) x h o r → after_word res.Bar (left src o) ≡ Some m →
      Collects (rule_list src.file) depth_rules (rule_turn n self f) no_state i front d total →
      Collects (rule_list src.file) depth_rules (rule_turn n self f) no_state m (front ++ rule_read src p x (place_at i) ∷ []) (max (max hp h) d) total
  rules-more {m} ep ip e is at g =
      let q = subst (λ z. after_word res.Bar z ≡ Some m) is.rest at in
      collects-more (rule_list src.file) depth_rules (rule_turn n self f) (rule a.tree r.tree) (rule_read src p x (place_at i)) (max hp h)
      (rule-as n self f no_state i a ep ∙ after-ok _ e ∙ sep-more (rule a.tree r.tree) (last_rule a.tree r.tree) no_state r.rest q)
      (omega (arith, after-shorter res.Bar r.rest m q, is.shorter, ip.shorter, tail-short a.rest))
      (λ b. ap (λ z. z ∷ rule_list src.file b) (sym (elements src n a r ip is))) (λ b. ap (λ z. max (max z (depth r.tree)) (depth_rules b)) (sym ip.depth) ∙ ap (λ z. max (max hp z) (depth_rules b)) (sym is.deep)) refl refl g

  pub rules-last : {start : List Terminal} → read_pat n f i ≡ ok a → IsPat src n i p hp op a → word_then res.DoubleArrow (self f 0) a.rest ≡ ok r → IsExp src n (tail a.rest) x h o r → after_word res.Bar (left src o) ≡ None → length i ≤ length start → d ≤ n →
      Collects (rule_list src.file) depth_rules (rule_turn n self f) no_state i front d total →
      Gave (λ (y : Unit {0}) z. IsList (rule_list src.file) depth_rules src n start (front ++ rule_read src p x (place_at i) ∷ []) (max (max hp h) d) o z) tt total
  rules-last {start} ep ip e is at le fits g =
      let q = subst (λ z. after_word res.Bar z ≡ None) is.rest at in
      collects-last (rule_list src.file) depth_rules (rule_turn n self f) (last_rule a.tree r.tree) (rule_read src p x (place_at i)) (max hp h)
      (rule-as n self f no_state i a ep ∙ after-ok _ e ∙ sep-last (rule a.tree r.tree) (last_rule a.tree r.tree) no_state r.rest q)
      (ap (λ z. z ∷ []) (sym (elements src n a r ip is))) (ap (λ z. max z (depth r.tree)) (sym ip.depth) ∙ ap (λ z. max hp z) (sym is.deep)) refl refl is.rest
      (omega (arith, is.shorter, ip.shorter, tail-short a.rest)) (subst (λ z. max z h ≤ n) (sym ip.depth) (subst (λ z. max (depth_pat a.tree) z ≤ n) (sym is.deep) (omega (arith, ip.fits, is.fits)))) fits g

-- operands
abbrev part_read : Source → tree.Joint → ℕ → Exp → Operand tree.Joint bare.Exp
part_read src j place x = record { joint = j; place = at src.file place; operand = exp_of x }

operand : (src : Source) (n : ℕ) {i : List Terminal} {j : tree.Joint} {x : Exp} {h : ℕ} {o : List Token} (r : Read read.Exp) → IsExp src n i x h o r → joint_of src.file (joint_from j) ≡ j →
    part_read src j (place_at i) x ≡ record { joint = joint_of src.file (joint_from j); place = at src.file (exp_place r.tree); operand = bare_exp src.file r.tree }
operand src n {i} {j} {x} r is file = ap (λ z. record { joint = z; place = at src.file (place_at i); operand = exp_of x }) (sym file)
    ∙ ap (λ z. record { joint = joint_of src.file (joint_from j); place = at src.file z; operand = exp_of x }) (sym is.place)
    ∙ ap (λ z. record { joint = joint_of src.file (joint_from j); place = at src.file (exp_place r.tree); operand = z }) is.bare

module _ (src : Source) (n : ℕ) (self : Reader) (f : Fixity) (l : ℕ) (right : Bool) {i : List Terminal} {front : List (Operand tree.Joint bare.Exp)} {d : ℕ} {total : Answer Parts} {j : tree.Joint} {x : Exp} {h : ℕ} {o : List Token} (r : Read read.Exp) where
  pub parts-more : {m : List Terminal} (k : tree.Joint) → self f (suc l) i ≡ ok r → IsExp src n i x h o r → joint_of src.file (joint_from j) ≡ j → PartGoes f l right (left src o) k m → length m < length (left src o) →
      Collects (operands src.file) depth_parts (part_turn self f l right) (joint_from j) i front d total →
      Collects (operands src.file) depth_parts (part_turn self f l right) (joint_from k) m (front ++ part_read src j (place_at i) x ∷ []) (max h d) total
  parts-more {m} k e is file goes lt g =
      let q = subst (λ z. PartGoes f l right z k m) is.rest goes in
      let s = subst (λ z. length m < length z) is.rest lt in
      collects-more (operands src.file) depth_parts (part_turn self f l right) (part (joint_from j) r.tree) (part_read src j (place_at i) x) h
      (after-ok _ e ∙ q (joint_from j) r.tree) (omega (arith, s, is.shorter))
      (λ b. ap (λ z. z ∷ operands src.file b) (sym (operand src n r is file))) (λ b. ap (λ z. max z (depth_parts b)) (sym is.deep)) refl refl g

  pub parts-last : {start : List Terminal} → self f (suc l) i ≡ ok r → IsExp src n i x h o r → joint_of src.file (joint_from j) ≡ j → PartEnds f l right (left src o) → length i ≤ length start → d ≤ n →
      Collects (operands src.file) depth_parts (part_turn self f l right) (joint_from j) i front d total →
      Gave (λ (y : Unit {0}) a. IsList (operands src.file) depth_parts src n start (front ++ part_read src j (place_at i) x ∷ []) (max h d) o a) tt total
  parts-last {start} e is file ends le fits g =
      let q = subst (λ z. PartEnds f l right z) is.rest ends in
      collects-last (operands src.file) depth_parts (part_turn self f l right) (last_part (joint_from j) r.tree) (part_read src j (place_at i) x) h
      (after-ok _ e ∙ q (joint_from j) r.tree)
      (ap (λ z. z ∷ []) (sym (operand src n r is file))) (sym is.deep) refl refl is.rest (omega (arith, is.shorter)) (subst (λ z. z ≤ n) (sym is.deep) is.fits) fits g

-- atomic expressions
module _ (src : Source) (n : ℕ) (atom : AtomReader) (f : Fixity) {i : List Terminal} {front : List bare.Exp} {d : ℕ} {total : Answer Exps} {x : Exp} {h : ℕ} {o : List Token} (r : Read read.Exp) where
  pub atoms-more : begins_atom f i ≡ true → atom f i ≡ ok r → IsExp src n i x h o r → Collects (exp_list src.file) depth_exps (atoms_turn atom f) no_state i front d total →
      Collects (exp_list src.file) depth_exps (atoms_turn atom f) no_state (left src o) (front ++ exp_of x ∷ []) (max h d) total
  atoms-more b e is g =
      subst (λ z. Collects (exp_list src.file) depth_exps (atoms_turn atom f) no_state z (front ++ exp_of x ∷ []) (max h d) total) (sym is.rest)
      (collects-more (exp_list src.file) depth_exps (atoms_turn atom f) (exp r.tree) (exp_of x) h (atoms-as atom f no_state i b ∙ after-ok _ e) is.shorter
      (λ b. ap (λ z. z ∷ exp_list src.file b) (sym is.bare)) (λ b. ap (λ z. max z (depth_exps b)) (sym is.deep)) refl refl g)

  pub atoms-last : {start : List Terminal} → begins_atom f i ≡ true → atom f i ≡ ok r → IsExp src n i x h o r → begins_atom f (left src o) ≡ false → length i ≤ length start → d ≤ n →
      Collects (exp_list src.file) depth_exps (atoms_turn atom f) no_state i front d total →
      Gave (λ (y : Unit {0}) a. IsList (exp_list src.file) depth_exps src n start (front ++ exp_of x ∷ []) (max h d) o a) tt total
  atoms-last {start} b e is stops le fits g =
      collects-end (exp_list src.file) depth_exps (atoms_turn atom f) front (exp_of x) no_exps (atoms-none atom f no_state (left src o) stops) refl refl refl
      (subst (λ z. length z < length start) (sym is.rest) (omega (arith, is.shorter))) (subst (λ z. max z d ≤ n) (sym is.deep) (omega (arith, is.fits, fits))) (atoms-more b e is g)

-- failures

pub exps-fails : (src : Source) (w c : Reserved) (self : Reader) (f : Fixity) (e : Stop) (i0 : List Terminal) {i : List Terminal} {front : List bare.Exp} {d : ℕ} → Fails e (self f 0 i) →
    Collects (exp_list src.file) depth_exps (exps_turn w self f) no_state i front d (whole (exps_turn w self f) no_state i0) → Fails e (closed_exps w c self f i0)
exps-fails src w c self f e i0 {i} h g =
    fails-then e (whole (exps_turn w self f) no_state i0) (λ es m. word_then c (λ o. read es o) m)
    (collects-fails (exp_list src.file) depth_exps (exps_turn w self f) e (fails-then e (self f 0 i) (λ x o. separated (after_word w o) (exp x) (exp x no_exps) no_state o) h) g)

pub rows-fails : (src : Source) (self : Reader) (f : Fixity) (e : Stop) (i0 : List Terminal) {i k : List Terminal} {l : Placed Label} {front : List ExpFieldOf} {d : ℕ} → first_as as_label i ≡ taken l k → Fails e (word_then res.Equals (self f 0) k) →
    Collects (field_list src.file) depth_exp_fields (row_turn self f) no_state i front d (whole (row_turn self f) no_state i0) → Fails e (closed_rows self f i0)
rows-fails src self f e i0 {i} {k} {l} fl h g =
    fails-then e (whole (row_turn self f) no_state i0) (λ fs m. word_then res.RightBrace (λ o. read fs o) m)
    (collects-fails (field_list src.file) depth_exp_fields (row_turn self f) e
    (fails-by e _ _ (row-as self f no_state i l k fl) (fails-then e (word_then res.Equals (self f 0) k) (λ x q. separated (after_word res.Comma q) (exp_field l.it x) (exp_field l.it x no_exp_fields) no_state q) h)) g)

pub rows-none : (src : Source) (self : Reader) (f : Fixity) (left_ : ℕ) (i0 : List Terminal) {i : List Terminal} {front : List ExpFieldOf} {d : ℕ} → first_as as_label i ≡ None →
    Collects (field_list src.file) depth_exp_fields (row_turn self f) no_state i front d (whole (row_turn self f) no_state i0) → closed_rows self f i0 ≡ bad
rows-none src self f k i0 {i} n g =
    fails-then (stop.Bad k) (whole (row_turn self f) no_state i0) (λ fs m. word_then res.RightBrace (λ o. read fs o) m) (collects-fails (field_list src.file) depth_exp_fields (row_turn self f) (stop.Bad k) (row-none self f no_state i n) g)

pub rules-fails-pat : (src : Source) (n : ℕ) (self : Reader) (f : Fixity) (e : Stop) (i0 : List Terminal) {i : List Terminal} {front : List RuleOf} {d : ℕ} → Fails e (read_pat n f i) →
    Collects (rule_list src.file) depth_rules (rule_turn n self f) no_state i front d (read_match n self f i0) → Fails e (read_match n self f i0)
rules-fails-pat src n self f e i0 {i} h g =
    collects-fails (rule_list src.file) depth_rules (rule_turn n self f) e
    (fails-then e (read_pat n f i) (λ a m. word_then res.DoubleArrow (λ k. then_read (self f 0 k) (λ x o. separated (after_word res.Bar o) (rule a x) (last_rule a x) no_state o)) m) h) g

pub rules-fails : (src : Source) (n : ℕ) (self : Reader) (f : Fixity) (e : Stop) (i0 : List Terminal) {i : List Terminal} {front : List RuleOf} {d : ℕ} (a : Read read.Pat) → read_pat n f i ≡ ok a → Fails e (word_then res.DoubleArrow (self f 0) a.rest) →
    Collects (rule_list src.file) depth_rules (rule_turn n self f) no_state i front d (read_match n self f i0) → Fails e (read_match n self f i0)
rules-fails src n self f e i0 {i} a ep h g =
    collects-fails (rule_list src.file) depth_rules (rule_turn n self f) e
    (fails-by e _ _ (rule-as n self f no_state i a ep) (fails-then e (word_then res.DoubleArrow (self f 0) a.rest) (λ x o. separated (after_word res.Bar o) (rule a.tree x) (last_rule a.tree x) no_state o) h)) g

-- what a turn takes
pub exp-shorter : (src : Source) (n : ℕ) (w : Reserved) {i m : List Terminal} {x : Exp} {h : ℕ} {o : List Token} (r : Read read.Exp) → IsExp src n i x h o r → after_word w (left src o) ≡ Some m → length m < length i
exp-shorter src n w {m} r is at = let q = subst (λ z. after_word w z ≡ Some m) is.rest at in omega (arith, after-shorter w r.rest m q, is.shorter)

pub exp-low : {src : Source} {n : ℕ} {i : List Terminal} {x : Exp} {h : ℕ} {o : List Token} {r : Read read.Exp} → IsExp src n i x h o r → h ≤ n
exp-low {n} is = subst (λ z. z ≤ n) (sym is.deep) is.fits

pub atoms-fails : (src : Source) (atom : AtomReader) (f : Fixity) (e : Stop) {i : List Terminal} {front : List bare.Exp} {d : ℕ} {total : Answer Exps} → begins_atom f i ≡ true → Fails e (atom f i) →
    Collects (exp_list src.file) depth_exps (atoms_turn atom f) no_state i front d total → Fails e total
atoms-fails src atom f e {i} b h g =
    collects-fails (exp_list src.file) depth_exps (atoms_turn atom f) e (fails-by e _ _ (atoms-as atom f no_state i b) (fails-then e (atom f i) (λ x o. read (more (exp x) no_state) o) h)) g

-- a level that the code counts up
pub exp-at : (self : Reader) (f : Fixity) (l : ℕ) (i : List Terminal) → self f (suc l) i ≡ self f (l + 1) i
exp-at self f l i = ap (λ z. self f z i) (omega arith)

pub parts-fails : (src : Source) (self : Reader) (f : Fixity) (l : ℕ) (right : Bool) (e : Stop) {i : List Terminal} {front : List (Operand tree.Joint bare.Exp)} {d : ℕ} {total : Answer Parts} (j : read.Joint) → Fails e (self f (l + 1) i) →
    Collects (operands src.file) depth_parts (part_turn self f l right) j i front d total → Fails e total
parts-fails src self f l right e {i} j h g =
    collects-fails (operands src.file) depth_parts (part_turn self f l right) e (fails-then e (self f (suc l) i) (λ b o. part_next f l right j b o (next_of f o)) (fails-by e _ _ (exp-at self f l i) h)) g

pub parts-fails-next : (src : Source) (n : ℕ) (self : Reader) (f : Fixity) (l : ℕ) (right : Bool) (e : Stop) {i : List Terminal} {front : List (Operand tree.Joint bare.Exp)} {d : ℕ} {total : Answer Parts} (j : read.Joint) {x : Exp} {h : ℕ} {o : List Token} (r : Read read.Exp) →
    self f (l + 1) i ≡ ok r → IsExp src n i x h o r → PartFails f l right (left src o) e → Collects (operands src.file) depth_parts (part_turn self f l right) j i front d total → Fails e total
parts-fails-next src n self f l right e {i} j r q is w g =
    collects-fails (operands src.file) depth_parts (part_turn self f l right) e
    (fails-by e _ _ (after-ok (λ b o. part_next f l right j b o (next_of f o)) (exp-at self f l i ∙ q)) (subst (λ z. PartFails f l right z e) is.rest w j r.tree)) g

pub rule-shorter : (src : Source) (n : ℕ) {i m : List Terminal} {p : Pat} {hp : ℕ} {op : List Token} (a : Read read.Pat) {x : Exp} {h : ℕ} {o : List Token} (r : Read read.Exp) → IsPat src n i p hp op a → IsExp src n (tail a.rest) x h o r →
    after_word res.Bar (left src o) ≡ Some m → length m < length i
rule-shorter src n {i} {m} a r ip is at = let q = subst (λ z. after_word res.Bar z ≡ Some m) is.rest at in omega (arith, after-shorter res.Bar r.rest m q, is.shorter, ip.shorter, tail-short a.rest)

pub rule-low : {src : Source} {n : ℕ} {i : List Terminal} {p : Pat} {hp : ℕ} {op : List Token} {a : Read read.Pat} → IsPat src n i p hp op a → hp ≤ n
rule-low {n} ip = subst (λ z. z ≤ n) (sym ip.depth) ip.fits

pub row-shorter : (src : Source) (n : ℕ) (i : List Terminal) {k m : List Terminal} (l : Placed Label) {x : Exp} {h : ℕ} {o : List Token} (r : Read read.Exp) → first_as as_label i ≡ taken l k → IsExp src n (tail k) x h o r →
    after_word res.Comma (left src o) ≡ Some m → length m < length i
row-shorter src n i {k} {m} l r fl is at = let q = subst (λ z. after_word res.Comma z ≡ Some m) is.rest at in omega (arith, after-shorter res.Comma r.rest m q, is.shorter, tail-short k, label-shorter i l k fl)

-- the same phrase, where the terminals have another name
pub moved-exp : (src : Source) (n : ℕ) (g : List Terminal → Answer read.Exp) {k m : List Terminal} {x : Exp} {h : ℕ} {o : List Token} → k ≡ m → Gave (λ (y : Unit {0}) r. IsExp src n (tail k) x h o r) tt (g k) →
    Gave (λ (y : Unit {0}) r. IsExp src n (tail m) x h o r) tt (g m)
moved-exp src n g {x} {h} {o} e y = subst (λ z. Gave (λ (y : Unit {0}) r. IsExp src n (tail z) x h o r) tt (g z)) e y
