-- Lemmas about what is read of expressions.
use Rattle.std.proofs.Common.{◌≡◌, ℕ, ◌<◌, ◌≤◌, List, [], ◌∷◌, length, Bool, true, false, Option, Some, None, refl, sym, ap, subst, arith, if◌then◌else◌}
use Rattle.mlc_names.specs.declared.token.Reserved.{Reserved}
use Rattle.mlc_names.specs.declared.token.Reserved.TheVariants as res
use Rattle.sml_tree.specs.Terminal.{Terminal, LongVid, reserved, number, constant, alpha, symbol, star, long_alpha, long_symbol, long_star, type_var}
use Rattle.sml_tree.specs.Fixity.{Fixity, fix_of}
use Rattle.sml_tree.specs.declared.fixity.Infix.{Infix}
use Rattle.sml_tree.specs.declared.ident.Vid.TheVariants.{Equals}
use Rattle.sml_tree.specs.BareTree as bare
use Rattle.sml_tree.specs.Bare.{bare_exp, bare_exp_fields, bare_rules, exp_list, at, bare_decs, bare_dec, is_directive}
use Rattle.sml_tree.specs.TreeOf.{exp_fields_of, rules_of, decs_of}
use Rattle.sml_tree.specs.ReadTree as read
use Rattle.sml_tree.specs.ReadTree.{Placed, Exps, no_exps, exp, ExpFields, no_exp_fields, exp_field, Rules, last_rule, rule, Decs, no_decs, dec, vid_exp, app, exp_place, Parts, part, last_part, Joint}
use Rattle.sml_grammar.specs.Answer.{Answer, ok, bad, deep, read, then_read}
use Rattle.sml_grammar.specs.Terminals.{Taken, taken, first_as, as_constant, as_label, after_word, on_some, on_taken, then_taken, word_then, separated, NoState, no_state, names_vid, short, place_at, tail, word_at, is_word, word_of}
use Rattle.sml_grammar.specs.Expressions.{atom_start, equals_unless, vid_if}
use Rattle.sml_grammar.proofs.Answers.{got_some, not_some, not_none}
use Rattle.sml_grammar.proofs.Vids.{names-is, names-shorter}
use Rattle.sml_phrases.specs.ExpressionsRead.{leaf_by, equals_if, atom_vid, field_list, rule_list, dec_list}

-- elements

pub fields_all : (f : ℕ) (fs : ExpFields) → exp_fields_of (field_list f fs) ≡ bare_exp_fields f fs
fields_all f no_exp_fields = refl
fields_all f (exp_field l e fs) = ap (bare.exp_field l (bare_exp f e)) (fields_all f fs)

pub rules_all : (f : ℕ) (rs : Rules) → rules_of (rule_list f rs) ≡ bare_rules f rs
rules_all f (last_rule a e) = refl
rules_all f (rule a e rs) = ap (bare.rule (at f (read.pat_place a)) (Rattle.sml_tree.specs.Bare.bare_pat f a) (bare_exp f e)) (rules_all f rs)

decs_if : (b : Bool) (x : bare.Dec) (l : List bare.Dec) (r : bare.Decs) → decs_of l ≡ r → decs_of (if b then l else x ∷ l) ≡ (if b then r else bare.dec x r)
decs_if true x l r e = e
decs_if false x l r e = ap (bare.dec x) e

pub decs_all : (f : ℕ) (ds : Decs) → decs_of (dec_list f ds) ≡ bare_decs f ds
decs_all f no_decs = refl
decs_all f (dec d ds) = decs_if (is_directive d) (bare_dec f d) (dec_list f ds) (bare_decs f ds) (decs_all f ds)

-- identifiers

equals-there : (d : Option Infix) (p : ℕ) (o : List Terminal) (x : Placed LongVid) (m : List Terminal) → equals_if d p o ≡ taken x m → leaf_by (equals_unless d p o) ≡ read (vid_exp p x) m
equals-there None p o x m e = ap (λ (z : Taken (Placed LongVid)). read (vid_exp p z.it) z.rest) (got_some e)
equals-there (Some d) p o x m e = absurd (cc)

pub leaf-vid : (f : Fixity) (i : List Terminal) (x : Placed LongVid) (o : List Terminal) → first_as as_constant i ≡ None → after_word res.Hash i ≡ None → atom_vid f i ≡ taken x o →
    leaf_by (atom_start f i) ≡ read (vid_exp (place_at i) x) o
leaf-vid f [] x o c h e = absurd (cc)
leaf-vid f (reserved p res.Hash ∷ i) x o c h e = not_none h
leaf-vid f (reserved p res.Equals ∷ i) x o c h e = equals-there (fix_of Equals f) p i x o e
leaf-vid f (reserved p res.Op ∷ i) x o c h e = ap (λ v. leaf_by (vid_if p v)) e
leaf-vid f (reserved p _ ∷ i) x o c h e = not_some e
leaf-vid f (number p n plain ∷ i) x o c h e = not_none c
leaf-vid f (constant p y ∷ i) x o c h e = not_none c
leaf-vid f (alpha p y ∷ i) x o c h e = ap (λ v. leaf_by (vid_if p v)) e
leaf-vid f (symbol p y ∷ i) x o c h e = ap (λ v. leaf_by (vid_if p v)) e
leaf-vid f (star p y ∷ i) x o c h e = ap (λ v. leaf_by (vid_if p v)) e
leaf-vid f (long_alpha p qs y ∷ i) x o c h e = ap (λ v. leaf_by (vid_if p v)) e
leaf-vid f (long_symbol p qs y ∷ i) x o c h e = ap (λ v. leaf_by (vid_if p v)) e
leaf-vid f (long_star p qs y ∷ i) x o c h e = ap (λ v. leaf_by (vid_if p v)) e
leaf-vid f (type_var p a ∷ i) x o c h e = ap (λ v. leaf_by (vid_if p v)) e

-- what follows a word

chose-some : (b : Bool) (o m : List Terminal) → (if b then Some o else None) ≡ Some m → o ≡ m
chose-some true o m e = got_some e
chose-some false o m e = not_some e

pub after-shorter : (w : Reserved) (i o : List Terminal) → after_word w i ≡ Some o → length o < length i
after-shorter w [] o e = not_some e
after-shorter w (t ∷ i) o e = let q = chose-some (is_word w (word_of t)) i o e in subst (λ z. length z < length (t ∷ i)) q (omega arith)

pub tail-short : (i : List Terminal) → length (tail i) ≤ length i
tail-short [] = omega arith
tail-short (t ∷ i) = omega arith

equals-shorter : (d : Option Infix) (p : ℕ) (i : List Terminal) (x : Placed LongVid) (o m : List Terminal) → length i < length m → equals_if d p i ≡ taken x o → length o < length m
equals-shorter None p i x o m lt e = subst (λ (z : Taken (Placed LongVid)). length z.rest < length m) (got_some e) lt
equals-shorter (Some d) p i x o m lt e = absurd (cc)

pub vid-shorter : (f : Fixity) (i : List Terminal) (x : Placed LongVid) (o : List Terminal) → atom_vid f i ≡ taken x o → length o < length i
vid-shorter f i x o e = go (after_word res.Equals i) refl e
  where
    go : (v : Option (List Terminal)) → after_word res.Equals i ≡ v → on_some v (equals_if (fix_of Equals f) (place_at i)) (names_vid f i) ≡ taken x o → length o < length i
    go None h e = names-shorter (names-is f i x o e)
    go (Some m) h e = equals-shorter (fix_of Equals f) (place_at i) m x o i (after-shorter res.Equals i m h) e

-- a word and what is read after it

pub word-in : {A B : Type 0} (w : Reserved) (g : List Terminal → Answer A) (h : A → List Terminal → Answer B) (i : List Terminal) → word_then w (λ k. then_read (g k) h) i ≡ then_read (word_then w g i) h
word-in w g h i = go (after_word w i)
  where
    go : (v : Option (List Terminal)) → on_some v (λ k. then_read (g k) h) bad ≡ then_read (on_some v g bad) h
    go None = refl
    go (Some m) = refl

pub then_in : {A B C : Type 0} (m : Answer A) (f : A → List Terminal → Answer B) (g : B → List Terminal → Answer C) → then_read (then_read m f) g ≡ then_read m (λ a o. then_read (f a o) g)
then_in (ok x) f g = refl
then_in bad f g = refl
then_in deep f g = refl

-- a closing word after what was read
pub closed-in : {A B : Type 0} (m : Answer A) (c : Reserved) (put : A → B) → then_read (then_read m (λ es k. word_then c (λ o. read es o) k)) (λ es o. read (put es) o) ≡ then_read m (λ es k. word_then c (λ o. read (put es) o) k)
closed-in (ok x) c put = sym (word-in c (λ o. read x.tree o) (λ es o. read (put es) o) x.rest)
closed-in bad c put = refl
closed-in deep c put = refl

-- a label takes a terminal
pub label-shorter : (i : List Terminal) (l : Placed Rattle.mlc_names.specs.declared.label.Label.Label) (o : List Terminal) → first_as as_label i ≡ taken l o → length o < length i
label-shorter [] l o e = not_some e
label-shorter (t ∷ i) l o e = go (as_label t) e
  where
    go : (v : Option Rattle.mlc_names.specs.declared.label.Label.Label) → Rattle.sml_grammar.specs.Terminals.placed_if (Rattle.sml_grammar.specs.Terminals.place_of t) v i ≡ taken l o → length o < length (t ∷ i)
    go None e = not_some e
    go (Some b) e = subst (λ (z : Taken (Placed Rattle.mlc_names.specs.declared.label.Label.Label)). length z.rest < length (t ∷ i)) (got_some e) (omega arith)
