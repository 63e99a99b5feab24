-- The loops that read patterns.
use Rattle.std.proofs.Common.{◌≡◌, ℕ, ◌<◌, ◌≤◌, List, [], ◌∷◌, ◌++◌, length, map, max, Bool, true, false, Some, None, refl, sym, ap, ◌∙◌, subst, arith, append-nil}
use Rattle.std.proofs.lemmas.List.{map_push}
use Rattle.mlc_names.specs.declared.token.Token.{Token}
use Rattle.mlc_names.specs.declared.token.Reserved.TheVariants as res
use Rattle.sml_tree.specs.Terminal.{Terminal}
use Rattle.sml_tree.specs.BareTree as tree
use Rattle.sml_tree.specs.ReadTree as read_tree
use Rattle.sml_tree.specs.ReadTree.{Pats, no_pats, pat, PatFields, no_pat_fields, PatParts, last_pat_part, pat_part, Placed, pat_place}
use Rattle.sml_tree.specs.Fixity.{Fixity}
use Rattle.sml_tree.specs.Bare.{pat_list, bare_pat, bare_pat_fields, at}
use Rattle.sml_tree.specs.Depth.{depth_pat, depth_pats, depth_pat_field, depth_pat_fields}
use Rattle.sml_tree.specs.TreeOf.{pat_of, pat_field_of, PatFieldOf, pat_fields_of}
use Rattle.sml_tree.specs.declared.tree.Pat.{Pat}
use Rattle.sml_tree.specs.declared.tree.PatField.{PatField}
use Rattle.sml_grammar.specs.Answer.{Read, Answer, ok, read, then_read, last, more, whole}
use Rattle.sml_grammar.specs.Terminals.{no_state, after_word, separated}
use Rattle.sml_grammar.specs.Patterns.{PatRowRead, read_pats, read_atpat, pat_commas_turn, atpats_turn, pat_row_turn, field, put_field, only_field, only_dots, begins_pat}
use Rattle.phrase_base.specs.declared.source.Source.{Source}
use Rattle.phrase_base.specs.declared.stop.Stop.{Stop}
use Rattle.phrase_base.specs.Gives.{Fails}
use Rattle.phrase_base.specs.Left.{left}
use Rattle.sml_phrases.specs.PatternsRead.{IsPat, IsPatAt, IsPats, IsPatField, IsPatRow, field_of}
use Rattle.phrase_base.proofs.Loop.{fails-then, fails-by}
use Rattle.phrase_base.proofs.Listing.{Listing, Listed, listing-start, listing-more, listing-last, listing-fails, listing-at, Marking, Marked, marking-start, marking-more, marking-last, same-tree}
use Rattle.sml_phrases.proofs.TypeForms.{Said}

-- Patterns with commas between them.

abbrev pub PatsGoing : Source → Fixity → ℕ → List Terminal → List Pat → ℕ → List Pat → ℕ → Answer Pats → Type 0
PatsGoing s f n i front d0 all d total = Listing (pat_commas_turn (read_pats n).pat f) no_state i (pat_list s.file) depth_pats n (map pat_of front) d0 (map pat_of all) d total

module _ (s : Source) (f : Fixity) (n : ℕ) (front : List Pat) (d0 : ℕ) (all all2 : List Pat) (d d2 : ℕ) (i : List Terminal) (total : Answer Pats) (t : Pat) (e : ℕ) (o : List Token) (got : Read read_tree.Pat) (pushed : all2 ≡ all ++ t ∷ []) (deepest : d2 ≡ max e d) where
  pats-list : pat_of t ≡ bare_pat s.file got.tree → map pat_of all2 ≡ map pat_of all ++ bare_pat s.file got.tree ∷ []
  pats-list b = ap (map pat_of) pushed ∙ map_push pat_of all t ∙ ap (λ (z : tree.Pat). map pat_of all ++ z ∷ []) b

  pub pats-more : {m : List Terminal} → (read_pats n).pat f 0 i ≡ ok got → IsPat s n i t e o got → after_word res.Comma (left s o) ≡ Some m → length m < length i → PatsGoing s f n i front d0 all d total → PatsGoing s f n m front d0 all2 d2 total
  pats-more {m} h is sep lt g =
      let sep' : after_word res.Comma got.rest ≡ Some m = subst (λ (z : List Terminal). after_word res.Comma z ≡ Some m) is.rest sep in
      let one : pat_commas_turn (read_pats n).pat f no_state i ≡ read (more (pat got.tree) no_state) m = rw (h, sep') refl in
      listing-at (pat_commas_turn (read_pats n).pat f) (pat_list s.file) depth_pats n (map pat_of front) d0 (pats-list is.bare) (deepest ∙ ap (λ (k : ℕ). max k d) is.depth)
      (listing-more (pat_commas_turn (read_pats n).pat f) (pat_list s.file) depth_pats n (map pat_of front) d0 (bare_pat s.file got.tree) (depth_pat got.tree) one lt (λ b. refl) (λ b. refl) is.fits g)

  pub pats-last : (j : List Terminal) → (read_pats n).pat f 0 i ≡ ok got → IsPat s n i t e o got → after_word res.Comma (left s o) ≡ None → length i ≤ length j → PatsGoing s f n i front d0 all d total → Said (IsPats s n j front d0 all2 d2 o) total
  pats-last j h is sep le g =
      let sep' : after_word res.Comma got.rest ≡ None = subst (λ (z : List Terminal). after_word res.Comma z ≡ None) is.rest sep in
      let one : pat_commas_turn (read_pats n).pat f no_state i ≡ read (last (pat got.tree no_pats)) got.rest = rw (h, sep') refl in
      let h2 = listing-last (pat_commas_turn (read_pats n).pat f) (pat_list s.file) depth_pats n (map pat_of front) d0 (bare_pat s.file got.tree ∷ []) (depth_pat got.tree) one refl (omega arith) is.fits g in
      let q = is.depth in let r = h2.deep in let ff = h2.fits in let sh = is.shorter in
      record { got = record { tree = h2.tree; rest = got.rest }; is = h2.is; same = record { rest = is.rest; bare = pats-list is.bare ∙ sym h2.shows; depth = omega arith; fits = omega arith; shorter = omega arith } }

pub pats-fails : (s : Source) (f : Fixity) (n : ℕ) (front : List Pat) (d0 : ℕ) (all : List Pat) (d : ℕ) (i : List Terminal) (total : Answer Pats) (e : Stop) → Fails e ((read_pats n).pat f 0 i) → PatsGoing s f n i front d0 all d total → Fails e total
pats-fails s f n front d0 all d i total e h g =
    listing-fails (pat_commas_turn (read_pats n).pat f) (pat_list s.file) depth_pats n (map pat_of front) d0 e (fails-then e ((read_pats n).pat f 0 i) (λ a o. separated (after_word res.Comma o) (pat a) (pat a no_pats) no_state o) h) g

-- Atomic patterns after each other.

abbrev pub AtPatsGoing : Source → Fixity → ℕ → List Terminal → List Pat → ℕ → List Pat → ℕ → Answer Pats → Type 0
AtPatsGoing s f n i front d0 all d total = Listing (atpats_turn n f) no_state i (pat_list s.file) depth_pats n (map pat_of front) d0 (map pat_of all) d total

module _ (s : Source) (f : Fixity) (n : ℕ) (front : List Pat) (d0 : ℕ) (all : List Pat) (d : ℕ) (i : List Terminal) (total : Answer Pats) where
  pub atpats-more : (all2 : List Pat) (d2 : ℕ) (t : Pat) (e : ℕ) (o : List Token) (got : Read read_tree.Pat) → all2 ≡ all ++ t ∷ [] → d2 ≡ max e d → begins_pat f i ≡ true → read_atpat n f i ≡ ok got → IsPatAt s f 1000 n i t e o got → AtPatsGoing s f n i front d0 all d total → AtPatsGoing s f n (left s o) front d0 all2 d2 total
  atpats-more all2 d2 t e o got pushed deepest b h is g =
      let one : atpats_turn n f no_state i ≡ read (more (pat got.tree) no_state) got.rest = rw (b, h) refl in
      let q : map pat_of all2 ≡ map pat_of all ++ bare_pat s.file got.tree ∷ [] = ap (map pat_of) pushed ∙ map_push pat_of all t ∙ ap (λ (z : tree.Pat). map pat_of all ++ z ∷ []) is.bare in
      subst (λ (z : List Terminal). AtPatsGoing s f n z front d0 all2 d2 total) (sym is.rest)
      (listing-at (atpats_turn n f) (pat_list s.file) depth_pats n (map pat_of front) d0 q (deepest ∙ ap (λ (k : ℕ). max k d) is.depth)
      (listing-more (atpats_turn n f) (pat_list s.file) depth_pats n (map pat_of front) d0 (bare_pat s.file got.tree) (depth_pat got.tree) one is.shorter (λ b. refl) (λ b. refl) is.fits g))

  pub atpats-last : (j : List Terminal) (o : List Token) → i ≡ left s o → begins_pat f i ≡ false → length i ≤ length j → AtPatsGoing s f n i front d0 all d total → Said (IsPats s n j front d0 all d o) total
  atpats-last j o at b le g =
      let one : atpats_turn n f no_state i ≡ read (last no_pats) i = rw b refl in
      let h2 = listing-last (atpats_turn n f) (pat_list s.file) depth_pats n (map pat_of front) d0 [] 0 one refl refl (omega arith) g in
      let r = h2.deep in let ff = h2.fits in
      record { got = record { tree = h2.tree; rest = i }; is = h2.is; same = record { rest = sym at; bare = sym (append-nil (map pat_of all)) ∙ sym h2.shows; depth = omega arith; fits = omega arith; shorter = le } }

  pub atpats-fails : (e : Stop) → begins_pat f i ≡ true → Fails e (read_atpat n f i) → AtPatsGoing s f n i front d0 all d total → Fails e total
  atpats-fails e b h g =
      let one : atpats_turn n f no_state i ≡ then_read (read_atpat n f i) (λ a o. read (more (pat a) no_state) o) = rw b refl in
      listing-fails (atpats_turn n f) (pat_list s.file) depth_pats n (map pat_of front) d0 e (fails-by e (atpats_turn n f no_state i) _ one (fails-then e (read_atpat n f i) _ h)) g

-- The fields of record patterns.

abbrev pub field_list : ℕ → PatFields → List PatFieldOf
field_list f no_pat_fields = []
field_list f (read_tree.pat_field a fs) = field_of f a ∷ field_list f fs

pub field_list-is : (f : ℕ) (fs : PatFields) → bare_pat_fields f fs ≡ pat_fields_of (field_list f fs)
field_list-is f no_pat_fields = refl
field_list-is f (read_tree.pat_field (read_tree.labelled l a) fs) = ap (tree.pat_field l (bare_pat f a)) (field_list-is f fs)
field_list-is f (read_tree.pat_field (read_tree.punned p x t) fs) = ap (tree.pat_field (field_of f (read_tree.punned p x t)).label (field_of f (read_tree.punned p x t)).pat) (field_list-is f fs)
field_list-is f (read_tree.pat_field (read_tree.punned_as p x t a) fs) = ap (tree.pat_field (field_of f (read_tree.punned_as p x t a)).label (field_of f (read_tree.punned_as p x t a)).pat) (field_list-is f fs)

abbrev pub row_list : ℕ → PatRowRead → List PatFieldOf
row_list f r = field_list f r.fields

abbrev pub row_depth : PatRowRead → ℕ
row_depth r = depth_pat_fields r.fields

abbrev pub row_dots : PatRowRead → Bool
row_dots r = r.dots

pub record RowGoing (s : Source) (f : Fixity) (n : ℕ) (i : List Terminal) (all : List PatField) (d : ℕ) (total : Answer PatRowRead) : Type 0 where
  pub lists : Listing (pat_row_turn n (read_pats n).pat f) no_state i (row_list s.file) row_depth n [] 0 (map pat_field_of all) d total
  pub marks : Marking (pat_row_turn n (read_pats n).pat f) no_state i row_dots total

module _ (s : Source) (f : Fixity) (n : ℕ) where
  pub row-start : (i : List Terminal) (all : List PatField) → all ≡ [] → RowGoing s f n i all 0 (whole (pat_row_turn n (read_pats n).pat f) no_state i)
  row-start i all e = record {
    lists = listing-at (pat_row_turn n (read_pats n).pat f) (row_list s.file) row_depth n [] 0 (ap (map pat_field_of) e) refl (listing-start (pat_row_turn n (read_pats n).pat f) (row_list s.file) row_depth n [] 0 no_state i (omega arith));
    marks = marking-start (pat_row_turn n (read_pats n).pat f) row_dots no_state i;
  }

  module _ (all : List PatField) (d : ℕ) (i : List Terminal) (total : Answer PatRowRead) where
    row-said : (all2 : List PatField) (d2 : ℕ) (dots : Bool) (j : List Terminal) (o : List Token) (m : List Terminal) → left s o ≡ m → length m < length j → Listed (row_list s.file) row_depth n [] 0 (map pat_field_of all2) d2 total m → Marked row_dots dots total m → Said (IsPatRow s n j all2 dots d2 o) total
    row-said all2 d2 dots j o m at sh a b =
        let e : a.tree ≡ b.tree = same-tree a.is b.is in let r = a.deep in let ff = a.fits in
        record { got = record { tree = a.tree; rest = m }; is = a.is; same = record { rest = at; bare = ap pat_fields_of (sym a.shows) ∙ sym (field_list-is s.file a.tree.fields); dots_are = sym b.marks ∙ ap row_dots (sym e); depth = omega arith; fits = omega arith; shorter = sh } }

    pub row-dots : (j : List Terminal) (o : List Token) → after_word res.Dots i ≡ Some (left s o) → length (left s o) < length j → RowGoing s f n i all d total → Said (IsPatRow s n j all true d o) total
    row-dots j o h le g =
        let one : pat_row_turn n (read_pats n).pat f no_state i ≡ read (last only_dots) (left s o) = rw h refl in
        let a = listing-last (pat_row_turn n (read_pats n).pat f) (row_list s.file) row_depth n [] 0 [] 0 one refl refl (omega arith) g.lists in
        let b = marking-last (pat_row_turn n (read_pats n).pat f) row_dots true one refl g.marks in
        let q : max 0 d ≡ d = omega arith in
        row-said all d true j o (left s o) refl le (subst (λ (k : ℕ). Listed (row_list s.file) row_depth n [] 0 (map pat_field_of all) k total (left s o)) q (subst (λ (z : List PatFieldOf). Listed (row_list s.file) row_depth n [] 0 z (max 0 d) total (left s o)) (append-nil (map pat_field_of all)) a)) b

    pub row-fails : (e : Stop) → after_word res.Dots i ≡ None → Fails e (field n (read_pats n).pat f i) → RowGoing s f n i all d total → Fails e total
    row-fails e h fs g =
        let one : pat_row_turn n (read_pats n).pat f no_state i ≡ then_read (field n (read_pats n).pat f i) (λ a o. separated (after_word res.Comma o) (put_field a) (only_field a) no_state o) = rw h refl in
        listing-fails (pat_row_turn n (read_pats n).pat f) (row_list s.file) row_depth n [] 0 e (fails-by e (pat_row_turn n (read_pats n).pat f no_state i) _ one (fails-then e (field n (read_pats n).pat f i) _ fs)) g.lists

    module _ (all2 : List PatField) (d2 : ℕ) (t : PatField) (e : ℕ) (o : List Token) (got : Read read_tree.PatField) (pushed : all2 ≡ all ++ t ∷ []) (deepest : d2 ≡ max e d) where
      row-list : pat_field_of t ≡ field_of s.file got.tree → map pat_field_of all2 ≡ map pat_field_of all ++ field_of s.file got.tree ∷ []
      row-list b = ap (map pat_field_of) pushed ∙ map_push pat_field_of all t ∙ ap (λ (z : PatFieldOf). map pat_field_of all ++ z ∷ []) b

      pub row-more : (m : List Terminal) → after_word res.Dots i ≡ None → field n (read_pats n).pat f i ≡ ok got → IsPatField s n i t e o got → after_word res.Comma (left s o) ≡ Some m → length m < length i → RowGoing s f n i all d total → RowGoing s f n m all2 d2 total
      row-more m q h is sep lt g =
          let sep' : after_word res.Comma got.rest ≡ Some m = subst (λ (z : List Terminal). after_word res.Comma z ≡ Some m) is.rest sep in
          let one : pat_row_turn n (read_pats n).pat f no_state i ≡ read (more (put_field got.tree) no_state) m = rw (q, h, sep') refl in
          record {
            lists = listing-at (pat_row_turn n (read_pats n).pat f) (row_list s.file) row_depth n [] 0 (row-list is.bare) (deepest ∙ ap (λ (k : ℕ). max k d) is.depth)
                (listing-more (pat_row_turn n (read_pats n).pat f) (row_list s.file) row_depth n [] 0 (field_of s.file got.tree) (depth_pat_field got.tree) one lt (λ b. refl) (λ b. refl) is.fits g.lists);
            marks = marking-more (pat_row_turn n (read_pats n).pat f) row_dots one lt (λ b. refl) g.marks;
          }

      pub row-last : (j : List Terminal) → after_word res.Dots i ≡ None → field n (read_pats n).pat f i ≡ ok got → IsPatField s n i t e o got → after_word res.Comma (left s o) ≡ None → length i ≤ length j → RowGoing s f n i all d total → Said (IsPatRow s n j all2 false d2 o) total
      row-last j q h is sep le g =
          let sep' : after_word res.Comma got.rest ≡ None = subst (λ (z : List Terminal). after_word res.Comma z ≡ None) is.rest sep in
          let one : pat_row_turn n (read_pats n).pat f no_state i ≡ read (last (only_field got.tree)) got.rest = rw (q, h, sep') refl in
          let a = listing-last (pat_row_turn n (read_pats n).pat f) (row_list s.file) row_depth n [] 0 (field_of s.file got.tree ∷ []) (depth_pat_field got.tree) one refl (omega arith) is.fits g.lists in
          let b = marking-last (pat_row_turn n (read_pats n).pat f) row_dots false one refl g.marks in
          let sh = is.shorter in
          row-said all2 d2 false j o got.rest is.rest (omega arith)
          (subst (λ (z : List PatFieldOf). Listed (row_list s.file) row_depth n [] 0 z d2 total got.rest) (sym (row-list is.bare))
          (subst (λ (k : ℕ). Listed (row_list s.file) row_depth n [] 0 (map pat_field_of all ++ field_of s.file got.tree ∷ []) k total got.rest) (sym (deepest ∙ ap (λ (k : ℕ). max k d) is.depth)) a)) b
