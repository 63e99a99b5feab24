-- The loops that read types.
use Rattle.std.proofs.Common.{◌≡◌, ℕ, ◌<◌, ◌≤◌, List, [], ◌∷◌, ◌++◌, length, map, max, Some, None, refl, sym, ap, ◌∙◌, subst, arith}
use Rattle.std.proofs.lemmas.List.{map_push}
use Rattle.mlc_names.specs.declared.label.Label.{Label}
use Rattle.mlc_names.specs.declared.token.Token.{Token}
use Rattle.mlc_names.specs.declared.token.Reserved.TheVariants as res
use Rattle.sml_tree.specs.Terminal.{Terminal}
use Rattle.sml_tree.specs.BareTree as tree
use Rattle.sml_tree.specs.ReadTree as read_tree
use Rattle.sml_tree.specs.ReadTree.{Tys, no_tys, ty, TyFields, no_ty_fields, ty_field, Placed}
use Rattle.sml_tree.specs.Bare.{ty_list, ty_at_list, bare_ty, bare_ty_fields, at}
use Rattle.sml_tree.specs.Depth.{depth_ty, depth_tys, depth_ty_fields}
use Rattle.sml_tree.specs.Derived.{TyAt}
use Rattle.sml_tree.specs.TreeOf.{ty_of, ty_part_of, ty_field_of, ty_fields_of, TyFieldOf}
use Rattle.sml_tree.specs.declared.tree.Ty.{Ty}
use Rattle.sml_tree.specs.declared.tree.TyPart.{TyPart}
use Rattle.sml_tree.specs.declared.tree.TyField.{TyField}
use Rattle.sml_grammar.specs.Answer.{Read, Answer, ok, bad, read, then_read, last, more}
use Rattle.sml_grammar.specs.Terminals.{no_state, place_at, first_as, as_label, after_word, taken, separated}
use Rattle.sml_grammar.specs.Types.{read_ty, ty_field_turn, arrow_turn}
use Rattle.phrase_base.specs.declared.source.Source.{Source}
use Rattle.phrase_base.specs.declared.stop.Stop.{Stop}
use Rattle.phrase_base.specs.declared.stop.Stop.TheVariants as stop
use Rattle.sml_phrases.specs.declared.types.Separator.{Separator}
use Rattle.phrase_base.specs.Gives.{Fails, Gave}
use Rattle.phrase_base.specs.Left.{left}
use Rattle.sml_phrases.specs.TypesRead.{IsTy, IsTys, IsTyParts, IsTyFields, separator_level, after_separator, separator_turn}
use Rattle.phrase_base.proofs.Loop.{fails-then, fails-by}
use Rattle.phrase_base.proofs.Listing.{Listing, listing-more, listing-last, listing-fails}

abbrev pub TysGoing : Source → ℕ → Separator → List Terminal → List Ty → ℕ → List Ty → ℕ → Answer Tys → Type 0
TysGoing s n x i front d0 all d total = Listing (separator_turn x (read_ty n)) no_state i (ty_list s.file) depth_tys n (map ty_of front) d0 (map ty_of all) d total

module _ (s : Source) (n : ℕ) (x : Separator) (front : List Ty) (d0 : ℕ) (all : List Ty) (d : ℕ) (i : List Terminal) (total : Answer Tys) (t : Ty) (e : ℕ) (o : List Token) (got : Read read_tree.Ty) where
  pub tys-more : {m : List Terminal} → read_ty n (separator_level x) i ≡ ok got → IsTy s n i t e o got → after_separator x (left s o) ≡ Some m → length m < length i → TysGoing s n x i front d0 all d total → TysGoing s n x m front d0 (all ++ t ∷ []) (max e d) total
  tys-more {m} h is sep lt g =
      let sep' : after_separator x got.rest ≡ Some m = subst (λ (z : List Terminal). after_separator x z ≡ Some m) is.rest sep in
      let one : separator_turn x (read_ty n) no_state i ≡ read (more (ty got.tree) no_state) m = rw (h, sep') refl in
      let h2 = listing-more (separator_turn x (read_ty n)) (ty_list s.file) depth_tys n (map ty_of front) d0 (bare_ty s.file got.tree) (depth_ty got.tree) one lt (λ b. refl) (λ b. refl) is.fits g in
      let p : map ty_of all ++ bare_ty s.file got.tree ∷ [] ≡ map ty_of (all ++ t ∷ []) = ap (λ (z : tree.Ty). map ty_of all ++ z ∷ []) (sym is.bare) ∙ sym (map_push ty_of all t) in
      subst (λ (z : List tree.Ty). Listing (separator_turn x (read_ty n)) no_state m (ty_list s.file) depth_tys n (map ty_of front) d0 z (max e d) total) p
      (subst (λ (k : ℕ). Listing (separator_turn x (read_ty n)) no_state m (ty_list s.file) depth_tys n (map ty_of front) d0 (map ty_of all ++ bare_ty s.file got.tree ∷ []) (max k d) total) (sym is.depth) h2)

  pub tys-last : {j : List Terminal} → read_ty n (separator_level x) i ≡ ok got → IsTy s n i t e o got → after_separator x (left s o) ≡ None → length i ≤ length j → TysGoing s n x i front d0 all d total → Gave (λ (ts : List Ty) r. IsTys s n j front d0 ts (max e d) o r) (all ++ t ∷ []) total
  tys-last {j} h is sep le g =
      let sep' : after_separator x got.rest ≡ None = subst (λ (z : List Terminal). after_separator x z ≡ None) is.rest sep in
      let one : separator_turn x (read_ty n) no_state i ≡ read (last (ty got.tree no_tys)) got.rest = rw (h, sep') refl in
      let h2 = listing-last (separator_turn x (read_ty n)) (ty_list s.file) depth_tys n (map ty_of front) d0 (bare_ty s.file got.tree ∷ []) (depth_ty got.tree) one refl (omega arith) is.fits g in
      let p : map ty_of (all ++ t ∷ []) ≡ map ty_of all ++ bare_ty s.file got.tree ∷ [] = map_push ty_of all t ∙ ap (λ (z : tree.Ty). map ty_of all ++ z ∷ []) is.bare in
      let q = is.depth in let r = h2.deep in let f = h2.fits in let sh = is.shorter in
      record { got = record { tree = h2.tree; rest = got.rest }; is = h2.is; same = record { rest = is.rest; bare = p ∙ sym h2.shows; depth = ap (λ (k : ℕ). max k d) q ∙ sym r; fits = omega arith; shorter = omega arith } }

pub tys-fails : (s : Source) (n : ℕ) (x : Separator) (front : List Ty) (d0 : ℕ) (all : List Ty) (d : ℕ) (i : List Terminal) (total : Answer Tys) (e : Stop) → Fails e (read_ty n (separator_level x) i) → TysGoing s n x i front d0 all d total → Fails e total
tys-fails s n x front d0 all d i total e h g =
    listing-fails (separator_turn x (read_ty n)) (ty_list s.file) depth_tys n (map ty_of front) d0 e (fails-then e (read_ty n (separator_level x) i) (λ t o. separated (after_separator x o) (ty t) (ty t no_tys) no_state o) h) g

-- The operands of function types.

abbrev pub PartsGoing : Source → ℕ → List Terminal → List TyPart → ℕ → Answer Tys → Type 0
PartsGoing s n i all d total = Listing (arrow_turn (read_ty n)) no_state i (ty_at_list s.file) depth_tys n [] 0 (map ty_part_of all) d total

module _ (s : Source) (n : ℕ) (all : List TyPart) (d : ℕ) (i : List Terminal) (total : Answer Tys) (p : TyPart) (e : ℕ) (o : List Token) (got : Read read_tree.Ty) where
  part-is : ty_part_of p ≡ record { place = p.place; ty = ty_of p.ty } → p.place ≡ at s.file (place_at i) → IsTy s n i p.ty e o got → map ty_part_of (all ++ p ∷ []) ≡ map ty_part_of all ++ record { place = at s.file (read_tree.ty_place got.tree); ty = bare_ty s.file got.tree } ∷ []
  part-is h q is = map_push ty_part_of all p ∙ ap (λ (z : TyAt). map ty_part_of all ++ z ∷ []) (let a = is.place in let b = is.bare in rw (h, q, b, a) refl)

  pub parts-more : {m : List Terminal} → ty_part_of p ≡ record { place = p.place; ty = ty_of p.ty } → p.place ≡ at s.file (place_at i) → read_ty n 1 i ≡ ok got → IsTy s n i p.ty e o got → after_word res.Arrow (left s o) ≡ Some m → length m < length i → PartsGoing s n i all d total → PartsGoing s n m (all ++ p ∷ []) (max e d) total
  parts-more {m} w q h is sep lt g =
      let sep' : after_word res.Arrow got.rest ≡ Some m = subst (λ (z : List Terminal). after_word res.Arrow z ≡ Some m) is.rest sep in
      let one : arrow_turn (read_ty n) no_state i ≡ read (more (ty got.tree) no_state) m = rw (h, sep') refl in
      let h2 = listing-more (arrow_turn (read_ty n)) (ty_at_list s.file) depth_tys n [] 0 (record { place = at s.file (read_tree.ty_place got.tree); ty = bare_ty s.file got.tree }) (depth_ty got.tree) one lt (λ b. refl) (λ b. refl) is.fits g in
      subst (λ (z : List TyAt). Listing (arrow_turn (read_ty n)) no_state m (ty_at_list s.file) depth_tys n [] 0 z (max e d) total) (sym (part-is w q is))
      (subst (λ (k : ℕ). Listing (arrow_turn (read_ty n)) no_state m (ty_at_list s.file) depth_tys n [] 0 (map ty_part_of all ++ record { place = at s.file (read_tree.ty_place got.tree); ty = bare_ty s.file got.tree } ∷ []) (max k d) total) (sym is.depth) h2)

  pub parts-last : {j : List Terminal} → ty_part_of p ≡ record { place = p.place; ty = ty_of p.ty } → p.place ≡ at s.file (place_at i) → read_ty n 1 i ≡ ok got → IsTy s n i p.ty e o got → after_word res.Arrow (left s o) ≡ None → length i ≤ length j → PartsGoing s n i all d total → Gave (λ (ts : List TyPart) r. IsTyParts s n j ts (max e d) o r) (all ++ p ∷ []) total
  parts-last {j} w q h is sep le g =
      let sep' : after_word res.Arrow got.rest ≡ None = subst (λ (z : List Terminal). after_word res.Arrow z ≡ None) is.rest sep in
      let one : arrow_turn (read_ty n) no_state i ≡ read (last (ty got.tree no_tys)) got.rest = rw (h, sep') refl in
      let h2 = listing-last (arrow_turn (read_ty n)) (ty_at_list s.file) depth_tys n [] 0 (record { place = at s.file (read_tree.ty_place got.tree); ty = bare_ty s.file got.tree } ∷ []) (depth_ty got.tree) one refl (omega arith) is.fits g in
      let k = is.depth in let r = h2.deep in let f = h2.fits in let sh = is.shorter in
      record { got = record { tree = h2.tree; rest = got.rest }; is = h2.is; same = record { rest = is.rest; bare = part-is w q is ∙ sym h2.shows; depth = omega arith; fits = omega arith; shorter = omega arith } }

pub parts-fails : (s : Source) (n : ℕ) (all : List TyPart) (d : ℕ) (i : List Terminal) (total : Answer Tys) (e : Stop) → Fails e (read_ty n 1 i) → PartsGoing s n i all d total → Fails e total
parts-fails s n all d i total e h g =
    listing-fails (arrow_turn (read_ty n)) (ty_at_list s.file) depth_tys n [] 0 e (fails-then e (read_ty n 1 i) (λ t o. separated (after_word res.Arrow o) (ty t) (ty t no_tys) no_state o) h) g

-- The fields of record types.

abbrev pub ty_field_list : ℕ → TyFields → List TyFieldOf
ty_field_list f no_ty_fields = []
ty_field_list f (ty_field l t fs) = record { label = l; ty = bare_ty f t } ∷ ty_field_list f fs

pub ty_field_list-is : (f : ℕ) (fs : TyFields) → bare_ty_fields f fs ≡ ty_fields_of (ty_field_list f fs)
ty_field_list-is f no_ty_fields = refl
ty_field_list-is f (ty_field l t fs) = ap (λ (z : tree.TyFields). tree.ty_field l (bare_ty f t) z) (ty_field_list-is f fs)

abbrev pub FieldsGoing : Source → ℕ → List Terminal → List TyField → ℕ → Answer TyFields → Type 0
FieldsGoing s n i all d total = Listing (ty_field_turn (read_ty n)) no_state i (ty_field_list s.file) depth_ty_fields n [] 0 (map ty_field_of all) d total

module _ (s : Source) (n : ℕ) (all : List TyField) (d : ℕ) (i : List Terminal) (total : Answer TyFields) where
  module _ (p : TyField) (e : ℕ) (k0 k : List Terminal) (o : List Token) (got : Read read_tree.Ty) where
    field-is : ty_field_of p ≡ record { label = p.label; ty = ty_of p.ty } → IsTy s n k p.ty e o got → map ty_field_of (all ++ p ∷ []) ≡ map ty_field_of all ++ record { label = p.label; ty = bare_ty s.file got.tree } ∷ []
    field-is h is = map_push ty_field_of all p ∙ ap (λ (z : TyFieldOf). map ty_field_of all ++ z ∷ []) (let b = is.bare in rw (h, b) refl)

    pub fields-more : {m : List Terminal} → ty_field_of p ≡ record { label = p.label; ty = ty_of p.ty } → first_as as_label i ≡ taken (record { place = place_at i; it = p.label }) k0 → after_word res.Colon k0 ≡ Some k → read_ty n 0 k ≡ ok got → IsTy s n k p.ty e o got → after_word res.Comma (left s o) ≡ Some m → length m < length i → FieldsGoing s n i all d total → FieldsGoing s n m (all ++ p ∷ []) (max e d) total
    fields-more {m} w q1 q2 h is sep lt g =
        let sep' : after_word res.Comma got.rest ≡ Some m = subst (λ (z : List Terminal). after_word res.Comma z ≡ Some m) is.rest sep in
        let one : ty_field_turn (read_ty n) no_state i ≡ read (more (ty_field p.label got.tree) no_state) m = rw (q1, q2, h, sep') refl in
        let h2 = listing-more (ty_field_turn (read_ty n)) (ty_field_list s.file) depth_ty_fields n [] 0 (record { label = p.label; ty = bare_ty s.file got.tree }) (depth_ty got.tree) one lt (λ b. refl) (λ b. refl) is.fits g in
        subst (λ (z : List TyFieldOf). Listing (ty_field_turn (read_ty n)) no_state m (ty_field_list s.file) depth_ty_fields n [] 0 z (max e d) total) (sym (field-is w is))
        (subst (λ (j : ℕ). Listing (ty_field_turn (read_ty n)) no_state m (ty_field_list s.file) depth_ty_fields n [] 0 (map ty_field_of all ++ record { label = p.label; ty = bare_ty s.file got.tree } ∷ []) (max j d) total) (sym is.depth) h2)

    pub fields-last : {j : List Terminal} → ty_field_of p ≡ record { label = p.label; ty = ty_of p.ty } → first_as as_label i ≡ taken (record { place = place_at i; it = p.label }) k0 → after_word res.Colon k0 ≡ Some k → read_ty n 0 k ≡ ok got → IsTy s n k p.ty e o got → after_word res.Comma (left s o) ≡ None → length k ≤ length j → FieldsGoing s n i all d total → Gave (λ (ts : List TyField) r. IsTyFields s n j ts (max e d) o r) (all ++ p ∷ []) total
    fields-last {j} w q1 q2 h is sep le g =
        let sep' : after_word res.Comma got.rest ≡ None = subst (λ (z : List Terminal). after_word res.Comma z ≡ None) is.rest sep in
        let one : ty_field_turn (read_ty n) no_state i ≡ read (last (ty_field p.label got.tree no_ty_fields)) got.rest = rw (q1, q2, h, sep') refl in
        let h2 = listing-last (ty_field_turn (read_ty n)) (ty_field_list s.file) depth_ty_fields n [] 0 (record { label = p.label; ty = bare_ty s.file got.tree } ∷ []) (depth_ty got.tree) one refl (omega arith) is.fits g in
        let q = is.depth in let r = h2.deep in let f = h2.fits in let sh = is.shorter in
        record { got = record { tree = h2.tree; rest = got.rest }; is = h2.is; same = record { rest = is.rest; bare = ap ty_fields_of (field-is w is ∙ sym h2.shows) ∙ sym (ty_field_list-is s.file h2.tree); depth = omega arith; fits = omega arith; shorter = omega arith } }

  module _ (l : Placed Label) (k0 k : List Terminal) where
    pub fields-fail : (e : Stop) → first_as as_label i ≡ taken l k0 → after_word res.Colon k0 ≡ Some k → Fails e (read_ty n 0 k) → FieldsGoing s n i all d total → Fails e total
    fields-fail e q1 q2 h g =
        let one : ty_field_turn (read_ty n) no_state i ≡ then_read (read_ty n 0 k) (λ t o. separated (after_word res.Comma o) (ty_field l.it t) (ty_field l.it t no_ty_fields) no_state o) = rw (q1, q2) refl in
        listing-fails (ty_field_turn (read_ty n)) (ty_field_list s.file) depth_ty_fields n [] 0 e (fails-by e (ty_field_turn (read_ty n) no_state i) _ one (fails-then e (read_ty n 0 k) _ h)) g

  pub fields-no_label : (b : ℕ) → first_as as_label i ≡ None → FieldsGoing s n i all d total → total ≡ bad
  fields-no_label b q g = listing-fails (ty_field_turn (read_ty n)) (ty_field_list s.file) depth_ty_fields n [] 0 (stop.Bad b) (let one : ty_field_turn (read_ty n) no_state i ≡ bad = rw q refl in one) g

  pub fields-no_colon : (b : ℕ) (l : Placed Label) (k0 : List Terminal) → first_as as_label i ≡ taken l k0 → after_word res.Colon k0 ≡ None → FieldsGoing s n i all d total → total ≡ bad
  fields-no_colon b l k0 q1 q2 g = listing-fails (ty_field_turn (read_ty n)) (ty_field_list s.file) depth_ty_fields n [] 0 (stop.Bad b) (let one : ty_field_turn (read_ty n) no_state i ≡ bad = rw (q1, q2) refl in one) g

-- The same facts of equal lists and depths.

module _ (s : Source) (n : ℕ) (i : List Terminal) (d d2 : ℕ) (o : List Token) where
  pub is_tys-at : (front ts ts2 : List Ty) (d0 : ℕ) (r : Read Tys) → ts2 ≡ ts → d2 ≡ d → IsTys s n i front d0 ts d o r → IsTys s n i front d0 ts2 d2 o r
  is_tys-at front ts ts2 d0 r e1 e2 h = rw (e1, e2) h

  pub is_parts-at : (ts ts2 : List TyPart) (r : Read Tys) → ts2 ≡ ts → d2 ≡ d → IsTyParts s n i ts d o r → IsTyParts s n i ts2 d2 o r
  is_parts-at ts ts2 r e1 e2 h = rw (e1, e2) h

  pub is_fields-at : (ts ts2 : List TyField) (r : Read TyFields) → ts2 ≡ ts → d2 ≡ d → IsTyFields s n i ts d o r → IsTyFields s n i ts2 d2 o r
  is_fields-at ts ts2 r e1 e2 h = rw (e1, e2) h
