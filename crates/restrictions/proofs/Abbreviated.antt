-- The marks of each node of types whose abbreviations are written out.
use Rattle.std.proofs.Common.{◌≡◌, ◌<◌, ◌≤◌, ◌+◌, ◌-◌, ◌||◌, ℕ, zero, suc, Bool, true, false, cond, List, [], ◌∷◌, ◌++◌, map, length, get_or, drop, nat_eq, Vec, Box, Global, Some, None, refl, sym, ap, ap₂, subst, ◌∙◌, append_assoc, arith}
use Rattle.std.specs.Prelude.{flat_map}
use Rattle.std.specs.List.{list_any}
use Rattle.std.specs.Map.{lookup}
use Rattle.std.proofs.lemmas.Bool.{eqb-true, eq-eqb}
use Rattle.std.proofs.lemmas.List.{append-nil}
use Rattle.std.proofs.lemmas.List.Folds.{list_any-append}
use Rattle.mlc_base.specs.declared.place.Place.{Place}
use Rattle.mlc_names.specs.declared.label.Label.{Label}
use Rattle.sml_tree.specs.BareTree as bare
use Rattle.sml_tree.specs.Derived.{TyAt, abbreviation, arrows, binding_of, expand_ty, expand_ty_fields, expand_tys, numbered_tys, product, put_ty, same_length, tys_list, tys_of, written_out}
use Rattle.sml_tree.specs.Terminal as term
use Rattle.sml_tree.specs.TreeOf.{TyFieldOf, long_id_of, ty_field_of, ty_fields_of, ty_of, ty_part_of}
use Rattle.sml_tree.specs.TreeOf.{node_ty, node_ty_field, node_ty_part}
use Rattle.sml_tree.specs.declared.ident.LongId.{LongId}
use Rattle.sml_tree.specs.declared.ident.Tyvar.{Tyvar}
use Rattle.sml_tree.specs.declared.tree.Ty.{Ty, Ty-F, fold-roll-Ty}
use Rattle.sml_tree.specs.declared.tree.Ty.TheVariants as tys
use Rattle.sml_tree.specs.declared.tree.TyField.{TyField}
use Rattle.sml_tree.specs.declared.tree.TyPart.{TyPart, fold_out-TyPart}
use Rattle.core_rules.specs.Restrictions.{are_among, distinct, no_repetition, ty_labels, ty_place, unless}
use Rattle.core_rules.specs.Scoping.{tyvar_names}
use Rattle.core_rules.specs.Words.{same_label}
use Rattle.restrictions.specs.Breaks.{ty_breaks, type_bind_breaks}
use Rattle.restrictions.specs.Written.{Alike, AreRead, Notes, chosen, chosen_all, index_from, number_in, ty_fields_marks, ty_marks, tys_marks, unless_mark, used_at, used_of, written, written_field, written_part}
use Rattle.restrictions.specs.declared.written.Abbreviations.{Abbreviations}
use Rattle.restrictions.specs.declared.written.Mark.{Mark}
use Rattle.restrictions.specs.declared.written.Mark.TheVariants.{Occurs}
use Rattle.restrictions.proofs.ByKeys.{counted-once}
use Rattle.restrictions.proofs.Put.{put-alike, vars}
use Rattle.restrictions.proofs.Standing.{drop-all, drop-at, none-left, none-right}
use Rattle.restrictions.proofs.TyNodes.{ty-counted, ty-field, ty-field-labels}

-- lists that are alike

pub alike-are : {A : Type 0} (xs ys : List A) → xs ≡ ys → Alike xs ys
alike-are xs ys e t = ap (list_any t) e

pub alike-both : {A : Type 0} (xs ys as_ bs : List A) → Alike xs as_ → Alike ys bs → Alike (xs ++ ys) (as_ ++ bs)
alike-both xs ys as_ bs h k t = list_any-append t xs ys ∙ ap₂ (λ a b. a || b) (h t) (k t) ∙ sym (list_any-append t as_ bs)

-- marks that are noted

pub notes-are : (old new marks : List Mark) → new ≡ old ++ marks → Notes old new marks
notes-are old new marks e = record { added = marks; is = e; alike = λ t. refl }

pub notes-none : (old marks : List Mark) → marks ≡ [] → Notes old old marks
notes-none old marks e = notes-are old old marks (sym (append-nil old) ∙ ap (λ l. old ++ l) (sym e))

pub notes-for : (old new xs ys : List Mark) → Alike xs ys → Notes old new xs → Notes old new ys
notes-for old new xs ys h n = record { added = n.added; is = n.is; alike = λ t. n.alike t ∙ h t }

pub notes-then : (old now new xs ys : List Mark) → Notes old now xs → Notes now new ys → Notes old new (xs ++ ys)
notes-then old now new xs ys a b = record {
  added = a.added ++ b.added;
  is = b.is ∙ ap (λ l. l ++ b.added) a.is ∙ append_assoc old a.added b.added;
  alike = alike-both a.added b.added xs ys a.alike b.alike;
}

pub notes-both : (old now new xs ys all : List Mark) → Notes old now xs → Notes now new ys → xs ++ ys ≡ all → Notes old new all
notes-both old now new xs ys all a b e = notes-for old new (xs ++ ys) all (alike-are _ _ e) (notes-then old now new xs ys a b)

module _ {A : Type 0} (f : A → List Mark) where
  abbrev pub Noted : List A → ℕ → List Mark → List Mark → Type 0
  Noted xs i old now = (new : List Mark) → Notes now new (flat_map f (drop i xs)) → Notes old new (flat_map f xs)

  pub noted-first : (xs : List A) (old : List Mark) → Noted xs 0 old old
  noted-first xs old new h = h

  pub noted-next : (xs : List A) (i : ℕ) (x : A) (old now new : List Mark) → i < length xs → x ≡ get_or xs i x → Noted xs i old now → Notes now new (f x) → Noted xs (i + 1) old new
  noted-next xs i x old now new lt e h a last b =
      h last (subst (λ l. Notes now last (flat_map f l)) (sym (drop-at xs i x lt e)) (notes-then now new last (f x) (flat_map f (drop (i + 1) xs)) a b))

  pub noted-last : (xs : List A) (i : ℕ) (old now : List Mark) → length xs ≤ i → Noted xs i old now → Notes old now (flat_map f xs)
  noted-last xs i old now le h = h now (notes-none now (flat_map f (drop i xs)) (ap (flat_map f) (drop-all xs i le)))

-- nodes

marks-alone : (ls : List Label) (p : Place) (xs : List Mark) → distinct same_label ls ≡ true → xs ++ unless_mark (distinct same_label ls) p ≡ xs
marks-alone ls p xs e = ap (λ b. xs ++ unless_mark b p) e ∙ append-nil xs

module _ (bs : List bare.TypeBind) where
  labels-same : (fs : bare.TyFields) → ty_labels (expand_ty_fields bs fs) ≡ ty_labels fs
  labels-same bare.no_ty_fields = refl
  labels-same (bare.ty_field l t fs) = ap (λ ls. l ∷ ls) (labels-same fs)

  fields-are : (fs : List TyField) → ty_fields_marks (expand_ty_fields bs (ty_fields_of (map ty_field_of fs))) ≡ flat_map (written_field bs) fs
  fields-are [] = refl
  fields-are (f ∷ fs) = ap₂ (λ a b. a ++ b) (ap (λ (r : TyFieldOf). ty_marks (expand_ty bs r.ty)) (ty-field f)) (fields-are fs)

  list-are : (ts : List Ty) → tys_marks (expand_tys bs (tys_of (map ty_of ts))) ≡ flat_map (written bs) ts
  list-are [] = refl
  list-are (t ∷ ts) = ap (λ l. written bs t ++ l) (list-are ts)

  numbered-are : (k : ℕ) (ts : List Ty) → ty_fields_marks (expand_ty_fields bs (numbered_tys k (map ty_of ts))) ≡ flat_map (written bs) ts
  numbered-are k [] = refl
  numbered-are k (t ∷ ts) = ap (λ l. written bs t ++ l) (numbered-are (suc k) ts)

  product-is : (p : Place) (ts : List Ty) → ty_marks (expand_ty bs (product p (map ty_of ts))) ≡ flat_map (written bs) ts
  product-is p ts =
      marks-alone (ty_labels (expand_ty_fields bs (numbered_tys 1 (map ty_of ts)))) p (ty_fields_marks (expand_ty_fields bs (numbered_tys 1 (map ty_of ts))))
      (ap (distinct same_label) (labels-same (numbered_tys 1 (map ty_of ts)) ∙ ty-counted 1 (map ty_of ts)) ∙ counted-once 1 (map ty_of ts)) ∙ numbered-are 1 ts

  arrows-are : (p : Place) (t : bare.Ty) (us : List TyPart) → ty_marks (expand_ty bs (arrows p t (map ty_part_of us))) ≡ ty_marks (expand_ty bs t) ++ flat_map (written_part bs) us
  arrows-are p t [] = sym (append-nil (ty_marks (expand_ty bs t)))
  arrows-are p t (u ∷ us) =
      ap (λ l. ty_marks (expand_ty bs t) ++ l) (arrows-are (ty_part_of u).place (ty_part_of u).ty us
      ∙ ap (λ (r : TyAt). ty_marks (expand_ty bs r.ty) ++ flat_map (written_part bs) us) (fold_out-TyPart bare.Ty TyFieldOf TyAt node_ty node_ty_field node_ty_part u))

  pub written-Var : (x : Ty) (p : Place) (a : Tyvar) → x ≡ tys.Var p a → Occurs a ∷ [] ≡ written bs x
  written-Var x p a e =
      sym (ap (written bs) (e ∙ sym (tys.rolls-Var p a)) ∙ ap (λ z. ty_marks (expand_ty bs z)) (fold-roll-Ty bare.Ty TyFieldOf TyAt node_ty node_ty_field node_ty_part (Ty-F.Var p a)))

  pub written-Record : (x : Ty) (p : Place) (fs : Vec TyField Global) → x ≡ tys.Record p fs
      → flat_map (written_field bs) fs.items ++ unless_mark (distinct same_label (map (λ f. f.label) fs.items)) p ≡ written bs x
  written-Record x p fs e =
      sym (ap (written bs) (e ∙ sym (tys.rolls-Record p fs)) ∙ ap (λ z. ty_marks (expand_ty bs z)) (fold-roll-Ty bare.Ty TyFieldOf TyAt node_ty node_ty_field node_ty_part (Ty-F.Record p fs))
      ∙ ap₂ (λ a ls. a ++ unless_mark (distinct same_label ls) p) (fields-are fs.items) (labels-same (ty_fields_of (map ty_field_of fs.items)) ∙ ty-field-labels fs.items))

  pub written-Product : (x : Ty) (p : Place) (ts : Vec Ty Global) → x ≡ tys.Product p ts → flat_map (written bs) ts.items ≡ written bs x
  written-Product x p ts e =
      sym (ap (written bs) (e ∙ sym (tys.rolls-Product p ts)) ∙ ap (λ z. ty_marks (expand_ty bs z)) (fold-roll-Ty bare.Ty TyFieldOf TyAt node_ty node_ty_field node_ty_part (Ty-F.Product p ts))
      ∙ product-is p ts.items)

  pub written-Arrow : (x : Ty) (p : Place) (t : Box Ty Global) (us : Vec TyPart Global) → x ≡ tys.Arrow p t us → written bs t.value ++ flat_map (written_part bs) us.items ≡ written bs x
  written-Arrow x p t us e =
      sym (ap (written bs) (e ∙ sym (tys.rolls-Arrow p t us)) ∙ ap (λ z. ty_marks (expand_ty bs z)) (fold-roll-Ty bare.Ty TyFieldOf TyAt node_ty node_ty_field node_ty_part (Ty-F.Arrow p t us))
      ∙ arrows-are p (ty_of t.value) us.items)

  con-source : (x : Ty) (p : Place) (ts : Vec Ty Global) (q : Place) (c : LongId) → x ≡ tys.Con p ts q c
      → written bs x ≡ ty_marks (written_out p (expand_tys bs (tys_of (map ty_of ts.items))) q (long_id_of c) (abbreviation bs (long_id_of c)))
  con-source x p ts q c e =
      ap (written bs) (e ∙ sym (tys.rolls-Con p ts q c)) ∙ ap (λ z. ty_marks (expand_ty bs z)) (fold-roll-Ty bare.Ty TyFieldOf TyAt node_ty node_ty_field node_ty_part (Ty-F.Con p ts q c))

-- Which abbreviation a name has.

-- a binding that is found, at this place from k on
record FoundAt (x k n : ℕ) (bs : List bare.TypeBind) : Type 0 where
  bind : bare.TypeBind
  is : binding_of x bs ≡ Some bind
  most : k ≤ n
  used : get_or (map used_of bs) (n - k) [] ≡ used_of bind
  whole : type_bind_breaks bind ≡ []

not-found : (x k : ℕ) (bs : List bare.TypeBind) → lookup (nat_eq x) (index_from k bs) ≡ None → binding_of x bs ≡ None
not-found x k [] e = refl
not-found x k (b ∷ bs) e = by (nat_eq x b.tycon) e (not-found x (k + 1) bs)
  where
    by : (c : Bool) → cond c (Some k) (lookup (nat_eq x) (index_from (k + 1) bs)) ≡ None → (lookup (nat_eq x) (index_from (k + 1) bs) ≡ None → binding_of x bs ≡ None)
        → cond c (Some b) (binding_of x bs) ≡ None
    by true e h = cc
    by false e h = h e

found-at : (x k n : ℕ) (bs : List bare.TypeBind) → flat_map type_bind_breaks bs ≡ [] → lookup (nat_eq x) (index_from k bs) ≡ Some n → FoundAt x k n bs
found-at x k n [] w e = cc
found-at x k n (b ∷ bs) w e = by (nat_eq x b.tycon) refl e (found-at x (k + 1) n bs (none-right (type_bind_breaks b) (flat_map type_bind_breaks bs) w))
  where
    by : (c : Bool) → nat_eq x b.tycon ≡ c → cond c (Some k) (lookup (nat_eq x) (index_from (k + 1) bs)) ≡ Some n
        → (lookup (nat_eq x) (index_from (k + 1) bs) ≡ Some n → FoundAt x (k + 1) n bs) → FoundAt x k n (b ∷ bs)
    by true q e h =
        let same : k ≡ n = cc in
        let z : n - k ≡ 0 = omega (arith, same) in
        record {
          bind = b;
          is = ap (λ c. cond c (Some b) (binding_of x bs)) q;
          most = omega (arith, same);
          used = ap (λ i. get_or (used_of b ∷ map used_of bs) i []) z;
          whole = none-left (type_bind_breaks b) (flat_map type_bind_breaks bs) w;
        }
    by false q e h =
        let f = h e in
        let m = f.most in
        let z : n - k ≡ suc (n - (k + 1)) = omega (arith, m) in
        record {
          bind = f.bind;
          is = ap (λ c. cond c (Some b) (binding_of x bs)) q ∙ f.is;
          most = omega (arith, m);
          used = ap (λ i. get_or (used_of b ∷ map used_of bs) i []) z ∙ f.used;
          whole = f.whole;
        }

-- an identifier after these qualifiers
abbrev behind : List ℕ → ℕ → term.LongId
behind qs x = record { qualifiers = qs; id = x }

pub no-number : (bs : List bare.TypeBind) (w : Abbreviations) (c : term.LongId) → AreRead bs w → number_in w c ≡ None → abbreviation bs c ≡ None
no-number bs w c r e = by c.qualifiers e
  where
    by : (qs : List ℕ) → number_in w (behind qs c.id) ≡ None → abbreviation bs (behind qs c.id) ≡ None
    by [] e = not-found c.id 0 bs (ap (lookup (nat_eq c.id)) (sym r.index) ∙ e)
    by (q ∷ qs) e = refl

-- the abbreviation of a number
pub record IsAbbreviation (bs : List bare.TypeBind) (w : Abbreviations) (c : term.LongId) (n : ℕ) : Type 0 where
  pub bind : bare.TypeBind
  pub is : abbreviation bs c ≡ Some bind
  pub used : used_at w n ≡ used_of bind
  pub whole : type_bind_breaks bind ≡ []

pub numbered : (bs : List bare.TypeBind) (w : Abbreviations) (c : term.LongId) (n : ℕ) → AreRead bs w → number_in w c ≡ Some n → IsAbbreviation bs w c n
numbered bs w c n r e = by c.qualifiers e
  where
    by : (qs : List ℕ) → number_in w (behind qs c.id) ≡ Some n → IsAbbreviation bs w (behind qs c.id) n
    by [] e =
        let f = found-at c.id 0 n bs r.whole (ap (lookup (nat_eq c.id)) (sym r.index) ∙ e) in
        let z : n ≡ n - 0 = omega arith in
        record {
          bind = f.bind;
          is = f.is;
          used = ap (λ l. get_or l n []) r.used ∙ ap (λ i. get_or (map used_of bs) i []) z ∙ f.used;
          whole = f.whole;
        }
    by (x ∷ qs) e = cc

-- what isn't broken in a binding
kept : (b : Bool) (p : Place) → unless b p ≡ [] → b ≡ true
kept true p e = refl
kept false p e = cc

lengths : (as_ : List Tyvar) (us : List bare.Ty) → same_length as_ us ≡ true → length as_ ≡ length us
lengths [] [] e = refl
lengths [] (u ∷ us) e = cc
lengths (a ∷ as_) [] e = cc
lengths (a ∷ as_) (u ∷ us) e = let h = lengths as_ us e in omega (arith, h)

as-long : (as_ : List Tyvar) (us : List bare.Ty) → length as_ ≡ length us → same_length as_ us ≡ true
as-long [] [] e = refl
as-long [] (u ∷ us) e = absurd (omega (arith, e))
as-long (a ∷ as_) [] e = absurd (omega (arith, e))
as-long (a ∷ as_) (u ∷ us) e = as-long as_ us (omega (arith, e))

mapped : {A B : Type 0} (f : A → B) (xs : List A) → length (map f xs) ≡ length xs
mapped f [] = refl
mapped f (x ∷ xs) = let h = mapped f xs in omega (arith, h)

same-answer : (a b : Bool) → (a ≡ true → b ≡ true) → (b ≡ true → a ≡ true) → a ≡ b
same-answer true true f g = refl
same-answer false false f g = refl
same-answer true false f g = absurd (let e : false ≡ true = f refl in cc)
same-answer false true f g = absurd (let e : false ≡ true = g refl in cc)

same-length : {A B : Type 0} (f : Tyvar → A) (g : bare.Ty → B) (as_ : List Tyvar) (us : List bare.Ty) → same_length as_ us ≡ nat_eq (length (map f as_)) (length (map g us))
same-length f g as_ us =
    let m = mapped f as_ in
    let n = mapped g us in
    same-answer (same_length as_ us) (nat_eq (length (map f as_)) (length (map g us)))
    (λ e. let h = lengths as_ us e in eq-eqb (length (map f as_)) (length (map g us)) (omega (arith, h, m, n)))
    (λ e. let h = eqb-true (length (map f as_)) (length (map g us)) e in as-long as_ us (omega (arith, h, m, n)))

-- an abbreviation with its arguments
out-alike : (p q : Place) (ts : bare.Tys) (c : term.LongId) (b : bare.TypeBind) → type_bind_breaks b ≡ []
    → Alike (chosen_all (used_of b) (map ty_marks (tys_list ts))) (ty_marks (written_out p ts q c (Some b)))
out-alike p q ts c b w t =
    ap (λ z. list_any t (cond z (chosen (used_of b) (map ty_marks us)) [])) (sym (same-length (λ a. Rattle.core_rules.specs.Words.is_in nat_eq a.name (tyvar_names (vars b.ty))) ty_marks b.tyvars us)) ∙ by (same_length b.tyvars us) refl
  where
    us : List bare.Ty
    us = tys_list ts

    own : unless (no_repetition b.tyvars) b.place ++ unless (are_among b.tyvars (vars b.ty)) (ty_place b.ty) ≡ []
    own = none-right (ty_breaks b.ty) (unless (no_repetition b.tyvars) b.place ++ unless (are_among b.tyvars (vars b.ty)) (ty_place b.ty)) w

    by : (z : Bool) → same_length b.tyvars us ≡ z → list_any t (cond z (chosen (used_of b) (map ty_marks us)) []) ≡ list_any t (ty_marks (cond z (put_ty b.tyvars us b.ty) (bare.ill p)))
    by true e =
        put-alike b.tyvars us b.ty (none-left (ty_breaks b.ty) (unless (no_repetition b.tyvars) b.place ++ unless (are_among b.tyvars (vars b.ty)) (ty_place b.ty)) w)
        (lengths b.tyvars us e)
        (kept (no_repetition b.tyvars) b.place (none-left (unless (no_repetition b.tyvars) b.place) (unless (are_among b.tyvars (vars b.ty)) (ty_place b.ty)) own))
        (kept (are_among b.tyvars (vars b.ty)) (ty_place b.ty) (none-right (unless (no_repetition b.tyvars) b.place) (unless (are_among b.tyvars (vars b.ty)) (ty_place b.ty)) own)) t
    by false e = refl

arguments-are : (bs : List bare.TypeBind) (ts : List Ty) → map (written bs) ts ≡ map ty_marks (tys_list (expand_tys bs (tys_of (map ty_of ts))))
arguments-are bs [] = refl
arguments-are bs (t ∷ ts) = ap (λ l. written bs t ∷ l) (arguments-are bs ts)

pub written-Con : (bs : List bare.TypeBind) (w : Abbreviations) (x : Ty) (p : Place) (ts : Vec Ty Global) (q : Place) (c : LongId) → x ≡ tys.Con p ts q c → AreRead bs w
    → number_in w (long_id_of c) ≡ None → flat_map (written bs) ts.items ≡ written bs x
written-Con bs w x p ts q c e r h =
    sym (con-source bs x p ts q c e ∙ ap (λ o. ty_marks (written_out p (expand_tys bs (tys_of (map ty_of ts.items))) q (long_id_of c) o)) (no-number bs w (long_id_of c) r h)
    ∙ list-are bs ts.items)

pub written-abbreviation : (bs : List bare.TypeBind) (w : Abbreviations) (x : Ty) (p : Place) (ts : Vec Ty Global) (q : Place) (c : LongId) (n : ℕ) → x ≡ tys.Con p ts q c → AreRead bs w
    → number_in w (long_id_of c) ≡ Some n → Alike (chosen_all (used_at w n) (map (written bs) ts.items)) (written bs x)
written-abbreviation bs w x p ts q c n e r h t =
    let a = numbered bs w (long_id_of c) n r h in
    let us = expand_tys bs (tys_of (map ty_of ts.items)) in
    ap₂ (λ u ms. list_any t (chosen_all u ms)) a.used (arguments-are bs ts.items) ∙ out-alike p q us (long_id_of c) a.bind a.whole t
    ∙ ap (λ o. list_any t (ty_marks (written_out p us q (long_id_of c) o))) (sym a.is) ∙ ap (list_any t) (sym (con-source bs x p ts q c e))

-- arguments one after the other

abbrev pub Choosing : List Bool → List (List Mark) → ℕ → List Mark → List Mark → Type 0
Choosing us ms i old now = (new : List Mark) → Notes now new (chosen (drop i us) (drop i ms)) → Notes old new (chosen us ms)

drop-map : {A B : Type 0} (f : A → B) (i : ℕ) (xs : List A) → drop i (map f xs) ≡ map f (drop i xs)
drop-map f zero xs = refl
drop-map f (suc i) [] = refl
drop-map f (suc i) (x ∷ xs) = drop-map f i xs

pub chosen-next : {A : Type 0} (us : List Bool) (f : A → List Mark) (xs : List A) (i : ℕ) (u : Bool) (x : A) (old now new : List Mark) → i < length xs → i < length us → u ≡ get_or us i u
    → x ≡ get_or xs i x → Choosing us (map f xs) i old now → Notes now new (cond u (f x) []) → Choosing us (map f xs) (i + 1) old new
chosen-next us f xs i u x old now new lt less eu e h a last b =
    let rest = chosen (drop (i + 1) us) (drop (i + 1) (map f xs)) in
    h last
    (subst (λ l. Notes now last (chosen l (drop i (map f xs)))) (sym (drop-at us i u less eu))
    (subst (λ l. Notes now last (chosen (u ∷ drop (i + 1) us) l))
    (sym (drop-map f i xs ∙ ap (map f) (drop-at xs i x lt e) ∙ ap (λ l. f x ∷ l) (sym (drop-map f (i + 1) xs)))) (notes-then now new last (cond u (f x) []) rest a b)))

pub chosen-last : {A : Type 0} (us : List Bool) (f : A → List Mark) (xs : List A) (i : ℕ) (old now : List Mark) → length xs ≤ i → Choosing us (map f xs) i old now
    → Notes old now (chosen us (map f xs))
chosen-last us f xs i old now le h =
    h now (notes-none now (chosen (drop i us) (drop i (map f xs))) (ap (chosen (drop i us)) (drop-map f i xs ∙ ap (map f) (drop-all xs i le)) ∙ none (drop i us)))
  where
    none : (us : List Bool) → chosen us [] ≡ []
    none [] = refl
    none (u ∷ us) = refl

pub all-chosen : (us : List Bool) (ms : List (List Mark)) → length us ≡ length ms → chosen us ms ≡ chosen_all us ms
all-chosen us ms e = ap (λ b. cond b (chosen us ms) []) (sym (eq-eqb (length us) (length ms) e))

pub none-chosen : (us : List Bool) (ms : List (List Mark)) → (length us ≡ length ms → ⊥) → chosen_all us ms ≡ []
none-chosen us ms f = ap (λ b. cond b (chosen us ms) []) (same-answer (nat_eq (length us) (length ms)) false (λ e. absurd (f (eqb-true (length us) (length ms) e))) (λ e. absurd (cc)))

pub length-written : {A : Type 0} (f : A → List Mark) (xs : List A) → length (map f xs) ≡ length xs
length-written f xs = mapped f xs
