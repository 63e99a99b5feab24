-- What is broken in declarations of datatypes, part after part.
use Rattle.std.proofs.Common.{◌≡◌, ◌<◌, ◌≤◌, ℕ, Bool, ◌&&◌, List, [], ◌∷◌, ◌++◌, map, length, get_or, nat_eq, Option, Some, None, refl, sym, ap, ap₂, subst, ◌∙◌, arith}
use Rattle.std.specs.Prelude.{flat_map}
use Rattle.std.specs.List.{Contains}
use Rattle.std.proofs.lemmas.List.{append-nil, length-append, map-append}
use Rattle.std.proofs.lemmas.List.Elements.{Contains-append_left, Contains-append_right}
use Rattle.std.proofs.lemmas.List.Folds.{flat_map-map}
use Rattle.mlc_base.specs.declared.place.Place.{Place}
use Rattle.sml_tree.specs.BareTree as bare
use Rattle.sml_tree.specs.Derived.{abbreviation, expand_bind, expand_con, expand_some, expand_ty, expand_ty_fields, expand_tys, unqualified, written_out}
use Rattle.sml_tree.specs.Phrases.{con_bind, phrases}
use Rattle.sml_tree.specs.Terminal as term
use Rattle.sml_tree.specs.TreeOf.{con_bind_of, data_bind_of, type_bind_of}
use Rattle.sml_tree.specs.declared.ident.Tyvar.{Tyvar}
use Rattle.sml_tree.specs.declared.ident.Vid.{Vid}
use Rattle.sml_tree.specs.declared.tree.ConBind.{ConBind}
use Rattle.sml_tree.specs.declared.tree.DataBind.{DataBind}
use Rattle.sml_tree.specs.declared.tree.TypeBind.{TypeBind}
use Rattle.core_rules.specs.Restrictions.{are_among, distinct, no_repetition, right_side, unless}
use Rattle.core_rules.specs.Scoping.{tyvars_in}
use Rattle.core_rules.specs.Words.{same_vid}
use Rattle.restrictions.specs.Breaks.{con_bind_breaks, data_bind_breaks, type_bind_breaks}
use Rattle.restrictions.specs.Found.{Adds}
use Rattle.restrictions.specs.Keys.{con_key, vid_key}
use Rattle.restrictions.specs.Nodes.{datatype_places, type_bind_places, type_places, withtype_places}
use Rattle.restrictions.specs.Written.{Alike, HasCons, data_places, datas_places, right_places}
use Rattle.restrictions.proofs.ByKeys.{by-keys, vid-same}
use Rattle.restrictions.proofs.DecNodes.{tycons-of-types}
use Rattle.restrictions.proofs.Marks.{among-alike}
use Rattle.restrictions.proofs.Standing.{adds-for, adds-then, none-left, stand-are}

-- the right side of a datatype

pub right-none : (b : Bool) (cs : List ConBind) → length cs ≡ 0 → right_places b cs ≡ []
right-none b [] e = refl
right-none b (c ∷ cs) e = absurd (omega (arith, e))

pub right-first : (b : Bool) (cs : List ConBind) (c : ConBind) → (length cs ≡ 0 → ⊥) → c ≡ get_or cs 0 c → unless b c.place ≡ right_places b cs
right-first b [] c f e = absurd (f refl)
right-first b (d ∷ cs) c f e = ap (λ (z : ConBind). unless b z.place) e

module _ (bs : List bare.TypeBind) where
  abbrev expanded : List ConBind → List bare.ConBind
  expanded cs = map (expand_con bs) (map con_bind_of cs)

  right-is : (as_ occurring : List Tyvar) (cs : List ConBind) → Alike occurring (tyvars_in (flat_map (λ c. phrases (con_bind c)) (expanded cs)))
      → right_places (are_among as_ occurring) cs ≡ right_side as_ (expanded cs)
  right-is as_ occurring [] h = refl
  right-is as_ occurring (c ∷ cs) h = ap (λ b. unless b c.place) (among-alike as_ occurring (tyvars_in (flat_map (λ c. phrases (con_bind c)) (expanded (c ∷ cs)))) h)

  pub data-adds : (d : DataBind) (old now next new : List Place) (before occurring : List Tyvar) (once among : Bool) → before ≡ [] → HasCons bs d.cons.items old now before occurring
      → once ≡ no_repetition d.tyvars.items → among ≡ are_among d.tyvars.items occurring → Adds now next (unless once d.place) → Adds next new (right_places among d.cons.items)
      → Adds old new (data_places bs d)
  data-adds d old now next new before occurring once among e h f g a b =
      let same : occurring ≡ h.occurring = h.are ∙ ap (λ l. l ++ h.occurring) e in
      let right : right_places among d.cons.items ≡ right_side d.tyvars.items (expanded d.cons.items) =
      ap (λ z. right_places z d.cons.items) (g ∙ ap (are_among d.tyvars.items) same) ∙ right-is d.tyvars.items h.occurring d.cons.items h.alike in
      adds-for old new _ (data_places bs d)
      (stand-are _ _ (ap₂ (λ x y. flat_map con_bind_breaks (expanded d.cons.items) ++ (x ++ y)) (ap (λ z. unless z d.place) f) right))
      (adds-then old now new _ _ h.found (adds-then now next new _ _ a b))

  -- a declaration of them

  parts-are : (ds : List DataBind) → flat_map (data_places bs) ds ≡ flat_map data_bind_breaks (map (expand_bind bs) (map data_bind_of ds))
  parts-are ds = sym (flat_map-map data_bind_breaks (expand_bind bs) (map data_bind_of ds) ∙ flat_map-map (λ d. data_bind_breaks (expand_bind bs d)) data_bind_of ds)

  names-are : (ds : List DataBind) → map (λ (d : bare.DataBind). d.tycon) (map (expand_bind bs) (map data_bind_of ds)) ≡ map (λ d. d.tycon) ds
  names-are [] = refl
  names-are (d ∷ ds) = ap (λ l. d.tycon ∷ l) (names-are ds)

  vids-one : (cs : List ConBind) → map (λ (c : bare.ConBind). c.vid) (expanded cs) ≡ map (λ c. c.vid) cs
  vids-one [] = refl
  vids-one (c ∷ cs) = ap (λ l. c.vid ∷ l) (vids-one cs)

  abbrev all-cons : List DataBind → List ConBind
  all-cons ds = flat_map (λ d. d.cons.items) ds

  vids-are : (ds : List DataBind) → flat_map (λ (d : bare.DataBind). map (λ (c : bare.ConBind). c.vid) d.cons) (map (expand_bind bs) (map data_bind_of ds)) ≡ map (λ c. c.vid) (all-cons ds)
  vids-are [] = refl
  vids-are (d ∷ ds) = ap₂ (λ x y. x ++ y) (vids-one d.cons.items) (vids-are ds) ∙ sym (map-append (λ c. c.vid) d.cons.items (all-cons ds))

  keys-are : (ds : List DataBind) → flat_map (λ d. map con_key d.cons.items) ds ≡ map (λ c. vid_key c.vid) (all-cons ds)
  keys-are [] = refl
  keys-are (d ∷ ds) = ap (λ l. map con_key d.cons.items ++ l) (keys-are ds) ∙ sym (map-append con_key d.cons.items (all-cons ds))

  cons-once : (ds : List DataBind)
      → distinct nat_eq (flat_map (λ d. map con_key d.cons.items) ds)
      ≡ distinct same_vid (flat_map (λ (d : bare.DataBind). map (λ (c : bare.ConBind). c.vid) d.cons) (map (expand_bind bs) (map data_bind_of ds)))
  cons-once ds = ap (distinct nat_eq) (keys-are ds) ∙ by-keys same_vid vid_key vid-same (λ (c : ConBind). c.vid) (all-cons ds) ∙ ap (distinct same_vid) (sym (vids-are ds))

  pub declared : (p : Place) (ds : List DataBind) (old now new : List Place) (names cons both : Bool) → names ≡ distinct nat_eq (map (λ d. d.tycon) ds ++ [])
      → cons ≡ distinct nat_eq (flat_map (λ d. map con_key d.cons.items) ds) → both ≡ (names && cons) → Adds old now (flat_map (data_places bs) ds) → Adds now new (unless both p)
      → Adds old new (datas_places bs p ds)
  declared p ds old now new names cons both e f g a b =
      adds-for old new _ (datas_places bs p ds)
      (stand-are _ _ (ap₂ (λ x y. x ++ unless y p) (parts-are ds)
      (g ∙ ap₂ (λ x y. x && y) (e ∙ ap (distinct nat_eq) (append-nil (map (λ d. d.tycon) ds) ∙ sym (names-are ds))) (f ∙ cons-once ds))))
      (adds-then old now new _ _ a b)

  -- with abbreviations

  types-are : (p : Place) (ts : List TypeBind)
      → flat_map type_bind_breaks (map type_bind_of ts) ++ unless (distinct nat_eq (map (λ (b : bare.TypeBind). b.tycon) (map type_bind_of ts))) p ≡ type_places p ts
  types-are p ts = ap₂ (λ x y. x ++ unless (distinct nat_eq y) p) (flat_map-map type_bind_breaks type_bind_of ts) (tycons-of-types ts)

abbrev pub all-names : List DataBind → List TypeBind → List ℕ
all-names ds ts = map (λ d. d.tycon) ds ++ map (λ b. b.tycon) ts

withtype-is : (p : Place) (ds : List DataBind) (ts : List TypeBind)
    → withtype_places p ds ts ≡ (datas_places (map type_bind_of ts) p ds ++ type_places p ts) ++ unless (distinct nat_eq (all-names ds ts)) p
withtype-is p ds ts =
    let bs = map type_bind_of ts in
    ap₂ (λ x y. (datas_places bs p ds ++ x) ++ unless (distinct nat_eq y) p) (append-nil _ ∙ types-are bs p ts)
    (ap₂ (λ x y. x ++ y) (names-are bs ds) (append-nil _ ∙ tycons-of-types ts))

-- something is broken in the abbreviations
pub withtype-grew : (p : Place) (ds : List DataBind) (ts : List TypeBind) (old new : List Place) → Adds old new (type_places p ts) → length old < length new
    → Adds old new (withtype_places p ds ts)
withtype-grew p ds ts old new a lt =
    let first = datas_places (map type_bind_of ts) p ds in
    let last = unless (distinct nat_eq (all-names ds ts)) p in
    record {
      added = a.added;
      is = a.is;
      stands = record {
        some = λ q h.
            subst (λ l. Contains l q) (sym (withtype-is p ds ts))
            (Contains-append_left (first ++ type_places p ts) last q (Contains-append_right first (type_places p ts) q (a.stands.some q h)));
        none = λ n. let e : length new ≡ length old = ap length (a.is ∙ ap (λ l. old ++ l) n ∙ append-nil old) in absurd (omega (arith, e, lt));
      };
    }

no-more : (old added : List Place) → length (old ++ added) ≤ length old → added ≡ []
no-more old [] le = refl
no-more old (x ∷ added) le = let m = length-append old (x ∷ added) in absurd (omega (arith, m, le))

-- nothing is
pub withtype-kept : (p : Place) (ds : List DataBind) (ts : List TypeBind) (old now new : List Place) → Adds old now (type_places p ts) → length now ≤ length old
    → (flat_map type_bind_places ts ≡ [] → Adds now new (datas_places (map type_bind_of ts) p ds ++ unless (distinct nat_eq (all-names ds ts)) p))
    → Adds old new (withtype_places p ds ts)
withtype-kept p ds ts old now new a le f =
    let first = datas_places (map type_bind_of ts) p ds in
    let last = unless (distinct nat_eq (all-names ds ts)) p in
    let few : length (old ++ a.added) ≤ length old = subst (λ l. length l ≤ length old) a.is le in
    let n : a.added ≡ [] = no-more old a.added few in
    let none : type_places p ts ≡ [] = a.stands.none n in
    let same : now ≡ old = a.is ∙ ap (λ l. old ++ l) n ∙ append-nil old in
    adds-for old new _ (withtype_places p ds ts)
    (stand-are _ _ (ap (λ l. l ++ last) (sym (append-nil first) ∙ ap (λ l. first ++ l) (sym none)) ∙ sym (withtype-is p ds ts)))
    (subst (λ l. Adds l new (first ++ last)) same (f (none-left (flat_map type_bind_places ts) _ none)))

-- without any

no-abbreviation : (c : term.LongId) → abbreviation [] c ≡ None
no-abbreviation c = by c.qualifiers
  where
    by : (qs : List ℕ) → unqualified [] qs c.id ≡ None
    by [] = refl
    by (q ∷ qs) = refl

mutual
  same-ty : (t : bare.Ty) → expand_ty [] t ≡ t
  same-ty (bare.var p a) = refl
  same-ty (bare.fields p fs) = ap (bare.fields p) (same-fields fs)
  same-ty (bare.con p ts q c) = ap₂ (λ us o. written_out p us q c o) (same-tys ts) (no-abbreviation c)
  same-ty (bare.arrow p t u) = ap₂ (bare.arrow p) (same-ty t) (same-ty u)
  same-ty (bare.ill p) = refl

  same-tys : (ts : bare.Tys) → expand_tys [] ts ≡ ts
  same-tys bare.no_tys = refl
  same-tys (bare.ty t ts) = ap₂ bare.ty (same-ty t) (same-tys ts)

  same-fields : (fs : bare.TyFields) → expand_ty_fields [] fs ≡ fs
  same-fields bare.no_ty_fields = refl
  same-fields (bare.ty_field l t fs) = ap₂ (bare.ty_field l) (same-ty t) (same-fields fs)

same-some : (o : Option bare.Ty) → expand_some [] o ≡ o
same-some None = refl
same-some (Some t) = ap Some (same-ty t)

abbrev con-at : Place → Vid → Option bare.Ty → bare.ConBind
con-at p x o = record { place = p; vid = x; of_ty = o }

same-cons : (cs : List bare.ConBind) → map (expand_con []) cs ≡ cs
same-cons [] = refl
same-cons (c ∷ cs) = ap₂ (λ o l. con-at c.place c.vid o ∷ l) (same-some c.of_ty) (same-cons cs)

abbrev data-with : bare.DataBind → List bare.ConBind → bare.DataBind
data-with d cs = record { place = d.place; tyvars = d.tyvars; tycon = d.tycon; cons = cs }

same-datas : (ds : List bare.DataBind) → map (expand_bind []) ds ≡ ds
same-datas [] = refl
same-datas (d ∷ ds) = ap₂ (λ cs l. data-with d cs ∷ l) (same-cons d.cons) (same-datas ds)

pub datatype-is : (p : Place) (ds : List DataBind) → datas_places [] p ds ≡ datatype_places p ds
datatype-is p ds = ap (λ l. Rattle.restrictions.specs.Breaks.dec_breaks [] (bare.datatype_dec p l)) (same-datas (map data_bind_of ds))
