-- What is in types whose abbreviations are written out: what is broken there, and the type variables that occur.
use Rattle.std.specs.Prelude.{◌≡◌, ℕ, ◌+◌, Bool, nat_eq, if◌then◌else◌, List, [], ◌∷◌, ◌++◌, flat_map, get_or, length, map, Option, Some, None}
use Rattle.std.specs.List.{list_any}
use Rattle.std.specs.Map.{lookup}
use Rattle.mlc_base.specs.declared.place.Place.{Place}
use Rattle.sml_tree.specs.BareTree as bare
use Rattle.sml_tree.specs.Derived.{expand_bind, expand_con, expand_ty}
use Rattle.sml_tree.specs.Phrases.{con_bind, phrases, ty}
use Rattle.sml_tree.specs.Terminal.{LongId}
use Rattle.sml_tree.specs.TreeOf.{con_bind_of, data_bind_of, ty_of}
use Rattle.sml_tree.specs.declared.ident.Tyvar.{Tyvar}
use Rattle.sml_tree.specs.declared.tree.ConBind.{ConBind}
use Rattle.sml_tree.specs.declared.tree.DataBind.{DataBind}
use Rattle.sml_tree.specs.declared.tree.Ty.{Ty}
use Rattle.sml_tree.specs.declared.tree.TyField.{TyField}
use Rattle.sml_tree.specs.declared.tree.TyPart.{TyPart}
use Rattle.core_rules.specs.Restrictions.{distinct, may_construct, ty_labels}
use Rattle.core_rules.specs.Scoping.{tyvar_names, tyvars_in}
use Rattle.core_rules.specs.Words.{is_in, same_label}
use Rattle.restrictions.specs.Breaks.{con_bind_breaks, data_bind_breaks, dec_breaks, type_bind_breaks}
use Rattle.restrictions.specs.Found.{Adds}
use Rattle.restrictions.specs.declared.written.Abbreviations.{Abbreviations}
use Rattle.restrictions.specs.declared.written.Mark.{Mark}
use Rattle.restrictions.specs.declared.written.Mark.TheVariants.{Broken, Occurs}

abbrev pub unless_mark : Bool → Place → List Mark
unless_mark b p = if b then [] else Broken p ∷ []

abbrev mutual
  pub ty_marks : bare.Ty → List Mark
  ty_marks (bare.var p a) = Occurs a ∷ []
  ty_marks (bare.fields p fs) = ty_fields_marks fs ++ unless_mark (distinct same_label (ty_labels fs)) p
  ty_marks (bare.con p ts q c) = tys_marks ts
  ty_marks (bare.arrow p t u) = ty_marks t ++ ty_marks u
  ty_marks (bare.ill p) = []

  pub tys_marks : bare.Tys → List Mark
  tys_marks bare.no_tys = []
  tys_marks (bare.ty t ts) = ty_marks t ++ tys_marks ts

  pub ty_fields_marks : bare.TyFields → List Mark
  ty_fields_marks bare.no_ty_fields = []
  ty_fields_marks (bare.ty_field l t fs) = ty_marks t ++ ty_fields_marks fs

abbrev pub some_marks : Option bare.Ty → List Mark
some_marks None = []
some_marks (Some t) = ty_marks t

abbrev pub con_marks : bare.ConBind → List Mark
con_marks c = some_marks c.of_ty ++ unless_mark (may_construct c.vid) c.place

-- of the code's tree, with these abbreviations written out

abbrev pub written : List bare.TypeBind → Ty → List Mark
written bs t = ty_marks (expand_ty bs (ty_of t))

abbrev pub written_field : List bare.TypeBind → TyField → List Mark
written_field bs f = written bs f.ty

abbrev pub written_part : List bare.TypeBind → TyPart → List Mark
written_part bs p = written bs p.ty

abbrev pub written_con : List bare.TypeBind → ConBind → List Mark
written_con bs c = con_marks (expand_con bs (con_bind_of c))

abbrev pub data_places : List bare.TypeBind → DataBind → List Place
data_places bs d = data_bind_breaks (expand_bind bs (data_bind_of d))

-- the marks of chosen types
abbrev pub chosen : List Bool → List (List Mark) → List Mark
chosen (b ∷ bs) (m ∷ ms) = (if b then m else []) ++ chosen bs ms
chosen _ _ = []

-- lists of which the same tests hold
abbrev pub Alike : {A : Type 0} → List A → List A → Type 0
Alike {A = A} xs ys = (t : A → Bool) → list_any t xs ≡ list_any t ys

-- what was added is like these marks
pub record Notes (old new marks : List Mark) : Type 0 where
  pub added : List Mark
  pub is : new ≡ old ++ added
  pub alike : Alike added marks

-- Abbreviations as they are found by their names: which parameters of each occur in what it stands for.

abbrev pub used_of : bare.TypeBind → List Bool
used_of b = map (λ a. is_in nat_eq a.name (tyvar_names (tyvars_in (phrases (ty b.ty))))) b.tyvars

abbrev pub index_from : ℕ → List bare.TypeBind → List (ℕ × ℕ)
index_from k [] = []
index_from k (b ∷ bs) = (b.tycon, k) ∷ index_from (k + 1) bs

-- nothing is broken in them
pub record AreRead (bs : List bare.TypeBind) (w : Abbreviations) : Type 0 where
  pub index : w.index ≡ index_from 0 bs
  pub used : map (λ u. u.items) w.used.items ≡ map used_of bs
  pub whole : flat_map type_bind_breaks bs ≡ []

-- the parameters of the abbreviation of a number
abbrev pub used_at : Abbreviations → ℕ → List Bool
used_at w n = get_or (map (λ u. u.items) w.used.items) n []

-- which number an abbreviation's name has: it is written with no qualifier
abbrev pub number_in : Abbreviations → LongId → Option ℕ
number_in w c = elim c.qualifiers [ [] ↦ lookup (nat_eq c.id) w.index | q ∷ qs ↦ None ]

-- the marks of chosen types, where as many are asked for as there are
abbrev pub chosen_all : List Bool → List (List Mark) → List Mark
chosen_all us ms = if nat_eq (length us) (length ms) then chosen us ms else []

abbrev pub mark_places : Mark → List Place
mark_places (Broken p) = p ∷ []
mark_places (Occurs a) = []

abbrev pub mark_tyvars : Mark → List Tyvar
mark_tyvars (Broken p) = []
mark_tyvars (Occurs a) = a ∷ []

-- the right side of a datatype is named by its first constructor
abbrev pub right_places : Bool → List ConBind → List Place
right_places b [] = []
right_places b (c ∷ cs) = if b then [] else c.place ∷ []

-- constructors that were walked: what was found, and which type variables occur
pub record HasCons (bs : List bare.TypeBind) (cs : List ConBind) (old new : List Place) (before after : List Tyvar) : Type 0 where
  pub found : Adds old new (flat_map con_bind_breaks (map (expand_con bs) (map con_bind_of cs)))
  pub occurring : List Tyvar
  pub are : after ≡ before ++ occurring
  pub alike : Alike occurring (tyvars_in (flat_map (λ c. phrases (con_bind c)) (map (expand_con bs) (map con_bind_of cs))))

-- a declaration of datatypes
abbrev pub datas_places : List bare.TypeBind → Place → List DataBind → List Place
datas_places bs p ds = dec_breaks [] (bare.datatype_dec p (map (expand_bind bs) (map data_bind_of ds)))
