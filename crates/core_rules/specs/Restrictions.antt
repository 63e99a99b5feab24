-- The syntactic restrictions: the places of the phrases that break one, whatever is in scope, in the order of the phrases' ends, inner ones first.
-- [Definition 2.9, 4.11]
-- That no variable is bound twice, nor one of the kept identifiers, is asked by the rules of patterns: there an identifier's status is known.
use Rattle.std.specs.Prelude.{ℕ, zero, suc, Bool, true, false, not, ◌&&◌, ◌||◌, nat_eq, if◌then◌else◌, List, [], ◌∷◌, ◌++◌, map, flat_map, length}
use Rattle.std.specs.List.{list_all}
use Rattle.mlc_names.specs.StandardWords.{word_true, word_false, word_nil, word_cons, word_ref, word_it}
use Rattle.mlc_names.specs.declared.label.Label.{Label}
use Rattle.mlc_base.specs.declared.place.Place.{Place}
use Rattle.sml_tree.specs.declared.ident.Tyvar.{Tyvar}
use Rattle.sml_tree.specs.declared.ident.Vid.{Vid}
use Rattle.sml_tree.specs.declared.ident.Vid.TheVariants.{Named, Equals, Fresh}
use Rattle.sml_tree.specs.BareTree as bare
use Rattle.sml_tree.specs.BareTree.{Ty, TyFields, ConBind, DataBind, ExBind, new_exn, same_exn, Pat, PatFields, Exp, ExpFields, Decs, Dec, val_dec, type_dec, datatype_dec, exception_dec, sequence_dec}
use Rattle.sml_tree.specs.Phrases.{Phrase, exp, pat, ty, dec, bind, type_bind, data_bind, con_bind, ex_bind, bind_list, dec_list, parts, phrases}
use Rattle.core_rules.specs.Words.{same_vid, same_label, is_in}
use Rattle.core_rules.specs.Scoping.{tyvars_in, tyvar_names, scoped_at}

abbrev pub distinct : {A : Type 0} → (A → A → Bool) → List A → Bool
distinct same [] = true
distinct same (x ∷ xs) = not (is_in same x xs) && distinct same xs

-- identifiers that are never bound
abbrev pub is_kept : Vid → Bool
is_kept v = elim v [ Named x ↦ is_in nat_eq x (word_true ∷ word_false ∷ word_nil ∷ word_cons ∷ word_ref ∷ []) | Equals ↦ true | Fresh k ↦ false ]

-- where a phrase begins
abbrev pub ty_place : Ty → Place
ty_place t = elim t [ bare.var p a ↦ p | bare.fields p fs ↦ p | bare.con p ts q x ↦ p | bare.arrow p t u ↦ p | bare.ill p ↦ p ]

abbrev pub exp_place : Exp → Place
exp_place (bare.constant_exp p c) = p
exp_place (bare.vid_exp p x) = p
exp_place (bare.built_exp p b) = p
exp_place (bare.fields_exp p fs) = p
exp_place (bare.let_in p ds e) = p
exp_place (bare.app p f a) = p
exp_place (bare.typed p e t) = p
exp_place (bare.handle p e rs) = p
exp_place (bare.raise p e) = p
exp_place (bare.fn p rs) = p

-- broken at p, unless a test holds
abbrev pub unless : Bool → Place → List Place
unless b p = if b then [] else p ∷ []

-- no label twice in a record, a record pattern or a record type

abbrev pub ty_labels : TyFields → List Label
ty_labels bare.no_ty_fields = []
ty_labels (bare.ty_field l t fs) = l ∷ ty_labels fs

abbrev pub pat_labels : PatFields → List Label
pat_labels bare.no_pat_fields = []
pat_labels (bare.pat_field l a fs) = l ∷ pat_labels fs

abbrev pub exp_labels : ExpFields → List Label
exp_labels bare.no_exp_fields = []
exp_labels (bare.exp_field l e fs) = l ∷ exp_labels fs

-- no type variable twice in a sequence; the right side of a binding of a type has no other variables

abbrev pub are_among : List Tyvar → List Tyvar → Bool
are_among as_ bs = list_all (λ b. is_in nat_eq b.name (tyvar_names as_)) bs

abbrev pub no_repetition : List Tyvar → Bool
no_repetition as_ = distinct nat_eq (tyvar_names as_)

-- the right side of a datatype binding is named by its first constructor
abbrev pub right_side : List Tyvar → List ConBind → List Place
right_side as_ [] = []
right_side as_ (c ∷ cs) = unless (are_among as_ (tyvars_in (flat_map (λ c. phrases (con_bind c)) (c ∷ cs)))) c.place

-- no type constructor, constructor or exception twice in a declaration; `withtype` counts, of which a sequence is made

abbrev pub exn_vids : List ExBind → List Vid
exn_vids = map (λ b. elim b [ new_exn p x t ↦ x | same_exn p x q y ↦ x ])

abbrev pub tycons_of : Dec → List ℕ
tycons_of d = elim d [ type_dec p bs ↦ map (λ b. b.tycon) bs | datatype_dec p bs ↦ map (λ b. b.tycon) bs | other ↦ [] ]

abbrev pub tycons_in : Decs → List ℕ
tycons_in bare.no_decs = []
tycons_in (bare.dec d ds) = tycons_of d ++ tycons_in ds

-- with the type variables that are scoped round it: none of these is in a sequence
abbrev pub broken_by_dec : List ℕ → Dec → List Place
broken_by_dec scoped (val_dec p q as_ bs rs) = unless (no_repetition as_ && list_all (λ a. not (is_in nat_eq a.name scoped)) as_) q
broken_by_dec scoped (type_dec p bs) = unless (distinct nat_eq (map (λ b. b.tycon) bs)) p
broken_by_dec scoped (datatype_dec p bs) = unless (distinct nat_eq (map (λ b. b.tycon) bs) && distinct same_vid (flat_map (λ b. map (λ c. c.vid) b.cons) bs)) p
broken_by_dec scoped (exception_dec p bs) = unless (distinct same_vid (exn_vids bs)) p
broken_by_dec scoped (sequence_dec p ds) = unless (distinct nat_eq (tycons_in ds)) p
broken_by_dec scoped d = []

-- each right side of `val rec` is a `fn`
abbrev pub unless_fn : Phrase → List Place
unless_fn x = elim x [ bind p a (bare.fn q rs) ↦ [] | bind p a e ↦ exp_place e ∷ [] | other ↦ [] ]

abbrev pub scoped_inside : List ℕ → Phrase → List ℕ
scoped_inside scoped x = elim x [ dec (val_dec p q as_ bs rs) ↦ tyvar_names (scoped_at scoped as_ bs rs) ++ scoped | other ↦ scoped ]

-- what the parts of a phrase give
abbrev pub inside : (Phrase → List Place) → Phrase → List Place
inside go (dec (val_dec p q as_ bs rs)) = flat_map go (bind_list bs) ++ flat_map (λ x. go x ++ unless_fn x) (bind_list rs)
inside go x = flat_map go (parts x)

-- `it` is no constructor or exception besides
abbrev pub may_construct : Vid → Bool
may_construct x = not (is_kept x || same_vid x (Named word_it))

-- what a phrase breaks itself
abbrev pub broken_by : List ℕ → Phrase → List Place
broken_by scoped (exp (bare.fields_exp p fs)) = unless (distinct same_label (exp_labels fs)) p
broken_by scoped (pat (bare.fields_pat p fs further)) = unless (distinct same_label (pat_labels fs)) p
broken_by scoped (ty (bare.fields p fs)) = unless (distinct same_label (ty_labels fs)) p
broken_by scoped (dec d) = broken_by_dec scoped d
broken_by scoped (type_bind b) = unless (no_repetition b.tyvars) b.place ++ unless (are_among b.tyvars (tyvars_in (phrases (ty b.ty)))) (ty_place b.ty)
broken_by scoped (data_bind b) = unless (no_repetition b.tyvars) b.place ++ right_side b.tyvars b.cons
broken_by scoped (con_bind c) = unless (may_construct c.vid) c.place
broken_by scoped (ex_bind (new_exn p x t)) = unless (may_construct x) p
broken_by scoped (ex_bind (same_exn p x q y)) = unless (may_construct x) p
broken_by scoped x = []

-- and what is in it, so many levels deep
abbrev pub broken_to : ℕ → List ℕ → Phrase → List Place
broken_to zero scoped x = []
broken_to (suc k) scoped x = inside (broken_to k (scoped_inside scoped x)) x ++ broken_by scoped x

-- no phrase is deeper than it has phrases
abbrev pub broken_in : Decs → List Place
broken_in ds = flat_map (λ x. broken_to (length (phrases x)) [] x) (dec_list ds)
