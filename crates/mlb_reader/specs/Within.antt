-- Places and names in a project: the places of all its expressions, patterns, bindings and declarations meet P, and the names of all value identifiers in
-- them meet N, of a qualified one the last part. What stands in types isn't asked.
use Rattle.std.specs.Prelude.{ℕ, ◌<◌, ⊤, List}
use Rattle.std.specs.List.{AllByRecursion}
use Rattle.mlc_base.specs.declared.place.Place.{Place}
use Rattle.sml_tree.specs.declared.ident.Vid.{Vid}
use Rattle.sml_tree.specs.declared.ident.Vid.TheVariants.{Named, Equals, Fresh}
use Rattle.sml_tree.specs.BareTree.{Pat, wild_pat, constant_pat, vid_pat, built_pat, fields_pat, con_pat, built_con_pat, typed_pat, as_pat, PatFields, no_pat_fields, pat_field, TypeBind, ConBind, DataBind, ExBind, new_exn, same_exn, LongIdAt, Exp, constant_exp, vid_exp, built_exp, fields_exp, let_in, app, typed, handle, raise, fn, ExpFields, no_exp_fields, exp_field, Rules, no_rules, rule, Decs, no_decs, dec, Dec, val_dec, type_dec, datatype_dec, replicate_dec, exception_dec, local_dec, open_dec, sequence_dec, Binds, no_binds, bind}
use Rattle.mlb_reader.specs.Parts.{Part, standard_basis, source, cut}

module _ (P : Place → Type 0) (N : ℕ → Type 0) where
  abbrev pub VidIn : Vid → Type 0
  VidIn (Named x) = N x
  VidIn Equals = ⊤
  VidIn (Fresh k) = ⊤

  abbrev mutual
    pub PatIn : Pat → Type 0
    PatIn (wild_pat p) = P p
    PatIn (constant_pat p c) = P p
    PatIn (vid_pat p x) = P p × VidIn x.vid
    PatIn (built_pat p b) = P p
    PatIn (fields_pat p fs b) = P p × PatFieldsIn fs
    PatIn (con_pat p q x a) = P p × P q × VidIn x.vid × PatIn a
    PatIn (built_con_pat p b a) = P p × PatIn a
    PatIn (typed_pat p a t) = P p × PatIn a
    PatIn (as_pat p v t a) = P p × VidIn v × PatIn a

    pub PatFieldsIn : PatFields → Type 0
    PatFieldsIn no_pat_fields = ⊤
    PatFieldsIn (pat_field l a fs) = PatIn a × PatFieldsIn fs

  abbrev pub TypeBindIn : TypeBind → Type 0
  TypeBindIn b = P b.place

  abbrev pub ConIn : ConBind → Type 0
  ConIn c = P c.place × VidIn c.vid

  abbrev pub DataBindIn : DataBind → Type 0
  DataBindIn b = P b.place × AllByRecursion ConIn b.cons

  abbrev pub ExBindIn : ExBind → Type 0
  ExBindIn (new_exn p v t) = P p × VidIn v
  ExBindIn (same_exn p v q x) = P p × VidIn v × P q × VidIn x.vid

  abbrev pub LongIn : LongIdAt → Type 0
  LongIn x = P x.place

  abbrev mutual
    pub ExpIn : Exp → Type 0
    ExpIn (constant_exp p c) = P p
    ExpIn (vid_exp p x) = P p × VidIn x.vid
    ExpIn (built_exp p b) = P p
    ExpIn (fields_exp p fs) = P p × ExpFieldsIn fs
    ExpIn (let_in p ds e) = P p × DecsIn ds × ExpIn e
    ExpIn (app p f a) = P p × ExpIn f × ExpIn a
    ExpIn (typed p e t) = P p × ExpIn e
    ExpIn (handle p e rs) = P p × ExpIn e × RulesIn rs
    ExpIn (raise p e) = P p × ExpIn e
    ExpIn (fn p rs) = P p × RulesIn rs

    pub ExpFieldsIn : ExpFields → Type 0
    ExpFieldsIn no_exp_fields = ⊤
    ExpFieldsIn (exp_field l e fs) = ExpIn e × ExpFieldsIn fs

    pub RulesIn : Rules → Type 0
    RulesIn no_rules = ⊤
    RulesIn (rule p a e rs) = P p × PatIn a × ExpIn e × RulesIn rs

    pub DecsIn : Decs → Type 0
    DecsIn no_decs = ⊤
    DecsIn (dec d ds) = DecIn d × DecsIn ds

    pub DecIn : Dec → Type 0
    DecIn (val_dec p q as_ bs cs) = P p × P q × BindsIn bs × BindsIn cs
    DecIn (type_dec p bs) = P p × AllByRecursion TypeBindIn bs
    DecIn (datatype_dec p bs) = P p × AllByRecursion DataBindIn bs
    DecIn (replicate_dec p x c) = P p × LongIn c
    DecIn (exception_dec p bs) = P p × AllByRecursion ExBindIn bs
    DecIn (local_dec p ds es) = P p × DecsIn ds × DecsIn es
    DecIn (open_dec p xs) = P p × AllByRecursion LongIn xs
    DecIn (sequence_dec p ds) = P p × DecsIn ds

    pub BindsIn : Binds → Type 0
    BindsIn no_binds = ⊤
    BindsIn (bind p a e bs) = P p × PatIn a × ExpIn e × BindsIn bs

  abbrev pub PartIn : Part → Type 0
  PartIn standard_basis = ⊤
  PartIn (source ds) = DecsIn ds
  PartIn (cut ds p) = DecsIn ds × P p

  abbrev pub PartsIn : List Part → Type 0
  PartsIn = AllByRecursion PartIn

-- fewer than so many names are held, and the names in these parts are
abbrev pub HoldsAll : ℕ → List Part → Type 0
HoldsAll count = PartsIn (λ p. ⊤) (λ n. n < count)

-- the places in these parts are such
abbrev pub AllPlacedIn : (Place → Type 0) → List Part → Type 0
AllPlacedIn P = PartsIn P (λ n. ⊤)
