-- The phrases of a bare tree, for whatever walks over one: the immediate parts of a phrase, and all phrases in it.
use Rattle.std.specs.Prelude.{◌≡◌, ℕ, ◌+◌, if◌then◌else◌, Bool, true, false, List, [], ◌∷◌, ◌++◌, map, Option, Some, None, flat_map}
use Rattle.mlc_base.specs.declared.place.Place.{Place}
use Rattle.sml_tree.specs.declared.ident.Tyvar.{Tyvar}
use Rattle.sml_tree.specs.BareTree as bare
use Rattle.sml_tree.specs.BareTree.{Ty, Tys, TyFields, Pat, PatFields, TypeBind, ConBind, DataBind, ExBind, Exp, ExpFields, Rules, Decs, Dec, Binds}

pub data Phrase : Type 0 where
  exp : Exp → Phrase
  pat : Pat → Phrase
  ty : Ty → Phrase
  dec : Dec → Phrase
  -- a rule of a match, and a binding of values
  rule : Place → Pat → Exp → Phrase
  bind : Place → Pat → Exp → Phrase
  type_bind : TypeBind → Phrase
  data_bind : DataBind → Phrase
  con_bind : ConBind → Phrase
  ex_bind : ExBind → Phrase

-- The immediate parts of a phrase, in the order of the bare tree. This is the order of the text, but where a derived form turns it round: an infix
-- identifier comes before its operands, and the rules of a `case`, or the branches of an `if`, before the expression that they are tried on.

abbrev pub some_ty : Option Ty → List Phrase
some_ty None = []
some_ty (Some t) = ty t ∷ []

abbrev pub ty_list : Tys → List Phrase
ty_list bare.no_tys = []
ty_list (bare.ty t ts) = ty t ∷ ty_list ts

abbrev pub ty_field_list : TyFields → List Phrase
ty_field_list bare.no_ty_fields = []
ty_field_list (bare.ty_field l t fs) = ty t ∷ ty_field_list fs

abbrev pub pat_field_list : PatFields → List Phrase
pat_field_list bare.no_pat_fields = []
pat_field_list (bare.pat_field l a fs) = pat a ∷ pat_field_list fs

abbrev pub exp_field_list : ExpFields → List Phrase
exp_field_list bare.no_exp_fields = []
exp_field_list (bare.exp_field l e fs) = exp e ∷ exp_field_list fs

abbrev pub rule_list : Rules → List Phrase
rule_list bare.no_rules = []
rule_list (bare.rule p a e rs) = rule p a e ∷ rule_list rs

abbrev pub dec_list : Decs → List Phrase
dec_list bare.no_decs = []
dec_list (bare.dec d ds) = dec d ∷ dec_list ds

abbrev pub bind_list : Binds → List Phrase
bind_list bare.no_binds = []
bind_list (bare.bind p a e bs) = bind p a e ∷ bind_list bs

abbrev pub ty_parts : Ty → List Phrase
ty_parts (bare.var p a) = []
ty_parts (bare.fields p fs) = ty_field_list fs
ty_parts (bare.con p ts q c) = ty_list ts
ty_parts (bare.arrow p t u) = ty t ∷ ty u ∷ []
ty_parts (bare.ill p) = []

abbrev pub pat_parts : Pat → List Phrase
pat_parts (bare.wild_pat p) = []
pat_parts (bare.constant_pat p c) = []
pat_parts (bare.vid_pat p x) = []
pat_parts (bare.built_pat p b) = []
pat_parts (bare.fields_pat p fs b) = pat_field_list fs
pat_parts (bare.con_pat p q x a) = pat a ∷ []
pat_parts (bare.built_con_pat p b a) = pat a ∷ []
pat_parts (bare.typed_pat p a t) = pat a ∷ ty t ∷ []
pat_parts (bare.as_pat p v t a) = some_ty t ++ pat a ∷ []

abbrev pub exp_parts : Exp → List Phrase
exp_parts (bare.constant_exp p c) = []
exp_parts (bare.vid_exp p x) = []
exp_parts (bare.built_exp p b) = []
exp_parts (bare.fields_exp p fs) = exp_field_list fs
exp_parts (bare.let_in p ds e) = dec_list ds ++ exp e ∷ []
exp_parts (bare.app p f a) = exp f ∷ exp a ∷ []
exp_parts (bare.typed p e t) = exp e ∷ ty t ∷ []
exp_parts (bare.handle p e rs) = exp e ∷ rule_list rs
exp_parts (bare.raise p e) = exp e ∷ []
exp_parts (bare.fn p rs) = rule_list rs

abbrev pub dec_parts : Dec → List Phrase
dec_parts (bare.val_dec p q as_ bs cs) = bind_list bs ++ bind_list cs
dec_parts (bare.type_dec p bs) = map type_bind bs
dec_parts (bare.datatype_dec p bs) = map data_bind bs
dec_parts (bare.replicate_dec p x c) = []
dec_parts (bare.exception_dec p bs) = map ex_bind bs
dec_parts (bare.local_dec p ds es) = dec_list ds ++ dec_list es
dec_parts (bare.open_dec p xs) = []
dec_parts (bare.sequence_dec p ds) = dec_list ds

abbrev pub ex_bind_parts : ExBind → List Phrase
ex_bind_parts (bare.new_exn p v t) = some_ty t
ex_bind_parts (bare.same_exn p v q x) = []

abbrev pub parts : Phrase → List Phrase
parts (exp e) = exp_parts e
parts (pat a) = pat_parts a
parts (ty t) = ty_parts t
parts (dec d) = dec_parts d
parts (rule p a e) = pat a ∷ exp e ∷ []
parts (bind p a e) = pat a ∷ exp e ∷ []
parts (type_bind b) = ty b.ty ∷ []
parts (data_bind b) = map con_bind b.cons
parts (con_bind c) = some_ty c.of_ty
parts (ex_bind b) = ex_bind_parts b

-- A phrase and all phrases in it, each before its parts. Where `stop` says so, a phrase's parts are left out.

abbrev pub unless : Bool → List Phrase → List Phrase
unless true xs = []
unless false xs = xs

module _ (stop : Phrase → Bool) where
  -- a phrase before what is in its parts
  abbrev pub before : Phrase → List Phrase → List Phrase
  before x inside = x ∷ unless (stop x) inside

  abbrev mutual
    pub in_ty : Ty → List Phrase
    in_ty (bare.var p a) = before (ty (bare.var p a)) []
    in_ty (bare.fields p fs) = before (ty (bare.fields p fs)) (in_ty_fields fs)
    in_ty (bare.con p ts q c) = before (ty (bare.con p ts q c)) (in_tys ts)
    in_ty (bare.arrow p t u) = before (ty (bare.arrow p t u)) (in_ty t ++ in_ty u)
    in_ty (bare.ill p) = before (ty (bare.ill p)) []

    pub in_tys : Tys → List Phrase
    in_tys bare.no_tys = []
    in_tys (bare.ty t ts) = in_ty t ++ in_tys ts

    pub in_ty_fields : TyFields → List Phrase
    in_ty_fields bare.no_ty_fields = []
    in_ty_fields (bare.ty_field l t fs) = in_ty t ++ in_ty_fields fs

  abbrev pub in_some : Option Ty → List Phrase
  in_some None = []
  in_some (Some t) = in_ty t

  abbrev mutual
    pub in_pat : Pat → List Phrase
    in_pat (bare.wild_pat p) = before (pat (bare.wild_pat p)) []
    in_pat (bare.constant_pat p c) = before (pat (bare.constant_pat p c)) []
    in_pat (bare.vid_pat p x) = before (pat (bare.vid_pat p x)) []
    in_pat (bare.built_pat p b) = before (pat (bare.built_pat p b)) []
    in_pat (bare.fields_pat p fs b) = before (pat (bare.fields_pat p fs b)) (in_pat_fields fs)
    in_pat (bare.con_pat p q x a) = before (pat (bare.con_pat p q x a)) (in_pat a)
    in_pat (bare.built_con_pat p b a) = before (pat (bare.built_con_pat p b a)) (in_pat a)
    in_pat (bare.typed_pat p a t) = before (pat (bare.typed_pat p a t)) (in_pat a ++ in_ty t)
    in_pat (bare.as_pat p v t a) = before (pat (bare.as_pat p v t a)) (in_some t ++ in_pat a)

    pub in_pat_fields : PatFields → List Phrase
    in_pat_fields bare.no_pat_fields = []
    in_pat_fields (bare.pat_field l a fs) = in_pat a ++ in_pat_fields fs

  abbrev pub in_type_bind : TypeBind → List Phrase
  in_type_bind b = before (type_bind b) (in_ty b.ty)

  abbrev pub in_con_bind : ConBind → List Phrase
  in_con_bind c = before (con_bind c) (in_some c.of_ty)

  abbrev pub in_data_bind : DataBind → List Phrase
  in_data_bind b = before (data_bind b) (flat_map in_con_bind b.cons)

  abbrev pub in_ex_bind : ExBind → List Phrase
  in_ex_bind (bare.new_exn p v t) = before (ex_bind (bare.new_exn p v t)) (in_some t)
  in_ex_bind (bare.same_exn p v q x) = before (ex_bind (bare.same_exn p v q x)) []

  abbrev mutual
    pub in_exp : Exp → List Phrase
    in_exp (bare.constant_exp p c) = before (exp (bare.constant_exp p c)) []
    in_exp (bare.vid_exp p x) = before (exp (bare.vid_exp p x)) []
    in_exp (bare.built_exp p b) = before (exp (bare.built_exp p b)) []
    in_exp (bare.fields_exp p fs) = before (exp (bare.fields_exp p fs)) (in_exp_fields fs)
    in_exp (bare.let_in p ds e) = before (exp (bare.let_in p ds e)) (in_decs ds ++ in_exp e)
    in_exp (bare.app p f a) = before (exp (bare.app p f a)) (in_exp f ++ in_exp a)
    in_exp (bare.typed p e t) = before (exp (bare.typed p e t)) (in_exp e ++ in_ty t)
    in_exp (bare.handle p e rs) = before (exp (bare.handle p e rs)) (in_exp e ++ in_rules rs)
    in_exp (bare.raise p e) = before (exp (bare.raise p e)) (in_exp e)
    in_exp (bare.fn p rs) = before (exp (bare.fn p rs)) (in_rules rs)

    pub in_exp_fields : ExpFields → List Phrase
    in_exp_fields bare.no_exp_fields = []
    in_exp_fields (bare.exp_field l e fs) = in_exp e ++ in_exp_fields fs

    pub in_rules : Rules → List Phrase
    in_rules bare.no_rules = []
    in_rules (bare.rule p a e rs) = before (rule p a e) (in_pat a ++ in_exp e) ++ in_rules rs

    pub in_decs : Decs → List Phrase
    in_decs bare.no_decs = []
    in_decs (bare.dec d ds) = in_dec d ++ in_decs ds

    pub in_dec : Dec → List Phrase
    in_dec (bare.val_dec p q as_ bs cs) = before (dec (bare.val_dec p q as_ bs cs)) (in_binds bs ++ in_binds cs)
    in_dec (bare.type_dec p bs) = before (dec (bare.type_dec p bs)) (flat_map in_type_bind bs)
    in_dec (bare.datatype_dec p bs) = before (dec (bare.datatype_dec p bs)) (flat_map in_data_bind bs)
    in_dec (bare.replicate_dec p x c) = before (dec (bare.replicate_dec p x c)) []
    in_dec (bare.exception_dec p bs) = before (dec (bare.exception_dec p bs)) (flat_map in_ex_bind bs)
    in_dec (bare.local_dec p ds es) = before (dec (bare.local_dec p ds es)) (in_decs ds ++ in_decs es)
    in_dec (bare.open_dec p xs) = before (dec (bare.open_dec p xs)) []
    in_dec (bare.sequence_dec p ds) = before (dec (bare.sequence_dec p ds)) (in_decs ds)

    pub in_binds : Binds → List Phrase
    in_binds bare.no_binds = []
    in_binds (bare.bind p a e bs) = before (bind p a e) (in_pat a ++ in_exp e) ++ in_binds bs

  abbrev pub phrases_until : Phrase → List Phrase
  phrases_until (exp e) = in_exp e
  phrases_until (pat a) = in_pat a
  phrases_until (ty t) = in_ty t
  phrases_until (dec d) = in_dec d
  phrases_until (rule p a e) = before (rule p a e) (in_pat a ++ in_exp e)
  phrases_until (bind p a e) = before (bind p a e) (in_pat a ++ in_exp e)
  phrases_until (type_bind b) = in_type_bind b
  phrases_until (data_bind b) = in_data_bind b
  phrases_until (con_bind c) = in_con_bind c
  phrases_until (ex_bind b) = in_ex_bind b

abbrev pub never : Phrase → Bool
never x = false

-- all phrases in a phrase, itself the first
abbrev pub phrases : Phrase → List Phrase
phrases x = phrases_until never x

-- the phrases inside a phrase, itself left out
abbrev pub inside_until : (Phrase → Bool) → Phrase → List Phrase
inside_until stop x = flat_map (phrases_until stop) (parts x)

-- The walk is a phrase and then the walks of its parts, whatever stops it.
abbrev pub WalkIsByParts : Type 0
WalkIsByParts = (stop : Phrase → Bool) (x : Phrase) → phrases_until stop x ≡ x ∷ unless (stop x) (flat_map (phrases_until stop) (parts x))

-- Walks that several definitions need.

-- phrases of a kind, counted
abbrev pub count : (Phrase → Bool) → List Phrase → ℕ
count p [] = 0
count p (x ∷ xs) = (if p x then 1 else 0) + count p xs

-- a type variable where it stands
pub record TyvarAt : Type 0 where
  pub place : Place
  pub tyvar : Tyvar

abbrev pub ty_tyvars : Ty → List TyvarAt
ty_tyvars (bare.var p a) = record { place = p; tyvar = a } ∷ []
ty_tyvars (bare.fields p fs) = []
ty_tyvars (bare.con p ts q c) = []
ty_tyvars (bare.arrow p t u) = []
ty_tyvars (bare.ill p) = []

abbrev pub tyvars_at : Phrase → List TyvarAt
tyvars_at (exp e) = []
tyvars_at (pat a) = []
tyvars_at (ty t) = ty_tyvars t
tyvars_at (dec d) = []
tyvars_at (rule p a e) = []
tyvars_at (bind p a e) = []
tyvars_at (type_bind b) = []
tyvars_at (data_bind b) = []
tyvars_at (con_bind c) = []
tyvars_at (ex_bind b) = []

abbrev pub is_val_dec : Dec → Bool
is_val_dec (bare.val_dec p q as_ bs cs) = true
is_val_dec (bare.type_dec p bs) = false
is_val_dec (bare.datatype_dec p bs) = false
is_val_dec (bare.replicate_dec p x c) = false
is_val_dec (bare.exception_dec p bs) = false
is_val_dec (bare.local_dec p ds es) = false
is_val_dec (bare.open_dec p xs) = false
is_val_dec (bare.sequence_dec p ds) = false

-- where the scope of type variables ends: at a smaller declaration of values, and at bindings of types, which bind all that occur in them
abbrev pub has_scope : Phrase → Bool
has_scope (exp e) = false
has_scope (pat a) = false
has_scope (ty t) = false
has_scope (dec d) = is_val_dec d
has_scope (rule p a e) = false
has_scope (bind p a e) = false
has_scope (type_bind b) = true
has_scope (data_bind b) = true
has_scope (con_bind c) = false
has_scope (ex_bind b) = false

-- the type variables that occur unguarded in a declaration of values (section 4.6), each as often as it does
abbrev pub unguarded : Dec → List TyvarAt
unguarded d = flat_map tyvars_at (inside_until has_scope (dec d))
