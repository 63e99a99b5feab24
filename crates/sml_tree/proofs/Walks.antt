-- A walk by the parts of a phrase.
use Rattle.std.proofs.Common.{◌≡◌, Bool, List, [], ◌∷◌, ◌++◌, Option, Some, None, refl, sym, ap}
use Rattle.std.specs.List.{flat_map}
use Rattle.std.proofs.lemmas.Grind.{flat_map-append}
use Rattle.std.proofs.lemmas.List.{append-nil}
use Rattle.std.proofs.lemmas.List.Folds.{flat_map-map}
use Rattle.sml_tree.specs.BareTree as bare
use Rattle.sml_tree.specs.BareTree.{Ty, Tys, TyFields, Pat, PatFields, ExBind, Exp, ExpFields, Rules, Decs, Dec, Binds}
use Rattle.sml_tree.specs.Phrases.{Phrase, exp, pat, ty, dec, rule, bind, type_bind, data_bind, con_bind, ex_bind, some_ty, ty_list, ty_field_list, pat_field_list, exp_field_list, rule_list, dec_list, bind_list, ty_parts, pat_parts, exp_parts, dec_parts, ex_bind_parts, parts, unless, before, in_ty, in_tys, in_ty_fields, in_some, in_pat, in_pat_fields, in_ex_bind, in_exp, in_exp_fields, in_rules, in_decs, in_dec, in_binds, phrases_until, WalkIsByParts}

module _ (stop : Phrase → Bool) where
  abbrev walked : List Phrase → List Phrase
  walked xs = flat_map (phrases_until stop) xs

  tys : (ts : Tys) → in_tys stop ts ≡ walked (ty_list ts)
  tys bare.no_tys = refl
  tys (bare.ty t ts) = ap (λ xs. in_ty stop t ++ xs) (tys ts)

  ty_fields : (fs : TyFields) → in_ty_fields stop fs ≡ walked (ty_field_list fs)
  ty_fields bare.no_ty_fields = refl
  ty_fields (bare.ty_field l t fs) = ap (λ xs. in_ty stop t ++ xs) (ty_fields fs)

  pat_fields : (fs : PatFields) → in_pat_fields stop fs ≡ walked (pat_field_list fs)
  pat_fields bare.no_pat_fields = refl
  pat_fields (bare.pat_field l a fs) = ap (λ xs. in_pat stop a ++ xs) (pat_fields fs)

  exp_fields : (fs : ExpFields) → in_exp_fields stop fs ≡ walked (exp_field_list fs)
  exp_fields bare.no_exp_fields = refl
  exp_fields (bare.exp_field l e fs) = ap (λ xs. in_exp stop e ++ xs) (exp_fields fs)

  rules : (rs : Rules) → in_rules stop rs ≡ walked (rule_list rs)
  rules bare.no_rules = refl
  rules (bare.rule p a e rs) = ap (λ xs. phrases_until stop (rule p a e) ++ xs) (rules rs)

  decs : (ds : Decs) → in_decs stop ds ≡ walked (dec_list ds)
  decs bare.no_decs = refl
  decs (bare.dec d ds) = ap (λ xs. in_dec stop d ++ xs) (decs ds)

  binds : (bs : Binds) → in_binds stop bs ≡ walked (bind_list bs)
  binds bare.no_binds = refl
  binds (bare.bind p a e bs) = ap (λ xs. phrases_until stop (bind p a e) ++ xs) (binds bs)

  some : (t : Option Ty) → in_some stop t ≡ walked (some_ty t)
  some None = refl
  some (Some t) = sym (append-nil (in_ty stop t))

  -- two runs of phrases
  joined : (xs ys : List Phrase) (as_ bs : List Phrase) → xs ≡ walked as_ → ys ≡ walked bs → xs ++ ys ≡ walked (as_ ++ bs)
  joined xs ys as_ bs e f = rw (e, f) (sym (flat_map-append (phrases_until stop) as_ bs))

  one : (x : Phrase) → phrases_until stop x ≡ walked (x ∷ [])
  one x = sym (append-nil (phrases_until stop x))

  two : (x y : Phrase) → phrases_until stop x ++ phrases_until stop y ≡ walked (x ∷ y ∷ [])
  two x y = ap (λ ys. phrases_until stop x ++ ys) (one y)

  inside : (x : Phrase) (xs : List Phrase) → xs ≡ walked (parts x) → before stop x xs ≡ x ∷ unless (stop x) (walked (parts x))
  inside x xs e = ap (before stop x) e

  of_ty : (t : Ty) → in_ty stop t ≡ before stop (ty t) (walked (ty_parts t))
  of_ty (bare.var p a) = refl
  of_ty (bare.fields p fs) = inside (ty (bare.fields p fs)) _ (ty_fields fs)
  of_ty (bare.con p ts q c) = inside (ty (bare.con p ts q c)) _ (tys ts)
  of_ty (bare.arrow p t u) = inside (ty (bare.arrow p t u)) _ (two (ty t) (ty u))
  of_ty (bare.ill p) = refl

  of_pat : (a : Pat) → in_pat stop a ≡ before stop (pat a) (walked (pat_parts a))
  of_pat (bare.wild_pat p) = refl
  of_pat (bare.constant_pat p c) = refl
  of_pat (bare.vid_pat p x) = refl
  of_pat (bare.built_pat p b) = refl
  of_pat (bare.fields_pat p fs b) = inside (pat (bare.fields_pat p fs b)) _ (pat_fields fs)
  of_pat (bare.con_pat p q x a) = inside (pat (bare.con_pat p q x a)) _ (one (pat a))
  of_pat (bare.built_con_pat p b a) = inside (pat (bare.built_con_pat p b a)) _ (one (pat a))
  of_pat (bare.typed_pat p a t) = inside (pat (bare.typed_pat p a t)) _ (two (pat a) (ty t))
  of_pat (bare.as_pat p v t a) = inside (pat (bare.as_pat p v t a)) _ (joined _ _ (some_ty t) (pat a ∷ []) (some t) (one (pat a)))

  of_exp : (e : Exp) → in_exp stop e ≡ before stop (exp e) (walked (exp_parts e))
  of_exp (bare.constant_exp p c) = refl
  of_exp (bare.vid_exp p x) = refl
  of_exp (bare.built_exp p b) = refl
  of_exp (bare.fields_exp p fs) = inside (exp (bare.fields_exp p fs)) _ (exp_fields fs)
  of_exp (bare.let_in p ds e) = inside (exp (bare.let_in p ds e)) _ (joined _ _ (dec_list ds) (exp e ∷ []) (decs ds) (one (exp e)))
  of_exp (bare.app p f a) = inside (exp (bare.app p f a)) _ (two (exp f) (exp a))
  of_exp (bare.typed p e t) = inside (exp (bare.typed p e t)) _ (two (exp e) (ty t))
  of_exp (bare.handle p e rs) = inside (exp (bare.handle p e rs)) _ (ap (λ xs. in_exp stop e ++ xs) (rules rs))
  of_exp (bare.raise p e) = inside (exp (bare.raise p e)) _ (one (exp e))
  of_exp (bare.fn p rs) = inside (exp (bare.fn p rs)) _ (rules rs)

  of_dec : (d : Dec) → in_dec stop d ≡ before stop (dec d) (walked (dec_parts d))
  of_dec (bare.val_dec p q as_ bs cs) = inside (dec (bare.val_dec p q as_ bs cs)) _ (joined _ _ (bind_list bs) (bind_list cs) (binds bs) (binds cs))
  of_dec (bare.type_dec p bs) = inside (dec (bare.type_dec p bs)) _ (sym (flat_map-map (phrases_until stop) type_bind bs))
  of_dec (bare.datatype_dec p bs) = inside (dec (bare.datatype_dec p bs)) _ (sym (flat_map-map (phrases_until stop) data_bind bs))
  of_dec (bare.replicate_dec p x c) = refl
  of_dec (bare.exception_dec p bs) = inside (dec (bare.exception_dec p bs)) _ (sym (flat_map-map (phrases_until stop) ex_bind bs))
  of_dec (bare.local_dec p ds es) = inside (dec (bare.local_dec p ds es)) _ (joined _ _ (dec_list ds) (dec_list es) (decs ds) (decs es))
  of_dec (bare.open_dec p xs) = refl
  of_dec (bare.sequence_dec p ds) = inside (dec (bare.sequence_dec p ds)) _ (decs ds)

  of_ex_bind : (b : ExBind) → in_ex_bind stop b ≡ before stop (ex_bind b) (walked (ex_bind_parts b))
  of_ex_bind (bare.new_exn p v t) = inside (ex_bind (bare.new_exn p v t)) _ (some t)
  of_ex_bind (bare.same_exn p v q x) = refl

  of_phrase : (x : Phrase) → phrases_until stop x ≡ x ∷ unless (stop x) (walked (parts x))
  of_phrase (exp e) = of_exp e
  of_phrase (pat a) = of_pat a
  of_phrase (ty t) = of_ty t
  of_phrase (dec d) = of_dec d
  of_phrase (rule p a e) = inside (rule p a e) _ (two (pat a) (exp e))
  of_phrase (bind p a e) = inside (bind p a e) _ (two (pat a) (exp e))
  of_phrase (type_bind b) = inside (type_bind b) _ (one (ty b.ty))
  of_phrase (data_bind b) = inside (data_bind b) _ (sym (flat_map-map (phrases_until stop) con_bind b.cons))
  of_phrase (con_bind c) = inside (con_bind c) _ (some c.of_ty)
  of_phrase (ex_bind b) = of_ex_bind b

pub walk_is_by_parts : WalkIsByParts
walk_is_by_parts stop x = of_phrase stop x
