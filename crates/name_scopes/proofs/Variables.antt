-- What patterns bind are variables.
use Rattle.std.proofs.Common.{◌≡◌, ◌||◌, Bool, true, false, List, [], ◌∷◌, ◌++◌, Option, Some, None, inl, inr, refl, sym, ap, ap₂, ◌∙◌}
use Rattle.std.specs.Prelude.{filter, if◌then◌else◌}
use Rattle.std.specs.Option.{option_map, option_or}
use Rattle.std.proofs.lemmas.List.Folds.{list_any-append}
use Rattle.sml_tree.specs.BareTree as bare
use Rattle.sml_tree.specs.BareTree.{Binds, Pat, PatFields}
use Rattle.sml_tree.specs.declared.ident.Vid.{Vid}
use Rattle.ty_basis.specs.of_ty_core.declared.env.Status.TheVariants.{Variable}
use Rattle.core_rules.specs.Eval.{each_bound}
use Rattle.core_rules.specs.Fits.{IsOfValues}
use Rattle.core_rules.specs.Match.{bound_to, is_variable}
use Rattle.core_rules.specs.Unbound.{alone_names, binds_names, fields_names, pat_names, rec_names}
use Rattle.core_rules.specs.Values.{Env, Found, Value, long_value_in, nothing, plus, unit_value, value, value_in}
use Rattle.core_rules.specs.Words.{is_in, same_vid}
use Rattle.core_rules.proofs.Fitting.{not-false}
use Rattle.core_rules.proofs.LookUps.{structure-plus, tycon-plus, value-plus, vid-tells}
use Rattle.name_scopes.specs.Covering.{is_written}
use Rattle.name_scopes.specs.Patterns.{AreVariables, alone_vids, binds_vids, each_vids, fields_vids, pat_vids, rec_vids}

-- an environment has these identifiers as variables, and nothing else
record AreExactly (vs : List Vid) (d : Env) : Type 0 where
  values : (x : Vid) → option_map (λ f. is_variable f.status) (value_in d x) ≡ (if is_in same_vid x vs then Some true else None)
  only : IsOfValues d

none-are : AreExactly [] nothing
none-are = record { values = λ x. refl; only = record { tycons = λ x. refl; structures = λ x. refl } }

-- one more, the latest
more-are : (y : Vid) (v : Value) (vs : List Vid) (d : Env) → AreExactly vs d → AreExactly (y ∷ vs) (value y Variable v d)
more-are y v vs d h = record {
  values = λ x. go (same_vid x y) (is_in same_vid x vs) (value_in d x) (h.values x);
  only = record { tycons = h.only.tycons; structures = h.only.structures };
}
  where
    go : (b c : Bool) (o : Option Found) → option_map (λ f. is_variable f.status) o ≡ (if c then Some true else None)
        → option_map (λ f. is_variable f.status) (if b then Some (record { status = Variable; value = v }) else o) ≡ (if b || c then Some true else None)
    go true c o k = refl
    go false c o k = k

-- two runs of them
both-are : (vs ws : List Vid) (d e : Env) → AreExactly vs d → AreExactly ws e → AreExactly (vs ++ ws) (plus d e)
both-are vs ws d e h k = record {
  values = λ x.
      ap (option_map (λ f. is_variable f.status)) (value-plus d e x)
      ∙ go (is_in same_vid x vs) (is_in same_vid x ws) (value_in d x) (value_in e x) (h.values x) (k.values x)
      ∙ ap (λ b. if b then Some true else None) (sym (list_any-append (same_vid x) vs ws));
  only = record {
    tycons = λ x. tycon-plus d e x ∙ ap₂ option_or (k.only.tycons x) (h.only.tycons x);
    structures = λ x. structure-plus d e x ∙ ap₂ option_or (k.only.structures x) (h.only.structures x);
  };
}
  where
    or-map : (o q : Option Found) → option_map (λ f. is_variable f.status) (option_or q o) ≡ option_or (option_map (λ f. is_variable f.status) q) (option_map (λ f. is_variable f.status) o)
    or-map o None = refl
    or-map o (Some f) = refl

    or-is : (b c : Bool) → option_or (if c then Some true else None) (if b then Some true else None) ≡ (if b || c then Some true else None)
    or-is true true = refl
    or-is true false = refl
    or-is false true = refl
    or-is false false = refl

    go : (b c : Bool) (o q : Option Found) → option_map (λ f. is_variable f.status) o ≡ (if b then Some true else None)
        → option_map (λ f. is_variable f.status) q ≡ (if c then Some true else None)
        → option_map (λ f. is_variable f.status) (option_or q o) ≡ (if b || c then Some true else None)
    go b c o q s t = or-map o q ∙ ap₂ option_or t s ∙ or-is b c

one-is : (y : Vid) → AreExactly (y ∷ []) (bound_to y unit_value)
one-is y = more-are y unit_value [] nothing none-are

alone-are : (o : Option Found) (y : Vid) → AreExactly (alone_vids o y) (alone_names o y)
alone-are None y = one-is y
alone-are (Some f) y = go (is_variable f.status)
  where
    go : (b : Bool) → AreExactly (if b then y ∷ [] else []) (if b then bound_to y unit_value else nothing)
    go true = one-is y
    go false = none-are

mutual
  names-are : (e : Env) (a : Pat) → AreExactly (pat_vids e a) (pat_names e a)
  names-are e (bare.wild_pat p) = none-are
  names-are e (bare.constant_pat p c) = none-are
  names-are e (bare.vid_pat p x) = alone-are (long_value_in e x) x.vid
  names-are e (bare.built_pat p b) = none-are
  names-are e (bare.fields_pat p fs b) = field-names-are e fs
  names-are e (bare.con_pat p q x a) = names-are e a
  names-are e (bare.built_con_pat p b a) = names-are e a
  names-are e (bare.typed_pat p a t) = names-are e a
  names-are e (bare.as_pat p x t a) = both-are (x ∷ []) (pat_vids e a) (bound_to x unit_value) (pat_names e a) (one-is x) (names-are e a)

  field-names-are : (e : Env) (fs : PatFields) → AreExactly (fields_vids e fs) (fields_names e fs)
  field-names-are e bare.no_pat_fields = none-are
  field-names-are e (bare.pat_field l a fs) = both-are (pat_vids e a) (fields_vids e fs) (pat_names e a) (fields_names e fs) (names-are e a) (field-names-are e fs)

binds-names-are : (e : Env) (bs : Binds) → AreExactly (binds_vids e bs) (binds_names e bs)
binds-names-are e bare.no_binds = none-are
binds-names-are e (bare.bind p a b bs) = both-are (pat_vids e a) (binds_vids e bs) (pat_names e a) (binds_names e bs) (names-are e a) (binds-names-are e bs)

each-are : (a : Pat) (vs : List Vid) (d : Env) → AreExactly vs d → AreExactly (each_vids a ++ vs) (each_bound a unit_value d)
each-are (bare.wild_pat p) vs d h = h
each-are (bare.constant_pat p c) vs d h = h
each-are (bare.vid_pat p x) vs d h = more-are x.vid unit_value vs d h
each-are (bare.built_pat p b) vs d h = h
each-are (bare.fields_pat p fs b) vs d h = h
each-are (bare.con_pat p q x a) vs d h = h
each-are (bare.built_con_pat p b a) vs d h = h
each-are (bare.typed_pat p a t) vs d h = each-are a vs d h
each-are (bare.as_pat p x t a) vs d h = more-are x unit_value (each_vids a ++ vs) (each_bound a unit_value d) (each-are a vs d h)

rec-names-are : (rs : Binds) → AreExactly (rec_vids rs) (rec_names rs)
rec-names-are bare.no_binds = none-are
rec-names-are (bare.bind p a b bs) = each-are a (rec_vids bs) (rec_names bs) (rec-names-are bs)

-- as far as a program can name them

in-written : (x : Vid) (vs : List Vid) → is_written x ≡ true → is_in same_vid x (filter is_written vs) ≡ is_in same_vid x vs
in-written x [] w = refl
in-written x (v ∷ vs) w = by (is_written v) refl (in-written x vs w)
  where
    other : is_written v ≡ false → same_vid x v ≡ false
    other n = elim (vid-tells x v) [ inl p ↦ not-false (sym w ∙ ap is_written p.1 ∙ n) | inr f ↦ f ]

    by : (b : Bool) → is_written v ≡ b → is_in same_vid x (filter is_written vs) ≡ is_in same_vid x vs → is_in same_vid x (if b then v ∷ filter is_written vs else filter is_written vs) ≡ (same_vid x v || is_in same_vid x vs)
    by true e h = ap (λ b. same_vid x v || b) h
    by false e h = h ∙ ap (λ b. b || is_in same_vid x vs) (sym (other e))

written-are : (vs : List Vid) (d : Env) → AreExactly vs d → AreVariables (filter is_written vs) d
written-are vs d h = record { values = λ x w. h.values x ∙ ap (λ b. if b then Some true else None) (sym (in-written x vs w)); only = h.only }

pub names-written : (e : Env) (a : Pat) → AreVariables (filter is_written (pat_vids e a)) (pat_names e a)
names-written e a = written-are (pat_vids e a) (pat_names e a) (names-are e a)

pub binds-written : (e : Env) (bs : Binds) → AreVariables (filter is_written (binds_vids e bs)) (binds_names e bs)
binds-written e bs = written-are (binds_vids e bs) (binds_names e bs) (binds-names-are e bs)

pub recs-written : (rs : Binds) → AreVariables (filter is_written (rec_vids rs)) (rec_names rs)
recs-written rs = written-are (rec_vids rs) (rec_names rs) (rec-names-are rs)
