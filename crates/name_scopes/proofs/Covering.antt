-- What a scope of the code covers, and what its bindings bring.
use Rattle.std.proofs.Common.{rules, ◌≡◌, ℕ, suc, Bool, true, false, ◌||◌, cond, List, [], ◌∷◌, ◌++◌, map, length, reverse, take, nat_eq, Option, Some, None, option_map, refl, sym, ap, ap₂, subst, ◌∙◌, append_assoc}
use Rattle.std.specs.Prelude.{flat_map}
use Rattle.std.specs.List.{AllByRecursion}
use Rattle.std.specs.Option.{option_or}
use Rattle.std.proofs.Math.Seq.{take-append_seam}
use Rattle.std.proofs.lemmas.List.{length-map, reverse-append}
use Rattle.mlc_base.specs.declared.place.Place.{Place}
use Rattle.sml_tree.specs.declared.ident.Vid.{Vid}
use Rattle.sml_tree.specs.declared.ident.Vid.TheVariants.{Named, Equals, Fresh}
use Rattle.sml_tree.specs.BareTree as bare
use Rattle.sml_tree.specs.BareTree.{new_exn, same_exn}
use Rattle.sml_tree.specs.Derived.{fresh_pat, short}
use Rattle.ty_basis.specs.of_ty_core.declared.env.Status.TheVariants.{Constructor, Exception, Variable}
use Rattle.ty_basis.specs.of_ty_core.declared.env.Status.{Status}
use Rattle.core_rules.specs.Eval.{cons_env, datatypes_env, types_env}
use Rattle.core_rules.specs.Initial.{Entry, dynamic_values}
use Rattle.core_rules.specs.Match.{is_variable}
use Rattle.core_rules.specs.Restrictions.{exn_vids}
use Rattle.core_rules.specs.Unbound.{alone_names, exns_names, pat_names, tycons_names}
use Rattle.core_rules.specs.Values.{Env, Found, nothing, value, tycon, structure, plus, long_value_in, structure_in, tycon_in, value_in}
use Rattle.core_rules.specs.Values as dynamic
use Rattle.core_rules.specs.Words.{is_in, same_vid}
use Rattle.core_rules.proofs.LookUps.{value-plus, tycon-plus, structure-plus}
use Rattle.name_scopes.specs.Covering.{AreListed, Brings, Covers, IsValue, StructureFits, TyconFits, entries_of, is_written, variable_in}
use Rattle.name_scopes.specs.Entries.{con_entries, data_entries, member_entries, type_entries, variable_entries}
use Rattle.name_scopes.specs.Nodes.{fresh_onto}
use Rattle.name_scopes.specs.Patterns.{AreVariables}
use Rattle.name_scopes.specs.Scopes.{structure_found, tycon_found, value_found}
use Rattle.name_scopes.specs.declared.bound.Bound.{Bound}
use Rattle.name_scopes.specs.declared.bound.Bound.TheVariants.{Value, Tycon, Structure}
use Rattle.name_scopes.specs.declared.bound.Members.{Members}
use Rattle.name_scopes.specs.declared.bound.Members.TheVariants.{Integers, Hidden}

pub plus-assoc : (e d c : Env) → plus (plus e d) c ≡ plus e (plus d c)
plus-assoc e d nothing = refl
plus-assoc e d (value x s v c) = ap (value x s v) (plus-assoc e d c)
plus-assoc e d (tycon x t c) = ap (tycon x t) (plus-assoc e d c)
plus-assoc e d (structure x t c) = ap (structure x t) (plus-assoc e d c)

pub nothing-plus : (d : Env) → plus nothing d ≡ d
nothing-plus nothing = refl
nothing-plus (value x s v d) = ap (value x s v) (nothing-plus d)
nothing-plus (tycon x t d) = ap (tycon x t) (nothing-plus d)
nothing-plus (structure x t d) = ap (structure x t) (nothing-plus d)

pub nothing-brings : Brings [] nothing
nothing-brings bs e c = c

pub both-bring : (more more' : List Bound) (d d' : Env) → Brings more d → Brings more' d' → Brings (more' ++ more) (plus d d')
both-bring more more' d d' h k bs e c =
    let inner : Covers (more' ++ (more ++ bs)) (plus e (plus d d')) = subst (Covers (more' ++ (more ++ bs))) (plus-assoc e d d') (k (more ++ bs) (plus e d) (h bs e c)) in
    rw append_assoc inner

-- Look-ups in a scope onto which more is put.

pub value-onto : (more bs : List Bound) (x : Vid) → value_found (more ++ bs) x ≡ option_or (value_found more x) (value_found bs x)
value-onto [] bs x = refl
value-onto (Value y v ∷ more) bs x = by (same_vid x y) (value-onto more bs x)
  where
    by : (b : Bool) → value_found (more ++ bs) x ≡ option_or (value_found more x) (value_found bs x)
        → cond b (Some v) (value_found (more ++ bs) x) ≡ option_or (cond b (Some v) (value_found more x)) (value_found bs x)
    by true h = refl
    by false h = h
value-onto (Tycon y n ∷ more) bs x = value-onto more bs x
value-onto (Structure y s ∷ more) bs x = value-onto more bs x

pub tycon-past : (more bs : List Bound) (x : ℕ) → AllByRecursion IsValue more → tycon_found (more ++ bs) x ≡ tycon_found bs x
tycon-past [] bs x h = refl
tycon-past (Value y v ∷ more) bs x h = tycon-past more bs x h.1
tycon-past (Tycon y n ∷ more) bs x h = absurd h.0
tycon-past (Structure y s ∷ more) bs x h = absurd h.0

pub structure-past : (more bs : List Bound) (x : ℕ) → AllByRecursion IsValue more → structure_found (more ++ bs) x ≡ structure_found bs x
structure-past [] bs x h = refl
structure-past (Value y v ∷ more) bs x h = structure-past more bs x h.1
structure-past (Tycon y n ∷ more) bs x h = absurd h.0
structure-past (Structure y s ∷ more) bs x h = absurd h.0

pub variable-plus : (e d : Env) (x : Vid) → variable_in (plus e d) x ≡ option_or (variable_in d x) (variable_in e x)
variable-plus e d x = ap (option_map (λ (f : Found). is_variable f.status)) (value-plus e d x) ∙ by (value_in d x) (value_in e x)
  where
    by : (o p : Option Found)
        → option_map (λ f. is_variable f.status) (option_or o p) ≡ option_or (option_map (λ f. is_variable f.status) o) (option_map (λ f. is_variable f.status) p)
    by None p = refl
    by (Some f) p = refl

-- One binding in front.

pub value-covers : (bs : List Bound) (e : Env) (x : Vid) (b : Bool) (s : Status) (v : dynamic.Value) → is_variable s ≡ b → Covers bs e → Covers (Value x b ∷ bs) (value x s v e)
value-covers bs e x b s v i c = record { values = λ y w. by y (same_vid y x) (c.values y w); tycons = c.tycons; structures = c.structures }
  where
    by : (y : Vid) (t : Bool) → value_found bs y ≡ variable_in e y → cond t (Some b) (value_found bs y) ≡ option_map (λ f. is_variable f.status) (cond t (Some (record { status = s; value = v })) (value_in e y))
    by y true h = ap Some (sym i)
    by y false h = h

pub tycon-covers : (bs : List Bound) (e d : Env) (x n : ℕ) → AreListed (take n bs) d → Covers bs e → Covers (Tycon x n ∷ bs) (tycon x d e)
tycon-covers bs e d x n l c = record { values = c.values; tycons = λ y. by y (nat_eq y x) (c.tycons y); structures = c.structures }
  where
    by : (y : ℕ) (t : Bool) → TyconFits (tycon_found bs y) (tycon_in e y) → TyconFits (cond t (Some (take n bs)) (tycon_found bs y)) (cond t (Some d) (tycon_in e y))
    by y true h = l
    by y false h = h

-- Values alone.

pub listed-bring : (cs : List Bound) (d : Env) → AreListed cs d → Brings cs d
listed-bring cs d l bs e c = record {
  values = λ x w. value-onto cs bs x ∙ ap₂ option_or (l.values x w) (c.values x w) ∙ sym (variable-plus e d x);
  tycons = λ x. subst (λ o. TyconFits o (tycon_in (plus e d) x)) (sym (tycon-past cs bs x l.plain))
      (subst (TyconFits (tycon_found bs x)) (sym (tycon-plus e d x ∙ ap (λ o. option_or o (tycon_in e x)) (l.only.tycons x))) (c.tycons x));
  structures = λ x. subst (λ o. StructureFits o (structure_in (plus e d) x)) (sym (structure-past cs bs x l.plain))
      (subst (StructureFits (structure_found bs x)) (sym (structure-plus e d x ∙ ap (λ o. option_or o (structure_in e x)) (l.only.structures x))) (c.structures x));
}

nothing-listed : AreListed [] nothing
nothing-listed = record { values = λ x w. refl; plain = tt; only = record { tycons = λ x. refl; structures = λ x. refl } }

value-listed : (cs : List Bound) (d : Env) (x : Vid) (b : Bool) (s : Status) (v : dynamic.Value) → is_variable s ≡ b → AreListed cs d → AreListed (Value x b ∷ cs) (value x s v d)
value-listed cs d x b s v i l = record { values = λ y w. by y (same_vid y x) (l.values y w); plain = (tt, l.plain); only = record { tycons = l.only.tycons; structures = l.only.structures } }
  where
    by : (y : Vid) (t : Bool) → value_found cs y ≡ variable_in d y → cond t (Some b) (value_found cs y) ≡ option_map (λ f. is_variable f.status) (cond t (Some (record { status = s; value = v })) (value_in d y))
    by y true h = ap Some (sym i)
    by y false h = h

pub replica-brings : (x : ℕ) (cs : List Bound) (d : Env) → AreListed cs d → Brings (Tycon x (length cs) ∷ cs) (tycon x d d)
replica-brings x cs d l bs e c =
    tycon-covers (cs ++ bs) (plus e d) d x (length cs) (subst (λ z. AreListed z d) (sym (take-append_seam cs bs)) l) (listed-bring cs d l bs e c)

-- What declarations bring.

pub types-bring : (bs : List bare.TypeBind) → Brings (type_entries (map (λ b. b.tycon) bs)) (types_env bs)
types-bring [] = nothing-brings
types-bring (b ∷ bs) = λ us e c. tycon-covers _ _ nothing b.tycon 0 nothing-listed (types-bring bs us e c)

pub tycons-bring : (bs : List bare.DataBind) → Brings (type_entries (map (λ b. b.tycon) bs)) (tycons_names bs)
tycons-bring [] = nothing-brings
tycons-bring (b ∷ bs) = λ us e c. tycon-covers _ _ nothing b.tycon 0 nothing-listed (tycons-bring bs us e c)

pub cons-listed : (cs : List bare.ConBind) → AreListed (con_entries (map (λ c. c.vid) cs)) (cons_env cs)
cons-listed [] = nothing-listed
cons-listed (c ∷ cs) = value-listed _ _ c.vid false Constructor _ refl (cons-listed cs)

pub data-brings : (b : bare.DataBind) → Brings (data_entries b) (tycon b.tycon (cons_env b.cons) (cons_env b.cons))
data-brings b =
    subst (λ n. Brings (Tycon b.tycon n ∷ con_entries (map (λ c. c.vid) b.cons)) (tycon b.tycon (cons_env b.cons) (cons_env b.cons)))
    (length-map (map (λ c. c.vid) b.cons) (λ x. Value x false) ∙ length-map b.cons (λ c. c.vid))
    (replica-brings b.tycon (con_entries (map (λ c. c.vid) b.cons)) (cons_env b.cons) (cons-listed b.cons))

pub datas-bring : (bs : List bare.DataBind) → Brings (flat_map data_entries bs) (datatypes_env bs)
datas-bring [] = nothing-brings
datas-bring (b ∷ bs) = both-bring (flat_map data_entries bs) (data_entries b) (datatypes_env bs) (tycon b.tycon (cons_env b.cons) (cons_env b.cons)) (datas-bring bs) (data-brings b)

pub exns-bring : (bs : List bare.ExBind) → Brings (con_entries (exn_vids bs)) (exns_names bs)
exns-bring [] = nothing-brings
exns-bring (new_exn p x t ∷ bs) = λ us e c. value-covers _ _ x false Exception _ refl (exns-bring bs us e c)
exns-bring (same_exn p x q y ∷ bs) = λ us e c. value-covers _ _ x false Exception _ refl (exns-bring bs us e c)

-- What structures bring.

abbrev pub AreEntriesOfVariables : List Entry → Type 0
AreEntriesOfVariables = AllByRecursion (λ r. is_variable r.status ≡ true)

pub rows-bring : (rs : List Entry) → AreEntriesOfVariables rs → Brings (map (λ r. Value r.vid true) rs) (dynamic_values rs)
rows-bring [] h = nothing-brings
rows-bring (r ∷ rs) h = λ us e c. value-covers _ _ r.vid true r.status r.value h.0 (rows-bring rs h.1 us e c)

members-variables : (s : Members) → AreEntriesOfVariables (entries_of s)
members-variables Integers = search rules
members-variables Hidden = search rules

pub members-bring : (s : Members) → Brings (member_entries s) (dynamic_values (entries_of s))
members-bring s = rows-bring (entries_of s) (members-variables s)

-- What variables bring.

variables-found : (vs : List Vid) (x : Vid) → value_found (variable_entries vs) x ≡ cond (is_in same_vid x vs) (Some true) None
variables-found [] x = refl
variables-found (v ∷ vs) x = by (same_vid x v) (variables-found vs x)
  where
    by : (b : Bool) → value_found (variable_entries vs) x ≡ cond (is_in same_vid x vs) (Some true) None → cond b (Some true) (value_found (variable_entries vs) x) ≡ cond (b || is_in same_vid x vs) (Some true) None
    by true h = refl
    by false h = h

variables-plain : (vs : List Vid) → AllByRecursion IsValue (variable_entries vs)
variables-plain [] = tt
variables-plain (v ∷ vs) = (tt, variables-plain vs)

pub variables-listed : (vs : List Vid) (d : Env) → AreVariables vs d → AreListed (variable_entries vs) d
variables-listed vs d a = record { values = λ x w. variables-found vs x ∙ sym (a.values x w); plain = variables-plain vs; only = a.only }

pub variables-bring : (vs : List Vid) (d : Env) → AreVariables vs d → Brings (map (λ x. Value x true) vs) d
variables-bring vs d a = listed-bring (variable_entries vs) d (variables-listed vs d a)

in-both : (x : Vid) (vs us : List Vid) → is_in same_vid x (vs ++ us) ≡ (is_in same_vid x vs || is_in same_vid x us)
in-both x [] us = refl
in-both x (v ∷ vs) us = by (same_vid x v) (in-both x vs us)
  where
    by : (b : Bool) → is_in same_vid x (vs ++ us) ≡ (is_in same_vid x vs || is_in same_vid x us) → (b || is_in same_vid x (vs ++ us)) ≡ ((b || is_in same_vid x vs) || is_in same_vid x us)
    by true h = refl
    by false h = h

in-reverse : (x : Vid) (vs : List Vid) → is_in same_vid x (reverse vs) ≡ is_in same_vid x vs
in-reverse x [] = refl
in-reverse x (v ∷ vs) =
    ap (is_in same_vid x) (reverse-append (v ∷ []) vs) ∙ in-both x (reverse vs) (v ∷ []) ∙ ap (λ b. b || (same_vid x v || false)) (in-reverse x vs) ∙ by (is_in same_vid x vs) (same_vid x v)
  where
    by : (a b : Bool) → (a || (b || false)) ≡ (b || a)
    by true true = refl
    by true false = refl
    by false true = refl
    by false false = refl

pub variables-turned : (vs : List Vid) (d : Env) → AreVariables vs d → AreVariables (reverse vs) d
variables-turned vs d a = record { values = λ x w. a.values x w ∙ ap (λ b. cond b (Some true) None) (sym (in-reverse x vs)); only = a.only }

pub variables-bring-turned : (vs : List Vid) (d : Env) → AreVariables vs d → Brings (map (λ x. Value x true) (reverse vs)) d
variables-bring-turned vs d a = variables-bring (reverse vs) d (variables-turned vs d a)

-- Variables that no program names.

fresh-in-front : (bs : List Bound) (e : Env) (k : ℕ) (s : Status) (v : dynamic.Value) → Covers bs e → Covers bs (value (Fresh k) s v e)
fresh-in-front bs e k s v c = record { values = by; tycons = c.tycons; structures = c.structures }
  where
    by : (x : Vid) → is_written x ≡ true → value_found bs x ≡ variable_in (value (Fresh k) s v e) x
    by (Named x) w = c.values (Named x) w
    by (Fresh j) w = absurd (cc)
    by Equals w = c.values Equals w

pub fresh-covers : (bs : List Bound) (e : Env) (o : Option Found) (k : ℕ) → Covers bs e → Covers bs (plus e (alone_names o (Fresh k)))
fresh-covers bs e None k c = fresh-in-front bs e k Variable _ c
fresh-covers bs e (Some f) k c = by (is_variable f.status)
  where
    by : (b : Bool) → Covers bs (plus e (cond b (value (Fresh k) Variable dynamic.unit_value nothing) nothing))
    by true = fresh-in-front bs e k Variable dynamic.unit_value c
    by false = c

pub fresh-onto-covers : (bs : List Bound) (e : Env) (p : Place) (k : ℕ) (as_ : List bare.Pat) → Covers bs e → Covers bs (fresh_onto p k as_ e)
fresh-onto-covers bs e p k [] c = c
fresh-onto-covers bs e p k (a ∷ as_) c =
    fresh-onto-covers bs (plus e (pat_names e (fresh_pat p k))) p (suc k) as_ (fresh-covers bs e (long_value_in e (short (Fresh k))) k c)
