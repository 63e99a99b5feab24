-- What a declaration of datatypes brings into scope.
use Rattle.std.proofs.Common.{◌≡◌, ◌&&◌, ◌||◌, ℕ, Bool, true, false, not, cond, List, [], ◌∷◌, ◌++◌, length, nat_eq, Option, Some, None, refl, sym, ap, ap₂, subst, ◌∙◌}
use Rattle.std.specs.Prelude.{option_map, if◌then◌else◌}
use Rattle.std.specs.Option.{option_or}
use Rattle.std.specs.List.{AllByRecursion}
use Rattle.std.specs.Map.{lookup}
use Rattle.std.proofs.lemmas.Bool.{and_parts}
use Rattle.std.proofs.lemmas.List.{length-map, map-append}
use Rattle.mlc_names.specs.StandardWords.{word_it}
use Rattle.ty_core.specs.Types.{Typ, con, name}
use Rattle.ty_core.specs.Statics.{named, variables}
use Rattle.ty_core.specs.declared.name.TyName.{TyName}
use Rattle.ty_core.specs.declared.mark.Mark.TheVariants.{Any}
use Rattle.ty_core.specs.declared.env.Status.TheVariants as status
use Rattle.sml_tree.specs.declared.ident.Tyvar.{Tyvar}
use Rattle.sml_tree.specs.declared.ident.Vid.{Vid}
use Rattle.sml_tree.specs.declared.ident.Vid.TheVariants.{Named, Equals, Fresh}
use Rattle.sml_tree.specs.BareTree.{ConBind, DataBind}
use Rattle.core_rules.specs.Elaborated.{all_constructors, any_marks, bare_structures, constructed, datatypes, names_of}
use Rattle.core_rules.specs.Objects.{Over, TypeStructure}
use Rattle.core_rules.specs.Restrictions.{distinct, is_kept}
use Rattle.core_rules.specs.Typing.{all_general}
use Rattle.core_rules.specs.Words.{is_in, same_vid}
use Rattle.core_rules.specs.Values.{declared}
use Rattle.core_elab.specs.Scopes.{Scope, empty, scoped, typed_by, con_number, plus_scope, denotes_in, inside_in, typed_in}
use Rattle.core_elab.specs.Resolves.{ConsTo, no_cons_to, a_con_to, DatatypesTo, no_datatypes_to, a_datatype_to}
use Rattle.ir_poly.specs.TestsChecked.{alone_type}
use Rattle.elab_typed.specs.Contexts.{Around, given, given_values}
use Rattle.elab_types.specs.declared.scope.TypeEntry.{TypeEntry}
use Rattle.elab_steps.specs.World.{World}
use Rattle.elab_context.specs.Entries.{constructors_of}
use Rattle.elab_context.specs.Telling.{HasConstructors, IsFit, denotes_of, kept_of, kept_entries, scope_of_entries, vids_in}
use Rattle.elab_context.specs.declared.context.Context.{Context}
use Rattle.elab_context.specs.declared.entry.Entry.{Entry}
use Rattle.dec_forms.specs.Entries.{constructing_name}
use Rattle.dec_forms.proofs.After.{plus-plus}
use Rattle.dec_forms.proofs.Listed.{alone-listed, constructing-is, constructing-may, denotes-listed, untyped-listed}
use Rattle.datatype_forms.specs.Arguments.{data_structures, data_values}
use Rattle.datatype_forms.specs.Made.{IsMade, EachMade, none_made, one_made, NamesConstructors, AllMade, no_datatype, a_datatype}

-- the number of a constructor that may be bound

number-by : (a b : Bool) (x n : ℕ) → not (a || b) ≡ true → Some x ≡ Some n → (if a then None else Some x) ≡ Some n
number-by true b x n e h = cc
number-by false b x n e h = h

unkept-number : (v : Vid) (n : ℕ) → constructing_name v ≡ Some n → con_number (declared v) ≡ Some n
unkept-number (Named x) n h =
    let same : Named x ≡ Named n = constructing-is (Named x) n h in
    let q : x ≡ n = cc in
    number-by (is_kept (Named x)) (same_vid (Named x) (Named word_it)) x n (constructing-may (Named x) n h) (ap Some q)
unkept-number Equals n h = cc
unkept-number (Fresh k) n h = cc

-- the scope of constructors

cons-to : {D : Context} {W : World} {as_ : List Tyvar} {y : TyName} {bs : List ConBind} {os : List (Option Typ)} {es : List (Vid × Entry)} → EachMade D W as_ y bs os es
    → ConsTo bs (scope_of_entries es)
cons-to none_made = no_cons_to
cons-to (one_made {b = b} {bs = bs} {es = es} m h) =
    subst (λ (e : Vid × Entry). ConsTo (b ∷ bs) (scoped e.0 (denotes_of e.1) (scope_of_entries es))) (sym m.is) (a_con_to b (unkept-number b.vid m.number m.may) (cons-to h))

-- the scope of the constructors that an entry names
abbrev pub scope_of : Context → TypeEntry → Scope
scope_of D e = scope_of_entries (constructors_of D e)

pub record Scoped (D : Context) (bs : List DataBind) (es : List (Vid × Entry)) (ts : List (ℕ × TypeEntry)) : Type 0 where
  pub scope : Scope
  pub to : DatatypesTo bs scope
  pub denotes : (s : Scope) (x : Vid) → denotes_in (plus_scope s scope) x ≡ option_or (option_map denotes_of (lookup (same_vid x) es)) (denotes_in s x)
  pub alone : (s : Scope) (q : ℕ) → inside_in (plus_scope s scope) q ≡ inside_in s q
  pub typed : (s : Scope) (x : ℕ) → typed_in (plus_scope s scope) x ≡ option_or (option_map (scope_of D) (lookup (nat_eq x) ts)) (typed_in s x)

or-or : {A : Type 0} (a b c : Option A) → option_or a (option_or b c) ≡ option_or (option_or a b) c
or-or None b c = refl
or-or (Some a) b c = refl

map-or : {A B : Type 0} (f : A → B) (a b : Option A) → option_map f (option_or a b) ≡ option_or (option_map f a) (option_map f b)
map-or f None b = refl
map-or f (Some a) b = refl

lookup-append : (es fs : List (Vid × Entry)) (x : Vid) → lookup (same_vid x) (es ++ fs) ≡ option_or (lookup (same_vid x) es) (lookup (same_vid x) fs)
lookup-append [] fs x = refl
lookup-append (e ∷ es) fs x = by (same_vid x e.0) (lookup-append es fs x)
  where
    by : (b : Bool) → lookup (same_vid x) (es ++ fs) ≡ option_or (lookup (same_vid x) es) (lookup (same_vid x) fs)
        → cond b (Some e.1) (lookup (same_vid x) (es ++ fs)) ≡ option_or (cond b (Some e.1) (lookup (same_vid x) es)) (lookup (same_vid x) fs)
    by true h = refl
    by false h = h

typed-next : (D : Context) (b : DataBind) (t : ℕ × TypeEntry) (es : List (Vid × Entry)) (us : List (ℕ × TypeEntry)) (x : ℕ) (o p : Option Scope) → NamesConstructors D b t es
    → o ≡ option_or (option_map (scope_of D) (lookup (nat_eq x) us)) p
    → cond (nat_eq x b.tycon) (Some (scope_of_entries es)) o ≡ option_or (option_map (scope_of D) (cond (nat_eq x t.0) (Some t.1) (lookup (nat_eq x) us))) p
typed-next D b t es us x o p n h = ap (λ z. cond (nat_eq x z) (Some (scope_of_entries es)) o) (sym n.tycon) ∙ by (nat_eq x t.0)
  where
    by : (c : Bool) → cond c (Some (scope_of_entries es)) o ≡ option_or (option_map (scope_of D) (cond c (Some t.1) (lookup (nat_eq x) us))) p
    by true = ap (λ l. Some (scope_of_entries l)) (sym n.are)
    by false = h

pub scope_made : {D : Context} {W : World} {ns : List TyName} {bs : List DataBind} {oss : List (List (Option Typ))} {es : List (Vid × Entry)} {ts : List (ℕ × TypeEntry)}
    → AllMade D W ns bs oss es ts → Scoped D bs es ts
scope_made no_datatype = record { scope = empty; to = no_datatypes_to; denotes = λ s x. refl; alone = λ s q. refl; typed = λ s x. refl }
scope_made {D = D} (a_datatype {b = b} {es = es} {t = t} {fs = fs} {us = us} a m n h) =
    let r = scope_made h in
    let c = scope_of_entries es in
    record {
      scope = plus_scope r.scope (typed_by b.tycon c c);
      to = a_datatype_to b (cons-to m) r.to;
      denotes = λ s x.
          ap (λ z. denotes_in z x) (sym (plus-plus s r.scope c)) ∙ denotes-listed (plus_scope s r.scope) es x
          ∙ ap (option_or (option_map denotes_of (lookup (same_vid x) es))) (r.denotes s x)
          ∙ or-or (option_map denotes_of (lookup (same_vid x) es)) (option_map denotes_of (lookup (same_vid x) fs)) (denotes_in s x)
          ∙ ap (λ o. option_or o (denotes_in s x)) (sym (ap (option_map denotes_of) (lookup-append es fs x) ∙ map-or denotes_of (lookup (same_vid x) es) (lookup (same_vid x) fs)));
      alone = λ s q. ap (λ z. inside_in z q) (sym (plus-plus s r.scope c)) ∙ alone-listed (plus_scope s r.scope) es q ∙ r.alone s q;
      typed = λ s x.
          typed-next D b t es us x (typed_in (plus_scope s (plus_scope r.scope c)) x) (typed_in s x) n
          (ap (λ z. typed_in z x) (sym (plus-plus s r.scope c)) ∙ untyped-listed (plus_scope s r.scope) es x ∙ r.typed s x);
    }

-- what is kept of them

kept-append : (D : Context) (W : World) (es fs : List (Vid × Entry)) → kept_entries D W (es ++ fs) ≡ kept_entries D W es ++ kept_entries D W fs
kept-append D W es fs = map-append (λ e. (e.0, kept_of D W e.1)) es fs

each-kept : {D : Context} {W : World} {as_ : List Tyvar} {y : TyName} {bs : List ConBind} {os : List (Option Typ)} {es : List (Vid × Entry)} → EachMade D W as_ y bs os es
    → given_values (data_values as_ y bs os) ≡ kept_entries D W es
each-kept none_made = refl
each-kept {D = D} {W = W} {as_ = as_} {y = y} (one_made {b = b} {o = o} {e = e} m h) =
    ap₂ (λ x l. x ∷ l)
    (ap (λ s. (b.vid, given (record { scheme = s; status = status.Constructor }))) (sym m.type) ∙ ap (λ (e : Vid × Entry). (e.0, kept_of D W e.1)) (sym m.is)) (each-kept h)

pub all_kept : {D : Context} {W : World} {ns : List TyName} {bs : List DataBind} {oss : List (List (Option Typ))} {es : List (Vid × Entry)} {ts : List (ℕ × TypeEntry)} → AllMade D W ns bs oss es ts
    → given_values (all_constructors (data_structures ns bs oss)) ≡ kept_entries D W es
all_kept no_datatype = refl
all_kept {D = D} {W = W} (a_datatype {y = y} {b = b} {os = os} {es = es} {ys = ys} {bs = bs} {oss = oss} {fs = fs} a m n h) =
    map-append (λ v. (v.0, given v.1)) (data_values b.tyvars y b.cons os) (all_constructors (data_structures ys bs oss)) ∙ ap₂ (λ x l. x ++ l) (each-kept m) (all_kept h) ∙ sym (kept-append D W es fs)

-- they are constructors

general-any : (as_ : List Tyvar) → all_general (any_marks as_) ≡ true
general-any [] = refl
general-any (a ∷ as_) = general-any as_

alone-from : (o : Option Typ) (t : Typ) → Rattle.core_rules.specs.Elaborated.from_argument o t ≡ alone_type o t
alone-from None t = refl
alone-from (Some u) t = refl

one-fits : (D : Context) (W : World) (A : Around) (as_ : List Tyvar) (y : TyName) (b : ConBind) (o : Option Typ) (e : Vid × Entry) → y.arity ≡ length as_ → IsMade D W as_ y b o e → IsFit D W A e.1
one-fits D W A as_ y b o e a m = subst (λ (e : Vid × Entry). IsFit D W A e.1) (sym m.is) (record {
  argument = o;
  general = ap (λ s. all_general s.marks) m.type ∙ general-any as_;
  body =
      ap (λ s. s.body) m.type ∙ alone-from o (con (name y) (variables 0 y.arity))
      ∙ ap (λ n. alone_type o (con (name y) (variables 0 n))) (a ∙ sym (length-map as_ (λ a. Any)) ∙ ap (λ s. length s.marks) (sym m.type));
  names = subst (λ s. Over D.names s.body) (sym m.type) m.names;
  row = m.row;
})

each-fits : {D : Context} {W : World} {as_ : List Tyvar} {y : TyName} {bs : List ConBind} {os : List (Option Typ)} {es : List (Vid × Entry)} (A : Around) → y.arity ≡ length as_ → EachMade D W as_ y bs os es
    → AllByRecursion (λ (e : Vid × Entry). IsFit D W A e.1) es
each-fits A a none_made = tt
each-fits {D = D} {W = W} {as_ = as_} {y = y} A a (one_made {b = b} {o = o} {e = e} m h) = (one-fits D W A as_ y b o e a m, each-fits A a h)

all-append : (P : Vid × Entry → Type 0) (es fs : List (Vid × Entry)) → AllByRecursion P es → AllByRecursion P fs → AllByRecursion P (es ++ fs)
all-append P [] fs h g = g
all-append P (e ∷ es) fs h g = (h.0, all-append P es fs h.1 g)

pub all_fit : {D : Context} {W : World} {ns : List TyName} {bs : List DataBind} {oss : List (List (Option Typ))} {es : List (Vid × Entry)} {ts : List (ℕ × TypeEntry)} (A : Around)
    → AllMade D W ns bs oss es ts
    → AllByRecursion (λ (e : Vid × Entry). IsFit D W A e.1) es
all_fit A no_datatype = tt
all_fit {D = D} {W = W} A (a_datatype {es = es} {fs = fs} a m n h) = all-append (λ (e : Vid × Entry). IsFit D W A e.1) es fs (each-fits A a m) (all_fit A h)

-- what comes once of several comes once of each part

module _ {A : Type 0} (same : A → A → Bool) where
  not-either : (a b : Bool) → not (a || b) ≡ true → not a ≡ true
  not-either true b e = cc
  not-either false b e = refl

  among-append : (x : A) (xs ys : List A) → is_in same x (xs ++ ys) ≡ (is_in same x xs || is_in same x ys)
  among-append x [] ys = refl
  among-append x (z ∷ xs) ys = by (same x z) (among-append x xs ys)
    where
      by : (c : Bool) → is_in same x (xs ++ ys) ≡ (is_in same x xs || is_in same x ys) → (c || is_in same x (xs ++ ys)) ≡ ((c || is_in same x xs) || is_in same x ys)
      by true h = refl
      by false h = h

  pub distinct_parts : (xs ys : List A) → distinct same (xs ++ ys) ≡ true → (distinct same xs ≡ true) × (distinct same ys ≡ true)
  distinct_parts [] ys d = (refl, d)
  distinct_parts (x ∷ xs) ys d =
      let p = and_parts (not (is_in same x (xs ++ ys))) (distinct same (xs ++ ys)) d in
      let q = distinct_parts xs ys p.1 in
      (ap₂ (λ a b. a && b) (not-either (is_in same x xs) (is_in same x ys) (ap not (sym (among-append x xs ys)) ∙ p.0)) q.0, q.1)

-- a type constructor that is found has its constructors

abbrev structure_of : TyName → DataBind → List (Option Typ) → TypeStructure
structure_of y b os = record { function = named y; constructors = data_values b.tyvars y b.cons os }

pub found_made : {D : Context} {W : World} {ns : List TyName} {bs : List DataBind} {oss : List (List (Option Typ))} {es : List (Vid × Entry)} {ts : List (ℕ × TypeEntry)} (A : Around) (x : ℕ) (e : TypeEntry)
    → AllMade D W ns bs oss es ts → distinct same_vid (vids_in es) ≡ true → lookup (nat_eq x) ts ≡ Some e
    → HasConstructors D W A e (lookup (nat_eq x) (data_structures ns bs oss)) (Some (scope_of D e))
found_made A x e no_datatype d h = cc
found_made {D = D} {W = W} A x e (a_datatype {y = y} {b = b} {os = os} {es = es} {t = t} {ys = ys} {bs = bs} {oss = oss} {fs = fs} {us = us} a m n k) d h =
    let parts = distinct_parts same_vid (vids_in es) (vids_in fs) (ap (distinct same_vid) (sym (map-append (λ (v : Vid × Entry). v.0) es fs)) ∙ d) in
    subst (λ z. HasConstructors D W A e (cond (nat_eq x z) (Some (structure_of y b os)) (lookup (nat_eq x) (data_structures ys bs oss))) (Some (scope_of D e))) n.tycon
    (by (nat_eq x t.0) parts.0 (found_made A x e k parts.1) h)
  where
    by : (c : Bool) → distinct same_vid (vids_in es) ≡ true
        → (lookup (nat_eq x) us ≡ Some e → HasConstructors D W A e (lookup (nat_eq x) (data_structures ys bs oss)) (Some (scope_of D e)))
        → cond c (Some t.1) (lookup (nat_eq x) us) ≡ Some e
        → HasConstructors D W A e (cond c (Some (structure_of y b os)) (lookup (nat_eq x) (data_structures ys bs oss))) (Some (scope_of D e))
    by true once rest q =
        let same : t.1 ≡ e = cc in
        subst (λ z. HasConstructors D W A z (Some (structure_of y b os)) (Some (scope_of D z))) same (record {
          structure = structure_of y b os;
          is = refl;
          values = each-kept m ∙ ap (kept_entries D W) (sym n.are);
          scopes = refl;
          once = ap (λ l. distinct same_vid (vids_in l)) n.are ∙ once;
          fit = subst (AllByRecursion (λ (c : Vid × Entry). IsFit D W A c.1)) (sym n.are) (each-fits A a m);
          within = n.within;
        })
    by false once rest q = rest q
