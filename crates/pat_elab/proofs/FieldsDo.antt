-- Fields of patterns, one after the other.
use Rattle.std.proofs.Common.{◌≡◌, ◌⊎◌, inl, inr, ◌<◌, ◌+◌, ℕ, zero, suc, Bool, true, false, cond, List, [], ◌∷◌, ◌++◌, length, map, take, get_or, nat_eq, Some, refl, sym, ap, ap₂, subst, ◌∙◌, arith}
use Rattle.std.proofs.lemmas.Bool.Decides.{nat_tests}
use Rattle.std.proofs.lemmas.List.{append_assoc, map-append, length-map}
use Rattle.std.specs.List.{AllByRecursion}
use Rattle.std.specs.Map.{lookup}
use Rattle.mlc_names.specs.declared.label.Label.{Label}
use Rattle.mlc_names.specs.declared.label.Label.TheVariants.{Number}
use Rattle.mlc_base.specs.declared.place.Place.{Place}
use Rattle.ty_core.specs.Types.{Typ, typs_of}
use Rattle.ty_basis.specs.Types.{Row, labels_in, row_type}
use Rattle.label_rows.specs.declared.sort.Field.{Field}
use Rattle.label_rows.specs.Order.{label_before, put_by, sorted_by}
use Rattle.label_rows.specs.Sorting.{sorted}
use Rattle.sml_tree.specs.BareTree as bare
use Rattle.sml_tree.specs.Derived.{numbered_pats}
use Rattle.sml_tree.specs.TreeOf.{PatFieldOf, pat_fields_of}
use Rattle.core_rules.specs.Objects.{Over, AllOver, sorted as sorted_row}
use Rattle.core_rules.specs.Choices.{Choices, no_choice, both, further}
use Rattle.ir_values.specs.Values.{same_label}
use Rattle.ir_poly.specs.Prog as prog
use Rattle.ir_poly.specs.Types.{ascend, over, all_over}
use Rattle.core_elab.specs.Scopes.{Scope, empty, plus_scope}
use Rattle.prog_tree.specs.TreeOf.{pat_of, pat_field_of, fields_of}
use Rattle.prog_tree.specs.declared.tree.PatField.{PatField}
use Rattle.prog_tree.specs.declared.tree.Pat.TheVariants as tree
use Rattle.elab_context.specs.of_elab_typed.Contexts.{Around}
use Rattle.elab_context.specs.of_elab_typed.Elaborates.{PatElab, PatsElab, no_pats_elab, a_pat_elab, fields_elab, open_elab}
use Rattle.elab_context.specs.of_elab_typed.Instances.{as_typed}
use Rattle.elab_context.specs.of_elab_typed.Numbers.{type_as, row_as}
use Rattle.elab_context.proofs.of_elab_typed.Names.{over-as}
use Rattle.elab_context.specs.of_elab_state.declared.state.State.{State}
use Rattle.elab_context.specs.of_elab_steps.Growing.{HasType, Grows, Always, IsWithin}
use Rattle.elab_context.specs.of_elab_steps.Rows.{HasFields, row_of}
use Rattle.elab_context.specs.of_elab_steps.World.{World, type_of}
use Rattle.elab_context.proofs.of_elab_steps.Growing.{grows_on, grows_same, type_later, comes_before}
use Rattle.elab_context.proofs.of_elab_steps.Opening.{open-found, open-once}
use Rattle.elab_context.proofs.of_elab_steps.Sorting.{Among, found-sorted, sorted-all, row-sorted}
use Rattle.elab_context.specs.Entries.{limit_of}
use Rattle.elab_context.specs.Telling.{IsContext}
use Rattle.elab_context.specs.declared.context.Context.{Context}
use Rattle.pat_elab.proofs.Forms.{all-later, onto-plus}
use Rattle.pat_elab.proofs.Leaves.{no-more, within-names, within-parameters}
use Rattle.pat_elab.proofs.Trees.{pat_field_of-is}
use Rattle.prog_tree.proofs.ExpOf.{pat_of-Record}
use Rattle.pat_elab.specs.Elaborated.{bound_of, scope_of, scope_onto, AreVariables, Elaborates, IsPat}
use Rattle.pat_elab.specs.Fields.{IsField, Follow, none_follow, one_follows, AreFields, numbered}
use Rattle.pat_elab.specs.declared.bound.BoundVariable.{BoundVariable}
use Rattle.pat_elab.specs.declared.parts.Fields.{Fields}
use Rattle.pat_elab.specs.declared.bound.TypedPat.{TypedPat}

-- what is bound by two parts

pub scope-append : (bs cs : List BoundVariable) → scope_of (bs ++ cs) ≡ plus_scope (scope_of bs) (scope_of cs)
scope-append bs cs = go empty bs ∙ onto-plus (scope_of bs) cs
  where
    go : (s : Scope) (bs : List BoundVariable) → scope_onto s (bs ++ cs) ≡ scope_onto (scope_onto s bs) cs
    go s [] = refl
    go s (b ∷ bs) = go _ bs

pub bound-append : (W : World) (bs cs : List BoundVariable) → bound_of W (bs ++ cs) ≡ bound_of W bs ++ bound_of W cs
bound-append W bs cs = map-append (λ (b : BoundVariable). (b.vid, type_of W b.ty)) bs cs

pub all-append : (S : State) (bs cs : List BoundVariable) → AreVariables S bs → AreVariables S cs → AreVariables S (bs ++ cs)
all-append S [] cs h k = k
all-append S (b ∷ bs) cs h k = (h.0, all-append S bs cs h.1 k)

-- one field more
follow-snoc : {W : World} {A : Around} {k j i : ℕ} {fs : List PatFieldOf} {gs : List PatField} {rs : List Field} {bs cs ds : List BoundVariable} {f : PatFieldOf} {g : PatField} {r : Field}
    → Follow W A k fs gs rs bs j → IsField W A j f g r cs i → ds ≡ bs ++ cs → Follow W A k (fs ++ f ∷ []) (gs ++ g ∷ []) (rs ++ r ∷ []) ds i
follow-snoc {cs = cs} none_follow x e = one_follows x none_follow (e ∙ no-more cs)
follow-snoc {cs = cs} (one_follows {bs = ps} {cs = qs} y h d) x e = one_follows y (follow-snoc h x refl) (e ∙ ap (λ l. l ++ cs) d ∙ append_assoc ps qs cs)

-- all of them, against a row in which each is found
record PatsDo (W : World) (A : Around) (whole : Row) (k : ℕ) (fs : List PatFieldOf) (gs : List PatField) (rs : List Field) (bs : List BoundVariable) (j : ℕ) : Type 0 where
  choices : Choices
  elab : PatsElab W.table A whole k (pat_fields_of fs) (fields_of (map (pat_field_of W.reading) gs)) (row_of W rs) (bound_of W bs) choices (scope_of bs) j

module _ (W : World) (A : Around) (whole : Row) where
  pub one-more : (k j i : ℕ) (l : Label) (a : bare.Pat) (p : prog.Pat) (t : Typ) (bs cs ds : List BoundVariable) (c d : Choices) (fs : bare.PatFields) (gs : prog.PatFields) (r : Row) (m n : Label) (u : Typ)
      → lookup (same_label l) whole ≡ Some t → over A.parameters t ≡ true → PatElab W.table A k a p t (bound_of W bs) c (scope_of bs) j
      → PatsElab W.table A whole j fs gs r (bound_of W cs) d (scope_of cs) i → ds ≡ bs ++ cs → m ≡ l → n ≡ l → u ≡ as_typed A t
      → PatsElab W.table A whole k (bare.pat_field l a fs) (prog.a_pat m u p gs) ((n, t) ∷ r) (bound_of W ds) (both c d) (scope_of ds) i
  one-more k j i l a p t bs cs ds c d fs gs r m n u found o x h e em en eu =
      subst (λ b. PatsElab W.table A whole k (bare.pat_field l a fs) (prog.a_pat m u p gs) ((n, t) ∷ r) (bound_of W b) (both c d) (scope_of b) i) (sym e)
      (subst (λ b. PatsElab W.table A whole k (bare.pat_field l a fs) (prog.a_pat m u p gs) ((n, t) ∷ r) b (both c d) (scope_of (bs ++ cs)) i) (sym (bound-append W bs cs))
      (subst (λ s. PatsElab W.table A whole k (bare.pat_field l a fs) (prog.a_pat m u p gs) ((n, t) ∷ r) (bound_of W bs ++ bound_of W cs) (both c d) s i) (sym (scope-append bs cs))
      (subst (λ z. PatsElab W.table A whole k (bare.pat_field l a fs) (prog.a_pat z u p gs) ((n, t) ∷ r) (bound_of W bs ++ bound_of W cs) (both c d) (plus_scope (scope_of bs) (scope_of cs)) i) (sym em)
      (subst (λ z. PatsElab W.table A whole k (bare.pat_field l a fs) (prog.a_pat l u p gs) ((z, t) ∷ r) (bound_of W bs ++ bound_of W cs) (both c d) (plus_scope (scope_of bs) (scope_of cs)) i) (sym en)
      (subst (λ z. PatsElab W.table A whole k (bare.pat_field l a fs) (prog.a_pat l z p gs) ((l, t) ∷ r) (bound_of W bs ++ bound_of W cs) (both c d) (plus_scope (scope_of bs) (scope_of cs)) i) (sym eu)
      (a_pat_elab l found (over-as A.number A.parameters t ∙ o) x h))))))

  pats-do : {k j : ℕ} {fs : List PatFieldOf} {gs : List PatField} {rs : List Field} {bs : List BoundVariable} → Follow W A k fs gs rs bs j
      → ((r : Field) → Among r rs → lookup (same_label r.label) whole ≡ Some (type_of W r.part)) → PatsDo W A whole k fs gs rs bs j
  pats-do none_follow found = record { choices = no_choice; elab = no_pats_elab }
  pats-do (one_follows {k = k} {j = j} {i = i} {f = f} {fs = fs} {g = g} {gs = gs} {r = r} {rs = rs} {bs = bs} {cs = cs} {ds = ds} x h e) found =
      let rest = pats-do h (λ y a. found y (inr a)) in
      record {
        choices = both x.elaborates.choices rest.choices;
        elab =
            subst (λ q. PatsElab W.table A whole k (bare.pat_field f.label f.pat (pat_fields_of fs)) (prog.a_pat q.label q.type q.pat (fields_of (map (pat_field_of W.reading) gs))) (row_of W (r ∷ rs))
            (bound_of W ds) (both x.elaborates.choices rest.choices) (scope_of ds) i) (sym (pat_field_of-is W.reading g))
            (one-more k j i f.label f.pat (pat_of W.reading g.pat) (type_of W r.part) bs cs ds x.elaborates.choices rest.choices (pat_fields_of fs) (fields_of (map (pat_field_of W.reading) gs)) (row_of W rs)
            g.label r.label (W.reading.type g.ty) (subst (λ l. lookup (same_label l) whole ≡ Some (type_of W r.part)) x.row_label (found r (inl refl))) x.elaborates.parameters x.elaborates.elab rest.elab e
            x.label x.row_label x.written);
      }

-- how many they are
length-put : {B : Type 0} (la : B → Label) (x : B) (ys : List B) → length (put_by la x ys) ≡ suc (length ys)
length-put la x [] = refl
length-put la x (y ∷ ys) = by (label_before (la y) (la x)) (length-put la x ys)
  where
    by : (b : Bool) → length (put_by la x ys) ≡ suc (length ys) → length (cond b (y ∷ put_by la x ys) (x ∷ y ∷ ys)) ≡ suc (suc (length ys))
    by true h = ap suc h
    by false h = refl

length-sorted : {B : Type 0} (la : B → Label) (xs : List B) → length (sorted_by la xs) ≡ length xs
length-sorted la [] = refl
length-sorted la (x ∷ xs) = length-put la x (sorted_by la xs) ∙ ap suc (length-sorted la xs)

counted : {W : World} {A : Around} {k j : ℕ} {fs : List PatFieldOf} {gs : List PatField} {rs : List Field} {bs : List BoundVariable} → Follow W A k fs gs rs bs j
    → prog.pat_count (fields_of (map (pat_field_of W.reading) gs)) ≡ length rs
counted none_follow = refl
counted (one_follows x h e) = ap suc (counted h)

nat-same : (m n : ℕ) → m ≡ n → nat_eq m n ≡ true
nat-same m n e = grind (arith, nat_tests)

whole-count : (W : World) (A : Around) (rs : List Field) (n : ℕ) → n ≡ length rs → nat_eq n (length (row_as A.number (sorted_row (row_of W rs)))) ≡ true
whole-count W A rs n e =
    nat-same n (length (row_as A.number (sorted_row (row_of W rs))))
    (e ∙ sym (length-map rs (λ (f : Field). (f.label, type_of W f.part))) ∙ sym (length-sorted (λ (f : Label × Typ). f.0) (row_of W rs))
    ∙ sym (length-map (sorted_row (row_of W rs)) (λ (f : Label × Typ). (f.0, type_as A.number f.1))))

-- the record's type is over what is in use

each-names : {W : World} {A : Around} {k j : ℕ} {fs : List PatFieldOf} {gs : List PatField} {rs : List Field} {bs : List BoundVariable} → Follow W A k fs gs rs bs j
    → AllByRecursion (λ r. Over A.names (type_of W r.part)) rs
each-names none_follow = tt
each-names (one_follows x h e) = (x.elaborates.names, each-names h)

each-over : {W : World} {A : Around} {k j : ℕ} {fs : List PatFieldOf} {gs : List PatField} {rs : List Field} {bs : List BoundVariable} → Follow W A k fs gs rs bs j
    → AllByRecursion (λ r. over A.parameters (type_of W r.part) ≡ true) rs
each-over none_follow = tt
each-over (one_follows x h e) = (x.elaborates.parameters, each-over h)

row-names : (W : World) (n : ℕ) (ys : List Field) → AllByRecursion (λ r. Over n (type_of W r.part)) ys → AllOver n (typs_of (map (λ f. f.1) (row_of W ys)))
row-names W n [] h = tt
row-names W n (y ∷ ys) h = (h.0, row-names W n ys h.1)

row-over : (W : World) (qs : _) (ys : List Field) → AllByRecursion (λ r. over qs (type_of W r.part) ≡ true) ys → all_over qs (typs_of (map (λ f. f.1) (row_of W ys))) ≡ true
row-over W qs [] h = refl
row-over W qs (y ∷ ys) h = ap₂ Rattle.std.proofs.Common.◌&&◌ h.0 (row-over W qs ys h.1)

-- a record
pub record_is : (S M T : State) (C : Context) (place : Place) (fs : List PatFieldOf) (before after : List BoundVariable) (m : Fields) (r : TypedPat) → AreFields S C fs M before after m
    → Grows M T → HasType T r.ty → ascend (map (λ f. f.label) (sorted m.row.items)) ≡ true → Always T (λ W. type_of W r.ty ≡ row_type (sorted_row (row_of W m.row.items)))
    → T.next ≡ M.next → r.pat ≡ tree.Record false m.pats → IsPat S C (bare.fields_pat place (pat_fields_of fs) false) T before after r
record_is S M T C place fs before after m r h g is up w n p = record {
  added = h.added;
  bound = h.bound;
  grows = grows_on S M T h.grows g;
  is = is;
  have = all-later M T g h.added h.have;
  gives = λ W c A t.
      let rs = m.row.items in
      let f = h.gives W (comes_before M T W g c) A t in
      let d = pats-do W A (sorted_row (row_of W rs)) f (λ x a. found-sorted W x rs up a) in
      let type = w W c in
      let gs = fields_of (map (pat_field_of W.reading) m.pats.items) in
      record {
        choices = d.choices;
        elab =
            subst (λ q. PatElab W.table A S.next (bare.fields_pat place (pat_fields_of fs) false) q (type_of W r.ty) (bound_of W h.added) d.choices (scope_of h.added) T.next)
            (sym (ap (pat_of W.reading) p ∙ pat_of-Record W.reading false m.pats))
            (subst (λ u. PatElab W.table A S.next (bare.fields_pat place (pat_fields_of fs) false) (prog.fields_pat false gs) u (bound_of W h.added) d.choices (scope_of h.added) T.next) (sym type)
            (subst (λ j. PatElab W.table A S.next (bare.fields_pat place (pat_fields_of fs) false) (prog.fields_pat false gs) (row_type (sorted_row (row_of W rs))) (bound_of W h.added) d.choices (scope_of h.added) j) (sym n)
            (fields_elab place d.elab (whole-count W A rs (prog.pat_count gs) (counted f)))));
        names =
            subst (Over A.names) (sym type) (
              tt,
              subst (λ row. AllOver A.names (typs_of (map (λ f. f.1) row))) (row-sorted W rs)
                  (row-names W A.names (sorted rs) (sorted-all (λ x. Over A.names (type_of W x.part)) rs (each-names f))),
            );
        parameters =
            ap (over A.parameters) type ∙ ap (λ row. all_over A.parameters (typs_of (map (λ f. f.1) row))) (sym (row-sorted W rs))
            ∙ row-over W A.parameters (sorted rs) (sorted-all (λ x. over A.parameters (type_of W x.part) ≡ true) rs (each-over f));
      };
}

-- a record of these fields and perhaps others
pub open_is : (S M T : State) (C : Context) (place : Place) (fs : List PatFieldOf) (before after : List BoundVariable) (m : Fields) (r : TypedPat) → AreFields S C fs M before after m
    → IsContext M C → Grows M T → HasType T r.ty → Always T (λ W. IsWithin W (limit_of C) r.ty) → Always T (λ W. HasFields W m.row.items (type_of W r.ty))
    → T.next ≡ M.next → r.pat ≡ tree.Record true m.pats → IsPat S C (bare.fields_pat place (pat_fields_of fs) true) T before after r
open_is S M T C place fs before after m r h i g is within has n p = record {
  added = h.added;
  bound = h.bound;
  grows = grows_on S M T h.grows g;
  is = is;
  have = all-later M T g h.added h.have;
  gives = λ W c A t.
      let rs = m.row.items in
      let x = has W c in
      let whole = sorted_row (row_of W rs ++ x.others) in
      let d = pats-do W A whole (h.gives W (comes_before M T W g c) A t) (λ y a. open-found W y rs x.others x.once a) in
      let names = within-names C W A r.ty t (within W c) in
      let gs = fields_of (map (pat_field_of W.reading) m.pats.items) in
      let choices = both d.choices (further (labels_in (sorted_row x.others))) in
      record {
        choices = choices;
        elab =
            subst (λ q. PatElab W.table A S.next (bare.fields_pat place (pat_fields_of fs) true) q (type_of W r.ty) (bound_of W h.added) choices (scope_of h.added) T.next)
            (sym (ap (pat_of W.reading) p ∙ pat_of-Record W.reading true m.pats))
            (subst (λ u. PatElab W.table A S.next (bare.fields_pat place (pat_fields_of fs) true) (prog.fields_pat true gs) u (bound_of W h.added) choices (scope_of h.added) T.next) (sym x.is)
            (subst (λ j. PatElab W.table A S.next (bare.fields_pat place (pat_fields_of fs) true) (prog.fields_pat true gs) (row_type whole) (bound_of W h.added) choices (scope_of h.added) j) (sym n)
            (open_elab place x.others d.elab (open-once (row_of W rs) x.others x.once) (subst (Over A.names) x.is names))));
        names = names;
        parameters = within-parameters M C W A r.ty i t (within W c);
      };
}

-- fields that are added

row-later : (S T : State) → Grows S T → (rs : List Field) → AllByRecursion (λ r. HasType S r.part) rs → AllByRecursion (λ r. HasType T r.part) rs
row-later S T g [] h = tt
row-later S T g (r ∷ rs) h = (type_later S T r.part g h.0, row-later S T g rs h.1)

row-more : (S : State) (rs : List Field) (r : Field) → AllByRecursion (λ r. HasType S r.part) rs → HasType S r.part → AllByRecursion (λ r. HasType S r.part) (rs ++ r ∷ [])
row-more S [] r h k = (k, tt)
row-more S (x ∷ rs) r h k = (h.0, row-more S rs r h.1 k)

pub none_are : (S : State) (C : Context) (bs : List BoundVariable) (m : Fields) → m.pats.items ≡ [] → m.row.items ≡ [] → AreFields S C [] S bs bs m
none_are S C bs m p q = record {
  added = [];
  bound = no-more bs;
  grows = grows_same S;
  row = subst (AllByRecursion (λ r. HasType S r.part)) (sym q) tt;
  have = tt;
  gives = λ W c A t. subst (λ gs. Follow W A S.next [] gs m.row.items [] S.next) (sym p) (subst (λ rs. Follow W A S.next [] [] rs [] S.next) (sym q) none_follow);
}

pub added_are : (S M N T : State) (C : Context) (l : Label) (a : bare.Pat) (fs : List PatFieldOf) (before mid after : List BoundVariable) (m o : Fields) (typed : TypedPat) (ty : ℕ)
    → AreFields S C fs M before mid m → IsPat M C a N mid after typed → Grows N T → T.next ≡ N.next
    → Always T (λ W. W.reading.type ty ≡ type_as (W.naming C.naming) (type_of W typed.ty))
    → o.row.items ≡ m.row.items ++ record { label = l; part = typed.ty } ∷ [] → o.pats.items ≡ m.pats.items ++ record { label = l; ty = ty; pat = typed.pat } ∷ []
    → AreFields S C (fs ++ record { label = l; pat = a } ∷ []) T before after o
added_are S M N T C l a fs before mid after m o typed ty h k g n w er ep =
    let up = grows_on M N T k.grows g in
    record {
      added = h.added ++ k.added;
      bound = k.bound ∙ ap (λ l. l ++ k.added) h.bound ∙ append_assoc before h.added k.added;
      grows = grows_on S M T h.grows up;
      row = subst (AllByRecursion (λ r. HasType T r.part)) (sym er) (row-more T m.row.items (record { label = l; part = typed.ty }) (row-later M T up m.row.items h.row) (type_later N T typed.ty g k.is));
      have = all-append T h.added k.added (all-later M T up h.added h.have) (all-later N T g k.added k.have);
      gives = λ W c A t.
          let cn = comes_before N T W g c in
          let x = k.gives W cn A t in
          subst (λ gs. Follow W A S.next (fs ++ record { label = l; pat = a } ∷ []) gs o.row.items (h.added ++ k.added) T.next) (sym ep)
          (subst (λ rs. Follow W A S.next (fs ++ record { label = l; pat = a } ∷ []) (m.pats.items ++ record { label = l; ty = ty; pat = typed.pat } ∷ []) rs (h.added ++ k.added) T.next) (sym er)
          (follow-snoc (h.gives W (comes_before M T W up c) A t)
          (record {
            elaborates = subst (Elaborates W A M.next a (pat_of W.reading typed.pat) (type_of W typed.ty) k.added) (sym n) x;
            label = refl;
            row_label = refl;
            written = w W c ∙ ap (λ (num : ℕ → ℕ). type_as num (type_of W typed.ty)) (sym t.number);
          }) refl));
    }

-- tuples

pub numbered-are : (k : ℕ) (as_ : List bare.Pat) → numbered_pats k as_ ≡ pat_fields_of (numbered k as_)
numbered-are k [] = refl
numbered-are k (a ∷ as_) = ap (bare.pat_field (Number k) a) (numbered-are (suc k) as_)
