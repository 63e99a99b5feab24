-- Records of fields as they are written.
use Rattle.std.proofs.Common.{◌≡◌, ◌≤◌, ℕ, true, Bool, ◌&&◌, List, [], ◌∷◌, ◌++◌, map, Vec, Global, refl, sym, ap, ap₂, subst, ◌∙◌}
use Rattle.std.proofs.lemmas.List.{map-append}
use Rattle.std.proofs.lemmas.Bool.{and_parts}
use Rattle.mlc_names.specs.declared.label.Label.{Label}
use Rattle.mlc_base.specs.declared.place.Place.{Place}
use Rattle.ty_core.specs.Types.{Typ, typs_of}
use Rattle.ty_basis.specs.Types.{Row, labels_in, row_type}
use Rattle.label_rows.specs.declared.sort.Field.{Field}
use Rattle.label_rows.specs.Order.{put_by, label_before}
use Rattle.label_rows.specs.Sorting.{sorted}
use Rattle.sml_tree.specs.BareTree as bare
use Rattle.core_rules.specs.Objects.{Over, AllOver, sorted as sorted_row}
use Rattle.core_rules.specs.Choices.{Choices, no_choice, both}
use Rattle.ir_poly.specs.Prog as prog
use Rattle.ir_poly.specs.Types.{ascend, over, all_over}
use Rattle.prog_tree.specs.TreeOf.{record_of, field_of, tree_of}
use Rattle.prog_tree.specs.declared.tree.Exp.{Exp}
use Rattle.prog_tree.specs.declared.tree.Exp.TheVariants as tree
use Rattle.prog_tree.proofs.ExpOf.{tree_of-Record}
use Rattle.elab_typed.specs.Numbers.{type_as}
use Rattle.elab_typed.specs.Contexts.{Around}
use Rattle.elab_typed.specs.Elaborates.{ExpElab, FieldsElab, no_fields_elab, a_field_elab, record_elab}
use Rattle.elab_typed.specs.Instances.{as_typed}
use Rattle.pat_elab.specs.of_elab_state.declared.state.State.{State}
use Rattle.pat_elab.specs.of_elab_steps.Growing.{HasType, Grows, Always}
use Rattle.pat_elab.specs.of_elab_steps.Rows.{row_of}
use Rattle.pat_elab.specs.of_elab_steps.World.{World, type_of}
use Rattle.pat_elab.proofs.of_elab_steps.Growing.{grows_on, type_later, comes_before}
use Rattle.pat_elab.proofs.of_elab_steps.Sorting.{row-sorted}
use Rattle.use_elab.specs.Fresh.{images_of}
use Rattle.pat_elab.specs.of_elab_context.declared.context.Context.{Context}
use Rattle.use_elab.specs.Elaborated.{ElaboratesExp, IsExp}
use Rattle.use_elab.specs.declared.typed.TypedExp.{TypedExp}
use Rattle.exp_forms.specs.Parts.{ExpsElab, no_exps, an_exp, AreExps, AreFields, with_labels}
use Rattle.exp_forms.specs.declared.made.FieldsMade.{FieldsMade}
use Rattle.exp_forms.proofs.Joining.{none_are, more_are}
use Rattle.exp_forms.proofs.Calling.{written-as}

-- one field after the other

pub no_fields_are : (S : State) (C : Context) (made : FieldsMade) → made.exps.items ≡ [] → made.row.items ≡ [] → AreFields S C [] [] S made
no_fields_are S C made e r = record {
  exps =
      subst (λ (l : List Field). AreExps S C [] S (map (λ f. f.1) made.exps.items) (map (λ f. f.part) l)) (sym r)
      (none_are S C (map (λ f. f.1) made.exps.items) (ap (λ (l : List (Label × Exp)). map (λ f. f.1) l) e));
  labels = ap (λ (l : List (Label × Exp)). map (λ f. f.0) l) e;
  row = ap (λ (l : List Field). map (λ f. f.label) l) r;
}

pub more_fields_are : (S M T : State) (C : Context) (ls : List Label) (es : List bare.Exp) (l : Label) (e : bare.Exp) (old new : FieldsMade) (r : TypedExp) (field : Field) → AreFields S C ls es M old
    → IsExp M C e T r → new.exps.items ≡ old.exps.items ++ (l, r.exp) ∷ [] → new.row.items ≡ old.row.items ++ field ∷ [] → field.label ≡ l → field.part ≡ r.ty
    → AreFields S C (ls ++ l ∷ []) (es ++ e ∷ []) T new
more_fields_are S M T C ls es l e old new r field h i ex ro fl fp = record {
  exps =
      subst (AreExps S C (es ++ e ∷ []) T (map (λ f. f.1) new.exps.items))
      (sym (ap (λ (z : List Field). map (λ f. f.part) z) ro ∙ map-append (λ (f : Field). f.part) old.row.items (field ∷ []) ∙ ap (λ k. map (λ f. f.part) old.row.items ++ k ∷ []) fp))
      (more_are S M T C es e (map (λ f. f.1) old.exps.items) (map (λ f. f.1) new.exps.items) (map (λ f. f.part) old.row.items) r h.exps i
      (ap (λ (z : List (Label × Exp)). map (λ f. f.1) z) ex ∙ map-append (λ (f : Label × Exp). f.1) old.exps.items ((l, r.exp) ∷ [])));
  labels = ap (λ (z : List (Label × Exp)). map (λ f. f.0) z) ex ∙ map-append (λ (f : Label × Exp). f.0) old.exps.items ((l, r.exp) ∷ []) ∙ ap (λ z. z ++ l ∷ []) h.labels;
  row =
      ap (λ (z : List Field). map (λ f. f.label) z) ro ∙ map-append (λ (f : Field). f.label) old.row.items (field ∷ [])
      ∙ ap₂ (λ (z : List Label) (k : Label). z ++ k ∷ []) h.row fl;
}

-- all of them

abbrev choices-of : List Choices → Choices
choices-of [] = no_choice
choices-of (c ∷ cs) = both c (choices-of cs)

module _ (W : World) (A : Around) (j : ℕ) where
  fields-do : (xs : List (Label × Exp)) (rs : List Field) {es : List bare.Exp} {cs : List Choices} → map (λ f. f.label) rs ≡ map (λ f. f.0) xs
      → ExpsElab W.table A j es (map (tree_of W.reading) (map (λ f. f.1) xs)) (images_of W (map (λ f. f.part) rs)) cs
      → FieldsElab W.table A j (with_labels (map (λ f. f.0) xs) es) (record_of (map (field_of W.reading) xs)) (row_of W rs) (choices-of cs)
  fields-do [] [] e no_exps = no_fields_elab
  fields-do [] (r ∷ rs) e h = cc
  fields-do (x ∷ xs) [] e h = cc
  fields-do (x ∷ xs) (r ∷ rs) e (an_exp {e = d} {es = es} {c = c} {cs = cs} f h) =
      let l : r.label ≡ x.0 = cc in
      let rest : map (λ f. f.label) rs ≡ map (λ f. f.0) xs = cc in
      subst (λ k. FieldsElab W.table A j (bare.exp_field x.0 d (with_labels (map (λ f. f.0) xs) es)) (prog.a_field x.0 (tree_of W.reading x.1) (record_of (map (field_of W.reading) xs)))
      ((k, type_of W r.part) ∷ row_of W rs) (both c (choices-of cs))) (sym l) (a_field_elab x.0 f (fields-do xs rs rest h))

row-labels : (W : World) (fs : List Field) → labels_in (row_of W fs) ≡ map (λ f. f.label) fs
row-labels W [] = refl
row-labels W (f ∷ fs) = ap (λ l. f.label ∷ l) (row-labels W fs)

-- a sorted row has the types that it had

put-names : (n : ℕ) (f : Label × Typ) (r : Row) → Over n f.1 → AllOver n (typs_of (map (λ g. g.1) r)) → AllOver n (typs_of (map (λ g. g.1) (put_by (λ g. g.0) f r)))
put-names n f [] o h = (o, tt)
put-names n f (g ∷ r) o h = by (label_before g.0 f.0) (put-names n f r o h.1)
  where
    by : (b : Bool) → AllOver n (typs_of (map (λ g. g.1) (put_by (λ g. g.0) f r)))
        → AllOver n (typs_of (map (λ g. g.1) (Rattle.std.proofs.Common.cond b (g ∷ put_by (λ g. g.0) f r) (f ∷ g ∷ r))))
    by Bool.true rest = (h.0, rest)
    by Bool.false rest = (o, h)

sorted-names : (n : ℕ) (r : Row) → AllOver n (typs_of (map (λ g. g.1) r)) → AllOver n (typs_of (map (λ g. g.1) (sorted_row r)))
sorted-names n [] h = tt
sorted-names n (f ∷ r) h = put-names n f (sorted_row r) h.0 (sorted-names n r h.1)

put-parameters : (qs : _) (f : Label × Typ) (r : Row) → over qs f.1 ≡ true → all_over qs (typs_of (map (λ g. g.1) r)) ≡ true
    → all_over qs (typs_of (map (λ g. g.1) (put_by (λ g. g.0) f r))) ≡ true
put-parameters qs f [] o h = ap (λ (b : Bool). b && true) o
put-parameters qs f (g ∷ r) o h =
    let p = and_parts (over qs g.1) (all_over qs (typs_of (map (λ g. g.1) r))) h in
    by (label_before g.0 f.0) p.0 (put-parameters qs f r o p.1)
  where
    by : (b : Bool) → over qs g.1 ≡ true → all_over qs (typs_of (map (λ g. g.1) (put_by (λ g. g.0) f r))) ≡ true
        → all_over qs (typs_of (map (λ g. g.1) (Rattle.std.proofs.Common.cond b (g ∷ put_by (λ g. g.0) f r) (f ∷ g ∷ r)))) ≡ true
    by Bool.true first rest = ap₂ (λ a b. a && b) first rest
    by Bool.false first rest = ap₂ (λ a b. a && b) o h

sorted-parameters : (qs : _) (r : Row) → all_over qs (typs_of (map (λ g. g.1) r)) ≡ true → all_over qs (typs_of (map (λ g. g.1) (sorted_row r))) ≡ true
sorted-parameters qs [] h = refl
sorted-parameters qs (f ∷ r) h =
    let p = and_parts (over qs f.1) (all_over qs (typs_of (map (λ g. g.1) r))) h in put-parameters qs f (sorted_row r) p.0 (sorted-parameters qs r p.1)

row-types : (W : World) (fs : List Field) → map (λ g. g.1) (row_of W fs) ≡ images_of W (map (λ f. f.part) fs)
row-types W [] = refl
row-types W (f ∷ fs) = ap (λ l. type_of W f.part ∷ l) (row-types W fs)

pub record_is : (S M N T : State) (C : Context) (place : Place) (ls : List Label) (es : List bare.Exp) (made : FieldsMade) (ty written : ℕ) (r : TypedExp) → AreFields S C ls es M made → Grows M N
    → HasType N ty → ascend (map (λ f. f.label) (sorted made.row.items)) ≡ true → Always N (λ W. type_of W ty ≡ row_type (sorted_row (row_of W made.row.items))) → Grows N T
    → Always T (λ W. W.reading.type written ≡ type_as (W.naming C.naming) (type_of W ty)) → r.exp ≡ tree.Record written made.exps → r.ty ≡ ty
    → IsExp S C (bare.fields_exp place (with_labels ls es)) T r
record_is S M N T C place ls es made ty written r h gm is once has gn wr ex q =
    let mt = grows_on M N T gm gn in
    record {
      grows = grows_on S M T h.exps.grows mt;
      is = subst (HasType T) (sym q) (type_later N T ty gn is);
      gives = λ W c A t.
          let a = h.exps.gives W (comes_before M T W mt c) A t in
          let rs = made.row.items in
          let xs = made.exps.items in
          let row = row_of W rs in
          let whole = row_type (sorted_row row) in
          let same : type_of W ty ≡ whole = has W (comes_before N T W gn c) in
          let ascends : ascend (labels_in (sorted_row row)) ≡ true =
          ap (λ (z : Row). ascend (labels_in z)) (sym (row-sorted W rs)) ∙ ap ascend (row-labels W (sorted rs)) ∙ once in
          let tree-is : tree_of W.reading r.exp ≡ prog.fields_exp (as_typed A whole) (record_of (map (field_of W.reading) xs)) =
          ap (tree_of W.reading) ex ∙ tree_of-Record W.reading written made.exps
          ∙ ap (λ u. prog.fields_exp u (record_of (map (field_of W.reading) xs))) (wr W c ∙ written-as C W A (type_of W ty) t ∙ ap (as_typed A) same) in
          subst (λ z. ElaboratesExp W A S.next (bare.fields_exp place (with_labels ls es)) z (type_of W r.ty)) (sym tree-is)
          (subst (ElaboratesExp W A S.next (bare.fields_exp place (with_labels ls es)) (prog.fields_exp (as_typed A whole) (record_of (map (field_of W.reading) xs)))) (sym (ap (type_of W) q ∙ same))
          (record {
            choices = choices-of a.choices;
            elab = λ j le.
                subst (λ z. ExpElab W.table A j (bare.fields_exp place (with_labels z es)) (prog.fields_exp (as_typed A whole) (record_of (map (field_of W.reading) xs))) whole (choices-of a.choices)) h.labels
                (record_elab place (fields-do W A j xs rs (h.row ∙ sym h.labels) (a.elab j le)) ascends);
            names = (tt, sorted-names A.names row (subst (λ z. AllOver A.names (typs_of z)) (sym (row-types W rs)) a.names));
            parameters = sorted-parameters A.parameters row (ap (λ z. all_over A.parameters (typs_of z)) (row-types W rs) ∙ a.parameters);
          }));
    }
