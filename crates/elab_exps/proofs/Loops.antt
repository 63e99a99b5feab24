-- Loops along the parts of an expression. D is what the context is then: C, as it was.
use Rattle.std.proofs.Common.{◌≡◌, ◌<◌, ◌≤◌, ◌+◌, ℕ, zero, suc, List, [], ◌∷◌, ◌++◌, map, take, length, get_or, refl, sym, ap, subst, ◌∙◌, arith}
use Rattle.std.specs.List.{AllByRecursion}
use Rattle.label_rows.specs.declared.sort.Field.{Field}
use Rattle.mlc_names.specs.declared.label.Label.{Label}
use Rattle.mlc_names.specs.declared.label.Label.TheVariants.{Number}
use Rattle.mlc_base.specs.declared.place.Place.{Place}
use Rattle.sml_tree.specs.BareTree as bare
use Rattle.sml_tree.specs.Derived.{app_of, list_of, numbered, sequence_of, tuple}
use Rattle.sml_tree.specs.TreeOf.{exp_field_of, exp_fields_of, exp_of}
use Rattle.sml_tree.specs.declared.tree.Exp.{Exp}
use Rattle.sml_tree.specs.declared.tree.ExpField.{ExpField}
use Rattle.prog_tree.specs.declared.tree.Exp.{Exp as Made}
use Rattle.prog_tree.specs.declared.tree.Join.{Join}
use Rattle.core_elab.specs.Resolves.{IsCalled, called_app}
use Rattle.elab_types.proofs.Lists.{all-map, next-map-at}
use Rattle.elab_state.specs.declared.state.State.{State}
use Rattle.elab_steps.specs.Growing.{AreTypes, Grows, HasType}
use Rattle.elab_steps.proofs.Growing.{grows_on, grows_same}
use Rattle.elab_context.specs.Telling.{IsContext}
use Rattle.elab_context.specs.declared.context.Context.{Context}
use Rattle.elab_context.proofs.Reading.{context_later}
use Rattle.use_elab.specs.Elaborated.{IsExp}
use Rattle.use_elab.specs.declared.typed.TypedExp.{TypedExp}
use Rattle.scope_decs.specs.of_exp_forms.Calls.{IsCall}
use Rattle.scope_decs.specs.of_exp_forms.Clauses.{labels_from}
use Rattle.scope_decs.specs.of_exp_forms.Lists.{AreElements, IsListed, no_elements}
use Rattle.scope_decs.specs.of_exp_forms.Parts.{AreExps, AreFields, before_last, with_labels}
use Rattle.scope_decs.specs.of_exp_forms.declared.made.Called.{Called}
use Rattle.scope_decs.specs.of_exp_forms.declared.made.FieldsMade.{FieldsMade}
use Rattle.scope_decs.specs.of_exp_forms.declared.parts.Listed.{Listed}
use Rattle.scope_decs.proofs.of_exp_forms.Joining.{none_are}
use Rattle.scope_decs.proofs.of_exp_forms.Nodes.{field-is}
use Rattle.scope_decs.proofs.of_exp_forms.Turns.{sequence-is}
use Rattle.elab_exps.specs.Decs.{StandsIn}

-- the context is as it was

pub exp_in : (S T : State) (C D : Context) (e : bare.Exp) (r : TypedExp) → D ≡ C → IsExp S D e T r → IsExp S C e T r
exp_in S T C D e r q h = subst (λ E. IsExp S E e T r) q h

pub context_on : (S T : State) (C D : Context) → IsContext S C → Grows S T → D ≡ C → IsContext T D
context_on S T C D h g q = subst (IsContext T) (sym q) (context_later S T C g h)

pub stands_on : (S T : State) (C D : Context) → StandsIn S C → Grows S T → D ≡ C → StandsIn T D
stands_on S T C D h g q = record { context = context_on S T C D h.context g q; level = g.level ∙ h.level ∙ ap (λ (k : Context). k.level) (sym q) }

-- an element of a list is the same whatever stands in for it
pub same-at : {A : Type 0} (xs : List A) (i : ℕ) (d e : A) → i < length xs → get_or xs i d ≡ get_or xs i e
same-at [] i d e lt = absurd (omega arith)
same-at (x ∷ xs) zero d e lt = refl
same-at (x ∷ xs) (suc i) d e lt = same-at xs i d e (omega (arith, lt))

-- fields

abbrev pub field_labels : List ExpField → List Label
field_labels = map (λ (f : ExpField). f.label)

abbrev pub field_exps : List ExpField → List bare.Exp
field_exps = map (λ (f : ExpField). exp_of f.exp)

pub record FieldsSoFar (S : State) (C : Context) (fs : List ExpField) (T : State) (D : Context) (m : FieldsMade) : Type 0 where
  pub same : D ≡ C
  pub are : AreFields S C (field_labels fs) (field_exps fs) T m

pub fields_more : (S M T : State) (C D E : Context) (fs : List ExpField) (i : ℕ) (d e : ExpField) (one : TypedExp) (old new : FieldsMade) → i < length fs
    → FieldsSoFar S C (take i fs) M D old → E ≡ D → IsExp M D (exp_of (get_or fs i d).exp) T one
    → ((S M T : State) (C : Context) (ls : List Label) (es : List bare.Exp) (x : bare.Exp) → AreFields S C ls es M old → IsExp M C x T one
    → AreFields S C (ls ++ (get_or fs i e).label ∷ []) (es ++ x ∷ []) T new) → FieldsSoFar S C (take (i + 1) fs) T E new
fields_more S M T C D E fs i d e one old new lt h q x add =
    let k = add S M T C (field_labels (take i fs)) (field_exps (take i fs)) (exp_of (get_or fs i d).exp) h.are (exp_in M T C D (exp_of (get_or fs i d).exp) one h.same x) in
    record {
      same = q ∙ h.same;
      are = subst (λ es. AreFields S C (field_labels (take (i + 1) fs)) es T new) (sym (next-map-at (λ (f : ExpField). exp_of f.exp) fs i d lt))
          (subst (λ ls. AreFields S C ls (field_exps (take i fs) ++ exp_of (get_or fs i d).exp ∷ []) T new) (sym (next-map-at (λ (f : ExpField). f.label) fs i e lt)) k);
    }

labelled : (fs : List ExpField) → with_labels (field_labels fs) (field_exps fs) ≡ exp_fields_of (map exp_field_of fs)
labelled [] = refl
labelled (f ∷ fs) =
    ap (bare.exp_field f.label (exp_of f.exp)) (labelled fs)
    ∙ ap (λ g. bare.exp_field g.label g.exp (exp_fields_of (map exp_field_of fs))) (sym (field-is f))

pub fields_end : (S T U : State) (C D : Context) (place : Place) (fs : List ExpField) (i : ℕ) (m : FieldsMade) (r : TypedExp) → length fs ≤ i
    → FieldsSoFar S C (take i fs) T D m
    → ((S : State) (p : Place) (ls : List Label) (es : List bare.Exp) → AreFields S D ls es T m → IsExp S D (bare.fields_exp p (with_labels ls es)) U r)
    → IsExp S C (bare.fields_exp place (exp_fields_of (map exp_field_of fs))) U r
fields_end S T U C D place fs i m r le h made =
    let es = subst (λ es. AreFields S C (field_labels (take i fs)) es T m) (all-map (λ (f : ExpField). exp_of f.exp) fs i le) h.are in
    let ls = subst (λ ls. AreFields S C ls (field_exps fs) T m) (all-map (λ (f : ExpField). f.label) fs i le) es in
    let whole = made S place (field_labels fs) (field_exps fs) (subst (λ E. AreFields S E (field_labels fs) (field_exps fs) T m) (sym h.same) ls) in
    subst (λ z. IsExp S C (bare.fields_exp place z) U r) (labelled fs) (exp_in S U C D (bare.fields_exp place (with_labels (field_labels fs) (field_exps fs))) r h.same whole)

have-each : (T : State) (fs : List Field) → AreTypes T (map (λ f. f.part) fs) → AllByRecursion (λ (f : Field). HasType T f.part) fs
have-each T [] h = tt
have-each T (f ∷ fs) h = (h.0, have-each T fs h.1)

pub rows_have : (S T : State) (C : Context) (ls : List Label) (es : List bare.Exp) (m : FieldsMade) → AreFields S C ls es T m → AllByRecursion (λ (f : Field). HasType T f.part) m.row.items
rows_have S T C ls es m h = have-each T m.row.items h.exps.are

-- the parts of a tuple

pub record TupleSoFar (S : State) (C : Context) (i : ℕ) (es : List Exp) (T : State) (D : Context) (m : FieldsMade) : Type 0 where
  pub same : D ≡ C
  pub are : AreFields S C (labels_from 1 i) (map exp_of es) T m

labels-snoc : (k n : ℕ) → labels_from k (n + 1) ≡ labels_from k n ++ Number (k + n) ∷ []
labels-snoc k n = let s : n + 1 ≡ suc n = omega arith in ap (labels_from k) s ∙ go k n
  where
    go : (k n : ℕ) → labels_from k (suc n) ≡ labels_from k n ++ Number (k + n) ∷ []
    go k zero = let e : k ≡ k + 0 = omega arith in ap (λ n. Number n ∷ []) e
    go k (suc n) = let e : suc k + n ≡ k + suc n = omega arith in ap (λ l. Number k ∷ l) (go (suc k) n ∙ ap (λ m. labels_from (suc k) n ++ Number m ∷ []) e)

pub tuple_more : (S M T : State) (C D E : Context) (es : List Exp) (i : ℕ) (e : Exp) (l : Label) (one : TypedExp) (old new : FieldsMade) → i < length es → e ≡ get_or es i e
    → l ≡ Number (i + 1) → TupleSoFar S C i (take i es) M D old → E ≡ D → IsExp M D (exp_of e) T one
    → ((S M T : State) (C : Context) (ls : List Label) (es : List bare.Exp) (x : bare.Exp) → AreFields S C ls es M old → IsExp M C x T one
    → AreFields S C (ls ++ l ∷ []) (es ++ x ∷ []) T new) → TupleSoFar S C (i + 1) (take (i + 1) es) T E new
tuple_more S M T C D E es i e l one old new lt is el h q x add =
    let k = add S M T C (labels_from 1 i) (map exp_of (take i es)) (exp_of e) h.are (exp_in M T C D (exp_of e) one h.same x) in
    let count : i + 1 ≡ 1 + i = omega arith in
    record {
      same = q ∙ h.same;
      are = subst (λ as_. AreFields S C (labels_from 1 (i + 1)) as_ T new)
          (sym (next-map-at exp_of es i e lt ∙ ap (λ (y : Exp). map exp_of (take i es) ++ exp_of y ∷ []) (sym is)))
          (subst (λ ls. AreFields S C ls (map exp_of (take i es) ++ exp_of e ∷ []) T new)
          (ap (λ y. labels_from 1 i ++ y ∷ []) (el ∙ ap Number count) ∙ sym (labels-snoc 1 i)) k);
    }

numbered-are : (k n : ℕ) (es : List bare.Exp) → length es ≤ n → with_labels (labels_from k n) es ≡ numbered k es
numbered-are k zero [] le = refl
numbered-are k zero (e ∷ es) le = absurd (omega (arith, le))
numbered-are k (suc n) [] le = refl
numbered-are k (suc n) (e ∷ es) le = ap (bare.exp_field (Number k) e) (numbered-are (suc k) n es (omega (arith, le)))

length-map : {A B : Type 0} (f : A → B) (xs : List A) → length (map f xs) ≡ length xs
length-map f [] = refl
length-map f (x ∷ xs) = ap suc (length-map f xs)

pub tuple_end : (S T U : State) (C D : Context) (place : Place) (es : List Exp) (i : ℕ) (m : FieldsMade) (r : TypedExp) → length es ≤ i
    → TupleSoFar S C i (take i es) T D m
    → ((S : State) (p : Place) (ls : List Label) (es : List bare.Exp) → AreFields S D ls es T m → IsExp S D (bare.fields_exp p (with_labels ls es)) U r)
    → IsExp S C (tuple place (map exp_of es)) U r
tuple_end S T U C D place es i m r le h made =
    let are = subst (λ as_. AreFields S C (labels_from 1 i) as_ T m) (all-map exp_of es i le) h.are in
    let whole = made S place (labels_from 1 i) (map exp_of es) (subst (λ E. AreFields S E (labels_from 1 i) (map exp_of es) T m) (sym h.same) are) in
    subst (λ z. IsExp S C (bare.fields_exp place z) U r) (numbered-are 1 i (map exp_of es) (omega (arith, le, length-map exp_of es)))
    (exp_in S U C D (bare.fields_exp place (with_labels (labels_from 1 i) (map exp_of es))) r h.same whole)

-- expressions whose values are dropped

pub record ExpsSoFar (S : State) (C : Context) (es : List bare.Exp) (T : State) (D : Context) (xs : List Made) : Type 0 where
  pub same : D ≡ C
  pub types : List ℕ
  pub are : AreExps S C es T xs types

pub exps_begin : (S T : State) (C D : Context) (e : bare.Exp) (one : TypedExp) (old new : List Made) → old ≡ [] → D ≡ C → IsExp S C e T one
    → ((S M T : State) (C : Context) (es : List bare.Exp) (e : bare.Exp) (types : List ℕ) → AreExps S C es M old types → IsExp M C e T one → AreExps S C (es ++ e ∷ []) T new (types ++ one.ty ∷ []))
    → ExpsSoFar S C (e ∷ []) T D new
exps_begin S T C D e one old new none q h add = record { same = q; types = one.ty ∷ []; are = add S S T C [] e [] (none_are S C old none) h }

pub exps_more : (S M T : State) (C D E : Context) (a : bare.Exp) (es : List Exp) (i : ℕ) (e : Exp) (one : TypedExp) (old new : List Made) → i < length es → e ≡ get_or es i e
    → ExpsSoFar S C (a ∷ map exp_of (take i es)) M D old → E ≡ D → IsExp M D (exp_of e) T one
    → ((S M T : State) (C : Context) (es : List bare.Exp) (e : bare.Exp) (types : List ℕ) → AreExps S C es M old types → IsExp M C e T one → AreExps S C (es ++ e ∷ []) T new (types ++ one.ty ∷ []))
    → ExpsSoFar S C (a ∷ map exp_of (take (i + 1) es)) T E new
exps_more S M T C D E a es i e one old new lt is h q x add = record {
  same = q ∙ h.same;
  types = h.types ++ one.ty ∷ [];
  are = subst (λ as_. AreExps S C (a ∷ as_) T new (h.types ++ one.ty ∷ []))
      (sym (next-map-at exp_of es i e lt ∙ ap (λ (y : Exp). map exp_of (take i es) ++ exp_of y ∷ []) (sym is)))
      (add S M T C (a ∷ map exp_of (take i es)) (exp_of e) h.types h.are (exp_in M T C D (exp_of e) one h.same x));
}

-- all but the last, and the last
last-map : (es : List Exp) (i : ℕ) (e : Exp) → length es ≡ i + 1 → e ≡ get_or es i e → map exp_of es ≡ map exp_of (take i es) ++ exp_of e ∷ []
last-map es i e n is =
    sym (all-map exp_of es (i + 1) (omega (arith, n))) ∙ next-map-at exp_of es i e (omega (arith, n)) ∙ ap (λ (y : Exp). map exp_of (take i es) ++ exp_of y ∷ []) (sym is)

pub sequence_end : (S M N T : State) (C D E : Context) (place : Place) (a : bare.Exp) (es : List Exp) (i : ℕ) (e : Exp) (before : List Made) (last r : TypedExp) → length es ≡ i + 1
    → e ≡ get_or es i e → ExpsSoFar S C (a ∷ map exp_of (take i es)) M D before → E ≡ D → IsExp M D (exp_of e) N last
    → ((S M : State) (p : Place) (es : List bare.Exp) (e : bare.Exp) (types : List ℕ) → AreExps S E es M before types → IsExp M E e N last → IsExp S E (before_last p es e) T r)
    → IsExp S C (sequence_of place a (map exp_of es)) T r
sequence_end S M N T C D E place a es i e before last r n is h q x made =
    let whole = made S M place (a ∷ map exp_of (take i es)) (exp_of e) h.types (subst (λ F. AreExps S F (a ∷ map exp_of (take i es)) M before h.types) (sym (q ∙ h.same)) h.are)
    (exp_in M N E D (exp_of e) last (sym q) x) in
    subst (λ z. IsExp S C z T r) (sym (ap (sequence_of place a) (last-map es i e n is) ∙ sequence-is place a (map exp_of (take i es)) (exp_of e)))
    (exp_in S T C E (before_last place (a ∷ map exp_of (take i es)) (exp_of e)) r (q ∙ h.same) whole)

-- arguments

app-snoc : (p : Place) (f : bare.Exp) (as_ : List bare.Exp) (a : bare.Exp) → app_of p f (as_ ++ a ∷ []) ≡ bare.app p (app_of p f as_) a
app-snoc p f [] a = refl
app-snoc p f (b ∷ as_) a = app-snoc p (bare.app p f b) as_ a

called-on : (p : Place) (f : bare.Exp) (as_ : List bare.Exp) → IsCalled f → IsCalled (app_of p f as_)
called-on p f [] h = h
called-on p f (a ∷ as_) h = called-on p (bare.app p f a) as_ (called_app p f a)

pub record CallsSoFar (S : State) (C : Context) (place : Place) (m : Called) (es : List bare.Exp) (T : State) (D : Context) (n : Called) : Type 0 where
  pub same : D ≡ C
  pub grows : Grows S T
  pub is : HasType T n.ty
  pub calls : (R : State) (f : bare.Exp) → IsCalled f → IsCall R C place f S m → IsCall R C place (app_of place f es) T n

pub calls_begin : (S : State) (C : Context) (place : Place) (m : Called) → HasType S m.ty → CallsSoFar S C place m [] S C m
calls_begin S C place m h = record { same = refl; grows = grows_same S; is = h; calls = λ R f c k. k }

pub calls_more : (S M N T : State) (C D E : Context) (place : Place) (es : List Exp) (i : ℕ) (e : Exp) (one : TypedExp) (first old new : Called) → i < length es → e ≡ get_or es i e
    → CallsSoFar S C place first (map exp_of (take i es)) M D old → E ≡ D → IsExp M D (exp_of e) N one → Grows N T → HasType T new.ty
    → ((R M : State) (p : Place) (f a : bare.Exp) → IsCalled f → IsCall R E p f M old → IsExp M E a N one → IsCall R E p (bare.app p f a) T new)
    → CallsSoFar S C place first (map exp_of (take (i + 1) es)) T E new
calls_more S M N T C D E place es i e one first old new lt is h q x g has add = record {
  same = q ∙ h.same;
  grows = grows_on S M T h.grows (grows_on M N T x.grows g);
  is = has;
  calls = λ R f c k.
      let before = map exp_of (take i es) in
      let whole = add R M place (app_of place f before) (exp_of e) (called-on place f before c)
      (subst (λ F. IsCall R F place (app_of place f before) M old) (sym (q ∙ h.same)) (h.calls R f c k)) (exp_in M N E D (exp_of e) one (sym q) x) in
      subst (λ z. IsCall R C place z T new)
      (sym (ap (app_of place f) (next-map-at exp_of es i e lt ∙ ap (λ (y : Exp). before ++ exp_of y ∷ []) (sym is)) ∙ app-snoc place f before (exp_of e)))
      (subst (λ F. IsCall R F place (bare.app place (app_of place f before) (exp_of e)) T new) (q ∙ h.same) whole);
}

pub calls_end : (S T : State) (C D : Context) (place : Place) (es : List Exp) (i : ℕ) (first m : Called) → length es ≤ i → CallsSoFar S C place first (map exp_of (take i es)) T D m
    → (R : State) (f : bare.Exp) → IsCalled f → IsCall R C place f S first → IsCall R C place (app_of place f (map exp_of es)) T m
calls_end S T C D place es i first m le h R f c k = subst (λ as_. IsCall R C place (app_of place f as_) T m) (all-map exp_of es i le) (h.calls R f c k)

-- the elements of a list

pub record ElementsSoFar (S : State) (C : Context) (l : Listed) (es : List Exp) (T : State) (D : Context) (gs : List (Join × Made × Made)) : Type 0 where
  pub same : D ≡ C
  pub are : AreElements S C l (map exp_of es) T gs

pub elements_begin : (S : State) (C : Context) (l : Listed) (gs : List (Join × Made × Made)) → gs ≡ [] → ElementsSoFar S C l [] S C gs
elements_begin S C l gs q = record { same = refl; are = subst (AreElements S C l [] S) (sym q) (record { grows = grows_same S; gives = λ W c A t. no_elements }) }

pub elements_more : (S M N T : State) (C D E : Context) (l : Listed) (es : List Exp) (i : ℕ) (e : Exp) (one : TypedExp) (old new : List (Join × Made × Made)) → i < length es
    → e ≡ get_or es i e → ElementsSoFar S C l (take i es) M D old → E ≡ D → IsExp M D (exp_of e) N one
    → ((S M : State) (C : Context) (es : List bare.Exp) (e : bare.Exp) → AreElements S C l es M old → IsExp M C e N one → AreElements S C l (es ++ e ∷ []) T new)
    → ElementsSoFar S C l (take (i + 1) es) T E new
elements_more S M N T C D E l es i e one old new lt is h q x add = record {
  same = q ∙ h.same;
  are = subst (λ as_. AreElements S C l as_ T new) (sym (next-map-at exp_of es i e lt ∙ ap (λ (y : Exp). map exp_of (take i es) ++ exp_of y ∷ []) (sym is)))
      (add S M C (map exp_of (take i es)) (exp_of e) h.are (exp_in M N C D (exp_of e) one h.same x));
}

pub elements_end : (S L T : State) (C D : Context) (place : Place) (l : Listed) (es : List Exp) (i : ℕ) (gs : List (Join × Made × Made)) (r : TypedExp) → length es ≤ i
    → IsListed S C place L l → ElementsSoFar L C l (take i es) T D gs
    → ((S L T : State) (C : Context) (place : Place) (es : List bare.Exp) → IsListed S C place L l → AreElements L C l es T gs → IsExp S C (list_of place es) T r)
    → IsExp S C (list_of place (map exp_of es)) T r
elements_end S L T C D place l es i gs r le first h made =
    made S L T C place (map exp_of es) first (subst (λ as_. AreElements L C l as_ T gs) (all-map exp_of es i le) h.are)
