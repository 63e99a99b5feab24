-- Identifiers used.
use Rattle.std.proofs.Common.{◌≡◌, ◌⊎◌, inl, inr, ◌<◌, ◌≤◌, ℕ, zero, suc, Bool, true, false, ◌&&◌, ◌||◌, if◌then◌else◌, List, [], ◌∷◌, ◌++◌, length, map, Option, Some, None, slice_get, nat_eq, refl, sym, ap, ap₂, subst, ◌∙◌, arith}
use Rattle.std.specs.Prelude.{option_map}
use Rattle.std.proofs.lemmas.Bool.{lt-ltb, and_parts}
use Rattle.std.proofs.lemmas.Option.{slice_get-get_or}
use Rattle.std.specs.List.{AllByRecursion}
use Rattle.mlc_base.specs.declared.place.Place.{Place}
use Rattle.mlc_prims.specs.declared.basis.BasisPrimitive.{BasisPrimitive}
use Rattle.ty_core.specs.Types.{Typ, Typs, var, con, none, more, typs_of, name}
use Rattle.ty_core.specs.Marks.{Allows}
use Rattle.ty_core.specs.Statics.{replace, replace_all, variables}
use Rattle.ty_core.specs.declared.mark.Mark.{Mark}
use Rattle.ty_core.specs.declared.mark.Mark.TheVariants.{Any, Equality, Class}
use Rattle.ty_core.specs.declared.name.TyName.{TyName}
use Rattle.ty_core.specs.declared.scheme.Quantified.{Quantified}
use Rattle.ty_core.specs.declared.env.Status.TheVariants as status
use Rattle.ty_basis.specs.Types.{name_count, function_type, ref_type, exn_type}
use Rattle.ty_solve.specs.Substitution.{sub, is_below}
use Rattle.ty_solve.specs.declared.limit.Limit.{Limit}
use Rattle.sml_tree.specs.Terminal.{LongVid}
use Rattle.sml_tree.specs.BareTree.{vid_exp}
use Rattle.core_rules.specs.Elaborated.{exception_type}
use Rattle.core_rules.specs.Objects.{AllAllowed, Over, Value}
use Rattle.core_rules.specs.Choices.{Choices, no_choice, base}
use Rattle.core_rules.specs.Typing.{Chosen, all_general}
use Rattle.ir_poly.specs.Prog as prog
use Rattle.ir_poly.specs.Prog.{fixed, held}
use Rattle.ir_poly.specs.ProgChecked.{fixed_checked, held_checked}
use Rattle.ir_poly.specs.Types.{in_scope, admits_in, over, all_over, changed, AreAllowed, nth_type, prim_type, constructor_of, argument_at}
use Rattle.ir_poly.specs.TestsChecked.{of_type, own, alone_type, exception as exception_known}
use Rattle.ir_poly.specs.TestsChecked as checked
use Rattle.ir_tables.specs.Tables.{parameters_of, parameters_at}
use Rattle.core_elab.specs.Scopes.{Denotes, variable, constructor, reference, exception, primitive}
use Rattle.prog_tree.specs.TreeOf.{tree_of, atom_of, use_of}
use Rattle.prog_tree.specs.declared.tree.Exception.TheVariants as tree_exception
use Rattle.prog_tree.specs.declared.tree.Atom.TheVariants as atom
use Rattle.prog_tree.specs.declared.tree.Used.TheVariants as used
use Rattle.elab_context.specs.of_elab_typed.Numbers.{name_as, type_as}
use Rattle.elab_context.specs.of_elab_typed.Contexts.{Kept, given, general, single, raised, Around}
use Rattle.elab_context.specs.of_elab_typed.Elaborates.{vid_elab}
use Rattle.elab_context.specs.of_elab_typed.Instances.{as_typed, IsGivenAt, IsInstanceAt, ConHas, UseElab, use_general, use_plain, use_single, use_own, use_constructor, use_reference, use_exception, use_given_exception, use_primitive}
use Rattle.elab_context.proofs.of_elab_typed.Names.{typs_of-as, over-as, args-over}
use Rattle.elab_context.proofs.of_elab_typed.Under.{over-under}
use Rattle.elab_context.specs.of_elab_state.declared.state.State.{State}
use Rattle.elab_context.specs.of_elab_steps.Growing.{HasType, Grows, Always, IsWithin}
use Rattle.elab_context.specs.of_elab_steps.World.{World, type_of, Comes}
use Rattle.elab_context.proofs.of_elab_steps.Growing.{grows_on, type_later, comes_before}
use Rattle.use_elab.specs.Fresh.{IsFresh, AreFresh, images_of}
use Rattle.use_elab.proofs.Making.{fresh_instance}
use Rattle.elab_context.specs.Entries.{entry_in, limit_of, number_in}
use Rattle.elab_context.specs.Telling.{Tells, IsContext, IsConstructor, IsGeneral, IsInUse, HasList, kept_of, denotes_of, scheme_at, scheme_of}
use Rattle.elab_context.specs.declared.context.Context.{Context}
use Rattle.elab_context.specs.declared.entry.Entry.{Entry}
use Rattle.elab_context.specs.declared.entry.Entry.TheVariants.{Constructor, Reference, Initial, Primitive, Raised, Single, Own, General}
use Rattle.elab_context.specs.declared.entry.Scheme as code
use Rattle.elab_context.proofs.Giving.{is_given, images-over, images-all-over, images-allowed, instance-over, instance-names, images-are, argument-as, allows-in}
use Rattle.use_elab.specs.Elaborated.{IsExp, IsAtFresh, IsAtNew}
use Rattle.use_elab.specs.declared.typed.TypedExp.{TypedExp}
use Rattle.use_elab.specs.declared.typed.Instance.{Instance}
use Rattle.use_elab.proofs.Primitives.{primitive-at, primitive-names, allows-numbered}

-- an identifier in a world

record IsUse (W : World) (A : Around) (v : Kept) (d : Denotes) (x : prog.Exp) (t : Typ) : Type 0 where
  choices : Choices
  elab : UseElab W.table A v d x t choices
  names : Over A.names t
  parameters : over A.parameters t ≡ true

retype : (W : World) (A : Around) (v : Kept) (d : Denotes) (x y : prog.Exp) (t u : Typ) → x ≡ y → t ≡ u → IsUse W A v d y u → IsUse W A v d x t
retype W A v d x y t u e q h = subst (λ z. IsUse W A v d z t) (sym e) (subst (IsUse W A v d y) (sym q) h)

used-is : (S T : State) (C : Context) (place : Place) (x : LongVid) (e : Entry) (r : TypedExp) → entry_in C x.qualifiers x.vid ≡ Some e → Grows S T → HasType T r.ty
    → ((W : World) → Comes T W → (A : Around) → Tells C W A → IsUse W A (kept_of C W e) (denotes_of e) (tree_of W.reading r.exp) (type_of W r.ty)) → IsExp S C (vid_exp place x) T r
used-is S T C place x e r h g i m = record {
  grows = g;
  is = i;
  gives = λ W c A t.
      let u = m W c A t in
      record {
        choices = u.choices;
        elab = λ j le. vid_elab place (t.values x ∙ ap (option_map (kept_of C W)) h) (t.denotes x ∙ ap (option_map denotes_of) h) u.elab;
        names = u.names;
        parameters = u.parameters;
      };
}

written-as : (C : Context) (W : World) (A : Around) (u : Typ) → Tells C W A → type_as (W.naming C.naming) u ≡ type_as A.number u
written-as C W A u t = ap (λ (num : ℕ → ℕ). type_as num u) (sym t.number)

wide : (S : State) (C : Context) (W : World) (A : Around) → IsContext S C → Tells C W A → name_count ≤ A.names
wide S C W A i t = subst (λ k. name_count ≤ k) (sym t.names) i.wide

exn-names : (n : ℕ) → name_count ≤ n → Over n exn_type
exn-names n le = (lt-ltb 5 n (omega (arith, le)), tt)

-- variables

variable-tree : (C : Context) (W : World) (A : Around) (n : ℕ) (ts : List ℕ) (x : prog.Exp) (u : Typ) → Tells C W A → ts ≡ []
    → x ≡ use_of W.reading (used.Variable n) ts (type_as (W.naming C.naming) u) → x ≡ prog.variable_exp n [] (as_typed A u)
variable-tree C W A n ts x u t e q = q ∙ ap₂ (λ (l : List ℕ) (a : Typ). prog.variable_exp n (map W.reading.type l) a) e (written-as C W A u t)

pub single_is : (S T : State) (C : Context) (place : Place) (x : LongVid) (k n : ℕ) (ts : List ℕ) (r : TypedExp) → entry_in C x.qualifiers x.vid ≡ Some (Single k n) → HasType S k
    → Grows S T → r.ty ≡ k → ts ≡ [] → Always T (λ W. tree_of W.reading r.exp ≡ use_of W.reading (used.Variable n) ts (type_as (W.naming C.naming) (type_of W k)))
    → IsExp S C (vid_exp place x) T r
single_is S T C place x k n ts r e h g q nothing tree = used-is S T C place x (Single k n) r e g (subst (HasType T) (sym q) (type_later S T k g h)) (λ W c A t.
    let f : IsInUse A (type_of W k) = t.fit x (Single k n) e in
    retype W A (single (type_of W k)) (variable n) (tree_of W.reading r.exp) (prog.variable_exp n [] (as_typed A (type_of W k))) (type_of W r.ty) (type_of W k)
    (variable-tree C W A n ts (tree_of W.reading r.exp) (type_of W k) t nothing (tree W c)) (ap (type_of W) q)
    (record {
      choices = no_choice;
      elab = use_single n (t.known x (Single k n) n (of_type (type_as A.number (type_of W k))) e refl) f.names;
      names = f.names;
      parameters = f.parameters;
    }))

pub own_is : (S T : State) (C : Context) (place : Place) (x : LongVid) (k n : ℕ) (r : TypedExp) → entry_in C x.qualifiers x.vid ≡ Some (Own k n) → HasType S k
    → Grows S T → r.ty ≡ k → Always T (λ W. tree_of W.reading r.exp ≡ atom_of W.reading (atom.Own n) (type_as (W.naming C.naming) (type_of W k)))
    → IsExp S C (vid_exp place x) T r
own_is S T C place x k n r e h g q tree = used-is S T C place x (Own k n) r e g (subst (HasType T) (sym q) (type_later S T k g h)) (λ W c A t.
    let f : IsInUse A (type_of W k) = t.fit x (Own k n) e in
    retype W A (single (type_of W k)) (variable n) (tree_of W.reading r.exp) (prog.own_exp n (as_typed A (type_of W k))) (type_of W r.ty) (type_of W k)
    (tree W c ∙ ap (prog.own_exp n) (written-as C W A (type_of W k) t)) (ap (type_of W) q)
    (record {
      choices = no_choice;
      elab = use_own n (t.known x (Own k n) n (own (type_as A.number (type_of W k))) e refl) f.names;
      names = f.names;
      parameters = f.parameters;
    }))

-- over parameters of a declaration

changed-names : (n : ℕ) (qs : List Quantified) (us : List Typ) (v : ℕ) → Rattle.core_rules.specs.Objects.AllOver n (typs_of us) → Over n (changed qs us var v)
changed-names n [] us v h = tt
changed-names n (q ∷ qs) [] v h = tt
changed-names n (q ∷ qs) (u ∷ us) v h = by (nat_eq q.variable v) (changed-names n qs us v h.1)
  where
    by : (b : Bool) → Over n (changed qs us var v) → Over n (if b then u else changed qs us var v)
    by true rest = h.0
    by false rest = rest

changed-over : (ps qs : List Quantified) (us : List Typ) (v : ℕ) → length us ≡ length qs → all_over ps (typs_of us) ≡ true → in_scope (qs ++ ps) v ≡ true
    → over ps (changed qs us var v) ≡ true
changed-over ps [] us v e h i = i
changed-over ps (q ∷ qs) [] v e h i = absurd (omega (arith, e))
changed-over ps (q ∷ qs) (u ∷ us) v e h i =
    let parts = and_parts (over ps u) (all_over ps (typs_of us)) h in
    by (nat_eq q.variable v) i parts.0 (changed-over ps qs us v (omega (arith, e)) parts.1)
  where
    by : (b : Bool) → (b || in_scope (qs ++ ps) v) ≡ true → over ps u ≡ true → (in_scope (qs ++ ps) v ≡ true → over ps (changed qs us var v) ≡ true)
        → over ps (if b then u else changed qs us var v) ≡ true
    by true i first rest = first
    by false i first rest = rest i

module _ (ps qs : List Quantified) (us : List Typ) (e : length us ≡ length qs) (h : all_over ps (typs_of us) ≡ true) where
  mutual
    instance-in : (t : Typ) → over (qs ++ ps) t ≡ true → over ps (replace (changed qs us var) t) ≡ true
    instance-in (var v) i = changed-over ps qs us v e h i
    instance-in (con y ts) i = instances-in ts i

    instances-in : (ts : Typs) → all_over (qs ++ ps) ts ≡ true → all_over ps (replace_all (changed qs us var) ts) ≡ true
    instances-in none i = refl
    instances-in (more t ts) i =
        let p = and_parts (over (qs ++ ps) t) (all_over (qs ++ ps) ts) i in
        ap₂ (λ a b. a && b) (instance-in t p.0) (instances-in ts p.1)

fresh-allowed : (W : World) (ps : List Quantified) → ((v : ℕ) → in_scope ps v ≡ true → admits_in ps v ≡ W.admits v) → (limit : Limit) (qs : List Quantified) (ks : List ℕ)
    → AreFresh W limit (map (λ q. q.mark) qs) ks → all_over ps (typs_of (images_of W ks)) ≡ true → AreAllowed (admits_in ps) qs (images_of W ks)
fresh-allowed W ps same limit [] [] h o = tt
fresh-allowed W ps same limit [] (k ∷ ks) h o = absurd h
fresh-allowed W ps same limit (q ∷ qs) [] h o = absurd h
fresh-allowed W ps same limit (q ∷ qs) (k ∷ ks) h o =
    let p = and_parts (over ps (type_of W k)) (all_over ps (typs_of (images_of W ks))) o in
    (allows-in ps W.admits same q.mark (type_of W k) p.0 h.0.allowed, fresh-allowed W ps same limit qs ks h.1 p.1)

images-length : (W : World) (limit : Limit) (qs : List Quantified) (ks : List ℕ) → AreFresh W limit (map (λ q. q.mark) qs) ks → length (images_of W ks) ≡ length qs
images-length W limit [] [] h = refl
images-length W limit [] (k ∷ ks) h = absurd h
images-length W limit (q ∷ qs) [] h = absurd h
images-length W limit (q ∷ qs) (k ∷ ks) h = ap suc (images-length W limit qs ks h.1)

-- what a variable has at new types
record IsAt (A : Around) (qs : List Quantified) (b : Typ) (us : List Typ) (u : Typ) : Type 0 where
  over_images : all_over A.parameters (typs_of us) ≡ true
  instance : IsInstanceAt A qs b us u
  parameters : over A.parameters u ≡ true

at-new : (S P : State) (C : Context) (W : World) (A : Around) (l k : ℕ) (o : Bool) (at : Instance) → IsContext S C → Tells C W A → Comes P W → IsAtNew S C l k P at
    → IsGeneral W A (W.reading.parameters l) k o → IsAt A (W.reading.parameters l) (type_of W k) (images_of W at.images.items) (type_of W at.ty)
at-new S P C W A l k o at i t c h f =
    let qs = W.reading.parameters l in
    let ks = at.images.items in
    let us = images_of W ks in
    let fresh = h.fresh W c in
    let inst = fresh_instance W (limit_of C) (map (λ q. q.mark) qs) ks (var 0) (nth_type us 0) fresh refl in
    let is : type_of W at.ty ≡ replace (changed qs us var) (type_of W k) = h.has W c ∙ f.parts us in
    let all = subst (λ ps. all_over ps (typs_of us) ≡ true) (sym t.parameters) (inst.parameters i.deep) in
    let names = subst (λ n. Rattle.core_rules.specs.Objects.AllOver n (typs_of us)) (sym t.names) inst.names in
    record {
      over_images = all;
      instance = record {
        marks = f.marks;
        allowed =
            fresh-allowed W A.parameters
            (subst (λ ps. (v : ℕ) → in_scope ps v ≡ true → admits_in ps v ≡ W.admits v) (sym t.parameters) (W.admitted C.level)) (limit_of C) qs ks fresh all;
        over = subst (Over A.names) (sym is) (over-under A.names (changed qs us var) (λ v. changed-names A.names qs us v names) (type_of W k) f.names);
        body = f.body;
        is = is;
      };
      parameters = ap (over A.parameters) is ∙ instance-in A.parameters qs us (images-length W (limit_of C) qs ks fresh) all (type_of W k) f.body;
    }

pub general_is : (S P M T : State) (C : Context) (place : Place) (x : LongVid) (l k n : ℕ) (o : Bool) (at : Instance) (ts : List ℕ) (r : TypedExp) → IsContext S C
    → entry_in C x.qualifiers x.vid ≡ Some (General l k n o) → IsAtNew S C l k P at → Grows P M
    → Always M (λ W. map W.reading.type ts ≡ (if o then map (type_as (W.naming C.naming)) (images_of W at.images.items) else [])) → Grows M T → r.ty ≡ at.ty
    → Always T (λ W. tree_of W.reading r.exp ≡ use_of W.reading (used.Variable n) ts (type_as (W.naming C.naming) (type_of W at.ty))) → IsExp S C (vid_exp place x) T r
general_is S P M T C place x l k n true at ts r i e h g w g' q tree =
    let up = grows_on P M T g g' in
    used-is S T C place x (General l k n true) r e (grows_on S P T h.grows up) (subst (HasType T) (sym q) (type_later P T at.ty up h.is)) (λ W c A t.
    let qs = W.reading.parameters l in
    let us = images_of W at.images.items in
    let b = type_of W k in
    let u = type_of W at.ty in
    let a = at-new S P C W A l k true at i t (comes_before P T W up c) h (t.fit x (General l k n true) e) in
    let written : map W.reading.type ts ≡ map (as_typed A) us = w W (comes_before M T W g' c) ∙ ap (λ (num : ℕ → ℕ). map (type_as num) us) (sym t.number) in
    retype W A (general qs b) (variable n) (tree_of W.reading r.exp) (prog.variable_exp n (map (as_typed A) us) (as_typed A u)) (type_of W r.ty) u
    (tree W c ∙ ap₂ (prog.variable_exp n) written (written-as C W A u t)) (ap (type_of W) q)
    (record {
      choices = no_choice;
      elab = use_general n us (t.known x (General l k n true) n (checked.general qs var (type_as A.number b)) e refl) a.over_images a.instance;
      names = a.instance.over;
      parameters = a.parameters;
    }))
general_is S P M T C place x l k n false at ts r i e h g w g' q tree =
    let up = grows_on P M T g g' in
    used-is S T C place x (General l k n false) r e (grows_on S P T h.grows up) (subst (HasType T) (sym q) (type_later P T at.ty up h.is)) (λ W c A t.
    let qs = W.reading.parameters l in
    let us = images_of W at.images.items in
    let b = type_of W k in
    let u = type_of W at.ty in
    let f : IsGeneral W A qs k false = t.fit x (General l k n false) e in
    let a = at-new S P C W A l k false at i t (comes_before P T W up c) h f in
    let same : u ≡ b = a.instance.is ∙ f.none refl us in
    retype W A (general qs b) (variable n) (tree_of W.reading r.exp) (prog.variable_exp n [] (as_typed A u)) (type_of W r.ty) u
    (tree W c ∙ ap₂ (prog.variable_exp n) (w W (comes_before M T W g' c)) (written-as C W A u t)) (ap (type_of W) q)
    (record {
      choices = no_choice;
      elab =
          use_plain n us (t.known x (General l k n false) n (of_type (type_as A.number b)) e refl ∙ ap (λ z. Some (of_type (type_as A.number z))) (sym same)) a.instance;
      names = a.instance.over;
      parameters = a.parameters;
    }))

-- schemes of a context

held-scheme : (ks : List code.Scheme) (s : ℕ) → s < length ks → (k : code.Scheme) × (slice_get ks s ≡ Some k)
held-scheme [] s lt = absurd (omega arith)
held-scheme (k ∷ ks) zero lt = (k, refl)
held-scheme (k ∷ ks) (suc s) lt = held-scheme ks s (omega arith)

scheme-closed : (S : State) (C : Context) (W : World) (s : ℕ) → IsContext S C → Comes S W → s < length C.schemes.items
    → is_below (length (scheme_at C W s).marks) (scheme_at C W s).body ≡ true
scheme-closed S C W s i c lt =
    let h = held-scheme C.schemes.items s lt in
    let k = i.schemes s h.0 h.1 in
    subst (λ o. is_below (length (scheme_of W o).marks) (scheme_of W o).body ≡ true) (sym h.1)
    (subst (λ t. is_below (length h.0.marks.items) t ≡ true) (sym (c.types h.0.body k.held)) k.closed)

pub at_fresh_is : (S P T : State) (C : Context) (s : ℕ) (k : code.Scheme) (ms : List Mark) (l : Limit) (r : Instance) → slice_get C.schemes.items s ≡ Some k → ms ≡ k.marks.items
    → l ≡ limit_of C → Grows S P → Rattle.elab_context.specs.of_elab_steps.Growing.AreTypes P r.images.items → Always P (λ W. AreFresh W l ms r.images.items) → P.next ≡ S.next
    → Grows P T → HasType T r.ty → Always T (λ W. type_of W r.ty ≡ replace (nth_type (images_of W r.images.items)) (W.raw k.body)) → T.next ≡ P.next → IsAtFresh S C s T r
at_fresh_is S P T C s k ms l r e em el g are fresh n g' h has n' = record {
  grows = grows_on S P T g g';
  next = n' ∙ n;
  are = Rattle.use_elab.proofs.Making.types_later P T g' r.images.items are;
  is = h;
  fresh = λ W c.
      subst (λ o. AreFresh W (limit_of C) (scheme_of W o).marks r.images.items) (sym e)
      (subst (λ z. AreFresh W z k.marks.items r.images.items) el (subst (λ z. AreFresh W l z r.images.items) em (fresh W (comes_before P T W g' c))));
  has = λ W c. subst (λ o. type_of W r.ty ≡ replace (nth_type (images_of W r.images.items)) (scheme_of W o).body) (sym e) (has W c);
}

unchosen : (r : ℕ → Typ) (marks : List Mark) → all_general marks ≡ true → Chosen marks r no_choice
unchosen r [] e = refl
unchosen r (Any ∷ marks) e = refl
unchosen r (Equality ∷ marks) e = refl
unchosen r (Class c ∷ marks) e = absurd (cc)

-- constructors

alone-replaced : (num : ℕ → ℕ) (f : ℕ → Typ) (o : Option Typ) (d : Typ)
    → type_as num (replace f (alone_type o d)) ≡ alone_type (option_map (λ a. type_as num (replace f a)) o) (type_as num (replace f d))
alone-replaced num f None d = refl
alone-replaced num f (Some a) d = refl

alone-as : (num : ℕ → ℕ) (us : List Typ) (k : ℕ) (o : Option Typ) (y : TyName) (b : Typ) → length us ≡ k → b ≡ alone_type o (con (name y) (variables 0 k))
    → type_as num (replace (nth_type us) b) ≡ alone_type (argument_at (map (type_as num) us) (option_map (type_as num) o)) (con (name (name_as num y)) (typs_of (map (type_as num) us)))
alone-as num us k o y b e h =
    ap (λ z. type_as num (replace (nth_type us) z)) h ∙ alone-replaced num (nth_type us) o (con (name y) (variables 0 k))
    ∙ ap₂ alone_type (sym (argument-as num us o)) (ap (con (name (name_as num y))) (ap (Rattle.elab_context.specs.of_elab_typed.Numbers.types_as num) (images-are us k e) ∙ typs_of-as num us))

pub constructor_is : (S P M T : State) (C : Context) (place : Place) (x : LongVid) (s n : ℕ) (y z : TyName) (at : Instance) (ts : List ℕ) (r : TypedExp) → IsContext S C
    → entry_in C x.qualifiers x.vid ≡ Some (Constructor s n y) → s < length C.schemes.items → IsAtFresh S C s P at → Grows P M
    → Always M (λ W. map W.reading.type ts ≡ map (type_as (W.naming C.naming)) (images_of W at.images.items)) → z ≡ name_as (number_in C) y → Grows M T → r.ty ≡ at.ty
    → Always T (λ W. tree_of W.reading r.exp ≡ use_of W.reading (used.Constructor n z) ts (type_as (W.naming C.naming) (type_of W at.ty))) → IsExp S C (vid_exp place x) T r
constructor_is S P M T C place x s n y z at ts r i e lt h g w zy g' q tree =
    let up = grows_on P M T g g' in
    used-is S T C place x (Constructor s n y) r e (grows_on S P T h.grows up) (subst (HasType T) (sym q) (type_later P T at.ty up h.is)) (λ W c A t.
    let cp = comes_before P T W up c in
    let num = W.naming C.naming in
    let marks = (scheme_at C W s).marks in
    let body = (scheme_at C W s).body in
    let us = images_of W at.images.items in
    let u = type_of W at.ty in
    let v : Value = record { scheme = scheme_at C W s; status = status.Constructor } in
    let f : IsConstructor C W s n y = t.fit x (Constructor s n y) e in
    let inst = fresh_instance W (limit_of C) marks at.images.items body u (h.fresh W cp) (h.has W cp) in
    let closed = scheme-closed S C W s i (comes_before S P W h.grows cp) lt in
    let has : ConHas W.table A n (name_as num y) (map (type_as num) us) (type_as num u) = record {
      row = constructor_of (name_as num y) n (option_map (type_as num) f.argument);
      found = f.row;
      same = refl;
      over = args-over num A.parameters us (images-all-over S C W A i t marks body u inst);
      is = ap (type_as num) (h.has W cp) ∙ alone-as num us (length marks) f.argument y body inst.count f.body;
    } in
    let written : map W.reading.type ts ≡ map (type_as num) us = w W (comes_before M T W g' c) in
    let named : z ≡ name_as num y = zy ∙ ap (λ (k : ℕ). record y { stamp = k }) (sym (t.numbers y.stamp)) in
    retype W A (given (record { scheme = scheme_at C W s; status = status.Constructor })) (constructor n) (tree_of W.reading r.exp)
    (prog.con_exp n (name_as num y) (map (type_as num) us) (as_typed A u)) (type_of W r.ty) u
    (tree W c ∙ ap₂ (λ (a : TyName) (b : List Typ). prog.con_exp n a b (type_as num u)) named written
    ∙ ap (prog.con_exp n (name_as num y) (map (type_as num) us)) (written-as C W A u t)) (ap (type_of W) q)
    (record {
      choices = no_choice;
      elab =
          use_constructor n us (name_as num y) (map (type_as num) us)
          (is_given S C W A i t marks body u inst v no_choice refl refl closed f.names (unchosen (nth_type us) marks f.general))
          (subst (ConHas W.table A n (name_as num y) (map (type_as num) us)) (written-as C W A u t) has);
      names = instance-names S C W A i t marks body u inst f.names;
      parameters = instance-over S C W A i t marks body u inst;
    }))

-- `ref`

pub reference_is : (S M N P Q T : State) (C : Context) (place : Place) (x : LongVid) (s content cell ty written : ℕ) (l : Limit) (r : TypedExp) → IsContext S C
    → entry_in C x.qualifiers x.vid ≡ Some (Reference s) → l ≡ limit_of C → Grows S M → Always M (λ W. IsFresh W l Any content) → Grows M N
    → Always N (λ W. type_of W cell ≡ ref_type (type_of W content)) → Grows N P → HasType P ty → Always P (λ W. type_of W ty ≡ function_type (type_of W content) (type_of W cell))
    → Grows P Q → Always Q (λ W. W.reading.type written ≡ type_as (W.naming C.naming) (type_of W content)) → Grows Q T → r.ty ≡ ty
    → Always T (λ W. tree_of W.reading r.exp ≡ atom_of W.reading (atom.Reference written) (type_as (W.naming C.naming) (type_of W ty))) → IsExp S C (vid_exp place x) T r
reference_is S M N P Q T C place x s content cell ty written l r i e el gm fresh gn hc gp is hf gq w gt q tree =
    let pt = grows_on P Q T gq gt in
    let nt = grows_on N P T gp pt in
    let mt = grows_on M N T gn nt in
    used-is S T C place x (Reference s) r e (grows_on S M T gm mt) (subst (HasType T) (sym q) (type_later P T ty pt is)) (λ W c A t.
    let a = type_of W content in
    let u = function_type a (ref_type a) in
    let fr = subst (λ z. IsFresh W z Any content) el (fresh W (comes_before M T W mt c)) in
    let same : type_of W ty ≡ u = hf W (comes_before P T W pt c) ∙ ap (function_type a) (hc W (comes_before N T W nt c)) in
    let f = t.fit x (Reference s) e in
    let names : Over A.names a = subst (λ n. Over n a) (sym t.names) fr.within.names in
    let parameters : over A.parameters a ≡ true = subst (λ qs. over qs a ≡ true) (sym t.parameters) (fr.within.parameters i.deep) in
    let le = wide S C W A i t in
    let whole : Over A.names u = (tt, (names, ((lt-ltb 4 A.names (omega (arith, le)), (names, tt)), tt))) in
    retype W A (given (record { scheme = scheme_at C W s; status = status.Constructor })) reference (tree_of W.reading r.exp) (prog.ref_exp (as_typed A a) (as_typed A u)) (type_of W r.ty) u
    (tree W c
    ∙ ap₂ prog.ref_exp (w W (comes_before Q T W gt c) ∙ written-as C W A a t) (written-as C W A (type_of W ty) t ∙ ap (as_typed A) same)) (ap (type_of W) q ∙ same)
    (record {
      choices = no_choice;
      elab =
          use_reference (a ∷ []) a
          (subst (λ z. IsGivenAt A (record { scheme = z; status = status.Constructor }) (a ∷ []) u no_choice) (sym f)
          (record { allowed = (tt, tt); over = whole; is = λ g. refl; chosen = refl })) (over-as A.number A.parameters a ∙ parameters);
      names = whole;
      parameters = ap₂ (λ (b d : Bool). b && (d && true)) parameters (ap (λ (b : Bool). b && true) parameters);
    }))

-- exceptions

pub initial_is : (S M T : State) (C : Context) (place : Place) (x : LongVid) (s n ty : ℕ) (r : TypedExp) → IsContext S C → entry_in C x.qualifiers x.vid ≡ Some (Initial s n)
    → Grows S M → HasType M ty → Always M (λ W. type_of W ty ≡ exn_type) → Grows M T → r.ty ≡ ty
    → Always T (λ W. tree_of W.reading r.exp ≡ atom_of W.reading (atom.Exception (tree_exception.Initial n)) (type_as (W.naming C.naming) (type_of W ty)))
    → IsExp S C (vid_exp place x) T r
initial_is S M T C place x s n ty r i e g h w g' q tree =
    used-is S T C place x (Initial s n) r e (grows_on S M T g g') (subst (HasType T) (sym q) (type_later M T ty g' h)) (λ W c A t.
    let same : type_of W ty ≡ exn_type = w W (comes_before M T W g' c) in
    let f = t.fit x (Initial s n) e in
    let names = exn-names A.names (wide S C W A i t) in
    retype W A (given (record { scheme = scheme_at C W s; status = status.Exception })) (exception (fixed n)) (tree_of W.reading r.exp)
    (prog.exn_exp (fixed n) (as_typed A exn_type)) (type_of W r.ty) exn_type
    (tree W c ∙ ap (prog.exn_exp (fixed n)) (written-as C W A (type_of W ty) t ∙ ap (as_typed A) same)) (ap (type_of W) q ∙ same)
    (record {
      choices = no_choice;
      elab =
          use_given_exception (fixed n) []
          (subst (λ z. IsGivenAt A (record { scheme = z; status = status.Exception }) [] exn_type no_choice) (sym f.0)
          (record { allowed = tt; over = names; is = λ g. refl; chosen = refl })) (fixed_checked f.1);
      names = names;
      parameters = refl;
    }))

pub raised_is : (S M T : State) (C : Context) (place : Place) (x : LongVid) (n ty : ℕ) (o : Option ℕ) (r : TypedExp) → IsContext S C
    → entry_in C x.qualifiers x.vid ≡ Some (Raised n o) → Grows S M → HasType M ty → Always M (λ W. type_of W ty ≡ exception_type (option_map (type_of W) o)) → Grows M T → r.ty ≡ ty
    → Always T (λ W. tree_of W.reading r.exp ≡ atom_of W.reading (atom.Exception (tree_exception.Held n)) (type_as (W.naming C.naming) (type_of W ty)))
    → IsExp S C (vid_exp place x) T r
raised_is S M T C place x n ty None r i e g h w g' q tree =
    used-is S T C place x (Raised n None) r e (grows_on S M T g g') (subst (HasType T) (sym q) (type_later M T ty g' h)) (λ W c A t.
    let same : type_of W ty ≡ exn_type = w W (comes_before M T W g' c) in
    let names = exn-names A.names (wide S C W A i t) in
    retype W A (raised None) (exception (held n)) (tree_of W.reading r.exp) (prog.exn_exp (held n) (as_typed A exn_type)) (type_of W r.ty) exn_type
    (tree W c ∙ ap (prog.exn_exp (held n)) (written-as C W A (type_of W ty) t ∙ ap (as_typed A) same)) (ap (type_of W) q ∙ same)
    (record {
      choices = no_choice;
      elab = use_exception (held n) (held_checked (t.known x (Raised n None) n (exception_known None) e refl)) names;
      names = names;
      parameters = refl;
    }))
raised_is S M T C place x n ty (Some k) r i e g h w g' q tree =
    used-is S T C place x (Raised n (Some k)) r e (grows_on S M T g g') (subst (HasType T) (sym q) (type_later M T ty g' h)) (λ W c A t.
    let a = type_of W k in
    let same : type_of W ty ≡ function_type a exn_type = w W (comes_before M T W g' c) in
    let f : IsInUse A a = t.fit x (Raised n (Some k)) e in
    let names : Over A.names (function_type a exn_type) = (tt, (f.names, (exn-names A.names (wide S C W A i t), tt))) in
    retype W A (raised (Some a)) (exception (held n)) (tree_of W.reading r.exp) (prog.exn_exp (held n) (as_typed A (function_type a exn_type))) (type_of W r.ty) (function_type a exn_type)
    (tree W c ∙ ap (prog.exn_exp (held n)) (written-as C W A (type_of W ty) t ∙ ap (as_typed A) same)) (ap (type_of W) q ∙ same)
    (record {
      choices = no_choice;
      elab = use_exception (held n) (held_checked (t.known x (Raised n (Some k)) n (exception_known (Some (type_as A.number a))) e refl)) names;
      names = names;
      parameters = ap (λ (b : Bool). b && true) f.parameters;
    }))

-- primitives

choice-of : (m : ℕ → Bool) (r : ℕ → Typ) (marks : List Mark) → AllAllowed m r 0 marks → (k : Choices) × Chosen marks r k
choice-of m r [] h = (no_choice, refl)
choice-of m r (Any ∷ marks) h = (no_choice, refl)
choice-of m r (Equality ∷ marks) h = (no_choice, refl)
choice-of m r (Class c ∷ marks) h = (base h.0.number, (h.0.number, h.0.is, refl))

first-allowed : (m : ℕ → Bool) (r : ℕ → Typ) (marks : List Mark) (a : Mark) → (marks ≡ a ∷ []) ⊎ ((marks ≡ []) × (a ≡ Any)) → AllAllowed m r 0 marks → Allows a m (r 0)
first-allowed m r marks a (inl e) h = let both : AllAllowed m r 0 (a ∷ []) = subst (AllAllowed m r 0) e h in both.0
first-allowed m r marks a (inr e) h = subst (λ z. Allows z m (r 0)) (sym e.1) tt

pub primitive_is : (S P F M T : State) (C : Context) (place : Place) (x : LongVid) (s k : ℕ) (p : BasisPrimitive) (at : Instance) (ts : List ℕ) (r : TypedExp) → IsContext S C
    → entry_in C x.qualifiers x.vid ≡ Some (Primitive s p) → s < length C.schemes.items → IsAtFresh S C s P at → Grows P F
    → Always F (λ W. type_of W k ≡ nth_type (images_of W at.images.items) 0) → Grows F M
    → Always M (λ W. map W.reading.type ts ≡ map (type_as (W.naming C.naming)) (images_of W (k ∷ []))) → Grows M T → r.ty ≡ at.ty
    → Always T (λ W. tree_of W.reading r.exp ≡ use_of W.reading (used.Primitive p) ts (type_as (W.naming C.naming) (type_of W at.ty))) → IsExp S C (vid_exp place x) T r
primitive_is S P F M T C place x s k p at ts r i e lt h gf first gm w gt q tree =
    let ft = grows_on F M T gm gt in
    let up = grows_on P F T gf ft in
    used-is S T C place x (Primitive s p) r e (grows_on S P T h.grows up) (subst (HasType T) (sym q) (type_later P T at.ty up h.is)) (λ W c A t.
    let cp = comes_before P T W up c in
    let marks = (scheme_at C W s).marks in
    let body = (scheme_at C W s).body in
    let us = images_of W at.images.items in
    let u = type_of W at.ty in
    let a = nth_type us 0 in
    let v : Value = record { scheme = scheme_at C W s; status = status.Variable } in
    let f = t.fit x (Primitive s p) e in
    let inst = fresh_instance W (limit_of C) marks at.images.items body u (h.fresh W cp) (h.has W cp) in
    let closed = scheme-closed S C W s i (comes_before S P W h.grows cp) lt in
    let names : Over C.names body = subst (Over C.names) (sym f.body) (primitive-names C.names i.wide p) in
    let allowed = images-allowed S C W A i t marks body u inst in
    let chosen = choice-of (admits_in A.parameters) (nth_type us) marks allowed in
    let written : map W.reading.type ts ≡ as_typed A a ∷ [] =
    w W (comes_before M T W gt c) ∙ ap (λ z. type_as (W.naming C.naming) z ∷ []) (first W (comes_before F T W ft c)) ∙ ap (λ z. z ∷ []) (written-as C W A a t) in
    retype W A (given (record { scheme = scheme_at C W s; status = status.Variable })) (primitive p) (tree_of W.reading r.exp) (prog.prim_exp p (as_typed A a ∷ []) (as_typed A u)) (type_of W r.ty) u
    (tree W c ∙ ap₂ (prog.prim_exp p) written (written-as C W A u t)) (ap (type_of W) q)
    (record {
      choices = chosen.0;
      elab =
          use_primitive p us (as_typed A a) (is_given S C W A i t marks body u inst v chosen.0 refl refl closed names chosen.1)
          (record {
            over = over-as A.number A.parameters a ∙ images-over S C W A i t marks body u inst 0;
            allows = allows-numbered A.number (admits_in A.parameters) (prim_type p).mark a t.initial (first-allowed (admits_in A.parameters) (nth_type us) marks (prim_type p).mark f.marks allowed);
            is = ap (as_typed A) (h.has W cp ∙ ap (replace (nth_type us)) f.body) ∙ primitive-at A.number t.initial p (nth_type us);
          });
      names = instance-names S C W A i t marks body u inst names;
      parameters = instance-over S C W A i t marks body u inst;
    }))

-- what the code makes of lists of parameters

pub all-marks : (P : Mark → Type 0) (qs : List Quantified) → AllByRecursion (λ q. P q.mark) qs → AllByRecursion P (map (λ q. q.mark) qs)
all-marks P [] h = tt
all-marks P (q ∷ qs) h = (h.0, all-marks P qs h.1)

pub at_new_is : (S P T : State) (C : Context) (l k : ℕ) (qs : List Quantified) (ms : List Mark) (z : Limit) (r : Instance) → HasList S l → qs ≡ parameters_at (parameters_of S.tables) l
    → ms ≡ map (λ q. q.mark) qs → z ≡ limit_of C → Grows S P → Rattle.elab_context.specs.of_elab_steps.Growing.AreTypes P r.images.items → Always P (λ W. AreFresh W z ms r.images.items)
    → P.next ≡ S.next → Grows P T → HasType T r.ty → Always T (λ W. type_of W r.ty ≡ sub (changed qs (images_of W r.images.items) W.value) (W.raw k)) → T.next ≡ P.next
    → IsAtNew S C l k T r
at_new_is S P T C l k qs ms z r list eq em ez g are fresh n g' is has n' = record {
  grows = grows_on S P T g g';
  next = n' ∙ n;
  are = Rattle.use_elab.proofs.Making.types_later P T g' r.images.items are;
  is = is;
  fresh = λ W c.
      let cp = comes_before P T W g' c in
      subst (λ (x : List Quantified). AreFresh W (limit_of C) (map (λ q. q.mark) x) r.images.items) (eq ∙ sym (same W (comes_before S P W g cp)))
      (subst (λ x. AreFresh W (limit_of C) x r.images.items) em (subst (λ x. AreFresh W x ms r.images.items) ez (fresh W cp)));
  has = λ W c.
      has W c
      ∙ ap (λ (x : List Quantified). sub (changed x (images_of W r.images.items) W.value) (W.raw k)) (eq ∙ sym (same W (comes_before S P W g (comes_before P T W g' c))));
}
  where
    same : (W : World) → Comes S W → W.reading.parameters l ≡ parameters_at (parameters_of S.tables) l
    same W c = c.lists l (parameters_at (parameters_of S.tables) l) (slice_get-get_or (parameters_of S.tables) l [] list.held)

pub written_of : (T : State) (C : Context) (ts us ks : List ℕ) → us ≡ ts → Always T (λ W. map W.reading.type ks ≡ map (type_as (W.naming C.naming)) (images_of W us))
    → Always T (λ W. map W.reading.type ks ≡ map (type_as (W.naming C.naming)) (images_of W ts))
written_of T C ts us ks e a W c = a W c ∙ ap (λ l. map (type_as (W.naming C.naming)) (images_of W l)) e

pub entry-as : (C : Context) (x : LongVid) (e f : Entry) → entry_in C x.qualifiers x.vid ≡ Some e → e ≡ f → entry_in C x.qualifiers x.vid ≡ Some f
entry-as C x e f h q = h ∙ ap Some q
