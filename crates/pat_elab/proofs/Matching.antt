-- Constructors and exceptions in patterns.
use Rattle.std.proofs.Common.{◌≡◌, ◌<◌, ◌≤◌, ℕ, zero, suc, true, false, List, [], ◌∷◌, length, Option, Some, None, Box, Global, slice_get, nat_lt, refl, sym, ap, subst, ◌∙◌, arith}
use Rattle.std.specs.Prelude.{option_map}
use Rattle.std.proofs.lemmas.Bool.{lt-ltb, and_parts}
use Rattle.mlc_base.specs.declared.place.Place.{Place}
use Rattle.ty_core.specs.Types.{Typ, Typs, var, con, none, more, name}
use Rattle.ty_core.specs.Statics.{replace, replace_all, variables}
use Rattle.ty_core.specs.declared.mark.Mark.{Mark}
use Rattle.ty_core.specs.declared.mark.Mark.TheVariants.{Any, Equality, Class}
use Rattle.ty_core.specs.declared.name.TyName.{TyName}
use Rattle.ty_core.specs.declared.env.Status.TheVariants as status
use Rattle.ty_basis.specs.Types.{name_count, function_type, ref_type, exn_type, exn_name}
use Rattle.ty_table.specs.TypeAt.{type_at}
use Rattle.ty_solve.specs.Substitution.{is_below}
use Rattle.sml_tree.specs.Terminal.{LongVid}
use Rattle.sml_tree.specs.declared.ident.Vid.{Vid}
use Rattle.sml_tree.specs.BareTree as bare
use Rattle.sml_tree.specs.BareTree.{vid_pat, con_pat}
use Rattle.core_rules.specs.Objects.{Over, Value}
use Rattle.core_rules.specs.Choices.{no_choice}
use Rattle.core_rules.specs.Typing.{Chosen, all_general}
use Rattle.ir_poly.specs.Prog as prog
use Rattle.ir_poly.specs.Prog.{fixed, held}
use Rattle.ir_poly.specs.ProgChecked.{fixed_checked, held_checked}
use Rattle.ir_poly.specs.Types.{nth_type, over}
use Rattle.ir_poly.specs.TestsChecked.{HasConstructor, alone_type, exception as exception_known}
use Rattle.core_elab.specs.Scopes.{Denotes, constructor, reference, exception, empty, long_denotes_in}
use Rattle.prog_tree.specs.TreeOf.{pat_of, before, before as before_tree}
use Rattle.prog_tree.specs.declared.tree.Exception.TheVariants as tree_exception
use Rattle.prog_tree.specs.declared.tree.Head.TheVariants as head
use Rattle.prog_tree.specs.declared.tree.Pat.{Pat}
use Rattle.prog_tree.specs.declared.tree.Pat.TheVariants as tree
use Rattle.elab_context.specs.of_elab_typed.Numbers.{type_as}
use Rattle.elab_context.specs.of_elab_typed.Contexts.{Kept, given, raised, kept_in, Around}
use Rattle.elab_context.specs.of_elab_typed.Elaborates.{PatElab, alone_elab, con_elab}
use Rattle.elab_context.specs.of_elab_typed.Instances.{IsGivenAt, AloneElab, alone_constructor, alone_exception, alone_given_exception, BeforeElab, before_constructor, before_reference, before_exception}
use Rattle.elab_context.proofs.of_elab_typed.Names.{over-as}
use Rattle.elab_context.specs.of_elab_state.States.{types_in}
use Rattle.elab_context.specs.of_elab_state.declared.state.State.{State}
use Rattle.elab_context.specs.of_elab_steps.Growing.{HasType, Grows, Always}
use Rattle.elab_context.specs.of_elab_steps.Instances.{IsInstance, begins_as_function}
use Rattle.elab_context.specs.of_elab_steps.World.{World, type_of, Comes}
use Rattle.elab_context.proofs.of_elab_steps.Growing.{grows_on, comes_before}
use Rattle.elab_context.specs.Entries.{entry_in, limit_of}
use Rattle.elab_context.specs.Telling.{Tells, IsContext, IsHeld, IsConstructor, kept_of, denotes_of, scheme_at, scheme_of}
use Rattle.elab_context.specs.declared.context.Context.{Context}
use Rattle.elab_context.specs.declared.entry.Entry.{Entry}
use Rattle.elab_context.specs.declared.entry.Entry.TheVariants.{Constructor, Reference, Initial, Raised}
use Rattle.elab_context.specs.declared.entry.Scheme as code
use Rattle.elab_context.proofs.Reading.{context_later}
use Rattle.elab_context.proofs.Giving.{is_given, has_row, instance-over, instance-names}
use Rattle.pat_elab.proofs.Leaves.{no-more}
use Rattle.pat_elab.proofs.Forms.{all-later, alone_is}
use Rattle.pat_elab.proofs.Trees.{pat_of-Constructor, pat_of-Exception, pat_of-Before}
use Rattle.pat_elab.specs.Elaborated.{bound_of, scope_of, Elaborates, IsBound, IsPat}
use Rattle.pat_elab.specs.Matched.{binds, IsConstructorAlone, IsHead, IsHeaded}
use Rattle.pat_elab.specs.declared.bound.BoundVariable.{BoundVariable}
use Rattle.pat_elab.specs.declared.headed.Headed.{Headed}
use Rattle.pat_elab.specs.declared.bound.TypedPat.{TypedPat}

-- schemes of a context

held-scheme : (ks : List code.Scheme) (s : ℕ) → s < length ks → (k : code.Scheme) × (slice_get ks s ≡ Some k)
held-scheme [] s lt = absurd (omega arith)
held-scheme (k ∷ ks) zero lt = (k, refl)
held-scheme (k ∷ ks) (suc s) lt = held-scheme ks s (omega arith)

scheme-closed : (S : State) (C : Context) (W : World) (s : ℕ) → IsContext S C → Comes S W → s < length C.schemes.items
    → is_below (length (scheme_at C W s).marks) (scheme_at C W s).body ≡ true
scheme-closed S C W s i c lt =
    let h = held-scheme C.schemes.items s lt in
    let k = i.schemes s h.0 h.1 in
    subst (λ o. is_below (length (scheme_of W o).marks) (scheme_of W o).body ≡ true) (sym h.1)
    (subst (λ t. is_below (length h.0.marks.items) t ≡ true) (sym (c.types h.0.body k.held)) k.closed)

unchosen : (r : ℕ → Typ) (marks : List Mark) → all_general marks ≡ true → Chosen marks r no_choice
unchosen r [] e = refl
unchosen r (Any ∷ marks) e = refl
unchosen r (Equality ∷ marks) e = refl
unchosen r (Class c ∷ marks) e = absurd (cc)

pub constructor_alone_is : (S T : State) (C : Context) (s r : ℕ) (k : code.Scheme) → slice_get C.schemes.items s ≡ Some k → IsContext S C → Grows S T → HasType T r → T.next ≡ S.next
    → Always T (λ W. IsInstance W (limit_of C) (scheme_at C W s).marks (scheme_at C W s).body (type_of W r)) → begins_as_function (type_at (types_in S) k.body) ≡ false
    → IsConstructorAlone S C s T r
constructor_alone_is S T C s r k e i g h n a f = record {
  grows = g;
  is = h;
  next = n;
  instance = a;
  alone = λ W c. ap (λ o. begins_as_function (scheme_of W o).body) e ∙ ap begins_as_function ((comes_before S T W g c).types k.body (i.schemes s k e).held) ∙ f;
}

-- matched alone

record IsMatched (W : World) (A : Around) (x : LongVid) (p : prog.Pat) (t : Typ) : Type 0 where
  kept : Kept
  denotes : Denotes
  datatype : TyName
  parts : Typs
  is_kept : kept_in A.env x ≡ Some kept
  is_denoted : long_denotes_in A.scope x ≡ Some denotes
  type : t ≡ con (name datatype) parts
  elab : AloneElab W.table A kept denotes p (con (name datatype) parts)
  names : Over A.names t
  parameters : over A.parameters t ≡ true

matched-is : (S T : State) (C : Context) (place : Place) (x : LongVid) (bs : List BoundVariable) (r : TypedPat) → Grows S T → HasType T r.ty → T.next ≡ S.next
    → ((W : World) → Comes T W → (A : Around) → Tells C W A → IsMatched W A x (pat_of W.reading r.pat) (type_of W r.ty)) → IsPat S C (vid_pat place x) T bs bs r
matched-is S T C place x bs r g h n m = record {
  added = [];
  bound = no-more bs;
  grows = g;
  is = h;
  have = tt;
  gives = λ W c A t.
      let a = m W c A t in
      record {
        choices = no_choice;
        elab =
            subst (λ u. PatElab W.table A S.next (vid_pat place x) (pat_of W.reading r.pat) u [] no_choice empty T.next) (sym a.type)
            (subst (λ j. PatElab W.table A S.next (vid_pat place x) (pat_of W.reading r.pat) (con (name a.datatype) a.parts) [] no_choice empty j) (sym n)
            (alone_elab place a.is_kept a.is_denoted a.elab));
        names = a.names;
        parameters = a.parameters;
      };
}

no-argument : (o : Option Typ) (b r : Typ) → b ≡ alone_type o r → begins_as_function b ≡ false → o ≡ None
no-argument None b r e h = refl
no-argument (Some a) b r e h = let f : begins_as_function (function_type a r) ≡ false = ap begins_as_function (sym e) ∙ h in absurd (cc)

is-kept : (C : Context) (W : World) (A : Around) (x : LongVid) (e : Entry) → Tells C W A → entry_in C x.qualifiers x.vid ≡ Some e → kept_in A.env x ≡ Some (kept_of C W e)
is-kept C W A x e t h = t.values x ∙ ap (option_map (kept_of C W)) h

is-denoted : (C : Context) (W : World) (A : Around) (x : LongVid) (e : Entry) → Tells C W A → entry_in C x.qualifiers x.vid ≡ Some e → long_denotes_in A.scope x ≡ Some (denotes_of e)
is-denoted C W A x e t h = t.denotes x ∙ ap (option_map denotes_of) h

-- a constructor at the types of an instance
module _ (S : State) (C : Context) (W : World) (A : Around) (i : IsContext S C) (c : Comes S W) (t : Tells C W A) (x : LongVid) (s n : ℕ) (y : TyName) (e : entry_in C x.qualifiers x.vid ≡ Some (Constructor s n y)) where
  fits : IsConstructor C W s n y
  fits = t.fit x (Constructor s n y) e

  held-here : s < length C.schemes.items
  held-here = i.entries x.qualifiers x.vid (Constructor s n y) e

  value : Value
  value = record { scheme = scheme_at C W s; status = status.Constructor }

  con-given : (u : Typ) (h : IsInstance W (limit_of C) (scheme_at C W s).marks (scheme_at C W s).body u) → IsGivenAt A (record { scheme = scheme_at C W s; status = status.Constructor }) h.images u no_choice
  con-given u h =
      is_given S C W A i t (scheme_at C W s).marks (scheme_at C W s).body u h (record { scheme = scheme_at C W s; status = status.Constructor }) no_choice refl refl (scheme-closed S C W s i c held-here) fits.names
      (unchosen (nth_type h.images) (scheme_at C W s).marks fits.general)

  con-row : (us : List Typ) → length us ≡ length (scheme_at C W s).marks
      → HasConstructor W.table n (type_as A.number (con (name y) (replace_all (nth_type us) (variables 0 (length (scheme_at C W s).marks)))))
      (option_map (λ a. type_as A.number (replace (nth_type us) a)) fits.argument)
  con-row us q =
      subst (λ (num : ℕ → ℕ). HasConstructor W.table n (type_as num (con (name y) (replace_all (nth_type us) (variables 0 (length (scheme_at C W s).marks)))))
      (option_map (λ a. type_as num (replace (nth_type us) a)) fits.argument)) (sym t.number)
      (has_row W.table (W.naming C.naming) y n (length (scheme_at C W s).marks) us fits.argument q fits.row)

pub con_alone_is : (S T : State) (C : Context) (place : Place) (x : LongVid) (s n : ℕ) (y : TyName) (bs : List BoundVariable) (r : TypedPat) → IsContext S C
    → entry_in C x.qualifiers x.vid ≡ Some (Constructor s n y) → IsConstructorAlone S C s T r.ty → r.pat ≡ tree.Constructor n → IsPat S C (vid_pat place x) T bs bs r
con_alone_is S T C place x s n y bs r i e h p = matched-is S T C place x bs r h.grows h.is h.next (λ W c A t.
    let d = comes_before S T W h.grows c in
    let f = fits S C W A i d t x s n y e in
    let inst = h.instance W c in
    let us = inst.images in
    let k = length (scheme_at C W s).marks in
    let parts = replace_all (nth_type us) (variables 0 k) in
    let no = no-argument f.argument (scheme_at C W s).body (con (name y) (variables 0 k)) f.body (h.alone W c) in
    let type : type_of W r.ty ≡ con (name y) parts = inst.is ∙ ap (replace (nth_type us)) (f.body ∙ ap (λ o. alone_type o (con (name y) (variables 0 k))) no) in
    record {
      kept = given (record { scheme = scheme_at C W s; status = status.Constructor });
      denotes = constructor n;
      datatype = y;
      parts = parts;
      is_kept = is-kept C W A x (Constructor s n y) t e;
      is_denoted = is-denoted C W A x (Constructor s n y) t e;
      type = type;
      elab =
          subst (λ q. AloneElab W.table A (given (record { scheme = scheme_at C W s; status = status.Constructor })) (constructor n) q (con (name y) parts))
          (sym (ap (pat_of W.reading) p ∙ pat_of-Constructor W.reading n))
          (alone_constructor n us y parts refl
          (subst (λ u. IsGivenAt A (record { scheme = scheme_at C W s; status = status.Constructor }) us u no_choice) type (con-given S C W A i d t x s n y e (type_of W r.ty) inst))
          (subst (λ o. HasConstructor W.table n (type_as A.number (con (name y) parts)) (option_map (λ a. type_as A.number (replace (nth_type us) a)) o)) no
          (con-row S C W A i d t x s n y e us inst.count)));
      names = instance-names S C W A i t (scheme_at C W s).marks (scheme_at C W s).body (type_of W r.ty) inst f.names;
      parameters = instance-over S C W A i t (scheme_at C W s).marks (scheme_at C W s).body (type_of W r.ty) inst;
    })

exn-names : (n : ℕ) → name_count ≤ n → Over n exn_type
exn-names n le = (lt-ltb 5 n (omega (arith, le)), tt)

-- exceptions
pub initial_alone_is : (S T : State) (C : Context) (place : Place) (x : LongVid) (s n : ℕ) (bs : List BoundVariable) (r : TypedPat) → IsContext S C
    → entry_in C x.qualifiers x.vid ≡ Some (Initial s n) → Grows S T → HasType T r.ty → Always T (λ W. type_of W r.ty ≡ exn_type) → T.next ≡ S.next
    → r.pat ≡ tree.Exception (tree_exception.Initial n) → IsPat S C (vid_pat place x) T bs bs r
initial_alone_is S T C place x s n bs r i e g h w m p = matched-is S T C place x bs r g h m (λ W c A t.
    let wide : name_count ≤ A.names = subst (λ k. name_count ≤ k) (sym t.names) i.wide in
    let f = t.fit x (Initial s n) e in
    let v : Value = record { scheme = scheme_at C W s; status = status.Exception } in
    let names = exn-names A.names wide in
    record {
      kept = given (record { scheme = scheme_at C W s; status = status.Exception });
      denotes = exception (fixed n);
      datatype = exn_name;
      parts = none;
      is_kept = is-kept C W A x (Initial s n) t e;
      is_denoted = is-denoted C W A x (Initial s n) t e;
      type = w W c;
      elab =
          subst (λ q. AloneElab W.table A (given (record { scheme = scheme_at C W s; status = status.Exception })) (exception (fixed n)) q exn_type)
          (sym (ap (pat_of W.reading) p ∙ pat_of-Exception W.reading (tree_exception.Initial n)))
          (alone_given_exception (fixed n) [] refl
          (subst (λ z. IsGivenAt A (record { scheme = z; status = status.Exception }) [] exn_type no_choice) (sym f.0)
          (record { allowed = tt; over = names; is = λ g. refl; chosen = refl }))
          (fixed_checked f.1));
      names = subst (Over A.names) (sym (w W c)) names;
      parameters = ap (over A.parameters) (w W c);
    })

pub raised_alone_is : (S T : State) (C : Context) (place : Place) (x : LongVid) (n : ℕ) (bs : List BoundVariable) (r : TypedPat) → IsContext S C
    → entry_in C x.qualifiers x.vid ≡ Some (Raised n None) → Grows S T → HasType T r.ty → Always T (λ W. type_of W r.ty ≡ exn_type) → T.next ≡ S.next
    → r.pat ≡ tree.Exception (tree_exception.Held n) → IsPat S C (vid_pat place x) T bs bs r
raised_alone_is S T C place x n bs r i e g h w m p = matched-is S T C place x bs r g h m (λ W c A t.
    let wide : name_count ≤ A.names = subst (λ k. name_count ≤ k) (sym t.names) i.wide in
    let names = exn-names A.names wide in
    record {
      kept = raised None;
      denotes = exception (held n);
      datatype = exn_name;
      parts = none;
      is_kept = is-kept C W A x (Raised n None) t e;
      is_denoted = is-denoted C W A x (Raised n None) t e;
      type = w W c;
      elab =
          subst (λ q. AloneElab W.table A (raised None) (exception (held n)) q exn_type)
          (sym (ap (pat_of W.reading) p ∙ pat_of-Exception W.reading (tree_exception.Held n)))
          (alone_exception (held n) (held_checked (t.known x (Raised n None) n (exception_known None) e refl)) names);
      names = subst (Over A.names) (sym (w W c)) names;
      parameters = ap (over A.parameters) (w W c);
    })

-- before an argument

not-function : {A : Type 0} (u r : Typ) (y : TyName) (ts : Typs) → function_type u r ≡ con (name y) ts → A
not-function u r y ts e = absurd (cc)

function-parts : (u r a b : Typ) → function_type u r ≡ function_type a b → (u ≡ a) × (r ≡ b)
function-parts u r a b e = (cc, cc)

-- an identifier is matched before arguments of the type u
record IsBefore (W : World) (A : Around) (x : LongVid) (u : Typ) (h : Headed) : Type 0 where
  kept : Kept
  denotes : Denotes
  datatype : TyName
  parts : Typs
  is_kept : kept_in A.env x ≡ Some kept
  is_denoted : long_denotes_in A.scope x ≡ Some denotes
  type : type_of W h.ty ≡ con (name datatype) parts
  elab : (a : prog.Pat) → BeforeElab W.table A kept denotes a (before h.head (W.reading.type h.written) a) u (con (name datatype) parts)
  names : Over A.names (type_of W h.ty)
  parameters : over A.parameters (type_of W h.ty) ≡ true

heads-of : (W : World) (A : Around) (place q : Place) (x : LongVid) (u : Typ) (h : Headed) → IsBefore W A x u h → IsHead W A (con_pat place q x) u h
heads-of W A place q x u h b = record {
  heads = λ k j a p bs e. record {
    choices = e.choices;
    elab = subst (λ t. PatElab W.table A k (con_pat place q x a) (before h.head (W.reading.type h.written) p) t (bound_of W bs) e.choices (scope_of bs) j) (sym b.type)
        (con_elab place q b.is_kept b.is_denoted (b.elab p) e.elab);
    names = b.names;
    parameters = b.parameters;
  };
}

pub as-written : (C : Context) (W : World) (A : Around) (k : ℕ) (u : Typ) → Tells C W A → W.reading.type k ≡ type_as (W.naming C.naming) u → W.reading.type k ≡ type_as A.number u
as-written C W A k u t e = e ∙ ap (λ (num : ℕ → ℕ). type_as num u) (sym t.number)

con-before : (S : State) (C : Context) (W : World) (A : Around) → IsContext S C → Comes S W → Tells C W A → (x : LongVid) (s n : ℕ) (y : TyName)
    → entry_in C x.qualifiers x.vid ≡ Some (Constructor s n y) → (u : Typ) (h : Headed) → h.head ≡ head.Constructor n → W.reading.type h.written ≡ type_as A.number u
    → IsInstance W (limit_of C) (scheme_at C W s).marks (scheme_at C W s).body (function_type u (type_of W h.ty)) → IsBefore W A x u h
con-before S C W A i d t x s n y e u h q w inst = by f.argument refl
  where
    f : IsConstructor C W s n y
    f = fits S C W A i d t x s n y e

    k : ℕ
    k = length (scheme_at C W s).marks

    parts : Typs
    parts = replace_all (nth_type inst.images) (variables 0 k)

    over-all : over A.parameters (function_type u (type_of W h.ty)) ≡ true
    over-all = instance-over S C W A i t (scheme_at C W s).marks (scheme_at C W s).body (function_type u (type_of W h.ty)) inst

    over-argument : over A.parameters u ≡ true
    over-argument = (and_parts (over A.parameters u) _ over-all).0

    over-result : over A.parameters (type_of W h.ty) ≡ true
    over-result = (and_parts (over A.parameters (type_of W h.ty)) true (and_parts (over A.parameters u) _ over-all).1).0

    by : (o : Option Typ) → f.argument ≡ o → IsBefore W A x u h
    by None g =
        not-function u (type_of W h.ty) y (replace_all (nth_type inst.images) (variables 0 (length (scheme_at C W s).marks)))
        (inst.is ∙ ap (replace (nth_type inst.images)) (f.body ∙ ap (λ o. alone_type o (con (name y) (variables 0 (length (scheme_at C W s).marks)))) g))
    by (Some a) g =
        let both = function-parts u (type_of W h.ty) (replace (nth_type inst.images) a) (con (name y) parts)
        (inst.is ∙ ap (replace (nth_type inst.images)) (f.body ∙ ap (λ o. alone_type o (con (name y) (variables 0 (length (scheme_at C W s).marks)))) g)) in
        record {
          kept = given (record { scheme = scheme_at C W s; status = status.Constructor });
          denotes = constructor n;
          datatype = y;
          parts = parts;
          is_kept = is-kept C W A x (Constructor s n y) t e;
          is_denoted = is-denoted C W A x (Constructor s n y) t e;
          type = both.1;
          elab = λ p.
              subst (λ z. BeforeElab W.table A (given (record { scheme = scheme_at C W s; status = status.Constructor })) (constructor n) p (before z (W.reading.type h.written) p) u (con (name y) parts)) (sym q)
              (subst (λ v. BeforeElab W.table A (given (record { scheme = scheme_at C W s; status = status.Constructor })) (constructor n) p (prog.con_of_pat n v p) u (con (name y) parts)) (sym w)
              (before_constructor n inst.images y parts refl
              (subst (λ v. IsGivenAt A (record { scheme = scheme_at C W s; status = status.Constructor }) inst.images (function_type u v) no_choice) both.1
              (con-given S C W A i d t x s n y e (function_type u (type_of W h.ty)) inst))
              (subst (λ v. HasConstructor W.table n (type_as A.number (con (name y) parts)) (Some (type_as A.number v))) (sym both.0)
              (subst (λ o. HasConstructor W.table n (type_as A.number (con (name y) parts)) (option_map (λ a. type_as A.number (replace (nth_type inst.images) a)) o)) g
              (con-row S C W A i d t x s n y e inst.images inst.count)))
              (over-as A.number A.parameters u ∙ over-argument)));
          names = (instance-names S C W A i t (scheme_at C W s).marks (scheme_at C W s).body (function_type u (type_of W h.ty)) inst f.names).1.1.0;
          parameters = over-result;
        }

ref-before : (S : State) (C : Context) (W : World) (A : Around) → IsContext S C → Comes S W → Tells C W A → (x : LongVid) (s : ℕ)
    → entry_in C x.qualifiers x.vid ≡ Some (Reference s) → (u : Typ) (h : Headed) → h.head ≡ head.Reference → W.reading.type h.written ≡ type_as A.number u
    → IsInstance W (limit_of C) (scheme_at C W s).marks (scheme_at C W s).body (function_type u (type_of W h.ty)) → IsBefore W A x u h
ref-before S C W A i d t x s e u h q w inst =
    let f = t.fit x (Reference s) e in
    let us = inst.images in
    let body : (scheme_at C W s).body ≡ function_type (var 0) (ref_type (var 0)) = ap (λ z. z.body) f in
    let both = function-parts u (type_of W h.ty) (nth_type us 0) (ref_type (nth_type us 0)) (inst.is ∙ ap (replace (nth_type us)) body) in
    let type : type_of W h.ty ≡ ref_type u = both.1 ∙ ap ref_type (sym both.0) in
    let lt : nat_lt 4 C.names ≡ true = let wide = i.wide in lt-ltb 4 C.names (omega (arith, wide)) in
    let names : Over C.names (scheme_at C W s).body = subst (Over C.names) (sym body) (tt, (tt, ((lt, (tt, tt)), tt))) in
    let chosen : Chosen (scheme_at C W s).marks (nth_type us) no_choice = subst (λ z. Chosen z.marks (nth_type us) no_choice) (sym f) refl in
    let over-all = instance-over S C W A i t (scheme_at C W s).marks (scheme_at C W s).body (function_type u (type_of W h.ty)) inst in
    let over-argument = (and_parts (over A.parameters u) _ over-all).0 in
    let is = is_given S C W A i t (scheme_at C W s).marks (scheme_at C W s).body (function_type u (type_of W h.ty)) inst (record { scheme = scheme_at C W s; status = status.Constructor }) no_choice refl refl
    (scheme-closed S C W s i d (i.entries x.qualifiers x.vid (Reference s) e)) names chosen in
    record {
      kept = given (record { scheme = scheme_at C W s; status = status.Constructor });
      denotes = reference;
      datatype = Rattle.ty_basis.specs.Types.ref_name;
      parts = more u none;
      is_kept = is-kept C W A x (Reference s) t e;
      is_denoted = is-denoted C W A x (Reference s) t e;
      type = type;
      elab = λ p.
          subst (λ z. BeforeElab W.table A (given (record { scheme = scheme_at C W s; status = status.Constructor })) reference p (before z (W.reading.type h.written) p) u (ref_type u)) (sym q)
          (subst (λ v. BeforeElab W.table A (given (record { scheme = scheme_at C W s; status = status.Constructor })) reference p (prog.ref_of_pat v p) u (ref_type u)) (sym w)
          (before_reference us refl (subst (λ v. IsGivenAt A (record { scheme = scheme_at C W s; status = status.Constructor }) us (function_type u v) no_choice) type is)
          (over-as A.number A.parameters u ∙ over-argument)));
      names = (instance-names S C W A i t (scheme_at C W s).marks (scheme_at C W s).body (function_type u (type_of W h.ty)) inst names).1.1.0;
      parameters = (and_parts (over A.parameters (type_of W h.ty)) true (and_parts (over A.parameters u) _ over-all).1).0;
    }

exn-before : (S : State) (C : Context) (W : World) (A : Around) → IsContext S C → Tells C W A → (x : LongVid) (n : ℕ) (a : Option ℕ)
    → entry_in C x.qualifiers x.vid ≡ Some (Raised n a) → (u : Typ) (h : Headed) → h.head ≡ head.Exception (tree_exception.Held n) → W.reading.type h.written ≡ type_as A.number u
    → option_map (type_of W) a ≡ Some u → type_of W h.ty ≡ exn_type → IsBefore W A x u h
exn-before S C W A i t x n None e u h q w o v = absurd (cc)
exn-before S C W A i t x n (Some k) e u h q w o v =
    let same : type_of W k ≡ u = cc in
    let f = t.fit x (Raised n (Some k)) e in
    let wide : name_count ≤ A.names = subst (λ k. name_count ≤ k) (sym t.names) i.wide in
    let names = exn-names A.names wide in
    record {
      kept = raised (Some u);
      denotes = exception (held n);
      datatype = exn_name;
      parts = none;
      is_kept = is-kept C W A x (Raised n (Some k)) t e ∙ ap (λ z. Some (raised (Some z))) same;
      is_denoted = is-denoted C W A x (Raised n (Some k)) t e;
      type = v;
      elab = λ p.
          subst (λ z. BeforeElab W.table A (raised (Some u)) (exception (held n)) p (before z (W.reading.type h.written) p) u exn_type) (sym q)
          (subst (λ z. BeforeElab W.table A (raised (Some u)) (exception (held n)) p (prog.exn_of_pat (held n) z p) u exn_type) (sym w)
          (before_exception (held n)
          (held_checked (t.known x (Raised n (Some k)) n (exception_known (Some (type_as A.number (type_of W k)))) e refl ∙ ap (λ z. Some (exception_known (Some (type_as A.number z)))) same))
          (tt, (subst (Over A.names) same f.names, (names, tt)))
          (over-as A.number A.parameters u ∙ subst (λ z. over A.parameters z ≡ true) same f.parameters)));
      names = subst (Over A.names) (sym v) names;
      parameters = ap (over A.parameters) v;
    }

-- what the code makes
pub con_headed : (S M T : State) (C : Context) (place q : Place) (x : LongVid) (s n : ℕ) (y : TyName) (argument : ℕ) (h : Headed) → IsContext S C → entry_in C x.qualifiers x.vid ≡ Some (Constructor s n y)
    → Grows S M → M.next ≡ S.next → Always M (λ W. W.reading.type h.written ≡ type_as (W.naming C.naming) (type_of W argument)) → Grows M T → HasType T h.ty
    → Always T (λ W. IsInstance W (limit_of C) (scheme_at C W s).marks (scheme_at C W s).body (function_type (type_of W argument) (type_of W h.ty))) → T.next ≡ M.next
    → h.head ≡ head.Constructor n → IsHeaded S C (con_pat place q x) argument T h
con_headed S M T C place q x s n y argument h i e g m w g' is inst m' eq = record {
  grows = grows_on S M T g g';
  next = m' ∙ m;
  is = is;
  gives = λ W c A t.
      heads-of W A place q x (type_of W argument) h
      (con-before S C W A i (comes_before S T W (grows_on S M T g g') c) t x s n y e (type_of W argument) h eq
      (as-written C W A h.written (type_of W argument) t (w W (comes_before M T W g' c))) (inst W c));
}

pub ref_headed : (S M T : State) (C : Context) (place q : Place) (x : LongVid) (s argument : ℕ) (h : Headed) → IsContext S C → entry_in C x.qualifiers x.vid ≡ Some (Reference s)
    → Grows S M → M.next ≡ S.next → Always M (λ W. W.reading.type h.written ≡ type_as (W.naming C.naming) (type_of W argument)) → Grows M T → HasType T h.ty
    → Always T (λ W. IsInstance W (limit_of C) (scheme_at C W s).marks (scheme_at C W s).body (function_type (type_of W argument) (type_of W h.ty))) → T.next ≡ M.next
    → h.head ≡ head.Reference → IsHeaded S C (con_pat place q x) argument T h
ref_headed S M T C place q x s argument h i e g m w g' is inst m' eq = record {
  grows = grows_on S M T g g';
  next = m' ∙ m;
  is = is;
  gives = λ W c A t.
      heads-of W A place q x (type_of W argument) h
      (ref-before S C W A i (comes_before S T W (grows_on S M T g g') c) t x s e (type_of W argument) h eq
      (as-written C W A h.written (type_of W argument) t (w W (comes_before M T W g' c))) (inst W c));
}

pub exn_headed : (S M T : State) (C : Context) (place q : Place) (x : LongVid) (n : ℕ) (a : Option ℕ) (argument : ℕ) (h : Headed) → IsContext S C → entry_in C x.qualifiers x.vid ≡ Some (Raised n a)
    → Grows S M → M.next ≡ S.next → Always M (λ W. W.reading.type h.written ≡ type_as (W.naming C.naming) (type_of W argument)) → Grows M T → HasType T h.ty
    → Always T (λ W. type_of W h.ty ≡ exn_type) → Always T (λ W. option_map (type_of W) a ≡ Some (type_of W argument)) → T.next ≡ M.next
    → h.head ≡ head.Exception (tree_exception.Held n) → IsHeaded S C (con_pat place q x) argument T h
exn_headed S M T C place q x n a argument h i e g m w g' is v o m' eq = record {
  grows = grows_on S M T g g';
  next = m' ∙ m;
  is = is;
  gives = λ W c A t.
      heads-of W A place q x (type_of W argument) h
      (exn-before S C W A i t x n a e (type_of W argument) h eq (as-written C W A h.written (type_of W argument) t (w W (comes_before M T W g' c))) (o W c) (v W c));
}

-- a pattern behind what stands before it
pub applied_is : (S M T : State) (C : Context) (source : bare.Pat → bare.Pat) (a : bare.Pat) (before after : List BoundVariable) (inner r : TypedPat) (h : Headed) (boxed : Box Pat Global)
    → r.pat ≡ tree.Before h.head h.written boxed → boxed.value ≡ inner.pat → r.ty ≡ h.ty → IsPat S C a M before after inner → IsHeaded M C source inner.ty T h → IsPat S C (source a) T before after r
applied_is S M T C source a before after inner r h boxed p v e i b = record {
  added = i.added;
  bound = i.bound;
  grows = grows_on S M T i.grows b.grows;
  is = subst (HasType T) (sym e) b.is;
  have = all-later M T b.grows i.added i.have;
  gives = λ W c A t.
      let d = i.gives W (comes_before M T W b.grows c) A t in
      let whole = (b.gives W c A t).heads S.next M.next a (pat_of W.reading inner.pat) i.added d in
      subst (λ z. Elaborates W A S.next (source a) z (type_of W r.ty) i.added T.next)
      (sym (ap (pat_of W.reading) p ∙ pat_of-Before W.reading h.head h.written boxed ∙ ap (λ z. before_tree h.head (W.reading.type h.written) (pat_of W.reading z)) v))
      (subst (λ z. Elaborates W A S.next (source a) (before_tree h.head (W.reading.type h.written) (pat_of W.reading inner.pat)) (type_of W z) i.added T.next) (sym e)
      (subst (Elaborates W A S.next (source a) (before_tree h.head (W.reading.type h.written) (pat_of W.reading inner.pat)) (type_of W h.ty) i.added) (sym b.next) whole));
}

-- the type of what a constructor makes
pub result_is : (I F A U : State) (C : Context) (s made ty function argument : ℕ) → Grows I F → Grows F A → Grows A U
    → Always I (λ W. IsInstance W (limit_of C) (scheme_at C W s).marks (scheme_at C W s).body (type_of W made))
    → Always A (λ W. type_of W function ≡ function_type (type_of W argument) (type_of W ty)) → Always U (λ W. type_of W made ≡ type_of W function)
    → Always U (λ W. IsInstance W (limit_of C) (scheme_at C W s).marks (scheme_at C W s).body (function_type (type_of W argument) (type_of W ty)))
result_is I F A U C s made ty function argument f a u h m e W c =
    let ca = comes_before A U W u c in
    subst (IsInstance W (limit_of C) (scheme_at C W s).marks (scheme_at C W s).body) (e W c ∙ m W ca) (h W (comes_before I A W (grows_on I F A f a) ca))

-- an identifier that is bound
abbrev long-as : List ℕ → Vid → LongVid
long-as qs v = record { qualifiers = qs; vid = v }

pub identifier_is : (S T : State) (C : Context) (place : Place) (x : LongVid) (before after : List BoundVariable) (b : BoundVariable) (r : TypedPat) → x.qualifiers ≡ []
    → IsBound S C x.vid before after b T → r.ty ≡ b.ty → r.pat ≡ tree.Variable b.number → IsPat S C (vid_pat place x) T before after r
identifier_is S T C place x before after b r q h e p =
    subst (λ (y : LongVid). IsPat S C (vid_pat place y) T before after r) (sym (ap (λ (l : List ℕ). long-as l x.vid) q)) (alone_is S T C place x.vid before after b r h e p)

pub binds-short : (C : Context) (qs : List ℕ) (v : Vid) → binds C qs v ≡ true → qs ≡ []
binds-short C [] v e = refl
binds-short C (q ∷ qs) v e = cc

-- what a state has of an identifier that was found
pub entry-held : (S T : State) (C : Context) (x : LongVid) (e f : Entry) → Grows S T → IsContext S C → entry_in C x.qualifiers x.vid ≡ Some e → e ≡ f → IsHeld T C f
entry-held S T C x e f g i h q = subst (IsHeld T C) q ((context_later S T C g i).entries x.qualifiers x.vid e h)

pub entry-is : (C : Context) (x : LongVid) (e f : Entry) → entry_in C x.qualifiers x.vid ≡ Some e → e ≡ f → entry_in C x.qualifiers x.vid ≡ Some f
entry-is C x e f h q = h ∙ ap Some q
