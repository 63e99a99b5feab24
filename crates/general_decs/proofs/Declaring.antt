-- A declaration that generalises: from what holds of its bindings inside to what it brings into scope.
use Rattle.std.proofs.Common.{◌≡◌, ◌⊎◌, inl, inr, ◌<◌, ◌≤◌, ◌+◌, ℕ, Bool, true, false, List, [], ◌∷◌, ◌++◌, map, length, take, slice_get, Some, None, Vec, Global, refl, sym, ap, ap₂, subst, ◌∙◌, arith}
use Rattle.std.specs.Prelude.{option_map}
use Rattle.std.specs.List.{AllByRecursion}
use Rattle.std.specs.Option.{option_or}
use Rattle.std.proofs.lemmas.List.{map-append}
use Rattle.std.specs.Map.{lookup}
use Rattle.mlc_base.specs.declared.place.Place.{Place}
use Rattle.ty_core.specs.Types.{Typ, var}
use Rattle.ty_core.specs.declared.scheme.Quantified.{Quantified}
use Rattle.sml_tree.specs.BareTree as bare
use Rattle.sml_tree.specs.TreeOf.{RuleOf, binds_of}
use Rattle.sml_tree.specs.declared.ident.Tyvar.{Tyvar}
use Rattle.sml_tree.specs.declared.ident.Vid.{Vid}
use Rattle.core_rules.specs.Choices.{Choices, both}
use Rattle.core_rules.specs.Objects.{Map, at}
use Rattle.core_rules.specs.Restrictions.{distinct}
use Rattle.core_rules.specs.Typing.{Bound, bound_in, AreDistinct, mark_of, marks_of, together}
use Rattle.core_rules.specs.Words.{same_vid}
use Rattle.ir_poly.specs.Prog as prog
use Rattle.ir_poly.specs.ProgChecked.{binds_onto, funs_onto}
use Rattle.ir_poly.specs.TestsChecked.{Known, Knowns, declared, own}
use Rattle.ir_poly.specs.Types.{are_new, in_scope}
use Rattle.ir_tables.specs.Tables.{parameters_of}
use Rattle.core_elab.specs.Scopes.{Scope, denotes_in, empty, inside_in, plus_scope, typed_in, variable}
use Rattle.prog_tree.specs.TreeOf.{RuleTree, bind_of, binds_by, dec_of, decs_of, fun_of, funs_by}
use Rattle.prog_tree.specs.declared.tree.Binding.{Binding}
use Rattle.prog_tree.specs.declared.tree.Dec.{Dec}
use Rattle.prog_tree.specs.declared.tree.Dec.TheVariants as decs
use Rattle.prog_tree.specs.declared.tree.Function.{Function}
use Rattle.prog_tree.specs.declared.tree.Rule.{Rule}
use Rattle.prog_tree.proofs.ExpOf.{dec_of-Val}
use Rattle.elab_typed.specs.Contexts.{Around, generals, generic, kept_values, with_bound}
use Rattle.elab_typed.specs.Elaborates.{BindsElab, DecElab, FunsElab, inner, scoped_as, val_elab}
use Rattle.elab_state.specs.States.{all_parameters, dead_level, general_in, made}
use Rattle.elab_state.specs.Generalising.{inside}
use Rattle.elab_state.specs.declared.state.State.{State}
use Rattle.elab_steps.specs.Growing.{Grows}
use Rattle.elab_steps.specs.World.{World, type_of, Comes}
use Rattle.elab_steps.proofs.Changing.{begins-same}
use Rattle.elab_steps.proofs.Growing.{grows_on, comes_before}
use Rattle.elab_context.specs.Numbered.{IsBelowIf, IsNumbered}
use Rattle.elab_context.specs.Telling.{IsFit, IsInUse, Tells}
use Rattle.elab_context.specs.declared.context.Context.{Context}
use Rattle.elab_context.specs.declared.entry.Entry.{Entry}
use Rattle.elab_context.specs.declared.entry.Entry.TheVariants.{Constructor, Reference, Initial, Primitive, Raised, Single, Own, General}
use Rattle.elab_context.proofs.Contents.{has_constructors_still}
use Rattle.elab_context.proofs.Reading.{numbered_later}
use Rattle.rec_groups.specs.of_pat_elab.Elaborated.{AreVariables, bound_of, scope_of}
use Rattle.rec_groups.specs.of_pat_elab.declared.bound.BoundVariable.{BoundVariable}
use Rattle.rec_groups.proofs.of_pat_elab.Forms.{onto-plus}
use Rattle.rec_groups.specs.of_exp_forms.Rules.{vids_of}
use Rattle.rec_groups.proofs.of_exp_forms.JoiningRules.{vids-bound}
use Rattle.rec_groups.proofs.of_exp_forms.Within.{denotes-of, inside-onto, latest}
use Rattle.general_vals.specs.of_general_worlds.Inner.{ComesInside, IsInside, deeper, inner_world}
use Rattle.elab_steps.specs.Tidy.{IsTidy}
use Rattle.general_vals.specs.of_general_worlds.Tidy.{Ends}
use Rattle.general_vals.proofs.of_general_worlds.Declaring.{declaration-grows}
use Rattle.general_vals.proofs.of_general_worlds.Telling.{tells-inside}
use Rattle.general_vals.proofs.of_general_worlds.Worlds.{comes-inside}
use Rattle.general_vals.proofs.of_general_worlds.Scoping.{last-general}
use Rattle.rec_groups.specs.of_dec_forms.Binds.{all_plus}
use Rattle.rec_groups.specs.of_dec_forms.Bringing.{Brings, Effect, EffectUpTo, IsBringing}
use Rattle.rec_groups.specs.of_dec_forms.Telling.{with_all}
use Rattle.rec_groups.specs.of_dec_forms.declared.brought.Brought.{Brought}
use Rattle.rec_groups.proofs.of_dec_forms.JoiningBinds.{bind_choices}
use Rattle.rec_groups.proofs.of_dec_forms.Knowing.{untyped-bound}
use Rattle.rec_groups.proofs.of_dec_forms.Plain.{numbered_values, values_add, values_bring, values_effect}
use Rattle.general_decs.specs.Entries.{AreShown, has_some}
use Rattle.rec_groups.specs.Functions.{ElaborateFunctions}
use Rattle.rec_groups.specs.Heads.{falling, rising, with_own}
use Rattle.general_decs.specs.Whole.{IsDeclared}
use Rattle.general_decs.specs.Inside.{AllFlagged, ElaboratesInside, IsUsedAs, Keeps, flags_of, inside_of, marked_as}
use Rattle.general_decs.specs.Scoped.{CameIntoScope, IsBegun, ScopesThese, tyvar_parameters}
use Rattle.general_decs.proofs.Functions.{declared-grows, declared-have, fun_choices, functions-do, head_bounds, latest-rising, ready, reserved-used, tells-group, together-heads}
use Rattle.general_decs.proofs.Groups.{AreKnownAs, KnownUpTo, all-plus-bound, distinct-left, distinct-right, flagged-as, flagged-both, inside-do, inside-known, onto-append, together-bound, with-functions}
use Rattle.general_decs.proofs.Opening.{marks-tell, rest-general, scopes-tell, tyvars-keep, tyvars-tell}
use Rattle.general_decs.proofs.Shown.{further-shown}
use Rattle.general_decs.proofs.Together.{AreOwn, group-known, group-to, program_funs}

append-nil : {A : Type 0} (xs : List A) → xs ++ [] ≡ xs
append-nil [] = refl
append-nil (x ∷ xs) = ap (λ l. x ∷ l) (append-nil xs)

-- inside, a context tells outside of what is around too
module _ (C : Context) (W : World) (A : Around) (qs : List Quantified) (h : IsInside W C.level qs) where
  same-here : inside W.parameters C.level qs C.level ≡ W.parameters C.level
  same-here = ap (λ b. Rattle.std.proofs.Common.cond b (qs ++ W.parameters C.level) (W.parameters C.level)) (not-below C.level)
    where
      not-below : (n : ℕ) → Rattle.std.proofs.Common.nat_lt n n ≡ false
      not-below n = Rattle.std.proofs.lemmas.Bool.le-ltb n n (omega arith)

  fit-beside : (e : Entry) → IsFit C W A e → IsFit C (inner_world W C.level qs h) A e
  fit-beside (Constructor k n y) f = record { argument = f.argument; general = f.general; body = f.body; names = f.names; row = f.row }
  fit-beside (Reference k) f = f
  fit-beside (Initial k n) f = f
  fit-beside (Primitive k q) f = record { body = f.body; marks = f.marks }
  fit-beside (Raised n None) f = tt
  fit-beside (Raised n (Some k)) f = f
  fit-beside (Single t n) f = f
  fit-beside (Own t n) f = f
  fit-beside (General l t n o) f = record { marks = f.marks; names = f.names; body = f.body; parts = f.parts; none = f.none }

  tells-beside : Tells C W A → Tells C (inner_world W C.level qs h) A
  tells-beside t = record {
    names = t.names;
    number = t.number;
    numbers = t.numbers;
    initial = t.initial;
    built = t.built;
    parameters = t.parameters ∙ sym same-here;
    values = t.values;
    denotes = t.denotes;
    fit = λ x e f. fit-beside e (t.fit x e f);
    known = t.known;
    tyvars = t.tyvars;
    types = t.types;
    constructors = λ x e f.
        let o = lookup (Rattle.std.proofs.Common.nat_eq x) A.env.types in
        has_constructors_still C C W (inner_world W C.level qs h) A A e o o (typed_in A.scope x) (typed_in A.scope x) (begins-same C.schemes.items C.schemes.items refl)
        (λ d g. refl) (λ d g. fit-beside d g) refl refl (t.constructors x e f);
    structures = t.structures;
    over = t.over;
  }

-- its variables have numbers below the next
pub below-shown : (k : ℕ) (S N T : State) (l list : ℕ) (some : Bool) (bs : List BoundVariable) (fs : List Bool) (es : List (Vid × Entry)) → N.next ≤ k → AreVariables N bs
    → AreShown S T l list some bs fs es → AllByRecursion (λ (e : Vid × Entry). IsBelowIf k e.1) es
below-shown k S N T l list some [] [] [] le v h = tt
below-shown k S N T l list some [] [] (e ∷ es) le v h = absurd h
below-shown k S N T l list some [] (f ∷ fs) es le v h = absurd h
below-shown k S N T l list some (b ∷ bs) [] es le v h = absurd h
below-shown k S N T l list some (b ∷ bs) (f ∷ fs) [] le v h = absurd h
below-shown k S N T l list some (b ∷ bs) (f ∷ fs) (e ∷ es) le v h = (
  subst (IsBelowIf k) (sym h.0.is) (λ n q. let same : b.number ≡ n = cc in let lt = v.0.below in omega (arith, same, lt, le)),
  below-shown k S N T l list some bs fs es le v.1 h.1,
)

module _ (S M N E T : State) (C D : Context) (p q : Place) (as_ scoped : List Tyvar) (rs gs : List RuleOf) (bs : List BoundVariable) (fs : List Bool) (es : List (Vid × Entry))
    (binds : List (Binding × Rule)) (funs : List (Vec ℕ Global × ℕ × Function)) (qs rest : List Quantified) (list : ℕ) (deep : C.level < dead_level) (low-inside : D.level < dead_level)
    (begun : IsBegun S C scoped M D) (h : IsDeclared M C D.types rs gs N bs fs binds funs) (ends : Ends C.level qs N E) (before-tidy : IsTidy S C.level) (tidy : IsTidy E C.level)
    (first : qs ≡ tyvar_parameters (made S) scoped ++ rest) (found : slice_get (parameters_of E.tables) list ≡ Some qs) (scopes : ScopesThese C as_ (binds_of rs) (binds_of gs) scoped)
    (once : distinct same_vid (vids_of bs) ≡ true) (et : Grows E T) (shown : AreShown E T C.level list (has_some qs) bs fs es) where
  abbrev source : bare.Dec
  source = bare.val_dec p q as_ (binds_of rs) (binds_of gs)

  mn : Grows M N
  mn = declared-grows M N C D.types rs gs bs fs binds funs h

  grows : Grows S T
  grows = grows_on S E T (declaration-grows C.level qs S begun.entered N E begun.enters (grows_on begun.entered M N begun.grows mn) ends before-tidy tidy) et

  low : (i : ℕ) → i ≤ S.next → i ≤ M.next
  low i le = let a = begun.next in omega (arith, a, le)

  self : M.next ≤ M.next
  self = omega arith

  have : AreVariables N bs
  have = declared-have M N C D.types rs gs bs fs binds funs h

  -- the same identifiers are in scope inside
  numbered-inside : {k : ℕ} → IsNumbered k C → IsNumbered k (deeper C D.types)
  numbered-inside n [] x e f = n [] x e f
  numbered-inside n (q ∷ []) x e f = n (q ∷ []) x e f
  numbered-inside n (q ∷ r ∷ qs) x e f = n (q ∷ r ∷ qs) x e f

  general : (v : ℕ) → in_scope qs v ≡ true → in_scope (general_in E) v ≡ true
  general v i =
      subst (λ ps. in_scope (all_parameters ps) v ≡ true) (sym ends.lists) (last-general (parameters_of N.tables) qs v i)

  module _ (W : World) (c : Comes T W) (A : Around) (t : Tells C W A) (n : IsNumbered S.next C) where
    before : Comes E W
    before = comes_before E T W et c

    inner-comes : ComesInside N W C.level qs
    inner-comes = comes-inside C.level qs N E ends W before

    abbrev V : World
    V = inner_world W C.level qs inner-comes.inside

    came : CameIntoScope V (made S) scoped C.types.tyvars D.types.tyvars
    came = begun.tyvars V (comes_before M N V mn inner-comes.comes)

    itself : (x : ℕ) → in_scope (tyvar_parameters (made S) scoped) x ≡ true → V.value x ≡ var x
    itself x i =
        before.itself x
        (general x (subst (λ ps. in_scope ps x ≡ true) (sym first) (Rattle.elab_state.proofs.Generalising.scope-front (tyvar_parameters (made S) scoped) rest x i)))

    abbrev tyvars : Map ℕ Typ
    tyvars = scoped_as scoped qs ++ A.tyvars

    abbrev B : Around
    B = inside_of A tyvars qs

    keeps : Keeps A.tyvars tyvars
    keeps = tyvars-keep V (made S) scoped C.types.tyvars D.types.tyvars qs A.tyvars came t.tyvars

    tyvars-are : (a : ℕ) → at Rattle.std.proofs.Common.nat_eq tyvars a ≡ option_map (type_of W) (lookup (Rattle.std.proofs.Common.nat_eq a) D.types.tyvars)
    tyvars-are a =
        ap (λ ps. at Rattle.std.proofs.Common.nat_eq (scoped_as scoped ps ++ A.tyvars) a) first
        ∙ tyvars-tell V (made S) scoped C.types.tyvars D.types.tyvars rest A.tyvars came itself t.tyvars a

    are-scoped : Rattle.core_rules.specs.Typing.scoped_in (generic A) as_ (binds_of rs) (binds_of gs) ≡ scoped
    are-scoped = scopes-tell C W A as_ (binds_of rs) (binds_of gs) scoped t scopes

    inner-is : inner A as_ (binds_of rs) (binds_of gs) qs ≡ B
    inner-is = ap (λ z. inside_of A (scoped_as z qs ++ A.tyvars) qs) are-scoped

    tells-there : Tells (deeper C D.types) V B
    tells-there =
        subst (Tells (deeper C D.types) V) inner-is
        (tells-inside C D.types W A qs inner-comes.inside as_ (binds_of rs) (binds_of gs) begun.types
        (λ a. ap (λ z. at Rattle.std.proofs.Common.nat_eq (scoped_as z qs ++ A.tyvars) a) are-scoped ∙ tyvars-are a) t)

    -- what was said comes true at each state inside
    there-between : Comes h.between V
    there-between = comes_before h.between N V h.functions.grows inner-comes.comes

    there-behind : Comes h.behind V
    there-behind = comes_before h.behind h.between V h.inside.grows there-between

    elab : ElaboratesInside V A B h.behind.next rs (map (bind_of W.reading) binds) h.variables h.marks h.between.next
    elab = h.inside.gives V there-between A (tells-beside C W A qs inner-comes.inside t) tyvars qs keeps tells-there

    -- the functions

    abbrev outer : Context
    outer = deeper C D.types

    abbrev group : Context
    group = with_own outer h.heads

    outer-deep : outer.level < dead_level
    outer-deep = subst (λ (k : Context). k.level < dead_level) begun.deep low-inside

    abbrev FS : prog.Funs
    FS = program_funs W.reading funs

    abbrev own-known : Knowns
    own-known = funs_onto own FS A.known

    abbrev functions-known : Knowns
    functions-known = funs_onto (declared qs) FS A.known

    once-bound : distinct same_vid (vids_of h.variables ++ vids_of (falling h.heads)) ≡ true
    once-bound =
        ap (distinct same_vid) (sym (map-append (λ (b : BoundVariable). b.vid) h.variables (falling h.heads)) ∙ ap vids_of (sym h.together)) ∙ once

    once-variables : distinct same_vid (vids_of h.variables) ≡ true
    once-variables = distinct-left (vids_of h.variables) (vids_of (falling h.heads)) once-bound

    once-heads : distinct same_vid (vids_of (falling h.heads)) ≡ true
    once-heads = distinct-right (vids_of h.variables) (vids_of (falling h.heads)) once-bound

    used-heads : AllByRecursion (λ b. IsInUse B (type_of W b.ty)) (falling h.heads)
    used-heads = reserved-used V outer B tells-there outer-deep h.reserved there-behind

    known-in : (f : Typ → Known) (i : ℕ) (le : i ≤ M.next)
        → AreOwn (type_of W) A.number i (group-to W.reading outer group N gs funs h.heads h.reserved h.functions.written i le).next f A.known (funs_onto f FS A.known) (falling h.heads)
    known-in f i le =
        subst (λ z. AreOwn (type_of W) z i (group-to W.reading outer group N gs funs h.heads h.reserved h.functions.written i le).next f A.known (funs_onto f FS A.known) (falling h.heads)) (sym t.number)
        (group-known V outer group N inner-comes.comes f A.known gs funs h.heads h.reserved h.functions.written i le)

    numbered-there : IsNumbered M.next outer
    numbered-there = subst (λ k. IsNumbered k outer) (sym begun.next) (numbered-inside n)

    abbrev F : Around
    F = with_bound B (bound_of W (falling h.heads)) (scope_of (rising h.heads)) own-known

    tells-group-there : Tells group V F
    tells-group-there =
        let k = known-in own M.next self in
        tells-group V outer B tells-there outer-deep h.heads own-known M.next (group-to W.reading outer group N gs funs h.heads h.reserved h.functions.written M.next self).next once-heads used-heads
        k.marked k.older numbered-there

    functions : ElaborateFunctions V F h.between.next gs (map (fun_of W.reading) funs) h.heads
    functions = h.functions.gives V inner-comes.comes F tells-group-there

    abbrev ys : prog.Binds
    ys = binds_by W.reading.type (map (bind_of W.reading) binds)

    abbrev G : Knowns
    G = binds_onto qs ys functions-known

    abbrev cs : Choices
    cs = both (bind_choices (generic A).env rs elab.choices) (fun_choices functions.choices)

    abbrev scope : Scope
    scope = plus_scope (scope_of h.variables) (scope_of (rising h.heads))

    abbrev whole-effect : Effect
    whole-effect = values_effect A (generals qs (bound_of W bs)) scope G

    abbrev tree : prog.Decs
    tree = prog.val_dec qs ys FS prog.no_decs

    dec-made : (i : ℕ) → i ≤ S.next → EffectUpTo W.table A i source tree whole-effect cs T.next
    dec-made i le =
        let g = group-to W.reading outer group N gs funs h.heads h.reserved h.functions.written i (low i le) in
        let f = elab.elab i g.next (let a = g.least in let b = g.most in omega (arith, a, b)) g.most in
        let vs = map (bound_of V) elab.groups in
        let us = head_bounds V h.heads in
        let r = all_plus (map scope_of elab.groups) in
        let b = bind_choices (generic A).env rs elab.choices in
        let d = fun_choices functions.choices in
        let Z = inner A as_ (binds_of rs) (binds_of gs) qs in
        let all : together vs ++ together us ≡ bound_of W bs =
        ap₂ (λ x y. x ++ y) (together-bound V elab.groups ∙ ap (bound_of W) elab.bound) (together-heads V h.heads)
        ∙ sym (map-append (λ (b : BoundVariable). (b.vid, type_of W b.ty)) h.variables (falling h.heads)) ∙ ap (bound_of W) (sym h.together) in
        let scope-is : r ≡ scope_of h.variables = all-plus-bound elab.groups ∙ ap scope_of elab.bound in
        let binds-made : BindsElab W.table A Z i g.next (binds_of rs) ys vs b r f.next =
        subst (λ Y. BindsElab W.table A Y i g.next (binds_of rs) ys vs b r f.next) (sym inner-is) (inside-do V A B i f.elab) in
        let upto : g.next ≤ h.between.next = let x = g.most in let y = h.inside.grows.next in omega (arith, x, y) in
        let funs-inside : FunsElab W.table F g.next (binds_of gs) FS us d =
        functions-do V F g.next (functions.elab g.next upto) (ready V outer F h.heads tells-group-there N gs funs h.reserved h.functions.written inner-comes.comes there-behind) in
        let funs-made : FunsElab W.table (with_bound Z (together us) (scope_of (rising h.heads)) own-known) g.next (binds_of gs) FS us d =
        subst (λ Y. FunsElab W.table (with_bound Y (together us) (scope_of (rising h.heads)) own-known) g.next (binds_of gs) FS us d) (sym inner-is)
        (subst (λ l. FunsElab W.table (with_bound B l (scope_of (rising h.heads)) own-known) g.next (binds_of gs) FS us d) (sym (together-heads V h.heads)) funs-inside) in
        let marks : map (λ (q : Quantified). q.mark) qs ≡ marks_of (generic A) as_ (binds_of rs) (binds_of gs) (map (λ (q : Quantified). q.mark) rest) =
        ap (map (λ (q : Quantified). q.mark)) first ∙ marks-tell (made S) scoped rest ∙ ap (λ z. map mark_of z ++ map (λ (q : Quantified). q.mark) rest) (sym are-scoped) in
        let new : are_new qs A.parameters ≡ true = subst (λ ps. are_new qs ps ≡ true) (sym t.parameters) inner-comes.inside.new in
        let distinct-all : AreDistinct (bound_in (together vs ++ together us)) = ap (λ l. distinct same_vid (bound_in l)) all ∙ ap (distinct same_vid) (vids-bound W bs) ∙ once in
        let made : DecElab W.table A i source tree 0 A.number (kept_values (generals qs (together vs ++ together us))) (plus_scope r (scope_of (rising h.heads))) G (both b d) f.next =
        val_elab p q qs (map (λ (q : Quantified). q.mark) rest) new t.over marks
        (rest-general (made S) scoped rest [] (subst (λ ps. are_new ps [] ≡ true) first ends.generalises.declarable)) distinct-all g.to funs-made binds-made in
        record {
          next = f.next;
          most = let a = f.most in let x = h.functions.grows.next in let b = ends.next in let d = et.next in omega (arith, a, x, b, d);
          elab =
              subst (λ s. DecElab W.table A i source tree 0 A.number (kept_values (generals qs (bound_of W bs))) (plus_scope s (scope_of (rising h.heads))) G cs f.next) scope-is
              (subst (λ l. DecElab W.table A i source tree 0 A.number (kept_values (generals qs l)) (plus_scope r (scope_of (rising h.heads))) G cs f.next) all made);
        }

    are-known : (i : ℕ) → i ≤ S.next → KnownUpTo (type_of W) A.number qs i A.known G bs fs
    are-known i le =
        let g = group-to W.reading outer group N gs funs h.heads h.reserved h.functions.written i (low i le) in
        let f = elab.elab i g.next (let a = g.least in let b = g.most in omega (arith, a, b)) g.most in
        let xs = map (bind_of W.reading) binds in
        let o = known-in (declared qs) i (low i le) in
        let k : AreKnownAs (type_of W) A.number qs g.next f.next functions-known G h.variables h.marks =
        subst (λ l. AreKnownAs (type_of W) A.number qs g.next f.next functions-known G h.variables l) elab.flags
        (subst (λ l. AreKnownAs (type_of W) A.number qs g.next f.next functions-known G l (flags_of xs elab.groups)) elab.bound
        (inside-known V A tyvars qs i f.elab (ap (λ l. distinct same_vid (vids_of l)) elab.bound ∙ once-variables) functions-known)) in
        record {
          next = f.next;
          known =
              subst (λ l. AreKnownAs (type_of W) A.number qs i f.next A.known G l fs) (sym h.together)
              (subst (λ l. AreKnownAs (type_of W) A.number qs i f.next A.known G (h.variables ++ falling h.heads) l) (sym h.flagged)
              (with-functions (type_of W) A.number qs i g.next f.next A.known functions-known G h.variables (falling h.heads) h.marks g.least k o.older o.marked));
        }

    list-is : W.reading.parameters list ≡ qs
    list-is = before.lists list qs found

    all-used-as : AllFlagged (IsUsedAs W A B) bs fs
    all-used-as =
        subst (λ l. AllFlagged (IsUsedAs W A B) l fs) (sym h.together)
        (subst (AllFlagged (IsUsedAs W A B) (h.variables ++ falling h.heads)) (sym h.flagged)
        (flagged-both (IsUsedAs W A B) h.variables (falling h.heads) h.marks (marked_as true (falling h.heads)) elab.used (flagged-as (IsUsedAs W A B) true (falling h.heads) used-heads)))

    scope-of-all : scope ≡ scope_of (h.variables ++ rising h.heads)
    scope-of-all = sym (onto-plus (scope_of h.variables) (rising h.heads)) ∙ sym (onto-append empty h.variables (rising h.heads))

    scope-denotes : (s : Scope) (x : Vid) → denotes_in (plus_scope s scope) x ≡ option_or (option_map (λ b. variable b.number) (latest bs x)) (denotes_in s x)
    scope-denotes s x =
        let l = h.variables ++ rising h.heads in
        ap (λ z. denotes_in (plus_scope s z) x) scope-of-all ∙ ap (λ z. denotes_in z x) (sym (onto-plus s l)) ∙ denotes-of s l x
        ∙ ap (λ o. option_or (option_map (λ (b : BoundVariable). variable b.number) o) (denotes_in s x)) (latest-rising h.variables h.heads x once-heads ∙ ap (λ l. latest l x) (sym h.together))

    scope-alone : (s : Scope) (q : ℕ) → inside_in (plus_scope s scope) q ≡ inside_in s q
    scope-alone s q =
        let l = h.variables ++ rising h.heads in
        ap (λ z. inside_in (plus_scope s z) q) scope-of-all ∙ ap (λ z. inside_in z q) (sym (onto-plus s l)) ∙ inside-onto s l q

    scope-untyped : (s : Scope) (x : ℕ) → typed_in (plus_scope s scope) x ≡ typed_in s x
    scope-untyped s x = ap (λ z. typed_in (plus_scope s z) x) scope-of-all ∙ untyped-bound s (h.variables ++ rising h.heads) x

    brings : Brings (with_all C es) W A S.next es [] whole-effect
    brings =
        let k = are-known S.next (omega arith) in
        values_bring C W A S.next es (generals qs (bound_of W bs)) scope G t
        (further-shown C W A E T qs tyvars list t c deep ends.generalises.declarable N ends general list-is S.next k.next G scope bs fs es scope-denotes scope-alone scope-untyped have shown all-used-as once k.known n)
        k.known.older

  module _ (parts : Vec (Binding × Rule) Global) (written : Vec (Vec ℕ Global × ℕ × Function) Global) (dec : Dec) (is : parts.items ≡ binds) (are : written.items ≡ funs)
      (made : dec ≡ decs.Val list parts written) where
    tree-is : (W : World) → Comes T W → decs_of (map (dec_of W.reading) (dec ∷ []))
        ≡ prog.val_dec qs (binds_by W.reading.type (map (bind_of W.reading) binds)) (program_funs W.reading funs) prog.no_decs
    tree-is W c =
        let R = W.reading in
        ap (λ z. decs_of (z ∷ []))
        (ap (dec_of R) made ∙ dec_of-Val R list parts written
        ∙ ap₂ (λ (ps : List Quantified) (fs : List (Vec ℕ Global × ℕ × Function)). Rattle.prog_tree.specs.TreeOf.val_tree ps (binds_by R.type (map (bind_of R) parts.items)) (funs_by R.type (map (fun_of R) fs)))
        ((comes_before E T W et c).lists list qs found) are
        ∙ ap (λ l. Rattle.prog_tree.specs.TreeOf.val_tree qs (binds_by R.type (map (bind_of R) l)) (program_funs R funs)) is)

    pub general_brings : (F : Context) (old new : Brought) → F ≡ with_all C es → new.values.items ≡ old.values.items ++ es → new.types.items ≡ old.types.items
        → IsBringing S C source T F (dec ∷ []) old new
    general_brings F old new q ev et' = record {
      values = es;
      types = [];
      all_values = ev;
      all_types = et' ∙ sym (append-nil old.types.items);
      adds = values_add C F es q;
      grows = grows;
      numbered = λ n.
          numbered_values T.next C F es (numbered_later S.next T.next C grows.next n)
          (below-shown T.next E N T C.level list (has_some qs) bs fs es (let a = ends.next in let b = et.next in omega (arith, a, b)) have shown) q;
      gives = λ n W c A t. record {
        effect = whole-effect W c A t n;
        choices = cs W c A t n;
        elab = λ i le. subst (λ z. EffectUpTo W.table A i source z (whole-effect W c A t n) (cs W c A t n) T.next) (sym (tree-is W c)) (dec-made W c A t n i le);
        brings = subst (λ F. Brings F W A S.next es [] (whole-effect W c A t n)) (sym q) (brings W c A t n);
      };
    }
