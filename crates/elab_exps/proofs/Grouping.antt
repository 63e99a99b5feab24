-- Functions inside their group, one after the other, and the declaration of them.
use Rattle.std.proofs.Common.{◌≡◌, ◌<◌, ◌≤◌, ◌+◌, ℕ, suc, Bool, true, List, [], ◌∷◌, ◌++◌, map, take, length, get_or, Vec, Global, refl, sym, ap, ap₂, subst, ◌∙◌, arith}
use Rattle.std.specs.Prelude.{reverse}
use Rattle.std.proofs.lemmas.List.{append_assoc, length-append, length-map, length-reverse, map-append}
use Rattle.std.proofs.Math.Seq.{take-suc}
use Rattle.mlc_base.specs.declared.place.Place.{Place}
use Rattle.sml_tree.specs.BareTree as bare
use Rattle.sml_tree.specs.Derived.{Clause, first_pats, fresh_for, fun_of, one_or_tuple}
use Rattle.sml_tree.specs.Derived as derived
use Rattle.sml_tree.specs.TreeOf.{RuleOf, bind_of, binds_of, clause_of, dec_of, exp_of, function_of, pat_of, rule_of, rules_of}
use Rattle.sml_tree.specs.declared.ident.Tyvar.{Tyvar}
use Rattle.sml_tree.specs.declared.tree.Bind.{Bind}
use Rattle.sml_tree.specs.declared.tree.Clause.{Clause as SourceClause}
use Rattle.sml_tree.specs.declared.tree.Dec.{Dec as SourceDec}
use Rattle.sml_tree.specs.declared.tree.Dec.TheVariants as node
use Rattle.sml_tree.specs.declared.tree.Exp.{Exp}
use Rattle.sml_tree.specs.declared.tree.Exp.TheVariants as exps
use Rattle.sml_tree.specs.declared.tree.Function.{Function, out-Function}
use Rattle.sml_tree.specs.declared.tree.Rule.{Rule}
use Rattle.sml_tree.specs.declared.tree.TyvarSeq.{TyvarSeq}
use Rattle.core_rules.specs.Scoping.{scoped_at}
use Rattle.prog_tree.specs.declared.tree.Dec.{Dec}
use Rattle.prog_tree.specs.declared.tree.Function.{Function as ProgramFunction}
use Rattle.prog_tree.specs.declared.tree.Parameter.{Parameter}
use Rattle.elab_types.proofs.Lists.{all-map, next-map-at}
use Rattle.elab_state.specs.States.{made as made_in}
use Rattle.elab_state.specs.declared.state.State.{State}
use Rattle.elab_steps.specs.Growing.{AreTypes, Grows}
use Rattle.elab_steps.proofs.Growing.{grows_on, type_later}
use Rattle.elab_context.specs.Telling.{IsContext}
use Rattle.elab_context.specs.declared.context.Context.{Context}
use Rattle.pat_elab.specs.declared.bound.BoundVariable.{BoundVariable}
use Rattle.use_elab.specs.Elaborated.{IsExp}
use Rattle.use_elab.specs.declared.typed.TypedExp.{TypedExp}
use Rattle.scope_decs.specs.of_exp_forms.Clauses.{body_of, fresh_from}
use Rattle.scope_decs.specs.of_exp_forms.Functions.{IsFunction}
use Rattle.scope_decs.specs.of_exp_forms.Functions as curried
use Rattle.scope_decs.specs.of_exp_forms.Parameters.{AreEntered, Takes}
use Rattle.scope_decs.specs.of_exp_forms.Rules.{AreRules}
use Rattle.scope_decs.specs.of_exp_forms.declared.functions_made.Entered.{Entered}
use Rattle.scope_decs.specs.of_exp_forms.declared.functions_made.FunctionMade.{FunctionMade}
use Rattle.scope_decs.specs.of_exp_forms.declared.rules_made.RulesMade.{RulesMade}
use Rattle.scope_decs.proofs.of_exp_forms.Clausing.{fun-is, fun-rules}
use Rattle.scope_decs.proofs.of_exp_forms.EnteringFunctions.{entered-grows, entered-types}
use Rattle.scope_decs.proofs.of_exp_forms.Nodes.{bind-is, source-Fn, source-Val}
use Rattle.scope_decs.specs.of_dec_forms.Bringing.{IsBringing}
use Rattle.scope_decs.specs.of_dec_forms.declared.brought.Brought.{Brought}
use Rattle.general_decs.specs.of_rec_groups.Functions.{AreFunctions}
use Rattle.general_decs.specs.of_rec_groups.Heads.{AreReserved, IsAnnotatedHead, falling, with_own}
use Rattle.general_decs.specs.of_rec_groups.declared.head.Head.{Head}
use Rattle.general_decs.proofs.of_rec_groups.Adding.{no_functions}
use Rattle.general_decs.proofs.of_rec_groups.Annotating.{vid_annotated}
use Rattle.general_decs.specs.Inside.{AreInside, marked_as}
use Rattle.general_decs.specs.Scoped.{IsBegun, ScopesThese}
use Rattle.general_decs.specs.Whole.{IsDeclared}
use Rattle.general_decs.specs.declared.begin.Begun.{Begun}
use Rattle.general_decs.proofs.Functions.{declared-grows, declared-have, reserved-grows}
use Rattle.general_decs.proofs.Stepping.{outside_is}
use Rattle.elab_exps.specs.Decs.{StandsIn}
use Rattle.elab_exps.specs.Groups.{AreMembers, HasVariables, IsFilled, IsMember, IsReady, clause_rule, function_bind}
use Rattle.elab_exps.specs.Inside.{AreBound}
use Rattle.elab_exps.specs.declared.inside.Inside.{Inside}
use Rattle.elab_exps.proofs.Binding.{begun_stands, first_made, first_outer}
use Rattle.elab_exps.proofs.Declaring.{stands_brought}
use Rattle.elab_exps.proofs.Loops.{stands_on}
use Rattle.elab_exps.proofs.Sources.{binds-of-functions, function-exp, function-pat, rules-of-clauses, source-Fun}

abbrev Funs : Type 0
Funs = List (Vec ℕ Global × ℕ × ProgramFunction)

-- a function of `val rec`

pub rec_member : (S M N T : State) (C D : Context) (b : Bind) (e : Exp) (q : Place) (vs : Vec Rule Global) (rs : List Rule) (ty : ℕ) (made : RulesMade) (member : FunctionMade) → e ≡ b.exp
    → e ≡ exps.Fn q vs → rs ≡ vs.items → IsAnnotatedHead S C (pat_of b.pat) ty M → D ≡ C → AreRules M C (map rule_of rs) N made
    → ((S : State) (rs : List RuleOf) → AreRules S D rs N made → IsFunction S D (rules_of rs) T member) → IsMember S C (bind_of b) ty T member
rec_member S M N T C D b e q vs rs ty made member eb is ers head same h by_rules =
    subst (λ r. IsMember S C r ty T member) (sym (bind-is b)) (record {
      middle = M;
      head = head;
      at = q;
      rules = rules_of (map rule_of rs);
      is = ap exp_of (sym eb ∙ is) ∙ source-Fn q vs ∙ ap (λ (l : List Rule). bare.fn q (rules_of (map rule_of l))) (sym ers);
      function = subst (λ E. IsFunction M E (rules_of (map rule_of rs)) T member) same (by_rules M (map rule_of rs) (subst (λ E. AreRules M E (map rule_of rs) N made) (sym same) h));
    })

-- a function of `fun`

pub clausal_body : (M N T : State) (D : Context) (p : Place) (cs : List SourceClause) (n : ℕ) (operand body : TypedExp) → n ≡ length (first_pats (map clause_of cs))
    → ((as_ : List bare.Pat) → length as_ ≡ n → IsExp M D (one_or_tuple p (fresh_for p 1 as_)) N operand)
    → ((S : State) (p q : Place) (e : bare.Exp) → IsExp S D e N operand → IsExp S D (bare.app p (bare.fn q (rules_of (map clause_rule cs))) e) T body)
    → IsExp M D (body_of p (map clause_of cs)) T body
clausal_body M N T D p cs n operand body e taken clauses =
    let on = one_or_tuple p (fresh_for p 1 (first_pats (map clause_of cs))) in
    subst (λ rs. IsExp M D (bare.app p (bare.fn p rs) on) T body) (sym (rules-of-clauses cs)) (clauses M p p on (taken (first_pats (map clause_of cs)) (sym e)))

pub clausal_member : (S M N T : State) (C D : Context) (g : Function) (cs : List SourceClause) (n ty : ℕ) (entered : Entered) (body : TypedExp) (member : FunctionMade) → cs ≡ (out-Function g).clauses.items
    → 0 < n → n ≡ length (first_pats (map clause_of cs)) → AreEntered S C (fresh_from (out-Function g).place 1 n) M D (entered.before.items ++ entered.last ∷ []) entered.types.items
    → IsExp M D (body_of (out-Function g).place (map clause_of cs)) N body
    → ((S M : State) (C D : Context) (p : Place) (cs : List Clause) (rs : bare.Rules)
    → AreEntered S C (fresh_from p 1 (length (first_pats cs))) M D (entered.before.items ++ entered.last ∷ []) entered.types.items → IsExp M D (body_of p cs) N body
    → fun_of p cs ≡ bare.fn p rs → IsFunction S C rs T member) → IsMember S C (function_bind g) ty T member
clausal_member S M N T C D g cs n ty entered body member ecs pos e h x finish =
    let ks = map clause_of cs in
    let rules = curried.rules_of (fresh_from (out-Function g).place 1 (length (first_pats ks))) (body_of (out-Function g).place ks) in
    let is : fun_of (out-Function g).place ks ≡ bare.fn (out-Function g).place rules = fun-is (out-Function g).place ks ∙ fun-rules (out-Function g).place (length (first_pats ks)) (body_of (out-Function g).place ks) (subst (λ k. 0 < k) e pos) in
    record {
      middle = S;
      head = subst (λ a. IsAnnotatedHead S C a ty S) (sym (function-pat g)) (vid_annotated S C (out-Function g).vid_place (derived.short (out-Function g).vid) ty);
      at = (out-Function g).place;
      rules = rules;
      is = function-exp g ∙ ap (λ (l : List SourceClause). fun_of (out-Function g).place (map clause_of l)) (sym ecs) ∙ is;
      function =
          finish S M C D (out-Function g).place ks rules
          (subst (λ k. AreEntered S C (fresh_from (out-Function g).place 1 k) M D (entered.before.items ++ entered.last ∷ []) entered.types.items) e h) x is;
    }

pub member_grows : (S T : State) (E : Context) (r : RuleOf) (ty : ℕ) (m : FunctionMade) → IsMember S E r ty T m → Grows S T
member_grows S T E r ty m h = grows_on S h.middle T h.head.grows h.function.grows

-- one more

append-nil : {A : Type 0} (xs : List A) → xs ≡ xs ++ []
append-nil [] = refl
append-nil (x ∷ xs) = ap (λ l. x ∷ l) (append-nil xs)

falling-both : (hs ks : List Head) → falling (hs ++ ks) ≡ falling hs ++ falling ks
falling-both [] ks = refl
falling-both (h ∷ hs) ks =
    ap (λ l. reverse h.variables.items ++ l) (falling-both hs ks) ∙ sym (append_assoc (reverse h.variables.items) (falling hs) (falling ks))

falling-snoc : (hs : List Head) (h : Head) → falling (hs ++ h ∷ []) ≡ falling hs ++ reverse h.variables.items
falling-snoc hs h = falling-both hs (h ∷ []) ∙ ap (λ l. falling hs ++ l) (sym (append-nil (reverse h.variables.items)))

pub member_added : (S N V T : State) (E : Context) (rs : List RuleOf) (r : RuleOf) (hs : List Head) (h : Head) (first old new : Inside) (fs gs : Funs) (member : FunctionMade)
    → AreMembers S E rs hs first N old fs → IsMember N E r h.ty V member → new.bound.items ≡ old.bound.items ++ reverse h.variables.items
    → new.flags.items ≡ old.flags.items ++ map (λ b. true) (reverse h.variables.items) → new.binds.items ≡ old.binds.items
    → ((S N M : State) (rs : List RuleOf) (r : RuleOf) (q : Place) (rules : bare.Rules) (hs : List Head) → AreFunctions S E rs N fs hs → IsAnnotatedHead N E r.pat h.ty M
    → r.exp ≡ bare.fn q rules → IsFunction M E rules V member → AreFunctions S E (rs ++ r ∷ []) T gs (hs ++ h ∷ [])) → AreMembers S E (rs ++ r ∷ []) (hs ++ h ∷ []) first T new gs
member_added S N V T E rs r hs h first old new fs gs member are is eb ef ex add = record {
  functions = add S N is.middle rs r is.at is.rules hs are.functions is.head is.is is.function;
  bound =
      eb ∙ ap (λ l. l ++ reverse h.variables.items) are.bound ∙ append_assoc first.bound.items (falling hs) (reverse h.variables.items)
      ∙ ap (λ l. first.bound.items ++ l) (sym (falling-snoc hs h));
  flags =
      ef ∙ ap (λ l. l ++ map (λ b. true) (reverse h.variables.items)) are.flags
      ∙ append_assoc first.flags.items (marked_as true (falling hs)) (map (λ b. true) (reverse h.variables.items))
      ∙ ap (λ l. first.flags.items ++ l)
      (sym (ap (marked_as true) (falling-snoc hs h) ∙ map-append (λ (b : BoundVariable). true) (falling hs) (reverse h.variables.items)));
  binds = ex ∙ are.binds;
}

-- along the functions

pub record MembersSoFar (S : State) (E : Context) (rs : List RuleOf) (hs : List Head) (old : Inside) (T : State) (D : Context) (new : Inside) (funs : Funs) : Type 0 where
  pub same : D ≡ E
  pub are : AreMembers S E rs hs old T new funs

pub members_begin : (S : State) (E : Context) (old : Inside) (funs : Funs) → funs ≡ [] → MembersSoFar S E [] [] old S E old funs
members_begin S E old funs e = record {
  same = refl;
  are = record {
    functions = subst (λ l. AreFunctions S E [] S l []) (sym e) (no_functions S E);
    bound = append-nil old.bound.items;
    flags = append-nil old.flags.items;
    binds = refl;
  };
}

pub members_more : {A : Type 0} (f : A → RuleOf) (S M N T : State) (E D F : Context) (xs : List A) (hs : List Head) (i : ℕ) (x : A) (h : Head) (first old new : Inside) (fs gs : Funs)
    (member : FunctionMade) → length hs ≡ length xs → i < length xs → x ≡ get_or xs i x → h ≡ get_or (reverse hs) i h
    → MembersSoFar S E (map f (take i xs)) (take i (reverse hs)) first M D old fs → F ≡ D → IsMember M D (f x) h.ty N member
    → ((S M : State) (rs : List RuleOf) (r : RuleOf) (hs : List Head) (first : Inside) → AreMembers S F rs hs first M old fs → IsMember M F r h.ty N member
    → AreMembers S F (rs ++ r ∷ []) (hs ++ h ∷ []) first T new gs)
    → MembersSoFar S E (map f (take (i + 1) xs)) (take (i + 1) (reverse hs)) first T F new gs
members_more f S M N T E D F xs hs i x h first old new fs gs member n lt is ish so q m add =
    let up : suc i ≡ i + 1 = omega arith in
    let k = length-reverse hs in
    let same : F ≡ E = q ∙ so.same in
    let rs = map f (take i xs) in
    let ks = take i (reverse hs) in
    let heads : take (i + 1) (reverse hs) ≡ ks ++ h ∷ [] =
    ap (λ j. take j (reverse hs)) (sym up) ∙ take-suc (reverse hs) i h (omega (arith, lt, n, k)) ∙ ap (λ (z : Head). ks ++ z ∷ []) (sym ish) in
    let all = add S M rs (f x) ks first (subst (λ z. AreMembers S z rs ks first M old fs) (sym same) so.are) (subst (λ z. IsMember M z (f x) h.ty N member) (sym q) m) in
    record {
      same = same;
      are =
          subst (λ l. AreMembers S E l (take (i + 1) (reverse hs)) first T new gs) (sym (next-map-at f xs i x lt ∙ ap (λ z. rs ++ f z ∷ []) (sym is)))
          (subst (λ l. AreMembers S E (rs ++ f x ∷ []) l first T new gs) (sym heads) (subst (λ z. AreMembers S z (rs ++ f x ∷ []) (ks ++ h ∷ []) first T new gs) same all));
    }

take-all : {A : Type 0} (xs : List A) (i : ℕ) → length xs ≤ i → take i xs ≡ xs
take-all [] ℕ.zero le = refl
take-all [] (suc i) le = refl
take-all (x ∷ xs) ℕ.zero le = absurd (omega (arith, le))
take-all (x ∷ xs) (suc i) le = ap (λ l. x ∷ l) (take-all xs i (omega (arith, le)))

pub members_end : {A : Type 0} (f : A → RuleOf) (S T : State) (C E D : Context) (xs : List A) (hs : List Head) (i : ℕ) (old new : Inside) (funs : Funs) → length hs ≡ length xs → length xs ≤ i
    → E ≡ with_own C (reverse hs) → MembersSoFar S E (map f (take i xs)) (take i (reverse hs)) old T D new funs
    → AreMembers S (with_own C (reverse hs)) (map f xs) (reverse hs) old T new funs
members_end f S T C E D xs hs i old new funs n le e so =
    let k = length-reverse hs in
    subst (λ z. AreMembers S z (map f xs) (reverse hs) old T new funs) e
    (subst (λ l. AreMembers S E (map f xs) l old T new funs) (take-all (reverse hs) i (omega (arith, le, n, k)))
    (subst (λ l. AreMembers S E l (take i (reverse hs)) old T new funs) (all-map f xs i le) so.are))

-- all that a declaration has

pub group_filled : (S M B N T : State) (C D E F : Context) (begun : Begun) (scoped as_ : List Tyvar) (rs gs : List RuleOf) (hs : List Head) (old new : Inside) (funs : Funs)
    → begun.first ≡ made_in S → begun.tyvars ≡ length C.types.tyvars → IsBegun S C scoped M D → ScopesThese C as_ (binds_of rs) (binds_of gs) scoped
    → AreReserved M D (map (λ r. r.pat) gs) B (reverse hs) → E ≡ D → AreBound B D begun rs N old → F ≡ E → AreMembers N (with_own E (reverse hs)) gs (reverse hs) old T new funs
    → IsFilled S C begun scoped as_ rs gs T F new funs
group_filled S M B N T C D E F begun scoped as_ rs gs hs old new funs first t b these r q bound q' members =
    let back : F ≡ D = q' ∙ q in
    record {
      from = M;
      begins = subst (IsBegun S C scoped M) (sym back) b;
      first = first;
      tyvars = t;
      scopes = these;
      all =
          subst (λ (z : Context). IsDeclared M C z.types rs gs T new.bound.items new.flags.items new.binds.items funs) (sym back) (record {
            heads = reverse hs;
            variables = old.bound.items;
            marks = old.flags.items;
            behind = B;
            between = N;
            reserved = subst (λ z. AreReserved M z (map (λ r. r.pat) gs) B (reverse hs)) b.deep r;
            inside =
                subst (λ l. AreInside B C D.types rs N old.bound.items old.flags.items l) (sym members.binds)
                (subst (λ z. AreInside B z D.types rs N old.bound.items old.flags.items old.binds.items) (outside_is S M C D scoped begun.tyvars t b) bound);
            functions = subst (λ z. AreFunctions N (with_own z (reverse hs)) gs T funs (reverse hs)) (q ∙ b.deep) members.functions;
            together = members.bound;
            flagged = members.flags;
          });
    }

pub group_ready : (S N : State) (C E : Context) (begun : Begun) (scoped as_ : List Tyvar) (rs gs : List RuleOf) (inside : Inside) (funs : Funs) → StandsIn S C
    → IsFilled S C begun scoped as_ rs gs N E inside funs → IsReady N E begun inside
group_ready S N C E begun scoped as_ rs gs inside funs st h =
    let g = declared-grows h.from N C E.types rs gs inside.bound.items inside.flags.items inside.binds.items funs h.all in
    record {
      deep = let l : E.level ≡ suc C.level = ap (λ (k : Context). k.level) h.begins.deep in omega (arith, l);
      have = declared-have h.from N C E.types rs gs inside.bound.items inside.flags.items inside.binds.items funs h.all;
      count =
          let a = ap length h.all.flagged ∙ length-append h.all.marks (marked_as true (falling h.all.heads)) in
          let b = ap length h.all.together ∙ length-append h.all.variables (falling h.all.heads) in
          let m = length-map (falling h.all.heads) (λ (b : BoundVariable). true) in
          let n = h.all.inside.count in omega (arith, a, b, m, n);
      first = first_made S h.from N C E scoped begun.first h.first h.begins g;
      outer = first_outer S h.from N C E E scoped begun.first h.first st h.begins g refl;
    }

-- the source

pub val_source : (d : SourceDec) (place : Place) (seq : TyvarSeq) (v w : Vec Bind Global) (as_ : List Tyvar) (bs cs : List Bind) → d ≡ node.Val place seq v w → as_ ≡ seq.tyvars.items
    → bs ≡ v.items → cs ≡ w.items → bare.val_dec place seq.place as_ (binds_of (map bind_of bs)) (binds_of (map bind_of cs)) ≡ dec_of d
val_source d place seq v w as_ bs cs is ea eb ec =
    sym (ap dec_of is ∙ source-Val place seq v w
    ∙ ap₂ (λ (l r : List Bind). bare.val_dec place seq.place seq.tyvars.items (binds_of (map bind_of l)) (binds_of (map bind_of r))) (sym eb) (sym ec)
    ∙ ap (λ l. bare.val_dec place seq.place l (binds_of (map bind_of bs)) (binds_of (map bind_of cs))) (sym ea))

pub fun_source : (d : SourceDec) (place : Place) (seq : TyvarSeq) (v : Vec Function Global) (as_ : List Tyvar) (gs : List Function) → d ≡ node.Fun place seq v → as_ ≡ seq.tyvars.items
    → gs ≡ v.items → bare.val_dec place seq.place as_ (binds_of []) (binds_of (map function_bind gs)) ≡ dec_of d
fun_source d place seq v as_ gs is ea eg =
    sym (ap dec_of is ∙ source-Fun place seq v
    ∙ ap₂ (λ (l : List Tyvar) (r : List Function). bare.val_dec place seq.place l bare.no_binds (derived.function_binds (map function_of r))) (sym ea) (sym eg)
    ∙ ap (bare.val_dec place seq.place as_ bare.no_binds) (binds-of-functions gs))

-- states on the way

pub reserved_at : (S T : State) (C : Context) (as_ : List bare.Pat) (hs ks : List Head) → ks ≡ hs → AreReserved S C as_ T (reverse hs) → AreReserved S C as_ T (reverse ks)
reserved_at S T C as_ hs ks e h = subst (λ l. AreReserved S C as_ T (reverse l)) (sym e) h

pub reserved_stands : (S M B : State) (C D : Context) (scoped : List Tyvar) (as_ : List bare.Pat) (hs : List Head) → StandsIn S C → IsContext M D → IsBegun S C scoped M D
    → AreReserved M D as_ B hs → StandsIn B D
reserved_stands S M B C D scoped as_ hs h i b r = stands_on M B D D (begun_stands S M C D scoped h i b) (reserved-grows r) refl

pub entered_stands : (S M N : State) (C D : Context) (as_ : List Takes) (ps : List Parameter) (ts : List ℕ) → StandsIn S C → IsContext M D → HasVariables C D → AreEntered S C as_ M D ps ts
    → Grows M N → StandsIn N D
entered_stands S M N C D as_ ps ts h i v e g = stands_on M N D D (record { context = i; level = (entered-grows e).level ∙ h.level ∙ ap (λ (z : Context). z.level) (sym v.is) }) g refl

pub entered_types : (S M N : State) (C D : Context) (as_ : List Takes) (ps : List Parameter) (ts : List ℕ) → AreEntered S C as_ M D ps ts → Grows M N → AreTypes N ts
entered_types S M N C D as_ ps ts e g = later ts (entered-types e)
  where
    later : (ts : List ℕ) → AreTypes M ts → AreTypes N ts
    later [] h = tt
    later (t ∷ ts) h = (type_later M N t g h.0, later ts h.1)

-- those of `fun` scope what their bindings do
pub scopes_functions : (C : Context) (as_ scoped : List Tyvar) (gs : List Function)
    → scoped ≡ scoped_at (map (λ a. a.0) C.types.tyvars) as_ bare.no_binds (derived.function_binds (map function_of gs))
    → ScopesThese C as_ (binds_of []) (binds_of (map function_bind gs)) scoped
scopes_functions C as_ scoped gs e = sym (e ∙ ap (scoped_at (map (λ a. a.0) C.types.tyvars) as_ bare.no_binds) (binds-of-functions gs))

-- the end, of what is bound as a slice sees it

pub all_at : (M : State) (C E : Context) (rs gs : List RuleOf) (N : State) (inside : Inside) (bound : List BoundVariable) (flags : List Bool) (funs : Funs) → bound ≡ inside.bound.items
    → flags ≡ inside.flags.items → IsDeclared M C E.types rs gs N inside.bound.items inside.flags.items inside.binds.items funs
    → IsDeclared M C E.types rs gs N bound flags inside.binds.items funs
all_at M C E rs gs N inside bound flags funs eb ef h =
    subst (λ z. IsDeclared M C E.types rs gs N z flags inside.binds.items funs) (sym eb)
    (subst (λ z. IsDeclared M C E.types rs gs N inside.bound.items z inside.binds.items funs) (sym ef) h)

pub ended_stands : (S T : State) (C D : Context) (p q : Place) (as_ : List Tyvar) (rs gs : List RuleOf) (ds : List Dec) (a b : Brought) → StandsIn S C → IsContext T D
    → IsBringing S C (bare.val_dec p q as_ (binds_of rs) (binds_of gs)) T D ds a b → StandsIn T D
ended_stands S T C D p q as_ rs gs ds a b = stands_brought S T C D (bare.val_dec p q as_ (binds_of rs) (binds_of gs)) ds a b
