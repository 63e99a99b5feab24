-- One binding more inside a declaration.
use Rattle.std.proofs.Common.{◌≡◌, ◌<◌, ◌≤◌, ◌+◌, ℕ, Bool, true, false, List, [], ◌∷◌, ◌++◌, drop, map, length, refl, sym, ap, ap₂, subst, ◌∙◌, arith}
use Rattle.std.specs.List.{AllByRecursion}
use Rattle.std.proofs.lemmas.List.{append_assoc, map-append, length-append}
use Rattle.mlc_base.specs.declared.place.Place.{Place}
use Rattle.ty_core.specs.Types.{Typ}
use Rattle.ty_core.specs.declared.scheme.Quantified.{Quantified}
use Rattle.sml_tree.specs.TreeOf.{RuleOf}
use Rattle.core_rules.specs.Objects.{Map}
use Rattle.core_rules.specs.Typing.{is_non_expansive}
use Rattle.ir_poly.specs.Prog.{is_value}
use Rattle.prog_tree.specs.TreeOf.{RuleTree, bind_of, pat_of, rule_of, tree_of}
use Rattle.prog_tree.specs.declared.tree.Binding.{Binding}
use Rattle.prog_tree.specs.declared.tree.Rule.{Rule}
use Rattle.prog_tree.proofs.ExpOf.{rule_of-parts}
use Rattle.elab_typed.specs.Contexts.{Around, generic}
use Rattle.elab_typed.specs.Numbers.{type_as}
use Rattle.elab_typed.specs.Instances.{as_typed}
use Rattle.elab_typed.proofs.Names.{over-as}
use Rattle.elab_types.specs.declared.scope.TypeScope.{TypeScope}
use Rattle.elab_state.specs.declared.state.State.{State}
use Rattle.elab_steps.specs.Growing.{Grows, Always}
use Rattle.elab_steps.specs.World.{World, type_of}
use Rattle.elab_steps.proofs.Growing.{grows_same, grows_on, comes_before}
use Rattle.elab_context.specs.declared.context.Context.{Context}
use Rattle.rec_groups.specs.of_pat_elab.Elaborated.{AreVariables, Elaborates, HasVariable, IsPat}
use Rattle.rec_groups.specs.of_pat_elab.declared.bound.BoundVariable.{BoundVariable}
use Rattle.rec_groups.specs.of_pat_elab.declared.bound.TypedPat.{TypedPat}
use Rattle.rec_groups.proofs.of_pat_elab.Forms.{all-later}
use Rattle.rec_groups.specs.of_use_elab.Elaborated.{ElaboratesExp, IsExp}
use Rattle.rec_groups.specs.of_use_elab.declared.typed.TypedExp.{TypedExp}
use Rattle.rec_groups.proofs.of_exp_forms.Calling.{written-as}
use Rattle.rec_groups.proofs.of_exp_forms.Lowering.{lowered}
use Rattle.rec_groups.proofs.of_exp_forms.Using.{variables-used}
use Rattle.rec_groups.proofs.of_dec_forms.JoiningBinds.{all-over}
use Rattle.general_vals.specs.of_general_worlds.Inner.{deeper}
use Rattle.general_decs.specs.Inside.{AreInside, ElaboratesInside, StandBehind, none_inside, IsUsedAs, Keeps, inside_of, marked_as}
use Rattle.general_decs.specs.Values.{IsGeneralised}
use Rattle.general_decs.proofs.Groups.{bound-snoc, flagged-as, flagged-both, flags-snoc, general-snoc, plain-snoc}
use Rattle.general_decs.proofs.Tyvars.{pat-wider}

-- none

pub none_are_inside : (S : State) (C : Context) (s : TypeScope) → AreInside S C s [] S [] [] []
none_are_inside S C s = record {
  grows = grows_same S;
  have = tt;
  count = refl;
  gives = λ W c A t m qs k u. record {
    groups = [];
    choices = [];
    elab = λ e h le lt. record { next = h; most = lt; elab = none_inside };
    bound = refl;
    flags = refl;
    used = tt;
  };
}

-- one more

at-most : (i j k : ℕ) → i ≤ j → j ≤ k → i ≤ k
at-most i j k h l = omega arith

all-both : (P : BoundVariable → Type 0) (as_ bs : List BoundVariable) → AllByRecursion P as_ → AllByRecursion P bs → AllByRecursion P (as_ ++ bs)
all-both P [] bs h k = k
all-both P (a ∷ as_) bs h k = (h.0, all-both P as_ bs h.1 k)

marked-length : (f : Bool) (bs : List BoundVariable) → length (marked_as f bs) ≡ length bs
marked-length f [] = refl
marked-length f (b ∷ bs) = ap ℕ.suc (marked-length f bs)

-- what a pattern and an expression of one type make
module _ (W : World) (A : Around) (m : Map ℕ Typ) (qs : List Quantified) (k n p i j : ℕ) (rs : List RuleOf) (xs : List (Binding × RuleTree)) (before added : List BoundVariable) (fs : List Bool)
    (r : RuleOf) (b : Binding) (x : RuleTree) (t : Typ) (low : k ≤ p) (lowest : k ≤ n) (up : i ≤ j) (from : ElaboratesInside W A (inside_of A m qs) k rs xs before fs n)
    (up-to : n ≤ p) (later : ℕ) (behind : n ≤ later) (e : ElaboratesExp W (inside_of A m qs) later r.exp x.exp t) (w : W.reading.type b.ty ≡ as_typed A t) where
  abbrev B : Around
  B = inside_of A m qs

  -- a generalised one
  general-made : b.general ≡ true → is_non_expansive (generic A).env r.exp ≡ true → is_value x.exp ≡ true → Elaborates W B p r.pat x.pat t added i
      → ElaboratesInside W A B k (rs ++ r ∷ []) (xs ++ (b, x) ∷ []) (before ++ added) (fs ++ marked_as true added) j
  general-made g s v a =
      let used = variables-used W B added a.elab a.parameters in
      record {
        groups = from.groups ++ added ∷ [];
        choices = from.choices ++ (a.choices, e.choices) ∷ [];
        elab = λ y h l lt.
            let f = from.elab y h l lt in
            let d = lowered W.table B f.next (at-most f.next n p f.most up-to) a.elab in
            record {
              next = d.next;
              most = at-most d.next i j d.most up;
              elab =
                  general-snoc W A B y r b x added f.elab d.elab (e.elab y (at-most y k later l (at-most k n later lowest behind))) s v
                  (over-as A.number B.parameters t ∙ a.parameters) g w;
            };
        bound = bound-snoc from.groups added ∙ ap (λ l. l ++ added) from.bound;
        flags =
            flags-snoc W A B k b x added (from.elab k k (omega arith) (omega arith)).elab
            ∙ ap₂ (λ l z. l ++ marked_as z added) from.flags g;
        used = flagged-both (IsUsedAs W A B) before added fs (marked_as true added) from.used (flagged-as (IsUsedAs W A B) true added used);
      }

  -- another one
  plain-made : b.general ≡ false → Keeps A.tyvars m → Elaborates W A p r.pat x.pat t added i
      → ElaboratesInside W A B k (rs ++ r ∷ []) (xs ++ (b, x) ∷ []) (before ++ added) (fs ++ marked_as false added) j
  plain-made g keeps a =
      let used = variables-used W A added a.elab a.parameters in
      record {
        groups = from.groups ++ added ∷ [];
        choices = from.choices ++ (a.choices, e.choices) ∷ [];
        elab = λ y h l lt.
            let f = from.elab y h l lt in
            let d = lowered W.table A f.next (at-most f.next n p f.most up-to) a.elab in
            record {
              next = d.next;
              most = at-most d.next i j d.most up;
              elab =
                  plain-snoc W A B y r b x added f.elab (pat-wider A m keeps W.table d.elab) (e.elab y (at-most y k later l (at-most k n later lowest behind)))
                  (all-over W A added used) (over-as A.number A.parameters t ∙ a.parameters) g w;
            };
        bound = bound-snoc from.groups added ∙ ap (λ l. l ++ added) from.bound;
        flags =
            flags-snoc W A B k b x added (from.elab k k (omega arith) (omega arith)).elab
            ∙ ap₂ (λ l z. l ++ marked_as z added) from.flags g;
        used = flagged-both (IsUsedAs W A B) before added fs (marked_as false added) from.used (flagged-as (IsUsedAs W A B) false added used);
      }

-- The pattern stands between the states P and Q, the expression between X and Y, both of them behind the bindings so far, in any order.
module _ (S N P Q X Y V U T : State) (C : Context) (s : TypeScope) (rs : List RuleOf) (r : RuleOf) (place : Place) (before after : List BoundVariable) (fs : List Bool) (old new : List (Binding × Rule))
    (pat : TypedPat) (exp : TypedExp) (written : ℕ) (h : AreInside S C s rs N before fs old) (np : Grows N P) (qv : Grows Q V) (nx : Grows N X) (x : IsExp X (deeper C s) r.exp Y exp) (yv : Grows Y V)
    (vu : Grows V U) (same : Always U (λ W. type_of W exp.ty ≡ type_of W pat.ty)) (ut : Grows U T) (wr : Always T (λ W. W.reading.type written ≡ type_as (W.naming C.naming) (type_of W pat.ty))) where
  vt : Grows V T
  vt = grows_on V U T vu ut

  yt : Grows Y T
  yt = grows_on Y V T yv vt

  qt : Grows Q T
  qt = grows_on Q V T qv vt

  nt : Grows N T
  nt = grows_on N X T nx (grows_on X Y T x.grows yt)

  have-all : (D : Context) (i : IsPat P D r.pat Q before after pat) → AreVariables T after
  have-all D i = subst (AreVariables T) (sym i.bound) (all-both (HasVariable T) before i.added (all-later N T nt before h.have) (all-later Q T qt i.added i.have))

  count-all : (D : Context) (i : IsPat P D r.pat Q before after pat) (f : Bool) → length (fs ++ marked_as f i.added) ≡ length after
  count-all D i f =
      length-append fs (marked_as f i.added) ∙ ap₂ (λ m n. m + n) h.count (marked-length f i.added) ∙ sym (length-append before i.added) ∙ ap length (sym i.bound)

  one-more : (R : Rattle.prog_tree.specs.TreeOf.Reading) (b : Binding) → new ≡ old ++ (b, record { pat = pat.pat; exp = exp.exp }) ∷ []
      → map (bind_of R) new ≡ map (bind_of R) old ++ (b, record { pat = pat_of R pat.pat; exp = tree_of R exp.exp }) ∷ []
  one-more R b it =
      ap (map (bind_of R)) it ∙ map-append (bind_of R) old ((b, record { pat = pat.pat; exp = exp.exp }) ∷ [])
      ∙ ap (λ (z : RuleTree). map (bind_of R) old ++ (b, z) ∷ []) (rule_of-parts R (record { pat = pat.pat; exp = exp.exp }))

  pub general_added : (Z : State) → Grows Z T → (i : IsPat P (deeper C s) r.pat Q before after pat) → IsGeneralised Z (deeper C s) r.exp exp.exp
      → new ≡ old ++ (record { place = place; general = true; ty = written }, record { pat = pat.pat; exp = exp.exp }) ∷ []
      → AreInside S C s (rs ++ r ∷ []) T after (fs ++ marked_as true i.added) new
  general_added Z zt i v it = record {
    grows = grows_on S N T h.grows nt;
    have = have-all (deeper C s) i;
    count = count-all (deeper C s) i true;
    gives = λ W c A t m qs k u.
        let R = W.reading in
        let B = inside_of A m qs in
        let b : Binding = record { place = place; general = true; ty = written } in
        let y : RuleTree = record { pat = pat_of R pat.pat; exp = tree_of R exp.exp } in
        let e : ElaboratesExp W B X.next r.exp y.exp (type_of W pat.ty) =
        subst (λ z. ElaboratesExp W B X.next r.exp y.exp z) (same W (comes_before U T W ut c)) (x.gives W (comes_before Y T W yt c) B u) in
        let made = general-made W A m qs S.next N.next P.next Q.next T.next rs (map (bind_of R) old) before i.added fs r b y (type_of W pat.ty)
        (at-most S.next N.next P.next h.grows.next np.next) h.grows.next qt.next (h.gives W (comes_before N T W nt c) A t m qs k u) np.next X.next nx.next e
        (wr W c ∙ written-as C W A (type_of W pat.ty) t) refl (sym (v.source W (comes_before Z T W zt c) B u)) (v.program R) (i.gives W (comes_before Q T W qt c) B u) in
        subst (λ l. ElaboratesInside W A B S.next (rs ++ r ∷ []) l after (fs ++ marked_as true i.added) T.next) (sym (one-more R b it))
        (subst (λ l. ElaboratesInside W A B S.next (rs ++ r ∷ []) (map (bind_of R) old ++ (b, y) ∷ []) l (fs ++ marked_as true i.added) T.next) (sym i.bound) made);
  }

  pub plain_added : (i : IsPat P C r.pat Q before after pat)
      → new ≡ old ++ (record { place = place; general = false; ty = written }, record { pat = pat.pat; exp = exp.exp }) ∷ []
      → AreInside S C s (rs ++ r ∷ []) T after (fs ++ marked_as false i.added) new
  plain_added i it = record {
    grows = grows_on S N T h.grows nt;
    have = have-all C i;
    count = count-all C i false;
    gives = λ W c A t m qs k u.
        let R = W.reading in
        let B = inside_of A m qs in
        let b : Binding = record { place = place; general = false; ty = written } in
        let y : RuleTree = record { pat = pat_of R pat.pat; exp = tree_of R exp.exp } in
        let e : ElaboratesExp W B X.next r.exp y.exp (type_of W pat.ty) =
        subst (λ z. ElaboratesExp W B X.next r.exp y.exp z) (same W (comes_before U T W ut c)) (x.gives W (comes_before Y T W yt c) B u) in
        let made = plain-made W A m qs S.next N.next P.next Q.next T.next rs (map (bind_of R) old) before i.added fs r b y (type_of W pat.ty)
        (at-most S.next N.next P.next h.grows.next np.next) h.grows.next qt.next (h.gives W (comes_before N T W nt c) A t m qs k u) np.next X.next nx.next e
        (wr W c ∙ written-as C W A (type_of W pat.ty) t) refl k (i.gives W (comes_before Q T W qt c) A t) in
        subst (λ l. ElaboratesInside W A B S.next (rs ++ r ∷ []) l after (fs ++ marked_as false i.added) T.next) (sym (one-more R b it))
        (subst (λ l. ElaboratesInside W A B S.next (rs ++ r ∷ []) (map (bind_of R) old ++ (b, y) ∷ []) l (fs ++ marked_as false i.added) T.next) (sym i.bound) made);
  }

-- flags of what came last

rest-added : (before added after : List BoundVariable) (n : ℕ) → after ≡ before ++ added → n ≡ length before → drop n after ≡ added
rest-added before added after n e q = ap₂ (λ (k : ℕ) (l : List BoundVariable). drop k l) q e ∙ past before
  where
    past : (bs : List BoundVariable) → drop (length bs) (bs ++ added) ≡ added
    past [] = refl
    past (b ∷ bs) = past bs

flags-are : (before added after : List BoundVariable) (f : Bool) (fs gs : List Bool) → after ≡ before ++ added → length fs ≡ length before
    → gs ≡ fs ++ marked_as f (drop (length fs) after) → gs ≡ fs ++ marked_as f added
flags-are before added after f fs gs e q g = g ∙ ap (λ l. fs ++ marked_as f l) (rest-added before added after (length fs) e q)

-- the binding that was added, as it was said

module _ (S N V U T : State) (C D : Context) (s : TypeScope) (rs : List RuleOf) (r : RuleOf) (place : Place) (before after : List BoundVariable) (fs gs : List Bool) (old new : List (Binding × Rule))
    (pat : TypedPat) (exp : TypedExp) (written : ℕ) (f : Bool) (is : D ≡ deeper C s) (h : AreInside S C s rs N before fs old)
    (vu : Grows V U) (same : Always U (λ W. type_of W exp.ty ≡ type_of W pat.ty)) (ut : Grows U T) (wr : Always T (λ W. W.reading.type written ≡ type_as (W.naming D.naming) (type_of W pat.ty)))
    (flagged : gs ≡ fs ++ marked_as f (drop (length fs) after))
    (it : new ≡ old ++ (record { place = place; general = f; ty = written }, record { pat = pat.pat; exp = exp.exp }) ∷ []) where
  named : Always T (λ W. W.reading.type written ≡ type_as (W.naming C.naming) (type_of W pat.ty))
  named = subst (λ (E : Context). Always T (λ W. W.reading.type written ≡ type_as (W.naming E.naming) (type_of W pat.ty))) is wr

  pub generalised_is : f ≡ true → (Z : State) → StandBehind N (deeper C s) (deeper C s) r before after pat exp V → Grows Z V → IsGeneralised Z (deeper C s) r.exp exp.exp
      → AreInside S C s (rs ++ r ∷ []) T after gs new
  generalised_is e Z b zv v =
      subst (λ l. AreInside S C s (rs ++ r ∷ []) T after l new)
      (sym (flags-are before b.pattern.added after true fs gs b.pattern.bound h.count (flagged ∙ ap (λ g. fs ++ marked_as g (drop (length fs) after)) e)))
      (general_added S N b.pat_from b.pat_to b.exp_from b.exp_to V U T C s rs r place before after fs old new pat exp written h b.first b.last b.exp_first b.expression b.exp_last vu same ut named
      Z (grows_on Z V T zv (grows_on V U T vu ut)) b.pattern v
      (it ∙ ap (λ (g : Bool). old ++ (record { place = place; general = g; ty = written }, record { pat = pat.pat; exp = exp.exp }) ∷ []) e))

  pub plain_is : f ≡ false → StandBehind N C (deeper C s) r before after pat exp V → AreInside S C s (rs ++ r ∷ []) T after gs new
  plain_is e b =
      subst (λ l. AreInside S C s (rs ++ r ∷ []) T after l new)
      (sym (flags-are before b.pattern.added after false fs gs b.pattern.bound h.count (flagged ∙ ap (λ g. fs ++ marked_as g (drop (length fs) after)) e)))
      (plain_added S N b.pat_from b.pat_to b.exp_from b.exp_to V U T C s rs r place before after fs old new pat exp written h b.first b.last b.exp_first b.expression b.exp_last vu same ut named
      b.pattern (it ∙ ap (λ (g : Bool). old ++ (record { place = place; general = g; ty = written }, record { pat = pat.pat; exp = exp.exp }) ∷ []) e))

-- one flag more

pub flag-next : (f : Bool) (bound : List BoundVariable) (fs gs hs : List Bool) (i : ℕ) → i < length bound → gs ++ marked_as f (drop i bound) ≡ hs → fs ≡ gs ++ f ∷ []
    → fs ++ marked_as f (drop (i + 1) bound) ≡ hs
flag-next f bound fs gs hs i lt h e =
    let up : ℕ.suc i ≡ i + 1 = omega arith in
    ap (λ l. l ++ marked_as f (drop (i + 1) bound)) e ∙ append_assoc gs (f ∷ []) (marked_as f (drop (i + 1) bound))
    ∙ ap (λ l. gs ++ l) (sym (next bound i lt ∙ ap (λ j. f ∷ marked_as f (drop j bound)) up)) ∙ h
  where
    next : (bs : List BoundVariable) (j : ℕ) → j < length bs → marked_as f (drop j bs) ≡ f ∷ marked_as f (drop (ℕ.suc j) bs)
    next [] j lt = absurd (omega (arith, lt))
    next (b ∷ bs) ℕ.zero lt = refl
    next (b ∷ bs) (ℕ.suc j) lt = next bs j (omega (arith, lt))

pub flag-ends : (f : Bool) (bound : List BoundVariable) (gs hs : List Bool) (i : ℕ) → length bound ≤ i → gs ++ marked_as f (drop i bound) ≡ hs → gs ≡ hs
flag-ends f bound gs hs i le h = sym (none gs) ∙ ap (λ l. gs ++ marked_as f l) (sym (all bound i le)) ∙ h
  where
    none : (fs : List Bool) → fs ++ [] ≡ fs
    none [] = refl
    none (g ∷ fs) = ap (λ l. g ∷ l) (none fs)

    all : (bs : List BoundVariable) (j : ℕ) → length bs ≤ j → drop j bs ≡ []
    all [] ℕ.zero le = refl
    all [] (ℕ.suc j) le = refl
    all (b ∷ bs) ℕ.zero le = absurd (omega (arith, le))
    all (b ∷ bs) (ℕ.suc j) le = all bs j (omega (arith, le))
