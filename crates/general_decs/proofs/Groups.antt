-- Bindings inside their declaration, one after the other: what they bind, and what is known of it.
use Rattle.std.proofs.Common.{◌≡◌, ◌<◌, ◌≤◌, ℕ, Bool, true, false, not, ◌&&◌, ◌||◌, List, [], ◌∷◌, ◌++◌, map, refl, sym, ap, ap₂, subst, ◌∙◌, arith}
use Rattle.std.specs.List.{AllByRecursion, list_all}
use Rattle.std.proofs.lemmas.Bool.{and_parts}
use Rattle.std.proofs.lemmas.List.{append_assoc, map-append}
use Rattle.ty_core.specs.Types.{Typ}
use Rattle.ty_core.specs.declared.scheme.Quantified.{Quantified}
use Rattle.sml_tree.specs.TreeOf.{RuleOf, binds_of}
use Rattle.sml_tree.specs.declared.ident.Vid.{Vid}
use Rattle.core_rules.specs.Choices.{Choices, both}
use Rattle.core_rules.specs.Objects.{Map}
use Rattle.core_rules.specs.Restrictions.{distinct}
use Rattle.core_rules.specs.Typing.{is_non_expansive, settles, together}
use Rattle.core_rules.specs.Words.{same_vid, is_in}
use Rattle.ir_poly.specs.Prog.{a_bind, is_value}
use Rattle.ir_poly.specs.ProgChecked.{binds_onto, parameters_if, pat_onto}
use Rattle.ir_poly.specs.TestsChecked.{Knowns, declared}
use Rattle.ir_poly.specs.TestsChecked as checked
use Rattle.ir_poly.specs.Types.{over}
use Rattle.core_elab.specs.Scopes.{Scope, empty, plus_scope}
use Rattle.prog_tree.specs.TreeOf.{RuleTree, binds_by}
use Rattle.prog_tree.specs.declared.tree.Binding.{Binding}
use Rattle.elab_typed.specs.Contexts.{Around, generic}
use Rattle.elab_typed.specs.Elaborates.{BindsElab, ExpElab, PatElab, no_binds_elab, general_elab, plain_elab, without}
use Rattle.elab_typed.specs.Instances.{as_typed}
use Rattle.elab_steps.specs.World.{World, type_of}
use Rattle.rec_groups.specs.of_pat_elab.Elaborated.{bound_of, scope_of, scope_onto}
use Rattle.rec_groups.specs.of_pat_elab.declared.bound.BoundVariable.{BoundVariable}
use Rattle.rec_groups.proofs.of_pat_elab.Forms.{onto-plus}
use Rattle.rec_groups.specs.of_exp_forms.Rules.{vids_of}
use Rattle.rec_groups.specs.of_dec_forms.Binds.{all_plus}
use Rattle.rec_groups.proofs.of_dec_forms.JoiningBinds.{bind_choices}
use Rattle.general_decs.specs.Inside.{EachInside, none_inside, general_inside, plain_inside, AllFlagged, all_bound, flags_of, inside_of, marked_as}
use Rattle.general_decs.proofs.Marks.{IsMarked, marks-most, marks-older, all-marked}

-- the bindings of the declaration

module _ (W : World) (A B : Around) (h : ℕ) where
  pub inside-do : {k i : ℕ} {rs : List RuleOf} {xs : List (Binding × RuleTree)} {vss : List (List BoundVariable)} {cs : List (Choices × Choices)} → EachInside W A B h k rs xs vss cs i
      → BindsElab W.table A B h k (binds_of rs) (binds_by W.reading.type xs) (map (bound_of W) vss) (bind_choices (generic A).env rs cs) (all_plus (map scope_of vss)) i
  inside-do none_inside = no_binds_elab
  inside-do {k = k} {i = i} (general_inside {r = r} {rs = rs} {b = b} {x = x} {xs = xs} {t = t} {vs = vs} {vss = vss} {c = c} {d = d} {cs = cs} p e n v o g w f) =
      let us = map (bound_of W) (vs ∷ vss) in
      let q = all_plus (map scope_of (vs ∷ vss)) in
      let ys = binds_by W.reading.type xs in
      let E = (generic A).env in
      subst (λ z. BindsElab W.table A B h k (binds_of (r ∷ rs)) (a_bind b.place z x.pat (W.reading.type b.ty) x.exp ys) us (bind_choices E (r ∷ rs) ((c, d) ∷ cs)) q i) (sym g)
      (subst (λ u. BindsElab W.table A B h k (binds_of (r ∷ rs)) (a_bind b.place true x.pat u x.exp ys) us (bind_choices E (r ∷ rs) ((c, d) ∷ cs)) q i) (sym w)
      (subst (λ z. BindsElab W.table A B h k (binds_of (r ∷ rs)) (a_bind b.place true x.pat (as_typed B t) x.exp ys) us (both (settles z (both c d)) (bind_choices E rs cs)) q i) (sym n)
      (general_elab r.place b.place p e n v o (inside-do f))))
  inside-do {k = k} {i = i} (plain_inside {r = r} {rs = rs} {b = b} {x = x} {xs = xs} {vs = vs} {vss = vss} {c = c} {d = d} {cs = cs} p e l o g w f) =
      let us = map (bound_of W) (vs ∷ vss) in
      let q = all_plus (map scope_of (vs ∷ vss)) in
      let ys = binds_by W.reading.type xs in
      let E = (generic A).env in
      subst (λ z. BindsElab W.table A B h k (binds_of (r ∷ rs)) (a_bind b.place z x.pat (W.reading.type b.ty) x.exp ys) us (bind_choices E (r ∷ rs) ((c, d) ∷ cs)) q i) (sym g)
      (subst (λ u. BindsElab W.table A B h k (binds_of (r ∷ rs)) (a_bind b.place false x.pat u x.exp ys) us (bind_choices E (r ∷ rs) ((c, d) ∷ cs)) q i) (sym w)
      (plain_elab r.place b.place p e l o (inside-do f)))

pub together-bound : (W : World) (vss : List (List BoundVariable)) → together (map (bound_of W) vss) ≡ bound_of W (all_bound vss)
together-bound W [] = refl
together-bound W (vs ∷ vss) =
    ap (λ l. bound_of W vs ++ l) (together-bound W vss) ∙ sym (map-append (λ (b : BoundVariable). (b.vid, type_of W b.ty)) vs (all_bound vss))

pub onto-append : (s : Scope) (as_ bs : List BoundVariable) → scope_onto s (as_ ++ bs) ≡ scope_onto (scope_onto s as_) bs
onto-append s [] bs = refl
onto-append s (a ∷ as_) bs = onto-append (Rattle.core_elab.specs.Scopes.scoped a.vid (Rattle.core_elab.specs.Scopes.variable a.number) s) as_ bs

pub all-plus-bound : (vss : List (List BoundVariable)) → all_plus (map scope_of vss) ≡ scope_of (all_bound vss)
all-plus-bound [] = refl
all-plus-bound (vs ∷ vss) =
    ap (plus_scope (scope_of vs)) (all-plus-bound vss) ∙ sym (onto-plus (scope_of vs) (all_bound vss)) ∙ sym (onto-append empty vs (all_bound vss))

-- one more

module _ (W : World) (A B : Around) (h : ℕ) where
  pub general-snoc : {k i j : ℕ} {rs : List RuleOf} {xs : List (Binding × RuleTree)} {vss : List (List BoundVariable)} {cs : List (Choices × Choices)} {t : Typ} {c d : Choices}
      (r : RuleOf) (b : Binding) (x : RuleTree) (vs : List BoundVariable) → EachInside W A B h k rs xs vss cs i → PatElab W.table B i r.pat x.pat t (bound_of W vs) c (scope_of vs) j
      → ExpElab W.table B h r.exp x.exp t d → is_non_expansive (generic A).env r.exp ≡ true → is_value x.exp ≡ true → over B.parameters (as_typed B t) ≡ true
      → b.general ≡ true → W.reading.type b.ty ≡ as_typed B t
      → EachInside W A B h k (rs ++ r ∷ []) (xs ++ (b, x) ∷ []) (vss ++ vs ∷ []) (cs ++ (c, d) ∷ []) j
  general-snoc r b x vs none_inside p e n v o g w = general_inside p e n v o g w none_inside
  general-snoc r b x vs (general_inside p' e' n' v' o' g' w' f) p e n v o g w = general_inside p' e' n' v' o' g' w' (general-snoc r b x vs f p e n v o g w)
  general-snoc r b x vs (plain_inside p' e' l' o' g' w' f) p e n v o g w = plain_inside p' e' l' o' g' w' (general-snoc r b x vs f p e n v o g w)

  pub plain-snoc : {k i j : ℕ} {rs : List RuleOf} {xs : List (Binding × RuleTree)} {vss : List (List BoundVariable)} {cs : List (Choices × Choices)} {t : Typ} {c d : Choices}
      (r : RuleOf) (b : Binding) (x : RuleTree) (vs : List BoundVariable) → EachInside W A B h k rs xs vss cs i
      → PatElab W.table (without B A.parameters) i r.pat x.pat t (bound_of W vs) c (scope_of vs) j
      → ExpElab W.table B h r.exp x.exp t d → list_all (λ v. over A.parameters v.1) (bound_of W vs) ≡ true → over A.parameters (as_typed B t) ≡ true
      → b.general ≡ false → W.reading.type b.ty ≡ as_typed B t
      → EachInside W A B h k (rs ++ r ∷ []) (xs ++ (b, x) ∷ []) (vss ++ vs ∷ []) (cs ++ (c, d) ∷ []) j
  plain-snoc r b x vs none_inside p e l o g w = plain_inside p e l o g w none_inside
  plain-snoc r b x vs (general_inside p' e' n' v' o' g' w' f) p e l o g w = general_inside p' e' n' v' o' g' w' (plain-snoc r b x vs f p e l o g w)
  plain-snoc r b x vs (plain_inside p' e' l' o' g' w' f) p e l o g w = plain_inside p' e' l' o' g' w' (plain-snoc r b x vs f p e l o g w)

  pub flags-snoc : {k i : ℕ} {rs : List RuleOf} {xs : List (Binding × RuleTree)} {vss : List (List BoundVariable)} {cs : List (Choices × Choices)} (b : Binding) (x : RuleTree)
      (vs : List BoundVariable) → EachInside W A B h k rs xs vss cs i → flags_of (xs ++ (b, x) ∷ []) (vss ++ vs ∷ []) ≡ flags_of xs vss ++ marked_as b.general vs
  flags-snoc b x vs none_inside = none-behind (marked_as b.general vs)
    where
      none-behind : (fs : List Bool) → fs ++ [] ≡ fs
      none-behind [] = refl
      none-behind (f ∷ fs) = ap (λ l. f ∷ l) (none-behind fs)
  flags-snoc b x vs (general_inside {b = c} {xs = xs} {vs = us} {vss = vss} p e n v o g w f) =
      ap (λ l. marked_as c.general us ++ l) (flags-snoc b x vs f) ∙ sym (append_assoc (marked_as c.general us) (flags_of xs vss) (marked_as b.general vs))
  flags-snoc b x vs (plain_inside {b = c} {xs = xs} {vs = us} {vss = vss} p e l o g w f) =
      ap (λ l. marked_as c.general us ++ l) (flags-snoc b x vs f) ∙ sym (append_assoc (marked_as c.general us) (flags_of xs vss) (marked_as b.general vs))

pub bound-snoc : (vss : List (List BoundVariable)) (vs : List BoundVariable) → all_bound (vss ++ vs ∷ []) ≡ all_bound vss ++ vs
bound-snoc [] vs = none-behind vs
  where
    none-behind : (bs : List BoundVariable) → bs ++ [] ≡ bs
    none-behind [] = refl
    none-behind (b ∷ bs) = ap (λ l. b ∷ l) (none-behind bs)
bound-snoc (us ∷ vss) vs = ap (λ l. us ++ l) (bound-snoc vss vs) ∙ sym (append_assoc us (all_bound vss) vs)

-- with flags

pub flagged-both : (P : BoundVariable → Bool → Type 0) (bs cs : List BoundVariable) (fs gs : List Bool) → AllFlagged P bs fs → AllFlagged P cs gs → AllFlagged P (bs ++ cs) (fs ++ gs)
flagged-both P [] cs [] gs h k = k
flagged-both P [] cs (f ∷ fs) gs h k = absurd h
flagged-both P (b ∷ bs) cs [] gs h k = absurd h
flagged-both P (b ∷ bs) cs (f ∷ fs) gs h k = (h.0, flagged-both P bs cs fs gs h.1 k)

pub flagged-as : (P : BoundVariable → Bool → Type 0) (f : Bool) (bs : List BoundVariable) → AllByRecursion (λ b. P b f) bs → AllFlagged P bs (marked_as f bs)
flagged-as P f [] h = tt
flagged-as P f (b ∷ bs) h = (h.0, flagged-as P f bs h.1)

-- identifiers once

not-in-left : (v : Vid) (vs us : List Vid) → not (is_in same_vid v (vs ++ us)) ≡ true → not (is_in same_vid v vs) ≡ true
not-in-left v [] us h = refl
not-in-left v (w ∷ vs) us h = by (same_vid v w) h (not-in-left v vs us)
  where
    by : (b : Bool) → not (b || is_in same_vid v (vs ++ us)) ≡ true → (not (is_in same_vid v (vs ++ us)) ≡ true → not (is_in same_vid v vs) ≡ true)
        → not (b || is_in same_vid v vs) ≡ true
    by true h k = cc
    by false h k = k h

pub distinct-left : (vs us : List Vid) → distinct same_vid (vs ++ us) ≡ true → distinct same_vid vs ≡ true
distinct-left [] us h = refl
distinct-left (v ∷ vs) us h =
    let p = and_parts (not (is_in same_vid v (vs ++ us))) (distinct same_vid (vs ++ us)) h in
    ap₂ (λ a b. a && b) (not-in-left v vs us p.0) (distinct-left vs us p.1)

pub distinct-right : (vs us : List Vid) → distinct same_vid (vs ++ us) ≡ true → distinct same_vid us ≡ true
distinct-right [] us h = h
distinct-right (v ∷ vs) us h = distinct-right vs us (and_parts (not (is_in same_vid v (vs ++ us))) (distinct same_vid (vs ++ us)) h).1

-- what is known of the variables of bindings, where the generalised ones are over qs

abbrev pub known_as : List Quantified → Bool → Typ → checked.Known
known_as qs f = declared (parameters_if f qs)

pub record AreKnownAs (g : ℕ → Typ) (number : ℕ → ℕ) (qs : List Quantified) (k i : ℕ) (G H : Knowns) (bs : List BoundVariable) (fs : List Bool) : Type 0 where
  pub most : k ≤ i
  pub older : (n : ℕ) → n < k → checked.at H n ≡ checked.at G n
  pub known : AllFlagged (λ b f. IsMarked g number k i H (known_as qs f) b) bs fs

module _ (g : ℕ → Typ) (number : ℕ → ℕ) (qs : List Quantified) where
  later-one : (k j i : ℕ) (G H : Knowns) (f : Typ → checked.Known) (b : BoundVariable) → j ≤ i → ((n : ℕ) → n < j → checked.at H n ≡ checked.at G n) → IsMarked g number k j G f b
      → IsMarked g number k i H f b
  later-one k j i G H f b le s m = record { from = m.from; to = let lt = m.to in omega (arith, lt, le); known = s b.number m.to ∙ m.known }

  later-all : (k j i : ℕ) (G H : Knowns) (f : Typ → checked.Known) (bs : List BoundVariable) → j ≤ i → ((n : ℕ) → n < j → checked.at H n ≡ checked.at G n)
      → AllByRecursion (IsMarked g number k j G f) bs → AllByRecursion (IsMarked g number k i H f) bs
  later-all k j i G H f [] le s h = tt
  later-all k j i G H f (b ∷ bs) le s h = (later-one k j i G H f b le s h.0, later-all k j i G H f bs le s h.1)

  lower-all : (k j i : ℕ) (H : Knowns) (bs : List BoundVariable) (fs : List Bool) → k ≤ j → AllFlagged (λ b f. IsMarked g number j i H (known_as qs f) b) bs fs
      → AllFlagged (λ b f. IsMarked g number k i H (known_as qs f) b) bs fs
  lower-all k j i H [] [] le h = tt
  lower-all k j i H [] (f ∷ fs) le h = h
  lower-all k j i H (b ∷ bs) [] le h = h
  lower-all k j i H (b ∷ bs) (f ∷ fs) le h =
      (record { from = let m = h.0.from in omega (arith, m, le); to = h.0.to; known = h.0.known }, lower-all k j i H bs fs le h.1)

  -- a binding in front of others
  in-front : (k j i : ℕ) (G M H : Knowns) (f : Bool) (vs us : List BoundVariable) (fs : List Bool) → k ≤ j → ((n : ℕ) → n < k → checked.at M n ≡ checked.at G n)
      → AllByRecursion (IsMarked g number k j M (known_as qs f)) vs → AreKnownAs g number qs j i M H us fs → AreKnownAs g number qs k i G H (vs ++ us) (marked_as f vs ++ fs)
  in-front k j i G M H f vs us fs le s h r = record {
    most = let m = r.most in omega (arith, le, m);
    older = λ n lt. r.older n (omega (arith, lt, le)) ∙ s n lt;
    known =
        flagged-both (λ b f. IsMarked g number k i H (known_as qs f) b) vs us (marked_as f vs) fs
        (flagged-as (λ b f. IsMarked g number k i H (known_as qs f) b) f vs (later-all k j i M H (known_as qs f) vs r.most r.older h)) (lower-all k j i H us fs le r.known);
  }

  -- bindings in front of functions, whose variables come before theirs
  pub with-functions : (k j i : ℕ) (G M H : Knowns) (bs us : List BoundVariable) (fs : List Bool) → k ≤ j → AreKnownAs g number qs j i M H bs fs
      → ((n : ℕ) → n < k → checked.at M n ≡ checked.at G n) → AllByRecursion (IsMarked g number k j M (declared qs)) us
      → AreKnownAs g number qs k i G H (bs ++ us) (fs ++ marked_as true us)
  with-functions k j i G M H bs us fs le r s h = record {
    most = let m = r.most in omega (arith, le, m);
    older = λ n lt. r.older n (omega (arith, lt, le)) ∙ s n lt;
    known =
        flagged-both (λ b f. IsMarked g number k i H (known_as qs f) b) bs us fs (marked_as true us) (lower-all k j i H bs fs le r.known)
        (flagged-as (λ b f. IsMarked g number k i H (known_as qs f) b) true us (later-all k j i M H (declared qs) us r.most r.older h));
  }

-- up to some variable
pub record KnownUpTo (g : ℕ → Typ) (number : ℕ → ℕ) (qs : List Quantified) (k : ℕ) (G H : Knowns) (bs : List BoundVariable) (fs : List Bool) : Type 0 where
  pub next : ℕ
  pub known : AreKnownAs g number qs k next G H bs fs

module _ (W : World) (A : Around) (m : Map ℕ Typ) (qs : List Quantified) (h : ℕ) where
  pub inside-known : {k i : ℕ} {rs : List RuleOf} {xs : List (Binding × RuleTree)} {vss : List (List BoundVariable)} {cs : List (Choices × Choices)}
      → EachInside W A (inside_of A m qs) h k rs xs vss cs i → distinct same_vid (vids_of (all_bound vss)) ≡ true → (G : Knowns)
      → AreKnownAs (type_of W) A.number qs k i G (binds_onto qs (binds_by W.reading.type xs) G) (all_bound vss) (flags_of xs vss)
  inside-known {k = k} none_inside d G = record { most = omega arith; older = λ n lt. refl; known = tt }
  inside-known {k = k} {i = i} (general_inside {j = j} {b = b} {x = x} {xs = xs} {t = t} {vs = vs} {vss = vss} p e n v o g w f) d G =
      let M = pat_onto (known_as qs b.general) x.pat (as_typed A t) G in
      let c : distinct same_vid (vids_of vs ++ vids_of (all_bound vss)) ≡ true = ap (distinct same_vid) (sym (map-append (λ (b : BoundVariable). b.vid) vs (all_bound vss))) ∙ d in
      subst (λ N. AreKnownAs (type_of W) A.number qs k i G (binds_onto qs (binds_by W.reading.type xs) N) (vs ++ all_bound vss) (marked_as b.general vs ++ flags_of xs vss))
      (sym (ap (λ u. pat_onto (known_as qs b.general) x.pat u G) w))
      (in-front (type_of W) A.number qs k j i G M (binds_onto qs (binds_by W.reading.type xs) M) b.general vs (all_bound vss) (flags_of xs vss)
      (marks-most W (inside_of A m qs) k j vs p (known_as qs b.general) G) (marks-older W (inside_of A m qs) k j vs p (known_as qs b.general) G)
      (all-marked W (inside_of A m qs) k j vs p (known_as qs b.general) G (distinct-left (vids_of vs) (vids_of (all_bound vss)) c))
      (inside-known f (distinct-right (vids_of vs) (vids_of (all_bound vss)) c) M))
  inside-known {k = k} {i = i} (plain_inside {j = j} {b = b} {x = x} {xs = xs} {t = t} {vs = vs} {vss = vss} p e l o g w f) d G =
      let M = pat_onto (known_as qs b.general) x.pat (as_typed A t) G in
      let c : distinct same_vid (vids_of vs ++ vids_of (all_bound vss)) ≡ true = ap (distinct same_vid) (sym (map-append (λ (b : BoundVariable). b.vid) vs (all_bound vss))) ∙ d in
      let Z = without (inside_of A m qs) A.parameters in
      subst (λ N. AreKnownAs (type_of W) A.number qs k i G (binds_onto qs (binds_by W.reading.type xs) N) (vs ++ all_bound vss) (marked_as b.general vs ++ flags_of xs vss))
      (sym (ap (λ u. pat_onto (known_as qs b.general) x.pat u G) w))
      (in-front (type_of W) A.number qs k j i G M (binds_onto qs (binds_by W.reading.type xs) M) b.general vs (all_bound vss) (flags_of xs vss)
      (marks-most W Z k j vs p (known_as qs b.general) G) (marks-older W Z k j vs p (known_as qs b.general) G)
      (all-marked W Z k j vs p (known_as qs b.general) G (distinct-left (vids_of vs) (vids_of (all_bound vss)) c))
      (inside-known f (distinct-right (vids_of vs) (vids_of (all_bound vss)) c) M))
