-- What is known of the variables of bindings.
use Rattle.std.proofs.Common.{◌≡◌, ℕ, Bool, true, false, cond, List, [], ◌∷◌, Option, Some, None, refl, sym, ap, ap₂, subst, ◌∙◌}
use Rattle.std.specs.Prelude.{option_map}
use Rattle.std.specs.Option.{option_or}
use Rattle.std.specs.List.{AllByRecursion}
use Rattle.std.specs.Map.{lookup}
use Rattle.ty_core.specs.Types.{Typ, Typs, var, con, none, more}
use Rattle.ty_core.specs.Statics.{replace, replace_all}
use Rattle.ty_core.specs.declared.scheme.Quantified.{Quantified}
use Rattle.sml_tree.specs.TreeOf.{RuleOf}
use Rattle.sml_tree.specs.Terminal.{LongVid}
use Rattle.sml_tree.specs.declared.ident.Vid.{Vid}
use Rattle.core_rules.specs.Words.{same_vid}
use Rattle.core_rules.specs.Choices.{Choices}
use Rattle.core_rules.specs.Typing.{Bound, bound_in, AreDistinct, together}
use Rattle.ir_poly.specs.Prog as prog
use Rattle.ir_poly.specs.ProgChecked.{binds_onto, parameters_if, pat_onto}
use Rattle.ir_poly.specs.TestsChecked.{Known, Knowns, declared, of_type}
use Rattle.ir_poly.specs.TestsChecked as checked
use Rattle.ir_poly.specs.Types.{Constructor}
use Rattle.core_elab.specs.Scopes.{Scope, empty, scoped, variable, denotes_in, inside_in, typed_in, plus_scope}
use Rattle.prog_tree.specs.TreeOf.{RuleTree, binds_by}
use Rattle.prog_tree.specs.declared.tree.Binding.{Binding}
use Rattle.elab_typed.specs.Contexts.{Around, general, generals}
use Rattle.elab_typed.specs.Instances.{as_typed}
use Rattle.closed_types.specs.of_elab_steps.World.{World, type_of}
use Rattle.exp_forms.specs.of_elab_context.Entries.{entry_in, last_of}
use Rattle.exp_forms.specs.of_elab_context.Telling.{IsFit, IsGeneral, IsInUse, kept_of, denotes_of, known_of}
use Rattle.exp_forms.specs.of_elab_context.declared.context.Context.{Context}
use Rattle.exp_forms.specs.of_elab_context.declared.entry.Entry.{Entry}
use Rattle.exp_forms.specs.of_elab_context.declared.entry.Entry.TheVariants.{General}
use Rattle.exp_forms.specs.of_pat_elab.Elaborated.{bound_of, scope_of, scope_onto}
use Rattle.exp_forms.specs.of_pat_elab.declared.bound.BoundVariable.{BoundVariable}
use Rattle.exp_forms.proofs.of_pat_elab.Forms.{onto-plus}
use Rattle.exp_forms.specs.Binding.{Binding as Binds, IsKnown}
use Rattle.exp_forms.proofs.Knowing.{both-bound, none-bound, pattern-binds}
use Rattle.exp_forms.proofs.Within.{latest, latest-among, lookup-of, denotes-of, inside-onto}
use Rattle.exp_forms.specs.of_elab_context.Numbered.{IsNumbered}
use Rattle.exp_forms.proofs.Entering.{number-known}
use Rattle.dec_forms.proofs.Over.{generals-same}
use Rattle.dec_forms.proofs.Telling.{AreFurther}
use Rattle.dec_forms.specs.Binds.{EachBind, no_bind, one_bind, all_plus, plain_entries}
use Rattle.dec_forms.proofs.JoiningBinds.{all-over}

-- over no parameters, what is declared has one type

no-parameters : (b : Bool) → parameters_if b [] ≡ []
no-parameters true = refl
no-parameters false = refl

declared-plain : declared [] ≡ of_type
declared-plain = λ i t. of_type t

onto-plain : (b : Bool) (p : prog.Pat) (t : Typ) (G : Knowns) → pat_onto (declared (parameters_if b [])) p t G ≡ pat_onto of_type p t G
onto-plain b p t G = ap (λ (qs : List Quantified). pat_onto (declared qs) p t G) (no-parameters b) ∙ ap (λ (f : Typ → Known). pat_onto f p t G) declared-plain

pub binds-known : {table : List Constructor} {A : Around} {g : ℕ → Typ} {h k i : ℕ} {rs : List RuleOf} {xs : List (Binding × RuleTree)} {vs : List Bound} {cs : List (Choices × Choices)} {qs : List Scope}
    → EachBind table A g h k rs xs vs cs qs i → (G : Knowns) → Binds A k i G (binds_onto [] (binds_by g xs) G) (together vs) (all_plus qs)
binds-known {A = A} {k = k} no_bind G = none-bound A k G
binds-known {table = table} {A = A} {g = g} {k = k} {i = i} (one_bind {j = j} {b = b} {x = x} {xs = xs} {t = t} {v = v} {vs = vs} {q = q} {qs = qs} a e l o n w f) G =
    let mid = pat_onto of_type x.pat (as_typed A t) G in
    subst (λ H. Binds A k i G (binds_onto [] (binds_by g xs) H) (together (v ∷ vs)) (all_plus (q ∷ qs)))
    (sym (onto-plain b.general x.pat (g b.ty) G ∙ ap (λ u. pat_onto of_type x.pat u G) w))
    (both-bound A k j i G mid (binds_onto [] (binds_by g xs) mid) v (together vs) q (all_plus qs) (pattern-binds table A a G) (binds-known f mid))

-- nothing put for no parameters

mutual
  same-type : (t : Typ) → replace var t ≡ t
  same-type (var v) = refl
  same-type (con y ts) = ap (con y) (same-types ts)

  same-types : (ts : Typs) → replace_all var ts ≡ ts
  same-types none = refl
  same-types (more t ts) = ap₂ more (same-type t) (same-types ts)

plain-general : (W : World) (A : Around) (k : ℕ) → IsInUse A (type_of W k) → IsGeneral W A [] k false
plain-general W A k h = record {
  marks = refl;
  names = h.names;
  body = h.parameters;
  parts = λ ts. sym (same-type (type_of W k));
  none = λ e ts. same-type (type_of W k);
}

-- the entries

last-plain : (l : ℕ) (bs : List BoundVariable) (x : Vid) → last_of (plain_entries l bs) x ≡ option_map (λ b. General l b.ty b.number false) (latest bs x)
last-plain l [] x = refl
last-plain l (b ∷ bs) x =
    ap (λ o. option_or o (cond (same_vid x b.vid) (Some (General l b.ty b.number false)) None)) (last-plain l bs x) ∙ by (latest bs x) (same_vid x b.vid)
  where
    by : (o : Option BoundVariable) (c : Bool) → option_or (option_map (λ (b : BoundVariable). General l b.ty b.number false) o) (cond c (Some (General l b.ty b.number false)) None)
        ≡ option_map (λ (b : BoundVariable). General l b.ty b.number false) (option_or o (cond c (Some b) None))
    by None true = refl
    by None false = refl
    by (Some d) c = refl

generals-at : (qs : List Quantified) (vs : Bound) (x : Vid) → lookup (same_vid x) (generals qs vs) ≡ option_map (general qs) (lookup (same_vid x) vs)
generals-at qs [] x = refl
generals-at qs (v ∷ vs) x = by (same_vid x v.0) (generals-at qs vs x)
  where
    by : (b : Bool) → lookup (same_vid x) (generals qs vs) ≡ option_map (general qs) (lookup (same_vid x) vs)
        → cond b (Some (general qs v.1)) (lookup (same_vid x) (generals qs vs)) ≡ option_map (general qs) (cond b (Some v.1) (lookup (same_vid x) vs))
    by true h = refl
    by false h = h

entry-of-last : (l : ℕ) (bs : List BoundVariable) (x : Vid) (e : Entry) → last_of (plain_entries l bs) x ≡ Some e
    → (P : Entry → Type 0) → ((b : BoundVariable) → latest bs x ≡ Some b → P (General l b.ty b.number false)) → P e
entry-of-last l bs x e h P f = by (latest bs x) refl (sym (last-plain l bs x) ∙ h)
  where
    by : (o : Option BoundVariable) → latest bs x ≡ o → option_map (λ (b : BoundVariable). General l b.ty b.number false) o ≡ Some e → P e
    by None q h = cc
    by (Some b) q h = let same : General l b.ty b.number false ≡ e = cc in subst P same (f b q)

-- no type constructor comes into scope
typed-onto : (s : Scope) (bs : List BoundVariable) (x : ℕ) → typed_in (scope_onto s bs) x ≡ typed_in s x
typed-onto s [] x = refl
typed-onto s (b ∷ bs) x = typed-onto (scoped b.vid (variable b.number) s) bs x

pub untyped-bound : (s : Scope) (bs : List BoundVariable) (x : ℕ) → typed_in (plus_scope s (scope_of bs)) x ≡ typed_in s x
untyped-bound s bs x = ap (λ z. typed_in z x) (sym (onto-plus s bs)) ∙ typed-onto s bs x

-- all that the variables ask
module _ (C : Context) (W : World) (A : Around) (l : ℕ) (bs : List BoundVariable) (k j : ℕ) (G : Knowns) (list : W.reading.parameters l ≡ []) (d : AreDistinct (bound_in (bound_of W bs)))
    (b : Binds A k j A.known G (bound_of W bs) (scope_of bs)) (uses : AllByRecursion (λ b. IsInUse A (type_of W b.ty)) bs) (n : IsNumbered k C)
    (known : (x : LongVid) (e : Entry) (n : ℕ) (v : Known) → entry_in C x.qualifiers x.vid ≡ Some e → known_of W A e ≡ Some (n, v) → checked.at A.known n ≡ Some v) where
  new-known : (x : Vid) (a : BoundVariable) → latest bs x ≡ Some a → checked.at G a.number ≡ Some (of_type (as_typed A (type_of W a.ty)))
  new-known x a q =
      let at : IsKnown A k j G (Some (variable a.number)) (Some (type_of W a.ty)) =
      subst (λ o. IsKnown A k j G o (Some (type_of W a.ty))) (denotes-of empty bs x ∙ ap (λ o. option_or (option_map (λ (b : BoundVariable). variable b.number) o) None) q)
      (subst (IsKnown A k j G (denotes_in (scope_of bs) x)) (lookup-of W bs x d ∙ ap (option_map (λ (b : BoundVariable). type_of W b.ty)) q) (b.known d x)) in
      at.1.1

  kept-at : (x : Vid) → lookup (same_vid x) (generals [] (bound_of W bs)) ≡ option_map (kept_of C W) (last_of (plain_entries l bs) x)
  kept-at x =
      generals-at [] (bound_of W bs) x ∙ ap (option_map (general [])) (lookup-of W bs x d) ∙ by (latest bs x) ∙ ap (option_map (kept_of C W)) (sym (last-plain l bs x))
    where
      by : (o : Option BoundVariable) → option_map (general []) (option_map (λ (b : BoundVariable). type_of W b.ty) o)
          ≡ option_map (kept_of C W) (option_map (λ (b : BoundVariable). General l b.ty b.number false) o)
      by None = refl
      by (Some b) = ap (λ (qs : List Quantified). Some (general qs (type_of W b.ty))) (sym list)

  denotes-after : (s : Scope) (x : Vid) → denotes_in (plus_scope s (scope_of bs)) x ≡ option_or (option_map denotes_of (last_of (plain_entries l bs) x)) (denotes_in s x)
  denotes-after s x =
      ap (λ z. denotes_in z x) (sym (onto-plus s bs)) ∙ denotes-of s bs x ∙ ap (λ o. option_or o (denotes_in s x)) (by (latest bs x) ∙ ap (option_map denotes_of) (sym (last-plain l bs x)))
    where
      by : (o : Option BoundVariable) → option_map (λ (b : BoundVariable). variable b.number) o ≡ option_map denotes_of (option_map (λ (b : BoundVariable). General l b.ty b.number false) o)
      by None = refl
      by (Some b) = refl

  pub plain_further : AreFurther C W A (plain_entries l bs) (generals [] (bound_of W bs)) (scope_of bs) G
  plain_further = record {
    kept = kept-at;
    denotes = denotes-after;
    alone = λ s q. ap (λ z. inside_in z q) (sym (onto-plus s bs)) ∙ inside-onto s bs q;
    untyped = λ s x. untyped-bound s bs x;
    fit = λ x e h.
        entry-of-last l bs x e h (IsFit C W A)
        (λ a q. subst (λ qs. IsGeneral W A qs a.ty false) (sym list) (plain-general W A a.ty (latest-among (λ b. IsInUse A (type_of W b.ty)) bs x a uses q)));
    new = λ x e m v h s.
        entry-of-last l bs x e h (λ e. known_of W A e ≡ Some (m, v) → checked.at G m ≡ Some v)
        (λ a q s.
        let pair : (a.number, of_type (as_typed A (type_of W a.ty))) ≡ (m, v) = cc in
        subst (λ i. checked.at G i ≡ Some v) (ap (λ (z : ℕ × Known). z.0) pair) (new-known x a q ∙ ap Some (ap (λ (z : ℕ × Known). z.1) pair))) s;
    over = λ s f a. generals-same [] A.parameters (bound_of W bs) s f (all-over W A bs uses) a;
    old = λ x e m v h s. b.older m (n x.qualifiers x.vid e h m (number-known W A e m v s)) ∙ known x e m v h s;
  }
