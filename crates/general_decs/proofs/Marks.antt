-- What is known of the variables of a pattern, whatever is said of each by its type.
use Rattle.std.proofs.Common.{◌≡◌, ◌<◌, ◌≤◌, ℕ, Bool, true, false, not, ◌||◌, cond, List, [], ◌∷◌, ◌++◌, map, Option, Some, None, nat_eq, refl, sym, ap, ap₂, subst, ◌∙◌}
use Rattle.std.specs.Prelude.{option_map}
use Rattle.std.specs.Option.{option_or}
use Rattle.std.specs.List.{AllByRecursion}
use Rattle.std.specs.Map.{lookup}
use Rattle.std.proofs.lemmas.Bool.{and_parts, eq-eqb}
use Rattle.ty_core.specs.Types.{Typ}
use Rattle.sml_tree.specs.BareTree as bare
use Rattle.sml_tree.specs.declared.ident.Vid.{Vid}
use Rattle.sml_tree.specs.declared.ident.Vid.TheVariants.{Named, Equals, Fresh}
use Rattle.core_rules.specs.Choices.{Choices}
use Rattle.core_rules.specs.Restrictions.{distinct}
use Rattle.core_rules.specs.Typing.{bound_in, AreDistinct}
use Rattle.core_rules.specs.Words.{same_vid, is_in}
use Rattle.ir_poly.specs.Prog.{Pat, any_pat, variable_pat, constant_pat, con_pat, con_of_pat, ref_of_pat, exn_pat, exn_of_pat, fields_pat, as_pat, PatFields, no_pats, a_pat}
use Rattle.ir_poly.specs.ProgChecked.{pat_onto, pats_onto}
use Rattle.ir_poly.specs.TestsChecked.{Known, Knowns, of_type}
use Rattle.ir_poly.specs.TestsChecked as checked
use Rattle.core_elab.specs.Scopes.{variable, empty, denotes_in}
use Rattle.elab_typed.specs.Contexts.{Around}
use Rattle.elab_typed.specs.Elaborates.{PatElab}
use Rattle.elab_typed.specs.Instances.{as_typed}
use Rattle.elab_typed.specs.Numbers.{type_as}
use Rattle.elab_steps.specs.World.{World, type_of}
use Rattle.rec_groups.specs.of_pat_elab.Elaborated.{bound_of, scope_of}
use Rattle.rec_groups.specs.of_pat_elab.declared.bound.BoundVariable.{BoundVariable}
use Rattle.rec_groups.specs.of_exp_forms.Binding.{Binding, IsKnown}
use Rattle.rec_groups.specs.of_exp_forms.Rules.{vids_of}
use Rattle.rec_groups.proofs.of_exp_forms.JoiningRules.{vids-bound}
use Rattle.rec_groups.proofs.of_exp_forms.Knowing.{pattern-binds}
use Rattle.rec_groups.proofs.of_exp_forms.Within.{latest, lookup-of, denotes-of}

-- the variables of a pattern, with their types, in front of others

abbrev mutual
  pat_types : Pat → Typ → List (ℕ × Typ) → List (ℕ × Typ)
  pat_types any_pat t l = l
  pat_types (variable_pat x) t l = (x, t) ∷ l
  pat_types (constant_pat c) t l = l
  pat_types (con_pat c) t l = l
  pat_types (con_of_pat c a p) t l = pat_types p a l
  pat_types (ref_of_pat a p) t l = pat_types p a l
  pat_types (exn_pat x) t l = l
  pat_types (exn_of_pat x a p) t l = pat_types p a l
  pat_types (fields_pat further ps) t l = pats_types ps l
  pat_types (as_pat x p) t l = pat_types p t ((x, t) ∷ l)

  pats_types : PatFields → List (ℕ × Typ) → List (ℕ × Typ)
  pats_types no_pats l = l
  pats_types (a_pat l a p ps) m = pats_types ps (pat_types p a m)

abbrev marked : (Typ → Known) → List (ℕ × Typ) → Knowns
marked f = map (λ e. (e.0, f e.1))

mutual
  onto-marked : (f : Typ → Known) (p : Pat) (t : Typ) (l : List (ℕ × Typ)) (G : Knowns) → pat_onto f p t (marked f l ++ G) ≡ marked f (pat_types p t l) ++ G
  onto-marked f any_pat t l G = refl
  onto-marked f (variable_pat x) t l G = refl
  onto-marked f (constant_pat c) t l G = refl
  onto-marked f (con_pat c) t l G = refl
  onto-marked f (con_of_pat c a p) t l G = onto-marked f p a l G
  onto-marked f (ref_of_pat a p) t l G = onto-marked f p a l G
  onto-marked f (exn_pat x) t l G = refl
  onto-marked f (exn_of_pat x a p) t l G = onto-marked f p a l G
  onto-marked f (fields_pat further ps) t l G = fields-marked f ps l G
  onto-marked f (as_pat x p) t l G = onto-marked f p t ((x, t) ∷ l) G

  fields-marked : (f : Typ → Known) (ps : PatFields) (l : List (ℕ × Typ)) (G : Knowns) → pats_onto f ps (marked f l ++ G) ≡ marked f (pats_types ps l) ++ G
  fields-marked f no_pats l G = refl
  fields-marked f (a_pat k a p ps) l G = ap (pats_onto f ps) (onto-marked f p a l G) ∙ fields-marked f ps (pat_types p a l) G

abbrev found : List (ℕ × Typ) → ℕ → Option Typ
found l n = lookup (nat_eq n) l

at-marked : (f : Typ → Known) (l : List (ℕ × Typ)) (G : Knowns) (n : ℕ) → checked.at (marked f l ++ G) n ≡ option_or (option_map f (found l n)) (checked.at G n)
at-marked f [] G n = refl
at-marked f (e ∷ l) G n = by (nat_eq n e.0) (at-marked f l G n)
  where
    by : (b : Bool) → checked.at (marked f l ++ G) n ≡ option_or (option_map f (found l n)) (checked.at G n)
        → cond b (Some (f e.1)) (checked.at (marked f l ++ G) n) ≡ option_or (option_map f (cond b (Some e.1) (found l n))) (checked.at G n)
    by true h = refl
    by false h = h

none-of : (o : Option Typ) → option_or (option_map of_type o) None ≡ None → o ≡ None
none-of None h = refl
none-of (Some t) h = cc

some-of : (o : Option Typ) (u : Typ) → option_or (option_map of_type o) None ≡ Some (of_type u) → o ≡ Some u
some-of None u h = cc
some-of (Some t) u h = cc

-- what one says of the numbers of a pattern, all say

module _ (f : Typ → Known) (p : Pat) (t : Typ) (G : Knowns) where
  abbrev l : List (ℕ × Typ)
  l = pat_types p t []

  plain-at : (n : ℕ) → checked.at (pat_onto of_type p t []) n ≡ option_or (option_map of_type (found l n)) None
  plain-at n = ap (λ H. checked.at H n) (onto-marked of_type p t [] []) ∙ at-marked of_type l [] n

  now-at : (n : ℕ) → checked.at (pat_onto f p t G) n ≡ option_or (option_map f (found l n)) (checked.at G n)
  now-at n = ap (λ H. checked.at H n) (onto-marked f p t [] G) ∙ at-marked f l G n

  stays-at : (n : ℕ) → checked.at (pat_onto of_type p t []) n ≡ None → checked.at (pat_onto f p t G) n ≡ checked.at G n
  stays-at n h = now-at n ∙ ap (λ o. option_or (option_map f o) (checked.at G n)) (none-of (found l n) (sym (plain-at n) ∙ h))

  new-at : (n : ℕ) (u : Typ) → checked.at (pat_onto of_type p t []) n ≡ Some (of_type u) → checked.at (pat_onto f p t G) n ≡ Some (f u)
  new-at n u h = now-at n ∙ ap (λ o. option_or (option_map f o) (checked.at G n)) (some-of (found l n) u (sym (plain-at n) ∙ h))

-- each variable is the latest of its identifier

same-itself : (x : Vid) → same_vid x x ≡ true
same-itself (Named n) = eq-eqb n n refl
same-itself Equals = refl
same-itself (Fresh n) = eq-eqb n n refl

not-so : (b : Bool) → not b ≡ true → b ≡ false
not-so true h = cc
not-so false h = refl

absent : (bs : List BoundVariable) (x : Vid) → is_in same_vid x (vids_of bs) ≡ false → latest bs x ≡ None
absent [] x h = refl
absent (b ∷ bs) x h = by (same_vid x b.vid) h (absent bs x)
  where
    by : (c : Bool) → (c || is_in same_vid x (vids_of bs)) ≡ false → (is_in same_vid x (vids_of bs) ≡ false → latest bs x ≡ None) → option_or (latest bs x) (cond c (Some b) None) ≡ None
    by true h k = cc
    by false h k = ap (λ o. option_or o None) (k h)

abbrev IsLatest : List BoundVariable → BoundVariable → Type 0
IsLatest bs b = latest bs b.vid ≡ Some b

still-latest : (c : BoundVariable) (bs ds : List BoundVariable) → AllByRecursion (IsLatest bs) ds → AllByRecursion (IsLatest (c ∷ bs)) ds
still-latest c bs [] h = tt
still-latest c bs (d ∷ ds) h = (ap (λ o. option_or o (cond (same_vid d.vid c.vid) (Some c) None)) h.0, still-latest c bs ds h.1)

all-latest : (bs : List BoundVariable) → distinct same_vid (vids_of bs) ≡ true → AllByRecursion (IsLatest bs) bs
all-latest [] d = tt
all-latest (b ∷ bs) d =
    let p = and_parts (not (is_in same_vid b.vid (vids_of bs))) (distinct same_vid (vids_of bs)) d in (
      ap₂ (λ o c. option_or o (cond c (Some b) None)) (absent bs b.vid (not-so (is_in same_vid b.vid (vids_of bs)) p.0)) (same-itself b.vid),
      still-latest b bs bs (all-latest bs p.1),
    )

-- what is known of each variable of a pattern

pub record IsMarked (g : ℕ → Typ) (number : ℕ → ℕ) (k j : ℕ) (G : Knowns) (f : Typ → Known) (b : BoundVariable) : Type 0 where
  pub from : k ≤ b.number
  pub to : b.number < j
  pub known : checked.at G b.number ≡ Some (f (type_as number (g b.ty)))

module _ (W : World) (A : Around) (k j : ℕ) (bs : List BoundVariable) {a : bare.Pat} {p : Pat} {t : Typ} {c : Choices} (e : PatElab W.table A k a p t (bound_of W bs) c (scope_of bs) j)
    (f : Typ → Known) (G : Knowns) where
  abbrev P : Binding A k j [] (pat_onto of_type p (as_typed A t) []) (bound_of W bs) (scope_of bs)
  P = pattern-binds W.table A e []

  pub marks-most : k ≤ j
  marks-most = P.most

  pub marks-older : (n : ℕ) → n < k → checked.at (pat_onto f p (as_typed A t) G) n ≡ checked.at G n
  marks-older n lt = stays-at f p (as_typed A t) G n (P.older n lt)

  marked-one : (d : AreDistinct (bound_in (bound_of W bs))) (b : BoundVariable) → IsLatest bs b → IsMarked (type_of W) A.number k j (pat_onto f p (as_typed A t) G) f b
  marked-one d b i =
      let at : IsKnown A k j (pat_onto of_type p (as_typed A t) []) (Some (variable b.number)) (Some (type_of W b.ty)) =
      subst (λ o. IsKnown A k j (pat_onto of_type p (as_typed A t) []) o (Some (type_of W b.ty)))
      (denotes-of empty bs b.vid ∙ ap (λ o. option_or (option_map (λ (b : BoundVariable). variable b.number) o) None) i)
      (subst (IsKnown A k j (pat_onto of_type p (as_typed A t) []) (denotes_in (scope_of bs) b.vid))
      (lookup-of W bs b.vid d ∙ ap (option_map (λ (b : BoundVariable). type_of W b.ty)) i) (P.known d b.vid)) in
      record { from = at.0; to = at.1.0; known = new-at f p (as_typed A t) G b.number (as_typed A (type_of W b.ty)) at.1.1 }

  pub all-marked : distinct same_vid (vids_of bs) ≡ true → AllByRecursion (IsMarked (type_of W) A.number k j (pat_onto f p (as_typed A t) G) f) bs
  all-marked d = each bs (all-latest bs d)
    where
      each : (ds : List BoundVariable) → AllByRecursion (IsLatest bs) ds → AllByRecursion (IsMarked (type_of W) A.number k j (pat_onto f p (as_typed A t) G) f) ds
      each [] h = tt
      each (b ∷ ds) h = (marked-one (ap (distinct same_vid) (vids-bound W bs) ∙ d) b h.0, each ds h.1)
