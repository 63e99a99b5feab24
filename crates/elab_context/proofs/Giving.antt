-- Instances of schemes as what is kept of identifiers has them.
use Rattle.std.proofs.Common.{◌≡◌, ◌<◌, ◌+◌, ◌-◌, ℕ, zero, suc, Bool, true, ◌&&◌, if◌then◌else◌, List, [], ◌∷◌, length, map, nat_lt, Option, Some, None, slice_get, refl, sym, ap, ap₂, subst, ◌∙◌, arith}
use Rattle.std.specs.Prelude.{option_map}
use Rattle.std.proofs.lemmas.Bool.{and_parts}
use Rattle.ty_core.specs.Types.{Typ, Typs, var, con, none, more, typs_of, name, admits, all_admit, allowed, attribute}
use Rattle.ty_core.specs.Marks.{Allows}
use Rattle.ty_core.specs.Statics.{replace, replace_all, variables}
use Rattle.ty_core.specs.declared.mark.Mark.{Mark}
use Rattle.ty_core.specs.declared.mark.Mark.TheVariants.{Any, Equality, Class}
use Rattle.ty_core.specs.declared.name.TyName.{TyName}
use Rattle.ty_core.specs.declared.scheme.Quantified.{Quantified}
use Rattle.ty_solve.specs.Substitution.{is_below, are_below}
use Rattle.ty_solve.specs.declared.limit.Limit.{Limit}
use Rattle.vid_scope.specs.of_core_rules.Objects.{AllAllowed, Over, AllOver, Value, put}
use Rattle.vid_scope.specs.of_core_rules.Choices.{Choices}
use Rattle.vid_scope.specs.of_core_rules.Typing.{Chosen}
use Rattle.elab_steps.specs.of_ir_poly.Types.{nth_type, in_scope, admits_in, over, all_over, find, argument_at, Constructor, constructor_of}
use Rattle.elab_steps.specs.of_ir_poly.TestsChecked.{HasConstructor}
use Rattle.elab_steps.specs.of_elab_typed.Numbers.{name_as, type_as, types_as}
use Rattle.elab_steps.specs.of_elab_typed.Contexts.{Around}
use Rattle.elab_steps.specs.of_elab_typed.Instances.{IsGivenAt}
use Rattle.elab_steps.proofs.of_elab_typed.Names.{replace-as, typs_of-as}
use Rattle.elab_steps.proofs.of_elab_typed.Under.{over-under}
use Rattle.elab_steps.specs.of_elab_state.declared.state.State.{State}
use Rattle.elab_steps.specs.Growing.{Always}
use Rattle.elab_steps.specs.Instances.{IsInstance}
use Rattle.elab_steps.specs.World.{World, type_of}
use Rattle.elab_context.specs.Entries.{limit_of}
use Rattle.elab_context.specs.Telling.{Tells, IsContext, scheme_at, scheme_of}
use Rattle.elab_context.specs.declared.entry.Scheme as code
use Rattle.elab_context.specs.declared.context.Context.{Context}

-- which variables admit equality, where those of a type are in scope
module _ (qs : List Quantified) (m : ℕ → Bool) (same : (v : ℕ) → in_scope qs v ≡ true → admits_in qs v ≡ m v) where
  mutual
    admits-in : (t : Typ) → over qs t ≡ true → admits (admits_in qs) t ≡ admits m t
    admits-in (var v) e = same v e
    admits-in (con h ts) e = ap (allowed (attribute h)) (all-admit-in ts e)

    all-admit-in : (ts : Typs) → all_over qs ts ≡ true → all_admit (admits_in qs) ts ≡ all_admit m ts
    all-admit-in none e = refl
    all-admit-in (more t ts) e = let p = and_parts (over qs t) (all_over qs ts) e in ap₂ (λ a b. a && b) (admits-in t p.0) (all-admit-in ts p.1)

  pub allows-in : (a : Mark) (t : Typ) → over qs t ≡ true → Allows a m t → Allows a (admits_in qs) t
  allows-in Any t e h = tt
  allows-in Equality t e h = admits-in t e ∙ h
  allows-in (Class c) t e h = h

  pub all-allowed-in : (r : ℕ → Typ) (k : ℕ) (marks : List Mark) → ((i : ℕ) → over qs (r i) ≡ true) → AllAllowed m r k marks → AllAllowed (admits_in qs) r k marks
  all-allowed-in r k [] o h = tt
  all-allowed-in r k (a ∷ marks) o h = (allows-in a (r k) (o k) h.0, all-allowed-in r (suc k) marks o h.1)

-- images one by one

pub nth-over : (qs : List Quantified) (us : List Typ) → all_over qs (typs_of us) ≡ true → (i : ℕ) → over qs (nth_type us i) ≡ true
nth-over qs [] e i = refl
nth-over qs (u ∷ us) e zero = (and_parts (over qs u) (all_over qs (typs_of us)) e).0
nth-over qs (u ∷ us) e (suc i) = nth-over qs us (and_parts (over qs u) (all_over qs (typs_of us)) e).1 i

pub nth-names : (n : ℕ) (us : List Typ) → AllOver n (typs_of us) → (i : ℕ) → Over n (nth_type us i)
nth-names n [] o i = (tt, tt)
nth-names n (u ∷ us) o zero = o.0
nth-names n (u ∷ us) o (suc i) = nth-names n us o.1 i

mutual
  pub over-replaced : (qs : List Quantified) (f : ℕ → Typ) → ((v : ℕ) → over qs (f v) ≡ true) → (t : Typ) → over qs (replace f t) ≡ true
  over-replaced qs f h (var v) = h v
  over-replaced qs f h (con y ts) = all-over-replaced qs f h ts

  all-over-replaced : (qs : List Quantified) (f : ℕ → Typ) → ((v : ℕ) → over qs (f v) ≡ true) → (ts : Typs) → all_over qs (replace_all f ts) ≡ true
  all-over-replaced qs f h none = refl
  all-over-replaced qs f h (more t ts) = ap₂ (λ a b. a && b) (over-replaced qs f h t) (all-over-replaced qs f h ts)

-- the images put for the parameters, whatever the parameters in scope stand for
module _ (s : ℕ → Typ) (n : ℕ) (us : List Typ) where
  mutual
    put-images : (t : Typ) → is_below n t ≡ true → replace s (replace (nth_type us) t) ≡ put n (λ i. replace s (nth_type us i)) t
    put-images (var v) e = sym (ap (λ (b : Bool). if b then replace s (nth_type us v) else var (v - n)) e)
    put-images (con y ts) e = ap (con y) (puts-images ts e)

    puts-images : (ts : Typs) → are_below n ts ≡ true
        → replace_all s (replace_all (nth_type us) ts) ≡ replace_all (λ v. if nat_lt v n then replace s (nth_type us v) else var (v - n)) ts
    puts-images none e = refl
    puts-images (more t ts) e = let p = and_parts (is_below n t) (are_below n ts) e in ap₂ more (put-images t p.0) (puts-images ts p.1)

-- an instance of what is given
module _ (S : State) (C : Context) (W : World) (A : Around) (i : IsContext S C) (t : Tells C W A) (marks : List Mark) (body u : Typ) (h : IsInstance W (limit_of C) marks body u) where
  pub images-over : (k : ℕ) → over A.parameters (nth_type h.images k) ≡ true
  images-over k = subst (λ qs. over qs (nth_type h.images k) ≡ true) (sym t.parameters) (nth-over (W.parameters C.level) h.images (h.parameters i.deep) k)

  pub images-names : (k : ℕ) → Over A.names (nth_type h.images k)
  images-names k = subst (λ n. Over n (nth_type h.images k)) (sym t.names) (nth-names C.names h.images h.names k)

  pub images-all-over : all_over A.parameters (typs_of h.images) ≡ true
  images-all-over = subst (λ qs. all_over qs (typs_of h.images) ≡ true) (sym t.parameters) (h.parameters i.deep)

  pub instance-over : over A.parameters u ≡ true
  instance-over = ap (over A.parameters) h.is ∙ over-replaced A.parameters (nth_type h.images) images-over body

  pub instance-names : Over C.names body → Over A.names u
  instance-names o = subst (Over A.names) (sym h.is) (over-under A.names (nth_type h.images) images-names body (subst (λ n. Over n body) (sym t.names) o))

  pub images-allowed : AllAllowed (admits_in A.parameters) (nth_type h.images) 0 marks
  images-allowed =
      subst (λ qs. AllAllowed (admits_in qs) (nth_type h.images) 0 marks) (sym t.parameters)
      (all-allowed-in (W.parameters C.level) W.admits (W.admitted C.level) (nth_type h.images) 0 marks (nth-over (W.parameters C.level) h.images (h.parameters i.deep)) h.allowed)

  pub is_given : (v : Value) (k : Choices) → v.scheme.marks ≡ marks → v.scheme.body ≡ body → is_below (length marks) body ≡ true → Over C.names body
      → Chosen marks (nth_type h.images) k → IsGivenAt A v h.images u k
  is_given v k e q below o c = record {
    allowed = subst (AllAllowed (admits_in A.parameters) (nth_type h.images) 0) (sym e) images-allowed;
    over = instance-names o;
    is = λ s.
        ap (replace s) h.is ∙ put-images s (length marks) h.images body below
        ∙ ap₂ (λ (ms : List Mark) (b : Typ). put (length ms) (λ i. replace s (nth_type h.images i)) b) (sym e) (sym q);
    chosen = subst (λ ms. Chosen ms (nth_type h.images) k) (sym e) c;
  }

-- a constructor's row

variables-are : (f : ℕ → Typ) (us : List Typ) (j : ℕ) → ((i : ℕ) → i < length us → f (j + i) ≡ nth_type us i) → replace_all f (variables j (length us)) ≡ typs_of us
variables-are f [] j h = refl
variables-are f (u ∷ us) j h =
    let e : j ≡ j + 0 = omega arith in
    ap₂ more (ap f e ∙ h 0 (omega arith)) (variables-are f us (suc j) (λ i lt. let s : suc j + i ≡ j + suc i = omega arith in ap f s ∙ h (suc i) (omega arith)))

pub images-are : (us : List Typ) (n : ℕ) → length us ≡ n → replace_all (nth_type us) (variables 0 n) ≡ typs_of us
images-are us n e = subst (λ k. replace_all (nth_type us) (variables 0 k) ≡ typs_of us) e (variables-are (nth_type us) us 0 (λ i lt. let z : 0 + i ≡ i = omega arith in ap (nth_type us) z))

nth-map : (g : Typ → Typ) (us : List Typ) (v : ℕ) → g (nth_type [] 0) ≡ nth_type [] 0 → g (nth_type us v) ≡ nth_type (map g us) v
nth-map g [] v e = e
nth-map g (u ∷ us) zero e = refl
nth-map g (u ∷ us) (suc v) e = nth-map g us v e

mutual
  replace-same : (f g : ℕ → Typ) → ((v : ℕ) → f v ≡ g v) → (t : Typ) → replace f t ≡ replace g t
  replace-same f g h (var v) = h v
  replace-same f g h (con y ts) = ap (con y) (replaces-same f g h ts)

  replaces-same : (f g : ℕ → Typ) → ((v : ℕ) → f v ≡ g v) → (ts : Typs) → replace_all f ts ≡ replace_all g ts
  replaces-same f g h none = refl
  replaces-same f g h (more t ts) = ap₂ more (replace-same f g h t) (replaces-same f g h ts)

-- the argument at the images, in the program
pub argument-as : (num : ℕ → ℕ) (us : List Typ) (o : Option Typ)
    → argument_at (map (type_as num) us) (option_map (type_as num) o) ≡ option_map (λ a. type_as num (replace (nth_type us) a)) o
argument-as num us None = refl
argument-as num us (Some a) =
    ap Some (sym (replace-as num (nth_type us) a ∙ replace-same (λ v. type_as num (nth_type us v)) (nth_type (map (type_as num) us)) (λ v. nth-map (type_as num) us v refl) (type_as num a)))

pub has_row : (table : List Constructor) (num : ℕ → ℕ) (y : TyName) (c n : ℕ) (us : List Typ) (o : Option Typ) → length us ≡ n
    → find table (name_as num y) c ≡ Some (constructor_of (name_as num y) c (option_map (type_as num) o))
    → HasConstructor table c (type_as num (con (name y) (replace_all (nth_type us) (variables 0 n)))) (option_map (λ a. type_as num (replace (nth_type us) a)) o)
has_row table num y c n us o e f = record {
  datatype = name_as num y;
  arguments = map (type_as num) us;
  row = constructor_of (name_as num y) c (option_map (type_as num) o);
  found = f;
  same = refl;
  type = ap (con (name (name_as num y))) (ap (types_as num) (images-are us n e) ∙ typs_of-as num us);
  argument = argument-as num us o;
}

-- an instance of the scheme that has a number
pub instance_found : (C : Context) (T : State) (s r : ℕ) (k : code.Scheme) (ms : List Mark) (l : Limit) (b : ℕ) → slice_get C.schemes.items s ≡ Some k → ms ≡ k.marks.items → b ≡ k.body
    → l ≡ limit_of C → Always T (λ W. IsInstance W l ms (W.raw b) (type_of W r))
    → Always T (λ W. IsInstance W (limit_of C) (scheme_at C W s).marks (scheme_at C W s).body (type_of W r))
instance_found C T s r k ms l b e em eb el a W c =
    subst (λ o. IsInstance W (limit_of C) (scheme_of W o).marks (scheme_of W o).body (type_of W r)) (sym e)
    (subst (λ z. IsInstance W z k.marks.items (W.raw k.body) (type_of W r)) el
    (subst (λ z. IsInstance W l z (W.raw k.body) (type_of W r)) em
    (subst (λ z. IsInstance W l ms (W.raw z) (type_of W r)) eb (a W c))))
