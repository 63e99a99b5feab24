-- What is asked of a type's few variables, of all of them.
use Rattle.std.proofs.Common.{◌≡◌, ◌↔◌, ℕ, Bool, true, false, ◌&&◌, ◌||◌, if◌then◌else◌, List, Some, None, nat_eq, IsTrue, refl, sym, ap, ap₂, ◌∙◌, subst}
use Rattle.std.proofs.lemmas.Bool.{eqb-true, false≢true}
use Rattle.ir_tables.specs.of_ty_core.Types.{Typ, var, con, Typs, none, more, admits, all_admit, attribute, no_variable}
use Rattle.ir_tables.specs.of_ty_core.declared.scheme.Quantified.{Quantified}
use Rattle.ir_tables.specs.of_ty_table.declared.variables.Few.{Few}
use Rattle.ir_tables.specs.of_ty_table.declared.variables.Few.TheVariants.{Empty, One, Two, Three, Four, Many}
use Rattle.ir_tables.specs.of_ty_table.TypeAt.{every_variable}
use Rattle.ir_tables.specs.of_ty_table.Variables.{has, longer, with_one, with_few, few_of, few_with}
use Rattle.ir_tables.specs.of_ir_poly.Types.{over, all_over, in_scope}
use Rattle.ir_known.specs.Few.{few_so}
use Rattle.ir_known.proofs.Opening.{both-are, and-true, allowed-more, admits-more}

-- each variable of a type is so
abbrev mutual
  each : (ℕ → Bool) → Typ → Bool
  each so (var v) = so v
  each so (con h ts) = each_of so ts

  each_of : (ℕ → Bool) → Typs → Bool
  each_of so none = true
  each_of so (more t ts) = each so t && each_of so ts

some-is : {a b : Bool} → Some a ≡ Some b → a ≡ b
some-is e = cc

no-some : {C : Type 0} {b : Bool} → None ≡ Some b → C
no-some e = absurd (cc)

and-right : (a : Bool) → (a && true) ≡ a
and-right true = refl
and-right false = refl

and-joined : (a b c : Bool) → (a && (b && c)) ≡ ((a && b) && c)
and-joined true b c = refl
and-joined false b c = refl

-- what is one of several that are all so is so too
in-one : (a v : Bool) → v ≡ a → (a && v) ≡ a
in-one true v e = e
in-one false v e = refl

in-last : (a b v : Bool) → v ≡ b → ((a && b) && v) ≡ (a && b)
in-last true b v e = in-one b v e
in-last false b v e = refl

in-before : (a b v : Bool) → (a && v) ≡ a → ((a && b) && v) ≡ (a && b)
in-before true true v e = e
in-before true false v e = refl
in-before false b v e = refl

module _ (so : ℕ → Bool) where
  same-so : (v a : ℕ) → nat_eq v a ≡ true → so v ≡ so a
  same-so v a e = ap so (eqb-true v a e)

  one-of : (v a : ℕ) → nat_eq v a ≡ true → (so a && so v) ≡ so a
  one-of v a e = in-one (so a) (so v) (same-so v a e)

  -- one of those before, or the last
  either : (v b : ℕ) (p before : Bool) → (p ≡ true → (before && so v) ≡ before) → (p || nat_eq v b) ≡ true → ((before && so b) && so v) ≡ (before && so b)
  either v b true before f e = in-before before (so b) (so v) (f refl)
  either v b false before f e = in-last before (so b) (so v) (same-so v b e)

  -- so is what few variables say, with further ones
  pub record Joined (f : Few) (c all : Bool) : Type 0 where
    pub first : Bool
    pub is : few_so so f ≡ Some first
    pub both : (first && c) ≡ all

  known : (f : Few) (v : ℕ) (all : Bool) → has f v ≡ true → few_so so f ≡ Some all → (all && so v) ≡ all
  known Empty v all h e = absurd (cc)
  known (One a) v all h e = subst (λ x. (x && so v) ≡ x) (some-is e) (one-of v a h)
  known (Two a b) v all h e = subst (λ x. (x && so v) ≡ x) (some-is e) (either v b (nat_eq v a) (so a) (one-of v a) h)
  known (Three a b c) v all h e = subst (λ x. (x && so v) ≡ x) (some-is e)
      (either v c (nat_eq v a || nat_eq v b) (so a && so b) (either v b (nat_eq v a) (so a) (one-of v a)) h)
  known (Four a b c d) v all h e = subst (λ x. (x && so v) ≡ x) (some-is e)
      (either v d (nat_eq v a || nat_eq v b || nat_eq v c) ((so a && so b) && so c)
      (either v c (nat_eq v a || nat_eq v b) (so a && so b) (either v b (nat_eq v a) (so a) (one-of v a))) h)
  known Many v all h e = no-some e

  further : (f : Few) (v : ℕ) (all : Bool) → few_so so (longer f v) ≡ Some all → Joined f (so v) all
  further Empty v all e = record { first = true; is = refl; both = some-is e }
  further (One a) v all e = record { first = so a; is = refl; both = some-is e }
  further (Two a b) v all e = record { first = so a && so b; is = refl; both = some-is e }
  further (Three a b c) v all e = record { first = (so a && so b) && so c; is = refl; both = some-is e }
  further (Four a b c d) v all e = no-some e
  further Many v all e = no-some e

  one-joined : (f : Few) (v : ℕ) (all : Bool) → few_so so (with_one f v) ≡ Some all → Joined f (so v) all
  one-joined f v all e = go (has f v) refl e
    where
      go : (b : Bool) → has f v ≡ b → few_so so (if b then f else longer f v) ≡ Some all → Joined f (so v) all
      go true h i = record { first = all; is = i; both = known f v all h i }
      go false h i = further f v all i

  -- behind what is joined already
  joined-more : (f : Few) (v : ℕ) (c all : Bool) → Joined (with_one f v) c all → Joined f (so v && c) all
  joined-more f v c all j =
      let i = one-joined f v j.first j.is in
      record { first = i.first; is = i.is; both = and-joined i.first (so v) c ∙ ap (λ x. x && c) i.both ∙ j.both }

  alone : (f : Few) (all : Bool) → few_so so f ≡ Some all → Joined f true all
  alone f all e = record { first = all; is = e; both = and-right all }

  -- both lists of few
  pub record Both (f g : Few) (all : Bool) : Type 0 where
    pub left : Bool
    pub right : Bool
    pub left_is : few_so so f ≡ Some left
    pub right_is : few_so so g ≡ Some right
    pub both : (left && right) ≡ all

  split : (f g : Few) (c d all : Bool) → few_so so g ≡ Some d → c ≡ d → Joined f c all → Both f g all
  split f g c d all e s j = record { left = j.first; right = d; left_is = j.is; right_is = e; both = ap (λ x. j.first && x) (sym s) ∙ j.both }

  few-joined : (f g : Few) (all : Bool) → few_so so (with_few f g) ≡ Some all → Both f g all
  few-joined f Empty all e = split f Empty true true all refl refl (alone f all e)
  few-joined f (One a) all e = split f (One a) (so a) (so a) all refl refl (one-joined f a all e)
  few-joined f (Two a b) all e = split f (Two a b) _ _ all refl refl (joined-more f a (so b) all (one-joined (with_one f a) b all e))
  few-joined f (Three a b c) all e = split f (Three a b c) _ _ all refl (and-joined (so a) (so b) (so c))
      (joined-more f a _ all (joined-more (with_one f a) b _ all (one-joined (with_one (with_one f a) b) c all e)))
  few-joined f (Four a b c d) all e = split f (Four a b c d) _ _ all refl
      (and-joined (so a) (so b) (so c && so d) ∙ and-joined (so a && so b) (so c) (so d))
      (joined-more f a _ all (joined-more (with_one f a) b _ all (joined-more (with_one (with_one f a) b) c _ all (one-joined (with_one (with_one (with_one f a) b) c) d all e))))
  few-joined f Many all e = no-some e

  mutual
    few-right : (t : Typ) (all : Bool) → few_so so (few_of t) ≡ Some all → each so t ≡ all
    few-right (var v) all e = some-is e
    few-right (con h ts) all e = let j = all-few-right ts Empty all e in ap (λ x. x && each_of so ts) (some-is j.is) ∙ j.both

    all-few-right : (ts : Typs) (f : Few) (all : Bool) → few_so so (few_with f ts) ≡ Some all → Joined f (each_of so ts) all
    all-few-right none f all e = alone f all e
    all-few-right (more t ts) f all e =
        let j = all-few-right ts (with_few f (few_of t)) all e in
        let b = few-joined f (few_of t) j.first j.is in
        record {
          first = b.left;
          is = b.left_is;
          both = ap (λ x. b.left && (x && each_of so ts)) (few-right t b.right b.right_is) ∙ and-joined b.left b.right (each_of so ts) ∙ ap (λ x. x && each_of so ts) b.both ∙ j.both;
        }

  few-each : (t : Typ) (f : Few) (all : Bool) → f ≡ few_of t → Some all ≡ few_so so f → each so t ≡ all
  few-each t f all e i = few-right t all (ap (few_so so) (sym e) ∙ sym i)

-- over the parameters in scope

mutual
  over-each : (D : List Quantified) (t : Typ) → over D t ≡ each (in_scope D) t
  over-each D (var v) = refl
  over-each D (con h ts) = all-over-each D ts

  all-over-each : (D : List Quantified) (ts : Typs) → all_over D ts ≡ each_of (in_scope D) ts
  all-over-each D none = refl
  all-over-each D (more t ts) = ap₂ (λ x y. x && y) (over-each D t) (all-over-each D ts)

pub few-answers : (D : List Quantified) (t : Typ) (f : Few) (so : Bool) → f ≡ few_of t → Some so ≡ few_so (in_scope D) f → IsTrue so ↔ (over D t ≡ true)
few-answers D t f so e i =
    let o = over-each D t ∙ few-each (in_scope D) t f so e i in
    ((λ y. o ∙ y), (λ y. sym o ∙ y))

-- whether a type admits equality where m says which variables do
module _ (m : ℕ → Bool) where
  mutual
    admits-each : (t : Typ) → each m t ≡ true → admits every_variable t ≡ true → admits m t ≡ true
    admits-each (var v) e f = e
    admits-each (con h ts) e f = allowed-more (attribute h) (all_admit every_variable ts) (all_admit m ts) (all-admit-each ts e) f

    all-admit-each : (ts : Typs) → each_of m ts ≡ true → all_admit every_variable ts ≡ true → all_admit m ts ≡ true
    all-admit-each none e f = refl
    all-admit-each (more t ts) e f =
        let a = both-are (each m t) (each_of m ts) e in
        let b = both-are (admits every_variable t) (all_admit every_variable ts) f in
        and-true (admits m t) (all_admit m ts) (admits-each t a.0 b.0) (all-admit-each ts a.1 b.1)

  pub admits-closed : (t : Typ) (b : Bool) → b ≡ admits no_variable t → b ≡ true → IsTrue true ↔ (admits m t ≡ true)
  admits-closed t b e y = ((λ _. admits-more no_variable m (λ v f. absurd (false≢true f)) t (sym e ∙ y)), (λ _. refl))

  pub admits-nowhere : (t : Typ) (b : Bool) → b ≡ admits every_variable t → b ≡ false → IsTrue false ↔ (admits m t ≡ true)
  admits-nowhere t b e n = ((λ f. absurd (false≢true f)), (λ a. absurd (false≢true (sym n ∙ e ∙ admits-more m every_variable (λ v _. refl) t a))))

  pub admits-few : (t : Typ) (b : Bool) (f : Few) → b ≡ admits every_variable t → b ≡ true → f ≡ few_of t → Some true ≡ few_so m f → IsTrue true ↔ (admits m t ≡ true)
  admits-few t b f e y i so = ((λ _. admits-each t (few-each m t f true i so) (sym e ∙ y)), (λ _. refl))
