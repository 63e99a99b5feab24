-- Constructors that are found, and the types that they have.
use Rattle.std.proofs.Common.{◌≡◌, ◌≢◌, ◌↔◌, ℕ, Bool, true, false, ◌&&◌, List, [], ◌∷◌, ◌++◌, length, map, slice_index_or, Option, Some, None, IsTrue, nat_eq, if◌then◌else◌, refl, sym, ap, ◌∙◌, subst}
use Rattle.std.specs.Option.{option_map, option_or}
use Rattle.mlc_names.specs.declared.label.Label.{Label}
use Rattle.mlc_names.specs.declared.label.Label.TheVariants.{Number}
use Rattle.ty_core.specs.Types.{Symbol, labels, name, Typ, var, con, Typs, none, more, typs_of}
use Rattle.ty_core.specs.Statics.{replace}
use Rattle.ty_core.specs.declared.name.TyName.{TyName}
use Rattle.ty_core.specs.declared.scheme.Quantified.{Quantified}
use Rattle.ty_table.specs.TypeAt.{type_at, types_at}
use Rattle.ir_known.specs.of_ir_poly.Types as clean
use Rattle.ir_known.specs.of_ir_poly.Types.{find, argument_at, nth_type, unit_type, list_name, list_type, pair_type, function_type, all_over}
use Rattle.ir_known.specs.of_ir_poly.TestsChecked.{HasConstructor, alone_type}
use Rattle.ir_known.specs.of_ir_tables.declared.constructors.Constructor.{Constructor}
use Rattle.ir_known.specs.of_ir_tables.Rows.{constructor_at}
use Rattle.prog_check.specs.Same.{same_name, same_type}
use Rattle.prog_check.specs.Deciding.{list_of, argument_of, row_argument, takes, is_con}
use Rattle.prog_check.proofs.SameLemmas.{name-same, same-name, type-same, same-since}
use Rattle.prog_check.proofs.DecidingLemmas.{list-typs, constructor-sound, constructor-complete, takes-sound, takes-complete}
use Rattle.ir_uses.specs.declared.constructor.Argument.{Argument}
use Rattle.ir_uses.specs.declared.constructor.Argument.TheVariants as argument
use Rattle.ir_uses.specs.Rows.{argument_type, kind_of, IsAlone}
use Rattle.ir_uses.proofs.Deciding.{as-decided}

some-is : {A : Type 0} {a b : A} → Some a ≡ Some b → a ≡ b
some-is e = cc

-- Found

find-append : (ks ls : List clean.Constructor) (y : TyName) (n : ℕ) → find (ks ++ ls) y n ≡ option_or (find ks y n) (find ls y n)
find-append [] ls y n = refl
find-append (k ∷ ks) ls y n = by (nat_eq k.datatype.stamp y.stamp && nat_eq k.number n) (find-append ks ls y n)
  where
    by : (b : Bool) → find (ks ++ ls) y n ≡ option_or (find ks y n) (find ls y n) → (if b then Some k else find (ks ++ ls) y n) ≡ option_or (if b then Some k else find ks y n) (find ls y n)
    by true e = refl
    by false e = e

pub row-first : (ks ls : List clean.Constructor) (y : TyName) (n : ℕ) (x : TyName × Option Typ) → option_map kind_of (find ks y n) ≡ Some x → option_map kind_of (find (ks ++ ls) y n) ≡ Some x
row-first ks ls y n x e = ap (option_map kind_of) (find-append ks ls y n) ∙ go (find ks y n) e
  where
    go : (o : Option clean.Constructor) → option_map kind_of o ≡ Some x → option_map kind_of (option_or o (find ls y n)) ≡ Some x
    go None e = absurd (cc)
    go (Some k) e = e

pub row-later : (ks ls : List clean.Constructor) (y : TyName) (n : ℕ) → option_map kind_of (find ks y n) ≡ None → find (ks ++ ls) y n ≡ find ls y n
row-later ks ls y n e = find-append ks ls y n ∙ go (find ks y n) e
  where
    go : (o : Option clean.Constructor) → option_map kind_of o ≡ None → option_or o (find ls y n) ≡ find ls y n
    go None e = refl
    go (Some k) e = absurd (cc)

pub row-kind : (ts : List Typ) (o : Option clean.Constructor) (r : Option Constructor) (k : Constructor) (a : Argument) → o ≡ option_map (constructor_at ts) r → r ≡ Some k → argument_type ts a ≡ option_map (type_at ts) k.argument
    → option_map kind_of o ≡ Some (k.datatype, argument_type ts a)
row-kind ts o r k a e i d = ap (option_map kind_of) (e ∙ ap (option_map (constructor_at ts)) i) ∙ ap (λ t. Some (k.datatype, t)) (sym d)

-- Arguments

module _ (y : TyName) (us : List Typ) where
  pub argument-none : (o : Option clean.Constructor) → option_map kind_of o ≡ None → row_argument y us o ≡ None
  argument-none None e = refl
  argument-none (Some k) e = absurd (cc)

  pub argument-same : (o : Option clean.Constructor) (d : TyName) (a : Option Typ) → option_map kind_of o ≡ Some (d, a) → d ≡ y → row_argument y us o ≡ Some (argument_at us a)
  argument-same None d a e i = absurd (cc)
  argument-same (Some k) d a e i =
      let p : kind_of k ≡ (d, a) = some-is e in
      let n : k.datatype ≡ y = ap (λ x. x.0) p ∙ i in
      let q : k.argument ≡ a = ap (λ x. x.1) p in
      ap (λ b. if b then Some (argument_at us k.argument) else None) (ap (λ z. same_name z y) n ∙ same-name y) ∙ ap (λ z. Some (argument_at us z)) q

  pub argument-differs : (o : Option clean.Constructor) (d : TyName) (a : Option Typ) → option_map kind_of o ≡ Some (d, a) → (d ≡ y → ⊥) → row_argument y us o ≡ None
  argument-differs None d a e i = refl
  argument-differs (Some k) d a e i = go (same_name k.datatype y) refl
    where
      go : (b : Bool) → same_name k.datatype y ≡ b → (if b then Some (argument_at us k.argument) else None) ≡ None
      go true s = absurd (i (sym (ap (λ x. x.0) (some-is e)) ∙ name-same k.datatype y s))
      go false s = refl

module _ (C : List clean.Constructor) (n : ℕ) (ts : List Typ) (t : Typ) (y : TyName) (ks : List ℕ) where
  argument-named : t ≡ con (name y) (types_at ts ks) → argument_of C n t ≡ row_argument y (map (type_at ts) ks) (find C y n)
  argument-named e = ap (argument_of C n) e ∙ ap (λ us. row_argument y us (find C y n)) (list-typs (map (type_at ts) ks))

  pub has-found : (a b : Option Typ) (answer : Bool) → t ≡ con (name y) (types_at ts ks) → row_argument y (map (type_at ts) ks) (find C y n) ≡ Some a → IsTrue answer ↔ (a ≡ b) → IsTrue answer ↔ (argument_of C n t ≡ Some b)
  has-found a b answer e r w = let q = argument-named e ∙ r in ((λ p. q ∙ ap Some (w.0 p)), (λ p. w.1 (some-is (sym q ∙ p))))

  pub has-none : (b : Option Typ) → t ≡ con (name y) (types_at ts ks) → row_argument y (map (type_at ts) ks) (find C y n) ≡ None → IsTrue false ↔ (argument_of C n t ≡ Some b)
  has-none b e r = ((λ f. absurd (cc)), (λ p. absurd (let q : None ≡ Some b = sym (argument-named e ∙ r) ∙ p in cc)))

  -- as a value
  pub alone-found : (a : Option Typ) (v : Typ) (answer : Bool) → t ≡ con (name y) (types_at ts ks) → row_argument y (map (type_at ts) ks) (find C y n) ≡ Some a
      → IsTrue answer ↔ (v ≡ alone_type a (con (name y) (typs_of (map (type_at ts) ks)))) → IsTrue answer ↔ IsAlone C n t v
  alone-found a v answer e r w =
      let q = argument-named e ∙ r in (
        (λ p. (a, constructor-sound C n t a q, w.0 p ∙ ap (alone_type a) (sym e))),
        (λ p. let same : a ≡ p.0 = some-is (sym q ∙ constructor-complete p.1) in w.1 (p.2 ∙ ap (λ b. alone_type b t) (sym same) ∙ ap (alone_type a) e)),
      )

  pub alone-none : (v : Typ) → t ≡ con (name y) (types_at ts ks) → row_argument y (map (type_at ts) ks) (find C y n) ≡ None → IsTrue false ↔ IsAlone C n t v
  alone-none v e r = ((λ f. absurd (cc)), (λ p. absurd (let q : None ≡ Some p.0 = sym (argument-named e ∙ r) ∙ constructor-complete p.1 in cc)))

pub has-no-name : (C : List clean.Constructor) (n : ℕ) (t : Typ) (b : Option Typ) → ((y : TyName) (us : Typs) → t ≡ con (name y) us → ⊥) → IsTrue false ↔ (argument_of C n t ≡ Some b)
has-no-name C n t b never = ((λ f. absurd (cc)), (λ p. absurd (let h = constructor-sound C n t b p in never h.datatype (typs_of h.arguments) h.type)))

pub alone-no-name : (C : List clean.Constructor) (n : ℕ) (t v : Typ) → ((y : TyName) (us : Typs) → t ≡ con (name y) us → ⊥) → IsTrue false ↔ IsAlone C n t v
alone-no-name C n t v never = ((λ f. absurd (cc)), (λ p. absurd (never p.1.datatype (typs_of p.1.arguments) p.1.type)))

pub has-fits : (C : List clean.Constructor) (n : ℕ) (t : Typ) (a : Option Typ) (answer : Bool) → IsTrue answer ↔ (argument_of C n t ≡ Some a) → IsTrue answer ↔ HasConstructor C n t a
has-fits C n t a answer w = ((λ p. constructor-sound C n t a (w.0 p)), (λ h. w.1 (constructor-complete h)))

pub has-decided : (C : List clean.Constructor) (n : ℕ) (t : Typ) (a : Option Typ) (answer : Bool) → IsTrue answer ↔ (argument_of C n t ≡ Some a) → answer ≡ takes a (argument_of C n t)
has-decided C n t a answer w = as-decided answer (takes a (argument_of C n t)) w (takes-sound a (argument_of C n t)) (takes-complete a (argument_of C n t))

module _ (D : List Quantified) (y : TyName) (us : List Typ) (t : Typ) where
  pub con-none : (o : Option clean.Constructor) → row_argument y us o ≡ None → false ≡ is_con D y us t o
  con-none None e = refl
  con-none (Some k) e = go (same_name k.datatype y) e
    where
      go : (b : Bool) → (if b then Some (argument_at us k.argument) else None) ≡ None
          → false ≡ (b && (all_over D (typs_of us) && same_type t (alone_type (argument_at us k.argument) (con (name y) (typs_of us)))))
      go true e = absurd (cc)
      go false e = refl

  con-some : (o : Option clean.Constructor) (a : Option Typ) → row_argument y us o ≡ Some a → is_con D y us t o ≡ (all_over D (typs_of us) && same_type t (alone_type a (con (name y) (typs_of us))))
  con-some None a e = absurd (cc)
  con-some (Some k) a e = go (same_name k.datatype y) e
    where
      go : (b : Bool) → (if b then Some (argument_at us k.argument) else None) ≡ Some a
          → (b && (all_over D (typs_of us) && same_type t (alone_type (argument_at us k.argument) (con (name y) (typs_of us))))) ≡ (all_over D (typs_of us) && same_type t (alone_type a (con (name y) (typs_of us))))
      go true e = let same : argument_at us k.argument ≡ a = some-is e in ap (λ z. all_over D (typs_of us) && same_type t (alone_type z (con (name y) (typs_of us)))) same
      go false e = absurd (cc)

  pub con-not-over : (o : Option clean.Constructor) (a : Option Typ) (over : Bool) → row_argument y us o ≡ Some a → IsTrue over ↔ (all_over D (typs_of us) ≡ true) → over ≡ false → false ≡ is_con D y us t o
  con-not-over o a over e w f = go (all_over D (typs_of us)) refl ∙ sym (con-some o a e)
    where
      go : (b : Bool) → all_over D (typs_of us) ≡ b → false ≡ (all_over D (typs_of us) && same_type t (alone_type a (con (name y) (typs_of us))))
      go true h = absurd (let q : over ≡ true = w.1 h in cc)
      go false h = ap (λ b. b && same_type t (alone_type a (con (name y) (typs_of us)))) (sym h)

  pub con-over : (o : Option clean.Constructor) (a : Option Typ) (over answer : Bool) → row_argument y us o ≡ Some a → IsTrue over ↔ (all_over D (typs_of us) ≡ true) → over ≡ true
      → IsTrue answer ↔ (t ≡ alone_type a (con (name y) (typs_of us))) → answer ≡ is_con D y us t o
  con-over o a over answer e w h v =
      as-decided answer (same_type t (alone_type a (con (name y) (typs_of us)))) v (type-same t (alone_type a (con (name y) (typs_of us)))) same-since
      ∙ ap (λ b. b && same_type t (alone_type a (con (name y) (typs_of us)))) (sym (w.0 h)) ∙ sym (con-some o a e)

-- Types of arguments

pub turned-some : (b : Bool) (t x : Typ) → IsTrue b ↔ (t ≡ x) → IsTrue b ↔ (Some x ≡ Some t)
turned-some b t x w = ((λ y. ap Some (sym (w.0 y))), (λ e. w.1 (sym (some-is e))))

module _ (ts us : List Typ) (a : Argument) where
  pub argument-of : (t : Typ) (body : ℕ) (f : ℕ → Typ) (answer : Bool) → a ≡ argument.Of body → replace f (type_at ts body) ≡ replace (nth_type us) (type_at ts body) → IsTrue answer ↔ (t ≡ replace f (type_at ts body))
      → IsTrue answer ↔ (argument_at us (argument_type ts a) ≡ Some t)
  argument-of t body f answer i e w = subst (λ o. IsTrue answer ↔ (argument_at us (argument_type ts o) ≡ Some t)) (sym i)
      (turned-some answer t (replace (nth_type us) (type_at ts body)) (subst (λ x. IsTrue answer ↔ (t ≡ x)) e w))

  pub argument-cell : (t : Typ) (answer : Bool) → a ≡ argument.Cell → IsTrue answer ↔ (t ≡ pair_type (nth_type us 0) (list_type (nth_type us 0))) → IsTrue answer ↔ (argument_at us (argument_type ts a) ≡ Some t)
  argument-cell t answer i w = subst (λ o. IsTrue answer ↔ (argument_at us (argument_type ts o) ≡ Some t)) (sym i) (turned-some answer t (pair_type (nth_type us 0) (list_type (nth_type us 0))) w)

  pub argument-nothing : (t : Typ) → a ≡ argument.Nothing → IsTrue false ↔ (argument_at us (argument_type ts a) ≡ Some t)
  argument-nothing t i = subst (λ o. IsTrue false ↔ (argument_at us (argument_type ts o) ≡ Some t)) (sym i) ((λ f. absurd (cc)), (λ e. absurd (cc)))

  -- a function from the argument
  has-some : (a ≡ argument.Nothing → ⊥) → (x : Typ) × (argument_at us (argument_type ts a) ≡ Some x)
  has-some never = go a refl
    where
      go : (b : Argument) → a ≡ b → (x : Typ) × (argument_at us (argument_type ts b) ≡ Some x)
      go argument.Nothing e = absurd (never e)
      go (argument.Of k) e = (replace (nth_type us) (type_at ts k), refl)
      go argument.Cell e = (replace (nth_type us) (pair_type (var 0) (list_type (var 0))), refl)

  from-is : {u v x z : Typ} → function_type u v ≡ function_type x z → u ≡ x
  from-is e = cc

  to-is : {u v x z : Typ} → function_type u v ≡ function_type x z → v ≡ z
  to-is e = cc

  module _ (never : a ≡ argument.Nothing → ⊥) (t z : Typ) where
    as-function : t ≡ alone_type (argument_at us (argument_type ts a)) z → (x : Typ) × (argument_at us (argument_type ts a) ≡ Some x) × (t ≡ function_type x z)
    as-function e = let s = has-some never in (s.0, s.1, e ∙ ap (λ o. alone_type o z) s.1)

    pub constructing : (u v : Typ) (answer : Bool) → t ≡ function_type u v → v ≡ z → IsTrue answer ↔ (argument_at us (argument_type ts a) ≡ Some u) → IsTrue answer ↔ (t ≡ alone_type (argument_at us (argument_type ts a)) z)
    constructing u v answer e i w = (
      (λ p. e ∙ ap (function_type u) i ∙ ap (λ o. alone_type o z) (sym (w.0 p))),
      (λ p. let s = as-function p in w.1 (s.1 ∙ ap Some (from-is (sym s.2 ∙ e)))),
    )

    pub constructing-not : (u v : Typ) → t ≡ function_type u v → (v ≡ z → ⊥) → IsTrue false ↔ (t ≡ alone_type (argument_at us (argument_type ts a)) z)
    constructing-not u v e i = ((λ f. absurd (cc)), (λ p. absurd (let s = as-function p in i (to-is (sym e ∙ s.2)))))

    pub constructing-none : ((u v : Typ) → t ≡ function_type u v → ⊥) → IsTrue false ↔ (t ≡ alone_type (argument_at us (argument_type ts a)) z)
    constructing-none n = ((λ f. absurd (cc)), (λ p. absurd (let s = as-function p in n s.0 z s.2)))

  pub value-nothing : (t z : Typ) (answer : Bool) → a ≡ argument.Nothing → IsTrue answer ↔ (t ≡ z) → IsTrue answer ↔ (t ≡ alone_type (argument_at us (argument_type ts a)) z)
  value-nothing t z answer i w = subst (λ o. IsTrue answer ↔ (t ≡ alone_type (argument_at us (argument_type ts o)) z)) (sym i) w

-- Datatypes, lists and cells

parts-are : {h k : Symbol} {ts us : Typs} → con h ts ≡ con k us → ts ≡ us
parts-are e = cc

name-is : {n m : TyName} {ts us : Typs} → con (name n) ts ≡ con (name m) us → n ≡ m
name-is e = cc

first-is : {t u : Typ} {ts us : Typs} → more t ts ≡ more u us → t ≡ u
first-is e = cc

rest-is : {t u : Typ} {ts us : Typs} → more t ts ≡ more u us → ts ≡ us
rest-is e = cc

pub typs-same : (ts us : List Typ) → typs_of ts ≡ typs_of us → ts ≡ us
typs-same ts us e = sym (list-typs ts) ∙ ap list_of e ∙ list-typs us

pub datatype-same : (ts : List Typ) (t : Typ) (found y : TyName) (ks ls : List ℕ) (answer : Bool) → t ≡ con (name found) (types_at ts ks) → found ≡ y → IsTrue answer ↔ (map (type_at ts) ks ≡ map (type_at ts) ls)
    → IsTrue answer ↔ (t ≡ con (name y) (typs_of (map (type_at ts) ls)))
datatype-same ts t found y ks ls answer e i w =
    ((λ p. e ∙ ap (λ n. con (name n) (types_at ts ks)) i ∙ ap (λ us. con (name y) (typs_of us)) (w.0 p)), (λ p. w.1 (typs-same _ _ (parts-are (sym e ∙ p)))))

pub datatype-differs : (t : Typ) (found y : TyName) (us vs : Typs) → t ≡ con (name found) us → (found ≡ y → ⊥) → IsTrue false ↔ (t ≡ con (name y) vs)
datatype-differs t found y us vs e i = ((λ f. absurd (cc)), (λ p. absurd (i (name-is (sym e ∙ p)))))

pub named-not : (t : Typ) (y : TyName) (vs : Typs) → ((n : TyName) (us : Typs) → t ≡ con (name n) us → ⊥) → IsTrue false ↔ (t ≡ con (name y) vs)
named-not t y vs never = ((λ f. absurd (cc)), (λ p. absurd (never y vs p)))

pub labelled-not : (t : Typ) (ls : List Label) (vs : Typs) → ((n : List Label) (us : Typs) → t ≡ con (labels n) us → ⊥) → IsTrue false ↔ (t ≡ con (labels ls) vs)
labelled-not t ls vs never = ((λ f. absurd (cc)), (λ p. absurd (never ls vs p)))

one-long : (ts : List Typ) (ks : List ℕ) (u : Typ) → types_at ts ks ≡ more u none → length ks ≡ 1
one-long ts [] u e = absurd (cc)
one-long ts (k ∷ []) u e = refl
one-long ts (k ∷ j ∷ ks) u e = absurd (cc)

two-long : (ts : List Typ) (ks : List ℕ) (u v : Typ) → types_at ts ks ≡ more u (more v none) → length ks ≡ 2
two-long ts [] u v e = absurd (cc)
two-long ts (k ∷ []) u v e = absurd (cc)
two-long ts (k ∷ j ∷ []) u v e = refl
two-long ts (k ∷ j ∷ i ∷ ks) u v e = absurd (cc)

pub list-long : (ts : List Typ) (t x : Typ) (h : Symbol) (ks : List ℕ) → t ≡ con h (types_at ts ks) → length ks ≢ 1 → IsTrue false ↔ (t ≡ list_type x)
list-long ts t x h ks e n = ((λ f. absurd (cc)), (λ p. absurd (n (one-long ts ks x (parts-are (sym e ∙ p))))))

pub list-is : (ts : List Typ) (t x : Typ) (found : TyName) (ks : List ℕ) (d : ℕ) (answer : Bool) → t ≡ con (name found) (types_at ts ks) → found ≡ list_name → length ks ≡ 1 → IsTrue answer ↔ (type_at ts (slice_index_or ks 0 d) ≡ x)
    → IsTrue answer ↔ (t ≡ list_type x)
list-is ts t x found [] d answer e i l w = absurd (cc)
list-is ts t x found (k ∷ j ∷ ks) d answer e i l w = absurd (cc)
list-is ts t x found (k ∷ []) d answer e i l w =
    ((λ p. e ∙ ap (λ n. con (name n) (more (type_at ts k) none)) i ∙ ap list_type (w.0 p)), (λ p. w.1 (first-is (parts-are (sym e ∙ p)))))

labels-are : {ls ks : List Label} {ts us : Typs} → con (labels ls) ts ≡ con (labels ks) us → ls ≡ ks
labels-are e = cc

pub pair-labels : (t x z : Typ) (ls : List Label) (us : Typs) → t ≡ con (labels ls) us → (ls ≡ Number 1 ∷ Number 2 ∷ [] → ⊥) → IsTrue false ↔ (t ≡ pair_type x z)
pair-labels t x z ls us e n = ((λ f. absurd (cc)), (λ p. absurd (n (labels-are (sym e ∙ p)))))

pub pair-long : (ts : List Typ) (t x z : Typ) (h : Symbol) (ks : List ℕ) → t ≡ con h (types_at ts ks) → length ks ≢ 2 → IsTrue false ↔ (t ≡ pair_type x z)
pair-long ts t x z h ks e n = ((λ f. absurd (cc)), (λ p. absurd (n (two-long ts ks x z (parts-are (sym e ∙ p))))))

pub pair-first : (ts : List Typ) (t x z : Typ) (h : Symbol) (ks : List ℕ) (d : ℕ) → t ≡ con h (types_at ts ks) → length ks ≡ 2 → (type_at ts (slice_index_or ks 0 d) ≡ x → ⊥) → IsTrue false ↔ (t ≡ pair_type x z)
pair-first ts t x z h [] d e l n = absurd (cc)
pair-first ts t x z h (k ∷ []) d e l n = absurd (cc)
pair-first ts t x z h (k ∷ j ∷ i ∷ ks) d e l n = absurd (cc)
pair-first ts t x z h (k ∷ j ∷ []) d e l n = ((λ f. absurd (cc)), (λ p. absurd (n (first-is (parts-are (sym e ∙ p))))))

pub pair-is : (ts : List Typ) (t x z : Typ) (ls : List Label) (ks : List ℕ) (d c : ℕ) (answer : Bool) → t ≡ con (labels ls) (types_at ts ks) → ls ≡ Number 1 ∷ Number 2 ∷ [] → length ks ≡ 2
    → type_at ts (slice_index_or ks 0 d) ≡ x → IsTrue answer ↔ (type_at ts (slice_index_or ks 1 c) ≡ z) → IsTrue answer ↔ (t ≡ pair_type x z)
pair-is ts t x z ls [] d c answer e i l f w = absurd (cc)
pair-is ts t x z ls (k ∷ []) d c answer e i l f w = absurd (cc)
pair-is ts t x z ls (k ∷ j ∷ m ∷ ks) d c answer e i l f w = absurd (cc)
pair-is ts t x z ls (k ∷ j ∷ []) d c answer e i l f w = (
  (λ p. e ∙ ap (λ n. con (labels n) (more (type_at ts k) (more (type_at ts j) none))) i ∙ ap (λ u. pair_type u (type_at ts j)) f ∙ ap (pair_type x) (w.0 p)),
  (λ p. w.1 (first-is (rest-is (parts-are (sym e ∙ p))))),
)

pub first-type : (ts : List Typ) (ks : List ℕ) (d : ℕ) → length ks ≢ 0 → nth_type (map (type_at ts) ks) 0 ≡ type_at ts (slice_index_or ks 0 d)
first-type ts [] d n = absurd (n refl)
first-type ts (k ∷ ks) d n = refl
