-- Two types compare as the same exactly where they are one.
use Rattle.std.proofs.Common.{◌≡◌, ℕ, true, List, [], ◌∷◌, Option, Some, None, nat_eq, refl, ap, arith}
use Rattle.std.proofs.lemmas.Bool.{eqb-true, eq-eqb, and_parts, and_from}
use Rattle.mlc_names.specs.declared.label.Label.{Label}
use Rattle.mlc_names.specs.declared.label.Label.TheVariants.{Number, Word}
use Rattle.ty_core.specs.Types.{Symbol, arrow, labels, name, Typ, var, con, Typs, none, more}
use Rattle.ty_core.specs.declared.name.TyName.{TyName}
use Rattle.ty_core.specs.declared.name.Equality.{Equality}
use Rattle.ty_core.specs.declared.name.Equality.TheVariants.{Always, ByArguments, Never}
use Rattle.ir_poly.specs.of_ir_values.Values.{same_label}
use Rattle.prog_check.specs.Same.{equality_number, same_name, same_labels, same_symbol, same_type, same_types, same_option}

equality-number : (a b : Equality) → equality_number a ≡ equality_number b → a ≡ b
equality-number Always Always e = refl
equality-number Always ByArguments e = absurd (omega (arith, e))
equality-number Always Never e = absurd (omega (arith, e))
equality-number ByArguments Always e = absurd (omega (arith, e))
equality-number ByArguments ByArguments e = refl
equality-number ByArguments Never e = absurd (omega (arith, e))
equality-number Never Always e = absurd (omega (arith, e))
equality-number Never ByArguments e = absurd (omega (arith, e))
equality-number Never Never e = refl

name-by : (n m : TyName) → n.stamp ≡ m.stamp → n.arity ≡ m.arity → n.equality ≡ m.equality → n ≡ m
name-by n m e h k = rebuilt
  where
    made : ℕ → ℕ → Equality → TyName
    made s a q = record { stamp = s; arity = a; equality = q }

    rebuilt : made n.stamp n.arity n.equality ≡ made m.stamp m.arity m.equality
    rebuilt = rw (e, h, k) refl

pub name-same : (n m : TyName) → same_name n m ≡ true → n ≡ m
name-same n m e =
    let a = and_parts (nat_eq n.stamp m.stamp) _ e in let b = and_parts (nat_eq n.arity m.arity) _ a.1 in
    name-by n m (eqb-true n.stamp m.stamp a.0) (eqb-true n.arity m.arity b.0) (equality-number n.equality m.equality (eqb-true (equality_number n.equality) (equality_number m.equality) b.1))

pub same-number : (n : ℕ) → nat_eq n n ≡ true
same-number n = eq-eqb n n refl

pub same-name : (n : TyName) → same_name n n ≡ true
same-name n = and_from _ _ (same-number n.stamp) (and_from _ _ (same-number n.arity) (same-number (equality_number n.equality)))

pub label-same : (l k : Label) → same_label l k ≡ true → l ≡ k
label-same (Number m) (Number n) e = ap Number (eqb-true m n e)
label-same (Number m) (Word y) e = absurd (cc)
label-same (Word x) (Number n) e = absurd (cc)
label-same (Word x) (Word y) e = ap Word (eqb-true x y e)

pub same-label : (l : Label) → same_label l l ≡ true
same-label (Number n) = same-number n
same-label (Word x) = same-number x

labels-same : (ls ks : List Label) → same_labels ls ks ≡ true → ls ≡ ks
labels-same [] [] e = refl
labels-same [] (k ∷ ks) e = absurd (cc)
labels-same (l ∷ ls) [] e = absurd (cc)
labels-same (l ∷ ls) (k ∷ ks) e = let a = and_parts (same_label l k) _ e in rw (label-same l k a.0, labels-same ls ks a.1) refl

same-labels : (ls : List Label) → same_labels ls ls ≡ true
same-labels [] = refl
same-labels (l ∷ ls) = and_from _ _ (same-label l) (same-labels ls)

symbol-same : (h k : Symbol) → same_symbol h k ≡ true → h ≡ k
symbol-same arrow arrow e = refl
symbol-same arrow (labels ks) e = absurd (cc)
symbol-same arrow (name m) e = absurd (cc)
symbol-same (labels ls) arrow e = absurd (cc)
symbol-same (labels ls) (labels ks) e = ap labels (labels-same ls ks e)
symbol-same (labels ls) (name m) e = absurd (cc)
symbol-same (name n) arrow e = absurd (cc)
symbol-same (name n) (labels ks) e = absurd (cc)
symbol-same (name n) (name m) e = ap name (name-same n m e)

same-symbol : (h : Symbol) → same_symbol h h ≡ true
same-symbol arrow = refl
same-symbol (labels ls) = same-labels ls
same-symbol (name n) = same-name n

mutual
  pub type-same : (t u : Typ) → same_type t u ≡ true → t ≡ u
  type-same (var v) (var w) e = ap var (eqb-true v w e)
  type-same (var v) (con k us) e = absurd (cc)
  type-same (con h ts) (var w) e = absurd (cc)
  type-same (con h ts) (con k us) e = let a = and_parts (same_symbol h k) _ e in rw (symbol-same h k a.0, types-same ts us a.1) refl

  types-same : (ts us : Typs) → same_types ts us ≡ true → ts ≡ us
  types-same none none e = refl
  types-same none (more u us) e = absurd (cc)
  types-same (more t ts) none e = absurd (cc)
  types-same (more t ts) (more u us) e = let a = and_parts (same_type t u) _ e in rw (type-same t u a.0, types-same ts us a.1) refl

mutual
  same-type : (t : Typ) → same_type t t ≡ true
  same-type (var v) = same-number v
  same-type (con h ts) = and_from _ _ (same-symbol h) (same-types ts)

  same-types : (ts : Typs) → same_types ts ts ≡ true
  same-types none = refl
  same-types (more t ts) = and_from _ _ (same-type t) (same-types ts)

pub same-since : {t u : Typ} → t ≡ u → same_type t u ≡ true
same-since {u = u} e = rw e (same-type u)

pub option-same : (a b : Option Typ) → same_option a b ≡ true → a ≡ b
option-same None None e = refl
option-same None (Some u) e = absurd (cc)
option-same (Some t) None e = absurd (cc)
option-same (Some t) (Some u) e = ap Some (type-same t u e)

same-option : (a : Option Typ) → same_option a a ≡ true
same-option None = refl
same-option (Some t) = same-type t

pub same-option-since : {a b : Option Typ} → a ≡ b → same_option a b ≡ true
same-option-since {b = b} e = rw e (same-option b)
