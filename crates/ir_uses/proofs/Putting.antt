-- Types put for variables one by one.
use Rattle.std.proofs.Common.{◌≡◌, ◌↔◌, ℕ, zero, suc, ◌+◌, ◌<◌, Bool, true, false, List, [], ◌∷◌, length, take, slice_get, slice_index_or, map, Option, Some, None, IsTrue, nat_eq, cond, if◌then◌else◌, refl, sym, ap, ◌∙◌, subst, arith}
use Rattle.std.proofs.lemmas.Bool.{eqb-true}
use Rattle.std.proofs.Math.Dec.{eqb-zero-suc, eqb-suc-suc}
use Rattle.std.proofs.Math.Seq.{take-length}
use Rattle.std.specs.Map.{lookup}
use Rattle.std.specs.Option.{option_or}
use Rattle.ty_core.specs.Types.{Typ, var, con, Typs, none, more}
use Rattle.ty_core.specs.Statics.{replace, replace_all}
use Rattle.ty_core.specs.declared.scheme.Quantified.{Quantified}
use Rattle.ty_table.specs.TypeAt.{type_at}
use Rattle.ir_known.specs.of_ir_poly.Types.{changed, nth_type}
use Rattle.ir_known.specs.declared.image.Rest.TheVariants.{Itself, Unit}
use Rattle.ir_known.specs.Images.{image_of, found_or_rest}
use Rattle.ir_known.proofs.Declaring.{nat_eq-turned}
use Rattle.ir_uses.specs.Puts.{put_for}

-- a number in front of others where it isn't there
pub pushed-or : (images new : List (ℕ × ℕ)) (x k : ℕ) (b : Bool) → IsTrue b ↔ (lookup (nat_eq x) images ≡ None) → (b ≡ true → new ≡ (x, k) ∷ images) → (b ≡ false → new ≡ images) → (v : ℕ)
    → lookup (nat_eq v) new ≡ option_or (lookup (nat_eq v) images) (if nat_eq x v then Some k else None)
pushed-or images new x k true w added kept v = ap (lookup (nat_eq v)) (added refl) ∙ ap (λ b. cond b (Some k) (lookup (nat_eq v) images)) (sym (nat_eq-turned x v)) ∙ by (nat_eq x v) refl
  where
    by : (b : Bool) → nat_eq x v ≡ b → cond b (Some k) (lookup (nat_eq v) images) ≡ option_or (lookup (nat_eq v) images) (if b then Some k else None)
    by true e = sym (ap (λ o. option_or o (Some k)) (subst (λ z. lookup (nat_eq z) images ≡ None) (eqb-true x v e) (w.0 refl)))
    by false e = or-none (lookup (nat_eq v) images)
      where
        or-none : (o : Option ℕ) → o ≡ option_or o None
        or-none None = refl
        or-none (Some z) = refl
pushed-or images new x k false w added kept v = ap (lookup (nat_eq v)) (kept refl) ∙ by (nat_eq x v) refl
  where
    there : (o : Option ℕ) → (o ≡ None → ⊥) → (p : Option ℕ) → o ≡ option_or o p
    there None n p = absurd (n refl)
    there (Some z) n p = refl

    or-none : (o : Option ℕ) → o ≡ option_or o None
    or-none None = refl
    or-none (Some z) = refl

    no : lookup (nat_eq x) images ≡ None → ⊥
    no e = absurd (let f : false ≡ true = w.1 e in cc)

    by : (b : Bool) → nat_eq x v ≡ b → lookup (nat_eq v) images ≡ option_or (lookup (nat_eq v) images) (if b then Some k else None)
    by true e = subst (λ z. lookup (nat_eq z) images ≡ option_or (lookup (nat_eq z) images) (Some k)) (eqb-true x v e) (there (lookup (nat_eq x) images) no (Some k))
    by false e = or-none (lookup (nat_eq v) images)

-- one more in order
got-more : (ks : List ℕ) (i d : ℕ) → i < length ks → (v : ℕ) → slice_get (take (suc i) ks) v ≡ option_or (slice_get (take i ks) v) (if nat_eq i v then Some (slice_index_or ks i d) else None)
got-more [] i d lt v = absurd (omega arith)
got-more (k ∷ ks) zero d lt zero = refl
got-more (k ∷ ks) zero d lt (suc v) = ap (λ b. if b then Some k else None) (sym (eqb-zero-suc v))
got-more (k ∷ ks) (suc i) d lt zero = refl
got-more (k ∷ ks) (suc i) d lt (suc v) = got-more ks i d (omega arith) v
    ∙ ap (λ b. option_or (slice_get (take i ks) v) (if b then Some (slice_index_or ks i d) else None)) (sym (eqb-suc-suc i v))

pub order-more : (ks : List ℕ) (i d : ℕ) (images new : List (ℕ × ℕ)) (b : Bool) → i < length ks → ((v : ℕ) → lookup (nat_eq v) images ≡ slice_get (take i ks) v) → IsTrue b ↔ (lookup (nat_eq i) images ≡ None)
    → (b ≡ true → new ≡ (i, slice_index_or ks i d) ∷ images) → (b ≡ false → new ≡ images) → (v : ℕ) → lookup (nat_eq v) new ≡ slice_get (take (i + 1) ks) v
order-more ks i d images new b lt so w added kept v =
    pushed-or images new i (slice_index_or ks i d) b w added kept v
    ∙ ap (λ o. option_or o (if nat_eq i v then Some (slice_index_or ks i d) else None)) (so v)
    ∙ sym (got-more ks i d lt v) ∙ ap (λ n. slice_get (take n ks) v) one
  where
    one : suc i ≡ i + 1
    one = omega arith

-- one more parameter
put-more : (qs : List Quantified) (ks : List ℕ) (i : ℕ) (p : Quantified) (d : ℕ) → i < length qs → i < length ks → (v : ℕ)
    → put_for (take (suc i) qs) (take (suc i) ks) v ≡ option_or (put_for (take i qs) (take i ks) v) (if nat_eq (slice_index_or qs i p).variable v then Some (slice_index_or ks i d) else None)
put-more [] ks i p d lt lu v = absurd (omega arith)
put-more (q ∷ qs) [] i p d lt lu v = absurd (omega arith)
put-more (q ∷ qs) (k ∷ ks) zero p d lt lu v = refl
put-more (q ∷ qs) (k ∷ ks) (suc i) p d lt lu v = by (nat_eq q.variable v) (put-more qs ks i p d (omega arith) (omega arith) v)
  where
    rest : Option ℕ
    rest = if nat_eq (slice_index_or qs i p).variable v then Some (slice_index_or ks i d) else None

    by : (b : Bool) → put_for (take (suc i) qs) (take (suc i) ks) v ≡ option_or (put_for (take i qs) (take i ks) v) (if nat_eq (slice_index_or qs i p).variable v then Some (slice_index_or ks i d) else None)
        → (if b then Some k else put_for (take (suc i) qs) (take (suc i) ks) v)
        ≡ option_or (if b then Some k else put_for (take i qs) (take i ks) v) (if nat_eq (slice_index_or qs i p).variable v then Some (slice_index_or ks i d) else None)
    by true e = refl
    by false e = e

pub parameter-more : (qs : List Quantified) (ks : List ℕ) (i : ℕ) (p : Quantified) (d : ℕ) (images new : List (ℕ × ℕ)) (b : Bool) → i < length qs → i < length ks
    → ((v : ℕ) → lookup (nat_eq v) images ≡ put_for (take i qs) (take i ks) v) → IsTrue b ↔ (lookup (nat_eq (slice_index_or qs i p).variable) images ≡ None)
    → (b ≡ true → new ≡ ((slice_index_or qs i p).variable, slice_index_or ks i d) ∷ images) → (b ≡ false → new ≡ images) → (v : ℕ) → lookup (nat_eq v) new ≡ put_for (take (i + 1) qs) (take (i + 1) ks) v
parameter-more qs ks i p d images new b lt lu so w added kept v =
    pushed-or images new (slice_index_or qs i p).variable (slice_index_or ks i d) b w added kept v
    ∙ ap (λ o. option_or o (if nat_eq (slice_index_or qs i p).variable v then Some (slice_index_or ks i d) else None)) (so v)
    ∙ sym (put-more qs ks i p d lt lu v) ∙ ap (λ n. put_for (take n qs) (take n ks) v) one
  where
    one : suc i ≡ i + 1
    one = omega arith

-- all of them
pub put-all : (qs : List Quantified) (ks : List ℕ) (images : List (ℕ × ℕ)) → length qs ≡ length ks → ((v : ℕ) → lookup (nat_eq v) images ≡ put_for (take (length qs) qs) (take (length qs) ks) v) → (v : ℕ)
    → lookup (nat_eq v) images ≡ put_for qs ks v
put-all qs ks images e so v = so v ∙ ap (λ ps. put_for ps (take (length qs) ks) v) (take-length qs) ∙ ap (λ n. put_for qs (take n ks) v) e ∙ ap (λ ls. put_for qs ls v) (take-length ks)

pub order-all : (ks : List ℕ) (images : List (ℕ × ℕ)) → ((v : ℕ) → lookup (nat_eq v) images ≡ slice_get (take (length ks) ks) v) → (v : ℕ) → lookup (nat_eq v) images ≡ slice_get ks v
order-all ks images so v = so v ∙ ap (λ ls. slice_get ls v) (take-length ks)

-- Images

module _ (f g : ℕ → Typ) (e : (v : ℕ) → f v ≡ g v) where
  mutual
    pub replace-same : (t : Typ) → replace f t ≡ replace g t
    replace-same (var v) = e v
    replace-same (con h ts) = ap (con h) (replace_all-same ts)

    replace_all-same : (ts : Typs) → replace_all f ts ≡ replace_all g ts
    replace_all-same none = refl
    replace_all-same (more t ts) = ap (λ u. more u (replace_all f ts)) (replace-same t) ∙ ap (more (replace g t)) (replace_all-same ts)

nth-found : (ts : List Typ) (ks : List ℕ) (v : ℕ) → found_or_rest ts Unit (slice_get ks v) v ≡ nth_type (map (type_at ts) ks) v
nth-found ts [] v = refl
nth-found ts (k ∷ ks) zero = refl
nth-found ts (k ∷ ks) (suc v) = rest (slice_get ks v) ∙ nth-found ts ks v
  where
    rest : (o : Option ℕ) → found_or_rest ts Unit o (suc v) ≡ found_or_rest ts Unit o v
    rest (Some j) = refl
    rest None = refl

-- types in order are put for a datatype's parameters
pub order-image : (ts : List Typ) (ks : List ℕ) (images : List (ℕ × ℕ)) → ((v : ℕ) → lookup (nat_eq v) images ≡ slice_get ks v) → (a : Typ) → replace (image_of ts images Unit) a ≡ replace (nth_type (map (type_at ts) ks)) a
order-image ts ks images so = replace-same (image_of ts images Unit) (nth_type (map (type_at ts) ks)) (λ v. ap (λ o. found_or_rest ts Unit o v) (so v) ∙ nth-found ts ks v)

changed-found : (ts : List Typ) (qs : List Quantified) (ks : List ℕ) (v : ℕ) → found_or_rest ts Itself (put_for qs ks v) v ≡ changed qs (map (type_at ts) ks) var v
changed-found ts [] ks v = refl
changed-found ts (q ∷ qs) [] v = refl
changed-found ts (q ∷ qs) (k ∷ ks) v = by (nat_eq q.variable v) (changed-found ts qs ks v)
  where
    by : (b : Bool) → found_or_rest ts Itself (put_for qs ks v) v ≡ changed qs (map (type_at ts) ks) var v
        → found_or_rest ts Itself (if b then Some k else put_for qs ks v) v ≡ (if b then type_at ts k else changed qs (map (type_at ts) ks) var v)
    by true e = refl
    by false e = e

-- types put for the parameters of a binding
pub changed-image : (ts : List Typ) (qs : List Quantified) (ks : List ℕ) (images : List (ℕ × ℕ)) → ((v : ℕ) → lookup (nat_eq v) images ≡ put_for qs ks v) → (b : Typ)
    → replace (image_of ts images Itself) b ≡ replace (changed qs (map (type_at ts) ks) var) b
changed-image ts qs ks images so = replace-same (image_of ts images Itself) (changed qs (map (type_at ts) ks) var) (λ v. ap (λ o. found_or_rest ts Itself o v) (so v) ∙ changed-found ts qs ks v)
