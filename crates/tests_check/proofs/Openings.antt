-- Functions that are gone into, parameter by parameter.
use Rattle.std.proofs.Common.{◌≡◌, ℕ, zero, suc, ◌+◌, ◌<◌, Bool, true, false, List, [], ◌∷◌, ◌++◌, length, drop, Option, Some, None, slice_index_or, refl, sym, ap, ◌∙◌, subst, arith}
use Rattle.ty_core.specs.Types.{Typ}
use Rattle.ty_core.specs.declared.scheme.Quantified.{Quantified}
use Rattle.ty_table.specs.TypeAt.{type_at}
use Rattle.ir_plain.specs.Tree as clean
use Rattle.ir_poly.specs.Tests.{poly}
use Rattle.ir_poly.specs.Types.{function_type, over}
use Rattle.ir_poly.specs.TestsChecked.{Knowns, at}
use Rattle.ir_tables.specs.declared.tables.Tables.{Tables}
use Rattle.ir_known.specs.declared.known.Known.{Known}
use Rattle.ir_known.specs.declared.known.Known.TheVariants.{OfType}
use Rattle.plain_tree.specs.declared.tree.Parameter.{Parameter}
use Rattle.plain_tree.specs.TreeOf.{fun_of}
use Rattle.tests_check.specs.Fits.{ExpFits, FunFits}
use Rattle.tests_check.specs.Reads.{reading}
use Rattle.tests_check.specs.Walk.{Names, all, local, table_of, Takes, TakesNone, Enters, EntersNone}

pub assoc : {A : Type 0} (a b c : List A) → (a ++ b) ++ c ≡ a ++ (b ++ c)
assoc [] b c = refl
assoc (x ∷ a) b c = ap (λ l. x ∷ l) (assoc a b c)

pub drop-there : {A : Type 0} (n : ℕ) (xs : List A) (x : A) → n < length xs → x ≡ slice_index_or xs n x → drop n xs ≡ x ∷ drop (suc n) xs
drop-there n [] x lt e = absurd (omega arith)
drop-there zero (y ∷ xs) x lt e = ap (λ y. y ∷ xs) (sym e)
drop-there (suc n) (y ∷ xs) x lt e = drop-there n xs x (omega arith) e

one-type : (a u v w : Typ) → u ≡ function_type a v → u ≡ function_type a w → w ≡ v
one-type a u v w e f = let same : function_type a w ≡ function_type a v = sym f ∙ e in cc

-- the parameters from n on are left
pub record Within (t : Tables) (D : List Quantified) (old now : Names) (xs : List Parameter) (x : Parameter) (u v n : ℕ) : Type 0 where
  pub added : List (ℕ × Known)
  pub within : now.0 ++ now.1 ≡ added ++ (old.0 ++ old.1)
  pub whole : (e : clean.Exp poly) → FunFits (table_of t) D (all t now) (fun_of (reading t) (drop n xs) x e) (type_at t.types v)
      → FunFits (table_of t) D (all t old) (fun_of (reading t) xs x e) (type_at t.types u)
  pub back : (e : clean.Exp poly) → FunFits (table_of t) D (all t old) (fun_of (reading t) xs x e) (type_at t.types u)
      → FunFits (table_of t) D (all t now) (fun_of (reading t) (drop n xs) x e) (type_at t.types v)

pub at-first : (t : Tables) (D : List Quantified) (s : Names) (xs : List Parameter) (x : Parameter) (u : ℕ) → Within t D s s xs x u u 0
at-first t D s xs x u = record { added = []; within = refl; whole = λ e p. p; back = λ e p. p }

-- what comes in front in the same function comes in front of all
in-front : (old now new : Names) (added : List (ℕ × Known)) (r : ℕ × Known) → now.0 ++ now.1 ≡ added ++ (old.0 ++ old.1) → new ≡ (r ∷ now.0, now.1) → new.0 ++ new.1 ≡ (r ∷ added) ++ (old.0 ++ old.1)
in-front old now new added r w e = ap (λ (s : Names). s.0 ++ s.1) e ∙ ap (λ l. r ∷ l) w

taken-whole : (t : Tables) (D : List Quantified) (now new : Names) (y : Parameter) (ys : List Parameter) (x : Parameter) (v w : ℕ) (e : clean.Exp poly) → Takes t D now new y v w
    → FunFits (table_of t) D (all t new) (fun_of (reading t) ys x e) (type_at t.types w) → FunFits (table_of t) D (all t now) (fun_of (reading t) (y ∷ ys) x e) (type_at t.types v)
taken-whole t D now new y ys x v w e k p =
    (k.over, k.free, (type_at t.types w, subst (λ s. FunFits (table_of t) D (all t s) (fun_of (reading t) ys x e) (type_at t.types w)) k.is p, k.type))

taken-back : (t : Tables) (D : List Quantified) (now new : Names) (y : Parameter) (ys : List Parameter) (x : Parameter) (v w : ℕ) (e : clean.Exp poly) → Takes t D now new y v w
    → FunFits (table_of t) D (all t now) (fun_of (reading t) (y ∷ ys) x e) (type_at t.types v) → FunFits (table_of t) D (all t new) (fun_of (reading t) ys x e) (type_at t.types w)
taken-back t D now new y ys x v w e k (o, n, (r, p, i)) =
    subst (λ s. FunFits (table_of t) D (all t s) (fun_of (reading t) ys x e) (type_at t.types w)) (sym k.is)
    (subst (FunFits (table_of t) D (all t ((y.variable, OfType y.ty) ∷ now.0, now.1)) (fun_of (reading t) ys x e))
    (one-type (type_at t.types y.ty) (type_at t.types v) (type_at t.types w) r k.type i) p)

pub next-taken : (t : Tables) (D : List Quantified) (old now new : Names) (xs : List Parameter) (x y : Parameter) (u v w n : ℕ) → n < length xs → y ≡ slice_index_or xs n y → Within t D old now xs x u v n → Takes t D now new y v w
    → Within t D old new xs x u w (n + 1)
next-taken t D old now new xs x y u v w n lt e i k = subst (Within t D old new xs x u w) more (record {
  added = (y.variable, OfType y.ty) ∷ i.added;
  within = in-front old now new i.added (y.variable, OfType y.ty) i.within k.is;
  whole = λ b p. i.whole b (subst (λ ys. FunFits (table_of t) D (all t now) (fun_of (reading t) ys x b) (type_at t.types v)) (sym there) (taken-whole t D now new y (drop (suc n) xs) x v w b k p));
  back = λ b p. taken-back t D now new y (drop (suc n) xs) x v w b k (subst (λ ys. FunFits (table_of t) D (all t now) (fun_of (reading t) ys x b) (type_at t.types v)) there (i.back b p));
})
  where
    there : drop n xs ≡ y ∷ drop (suc n) xs
    there = drop-there n xs y lt e

    more : suc n ≡ n + 1
    more = omega arith

pub not-taken : (t : Tables) (D : List Quantified) (old now : Names) (xs : List Parameter) (x y : Parameter) (u v n : ℕ) → n < length xs → y ≡ slice_index_or xs n y → Within t D old now xs x u v n → TakesNone t D now y v
    → EntersNone t D old xs x u
not-taken t D old now xs x y u v n lt e i k = record {
  never = λ b p. (let q : FunFits (table_of t) D (all t now) (fun_of (reading t) (y ∷ drop (suc n) xs) x b) (type_at t.types v) =
      subst (λ ys. FunFits (table_of t) D (all t now) (fun_of (reading t) ys x b) (type_at t.types v)) (drop-there n xs y lt e) (i.back b p) in k.never q.0 q.1 q.2.0 q.2.2);
}

none-left : (xs : List Parameter) (n : ℕ) → n ≡ length xs → drop n xs ≡ []
none-left xs n e = ap (λ n. drop n xs) e ∙ all-dropped xs
  where
    all-dropped : (xs : List Parameter) → drop (length xs) xs ≡ []
    all-dropped [] = refl
    all-dropped (x ∷ xs) = all-dropped xs

pub last-taken : (t : Tables) (D : List Quantified) (old now inner new : Names) (xs : List Parameter) (x : Parameter) (u v w n : ℕ) → n ≡ length xs → Within t D old now xs x u v n → inner ≡ ([], now.0 ++ now.1)
    → Takes t D inner new x v w → Enters t D old new xs x u w
last-taken t D old now inner new xs x u v w n e i f k = record {
  added = (x.variable, OfType x.ty) ∷ i.added;
  within = in-front old inner new i.added (x.variable, OfType x.ty) (same ∙ i.within) k.is;
  whole = λ b p. i.whole b (subst (λ ys. FunFits (table_of t) D (all t now) (fun_of (reading t) ys x b) (type_at t.types v)) (sym none)
      (k.over, subst (λ s. at s x.variable ≡ None) known k.free, (type_at t.types w, there b p, k.type)));
  back = λ b p. (let q : FunFits (table_of t) D (all t now) (fun_of (reading t) [] x b) (type_at t.types v) =
      subst (λ ys. FunFits (table_of t) D (all t now) (fun_of (reading t) ys x b) (type_at t.types v)) none (i.back b p) in back b q.2.0 q.2.1 q.2.2);
}
  where
    none : drop n xs ≡ []
    none = none-left xs n e

    same : inner.0 ++ inner.1 ≡ now.0 ++ now.1
    same = ap (λ (s : Names). s.0 ++ s.1) f

    known : all t inner ≡ all t now
    known = ap (all t) f

    inside : new ≡ ((x.variable, OfType x.ty) ∷ [], now.0 ++ now.1)
    inside = k.is ∙ ap (λ (s : Names). ((x.variable, OfType x.ty) ∷ s.0, s.1)) f

    there : (b : clean.Exp poly) → ExpFits (table_of t) false D (all t new) (local t new) b (type_at t.types w)
        → ExpFits (table_of t) false D (all t ((x.variable, OfType x.ty) ∷ [], now.0 ++ now.1)) (local t ((x.variable, OfType x.ty) ∷ [], now.0 ++ now.1)) b (type_at t.types w)
    there b p = subst (λ s. ExpFits (table_of t) false D (all t s) (local t s) b (type_at t.types w)) inside p

    back : (b : clean.Exp poly) (r : Typ) → ExpFits (table_of t) false D (all t ((x.variable, OfType x.ty) ∷ [], now.0 ++ now.1)) (local t ((x.variable, OfType x.ty) ∷ [], now.0 ++ now.1)) b r
        → type_at t.types v ≡ function_type (type_at t.types x.ty) r → ExpFits (table_of t) false D (all t new) (local t new) b (type_at t.types w)
    back b r p j = subst (λ s. ExpFits (table_of t) false D (all t s) (local t s) b (type_at t.types w)) (sym inside)
        (subst (ExpFits (table_of t) false D (all t ((x.variable, OfType x.ty) ∷ [], now.0 ++ now.1)) (local t ((x.variable, OfType x.ty) ∷ [], now.0 ++ now.1)) b) (one-type (type_at t.types x.ty) (type_at t.types v) (type_at t.types w) r k.type j) p)

pub last-not-taken : (t : Tables) (D : List Quantified) (old now inner : Names) (xs : List Parameter) (x : Parameter) (u v n : ℕ) → n ≡ length xs → Within t D old now xs x u v n → inner ≡ ([], now.0 ++ now.1)
    → TakesNone t D inner x v → EntersNone t D old xs x u
last-not-taken t D old now inner xs x u v n e i f k = record {
  never = λ b p. (let q : FunFits (table_of t) D (all t now) (fun_of (reading t) [] x b) (type_at t.types v) =
      subst (λ ys. FunFits (table_of t) D (all t now) (fun_of (reading t) ys x b) (type_at t.types v)) (none-left xs n e) (i.back b p) in
      k.never q.0 (subst (λ s. at s x.variable ≡ None) (sym known) q.1) q.2.0 q.2.2);
}
  where
    known : all t inner ≡ all t now
    known = ap (all t) f

-- at the element that a loop reads
any-default : (xs : List Parameter) (n : ℕ) (d e : Parameter) → n < length xs → slice_index_or xs n d ≡ slice_index_or xs n e
any-default [] n d e lt = absurd (omega arith)
any-default (x ∷ xs) zero d e lt = refl
any-default (x ∷ xs) (suc n) d e lt = any-default xs n d e (omega arith)

pub next-read : (t : Tables) (D : List Quantified) (old now new : Names) (xs : List Parameter) (x d : Parameter) (u v w n : ℕ) → n < length xs → Within t D old now xs x u v n → Takes t D now new (slice_index_or xs n d) v w
    → Within t D old new xs x u w (n + 1)
next-read t D old now new xs x d u v w n lt i k = next-taken t D old now new xs x (slice_index_or xs n d) u v w n lt (any-default xs n d (slice_index_or xs n d) lt) i k

pub not-read : (t : Tables) (D : List Quantified) (old now : Names) (xs : List Parameter) (x d : Parameter) (u v n : ℕ) → n < length xs → Within t D old now xs x u v n → TakesNone t D now (slice_index_or xs n d) v → EntersNone t D old xs x u
not-read t D old now xs x d u v n lt i k = not-taken t D old now xs x (slice_index_or xs n d) u v n lt (any-default xs n d (slice_index_or xs n d) lt) i k
