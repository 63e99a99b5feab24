-- Parameters and names, one after the other.
use Rattle.std.proofs.Common.{◌≡◌, ◌<◌, ◌≤◌, ◌+◌, ◌↔◌, ℕ, zero, suc, Bool, true, false, ◌||◌, IsTrue, List, [], ◌∷◌, ◌++◌, length, take, drop, slice_index_or, nat_eq, None, refl, sym, ap, ap₂, ◌∙◌, subst, arith}
use Rattle.std.proofs.lemmas.Bool.{false≢true, eqb-true}
use Rattle.std.proofs.Math.Seq.{drop-length}
use Rattle.std.specs.Map.{lookup}
use Rattle.ty_core.specs.declared.mark.Mark.{Mark}
use Rattle.ty_core.specs.declared.scheme.Quantified.{Quantified}
use Rattle.ir_plain.specs.Tree as te
use Rattle.ir_poly.specs.Prog as t
use Rattle.ir_poly.specs.Tests.{poly}
use Rattle.ir_poly.specs.Types.{in_scope}
use Rattle.ir_known.specs.Knows.{marks_of}
use Rattle.ir_known.proofs.Declaring.{outside-found}
use Rattle.match_compile.specs.Compile.{Names, spot, spots, spots_named, fits_all, function, past_fun, named, each_named, scoped}
use Rattle.match_names.specs.Bindings.{names_of}
use Rattle.plain_tree.specs.TreeOf as plain
use Rattle.plain_tree.specs.declared.tree.Parameter.{Parameter}
use Rattle.prog_tree.specs.TreeOf.{Reading, after_parameters, pat_of}
use Rattle.prog_tree.specs.declared.tree.Parameter as source
use Rattle.prog_tree.specs.declared.tree.Pat.{Pat}
use Rattle.exp_steps.specs.of_match_types.Views.{View, reading, Sees}
use Rattle.exp_steps.specs.of_match_types.declared.work.Work.{Work}
use Rattle.exp_blocks.specs.Giving.{Grows, Ends, over, parameters_before}
use Rattle.exp_blocks.specs.Binding.{InScope, Bound, AllBound, Fits}
use Rattle.exp_blocks.proofs.Growing.{grows-same, grows-on, ends-same, ends-more, ends-on, ends-as, sees-named}

module _ {A : Type 0} where
  index-next : (xs : List A) (i : ℕ) (d : A) → i < length xs → drop i xs ≡ slice_index_or xs i d ∷ drop (suc i) xs
  index-next [] i d lt = absurd (omega arith)
  index-next (y ∷ xs) zero d lt = refl
  index-next (y ∷ xs) (suc i) d lt = index-next xs i d (omega arith)

  pub drop-next : (xs : List A) (i : ℕ) (d : A) → i < length xs → drop i xs ≡ slice_index_or xs i d ∷ drop (i + 1) xs
  drop-next xs i d lt = index-next xs i d lt ∙ ap (λ n. slice_index_or xs i d ∷ drop n xs) (let e : suc i ≡ i + 1 = omega arith in e)

  index-taken : (xs : List A) (i : ℕ) (d : A) → i < length xs → take (suc i) xs ≡ take i xs ++ slice_index_or xs i d ∷ []
  index-taken [] i d lt = absurd (omega arith)
  index-taken (y ∷ xs) zero d lt = refl
  index-taken (y ∷ xs) (suc i) d lt = ap (λ l. y ∷ l) (index-taken xs i d (omega arith))

  pub take-next : (xs : List A) (i : ℕ) (d : A) → i < length xs → take (i + 1) xs ≡ take i xs ++ slice_index_or xs i d ∷ []
  take-next xs i d lt = ap (λ n. take n xs) (let e : i + 1 ≡ suc i = omega arith in e) ∙ index-taken xs i d lt

-- Parameters of a declaration

or-swap : (a b c : Bool) → a || (b || c) ≡ b || (a || c)
or-swap true true c = refl
or-swap true false c = refl
or-swap false b c = refl

in-more : (qs : List Quantified) (q : Quantified) (ds : List Quantified) (x : ℕ) → in_scope ((qs ++ q ∷ []) ++ ds) x ≡ nat_eq q.variable x || in_scope (qs ++ ds) x
in-more [] q ds x = refl
in-more (p ∷ qs) q ds x = ap (λ b. nat_eq p.variable x || b) (in-more qs q ds x) ∙ or-swap (nat_eq p.variable x) (nat_eq q.variable x) (in_scope (qs ++ ds) x)

or-held : (b c : Bool) → (b ≡ true → c ≡ true) → c ≡ b || c
or-held true c h = h refl
or-held false c h = refl

pub scope-pushed : (old now new : List (ℕ × Mark)) (qs : List Quantified) (q : Quantified) (b : Bool) → (IsTrue b ↔ (lookup (nat_eq q.variable) now ≡ None)) → (b ≡ true → new ≡ (q.variable, q.mark) ∷ now)
    → (b ≡ false → new ≡ now) → InScope old now qs → InScope old new (qs ++ q ∷ [])
scope-pushed old now new qs q true iff pushed kept p = record {
  ends = ends-as old _ new (pushed refl) (ends-more (q.variable, q.mark) old now p.ends);
  scope = λ x. ap (λ l. in_scope (marks_of l) x) (pushed refl) ∙ ap (λ b. nat_eq q.variable x || b) (p.scope x) ∙ sym (in-more qs q (marks_of old) x);
}
scope-pushed old now new qs q false iff pushed kept p = record {
  ends = ends-as old now new (kept refl) p.ends;
  scope = λ x. ap (λ l. in_scope (marks_of l) x) (kept refl) ∙ p.scope x ∙ or-held (nat_eq q.variable x) (in_scope (qs ++ marks_of old) x) (λ e. ap (in_scope (qs ++ marks_of old)) (sym (eqb-true q.variable x e)) ∙ sym (p.scope q.variable) ∙ inside (in_scope (marks_of now) q.variable) refl)
      ∙ sym (in-more qs q (marks_of old) x);
}
  where
    inside : (y : Bool) → in_scope (marks_of now) q.variable ≡ y → in_scope (marks_of now) q.variable ≡ true
    inside true e = e
    inside false e = absurd (false≢true (iff.1 (outside-found now q.variable e)))

-- the next of a list
pub scope-next : (old now new : List (ℕ × Mark)) (all : List Quantified) (i : ℕ) (d : Quantified) (b : Bool) → i < length all → (IsTrue b ↔ (lookup (nat_eq (slice_index_or all i d).variable) now ≡ None))
    → (b ≡ true → new ≡ ((slice_index_or all i d).variable, (slice_index_or all i d).mark) ∷ now) → (b ≡ false → new ≡ now) → InScope old now (take i all) → InScope old new (take (i + 1) all)
scope-next old now new all i d b lt iff pushed kept p =
    subst (InScope old new) (sym (take-next all i d lt)) (scope-pushed old now new (take i all) (slice_index_or all i d) b iff pushed kept p)

pub scope-none : (old : List (ℕ × Mark)) → InScope old old []
scope-none old = record { ends = ends-same old; scope = λ x. refl }

-- Parameters of a function

before-more : (R : plain.Reading poly) (made : List Parameter) (p : Parameter) (f : te.Fun poly) → parameters_before R (made ++ p ∷ []) f ≡ parameters_before R made (te.more (R.binder p.variable) (R.type p.ty) f)
before-more R [] p f = refl
before-more R (x ∷ made) p f = ap (te.more (R.binder x.variable) (R.type x.ty)) (before-more R made p f)

-- a function's parameters and body
pub fun-before : (R : plain.Reading poly) (xs : List Parameter) (x : Parameter) (e : te.Exp poly) → plain.fun_of R xs x e ≡ parameters_before R xs (te.last (R.binder x.variable) (R.type x.ty) e)
fun-before R [] x e = refl
fun-before R (y ∷ xs) x e = ap (te.more (R.binder y.variable) (R.type y.ty)) (fun-before R xs x e)

-- the first i parameters are bound
pub record BoundTo (old now : Work) (xs : List source.Parameter) (i : ℕ) (made : List Parameter) : Type 0 where
  pub grows : Grows old now
  pub scope : now.scope ≡ old.scope
  pub ends : Ends old.names now.names
  pub past : (R : Reading) (f : t.Fun) → past_fun (after_parameters R (drop i xs) f) now.next ≡ past_fun (after_parameters R xs f) old.next
  pub gives : (v : View) → Sees now v → (f : t.Fun)
      → parameters_before (reading v) made (function v.scope v.names (after_parameters v.source (drop i xs) f) now.next) ≡ function v.scope (names_of old.names) (after_parameters v.source xs f) old.next

pub bound-none : (w : Work) (xs : List source.Parameter) (made : List Parameter) → made ≡ [] → BoundTo w w xs 0 made
bound-none w xs made none = record {
  grows = grows-same w;
  scope = refl;
  ends = ends-same w.names;
  past = λ R f. refl;
  gives = λ v s f. ap (λ l. parameters_before (reading v) l (function v.scope v.names (after_parameters v.source xs f) w.next)) none ∙ ap (λ N. function v.scope N (after_parameters v.source xs f) w.next) s.same_names;
}

pub bound-next : (old now new : Work) (xs : List source.Parameter) (i : ℕ) (d : source.Parameter) (made later : List Parameter) (p : Parameter) → i < length xs → BoundTo old now xs i made
    → Bound now new (slice_index_or xs i d) p → later ≡ made ++ p ∷ [] → BoundTo old new xs (i + 1) later
bound-next old now new xs i d made later p lt h b more = record {
  grows = grows-on old now new h.grows b.grows;
  scope = b.scope ∙ h.scope;
  ends = ends-as old.names _ new.names b.names (ends-more _ old.names now.names h.ends);
  past = λ R f. ap (past_fun (after_parameters R rest f)) b.next ∙ sym (ap (λ l. past_fun (after_parameters R l f) now.next) next) ∙ h.past R f;
  gives = λ v s f.
      let g = function v.scope v.names (after_parameters v.source rest f) new.next in
      ap (λ l. parameters_before (reading v) l g) more
      ∙ before-more (reading v) made p g
      ∙ ap₂ (λ n y. parameters_before (reading v) made (te.more n y g)) b.variable (b.type v s)
      ∙ ap₂ (λ N n. parameters_before (reading v) made (te.more now.next (scoped v.scope (v.source.type x.ty)) (function v.scope N (after_parameters v.source rest f) n))) (s.same_names ∙ ap names_of b.names) b.next
      ∙ sym (ap (λ l. parameters_before (reading v) made (function v.scope (names_of now.names) (after_parameters v.source l f) now.next)) next)
      ∙ h.gives (over v v.scope (names_of now.names)) (sees-named now new v b.grows b.scope s) f;
}
  where
    x : source.Parameter
    x = slice_index_or xs i d

    rest : List source.Parameter
    rest = drop (i + 1) xs

    next : drop i xs ≡ x ∷ rest
    next = drop-next xs i d lt

pub bound-all : (old now : Work) (xs : List source.Parameter) (i : ℕ) (made : List Parameter) → length xs ≤ i → BoundTo old now xs i made → AllBound old now xs made
bound-all old now xs i made le h = record {
  grows = h.grows;
  scope = h.scope;
  ends = h.ends;
  past = λ R f. sym (ap (λ l. past_fun (after_parameters R l f) now.next) none) ∙ h.past R f;
  gives = λ v s f. sym (ap (λ l. parameters_before (reading v) made (function v.scope v.names (after_parameters v.source l f) now.next)) none) ∙ h.gives v s f;
}
  where
    past-end : (xs : List source.Parameter) (i : ℕ) → length xs ≤ i → drop i xs ≡ []
    past-end [] zero le = refl
    past-end [] (suc i) le = refl
    past-end (x ∷ xs) zero le = absurd (omega arith)
    past-end (x ∷ xs) (suc i) le = past-end xs i (omega arith)

    none : drop i xs ≡ []
    none = past-end xs i le

-- Variables of one number

pub each-next : (xs : List ℕ) (n i k : ℕ) (N M : Names) → n ≡ i + 1 → n ≤ length xs → M ≡ each_named (drop n xs) k N → named (slice_index_or xs i 0) k M ≡ each_named (drop i xs) k N
each-next xs n i k N M e le h =
    ap (named (slice_index_or xs i 0) k) (h ∙ ap (λ m. each_named (drop m xs) k N) e) ∙ sym (ap (λ l. each_named l k N) (drop-next xs i 0 (omega arith)))

-- Patterns that any value fits

pub fits-variable : (old new : List (ℕ × ℕ)) (p : Pat) (x a : ℕ) → ((R : Reading) → pat_of R p ≡ t.variable_pat x) → new ≡ (x, a) ∷ old → Fits old new p a
fits-variable old new p x a is e = record {
  ends = ends-as old _ new e (ends-more (x, a) old old (ends-same old));
  names = λ R u n vs N fit h. ap names_of e ∙ ap (named x a) h ∙ sym (ap (λ q. spots_named (spots q u n a vs) N) (is R));
}

pub fits-as : (old mid new : List (ℕ × ℕ)) (p q : Pat) (x a : ℕ) → ((R : Reading) → pat_of R p ≡ t.as_pat x (pat_of R q)) → mid ≡ (x, a) ∷ old → Fits mid new q a → Fits old new p a
fits-as old mid new p q x a is e f = record {
  ends = ends-on old mid new (ends-as old _ mid e (ends-more (x, a) old old (ends-same old))) f.ends;
  names = λ R u n vs N fit h.
      f.names R u n (spot x a u vs) N (sym (ap fits_all (is R)) ∙ fit) (ap names_of e ∙ ap (named x a) h) ∙ sym (ap (λ q. spots_named (spots q u n a vs) N) (is R));
}

pub fits-same : (old new : List (ℕ × ℕ)) (p q : Pat) (a : ℕ) → ((R : Reading) → pat_of R p ≡ pat_of R q) → Fits old new q a → Fits old new p a
fits-same old new p q a is f = record {
  ends = f.ends;
  names = λ R u n vs N fit h. f.names R u n vs N (sym (ap fits_all (is R)) ∙ fit) h ∙ sym (ap (λ q. spots_named (spots q u n a vs) N) (is R));
}

pub fits-any : (old : List (ℕ × ℕ)) (p : Pat) (a : ℕ) → ((R : Reading) → pat_of R p ≡ t.any_pat) → Fits old old p a
fits-any old p a is = record { ends = ends-same old; names = λ R u n vs N fit h. h ∙ sym (ap (λ q. spots_named (spots q u n a vs) N) (is R)) }

pub fits-none : (old : List (ℕ × ℕ)) (p : Pat) (a : ℕ) → ((R : Reading) → fits_all (pat_of R p) ≡ false) → Fits old old p a
fits-none old p a not = record { ends = ends-same old; names = λ R u n vs N fit h. absurd (false≢true (sym (not R) ∙ fit)) }

pub each-none : (xs : List ℕ) (n k : ℕ) (N : Names) → n ≡ length xs → N ≡ each_named (drop n xs) k N
each-none xs n k N e = sym (ap (λ l. each_named l k N) (ap (λ m. drop m xs) e ∙ drop-length xs))

pub each-all : (xs : List ℕ) (n k : ℕ) (N M : Names) → n ≡ 0 → M ≡ each_named (drop n xs) k N → M ≡ each_named xs k N
each-all xs n k N M e h = h ∙ ap (λ m. each_named (drop m xs) k N) e
