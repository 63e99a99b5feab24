-- Heads of functions, the last function's first.
use Rattle.std.proofs.Common.{◌≡◌, ◌<◌, ◌≤◌, ◌+◌, ◌-◌, ℕ, List, [], ◌∷◌, ◌++◌, map, drop, length, get_or, refl, sym, ap, subst, ◌∙◌, arith}
use Rattle.std.specs.Prelude.{reverse}
use Rattle.std.specs.List.{AllByRecursion}
use Rattle.std.proofs.lemmas.List.{get_or-reverse, length-map, length-reverse, reverse-reverse}
use Rattle.sml_tree.specs.BareTree as bare
use Rattle.sml_tree.specs.TreeOf.{RuleOf}
use Rattle.vid_scope.specs.Entries.{mark_of}
use Rattle.vid_scope.specs.declared.vids.VidMark.{VidMark}
use Rattle.elab_types.proofs.Lists.{drop-next}
use Rattle.elab_state.specs.declared.state.State.{State}
use Rattle.elab_steps.specs.Growing.{Grows, HasType}
use Rattle.elab_steps.proofs.Growing.{type_later}
use Rattle.elab_context.specs.Telling.{IsContext}
use Rattle.elab_context.specs.declared.context.Context.{Context}
use Rattle.elab_context.proofs.Reading.{context_later}
use Rattle.pat_elab.specs.Elaborated.{AreVariables}
use Rattle.pat_elab.proofs.Forms.{all-later}
use Rattle.general_decs.specs.of_rec_groups.Heads.{AreReserved, IsReserved, none_reserved, one_reserved, with_own}
use Rattle.general_decs.specs.of_rec_groups.declared.head.Head.{Head}
use Rattle.general_decs.proofs.of_rec_groups.Entering.{all-reversed}
use Rattle.general_decs.proofs.of_rec_groups.Reserving.{reverse-last}
use Rattle.general_decs.proofs.Functions.{reserved-grows}
use Rattle.elab_exps.specs.Decs.{StandsIn}
use Rattle.elab_exps.specs.Groups.{HasHead, HaveHeads}

-- the functions from the i-th on have heads
pub record HeadsSoFar (S : State) (C : Context) (gs : List RuleOf) (i : ℕ) (T : State) (hs : List Head) : Type 0 where
  pub most : i ≤ length gs
  pub are : AreReserved S C (map (λ r. r.pat) (drop i gs)) T (reverse hs)

all-dropped : {A : Type 0} (xs : List A) → drop (length xs) xs ≡ []
all-dropped [] = refl
all-dropped (x ∷ xs) = all-dropped xs

pub heads_begin : {A : Type 0} (f : A → RuleOf) (S : State) (C : Context) (xs : List A) (i : ℕ) (hs : List Head) → i ≡ length xs → hs ≡ [] → HeadsSoFar S C (map f xs) i S hs
heads_begin f S C xs i hs e q =
    let n : i ≡ length (map f xs) = e ∙ sym (length-map xs f) in
    record {
      most = omega (arith, n);
      are = subst (λ (l : List RuleOf). AreReserved S C (map (λ r. r.pat) l) S (reverse hs)) (sym (ap (λ k. drop k (map f xs)) n ∙ all-dropped (map f xs)))
          (subst (λ (l : List Head). AreReserved S C [] S (reverse l)) (sym q) none_reserved);
    }

get-map : {A B : Type 0} (f : A → B) (xs : List A) (i : ℕ) (x : A) (y : B) → i < length xs → get_or (map f xs) i y ≡ f (get_or xs i x)
get-map f [] i x y lt = absurd (omega (arith, lt))
get-map f (z ∷ xs) ℕ.zero x y lt = refl
get-map f (z ∷ xs) (ℕ.suc i) x y lt = get-map f xs i x y (omega (arith, lt))

pub heads_more : {A : Type 0} (f : A → RuleOf) (S M T : State) (C : Context) (xs : List A) (i : ℕ) (x : A) (a : bare.Pat) (h : Head) (old new : List Head) → 0 < i
    → x ≡ get_or xs (i - 1) x → (f x).pat ≡ a → HeadsSoFar S C (map f xs) i M old → IsReserved M C a T h → new ≡ old ++ h ∷ [] → HeadsSoFar S C (map f xs) (i - 1) T new
heads_more f S M T C xs i x a h old new pos is e before one q =
    let m = before.most in
    let n = length-map xs f in
    let up : (i - 1) + 1 ≡ i = omega (arith, pos) in
    let at : f x ≡ get_or (map f xs) (i - 1) (f x) = ap f is ∙ sym (get-map f xs (i - 1) x (f x) (omega (arith, m, n, pos))) in
    let next : drop (i - 1) (map f xs) ≡ f x ∷ drop i (map f xs) =
    drop-next (map f xs) (i - 1) (f x) (omega (arith, m, pos)) at ∙ ap (λ k. f x ∷ drop k (map f xs)) up in
    record {
      most = omega (arith, m);
      are = subst (λ (l : List RuleOf). AreReserved S C (map (λ r. r.pat) l) T (reverse new)) (sym next)
          (subst (λ l. AreReserved S C ((f x).pat ∷ map (λ r. r.pat) (drop i (map f xs))) T l) (sym (ap reverse q ∙ reverse-last old h))
          (one_reserved before.are (subst (λ z. IsReserved M C z T h) (sym e) one)));
    }

pub heads_end : (S T : State) (C : Context) (gs : List RuleOf) (i : ℕ) (hs : List Head) → i ≤ 0 → HeadsSoFar S C gs i T hs → AreReserved S C (map (λ r. r.pat) gs) T (reverse hs)
heads_end S T C gs i hs le h = let z : i ≡ 0 = omega (arith, le) in subst (λ k. AreReserved S C (map (λ r. r.pat) (drop k gs)) T (reverse hs)) z h.are

pub heads_context : (S T : State) (C : Context) (gs : List RuleOf) (i : ℕ) (hs : List Head) → IsContext S C → HeadsSoFar S C gs i T hs → IsContext T C
heads_context S T C gs i hs c h = context_later S T C (reserved-grows h.are) c

-- what a state has of heads

pub heads_later : (S T : State) → Grows S T → (hs : List Head) → HaveHeads S hs → HaveHeads T hs
heads_later S T g [] k = tt
heads_later S T g (h ∷ hs) k = (record { is = type_later S T h.ty g k.0.is; variables = all-later S T g h.variables.items k.0.variables }, heads_later S T g hs k.1)

have-each : {S T : State} {C : Context} {as_ : List bare.Pat} {hs : List Head} → AreReserved S C as_ T hs → HaveHeads T hs
have-each none_reserved = tt
have-each {T = T} (one_reserved {M = M} {h = h} {hs = hs} r o) = (record { is = o.is; variables = o.reserves.have }, heads_later M T o.reserves.grows hs (have-each r))

as-reversed : {A : Type 0} (P : A → Type 0) (xs : List A) → AllByRecursion P (reverse xs) → AllByRecursion P xs
as-reversed P xs h = subst (AllByRecursion P) (reverse-reverse xs) (all-reversed P (reverse xs) h)

pub heads_have : (S T U : State) (C : Context) (as_ : List bare.Pat) (hs : List Head) → AreReserved S C as_ T (reverse hs) → Grows T U → HaveHeads U hs
heads_have S T U C as_ hs r g = heads_later T U g hs (as-reversed (HasHead T) hs (have-each r))

count-each : {S T : State} {C : Context} {as_ : List bare.Pat} {hs : List Head} → AreReserved S C as_ T hs → length hs ≡ length as_
count-each none_reserved = refl
count-each (one_reserved r o) = ap ℕ.suc (count-each r)

pub heads_count : {A : Type 0} (f : A → RuleOf) (S T : State) (C : Context) (xs : List A) (hs : List Head) → AreReserved S C (map (λ r. r.pat) (map f xs)) T (reverse hs)
    → length hs ≡ length xs
heads_count f S T C xs hs r = sym (length-reverse hs) ∙ count-each r ∙ length-map (map f xs) (λ (r : RuleOf). r.pat) ∙ length-map xs f

-- a head by its place

pub head-place : (n i : ℕ) → i < n → n - 1 - i < n
head-place n i lt = omega (arith, lt)

pub head-is : (hs : List Head) (i : ℕ) (h : Head) → i < length hs → h ≡ get_or hs (length hs - 1 - i) h → h ≡ get_or (reverse hs) i h
head-is hs i h lt e = e ∙ sym (get_or-reverse hs i h lt)

pub head-held : (S : State) (hs : List Head) (i : ℕ) (h : Head) → HaveHeads S hs → i < length hs → h ≡ get_or (reverse hs) i h → HasType S h.ty
head-held S hs i h all lt e =
    subst (λ (z : Head). HasType S z.ty) (sym e) (at (reverse hs) i (all-reversed (HasHead S) hs all) (let n = length-reverse hs in omega (arith, n, lt)))
  where
    at : (xs : List Head) (i : ℕ) → HaveHeads S xs → i < length xs → HasType S (get_or xs i h).ty
    at [] i k lt = absurd (omega (arith, lt))
    at (x ∷ xs) ℕ.zero k lt = k.0.is
    at (x ∷ xs) (ℕ.suc i) k lt = at xs i k.1 (omega (arith, lt))

-- the group in scope

variables-of : (S : State) (hs : List Head) → HaveHeads S hs → AllByRecursion (λ h. AreVariables S h.variables.items) hs
variables-of S [] k = tt
variables-of S (h ∷ hs) k = (k.0.variables, variables-of S hs k.1)

pub group_stands : (S : State) (C D : Context) (hs : List Head) → D ≡ with_own C (reverse hs)
    → (IsContext S C → AllByRecursion (λ h. AreVariables S h.variables.items) hs → IsContext S D) → StandsIn S C → HaveHeads S hs → StandsIn S D
group_stands S C D hs e context h k = record {
  context = context h.context (variables-of S hs k);
  level = h.level ∙ ap (λ (z : Context). z.level) (sym e);
}

pub mark_is : {V : Type 0} (s : Rattle.vid_scope.specs.declared.vids.VidScope.VidScope V) (m : VidMark) → m.named ≡ length s.named → m.fresh ≡ length s.fresh → m.equals ≡ length s.equals → m ≡ mark_of s
mark_is s m a b c = λ i. record { named = a i; fresh = b i; equals = c i }
