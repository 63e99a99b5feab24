-- What the code's graph becomes.
use Rattle.std.proofs.Common.{◌≡◌, ◌<◌, ◌≤◌, ◌+◌, ◌++◌, ℕ, zero, suc, Bool, true, false, List, [], ◌∷◌, length, replicate, map, Option, Some, None, slice_index_or, slice_get, slice_set, nat_eq, refl, sym, ap, ◌∙◌, subst, arith, append-nil, Vec, Global}
use Rattle.std.specs.Prelude.{position, if◌then◌else◌}
use Rattle.std.specs.List.{list_any}
use Rattle.std.proofs.lemmas.List.{map-set, length-map, length-append, map-append, get_or_past}
use Rattle.std.proofs.lemmas.Bool.{cases_lt, eqb-true, eq-eqb, or_parts}
use Rattle.std.proofs.lemmas.List.Quantifiers.{position-Some}
use Rattle.std.proofs.lemmas.Option.{slice_get-get_or}
use mathlib.Core.Logic.{◌⊎◌, inl, inr}
use Rattle.datatype_equality.specs.Falling.{resting}
use Rattle.datatype_equality.specs.Graph.{Graph, HasVertex, HasEdge}

abbrev pub items_of : Vec ℕ Global → List ℕ
items_of l = l.items

abbrev pub graph_of : List ℕ → List (Vec ℕ Global) → List ℕ → Graph
graph_of asked rests fails = record { asked = asked; edges = map items_of rests; fails = fails }

pub edge-made : (asked : List ℕ) (rests : List (Vec ℕ Global)) (fails : List ℕ) (v w : ℕ) (old : Graph) (before pushed : Vec ℕ Global) → graph_of asked rests fails ≡ old
    → before ≡ slice_index_or rests v before → v < length rests → pushed.items ≡ before.items ++ w ∷ [] → HasEdge v w old (graph_of asked (slice_set rests v pushed) fails)
edge-made asked rests fails v w old before pushed e b lt p = record {
  asked = ap (λ g. g.asked) e;
  edges = map-set items_of rests v pushed ∙ ap (λ l. slice_set (map items_of rests) v l) (p ∙ ap (λ l. l ++ w ∷ []) (item rests v lt b)) ∙ ap (λ g. slice_set g.edges v (resting g.edges v ++ w ∷ [])) e;
  fails = ap (λ g. g.fails) e;
}
  where
    item : (rests : List (Vec ℕ Global)) (v : ℕ) → v < length rests → before ≡ slice_index_or rests v before → before.items ≡ resting (map items_of rests) v
    item [] v lt b = elim lt [ ]
    item (r ∷ rests) zero lt b = ap items_of b
    item (r ∷ rests) (suc v) lt b = item rests v (omega (arith, lt)) b

-- the first number that is k, where it is at all
position-is : (xs : List ℕ) (k p : ℕ) → position (nat_eq k) xs ≡ Some p → slice_get xs p ≡ Some k
position-is xs k p e = let r = position-Some (nat_eq k) xs p 0 e in slice_get-get_or xs p 0 r.0 ∙ ap Some (sym (eqb-true k (slice_index_or xs p 0) r.1))

-- where a test finds nothing, the number is nowhere
nowhere : (xs : List ℕ) (k i : ℕ) → list_any (nat_eq k) xs ≡ false → slice_get xs i ≡ Some k → ⊥
nowhere [] k i n e = absurd (cc)
nowhere (x ∷ xs) k zero n e = let f : x ≡ k = cc in let t = eq-eqb k x (sym f) in let o = (or_parts (nat_eq k x) (list_any (nat_eq k) xs) n).0 in absurd (cc)
nowhere (x ∷ xs) k (suc i) n e = nowhere xs k i (or_parts (nat_eq k x) (list_any (nat_eq k) xs) n).1 e

pub vertex-known : (count k : ℕ) (asked : List ℕ) (rests : List (Vec ℕ Global)) (fails : List ℕ) (old : Graph) (pending : List ℕ) (p : ℕ) → graph_of asked rests fails ≡ old → Some p ≡ position (nat_eq k) asked
    → HasVertex count k old old pending pending (count + p)
vertex-known count k asked rests fails old pending p e f = record {
  extra = [];
  known_or_new = inl refl;
  asked = sym (append-nil old.asked);
  size = omega arith;
  same_edges = λ x. refl;
  same_fails = refl;
  pushed = sym (append-nil pending);
  position = p;
  is = refl;
  there = subst (λ g. slice_get g.asked p ≡ Some k) e (position-is asked k p (sym f));
}

resting-pushed : (edges : List (List ℕ)) (x : ℕ) → resting (edges ++ [] ∷ []) x ≡ resting edges x
resting-pushed [] zero = refl
resting-pushed [] (suc x) = refl
resting-pushed (l ∷ edges) zero = refl
resting-pushed (l ∷ edges) (suc x) = resting-pushed edges x

last-is : (xs : List ℕ) (k : ℕ) → slice_get (xs ++ k ∷ []) (length xs) ≡ Some k
last-is [] k = refl
last-is (x ∷ xs) k = last-is xs k

pub vertex-new : (count k : ℕ) (asked asked' : List ℕ) (rests rests' : List (Vec ℕ Global)) (fails : List ℕ) (old : Graph) (pending after : List ℕ) (empty : Vec ℕ Global) (v : ℕ)
    → graph_of asked rests fails ≡ old → list_any (nat_eq k) asked ≡ false → asked' ≡ (if list_any (nat_eq k) asked then asked else asked ++ k ∷ []) → empty.items ≡ [] → rests' ≡ rests ++ empty ∷ [] → after ≡ pending ++ k ∷ []
    → v ≡ count + length asked → HasVertex count k old (graph_of asked' rests' fails) pending after v
vertex-new count k asked asked' rests rests' fails old pending after empty v e n a i r p s = record {
  extra = k ∷ [];
  known_or_new = inr (refl, λ j h. nowhere asked k j n (subst (λ g. slice_get g.asked j ≡ Some k) (sym e) h));
  asked = now ∙ ap (λ g. g.asked ++ k ∷ []) e;
  size = let l = ap length edges ∙ length-append old.edges ([] ∷ []) in omega (arith, l);
  same_edges = λ x. ap (λ l. resting l x) edges ∙ resting-pushed old.edges x;
  same_fails = ap (λ g. g.fails) e;
  pushed = p;
  position = length asked;
  is = s;
  there = subst (λ l. slice_get l (length asked) ≡ Some k) (sym now) (last-is asked k);
}
  where
    now : asked' ≡ asked ++ k ∷ []
    now = a ∙ ap (λ b. if b then asked else asked ++ k ∷ []) n

    edges : map items_of rests' ≡ old.edges ++ [] ∷ []
    edges = ap (map items_of) r ∙ map-append items_of rests (empty ∷ []) ∙ ap (λ l. map items_of rests ++ l ∷ []) i ∙ ap (λ g. g.edges ++ [] ∷ []) e

pub within-rests : (asked : List ℕ) (rests : List (Vec ℕ Global)) (fails : List ℕ) (v : ℕ) (old : Graph) → graph_of asked rests fails ≡ old → v < length old.edges → v < length rests
within-rests asked rests fails v old e lt = let n = length-map rests items_of in let h = subst (λ g. v < length g.edges) (sym e) lt in omega (arith, h, n)
