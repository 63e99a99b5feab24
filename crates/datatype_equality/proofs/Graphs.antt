-- What keeps while types are asked.
use Rattle.std.proofs.Common.{◌≡◌, ◌<◌, ◌≤◌, ◌+◌, ◌-◌, ◌*◌, ◌++◌, ℕ, zero, suc, Bool, true, false, not, List, [], ◌∷◌, length, Option, Some, None, slice_index_or, slice_get, slice_set, nat_lt, Contains, if◌then◌else◌, refl, sym, ap, ◌∙◌, subst, arith, append-nil}
use Rattle.std.proofs.lemmas.List.{get_or-set_same, get_or-set_other, length-set, length-append, get_or_append_left, get_or-append-add, get_or_past}
use Rattle.std.proofs.lemmas.List.Elements.{Contains-append_left, Contains-append_right, Contains-push_cases, Contains-push, Contains-append_cases}
use Rattle.std.proofs.lemmas.Option.{slice_get_within, get_or_from_slice_get}
use Rattle.std.proofs.lemmas.Bool.{cases_eq, cases_lt, ltb-true, ltb-false}
use mathlib.Core.Logic.{◌⊎◌, inl, inr}
use Rattle.ty_core.specs.Types.{Typ, Symbol, admits}
use Rattle.ty_table.specs.TypeAt.{type_at}
use Rattle.datatype_equality.specs.declared.argument.Argument.{Argument}
use Rattle.datatype_equality.specs.declared.graph.Rule.{Rule}
use Rattle.datatype_equality.specs.declared.graph.Rule.TheVariants.{Admits, Refuses, Parts, New}
use Rattle.datatype_equality.specs.Falling.{resting, Spreads}
use Rattle.datatype_equality.specs.Respects.{type_with, every_parameter, Respects}
use Rattle.datatype_equality.specs.Holding.{IsMore, total, type_good, good, Holds, Rested}
use Rattle.datatype_equality.specs.Graph.{Graph, HasVertex, HasEdge, RestsOn, IsRuled, IsOpen, is_variable, is_ruled, rule_of, with_fail}

get-append : (xs ys : List ℕ) (i k : ℕ) → slice_get xs i ≡ Some k → slice_get (xs ++ ys) i ≡ Some k
get-append [] ys i k e = absurd (cc)
get-append (x ∷ xs) ys zero k e = e
get-append (x ∷ xs) ys (suc i) k e = get-append xs ys i k e

-- what stands last
get-last : (xs : List ℕ) (x i k : ℕ) → slice_get (xs ++ x ∷ []) i ≡ Some k → (slice_get xs i ≡ Some k) ⊎ ((i ≡ length xs) × (k ≡ x))
get-last [] x zero k e = inr (refl, cc)
get-last [] x (suc i) k e = absurd (cc)
get-last (y ∷ xs) x zero k e = inl e
get-last (y ∷ xs) x (suc i) k e = next (get-last xs x i k e)
  where
    next : (slice_get xs i ≡ Some k) ⊎ ((i ≡ length xs) × (k ≡ x)) → (slice_get xs i ≡ Some k) ⊎ ((suc i ≡ suc (length xs)) × (k ≡ x))
    next (inl h) = inl h
    next (inr h) = inr (ap suc h.0, h.1)

module _ (ts : List Typ) (first count : ℕ) where
  open-more : (G H : Graph) (k v : ℕ) → IsMore G H → IsOpen ts first count G k v → IsOpen ts first count H k v
  open-more G H k v m (is_variable e) = is_variable e
  open-more G H k v m (is_ruled {h} parts e r) = is_ruled parts e (by (rule_of first count h) r)
    where
      rests : RestsOn ts first count G parts v → RestsOn ts first count H parts v
      rests f x c = let r = f x c in (r.0, m.asked r.0 x r.1, m.edges (count + r.0) v r.2)

      by : (r : Rule) → IsRuled ts first count G r parts v → IsRuled ts first count H r parts v
      by Admits r = r
      by Refuses r = m.fails v r
      by Parts r = rests r
      by (New j) r = (m.edges j v r.0, rests r.1)

  pub good-type : (asked : List ℕ) (qs : List Bool) (p k : ℕ) → slice_get asked p ≡ Some k → good ts first count asked qs (count + p) ≡ type_good ts first count qs k
  good-type asked qs p k e = go (nat_lt (count + p) count) refl
    where
      go : (b : Bool) → nat_lt (count + p) count ≡ b → (if b then slice_index_or qs (count + p) false else type_good ts first count qs (slice_index_or asked (count + p - count) 0)) ≡ type_good ts first count qs k
      go true i = absurd (omega (arith, ltb-true (count + p) count i))
      go false i = let n : count + p - count ≡ p = omega arith in ap (λ x. type_good ts first count qs (slice_index_or asked x 0)) n ∙ ap (type_good ts first count qs) (get_or_from_slice_get asked p k 0 e)

  pub good-name : (asked : List ℕ) (qs : List Bool) (j : ℕ) → j < count → good ts first count asked qs j ≡ slice_index_or qs j false
  good-name asked qs j lt = go (nat_lt j count) refl
    where
      go : (b : Bool) → nat_lt j count ≡ b → (if b then slice_index_or qs j false else type_good ts first count qs (slice_index_or asked (j - count) 0)) ≡ slice_index_or qs j false
      go true i = refl
      go false i = absurd (omega (arith, ltb-false j count i, lt))

  pub good-more : (asked extra : List ℕ) (qs : List Bool) (v : ℕ) → v < count + length asked → good ts first count (asked ++ extra) qs v ≡ good ts first count asked qs v
  good-more asked extra qs v lt = go (nat_lt v count) refl
    where
      go : (b : Bool) → nat_lt v count ≡ b
          → (if b then slice_index_or qs v false else type_good ts first count qs (slice_index_or (asked ++ extra) (v - count) 0))
          ≡ (if b then slice_index_or qs v false else type_good ts first count qs (slice_index_or asked (v - count) 0))
      go true i = refl
      go false i = ap (type_good ts first count qs) (get_or_append_left asked extra 0 (v - count) (omega (arith, ltb-false v count i, lt)))

  module _ (args : List Argument) where
    pub vertex-more : (G H : Graph) (k v : ℕ) (pending after : List ℕ) → HasVertex count k G H pending after v → IsMore G H
    vertex-more G H k v pending after h = record {
      asked = λ i x e. subst (λ l. slice_get l i ≡ Some x) (sym h.asked) (get-append G.asked h.extra i x e);
      edges = λ x w c. subst (λ l. Contains l w) (sym (h.same_edges x)) c;
      fails = λ w c. subst (λ l. Contains l w) (sym h.same_fails) c;
    }

    -- a type gets a vertex
    pub vertex-holds : (G H : Graph) (k v : ℕ) (done : List Argument) (pending after : List ℕ) → HasVertex count k G H pending after v → Holds ts first count args G done pending → Holds ts first count args H done after
    vertex-holds G H k v done pending after h g = record {
      size = let e = ap length h.asked ∙ length-append G.asked h.extra in omega (arith, h.size, g.size, e);
      once = once;
      targets = λ x w c. let lt = g.targets x w (subst (λ l. Contains l w) (h.same_edges x) c) in omega (arith, lt, h.size);
      failing = λ w c. let lt = g.failing w (subst (λ l. Contains l w) h.same_fails c) in omega (arith, lt, h.size);
      right = right;
      opened = opened;
      waiting = λ x c. waits x (Contains-append_cases pending h.extra x (subst (λ l. Contains l x) h.pushed c));
      argued = λ a c. let r = g.argued a c in (r.0, (r.1.0, more.asked r.1.0 a.ty r.1.1, more.edges (count + r.1.0) a.datatype r.1.2));
    }
      where
        more : IsMore G H
        more = vertex-more G H k v pending after h

        -- a new one is k
        only : (x : ℕ) → Contains h.extra x → x ≡ k
        only x c = by h.known_or_new
          where
            by : (h.extra ≡ []) ⊎ ((h.extra ≡ k ∷ []) × ((j : ℕ) → slice_get G.asked j ≡ Some k → ⊥)) → x ≡ k
            by (inl n) = absurd (let lt = c.1 in let m = ap length n in omega (arith, lt, m))
            by (inr n) = one (Contains-push_cases [] k x (subst (λ l. Contains l x) n.0 c))
              where
                one : Contains [] x ⊎ (k ≡ x) → x ≡ k
                one (inl d) = absurd (let lt = d.1 in omega (arith, lt))
                one (inr d) = sym d

        waits : (x : ℕ) → Contains pending x ⊎ Contains h.extra x → (i : ℕ) × (slice_get H.asked i ≡ Some x)
        waits x (inl c) = let r = g.waiting x c in (r.0, more.asked r.0 x r.1)
        waits x (inr c) = (h.position, h.there ∙ ap Some (sym (only x c)))

        -- where a number stands afterwards
        stood : (i x : ℕ) → slice_get H.asked i ≡ Some x → (slice_get G.asked i ≡ Some x) ⊎ ((i ≡ length G.asked) × (x ≡ k) × (h.extra ≡ k ∷ []) × ((j : ℕ) → slice_get G.asked j ≡ Some k → ⊥))
        stood i x e = by h.known_or_new
          where
            by : (h.extra ≡ []) ⊎ ((h.extra ≡ k ∷ []) × ((j : ℕ) → slice_get G.asked j ≡ Some k → ⊥))
                → (slice_get G.asked i ≡ Some x) ⊎ ((i ≡ length G.asked) × (x ≡ k) × (h.extra ≡ k ∷ []) × ((j : ℕ) → slice_get G.asked j ≡ Some k → ⊥))
            by (inl n) = inl (subst (λ l. slice_get l i ≡ Some x) (h.asked ∙ ap (λ l. G.asked ++ l) n ∙ append-nil G.asked) e)
            by (inr n) = last (get-last G.asked k i x (subst (λ l. slice_get l i ≡ Some x) (h.asked ∙ ap (λ l. G.asked ++ l) n.0) e))
              where
                last : (slice_get G.asked i ≡ Some x) ⊎ ((i ≡ length G.asked) × (x ≡ k))
                    → (slice_get G.asked i ≡ Some x) ⊎ ((i ≡ length G.asked) × (x ≡ k) × (h.extra ≡ k ∷ []) × ((j : ℕ) → slice_get G.asked j ≡ Some k → ⊥))
                last (inl q) = inl q
                last (inr q) = inr (q.0, q.1, n.0, n.1)

        once : (i j x : ℕ) → slice_get H.asked i ≡ Some x → slice_get H.asked j ≡ Some x → i ≡ j
        once i j x e f = by (stood i x e) (stood j x f)
          where
            by : (slice_get G.asked i ≡ Some x) ⊎ ((i ≡ length G.asked) × (x ≡ k) × (h.extra ≡ k ∷ []) × ((j : ℕ) → slice_get G.asked j ≡ Some k → ⊥))
                → (slice_get G.asked j ≡ Some x) ⊎ ((j ≡ length G.asked) × (x ≡ k) × (h.extra ≡ k ∷ []) × ((j : ℕ) → slice_get G.asked j ≡ Some k → ⊥)) → i ≡ j
            by (inl p) (inl q) = g.once i j x p q
            by (inl p) (inr q) = absurd (q.3 i (p ∙ ap Some q.1))
            by (inr p) (inl q) = absurd (p.3 j (q ∙ ap Some p.1))
            by (inr p) (inr q) = p.0 ∙ sym q.0

        same-good : (qs : List Bool) (w : ℕ) → w < length G.edges → good ts first count H.asked qs w ≡ good ts first count G.asked qs w
        same-good qs w lt = ap (λ l. good ts first count l qs w) h.asked ∙ good-more G.asked h.extra qs w (omega (arith, lt, g.size))

        -- a new vertex has nothing that rests on it
        source : (x w : ℕ) → Contains (resting G.edges x) w → x < length G.edges
        source x w c = by (cases_lt x (length G.edges))
          where
            by : (x < length G.edges) ⊎ (length G.edges ≤ x) → x < length G.edges
            by (inl lt) = lt
            by (inr le) = absurd (let lt = c.1 in let n = ap length (get_or_past G.edges x [] le) in omega (arith, lt, n))

        right : (qs : List Bool) → length qs ≡ count → Respects first ts args qs → Spreads H.edges H.fails (λ w. not (good ts first count H.asked qs w))
        right qs n r = let s = g.right qs n r in record {
          starts = λ w c. let d = subst (λ l. Contains l w) h.same_fails c in ap not (same-good qs w (g.failing w d)) ∙ s.starts w d;
          rest = λ x w e c. let d = subst (λ l. Contains l w) (h.same_edges x) c in
              ap not (same-good qs w (g.targets x w d)) ∙ s.rest x w (ap not (sym (same-good qs x (source x w d))) ∙ e) d;
        }

        opened : (i x : ℕ) → slice_get H.asked i ≡ Some x → IsOpen ts first count H x (count + i) ⊎ Contains after x
        opened i x e = by (stood i x e)
          where
            old : IsOpen ts first count G x (count + i) ⊎ Contains pending x → IsOpen ts first count H x (count + i) ⊎ Contains after x
            old (inl o) = inl (open-more G H x (count + i) more o)
            old (inr c) = inr (subst (λ l. Contains l x) (sym h.pushed) (Contains-append_left pending h.extra x c))

            by : (slice_get G.asked i ≡ Some x) ⊎ ((i ≡ length G.asked) × (x ≡ k) × (h.extra ≡ k ∷ []) × ((j : ℕ) → slice_get G.asked j ≡ Some k → ⊥))
                → IsOpen ts first count H x (count + i) ⊎ Contains after x
            by (inl p) = old (g.opened i x p)
            by (inr p) = inr (subst (λ l. Contains l x) (sym (h.pushed ∙ ap (λ l. pending ++ l) p.2)) (subst (λ y. Contains (pending ++ k ∷ []) y) (sym p.1) (Contains-push pending k)))

    edge-at : (G H : Graph) (v w : ℕ) → HasEdge v w G H → v < length G.edges → (x : ℕ) → ((x ≡ v) × (resting H.edges x ≡ resting G.edges x ++ w ∷ [])) ⊎ (resting H.edges x ≡ resting G.edges x)
    edge-at G H v w h lt x = by (cases_eq x v)
      where
        by : (x ≡ v) ⊎ (x ≡ v → ⊥) → ((x ≡ v) × (resting H.edges x ≡ resting G.edges x ++ w ∷ [])) ⊎ (resting H.edges x ≡ resting G.edges x)
        by (inl i) = inl (
          i,
          ap (λ l. resting l x) h.edges ∙ ap (resting (slice_set G.edges v (resting G.edges v ++ w ∷ []))) i
              ∙ get_or-set_same G.edges v (resting G.edges v ++ w ∷ []) [] lt ∙ ap (λ y. resting G.edges y ++ w ∷ []) (sym i),
        )
        by (inr n) = inr (ap (λ l. resting l x) h.edges ∙ get_or-set_other G.edges v x (resting G.edges v ++ w ∷ []) [] n)

    -- what rests on x afterwards
    edge-cases : (G H : Graph) (v w : ℕ) → HasEdge v w G H → v < length G.edges → (x y : ℕ) → Contains (resting H.edges x) y → Contains (resting G.edges x) y ⊎ ((x ≡ v) × (y ≡ w))
    edge-cases G H v w h lt x y c = by (edge-at G H v w h lt x)
      where
        by : ((x ≡ v) × (resting H.edges x ≡ resting G.edges x ++ w ∷ [])) ⊎ (resting H.edges x ≡ resting G.edges x) → Contains (resting G.edges x) y ⊎ ((x ≡ v) × (y ≡ w))
        by (inl i) = last (Contains-push_cases (resting G.edges x) w y (subst (λ l. Contains l y) i.1 c))
          where
            last : Contains (resting G.edges x) y ⊎ (w ≡ y) → Contains (resting G.edges x) y ⊎ ((x ≡ v) × (y ≡ w))
            last (inl d) = inl d
            last (inr e) = inr (i.0, sym e)
        by (inr i) = inl (subst (λ l. Contains l y) i c)

    pub edge-more : (G H : Graph) (v w : ℕ) → HasEdge v w G H → v < length G.edges → IsMore G H
    edge-more G H v w h lt = record {
      asked = λ i k e. subst (λ l. slice_get l i ≡ Some k) (sym h.asked) e;
      edges = λ x y c. by x y c (edge-at G H v w h lt x);
      fails = λ y c. subst (λ l. Contains l y) (sym h.fails) c;
    }
      where
        by : (x y : ℕ) → Contains (resting G.edges x) y → ((x ≡ v) × (resting H.edges x ≡ resting G.edges x ++ w ∷ [])) ⊎ (resting H.edges x ≡ resting G.edges x) → Contains (resting H.edges x) y
        by x y c (inl i) = subst (λ l. Contains l y) (sym i.1) (Contains-append_left (resting G.edges x) (w ∷ []) y c)
        by x y c (inr i) = subst (λ l. Contains l y) (sym i) c

    pub edge-there : (G H : Graph) (v w : ℕ) → HasEdge v w G H → v < length G.edges → Contains (resting H.edges v) w
    edge-there G H v w h lt = subst (λ l. Contains l w) (sym (ap (λ l. resting l v) h.edges ∙ get_or-set_same G.edges v (resting G.edges v ++ w ∷ []) [] lt)) (Contains-push (resting G.edges v) w)

    -- w comes to rest on v, where it isn't good unless v is
    pub edge-holds : (G H : Graph) (v w : ℕ) (done : List Argument) (pending : List ℕ) → HasEdge v w G H → v < length G.edges → w < length G.edges
        → ((qs : List Bool) → length qs ≡ count → Respects first ts args qs → good ts first count G.asked qs v ≡ false → good ts first count G.asked qs w ≡ false)
        → Holds ts first count args G done pending → Holds ts first count args H done pending
    edge-holds G H v w done pending h lt lw f g = record {
      size = same-size ∙ g.size ∙ ap (λ l. count + length l) (sym h.asked);
      once = λ i j k e d. g.once i j k (subst (λ l. slice_get l i ≡ Some k) h.asked e) (subst (λ l. slice_get l j ≡ Some k) h.asked d);
      targets = λ x y c. subst (λ n. y < n) (sym same-size) (target x y (edge-cases G H v w h lt x y c));
      failing = λ y c. subst (λ n. y < n) (sym same-size) (g.failing y (subst (λ l. Contains l y) h.fails c));
      right = right;
      opened = λ i k e. opened i k (g.opened i k (subst (λ l. slice_get l i ≡ Some k) h.asked e));
      waiting = λ x c. let r = g.waiting x c in (r.0, more.asked r.0 x r.1);
      argued = λ a c. let r = g.argued a c in (r.0, (r.1.0, more.asked r.1.0 a.ty r.1.1, more.edges (count + r.1.0) a.datatype r.1.2));
    }
      where
        more : IsMore G H
        more = edge-more G H v w h lt

        same-size : length H.edges ≡ length G.edges
        same-size = ap length h.edges ∙ length-set G.edges v (resting G.edges v ++ w ∷ [])

        target : (x y : ℕ) → Contains (resting G.edges x) y ⊎ ((x ≡ v) × (y ≡ w)) → y < length G.edges
        target x y (inl c) = g.targets x y c
        target x y (inr i) = subst (λ z. z < length G.edges) (sym i.1) lw

        right : (qs : List Bool) → length qs ≡ count → Respects first ts args qs → Spreads H.edges H.fails (λ y. not (good ts first count H.asked qs y))
        right qs n r = let s = g.right qs n r in record {
          starts = λ y c. ap (λ l. not (good ts first count l qs y)) h.asked ∙ s.starts y (subst (λ l. Contains l y) h.fails c);
          rest = λ x y e c. ap (λ l. not (good ts first count l qs y)) h.asked ∙ by x y s (sym (ap (λ l. not (good ts first count l qs x)) h.asked) ∙ e) (edge-cases G H v w h lt x y c);
        }
          where
            bad : (b : Bool) → not b ≡ true → b ≡ false
            bad true e = absurd (cc)
            bad false e = refl

            by : (x y : ℕ) → Spreads G.edges G.fails (λ y. not (good ts first count G.asked qs y)) → not (good ts first count G.asked qs x) ≡ true → Contains (resting G.edges x) y ⊎ ((x ≡ v) × (y ≡ w)) → not (good ts first count G.asked qs y) ≡ true
            by x y s e (inl c) = s.rest x y e c
            by x y s e (inr i) = ap (λ z. not (good ts first count G.asked qs z)) i.1 ∙ ap not (f qs n r (bad (good ts first count G.asked qs v) (ap (λ z. not (good ts first count G.asked qs z)) (sym i.0) ∙ e)))

        opened : (i k : ℕ) → IsOpen ts first count G k (count + i) ⊎ Contains pending k → IsOpen ts first count H k (count + i) ⊎ Contains pending k
        opened i k (inl o) = inl (open-more G H k (count + i) more o)
        opened i k (inr c) = inr c

    -- v falls by itself, where it is never good
    pub fail-holds : (G : Graph) (v : ℕ) (done : List Argument) (pending : List ℕ) → v < length G.edges
        → ((qs : List Bool) → length qs ≡ count → Respects first ts args qs → good ts first count G.asked qs v ≡ false) → Holds ts first count args G done pending → Holds ts first count args (with_fail v G) done pending
    fail-holds G v done pending lt f g = record {
      size = g.size;
      once = g.once;
      targets = g.targets;
      failing = λ y c. target y (Contains-push_cases G.fails v y c);
      right = right;
      opened = λ i k e. opened i k (g.opened i k e);
      waiting = g.waiting;
      argued = g.argued;
    }
      where
        target : (y : ℕ) → Contains G.fails y ⊎ (v ≡ y) → y < length G.edges
        target y (inl c) = g.failing y c
        target y (inr i) = subst (λ z. z < length G.edges) i lt

        right : (qs : List Bool) → length qs ≡ count → Respects first ts args qs → Spreads G.edges (G.fails ++ v ∷ []) (λ y. not (good ts first count G.asked qs y))
        right qs n r = let s = g.right qs n r in record { starts = λ y c. by y s (Contains-push_cases G.fails v y c); rest = s.rest }
          where
            by : (y : ℕ) → Spreads G.edges G.fails (λ y. not (good ts first count G.asked qs y)) → Contains G.fails y ⊎ (v ≡ y) → not (good ts first count G.asked qs y) ≡ true
            by y s (inl c) = s.starts y c
            by y s (inr i) = ap (λ z. not (good ts first count G.asked qs z)) (sym i) ∙ ap not (f qs n r)

        more : IsMore G (with_fail v G)
        more = record { asked = λ i k e. e; edges = λ x w c. c; fails = λ w c. Contains-append_left G.fails (v ∷ []) w c }

        opened : (i k : ℕ) → IsOpen ts first count G k (count + i) ⊎ Contains pending k → IsOpen ts first count (with_fail v G) k (count + i) ⊎ Contains pending k
        opened i k (inl o) = inl (open-more G (with_fail v G) k (count + i) more o)
        opened i k (inr c) = inr c

    -- a type that is pending is open now
    pub opens : (G : Graph) (k i : ℕ) (done : List Argument) (pending : List ℕ) → slice_get G.asked i ≡ Some k → IsOpen ts first count G k (count + i) → Holds ts first count args G done (k ∷ pending)
        → Holds ts first count args G done pending
    opens G k i done pending e o g = record {
      size = g.size;
      once = g.once;
      targets = g.targets;
      failing = g.failing;
      right = g.right;
      opened = λ j x f. by j x f (g.opened j x f);
      waiting = λ x c. g.waiting x (Contains-append_right (k ∷ []) pending x c);
      argued = g.argued;
    }
      where
        by : (j x : ℕ) → slice_get G.asked j ≡ Some x → IsOpen ts first count G x (count + j) ⊎ Contains (k ∷ pending) x → IsOpen ts first count G x (count + j) ⊎ Contains pending x
        by j x f (inl p) = inl p
        by j x f (inr c) = cases (Contains-append_cases (k ∷ []) pending x c)
          where
            is : Contains (k ∷ []) x → x ≡ k
            is d = one (Contains-push_cases [] k x d)
              where
                one : Contains [] x ⊎ (k ≡ x) → x ≡ k
                one (inl d) = absurd (let lt = d.1 in omega (arith, lt))
                one (inr d) = sym d

            cases : Contains (k ∷ []) x ⊎ Contains pending x → IsOpen ts first count G x (count + j) ⊎ Contains pending x
            cases (inl d) = let same = is d in let at = g.once j i k (f ∙ ap Some same) e in
                inl (subst (λ y. IsOpen ts first count G y (count + j)) (sym same) (subst (λ y. IsOpen ts first count G k (count + y)) (sym at) o))
            cases (inr d) = inr d

    -- the order of what is pending doesn't matter
    pub reordered : (G : Graph) (done : List Argument) (pending after : List ℕ) → ((x : ℕ) → Contains pending x → Contains after x) → ((x : ℕ) → Contains after x → Contains pending x)
        → Holds ts first count args G done pending → Holds ts first count args G done after
    reordered G done pending after to from g = record {
      size = g.size;
      once = g.once;
      targets = g.targets;
      failing = g.failing;
      right = g.right;
      opened = λ i k e. by i k (g.opened i k e);
      waiting = λ x c. g.waiting x (from x c);
      argued = g.argued;
    }
      where
        by : (i k : ℕ) → IsOpen ts first count G k (count + i) ⊎ Contains pending k → IsOpen ts first count G k (count + i) ⊎ Contains after k
        by i k (inl o) = inl o
        by i k (inr c) = inr (to k c)
