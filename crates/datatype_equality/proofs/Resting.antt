-- A vertex comes to rest on types, one after the other.
use Rattle.std.proofs.Common.{◌≡◌, ◌<◌, ◌≤◌, ◌+◌, ◌-◌, ◌*◌, ◌++◌, ℕ, zero, suc, Bool, true, false, not, List, [], ◌∷◌, length, Option, Some, None, slice_index_or, slice_get, slice_set, nat_lt, take, Contains, if◌then◌else◌, refl, sym, ap, ◌∙◌, subst, arith, append-nil, append_assoc}
use Rattle.std.proofs.lemmas.List.{length-append, length-set, take_more}
use Rattle.std.proofs.lemmas.List.Elements.{Contains-append_left, Contains-append_right, Contains-push_cases, Contains-push, Contains-append_cases}
use Rattle.std.proofs.lemmas.Option.{slice_get_within}
use mathlib.Core.Logic.{◌⊎◌, inl, inr}
use Rattle.ty_core.specs.Types.{Typ, nodes}
use Rattle.ty_table.specs.TypeAt.{type_at}
use Rattle.datatype_equality.specs.declared.argument.Argument.{Argument}
use Rattle.datatype_equality.specs.Falling.{resting}
use Rattle.datatype_equality.specs.Respects.{Respects}
use Rattle.datatype_equality.specs.Graph.{Graph, HasVertex, HasEdge, RestsOn}
use Rattle.datatype_equality.specs.Holding.{IsMore, total, type_good, good, Holds, Rested}
use Rattle.datatype_equality.proofs.Graphs.{vertex-holds, vertex-more, edge-holds, edge-more, edge-there, good-type, good-more}

pub total-append : (ts : List Typ) (ks ls : List ℕ) → total ts (ks ++ ls) ≡ total ts ks + total ts ls
total-append ts [] ls = omega arith
total-append ts (k ∷ ks) ls = let e = total-append ts ks ls in omega (arith, e)

more-trans : (F G H : Graph) → IsMore F G → IsMore G H → IsMore F H
more-trans F G H m n = record {
  asked = λ i k e. n.asked i k (m.asked i k e);
  edges = λ v w c. n.edges v w (m.edges v w c);
  fails = λ w c. n.fails w (m.fails w c);
}

module _ (ts : List Typ) (first count : ℕ) where
  pub rested-none : (G : Graph) (v : ℕ) (pending : List ℕ) → length G.edges ≡ count + length G.asked → Rested ts first count G G [] v pending pending
  rested-none G v pending e = record {
    size = e;
    longer = omega arith;
    extra = [];
    asked = sym (append-nil G.asked);
    more = record { asked = λ i k e. e; edges = λ v w c. c; fails = λ w c. c };
    rests = λ m c. absurd (let lt = c.1 in omega (arith, lt));
    holds = λ arguments done front lt f g. g;
    lighter = omega arith;
  }

  rests-more : (G H : Graph) (parts : List ℕ) (v : ℕ) → IsMore G H → RestsOn ts first count G parts v → RestsOn ts first count H parts v
  rests-more G H parts v m f x c = let r = f x c in (r.0, m.asked r.0 x r.1, m.edges (count + r.0) v r.2)

  -- what was pending before stays in front
  pub behind : (front : List ℕ) (k : ℕ) (G H : Graph) (pending after : List ℕ) (v : ℕ) → HasVertex count k G H pending after v → HasVertex count k G H (front ++ pending) (front ++ after) v
  behind front k G H pending after v h = record {
    extra = h.extra;
    known_or_new = h.known_or_new;
    asked = h.asked;
    size = h.size;
    same_edges = h.same_edges;
    same_fails = h.same_fails;
    pushed = ap (λ l. front ++ l) h.pushed ∙ sym (append_assoc front pending h.extra);
    position = h.position;
    is = h.is;
    there = h.there;
  }

  pub vertex-within : (G H : Graph) (k v : ℕ) (pending after : List ℕ) → HasVertex count k G H pending after v → length G.edges ≡ count + length G.asked → v < length H.edges
  vertex-within G H k v pending after h e =
      let lt = slice_get_within H.asked h.position k h.there in let n = ap length h.asked ∙ length-append G.asked h.extra in omega (arith, lt, n, h.size, h.is, e)

  vertex-light : (G H : Graph) (k v : ℕ) (pending after : List ℕ) → HasVertex count k G H pending after v → total ts after ≤ total ts pending + nodes (type_at ts k)
  vertex-light G H k v pending after h = let e = ap (total ts) h.pushed ∙ total-append ts pending h.extra in let l = extra h.known_or_new in omega (arith, e, l)
    where
      extra : (h.extra ≡ []) ⊎ ((h.extra ≡ k ∷ []) × ((i : ℕ) → slice_get G.asked i ≡ Some k → ⊥)) → total ts h.extra ≤ nodes (type_at ts k)
      extra (inl e) = let n = ap (total ts) e in omega (arith, n)
      extra (inr e) = let n = ap (total ts) e.0 in omega (arith, n)

  -- one type more
  pub rested-more : (F G H K : Graph) (parts : List ℕ) (k v p : ℕ) (before pending after : List ℕ) → Rested ts first count F G parts v before pending → HasVertex count k G H pending after p → HasEdge p v H K
      → Rested ts first count F K (parts ++ k ∷ []) v before after
  rested-more F G H K parts k v p before pending after r h e = record {
    size = size;
    longer = let a = r.longer in let b = same in omega (arith, a, b, h.size);
    extra = r.extra ++ h.extra;
    asked = e.asked ∙ h.asked ∙ ap (λ l. l ++ h.extra) r.asked ∙ append_assoc F.asked r.extra h.extra;
    more = more-trans F G K r.more further;
    rests = λ m c. rests m (Contains-push_cases parts k m c);
    holds = λ arguments done front lt f g. edge-holds ts first count arguments H K p v done (front ++ after) e within (omega (arith, lt, r.longer, h.size))
        (λ qs n t b. carried arguments (omega (arith, lt, g.size)) f qs n t b)
        (vertex-holds ts first count arguments G H k p done (front ++ pending) (front ++ after) (behind front k G H pending after p h)
        (r.holds arguments done front lt (λ qs m n t c b. f qs m n t (Contains-append_left parts (k ∷ []) m c) b) g));
    lighter = let a = r.lighter in let b = vertex-light G H k p pending after h in let s = total-append ts parts (k ∷ []) in omega (arith, a, b, s);
  }
    where
      same : length K.edges ≡ length H.edges
      same = ap length e.edges ∙ length-set H.edges p (resting H.edges p ++ v ∷ [])

      size : length K.edges ≡ count + length K.asked
      size = let n = ap length h.asked ∙ length-append G.asked h.extra in let a = ap length e.asked in omega (arith, same, n, h.size, r.size, a)

      within : p < length H.edges
      within = vertex-within G H k p pending after h r.size

      further : IsMore G K
      further = more-trans G H K (vertex-more ts first count [] G H k p pending after h) (edge-more ts first count [] H K p v e within)

      rests : (m : ℕ) → Contains parts m ⊎ (k ≡ m) → (q : ℕ) × (slice_get K.asked q ≡ Some m) × Contains (resting K.edges (count + q)) v
      rests m (inl c) = rests-more G K parts v further r.rests m c
      rests m (inr i) = (
        h.position,
        subst (λ l. slice_get l h.position ≡ Some m) (sym e.asked) (h.there ∙ ap Some i),
        subst (λ q. Contains (resting K.edges q) v) h.is (edge-there ts first count [] H K p v e within),
      )

      carried : (arguments : List Argument) → v < count + length F.asked
          → ((qs : List Bool) (m : ℕ) → length qs ≡ count → Respects first ts arguments qs → Contains (parts ++ k ∷ []) m → type_good ts first count qs m ≡ false → good ts first count F.asked qs v ≡ false)
          → (qs : List Bool) → length qs ≡ count → Respects first ts arguments qs → good ts first count H.asked qs p ≡ false → good ts first count H.asked qs v ≡ false
      carried arguments small f qs n t b =
          ap (λ l. good ts first count l qs v) (h.asked ∙ ap (λ l. l ++ h.extra) r.asked ∙ append_assoc F.asked r.extra h.extra)
          ∙ good-more ts first count F.asked (r.extra ++ h.extra) qs v small
          ∙ f qs k n t (Contains-push parts k) (sym (good-type ts first count H.asked qs h.position k h.there) ∙ ap (good ts first count H.asked qs) (sym h.is) ∙ b)

  pub taken : (F G H K : Graph) (parts : List ℕ) (i k v p : ℕ) (before pending after : List ℕ) → k ≡ slice_index_or parts i k → i < length parts → Rested ts first count F G (take i parts) v before pending
      → HasVertex count k G H pending after p → HasEdge p v H K → Rested ts first count F K (take (i + 1) parts) v before after
  taken F G H K parts i k v p before pending after e lt r h d =
      subst (λ l. Rested ts first count F K l v before after) (ap (λ x. take i parts ++ x ∷ []) e ∙ sym (take_more parts i k lt)) (rested-more F G H K (take i parts) k v p before pending after r h d)
