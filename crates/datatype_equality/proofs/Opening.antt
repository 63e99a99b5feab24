-- A type that is pending is opened.
use Rattle.std.proofs.Common.{◌≡◌, ◌<◌, ◌≤◌, ◌+◌, ◌-◌, ◌*◌, ◌++◌, ◌&&◌, ℕ, zero, suc, Bool, true, false, not, List, [], ◌∷◌, length, replicate, map, Option, Some, None, slice_index_or, slice_get, nat_lt, Contains, if◌then◌else◌, refl, sym, ap, ◌∙◌, subst, arith, append-nil}
use Rattle.std.proofs.lemmas.List.{length-append, length-set, length-replicate}
use Rattle.std.proofs.lemmas.List.Elements.{Contains-append_left, Contains-append_right, Contains-push_cases, Contains-push, Contains-append_cases}
use Rattle.std.proofs.lemmas.Option.{slice_get_within, slice_get-get_or}
use Rattle.std.proofs.lemmas.Bool.{ltb-true, ltb-false}
use mathlib.Core.Logic.{◌⊎◌, inl, inr}
use Rattle.ty_core.specs.Types.{Symbol, arrow, labels, name, Typ, var, con, Typs, none, more, attribute, allowed, admits, all_admit, nodes, all_nodes}
use Rattle.ty_core.specs.declared.name.Equality.{Equality}
use Rattle.ty_core.specs.declared.name.Equality.TheVariants.{Always, ByArguments, Never}
use Rattle.ty_table.specs.TypeAt.{type_at, types_at}
use Rattle.datatype_equality.specs.declared.argument.Argument.{Argument}
use Rattle.datatype_equality.specs.declared.graph.Rule.{Rule}
use Rattle.datatype_equality.specs.declared.graph.Rule.TheVariants.{Admits, Refuses, Parts, New}
use Rattle.datatype_equality.specs.Falling.{resting}
use Rattle.datatype_equality.specs.Respects.{said, attribute_by, symbol_with, type_with, types_with, every_parameter, Respects}
use Rattle.datatype_equality.specs.Graph.{Graph, HasVertex, HasEdge, RestsOn, IsRuled, IsOpen, is_variable, is_ruled, rule_of, rule_by, with_fail}
use Rattle.datatype_equality.specs.Holding.{IsMore, total, type_good, good, Holds, Rested, Opens}
use Rattle.datatype_equality.proofs.Graphs.{vertex-holds, vertex-more, edge-holds, edge-more, edge-there, fail-holds, opens, good-type, good-name}
use Rattle.datatype_equality.proofs.Resting.{behind, vertex-within}

-- what a rule says of the symbol's attribute, where the new names admit equality as qs says

rule_by-refuses : (e : Equality) → rule_by e ≡ Refuses → e ≡ Never
rule_by-refuses Always i = absurd (cc)
rule_by-refuses ByArguments i = absurd (cc)
rule_by-refuses Never i = refl

rule_by-admits : (e : Equality) → rule_by e ≡ Admits → e ≡ Always
rule_by-admits Always i = refl
rule_by-admits ByArguments i = absurd (cc)
rule_by-admits Never i = absurd (cc)

rule_by-parts : (e : Equality) → rule_by e ≡ Parts → e ≡ ByArguments
rule_by-parts Always i = absurd (cc)
rule_by-parts ByArguments i = refl
rule_by-parts Never i = absurd (cc)

rule_by-new : (e : Equality) (j : ℕ) → rule_by e ≡ New j → ⊥
rule_by-new Always j i = cc
rule_by-new ByArguments j i = cc
rule_by-new Never j i = cc

-- what is said of a stamp
data Says (first count : ℕ) (qs : List Bool) (stamp : ℕ) (e : Equality) : Rule → Type 0 where
  other : attribute_by e (said first qs stamp) ≡ e → Says first count qs stamp e (rule_by e)
  new : (j : ℕ) → j < count → attribute_by e (said first qs stamp) ≡ (if slice_index_or qs j false then ByArguments else Never) → Says first count qs stamp e (New j)

get-past : (qs : List Bool) (i : ℕ) → length qs ≤ i → slice_get qs i ≡ None
get-past [] i le = refl
get-past (q ∷ qs) zero le = absurd (omega (arith, le))
get-past (q ∷ qs) (suc i) le = get-past qs i (omega (arith, le))

said-by : (e : Equality) (b : Bool) → attribute_by e (Some b) ≡ (if b then ByArguments else Never)
said-by e true = refl
said-by e false = refl

says : (first count : ℕ) (qs : List Bool) (stamp : ℕ) (e : Equality) → length qs ≡ count
    → Says first count qs stamp e (if nat_lt stamp first then rule_by e else if nat_lt (stamp - first) count then New (stamp - first) else rule_by e)
says first count qs stamp e n = go (nat_lt stamp first) refl
  where
    within : (c : Bool) → nat_lt (stamp - first) count ≡ c → nat_lt stamp first ≡ false → Says first count qs stamp e (if c then New (stamp - first) else rule_by e)
    within true i f = let lt = ltb-true (stamp - first) count i in
        new (stamp - first) lt (ap (λ b. attribute_by e (if b then None else slice_get qs (stamp - first))) f
        ∙ ap (attribute_by e) (slice_get-get_or qs (stamp - first) false (omega (arith, lt, n))) ∙ said-by e (slice_index_or qs (stamp - first) false))
    within false i f = let le = ltb-false (stamp - first) count i in
        other (ap (λ b. attribute_by e (if b then None else slice_get qs (stamp - first))) f ∙ ap (attribute_by e) (get-past qs (stamp - first) (omega (arith, le, n))))

    go : (b : Bool) → nat_lt stamp first ≡ b → Says first count qs stamp e (if b then rule_by e else if nat_lt (stamp - first) count then New (stamp - first) else rule_by e)
    go true i = other (ap (λ b. attribute_by e (if b then None else slice_get qs (stamp - first))) i)
    go false i = within (nat_lt (stamp - first) count) refl i

module _ (first count : ℕ) (qs : List Bool) (n : length qs ≡ count) where
  pub refuses : (h : Symbol) → rule_of first count h ≡ Refuses → attribute (symbol_with first qs h) ≡ Never
  refuses arrow i = refl
  refuses (labels ls) i = absurd (cc)
  refuses (name m) i = by (rule_of first count (name m)) (says first count qs m.stamp m.equality n) i
    where
      by : (r : Rule) → Says first count qs m.stamp m.equality r → r ≡ Refuses → attribute_by m.equality (said first qs m.stamp) ≡ Never
      by r (other e) i = e ∙ rule_by-refuses m.equality i
      by r (new j lt e) i = absurd (cc)

  pub admits-anyway : (h : Symbol) → rule_of first count h ≡ Admits → attribute (symbol_with first qs h) ≡ Always
  admits-anyway arrow i = absurd (cc)
  admits-anyway (labels ls) i = absurd (cc)
  admits-anyway (name m) i = by (rule_of first count (name m)) (says first count qs m.stamp m.equality n) i
    where
      by : (r : Rule) → Says first count qs m.stamp m.equality r → r ≡ Admits → attribute_by m.equality (said first qs m.stamp) ≡ Always
      by r (other e) i = e ∙ rule_by-admits m.equality i
      by r (new j lt e) i = absurd (cc)

  pub by-parts : (h : Symbol) → rule_of first count h ≡ Parts → attribute (symbol_with first qs h) ≡ ByArguments
  by-parts arrow i = absurd (cc)
  by-parts (labels ls) i = refl
  by-parts (name m) i = by (rule_of first count (name m)) (says first count qs m.stamp m.equality n) i
    where
      by : (r : Rule) → Says first count qs m.stamp m.equality r → r ≡ Parts → attribute_by m.equality (said first qs m.stamp) ≡ ByArguments
      by r (other e) i = e ∙ rule_by-parts m.equality i
      by r (new j lt e) i = absurd (cc)

  pub by-new : (h : Symbol) (j : ℕ) → rule_of first count h ≡ New j → (j < count) × (attribute (symbol_with first qs h) ≡ (if slice_index_or qs j false then ByArguments else Never))
  by-new arrow j i = absurd (cc)
  by-new (labels ls) j i = absurd (cc)
  by-new (name m) j i = by (rule_of first count (name m)) (says first count qs m.stamp m.equality n) i
    where
      by : (r : Rule) → Says first count qs m.stamp m.equality r → r ≡ New j
          → (j < count) × (attribute_by m.equality (said first qs m.stamp) ≡ (if slice_index_or qs j false then ByArguments else Never))
      by r (other e) i = absurd (rule_by-new m.equality j i)
      by r (new k lt e) i = let s : k ≡ j = cc in (subst (λ x. x < count) s lt, e ∙ ap (λ x. if slice_index_or qs x false then ByArguments else Never) s)

pub total-parts : (ts : List Typ) (parts : List ℕ) → all_nodes (types_at ts parts) ≡ total ts parts
total-parts ts [] = refl
total-parts ts (k ∷ parts) = ap (λ n. nodes (type_at ts k) + n) (total-parts ts parts)

and-false : (a : Bool) → (a && false) ≡ false
and-false true = refl
and-false false = refl

-- parts of which one doesn't admit equality
part-refuses : (ts : List Typ) (first : ℕ) (qs : List Bool) (parts : List ℕ) (m : ℕ) → Contains parts m → admits every_parameter (type_with first qs (type_at ts m)) ≡ false
    → all_admit every_parameter (types_with first qs (types_at ts parts)) ≡ false
part-refuses ts first qs [] m c b = absurd (let lt = c.1 in omega (arith, lt))
part-refuses ts first qs (k ∷ parts) m c b = by (λ d. part-refuses ts first qs parts m d b) (Contains-append_cases (k ∷ []) parts m c)
  where
    by : (Contains parts m → all_admit every_parameter (types_with first qs (types_at ts parts)) ≡ false) → Contains (k ∷ []) m ⊎ Contains parts m → (admits every_parameter (type_with first qs (type_at ts k)) && all_admit every_parameter (types_with first qs (types_at ts parts))) ≡ false
    by f (inl d) = one (Contains-push_cases [] k m d)
      where
        one : Contains [] m ⊎ (k ≡ m) → (admits every_parameter (type_with first qs (type_at ts k)) && all_admit every_parameter (types_with first qs (types_at ts parts))) ≡ false
        one (inl e) = absurd (let lt = e.1 in omega (arith, lt))
        one (inr e) = ap (λ a. a && all_admit every_parameter (types_with first qs (types_at ts parts))) (ap (λ x. admits every_parameter (type_with first qs (type_at ts x))) e ∙ b)
    by f (inr d) = ap (λ a. admits every_parameter (type_with first qs (type_at ts k)) && a) (f d) ∙ and-false (admits every_parameter (type_with first qs (type_at ts k)))

-- whether the type k admits equality, by its symbol's attribute
good-by : (ts : List Typ) (first count : ℕ) (qs : List Bool) (k : ℕ) (h : Symbol) (parts : List ℕ) (e : Equality) → type_at ts k ≡ con h (types_at ts parts) → attribute (symbol_with first qs h) ≡ e
    → type_good ts first count qs k ≡ allowed e (all_admit every_parameter (types_with first qs (types_at ts parts)))
good-by ts first count qs k h parts e t a =
    ap (λ u. admits every_parameter (type_with first qs u)) t ∙ ap (λ x. allowed x (all_admit every_parameter (types_with first qs (types_at ts parts)))) a

module _ (ts : List Typ) (first count k : ℕ) (G H : Graph) (v : ℕ) (pending after : List ℕ) (size : length G.edges ≡ count + length G.asked) (h : HasVertex count k G H pending after v) where
  pub size-then : length H.edges ≡ count + length H.asked
  size-then = let n = ap length h.asked ∙ length-append G.asked h.extra in omega (arith, n, h.size, size)

  pub within : v < length H.edges
  within = vertex-within ts first count G H k v pending after h size

  -- k has a vertex already
  known : (arguments done : List Argument) → Holds ts first count arguments G done (k ∷ pending) → after ≡ pending
  known arguments done g = by (g.waiting k (Contains-append_left (k ∷ []) pending k (Contains-push [] k))) h.known_or_new
    where
      by : (i : ℕ) × (slice_get G.asked i ≡ Some k) → (h.extra ≡ []) ⊎ ((h.extra ≡ k ∷ []) × ((j : ℕ) → slice_get G.asked j ≡ Some k → ⊥)) → after ≡ pending
      by r (inl e) = h.pushed ∙ ap (λ l. pending ++ l) e ∙ append-nil pending
      by r (inr e) = absurd (e.1 r.0 r.1)

  then-holds : (arguments done : List Argument) → Holds ts first count arguments G done (k ∷ pending) → Holds ts first count arguments H done (k ∷ after)
  then-holds arguments done g = vertex-holds ts first count arguments G H k v done (k ∷ pending) (k ∷ after) (behind ts first count (k ∷ []) k G H pending after v h) g

  total-then : (arguments done : List Argument) → Holds ts first count arguments G done (k ∷ pending) → total ts after ≡ total ts pending
  total-then arguments done g = ap (total ts) (known arguments done g)

  pub opens-alone : {n : ℕ} → nodes (type_at ts k) ≡ suc n → IsOpen ts first count H k v → Opens ts first count k G H pending after
  opens-alone {n} e o = record {
    size = size-then;
    holds = λ arguments done g. opens ts first count arguments H k h.position done after h.there (subst (IsOpen ts first count H k) h.is o) (then-holds arguments done g);
    lighter = λ arguments done g. let t = total-then arguments done g in omega (arith, t, e);
  }

  module _ (s : Symbol) (parts : List ℕ) (t : type_at ts k ≡ con s (types_at ts parts)) where
    k-nodes : nodes (type_at ts k) ≡ suc (total ts parts)
    k-nodes = ap nodes t ∙ ap suc (total-parts ts parts)

    v-good : (qs : List Bool) → good ts first count H.asked qs v ≡ type_good ts first count qs k
    v-good qs = ap (good ts first count H.asked qs) h.is ∙ good-type ts first count H.asked qs h.position k h.there

    pub opens-admitting : rule_of first count s ≡ Admits → Opens ts first count k G H pending after
    opens-admitting r = opens-alone k-nodes (is_ruled parts t (subst (λ x. IsRuled ts first count H x parts v) (sym r) tt))

    pub opens-refusing : rule_of first count s ≡ Refuses → Opens ts first count k G (with_fail v H) pending after
    opens-refusing r = record {
      size = size-then;
      holds = λ arguments done g. opens ts first count arguments (with_fail v H) k h.position done after h.there
          (subst (IsOpen ts first count (with_fail v H) k) h.is (is_ruled parts t (subst (λ x. IsRuled ts first count (with_fail v H) x parts v) (sym r) (Contains-push H.fails v))))
          (fail-holds ts first count arguments H v done (k ∷ after) within
          (λ qs n _. v-good qs ∙ good-by ts first count qs k s parts Never t (refuses first count qs n s r)) (then-holds arguments done g));
      lighter = λ arguments done g. let e = total-then arguments done g in omega (arith, e, k-nodes);
    }

    pub opens-parts : (K : Graph) (later : List ℕ) → rule_of first count s ≡ Parts → Rested ts first count H K parts v after later → Opens ts first count k G K pending later
    opens-parts K later r d = record {
      size = d.size;
      holds = λ arguments done g. opens ts first count arguments K k h.position done later (d.more.asked h.position k h.there)
          (subst (IsOpen ts first count K k) h.is (is_ruled parts t (subst (λ x. IsRuled ts first count K x parts v) (sym r) d.rests)))
          (d.holds arguments done (k ∷ []) within
          (λ qs m n _ c b. v-good qs ∙ good-by ts first count qs k s parts ByArguments t (by-parts first count qs n s r) ∙ part-refuses ts first qs parts m c b) (then-holds arguments done g));
      lighter = λ arguments done g. let e = total-then arguments done g in omega (arith, e, k-nodes, d.lighter);
    }

    pub new-within : (j : ℕ) → rule_of first count s ≡ New j → j < length H.edges
    new-within j r = let lt = (by-new first count (replicate count true) (length-replicate count true) s j r).0 in omega (arith, lt, size-then)

    pub opens-new : (j : ℕ) (J K : Graph) (later : List ℕ) → rule_of first count s ≡ New j → HasEdge j v H J → Rested ts first count J K parts v after later → Opens ts first count k G K pending later
    opens-new j J K later r e d = record {
      size = d.size;
      holds = λ arguments done g. opens ts first count arguments K k h.position done later (d.more.asked h.position k at)
          (subst (IsOpen ts first count K k) h.is (is_ruled parts t (subst (λ x. IsRuled ts first count K x parts v) (sym r) (d.more.edges j v (edge-there ts first count [] H J j v e (new-within j r)), d.rests))))
          (d.holds arguments done (k ∷ []) (subst (λ x. v < x) (sym same) within) (λ qs m n _ c b. ap (λ l. good ts first count l qs v) e.asked ∙ v-good qs ∙ by-part qs m n c b)
          (edge-holds ts first count arguments H J j v done (k ∷ after) e (new-within j r) within (λ qs n _ b. v-good qs ∙ by-name qs n b) (then-holds arguments done g)));
      lighter = λ arguments done g. let w = total-then arguments done g in omega (arith, w, k-nodes, d.lighter);
    }
      where
        same : length J.edges ≡ length H.edges
        same = ap length e.edges ∙ length-set H.edges j (resting H.edges j ++ v ∷ [])

        at : slice_get J.asked h.position ≡ Some k
        at = subst (λ l. slice_get l h.position ≡ Some k) (sym e.asked) h.there

        refused : (b : Bool) → allowed (if b then ByArguments else Never) false ≡ false
        refused true = refl
        refused false = refl

        by-part : (qs : List Bool) (m : ℕ) → length qs ≡ count → Contains parts m → type_good ts first count qs m ≡ false → type_good ts first count qs k ≡ false
        by-part qs m n c b = good-by ts first count qs k s parts (if slice_index_or qs j false then ByArguments else Never) t (by-new first count qs n s j r).1
            ∙ ap (allowed (if slice_index_or qs j false then ByArguments else Never)) (part-refuses ts first qs parts m c b) ∙ refused (slice_index_or qs j false)

        by-name : (qs : List Bool) → length qs ≡ count → good ts first count H.asked qs j ≡ false → type_good ts first count qs k ≡ false
        by-name qs n b = good-by ts first count qs k s parts (if slice_index_or qs j false then ByArguments else Never) t (by-new first count qs n s j r).1
            ∙ ap (λ q. allowed (if q then ByArguments else Never) (all_admit every_parameter (types_with first qs (types_at ts parts)))) (sym (good-name ts first count H.asked qs j (by-new first count qs n s j r).0) ∙ b)
