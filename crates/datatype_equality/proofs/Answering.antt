-- What the answer says.
use Rattle.std.proofs.Common.{◌≡◌, ◌<◌, ◌≤◌, ◌+◌, ◌-◌, ◌*◌, ◌++◌, ◌&&◌, ℕ, zero, suc, Bool, true, false, not, List, [], ◌∷◌, length, replicate, map, take, Option, Some, None, slice_index_or, slice_get, slice_set, nat_lt, Contains, if◌then◌else◌, refl, sym, ap, ◌∙◌, subst, arith, append-nil}
use Rattle.std.proofs.lemmas.List.{length-append, length-set, length-replicate, take_more}
use Rattle.std.proofs.lemmas.List.Elements.{Contains-append_left, Contains-append_right, Contains-push_cases, Contains-push, Contains-append_cases}
use Rattle.std.proofs.lemmas.Option.{slice_get_within, get_or_from_slice_get, slice_get-get_or}
use mathlib.Core.Logic.{◌⊎◌, inl, inr}
use Rattle.ty_core.specs.Types.{Symbol, Typ, var, con, Typs, none, more, attribute, allowed, admits, all_admit}
use Rattle.ty_core.specs.declared.name.Equality.{Equality}
use Rattle.ty_core.specs.declared.name.Equality.TheVariants.{Always, ByArguments, Never}
use Rattle.ty_table.specs.TypeAt.{type_at, types_at}
use Rattle.datatype_equality.specs.declared.argument.Argument.{Argument}
use Rattle.datatype_equality.specs.declared.graph.Rule.{Rule}
use Rattle.datatype_equality.specs.declared.graph.Rule.TheVariants.{Admits, Refuses, Parts, New}
use Rattle.datatype_equality.specs.Falling.{resting, has_fallen, stands, AllFell, Spreads, IsFall}
use Rattle.datatype_equality.specs.Respects.{symbol_with, type_with, types_with, every_parameter, Respects, AllBelow}
use Rattle.datatype_equality.specs.Graph.{Graph, HasVertex, HasEdge, RestsOn, IsRuled, IsOpen, is_variable, is_ruled, rule_of, only_names}
use Rattle.datatype_equality.specs.Holding.{total, type_good, good, Holds, Opens, Argues}
use Rattle.datatype_equality.proofs.Graphs.{vertex-holds, vertex-more, edge-holds, edge-more, edge-there, reordered, good-type, good-name}
use Rattle.datatype_equality.proofs.Resting.{total-append}
use Rattle.datatype_equality.proofs.Opening.{refuses, admits-anyway, by-parts, by-new, within, size-then}

nothing-there : {A : Type 0} (x : A) → Contains [] x → ⊥
nothing-there x c = let lt = c.1 in omega (arith, lt)

-- at first

pub holds-at-first : (ts : List Typ) (first count : ℕ) (arguments : List Argument) → Holds ts first count arguments (only_names count) [] []
holds-at-first ts first count arguments = record {
  size = let n = length-replicate {A = List ℕ} count [] in omega (arith, n);
  once = λ i j k e d. absurd (cc);
  targets = λ v w c. absurd (nothing-there w (subst (λ l. Contains l w) (rests count v) c));
  failing = λ w c. absurd (nothing-there w c);
  right = λ qs n r. record { starts = λ w c. absurd (nothing-there w c); rest = λ v w e c. absurd (nothing-there w (subst (λ l. Contains l w) (rests count v) c)) };
  opened = λ i k e. absurd (cc);
  waiting = λ k c. absurd (nothing-there k c);
  argued = λ a c. absurd (nothing-there a c);
}
  where
    rests : (n v : ℕ) → resting (replicate n []) v ≡ []
    rests zero v = refl
    rests (suc n) zero = refl
    rests (suc n) (suc v) = rests n v

pub holds-empty : (ts : List Typ) (first count : ℕ) (arguments : List Argument) (G : Graph) (pending : List ℕ) → G ≡ only_names count → pending ≡ [] → Holds ts first count arguments G [] pending
holds-empty ts first count arguments G pending e p = rw (e, p) (holds-at-first ts first count arguments)

-- an argument

pub argued : (ts : List Typ) (first count : ℕ) (a : Argument) (G H K : Graph) (v : ℕ) (pending after : List ℕ) → length G.edges ≡ count + length G.asked → HasVertex count a.ty G H pending after v → HasEdge v a.datatype H K
    → Argues ts first count a G K pending after
argued ts first count a G H K v pending after size h e = record {
  size = let n = size-then ts first count a.ty G H v pending after size h in let m = ap length e.edges ∙ length-set H.edges v (resting H.edges v ++ a.datatype ∷ []) in let l = ap length e.asked in omega (arith, n, m, l);
  holds = λ arguments done lt c g. more-done arguments done lt (edge-holds ts first count arguments H K v a.datatype done after e inside
      (let n = size-then ts first count a.ty G H v pending after size h in omega (arith, lt, n)) (λ qs n r b. refused arguments c qs n r lt b)
      (vertex-holds ts first count arguments G H a.ty v done pending after h g));
}
  where
    inside : v < length H.edges
    inside = within ts first count a.ty G H v pending after size h

    to-false : (b : Bool) → (b ≡ true → ⊥) → b ≡ false
    to-false true f = absurd (f refl)
    to-false false f = refl

    refused : (arguments : List Argument) → Contains arguments a → (qs : List Bool) → length qs ≡ count → Respects first ts arguments qs → a.datatype < count
        → good ts first count H.asked qs v ≡ false → good ts first count H.asked qs a.datatype ≡ false
    refused arguments c qs n r lt b = good-name ts first count H.asked qs a.datatype lt ∙ to-false (slice_index_or qs a.datatype false)
        (λ t. let g : type_good ts first count qs a.ty ≡ true = r a c (slice_get-get_or qs a.datatype false (omega (arith, lt, n)) ∙ ap Some t) in
        let f : type_good ts first count qs a.ty ≡ false = sym (ap (good ts first count H.asked qs) h.is ∙ good-type ts first count H.asked qs h.position a.ty h.there) ∙ b in cc)

    more-done : (arguments done : List Argument) → a.datatype < count → Holds ts first count arguments K done after → Holds ts first count arguments K (done ++ a ∷ []) after
    more-done arguments done lt g = record {
      size = g.size;
      once = g.once;
      targets = g.targets;
      failing = g.failing;
      right = g.right;
      opened = g.opened;
      waiting = g.waiting;
      argued = λ b c. by b (Contains-push_cases done a b c);
    }
      where
        by : (b : Argument) → Contains done b ⊎ (a ≡ b) → (b.datatype < count) × ((p : ℕ) × (slice_get K.asked p ≡ Some b.ty) × Contains (resting K.edges (count + p)) b.datatype)
        by b (inl c) = g.argued b c
        by b (inr i) = subst (λ x. (x.datatype < count) × ((p : ℕ) × (slice_get K.asked p ≡ Some x.ty) × Contains (resting K.edges (count + p)) x.datatype)) i
            (lt, (h.position, subst (λ l. slice_get l h.position ≡ Some a.ty) (sym e.asked) h.there, subst (λ y. Contains (resting K.edges y) a.datatype) h.is (edge-there ts first count [] H K v a.datatype e inside)))

pub argued-next : (ts : List Typ) (first count : ℕ) (arguments : List Argument) (i : ℕ) (a : Argument) (G H : Graph) (pending after : List ℕ) → a ≡ slice_index_or arguments i a → i < length arguments
    → ((b : Argument) → Contains arguments b → b.datatype < count) → Argues ts first count a G H pending after → Holds ts first count arguments G (take i arguments) pending
    → Holds ts first count arguments H (take (i + 1) arguments) after
argued-next ts first count arguments i a G H pending after e lt f r g =
    let c : Contains arguments a = (i, lt, sym e) in
    subst (λ l. Holds ts first count arguments H l after) (ap (λ x. take i arguments ++ x ∷ []) e ∙ sym (take_more arguments i a lt)) (r.holds arguments (take i arguments) (f a c) c g)

-- a type is taken from the pending ones

pub popped : (ts : List Typ) (first count : ℕ) (arguments : List Argument) (G : Graph) (k : ℕ) (pending ps : List ℕ) → pending ≡ ps ++ k ∷ [] → Holds ts first count arguments G arguments pending
    → Holds ts first count arguments G arguments (k ∷ ps)
popped ts first count arguments G k pending ps e g = reordered ts first count arguments G arguments pending (k ∷ ps) to from g
  where
    to : (x : ℕ) → Contains pending x → Contains (k ∷ ps) x
    to x c = by (Contains-append_cases ps (k ∷ []) x (subst (λ l. Contains l x) e c))
      where
        by : Contains ps x ⊎ Contains (k ∷ []) x → Contains (k ∷ ps) x
        by (inl d) = Contains-append_right (k ∷ []) ps x d
        by (inr d) = Contains-append_left (k ∷ []) ps x d

    from : (x : ℕ) → Contains (k ∷ ps) x → Contains pending x
    from x c = subst (λ l. Contains l x) (sym e) (by (Contains-append_cases (k ∷ []) ps x c))
      where
        by : Contains (k ∷ []) x ⊎ Contains ps x → Contains (ps ++ k ∷ []) x
        by (inl d) = Contains-append_right ps (k ∷ []) x d
        by (inr d) = Contains-append_left ps (k ∷ []) x d

pub lighter-popped : (ts : List Typ) (first count : ℕ) (arguments : List Argument) (G H : Graph) (k : ℕ) (pending ps after : List ℕ) → pending ≡ ps ++ k ∷ [] → Opens ts first count k G H ps after
    → Holds ts first count arguments G arguments pending → total ts after < total ts pending
lighter-popped ts first count arguments G H k pending ps after e o g =
    let lt = o.lighter arguments arguments (popped ts first count arguments G k pending ps e g) in
    let t = ap (total ts) e ∙ total-append ts ps (k ∷ []) in omega (arith, lt, t)

-- at the end

stands-if : (marks : List Bool) (v : ℕ) → v < length marks → has_fallen marks v ≡ false → stands marks v ≡ true
stands-if [] v lt e = elim lt [ ]
stands-if (b ∷ marks) zero lt e = ap not e
stands-if (b ∷ marks) (suc v) lt e = stands-if marks v (omega (arith, lt)) e

abbrev pub answer : ℕ → List Bool → List Bool
answer count marks = map not (take count marks)

pub answer-length : (count : ℕ) (marks : List Bool) → count ≤ length marks → length (answer count marks) ≡ count
answer-length zero marks le = refl
answer-length (suc count) [] le = absurd (omega (arith, le))
answer-length (suc count) (b ∷ marks) le = ap suc (answer-length count marks (omega (arith, le)))

answer-at : (count : ℕ) (marks : List Bool) (j : ℕ) → j < count → j < length marks → slice_index_or (answer count marks) j false ≡ not (has_fallen marks j)
answer-at zero marks j lt l = elim lt [ ]
answer-at (suc count) [] j lt l = elim l [ ]
answer-at (suc count) (b ∷ marks) zero lt l = refl
answer-at (suc count) (b ∷ marks) (suc j) lt l = answer-at count marks j (omega (arith, lt)) (omega (arith, l))

by-cases : (b : Bool) → (b ≡ true → ⊥) → b ≡ false
by-cases true f = absurd (f refl)
by-cases false f = refl

module _ (ts : List Typ) (first count : ℕ) (arguments : List Argument) (G : Graph) (marks : List Bool) (g : Holds ts first count arguments G arguments []) (f : IsFall G.edges G.fails marks) where
  long : length marks ≡ count + length G.asked
  long = f.size ∙ g.size

  pub enough : count ≤ length marks
  enough = omega (arith, long)

  asked-within : (p k : ℕ) → slice_get G.asked p ≡ Some k → count + p < length marks
  asked-within p k e = let lt = slice_get_within G.asked p k e in omega (arith, lt, long)

  -- what a vertex that stands rests on stands
  below : (v w : ℕ) → w < length marks → has_fallen marks w ≡ false → Contains (resting G.edges v) w → has_fallen marks v ≡ false
  below v w lt s c = by-cases (has_fallen marks v) (λ t. let a = f.all.rest v w t c in let b = stands-if marks w lt s in absurd (cc))

  size-of-answer : length (answer count marks) ≡ count
  size-of-answer = answer-length count marks enough

  -- a symbol whose type stands, where its parts admit equality if it rests on them
  by-rule : (h : Symbol) (us : Typs) (parts : List ℕ) (v : ℕ) (r : Rule) → rule_of first count h ≡ r → IsRuled ts first count G r parts v → v < length marks → has_fallen marks v ≡ false
      → (RestsOn ts first count G parts v → all_admit every_parameter (types_with first (answer count marks) us) ≡ true)
      → allowed (attribute (symbol_with first (answer count marks) h)) (all_admit every_parameter (types_with first (answer count marks) us)) ≡ true
  by-rule h us parts v Admits e r lt s a =
      ap (λ x. allowed x (all_admit every_parameter (types_with first (answer count marks) us))) (admits-anyway first count (answer count marks) size-of-answer h e)
  by-rule h us parts v Refuses e r lt s a = let x = f.all.starts v r in let y = stands-if marks v lt s in absurd (cc)
  by-rule h us parts v Parts e r lt s a =
      ap (λ x. allowed x (all_admit every_parameter (types_with first (answer count marks) us))) (by-parts first count (answer count marks) size-of-answer h e) ∙ a r
  by-rule h us parts v (New j) e r lt s a =
      let n = by-new first count (answer count marks) size-of-answer h j e in
      ap (λ x. allowed x (all_admit every_parameter (types_with first (answer count marks) us)))
      (n.1 ∙ ap (λ q. if q then ByArguments else Never) (answer-at count marks j n.0 (omega (arith, n.0, enough)) ∙ ap not (below j v lt s r.0)))
      ∙ a r.1

  mutual
    good-node : (t : Typ) (p k : ℕ) → slice_get G.asked p ≡ Some k → type_at ts k ≡ t → has_fallen marks (count + p) ≡ false → admits every_parameter (type_with first (answer count marks) t) ≡ true
    good-node (var x) p k e i s = refl
    good-node (con h us) p k e i s = opened (λ parts j r. good-nodes us parts (count + p) j r (asked-within p k e) s) (g.opened p k e)
      where
        opened : ((parts : List ℕ) → us ≡ types_at ts parts → RestsOn ts first count G parts (count + p) → all_admit every_parameter (types_with first (answer count marks) us) ≡ true)
            → IsOpen ts first count G k (count + p) ⊎ Contains [] k → allowed (attribute (symbol_with first (answer count marks) h)) (all_admit every_parameter (types_with first (answer count marks) us)) ≡ true
        opened a (inl (is_variable j)) = absurd (cc)
        opened a (inl (is_ruled {h = x} parts j r)) =
            let same : x ≡ h = cc in let rest : us ≡ types_at ts parts = cc in
            by-rule h us parts (count + p) (rule_of first count h) refl (subst (λ y. IsRuled ts first count G (rule_of first count y) parts (count + p)) same r) (asked-within p k e) s (a parts rest)
        opened a (inr c) = absurd (nothing-there k c)

    good-nodes : (us : Typs) (parts : List ℕ) (v : ℕ) → us ≡ types_at ts parts → RestsOn ts first count G parts v → v < length marks → has_fallen marks v ≡ false
        → all_admit every_parameter (types_with first (answer count marks) us) ≡ true
    good-nodes none parts v e r lt s = refl
    good-nodes (more t us) [] v e r lt s = absurd (cc)
    good-nodes (more t us) (m ∷ parts) v e r lt s =
        let x = r m (Contains-append_left (m ∷ []) parts m (Contains-push [] m)) in
        let same : type_at ts m ≡ t = cc in let rest : us ≡ types_at ts parts = cc in
        let a = good-node t x.0 m x.1 same (below (count + x.0) v lt s x.2) in
        let b = good-nodes us parts v rest (λ n c. r n (Contains-append_right (m ∷ []) parts n c)) lt s in
        ap (λ y. y && all_admit every_parameter (types_with first (answer count marks) us)) a ∙ b

  stands-as : (j : ℕ) → slice_get (answer count marks) j ≡ Some true → (j < count) × (has_fallen marks j ≡ false)
  stands-as j e = let lt = slice_get_within (answer count marks) j true e in let n = size-of-answer in let l : j < count = omega (arith, lt, n) in
      (l, unless (has_fallen marks j) (sym (answer-at count marks j l (omega (arith, l, enough))) ∙ get_or_from_slice_get (answer count marks) j true false e))
    where
      unless : (b : Bool) → not b ≡ true → b ≡ false
      unless true i = absurd (cc)
      unless false i = refl

  pub respects : Respects first ts arguments (answer count marks)
  respects a c e =
      let j = stands-as a.datatype e in let r = g.argued a c in
      good-node (type_at ts a.ty) r.1.0 a.ty r.1.1 refl (below (count + r.1.0) a.datatype (omega (arith, r.0, enough)) j.1 r.1.2)

  fallen-refused : (rs : List Bool) → length rs ≡ count → Respects first ts arguments rs → (j : ℕ) → j < count → slice_index_or rs j false ≡ true → has_fallen marks j ≡ false
  fallen-refused rs n r j lt e = by-cases (has_fallen marks j) (λ t. let a = f.least (λ v. not (good ts first count G.asked rs v)) (g.right rs n r) j t in
      let b = good-name ts first count G.asked rs j lt ∙ e in absurd (cc (a, ap not b)))

  pub greatest : (rs : List Bool) → length rs ≡ count → Respects first ts arguments rs → AllBelow rs (answer count marks)
  greatest rs n r = pointwise rs (answer count marks) (λ j lt e. answer-at count marks j (omega (arith, lt, n)) (omega (arith, lt, n, enough)) ∙ ap not (fallen-refused rs n r j (omega (arith, lt, n)) e))
    where
      pointwise : (rs qs : List Bool) → ((j : ℕ) → j < length rs → slice_index_or rs j false ≡ true → slice_index_or qs j false ≡ true) → AllBelow rs qs
      pointwise [] qs h = tt
      pointwise (r ∷ rs) [] h = tt
      pointwise (r ∷ rs) (q ∷ qs) h = ((λ e. h 0 (omega arith) e), pointwise rs qs (λ j lt e. h (suc j) (omega (arith, lt)) e))
