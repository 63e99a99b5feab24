-- Primitives at a type: what is decided is so, and the other way round.
use Rattle.std.proofs.Common.{◌≡◌, ℕ, Bool, true, false, ◌&&◌, List, [], ◌∷◌, Option, Some, None, nat_eq, refl, sym, ap, ◌∙◌, subst}
use Rattle.std.proofs.lemmas.Bool.{eqb-true, and_parts, and_from}
use Rattle.mlc_names.specs.declared.label.Label.{Label}
use Rattle.mlc_prims.specs.declared.basis.BasisPrimitive.{BasisPrimitive}
use Rattle.ty_core.specs.Types.{Symbol, arrow, labels, name, Typ, var, con, Typs, none, more, typs_of}
use Rattle.prog_check.specs.of_ir_poly.Types.{prim_type}
use Rattle.ir_mono.specs.Types.{Row, node, node_at, numbered, Is, IsFunction, Stands, stands_var, stands_con, AllStand, stand_none, stand_more, IsTuple, nothing, alone, together}
use Rattle.ir_mono.specs.Typing.{PrimAt}
use Rattle.prog_check.specs.Same.{same_labels}
use Rattle.prog_check.proofs.SameLemmas.{same-number}
use Rattle.mono_fits.specs.Asked.{given, same_numbers, headed, is_record_node, allows, stands, all_stand, tuple_stands, function_stands, is_primitive, performs}
use Rattle.mono_fits.proofs.Deciding.{given-sound, given-since, headed-sound, headed-since, labels-same, same-labels, numbers-same, record-sound, record-since, allows-sound, allows-since}

module _ (types : List Row) (u : ℕ) where
  mutual
    pub stands-sound : (n : ℕ) (t : Typ) → stands types u n t ≡ true → Stands types (λ v. u) n t
    stands-sound n (var v) e = subst (λ n. Stands types (λ v. u) n (var v)) (sym (eqb-true n u e)) (stands_var {v = v})
    stands-sound n (con h ts) e =
        let g = given-sound (node_at types n) (headed h (λ ns. all_stand types u ns ts)) e in
        let k = headed-sound h (λ ns. all_stand types u ns ts) g.value g.so in
        stands_con (g.is ∙ ap Some k.is) (all-sound k.parts ts k.so)

    pub all-sound : (ns : List ℕ) (ts : Typs) → all_stand types u ns ts ≡ true → AllStand types (λ v. u) ns ts
    all-sound [] none e = stand_none
    all-sound [] (more t ts) e = absurd (cc)
    all-sound (n ∷ ns) none e = absurd (cc)
    all-sound (n ∷ ns) (more t ts) e = let a = and_parts (stands types u n t) (all_stand types u ns ts) e in stand_more (stands-sound n t a.0) (all-sound ns ts a.1)

  mutual
    pub stands-since : (n : ℕ) (t : Typ) → Stands types (λ v. u) n t → stands types u n t ≡ true
    stands-since n (var v) stands_var = same-number u
    stands-since n (con h ts) (stands_con {ns = ns} i p) =
        given-since (node_at types n) (headed h (λ ns. all_stand types u ns ts)) (node h ns) i (headed-since h (λ ns. all_stand types u ns ts) ns (all-since ns ts p))

    pub all-since : (ns : List ℕ) (ts : Typs) → AllStand types (λ v. u) ns ts → all_stand types u ns ts ≡ true
    all-since [] none stand_none = refl
    all-since [] (more t ts) p = elim p [ ]
    all-since (n ∷ ns) none p = elim p [ ]
    all-since (n ∷ ns) (more t ts) (stand_more p ps) = and_from (stands types u n t) (all_stand types u ns ts) (stands-since n t p) (all-since ns ts ps)

  -- a tuple of arguments of these types
  pub record HasTuple (a : ℕ) (ts : List Typ) : Type 0 where
    pub numbers : List ℕ
    pub stand : AllStand types (λ v. u) numbers (typs_of ts)
    pub tuple : IsTuple types numbers a

  together-by : (a : ℕ) (t s : Typ) (ts : List Typ) (ls : List Label) (ns : List ℕ) → Is types a (labels ls) ns → ls ≡ numbered 1 ns → AllStand types (λ v. u) ns (typs_of (t ∷ s ∷ ts)) → HasTuple a (t ∷ s ∷ ts)
  together-by a t s ts ls [] i e p = elim p [ ]
  together-by a t s ts ls (n ∷ []) i e (stand_more p ps) = elim ps [ ]
  together-by a t s ts ls (n ∷ m ∷ ns) i e p = record { numbers = n ∷ m ∷ ns; stand = p; tuple = together (subst (λ ls. Is types a (labels ls) (n ∷ m ∷ ns)) e i) }

  abbrev both : List Typ → List Label → List ℕ → Bool
  both ts ls ns = same_labels ls (numbered 1 ns) && all_stand types u ns (typs_of ts)

  pub tuple-sound : (a : ℕ) (ts : List Typ) → tuple_stands types u a ts ≡ true → HasTuple a ts
  tuple-sound a [] e =
      let g = given-sound (node_at types a) (headed (labels []) (same_numbers [])) e in
      let k = headed-sound (labels []) (same_numbers []) g.value g.so in
      record { numbers = []; stand = stand_none; tuple = nothing (g.is ∙ ap Some (k.is ∙ ap (node (labels [])) (sym (numbers-same [] k.parts k.so)))) }
  tuple-sound a (t ∷ []) e = record { numbers = a ∷ []; stand = stand_more (stands-sound a t e) stand_none; tuple = alone }
  tuple-sound a (t ∷ s ∷ ts) e =
      let r = record-sound types a (both (t ∷ s ∷ ts)) e in
      let p = and_parts (same_labels r.names (numbered 1 r.parts)) (all_stand types u r.parts (typs_of (t ∷ s ∷ ts))) r.so in
      together-by a t s ts r.names r.parts r.is (labels-same r.names (numbered 1 r.parts) p.0) (all-sound r.parts (typs_of (t ∷ s ∷ ts)) p.1)

  pub tuple-since : (a : ℕ) (ts : List Typ) (ns : List ℕ) → AllStand types (λ v. u) ns (typs_of ts) → IsTuple types ns a → tuple_stands types u a ts ≡ true
  tuple-since a [] [] p (nothing i) = given-since (node_at types a) (headed (labels []) (same_numbers [])) (node (labels []) []) i (headed-since (labels []) (same_numbers []) [] refl)
  tuple-since a [] (n ∷ ns) p i = elim p [ ]
  tuple-since a (t ∷ []) [] p i = elim p [ ]
  tuple-since a (t ∷ []) (n ∷ []) (stand_more p ps) alone = stands-since a t p
  tuple-since a (t ∷ []) (n ∷ m ∷ ns) (stand_more p ps) i = elim ps [ ]
  tuple-since a (t ∷ s ∷ ts) [] p i = elim p [ ]
  tuple-since a (t ∷ s ∷ ts) (n ∷ []) (stand_more p ps) i = elim ps [ ]
  tuple-since a (t ∷ s ∷ ts) (n ∷ m ∷ ns) p (together i) =
      record-since types a (both (t ∷ s ∷ ts)) (numbered 1 (n ∷ m ∷ ns)) (n ∷ m ∷ ns) i
      (and_from (same_labels (numbered 1 (n ∷ m ∷ ns)) (numbered 1 (n ∷ m ∷ ns))) (all_stand types u (n ∷ m ∷ ns) (typs_of (t ∷ s ∷ ts))) (same-labels (numbered 1 (n ∷ m ∷ ns))) (all-since (n ∷ m ∷ ns) (typs_of (t ∷ s ∷ ts)) p))

-- a primitive as a function
pub record IsPrimitive (types : List Row) (p : BasisPrimitive) (u n : ℕ) : Type 0 where
  pub argument : ℕ
  pub result : ℕ
  pub numbers : List ℕ
  pub at : PrimAt types p u numbers result
  pub tuple : IsTuple types numbers argument
  pub function : IsFunction types n argument result

module _ (types : List Row) (p : BasisPrimitive) (u : ℕ) where
  function-by : (n : ℕ) (ps : List ℕ) → allows types (prim_type p).mark u ≡ true → Is types n arrow ps → function_stands types p u ps ≡ true → IsPrimitive types p u n
  function-by n [] m i e = absurd (cc)
  function-by n (a ∷ []) m i e = absurd (cc)
  function-by n (a ∷ r ∷ q ∷ ps) m i e = absurd (cc)
  function-by n (a ∷ r ∷ []) m i e =
      let b = and_parts (tuple_stands types u a (prim_type p).arguments) (stands types u r (prim_type p).result) e in
      let t = tuple-sound types u a (prim_type p).arguments b.0 in
      record { argument = a; result = r; numbers = t.numbers; at = record { mark = allows-sound types (prim_type p).mark u m; arguments = t.stand; result = stands-sound types u r (prim_type p).result b.1 }; tuple = t.tuple; function = i }

  pub primitive-sound : (n : ℕ) → is_primitive types p u n ≡ true → IsPrimitive types p u n
  primitive-sound n e =
      let b = and_parts (allows types (prim_type p).mark u) (given (node_at types n) (headed arrow (function_stands types p u))) e in
      let g = given-sound (node_at types n) (headed arrow (function_stands types p u)) b.1 in
      let k = headed-sound arrow (function_stands types p u) g.value g.so in
      function-by n k.parts b.0 (g.is ∙ ap Some k.is) k.so

  pub primitive-since : (n a r : ℕ) (ns : List ℕ) → PrimAt types p u ns r → IsTuple types ns a → IsFunction types n a r → is_primitive types p u n ≡ true
  primitive-since n a r ns q t i =
      and_from (allows types (prim_type p).mark u) (given (node_at types n) (headed arrow (function_stands types p u))) (allows-since types (prim_type p).mark u q.mark)
      (given-since (node_at types n) (headed arrow (function_stands types p u)) (node arrow (a ∷ r ∷ [])) i (headed-since arrow (function_stands types p u) (a ∷ r ∷ [])
      (and_from (tuple_stands types u a (prim_type p).arguments) (stands types u r (prim_type p).result) (tuple-since types u a (prim_type p).arguments ns q.arguments t) (stands-since types u r (prim_type p).result q.result))))

  pub performs-sound : (ns : List ℕ) (r : ℕ) → performs types p u ns r ≡ true → PrimAt types p u ns r
  performs-sound ns r e =
      let a = and_parts (allows types (prim_type p).mark u) (all_stand types u ns (typs_of (prim_type p).arguments) && stands types u r (prim_type p).result) e in
      let b = and_parts (all_stand types u ns (typs_of (prim_type p).arguments)) (stands types u r (prim_type p).result) a.1 in
      record { mark = allows-sound types (prim_type p).mark u a.0; arguments = all-sound types u ns (typs_of (prim_type p).arguments) b.0; result = stands-sound types u r (prim_type p).result b.1 }

  pub performs-since : (ns : List ℕ) (r : ℕ) → PrimAt types p u ns r → performs types p u ns r ≡ true
  performs-since ns r q =
      and_from (allows types (prim_type p).mark u) (all_stand types u ns (typs_of (prim_type p).arguments) && stands types u r (prim_type p).result) (allows-since types (prim_type p).mark u q.mark)
      (and_from (all_stand types u ns (typs_of (prim_type p).arguments)) (stands types u r (prim_type p).result) (all-since types u ns (typs_of (prim_type p).arguments) q.arguments) (stands-since types u r (prim_type p).result q.result))
