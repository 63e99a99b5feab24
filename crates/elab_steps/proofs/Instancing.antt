-- Instances at new variables.
use Rattle.std.proofs.Common.{◌≡◌, ◌<◌, ◌≤◌, ◌+◌, ◌-◌, ℕ, zero, suc, Bool, true, false, ◌&&◌, if◌then◌else◌, List, [], ◌∷◌, ◌++◌, length, map, nat_lt, Some, slice_get, refl, sym, ap, ap₂, subst, ◌∙◌, arith}
use Rattle.std.proofs.lemmas.Bool.{eqb-true, ltb-true, lt-ltb, and_parts}
use Rattle.std.proofs.lemmas.List.{map-append, length-map, length-append}
use Rattle.std.proofs.lemmas.Option.{slice_get_within, get_or_from_slice_get}
use Rattle.ty_core.specs.Types.{Typ, var, con, Typs, none, more, typs_of}
use Rattle.ty_core.specs.Marks.{Allows}
use Rattle.ty_core.specs.Statics.{replace, replace_all}
use Rattle.ty_core.specs.declared.mark.Mark.{Mark}
use Rattle.ty_table.specs.TypeAt.{type_at}
use Rattle.elab_types.specs.of_ty_solve.Substitution.{Entry, free, sub, subs, Meets, is_below, are_below, is_in}
use Rattle.elab_types.specs.of_ty_solve.SlotsOf.{look, entries, entry_of}
use Rattle.elab_types.specs.of_ty_solve.Limits.{limit_at}
use Rattle.elab_types.specs.of_ty_solve.declared.limit.Limit.{Limit}
use Rattle.elab_types.specs.of_ty_solve.declared.subst.Slot.TheVariants.{Open}
use Rattle.elab_state.specs.of_ty_instance.Renamed.{renamed}
use Rattle.elab_state.specs.of_ir_tables.Tables.{parameters_of, strings_of}
use Rattle.elab_types.specs.of_core_rules.Objects.{AllAllowed, Over, AllOver}
use Rattle.elab_state.specs.of_ir_poly.Types.{in_scope, nth_type, over, all_over}
use Rattle.elab_state.specs.States.{types_in, made, said_in, limit_in, all_parameters, dead_level}
use Rattle.elab_state.proofs.Typed.{in-below}
use Rattle.elab_state.specs.declared.state.State.{State}
use Rattle.elab_steps.specs.Growing.{HasType, Begins, Grows, Always}
use Rattle.elab_steps.specs.Instances.{IsScheme, IsInstance}
use Rattle.elab_steps.specs.World.{type_of}
use Rattle.elab_steps.proofs.Growing.{comes_before, below-up}
use Rattle.elab_steps.proofs.Changing.{Stays, begins-same, constructors-same, rows-same, same-limit}
use Rattle.elab_steps.proofs.Keeping.{Makes, makes-done, makes-tidy, replaced-in}

-- what is said of variables, where some are added

look-past : (es : List Entry) (v : ℕ) → length es ≤ v → look es v ≡ free Mark.Any
look-past [] v le = refl
look-past (e ∷ es) zero le = absurd (omega arith)
look-past (e ∷ es) (suc v) le = look-past es v (omega arith)

look-behind : (es fs : List Entry) (n i : ℕ) → n ≡ length es → look (es ++ fs) (n + i) ≡ look fs i
look-behind [] fs n i h = let e : n + i ≡ i = omega (arith, h) in ap (look fs) e
look-behind (e ∷ es) fs n i h = let s : n + i ≡ suc (length es + i) = omega (arith, h) in ap (look (e ∷ (es ++ fs))) s ∙ look-behind es fs (length es) i refl

look-open : (ts : _) (marks : List Mark) (i : ℕ) (a : Mark) → slice_get marks i ≡ Some a → look (entries ts (map Open marks)) i ≡ free a
look-open ts [] i a e = cc
look-open ts (m ∷ marks) zero a e = let s : m ≡ a = cc in ap free s
look-open ts (m ∷ marks) (suc i) a e = look-open ts marks i a e

limit-among : (ls rest : List Limit) (v : ℕ) → v < length ls → limit_at (ls ++ rest) v ≡ limit_at ls v
limit-among [] rest v lt = absurd (omega arith)
limit-among (k ∷ ls) rest zero lt = refl
limit-among (k ∷ ls) rest (suc v) lt = limit-among ls rest v (omega arith)

limit-behind : (ls rest : List Limit) (n i : ℕ) → n ≡ length ls → limit_at (ls ++ rest) (n + i) ≡ limit_at rest i
limit-behind [] rest n i h = let e : n + i ≡ i = omega (arith, h) in ap (limit_at rest) e
limit-behind (k ∷ ls) rest n i h = let s : n + i ≡ suc (length ls + i) = omega (arith, h) in ap (limit_at (k ∷ (ls ++ rest))) s ∙ limit-behind ls rest (length ls) i refl

limit-each : (l : Limit) (marks : List Mark) (i : ℕ) → i < length marks → limit_at (map (λ m. l) marks) i ≡ l
limit-each l [] i lt = absurd (omega arith)
limit-each l (m ∷ marks) zero lt = refl
limit-each l (m ∷ marks) (suc i) lt = limit-each l marks i (omega arith)

-- what the new variables stand for
abbrev values_from : (ℕ → Typ) → ℕ → ℕ → List Typ
values_from f n zero = []
values_from f n (suc k) = f n ∷ values_from f (suc n) k

values-count : (f : ℕ → Typ) (n k : ℕ) → length (values_from f n k) ≡ k
values-count f n zero = refl
values-count f n (suc k) = ap suc (values-count f (suc n) k)

nth-value : (f : ℕ → Typ) (n k v : ℕ) → v < k → nth_type (values_from f n k) v ≡ f (n + v)
nth-value f n zero v lt = absurd (omega arith)
nth-value f n (suc k) zero lt = let e : n ≡ n + 0 = omega arith in ap f e
nth-value f n (suc k) (suc v) lt = let e : suc n + v ≡ n + suc v = omega arith in nth-value f (suc n) k v (omega arith) ∙ ap f e

values-over : (f : ℕ → Typ) (l n k : ℕ) → ((i : ℕ) → i < k → Over l (f (n + i))) → AllOver l (typs_of (values_from f n k))
values-over f l n zero h = tt
values-over f l n (suc k) h =
    let e : n + 0 ≡ n = omega arith in (
      subst (λ v. Over l (f v)) e (h 0 (omega arith)),
      values-over f l (suc n) k (λ i lt. let s : n + suc i ≡ suc n + i = omega arith in subst (λ v. Over l (f v)) s (h (suc i) (omega arith))),
    )

values-parameters : (f : ℕ → Typ) (qs : _) (n k : ℕ) → ((i : ℕ) → i < k → over qs (f (n + i)) ≡ true) → all_over qs (typs_of (values_from f n k)) ≡ true
values-parameters f qs n zero h = refl
values-parameters f qs n (suc k) h =
    let e : n + 0 ≡ n = omega arith in
    ap₂ (λ a b. a && b) (subst (λ v. over qs (f v) ≡ true) e (h 0 (omega arith)))
    (values-parameters f qs (suc n) k (λ i lt. let s : n + suc i ≡ suc n + i = omega arith in subst (λ v. over qs (f v) ≡ true) s (h (suc i) (omega arith))))

allowed-each : (m : ℕ → Bool) (r : ℕ → Typ) (k : ℕ) (marks : List Mark) → ((i : ℕ) (a : Mark) → slice_get marks i ≡ Some a → Allows a m (r (k + i))) → AllAllowed m r k marks
allowed-each m r k [] h = tt
allowed-each m r k (a ∷ marks) h =
    let e : k + 0 ≡ k = omega arith in (
      subst (λ v. Allows a m (r v)) e (h 0 a refl),
      allowed-each m r (suc k) marks (λ i b q. let s : k + suc i ≡ suc k + i = omega arith in subst (λ v. Allows b m (r v)) s (h (suc i) b q)),
    )

-- the body at the new variables, and what these stand for
module _ (f : ℕ → Typ) (n k : ℕ) where
  at-new : (v : ℕ) → nat_lt v k ≡ true → sub f (renamed n k v) ≡ nth_type (values_from f n k) v
  at-new v e = ap (λ (b : Bool). sub f (if b then var (n + v) else var (v - k))) e ∙ sym (nth-value f n k v (ltb-true v k e))

  mutual
    sub-renamed : (t : Typ) → is_below k t ≡ true → sub f (replace (renamed n k) t) ≡ replace (nth_type (values_from f n k)) t
    sub-renamed (var v) e = at-new v e
    sub-renamed (con y ts) e = ap (con y) (subs-renamed ts e)

    subs-renamed : (ts : Typs) → are_below k ts ≡ true → subs f (replace_all (renamed n k) ts) ≡ replace_all (nth_type (values_from f n k)) ts
    subs-renamed none e = refl
    subs-renamed (more t ts) e = let p = and_parts (is_below k t) (are_below k ts) e in ap₂ more (sub-renamed t p.0) (subs-renamed ts p.1)

-- what has changed
pub record Instanced (S T : State) (marks : List Mark) (body : ℕ) (limit : Limit) (r : ℕ) : Type 0 where
  pub stays : Stays S T
  pub types : Begins (types_in S) (types_in T)
  pub slots : T.solver.subst.slots.items ≡ S.solver.subst.slots.items ++ map Open marks
  pub limits : T.solver.limits.items ≡ S.solver.limits.items ++ map (λ _. limit) marks
  pub says : (v : ℕ) → v < made S → said_in T v ≡ said_in S v
  pub known : is_below (length marks + made S) (type_at (types_in S) body) ≡ true → is_below (made T) (type_at (types_in T) r) ≡ true
  pub is : slice_get (types_in T) r ≡ Some (replace (renamed (made S) (length marks)) (type_at (types_in S) body))
  -- the new variables belong to one of the declarations around
  pub deep : limit.level < dead_level
  pub inside : limit.level ≤ S.level

module _ (S T : State) (marks : List Mark) (body : ℕ) (limit : Limit) (r : ℕ) (h : Instanced S T marks body limit r) where
  made-more : made T ≡ made S + length marks
  made-more = ap length h.slots ∙ length-append S.solver.subst.slots.items (map Open marks) ∙ ap (λ i. made S + i) (length-map marks Open)

  solved-before : (m : ℕ → Bool) (f : ℕ → Typ) (v : ℕ) → Meets m f (f v) (said_in T v) → Meets m f (f v) (said_in S v)
  solved-before m f v s = by (nat_lt v (made S)) refl
    where
      by : (b : Bool) → nat_lt v (made S) ≡ b → Meets m f (f v) (said_in S v)
      by true e = subst (Meets m f (f v)) (h.says v (ltb-true v (made S) e)) s
      by false e =
          let le : made S ≤ v = grind (arith, Rattle.std.proofs.lemmas.Bool.Decides.nat_tests) in
          subst (Meets m f (f v)) (sym (look-past (entries (types_in S) S.solver.subst.slots.items) v (omega (arith, length-map S.solver.subst.slots.items (entry_of (types_in S)))))) tt

  new-limit : (i : ℕ) → i < length marks → limit_in T (made S + i) ≡ limit
  new-limit i lt =
      ap (λ ls. limit_at ls (made S + i)) h.limits ∙ limit-behind S.solver.limits.items (map (λ _. limit) marks) (made S) i (sym S.solver.each_has_one) ∙ limit-each limit marks i lt

  instanced-makes : Makes S T
  instanced-makes = record {
    said = h.says;
    limits = λ x lt.
        ap (λ ls. limit_at ls x) h.limits ∙ limit-among S.solver.limits.items (map (λ _. limit) marks) x (let e = S.solver.each_has_one in omega (arith, e, lt));
    new = λ x le lt.
        let n = made-more in let s : made S + (x - made S) ≡ x = omega (arith, le) in let i = h.inside in
        subst (λ y. (limit_in T y).level ≤ S.level) s (subst (λ (l : Limit). l.level ≤ S.level) (sym (new-limit (x - made S) (omega (arith, n, le, lt)))) i);
    general = λ x. ap (λ t. in_scope (all_parameters (parameters_of t)) x) h.stays.tables;
    level = h.stays.level;
  }

  pub instanced_grows : Grows S T
  instanced_grows = record {
    types = h.types;
    written = begins-same _ _ h.stays.written;
    namings = begins-same _ _ h.stays.namings;
    lists = begins-same _ _ (ap parameters_of h.stays.tables);
    strings = begins-same _ _ (ap strings_of h.stays.tables);
    rows = rows-same S.tables T.tables h.stays.tables;
    variables = let e = made-more in omega (arith, e);
    solves = λ m f s v. solved-before m f v (s v);
    limits = λ v lt. same-limit (limit_in T v) (limit_in S v)
        (ap (λ ls. limit_at ls v) h.limits ∙ limit-among S.solver.limits.items (map (λ _. limit) marks) v (let e = S.solver.each_has_one in omega (arith, e, lt)));
    next = let e = h.stays.next in omega (arith, e);
    level = h.stays.level;
    done = makes-done S T instanced-makes;
    tidy = makes-tidy S T instanced-makes;
    constructors = constructors-same S T h.stays.tables;
  }

  renamed-live : (v x : ℕ) → v < length marks → is_in x (renamed (made S) (length marks) v) ≡ true → (limit_in T x).level < dead_level
  renamed-live v x lt i =
      let at : renamed (made S) (length marks) v ≡ var (made S + v) = ap (λ (b : Bool). if b then var (made S + v) else var (v - length marks)) (lt-ltb v (length marks) lt) in
      let same : made S + v ≡ x = eqb-true (made S + v) x (subst (λ t. is_in x t ≡ true) at i) in
      subst (λ y. (limit_in T y).level < dead_level) same (subst (λ (l : Limit). l.level < dead_level) (sym (new-limit v lt)) h.deep)

  pub instanced_is : IsScheme S marks body → HasType T r
  instanced_is s = record {
    held = slice_get_within (types_in T) r (replace (renamed (made S) (length marks)) (type_at (types_in S) body)) h.is;
    below = h.known (below-up (length marks) (length marks + made S) (omega arith) (type_at (types_in S) body) s.closed);
    live = λ x i.
        let f = renamed (made S) (length marks) in
        let t = type_at (types_in S) body in
        replaced-in ((limit_in T x).level < dead_level) f x t
        (subst (λ u. is_in x u ≡ true) (get_or_from_slice_get (types_in T) r (replace f t) (var 0) h.is) i)
        (λ v j. renamed-live v x (in-below (length marks) v t j s.closed));
  }

  new-said : (i : ℕ) (a : Mark) → slice_get marks i ≡ Some a → said_in T (made S + i) ≡ free a
  new-said i a e =
      let os = S.solver.subst.slots.items in let ts = types_in T in
      ap (λ l. look (entries ts l) (made S + i)) h.slots ∙ ap (λ l. look l (made S + i)) (map-append (entry_of ts) os (map Open marks))
      ∙ look-behind (entries ts os) (entries ts (map Open marks)) (made S) i (sym (length-map os (entry_of ts))) ∙ look-open ts marks i a e

  pub instanced_instance : IsScheme S marks body → Always T (λ W. IsInstance W limit marks (W.raw body) (type_of W r))
  instanced_instance s W c =
      let n = made S in
      let k = length marks in
      let us = values_from W.value n k in
      let among : (i : ℕ) → i < k → n + i < made T = λ i lt. let e = made-more in omega (arith, e, lt) in
      record {
        images = us;
        count = values-count W.value n k;
        allowed = allowed-each W.admits (nth_type us) 0 marks (λ i a e.
            let lt : i < k = slice_get_within marks i a e in
            let z : 0 + i ≡ i = omega arith in
            let at : nth_type us (0 + i) ≡ W.value (n + i) = ap (nth_type us) z ∙ nth-value W.value n k i lt in
            subst (Allows a W.admits) (sym at) (subst (Meets W.admits W.value (W.value (n + i))) (new-said i a e) (c.solves (n + i))));
        names = values-over W.value limit.names n k (λ i lt. subst (λ (l : Limit). Over l.names (W.value (n + i))) (new-limit i lt) (c.names (n + i) (among i lt)));
        parameters = λ deep. values-parameters W.value (W.parameters limit.level) n k (λ i lt.
            subst (λ (l : Limit). l.level < dead_level → over (W.parameters l.level) (W.value (n + i)) ≡ true) (new-limit i lt) (c.within (n + i) (among i lt)) deep);
        is =
            let before = comes_before S T W instanced_grows c in
            let found = slice_get_within (types_in T) r (replace (renamed n k) (type_at (types_in S) body)) h.is in
            ap (sub W.value) (c.types r found ∙ get_or_from_slice_get (types_in T) r (replace (renamed n k) (type_at (types_in S) body)) (var 0) h.is)
            ∙ sub-renamed W.value n k (type_at (types_in S) body) s.closed ∙ ap (replace (nth_type us)) (sym (before.types body s.held));
      }
