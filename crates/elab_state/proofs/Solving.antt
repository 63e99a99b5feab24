-- Generic solutions of what is said of fewer variables, and of what unify leaves.
use Rattle.std.proofs.Common.{◌≡◌, ◌<◌, ◌≤◌, ◌+◌, ◌-◌, ℕ, zero, suc, Bool, true, false, nat_lt, if◌then◌else◌, List, [], ◌∷◌, ◌++◌, length, refl, sym, ap, ap₂, subst, ◌∙◌, arith}
use Rattle.std.proofs.lemmas.Bool.{ltb-true, ltb-false, lt-ltb, and_parts, and_from}
use Rattle.ty_core.specs.Types.{Typ, Typs, var, con, none, more, labels}
use Rattle.ty_core.specs.declared.mark.Mark.{Mark}
use Rattle.ty_core.specs.declared.scheme.Quantified.{Quantified}
use Rattle.ty_instance.specs.of_ty_solve.Rows.{Extends}
use Rattle.ty_instance.specs.of_ty_solve.Substitution.{Entry, free, bound, row, Meets, Solves, sub, subs, is_below, are_below}
use Rattle.ty_instance.specs.of_ty_solve.Limits.{Over, IsOver, NoFurther, Fall, AskTheSame}
use Rattle.ty_instance.specs.of_ty_solve.Solve.{IsMostGeneral}
use Rattle.ty_instance.specs.of_ty_solve.Weight.{BelowAt, AreBelow}
use Rattle.ty_instance.specs.of_ty_solve.declared.limit.Limit.{Limit}
use Rattle.prog_tree.specs.of_ir_poly.Types.{in_scope, over, all_over}
use Rattle.std.proofs.lemmas.List.{length-append}
use Rattle.ty_table.specs.TypeAt.{type_at}
use Rattle.ty_instance.specs.of_ty_solve.Limits.{limit_at}
use Rattle.ty_instance.specs.of_ty_solve.SlotsOf.{seen, look, entries}
use Rattle.ty_instance.specs.of_ty_solve.declared.subst.Slot.{Slot}
use Rattle.ty_instance.specs.of_ty_solve.declared.subst.Slot.TheVariants.{Open}
use Rattle.ty_instance.proofs.of_ty_solve.Look.{look-grow-here, look-grow-other}
use Rattle.ty_instance.proofs.of_ty_solve.Slots.{entries-length, entries-snoc, seen-past}
use Rattle.elab_state.specs.States.{dead_level}
use Rattle.elab_state.specs.Generic.{Generic}

-- fewer variables
pub generic-fewer : (m n : ℕ) (s u : ℕ → Entry) (b c : ℕ → Limit) (qs : List Quantified) (D : ℕ → List Quantified) (g : ℕ → Typ) → m ≤ n
    → ((v : ℕ) → v < m → u v ≡ s v) → ((v : ℕ) → m ≤ v → s v ≡ free Mark.Any) → ((v : ℕ) → v < m → c v ≡ b v)
    → Generic n u c qs D g → Generic m s b qs D g
generic-fewer m n s u b c qs D g le same past limits h = record {
  equality = h.equality;
  solves = λ v. at v (nat_lt v m) refl;
  names = λ v l. subst (λ k. Over k.names (g v)) (limits v l) (h.names v (omega arith));
  within = λ v l i. subst (λ k. over (D k.level) (g v) ≡ true) (limits v l) (h.within v (omega arith) (subst (λ k. k.level < dead_level) (sym (limits v l)) i));
  itself = h.itself;
  marked = h.marked;
  nested = h.nested;
  admitted = h.admitted;
  apart = h.apart;
}
  where
    at : (v : ℕ) (b : Bool) → nat_lt v m ≡ b → Meets h.equality g (g v) (s v)
    at v true e = subst (Meets h.equality g (g v)) (same v (ltb-true v m e)) (h.solves v)
    at v false e = subst (Meets h.equality g (g v)) (sym (past v (omega (arith, ltb-false v m e)))) tt

-- what g says of n variables, and the unit type for each other
abbrev only : ℕ → (ℕ → Typ) → ℕ → Typ
only n g v = if nat_lt v n then g v else con (labels []) none

only-below : (n v : ℕ) (g : ℕ → Typ) → nat_lt v n ≡ true → only n g v ≡ g v
only-below n v g h = ap (λ b. if b then g v else con (labels []) none) h

mutual
  only-sub : (n : ℕ) (g : ℕ → Typ) (t : Typ) → is_below n t ≡ true → sub (only n g) t ≡ sub g t
  only-sub n g (var v) h = only-below n v g h
  only-sub n g (con c ts) h = ap (con c) (only-subs n g ts h)

  only-subs : (n : ℕ) (g : ℕ → Typ) (ts : Typs) → are_below n ts ≡ true → subs (only n g) ts ≡ subs g ts
  only-subs n g none h = refl
  only-subs n g (more t ts) h = let p = and_parts (is_below n t) (are_below n ts) h in ap₂ more (only-sub n g t p.0) (only-subs n g ts p.1)

meets-only : (n : ℕ) (m : ℕ → Bool) (g : ℕ → Typ) (t : Typ) (e : Entry) → BelowAt n e → Meets m g t e → Meets m (only n g) t e
meets-only n m g t (free k) b h = h
meets-only n m g t (bound u) b h = h ∙ sym (only-sub n g u b)
meets-only n m g t (row d ks us) b h = subst (λ ts. Extends m d ks ts t) (sym (only-subs n g us b)) h

meets-again : (n : ℕ) (m : ℕ → Bool) (g : ℕ → Typ) (t : Typ) (e : Entry) → BelowAt n e → Meets m (only n g) t e → Meets m g t e
meets-again n m g t (free k) b h = h
meets-again n m g t (bound u) b h = h ∙ only-sub n g u b
meets-again n m g t (row d ks us) b h = subst (λ ts. Extends m d ks ts t) (only-subs n g us b) h

module _ (n : ℕ) (s : ℕ → Entry) (m : ℕ → Bool) (g : ℕ → Typ) (below : AreBelow n s) (past : (v : ℕ) → n ≤ v → s v ≡ free Mark.Any) where
  solves-only : Solves m g s → Solves m (only n g) s
  solves-only h v = by (nat_lt v n) refl
    where
      by : (b : Bool) → nat_lt v n ≡ b → Meets m (only n g) (only n g v) (s v)
      by true e = subst (λ t. Meets m (only n g) t (s v)) (sym (only-below n v g e)) (meets-only n m g (g v) (s v) (below v) (h v))
      by false e = subst (Meets m (only n g) (only n g v)) (sym (past v (omega (arith, ltb-false v n e)))) tt

  solves-again : Solves m (only n g) s → Solves m g s
  solves-again h v = by (nat_lt v n) refl
    where
      by : (b : Bool) → nat_lt v n ≡ b → Meets m g (g v) (s v)
      by true e = meets-again n m g (g v) (s v) (below v) (subst (λ t. Meets m (only n g) t (s v)) (only-below n v g e) (h v))
      by false e = subst (Meets m g (g v)) (sym (past v (omega (arith, ltb-false v n e)))) tt

over-only : (n : ℕ) (b : ℕ → Limit) (g : ℕ → Typ) → ((v : ℕ) → v < n → Over (b v).names (g v)) → IsOver b (only n g)
over-only n b g h v = by (nat_lt v n) refl
  where
    by : (x : Bool) → nat_lt v n ≡ x → Over (b v).names (only n g v)
    by true e = subst (Over (b v).names) (sym (only-below n v g e)) (h v (ltb-true v n e))
    by false e = subst (Over (b v).names) (sym (ap (λ x. if x then g v else con (labels []) none) e)) (tt, tt)

-- types over the parameters of a level are so at deeper ones
mutual
  pub over-more : (ps qs : List Quantified) → ((v : ℕ) → in_scope ps v ≡ true → in_scope qs v ≡ true) → (t : Typ) → over ps t ≡ true → over qs t ≡ true
  over-more ps qs h (var v) o = h v o
  over-more ps qs h (con c ts) o = all-over-more ps qs h ts o

  all-over-more : (ps qs : List Quantified) → ((v : ℕ) → in_scope ps v ≡ true → in_scope qs v ≡ true) → (ts : Typs) → all_over ps ts ≡ true → all_over qs ts ≡ true
  all-over-more ps qs h none o = o
  all-over-more ps qs h (more t ts) o =
      let p = and_parts (over ps t) (all_over ps ts) o in and_from (over qs t) (all_over qs ts) (over-more ps qs h t p.0) (all-over-more ps qs h ts p.1)

nested-more : (D : ℕ → List Quantified) → ((l v : ℕ) → in_scope (D l) v ≡ true → in_scope (D (suc l)) v ≡ true) → (d l v : ℕ) → in_scope (D l) v ≡ true → in_scope (D (d + l)) v ≡ true
nested-more D h zero l v i = subst (λ k. in_scope (D k) v ≡ true) (let e : l ≡ 0 + l = omega arith in e) i
nested-more D h (suc d) l v i = subst (λ k. in_scope (D k) v ≡ true) (let e : suc (d + l) ≡ suc d + l = omega arith in e) (h (d + l) v (nested-more D h d l v i))

pub nested-to : (D : ℕ → List Quantified) → ((l v : ℕ) → in_scope (D l) v ≡ true → in_scope (D (suc l)) v ≡ true) → (l k v : ℕ) → l ≤ k → in_scope (D l) v ≡ true → in_scope (D k) v ≡ true
nested-to D h l k v le i = subst (λ j. in_scope (D j) v ≡ true) (let e : (k - l) + l ≡ k = omega arith in e) (nested-more D h (k - l) l v i)

pub over-deeper : (D : ℕ → List Quantified) → ((l v : ℕ) → in_scope (D l) v ≡ true → in_scope (D (suc l)) v ≡ true) → (l k : ℕ) (t : Typ) → l ≤ k → over (D l) t ≡ true → over (D k) t ≡ true
over-deeper D h l k t le o = over-more (D l) (D k) (λ v. nested-to D h l k v le) t o

-- what unify leaves: the generic solutions that make the types equal
pub record Unified (n : ℕ) (s : ℕ → Entry) (b : ℕ → Limit) (qs : List Quantified) (D : ℕ → List Quantified) (g : ℕ → Typ) (t u : Typ) : Type 0 where
  pub before : Generic n s b qs D g
  pub equal : sub g t ≡ sub g u

module _ (n : ℕ) (s u : ℕ → Entry) (b c : ℕ → Limit) (qs : List Quantified) (D : ℕ → List Quantified) (g : ℕ → Typ) (x y : Typ)
    (s_below : AreBelow n s) (s_past : (v : ℕ) → n ≤ v → s v ≡ free Mark.Any) (u_below : AreBelow n u) (u_past : (v : ℕ) → n ≤ v → u v ≡ free Mark.Any)
    (x_below : is_below n x ≡ true) (y_below : is_below n y ≡ true) (general : IsMostGeneral s u x y) (same : AskTheSame u b c) (fall : Fall b c) where
  pub generic-unified : Generic n u c qs D g → Unified n s b qs D g x y
  generic-unified h =
      let solved = solves-only n u h.equality g u_below u_past h.solves in
      let old = (general h.equality (only n g)).0 solved in
      let limits = (same h.equality (only n g) solved).1 (over-only n c g h.names) in
      record {
        before = record {
          equality = h.equality;
          solves = solves-again n s h.equality g s_below s_past old.0;
          names = λ v l. subst (Over (b v).names) (only-below n v g (lt-ltb v n l)) (limits v);
          within = λ v l i. let f = (fall v).1 in over-deeper D h.nested (c v).level (b v).level (g v) f (h.within v l (omega arith));
          itself = h.itself;
          marked = h.marked;
          nested = h.nested;
          admitted = h.admitted;
          apart = h.apart;
        };
        equal = sym (only-sub n g x x_below) ∙ old.1 ∙ only-sub n g y y_below;
      }

-- one more variable of a solver, in plain lists
module _ (ts us : List Typ) (os ps : List Slot) (k : Mark) (ls ms : List Limit) (limit : Limit) (same : us ≡ ts) (slots : ps ≡ os ++ Open k ∷ []) (limits : ms ≡ ls ++ limit ∷ [])
    (each : length ls ≡ length os) where
  more-slots : (v : ℕ) → v < length os → seen us ps v ≡ seen ts os v
  more-slots v h = ap (λ l. seen l ps v) same ∙ ap (λ l. seen ts l v) slots ∙ ap (λ l. look l v) (entries-snoc ts os (Open k))
      ∙ look-grow-other (entries ts os) (free k) v (λ e. let n = entries-length ts os in omega arith)

  last-said : seen us ps (length os) ≡ free k
  last-said = ap (λ l. seen l ps (length os)) same ∙ ap (λ l. seen ts l (length os)) slots ∙ ap (λ l. look l (length os)) (entries-snoc ts os (Open k))
      ∙ ap (look (entries ts os ++ free k ∷ [])) (sym (entries-length ts os)) ∙ look-grow-here (entries ts os) (free k)

  limit-first : (l : List Limit) (v : ℕ) → v < length l → limit_at (l ++ limit ∷ []) v ≡ limit_at l v
  limit-first [] v h = absurd (omega arith)
  limit-first (x ∷ l) zero h = refl
  limit-first (x ∷ l) (suc v) h = limit-first l v (omega arith)

  limit-last : (l : List Limit) → limit_at (l ++ limit ∷ []) (length l) ≡ limit
  limit-last [] = refl
  limit-last (x ∷ l) = limit-last l

  pub more-limits : (v : ℕ) → v < length os → limit_at ms v ≡ limit_at ls v
  more-limits v h = ap (λ l. limit_at l v) limits ∙ limit-first ls v (omega arith)

  last-limit : limit_at ms (length os) ≡ limit
  last-limit = ap (limit_at ms) (sym each) ∙ ap (λ l. limit_at l (length ls)) limits ∙ limit-last ls

  pub said-at : (v : ℕ) → v ≡ length os → seen us ps v ≡ free k
  said-at v e = ap (seen us ps) e ∙ last-said

  pub limit-at : (v : ℕ) → v ≡ length os → limit_at ms v ≡ limit
  limit-at v e = ap (limit_at ms) e ∙ last-limit

  pub more-variables : length ps ≡ length os + 1
  more-variables = let a = ap length slots in let b = length-append os (Open k ∷ []) in omega arith

  pub generic-less : (qs : List Quantified) (D : ℕ → List Quantified) (g : ℕ → Typ) → Generic (length ps) (seen us ps) (limit_at ms) qs D g → Generic (length os) (seen ts os) (limit_at ls) qs D g
  generic-less qs D g = generic-fewer (length os) (length ps) (seen ts os) (seen us ps) (limit_at ls) (limit_at ms) qs D g (let a = more-variables in omega arith) more-slots (seen-past ts os) more-limits

  pub falls-less : (v : ℕ) → v < length os → NoFurther (limit_at ms v) (limit_at ls v)
  falls-less v h = subst (λ x. NoFurther x (limit_at ls v)) (sym (more-limits v h)) (omega arith, omega arith)

-- unify of a solver, in plain lists
module _ (ts us : List Typ) (os ps : List Slot) (ls ms : List Limit) (x y : ℕ) (same : us ≡ ts) (len : length ps ≡ length os)
    (os_below : AreBelow (length os) (seen ts os)) (ps_below : AreBelow (length ps) (seen us ps)) (x_below : is_below (length os) (type_at ts x) ≡ true)
    (y_below : is_below (length os) (type_at ts y) ≡ true) (general : IsMostGeneral (seen ts os) (seen us ps) (type_at ts x) (type_at ts y))
    (limits : AskTheSame (seen us ps) (limit_at ls) (limit_at ms)) (fall : Fall (limit_at ls) (limit_at ms)) (qs : List Quantified) (D : ℕ → List Quantified) (g : ℕ → Typ)
    (h : Generic (length ps) (seen us ps) (limit_at ms) qs D g) where
  unified : Unified (length os) (seen ts os) (limit_at ls) qs D g (type_at ts x) (type_at ts y)
  unified =
      generic-unified (length os) (seen ts os) (seen us ps) (limit_at ls) (limit_at ms) qs D g (type_at ts x) (type_at ts y) os_below (seen-past ts os)
      (subst (λ n. AreBelow n (seen us ps)) len ps_below) (λ v i. seen-past us ps v (omega arith)) x_below y_below general limits fall
      (subst (λ n. Generic n (seen us ps) (limit_at ms) qs D g) len h)

  pub unified-before : Generic (length os) (seen ts os) (limit_at ls) qs D g
  unified-before = unified.before

  pub unified-equal : sub g (type_at us x) ≡ sub g (type_at us y)
  unified-equal = subst (λ l. sub g (type_at l x) ≡ sub g (type_at l y)) (sym same) unified.equal
