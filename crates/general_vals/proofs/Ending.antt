-- What the end of a declaration leaves of a state.
use Rattle.std.proofs.Common.{◌≡◌, ◌<◌, ◌≤◌, ◌+◌, ◌⊎◌, inl, inr, ◌&&◌, ◌||◌, not, ℕ, suc, Bool, true, false, nat_eq, nat_lt, if◌then◌else◌, List, [], ◌∷◌, ◌++◌, map, length, get_or, Some, Vec, Global, refl, sym, ap, ap₂, subst, ◌∙◌, arith}
use Rattle.std.specs.List.{AllByRecursion}
use Rattle.std.proofs.lemmas.Bool.{ltb-true, ltb-false, lt-ltb, and_parts, and_from}
use Rattle.std.proofs.lemmas.List.{map-append}
use Rattle.ty_core.specs.Types.{Typ, Typs, var, con, none, more}
use Rattle.ty_core.specs.Marks.{is_inhabited}
use Rattle.ty_core.specs.declared.scheme.Quantified.{Quantified}
use Rattle.ty_solve.specs.Limits.{NoFurther, Limited, AllLimited, LimitedAt, AreLimited, AreWide, SymbolOver}
use Rattle.ty_solve.specs.Substitution.{Entry, free, bound, row, is_open}
use Rattle.ty_solve.specs.SlotsOf.{entry_of}
use Rattle.ty_solve.specs.declared.limit.Limit.{Limit}
use Rattle.ty_solve.specs.declared.subst.Slot.{Slot}
use Rattle.ty_solve.proofs.Slots.{seen-get}
use Rattle.ir_poly.specs.Types.{in_scope, is_declarable, are_new}
use Rattle.ir_tables.specs.Rows.{constructors_at}
use Rattle.ir_tables.specs.Tables.{parameters_of, parameters_at}
use Rattle.elab_state.specs.States.{types_in, made, said_in, limit_in, general_in, all_parameters, dead_level}
use Rattle.elab_state.specs.declared.state.State.{State}
use Rattle.elab_context.specs.Telling.{HasList}
use Rattle.elab_steps.specs.Tidy.{IsTidy, is_parameter}
use Rattle.general_worlds.specs.Tidy.{AreOuter, Ends, mark_in}
use Rattle.general_worlds.proofs.Scoping.{scope-either, last-general, earlier-general}
use Rattle.general_vals.specs.Closing.{is_inner, added, collected, ended, ended_at}
use Rattle.general_vals.proofs.Closing.{limit-past, limit-get}
use Rattle.general_vals.proofs.Collecting.{Collected, are-collected}

-- a type whose variables reach no further than others did
mutual
  limited-as : (b c : ℕ → Limit) (k j : Limit) → j.names ≡ k.names → ((x : ℕ) → NoFurther (b x) k → NoFurther (c x) j) → (t : Typ) → Limited b k t → Limited c j t
  limited-as b c k j e f (var v) h = f v h
  limited-as b c k j e f (con y ts) h = (subst (λ n. SymbolOver n y) (sym e) h.0, all-limited-as b c k j e f ts h.1)

  all-limited-as : (b c : ℕ → Limit) (k j : Limit) → j.names ≡ k.names → ((x : ℕ) → NoFurther (b x) k → NoFurther (c x) j) → (ts : Typs) → AllLimited b k ts → AllLimited c j ts
  all-limited-as b c k j e f none h = tt
  all-limited-as b c k j e f (more t ts) h = (limited-as b c k j e f t h.0, all-limited-as b c k j e f ts h.1)

entry-as : (b c : ℕ → Limit) (k j : Limit) → j.names ≡ k.names → ((x : ℕ) → NoFurther (b x) k → NoFurther (c x) j) → (e : Entry) → LimitedAt b k e → LimitedAt c j e
entry-as b c k j e f (free m) h = tt
entry-as b c k j e f (bound t) h = limited-as b c k j e f t h
entry-as b c k j e f (row d ls us) h = all-limited-as b c k j e f us h

ended-names : (l : ℕ) (b : Limit) → (ended l b).names ≡ b.names
ended-names l b = by (nat_lt l b.level)
  where
    by : (c : Bool) → (if c then record { names = b.names; level = dead_level } else b).names ≡ b.names
    by true = refl
    by false = refl

pub at-names : (l first v : ℕ) (b : Limit) → (ended_at l first v b).names ≡ b.names
at-names l first v b = by (nat_lt v first)
  where
    by : (c : Bool) → (if c then b else ended l b).names ≡ b.names
    by true = refl
    by false = ended-names l b

-- a variable of the declarations around stays
pub stays : (l first v : ℕ) (b : Limit) → b.level ≤ l → ended_at l first v b ≡ b
stays l first v b le = by (nat_lt v first)
  where
    low : (c : Bool) → nat_lt l b.level ≡ c → (if c then record { names = b.names; level = dead_level } else b) ≡ b
    low true e = absurd (let a = ltb-true l b.level e in omega (arith, a, le))
    low false e = refl

    by : (c : Bool) → (if c then b else ended l b) ≡ b
    by true = refl
    by false = low (nat_lt l b.level) refl

-- and one that was done with
pub stays-done : (l first v : ℕ) (b : Limit) → b.level ≡ dead_level → (ended_at l first v b).level ≡ dead_level
stays-done l first v b e = by (nat_lt v first)
  where
    deep : (c : Bool) → (if c then record { names = b.names; level = dead_level } else b).level ≡ dead_level
    deep true = refl
    deep false = e

    by : (c : Bool) → (if c then b else ended l b).level ≡ dead_level
    by true = e
    by false = deep (nat_lt l b.level)

-- each variable is of a declaration around, or done with
pub record Outside (l : ℕ) (b c : Limit) : Type 0 where
  pub still : c ≡ b
  pub outer : b.level ≤ l

pub fate : (l first v : ℕ) (b : Limit) → (v < first → (b.level ≤ l) ⊎ (b.level ≡ dead_level)) → Outside l b (ended_at l first v b) ⊎ ((ended_at l first v b).level ≡ dead_level)
fate l first v b o = by (nat_lt v first) refl
  where
    in-front : (b.level ≤ l) ⊎ (b.level ≡ dead_level) → Outside l b b ⊎ (b.level ≡ dead_level)
    in-front (inl h) = inl (record { still = refl; outer = h })
    in-front (inr h) = inr h

    later : (c : Bool) → nat_lt l b.level ≡ c → Outside l b (if c then record { names = b.names; level = dead_level } else b) ⊎ ((if c then record { names = b.names; level = dead_level } else b).level ≡ dead_level)
    later true e = inr refl
    later false e = inl (record { still = refl; outer = (let a = ltb-false l b.level e in a) })

    by : (c : Bool) → nat_lt v first ≡ c → Outside l b (if c then b else ended l b) ⊎ ((if c then b else ended l b).level ≡ dead_level)
    by true e = in-front (o (ltb-true v first e))
    by false e = later (nat_lt l b.level) refl

module _ (b c : ℕ → Limit) (l first : ℕ) (ends : (v : ℕ) → c v ≡ ended_at l first v (b v)) (outer : (v : ℕ) → v < first → ((b v).level ≤ l) ⊎ ((b v).level ≡ dead_level)) where
  c-names : (v : ℕ) → (c v).names ≡ (b v).names
  c-names v = ap (λ k. k.names) (ends v) ∙ at-names l first v (b v)

  pub c-fate : (v : ℕ) → Outside l (b v) (c v) ⊎ ((c v).level ≡ dead_level)
  c-fate v = subst (λ k. Outside l (b v) k ⊎ (k.level ≡ dead_level)) (sym (ends v)) (fate l first v (b v) (outer v))

  c-low : ((v : ℕ) → (b v).level ≤ dead_level) → (v : ℕ) → (c v).level ≤ dead_level
  c-low low v = by (c-fate v)
    where
      by : Outside l (b v) (c v) ⊎ ((c v).level ≡ dead_level) → (c v).level ≤ dead_level
      by (inl h) = subst (λ k. k.level ≤ dead_level) (sym h.still) (low v)
      by (inr e) = omega (arith, e)

  pub limits-end : (s : ℕ → Entry) → ((v : ℕ) → (b v).level ≤ dead_level) → AreLimited b s → AreLimited c s
  limits-end s low h v = by (c-fate v)
    where
      by : Outside l (b v) (c v) ⊎ ((c v).level ≡ dead_level) → LimitedAt c (c v) (s v)
      by (inr e) = entry-as b c (b v) (c v) (c-names v) (λ x n.
          let d = c-low low x in
          let p = c-names x in let q = c-names v in let r = n.0 in
          (omega (arith, p, q, r), omega (arith, d, e))) (s v) (h v)
      by (inl o) = entry-as b c (b v) (c v) (c-names v) (λ x n.
          let le = n.1 in let out = o.outer in
          subst (λ k. NoFurther k (c v)) (sym (ends x ∙ stays l first x (b x) (omega (arith, le, out)))) (subst (λ k. NoFurther (b x) k) (sym o.still) n)) (s v) (h v)

  pub limits-wide : AreWide b → AreWide c
  limits-wide h v = let e = c-names v in let w = h v in omega (arith, e, w)

-- no level is beyond that of variables that are done with
pub low-enough : (S : State) (l : ℕ) → suc l < dead_level → IsTidy S (suc l) → (v : ℕ) → (limit_in S v).level ≤ dead_level
low-enough S l low tidy v = by (nat_lt v (made S)) refl
  where
    at : ((limit_in S v).level ≤ suc l) ⊎ ((limit_in S v).level ≡ dead_level) → (limit_in S v).level ≤ dead_level
    at (inl h) = omega (arith, h, low)
    at (inr h) = omega (arith, h)

    by : (c : Bool) → nat_lt v (made S) ≡ c → (limit_in S v).level ≤ dead_level
    by true e = at (tidy.settled v (ltb-true v (made S) e))
    by false e =
        let a = ltb-false v (made S) e in let b = S.solver.each_has_one in
        let p = ap (λ k. k.level) (limit-past S.solver.limits.items v (omega (arith, a, b))) in omega (arith, p)

-- what one variable adds

pub inner-added : (S : State) (l v : ℕ) (k : Limit) (o : Slot) (qs : List Quantified) → v < made S → k ≡ get_or S.solver.limits.items v k → o ≡ get_or S.solver.subst.slots.items v o
    → l < k.level → k.level < dead_level → (if is_inner l (limit_in S v) then added v (said_in S v) qs else Some qs) ≡ added v (entry_of (types_in S) o) qs
inner-added S l v k o qs lt limit slot in_ alive =
    let e = S.solver.each_has_one in
    let at : limit_in S v ≡ k = limit-get S.solver.limits.items v k (omega (arith, lt, e)) limit in
    let here : is_inner l (limit_in S v) ≡ true = ap (is_inner l) at ∙ and_from (nat_lt l k.level) (nat_lt k.level dead_level) (lt-ltb l k.level in_) (lt-ltb k.level dead_level alive) in
    ap (λ c. if c then added v (said_in S v) qs else Some qs) here ∙ ap (λ e. added v e qs) (seen-get (types_in S) S.solver.subst.slots.items v o lt slot)

pub inner-skipped : (S : State) (l v : ℕ) (k : Limit) (qs : List Quantified) → v < made S → k ≡ get_or S.solver.limits.items v k → (l < k.level → k.level < dead_level → ⊥)
    → (if is_inner l (limit_in S v) then added v (said_in S v) qs else Some qs) ≡ Some qs
inner-skipped S l v k qs lt limit out =
    let e = S.solver.each_has_one in
    let at : limit_in S v ≡ k = limit-get S.solver.limits.items v k (omega (arith, lt, e)) limit in
    ap (λ b. if is_inner l b then added v (said_in S v) qs else Some qs) at ∙ by (nat_lt l k.level) refl (nat_lt k.level dead_level) refl
  where
    by : (c : Bool) → nat_lt l k.level ≡ c → (d : Bool) → nat_lt k.level dead_level ≡ d → (if c && d then added v (said_in S v) qs else Some qs) ≡ Some qs
    by true p true q = absurd (out (ltb-true l k.level p) (ltb-true k.level dead_level q))
    by true p false q = refl
    by false p d q = refl

-- what changes in the state
pub record Closed (S T : State) (l first k : ℕ) (qs : Vec Quantified Global) : Type 0 where
  pub limits : (v : ℕ) → limit_in T v ≡ ended_at l first v (limit_in S v)
  pub solver : T.solver.subst ≡ S.solver.subst
  pub written : T.written.items ≡ S.written.items
  pub namings : T.namings.items ≡ S.namings.items
  pub types : T.tables.types ≡ S.tables.types
  pub constructors : T.tables.constructors ≡ S.tables.constructors
  pub lists : T.tables.parameters.items ≡ S.tables.parameters.items ++ qs ∷ []
  pub strings : T.tables.strings ≡ S.tables.strings
  pub next : T.next ≡ S.next
  pub deeper : S.level ≡ l + 1
  pub level : T.level ≡ l
  pub number : k ≡ length S.tables.parameters.items
  pub found : collected (said_in S) (limit_in S) l first (made S) ≡ Some qs.items

marks-declarable : (qs : List Quantified) (v : ℕ) → are_new qs [] ≡ true → in_scope qs v ≡ true → is_declarable (mark_in qs v) ≡ true
marks-declarable [] v h i = cc
marks-declarable (q ∷ qs) v h i =
    let a = and_parts (is_declarable q.mark) (not (in_scope qs q.variable) && are_new qs []) h in
    by (nat_eq q.variable v) i a.0 (marks-declarable qs v (and_parts (not (in_scope qs q.variable)) (are_new qs []) a.1).1)
  where
    by : (c : Bool) → (c || in_scope qs v) ≡ true → is_declarable q.mark ≡ true → (in_scope qs v ≡ true → is_declarable (mark_in qs v) ≡ true)
        → is_declarable (if c then q.mark else mark_in qs v) ≡ true
    by true i d again = d
    by false i d again = again i

at-last : {A : Type 0} (xs : List (List A)) (x : List A) → get_or (xs ++ x ∷ []) (length xs) [] ≡ x
at-last [] x = refl
at-last (y ∷ ys) x = at-last ys x

module _ (S T : State) (l first list : ℕ) (qs : Vec Quantified Global) (z : Closed S T l first list qs) (low : suc l < dead_level) (outer : AreOuter S l first) (tidy : IsTidy S (suc l)) where
  has : Collected (said_in S) (limit_in S) l first (made S) qs.items
  has = are-collected (said_in S) (limit_in S) l first (made S) qs.items z.found

  lists-are : parameters_of T.tables ≡ parameters_of S.tables ++ qs.items ∷ []
  lists-are = ap (map (λ (p : Vec Quantified Global). p.items)) z.lists ∙ map-append (λ (p : Vec Quantified Global). p.items) S.tables.parameters.items (qs ∷ [])

  length-map : (ps : List (Vec Quantified Global)) → length (map (λ (p : Vec Quantified Global). p.items) ps) ≡ length ps
  length-map [] = refl
  length-map (p ∷ ps) = ap suc (length-map ps)

  pub list-is : parameters_at (parameters_of T.tables) list ≡ qs.items
  list-is = ap₂ (λ (ps : List (List Quantified)) k. parameters_at ps k) lists-are (z.number ∙ sym (length-map S.tables.parameters.items)) ∙ at-last (parameters_of S.tables) qs.items

  pub list-held : HasList T list
  list-held = record {
    held =
        let a = z.number in let b = length-map S.tables.parameters.items in
        let e = ap length lists-are in let f = Rattle.std.proofs.lemmas.List.length-append (parameters_of S.tables) (qs.items ∷ []) in omega (arith, a, b, e, f);
    inhabited = subst (AllByRecursion (λ (q : Quantified). is_inhabited q.mark ≡ true)) (sym list-is) has.inhabited;
  }

  -- variables of the declaration
  level-is : (v : ℕ) → v < made S → l < (limit_in S v).level → ((limit_in S v).level ≡ suc l) ⊎ ((limit_in S v).level ≡ dead_level)
  level-is v lt in_ = by (tidy.settled v lt)
    where
      by : ((limit_in S v).level ≤ suc l) ⊎ ((limit_in S v).level ≡ dead_level) → ((limit_in S v).level ≡ suc l) ⊎ ((limit_in S v).level ≡ dead_level)
      by (inl h) = inl (omega (arith, h, in_))
      by (inr h) = inr h

  not-outer : (v : ℕ) → (limit_in S v).level ≡ suc l → first ≤ v
  not-outer v e = by (nat_lt v first) refl
    where
      at : ((limit_in S v).level ≤ l) ⊎ ((limit_in S v).level ≡ dead_level) → ⊥
      at (inl h) = omega (arith, h, e)
      at (inr h) = omega (arith, h, e, low)

      by : (c : Bool) → nat_lt v first ≡ c → first ≤ v
      by true q = absurd (at (outer v (ltb-true v first q)))
      by false q = let a = ltb-false v first q in a

  inner-is : (v : ℕ) → (limit_in S v).level ≡ suc l → is_inner l (limit_in S v) ≡ true
  inner-is v e = and_from (nat_lt l (limit_in S v).level) (nat_lt (limit_in S v).level dead_level) (lt-ltb l (limit_in S v).level (omega (arith, e)))
      (lt-ltb (limit_in S v).level dead_level (omega (arith, e, low)))

  only-is : (v : ℕ) → in_scope qs.items v ≡ true → (limit_in S v).level ≡ suc l
  only-is v i =
      let p = and_parts (nat_lt l (limit_in S v).level) (nat_lt (limit_in S v).level dead_level) (has.inner v i) in
      by (level-is v (has.before v i) (ltb-true l (limit_in S v).level p.0)) (ltb-true (limit_in S v).level dead_level p.1)
    where
      by : ((limit_in S v).level ≡ suc l) ⊎ ((limit_in S v).level ≡ dead_level) → (limit_in S v).level < dead_level → (limit_in S v).level ≡ suc l
      by (inl e) lt = e
      by (inr e) lt = absurd (omega (arith, e, lt))

  pub closed-ends : Ends l qs.items S T
  closed-ends = record {
    generalises = record {
      settled = tidy.settled;
      done = tidy.done;
      all = λ v lt o e. has.all v (not-outer v e) lt o (inner-is v e);
      only = only-is;
      declarable = has.declarable;
      names = λ v. ap (λ k. k.names) (z.limits v) ∙ at-names l first v (limit_in S v);
      outer = λ v le. ap (λ k. k.level) (z.limits v ∙ stays l first v (limit_in S v) le);
      low = low;
    };
    ended = tidy.ended;
    marks = has.marks;
    said = ap Rattle.ty_solve.specs.Said.said z.solver;
    made = ap (λ s. length s.slots.items) z.solver;
    types = ap (λ (s : Rattle.ty_solve.specs.declared.subst.Subst.Subst). types-of s) z.solver;
    written = z.written;
    namings = z.namings;
    lists = lists-are;
    strings = ap (λ v. map (λ p. p.items) v.items) z.strings;
    rows = ap₂ constructors_at z.types z.constructors;
    next = z.next;
    inside = let e = z.deeper in omega (arith, e);
    level = z.level;
    stay = λ v e. ap (λ k. k.level) (z.limits v) ∙ stays-done l first v (limit_in S v) e;
  }
    where
      types-of : Rattle.ty_solve.specs.declared.subst.Subst.Subst → List Typ
      types-of s = s.types

  made-is : made T ≡ made S
  made-is = ap (λ s. length s.slots.items) z.solver

  done-with : (v : ℕ) → (limit_in S v).level ≡ dead_level → (limit_in T v).level ≡ dead_level
  done-with v e = ap (λ k. k.level) (z.limits v) ∙ stays-done l first v (limit_in S v) e

  fate-of : (v : ℕ) → Outside l (limit_in S v) (limit_in T v) ⊎ ((limit_in T v).level ≡ dead_level)
  fate-of = c-fate (limit_in S) (limit_in T) l first z.limits outer

  -- what is generalised then was so before, or is a parameter of the declaration
  general-either : (v : ℕ) → in_scope (general_in T) v ≡ true → (in_scope (general_in S) v ≡ true) ⊎ (in_scope qs.items v ≡ true)
  general-either v i = split (parameters_of S.tables) (subst (λ ps. in_scope (all_parameters ps) v ≡ true) lists-are i)
    where
      split : (pss : List (List Quantified)) → in_scope (all_parameters (pss ++ qs.items ∷ [])) v ≡ true → (in_scope (all_parameters pss) v ≡ true) ⊎ (in_scope qs.items v ≡ true)
      split [] h = inr (at (in_scope qs.items v) refl)
        where
          at : (c : Bool) → in_scope qs.items v ≡ c → c ≡ true
          at true e = refl
          at false e = let n = scope-either qs.items [] v h e in cc
      split (ps ∷ pss) h = at (in_scope ps v) refl (split pss)
        where
          at : (c : Bool) → in_scope ps v ≡ c → (in_scope (all_parameters (pss ++ qs.items ∷ [])) v ≡ true → (in_scope (all_parameters pss) v ≡ true) ⊎ (in_scope qs.items v ≡ true))
              → (in_scope (ps ++ all_parameters pss) v ≡ true) ⊎ (in_scope qs.items v ≡ true)
          at true e f = inl (Rattle.elab_state.proofs.Generalising.scope-front ps (all_parameters pss) v e)
          at false e f = go (f (scope-either ps (all_parameters (pss ++ qs.items ∷ [])) v h e))
            where
              go : (in_scope (all_parameters pss) v ≡ true) ⊎ (in_scope qs.items v ≡ true) → (in_scope (ps ++ all_parameters pss) v ≡ true) ⊎ (in_scope qs.items v ≡ true)
              go (inl k) = inl (Rattle.elab_state.proofs.Generalising.scope-behind ps (all_parameters pss) v k)
              go (inr k) = inr k

  general-now : (v : ℕ) → in_scope (general_in T) v ≡ true → (limit_in T v).level ≡ dead_level
  general-now v i = by (fate-of v)
    where
      level : (in_scope (general_in S) v ≡ true) ⊎ (in_scope qs.items v ≡ true) → l < (limit_in S v).level
      level (inl k) = let e = tidy.done v k in omega (arith, e, low)
      level (inr k) = let e = only-is v k in omega (arith, e)

      by : Outside l (limit_in S v) (limit_in T v) ⊎ ((limit_in T v).level ≡ dead_level) → (limit_in T v).level ≡ dead_level
      by (inr e) = e
      by (inl o) = absurd (let a = level (general-either v i) in let b = o.outer in omega (arith, a, b))

  pub closed-tidy : IsTidy T l
  closed-tidy = record {
    settled = λ v lt. settle v (fate-of v);
    done = general-now;
    ended = λ v lt o e. subst (λ ps. in_scope (all_parameters ps) v ≡ true) (sym lists-are) (end v (subst (λ n. v < n) made-is lt) (open-then v o) e);
    parameters = λ v i. ap (λ s. is_parameter (Rattle.ty_solve.specs.Said.said s v)) z.solver ∙ parameter-now v (general-either v i);
    low = omega (arith, low);
  }
    where
      parameter-now : (v : ℕ) → (in_scope (general_in S) v ≡ true) ⊎ (in_scope qs.items v ≡ true) → is_parameter (said_in S v) ≡ true
      parameter-now v (inl i) = tidy.parameters v i
      parameter-now v (inr i) = ap is_parameter (has.marks v i) ∙ marks-declarable qs.items v has.declarable i

      settle : (v : ℕ) → Outside l (limit_in S v) (limit_in T v) ⊎ ((limit_in T v).level ≡ dead_level) → ((limit_in T v).level ≤ l) ⊎ ((limit_in T v).level ≡ dead_level)
      settle v (inl o) = inl (subst (λ k. k.level ≤ l) (sym o.still) o.outer)
      settle v (inr e) = inr e

      open-then : (v : ℕ) → is_open (said_in T v) ≡ true → is_open (said_in S v) ≡ true
      open-then v o = subst (λ s. is_open (Rattle.ty_solve.specs.Said.said s v) ≡ true) z.solver o

      end : (v : ℕ) → v < made S → is_open (said_in S v) ≡ true → (limit_in T v).level ≡ dead_level → in_scope (all_parameters (parameters_of S.tables ++ qs.items ∷ [])) v ≡ true
      end v lt o e = by (nat_lt l (limit_in S v).level) refl
        where
          at : ((limit_in S v).level ≡ suc l) ⊎ ((limit_in S v).level ≡ dead_level) → in_scope (all_parameters (parameters_of S.tables ++ qs.items ∷ [])) v ≡ true
          at (inl h) = last-general (parameters_of S.tables) qs.items v (has.all v (not-outer v h) lt o (inner-is v h))
          at (inr h) = earlier-general (parameters_of S.tables) qs.items v (tidy.ended v lt o h)

          by : (c : Bool) → nat_lt l (limit_in S v).level ≡ c → in_scope (all_parameters (parameters_of S.tables ++ qs.items ∷ [])) v ≡ true
          by true q = at (level-is v lt (ltb-true l (limit_in S v).level q))
          by false q =
              let a = ltb-false l (limit_in S v).level q in
              let s = ap (λ k. k.level) (z.limits v ∙ stays l first v (limit_in S v) (omega (arith, a))) in
              absurd (omega (arith, a, s, e, low))

-- at the number that the code answers

module _ (S T : State) (l first k list : ℕ) (qs : Vec Quantified Global) (z : Closed S T l first k qs) (is : Some k ≡ Some list) (low : l + 1 < dead_level) (outer : AreOuter S l first)
    (tidy : IsTidy S (l + 1)) where
  abbrev up : l + 1 ≡ suc l
  up = omega arith

  number-is : k ≡ list
  number-is = cc

  pub ends-with : Ends l (parameters_at (parameters_of T.tables) list) S T
  ends-with =
      subst (λ k. Ends l (parameters_at (parameters_of T.tables) k) S T) number-is
      (subst (λ ps. Ends l ps S T) (sym (list-is S T l first k qs z (omega (arith, low)) outer (subst (IsTidy S) up tidy)))
      (closed-ends S T l first k qs z (omega (arith, low)) outer (subst (IsTidy S) up tidy)))

  pub list-with : HasList T list
  list-with = subst (HasList T) number-is (list-held S T l first k qs z (omega (arith, low)) outer (subst (IsTidy S) up tidy))

  pub tidy-with : IsTidy T l
  tidy-with = closed-tidy S T l first k qs z (omega (arith, low)) outer (subst (IsTidy S) up tidy)
