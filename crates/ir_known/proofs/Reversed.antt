-- Entries each of which is once are found the same way from either end.
use Rattle.std.proofs.Common.{◌≡◌, ℕ, zero, suc, ◌-◌, ◌≤◌, ◌<◌, Bool, true, false, List, [], ◌∷◌, ◌++◌, length, reverse, take, drop, Option, Some, None, is_some, IsTrue, ◌↔◌, nat_eq, cond, slice_get, refl, sym, ap, ◌∙◌, subst, arith}
use Rattle.std.proofs.lemmas.Bool.{eqb-true, eq-eqb}
use Rattle.std.proofs.lemmas.List.{reverse-append, take-append-drop, length-reverse, length-drop}
use Rattle.std.proofs.Math.Seq.{take-append_seam, drop-append_seam}
use Rattle.std.specs.Option.{option_or}
use Rattle.std.specs.Map.{lookup, lookup_key}
use Rattle.indexmap.specs.IndexMap.{IndexMap, insert_entry}
use Rattle.indexmap.proofs.CallerLemmas.{insert_entry-new}
use Rattle.ir_known.specs.Once.{IsOnce}

module _ {V : Type 0} where
  lookup-append : (x : ℕ) (es fs : List (ℕ × V)) → lookup (nat_eq x) (es ++ fs) ≡ option_or (lookup (nat_eq x) es) (lookup (nat_eq x) fs)
  lookup-append x [] fs = refl
  lookup-append x (e ∷ es) fs = by (nat_eq x e.0) (lookup-append x es fs)
    where
      by : (b : Bool) → lookup (nat_eq x) (es ++ fs) ≡ option_or (lookup (nat_eq x) es) (lookup (nat_eq x) fs)
          → cond b (Some e.1) (lookup (nat_eq x) (es ++ fs)) ≡ option_or (cond b (Some e.1) (lookup (nat_eq x) es)) (lookup (nat_eq x) fs)
      by true rest = refl
      by false rest = rest

  or-none : (o : Option V) → option_or o None ≡ o
  or-none None = refl
  or-none (Some v) = refl

  pub lookup-reversed : (x : ℕ) (es : List (ℕ × V)) → IsOnce es → lookup (nat_eq x) (reverse es) ≡ lookup (nat_eq x) es
  lookup-reversed x [] o = refl
  lookup-reversed x (e ∷ es) (n, o) =
      ap (lookup (nat_eq x)) (reverse-append (e ∷ []) es) ∙ lookup-append x (reverse es) (e ∷ []) ∙ ap (λ r. option_or r (cond (nat_eq x e.0) (Some e.1) None)) (lookup-reversed x es o) ∙ by (nat_eq x e.0) refl
    where
      by : (b : Bool) → nat_eq x e.0 ≡ b → option_or (lookup (nat_eq x) es) (cond b (Some e.1) None) ≡ cond b (Some e.1) (lookup (nat_eq x) es)
      by true same = ap (λ r. option_or r (Some e.1)) (subst (λ k. lookup (nat_eq k) es ≡ None) (sym (eqb-true x e.0 same)) n)
      by false same = or-none (lookup (nat_eq x) es)

  pub once-more : (es : List (ℕ × V)) (x : ℕ) (v : V) → IsOnce es → lookup (nat_eq x) es ≡ None → IsOnce (es ++ (x, v) ∷ [])
  once-more [] x v o n = (refl, tt)
  once-more (e ∷ es) x v (m, o) n = (lookup-append e.0 es ((x, v) ∷ []) ∙ ap (λ r. option_or r (cond (nat_eq e.0 x) (Some v) None)) m ∙ apart (nat_eq e.0 x) refl, once-more es x v o (rest (nat_eq x e.0) n))
    where
      rest : (b : Bool) → cond b (Some e.1) (lookup (nat_eq x) es) ≡ None → lookup (nat_eq x) es ≡ None
      rest true k = absurd (cc)
      rest false k = k

      differ : (b : Bool) → cond b (Some e.1) (lookup (nat_eq x) es) ≡ None → b ≡ false
      differ true k = absurd (cc)
      differ false k = refl

      apart : (b : Bool) → nat_eq e.0 x ≡ b → cond b (Some v) None ≡ None
      apart false k = refl
      apart true k = absurd (let same : nat_eq x e.0 ≡ true = subst (λ z. nat_eq z e.0 ≡ true) (eqb-true e.0 x k) (eq-eqb e.0 e.0 refl) in let d : nat_eq x e.0 ≡ false = differ (nat_eq x e.0) n in cc)

  none-dropped : (x n : ℕ) (es : List (ℕ × V)) → lookup (nat_eq x) es ≡ None → lookup (nat_eq x) (drop n es) ≡ None
  none-dropped x zero es k = k
  none-dropped x (suc n) [] k = refl
  none-dropped x (suc n) (e ∷ es) k = none-dropped x n es (rest (nat_eq x e.0) k)
    where
      rest : (b : Bool) → cond b (Some e.1) (lookup (nat_eq x) es) ≡ None → lookup (nat_eq x) es ≡ None
      rest true k = absurd (cc)
      rest false k = k

  none-taken : (x n : ℕ) (es : List (ℕ × V)) → lookup (nat_eq x) es ≡ None → lookup (nat_eq x) (take n es) ≡ None
  none-taken x zero es k = refl
  none-taken x (suc n) [] k = refl
  none-taken x (suc n) (e ∷ es) k = by (nat_eq x e.0) k (none-taken x n es)
    where
      by : (b : Bool) → cond b (Some e.1) (lookup (nat_eq x) es) ≡ None → (lookup (nat_eq x) es ≡ None → lookup (nat_eq x) (take n es) ≡ None) → cond b (Some e.1) (lookup (nat_eq x) (take n es)) ≡ None
      by true k rest = absurd (cc)
      by false k rest = rest k

  pub once-dropped : (n : ℕ) (es : List (ℕ × V)) → IsOnce es → IsOnce (drop n es)
  once-dropped zero es o = o
  once-dropped (suc n) [] o = tt
  once-dropped (suc n) (e ∷ es) (k, o) = once-dropped n es o

  pub once-taken : (n : ℕ) (es : List (ℕ × V)) → IsOnce es → IsOnce (take n es)
  once-taken zero es o = tt
  once-taken (suc n) [] o = tt
  once-taken (suc n) (e ∷ es) (k, o) = (none-taken e.0 n es k, once-taken n es o)

  parts : (n : ℕ) (es : List (ℕ × V)) → reverse es ≡ reverse (drop n es) ++ reverse (take n es)
  parts n es = ap reverse (sym (take-append-drop n es)) ∙ reverse-append (take n es) (drop n es)

  lengths : (n : ℕ) (es : List (ℕ × V)) → length (reverse es) - n ≡ length (reverse (drop n es))
  lengths n es = ap (λ k. k - n) (length-reverse es) ∙ sym (length-drop n es) ∙ sym (length-reverse (drop n es))

  -- the first of a list are the last of its reverse
  pub reversed-dropped : (n : ℕ) (es : List (ℕ × V)) → reverse (drop n es) ≡ take (length (reverse es) - n) (reverse es)
  reversed-dropped n es = sym (ap (λ k. take k (reverse es)) (lengths n es) ∙ ap (take (length (reverse (drop n es)))) (parts n es) ∙ take-append_seam (reverse (drop n es)) (reverse (take n es)))

  pub reversed-taken : (n : ℕ) (es : List (ℕ × V)) → reverse (take n es) ≡ drop (length (reverse es) - n) (reverse es)
  reversed-taken n es = sym (ap (λ k. drop k (reverse es)) (lengths n es) ∙ ap (drop (length (reverse (drop n es)))) (parts n es) ∙ drop-append_seam (reverse (drop n es)) (reverse (take n es)))

  same-pair : {a b : ℕ × V} → Some a ≡ Some b → a ≡ b
  same-pair e = cc

  at-after : (es : List (ℕ × V)) → IsOnce es → (i k : ℕ) (v : V) → slice_get es i ≡ Some (k, v) → (s : ℕ) → s ≤ i → lookup (nat_eq k) (drop s es) ≡ Some v
  at-after [] o i k v p s le = absurd (cc)
  at-after ((k', v') ∷ es) (n, o) zero k v p zero le =
      let q : k' ≡ k = ap (λ e. e.0) (same-pair p) in let r : v' ≡ v = ap (λ e. e.1) (same-pair p) in ap (λ b. cond b (Some v') (lookup (nat_eq k) es)) (eq-eqb k k' (sym q)) ∙ ap Some r
  at-after ((k', v') ∷ es) (n, o) zero k v p (suc s) le = absurd (omega arith)
  at-after ((k', v') ∷ es) (n, o) (suc i) k v p zero le = by (nat_eq k k') refl (at-after es o i k v p zero (omega arith))
    where
      by : (b : Bool) → nat_eq k k' ≡ b → lookup (nat_eq k) es ≡ Some v → cond b (Some v') (lookup (nat_eq k) es) ≡ Some v
      by false same rest = rest
      by true same rest = absurd (let none : lookup (nat_eq k) es ≡ None = subst (λ j. lookup (nat_eq j) es ≡ None) (sym (eqb-true k k' same)) n in cc)
  at-after ((k', v') ∷ es) (n, o) (suc i) k v p (suc s) le = at-after es o i k v p s (omega arith)

  at-later : (es : List (ℕ × V)) → IsOnce es → (i k : ℕ) (v : V) → slice_get es i ≡ Some (k, v) → (s : ℕ) → i < s → lookup (nat_eq k) (drop s es) ≡ None
  at-later [] o i k v p s lt = absurd (cc)
  at-later ((k', v') ∷ es) (n, o) i k v p zero lt = absurd (omega arith)
  at-later ((k', v') ∷ es) (n, o) zero k v p (suc s) lt = let q : k' ≡ k = ap (λ e. e.0) (same-pair p) in none-dropped k s es (subst (λ j. lookup (nat_eq j) es ≡ None) q n)
  at-later ((k', v') ∷ es) (n, o) (suc i) k v p (suc s) lt = at-later es o i k v p s (omega arith)

  found-key : (x k : ℕ) (es : List (ℕ × V)) → lookup_key (nat_eq x) es ≡ Some k → nat_eq x k ≡ true
  found-key x k [] e = absurd (cc)
  found-key x k (f ∷ es) e = by (nat_eq x f.0) refl e (found-key x k es)
    where
      by : (b : Bool) → nat_eq x f.0 ≡ b → cond b (Some f.0) (lookup_key (nat_eq x) es) ≡ Some k → (lookup_key (nat_eq x) es ≡ Some k → nat_eq x k ≡ true) → nat_eq x k ≡ true
      by true t e rest = let same : f.0 ≡ k = cc in subst (λ j. nat_eq x j ≡ true) same t
      by false t e rest = rest e

  -- what is found after the first s, by its place
  pub found-after : (es : List (ℕ × V)) (x i k : ℕ) (v : V) (s : ℕ) → IsOnce es → slice_get es i ≡ Some (k, v) → lookup_key (nat_eq x) es ≡ Some k → s ≤ i
      → lookup (nat_eq x) (take (length (reverse es) - s) (reverse es)) ≡ Some v
  found-after es x i k v s o p t le =
      ap (lookup (nat_eq x)) (sym (reversed-dropped s es)) ∙ lookup-reversed x (drop s es) (once-dropped s es o)
      ∙ subst (λ j. lookup (nat_eq j) (drop s es) ≡ Some v) (sym (eqb-true x k (found-key x k es t))) (at-after es o i k v p s le)

  pub found-before : (es : List (ℕ × V)) (x i k : ℕ) (v : V) (s : ℕ) → IsOnce es → slice_get es i ≡ Some (k, v) → lookup_key (nat_eq x) es ≡ Some k → i < s
      → lookup (nat_eq x) (take (length (reverse es) - s) (reverse es)) ≡ None
  found-before es x i k v s o p t lt =
      ap (lookup (nat_eq x)) (sym (reversed-dropped s es)) ∙ lookup-reversed x (drop s es) (once-dropped s es o)
      ∙ subst (λ j. lookup (nat_eq j) (drop s es) ≡ None) (sym (eqb-true x k (found-key x k es t))) (at-later es o i k v p s lt)

  pub found-nowhere : (es : List (ℕ × V)) (x s : ℕ) → IsOnce es → lookup (nat_eq x) es ≡ None → lookup (nat_eq x) (take (length (reverse es) - s) (reverse es)) ≡ None
  found-nowhere es x s o n = ap (lookup (nat_eq x)) (sym (reversed-dropped s es)) ∙ lookup-reversed x (drop s es) (once-dropped s es o) ∙ none-dropped x s es n

  pub pushed-front : (es : List (ℕ × V)) (e : ℕ × V) → reverse (es ++ e ∷ []) ≡ e ∷ reverse es
  pushed-front es e = reverse-append es (e ∷ [])

  some-none : (o : Option V) → is_some o ≡ false → o ≡ None
  some-none None e = refl
  some-none (Some v) e = absurd (cc)

  pub known-already : (es s : List (ℕ × V)) (x : ℕ) → IsOnce es → reverse es ≡ s → is_some (lookup (nat_eq x) es) ≡ true → IsTrue false ↔ (lookup (nat_eq x) s ≡ None)
  known-already es s x o v t = subst (λ s. IsTrue false ↔ (lookup (nat_eq x) s ≡ None)) v
      ((λ f. absurd (cc)), (λ n. absurd (let e : is_some (lookup (nat_eq x) es) ≡ false = ap is_some (sym (lookup-reversed x es o) ∙ n) in cc)))

  pub new-there : (es s : List (ℕ × V)) (x : ℕ) → IsOnce es → reverse es ≡ s → is_some (lookup (nat_eq x) es) ≡ false → IsTrue true ↔ (lookup (nat_eq x) s ≡ None)
  new-there es s x o v t = subst (λ s. IsTrue true ↔ (lookup (nat_eq x) s ≡ None)) v ((λ _. lookup-reversed x es o ∙ some-none (lookup (nat_eq x) es) t), (λ _. refl))

  pub once-pushed : (es new : List (ℕ × V)) (x : ℕ) (v : V) → IsOnce es → is_some (lookup (nat_eq x) es) ≡ false → new ≡ es ++ (x, v) ∷ [] → IsOnce new
  once-pushed es new x v o t e = subst IsOnce (sym e) (once-more es x v o (some-none (lookup (nat_eq x) es) t))

  pub front : (es new s : List (ℕ × V)) (x : ℕ) (v : V) → reverse es ≡ s → new ≡ es ++ (x, v) ∷ [] → reverse new ≡ (x, v) ∷ s
  front es new s x v w e = ap reverse e ∙ pushed-front es (x, v) ∙ ap (λ s. (x, v) ∷ s) w

module _ {V S : Type 0} (m : IndexMap ℕ V S) (x : ℕ) (v : V) where
  pub inserted : is_some (lookup (nat_eq x) m.entries) ≡ false → insert_entry nat_eq m.entries x v ≡ m.entries ++ (x, v) ∷ []
  inserted t = insert_entry-new nat_eq m x v (some-none (lookup (nat_eq x) m.entries) t)
