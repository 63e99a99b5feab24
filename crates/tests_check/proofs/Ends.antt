-- The type of an expression where no miss goes on.
use Rattle.std.proofs.Common.{◌≡◌, ◌↔◌, ℕ, Bool, true, false, List, [], ◌∷◌, map, Option, Some, None, MatchOption, refl, sym, ap, ◌∙◌, subst}
use Rattle.ty_core.specs.Types.{Typ}
use Rattle.ty_core.specs.declared.scheme.Quantified.{Quantified}
use Rattle.ty_table.specs.TypeAt.{type_at}
use Rattle.ir_plain.specs.Tree as clean
use Rattle.ir_poly.specs.Tests.{poly, inst}
use Rattle.ir_tables.specs.declared.tables.Tables.{Tables}
use Rattle.plain_tree.specs.declared.tree.Exp.{Exp}
use Rattle.plain_tree.specs.declared.tree.Step.{Step}
use Rattle.plain_tree.specs.TreeOf.{onto, firsts, tree_of, step_of}
use Rattle.tests_check.specs.Fits.{ExpFits, AtomFits}
use Rattle.tests_check.specs.Reads.{reading}
use Rattle.tests_check.specs.Walk.{Names, all, local, table_of, Each, IsExp, Brings, Refuses, HasType, HasNone}
use Rattle.tests_check.proofs.Exps.{firsts-fit}

module _ (t : Tables) where
  abbrev At : List Quantified → Names → clean.Exp poly → Typ → Type 0
  At D s c u = ExpFits (table_of t) false D (all t s) (local t s) c u

  no-misses : (u : Typ) (v : ℕ) → false ≡ true → u ≡ type_at t.types v
  no-misses u v e = absurd (cc)

  pub steps-type : (D D' : List Quantified) (s s' : Names) (e rest : Exp) (ss : List Step) (v k : ℕ) → tree_of (reading t) e ≡ onto (map (step_of (reading t)) ss) (tree_of (reading t) rest) → D' ≡ D
      → Brings t false D v s s' (onto (map (step_of (reading t)) ss)) → HasType t D' s' rest k → HasType t D s e k
  steps-type D D' s s' e rest ss v k i d b h = record {
    fits = subst (λ c. At D s c (type_at t.types k)) (sym i)
        (b.whole (tree_of (reading t) rest) (type_at t.types k) (no-misses (type_at t.types k) v) (subst (λ D. At D s' (tree_of (reading t) rest) (type_at t.types k)) d h.fits));
    only = λ u p. h.only u (subst (λ D. At D s' (tree_of (reading t) rest) u) (sym d) (b.back (tree_of (reading t) rest) u (no-misses u v) (subst (λ c. At D s c u) i p)));
  }

  pub steps-none : (D D' : List Quantified) (s s' : Names) (e rest : Exp) (ss : List Step) (v : ℕ) → tree_of (reading t) e ≡ onto (map (step_of (reading t)) ss) (tree_of (reading t) rest) → D' ≡ D
      → Brings t false D v s s' (onto (map (step_of (reading t)) ss)) → HasNone t D' s' rest → HasNone t D s e
  steps-none D D' s s' e rest ss v i d b h = record {
    never = λ u p. h.never u (subst (λ D. At D s' (tree_of (reading t) rest) u) (sym d) (b.back (tree_of (reading t) rest) u (no-misses u v) (subst (λ c. At D s c u) i p)));
  }

  pub steps-refused-type : (D : List Quantified) (s : Names) (e rest : Exp) (ss : List Step) (v : ℕ) → tree_of (reading t) e ≡ onto (map (step_of (reading t)) ss) (tree_of (reading t) rest)
      → Refuses t false D v s (onto (map (step_of (reading t)) ss)) → HasNone t D s e
  steps-refused-type D s e rest ss v i r = record { never = λ u p. r.never (tree_of (reading t) rest) u (no-misses u v) (subst (λ c. At D s c u) i p) }

  pub ret-type : (D : List Quantified) (s : Names) (e : Exp) (a k : ℕ) → tree_of (reading t) e ≡ clean.ret (inst a []) → ((u : Typ) → AtomFits (local t s) (inst a []) u ↔ (u ≡ type_at t.types k)) → HasType t D s e k
  ret-type D s e a k i h = record {
    fits = subst (λ c. At D s c (type_at t.types k)) (sym i) ((h (type_at t.types k)).1 refl);
    only = λ u p. (h u).0 (subst (λ c. At D s c u) i p);
  }

  pub ret-none : (D : List Quantified) (s : Names) (e : Exp) (a : ℕ) → tree_of (reading t) e ≡ clean.ret (inst a []) → ((u : Typ) → AtomFits (local t s) (inst a []) u → ⊥) → HasNone t D s e
  ret-none D s e a i n = record { never = λ u p. n u (subst (λ c. At D s c u) i p) }

  pub miss-none : (D : List Quantified) (s : Names) (e : Exp) → tree_of (reading t) e ≡ clean.miss → HasNone t D s e
  miss-none D s e i = record { never = λ u p. (let q : false ≡ true = subst (λ c. At D s c u) i p in cc) }

  pub switch-none : (D : List Quantified) (s : Names) (e : Exp) (a : _) (u : Typ) (arms : clean.Arms poly) → tree_of (reading t) e ≡ clean.switch a u arms → HasNone t D s e
  switch-none D s e a v arms i = record { never = λ u p. (let q : false ≡ true = (subst (λ c. At D s c u) i p).0 in cc) }

  fit-last : (D : List Quantified) (s : Names) (es : List Exp) (d : clean.Exp poly) (u : Typ) → At D s (firsts (map (tree_of (reading t)) es) d) u → At D s d u
  fit-last D s [] d u p = p
  fit-last D s (e ∷ es) d u p = fit-last D s es d u p.1

  fit-each : (D : List Quantified) (s : Names) (es : List Exp) (d : clean.Exp poly) (k : ℕ) → At D s (firsts (map (tree_of (reading t)) es) d) (type_at t.types k) → Each (λ e. IsExp t true D s e k) es
  fit-each D s [] d k p = tt
  fit-each D s (e ∷ es) d k p = (record { fits = p.0 }, fit-each D s es d k p.1)

  -- s' and D' are what is left after the last one
  moved-each : (D D' : List Quantified) (s s' : Names) (es : List Exp) (k : ℕ) → D' ≡ D → s' ≡ s → Each (λ e. IsExp t true D' s' e k) es → Each (λ e. IsExp t true D s e k) es
  moved-each D D' s s' es k d i p = subst (λ D. Each (λ e. IsExp t true D s e k) es) d (subst (λ s. Each (λ e. IsExp t true D' s e k) es) i p)

  pub first-type : (D D' : List Quantified) (s s' : Names) (e d : Exp) (es : List Exp) (k : ℕ) → tree_of (reading t) e ≡ firsts (map (tree_of (reading t)) es) (tree_of (reading t) d) → D' ≡ D → s' ≡ s → HasType t D s d k
      → Each (λ e. IsExp t true D' s' e k) es → HasType t D s e k
  first-type D D' s s' e d es k i j l h ps = record {
    fits = subst (λ c. At D s c (type_at t.types k)) (sym i) (firsts-fit t false D s k es (tree_of (reading t) d) (moved-each D D' s s' es k j l ps) h.fits);
    only = λ u p. h.only u (fit-last D s es (tree_of (reading t) d) u (subst (λ c. At D s c u) i p));
  }

  pub first-none : (D D' : List Quantified) (s s' : Names) (e d : Exp) (es : List Exp) (k : ℕ) → tree_of (reading t) e ≡ firsts (map (tree_of (reading t)) es) (tree_of (reading t) d) → D' ≡ D → s' ≡ s → HasType t D s d k
      → (Each (λ e. IsExp t true D' s' e k) es → ⊥) → HasNone t D s e
  first-none D D' s s' e d es k i j l h n = record {
    never = λ u p. (let q : At D s (firsts (map (tree_of (reading t)) es) (tree_of (reading t) d)) u = subst (λ c. At D s c u) i p in
        n (moved-each D' D s' s es k (sym j) (sym l)
        (fit-each D s es (tree_of (reading t) d) k (subst (At D s (firsts (map (tree_of (reading t)) es) (tree_of (reading t) d))) (h.only u (fit-last D s es (tree_of (reading t) d) u q)) q))));
  }

  pub last-none : (D : List Quantified) (s : Names) (e d : Exp) (es : List Exp) → tree_of (reading t) e ≡ firsts (map (tree_of (reading t)) es) (tree_of (reading t) d) → HasNone t D s d → HasNone t D s e
  last-none D s e d es i h = record { never = λ u p. h.never u (fit-last D s es (tree_of (reading t) d) u (subst (λ c. At D s c u) i p)) }

  some-is : {a b : ℕ} → Some a ≡ Some b → a ≡ b
  some-is e = cc

  pub ret-typed : (D : List Quantified) (s : Names) (e : Exp) (a : ℕ) (o : Option ℕ) → tree_of (reading t) e ≡ clean.ret (inst a [])
      → MatchOption o ((u : Typ) → AtomFits (local t s) (inst a []) u → ⊥) (λ k. (u : Typ) → AtomFits (local t s) (inst a []) u ↔ (u ≡ type_at t.types k)) → (k : ℕ) → o ≡ Some k → HasType t D s e k
  ret-typed D s e a None i m k q = absurd (cc)
  ret-typed D s e a (Some j) i m k q = subst (HasType t D s e) (some-is q) (ret-type D s e a j i m)

  pub ret-untyped : (D : List Quantified) (s : Names) (e : Exp) (a : ℕ) (o : Option ℕ) → tree_of (reading t) e ≡ clean.ret (inst a [])
      → MatchOption o ((u : Typ) → AtomFits (local t s) (inst a []) u → ⊥) (λ k. (u : Typ) → AtomFits (local t s) (inst a []) u ↔ (u ≡ type_at t.types k)) → o ≡ None → HasNone t D s e
  ret-untyped D s e a None i m q = ret-none D s e a i m
  ret-untyped D s e a (Some j) i m q = absurd (cc)

  pub type-is : (D : List Quantified) (s : Names) (e : Exp) (j k : ℕ) → Some j ≡ Some k → HasType t D s e j → HasType t D s e k
  type-is D s e j k q h = subst (HasType t D s e) (some-is q) h
