-- Lists of atoms, each of one type.
use Rattle.std.proofs.Common.{◌≡◌, ◌↔◌, ℕ, zero, suc, ◌+◌, ◌<◌, List, [], ◌∷◌, ◌++◌, map, take, length, slice_index_or, refl, sym, ap, ◌∙◌, subst, arith}
use Rattle.mlc_names.specs.declared.label.Label.{Label}
use Rattle.ty_core.specs.Types.{Typ}
use Rattle.ty_table.specs.TypeAt.{type_at}
use Rattle.ir_poly.specs.Tests.{inst}
use Rattle.ir_tables.specs.declared.tables.Tables.{Tables}
use Rattle.plain_tree.specs.declared.tree.Field.{Field}
use Rattle.plain_tree.specs.TreeOf.{atoms_of, row_of}
use Rattle.tests_check.specs.Fits.{AtomFits, AtomsFit, RowFits}
use Rattle.tests_check.specs.Reads.{reading}
use Rattle.tests_check.specs.Walk.{Names, local}
use Rattle.tests_check.proofs.Lists.{any-default, all-taken}

module _ (t : Tables) (s : Names) where
  -- an atom is of the type of this number alone, or of none
  abbrev pub IsOf : ℕ → ℕ → Type 0
  IsOf a k = (u : Typ) → AtomFits (local t s) (inst a []) u ↔ (u ≡ type_at t.types k)

  abbrev pub IsNot : ℕ → Type 0
  IsNot a = (u : Typ) → AtomFits (local t s) (inst a []) u → ⊥

  abbrev pub AreOf : List ℕ → List ℕ → Type 0
  AreOf [] [] = Unit {0}
  AreOf [] (k ∷ ks) = ⊥
  AreOf (a ∷ as_) [] = ⊥
  AreOf (a ∷ as_) (k ∷ ks) = IsOf a k × AreOf as_ ks

  more-of : (as_ ks : List ℕ) (i a k : ℕ) → i < length as_ → a ≡ slice_index_or as_ i a → AreOf (take i as_) ks → IsOf a k → AreOf (take (suc i) as_) (ks ++ k ∷ [])
  more-of [] ks i a k lt e p q = absurd (omega arith)
  more-of (b ∷ as_) [] zero a k lt e p q = (subst (λ a. IsOf a k) e q, tt)
  more-of (b ∷ as_) (j ∷ ks) zero a k lt e p q = elim p [ ]
  more-of (b ∷ as_) [] (suc i) a k lt e p q = elim p [ ]
  more-of (b ∷ as_) (j ∷ ks) (suc i) a k lt e (p, ps) q = (p, more-of as_ ks i a k (omega arith) e ps q)

  pub atoms-more : (as_ ks ks' : List ℕ) (i a k : ℕ) → i < length as_ → a ≡ slice_index_or as_ i a → AreOf (take i as_) ks → IsOf a k → ks' ≡ ks ++ k ∷ [] → AreOf (take (i + 1) as_) ks'
  atoms-more as_ ks ks' i a k lt e p q n =
      let more : suc i ≡ i + 1 = omega arith in subst (λ i. AreOf (take i as_) ks') more (subst (AreOf (take (suc i) as_)) (sym n) (more-of as_ ks i a k lt e p q))

  pub atoms-are : (as_ ks : List ℕ) → AreOf as_ ks → (ts : List Typ) → AtomsFit (local t s) (atoms_of (reading t) as_) ts ↔ (ts ≡ map (type_at t.types) ks)
  atoms-are [] [] p ts = ((λ e. e), (λ e. e))
  atoms-are [] (k ∷ ks) p ts = elim p [ ]
  atoms-are (a ∷ as_) [] p ts = elim p [ ]
  atoms-are (a ∷ as_) (k ∷ ks) p [] = ((λ e. absurd e), (λ e. absurd (cc)))
  atoms-are (a ∷ as_) (k ∷ ks) (p, ps) (u ∷ ts) = (
    (λ q. let e : u ≡ type_at t.types k = (p u).0 q.0 in let es : ts ≡ map (type_at t.types) ks = (atoms-are as_ ks ps ts).0 q.1 in cc),
    (λ e. ((p u).1 (first e), (atoms-are as_ ks ps ts).1 (rest e))),
  )
    where
      first : u ∷ ts ≡ type_at t.types k ∷ map (type_at t.types) ks → u ≡ type_at t.types k
      first e = cc

      rest : u ∷ ts ≡ type_at t.types k ∷ map (type_at t.types) ks → ts ≡ map (type_at t.types) ks
      rest e = cc

  pub atoms-are-not : (as_ : List ℕ) (i a : ℕ) → i < length as_ → a ≡ slice_index_or as_ i a → IsNot a → (ts : List Typ) → AtomsFit (local t s) (atoms_of (reading t) as_) ts → ⊥
  atoms-are-not [] i a lt e n ts p = absurd (omega arith)
  atoms-are-not (b ∷ as_) i a lt e n [] p = p
  atoms-are-not (b ∷ as_) zero a lt e n (u ∷ ts) p = n u (subst (λ a. AtomFits (local t s) (inst a []) u) (sym e) p.0)
  atoms-are-not (b ∷ as_) (suc i) a lt e n (u ∷ ts) p = atoms-are-not as_ i a (omega arith) e n ts p.1

  -- fields, with their labels
  abbrev pub FieldsOf : List Field → List (Label × ℕ) → Type 0
  FieldsOf [] [] = Unit {0}
  FieldsOf [] (k ∷ ks) = ⊥
  FieldsOf (f ∷ fs) [] = ⊥
  FieldsOf (f ∷ fs) (k ∷ ks) = (k.0 ≡ f.label) × IsOf f.atom k.1 × FieldsOf fs ks

  more-fields : (fs : List Field) (ks : List (Label × ℕ)) (i : ℕ) (f : Field) (k : ℕ) → i < length fs → f ≡ slice_index_or fs i f → FieldsOf (take i fs) ks → IsOf f.atom k → FieldsOf (take (suc i) fs) (ks ++ (f.label, k) ∷ [])
  more-fields [] ks i f k lt e p q = absurd (omega arith)
  more-fields (g ∷ fs) [] zero f k lt e p q = (ap (λ f. f.label) e, subst (λ f. IsOf f.atom k) e q, tt)
  more-fields (g ∷ fs) (j ∷ ks) zero f k lt e p q = elim p [ ]
  more-fields (g ∷ fs) [] (suc i) f k lt e p q = elim p [ ]
  more-fields (g ∷ fs) (j ∷ ks) (suc i) f k lt e (l, p, ps) q = (l, p, more-fields fs ks i f k (omega arith) e ps q)

  pub fields-more : (fs : List Field) (ks ks' : List (Label × ℕ)) (i : ℕ) (f : Field) (k : ℕ) → i < length fs → f ≡ slice_index_or fs i f → FieldsOf (take i fs) ks → IsOf f.atom k → ks' ≡ ks ++ (f.label, k) ∷ []
      → FieldsOf (take (i + 1) fs) ks'
  fields-more fs ks ks' i f k lt e p q n =
      let more : suc i ≡ i + 1 = omega arith in subst (λ i. FieldsOf (take i fs) ks') more (subst (FieldsOf (take (suc i) fs)) (sym n) (more-fields fs ks i f k lt e p q))

  abbrev pub typed : List (Label × ℕ) → List (Label × Typ)
  typed = map (λ f. (f.0, type_at t.types f.1))

  pub fields-are : (fs : List Field) (ks : List (Label × ℕ)) → FieldsOf fs ks → (r : List (Label × Typ)) → RowFits (local t s) (row_of (reading t) fs) r ↔ (r ≡ typed ks)
  fields-are [] [] p r = ((λ e. e), (λ e. e))
  fields-are [] (k ∷ ks) p r = elim p [ ]
  fields-are (f ∷ fs) [] p r = elim p [ ]
  fields-are (f ∷ fs) (k ∷ ks) p [] = ((λ e. absurd e), (λ e. absurd (cc)))
  fields-are (f ∷ fs) (k ∷ ks) (l, p, ps) (g ∷ r) = (
    (λ q. let a : g.0 ≡ k.0 = q.0 ∙ sym l in let e : g.1 ≡ type_at t.types k.1 = (p g.1).0 q.1 in let es : r ≡ typed ks = (fields-are fs ks ps r).0 q.2 in whole a e es),
    (λ e. (ap (λ (h : Label × Typ). h.0) (first e) ∙ l, (p g.1).1 (ap (λ (h : Label × Typ). h.1) (first e)), (fields-are fs ks ps r).1 (rest e))),
  )
    where
      whole : g.0 ≡ k.0 → g.1 ≡ type_at t.types k.1 → r ≡ typed ks → g ∷ r ≡ (k.0, type_at t.types k.1) ∷ typed ks
      whole a e es = ap (λ n. (n, g.1) ∷ r) a ∙ ap (λ u. (k.0, u) ∷ r) e ∙ ap (λ l. (k.0, type_at t.types k.1) ∷ l) es

      first : g ∷ r ≡ (k.0, type_at t.types k.1) ∷ typed ks → g ≡ (k.0, type_at t.types k.1)
      first e = cc

      rest : g ∷ r ≡ (k.0, type_at t.types k.1) ∷ typed ks → r ≡ typed ks
      rest e = cc

  pub fields-are-not : (fs : List Field) (i : ℕ) (f : Field) → i < length fs → f ≡ slice_index_or fs i f → IsNot f.atom → (r : List (Label × Typ)) → RowFits (local t s) (row_of (reading t) fs) r → ⊥
  fields-are-not [] i f lt e n r p = absurd (omega arith)
  fields-are-not (g ∷ fs) i f lt e n [] p = p
  fields-are-not (g ∷ fs) zero f lt e n (h ∷ r) p = n h.1 (subst (λ f. AtomFits (local t s) (inst f.atom []) h.1) (sym e) p.1)
  fields-are-not (g ∷ fs) (suc i) f lt e n (h ∷ r) p = fields-are-not fs i f (omega arith) e n r p.2

  -- along the loops

  pub atoms-first : (as_ ks : List ℕ) → ks ≡ [] → AreOf (take 0 as_) ks
  atoms-first [] ks e = subst (AreOf []) (sym e) tt
  atoms-first (a ∷ as_) ks e = subst (AreOf []) (sym e) tt

  pub atoms-next : (as_ ks ks' : List ℕ) (i d k : ℕ) → i < length as_ → AreOf (take i as_) ks → IsOf (slice_index_or as_ i d) k → ks' ≡ ks ++ k ∷ [] → AreOf (take (i + 1) as_) ks'
  atoms-next as_ ks ks' i d k lt p q n = atoms-more as_ ks ks' i (slice_index_or as_ i d) k lt (any-default as_ i d (slice_index_or as_ i d) lt) p q n

  pub atoms-stop : (as_ : List ℕ) (i d : ℕ) → i < length as_ → IsNot (slice_index_or as_ i d) → (ts : List Typ) → AtomsFit (local t s) (atoms_of (reading t) as_) ts → ⊥
  atoms-stop as_ i d lt n = atoms-are-not as_ i (slice_index_or as_ i d) lt (any-default as_ i d (slice_index_or as_ i d) lt) n

  pub atoms-end : (as_ ks : List ℕ) (i : ℕ) → i ≡ length as_ → AreOf (take i as_) ks → (ts : List Typ) → AtomsFit (local t s) (atoms_of (reading t) as_) ts ↔ (ts ≡ map (type_at t.types) ks)
  atoms-end as_ ks i e p = atoms-are as_ ks (subst (λ l. AreOf l ks) (all-taken as_ i e) p)

  pub fields-first : (fs : List Field) (ks : List (Label × ℕ)) → ks ≡ [] → FieldsOf (take 0 fs) ks
  fields-first [] ks e = subst (FieldsOf []) (sym e) tt
  fields-first (f ∷ fs) ks e = subst (FieldsOf []) (sym e) tt

  pub fields-end : (fs : List Field) (ks : List (Label × ℕ)) (i : ℕ) → i ≡ length fs → FieldsOf (take i fs) ks → (r : List (Label × Typ)) → RowFits (local t s) (row_of (reading t) fs) r ↔ (r ≡ typed ks)
  fields-end fs ks i e p = fields-are fs ks (subst (λ l. FieldsOf l ks) (all-taken fs i e) p)
