-- What is in scope, by number and as the typing has it.
use Rattle.std.proofs.Common.{◌≡◌, ◌↔◌, ℕ, zero, suc, ◌+◌, ◌-◌, ◌<◌, Bool, true, false, List, [], ◌∷◌, ◌++◌, map, drop, length, Option, Some, None, nat_eq, cond, IsTrue, refl, sym, ap, ◌∙◌, subst, arith}
use Rattle.std.specs.Option.{option_map}
use Rattle.std.specs.Map.{lookup}
use Rattle.ty_core.specs.Types.{Typ}
use Rattle.ty_core.specs.declared.mark.Mark.{Mark}
use Rattle.ty_core.specs.declared.scheme.Quantified.{Quantified}
use Rattle.ty_table.specs.TypeAt.{type_at}
use Rattle.ir_poly.specs.TestsChecked.{Knowns, at, of_type}
use Rattle.ir_poly.specs.TestsChecked as typing
use Rattle.ir_tables.specs.declared.tables.Tables.{Tables}
use Rattle.ir_tables.specs.Tables.{parameters_of}
use Rattle.ir_known.specs.declared.known.Known.{Known}
use Rattle.ir_known.specs.declared.known.Known.TheVariants.{OfType, General, Own, Exception}
use Rattle.tests_check.specs.Walk.{Names, local, all}
use Rattle.ir_known.specs.Knows.{known_of, knowns_of, marks_of}

pub at-known : (ts : List Typ) (ps : List (List Quantified)) (rows : List (ℕ × Known)) (x : ℕ) → at (knowns_of ts ps rows) x ≡ option_map (known_of ts ps) (lookup (nat_eq x) rows)
at-known ts ps [] x = refl
at-known ts ps (r ∷ rows) x = by (nat_eq x r.0) (at-known ts ps rows x)
  where
    by : (b : Bool) → at (knowns_of ts ps rows) x ≡ option_map (known_of ts ps) (lookup (nat_eq x) rows)
        → cond b (Some (known_of ts ps r.1)) (at (knowns_of ts ps rows) x) ≡ option_map (known_of ts ps) (cond b (Some r.1) (lookup (nat_eq x) rows))
    by true h = refl
    by false h = h

-- what is not found is not known
pub none-known : (ts : List Typ) (ps : List (List Quantified)) (rows : List (ℕ × Known)) (x : ℕ) (b : Bool) → IsTrue b ↔ (lookup (nat_eq x) rows ≡ None) → IsTrue b ↔ (at (knowns_of ts ps rows) x ≡ None)
none-known ts ps rows x b w = (
  (λ y. at-known ts ps rows x ∙ ap (option_map (known_of ts ps)) (w.0 y)),
  (λ e. w.1 (nothing (lookup (nat_eq x) rows) (sym (at-known ts ps rows x) ∙ e))),
)
  where
    nothing : (o : Option Known) → option_map (known_of ts ps) o ≡ None → o ≡ None
    nothing None e = refl
    nothing (Some k) e = absurd (cc)

-- parameters that came in are taken out again
marks-length : (rows : List (ℕ × Mark)) → length (marks_of rows) ≡ length rows
marks-length [] = refl
marks-length (r ∷ rows) = ap suc (marks-length rows)

marks-dropped : (n : ℕ) (rows : List (ℕ × Mark)) → marks_of (drop n rows) ≡ drop n (marks_of rows)
marks-dropped zero rows = refl
marks-dropped (suc n) [] = refl
marks-dropped (suc n) (r ∷ rows) = marks-dropped n rows

behind : (qs D : List Quantified) → drop (length (qs ++ D) - length D) (qs ++ D) ≡ D
behind [] D = let none : length D - length D ≡ 0 = omega arith in ap (λ n. drop n D) none
behind (q ∷ qs) D = ap (λ n. drop n (q ∷ (qs ++ D))) (one (length (qs ++ D)) (length D) (longer qs)) ∙ behind qs D
  where
    longer : (qs : List Quantified) → (n : ℕ) × (length (qs ++ D) ≡ n + length D)
    longer [] = (0, omega arith)
    longer (q ∷ qs) = let l : (n : ℕ) × (length (qs ++ D) ≡ n + length D) = longer qs in let e : length (qs ++ D) ≡ l.0 + length D = l.1 in (suc l.0, omega arith)

    one : (a b : ℕ) → ((n : ℕ) × (a ≡ n + b)) → suc a - b ≡ suc (a - b)
    one a b (n, e) = omega arith

pub left-out : (rows rows' : List (ℕ × Mark)) (len : ℕ) (qs D : List Quantified) → rows' ≡ drop (length rows - len) rows → marks_of rows ≡ qs ++ D → len ≡ length D → marks_of rows' ≡ D
left-out rows rows' len qs D e m l =
    ap marks_of e ∙ marks-dropped (length rows - len) rows ∙ ap (λ k. drop (k - len) (marks_of rows)) (sym (marks-length rows)) ∙ ap (λ n. drop (length (marks_of rows) - n) (marks_of rows)) l
    ∙ ap (λ r. drop (length r - length D) r) m ∙ behind qs D

pub marks-many : (rows : List (ℕ × Mark)) (D : List Quantified) (n : ℕ) → n ≡ length rows → marks_of rows ≡ D → n ≡ length D
marks-many rows D n e m = e ∙ sym (marks-length rows) ∙ ap length m

pub not-yes : {b : Bool} → b ≡ false → b ≡ true → ⊥
not-yes e f = cc

-- atoms

module _ (t : Tables) (s : Names) (x : ℕ) where
  local-known : (o : Option Known) → o ≡ lookup (nat_eq x) s.0 → at (local t s) x ≡ option_map (known_of t.types (parameters_of t)) o
  local-known o e = at-known t.types (parameters_of t) s.0 x ∙ ap (option_map (known_of t.types (parameters_of t))) (sym e)

  pub atom-one : (o : Option Known) (k : Known) (ty : ℕ) → o ≡ lookup (nat_eq x) s.0 → o ≡ Some k → k ≡ OfType ty → (u : Typ)
      → ((◌≡◌ {A = List Typ} [] [] × at (local t s) x ≡ Some (of_type u)) → u ≡ type_at t.types ty) × (u ≡ type_at t.types ty → ◌≡◌ {A = List Typ} [] [] × at (local t s) x ≡ Some (of_type u))
  atom-one o k ty e f g u = (
    (λ p. let same : Some (of_type (type_at t.types ty)) ≡ Some (of_type u) = sym known ∙ p.1 in cc),
    (λ i. (refl, known ∙ ap (λ T. Some (of_type T)) (sym i))),
  )
    where
      known : at (local t s) x ≡ Some (of_type (type_at t.types ty))
      known = local-known o e ∙ ap (option_map (known_of t.types (parameters_of t))) (f ∙ ap Some g)

  pub atom-other : (o : Option Known) (k : Known) → o ≡ lookup (nat_eq x) s.0 → o ≡ Some k → ((u : Typ) → known_of t.types (parameters_of t) k ≡ of_type u → ⊥) → (u : Typ)
      → ◌≡◌ {A = List Typ} [] [] × at (local t s) x ≡ Some (of_type u) → ⊥
  atom-other o k e f n u p =
      let same : Some (known_of t.types (parameters_of t) k) ≡ Some (of_type u) = sym (local-known o e ∙ ap (option_map (known_of t.types (parameters_of t))) f) ∙ p.1 in n u (cc)

  pub atom-none : (o : Option Known) → o ≡ lookup (nat_eq x) s.0 → o ≡ None → (u : Typ) → ◌≡◌ {A = List Typ} [] [] × at (local t s) x ≡ Some (of_type u) → ⊥
  atom-none o e f u p = let same : None ≡ Some (of_type u) = sym (local-known o e ∙ ap (option_map (known_of t.types (parameters_of t))) f) ∙ p.1 in cc

  pub not-general : (k : Known) (ps ty : ℕ) → k ≡ General ps ty → (u : Typ) → known_of t.types (parameters_of t) k ≡ of_type u → ⊥
  not-general k ps ty e u f = let same : known_of t.types (parameters_of t) (General ps ty) ≡ of_type u = ap (known_of t.types (parameters_of t)) (sym e) ∙ f in cc

  pub not-own : (k : Known) (ty : ℕ) → k ≡ Own ty → (u : Typ) → known_of t.types (parameters_of t) k ≡ of_type u → ⊥
  not-own k ty e u f = let same : known_of t.types (parameters_of t) (Own ty) ≡ of_type u = ap (known_of t.types (parameters_of t)) (sym e) ∙ f in cc

  pub not-exception : (k : Known) (a : Option ℕ) → k ≡ Exception a → (u : Typ) → known_of t.types (parameters_of t) k ≡ of_type u → ⊥
  not-exception k a e u f = let same : known_of t.types (parameters_of t) (Exception a) ≡ of_type u = ap (known_of t.types (parameters_of t)) (sym e) ∙ f in cc

pub before : (n : ℕ) → 0 < n → n ≡ suc (n - 1)
before n lt = omega arith
