-- Types made one after the other in a table.
use Rattle.std.proofs.Common.{◌≡◌, ◌<◌, ◌≤◌, ◌+◌, ℕ, zero, suc, List, [], ◌∷◌, ◌++◌, map, length, take, get_or, Option, Some, Result, IfOk, refl, sym, ap, ap₂, subst, ◌∙◌, arith}
use Rattle.std.specs.Prelude.{slice_get}
use Rattle.std.proofs.lemmas.Option.{slice_get_within, get_or_from_slice_get}
use Rattle.ty_core.specs.Types.{Typ, var}
use Rattle.ty_core.specs.declared.mark.Mark.{Mark}
use Rattle.ty_basis.specs.Primitives.{tuple_type}
use Rattle.ty_table.specs.TypeAt.{type_at, AllBelow}
use Rattle.ty_solve.proofs.Holding.{type-stays}
use Rattle.ty_instance.proofs.Going.{stays-on, longer, whole}
use Rattle.core_rules.specs.Objects.{Scheme as Schema}
use Rattle.initial_types.specs.Schemes.{marks_of, scheme_of, schemes_of, row_mark, row_body, row_scheme, row_schemes}
use Rattle.initial_types.specs.declared.row.Scheme.{Scheme}
use Rattle.initial_types.specs.declared.row.Row.{Row}

-- a type that was made, in a table that has grown since
module _ (ts us : List Typ) (k : ℕ) (t : Typ) (made : slice_get ts k ≡ Some t) (grown : take (length ts) us ≡ ts) where
  pub held-since : k < length us
  held-since = let a = slice_get_within ts k t made in let b = longer ts us grown in omega arith

  pub is-since : type_at us k ≡ t
  is-since = type-stays ts us k grown (slice_get_within ts k t made) ∙ get_or_from_slice_get ts k t (var 0) made

pub is-at : (ts : List Typ) (k : ℕ) (t : Typ) → slice_get ts k ≡ Some t → type_at ts k ≡ t
is-at ts k t made = get_or_from_slice_get ts k t (var 0) made

pub made-by : {E : Type 0} (r : Result ℕ E) (ts : List Typ) (t u : Typ) → t ≡ u → IfOk r (λ k. slice_get ts k ≡ Some t) → IfOk r (λ k. slice_get ts k ≡ Some u)
made-by r ts t u e h = subst (λ x. IfOk r (λ k. slice_get ts k ≡ Some x)) e h

-- schemes that are made so far
pub record Made (old T : List Typ) (rows : List Row) (made : List Scheme) : Type 0 where
  pub kept : take (length old) T ≡ old
  pub held : AllBelow (length T) (map (λ s. s.body) made)
  pub are : schemes_of T made ≡ row_schemes rows

pub made-none : (old : List Typ) (made : List Scheme) → made ≡ [] → Made old old [] made
made-none old made e = subst (Made old old []) (sym e) (record { kept = whole old; held = tt; are = refl })

schemes-stay : (ts us : List Typ) (made : List Scheme) → take (length ts) us ≡ ts → AllBelow (length ts) (map (λ s. s.body) made) → schemes_of us made ≡ schemes_of ts made
schemes-stay ts us [] e h = refl
schemes-stay ts us (s ∷ made) e h = ap₂ (λ x l. x ∷ l) (ap (λ t. with_body s t) (type-stays ts us s.body e h.0)) (schemes-stay ts us made e h.1)
  where
    with_body : Scheme → Typ → Schema
    with_body s t = record { marks = marks_of s.mark; body = t }

below-grown : (m n : ℕ) (made : List Scheme) → m ≤ n → AllBelow m (map (λ s. s.body) made) → AllBelow n (map (λ s. s.body) made)
below-grown m n [] le h = tt
below-grown m n (s ∷ made) le h = (let a = h.0 in omega arith, below-grown m n made le h.1)

below-last : (n : ℕ) (made : List Scheme) (s : Scheme) → AllBelow n (map (λ s. s.body) made) → s.body < n → AllBelow n (map (λ s. s.body) (made ++ s ∷ []))
below-last n [] s h lt = (lt, tt)
below-last n (x ∷ made) s h lt = (h.0, below-last n made s h.1 lt)

schemes-last : (ts : List Typ) (made : List Scheme) (s : Scheme) → schemes_of ts (made ++ s ∷ []) ≡ schemes_of ts made ++ scheme_of ts s ∷ []
schemes-last ts [] s = refl
schemes-last ts (x ∷ made) s = ap (λ l. scheme_of ts x ∷ l) (schemes-last ts made s)

rows-next : (rows : List Row) (i : ℕ) (d : Row) → i < length rows → row_schemes (take (i + 1) rows) ≡ row_schemes (take i rows) ++ row_scheme (get_or rows i d) ∷ []
rows-next rows i d lt = let s : i + 1 ≡ suc i = omega arith in ap (λ n. row_schemes (take n rows)) s ∙ go rows i lt
  where
    go : (rows : List Row) (i : ℕ) → i < length rows → row_schemes (take (suc i) rows) ≡ row_schemes (take i rows) ++ row_scheme (get_or rows i d) ∷ []
    go [] i lt = absurd (omega arith)
    go (r ∷ rows) zero lt = refl
    go (r ∷ rows) (suc i) lt = ap (λ l. row_scheme r ∷ l) (go rows i (omega arith))

abbrev scheme : Option Mark → ℕ → Scheme
scheme m k = record { mark = m; body = k }

pub made-more : (old T U : List Typ) (rows : List Row) (i : ℕ) (d : Row) (made new : List Scheme) (m : Option Mark) (k : ℕ) → i < length rows
    → Made old T (take i rows) made → take (length T) U ≡ T → slice_get U k ≡ Some (row_body (get_or rows i d)) → m ≡ row_mark (get_or rows i d) → new ≡ made ++ scheme m k ∷ []
    → Made old U (take (i + 1) rows) new
made-more old T U rows i d made new m k lt h grown is mark e = subst (Made old U (take (i + 1) rows)) (sym e) (record {
  kept = stays-on old T U h.kept grown;
  held = below-last (length U) made (scheme m k) (below-grown (length T) (length U) made (longer T U grown) h.held) (slice_get_within U k (row_body (get_or rows i d)) is);
  are = schemes-last U made (scheme m k) ∙ ap₂ (λ l s. l ++ s ∷ []) (schemes-stay T U made grown h.held ∙ h.are)
      (ap₂ schema mark (get_or_from_slice_get U k (row_body (get_or rows i d)) (var 0) is)) ∙ sym (rows-next rows i d lt);
})
  where
    schema : Option Mark → Typ → Schema
    schema m t = record { marks = marks_of m; body = t }

pub made-all : (old T : List Typ) (rows : List Row) (i : ℕ) (made : List Scheme) → length rows ≤ i → Made old T (take i rows) made → schemes_of T made ≡ row_schemes rows
made-all old T rows i made le h = h.are ∙ ap row_schemes (all rows i le)
  where
    all : (rows : List Row) (i : ℕ) → length rows ≤ i → take i rows ≡ rows
    all [] zero le = refl
    all [] (suc i) le = refl
    all (r ∷ rows) zero le = absurd (omega arith)
    all (r ∷ rows) (suc i) le = ap (λ l. r ∷ l) (all rows i (omega arith))

-- the type of triples of equal types
pub triples : (t u v x y z : Typ) → t ≡ x → u ≡ y → v ≡ z → tuple_type (t ∷ u ∷ v ∷ []) ≡ tuple_type (x ∷ y ∷ z ∷ [])
triples t u v x y z e f g = ap (λ a. tuple_type (a ∷ u ∷ v ∷ [])) e ∙ ap (λ a. tuple_type (x ∷ a ∷ v ∷ [])) f ∙ ap (λ a. tuple_type (x ∷ y ∷ a ∷ [])) g
