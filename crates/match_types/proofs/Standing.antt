-- Types over the parameters in scope.
use Rattle.std.proofs.Common.{◌≡◌, ◌<◌, ◌≤◌, ℕ, ◌+◌, Bool, true, false, List, [], ◌∷◌, ◌++◌, length, ◌-◌, take, slice_index_or, Some, None, is_some, nat_eq, nat_lt, if◌then◌else◌, refl, sym, ap, ◌∙◌, subst, arith}
use Rattle.std.proofs.lemmas.List.{get_or_append_left, get_or-append_right, length-append}
use Rattle.std.proofs.lemmas.Bool.{ltb-true, ltb-false}
use Rattle.std.specs.Map.{lookup}
use Rattle.ty_core.specs.Types.{Typ, var}
use Rattle.ty_core.specs.declared.mark.Mark.{Mark}
use Rattle.ty_core.specs.declared.scheme.Quantified.{Quantified}
use Rattle.ty_table.specs.TypeAt.{type_at, AllBelow}
use Rattle.ty_table.proofs.Building.{below-more}
use Rattle.ty_table.proofs.Viewing.{below-at}
use Rattle.ir_poly.specs.Types.{over, unit_type}
use Rattle.ir_known.specs.Knows.{marks_of}
use Rattle.match_names.specs.of_match_compile.Compile.{standing, scoped}
use Rattle.match_types.specs.Views.{Stands}
use Rattle.match_types.specs.Views.{source_at, in_view}
use Rattle.match_types.specs.declared.work.Work.{Work}
use Rattle.match_types.specs.declared.work.ValueType.TheVariants.{Source}
use Rattle.match_types.proofs.Seeing.{stands-at, earlier-stays}
use Rattle.match_types.proofs.Scoping.{scoped-over, scoped-same, found-in_scope}

pub known-stands : (w : Work) (t : ℕ) → t < w.first → Stands w t (source_at t)
known-stands w t lt v s = sym (s.source_known t lt)

pub unknown-stands : (w : Work) (k t : ℕ) → w.first ≤ t → type_at w.tables.types k ≡ var 0 → k < length w.tables.types → Stands w k (source_at t)
unknown-stands w k t le e lt v s = stands-at w v k s lt ∙ e ∙ sym (s.source_unknown t le)

pub over-stands : (w : Work) (k t : ℕ) → Stands w k (source_at t) → k < length w.tables.types → over (marks_of w.scope) (type_at w.tables.types k) ≡ true → Stands w k (in_view (Source t))
over-stands w k t is lt h v s =
    let e = stands-at w v k s lt in
    e ∙ sym (scoped-over (marks_of w.scope) (type_at w.tables.types k) h) ∙ sym (scoped-same v.scope (marks_of w.scope) s.same_scope (type_at w.tables.types k))
    ∙ ap (scoped v.scope) (sym e ∙ is v s)

pub standing-found : (scope : List (ℕ × Mark)) (v : ℕ) (m : Mark) → Some m ≡ lookup (nat_eq v) scope → var v ≡ standing (marks_of scope) v
standing-found scope v m e = ap (λ b. if b then var v else unit_type) (ap is_some e ∙ found-in_scope v scope)

pub standing-none : (scope : List (ℕ × Mark)) (v : ℕ) → None ≡ lookup (nat_eq v) scope → unit_type ≡ standing (marks_of scope) v
standing-none scope v e = ap (λ b. if b then var v else unit_type) (ap is_some e ∙ found-in_scope v scope)

pub all-below-append : (n : ℕ) (xs : List ℕ) (k : ℕ) → AllBelow n xs → k < n → AllBelow n (xs ++ k ∷ [])
all-below-append n [] k h lt = (lt, tt)
all-below-append n (x ∷ xs) k h lt = (h.0, all-below-append n xs k h.1 lt)

-- the images of the first variables
pub record Images (types : List Typ) (D : List Quantified) (made : List ℕ) (count : ℕ) : Type 0 where
  pub len : length made ≡ count
  pub is : (v : ℕ) → v < count → type_at types (slice_index_or made v 0) ≡ standing D v
  pub held : AllBelow (length types) made

pub images-none : (types : List Typ) (D : List Quantified) → Images types D [] 0
images-none types D = record { len = refl; is = λ v lt. absurd (omega arith); held = tt }

pub images-more : (types later : List Typ) (D : List Quantified) (made new : List ℕ) (i k : ℕ) → take (length types) later ≡ types → length types ≤ length later → Images types D made i
    → type_at later k ≡ standing D i → k < length later → new ≡ made ++ k ∷ [] → Images later D new (i + 1)
images-more types later D made new i k grown le images is lt e = record {
  len = (let a = ap length e in let b = length-append made (k ∷ []) in let c = images.len in omega (arith, a, b, c));
  is = λ v small. ap (λ l. type_at later (slice_index_or l v 0)) e ∙ at v small;
  held = subst (AllBelow (length later)) (sym e) (all-below-append (length later) made k (below-more (length types) (length later) made le images.held) lt);
}
  where
    at-last : (v : ℕ) → v ≡ i → type_at later (slice_index_or (made ++ k ∷ []) v 0) ≡ standing D v
    at-last v same =
        ap (type_at later) (get_or-append_right made (k ∷ []) i v 0 images.len (omega arith) ∙ ap (λ n. slice_index_or (k ∷ []) n 0) (let z : v - i ≡ 0 = omega arith in z))
        ∙ is ∙ ap (standing D) (sym same)

    before : (v : ℕ) → v < i → type_at later (slice_index_or (made ++ k ∷ []) v 0) ≡ standing D v
    before v small =
        let within : v < length made = (let c = images.len in omega arith) in
        ap (type_at later) (get_or_append_left made (k ∷ []) 0 v within) ∙ earlier-stays types later (slice_index_or made v 0) grown (below-at (length types) made v images.held within)
        ∙ images.is v small

    by : (v : ℕ) → (b : Bool) → nat_lt v i ≡ b → v < i + 1 → type_at later (slice_index_or (made ++ k ∷ []) v 0) ≡ standing D v
    by v true h small = before v (ltb-true v i h)
    by v false h small = at-last v (let g = ltb-false v i h in omega arith)

    at : (v : ℕ) → v < i + 1 → type_at later (slice_index_or (made ++ k ∷ []) v 0) ≡ standing D v
    at v small = by v (nat_lt v i) refl small
