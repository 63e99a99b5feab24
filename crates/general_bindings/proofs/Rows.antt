-- Variables in a row, and the record of all of them.
use Rattle.std.proofs.Common.{◌≡◌, ◌<◌, ◌≤◌, ◌+◌, ℕ, zero, suc, List, [], ◌∷◌, ◌++◌, map, length, take, drop, reverse, slice_index_or, slice_get, Some, nat_eq, false, Box, Vec, Global, refl, sym, ap, ap₂, ◌∙◌, arith}
use Rattle.std.proofs.lemmas.List.{map-append, reverse-append, reverse-reverse}
use Rattle.std.proofs.lemmas.Bool.{false≢true}
use Rattle.mlc_names.specs.declared.label.Label.{Label}
use Rattle.mlc_names.specs.declared.label.Label.TheVariants.{Number}
use Rattle.ty_core.specs.Types.{con, var, labels, typs_of}
use Rattle.ty_core.specs.declared.scheme.Quantified.{Quantified}
use Rattle.ty_table.specs.TypeAt.{type_at, types_at, AllBelow}
use Rattle.ir_poly.specs.Types.{labels_in}
use Rattle.ir_plain.specs.Tree as te
use Rattle.match_compile.specs.Compile.{atom, Spots, no_spots, spot, row_of, spots_row, scoped, all_scoped, standing, own_types, split_spots, general_shape, recorded}
use Rattle.plain_tree.specs.TreeOf as plain
use Rattle.plain_tree.specs.declared.tree.Field.{Field}
use Rattle.ir_poly.specs.Prog as t
use Rattle.prog_tree.specs.TreeOf.{Reading, PatPartTree, pat_of, pat_part_of, join_pats, before, left_pats, right_pats, chain_pats}
use Rattle.prog_tree.specs.declared.tree.Head.{Head}
use Rattle.prog_tree.specs.declared.tree.Head.TheVariants as head
use Rattle.prog_tree.specs.declared.tree.Pat.{Pat}
use Rattle.prog_tree.specs.declared.tree.Pat.TheVariants as pats
use Rattle.prog_tree.specs.declared.tree.PatPart.{PatPart}
use Rattle.prog_tree.specs.declared.tree.Side.{Side}
use Rattle.prog_tree.specs.declared.tree.Side.TheVariants as side
use Rattle.prog_tree.proofs.ExpOf.{pat_of-Chain}
use Rattle.exp_blocks.proofs.of_exp_steps.Heads.{items-counted}
use Rattle.pattern_tests.specs.of_match_types.Views.{View, reading, Sees, Keeps, Stands, value_type, in_view}
use Rattle.pattern_tests.specs.of_match_types.declared.work.Work.{Work}
use Rattle.pattern_tests.specs.of_match_types.declared.work.ValueType.{ValueType}
use Rattle.pattern_tests.proofs.of_match_types.Seeing.{sees-before, stands-at, held-within, held-is}
use Rattle.pattern_tests.specs.Spots.{spots_onto}
use Rattle.pattern_tests.specs.declared.spots.Spot.{Spot}
use Rattle.exp_blocks.proofs.Binding.{take-next}
use Rattle.exp_blocks.proofs.of_exp_steps.Leaves.{map-stays, replace-typs}
use Rattle.general_bindings.specs.General.{spots_before, spots_of, types_of, whole, labels_from, fields_from, over_scope}

-- Labels and fields

labels-next : (ss : List Spot) (l i : ℕ) → i < length ss → labels_from l (take (suc i) ss) ≡ labels_from l (take i ss) ++ Number (l + i) ∷ []
labels-next [] l i lt = absurd (omega arith)
labels-next (s ∷ ss) l zero lt = ap (λ n. Number n ∷ []) (let e : l ≡ l + 0 = omega arith in e)
labels-next (s ∷ ss) l (suc i) lt =
    ap (λ ls. Number l ∷ ls) (labels-next ss (suc l) i (omega arith) ∙ ap (λ n. labels_from (suc l) (take i ss) ++ Number n ∷ []) (let e : suc l + i ≡ l + suc i = omega arith in e))

pub labels-more : (ss : List Spot) (i : ℕ) (made new : List Label) (l : Label) → i < length ss → made ≡ labels_from 1 (take i ss) → l ≡ Number (i + 1) → new ≡ made ++ l ∷ [] → new ≡ labels_from 1 (take (i + 1) ss)
labels-more ss i made new l lt e is more =
    more ∙ ap₂ (λ xs x. xs ++ x ∷ []) e (is ∙ ap Number (let o : i + 1 ≡ 1 + i = omega arith in o)) ∙ sym (labels-next ss 1 i lt) ∙ ap (λ n. labels_from 1 (take n ss)) (let o : suc i ≡ i + 1 = omega arith in o)

fields-next : (ss : List Spot) (l i : ℕ) (d : Spot) → i < length ss → fields_from l (take (suc i) ss) ≡ fields_from l (take i ss) ++ record { label = Number (l + i); atom = (slice_index_or ss i d).number } ∷ []
fields-next [] l i d lt = absurd (omega arith)
fields-next (s ∷ ss) l zero d lt = ap (λ n. record { label = Number n; atom = s.number } ∷ []) (let o : l ≡ l + 0 = omega arith in o)
fields-next (s ∷ ss) l (suc i) d lt =
    ap (λ fs. record { label = Number l; atom = s.number } ∷ fs)
    (fields-next ss (suc l) i d (omega arith) ∙ ap (λ n. fields_from (suc l) (take i ss) ++ record { label = Number n; atom = (slice_index_or ss i d).number } ∷ []) (let o : suc l + i ≡ l + suc i = omega arith in o))

pub fields-more : (ss : List Spot) (i : ℕ) (d : Spot) (made new : List Field) (l : Label) → i < length ss → made ≡ fields_from 1 (take i ss) → l ≡ Number (i + 1)
    → new ≡ made ++ record { label = l; atom = (slice_index_or ss i d).number } ∷ [] → new ≡ fields_from 1 (take (i + 1) ss)
fields-more ss i d made new l lt e named more =
    more ∙ ap₂ (λ xs y. xs ++ record { label = y; atom = (slice_index_or ss i d).number } ∷ []) e (named ∙ ap Number (let o : i + 1 ≡ 1 + i = omega arith in o)) ∙ sym (fields-next ss 1 i d lt)
    ∙ ap (λ n. fields_from 1 (take n ss)) (let o : suc i ≡ i + 1 = omega arith in o)

module _ {A : Type 0} where
  pub take-whole : (xs : List A) (i : ℕ) → length xs ≤ i → take i xs ≡ xs
  take-whole [] zero le = refl
  take-whole [] (suc i) le = refl
  take-whole (x ∷ xs) zero le = absurd (omega arith)
  take-whole (x ∷ xs) (suc i) le = ap (λ l. x ∷ l) (take-whole xs i (omega arith))

  pub drop-whole : (xs : List A) (i : ℕ) → length xs ≤ i → drop i xs ≡ []
  drop-whole [] zero le = refl
  drop-whole [] (suc i) le = refl
  drop-whole (x ∷ xs) zero le = absurd (omega arith)
  drop-whole (x ∷ xs) (suc i) le = drop-whole xs i (omega arith)

pub fields-read : (v : View) (ss : List Spot) (l : ℕ) → plain.row_of (reading v) (fields_from l ss) ≡ spots_row (spots_of v ss) l
fields-read v [] l = refl
fields-read v (s ∷ ss) l = ap (te.a_row (Number l) (atom s.number)) (fields-read v ss (suc l))

-- Types

row-labels : (v : View) (ss : List Spot) (l : ℕ) → labels_in (row_of (spots_of v ss) l) ≡ labels_from l ss
row-labels v [] l = refl
row-labels v (s ∷ ss) l = ap (λ ls. Number l ∷ ls) (row-labels v ss (suc l))

row-types : (v : View) (ss : List Spot) (l : ℕ) → map (λ f. f.1) (row_of (spots_of v ss) l) ≡ types_of v ss
row-types v [] l = refl
row-types v (s ∷ ss) l = ap (λ ts. value_type v s.ty ∷ ts) (row-types v ss (suc l))

whole-is : (v : View) (ss : List Spot) → whole ss v ≡ con (labels (labels_from 1 ss)) (typs_of (types_of v ss))
whole-is v ss = ap₂ (λ ls ts. con (labels ls) (typs_of ts)) (row-labels v ss 1) (row-types v ss 1)

pub types-step : (v : View) (made : List ℕ) (ss : List Spot) (i k : ℕ) (d : Spot) → i < length ss → map (type_at v.types) made ≡ all_scoped v.scope (types_of v (take i ss))
    → type_at v.types k ≡ in_view (slice_index_or ss i d).ty v → map (type_at v.types) (made ++ k ∷ []) ≡ all_scoped v.scope (types_of v (take (i + 1) ss))
types-step v made ss i k d lt e own =
    map-append (type_at v.types) made (k ∷ []) ∙ ap₂ (λ xs y. xs ++ y ∷ []) e own ∙ sym (ap (λ l. all_scoped v.scope (types_of v l)) (take-next ss i d lt) ∙ behind (take i ss))
  where
    x : Spot
    x = slice_index_or ss i d

    behind : (xs : List Spot) → all_scoped v.scope (types_of v (xs ++ x ∷ [])) ≡ all_scoped v.scope (types_of v xs) ++ scoped v.scope (value_type v x.ty) ∷ []
    behind [] = refl
    behind (y ∷ xs) = ap (λ l. scoped v.scope (value_type v y.ty) ∷ l) (behind xs)

pub types-whole : (v : View) (ss : List Spot) (i : ℕ) → length ss ≤ i → all_scoped v.scope (types_of v (take i ss)) ≡ all_scoped v.scope (types_of v ss)
types-whole v ss i le = ap (λ l. all_scoped v.scope (types_of v l)) (take-whole ss i le)

-- the type of the record
pub record-stands : (w1 w : Work) (k : ℕ) (ls : List Label) (ks : List ℕ) (ss : List Spot) → Keeps w1 w → ls ≡ labels_from 1 ss → ((v : View) → Sees w1 v → map (type_at v.types) ks ≡ all_scoped v.scope (types_of v ss))
    → AllBelow (length w1.tables.types) ks → slice_get w.tables.types k ≡ Some (con (labels ls) (types_at w1.tables.types ks)) → Stands w k (over_scope (whole ss))
record-stands w1 w k ls ks ss h named is below held v s =
    let s1 : Sees w1 v = sees-before w1 w v h s in
    stands-at w v k s (held-within w.tables.types k (con (labels ls) (types_at w1.tables.types ks)) held) ∙ held-is w.tables.types k (con (labels ls) (types_at w1.tables.types ks)) held
    ∙ ap₂ (λ xs us. con (labels xs) (typs_of us)) named (sym (map-stays w1.tables.types v.types ks s1.grown below) ∙ is v s1)
    ∙ ap (con (labels (labels_from 1 ss))) (sym (replace-typs (standing v.scope) (types_of v ss))) ∙ ap (scoped v.scope) (sym (whole-is v ss))

-- an element that is there, whatever else stands for one that isn't
pub index-own : {A : Type 0} (xs : List A) (i : ℕ) (d : A) → i < length xs → slice_index_or xs i d ≡ slice_index_or xs i (slice_index_or xs i d)
index-own [] i d lt = absurd (omega arith)
index-own (x ∷ xs) zero d lt = refl
index-own (x ∷ xs) (suc i) d lt = index-own xs i d (omega arith)

-- variables as types
pub vars-step : (v : View) (made xs : List ℕ) (i k : ℕ) → i < length xs → map (type_at v.types) made ≡ map var (take i xs) → type_at v.types k ≡ var (slice_index_or xs i 0) → map (type_at v.types) (made ++ k ∷ []) ≡ map var (take (i + 1) xs)
vars-step v made xs i k lt e is =
    map-append (type_at v.types) made (k ∷ []) ∙ ap₂ (λ l x. l ++ x ∷ []) e is ∙ sym (ap (map var) (take-next xs i 0 lt) ∙ map-append var (take i xs) (slice_index_or xs i 0 ∷ []))

-- parameters as types
pub own-is : (qs : List Quantified) → map var (map (λ q. q.variable) qs) ≡ own_types qs
own-is [] = refl
own-is (q ∷ qs) = ap (λ l. var q.variable ∷ l) (own-is qs)

-- Variables that were found, from the first or from the last

onto-append : (v : View) (xs ys : List Spot) (us : Spots) → spots_onto v (xs ++ ys) us ≡ spots_onto v ys (spots_onto v xs us)
onto-append v [] ys us = refl
onto-append v (x ∷ xs) ys us = onto-append v xs ys (spot x.variable x.number (value_type v x.ty) us)

pub onto-reversed : (v : View) (ss : List Spot) (us : Spots) → spots_onto v (reverse ss) us ≡ spots_before v ss us
onto-reversed v [] us = refl
onto-reversed v (s ∷ ss) us =
    ap (λ l. spots_onto v l us) (reverse-append (s ∷ []) ss) ∙ onto-append v (reverse ss) (s ∷ []) us ∙ ap (spot s.variable s.number (value_type v s.ty)) (onto-reversed v ss us)

pub of-reversed : (v : View) (ss : List Spot) → spots_of v (reverse ss) ≡ spots_onto v ss no_spots
of-reversed v ss = sym (onto-reversed v (reverse ss) no_spots) ∙ ap (λ l. spots_onto v l no_spots) (reverse-reverse ss)

-- some in front of others
abbrev joined : Spots → Spots → Spots
joined no_spots us = us
joined (spot x a t vs) us = spot x a t (joined vs us)

before-joined : (v : View) (ss : List Spot) (us : Spots) → spots_before v ss us ≡ joined (spots_of v ss) us
before-joined v [] us = refl
before-joined v (s ∷ ss) us = ap (spot s.variable s.number (value_type v s.ty)) (before-joined v ss us)

split-joined : (vs : Spots) (k : ℕ) (us : Spots) → split_spots vs k us ≡ joined (split_spots vs k no_spots) us
split-joined no_spots k us = refl
split-joined (spot x a t vs) k us = ap (spot x (suc (suc k)) t) (split-joined vs (suc (suc (suc k))) us)

-- those of a split record, behind others
pub split-found : (v : View) (made old now : List Spot) (vs : Spots) (k : ℕ) → spots_of v made ≡ split_spots vs k no_spots → now ≡ old ++ reverse made → spots_onto v now no_spots ≡ split_spots vs k (spots_onto v old no_spots)
split-found v made old now vs k is e =
    let us = spots_onto v old no_spots in
    ap (λ l. spots_onto v l no_spots) e ∙ onto-append v old (reverse made) no_spots ∙ onto-reversed v made us ∙ before-joined v made us ∙ ap (λ xs. joined xs us) is ∙ sym (split-joined vs k us)

pub before-more : (v : View) (made : List Spot) (s : Spot) (us : Spots) → spots_before v (made ++ s ∷ []) us ≡ spots_before v made (spot s.variable s.number (value_type v s.ty) us)
before-more v [] s us = refl
before-more v (x ∷ made) s us = ap (spot x.variable x.number (value_type v x.ty)) (before-more v made s us)

pub onto-one : (v : View) (xs now : List Spot) (x n : ℕ) (u : ValueType) → now ≡ xs ++ record { variable = x; number = n; ty = u } ∷ [] → spots_onto v now no_spots ≡ spot x n (value_type v u) (spots_onto v xs no_spots)
onto-one v xs now x n u e = ap (λ l. spots_onto v l no_spots) e ∙ onto-append v xs (record { variable = x; number = n; ty = u } ∷ []) no_spots

-- A chain of patterns is no variable alone

joined-recorded : (j : PatPartTree) (p q : t.Pat) → general_shape (join_pats j p q) ≡ recorded
joined-recorded j p q = behind j.head
  where
    behind : (h : Head) → general_shape (before h j.whole (t.fields_pat false (t.a_pat (Number 1) j.left p (t.a_pat (Number 2) j.right q t.no_pats)))) ≡ recorded
    behind (head.Constructor c) = refl
    behind head.Reference = refl
    behind (head.Exception x) = refl

left-recorded : (p : t.Pat) (js : List PatPartTree) → general_shape p ≡ recorded → general_shape (left_pats p js) ≡ recorded
left-recorded p [] e = e
left-recorded p (j ∷ js) e = left-recorded (join_pats j p j.pat) js (joined-recorded j p j.pat)

chain-items : (R : Reading) (s : Side) (p : t.Pat) (js : List PatPart) → nat_eq (length js) 0 ≡ false → general_shape (chain_pats s p (map (pat_part_of R) js)) ≡ recorded
chain-items R s p [] e = absurd (false≢true (sym e))
chain-items R side.Left p (j ∷ js) e = let k = pat_part_of R j in left-recorded (join_pats k p k.pat) (map (pat_part_of R) js) (joined-recorded k p k.pat)
chain-items R side.Right p (j ∷ js) e = let k = pat_part_of R j in joined-recorded k p (right_pats k.pat (map (pat_part_of R) js))

pub chain-recorded : (R : Reading) (s : Side) (p : Box Pat Global) (js : Vec PatPart Global) → nat_eq js.len 0 ≡ false → general_shape (pat_of R (pats.Chain s p js)) ≡ recorded
chain-recorded R s p js e = ap general_shape (pat_of-Chain R s p js) ∙ chain-items R s (pat_of R p.value) js.items (items-counted js false e)
