-- Parts that are collected by the functions that build types.
use Rattle.std.proofs.Common.{◌≡◌, ℕ, zero, suc, ◌+◌, ◌-◌, ◌<◌, ◌≤◌, List, [], ◌∷◌, ◌++◌, map, length, take, drop, get_or, slice_get, Some, refl, sym, ap, ap₂, ◌∙◌, subst, arith, cond, Bool, true, false}
use Rattle.std.proofs.lemmas.Option.{slice_get-get_or, slice_get_within, get_or_from_slice_get}
use Rattle.mlc_names.specs.declared.label.Label.TheVariants.{Number}
use Rattle.ty_core.specs.Types.{Typ, var, con, arrow}
use Rattle.ty_basis.specs.Types.{function_type}
use Rattle.ty_table.specs.TypeAt.{type_at, types_at, AllBelow}
use Rattle.ty_instance.proofs.of_ty_solve.Holding.{type-stays}
use Rattle.ty_instance.proofs.Going.{stays-on, longer, whole}
use Rattle.label_rows.specs.Sorting.{label_before, put_field, sorted}
use Rattle.label_rows.specs.declared.sort.Field.{Field}
use Rattle.elab_types.specs.Building.{labels_of, parts_of, numbered_from, functions}
use Rattle.elab_types.proofs.Lists.{drop-next}

abbrev pub numbered : ℕ → ℕ → Field
numbered k x = record { label = Number k; part = x }

pub numbered-next : (xs : List ℕ) (i n : ℕ) (d : Field) → i < length xs → n ≡ i + 1 → d ≡ record { label = Number n; part = get_or xs i 0 }
    → numbered_from 1 (take (i + 1) xs) ≡ numbered_from 1 (take i xs) ++ d ∷ []
numbered-next xs i n d lt e q =
    let s : i + 1 ≡ suc i = omega arith in let m : 1 + i ≡ n = omega (arith, e) in
    ap (λ n. numbered_from 1 (take n xs)) s ∙ go 1 xs i lt ∙ ap (λ k. numbered_from 1 (take i xs) ++ numbered k (get_or xs i 0) ∷ []) m ∙ ap (λ d. numbered_from 1 (take i xs) ++ d ∷ []) (sym q)
  where
    go : (k : ℕ) (xs : List ℕ) (i : ℕ) → i < length xs → numbered_from k (take (suc i) xs) ≡ numbered_from k (take i xs) ++ record { label = Number (k + i); part = get_or xs i 0 } ∷ []
    go k [] i lt = absurd (omega (arith, lt))
    go k (x ∷ xs) zero lt = let z : k ≡ k + 0 = omega arith in ap (λ n. numbered n x ∷ []) z
    go k (x ∷ xs) (suc i) lt =
        let z : suc k + i ≡ k + suc i = omega arith in
        ap (λ l. numbered k x ∷ l) (go (suc k) xs i (omega (arith, lt)) ∙ ap (λ n. numbered_from (suc k) (take i xs) ++ numbered n (get_or xs i 0) ∷ []) z)

-- sorting keeps what is below
put-below : (n : ℕ) (d : Field) (ds : List Field) → d.part < n → AllBelow n (parts_of ds) → AllBelow n (parts_of (put_field d ds))
put-below n d [] lt h = (lt, tt)
put-below n d (e ∷ ds) lt h = by (label_before e.label d.label) (put-below n d ds lt h.1)
  where
    by : (b : Bool) → AllBelow n (parts_of (put_field d ds)) → AllBelow n (parts_of (cond b (e ∷ put_field d ds) (d ∷ e ∷ ds)))
    by true r = (h.0, r)
    by false r = (lt, h)

pub sorted-below : (n : ℕ) (ds : List Field) → AllBelow n (parts_of ds) → AllBelow n (parts_of (sorted ds))
sorted-below n [] h = tt
sorted-below n (d ∷ ds) h = put-below n d (sorted ds) h.0 (sorted-below n ds h.1)

-- t1 -> .. -> tn, of a list that isn't empty
abbrev pub chain : List Typ → Typ
chain [] = var 0
chain (t ∷ ts) = functions t ts

pub nth-below : (n : ℕ) (ks : List ℕ) (i : ℕ) → AllBelow n ks → i < length ks → get_or ks i 0 < n
nth-below n [] i h lt = absurd (omega (arith, lt))
nth-below n (k ∷ ks) zero h lt = h.0
nth-below n (k ∷ ks) (suc i) h lt = nth-below n ks i h.1 (omega (arith, lt))

-- the last of the parts, alone
pub chain-last : (ts : List Typ) (ks : List ℕ) (i k : ℕ) → i < length ks → length ks ≤ i + 1 → k ≡ get_or ks i 0 → type_at ts k ≡ chain (map (type_at ts) (drop i ks))
chain-last ts ks i k lt le e = ap (type_at ts) e ∙ sym (ap (λ l. chain (map (type_at ts) l)) (go ks i lt le))
  where
    go : (ks : List ℕ) (i : ℕ) → i < length ks → length ks ≤ i + 1 → drop i ks ≡ get_or ks i 0 ∷ []
    go [] i lt le = absurd (omega (arith, lt))
    go (k ∷ []) zero lt le = refl
    go (k ∷ j ∷ ks) zero lt le = absurd (omega (arith, le))
    go (k ∷ ks) (suc i) lt le = go ks i (omega (arith, lt)) (omega (arith, le))

-- one part more in front
chain-more : (t : Typ) (ts : List Typ) → 0 < length ts → function_type t (chain ts) ≡ functions t ts
chain-more t [] lt = absurd (omega (arith, lt))
chain-more t (u ∷ us) lt = refl

length-map : {A B : Type 0} (g : A → B) (xs : List A) → length (map g xs) ≡ length xs
length-map g [] = refl
length-map g (x ∷ xs) = ap suc (length-map g xs)

length-left : (ks : List ℕ) (i : ℕ) → i < length ks → 0 < length (drop i ks)
length-left [] i lt = absurd (omega (arith, lt))
length-left (k ∷ ks) zero lt = omega arith
length-left (k ∷ ks) (suc i) lt = length-left ks i (omega (arith, lt))

any-default : (ks : List ℕ) (i a b : ℕ) → i < length ks → get_or ks i a ≡ get_or ks i b
any-default [] i a b lt = absurd (omega (arith, lt))
any-default (k ∷ ks) zero a b lt = refl
any-default (k ∷ ks) (suc i) a b lt = any-default ks i a b (omega (arith, lt))

-- what the loop keeps: the types from a part on are one function type
pub record Chained (old T : List Typ) (ks : List ℕ) (i made : ℕ) : Type 0 where
  pub kept : take (length old) T ≡ old
  pub held : made < length T
  pub within : i < length ks
  pub is : type_at T made ≡ chain (map (type_at old) (drop i ks))

pub chained-more : (old T new : List Typ) (ks : List ℕ) (i j k made r : ℕ) → AllBelow (length old) ks → Chained old T ks i made → i ≡ j + 1 → k ≡ get_or ks j 0
    → slice_get new r ≡ Some (con arrow (types_at T (k ∷ made ∷ []))) → take (length T) new ≡ T → Chained old new ks j r
chained-more old T new ks i j k made r b h e q g t = record {
  kept = stays-on old T new h.kept t;
  held = slice_get_within new r _ g;
  within = let w = h.within in omega (arith, w, e);
  is = get_or_from_slice_get new r _ (var 0) g
      ∙ ap₂ function_type (type-stays old T k h.kept below ∙ ap (type_at old) q) (h.is ∙ ap (λ n. chain (map (type_at old) (drop n ks))) e)
      ∙ chain-more (type_at old (get_or ks j 0)) (map (type_at old) (drop (j + 1) ks)) left
      ∙ sym (ap (λ l. chain (map (type_at old) l)) (drop-next ks j (get_or ks j 0) less (any-default ks j 0 (get_or ks j 0) less)));
}
  where
    less : j < length ks
    less = let w = h.within in omega (arith, w, e)

    below : k < length old
    below = subst (λ n. n < length old) (sym q) (nth-below (length old) ks j b less)

    left : 0 < length (map (type_at old) (drop (j + 1) ks))
    left = let w = length-left ks (j + 1) (let w = h.within in omega (arith, w, e)) in let v = length-map (type_at old) (drop (j + 1) ks) in omega (arith, w, v)

pub chained-first : (old T : List Typ) (ks : List ℕ) (i first made : ℕ) → first < length old → Chained old T ks i made → i ≡ 0
    → con arrow (types_at T (first ∷ made ∷ [])) ≡ functions (type_at old first) (map (type_at old) ks)
chained-first old T ks i first made lt h e =
    ap₂ function_type (type-stays old T first h.kept lt) (h.is ∙ ap (λ n. chain (map (type_at old) (drop n ks))) e) ∙ chain-more (type_at old first) (map (type_at old) ks) some
  where
    some : 0 < length (map (type_at old) ks)
    some = let w = h.within in let v = length-map (type_at old) ks in omega (arith, w, v, e)

pub alone : (ts : List Typ) (first : ℕ) (rest : List ℕ) → first < length ts → length rest ≡ 0 → slice_get ts first ≡ Some (functions (type_at ts first) (map (type_at ts) rest))
alone ts first [] lt e = slice_get-get_or ts first (var 0) lt
alone ts first (k ∷ ks) lt e = absurd (omega (arith, e))

pub chained-start : (ts : List Typ) (ks : List ℕ) → AllBelow (length ts) ks → 0 < length ks → Chained ts ts ks (length ks - 1) (get_or ks (length ks - 1) 0)
chained-start ts ks b lt = record {
  kept = whole ts;
  held = nth-below (length ts) ks (length ks - 1) b less;
  within = less;
  is = chain-last ts ks (length ks - 1) (get_or ks (length ks - 1) 0) less (omega (arith, lt)) refl;
}
  where
    less : length ks - 1 < length ks
    less = omega (arith, lt)

pub part-held : (old T : List Typ) (ks : List ℕ) (i made : ℕ) → AllBelow (length old) ks → Chained old T ks i made → 0 < i → get_or ks (i - 1) 0 < length T
part-held old T ks i made b h lt =
    let w = h.within in let p = nth-below (length old) ks (i - 1) b (omega (arith, w, lt)) in let q = longer old T h.kept in omega (arith, p, q)

pub sorted-held : (n : ℕ) (ds : List Field) (ks : List ℕ) → AllBelow n (parts_of ds) → ks ≡ parts_of (sorted ds) → AllBelow n ks
sorted-held n ds ks h e = subst (AllBelow n) (sym e) (sorted-below n ds h)

parts-numbered : (n : ℕ) (ks : List ℕ) → parts_of (numbered_from n ks) ≡ ks
parts-numbered n [] = refl
parts-numbered n (k ∷ ks) = ap (λ l. k ∷ l) (parts-numbered (suc n) ks)

pub product-held : (n : ℕ) (ks ps : List ℕ) (fs ds : List Field) → AllBelow n ks → ps ≡ ks → fs ≡ numbered_from 1 ps → ds ≡ fs → AllBelow n (parts_of ds)
product-held n ks ps fs ds h e q d = subst (AllBelow n) (sym (ap parts_of (d ∙ q) ∙ parts-numbered 1 ps ∙ e)) h

pub parts-end : (l new : List Field) (d : Field) → new ≡ l ++ d ∷ [] → parts_of new ≡ parts_of l ++ d.part ∷ []
parts-end l new d e = ap parts_of e ∙ go l
  where
    go : (l : List Field) → parts_of (l ++ d ∷ []) ≡ parts_of l ++ d.part ∷ []
    go [] = refl
    go (x ∷ l) = ap (λ r. x.part ∷ r) (go l)

pub labels-end : (l new : List Field) (d : Field) → new ≡ l ++ d ∷ [] → labels_of new ≡ labels_of l ++ d.label ∷ []
labels-end l new d e = ap labels_of e ∙ go l
  where
    go : (l : List Field) → labels_of (l ++ d ∷ []) ≡ labels_of l ++ d.label ∷ []
    go [] = refl
    go (x ∷ l) = ap (λ r. x.label ∷ r) (go l)
