-- Types whose variables reach no further than a limit, and rows of them.
use Rattle.std.proofs.Common.{◌≡◌, inl, inr, ◌<◌, ◌≤◌, ◌+◌, ℕ, zero, suc, true, List, [], ◌∷◌, ◌++◌, length, map, take, get_or, refl, sym, ap, ap₂, subst, ◌∙◌, arith}
use Rattle.std.proofs.lemmas.Bool.{and_parts, ltb-true}
use Rattle.std.proofs.lemmas.List.{length-map}
use Rattle.std.specs.List.{AllByRecursion}
use Rattle.mlc_names.specs.declared.label.Label.{Label}
use Rattle.ty_core.specs.Types.{Typ, Typs, var, con, none, more}
use Rattle.ty_table.specs.TypeAt.{type_at, types_at}
use Rattle.elab_types.specs.of_ty_solve.Changes.{IsFitRow}
use Rattle.elab_types.specs.of_ty_solve.Limits.{AllLimited, Limited, NoFurther}
use Rattle.elab_types.specs.of_ty_solve.Rows.{Among, IsProper}
use Rattle.elab_types.specs.of_ty_solve.SlotsOf.{row_in}
use Rattle.elab_types.specs.of_ty_solve.Substitution.{is_below, are_below}
use Rattle.elab_types.specs.of_ty_solve.declared.limit.Limit.{Limit}
use Rattle.elab_types.specs.of_ty_solve.declared.row.Row.{Row}
use Rattle.elab_types.proofs.of_ty_solve.Holding.{type-stays}
use Rattle.label_rows.specs.Order.{label_before}
use Rattle.label_rows.specs.declared.sort.Field.{Field}
use Rattle.label_rows.proofs.Merging.{before-trans}
use Rattle.elab_state.specs.of_ir_poly.Types.{ascend}
use Rattle.elab_state.specs.States.{types_in, made, limit_in}
use Rattle.elab_state.specs.declared.state.State.{State}
use Rattle.elab_steps.specs.Growing.{Always, AreTypes, Grows, HasType, IsLimited, types_of}
use Rattle.elab_steps.specs.Rows.{AreBounded}
use Rattle.elab_steps.specs.World.{World, type_of}
use Rattle.elab_steps.proofs.Changing.{parts-below}
use Rattle.elab_steps.proofs.Growing.{comes_before, grows_on, grows_same, type_later}
use Rattle.elab_steps.proofs.Opening.{before-apart}

-- limits that fall

lower-still : (a b c : Limit) → NoFurther a b → NoFurther b c → NoFurther a c
lower-still a b c p q = (omega (arith, p.0, q.0), omega (arith, p.1, q.1))

module _ (n : ℕ) (b c : ℕ → Limit) (fall : (v : ℕ) → v < n → NoFurther (c v) (b v)) where
  mutual
    limited-lower : (l : Limit) (t : Typ) → is_below n t ≡ true → Limited b l t → Limited c l t
    limited-lower l (var v) i h = lower-still (c v) (b v) l (fall v (ltb-true v n i)) h
    limited-lower l (con s ts) i h = (h.0, all-limited-lower l ts i h.1)

    all-limited-lower : (l : Limit) (ts : Typs) → are_below n ts ≡ true → AllLimited b l ts → AllLimited c l ts
    all-limited-lower l none i h = tt
    all-limited-lower l (more t ts) i h = let p = and_parts (is_below n t) (are_below n ts) i in (limited-lower l t p.0 h.0, all-limited-lower l ts p.1 h.1)

pub limited-later : (S T : State) (l : Limit) (k : ℕ) → Grows S T → HasType S k → IsLimited S l k → IsLimited T l k
limited-later S T l k g i h =
    subst (Limited (limit_in T) l) (sym (type-stays (types_in S) (types_in T) k g.types i.held))
    (limited-lower (made S) (limit_in S) (limit_in T) g.limits l (type_at (types_in S) k) i.below h)

parts-later : (S T : State) (ks : List ℕ) → Grows S T → AreTypes S ks → AreTypes T ks
parts-later S T [] g h = tt
parts-later S T (k ∷ ks) g h = (type_later S T k g h.0, parts-later S T ks g h.1)

parts-limited : (S T : State) (l : Limit) (ks : List ℕ) → Grows S T → AreTypes S ks → AllLimited (limit_in S) l (types_at (types_in S) ks)
    → AllLimited (limit_in T) l (types_at (types_in T) ks)
parts-limited S T l [] g i h = tt
parts-limited S T l (k ∷ ks) g i h = (limited-later S T l k g i.0 h.0, parts-limited S T l ks g i.1 h.1)

-- one more

last-type : (T : State) (ks : List ℕ) (k : ℕ) → AreTypes T ks → HasType T k → AreTypes T (ks ++ k ∷ [])
last-type T [] k h i = (i, tt)
last-type T (j ∷ ks) k h i = (h.0, last-type T ks k h.1 i)

last-limited : (T : State) (l : Limit) (ks : List ℕ) (k : ℕ) → AllLimited (limit_in T) l (types_at (types_in T) ks) → IsLimited T l k
    → AllLimited (limit_in T) l (types_at (types_in T) (ks ++ k ∷ []))
last-limited T l [] k h i = (i, tt)
last-limited T l (j ∷ ks) k h i = (h.0, last-limited T l ks k h.1 i)

last-same : (W : World) (ks : List ℕ) (k : ℕ) (fs : List Field) (f : Field) → types_of W ks ≡ types_of W (map (λ f. f.part) fs) → length ks ≡ length fs
    → type_of W k ≡ type_of W f.part → types_of W (ks ++ k ∷ []) ≡ types_of W (map (λ f. f.part) (fs ++ f ∷ []))
last-same W [] k [] f e n s = ap (λ t. more t none) s
last-same W [] k (g ∷ fs) f e n s = cc
last-same W (j ∷ ks) k [] f e n s = cc
last-same W (j ∷ ks) k (g ∷ fs) f e n s =
    ap₂ more (ap head e) (last-same W ks k fs f (ap rest e) (omega (arith, n)) s)
  where
    head : Typs → Typ
    head none = var 0
    head (more t ts) = t

    rest : Typs → Typs
    rest none = none
    rest (more t ts) = ts

length-last : {A : Type 0} (xs : List A) (x : A) → length (xs ++ x ∷ []) ≡ suc (length xs)
length-last [] x = refl
length-last (y ∷ xs) x = ap suc (length-last xs x)

pub none-bounded : (S : State) (limit : Limit) (ks : List ℕ) → ks ≡ [] → AreBounded S limit [] S ks
none-bounded S limit ks e = subst (AreBounded S limit [] S) (sym e) (record { grows = grows_same S; next = refl; count = refl; are = tt; limited = tt; same = λ W c. refl })

pub more-bounded : (S T U : State) (limit : Limit) (fs : List Field) (f : Field) (ks : List ℕ) (k : ℕ) → AreBounded S limit fs T ks → Grows T U → U.next ≡ T.next
    → HasType U k → IsLimited U limit k → Always U (λ W. type_of W k ≡ type_of W f.part) → AreBounded S limit (fs ++ f ∷ []) U (ks ++ k ∷ [])
more-bounded S T U limit fs f ks k h g n is l s = record {
  grows = grows_on S T U h.grows g;
  next = n ∙ h.next;
  count = length-last ks k ∙ ap suc h.count ∙ sym (length-last fs f);
  are = last-type U ks k (parts-later T U ks g h.are) is;
  limited = last-limited U limit ks k (parts-limited T U limit ks g h.are h.limited) l;
  same = λ W c. last-same W ks k fs f (h.same W (comes_before T U W g c)) h.count (s W c);
}

-- the fields up to one
take-more : (xs : List Field) (i : ℕ) (x : Field) → i < length xs → x ≡ get_or xs i x → take (suc i) xs ≡ take i xs ++ x ∷ []
take-more [] i x lt e = absurd (omega (arith, lt))
take-more (y ∷ xs) zero x lt e = ap (λ z. z ∷ []) (sym e)
take-more (y ∷ xs) (suc i) x lt e = ap (λ l. y ∷ l) (take-more xs i x (omega (arith, lt)) e)

pub next-bounded : (S T U : State) (limit : Limit) (fs : List Field) (i : ℕ) (f : Field) (ks new : List ℕ) (k : ℕ) → i < length fs → f ≡ get_or fs i f
    → AreBounded S limit (take i fs) T ks → Grows T U → U.next ≡ T.next → HasType U k → IsLimited U limit k
    → Always U (λ W. type_of W k ≡ type_of W (get_or fs i f).part) → new ≡ ks ++ k ∷ [] → AreBounded S limit (take (i + 1) fs) U new
next-bounded S T U limit fs i f ks new k lt e h g n is l t w =
    let one : suc i ≡ i + 1 = omega arith in
    let s : Always U (λ W. type_of W k ≡ type_of W f.part) = λ W c. t W c ∙ ap (λ (x : Field). type_of W x.part) (sym e) in
    subst (λ j. AreBounded S limit (take j fs) U new) one (subst (λ l. AreBounded S limit l U new) (sym (take-more fs i f lt e))
    (subst (AreBounded S limit (take i fs ++ f ∷ []) U) (sym w) (more-bounded S T U limit (take i fs) f ks k h g n is l s)))

-- a row in order is fit

first-before : (l : Label) (ls : List Label) (k : Label) → ascend (l ∷ ls) ≡ true → Among k ls → label_before l k ≡ true
first-before l [] k e h = absurd h
first-before l (j ∷ js) k e (inl q) = subst (λ x. label_before l x ≡ true) (sym q) (and_parts (label_before l j) (ascend (j ∷ js)) e).0
first-before l (j ∷ js) k e (inr h) =
    let p = and_parts (label_before l j) (ascend (j ∷ js)) e in before-trans l j k p.0 (first-before j js k p.1 h)

rest-ascends : (l : Label) (ls : List Label) → ascend (l ∷ ls) ≡ true → ascend ls ≡ true
rest-ascends l [] e = refl
rest-ascends l (j ∷ js) e = (and_parts (label_before l j) (ascend (j ∷ js)) e).1

in-order-proper : (ts : List Typ) (ls : List Label) (ks : List ℕ) → ascend ls ≡ true → length ls ≡ length ks → IsProper ls (types_at ts ks)
in-order-proper ts [] [] e n = tt
in-order-proper ts [] (k ∷ ks) e n = cc
in-order-proper ts (l ∷ ls) [] e n = cc
in-order-proper ts (l ∷ ls) (k ∷ ks) e n =
    ((λ a. before-apart l l (first-before l ls l e a) refl), in-order-proper ts ls ks (rest-ascends l ls e) (omega (arith, n)))

pub row-fits : (S T : State) (limit : Limit) (ys : List Field) (row : Row) → AreBounded S limit ys T row.types.items → row.labels.items ≡ map (λ f. f.label) ys
    → ascend (map (λ f. f.label) ys) ≡ true → IsFitRow (made T) (row_in (types_in T) row)
row-fits S T limit ys row b e up = record {
  below = parts-below T row.types.items b.are;
  proper =
      in-order-proper (types_in T) row.labels.items row.types.items (ap ascend e ∙ up) (ap length e ∙ length-map ys (λ (f : Field). f.label) ∙ sym b.count);
}

-- the fields one by one

pub part-held : (S : State) (fs : List Field) (i : ℕ) (d : Field) → i < length fs → AllByRecursion (λ f. HasType S f.part) fs → HasType S (get_or fs i d).part
part-held S [] i d lt h = absurd (omega (arith, lt))
part-held S (f ∷ fs) zero d lt h = h.0
part-held S (f ∷ fs) (suc i) d lt h = part-held S fs i d (omega (arith, lt)) h.1

take-all : (xs : List Field) (i : ℕ) → length xs ≤ i → take i xs ≡ xs
take-all [] zero le = refl
take-all [] (suc i) le = refl
take-all (x ∷ xs) zero le = absurd (omega (arith, le))
take-all (x ∷ xs) (suc i) le = ap (λ l. x ∷ l) (take-all xs i (omega (arith, le)))

pub all-bounded : (S T : State) (limit : Limit) (fs : List Field) (i : ℕ) (ks : List ℕ) → length fs ≤ i → AreBounded S limit (take i fs) T ks → AreBounded S limit fs T ks
all-bounded S T limit fs i ks le h = subst (λ l. AreBounded S limit l T ks) (take-all fs i le) h
