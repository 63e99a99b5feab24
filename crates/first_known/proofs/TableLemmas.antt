-- What is asked of tables, along their rows.
use Rattle.std.proofs.Common.{◌≡◌, ◌↔◌, ℕ, zero, suc, ◌+◌, ◌-◌, ◌<◌, ◌≤◌, Bool, true, false, ◌&&◌, List, [], ◌∷◌, map, length, take, get_or, nat_lt, nat_eq, IsTrue, refl, sym, ap, ◌∙◌, subst, arith}
use Rattle.std.proofs.lemmas.Bool.{eqb-true, eq-eqb}
use Rattle.std.specs.List.{AllByRecursion}
use Rattle.first_values.specs.Equality as e
use Rattle.first_values.specs.WellFormed.{IsShape, Rise, AreTables}
use Rattle.first_tables.specs.TablesOf.{items_of, member_of, set_of, shape_of, tables_of}
use Rattle.first_tables.specs.declared.tables.Shape.{Shape}
use Rattle.first_tables.specs.declared.tables.Shape.TheVariants.{Numbers, Texts, Cells, References, Opaque}
use Rattle.first_tables.specs.declared.tables.Member.{Member}
use Rattle.first_tables.specs.declared.tables.Tables.{Tables}
use Rattle.first_known.specs.Rows.{IsBelow, ShapeBelow}
use Rattle.first_known.proofs.Flags.{both-is, iff-along}

rise-next : (xs : List Member) (j : ℕ) (d e : Member) → suc j < length xs
    → (Rise (map member_of (take (suc j) xs)) × (nat_lt (get_or xs j d).tag (get_or xs (suc j) e).tag ≡ true)) ↔ Rise (map member_of (take (suc (suc j)) xs))
rise-next [] j d e lt = absurd (omega (arith, lt))
rise-next (x ∷ []) j d e lt = absurd (omega (arith, lt))
rise-next (x ∷ y ∷ ys) zero d e lt = (λ w. (w.1, w.0), λ w. (w.1, w.0))
rise-next (x ∷ y ∷ ys) (suc j) d e lt = let r = rise-next (y ∷ ys) j d e (omega (arith, lt)) in (λ w. (w.0.0, r.0 (w.0.1, w.1)), λ w. let s = r.1 w.1 in ((w.0, s.0), s.1))

pub rise-more : (xs : List Member) (i : ℕ) (d e : Member) (all c : Bool) → 1 ≤ i → i < length xs → IsTrue all ↔ Rise (map member_of (take i xs))
    → c ≡ (all && nat_lt (get_or xs (i - 1) d).tag (get_or xs i e).tag) → IsTrue c ↔ Rise (map member_of (take (i + 1) xs))
rise-more xs zero d e all c le lt h k = absurd (omega (arith, le))
rise-more xs (suc j) d e all c le lt h k =
    let a : suc j - 1 ≡ j = omega arith in
    let b : suc j + 1 ≡ suc (suc j) = omega arith in
    subst (λ n. IsTrue c ↔ Rise (map member_of (take n xs))) (sym b)
    (iff-along c (rise-next xs j d e lt)
    (both-is c all (nat_lt (get_or xs j d).tag (get_or xs (suc j) e).tag) (k ∙ ap (λ n. all && nat_lt (get_or xs n d).tag (get_or xs (suc j) e).tag) a) h ((λ t. t), (λ t. t))))

shape-same : (types : List e.Shape) (s : Shape) → ShapeBelow (length types) s ↔ IsShape types (shape_of s)
shape-same types Numbers = (λ w. w, λ w. w)
shape-same types Texts = (λ w. w, λ w. w)
shape-same types (Cells parts) = (λ w. w, λ w. w)
shape-same types References = (λ w. w, λ w. w)
shape-same types Opaque = (λ w. w, λ w. w)

length-mapped : {A B : Type 0} (f : A → B) (xs : List A) → length (map f xs) ≡ length xs
length-mapped f [] = refl
length-mapped f (x ∷ xs) = ap suc (length-mapped f xs)

shapes-same : (types : List e.Shape) (ss : List Shape) → AllByRecursion (ShapeBelow (length types)) ss ↔ AllByRecursion (IsShape types) (map shape_of ss)
shapes-same types [] = (λ w. w, λ w. w)
shapes-same types (s ∷ ss) = let r = shapes-same types ss in let q = shape-same types s in (λ w. (q.0 w.0, r.0 w.1), λ w. (q.1 w.0, r.1 w.1))

all-shapes : (ss : List Shape) → AllByRecursion (ShapeBelow (length ss)) ss ↔ AllByRecursion (IsShape (map shape_of ss)) (map shape_of ss)
all-shapes ss = subst (λ n. AllByRecursion (ShapeBelow n) ss ↔ AllByRecursion (IsShape (map shape_of ss)) (map shape_of ss)) (length-mapped shape_of ss) (shapes-same (map shape_of ss) ss)

seven : (n : ℕ) → IsTrue (nat_eq n 7) ↔ (n ≡ 7)
seven n = (λ t. eqb-true n 7 t, λ e. eq-eqb n 7 e)

pub tables-are : (t : Tables) (n m : ℕ) (b s r c x y : Bool) → n ≡ length t.initial.items → IsTrue b ↔ AllByRecursion (AllByRecursion (IsBelow 256)) (map items_of t.strings.items)
    → m ≡ length t.types.items → IsTrue s ↔ AllByRecursion (ShapeBelow m) t.types.items → IsTrue r ↔ AllByRecursion Rise (map set_of t.sets.items)
    → x ≡ (nat_eq n 7 && b) → y ≡ (s && r) → c ≡ (x && y) → IsTrue c ↔ AreTables (tables_of t)
tables-are t n m b s r c x y en hb em hs hr ex ey ec =
    let i : IsTrue (nat_eq n 7) ↔ (length t.initial.items ≡ 7) = subst (λ k. IsTrue (nat_eq n 7) ↔ (k ≡ 7)) en (seven n) in
    let ts = iff-along s (all-shapes t.types.items) (subst (λ k. IsTrue s ↔ AllByRecursion (ShapeBelow k) t.types.items) em hs) in
    let w = both-is c x y ec (both-is x (nat_eq n 7) b ex i hb) (both-is y s r ey ts hr) in
    (λ q. let v = w.0 q in record { initial = v.0.0; strings = v.0.1; types = v.1.0; sets = v.1.1 }, λ v. w.1 ((v.initial, v.strings), (v.types, v.sets)))
