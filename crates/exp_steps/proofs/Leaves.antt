-- Expressions of one operation.
use Rattle.std.proofs.Common.{◌≡◌, ◌<◌, ◌≤◌, ℕ, zero, suc, ◌+◌, List, [], ◌∷◌, ◌++◌, map, length, take, slice_index_or, slice_get, Some, refl, sym, ap, ap₂, ◌∙◌, arith}
use Rattle.std.proofs.lemmas.List.{map-append}
use Rattle.mlc_base.specs.declared.place.Place.{Place}
use Rattle.mlc_prims.specs.declared.basis.BasisPrimitive.{BasisPrimitive}
use Rattle.ir_plain.specs.Tree as te
use Rattle.ir_poly.specs.Prog as t
use Rattle.ir_poly.specs.Tests.{Tests, poly, inst}
use Rattle.ty_core.specs.Types.{Typ, con, name, more, typs_of}
use Rattle.ty_core.specs.declared.name.TyName.{TyName}
use Rattle.ty_core.specs.Statics.{replace, replace_all}
use Rattle.ty_table.specs.TypeAt.{type_at, types_at, AllBelow}
use Rattle.match_compile.specs.Compile.{making, value_at, put, scoped, all_scoped, standing, used_at, Built, along, Way, by_call}
use Rattle.plain_tree.specs.declared.tree.Step.{Step}
use Rattle.prog_tree.specs.TreeOf.{Reading, exc_of}
use Rattle.prog_tree.specs.declared.tree.Exception.{Exception}
use Rattle.prog_tree.specs.declared.tree.Atom.TheVariants as atoms
use Rattle.match_names.specs.Bindings.{names_of}
use Rattle.match_steps.specs.of_match_types.Views.{View, Sees, Keeps, Stands}
use Rattle.match_steps.specs.of_match_types.declared.work.ValueType.TheVariants.{Source}
use Rattle.match_steps.specs.of_match_types.declared.work.Work.{Work}
use Rattle.match_steps.proofs.of_match_types.Seeing.{keeps-on, sees-before, earlier-stays, stands-at, held-within, held-is}
use Rattle.match_steps.specs.Steps.{Puts}
use Rattle.match_steps.specs.Made.{naming}
use Rattle.match_steps.proofs.Pushed.{two-puts, puts-as}
use Rattle.exp_steps.specs.Making.{Makes, putting}
use Rattle.exp_steps.specs.Made.{atomic, in_turn}

-- an operation alone
pub alone : {w0 w1 : Work} {b a : List Step} {u n : ℕ} {e : Reading → t.Exp} {g : View → te.Op poly} → Keeps w0 w1 → n ≡ w0.next → w1.next ≡ suc w0.next → Puts w1 b a (putting (Source u) w0.next g)
    → ((R : Reading) (m : ℕ) → value_at (e R) m ≡ m)
    → ((v : View) (m : ℕ) (rest : Tests) → put v.scope m (v.source.type u) (g v) rest ≡ making v.scope v.names (e v.source) m rest) → Makes w0 w1 b a e n
alone {w0 = w0} {e = e} k is next puts at same = record {
  keeps = k;
  is = λ v s. at v.source w0.next ∙ sym is;
  next = next ∙ ap suc (sym is);
  puts = puts-as (λ v rest. making v.scope v.names (e v.source) w0.next rest) (λ v s rest. same v w0.next rest) puts;
}

-- an operation on the value of a part
pub after-one : {w w0 w1 : Work} {s b a : List Step} {u n x : ℕ} {d e : Reading → t.Exp} (g : ℕ → View → te.Op poly) → Makes w w0 s b d x → Keeps w0 w1 → n ≡ w0.next → w1.next ≡ suc w0.next
    → Puts w1 b a (putting (Source u) w0.next (g x)) → ((R : Reading) (m : ℕ) → value_at (e R) m ≡ suc (value_at (d R) m))
    → ((v : View) (m : ℕ) (rest : Tests) → making v.scope v.names (d v.source) m (put v.scope (suc (value_at (d v.source) m)) (v.source.type u) (g (value_at (d v.source) m) v) rest)
    ≡ making v.scope v.names (e v.source) m rest) → Makes w w1 s a e n
after-one {w = w} {w0 = w0} {w1 = w1} {s = s} {b = b} {a = a} {u = u} {n = n} {x = x} {d = d} {e = e} g p k is next puts at same = record {
  keeps = keeps-on w w0 w1 p.keeps k;
  is = λ v sees. at v.source w.next ∙ ap suc (p.is v (sees-before w0 w1 v k sees)) ∙ sym (is ∙ p.next);
  next = next ∙ ap suc (sym is);
  puts = puts-as (λ v rest. making v.scope v.names (e v.source) w.next rest)
      (λ v sees rest.
      ap₂ (λ y z. making v.scope v.names (d v.source) w.next (put v.scope y (v.source.type u) (g z v) rest))
      (p.next ∙ ap suc (sym (p.is v (sees-before w0 w1 v k sees)))) (sym (p.is v (sees-before w0 w1 v k sees)))
      ∙ same v w.next rest)
      (two-puts w0 w1 s b a (λ v rest. making v.scope v.names (d v.source) w.next rest) (putting (Source u) w0.next (g x)) k p.puts puts);
}

-- an operation on the values of two parts
pub after-two : {w v w0 w1 : Work} {s m b a : List Step} {u n x y : ℕ} {f d e : Reading → t.Exp} (g : ℕ → ℕ → View → te.Op poly) → Makes w v s m f x → Makes v w0 m b d y → Keeps w0 w1 → n ≡ w0.next
    → w1.next ≡ suc w0.next → Puts w1 b a (putting (Source u) w0.next (g x y)) → ((R : Reading) (k : ℕ) → value_at (e R) k ≡ suc (value_at (d R) (suc (value_at (f R) k))))
    → ((o : View) (k : ℕ) (rest : Tests)
    → making o.scope o.names (f o.source) k (making o.scope o.names (d o.source) (suc (value_at (f o.source) k))
    (put o.scope (suc (value_at (d o.source) (suc (value_at (f o.source) k)))) (o.source.type u) (g (value_at (f o.source) k) (value_at (d o.source) (suc (value_at (f o.source) k))) o) rest))
    ≡ making o.scope o.names (e o.source) k rest) → Makes w w1 s a e n
after-two {w = w} {v = v} {w0 = w0} {w1 = w1} {s = s} {m = m} {b = b} {a = a} {u = u} {n = n} {x = x} {y = y} {f = f} {d = d} {e = e} g p q k is next puts at same = record {
  keeps = keeps-on w w0 w1 (keeps-on w v w0 p.keeps q.keeps) k;
  is = λ o sees.
      at o.source w.next ∙ ap (λ i. suc (value_at (d o.source) (suc i))) (first o sees) ∙ ap (λ i. suc (value_at (d o.source) i)) (sym p.next) ∙ ap suc (second o sees) ∙ sym (is ∙ q.next);
  next = next ∙ ap suc (sym is);
  puts = puts-as (λ o rest. making o.scope o.names (e o.source) w.next rest)
      (λ o sees rest.
      ap (λ i. made o x i y w0.next rest) p.next
      ∙ ap₂ (λ i j. made o i (suc i) j w0.next rest) (sym (first o sees)) (sym (later o sees))
      ∙ ap (λ j. made o (value_at (f o.source) w.next) (suc (value_at (f o.source) w.next)) (value_at (d o.source) (suc (value_at (f o.source) w.next))) j rest) (q.next ∙ ap suc (sym (later o sees)))
      ∙ same o w.next rest)
      (two-puts v w1 s m a (λ o rest. making o.scope o.names (f o.source) w.next rest) (λ o rest. making o.scope o.names (d o.source) v.next (putting (Source u) w0.next (g x y) o rest)) (keeps-on v w0 w1 q.keeps k) p.puts
      (two-puts w0 w1 m b a (λ o rest. making o.scope o.names (d o.source) v.next rest) (putting (Source u) w0.next (g x y)) k q.puts puts));
}
  where
    made : View → (i k j l : ℕ) → Tests → Tests
    made o i k j l rest = making o.scope o.names (f o.source) w.next (making o.scope o.names (d o.source) k (put o.scope l (o.source.type u) (g i j o) rest))

    first : (o : View) → Sees w1 o → value_at (f o.source) w.next ≡ x
    first o sees = p.is o (sees-before v w1 o (keeps-on v w0 w1 q.keeps k) sees)

    second : (o : View) → Sees w1 o → value_at (d o.source) v.next ≡ y
    second o sees = q.is o (sees-before w0 w1 o k sees)

    later : (o : View) → Sees w1 o → value_at (d o.source) (suc (value_at (f o.source) w.next)) ≡ y
    later o sees = ap (λ i. value_at (d o.source) (suc i)) (first o sees) ∙ ap (value_at (d o.source)) (sym p.next) ∙ second o sees

-- an expression whose value is dropped, and then another
pub then-makes : {w v w1 : Work} {s m a : List Step} {x y : ℕ} {d e : Reading → t.Exp} (place : Place) (u : ℕ) → Makes w v s m d x → Makes v w1 m a e y → Makes w w1 s a (in_turn place u d e) y
then-makes {w = w} {v = v} {w1 = w1} {s = s} {m = m} {a = a} {x = x} {y = y} {d = d} {e = e} place u p q = record {
  keeps = keeps-on w v w1 p.keeps q.keeps;
  is = λ o sees. ap (value_at (e o.source)) (number o sees) ∙ q.is o sees;
  next = q.next;
  puts = puts-as (λ o rest. making o.scope o.names (in_turn place u d e o.source) w.next rest)
      (λ o sees rest. ap (λ i. making o.scope o.names (d o.source) w.next (making o.scope o.names (e o.source) i rest)) (sym (number o sees)))
      (two-puts v w1 s m a (λ o rest. making o.scope o.names (d o.source) w.next rest) (λ o rest. making o.scope o.names (e o.source) v.next rest) q.keeps p.puts q.puts);
}
  where
    number : (o : View) → Sees w1 o → suc (value_at (d o.source) w.next) ≡ v.next
    number o sees = ap suc (p.is o (sees-before v w1 o q.keeps sees)) ∙ sym p.next

pub types-more : (v : View) (made ks : List ℕ) (i k : ℕ) → i < length ks → map (type_at v.types) made ≡ all_scoped v.scope (map v.source.type (take i ks))
    → type_at v.types k ≡ scoped v.scope (v.source.type (slice_index_or ks i 0)) → map (type_at v.types) (made ++ k ∷ []) ≡ all_scoped v.scope (map v.source.type (take (i + 1) ks))
types-more v made ks i k lt e is =
    map-append (type_at v.types) made (k ∷ []) ∙ ap₂ (λ xs x. xs ++ x ∷ []) e is ∙ sym (ap (λ l. all_scoped v.scope (map v.source.type l)) (next-number ks i lt) ∙ append-scoped (take i ks) (slice_index_or ks i 0))
  where
    next-number : (xs : List ℕ) (i : ℕ) → i < length xs → take (i + 1) xs ≡ take i xs ++ slice_index_or xs i 0 ∷ []
    next-number xs i lt = ap (λ n. take n xs) (let e : i + 1 ≡ suc i = omega arith in e) ∙ go xs i lt
      where
        go : (xs : List ℕ) (i : ℕ) → i < length xs → take (suc i) xs ≡ take i xs ++ slice_index_or xs i 0 ∷ []
        go [] i lt = absurd (omega arith)
        go (x ∷ xs) zero lt = refl
        go (x ∷ xs) (suc i) lt = ap (λ l. x ∷ l) (go xs i (omega arith))

    append-scoped : (xs : List ℕ) (x : ℕ) → all_scoped v.scope (map v.source.type (xs ++ x ∷ [])) ≡ all_scoped v.scope (map v.source.type xs) ++ scoped v.scope (v.source.type x) ∷ []
    append-scoped [] x = refl
    append-scoped (y ∷ xs) x = ap (λ l. scoped v.scope (v.source.type y) ∷ l) (append-scoped xs x)

pub types-all : (v : View) (ks : List ℕ) (n : ℕ) → length ks ≤ n → all_scoped v.scope (map v.source.type (take n ks)) ≡ all_scoped v.scope (map v.source.type ks)
types-all v ks n le = ap (λ l. all_scoped v.scope (map v.source.type l)) (all ks n le)
  where
    all : (xs : List ℕ) (n : ℕ) → length xs ≤ n → take n xs ≡ xs
    all [] zero le = refl
    all [] (suc n) le = refl
    all (x ∷ xs) zero le = absurd (omega arith)
    all (x ∷ xs) (suc n) le = ap (λ l. x ∷ l) (all xs n (omega arith))

-- what was done before without steps or numbers
pub earlier : {w0 w1 w2 : Work} {s a : List Step} {e : Reading → t.Exp} {n : ℕ} → Keeps w0 w1 → w1.next ≡ w0.next → Makes w1 w2 s a e n → Makes w0 w2 s a e n
earlier {w0 = w0} {w1 = w1} {w2 = w2} {e = e} k same m = record {
  keeps = keeps-on w0 w1 w2 k m.keeps;
  is = λ v sees. ap (value_at (e v.source)) (sym same) ∙ m.is v sees;
  next = m.next;
  puts = puts-as (λ v rest. making v.scope v.names (e v.source) w0.next rest) (λ v sees rest. ap (λ i. making v.scope v.names (e v.source) i rest) same) m.puts;
}

-- an exception's name, and then its value
pub named-leaf : {w0 w1 w2 : Work} {s b a : List Step} {u held n : ℕ} (x : Exception) → Keeps w0 w1 → held ≡ w0.next → w1.next ≡ suc w0.next → Puts w1 s b (naming x w0.next) → Keeps w1 w2 → n ≡ w1.next
    → w2.next ≡ suc w1.next → Puts w2 b a (putting (Source u) w1.next (λ v. te.use_of (inst held []))) → Makes w0 w2 s a (atomic (atoms.Exception x) u) n
named-leaf {w0 = w0} {w1 = w1} {w2 = w2} {s = s} {b = b} {a = a} {u = u} {held = held} x k is1 next1 p l is2 next2 q = record {
  keeps = keeps-on w0 w1 w2 k l;
  is = λ v sees. sym (is2 ∙ next1);
  next = next2 ∙ ap suc (sym is2);
  puts = puts-as (λ v rest. making v.scope v.names (t.exn_exp (exc_of x) (v.source.type u)) w0.next rest)
      (λ v sees rest. ap₂ (λ i j. naming x w0.next v (put v.scope i (v.source.type u) (te.use_of (inst j [])) rest)) next1 is1)
      (two-puts w1 w2 s b a (naming x w0.next) (putting (Source u) w1.next (λ v. te.use_of (inst held []))) l p q);
}

-- the number of a variable, wherever the work is seen
pub number-seen : {w0 w1 : Work} (v : View) (x n : ℕ) → Keeps w0 w1 → Sees w1 v → n ≡ names_of w0.names x → n ≡ v.names x
number-seen v x n k s e = e ∙ ap (λ l. names_of l x) (sym k.names) ∙ ap (λ N. N x) (sym s.same_names)

pub map-stays : (ts us : List Typ) (ks : List ℕ) → take (length ts) us ≡ ts → AllBelow (length ts) ks → map (type_at us) ks ≡ map (type_at ts) ks
map-stays ts us [] e h = refl
map-stays ts us (k ∷ ks) e h = ap₂ (λ x xs. x ∷ xs) (earlier-stays ts us k e h.0) (map-stays ts us ks e h.1)

pub replace-typs : (f : ℕ → Typ) (ts : List Typ) → replace_all f (typs_of ts) ≡ typs_of (map (replace f) ts)
replace-typs f [] = refl
replace-typs f (t ∷ ts) = ap (more (replace f t)) (replace-typs f ts)

pub used-first : (f : ℕ → Typ) (ks : List ℕ) → 0 < length ks → used_at (map f ks) ≡ f (slice_index_or ks 0 0)
used-first f [] lt = absurd (omega arith)
used-first f (k ∷ ks) lt = refl

pub along-call : {A : Type 0} (w : Way) (x : A) (g : Built → A) (h : BasisPrimitive → Typ → A) → w ≡ by_call → along w x g h ≡ x
along-call w x g h e = ap (λ y. along y x g h) e

-- a type name with types over the parameters in scope
pub named-stands : (w1 w : Work) (k : ℕ) (y : TyName) (ks ts : List ℕ) → Keeps w1 w → ((v : View) → Sees w1 v → map (type_at v.types) ks ≡ all_scoped v.scope (map v.source.type ts)) → AllBelow (length w1.tables.types) ks
    → slice_get w.tables.types k ≡ Some (con (name y) (types_at w1.tables.types ks)) → Stands w k (λ v. scoped v.scope (con (name y) (typs_of (map v.source.type ts))))
named-stands w1 w k y ks ts h is below held v s =
    let s1 : Sees w1 v = sees-before w1 w v h s in
    stands-at w v k s (held-within w.tables.types k (con (name y) (types_at w1.tables.types ks)) held) ∙ held-is w.tables.types k (con (name y) (types_at w1.tables.types ks)) held
    ∙ ap (λ us. con (name y) (typs_of us)) (sym (map-stays w1.tables.types v.types ks s1.grown below) ∙ is v s1) ∙ ap (con (name y)) (sym (replace-typs (standing v.scope) (map v.source.type ts)))
