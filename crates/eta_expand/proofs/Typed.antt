-- The expansion is typed as the program is.
use Rattle.std.proofs.Common.{◌≡◌, ℕ, suc, ◌+◌, ◌<◌, Bool, true, false, List, [], ◌∷◌, Some, if◌then◌else◌, refl, sym, ap, subst, ◌∙◌, arith}
use Rattle.mlc_names.specs.declared.label.Label.{Label}
use Rattle.mlc_names.specs.declared.label.Label.TheVariants.{Number}
use Rattle.mlc_prims.specs.declared.basis.BasisPrimitive.{BasisPrimitive}
use Rattle.ty_core.specs.Types.{labels, Typ, typs_of}
use Rattle.ir_plain.specs.Tree.{Arms, Op, fn, Fun, Funs}
use Rattle.ir_poly.specs.Types.{prim_type}
use Rattle.ir_mono.specs.Types as table
use Rattle.ir_mono.specs.Types.{node_at, part, Is, IsFunction, IsExn, AllStand, stand_none, stand_more, numbered, IsTuple, nothing, alone, together}
use Rattle.ir_mono.specs.Mono.{mono}
use Rattle.ir_mono.specs.Typing as tt
use Rattle.ir_mono.specs.Typing.{Sort, of_type, exception, Sorts, sort_of, group_sorts, PrimAt, packet_at, to_packets_at, value_at, function_at, AtomsTyped, no_atoms_typed, an_atom_typed, held_typed, FunTyped, t_last, t_more, FunsTyped, t_no_funs, t_fun}
use Rattle.eta_expand.specs.Expand.{Names, takes_at, gives_at, parts_at, is_single, E, gives_it, constructing, referring, packing, selecting, atoms_from, performing, used_as, alone_as, case_names, group_names, news, op_news, fun_news, funs_news, expand, expand_arms, expand_op, expand_fun, expand_funs}
use Rattle.eta_expand.proofs.Known.{number-same, apart as apart-numbers, sort-here, sort-under, takes_sort, Knows, knows-more, knows-value, knows-name, knows-case, knows-group, sorts-same}

module _ (types : List table.Row) where
  -- the result of an operation
  it-typed : {m : Bool} {G : Sorts} {x t : ℕ} {o : Op (mono types)} → tt.OpTyped types G o t → tt.Typed types m G (gives_it types x t o) t
  it-typed {G = G} {x = x} {t = t} h = tt.t_let h (tt.t_ret (sort-here x (of_type t) G))

  constructing-typed : {G : Sorts} {c u a t : ℕ} (n : ℕ) → table.constructor_at types u c ≡ Some (Some a) → IsFunction types t a u → FunTyped types G (constructing types n c u a) t
  constructing-typed {G} {a = a} n e f = t_last f (it-typed (tt.t_construct e (sort-here n (of_type a) G)))

  referring-typed : {G : Sorts} {a r t : ℕ} (n : ℕ) → IsFunction types t a r → table.IsRef types r a → FunTyped types G (referring types n a r) t
  referring-typed {G} {a = a} n f e = t_last f (it-typed (tt.t_refer (sort-here n (of_type a) G) e))

  packing-typed : {G : Sorts} {a e t z : ℕ} (n : ℕ) → sort_of G z ≡ Some (exception (Some a)) → (z ≡ n → ⊥) → IsFunction types t a e → IsExn types e → FunTyped types G (packing types n a e z) t
  packing-typed {G} {a = a} {z = z} n s apart f i =
      let H : Sorts = (n, of_type a) ∷ G in
      t_last f (tt.t_name (held_typed (sort-under n z (of_type a) G apart ∙ s))
      (it-typed (tt.t_pack (sort-here (suc n) (exception (Some a)) H) (sort-under (suc n) n (exception (Some a)) H (λ q. omega (arith, q)) ∙ sort-here n (of_type a) G) i)))

  used-typed : {G : Sorts} {a e t x : ℕ} (n : ℕ) → sort_of G x ≡ Some (exception (Some a)) → IsFunction types t a e → IsExn types e → tt.OpTyped types G (used_as types true n t x) t
  used-typed {G} {a = a} {e = e} {t = t} {x = x} n s f i =
      tt.t_block (tt.t_name (held_typed s) (it-typed (tt.t_fn
      (subst (λ o. FunTyped types ((n, exception (Some a)) ∷ G) (packing types (suc (suc n)) (takes_at o) (gives_at o) n) t) (sym f) (packing-typed (suc (suc n)) (sort-here n (exception (Some a)) G) (λ q. omega (arith, q)) f i)))))

  -- the parts of a tuple
  data AllParts (ls : List Label) (ts : List ℕ) : ℕ → List ℕ → Type 0 where
    parts_none : {k : ℕ} → AllParts ls ts k []
    parts_more : {k q : ℕ} {qs : List ℕ} → part (Number k) ls ts ≡ Some q → AllParts ls ts (suc k) qs → AllParts ls ts k (q ∷ qs)

  further : {ls : List Label} {ts qs : List ℕ} (j t k : ℕ) → j < k → AllParts ls ts k qs → AllParts (Number j ∷ ls) (t ∷ ts) k qs
  further j t k h parts_none = parts_none
  further {ls} {ts} j t k h (parts_more {q = q} e r) =
      parts_more (ap (λ b. if b then Some t else part (Number k) ls ts) (apart-numbers k j (λ z. omega (arith, z, h))) ∙ e) (further j t (suc k) (omega (arith, h)) r)

  all-parts : (k : ℕ) (ts : List ℕ) → AllParts (numbered k ts) ts k ts
  all-parts k [] = parts_none
  all-parts k (t ∷ ts) = parts_more (ap (λ b. if b then Some t else part (Number k) (numbered (suc k) ts) ts) (number-same k)) (further k t (suc k) (omega arith) (all-parts (suc k) ts))

  -- with the parts
  abbrev with_parts : ℕ → List ℕ → Sorts → Sorts
  with_parts m [] G = G
  with_parts m (q ∷ qs) G = with_parts (suc m) qs ((m, of_type q) ∷ G)

  before-parts : (y m : ℕ) (qs : List ℕ) (G : Sorts) → y < m → sort_of (with_parts m qs G) y ≡ sort_of G y
  before-parts y m [] G h = refl
  before-parts y m (q ∷ qs) G h = before-parts y (suc m) qs ((m, of_type q) ∷ G) (omega (arith, h)) ∙ sort-under m y (of_type q) G (λ z. omega (arith, z, h))

  parts-typed : (m : ℕ) (qs : List ℕ) (G : Sorts) → AtomsTyped types (with_parts m qs G) (atoms_from types m qs) qs
  parts-typed m [] G = no_atoms_typed
  parts-typed m (q ∷ qs) G = an_atom_typed (before-parts m (suc m) qs ((m, of_type q) ∷ G) (omega arith) ∙ sort-here m (of_type q) G) (parts-typed (suc m) qs ((m, of_type q) ∷ G))

  selecting-typed : {ls : List Label} {ts : List ℕ} {a t : ℕ} {e : E types} (y k m : ℕ) (qs : List ℕ) (G : Sorts) → y < m → sort_of G y ≡ Some (of_type a) → Is types a (labels ls) ts → AllParts ls ts k qs → tt.Typed types false (with_parts m qs G) e t
      → tt.Typed types false G (selecting types a y k m qs e) t
  selecting-typed y k m [] G h s i p r = r
  selecting-typed {a = a} y k m (q ∷ qs) G h s i (parts_more e p) r =
      tt.t_let (tt.t_select s i e) (selecting-typed y (suc k) (suc m) qs ((m, of_type q) ∷ G) (omega (arith, h)) (sort-under m y (of_type q) G (λ z. omega (arith, z, h)) ∙ s) i p r)

  -- how many arguments there are
  pub single-of-one : {a : ℕ} (ts : List Typ) {f : ℕ → ℕ} → AllStand types f (a ∷ []) (typs_of ts) → is_single ts ≡ true
  single-of-one [] h = elim h [ ]
  single-of-one (t ∷ []) h = refl
  single-of-one (t ∷ u ∷ ts) (stand_more i h) = elim h [ ]

  pub single-of-none : (ts : List Typ) {f : ℕ → ℕ} → AllStand types f [] (typs_of ts) → is_single ts ≡ false
  single-of-none [] h = refl
  single-of-none (t ∷ ts) h = elim h [ ]

  pub single-of-more : {a b : ℕ} {ns : List ℕ} (ts : List Typ) {f : ℕ → ℕ} → AllStand types f (a ∷ b ∷ ns) (typs_of ts) → is_single ts ≡ false
  single-of-more [] h = elim h [ ]
  single-of-more (t ∷ []) (stand_more i h) = elim h [ ]
  single-of-more (t ∷ u ∷ ts) h = refl

  tuple-performing-typed : {G : Sorts} {p : BasisPrimitive} {u a r t : ℕ} {ns : List ℕ} (n : ℕ) → PrimAt types p u ns r → Is types a (labels (numbered 1 ns)) ns → IsFunction types t a r → FunTyped types G (performing types false n p u a r ns) t
  tuple-performing-typed {G} {a = a} {ns = ns} n q i f =
      t_last f (selecting-typed n 1 (suc n) ns ((n, of_type a) ∷ G) (omega arith) (sort-here n (of_type a) G) i (all-parts 1 ns) (it-typed (tt.t_prim q (parts-typed (suc n) ns ((n, of_type a) ∷ G)))))

  performing-typed : {G : Sorts} {p : BasisPrimitive} {u a r t : ℕ} {ns : List ℕ} (n : ℕ) → PrimAt types p u ns r → IsTuple types ns a → IsFunction types t a r
      → FunTyped types G (performing types (is_single (prim_type p).arguments) n p u a r (parts_at (node_at types a))) t
  performing-typed {G} {p} {u} {a} {r} {t} n q (nothing i) f =
      subst (λ o. FunTyped types G (performing types (is_single (prim_type p).arguments) n p u a r (parts_at o)) t) (sym i)
      (subst (λ b. FunTyped types G (performing types b n p u a r []) t) (sym (single-of-none (prim_type p).arguments q.arguments)) (tuple-performing-typed n q i f))
  performing-typed {G} {p} {u} {a} {r} {t} n q alone f =
      subst (λ b. FunTyped types G (performing types b n p u a r (parts_at (node_at types a))) t) (sym (single-of-one (prim_type p).arguments q.arguments))
      (t_last f (it-typed (tt.t_prim q (an_atom_typed (sort-here n (of_type a) G) no_atoms_typed))))
  performing-typed {G} {p} {u} {a} {r} {t} n q (together {a = b} {b = c} {ps = ps} i) f =
      subst (λ o. FunTyped types G (performing types (is_single (prim_type p).arguments) n p u a r (parts_at o)) t) (sym i)
      (subst (λ z. FunTyped types G (performing types z n p u a r (b ∷ c ∷ ps)) t) (sym (single-of-more (prim_type p).arguments q.arguments)) (tuple-performing-typed n q i f))

  mutual
    pub typed : {m : Bool} {N : Names} {G : Sorts} {e : E types} {t : ℕ} (n : ℕ) → Knows N G → tt.Typed types m G e t → tt.Typed types m G (expand types N n e) t
    typed n k (tt.t_ret e) = tt.t_ret e
    typed {N = N} n k (tt.t_let {x = x} {a = a} {o = o} h l) = tt.t_let (op-typed n k h) (typed (n + op_news types N a o) (knows-value x a k) l)
    typed n k (tt.t_exception {x = x} {a = a} l) = tt.t_exception (typed n (knows-more x _ (exception a) refl k) l)
    typed n k (tt.t_name {x = x} e l) = tt.t_name e (typed n (knows-name types x k e) l)
    typed {m} {N} {G} n k (tt.t_rec {fs = fs} {e = e} {t = t} h l) =
        let same : group_sorts types (expand_funs types (group_names types fs N) n fs) G ≡ group_sorts types fs G = sorts-same types fs (group_names types fs N) n G in
        let k' = knows-group types fs k in
        tt.t_rec (subst (λ H. FunsTyped types H (expand_funs types (group_names types fs N) n fs)) (sym same) (funs-typed n k' h))
        (subst (λ H. tt.Typed types m H (expand types (group_names types fs N) (n + funs_news types (group_names types fs N) fs) e) t) (sym same) (typed (n + funs_news types (group_names types fs N) fs) k' l))
    typed n k (tt.t_switch e arms) = tt.t_switch e (arms-typed n k arms)
    typed {N = N} n k (tt.t_first {e = e} h l) = tt.t_first (typed n k h) (typed (n + news types N e) k l)
    typed n k tt.t_miss = tt.t_miss
    typed n k (tt.t_counted l) = tt.t_counted (typed n k l)

    arms-typed : {N : Names} {G : Sorts} {arms : Arms (mono types)} {u t : ℕ} (n : ℕ) → Knows N G → tt.ArmsTyped types G arms u t → tt.ArmsTyped types G (expand_arms types N n arms) u t
    arms-typed n k tt.t_no_arms = tt.t_no_arms
    arms-typed {N} n k (tt.t_arm {c = c} {e = e} h l r) = tt.t_arm h (typed n (knows-case types k h) l) (arms-typed (n + news types (case_names types c N) e) k r)

    op-typed : {N : Names} {G : Sorts} {o : Op (mono types)} {t : ℕ} (n : ℕ) → Knows N G → tt.OpTyped types G o t → tt.OpTyped types G (expand_op types N n t o) t
    op-typed {G = G} n k (tt.t_use {x = x} {t = t} e) = subst (λ b. tt.OpTyped types G (used_as types b n t x) t) (sym (k.are x ∙ ap takes_sort e)) (tt.t_use e)
    op-typed {G = G} n k (tt.t_use_exception {x = x} {t = t} e (packet_at h)) = subst (λ b. tt.OpTyped types G (used_as types b n t x) t) (sym (k.are x ∙ ap takes_sort e)) (tt.t_use_exception e (packet_at h))
    op-typed {G = G} n k (tt.t_use_exception {x = x} {t = t} e (to_packets_at f i)) = subst (λ b. tt.OpTyped types G (used_as types b n t x) t) (sym (k.are x ∙ ap takes_sort e)) (used-typed n e f i)
    op-typed n k (tt.t_const h) = tt.t_const h
    op-typed {G = G} n k (tt.t_con_alone {c = c} {u = u} e value_at) = subst (λ o. tt.OpTyped types G (alone_as types o n c u) u) (sym e) (tt.t_con_alone e value_at)
    op-typed {G = G} n k (tt.t_con_alone {c = c} {u = u} {t = t} e (function_at f)) = subst (λ o. tt.OpTyped types G (alone_as types o n c u) t) (sym e) (tt.t_fn (constructing-typed n e f))
    op-typed n k (tt.t_construct e d) = tt.t_construct e d
    op-typed {G = G} n k (tt.t_ref_alone {a = a} {t = t} f i) = subst (λ o. tt.OpTyped types G (fn (referring types n a (gives_at o))) t) (sym f) (tt.t_fn (referring-typed n f i))
    op-typed n k (tt.t_refer e i) = tt.t_refer e i
    op-typed n k (tt.t_content e i) = tt.t_content e i
    op-typed n k (tt.t_pack e d i) = tt.t_pack e d i
    op-typed n k (tt.t_make_record r i d) = tt.t_make_record r i d
    op-typed n k (tt.t_select e i d) = tt.t_select e i d
    op-typed {G = G} n k (tt.t_prim_alone {p = p} {u = u} {t = t} q s f) =
        subst (λ o. tt.OpTyped types G (fn (performing types (is_single (prim_type p).arguments) n p u (takes_at o) (gives_at o) (parts_at (node_at types (takes_at o))))) t) (sym f) (tt.t_fn (performing-typed n q s f))
    op-typed n k (tt.t_prim a h) = tt.t_prim a h
    op-typed n k (tt.t_app e i d) = tt.t_app e i d
    op-typed n k (tt.t_fn h) = tt.t_fn (fun-typed n k h)
    op-typed n k (tt.t_block l) = tt.t_block (typed n k l)
    op-typed {N} n k (tt.t_handle {e = e} {x = x} {n = t} l i r) = tt.t_handle (typed n k l) i (typed (n + news types N e) (knows-value x t k) r)
    op-typed n k (tt.t_raise e i) = tt.t_raise e i
    op-typed n k (tt.t_raise_initial e) = tt.t_raise_initial e

    fun-typed : {N : Names} {G : Sorts} {f : Fun (mono types)} {t : ℕ} (n : ℕ) → Knows N G → FunTyped types G f t → FunTyped types G (expand_fun types N n f) t
    fun-typed n k (t_last {x = x} {a = a} i h) = t_last i (typed n (knows-value x a k) h)
    fun-typed n k (t_more {x = x} {a = a} i h) = t_more i (fun-typed n (knows-value x a k) h)

    funs-typed : {N : Names} {G : Sorts} {fs : Funs (mono types)} (n : ℕ) → Knows N G → FunsTyped types G fs → FunsTyped types G (expand_funs types N n fs)
    funs-typed n k t_no_funs = t_no_funs
    funs-typed {N} n k (t_fun {f = f} h r) = t_fun (fun-typed n k h) (funs-typed (n + fun_news types N f) k r)
