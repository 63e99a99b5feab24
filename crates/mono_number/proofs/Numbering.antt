-- The words of each part become those of the part with numbers; then the part ends.
use Rattle.std.proofs.Common.{◌≡◌, ℕ, suc, ◌+◌, List, [], ◌∷◌, refl, ap, ap₂, ◌∙◌, arith}
use Rattle.ty_core.specs.Types.{Typ}
use Rattle.ir_plain.specs.Once.{arms_times, case_times, funs_times}
use Rattle.ir_plain.specs.Tree.{Case, is_literal, is_con, is_con_of, is_exn, is_exn_of, is_record, Atoms, no_atoms, an_atom, Row, no_row, a_row, Exp, ret, let_in, exception_in, name_in, rec_in, switch, first, miss, counted, Arms, no_arms, arm, Op, use_of, const, con_alone, construct, ref_alone, refer, content, pack, make_record, select, prim_alone, prim, app, fn, block, handle, raise, raise_initial, Fun, last, more, Funs, no_funs, fun}
use Rattle.ir_mono.specs.Types as table
use Rattle.monomorphise.specs.Monomorphise.{Name, Named}
use Rattle.monomorphise.specs.Number.{Given, none_given, given, number_of, each_one, binders, op_binders, fun_binders, heads, bodies, group_given, case_given, case_next, number_atoms, number_row, number_name, number_argument, number_case, number, number_arms, number_op, number_fun, number_funs}
use Rattle.mono_read.specs.of_mono_words.Words as named
use Rattle.mono_read.specs.Words as made
use Rattle.mono_number.specs.Walking.{Frame, in_attempt, in_arms, in_let, in_handled, in_heads, in_bodies, Standing, at, head_count, heads_given, Made, bodies_left, ended, closed, along}

zero-right : (b : ℕ) → b ≡ b + 0
zero-right b = omega arith

case-next : (b : ℕ) (c : Case Named) → case_next b c ≡ b + case_times each_one c
case-next b (is_literal l) = omega arith
case-next b (is_con c) = omega arith
case-next b (is_con_of c k t) = omega arith
case-next b (is_exn j) = omega arith
case-next b (is_exn_of j k t) = omega arith
case-next b (is_record size) = omega arith

-- the functions of a group are seen ahead

heads-seen : (fs : Funs Named) (ws : List named.Sign) → head_count (named.spell_heads fs ws) ≡ heads fs
heads-seen no_funs ws = refl
heads-seen (fun k t f fs) ws = ap suc (heads-seen fs ws)

group-seen : (b : ℕ) (fs : Funs Named) (ws : List named.Sign) (g : Given) → heads_given b (named.spell_heads fs ws) g ≡ group_given b fs g
group-seen b no_funs ws g = refl
group-seen b (fun k t f fs) ws g = ap₂ (λ n h. given k (b + n) h) (heads-seen fs ws) (group-seen b fs ws g)

group-times : (fs : Funs Named) → heads fs + bodies fs ≡ funs_times each_one fs
group-times no_funs = refl
group-times (fun k t f fs) = let r = group-times fs in omega (arith, r)

-- the numbers of a group, and of what follows it
group-counted : (b : ℕ) (fs : Funs Named) (x : ℕ) → ((b + heads fs) + bodies fs) + x ≡ b + (funs_times each_one fs + x)
group-counted b fs x = let r = group-times fs in omega (arith, r)

module _ (types : List table.Row) (index : Typ → ℕ) where
  abbrev W : Type 0
  W = List named.Sign

  abbrev M : Type 0
  M = Made types index

  abbrev go : W → Standing → M
  go = along types index

  abbrev end : ℕ → List Frame → (Standing → M) → M
  end = ended types index

  row-numbered : (row : Row Named) (ws : W) (g : Given) (b : ℕ) (fr : List Frame) → go (named.spell_row row ws) (at g b fr) ≡ made.spell_row (number_row types index g row) (closed types index g b fr (go ws))
  row-numbered no_row ws g b fr = refl
  row-numbered (a_row l k row) ws g b fr = ap (λ r. made.field_sign l (number_of k g) ∷ r) (row-numbered row ws g b fr)

  atoms-numbered : (as_ : Atoms Named) (ws : W) (g : Given) (b : ℕ) (fr : List Frame) → go (named.spell_atoms as_ ws) (at g b fr) ≡ made.spell_atoms (number_atoms types index g as_) (closed types index g b fr (go ws))
  atoms-numbered no_atoms ws g b fr = refl
  atoms-numbered (an_atom k as_) ws g b fr = ap (λ r. made.argument_sign (number_of k g) ∷ r) (atoms-numbered as_ ws g b fr)

  heads-numbered : (fs : Funs Named) (ws : W) (g h : Given) (b c n : ℕ) (fr : List Frame)
      → go (named.spell_heads fs ws) (at g b (in_heads n (heads fs) ∷ fr)) ≡ made.spell_heads (number_funs types index h b c fs) (go ws (at g (b + n) (bodies_left types index n g fr)))
  heads-numbered no_funs ws g h b c n fr = refl
  heads-numbered (fun k t f fs) ws g h b c n fr = ap (λ r. made.function_sign (b + heads fs) (index t) ∷ r) (heads-numbered fs ws g h b (c + fun_binders f) n fr)

  mutual
    exp-numbered : (e : Exp Named) (ws : W) (g : Given) (b : ℕ) (fr : List Frame) → go (named.spell e ws) (at g b fr) ≡ made.spell (number types index g b e) (end (b + binders e) fr (go ws))
    exp-numbered (ret k) ws g b fr = ap (λ n. made.ret_sign (number_of k g) ∷ end n fr (go ws)) (zero-right b)
    exp-numbered (let_in k u t o e) ws g b fr =
        let c = b + op_binders o in
        let n : suc c + binders e ≡ b + binders (let_in k u t o e) = omega arith in
        op-numbered o (named.spell e ws) g b k t g fr
        ∙ ap (λ r. made.spell_op (number_op types index g b o) (made.let_sign c (index t) ∷ r)) (exp-numbered e ws (given k c g) (suc c) fr)
        ∙ ap (λ n. made.spell (number types index g b (let_in k u t o e)) (end n fr (go ws))) n
    exp-numbered (exception_in k i t e) ws g b fr =
        let n : suc b + binders e ≡ b + binders (exception_in k i t e) = omega arith in
        ap (λ r. made.exception_sign b i (number_argument types index t) ∷ r) (exp-numbered e ws (given k b g) (suc b) fr)
        ∙ ap (λ n. made.spell (number types index g b (exception_in k i t e)) (end n fr (go ws))) n
    exp-numbered (name_in k j e) ws g b fr =
        let n : suc b + binders e ≡ b + binders (name_in k j e) = omega arith in
        ap (λ r. made.name_sign b (number_name types index g j) ∷ r) (exp-numbered e ws (given k b g) (suc b) fr)
        ∙ ap (λ n. made.spell (number types index g b (name_in k j e)) (end n fr (go ws))) n
    exp-numbered (rec_in u fs e) ws g b fr =
        let h = group_given b fs g in
        let c = b + heads fs in
        let rest = named.spell_bodies fs (named.spell e ws) in
        let n : (c + bodies fs) + binders e ≡ b + binders (rec_in u fs e) = group-counted b fs (binders e) in
        ap₂ (λ i n. made.group_sign ∷ go (named.spell_heads fs rest) (at i b (in_heads n n ∷ fr))) (group-seen b fs rest g) (heads-seen fs rest)
        ∙ ap (λ r. made.group_sign ∷ r) (heads-numbered fs rest h h b c (heads fs) fr)
        ∙ ap (λ r. made.group_sign ∷ made.spell_heads (number_funs types index h b c fs) r) (bodies-numbered fs (named.spell e ws) h b c fr)
        ∙ ap (λ r. made.group_sign ∷ made.spell_heads (number_funs types index h b c fs) (made.spell_bodies (number_funs types index h b c fs) r)) (exp-numbered e ws h (c + bodies fs) fr)
        ∙ ap (λ n. made.spell (number types index g b (rec_in u fs e)) (end n fr (go ws))) n
    exp-numbered (switch k t arms) ws g b fr = ap (λ r. made.switch_sign (number_of k g) (index t) ∷ r) (arms-numbered arms ws g b fr)
    exp-numbered (first e d) ws g b fr =
        let n : (b + binders e) + binders d ≡ b + binders (first e d) = omega arith in
        ap (λ r. made.first_sign ∷ r)
        (exp-numbered e (named.spell d ws) g b (in_attempt g ∷ fr) ∙ ap (made.spell (number types index g b e)) (exp-numbered d ws g (b + binders e) fr))
        ∙ ap (λ n. made.spell (number types index g b (first e d)) (end n fr (go ws))) n
    exp-numbered miss ws g b fr = ap (λ n. made.miss_sign ∷ end n fr (go ws)) (zero-right b)
    exp-numbered (counted n e) ws g b fr = ap (λ r. made.counted_sign n ∷ r) (exp-numbered e ws g b fr)

    arms-numbered : (arms : Arms Named) (ws : W) (g : Given) (b : ℕ) (fr : List Frame)
        → go (named.spell_arms arms ws) (at g b (in_arms g ∷ fr)) ≡ made.spell_arms (number_arms types index g b arms) (end (b + arms_times each_one arms) fr (go ws))
    arms-numbered no_arms ws g b fr = ap (λ n. made.end_sign ∷ end n fr (go ws)) (zero-right b)
    arms-numbered (arm c e arms) ws g b fr =
        let d = case_next b c in
        let h = case_given g b c in
        let i = case-next b c in
        let n : (d + binders e) + arms_times each_one arms ≡ b + arms_times each_one (arm c e arms) = omega (arith, i) in
        ap (λ r. made.arm_sign (number_case types index g b c) ∷ r)
        (exp-numbered e (named.spell_arms arms ws) h d (in_arms g ∷ fr) ∙ ap (made.spell (number types index h d e)) (arms-numbered arms ws g (d + binders e) fr))
        ∙ ap (λ n. made.spell_arms (number_arms types index g b (arm c e arms)) (end n fr (go ws))) n

    op-numbered : (o : Op Named) (ws : W) (g : Given) (b : ℕ) (k : Name) (t : Typ) (h : Given) (fr : List Frame)
        → go (named.spell_op o ws) (at g b (in_let k t h ∷ fr)) ≡ made.spell_op (number_op types index g b o) (end (b + op_binders o) (in_let k t h ∷ fr) (go ws))
    op-numbered (use_of j) ws g b k t h fr = ap (λ n. made.op_sign (use_of (number_of j g)) ∷ end n (in_let k t h ∷ fr) (go ws)) (zero-right b)
    op-numbered (const l) ws g b k t h fr = ap (λ n. made.op_sign (const l) ∷ end n (in_let k t h ∷ fr) (go ws)) (zero-right b)
    op-numbered (con_alone c u) ws g b k t h fr = ap (λ n. made.op_sign (con_alone c (index u)) ∷ end n (in_let k t h ∷ fr) (go ws)) (zero-right b)
    op-numbered (construct m c u j) ws g b k t h fr = ap (λ n. made.op_sign (construct m c (index u) (number_of j g)) ∷ end n (in_let k t h ∷ fr) (go ws)) (zero-right b)
    op-numbered (ref_alone u) ws g b k t h fr = ap (λ n. made.op_sign (ref_alone (index u)) ∷ end n (in_let k t h ∷ fr) (go ws)) (zero-right b)
    op-numbered (refer m u j) ws g b k t h fr = ap (λ n. made.op_sign (refer m (index u) (number_of j g)) ∷ end n (in_let k t h ∷ fr) (go ws)) (zero-right b)
    op-numbered (content u j) ws g b k t h fr = ap (λ n. made.op_sign (content (index u) (number_of j g)) ∷ end n (in_let k t h ∷ fr) (go ws)) (zero-right b)
    op-numbered (pack m u i j) ws g b k t h fr = ap (λ n. made.op_sign (pack m (index u) (number_of i g) (number_of j g)) ∷ end n (in_let k t h ∷ fr) (go ws)) (zero-right b)
    op-numbered (make_record u row) ws g b k t h fr =
        ap (λ r. made.record_sign (index u) ∷ r) (row-numbered row ws g b (in_let k t h ∷ fr))
        ∙ ap (λ n. made.record_sign (index u) ∷ made.spell_row (number_row types index g row) (end n (in_let k t h ∷ fr) (go ws))) (zero-right b)
    op-numbered (select u l j) ws g b k t h fr = ap (λ n. made.op_sign (select (index u) l (number_of j g)) ∷ end n (in_let k t h ∷ fr) (go ws)) (zero-right b)
    op-numbered (prim_alone p u) ws g b k t h fr = ap (λ n. made.op_sign (prim_alone p (index u)) ∷ end n (in_let k t h ∷ fr) (go ws)) (zero-right b)
    op-numbered (prim m p u as_) ws g b k t h fr =
        ap (λ r. made.perform_sign m p (index u) ∷ r) (atoms-numbered as_ ws g b (in_let k t h ∷ fr))
        ∙ ap (λ n. made.perform_sign m p (index u) ∷ made.spell_atoms (number_atoms types index g as_) (end n (in_let k t h ∷ fr) (go ws))) (zero-right b)
    op-numbered (app place i j) ws g b k t h fr = ap (λ n. made.op_sign (app place (number_of i g) (number_of j g)) ∷ end n (in_let k t h ∷ fr) (go ws)) (zero-right b)
    op-numbered (fn f) ws g b k t h fr = ap (λ r. made.fn_sign ∷ r) (fun-numbered f ws g b (in_let k t h ∷ fr))
    op-numbered (block e) ws g b k t h fr = ap (λ r. made.block_sign ∷ r) (exp-numbered e ws g b (in_let k t h ∷ fr))
    op-numbered (handle e j d) ws g b k t h fr =
        let c = b + binders e in
        let n : suc c + binders d ≡ b + op_binders (handle e j d) = omega arith in
        ap (λ r. made.handle_sign ∷ r) (exp-numbered e (named.packet_sign j ∷ named.spell d ws) g b (in_handled g ∷ in_let k t h ∷ fr))
        ∙ ap (λ r. made.handle_sign ∷ made.spell (number types index g b e) (made.packet_sign c ∷ r)) (exp-numbered d ws (given j c g) (suc c) (in_let k t h ∷ fr))
        ∙ ap (λ n. made.spell_op (number_op types index g b (handle e j d)) (end n (in_let k t h ∷ fr) (go ws))) n
    op-numbered (raise j) ws g b k t h fr = ap (λ n. made.op_sign (raise (number_of j g)) ∷ end n (in_let k t h ∷ fr) (go ws)) (zero-right b)
    op-numbered (raise_initial i) ws g b k t h fr = ap (λ n. made.op_sign (raise_initial i) ∷ end n (in_let k t h ∷ fr) (go ws)) (zero-right b)

    fun-numbered : (f : Fun Named) (ws : W) (g : Given) (b : ℕ) (fr : List Frame) → go (named.spell_fun f ws) (at g b fr) ≡ made.spell_fun (number_fun types index g b f) (end (b + fun_binders f) fr (go ws))
    fun-numbered (last k t e) ws g b fr =
        let n : suc b + binders e ≡ b + fun_binders (last k t e) = omega arith in
        ap (λ r. made.last_sign b (index t) ∷ r) (exp-numbered e ws (given k b g) (suc b) fr)
        ∙ ap (λ n. made.spell_fun (number_fun types index g b (last k t e)) (end n fr (go ws))) n
    fun-numbered (more k t f) ws g b fr =
        let n : suc b + fun_binders f ≡ b + fun_binders (more k t f) = omega arith in
        ap (λ r. made.parameter_sign b (index t) ∷ r) (fun-numbered f ws (given k b g) (suc b) fr)
        ∙ ap (λ n. made.spell_fun (number_fun types index g b (more k t f)) (end n fr (go ws))) n

    bodies-numbered : (fs : Funs Named) (ws : W) (g : Given) (n b : ℕ) (fr : List Frame)
        → go (named.spell_bodies fs ws) (at g b (bodies_left types index (heads fs) g fr)) ≡ made.spell_bodies (number_funs types index g n b fs) (go ws (at g (b + bodies fs) fr))
    bodies-numbered no_funs ws g n b fr = ap (λ c. go ws (at g c fr)) (zero-right b)
    bodies-numbered (fun k t f fs) ws g n b fr =
        let c = b + fun_binders f in
        let m : c + bodies fs ≡ b + bodies (fun k t f fs) = omega arith in
        fun-numbered f (named.spell_bodies fs ws) g b (in_bodies (heads fs) g ∷ fr)
        ∙ ap (made.spell_fun (number_fun types index g b f)) (bodies-numbered fs ws g n c fr)
        ∙ ap (λ m. made.spell_bodies (number_funs types index g n b (fun k t f fs)) (go ws (at g m fr))) m

  pub whole-numbered : (e : Exp Named) (b : ℕ) → go (named.spell e []) (at none_given b []) ≡ made.spell (number types index none_given b e) []
  whole-numbered e b = exp-numbered e [] none_given b []
