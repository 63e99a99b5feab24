-- Of the words of each part the part is built.
use Rattle.std.proofs.Common.{◌≡◌, List, ◌∷◌, refl, ap, ◌∙◌}
use Rattle.ir_plain.specs.Tree.{Atoms, no_atoms, an_atom, Row, no_row, a_row, Exp, ret, let_in, exception_in, name_in, rec_in, switch, first, miss, counted, Arms, no_arms, arm, Op, use_of, const, con_alone, construct, ref_alone, refer, content, pack, make_record, select, prim_alone, prim, app, fn, block, handle, raise, raise_initial, Fun, last, more, Funs, no_funs, fun}
use Rattle.ir_mono.specs.Types as table
use Rattle.ir_mono.specs.Mono.{mono}
use Rattle.mono_read.specs.Words.{Sign, arm_sign, let_sign, fn_sign, parameter_sign, last_sign, block_sign, handle_sign, packet_sign, spell, spell_arms, spell_op, spell_fun, spell_heads, spell_bodies, spell_row, spell_atoms}
use Rattle.mono_read.specs.Building.{Heads, no_heads, head, an_exp, a_binding, a_fun, some_arms, some_row, some_atoms, some_heads, Stack, with_exp, with_handler, with_arms, with_row, with_atoms, with_heads, with_funs, stepped, acted, put, build}

module _ (types : List table.Row) where
  abbrev S : Type 0
  S = Stack types

  abbrev heads_of : Funs (mono types) → Heads
  heads_of no_funs = no_heads
  heads_of (fun x t f fs) = head x t (heads_of fs)

  -- lists

  row-taken : (row : Row (mono types)) (ws : List (Sign types)) (f : Row (mono types) → S → S) → with_row (build (spell_row row ws)) f ≡ f row (build ws)
  row-taken no_row ws f = refl
  row-taken (a_row l k row) ws f = ap (λ st. with_row st f) (row-taken row ws (λ r rest. some_row (a_row l k r) ∷ rest))

  atoms-taken : (as_ : Atoms (mono types)) (ws : List (Sign types)) (f : Atoms (mono types) → S → S) → with_atoms (build (spell_atoms as_ ws)) f ≡ f as_ (build ws)
  atoms-taken no_atoms ws f = refl
  atoms-taken (an_atom k as_) ws f = ap (λ st. with_atoms st f) (atoms-taken as_ ws (λ r rest. some_atoms (an_atom k r) ∷ rest))

  heads-taken : (fs : Funs (mono types)) (ws : List (Sign types)) (f : Heads → S → S) → with_heads (build (spell_heads fs ws)) f ≡ f (heads_of fs) (build ws)
  heads-taken no_funs ws f = refl
  heads-taken (fun x t g fs) ws f = ap (λ st. with_heads st f) (heads-taken fs ws (λ hs rest. some_heads (head x t hs) ∷ rest))

  mutual
    pub exp-built : (e : Exp (mono types)) (ws : List (Sign types)) → build (spell e ws) ≡ an_exp e ∷ build ws
    exp-built (ret k) ws = refl
    exp-built (let_in k u t o e) ws = op-built o (let_sign k t ∷ spell e ws) ∙ ap (λ st. acted o (a_binding k t ∷ st)) (exp-built e ws)
    exp-built (exception_in k i t e) ws = ap (stepped (exception_in k i t)) (exp-built e ws)
    exp-built (name_in k j e) ws = ap (stepped (name_in k j)) (exp-built e ws)
    exp-built (rec_in u fs e) ws =
        heads-taken fs (spell_bodies fs (spell e ws)) (λ hs rest. with_funs hs rest (λ gs more_rest. stepped (rec_in tt gs) more_rest))
        ∙ bodies-built fs (spell e ws) (λ gs more_rest. stepped (rec_in tt gs) more_rest)
        ∙ ap (stepped (rec_in tt fs)) (exp-built e ws)
    exp-built (switch k t arms) ws = arms-taken arms ws (λ arms rest. an_exp (switch k t arms) ∷ rest)
    exp-built (first e d) ws = ap (λ st. with_exp st (λ e rest. stepped (first e) rest)) (exp-built e (spell d ws)) ∙ ap (stepped (first e)) (exp-built d ws)
    exp-built miss ws = refl
    exp-built (counted n e) ws = ap (stepped (counted n)) (exp-built e ws)

    arms-taken : (arms : Arms (mono types)) (ws : List (Sign types)) (f : Arms (mono types) → S → S) → with_arms (build (spell_arms arms ws)) f ≡ f arms (build ws)
    arms-taken no_arms ws f = refl
    arms-taken (arm c e arms) ws f =
        ap (λ st. with_arms (put (arm_sign c) st) f) (exp-built e (spell_arms arms ws))
        ∙ ap (λ st. with_arms st f) (arms-taken arms ws (λ arms rest. some_arms (arm c e arms) ∷ rest))

    op-built : (o : Op (mono types)) (ws : List (Sign types)) → build (spell_op o ws) ≡ acted o (build ws)
    op-built (use_of k) ws = refl
    op-built (const l) ws = refl
    op-built (con_alone c t) ws = refl
    op-built (construct m c t k) ws = refl
    op-built (ref_alone t) ws = refl
    op-built (refer m t k) ws = refl
    op-built (content t k) ws = refl
    op-built (pack m t j k) ws = refl
    op-built (make_record t row) ws = row-taken row ws (λ row rest. acted (make_record t row) rest)
    op-built (select t l k) ws = refl
    op-built (prim_alone p t) ws = refl
    op-built (prim m p t as_) ws = atoms-taken as_ ws (λ as_ rest. acted (prim m p t as_) rest)
    op-built (app place j k) ws = refl
    op-built (fn f) ws = ap (put fn_sign) (fun-built f ws)
    op-built (block e) ws = ap (put block_sign) (exp-built e ws)
    op-built (handle e k d) ws = ap (put handle_sign) (exp-built e (packet_sign k ∷ spell d ws)) ∙ ap (λ st. with_handler (put (packet_sign k) st) (λ x d more_rest. acted (handle e x d) more_rest)) (exp-built d ws)
    op-built (raise k) ws = refl
    op-built (raise_initial i) ws = refl

    fun-built : (f : Fun (mono types)) (ws : List (Sign types)) → build (spell_fun f ws) ≡ a_fun f ∷ build ws
    fun-built (last k t e) ws = ap (put (last_sign k t)) (exp-built e ws)
    fun-built (more k t f) ws = ap (put (parameter_sign k t)) (fun-built f ws)

    bodies-built : (fs : Funs (mono types)) (ws : List (Sign types)) (f : Funs (mono types) → S → S) → with_funs (heads_of fs) (build (spell_bodies fs ws)) f ≡ f fs (build ws)
    bodies-built no_funs ws f = refl
    bodies-built (fun x t g fs) ws f =
        ap (λ st. with_funs (heads_of (fun x t g fs)) st f) (fun-built g (spell_bodies fs ws)) ∙ bodies-built fs ws (λ gs more_rest. f (fun x t g gs) more_rest)
