-- Entries stand in the order of codes.
use Rattle.std.proofs.Common.{◌≡◌, ℕ, List, [], ◌∷◌, refl, ap, ◌∙◌}
use Rattle.ir_plain.specs.Tree.{ret, let_in, exception_in, name_in, rec_in, switch, first, miss, counted, Arms, no_arms, arm, Op, use_of, const, con_alone, construct, ref_alone, refer, content, pack, make_record, select, prim_alone, prim, app, fn, block, handle, raise, raise_initial, Fun, last, more, Funs, no_funs, fun}
use Rattle.ir_mono.specs.Types as table
use Rattle.ir_mono.specs.Mono.{mono, Mono}
use Rattle.closure_convert.specs.Scope.{Member, names, Scope, add, add_all, Piece}
use Rattle.closure_convert.specs.Closed.{scope_of, members, case_scope}
use Rattle.closure_convert.specs.Capture.{cut, Entry, wanted, wanted_all, tabulate, tabulate_arms, tabulate_op, tabulate_fun, tabulate_funs}
use Rattle.closure_meaning.specs.Convert.{numbers_in, numbers_arms, numbers_op, numbers_fun, numbers_funs}
use Rattle.capture_table.specs.Tables.{numbers_of}

module _ (types : List table.Row) where
  mutual
    pub numbers-are : (e : Mono types) (s : Scope) (es : List Entry) → numbers_of (tabulate types s e es) ≡ numbers_in types e (numbers_of es)
    numbers-are (ret a) s es = refl
    numbers-are (let_in x ps t o e) s es = op-numbers o s (tabulate types (add x s) e es) ∙ ap (numbers_op types o) (numbers-are e (add x s) es)
    numbers-are (exception_in x i t e) s es = numbers-are e (add x s) es
    numbers-are (name_in x n e) s es = numbers-are e (add x s) es
    numbers-are (rec_in ps fs e) s es =
        funs-numbers fs (cut s (wanted_all types s fs)) (wanted_all types s fs) (members types fs) (tabulate types (add_all (names (members types fs)) s) e es)
        ∙ ap (numbers_funs types fs) (numbers-are e (add_all (names (members types fs)) s) es)
    numbers-are (switch a t arms) s es = arms-numbers arms s es
    numbers-are (first e d) s es = numbers-are e s (tabulate types s d es) ∙ ap (numbers_in types e) (numbers-are d s es)
    numbers-are miss s es = refl
    numbers-are (counted k e) s es = numbers-are e s es

    arms-numbers : (arms : Arms (mono types)) (s : Scope) (es : List Entry) → numbers_of (tabulate_arms types s arms es) ≡ numbers_arms types arms (numbers_of es)
    arms-numbers no_arms s es = refl
    arms-numbers (arm c e arms) s es = numbers-are e (case_scope types c s) (tabulate_arms types s arms es) ∙ ap (numbers_in types e) (arms-numbers arms s es)

    op-numbers : (o : Op (mono types)) (s : Scope) (es : List Entry) → numbers_of (tabulate_op types s o es) ≡ numbers_op types o (numbers_of es)
    op-numbers (use_of x) s es = refl
    op-numbers (const l) s es = refl
    op-numbers (con_alone c t) s es = refl
    op-numbers (construct m c t a) s es = refl
    op-numbers (ref_alone t) s es = refl
    op-numbers (refer m t a) s es = refl
    op-numbers (content t a) s es = refl
    op-numbers (pack m t x a) s es = refl
    op-numbers (make_record t row) s es = refl
    op-numbers (select t l a) s es = refl
    op-numbers (prim_alone p t) s es = refl
    op-numbers (prim m p t as_) s es = refl
    op-numbers (app place f a) s es = refl
    op-numbers (fn f) s es = fun-numbers f (cut s (wanted types s f)) (wanted types s f) [] es
    op-numbers (block e) s es = numbers-are e s es
    op-numbers (handle e x d) s es = numbers-are e s (tabulate types (add x s) d es) ∙ ap (numbers_in types e) (numbers-are d (add x s) es)
    op-numbers (raise a) s es = refl
    op-numbers (raise_initial i) s es = refl

    fun-numbers : (f : Fun (mono types)) (ps : List Piece) (cs : List ℕ) (ms : List Member) (es : List Entry) → numbers_of (tabulate_fun types ps cs ms f es) ≡ numbers_fun types f (numbers_of es)
    fun-numbers (last x t e) ps cs ms es = ap (λ l. x ∷ l) (numbers-are e (scope_of cs ms x) es)
    fun-numbers (more x t f) ps cs ms es = ap (λ l. x ∷ l) (fun-numbers f (cut (scope_of cs ms x) (wanted types (scope_of cs ms x) f)) (wanted types (scope_of cs ms x) f) [] es)

    funs-numbers : (fs : Funs (mono types)) (ps : List Piece) (cs : List ℕ) (ms : List Member) (es : List Entry) → numbers_of (tabulate_funs types ps cs ms fs es) ≡ numbers_funs types fs (numbers_of es)
    funs-numbers no_funs ps cs ms es = refl
    funs-numbers (fun x t f fs) ps cs ms es = fun-numbers f ps cs ms (tabulate_funs types ps cs ms fs es) ∙ ap (numbers_fun types f) (funs-numbers fs ps cs ms es)
