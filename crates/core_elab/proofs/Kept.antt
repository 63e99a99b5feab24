-- What resolves declarations means the same at every number of turns.
use Rattle.std.proofs.Common.{◌≡◌, ℕ, zero, suc, Bool, Option, Some, slice_get, refl, sym, ap, subst, arith}
use Rattle.std.specs.Prelude.{option_and_then}
use Rattle.mlc_base.specs.declared.place.Place.{Place}
use Rattle.mlc_runs.specs.Run.{World, Answer, gives, raises, out_of_turns, then_do, or_fail}
use Rattle.mlc_runs.specs.Agreement.{none}
use Rattle.core_rules.specs.of_sml_tree.Terminal as term
use Rattle.core_rules.specs.of_sml_tree.BareTree.{LongIdAt}
use Rattle.core_rules.specs.of_sml_tree.BareTree as bare
use Rattle.core_rules.specs.Values.{built, Value, literal, Fields, exn, Env, plus, Found, tycon}
use Rattle.core_rules.specs.Match.{constant_of, Matching}
use Rattle.core_rules.specs.Eval.{recursive, with_recursive, Apply, on_match, opened, long_tycon_in, eval, eval_fields, eval_rules, eval_decs, eval_dec, eval_binds, enter, apply, match_packet}
use Rattle.core_rules.specs.Meaning.{packet_identifier, begin, meaning_in}
use Rattle.ir_poly.specs.of_ir_values.Tags.{untagged}
use Rattle.ir_poly.specs.of_ir_values.Values as made
use Rattle.ir_poly.specs.of_ir_values.Match.{after_match}
use Rattle.ir_poly.specs.of_ir_values.Primitives as call
use Rattle.ir_poly.specs.Prog.{fixed, held, Fun}
use Rattle.ir_poly.specs.Prog as prog
use Rattle.ir_poly.specs.ProgMeaning.{V, Code, Scope as Bound, Fits, Parts, sorted_parts, only_name, members, run_fun, body, identifier_of}
use Rattle.ir_poly.specs.ProgMeaning as run
use Rattle.core_elab.specs.Scopes.{Denotes, Scope, plus_scope}
use Rattle.core_elab.specs.Resolves.{UseTo, use_variable, use_own, use_constructor, use_reference, use_exception, use_primitive, IsCalled, called_constant, called_vid, called_built, called_fields, called_let, called_app, called_typed, called_handle, called_raise, ExpTo, constant_exp_to, vid_to, built_exp_to, fields_exp_to, let_to, case_to, app_to, chain_to, typed_exp_to, handle_to, raise_to, fn_to, counted_to, FieldsTo, no_fields_to, field_to, ChainTo, only_to, and_to, or_to, RulesTo, no_rules_to, rule_to, FunTo, by_rules_to, last_to, more_to, DecsTo, no_decs_to, dec_to, counted_decs_to, DecTo, val_to, type_to, datatype_to, replicate_to, exception_to, local_to, open_to, sequence_to, counted_dec_to, BindsTo, no_binds_to, bind_to}
use Rattle.core_elab.specs.Laws.{initial_identifiers}
use Rattle.core_elab.proofs.Agreeing.{Agree, both_give, both_raise, both_stop, then_do-agree, or_handle-agree, take_turn-agree, new_reference-agree, outcome_of-agree}
use Rattle.core_elab.proofs.Related.{Rel, rel_literal, rel_record, rel_con, rel_con_of, rel_ref, rel_address, rel_exn, rel_exn_of, rel_primitive, rel_alone, rel_one_of, RelFields, rel_no_fields, rel_field, known_variable, known_constructor, known_reference, known_fixed, known_held, known_primitive, Covers, covers_tycon, covers-more, covers-plus, Stored, in_cell, Anew, same-trans, anew-nothing, anew-closed, anew-scope, anew-then, anew-hide}
use Rattle.core_elab.proofs.LookUps.{KnownAs, known_some, CoversBoth, covers_some, long-typed, covers-opened, known-of}
use Rattle.core_elab.proofs.Matching.{Fitting, both_bind, both_fail, both_misfit, match-rel}
use Rattle.core_elab.proofs.Performing.{Alike, Ends, arguments-rel, perform-rel, raised-rel}
use Rattle.core_elab.proofs.Declared.{recursive-rel, are-fns, parameter-rel, datatypes-covers, types-covers, map-left, exns-rel, joined-is}
use Rattle.core_elab.proofs.Chains.{and-rel, or-rel}
use Rattle.core_elab.proofs.Fields.{put-among}

-- Uses

use-rel : {k : ℕ} {t : Bound} {n : Denotes} {o : Option Found} {x : prog.Exp} (call' : run.Apply) (w : World Value) (u : World V) → UseTo n x
    → KnownAs k t (Some n) o → Alike w u → Ends (or_fail o w (λ f. gives f.value w)) (run.eval call' x t u)
use-rel call' w u (use_variable n ts ty) (known_some {v = v} (known_variable _ h e r)) s =
    subst (λ o. Ends (gives v w) (or_fail o u (λ z. gives z u))) (sym e) (both_give r s)
use-rel call' w u (use_own n ty) (known_some {v = v} (known_variable _ h e r)) s =
    subst (λ o. Ends (gives v w) (or_fail o u (λ z. gives z u))) (sym e) (both_give r s)
use-rel call' w u (use_constructor n y ts ty) (known_some (known_constructor c e)) s = both_give (rel_con c e) s
use-rel call' w u (use_reference a ty) (known_some known_reference) s = both_give rel_ref s
use-rel call' w u (use_exception (fixed n) ty) (known_some (known_fixed _)) s = both_give (rel_exn n) s
use-rel call' w u (use_exception (held n) ty) (known_some (known_held _ {i = i} h e)) s =
    subst (λ o. Ends (gives (exn i) w) (or_fail (option_and_then only_name o) u (λ z. gives z u))) (sym e) (both_give (rel_exn i) s)
use-rel call' w u (use_primitive q ts ty) (known_some (known_primitive _)) s = both_give (rel_primitive q) s

constant-rel : (c : term.Constant) → Rel (literal (constant_of c)) (made.value_of untagged (constant_of c))
constant-rel (term.int z) = rel_literal _
constant-rel (term.word n) = rel_literal _
constant-rel (term.char n) = rel_literal _
constant-rel (term.string s) = rel_literal _

on-match-rel : {A B : Type 0} (S : A → B → Type 0) {k j : ℕ} {r : Scope} {t : Bound} {m : Matching} {m' : Fits} (w : World Value) (u : World V)
    (go : Env → World Value → Answer Value A) (go' : Bound → World V → Answer V B) (other : World Value → Answer Value A) (other' : World V → Answer V B)
    → Fitting k j r t m m' → Alike w u → ((d : Env) (z : Bound) → Anew k j t r d z → Agree Rel Stored S (go d w) (go' z u))
    → Agree Rel Stored S (other w) (other' u) → Agree Rel Stored S (on_match m w go other) (after_match m' u go' other')
on-match-rel S w u go go' other other' (both_bind a) s h g = h _ _ a
on-match-rel S w u go go' other other' both_fail s h g = g
on-match-rel S w u go go' other other' both_misfit s h g = both_stop _ s

-- values of fields as they are written, where a record has them
abbrev RelSorted : Fields → Parts → Type 0
RelSorted vs zs = RelFields vs (sorted_parts zs)

abbrev pub Calls : Apply → run.Apply → Type 0
Calls call call' =
    (p : Place) (f a : Value) (f' a' : V) (w : World Value) (u : World V) → Rel f f' → Rel a a' → Alike w u → Ends (call p f a w) (call' p f' a' u)

called-is : (call : Apply) (e : Env) (w : World Value) (p : Place) {f : bare.Exp} (a : bare.Exp) → IsCalled f
    → eval call e (bare.app p f a) w ≡ then_do (eval call e f w) (λ g w. then_do (eval call e a w) (λ v w. call p g v w))
called-is call e w p a (called_constant _ _) = refl
called-is call e w p a (called_vid _ _) = refl
called-is call e w p a (called_built _ _) = refl
called-is call e w p a (called_fields _ _) = refl
called-is call e w p a (called_let _ _ _) = refl
called-is call e w p a (called_app _ _ _) = refl
called-is call e w p a (called_typed _ _ _) = refl
called-is call e w p a (called_handle _ _ _) = refl
called-is call e w p a (called_raise _ _) = refl

-- a declaration without expressions, where what it looks up is there
looked-rel : {k : ℕ} {t : Bound} {r : Scope} {o : Option Env} {q : Scope} (go : Env → Env) (w : World Value) (u : World V) → CoversBoth k t (Some r) o
    → ((d : Env) → Covers k t r d → Covers k t q (go d)) → Alike w u → Agree Rel Stored (Anew k k t q) (or_fail o w (λ d. gives (go d) w)) (gives t u)
looked-rel {k} {t} go w u (covers_some c) h a = both_give (anew-closed k t (h _ c)) a

-- the second part stands behind the first, which is hidden
hidden : {k j i : ℕ} {t u : Bound} {r q : Scope} {d : Env} {x : Answer Value Env} {y : Answer V Bound} → Anew k j t r d u
    → Agree Rel Stored (Anew j i u q) x y → Agree Rel Stored (Anew k i t q) x y
hidden a (both_give b s) = both_give (anew-hide a b) s
hidden a (both_raise p s) = both_raise p s
hidden a (both_stop c s) = both_stop c s

module _ (call : Apply) (call' : run.Apply) (calls : Calls call call') where
  mutual
    exp-rel : {s : Scope} {k : ℕ} {x : bare.Exp} {y : prog.Exp} → ExpTo s k x y → {e : Env} {t : Bound} (w : World Value) (u : World V) → Covers k t s e
        → Alike w u → Ends (eval call e x w) (run.eval call' y t u)
    exp-rel (constant_exp_to p l ty) w u c q = both_give (constant-rel l) q
    exp-rel (vid_to p {x = x} i h) w u c q = use-rel call' w u h (known-of x i c) q
    exp-rel (built_exp_to p b y ts ty) w u c q = both_give (rel_con (built b) refl) q
    exp-rel (fields_exp_to p ty fs) w u c q =
        then_do-agree Rel Stored Rel RelSorted _ _ (fields-rel fs w u c q) (λ f g w u h q. both_give (rel_record h) q)
    exp-rel (let_to {k = k} p ty {r = r} {j = j} ds b) {t = t} w u c q =
        then_do-agree Rel Stored Rel (Anew k j t r) _ _ (decs-rel ds w u c q) (λ d z w u a q. exp-rel b w u (anew-scope c a) q)
    exp-rel (case_to p p' place ty rs a) w u c q =
        then_do-agree Rel Stored Rel Rel _ _ (exp-rel a w u c q) (λ v z w u h q. rules-rel rs w u c h (rel_exn 0) q)
    exp-rel (app_to p ty {f = f} {a = a} {f' = f'} {a' = a'} i x y) {e = e} {t = t} w u c q =
        subst (λ z. Ends z (then_do (run.eval call' f' t u) (λ g w. then_do (run.eval call' a' t w) (λ v w. call' p g v w)))) (sym (called-is call e w p a i))
        (then_do-agree Rel Stored Rel Rel _ _ (exp-rel x w u c q) (λ g g' w u rg q.
        then_do-agree Rel Stored Rel Rel _ _ (exp-rel y w u c q) (λ v v' w u rv q. calls p g v g' v' w u rg rv q)))
    exp-rel (chain_to b ty x) w u c q = chain-rel x w u c q
    exp-rel (typed_exp_to p b) w u c q = exp-rel b w u c q
    exp-rel (handle_to p ty b rs) w u c q =
        or_handle-agree Rel Stored Rel _ _ (exp-rel b w u c q) (λ v z w u h q. rules-rel rs w u c h h q)
    exp-rel (raise_to p ty b) w u c q = then_do-agree Rel Stored Rel Rel _ _ (exp-rel b w u c q) (λ v z w u h q. raised-rel w u h q)
    exp-rel (fn_to p ty f) w u c q = both_give (rel_alone c f) q
    exp-rel (counted_to n ty b) w u c q = exp-rel b w u c q

    -- in the order written; in that of the labels the record has them
    fields-rel : {s : Scope} {k : ℕ} {fs : bare.ExpFields} {gs : prog.Fields} → FieldsTo s k fs gs → {e : Env} {t : Bound} (w : World Value) (u : World V)
        → Covers k t s e → Alike w u → Agree Rel Stored RelSorted (eval_fields call e fs w) (run.eval_fields call' gs t u)
    fields-rel no_fields_to w u c q = both_give rel_no_fields q
    fields-rel (field_to l x xs) w u c q =
        then_do-agree Rel Stored RelSorted Rel _ _ (exp-rel x w u c q) (λ v z w u h q.
        then_do-agree Rel Stored RelSorted RelSorted _ _ (fields-rel xs w u c q) (λ f g w u hs q.
        both_give (rel_field l h hs (put-among l z (sorted_parts g))) q))

    chain-rel : {s : Scope} {k : ℕ} {b : Bool} {x : bare.Exp} {y : prog.Chain} → ChainTo s k b x y → {e : Env} {t : Bound} (w : World Value) (u : World V)
        → Covers k t s e → Alike w u → Ends (eval call e x w) (run.eval_chain call' b y t u)
    chain-rel (only_to b x) w u c q = exp-rel x w u c q
    chain-rel (and_to p {e = b} a x) {e = e} w u c q =
        then_do-agree Rel Stored Rel Rel _ _ (exp-rel a w u c q) (λ v z w u h q. and-rel w u q (λ d w. eval call (plus e d) b w) (chain-rel x w u c q) h)
    chain-rel (or_to p {e = b} a x) {e = e} w u c q =
        then_do-agree Rel Stored Rel Rel _ _ (exp-rel a w u c q) (λ v z w u h q. or-rel w u q (λ d w. eval call (plus e d) b w) (chain-rel x w u c q) h)

    rules-rel : {s : Scope} {k : ℕ} {rs : bare.Rules} {rs' : prog.Rules} → RulesTo s k rs rs' → {e : Env} {t : Bound} (w : World Value) (u : World V)
        → Covers k t s e → {v : Value} {z : V} {x : Value} {x' : V} → Rel v z → Rel x x' → Alike w u
        → Ends (eval_rules call e rs v x w) (run.eval_rules call' rs' z t u x')
    rules-rel no_rules_to w u c h g q = both_raise g q
    rules-rel (rule_to p a b rs) {t = t} w u c h g q =
        on-match-rel Rel w u _ _ _ _ (match-rel c q.store a h t) q (λ d z f. exp-rel b w u (anew-scope c f) q) (rules-rel rs w u c h g q)

    fun-rel : {s : Scope} {k : ℕ} {rs : bare.Rules} {f : Fun} → FunTo s k rs f → {e : Env} {t : Bound} (w : World Value) (u : World V) → Covers k t s e
        → {v : Value} {z : V} → Rel v z → Alike w u → Ends (eval_rules call e rs v match_packet w) (run_fun call' f t z u)
    fun-rel (by_rules_to place a b rs) w u c h q = rules-rel rs w u c h (rel_exn 0) q
    fun-rel (last_to p n ty {e' = e'} le a b) w u c h q =
        on-match-rel Rel w u _ (λ t u. run.eval call' e' t u) _ (λ u. raises (made.exn tt 0) u) (parameter-rel w.store a c le h) q
        (λ d z f. exp-rel b w u (anew-scope c f) q) (both_raise (rel_exn 0) q)
    fun-rel (more_to p p' n ty {f = f} le a g) w u c h q =
        on-match-rel Rel w u _ (λ t u. gives (made.closure (run.alone f) t) u) _ (λ u. raises (made.exn tt 0) u) (parameter-rel w.store a c le h) q
        (λ d z m. both_give (rel_alone (anew-scope c m) g) q) (both_raise (rel_exn 0) q)

    pub decs-rel : {s : Scope} {k : ℕ} {ds : bare.Decs} {ds' : prog.Decs} {r : Scope} {j : ℕ} → DecsTo s k ds ds' r j → {e : Env} {t : Bound} (w : World Value)
        (u : World V) → Covers k t s e → Alike w u → Agree Rel Stored (Anew k j t r) (eval_decs call e ds w) (run.eval_decs call' ds' t u)
    decs-rel (no_decs_to {k = k}) {t = t} w u c q = both_give (anew-nothing k t) q
    decs-rel {k = k} (dec_to {d = d} {ds = ds} {d' = d'} {ds' = ds'} {r = r} {q = o} {j = j} {i = i} x xs) {e = e} {t = t} w u c q =
        subst (λ z. Agree Rel Stored (Anew k i t (plus_scope r o)) (eval_decs call e (bare.dec d ds) w) z) (sym (joined-is call' d' ds' t u))
        (then_do-agree Rel Stored (Anew k i t (plus_scope r o)) (Anew k j t r) _ _ (dec-rel x w u c q) (λ d z w u a q.
        map-left (plus d) (λ d' z' b. anew-then a b) (decs-rel xs w u (anew-scope c a) q)))
    decs-rel (counted_decs_to n ds) w u c q = decs-rel ds w u c q

    dec-rel : {s : Scope} {k : ℕ} {d : bare.Dec} {ds : prog.Decs} {r : Scope} {j : ℕ} → DecTo s k d ds r j → {e : Env} {t : Bound} (w : World Value)
        (u : World V) → Covers k t s e → Alike w u → Agree Rel Stored (Anew k j t r) (eval_dec call e d w) (run.eval_decs call' ds t u)
    dec-rel {k = k} (val_to p p' qs {bs = bs} {rs = rs} {bs' = bs'} {fs = fs} {r = r} {f = o} {j = j} {i = i} h f b) {e = e} {t = t} w u c q =
        let a : Anew k j t o (recursive e rs) (members fs t) = recursive-rel c h f in
        subst (λ z. Agree Rel Stored (Anew k i t (plus_scope r o)) (then_do (eval_binds call e bs w) (with_recursive e rs z))
        (then_do (run.eval_binds call' bs' t (members fs t) u) (λ t u. gives t u)))
        (sym (are-fns f))
        (then_do-agree Rel Stored (Anew k i t (plus_scope r o)) (Anew j i (members fs t) r) _ _ (binds-rel b w u c q (members fs t)) (λ d z w u m q.
        both_give (record {
          up = omega (arith, a.up, m.up);
          same = same-trans a.up a.same m.same;
          covers = covers-plus m.covers (covers-more m.up m.same a.covers);
        }) q))
    dec-rel {k = k} (type_to p bs) {t = t} w u c q = both_give (anew-closed k t (types-covers k t bs)) q
    dec-rel {k = k} (datatype_to p bs) {t = t} w u c q = both_give (anew-closed k t (datatypes-covers bs)) q
    dec-rel {k = k} (replicate_to p x {y = y} {r = r} i) {e = e} {t = t} w u c q =
        looked-rel (λ d. tycon x d d) w u (subst (λ o. CoversBoth k t o (long_tycon_in e y)) i (long-typed y c)) (λ d b. covers_tycon x b b) q
    dec-rel (exception_to p b) w u c q = exns-rel call' b w u c q
    dec-rel {k = k} (local_to p {ds = ds} {es = es} {ds' = ds'} {es' = es'} {r = r} {q = o} {j = j} {i = i} x y) {e = e} {t = t} w u c q =
        subst (λ z. Agree Rel Stored (Anew k i t o) (eval_dec call e (bare.local_dec p ds es) w) z) (sym (joined-is call' ds' es' t u))
        (then_do-agree Rel Stored (Anew k i t o) (Anew k j t r) _ _ (decs-rel x w u c q) (λ d z w u a q.
        hidden a (decs-rel y w u (anew-scope c a) q)))
    dec-rel {k = k} (open_to p {xs = xs} {r = r} i) {e = e} {t = t} w u c q =
        looked-rel (λ d. d) w u (subst (λ o. CoversBoth k t o (opened e xs)) i (covers-opened xs c)) (λ d b. b) q
    dec-rel (sequence_to p ds) w u c q = decs-rel ds w u c q
    dec-rel (counted_dec_to n d) w u c q = dec-rel d w u c q

    binds-rel : {s : Scope} {h k : ℕ} {bs : bare.Binds} {bs' : prog.Binds} {r : Scope} {j : ℕ} → BindsTo s h k bs bs' r j → {e : Env} {t : Bound}
        (w : World Value) (u : World V) → Covers h t s e → Alike w u → (bound : Bound)
        → Agree Rel Stored (Anew k j bound r) (eval_binds call e bs w) (run.eval_binds call' bs' t bound u)
    binds-rel (no_binds_to {k = k}) w u c q bound = both_give (anew-nothing k bound) q
    binds-rel {k = k} (bind_to p place general ty {r = r} {q = o} {j = j} {i = i} a b bs) {t = t} w u c q bound =
        then_do-agree Rel Stored (Anew k i bound (plus_scope r o)) Rel _ _ (exp-rel b w u c q) (λ v z w u h q.
        on-match-rel (Anew k i bound (plus_scope r o)) w u _ _ _ _ (match-rel c q.store a h bound) q
        (λ d bound' f. map-left (plus d) (λ d' z' m. anew-then f m) (binds-rel bs w u c q bound'))
        (both_raise (rel_exn 1) q))

-- Calls

-- entering a function by its code
abbrev Entered : (Env → bare.Rules → Value → World Value → Answer Value Value) → (Fun → Bound → V → World V → Answer V V) → Type 0
Entered go go' =
    (s : Scope) (k : ℕ) (rs : bare.Rules) (f : Fun) (e : Env) (t : Bound) (v : Value) (z : V) (w : World Value) (u : World V) → FunTo s k rs f
    → Covers k t s e → Rel v z → Alike w u → Ends (go e rs v w) (go' f t z u)

enter-rel : (go : Env → bare.Rules → Value → World Value → Answer Value Value) (go' : Fun → Bound → V → World V → Answer V V) → Entered go go'
    → Calls (enter go) (call.enter untagged (body go'))
enter-rel go go' h p f a f' a' w u (rel_literal l) r s = both_stop _ s
enter-rel go go' h p f a f' a' w u (rel_record l) r s = both_stop _ s
enter-rel go go' h p f a f' a' w u (rel_con c e) r s = take_turn-agree Rel Stored Rel p w u _ _ s (λ w u s. both_give (rel_con_of c e r) s)
enter-rel go go' h p f a f' a' w u (rel_con_of c e l) r s = both_stop _ s
enter-rel go go' h p f a f' a' w u rel_ref r s =
    take_turn-agree Rel Stored Rel p w u _ _ s (λ w u s.
    new_reference-agree Rel Stored Rel _ _ w u _ _ (in_cell r) s (λ i w u s. both_give (rel_address i) s))
enter-rel go go' h p f a f' a' w u (rel_address l) r s = both_stop _ s
enter-rel go go' h p f a f' a' w u (rel_exn n) r s = take_turn-agree Rel Stored Rel p w u _ _ s (λ w u s. both_give (rel_exn_of n r) s)
enter-rel go go' h p f a f' a' w u (rel_exn_of n l) r s = both_stop _ s
enter-rel go go' h p f a f' a' w u (rel_primitive q) r s =
    take_turn-agree Rel Stored Rel p w u _ _ s (λ w u s. perform-rel q w u (arguments-rel r) s)
enter-rel go go' h p f a f' a' w u (rel_alone c g) r s = take_turn-agree Rel Stored Rel p w u _ _ s (λ w u s. h _ _ _ _ _ _ _ _ w u g c r s)
enter-rel go go' h p f a f' a' w u (rel_one_of c hs fs g) r s =
    take_turn-agree Rel Stored Rel p w u _ _ s (λ w u s. h _ _ _ _ _ _ _ _ w u g (anew-scope c (recursive-rel c hs fs)) r s)

pub apply-rel : (k : ℕ) → Calls (apply k) (run.apply k)
apply-rel zero = enter-rel _ _ (λ _ _ _ _ _ _ _ _ w u f c r s. both_stop out_of_turns s)
apply-rel (suc k) = enter-rel _ _ (λ _ _ _ _ _ _ _ _ w u f c r s. fun-rel (apply k) (run.apply k) (apply-rel k) f w u c r s)

-- Runs

pub named-rel : (p : Value) (q : V) (w : World Value) (u : World V) → Rel p q → Alike w u → identifier_of q u ≡ packet_identifier p w
named-rel p q w u (rel_exn n) s = ap (λ l. slice_get l n) s.exceptions
named-rel p q w u (rel_exn_of n h) s = ap (λ l. slice_get l n) s.exceptions
named-rel p q w u (rel_literal l) s = refl
named-rel p q w u (rel_record l) s = refl
named-rel p q w u (rel_con l e) s = refl
named-rel p q w u (rel_con_of l e h) s = refl
named-rel p q w u rel_ref s = refl
named-rel p q w u (rel_address l) s = refl
named-rel p q w u (rel_primitive l) s = refl
named-rel p q w u (rel_alone c f) s = refl
named-rel p q w u (rel_one_of c h fs f) s = refl

-- in an environment that the scope covers
pub meaning-kept : {s r : Scope} {k j : ℕ} {e : Env} {ds : bare.Decs} {ds' : prog.Decs} → Covers k made.empty s e → DecsTo s k ds ds' r j → (m : ℕ)
    → run.run initial_identifiers ds' m ≡ meaning_in e ds m
meaning-kept {r = r} {k = k} {j = j} c h m =
    outcome_of-agree Rel Stored (Anew k j made.empty r) packet_identifier identifier_of named-rel
    (decs-rel (apply m) (run.apply m) (apply-rel m) h (begin m) _ c (record { output = refl; left = refl; taken = refl; store = none; exceptions = refl }))
