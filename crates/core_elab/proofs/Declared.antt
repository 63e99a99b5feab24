-- Groups of functions, parameters, datatypes and exceptions.
use Rattle.std.proofs.Common.{◌≡◌, ℕ, suc, ◌≤◌, true, List, [], ◌∷◌, Option, Some, refl, sym, ◌∙◌, arith}
use Rattle.mlc_runs.specs.Run.{World, Answer, gives, then_do, or_fail}
use Rattle.mlc_runs.proofs.RunLaws.{then_do-then_do}
use Rattle.core_rules.specs.of_sml_tree.declared.ident.Vid.{Vid}
use Rattle.core_rules.specs.of_sml_tree.BareTree.{ConBind, DataBind, TypeBind, ExBind}
use Rattle.core_rules.specs.of_sml_tree.BareTree as bare
use Rattle.ty_core.specs.declared.env.Status.TheVariants.{Variable, Exception}
use Rattle.core_rules.specs.Values.{declared, Value, Env, value, exn, Found}
use Rattle.core_rules.specs.Match.{match}
use Rattle.core_rules.specs.Eval.{each_bound, unrolled, recursive, all_fns, cons_env, types_env, datatypes_env, eval_exns}
use Rattle.ir_poly.specs.of_ir_values.Values as made
use Rattle.ir_poly.specs.of_ir_values.Match.{matches}
use Rattle.ir_poly.specs.Prog as prog
use Rattle.ir_poly.specs.ProgMeaning.{V, Scope as Bound, Apply, bind_all, members_from, members}
use Rattle.ir_poly.specs.ProgMeaning as run
use Rattle.core_elab.specs.Scopes.{Denotes, variable, exception, Scope, scoped, plus_scope, types_scope}
use Rattle.ir_poly.specs.Prog.{held}
use Rattle.core_elab.specs.Resolves.{HeadTo, head_wild, head_variable, head_typed, head_as, HeadsTo, no_heads_to, heads_to, FunsTo, no_funs_to, fun_to, ParameterTo, any_parameter, variable_parameter, typed_parameter, ConsTo, no_cons_to, a_con_to, DatatypesTo, no_datatypes_to, a_datatype_to, ExnsTo, no_exns_to, new_exn_to, same_exn_to, joined}
use Rattle.core_elab.proofs.Agreeing.{Agree, both_give, both_raise, both_stop, new_exception-agree}
use Rattle.core_elab.proofs.Related.{Rel, rel_one_of, Stored, known_variable, known_constructor, known_held, known-more, Covers, covers_nothing, covers_value, covers_tycon, covers-more, covers-plus, Anew, anew-nothing, anew-unnamed, same-trans, bind-same, look-here}
use Rattle.core_elab.proofs.LookUps.{KnownAs, known_some, known-in, known-of}
use Rattle.core_elab.proofs.Matching.{Fitting, both_bind, fitting-variable}
use Rattle.core_elab.proofs.Performing.{Alike}

-- one more variable, in front of what was bound
anew-front : {k j : ℕ} {t u : Bound} {r : Scope} {d : Env} (x : Vid) (n : ℕ) {v : Value} {z : V} → j ≤ n → Rel v z → Anew k j t r d u
    → Anew k (suc n) t (scoped x (variable n) r) (value x Variable v d) (made.bind n z u)
anew-front x n {z = z} le r a = record {
  up = omega (arith, a.up);
  same = same-trans a.up a.same (bind-same n _ z le);
  covers = covers_value x (known_variable n (omega arith) (look-here n _ z) r) (covers-more (omega arith) (bind-same n _ z le) a.covers);
}

-- Groups

each-rel : {k j i : ℕ} {a : bare.Pat} {ns : List ℕ} {t u : Bound} {r r' : Scope} {v : Value} {z : V} {d : Env} → HeadTo j a ns r i r' → Rel v z
    → Anew k j t r d u → Anew k i t r' (each_bound a v d) (bind_all ns z u)
each-rel (head_wild p) q a = a
each-rel (head_variable p x n le) q a = anew-front x.vid n le q a
each-rel (head_typed p h) q a = each-rel h q a
each-rel (head_as p x n h le) q a = anew-front x n le q (each-rel h q a)

module _ {k0 J : ℕ} {t : Bound} {s R : Scope} {e : Env} {all : bare.Binds} {group : prog.Funs} (c : Covers k0 t s e) (hs : HeadsTo k0 all group R J)
    (fs : FunsTo (plus_scope s R) J all group) where
  unrolled-rel : {k j : ℕ} {bs : bare.Binds} {gs : prog.Funs} {r : Scope} → HeadsTo k bs gs r j → FunsTo (plus_scope s R) J bs gs
      → Anew k j t r (unrolled e all bs) (members_from gs group t)
  unrolled-rel (no_heads_to {k = k}) no_funs_to = anew-nothing k t
  unrolled-rel (heads_to p q rs ty f others head) (fun_to _ _ _ _ _ g gs) = each-rel head (rel_one_of c hs fs g) (unrolled-rel others gs)

pub recursive-rel : {k j : ℕ} {t : Bound} {s r : Scope} {e : Env} {bs : bare.Binds} {fs : prog.Funs} → Covers k t s e → HeadsTo k bs fs r j
    → FunsTo (plus_scope s r) j bs fs → Anew k j t r (recursive e bs) (members fs t)
recursive-rel c h f = unrolled-rel c h f h f

pub are-fns : {s : Scope} {k : ℕ} {bs : bare.Binds} {fs : prog.Funs} → FunsTo s k bs fs → all_fns bs ≡ true
are-fns no_funs_to = refl
are-fns (fun_to p q a ns ty f fs) = are-fns fs

-- Parameters

pub parameter-rel : {h k n : ℕ} {t : Bound} {s r : Scope} {e : Env} {a : bare.Pat} {v : Value} {z : V} (store : List Value) → ParameterTo s n a r
    → Covers h t s e → k ≤ n → Rel v z → Fitting k (suc n) r t (match e store a v) (matches (made.bind n z t))
parameter-rel {n = n} {t = t} {z = z} store (any_parameter p) c le q = both_bind (anew-unnamed n t z le)
parameter-rel {n = n} {t = t} store (variable_parameter p x i) c le q = fitting-variable x n t le i (known-in x c) q
parameter-rel store (typed_parameter p a) c le q = parameter-rel store a c le q

-- Types

pub cons-covers : {k : ℕ} {t : Bound} {cs : List ConBind} {r : Scope} → ConsTo cs r → Covers k t r (cons_env cs)
cons-covers no_cons_to = covers_nothing
cons-covers (a_con_to c e cs) = covers_value c.vid (known_constructor (declared c.vid) e) (cons-covers cs)

pub datatypes-covers : {k : ℕ} {t : Bound} {bs : List DataBind} {r : Scope} → DatatypesTo bs r → Covers k t r (datatypes_env bs)
datatypes-covers no_datatypes_to = covers_nothing
datatypes-covers (a_datatype_to b cs bs) = covers-plus (datatypes-covers bs) (covers_tycon b.tycon (cons-covers cs) (cons-covers cs))

pub types-covers : (k : ℕ) (t : Bound) (bs : List TypeBind) → Covers k t (types_scope bs) (types_env bs)
types-covers k t [] = covers_nothing
types-covers k t (b ∷ bs) = covers_tycon b.tycon covers_nothing (types-covers k t bs)

-- Answers, where one side only is changed

pub map-left : {A B C : Type 0} {S : A → B → Type 0} {T : C → B → Type 0} {r : Answer Value A} {r' : Answer V B} (g : A → C)
    → ((a : A) (b : B) → S a b → T (g a) b) → Agree Rel Stored S r r' → Agree Rel Stored T (then_do r (λ a w. gives (g a) w)) r'
map-left g h (both_give t s) = both_give (h _ _ t) s
map-left g h (both_raise r s) = both_raise r s
map-left g h (both_stop c s) = both_stop c s

-- Exceptions

alias-rel : {k j : ℕ} {t u : Bound} {n : Denotes} {r : Scope} {d : Env} {f : Found} (x : Vid) → KnownAs k t (Some n) (Some f) → Anew k j t r d u
    → Anew k j t (scoped x n r) (value x f.status f.value d) u
alias-rel x (known_some m) a = record { up = a.up; same = a.same; covers = covers_value x (known-more a.up a.same m) a.covers }

module _ (call' : Apply) where
  aliased-rel : {k j : ℕ} {t : Bound} {n : Denotes} {r : Scope} {o : Option Found} (x : Vid) (w : World Value) {rest : Answer Value Env}
      {rest' : Answer V Bound}
      → KnownAs k t (Some n) o → Agree Rel Stored (Anew k j t r) rest rest'
      → Agree Rel Stored (Anew k j t (scoped x n r)) (or_fail o w (λ f. then_do rest (λ d w. gives (value x f.status f.value d) w))) rest'
  aliased-rel x w (known_some {q = q} {v = v} m) a = map-left (λ d. value x q v d) (λ d z b. alias-rel x (known_some m) b) a

  pub exns-rel : {s : Scope} {k j : ℕ} {bs : List ExBind} {ds : prog.Decs} {r : Scope} → ExnsTo s k bs ds r j → {t : Bound} {e : Env} (w : World Value)
      (u : World V) → Covers k t s e → Alike w u → Agree Rel Stored (Anew k j t r) (eval_exns e bs w) (run.eval_decs call' ds t u)
  exns-rel (no_exns_to {k = k}) {t = t} w u c s = both_give (anew-nothing k t) s
  exns-rel {k = k} {j = j} (new_exn_to p x n a {r = r} le b) {t = t} w u c s =
      new_exception-agree Rel Stored (Anew k j t (scoped x (exception (held n)) r)) _ w u _ _ s (λ i w u s.
      let z : V = made.exn tt i in
      map-left (λ d. value x Exception (exn i) d)
      (λ d y m. record {
        up = omega (arith, le, m.up);
        same = same-trans (omega (arith, le)) (bind-same n t z le) m.same;
        covers = covers_value x (known-more m.up m.same (known_held n (omega arith) (look-here n t z))) m.covers;
      })
      (exns-rel b w u (covers-more (omega (arith, le)) (bind-same n t z le) c) s))
  exns-rel (same_exn_to p x q {y = y} i b) w u c s = aliased-rel x w (known-of y i c) (exns-rel b w u c s)

  -- declarations one after the other
  pub joined-is : (a b : prog.Decs) (t : Bound) (u : World V) → run.eval_decs call' (joined a b) t u ≡ then_do (run.eval_decs call' a t u)
      (λ t u. run.eval_decs call' b t u)
  joined-is prog.no_decs b t u = refl
  joined-is (prog.val_dec qs bs fs ds) b t u =
      (λ i. then_do (run.eval_binds call' bs t (members fs t) u) (λ t u. joined-is ds b t u i))
      ∙ sym (then_do-then_do (run.eval_binds call' bs t (members fs t) u) (λ t u. run.eval_decs call' ds t u) (λ t u. run.eval_decs call' b t u))
  joined-is (prog.exception_dec x n a ds) b t u = joined-is ds b _ _
  joined-is (prog.counted_dec n ds) b t u = joined-is ds b t u
