-- With more turns a run does the same, or goes on from where it was cut short.
use Rattle.std.proofs.Common.{◌≡◌, ℕ, zero, suc, ◌≤◌, Bool, true, false, if◌then◌else◌, nat_lt, List, [], ◌∷◌, ◌++◌, length, Option, Some, None, refl, sym, ap, ◌∙◌, subst, append_assoc, append-nil, arith}
use Rattle.std.specs.Prelude.{slice_set}
use Rattle.mlc_base.specs.declared.place.Place.{Place}
use Rattle.mlc_runs.specs.Outcome.{Outcome}
use Rattle.mlc_runs.specs.Run.{World, out_of_turns, went_wrong, Answer, gives, raises, stops, then_do, or_handle, or_fail, fail, turn_from, new_reference, assign, outcome_of}
use Rattle.ty_basis.specs.of_mlc_prims.LitOf.{Literal, int, word, char, string, truth}
use Rattle.ty_basis.specs.of_mlc_prims.PrimOf.{Gives, made, raised}
use Rattle.sml_tree.specs.BareTree.{ExBind, new_exn, same_exn, Exp, constant_exp, vid_exp, built_exp, fields_exp, let_in, app, typed, handle, raise, fn, ExpFields, no_exp_fields, exp_field, Rules, no_rules, rule, Decs, no_decs, dec, Dec, val_dec, type_dec, datatype_dec, replicate_dec, exception_dec, local_dec, open_dec, sequence_dec, Binds, no_binds, bind}
use Rattle.ty_basis.specs.of_ty_core.declared.env.Status.TheVariants.{Exception}
use Rattle.ty_basis.specs.of_mlc_prims.Table.{row_of}
use Rattle.ty_basis.specs.of_mlc_prims.declared.basis.BasisPrimitive.{BasisPrimitive}
use Rattle.ty_basis.specs.of_mlc_prims.declared.basis.BasisPrimitive.TheVariants as prim
use Rattle.core_rules.specs.Initial.{prelude_members, dynamic_env}
use Rattle.core_rules.specs.Project.{Part, source, standard_basis, eval_all, dynamic_standard}
use Rattle.core_rules.specs.Values.{Value, literal, record_of, con, con_of, ref, address, exn, exn_of, primitive, closure, field, unit_value, Env, value, nothing, tycon, plus, long_value_in}
use Rattle.core_rules.specs.Match.{address_in, exn_in, same_value, match, Matching, binds, fails, misfits}
use Rattle.core_rules.specs.Eval.{match_packet, bind_packet, raise_value, truth_value, giving, arguments, literals, perform_equals, perform_assign, perform_print, perform_literals, perform, recursive, with_recursive, all_fns, Apply, on_match, long_tycon_in, opened, identifier, eval_exns, eval, eval_fields, eval_rules, eval_decs, eval_dec, eval_binds, enter, apply}
use Rattle.core_rules.specs.Meaning.{packet_identifier, begin}
use Rattle.core_rules.specs.Laws.{DeclarationsGrow, IsPrefix, GrowsTo, MeaningGrows}

prefix-refl : (o : List ℕ) → IsPrefix o o
prefix-refl o = ([], sym (append-nil o))

prefix-trans : (a b c : List ℕ) → IsPrefix a b → IsPrefix b c → IsPrefix a c
prefix-trans a b c h k = (h.0 ++ k.0, k.1 ∙ ap (λ l. l ++ k.0) h.1 ∙ append_assoc a h.0 k.0)

abbrev output_in : {A : Type 0} → Answer Value A → List ℕ
output_in (gives a w) = w.output
output_in (raises p w) = w.output
output_in (stops c w) = w.output

abbrev Grows : {A : Type 0} → World Value → Answer Value A → Type 0
Grows w r = IsPrefix w.output (output_in r)

-- at most n turns are left in w, and at most k
record Near (k : ℕ) (w : World Value) (n : ℕ) : Type 0 where
  more : w.left ≤ n
  within : w.left ≤ k

abbrev with_left : World Value → ℕ → World Value
with_left w n = record w { left = n }

-- an answer with fewer turns, at most k, and one with more
data Follows {A : Type 0} (k : ℕ) : Answer Value A → Answer Value A → Type 0 where
  both_give : (a : A) (w : World Value) (n : ℕ) → Near k w n → Follows k (gives a w) (gives a (with_left w n))
  both_raise : (p : Value) (w : World Value) (n : ℕ) → Near k w n → Follows k (raises p w) (raises p (with_left w n))
  both_wrong : (w : World Value) (n : ℕ) → Near k w n → Follows k (stops went_wrong w) (stops went_wrong (with_left w n))
  cut_short : (w : World Value) (r : Answer Value A) → IsPrefix w.output (output_in r) → Follows k (stops out_of_turns w) r

module _ {A B : Type 0} where
  then-grows : (w : World Value) (r : Answer Value A) (go : A → World Value → Answer Value B) → Grows w r → ((a : A) (u : World Value) → Grows u (go a u)) → Grows w (then_do r go)
  then-grows w (gives a u) go h k = prefix-trans _ _ _ h (k a u)
  then-grows w (raises p u) go h k = h
  then-grows w (stops c u) go h k = h

  then-follows : {k : ℕ} {r r' : Answer Value A} (go go' : A → World Value → Answer Value B) → Follows k r r' → ((a : A) (u : World Value) → Grows u (go' a u)) → ((a : A) (u : World Value) (n : ℕ) → Near k u n → Follows k (go a u) (go' a (with_left u n))) → Follows k (then_do r go) (then_do r' go')
  then-follows go go' (both_give a w n x) g h = h a w n x
  then-follows go go' (both_raise p w n x) g h = both_raise p w n x
  then-follows go go' (both_wrong w n x) g h = both_wrong w n x
  then-follows go go' (cut_short w r i) g h = cut_short w (then_do r go') (then-grows w r go' i g)

  or-grows : (o : Option A) (w : World Value) (go : A → Answer Value B) → ((a : A) → Grows w (go a)) → Grows w (or_fail o w go)
  or-grows None w go h = prefix-refl w.output
  or-grows (Some a) w go h = h a

  or-follows : {k : ℕ} (o : Option A) (w : World Value) (n : ℕ) (go go' : A → Answer Value B) → Near k w n → ((a : A) → Follows k (go a) (go' a)) → Follows k (or_fail o w go) (or_fail o (with_left w n) go')
  or-follows None w n go go' x h = both_wrong w n x
  or-follows (Some a) w n go go' x h = h a

module _ {A : Type 0} where
  handle-grows : (w : World Value) (r : Answer Value A) (go : Value → World Value → Answer Value A) → Grows w r → ((p : Value) (u : World Value) → Grows u (go p u)) → Grows w (or_handle r go)
  handle-grows w (gives a u) go h k = h
  handle-grows w (raises p u) go h k = prefix-trans _ _ _ h (k p u)
  handle-grows w (stops c u) go h k = h

  handle-follows : {k : ℕ} {r r' : Answer Value A} (go go' : Value → World Value → Answer Value A) → Follows k r r' → ((p : Value) (u : World Value) → Grows u (go' p u)) → ((p : Value) (u : World Value) (n : ℕ) → Near k u n → Follows k (go p u) (go' p (with_left u n))) → Follows k (or_handle r go) (or_handle r' go')
  handle-follows go go' (both_give a w n x) g h = both_give a w n x
  handle-follows go go' (both_raise p w n x) g h = h p w n x
  handle-follows go go' (both_wrong w n x) g h = both_wrong w n x
  handle-follows go go' (cut_short w r i) g h = cut_short w (or_handle r go') (handle-grows w r go' i g)

  match-grows : (o : Matching) (w : World Value) (go : Env → World Value → Answer Value A) (other : World Value → Answer Value A) → ((d : Env) → Grows w (go d w)) → Grows w (other w) → Grows w (on_match o w go other)
  match-grows (binds d) w go other h g = h d
  match-grows fails w go other h g = g
  match-grows misfits w go other h g = prefix-refl w.output

  match-follows : {k : ℕ} (o : Matching) (w : World Value) (n : ℕ) (go go' : Env → World Value → Answer Value A) (other other' : World Value → Answer Value A) → Near k w n → ((d : Env) → Follows k (go d w) (go' d (with_left w n))) → Follows k (other w) (other' (with_left w n)) → Follows k (on_match o w go other) (on_match o (with_left w n) go' other')
  match-follows (binds d) w n go go' other other' x h g = h d
  match-follows fails w n go go' other other' x h g = g
  match-follows misfits w n go go' other other' x h g = both_wrong w n x

  assign-grows : (a : ℕ) (v : Value) (w : World Value) (go : World Value → Answer Value A) → ((u : World Value) → Grows u (go u)) → Grows w (assign a v w go)
  assign-grows a v w go h = by (nat_lt a (length w.store))
    where
      by : (b : Bool) → Grows w (if b then go (record w { store = slice_set w.store a v }) else fail w)
      by true = h (record w { store = slice_set w.store a v })
      by false = prefix-refl w.output

  assign-follows : {k : ℕ} (a : ℕ) (v : Value) (w : World Value) (n : ℕ) (go go' : World Value → Answer Value A) → Near k w n → ((u : World Value) → Near k u n → Follows k (go u) (go' (with_left u n))) → Follows k (assign a v w go) (assign a v (with_left w n) go')
  assign-follows {k} a v w n go go' x h = by (nat_lt a (length w.store))
    where
      by : (b : Bool) → Follows k (if b then go (record w { store = slice_set w.store a v }) else fail w) (if b then go' (record w { store = slice_set w.store a v; left = n }) else fail (with_left w n))
      by true = h (record w { store = slice_set w.store a v }) (record { more = x.more; within = x.within })
      by false = both_wrong w n x

-- Primitives and packets

raise-grows : (v : Value) (w : World Value) → Grows w (raise_value v w)
raise-grows v w = or-grows (exn_in v) w (λ t. raises v w) (λ t. prefix-refl w.output)

raise-follows : {k : ℕ} (v : Value) (w : World Value) (n : ℕ) → Near k w n → Follows k (raise_value v w) (raise_value v (with_left w n))
raise-follows v w n x = or-follows (exn_in v) w n (λ t. raises v w) (λ t. raises v (with_left w n)) x (λ t. both_raise v w n x)

giving-grows : (g : Gives) (w : World Value) → Grows w (giving g w)
giving-grows (made l) w = prefix-refl w.output
giving-grows (raised e) w = prefix-refl w.output

giving-follows : {k : ℕ} (g : Gives) (w : World Value) (n : ℕ) → Near k w n → Follows k (giving g w) (giving g (with_left w n))
giving-follows (made l) w n x = both_give _ w n x
giving-follows (raised e) w n x = both_raise _ w n x

-- one world in, and one answer out that only keeps or adds to the output, whatever the turns are
record IsCalm {A : Type 0} (go : World Value → Answer Value A) : Type 0 where
  grows : (w : World Value) → Grows w (go w)
  follows : {k : ℕ} (w : World Value) (n : ℕ) → Near k w n → Follows k (go w) (go (with_left w n))

equals-calm : (vs : List Value) → IsCalm (perform_equals vs)
equals-calm [] = record { grows = λ w. prefix-refl w.output; follows = λ w n x. both_wrong w n x }
equals-calm (v ∷ []) = record { grows = λ w. prefix-refl w.output; follows = λ w n x. both_wrong w n x }
equals-calm (v ∷ u ∷ t ∷ vs) = record { grows = λ w. prefix-refl w.output; follows = λ w n x. both_wrong w n x }
equals-calm (v ∷ u ∷ []) = record {
  grows = λ w. or-grows (same_value v u) w (λ b. gives (truth_value b) w) (λ b. prefix-refl w.output);
  follows = λ w n x. or-follows (same_value v u) w n (λ b. gives (truth_value b) w) (λ b. gives (truth_value b) (with_left w n)) x (λ b. both_give _ w n x);
}

assigns-calm : (vs : List Value) → IsCalm (perform_assign vs)
assigns-calm [] = record { grows = λ w. prefix-refl w.output; follows = λ w n x. both_wrong w n x }
assigns-calm (v ∷ []) = record { grows = λ w. prefix-refl w.output; follows = λ w n x. both_wrong w n x }
assigns-calm (v ∷ u ∷ t ∷ vs) = record { grows = λ w. prefix-refl w.output; follows = λ w n x. both_wrong w n x }
assigns-calm (r ∷ v ∷ []) = record {
  grows = λ w. or-grows (address_in r) w (λ a. assign a v w (λ w. gives unit_value w)) (λ a. assign-grows a v w (λ w. gives unit_value w) (λ u. prefix-refl u.output));
  follows = λ w n x. or-follows (address_in r) w n (λ a. assign a v w (λ w. gives unit_value w)) (λ a. assign a v (with_left w n) (λ w. gives unit_value w)) x
      (λ a. assign-follows a v w n (λ w. gives unit_value w) (λ w. gives unit_value w) x (λ u y. both_give _ u n y));
}

print-calm : (ls : List Literal) → IsCalm (perform_print ls)
print-calm [] = record { grows = λ w. prefix-refl w.output; follows = λ w n x. both_wrong w n x }
print-calm (int z ∷ ls) = record { grows = λ w. prefix-refl w.output; follows = λ w n x. both_wrong w n x }
print-calm (word z ∷ ls) = record { grows = λ w. prefix-refl w.output; follows = λ w n x. both_wrong w n x }
print-calm (char z ∷ ls) = record { grows = λ w. prefix-refl w.output; follows = λ w n x. both_wrong w n x }
print-calm (truth z ∷ ls) = record { grows = λ w. prefix-refl w.output; follows = λ w n x. both_wrong w n x }
print-calm (string s ∷ l ∷ ls) = record { grows = λ w. prefix-refl w.output; follows = λ w n x. both_wrong w n x }
print-calm (string s ∷ []) = record { grows = λ w. (s, refl); follows = λ w n x. both_give _ (record w { output = w.output ++ s }) n (record { more = x.more; within = x.within }) }

table-calm : (q : BasisPrimitive) (ls : List Literal) → IsCalm (λ w. or_fail (row_of q ls) w (λ g. giving g w))
table-calm q ls = record {
  grows = λ w. or-grows (row_of q ls) w (λ g. giving g w) (λ g. giving-grows g w);
  follows = λ w n x. or-follows (row_of q ls) w n (λ g. giving g w) (λ g. giving g (with_left w n)) x (λ g. giving-follows g w n x);
}

-- split a primitive: `print`, `=` and `:=` apart from the table
literals-calm : (q : BasisPrimitive) (ls : List Literal) → IsCalm (perform_literals q ls)
literals-calm prim.Print ls = print-calm ls
literals-calm q ls = table-calm q ls

listed-calm : (q : BasisPrimitive) (vs : List Value) → IsCalm (λ w. or_fail (literals vs) w (λ ls. perform_literals q ls w))
listed-calm q vs = record {
  grows = λ w. or-grows (literals vs) w (λ ls. perform_literals q ls w) (λ ls. (literals-calm q ls).grows w);
  follows = λ w n x. or-follows (literals vs) w n (λ ls. perform_literals q ls w) (λ ls. perform_literals q ls (with_left w n)) x (λ ls. (literals-calm q ls).follows w n x);
}

perform-calm : (q : BasisPrimitive) (vs : List Value) → IsCalm (perform q vs)
perform-calm prim.Equals vs = equals-calm vs
perform-calm prim.Assign vs = assigns-calm vs
perform-calm q vs = listed-calm q vs

exns-calm : (e : Env) (bs : List ExBind) → IsCalm (eval_exns e bs)
exns-calm e [] = record { grows = λ w. prefix-refl w.output; follows = λ w n x. both_give nothing w n x }
exns-calm e (new_exn p y t ∷ bs) = record {
  grows = λ w. let u : World Value = record w { exceptions = w.exceptions ++ identifier y ∷ [] } in
      then-grows u (eval_exns e bs u) (λ d s. gives (value y Exception (exn (length w.exceptions)) d) s) ((exns-calm e bs).grows u) (λ d s. prefix-refl s.output);
  follows = λ w n x. let u : World Value = record w { exceptions = w.exceptions ++ identifier y ∷ [] } in
      then-follows (λ d s. gives (value y Exception (exn (length w.exceptions)) d) s) (λ d s. gives (value y Exception (exn (length w.exceptions)) d) s)
      ((exns-calm e bs).follows u n (record { more = x.more; within = x.within })) (λ d s. prefix-refl s.output) (λ d s n z. both_give _ s n z);
}
exns-calm e (same_exn p y q z ∷ bs) = record {
  grows = λ w. or-grows (long_value_in e z) w (λ f. then_do (eval_exns e bs w) (λ d w. gives (value y f.status f.value d) w))
      (λ f. then-grows w (eval_exns e bs w) (λ d w. gives (value y f.status f.value d) w) ((exns-calm e bs).grows w) (λ d s. prefix-refl s.output));
  follows = λ w n x. or-follows (long_value_in e z) w n (λ f. then_do (eval_exns e bs w) (λ d w. gives (value y f.status f.value d) w)) (λ f. then_do (eval_exns e bs (with_left w n)) (λ d w. gives (value y f.status f.value d) w)) x
      (λ f. then-follows (λ d w. gives (value y f.status f.value d) w) (λ d w. gives (value y f.status f.value d) w) ((exns-calm e bs).follows w n x) (λ d s. prefix-refl s.output) (λ d s n z. both_give _ s n z));
}

recursive-grows : (e : Env) (rs : Binds) (b : Bool) (d : Env) (w : World Value) → Grows w (with_recursive e rs b d w)
recursive-grows e rs true d w = prefix-refl w.output
recursive-grows e rs false d w = prefix-refl w.output

recursive-follows : {k : ℕ} (e : Env) (rs : Binds) (b : Bool) (d : Env) (w : World Value) (n : ℕ) → Near k w n → Follows k (with_recursive e rs b d w) (with_recursive e rs b d (with_left w n))
recursive-follows e rs true d w n x = both_give _ w n x
recursive-follows e rs false d w n x = both_wrong w n x

-- Calls, and phrases under them

abbrev CallsGrow : Apply → Type 0
CallsGrow call = (p : Place) (g v : Value) (w : World Value) → Grows w (call p g v w)

abbrev CallsFollow : ℕ → Apply → Apply → Type 0
CallsFollow k call call' = (p : Place) (g v : Value) (w : World Value) (n : ℕ) → Near k w n → Follows k (call p g v w) (call' p g v (with_left w n))

module _ (call : Apply) (calls : CallsGrow call) where
  mutual
    eval-grows : (e : Env) (b : Exp) (w : World Value) → Grows w (eval call e b w)
    eval-grows e (constant_exp p c) w = prefix-refl w.output
    eval-grows e (vid_exp p x) w = or-grows (long_value_in e x) w (λ f. gives f.value w) (λ f. prefix-refl w.output)
    eval-grows e (built_exp p b) w = prefix-refl w.output
    eval-grows e (fields_exp p fs) w = then-grows w (eval_fields call e fs w) (λ vs w. gives (record_of vs) w) (fields-grow e fs w) (λ vs u. prefix-refl u.output)
    eval-grows e (let_in p ds b) w = then-grows w (eval_decs call e ds w) (λ d w. eval call (plus e d) b w) (decs-grow e ds w) (λ d u. eval-grows (plus e d) b u)
    eval-grows e (app p (fn q rs) a) w = then-grows w (eval call e a w) (λ v w. eval_rules call e rs v match_packet w) (eval-grows e a w) (λ v u. rules-grow e rs v match_packet u)
    eval-grows e (app p f a) w =
        then-grows w (eval call e f w) (λ g w. then_do (eval call e a w) (λ v w. call p g v w)) (eval-grows e f w)
        (λ g u. then-grows u (eval call e a u) (λ v w. call p g v w) (eval-grows e a u) (λ v s. calls p g v s))
    eval-grows e (typed p b t) w = eval-grows e b w
    eval-grows e (handle p b rs) w = handle-grows w (eval call e b w) (λ k w. eval_rules call e rs k k w) (eval-grows e b w) (λ k u. rules-grow e rs k k u)
    eval-grows e (raise p b) w = then-grows w (eval call e b w) raise_value (eval-grows e b w) raise-grows
    eval-grows e (fn p rs) w = prefix-refl w.output

    fields-grow : (e : Env) (fs : ExpFields) (w : World Value) → Grows w (eval_fields call e fs w)
    fields-grow e no_exp_fields w = prefix-refl w.output
    fields-grow e (exp_field l b fs) w =
        then-grows w (eval call e b w) (λ v w. then_do (eval_fields call e fs w) (λ vs w. gives (field l v vs) w)) (eval-grows e b w)
        (λ v u. then-grows u (eval_fields call e fs u) (λ vs w. gives (field l v vs) w) (fields-grow e fs u) (λ vs s. prefix-refl s.output))

    rules-grow : (e : Env) (rs : Rules) (v k : Value) (w : World Value) → Grows w (eval_rules call e rs v k w)
    rules-grow e no_rules v k w = prefix-refl w.output
    rules-grow e (rule p a b rs) v k w =
        match-grows (match e w.store a v) w (λ d w. eval call (plus e d) b w) (λ w. eval_rules call e rs v k w) (λ d. eval-grows (plus e d) b w) (rules-grow e rs v k w)

    decs-grow : (e : Env) (ds : Decs) (w : World Value) → Grows w (eval_decs call e ds w)
    decs-grow e no_decs w = prefix-refl w.output
    decs-grow e (dec d ds) w =
        then-grows w (eval_dec call e d w) (λ d w. then_do (eval_decs call (plus e d) ds w) (λ d' w. gives (plus d d') w)) (dec-grows e d w)
        (λ d u. then-grows u (eval_decs call (plus e d) ds u) (λ d' w. gives (plus d d') w) (decs-grow (plus e d) ds u) (λ d' s. prefix-refl s.output))

    dec-grows : (e : Env) (d : Dec) (w : World Value) → Grows w (eval_dec call e d w)
    dec-grows e (val_dec p q as_ bs rs) w = then-grows w (eval_binds call e bs w) (with_recursive e rs (all_fns rs)) (binds-grow e bs w) (recursive-grows e rs (all_fns rs))
    dec-grows e (type_dec p bs) w = prefix-refl w.output
    dec-grows e (datatype_dec p bs) w = prefix-refl w.output
    dec-grows e (replicate_dec p x y) w = or-grows (long_tycon_in e y) w (λ d. gives (tycon x d d) w) (λ d. prefix-refl w.output)
    dec-grows e (exception_dec p bs) w = (exns-calm e bs).grows w
    dec-grows e (local_dec p ds ds') w = then-grows w (eval_decs call e ds w) (λ d w. eval_decs call (plus e d) ds' w) (decs-grow e ds w) (λ d u. decs-grow (plus e d) ds' u)
    dec-grows e (open_dec p xs) w = or-grows (opened e xs) w (λ d. gives d w) (λ d. prefix-refl w.output)
    dec-grows e (sequence_dec p ds) w = decs-grow e ds w

    binds-grow : (e : Env) (bs : Binds) (w : World Value) → Grows w (eval_binds call e bs w)
    binds-grow e no_binds w = prefix-refl w.output
    binds-grow e (bind p a b bs) w =
        then-grows w (eval call e b w) (λ v w. on_match (match e w.store a v) w (λ d w. then_do (eval_binds call e bs w) (λ d' w. gives (plus d d') w)) (λ w. raises bind_packet w)) (eval-grows e b w)
        (λ v u. match-grows (match e u.store a v) u (λ d w. then_do (eval_binds call e bs w) (λ d' w. gives (plus d d') w)) (λ w. raises bind_packet w)
        (λ d. then-grows u (eval_binds call e bs u) (λ d' w. gives (plus d d') w) (binds-grow e bs u) (λ d' s. prefix-refl s.output)) (prefix-refl u.output))

module _ (k : ℕ) (call call' : Apply) (grow : CallsGrow call') (calls : CallsFollow k call call') where
  mutual
    eval-follows : (e : Env) (b : Exp) (w : World Value) (n : ℕ) → Near k w n → Follows k (eval call e b w) (eval call' e b (with_left w n))
    eval-follows e (constant_exp p c) w n x = both_give _ w n x
    eval-follows e (vid_exp p y) w n x = or-follows (long_value_in e y) w n (λ f. gives f.value w) (λ f. gives f.value (with_left w n)) x (λ f. both_give _ w n x)
    eval-follows e (built_exp p b) w n x = both_give _ w n x
    eval-follows e (fields_exp p fs) w n x = then-follows (λ vs w. gives (record_of vs) w) (λ vs w. gives (record_of vs) w) (fields-follow e fs w n x) (λ vs u. prefix-refl u.output) (λ vs u n y. both_give _ u n y)
    eval-follows e (let_in p ds b) w n x = then-follows (λ d w. eval call (plus e d) b w) (λ d w. eval call' (plus e d) b w) (decs-follow e ds w n x) (λ d u. eval-grows call' grow (plus e d) b u) (λ d u n y. eval-follows (plus e d) b u n y)
    eval-follows e (app p (fn q rs) a) w n x = then-follows (λ v w. eval_rules call e rs v match_packet w) (λ v w. eval_rules call' e rs v match_packet w) (eval-follows e a w n x) (λ v u. rules-grow call' grow e rs v match_packet u) (λ v u n y. rules-follow e rs v match_packet u n y)
    eval-follows e (app p f a) w n x =
        then-follows (λ g w. then_do (eval call e a w) (λ v w. call p g v w)) (λ g w. then_do (eval call' e a w) (λ v w. call' p g v w)) (eval-follows e f w n x)
        (λ g u. then-grows u (eval call' e a u) (λ v w. call' p g v w) (eval-grows call' grow e a u) (λ v s. grow p g v s))
        (λ g u n y. then-follows (λ v w. call p g v w) (λ v w. call' p g v w) (eval-follows e a u n y) (λ v s. grow p g v s) (λ v s n z. calls p g v s n z))
    eval-follows e (typed p b t) w n x = eval-follows e b w n x
    eval-follows e (handle p b rs) w n x = handle-follows (λ k w. eval_rules call e rs k k w) (λ k w. eval_rules call' e rs k k w) (eval-follows e b w n x) (λ k u. rules-grow call' grow e rs k k u) (λ k u n y. rules-follow e rs k k u n y)
    eval-follows e (raise p b) w n x = then-follows raise_value raise_value (eval-follows e b w n x) raise-grows (λ v u n y. raise-follows v u n y)
    eval-follows e (fn p rs) w n x = both_give _ w n x

    fields-follow : (e : Env) (fs : ExpFields) (w : World Value) (n : ℕ) → Near k w n → Follows k (eval_fields call e fs w) (eval_fields call' e fs (with_left w n))
    fields-follow e no_exp_fields w n x = both_give _ w n x
    fields-follow e (exp_field l b fs) w n x =
        then-follows (λ v w. then_do (eval_fields call e fs w) (λ vs w. gives (field l v vs) w)) (λ v w. then_do (eval_fields call' e fs w) (λ vs w. gives (field l v vs) w)) (eval-follows e b w n x)
        (λ v u. then-grows u (eval_fields call' e fs u) (λ vs w. gives (field l v vs) w) (fields-grow call' grow e fs u) (λ vs s. prefix-refl s.output))
        (λ v u n y. then-follows (λ vs w. gives (field l v vs) w) (λ vs w. gives (field l v vs) w) (fields-follow e fs u n y) (λ vs s. prefix-refl s.output) (λ vs s n z. both_give _ s n z))

    rules-follow : (e : Env) (rs : Rules) (v q : Value) (w : World Value) (n : ℕ) → Near k w n → Follows k (eval_rules call e rs v q w) (eval_rules call' e rs v q (with_left w n))
    rules-follow e no_rules v q w n x = both_raise q w n x
    rules-follow e (rule p a b rs) v q w n x =
        match-follows (match e w.store a v) w n (λ d w. eval call (plus e d) b w) (λ d w. eval call' (plus e d) b w) (λ w. eval_rules call e rs v q w) (λ w. eval_rules call' e rs v q w) x (λ d. eval-follows (plus e d) b w n x) (rules-follow e rs v q w n x)

    decs-follow : (e : Env) (ds : Decs) (w : World Value) (n : ℕ) → Near k w n → Follows k (eval_decs call e ds w) (eval_decs call' e ds (with_left w n))
    decs-follow e no_decs w n x = both_give _ w n x
    decs-follow e (dec d ds) w n x =
        then-follows (λ d w. then_do (eval_decs call (plus e d) ds w) (λ d' w. gives (plus d d') w)) (λ d w. then_do (eval_decs call' (plus e d) ds w) (λ d' w. gives (plus d d') w)) (dec-follows e d w n x)
        (λ d u. then-grows u (eval_decs call' (plus e d) ds u) (λ d' w. gives (plus d d') w) (decs-grow call' grow (plus e d) ds u) (λ d' s. prefix-refl s.output))
        (λ d u n y. then-follows (λ d' w. gives (plus d d') w) (λ d' w. gives (plus d d') w) (decs-follow (plus e d) ds u n y) (λ d' s. prefix-refl s.output) (λ d' s n z. both_give _ s n z))

    dec-follows : (e : Env) (d : Dec) (w : World Value) (n : ℕ) → Near k w n → Follows k (eval_dec call e d w) (eval_dec call' e d (with_left w n))
    dec-follows e (val_dec p q as_ bs rs) w n x = then-follows (with_recursive e rs (all_fns rs)) (with_recursive e rs (all_fns rs)) (binds-follow e bs w n x) (recursive-grows e rs (all_fns rs)) (recursive-follows e rs (all_fns rs))
    dec-follows e (type_dec p bs) w n x = both_give _ w n x
    dec-follows e (datatype_dec p bs) w n x = both_give _ w n x
    dec-follows e (replicate_dec p y z) w n x = or-follows (long_tycon_in e z) w n (λ d. gives (tycon y d d) w) (λ d. gives (tycon y d d) (with_left w n)) x (λ d. both_give _ w n x)
    dec-follows e (exception_dec p bs) w n x = (exns-calm e bs).follows w n x
    dec-follows e (local_dec p ds ds') w n x = then-follows (λ d w. eval_decs call (plus e d) ds' w) (λ d w. eval_decs call' (plus e d) ds' w) (decs-follow e ds w n x) (λ d u. decs-grow call' grow (plus e d) ds' u) (λ d u n y. decs-follow (plus e d) ds' u n y)
    dec-follows e (open_dec p xs) w n x = or-follows (opened e xs) w n (λ d. gives d w) (λ d. gives d (with_left w n)) x (λ d. both_give _ w n x)
    dec-follows e (sequence_dec p ds) w n x = decs-follow e ds w n x

    binds-follow : (e : Env) (bs : Binds) (w : World Value) (n : ℕ) → Near k w n → Follows k (eval_binds call e bs w) (eval_binds call' e bs (with_left w n))
    binds-follow e no_binds w n x = both_give _ w n x
    binds-follow e (bind p a b bs) w n x =
        then-follows (λ v w. on_match (match e w.store a v) w (λ d w. then_do (eval_binds call e bs w) (λ d' w. gives (plus d d') w)) (λ w. raises bind_packet w)) (λ v w. on_match (match e w.store a v) w (λ d w. then_do (eval_binds call' e bs w) (λ d' w. gives (plus d d') w)) (λ w. raises bind_packet w)) (eval-follows e b w n x)
        (λ v u. match-grows (match e u.store a v) u (λ d w. then_do (eval_binds call' e bs w) (λ d' w. gives (plus d d') w)) (λ w. raises bind_packet w)
        (λ d. then-grows u (eval_binds call' e bs u) (λ d' w. gives (plus d d') w) (binds-grow call' grow e bs u) (λ d' s. prefix-refl s.output)) (prefix-refl u.output))
        (λ v u n y. match-follows (match e u.store a v) u n (λ d w. then_do (eval_binds call e bs w) (λ d' w. gives (plus d d') w)) (λ d w. then_do (eval_binds call' e bs w) (λ d' w. gives (plus d d') w)) (λ w. raises bind_packet w) (λ w. raises bind_packet w) y
        (λ d. then-follows (λ d' w. gives (plus d d') w) (λ d' w. gives (plus d d') w) (binds-follow e bs u n y) (λ d' s. prefix-refl s.output) (λ d' s n z. both_give _ s n z)) (both_raise _ u n y))

-- Turns

abbrev Go : Type 0
Go = World Value → Answer Value Value

abbrev Body : Type 0
Body = Env → Rules → Value → Go

turn-grows : (n : ℕ) (p : Place) (w : World Value) (go : Go) → ((u : World Value) → Grows u (go u)) → Grows w (turn_from n p w go)
turn-grows zero p w go h = prefix-refl w.output
turn-grows (suc n) p w go h = h (record w { left = n; taken = w.taken ++ p ∷ [] })

wider : {j k : ℕ} {r r' : Answer Value Value} → j ≤ k → Follows j r r' → Follows k r r'
wider le (both_give a w n x) = both_give a w n (record { more = x.more; within = let h = x.within in omega arith })
wider le (both_raise p w n x) = both_raise p w n (record { more = x.more; within = let h = x.within in omega arith })
wider le (both_wrong w n x) = both_wrong w n (record { more = x.more; within = let h = x.within in omega arith })
wider le (cut_short w r h) = cut_short w r h

turn-follows : (l n j : ℕ) (p : Place) (w : World Value) (go go' : Go) → l ≤ n → l ≤ suc j → ((u : World Value) → Grows u (go' u)) → ((u : World Value) (n : ℕ) → Near j u n → Follows j (go u) (go' (with_left u n))) → Follows (suc j) (turn_from l p w go) (turn_from n p (with_left w n) go')
turn-follows zero n j p w go go' le lj g h = cut_short w _ (turn-grows n p (with_left w n) go' g)
turn-follows (suc l) zero j p w go go' le lj g h = absurd (omega arith)
turn-follows (suc l) (suc n) j p w go go' le lj g h = wider (omega arith) (h (record w { left = l; taken = w.taken ++ p ∷ [] }) n (record { more = omega arith; within = omega arith }))

no_turn-follows : (l n : ℕ) (p : Place) (w : World Value) (go go' : Go) → l ≤ 0 → ((u : World Value) → Grows u (go' u)) → Follows 0 (turn_from l p w go) (turn_from n p (with_left w n) go')
no_turn-follows zero n p w go go' le g = cut_short w _ (turn-grows n p (with_left w n) go' g)
no_turn-follows (suc l) n p w go go' le g = absurd (omega arith)

abbrev referred : Value → Go
referred v u = new_reference v u (λ a w. gives (address a) w)

reference-grows : (v : Value) (u : World Value) → Grows u (referred v u)
reference-grows v u = prefix-refl u.output

enter-grows : (go : Body) → ((e : Env) (rs : Rules) (v : Value) (w : World Value) → Grows w (go e rs v w)) → CallsGrow (enter go)
enter-grows go h p (literal l) v w = prefix-refl w.output
enter-grows go h p (record_of fs) v w = prefix-refl w.output
enter-grows go h p (con c) v w = turn-grows w.left p w _ (λ u. prefix-refl u.output)
enter-grows go h p (con_of c a) v w = prefix-refl w.output
enter-grows go h p ref v w = turn-grows w.left p w _ (reference-grows v)
enter-grows go h p (address a) v w = prefix-refl w.output
enter-grows go h p (exn i) v w = turn-grows w.left p w _ (λ u. prefix-refl u.output)
enter-grows go h p (exn_of i a) v w = prefix-refl w.output
enter-grows go h p (primitive q) v w = turn-grows w.left p w _ (λ u. (perform-calm q (arguments v)).grows u)
enter-grows go h p (closure rs e bs) v w = turn-grows w.left p w _ (λ u. h (plus e (recursive e bs)) rs v u)

enter-follows : (j : ℕ) (go go' : Body) → ((e : Env) (rs : Rules) (v : Value) (w : World Value) → Grows w (go' e rs v w)) → ((e : Env) (rs : Rules) (v : Value) (w : World Value) (n : ℕ) → Near j w n → Follows j (go e rs v w) (go' e rs v (with_left w n))) → CallsFollow (suc j) (enter go) (enter go')
enter-follows j go go' g h p (literal l) v w n x = both_wrong w n x
enter-follows j go go' g h p (record_of fs) v w n x = both_wrong w n x
enter-follows j go go' g h p (con c) v w n x = turn-follows w.left n j p w _ _ x.more x.within (λ u. prefix-refl u.output) (λ u n y. both_give _ u n y)
enter-follows j go go' g h p (con_of c a) v w n x = both_wrong w n x
enter-follows j go go' g h p ref v w n x = turn-follows w.left n j p w _ _ x.more x.within (reference-grows v) (λ u n y. both_give _ (record u { store = u.store ++ v ∷ [] }) n (record { more = y.more; within = y.within }))
enter-follows j go go' g h p (address a) v w n x = both_wrong w n x
enter-follows j go go' g h p (exn i) v w n x = turn-follows w.left n j p w _ _ x.more x.within (λ u. prefix-refl u.output) (λ u n y. both_give _ u n y)
enter-follows j go go' g h p (exn_of i a) v w n x = both_wrong w n x
enter-follows j go go' g h p (primitive q) v w n x = turn-follows w.left n j p w _ _ x.more x.within (λ u. (perform-calm q (arguments v)).grows u) (λ u n y. (perform-calm q (arguments v)).follows u n y)
enter-follows j go go' g h p (closure rs e bs) v w n x = turn-follows w.left n j p w _ _ x.more x.within (λ u. g (plus e (recursive e bs)) rs v u) (λ u n y. h (plus e (recursive e bs)) rs v u n y)

enter-none : (go go' : Body) → ((e : Env) (rs : Rules) (v : Value) (w : World Value) → Grows w (go' e rs v w)) → CallsFollow 0 (enter go) (enter go')
enter-none go go' g p (literal l) v w n x = both_wrong w n x
enter-none go go' g p (record_of fs) v w n x = both_wrong w n x
enter-none go go' g p (con c) v w n x = no_turn-follows w.left n p w _ _ x.within (λ u. prefix-refl u.output)
enter-none go go' g p (con_of c a) v w n x = both_wrong w n x
enter-none go go' g p ref v w n x = no_turn-follows w.left n p w _ _ x.within (reference-grows v)
enter-none go go' g p (address a) v w n x = both_wrong w n x
enter-none go go' g p (exn i) v w n x = no_turn-follows w.left n p w _ _ x.within (λ u. prefix-refl u.output)
enter-none go go' g p (exn_of i a) v w n x = both_wrong w n x
enter-none go go' g p (primitive q) v w n x = no_turn-follows w.left n p w _ _ x.within (λ u. (perform-calm q (arguments v)).grows u)
enter-none go go' g p (closure rs e bs) v w n x = no_turn-follows w.left n p w _ _ x.within (λ u. g (plus e (recursive e bs)) rs v u)

apply-grows : (k : ℕ) → CallsGrow (apply k)
apply-grows zero = enter-grows (λ e rs v w. stops out_of_turns w) (λ e rs v w. prefix-refl w.output)
apply-grows (suc k) = enter-grows (λ e rs v w. eval_rules (apply k) e rs v match_packet w) (λ e rs v w. rules-grow (apply k) (apply-grows k) e rs v match_packet w)

apply-follows : (j k : ℕ) → j ≤ k → CallsFollow j (apply j) (apply k)
apply-follows zero zero le = enter-none (λ e rs v w. stops out_of_turns w) (λ e rs v w. stops out_of_turns w) (λ e rs v w. prefix-refl w.output)
apply-follows zero (suc k) le = enter-none (λ e rs v w. stops out_of_turns w) (λ e rs v w. eval_rules (apply k) e rs v match_packet w) (λ e rs v w. rules-grow (apply k) (apply-grows k) e rs v match_packet w)
apply-follows (suc j) zero le = absurd (omega arith)
apply-follows (suc j) (suc k) le =
    enter-follows j (λ e rs v w. eval_rules (apply j) e rs v match_packet w) (λ e rs v w. eval_rules (apply k) e rs v match_packet w)
    (λ e rs v w. rules-grow (apply k) (apply-grows k) e rs v match_packet w) (λ e rs v w n x. rules-follow j (apply j) (apply k) (apply-grows k) (apply-follows j k (omega arith)) e rs v match_packet w n x)

-- Whole runs

abbrev out_of : {A : Type 0} → Answer Value A → Outcome
out_of r = outcome_of packet_identifier r

out-output : {A : Type 0} (r : Answer Value A) → (out_of r).output ≡ output_in r
out-output (gives a w) = refl
out-output (raises p w) = refl
out-output (stops c w) = refl

grown : {A : Type 0} {k : ℕ} {r r' : Answer Value A} → Follows k r r' → GrowsTo (out_of r) (out_of r')
grown (both_give a w n x) = record { output = prefix-refl w.output; end = λ h. (refl, refl) }
grown (both_raise p w n x) = record { output = prefix-refl w.output; end = λ h. (refl, refl) }
grown (both_wrong w n x) = record { output = prefix-refl w.output; end = λ h. (refl, refl) }
grown (cut_short w r h) = record { output = subst (IsPrefix w.output) (sym (out-output r)) h; end = λ h. absurd (h refl) }

near-start : (m n : ℕ) → m ≤ n → Near m (begin m) n
near-start m n le = record { more = le; within = omega arith }

pub declarations-grow : DeclarationsGrow
declarations-grow e ds m n le = grown (decs-follow m (apply m) (apply n) (apply-grows n) (apply-follows m n le) e ds (begin m) n (near-start m n le))

-- Projects

module _ (prelude : Decs) where
  all-grow : (call : Apply) → CallsGrow call → (parts : List Part) (e : Env) (s : Option Env) (w : World Value) → Grows w (eval_all prelude call e s parts w)
  all-grow call g [] e s w = prefix-refl w.output
  all-grow call g (source run ∷ parts) e s w = then-grows w (eval_decs call e run w) (λ d w. eval_all prelude call (plus e d) s parts w) (decs-grow call g e run w) (λ d u. all-grow call g parts (plus e d) s u)
  all-grow call g (standard_basis ∷ parts) e None w =
      then-grows w (eval_decs call (dynamic_env prelude_members) prelude w) (λ d w. eval_all prelude call (plus e (dynamic_standard prelude d)) (Some (dynamic_standard prelude d)) parts w)
      (decs-grow call g (dynamic_env prelude_members) prelude w) (λ d u. all-grow call g parts (plus e (dynamic_standard prelude d)) (Some (dynamic_standard prelude d)) u)
  all-grow call g (standard_basis ∷ parts) e (Some d) w = all-grow call g parts (plus e d) (Some d) w

  all-follow : (k : ℕ) (call call' : Apply) → CallsGrow call' → CallsFollow k call call' → (parts : List Part) (e : Env) (s : Option Env) (w : World Value) (n : ℕ) → Near k w n →
      Follows k (eval_all prelude call e s parts w) (eval_all prelude call' e s parts (with_left w n))
  all-follow k call call' g f [] e s w n x = both_give e w n x
  all-follow k call call' g f (source run ∷ parts) e s w n x =
      then-follows (λ d w. eval_all prelude call (plus e d) s parts w) (λ d w. eval_all prelude call' (plus e d) s parts w) (decs-follow k call call' g f e run w n x)
      (λ d u. all-grow call' g parts (plus e d) s u) (λ d u n' y. all-follow k call call' g f parts (plus e d) s u n' y)
  all-follow k call call' g f (standard_basis ∷ parts) e None w n x =
      then-follows (λ d w. eval_all prelude call (plus e (dynamic_standard prelude d)) (Some (dynamic_standard prelude d)) parts w)
      (λ d w. eval_all prelude call' (plus e (dynamic_standard prelude d)) (Some (dynamic_standard prelude d)) parts w)
      (decs-follow k call call' g f (dynamic_env prelude_members) prelude w n x)
      (λ d u. all-grow call' g parts (plus e (dynamic_standard prelude d)) (Some (dynamic_standard prelude d)) u)
      (λ d u n' y. all-follow k call call' g f parts (plus e (dynamic_standard prelude d)) (Some (dynamic_standard prelude d)) u n' y)
  all-follow k call call' g f (standard_basis ∷ parts) e (Some d) w n x = all-follow k call call' g f parts (plus e d) (Some d) w n x

pub meaning-grows : MeaningGrows
meaning-grows prelude parts m n le = grown (all-follow prelude m (apply m) (apply n) (apply-grows n) (apply-follows m n le) parts nothing None (begin m) n (near-start m n le))
