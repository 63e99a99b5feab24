-- What is put for each construct, in front of what was put for its parts, is the construct's copy.
use Rattle.std.proofs.Common.{◌≡◌, ◌+◌, ℕ, Bool, true, false, List, [], ◌∷◌, ◌++◌, drop, refl, sym, ap, ap₂, ◌∙◌, arith, append_assoc}
use Rattle.ty_core.specs.Types.{Typ}
use Rattle.ty_core.specs.Statics.{replace}
use Rattle.ty_core.specs.declared.scheme.Quantified.{Quantified}
use Rattle.ir_plain.specs.Copies.{strip, strip_arms, strip_op}
use Rattle.ir_plain.specs.Tree.{Case, is_literal, is_con, is_con_of, is_exn, is_exn_of, is_record, Exp, ret, let_in, rec_in, switch, first, miss, Arms, no_arms, arm, Op, fn, block, handle, Fun, last, more, Funs, no_funs, fun}
use Rattle.ir_plain.specs.Weight.{weight, arms_weight, op_weight, fun_weight, funs_weight}
use Rattle.ir_poly.specs.Tests.{Use, poly}
use Rattle.ir_poly.specs.Types.{changed}
use Rattle.plain_tree.specs.TreeOf.{StepTree, let_step, exception_step, name_step, rec_step, test_step, counted_step, put, onto}
use Rattle.mono_strip.specs.of_monomorphise.Expansion.{compared, arms_compared, op_compared, fun_compared, funs_compared}
use Rattle.mono_strip.specs.of_monomorphise.Monomorphise.{Name, Named, Groups, copy_of, atom, alone, units, fun_vars, group_at, others, without, case_vars, all_needs, let_needs, group_needs, needs, arms_needs, op_needs, fun_needs, funs_needs, case_needs, name_needs, copy, arms_copy, op_copy, fun_copy, funs_copy, copy_case, copy_name, copy_argument, more_lets, more_groups, all_groups}
use Rattle.mono_scopes.specs.Scopes.{Scopes, variable, binding, noting, noting_all}
use Rattle.mono_scopes.proofs.Noting.{parts-noted, bindings-noted, variables-noted, groups-noted}
use Rattle.mono_strip.proofs.Stripped.{stripped-lets}
use Rattle.mono_words.specs.Words.{Sign, ret_sign, miss_sign, first_sign, counted_sign, switch_sign, arm_sign, exception_sign, name_sign, group_sign, let_sign, fn_sign, parameter_sign, last_sign, block_sign, handle_sign, packet_sign, end_sign, spell, spell_arms, spell_op, spell_fun, spell_heads, spell_bodies}
use Rattle.mono_words.specs.Seen.{Seen, with_sign, with_needs, within, out, needed_types, made}
use Rattle.mono_words.specs.Made.{turned, turned_arms, turned_op, exp_made, op_made, arms_made, fun_made, bodies_made, case_entered, case_left, arm_left, let_made, more_lets_made, group_made, more_groups_made, still_bare, entered_step, left_step, all_bare, entered_all, left_all}

-- one part behind another
pub made-then : (f h : List Sign → List Sign) (w v : List Name) (ts us : List Typ) (k m : ℕ) (n : Seen)
    → made f w ts k (made h v us m n) ≡ made (λ l. f (h l)) (w ++ v) (ts ++ us) (k + m) n
made-then f h w v ts us k m n =
    let p = sym (parts-noted w v n.scopes) in
    let q = sym (append_assoc ts us n.compared) in
    let r : (n.nodes + m) + k ≡ n.nodes + (k + m) = omega arith in
    λ i. record { signs = f (h n.signs); scopes = p i; compared = q i; nodes = r i }

-- nothing but words, or needs
pub only-signs : (f : List Sign → List Sign) (n : Seen) → record { signs = f n.signs; scopes = n.scopes; compared = n.compared; nodes = n.nodes } ≡ made f [] [] 0 n
only-signs f n = let r : n.nodes ≡ n.nodes + 0 = omega arith in λ i. record { signs = f n.signs; scopes = n.scopes; compared = n.compared; nodes = r i }

-- a scope that is left holds what was needed of it, and the scopes around the rest
pub out-variable : (x : ℕ) (f : List Sign → List Sign) (w : List Name) (ts : List Typ) (k : ℕ) (n : Seen)
    → out (made f w ts k (within (variable x) n)) ≡ made f (without (x ∷ []) w) ts k n
out-variable x f w ts k n =
    let p = ap (drop 1) (variables-noted x w n.scopes) in
    λ i. record { signs = f n.signs; scopes = p i; compared = ts ++ n.compared; nodes = n.nodes + k }

pub out-binding : (vs : List ℕ) (u : List Typ) (f : List Sign → List Sign) (w : List Name) (ts : List Typ) (k : ℕ) (n : Seen)
    → out (made f w ts k (within (binding vs u []) n)) ≡ made f (without vs w) ts k n
out-binding vs u f w ts k n =
    let p = ap (drop 1) (bindings-noted vs u w n.scopes) in
    λ i. record { signs = f n.signs; scopes = p i; compared = ts ++ n.compared; nodes = n.nodes + k }

pub needed-binding : (vs : List ℕ) (u : List Typ) (w : List Name) (l : Scopes) → needed_types (noting w (binding vs u [] ∷ l)) ≡ others vs u w
needed-binding vs u w l = ap needed_types (bindings-noted vs u w l)

without-none : (w : List Name) → without [] w ≡ w
without-none [] = refl
without-none (copy_of x a ∷ w) = ap (λ v. copy_of x a ∷ v) (without-none w)

module _ (g : Groups) (s : ℕ → Typ) where
  -- attempts
  pub first-made : (bare : Bool) (e d : Exp poly) (n : Seen) → with_sign first_sign (exp_made bare g s e (exp_made bare g s d n)) ≡ exp_made bare g s (first e d) n
  first-made true e d n =
      ap (with_sign first_sign) (made-then (spell (strip (copy g s e))) (spell (strip (copy g s d))) (needs g s e) (needs g s d) (compared (strip (copy g s e))) (compared (strip (copy g s d)))
      (weight (strip (copy g s e))) (weight (strip (copy g s d))) n)
  first-made false e d n =
      ap (with_sign first_sign) (made-then (spell (copy g s e)) (spell (copy g s d)) (needs g s e) (needs g s d) (compared (copy g s e)) (compared (copy g s d)) (weight (copy g s e)) (weight (copy g s d)) n)

  -- arms
  arm-out : (f h : List Sign → List Sign) (w v : List Name) (ts us : List Typ) (k m : ℕ) (c : Case poly) (n : Seen)
      → case_left c (made f w ts k (case_entered c (made h v us m n))) ≡ made (λ l. f (h l)) (without (case_vars c) w ++ v) (ts ++ us) (k + m) n
  arm-out f h w v ts us k m (is_literal l) n = made-then f h w v ts us k m n ∙ ap (λ z. made (λ l. f (h l)) (z ++ v) (ts ++ us) (k + m) n) (sym (without-none w))
  arm-out f h w v ts us k m (is_con c) n = made-then f h w v ts us k m n ∙ ap (λ z. made (λ l. f (h l)) (z ++ v) (ts ++ us) (k + m) n) (sym (without-none w))
  arm-out f h w v ts us k m (is_con_of c x t) n = out-variable x f w ts k (made h v us m n) ∙ made-then f h (without (x ∷ []) w) v ts us k m n
  arm-out f h w v ts us k m (is_exn u) n = made-then f h w v ts us k m n ∙ ap (λ z. made (λ l. f (h l)) (z ++ v) (ts ++ us) (k + m) n) (sym (without-none w))
  arm-out f h w v ts us k m (is_exn_of u x t) n = out-variable x f w ts k (made h v us m n) ∙ made-then f h (without (x ∷ []) w) v ts us k m n
  arm-out f h w v ts us k m (is_record size) n = made-then f h w v ts us k m n ∙ ap (λ z. made (λ l. f (h l)) (z ++ v) (ts ++ us) (k + m) n) (sym (without-none w))

  needs-noted : (w v : List Name) (f : List Sign → List Sign) (ts : List Typ) (k : ℕ) (n : Seen) → with_needs w (made f v ts k n) ≡ made f (w ++ v) ts k n
  needs-noted w v f ts k n = let p = sym (parts-noted w v n.scopes) in λ i. record { signs = f n.signs; scopes = p i; compared = ts ++ n.compared; nodes = n.nodes + k }

  pub arm-made : (bare : Bool) (c : Case poly) (e : Exp poly) (arms : Arms poly) (n : Seen)
      → arm_left s c (exp_made bare g s e (case_entered c (arms_made bare g s arms n))) ≡ arms_made bare g s (arm c e arms) n
  arm-made bare c e arms n =
      ap (λ z. with_sign (arm_sign (copy_case s c)) (with_needs (case_needs c) z)) (arm-out (spell e') (spell_arms arms') (needs g s e) (arms_needs g s arms) (compared e') (arms_compared arms') (weight e') (arms_weight arms') c n)
      ∙ ap (with_sign (arm_sign (copy_case s c)))
      (needs-noted (case_needs c) (without (case_vars c) (needs g s e) ++ arms_needs g s arms) (λ l. spell e' (spell_arms arms' l)) (compared e' ++ arms_compared arms') (weight e' + arms_weight arms') n)
      ∙ go bare
    where
      e' : Exp Named
      e' = turned bare (copy g s e)

      arms' : Arms Named
      arms' = turned_arms bare (arms_copy g s arms)

      go : (b : Bool) → with_sign (arm_sign (copy_case s c)) (made (λ l. spell (turned b (copy g s e)) (spell_arms (turned_arms b (arms_copy g s arms)) l)) (case_needs c ++ (without (case_vars c) (needs g s e) ++ arms_needs g s arms))
          (compared (turned b (copy g s e)) ++ arms_compared (turned_arms b (arms_copy g s arms))) (weight (turned b (copy g s e)) + arms_weight (turned_arms b (arms_copy g s arms))) n)
          ≡ arms_made b g s (arm c e arms) n
      go true = refl
      go false = refl

  pub arms-end : (bare : Bool) (n : Seen) → with_sign end_sign n ≡ arms_made bare g s no_arms n
  arms-end true n = only-signs (λ l. end_sign ∷ l) n
  arms-end false n = only-signs (λ l. end_sign ∷ l) n

  pub switch-made : (bare : Bool) (u : Use) (t : Typ) (arms : Arms poly) (n : Seen)
      → with_sign (switch_sign (atom u) (replace s t)) (with_needs (atom u ∷ []) (arms_made bare g s arms n)) ≡ exp_made bare g s (switch u t arms) n
  switch-made true u t arms n =
      ap (with_sign (switch_sign (atom u) (replace s t)))
      (needs-noted (atom u ∷ []) (arms_needs g s arms) (spell_arms (strip_arms (arms_copy g s arms))) (arms_compared (strip_arms (arms_copy g s arms))) (arms_weight (strip_arms (arms_copy g s arms))) n)
  switch-made false u t arms n =
      ap (with_sign (switch_sign (atom u) (replace s t)))
      (needs-noted (atom u ∷ []) (arms_needs g s arms) (spell_arms (arms_copy g s arms)) (arms_compared (arms_copy g s arms)) (arms_weight (arms_copy g s arms)) n)

  pub ret-made : (bare : Bool) (u : Use) (n : Seen) → with_sign (ret_sign (atom u)) (with_needs (atom u ∷ []) n) ≡ exp_made bare g s (ret u) n
  ret-made true u n = let r : n.nodes ≡ n.nodes + 0 = omega arith in λ i. record { signs = ret_sign (atom u) ∷ n.signs; scopes = noting (atom u ∷ []) n.scopes; compared = n.compared; nodes = r i }
  ret-made false u n = let r : n.nodes ≡ n.nodes + 0 = omega arith in λ i. record { signs = ret_sign (atom u) ∷ n.signs; scopes = noting (atom u ∷ []) n.scopes; compared = n.compared; nodes = r i }

  pub miss-made : (bare : Bool) (n : Seen) → with_sign miss_sign n ≡ exp_made bare g s miss n
  miss-made true n = only-signs (λ l. miss_sign ∷ l) n
  miss-made false n = only-signs (λ l. miss_sign ∷ l) n

  -- functions
  pub last-made : (x : ℕ) (t : Typ) (e : Exp poly) (n : Seen) → with_sign (last_sign (alone x) (replace s t)) (out (exp_made false g s e (within (variable x) n))) ≡ fun_made g s (last x t e) n
  last-made x t e n = ap (with_sign (last_sign (alone x) (replace s t))) (out-variable x (spell (copy g s e)) (needs g s e) (compared (copy g s e)) (weight (copy g s e)) n)

  pub more-made : (x : ℕ) (t : Typ) (f : Fun poly) (n : Seen) → with_sign (parameter_sign (alone x) (replace s t)) (out (fun_made g s f (within (variable x) n))) ≡ fun_made g s (more x t f) n
  more-made x t f n = ap (with_sign (parameter_sign (alone x) (replace s t))) (out-variable x (spell_fun (fun_copy g s f)) (fun_needs g s f) (fun_compared (fun_copy g s f)) (fun_weight (fun_copy g s f)) n)

  pub bodies-made : (a : List Typ) (x : ℕ) (t : Typ) (f : Fun poly) (fs : Funs poly) (n : Seen) → fun_made g s f (bodies_made a g s fs n) ≡ bodies_made a g s (fun x t f fs) n
  bodies-made a x t f fs n =
      made-then (spell_fun (fun_copy g s f)) (spell_bodies (funs_copy a g s fs)) (fun_needs g s f) (funs_needs g s fs) (fun_compared (fun_copy g s f)) (funs_compared (funs_copy a g s fs))
      (fun_weight (fun_copy g s f)) (funs_weight (funs_copy a g s fs)) n

  pub no-bodies : (a : List Typ) (n : Seen) → n ≡ bodies_made a g s no_funs n
  no-bodies a n = only-signs (λ l. l) n

  -- operations that hold expressions
  pub fn-made : (bare : Bool) (f : Fun poly) (n : Seen) → with_sign fn_sign (fun_made g s f n) ≡ op_made bare g s (fn f) n
  fn-made true f n = refl
  fn-made false f n = refl

  pub block-made : (bare : Bool) (e : Exp poly) (n : Seen) → with_sign block_sign (exp_made bare g s e n) ≡ op_made bare g s (block e) n
  block-made true e n = refl
  block-made false e n = refl

  pub handle-made : (bare : Bool) (e d : Exp poly) (x : ℕ) (n : Seen)
      → with_sign handle_sign (exp_made false g s e (with_sign (packet_sign (alone x)) (out (exp_made false g s d (within (variable x) n))))) ≡ op_made bare g s (handle e x d) n
  handle-made bare e d x n =
      ap (λ z. with_sign handle_sign (exp_made false g s e (with_sign (packet_sign (alone x)) z))) (out-variable x (spell (copy g s d)) (needs g s d) (compared (copy g s d)) (weight (copy g s d)) n)
      ∙ ap (with_sign handle_sign)
      (made-then (spell (copy g s e)) (λ l. packet_sign (alone x) ∷ spell (copy g s d) l) (needs g s e) (without (x ∷ []) (needs g s d)) (compared (copy g s e)) (compared (copy g s d))
      (weight (copy g s e)) (weight (copy g s d)) n)
      ∙ go bare
    where
      go : (b : Bool) → with_sign handle_sign (made (λ l. spell (copy g s e) (packet_sign (alone x) ∷ spell (copy g s d) l)) (needs g s e ++ without (x ∷ []) (needs g s d))
          (compared (copy g s e) ++ compared (copy g s d)) (weight (copy g s e) + weight (copy g s d)) n) ≡ op_made b g s (handle e x d) n
      go true = refl
      go false = refl

  -- copies of a binding
  module _ (x : ℕ) (ps : List Quantified) (t : Typ) (o : Op poly) where
    op-then : (bare : Bool) (a : List Typ) (h : List Sign → List Sign) (v : List Name) (us : List Typ) (m : ℕ) (n : Seen)
        → let_made bare g s x ps t o a (made h v us m n)
        ≡ made (λ l. let_sign (copy_of x a) (replace (changed ps a s) t) ∷ spell_op (turned_op bare (op_copy g (changed ps a s) o)) (h l)) (op_needs g (changed ps a s) o ++ v)
        (op_compared (turned_op bare (op_copy g (changed ps a s) o)) ++ us) (op_weight (turned_op bare (op_copy g (changed ps a s) o)) + m) n
    op-then bare a h v us m n =
        ap (with_sign (let_sign (copy_of x a) (replace (changed ps a s) t)))
        (made-then (spell_op (turned_op bare (op_copy g (changed ps a s) o))) h (op_needs g (changed ps a s) o) v (op_compared (turned_op bare (op_copy g (changed ps a s) o))) us
        (op_weight (turned_op bare (op_copy g (changed ps a s) o))) m n)

    abbrev all-copies : List (List Typ) → Exp Named → Exp Named
    all-copies = more_lets (λ a. changed ps a s) x t (λ a. op_copy g (changed ps a s) o)

    abbrev one-needs : List Typ → List Name
    one-needs a = op_needs g (changed ps a s) o

    further-lets : (ts : List (List Typ)) (e : Exp Named) (v : List Name) (n : Seen) → more_lets_made g s x ps t o ts (made (spell e) v (compared e) (weight e) n)
        ≡ made (spell (all-copies ts e)) (all_needs one-needs ts ++ v) (compared (all-copies ts e)) (weight (all-copies ts e)) n
    further-lets [] e v n = refl
    further-lets (a ∷ ts) e v n =
        ap (let_made true g s x ps t o a) (further-lets ts e v n)
        ∙ op-then true a (spell (all-copies ts e)) (all_needs one-needs ts ++ v) (compared (all-copies ts e)) (weight (all-copies ts e)) n
        ∙ ap (λ z. made (spell (all-copies (a ∷ ts) e)) z (compared (all-copies (a ∷ ts) e)) (weight (all-copies (a ∷ ts) e)) n) (sym (append_assoc (one-needs a) (all_needs one-needs ts) v))

    let-left : (bare : Bool) (e : Exp poly) (n : Seen) → left_step bare g s (let_step x ps t o) (exp_made bare g s e (entered_step bare g s (let_step x ps t o) n)) ≡ exp_made bare g s (let_in x ps t o e) n
    let-left bare e n =
        ap₂ (λ ts z. let_made bare g s x ps t o (units ps) (more_lets_made g s x ps t o ts z))
        (needed-binding (x ∷ []) (units ps) (needs g s e) n.scopes)
        (out-binding (x ∷ []) (units ps) (spell e') (needs g s e) (compared e') (weight e') n)
        ∙ ap (let_made bare g s x ps t o (units ps)) (further-lets rest e' (without (x ∷ []) (needs g s e)) n)
        ∙ op-then bare (units ps) (spell (all-copies rest e')) (all_needs one-needs rest ++ without (x ∷ []) (needs g s e)) (compared (all-copies rest e')) (weight (all-copies rest e')) n
        ∙ go bare
      where
        e' : Exp Named
        e' = turned bare (copy g s e)

        rest : List (List Typ)
        rest = others (x ∷ []) (units ps) (needs g s e)

        regroup : one-needs (units ps) ++ (all_needs one-needs rest ++ without (x ∷ []) (needs g s e)) ≡ let_needs (units ps) (x ∷ []) one-needs (needs g s e)
        regroup = sym (append_assoc (one-needs (units ps)) (all_needs one-needs rest) (without (x ∷ []) (needs g s e)))

        go : (b : Bool) → made (λ l. let_sign (copy_of x (units ps)) (replace (changed ps (units ps) s) t) ∷ spell_op (turned_op b (op_copy g (changed ps (units ps) s) o)) (spell (all-copies rest (turned b (copy g s e))) l))
            (one-needs (units ps) ++ (all_needs one-needs rest ++ without (x ∷ []) (needs g s e)))
            (op_compared (turned_op b (op_copy g (changed ps (units ps) s) o)) ++ compared (all-copies rest (turned b (copy g s e))))
            (op_weight (turned_op b (op_copy g (changed ps (units ps) s) o)) + weight (all-copies rest (turned b (copy g s e)))) n
            ≡ exp_made b g s (let_in x ps t o e) n
        go false = ap (λ z. made (spell (copy g s (let_in x ps t o e))) z (compared (copy g s (let_in x ps t o e))) (weight (copy g s (let_in x ps t o e))) n) regroup
        go true =
            ap (λ z. made (spell (let_in (copy_of x (units ps)) tt (replace (changed ps (units ps) s) t) (strip_op (op_copy g (changed ps (units ps) s) o)) (all-copies rest (strip (copy g s e))))) z
            (compared (let_in (copy_of x (units ps)) tt (replace (changed ps (units ps) s) t) (strip_op (op_copy g (changed ps (units ps) s) o)) (all-copies rest (strip (copy g s e)))))
            (weight (let_in (copy_of x (units ps)) tt (replace (changed ps (units ps) s) t) (strip_op (op_copy g (changed ps (units ps) s) o)) (all-copies rest (strip (copy g s e))))) n) regroup
            ∙ ap (λ z. made (spell z) (needs g s (let_in x ps t o e)) (compared z) (weight z) n)
            (sym (stripped-lets (units ps) (λ a. changed ps a s) x t (λ a. op_copy g (changed ps a s) o) (needs g s e) (copy g s e)))

  -- copies of a group
  module _ (ps : List Quantified) (fs : Funs poly) where
    abbrev a-copy : List Typ → Funs Named
    a-copy a = funs_copy a (group_at fs a g) (changed ps a s) fs

    abbrev its-needs : List Typ → List Name
    its-needs a = funs_needs (group_at fs a g) (changed ps a s) fs

    -- in front of e, whose words and types are in front of those of n
    abbrev put-in : Scopes → Exp Named → Seen → Seen
    put-in l e n = record { signs = spell e n.signs; scopes = l; compared = compared e ++ n.compared; nodes = n.nodes + weight e }

    one-group : (a : List Typ) (l : Scopes) (e : Exp Named) (n : Seen) → group_made g s ps fs a (put-in l e n) ≡ put-in (noting (its-needs a) l) (rec_in tt (a-copy a) e) n
    one-group a l e n =
        let p = sym (append_assoc (funs_compared (a-copy a)) (compared e) n.compared) in
        let r : ((n.nodes + weight e) + funs_weight (a-copy a)) + 0 ≡ n.nodes + (funs_weight (a-copy a) + weight e) = omega arith in
        λ i. record { signs = group_sign ∷ spell_heads (a-copy a) (spell_bodies (a-copy a) (spell e n.signs)); scopes = noting (its-needs a) l; compared = p i; nodes = r i }

    further-groups : (ts : List (List Typ)) (l : Scopes) (e : Exp Named) (n : Seen) → more_groups_made g s ps fs ts (put-in l e n) ≡ put-in (noting_all its-needs ts l) (more_groups a-copy ts e) n
    further-groups [] l e n = refl
    further-groups (a ∷ ts) l e n = ap (group_made g s ps fs a) (further-groups ts l e n) ∙ one-group a (noting_all its-needs ts l) (more_groups a-copy ts e) n

    group-left : (bare : Bool) (e : Exp poly) (n : Seen) → left_step bare g s (rec_step ps fs) (exp_made false g s e (entered_step bare g s (rec_step ps fs) n)) ≡ exp_made bare g s (rec_in ps fs e) n
    group-left bare e n =
        ap₂ (λ ts z. out (group_made g s ps fs u (more_groups_made g s ps fs ts (within (binding vs u []) z))))
        (needed-binding vs u w n.scopes) (out-binding vs u (spell (copy g s e)) w (compared (copy g s e)) (weight (copy g s e)) n)
        ∙ ap (λ z. out (group_made g s ps fs u z)) (further-groups rest (binding vs u [] ∷ noting (without vs w) n.scopes) (copy g s e) n)
        ∙ ap out (one-group u (noting_all its-needs rest (binding vs u [] ∷ noting (without vs w) n.scopes)) (more_groups a-copy rest (copy g s e)) n)
        ∙ ap (λ l. put-in (drop 1 l) (all_groups u vs a-copy w (copy g s e)) n) (groups-noted u vs its-needs w n.scopes)
        ∙ go bare
      where
        vs : List ℕ
        vs = fun_vars fs

        u : List Typ
        u = units ps

        w : List Name
        w = needs g s e

        rest : List (List Typ)
        rest = others vs u w

        go : (b : Bool) → put-in (noting (group_needs u vs its-needs w) n.scopes) (all_groups u vs a-copy w (copy g s e)) n ≡ exp_made b g s (rec_in ps fs e) n
        go true = refl
        go false = refl

  -- steps
  pub step-made : (bare : Bool) (st : StepTree poly) (e : Exp poly) (n : Seen)
      → left_step bare g s st (exp_made (still_bare bare st) g s e (entered_step bare g s st n)) ≡ exp_made bare g s (put st e) n
  step-made bare (let_step x ps t o) e n = let-left x ps t o bare e n
  step-made true (exception_step x i a) e n =
      ap (with_sign (exception_sign (alone x) i (copy_argument s a))) (out-variable x (spell (copy g s e)) (needs g s e) (compared (copy g s e)) (weight (copy g s e)) n)
  step-made false (exception_step x i a) e n =
      ap (with_sign (exception_sign (alone x) i (copy_argument s a))) (out-variable x (spell (copy g s e)) (needs g s e) (compared (copy g s e)) (weight (copy g s e)) n)
  step-made true (name_step x y) e n =
      ap (λ z. with_sign (name_sign (alone x) (copy_name y)) (with_needs (name_needs y) z)) (out-variable x (spell (strip (copy g s e))) (needs g s e) (compared (strip (copy g s e))) (weight (strip (copy g s e))) n)
      ∙ ap (with_sign (name_sign (alone x) (copy_name y))) (needs-noted (name_needs y) (without (x ∷ []) (needs g s e)) (spell (strip (copy g s e))) (compared (strip (copy g s e))) (weight (strip (copy g s e))) n)
  step-made false (name_step x y) e n =
      ap (λ z. with_sign (name_sign (alone x) (copy_name y)) (with_needs (name_needs y) z)) (out-variable x (spell (copy g s e)) (needs g s e) (compared (copy g s e)) (weight (copy g s e)) n)
      ∙ ap (with_sign (name_sign (alone x) (copy_name y))) (needs-noted (name_needs y) (without (x ∷ []) (needs g s e)) (spell (copy g s e)) (compared (copy g s e)) (weight (copy g s e)) n)
  step-made bare (rec_step ps fs) e n = group-left ps fs bare e n
  step-made bare (test_step u t c others) e n =
      ap (λ z. with_sign (switch_sign (atom u) (replace s t)) (with_needs (atom u ∷ []) z)) (arm-made bare c e others n) ∙ switch-made bare u t (arm c e others) n
  step-made true (counted_step k) e n =
      ap (with_sign (counted_sign k)) (made-then (λ l. l) (spell (strip (copy g s e))) [] (needs g s e) [] (compared (strip (copy g s e))) k (weight (strip (copy g s e))) n)
  step-made false (counted_step k) e n =
      ap (with_sign (counted_sign k)) (made-then (λ l. l) (spell (copy g s e)) [] (needs g s e) [] (compared (copy g s e)) k (weight (copy g s e)) n)

  pub steps-made : (bare : Bool) (ss : List (StepTree poly)) (e : Exp poly) (n : Seen)
      → left_all bare g s ss (exp_made (all_bare bare ss) g s e (entered_all bare g s ss n)) ≡ exp_made bare g s (onto ss e) n
  steps-made bare [] e n = refl
  steps-made bare (st ∷ ss) e n =
      ap (left_step bare g s st) (steps-made (still_bare bare st) ss e (entered_step bare g s st n)) ∙ step-made bare st (onto ss e) n
