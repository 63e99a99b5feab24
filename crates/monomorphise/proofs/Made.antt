-- The function makes copies: of a well typed program with unique variables.
use Rattle.std.proofs.Common.{◌≡◌, ℕ, List, [], ◌∷◌, ◌++◌, map, Bool, true, false, ◌||◌, Option, Some, None, nat_eq, if◌then◌else◌, refl, sym, subst}
use Rattle.std.proofs.lemmas.Bool.{eqb-true}
use Rattle.std.specs.Map.{lookup}
use Rattle.ty_core.specs.Types.{Typ, no_variable}
use Rattle.ty_core.specs.Statics.{replace}
use Rattle.ty_core.specs.declared.scheme.Quantified.{Quantified}
use Rattle.ir_mono.specs.of_ir_plain.Tree.{Case, Exception, Atoms, no_atoms, an_atom, Row, no_row, a_row, Exp, ret, let_in, exception_in, name_in, rec_in, switch, first, miss, counted, Arms, no_arms, arm, Op, use_of, const, con_alone, construct, ref_alone, refer, content, pack, make_record, select, prim_alone, prim, app, fn, block, handle, raise, raise_initial, Fun, last, more as more_of, Funs, no_funs, fun, is_value_op}
use Rattle.ir_mono.specs.of_ir_plain.Unique as un
use Rattle.ir_mono.specs.of_ir_plain.Unique.{IsOutside, outside_none, outside_more}
use Rattle.ir_mono.specs.of_ir_poly.Tests.{inst, poly}
use Rattle.ir_mono.specs.of_ir_poly.Types.{Constructor, changed, AreAllowed}
use Rattle.ir_mono.specs.of_ir_poly.TestsChecked.{HasConstructor, of_type, exception, Knowns, exn_type, group_knowns, may_generalise, bound, atom_checked, AtomsChecked, no_atoms_checked, an_atom_checked, RowChecked, no_row_checked, a_row_checked, NameChecked, fixed_checked, held_checked}
use Rattle.ir_mono.specs.of_ir_poly.TestsTyped as tt
use Rattle.ir_mono.specs.of_ir_poly.TestsTyped.{own_at}
use Rattle.monomorphise.specs.Copies.{Pairs, no_pairs, pair, Copied, no_copies, entry, entries, Has, at_head, deeper, IsNewName, new_name, newer_name, IsNewCopy, new_copy, newer_copy, IsNotAmong, among_none, not_this, AreNewNames, no_names, a_new_name, AreNewCopies, none_copied, a_new_copy, CopyAtoms, copy_no_atoms, copy_an_atom, CopyRow, copy_no_row, copy_a_row, CopyName, copy_fixed, copy_held, CopyArgument, copy_no_argument, CopyCase, copy_is_literal, copy_is_con, copy_is_con_of, copy_is_exn, copy_is_exn_of, copy_is_record, Copy, copy_ret, copy_let, copy_exception, copy_name, copy_rec, copy_switch, copy_first, copy_miss, copy_counted, CopyArms, copy_no_arms, copy_arm, CopyOp, copy_use, copy_own, copy_const, copy_con_alone, copy_construct, copy_ref_alone, copy_refer, copy_content, copy_pack, copy_make_record, copy_select, copy_prim_alone, copy_prim, copy_app, copy_fn, copy_block, copy_handle, copy_raise, copy_raise_initial, CopyFun, copy_last, copy_more, CopyFuns, copy_no_funs, copy_fun, Rest, no_more_copies, one_more_copy, RestGroups, no_more_groups, one_more_group}
use Rattle.monomorphise.specs.Copies as rel
use Rattle.monomorphise.specs.Monomorphise as pass
use Rattle.monomorphise.specs.Monomorphise.{Name, copy_of, named, Named, same_types, units, nowhere, is_among, is_in, others, without, Groups, fun_vars, group_at, own_or, atom, alone, all_needs, atoms_needs, row_needs, name_needs, case_vars, case_needs, needs, arms_needs, op_needs, fun_needs, funs_needs, copy_atoms, more_lets, more_groups, copy, arms_copy, op_copy, fun_copy, funs_copy, copies, Inhabited, ArmsInhabited, OpInhabited, FunInhabited, FunsInhabited}
use Rattle.monomorphise.proofs.Names.{AllNames, all_none, all_one, EachOf, each_none, each_one, each-map, each-two, front, back, split-all, AreDistinct, distinct_none, distinct_one, others-distinct, others-new, others-made, types-is}
use Rattle.monomorphise.proofs.Fits.{FitsAt, Owned, KeysIn, units-fit, must-be-value, general-not-own, single-among, group-among, group-key, others-fit, group-others-fit, without-join, vars_onto, outside-base, funs-vars, keys-more, keys-funs, keys-inside, owned-more, owned-after, owned-inside, owned_one, owned_exception, needs-fit, fun-fit, funs-fit, bound-owned, case-owned}
use Rattle.monomorphise.proofs.Stripped.{strip-copy-op}

data AreNewVars (bs : List ℕ) : List ℕ → Type 0 where
  none_new : AreNewVars bs []
  one_new : {x : ℕ} {vs : List ℕ} → IsOutside x (vars_onto vs bs) → AreNewVars bs vs → AreNewVars bs (x ∷ vs)

new-vars : {bs : List ℕ} {fs : Funs poly} → un.AreNew (λ x. x) bs fs → AreNewVars bs (fun_vars fs)
new-vars un.none_new = none_new
new-vars {bs} (un.one_new {x = x} {fs = fs} o h) = one_new (subst (IsOutside x) (funs-vars fs bs) o) (new-vars h)

abbrev pairs_of : List Typ → List ℕ → Pairs Name
pairs_of a [] = no_pairs
pairs_of a (x ∷ vs) = pair x (copy_of x a) (pairs_of a vs)

-- all copies of a binding in scope, the last one in front
abbrev scope_after : List ℕ → List (List Typ) → Copied Name → Copied Name
scope_after vs [] r = r
scope_after vs (a ∷ ts) r = scope_after vs ts (entries a (pairs_of a vs) r)

abbrev InScope : Copied Name → ℕ → List Typ → Type 0
InScope r x a = Has x a (copy_of x a) r

keep-entries : {x : ℕ} {a : List Typ} {k : Name} {r : Copied Name} (b : List Typ) (vs : List ℕ) → Has x a k r → Has x a k (entries b (pairs_of b vs) r)
keep-entries b [] h = h
keep-entries b (y ∷ vs) h = deeper (keep-entries b vs h)

keep-after : {x : ℕ} {a : List Typ} {k : Name} {r : Copied Name} (vs : List ℕ) (ts : List (List Typ)) → Has x a k r → Has x a k (scope_after vs ts r)
keep-after vs [] h = h
keep-after vs (b ∷ ts) h = keep-after vs ts (keep-entries b vs h)

in-entries : (x : ℕ) (a : List Typ) (r : Copied Name) (vs : List ℕ) → is_among x vs ≡ true → InScope (entries a (pairs_of a vs) r) x a
in-entries x a r [] e = absurd (cc)
in-entries x a r (y ∷ vs) e = go (nat_eq x y) refl e (in-entries x a r vs)
  where
    go : (b : Bool) → nat_eq x y ≡ b → (if b then true else is_among x vs) ≡ true → (is_among x vs ≡ true → InScope (entries a (pairs_of a vs) r) x a) → InScope (entry y a (copy_of y a) (entries a (pairs_of a vs) r)) x a
    go true q e h = subst (λ z. InScope (entry z a (copy_of z a) (entries a (pairs_of a vs) r)) x a) (eqb-true x y q) at_head
    go false q e h = deeper (h e)

in-after : (x : ℕ) (a : List Typ) (r : Copied Name) (vs : List ℕ) (ts : List (List Typ)) → is_among x vs ≡ true → is_in a ts ≡ true → InScope (scope_after vs ts r) x a
in-after x a r vs [] e i = absurd (cc)
in-after x a r vs (b ∷ ts) e i = go (same_types a b) refl i (in-after x a (entries b (pairs_of b vs) r) vs ts e)
  where
    go : (c : Bool) → same_types a b ≡ c → (if c then true else is_in a ts) ≡ true → (is_in a ts ≡ true → InScope (scope_after vs ts (entries b (pairs_of b vs) r)) x a) → InScope (scope_after vs ts (entries b (pairs_of b vs) r)) x a
    go true q i h = subst (λ c. InScope (scope_after vs ts (entries c (pairs_of c vs) r)) x a) (types-is a b q) (keep-after vs ts (in-entries x a r vs e))
    go false q i h = h i

made-after : (x : ℕ) (a u : List Typ) (r : Copied Name) (vs : List ℕ) (ts : List (List Typ)) → is_among x vs ≡ true → (same_types u a || is_in a ts) ≡ true → InScope (scope_after vs (u ∷ ts) r) x a
made-after x a u r vs ts e i = go (same_types u a) refl i
  where
    go : (c : Bool) → same_types u a ≡ c → (c || is_in a ts) ≡ true → InScope (scope_after vs ts (entries u (pairs_of u vs) r)) x a
    go true q i = subst (λ c. InScope (scope_after vs ts (entries c (pairs_of c vs) r)) x a) (sym (types-is u a q)) (keep-after vs ts (in-entries x a r vs e))
    go false q i = in-after x a (entries u (pairs_of u vs) r) vs ts e i

enter-scope : (vs : List ℕ) {r r' : Copied Name} {w : List Name} → ((x : ℕ) (a : List Typ) → InScope r x a → InScope r' x a) → AllNames (λ x a. is_among x vs ≡ true → InScope r' x a) w → AllNames (InScope r) (without vs w) → AllNames (InScope r') w
enter-scope vs keep all_none h = all_none
enter-scope vs {r} {r'} keep (all_one {x = x} {a = a} {w = w} p m) h = go (is_among x vs) refl h (enter-scope vs keep m)
  where
    go : (b : Bool) → is_among x vs ≡ b → AllNames (InScope r) (if b then without vs w else copy_of x a ∷ without vs w) → (AllNames (InScope r) (without vs w) → AllNames (InScope r') w) → AllNames (InScope r') (copy_of x a ∷ w)
    go true e h k = all_one (p e) (k h)
    go false e (all_one q h) k = all_one (keep x a q) (k h)

all-map : {P Q : ℕ → List Typ → Type 0} {w : List Name} → ((x : ℕ) (a : List Typ) → P x a → Q x a) → AllNames P w → AllNames Q w
all-map f all_none = all_none
all-map f (all_one p h) = all_one (f _ _ p) (all-map f h)

-- scopes hold copies of variables that are bound
data IsBound (x : ℕ) : List ℕ → Type 0 where
  bound_here : {bs : List ℕ} → IsBound x (x ∷ bs)
  bound_deeper : {y : ℕ} {bs : List ℕ} → IsBound x bs → IsBound x (y ∷ bs)

data Within : Copied Name → List ℕ → Type 0 where
  within_none : {bs : List ℕ} → Within no_copies bs
  within_one : {y : ℕ} {b : List Typ} {r : Copied Name} {bs : List ℕ} → IsBound y bs → Within r bs → Within (entry y b (copy_of y b) r) bs

outside-bound : {x y : ℕ} {bs : List ℕ} → IsOutside x bs → IsBound y bs → nat_eq y x ≡ false
outside-bound outside_none b = elim b [ ]
outside-bound (outside_more e h) bound_here = e
outside-bound (outside_more e h) (bound_deeper b) = outside-bound h b

within-more : {x : ℕ} {r : Copied Name} {bs : List ℕ} → Within r bs → Within r (x ∷ bs)
within-more within_none = within_none
within-more (within_one b h) = within_one (bound_deeper b) (within-more h)

within-vars : (vs : List ℕ) {r : Copied Name} {bs : List ℕ} → Within r bs → Within r (vars_onto vs bs)
within-vars [] h = h
within-vars (x ∷ vs) h = within-more (within-vars vs h)

data AreBound (bs : List ℕ) : List ℕ → Type 0 where
  none_bound : AreBound bs []
  one_bound : {x : ℕ} {vs : List ℕ} → IsBound x bs → AreBound bs vs → AreBound bs (x ∷ vs)

more-bound : {x : ℕ} {bs : List ℕ} {vs : List ℕ} → AreBound bs vs → AreBound (x ∷ bs) vs
more-bound none_bound = none_bound
more-bound (one_bound b h) = one_bound (bound_deeper b) (more-bound h)

are-bound : (vs : List ℕ) (bs : List ℕ) → AreBound (vars_onto vs bs) vs
are-bound [] bs = none_bound
are-bound (x ∷ vs) bs = one_bound bound_here (more-bound (are-bound vs bs))

within-entries : {bs : List ℕ} {vs : List ℕ} {r : Copied Name} (a : List Typ) → AreBound bs vs → Within r bs → Within (entries a (pairs_of a vs) r) bs
within-entries a none_bound h = h
within-entries a (one_bound b k) h = within_one b (within-entries a k h)

within-after : {bs : List ℕ} {vs : List ℕ} {r : Copied Name} (ts : List (List Typ)) → AreBound bs vs → Within r bs → Within (scope_after vs ts r) bs
within-after [] k h = h
within-after (a ∷ ts) k h = within-after ts k (within-entries a k h)

if-no : (b c : Bool) → b ≡ false → (if b then c else false) ≡ false
if-no true c e = absurd (cc)
if-no false c e = refl

if-none : (b c : Bool) → c ≡ false → (if b then c else false) ≡ false
if-none true c e = e
if-none false c e = refl

name-new : {x : ℕ} {r : Copied Name} {bs : List ℕ} → IsOutside x bs → Within r bs → IsNewName x r
name-new h within_none = new_name
name-new h (within_one b k) = newer_name (outside-bound h b) (name-new h k)

module _ (table : List Constructor) where
  copy-new : {x : ℕ} {r : Copied Name} {bs : List ℕ} (a : List Typ) → IsOutside x bs → Within r bs → IsNewCopy (named table) (copy_of x a) r
  copy-new a h within_none = new_copy
  copy-new {x} a h (within_one {y = y} {b = c} b k) = newer_copy (if-no (nat_eq y x) (same_types c a) (outside-bound h b)) (copy-new a h k)

  not-among : {x : ℕ} (a : List Typ) (vs : List ℕ) (bs : List ℕ) → IsOutside x (vars_onto vs bs) → IsNotAmong x (pairs_of a vs)
  not-among a [] bs h = among_none
  not-among a (y ∷ vs) bs (outside_more e h) = not_this e (not-among a vs bs h)

  new-names : {bs : List ℕ} {vs : List ℕ} {r : Copied Name} (a : List Typ) → AreNewVars bs vs → Within r bs → AreNewNames r (pairs_of a vs)
  new-names a none_new k = no_names
  new-names a (one_new {vs = vs} h n) k = a_new_name (not-among a vs _ h) (name-new (outside-base vs h) k) (new-names a n k)

  -- further copies are new as well, at other types
  data AreNewFor (a : List Typ) (r : Copied Name) : List ℕ → Type 0 where
    none_for : AreNewFor a r []
    one_for : {x : ℕ} {vs : List ℕ} → IsNewCopy (named table) (copy_of x a) r → AreNewFor a r vs → AreNewFor a r (x ∷ vs)

  start-for : {bs : List ℕ} {vs : List ℕ} {r : Copied Name} (a : List Typ) → AreNewVars bs vs → Within r bs → AreNewFor a r vs
  start-for a none_new k = none_for
  start-for a (one_new {vs = vs} h n) k = one_for (copy-new a (outside-base vs h) k) (start-for a n k)

  still-new : {x : ℕ} {a : List Typ} {r : Copied Name} (b : List Typ) (vs : List ℕ) → same_types b a ≡ false → IsNewCopy (named table) (copy_of x a) r → IsNewCopy (named table) (copy_of x a) (entries b (pairs_of b vs) r)
  still-new b [] e h = h
  still-new {x} {a} b (y ∷ vs) e h = newer_copy (if-none (nat_eq y x) (same_types b a) e) (still-new b vs e h)

  step-for : {a : List Typ} {r : Copied Name} {vs : List ℕ} (b : List Typ) (us : List ℕ) → same_types b a ≡ false → AreNewFor a r vs → AreNewFor a (entries b (pairs_of b us) r) vs
  step-for b us e none_for = none_for
  step-for b us e (one_for h k) = one_for (still-new b us e h) (step-for b us e k)

  past-own : {x : ℕ} {r : Copied Name} (a : List Typ) (vs : List ℕ) (bs : List ℕ) → IsOutside x (vars_onto vs bs) → IsNewCopy (named table) (copy_of x a) r → IsNewCopy (named table) (copy_of x a) (entries a (pairs_of a vs) r)
  past-own a [] bs o h = h
  past-own {x} a (y ∷ vs) bs (outside_more e o) h = newer_copy (if-no (nat_eq y x) (same_types a a) e) (past-own a vs bs o h)

  new-copies : {bs : List ℕ} {a : List Typ} {r : Copied Name} {vs : List ℕ} → AreNewVars bs vs → AreNewFor a r vs → AreNewCopies (named table) r a (pairs_of a vs)
  new-copies none_new none_for = none_copied
  new-copies {a = a} (one_new {vs = vs} o n) (one_for h k) = a_new_copy (past-own a vs _ o h) (new-copies n k)

  -- what is needed of a group's functions inside is the copy at the group's types
  only-made : (f : ℕ → Typ) (fs : Funs poly) (a : List Typ) (g : Groups) (G : Knowns) (r : Copied Name) {w : List Name} → AllNames (FitsAt (group_at fs a g) (group_knowns (own_at f) fs G)) w → AllNames (λ x b. is_among x (fun_vars fs) ≡ true → InScope (entries a (pairs_of a (fun_vars fs)) r) x b) w
  only-made f fs a g G r h = all-map (λ x b p e. let q = group-among x (own_at f) fs G e in subst (λ c. InScope (entries a (pairs_of a (fun_vars fs)) r) x c) (p.own (replace f q.0) a q.1 (group-key x a fs g e)) (in-entries x a r (fun_vars fs) e)) h

  -- what is needed of a variable that isn't generalised is its copy
  exception-made : (x : ℕ) (o : Option Typ) (g : Groups) (G : Knowns) (r : Copied Name) {w : List Name} → AllNames (FitsAt g ((x, exception o) ∷ G)) w → AllNames (λ y b. is_among y (x ∷ []) ≡ true → InScope (entry x [] (copy_of x []) r) y b) w
  exception-made x o g G r h = all-map (λ y b p e. subst (λ d. InScope (entry x [] (copy_of x []) r) y d) (p.exception o (single-among y x (exception o) G e)) (in-entries y [] r (x ∷ []) e)) h

  plain-made : (x : ℕ) (t : Typ) (g : Groups) (G : Knowns) (r : Copied Name) {w : List Name} → AllNames (FitsAt g ((x, of_type t) ∷ G)) w → AllNames (λ y b. is_among y (x ∷ []) ≡ true → InScope (entry x [] (copy_of x []) r) y b) w
  plain-made x t g G r h = all-map (λ y b p e. subst (λ d. InScope (entry x [] (copy_of x []) r) y d) (p.one t (single-among y x (of_type t) G e)) (in-entries y [] r (x ∷ []) e)) h

  -- in scope inside, for what is in scope around
  inside : (x : ℕ) {r : Copied Name} {w : List Name} → AllNames (λ y b. is_among y (x ∷ []) ≡ true → InScope (entry x [] (copy_of x []) r) y b) w → AllNames (InScope r) (without (x ∷ []) w) → AllNames (InScope (entry x [] (copy_of x []) r)) w
  inside x m h = enter-scope (x ∷ []) (λ y a i. deeper i) m h

  split-without : {P : ℕ → List Typ → Type 0} (vs : List ℕ) (f : List Typ → List Name) (ts : List (List Typ)) → AllNames P (without vs (all_needs f ts)) → EachOf (λ a. AllNames P (without vs (f a))) ts
  split-without vs f [] h = each_none
  split-without {P} vs f (a ∷ ts) h = let k = subst (AllNames P) (without-join vs (f a) (all_needs f ts)) h in each_one (front (without vs (f a)) (without vs (all_needs f ts)) k) (split-without vs f ts (back (without vs (f a)) (without vs (all_needs f ts)) k))

  more-made : {r : Copied Name} (g : Groups) {s : ℕ → Typ} {x : ℕ} {ps : List Quantified} {t : Typ} {o : Op poly} {e : Exp poly} {e' : Exp Named} {r' : Copied Name} {ts : List (List Typ)}
      → EachOf (λ a. AreAllowed no_variable ps a) ts → EachOf (λ a. is_value_op o ≡ true) ts
      → EachOf (λ a. CopyOp (named table) r (changed ps a s) o (op_copy g (changed ps a s) o)) ts
      → EachOf (λ a. AreNewFor a r' (x ∷ [])) ts → AreDistinct ts → Copy (named table) (scope_after (x ∷ []) ts r') s e e'
      → Rest (named table) r s x ps t o e r' (more_lets (λ a. changed ps a s) x t (λ a. op_copy g (changed ps a s) o) ts e')
  more-made g each_none each_none each_none each_none distinct_none rest = no_more_copies rest
  more-made g {x = x} {r' = r'} (each_one {a = a} f fs) (each_one v vs) (each_one c cs) (each_one (one_for n none_for) ks) (distinct_one d ds) rest =
      one_more_copy a f v refl (strip-copy-op (named table) c) n (more-made g {r' = entry x a (copy_of x a) r'} fs vs cs (each-two (λ b e h. step-for a (x ∷ []) e h) d ks) ds rest)

  more-groups-made : {bs : List ℕ} {r : Copied Name} (g : Groups) {s : ℕ → Typ} {ps : List Quantified} {fs : Funs poly} {e : Exp poly} {e' : Exp Named} {r' : Copied Name} {ts : List (List Typ)}
      → AreNewVars bs (fun_vars fs) → Within r bs → EachOf (λ a. AreAllowed no_variable ps a) ts
      → EachOf (λ a. CopyFuns (named table) (entries a (pairs_of a (fun_vars fs)) r) (changed ps a s) fs (funs_copy a (group_at fs a g) (changed ps a s) fs) (pairs_of a (fun_vars fs))) ts
      → EachOf (λ a. AreNewFor a r' (fun_vars fs)) ts → AreDistinct ts → Copy (named table) (scope_after (fun_vars fs) ts r') s e e'
      → RestGroups (named table) r s ps fs e r' (more_groups (λ a. funs_copy a (group_at fs a g) (changed ps a s) fs) ts e')
  more-groups-made g n w each_none each_none each_none distinct_none rest = no_more_groups rest
  more-groups-made g {fs = fs} {r' = r'} n w (each_one {a = a} f l) (each_one c cs) (each_one k ks) (distinct_one d ds) rest =
      one_more_group a f c (new-names a n w) (new-copies n k) (more-groups-made g {r' = entries a (pairs_of a (fun_vars fs)) r'} n w l cs (each-two (λ b e h. step-for a (fun_vars fs) e h) d ks) ds rest)

  let-made : {r : Copied Name} (g : Groups) {s : ℕ → Typ} {bs : List ℕ} (x : ℕ) (ps : List Quantified) (t : Typ) (o : Op poly) (e : Exp poly) {e' : Exp Named} {ts : List (List Typ)} → may_generalise ps o ≡ true
      → EachOf (λ a. CopyOp (named table) r (changed ps a s) o (op_copy g (changed ps a s) o)) (units ps ∷ ts) → EachOf (λ a. AreAllowed no_variable ps a) (units ps ∷ ts)
      → EachOf (λ a. same_types (units ps) a ≡ false) ts → AreDistinct ts → IsOutside x bs → Within r bs → Copy (named table) (scope_after (x ∷ []) (units ps ∷ ts) r) s e e'
      → Copy (named table) r s (let_in x ps t o e) (let_in (copy_of x (units ps)) tt (replace (changed ps (units ps) s) t) (op_copy g (changed ps (units ps) s) o) (more_lets (λ a. changed ps a s) x t (λ a. op_copy g (changed ps a s) o) ts e'))
  let-made g x ps t o e i (each_one c cs) (each_one f fs) away distinct new w rest =
      copy_let (units ps) f refl c (name-new new w) (copy-new (units ps) new w)
      (more-made g fs (each-two (λ a f o'. must-be-value ps o a i f o') fs away) cs (each-map (λ a o'. step-for (units ps) (x ∷ []) o' (start-for {vs = x ∷ []} a (one_new new none_new) w)) away) distinct rest)

  group-made : {r : Copied Name} (g : Groups) {s : ℕ → Typ} {bs : List ℕ} (ps : List Quantified) (fs : Funs poly) (e : Exp poly) {e' : Exp Named} {ts : List (List Typ)}
      → EachOf (λ a. CopyFuns (named table) (entries a (pairs_of a (fun_vars fs)) r) (changed ps a s) fs (funs_copy a (group_at fs a g) (changed ps a s) fs) (pairs_of a (fun_vars fs))) (units ps ∷ ts) → EachOf (λ a. AreAllowed no_variable ps a) (units ps ∷ ts)
      → EachOf (λ a. same_types (units ps) a ≡ false) ts → AreDistinct ts → AreNewVars bs (fun_vars fs) → Within r bs → Copy (named table) (scope_after (fun_vars fs) (units ps ∷ ts) r) s e e'
      → Copy (named table) r s (rec_in ps fs e) (rec_in tt (funs_copy (units ps) (group_at fs (units ps) g) (changed ps (units ps) s) fs) (more_groups (λ a. funs_copy a (group_at fs a g) (changed ps a s) fs) ts e'))
  group-made g ps fs e (each_one c cs) (each_one f l) away distinct new w rest =
      copy_rec (units ps) f c (new-names (units ps) new w) (new-copies new (start-for (units ps) new w))
      (more-groups-made g new w l cs (each-map (λ a o. step-for (units ps) (fun_vars fs) o (start-for a new w)) away) distinct rest)

  atoms-made : (as_ : Atoms poly) {r : Copied Name} {G : Knowns} {ts : List Typ} → AtomsChecked G as_ ts → AllNames (InScope r) (atoms_needs as_) → CopyAtoms (named table) r as_ (copy_atoms as_)
  atoms-made no_atoms no_atoms_checked h = copy_no_atoms
  atoms-made (an_atom u as_) (an_atom_checked (atom_checked e) k) (all_one i h) = copy_an_atom i (atoms-made as_ k h)

  row-made : (row : Row poly) {r : Copied Name} {G : Knowns} {q : _} → RowChecked G row q → AllNames (InScope r) (row_needs row) → CopyRow (named table) r row (pass.copy_row row)
  row-made no_row no_row_checked h = copy_no_row
  row-made (a_row l u row) (a_row_checked (atom_checked e) k) (all_one i h) = copy_a_row l i (row-made row k h)

  name-made : {r : Copied Name} {y : Exception poly} {G : Knowns} {a : Option Typ} → NameChecked G y a → AllNames (InScope r) (name_needs y) → CopyName (named table) r y (pass.copy_name y)
  name-made (fixed_checked {n = n} e) h = copy_fixed n
  name-made (held_checked e) (all_one i h) = copy_held i

  argument-made : (s : ℕ → Typ) (t : Option Typ) → CopyArgument (named table) s t (pass.copy_argument s t)
  argument-made s None = copy_no_argument
  argument-made s (Some t) = rel.copy_argument t (replace s t) refl

  bound-one : {x : ℕ} {r : Copied Name} {bs : List ℕ} (a : List Typ) → Within r bs → Within (entry x a (copy_of x a) r) (x ∷ bs)
  bound-one a w = within_one bound_here (within-more w)

  used-made : {r : Copied Name} {s : ℕ → Typ} {x : ℕ} {ts : List Typ} (o : Option (List Typ)) → o ≡ None → InScope r x (own_or o (map (replace s) ts)) → CopyOp (named table) r s (use_of (inst x ts)) (use_of (copy_of x (own_or o (map (replace s) ts))))
  used-made None q i = copy_use refl i
  used-made (Some a) q i = absurd (cc)

  case-made : {r : Copied Name} {s : ℕ → Typ} {z : Typ} {g : Groups} {G G' : Knowns} {c : Case poly} {u : Typ} {bs bs' : List ℕ} {w : List Name} → z ≡ u → tt.CaseTyped table s G c u G' → un.CaseUnique (λ x. x) bs c bs' → Within r bs → AllNames (FitsAt g G') w → AllNames (InScope r) (case_needs c)
      → AllNames (InScope r) (without (case_vars c) w) → (goal : Type 0) → ((r' : Copied Name) → CopyCase (named table) r s z c (pass.copy_case s c) r' → Within r' bs' → AllNames (InScope r') w → goal) → goal
  case-made {r = r} p (tt.literal_typed {l = l} k) un.literal_unique w f i h goal go = go r (copy_is_literal l) w (enter-scope [] (λ y a j. j) (all-map (λ y a p e. absurd (cc)) f) h)
  case-made {r = r} p (tt.con_typed {c = c} k) un.con_unique w f i h goal go = go r (copy_is_con c (None, subst (λ z. HasConstructor table c z None) (sym p) k)) w (enter-scope [] (λ y a j. j) (all-map (λ y a p e. absurd (cc)) f) h)
  case-made {r = r} {s = s} {g = g} {G = G} p (tt.con_of_typed {c = c} {x = x} {a = a} k) (un.con_of_unique o) w f i h goal go =
      go (entry x [] (copy_of x []) r) (copy_is_con_of c x a (copy_of x []) (replace s a) (Some (replace s a), subst (λ z. HasConstructor table c z (Some (replace s a))) (sym p) k) refl (name-new o w) (copy-new [] o w)) (bound-one [] w) (inside x (plain-made x (replace s a) g G r f) h)
  case-made {r = r} p (tt.exn_typed e) un.exn_unique w f (all_one i j) h goal go = go r (copy_is_exn i) w (enter-scope [] (λ y a j. j) (all-map (λ y a p e. absurd (cc)) f) h)
  case-made {r = r} {s = s} {g = g} {G = G} p (tt.exn_of_typed {x = x} {a = a} e) (un.exn_of_unique o) w f (all_one i j) h goal go =
      go (entry x [] (copy_of x []) r) (copy_is_exn_of x a (copy_of x []) (replace s a) i refl (name-new o w) (copy-new [] o w)) (bound-one [] w) (inside x (plain-made x (replace s a) g G r f) h)
  case-made {r = r} p (tt.record_typed {size = size} q e n) un.record_unique w f i h goal go = go r (copy_is_record size) w (enter-scope [] (λ y a j. j) (all-map (λ y a p e. absurd (cc)) f) h)

  mutual
    exp-made : (e : Exp poly) {r : Copied Name} {m : Bool} {s : ℕ → Typ} {g : Groups} {G : Knowns} {t : Typ} {bs : List ℕ} → tt.Typed table m s G e t → un.IsUnique (λ x. x) bs e → Inhabited e → KeysIn g bs → Owned g G → Within r bs → AllNames (InScope r) (needs g s e) → Copy (named table) r s e (copy g s e)
    exp-made (ret u) (tt.t_ret (atom_checked e)) un.ret_unique i d q w (all_one j h) = copy_ret j
    exp-made (let_in x ps t o e) {r = r} {s = s} {g = g} {G = G} {bs = bs} (tt.t_let v k l) (un.let_unique new uo ue) i d q w h =
        let vs = x ∷ [] in
        let u = units ps in
        let wants = needs g s e in
        let ts = others vs u wants in
        let at = λ (a : List Typ). op_needs g (changed ps a s) o in
        let fitting = needs-fit table e l ue i.2 (keys-more x d) (owned-more x (bound ps s t) new d (bound-owned ps s t) q) in
        let fit-all : EachOf (λ a. AreAllowed no_variable ps a) (u ∷ ts) = each_one (units-fit ps i.0) (others-fit ps s x t u G fitting) in
        let he = split-all at (u ∷ ts) (front (all_needs at (u ∷ ts)) (without vs wants) h) in
        let hw = back (all_needs at (u ∷ ts)) (without vs wants) h in
        let-made g x ps t o e v (each-two (λ a f m. op-made o (k a f) uo i.1 d q w m) fit-all he) fit-all (others-new vs u wants) (others-distinct vs u wants) new w
        (exp-made e l ue i.2 (keys-more x d) (owned-more x (bound ps s t) new d (bound-owned ps s t) q) (within-after (u ∷ ts) (are-bound vs bs) (within-vars vs w))
        (enter-scope vs (λ x a j. keep-after vs (u ∷ ts) j) (all-map (λ x a m j. made-after x a u r vs ts j (m j)) (others-made vs u wants)) hw))
    exp-made (exception_in x n t e) {r = r} {s = s} {g = g} {G = G} (tt.t_exception l) (un.exception_unique new ue) i d q w h =
        let o = owned-more x (exception (tt.option_read s t)) new d owned_exception q in
        copy_exception x n (copy_of x []) (argument-made s t) (name-new new w) (copy-new [] new w) (exp-made e l ue i (keys-more x d) o (bound-one [] w) (inside x (exception-made x (tt.option_read s t) g G r (needs-fit table e l ue i (keys-more x d) o)) h))
    exp-made (name_in x y e) {r = r} {s = s} {g = g} {G = G} (tt.t_name {a = a} n l) (un.name_unique new ue) i d q w h =
        let o = owned-more x (exception a) new d owned_exception q in
        copy_name x (copy_of x []) (name-made n (front (name_needs y) (without (x ∷ []) (needs g s e)) h)) (name-new new w) (copy-new [] new w)
        (exp-made e l ue i (keys-more x d) o (bound-one [] w) (inside x (exception-made x a g G r (needs-fit table e l ue i (keys-more x d) o)) (back (name_needs y) (without (x ∷ []) (needs g s e)) h)))
    exp-made (rec_in ps fs e) {r = r} {s = s} {g = g} {G = G} {bs = bs} (tt.t_rec k l) (un.rec_unique new uf ue) i d q w h =
        let vs = fun_vars fs in
        let u = units ps in
        let wants = needs g s e in
        let ts = others vs u wants in
        let at = λ (a : List Typ). funs_needs (group_at fs a g) (changed ps a s) fs in
        let after = owned-after ps s fs new d q in
        let fitting = needs-fit table e l ue i.2 (keys-funs fs d) after in
        let fit-all : EachOf (λ a. AreAllowed no_variable ps a) (u ∷ ts) = each_one (units-fit ps i.0) (group-others-fit ps s fs u G fitting) in
        let he = split-without vs at (u ∷ ts) (front (without vs (all_needs at (u ∷ ts))) (without vs wants) h) in
        let hw = back (without vs (all_needs at (u ∷ ts))) (without vs wants) h in
        group-made g ps fs e (each-two (λ a f m. funs-made fs a (k a f) uf i.1 (keys-inside fs a d) (owned-inside (changed ps a s) fs a q) (subst (Within (entries a (pairs_of a vs) r)) (sym (funs-vars fs bs)) (within-entries a (are-bound vs bs) (within-vars vs w)))
        (enter-scope vs (λ x b j. keep-entries a vs j) (only-made (changed ps a s) fs a g G r (funs-fit table fs (k a f) uf i.1 (keys-inside fs a d) (owned-inside (changed ps a s) fs a q))) m)) fit-all he) fit-all (others-new vs u wants) (others-distinct vs u wants) (new-vars new) w
        (exp-made e l ue i.2 (keys-funs fs d) after (subst (Within (scope_after vs (u ∷ ts) r)) (sym (funs-vars fs bs)) (within-after (u ∷ ts) (are-bound vs bs) (within-vars vs w)))
        (enter-scope vs (λ x a j. keep-after vs (u ∷ ts) j) (all-map (λ x a m j. made-after x a u r vs ts j (m j)) (others-made vs u wants)) hw))
    exp-made (switch u t arms) {s = s} (tt.t_switch (atom_checked e) p ks) (un.switch_unique ua) i d q w (all_one j h) = copy_switch t (replace s t) j refl (arms-made arms p ks ua i d q w h)
    exp-made (first e f) {s = s} {g = g} (tt.t_first l k) (un.first_unique ue uf) i d q w h = copy_first (exp-made e l ue i.0 d q w (front (needs g s e) (needs g s f) h)) (exp-made f k uf i.1 d q w (back (needs g s e) (needs g s f) h))
    exp-made miss tt.t_miss un.miss_unique i d q w h = copy_miss
    exp-made (counted n e) (tt.t_counted l) (un.counted_unique ue) i d q w h = copy_counted n (exp-made e l ue i d q w h)

    arms-made : (arms : Arms poly) {r : Copied Name} {s : ℕ → Typ} {z : Typ} {g : Groups} {G : Knowns} {u t : Typ} {bs : List ℕ} → z ≡ u → tt.ArmsTyped table s G arms u t → un.ArmsUnique (λ x. x) bs arms → ArmsInhabited arms → KeysIn g bs → Owned g G → Within r bs → AllNames (InScope r) (arms_needs g s arms) → CopyArms (named table) r s z arms (arms_copy g s arms)
    arms-made no_arms p tt.t_no_arms un.no_arms_unique i d q w h = copy_no_arms
    arms-made (arm c e arms) {r = r} {s = s} {z = z} {g = g} p (tt.t_arm k l ks) (un.arm_unique uc ue ua) i d q w h =
        let h' = back (case_needs c) (without (case_vars c) (needs g s e) ++ arms_needs g s arms) h in
        let o = case-owned table k uc d q in
        case-made p k uc w (needs-fit table e l ue i.0 o.0 o.1) (front (case_needs c) (without (case_vars c) (needs g s e) ++ arms_needs g s arms) h) (front (without (case_vars c) (needs g s e)) (arms_needs g s arms) h') (CopyArms (named table) r s z (arm c e arms) (arm (pass.copy_case s c) (copy g s e) (arms_copy g s arms)))
        (λ r' y w' j. copy_arm y (exp-made e l ue i.0 o.0 o.1 w' j) (arms-made arms p ks ua i.1 d q w (back (without (case_vars c) (needs g s e)) (arms_needs g s arms) h')))

    op-made : (o : Op poly) {r : Copied Name} {s : ℕ → Typ} {g : Groups} {G : Knowns} {t : Typ} {bs : List ℕ} → tt.OpTyped table s G o t → un.OpUnique (λ x. x) bs o → OpInhabited o → KeysIn g bs → Owned g G → Within r bs → AllNames (InScope r) (op_needs g s o) → CopyOp (named table) r s o (op_copy g s o)
    op-made (use_of (inst x ts)) {g = g} (tt.t_use e f p) un.use_unique i d q w (all_one j h) = used-made (lookup (nat_eq x) g) (general-not-own (q.is x _ e)) j
    op-made (use_of (inst x ts)) (tt.t_use_one e) un.use_unique i d q w (all_one j h) = copy_own _ j
    op-made (use_of (inst x ts)) (tt.t_use_own e) un.use_unique i d q w (all_one j h) = copy_own _ j
    op-made (use_of (inst x ts)) (tt.t_use_exception e p) un.use_unique i d q w (all_one j h) = copy_own _ j
    op-made (const l) k u i d q w h = copy_const l
    op-made (con_alone c t) {s = s} (tt.t_con_alone {a = a} f e) u i d q w h = copy_con_alone c t (replace s t) refl (a, f)
    op-made (construct m c t u) {s = s} (tt.t_construct {a = b} e (atom_checked a) p) un.construct_unique i d q w (all_one j h) = copy_construct m c t (replace s t) refl (Some b, subst (λ z. HasConstructor table c z (Some b)) (sym p) e) j
    op-made (ref_alone t) {s = s} k u i d q w h = copy_ref_alone t (replace s t) refl
    op-made (refer m t u) {s = s} (tt.t_refer (atom_checked a) p) un.refer_unique i d q w (all_one j h) = copy_refer m t (replace s t) refl j
    op-made (content t u) {s = s} (tt.t_content (atom_checked a) p e) un.content_unique i d q w (all_one j h) = copy_content t (replace s t) refl j
    op-made (pack m t (inst y ts) u) {s = s} (tt.t_pack e (atom_checked a) p) un.pack_unique i d q w (all_one j (all_one k h)) = copy_pack m t (replace s t) refl j k
    op-made (make_record t row) {s = s} (tt.t_make_record k e o p) u i d q w h = copy_make_record t (replace s t) refl (row-made row k h)
    op-made (select t l u) {s = s} (tt.t_select r (atom_checked a) e f p) un.select_unique i d q w (all_one j h) = copy_select t (replace s t) l refl j
    op-made (prim_alone p t) {s = s} k u i d q w h = copy_prim_alone p t (replace s t) refl
    op-made (prim m p t as_) {s = s} (tt.t_prim f k e z) u i d q w h = copy_prim m p t (replace s t) refl (atoms-made as_ k h)
    op-made (app place f u) (tt.t_app (atom_checked b) (atom_checked a) e) un.app_unique i d q w (all_one j (all_one k h)) = copy_app place j k
    op-made (fn f) (tt.t_fn k) (un.fn_unique u) i d q w h = copy_fn (fun-made f k u i d q w h)
    op-made (block e) (tt.t_block l) (un.block_unique u) i d q w h = copy_block (exp-made e l u i d q w h)
    op-made (handle e x f) {r = r} {s = s} {g = g} {G = G} (tt.t_handle l k) (un.handle_unique ue new uf) i d q w h =
        let o = owned-more x (of_type exn_type) new d owned_one q in
        copy_handle x (copy_of x []) (exp-made e l ue i.0 d q w (front (needs g s e) (without (x ∷ []) (needs g s f)) h)) (name-new new w) (copy-new [] new w)
        (exp-made f k uf i.1 (keys-more x d) o (bound-one [] w) (inside x (plain-made x exn_type g G r (needs-fit table f k uf i.1 (keys-more x d) o)) (back (needs g s e) (without (x ∷ []) (needs g s f)) h)))
    op-made (raise u) (tt.t_raise (atom_checked a) e) un.raise_unique i d q w (all_one j h) = copy_raise j
    op-made (raise_initial n) k u i d q w h = copy_raise_initial n

    fun-made : (f : Fun poly) {r : Copied Name} {s : ℕ → Typ} {g : Groups} {G : Knowns} {t : Typ} {bs : List ℕ} → tt.FunTyped table s G f t → un.FunUnique (λ x. x) bs f → FunInhabited f → KeysIn g bs → Owned g G → Within r bs → AllNames (InScope r) (fun_needs g s f) → CopyFun (named table) r s f (fun_copy g s f)
    fun-made (last x t e) {r = r} {s = s} {g = g} {G = G} (tt.t_last l p) (un.last_unique new ue) i d q w h =
        let o = owned-more x (of_type (replace s t)) new d owned_one q in
        copy_last x t (copy_of x []) (replace s t) refl (name-new new w) (copy-new [] new w) (exp-made e l ue i (keys-more x d) o (bound-one [] w) (inside x (plain-made x (replace s t) g G r (needs-fit table e l ue i (keys-more x d) o)) h))
    fun-made (more_of x t f) {r = r} {s = s} {g = g} {G = G} (tt.t_more l p) (un.more_unique new uf) i d q w h =
        let o = owned-more x (of_type (replace s t)) new d owned_one q in
        copy_more x t (copy_of x []) (replace s t) refl (name-new new w) (copy-new [] new w) (fun-made f l uf i (keys-more x d) o (bound-one [] w) (inside x (plain-made x (replace s t) g G r (fun-fit table f l uf i (keys-more x d) o)) h))

    funs-made : (fs : Funs poly) (a : List Typ) {r : Copied Name} {s : ℕ → Typ} {g : Groups} {G : Knowns} {bs : List ℕ} → tt.FunsTyped table s G fs → un.FunsUnique (λ x. x) bs fs → FunsInhabited fs → KeysIn g bs → Owned g G → Within r bs → AllNames (InScope r) (funs_needs g s fs)
        → CopyFuns (named table) r s fs (funs_copy a g s fs) (pairs_of a (fun_vars fs))
    funs-made no_funs a tt.t_no_funs un.no_funs_unique i d q w h = copy_no_funs
    funs-made (fun x t f fs) a {s = s} {g = g} (tt.t_fun k ks) (un.fun_unique u us) i d q w h =
        copy_fun x t (copy_of x a) (replace s t) refl (fun-made f k u i.0 d q w (front (fun_needs g s f) (funs_needs g s fs) h)) (funs-made fs a ks us i.1 d q w (back (fun_needs g s f) (funs_needs g s fs) h))

  no-keys : KeysIn [] []
  no-keys = record { none = λ x h. refl }

  none-owned : Owned [] []
  none-owned = record { is = λ x σ e. absurd (cc) }

  needs-of-nothing : {w : List Name} → AllNames (FitsAt [] []) w → AllNames (InScope no_copies) w
  needs-of-nothing h = all-map (λ x a p. let e = p.there.1 in absurd (cc)) h

  pub copies-made : {e : Exp poly} {t : Typ} → tt.Typed table false nowhere [] e t → un.IsUnique (λ x. x) [] e → Inhabited e → Copy (named table) no_copies nowhere e (copies e)
  copies-made {e} k u i = exp-made e k u i no-keys none-owned within_none (needs-of-nothing (needs-fit table e k u i no-keys none-owned))
