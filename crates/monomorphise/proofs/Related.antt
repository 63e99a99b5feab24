-- Values of the two programs, the copies' first: equal but for what they keep of types, and for functions, whose bodies are copies.
use Rattle.std.proofs.Common.{◌≡◌, ℕ, List, [], Bool, true, false, Option, Some, None, if◌then◌else◌, nat_eq, suc, subst, refl, sym, ap, ◌∙◌}
use Rattle.std.proofs.lemmas.Bool.{eq-eqb}
use Rattle.mlc_runs.specs.Agreement.{AllRelated, none, more, BothOrNeither, neither, both}
use Rattle.mlc_names.specs.declared.label.Label.{Label}
use Rattle.mlc_prims.specs.LitOf.{Literal}
use Rattle.mlc_prims.specs.Table.{literal_eq}
use Rattle.mlc_prims.specs.declared.basis.BasisPrimitive.{BasisPrimitive}
use Rattle.ty_core.specs.Types.{Typ}
use Rattle.ir_mono.specs.of_ir_values.Tags.{untagged}
use Rattle.ir_mono.specs.of_ir_values.Values.{literal, record_of, con, con_of, exn, exn_of, ref, address, cell, primitive, closure, no_fields, field, empty, bind, same_label, field_in, count, literal_in, address_in, packet_name}
use Rattle.ir_mono.specs.of_ir_values.Match.{matches, no_match, mismatch, where_same, against_literal, against_con, under_con, against_exn, under_exn, under_record, match_at, of_size}
use Rattle.ir_mono.specs.of_ir_plain.Kind.{Kind}
use Rattle.ir_mono.specs.of_ir_plain.Tree.{Fun, Funs, no_funs, fun, Case, Atoms, Row}
use Rattle.ir_mono.specs.of_ir_plain.Meaning.{V, Scope, Fits, Parts, alone, one_of, look_up, look_all, look_row, in_front, field_in_front, check, members_from}
use Rattle.ir_mono.specs.of_ir_poly.Tests.{inst, poly}
use Rattle.monomorphise.specs.Copies.{Target, kind_of, Pairs, no_pairs, pair, Copied, no_copies, entry, entries, Has, at_head, deeper, IsNewName, newer_name, IsNewCopy, newer_copy, IsNotAmong, not_this, AreNewNames, no_names, a_new_name, AreNewCopies, none_copied, a_new_copy, CopyAtoms, copy_no_atoms, copy_an_atom, CopyRow, copy_no_row, copy_a_row, CopyCase, copy_is_literal, copy_is_con, copy_is_con_of, copy_is_exn, copy_is_exn_of, copy_is_record, CopyFun, CopyFuns, copy_no_funs, copy_fun}

pub skip : {A : Type 0} (b : Bool) (o q : Option A) → b ≡ false → (if b then o else q) ≡ q
skip true o q e = absurd (cc)
skip false o q e = refl

pub hit : {A : Type 0} (b : Bool) (o q : Option A) → b ≡ true → (if b then o else q) ≡ o
hit true o q e = refl
hit false o q e = absurd (cc)

-- bindings in front
abbrev pub onto : {F : Kind} → Scope F → Scope F → Scope F
onto empty env = env
onto (bind x v bs) env = bind x v (onto bs env)

-- the functions of a group as bindings
abbrev pub binds_of : {F : Kind} → Funs F → Funs F → Scope F → Scope F
binds_of no_funs all env = empty
binds_of (fun x t f fs) all env = bind x (closure (one_of f all) env) (binds_of fs all env)

pub members-onto : {F : Kind} (fs all : Funs F) (env : Scope F) → members_from fs all env ≡ onto (binds_of fs all env) env
members-onto no_funs all env = refl
members-onto (fun x t f fs) all env = ap (bind x (closure (one_of f all) env)) (members-onto fs all env)

module _ (T : Target) where
  abbrev pub K : Kind
  K = kind_of T

  abbrev pub G : Type 0
  G = T.tags.Tag

  mutual
    pub data Rel : V K → V poly → Type 0 where
      rel_literal : (l : Literal) → Rel (literal l) (literal l)
      rel_record : (g : G) {fs' : Parts K} {fs : Parts poly} → RelFields fs' fs → Rel (record_of g fs') (record_of tt fs)
      rel_con : (g : G) (c : ℕ) → Rel (con g c) (con tt c)
      rel_con_of : (g : G) (c : ℕ) {v' : V K} {v : V poly} → Rel v' v → Rel (con_of g c v') (con_of tt c v)
      rel_exn : (g : G) (i : ℕ) → Rel (exn g i) (exn tt i)
      rel_exn_of : (g : G) (i : ℕ) {v' : V K} {v : V poly} → Rel v' v → Rel (exn_of g i v') (exn_of tt i v)
      rel_ref : (g : G) → Rel (ref g) (ref tt)
      rel_address : (i : ℕ) → Rel (address i) (address i)
      rel_cell : (g : G) {v' : V K} {v : V poly} → Rel v' v → Rel (cell g v') (cell tt v)
      rel_primitive : (g : G) (p : BasisPrimitive) → Rel (primitive g p) (primitive tt p)
      rel_closure : {r : Copied T.Name} {s : ℕ → Typ} {f : Fun poly} {f' : Fun K} {env' : Scope K} {env : Scope poly} → CopyFun T r s f f' → Covers r env' env → Rel (closure (alone f') env') (closure (alone f) env)
      rel_group : {r : Copied T.Name} {a : List Typ} {s : ℕ → Typ} {f : Fun poly} {f' : Fun K} {fs : Funs poly} {fs' : Funs K} {qs : Pairs T.Name} {env' : Scope K} {env : Scope poly} → CopyFuns T (entries a qs r) s fs fs' qs → AreNewNames r qs → AreNewCopies T r a qs
          → CopyFun T (entries a qs r) s f f' → Covers r env' env → Rel (closure (one_of f' fs') env') (closure (one_of f fs) env)

    pub data RelFields : Parts K → Parts poly → Type 0 where
      rel_no_fields : RelFields no_fields no_fields
      rel_a_field : (l : Label) {v' : V K} {v : V poly} {fs' : Parts K} {fs : Parts poly} → Rel v' v → RelFields fs' fs → RelFields (field l v' fs') (field l v fs)

    -- each copy in scope has the value of its variable
    pub data Covers : Copied T.Name → Scope K → Scope poly → Type 0 where
      covers_none : {env' : Scope K} {env : Scope poly} → Covers no_copies env' env
      covers_one : {x : ℕ} {a : List Typ} {k : T.Name} {r : Copied T.Name} {v' : V K} {v : V poly} {env' : Scope K} {env : Scope poly} → ((ts : List Typ) → look_up (inst x ts) env ≡ Some v) → look_up k env' ≡ Some v' → Rel v' v → Covers r env' env
          → Covers (entry x a k r) env' env

  -- bindings of a group in the two programs
  pub data SameBinds : Pairs T.Name → Scope K → Scope poly → Type 0 where
    same_none : SameBinds no_pairs empty empty
    same_one : {x : ℕ} {k : T.Name} {qs : Pairs T.Name} {v' : V K} {v : V poly} {bs' : Scope K} {bs : Scope poly} → Rel v' v → SameBinds qs bs' bs → SameBinds (pair x k qs) (bind k v' bs') (bind x v bs)

  both-by : {v' : V K} {v : V poly} {o' : Option (V K)} {o : Option (V poly)} → o' ≡ Some v' → o ≡ Some v → Rel v' v → BothOrNeither Rel o' o
  both-by {v'} {v} {o'} {o} e' e h = subst (λ q. BothOrNeither Rel o' q) (sym e) (subst (λ q. BothOrNeither Rel q (Some v)) (sym e') (both h))

  pub covered : {x : ℕ} {a : List Typ} {k : T.Name} {r : Copied T.Name} {env' : Scope K} {env : Scope poly} (ts : List Typ) → Has x a k r → Covers r env' env → BothOrNeither Rel (look_up k env') (look_up (inst x ts) env)
  covered ts at_head (covers_one e e' v c) = both-by e' (e ts) v
  covered ts (deeper h) (covers_one e e' v c) = covered ts h c

  pub push-name : {x : ℕ} {v : V poly} {r : Copied T.Name} {env' : Scope K} {env : Scope poly} → IsNewName x r → Covers r env' env → Covers r env' (bind x v env)
  push-name h covers_none = covers_none
  push-name {x} (newer_name n h) (covers_one {x = y} e e' v c) = covers_one (λ ts. skip (nat_eq y x) _ _ n ∙ e ts) e' v (push-name h c)

  pub push-copy : {k : T.Name} {v' : V K} {r : Copied T.Name} {env' : Scope K} {env : Scope poly} → IsNewCopy T k r → Covers r env' env → Covers r (bind k v' env') env
  push-copy h covers_none = covers_none
  push-copy {k} (newer_copy n h) (covers_one {k = j} e e' v c) = covers_one e (skip (T.same j k) _ _ n ∙ e') v (push-copy h c)

  pub onto-names : {qs : Pairs T.Name} {bs' : Scope K} {bs : Scope poly} {r : Copied T.Name} {env' : Scope K} {env : Scope poly} → SameBinds qs bs' bs → AreNewNames r qs → Covers r env' env → Covers r env' (onto bs env)
  onto-names same_none no_names c = c
  onto-names (same_one v vs) (a_new_name n m h) c = push-name m (onto-names vs h c)

  pub new-copy-base : {k : T.Name} (a : List Typ) (qs : Pairs T.Name) {r : Copied T.Name} → IsNewCopy T k (entries a qs r) → IsNewCopy T k r
  new-copy-base a no_pairs h = h
  new-copy-base a (pair x j qs) (newer_copy n h) = new-copy-base a qs h

  pub onto-copies : {qs : Pairs T.Name} {bs' : Scope K} {bs : Scope poly} {r r' : Copied T.Name} {env' : Scope K} {env : Scope poly} (a : List Typ) → ((k : T.Name) → IsNewCopy T k r' → IsNewCopy T k r) → SameBinds qs bs' bs → AreNewCopies T r' a qs → Covers r env' env → Covers r (onto bs' env') env
  onto-copies a base same_none none_copied c = c
  onto-copies a base (same_one {k = k} {qs = qs} v vs) (a_new_copy n h) c = push-copy (base k (new-copy-base a qs n)) (onto-copies a base vs h c)

  -- each binding is found
  pub data Holds (env : Scope poly) : Scope poly → Type 0 where
    holds_none : Holds env empty
    holds_one : {x : ℕ} {v : V poly} {bs : Scope poly} → ((ts : List Typ) → look_up (inst x ts) env ≡ Some v) → Holds env bs → Holds env (bind x v bs)

  holds-push : {x : ℕ} {u : V poly} {qs : Pairs T.Name} {bs' : Scope K} {bs : Scope poly} {env : Scope poly} → IsNotAmong x qs → SameBinds qs bs' bs → Holds env bs → Holds (bind x u env) bs
  holds-push h same_none holds_none = holds_none
  holds-push {x} (not_this n h) (same_one {x = y} v vs) (holds_one e k) = holds_one (λ ts. skip (nat_eq y x) _ _ n ∙ e ts) (holds-push h vs k)

  pub found-first : (x : ℕ) (v : V poly) (env : Scope poly) (ts : List Typ) → look_up (inst x ts) (bind x v env) ≡ Some v
  found-first x v env ts = hit (nat_eq x x) _ _ (eq-eqb x x refl)

  pub holds-onto : {qs : Pairs T.Name} {bs' : Scope K} {bs : Scope poly} {r : Copied T.Name} (env : Scope poly) → SameBinds qs bs' bs → AreNewNames r qs → Holds (onto bs env) bs
  holds-onto env same_none no_names = holds_none
  holds-onto env (same_one {x = x} {v = v} {bs = bs} w vs) (a_new_name n m h) = holds_one (found-first x v (onto bs env)) (holds-push n vs (holds-onto env vs h))

  module _ (reflexive : (k : T.Name) → T.same k k ≡ true) where
    pub new-copies : {env : Scope poly} {qs : Pairs T.Name} {bs' : Scope K} {bs : Scope poly} {r : Copied T.Name} {env' : Scope K} (a : List Typ) → SameBinds qs bs' bs → Holds env bs → AreNewCopies T r a qs → Covers r env' env → Covers (entries a qs r) (onto bs' env') env
    new-copies a same_none holds_none none_copied c = c
    new-copies a (same_one {k = j} v vs) (holds_one e k) (a_new_copy n h) c = covers_one e (hit (T.same j j) _ _ (reflexive j)) v (push-copy n (new-copies a vs k h c))

    -- a group's bindings in front of both environments
    pub binds-cover : {qs : Pairs T.Name} {bs' : Scope K} {bs : Scope poly} {r : Copied T.Name} {env' : Scope K} {env : Scope poly} (a : List Typ) → SameBinds qs bs' bs → AreNewNames r qs → AreNewCopies T r a qs → Covers r env' env → Covers (entries a qs r) (onto bs' env') (onto bs env)
    binds-cover {env = env} a vs h k c = new-copies a vs (holds-onto env vs h) k (onto-names vs h c)

    -- one more copy of a variable that is bound
    pub copy-cover : {x : ℕ} {k : T.Name} {v' : V K} {v : V poly} {r : Copied T.Name} {env' : Scope K} {env : Scope poly} (a : List Typ) → ((ts : List Typ) → look_up (inst x ts) env ≡ Some v) → IsNewCopy T k r → Rel v' v → Covers r env' env → Covers (entry x a k r) (bind k v' env') env
    copy-cover {k = k} a e n v c = covers_one e (hit (T.same k k) _ _ (reflexive k)) v (push-copy n c)

    -- one variable in front of both
    pub bind-cover : {x : ℕ} {k : T.Name} {v' : V K} {v : V poly} {r : Copied T.Name} {env' : Scope K} {env : Scope poly} (a : List Typ) → IsNewName x r → IsNewCopy T k r → Rel v' v → Covers r env' env → Covers (entry x a k r) (bind k v' env') (bind x v env)
    bind-cover {x} {v = v} {env = env} a m n h c = copy-cover a (found-first x v env) n h (push-name m c)

  -- group members
  pub member-binds : {r : Copied T.Name} {a : List Typ} {s : ℕ → Typ} {all : Funs poly} {all' : Funs K} {os : Pairs T.Name} {env' : Scope K} {env : Scope poly} → CopyFuns T (entries a os r) s all all' os → AreNewNames r os → AreNewCopies T r a os → Covers r env' env
      → {g : Copied T.Name} {fs : Funs poly} {fs' : Funs K} {qs : Pairs T.Name} → g ≡ entries a os r → CopyFuns T g s fs fs' qs → SameBinds qs (binds_of fs' all' env') (binds_of fs all env)
  member-binds c n k v e copy_no_funs = same_none
  member-binds {s = s} c n k v e (copy_fun x t j m {f = f} {f' = f'} i h hs) = same_one (rel_group c n k (subst (λ g. CopyFun T g s f f') e h) v) (member-binds c n k v e hs)

  reclosed : {k : T.Name} (a b : List Typ) (qs : Pairs T.Name) {r r' : Copied T.Name} → (IsNewCopy T k r' → IsNewCopy T k r) → IsNewCopy T k (entries a qs r') → IsNewCopy T k (entries b qs r)
  reclosed a b no_pairs base h = base h
  reclosed a b (pair x j qs) base (newer_copy n h) = newer_copy n (reclosed a b qs base h)

  pub copies-reclosed : (a b : List Typ) {r r' : Copied T.Name} {qs : Pairs T.Name} → ((k : T.Name) → IsNewCopy T k r' → IsNewCopy T k r) → AreNewCopies T r' a qs → AreNewCopies T r b qs
  copies-reclosed a b base none_copied = none_copied
  copies-reclosed a b base (a_new_copy {k = k} {qs = qs} n h) = a_new_copy (reclosed a b qs (base k) n) (copies-reclosed a b base h)

  -- what values have in common
  pub literal-same : {v' : V K} {v : V poly} → Rel v' v → literal_in v' ≡ literal_in v
  literal-same (rel_literal l) = refl
  literal-same (rel_record g h) = refl
  literal-same (rel_con g c) = refl
  literal-same (rel_con_of g c h) = refl
  literal-same (rel_exn g i) = refl
  literal-same (rel_exn_of g i h) = refl
  literal-same (rel_ref g) = refl
  literal-same (rel_address i) = refl
  literal-same (rel_cell g h) = refl
  literal-same (rel_primitive g p) = refl
  literal-same (rel_closure f c) = refl
  literal-same (rel_group x n m f c) = refl

  pub address-same : {v' : V K} {v : V poly} → Rel v' v → address_in v' ≡ address_in v
  address-same (rel_literal l) = refl
  address-same (rel_record g h) = refl
  address-same (rel_con g c) = refl
  address-same (rel_con_of g c h) = refl
  address-same (rel_exn g i) = refl
  address-same (rel_exn_of g i h) = refl
  address-same (rel_ref g) = refl
  address-same (rel_address i) = refl
  address-same (rel_cell g h) = refl
  address-same (rel_primitive g p) = refl
  address-same (rel_closure f c) = refl
  address-same (rel_group x n m f c) = refl

  pub packet-name-same : {v' : V K} {v : V poly} → Rel v' v → packet_name v' ≡ packet_name v
  packet-name-same (rel_literal l) = refl
  packet-name-same (rel_record g h) = refl
  packet-name-same (rel_con g c) = refl
  packet-name-same (rel_con_of g c h) = refl
  packet-name-same (rel_exn g i) = refl
  packet-name-same (rel_exn_of g i h) = refl
  packet-name-same (rel_ref g) = refl
  packet-name-same (rel_address i) = refl
  packet-name-same (rel_cell g h) = refl
  packet-name-same (rel_primitive g p) = refl
  packet-name-same (rel_closure f c) = refl
  packet-name-same (rel_group x n m f c) = refl

  pub field-same : {fs' : Parts K} {fs : Parts poly} (l : Label) → RelFields fs' fs → BothOrNeither Rel (field_in l fs') (field_in l fs)
  field-same l rel_no_fields = neither
  field-same l (rel_a_field k {v' = v'} {v = v} {fs' = fs'} {fs = fs} h hs) = go (same_label l k) (field-same l hs)
    where
      go : (b : Bool) → BothOrNeither Rel (field_in l fs') (field_in l fs) → BothOrNeither Rel (if b then Some v' else field_in l fs') (if b then Some v else field_in l fs)
      go true m = both h
      go false m = m

  pub count-same : {fs' : Parts K} {fs : Parts poly} → RelFields fs' fs → count fs' ≡ count fs
  count-same rel_no_fields = refl
  count-same (rel_a_field l h hs) = ap suc (count-same hs)

  -- matching: where the copy's value is taken apart at another type, that is a mismatch
  pub data SameMatched (r : Copied T.Name) : Fits K → Fits poly → Type 0 where
    both_match : {env' : Scope K} {env : Scope poly} → Covers r env' env → SameMatched r (matches env') (matches env)
    both_fail : SameMatched r no_match no_match
    no_fit : (m : Fits poly) → SameMatched r mismatch m

  at-same : {r : Copied T.Name} {m' : Fits K} {m : Fits poly} (g h : G) → SameMatched r m' m → SameMatched r (match_at T.tags g h m') m
  at-same {r} {m'} {m} g h k = go (T.tags.same g h)
    where
      go : (b : Bool) → SameMatched r (if b then m' else mismatch) m
      go true = k
      go false = no_fit m

  where-same : {r : Copied T.Name} {m' : Fits K} {m : Fits poly} (o : Option Bool) → SameMatched r m' m → SameMatched r (where_same o m') (where_same o m)
  where-same None h = no_fit _
  where-same (Some true) h = h
  where-same (Some false) h = both_fail

  literals-match : {r : Copied T.Name} {m' : Fits K} {m : Fits poly} {v' : V K} {v : V poly} (l : Literal) → Rel v' v → SameMatched r m' m → SameMatched r (against_literal l v' m') (against_literal l v m)
  literals-match {r} {m'} {m} {v = v} l h k = subst (λ o. SameMatched r (where_same (Rattle.std.specs.Prelude.option_and_then (literal_eq l) o) m') (against_literal l v m)) (sym (literal-same h)) (where-same _ k)

  if-same : {r : Copied T.Name} {m' n' : Fits K} {m n : Fits poly} (b : Bool) → SameMatched r m' m → SameMatched r n' n → SameMatched r (if b then m' else n') (if b then m else n)
  if-same true h k = h
  if-same false h k = k

  con-match : {r : Copied T.Name} {m' : Fits K} {m : Fits poly} {v' : V K} {v : V poly} (g : G) (c : ℕ) → Rel v' v → SameMatched r m' m → SameMatched r (against_con T.tags g c v' m') (against_con untagged tt c v m)
  con-match g c (rel_con h d) k = at-same g h (if-same (nat_eq c d) k both_fail)
  con-match g c (rel_con_of h d v) k = at-same g h (if-same (nat_eq c d) (no_fit _) both_fail)
  con-match g c _ k = no_fit _

  con_of-match : {r : Copied T.Name} {v' : V K} {v : V poly} (g : G) (c : ℕ) (go' : V K → Fits K) (go : V poly → Fits poly) → Rel v' v → ((u' : V K) (u : V poly) → Rel u' u → SameMatched r (go' u') (go u)) → SameMatched r (under_con T.tags g c v' go') (under_con untagged tt c v go)
  con_of-match g c go' go (rel_con h d) k = at-same g h (if-same (nat_eq c d) (no_fit _) both_fail)
  con_of-match g c go' go (rel_con_of h d v) k = at-same g h (if-same (nat_eq c d) (k _ _ v) both_fail)
  con_of-match g c go' go _ k = no_fit _

  exn-match : {r : Copied T.Name} {m' : Fits K} {m : Fits poly} {o' : Option (V K)} {o : Option (V poly)} {v' : V K} {v : V poly} → BothOrNeither Rel o' o → Rel v' v → SameMatched r m' m → SameMatched r (against_exn o' v' m') (against_exn o v m)
  exn-match (both (rel_exn z i)) (rel_exn y j) k = if-same (nat_eq i j) k both_fail
  exn-match (both (rel_exn z i)) (rel_exn_of y j v) k = if-same (nat_eq i j) (no_fit _) both_fail
  exn-match _ _ k = no_fit _

  exn_of-match : {r : Copied T.Name} {o' : Option (V K)} {o : Option (V poly)} {v' : V K} {v : V poly} (g : G) (go' : V K → Fits K) (go : V poly → Fits poly) → BothOrNeither Rel o' o → Rel v' v → ((u' : V K) (u : V poly) → Rel u' u → SameMatched r (go' u') (go u))
      → SameMatched r (under_exn T.tags g o' v' go') (under_exn untagged tt o v go)
  exn_of-match g go' go (both (rel_exn z i)) (rel_exn y j) k = if-same (nat_eq i j) (no_fit _) both_fail
  exn_of-match g go' go (both (rel_exn z i)) (rel_exn_of y j v) k = if-same (nat_eq i j) (at-same g y (k _ _ v)) both_fail
  exn_of-match g go' go _ _ k = no_fit _

  size-same : {r : Copied T.Name} {m' : Fits K} {m : Fits poly} (size : Option ℕ) (n : ℕ) → SameMatched r m' m → SameMatched r (of_size T.tags size n m') (of_size untagged size n m)
  size-same None n k = k
  size-same (Some z) n k = if-same (nat_eq z n) k (no_fit _)

  record-match : {r : Copied T.Name} {m' : Fits K} {m : Fits poly} {v' : V K} {v : V poly} (g : G) (size : Option ℕ) → Rel v' v → SameMatched r m' m → SameMatched r (under_record T.tags g size v' (λ fs. m')) (under_record untagged tt size v (λ fs. m))
  record-match {r} {m'} {m} g size (rel_record h {fs' = fs'} {fs = fs} q) k = at-same g h (subst (λ n. SameMatched r (of_size T.tags size n m') (of_size untagged size (count fs) m)) (sym (count-same q)) (size-same size (count fs) k))
  record-match g size _ k = no_fit _

  -- atoms, and a row of them
  next-same : {o' : Option (V K)} {o : Option (V poly)} {q' : Option (List (V K))} {q : Option (List (V poly))} → BothOrNeither Rel o' o → BothOrNeither (AllRelated Rel) q' q → BothOrNeither (AllRelated Rel) (in_front o' q') (in_front o q)
  next-same (both v) (both h) = both (more v h)
  next-same (both v) neither = neither
  next-same neither h = neither

  pub atoms-same : {r : Copied T.Name} {as_ : Atoms poly} {as' : Atoms K} {env' : Scope K} {env : Scope poly} → CopyAtoms T r as_ as' → Covers r env' env → BothOrNeither (AllRelated Rel) (look_all as' env') (look_all as_ env)
  atoms-same copy_no_atoms c = both none
  atoms-same (copy_an_atom h hs) c = next-same (covered [] h c) (atoms-same hs c)

  next-field : {o' : Option (V K)} {o : Option (V poly)} {q' : Option (Parts K)} {q : Option (Parts poly)} (l : Label) → BothOrNeither Rel o' o → BothOrNeither RelFields q' q → BothOrNeither RelFields (field_in_front l o' q') (field_in_front l o q)
  next-field l (both v) (both h) = both (rel_a_field l v h)
  next-field l (both v) neither = neither
  next-field l neither h = neither

  pub row-same : {r : Copied T.Name} {row : Row poly} {row' : Row K} {env' : Scope K} {env : Scope poly} → CopyRow T r row row' → Covers r env' env → BothOrNeither RelFields (look_row row' env') (look_row row env)
  row-same copy_no_row c = both rel_no_fields
  row-same (copy_a_row l h hs) c = next-field l (covered [] h c) (row-same hs c)

  module _ (reflexive : (k : T.Name) → T.same k k ≡ true) where
    pub case-same : {r r' : Copied T.Name} {s : ℕ → Typ} {u : T.Type_of} {c : Case poly} {c' : Case K} {env' : Scope K} {env : Scope poly} {v' : V K} {v : V poly} (g : G) → CopyCase T r s u c c' r' → Rel v' v → Covers r env' env → SameMatched r' (check g c' v' env') (check tt c v env)
    case-same g (copy_is_literal l) v h = literals-match l v (both_match h)
    case-same g (copy_is_con c i) v h = con-match g c v (both_match h)
    case-same g (copy_is_con_of c x t k n i j m o) v h = con_of-match g c _ _ v (λ u' u q. both_match (bind-cover reflexive [] m o q h))
    case-same g (copy_is_exn y) v h = exn-match (covered [] y h) v (both_match h)
    case-same g (copy_is_exn_of x t k n y i m o) v h = exn_of-match _ _ _ (covered [] y h) v (λ u' u q. both_match (bind-cover reflexive [] m o q h))
    case-same g (copy_is_record size) v h = record-match g size v (both_match h)
