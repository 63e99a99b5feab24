-- Values of the two programs, the expansion's first: functions have expanded bodies, and what is a function by itself is a `fn`.
use Rattle.std.proofs.Common.{◌≡◌, ℕ, suc, ◌+◌, List, [], ◌∷◌, length, Bool, true, false, Option, Some, None, if◌then◌else◌, nat_eq, subst, refl, sym, ap}
use Rattle.std.specs.Prelude.{option_and_then}
use Rattle.mlc_runs.specs.Agreement.{AllRelated, none, more, BothOrNeither, neither, both}
use Rattle.mlc_names.specs.declared.label.Label.{Label}
use Rattle.mlc_prims.specs.LitOf.{Literal}
use Rattle.mlc_prims.specs.Table.{literal_eq}
use Rattle.mlc_prims.specs.declared.basis.BasisPrimitive.{BasisPrimitive}
use Rattle.ty_core.specs.Types.{labels}
use Rattle.ir_values.specs.Tags.{Tagging}
use Rattle.ir_values.specs.Values.{literal, record_of, con, con_of, exn, exn_of, ref, address, cell, primitive, closure, no_fields, field, empty, bind, same_label, field_in, count, literal_in, address_in}
use Rattle.ir_values.specs.Match.{matches, no_match, mismatch, where_same, against_literal, against_con, under_con, against_exn, under_exn, under_record, match_at, of_size}
use Rattle.ir_plain.specs.Kind.{Kind}
use Rattle.ir_plain.specs.Tree.{Fun, Funs, no_funs, fun, Case, Exception, Atoms, Row}
use Rattle.ir_plain.specs.Meaning.{V, Scope, Fits, Parts, alone, one_of, argument_tag, look_up, look_all, look_row, in_front, field_in_front, check, exception_of, members_from}
use Rattle.ir_poly.specs.Types.{prim_type}
use Rattle.ir_mono.specs.Types as table
use Rattle.ir_mono.specs.Types.{node_at, by_number, Is, IsTable, IsTuple}
use Rattle.ir_mono.specs.Mono.{mono}
use Rattle.ir_mono.specs.Typing.{Sort, of_type, exception, Sorts, sort_of, group_sorts, PrimAt, AtomsTyped, no_atoms_typed, an_atom_typed, RowTyped, no_row_typed, a_row_typed, NameTyped, fixed_typed, held_typed, CaseTyped, literal_typed, con_typed, con_of_typed, exn_typed, exn_of_typed, record_typed, FunTyped, FunsTyped, t_no_funs, t_fun}
use Rattle.eta_expand.specs.Expand.{Names, parts_at, is_single, constructing, referring, packing, performing, group_names, fun_news, expand_fun, expand_funs}
use Rattle.eta_expand.proofs.Known.{Knows}

module _ (types : List table.Row) where
  abbrev pub K : Kind
  K = mono types

  abbrev pub TT : Tagging
  TT = by_number types

  -- fields with these labels
  pub data HasLabels : Parts K → List Label → Type 0 where
    labels_none : HasLabels no_fields []
    labels_more : {l : Label} {v : V K} {fs : Parts K} {ls : List Label} → HasLabels fs ls → HasLabels (field l v fs) (l ∷ ls)

  mutual
    pub data Rel : V K → V K → Type 0 where
      rel_literal : (l : Literal) → Rel (literal l) (literal l)
      rel_record : (g : ℕ) {ls : List Label} {ts : List ℕ} {fs' fs : Parts K} → Is types g (labels ls) ts → HasLabels fs ls → RelFields fs' fs → Rel (record_of g fs') (record_of g fs)
      rel_con : (g c : ℕ) → Rel (con g c) (con g c)
      rel_con_of : (g c : ℕ) {v' v : V K} → Rel v' v → Rel (con_of g c v') (con_of g c v)
      rel_exn : (g i : ℕ) → Rel (exn g i) (exn g i)
      rel_exn_of : (g i : ℕ) {v' v : V K} → Rel v' v → Rel (exn_of g i v') (exn_of g i v)
      rel_address : (i : ℕ) → Rel (address i) (address i)
      rel_cell : (g : ℕ) {v' v : V K} → Rel v' v → Rel (cell g v') (cell g v)
      rel_closure : {N : Names} {G : Sorts} {f : Fun K} {t : ℕ} {env' env : Scope K} (n : ℕ) → Knows N G → FunTyped types G f t → Covers G env' env → Rel (closure (alone (expand_fun types N n f)) env') (closure (alone f) env)
      rel_group : {N : Names} {G : Sorts} {f : Fun K} {fs : Funs K} {t : ℕ} {env' env : Scope K} (n i : ℕ) → Knows N G → FunsTyped types (group_sorts types fs G) fs → FunTyped types (group_sorts types fs G) f t → Covers G env' env
          → Rel (closure (one_of (expand_fun types (group_names types fs N) i f) (expand_funs types (group_names types fs N) n fs)) env') (closure (one_of f fs) env)
      rel_constructor : (n c u a : ℕ) {env' : Scope K} → Rel (closure (alone (constructing types n c u a)) env') (con u c)
      rel_reference : (n a r : ℕ) {env' : Scope K} → Rel (closure (alone (referring types n a r)) env') (ref a)
      rel_packets : (n a e z g i : ℕ) {env' : Scope K} → look_up {F = K} z env' ≡ Some (exn g i) → nat_eq z n ≡ false → Rel (closure (alone (packing types n a e z)) env') (exn a i)
      rel_primitive : (n : ℕ) {p : BasisPrimitive} {u a r : ℕ} {ns : List ℕ} {env' : Scope K} → PrimAt types p u ns r → IsTuple types ns a
          → Rel (closure (alone (performing types (is_single (prim_type p).arguments) n p u a r (parts_at (node_at types a)))) env') (primitive u p)

    pub data RelFields : Parts K → Parts K → Type 0 where
      rel_no_fields : RelFields no_fields no_fields
      rel_a_field : (l : Label) {v' v : V K} {fs' fs : Parts K} → Rel v' v → RelFields fs' fs → RelFields (field l v' fs') (field l v fs)

    -- the same variables, with related values; the name of an exception is one
    pub data Covers : Sorts → Scope K → Scope K → Type 0 where
      covers_none : Covers [] empty empty
      covers_value : {x t : ℕ} {G : Sorts} {v' v : V K} {env' env : Scope K} → Rel v' v → Covers G env' env → Covers ((x, of_type t) ∷ G) (bind x v' env') (bind x v env)
      covers_name : {x : ℕ} {a : Option ℕ} {G : Sorts} (i : ℕ) {env' env : Scope K} → Covers G env' env → Covers ((x, exception a) ∷ G) (bind x (exn (argument_tag K a) i) env') (bind x (exn (argument_tag K a) i) env)

  -- what a variable is found as
  pub data Found : Sort → Option (V K) → Option (V K) → Type 0 where
    found_value : {t : ℕ} {v' v : V K} → Rel v' v → Found (of_type t) (Some v') (Some v)
    found_name : {a : Option ℕ} (i : ℕ) → Found (exception a) (Some (exn (argument_tag K a) i)) (Some (exn (argument_tag K a) i))

  found-at : {s r : Sort} {v' v : V K} {o : Option Sort} {q' q : Option (V K)} (b : Bool) → Found s (Some v') (Some v) → (o ≡ Some r → Found r q' q) → (if b then Some s else o) ≡ Some r → Found r (if b then Some v' else q') (if b then Some v else q)
  found-at {v' = v'} {v = v} true h k e = subst (λ z. Found z (Some v') (Some v)) (cc) h
  found-at false h k e = k e

  pub found : {G : Sorts} {env' env : Scope K} {s : Sort} (x : ℕ) → sort_of G x ≡ Some s → Covers G env' env → Found s (look_up {F = K} x env') (look_up {F = K} x env)
  found x e covers_none = absurd (cc)
  found x e (covers_value {x = y} h c) = found-at (nat_eq x y) (found_value h) (λ q. found x q c) e
  found x e (covers_name {x = y} i c) = found-at (nat_eq x y) (found_name i) (λ q. found x q c) e

  -- the functions of a group
  pub members-cover : {N : Names} {G : Sorts} {env' env : Scope K} {all : Funs K} (n : ℕ) → Knows N G → FunsTyped types (group_sorts types all G) all → Covers G env' env → (fs : Funs K) (i : ℕ) → FunsTyped types (group_sorts types all G) fs
      → Covers (group_sorts types fs G) (members_from (expand_funs types (group_names types all N) i fs) (expand_funs types (group_names types all N) n all) env') (members_from fs all env)
  members-cover n k h c no_funs i t_no_funs = c
  members-cover {N = N} {all = all} n k h c (fun x t f fs) i (t_fun d r) = covers_value (rel_group n i k h d c) (members-cover n k h c fs (i + fun_news types (group_names types all N) f) r)

  -- what values have in common
  pub literal-same : {v' v : V K} → Rel v' v → literal_in v' ≡ literal_in v
  literal-same (rel_literal l) = refl
  literal-same _ = refl

  pub address-same : {v' v : V K} → Rel v' v → address_in v' ≡ address_in v
  address-same (rel_address i) = refl
  address-same _ = refl

  pub field-same : {fs' fs : Parts K} (l : Label) → RelFields fs' fs → BothOrNeither Rel (field_in l fs') (field_in l fs)
  field-same l rel_no_fields = neither
  field-same l (rel_a_field k {v' = v'} {v = v} {fs' = fs'} {fs = fs} h hs) = go (same_label l k) (field-same l hs)
    where
      go : (b : Bool) → BothOrNeither Rel (field_in l fs') (field_in l fs) → BothOrNeither Rel (if b then Some v' else field_in l fs') (if b then Some v else field_in l fs)
      go true m = both h
      go false m = m

  pub count-same : {fs' fs : Parts K} → RelFields fs' fs → count fs' ≡ count fs
  count-same rel_no_fields = refl
  count-same (rel_a_field l h hs) = ap suc (count-same hs)

  pub count-labels : {fs : Parts K} {ls : List Label} → HasLabels fs ls → count fs ≡ length ls
  count-labels labels_none = refl
  count-labels (labels_more h) = ap suc (count-labels h)

  -- matching: where only one of the two values is a function, that is a mismatch
  pub data SameMatched (G : Sorts) : Fits K → Fits K → Type 0 where
    both_match : {env' env : Scope K} → Covers G env' env → SameMatched G (matches env') (matches env)
    both_fail : SameMatched G no_match no_match
    no_fit : (m : Fits K) → SameMatched G mismatch m

  at-same : {G : Sorts} {m' m : Fits K} (g h : ℕ) → SameMatched G m' m → SameMatched G (match_at TT g h m') (match_at TT g h m)
  at-same {G} {m'} {m} g h k = go (nat_eq g h)
    where
      go : (b : Bool) → SameMatched G (if b then m' else mismatch) (if b then m else mismatch)
      go true = k
      go false = no_fit _

  where-same : {G : Sorts} {m' m : Fits K} (o : Option Bool) → SameMatched G m' m → SameMatched G (where_same o m') (where_same o m)
  where-same None h = no_fit _
  where-same (Some true) h = h
  where-same (Some false) h = both_fail

  literals-match : {G : Sorts} {m' m : Fits K} {v' v : V K} (l : Literal) → Rel v' v → SameMatched G m' m → SameMatched G (against_literal l v' m') (against_literal l v m)
  literals-match {G} {m'} {m} {v = v} l h k = subst (λ o. SameMatched G (where_same (option_and_then (literal_eq l) o) m') (against_literal l v m)) (sym (literal-same h)) (where-same _ k)

  if-same : {G : Sorts} {m' n' m n : Fits K} (b : Bool) → SameMatched G m' m → SameMatched G n' n → SameMatched G (if b then m' else n') (if b then m else n)
  if-same true h k = h
  if-same false h k = k

  con-match : {G : Sorts} {m' m : Fits K} {v' v : V K} (g c : ℕ) → Rel v' v → SameMatched G m' m → SameMatched G (against_con TT g c v' m') (against_con TT g c v m)
  con-match g c (rel_con h d) k = at-same g h (if-same (nat_eq c d) k both_fail)
  con-match g c (rel_con_of h d v) k = at-same g h (if-same (nat_eq c d) (no_fit _) both_fail)
  con-match g c _ k = no_fit _

  con_of-match : {G : Sorts} {v' v : V K} (g c : ℕ) (go' go : V K → Fits K) → Rel v' v → ((u' u : V K) → Rel u' u → SameMatched G (go' u') (go u)) → SameMatched G (under_con TT g c v' go') (under_con TT g c v go)
  con_of-match g c go' go (rel_con h d) k = at-same g h (if-same (nat_eq c d) (no_fit _) both_fail)
  con_of-match g c go' go (rel_con_of h d v) k = at-same g h (if-same (nat_eq c d) (k _ _ v) both_fail)
  con_of-match g c go' go _ k = no_fit _

  exn-match : {G : Sorts} {m' m : Fits K} {a : Option ℕ} {o' o : Option (V K)} {v' v : V K} → Found (exception a) o' o → Rel v' v → SameMatched G m' m → SameMatched G (against_exn o' v' m') (against_exn o v m)
  exn-match (found_name i) (rel_exn y j) k = if-same (nat_eq i j) k both_fail
  exn-match (found_name i) (rel_exn_of y j v) k = if-same (nat_eq i j) (no_fit _) both_fail
  exn-match (found_name i) _ k = no_fit _

  exn_of-match : {G : Sorts} {a : Option ℕ} {o' o : Option (V K)} {v' v : V K} (g : ℕ) (go' go : V K → Fits K) → Found (exception a) o' o → Rel v' v → ((u' u : V K) → Rel u' u → SameMatched G (go' u') (go u)) → SameMatched G (under_exn TT g o' v' go') (under_exn TT g o v go)
  exn_of-match g go' go (found_name i) (rel_exn y j) k = if-same (nat_eq i j) (no_fit _) both_fail
  exn_of-match g go' go (found_name i) (rel_exn_of y j v) k = if-same (nat_eq i j) (at-same g y (k _ _ v)) both_fail
  exn_of-match g go' go (found_name i) _ k = no_fit _

  size-same : {G : Sorts} {m' m : Fits K} (size : Option ℕ) (n : ℕ) → SameMatched G m' m → SameMatched G (of_size TT size n m') (of_size TT size n m)
  size-same None n k = k
  size-same (Some z) n k = if-same (nat_eq z n) k (no_fit _)

  record-match : {G : Sorts} {m' m : Fits K} {v' v : V K} (g : ℕ) (size : Option ℕ) → Rel v' v → SameMatched G m' m → SameMatched G (under_record TT g size v' (λ fs. m')) (under_record TT g size v (λ fs. m))
  record-match {G} {m'} {m} g size (rel_record h {fs' = fs'} {fs = fs} i j q) k = at-same g h (subst (λ n. SameMatched G (of_size TT size n m') (of_size TT size (count fs) m)) (sym (count-same q)) (size-same size (count fs) k))
  record-match g size _ k = no_fit _

  -- an arm's test
  pub case-same : {G H : Sorts} {c : Case K} {t : ℕ} {env' env : Scope K} {v' v : V K} (g : ℕ) → CaseTyped types G c t H → Rel v' v → Covers G env' env → SameMatched H (check g c v' env') (check g c v env)
  case-same g (literal_typed {l = l} h) v c = literals-match l v (both_match c)
  case-same g (con_typed {c = d} e) v c = con-match g d v (both_match c)
  case-same g (con_of_typed {c = d} e) v c = con_of-match g d _ _ v (λ u' u q. both_match (covers_value q c))
  case-same g (exn_typed {x = x} e i) v c = exn-match (found x e c) v (both_match c)
  case-same g (exn_of_typed {y = y} e i) v c = exn_of-match _ _ _ (found y e c) v (λ u' u q. both_match (covers_value q c))
  case-same g (record_typed {size = size} i e) v c = record-match g size v (both_match c)

  -- atoms, and a row of them
  next-same : {t : ℕ} {o' o : Option (V K)} {q' q : Option (List (V K))} → Found (of_type t) o' o → BothOrNeither (AllRelated Rel) q' q → BothOrNeither (AllRelated Rel) (in_front o' q') (in_front o q)
  next-same (found_value v) (both h) = both (more v h)
  next-same (found_value v) neither = neither

  pub atoms-same : {G : Sorts} {as_ : Atoms K} {ts : List ℕ} {env' env : Scope K} → AtomsTyped types G as_ ts → Covers G env' env → BothOrNeither (AllRelated Rel) (look_all as_ env') (look_all as_ env)
  atoms-same no_atoms_typed c = both none
  atoms-same (an_atom_typed {x = x} e h) c = next-same (found x e c) (atoms-same h c)

  -- the fields of a record, in the order of its type's labels
  pub data SameRow (ls : List Label) : Option (Parts K) → Option (Parts K) → Type 0 where
    same_row : {fs' fs : Parts K} → HasLabels fs ls → RelFields fs' fs → SameRow ls (Some fs') (Some fs)

  next-field : {t : ℕ} {ls : List Label} {o' o : Option (V K)} {q' q : Option (Parts K)} (l : Label) → Found (of_type t) o' o → SameRow ls q' q → SameRow (l ∷ ls) (field_in_front l o' q') (field_in_front l o q)
  next-field l (found_value v) (same_row i h) = same_row (labels_more i) (rel_a_field l v h)

  pub row-same : {G : Sorts} {row : Row K} {ls : List Label} {ts : List ℕ} {env' env : Scope K} → RowTyped types G row ls ts → Covers G env' env → SameRow ls (look_row row env') (look_row row env)
  row-same no_row_typed c = same_row labels_none rel_no_fields
  row-same (a_row_typed {l = l} {x = x} e h) c = next-field l (found x e c) (row-same h c)

  pub name-same : {G : Sorts} {y : Exception K} {a : Option ℕ} {env' env : Scope K} → NameTyped types G y a → Covers G env' env → Found (exception a) (exception_of y env') (exception_of y env)
  name-same (fixed_typed {n = n} h) c = found_name n
  name-same (held_typed {x = x} e) c = found x e c
