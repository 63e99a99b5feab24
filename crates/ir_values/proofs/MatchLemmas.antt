-- What patterns do with related values agrees.
use Rattle.std.proofs.Common.{ℕ, Bool, true, false, List, Option, Some, None, if◌then◌else◌, nat_eq, option_and_then}
use Rattle.mlc_runs.specs.Agreement.{AllRelated, BothOrNeither, neither, both, SameWorlds, Agree, both_stop}
use Rattle.mlc_runs.specs.Run.{World, Answer}
use Rattle.mlc_runs.proofs.RunLaws.{slice_get-same}
use Rattle.mlc_prims.specs.LitOf.{Literal}
use Rattle.mlc_prims.specs.Table.{literal_eq}
use Rattle.ir_values.specs.Tags.{Tagging}
use Rattle.ir_values.specs.Values.{Value, Fields, Env, literal_in}
use Rattle.ir_values.specs.Match.{Matched, no_match, mismatch, then_match, after_match, where_same, on_found, against_literal, against_exn, under_exn, against_con, under_con, of_size, under_record, under_cell, under_ref}
use Rattle.ir_values.specs.Related.{SameFields, records_alike, con_alike, con_of_alike, exn_alike, exn_of_alike, address_alike, cell_alike, AreOfOneKind, alike, functions, IsByKind, SameMatched, both_match, neither_matches, both_mismatch}
use Rattle.ir_values.proofs.EqualityLemmas.{count-same, literal-alike}

module _ (K : Tagging) {B C D E : Type 0} (R : Value B C K.Tag → Value D E K.Tag → Type 0) (by : IsByKind R) (S : Env B C K.Tag → Env D E K.Tag → Type 0) where
  abbrev V : Type 0
  V = Value B C K.Tag

  abbrev W : Type 0
  W = Value D E K.Tag

  abbrev M : Type 0
  M = Matched B C K.Tag

  abbrev N : Type 0
  N = Matched D E K.Tag

  pub then-same : {m : M} {n : N} {go : Env B C K.Tag → M} {go' : Env D E K.Tag → N} → SameMatched S m n → ((e : Env B C K.Tag) (e' : Env D E K.Tag) → S e e' → SameMatched S (go e) (go' e')) → SameMatched S (then_match m go) (then_match n go')
  then-same (both_match s) h = h _ _ s
  then-same neither_matches h = neither_matches
  then-same both_mismatch h = both_mismatch

  pub after-same : {A A' : Type 0} (Q : A → A' → Type 0) {m : M} {n : N} (w : World V) (u : World W) (go : Env B C K.Tag → World V → Answer V A) (go' : Env D E K.Tag → World W → Answer W A') (other : World V → Answer V A) (other' : World W → Answer W A')
      → SameMatched S m n → SameWorlds R w u → ((e : Env B C K.Tag) (e' : Env D E K.Tag) → S e e' → Agree R Q (go e w) (go' e' u)) → Agree R Q (other w) (other' u) → Agree R Q (after_match m w go other) (after_match n u go' other')
  after-same Q w u go go' other other' (both_match s) t h k = h _ _ s
  after-same Q w u go go' other other' neither_matches t h k = k
  after-same Q w u go go' other other' both_mismatch t h k = both_stop _ t

  if-same : {m : M} {n : N} (b : Bool) → SameMatched S m n → SameMatched S (if b then m else no_match) (if b then n else no_match)
  if-same true h = h
  if-same false h = neither_matches

  at-same : {m : M} {n : N} (b : Bool) → SameMatched S m n → SameMatched S (if b then m else mismatch) (if b then n else mismatch)
  at-same true h = h
  at-same false h = both_mismatch

  where-same : {m : M} {n : N} (o : Option Bool) → SameMatched S m n → SameMatched S (where_same o m) (where_same o n)
  where-same None h = both_mismatch
  where-same (Some true) h = h
  where-same (Some false) h = neither_matches

  pub literal-same : {v : V} {z : W} {m : M} {n : N} (l : Literal) → R v z → SameMatched S m n → SameMatched S (against_literal l v m) (against_literal l z n)
  literal-same {v} {n = n} l r h = rw (literal-alike R (by.kind _ _ r)) (where-same (option_and_then (literal_eq l) (literal_in v)) h)

  exn-kind : {o : Option V} {q : Option W} {v : V} {z : W} {m : M} {n : N} → BothOrNeither (AreOfOneKind R) o q → AreOfOneKind R v z → SameMatched S m n → SameMatched S (against_exn o v m) (against_exn q z n)
  exn-kind (both (alike (exn_alike g i))) (alike (exn_alike g' j)) h = if-same (nat_eq i j) h
  exn-kind (both (alike (exn_alike g i))) (alike (exn_of_alike g' j r)) h = if-same (nat_eq i j) both_mismatch
  exn-kind _ _ h = both_mismatch

  kinds : {o : Option V} {q : Option W} → BothOrNeither R o q → BothOrNeither (AreOfOneKind R) o q
  kinds neither = neither
  kinds (both r) = both (by.kind _ _ r)

  pub exn-same : {o : Option V} {q : Option W} {v : V} {z : W} {m : M} {n : N} → BothOrNeither R o q → R v z → SameMatched S m n → SameMatched S (against_exn o v m) (against_exn q z n)
  exn-same p r h = exn-kind (kinds p) (by.kind _ _ r) h

  exn-of-kind : (g : K.Tag) {o : Option V} {q : Option W} {v : V} {z : W} {go : V → M} {go' : W → N} → BothOrNeither (AreOfOneKind R) o q → AreOfOneKind R v z → ((x : V) (y : W) → R x y → SameMatched S (go x) (go' y)) → SameMatched S (under_exn K g o v go) (under_exn K g q z go')
  exn-of-kind g (both (alike (exn_alike g' i))) (alike (exn_alike h' j)) h = if-same (nat_eq i j) both_mismatch
  exn-of-kind g (both (alike (exn_alike g' i))) (alike (exn_of_alike h' j r)) h = if-same (nat_eq i j) (at-same (K.same g h') (h _ _ r))
  exn-of-kind g _ _ h = both_mismatch

  pub exn-of-same : (g : K.Tag) {o : Option V} {q : Option W} {v : V} {z : W} {go : V → M} {go' : W → N} → BothOrNeither R o q → R v z → ((x : V) (y : W) → R x y → SameMatched S (go x) (go' y)) → SameMatched S (under_exn K g o v go) (under_exn K g q z go')
  exn-of-same g p r h = exn-of-kind g (kinds p) (by.kind _ _ r) h

  con-kind : (g : K.Tag) (c : ℕ) {v : V} {z : W} {m : M} {n : N} → AreOfOneKind R v z → SameMatched S m n → SameMatched S (against_con K g c v m) (against_con K g c z n)
  con-kind g c (alike (con_alike h' d)) h = at-same (K.same g h') (if-same (nat_eq c d) h)
  con-kind g c (alike (con_of_alike h' d r)) h = at-same (K.same g h') (if-same (nat_eq c d) both_mismatch)
  con-kind g c (alike k) h = both_mismatch
  con-kind g c (functions _ _ _ _) h = both_mismatch

  pub con-same : (g : K.Tag) (c : ℕ) {v : V} {z : W} {m : M} {n : N} → R v z → SameMatched S m n → SameMatched S (against_con K g c v m) (against_con K g c z n)
  con-same g c r h = con-kind g c (by.kind _ _ r) h

  con-of-kind : (g : K.Tag) (c : ℕ) {v : V} {z : W} {go : V → M} {go' : W → N} → AreOfOneKind R v z → ((x : V) (y : W) → R x y → SameMatched S (go x) (go' y)) → SameMatched S (under_con K g c v go) (under_con K g c z go')
  con-of-kind g c (alike (con_alike h' d)) h = at-same (K.same g h') (if-same (nat_eq c d) both_mismatch)
  con-of-kind g c (alike (con_of_alike h' d r)) h = at-same (K.same g h') (if-same (nat_eq c d) (h _ _ r))
  con-of-kind g c (alike k) h = both_mismatch
  con-of-kind g c (functions _ _ _ _) h = both_mismatch

  pub con-of-same : (g : K.Tag) (c : ℕ) {v : V} {z : W} {go : V → M} {go' : W → N} → R v z → ((x : V) (y : W) → R x y → SameMatched S (go x) (go' y)) → SameMatched S (under_con K g c v go) (under_con K g c z go')
  con-of-same g c r h = con-of-kind g c (by.kind _ _ r) h

  size-same : {m : M} {n : N} (size : Option ℕ) (k : ℕ) → SameMatched S m n → SameMatched S (of_size K size k m) (of_size K size k n)
  size-same None k h = h
  size-same (Some j) k h = at-same (nat_eq j k) h

  record-kind : (g : K.Tag) (size : Option ℕ) {v : V} {z : W} {go : Fields B C K.Tag → M} {go' : Fields D E K.Tag → N} → AreOfOneKind R v z → ((fs : Fields B C K.Tag) (gs : Fields D E K.Tag) → SameFields R fs gs → SameMatched S (go fs) (go' gs))
      → SameMatched S (under_record K g size v go) (under_record K g size z go')
  record-kind g size (alike (records_alike h' rs)) h = at-same (K.same g h') (rw (count-same R rs) (size-same size _ (h _ _ rs)))
  record-kind g size (alike k) h = both_mismatch
  record-kind g size (functions _ _ _ _) h = both_mismatch

  pub record-same : (g : K.Tag) (size : Option ℕ) {v : V} {z : W} {go : Fields B C K.Tag → M} {go' : Fields D E K.Tag → N} → R v z → ((fs : Fields B C K.Tag) (gs : Fields D E K.Tag) → SameFields R fs gs → SameMatched S (go fs) (go' gs))
      → SameMatched S (under_record K g size v go) (under_record K g size z go')
  record-same g size r h = record-kind g size (by.kind _ _ r) h

  cell-kind : (g : K.Tag) {o : Option V} {q : Option W} {go : V → M} {go' : W → N} → BothOrNeither (AreOfOneKind R) o q → ((x : V) (y : W) → R x y → SameMatched S (go x) (go' y)) → SameMatched S (under_cell K g o go) (under_cell K g q go')
  cell-kind g (both (alike (cell_alike h' r))) h = at-same (K.same g h') (h _ _ r)
  cell-kind g (both (alike k)) h = both_mismatch
  cell-kind g (both (functions _ _ _ _)) h = both_mismatch
  cell-kind g neither h = both_mismatch

  ref-kind : (g : K.Tag) {vs : List V} {zs : List W} {v : V} {z : W} {go : V → M} {go' : W → N} → AllRelated R vs zs → AreOfOneKind R v z → ((x : V) (y : W) → R x y → SameMatched S (go x) (go' y)) → SameMatched S (under_ref K g vs v go) (under_ref K g zs z go')
  ref-kind g rs (alike (address_alike a)) h = cell-kind g (kinds (slice_get-same R a rs)) h
  ref-kind g rs (alike k) h = both_mismatch
  ref-kind g rs (functions _ _ _ _) h = both_mismatch

  -- with the references of two stores
  pub ref-same : (g : K.Tag) {vs : List V} {zs : List W} {v : V} {z : W} {go : V → M} {go' : W → N} → AllRelated R vs zs → R v z → ((x : V) (y : W) → R x y → SameMatched S (go x) (go' y)) → SameMatched S (under_ref K g vs v go) (under_ref K g zs z go')
  ref-same g rs r h = ref-kind g rs (by.kind _ _ r) h
