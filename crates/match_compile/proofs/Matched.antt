-- Patterns and the records of generalised ones in the two programs.
use Rattle.std.proofs.Common.{◌≡◌, ℕ, suc, ◌<◌, ◌≤◌, Bool, true, false, List, [], ◌++◌, Option, Some, None, if◌then◌else◌, nat_eq, option_and_then, refl, sym, ap, subst, ◌∙◌, arith}
use Rattle.std.specs.Prelude.{⊤}
use Rattle.std.proofs.lemmas.Bool.{eq-eqb}
use Rattle.mlc_names.specs.declared.label.Label.TheVariants.{Number}
use Rattle.mlc_runs.specs.Run.{World, Answer, gives, then_do, or_fail, fail}
use Rattle.mlc_runs.specs.Agreement.{BothOrNeither, neither, both, Agree, both_give, both_stop}
use Rattle.mlc_runs.proofs.RunLaws.{slice_get-same}
use Rattle.mlc_prims.specs.LitOf.{Literal}
use Rattle.mlc_prims.specs.Table.{literal_eq}
use Rattle.ty_core.specs.Types.{Typ}
use Rattle.ty_core.specs.declared.scheme.Quantified.{Quantified}
use Rattle.ir_poly.specs.of_ir_values.Tags.{untagged}
use Rattle.ir_poly.specs.of_ir_values.Values.{record_of, exn, no_fields, field, bind, field_in, count, literal_in}
use Rattle.ir_poly.specs.of_ir_values.Match.{matches, no_match, mismatch, then_match, after_match, where_same, on_found, against_literal, against_con, under_con, against_exn, under_exn, of_size, under_record, under_cell, under_ref}
use Rattle.ir_poly.specs.of_ir_values.Primitives.{content_of}
use Rattle.ir_poly.proofs.of_ir_values.EqualityLemmas.{literal-alike, field-same, count-same}
use Rattle.ir_poly.specs.of_ir_plain.Tree as te
use Rattle.ir_poly.specs.of_ir_plain.Meaning as tgt
use Rattle.ir_poly.specs.Prog.{Exc, fixed, held, Pat, any_pat, variable_pat, constant_pat, con_pat, con_of_pat, ref_of_pat, exn_pat, exn_of_pat, fields_pat, as_pat, PatFields, no_pats, a_pat}
use Rattle.ir_poly.specs.ProgMeaning as src
use Rattle.ir_poly.specs.Tests.{poly, Tests}
use Rattle.match_compile.specs.Compile.{Names, atom, excepted, own_types, scoped, put, test, Spots, no_spots, spot, spots, field_spots, past_pat, past_pats, tests, field_tests, spots_row, together, part, split, past_split, split_spots}
use Rattle.match_compile.proofs.Numbers.{different, le-suc, le-refl, le-less, less-of, pat-up, split-up}
use Rattle.match_compile.proofs.Related.{Same, same_record, same_con, same_con_of, same_exn, same_exn_of, same_address, same_cell, SameParts, SameEnv, kind-of, parts-fields, look-types, look_up-same, here, Holds, holds-refl, holds-trans, holds-bind, same-up, Bound, bound_none, bound_one, bound-more, Worlds}

abbrev W : Type 0
W = tgt.V poly

after-then-match : {A : Type 0} (m : src.Fits) (f : src.Scope → src.Fits) (w : World src.V) (go : src.Scope → World src.V → Answer src.V A) (other : World src.V → Answer src.V A)
    → after_match (then_match m f) w go other ≡ after_match m w (λ env w'. after_match (f env) w' go other) other
after-then-match (matches env) f w go other = refl
after-then-match no_match f w go other = refl
after-then-match mismatch f w go other = refl

-- exceptions' names are found in both, or the run goes wrong
pub data BothNames : Option src.V → Option W → Type 0 where
  both_named : {v : src.V} {v' : W} (i : ℕ) → v ≡ exn tt i → v' ≡ exn tt i → BothNames (Some v) (Some v')
  not_named : {o : Option W} → ((u : World W) (go : W → Answer W W) → tgt.on_name o u go ≡ fail u) → BothNames None o

names-of : {o : Option src.V} {o' : Option W} → BothOrNeither Same o o' → BothNames (option_and_then src.only_name o) o'
names-of neither = not_named (λ u go. refl)
names-of (both (same_exn tt i)) = both_named i refl refl
names-of (both _) = not_named (λ u go. refl)

pub exception-same : (x : Exc) {n : ℕ} {N : Names} {env : src.Scope} {ρ : tgt.Scope poly} → SameEnv n N env ρ → BothNames (src.exception_in x env) (tgt.exception_of (excepted N x) ρ)
exception-same (fixed i) s = both_named i refl refl
exception-same (held x) s = names-of (look_up-same x [] s)

-- the variables' values are the fields of a record, from l on
pub data FieldsOf (base : src.Scope) (q : tgt.Parts poly) : Spots → ℕ → src.Scope → Type 0 where
  fields_none : {l : ℕ} → FieldsOf base q no_spots l base
  fields_one : (x a l : ℕ) {t : Typ} {vs : Spots} {v : src.V} {v' : W} {env : src.Scope} → field_in (Number l) q ≡ Some v' → Same v v' → FieldsOf base q vs (suc l) env → FieldsOf base q (spot x a t vs) l (bind x v env)

fields-deeper : {base : src.Scope} {q : tgt.Parts poly} {vs : Spots} {l : ℕ} {env : src.Scope} (j : ℕ) (v : W) → j < l → FieldsOf base q vs l env → FieldsOf base (field (Number j) v q) vs l env
fields-deeper j v lt fields_none = fields_none
fields-deeper j v lt (fields_one x a l e r f) = fields_one x a l (rw (different l j (λ d. omega (arith, d, lt))) e) r (fields-deeper j v (omega (arith, lt)) f)

data RowOf (base : src.Scope) (ρ : tgt.Scope poly) (vs : Spots) (l : ℕ) (env : src.Scope) : Type 0 where
  row_of : (q : tgt.Parts poly) → tgt.look_row (spots_row vs l) ρ ≡ Some q → FieldsOf base q vs l env → RowOf base ρ vs l env

row-one : {base env : src.Scope} {ρ : tgt.Scope poly} {vs : Spots} (x a l : ℕ) (t : Typ) {v : src.V} {v' : W} → tgt.look_up (atom a) ρ ≡ Some v' → Same v v' → RowOf base ρ vs (suc l) env → RowOf base ρ (spot x a t vs) l (bind x v env)
row-one {ρ = ρ} {vs = vs} x a l t {v' = v'} e r (row_of q d f) =
    row_of (field (Number l) v' q) (ap (λ o. tgt.field_in_front (Number l) o (tgt.look_row (spots_row vs (suc l)) ρ)) e ∙ ap (tgt.field_in_front (Number l) (Some v')) d) (fields_one x a l (rw (eq-eqb l l refl) refl) r (fields-deeper l v' (omega arith) f))

row-bound : {n : ℕ} {ρ : tgt.Scope poly} {base env : src.Scope} {vs : Spots} (l : ℕ) → Bound n ρ base vs env → RowOf base ρ vs l env
row-bound l bound_none = row_of no_fields refl fields_none
row-bound l (bound_one x a lt e r b) = row-one x a l _ e r (row-bound (suc l) b)

-- an environment with the variables, and their record
pub data Recorded (base : src.Scope) (vs : Spots) : src.Scope → W → Type 0 where
  recorded_as : {q : tgt.Parts poly} {env : src.Scope} → FieldsOf base q vs 1 env → Recorded base vs env (record_of tt q)

module _ (call' : tgt.Apply poly) {A : Type 0} (S : A → W → Type 0) where
  abbrev ev : Tests → tgt.Scope poly → World W → tgt.Go poly → Answer W W
  ev = tgt.eval call'

  abbrev Go : Type 0
  Go = src.Scope → World src.V → Answer src.V A

  abbrev Other : Type 0
  Other = World src.V → Answer src.V A

  abbrev Go' : Type 0
  Go' = tgt.Scope poly → World W → Answer W W

  abbrev Other' : Type 0
  Other' = World W → Answer W W

  abbrev Ends : Answer src.V A → Answer W W → Type 0
  Ends = Agree Same S

  pub found : (a : ℕ) (ρ : tgt.Scope poly) (v' : W) (u : World W) (x : Answer src.V A) (f : W → Answer W W) → tgt.look_up (atom a) ρ ≡ Some v' → Ends x (f v') → Ends x (or_fail (tgt.look_up (atom a) ρ) u f)
  found a ρ v' u x f e h = subst (λ o. Ends x (or_fail o u f)) (sym e) h

  module _ (w : World src.V) (u : World W) (s : Worlds w u) (go : Go) (go' : Go') (other : Other) (other' : Other') (miss : Ends (other w) (other' u)) where
    -- two matches with what follows
    abbrev After : src.Fits → tgt.Fits poly → Type 0
    After m m' = Ends (after_match m w go other) (after_match m' u go' other')

    after-if : (b : Bool) (m : src.Fits) (m' : tgt.Fits poly) → After m m' → After (if b then m else no_match) (if b then m' else no_match)
    after-if true m m' h = h
    after-if false m m' h = miss

    sized : (b : Bool) (m : src.Fits) (m' : tgt.Fits poly) → After m m' → After (if b then m else mismatch) (if b then m' else mismatch)
    sized true m m' h = h
    sized false m m' h = both_stop _ s

    after-same : (o : Option Bool) (m : src.Fits) (m' : tgt.Fits poly) → After m m' → After (where_same o m) (where_same o m')
    after-same None m m' h = both_stop _ s
    after-same (Some true) m m' h = h
    after-same (Some false) m m' h = miss

    pub literal-tested : (l : Literal) {v : src.V} {v' : W} (env : src.Scope) (ρ : tgt.Scope poly) → Same v v' → Ends (go env w) (go' ρ u) → After (against_literal l v (matches env)) (against_literal l v' (matches ρ))
    literal-tested l {v} {v'} env ρ r h =
        subst (λ o. After (against_literal l v (matches env)) (where_same (option_and_then (literal_eq l) o) (matches ρ))) (sym (literal-alike Same (kind-of _ _ r))) (after-same (option_and_then (literal_eq l) (literal_in v)) (matches env) (matches ρ) h)

    pub con-tested : (c : ℕ) {v : src.V} {v' : W} (m : src.Fits) (m' : tgt.Fits poly) → Same v v' → After m m' → After (against_con untagged tt c v m) (against_con untagged tt c v' m')
    con-tested c m m' (same_con g d) h = after-if (nat_eq c d) m m' h
    con-tested c m m' (same_con_of g d r) h = after-if (nat_eq c d) mismatch mismatch (both_stop _ s)
    con-tested c m m' _ h = both_stop _ s

    pub con-of-tested : (c : ℕ) {v : src.V} {v' : W} (m : src.V → src.Fits) (m' : W → tgt.Fits poly) → Same v v' → ((x : src.V) (x' : W) → Same x x' → After (m x) (m' x')) → After (under_con untagged tt c v m) (under_con untagged tt c v' m')
    con-of-tested c m m' (same_con g d) h = after-if (nat_eq c d) mismatch mismatch (both_stop _ s)
    con-of-tested c m m' (same_con_of g d r) h = after-if (nat_eq c d) (m _) (m' _) (h _ _ r)
    con-of-tested c m m' _ h = both_stop _ s

    pub exn-tested : (i : ℕ) {v : src.V} {v' : W} (m : src.Fits) (m' : tgt.Fits poly) → Same v v' → After m m' → After (against_exn (Some (exn tt i)) v m) (against_exn (Some (exn tt i)) v' m')
    exn-tested i m m' (same_exn g d) h = after-if (nat_eq i d) m m' h
    exn-tested i m m' (same_exn_of g d r) h = after-if (nat_eq i d) mismatch mismatch (both_stop _ s)
    exn-tested i m m' _ h = both_stop _ s

    pub exn-of-tested : (i : ℕ) {v : src.V} {v' : W} (m : src.V → src.Fits) (m' : W → tgt.Fits poly) → Same v v' → ((x : src.V) (x' : W) → Same x x' → After (m x) (m' x')) → After (under_exn untagged tt (Some (exn tt i)) v m) (under_exn untagged tt (Some (exn tt i)) v' m')
    exn-of-tested i m m' (same_exn g d) h = after-if (nat_eq i d) mismatch mismatch (both_stop _ s)
    exn-of-tested i m m' (same_exn_of g d r) h = after-if (nat_eq i d) (m _) (m' _) (h _ _ r)
    exn-of-tested i m m' _ h = both_stop _ s

    of-size : (size : Option ℕ) (k : ℕ) (m : src.Fits) (m' : tgt.Fits poly) → After m m' → After (of_size untagged size k m) (of_size untagged size k m')
    of-size None k m m' h = h
    of-size (Some j) k m m' h = sized (nat_eq j k) m m' h

    pub record-tested : (size : Option ℕ) (g : ⊤) {fs : src.Parts} {gs : tgt.Parts poly} (m : src.Parts → src.Fits) (m' : tgt.Parts poly → tgt.Fits poly) → SameParts fs gs → After (m fs) (m' gs) → After (under_record untagged tt size (record_of g fs) m) (under_record untagged tt size (record_of g gs) m')
    record-tested size g {fs} {gs} m m' rs h =
        subst (λ k. After (under_record untagged tt size (record_of g fs) m) (of_size untagged size k (m' gs))) (sym (count-same Same (parts-fields rs))) (of-size size (count fs) (m fs) (m' gs) h)

  -- what a reference holds
  content-read : (w : World src.V) (u : World W) {v : src.V} {v' : W} (m : src.V → src.Fits) (go : Go) (other : Other) (f : W → World W → Answer W W) → Same v v' → Worlds w u → ((x : src.V) (x' : W) → Same x x' → Ends (after_match (m x) w go other) (f x' u))
      → Ends (after_match (under_ref untagged tt w.store v m) w go other) (then_do (tgt.read_reference tt v' u) f)
  content-read w u m go other f (same_address a) s h = cell (slice_get-same Same a s.store)
    where
      cell : {o : Option src.V} {o' : Option W} → BothOrNeither Same o o' → Ends (after_match (under_cell untagged tt o m) w go other) (then_do (or_fail o' u (content_of untagged tt u)) f)
      cell (both (same_cell g r)) = h _ _ r
      cell (both _) = both_stop _ s
      cell neither = both_stop _ s
  content-read w u m go other f _ s h = both_stop _ s

  -- a field of a record
  field-read : (w : World src.V) (u : World W) {o : Option src.V} {o' : Option W} (m : src.V → src.Fits) (go : Go) (other : Other) (f : W → World W → Answer W W) → BothOrNeither Same o o' → Worlds w u → ((x : src.V) (x' : W) → Same x x' → Ends (after_match (m x) w go other) (f x' u))
      → Ends (after_match (on_found o m) w go other) (then_do (or_fail o' u (λ v. gives v u)) f)
  field-read w u m go other f (both r) s h = h _ _ r
  field-read w u m go other f neither s h = both_stop _ s

  module _ (D : List Quantified) (N : Names) (at base : src.Scope) where
    -- what follows where the tests hold
    abbrev Matches : Go → Tests → (n m : ℕ) → tgt.Scope poly → Spots → World src.V → World W → Other' → Type 0
    Matches go rest n m ρ vs w u other' = (env : src.Scope) (ρ' : tgt.Scope poly) → Holds n ρ ρ' → Bound m ρ' base vs env → Ends (go env w) (ev rest ρ' u other')

    abbrev PatSame : Pat → Type 0
    PatSame p = (n a : ℕ) (t : Typ) (env : src.Scope) (vs : Spots) (ρ : tgt.Scope poly) (w : World src.V) (u : World W) (v : src.V) (v' : W) (go : Go) (rest : Tests) (other : Other) (other' : Other') → SameEnv n N at ρ → Worlds w u → Same v v' → tgt.look_up (atom a) ρ ≡ Some v' → a < n → Bound n ρ base vs env
        → Matches go rest n (past_pat p n) ρ (spots p t n a vs) w u other' → Ends (other w) (other' u) → Ends (after_match (src.match_pat w.store at p v env) w go other) (ev (tests D N p t n a rest) ρ u other')

    abbrev FieldsSame : PatFields → Type 0
    FieldsSame ps = (t : Typ) (n a : ℕ) (env : src.Scope) (vs : Spots) (ρ : tgt.Scope poly) (w : World src.V) (u : World W) (g : ⊤) (fs : src.Parts) (gs : tgt.Parts poly) (go : Go) (rest : Tests) (other : Other) (other' : Other') → SameEnv n N at ρ → Worlds w u → SameParts fs gs → tgt.look_up (atom a) ρ ≡ Some (record_of g gs) → a < n → Bound n ρ base vs env
        → Matches go rest n (past_pats ps n) ρ (field_spots ps n vs) w u other' → Ends (other w) (other' u) → Ends (after_match (src.match_fields w.store at ps fs env) w go other) (ev (field_tests D N ps t n a rest) ρ u other')

    -- a part in the new variable n
    part-same : (p : Pat) → PatSame p → (n : ℕ) (t : Typ) (env : src.Scope) (vs : Spots) (ρ : tgt.Scope poly) (w : World src.V) (u : World W) (x : src.V) (x' : W) (go : Go) (rest : Tests) (other : Other) (other' : Other') → SameEnv n N at ρ → Worlds w u → Same x x' → Bound n ρ base vs env
        → Matches go rest n (past_pat p (suc n)) ρ (spots p t (suc n) n vs) w u other' → Ends (other w) (other' u) → Ends (after_match (src.match_pat w.store at p x env) w go other) (ev (tests D N p t (suc n) n rest) (bind n x' ρ) u other')
    part-same p same n t env vs ρ w u x x' go rest other other' h s q b k l =
        let le = le-suc n n (le-refl n) in let holds = holds-bind n n x' ρ (le-refl n) in
        same (suc n) n t env vs (bind n x' ρ) w u x x' go rest other other' (same-up n (suc n) le holds h) s q (here n x' ρ) (omega arith) (bound-more n (suc n) le holds b) (λ env' ρ' z b'. k env' ρ' (holds-trans n (suc n) ρ (bind n x' ρ) ρ' le holds z) b') l

    content-same : (p : Pat) → PatSame p → (t0 : Typ) (n a : ℕ) (t : Typ) (env : src.Scope) (vs : Spots) (ρ : tgt.Scope poly) (w : World src.V) (u : World W) (v : src.V) (v' : W) (go : Go) (rest : Tests) (other : Other) (other' : Other') → SameEnv n N at ρ → Worlds w u → Same v v' → tgt.look_up (atom a) ρ ≡ Some v' → Bound n ρ base vs env
        → Matches go rest n (past_pat p (suc n)) ρ (spots p t (suc n) n vs) w u other' → Ends (other w) (other' u) → Ends (after_match (under_ref untagged tt w.store v (λ x. src.match_pat w.store at p x env)) w go other) (ev (tests D N (ref_of_pat t p) t0 n a rest) ρ u other')
    content-same p same t0 n a t env vs ρ w u v v' go rest other other' h s r e b k l =
        subst (λ o. Ends (after_match (under_ref untagged tt w.store v (λ x. src.match_pat w.store at p x env)) w go other) (then_do (or_fail o u (λ y. tgt.read_reference tt y u)) (λ x z. ev (tests D N p t (suc n) n rest) (bind n x ρ) z other'))) (sym e)
        (content-read w u (λ x. src.match_pat w.store at p x env) go other (λ x z. ev (tests D N p t (suc n) n rest) (bind n x ρ) z other') r s (λ x x' q. part-same p same n t env vs ρ w u x x' go rest other other' h s q b k l))

    fields-tested : (further : Bool) (ps : PatFields) → FieldsSame ps → (t : Typ) (n a : ℕ) (env : src.Scope) (vs : Spots) (ρ : tgt.Scope poly) (w : World src.V) (u : World W) (v : src.V) (v' : W) (go : Go) (rest : Tests) (other : Other) (other' : Other') → SameEnv n N at ρ → Worlds w u → Same v v' → tgt.look_up (atom a) ρ ≡ Some v' → a < n → Bound n ρ base vs env
        → Matches go rest n (past_pats ps n) ρ (field_spots ps n vs) w u other' → Ends (other w) (other' u)
        → Ends (after_match (under_record untagged tt (src.size_of further ps) v (λ fs. src.match_fields w.store at ps fs env)) w go other) (after_match (under_record untagged tt (src.size_of further ps) v' (λ fs. matches ρ)) u (λ ρ' u'. ev (field_tests D N ps t n a rest) ρ' u' other') other')
    fields-tested further ps same t n a env vs ρ w u _ _ go rest other other' h s (same_record g {fs} {gs} q) e lt b k l =
        record-tested w u s go (λ ρ' u'. ev (field_tests D N ps t n a rest) ρ' u' other') other other' l (src.size_of further ps) g (λ fs. src.match_fields w.store at ps fs env) (λ fs. matches ρ) q (same t n a env vs ρ w u g fs gs go rest other other' h s q e lt b k l)
    fields-tested further ps same t n a env vs ρ w u v v' go rest other other' h s _ e lt b k l = both_stop _ s

    -- the exception's name in the new variable n, and then the test
    exn-named : {o : Option src.V} {o' : Option W} → BothNames o o' → (n a : ℕ) (t : Typ) (env : src.Scope) (vs : Spots) (ρ : tgt.Scope poly) (w : World src.V) (u : World W) (v : src.V) (v' : W) (go : Go) (rest : Tests) (other : Other) (other' : Other') → Worlds w u → Same v v' → tgt.look_up (atom a) ρ ≡ Some v' → a < n → Bound n ρ base vs env
        → Matches go rest n (suc n) ρ vs w u other' → Ends (other w) (other' u)
        → Ends (after_match (against_exn o v (matches env)) w go other) (tgt.on_name o' u (λ z. ev (test D t a (te.is_exn (atom n)) rest) (bind n z ρ) u other'))
    exn-named (both_named {v = y} {v' = y'} i refl_y refl_y') n a t env vs ρ w u v v' go rest other other' s r e lt b k l =
        let ρ1 = bind n (exn tt i) ρ in let holds = holds-bind n n (exn tt i) ρ (le-refl n) in let go' = λ (ρ' : tgt.Scope poly) (u' : World W). ev rest ρ' u' other' in
        rw (refl_y, refl_y')
        (found a ρ1 v' u _ _ (holds a lt ∙ e)
        (subst (λ o. Ends (after_match (against_exn (Some (exn tt i)) v (matches env)) w go other) (after_match (against_exn o v' (matches ρ1)) u go' other')) (sym (here n (exn tt i) ρ))
        (exn-tested w u s go go' other other' l i (matches env) (matches ρ1) r (k env ρ1 holds (bound-more n (suc n) (le-suc n n (le-refl n)) holds b)))))
    exn-named (not_named f) n a t env vs ρ w u v v' go rest other other' s r e lt b k l = rw (f u (λ z. ev (test D t a (te.is_exn (atom n)) rest) (bind n z ρ) u other')) (both_stop _ s)

    exn-of-named : {o : Option src.V} {o' : Option W} → BothNames o o' → (p : Pat) → PatSame p → (n a : ℕ) (t t' : Typ) (env : src.Scope) (vs : Spots) (ρ : tgt.Scope poly) (w : World src.V) (u : World W) (v : src.V) (v' : W) (go : Go) (rest : Tests) (other : Other) (other' : Other') → SameEnv n N at ρ → Worlds w u → Same v v' → tgt.look_up (atom a) ρ ≡ Some v' → a < n → Bound n ρ base vs env
        → Matches go rest n (past_pat p (suc (suc n))) ρ (spots p t' (suc (suc n)) (suc n) vs) w u other' → Ends (other w) (other' u)
        → Ends (after_match (under_exn untagged tt o v (λ x. src.match_pat w.store at p x env)) w go other) (tgt.on_name o' u (λ z. ev (test D t a (te.is_exn_of (atom n) (suc n) (scoped D t')) (tests D N p t' (suc (suc n)) (suc n) rest)) (bind n z ρ) u other'))
    exn-of-named (both_named {v = y} {v' = y'} i refl_y refl_y') p same n a t t' env vs ρ w u v v' go rest other other' h s r e lt b k l =
        let ρ1 = bind n (exn tt i) ρ in let le = le-suc n n (le-refl n) in let holds = holds-bind n n (exn tt i) ρ (le-refl n) in let go' = λ (ρ' : tgt.Scope poly) (u' : World W). ev (tests D N p t' (suc (suc n)) (suc n) rest) ρ' u' other' in
        rw (refl_y, refl_y')
        (found a ρ1 v' u _ _ (holds a lt ∙ e)
        (subst (λ o. Ends (after_match (under_exn untagged tt (Some (exn tt i)) v (λ x. src.match_pat w.store at p x env)) w go other) (after_match (under_exn untagged tt o v' (λ x. matches (bind (suc n) x ρ1))) u go' other')) (sym (here n (exn tt i) ρ))
        (exn-of-tested w u s go go' other other' l i (λ x. src.match_pat w.store at p x env) (λ x. matches (bind (suc n) x ρ1)) r (λ y y' q. part-same p same (suc n) t' env vs ρ1 w u y y' go rest other other' (same-up n (suc n) le holds h) s q (bound-more n (suc n) le holds b)
        (λ env' ρ' z b'. k env' ρ' (holds-trans n (suc n) ρ ρ1 ρ' le holds z) b') l))))
    exn-of-named (not_named f) p same n a t t' env vs ρ w u v v' go rest other other' h s r e lt b k l = rw (f u (λ z. ev (test D t a (te.is_exn_of (atom n) (suc n) (scoped D t')) (tests D N p t' (suc (suc n)) (suc n) rest)) (bind n z ρ) u other')) (both_stop _ s)

    mutual
      pub tests-same : (p : Pat) → PatSame p
      tests-same any_pat n a t env vs ρ w u v v' go rest other other' h s r e lt b k l = k env ρ (holds-refl n ρ) b
      tests-same (variable_pat x) n a t env vs ρ w u v v' go rest other other' h s r e lt b k l = k _ ρ (holds-refl n ρ) (bound_one x a lt e r b)
      tests-same (constant_pat c) n a t env vs ρ w u v v' go rest other other' h s r e lt b k l = found a ρ v' u _ _ e (literal-tested w u s go (λ ρ' u'. ev rest ρ' u' other') other other' l c env ρ r (k env ρ (holds-refl n ρ) b))
      tests-same (con_pat c) n a t env vs ρ w u v v' go rest other other' h s r e lt b k l = found a ρ v' u _ _ e (con-tested w u s go (λ ρ' u'. ev rest ρ' u' other') other other' l c (matches env) (matches ρ) r (k env ρ (holds-refl n ρ) b))
      tests-same (con_of_pat c t' p) n a t env vs ρ w u v v' go rest other other' h s r e lt b k l =
          found a ρ v' u _ _ e (con-of-tested w u s go (λ ρ' u'. ev (tests D N p t' (suc n) n rest) ρ' u' other') other other' l c (λ x. src.match_pat w.store at p x env) (λ x. matches (bind n x ρ)) r (λ x x' q. part-same p (tests-same p) n t' env vs ρ w u x x' go rest other other' h s q b k l))
      tests-same (ref_of_pat t' p) n a t env vs ρ w u v v' go rest other other' h s r e lt b k l = content-same p (tests-same p) t n a t' env vs ρ w u v v' go rest other other' h s r e b k l
      tests-same (exn_pat x) n a t env vs ρ w u v v' go rest other other' h s r e lt b k l = exn-named (exception-same x h) n a t env vs ρ w u v v' go rest other other' s r e lt b k l
      tests-same (exn_of_pat x t' p) n a t env vs ρ w u v v' go rest other other' h s r e lt b k l = exn-of-named (exception-same x h) p (tests-same p) n a t t' env vs ρ w u v v' go rest other other' h s r e lt b k l
      tests-same (fields_pat further ps) n a t env vs ρ w u v v' go rest other other' h s r e lt b k l = found a ρ v' u _ _ e (fields-tested further ps (field-tests-same ps) t n a env vs ρ w u v v' go rest other other' h s r e lt b k l)
      tests-same (as_pat x p) n a t env vs ρ w u v v' go rest other other' h s r e lt b k l = tests-same p n a t (bind x v env) (spot x a t vs) ρ w u v v' go rest other other' h s r e lt (bound_one x a lt e r b) k l

      field-tests-same : (ps : PatFields) → FieldsSame ps
      field-tests-same no_pats t0 n a env vs ρ w u g fs gs go rest other other' h s q e lt b k l = k env ρ (holds-refl n ρ) b
      field-tests-same (a_pat l t p ps) t0 n a env vs ρ w u g fs gs go rest other other' h s q e lt b k miss =
          let j = past_pat p (suc n) in let le : n ≤ j = le-less _ _ (pat-up p (suc n)) in
          let later = λ (env' : src.Scope) (w' : World src.V). after_match (src.match_fields w.store at ps fs env') w' go other in
          subst (λ x. Ends x (ev (field_tests D N (a_pat l t p ps) t0 n a rest) ρ u other')) (sym (after-then-match (on_found (field_in l fs) (λ v. src.match_pat w.store at p v env)) (src.match_fields w.store at ps fs) w go other))
          (subst (λ o. Ends (after_match (on_found (field_in l fs) (λ v. src.match_pat w.store at p v env)) w later other) (then_do (or_fail o u (λ v. tgt.select_from tt l v u)) (λ x z. ev (tests D N p t (suc n) n (field_tests D N ps t0 j a rest)) (bind n x ρ) z other'))) (sym e)
          (field-read w u (λ v. src.match_pat w.store at p v env) later other (λ x z. ev (tests D N p t (suc n) n (field_tests D N ps t0 j a rest)) (bind n x ρ) z other') (field-same Same l (parts-fields q)) s (λ x x' z. part-same p (tests-same p) n t env vs ρ w u x x' later (field_tests D N ps t0 j a rest) other other' h s z b
          (λ env' ρ' z' b'. field-tests-same ps t0 j a env' (spots p t (suc n) n vs) ρ' w u g fs gs go rest other other' (same-up n j le z' h) s q (z' a lt ∙ e) (less-of a n j lt le) b' (λ env2 ρ2 z2 b2. k env2 ρ2 (holds-trans n j ρ ρ' ρ2 le z' z2) b2) miss) miss)))

  -- a field of the record of variables
  part-gives : (D qs : List Quantified) (t' : Typ) (r l : ℕ) (t : Typ) (k : ℕ) (ρ : tgt.Scope poly) (u : World W) (q : tgt.Parts poly) (v' : W) → tgt.look_up (atom r) ρ ≡ Some (record_of tt q) → field_in (Number l) q ≡ Some v' → ev (part D qs t' r l t k) ρ u fail ≡ gives v' u
  part-gives D qs t' r l t k ρ u q v' e d =
      let ρ1 = bind k (record_of tt q) ρ in let end : Tests = te.ret (atom (suc k)) in
      ap (λ o. then_do (or_fail o u (λ v. gives v u)) (λ y z. ev (put D (suc k) t (te.select (scoped D t') (Number l) (atom k)) end) (bind k y ρ) z fail)) (look-types r (own_types qs) ρ ∙ e)
      ∙ (ap (λ o. then_do (or_fail o u (λ v. tgt.select_from tt (Number l) v u)) (λ y z. ev end (bind (suc k) y ρ1) z fail)) (here k (record_of tt q) ρ)
      ∙ (ap (λ o. then_do (or_fail o u (λ v. gives v u)) (λ y z. ev end (bind (suc k) y ρ1) z fail)) d
      ∙ ap (λ o. or_fail o u (λ v. gives v u)) (here (suc k) v' ρ1)))

  pub split-same : (D qs : List Quantified) (t' : Typ) (r : ℕ) {q : tgt.Parts poly} {base0 base env : src.Scope} {vs us : Spots} {l : ℕ} → FieldsOf base q vs l env → (k : ℕ) (ρ : tgt.Scope poly) (u : World W) (y : Answer src.V A) (rest : Tests) (other' : Other') → tgt.look_up (atom r) ρ ≡ Some (record_of tt q) → r < k → Bound k ρ base0 us base
      → ((ρ' : tgt.Scope poly) → Holds k ρ ρ' → Bound (past_split vs k) ρ' base0 (split_spots vs k us) env → Ends y (ev rest ρ' u other')) → Ends y (ev (split D qs t' r vs l k rest) ρ u other')
  split-same D qs t' r fields_none k ρ u y rest other' e lt b f = f ρ (holds-refl k ρ) b
  split-same D qs t' r {q = q} {base0 = base0} {us = us} (fields_one x a l {t = t} {vs = vs} {v' = v'} d z fs) k ρ u y rest other' e lt b f =
      let j = suc (suc k) in let m = suc j in let ρ1 = bind j v' ρ in let le : k ≤ m = omega arith in let holds : Holds k ρ ρ1 = holds-bind k j v' ρ (omega arith) in
      subst (λ o. Ends y (then_do o (λ v w. ev (split D qs t' r vs (suc l) m rest) (bind j v ρ) w other'))) (sym (part-gives (qs ++ D) qs t' r l t k ρ u q v' e d))
      (split-same D qs t' r fs m ρ1 u y rest other' (holds r lt ∙ e) (omega (arith, lt)) (bound-more k m le holds b) (λ ρ2 h2 b2.
      f ρ2 (holds-trans k m ρ ρ1 ρ2 le holds h2) (bound_one x j (less-of j m _ (omega arith) (split-up vs m)) (h2 j (omega arith) ∙ here j v' ρ) z b2)))

together-row : (call' : tgt.Apply poly) (D : List Quantified) {base env : src.Scope} {ρ : tgt.Scope poly} {vs : Spots} (j : ℕ) (w : World src.V) (u : World W) (other' : World W → Answer W W) → Worlds w u → RowOf base ρ vs 1 env → Agree Same (Recorded base vs) (gives env w) (tgt.eval call' (together D vs j) ρ u other')
together-row call' D {base} {env} {ρ} {vs} j w u other' s (row_of q d f) =
    subst (λ o. Agree Same (Recorded base vs) (gives env w) (then_do (or_fail o u (λ q. gives (record_of tt q) u)) (λ v z. tgt.eval call' (te.ret (atom j)) (bind j v ρ) z other'))) (sym d)
    (found call' (Recorded base vs) j (bind j (record_of tt q) ρ) (record_of tt q) u (gives env w) (λ v. gives v u) (here j (record_of tt q) ρ) (both_give (recorded_as f) s))

pub together-same : (call' : tgt.Apply poly) (D : List Quantified) {n : ℕ} {base env : src.Scope} {ρ : tgt.Scope poly} {vs : Spots} (j : ℕ) (w : World src.V) (u : World W) (other' : World W → Answer W W) → Worlds w u → Bound n ρ base vs env → Agree Same (Recorded base vs) (gives env w) (tgt.eval call' (together D vs j) ρ u other')
together-same call' D j w u other' s b = together-row call' D j w u other' s (row-bound 1 b)
