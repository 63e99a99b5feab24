-- Values and environments of the two programs.
use Rattle.std.proofs.Common.{◌≡◌, ℕ, suc, ◌<◌, ◌≤◌, Bool, true, false, List, [], ◌∷◌, Option, Some, None, if◌then◌else◌, nat_eq, refl, sym, ap, subst, ◌∙◌, arith}
use Rattle.std.specs.Prelude.{⊤}
use Rattle.std.proofs.lemmas.Bool.{eq-eqb}
use Rattle.mlc_names.specs.declared.label.Label.{Label}
use Rattle.mlc_runs.specs.Agreement.{BothOrNeither, neither, both, SameWorlds, Agree}
use Rattle.mlc_runs.specs.Run.{World, Answer}
use Rattle.mlc_prims.specs.LitOf.{Literal}
use Rattle.mlc_prims.specs.declared.basis.BasisPrimitive.{BasisPrimitive}
use Rattle.ty_core.specs.Types.{Typ}
use Rattle.ty_core.specs.declared.scheme.Quantified.{Quantified}
use Rattle.ir_poly.specs.of_ir_values.Values.{literal, record_of, con, con_of, exn, exn_of, ref, address, cell, primitive, closure, no_fields, field, empty, bind}
use Rattle.ir_poly.specs.of_ir_values.Related.{SameFields, same_none, same_more, AreAlike, literals_alike, records_alike, con_alike, con_of_alike, exn_alike, exn_of_alike, ref_alike, address_alike, cell_alike, primitive_alike, AreOfOneKind, alike, functions, IsByKind}
use Rattle.ir_poly.specs.of_ir_plain.Tree as te
use Rattle.ir_poly.specs.of_ir_plain.Meaning as tgt
use Rattle.ir_poly.specs.Prog.{Fun, Funs, no_funs, a_fun}
use Rattle.ir_poly.specs.ProgMeaning as src
use Rattle.ir_poly.specs.Tests.{inst, poly}
use Rattle.match_compile.specs.Compile as pass
use Rattle.match_compile.specs.Compile.{Names, no_names, named, each_named, funs_named, past_group, atom, Spots, no_spots, spot, spots_named, past_fun, function}
use Rattle.match_compile.proofs.Numbers.{different, le-trans, le-less, le-refl, le-suc, less-of, group-up, fun-up}

-- code and what it was compiled to: n is above the numbers of the names
pub data SameCode (n : ℕ) (N : Names) : src.Code → tgt.Code poly → Type 0 where
  same_alone : (D : List Quantified) (f : Fun) (m : ℕ) {f' : te.Fun poly} → n ≤ m → f' ≡ function D N f m → SameCode n N (src.alone f) (tgt.alone f')
  same_one_of : (D E : List Quantified) (f : Fun) (m : ℕ) {f' : te.Fun poly} (fs : Funs) (b k : ℕ) {fs' : te.Funs poly} → n ≤ b → past_group fs b ≤ k → past_group fs b ≤ m → f' ≡ function D (funs_named fs b N) f m
      → fs' ≡ pass.functions E (funs_named fs b N) fs b k → SameCode n N (src.one_of f fs) (tgt.one_of f' fs')

mutual
  pub data Same : src.V → tgt.V poly → Type 0 where
    same_literal : (l : Literal) → Same (literal l) (literal l)
    same_record : (g : ⊤) {fs : src.Parts} {gs : tgt.Parts poly} → SameParts fs gs → Same (record_of g fs) (record_of g gs)
    same_con : (g : ⊤) (c : ℕ) → Same (con g c) (con g c)
    same_con_of : (g : ⊤) (c : ℕ) {v : src.V} {v' : tgt.V poly} → Same v v' → Same (con_of g c v) (con_of g c v')
    same_exn : (g : ⊤) (i : ℕ) → Same (exn g i) (exn g i)
    same_exn_of : (g : ⊤) (i : ℕ) {v : src.V} {v' : tgt.V poly} → Same v v' → Same (exn_of g i v) (exn_of g i v')
    same_ref : (g : ⊤) → Same (ref g) (ref g)
    same_address : (a : ℕ) → Same (address a) (address a)
    same_cell : (g : ⊤) {v : src.V} {v' : tgt.V poly} → Same v v' → Same (cell g v) (cell g v')
    same_primitive : (g : ⊤) (p : BasisPrimitive) → Same (primitive g p) (primitive g p)
    same_closure : (n : ℕ) (N : Names) {c : src.Code} {c' : tgt.Code poly} {env : src.Scope} {ρ : tgt.Scope poly} → SameCode n N c c' → SameEnv n N env ρ → Same (closure c env) (closure c' ρ)

  pub data SameParts : src.Parts → tgt.Parts poly → Type 0 where
    no_same : SameParts no_fields no_fields
    a_same : (l : Label) {v : src.V} {v' : tgt.V poly} {fs : src.Parts} {gs : tgt.Parts poly} → Same v v' → SameParts fs gs → SameParts (field l v fs) (field l v' gs)

  -- each variable has its value in the one that it has got, which lies below n
  pub data SameEnv : ℕ → Names → src.Scope → tgt.Scope poly → Type 0 where
    same_empty : (n : ℕ) {ρ : tgt.Scope poly} → 0 < n → tgt.look_up (atom 0) ρ ≡ None → SameEnv n no_names empty ρ
    same_bind : (n x k : ℕ) {N : Names} {v : src.V} {v' : tgt.V poly} {env : src.Scope} {ρ : tgt.Scope poly} → k < n → tgt.look_up (atom k) ρ ≡ Some v' → Same v v' → SameEnv n N env ρ → SameEnv n (named x k N) (bind x v env) ρ

-- Values by kind

pub parts-fields : {fs : src.Parts} {gs : tgt.Parts poly} → SameParts fs gs → SameFields Same fs gs
parts-fields no_same = same_none
parts-fields (a_same l r rs) = same_more l r (parts-fields rs)

pub fields-parts : {fs : src.Parts} {gs : tgt.Parts poly} → SameFields Same fs gs → SameParts fs gs
fields-parts same_none = no_same
fields-parts (same_more l r rs) = a_same l r (fields-parts rs)

pub kind-of : (v : src.V) (v' : tgt.V poly) → Same v v' → AreOfOneKind Same v v'
kind-of _ _ (same_literal l) = alike (literals_alike l)
kind-of _ _ (same_record g rs) = alike (records_alike g (parts-fields rs))
kind-of _ _ (same_con g c) = alike (con_alike g c)
kind-of _ _ (same_con_of g c r) = alike (con_of_alike g c r)
kind-of _ _ (same_exn g i) = alike (exn_alike g i)
kind-of _ _ (same_exn_of g i r) = alike (exn_of_alike g i r)
kind-of _ _ (same_ref g) = alike (ref_alike g)
kind-of _ _ (same_address a) = alike (address_alike a)
kind-of _ _ (same_cell g r) = alike (cell_alike g r)
kind-of _ _ (same_primitive g p) = alike (primitive_alike g p)
kind-of _ _ (same_closure n N {c} {c'} {env} {ρ} s h) = functions c c' env ρ

same-of : (v : src.V) (v' : tgt.V poly) → AreAlike Same v v' → Same v v'
same-of _ _ (literals_alike l) = same_literal l
same-of _ _ (records_alike g rs) = same_record g (fields-parts rs)
same-of _ _ (con_alike g c) = same_con g c
same-of _ _ (con_of_alike g c r) = same_con_of g c r
same-of _ _ (exn_alike g i) = same_exn g i
same-of _ _ (exn_of_alike g i r) = same_exn_of g i r
same-of _ _ (ref_alike g) = same_ref g
same-of _ _ (address_alike a) = same_address a
same-of _ _ (cell_alike g r) = same_cell g r
same-of _ _ (primitive_alike g p) = same_primitive g p

pub by-kind : IsByKind Same
by-kind = record { kind = kind-of; related = same-of }

-- Environments

pub look-types : (k : ℕ) (ts : List Typ) (ρ : tgt.Scope poly) → tgt.look_up (inst k ts) ρ ≡ tgt.look_up (atom k) ρ
look-types k ts empty = refl
look-types k ts (bind y v ρ) = ap (λ o. if nat_eq k y then Some v else o) (look-types k ts ρ)

pub here : (k : ℕ) (v : tgt.V poly) (ρ : tgt.Scope poly) → tgt.look_up (atom k) (bind k v ρ) ≡ Some v
here k v ρ = rw (eq-eqb k k refl) refl

-- the variables below n have their values still
abbrev pub Holds : ℕ → tgt.Scope poly → tgt.Scope poly → Type 0
Holds n ρ ρ' = (i : ℕ) → i < n → tgt.look_up (atom i) ρ' ≡ tgt.look_up (atom i) ρ

pub holds-refl : (n : ℕ) (ρ : tgt.Scope poly) → Holds n ρ ρ
holds-refl n ρ i h = refl

pub holds-trans : (n m : ℕ) (a b c : tgt.Scope poly) → n ≤ m → Holds n a b → Holds m b c → Holds n a c
holds-trans n m a b c le h k i lt = k i (less-of i n m lt le) ∙ h i lt

pub holds-bind : (n k : ℕ) (v : tgt.V poly) (ρ : tgt.Scope poly) → n ≤ k → Holds n ρ (bind k v ρ)
holds-bind n k v ρ le i lt = rw (different i k (λ e. omega (arith, e, lt, le))) refl

pub same-up : (n m : ℕ) {N : Names} {env : src.Scope} {ρ ρ' : tgt.Scope poly} → n ≤ m → Holds n ρ ρ' → SameEnv n N env ρ → SameEnv m N env ρ'
same-up n m le h (same_empty _ lt e) = same_empty m (less-of 0 n m lt le) (h 0 lt ∙ e)
same-up n m le h (same_bind _ x k lt e r s) = same_bind m x k (less-of k n m lt le) (h k lt ∙ e) r (same-up n m le h s)

chosen : (b : Bool) (k j : ℕ) (ts : List Typ) {v : src.V} {v' : tgt.V poly} {o : Option src.V} (ρ : tgt.Scope poly) → tgt.look_up (inst k ts) ρ ≡ Some v' → Same v v' → BothOrNeither Same o (tgt.look_up (inst j ts) ρ)
    → BothOrNeither Same (if b then Some v else o) (tgt.look_up (inst (if b then k else j) ts) ρ)
chosen true k j ts ρ e r h = subst (BothOrNeither Same (Some _)) (sym e) (both r)
chosen false k j ts ρ e r h = h

pub look_up-same : (x : ℕ) (ts : List Typ) {n : ℕ} {N : Names} {env : src.Scope} {ρ : tgt.Scope poly} → SameEnv n N env ρ → BothOrNeither Same (src.look_up x env) (tgt.look_up (inst (N x) ts) ρ)
look_up-same x ts {ρ = ρ} (same_empty n lt e) = subst (BothOrNeither Same None) (sym (look-types 0 ts ρ ∙ e)) neither
look_up-same x ts {ρ = ρ} (same_bind n y k lt e r s) = chosen (nat_eq x y) k _ ts ρ (look-types k ts ρ ∙ e) r (look_up-same x ts s)

-- the variables of patterns have their values, and the last environment has them in front of the first
pub data Bound (n : ℕ) (ρ : tgt.Scope poly) (base : src.Scope) : Spots → src.Scope → Type 0 where
  bound_none : Bound n ρ base no_spots base
  bound_one : (x a : ℕ) {t : Typ} {vs : Spots} {v : src.V} {v' : tgt.V poly} {env : src.Scope} → a < n → tgt.look_up (atom a) ρ ≡ Some v' → Same v v' → Bound n ρ base vs env → Bound n ρ base (spot x a t vs) (bind x v env)

pub bound-more : (n m : ℕ) {ρ ρ' : tgt.Scope poly} {base env : src.Scope} {vs : Spots} → n ≤ m → Holds n ρ ρ' → Bound n ρ base vs env → Bound m ρ' base vs env
bound-more n m le h bound_none = bound_none
bound-more n m le h (bound_one x a lt e r b) = bound_one x a (less-of a n m lt le) (h a lt ∙ e) r (bound-more n m le h b)

pub bound-onto : {n : ℕ} {N : Names} {ρ : tgt.Scope poly} {base env : src.Scope} {vs : Spots} → SameEnv n N base ρ → Bound n ρ base vs env → SameEnv n (spots_named vs N) env ρ
bound-onto s bound_none = s
bound-onto {n} s (bound_one x a lt e r b) = same_bind n x a lt e r (bound-onto s b)

-- Groups

pub each-same : (xs : List ℕ) (n k : ℕ) {N : Names} {v : src.V} {v' : tgt.V poly} {env : src.Scope} {ρ : tgt.Scope poly} → k < n → tgt.look_up (atom k) ρ ≡ Some v' → Same v v' → SameEnv n N env ρ → SameEnv n (each_named xs k N) (src.bind_all xs v env) ρ
each-same [] n k lt e r s = s
each-same (x ∷ xs) n k lt e r s = same_bind n x k lt e r (each-same xs n k lt e r s)

module _ (E : List Quantified) (M : Names) (all : te.Funs poly) (ρ : tgt.Scope poly) where
  -- the functions are found under the numbers from b on
  abbrev FoundIn : Funs → (b k : ℕ) → tgt.Scope poly → Type 0
  FoundIn no_funs b k ρ' = ⊤
  FoundIn (a_fun xs t f fs) b k ρ' = (tgt.look_up (atom b) ρ' ≡ Some (closure (tgt.one_of (function E M f k) all) ρ)) × FoundIn fs (suc b) (past_fun f k) ρ'

  found-more : (fs : Funs) (b k c : ℕ) (v : tgt.V poly) (ρ' : tgt.Scope poly) → c < b → FoundIn fs b k ρ' → FoundIn fs b k (bind c v ρ')
  found-more no_funs b k c v ρ' lt h = tt
  found-more (a_fun xs t f fs) b k c v ρ' lt h = (rw (different b c (λ e. omega (arith, e, lt))) h.0, found-more fs (suc b) (past_fun f k) c v ρ' (omega (arith, lt)) h.1)

  found-all : (fs : Funs) (b k : ℕ) → FoundIn fs b k (tgt.members_from (pass.functions E M fs b k) all ρ)
  found-all no_funs b k = tt
  found-all (a_fun xs t f fs) b k =
      let v = closure (tgt.one_of (function E M f k) all) ρ in let ρ' = tgt.members_from (pass.functions E M fs (suc b) (past_fun f k)) all ρ in
      (here b v ρ', found-more fs (suc b) (past_fun f k) b v ρ' (omega arith) (found-all fs (suc b) (past_fun f k)))

  members-hold : (fs : Funs) (n b k : ℕ) → n ≤ b → Holds n ρ (tgt.members_from (pass.functions E M fs b k) all ρ)
  members-hold no_funs n b k le = holds-refl n ρ
  members-hold (a_fun xs t f fs) n b k le =
      let ρ' = tgt.members_from (pass.functions E M fs (suc b) (past_fun f k)) all ρ in
      holds-trans n n ρ ρ' (bind b (closure (tgt.one_of (function E M f k) all) ρ) ρ') (le-refl n) (members-hold fs n (suc b) (past_fun f k) (le-suc _ _ le)) (holds-bind n b _ ρ' le)

members-from-same : (E : List Quantified) (fs all : Funs) (n p b c k j : ℕ) {N : Names} {all' : te.Funs poly} {env : src.Scope} {ρ ρ' : tgt.Scope poly} → n ≤ c → past_group all c ≤ j → past_group all c ≤ k → all' ≡ pass.functions E (funs_named all c N) all c j
    → SameEnv n N env ρ → SameEnv p N env ρ' → past_group fs b ≤ p → FoundIn E (funs_named all c N) all' ρ fs b k ρ' → SameEnv p (funs_named fs b N) (src.members_from fs all env) ρ'
members-from-same E no_funs all n p b c k j le lj lk e s s' lp h = s'
members-from-same E (a_fun xs t f fs) all n p b c k j {N = N} le lj lk e s s' lp h =
    each-same xs p b (omega (arith, lp, group-up fs (suc b))) h.0 (same_closure n N (same_one_of E E f k all c j le lj lk refl e) s)
    (members-from-same E fs all n p (suc b) c (past_fun f k) j le lj (le-trans _ _ _ lk (le-less _ _ (fun-up f k))) e s s' lp h.1)

pub members-same : (E : List Quantified) (fs : Funs) (n b k : ℕ) {N : Names} {env : src.Scope} {ρ : tgt.Scope poly} → n ≤ b → past_group fs b ≤ k → SameEnv n N env ρ
    → SameEnv (past_group fs b) (funs_named fs b N) (src.members fs env) (tgt.members (pass.functions E (funs_named fs b N) fs b k) ρ)
members-same E fs n b k {N} {env} {ρ} le lk s =
    let M = funs_named fs b N in let all = pass.functions E M fs b k in
    members-from-same E fs fs n (past_group fs b) b b k k le lk lk refl s (same-up n (past_group fs b) (le-trans _ _ _ le (group-up fs b)) (members-hold E M all ρ fs n b k le) s) (le-refl _) (found-all E M all ρ fs b k)

pub members-held : (E : List Quantified) (fs : Funs) (n b k : ℕ) (M : Names) (ρ : tgt.Scope poly) → n ≤ b → Holds n ρ (tgt.members (pass.functions E M fs b k) ρ)
members-held E fs n b k M ρ le = members-hold E M (pass.functions E M fs b k) ρ fs n b k le

-- Runs

abbrev pub Worlds : World src.V → World (tgt.V poly) → Type 0
Worlds = SameWorlds Same

abbrev pub Ends : Answer src.V src.V → Answer (tgt.V poly) (tgt.V poly) → Type 0
Ends = Agree Same Same
