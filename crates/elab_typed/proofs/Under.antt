-- Contexts with types for the parameters in scope: what is kept together is together in the rules.
use Rattle.std.proofs.Common.{◌≡◌, ℕ, ◌+◌, Bool, true, false, not, ◌&&◌, List, [], ◌∷◌, ◌++◌, map, Option, Some, None, nat_eq, if◌then◌else◌, refl, sym, ap, ◌∙◌, append-nil, arith}
use Rattle.std.specs.Prelude.{filter, unwrap_or, is_some, option_map, option_and_then}
use Rattle.std.proofs.lemmas.Bool.{lt-ltb, ltb-true}
use Rattle.core_elab.specs.of_sml_tree.Terminal.{LongVid}
use Rattle.core_elab.specs.of_sml_tree.declared.ident.Vid.{Vid}
use Rattle.core_elab.specs.of_sml_tree.BareTree.{LongIdAt, Exp, ExpFields}
use Rattle.core_elab.specs.of_sml_tree.BareTree as bare
use Rattle.ty_core.specs.Types.{Typ, Symbol, var, con, Typs, none, more}
use Rattle.ty_core.specs.Statics.{replace, replace_all}
use Rattle.ty_core.specs.declared.env.Status.TheVariants.{Variable}
use Rattle.core_elab.specs.of_ty_basis.Types.{Row, labels_in}
use Rattle.label_rows.proofs.Mapped.{sorted-map}
use Rattle.core_elab.specs.of_core_rules.Words.{same_vid}
use Rattle.core_elab.specs.of_core_rules.Objects as static
use Rattle.core_elab.specs.of_core_rules.Objects.{sorted, Map, at, joined, Value, Values, TypeStructure, Env, env, Structures, no_structures, structure, structures_of, structure_map, values_env, plus, value_in, long_value_in, Context, with_env, monomorphic, Over, AllOver, SymbolOver}
use Rattle.core_elab.specs.of_core_rules.Elaborated.{replicated, opened}
use Rattle.core_elab.specs.of_core_rules.Typing.{Bound, bound_in, is_matched, is_matched_in, gives_reference, is_conexp_in, is_conexp, is_non_expansive, all_non_expansive}
use Rattle.core_elab.specs.of_core_rules.Typing as rules
use Rattle.core_elab.specs.of_ir_poly.TestsChecked.{Knowns}
use Rattle.core_elab.proofs.of_ir_poly.ReplaceLemmas.{row_read}
use Rattle.core_elab.specs.Scopes.{Scope}
use Rattle.elab_typed.specs.Contexts.{Kept, given, general, single, raised, value_under, KeptValues, KeptEnv, values_under, env_under, kept_values, given_values, kept_env, plus_kept, kept_in, Around, context_under, singles, with_bound, after}

-- what is bound, under s
abbrev pub bound_under : (ℕ → Typ) → Bound → Bound
bound_under s vs = map (λ b. (b.0, replace s b.1)) vs

module _ (s : ℕ → Typ) where
  pub at-under : (vs : KeptValues) (x : Vid) → at same_vid (values_under s vs) x ≡ option_map (value_under s) (at same_vid vs x)
  at-under [] x = refl
  at-under (e ∷ vs) x = go (same_vid x e.0) (at-under vs x)
    where
      go : (b : Bool) → at same_vid (values_under s vs) x ≡ option_map (value_under s) (at same_vid vs x)
          → (if b then Some (value_under s e.1) else at same_vid (values_under s vs) x) ≡ option_map (value_under s) (if b then Some e.1 else at same_vid vs x)
      go true h = refl
      go false h = h

  new-value : (o : Option Kept) (k : Kept) → unwrap_or (option_map (value_under s) o) (value_under s k) ≡ value_under s (unwrap_or o k)
  new-value None k = refl
  new-value (Some l) k = refl

  is-some-under : (o : Option Kept) → is_some (option_map (value_under s) o) ≡ is_some o
  is-some-under None = refl
  is-some-under (Some k) = refl

  kept-under : (f d : KeptValues) → map (λ e. (e.0, unwrap_or (at same_vid (values_under s d) e.0) e.1)) (values_under s f)
      ≡ values_under s (map (λ e. (e.0, unwrap_or (at same_vid d e.0) e.1)) f)
  kept-under [] d = refl
  kept-under (e ∷ f) d = λ i. (e.0, (ap (λ o. unwrap_or o (value_under s e.1)) (at-under d e.0) ∙ new-value (at same_vid d e.0) e.1) i) ∷ kept-under f d i

  further-under : (f d : KeptValues) → filter (λ e. not (is_some (at same_vid (values_under s f) e.0))) (values_under s d)
      ≡ values_under s (filter (λ e. not (is_some (at same_vid f e.0))) d)
  further-under f [] = refl
  further-under f (e ∷ d) =
      (λ i. if not ((ap is_some (at-under f e.0) ∙ is-some-under (at same_vid f e.0)) i) then (e.0, value_under s e.1) ∷ further-under f d i else further-under f d i)
      ∙ go (not (is_some (at same_vid f e.0))) (filter (λ e. not (is_some (at same_vid f e.0))) d)
    where
      go : (b : Bool) (r : KeptValues) → (if b then (e.0, value_under s e.1) ∷ values_under s r else values_under s r) ≡ values_under s (if b then e ∷ r else r)
      go true r = refl
      go false r = refl

  append-under : (a b : KeptValues) → values_under s a ++ values_under s b ≡ values_under s (a ++ b)
  append-under [] b = refl
  append-under (e ∷ a) b = ap (λ r. (e.0, value_under s e.1) ∷ r) (append-under a b)

  pub joined-under : (f d : KeptValues) → joined same_vid (values_under s f) (values_under s d) ≡ values_under s (joined same_vid f d)
  joined-under f d = (λ i. kept-under f d i ++ further-under f d i) ∙ append-under _ _

  pub plus-under : (e d : KeptEnv) → plus (env_under s e) (env_under s d) ≡ env_under s (plus_kept e d)
  plus-under e d = ap (λ vs. env vs (joined nat_eq e.types d.types) (structures_of (joined nat_eq (structure_map e.structures) (structure_map d.structures))))
      (joined-under e.values d.values)

  singles-under : (vs : Bound) → map (λ b. (b.0, record { scheme = monomorphic b.1; status = Variable })) (bound_under s vs) ≡ values_under s (singles vs)
  singles-under [] = refl
  singles-under (b ∷ vs) = ap (λ r. (b.0, record { scheme = monomorphic (replace s b.1); status = Variable }) ∷ r) (singles-under vs)

  pub with-bound-under : (A : Around) (vs : Bound) (r : Scope) (G : Knowns) → rules.with_bound (context_under s A) (bound_under s vs)
      ≡ context_under s (with_bound A vs r G)
  with-bound-under A vs r G = λ i. record {
    names = A.names;
    tyvars = (context_under s A).tyvars;
    env = (ap (λ us. plus (env_under s A.env) (values_env us)) (singles-under vs) ∙ plus-under A.env (kept_values (singles vs))) i;
  }

  pub after-under : (A : Around) (made : ℕ) (number : ℕ → ℕ) (d : KeptEnv) (r : Scope) (G : Knowns) → with_env (context_under s A) made (env_under s d)
      ≡ context_under s (after A made number d r G)
  after-under A made number d r G = λ i. record { names = A.names + made; tyvars = (context_under s A).tyvars; env = plus-under A.env d i }

  -- nothing bound
  same-entries : {K X : Type 0} (f : Map K X) → map (λ (e : K × X). (e.0, e.1)) f ≡ f
  same-entries [] = refl
  same-entries (e ∷ f) = ap (λ r. e ∷ r) (same-entries f)

  joined-nothing : {K X : Type 0} (same : K → K → Bool) (f : Map K X) → joined same f [] ≡ f
  joined-nothing same f = append-nil _ ∙ same-entries f

  structures-again : (ss : Structures) → structures_of (structure_map ss) ≡ ss
  structures-again no_structures = refl
  structures-again (structure x e ss) = ap (structure x e) (structures-again ss)

  pub with-nothing : (A : Around) → rules.with_bound (context_under s A) [] ≡ context_under s A
  with-nothing A = λ i. record {
    names = A.names;
    tyvars = (context_under s A).tyvars;
    env = env (joined-nothing same_vid (values_under s A.env.values) i) (joined-nothing nat_eq A.env.types i)
        ((ap structures_of (joined-nothing nat_eq (structure_map A.env.structures)) ∙ structures-again A.env.structures) i);
  }

  -- Look-ups

  given-again : (o : Option Value) → option_map (value_under s) (option_map given o) ≡ o
  given-again None = refl
  given-again (Some v) = refl

  long-by : (e : KeptEnv) (qs : List ℕ) (x : Vid) → long_value_in (env_under s e) (record { qualifiers = qs; vid = x })
      ≡ option_map (value_under s) (kept_in e (record { qualifiers = qs; vid = x }))
  long-by e [] x = at-under e.values x
  long-by e (q ∷ qs) x = sym (given-again (long_value_in (env [] e.types e.structures) (record { qualifiers = q ∷ qs; vid = x })))

  pub long-under : (e : KeptEnv) (x : LongVid) → long_value_in (env_under s e) x ≡ option_map (value_under s) (kept_in e x)
  long-under e x = long-by e x.qualifiers x.vid

  matched-same : (o : Option Kept) → is_matched_in (option_map (value_under s) o) ≡ is_matched_in (option_map (value_under var) o)
  matched-same None = refl
  matched-same (Some (given v)) = refl
  matched-same (Some (general qs t)) = refl
  matched-same (Some (single t)) = refl
  matched-same (Some (raised a)) = refl

  conexp-same : (o : Option Kept) → is_conexp_in (option_map (value_under s) o) ≡ is_conexp_in (option_map (value_under var) o)
  conexp-same None = refl
  conexp-same (Some (given v)) = refl
  conexp-same (Some (general qs t)) = refl
  conexp-same (Some (single t)) = refl
  conexp-same (Some (raised None)) = refl
  conexp-same (Some (raised (Some a))) = refl

pub matched-under : (s : ℕ → Typ) (e : KeptEnv) (x : Vid) → is_matched_in (value_in (env_under s e) x) ≡ is_matched_in (value_in (env_under var e) x)
matched-under s e x = ap is_matched_in (at-under s e.values x) ∙ matched-same s (at same_vid e.values x) ∙ sym (ap is_matched_in (at-under var e.values x))

-- Non-expansive expressions

conexp-long : (s : ℕ → Typ) (e : KeptEnv) (x : LongVid) → is_conexp_in (long_value_in (env_under s e) x) ≡ is_conexp_in (long_value_in (env_under var e) x)
conexp-long s e x = ap is_conexp_in (long-under s e x) ∙ conexp-same s (kept_in e x) ∙ sym (ap is_conexp_in (long-under var e x))

conexp-under : (s : ℕ → Typ) (e : KeptEnv) (f : Exp) → is_conexp (env_under s e) f ≡ is_conexp (env_under var e) f
conexp-under s e (bare.constant_exp p c) = refl
conexp-under s e (bare.vid_exp p x) = conexp-long s e x
conexp-under s e (bare.built_exp p b) = refl
conexp-under s e (bare.fields_exp p fs) = refl
conexp-under s e (bare.let_in p ds b) = refl
conexp-under s e (bare.app p f a) = refl
conexp-under s e (bare.typed p f t) = conexp-under s e f
conexp-under s e (bare.handle p b rs) = refl
conexp-under s e (bare.raise p b) = refl
conexp-under s e (bare.fn p rs) = refl

mutual
  pub non-expansive-under : (s : ℕ → Typ) (e : KeptEnv) (x : Exp) → is_non_expansive (env_under s e) x ≡ is_non_expansive (env_under var e) x
  non-expansive-under s e (bare.constant_exp p c) = refl
  non-expansive-under s e (bare.vid_exp p x) = refl
  non-expansive-under s e (bare.built_exp p b) = refl
  non-expansive-under s e (bare.fields_exp p fs) = all-non-expansive-under s e fs
  non-expansive-under s e (bare.let_in p ds b) = refl
  non-expansive-under s e (bare.app p f a) = λ i. conexp-under s e f i && non-expansive-under s e a i
  non-expansive-under s e (bare.typed p f t) = non-expansive-under s e f
  non-expansive-under s e (bare.handle p b rs) = refl
  non-expansive-under s e (bare.raise p b) = refl
  non-expansive-under s e (bare.fn p rs) = refl

  all-non-expansive-under : (s : ℕ → Typ) (e : KeptEnv) (fs : ExpFields) → all_non_expansive (env_under s e) fs ≡ all_non_expansive (env_under var e) fs
  all-non-expansive-under s e bare.no_exp_fields = refl
  all-non-expansive-under s e (bare.exp_field l b fs) = λ i. non-expansive-under s e b i && all-non-expansive-under s e fs i

-- Types and structures are closed

replicated-by : (s : ℕ → Typ) (e : KeptEnv) (y : LongIdAt) (qs : List ℕ) → static.along (env_under s e) qs ≡ static.along (env_under s e) qs
    → option_and_then (λ d. at nat_eq (static.types d) y.long.id) (static.along (env_under s e) qs)
    ≡ option_and_then (λ d. at nat_eq (static.types d) y.long.id) (static.along (env_under var e) qs)
replicated-by s e y [] h = refl
replicated-by s e y (q ∷ qs) h = refl

pub replicated-under : (s : ℕ → Typ) (e : KeptEnv) (y : LongIdAt) → replicated (env_under s e) y ≡ replicated (env_under var e) y
replicated-under s e y = replicated-by s e y y.long.qualifiers refl

opened-by : (s : ℕ → Typ) (e : KeptEnv) (y : ℕ) (qs : List ℕ) → option_and_then (λ d. at nat_eq (static.structures d) y) (static.along (env_under s e) qs)
    ≡ option_and_then (λ d. at nat_eq (static.structures d) y) (static.along (env_under var e) qs)
opened-by s e y [] = refl
opened-by s e y (q ∷ qs) = refl

pub opened-under : (s : ℕ → Typ) (e : KeptEnv) (xs : List LongIdAt) → opened (env_under s e) xs ≡ opened (env_under var e) xs
opened-under s e [] = refl
opened-under s e (x ∷ xs) = λ i. option_and_then (λ d. option_map (plus d) (opened-under s e xs i)) (opened-by s e x.long.id x.long.qualifiers i)

pub given-under : (s : ℕ → Typ) (vs : Values) → values_under s (given_values vs) ≡ vs
given-under s [] = refl
given-under s (v ∷ vs) = ap (λ r. v ∷ r) (given-under s vs)

pub kept-env-under : (s : ℕ → Typ) (d : Env) → env_under s (kept_env d) ≡ d
kept-env-under s (env vs ts ss) = ap (λ us. env us ts ss) (given-under s vs)

-- Rows

pub sorted-under : (s : ℕ → Typ) (r : Row) → row_read s (sorted r) ≡ sorted (row_read s r)
sorted-under s = sorted-map (λ f. f.0) (λ f. f.0) (λ f. (f.0, replace s f.1)) (λ f. refl)

pub append-row : (s : ℕ → Typ) (r q : Row) → row_read s (r ++ q) ≡ row_read s r ++ row_read s q
append-row s [] q = refl
append-row s (f ∷ r) q = ap (λ x. (f.0, replace s f.1) ∷ x) (append-row s r q)

pub labels-under : (s : ℕ → Typ) (r : Row) → labels_in (row_read s r) ≡ labels_in r
labels-under s [] = refl
labels-under s (f ∷ r) = ap (λ ls. f.0 ∷ ls) (labels-under s r)

pub bound-in-under : (s : ℕ → Typ) (vs : Bound) → bound_in (bound_under s vs) ≡ bound_in vs
bound-in-under s [] = refl
bound-in-under s (v ∷ vs) = ap (λ xs. v.0 ∷ xs) (bound-in-under s vs)

pub bound-append : (s : ℕ → Typ) (vs us : Bound) → bound_under s (vs ++ us) ≡ bound_under s vs ++ bound_under s us
bound-append s [] us = refl
bound-append s (v ∷ vs) us = ap (λ r. (v.0, replace s v.1) ∷ r) (bound-append s vs us)

-- Type names

mutual
  pub over-under : (n : ℕ) (s : ℕ → Typ) → ((v : ℕ) → Over n (s v)) → (t : Typ) → Over n t → Over n (replace s t)
  over-under n s h (var v) o = h v
  over-under n s h (con a ts) o = (o.0, all-over-under n s h ts o.1)

  all-over-under : (n : ℕ) (s : ℕ → Typ) → ((v : ℕ) → Over n (s v)) → (ts : Typs) → AllOver n ts → AllOver n (replace_all s ts)
  all-over-under n s h none o = tt
  all-over-under n s h (more t ts) o = (over-under n s h t o.0, all-over-under n s h ts o.1)

symbol-over-more : (n k : ℕ) (a : Symbol) → SymbolOver n a → SymbolOver (n + k) a
symbol-over-more n k Symbol.arrow o = tt
symbol-over-more n k (Symbol.labels ls) o = tt
symbol-over-more n k (Symbol.name y) o = lt-ltb y.stamp (n + k) (omega (arith, ltb-true y.stamp n o))

mutual
  pub over-more : (n k : ℕ) (t : Typ) → Over n t → Over (n + k) t
  over-more n k (var v) o = tt
  over-more n k (con a ts) o = (symbol-over-more n k a o.0, all-over-more n k ts o.1)

  all-over-more : (n k : ℕ) (ts : Typs) → AllOver n ts → AllOver (n + k) ts
  all-over-more n k none o = tt
  all-over-more n k (more t ts) o = (over-more n k t o.0, all-over-more n k ts o.1)
