-- What is broken by recursion along the tree is what is broken by levels.
use Rattle.std.proofs.Common.{◌≡◌, ◌≤◌, ◌+◌, ℕ, zero, suc, List, [], ◌∷◌, ◌++◌, length, Option, Some, None, refl, sym, ap, ap₂, ◌∙◌, arith}
use Rattle.std.specs.Prelude.{flat_map}
use Rattle.std.proofs.lemmas.Grind.{flat_map-append}
use Rattle.std.proofs.lemmas.List.{append-nil, length-append}
use Rattle.std.proofs.lemmas.List.Folds.{flat_map-map}
use Rattle.mlc_base.specs.declared.place.Place.{Place}
use Rattle.sml_tree.specs.BareTree as bare
use Rattle.sml_tree.specs.BareTree.{Ty, Tys, TyFields, Pat, PatFields, ExBind, Exp, ExpFields, Rules, Decs, Dec, Binds}
use Rattle.sml_tree.specs.Phrases.{Phrase, exp, pat, ty, dec, rule, bind, type_bind, data_bind, con_bind, ex_bind, some_ty, ty_list, ty_field_list, pat_field_list, exp_field_list, rule_list, dec_list, bind_list, parts, phrases, never}
use Rattle.sml_tree.proofs.Walks.{walk_is_by_parts}
use Rattle.core_rules.specs.Restrictions.{broken_by, broken_by_dec, broken_in, broken_to, inside, scoped_inside, unless_fn}
use Rattle.restrictions.specs.Breaks.{dec_breaks, decs_breaks, exp_breaks, exp_fields_breaks, binds_breaks, pat_breaks, pat_fields_breaks, phrase_breaks, recs_breaks, rules_breaks, some_breaks, ty_breaks, ty_fields_breaks, tys_breaks}

-- By parts.

abbrev all : List ℕ → List Phrase → List Place
all s xs = flat_map (phrase_breaks s) xs

some : (s : List ℕ) (t : Option Ty) → some_breaks t ≡ all s (some_ty t)
some s None = refl
some s (Some t) = sym (append-nil (ty_breaks t))

tys : (s : List ℕ) (ts : Tys) → tys_breaks ts ≡ all s (ty_list ts)
tys s bare.no_tys = refl
tys s (bare.ty t ts) = ap (λ l. ty_breaks t ++ l) (tys s ts)

ty-fields : (s : List ℕ) (fs : TyFields) → ty_fields_breaks fs ≡ all s (ty_field_list fs)
ty-fields s bare.no_ty_fields = refl
ty-fields s (bare.ty_field l t fs) = ap (λ l. ty_breaks t ++ l) (ty-fields s fs)

pat-fields : (s : List ℕ) (fs : PatFields) → pat_fields_breaks fs ≡ all s (pat_field_list fs)
pat-fields s bare.no_pat_fields = refl
pat-fields s (bare.pat_field l a fs) = ap (λ l. pat_breaks a ++ l) (pat-fields s fs)

exp-fields : (s : List ℕ) (fs : ExpFields) → exp_fields_breaks s fs ≡ all s (exp_field_list fs)
exp-fields s bare.no_exp_fields = refl
exp-fields s (bare.exp_field l e fs) = ap (λ l. exp_breaks s e ++ l) (exp-fields s fs)

rules : (s : List ℕ) (rs : Rules) → rules_breaks s rs ≡ all s (rule_list rs)
rules s bare.no_rules = refl
rules s (bare.rule p a e rs) = ap (λ l. (pat_breaks a ++ exp_breaks s e) ++ l) (rules s rs)

decs : (s : List ℕ) (ds : Decs) → decs_breaks s ds ≡ all s (dec_list ds)
decs s bare.no_decs = refl
decs s (bare.dec d ds) = ap (λ l. dec_breaks s d ++ l) (decs s ds)

binds : (s : List ℕ) (bs : Binds) → binds_breaks s bs ≡ all s (bind_list bs)
binds s bare.no_binds = refl
binds s (bare.bind p a e bs) = ap (λ l. (pat_breaks a ++ exp_breaks s e) ++ l) (binds s bs)

recs : (s : List ℕ) (bs : Binds) → recs_breaks s bs ≡ flat_map (λ x. phrase_breaks s x ++ unless_fn x) (bind_list bs)
recs s bare.no_binds = refl
recs s (bare.bind p a e bs) = ap (λ l. ((pat_breaks a ++ exp_breaks s e) ++ unless_fn (bind p a e)) ++ l) (recs s bs)

one : (xs : List Place) → xs ≡ (xs ++ []) ++ []
one xs = sym (append-nil xs) ∙ sym (append-nil (xs ++ []))

two : (xs ys : List Place) → xs ++ ys ≡ (xs ++ (ys ++ [])) ++ []
two xs ys = ap (λ l. xs ++ l) (sym (append-nil ys)) ∙ sym (append-nil (xs ++ (ys ++ [])))

bare-one : (xs ys : List Place) → xs ≡ ys → xs ≡ ys ++ []
bare-one xs ys e = e ∙ sym (append-nil ys)

-- what is in two runs of phrases
joined : (s : List ℕ) (as_ bs : List Phrase) (xs ys : List Place) → xs ≡ all s as_ → ys ≡ all s bs → xs ++ ys ≡ all s (as_ ++ bs)
joined s as_ bs xs ys e f = ap₂ (λ a b. a ++ b) e f ∙ sym (flat_map-append (phrase_breaks s) as_ bs)

by-parts : (s : List ℕ) (x : Phrase) → phrase_breaks s x ≡ inside (phrase_breaks (scoped_inside s x)) x ++ broken_by s x
by-parts s (ty (bare.var p a)) = refl
by-parts s (ty (bare.fields p fs)) = ap (λ l. l ++ broken_by s (ty (bare.fields p fs))) (ty-fields s fs)
by-parts s (ty (bare.con p ts q c)) = bare-one _ _ (tys s ts)
by-parts s (ty (bare.arrow p t u)) = two (ty_breaks t) (ty_breaks u)
by-parts s (ty (bare.ill p)) = refl
by-parts s (pat (bare.wild_pat p)) = refl
by-parts s (pat (bare.constant_pat p c)) = refl
by-parts s (pat (bare.vid_pat p x)) = refl
by-parts s (pat (bare.built_pat p b)) = refl
by-parts s (pat (bare.fields_pat p fs b)) = ap (λ l. l ++ broken_by s (pat (bare.fields_pat p fs b))) (pat-fields s fs)
by-parts s (pat (bare.con_pat p q x a)) = one (pat_breaks a)
by-parts s (pat (bare.built_con_pat p b a)) = one (pat_breaks a)
by-parts s (pat (bare.typed_pat p a t)) = two (pat_breaks a) (ty_breaks t)
by-parts s (pat (bare.as_pat p v t a)) = bare-one _ _ (joined s (some_ty t) (pat a ∷ []) _ _ (some s t) (sym (append-nil (pat_breaks a))))
by-parts s (exp (bare.constant_exp p c)) = refl
by-parts s (exp (bare.vid_exp p x)) = refl
by-parts s (exp (bare.built_exp p b)) = refl
by-parts s (exp (bare.fields_exp p fs)) = ap (λ l. l ++ broken_by s (exp (bare.fields_exp p fs))) (exp-fields s fs)
by-parts s (exp (bare.let_in p ds e)) = bare-one _ _ (joined s (dec_list ds) (exp e ∷ []) _ _ (decs s ds) (sym (append-nil (exp_breaks s e))))
by-parts s (exp (bare.app p f a)) = two (exp_breaks s f) (exp_breaks s a)
by-parts s (exp (bare.typed p e t)) = two (exp_breaks s e) (ty_breaks t)
by-parts s (exp (bare.handle p e rs)) = bare-one _ _ (ap (λ l. exp_breaks s e ++ l) (rules s rs))
by-parts s (exp (bare.raise p e)) = one (exp_breaks s e)
by-parts s (exp (bare.fn p rs)) = bare-one _ _ (rules s rs)
by-parts s (dec (bare.val_dec p q as_ bs rs)) =
    ap₂ (λ a b. (a ++ b) ++ broken_by_dec s (bare.val_dec p q as_ bs rs)) (binds _ bs) (recs _ rs)
by-parts s (dec (bare.type_dec p bs)) = ap (λ l. l ++ broken_by_dec s (bare.type_dec p bs)) (sym (flat_map-map (phrase_breaks s) type_bind bs))
by-parts s (dec (bare.datatype_dec p bs)) = ap (λ l. l ++ broken_by_dec s (bare.datatype_dec p bs)) (sym (flat_map-map (phrase_breaks s) data_bind bs))
by-parts s (dec (bare.replicate_dec p x c)) = refl
by-parts s (dec (bare.exception_dec p bs)) = ap (λ l. l ++ broken_by_dec s (bare.exception_dec p bs)) (sym (flat_map-map (phrase_breaks s) ex_bind bs))
by-parts s (dec (bare.local_dec p ds es)) = bare-one _ _ (joined s (dec_list ds) (dec_list es) _ _ (decs s ds) (decs s es))
by-parts s (dec (bare.open_dec p xs)) = refl
by-parts s (dec (bare.sequence_dec p ds)) = ap (λ l. l ++ broken_by_dec s (bare.sequence_dec p ds)) (decs s ds)
by-parts s (rule p a e) = two (pat_breaks a) (exp_breaks s e)
by-parts s (bind p a e) = two (pat_breaks a) (exp_breaks s e)
by-parts s (type_bind b) = ap (λ l. l ++ broken_by s (type_bind b)) (sym (append-nil (ty_breaks b.ty)))
by-parts s (data_bind b) = ap (λ l. l ++ broken_by s (data_bind b)) (sym (flat_map-map (phrase_breaks s) con_bind b.cons))
by-parts s (con_bind c) = ap (λ l. l ++ broken_by s (con_bind c)) (some s c.of_ty)
by-parts s (ex_bind (bare.new_exn p x t)) = ap (λ l. l ++ broken_by s (ex_bind (bare.new_exn p x t))) (some s t)
by-parts s (ex_bind (bare.same_exn p x q y)) = refl

-- Levels enough.

abbrev number : List Phrase → ℕ
number xs = length (flat_map phrases xs)

numbers : (x : Phrase) → length (phrases x) ≡ suc (number (parts x))
numbers x = ap length (walk_is_by_parts never x)

number-both : (xs ys : List Phrase) → number (xs ++ ys) ≡ number xs + number ys
number-both xs ys = ap length (flat_map-append phrases xs ys) ∙ length-append (flat_map phrases xs) (flat_map phrases ys)

number-more : (x : Phrase) (xs : List Phrase) → number (x ∷ xs) ≡ length (phrases x) + number xs
number-more x xs = length-append (phrases x) (flat_map phrases xs)

abbrev IsEnough : ℕ → Type 0
IsEnough k = (s : List ℕ) (x : Phrase) → length (phrases x) ≤ k → broken_to k s x ≡ phrase_breaks s x

in-list : (k : ℕ) → IsEnough k → (s : List ℕ) (xs : List Phrase) → number xs ≤ k → flat_map (broken_to k s) xs ≡ all s xs
in-list k h s [] le = refl
in-list k h s (x ∷ xs) le =
    let m = number-more x xs in
    ap₂ (λ a b. a ++ b) (h s x (omega (arith, m, le))) (in-list k h s xs (omega (arith, m, le)))

in-recs : (k : ℕ) → IsEnough k → (s : List ℕ) (xs : List Phrase) → number xs ≤ k
    → flat_map (λ x. broken_to k s x ++ unless_fn x) xs ≡ flat_map (λ x. phrase_breaks s x ++ unless_fn x) xs
in-recs k h s [] le = refl
in-recs k h s (x ∷ xs) le =
    let m = number-more x xs in
    ap₂ (λ a b. (a ++ unless_fn x) ++ b) (h s x (omega (arith, m, le))) (in-recs k h s xs (omega (arith, m, le)))

in-val : (k : ℕ) → IsEnough k → (s : List ℕ) (bs rs : List Phrase) → number (bs ++ rs) ≤ k
    → flat_map (broken_to k s) bs ++ flat_map (λ x. broken_to k s x ++ unless_fn x) rs ≡ all s bs ++ flat_map (λ x. phrase_breaks s x ++ unless_fn x) rs
in-val k h s bs rs le =
    let m = number-both bs rs in
    ap₂ (λ a b. a ++ b) (in-list k h s bs (omega (arith, m, le))) (in-recs k h s rs (omega (arith, m, le)))

in-parts : (k : ℕ) → IsEnough k → (s : List ℕ) (x : Phrase) → number (parts x) ≤ k → inside (broken_to k s) x ≡ inside (phrase_breaks s) x
in-parts k h s (dec (bare.val_dec p q as_ bs rs)) le = in-val k h s (bind_list bs) (bind_list rs) le
in-parts k h s (dec (bare.type_dec p bs)) le = in-list k h s (parts (dec (bare.type_dec p bs))) le
in-parts k h s (dec (bare.datatype_dec p bs)) le = in-list k h s (parts (dec (bare.datatype_dec p bs))) le
in-parts k h s (dec (bare.replicate_dec p x c)) le = refl
in-parts k h s (dec (bare.exception_dec p bs)) le = in-list k h s (parts (dec (bare.exception_dec p bs))) le
in-parts k h s (dec (bare.local_dec p ds es)) le = in-list k h s (parts (dec (bare.local_dec p ds es))) le
in-parts k h s (dec (bare.open_dec p xs)) le = refl
in-parts k h s (dec (bare.sequence_dec p ds)) le = in-list k h s (parts (dec (bare.sequence_dec p ds))) le
in-parts k h s (exp e) le = in-list k h s (parts (exp e)) le
in-parts k h s (pat a) le = in-list k h s (parts (pat a)) le
in-parts k h s (ty t) le = in-list k h s (parts (ty t)) le
in-parts k h s (rule p a e) le = in-list k h s (parts (rule p a e)) le
in-parts k h s (bind p a e) le = in-list k h s (parts (bind p a e)) le
in-parts k h s (type_bind b) le = in-list k h s (parts (type_bind b)) le
in-parts k h s (data_bind b) le = in-list k h s (parts (data_bind b)) le
in-parts k h s (con_bind c) le = in-list k h s (parts (con_bind c)) le
in-parts k h s (ex_bind b) le = in-list k h s (parts (ex_bind b)) le

enough : (k : ℕ) → IsEnough k
enough zero s x le = let m = numbers x in absurd (omega (arith, m, le))
enough (suc k) s x le =
    let m = numbers x in
    ap (λ l. l ++ broken_by s x) (in-parts k (enough k) (scoped_inside s x) x (omega (arith, m, le))) ∙ sym (by-parts s x)

pub broken-is : (s : List ℕ) (x : Phrase) → broken_to (length (phrases x)) s x ≡ phrase_breaks s x
broken-is s x = enough (length (phrases x)) s x (omega arith)

pub broken-in : (ds : Decs) → broken_in ds ≡ decs_breaks [] ds
broken-in ds = go (dec_list ds) ∙ sym (decs [] ds)
  where
    go : (xs : List Phrase) → flat_map (λ x. broken_to (length (phrases x)) [] x) xs ≡ all [] xs
    go [] = refl
    go (x ∷ xs) = ap₂ (λ a b. a ++ b) (broken-is [] x) (go xs)
