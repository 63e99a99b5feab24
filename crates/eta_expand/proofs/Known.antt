-- The names in scope are known as the sorts of variables say.
use Rattle.std.proofs.Common.{◌≡◌, ℕ, ◌+◌, Bool, true, false, List, [], ◌∷◌, Option, Some, None, nat_eq, if◌then◌else◌, refl, ap, ◌∙◌}
use Rattle.std.specs.Map.{lookup}
use Rattle.std.proofs.lemmas.Bool.{eq-eqb, eqb-true}
use Rattle.ir_plain.specs.Tree.{Case, Exception, Funs, no_funs, fun}
use Rattle.ir_mono.specs.Types as table
use Rattle.ir_mono.specs.Mono.{mono}
use Rattle.ir_mono.specs.Typing.{Sort, of_type, exception, Sorts, sort_of, group_sorts, NameTyped, fixed_typed, held_typed, CaseTyped, literal_typed, con_typed, con_of_typed, exn_typed, exn_of_typed, record_typed}
use Rattle.eta_expand.specs.Expand.{Names, or_not, takes_argument, is_given, name_takes, case_names, group_names, fun_news, expand_funs}

pub number-same : (n : ℕ) → nat_eq n n ≡ true
number-same n = eq-eqb n n refl

pub apart : (x y : ℕ) → (x ≡ y → ⊥) → nat_eq x y ≡ false
apart x y h = by (nat_eq x y) refl
  where
    by : (b : Bool) → nat_eq x y ≡ b → b ≡ false
    by true e = absurd (h (eqb-true x y e))
    by false e = refl

-- what is bound last, and what was bound before
pub sort-here : (x : ℕ) (s : Sort) (G : Sorts) → sort_of ((x, s) ∷ G) x ≡ Some s
sort-here x s G = ap (λ b. if b then Some s else sort_of G x) (number-same x)

pub sort-under : (x y : ℕ) (s : Sort) (G : Sorts) → (y ≡ x → ⊥) → sort_of ((x, s) ∷ G) y ≡ sort_of G y
sort-under x y s G h = ap (λ b. if b then Some s else sort_of G y) (apart y x h)

abbrev pub takes_sort : Option Sort → Bool
takes_sort None = false
takes_sort (Some (of_type t)) = false
takes_sort (Some (exception a)) = is_given a

pub record Knows (N : Names) (G : Sorts) : Type 0 where
  pub are : (x : ℕ) → takes_argument N x ≡ takes_sort (sort_of G x)

knows-at : {N : Names} {G : Sorts} (y : ℕ) (b : Bool) (s : Sort) → b ≡ takes_sort (Some s) → Knows N G → (c : Bool) → or_not (if c then Some b else lookup (nat_eq y) N) ≡ takes_sort (if c then Some s else sort_of G y)
knows-at y b s e k true = e
knows-at y b s e k false = k.are y

pub knows-more : {N : Names} {G : Sorts} (x : ℕ) (b : Bool) (s : Sort) → b ≡ takes_sort (Some s) → Knows N G → Knows ((x, b) ∷ N) ((x, s) ∷ G)
knows-more x b s e k = record { are = λ y. knows-at y b s e k (nat_eq y x) }

pub knows-value : {N : Names} {G : Sorts} (x t : ℕ) → Knows N G → Knows ((x, false) ∷ N) ((x, of_type t) ∷ G)
knows-value x t k = knows-more x false (of_type t) refl k

pub knows-none : Knows [] []
knows-none = record { are = λ x. refl }

module _ (types : List table.Row) where
  pub knows-name : {N : Names} {G : Sorts} {e : Exception (mono types)} {a : Option ℕ} (x : ℕ) → Knows N G → NameTyped types G e a → Knows ((x, name_takes types N e) ∷ N) ((x, exception a) ∷ G)
  knows-name x k (fixed_typed h) = knows-more x false (exception None) refl k
  knows-name {N = N} x k (held_typed {x = y} {a = a} e) = knows-more x (takes_argument N y) (exception a) (k.are y ∙ ap takes_sort e) k

  pub knows-case : {N : Names} {G H : Sorts} {c : Case (mono types)} {t : ℕ} → Knows N G → CaseTyped types G c t H → Knows (case_names types c N) H
  knows-case k (literal_typed h) = k
  knows-case k (con_typed e) = k
  knows-case k (con_of_typed {x = x} {a = a} e) = knows-value x a k
  knows-case k (exn_typed e i) = k
  knows-case k (exn_of_typed {x = x} {a = a} e i) = knows-value x a k
  knows-case k (record_typed i e) = k

  pub knows-group : (fs : Funs (mono types)) {N : Names} {G : Sorts} → Knows N G → Knows (group_names types fs N) (group_sorts types fs G)
  knows-group no_funs k = k
  knows-group (fun x t f fs) k = knows-value x t (knows-group fs k)

  -- a group has the functions that it had
  pub sorts-same : (fs : Funs (mono types)) (N : Names) (n : ℕ) (G : Sorts) → group_sorts types (expand_funs types N n fs) G ≡ group_sorts types fs G
  sorts-same no_funs N n G = refl
  sorts-same (fun x t f fs) N n G = ap (λ z. (x, of_type t) ∷ z) (sorts-same fs N (n + fun_news types N f) G)
