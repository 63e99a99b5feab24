-- Applications to arguments in order.
use Rattle.std.proofs.Common.{◌≡◌, ◌<◌, ◌≤◌, ◌+◌, ℕ, List, [], length, take, slice_index_or, sym, ap, subst, ◌∙◌, arith}
use Rattle.mlc_base.specs.declared.place.Place.{Place}
use Rattle.ir_poly.specs.Prog as t
use Rattle.match_compile.specs.Compile.{way, by_call}
use Rattle.plain_tree.specs.declared.tree.Step.{Step}
use Rattle.prog_tree.specs.TreeOf.{Reading}
use Rattle.prog_tree.specs.declared.tree.Exp.{Exp}
use Rattle.general_bindings.specs.of_match_types.declared.work.Work.{Work}
use Rattle.general_bindings.proofs.of_pattern_tests.Chains.{next-take}
use Rattle.general_bindings.specs.of_exp_steps.Making.{Makes}
use Rattle.general_bindings.specs.of_exp_steps.Made.{applied}
use Rattle.general_bindings.proofs.of_exp_steps.Counting.{makes-as}
use Rattle.match_pass.specs.Reading.{expression, applied_to}
use Rattle.match_pass.proofs.Lists.{arguments-taken, some-called, take-past}

-- so far
pub record AppliedTo (old now : Work) (before after : List Step) (place : Place) (f : Exp) (as_ : List (ℕ × Exp)) (i value : ℕ) : Type 0 where
  pub some : 0 < i
  pub made : Makes old now before after (applied_to place (expression f) (take i as_)) value

pub apply-none : {w v : Work} {s m : List Step} {x : ℕ} (place : Place) (f : Exp) (as_ : List (ℕ × Exp)) → as_ ≡ [] → Makes w v s m (expression f) x → Makes w v s m (applied_to place (expression f) as_) x
apply-none {w = w} {v = v} {s = s} {m = m} {x = x} place f as_ none p = subst (λ l. Makes w v s m (applied_to place (expression f) l) x) (sym none) p

pub apply-first : {w v : Work} {s m : List Step} {x : ℕ} (place : Place) (f : Exp) (as_ : List (ℕ × Exp)) (i : ℕ) (a : ℕ × Exp) → i ≡ 1 → 0 < length as_ → a ≡ slice_index_or as_ 0 a → Makes w v s m (applied place a.0 (expression f) (expression a.1)) x
    → AppliedTo w v s m place f as_ i x
apply-first {w = w} {v = v} {s = s} {m = m} {x = x} place f as_ i a one lt is p = record {
  some = omega arith;
  made = subst (λ l. Makes w v s m (applied_to place (expression f) l) x) (sym (ap (λ n. take n as_) one ∙ next-take as_ 0 a lt is)) p;
}

pub apply-step : {w v u new : Work} {s m l k : List Step} {x y z : ℕ} (place : Place) (f : Exp) (as_ : List (ℕ × Exp)) (i : ℕ) (a : ℕ × Exp) → i < length as_ → a ≡ slice_index_or as_ i a → AppliedTo w v s m place f as_ i x
    → Makes v u m l (expression a.1) y
    → ((w v : Work) (ss us : List Step) (f d : Reading → t.Exp) → ((R : Reading) → way (f R) (d R) ≡ by_call) → Makes w v ss us f x → Makes v u us l d y → Makes w new ss k (applied place a.0 f d) z)
    → AppliedTo w new s k place f as_ (i + 1) z
apply-step {w = w} {v = v} {s = s} {m = m} place f as_ i a lt is h p call = record {
  some = omega arith;
  made = makes-as (applied place a.0 (applied_to place (expression f) (take i as_)) (expression a.1)) (applied_to place (expression f) (take (i + 1) as_)) (arguments-taken place (expression f) as_ i a lt is)
      (call w v s m (applied_to place (expression f) (take i as_)) (expression a.1) (λ R. some-called place (expression f) as_ i (expression a.1 R) h.some (omega arith) R) h.made p);
}

pub apply-end : {w v : Work} {s m : List Step} {x : ℕ} (place : Place) (f : Exp) (as_ : List (ℕ × Exp)) (i : ℕ) → length as_ ≤ i → AppliedTo w v s m place f as_ i x → Makes w v s m (applied_to place (expression f) as_) x
apply-end {w = w} {v = v} {s = s} {m = m} {x = x} place f as_ i le h = subst (λ l. Makes w v s m (applied_to place (expression f) l) x) (take-past as_ i le) h.made
