-- A well formed program with no function by itself never goes wrong, though nothing but closures may be called.
use Rattle.std.proofs.Common.{ℕ, zero, suc, List, false, refl}
use Rattle.ir_mono.specs.Types as table
use Rattle.ir_mono.specs.Types.{IsTable}
use Rattle.ir_mono.specs.Explicit.{FunExplicit}
use Rattle.ir_mono.specs.Typing.{group_sorts}
use Rattle.ir_mono.specs.Values.{literal_is, record_is, con_is, con_function_is, con_of_is, exn_is, exn_function_is, exn_of_is, ref_is, address_is, primitive_is, closure_is, group_is}
use Rattle.ir_mono.proofs.Values.{literal-name, data-name, members-typed}
use Rattle.ir_mono.proofs.Performed.{fine_stops}
use Rattle.ir_mono.proofs.Sound.{CallsFine, Bodies, BodiesFine, turn-fine, asked-out, run_fun-fine, runs-never-wrong}
use Rattle.ir_explicit.specs.Explicit.{enter_closure, apply_closures}
use Rattle.ir_explicit.specs.Laws.{ExplicitNeverWrong, ExplicitSame}
use Rattle.ir_explicit.proofs.Below.{meanings-same}

module _ (types : List table.Row) (sound : IsTable types) where
  enter-fine : (go : Bodies types sound false) → BodiesFine types sound false go → CallsFine types sound false (enter_closure go)
  enter-fine go h S place f v w n a b beg i (literal_is d) q k = let e = (literal-name types d).is in absurd (cc)
  enter-fine go h S place f v w n a b beg i (record_is d o z) q k = absurd (cc)
  enter-fine go h S place f v w n a b beg i (con_is {c = c} d) q k = let e = data-name types S sound n c d in let j = e.2 in absurd (cc)
  enter-fine go h S place f v w n a b beg i (con_of_is {c = c} d z) q k = let e = data-name types S sound n c d in let j = e.2 in absurd (cc)
  enter-fine go h S place f v w n a b beg i (exn_is d z) q k = absurd (cc)
  enter-fine go h S place f v w n a b beg i (exn_of_is d y z) q k = absurd (cc)
  enter-fine go h S place f v w n a b beg i (address_is d z) q k = absurd (cc)
  enter-fine go h S place f v w n a b beg i (con_function_is z d j) q k = let y = beg.is_bare in absurd (cc)
  enter-fine go h S place f v w n a b beg i (exn_function_is z d j x) q k = let y = beg.is_bare in absurd (cc)
  enter-fine go h S place f v w n a b beg i (ref_is z j x) q k = let y = beg.is_bare in absurd (cc)
  enter-fine go h S place f v w n a b beg i (primitive_is z d t j) q k = let y = beg.is_bare in absurd (cc)
  enter-fine go h S place f v w n a b beg i (closure_is {f = g} {G = G} env d x z) q k = turn-fine types sound false w.left place w _ k (λ w' l. h S _ _ v _ w' n a b beg i x (asked-out types sound false (FunExplicit types G g) beg z) q env l)
  enter-fine go h S place f v w n a b beg i (group_is {f = g} {fs = gs} {G = G} env fs d x y z) q k = turn-fine types sound false w.left place w _ k (λ w' l. h S _ _ v _ w' n a b beg i x (asked-out types sound false (FunExplicit types (group_sorts types gs G) g) beg z) q (members-typed types S env fs fs refl y y) l)

  apply-fine : (k : ℕ) → CallsFine types sound false (apply_closures k)
  apply-fine zero = enter-fine _ (λ S G f v env w n a b beg i x z q g k. fine_stops)
  apply-fine (suc k) = enter-fine _ (run_fun-fine types sound false (apply_closures k) (apply-fine k))

pub explicit-never-wrong : ExplicitNeverWrong
explicit-never-wrong p h x m = runs-never-wrong p.types h.table false (apply_closures m) (apply-fine p.types h.table m) p.initial p.body m h.initial h.typed x

pub explicit-same : ExplicitSame
explicit-same p h x m = meanings-same p.initial p.body m (explicit-never-wrong p h x m)
