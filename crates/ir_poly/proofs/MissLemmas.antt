-- What a checker accepts where no miss goes on doesn't miss.
use Rattle.std.proofs.Common.{◌≡◌, false, List, Option, Some, refl, ap}
use mathlib.Core.Path.{fun_ext}
use Rattle.ir_plain.specs.of_mlc_runs.Run.{World, Answer, gives, raises, stops, then_do}
use Rattle.ty_basis.specs.of_ty_core.Types.{Typ}
use Rattle.ty_basis.specs.of_ty_core.declared.scheme.Quantified.{Quantified}
use Rattle.ir_plain.specs.of_ir_values.Values.{exn, bind}
use Rattle.ir_plain.specs.Tree.{Exp}
use Rattle.ir_plain.specs.Meaning.{V, Scope, Apply, Go, members, on_name, exception_of, eval, eval_op}
use Rattle.ir_poly.specs.Tests.{poly}
use Rattle.ir_poly.specs.Types.{Constructor}
use Rattle.ir_poly.specs.TestsChecked.{Knowns, Checked, c_ret, c_let, c_exception, c_exception_alone, c_name, c_rec, c_first, c_counted}

then-ext : {V A B : Type 0} (r : Answer V A) {f g : A → World V → Answer V B} → ((a : A) (w : World V) → f a w ≡ g a w) → then_do r f ≡ then_do r g
then-ext (gives a w) h = h a w
then-ext (raises p w) h = refl
then-ext (stops cut w) h = refl

name-ext : (o : Option (V poly)) (w : World (V poly)) {f g : V poly → Answer (V poly) (V poly)} → ((v : V poly) → f v ≡ g v) → on_name o w f ≡ on_name o w g
name-ext (Some (exn g n)) w h = h (exn g n)
name-ext _ w h = refl

module _ (table : List Constructor) (call : Apply poly) where
  pub never-misses : {D : List Quantified} {G : Knowns} {e : Exp poly} {t : Typ} → Checked table false D G e t → (env : Scope poly) (w : World (V poly)) (other other' : Go poly) → eval call e env w other ≡ eval call e env w other'
  never-misses (c_ret a) env w other other' = refl
  never-misses (c_let {x = x} {o = o} g n h k e) env w other other' = then-ext (eval_op call o env w) (λ v w. never-misses e (bind x v env) w other other')
  never-misses (c_exception h e) env w other other' = never-misses e _ _ other other'
  never-misses (c_exception_alone e) env w other other' = never-misses e _ _ other other'
  never-misses (c_name {x = x} {y = y} n e) env w other other' = name-ext (exception_of y env) w (λ v. never-misses e (bind x v env) w other other')
  never-misses (c_rec {fs = fs} n k e) env w other other' = never-misses e (members fs env) w other other'
  never-misses (c_first {e = e} k d) env w other other' = ap (eval call e env w) (fun_ext (λ w. never-misses d env w other other'))
  never-misses (c_counted e) env w other other' = never-misses e env w other other'
