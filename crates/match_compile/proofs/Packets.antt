-- What the source raises is a packet.
use Rattle.std.proofs.Common.{◌≡◌, ℕ, zero, suc, Bool, true, false, not, List, [], ◌∷◌, Option, Some, None, if◌then◌else◌, nat_lt, length, refl}
use Rattle.std.specs.Prelude.{⊤}
use Rattle.mlc_runs.specs.Run.{World, Answer, gives, raises, stops, then_do, or_handle, or_fail, turn_from}
use Rattle.mlc_base.specs.declared.place.Place.{Place}
use Rattle.mlc_prims.specs.LitOf.{Literal, string}
use Rattle.mlc_prims.specs.PrimOf.{Gives, made, raised}
use Rattle.mlc_prims.specs.declared.basis.BasisPrimitive.{BasisPrimitive}
use Rattle.ir_poly.specs.of_ir_values.Tags.{untagged}
use Rattle.ir_poly.specs.of_ir_values.Values.{con, exn, ref, primitive, closure, packet_name, address_in, empty, truth_number}
use Rattle.ir_poly.specs.of_ir_values.Match.{matches, no_match, mismatch, after_match, against_con}
use Rattle.ir_poly.specs.of_ir_values.Equality.{same_at}
use Rattle.ir_poly.specs.of_ir_values.Primitives.{Sort, compares, assigns, prints, computes, sort_of, row_at, giving, compare_values, assign_value, print_literals, perform_as, perform, arguments, literals, raise_value, make_reference, packet, match_name, bind_name}
use Rattle.ir_poly.specs.of_ir_values.Primitives as call
use Rattle.ir_poly.specs.Prog.{Exp, constant_exp, variable_exp, own_exp, con_exp, ref_exp, exn_exp, prim_exp, fields_exp, let_exp, app_exp, case_exp, chain_exp, handle_exp, raise_exp, fn_exp, counted_exp, Fields, no_fields, a_field, Chain, only, link, Rules, no_rules, a_rule, Fun, last, by_rules, more, Decs, no_decs, val_dec, exception_dec, counted_dec, Binds, no_binds, a_bind}
use Rattle.ir_poly.specs.ProgMeaning as src

-- a value with an exception's name
pub data IsPacket : src.V → Type 0 where
  is_packet : {v : src.V} (i : ℕ) → packet_name v ≡ Some i → IsPacket v

module _ {A : Type 0} where
  -- where it raises, a packet
  abbrev pub Packs : Answer src.V A → Type 0
  Packs (gives a w) = ⊤
  Packs (raises p w) = IsPacket p
  Packs (stops cut w) = ⊤

  pub fail-packs : {B : Type 0} (o : Option B) (w : World src.V) (go : B → Answer src.V A) → ((b : B) → Packs (go b)) → Packs (or_fail o w go)
  fail-packs None w go h = tt
  fail-packs (Some b) w go h = h b

  turn-packs : (n : ℕ) (place : Place) (w : World src.V) (go : World src.V → Answer src.V A) → ((w' : World src.V) → Packs (go w')) → Packs (turn_from n place w go)
  turn-packs zero place w go h = tt
  turn-packs (suc n) place w go h = h _

  after-packs : (m : src.Fits) (w : World src.V) (go : src.Scope → World src.V → Answer src.V A) (other : World src.V → Answer src.V A) → ((env : src.Scope) → Packs (go env w)) → Packs (other w) → Packs (after_match m w go other)
  after-packs (matches env) w go other h k = h env
  after-packs no_match w go other h k = k
  after-packs mismatch w go other h k = tt

  if-packs : (b : Bool) (x y : Answer src.V A) → Packs x → Packs y → Packs (if b then x else y)
  if-packs true x y h k = h
  if-packs false x y h k = k

  handle-packs : (r : Answer src.V A) (go : src.V → World src.V → Answer src.V A) → Packs r → ((p : src.V) (w : World src.V) → IsPacket p → Packs (go p w)) → Packs (or_handle r go)
  handle-packs (gives a w) go h k = tt
  handle-packs (raises p w) go h k = k p w h
  handle-packs (stops cut w) go h k = tt

then-packs : {A B : Type 0} (r : Answer src.V A) (go : A → World src.V → Answer src.V B) → Packs r → ((a : A) (w : World src.V) → Packs (go a w)) → Packs (then_do r go)
then-packs (gives a w) go h k = k a w
then-packs (raises p w) go h k = h
then-packs (stops cut w) go h k = tt

raised-packs : (v : src.V) (w : World src.V) (o : Option ℕ) → packet_name v ≡ o → Packs {A = src.V} (or_fail o w (λ n. raises v w))
raised-packs v w None e = tt
raised-packs v w (Some i) e = is_packet i e

raise-packs : (v : src.V) (w : World src.V) → Packs (raise_value v w)
raise-packs v w = raised-packs v w (packet_name v) refl

giving-packs : (r : Gives) (w : World src.V) → Packs (giving untagged r w)
giving-packs (made l) w = tt
giving-packs (raised e) w = is_packet _ refl

compare-packs : (vs : List src.V) (w : World src.V) → Packs (compare_values untagged tt vs w)
compare-packs (v ∷ u ∷ []) w = fail-packs (same_at untagged tt v u) w _ (λ b. tt)
compare-packs [] w = tt
compare-packs (v ∷ []) w = tt
compare-packs (v ∷ u ∷ x ∷ vs) w = tt

assign-packs : (vs : List src.V) (w : World src.V) → Packs (assign_value untagged tt vs w)
assign-packs (r ∷ v ∷ []) w = fail-packs (address_in r) w _ (λ a. if-packs (nat_lt a (length w.store)) _ _ tt tt)
assign-packs [] w = tt
assign-packs (v ∷ []) w = tt
assign-packs (v ∷ u ∷ x ∷ vs) w = tt

print-packs : (ls : List Literal) (w : World src.V) → Packs (print_literals untagged ls w)
print-packs (string s ∷ []) w = tt
print-packs _ w = tt

perform-packs : (s : Sort) (p : BasisPrimitive) (vs : List src.V) (w : World src.V) → Packs (perform_as untagged s tt p vs w)
perform-packs compares p vs w = compare-packs vs w
perform-packs assigns p vs w = assign-packs vs w
perform-packs prints p vs w = fail-packs (literals vs) w _ (λ ls. print-packs ls w)
perform-packs computes p vs w = fail-packs (literals vs) w _ (λ ls. fail-packs (row_at untagged tt p ls) w _ (λ r. giving-packs r w))

abbrev pub CallPacks : src.Apply → Type 0
CallPacks call = (place : Place) (g v : src.V) (w : World src.V) → Packs (call place g v w)

enter-packs : (go : src.Code → src.Scope → src.V → World src.V → Answer src.V src.V) → ((c : src.Code) (env : src.Scope) (v : src.V) (w : World src.V) → Packs (go c env v w)) → CallPacks (call.enter untagged go)
enter-packs go h place (con g c) v w = turn-packs w.left place w _ (λ w'. tt)
enter-packs go h place (exn g n) v w = turn-packs w.left place w _ (λ w'. tt)
enter-packs go h place (ref g) v w = turn-packs w.left place w _ (λ w'. tt)
enter-packs go h place (primitive g p) v w = turn-packs w.left place w _ (λ w'. perform-packs (sort_of p) p (arguments v) w')
enter-packs go h place (closure c env) v w = turn-packs w.left place w _ (λ w'. h c env v w')
enter-packs go h place _ v w = tt

module _ (call : src.Apply) (calls : CallPacks call) where
  operand-packs : (b : Bool) (v : src.V) (w : World src.V) (go : Answer src.V src.V) → Packs go → Packs (src.on_operand b v w go)
  operand-packs b v w go h =
      let stop = λ (w' : World src.V). raises (packet untagged match_name) w' in
      let last = λ (w' : World src.V). after_match (against_con untagged tt (truth_number (not b)) v (matches empty)) w' (λ e w''. gives v w'') stop in
      after-packs (against_con untagged tt (truth_number b) v (matches empty)) w (λ e w'. go) last (λ e. h) (after-packs (against_con untagged tt (truth_number (not b)) v (matches empty)) w (λ e w''. gives v w'') stop (λ e. tt) (is_packet match_name refl))

  mutual
    pub eval-packs : (e : Exp) (env : src.Scope) (w : World src.V) → Packs (src.eval call e env w)
    eval-packs (constant_exp l t) env w = tt
    eval-packs (variable_exp x ts t) env w = fail-packs (src.look_up x env) w _ (λ v. tt)
    eval-packs (own_exp x t) env w = fail-packs (src.look_up x env) w _ (λ v. tt)
    eval-packs (con_exp c y ts t) env w = tt
    eval-packs (ref_exp a t) env w = tt
    eval-packs (exn_exp x t) env w = fail-packs (src.exception_in x env) w _ (λ v. tt)
    eval-packs (prim_exp p ts t) env w = tt
    eval-packs (fields_exp t fs) env w = then-packs _ _ (fields-packs fs env w) (λ vs w'. tt)
    eval-packs (let_exp t ds e) env w = then-packs _ _ (decs-packs ds env w) (λ env' w'. eval-packs e env' w')
    eval-packs (app_exp place t f a) env w = then-packs _ _ (eval-packs f env w) (λ g w'. then-packs _ _ (eval-packs a env w') (λ v w''. calls place g v w''))
    eval-packs (case_exp place t e rs) env w = then-packs _ _ (eval-packs e env w) (λ v w'. rules-packs rs v env w' (packet untagged match_name) (is_packet match_name refl))
    eval-packs (chain_exp b t c) env w = chain-packs b c env w
    eval-packs (handle_exp t e rs) env w = handle-packs _ _ (eval-packs e env w) (λ k w' h. rules-packs rs k env w' k h)
    eval-packs (raise_exp t e) env w = then-packs _ _ (eval-packs e env w) (λ v w'. raise-packs v w')
    eval-packs (fn_exp t f) env w = tt
    eval-packs (counted_exp n t e) env w = eval-packs e env w

    fields-packs : (fs : Fields) (env : src.Scope) (w : World src.V) → Packs (src.eval_fields call fs env w)
    fields-packs no_fields env w = tt
    fields-packs (a_field l e fs) env w = then-packs _ _ (eval-packs e env w) (λ v w'. then-packs _ _ (fields-packs fs env w') (λ vs w''. tt))

    chain-packs : (b : Bool) (c : Chain) (env : src.Scope) (w : World src.V) → Packs (src.eval_chain call b c env w)
    chain-packs b (only e) env w = eval-packs e env w
    chain-packs b (link e c) env w = then-packs _ _ (eval-packs e env w) (λ v w'. operand-packs b v w' _ (chain-packs b c env w'))

    rules-packs : (rs : Rules) (v : src.V) (env : src.Scope) (w : World src.V) (k : src.V) → IsPacket k → Packs (src.eval_rules call rs v env w k)
    rules-packs no_rules v env w k h = h
    rules-packs (a_rule p e rs) v env w k h = after-packs (src.match_pat w.store env p v env) w _ _ (λ env'. eval-packs e env' w) (rules-packs rs v env w k h)

    decs-packs : (ds : Decs) (env : src.Scope) (w : World src.V) → Packs (src.eval_decs call ds env w)
    decs-packs no_decs env w = tt
    decs-packs (val_dec qs bs fs ds) env w = then-packs _ _ (binds-packs bs env (src.members fs env) w) (λ env' w'. decs-packs ds env' w')
    decs-packs (exception_dec x i t ds) env w = decs-packs ds _ _
    decs-packs (counted_dec n ds) env w = decs-packs ds env w

    binds-packs : (bs : Binds) (env bound : src.Scope) (w : World src.V) → Packs (src.eval_binds call bs env bound w)
    binds-packs no_binds env bound w = tt
    binds-packs (a_bind place b p t e bs) env bound w =
        then-packs _ _ (eval-packs e env w) (λ v w'. after-packs (src.match_pat w'.store env p v bound) w' _ _ (λ bound'. binds-packs bs env bound' w') (is_packet bind_name refl))

  fun-packs : (f : Fun) (env : src.Scope) (v : src.V) (w : World src.V) → Packs (src.run_fun call f env v w)
  fun-packs (last x t e) env v w = eval-packs e _ w
  fun-packs (by_rules place t u rs) env v w = rules-packs rs v env w _ (is_packet match_name refl)
  fun-packs (more x t f) env v w = tt

body-packs : (go : Fun → src.Scope → src.V → World src.V → Answer src.V src.V) → ((f : Fun) (env : src.Scope) (v : src.V) (w : World src.V) → Packs (go f env v w)) → (c : src.Code) (env : src.Scope) (v : src.V) (w : World src.V) → Packs (src.body go c env v w)
body-packs go h (src.alone f) env v w = h f env v w
body-packs go h (src.one_of f fs) env v w = h f _ v w

pub apply-packs : (k : ℕ) → CallPacks (src.apply k)
apply-packs zero = enter-packs _ (body-packs _ (λ f env v w. tt))
apply-packs (suc k) = enter-packs _ (body-packs _ (fun-packs (src.apply k) (apply-packs k)))
