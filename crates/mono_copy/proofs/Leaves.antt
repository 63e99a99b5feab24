-- What is put where no expression is copied.
use Rattle.std.proofs.Common.{◌≡◌, ◌<◌, ◌+◌, ℕ, Bool, List, [], ◌∷◌, Option, Some, sym, ap, ◌∙◌}
use Rattle.std.specs.Option.{option_map}
use Rattle.mlc_runs.specs.Passes.{greatest_expansion}
use Rattle.ty_core.specs.Types.{Typ}
use Rattle.ty_core.specs.Statics.{replace}
use Rattle.ty_table.specs.TypeAt.{type_at}
use Rattle.ir_poly.specs.Tests.{inst, poly}
use Rattle.ir_tables.specs.Tables.{strings_of, parameters_of, parameters_at}
use Rattle.ir_tables.specs.declared.tables.Tables.{Tables}
use Rattle.plain_tree.specs.TreeOf as tree
use Rattle.plain_tree.specs.TreeOf.{StepTree, exception_step, name_step, rec_step, test_step, counted_step}
use Rattle.plain_tree.specs.declared.tree.Binding.{Binding}
use Rattle.plain_tree.specs.declared.tree.Case.{Case}
use Rattle.plain_tree.specs.declared.tree.Exception.{Exception}
use Rattle.plain_tree.specs.declared.tree.Function.{Function}
use Rattle.plain_tree.specs.declared.tree.Step.{Step}
use Rattle.mono_parts.specs.of_tests_check.Reads.{reading}
use Rattle.monomorphise.specs.Monomorphise.{copy_of, units, fun_vars, copy_case, case_needs, copy_name, name_needs, copy_argument}
use Rattle.mono_close.specs.Closing.{standing}
use Rattle.mono_scopes.specs.Scopes.{variable, binding}
use Rattle.mono_words.specs.Words.{arm_sign, switch_sign, exception_sign, name_sign, ret_sign, packet_sign}
use Rattle.mono_words.specs.Seen.{Seen, with_sign, with_needs, within, out}
use Rattle.mono_words.specs.Made.{arm_left, case_entered}
use Rattle.mono_words.proofs.Making.{ret-made}
use Rattle.mono_parts.specs.of_mono_state.Seen.{Held, held_of, Later, name_in, groups_in, seen, sign_of}
use Rattle.mono_parts.specs.of_mono_state.Going.{Goes}
use Rattle.mono_parts.specs.of_mono_state.declared.copier.Copier.{Copier}
use Rattle.mono_parts.specs.of_mono_state.declared.word.Word.TheVariants as word
use Rattle.mono_parts.proofs.of_mono_state.Growing.{sooner}
use Rattle.mono_parts.proofs.of_mono_state.Going.{goes-then}
use Rattle.mono_parts.specs.Arms.{bound_in, entered, left}
use Rattle.mono_parts.specs.Steps.{functions_in}
use Rattle.mono_copy.specs.Puts.{Change, Puts, Passes}
use Rattle.mono_copy.specs.Changes.{step_in, ret_put, packet_put, counted_left, step_opened, opened, plainly_left, plain_left, bound_at, binding_in}
use Rattle.mono_copy.proofs.Changing.{puts-as}
use Rattle.mono_copy.proofs.Walking.{case-is-entered, case-is-left, binding-opened}

-- an arm
abbrev pub arm_closed : Tables → Case → Change
arm_closed t c H g s n = arm_left s (tree.case_of (reading t) c) n

abbrev pub arm_opened : Tables → Case → Change
arm_opened t c H g s n = case_entered (tree.case_of (reading t) c) n

abbrev pub switch_put : Tables → ℕ → ℕ → Change
switch_put t x u H g s n = with_sign (switch_sign (copy_of x []) (replace s (type_at t.types u))) (with_needs (copy_of x [] ∷ []) n)

module _ {t : Tables} where
  pub ret-puts : {old mid new : Copier} (x k : ℕ) → ((sources : List Typ) → Goes sources old mid)
      → ((ss : List (List ℕ)) (H : Held) → Later (held_of mid) H → seen ss H mid ≡ with_needs (copy_of x [] ∷ []) (seen ss H old))
      → ((H : Held) → Later (held_of mid) H → name_in H k ≡ copy_of x [])
      → ((sources : List Typ) → Goes sources mid new) → ((ss : List (List ℕ)) (H : Held) → seen ss H new ≡ with_sign (sign_of ss H (word.Ret k)) (seen ss H mid))
      → (bare : Bool) → Puts t (ret_put bare x) old new
  ret-puts {old = old} {mid = mid} {new = new} x k g noted is h put bare = record {
    goes = goes-then t.types old mid new (g t.types) (h t.types);
    sees = λ H l.
        let m = sooner (h []).longer l in
        let ss = strings_of t in
        put ss H ∙ (λ i. with_sign (ret_sign (is H m i)) (noted ss H m i)) ∙ ret-made (groups_in H old.own) (standing H.types old.slots) bare (inst x []) (seen ss H old);
  }

  pub packet-puts : {old mid named new : Copier} (x k : ℕ) → ((sources : List Typ) → Goes sources old mid) → ((ss : List (List ℕ)) (H : Held) → seen ss H mid ≡ out (seen ss H old))
      → ((sources : List Typ) → Goes sources mid named) → ((ss : List (List ℕ)) (H : Held) → seen ss H named ≡ seen ss H mid)
      → ((H : Held) → Later (held_of named) H → name_in H k ≡ copy_of x [])
      → ((sources : List Typ) → Goes sources named new) → ((ss : List (List ℕ)) (H : Held) → seen ss H new ≡ with_sign (sign_of ss H (word.Packet k)) (seen ss H named))
      → Puts t (packet_put x) old new
  packet-puts {old = old} {mid = mid} {named = named} {new = new} x k g leaves n stays is h put = record {
    goes = goes-then t.types old mid new (g t.types) (goes-then t.types mid named new (n t.types) (h t.types));
    sees = λ H l.
        let m = sooner (h []).longer l in
        let ss = strings_of t in
        put ss H ∙ (λ i. with_sign (packet_sign (is H m i)) ((stays ss H ∙ leaves ss H) i));
  }

  pub arm-puts : {old new : Copier} (c : Case) → Goes t.types old new
      → ((H : Held) → Later (held_of new) H → seen (strings_of t) H new
      ≡ with_sign (arm_sign (copy_case (standing H.types old.slots) (tree.case_of (reading t) c))) (with_needs (case_needs (tree.case_of (reading t) c)) (left (bound_in c) (seen (strings_of t) H old))))
      → Puts t (arm_closed t c) old new
  arm-puts {old = old} c g p = record {
    goes = g;
    sees = λ H l. p H l ∙ ap (λ z. with_sign (arm_sign (copy_case (standing H.types old.slots) (tree.case_of (reading t) c))) (with_needs (case_needs (tree.case_of (reading t) c)) z)) (case-is-left t c (seen (strings_of t) H old));
  }

  pub arm-opens : {old new : Copier} (c : Case) → ((sources : List Typ) → Goes sources old new) → ((ss : List (List ℕ)) (H : Held) → seen ss H new ≡ entered (bound_in c) (seen ss H old)) → Puts t (arm_opened t c) old new
  arm-opens {old = old} c g p = record { goes = g t.types; sees = λ H l. p (strings_of t) H ∙ case-is-entered t c (seen (strings_of t) H old) }

  pub switch-puts : {old new : Copier} (x u : ℕ) → Goes t.types old new
      → ((ss : List (List ℕ)) (H : Held) → Later (held_of new) H → seen ss H new
      ≡ with_sign (switch_sign (copy_of x []) (replace (standing H.types old.slots) (type_at t.types u))) (with_needs (copy_of x [] ∷ []) (seen ss H old)))
      → Puts t (switch_put t x u) old new
  switch-puts x u g p = record { goes = g; sees = λ H l. p (strings_of t) H l }

  -- a change that neither groups nor types matter to
  pub plain-puts : {old new : Copier} (f : Seen → Seen) → ((sources : List Typ) → Goes sources old new) → ((ss : List (List ℕ)) (H : Held) → seen ss H new ≡ f (seen ss H old)) → Puts t (λ H g s n. f n) old new
  plain-puts f g p = record { goes = g t.types; sees = λ H l. p (strings_of t) H }

  pub later-puts : {old new : Copier} (f : Seen → Seen) → ((sources : List Typ) → Goes sources old new) → ((ss : List (List ℕ)) (H : Held) → Later (held_of new) H → seen ss H new ≡ f (seen ss H old)) → Puts t (λ H g s n. f n) old new
  later-puts f g p = record { goes = g t.types; sees = λ H l. p (strings_of t) H l }

  pub types-puts : {old new : Copier} (f : (ℕ → Typ) → Seen → Seen) → Goes t.types old new
      → ((ss : List (List ℕ)) (H : Held) → Later (held_of new) H → seen ss H new ≡ f (standing H.types old.slots) (seen ss H old)) → Puts t (λ H g s n. f s n) old new
  types-puts f g p = record { goes = g; sees = λ H l. p (strings_of t) H l }

  -- nodes past the limit
  pub counted-passes : (old : Copier) (k : ℕ) → Later (held_of old) (held_of old) → greatest_expansion < old.nodes + k → Passes t (counted_left k) old
  counted-passes old k l p = record { tables = held_of old; later = l; past = p }

  -- what a step opens
  pub opens-variable : {old new : Copier} (st : Step) (x : ℕ) → ((n : Seen) → opened (step_in t st) n ≡ within (variable x) n) → ((sources : List Typ) → Goes sources old new)
      → ((ss : List (List ℕ)) (H : Held) → seen ss H new ≡ within (variable x) (seen ss H old)) → Puts t (step_opened t st) old new
  opens-variable st x e g p = puts-as (step_opened t st) (λ H g s n. sym (e n)) (plain-puts (within (variable x)) g p)

  pub opens-binding : {old new : Copier} (st : Step) (b : Binding) → Some (binding_in t b) ≡ bound_at (step_in t st) → ((sources : List Typ) → Goes sources old new)
      → ((ss : List (List ℕ)) (H : Held) → Later (held_of new) H → seen ss H new ≡ within (binding (b.variable ∷ []) (units (parameters_at (parameters_of t) b.parameters)) []) (seen ss H old))
      → Puts t (step_opened t st) old new
  opens-binding st b e g p =
      puts-as (step_opened t st) (λ H g s n. binding-opened t b st n e) (later-puts (within (binding (b.variable ∷ []) (units (parameters_at (parameters_of t) b.parameters)) [])) g p)

  pub opens-group : {old new : Copier} (st : Step) (p : ℕ) (fs : List Function) → step_in t st ≡ rec_step ((reading t).parameters p) (functions_in t fs) → ((sources : List Typ) → Goes sources old new)
      → ((ss : List (List ℕ)) (H : Held) → Later (held_of new) H → seen ss H new ≡ within (binding (fun_vars (functions_in t fs)) (units (parameters_at (parameters_of t) p)) []) (seen ss H old))
      → Puts t (step_opened t st) old new
  opens-group st p fs e g put =
      puts-as (step_opened t st) (λ H g s n. ap (λ (z : StepTree poly). opened z n) (sym e)) (later-puts (within (binding (fun_vars (functions_in t fs)) (units (parameters_at (parameters_of t) p)) [])) g put)

  -- exceptions and names are left
  pub exception-left : {old new : Copier} (st : Step) (x i : ℕ) (a : Option ℕ) → step_in t st ≡ exception_step x i (option_map (type_at t.types) a) → Goes t.types old new
      → ((ss : List (List ℕ)) (H : Held) → Later (held_of new) H → seen ss H new
      ≡ with_sign (exception_sign (copy_of x []) i (copy_argument (standing H.types old.slots) (option_map (type_at t.types) a))) (out (seen ss H old)))
      → Puts t (plainly_left t st) old new
  exception-left {old = old} st x i a e g p = record {
    goes = g;
    sees = λ H l. p (strings_of t) H l ∙ ap (λ (z : StepTree poly). plain_left (groups_in H old.own) (standing H.types old.slots) z (seen (strings_of t) H old)) (sym e);
  }

  pub name-left : {old new : Copier} (st : Step) (x : ℕ) (y : Exception) → step_in t st ≡ name_step x (tree.exception_of (reading t) y) → ((sources : List Typ) → Goes sources old new)
      → ((t : Tables) (ss : List (List ℕ)) (H : Held) → Later (held_of new) H → seen ss H new
      ≡ with_sign (name_sign (copy_of x []) (copy_name (tree.exception_of (reading t) y))) (with_needs (name_needs (tree.exception_of (reading t) y)) (out (seen ss H old))))
      → Puts t (plainly_left t st) old new
  name-left {old = old} st x y e g p = record {
    goes = g t.types;
    sees = λ H l. p t (strings_of t) H l ∙ ap (λ (z : StepTree poly). plain_left (groups_in H old.own) (standing H.types old.slots) z (seen (strings_of t) H old)) (sym e);
  }
