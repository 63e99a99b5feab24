-- What is claimed of what is put for each construct, whatever was put before.
use Rattle.std.specs.Prelude.{◌≡◌, ℕ, Bool, false, List, [], ◌∷◌}
use Rattle.ty_core.specs.Types.{Typ}
use Rattle.ty_core.specs.Statics.{replace}
use Rattle.ir_plain.specs.Tree.{Case, Exp, ret, switch, first, miss, Arms, no_arms, arm, fn, block, handle, Fun, last, more, Funs, no_funs, fun}
use Rattle.ir_poly.specs.Tests.{Use, poly}
use Rattle.plain_tree.specs.TreeOf.{StepTree, onto}
use Rattle.mono_strip.specs.of_monomorphise.Monomorphise.{Groups, atom, alone}
use Rattle.mono_scopes.specs.Scopes.{variable}
use Rattle.mono_words.specs.Words.{ret_sign, miss_sign, first_sign, switch_sign, fn_sign, parameter_sign, last_sign, block_sign, handle_sign, packet_sign, end_sign}
use Rattle.mono_words.specs.Seen.{Seen, with_sign, with_needs, within, out}
use Rattle.mono_words.specs.Made.{exp_made, arms_made, op_made, fun_made, bodies_made, case_entered, arm_left, all_bare, entered_all, left_all}

-- Steps are entered from the first to the last, what follows is put, and they are left from the last to the first: this puts them with what follows.
abbrev pub StepsAreMade : Type 0
StepsAreMade = (g : Groups) (s : ℕ → Typ) (bare : Bool) (ss : List (StepTree poly)) (e : Exp poly) (n : Seen)
    → left_all bare g s ss (exp_made (all_bare bare ss) g s e (entered_all bare g s ss n)) ≡ exp_made bare g s (onto ss e) n

-- what ends an expression
pub record EndsAreMade : Type 0 where
  pub atom_ : (g : Groups) (s : ℕ → Typ) (bare : Bool) (u : Use) (n : Seen) → with_sign (ret_sign (atom u)) (with_needs (atom u ∷ []) n) ≡ exp_made bare g s (ret u) n
  pub missed : (g : Groups) (s : ℕ → Typ) (bare : Bool) (n : Seen) → with_sign miss_sign n ≡ exp_made bare g s miss n
  pub attempt : (g : Groups) (s : ℕ → Typ) (bare : Bool) (e d : Exp poly) (n : Seen) → with_sign first_sign (exp_made bare g s e (exp_made bare g s d n)) ≡ exp_made bare g s (first e d) n
  pub switched : (g : Groups) (s : ℕ → Typ) (bare : Bool) (u : Use) (t : Typ) (arms : Arms poly) (n : Seen)
      → with_sign (switch_sign (atom u) (replace s t)) (with_needs (atom u ∷ []) (arms_made bare g s arms n)) ≡ exp_made bare g s (switch u t arms) n

pub record ArmsAreMade : Type 0 where
  pub none : (g : Groups) (s : ℕ → Typ) (bare : Bool) (n : Seen) → with_sign end_sign n ≡ arms_made bare g s no_arms n
  pub one : (g : Groups) (s : ℕ → Typ) (bare : Bool) (c : Case poly) (e : Exp poly) (arms : Arms poly) (n : Seen)
      → arm_left s c (exp_made bare g s e (case_entered c (arms_made bare g s arms n))) ≡ arms_made bare g s (arm c e arms) n

pub record FunctionsAreMade : Type 0 where
  pub last_ : (g : Groups) (s : ℕ → Typ) (x : ℕ) (t : Typ) (e : Exp poly) (n : Seen)
      → with_sign (last_sign (alone x) (replace s t)) (out (exp_made false g s e (within (variable x) n))) ≡ fun_made g s (last x t e) n
  pub further : (g : Groups) (s : ℕ → Typ) (x : ℕ) (t : Typ) (f : Fun poly) (n : Seen)
      → with_sign (parameter_sign (alone x) (replace s t)) (out (fun_made g s f (within (variable x) n))) ≡ fun_made g s (more x t f) n
  pub none : (g : Groups) (s : ℕ → Typ) (a : List Typ) (n : Seen) → n ≡ bodies_made a g s no_funs n
  pub one : (g : Groups) (s : ℕ → Typ) (a : List Typ) (x : ℕ) (t : Typ) (f : Fun poly) (fs : Funs poly) (n : Seen)
      → fun_made g s f (bodies_made a g s fs n) ≡ bodies_made a g s (fun x t f fs) n

-- operations that hold expressions
pub record OperationsAreMade : Type 0 where
  pub function : (g : Groups) (s : ℕ → Typ) (bare : Bool) (f : Fun poly) (n : Seen) → with_sign fn_sign (fun_made g s f n) ≡ op_made bare g s (fn f) n
  pub block_ : (g : Groups) (s : ℕ → Typ) (bare : Bool) (e : Exp poly) (n : Seen) → with_sign block_sign (exp_made bare g s e n) ≡ op_made bare g s (block e) n
  pub handler : (g : Groups) (s : ℕ → Typ) (bare : Bool) (e d : Exp poly) (x : ℕ) (n : Seen)
      → with_sign handle_sign (exp_made false g s e (with_sign (packet_sign (alone x)) (out (exp_made false g s d (within (variable x) n))))) ≡ op_made bare g s (handle e x d) n
